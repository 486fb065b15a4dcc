-- The rules that fit a term are among those of its form.
use Rattle.std.proofs.Common.{◌≡◌, ℕ, zero, suc, ◌<◌, ◌≤◌, [], ◌∷◌, sym, subst, arith}
use Rattle.kl_core.specs.Trees.{Tree}
use Rattle.kl_rules.specs.Rules.{RewriteRule, row_of, DeadLet, CopyPropagation, InlinedOnce, ScalarReplacement, LetOfLet, KnownField, KnownVariant, KnownCondition, NestedCondition, ConditionOrder}
use Rattle.kl_rewrite.specs.RuleForms.{first_rule, behind_rules}

abbrev pub Among : ℕ → Tree → Type 0
Among i t = (first_rule t ≤ i) × (i < behind_rules t)

among : (i : ℕ) (t x : Tree) → t ≡ x → first_rule x ≤ i → i < behind_rules x → Among i t
among i t x e l h = subst (Among i) (sym e) (l, h)

pub rule_among : (i : ℕ) (t u : Tree) → RewriteRule i t u → Among i t
rule_among zero t u r = absurd r
rule_among (suc zero) t u r = among 1 t _ r.5 (omega arith) (omega arith)
rule_among (suc (suc zero)) t u r = among 2 t _ r.4 (omega arith) (omega arith)
rule_among (suc (suc (suc zero))) t u r = among 3 t _ r.5 (omega arith) (omega arith)
rule_among (suc (suc (suc (suc zero)))) t u r = among 4 t _ r.3 (omega arith) (omega arith)
rule_among (suc (suc (suc (suc (suc zero))))) t u r = among 5 t _ r.4 (omega arith) (omega arith)
rule_among (suc (suc (suc (suc (suc (suc zero)))))) t u r = among 6 t _ r.5 (omega arith) (omega arith)
rule_among (suc (suc (suc (suc (suc (suc (suc zero))))))) t u r = among 7 t _ r.4 (omega arith) (omega arith)
rule_among (suc (suc (suc (suc (suc (suc (suc (suc i)))))))) t u r = later i r
  where
    last : (i : ℕ) → row_of (KnownField ∷ KnownVariant ∷ KnownCondition ∷ NestedCondition ∷ ConditionOrder ∷ []) i t u → Among (suc (suc (suc (suc (suc (suc (suc (suc (suc (suc (suc (suc (suc i))))))))))))) t
    last zero r = among 13 t _ r.2 (omega arith) (omega arith)
    last (suc zero) r = among 14 t _ r.4 (omega arith) (omega arith)
    last (suc (suc zero)) r = among 15 t _ r.3 (omega arith) (omega arith)
    last (suc (suc (suc zero))) r = among 16 t _ r.4 (omega arith) (omega arith)
    last (suc (suc (suc (suc zero)))) r = among 17 t _ r.4 (omega arith) (omega arith)
    last (suc (suc (suc (suc (suc i))))) r = absurd r

    later : (i : ℕ) → row_of (DeadLet ∷ CopyPropagation ∷ InlinedOnce ∷ ScalarReplacement ∷ LetOfLet ∷ KnownField ∷ KnownVariant ∷ KnownCondition ∷ NestedCondition ∷ ConditionOrder ∷ []) i t u → Among (suc (suc (suc (suc (suc (suc (suc (suc i)))))))) t
    later zero r = among 8 t _ r.2 (omega arith) (omega arith)
    later (suc zero) r = among 9 t _ r.2 (omega arith) (omega arith)
    later (suc (suc zero)) r = among 10 t _ r.2 (omega arith) (omega arith)
    later (suc (suc (suc zero))) r = among 11 t _ r.2 (omega arith) (omega arith)
    later (suc (suc (suc (suc zero)))) r = among 12 t _ r.3 (omega arith) (omega arith)
    later (suc (suc (suc (suc (suc i))))) r = last i r
