-- Names behind references, and those of patterns.
use Rattle.std.proofs.Common.{◌≡◌, ℕ, ◌+◌, ◌<◌, ◌||◌, List, [], ◌∷◌, ◌++◌, drop, length, get_or, Result, Ok, Err, IfOk, refl, sym, ap, ◌∙◌, append_assoc}
use Rattle.std.specs.Borrow.{Bor}
use Rattle.std.specs.List.{list_any}
use Rattle.kl_base.proofs.Places.{drop_at}
use Rattle.kl_outcome.specs.Outcome.{Name}
use Rattle.kl_syntax.specs.declared.tree.Pattern.{Pattern}
use Rattle.kl_syntax.specs.declared.tree.Pattern.TheVariants as code
use Rattle.kl_syntax.specs.declared.tree.Tail.{Tail}
use Rattle.kl_syntax.specs.declared.tree.Word.{Word}
use Rattle.kl_syntax.specs.Syntax.{Pat, shape}
use Rattle.kl_syntax.specs.View.{pattern_view, patterns_view}
use Rattle.kl_syntax.proofs.Views.{pattern_Rec}
use Rattle.kl_scope.specs.Patterns.{rest_variable, variables, variables_all}
use Rattle.kl_scope.proofs.ArmLemmas.{variables_rec}
use Rattle.kl_meaning.specs.Match.{same_name}
use Rattle.kl_ho.specs.Expansion.{texts}
use Rattle.kl_ho.specs.HoPrograms.{is_among}
use Rattle.kl_ho.specs.Shapes.{names_after, names_after_all, rest_after}
use Rattle.kl_functions.specs.Occurrences.{names_of}

pub any_named : (x : Name) (ws : List (Bor Name)) → list_any (λ w. same_name x w.now) ws ≡ is_among x (names_of ws)
any_named x [] = refl
any_named x (w ∷ ws) = ap (λ b. same_name x w.now || b) (any_named x ws)

texts_both : (xs ys : List Word) → texts (xs ++ ys) ≡ texts xs ++ texts ys
texts_both [] ys = refl
texts_both (x ∷ xs) ys = ap (λ zs. x.text ∷ zs) (texts_both xs ys)

pub record_texts : {X : Type 0} (r : Result (Unit {0}) X) (p : Pattern) (ps zs : List (Word × Pattern)) (end : Tail) (old now new : List Name) → p ≡ code.Rec ps end → zs ≡ ps
    → now ≡ old ++ texts (variables_all (patterns_view zs)) → IfOk r (λ _. new ≡ now ++ texts (rest_variable end)) → IfOk r (λ _. new ≡ old ++ texts (variables (pattern_view p)))
record_texts (Ok x) p ps zs end old now new i j h k =
    k ∙ ap (λ ws. ws ++ texts (rest_variable end)) h ∙ append_assoc old (texts (variables_all (patterns_view zs))) (texts (rest_variable end))
    ∙ ap (λ ws. old ++ ws) (sym (texts_both (variables_all (patterns_view zs)) (rest_variable end)) ∙ ap texts (variables_rec p ps zs end i j))
record_texts (Err x) p ps zs end old now new i j h k = tt

pub next_texts : (fs : List (Word × Pattern)) (i : ℕ) (f : Word × Pattern) (now new all : List Name) → i < length fs → f ≡ get_or fs i f → now ++ texts (variables_all (patterns_view (drop i fs))) ≡ all
    → new ≡ now ++ texts (variables (pattern_view f.1)) → new ++ texts (variables_all (patterns_view (drop (i + 1) fs))) ≡ all
next_texts fs i f now new all lt at h k =
    ap (λ z. z ++ texts (variables_all (patterns_view (drop (i + 1) fs)))) k ∙ append_assoc now (texts (variables (pattern_view f.1))) (texts (variables_all (patterns_view (drop (i + 1) fs))))
    ∙ ap (λ z. now ++ z) (sym (texts_both (variables (pattern_view f.1)) (variables_all (patterns_view (drop (i + 1) fs)))) ∙ ap (λ z. texts (variables_all (patterns_view z))) (sym (drop_at fs i f lt at))) ∙ h

pub record_entered : {X : Type 0} (r : Result (Unit {0}) X) (p : Pattern) (ps zs : List (Word × Pattern)) (end : Tail) (old now new : List Name) → p ≡ code.Rec ps end → zs ≡ ps → now ≡ names_after_all (patterns_view zs) old
    → IfOk r (λ _. new ≡ rest_after end now) → IfOk r (λ _. new ≡ names_after (pattern_view p) old)
record_entered (Ok x) p ps zs end old now new i j h k = k ∙ ap (λ ns. rest_after end ns) h ∙ rw (j, i, pattern_Rec) refl
record_entered (Err x) p ps zs end old now new i j h k = tt

-- of a record pattern
pub record_names : {V X : Type 0} (names : V → List Name) (f : Pat → List Name) (r : Result V X) (p : Pattern) (ps zs : List (Word × Pattern)) (end : Tail) → p ≡ code.Rec ps end → zs ≡ ps → IfOk r (λ v. names v ≡ f (shape (patterns_view zs) end))
    → IfOk r (λ v. names v ≡ f (pattern_view p))
record_names names f (Ok v) p ps zs end i j h = h ∙ ap (λ z. f (shape (patterns_view z) end)) j ∙ sym (ap f (ap pattern_view i ∙ pattern_Rec ps end))
record_names names f (Err x) p ps zs end i j h = tt
