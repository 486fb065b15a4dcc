-- The scope of a translation beside the one in which a program is checked.
use Rattle.std.proofs.Common.{◌≡◌, ℕ, suc, Bool, true, false, cond, List, [], ◌∷◌, ◌++◌, length, Option, Some, None, refl, sym, ap, subst, bytes_eq, if◌then◌else◌}
use Rattle.std.specs.Option.{option_map, option_or}
use Rattle.std.proofs.lemmas.Slice.Eq.{bytes_eq-Decides}
use Rattle.kl_outcome.specs.Outcome.{Name}
use Rattle.kl_syntax.specs.declared.tree.Tail.{Tail}
use Rattle.kl_syntax.specs.declared.tree.Tail.TheVariants as tail
use Rattle.kl_syntax.specs.declared.tree.Word.{Word}
use Rattle.kl_syntax.specs.Syntax.{Pat, catch, any, same, is, shape, variant, Pats, no_pats, pats, Quals, no_quals, draw, test}
use Rattle.kl_scope.specs.declared.names.Sense.{Sense}
use Rattle.kl_scope.specs.Findings.{behind}
use Rattle.kl_scope.specs.Patterns.{rest_variable, variables, variables_all, within}
use Rattle.kl_scope.specs.Resolved.{meant, resolved_pat, resolved_pats, resolved_quals}
use Rattle.kl_scope.specs.Senses.{Scope as Seen, place_in, definition_in, source_in, bound, all_bound}
use Rattle.kl_meaning.specs.Match.{same_name}
use Rattle.kl_desugar.specs.Translation.{Scope, level_of}
use Rattle.kl_desugar.specs.Layers.{after_tail, after_pat, after_pats, after_quals}

pub text_is : (o : Option Sense) (w : Word) → (meant o w).text ≡ w.text
text_is (Some q) w = refl
text_is None w = refl

both_true : (a b : Bool) → (a ≡ true → b ≡ true) → (b ≡ true → a ≡ true) → a ≡ b
both_true true b f g = sym (f refl)
both_true false true f g = g refl
both_true false false f g = refl

pub turned : (x y : Name) → bytes_eq y x ≡ same_name x y
turned x y = both_true _ _ (λ h. (bytes_eq-Decides x y).1 (sym ((bytes_eq-Decides y x).0 h))) (λ h. (bytes_eq-Decides y x).1 (sym ((bytes_eq-Decides x y).0 h)))

-- what a name that is no variable stands for
abbrev pub standing : List (Name × Bool) → List Name → Name → Option Sense
standing defs sources x = option_or (definition_in defs x) (source_in sources x)

-- the named positions
abbrev pub visible : Scope → List Name
visible [] = []
visible (None ∷ S) = visible S
visible (Some x ∷ S) = x ∷ visible S

abbrev pub Both : Option ℕ → Option ℕ → Type 0
Both (Some m) (Some i) = Unit {0}
Both None None = Unit {0}
Both _ _ = ⊥

pub both_more : (b : Bool) (n : ℕ) (m i : Option ℕ) → Both m i → Both (cond b (Some n) m) (if b then Some 0 else option_map suc i)
both_more true n m i h = tt
both_more false n (Some m) (Some i) h = tt
both_more false n None None h = tt
both_more false n (Some m) None h = absurd h
both_more false n None (Some i) h = absurd h

level_seen : (x : Name) (S : Scope) → Both (level_of x S) (place_in (visible S) x)
level_seen x [] = tt
level_seen x (None ∷ S) = level_seen x S
level_seen x (Some y ∷ S) = rw (turned x y) (both_more (same_name x y) (length S) (level_of x S) (place_in (visible S) x) (level_seen x S))

all_bound_both : (s : Seen) (vs ws : List Word) → all_bound s (vs ++ ws) ≡ all_bound (all_bound s vs) ws
all_bound_both s [] ws = refl
all_bound_both s (v ∷ vs) ws = all_bound_both (bound s v.text) vs ws

module _ (defs : List (Name × Bool)) (sources : List Name) where
  -- the two scopes are one
  abbrev pub Matches : Scope → Seen → Type 0
  Matches S s = (visible S ≡ s.variables) × (s.definitions ≡ defs) × (s.sources ≡ sources)

  rest_matches : (end : Tail) (R : Scope) (s : Seen) → Matches R s → Matches (after_tail end R) (all_bound s (rest_variable end))
  rest_matches (tail.Rest w) R s m = (ap (λ xs. w.text ∷ xs) m.0, m.1, m.2)
  rest_matches tail.Exact R s m = m
  rest_matches tail.Open R s m = m

  -- also behind patterns whose names carry their meanings
  mutual
    pattern_matches : (p : Pat) (o : Seen) (R : Scope) (s : Seen) → Matches R s → Matches (after_pat (resolved_pat p o) R) (within p s)
    pattern_matches (catch w) o R s m = (ap (λ xs. w.text ∷ xs) m.0, m.1, m.2)
    pattern_matches any o R s m = m
    pattern_matches (same w) o R s m = m
    pattern_matches (is v n) o R s m = m
    pattern_matches (shape ps end) o R s m =
        subst (Matches (after_tail end (after_pats (resolved_pats ps o) R))) (sym (all_bound_both s (variables_all ps) (rest_variable end)))
        (rest_matches end (after_pats (resolved_pats ps o) R) (all_bound s (variables_all ps)) (patterns_match ps o R s m))
    pattern_matches (variant l p) o R s m = pattern_matches p o (None ∷ R) s m

    patterns_match : (ps : Pats) (o : Seen) (R : Scope) (s : Seen) → Matches R s → Matches (after_pats (resolved_pats ps o) R) (all_bound s (variables_all ps))
    patterns_match no_pats o R s m = m
    patterns_match (pats l p ps) o R s m =
        subst (Matches (after_pats (resolved_pats ps o) (after_pat (resolved_pat p o) R))) (sym (all_bound_both s (variables p) (variables_all ps)))
        (patterns_match ps o (after_pat (resolved_pat p o) R) (within p s) (pattern_matches p o R s m))

  pub here_matches : (p : Pat) (S : Scope) (s : Seen) → Matches S s → Matches (after_pat (resolved_pat p s) (None ∷ S)) (within p s)
  here_matches p S s m = pattern_matches p s (None ∷ S) s m

  pub quals_match : (qs : Quals) (R : Scope) (s : Seen) → Matches R s → Matches (after_quals (resolved_quals qs s) R) (behind qs s)
  quals_match no_quals R s m = m
  quals_match (draw p e qs) R s m = quals_match qs (after_pat (resolved_pat p s) (None ∷ R)) (within p s) (here_matches p R s m)
  quals_match (test c qs) R s m = quals_match qs R s m

  pub seen : (S : Scope) (s : Seen) (x : Name) → Matches S s → Both (level_of x S) (place_in s.variables x)
  seen S s x m = subst (λ ys. Both (level_of x S) (place_in ys x)) m.0 (level_seen x S)
