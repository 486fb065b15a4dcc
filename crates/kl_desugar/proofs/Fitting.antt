-- The term of a pattern has the type of what goes on behind it.
use Rattle.std.proofs.Common.{IsSome, IsTrue, ◌≡◌, ◌⊎◌, inl, inr, ℕ, Bool, true, false, cond, nat_eq, List, [], ◌∷◌, ◌++◌, length, Option, Some, None, refl, sym, ap, subst, ◌∙◌}
use Rattle.std.specs.List.{AllByRecursion}
use Rattle.kl_base.specs.Fields.{field}
use Rattle.kl_prim.specs.Table.{row_at, rows}
use Rattle.kl_type.specs.Ground.{Ground, Row, bool, rec, var, at, IsGround}
use Rattle.kl_outcome.specs.Outcome.{Name}
use Rattle.kl_outcome.specs.Typed.{PrimTypes}
use Rattle.kl_outcome.proofs.Grounds.{at_ground}
use Rattle.kl_syntax.specs.declared.tree.Tail.{Tail}
use Rattle.kl_syntax.specs.declared.tree.Tail.TheVariants as tail
use Rattle.kl_syntax.specs.Syntax.{Pat, catch, any, same, is, shape, variant, Pats, no_pats, pats}
use Rattle.kl_meaning.specs.Match.{has_label}
use Rattle.kl_meaning.specs.Tidy.{IsSurePattern, AreSurePatterns, IsTidyPattern, AreTidyPatterns}
use Rattle.kl_meaning.specs.Typing.{Context, AreGround, Sort, nothing, value_of, function_of, primitive, KnownTypes, ValueTypes, VariableOr, NameTypes, BindsRest, Takes, TakesFields}
use Rattle.kl_core.specs.Trees.{Tree, Const}
use Rattle.kl_core.specs.Typing.{SourceTypes, CoreTypes, AllTypes}
use Rattle.kl_core.proofs.Proper.{types_proper}
use Rattle.kl_desugar.specs.Translation.{Scope, level_of, Place, here, inside, place_tree, Code, value_by, function_by, primitive_by, Codes, code_tree, level_tree, name_tree, pair, mask, with_rest, tested, matched, matched_fields, matched_here}
use Rattle.kl_desugar.specs.Translation as translation
use Rattle.kl_desugar.proofs.Positions.{Standing, scope, values, names, level_get, Grows, grows_none, grows_one, grows_both, nearest, level_is, At, name_at}
use Rattle.kl_desugar.proofs.Resting.{mask_row, mask_typed, takes_labels, rest_types}

-- a name's code has the types that the name has, wherever the code is put
abbrev pub Agrees : SourceTypes → Sort → Code → Type 0
Agrees S nothing c = Unit {0}
Agrees S (value_of P) (value_by t) = (s : Ground) (G : List Ground) → P s → CoreTypes S G t s
Agrees S (function_of P) (function_by t) = (s u : Ground) (G : List Ground) → P s u → CoreTypes S (s ∷ G) t u
Agrees S (primitive c) (primitive_by d) = c ≡ d
Agrees S _ _ = ⊥

abbrev pub AllAgree : SourceTypes → KnownTypes → Codes → Type 0
AllAgree S known codes = (x : Name) → Agrees S (known x) (codes x)

code_typed : (S : SourceTypes) (k : Sort) (c : Code) (t : Ground) (G : List Ground) → Agrees S k c → ValueTypes k t → CoreTypes S G (code_tree c) t
code_typed S nothing c t G a h = absurd h
code_typed S (value_of P) (value_by u) t G a h = a t G h
code_typed S (value_of P) translation.nothing t G a h = absurd a
code_typed S (value_of P) (function_by u) t G a h = absurd a
code_typed S (value_of P) (primitive_by d) t G a h = absurd a
code_typed S (function_of P) c t G a h = absurd h
code_typed S (primitive d) c t G a h = absurd h

-- what stands has types of the language
abbrev pub AllGround : Standing Ground → Type 0
AllGround P = AllByRecursion IsGround (values P)

pub names_ground : (P : Standing Ground) → AllGround P → AreGround (names P)
names_ground [] g = tt
names_ground ((Some x, s) ∷ P) g = (g.0, names_ground P g.1)
names_ground ((None, s) ∷ P) g = names_ground P g.1

level_ground : (P : Standing Ground) (m : ℕ) (s : Ground) → AllGround P → level_get P m ≡ Some s → IsGround s
level_ground [] m s g h = let n : ⊥ = cc in absurd n
level_ground (b ∷ P) m s g h = by_level (nat_eq m (length (scope P))) (level_ground P m s g.1) h
  where
    by_level : (c : Bool) → (level_get P m ≡ Some s → IsGround s) → cond c (Some b.1) (level_get P m) ≡ Some s → IsGround s
    by_level true next e = let same : b.1 ≡ s = cc in subst IsGround same g.0
    by_level false next e = next e

-- a place carries a type
abbrev pub Carries : Place → Standing Ground → Ground → Type 0
Carries (here m) P s = level_get P m ≡ Some s
Carries (inside l t) P s = (r : Row) × Carries t P (rec r) × (at l r ≡ Some s)

carries_more : (t : Place) (P Q : Standing Ground) (s : Ground) → Grows P Q → Carries t P s → Carries t Q s
carries_more (here m) P Q s g h = g m s h
carries_more (inside l t) P Q s g (r, h, e) = (r, carries_more t P Q (rec r) g h, e)

place_typed : (S : SourceTypes) (t : Place) (P : Standing Ground) (s : Ground) (rest : List Ground) → AllGround P → Carries t P s → CoreTypes S (values P ++ rest) (place_tree t (length (scope P))) s
place_typed S (here m) P s rest g h = (level_is P m s rest h, level_ground P m s g h)
place_typed S (inside l t) P s rest g (r, h, e) = (r, place_typed S t P (rec r) rest g h, e)

equal_typed : (s : Ground) → PrimTypes 1 (s ∷ s ∷ []) bool
unfolding PrimTypes row_at rows
equal_typed s = (s, refl, refl)

tested_typed : (S : SourceTypes) (G : List Ground) (s u : Ground) (a b c e : Tree) → CoreTypes S G a s → CoreTypes S G b s → CoreTypes S G c u → CoreTypes S G e u → CoreTypes S G (tested a b c e) u
tested_typed S G s u a b c e h k p q = ((s ∷ s ∷ [], (s, s ∷ [], refl, h, (s, [], refl, k, refl)), equal_typed s), p, q)

module _ (S : SourceTypes) (known : KnownTypes) (codes : Codes) (rest : List Ground) (agree : AllAgree S known codes) where
  level_typed : (P Q : Standing Ground) (m : Option ℕ) (v : Option Ground) (k : Sort) (c : Code) (t : Ground) → Agrees S k c → At P m v → AllGround Q → Grows P Q → VariableOr v k t
      → CoreTypes S (values Q ++ rest) (level_tree m c (length (scope Q))) t
  level_typed P Q (Some m) (Some s) k c t a p i g h = (level_is Q m s rest (g m s p) ∙ ap Some h, subst IsGround h (level_ground Q m s i (g m s p)))
  level_typed P Q (Some m) None k c t a p i g h = absurd p
  level_typed P Q None (Some s) k c t a p i g h = absurd p
  level_typed P Q None None k c t a p i g h = code_typed S k c t _ a h

  pub name_typed : (P Q : Standing Ground) (x : Name) (t : Ground) → AllGround Q → Grows P Q → NameTypes known (names P) x t → CoreTypes S (values Q ++ rest) (name_tree codes (scope P) x (length (scope Q))) t
  name_typed P Q x t i g h = level_typed P Q (level_of x (scope P)) (field x (names P)) (known x) (codes x) t (agree x) (name_at x P) i g h

  -- P0 is what stood before the pattern, P what stands by now; e stands where a pattern does not fit
  module _ (P0 : Standing Ground) (u : Ground) (e : Tree) where
    abbrev Missed : Type 0
    Missed = (G : List Ground) → CoreTypes S G e u

    if_tested : (s : Ground) (t : Place) (P : Standing Ground) (b a : Tree) → Missed → AllGround P → Carries t P s → CoreTypes S (values P ++ rest) b s → CoreTypes S (values P ++ rest) a u
        → CoreTypes S (values P ++ rest) (tested (place_tree t (length (scope P))) b a e) u
    if_tested s t P b a miss i c k h = tested_typed S _ s u _ b a e (place_typed S t P s rest i c) k h (miss _)

    must_miss : ⊥ ⊎ Missed → Missed
    must_miss (inl none) = absurd none
    must_miss (inr miss) = miss

    first_sure : (p : Pat) (ps : Pats) → (IsSurePattern p × AreSurePatterns ps) ⊎ Missed → IsSurePattern p ⊎ Missed
    first_sure p ps (inl sure) = inl sure.0
    first_sure p ps (inr miss) = inr miss

    others_sure : (p : Pat) (ps : Pats) → (IsSurePattern p × AreSurePatterns ps) ⊎ Missed → AreSurePatterns ps ⊎ Missed
    others_sure p ps (inl sure) = inl sure.1
    others_sure p ps (inr miss) = inr miss

    rest_typed : (end : Tail) (ps : Pats) (t : Place) (P : Standing Ground) (r : Row) (H : Context) (A : Scope → Tree) → AreTidyPatterns ps → AllGround P → Carries t P (rec r)
        → ((l : Name) → IsTrue (has_label ps l) → IsSome (at l r)) → BindsRest end r ps (names P) H
        → ((Q : Standing Ground) → AllGround Q → Grows P Q → names Q ≡ H → CoreTypes S (values Q ++ rest) (A (scope Q)) u)
        → CoreTypes S (values P ++ rest) (with_rest end ps t A (scope P)) u
    rest_typed (tail.Rest x) ps t P r H A y i c has b k =
        let args : AllTypes S (values P ++ rest) (pair (place_tree t (length (scope P))) (mask ps)) (rec r ∷ rec (mask_row ps) ∷ []) = (rec r, rec (mask_row ps) ∷ [], refl, place_typed S t P (rec r) rest i c, (rec (mask_row ps), [], refl, mask_typed S (values P ++ rest) ps y, refl)) in
        (rec b.0, (rec r ∷ rec (mask_row ps) ∷ [], args, rest_types ps r b.0 has b.1), k ((Some x.text, rec b.0) ∷ P) (b.1.0, i) (grows_one P (Some x.text, rec b.0)) (sym b.2))
    rest_typed tail.Exact ps t P r H A y i c has b k = k P i (grows_none P) (sym b)
    rest_typed tail.Open ps t P r H A y i c has b k = k P i (grows_none P) (sym b)

    mutual
      pub matched_typed : (p : Pat) (t : Place) (P : Standing Ground) (s : Ground) (H : Context) (A : Scope → Tree) → IsSurePattern p ⊎ Missed → IsTidyPattern p → AllGround P → Grows P0 P → Carries t P s → Takes p (NameTypes known (names P0)) s (names P) H
          → ((Q : Standing Ground) → AllGround Q → Grows P Q → names Q ≡ H → CoreTypes S (values Q ++ rest) (A (scope Q)) u)
          → CoreTypes S (values P ++ rest) (matched p t codes (scope P0) e A (scope P)) u
      matched_typed (catch x) t P s H A m y i g c h k =
          let d = place_typed S t P s rest i c in (s, d, k ((Some x.text, s) ∷ P) (types_proper S _ _ s d, i) (grows_one P (Some x.text, s)) (sym h))
      matched_typed any t P s H A m y i g c h k = k P i (grows_none P) (sym h)
      matched_typed (same x) t P s H A m y i g c h k = if_tested s t P _ _ (must_miss m) i c (name_typed P0 P x.text s i g h.0) (k P i (grows_none P) (sym h.1))
      matched_typed (is w n) t P s H A m y i g c h k =
          let d = types_proper S _ _ s (place_typed S t P s rest i c) in if_tested s t P (Const w) _ (must_miss m) i c (d, h.0) (k P i (grows_none P) (sym h.1))
      matched_typed (shape ps end) t P s H A m y i g c h k =
          let held = subst (Carries t P) h.2 c in
          fields_typed ps t P h.0 h.1 (λ Q. with_rest end ps t A Q) m y i g held h.4
          (λ Q q j n.
          rest_typed end ps t Q h.0 H A y q (carries_more t P Q (rec h.0) j held) (takes_labels ps _ h.0 (names P) h.1 h.4) (subst (λ G. BindsRest end h.0 ps G H) (sym n) h.5)
          (λ R w i' o. k R w (grows_both P Q R j i') o))
      matched_typed (variant l p) t P s H A m y i g c h k =
          let miss = must_miss m in
          let deeper = (None, h.1) ∷ P in
          let subject = subst (CoreTypes S (values P ++ rest) (place_tree t (length (scope P)))) h.2 (place_typed S t P s rest i c) in
          let carried = at_ground l.text h.0 h.1 (types_proper S _ _ (var h.0) subject).1 h.3 in (
            h.0,
            subject,
            λ l' there. inr tt,
            (
              h.1,
              h.3,
              matched_typed p (here (length (scope P))) deeper h.1 H A (inr miss) y (carried, i) (grows_both P0 P deeper g (grows_one P (None, h.1))) (nearest P (None, h.1)) h.4
                  (λ Q o j n. k Q o (grows_both P deeper Q (grows_one P (None, h.1)) j) n),
              miss _,
            ),
          )

      pub fields_typed : (ps : Pats) (t : Place) (P : Standing Ground) (r : Row) (H : Context) (A : Scope → Tree) → AreSurePatterns ps ⊎ Missed → AreTidyPatterns ps → AllGround P → Grows P0 P → Carries t P (rec r) → TakesFields ps (NameTypes known (names P0)) r (names P) H
          → ((Q : Standing Ground) → AllGround Q → Grows P Q → names Q ≡ H → CoreTypes S (values Q ++ rest) (A (scope Q)) u)
          → CoreTypes S (values P ++ rest) (matched_fields ps t codes (scope P0) e A (scope P)) u
      fields_typed no_pats t P r H A m y i g c h k = k P i (grows_none P) (sym h)
      fields_typed (pats l p ps) t P r H A m y i g c h k =
          matched_typed p (inside l.text t) P h.0 h.1 (λ Q. matched_fields ps t codes (scope P0) e A Q) (first_sure p ps m) y.1 i g (r, c, h.2) h.3
          (λ Q q j n.
          fields_typed ps t Q r H A (others_sure p ps m) y.2 q (grows_both P0 P Q g j) (carries_more t P Q (rec r) j c) (subst (λ M. TakesFields ps (NameTypes known (names P0)) r M H) (sym n) h.4)
          (λ R w i' o. k R w (grows_both P Q R j i') o))

  -- a value that was just bound is matched
  pub here_typed : (p : Pat) (P : Standing Ground) (s u : Ground) (e : Tree) (H : Context) (A : Scope → Tree) → IsSurePattern p ⊎ ((G : List Ground) → CoreTypes S G e u) → IsTidyPattern p → Takes p (NameTypes known (names P)) s (names P) H → IsGround s → AllGround P
      → ((Q : Standing Ground) → AllGround Q → names Q ≡ H → CoreTypes S (values Q ++ rest) (A (scope Q)) u)
      → CoreTypes S (s ∷ values P ++ rest) (matched_here p codes (scope P) e A) u
  here_typed p P s u e H A m y h g i k =
      matched_typed P u e p (here (length (scope P))) ((None, s) ∷ P) s H A m y (g, i) (grows_one P (None, s)) (nearest P (None, s)) h (λ Q q j n. k Q q n)
