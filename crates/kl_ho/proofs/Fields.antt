-- The least function fields are unique.
use Rattle.std.proofs.Common.{◌≡◌, ◌↔◌, Bool, true, false, cond, List, [], ◌∷◌, refl, sym, ◌∙◌, true≢false}
use Rattle.std.proofs.Common.{arith}
use Rattle.std.specs.List.{Contains}
use Rattle.std.specs.Cmp.Lexicographic.{same_text}
use Rattle.std.proofs.lemmas.Bool.{false_from_ne_true}
use Rattle.std.proofs.lemmas.Cmp.{nat_list_eq_equiv}
use Rattle.std.proofs.lemmas.List.Elements.{Contains-push, Contains-append_left}
use Rattle.std.proofs.lemmas.Map.Views.{Contains-from_any, list_any-from_Contains}
use Rattle.kl_outcome.specs.Outcome.{Name}
use Rattle.kl_syntax.specs.declared.tree.Tail.TheVariants as tail
use Rattle.kl_syntax.specs.Syntax.{Pat, catch, any, same, is, shape, variant, Pats, no_pats, pats, Exp, Decls, no_decls, constant}
use Rattle.kl_syntax.specs.Syntax.{function}
use Rattle.kl_meaning.specs.Match.{same_name}
use Rattle.kl_ho.specs.Functions.{Ref, Site, IsFunction, is_head, is_handed, HasField, of_definition, of_parameter, StandsFor}
use Rattle.kl_ho.specs.Functions.{a_parameter, a_global, with_function, with_fields, IsFieldOf, AreLeast, HaveSameParts}
use Rattle.kl_ho.specs.HoPrograms.{FunctionFields, is_among, handed_in, rest_in, higher_from}

module _ (is_function : Name → Bool) (fields also : FunctionFields) (calls : List Site) (included : (d l : Name) → Contains (fields d) l → Contains (also d) l) where
  mutual
    function_still : {x : Name} → IsFunction is_function fields calls x → IsFunction is_function also calls x
    function_still (is_head s c e) = is_head s c e
    function_still (is_handed s l c h f) = is_handed s l c h (field_still f)

    field_still : {r : Ref} {l : Name} → HasField is_function fields calls r l → HasField is_function also calls r l
    field_still (of_definition {d = d} {l = l} c) = of_definition (included d l c)
    field_still (of_parameter s r c e h f) = of_parameter s r c e h (stands_still f)

    stands_still : {r : Ref} → StandsFor is_function fields calls r → StandsFor is_function also calls r
    stands_still (a_parameter f) = a_parameter (function_still f)
    stands_still (a_global t) = a_global t

-- the same labels, whatever their order
abbrev SameLabels : FunctionFields → FunctionFields → Type 0
SameLabels fields also = (d l : Name) → Contains (fields d) l ↔ Contains (also d) l

same_fields_more : (fields also : FunctionFields) (d : Name) (ls ms : List Name) → SameLabels fields also → ((l : Name) → Contains ls l ↔ Contains ms l)
    → SameLabels (with_fields d ls fields) (with_fields d ms also)
same_fields_more fields also d ls ms s h x l = elim (same_name x d) as (λ b. Contains (cond b ls (fields x)) l ↔ Contains (cond b ms (also x)) l) [ true ↦ h l | false ↦ s x l ]

field_kept : (is_function : Name → Bool) (before other : FunctionFields) (p : Pat) (e : Exp) (l : Name) → SameLabels before other → IsFieldOf is_function before p e l → IsFieldOf is_function other p e l
field_kept is_function before other p e l s f = (f.0, f.1, function_still is_function before other _ (λ d m c. (s d m).0 c) f.2)

flip_labels : (fields also : FunctionFields) → SameLabels fields also → SameLabels also fields
flip_labels fields also s d l = ((s d l).1, (s d l).0)

-- ---- the parts of a definition

among_contained : (x : Name) (ys : List Name) → is_among x ys ≡ true → Contains ys x
among_contained x ys e = Contains-from_any {eq = same_name} (λ y z i. same_text y z (sym i)) x ys e

contained_among : (x : Name) (ys : List Name) → Contains ys x → is_among x ys ≡ true
contained_among x ys c = list_any-from_Contains nat_list_eq_equiv x ys c

same_among : (ls ms : List Name) → ((l : Name) → Contains ls l ↔ Contains ms l) → (x : Name) → is_among x ls ≡ is_among x ms
same_among ls ms h x = by_name (is_among x ls) refl
  where
    by_name : (b : Bool) → is_among x ls ≡ b → b ≡ is_among x ms
    by_name true e = sym (contained_among x ms ((h x).0 (among_contained x ls e)))
    by_name false e = sym (false_from_ne_true (is_among x ms) (λ t. true≢false (sym (contained_among x ls ((h x).1 (among_contained x ms t))) ∙ e)))

pub nothing_contained : {X : Type 0} (x : X) → Contains [] x → ⊥
nothing_contained x c = let n = c.1 in omega (arith, n)

first_contained : (l : Name) (ls : List Name) → Contains (l ∷ ls) l
first_contained l ls = Contains-append_left (l ∷ []) ls l (Contains-push [] l)

handed_same : (ls ms : List Name) (ps : Pats) → ((x : Name) → is_among x ls ≡ is_among x ms) → handed_in ls ps ≡ handed_in ms ps
handed_same ls ms no_pats h = refl
handed_same ls ms (pats l p ps) h = rw (h l.text, handed_same ls ms ps h) refl

rest_same : (ls ms : List Name) (ps : Pats) → ((x : Name) → is_among x ls ≡ is_among x ms) → rest_in ls ps ≡ rest_in ms ps
rest_same ls ms no_pats h = refl
rest_same ls ms (pats l p ps) h = rw (h l.text, rest_same ls ms ps h) refl

higher_same : (ls ms : List Name) (p : Pat) (e : Exp) → ((l : Name) → Contains ls l ↔ Contains ms l) → higher_from ls p e ≡ higher_from ms p e
higher_same [] [] p e h = refl
higher_same [] (m ∷ ms) p e h = absurd (nothing_contained m ((h m).1 (first_contained m ms)))
higher_same (l ∷ ls) [] p e h = absurd (nothing_contained l ((h l).0 (first_contained l ls)))
higher_same (l ∷ ls) (m ∷ ms) (shape ps tail.Exact) e h =
    let same = same_among (l ∷ ls) (m ∷ ms) h in
    rw (handed_same (l ∷ ls) (m ∷ ms) ps same, rest_same (l ∷ ls) (m ∷ ms) ps same) refl
higher_same (l ∷ ls) (m ∷ ms) (shape ps tail.Open) e h = refl
higher_same (l ∷ ls) (m ∷ ms) (shape ps (tail.Rest x)) e h = refl
higher_same (l ∷ ls) (m ∷ ms) (catch x) e h = refl
higher_same (l ∷ ls) (m ∷ ms) any e h = refl
higher_same (l ∷ ls) (m ∷ ms) (same x) e h = refl
higher_same (l ∷ ls) (m ∷ ms) (is v n) e h = refl
higher_same (l ∷ ls) (m ∷ ms) (variant k p) e h = refl

-- ---- programs

pub same_parts : (fields also : FunctionFields) (ds : Decls) (is_function : Name → Bool) (before other : FunctionFields) → SameLabels before other → AreLeast fields ds is_function before
    → AreLeast also ds is_function other → HaveSameParts fields also ds
same_parts fields also no_decls is_function before other s h k = tt
same_parts fields also (constant d a ds) is_function before other s h k =
    same_parts fields also ds (with_function d.text false is_function) (with_fields d.text [] before) (with_fields d.text [] other)
    (same_fields_more before other d.text [] [] s (λ l. ((λ c. c), (λ c. c)))) h k
same_parts fields also (function d p a ds) is_function before other s h k =
    let here : (l : Name) → Contains (fields d.text) l ↔ Contains (also d.text) l =
    λ l. (
      (λ c. (k.0 l).1 (field_kept is_function before other p a l s ((h.0 l).0 c))),
      (λ c. (h.0 l).1 (field_kept is_function other before p a l (flip_labels before other s) ((k.0 l).0 c))),
    ) in (
      higher_same (fields d.text) (also d.text) p a here,
      same_parts fields also ds (with_function d.text true is_function) (with_fields d.text (fields d.text) before) (with_fields d.text (also d.text) other)
          (same_fields_more before other d.text (fields d.text) (also d.text) s here) h.1 k.1,
    )

pub same_parts_first : (fields also : FunctionFields) (ds : Decls) (is_function : Name → Bool) (before : FunctionFields) → AreLeast fields ds is_function before → AreLeast also ds is_function before
    → HaveSameParts fields also ds
same_parts_first fields also ds is_function before h k = same_parts fields also ds is_function before before (λ d l. ((λ c. c), (λ c. c))) h k
