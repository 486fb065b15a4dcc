-- A search that makes nothing more functions has found the least function fields.
use Rattle.std.proofs.Common.{◌≡◌, ◌⊎◌, inl, inr, Bool, true, false, not, ◌&&◌, ◌||◌, cond, List, [], ◌∷◌, filter, length, ◌≤◌, suc, Option, Some, None, refl, sym, ap, ◌∙◌, true≢false, arith}
use Rattle.std.specs.List.{Contains, AllByRecursion, list_any}
use Rattle.std.specs.Cmp.Lexicographic.{same_text}
use Rattle.std.proofs.lemmas.Bool.{or_left, or_right, or_cases, and_from, and_parts, false_from_ne_true}
use Rattle.std.proofs.lemmas.List.Elements.{Contains-push, Contains-push_cases, Contains-append_left, Contains-append_right, Contains-append_cases}
use Rattle.kl_outcome.specs.Outcome.{Name}
use Rattle.kl_meaning.specs.Match.{same_name}
use Rattle.kl_functions.specs.declared.occurrences.Referent.{Referent}
use Rattle.kl_functions.specs.declared.occurrences.Referent.TheVariants.{Field}
use Rattle.kl_functions.specs.declared.occurrences.Occurrence.{Occurrence}
use Rattle.kl_functions.specs.declared.occurrences.Occurrence.TheVariants.{Alone, Head}
use Rattle.kl_functions.specs.declared.functions.Round.{Round}
use Rattle.kl_ho.specs.Functions.{Ref, parameter, global, variable, Site, IsFunction, is_head, is_handed as handed_on, HasField, of_definition, of_parameter, StandsFor, a_parameter, a_global}
use Rattle.kl_ho.specs.HoPrograms.{is_among}
use Rattle.kl_functions.specs.Rounds.{ref_view, handed_ref, handed_refs, if_ref, if_bare, literal_refs, sites_in, at_place, is_parameter, Facts, facts_of, stands_for, gives_at, gives, is_field, is_handed_at, makes, is_made, still_unmade, IsOf, IsSiteOf, AreSitesOf}
use Rattle.kl_ho.proofs.Fields.{nothing_contained}
use Rattle.kl_functions.proofs.Among.{among_is}

-- ---- lists

pub first_in : {X : Type 0} (x : X) (xs : List X) → Contains (x ∷ xs) x
first_in x xs = Contains-append_left (x ∷ []) xs x (Contains-push [] x)

pub next_in : {X : Type 0} (y x : X) (xs : List X) → Contains xs x → Contains (y ∷ xs) x
next_in y x xs c = Contains-append_right (y ∷ []) xs x c

only_one : {X : Type 0} (y x : X) → Contains (y ∷ []) x → y ≡ x
only_one y x c = elim (Contains-push_cases [] y x c) [ inl n ↦ absurd (nothing_contained x n) | inr e ↦ e ]

pub first_or_next : {X : Type 0} (y x : X) (xs : List X) → Contains (y ∷ xs) x → (y ≡ x) ⊎ Contains xs x
first_or_next y x xs c = elim (Contains-append_cases (y ∷ []) xs x c) [ inl n ↦ inl (only_one y x n) | inr e ↦ inr e ]

any_from : {X : Type 0} (p : X → Bool) (xs : List X) (x : X) → Contains xs x → p x ≡ true → list_any p xs ≡ true
any_from p [] x c e = absurd (nothing_contained x c)
any_from p (y ∷ ys) x c e = elim (first_or_next y x ys c) [ inl i ↦ or_left (p y) (list_any p ys) (ap p i ∙ e) | inr d ↦ or_right (p y) (list_any p ys) (any_from p ys x d e) ]

any_to : {X : Type 0} (p : X → Bool) (xs : List X) → list_any p xs ≡ true → (x : X) × Contains xs x × (p x ≡ true)
any_to p [] e = absurd (true≢false (sym e))
any_to p (y ∷ ys) e = elim (or_cases (p y) (list_any p ys) e) [
  | inl i ↦ (y, first_in y ys, i)
  | inr d ↦ let r = any_to p ys d in (r.0, next_in y r.0 ys r.1, r.2)
]

pub all_in : {X : Type 0} (P : X → Type 0) (xs : List X) (x : X) → AllByRecursion P xs → Contains xs x → P x
all_in P [] x h c = absurd (nothing_contained x c)
all_in P (y ∷ ys) x h c = elim (first_or_next y x ys c) [ inl i ↦ rw (sym i) h.0 | inr d ↦ all_in P ys x h.1 d ]

-- ---- names

pub itself : (x : Name) → same_name x x ≡ true
itself x = contained_self ((among_is x (x ∷ [])).1 (first_in x []))
  where
    contained_self : (same_name x x || false) ≡ true → same_name x x ≡ true
    contained_self e = elim (or_cases (same_name x x) false e) [ inl i ↦ i | inr n ↦ absurd (true≢false (sym n)) ]

pub by_text : (x y : Name) → same_name x y ≡ true → x ≡ y
by_text x y e = same_text x y (sym e)

-- ---- filters

and_none : (b : Bool) → (b && false) ≡ false
and_none true = refl
and_none false = refl

among_filter : (p : Name → Bool) (xs : List Name) (x : Name) → is_among x (filter p xs) ≡ (is_among x xs && p x)
among_filter p [] x = refl
among_filter p (y ∷ ys) x = by_kept (p y) refl (same_name x y) refl (among_filter p ys x)
  where
    by_kept : (k : Bool) → p y ≡ k → (s : Bool) → same_name x y ≡ s → is_among x (filter p ys) ≡ (is_among x ys && p x) → is_among x (cond k (y ∷ filter p ys) (filter p ys)) ≡ ((s || is_among x ys) && p x)
    by_kept true k true s e = or_left (same_name x y) (is_among x (filter p ys)) s ∙ sym (ap p (by_text x y s) ∙ k)
    by_kept true k false s e = ap (λ b. b || is_among x (filter p ys)) s ∙ e
    by_kept false k true s e = e ∙ ap (λ b. is_among x ys && b) (ap p (by_text x y s) ∙ k) ∙ and_none (is_among x ys) ∙ sym (ap p (by_text x y s) ∙ k)
    by_kept false k false s e = e

pub length_filter : {X : Type 0} (p : X → Bool) (xs : List X) → length (filter p xs) ≤ length xs
length_filter p [] = omega arith
length_filter p (y ∷ ys) = by_kept (p y) (length_filter p ys)
  where
    by_kept : (k : Bool) → length (filter p ys) ≤ length ys → length (cond k (y ∷ filter p ys) (filter p ys)) ≤ suc (length ys)
    by_kept true e = omega arith
    by_kept false e = omega arith

pub kept_all : {X : Type 0} (p : X → Bool) (xs : List X) → length (filter p xs) ≡ length xs → filter p xs ≡ xs
kept_all p [] e = refl
kept_all p (y ∷ ys) e = by_kept (p y) (kept_all p ys) (length_filter p ys) e
  where
    by_kept : (k : Bool) → (length (filter p ys) ≡ length ys → filter p ys ≡ ys) → length (filter p ys) ≤ length ys → length (cond k (y ∷ filter p ys) (filter p ys)) ≡ suc (length ys) → cond k (y ∷ filter p ys) (filter p ys) ≡ y ∷ ys
    by_kept true f le i = ap (λ zs. y ∷ zs) (f (omega arith))
    by_kept false f le i = absurd (omega arith)

-- ---- calls and the places where they stand

pub any_handed : (q : Name × Ref → Bool) (fs : List (Name × Option Referent)) → list_any (λ f. if_bare q f) fs ≡ list_any q (handed_refs fs)
any_handed q [] = refl
any_handed q (f ∷ fs) = by_standing f.1 (any_handed q fs)
  where
    by_standing : (o : Option Referent) → list_any (λ f. if_bare q f) fs ≡ list_any q (handed_refs fs) → (if_ref q f.0 o || list_any (λ f. if_bare q f) fs) ≡ list_any q (handed_ref f.0 o (handed_refs fs))
    by_standing (Some r) e = ap (λ b. q (f.0, ref_view r) || b) e
    by_standing None e = e

pub any_place : (p : Site → Bool) (found : List Occurrence) → list_any (λ o. at_place p o) found ≡ list_any p (sites_in found)
any_place p [] = refl
any_place p (Alone r ∷ os) = any_place p os
any_place p (Head r fields ∷ os) = ap (λ b. p (record { head = ref_view r; handed = literal_refs fields }) || b) (any_place p os)

pub literal_any : (q : Name × Ref → Bool) (o : Option (List (Name × Option Referent))) (fs zs : List (Name × Option Referent)) → o ≡ Some fs → zs ≡ fs → list_any (λ f. if_bare q f) zs ≡ list_any q (literal_refs o)
literal_any q o fs zs i j = rw (i, j) (any_handed q fs)

pub field_any : (round : Round) (r : Referent) (h l : Name) → r ≡ Field h → list_any (λ o. at_place (λ s. gives (facts_of round) h l s) o) round.found.now ≡ is_field (facts_of round) (ref_view r) l
field_any round r h l e = rw e (any_place (λ s. gives (facts_of round) h l s) round.found.now)

-- ---- the least function fields

parameter_is : (x : Name) (t : Ref) → is_parameter x t ≡ true → t ≡ parameter x
parameter_is x (parameter y) e = ap parameter (sym (by_text x y e))
parameter_is x (global d) e = absurd (true≢false (sym e))
parameter_is x variable e = absurd (true≢false (sym e))

is_parameter_at : (x : Name) (t : Ref) → t ≡ parameter x → is_parameter x t ≡ true
is_parameter_at x t e = rw e (itself x)

pub turned_over : (b : Bool) → b ≡ false → not b ≡ true
turned_over b e = rw e refl

pub turned_back : (b : Bool) → not b ≡ true → b ≡ false
turned_back true e = absurd (true≢false (sym e))
turned_back false e = refl

module _ (facts : Facts) (closed : (x : Name) → is_among x facts.unmade ≡ true → is_made facts x ≡ false) where
  not_unmade : (x : Name) → is_made facts x ≡ true → is_among x facts.unmade ≡ false
  not_unmade x e = false_from_ne_true (is_among x facts.unmade) (λ o. true≢false (sym e ∙ closed x o))

  -- what is a function is not unmade
  mutual
    pub function_found : {x : Name} → IsFunction facts.is_function facts.before facts.calls x → is_among x facts.unmade ≡ false
    function_found (is_head {x = x} s c e) = not_unmade x (any_from (λ s. makes facts x s) facts.calls s c (or_left (is_parameter x s.head) (list_any (λ g. is_handed_at facts x s.head g) s.handed) (is_parameter_at x s.head e)))
    function_found (handed_on {x = x} s l c h f) =
        not_unmade x (any_from (λ s. makes facts x s) facts.calls s c
        (or_right (is_parameter x s.head) (list_any (λ g. is_handed_at facts x s.head g) s.handed) (any_from (λ g. is_handed_at facts x s.head g) s.handed (l, parameter x) h (and_from (same_name x x) (is_field facts s.head l) (itself x) (field_found f)))))

    field_found : {t : Ref} {l : Name} → HasField facts.is_function facts.before facts.calls t l → is_field facts t l ≡ true
    field_found (of_definition {d = d} {l = l} c) = (among_is l (facts.before d)).1 c
    field_found (of_parameter {h = h} {l = l} s r c e k f) =
        any_from (λ s. gives facts h l s) facts.calls s c
        (and_from (is_parameter h s.head) (list_any (λ g. gives_at facts l g) s.handed) (is_parameter_at h s.head e) (any_from (λ g. gives_at facts l g) s.handed (l, r) k (and_from (same_name l l) (stands_for facts r) (itself l) (standing_found f))))

    standing_found : {t : Ref} → StandsFor facts.is_function facts.before facts.calls t → stands_for facts t ≡ true
    standing_found (a_parameter {x = x} f) = turned_over (is_among x facts.unmade) (function_found f)
    standing_found (a_global t) = t

module _ (facts : Facts) (cs : List Name) (of : AreSitesOf cs facts.calls) (known : (x : Name) → is_among x cs ≡ true → is_among x facts.unmade ≡ false → IsFunction facts.is_function facts.before facts.calls x) where
  standing_is : (t : Ref) → IsOf cs t → stands_for facts t ≡ true → StandsFor facts.is_function facts.before facts.calls t
  standing_is (parameter x) i e = a_parameter (known x i (turned_back (is_among x facts.unmade) e))
  standing_is (global d) i e = a_global e
  standing_is variable i e = absurd (true≢false (sym e))

  field_is : (t : Ref) (l : Name) → is_field facts t l ≡ true → HasField facts.is_function facts.before facts.calls t l
  field_is (parameter h) l e =
      let a = any_to (λ s. gives facts h l s) facts.calls e in
      let both = and_parts (is_parameter h a.0.head) (list_any (λ g. gives_at facts l g) a.0.handed) a.2 in
      let b = any_to (λ g. gives_at facts l g) a.0.handed both.1 in
      let each = and_parts (same_name l b.0.0) (stands_for facts b.0.1) b.2 in
      of_parameter a.0 b.0.1 a.1 (parameter_is h a.0.head both.0) (at_label b.0 (by_text l b.0.0 each.0) a.0.handed b.1)
      (standing_is b.0.1 (all_in (λ g. IsOf cs g.1) a.0.handed b.0 (all_in (IsSiteOf cs) facts.calls a.0 of a.1).1 b.1) each.1)
    where
      at_label : (g : Name × Ref) → l ≡ g.0 → (gs : List (Name × Ref)) → Contains gs g → Contains gs (l, g.1)
      at_label g i gs c = rw i c
  field_is (global d) l e = of_definition ((among_is l (facts.before d)).0 e)
  field_is variable l e = absurd (true≢false (sym e))

  made_is : (x : Name) → is_made facts x ≡ true → IsFunction facts.is_function facts.before facts.calls x
  made_is x e =
      let a = any_to (λ s. makes facts x s) facts.calls e in
      elim (or_cases (is_parameter x a.0.head) (list_any (λ g. is_handed_at facts x a.0.head g) a.0.handed) a.2) [
        | inl i ↦ is_head a.0 a.1 (parameter_is x a.0.head i)
        | inr j ↦
            let b = any_to (λ g. is_handed_at facts x a.0.head g) a.0.handed j in
            let each = and_parts (is_parameter x b.0.1) (is_field facts a.0.head b.0.0) b.2 in
            handed_on a.0 b.0.0 a.1 (at_name b.0 (parameter_is x b.0.1 each.0) a.0.handed b.1) (field_is a.0.head b.0.0 each.1)
      ]
    where
      at_name : (g : Name × Ref) → g.1 ≡ parameter x → (gs : List (Name × Ref)) → Contains gs g → Contains gs (g.0, parameter x)
      at_name g i gs c = rw (sym i) c

  -- after one more round
  pub known_still : (x : Name) → is_among x cs ≡ true → is_among x (still_unmade facts facts.unmade) ≡ false → IsFunction facts.is_function facts.before facts.calls x
  known_still x i e = by_made (is_among x facts.unmade) refl (is_made facts x) refl
    where
      by_made : (a : Bool) → is_among x facts.unmade ≡ a → (b : Bool) → is_made facts x ≡ b → IsFunction facts.is_function facts.before facts.calls x
      by_made false o b m = known x i o
      by_made true o true m = made_is x m
      by_made true o false m = absurd (true≢false (sym (and_from (is_among x facts.unmade) (not (is_made facts x)) o (turned_over (is_made facts x) m)) ∙ sym (among_filter (λ y. not (is_made facts y)) facts.unmade x) ∙ e))

-- a round that leaves as many unmade has made nothing
pub closed_now : (facts : Facts) → length (still_unmade facts facts.unmade) ≡ length facts.unmade → (x : Name) → is_among x facts.unmade ≡ true → is_made facts x ≡ false
closed_now facts e x o =
    let p = λ (y : Name). not (is_made facts y) in
    turned_off (is_made facts x) (and_parts (is_among x facts.unmade) (p x) (sym (among_filter p facts.unmade x) ∙ ap (λ zs. is_among x zs) (kept_all p facts.unmade e) ∙ o)).1
  where
    turned_off : (b : Bool) → not b ≡ true → b ≡ false
    turned_off b i = turned_back b i
