-- Labels that are marked, part by part.
use Rattle.std.proofs.Common.{◌≡◌, ℕ, ◌+◌, Bool, true, false, ◌||◌, List, filter, cond, Option, Some, None, is_some, Result, Ok, Err, OnOk, refl, sym, ap, ◌∙◌}
use Rattle.std.proofs.Math.Bool.{or_assoc, or-false}
use mathlib.Core.Path.{ap₂}
use Rattle.std.proofs.lemmas.List.Elements.{filter_agree}
use Rattle.kl_value.specs.declared.Kind.{Kind}
use Rattle.kl_outcome.specs.Outcome.{Name}
use Rattle.kl_core.specs.declared.term.Term.{Term}
use Rattle.kl_core.specs.declared.term.Term.TheVariants as term
use Rattle.kl_core.specs.Trees.{Tree, If, view, parts_view}
use Rattle.kl_core.proofs.Views.{view_Case, view_Union, view_Ext, view_If, view_Let}
use Rattle.kl_ship.specs.Delegation.{test_of, is_front, left_before, left, whole_use, column_use, column_use_parts, column_use_arms, in_use}
use Rattle.kl_ship.specs.Shipping.{other_view}
use Rattle.kl_ship.specs.Marking.{Labels, has, Marks}
use Rattle.kl_ship.proofs.Finding.{column_branches}
use Rattle.kl_ship.proofs.PackedFronts.{untested}

-- ---- one after the other

pub marks_both : (p q u : Name → Bool) (s m e : Labels) → ((l : Name) → (p l || q l) ≡ u l) → Marks p s m → Marks q m e → Marks u s e
marks_both p q u s m e h f g l = g l ∙ ap (λ x. x || q l) (f l) ∙ or_assoc (has s l) (p l) (q l) ∙ ap (λ x. has s l || x) (h l)

pub marks_then : {A E : Type 0} (r : Result A E) (p q u : Name → Bool) (s m e : Labels) → ((l : Name) → (p l || q l) ≡ u l) → Marks p s m → OnOk r (Marks q m e) → OnOk r (Marks u s e)
marks_then (Ok x) p q u s m e h f g = marks_both p q u s m e h f g
marks_then (Err x) p q u s m e h f g = tt

-- ---- the uses of a term by those of its parts

pub union_use : (n : ℕ) (t a b x y : Term) → t ≡ term.Union a b → x ≡ a → y ≡ b → (l : Name) → (column_use n l (view x) || column_use n l (view y)) ≡ column_use n l (view t)
union_use n t a b x y e f g l = ap₂ (λ c d. column_use n l (view c) || column_use n l (view d)) f g ∙ sym (ap (column_use n l) (ap view e ∙ view_Union a b))

pub loop_use : (n : ℕ) (k : Kind) (t a b x y : Term) → t ≡ term.Ext k a b → x ≡ a → y ≡ b → (l : Name) → (column_use (n + 1) l (view x) || column_use n l (view y)) ≡ column_use n l (view t)
loop_use n k t a b x y e f g l = ap₂ (λ c d. column_use (n + 1) l (view c) || column_use n l (view d)) f g ∙ sym (ap (column_use n l) (ap view e ∙ view_Ext k a b))

pub let_use : (n : ℕ) (t a b x y : Term) → t ≡ term.Let a b → x ≡ a → y ≡ b → (l : Name) → (column_use n l (view x) || column_use (n + 1) l (view y)) ≡ column_use n l (view t)
let_use n t a b x y e f g l = ap₂ (λ c d. column_use n l (view c) || column_use (n + 1) l (view d)) f g ∙ sym (ap (column_use n l) (ap view e ∙ view_Let a b))

pub if_use : (n : ℕ) (t a b c x y z : Term) → t ≡ term.If a b c → x ≡ a → y ≡ b → z ≡ c
    → (l : Name) → (column_use n l (view x) || (column_use n l (view y) || column_use n l (view z))) ≡ column_use n l (view t)
if_use n t a b c x y z e f g h l =
    ap₂ (λ u v. u || v) (ap (λ u. column_use n l (view u)) f) (ap₂ (λ u v. column_use n l (view u) || column_use n l (view v)) g h)
    ∙ sym (ap (column_use n l) (ap view e ∙ view_If a b c))

pub case_use : (n : ℕ) (t a x : Term) (ps qs : List (Name × Term)) (o : Option Term) → t ≡ term.Case a ps o → x ≡ a → qs ≡ ps
    → (l : Name) → (column_use n l (view x) || (column_use_parts (n + 1) l (parts_view qs) || column_use_arms n l (other_view o))) ≡ column_use n l (view t)
case_use n t a x ps qs o e f g l =
    ap₂ (λ u v. u || v) (ap (λ u. column_use n l (view u)) f) (ap (λ us. column_use_parts (n + 1) l (parts_view us) || column_use_arms n l (other_view o)) g ∙ sym (column_branches n l ps (other_view o)))
    ∙ sym (ap (column_use n l) (ap view e ∙ view_Case a ps o))

-- ---- cases

module _ (n : ℕ) (t a x : Term) (ps qs : List (Name × Term)) (s m k : Labels) where
  pub marks_other : {A E : Type 0} (r : Result A E) (o : Option Term) (b d : Term) (e : Labels) → t ≡ term.Case a ps o → x ≡ a → qs ≡ ps → o ≡ Some b → d ≡ b
      → Marks (λ l. column_use n l (view x)) s m → Marks (λ l. column_use_parts (n + 1) l (parts_view qs)) m k → OnOk r (Marks (λ l. column_use n l (view d)) k e)
      → OnOk r (Marks (λ l. column_use n l (view t)) s e)
  marks_other r o b d e is f g some h i j w =
      marks_then r (λ l. column_use n l (view x)) (λ l. column_use_parts (n + 1) l (parts_view qs) || column_use n l (view d)) (λ l. column_use n l (view t)) s m e
      (λ l. ap (λ u. column_use n l (view x) || (column_use_parts (n + 1) l (parts_view qs) || column_use_arms n l u)) (ap (λ u. other_view (Some u)) h ∙ sym (ap other_view some)) ∙ case_use n t a x ps qs o is f g l)
      i
      (marks_then r (λ l. column_use_parts (n + 1) l (parts_view qs)) (λ l. column_use n l (view d)) (λ l. column_use_parts (n + 1) l (parts_view qs) || column_use n l (view d)) m k e (λ l. refl) j w)

  pub marks_branches : (o : Option Term) → t ≡ term.Case a ps o → x ≡ a → qs ≡ ps → o ≡ None
      → Marks (λ l. column_use n l (view x)) s m → Marks (λ l. column_use_parts (n + 1) l (parts_view qs)) m k → Marks (λ l. column_use n l (view t)) s k
  marks_branches o is f g none i j =
      marks_both (λ l. column_use n l (view x)) (λ l. column_use_parts (n + 1) l (parts_view qs)) (λ l. column_use n l (view t)) s m k
      (λ l. ap (λ u. column_use n l (view x) || u) (sym (or-false (column_use_parts (n + 1) l (parts_view qs)))) ∙ ap (λ u. column_use n l (view x) || (column_use_parts (n + 1) l (parts_view qs) || column_use_arms n l u)) (sym (ap other_view none)) ∙ case_use n t a x ps qs o is f g l)
      i j

-- ---- what is left of a body

module _ (k : Kind) (i : ℕ) (t c d e x y z : Term) (f g : Bool) (is : t ≡ term.If c d e) (xc : x ≡ c) (ye : y ≡ e) (fi : f ≡ is_front k (view x) (view y)) (ft : f ≡ true) (zc : z ≡ c)
    (gi : g ≡ is_some (test_of i (view z))) (gf : g ≡ false) where
  -- a condition of the front that is no test stays
  pub condition_stays : left k i (view t) ≡ If (view c) (left k i (view d)) (view e)
  condition_stays =
      let front : is_front k (view c) (view e) ≡ true = ap₂ (λ a b. is_front k (view a) (view b)) (sym xc) (sym ye) ∙ sym fi ∙ ft in
      let none : is_some (test_of i (view c)) ≡ false = ap (λ a. is_some (test_of i (view a))) (sym zc) ∙ sym gi ∙ gf in
      ap (left k i) (ap view is ∙ view_If c d e)
      ∙ ap (λ b. cond b (left_before (test_of i (view c)) (view c) (left k i (view d)) (view e)) (If (view c) (view d) (view e))) front
      ∙ untested (test_of i (view c)) (view c) (left k i (view d)) (view e) none

  pub left_use : (n : ℕ) (w u v : Term) → w ≡ c → u ≡ d → v ≡ e
      → (l : Name) → (column_use n l (view w) || (column_use n l (left k i (view u)) || column_use n l (view v))) ≡ column_use n l (left k i (view t))
  left_use n w u v wc ud ve l =
      ap₂ (λ a b. a || b) (ap (λ a. column_use n l (view a)) wc) (ap₂ (λ a b. column_use n l (left k i (view a)) || column_use n l (view b)) ud ve)
      ∙ sym (ap (column_use n l) condition_stays)

  -- the row is used whole in such a condition, in what is behind it, or nowhere before its other part
  module _ (n : ℕ) (w : Term) (p : Bool) (wc : w ≡ c) (pw : p ≡ whole_use n (view w)) where
    pub whole_here : p ≡ true → true ≡ whole_use n (left k i (view t))
    whole_here h =
        let found : whole_use n (view c) ≡ true = ap (λ a. whole_use n (view a)) (sym wc) ∙ sym pw ∙ h in
        sym (ap (whole_use n) condition_stays ∙ ap (λ b. b || (whole_use n (left k i (view d)) || whole_use n (view e))) found)

    pub whole_behind : p ≡ false → (u : Term) (q : Bool) → u ≡ d → q ≡ whole_use n (left k i (view u)) → whole_use n (left k i (view t)) ≡ (q || whole_use n (view e))
    whole_behind h u q ud qu =
        let none : whole_use n (view c) ≡ false = ap (λ a. whole_use n (view a)) (sym wc) ∙ sym pw ∙ h in
        ap (whole_use n) condition_stays ∙ ap (λ b. b || (whole_use n (left k i (view d)) || whole_use n (view e))) none
        ∙ ap (λ b. b || whole_use n (view e)) (ap (λ a. whole_use n (left k i (view a))) (sym ud) ∙ sym qu)

    pub whole_later : p ≡ false → (u : Term) (q : Bool) → u ≡ d → q ≡ whole_use n (left k i (view u)) → q ≡ true → true ≡ whole_use n (left k i (view t))
    whole_later h u q ud qu found = sym (whole_behind h u q ud qu ∙ ap (λ b. b || whole_use n (view e)) found)

    pub whole_last : p ≡ false → (u v : Term) (q r : Bool) → u ≡ d → q ≡ whole_use n (left k i (view u)) → q ≡ false → v ≡ e → r ≡ whole_use n (view v) → r ≡ whole_use n (left k i (view t))
    whole_last h u v q r ud qu none ve rv = rv ∙ ap (λ a. whole_use n (view a)) ve ∙ sym (whole_behind h u q ud qu ∙ ap (λ b. b || whole_use n (view e)) none)

-- ---- columns by what is marked

pub marked_columns : (n : ℕ) (b : Tree) (w : Bool) (ls : Labels) (all used : List Name) → w ≡ whole_use n b → w ≡ false → ((l : Name) → has ls l ≡ column_use n l b) → used ≡ filter (has ls) all
    → used ≡ in_use n b all
marked_columns n b w ls all used whole not_whole same kept =
    kept ∙ filter_agree (has ls) (λ l. column_use n l b) same all ∙ sym (ap (λ x. cond x all (filter (λ l. column_use n l b) all)) (sym whole ∙ not_whole))
