-- Marks, one after another.
use Rattle.std.proofs.Common.{◌≡◌, ◌≢◌, ◌↔◌, ⊎_elim, ℕ, zero, suc, ◌<◌, Bool, true, false, not, IsTrue, List, [], ◌∷◌, ◌++◌, length, Option, Some, None, slice_get, get_or, nat_eq, refl, sym, ap, ◌∙◌, subst, arith, length-set}
use mathlib.Core.Path.{fun_ext}
use Rattle.std.specs.Option.{MatchOption, is_some}
use Rattle.std.proofs.Math.ListN.{set}
use Rattle.std.proofs.lemmas.Bool.{cases_eq, eq-eqb, ne_eqb}
use Rattle.std.proofs.lemmas.Option.{slice_get-get_or, slice_get_within}
use Rattle.kl_rows.specs.declared.cell.Cell.{Cell}
use Rattle.kl_rows.specs.declared.finite.Mark.{Mark}
use Rattle.kl_rows.specs.declared.finite.Mark.TheVariants.{Unseen, Full, Bare}
use Rattle.kl_rows.specs.Places.{IsFine}
use Rattle.kl_rows.specs.Finite.{Solvable, or_unseen, mark_in, is_seen, next_mark, pick, mark_of, IsStill, unseen_one, left, Marked, MarksOne, Settled, IsOrderOf}
use Rattle.kl_rows.proofs.CellLists.{get_set_other}
use Rattle.kl_rows.proofs.Ordered.{marked_solvable}
use Rattle.kl_rows.proofs.Depths.{all_marked}
use Rattle.kl_base.proofs.Places.{get-set_same}
use Rattle.kl_rows.proofs.ListLemmas.{no_no}

unseen_is : (m : Mark) → is_seen m ≡ false → m ≡ Unseen
unseen_is Unseen h = refl
unseen_is Full h = let e : ⊥ = cc in absurd e
unseen_is Bare h = let e : ⊥ = cc in absurd e

not_seen : (m : Mark) → not (is_seen m) ≡ false → m ≢ Unseen
not_seen Unseen h e = cc
not_seen Full h e = cc
not_seen Bare h e = cc

seen_none : (n : Mark) → n ≢ Unseen → unseen_one n ≡ 0
seen_none Unseen h = absurd (h refl)
seen_none Full h = refl
seen_none Bare h = refl

left_set : (ms : List Mark) (i : ℕ) (m : Mark) → i < length ms → mark_in ms i ≡ Unseen → m ≢ Unseen → left (set ms i m) < left ms
left_set [] i m l e d = absurd (omega arith)
left_set (x ∷ ms) zero m l e d = let one : unseen_one x ≡ 1 = ap unseen_one e in let none = seen_none m d in omega arith
left_set (x ∷ ms) (suc i) m l e d = let r = left_set ms i m (omega arith) e d in omega arith

module _ (cells : List Cell) (marks : List Mark) (list : List ℕ) (at : ℕ) (lt : at < length cells) (h : Marked cells marks list) where
  pub new_one : (ms new : List Mark) (more : List ℕ) (c : Cell) (m : Mark) (a b : Bool) → more ≡ list ++ at ∷ [] → ms ≡ marks → a ≡ is_seen (mark_in ms at) → a ≡ false → slice_get cells at ≡ Some c → m ≡ next_mark c (mark_in ms) → b ≡ not (is_seen m) → b ≡ false → new ≡ set marks at m
      → MarksOne true cells marks new more at
  new_one ms new more c m a b k e p q here f g t n =
      let same : mark_in marks ≡ mark_of h.order = fun_ext h.same in
      let was : mark_in marks at ≡ Unseen = unseen_is (mark_in marks at) (ap (λ xs. is_seen (mark_in xs at)) (sym e) ∙ sym p ∙ q) in
      let told : m ≡ next_mark c (mark_of h.order) = f ∙ ap (λ xs. next_mark c (mark_in xs)) e ∙ ap (next_mark c) same in
      let seen : m ≢ Unseen = not_seen m (sym g ∙ t) in
      let within : at < length marks = let z = h.size in omega arith in
      subst (λ ks. MarksOne true cells marks new ks at) (sym k) (subst (λ xs. MarksOne true cells marks xs (list ++ at ∷ []) at) (sym n) (record {
        marked = record {
          order = (at, m) ∷ h.order;
          is_order = (c, here, told, seen, sym (h.same at) ∙ was, h.is_order);
          same = λ i. ⊎_elim
              (λ s.
              let new_mark : pick (nat_eq i at) m (mark_of h.order i) ≡ m = rw (eq-eqb i at s) refl in
              ap (λ j. mark_in (set marks at m) j) s ∙ ap or_unseen (get-set_same marks at m within) ∙ sym new_mark)
              (λ d. (let old_mark : pick (nat_eq i at) m (mark_of h.order i) ≡ mark_of h.order i = rw (ne_eqb i at d) refl in ap or_unseen (get_set_other marks at i m (λ z. d (sym z))) ∙ h.same i ∙ sym old_mark))
              (cases_eq i at);
          size = length-set marks at m ∙ h.size;
          lists = ap (λ ks. ks ++ at ∷ []) h.lists;
        };
        less = λ z. left_set marks at m within was seen;
        same = λ z. no_no z;
        still = λ z. no_no z;
      }))

pub decided : (cells : List Cell) (marks ms : List Mark) (list : List ℕ) (b : Bool) → IsFine cells → Settled cells marks list → ms ≡ marks → IsTrue b ↔ ((i : ℕ) → i < length ms → mark_in ms i ≢ Unseen) → IsTrue b ↔ Solvable cells
decided cells marks ms list b fine h e d =
    let told = subst (λ xs. IsTrue b ↔ ((i : ℕ) → i < length xs → mark_in xs i ≢ Unseen)) e d in
    let w = h.marked in
    let same : mark_in marks ≡ mark_of w.order = fun_ext w.same in
    let still : IsStill cells (mark_of w.order) = λ i c q k. subst (λ f. f i ≢ Unseen) same (h.still i (slice_get_within cells i c q) c q (subst (λ f. next_mark c f ≢ Unseen) (sym same) k)) in
    let size = w.size in (
      λ t. marked_solvable cells fine w.order w.is_order (λ i l z. told.0 t i (omega arith) (w.same i ∙ z)),
      λ s. told.1 (λ i l z. (let lt : i < length cells = omega arith in all_marked cells s.by fine s.solves w.order w.is_order still i (get_or cells i (first_cell cells i lt)) (slice_get-get_or cells i (first_cell cells i lt) lt) (sym (w.same i) ∙ z))),
    )
  where
    first_cell : (xs : List Cell) (i : ℕ) → i < length xs → Cell
    first_cell [] i l = absurd (omega arith)
    first_cell (x ∷ xs) i l = x

pub solved_order : (cells : List Cell) (list : List ℕ) → IsFine cells → IsOrderOf cells list → Solvable cells
solved_order cells list fine o = marked_solvable cells fine o.order o.is_order o.all

pub never_solved : (cells : List Cell) (b : Bool) → IsTrue b ↔ Solvable cells → b ≡ false → Solvable cells → ⊥
never_solved cells b told e s = let t : IsTrue false = subst (λ x. IsTrue x) e (told.1 s) in let z : ⊥ = cc in z

pub found_solved : {V : Type 0} (cells : List Cell) (items : V → List ℕ) (o : Option V) (b : Bool) → IsFine cells → MatchOption o (Solvable cells → ⊥) (λ v. IsOrderOf cells (items v)) → b ≡ is_some o → IsTrue b ↔ Solvable cells
found_solved cells items None b fine h e = ((λ t. (let z : IsTrue false = subst (λ x. IsTrue x) e t in let y : ⊥ = cc in absurd y)), (λ s. absurd (h s)))
found_solved cells items (Some v) b fine h e = ((λ t. solved_order cells (items v) fine h), (λ s. subst (λ x. IsTrue x) (sym e) refl))
