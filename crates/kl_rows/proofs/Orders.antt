-- An order of marks as a list: each cell stands once, behind its parts.
use Rattle.std.proofs.Common.{◌≡◌, ⊎_elim, ℕ, ◌+◌, ◌<◌, List, [], ◌∷◌, ◌++◌, length, Some, slice_get, refl, sym, ap, ◌∙◌, subst, arith, length-append}
use Rattle.std.proofs.lemmas.Bool.{cases_eq, eq-eqb, ne_eqb}
use Rattle.std.proofs.lemmas.Option.{same_Some, slice_get_within}
use Rattle.kl_rows.specs.declared.cell.Cell.{Cell}
use Rattle.kl_rows.specs.declared.finite.Mark.{Mark}
use Rattle.kl_rows.specs.declared.finite.Mark.TheVariants.{Unseen}
use Rattle.kl_rows.specs.Places.{Parts}
use Rattle.kl_rows.specs.Finite.{Order, mark_of, IsOrder, next_mark, listed, IsOrderOf}
use Rattle.kl_rows.specs.Copying.{IsEarlier, InOrder}
use Rattle.kl_rows.proofs.Assigning.{parts_on}
use Rattle.kl_rows.proofs.CellLists.{get_last, get_first, get_end}
use Rattle.kl_rows.proofs.Ordered.{parts_marked}

record Place (list : List ℕ) (p : ℕ) : Type 0 where
  at : ℕ
  within : at < length list
  here : slice_get list at ≡ Some p

pub mark_here : (i : ℕ) (m : Mark) (os : Order) (p : ℕ) → p ≡ i → mark_of ((i, m) ∷ os) p ≡ m
mark_here i m os p e = rw (eq-eqb p i e) refl

pub mark_there : (i : ℕ) (m : Mark) (os : Order) (p : ℕ) → (p ≡ i → ⊥) → mark_of ((i, m) ∷ os) p ≡ mark_of os p
mark_there i m os p d = rw (ne_eqb p i d) refl

longer : (list : List ℕ) (i : ℕ) → length (list ++ i ∷ []) ≡ length list + 1
longer list i = length-append list (i ∷ [])

-- what is marked stands in the list
seen_listed : (os : Order) (p : ℕ) → (mark_of os p ≡ Unseen → ⊥) → Place (listed os) p
seen_listed [] p h = absurd (h refl)
seen_listed ((i, m) ∷ os) p h = ⊎_elim
    (λ e. record { at = length (listed os); within = omega (arith, longer (listed os) i); here = get_end (listed os) i ∙ ap Some (sym e) })
    (λ d. (let r = seen_listed os p (λ z. h (mark_there i m os p d ∙ z)) in let l = r.within in record { at = r.at; within = omega (arith, longer (listed os) i); here = get_first (listed os) i r.at p r.here }))
    (cases_eq p i)

module _ (cells : List Cell) where
  -- what stands in the list is marked, and is a cell
  listed_seen : (os : Order) → IsOrder cells os → (k p : ℕ) → slice_get (listed os) k ≡ Some p → mark_of os p ≡ Unseen → ⊥
  listed_seen [] o k p h = let z : ⊥ = cc in absurd z
  listed_seen ((i, m) ∷ os) o k p h = ⊎_elim
      (λ e. λ u. o.3 (sym (mark_here i m os p e) ∙ u))
      (λ d. λ u. ⊎_elim (λ g. listed_seen os o.5 k p g (sym (mark_there i m os p d) ∙ u)) (λ g. d g.1) (get_last (listed os) i k p h))
      (cases_eq p i)

  listed_within : (os : Order) → IsOrder cells os → (k p : ℕ) → slice_get (listed os) k ≡ Some p → p < length cells
  listed_within [] o k p h = let z : ⊥ = cc in absurd z
  listed_within ((i, m) ∷ os) o k p h = ⊎_elim (λ g. listed_within os o.5 k p g) (λ g. subst (λ x. x < length cells) (sym g.1) (slice_get_within cells i o.0 o.1)) (get_last (listed os) i k p h)

  listed_once : (os : Order) → IsOrder cells os → (k m p : ℕ) → slice_get (listed os) k ≡ Some p → slice_get (listed os) m ≡ Some p → k ≡ m
  listed_once [] o k m p h g = let z : ⊥ = cc in absurd z
  listed_once ((i, w) ∷ os) o k m p h g = ⊎_elim
      (λ a. ⊎_elim (λ b. listed_once os o.5 k m p a b) (λ b. absurd (listed_seen os o.5 k p a (ap (mark_of os) b.1 ∙ o.4))) (get_last (listed os) i m p g))
      (λ a. ⊎_elim (λ b. absurd (listed_seen os o.5 m p b (ap (mark_of os) a.1 ∙ o.4))) (λ b. a.0 ∙ sym b.0) (get_last (listed os) i m p g))
      (get_last (listed os) i k p h)

  listed_before : (os : Order) → IsOrder cells os → (k i : ℕ) (c : Cell) → slice_get (listed os) k ≡ Some i → slice_get cells i ≡ Some c → Parts c (IsEarlier (listed os) k)
  listed_before [] o k i c h e = let z : ⊥ = cc in absurd z
  listed_before ((j, m) ∷ os) o k i c h e = ⊎_elim
      (λ a. parts_on c (IsEarlier (listed os) k) (IsEarlier (listed ((j, m) ∷ os)) k) (λ p g. (g.0, g.1, get_first (listed os) j g.0 p g.2)) (listed_before os o.5 k i c a e))
      (λ a.
      let same : o.0 ≡ c = same_Some o.0 c (sym o.1 ∙ ap (slice_get cells) (sym a.1) ∙ e) in
      let told : next_mark c (mark_of os) ≡ Unseen → ⊥ = λ u. o.3 (o.2 ∙ ap (λ x. next_mark x (mark_of os)) same ∙ u) in
      parts_on c (λ p. mark_of os p ≡ Unseen → ⊥) (IsEarlier (listed ((j, m) ∷ os)) k)
      (λ p u. (let r = seen_listed os p u in let l = r.within in let end : k ≡ length (listed os) = a.0 in (r.at, omega arith, get_first (listed os) j r.at p r.here)))
      (parts_marked c (mark_of os) told))
      (get_last (listed os) j k i h)

  pub in_order : (list : List ℕ) → IsOrderOf cells list → InOrder cells list
  in_order list w = subst (InOrder cells) (sym w.lists) (record {
    within = listed_within w.order w.is_order;
    before = listed_before w.order w.is_order;
    once = listed_once w.order w.is_order;
    all = λ i l. (let r = seen_listed w.order i (w.all i l) in (r.at, r.here));
  })
