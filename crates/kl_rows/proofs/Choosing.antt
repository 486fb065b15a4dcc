-- An open part of a scheme may be given any type or kind: each other part then has what it says.
use Rattle.std.proofs.Common.{◌≡◌, ⊎_elim, ℕ, zero, suc, ◌+◌, ◌<◌, ◌≤◌, true, List, [], ◌∷◌, ◌++◌, length, take, Some, nat_eq, slice_get, refl, sym, ap, ◌∙◌, subst, arith}
use Rattle.std.proofs.lemmas.Bool.{cases_eq, eq-eqb, eqb-true}
use Rattle.std.proofs.lemmas.Option.{same_Some}
use Rattle.kl_value.specs.declared.value.Kind.{Kind}
use Rattle.kl_type.specs.Ground.{Ground, IsGround}
use Rattle.kl_rows.specs.declared.cell.TypeNode.TheVariants.{AnyType, Var}
use Rattle.kl_rows.specs.declared.cell.KindNode.TheVariants.{AnyKind}
use Rattle.kl_rows.specs.declared.cell.RowNode.TheVariants.{AnyRow, NoRow, Front}
use Rattle.kl_rows.specs.declared.cell.Cell.{Cell}
use Rattle.kl_rows.specs.declared.cell.Cell.TheVariants.{OfType, OfFunction, OfRow, OfKind}
use Rattle.kl_rows.specs.declared.schemes.Scheme.{Scheme}
use Rattle.kl_rows.specs.Lists.{Fields}
use Rattle.kl_rows.specs.Places.{Parts, a_row, sort_of, sort_at, IsRowAt, Walk, total, chained_one, Ended, IsFine}
use Rattle.kl_rows.specs.Solutions.{Assignment, Says, Solves}
use Rattle.kl_rows.specs.Finite.{Order, mark_of, IsOrder, next_mark}
use Rattle.kl_rows.specs.declared.finite.Mark.TheVariants.{Unseen}
use Rattle.kl_rows.specs.Copying.{IsSource}
use Rattle.kl_rows.specs.Schemes.{cells_of, IsScheme}
use Rattle.kl_rows.proofs.Assigning.{parts_on, with_type, with_kind, type_put, kind_put}
use Rattle.kl_rows.proofs.CellLists.{stands, sort_here}
use Rattle.kl_rows.proofs.Depths.{next_seen}
use Rattle.kl_rows.proofs.Ordered.{Start, Whole, started_solvable}
use Rattle.kl_rows.proofs.Orders.{mark_here, mark_there}
use Rattle.kl_rows.proofs.Settlements.{scheme_source}
use Rattle.kl_type.proofs.RowLemmas.{none_some}

sum_before : (f : Cell → ℕ) (cs : List Cell) (i k : ℕ) (c : Cell) → slice_get cs i ≡ Some c → i < k → total f (take i cs) + f c ≤ total f (take k cs)
sum_before f [] i k c e lt = none_some c _ e
sum_before f (d ∷ cs) zero zero c e lt = absurd (omega arith)
sum_before f (d ∷ cs) zero (suc k) c e lt = let same : f d ≡ f c = ap f (same_Some d c e) in omega arith
sum_before f (d ∷ cs) (suc i) zero c e lt = absurd (omega arith)
sum_before f (d ∷ cs) (suc i) (suc k) c e lt = let r = sum_before f cs i k c e (omega arith) in omega arith

sum_within : (f : Cell → ℕ) (cs : List Cell) (k : ℕ) → total f (take k cs) ≤ total f cs
sum_within f [] zero = omega arith
sum_within f [] (suc k) = omega arith
sum_within f (d ∷ cs) zero = omega arith
sum_within f (d ∷ cs) (suc k) = let r = sum_within f cs k in omega arith

cell_within : (cs : List Cell) (i : ℕ) → i < length cs → (c : Cell) × (slice_get cs i ≡ Some c)
cell_within [] i lt = absurd (omega arith)
cell_within (c ∷ cs) zero lt = (c, refl)
cell_within (c ∷ cs) (suc i) lt = cell_within cs i (omega arith)

module _ (cells : List Cell) (source : IsSource cells) (before : (i : ℕ) (c : Cell) → slice_get cells i ≡ Some c → Parts c (λ p. p < i)) where
  -- a row that ends, over no more rests than the first cells have
  record EndsWithin (k i : ℕ) : Type 0 where
    steps : ℕ
    fields : Fields
    end : ℕ
    walk : Walk cells steps i fields end
    short : steps ≤ total chained_one (take k cells)

  ends_within : (n k i : ℕ) → i < k → k ≤ n → IsRowAt cells i → EndsWithin k i
  ends_within zero k i lt le q = absurd (omega arith)
  ends_within (suc n) k i lt le q = let st = stands cells i a_row q in go st.cell st.here st.sort (λ r l s. ends_within n i r l (omega arith) s)
    where
      go : (c : Cell) → slice_get cells i ≡ Some c → sort_of c ≡ a_row → ((r : ℕ) → r < i → IsRowAt cells r → EndsWithin i r) → EndsWithin k i
      go (OfRow (AnyRow ls)) e s rests = record { steps = 0; fields = []; end = i; walk = (refl, refl, record { node = AnyRow ls; here = e; is_end = tt }); short = omega arith }
      go (OfRow NoRow) e s rests = record { steps = 0; fields = []; end = i; walk = (refl, refl, record { node = NoRow; here = e; is_end = tt }); short = omega arith }
      go (OfRow (Front fs r)) e s rests =
          let rest = rests r (before i (OfRow (Front fs r)) e).1 (source.placed i (OfRow (Front fs r)) e).1 in
          let le = rest.short in
          let more = sum_before chained_one cells i k (OfRow (Front fs r)) e lt in
          record { steps = suc rest.steps; fields = fs ++ rest.fields; end = rest.end; walk = (fs, rest.fields, r, record { here = e }, refl, rest.walk); short = omega arith }
      go (OfType n) e s rests = let z : ⊥ = cc in absurd z
      go (OfFunction a b) e s rests = let z : ⊥ = cc in absurd z
      go (OfKind n) e s rests = let z : ⊥ = cc in absurd z

  ends : (i : ℕ) → IsRowAt cells i → Ended cells i
  ends i q =
      let r = ends_within (suc i) (suc i) i (omega arith) (omega arith) q in
      let le = r.short in
      record { steps = r.steps; fields = r.fields; end = r.end; walk = r.walk; short = omega (arith, sum_within chained_one cells (suc i)) }

  fine : IsFine cells
  fine = record { tidy = source.tidy; placed = source.placed; ended = ends }

  module _ (s : Assignment) (h : Solves cells s) where
    -- the first cells are marked, in their order
    record OrderTo (n : ℕ) : Type 0 where
      order : Order
      is_order : IsOrder cells order
      seen : (i : ℕ) → i < n → mark_of order i ≡ Unseen → ⊥
      unseen : (i : ℕ) → n ≤ i → mark_of order i ≡ Unseen

    order_to : (n : ℕ) → n ≤ length cells → OrderTo n
    order_to zero le = record { order = []; is_order = tt; seen = λ i l. absurd (omega arith); unseen = λ i l. refl }
    order_to (suc n) le =
        let o = order_to n (omega arith) in
        let c = cell_within cells n (omega arith) in
        let m = next_mark c.0 (mark_of o.order) in
        let told : m ≡ Unseen → ⊥ = next_seen cells s fine h o.order o.is_order n c.0 c.1 (parts_on c.0 (λ p. p < n) (λ p. mark_of o.order p ≡ Unseen → ⊥) o.seen (before n c.0 c.1)) in
        record {
          order = (n, m) ∷ o.order;
          is_order = (c.0, c.1, refl, told, o.unseen n (omega arith), o.is_order);
          seen = λ i l. ⊎_elim (λ e. λ z. told (sym (mark_here n m o.order i e) ∙ z)) (λ d. λ z. o.seen i (below i n l d) (sym (mark_there n m o.order i d) ∙ z)) (cases_eq i n);
          unseen = λ i l. mark_there n m o.order i (λ e. (let z : ⊥ = omega arith in z)) ∙ o.unseen i (omega arith);
        }
      where
        below : (i n : ℕ) → i < suc n → (i ≡ n → ⊥) → i < n
        below i n l d = grind arith

    module _ (i : ℕ) (c : Cell) (here : slice_get cells i ≡ Some c) (no_row : sort_of c ≡ a_row → ⊥) (parts : Parts c (λ p. nat_eq p i ≡ true)) (v : Assignment) (says : Says c v i) where
      not_here : (P : Type 0) (r : ℕ) → IsRowAt cells r → nat_eq r i ≡ true → P
      not_here P r q k = absurd (no_row (same_Some _ _ (sym (sort_here cells i c here) ∙ sym (ap (sort_at cells) (eqb-true r i k)) ∙ q)))

      choice : Start cells (λ j. nat_eq j i)
      choice = record {
        by = v;
        says = λ j d e k. (let at : j ≡ i = eqb-true j i k in subst (λ x. Says x v j) (same_Some c d (sym here ∙ sym (ap (slice_get cells) at) ∙ e)) (subst (Says c v) (sym at) says));
        parts = λ j d e k. (let at : j ≡ i = eqb-true j i k in subst (λ x. Parts x (λ p. nat_eq p i ≡ true)) (same_Some c d (sym here ∙ sym (ap (slice_get cells) at) ∙ e)) parts);
        variants = λ j r e k. not_here _ r (source.placed j (OfType (Var r)) e) k;
        bares = λ j r e k. not_here _ r (source.placed j (OfRow (Front [] r)) e).1 k;
      }

      chosen : Whole cells (λ j. nat_eq j i) choice
      chosen = let o = order_to (length cells) (omega arith) in started_solvable cells (λ j. nat_eq j i) choice fine o.order o.is_order o.seen

    any_type : (i : ℕ) → slice_get cells i ≡ Some (OfType AnyType) → (t : Ground) → IsGround t → (u : Assignment) × Solves cells u × (u.types i ≡ t)
    unfolding choice
    any_type i e t g =
        let w = chosen i (OfType AnyType) e (λ z. (let y : ⊥ = cc in y)) tt (with_type s i t g) tt in
        (w.by, w.solves, (w.same i (eq-eqb i i refl)).0 ∙ (type_put s i t g).1)

    any_kind : (i : ℕ) → slice_get cells i ≡ Some (OfKind AnyKind) → (k : Kind) → (u : Assignment) × Solves cells u × (u.kinds i ≡ k)
    unfolding choice
    any_kind i e k =
        let w = chosen i (OfKind AnyKind) e (λ z. (let y : ⊥ = cc in y)) tt (with_kind s i k) tt in
        (w.by, w.solves, (w.same i (eq-eqb i i refl)).2 ∙ (kind_put s i k).1)

-- an open type of a scheme that has a solution may be any type
pub type_chosen : (scheme : Scheme) → IsScheme scheme → (s : Assignment) → Solves (cells_of scheme.nodes) s → (i : ℕ) → slice_get (cells_of scheme.nodes) i ≡ Some (OfType AnyType) → (t : Ground) → IsGround t
    → (u : Assignment) × Solves (cells_of scheme.nodes) u × (u.types i ≡ t)
type_chosen scheme g s h = any_type (cells_of scheme.nodes) (scheme_source scheme (cells_of scheme.nodes) refl g) g.before s h

-- and an open kind any kind
pub kind_chosen : (scheme : Scheme) → IsScheme scheme → (s : Assignment) → Solves (cells_of scheme.nodes) s → (i : ℕ) → slice_get (cells_of scheme.nodes) i ≡ Some (OfKind AnyKind) → (k : Kind)
    → (u : Assignment) × Solves (cells_of scheme.nodes) u × (u.kinds i ≡ k)
kind_chosen scheme g s h = any_kind (cells_of scheme.nodes) (scheme_source scheme (cells_of scheme.nodes) refl g) g.before s h
