-- What is known of a type, and of a label in a row.
use Rattle.std.proofs.Common.{◌≡◌, ℕ, suc, ◌-◌, ◌≤◌, List, [], ◌∷◌, ◌++◌, length, cond, Bool, true, false, nat_eq, Some, None, sym, ap, ◌∙◌, subst, refl}
use Rattle.std.specs.Cmp.Lexicographic.{pointwise}
use Rattle.kl_base.specs.Fields.{field}
use Rattle.kl_type.specs.Ground.{at}
use Rattle.kl_rows.specs.declared.cell.TypeNode.{TypeNode}
use Rattle.kl_rows.specs.declared.cell.RowNode.{RowNode}
use Rattle.kl_rows.specs.declared.cell.RowNode.TheVariants.{Front}
use Rattle.kl_rows.specs.declared.cell.Cell.{Cell}
use Rattle.kl_rows.specs.declared.cell.Cell.TheVariants.{OfType, OfRow}
use Rattle.kl_rows.specs.declared.looking.Spot.TheVariants.{At, Behind}
use Rattle.kl_rows.specs.Lists.{Fields}
use Rattle.kl_rows.specs.Looking.{KnownAs, Spots, SpotsOn}
use Rattle.kl_rows.specs.Places.{IsType, IsRowAt, IsFine}
use Rattle.kl_rows.specs.Solutions.{Splits, TypeSays}
use Rattle.kl_rows.specs.Walking.{HasType, HasRow, IsTypeRoot, FindsType, Walks}
use Rattle.kl_rows.proofs.ListLemmas.{all_at}
use Rattle.kl_rows.proofs.Walking.{begin, onward_row, step, stop, end as ended}

pub type_same : (m n : TypeNode) → Some (OfType m) ≡ Some (OfType n) → m ≡ n
type_same m n h = cc

pub known_as : (ns : List Cell) (i found : ℕ) (n : TypeNode) → IsFine ns → FindsType ns i found → HasType ns found n → KnownAs ns i n
known_as ns i found n f h e = record {
  place = found;
  here = e;
  links = h.links;
  no_link = subst IsTypeRoot (type_same _ _ (sym h.root.here ∙ e)) h.root.no_link;
  same = h.same;
  placed = f.placed found (OfType n) e;
  says = λ s g. subst (TypeSays n s) (h.same s g) (g.each found (OfType n) e);
}

-- a field of a list is the same in a longer one where it is found, and else the one of the other part
found_front : (l : List ℕ) (fs gs : Fields) (t : ℕ) → field l fs ≡ Some t → field l (fs ++ gs) ≡ Some t
found_front l [] gs t h = let e : ⊥ = cc in absurd e
found_front l (f ∷ fs) gs t h = by_test (pointwise nat_eq l f.0) (λ k. found_front l fs gs t k) h
  where
    by_test : (b : Bool) → (field l fs ≡ Some t → field l (fs ++ gs) ≡ Some t) → cond b (Some f.1) (field l fs) ≡ Some t → cond b (Some f.1) (field l (fs ++ gs)) ≡ Some t
    by_test true rest k = k
    by_test false rest k = rest k

past_front : (l : List ℕ) (fs gs : Fields) → field l fs ≡ None → field l (fs ++ gs) ≡ field l gs
past_front l [] gs h = refl
past_front l (f ∷ fs) gs h = by_test (pointwise nat_eq l f.0) (λ k. past_front l fs gs k) h
  where
    by_test : (b : Bool) → (field l fs ≡ None → field l (fs ++ gs) ≡ field l gs) → cond b (Some f.1) (field l fs) ≡ None → cond b (Some f.1) (field l (fs ++ gs)) ≡ field l gs
    by_test true rest k = let e : ⊥ = cc in absurd e
    by_test false rest k = rest k

module _ (ns : List Cell) (fine : IsFine ns) (row : ℕ) (l : List ℕ) where
  pub spots_from : IsRowAt ns row → SpotsOn ns row l row (length ns - 0)
  spots_from h = record { gives = λ s g. refl; seen = []; none = refl; onward = begin ns row [] fine h refl }

  module _ (end left : ℕ) (so : SpotsOn ns row l end left) where
    pub spots_row : IsRowAt ns end
    spots_row = onward_row ns row end so.seen left so.onward

    pub spot_ended : (n : RowNode) → HasRow ns end n → ((gs : Fields) (r : ℕ) → n ≡ Front gs r → ⊥) → Spots (Behind end) ns row l
    spot_ended n h off = record { there = spots_row; gives = so.gives; fields = so.seen; walks = stop ns row end so.seen left n h off so.onward; lacks = so.none }

    pub spot_spent : left ≤ 0 → Spots (Behind end) ns row l
    spot_spent le = record { there = spots_row; gives = so.gives; fields = so.seen; walks = ended ns row end so.seen left le so.onward; lacks = so.none }

    module _ (n : RowNode) (fs gs : Fields) (r left' : ℕ) (h : HasRow ns end n) (e : n ≡ Front fs r) (is : gs ≡ fs) (fewer : left ≡ suc left') where
      here : HasRow ns end (Front fs r)
      here = h ∙ ap (λ m. Some (OfRow m)) e

      pub spot_here : (t : ℕ) → field l gs ≡ Some t → Spots (At t) ns row l
      spot_here t k =
          let found : field l fs ≡ Some t = ap (field l) (sym is) ∙ k in
          let way = step ns row end so.seen left left' fs (so.seen ++ fs) r n h e refl fewer so.onward in
          record {
            there = all_at (λ m u. IsType ns u) fs l t (fine.placed end (OfRow (Front fs r)) here).0 found;
            gives = λ s g.
                let sp : Splits fs s.types (s.rows end) (s.rows r) = g.each end (OfRow (Front fs r)) here in
                so.gives s g ∙ (all_at (λ m u. (at m (s.rows end) ≡ Some (s.types u)) × (at m (s.rows r) ≡ None)) fs l t sp.fronts found).0;
            fields = (so.seen ++ fs) ++ way.fields;
            end = way.end;
            walks = way.whole;
            found = found_front l (so.seen ++ fs) way.fields t (past_front l so.seen fs so.none ∙ found);
          }

      pub spots_on : field l gs ≡ None → SpotsOn ns row l r left'
      spots_on k =
          let lacks : field l fs ≡ None = ap (field l) (sym is) ∙ k in
          record {
            gives = λ s g.
                let sp : Splits fs s.types (s.rows end) (s.rows r) = g.each end (OfRow (Front fs r)) here in
                so.gives s g ∙ sp.others l lacks;
            seen = so.seen ++ fs;
            none = past_front l so.seen fs so.none ∙ lacks;
            onward = step ns row end so.seen left left' fs (so.seen ++ fs) r n h e refl fewer so.onward;
          }
