-- A stable sort by label leaves the fields of a record in their order, and those of equal labels alike.
use Rattle.std.proofs.Common.{◌≡◌, Bool, true, false, cond, List, [], ◌∷◌, map, refl, sym, ap, ◌∙◌, is_gt}
use Rattle.std.specs.List.Sorted.{IsSortedBy, IsStableBy}
use Rattle.std.proofs.lemmas.Cmp.{on_total, nat_list_cmp_total}
use Rattle.kl_base.specs.Fields.{bytes_cmp}
use Rattle.kl_base.specs.Sorted.{put_in}
use Rattle.kl_base.proofs.FieldsLemmas.{by_label as below}
use Rattle.kl_base.proofs.StableSorts.{stable_is}
use Rattle.kl_outcome.specs.Outcome.{Name}
use Rattle.kl_outcome.proofs.Refining.{Pairs}
use Rattle.kl_prim.specs.Records.{by_label, in_order}
use Rattle.kl_core.specs.declared.term.Term.{Term}
use Rattle.kl_core.specs.Trees.{view_part}

-- what a stable sort by label leaves
pub sorted_order : {T : Type 0} (fs gs : List (Name × T)) → IsSortedBy below gs → IsStableBy below fs gs → gs ≡ in_order fs
sorted_order {T} fs gs up stable = stable_is by_label (on_total (λ (f : Name × T). f.0) nat_list_cmp_total) fs gs up stable

put_view : (f : Name × Term) (fs : List (Name × Term)) → map view_part (put_in by_label f fs) ≡ put_in by_label (view_part f) (map view_part fs)
put_view f [] = refl
put_view f (g ∷ fs) =
    elim (is_gt (bytes_cmp f.0 g.0)) as (λ b. map view_part (cond b (g ∷ put_in by_label f fs) (f ∷ g ∷ fs)) ≡ cond b (view_part g ∷ put_in by_label (view_part f) (map view_part fs)) (view_part f ∷ view_part g ∷ map view_part fs)) [
      | true ↦ ap (λ z. view_part g ∷ z) (put_view f fs)
      | false ↦ refl
    ]

order_view : (fs : List (Name × Term)) → map view_part (in_order fs) ≡ in_order (map view_part fs)
order_view [] = refl
order_view (f ∷ fs) = put_view f (in_order fs) ∙ ap (put_in by_label (view_part f)) (order_view fs)

pub sorted_view : (fs gs : List (Name × Term)) → IsSortedBy below gs → IsStableBy below fs gs → map view_part gs ≡ in_order (map view_part fs)
sorted_view fs gs up stable = ap (map view_part) (sorted_order fs gs up stable) ∙ order_view fs

-- pairs of the same labels are ordered alike
module _ {A B : Type 0} (R : A → B → Type 0) where
  put_by : (b c : Bool) (x y : Name × A) (x' y' : Name × B) (xs ys : List (Name × A)) (xs' ys' : List (Name × B)) → b ≡ c → (x.0 ≡ x'.0) → R x.1 x'.1 → (y.0 ≡ y'.0) → R y.1 y'.1 → Pairs R xs xs' → Pairs R ys ys'
      → Pairs R (cond b (y ∷ xs) (x ∷ y ∷ ys)) (cond c (y' ∷ xs') (x' ∷ y' ∷ ys'))
  put_by true c x y x' y' xs ys xs' ys' e p q r s h k = rw (sym e) (r, s, h)
  put_by false c x y x' y' xs ys xs' ys' e p q r s h k = rw (sym e) (p, q, (r, s, k))

  put_up : (x : Name × A) (x' : Name × B) (ys : List (Name × A)) (ys' : List (Name × B)) → (x.0 ≡ x'.0) → R x.1 x'.1 → Pairs R ys ys' → Pairs R (put_in by_label x ys) (put_in by_label x' ys')
  put_up x x' [] [] p q h = (p, q, tt)
  put_up x x' [] (y' ∷ ys') p q h = absurd h
  put_up x x' (y ∷ ys) [] p q h = absurd h
  put_up x x' (y ∷ ys) (y' ∷ ys') p q (r, s, h) =
      put_by (is_gt (by_label x y)) (is_gt (by_label x' y')) x y x' y' _ ys _ ys' (rw (p, r) refl) p q r s (put_up x x' ys ys' p q h) h

  pub order_up : (xs : List (Name × A)) (ys : List (Name × B)) → Pairs R xs ys → Pairs R (in_order xs) (in_order ys)
  order_up [] [] h = tt
  order_up [] (y ∷ ys) h = absurd h
  order_up (x ∷ xs) [] h = absurd h
  order_up (x ∷ xs) (y ∷ ys) (p, q, h) = put_up x y (in_order xs) (in_order ys) p q (order_up xs ys h)
