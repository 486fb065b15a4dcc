-- The kind of a scheme's collections.
use Rattle.std.proofs.Common.{◌≡◌, ◌⊎◌, inl, inr, ⊎_elim, ℕ, zero, suc, List, [], ◌∷◌, Option, Some, None, option_map, slice_get, refl, sym, ap, ◌∙◌}
use Rattle.std.specs.Prelude.{IfSome}
use Rattle.std.proofs.lemmas.Option.{same_Some}
use Rattle.kl_value.specs.declared.Kind.{Kind}
use Rattle.kl_value.specs.declared.Kind.TheVariants as kind
use Rattle.kl_type.specs.Ground.{Ground, int, rec, var, coll, arrow}
use Rattle.kl_type.specs.declared.Ty.{Ty, Ty-F, out-Ty}
use Rattle.kl_rows.specs.declared.cell.Scalar.{Scalar}
use Rattle.kl_rows.specs.declared.cell.Scalar.TheVariants as scalar
use Rattle.kl_rows.specs.declared.cell.TypeNode.TheVariants as type
use Rattle.kl_rows.specs.declared.cell.KindNode.TheVariants as kinds
use Rattle.kl_rows.specs.declared.cell.Cell.{Cell}
use Rattle.kl_rows.specs.declared.cell.Cell.TheVariants.{OfType, OfKind}
use Rattle.kl_rows.specs.declared.schemes.Node.TheVariants as node
use Rattle.kl_rows.specs.declared.schemes.Part.{Part}
use Rattle.kl_rows.specs.declared.schemes.Part.TheVariants.{Is, AnyType, AnyRow, AnyKind}
use Rattle.kl_rows.specs.declared.schemes.Scheme.{Scheme}
use Rattle.kl_rows.specs.Places.{a_type, a_function, a_row, a_kind, sort_of, sort_at, IsTyped}
use Rattle.kl_rows.specs.Solutions.{scalar_type}
use Rattle.kl_rows.specs.Schemes.{base_node, cell_of, cells_of, given, Instance, IsScheme}
use Rattle.kl_rows.proofs.CellLists.{stands}
use Rattle.kl_rows.proofs.Choosing.{type_chosen, kind_chosen}
use Rattle.kl_infer.specs.Kinds.{fixed_kind, kind_place, kind_at, known_kind, HasOther}
use Rattle.kl_infer.proofs.TreeLemmas.{get_cells}

fixed_is : (o : Option Part) (k : Kind) → fixed_kind o ≡ Some k → o ≡ Some (Is (node.Fixed k))
fixed_is None k e = let z : ⊥ = cc in absurd z
fixed_is (Some (Is (node.Fixed j))) k e = let z : j ≡ k = cc in ap (λ x. Some (Is (node.Fixed x))) z
fixed_is (Some (Is (node.Base t))) k e = let z : ⊥ = cc in absurd z
fixed_is (Some (Is (node.Rec r))) k e = let z : ⊥ = cc in absurd z
fixed_is (Some (Is (node.Var r))) k e = let z : ⊥ = cc in absurd z
fixed_is (Some (Is (node.Coll j t))) k e = let z : ⊥ = cc in absurd z
fixed_is (Some (Is (node.Arrow a b))) k e = let z : ⊥ = cc in absurd z
fixed_is (Some (Is (node.Row l t r))) k e = let z : ⊥ = cc in absurd z
fixed_is (Some (Is node.EmptyRow)) k e = let z : ⊥ = cc in absurd z
fixed_is (Some AnyType) k e = let z : ⊥ = cc in absurd z
fixed_is (Some (AnyRow ls)) k e = let z : ⊥ = cc in absurd z
fixed_is (Some AnyKind) k e = let z : ⊥ = cc in absurd z

abbrev Gives : Scheme → Kind → Type 0
Gives s k = (t : Ground) → Instance s t → (a : Ground) × (t ≡ coll k a)

gives_at : (s : Scheme) (k : Kind) (o : Option Part) → slice_get s.nodes s.root ≡ o → kind_at s.nodes (kind_place o) ≡ Some k → Gives s k
gives_at s k (Some (Is (node.Coll j a))) here e t i =
    let f = fixed_is (slice_get s.nodes j) k e in
    let whole : i.by.types s.root ≡ coll (i.by.kinds j) (i.by.types a) = i.solves.each s.root _ (get_cells s.nodes s.root _ here) in
    let kind : i.by.kinds j ≡ k = i.solves.each j _ (get_cells s.nodes j _ f) in
    let sort : sort_at (cells_of s.nodes) s.root ≡ Some a_type = ap (option_map sort_of) (get_cells s.nodes s.root _ here) in
    (i.by.types a, sym i.root_is ∙ ap (λ q. given q i.by s.root) sort ∙ whole ∙ ap (λ x. coll x (i.by.types a)) kind)
gives_at s k None here e t i = let z : ⊥ = cc in absurd z
gives_at s k (Some (Is (node.Base b))) here e t i = let z : ⊥ = cc in absurd z
gives_at s k (Some (Is (node.Rec r))) here e t i = let z : ⊥ = cc in absurd z
gives_at s k (Some (Is (node.Var r))) here e t i = let z : ⊥ = cc in absurd z
gives_at s k (Some (Is (node.Fixed j))) here e t i = let z : ⊥ = cc in absurd z
gives_at s k (Some (Is (node.Arrow a b))) here e t i = let z : ⊥ = cc in absurd z
gives_at s k (Some (Is (node.Row l a r))) here e t i = let z : ⊥ = cc in absurd z
gives_at s k (Some (Is node.EmptyRow)) here e t i = let z : ⊥ = cc in absurd z
gives_at s k (Some AnyType) here e t i = let z : ⊥ = cc in absurd z
gives_at s k (Some (AnyRow ls)) here e t i = let z : ⊥ = cc in absurd z
gives_at s k (Some AnyKind) here e t i = let z : ⊥ = cc in absurd z

-- each instance is a collection of the known kind
pub kind_gives : (s : Scheme) (o : Option Kind) → o ≡ known_kind s → IfSome o (Gives s)
kind_gives s (Some k) e = gives_at s k (slice_get s.nodes s.root) refl (sym e)
kind_gives s None e = tt

-- the part that says what a cell says
get_part : (parts : List Part) (i : ℕ) (c : Cell) → slice_get (cells_of parts) i ≡ Some c → (p : Part) × (slice_get parts i ≡ Some p) × (cell_of p ≡ c)
get_part [] i c e = let z : ⊥ = cc in absurd z
get_part (p ∷ parts) zero c e = (p, refl, same_Some (cell_of p) c e)
get_part (p ∷ parts) (suc i) c e = get_part parts i c e

IsOpenOrFixed : Part → Type 0
IsOpenOrFixed p = (p ≡ AnyKind) ⊎ ((f : Kind) × (p ≡ Is (node.Fixed f)))

kind_part : (p : Part) → sort_of (cell_of p) ≡ a_kind → IsOpenOrFixed p
unfolding IsOpenOrFixed
kind_part AnyKind e = inl refl
kind_part (Is (node.Fixed f)) e = inr (f, refl)
kind_part (Is (node.Base t)) e = let z : ⊥ = cc in absurd z
kind_part (Is (node.Rec r)) e = let z : ⊥ = cc in absurd z
kind_part (Is (node.Var r)) e = let z : ⊥ = cc in absurd z
kind_part (Is (node.Coll j t)) e = let z : ⊥ = cc in absurd z
kind_part (Is (node.Arrow a b)) e = let z : ⊥ = cc in absurd z
kind_part (Is (node.Row l t r)) e = let z : ⊥ = cc in absurd z
kind_part (Is node.EmptyRow) e = let z : ⊥ = cc in absurd z
kind_part AnyType e = let z : ⊥ = cc in absurd z
kind_part (AnyRow ls) e = let z : ⊥ = cc in absurd z

another : Kind → Kind
another kind.Set = kind.Bag
another kind.Bag = kind.Set
another kind.List = kind.Set

is_other : (k : Kind) → another k ≡ k → ⊥
unfolding another
is_other kind.Set e = cc
is_other kind.Bag e = cc
is_other kind.List e = cc

-- the cell of a base type has no parts
base_is : (b : Ty) (l : Ty-F Ty) → out-Ty b ≡ l → ((x : Scalar) × (base_node b ≡ type.Base x)) ⊎ (base_node b ≡ type.AnyType)
base_is b Ty-F.Bool e = inl (scalar.Bool, rw e refl)
base_is b Ty-F.Int e = inl (scalar.Int, rw e refl)
base_is b Ty-F.Str e = inl (scalar.Str, rw e refl)
base_is b (Ty-F.Rec fs) e = inr (rw e refl)
base_is b (Ty-F.Var fs) e = inr (rw e refl)
base_is b (Ty-F.Coll k t) e = inr (rw e refl)

scalar_other : (x : Scalar) (k : Kind) (a : Ground) → scalar_type x ≡ coll k a → ⊥
scalar_other scalar.Bool k a e = cc
scalar_other scalar.Int k a e = cc
scalar_other scalar.Str k a e = cc

module _ (s : Scheme) (good : IsScheme s) (k : Kind) (t : Ground) (i : Instance s t) where
  root_sort : (c : Cell) → slice_get (cells_of s.nodes) s.root ≡ Some c → sort_at (cells_of s.nodes) s.root ≡ Some (sort_of c)
  root_sort c here = ap (option_map sort_of) here

  -- the instance itself
  itself : (c : Cell) (u : Ground) → slice_get (cells_of s.nodes) s.root ≡ Some c → given (Some (sort_of c)) i.by s.root ≡ u → ((a : Ground) → u ≡ coll k a → ⊥) → HasOther s k
  itself c u here e d = (t, i, λ a q. d a (sym e ∙ sym (ap (λ o. given o i.by s.root) (root_sort c here)) ∙ i.root_is ∙ q))

  open_root : slice_get (cells_of s.nodes) s.root ≡ Some (OfType type.AnyType) → HasOther s k
  open_root here =
      let w = type_chosen s good i.by i.solves s.root here int tt in
      (int, record { by = w.0; solves = w.1; root_is = ap (λ o. given o w.0 s.root) (root_sort _ here) ∙ w.2 }, λ a e. (let z : ⊥ = cc in z))

  base_root : (b : Ty) → slice_get (cells_of s.nodes) s.root ≡ Some (OfType (base_node b)) → HasOther s k
  base_root b here = ⊎_elim
      (λ x. (let at : slice_get (cells_of s.nodes) s.root ≡ Some (OfType (type.Base x.0)) = here ∙ ap (λ n. Some (OfType n)) x.1 in itself _ (scalar_type x.0) at (i.solves.each s.root _ at) (scalar_other x.0 k)))
      (λ e. open_root (here ∙ ap (λ n. Some (OfType n)) e))
      (base_is b (out-Ty b) refl)

  open_kind : (j a : ℕ) → slice_get (cells_of s.nodes) s.root ≡ Some (OfType (type.Coll j a)) → slice_get (cells_of s.nodes) j ≡ Some (OfKind kinds.AnyKind) → HasOther s k
  open_kind j a here at =
      let w = kind_chosen s good i.by i.solves j at (another k) in
      let u = w.0 in
      let solves = w.1 in (
        coll (u.kinds j) (u.types a),
        record { by = u; solves = solves; root_is = ap (λ o. given o u s.root) (root_sort _ here) ∙ solves.each s.root _ here },
        λ x e. (let same : u.kinds j ≡ k = cc in is_other k (sym w.2 ∙ same)),
      )

  collection_root : (j a : ℕ) → slice_get (cells_of s.nodes) s.root ≡ Some (OfType (type.Coll j a)) → (fixed_kind (slice_get s.nodes j) ≡ Some k → ⊥) → HasOther s k
  unfolding IsOpenOrFixed
  collection_root j a here unlike =
      let st = stands (cells_of s.nodes) j a_kind (good.placed s.root _ here).0 in
      let p = get_part s.nodes j st.cell st.here in
      ⊎_elim
      (λ e. open_kind j a here (get_cells s.nodes j AnyKind (p.1 ∙ ap Some e)))
      (λ f.
      let at : slice_get s.nodes j ≡ Some (Is (node.Fixed f.0)) = p.1 ∙ ap Some f.1 in
      let known : i.by.kinds j ≡ f.0 = i.solves.each j _ (get_cells s.nodes j _ at) in
      itself _ (coll (i.by.kinds j) (i.by.types a)) here (i.solves.each s.root _ here) (λ x e. (let same : i.by.kinds j ≡ k = cc in unlike (ap fixed_kind at ∙ ap Some (sym known ∙ same)))))
      (kind_part p.0 (ap sort_of p.2 ∙ st.sort))

  no_row : (P : Type 0) → (a_row ≡ a_type) ⊎ (a_row ≡ a_function) → P
  no_row P (inl e) = let z : ⊥ = cc in absurd z
  no_row P (inr e) = let z : ⊥ = cc in absurd z

  no_kind : (P : Type 0) → (a_kind ≡ a_type) ⊎ (a_kind ≡ a_function) → P
  no_kind P (inl e) = let z : ⊥ = cc in absurd z
  no_kind P (inr e) = let z : ⊥ = cc in absurd z

  root_other : (p : Part) → slice_get s.nodes s.root ≡ Some p → (sort_of (cell_of p) ≡ a_type) ⊎ (sort_of (cell_of p) ≡ a_function) → (kind_at s.nodes (kind_place (Some p)) ≡ Some k → ⊥) → HasOther s k
  root_other (Is (node.Base b)) e q unlike = base_root b (get_cells s.nodes s.root _ e)
  root_other (Is (node.Rec r)) e q unlike = let here = get_cells s.nodes s.root _ e in itself _ (rec (i.by.rows r)) here (i.solves.each s.root _ here) (λ a z. cc)
  root_other (Is (node.Var r)) e q unlike = let here = get_cells s.nodes s.root _ e in itself _ (var (i.by.rows r)) here (i.solves.each s.root _ here) (λ a z. cc)
  root_other (Is (node.Coll j a)) e q unlike = collection_root j a (get_cells s.nodes s.root _ e) unlike
  root_other (Is (node.Arrow a b)) e q unlike = let here = get_cells s.nodes s.root _ e in itself _ (arrow (i.by.types a) (i.by.types b)) here (i.solves.each s.root _ here) (λ x z. cc)
  root_other (Is (node.Row l a r)) e q unlike = no_row _ q
  root_other (Is node.EmptyRow) e q unlike = no_row _ q
  root_other (Is (node.Fixed f)) e q unlike = no_kind _ q
  root_other AnyType e q unlike = open_root (get_cells s.nodes s.root _ e)
  root_other (AnyRow ls) e q unlike = no_row _ q
  root_other AnyKind e q unlike = no_kind _ q

  root_part : IsTyped (cells_of s.nodes) s.root → (p : Part) × (slice_get s.nodes s.root ≡ Some p) × ((sort_of (cell_of p) ≡ a_type) ⊎ (sort_of (cell_of p) ≡ a_function))
  root_part (inl e) = let st = stands (cells_of s.nodes) s.root a_type e in let p = get_part s.nodes s.root st.cell st.here in (p.0, p.1, inl (ap sort_of p.2 ∙ st.sort))
  root_part (inr e) = let st = stands (cells_of s.nodes) s.root a_function e in let p = get_part s.nodes s.root st.cell st.here in (p.0, p.1, inr (ap sort_of p.2 ∙ st.sort))

  -- where this kind is not known, some instance is no collection of it
  pub others_at : (known_kind s ≡ Some k → ⊥) → HasOther s k
  others_at unlike = let p = root_part good.root_in in root_other p.0 p.1 p.2 (λ e. unlike (ap (λ o. kind_at s.nodes (kind_place o)) p.1 ∙ e))
