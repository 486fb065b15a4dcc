-- Two types, or two kinds, made one cell.
use Rattle.std.proofs.Common.{◌≡◌, ℕ, ◌<◌, Bool, true, false, IsTrue, List, Some, slice_get, refl, sym, ap, ◌∙◌, subst, arith}
use mathlib.Core.Path.{ap₂}
use Rattle.std.proofs.Math.ListN.{set}
use Rattle.kl_value.specs.declared.value.Kind.{Kind}
use Rattle.kl_value.specs.declared.value.Kind.TheVariants as kind
use Rattle.kl_type.specs.Ground.{Ground, Row, rec, var, coll}
use Rattle.kl_rows.specs.declared.cell.Scalar.{Scalar}
use Rattle.kl_rows.specs.declared.cell.Scalar.TheVariants as scalar
use Rattle.kl_rows.specs.declared.cell.TypeNode.{TypeNode}
use Rattle.kl_rows.specs.declared.cell.TypeNode.TheVariants.{AnyType, Base, Rec, Var, Coll, TypeLink}
use Rattle.kl_rows.specs.declared.cell.KindNode.{KindNode}
use Rattle.kl_rows.specs.declared.cell.KindNode.TheVariants.{AnyKind, Fixed, KindLink}
use Rattle.kl_rows.specs.declared.cell.RowNode.{RowNode}
use Rattle.kl_rows.specs.declared.cell.Cell.{Cell}
use Rattle.kl_rows.specs.declared.cell.Cell.TheVariants.{OfType, OfRow, OfKind}
use Rattle.kl_rows.specs.declared.meet.Task.{Task}
use Rattle.kl_rows.specs.declared.meet.Task.TheVariants.{Nothing, Rows, Colls, Clash}
use Rattle.kl_rows.specs.Places.{IsPlaced, IsFine, open_one, roots}
use Rattle.kl_rows.specs.Solutions.{Assignment, scalar_type, TypeSays, KindSays}
use Rattle.kl_rows.specs.Steps.{Advances, KeepsCells}
use Rattle.kl_rows.specs.Walking.{IsTypeRoot, IsKindRoot, HasType, HasKind, TypeRoot, KindRoot}
use Rattle.kl_type.specs.Parts.{same_kind}
use Rattle.kl_rows.specs.Joining.{kept, kept_kind, same_scalar, either, compared, same_kinds, TaskAsks, IsTaskIn, Joins}
use Rattle.kl_rows.proofs.CellLists.{sort_here}
use Rattle.kl_rows.proofs.Advancing.{Goes, advances, then, sets, set_there, set_stays, set_keeps, set_fine, set_roots, keeps_on, placed_keeps, absurd_true}

-- what the kept one says, the first says too
kept_first : (m n : TypeNode) (s : Assignment) (t : Ground) → TypeSays (kept m n) s t → TypeSays m s t
kept_first AnyType n s t h = tt
kept_first (Base b) n s t h = h
kept_first (Rec r) n s t h = h
kept_first (Var r) n s t h = h
kept_first (Coll k a) n s t h = h
kept_first (TypeLink a) n s t h = h

kept_says : (m n : TypeNode) (s : Assignment) (t : Ground) → TypeSays m s t → TypeSays n s t → TypeSays (kept m n) s t
kept_says AnyType n s t h k = k
kept_says (Base b) n s t h k = h
kept_says (Rec r) n s t h k = h
kept_says (Var r) n s t h k = h
kept_says (Coll j a) n s t h k = h
kept_says (TypeLink a) n s t h k = h

kept_root : (m n : TypeNode) → IsTypeRoot m → IsTypeRoot n → IsTypeRoot (kept m n)
kept_root AnyType n h k = k
kept_root (Base b) n h k = tt
kept_root (Rec r) n h k = tt
kept_root (Var r) n h k = tt
kept_root (Coll j a) n h k = tt
kept_root (TypeLink a) n h k = h

open_root : (n : TypeNode) → IsTypeRoot n → open_one (OfType n) ≡ 1
open_root AnyType h = refl
open_root (Base b) h = refl
open_root (Rec r) h = refl
open_root (Var r) h = refl
open_root (Coll j a) h = refl
open_root (TypeLink a) h = absurd h

-- a root may stand anywhere
placed_root : (ns : List Cell) (i j : ℕ) (n : TypeNode) → IsTypeRoot n → IsPlaced ns i (OfType n) → IsPlaced ns j (OfType n)
placed_root ns i j AnyType r h = tt
placed_root ns i j (Base b) r h = tt
placed_root ns i j (Rec a) r h = h
placed_root ns i j (Var a) r h = h
placed_root ns i j (Coll k a) r h = h
placed_root ns i j (TypeLink a) r h = absurd r

kept_placed : (ns : List Cell) (i : ℕ) (m n : TypeNode) → IsPlaced ns i (OfType m) → IsPlaced ns i (OfType n) → IsPlaced ns i (OfType (kept m n))
kept_placed ns i AnyType n h k = k
kept_placed ns i (Base b) n h k = h
kept_placed ns i (Rec r) n h k = h
kept_placed ns i (Var r) n h k = h
kept_placed ns i (Coll j a) n h k = h
kept_placed ns i (TypeLink a) n h k = h

rec_same : (r q : Row) → rec r ≡ rec q → r ≡ q
rec_same r q h = cc

var_same : (r q : Row) → var r ≡ var q → r ≡ q
var_same r q h = cc

coll_same : (j k : Kind) (a b : Ground) → coll j a ≡ coll k b → (j ≡ k) × (a ≡ b)
coll_same j k a b h = (cc, cc)

-- two scalars are one, or no type is both
scalars_must : (a b : Scalar) (s : Assignment) → scalar_type a ≡ scalar_type b → TaskAsks (either (same_scalar a b)) s
scalars_must scalar.Bool scalar.Bool s h = tt
scalars_must scalar.Int scalar.Int s h = tt
scalars_must scalar.Str scalar.Str s h = tt
scalars_must scalar.Bool scalar.Int s h = let e : ⊥ = cc in e
scalars_must scalar.Bool scalar.Str s h = let e : ⊥ = cc in e
scalars_must scalar.Int scalar.Bool s h = let e : ⊥ = cc in e
scalars_must scalar.Int scalar.Str s h = let e : ⊥ = cc in e
scalars_must scalar.Str scalar.Bool s h = let e : ⊥ = cc in e
scalars_must scalar.Str scalar.Int s h = let e : ⊥ = cc in e

scalars_enough : (a b : Scalar) (s : Assignment) → TaskAsks (either (same_scalar a b)) s → scalar_type a ≡ scalar_type b
scalars_enough scalar.Bool scalar.Bool s h = refl
scalars_enough scalar.Int scalar.Int s h = refl
scalars_enough scalar.Str scalar.Str s h = refl
scalars_enough scalar.Bool scalar.Int s h = absurd h
scalars_enough scalar.Bool scalar.Str s h = absurd h
scalars_enough scalar.Int scalar.Bool s h = absurd h
scalars_enough scalar.Int scalar.Str s h = absurd h
scalars_enough scalar.Str scalar.Bool s h = absurd h
scalars_enough scalar.Str scalar.Int s h = absurd h

either_within : (ns : List Cell) (b : Bool) → IsTaskIn ns (either b)
either_within ns true = tt
either_within ns false = tt

-- what both say, they ask
asks_must : (m n : TypeNode) (s : Assignment) (t : Ground) → IsTypeRoot m → IsTypeRoot n → TypeSays m s t → TypeSays n s t → TaskAsks (compared m n) s
asks_must AnyType n s t r q h k = tt
asks_must (Base a) AnyType s t r q h k = tt
asks_must (Rec a) AnyType s t r q h k = tt
asks_must (Var a) AnyType s t r q h k = tt
asks_must (Coll a b) AnyType s t r q h k = tt
asks_must (Base a) (Base b) s t r q h k = scalars_must a b s (sym h ∙ k)
asks_must (Rec a) (Rec b) s t r q h k = rec_same _ _ (sym h ∙ k)
asks_must (Var a) (Var b) s t r q h k = var_same _ _ (sym h ∙ k)
asks_must (Coll a b) (Coll c d) s t r q h k = coll_same _ _ _ _ (sym h ∙ k)
asks_must (TypeLink a) n s t r q h k = absurd r
asks_must m (TypeLink a) s t r q h k = absurd q
asks_must (Base scalar.Bool) _ s t r q h k = let e : ⊥ = cc in e
asks_must (Base scalar.Int) _ s t r q h k = let e : ⊥ = cc in e
asks_must (Base scalar.Str) _ s t r q h k = let e : ⊥ = cc in e
asks_must _ (Base scalar.Bool) s t r q h k = let e : ⊥ = cc in e
asks_must _ (Base scalar.Int) s t r q h k = let e : ⊥ = cc in e
asks_must _ (Base scalar.Str) s t r q h k = let e : ⊥ = cc in e
asks_must _ _ s t r q h k = let e : ⊥ = cc in e

asks_enough : (m n : TypeNode) (s : Assignment) (t : Ground) → IsTypeRoot m → IsTypeRoot n → TaskAsks (compared m n) s → TypeSays (kept m n) s t → TypeSays n s t
asks_enough AnyType n s t r q a h = h
asks_enough (Base x) AnyType s t r q a h = tt
asks_enough (Rec x) AnyType s t r q a h = tt
asks_enough (Var x) AnyType s t r q a h = tt
asks_enough (Coll x y) AnyType s t r q a h = tt
asks_enough (Base x) (Base y) s t r q a h = h ∙ scalars_enough x y s a
asks_enough (Rec x) (Rec y) s t r q a h = h ∙ ap rec a
asks_enough (Var x) (Var y) s t r q a h = h ∙ ap var a
asks_enough (Coll x y) (Coll z w) s t r q a h = h ∙ ap₂ coll a.0 a.1
asks_enough (TypeLink x) n s t r q a h = absurd r
asks_enough m (TypeLink x) s t r q a h = absurd q
asks_enough _ _ s t r q a h = absurd a

tasks_within : (ns : List Cell) (i j : ℕ) (m n : TypeNode) → IsTypeRoot m → IsTypeRoot n → IsPlaced ns i (OfType m) → IsPlaced ns j (OfType n) → IsTaskIn ns (compared m n)
tasks_within ns i j AnyType n r q h k = tt
tasks_within ns i j (Base x) AnyType r q h k = tt
tasks_within ns i j (Rec x) AnyType r q h k = tt
tasks_within ns i j (Var x) AnyType r q h k = tt
tasks_within ns i j (Coll x y) AnyType r q h k = tt
tasks_within ns i j (Base x) (Base y) r q h k = either_within ns (same_scalar x y)
tasks_within ns i j (Rec x) (Rec y) r q h k = (h, k)
tasks_within ns i j (Var x) (Var y) r q h k = (h, k)
tasks_within ns i j (Coll x y) (Coll z w) r q h k = (h.0, h.1, k.0, k.1)
tasks_within ns i j (TypeLink x) n r q h k = absurd r
tasks_within ns i j m (TypeLink x) r q h k = absurd q
tasks_within ns i j _ _ r q h k = tt

within_keeps : (old new : List Cell) (t : Task) → KeepsCells old new → IsTaskIn old t → IsTaskIn new t
within_keeps old new Nothing k h = tt
within_keeps old new (Rows a b) k h = (k.sorts a _ h.0, k.sorts b _ h.1)
within_keeps old new (Colls a b c d) k h = (k.sorts a _ h.0, k.sorts b _ h.1, k.sorts c _ h.2, k.sorts d _ h.3)
within_keeps old new Clash k h = tt

no_row_here : (n : TypeNode) (r : RowNode) → OfType n ≡ OfRow r → ⊥
no_row_here n r h = cc

module _ (ns : List Cell) (low high : ℕ) (m n : TypeNode) (fine : IsFine ns) (order : low < high) (at_low : HasType ns low m) (at_high : HasType ns high n) (root_m : IsTypeRoot m) (root_n : IsTypeRoot n) where
  abbrev pub joined_cells : List Cell
  joined_cells = set (set ns high (OfType (TypeLink low))) low (OfType (kept m n))

  linked_fine : IsFine (set ns high (OfType (TypeLink low)))
  linked_fine = set_fine ns high (OfType n) (OfType (TypeLink low)) at_high refl fine (order, sort_here ns low (OfType m) at_low) (no_row_here n) refl

  low_linked : slice_get (set ns high (OfType (TypeLink low))) low ≡ Some (OfType m)
  low_linked = set_there ns high (OfType n) (OfType (TypeLink low)) at_high refl low (λ e. omega arith) ∙ at_low

  linked_keeps : KeepsCells ns (set ns high (OfType (TypeLink low)))
  linked_keeps = set_keeps ns high (OfType n) (OfType (TypeLink low)) at_high refl (set_stays ns high (OfType n) (OfType (TypeLink low)) at_high refl (no_row_here n))

  joined_keeps : KeepsCells (set ns high (OfType (TypeLink low))) joined_cells
  joined_keeps = set_keeps (set ns high (OfType (TypeLink low))) low (OfType m) (OfType (kept m n)) low_linked refl (set_stays (set ns high (OfType (TypeLink low))) low (OfType m) (OfType (kept m n)) low_linked refl (no_row_here m))

  joined_fine : IsFine joined_cells
  joined_fine = set_fine (set ns high (OfType (TypeLink low))) low (OfType m) (OfType (kept m n)) low_linked refl linked_fine
      (kept_placed (set ns high (OfType (TypeLink low))) low m n
      (placed_keeps ns (set ns high (OfType (TypeLink low))) low (OfType m) linked_keeps (fine.placed low (OfType m) at_low))
      (placed_keeps ns (set ns high (OfType (TypeLink low))) low (OfType n) linked_keeps (placed_root ns high low n root_n (fine.placed high (OfType n) at_high))))
      (no_row_here m) refl

  first_step : Goes true ns (set ns high (OfType (TypeLink low))) (λ s. s.types low ≡ s.types high) (λ s. TypeSays n s (s.types low))
  first_step = sets ns high (OfType n) (OfType (TypeLink low)) at_high refl _ _ (set_stays ns high (OfType n) (OfType (TypeLink low)) at_high refl (no_row_here n)) linked_fine
      (λ s o h d. (sym d, subst (TypeSays n s) (sym d) h))
      (λ s o h r. (subst (TypeSays n s) (sym h) r, sym h))

  second_step : Goes true (set ns high (OfType (TypeLink low))) joined_cells (λ s. TypeSays n s (s.types low)) (TaskAsks (compared m n))
  second_step = sets (set ns high (OfType (TypeLink low))) low (OfType m) (OfType (kept m n)) low_linked refl _ _ (set_stays (set ns high (OfType (TypeLink low))) low (OfType m) (OfType (kept m n)) low_linked refl (no_row_here m)) joined_fine
      (λ s o h d. (kept_says m n s (s.types low) h d, asks_must m n s (s.types low) root_m root_n h d))
      (λ s o h r. (kept_first m n s (s.types low) h, asks_enough m n s (s.types low) root_m root_n r h))

  joined_less : roots joined_cells < roots ns
  joined_less =
      let a = set_roots ns high (OfType n) (OfType (TypeLink low)) at_high refl in
      let b = set_roots (set ns high (OfType (TypeLink low))) low (OfType m) (OfType (kept m n)) low_linked refl in
      omega (arith, a, b, open_root m root_m, open_root n root_n, open_root (kept m n) (kept_root m n root_m root_n))

  pub joins : Joins ns joined_cells low high (compared m n)
  joins = record {
    step = advances true ns joined_cells _ _ (then true ns (set ns high (OfType (TypeLink low))) joined_cells _ _ _ first_step second_step) (let l = joined_less in omega arith);
    less = joined_less;
    within = within_keeps ns joined_cells (compared m n) (keeps_on ns (set ns high (OfType (TypeLink low))) joined_cells linked_keeps joined_keeps)
        (tasks_within ns low high m n root_m root_n (fine.placed low (OfType m) at_low) (fine.placed high (OfType n) at_high));
  }

-- the same for kinds
kept_kind_first : (m n : KindNode) (s : Assignment) (k : Kind) → KindSays (kept_kind m n) s k → KindSays m s k
kept_kind_first AnyKind n s k h = tt
kept_kind_first (Fixed j) n s k h = h
kept_kind_first (KindLink a) n s k h = h

kept_kind_says : (m n : KindNode) (s : Assignment) (k : Kind) → KindSays m s k → KindSays n s k → KindSays (kept_kind m n) s k
kept_kind_says AnyKind n s k h g = g
kept_kind_says (Fixed j) n s k h g = h
kept_kind_says (KindLink a) n s k h g = h

kept_kind_root : (m n : KindNode) → IsKindRoot m → IsKindRoot n → IsKindRoot (kept_kind m n)
kept_kind_root AnyKind n h k = k
kept_kind_root (Fixed j) n h k = tt
kept_kind_root (KindLink a) n h k = h

open_kind_root : (n : KindNode) → IsKindRoot n → open_one (OfKind n) ≡ 1
open_kind_root AnyKind h = refl
open_kind_root (Fixed j) h = refl
open_kind_root (KindLink a) h = absurd h

placed_kind_root : (ns : List Cell) (i : ℕ) (n : KindNode) → IsKindRoot n → IsPlaced ns i (OfKind n)
placed_kind_root ns i AnyKind h = tt
placed_kind_root ns i (Fixed j) h = tt
placed_kind_root ns i (KindLink a) h = absurd h

kind_must : (a b : Kind) → a ≡ b → IsTrue (same_kind a b)
kind_must kind.Set kind.Set h = refl
kind_must kind.Bag kind.Bag h = refl
kind_must kind.List kind.List h = refl
kind_must kind.Set kind.Bag h = let e : ⊥ = cc in absurd e
kind_must kind.Set kind.List h = let e : ⊥ = cc in absurd e
kind_must kind.Bag kind.Set h = let e : ⊥ = cc in absurd e
kind_must kind.Bag kind.List h = let e : ⊥ = cc in absurd e
kind_must kind.List kind.Set h = let e : ⊥ = cc in absurd e
kind_must kind.List kind.Bag h = let e : ⊥ = cc in absurd e

pub kind_enough : (a b : Kind) → IsTrue (same_kind a b) → a ≡ b
kind_enough kind.Set kind.Set h = refl
kind_enough kind.Bag kind.Bag h = refl
kind_enough kind.List kind.List h = refl
kind_enough kind.Set kind.Bag h = absurd_true _ h
kind_enough kind.Set kind.List h = absurd_true _ h
kind_enough kind.Bag kind.Set h = absurd_true _ h
kind_enough kind.Bag kind.List h = absurd_true _ h
kind_enough kind.List kind.Set h = absurd_true _ h
kind_enough kind.List kind.Bag h = absurd_true _ h

kinds_must : (m n : KindNode) (s : Assignment) (k : Kind) → KindSays m s k → KindSays n s k → IsTrue (same_kinds m n)
kinds_must (Fixed a) (Fixed b) s k h g = kind_must a b (sym h ∙ g)
kinds_must (Fixed a) AnyKind s k h g = refl
kinds_must (Fixed a) (KindLink b) s k h g = refl
kinds_must AnyKind n s k h g = refl
kinds_must (KindLink a) n s k h g = refl

kinds_enough : (m n : KindNode) (s : Assignment) (k : Kind) → IsKindRoot m → IsKindRoot n → IsTrue (same_kinds m n) → KindSays (kept_kind m n) s k → KindSays n s k
kinds_enough AnyKind n s k r q a h = h
kinds_enough (Fixed x) AnyKind s k r q a h = tt
kinds_enough (Fixed x) (Fixed y) s k r q a h = h ∙ kind_enough x y a
kinds_enough (Fixed x) (KindLink y) s k r q a h = absurd q
kinds_enough (KindLink x) n s k r q a h = absurd r

no_row_kind : (n : KindNode) (r : RowNode) → OfKind n ≡ OfRow r → ⊥
no_row_kind n r h = cc

module _ (ns : List Cell) (low high : ℕ) (m n : KindNode) (fine : IsFine ns) (order : low < high) (at_low : HasKind ns low m) (at_high : HasKind ns high n) (root_m : IsKindRoot m) (root_n : IsKindRoot n) where
  abbrev pub joined_kinds : List Cell
  joined_kinds = set (set ns high (OfKind (KindLink low))) low (OfKind (kept_kind m n))

  kinds_linked : IsFine (set ns high (OfKind (KindLink low)))
  kinds_linked = set_fine ns high (OfKind n) (OfKind (KindLink low)) at_high refl fine (order, sort_here ns low (OfKind m) at_low) (no_row_kind n) refl

  low_kind : slice_get (set ns high (OfKind (KindLink low))) low ≡ Some (OfKind m)
  low_kind = set_there ns high (OfKind n) (OfKind (KindLink low)) at_high refl low (λ e. omega arith) ∙ at_low

  kinds_fine : IsFine joined_kinds
  kinds_fine = set_fine (set ns high (OfKind (KindLink low))) low (OfKind m) (OfKind (kept_kind m n)) low_kind refl kinds_linked
      (placed_kind_root (set ns high (OfKind (KindLink low))) low (kept_kind m n) (kept_kind_root m n root_m root_n)) (no_row_kind m) refl

  kind_first : Goes true ns (set ns high (OfKind (KindLink low))) (λ s. s.kinds low ≡ s.kinds high) (λ s. KindSays n s (s.kinds low))
  kind_first = sets ns high (OfKind n) (OfKind (KindLink low)) at_high refl _ _ (set_stays ns high (OfKind n) (OfKind (KindLink low)) at_high refl (no_row_kind n)) kinds_linked
      (λ s o h d. (sym d, subst (KindSays n s) (sym d) h))
      (λ s o h r. (subst (KindSays n s) (sym h) r, sym h))

  kind_second : Goes true (set ns high (OfKind (KindLink low))) joined_kinds (λ s. KindSays n s (s.kinds low)) (λ s. IsTrue (same_kinds m n))
  kind_second = sets (set ns high (OfKind (KindLink low))) low (OfKind m) (OfKind (kept_kind m n)) low_kind refl _ _ (set_stays (set ns high (OfKind (KindLink low))) low (OfKind m) (OfKind (kept_kind m n)) low_kind refl (no_row_kind m)) kinds_fine
      (λ s o h d. (kept_kind_says m n s (s.kinds low) h d, kinds_must m n s (s.kinds low) h d))
      (λ s o h r. (kept_kind_first m n s (s.kinds low) h, kinds_enough m n s (s.kinds low) root_m root_n r h))

  decides : (b : Bool) → Goes true ns joined_kinds (λ s. s.kinds low ≡ s.kinds high) (λ s. IsTrue b) → Goes b ns joined_kinds (λ s. s.kinds low ≡ s.kinds high) (λ s. Unit {0})
  decides b g = record {
    fine = g.fine;
    keeps = g.keeps;
    down = λ s h d. let one = (g.down s h d).1 in (one.holds, record { to = one.to; agrees = one.agrees; solves = one.solves; holds = tt });
    up = λ t s h r. g.up refl s h t;
  }

  pub joins_kinds : Advances (same_kinds m n) ns joined_kinds (λ s. s.kinds low ≡ s.kinds high) (λ s. Unit {0})
  joins_kinds =
      let a = set_roots ns high (OfKind n) (OfKind (KindLink low)) at_high refl in
      let b = set_roots (set ns high (OfKind (KindLink low))) low (OfKind m) (OfKind (kept_kind m n)) low_kind refl in
      advances (same_kinds m n) ns joined_kinds _ _
      (decides (same_kinds m n) (then true ns (set ns high (OfKind (KindLink low))) joined_kinds _ _ _ kind_first kind_second))
      (omega (arith, a, b, open_kind_root m root_m, open_kind_root n root_n, open_kind_root (kept_kind m n) (kept_kind_root m n root_m root_n)))

type_same : (m n : TypeNode) → Some (OfType m) ≡ Some (OfType n) → m ≡ n
type_same m n h = cc

kind_same : (m n : KindNode) → Some (OfKind m) ≡ Some (OfKind n) → m ≡ n
kind_same m n h = cc

pub type_root : (ns ns' : List Cell) (i : ℕ) (n : TypeNode) → TypeRoot ns i → ns' ≡ ns → HasType ns' i n → HasType ns i n × IsTypeRoot n
type_root ns ns' i n r e h =
    let here : HasType ns i n = sym (ap (λ xs. slice_get xs i) e) ∙ h in
    (here, subst IsTypeRoot (type_same _ _ (sym r.here ∙ here)) r.no_link)

pub kind_root : (ns ns' : List Cell) (i : ℕ) (n : KindNode) → KindRoot ns i → ns' ≡ ns → HasKind ns' i n → HasKind ns i n × IsKindRoot n
kind_root ns ns' i n r e h =
    let here : HasKind ns i n = sym (ap (λ xs. slice_get xs i) e) ∙ h in
    (here, subst IsKindRoot (kind_same _ _ (sym r.here ∙ here)) r.no_link)

pub joins_as : (ns : List Cell) (low high : ℕ) (m n k : TypeNode) (t : Task) → IsFine ns → low < high → HasType ns low m × IsTypeRoot m → HasType ns high n × IsTypeRoot n → k ≡ kept m n → t ≡ compared m n
    → Joins ns (set (set ns high (OfType (TypeLink low))) low (OfType k)) low high t
joins_as ns low high m n k t fine order a b e f =
    subst (λ x. Joins ns (set (set ns high (OfType (TypeLink low))) low (OfType x)) low high t) (sym e)
    (subst (λ y. Joins ns (joined_cells ns low high m n fine order a.0 b.0 a.1 b.1) low high y) (sym f) (joins ns low high m n fine order a.0 b.0 a.1 b.1))

pub joins_kinds_as : (ns : List Cell) (low high : ℕ) (m n k : KindNode) (t : Bool) → IsFine ns → low < high → HasKind ns low m × IsKindRoot m → HasKind ns high n × IsKindRoot n → k ≡ kept_kind m n → t ≡ same_kinds m n
    → Advances t ns (set (set ns high (OfKind (KindLink low))) low (OfKind k)) (λ s. s.kinds low ≡ s.kinds high) (λ s. Unit {0})
joins_kinds_as ns low high m n k t fine order a b e f =
    subst (λ x. Advances t ns (set (set ns high (OfKind (KindLink low))) low (OfKind x)) (λ s. s.kinds low ≡ s.kinds high) (λ s. Unit {0})) (sym e)
    (subst (λ y. Advances y ns (joined_kinds ns low high m n fine order a.0 b.0 a.1 b.1) (λ s. s.kinds low ≡ s.kinds high) (λ s. Unit {0})) (sym f) (joins_kinds ns low high m n fine order a.0 b.0 a.1 b.1))
