-- What is known of a type, and of a label in a row.
use Rattle.std.specs.Prelude.{◌≡◌, ◌↔◌, ℕ, Bool, false, IsTrue, List, [], ◌∷◌, Some, None, take}
use Rattle.kl_base.specs.Fields.{field}
use Rattle.kl_type.specs.Ground.{Ground, Row, bool, int, str, rec, var, coll, arrow, no_row, row, IsProper, at, ground_of, row_by}
use Rattle.kl_type.specs.Parts.{same_kind}
use Rattle.kl_type.specs.declared.Ty.{Ty}
use Rattle.kl_value.specs.declared.value.Kind.{Kind}
use Rattle.kl_rows.specs.Lists.{Fields}
use Rattle.kl_rows.specs.declared.cell.Scalar.{Scalar}
use Rattle.kl_rows.specs.declared.cell.Scalar.TheVariants as scalar
use Rattle.kl_rows.specs.declared.cell.TypeNode.{TypeNode}
use Rattle.kl_rows.specs.declared.cell.TypeNode.TheVariants.{Base, Rec, Var, Coll}
use Rattle.kl_rows.specs.declared.cell.KindNode.{KindNode}
use Rattle.kl_rows.specs.declared.cell.KindNode.TheVariants.{Fixed}
use Rattle.kl_rows.specs.declared.cell.RowNode.TheVariants.{NoRow, Front}
use Rattle.kl_rows.specs.declared.cell.Cell.{Cell}
use Rattle.kl_rows.specs.declared.cell.Cell.TheVariants.{OfType}
use Rattle.kl_rows.specs.declared.looking.Spot.{Spot}
use Rattle.kl_rows.specs.declared.looking.Spot.TheVariants.{At, Behind}
use Rattle.kl_rows.specs.Joining.{same_scalar}
use Rattle.kl_rows.specs.Places.{IsType, IsRowAt, IsPlaced}
use Rattle.kl_rows.specs.Solutions.{Assignment, TypeSays, Solves}
use Rattle.kl_rows.specs.Walking.{HasType, HasKind, HasRow, IsTypeRoot, Leads, LinksType, LinksKind, Onward, Walks}

-- The node at the end of the links from a type: each solution gives both the same type, and it what the node says, whose
-- numbers are of the right sorts.
pub record KnownAs (cells : List Cell) (t : ℕ) (n : TypeNode) : Type 0 where
  pub place : ℕ
  pub here : HasType cells place n
  pub links : Leads (LinksType cells) t place
  pub no_link : IsTypeRoot n
  pub same : (s : Assignment) → Solves cells s → s.types place ≡ s.types t
  pub placed : IsPlaced cells place (OfType n)
  pub says : (s : Assignment) → Solves cells s → TypeSays n s (s.types t)

-- of the fields on the way from the row to its end the first of this label has this number, and each solution gives the row
-- this type there
pub record HasField (cells : List Cell) (row : ℕ) (l : List ℕ) (i : ℕ) : Type 0 where
  pub there : IsType cells i
  pub gives : (s : Assignment) → Solves cells s → at l (s.rows row) ≡ Some (s.types i)
  pub fields : Fields
  pub end : ℕ
  pub walks : Walks cells row fields end
  pub found : field l fields ≡ Some i

-- none of the fields on the way from the row to its end has this label, and each solution gives the row there what it gives
-- the end
pub record LacksField (cells : List Cell) (row : ℕ) (l : List ℕ) (end : ℕ) : Type 0 where
  pub there : IsRowAt cells end
  pub gives : (s : Assignment) → Solves cells s → at l (s.rows row) ≡ at l (s.rows end)
  pub fields : Fields
  pub walks : Walks cells row fields end
  pub lacks : field l fields ≡ None

abbrev pub Spots : Spot → List Cell → ℕ → List ℕ → Type 0
Spots (At i) cells r l = HasField cells r l i
Spots (Behind end) cells r l = LacksField cells r l end

-- on the way from the row to its end, with so many steps left at most, no field had this label. No public contract cites this.
pub record SpotsOn (cells : List Cell) (row : ℕ) (l : List ℕ) (end left : ℕ) : Type 0 where
  pub gives : (s : Assignment) → Solves cells s → at l (s.rows row) ≡ at l (s.rows end)
  pub seen : Fields
  pub none : field l seen ≡ None
  pub onward : Onward cells row end seen left

-- ---- a type that is written out

-- a cell of a type or of a kind at the end of the links from a number
pub record EndsAsType (cells : List Cell) (i : ℕ) (n : TypeNode) : Type 0 where
  pub place : ℕ
  pub links : Leads (LinksType cells) i place
  pub here : HasType cells place n

pub record EndsAsKind (cells : List Cell) (i : ℕ) (n : KindNode) : Type 0 where
  pub place : ℕ
  pub links : Leads (LinksKind cells) i place
  pub here : HasKind cells place n

-- a row that is one block of fields before the row without labels
pub record IsBlock (cells : List Cell) (row : ℕ) (fields : Fields) : Type 0 where
  pub rest : ℕ
  pub here : HasRow cells row (Front fields rest)
  pub bare : HasRow cells rest NoRow

-- The cells write a type out, as those do that are made of a type without variables: each part is fixed, and each row is one block
-- of its fields in their order.
abbrev mutual
  pub Spells : List Cell → ℕ → Ground → Type 0
  Spells cells i bool = EndsAsType cells i (Base scalar.Bool)
  Spells cells i int = EndsAsType cells i (Base scalar.Int)
  Spells cells i str = EndsAsType cells i (Base scalar.Str)
  Spells cells i (rec r) = (a : ℕ) × (fs : Fields) × EndsAsType cells i (Rec a) × IsBlock cells a fs × SpellsEach cells fs r
  Spells cells i (var r) = (a : ℕ) × (fs : Fields) × EndsAsType cells i (Var a) × IsBlock cells a fs × SpellsEach cells fs r
  Spells cells i (coll k t) = (j : ℕ) × (a : ℕ) × EndsAsType cells i (Coll j a) × EndsAsKind cells j (Fixed k) × Spells cells a t
  Spells cells i (arrow a b) = ⊥

  pub SpellsEach : List Cell → Fields → Row → Type 0
  SpellsEach cells fs no_row = fs ≡ []
  SpellsEach cells fs (row l t r) = (i : ℕ) × (gs : Fields) × (fs ≡ (l, i) ∷ gs) × Spells cells i t × SpellsEach cells gs r

-- The answer is yes exactly where the cells write the type out, and then each solution gives the number this type.
pub record KnowsThere (yes : Bool) (cells : List Cell) (i : ℕ) (t : Ty) : Type 0 where
  pub spelled : IsTrue yes ↔ Spells cells i (ground_of t)
  pub there : IsTrue yes → IsType cells i
  pub says : IsTrue yes → IsProper t → (s : Assignment) → Solves cells s → s.types i ≡ ground_of t

-- ---- the parts of that test; no public contract cites these

abbrev pub is_base : TypeNode → Scalar → Bool
is_base (Base a) b = same_scalar a b
is_base _ b = false

abbrev pub is_fixed : KindNode → Kind → Bool
is_fixed (Fixed a) b = same_kind a b
is_fixed _ b = false

abbrev pub Knows : Bool → List Cell → ℕ → Ty → Type 0
Knows known cells i t = IsTrue known ↔ Spells cells i (ground_of t)

abbrev pub KnowsRow : Bool → List Cell → ℕ → List (List ℕ × Ty) → Type 0
KnowsRow known cells r fs = IsTrue known ↔ ((numbers : Fields) × IsBlock cells r numbers × SpellsEach cells numbers (row_by ground_of fs))

-- the first so many of these fields are written out
abbrev pub SpellsTo : List Cell → Fields → List (List ℕ × Ty) → ℕ → Type 0
SpellsTo cells numbers fs k = SpellsEach cells (take k numbers) (row_by ground_of (take k fs))
