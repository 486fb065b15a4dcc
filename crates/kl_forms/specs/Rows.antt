-- Rows of which fields are said, one label after another. No public contract cites this.
use Rattle.std.specs.Prelude.{◌≡◌, ℕ, Bool, true, false, cond, List, [], ◌∷◌, Option, Some, None, IsSome, nat_eq}
use Rattle.std.specs.Cmp.Lexicographic.{pointwise}
use Rattle.std.specs.List.{AllByRecursion}
use Rattle.kl_base.specs.Fields.{field, labels_of}
use Rattle.kl_type.specs.Ground.{Row, IsRow, at}
use Rattle.kl_prim.specs.Records.{is_label_of}
use Rattle.kl_outcome.specs.Typed.{IsWithout}
use Rattle.kl_rows.specs.declared.cell.Cell.{Cell}
use Rattle.kl_rows.specs.declared.cell.RowNode.{RowNode}
use Rattle.kl_rows.specs.declared.cell.RowNode.TheVariants.{AnyRow, NoRow}
use Rattle.kl_rows.specs.Lists.{Fields}
use Rattle.kl_rows.specs.Places.{IsFine, IsRowAt, Lacks}
use Rattle.kl_rows.specs.Solutions.{Assignment, Splits, Solves}
use Rattle.kl_rows.specs.Steps.{Grown, KeepsCells}
use Rattle.kl_forms.specs.Forms.{HasFields}

-- the row has each of the fields
abbrev pub HasEach : Fields → Row → Assignment → Type 0
HasEach fs r s = AllByRecursion (λ f. at f.0 r ≡ Some (s.types f.1)) fs

-- the row has these labels with these types and, if it is open, others, and the rest is the row of the others
abbrev pub HasRest : Bool → Fields → Row → Row → Assignment → Type 0
HasRest open_end fs r q s = HasFields open_end fs r s × IsWithout (is_label_of fs) r q

-- the row has the fields before the row with this number
abbrev pub StandBefore : ℕ → Fields → Row → Assignment → Type 0
StandBefore end fs r s = Splits fs s.types r (s.rows end)

-- what is said of the end of a row: nothing but that it lacks the labels before it or, if the row is not open, each label
abbrev pub end_node : Bool → Fields → RowNode
end_node true fs = AnyRow (labels_of fs)
end_node false fs = NoRow

-- A number of a row of which E is said: each old solution grows so that it gives the number any row that meets E, and
-- each new solution is an old one whose row there meets it.
pub record OpensRow (old new : List Cell) (row : ℕ) (E : Row → Assignment → Type 0) : Type 0 where
  pub fine : IsFine new
  pub keeps : KeepsCells old new
  pub sort : IsRowAt new row
  pub down : (s : Assignment) (r : Row) → Solves old s → IsRow r → E r s → Grown old new s (λ u. u.rows row ≡ r)
  pub up : (s : Assignment) → Solves new s → Solves old s × E (s.rows row) s

-- the same of two rows
pub record OpensBoth (old new : List Cell) (row rest : ℕ) (E : Row → Row → Assignment → Type 0) : Type 0 where
  pub fine : IsFine new
  pub keeps : KeepsCells old new
  pub sort : IsRowAt new row
  pub rest_sort : IsRowAt new rest
  pub down : (s : Assignment) (r q : Row) → Solves old s → IsRow r → IsRow q → E r q s
      → Grown old new s (λ u. (u.rows row ≡ r) × (u.rows rest ≡ q))
  pub up : (s : Assignment) → Solves new s → Solves old s × E (s.rows row) (s.rows rest) s

-- no old solution has a row that meets E
pub record RefusesRow (old new : List Cell) (E : Row → Assignment → Type 0) : Type 0 where
  pub fine : IsFine new
  pub keeps : KeepsCells old new
  pub none : (s : Assignment) (r : Row) → Solves old s → IsRow r → E r s → ⊥

-- a row with these fields before this end, or none where the types that stand at one label can't be one
abbrev pub FindsBefore : Option ℕ → List Cell → List Cell → ℕ → Fields → Type 0
FindsBefore (Some row) old new end fs = OpensRow old new row (StandBefore end fs)
FindsBefore None old new end fs = RefusesRow old new (StandBefore end fs)

-- a row with these fields and, if it is open, others, and the row of the others; or none
abbrev pub FindsRow : Option (ℕ × ℕ) → List Cell → List Cell → Bool → Fields → Type 0
FindsRow (Some found) old new open_end fs = OpensBoth old new found.0 found.1 (HasRest open_end fs)
FindsRow None old new open_end fs = RefusesRow old new (HasFields open_end fs)

-- such a row with some of all the fields, which lacks what may still come before it
pub record Fronts (all fs : Fields) (old new : List Cell) (end row : ℕ) : Type 0 where
  pub opens : OpensRow old new row (StandBefore end fs)
  pub lacks : (l : List ℕ) → field l fs ≡ None → IsSome (field l all) → Lacks new l row

-- the first number, if it stands at the label
abbrev pub next : List ℕ → Fields → Option ℕ
next l [] = None
next l (f ∷ fs) = cond (pointwise nat_eq l f.0) (Some f.1) None
