-- Whether rows are records of the columns, as a test. No public contract cites this.
use Rattle.std.specs.Prelude.{Bool, true, false, ◌&&◌, ℕ, List, [], ◌∷◌, nat_eq}
use Rattle.std.specs.Cmp.Lexicographic.{pointwise}
use Rattle.std.specs.List.{list_all}
use Rattle.kl_base.specs.Fields.{labels_of, rises}
use Rattle.kl_value.specs.declared.Value.{Value, Value-F, out-Value}
use Rattle.kl_type.specs.declared.ground.Ty.{Ty, Ty-F, out-Ty}
use Rattle.kl_ask.specs.Tables.{columns_of}
use Rattle.kl_flat.specs.Columns.{is_table_type}

abbrev pub fits_base : Value-F Value → Ty-F Ty → Bool
fits_base (Value-F.Bool b) Ty-F.Bool = true
fits_base (Value-F.Int n) Ty-F.Int = true
fits_base (Value-F.Text s) Ty-F.Str = true
fits_base _ _ = false

-- the same labels, and each value has its type
abbrev pub fit_fields : List (List ℕ × Ty) → List (List ℕ × Value) → Bool
fit_fields [] [] = true
fit_fields [] (f ∷ fs) = false
fit_fields (c ∷ cs) [] = false
fit_fields (c ∷ cs) (f ∷ fs) = (pointwise nat_eq f.0 c.0 && fits_base (out-Value f.1) (out-Ty c.1)) && fit_fields cs fs

abbrev pub fits_layer : List (List ℕ × Ty) → Value-F Value → Bool
fits_layer columns (Value-F.Rec fs) = fit_fields columns fs
fits_layer columns _ = false

abbrev pub all_fit : List (List ℕ × Ty) → List Value → Bool
all_fit columns rows = list_all (λ v. fits_layer columns (out-Value v)) rows

-- a table's type whose labels rise, and rows of it
abbrev pub are_rows : Ty → List Value → Bool
are_rows t rows = is_table_type t && (rises (labels_of (columns_of t)) && all_fit (columns_of t) rows)
