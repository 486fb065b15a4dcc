-- What is wrong with a source, and what is told of it.
use Rattle.std.specs.Prelude.{◌≡◌, ℕ, List, [], ◌∷◌, ◌++◌, codes, decimal, Some}
use Rattle.kl_type.specs.declared.ground.Ty.{Ty}
use Rattle.kl_outcome.specs.Outcome.{Name}
use Rattle.kl_ask.specs.Tables.{columns_of}
use Rattle.kl_flat.specs.Table.{bad_record}
use Rattle.kl_why.specs.declared.unfit.Unfit.{Unfit}
use Rattle.kl_why.specs.declared.unfit.Unfit.TheVariants as unfit

-- that of `kleisli`
abbrev pub unfit_status : Unfit → ℕ
unfit_status (unfit.Column n column what) = 5
unfit_status (unfit.Record n) = 5
unfit_status (unfit.Item ty) = 5
unfit_status unfit.Bad = 5
unfit_status unfit.Deep = 10

abbrev pub unfit_text : Unfit → List ℕ
unfit_text (unfit.Column n column what) = codes ": bad record " ++ decimal n ++ codes ", column " ++ column ++ codes ": " ++ what
unfit_text (unfit.Record n) = codes ": bad record " ++ decimal n
unfit_text (unfit.Item ty) = codes ": no item goes on so, which is a value of the type " ++ ty ++ codes " and a semicolon"
unfit_text unfit.Bad = codes ": it cannot be read as its type, and is bad"
unfit_text unfit.Deep = codes ": this bracket stands inside 256 others"

-- what is wrong with the source of a name, in a sentence
abbrev pub unfit_sentence : Name → Unfit → List ℕ
unfit_sentence name u = codes "source " ++ name ++ unfit_text u

-- where the table has this column alone, the record of this number is its first bad one
abbrev pub IsBadAlone : List ℕ → ℕ → Name × Ty → Type 0
IsBadAlone bytes n column = (alone : Ty) × (columns_of alone ≡ column ∷ []) × (bad_record bytes alone ≡ Some n)

-- what is wrong with the bytes of a table of this type: its first bad record, and a column by which alone it would be bad too
abbrev pub Blames : Ty → List ℕ → Unfit → Type 0
Blames ty bytes (unfit.Column n column what) = (bad_record bytes ty ≡ Some n) × ((t : Ty) × IsBadAlone bytes n (column, t))
Blames ty bytes (unfit.Record n) = bad_record bytes ty ≡ Some n
Blames ty bytes (unfit.Item text) = ⊥
Blames ty bytes unfit.Bad = ⊥
Blames ty bytes unfit.Deep = ⊥
