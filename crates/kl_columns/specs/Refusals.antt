-- The status of each refusal, and the line that tells of it.
use Rattle.std.specs.Prelude.{ℕ, List, ◌++◌, codes, decimal}
use Rattle.kl_columns.specs.declared.refusal.Refusal.{Refusal}
use Rattle.kl_columns.specs.declared.refusal.Refusal.TheVariants as refusal

abbrev pub refusal_status : Refusal → ℕ
refusal_status refusal.Usage = 1
refusal_status (refusal.BadFile path n) = 5
refusal_status (refusal.BadText path n) = 5
refusal_status (refusal.NoCommonType path n) = 5
refusal_status (refusal.BadCatalogue byte) = 4
refusal_status refusal.Read = 7
refusal_status refusal.Write = 8
refusal_status refusal.NoMemory = 9
refusal_status refusal.CatalogueBytes = 10
refusal_status refusal.FileBytes = 10
refusal_status refusal.ItemNesting = 10

abbrev pub refusal_line : Refusal → List ℕ
refusal_line refusal.Usage = codes "usage: klcat [--sql] FILE ..\n"
refusal_line (refusal.BadFile path n) = codes "source " ++ path ++ codes ": bad at " ++ decimal n ++ codes "\n"
refusal_line (refusal.BadText path n) = codes "source " ++ path ++ codes ": bad at " ++ decimal n ++ codes "\n"
refusal_line (refusal.NoCommonType path n) = codes "source " ++ path ++ codes ": no common type at item " ++ decimal n ++ codes "\n"
refusal_line (refusal.BadCatalogue byte) = codes "catalogue: syntax at byte " ++ decimal byte ++ codes "\n"
refusal_line refusal.Read = codes "read fault\n"
refusal_line refusal.Write = codes "write fault\n"
refusal_line refusal.NoMemory = codes "out of memory\n"
refusal_line refusal.CatalogueBytes = codes "limit: catalogue bytes\n"
refusal_line refusal.FileBytes = codes "limit: file bytes\n"
refusal_line refusal.ItemNesting = codes "limit: item nesting\n"
