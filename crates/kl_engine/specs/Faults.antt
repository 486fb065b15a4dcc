-- The status of each fault, and the line that tells of it.
use Rattle.std.specs.Prelude.{◌≡◌, ◌⊎◌, ℕ, ◌+◌, List, [], ◌∷◌, codes, decimal, Option, Some, None, Result, Ok, Err}
use Rattle.std.specs.List.{flat_map}
use Rattle.std.specs.Io.KnownBytes.{append_known}
use Rattle.kl_outside.specs.Counts.{Rose}
use Rattle.kl_outside.specs.Sinks.{SinkState, TookPart}
use Rattle.kl_engine.specs.declared.fault.Fault.{Fault}
use Rattle.kl_engine.specs.declared.fault.Fault.TheVariants as fault
use Rattle.kl_engine.specs.declared.fault.Wrong.{Wrong}
use Rattle.kl_engine.specs.declared.fault.Wrong.TheVariants as wrong

-- the fault with which a command ended, or none where it ended well
abbrev pub Ending : Type 0
Ending = Option Fault

-- the same of what a function answers; no public contract cites this
abbrev pub ending : Result (Unit {0}) Fault → Ending
ending (Ok done) = None
ending (Err f) = Some f

abbrev pub fault_status : Fault → ℕ
fault_status fault.Usage = 1
fault_status (fault.Text w byte) = 2
fault_status (fault.IllTyped decl) = 3
fault_status (fault.Catalogue byte) = 4
fault_status (fault.NameTwice name) = 4
fault_status (fault.NoDriver name) = 4
fault_status (fault.Unsuited name) = 4
fault_status (fault.NoType byte) = 4
fault_status (fault.BadFile place) = 5
fault_status (fault.BadSource name place) = 5
fault_status fault.Overflow = 6
fault_status fault.Read = 7
fault_status fault.Write = 8
fault_status fault.NoMemory = 9
fault_status (fault.Changed name) = 11
fault_status fault.ProgramBytes = 10
fault_status fault.CatalogueBytes = 10
fault_status fault.FileBytes = 10
fault_status fault.Nesting = 10
fault_status fault.ItemNesting = 10
fault_status fault.TermNodes = 10
fault_status fault.TermDepth = 10
fault_status fault.SchemeBytes = 10

abbrev pub status_of : Ending → ℕ
status_of None = 0
status_of (Some f) = fault_status f

-- these texts one behind the other
abbrev pub joined : List (List ℕ) → List ℕ
joined texts = flat_map (λ t. t) texts

-- what is wrong with a program's text, with a name in its midst, and at which byte
abbrev pub text_line : List ℕ → List ℕ → List ℕ → ℕ → List ℕ
text_line front name back byte = joined (codes "text: " ∷ front ∷ name ∷ back ∷ codes " at byte " ∷ decimal byte ∷ codes "\n" ∷ [])

abbrev pub wrong_line : Wrong → ℕ → List ℕ
wrong_line wrong.NoToken byte = text_line (codes "no token") [] [] byte
wrong_line wrong.Syntax byte = text_line (codes "syntax") [] [] byte
wrong_line (wrong.Unknown name) byte = text_line (codes "unknown name ") name [] byte
wrong_line (wrong.Twice name) byte = text_line (codes "name ") name (codes " twice") byte
wrong_line (wrong.Misapplied name) byte = text_line (codes "name ") name (codes " misapplied") byte
wrong_line wrong.Refutable byte = text_line (codes "refutable pattern") [] [] byte

-- a file or a source is unreadable from a place on
abbrev pub bad_line : List ℕ → ℕ → List ℕ
bad_line name place = joined (codes "source " ∷ name ∷ codes ": bad at " ∷ decimal place ∷ codes "\n" ∷ [])

-- the line of a fault, where the words name this path
abbrev pub fault_line : List ℕ → Fault → List ℕ
fault_line path fault.Usage =
    joined (codes "usage: kleisli (run|explain|types|check) PROGRAM [CATALOGUE] [OPTIONS], kleisli show FILE, "
    ∷ codes "kleisli gen SEED N, kleisli upgrade FILE TYPE\n" ∷ [])
fault_line path (fault.Text w byte) = wrong_line w byte
fault_line path (fault.IllTyped decl) = joined (codes "types: no typing for declaration " ∷ decimal (decl + 1) ∷ codes "\n" ∷ [])
fault_line path (fault.Catalogue byte) = joined (codes "catalogue: syntax at byte " ∷ decimal byte ∷ codes "\n" ∷ [])
fault_line path (fault.NameTwice name) = joined (codes "catalogue: name " ∷ name ∷ codes " twice\n" ∷ [])
fault_line path (fault.NoDriver name) = joined (codes "catalogue: no driver " ∷ name ∷ codes "\n" ∷ [])
fault_line path (fault.Unsuited name) = joined (codes "catalogue: type of " ∷ name ∷ codes " does not suit its driver\n" ∷ [])
fault_line path (fault.NoType byte) = joined (codes "type: syntax at byte " ∷ decimal byte ∷ codes "\n" ∷ [])
fault_line path (fault.BadFile place) = bad_line path place
fault_line path (fault.BadSource name place) = bad_line name place
fault_line path fault.Overflow = codes "overflow\n"
fault_line path fault.Read = codes "read fault\n"
fault_line path fault.Write = codes "write fault\n"
fault_line path fault.NoMemory = codes "out of memory\n"
fault_line path (fault.Changed name) = joined (codes "source " ∷ name ∷ codes " changed\n" ∷ [])
fault_line path fault.ProgramBytes = codes "limit: program bytes\n"
fault_line path fault.CatalogueBytes = codes "limit: catalogue bytes\n"
fault_line path fault.FileBytes = codes "limit: file bytes\n"
fault_line path fault.Nesting = codes "limit: nesting\n"
fault_line path fault.ItemNesting = codes "limit: item nesting\n"
fault_line path fault.TermNodes = codes "limit: term nodes\n"
fault_line path fault.TermDepth = codes "limit: term depth\n"
fault_line path fault.SchemeBytes = codes "limit: scheme bytes\n"

-- The sink took the line, or a part of it and a count of its refusals rose.
pub record TookLine (line : List ℕ) (old new : SinkState) : Type 0 where
  pub part : TookPart line old new
  pub whole : (new.taken ≡ append_known old.taken line) ⊎ Rose old.faults new.faults ⊎ Rose old.wants new.wants
