-- What holds of the faults of an unreadable source.
use Rattle.kl_outcome.specs.Outcome.{Name}
use Rattle.kl_engine.specs.Answering.{IsUnreadFault}
use Rattle.kl_engine.specs.declared.fault.Fault.{Fault}
use Rattle.kl_engine.specs.declared.fault.Fault.TheVariants as fault

pub unread_cases : (P : Fault → Type 0) → ((name : Name) (place : _) → P (fault.BadSource name place)) → P fault.FileBytes → P fault.ItemNesting → (f : Fault) → IsUnreadFault f → P f
unread_cases P bad long deep (fault.BadSource name place) is = bad name place
unread_cases P bad long deep fault.FileBytes is = long
unread_cases P bad long deep fault.ItemNesting is = deep
unread_cases P bad long deep fault.Usage is = absurd is
unread_cases P bad long deep (fault.Text w byte) is = absurd is
unread_cases P bad long deep (fault.IllTyped decl) is = absurd is
unread_cases P bad long deep (fault.Catalogue byte) is = absurd is
unread_cases P bad long deep (fault.NameTwice name) is = absurd is
unread_cases P bad long deep (fault.NoDriver name) is = absurd is
unread_cases P bad long deep (fault.Unsuited name) is = absurd is
unread_cases P bad long deep (fault.BadFile place) is = absurd is
unread_cases P bad long deep (fault.NoType byte) is = absurd is
unread_cases P bad long deep fault.Overflow is = absurd is
unread_cases P bad long deep fault.Read is = absurd is
unread_cases P bad long deep fault.Write is = absurd is
unread_cases P bad long deep fault.NoMemory is = absurd is
unread_cases P bad long deep (fault.Changed name) is = absurd is
unread_cases P bad long deep fault.ProgramBytes is = absurd is
unread_cases P bad long deep fault.CatalogueBytes is = absurd is
unread_cases P bad long deep fault.Nesting is = absurd is
unread_cases P bad long deep fault.TermNodes is = absurd is
unread_cases P bad long deep fault.TermDepth is = absurd is
unread_cases P bad long deep fault.SchemeBytes is = absurd is
