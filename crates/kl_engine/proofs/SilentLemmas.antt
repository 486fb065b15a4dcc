-- Ends before which nothing is printed.
use Rattle.std.proofs.Common.{◌≡◌, Some, None, refl}
use Rattle.kl_outcome.specs.Outcome.{Name}
use Rattle.kl_engine.specs.Answering.{EndsSilent, Unprinted}
use Rattle.kl_engine.specs.Faults.{Ending}
use Rattle.kl_engine.specs.declared.fault.Fault.TheVariants as fault

pub silent_of : (Lists : Type 0) (end : Ending) → Unprinted Lists end → EndsSilent end
silent_of Lists None is = is
silent_of Lists (Some fault.Usage) is = is
silent_of Lists (Some (fault.Text w byte)) is = is
silent_of Lists (Some (fault.IllTyped decl)) is = is
silent_of Lists (Some (fault.Catalogue byte)) is = is
silent_of Lists (Some (fault.NameTwice name)) is = is
silent_of Lists (Some (fault.NoDriver name)) is = is
silent_of Lists (Some (fault.Unsuited name)) is = is
silent_of Lists (Some (fault.BadFile place)) is = is
silent_of Lists (Some (fault.NoType byte)) is = is
silent_of Lists (Some (fault.BadSource name place)) is = is
silent_of Lists (Some fault.Overflow) is = is
silent_of Lists (Some fault.Read) is = tt
silent_of Lists (Some (fault.Changed name)) is = tt
silent_of Lists (Some fault.Write) is = is
silent_of Lists (Some fault.NoMemory) is = is
silent_of Lists (Some fault.ProgramBytes) is = is
silent_of Lists (Some fault.CatalogueBytes) is = is
silent_of Lists (Some fault.FileBytes) is = is
silent_of Lists (Some fault.Nesting) is = is
silent_of Lists (Some fault.ItemNesting) is = is
silent_of Lists (Some fault.TermNodes) is = is
silent_of Lists (Some fault.TermDepth) is = is
silent_of Lists (Some fault.SchemeBytes) is = is

-- what gives lists in one way gives lists in another, where a driver failed
pub unprinted_where : (Fewer Lists : Type 0) (end : Ending) → (end ≡ Some fault.Read → Fewer → Lists) → ((name : Name) → end ≡ Some (fault.Changed name) → Fewer → Lists) → Unprinted Lists end → Unprinted Fewer end
unprinted_where Fewer Lists None read changed is = is
unprinted_where Fewer Lists (Some fault.Usage) read changed is = is
unprinted_where Fewer Lists (Some (fault.Text w byte)) read changed is = is
unprinted_where Fewer Lists (Some (fault.IllTyped decl)) read changed is = is
unprinted_where Fewer Lists (Some (fault.Catalogue byte)) read changed is = is
unprinted_where Fewer Lists (Some (fault.NameTwice name)) read changed is = is
unprinted_where Fewer Lists (Some (fault.NoDriver name)) read changed is = is
unprinted_where Fewer Lists (Some (fault.Unsuited name)) read changed is = is
unprinted_where Fewer Lists (Some (fault.BadFile place)) read changed is = is
unprinted_where Fewer Lists (Some (fault.NoType byte)) read changed is = is
unprinted_where Fewer Lists (Some (fault.BadSource name place)) read changed is = is
unprinted_where Fewer Lists (Some fault.Overflow) read changed is = is
unprinted_where Fewer Lists (Some fault.Read) read changed is = λ h. is (read refl h)
unprinted_where Fewer Lists (Some (fault.Changed name)) read changed is = λ h. is (changed name refl h)
unprinted_where Fewer Lists (Some fault.Write) read changed is = is
unprinted_where Fewer Lists (Some fault.NoMemory) read changed is = is
unprinted_where Fewer Lists (Some fault.ProgramBytes) read changed is = is
unprinted_where Fewer Lists (Some fault.CatalogueBytes) read changed is = is
unprinted_where Fewer Lists (Some fault.FileBytes) read changed is = is
unprinted_where Fewer Lists (Some fault.Nesting) read changed is = is
unprinted_where Fewer Lists (Some fault.ItemNesting) read changed is = is
unprinted_where Fewer Lists (Some fault.TermNodes) read changed is = is
unprinted_where Fewer Lists (Some fault.TermDepth) read changed is = is
unprinted_where Fewer Lists (Some fault.SchemeBytes) read changed is = is

pub unprinted_on : (Fewer Lists : Type 0) → (Fewer → Lists) → (end : Ending) → Unprinted Lists end → Unprinted Fewer end
unprinted_on Fewer Lists more end is = unprinted_where Fewer Lists end (λ e. more) (λ name e. more) is
