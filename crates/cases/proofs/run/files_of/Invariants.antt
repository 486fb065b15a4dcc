use Rattle.kl_outside.specs.Files.{NoneOpen}
use Rattle.kl_outside.specs.Memory.{files_state}
use Rattle.cases.proofs.run.files_of.Given as goal

abbrev pub invariant-calls : goal.invariant-calls
invariant-calls l = NoneOpen (files_state l.files)

abbrev pub invariant-changes : goal.invariant-changes
invariant-changes l = NoneOpen (files_state l.files)
