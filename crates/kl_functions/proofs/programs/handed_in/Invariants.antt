use Rattle.std.proofs.Common.{◌≡◌, ◌++◌, drop}
use Rattle.kl_syntax.specs.View.{patterns_view}
use Rattle.kl_ho.specs.HoPrograms.{handed_in}
use Rattle.kl_functions.specs.Occurrences.{names_of, seconds_of}
use Rattle.kl_functions.proofs.programs.handed_in.Given as goal

abbrev pub invariant-fields : goal.invariant-fields
invariant-fields l = names_of l.names.items ++ seconds_of (handed_in l.labels (patterns_view (drop l.field-index l.fields))) ≡ seconds_of (handed_in l.labels (patterns_view l.fields))
