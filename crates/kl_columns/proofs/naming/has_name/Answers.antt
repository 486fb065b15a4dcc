use Rattle.std.proofs.Common.{◌∙◌, sym}
use Rattle.kl_catalogue.specs.declared.reading.Entry.{Entry}
use Rattle.kl_sources.specs.Sources.{same}
use Rattle.kl_columns.proofs.Walked.{found_there}
use Rattle.kl_columns.proofs.naming.has_name.Goals as goal

pub returns-then-eq : goal.returns-then-eq
returns-then-eq c = found_there (same c.args.name.now) (λ (e : Entry). e.name) c.args.entries.now c.loop-entry.entry-index c.entry-item.result c.loop-entry-test.true c.entry-item.is (sym c.eq.ensures ∙ c.if-eq.true)
