use Rattle.kl_exchange.specs.FileReading.{to_come}
use Rattle.kl_engine.specs.Showing.{line_of}
use Rattle.kl_engine.proofs.ShowLemmas.{Going}
use Rattle.kl_engine.proofs.show.list_items.Given as goal

abbrev pub invariant-items : goal.invariant-items
invariant-items g l = Going l.initial.items (line_of l.form) l.wanted l.items (g.F.Files.state l.initial.files) (g.F.Files.state l.files) (g.S.Sink.state l.initial.out) (g.S.Sink.state l.out) l.page l.begun

abbrev pub decreases-items : goal.decreases-items
decreases-items g l = to_come l.items.items
