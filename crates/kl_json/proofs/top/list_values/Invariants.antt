use Rattle.kl_exchange.specs.FileReading.{to_come}
use Rattle.kl_json.proofs.Putting.{Listed}
use Rattle.kl_json.proofs.top.list_values.Given as goal

abbrev pub invariant-items : goal.invariant-items
invariant-items g l =
    Listed l.choices l.initial.reader.items.file (g.F.Files.state l.initial.files) (g.F.Files.state l.files) (g.S.Sink.state l.initial.out) (g.S.Sink.state l.out) l.reader l.page

abbrev pub decreases-items : goal.decreases-items
decreases-items g l = to_come l.reader.items
