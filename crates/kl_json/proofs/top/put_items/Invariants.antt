use Rattle.kl_exchange.specs.FileReading.{to_come}
use Rattle.kl_json.proofs.ItemPutting.{Listed}
use Rattle.kl_json.proofs.top.put_items.Given as goal

abbrev pub invariant-items : goal.invariant-items
invariant-items g l =
    Listed l.stated l.initial.reader (g.F.Files.state l.initial.files) (g.F.Files.state l.files) (g.S.Sink.state l.initial.out) (g.S.Sink.state l.out) l.reader l.page

abbrev pub decreases-items : goal.decreases-items
decreases-items g l = to_come l.reader.items
