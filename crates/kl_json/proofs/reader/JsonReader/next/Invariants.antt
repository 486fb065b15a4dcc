use Rattle.kl_exchange.specs.FileReading.{to_come}
use Rattle.kl_json.proofs.Meanwhile.{Meanwhile}
use Rattle.kl_json.proofs.reader.JsonReader.next.Given as goal

abbrev pub invariant-pieces : goal.invariant-pieces
invariant-pieces g l = Meanwhile l.choices l.initial.self l.self (g.F.Files.state l.initial.files) (g.F.Files.state l.files)

abbrev pub decreases-pieces : goal.decreases-pieces
decreases-pieces g l = to_come l.self.items
