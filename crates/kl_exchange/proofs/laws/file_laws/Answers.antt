use Rattle.kl_exchange.proofs.FileItems.{one_showing}
use Rattle.kl_exchange.proofs.FileReading.{begins_so, first_shown}
use Rattle.kl_exchange.proofs.laws.file_laws.Goals as goal

pub returns : goal.returns
returns c = record { begins = begins_so; one_list = one_showing; front = first_shown }
