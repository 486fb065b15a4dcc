use Rattle.kl_exchange.proofs.FileReading.{fetches_so}
use Rattle.kl_exchange.proofs.file_reader.FileReader.fetch.Goals as goal

pub fetch_piece-requires-clause-grows : goal.fetch_piece-requires-clause-grows
fetch_piece-requires-clause-grows g c = record { unfinished = c.requires.waits.unfinished; fresh = c.requires.waits.fresh }

pub returns : goal.returns
returns g c = fetches_so _ _ _ _ _ c.requires.waits c.fetch_piece.ensures
