use Rattle.kl_outside.proofs.FileLemmas.{whole_read}
use Rattle.kl_outside.proofs.files.read_whole.Goals as goal

pub returns : goal.returns
returns g c = whole_read _ _ _ _ _ _ _ _ c.in_ok-file.ensures c.read_rest-result.ensures.rest c.close.ensures
