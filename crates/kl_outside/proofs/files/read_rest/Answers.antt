use Rattle.kl_outside.proofs.FileLemmas.{rest_stopped, rest_wanting}
use Rattle.kl_outside.proofs.files.read_rest.Goals as goal

pub returns-in_err-count-clause-rest : goal.returns-in_err-count-clause-rest
returns-in_err-count-clause-rest g c = rest_stopped _ _ _ _ _ _ _ _ _ c.from_residual.ensures.1 c.pieces.invariant.so_far c.in_err-count.ensures

pub returns-in_err-extend_from_slice-clause-rest : goal.returns-in_err-extend_from_slice-clause-rest
returns-in_err-extend_from_slice-clause-rest g c = rest_wanting _ _ _ _ _ _ _ _ _ c.from_residual-in_err-extend_from_slice.ensures.1 c.pieces.invariant.so_far c.in_ok-count.ensures
