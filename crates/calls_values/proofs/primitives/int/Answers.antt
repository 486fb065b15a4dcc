use Rattle.kl_value.proofs.IsCanonicalLemmas.{int_made}
use Rattle.calls_values.proofs.primitives.int.Goals as goal

pub returns-clause-canonical : goal.returns-clause-canonical
returns-clause-canonical c = int_made _
