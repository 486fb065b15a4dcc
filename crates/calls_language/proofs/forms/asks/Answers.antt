use Rattle.std.proofs.Common.{refl}
use Rattle.kl_prim.specs.Table.{row_at, rows}
use Rattle.kl_meaning.specs.Codes.{IsCalled}
use Rattle.calls_language.proofs.forms.asks.Goals as goal

-- a call names the primitive
count_called : IsCalled 14
unfolding IsCalled row_at rows
count_called = refl

pub applied-requires-clause-called : goal.applied-requires-clause-called
applied-requires-clause-called c = count_called
