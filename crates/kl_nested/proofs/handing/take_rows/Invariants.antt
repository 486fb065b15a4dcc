use Rattle.kl_nested.proofs.Handings.{Taking}
use Rattle.kl_nested.proofs.handing.take_rows.Given as goal

abbrev pub invariant-rows : goal.invariant-rows
invariant-rows g l = Taking l.limit l.source l.taken l.number l.fn.into.items l.into.items l.fn.reader l.reader (g.F.Files.state l.fn.files) (g.F.Files.state l.files)
