use Rattle.kl_infer.proofs.PageLemmas.{Looked}
use Rattle.kl_infer.proofs.page.place_in.Given as goal

abbrev pub invariant-seen : goal.invariant-seen
invariant-seen l = Looked l.fn.seen l.fn.place l.i
