use Rattle.kl_ho.proofs.KeptLemmas.{kept_some, kept_listed}
use Rattle.kl_ho.proofs.expanded.expand.Goals as goal

pub whole-requires-clause-places : goal.whole-requires-clause-places
whole-requires-clause-places c = rw (c.slice.ensures, c.slice-2.ensures) c.requires.1.each_listed

pub whole-requires-clause-listed : goal.whole-requires-clause-listed
whole-requires-clause-listed c = rw (c.slice.ensures, c.slice-2.ensures) (kept_listed c.requires.0 c.args.ho.now c.requires.1)

pub whole-requires-clause-some : goal.whole-requires-clause-some
whole-requires-clause-some c = rw (c.slice.ensures, c.slice-2.ensures) (kept_some c.requires.0 c.args.ho.now c.requires.1)

pub returns-clause-expansion : goal.returns-clause-expansion
returns-clause-expansion c = rw (c.slice.ensures, c.slice-2.ensures) at c.whole.ensures.expansion

pub returns-clause-from : goal.returns-clause-from
returns-clause-from c = rw (c.slice.ensures, c.slice-2.ensures) at c.whole.ensures.from

pub returns-clause-refused : goal.returns-clause-refused
returns-clause-refused c = rw (c.slice.ensures, c.slice-2.ensures) at c.whole.ensures.refused
