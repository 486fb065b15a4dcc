use Rattle.kl_prim.proofs.MeaningLemmas.{meaning_canonical, meaning_sense, meaning_takes, meaning_total}
use Rattle.kl_prim.proofs.primitives.table_laws.Goals as goal

pub returns-clause-takes : goal.returns-clause-takes
returns-clause-takes c = meaning_takes

pub returns-clause-sense : goal.returns-clause-sense
returns-clause-sense c = meaning_sense

pub returns-clause-total : goal.returns-clause-total
returns-clause-total c = meaning_total

pub returns-clause-canonical : goal.returns-clause-canonical
returns-clause-canonical c = meaning_canonical
