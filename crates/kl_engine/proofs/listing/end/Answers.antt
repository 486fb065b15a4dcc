use Rattle.std.proofs.Common.{Ok, Err}
use Rattle.kl_exchange.specs.Printing.{as_stop}
use Rattle.kl_engine.specs.Verdict.{list_front}
use Rattle.kl_engine.proofs.FewLemmas.{close_more}
use Rattle.kl_engine.proofs.ListLemmas.{list_ended, list_unended}
use Rattle.kl_engine.proofs.listing.end.Goals as goal

pub returns-in-Ok-clause-ends : goal.returns-in-Ok-clause-ends
returns-in-Ok-clause-ends g c = λ given first puts. list_ended given first _ c.in-Ok.field-0 (c.in-Ok.ensures (list_front given) first puts)

pub returns-in-Err-clause-ends : goal.returns-in-Err-clause-ends
returns-in-Err-clause-ends g c = λ given first puts. rw c.write_fault.ensures (list_unended given c.in-Err.error first _ (c.in-Err.ensures (list_front given) first puts))

pub returns-in-Ok-clause-more : goal.returns-in-Ok-clause-more
returns-in-Ok-clause-more g c = close_more (Ok c.in-Ok.field-0) _ _ _ c.in-Ok.ensures

pub returns-in-Err-clause-more : goal.returns-in-Err-clause-more
returns-in-Err-clause-more g c = close_more (as_stop (Err c.in-Err.error)) _ _ _ c.in-Err.ensures
