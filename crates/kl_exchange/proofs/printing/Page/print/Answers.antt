use Rattle.kl_exchange.proofs.ReadsBack.{item_back}
use Rattle.kl_exchange.proofs.printing.Page.print.Goals as goal

pub returns-in-None-clause-reads_back : goal.returns-in-None-clause-reads_back
returns-in-None-clause-reads_back g c n canonical = item_back n c.args.v.now canonical c.print_value.ensures.stored

pub returns-in-Some-clause-reads_back : goal.returns-in-Some-clause-reads_back
returns-in-Some-clause-reads_back g c n canonical = item_back n c.args.v.now canonical c.print_value.ensures.stored
