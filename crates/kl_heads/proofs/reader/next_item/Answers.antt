use Rattle.std.proofs.Common.{None, Err, sym, subst}
use Rattle.kl_heads.specs.Reading.{ReadsNext, headed_of}
use Rattle.kl_heads.proofs.ItemsBehind.{refuses}
use Rattle.kl_heads.proofs.reader.next_item.Goals as goal

pub returns-in-Err-clause-reads : goal.returns-in-Err-clause-reads
returns-in-Err-clause-reads c =
    subst (λ e. ReadsNext (headed_of c.args.first.now c.args.head c.args.items.now None) (Err e) (headed_of c.args.first.now c.args.head c.next.new.self None)) (sym c.behind.ensures)
    (refuses c.args.first.now c.args.head c.args.items.now c.requires c.in-Err.error c.next.new.self c.in-Err.ensures.reads)
