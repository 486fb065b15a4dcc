use Rattle.std.proofs.Common.{sym, ◌∙◌}
use Rattle.kl_engine.proofs.DrawLemmas.{draws_fewer, draws_first, draws_on, draws_owned, draws_ready, draws_stands, drew_is, drew_next, drew_owned, enough_prints, enough_scanned, enough_spared, moved_owned, stop_counted, stop_prints, stop_spared, unopened_prints, unopened_scanned, unopened_spared, unput_prints, unput_scanned, unput_spared, unready_prints, unready_scanned, unready_spared, whole_counted, whole_prints, whole_spared}
use Rattle.kl_engine.proofs.PutLemmas.{puts_as, puts_refused}
use Rattle.kl_engine.proofs.listing.print_items.Goals as goal

pub items-init : goal.items-init
items-init g c = draws_first _ _ _ _ _ _ _ c.requires.sense c.requires.some c.in-Ok.ensures.0 c.in-Ok.ensures.1

pub close-requires-in-Err-draw : goal.close-requires-in-Err-draw
close-requires-in-Err-draw g c = moved_owned _ _ _ _ _ _ _ _ _ _ _ _ c.items.invariant _ _ c.in-Err-draw.ensures.draws.0

pub returns-in-Err-draw-clause-prints : goal.returns-in-Err-draw-clause-prints
returns-in-Err-draw-clause-prints g c = λ files ks ss marks t front runs list puts. rw c.write_fault-in-Err-draw.ensures (unready_prints _ _ _ _ _ _ _ _ _ _ _ _ c.items.invariant _ _ c.in-Err-draw.ensures.draws.0 ks ss marks t files runs list front puts c.in-Err-draw.error _ _ _ (puts_refused c.in-Err-draw.error _ _ _ _ _ c.in-Err-draw.ensures.puts) c.close-in-Err-draw.ensures)

pub returns-in-Err-draw-clause-scanned : goal.returns-in-Err-draw-clause-scanned
returns-in-Err-draw-clause-scanned g c = rw c.write_fault-in-Err-draw.ensures (unready_scanned _ _ _ _ _ _ _ _ _ _ _ _ c.items.invariant _ _ c.in-Err-draw.ensures.draws.0 c.in-Err-draw.error _ c.close-in-Err-draw.ensures)

pub draw-requires-clause-owned : goal.draw-requires-clause-owned
draw-requires-clause-owned g c = draws_owned _ _ _ _ _ _ _ _ _ _ _ _ c.items.invariant

pub draw-requires-clause-sense : goal.draw-requires-clause-sense
draw-requires-clause-sense g c = draws_stands _ _ _ _ _ _ _ _ _ _ _ _ c.items.invariant c.requires.sense

pub fewer-left-requires : goal.fewer-left-requires
fewer-left-requires g c = c.items.invariant.some

pub close-requires : goal.close-requires
close-requires g c = drew_owned _ _ _ _ _ _ _ _ _ _ _ _ c.items.invariant _ _ _ _ c.in-Ok-Ok-Some.ensures.env (drew_next _ _ _ _ _ _ _ _ _ c.in-Ok-Ok-Some.field-0-is c.in-Ok-Ok-Some.field-0-0-is c.in-Ok-Ok-Some.ensures.draws).0

pub returns-then-are_enough-clause-prints : goal.returns-then-are_enough-clause-prints
returns-then-are_enough-clause-prints g c =
    λ files ks ss marks t front runs list puts.
    enough_prints _ _ _ _ _ _ _ _ _ _ _ _ (draws_ready _ _ _ _ _ _ _ _ _ _ _ _ c.items.invariant _ _ _ (puts_as _ _ _ _ _ _ _ c.in-Ok-Ok-Some.ensures.puts) c.in-Ok-Ok-Some.ensures.draws.2).draws _ _ _ _ c.in-Ok-Ok-Some.ensures.env (drew_next _ _ _ _ _ _ _ _ _ c.in-Ok-Ok-Some.field-0-is c.in-Ok-Ok-Some.field-0-0-is c.in-Ok-Ok-Some.ensures.draws).0 _ _ ks ss marks t files runs list front puts
    _ _ _ _ _ c.in-Ok-print_item.ensures c.fewer-left.ensures (sym c.are_enough.ensures ∙ c.if-are_enough.true) c.close.ensures c.end.ensures.ends

pub returns-then-are_enough-clause-scanned : goal.returns-then-are_enough-clause-scanned
returns-then-are_enough-clause-scanned g c =
    enough_scanned _ _ _ _ _ _ _ _ _ _ _ _ c.items.invariant _ _ _ _ c.in-Ok-Ok-Some.ensures.env (drew_next _ _ _ _ _ _ _ _ _ c.in-Ok-Ok-Some.field-0-is c.in-Ok-Ok-Some.field-0-0-is c.in-Ok-Ok-Some.ensures.draws).0
    _ _ _ c.fewer-left.ensures (sym c.are_enough.ensures ∙ c.if-are_enough.true) c.close.ensures

pub close-requires-in-Err-print_item : goal.close-requires-in-Err-print_item
close-requires-in-Err-print_item g c = drew_owned _ _ _ _ _ _ _ _ _ _ _ _ c.items.invariant _ _ _ _ c.in-Ok-Ok-Some.ensures.env (drew_next _ _ _ _ _ _ _ _ _ c.in-Ok-Ok-Some.field-0-is c.in-Ok-Ok-Some.field-0-0-is c.in-Ok-Ok-Some.ensures.draws).0

pub returns-in-Err-print_item-clause-prints : goal.returns-in-Err-print_item-clause-prints
returns-in-Err-print_item-clause-prints g c =
    λ files ks ss marks t front runs list puts.
    rw c.write_fault.ensures
    (unput_prints _ _ _ _ _ _ _ _ _ _ _ _ (draws_ready _ _ _ _ _ _ _ _ _ _ _ _ c.items.invariant _ _ _ (puts_as _ _ _ _ _ _ _ c.in-Ok-Ok-Some.ensures.puts) c.in-Ok-Ok-Some.ensures.draws.2).draws _ _ _ _ c.in-Ok-Ok-Some.ensures.env (drew_next _ _ _ _ _ _ _ _ _ c.in-Ok-Ok-Some.field-0-is c.in-Ok-Ok-Some.field-0-0-is c.in-Ok-Ok-Some.ensures.draws).0 _ _ ks ss marks t files runs list front puts
    c.in-Err-print_item.error _ c.in-Err-print_item.ensures c.close-in-Err-print_item.ensures)

pub returns-in-Err-print_item-clause-scanned : goal.returns-in-Err-print_item-clause-scanned
returns-in-Err-print_item-clause-scanned g c =
    rw c.write_fault.ensures
    (unput_scanned _ _ _ _ _ _ _ _ _ _ _ _ c.items.invariant _ _ _ _ c.in-Ok-Ok-Some.ensures.env (drew_next _ _ _ _ _ _ _ _ _ c.in-Ok-Ok-Some.field-0-is c.in-Ok-Ok-Some.field-0-0-is c.in-Ok-Ok-Some.ensures.draws).0 c.in-Err-print_item.error _ c.close-in-Err-print_item.ensures)

pub items-preserved : goal.items-preserved
items-preserved g c =
    draws_on _ _ _ _ _ _ _ _ _ _ _ _ (draws_ready _ _ _ _ _ _ _ _ _ _ _ _ c.items.invariant _ _ _ (puts_as _ _ _ _ _ _ _ c.in-Ok-Ok-Some.ensures.puts) c.in-Ok-Ok-Some.ensures.draws.2).draws _ _ _ _ c.in-Ok-Ok-Some.ensures.env (drew_next _ _ _ _ _ _ _ _ _ c.in-Ok-Ok-Some.field-0-is c.in-Ok-Ok-Some.field-0-0-is c.in-Ok-Ok-Some.ensures.draws).0 _ _
    c.requires.sense (drew_next _ _ _ _ _ _ _ _ _ c.in-Ok-Ok-Some.field-0-is c.in-Ok-Ok-Some.field-0-0-is c.in-Ok-Ok-Some.ensures.draws).1 (draws_ready _ _ _ _ _ _ _ _ _ _ _ _ c.items.invariant _ _ _ (puts_as _ _ _ _ _ _ _ c.in-Ok-Ok-Some.ensures.puts) c.in-Ok-Ok-Some.ensures.draws.2).all _ _ c.in-Ok-print_item.ensures c.fewer-left.ensures (sym c.are_enough.ensures ∙ c.if-are_enough.false)

pub items-smaller : goal.items-smaller
items-smaller g c = draws_fewer _ _ _ _ _ _ _ _ _ _ _ _ c.items.invariant _ _ _ _ c.in-Ok-Ok-Some.ensures.env (drew_next _ _ _ _ _ _ _ _ _ c.in-Ok-Ok-Some.field-0-is c.in-Ok-Ok-Some.field-0-0-is c.in-Ok-Ok-Some.ensures.draws).0

pub returns-in-Ok-Ok-None-clause-prints : goal.returns-in-Ok-Ok-None-clause-prints
returns-in-Ok-Ok-None-clause-prints g c =
    λ files ks ss marks t front runs list puts.
    whole_prints _ _ _ _ _ _ _ _ _ _ _ _ (draws_ready _ _ _ _ _ _ _ _ _ _ _ _ c.items.invariant _ _ _ (puts_as _ _ _ _ _ _ _ c.in-Ok-Ok-None.ensures.puts) c.in-Ok-Ok-None.ensures.draws.2).draws ks ss marks t files runs list front puts
    _ _ _ _ (drew_next _ _ _ _ _ _ _ _ _ c.in-Ok-Ok-None.field-0-is c.in-Ok-Ok-None.field-0-0-is c.in-Ok-Ok-None.ensures.draws).0 c.end-in-Ok-Ok-None.ensures.ends

pub returns-in-Ok-Ok-None-clause-scanned : goal.returns-in-Ok-Ok-None-clause-scanned
returns-in-Ok-Ok-None-clause-scanned g c = whole_counted _ _ _ _ _ _ _ _ _ _ _ _ c.items.invariant _ _ _ c.requires.sense (drew_next _ _ _ _ _ _ _ _ _ c.in-Ok-Ok-None.field-0-is c.in-Ok-Ok-None.field-0-0-is c.in-Ok-Ok-None.ensures.draws).0

pub returns-in-Ok-Err-clause-prints : goal.returns-in-Ok-Err-clause-prints
returns-in-Ok-Err-clause-prints g c =
    λ files ks ss marks t front runs list puts.
    stop_prints _ _ _ _ _ _ _ _ _ _ _ _ (draws_ready _ _ _ _ _ _ _ _ _ _ _ _ c.items.invariant _ _ _ (puts_as _ _ _ _ _ _ _ c.in-Ok-Err.ensures.puts) c.in-Ok-Err.ensures.draws.2).draws ks ss marks t files runs list front puts _ _ _ _ _ (drew_is _ _ _ _ _ _ _ _ c.in-Ok-Err.field-0-is c.in-Ok-Err.ensures.draws).0 c.stopped.ensures.stops

pub returns-in-Ok-Err-clause-scanned : goal.returns-in-Ok-Err-clause-scanned
returns-in-Ok-Err-clause-scanned g c = stop_counted _ _ _ _ _ _ _ _ _ _ _ _ c.items.invariant _ _ _ _ c.stopped.ensures.never (drew_is _ _ _ _ _ _ _ _ c.in-Ok-Err.field-0-is c.in-Ok-Err.ensures.draws).0

pub returns-clause-prints : goal.returns-clause-prints
returns-clause-prints g c = λ files ks ss marks t front runs list puts. unopened_prints _ _ _ _ _ ks ss marks t files runs list front puts

pub returns-clause-scanned : goal.returns-clause-scanned
returns-clause-scanned g c = unopened_scanned _ _ _

pub returns-in-Err-draw-clause-spares : goal.returns-in-Err-draw-clause-spares
returns-in-Err-draw-clause-spares g c = λ front puts. rw c.write_fault-in-Err-draw.ensures (unready_spared _ _ _ _ _ _ _ _ _ _ _ _ c.items.invariant _ _ c.in-Err-draw.ensures.draws.0 c.in-Err-draw.error _ _ _ c.requires.sense c.in-Err-draw.ensures.draws.1 (puts_refused c.in-Err-draw.error _ _ _ _ _ c.in-Err-draw.ensures.puts) c.close-in-Err-draw.ensures front puts)

pub returns-then-are_enough-clause-spares : goal.returns-then-are_enough-clause-spares
returns-then-are_enough-clause-spares g c =
    let r = draws_ready _ _ _ _ _ _ _ _ _ _ _ _ c.items.invariant _ _ _ (puts_as _ _ _ _ _ _ _ c.in-Ok-Ok-Some.ensures.puts) c.in-Ok-Ok-Some.ensures.draws.2 in
    λ front puts.
    enough_spared _ _ _ _ _ _ _ _ _ _ _ _ r.draws _ _ _ _ c.in-Ok-Ok-Some.ensures.env (drew_next _ _ _ _ _ _ _ _ _ c.in-Ok-Ok-Some.field-0-is c.in-Ok-Ok-Some.field-0-0-is c.in-Ok-Ok-Some.ensures.draws).0 c.requires.sense (drew_next _ _ _ _ _ _ _ _ _ c.in-Ok-Ok-Some.field-0-is c.in-Ok-Ok-Some.field-0-0-is c.in-Ok-Ok-Some.ensures.draws).1 r.all
    _ _ _ _ _ _ _ c.in-Ok-print_item.ensures c.fewer-left.ensures (sym c.are_enough.ensures ∙ c.if-are_enough.true) c.close.ensures c.end.ensures.more front puts

pub returns-in-Err-print_item-clause-spares : goal.returns-in-Err-print_item-clause-spares
returns-in-Err-print_item-clause-spares g c =
    let r = draws_ready _ _ _ _ _ _ _ _ _ _ _ _ c.items.invariant _ _ _ (puts_as _ _ _ _ _ _ _ c.in-Ok-Ok-Some.ensures.puts) c.in-Ok-Ok-Some.ensures.draws.2 in
    λ front puts.
    rw c.write_fault.ensures
    (unput_spared _ _ _ _ _ _ _ _ _ _ _ _ r.draws _ _ _ _ c.in-Ok-Ok-Some.ensures.env (drew_next _ _ _ _ _ _ _ _ _ c.in-Ok-Ok-Some.field-0-is c.in-Ok-Ok-Some.field-0-0-is c.in-Ok-Ok-Some.ensures.draws).0 c.requires.sense (drew_next _ _ _ _ _ _ _ _ _ c.in-Ok-Ok-Some.field-0-is c.in-Ok-Ok-Some.field-0-0-is c.in-Ok-Ok-Some.ensures.draws).1 r.all
    c.in-Err-print_item.error _ _ _ c.in-Err-print_item.ensures c.close-in-Err-print_item.ensures front puts)

pub returns-in-Ok-Ok-None-clause-spares : goal.returns-in-Ok-Ok-None-clause-spares
returns-in-Ok-Ok-None-clause-spares g c =
    let r = draws_ready _ _ _ _ _ _ _ _ _ _ _ _ c.items.invariant _ _ _ (puts_as _ _ _ _ _ _ _ c.in-Ok-Ok-None.ensures.puts) c.in-Ok-Ok-None.ensures.draws.2 in
    λ front puts. whole_spared _ _ _ _ _ _ _ _ _ _ _ _ r.draws _ _ _ _ c.requires.sense r.all (drew_next _ _ _ _ _ _ _ _ _ c.in-Ok-Ok-None.field-0-is c.in-Ok-Ok-None.field-0-0-is c.in-Ok-Ok-None.ensures.draws).0 c.end-in-Ok-Ok-None.ensures.more front puts

pub returns-in-Ok-Err-clause-spares : goal.returns-in-Ok-Err-clause-spares
returns-in-Ok-Err-clause-spares g c =
    let r = draws_ready _ _ _ _ _ _ _ _ _ _ _ _ c.items.invariant _ _ _ (puts_as _ _ _ _ _ _ _ c.in-Ok-Err.ensures.puts) c.in-Ok-Err.ensures.draws.2 in
    λ front puts. stop_spared _ _ _ _ _ _ _ _ _ _ _ _ r.draws _ _ _ _ _ c.requires.sense r.all c.stopped.ensures.never (drew_is _ _ _ _ _ _ _ _ c.in-Ok-Err.field-0-is c.in-Ok-Err.ensures.draws).0 c.stopped.ensures.more c.stopped.ensures.stops front puts

pub returns-clause-spares : goal.returns-clause-spares
returns-clause-spares g c = λ front puts. unopened_spared _ _ _ front _ c.requires.sense
