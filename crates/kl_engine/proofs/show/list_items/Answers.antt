use Rattle.std.proofs.Common.{Ok, Err, refl, sym, ◌∙◌, arith}
use Rattle.kl_heads.specs.declared.reader.Item.TheVariants as item
use Rattle.kl_engine.proofs.ShowLemmas.{going_none, no_head, going_value, going_wait, going_fetched, value_stopped, stops_misfit, stops_refused, wait_unflushed, items_unfetched, items_end, line_some, open_now}
use Rattle.kl_engine.proofs.show.list_items.Goals as goal

pub items-init : goal.items-init
items-init g c = rw c.new-page.ensures (going_none _ _ _ _ _ c.requires.is_open)

pub unreachable-requires : goal.unreachable-requires
unreachable-requires g c = no_head _ _ _ _ _ _ _ _ _ _ c.items.invariant c.requires.unread _ c.in-Ok-Head.field-0-0 (rw c.in-Ok-Head.field-0-is at c.in-Ok-Head.ensures)

pub returns-then-not-fits : goal.returns-then-not-fits
returns-then-not-fits g c = λ ds. stops_misfit _ _ _ _ _ _ _ _ _ _ c.items.invariant ds c.stop_at.result _ c.in-Ok-Value.value _ _ (sym c.fits.ensures ∙ c.if-not-fits.true) (rw c.in-Ok-Value.field-0-is at c.in-Ok-Value.ensures) (rw c.place-place.ensures at c.stop_at.ensures)

pub items-smaller-in-Ok : goal.items-smaller-in-Ok
items-smaller-in-Ok g c = (rw c.in-Ok-Value.field-0-is at c.in-Ok-Value.ensures).less c.in-Ok-Value.value refl

pub items-preserved-in-Ok : goal.items-preserved-in-Ok
items-preserved-in-Ok g c = going_value _ _ _ _ _ _ _ _ _ _ c.items.invariant _ c.in-Ok-Value.value (sym c.fits.ensures ∙ c.if-not-fits.false) (line_some c.args.form c.in-Ok-Value.value) (rw c.in-Ok-Value.field-0-is at c.in-Ok-Value.ensures) c.in-Ok.field-0 _ _ c.in-Ok.ensures

pub returns-in-Err-print_item : goal.returns-in-Err-print_item
returns-in-Err-print_item g c = λ ds. rw c.write_fault.ensures (value_stopped _ _ _ _ _ _ _ _ _ _ c.items.invariant ds c.in-Err-print_item.error _ c.in-Ok-Value.value _ _ (sym c.fits.ensures ∙ c.if-not-fits.false) (line_some c.args.form c.in-Ok-Value.value) (rw c.in-Ok-Value.field-0-is at c.in-Ok-Value.ensures) c.in-Err-print_item.ensures)

pub returns-in-Err-flush : goal.returns-in-Err-flush
returns-in-Err-flush g c = λ ds. rw c.write_fault-in-Err-flush.ensures (wait_unflushed _ _ _ _ _ _ _ _ _ _ c.items.invariant ds c.in-Err-flush.error (Ok item.NeedMore) _ _ _ (rw c.in-Ok-NeedMore.field-0-is at c.in-Ok-NeedMore.ensures) c.in-Err-flush.ensures)

pub fetch-requires-clause-is_open : goal.fetch-requires-clause-is_open
fetch-requires-clause-is_open g c = open_now _ _ _ _ _ _ _ _ _ _ (going_wait _ _ _ _ _ _ _ _ _ _ c.items.invariant _ _ c.in-Ok-flush.ensures _ (rw c.in-Ok-NeedMore.field-0-is at c.in-Ok-NeedMore.ensures))

pub items-smaller : goal.items-smaller
items-smaller g c = let a = (rw c.in-Ok-NeedMore.field-0-is at c.in-Ok-NeedMore.ensures).still refl in let b = c.in-Ok-fetch.ensures.items.less in omega (arith, a, b)

pub items-preserved : goal.items-preserved
items-preserved g c = going_fetched _ _ _ _ _ _ _ _ _ _ (going_wait _ _ _ _ _ _ _ _ _ _ c.items.invariant _ _ c.in-Ok-flush.ensures _ (rw c.in-Ok-NeedMore.field-0-is at c.in-Ok-NeedMore.ensures)) _ _ c.in-Ok-fetch.ensures

pub returns-in-Err-fetch : goal.returns-in-Err-fetch
returns-in-Err-fetch g c = λ ds. rw c.fetch_fault.ensures (items_unfetched _ _ _ _ _ _ _ _ _ _ (going_wait _ _ _ _ _ _ _ _ _ _ c.items.invariant _ _ c.in-Ok-flush.ensures _ (rw c.in-Ok-NeedMore.field-0-is at c.in-Ok-NeedMore.ensures)) _ _ ds c.requires.unread refl c.in-Err-fetch.error c.in-Err-fetch.ensures)

pub returns-in-Ok-flush-2 : goal.returns-in-Ok-flush-2
returns-in-Ok-flush-2 g c = λ ds. items_end _ _ _ _ _ _ _ _ _ _ c.items.invariant _ _ c.in-Ok-flush-2.ensures ds _ (rw c.in-Ok-End.field-0-is at c.in-Ok-End.ensures)

pub returns-in-Err-flush-2 : goal.returns-in-Err-flush-2
returns-in-Err-flush-2 g c = λ ds. rw c.write_fault-in-Err-flush-2.ensures (wait_unflushed _ _ _ _ _ _ _ _ _ _ c.items.invariant ds c.in-Err-flush-2.error (Ok item.End) _ _ _ (rw c.in-Ok-End.field-0-is at c.in-Ok-End.ensures) c.in-Err-flush-2.ensures)

pub returns-in-Err : goal.returns-in-Err
returns-in-Err g c = λ ds. stops_refused _ _ _ _ _ _ _ _ _ _ c.items.invariant ds c.in-Err.refusal c.stop_at-in-Err.result _ _ _ c.in-Err.ensures (rw c.read_fault.ensures at c.stop_at-in-Err.ensures)
