use Rattle.std.proofs.Common.{Ok, Err, sym, subst}
use Rattle.kl_json.specs.Answers.{PutsItems, PutsLine}
use Rattle.kl_json.proofs.ItemPutting.{known_on, open_on, listed_first, listed_more, listed_unprinted, listed_end, listed_stopped}
use Rattle.kl_json.proofs.top.put_items.Goals as goal

pub items-init : goal.items-init
items-init g c =
    listed_first c.args.stated.now c.args.reader.now (g.F.Files.state c.args.files.now) (g.S.Sink.state c.args.out.now) c.args.page.now
    c.requires.is_open c.requires.unread c.requires.limit c.requires.empty

pub next-requires-clause-is_open : goal.next-requires-clause-is_open
next-requires-clause-is_open g c = open_on _ _ _ _ _ _ _ _ c.items.invariant

pub next-requires-clause-behind : goal.next-requires-clause-behind
next-requires-clause-behind g c = known_on _ _ _ _ _ _ _ _ c.items.invariant

pub returns-in-Ok-Err : goal.returns-in-Ok-Err
returns-in-Ok-Err g c =
    let read = rw c.in-Ok-Some.field-0-is at c.in-Ok-Some.ensures in
    listed_unprinted _ _ _ _ _ _ _ _ c.items.invariant c.in-Ok-Some.value _ _ read.reads (Ok (Err c.in-Ok-Err.fault)) _ _ (λ u e. absurd cc)
    (subst (λ place. PutsLine c.args.stated.now c.in-Ok-Some.value place (Ok (Err c.in-Ok-Err.fault)) (g.S.Sink.state c.items.out) c.items.page (g.S.Sink.state c.put_line.new.out) c.put_line.new.page)
    c.place-place.ensures (rw c.in-Ok-Err.field-0-is at c.in-Ok-Err.ensures))

pub returns-in-Err-put_line : goal.returns-in-Err-put_line
returns-in-Err-put_line g c =
    let read = rw c.in-Ok-Some.field-0-is at c.in-Ok-Some.ensures in
    listed_unprinted _ _ _ _ _ _ _ _ c.items.invariant c.in-Ok-Some.value _ _ read.reads (Err c.in-Err-put_line.error) _ _ (λ u e. absurd cc) c.in-Err-put_line.ensures

pub returns-in-Ok-None : goal.returns-in-Ok-None
returns-in-Ok-None g c = let read = rw c.in-Ok-None.field-0-is at c.in-Ok-None.ensures in listed_end _ _ _ _ _ _ _ _ c.items.invariant tt _ _ read.reads

pub returns-in-Err : goal.returns-in-Err
returns-in-Err g c =
    subst (λ f. PutsItems c.args.reader.now c.args.stated.now (Ok (Err f)) (g.F.Files.state c.args.files.now) (g.F.Files.state c.next.new.files)
    (g.S.Sink.state c.args.out.now) (g.S.Sink.state c.items.out) c.items.page) (sym c.file_fault.ensures)
    (listed_stopped _ _ _ _ _ _ _ _ c.items.invariant c.in-Err.error _ _ c.in-Err.ensures.reads)

pub items-preserved : goal.items-preserved
items-preserved g c =
    let read = rw c.in-Ok-Some.field-0-is at c.in-Ok-Some.ensures in
    listed_more _ _ _ _ _ _ _ _ c.items.invariant c.in-Ok-Some.value _ _ read.reads tt _ _ (rw c.in-Ok-Ok.field-0-is at c.in-Ok-Ok.ensures)

pub items-preserved-in-Ok-Ok : goal.items-preserved-in-Ok-Ok
items-preserved-in-Ok-Ok g c =
    let read = rw c.in-Ok-Some.field-0-is at c.in-Ok-Some.ensures in
    listed_more _ _ _ _ _ _ _ _ c.items.invariant c.in-Ok-Some.value _ _ read.reads tt _ _ (rw c.in-Ok-Ok.field-0-is at c.in-Ok-Ok.ensures)

pub items-preserved-in-Ok-Ok-2 : goal.items-preserved-in-Ok-Ok-2
items-preserved-in-Ok-Ok-2 g c =
    let read = rw c.in-Ok-Some.field-0-is at c.in-Ok-Some.ensures in
    listed_more _ _ _ _ _ _ _ _ c.items.invariant c.in-Ok-Some.value _ _ read.reads tt _ _ (rw c.in-Ok-Ok.field-0-is at c.in-Ok-Ok.ensures)

pub items-preserved-in-Ok-Ok-3 : goal.items-preserved-in-Ok-Ok-3
items-preserved-in-Ok-Ok-3 g c =
    let read = rw c.in-Ok-Some.field-0-is at c.in-Ok-Some.ensures in
    listed_more _ _ _ _ _ _ _ _ c.items.invariant c.in-Ok-Some.value _ _ read.reads tt _ _ (rw c.in-Ok-Ok.field-0-is at c.in-Ok-Ok.ensures)

pub items-preserved-in-Ok-Ok-4 : goal.items-preserved-in-Ok-Ok-4
items-preserved-in-Ok-Ok-4 g c =
    let read = rw c.in-Ok-Some.field-0-is at c.in-Ok-Some.ensures in
    listed_more _ _ _ _ _ _ _ _ c.items.invariant c.in-Ok-Some.value _ _ read.reads tt _ _ (rw c.in-Ok-Ok.field-0-is at c.in-Ok-Ok.ensures)

pub items-preserved-in-Ok-Ok-5 : goal.items-preserved-in-Ok-Ok-5
items-preserved-in-Ok-Ok-5 g c =
    let read = rw c.in-Ok-Some.field-0-is at c.in-Ok-Some.ensures in
    listed_more _ _ _ _ _ _ _ _ c.items.invariant c.in-Ok-Some.value _ _ read.reads tt _ _ (rw c.in-Ok-Ok.field-0-is at c.in-Ok-Ok.ensures)

pub items-preserved-in-Ok-Ok-6 : goal.items-preserved-in-Ok-Ok-6
items-preserved-in-Ok-Ok-6 g c =
    let read = rw c.in-Ok-Some.field-0-is at c.in-Ok-Some.ensures in
    listed_more _ _ _ _ _ _ _ _ c.items.invariant c.in-Ok-Some.value _ _ read.reads tt _ _ (rw c.in-Ok-Ok.field-0-is at c.in-Ok-Ok.ensures)
