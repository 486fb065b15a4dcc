use Rattle.std.proofs.Common.{Ok, Err, IsSome, sym, subst}
use Rattle.kl_json.specs.Answers.{JsonStands, PutsLines, ToEnds, item_lines}
use Rattle.kl_json.proofs.Putting.{listed_first, listed_more, listed_unprinted, listed_end, listed_stopped}
use Rattle.kl_json.proofs.top.list_values.Goals as goal

pub items-init : goal.items-init
items-init g c =
    listed_first c.args.choices.now c.args.reader.now.items.file (g.F.Files.state c.args.files.now) (g.S.Sink.state c.args.out.now) c.args.reader.now c.args.page.now
    c.requires.is_open c.requires.fresh c.requires.empty

pub next-requires : goal.next-requires
next-requires g c = subst (λ k. IsSome ((g.F.Files.state c.items.files).left k)) (sym c.items.invariant.file) c.items.invariant.keeps.is_open

pub returns-in-Err-put_item : goal.returns-in-Err-put_item
returns-in-Err-put_item g c =
    listed_unprinted _ _ _ _ _ _ _ _ c.items.invariant c.in-Ok-Some.value _ _ (rw c.in-Ok-Some.field-0-is at c.in-Ok-Some.ensures) c.in-Err-put_item.error _ _ c.in-Err-put_item.ensures

pub returns-in-Ok-None : goal.returns-in-Ok-None
returns-in-Ok-None g c = listed_end _ _ _ _ _ _ _ _ c.items.invariant tt _ _ (rw c.in-Ok-None.field-0-is at c.in-Ok-None.ensures)

pub returns-in-Err : goal.returns-in-Err
returns-in-Err g c =
    subst (λ f. PutsLines item_lines ToEnds (JsonStands c.args.choices.now) c.args.reader.now.items.file (Ok (Err f)) (g.F.Files.state c.args.files.now) (g.F.Files.state c.next.new.files)
    (g.S.Sink.state c.args.out.now) (g.S.Sink.state c.items.out) c.items.page) (sym c.json_fault.ensures)
    (listed_stopped _ _ _ _ _ _ _ _ c.items.invariant c.in-Err.error _ _ c.in-Err.ensures)

pub items-preserved : goal.items-preserved
items-preserved g c =
    listed_more _ _ _ _ _ _ _ _ c.items.invariant c.in-Ok-Some.value _ _ (rw c.in-Ok-Some.field-0-is at c.in-Ok-Some.ensures) tt _ _ c.in-Ok.ensures

pub items-preserved-in-Ok : goal.items-preserved-in-Ok
items-preserved-in-Ok g c =
    listed_more _ _ _ _ _ _ _ _ c.items.invariant c.in-Ok-Some.value _ _ (rw c.in-Ok-Some.field-0-is at c.in-Ok-Some.ensures) tt _ _ c.in-Ok.ensures

pub items-preserved-in-Ok-2 : goal.items-preserved-in-Ok-2
items-preserved-in-Ok-2 g c =
    listed_more _ _ _ _ _ _ _ _ c.items.invariant c.in-Ok-Some.value _ _ (rw c.in-Ok-Some.field-0-is at c.in-Ok-Some.ensures) tt _ _ c.in-Ok.ensures

pub items-preserved-in-Ok-3 : goal.items-preserved-in-Ok-3
items-preserved-in-Ok-3 g c =
    listed_more _ _ _ _ _ _ _ _ c.items.invariant c.in-Ok-Some.value _ _ (rw c.in-Ok-Some.field-0-is at c.in-Ok-Some.ensures) tt _ _ c.in-Ok.ensures

pub items-preserved-in-Ok-4 : goal.items-preserved-in-Ok-4
items-preserved-in-Ok-4 g c =
    listed_more _ _ _ _ _ _ _ _ c.items.invariant c.in-Ok-Some.value _ _ (rw c.in-Ok-Some.field-0-is at c.in-Ok-Some.ensures) tt _ _ c.in-Ok.ensures

pub items-preserved-in-Ok-5 : goal.items-preserved-in-Ok-5
items-preserved-in-Ok-5 g c =
    listed_more _ _ _ _ _ _ _ _ c.items.invariant c.in-Ok-Some.value _ _ (rw c.in-Ok-Some.field-0-is at c.in-Ok-Some.ensures) tt _ _ c.in-Ok.ensures

pub items-preserved-in-Ok-6 : goal.items-preserved-in-Ok-6
items-preserved-in-Ok-6 g c =
    listed_more _ _ _ _ _ _ _ _ c.items.invariant c.in-Ok-Some.value _ _ (rw c.in-Ok-Some.field-0-is at c.in-Ok-Some.ensures) tt _ _ c.in-Ok.ensures
