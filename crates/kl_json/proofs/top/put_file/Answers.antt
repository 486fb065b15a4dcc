use Rattle.std.proofs.Common.{Ok, Err, IsSome, sym, ap, subst, arith}
use Rattle.kl_json.specs.Answers.{FromEnds, ItemsStand, PutsLines, json_lines}
use Rattle.kl_json.proofs.ItemPutting.{head_read, head_stopped, now_limit, now_open, now_unread}
use Rattle.kl_json.proofs.top.put_file.Goals as goal

pub new-reader-requires : goal.new-reader-requires
new-reader-requires g c = omega arith

pub head-requires-clause-is_open : goal.head-requires-clause-is_open
head-requires-clause-is_open g c = subst (λ r. IsSome ((g.F.Files.state c.args.files.now).left r.items.file)) (sym c.new-reader.ensures) c.requires.is_open

pub head-requires-clause-front : goal.head-requires-clause-front
head-requires-clause-front g c = ap (λ r. r.front) c.new-reader.ensures

pub put_items-requires-clause-is_open : goal.put_items-requires-clause-is_open
put_items-requires-clause-is_open g c = now_open c.args.file _ _ _ _ c.new-reader.ensures (Ok c.in-Ok.stated) c.in-Ok.ensures

pub put_items-requires-clause-unread : goal.put_items-requires-clause-unread
put_items-requires-clause-unread g c = now_unread c.args.file _ _ _ _ c.new-reader.ensures c.in-Ok.stated c.in-Ok.ensures

pub put_items-requires-clause-limit : goal.put_items-requires-clause-limit
put_items-requires-clause-limit g c = now_limit c.args.file _ _ _ _ c.new-reader.ensures (Ok c.in-Ok.stated) c.in-Ok.ensures

pub put_items-requires-clause-empty : goal.put_items-requires-clause-empty
put_items-requires-clause-empty g c = c.requires.empty

pub returns-in-Ok : goal.returns-in-Ok
returns-in-Ok g c = head_read c.args.file _ _ _ _ c.new-reader.ensures c.in-Ok.stated c.in-Ok.ensures c.put_items.result _ _ _ _ c.put_items.ensures

pub returns : goal.returns
returns g c =
    subst (λ f. PutsLines json_lines FromEnds ItemsStand c.args.file (Ok (Err f)) (g.F.Files.state c.args.files.now) (g.F.Files.state c.head.new.files)
    (g.S.Sink.state c.args.out.now) (g.S.Sink.state c.args.out.now) c.args.page.now) (sym c.file_fault.ensures)
    (head_stopped c.args.file _ _ _ _ c.new-reader.ensures _ _ c.requires.empty c.in-Err.error c.in-Err.ensures)
