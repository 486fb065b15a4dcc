use Rattle.std.proofs.Common.{IsSome, sym, ap, subst, ◌∙◌}
use Rattle.kl_json.specs.Answers.{JsonStands, PutsLines, ToEnds, item_lines}
use Rattle.kl_json.specs.Files.{unread}
use Rattle.kl_json.proofs.top.put_values.Goals as goal

pub list_values-requires-clause-is_open : goal.list_values-requires-clause-is_open
list_values-requires-clause-is_open g c = subst (λ r. IsSome ((g.F.Files.state c.args.files.now).left r.items.file)) (sym c.new-reader.ensures) c.requires.is_open

pub list_values-requires-clause-fresh : goal.list_values-requires-clause-fresh
list_values-requires-clause-fresh g c = c.new-reader.ensures ∙ ap unread (sym (ap (λ r. r.items.file) c.new-reader.ensures))

pub list_values-requires-clause-empty : goal.list_values-requires-clause-empty
list_values-requires-clause-empty g c = c.requires.empty

pub returns : goal.returns
returns g c =
    subst (λ r. PutsLines item_lines ToEnds (JsonStands c.args.choices.now) r.items.file c.list_values.result (g.F.Files.state c.args.files.now) (g.F.Files.state c.list_values.new.files)
    (g.S.Sink.state c.args.out.now) (g.S.Sink.state c.list_values.new.out) c.list_values.new.page) c.new-reader.ensures c.list_values.ensures
