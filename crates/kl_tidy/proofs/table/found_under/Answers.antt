use Rattle.std.proofs.Common.{◌∙◌, ◌++◌, IfOk, map, subst}
use Rattle.csv.specs.Records.{fields_of}
use Rattle.kl_tidy.specs.Naming.{header_notes}
use Rattle.kl_tidy.specs.Tables.{FindsBelow}
use Rattle.kl_tidy.proofs.Copied.{found_more}
use Rattle.kl_tidy.proofs.table.found_under.Goals as goal

pub returns : goal.returns
returns c =
    let header = fields_of c.args.header.now in
    let rows = map fields_of c.args.rows.now in
    found_more c.found_below.result c.args.command.now header c.in_ok-names.names.items rows c.put_notes.new.notes.items c.in_ok-names.ensures
    (c.in_ok-put_notes.ensures ∙ (λ j. c.requires j ++ header_notes (c.slice.ensures j) header (c.deref.ensures.value j)))
    (subst (λ names. IfOk c.found_below.result (FindsBelow c.args.command.now names rows)) c.deref-2.ensures.value c.found_below.ensures)
