use Rattle.std.proofs.Common.{◌≡◌, ◌+◌, ◌++◌, ◌∙◌, drop, get_or, ap, subst, sym, arith}
use Rattle.std.proofs.lemmas.List.{drop_all}
use Rattle.csv.specs.Records.{fields_of}
use Rattle.kl_tidy.specs.Naming.{header_notes, notes_from}
use Rattle.kl_tidy.proofs.Noted.{noted_all, noted_end, noted_more}
use Rattle.kl_tidy.proofs.naming.put_notes.Goals as goal

pub returns-in_default : goal.returns-in_default
returns-in_default c =
    noted_all c.args.path.now (c.names.i + 1) c.names.i (fields_of c.args.header.now) c.args.names.now c.names.notes.items _ (sym c.in_default.ensures.value) c.names.invariant

pub names-preserved : goal.names-preserved
names-preserved c =
    noted_more c.args.path.now (fields_of c.args.header.now) c.args.names.now c.names.i c.in-Some.cell.now c.slice.result.now c.names.notes.items _ _ (sym c.in-Some.ensures.value) c.names-test.true
    (c.slice.ensures ∙ c.index-names-i.is ∙ ap (λ d. get_or c.args.names.now c.names.i d) (sym c.slice.ensures)) c.in_ok-put_note.ensures c.names.invariant

pub returns : goal.returns
returns c =
    let path = c.args.path.now in
    let header = fields_of c.args.header.now in
    let names = c.args.names.now in
    let i = c.names.i in
    let before = c.names.notes.items in
    let old = c.args.notes.now.items ++ header_notes path header names in
    noted_end path (i + 1) (drop i header) before old
    (subst (λ ns. before ++ notes_from path (i + 1) (drop i header) ns ≡ old) (drop_all i names (omega arith)) c.names.invariant)
