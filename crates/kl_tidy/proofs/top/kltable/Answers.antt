use Rattle.std.proofs.Common.{map, string_bytes, subst}
use Rattle.kl_tidy.specs.Answering.{TellsSo}
use Rattle.kl_tidy.proofs.Answering.{answers, told_by_status}
use Rattle.kl_tidy.proofs.top.kltable.Goals as goal

pub returns : goal.returns
returns g c =
    let words = map string_bytes c.args.words.now in
    let files = g.F.Files.state c.args.files.now in
    let files' = g.F.Files.state c.page_of-made.new.files in
    let out = g.O.Sink.state c.args.out.now in
    let out' = g.O.Sink.state c.print-refusal.new.out in
    let err = g.E.Sink.state c.args.err.now in
    let err' = g.E.Sink.state c.tell.new.err in
    let tells = subst (λ notes. TellsSo c.print-refusal.result notes c.tell.result err err') c.deref.ensures.value c.tell.ensures in
    let all = answers words files files' out out' err err' c.page_of-made.result c.print-refusal.result c.page_of-made.new.notes.items c.tell.result c.page_of-made.ensures c.print-refusal.ensures tells in
    let told = told_by_status words files files' out out' err err' c.tell.result all in
    record { well = told.0; refused = told.1; usage = told.2; answers = all }
