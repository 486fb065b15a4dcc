use Rattle.std.proofs.Common.{map, string_bytes, subst}
use Rattle.kl_columns.specs.Answering.{Ends}
use Rattle.kl_columns.proofs.Answering.{answers, prints_nothing, prints_well, tells_usage}
use Rattle.kl_columns.proofs.top.klcat.Goals as goal

pub returns : goal.returns
returns g c =
    let words = map string_bytes c.args.words.now in
    let files = g.F.Files.state c.args.files.now in
    let files' = g.F.Files.state c.page_of-page.new.files in
    let out = g.O.Sink.state c.args.out.now in
    let out' = g.O.Sink.state c.printed-ended.new.out in
    let err = g.E.Sink.state c.args.err.now in
    let err' = g.E.Sink.state c.end.new.err in
    let ends = subst (λ notes. Ends c.printed-ended.result notes c.end.result err err') c.deref.ensures.value c.end.ensures in
    let all = answers words files files' out out' err err' c.page_of-page.result c.printed-ended.result c.page_of-page.new.notes.items c.end.result c.page_of-page.ensures c.printed-ended.ensures ends in
    record {
      well = prints_well words files files' out out' err err' c.end.result all;
      refused = prints_nothing words files files' out out' err err' c.end.result all;
      usage = tells_usage words files files' out out' err err' c.end.result all;
      answers = all;
    }
