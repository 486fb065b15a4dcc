use Rattle.std.proofs.Common.{◌∙◌, ◌+◌, ◌++◌, ◌∷◌, [], map, sym, ap}
use Rattle.std.specs.Result.{result_map_both}
use Rattle.csv.specs.Records.{fields_of}
use Rattle.kl_tidy.specs.Rows.{records_printed}
use Rattle.kl_tidy.specs.Tables.{table_text}
use Rattle.kl_tidy.proofs.Printing.{record_more, text_more}
use Rattle.kl_tidy.proofs.table.records_found.Goals as goal

pub rows-preserved : goal.rows-preserved
rows-preserved c =
    let inv = c.rows.invariant in
    let made = fields_of c.in-Ok.record in (
      inv.0 ++ made ∷ [],
      c.in_ok-put-in-Ok.ensures ∙ (λ j. inv.1 j ++ c.deref.ensures.value j) ∙ ap (λ line. table_text (c.args.names.now ∷ inv.0) ++ line) c.in_ok-line_of-in-Ok.ensures ∙ text_more c.args.names.now made inv.0,
      record_more c.args.columns.now (c.rows.i + 1) c.args.rows.now c.rows.i c.index-rows-i.result made inv.0 (records_printed c.args.columns.now 1 (map fields_of c.args.rows.now))
          c.rows-test.true c.index-rows-i.is (sym (ap (result_map_both fields_of (λ w. w)) c.in-Ok.is) ∙ c.in_ok-record.ensures) inv.2,
    )
