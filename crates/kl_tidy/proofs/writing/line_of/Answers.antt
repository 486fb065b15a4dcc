use Rattle.std.proofs.Common.{◌≡◌, ◌≢◌, ◌∙◌, Result, Ok, Err, OnOk, false, sym}
use Rattle.std.specs.Result.{is_err}
use Rattle.csv.specs.declared.writer.QuoteStyle.TheVariants as style
use Rattle.kl_tidy.proofs.writing.line_of.Goals as goal

no_err : {T E P : Type 0} (r : Result T E) → is_err r ≡ false → OnOk r P → P
no_err (Ok x) e p = p
no_err (Err x) e p = cc

pub returns-in-Ok : goal.returns-in-Ok
returns-in-Ok c =
    let from = c.from_writer-writer.ensures in
    let plain : c.from_writer-writer.result.cfg.style ≢ style.NonNumeric = rw (from.cfg, c.new.ensures) (λ e. cc e) in
    let h = no_err c.write_byte_record.result (sym c.is_err.ensures.value ∙ c.if-is_err.false) c.write_byte_record.ensures.bytes from.fields from.wrote plain in
    let text = rw (from.cfg, c.new.ensures, from.wtr, c.new-2.ensures.items, from.empty) at h in
    c.in-Ok.ensures.ok ∙ text
