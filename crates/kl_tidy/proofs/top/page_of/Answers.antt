use Rattle.std.proofs.Common.{◌∙◌, Some, map, string_bytes, sym, ap}
use Rattle.kl_tidy.proofs.Answering.{makes}
use Rattle.kl_tidy.proofs.top.page_of.Goals as goal

pub returns-in-Ok-Some : goal.returns-in-Ok-Some
returns-in-Ok-Some g c =
    makes c.page_for.result (map string_bytes c.args.words.now) c.in-Ok-Some.command (g.F.Files.state c.args.files.now) (g.F.Files.state c.page_for.new.files) c.page_for.new.notes.items
    (sym c.in-Ok-Some.ensures ∙ c.in-Ok-Some.field-0-is) c.page_for.ensures
