use Rattle.std.proofs.Common.{◌∙◌, ap, map, string_bytes, sym}
use Rattle.kl_columns.specs.Words.{are_files}
use Rattle.kl_columns.proofs.Answering.{makes_at}
use Rattle.kl_columns.proofs.top.page_of.Goals as goal

pub returns : goal.returns
returns g c =
    makes_at c.catalogue_of.result (map string_bytes c.args.words.now) c.wants_sql.result c.deref-2.result.now (g.F.Files.state c.args.files.now) (g.F.Files.state c.catalogue_of.new.files) c.catalogue_of.new.notes.items
    c.wants_sql.ensures (c.deref-2.ensures.value ∙ c.in-Ok.ensures)
    (ap are_files (sym (c.deref.ensures.value ∙ c.in-Ok.ensures)) ∙ sym c.are_files.ensures ∙ c.if-not-are_files.false)
    c.catalogue_of.ensures.lists c.catalogue_of.ensures.notes c.catalogue_of.ensures.why
