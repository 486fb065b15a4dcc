use Rattle.std.proofs.Common.{◌∙◌, ap, false, refl, sym, true}
use Rattle.kl_columns.specs.Words.{is_table}
use Rattle.kl_columns.proofs.ByKind.{has_type_so, no_notes, refused_so}
use Rattle.kl_columns.proofs.file.type_of_file.Goals as goal

pub type_of_table-requires : goal.type_of_table-requires
type_of_table-requires g c = ap is_table (sym c.slice.ensures) ∙ sym c.is_table.ensures ∙ c.if-is_table.true

pub returns-then-is_table-clause-rows : goal.returns-then-is_table-clause-rows
returns-then-is_table-clause-rows g c =
    has_type_so c.type_of_table.result true c.args.path.now (ap is_table (sym c.slice.ensures) ∙ sym c.is_table.ensures ∙ c.if-is_table.true) (g.F.Files.state c.args.files.now).told c.type_of_table.ensures.rows

pub returns-then-is_table-clause-why : goal.returns-then-is_table-clause-why
returns-then-is_table-clause-why g c =
    refused_so c.type_of_table.result true c.args.path.now (ap is_table (sym c.slice.ensures) ∙ sym c.is_table.ensures ∙ c.if-is_table.true)
    (g.F.Files.state c.args.files.now) (g.F.Files.state c.type_of_table.new.files) c.type_of_table.ensures.why

pub returns-else-is_table-clause-rows : goal.returns-else-is_table-clause-rows
returns-else-is_table-clause-rows g c =
    has_type_so c.type_of_values.result false c.args.path.now (ap is_table (sym c.slice.ensures) ∙ sym c.is_table.ensures ∙ c.if-is_table.false) (g.F.Files.state c.args.files.now).told c.type_of_values.ensures.rows

pub returns-else-is_table-clause-why : goal.returns-else-is_table-clause-why
returns-else-is_table-clause-why g c =
    refused_so c.type_of_values.result false c.args.path.now (ap is_table (sym c.slice.ensures) ∙ sym c.is_table.ensures ∙ c.if-is_table.false)
    (g.F.Files.state c.args.files.now) (g.F.Files.state c.type_of_values.new.files) c.type_of_values.ensures.why

pub returns-else-is_table-clause-notes : goal.returns-else-is_table-clause-notes
returns-else-is_table-clause-notes g c =
    no_notes c.type_of_values.result c.args.path.now (g.F.Files.state c.args.files.now).told c.args.notes.now.items c.args.notes.now.items
    (ap is_table (sym c.slice.ensures) ∙ sym c.is_table.ensures ∙ c.if-is_table.false) refl
