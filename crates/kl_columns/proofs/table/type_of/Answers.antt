use Rattle.std.proofs.Common.{◌∙◌, ◌++◌, map, ap, append-nil, sym}
use Rattle.std.specs.Option.{option_map}
use Rattle.csv.specs.Records.{fields_of}
use Rattle.kl_ask.specs.Tables.{columns_of}
use Rattle.kl_columns.specs.Headers.{rising, text_columns}
use Rattle.kl_columns.specs.Narrowing.{are_texts}
use Rattle.kl_columns.proofs.Firsts.{first_labels}
use Rattle.kl_columns.proofs.Narrowed.{narrow_reads}
use Rattle.kl_columns.proofs.Telling.{all_texts, bad_header, bad_there, bad_without, no_notes, notes_there, same_labels}
use Rattle.kl_columns.proofs.table.type_of.Goals as goal

pub returns-in_default-clause-reads : goal.returns-in_default-clause-reads
returns-in_default-clause-reads c = bad_without c.args.bytes.now (ap (option_map fields_of) (sym c.in_default.is) ∙ c.in_ok-header.ensures)

pub returns-in_default-clause-notes : goal.returns-in_default-clause-notes
returns-in_default-clause-notes c =
    sym (append-nil c.args.notes.now.items) ∙ ap (λ n. c.args.notes.now.items ++ n) (sym (no_notes c.args.path.now c.args.bytes.now (ap (option_map fields_of) (sym c.in_default.is) ∙ c.in_ok-header.ensures)))

pub returns-then-not-is_table_type-clause-reads : goal.returns-then-not-is_table_type-clause-reads
returns-then-not-is_table_type-clause-reads c =
    bad_header c.args.bytes.now (fields_of c.in-Some.header) c.in_ok-texts.texts (ap (option_map fields_of) (sym c.in-Some.is) ∙ c.in_ok-header.ensures)
    (c.in_ok-texts.ensures ∙ ap (λ ls. text_columns (rising ls)) (c.deref.ensures.value ∙ c.in_ok-labels.ensures.labels))
    (sym c.is_table_type.ensures ∙ c.if-not-is_table_type.true)

pub returns-then-not-is_table_type-clause-notes : goal.returns-then-not-is_table_type-clause-notes
returns-then-not-is_table_type-clause-notes c =
    c.in_ok-labels.ensures.notes ∙ ap (λ n. c.args.notes.now.items ++ n) (sym (notes_there c.args.path.now c.args.bytes.now (fields_of c.in-Some.header) (ap (option_map fields_of) (sym c.in-Some.is) ∙ c.in_ok-header.ensures)))

pub returns-in-Some-bad-clause-reads : goal.returns-in-Some-bad-clause-reads
returns-in-Some-bad-clause-reads c =
    bad_there c.args.bytes.now (fields_of c.in-Some.header) c.in_ok-texts.texts c.in-Some-bad.record (ap (option_map fields_of) (sym c.in-Some.is) ∙ c.in_ok-header.ensures)
    (c.in_ok-texts.ensures ∙ ap (λ ls. text_columns (rising ls)) (c.deref.ensures.value ∙ c.in_ok-labels.ensures.labels))
    (sym c.is_table_type.ensures ∙ c.if-not-is_table_type.false) (sym c.in_ok-front.ensures.bad ∙ c.in-Some-bad.is)

pub returns-in-Some-bad-clause-notes : goal.returns-in-Some-bad-clause-notes
returns-in-Some-bad-clause-notes c =
    c.in_ok-labels.ensures.notes ∙ ap (λ n. c.args.notes.now.items ++ n) (sym (notes_there c.args.path.now c.args.bytes.now (fields_of c.in-Some.header) (ap (option_map fields_of) (sym c.in-Some.is) ∙ c.in_ok-header.ensures)))

pub returns-clause-notes : goal.returns-clause-notes
returns-clause-notes c =
    c.in_ok-labels.ensures.notes ∙ ap (λ n. c.args.notes.now.items ++ n) (sym (notes_there c.args.path.now c.args.bytes.now (fields_of c.in-Some.header) (ap (option_map fields_of) (sym c.in-Some.is) ∙ c.in_ok-header.ensures)))

pub returns-clause-reads : goal.returns-clause-reads
returns-clause-reads c =
    let texts = c.in_ok-texts.texts in
    let good = sym c.in_ok-front.ensures.bad ∙ c.in-None.is in
    let first = ap (option_map fields_of) (sym c.in-Some.is) ∙ c.in_ok-header.ensures in
    let named = c.in_ok-texts.ensures ∙ ap (λ ls. text_columns (rising ls)) (c.deref.ensures.value ∙ c.in_ok-labels.ensures.labels) in
    let labels = ap (λ cs. map (λ c. c.0) cs) named ∙ same_labels _ ∙ sym (first_labels c.args.bytes.now (fields_of c.in-Some.header) (columns_of texts) first good) in
    narrow_reads c.args.bytes.now texts c.in_ok-narrowed-in-None.field-0 c.in_ok-front.front.table (sym c.is_table_type.ensures ∙ c.if-not-is_table_type.false) (ap are_texts c.in_ok-texts.ensures ∙ all_texts _) labels
    c.in_ok-front.ensures.columns c.in_ok-front.ensures.rows good c.in_ok-narrowed-in-None.ensures.columns c.in_ok-narrowed-in-None.ensures.unordered
