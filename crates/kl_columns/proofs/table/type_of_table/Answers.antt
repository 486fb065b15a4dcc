use Rattle.std.proofs.Common.{◌≡◌, ◌++◌, ◌∙◌, Ok, Some, subst}
use Rattle.kl_outside.specs.Files.{ReadsWhole}
use Rattle.kl_outside.specs.declared.files.Whole.TheVariants.{Bytes, TooLong}
use Rattle.kl_flat.specs.Flat.{most_bytes}
use Rattle.kl_flat.specs.Table.{table_records}
use Rattle.kl_columns.specs.Headers.{first_bad, table_notes}
use Rattle.kl_columns.specs.Listing.{Reads}
use Rattle.kl_columns.specs.declared.table.Found.TheVariants as found
use Rattle.kl_columns.proofs.Held.{has_type}
use Rattle.kl_columns.proofs.Telling.{bytes_there, notes_told, too_long}
use Rattle.kl_columns.proofs.table.type_of_table.Goals as goal

pub returns-in-Type-clause-rows : goal.returns-in-Type-clause-rows
returns-in-Type-clause-rows g c =
    let old = g.F.Files.state c.args.files.now in
    let new = g.F.Files.state c.read_whole.new.files in
    let read = subst (λ w. ReadsWhole c.slice.result.now most_bytes (Ok w) old new) c.in-Ok-Bytes.field-0-is c.in-Ok-Bytes.ensures in
    let here = subst (λ p. ReadsWhole p most_bytes (Ok (Bytes c.in-Ok-Bytes.bytes)) old new) c.slice.ensures read in
    let fits = subst (Reads c.slice-in-Ok-Bytes-2.result.now) c.in-Type.is c.in_ok-ty-in-Ok-Bytes.ensures.reads in
    let good = subst (λ b. Reads b (found.Type c.in-Type.ty)) c.slice-in-Ok-Bytes-2.ensures fits in
    has_type c.args.path.now c.in-Ok-Bytes.bytes c.in-Type.ty old new here good

pub returns-in-Type-clause-notes : goal.returns-in-Type-clause-notes
returns-in-Type-clause-notes g c =
    let old = g.F.Files.state c.args.files.now in
    let new = g.F.Files.state c.read_whole.new.files in
    let read = subst (λ w. ReadsWhole c.slice.result.now most_bytes (Ok w) old new) c.in-Ok-Bytes.field-0-is c.in-Ok-Bytes.ensures in
    let here = subst (λ p. ReadsWhole p most_bytes (Ok (Bytes c.in-Ok-Bytes.bytes)) old new) c.slice.ensures read in
    notes_told c.args.path.now c.in-Ok-Bytes.bytes c.args.notes.now.items c.type_of.new.notes.items old new here
    (c.in_ok-ty-in-Ok-Bytes.ensures.notes ∙ (λ j. c.args.notes.now.items ++ table_notes (c.slice-in-Ok-Bytes.ensures j) (c.slice-in-Ok-Bytes-2.ensures j)))
    c.requires

pub returns-clause-notes : goal.returns-clause-notes
returns-clause-notes g c =
    let old = g.F.Files.state c.args.files.now in
    let new = g.F.Files.state c.read_whole.new.files in
    let read = subst (λ w. ReadsWhole c.slice.result.now most_bytes (Ok w) old new) c.in-Ok-Bytes.field-0-is c.in-Ok-Bytes.ensures in
    let here = subst (λ p. ReadsWhole p most_bytes (Ok (Bytes c.in-Ok-Bytes.bytes)) old new) c.slice.ensures read in
    notes_told c.args.path.now c.in-Ok-Bytes.bytes c.args.notes.now.items c.type_of.new.notes.items old new here
    (c.in_ok-ty-in-Ok-Bytes.ensures.notes ∙ (λ j. c.args.notes.now.items ++ table_notes (c.slice-in-Ok-Bytes.ensures j) (c.slice-in-Ok-Bytes-2.ensures j)))
    c.requires

pub returns-clause-why : goal.returns-clause-why
returns-clause-why g c =
    let old = g.F.Files.state c.args.files.now in
    let new = g.F.Files.state c.read_whole.new.files in
    let read = subst (λ w. ReadsWhole c.slice.result.now most_bytes (Ok w) old new) c.in-Ok-Bytes.field-0-is c.in-Ok-Bytes.ensures in
    let here = subst (λ p. ReadsWhole p most_bytes (Ok (Bytes c.in-Ok-Bytes.bytes)) old new) c.slice.ensures read in
    let bad = subst (Reads c.slice-in-Ok-Bytes-2.result.now) c.in-Bad.is c.in_ok-ty-in-Ok-Bytes.ensures.reads in (
      c.in_ok-dup-in-Bad.ensures,
      bytes_there c.args.path.now c.in-Ok-Bytes.bytes (λ b. first_bad (table_records b) ≡ Some c.in-Bad.record) old new here
          (subst (λ b. Reads b (found.Bad c.in-Bad.record)) c.slice-in-Ok-Bytes-2.ensures bad),
    )

pub returns-in-Ok-TooLong-clause-why : goal.returns-in-Ok-TooLong-clause-why
returns-in-Ok-TooLong-clause-why g c =
    let old = g.F.Files.state c.args.files.now in
    let new = g.F.Files.state c.read_whole.new.files in
    let read = subst (λ w. ReadsWhole c.slice.result.now most_bytes (Ok w) old new) c.in-Ok-TooLong.field-0-is c.in-Ok-TooLong.ensures in
    too_long c.args.path.now old new (subst (λ p. ReadsWhole p most_bytes (Ok TooLong) old new) c.slice.ensures read)
