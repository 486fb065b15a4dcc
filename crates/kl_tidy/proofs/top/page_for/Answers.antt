use Rattle.std.proofs.Common.{Ok, subst}
use Rattle.kl_outside.specs.Files.{ReadsWhole}
use Rattle.kl_outside.specs.declared.files.Whole.TheVariants.{Bytes, TooLong}
use Rattle.kl_flat.specs.Flat.{most_bytes}
use Rattle.kl_tidy.specs.Causes.{MakesOf}
use Rattle.kl_tidy.proofs.Answered.{bytes_at, makes_for, too_long}
use Rattle.kl_tidy.proofs.top.page_for.Goals as goal

pub returns-in-Ok-Bytes : goal.returns-in-Ok-Bytes
returns-in-Ok-Bytes g c =
    let old = g.F.Files.state c.args.files.now in
    let new = g.F.Files.state c.read_whole.new.files in
    let command = c.args.command.now in
    let read = subst (λ w. ReadsWhole c.slice.result.now most_bytes (Ok w) old new) c.in-Ok-Bytes.field-0-is c.in-Ok-Bytes.ensures in
    let here = subst (λ p. ReadsWhole p most_bytes (Ok (Bytes c.in-Ok-Bytes.bytes)) old new) c.slice.ensures read in
    makes_for c.page_from.result command c.in-Ok-Bytes.bytes old new c.page_from.new.notes.items (bytes_at command.path c.in-Ok-Bytes.bytes most_bytes old new here)
    (subst (λ bs. MakesOf c.page_from.result command bs c.page_from.new.notes.items) c.slice-in-Ok-Bytes.ensures c.page_from.ensures)

pub returns-in-Ok-TooLong : goal.returns-in-Ok-TooLong
returns-in-Ok-TooLong g c =
    let old = g.F.Files.state c.args.files.now in
    let new = g.F.Files.state c.read_whole.new.files in
    let command = c.args.command.now in
    let read = subst (λ w. ReadsWhole c.slice.result.now most_bytes (Ok w) old new) c.in-Ok-TooLong.field-0-is c.in-Ok-TooLong.ensures in
    (too_long command.path old new (subst (λ p. ReadsWhole p most_bytes (Ok TooLong) old new) c.slice.ensures read), c.requires)
