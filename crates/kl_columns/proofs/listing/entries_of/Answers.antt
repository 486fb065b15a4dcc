use Rattle.std.proofs.Common.{◌∙◌, ◌+◌, Ok, arith, subst, sym, take}
use Rattle.kl_columns.specs.Causes.{AddsNotes}
use Rattle.kl_columns.specs.Listing.{HasType, IsEntryFor, ListAll}
use Rattle.kl_columns.proofs.Causing.{noted_more, stops_there}
use Rattle.kl_columns.proofs.Entries.{lists_more}
use Rattle.kl_columns.proofs.listing.entries_of.Goals as goal

pub paths-preserved : goal.paths-preserved
paths-preserved g c =
    let told = (g.F.Files.state c.args.files.now).told in
    let sql = c.args.sql in
    let paths = c.args.paths.now in
    let path = c.path-item.result in
    let entries = c.paths.entries.items in
    let one = subst (λ es. IsEntryFor es sql path c.in-Ok.ty c.in_ok-entry.entry) c.deref.ensures.value c.in_ok-entry.ensures in
    let has = subst (λ t. HasType sql t path c.in-Ok.ty) c.paths.invariant.told (c.in-Ok.ensures.rows sql) in
    record {
      told = c.in-Ok.ensures.told ∙ c.paths.invariant.told;
      lists = subst (ListAll sql told (take (c.paths.path-index + 1) paths)) (sym c.in_ok-add.ensures)
          (lists_more sql told paths c.paths.path-index path entries c.in-Ok.ty c.in_ok-entry.entry c.paths-test.true c.path-item.is c.paths.invariant.lists one has);
      later = omega (arith, c.paths.invariant.later, c.in-Ok.ensures.later);
      noted = noted_more told paths c.paths.path-index path c.in-Ok.ty c.paths.notes.items c.type_of_file.new.notes.items c.paths-test.true c.path-item.is c.paths.invariant.noted
          (subst (λ t. AddsNotes (Ok c.in-Ok.ty) t path c.paths.notes.items c.type_of_file.new.notes.items) c.paths.invariant.told c.in-Ok.ensures.notes);
    }

pub returns-in-Err : goal.returns-in-Err
returns-in-Err g c = record {
  lists = tt;
  notes = tt;
  why = stops_there c.in-Err.refusal c.args.sql c.args.paths.now c.paths.path-index c.path-item.result c.paths.entries.items
      (g.F.Files.state c.args.files.now) (g.F.Files.state c.paths.files) (g.F.Files.state c.type_of_file.new.files) c.paths.notes.items c.type_of_file.new.notes.items
      c.paths-test.true c.path-item.is c.paths.invariant.told c.paths.invariant.later c.paths.invariant.lists c.paths.invariant.noted c.in-Err.ensures.why c.in-Err.ensures.notes;
}
