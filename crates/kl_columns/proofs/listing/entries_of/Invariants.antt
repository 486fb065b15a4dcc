use Rattle.std.proofs.Common.{◌≡◌, ◌≤◌, take}
use Rattle.kl_columns.specs.Causes.{AreNotes}
use Rattle.kl_columns.specs.Listing.{ListAll}
use Rattle.kl_columns.proofs.listing.entries_of.Given as goal

abbrev pub invariant-paths : goal.invariant-paths
invariant-paths g l = record {
  told : (g.F.Files.state l.files).told ≡ (g.F.Files.state l.fn.files).told;
  later : (g.F.Files.state l.fn.files).faults ≤ (g.F.Files.state l.files).faults;
  lists : ListAll l.sql (g.F.Files.state l.fn.files).told (take l.path-index l.paths) l.entries.items;
  noted : AreNotes (g.F.Files.state l.fn.files).told (take l.path-index l.paths) l.notes.items;
}
