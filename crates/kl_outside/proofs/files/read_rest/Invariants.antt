use Rattle.std.proofs.Common.{◌≤◌, ◌-◌, length}
use Rattle.kl_outside.proofs.FileLemmas.{ReadPieces}
use Rattle.kl_outside.proofs.files.read_rest.Given as goal

abbrev pub invariant-pieces : goal.invariant-pieces
invariant-pieces g l =
    let state = g.F.Files.state in
    record {
      so_far : ReadPieces l.file l.bytes.items (state l.fn.files) (state l.files);
      size : length l.bytes.items ≤ l.most;
    }

abbrev pub decreases-pieces : goal.decreases-pieces
decreases-pieces g l = l.most - length l.bytes.items
