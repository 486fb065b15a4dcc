use Rattle.std.proofs.Common.{[]}
use Rattle.kl_plan.specs.Nodes as node
use Rattle.kl_scans.specs.Held.{Owned, one_at, cursor_at}
use Rattle.kl_cursor.specs.Gathering.{listed}
use Rattle.kl_cursor.specs.Left.{fresh, pulling}
use Rattle.kl_cursor.specs.Measure.{bound_in}
use Rattle.kl_cursor.specs.Draining.{Adding}
use Rattle.kl_cursor.proofs.parts.pull_items.Given as goal

abbrev pub invariant-pulls : goal.invariant-pulls
invariant-pulls g l =
    Adding [] (fresh (node.Scan l.scan)) (g.C.Ran.world l.fn.run) (listed l.fn.items.items) (listed l.items.items) (pulling l.scan l.cursor [] (g.C.Ran.world l.fn.run).settings.fetch) (g.C.Ran.world l.run)
    × Owned (one_at l.scan.driver l.cursor) (g.C.Ran.world l.run)

abbrev pub decreases-pulls : goal.decreases-pulls
decreases-pulls g l = bound_in (cursor_at (g.C.Ran.world l.run) l.scan.driver l.cursor)
