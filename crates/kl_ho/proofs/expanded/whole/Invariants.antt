use Rattle.std.proofs.Common.{◌≡◌, drop}
use Rattle.kl_syntax.specs.View.{view, decls_of}
use Rattle.kl_ho.specs.Growing.{highers_of}
use Rattle.kl_ho.specs.KeptPrograms.{listed}
use Rattle.kl_ho.proofs.Reaching.{Reached}
use Rattle.kl_ho.proofs.expanded.whole.Given as goal

-- the first declarations are expanded
abbrev pub invariant-defs : goal.invariant-defs
invariant-defs l =
    (l.table.base.now ≡ l.base)
    × Reached l.base (listed l.defs l.functions) (decls_of l.defs) (view l.last) (highers_of l.table) (decls_of (drop l.i l.defs)) l.i l.made.items l.from.items
