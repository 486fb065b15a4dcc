use Rattle.std.proofs.Common.{subst, sym}
use Rattle.csv.specs.Records.{fields_of}
use Rattle.kl_tidy.specs.Naming.{IsNameOf}
use Rattle.kl_tidy.proofs.Named.{named_at}
use Rattle.kl_tidy.proofs.naming.names_of.Goals as goal

pub cells-preserved : goal.cells-preserved
cells-preserved c =
    let one = subst (λ ns. IsNameOf ns c.in-Some.cell.now c.in_ok-name.name) c.deref.ensures.value c.in_ok-name.ensures in
    named_at (fields_of c.args.header.now) c.cells.i c.in-Some.cell.now c.in_ok-name.name c.cells.names.items _ (sym c.in-Some.ensures.value) c.in_ok-add.ensures c.cells.invariant one
