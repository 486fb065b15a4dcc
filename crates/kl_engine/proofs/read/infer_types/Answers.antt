use Rattle.kl_scope.specs.declared.counting.SizeBreach.TheVariants.{Nodes, Depth}
use Rattle.kl_syntax.specs.View.{view, decls_of}
use Rattle.kl_engine.proofs.DoneLemmas.{sized_types, past_types}
use Rattle.kl_engine.proofs.read.infer_types.Goals as goal

pub returns-in-Ok-None : goal.returns-in-Ok-None
returns-in-Ok-None c = sized_types _ _ _ c.infer_any_size.result (rw c.in-Ok-None.field-0-is at c.in-Ok-None.ensures) c.infer_any_size.ensures

pub returns-in-Ok-Some-Nodes : goal.returns-in-Ok-Some-Nodes
returns-in-Ok-Some-Nodes c =
    past_types _ (decls_of c.args.scoped.now.program.defs) (view c.args.scoped.now.program.last) (Nodes c.in-Ok-Some-Nodes.field-0-0-0)
    (rw c.in-Ok-Some-Nodes.field-0-0-is at (rw c.in-Ok-Some-Nodes.field-0-is at c.in-Ok-Some-Nodes.ensures))

pub returns-in-Ok-Some-Depth : goal.returns-in-Ok-Some-Depth
returns-in-Ok-Some-Depth c =
    past_types _ (decls_of c.args.scoped.now.program.defs) (view c.args.scoped.now.program.last) (Depth c.in-Ok-Some-Depth.field-0-0-0)
    (rw c.in-Ok-Some-Depth.field-0-0-is at (rw c.in-Ok-Some-Depth.field-0-is at c.in-Ok-Some-Depth.ensures))
