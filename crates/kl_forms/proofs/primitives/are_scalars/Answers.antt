use Rattle.std.proofs.Common.{◌≡◌}
use Rattle.kl_rows.specs.Solutions.{scalar_type}
use Rattle.kl_forms.proofs.Opening.{stable_type}
use Rattle.kl_forms.proofs.Shapes.{and_then}
use Rattle.kl_forms.proofs.primitives.are_scalars.Goals as goal

pub returns : goal.returns
returns c = and_then _ _ _ _ _ _ _ c.if-not-takes.false (stable_type _ c.args.want (λ t. t ≡ scalar_type c.args.to) c.requires.there) c.in_ok-takes.ensures c.in_ok-gives.ensures
