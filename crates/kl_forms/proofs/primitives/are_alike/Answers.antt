use Rattle.std.proofs.Common.{◌≡◌}
use Rattle.kl_rows.specs.Solutions.{scalar_type}
use Rattle.kl_forms.proofs.Opening.{stable_type}
use Rattle.kl_forms.proofs.Shapes.{and_then, stable_and}
use Rattle.kl_forms.proofs.primitives.are_alike.Goals as goal

pub returns : goal.returns
returns c =
    and_then _ _ _ _ _ _ _ c.if-not-takes.false
    (stable_and _ _ _ (stable_type _ c.args.second (λ t. t ≡ scalar_type c.args.from) c.requires.second_there) (stable_type _ c.args.want (λ t. t ≡ scalar_type c.args.to) c.requires.there)) c.in_ok-takes.ensures c.in_ok-gives.ensures
