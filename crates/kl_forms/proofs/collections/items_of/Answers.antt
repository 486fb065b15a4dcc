use Rattle.std.proofs.Common.{◌≡◌}
use Rattle.kl_type.specs.Ground.{coll}
use Rattle.kl_forms.specs.Forms.{ItemsOf}
use Rattle.kl_forms.proofs.Opening.{stable_type, opens, refuses}
use Rattle.kl_forms.proofs.collections.items_of.Goals as goal

pub returns-then-not-holds : goal.returns-then-not-holds
returns-then-not-holds c = refuses _ _ _ _ (ItemsOf c.args.kind c.args.want) c.requires.fine c.in_ok-item.ensures (λ t. stable_type _ c.args.want (λ x. x ≡ coll c.args.kind t) c.requires.there) _ c.if-not-holds.true c.in_ok-holds.ensures

pub returns : goal.returns
returns c = opens _ _ _ _ (ItemsOf c.args.kind c.args.want) c.requires.fine c.in_ok-item.ensures (λ t. stable_type _ c.args.want (λ x. x ≡ coll c.args.kind t) c.requires.there) _ c.if-not-holds.false c.in_ok-holds.ensures
