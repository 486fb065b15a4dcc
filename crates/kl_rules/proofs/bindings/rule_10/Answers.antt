use Rattle.kl_rules.proofs.Lows.{let_room}
use Rattle.kl_rules.proofs.bindings.rule_10.Goals as goal

pub subst-requires : goal.subst-requires
subst-requires c = record { room = let_room _ _ _ _ _ c.in-Let.is c.get-3.ensures c.get-4.ensures c.requires.small }
