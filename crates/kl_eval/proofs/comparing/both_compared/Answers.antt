use Rattle.kl_ask.proofs.Worlds.{moved_none}
use Rattle.kl_eval.proofs.Forms.{comparison_comes, sense_former, sense_latter}
use Rattle.kl_eval.proofs.comparing.both_compared.Goals as goal

pub lent-requires : goal.lent-requires
lent-requires c = let s = sense_former _ _ _ _ _ c.if-terms-eq2.true c.index-terms-0.is c.requires.1 in (_, (s.0, s.1, s.2, s.3))

pub lent-requires-in-Some : goal.lent-requires-in-Some
lent-requires-in-Some c = let s = sense_latter _ _ _ _ _ _ c.if-terms-eq2.true c.index-terms-0.is c.index-terms-1.is _ (moved_none _) c.requires.1 in (_, (s.0, s.1, s.2, s.3))

pub returns-in-Some-lent : goal.returns-in-Some-lent
returns-in-Some-lent c = comparison_comes _ _ _ _ _ c.requires.0 c.if-terms-eq2.true c.index-terms-0.is c.index-terms-1.is _ _ _ (λ S T. c.in-Some.ensures.value S T) (λ S T. c.in-Some-lent.ensures.value S T) c.holds.ensures
