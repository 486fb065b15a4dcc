use Rattle.std.proofs.Common.{◌∙◌}
use Rattle.kl_infer.proofs.KindLemmas.{kind_gives, others_at}
use Rattle.kl_infer.proofs.typed.Typed.result_kind.Goals as goal

pub returns-clause-instances : goal.returns-clause-instances
returns-clause-instances c = kind_gives c.args.self.now.result c.known_kind.result c.known_kind.ensures

pub returns-clause-others : goal.returns-clause-others
returns-clause-others c k g t i unlike = others_at c.args.self.now.result g k t i (λ e. unlike (c.known_kind.ensures ∙ e))
