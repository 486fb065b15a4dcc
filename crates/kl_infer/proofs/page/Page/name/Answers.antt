use Rattle.std.proofs.Common.{◌∙◌}
use Rattle.kl_infer.proofs.PageLemmas.{named, on_ok}
use Rattle.kl_infer.proofs.page.Page.name.Goals as goal

pub returns : goal.returns
returns c = on_ok _ _ c.put-2.result
    (named c.args.self.now c.number.new.self c.put.new.self c.put-2.new.self c.args.place c.in_ok-number.number c.args.mark.now c.as_bytes.result.now
    c.in_ok-number.ensures.seen c.number.ensures.out c.number.ensures.full c.in_ok-number.ensures.number c.in_ok-put.ensures (c.as_bytes.ensures.value ∙ c.format.ensures.text))
    c.put-2.ensures
