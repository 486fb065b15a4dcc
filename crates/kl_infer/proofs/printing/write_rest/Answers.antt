use Rattle.std.proofs.Common.{[], ◌∙◌, sym, subst}
use Rattle.kl_infer.specs.Numbers.{Writes}
use Rattle.kl_infer.proofs.PageLemmas.{on_ok}
use Rattle.kl_infer.proofs.Writing.{mark_open, mark_closed}
use Rattle.kl_infer.proofs.printing.write_rest.Goals as goal

pub returns : goal.returns
returns c = on_ok _ _ c.name.result
    (mark_open c.args.parts.now c.args.end c.index-parts-end.result c.requires.can c.index-parts-end.is c.args.count _ _ _ (sym c.is_open.ensures ∙ c.if-not-is_open.false)
    (subst (λ xs. Writes c.args.page.now c.put.new.self [] (λ all. xs)) c.separator.ensures c.in_ok-put.ensures)) c.name.ensures

pub returns-then-not-is_open : goal.returns-then-not-is_open
returns-then-not-is_open c = mark_closed c.args.parts.now c.args.end c.index-parts-end.result c.requires.can c.index-parts-end.is c.args.count _ (sym c.is_open.ensures ∙ c.if-not-is_open.true) c.requires.is_end
