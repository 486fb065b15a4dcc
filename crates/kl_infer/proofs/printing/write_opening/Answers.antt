use Rattle.std.proofs.Common.{[], ◌∙◌, sym, ap, subst}
use Rattle.kl_infer.specs.Numbers.{Writes}
use Rattle.kl_infer.specs.Rows.{kind_of}
use Rattle.kl_infer.proofs.PageLemmas.{on_ok}
use Rattle.kl_infer.proofs.Writing.{opening_open, opening_kind, opening_none}
use Rattle.kl_infer.proofs.printing.write_opening.Goals as goal
use Rattle.kl_base.proofs.Places.{same_read}

pub returns-then-is_open : goal.returns-then-is_open
returns-then-is_open c = on_ok _ _ c.put.result
    (opening_open c.args.parts.now c.args.kind c.index-parts-kind.result c.requires c.index-parts-kind.is _ _ _ (sym c.is_open.ensures ∙ c.if-is_open.true) c.in_ok-name.ensures) c.put.ensures

pub returns-in-Some : goal.returns-in-Some
returns-in-Some c = on_ok _ _ c.put-in-Some.result
    (λ w. opening_kind c.args.parts.now c.args.kind c.index-parts-kind-2.result c.requires c.index-parts-kind-2.is c.in-Some.kind _ _ (sym c.kind_of.ensures ∙ c.in-Some.is) (subst (λ xs. Writes c.args.page.now c.put-in-Some.new.self [] (λ all. xs)) c.opening.ensures w))
    c.put-in-Some.ensures

pub returns-in-None : goal.returns-in-None
returns-in-None c =
    let same = same_read c.args.parts.now c.args.kind c.index-parts-kind-2.result c.index-parts-kind.result c.requires.inside c.index-parts-kind-2.is c.index-parts-kind.is in
    opening_none c.args.parts.now c.args.kind c.index-parts-kind.result c.requires c.index-parts-kind.is _ (sym c.is_open.ensures ∙ c.if-is_open.false) (sym (ap kind_of same) ∙ (sym c.kind_of.ensures ∙ c.in-None.is))
