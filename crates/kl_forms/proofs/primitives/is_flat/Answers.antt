use Rattle.kl_rows.specs.Places.{a_type, a_kind}
use Rattle.kl_forms.proofs.Shapes.{and_then, and_not, stable_coll, flat}
use Rattle.kl_forms.proofs.primitives.is_flat.Goals as goal

pub returns-then-not-gives : goal.returns-then-not-gives
returns-then-not-gives c = flat _ _ _ _ _ _ _ _ _ c.requires.fine c.requires.arg_there c.requires.there c.in_ok-kind.ensures c.in_ok-item.ensures (and_not _ _ _ _ _ c.if-not-gives.true c.in_ok-gives.ensures)

pub returns : goal.returns
returns c = flat _ _ _ _ _ _ _ _ _ c.requires.fine c.requires.arg_there c.requires.there c.in_ok-kind.ensures c.in_ok-item.ensures (and_then _ _ _ _ _ _ _ c.if-not-gives.false (stable_coll _ c.args.arg c.in_ok-kind.kind c.args.want (c.in_ok-item.ensures.keeps.sorts _ a_type (c.in_ok-kind.ensures.keeps.sorts _ a_type c.requires.arg_there)) (c.in_ok-item.ensures.keeps.sorts _ a_kind c.in_ok-kind.ensures.sort) (c.in_ok-item.ensures.keeps.sorts _ a_type (c.in_ok-kind.ensures.keeps.sorts _ a_type c.requires.there))) c.in_ok-gives.ensures c.in_ok-takes.ensures)
