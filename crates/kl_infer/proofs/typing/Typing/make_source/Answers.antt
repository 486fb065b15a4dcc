use Rattle.std.proofs.Common.{sym, subst}
use Rattle.kl_type.specs.Ground.{IsProper}
use Rattle.kl_rows.specs.Places.{a_type}
use Rattle.kl_infer.proofs.Leaving.{made_so}
use Rattle.kl_infer.proofs.typing.Typing.make_source.Goals as goal

pub make-requires-clause-can : goal.make-requires-clause-can
make-requires-clause-can c = subst IsProper (sym c.in_ok-t.ensures) c.requires.proper

pub merge-requires-clause-sorts : goal.merge-requires-clause-sorts
merge-requires-clause-sorts c = let k = c.in_ok-number.ensures.keeps in record { sort = a_type; first = c.in_ok-number.ensures.sort; second = k.sorts c.args.want a_type c.requires.there }

pub returns : goal.returns
returns c = made_so c.met.result _ _ _ _ _ _ _ _ c.met.ensures c.in_ok-t.ensures c.requires.there c.in_ok-number.ensures c.in_ok-merge.ensures
