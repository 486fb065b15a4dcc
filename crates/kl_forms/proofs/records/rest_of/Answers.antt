use Rattle.std.proofs.Common.{refl, true}
use Rattle.kl_forms.proofs.OverRows.{none_other, no_rest, a_rest}
use Rattle.kl_forms.proofs.records.rest_of.Goals as goal

pub returns-in-None : goal.returns-in-None
returns-in-None c = none_other _ _ c.args.u.now.cells.items c.args.u.now.cells.items 0 0 0 c.args.want true true c.args.fields.items _ _ c.requires.there refl c.in_ok-row_of.ensures c.in-None.is refl

pub returns-then-not-holds : goal.returns-then-not-holds
returns-then-not-holds c = no_rest _ _ _ _ _ _ _ c.args.want _ true c.args.fields.items _ _ c.requires.there refl c.in_ok-row_of.ensures refl c.in_ok-all-in-Some.ensures c.in_ok-holds-in-Some.ensures c.in-Some.is c.if-not-holds.true

pub returns-in_ok-rest-in-Some : goal.returns-in_ok-rest-in-Some
returns-in_ok-rest-in-Some c = a_rest _ _ _ _ _ _ _ c.args.want _ true c.args.fields.items _ _ c.requires.there refl c.in_ok-row_of.ensures refl c.in_ok-all-in-Some.ensures c.in_ok-holds-in-Some.ensures c.in-Some.is c.if-not-holds.false _ _ c.in_ok-rest-in-Some.ensures
