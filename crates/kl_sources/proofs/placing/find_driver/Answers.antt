use Rattle.std.proofs.Common.{sym, ◌∙◌, arith}
use Rattle.kl_sources.proofs.NameLemmas.{same_is, differ_of}
use Rattle.kl_sources.proofs.PlacingLemmas.{finds, finds_none, none_more}
use Rattle.kl_sources.proofs.placing.find_driver.Goals as goal

pub returns-then-eq : goal.returns-then-eq
returns-then-eq g c =
    finds _ _ c.args.name.now c.drivers.i c.index.result.now c.drivers.invariant (omega (arith, c.len-i-end.ensures, c.drivers-test.true, c.args.drivers.now.ok.0)) c.index.ensures
    (sym c.name_boxed.ensures ∙ same_is c.name_boxed.result.now c.slice.result.now (sym c.eq.ensures ∙ c.if-eq.true) ∙ c.slice.ensures)

pub drivers-preserved : goal.drivers-preserved
drivers-preserved g c =
    none_more _ _ c.args.name.now c.drivers.i c.index.result.now c.drivers.invariant (omega (arith, c.len-i-end.ensures, c.drivers-test.true, c.args.drivers.now.ok.0)) c.index.ensures
    (λ h. differ_of c.name_boxed.result.now c.slice.result.now (sym c.eq.ensures ∙ c.if-eq.false) (c.name_boxed.ensures ∙ h ∙ sym c.slice.ensures))

pub returns : goal.returns
returns g c = finds_none _ _ c.args.name.now c.drivers.i c.drivers.invariant (omega (arith, c.len-i-end.ensures, c.drivers-test.false, c.args.drivers.now.ok.0))
