use Rattle.std.proofs.Common.{sym, ap, ap₂, ◌∙◌}
use Rattle.std.proofs.lemmas.Bool.{false≢true}
use Rattle.kl_ask.specs.declared.ask.Drift.TheVariants as drift
use Rattle.kl_heads.specs.Stated.{states_no_other}
use Rattle.kl_nested.proofs.Passing.{beq_other, beq_same, head_is, head_not}
use Rattle.kl_nested.proofs.handing.same_head.Goals as goal
use Rattle.kl_nested.proofs.handing.same_head.Goals.{else-source-is_some-via-then-source-is_some+else-states_no_other, else-source-is_some-via-else-source-is_some}

pub returns-then-states_no_other : goal.returns-then-states_no_other
returns-then-states_no_other c =
    head_is c.args.source.now c.args.found (beq_same _ _ c.if-source-is_some.true ∙ c.is_some.ensures)
    (ap (λ t. states_no_other t c.args.found) (sym c.item_of.ensures) ∙ (sym c.states_no_other.ensures ∙ c.if-states_no_other.true))

pub returns : goal.returns
returns c = (
  ap₂ drift.Header (c.in_ok-kept-2.ensures ∙ c.in_ok-kept.ensures) (c.in_ok-found.ensures ∙ c.head_as.ensures),
  head_not c.args.source.now c.args.found (elim c.else-source-is_some.branch [
    | else-source-is_some-via-then-source-is_some+else-states_no_other w ↦ λ h. false≢true (sym w.if-states_no_other.false ∙ (w.states_no_other.ensures ∙ (ap (λ t. states_no_other t c.args.found) w.item_of.ensures ∙ h.1)))
    | else-source-is_some-via-else-source-is_some w ↦ λ h. beq_other _ _ w.if-source-is_some.false (h.0 ∙ sym c.is_some.ensures)
  ]),
)
