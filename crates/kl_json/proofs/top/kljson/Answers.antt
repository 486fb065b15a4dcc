use Rattle.std.proofs.Common.{[], Some, sym, ap, ◌∙◌}
use Rattle.kl_json.proofs.Answering.{answers_to, answers_from, answers_none, answers_wanting}
use Rattle.kl_json.proofs.top.kljson.Goals as goal

pub returns-in-Ok-Some-To : goal.returns-in-Ok-Some-To
returns-in-Ok-Some-To g c =
    answers_to _ _ _ _ _ _ _ _ c.in-Ok-Some-To.file c.in-Ok-Some-To.choices c.slice.result.now c.slice-in-Ok-Some-To.result.now c.to-ended.result
    (sym c.in-Ok-Some-To.ensures ∙ c.in-Ok-Some-To.field-0-is ∙ ap Some c.in-Ok-Some-To.field-0-0-is)
    c.slice.ensures c.slice-in-Ok-Some-To.ensures c.to-ended.ensures c.end.ensures.status c.end.ensures.tells

pub returns-in-Ok-Some-From : goal.returns-in-Ok-Some-From
returns-in-Ok-Some-From g c =
    answers_from _ _ _ _ _ _ _ _ c.in-Ok-Some-From.file c.slice-in-Ok-Some-From.result.now c.slice-in-Ok-Some-From-2.result.now c.from-ended.result
    (sym c.in-Ok-Some-From.ensures ∙ c.in-Ok-Some-From.field-0-is ∙ ap Some c.in-Ok-Some-From.field-0-0-is)
    c.slice-in-Ok-Some-From.ensures c.slice-in-Ok-Some-From-2.ensures c.from-ended.ensures c.end-in-Ok-Some-From.ensures.status c.end-in-Ok-Some-From.ensures.tells

pub returns-in-Ok-None : goal.returns-in-Ok-None
returns-in-Ok-None g c =
    answers_none _ _ _ _ _ _ [] (sym c.in-Ok-None.ensures ∙ c.in-Ok-None.field-0-is) c.end-in-Ok-None.ensures.status c.end-in-Ok-None.ensures.tells

pub returns-in-Err : goal.returns-in-Err
returns-in-Err g c = answers_wanting _ _ _ _ _ _ [] c.end-in-Err.ensures.status c.end-in-Err.ensures.tells
