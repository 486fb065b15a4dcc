use Rattle.std.proofs.Common.{◌≡◌, ap, ◌∙◌, ◌&&◌, not, sym, false, true, rules}
use Rattle.kl_core.specs.Trees.{view, parts_view, rest_of}
use Rattle.kl_core.proofs.Views.{view_option}
use Rattle.kl_rules.specs.Guards.{plain_in, plain_parts, plain_arms}
use Rattle.kl_rules.proofs.Walks.{plain_case}
use Rattle.kl_rules.proofs.PlainTerms.{front_then, front_else, all_then, all_else, plain_rec, plain_make, plain_nothing}
use Rattle.kl_rules.proofs.plainness.+is_plain.Goals as goal
use Rattle.kl_rules.proofs.plainness.+is_plain.Goals.{is_plain-then-is_plain, is_plain-else-is_plain}

pub is_plain-returns-in-Rec : goal.is_plain-returns-in-Rec
is_plain-returns-in-Rec t c = plain_rec _ _ _ _ c.in-Rec.is c.slice.ensures c.are_plain_labelled.ensures

pub is_plain-returns-then-are_plain_labelled : goal.is_plain-returns-then-are_plain_labelled
is_plain-returns-then-are_plain_labelled t c =
    let first = c.is_plain-in-Case.ensures ∙ ap (λ x. plain_in (view x)) c.get-in-Case.ensures in
    let front : c.if-is_plain.value ≡ (plain_in (view c.in-Case.a) && plain_parts (parts_view c.in-Case.branches)) = elim c.if-is_plain.branch [
      | is_plain-then-is_plain w ↦ front_then _ _ _ _ _ first w.if-is_plain.true (w.are_plain_labelled-then-is_plain.ensures ∙ ap (λ x. plain_parts (parts_view x)) w.slice-then-is_plain.ensures) w.value-is
      | is_plain-else-is_plain w ↦ front_else _ _ _ _ first w.if-is_plain.false (w.value-is ∙ w.if-is_plain.false)
    ] in
    all_then _ _ _ _ _ _ (plain_case _ _ _ _ c.in-Case.is) front c.if-are_plain_labelled.true c.is_plain_other.ensures

pub is_plain-returns-else-are_plain_labelled : goal.is_plain-returns-else-are_plain_labelled
is_plain-returns-else-are_plain_labelled t c =
    let first = c.is_plain-in-Case.ensures ∙ ap (λ x. plain_in (view x)) c.get-in-Case.ensures in
    let front : c.if-is_plain.value ≡ (plain_in (view c.in-Case.a) && plain_parts (parts_view c.in-Case.branches)) = elim c.if-is_plain.branch [
      | is_plain-then-is_plain w ↦ front_then _ _ _ _ _ first w.if-is_plain.true (w.are_plain_labelled-then-is_plain.ensures ∙ ap (λ x. plain_parts (parts_view x)) w.slice-then-is_plain.ensures) w.value-is
      | is_plain-else-is_plain w ↦ front_else _ _ _ _ first w.if-is_plain.false (w.value-is ∙ w.if-is_plain.false)
    ] in
    all_else (plain_in (view c.in-Case.a)) (plain_parts (parts_view c.in-Case.branches)) (plain_arms (rest_of (view_option c.in-Case.other))) _ _ (plain_case _ _ _ _ c.in-Case.is) front c.if-are_plain_labelled.false

pub is_plain-returns-then-not-is_empty : goal.is_plain-returns-then-not-is_empty
is_plain-returns-then-not-is_empty t c =
    let full : c.is_empty.result ≡ false = search (rules, c.if-not-is_empty.true) in
    plain_make _ _ _ _ _ _ c.in-Make.is c.slice-then-not-is_empty.ensures c.is_empty.ensures full c.are_plain.ensures

pub is_plain-returns-else-not-is_empty : goal.is_plain-returns-else-not-is_empty
is_plain-returns-else-not-is_empty t c =
    let none : c.is_empty.result ≡ true = search (rules, c.if-not-is_empty.false) in
    ap not none ∙ sym (plain_nothing _ _ _ _ c.in-Make.is c.is_empty.ensures none)
