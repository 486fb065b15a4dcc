use Rattle.std.specs.Cmp.Lexicographic.{pointwise}
use Rattle.std.proofs.Common.{◌≡◌, ◌&&◌, ap₂, ◌∙◌, sym, get_or, nat_eq, true, rules}
use Rattle.kl_core.specs.Trees.{view, parts_view, rest_of}
use Rattle.kl_core.proofs.Views.{view_option}
use Rattle.kl_rules.specs.Sameness.{same_in, same_parts, same_arms}
use Rattle.kl_rules.proofs.PlainTerms.{front_then, front_else, all_then, all_else}
use Rattle.kl_rules.proofs.SameTerms.{trees_differ, parts_differ, same_records, same_cases, same_next}
use Rattle.kl_rules.proofs.sameness.+same.Goals as goal
use Rattle.kl_rules.proofs.sameness.+same.Goals.{same-then-same, same-else-same}

pub same-returns-in-Rec-b : goal.same-returns-in-Rec-b
same-returns-in-Rec-b t c = same_records _ _ _ _ _ _ _ c.in-Rec.is c.in-Rec-b.is c.slice.ensures c.slice-in-Rec-b.ensures c.same_labelled.ensures

pub same-returns-then-same_labelled : goal.same-returns-then-same_labelled
same-returns-then-same_labelled t c =
    let first = c.same-in-Case-b.ensures ∙ ap₂ (λ x y. same_in (view x) (view y)) c.get-in-Case-b.ensures c.get-in-Case-b-2.ensures in
    let front : c.if-same.value ≡ (same_in (view c.in-Case.a) (view c.in-Case-b.b) && same_parts (parts_view c.in-Case.ps) (parts_view c.in-Case-b.qs)) = elim c.if-same.branch [
      | same-then-same w ↦ front_then _ _ _ _ _ first w.if-same.true (w.same_labelled-then-same.ensures ∙ ap₂ (λ x y. same_parts (parts_view x) (parts_view y)) w.slice-then-same.ensures w.slice-then-same-2.ensures) w.value-is
      | same-else-same w ↦ front_else _ _ _ _ first w.if-same.false (w.value-is ∙ w.if-same.false)
    ] in
    all_then _ _ _ _ _ _ (same_cases _ _ _ _ _ _ _ _ c.in-Case.is c.in-Case-b.is) front c.if-same_labelled.true c.same_other.ensures

pub same-returns-else-same_labelled : goal.same-returns-else-same_labelled
same-returns-else-same_labelled t c =
    let first = c.same-in-Case-b.ensures ∙ ap₂ (λ x y. same_in (view x) (view y)) c.get-in-Case-b.ensures c.get-in-Case-b-2.ensures in
    let front : c.if-same.value ≡ (same_in (view c.in-Case.a) (view c.in-Case-b.b) && same_parts (parts_view c.in-Case.ps) (parts_view c.in-Case-b.qs)) = elim c.if-same.branch [
      | same-then-same w ↦ front_then _ _ _ _ _ first w.if-same.true (w.same_labelled-then-same.ensures ∙ ap₂ (λ x y. same_parts (parts_view x) (parts_view y)) w.slice-then-same.ensures w.slice-then-same-2.ensures) w.value-is
      | same-else-same w ↦ front_else _ _ _ _ first w.if-same.false (w.value-is ∙ w.if-same.false)
    ] in
    all_else (same_in (view c.in-Case.a) (view c.in-Case-b.b)) (same_parts (parts_view c.in-Case.ps) (parts_view c.in-Case-b.qs)) (same_arms (rest_of (view_option c.in-Case.c)) (rest_of (view_option c.in-Case-b.d))) _ _ (same_cases _ _ _ _ _ _ _ _ c.in-Case.is c.in-Case-b.is) front c.if-same_labelled.false

pub same_all-returns-then-ts-us : goal.same_all-returns-then-ts-us
same_all-returns-then-ts-us t c =
    sym (trees_differ c.args.ts.now c.args.us.now c.if-ts-us.true)

pub same_labelled-returns-then-ps-qs : goal.same_labelled-returns-then-ps-qs
same_labelled-returns-then-ps-qs t c =
    sym (parts_differ c.args.ps.now c.args.qs.now c.if-ps-qs.true)

pub same_labelled-loop-i-preserved : goal.same_labelled-loop-i-preserved
same_labelled-loop-i-preserved t c =
    let labels : pointwise nat_eq (get_or c.args.ps.now c.loop-i.i c.index-ps-i.result).0 (get_or c.args.qs.now c.loop-i.i c.index-qs-i.result).0 ≡ true = search (rules, c.ne.ensures, c.if-ne.false) in
    let one : c.same.result ≡ true = search (rules, c.if-not-same.false) in
    same_next c.args.ps.now c.args.qs.now c.loop-i.i c.index-ps-i.result c.index-qs-i.result c.index-ps-i-in-loop-i.result c.index-qs-i-in-loop-i.result _
    c.loop-i-test.true (search (rules, c.if-ps-qs.false)) labels (sym c.same.ensures ∙ one) c.loop-i.invariant
