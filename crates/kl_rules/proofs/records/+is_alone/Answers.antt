use Rattle.std.proofs.Common.{◌≡◌, ◌+◌, ◌-◌, ◌^◌, ◌&&◌, min, ap, ◌∙◌, arith}
use Rattle.kl_base.specs.Fields.{labels_of}
use Rattle.kl_core.specs.Trees.{view, parts_view, rest_of}
use Rattle.kl_core.proofs.Views.{view_option}
use Rattle.kl_rules.specs.Unpacked.{alone_in, alone_parts, alone_arms}
use Rattle.kl_rules.proofs.PlainTerms.{front_then, front_else, all_then, all_else}
use Rattle.kl_rules.proofs.Rooms.{alone_case}
use Rattle.kl_rules.proofs.records.+is_alone.Goals as goal
use Rattle.kl_rules.proofs.records.+is_alone.Goals.{is_alone-then-is_alone, is_alone-else-is_alone}

pub is_alone-returns-then-are_alone_labelled : goal.is_alone-returns-then-are_alone_labelled
is_alone-returns-then-are_alone_labelled t c n e =
    let first = c.is_alone-in-Case.ensures n e ∙ ap (λ x. alone_in (labels_of c.args.fields.now) n (view x)) c.get-in-Case.ensures in
    let front : c.if-is_alone.value ≡ (alone_in (labels_of c.args.fields.now) n (view c.in-Case.a) && alone_parts (labels_of c.args.fields.now) (n + 1) (parts_view c.in-Case.branches)) = elim c.if-is_alone.branch [
      | is_alone-then-is_alone w ↦
          let next : min (n + 1) (2 ^ 64 - 1) ≡ w.saturating_add.result = omega (arith, e, w.saturating_add.ensures) in
          front_then _ _ _ _ _ first w.if-is_alone.true (w.are_alone_labelled-then-is_alone.ensures (n + 1) next ∙ ap (λ x. alone_parts (labels_of c.args.fields.now) (n + 1) (parts_view x)) w.slice-then-is_alone.ensures) w.value-is
      | is_alone-else-is_alone w ↦ front_else _ _ _ _ first w.if-is_alone.false (w.value-is ∙ w.if-is_alone.false)
    ] in
    all_then _ _ _ _ _ _ (alone_case (labels_of c.args.fields.now) n _ _ _ _ c.in-Case.is) front c.if-are_alone_labelled.true (c.is_alone_other.ensures n e)

pub is_alone-returns-else-are_alone_labelled : goal.is_alone-returns-else-are_alone_labelled
is_alone-returns-else-are_alone_labelled t c n e =
    let first = c.is_alone-in-Case.ensures n e ∙ ap (λ x. alone_in (labels_of c.args.fields.now) n (view x)) c.get-in-Case.ensures in
    let front : c.if-is_alone.value ≡ (alone_in (labels_of c.args.fields.now) n (view c.in-Case.a) && alone_parts (labels_of c.args.fields.now) (n + 1) (parts_view c.in-Case.branches)) = elim c.if-is_alone.branch [
      | is_alone-then-is_alone w ↦
          let next : min (n + 1) (2 ^ 64 - 1) ≡ w.saturating_add.result = omega (arith, e, w.saturating_add.ensures) in
          front_then _ _ _ _ _ first w.if-is_alone.true (w.are_alone_labelled-then-is_alone.ensures (n + 1) next ∙ ap (λ x. alone_parts (labels_of c.args.fields.now) (n + 1) (parts_view x)) w.slice-then-is_alone.ensures) w.value-is
      | is_alone-else-is_alone w ↦ front_else _ _ _ _ first w.if-is_alone.false (w.value-is ∙ w.if-is_alone.false)
    ] in
    all_else (alone_in (labels_of c.args.fields.now) n (view c.in-Case.a)) (alone_parts (labels_of c.args.fields.now) (n + 1) (parts_view c.in-Case.branches)) (alone_arms (labels_of c.args.fields.now) n (rest_of (view_option c.in-Case.other))) _ _ (alone_case (labels_of c.args.fields.now) n _ _ _ _ c.in-Case.is) front c.if-are_alone_labelled.false
