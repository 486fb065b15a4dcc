use Rattle.std.proofs.Common.{get_or, refl, ap, ◌∙◌, map, [], rules}
use Rattle.kl_syntax.specs.declared.tree.Pattern.{the_lemmas}
use Rattle.kl_syntax.specs.View.{pattern_view}
use Rattle.kl_scope.specs.Findings.{patterns_findings, repeated}
use Rattle.kl_scope.specs.Gathering.{gathered}
use Rattle.kl_scope.specs.Resolved.{resolved_pats}
use Rattle.kl_scope.specs.Walks.{same_scope, pattern_front}
use Rattle.kl_scope.proofs.ArmLemmas.{record_walked, rec_ok}
use Rattle.kl_scope.proofs.WalkLemmas.{item_walked, unvisited_more, unvisited_item, list_walked, pattern_in_front}
use Rattle.kl_scope.proofs.walk.Walk.+pattern.Goals as goal

pub patterns-fields-preserved : goal.patterns-fields-preserved
patterns-fields-preserved t c = record {
  unvisited = unvisited_more c.slice_mut-fields.result.now c.fields.fields c.fields.i _ c.fields.invariant.unvisited;
  walked =
      let x = get_or c.fields.fields c.fields.i c.index-fields-i.result in
      item_walked resolved_pats patterns_findings same_scope pattern_front c.slice_mut-fields.result.now c.fields.fields c.fields.i x (x.0, c.pattern.new.pattern) _ c.fields.self c.pattern.new.self c.fields-test.true c.fields.auto.fields
      (unvisited_item c.slice_mut-fields.result.now c.fields.fields c.fields.i c.index-fields-i.result c.fields-test.true c.fields.invariant.unvisited) c.fields.invariant.walked
      (pattern_in_front x.0 (pattern_view x.1) (pattern_view c.pattern.new.pattern) c.fields.self c.pattern.new.self c.in_ok-pattern.ensures);
}

pub patterns-returns : goal.patterns-returns
patterns-returns t c =
    record_walked c.args.fields.now _ c.args.self.now _ c.fields.self refl (c.in_ok-labels.ensures ∙ ap (λ fs. gathered c.args.self.now.findings (repeated [] (map (λ f. f.0) fs))) c.slice.ensures)
    (list_walked resolved_pats patterns_findings same_scope pattern_front c.args.fields.now c.slice_mut-fields.result.now c.fields.fields c.fields.i _ c.fields.self c.slice_mut-fields.ensures.value c.fields-test.false c.fields.auto.fields c.fields.invariant.walked)

pub pattern-returns-in-Rec : goal.pattern-returns-in-Rec
pattern-returns-in-Rec t c = rec_ok c.patterns.result c.args.pattern.now _ c.in-Rec.fields c.patterns.new.fields _ c.in-Rec.field-1 _ _ c.in-Rec.is (first_of (search rules, search (rules, the_lemmas), search (rules, the_lemmas, c.in-Rec.is))) c.in-Rec.fields-is c.patterns.ensures
