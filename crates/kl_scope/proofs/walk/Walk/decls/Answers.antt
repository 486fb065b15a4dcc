use Rattle.std.proofs.Common.{get_or, refl}
use Rattle.kl_scope.specs.Findings.{decls_findings, behind_decls}
use Rattle.kl_scope.specs.Resolved.{resolved_decls}
use Rattle.kl_scope.specs.Walks.{decl_front}
use Rattle.kl_scope.proofs.WalkLemmas.{item_walked, unvisited_more, unvisited_item, all_walked, none_walked}
use Rattle.kl_scope.proofs.walk.Walk.decls.Goals as goal

pub loop-i-init : goal.loop-i-init
loop-i-init c = record { unvisited = (refl, λ k d le. refl); walked = none_walked resolved_decls decls_findings behind_decls c.args.self.now }

pub loop-i-preserved : goal.loop-i-preserved
loop-i-preserved c = record {
  unvisited = unvisited_more c.args.decls.now c.loop-i.decls c.loop-i.i _ c.loop-i.invariant.unvisited;
  walked =
      let x = get_or c.loop-i.decls c.loop-i.i c.index-decls-i.result in
      item_walked resolved_decls decls_findings behind_decls decl_front c.args.decls.now c.loop-i.decls c.loop-i.i x c.decl.new.decl c.args.self.now c.loop-i.self c.decl.new.self c.loop-i-test.true c.loop-i.auto.decls
      (unvisited_item c.args.decls.now c.loop-i.decls c.loop-i.i c.index-decls-i.result c.loop-i-test.true c.loop-i.invariant.unvisited) c.loop-i.invariant.walked c.in_ok-decl.ensures;
}

pub returns : goal.returns
returns c = all_walked resolved_decls decls_findings behind_decls decl_front c.args.decls.now c.loop-i.decls c.loop-i.i c.args.self.now c.loop-i.self c.loop-i-test.false c.loop-i.auto.decls c.loop-i.invariant.walked
