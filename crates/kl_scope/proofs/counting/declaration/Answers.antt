use Rattle.std.proofs.Common.{Option, ◌∙◌, ap, sym}
use Rattle.kl_syntax.specs.declared.tree.Pattern.{Pattern}
use Rattle.kl_syntax.specs.View.{view, pattern_view}
use Rattle.kl_scope.specs.Caps.{capped, decl_size}
use Rattle.kl_scope.specs.Sizes.{leaf, sized}
use Rattle.kl_scope.proofs.SizeLemmas.{up_matched, leaf_is}
use Rattle.kl_scope.proofs.counting.declaration.Goals as goal

pub returns-in-Some : goal.returns-in-Some
returns-in-Some c =
    up_matched (pattern_view c.in-Some.pattern) c.matched.result leaf c.expr-body.result leaf (sized (view c.args.decl.now.body) c.args.known.now) c.args.known.now c.matched.ensures leaf_is c.expr-body.ensures
    ∙ ap (λ (o : Option Pattern). capped (decl_size o c.args.decl.now c.args.known.now)) (sym c.in-Some.is)
