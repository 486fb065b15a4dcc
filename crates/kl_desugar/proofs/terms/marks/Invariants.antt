use Rattle.std.proofs.Common.{◌≡◌, ◌++◌, drop}
use Rattle.kl_syntax.specs.View.{patterns_view}
use Rattle.kl_desugar.specs.Translation.{marks}
use Rattle.kl_desugar.proofs.terms.marks.Given as goal

abbrev pub invariant-fields : goal.invariant-fields
invariant-fields l = l.marks.items ++ marks (patterns_view (drop l.field-index l.fields)) ≡ marks (patterns_view l.fields)
