use Rattle.std.proofs.Common.{◌≡◌, drop}
use Rattle.kl_scope.specs.Walks.{onto, pattern_front}
use Rattle.kl_syntax.specs.Syntax.{Pats}
use Rattle.kl_syntax.specs.View.{patterns_view}
use Rattle.kl_ho.specs.Expansion.{Scope, PatsBecome}
use Rattle.kl_ho.specs.KeptPrograms.{begins}
use Rattle.kl_ho.specs.Growing.{scope_of}
use Rattle.kl_ho.specs.Shapes.{names_after_all}
use Rattle.kl_ho.proofs.expanding.+pattern.Given as goal

abbrev pub invariant-new_fields-loop-field : goal.invariant-new_fields-loop-field
invariant-new_fields-loop-field l =
    ((qs : Pats) (U : Scope) → PatsBecome (begins l.t.base.now) (scope_of l.t.base.now l.outside) (scope_of l.t.base.now l.vars.items) (patterns_view (drop l.field-index l.fields)) qs U
    → PatsBecome (begins l.t.base.now) (scope_of l.t.base.now l.outside) (scope_of l.t.base.now l.initial.vars.items) (patterns_view l.fields) (onto pattern_front l.made.items qs) U)
    × (names_after_all (patterns_view (drop l.field-index l.fields)) l.vars.items ≡ names_after_all (patterns_view l.fields) l.initial.vars.items)
