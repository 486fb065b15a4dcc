use Rattle.std.proofs.Common.{◌≡◌, drop}
use Rattle.kl_syntax.specs.View.{patterns_view}
use Rattle.kl_scope.specs.Caps.{capped}
use Rattle.kl_scope.specs.Sizes.{matched_fields}
use Rattle.kl_scope.proofs.counting.+matched.Given as goal

abbrev pub invariant-matched_fields-fields : goal.invariant-matched_fields-fields
invariant-matched_fields-fields l = l.size ≡ capped (matched_fields (patterns_view (drop l.i l.fields)) l.fn.term l.fn.after l.known)
