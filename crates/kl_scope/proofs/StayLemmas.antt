-- A pattern keeps its variables where its names are resolved.
use Rattle.std.proofs.Common.{◌≡◌, ◌++◌, refl, ap}
use Rattle.kl_syntax.specs.Syntax.{Pat, catch, any, same, is, shape, variant, Pats, no_pats, pats}
use Rattle.kl_scope.specs.Senses.{Scope}
use Rattle.kl_scope.specs.Patterns.{rest_variable, variables, variables_all}
use Rattle.kl_scope.specs.Resolved.{resolved_pat, resolved_pats}

mutual
  pub variables_stay : (p : Pat) (s : Scope) → variables (resolved_pat p s) ≡ variables p
  variables_stay (catch w) s = refl
  variables_stay any s = refl
  variables_stay (same w) s = refl
  variables_stay (is v n) s = refl
  variables_stay (shape ps end) s = ap (λ ws. ws ++ rest_variable end) (all_stay ps s)
  variables_stay (variant l p) s = variables_stay p s

  all_stay : (ps : Pats) (s : Scope) → variables_all (resolved_pats ps s) ≡ variables_all ps
  all_stay no_pats s = refl
  all_stay (pats l p ps) s = rw (variables_stay p s, all_stay ps s) refl
