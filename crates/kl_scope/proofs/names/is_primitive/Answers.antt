use Rattle.std.proofs.Common.{◌≢◌, All, is_some, refl, sym, ap, subst, ◌∙◌}
use Rattle.kl_scope.specs.Senses.{Name}
use Rattle.kl_scope.proofs.TableLemmas.{an_entry, no_entry}
use Rattle.kl_scope.proofs.names.is_primitive.Goals as goal

pub returns-in-Some : goal.returns-in-Some
returns-in-Some c = sym (ap is_some (an_entry c.args.name.now c.table.result.rows.now c.in-Some.field-0.now c.table.ensures c.table.result.names_differ c.in-Some.ensures.some (c.in-Some.ensures.named ∙ c.slice.ensures)))

pub returns-in-None : goal.returns-in-None
returns-in-None c = sym (ap is_some (no_entry c.args.name.now c.table.result.rows.now c.table.ensures (subst (λ (z : Name). All (λ r. r.name.now ≢ z) c.table.result.rows.now) c.slice.ensures (c.in-None.ensures.none.0 refl))))
