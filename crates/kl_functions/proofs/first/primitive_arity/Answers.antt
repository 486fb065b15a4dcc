use Rattle.std.proofs.Common.{◌≢◌, All, option_and_then, refl, sym, ap, subst, ◌∙◌, Option}
use Rattle.kl_prim.specs.Table.{Entry}
use Rattle.kl_scope.specs.Senses.{Name, by_name}
use Rattle.kl_scope.proofs.TableLemmas.{an_entry, no_entry}
use Rattle.kl_ho.specs.Plain.{arity_of}
use Rattle.kl_functions.proofs.first.primitive_arity.Goals as goal

pub returns-in-Some : goal.returns-in-Some
returns-in-Some c =
    c.arity_by_name.ensures
    ∙ sym (ap (λ (o : Option Entry). arity_of (option_and_then by_name o))
    (an_entry c.args.name.now c.table.result.rows.now c.in-Some.row.now c.table.ensures c.table.result.names_differ c.in-Some.ensures.some (c.in-Some.ensures.named ∙ c.slice.ensures)))

pub returns-in-None : goal.returns-in-None
returns-in-None c =
    sym (ap (λ (o : Option Entry). arity_of (option_and_then by_name o))
    (no_entry c.args.name.now c.table.result.rows.now c.table.ensures (subst (λ (z : Name). All (λ r. r.name.now ≢ z) c.table.result.rows.now) c.slice.ensures (c.in-None.ensures.none.0 refl))))
