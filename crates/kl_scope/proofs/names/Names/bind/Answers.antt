use Rattle.std.proofs.Common.{◌≡◌, length, arith, Some, sym, ap, ◌∙◌, subst}
use Rattle.std.specs.BTreeMap.{get, Updates}
use Rattle.kl_base.specs.Fields.{bytes_cmp}
use Rattle.kl_scope.specs.declared.names.Bound.{Bound}
use Rattle.kl_scope.specs.Senses.{Name}
use Rattle.kl_scope.proofs.NameLemmas.{kept_bound, ok_of}
use Rattle.kl_scope.proofs.names.Names.bind.Goals as goal

pub invariant_of-self-else-is_err : goal.invariant_of-self-else-is_err
invariant_of-self-else-is_err c =
    let b : Bound = record { name = c.in_ok-dup.field-0; hidden = c.copied-hidden.result } in
    let up : Updates bytes_cmp c.self.inside.innermost c.insert.new.self c.in_ok-key.key (Some c.len-level.result) = ok_of c.insert.result (sym c.if-is_err.ensures.value) c.insert.ensures.updates in
    let hides : c.copied-hidden.result ≡ get bytes_cmp c.self.inside.innermost b.name = c.copied-hidden.ensures ∙ c.get.ensures.value ∙ ap (get bytes_cmp c.self.inside.innermost) (sym c.in_ok-dup.ensures) in
    let long : c.len-level.result ≡ length c.self.inside.variables.items = omega arith in
    kept_bound c.self.inside.variables.items c.self.inside.innermost c.insert.new.self c.self.inside.definitions.items c.self.inside.sources c.self.inside.fixed
    c.push.new.self.items b c.len-level.result c.self.invariant c.in_ok-push.ensures.items long hides
    (subst (λ (z : Name). Updates bytes_cmp c.self.inside.innermost c.insert.new.self z (Some c.len-level.result)) (c.in_ok-key.ensures ∙ sym c.in_ok-dup.ensures) up)
