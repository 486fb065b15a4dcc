use Rattle.std.proofs.Common.{◌≡◌, length, arith, Some, sym, ◌∙◌, subst}
use Rattle.std.specs.BTreeMap.{Updates}
use Rattle.kl_base.specs.Fields.{bytes_cmp}
use Rattle.kl_syntax.specs.declared.tree.Meaning.TheVariants.{Definition}
use Rattle.kl_scope.specs.Senses.{Name, sense}
use Rattle.kl_scope.proofs.NameLemmas.{kept_defined, ok_of}
use Rattle.kl_scope.proofs.names.Names.define.Goals as goal

pub invariant_of-self-else-is_err : goal.invariant_of-self-else-is_err
invariant_of-self-else-is_err c =
    let up : Updates bytes_cmp c.self.inside.fixed c.insert.new.self c.in_ok-key.key (Some (sense (Definition c.in_ok-number.number) c.arity.result)) = ok_of c.insert.result (sym c.if-is_err.ensures.value) c.insert.ensures.updates in
    let long : c.in_ok-number.number ≡ length c.self.inside.definitions.items = omega (arith, c.in_ok-number.ensures) in
    kept_defined c.self.inside.variables.items c.self.inside.innermost c.self.inside.definitions.items c.push.new.self.items c.self.inside.sources c.self.inside.fixed c.insert.new.self
    c.in_ok-dup.field-0 c.args.is_function c.in_ok-number.number c.arity.result c.self.invariant c.in_ok-push.ensures.items long c.arity.ensures
    (subst (λ (z : Name). Updates bytes_cmp c.self.inside.fixed c.insert.new.self z (Some (sense (Definition c.in_ok-number.number) c.arity.result))) (c.in_ok-key.ensures ∙ sym c.in_ok-dup.ensures) up)
