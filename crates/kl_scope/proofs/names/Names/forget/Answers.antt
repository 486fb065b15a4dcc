use Rattle.std.proofs.Common.{ℕ, Option, sym, subst}
use Rattle.std.specs.BTreeMap.{Updates}
use Rattle.kl_base.specs.Fields.{bytes_cmp}
use Rattle.kl_scope.proofs.NameLemmas.{kept_unbound, is_kept}
use Rattle.kl_scope.proofs.names.Names.forget.Goals as goal

pub invariant_of-self : goal.invariant_of-self
invariant_of-self c =
    kept_unbound c.self.inside.variables.items c.pop.new.self.items c.self.inside.innermost c.insert.new.self c.self.inside.definitions.items c.self.inside.sources c.self.inside.fixed c.in-Some.last c.self.invariant c.in-Some.ensures.items
    (subst (λ (z : Option ℕ). Updates bytes_cmp c.self.inside.innermost c.insert.new.self c.in-Some.last.name z) (sym c.in-Some-hidden.is) c.in_ok-insert-in-Some-hidden.ensures.updates)

pub invariant_of-self-in_err-insert-in-Some-hidden : goal.invariant_of-self-in_err-insert-in-Some-hidden
invariant_of-self-in_err-insert-in-Some-hidden c =
    absurd (is_kept c.self.inside.variables.items c.pop.new.self.items c.self.inside.innermost c.insert.new.self c.self.inside.definitions.items c.self.inside.sources c.self.inside.fixed c.in-Some.last c.self.invariant c.in-Some.ensures.items
    c.in_err-insert-in-Some-hidden.ensures.absent)

pub invariant_of-self-in-Some : goal.invariant_of-self-in-Some
invariant_of-self-in-Some c =
    kept_unbound c.self.inside.variables.items c.pop.new.self.items c.self.inside.innermost c.remove.new.self c.self.inside.definitions.items c.self.inside.sources c.self.inside.fixed c.in-Some.last c.self.invariant c.in-Some.ensures.items
    (subst (λ (z : Option ℕ). Updates bytes_cmp c.self.inside.innermost c.remove.new.self c.in-Some.last.name z) (sym c.in-None.is) c.remove.ensures.updates)
