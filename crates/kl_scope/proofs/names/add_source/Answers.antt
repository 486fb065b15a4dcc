use Rattle.std.proofs.Common.{◌≡◌, Some, None, sym, ◌∙◌, subst}
use Rattle.std.specs.BTreeMap.{get, Updates}
use Rattle.kl_base.specs.Fields.{bytes_cmp}
use Rattle.kl_syntax.specs.declared.tree.Meaning.TheVariants.{Source}
use Rattle.kl_scope.specs.Senses.{Name, sense}
use Rattle.kl_scope.proofs.NameLemmas.{source_added, none_copied}
use Rattle.kl_scope.proofs.names.add_source.Goals as goal

pub returns : goal.returns
returns c = λ x.
    let none : get bytes_cmp c.args.fixed.now c.args.name.now ≡ None = sym c.get.ensures.value ∙ none_copied c.get.result (sym c.is_some.ensures ∙ c.if-is_some.false) in
    let up : Updates bytes_cmp c.args.fixed.now c.insert.new.self c.in_ok-dup.field-0 (Some (sense (Source c.in_ok-number.number) 0)) = c.in_ok-insert.ensures.updates in
    source_added c.args.fixed.now c.insert.new.self c.args.name.now x (sense (Source c.args.place) 0)
    (subst (λ (z : Name). Updates bytes_cmp c.args.fixed.now c.insert.new.self z (Some (sense (Source c.args.place) 0))) c.in_ok-dup.ensures
    (subst (λ n. Updates bytes_cmp c.args.fixed.now c.insert.new.self c.in_ok-dup.field-0 (Some (sense (Source n) 0))) c.in_ok-number.ensures up)) none
