use Rattle.std.proofs.Common.{◌≡◌, ◌<◌, ◌∙◌, arith, length}
use Rattle.kl_scope.proofs.NameLemmas.{level_fits, named_variable, named_other}
use Rattle.kl_scope.proofs.names.Names.named.Goals as goal

pub overflow_sub-result : goal.overflow_sub-result
overflow_sub-result c =
    let h : c.in-Some.level.now < length c.self.inside.variables.items = level_fits c.self.inside.variables.items c.args.name.now c.in-Some.level.now (c.in-Some.ensures.value ∙ c.self.invariant.levels c.args.name.now) in omega arith

pub overflow_sub-result-in-Some : goal.overflow_sub-result-in-Some
overflow_sub-result-in-Some c =
    let h : c.in-Some.level.now < length c.self.inside.variables.items = level_fits c.self.inside.variables.items c.args.name.now c.in-Some.level.now (c.in-Some.ensures.value ∙ c.self.invariant.levels c.args.name.now) in omega arith

pub returns-in-Some : goal.returns-in-Some
returns-in-Some c =
    let long : c.len.result ≡ length c.self.inside.variables.items = omega arith in
    named_variable c.self.inside.variables.items c.self.inside.definitions.items c.self.inside.sources c.args.self.now c.args.name.now c.len.result c.in-Some.level.now c.self.view_is long
    (c.in-Some.ensures.value ∙ c.self.invariant.levels c.args.name.now)

pub returns-in-None : goal.returns-in-None
returns-in-None c =
    named_other c.self.inside.variables.items c.self.inside.definitions.items c.self.inside.sources c.args.self.now c.args.name.now c.copied.result c.self.view_is
    (c.in-None.ensures.value ∙ c.self.invariant.levels c.args.name.now) (c.copied.ensures ∙ c.get-in-None.ensures.value ∙ c.self.invariant.others c.args.name.now)
