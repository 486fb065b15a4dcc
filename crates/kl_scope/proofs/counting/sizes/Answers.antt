use Rattle.std.proofs.Common.{List, ◌+◌, Option, Some, ◌∙◌, ap, sym, subst}
use Rattle.kl_syntax.specs.declared.tree.Program.{Program}
use Rattle.kl_scope.specs.declared.counting.SizeBreach.{SizeBreach}
use Rattle.kl_scope.specs.declared.terms.Size.{Size}
use Rattle.kl_scope.specs.Caps.{capped, decl_size, Judges}
use Rattle.kl_scope.specs.Limits.{Tells, program_sizes}
use Rattle.kl_scope.specs.Sizes.{sized}
use Rattle.kl_syntax.specs.View.{view}
use Rattle.kl_scope.proofs.LimitLemmas.{Going, at_def, going_told, going_more, going_end, ok_told}
use Rattle.kl_scope.proofs.counting.sizes.Goals as goal

pub returns-in-Some : goal.returns-in-Some
returns-in-Some c =
    let program = c.program-program.result.now in
    let d = c.index-defs-i.result in
    subst (λ (p : Program). Tells (Some c.in-Some.found) (program_sizes p)) c.program-program.ensures
    (going_told c.defs.known.items c.defs.i program.defs program.last d (at_def c.slice-defs.result.now program.defs c.defs.i d c.slice-defs.ensures c.defs-test.true c.index-defs-i.is) c.defs.invariant c.in-Some.found c.declaration-size.result
    (c.declaration-size.ensures ∙ ap (λ (z : List Size). capped (decl_size d.param d z)) c.deref.ensures.value) (subst (λ (o : Option SizeBreach). Judges o c.defs.i c.declaration-size.result) c.in-Some.is c.in_ok-found.ensures))

pub defs-preserved : goal.defs-preserved
defs-preserved c =
    let program = c.program-program.result.now in
    let d = c.index-defs-i.result in
    subst (λ (z : List Size). Going z (c.defs.i + 1) program.defs program.last) (sym c.in_ok-push-in-None.ensures.items)
    (going_more c.defs.known.items c.defs.i program.defs program.last d (at_def c.slice-defs.result.now program.defs c.defs.i d c.slice-defs.ensures c.defs-test.true c.index-defs-i.is) c.defs.invariant c.declaration-size.result
    (c.declaration-size.ensures ∙ ap (λ (z : List Size). capped (decl_size d.param d z)) c.deref.ensures.value) (subst (λ (o : Option SizeBreach). Judges o c.defs.i c.declaration-size.result) c.in-None.is c.in_ok-found.ensures))

pub returns : goal.returns
returns c =
    let program = c.program-program.result.now in
    ok_told c.breach-2.result
    (λ o j. subst (λ (p : Program). Tells o (program_sizes p)) c.program-program.ensures
    (going_end c.defs.known.items c.defs.i c.slice-defs.result.now program.defs program.last o c.expr-size.result c.slice-defs.ensures c.defs-test.false c.defs.auto.i-end c.defs.invariant (c.expr-size.ensures ∙ ap (λ (z : List Size). capped (sized (view program.last) z)) c.deref-2.ensures.value) j)) c.breach-2.ensures
