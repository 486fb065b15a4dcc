use Rattle.std.proofs.Common.{◌≡◌, List, [], take, length, sym, ap, ◌∙◌, subst, arith}
use Rattle.std.proofs.lemmas.List.{length-take-le}
use Rattle.kl_syntax.specs.declared.tree.Decl.{Decl}
use Rattle.kl_syntax.specs.View.{view, decls_of}
use Rattle.kl_ho.specs.Functions.{first_functions}
use Rattle.kl_ho.specs.Plain.{decls_plainly, last_plainly}
use Rattle.kl_functions.specs.Known.{AreKnown, fields_in}
use Rattle.kl_functions.proofs.Declaring.{decls_next, last_next, decls_done, last_done, as_long}
use Rattle.kl_functions.proofs.programs.plain_program.Goals as goal

pub slice_bounds-before-end : goal.slice_bounds-before-end
slice_bounds-before-end c =
    let many : length c.args.known.now ≡ length c.args.program.now.defs = as_long c.args.sources.now [] c.args.known.now c.args.program.now.defs c.requires in
    let same : length c.slice-defs.result.now ≡ length c.args.program.now.defs = ap (λ z. length z) c.slice-defs.ensures in
    let taken : length (take c.defs.i c.args.known.now) ≡ c.defs.i = length-take-le c.defs.i c.args.known.now (omega arith) in
    omega arith

pub defs-preserved : goal.defs-preserved
defs-preserved c = record {
  defs = decls_next (fields_in c.args.known.now) c.args.sources.now c.args.known.now c.slice-defs.result.now (subst (λ (z : List Decl). AreKnown c.args.sources.now [] c.args.known.now z) (sym c.slice-defs.ensures) c.requires)
      c.defs.i c.index-defs-i.result c.in_ok-decl_copy.field-0 c.defs.made.items _ c.defs-test.true c.index-defs-i.is c.in_ok-push.ensures.items c.in_ok-decl_copy.ensures c.defs.invariant.defs;
  last = last_next (fields_in c.args.known.now) c.args.sources.now c.args.known.now c.slice-defs.result.now (subst (λ (z : List Decl). AreKnown c.args.sources.now [] c.args.known.now z) (sym c.slice-defs.ensures) c.requires)
      c.defs.i c.index-defs-i.result (view c.args.program.now.last) c.defs-test.true c.index-defs-i.is c.defs.invariant.last;
}

pub returns-clause-defs : goal.returns-clause-defs
returns-clause-defs c =
    decls_done (fields_in c.args.known.now) c.args.sources.now c.args.known.now c.slice-defs.result.now (subst (λ (z : List Decl). AreKnown c.args.sources.now [] c.args.known.now z) (sym c.slice-defs.ensures) c.requires)
    c.defs.i c.defs.made.items c.of.result (omega arith) c.of.ensures c.defs.invariant.defs
    ∙ ap (λ z. decls_plainly (fields_in c.args.known.now) (decls_of z) (first_functions c.args.sources.now)) c.slice-defs.ensures

pub returns-clause-last : goal.returns-clause-last
returns-clause-last c =
    last_done (fields_in c.args.known.now) c.args.sources.now c.args.known.now c.slice-defs.result.now (subst (λ (z : List Decl). AreKnown c.args.sources.now [] c.args.known.now z) (sym c.slice-defs.ensures) c.requires)
    c.defs.i (view c.args.program.now.last) (view c.in_ok-last.last) (omega arith) c.in_ok-last.ensures c.defs.invariant.last
    ∙ ap (λ z. last_plainly (fields_in c.args.known.now) (decls_of z) (view c.args.program.now.last) (first_functions c.args.sources.now)) c.slice-defs.ensures
