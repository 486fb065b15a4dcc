use Rattle.std.proofs.Common.{List, refl, sym, subst}
use Rattle.std.proofs.lemmas.Result.{MatchResult-at_ok, MatchResult-at_err}
use Rattle.kl_syntax.specs.declared.tree.Decl.{Decl}
use Rattle.kl_syntax.specs.declared.tree.Program.{Program}
use Rattle.kl_syntax.specs.View.{view, decls_of}
use Rattle.kl_outcome.specs.Outcome.{Name}
use Rattle.kl_rows.specs.declared.Scheme.{Scheme}
use Rattle.kl_infer.specs.Declaring.{AreMade}
use Rattle.kl_infer.specs.Inferred.{Infers, types_of}
use Rattle.kl_infer.specs.Refusing.{IsRefusal}
use Rattle.kl_infer.specs.declared.scope.Known.{Known}
use Rattle.kl_infer.specs.declared.typed.Typed.{Typed}
use Rattle.kl_infer.proofs.Programs.{known_good, have_next, refuses, answers, refuses_last}
use Rattle.kl_infer.proofs.inference.infer.Goals as goal

pub declared-found-requires-clause-good : goal.declared-found-requires-clause-good
declared-found-requires-clause-good c =
    let k : Known = record { defs = c.slice-defs.result; schemes = c.deref.result; sources = c.args.sources } in
    known_good k c.slice-defs.result.now c.defs.schemes.items c.args.sources.now refl c.deref.ensures.value refl c.defs.i c.defs.invariant.have c.requires.proper

pub returns-in-Err-clause-refused : goal.returns-in-Err-clause-refused
returns-in-Err-clause-refused c =
    let k : Known = record { defs = c.slice-defs.result; schemes = c.deref.result; sources = c.args.sources } in
    subst (λ (z : Program). IsRefusal (decls_of z.defs) (view z.last) (types_of c.args.sources.now) c.refused.result) c.program-program.ensures
    (subst (λ (z : List Decl). IsRefusal (decls_of z) (view c.program-program.result.now.last) (types_of c.args.sources.now) c.refused.result) c.slice-defs.ensures
    (refuses k c.slice-defs.result.now c.defs.schemes.items c.args.sources.now refl c.deref.ensures.value refl c.defs.i c.defs.invariant.have c.index-defs-i.result _ _ _ c.defs-test.true c.index-defs-i.is
    (MatchResult-at_err _ _ _ c.in-Err.is c.declared-found.ensures.scheme) c.refused.ensures))

pub declared-found-requires-clause-made : goal.declared-found-requires-clause-made
declared-found-requires-clause-made c = c.defs.invariant.made

pub defs-init : goal.defs-init
defs-init c = record { have = c.new-schemes.ensures.items; made = subst (λ (z : List (Name × Scheme)). AreMade c.args.sources.now z) (sym c.new-made.ensures.items) tt }

pub defs-preserved : goal.defs-preserved
defs-preserved c =
    let k : Known = record { defs = c.slice-defs.result; schemes = c.deref.result; sources = c.args.sources } in
    record {
      have = have_next k c.slice-defs.result.now c.defs.schemes.items c.args.sources.now refl c.deref.ensures.value refl c.defs.i c.defs.invariant.have c.index-defs-i.result _ _ c.defs-test.true c.index-defs-i.is c.in_ok-push-in-Ok.ensures
          (MatchResult-at_ok _ _ _ c.in-Ok.is c.declared-found.ensures.scheme);
      made = MatchResult-at_ok _ _ _ c.in-Ok.is c.declared-found.ensures.made;
    }

pub constant-found-requires : goal.constant-found-requires
constant-found-requires c =
    let k : Known = record { defs = c.slice-defs.result; schemes = c.deref-2.result; sources = c.args.sources } in
    known_good k c.slice-defs.result.now c.defs.schemes.items c.args.sources.now refl c.deref-2.ensures.value refl c.defs.i c.defs.invariant.have c.requires.proper

pub returns-in-Ok-found-clause-typed : goal.returns-in-Ok-found-clause-typed
returns-in-Ok-found-clause-typed c =
    let k : Known = record { defs = c.slice-defs.result; schemes = c.deref-2.result; sources = c.args.sources } in
    let typed : Typed = record { schemes = c.of.result; result = c.in-Ok-found.result } in
    subst (λ (z : Program). Infers (decls_of z.defs) (view z.last) (types_of c.args.sources.now) typed) c.program-program.ensures
    (subst (λ (z : List Decl). Infers (decls_of z) (view c.program-program.result.now.last) (types_of c.args.sources.now) typed) c.slice-defs.ensures
    (answers k c.slice-defs.result.now c.defs.schemes.items c.args.sources.now refl c.deref-2.ensures.value refl c.defs.i c.defs.invariant.have (view c.program-program.result.now.last) _ typed c.defs-test.false c.of.ensures refl
    (MatchResult-at_ok _ _ _ c.in-Ok-found.is c.constant-found.ensures)))

pub returns-in-Err-found-clause-refused : goal.returns-in-Err-found-clause-refused
returns-in-Err-found-clause-refused c =
    let k : Known = record { defs = c.slice-defs.result; schemes = c.deref-2.result; sources = c.args.sources } in
    subst (λ (z : Program). IsRefusal (decls_of z.defs) (view z.last) (types_of c.args.sources.now) c.refused-in-Err-found.result) c.program-program.ensures
    (subst (λ (z : List Decl). IsRefusal (decls_of z) (view c.program-program.result.now.last) (types_of c.args.sources.now) c.refused-in-Err-found.result) c.slice-defs.ensures
    (refuses_last k c.slice-defs.result.now c.defs.schemes.items c.args.sources.now refl c.deref-2.ensures.value refl c.defs.i c.defs.invariant.have (view c.program-program.result.now.last) _ _ c.defs-test.false
    (MatchResult-at_err _ _ _ c.in-Err-found.is c.constant-found.ensures) c.refused-in-Err-found.ensures))
