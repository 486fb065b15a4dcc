use Rattle.std.proofs.Common.{◌≡◌, List, subst}
use Rattle.kl_syntax.specs.View.{view, decls_of}
use Rattle.kl_ho.specs.Functions.{first_functions}
use Rattle.kl_ho.specs.Plain.{decls_plainly, last_plainly}
use Rattle.kl_functions.specs.declared.functions.Known.{Known}
use Rattle.kl_functions.specs.Known.{fields_in}
use Rattle.kl_functions.proofs.Scoped.{named_ok, named_refused}
use Rattle.kl_functions.proofs.names.named.Goals as goal

pub returns-in-Ok-clause-named : goal.returns-in-Ok-clause-named
returns-in-Ok-clause-named c =
    named_ok c.args.program.now c.in_ok-copy.copy c.args.sources.now c.in_ok-known.known.items c.in_ok-known.ensures.known
    (subst (λ (z : List Known). decls_of c.in_ok-copy.copy.defs ≡ decls_plainly (fields_in z) (decls_of c.args.program.now.defs) (first_functions c.args.sources.now)) c.deref.ensures.value c.in_ok-copy.ensures.defs)
    (subst (λ (z : List Known). view c.in_ok-copy.copy.last ≡ last_plainly (fields_in z) (decls_of c.args.program.now.defs) (view c.args.program.now.last) (first_functions c.args.sources.now)) c.deref.ensures.value c.in_ok-copy.ensures.last)
    c.in-Ok.ensures.resolved.in_scope

pub returns-in-Err-clause-refused : goal.returns-in-Err-clause-refused
returns-in-Err-clause-refused c =
    named_refused c.args.program.now c.in_ok-copy.copy c.args.sources.now c.in_ok-known.known.items c.in_ok-known.ensures.known
    (subst (λ (z : List Known). decls_of c.in_ok-copy.copy.defs ≡ decls_plainly (fields_in z) (decls_of c.args.program.now.defs) (first_functions c.args.sources.now)) c.deref.ensures.value c.in_ok-copy.ensures.defs)
    (subst (λ (z : List Known). view c.in_ok-copy.copy.last ≡ last_plainly (fields_in z) (decls_of c.args.program.now.defs) (view c.args.program.now.last) (first_functions c.args.sources.now)) c.deref.ensures.value c.in_ok-copy.ensures.last)
    c.in-Err.error c.in-Err.ensures.refused
