use Rattle.std.proofs.Common.{◌≡◌, take, drop}
use Rattle.kl_syntax.specs.View.{view, decls_of}
use Rattle.kl_scope.specs.Walks.{onto, decl_front}
use Rattle.kl_ho.specs.Functions.{first_functions}
use Rattle.kl_ho.specs.Plain.{decls_plainly, last_plainly}
use Rattle.kl_functions.specs.Known.{fields_in, functions_of}
use Rattle.kl_functions.proofs.programs.plain_program.Given as goal

abbrev pub invariant-defs : goal.invariant-defs
invariant-defs l = record {
  defs : onto decl_front l.made.items (decls_plainly (fields_in l.known) (decls_of (drop l.i l.defs)) (functions_of (take l.i l.known) l.sources))
      ≡ decls_plainly (fields_in l.known) (decls_of l.defs) (first_functions l.sources);
  last : last_plainly (fields_in l.known) (decls_of (drop l.i l.defs)) (view l.program.last) (functions_of (take l.i l.known) l.sources)
      ≡ last_plainly (fields_in l.known) (decls_of l.defs) (view l.program.last) (first_functions l.sources);
}
