use Rattle.std.proofs.Common.{◌≡◌, ℕ, ◌≤◌, length, get_or, take}
use Rattle.kl_syntax.specs.declared.tree.Decl.{Decl}
use Rattle.kl_scope.specs.Walks.{DeclsWalk}
use Rattle.kl_scope.proofs.walk.Walk.decls.Given as goal

abbrev pub invariant-loop-i : goal.invariant-loop-i
invariant-loop-i l = record {
  unvisited : (length l.decls ≡ length l.initial.decls) × ((k : ℕ) (d : Decl) → l.i ≤ k → get_or l.decls k d ≡ get_or l.initial.decls k d);
  walked : DeclsWalk (take l.i l.initial.decls) (take l.i l.decls) l.initial.self l.self;
}
