-- Definitions and programs, walked.
use Rattle.std.proofs.Common.{◌≡◌, ℕ, ◌-◌, true, false, List, [], ◌∷◌, ◌++◌, length, take, drop, Option, Some, None, refl, sym, ap, subst, ◌∙◌}
use Rattle.kl_syntax.specs.declared.tree.Decl.{Decl}
use Rattle.kl_syntax.specs.declared.tree.Expr.{Expr}
use Rattle.kl_syntax.specs.declared.tree.Pattern.{Pattern}
use Rattle.kl_syntax.specs.declared.tree.Program.{Program}
use Rattle.kl_syntax.specs.declared.tree.Word.{Word}
use Rattle.kl_syntax.specs.Syntax.{Pat, Exp, Decls, no_decls, constant, function}
use Rattle.kl_syntax.specs.View.{view, pattern_view, decl_of, decls_of}
use Rattle.kl_scope.specs.declared.walk.Walk.{Walk}
use Rattle.kl_scope.specs.Senses.{Scope, defined}
use Rattle.kl_scope.specs.Patterns.{within}
use Rattle.kl_scope.specs.Findings.{taken, sure_findings, findings, decls_findings, behind_decls}
use Rattle.kl_scope.specs.Gathering.{gathered}
use Rattle.kl_scope.specs.Resolved.{resolved, resolved_decls}
use Rattle.kl_scope.specs.Walks.{Walked, Fronted, onto, decl_front, DeclWalk, DeclsWalk, ExprWalk, SureWalk, Bound, ProgramWalk}
use Rattle.kl_scope.proofs.ArmLemmas.{bound_walked}
use Rattle.kl_scope.proofs.FindingLemmas.{gathered_append}
use Rattle.kl_scope.proofs.WalkLemmas.{closed, put_back}

abbrev DeclFront : (Decls → Decls) → (Decls → Decls) → Walk → Walk → Type 0
DeclFront = Fronted resolved_decls decls_findings behind_decls

function_in_front : (l : Word) (p q : Pat) (e f : Exp) (w v y z : Walk) → v.names ≡ w.names → v.findings ≡ gathered w.findings (taken w.names l) → Bound p e q f v y → z.names ≡ defined y.names l.text true → z.findings ≡ y.findings
    → DeclFront (function l p e) (function l q f) w z
function_in_front l p q e f w v y z one told h names kept =
    let next : z.names ≡ defined w.names l.text true = names ∙ ap (λ (s : Scope). defined s l.text true) (h.scope ∙ one) in
    record {
      tree = λ rest. rw (h.pattern, h.body, one, next) refl;
      found = λ rest.
          gathered_append w.findings (taken w.names l) (sure_findings p w.names ++ (findings e (within p w.names) ++ decls_findings rest (defined w.names l.text true)))
          ∙ gathered_append (gathered w.findings (taken w.names l)) (sure_findings p w.names) (findings e (within p w.names) ++ decls_findings rest (defined w.names l.text true))
          ∙ gathered_append (gathered (gathered w.findings (taken w.names l)) (sure_findings p w.names)) (findings e (within p w.names)) (decls_findings rest (defined w.names l.text true))
          ∙ rw (kept, h.found, next, told, one) (ap (λ g. gathered g (decls_findings rest (defined w.names l.text true))) (sym (gathered_append (gathered w.findings (taken w.names l)) (sure_findings p w.names) (findings e (within p w.names)))));
      scope = λ rest. ap (behind_decls rest) (sym next);
    }

constant_in_front : (l : Word) (e f : Exp) (w v y z : Walk) → v.names ≡ w.names → v.findings ≡ gathered w.findings (taken w.names l) → ExprWalk e f v y → z.names ≡ defined y.names l.text false → z.findings ≡ y.findings
    → DeclFront (constant l e) (constant l f) w z
constant_in_front l e f w v y z one told h names kept =
    let next : z.names ≡ defined w.names l.text false = names ∙ ap (λ (s : Scope). defined s l.text false) (h.scope ∙ one) in
    record {
      tree = λ rest. rw (h.tree, one, next) refl;
      found = λ rest.
          gathered_append w.findings (taken w.names l) (findings e w.names ++ decls_findings rest (defined w.names l.text false))
          ∙ gathered_append (gathered w.findings (taken w.names l)) (findings e w.names) (decls_findings rest (defined w.names l.text false))
          ∙ rw (kept, h.found, next, told, one) refl;
      scope = λ rest. ap (behind_decls rest) (sym next);
    }

pub function_is : (d : Decl) (p q m : Pattern) (f : Expr) (depth : ℕ) (w v x y z : Walk) (last : Scope) → d.param ≡ Some p → m ≡ p → v.names ≡ w.names → v.findings ≡ gathered w.findings (taken w.names d.name) → depth ≡ length v.names.variables
    → SureWalk (pattern_view m) (pattern_view q) v x → ExprWalk (view d.body) (view f) x y → last ≡ record y.names { variables = drop (length y.names.variables - depth) y.names.variables }
    → z.names ≡ defined last d.name.text true → z.findings ≡ y.findings → DeclWalk d (record d { param = Some q; body = f }) w z
function_is d p q m f depth w v x y z last is pm one told deep s h left names kept =
    let sure : SureWalk (pattern_view p) (pattern_view q) v x = subst (λ (t : Pattern). SureWalk (pattern_view t) (pattern_view q) v x) pm s in
    subst (λ (o : Option Pattern). Fronted resolved_decls decls_findings behind_decls (decl_of o d) (decl_of (Some q) (record d { param = Some q; body = f })) w z) (sym is)
    (function_in_front d.name (pattern_view p) (pattern_view q) (view d.body) (view f) w v (record { alloc = y.alloc; names = last; findings = y.findings }) z one told
    (bound_walked (pattern_view p) (pattern_view q) (view d.body) (view f) depth v x y last deep sure h left) names kept)

pub constant_is : (d : Decl) (f : Expr) (w v y z : Walk) → d.param ≡ None → v.names ≡ w.names → v.findings ≡ gathered w.findings (taken w.names d.name) → ExprWalk (view d.body) (view f) v y
    → z.names ≡ defined y.names d.name.text false → z.findings ≡ y.findings → DeclWalk d (record d { body = f }) w z
constant_is d f w v y z is one told h names kept =
    subst (λ (o : Option Pattern). Fronted resolved_decls decls_findings behind_decls (decl_of o d) (decl_of o (record d { body = f })) w z) (sym is)
    (constant_in_front d.name (view d.body) (view f) w v y z one told h names kept)

decls_onto : (ds : List Decl) → onto decl_front ds no_decls ≡ decls_of ds
decls_onto [] = refl
decls_onto (d ∷ ds) = ap (decl_front d) (decls_onto ds)

program_walked : (p q : Program) (w v u : Walk) → DeclsWalk p.defs q.defs w v → ExprWalk (view p.last) (view q.last) v u → ProgramWalk p q w u
program_walked p q w v u k h =
    let walked : Walked resolved_decls decls_findings behind_decls (onto decl_front p.defs no_decls) (onto decl_front q.defs no_decls) w v =
    closed resolved_decls decls_findings behind_decls (onto decl_front p.defs) (onto decl_front q.defs) no_decls no_decls w v v k (record { tree = refl; found = refl; scope = refl }) in
    let next : v.names ≡ behind_decls (decls_of p.defs) w.names = walked.scope ∙ ap (λ ds. behind_decls ds w.names) (decls_onto p.defs) in
    let told : v.findings ≡ gathered w.findings (decls_findings (decls_of p.defs) w.names) = walked.found ∙ ap (λ ds. gathered w.findings (decls_findings ds w.names)) (decls_onto p.defs) in
    record {
      defs = sym (decls_onto q.defs) ∙ walked.tree ∙ ap (λ ds. resolved_decls ds w.names) (decls_onto p.defs);
      last = h.tree ∙ ap (resolved (view p.last)) next;
      found = h.found ∙ rw (told, next) (sym (gathered_append w.findings (decls_findings (decls_of p.defs) w.names) (findings (view p.last) (behind_decls (decls_of p.defs) w.names))));
      scope = h.scope ∙ next;
    }

pub program_is : (p : Program) (zs ds : List Decl) (e : Expr) (w v u : Walk) → zs ≡ p.defs → length ds ≡ length zs → DeclsWalk zs ds w v → ExprWalk (view p.last) (view e) v u
    → ProgramWalk p (record { defs = take (length p.defs) (ds ++ drop (length ds) p.defs); last = e }) w u
program_is p zs ds e w v u same long k h =
    rw (put_back p.defs ds (long ∙ ap length same)) (program_walked p (record { defs = ds; last = e }) w v u (subst (λ (t : List Decl). DeclsWalk t ds w v) same k) h)
