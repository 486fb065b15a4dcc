-- Which programs with function parameters keep to the rules of names, and which breach is told of the others.
use Rattle.std.specs.Prelude.{List, [], ◌++◌}
use Rattle.std.specs.List.{Contains}
use Rattle.kl_outcome.specs.Outcome.{Name}
use Rattle.kl_syntax.specs.declared.tree.Program.{Program}
use Rattle.kl_syntax.specs.Syntax.{Exp, Decls}
use Rattle.kl_syntax.specs.View.{view, decls_of}
use Rattle.kl_scope.specs.declared.refusal.ScopeError.{ScopeError}
use Rattle.kl_scope.specs.declared.refusal.ScopeError.TheVariants.{NoMemory}
use Rattle.kl_scope.specs.Breaches.{NotAfter}
use Rattle.kl_scope.specs.Findings.{Finding, breach, findings, decls_findings, behind_decls}
use Rattle.kl_scope.specs.Senses.{at_first}
use Rattle.kl_ho.specs.Functions.{first_functions, AreFunctionFields}
use Rattle.kl_ho.specs.HoPrograms.{FunctionFields}
use Rattle.kl_ho.specs.Plain.{decls_plainly, last_plainly, CatchFunctions, HasNoBreach}
use Rattle.kl_functions.specs.declared.functions.Known.{Known}
use Rattle.kl_functions.specs.Known.{AreKnown, fields_in}

-- what the rules of names find in the program without its functions
abbrev pub plain_findings : FunctionFields → Decls → Exp → List Name → List Finding
plain_findings fields ds e sources =
    decls_findings (decls_plainly fields ds (first_functions sources)) (at_first sources)
    ++ findings (last_plainly fields ds e (first_functions sources)) (behind_decls (decls_plainly fields ds (first_functions sources)) (at_first sources))

-- by token, and on one token by the number of the rule
pub record IsFirstPlainBreach (fields : FunctionFields) (ds : Decls) (e : Exp) (sources : List Name) (x : ScopeError) : Type 0 where
  pub breaks : Contains (plain_findings fields ds e sources) (breach x)
  pub first : (y : ScopeError) → Contains (plain_findings fields ds e sources) (breach y) → NotAfter x y

-- no rule of names is broken, and these are the least function fields of the definitions; each of them catches a variable
pub record IsNamed (p : Program) (sources : List Name) (ks : List Known) : Type 0 where
  pub known : AreKnown sources [] ks p.defs
  pub least : AreFunctionFields (fields_in ks) (decls_of p.defs) sources
  pub catches : CatchFunctions (fields_in ks) (decls_of p.defs)
  pub no_breach : HasNoBreach (fields_in ks) (decls_of p.defs) (view p.last) sources

-- the first breach of the rules of names
abbrev pub IsNameBreach : Program → List Name → ScopeError → Type 0
IsNameBreach p sources x = (known : List Known) × AreKnown sources [] known p.defs × IsFirstPlainBreach (fields_in known) (decls_of p.defs) (view p.last) sources x

abbrev pub IsNameRefusal : Program → List Name → ScopeError → Type 0
IsNameRefusal p sources NoMemory = Unit {0}
IsNameRefusal p sources x = IsNameBreach p sources x
