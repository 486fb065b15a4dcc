-- Which programs are in scope, and which breach is told of the others.
use Rattle.std.specs.Prelude.{◌≡◌, ℕ, ◌<◌, ◌≤◌, ◌⊎◌, ◌↔◌, Bool, false, IsTrue, List, ◌++◌, length, get_or}
use Rattle.std.specs.List.{Contains}
use Rattle.kl_syntax.specs.declared.tree.Program.{Program}
use Rattle.kl_syntax.specs.View.{view, decls_of}
use Rattle.kl_scope.specs.declared.refusal.ScopeError.{ScopeError}
use Rattle.kl_scope.specs.declared.refusal.ScopeError.TheVariants.{NoMemory}
use Rattle.kl_scope.specs.declared.scoped.Scoped.{Scoped}
use Rattle.kl_scope.specs.Senses.{Name, at_first}
use Rattle.kl_scope.specs.Findings.{Finding, breach, mention, findings, decls_findings, behind_decls}
use Rattle.kl_scope.specs.Ranks.{token_of, rule_of}
use Rattle.kl_scope.specs.Resolved.{resolved, resolved_decls}

abbrev pub program_findings : Program → List Name → List Finding
program_findings p sources = decls_findings (decls_of p.defs) (at_first sources)
    ++ findings (view p.last) (behind_decls (decls_of p.defs) (at_first sources))

abbrev pub Breaks : Program → List Name → ScopeError → Type 0
Breaks p sources e = Contains (program_findings p sources) (breach e)

-- nothing in the program breaks a rule of scope
abbrev pub InScope : Program → List Name → Type 0
InScope p sources = (e : ScopeError) → Breaks p sources e → ⊥

-- the source of this number is named anywhere
abbrev pub Mentions : Program → List Name → ℕ → Type 0
Mentions p sources i = Contains (program_findings p sources) (mention i)

-- by token, and on one token by the number of the rule
abbrev pub NotAfter : ScopeError → ScopeError → Type 0
NotAfter e f = (token_of e < token_of f) ⊎ (token_of e ≡ token_of f) × (rule_of e ≤ rule_of f)

-- a breach of the program, and none stands before it
pub record IsFirstBreach (p : Program) (sources : List Name) (e : ScopeError) : Type 0 where
  pub breaks : Breaks p sources e
  pub first : (f : ScopeError) → Breaks p sources f → NotAfter e f

abbrev pub is_marked : Scoped → ℕ → Bool
is_marked s i = get_or s.mentioned.items i false

-- the program is in scope, and this is it with its meanings
pub record Resolves (p : Program) (sources : List Name) (s : Scoped) : Type 0 where
  pub in_scope : InScope p sources
  pub defs : decls_of s.program.defs ≡ resolved_decls (decls_of p.defs) (at_first sources)
  pub last : view s.program.last ≡ resolved (view p.last) (behind_decls (decls_of p.defs) (at_first sources))
  pub sources_kept : s.sources ≡ sources
  pub marks : (i : ℕ) → i < length sources → IsTrue (is_marked s i) ↔ Mentions p sources i
  -- there is no source of any other number
  pub no_more : (i : ℕ) → length sources ≤ i → is_marked s i ≡ false

abbrev pub IsRefusal : Program → List Name → ScopeError → Type 0
IsRefusal p sources NoMemory = Unit {0}
IsRefusal p sources e = IsFirstBreach p sources e
