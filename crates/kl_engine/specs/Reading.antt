-- Which bytes are a program in scope over sources of these names, and with what fault others are refused.
use Rattle.std.specs.Prelude.{◌≡◌, ◌⊎◌, ⊤, ℕ, List, length, Err, Result, Ok}
use Rattle.std.specs.List.{slice_get}
use Rattle.std.specs.Option.{option_map, unwrap_or}
use Rattle.kl_lex.specs.Lexing.{Tokens, Refused}
use Rattle.kl_lex.specs.declared.token.Token.{Token}
use Rattle.kl_parse.specs.Parsing.{IsProgram, IsSyntaxPlace, IsDeepPlace}
use Rattle.kl_syntax.specs.declared.tree.Program.{Program}
use Rattle.kl_syntax.specs.Syntax.{Decls, Exp}
use Rattle.kl_syntax.specs.View.{view, decls_of}
use Rattle.kl_scope.specs.Breaches.{InScope, IsFirstBreach, Resolves}
use Rattle.kl_scope.specs.Findings.{behind_decls}
use Rattle.kl_scope.specs.Resolved.{resolved, resolved_decls}
use Rattle.kl_scope.specs.Senses.{Name, at_first}
use Rattle.kl_scope.specs.declared.scoped.Scoped.{Scoped}
use Rattle.kl_scope.specs.declared.refusal.ScopeError.{ScopeError}
use Rattle.kl_scope.specs.declared.refusal.ScopeError.TheVariants.{Unknown, Twice, Misapplied, Refutable, NoMemory}
use Rattle.kl_engine.specs.declared.fault.Fault.{Fault}
use Rattle.kl_engine.specs.declared.fault.Fault.TheVariants as fault
use Rattle.kl_engine.specs.declared.fault.Wrong.TheVariants as wrong

-- the first byte of the token of this number, or the end of the text where there is none
abbrev pub byte_of : List Token → ℕ → ℕ → ℕ
byte_of ts number end = unwrap_or (option_map (λ t. t.from) (slice_get ts number)) end

-- how a breach of the rules of scope is told, in a text of these tokens and so many bytes
abbrev pub scope_fault : List Token → ℕ → ScopeError → Fault
scope_fault ts size (Unknown name token) = fault.Text (wrong.Unknown name) (byte_of ts token size)
scope_fault ts size (Twice name token) = fault.Text (wrong.Twice name) (byte_of ts token size)
scope_fault ts size (Misapplied name token) = fault.Text (wrong.Misapplied name) (byte_of ts token size)
scope_fault ts size (Refutable token) = fault.Text wrong.Refutable (byte_of ts token size)
scope_fault ts size NoMemory = fault.NoMemory

-- want of memory is no breach
abbrev pub IsBreach : ScopeError → Type 0
IsBreach NoMemory = ⊥
IsBreach e = ⊤

-- the tokens are a program that breaks a rule of scope, and this is its first breach
abbrev pub IsScopeFault : List Name → List Token → ℕ → Fault → Type 0
IsScopeFault names ts size f = (p : Program) × (e : ScopeError) × IsProgram ts p × IsBreach e × IsFirstBreach p names e
    × (f ≡ scope_fault ts size e)

-- the tokens break a rule of scope; or at a place no program goes on; or with the token there none that nests at most 256
-- deep
abbrev pub IsTokensFault : List Name → List Token → ℕ → Fault → Type 0
IsTokensFault names ts size f =
    IsScopeFault names ts size f
    ⊎ ((k : ℕ) × IsSyntaxPlace ts k × (f ≡ fault.Text wrong.Syntax (byte_of ts k size)))
    ⊎ ((k : ℕ) × IsDeepPlace ts k × (f ≡ fault.Nesting))

-- the bytes are no program in scope, and this is what is told of them
abbrev pub IsTextFault : List Name → List ℕ → Fault → Type 0
IsTextFault names bytes f =
    ((ts : List Token) × Tokens bytes ts × IsTokensFault names ts (length bytes) f)
    ⊎ ((byte : ℕ) × Refused bytes byte × (f ≡ fault.Text wrong.NoToken byte))

-- the bytes are this program, and it keeps to the rules of scope
pub record IsProgramOf (names : List Name) (bytes : List ℕ) (p : Program) : Type 0 where
  pub tokens : List Token
  pub lexed : Tokens bytes tokens
  pub spelled : IsProgram tokens p
  pub in_scope : InScope p names

-- its definitions and its last expression, where each name carries what it means
abbrev pub definitions : List Name → Program → Decls
definitions names p = resolved_decls (decls_of p.defs) (at_first names)

abbrev pub last : List Name → Program → Exp
last names p = resolved (view p.last) (behind_decls (decls_of p.defs) (at_first names))

-- What reading answers: the program in scope with what its names mean, a fault of the text, or want of memory. No public
-- contract cites this.
abbrev pub ReadsText : List Name → List ℕ → Result Scoped Fault → Type 0
ReadsText names bytes (Ok s) = (p : Program) × IsProgramOf names bytes p × Resolves p names s
ReadsText names bytes (Err f) = (f ≡ fault.NoMemory) ⊎ IsTextFault names bytes f

-- the program was in scope before its names carried what they mean; no public contract cites this
abbrev pub WasInScope : List Name → Scoped → Type 0
WasInScope names s = (p : Program) × Resolves p names s
