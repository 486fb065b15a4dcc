-- What is wrong with the text of a program.
use Rattle.std.specs.Prelude.{◌≡◌, ℕ, List, length, Some, None, Result, Ok, Err, ⊤}
use Rattle.kl_type.specs.Ground.{Ground}
use Rattle.kl_lex.specs.Lexing.{Tokens, Refused}
use Rattle.kl_lex.specs.declared.token.Token.{Token}
use Rattle.kl_syntax.specs.View.{view, decls_of}
use Rattle.kl_syntax.specs.declared.tree.Program.{Program}
use Rattle.kl_parse.specs.Parsing.{IsProgram, IsSyntaxPlace, IsDeepPlace}
use Rattle.kl_scope.specs.Breaches.{IsFirstBreach, Resolves}
use Rattle.kl_scope.specs.Limits.{Tells, program_sizes}
use Rattle.kl_scope.specs.Senses.{Name}
use Rattle.kl_scope.specs.declared.counting.SizeBreach.TheVariants as size
use Rattle.kl_scope.specs.declared.refusal.ScopeError.{ScopeError}
use Rattle.kl_scope.specs.declared.refusal.ScopeError.TheVariants as breach
use Rattle.kl_scope.specs.declared.scoped.Scoped.{Scoped}
use Rattle.kl_infer.specs.Inferred.{Infers, IsIllTyped}
use Rattle.kl_infer.specs.declared.typed.Typed.{Typed}
use Rattle.kl_why.specs.Tokens.{part_byte, token_byte}
use Rattle.kl_why.specs.declared.program.Read.{Read}
use Rattle.kl_why.specs.declared.wrong.Refusal.{Refusal}
use Rattle.kl_why.specs.declared.wrong.Refusal.TheVariants as refusal
use Rattle.kl_why.specs.declared.wrong.Wrong.{Wrong}
use Rattle.kl_why.specs.declared.wrong.Wrong.TheVariants as wrong

-- the bytes are this program
pub record Spells (bytes : List ℕ) (ts : List Token) (p : Program) : Type 0 where
  pub tokens : Tokens bytes ts
  pub program : IsProgram ts p

-- the bytes are a program whose first breach of the rules of scope is this one, at the token of this byte
abbrev pub Breaks : List Name → List ℕ → (ℕ → ScopeError) → ℕ → Type 0
Breaks names bytes e byte =
    (ts : List Token) × (p : Program) × (k : ℕ)
    × Spells bytes ts p × IsFirstBreach p names (e k) × (byte ≡ token_byte (length bytes) ts k)

-- the bytes are a program in scope, of which this holds for the declaration that begins at this byte
abbrev pub FailsAt : List Name → List ℕ → (Scoped → ℕ → Type 0) → ℕ → Type 0
FailsAt names bytes Fails byte =
    (ts : List Token) × (p : Program) × (s : Scoped) × (n : ℕ)
    × Spells bytes ts p × Resolves p names s × Fails s n × (byte ≡ part_byte (length bytes) ts n)

-- the program has no typing over sources of these types, and this is its first declaration without one
abbrev pub HasNoTyping : List (Name × Ground) → Scoped → ℕ → Type 0
HasNoTyping grounds s n = IsIllTyped (decls_of s.program.defs) (view s.program.last) grounds n

-- what is wrong with the text of a program over sources of these names and types, and at which byte
abbrev pub IsWrong : List Name → List (Name × Ground) → List ℕ → Wrong → ℕ → Type 0
IsWrong names grounds bytes wrong.NoToken byte = Refused bytes byte
IsWrong names grounds bytes wrong.Syntax byte = (ts : List Token) × (k : ℕ) × Tokens bytes ts × IsSyntaxPlace ts k × (byte ≡ token_byte (length bytes) ts k)
IsWrong names grounds bytes wrong.Nesting byte = (ts : List Token) × (k : ℕ) × Tokens bytes ts × IsDeepPlace ts k × (byte ≡ token_byte (length bytes) ts k)
IsWrong names grounds bytes (wrong.Unknown name) byte = Breaks names bytes (λ k. breach.Unknown name k) byte
IsWrong names grounds bytes (wrong.Twice name) byte = Breaks names bytes (λ k. breach.Twice name k) byte
IsWrong names grounds bytes (wrong.Misapplied name) byte = Breaks names bytes (λ k. breach.Misapplied name k) byte
IsWrong names grounds bytes wrong.Refutable byte = Breaks names bytes (λ k. breach.Refutable k) byte
IsWrong names grounds bytes wrong.TermNodes byte = FailsAt names bytes (λ s n. Tells (Some (size.Nodes n)) (program_sizes s.program)) byte
IsWrong names grounds bytes wrong.TermDepth byte = FailsAt names bytes (λ s n. Tells (Some (size.Depth n)) (program_sizes s.program)) byte
IsWrong names grounds bytes wrong.NoTyping byte = FailsAt names bytes (HasNoTyping grounds) byte
IsWrong names grounds bytes w byte = ⊥

-- nothing is wrong: the bytes are a program in scope, no term of which is too large, and it has types
pub record IsWell (names : List Name) (grounds : List (Name × Ground)) (bytes : List ℕ) (s : Scoped) : Type 0 where
  pub tokens : List Token
  pub program : Program
  pub spells : Spells bytes tokens program
  pub resolves : Resolves program names s
  pub sizes : Tells None (program_sizes s.program)
  pub types : (typed : Typed) × Infers (decls_of s.program.defs) (view s.program.last) grounds typed

-- ---- for private functions alone

abbrev pub Reads : List Name → List (Name × Ground) → List ℕ → Result Scoped Refusal → Type 0
Reads names grounds bytes (Ok s) = IsWell names grounds bytes s
Reads names grounds bytes (Err (refusal.Wrong w byte)) = IsWrong names grounds bytes w byte
Reads names grounds bytes (Err refusal.NoMemory) = ⊤

-- how a breach of the rules of scope is told, in a text of so many bytes and these tokens
abbrev pub scope_refusal : ℕ → List Token → ScopeError → Refusal
scope_refusal total ts (breach.Unknown name k) = refusal.Wrong (wrong.Unknown name) (token_byte total ts k)
scope_refusal total ts (breach.Twice name k) = refusal.Wrong (wrong.Twice name) (token_byte total ts k)
scope_refusal total ts (breach.Misapplied name k) = refusal.Wrong (wrong.Misapplied name) (token_byte total ts k)
scope_refusal total ts (breach.Refutable k) = refusal.Wrong wrong.Refutable (token_byte total ts k)
scope_refusal total ts breach.NoMemory = refusal.NoMemory

-- whatever types the sources have
abbrev pub ReadsScope : List Name → List ℕ → Result Read Refusal → Type 0
ReadsScope names bytes (Ok r) = (p : Program) × Spells bytes r.tokens p × Resolves p names r.scoped
ReadsScope names bytes (Err (refusal.Wrong w byte)) = (grounds : List (Name × Ground)) → IsWrong names grounds bytes w byte
ReadsScope names bytes (Err refusal.NoMemory) = ⊤

-- what is wrong with the declaration of a number
abbrev pub IsUnfit : List (Name × Ground) → Scoped → Wrong → ℕ → Type 0
IsUnfit grounds s wrong.TermNodes n = Tells (Some (size.Nodes n)) (program_sizes s.program)
IsUnfit grounds s wrong.TermDepth n = Tells (Some (size.Depth n)) (program_sizes s.program)
IsUnfit grounds s wrong.NoTyping n = HasNoTyping grounds s n
IsUnfit grounds s w n = ⊥

abbrev pub IsTyped : List (Name × Ground) → Scoped → Type 0
IsTyped grounds s = (typed : Typed) × Infers (decls_of s.program.defs) (view s.program.last) grounds typed

abbrev pub UnfitAt : ℕ → List Token → List (Name × Ground) → Scoped → Wrong → ℕ → Type 0
UnfitAt total ts grounds s w byte = (n : ℕ) × IsUnfit grounds s w n × (byte ≡ part_byte total ts n)

abbrev pub JudgesTypes : ℕ → List Token → List (Name × Ground) → Scoped → Result (Unit {0}) Refusal → Type 0
JudgesTypes total ts grounds s (Ok done) = IsTyped grounds s
JudgesTypes total ts grounds s (Err (refusal.Wrong w byte)) = UnfitAt total ts grounds s w byte
JudgesTypes total ts grounds s (Err refusal.NoMemory) = ⊤

abbrev pub Judges : ℕ → List Token → List (Name × Ground) → Scoped → Result (Unit {0}) Refusal → Type 0
Judges total ts grounds s (Ok done) = Tells None (program_sizes s.program) × IsTyped grounds s
Judges total ts grounds s (Err (refusal.Wrong w byte)) = UnfitAt total ts grounds s w byte
Judges total ts grounds s (Err refusal.NoMemory) = ⊤
