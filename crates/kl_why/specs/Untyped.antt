-- Which part of a program has no type.
use Rattle.std.specs.Prelude.{◌≡◌, ℕ, List, ◌++◌, drop, take}
use Rattle.kl_type.specs.Ground.{Ground}
use Rattle.kl_lex.specs.declared.token.Token.{Token}
use Rattle.kl_syntax.specs.declared.tree.Program.{Program}
use Rattle.kl_scope.specs.Breaches.{Resolves}
use Rattle.kl_scope.specs.Senses.{Name}
use Rattle.kl_scope.specs.declared.scoped.Scoped.{Scoped}
use Rattle.kl_why.specs.Programs.{HasNoTyping, Spells}

-- the bytes are a program in scope without a typing
abbrev pub HasNoType : List Name → List (Name × Ground) → List ℕ → Type 0
HasNoType names grounds bytes =
    (ts : List Token) × (p : Program) × (s : Scoped) × (n : ℕ) × Spells bytes ts p × Resolves p names s × HasNoTyping grounds s n

-- this program has in it what stands at a byte of the text, of some length
abbrev pub HasPart : List ℕ → ℕ → List ℕ → Type 0
HasPart bytes byte program = (n : ℕ) × (front : List ℕ) × (back : List ℕ) × (program ≡ front ++ take n (drop byte bytes) ++ back)

-- a program that has in it what stands at this byte has no typing
abbrev pub IsUntyped : List Name → List (Name × Ground) → List ℕ → ℕ → Type 0
IsUntyped names grounds bytes byte = (program : List ℕ) × HasPart bytes byte program × HasNoType names grounds program
