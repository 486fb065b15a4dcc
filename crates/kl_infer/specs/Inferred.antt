-- The principal schemes of a program's declarations, and the first declaration that has none.
use Rattle.std.specs.Prelude.{◌≡◌, ◌↔◌, ◌⊎◌, ℕ, suc, List, [], ◌∷◌, map, Some}
use Rattle.kl_type.specs.Ground.{Ground, arrow, ground_of}
use Rattle.kl_type.specs.declared.Ty.{Ty}
use Rattle.kl_rows.specs.Places.{Sort, a_type, a_function, sort_at}
use Rattle.kl_rows.specs.Schemes.{IsScheme, Instance, cells_of}
use Rattle.kl_rows.specs.declared.Scheme.{Scheme}
use Rattle.kl_outcome.specs.Outcome.{Name}
use Rattle.kl_syntax.specs.Syntax.{Exp, Decls, no_decls, constant, function}
use Rattle.kl_meaning.specs.Typing.{KnownTypes, value_of, function_of, with_sort, types_at_first, Types, FunctionTypes}
use Rattle.kl_meaning.specs.Typing.{ProgramTypes, HasTyping}
use Rattle.kl_infer.specs.declared.typed.Typed.{Typed}

-- A scheme is principal for what has types: its instances are exactly these types, and there is one.
pub record IsPrincipal (sort : Sort) (scheme : Scheme) (P : Ground → Type 0) : Type 0 where
  pub good : IsScheme scheme
  pub sort_is : sort_at (cells_of scheme.nodes) scheme.root ≡ Some sort
  pub instances : (t : Ground) → Instance scheme t ↔ P t
  pub has_one : (t : Ground) × P t

-- a function's type is an arrow from what its parameter takes to what its body then has
abbrev pub IsArrow : (Ground → Ground → Type 0) → Ground → Type 0
IsArrow F t = (a : Ground) × (b : Ground) × (t ≡ arrow a b) × F a b

-- one scheme a definition, in their order, each over the definitions before it
abbrev pub HaveSchemes : Decls → KnownTypes → List Scheme → Type 0
HaveSchemes no_decls known schemes = schemes ≡ []
HaveSchemes (constant d e ds) known schemes =
    (first : Scheme) × (rest : List Scheme) × (schemes ≡ first ∷ rest) × IsPrincipal a_type first (Types e known [])
    × HaveSchemes ds (with_sort d.text (value_of (Types e known [])) known) rest
HaveSchemes (function d p e ds) known schemes =
    (first : Scheme) × (rest : List Scheme) × (schemes ≡ first ∷ rest) × IsPrincipal a_function first (IsArrow (FunctionTypes known p e))
    × HaveSchemes ds (with_sort d.text (function_of (FunctionTypes known p e)) known) rest

-- the types of sources as derivations see them
abbrev pub types_of : List (Name × Ty) → List (Name × Ground)
types_of sources = map (λ s. (s.0, ground_of s.1)) sources

-- a program's types: a principal scheme for each definition and for the last expression
pub record Infers (ds : Decls) (e : Exp) (sources : List (Name × Ground)) (typed : Typed) : Type 0 where
  pub schemes : HaveSchemes ds (types_at_first sources) typed.schemes
  pub result : IsPrincipal a_type typed.result (ProgramTypes ds e sources)
  pub has_typing : HasTyping ds e sources

-- the first declaration without a type, over the definitions before it; the last expression stands behind them
abbrev pub FailsAt : Decls → Exp → KnownTypes → ℕ → Type 0
FailsAt no_decls last known n = (n ≡ 0) × ((t : Ground) → Types last known [] t → ⊥)
FailsAt (constant d e ds) last known n =
    ((n ≡ 0) × ((t : Ground) → Types e known [] t → ⊥))
    ⊎ ((m : ℕ) × (n ≡ suc m) × ((t : Ground) × Types e known [] t)
    × FailsAt ds last (with_sort d.text (value_of (Types e known [])) known) m)
FailsAt (function d p e ds) last known n =
    ((n ≡ 0) × ((s : Ground) (t : Ground) → FunctionTypes known p e s t → ⊥))
    ⊎ ((m : ℕ) × (n ≡ suc m) × ((s : Ground) × (t : Ground) × FunctionTypes known p e s t)
    × FailsAt ds last (with_sort d.text (function_of (FunctionTypes known p e)) known) m)

-- the program has no typing, and this is its first declaration without one
pub record IsIllTyped (ds : Decls) (e : Exp) (sources : List (Name × Ground)) (n : ℕ) : Type 0 where
  pub fails : FailsAt ds e (types_at_first sources) n
  pub none : HasTyping ds e sources → ⊥
