-- One declaration over the definitions before it. No public contract cites this.
use Rattle.std.specs.Prelude.{◌≡◌, ℕ, List, [], Option, Some, None, Result, MatchResult, ⊤}
use Rattle.std.specs.List.{AllByRecursion}
use Rattle.kl_base.specs.Fields.{field}
use Rattle.kl_type.specs.Ground.{Ground, ground_of}
use Rattle.kl_type.specs.declared.Ty.{Ty}
use Rattle.kl_outcome.specs.Outcome.{Name}
use Rattle.kl_rows.specs.declared.Scheme.{Scheme}
use Rattle.kl_rows.specs.Places.{a_type, a_function}
use Rattle.kl_syntax.specs.declared.tree.Decl.{Decl}
use Rattle.kl_syntax.specs.declared.tree.Pattern.{Pattern}
use Rattle.kl_syntax.specs.View.{view, pattern_view}
use Rattle.kl_meaning.specs.Typing.{KnownTypes, Types, FunctionTypes}
use Rattle.kl_infer.specs.Asking.{OnNoType}
use Rattle.kl_infer.specs.Inferred.{IsPrincipal, IsArrow}
use Rattle.kl_infer.specs.declared.refusal.Refusal.{Refusal}
use Rattle.kl_infer.specs.declared.refusal.Refusal.TheVariants.{NoType, NoMemory as WantOfMemory}
use Rattle.kl_infer.specs.declared.inference.InferError.{InferError}
use Rattle.kl_infer.specs.declared.inference.InferError.TheVariants.{IllTyped, NoMemory}

-- the scheme is principal for it
abbrev pub Declared : Option Pattern → Decl → KnownTypes → Scheme → Type 0
Declared (Some q) d known scheme = IsPrincipal a_function scheme (IsArrow (FunctionTypes known (pattern_view q) (view d.body)))
Declared None d known scheme = IsPrincipal a_type scheme (Types (view d.body) known [])

-- it has no type
abbrev pub HasNoType : Option Pattern → Decl → KnownTypes → Type 0
HasNoType (Some q) d known = (s t : Ground) → FunctionTypes known (pattern_view q) (view d.body) s t → ⊥
HasNoType None d known = (t : Ground) → Types (view d.body) known [] t → ⊥

-- a scheme for all types that P says, or a refusal where there is none
abbrev pub Concluded : Result Scheme Refusal → (Ground → Type 0) → Type 0
Concluded result P = MatchResult result (λ p. IsPrincipal a_type p P) (λ refusal. OnNoType refusal ((t : Ground) → P t → ⊥))

-- the scheme of the first source of a name
abbrev pub IsMade : List (Name × Ty) → Name × Scheme → Type 0
IsMade sources m = (t : Ty) × (field m.0 sources ≡ Some t) × IsPrincipal a_type m.1 (λ u. ground_of t ≡ u)

abbrev pub AreMade : List (Name × Ty) → List (Name × Scheme) → Type 0
AreMade sources made = AllByRecursion (IsMade sources) made

-- the declaration at this place is refused, or want of memory
abbrev pub IsAt : ℕ → Refusal → InferError → Type 0
IsAt place NoType (IllTyped n) = n ≡ place
IsAt place WantOfMemory (IllTyped n) = ⊥
IsAt place refusal NoMemory = ⊤
