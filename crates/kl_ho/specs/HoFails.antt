-- Programs some of whose definitions have function fields: the first declaration without a type.
use Rattle.std.specs.Prelude.{◌≡◌, ◌⊎◌, ℕ, zero, suc, List, [], Option, Some, None}
use Rattle.kl_type.specs.Ground.{Ground}
use Rattle.kl_outcome.specs.Outcome.{Name}
use Rattle.kl_syntax.specs.Syntax.{Exp, Decls, no_decls, constant, function}
use Rattle.kl_meaning.specs.Typing.{KnownTypes, types_at_first, with_sort}
use Rattle.kl_meaning.specs.Typing as sort
use Rattle.kl_ho.specs.Highers.{Higher, Highers}
use Rattle.kl_ho.specs.HoTyping.{HoTypes}
use Rattle.kl_ho.specs.HoPrograms.{FunctionFields, higher_from, no_highers, with_higher, HoFunctionTypes, sorts_unless, HoHasTyping}

-- it is here, or this one has a type and it is one of those behind
abbrev pub HereOr : Type 0 → Type 0 → (ℕ → Type 0) → ℕ → Type 0
HereOr Untyped Typed Behind n = ((n ≡ 0) × Untyped) ⊎ ((m : ℕ) × (n ≡ suc m) × Typed × Behind m)

-- it is one of those behind
abbrev pub Later : (ℕ → Type 0) → ℕ → Type 0
Later Behind n = (m : ℕ) × (n ≡ suc m) × Behind m

-- a definition with function fields needs no type by itself
abbrev pub HereUnless : Option Higher → Type 0 → Type 0 → (ℕ → Type 0) → ℕ → Type 0
HereUnless (Some h) Untyped Typed Behind n = Later Behind n
HereUnless None Untyped Typed Behind n = HereOr Untyped Typed Behind n

-- the first declaration without a type, over the definitions before it; the last expression stands behind them
abbrev pub HoFailsAt : FunctionFields → Decls → Exp → Highers → KnownTypes → ℕ → Type 0
HoFailsAt fields no_decls last highers known n = (n ≡ 0) × ((t : Ground) → HoTypes highers [] known last [] t → ⊥)
HoFailsAt fields (constant d a ds) last highers known n =
    HereOr ((t : Ground) → HoTypes highers [] known a [] t → ⊥) ((t : Ground) × HoTypes highers [] known a [] t)
    (λ m. HoFailsAt fields ds last highers (with_sort d.text (sort.value_of (HoTypes highers [] known a [])) known) m) n
HoFailsAt fields (function d p a ds) last highers known n =
    HereUnless (higher_from (fields d.text) p a) ((s : Ground) (t : Ground) → HoFunctionTypes highers known p a s t → ⊥)
    ((s : Ground) × (t : Ground) × HoFunctionTypes highers known p a s t)
    (λ m. HoFailsAt fields ds last (with_higher d.text (higher_from (fields d.text) p a) highers)
    (sorts_unless (higher_from (fields d.text) p a) (with_sort d.text (sort.function_of (HoFunctionTypes highers known p a)) known) known) m) n

-- the program has no typing, and this is its first declaration without one
pub record IsHoIllTyped (fields : FunctionFields) (ds : Decls) (e : Exp) (sources : List (Name × Ground)) (n : ℕ) : Type 0 where
  pub fails : HoFailsAt fields ds e no_highers (types_at_first sources) n
  pub none : HoHasTyping fields ds e sources → ⊥

-- the number, among all declarations, of one of those that an expansion keeps
abbrev pub first_or : ℕ → (ℕ → ℕ) → ℕ
first_or zero behind = zero
first_or (suc k) behind = suc (behind k)

abbrev pub number_unless : Option Higher → ℕ → (ℕ → ℕ) → ℕ
number_unless (Some h) k behind = suc (behind k)
number_unless None k behind = first_or k behind

abbrev pub given_number : FunctionFields → Decls → ℕ → ℕ
given_number fields no_decls k = k
given_number fields (constant d a ds) k = first_or k (λ m. given_number fields ds m)
given_number fields (function d p a ds) k = number_unless (higher_from (fields d.text) p a) k (λ m. given_number fields ds m)
