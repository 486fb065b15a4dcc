-- What `expand` answers of a program that keeps to the rules: the numbers of the declarations that are left, or the first declaration
-- whose expansion has more than 4,096 expressions.
use Rattle.std.specs.Prelude.{◌≡◌, ℕ, suc, zero, ◌<◌, ◌≤◌, List, [], ◌∷◌, Option, Some, None, ⊤}
use Rattle.kl_syntax.specs.Syntax.{Exp, Decls, no_decls, constant, function}
use Rattle.kl_ho.specs.declared.expanded.ExpandError.{ExpandError}
use Rattle.kl_ho.specs.declared.expanded.ExpandError.TheVariants.{TooBig, NoMemory}
use Rattle.kl_ho.specs.Expansion.{IsExpansionAt}
use Rattle.kl_ho.specs.Highers.{Higher, Highers}
use Rattle.kl_ho.specs.HoPrograms.{FunctionFields, higher_from, with_higher, no_highers}
use Rattle.kl_ho.specs.Nodes.{nodes}

-- an expansion has too many expressions, or not; all expansions have equally many
abbrev pub IsBig : Highers → Exp → Type 0
IsBig highers a = (n : ℕ) × (x : Exp) × IsExpansionAt n highers [] a x × (4096 < nodes x)

abbrev pub IsSmall : Highers → Exp → Type 0
IsSmall highers a = (n : ℕ) × (x : Exp) × IsExpansionAt n highers [] a x × (nodes x ≤ 4096)

-- a declaration is the one, or small, and a later one is
abbrev pub HereOrLater : Highers → Exp → (ℕ → Type 0) → ℕ → Type 0
HereOrLater highers a later zero = IsBig highers a
HereOrLater highers a later (suc k) = IsSmall highers a × later k

abbrev pub Later : (ℕ → Type 0) → ℕ → Type 0
Later later zero = ⊥
Later later (suc k) = later k

-- a definition with function fields is dropped, and is none of them
abbrev pub ByDropped : Option Higher → Type 0 → Type 0 → Type 0
ByDropped (Some h) P Q = P
ByDropped None P Q = Q

-- the declaration of this number, from 0, is the first that is too big; the last expression stands behind all definitions
abbrev pub IsFirstBig : FunctionFields → Decls → Exp → Highers → ℕ → Type 0
IsFirstBig fields no_decls e highers k = (k ≡ 0) × IsBig highers e
IsFirstBig fields (constant d a ds) e highers k = HereOrLater highers a (IsFirstBig fields ds e highers) k
IsFirstBig fields (function d p a ds) e highers k =
    ByDropped (higher_from (fields d.text) p a) (Later (IsFirstBig fields ds e (with_higher d.text (higher_from (fields d.text) p a) highers)) k)
    (HereOrLater highers a (IsFirstBig fields ds e (with_higher d.text (higher_from (fields d.text) p a) highers)) k)

abbrev pub IsRefusal : FunctionFields → Decls → Exp → ExpandError → Type 0
IsRefusal fields ds e (TooBig k) = IsFirstBig fields ds e no_highers k
IsRefusal fields ds e NoMemory = ⊤

-- the numbers of the definitions that are left, from k, and that of the last expression
abbrev pub left_by : Option Higher → ℕ → List ℕ → List ℕ
left_by None k ks = k ∷ ks
left_by (Some h) k ks = ks

abbrev pub left_in : FunctionFields → Decls → ℕ → List ℕ
left_in fields no_decls k = k ∷ []
left_in fields (constant d a ds) k = k ∷ left_in fields ds (suc k)
left_in fields (function d p a ds) k = left_by (higher_from (fields d.text) p a) k (left_in fields ds (suc k))

-- the expressions of the declarations
abbrev pub bodies : Decls → Exp → List Exp
bodies no_decls e = e ∷ []
bodies (constant d a ds) e = a ∷ bodies ds e
bodies (function d p a ds) e = a ∷ bodies ds e
