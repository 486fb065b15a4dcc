-- What names stand for. No public contract cites this.
use Rattle.std.specs.Prelude.{◌≡◌, ℕ, List, [], ◌∷◌, cond, Option, Some, None, ⊤}
use Rattle.std.specs.List.{AllByRecursion}
use Rattle.kl_base.specs.Fields.{field}
use Rattle.kl_type.specs.Ground.{Ground, IsProper, arrow, ground_of}
use Rattle.kl_type.specs.declared.Ty.{Ty}
use Rattle.kl_rows.specs.Lists.{Fields}
use Rattle.kl_rows.specs.Places.{a_type, a_function, sort_at, IsFine, IsType, AreTypes}
use Rattle.kl_rows.specs.Schemes.{IsScheme, Instance, cells_of}
use Rattle.kl_rows.specs.declared.Scheme.{Scheme}
use Rattle.kl_outcome.specs.Outcome.{Name}
use Rattle.kl_syntax.specs.declared.tree.Decl.{Decl}
use Rattle.kl_syntax.specs.declared.tree.Pattern.{Pattern}
use Rattle.kl_meaning.specs.Match.{same_name}
use Rattle.kl_meaning.specs.Run.{code_named}
use Rattle.kl_syntax.specs.Syntax.{Pats, no_pats, pats, Branches, no_branches, branch}
use Rattle.kl_meaning.specs.Typing.{Sort, nothing, value_of, function_of, primitive, Context, NameTypes, Takes, Types}
use Rattle.kl_rows.specs.declared.cell.Cell.{Cell}
use Rattle.kl_infer.specs.Asking.{onto}
use Rattle.kl_infer.specs.declared.scope.Scope.{Scope}
use Rattle.kl_infer.specs.declared.scope.Scope.TheVariants.{Empty, Block'}
use Rattle.kl_infer.specs.declared.scope.Known.{Known}
use Rattle.kl_infer.specs.declared.scope.Sense.{Sense}
use Rattle.kl_infer.specs.declared.scope.Sense.TheVariants as sense

-- the variables in scope, the innermost first
abbrev pub names : Scope → Fields
names Empty = []
names (Block' b p rest) = onto b.now (names rest)

-- the last of these of the name, or else this
abbrev pub last_from : Name → Fields → Option ℕ → Option ℕ
last_from x [] o = o
last_from x (b ∷ bs) o = last_from x bs (cond (same_name x b.0) (Some b.1) o)

-- what a name stands for that is no variable
pub data Meant : Type 0 where
  no_sense : Meant
  by_value : Scheme → Meant
  by_function : Scheme → Meant
  by_source : Ty → Meant
  by_code : ℕ → Meant

abbrev pub meant_of : Sense → Meant
meant_of sense.Nothing = no_sense
meant_of (sense.Value s) = by_value s.now
meant_of (sense.Function s) = by_function s.now
meant_of (sense.Source t) = by_source t.now
meant_of (sense.Primitive c) = by_code c

-- a fact of the code of a primitive
abbrev pub IfCode : Meant → (ℕ → Type 0) → Type 0
IfCode (by_code c) P = P c
IfCode _ P = ⊤

abbrev pub defined : Option Pattern → Scheme → Meant
defined (Some p) s = by_function s
defined None s = by_value s

-- definitions with their schemes hide what stood before
abbrev pub meant_over : Name → List Decl → List Scheme → Meant → Meant
meant_over x (d ∷ ds) (s ∷ ss) m = meant_over x ds ss (cond (same_name x d.name.text) (defined d.param s) m)
meant_over x _ _ m = m

abbrev pub by_maybe_code : Option ℕ → Meant
by_maybe_code (Some c) = by_code c
by_maybe_code None = no_sense

abbrev pub by_maybe_source : Option Ty → Meant → Meant
by_maybe_source (Some t) m = by_source t
by_maybe_source None m = m

-- the first source of the name, or else the primitive
abbrev pub meant_first : Name → List (Name × Ty) → Meant
meant_first x sources = by_maybe_source (field x sources) (by_maybe_code (code_named x))

abbrev pub meant : Known → Name → Meant
meant k x = meant_over x k.defs.now k.schemes.now (meant_first x k.sources.now)

-- the types of a name by the schemes
abbrev pub sort_of : Meant → Sort
sort_of no_sense = nothing
sort_of (by_value s) = value_of (λ t. Instance s t)
sort_of (by_function s) = function_of (λ a b. Instance s (arrow a b))
sort_of (by_source t) = value_of (λ u. ground_of t ≡ u)
sort_of (by_code c) = primitive c

abbrev pub sorts : Known → Name → Sort
sorts k x = sort_of (meant k x)

abbrev pub IsGood : Meant → Type 0
IsGood no_sense = Unit {0}
IsGood (by_value s) = IsScheme s × (sort_at (cells_of s.nodes) s.root ≡ Some a_type) × ((t : Ground) × Instance s t)
IsGood (by_function s) = IsScheme s × (sort_at (cells_of s.nodes) s.root ≡ Some a_function)
IsGood (by_source t) = IsProper t
IsGood (by_code c) = Unit {0}

-- schemes are of the right sorts, and so are the numbers of the variables and these
pub record Ready (known : Known) (cells : List Cell) (ns : Fields) (ws : List ℕ) : Type 0 where
  pub good : (x : Name) → IsGood (meant known x)
  pub fine : IsFine cells
  pub bound : AreTypes cells ns
  pub wants : AllByRecursion (IsType cells) ws

-- labels with numbers, one each
abbrev pub labelled : List Name → List ℕ → Fields
labelled (l ∷ ls) (n ∷ ns) = (l, n) ∷ labelled ls ns
labelled _ _ = []

-- each pattern takes its type, in written order
abbrev pub TakesAll : Pats → (Name → Ground → Type 0) → List Ground → Context → Context → Type 0
TakesAll no_pats outside [] G H = H ≡ G
TakesAll (pats l p ps) outside (t ∷ ts) G H = (M : Context) × Takes p outside t G M × TakesAll ps outside ts M H
TakesAll _ outside ts G H = ⊥

-- each branch takes its type, and gives this one
abbrev pub ArmsTake : Branches → (Name → Sort) → Context → List Ground → Ground → Type 0
ArmsTake no_branches known G [] t = ⊤
ArmsTake (branch l p b bs) known G (s ∷ ss) t = (H : Context) × Takes p (NameTypes known G) s G H × Types b known H t
    × ArmsTake bs known G ss t
ArmsTake _ known G ss t = ⊥
