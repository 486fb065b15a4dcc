-- What code says of the declarations that it expands. No public contract cites this.
use Rattle.std.specs.Prelude.{◌≡◌, ℕ, ◌<◌, ◌≤◌, List, [], ◌∷◌, ◌++◌, Option, Some, None, Result, Ok, Err, ⊤, length, get_or}
use Rattle.kl_outcome.specs.Outcome.{Name}
use Rattle.kl_syntax.specs.declared.tree.Decl.{Decl}
use Rattle.kl_syntax.specs.declared.tree.Expr.{Expr}
use Rattle.kl_syntax.specs.declared.tree.Pattern.{Pattern}
use Rattle.kl_syntax.specs.declared.tree.Tail.TheVariants as tail
use Rattle.kl_syntax.specs.Syntax.{Pat, shape, Pats, Exp, Decls}
use Rattle.kl_syntax.specs.View.{view, pattern_view}
use Rattle.kl_ho.specs.declared.stop.Stop.{Stop}
use Rattle.kl_ho.specs.declared.stop.Stop.TheVariants as stop
use Rattle.kl_ho.specs.declared.expanded.ExpandError.{ExpandError}
use Rattle.kl_ho.specs.declared.expanded.ExpandError.TheVariants.{TooBig, NoMemory}
use Rattle.kl_ho.specs.Expansion.{New, PatBecomes, Expands}
use Rattle.kl_ho.specs.Growing.{scope_of, AnyExp}
use Rattle.kl_ho.specs.Highers.{Higher, Highers}
use Rattle.kl_ho.specs.HoPrograms.{FunctionFields, ProgramExpands, higher_from, with_higher}
use Rattle.kl_ho.specs.KeptPrograms.{begins, listed}
use Rattle.kl_ho.specs.Nodes.{nodes}
use Rattle.kl_ho.specs.Shapes.{names_after}

-- the declarations from here have some expansion
abbrev pub SomeExpansion : FunctionFields → Highers → Decls → Exp → Type 0
SomeExpansion fields highers ds e = (is_new : New) × (n : ℕ) × (cs : Decls) × (x : Exp) × ProgramExpands is_new fields n highers ds e cs x

-- what is listed for a definition is what is listed at its place
abbrev pub EachListed : List Decl → List (List Name) → Type 0
EachListed ds lss = (i : ℕ) (d : Decl) (ls : List Name) → i < length ds → d ≡ get_or ds i d → ls ≡ get_or lss i ls → listed ds lss d.name.text ≡ ls

abbrev pub exact_fields : Pat → Option Pats
exact_fields (shape ps tail.Exact) = Some ps
exact_fields _ = None

-- a declaration in its parts, if it has function fields
abbrev pub higher_by : List Name → Option Pattern → Expr → Option Higher
higher_by ls (Some p) a = higher_from ls (pattern_view p) (view a)
higher_by ls None a = None

abbrev pub own_higher : List Name → Decl → Option Higher
own_higher ls d = higher_by ls d.param d.body

-- the definitions with function fields behind a declaration
abbrev pub behind_by : Option Pattern → Name → Option Higher → Highers → Highers
behind_by (Some p) d h highers = with_higher d h highers
behind_by None d h highers = highers

abbrev pub behind : Decl → Option Higher → Highers → Highers
behind d h highers = behind_by d.param d.name.text h highers

module _ (base : Name) (highers : Highers) where
  -- a parameter and a body become these, where unfoldings nest at most n deep
  abbrev pub PartsMade : ℕ → Option Pattern → Option Pattern → Exp → Exp → Type 0
  PartsMade n None None a b = Expands (begins base) highers n [] [] a b
  PartsMade n (Some p) (Some q) a b =
      PatBecomes (begins base) [] [] (pattern_view p) (pattern_view q) (scope_of base (names_after (pattern_view p) []))
      × Expands (begins base) highers n [] (scope_of base (names_after (pattern_view p) [])) a b
  PartsMade n _ _ a b = ⊥

  -- each expansion has more expressions than a declaration may have
  abbrev pub AllBig : Exp → Type 0
  AllBig a = (x : Exp) → AnyExp highers a [] x → 4096 < nodes x

  -- the expansion of a declaration, within the limit; or it is too big
  abbrev pub DeclMade : Decl → Result Decl Stop → Type 0
  DeclMade d (Ok c) = (c.name.text ≡ d.name.text) × ((n : ℕ) × PartsMade n d.param c.param (view d.body) (view c.body)) × (nodes (view c.body) ≤ 4096)
  DeclMade d (Err stop.TooBig) = AllBig (view d.body)
  DeclMade d (Err stop.NoMemory) = ⊤

  -- the same of an expression by itself
  abbrev pub BodyMade : Expr → Result Expr Stop → Type 0
  BodyMade e (Ok x) = ((n : ℕ) × Expands (begins base) highers n [] [] (view e) (view x)) × (nodes (view x) ≤ 4096)
  BodyMade e (Err stop.TooBig) = AllBig (view e)
  BodyMade e (Err stop.NoMemory) = ⊤

  -- it is listed with its number k behind those before it, or dropped
  abbrev pub Listed : Option Higher → Decl → ℕ → List Decl → List ℕ → List Decl → List ℕ → Type 0
  Listed (Some h) d k made from all numbers = (all ≡ made) × (numbers ≡ from)
  Listed None d k made from all numbers = (c : Decl) × DeclMade d (Ok c) × (all ≡ made ++ c ∷ []) × (numbers ≡ from ++ k ∷ [])

  -- or it is too big
  abbrev pub Added : Option Higher → Decl → ℕ → List Decl → List ℕ → List Decl → List ℕ → Result (Unit {0}) ExpandError → Type 0
  Added o d k made from all numbers (Ok _) = Listed o d k made from all numbers
  Added o d k made from all numbers (Err (TooBig n)) = (o ≡ None) × (n ≡ k) × AllBig (view d.body)
  Added o d k made from all numbers (Err NoMemory) = ⊤

  -- the same of the last expression
  abbrev pub LastMade : Expr → ℕ → List ℕ → List ℕ → Result Expr ExpandError → Type 0
  LastMade e k from numbers (Ok x) = ((n : ℕ) × Expands (begins base) highers n [] [] (view e) (view x)) × (nodes (view x) ≤ 4096) × (numbers ≡ from ++ k ∷ [])
  LastMade e k from numbers (Err (TooBig n)) = (n ≡ k) × AllBig (view e)
  LastMade e k from numbers (Err NoMemory) = ⊤

-- what stopped the declaration of this place, unless the place has no number
abbrev pub RefusedAt : ℕ → Stop → ExpandError → Type 0
RefusedAt k s (TooBig n) = (s ≡ stop.TooBig) × (n ≡ k)
RefusedAt k s NoMemory = ⊤
