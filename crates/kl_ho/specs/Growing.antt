-- What code says of the expansion that it makes of a part: its names are those that begin with a base.
-- No public contract cites this.
use Rattle.std.specs.Prelude.{◌≡◌, ℕ, ◌+◌, ◌<◌, List, [], ◌∷◌, ◌++◌, map, Option, Result, Ok, Err, ⊤}
use Rattle.std.specs.Option.{option_map}
use Rattle.kl_outcome.specs.Outcome.{Name}
use Rattle.kl_syntax.specs.declared.tree.Branch.{Branch}
use Rattle.kl_syntax.specs.declared.tree.Expr.{Expr}
use Rattle.kl_syntax.specs.declared.tree.Pattern.{Pattern}
use Rattle.kl_syntax.specs.declared.tree.Qual.{Qual}
use Rattle.kl_syntax.specs.declared.tree.Qual.TheVariants as quals
use Rattle.kl_syntax.specs.Syntax.{Pat, Exp, Exps, Flds, Quals, Branches, Steps}
use Rattle.kl_syntax.specs.View.{Front, view, qual_view, pattern_view, patterns_view, branches_view, rest_of}
use Rattle.kl_ho.specs.declared.stop.Stop.{Stop}
use Rattle.kl_ho.specs.declared.stop.Stop.TheVariants.{TooBig, NoMemory}
use Rattle.kl_ho.specs.declared.table.Parts.{Parts}
use Rattle.kl_ho.specs.declared.table.Table.{Table}
use Rattle.kl_ho.specs.Expansion.{Scope, New, PatBecomes, Expands, ExpandAll, FieldsExpand, QualsExpand, BranchesExpand, StepsExpand}
use Rattle.kl_ho.specs.Highers.{Higher, Highers, Funs}
use Rattle.kl_ho.specs.HoPrograms.{rest_in, no_highers, with_higher}
use Rattle.kl_ho.specs.Nodes.{nodes, nodes_all, nodes_fields, nodes_quals, nodes_branches, nodes_steps}
use Rattle.kl_ho.specs.KeptPrograms.{begins}
use Rattle.kl_ho.specs.Shapes.{names_after, behind_shaped}

-- ---- names

abbrev pub scope_of : Name → List Name → Scope
scope_of base V = map (λ v. (v, base ++ v)) V

-- ---- definitions, the last first

abbrev pub higher_of : Parts → Higher
higher_of p = record { handed = p.handed.items; rest = rest_in p.labels.now (patterns_view p.fields.now); body = view p.body.now }

abbrev pub highers_in : List (Name × Option Parts) → Highers
highers_in [] = no_highers
highers_in (p ∷ ps) = with_higher p.0 (option_map higher_of p.1) (highers_in ps)

abbrev pub highers_of : Table → Highers
highers_of t = highers_in t.parts.items

-- ---- what is made

-- what is made of a part, and how many expressions are still let in; or more are wanted; or memory is wanted
pub data Made (T : Type 0) : Type 0 where
  made : T → ℕ → Made T
  too_big : Made T
  wanting : Made T

abbrev pub told : {X T : Type 0} → (X → T) → Result X Stop → ℕ → Made T
told view (Ok x) c = made (view x) c
told view (Err TooBig) c = too_big
told view (Err NoMemory) c = wanting

-- what is made behind parts that are made already
abbrev pub map_made : {T U : Type 0} → (T → U) → Made T → Made U
map_made f (made x c) = made (f x) c
map_made f too_big = too_big
map_made f wanting = wanting

-- it is an expansion, and its expressions are taken from those that are let in; or each expansion has more than are let in
abbrev pub Gives : {T : Type 0} → (ℕ → T → Type 0) → (T → Type 0) → (T → ℕ) → ℕ → Made T → Type 0
Gives At Any size b (made x c) = (n : ℕ) × At n x × (b ≡ c + size x)
Gives At Any size b too_big = (x : _) → Any x → b < size x
Gives At Any size b wanting = ⊤

-- expansions at any depth, with whatever names
module _ (highers : Highers) where
  abbrev pub AnyExp : Exp → Funs → Exp → Type 0
  AnyExp e funs x = (is_new : New) × (S : Scope) × (n : ℕ) × Expands is_new highers n funs S e x

  abbrev pub AnyAll : Exps → Funs → Exps → Type 0
  AnyAll es funs xs = (is_new : New) × (S : Scope) × (n : ℕ) × ExpandAll is_new highers n funs S es xs

  abbrev pub AnyFields : Flds → List (Name × Name) → Funs → Flds → Type 0
  AnyFields fs skips funs gs = (is_new : New) × (S : Scope) × (n : ℕ) × FieldsExpand is_new highers n funs S skips fs gs

  abbrev pub AnyQuals : Quals → Funs → Quals → Type 0
  AnyQuals qs funs rs = (is_new : New) × (S : Scope) × (n : ℕ) × (T : Scope) × QualsExpand is_new highers n funs S qs rs T

  abbrev pub AnyBranches : Branches → Funs → Branches → Type 0
  AnyBranches bs funs cs = (is_new : New) × (S : Scope) × (n : ℕ) × BranchesExpand is_new highers n funs S bs cs

  abbrev pub AnySteps : Steps → Funs → Steps → Type 0
  AnySteps ss funs rs = (is_new : New) × (S : Scope) × (n : ℕ) × StepsExpand is_new highers n funs S ss rs

-- what is given of each kind of parts
module _ (base : Name) (highers : Highers) (funs : Funs) (V : List Name) where
  abbrev pub GivesExp : Exp → ℕ → Made Exp → Type 0
  GivesExp e = Gives (λ n x. Expands (begins base) highers n funs (scope_of base V) e x) (AnyExp highers e funs) nodes

  abbrev pub GivesAll : Exps → ℕ → Made Exps → Type 0
  GivesAll es = Gives (λ n xs. ExpandAll (begins base) highers n funs (scope_of base V) es xs) (AnyAll highers es funs) nodes_all

  abbrev pub GivesFields : Flds → List (Name × Name) → ℕ → Made Flds → Type 0
  GivesFields fs skips = Gives (λ n gs. FieldsExpand (begins base) highers n funs (scope_of base V) skips fs gs) (AnyFields highers fs skips funs) nodes_fields

  abbrev pub GivesQuals : Quals → ℕ → Made Quals → Type 0
  GivesQuals qs =
      Gives (λ n rs. QualsExpand (begins base) highers n funs (scope_of base V) qs rs (scope_of base (behind_shaped qs V))) (AnyQuals highers qs funs) nodes_quals

  abbrev pub GivesBranches : Branches → ℕ → Made Branches → Type 0
  GivesBranches bs = Gives (λ n cs. BranchesExpand (begins base) highers n funs (scope_of base V) bs cs) (AnyBranches highers bs funs) nodes_branches

  abbrev pub GivesSteps : Steps → ℕ → Made Steps → Type 0
  GivesSteps ss = Gives (λ n rs. StepsExpand (begins base) highers n funs (scope_of base V) ss rs) (AnySteps highers ss funs) nodes_steps

-- ---- what comes of parts that may be wanting: the same refusal, or what is made of them

abbrev pub Passes : {A B : Type 0} → Result A Stop → Result B Stop → (A → Type 0) → Type 0
Passes (Ok x) r P = P x
Passes (Err e) r P = r ≡ Err e

-- nothing but want of memory comes between
abbrev pub Makes : {A : Type 0} → Result A Stop → (A → Type 0) → Type 0
Makes (Ok x) P = P x
Makes (Err TooBig) P = ⊥
Makes (Err NoMemory) P = ⊤

-- a generator of what it draws, with the variables behind its pattern
abbrev pub Draws : Name → List Name → List Name → Pat → Expr → Qual → Type 0
Draws base V W p x q = (s : Pattern) × (q ≡ quals.Gen s x) × PatBecomes (begins base) (scope_of base V) (scope_of base V) p (pattern_view s) (scope_of base W) × (W ≡ names_after p V)

-- ---- how code sees what is made

abbrev pub within_view : Pattern × Expr → Pat × Exp
within_view r = (pattern_view r.0, view r.1)

abbrev pub arms_view : List Branch × Option Expr → Branches
arms_view r = branches_view r.0 r.1

abbrev pub other_view : Option Expr → Branches
other_view o = rest_of (option_map view o)

module _ (base : Name) (highers : Highers) (funs : Funs) where
  -- a pattern, and what stands behind it
  abbrev pub GivesWithin : List Name → Pat → Exp → ℕ → Made (Pat × Exp) → Type 0
  GivesWithin V p e =
      Gives (λ n r. PatBecomes (begins base) (scope_of base V) (scope_of base V) p r.0 (scope_of base (names_after p V))
      × Expands (begins base) highers n funs (scope_of base (names_after p V)) e r.1) (λ r. AnyExp highers e funs r.1) (λ r. nodes r.1)

  -- a qualifier, whatever follows it
  abbrev pub GivesQual : List Name → List Name → Front → ℕ → ℕ → Result Qual Stop → Type 0
  GivesQual V W q b c (Ok x) =
      ((rest : Quals) (r : Made Quals) → GivesQuals base highers funs W rest c r → GivesQuals base highers funs V (q rest) b (map_made (qual_view x) r))
      × ((rest : Quals) → behind_shaped (q rest) V ≡ behind_shaped rest W)
  GivesQual V W q b c (Err TooBig) = (rest : Quals) → GivesQuals base highers funs V (q rest) b too_big
  GivesQual V W q b c (Err NoMemory) = ⊤
