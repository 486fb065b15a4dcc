-- Which plans make sense, and at which types, where scans have types.
use Rattle.std.specs.Prelude.{◌≡◌, ◌≢◌, ◌⊎◌, ℕ, List, [], ◌∷◌, length, Some, IsSome, slice_get, ⊤}
use Rattle.std.specs.List.Sorted.{IsStrictlySortedBy}
use Rattle.kl_base.specs.Fields.{bytes_cmp}
use Rattle.kl_value.specs.declared.Kind.{Kind}
use Rattle.kl_value.specs.declared.Kind.TheVariants as kind
use Rattle.kl_type.specs.Ground.{Ground, Row, bool, rec as rec_type, var as var_type, coll, no_row, row, at, labels_in, IsGround}
use Rattle.kl_outcome.specs.Outcome.{Name}
use Rattle.kl_outcome.specs.Typed.{PrimTypes}
use Rattle.kl_core.specs.Trees.{Tree}
use Rattle.kl_core.specs.Leaves.{Leaves}
use Rattle.kl_core.specs.Typing.{SourceTypes, CoreTypes}
use Rattle.kl_ask.specs.declared.settings.JoinHow.{JoinHow}
use Rattle.kl_ask.specs.declared.settings.JoinHow.TheVariants as way
use Rattle.kl_plan.specs.declared.plan.Scan.{Scan}
use Rattle.kl_plan.specs.Nodes as node
use Rattle.kl_plan.specs.Nodes.{Node, Nodes, no_nodes, nodes, Fields, no_fields, fields, Branches, no_branches, rest, branch, Key}
use Rattle.kl_plan.specs.Nodes.{no_key, key}
use Rattle.kl_plan.specs.Numbers.{memos_in}
use Rattle.kl_plan.specs.Occurs.{frees_in}

abbrev pub Anywhere : ℕ → Type 0
Anywhere x = ⊤

abbrev pub Nowhere : ℕ → Type 0
Nowhere i = ⊥

-- a term in which no source stands
abbrev pub NoSource : Tree → Type 0
NoSource = Leaves Anywhere Nowhere

-- a branch for the label, or one for all that are left
abbrev pub HasBranch : Name → Branches → Type 0
HasBranch l no_branches = ⊥
HasBranch l (rest c) = ⊤
HasBranch l (branch m b bs) = (l ≡ m) ⊎ HasBranch l bs

abbrev pub CoversAll : Row → Branches → Type 0
CoversAll r bs = (l : Name) → IsSome (at l r) → HasBranch l bs

-- whatever memo stands there
abbrev pub AnyMemo : ℕ → List ℕ → Node → Type 0
AnyMemo n frees p = ⊤

-- `Of` says which scans make sense, and of which types their rows are. All types are proper: where a derivation is free to choose a
-- type, as that of a variant or an empty collection, it is, and so is what a position or a scan has.
-- `Listed` says which memos may stand there: those of the plan that is run.
module _ (Of : Scan → Ground → Type 0) (Listed : ℕ → List ℕ → Node → Type 0) where
  abbrev mutual
    pub PlanTypes : List Ground → Node → Ground → Type 0
    PlanTypes G (node.Plain t) s = NoSource t × ((S : SourceTypes) → CoreTypes S G t s)
    PlanTypes G (node.Var x) s = (slice_get G x ≡ Some s) × IsGround s
    PlanTypes G (node.Rec ps) s = (r : Row) × (s ≡ rec_type r) × IsStrictlySortedBy bytes_cmp (labels_in r) × FieldTypes G ps r
    PlanTypes G (node.Proj l a) s = (r : Row) × PlanTypes G a (rec_type r) × (at l r ≡ Some s)
    PlanTypes G (node.Inj l a) s = (r : Row) × (u : Ground) × (s ≡ var_type r) × IsGround s × (at l r ≡ Some u) × PlanTypes G a u
    PlanTypes G (node.Case a bs) s = (r : Row) × PlanTypes G a (var_type r) × CoversAll r bs × BranchTypes G bs r s
    PlanTypes G (node.Make k ps) s = (u : Ground) × (s ≡ coll k u) × IsGround s × EachPlan G ps u
    PlanTypes G (node.Union a b) s = (k : Kind) × (u : Ground) × (s ≡ coll k u) × PlanTypes G a s × PlanTypes G b s
    PlanTypes G (node.Ext k b a) s = (t : Ground) × (j : Kind) × (u : Ground) × (s ≡ coll k t) × PlanTypes G a (coll j u)
        × PlanTypes (u ∷ G) b s
    PlanTypes G (node.If a b c) s = PlanTypes G a bool × PlanTypes G b s × PlanTypes G c s
    PlanTypes G (node.Let a b) s = (u : Ground) × PlanTypes G a u × PlanTypes (u ∷ G) b s
    PlanTypes G (node.Prim c ps) s = (us : List Ground) × PlansOf G ps us × PrimTypes c us s
    PlanTypes G (node.Scan c) s = (u : Ground) × (s ≡ coll c.kind u) × IsGround s × Of c u
    -- the outer part has rows of type u, the inner scan rows of type v
    PlanTypes G (node.Join n k how o cs i q b) s = (t : Ground) × (j : Kind) × (u : Ground) × (v : Ground) × (s ≡ coll k t)
        × PlanTypes G o (coll j u) × EachPlan (u ∷ G) cs bool × IsGround (coll i.kind v) × Of i v × KeyTypes (u ∷ G) how k q v
        × PlanTypes (v ∷ u ∷ G) b s
    -- a memo has the free positions of its part, in which no other memo stands
    PlanTypes G (node.Memo n frees p) s = (k : Kind) × (u : Ground) × (s ≡ coll k u) × PlanTypes G p s × (frees ≡ frees_in (length G) p)
        × (memos_in p ≡ []) × Listed n frees p

    -- A join by blocks has no key, and makes no list; one by an index has one, of the type of a column of the inner rows.
    pub KeyTypes : List Ground → JoinHow → Kind → Key → Ground → Type 0
    KeyTypes G way.Block k no_key v = k ≢ kind.List
    KeyTypes G way.Block k (key l p) v = ⊥
    KeyTypes G way.Index k no_key v = ⊥
    KeyTypes G way.Index k (key l p) v = (r : Row) × (w : Ground) × (v ≡ rec_type r) × (at l r ≡ Some w) × PlanTypes G p w

    -- all of one type
    pub EachPlan : List Ground → Nodes → Ground → Type 0
    EachPlan G no_nodes u = ⊤
    EachPlan G (nodes p ps) u = PlanTypes G p u × EachPlan G ps u

    -- each of its own type
    pub PlansOf : List Ground → Nodes → List Ground → Type 0
    PlansOf G no_nodes us = us ≡ []
    PlansOf G (nodes p ps) us = (u : Ground) × (more : List Ground) × (us ≡ u ∷ more) × PlanTypes G p u × PlansOf G ps more

    -- the fields' labels and types are those of the row
    pub FieldTypes : List Ground → Fields → Row → Type 0
    FieldTypes G no_fields r = r ≡ no_row
    FieldTypes G (fields l p ps) r = (u : Ground) × (more : Row) × (r ≡ row l u more) × PlanTypes G p u × FieldTypes G ps more

    -- each branch is for a label of the row, and all results have the type
    pub BranchTypes : List Ground → Branches → Row → Ground → Type 0
    BranchTypes G no_branches r s = ⊤
    BranchTypes G (rest c) r s = PlanTypes G c s
    BranchTypes G (branch l b bs) r s = (u : Ground) × (at l r ≡ Some u) × PlanTypes (u ∷ G) b s × BranchTypes G bs r s
