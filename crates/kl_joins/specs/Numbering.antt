-- What the walk that numbers a plan does to a part of it and to its counters.
-- No public contract cites this.
use Rattle.std.specs.Prelude.{◌≡◌, ◌⊎◌, ℕ, ◌+◌, ◌^◌, ◌<◌, List, ◌++◌, length, map, Option}
use Rattle.kl_value.specs.declared.Kind.{Kind}
use Rattle.kl_outcome.specs.Outcome.{Name}
use Rattle.kl_joins.specs.declared.numbering.Numbers.{Numbers}
use Rattle.kl_joins.specs.Numbered.{from, SamePlan, SameNodes, SameFields, SameBranches, SameKey}
use Rattle.kl_plan.specs.declared.plan.Plan.{Plan}
use Rattle.kl_plan.specs.declared.plan.Plan.TheVariants as plan
use Rattle.kl_plan.specs.declared.plan.Scan.{Scan}
use Rattle.kl_plan.specs.Nodes.{Node, Nodes, Fields, Branches, Key}
use Rattle.kl_plan.specs.Numbers.{scans_in, scans_of_nodes, scans_of_fields, scans_of_branches, scans_of_key}
use Rattle.kl_plan.specs.Numbers.{joins_in, joins_of_nodes, joins_of_fields, joins_of_branches, joins_of_key}
use Rattle.kl_plan.specs.Numbers.{memos_in, memos_of_nodes, memos_of_fields, memos_of_branches, memos_of_key}

-- what is numbered in a part, in the order of the walk
pub record Marks : Type 0 where
  pub scans : List Scan
  pub joins : List ℕ
  pub memos : List ℕ

abbrev pub in_plan : Node → Marks
in_plan p = record { scans = scans_in p; joins = joins_in p; memos = memos_in p }

abbrev pub in_nodes : Nodes → Marks
in_nodes ps = record { scans = scans_of_nodes ps; joins = joins_of_nodes ps; memos = memos_of_nodes ps }

abbrev pub in_fields : Fields → Marks
in_fields ps = record { scans = scans_of_fields ps; joins = joins_of_fields ps; memos = memos_of_fields ps }

abbrev pub in_branches : Branches → Marks
in_branches bs = record { scans = scans_of_branches bs; joins = joins_of_branches bs; memos = memos_of_branches bs }

abbrev pub in_key : Key → Marks
in_key q = record { scans = scans_of_key q; joins = joins_of_key q; memos = memos_of_key q }

-- two parts, one behind the other
abbrev pub both : Marks → Marks → Marks
both a b = record { scans = a.scans ++ b.scans; joins = a.joins ++ b.joins; memos = a.memos ++ b.memos }

-- a plan with several parts of its own
abbrev pub HasSeveral : Plan → Type 0
HasSeveral p =
    ((a : Plan) × (bs : List (Name × Plan)) × (o : Option Plan) × (p ≡ plan.Case a bs o))
    ⊎ ((a : Plan) × (b : Plan) × (p ≡ plan.Union a b))
    ⊎ ((k : Kind) × (b : Plan) × (s : Plan) × (p ≡ plan.Ext k b s))
    ⊎ ((a : Plan) × (b : Plan) × (c : Plan) × (p ≡ plan.If a b c))
    ⊎ ((a : Plan) × (b : Plan) × (p ≡ plan.Let a b))

-- one that chooses one of them
abbrev pub HasChoice : Plan → Type 0
HasChoice p =
    ((a : Plan) × (bs : List (Name × Plan)) × (o : Option Plan) × (p ≡ plan.Case a bs o))
    ⊎ ((a : Plan) × (b : Plan) × (c : Plan) × (p ≡ plan.If a b c))

-- there is a number for each
pub record HasRoom (w : Numbers) (a : Marks) : Type 0 where
  pub scans : w.scans + length a.scans < 2 ^ 32
  pub joins : w.joins + length a.joins < 2 ^ 32
  pub memos : w.memos + length a.memos < 2 ^ 32

-- each has its number, from the first counters on, and the second ones are next
pub record Counted (w v : Numbers) (a b : Marks) : Type 0 where
  pub scans : map (λ c. c.number) b.scans ≡ from w.scans (length a.scans)
  pub joins : b.joins ≡ from w.joins (length a.joins)
  pub memos : b.memos ≡ from w.memos (length a.memos)
  pub next_scan : v.scans ≡ w.scans + length a.scans
  pub next_join : v.joins ≡ w.joins + length a.joins
  pub next_memo : v.memos ≡ w.memos + length a.memos

-- p becomes r, which differs from it in its numbers alone, and all in it are numbered
pub record NumbersFrom {T : Type 0} (Same : T → T → Type 0) (marks : T → Marks) (w v : Numbers) (p r : T) : Type 0 where
  pub same : Same p r
  pub counted : Counted w v (marks p) (marks r)

abbrev pub PlanNumbered : Numbers → Numbers → Node → Node → Type 0
PlanNumbered = NumbersFrom SamePlan in_plan

abbrev pub EachNumbered : Numbers → Numbers → Nodes → Nodes → Type 0
EachNumbered = NumbersFrom SameNodes in_nodes

abbrev pub FieldsNumbered : Numbers → Numbers → Fields → Fields → Type 0
FieldsNumbered = NumbersFrom SameFields in_fields

abbrev pub BranchesNumbered : Numbers → Numbers → Branches → Branches → Type 0
BranchesNumbered = NumbersFrom SameBranches in_branches

abbrev pub KeyNumbered : Numbers → Numbers → Key → Key → Type 0
KeyNumbered = NumbersFrom SameKey in_key
