-- Of which plans parts can be kept, and what the walk that keeps them does.
use Rattle.std.specs.Prelude.{◌≡◌, ℕ, ◌+◌, ◌^◌, ◌<◌, max, Bool, true, false, List, [], ⊤}
use Rattle.kl_plan.specs.Nodes as node
use Rattle.kl_plan.specs.Nodes.{Node, Nodes, no_nodes, nodes, Fields, no_fields, fields, Branches, no_branches, rest, branch, Key}
use Rattle.kl_plan.specs.Nodes.{no_key, key}
use Rattle.kl_plan.specs.Numbers.{memos_in, memos_of_nodes, memos_of_fields, memos_of_branches, memos_of_key}
use Rattle.kl_joins.specs.declared.keeping.Place.{Place}
use Rattle.kl_joins.specs.MemosMade.{IsLooping, IsKept, IsNotKept}

-- at most so many positions of a plan are bound around one of its parts
abbrev mutual
  pub binders : Node → ℕ
  binders (node.Plain t) = 0
  binders (node.Var x) = 0
  binders (node.Rec ps) = binders_of_fields ps
  binders (node.Proj l a) = binders a
  binders (node.Inj l a) = binders a
  binders (node.Case a bs) = max (binders a) (binders_of_branches bs + 1)
  binders (node.Make k ps) = binders_of_nodes ps
  binders (node.Union a b) = max (binders a) (binders b)
  binders (node.Ext k b s) = max (binders s) (binders b + 1)
  binders (node.If a b c) = max (binders a) (max (binders b) (binders c))
  binders (node.Let a b) = max (binders a) (binders b + 1)
  binders (node.Prim c ps) = binders_of_nodes ps
  binders (node.Scan c) = 0
  binders (node.Join n k how o cs i q b) =
      max (binders o) (max (binders_of_nodes cs + 1) (max (binders_of_key q + 1) (binders b + 2)))
  binders (node.Memo n frees p) = binders p

  pub binders_of_nodes : Nodes → ℕ
  binders_of_nodes no_nodes = 0
  binders_of_nodes (nodes p ps) = max (binders p) (binders_of_nodes ps)

  pub binders_of_fields : Fields → ℕ
  binders_of_fields no_fields = 0
  binders_of_fields (fields l p ps) = max (binders p) (binders_of_fields ps)

  pub binders_of_branches : Branches → ℕ
  binders_of_branches no_branches = 0
  binders_of_branches (rest c) = binders c
  binders_of_branches (branch l b bs) = max (binders b) (binders_of_branches bs)

  pub binders_of_key : Key → ℕ
  binders_of_key no_key = 0
  binders_of_key (key l p) = binders p

abbrev pub HasNoMemo : Node → Type 0
HasNoMemo p = memos_in p ≡ []

-- positions are counted in 32 bits
abbrev pub IsShallow : ℕ → Node → Type 0
IsShallow depth p = depth + binders p < 2 ^ 32

-- ---- what the walk that keeps parts says of them. No public contract cites what is below.

-- no memo stands there, and so many binders more stay in 32 bits
pub record IsReady (depth : ℕ) (memos : List ℕ) (more : ℕ) : Type 0 where
  pub bare : memos ≡ []
  pub shallow : depth + more < 2 ^ 32

abbrev pub MayKeep : ℕ → Node → Type 0
MayKeep depth p = IsReady depth (memos_in p) (binders p)

abbrev pub MayKeepEach : ℕ → Nodes → Type 0
MayKeepEach depth ps = IsReady depth (memos_of_nodes ps) (binders_of_nodes ps)

abbrev pub MayKeepFields : ℕ → Fields → Type 0
MayKeepFields depth ps = IsReady depth (memos_of_fields ps) (binders_of_fields ps)

abbrev pub MayKeepBranches : ℕ → Branches → Type 0
MayKeepBranches depth bs = IsReady depth (memos_of_branches bs) (binders_of_branches bs)

abbrev pub MayKeepKey : ℕ → Key → Type 0
MayKeepKey depth q = IsReady depth (memos_of_key q) (binders_of_key q)

-- whether a part is kept
abbrev pub WhetherKept : Bool → Place → Node → Type 0
WhetherKept true l p = IsKept l p
WhetherKept false l p = IsLooping p → IsNotKept l p

abbrev pub WhetherLooping : Bool → Node → Type 0
WhetherLooping true p = IsLooping p
WhetherLooping false p = IsLooping p → ⊥

-- with parts beside one another, and no join
abbrev pub HasParts : Node → Type 0
HasParts (node.Case a bs) = ⊤
HasParts (node.Union a b) = ⊤
HasParts (node.Ext k b s) = ⊤
HasParts (node.If a b c) = ⊤
HasParts (node.Let a b) = ⊤
HasParts p = ⊥
