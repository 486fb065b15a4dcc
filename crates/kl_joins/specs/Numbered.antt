-- The numbers of scans, joins and memos.
use Rattle.std.specs.Prelude.{◌≡◌, ℕ, zero, suc, List, [], ◌∷◌, length, map}
use Rattle.kl_plan.specs.declared.plan.Scan.{Scan}
use Rattle.kl_plan.specs.Nodes as node
use Rattle.kl_plan.specs.Nodes.{Node, Nodes, no_nodes, nodes, Fields, no_fields, fields, Branches, no_branches, rest, branch, Key}
use Rattle.kl_plan.specs.Nodes.{no_key, key}
use Rattle.kl_plan.specs.Numbers.{scans_in, joins_in, memos_in}

-- so many numbers from one on
abbrev pub from : ℕ → ℕ → List ℕ
from n zero = []
from n (suc k) = n ∷ from (suc n) k

-- scans that differ in their numbers alone
pub record SameScan (c d : Scan) : Type 0 where
  pub driver : c.driver ≡ d.driver
  pub source : c.source ≡ d.source
  pub ask : c.ask ≡ d.ask
  pub kind : c.kind ≡ d.kind

-- plans that differ in their numbers alone
abbrev mutual
  pub SamePlan : Node → Node → Type 0
  SamePlan p (node.Plain t) = p ≡ node.Plain t
  SamePlan p (node.Var x) = p ≡ node.Var x
  SamePlan p (node.Rec ps) = (qs : Fields) × (p ≡ node.Rec qs) × SameFields qs ps
  SamePlan p (node.Proj l a) = (x : Node) × (p ≡ node.Proj l x) × SamePlan x a
  SamePlan p (node.Inj l a) = (x : Node) × (p ≡ node.Inj l x) × SamePlan x a
  SamePlan p (node.Case a bs) = (x : Node) × (cs : Branches) × (p ≡ node.Case x cs) × SamePlan x a × SameBranches cs bs
  SamePlan p (node.Make k ps) = (qs : Nodes) × (p ≡ node.Make k qs) × SameNodes qs ps
  SamePlan p (node.Union a b) = (x : Node) × (y : Node) × (p ≡ node.Union x y) × SamePlan x a × SamePlan y b
  SamePlan p (node.Ext k b s) = (x : Node) × (y : Node) × (p ≡ node.Ext k x y) × SamePlan x b × SamePlan y s
  SamePlan p (node.If a b c) =
      (x : Node) × (y : Node) × (z : Node) × (p ≡ node.If x y z) × SamePlan x a × SamePlan y b × SamePlan z c
  SamePlan p (node.Let a b) = (x : Node) × (y : Node) × (p ≡ node.Let x y) × SamePlan x a × SamePlan y b
  SamePlan p (node.Prim c ps) = (qs : Nodes) × (p ≡ node.Prim c qs) × SameNodes qs ps
  SamePlan p (node.Scan c) = (d : Scan) × (p ≡ node.Scan d) × SameScan d c
  SamePlan p (node.Join n k how o cs i q b) = (m : ℕ) × (x : Node) × (ds : Nodes) × (j : Scan) × (e : Key) × (y : Node)
      × (p ≡ node.Join m k how x ds j e y) × SamePlan x o × SameNodes ds cs × SameScan j i × SameKey e q × SamePlan y b
  SamePlan p (node.Memo n frees a) = (m : ℕ) × (x : Node) × (p ≡ node.Memo m frees x) × SamePlan x a

  pub SameNodes : Nodes → Nodes → Type 0
  SameNodes qs no_nodes = qs ≡ no_nodes
  SameNodes qs (nodes p ps) = (x : Node) × (xs : Nodes) × (qs ≡ nodes x xs) × SamePlan x p × SameNodes xs ps

  pub SameFields : Fields → Fields → Type 0
  SameFields qs no_fields = qs ≡ no_fields
  SameFields qs (fields l p ps) = (x : Node) × (xs : Fields) × (qs ≡ fields l x xs) × SamePlan x p × SameFields xs ps

  pub SameBranches : Branches → Branches → Type 0
  SameBranches cs no_branches = cs ≡ no_branches
  SameBranches cs (rest b) = (x : Node) × (cs ≡ rest x) × SamePlan x b
  SameBranches cs (branch l b bs) = (x : Node) × (xs : Branches) × (cs ≡ branch l x xs) × SamePlan x b × SameBranches xs bs

  pub SameKey : Key → Key → Type 0
  SameKey e no_key = e ≡ no_key
  SameKey e (key l p) = (x : Node) × (e ≡ key l x) × SamePlan x p

-- scans, joins and memos are numbered from 0 on, each in the order of the walk
pub record AreNumbered (p : Node) : Type 0 where
  pub scans : map (λ c. c.number) (scans_in p) ≡ from 0 (length (scans_in p))
  pub joins : joins_in p ≡ from 0 (length (joins_in p))
  pub memos : memos_in p ≡ from 0 (length (memos_in p))
