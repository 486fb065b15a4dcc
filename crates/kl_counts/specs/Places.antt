-- What holds of the scans, the joins and the memos of a plan, each where it stands.
use Rattle.std.specs.Prelude.{ℕ, suc, List, ⊤}
use Rattle.kl_ask.specs.declared.settings.JoinHow.{JoinHow}
use Rattle.kl_plan.specs.declared.plan.Scan.{Scan}
use Rattle.kl_plan.specs.Nodes as node
use Rattle.kl_plan.specs.Nodes.{Node, Nodes, no_nodes, nodes, Fields, no_fields, fields, Branches, no_branches, rest, branch, Key}
use Rattle.kl_plan.specs.Nodes.{no_key, key}

-- S of each scan that stands by itself, J of each join with its inner scan, and M of each memo, under so many bound positions. What
-- stands in a memo is M's alone.
module _ (S : Scan → Type 0) (J : ℕ → JoinHow → Scan → Type 0) (M : ℕ → ℕ → List ℕ → Node → Type 0) where
  abbrev mutual
    pub Places : ℕ → Node → Type 0
    Places d (node.Plain t) = ⊤
    Places d (node.Var x) = ⊤
    Places d (node.Rec ps) = PlacesFields d ps
    Places d (node.Proj l a) = Places d a
    Places d (node.Inj l a) = Places d a
    Places d (node.Case a bs) = Places d a × PlacesBranches d bs
    Places d (node.Make k ps) = PlacesNodes d ps
    Places d (node.Union a b) = Places d a × Places d b
    Places d (node.Ext k b s) = Places (suc d) b × Places d s
    Places d (node.If a b c) = Places d a × Places d b × Places d c
    Places d (node.Let a b) = Places d a × Places (suc d) b
    Places d (node.Prim c ps) = PlacesNodes d ps
    Places d (node.Scan c) = S c
    Places d (node.Join n k way o cs i q b) = Places d o × PlacesNodes (suc d) cs × PlacesKey (suc d) q × J n way i × Places (suc (suc d)) b
    Places d (node.Memo n frees p) = M d n frees p

    pub PlacesNodes : ℕ → Nodes → Type 0
    PlacesNodes d no_nodes = ⊤
    PlacesNodes d (nodes p ps) = Places d p × PlacesNodes d ps

    pub PlacesFields : ℕ → Fields → Type 0
    PlacesFields d no_fields = ⊤
    PlacesFields d (fields l p ps) = Places d p × PlacesFields d ps

    pub PlacesBranches : ℕ → Branches → Type 0
    PlacesBranches d no_branches = ⊤
    PlacesBranches d (rest c) = Places d c
    PlacesBranches d (branch l b bs) = Places (suc d) b × PlacesBranches d bs

    pub PlacesKey : ℕ → Key → Type 0
    PlacesKey d no_key = ⊤
    PlacesKey d (key l p) = Places d p

abbrev pub AnyScan : Scan → Type 0
AnyScan c = ⊤

abbrev pub AnyJoin : ℕ → JoinHow → Scan → Type 0
AnyJoin n way i = ⊤

abbrev pub NoMemo : ℕ → ℕ → List ℕ → Node → Type 0
NoMemo d n frees p = ⊥

-- without memos
abbrev pub MemoFree : ℕ → Node → Type 0
MemoFree = Places AnyScan AnyJoin NoMemo

-- no memo stands inside another
abbrev pub Apart : Node → Type 0
Apart = Places AnyScan AnyJoin (λ d n frees p. MemoFree d p) 0
