-- Plans as contracts see them: lists are lists, and boxes are nothing.
use Rattle.std.specs.Prelude.{ℕ, List, [], ◌∷◌, map, Option, Some, None}
use Rattle.kl_value.specs.declared.Kind.{Kind}
use Rattle.kl_outcome.specs.Outcome.{Name}
use Rattle.kl_core.specs.Trees.{Tree, view as term_view}
use Rattle.kl_ask.specs.declared.settings.JoinHow.{JoinHow}
use Rattle.kl_plan.specs.declared.plan.Scan.{Scan as Reading}
use Rattle.kl_plan.specs.declared.plan.Plan.{Plan as Planned, fold-Plan}
use Rattle.kl_plan.specs.declared.plan.Plan.TheOpen.{Plan-F, Join-F, JoinKey-F}

mutual
  pub data Node : Type 0 where
    Plain : Tree → Node
    Var : ℕ → Node
    Rec : Fields → Node
    Proj : Name → Node → Node
    Inj : Name → Node → Node
    Case : Node → Branches → Node
    Make : Kind → Nodes → Node
    Union : Node → Node → Node
    Ext : Kind → Node → Node → Node
    If : Node → Node → Node → Node
    Let : Node → Node → Node
    Prim : ℕ → Nodes → Node
    Scan : Reading → Node
    -- its number, kind and way, the outer part, the conditions, the inner scan, the key, and the body
    Join : ℕ → Kind → JoinHow → Node → Nodes → Reading → Key → Node → Node
    Memo : ℕ → List ℕ → Node → Node

  pub data Nodes : Type 0 where
    no_nodes : Nodes
    nodes : Node → Nodes → Nodes

  pub data Fields : Type 0 where
    no_fields : Fields
    fields : Name → Node → Fields → Fields

  -- branches, and what stands behind `otherwise` last
  pub data Branches : Type 0 where
    no_branches : Branches
    rest : Node → Branches
    branch : Name → Node → Branches → Branches

  pub data Key : Type 0 where
    no_key : Key
    key : Name → Node → Key

abbrev pub nodes_of : List Node → Nodes
nodes_of [] = no_nodes
nodes_of (p ∷ ps) = nodes p (nodes_of ps)

abbrev pub fields_of : List (Name × Node) → Fields
fields_of [] = no_fields
fields_of (f ∷ fs) = fields f.0 f.1 (fields_of fs)

abbrev pub rest_of : Option Node → Branches
rest_of (Some p) = rest p
rest_of None = no_branches

abbrev pub branches_of : List (Name × Node) → Branches → Branches
branches_of [] last = last
branches_of (b ∷ bs) last = branch b.0 b.1 (branches_of bs last)

abbrev pub key_of : Option Key → Key
key_of (Some k) = k
key_of None = no_key

abbrev pub plan_layer : Plan-F Node Node Key → Node
plan_layer (Plan-F.Plain t) = Plain (term_view t)
plan_layer (Plan-F.Var x) = Var x
plan_layer (Plan-F.Rec fs) = Rec (fields_of fs)
plan_layer (Plan-F.Proj l a) = Proj l a
plan_layer (Plan-F.Inj l a) = Inj l a
plan_layer (Plan-F.Case a bs c) = Case a (branches_of bs (rest_of c))
plan_layer (Plan-F.Make k ps) = Make k (nodes_of ps)
plan_layer (Plan-F.Union a b) = Union a b
plan_layer (Plan-F.Ext k b s) = Ext k b s
plan_layer (Plan-F.If a b c) = If a b c
plan_layer (Plan-F.Let a b) = Let a b
plan_layer (Plan-F.Prim c ps) = Prim c (nodes_of ps)
plan_layer (Plan-F.Scan s) = Scan s
plan_layer (Plan-F.Join j) = j
plan_layer (Plan-F.Memo n frees p) = Memo n frees p

abbrev pub join_layer : Join-F Node Node Key → Node
join_layer j = Join j.number j.kind j.how j.outer (nodes_of j.conds) j.inner (key_of j.key) j.body

abbrev pub key_layer : JoinKey-F Node Node Key → Key
key_layer k = key k.label k.value

abbrev pub view : Planned → Node
view = fold-Plan Node Node Key plan_layer join_layer key_layer

abbrev pub view_branch : Name × Planned → Name × Node
view_branch b = (b.0, view b.1)

abbrev pub nodes_view : List Planned → Nodes
nodes_view ps = nodes_of (map view ps)

abbrev pub fields_view : List (Name × Planned) → Fields
fields_view fs = fields_of (map view_branch fs)
