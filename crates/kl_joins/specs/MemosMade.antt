-- Which values of a plan are kept.
use Rattle.std.specs.Prelude.{◌≡◌, ℕ, ◌+◌, ⊤, []}
use Rattle.kl_joins.specs.declared.keeping.Place.{Place}
use Rattle.kl_joins.specs.declared.keeping.Place.TheVariants as place
use Rattle.kl_plan.specs.Nodes as node
use Rattle.kl_plan.specs.Nodes.{Node, Nodes, no_nodes, nodes, Fields, no_fields, fields, Branches, no_branches, rest, branch, Key}
use Rattle.kl_plan.specs.Nodes.{no_key, key}
use Rattle.kl_plan.specs.Numbers.{scans_in}
use Rattle.kl_plan.specs.Occurs.{frees_in}

-- where a part stands that is not on the spine of its loop's body
abbrev pub aside : Place → Place
aside place.Outside = place.Outside
aside place.Spine = place.Aside
aside place.Aside = place.Aside

-- where the source of a loop stands: a scan is on the spine where the loop is
abbrev pub at_source : Place → Node → Place
at_source l (node.Scan c) = l
at_source l s = aside l

-- a loop, a join or a scan
abbrev pub IsLooping : Node → Type 0
IsLooping (node.Ext k b s) = ⊤
IsLooping (node.Join n k how o cs i q b) = ⊤
IsLooping (node.Scan c) = ⊤
IsLooping p = ⊥

-- what reads a source in a loop's body, in a condition or a key, and not on the spine of the body, is kept
abbrev pub IsKept : Place → Node → Type 0
IsKept l p = (l ≡ place.Aside) × IsLooping p × (scans_in p ≡ [] → ⊥)

abbrev pub IsNotKept : Place → Node → Type 0
IsNotKept l p = l ≡ place.Aside → scans_in p ≡ []

-- The first plan, at a place with so many positions bound around it, becomes the second, whose memos are numbered 0. Of parts inside
-- one another that are to be kept, the outermost is.
abbrev mutual
  pub MemosMade : Place → ℕ → Node → Node → Type 0
  MemosMade l d p (node.Plain t) = p ≡ node.Plain t
  MemosMade l d p (node.Var x) = p ≡ node.Var x
  MemosMade l d p (node.Rec ps) = (qs : Fields) × (p ≡ node.Rec qs) × FieldsKept (aside l) d qs ps
  MemosMade l d p (node.Proj m a) = (x : Node) × (p ≡ node.Proj m x) × MemosMade (aside l) d x a
  MemosMade l d p (node.Inj m a) = (x : Node) × (p ≡ node.Inj m x) × MemosMade (aside l) d x a
  MemosMade l d p (node.Case a bs) =
      (x : Node) × (cs : Branches) × (p ≡ node.Case x cs) × MemosMade (aside l) d x a × BranchesKept l d cs bs
  MemosMade l d p (node.Make k ps) = (qs : Nodes) × (p ≡ node.Make k qs) × EachKept (aside l) d qs ps
  MemosMade l d p (node.Union a b) = (x : Node) × (y : Node) × (p ≡ node.Union x y) × MemosMade l d x a × MemosMade l d y b
  MemosMade l d p (node.Ext k b s) = (x : Node) × (y : Node) × (p ≡ node.Ext k x y) × IsNotKept l p
      × MemosMade place.Spine (d + 1) x b × MemosMade (at_source l y) d y s
  MemosMade l d p (node.If a b c) = (x : Node) × (y : Node) × (z : Node) × (p ≡ node.If x y z) × MemosMade (aside l) d x a
      × MemosMade l d y b × MemosMade l d z c
  MemosMade l d p (node.Let a b) = (x : Node) × (y : Node) × (p ≡ node.Let x y) × MemosMade (aside l) d x a × MemosMade l (d + 1) y b
  MemosMade l d p (node.Prim c ps) = (qs : Nodes) × (p ≡ node.Prim c qs) × EachKept (aside l) d qs ps
  MemosMade l d p (node.Scan c) = (p ≡ node.Scan c) × IsNotKept l p
  MemosMade l d p (node.Join n k how o cs i q b) = (x : Node) × (ds : Nodes) × (e : Key) × (y : Node)
      × (p ≡ node.Join n k how x ds i e y) × IsNotKept l p × MemosMade (aside l) d x o × EachKept place.Aside (d + 1) ds cs
      × KeyKept (d + 1) e q × MemosMade place.Spine (d + 2) y b
  MemosMade l d p (node.Memo n frees a) = IsKept l p × (n ≡ 0) × (frees ≡ frees_in d p) × (a ≡ p)

  pub EachKept : Place → ℕ → Nodes → Nodes → Type 0
  EachKept l d qs no_nodes = qs ≡ no_nodes
  EachKept l d qs (nodes p ps) = (x : Node) × (xs : Nodes) × (qs ≡ nodes x xs) × MemosMade l d x p × EachKept l d xs ps

  pub FieldsKept : Place → ℕ → Fields → Fields → Type 0
  FieldsKept l d qs no_fields = qs ≡ no_fields
  FieldsKept l d qs (fields m p ps) = (x : Node) × (xs : Fields) × (qs ≡ fields m x xs) × MemosMade l d x p × FieldsKept l d xs ps

  pub BranchesKept : Place → ℕ → Branches → Branches → Type 0
  BranchesKept l d cs no_branches = cs ≡ no_branches
  BranchesKept l d cs (rest b) = (x : Node) × (cs ≡ rest x) × MemosMade l d x b
  BranchesKept l d cs (branch m b bs) =
      (x : Node) × (xs : Branches) × (cs ≡ branch m x xs) × MemosMade l (d + 1) x b × BranchesKept l d xs bs

  pub KeyKept : ℕ → Key → Key → Type 0
  KeyKept d e no_key = e ≡ no_key
  KeyKept d e (key m p) = (x : Node) × (e ≡ key m x) × MemosMade place.Aside d x p
