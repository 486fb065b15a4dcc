-- Of which parts of a plan parts can be kept, where they can be of the plan.
use Rattle.std.proofs.Common.{◌≡◌, ℕ, zero, suc, ◌+◌, ◌<◌, ◌≤◌, ◌^◌, max, List, [], ◌∷◌, ◌++◌, length, get_or, map, Option, Some}
use Rattle.std.proofs.Common.{refl, sym, ap, ap₂, subst, ◌∙◌, arith}
use Rattle.kl_value.specs.declared.Kind.{Kind}
use Rattle.kl_outcome.specs.Outcome.{Name}
use Rattle.kl_plan.specs.declared.plan.Join.{Join, out-Join}
use Rattle.kl_plan.specs.declared.plan.JoinKey.{JoinKey, out-JoinKey}
use Rattle.kl_plan.specs.declared.plan.Plan.{Plan}
use Rattle.kl_plan.specs.declared.plan.Plan.TheVariants as plan
use Rattle.kl_plan.specs.Joins.{join_view, key_view, keys_view, other_node}
use Rattle.kl_plan.specs.Nodes as node
use Rattle.kl_plan.specs.Nodes.{Node, Branches, key, branches_of, view, view_branch, nodes_view, fields_view}
use Rattle.kl_plan.specs.Numbers.{memos_in, memos_of_nodes, memos_of_fields, memos_of_branches, memos_of_key}
use Rattle.kl_plan.proofs.Views.{view_Rec, view_Proj, view_Inj, view_Case, view_Make, view_Union, view_Ext, view_If, view_Let, view_Prim, view_Join, view_join, view_key}
use Rattle.kl_plan.proofs.Empty.{none_first, none_behind}
use Rattle.kl_joins.specs.Keeping.{binders, binders_of_nodes, binders_of_fields, binders_of_branches, binders_of_key, IsReady, MayKeep}
use Rattle.kl_joins.specs.Keeping.{MayKeepEach, MayKeepFields, MayKeepBranches, MayKeepKey}
use Rattle.kl_joins.proofs.Fronts.{unvisited_item}

-- ---- in two parts

ready_first : (d : ℕ) (xs ys : List ℕ) (m n : ℕ) → IsReady d (xs ++ ys) (max m n) → IsReady d xs m
ready_first d xs ys m n h = let low : d + max m n < 2 ^ 32 = h.shallow in record
    { bare = none_first xs ys h.bare; shallow = omega (arith, low) }

ready_behind : (d : ℕ) (xs ys : List ℕ) (m n : ℕ) → IsReady d (xs ++ ys) (max m n) → IsReady d ys n
ready_behind d xs ys m n h = let low : d + max m n < 2 ^ 32 = h.shallow in record
    { bare = none_behind xs ys h.bare; shallow = omega (arith, low) }

ready_both : (d : ℕ) (xs ys : List ℕ) (m n : ℕ) → IsReady d xs m → IsReady d ys n → IsReady d (xs ++ ys) (max m n)
ready_both d xs ys m n h g =
    let low : d + m < 2 ^ 32 = h.shallow in
    let less : d + n < 2 ^ 32 = g.shallow in
    record { bare = ap₂ ◌++◌ h.bare g.bare; shallow = omega (arith, low, less) }

-- under a binder
ready_under : (d : ℕ) (xs : List ℕ) (m : ℕ) → IsReady d xs (m + 1) → IsReady (d + 1) xs m
ready_under d xs m h = let low : d + (m + 1) < 2 ^ 32 = h.shallow in record { bare = h.bare; shallow = omega (arith, low) }

ready_outside : (d : ℕ) (xs : List ℕ) (m : ℕ) → IsReady (d + 1) xs m → IsReady d xs m
ready_outside d xs m h = let low : d + 1 + m < 2 ^ 32 = h.shallow in record { bare = h.bare; shallow = omega (arith, low) }

-- ---- a form each; the code has the parts as they are lent

as_ready : (d : ℕ) (p q : Node) → p ≡ q → MayKeep d p → MayKeep d q
as_ready d p q e h = subst (λ (x : Node). MayKeep d x) e h

pub lent_ready : (d : ℕ) (a z : Plan) → z ≡ a → MayKeep d (view a) → MayKeep d (view z)
lent_ready d a z e h = subst (λ (x : Plan). MayKeep d (view x)) (sym e) h

pub proj_ready : (d : ℕ) (t : Plan) (l : Name) (a z : Plan) → t ≡ plan.Proj l a → z ≡ a → MayKeep d (view t) → MayKeep d (view z)
proj_ready d t l a z e f h = lent_ready d a z f (as_ready d (view t) (node.Proj l (view a)) (ap view e ∙ view_Proj l a) h)

pub inj_ready : (d : ℕ) (t : Plan) (l : Name) (a z : Plan) → t ≡ plan.Inj l a → z ≡ a → MayKeep d (view t) → MayKeep d (view z)
inj_ready d t l a z e f h = lent_ready d a z f (as_ready d (view t) (node.Inj l (view a)) (ap view e ∙ view_Inj l a) h)

pub rec_ready : (d : ℕ) (t : Plan) (ps zs : List (Name × Plan)) → t ≡ plan.Rec ps → zs ≡ ps → MayKeep d (view t)
    → MayKeepFields d (fields_view zs)
rec_ready d t ps zs e f h =
    let g : MayKeep d (node.Rec (fields_view ps)) = as_ready d (view t) (node.Rec (fields_view ps)) (ap view e ∙ view_Rec ps) h in
    subst (λ (xs : List (Name × Plan)). MayKeepFields d (fields_view xs)) (sym f) g

pub make_ready : (d : ℕ) (t : Plan) (k : Kind) (ps zs : List Plan) → t ≡ plan.Make k ps → zs ≡ ps → MayKeep d (view t)
    → MayKeepEach d (nodes_view zs)
make_ready d t k ps zs e f h =
    let g : MayKeep d (node.Make k (nodes_view ps)) = as_ready d (view t) (node.Make k (nodes_view ps)) (ap view e ∙ view_Make k ps) h in
    subst (λ (xs : List Plan). MayKeepEach d (nodes_view xs)) (sym f) g

pub prim_ready : (d : ℕ) (t : Plan) (c : ℕ) (ps zs : List Plan) → t ≡ plan.Prim c ps → zs ≡ ps → MayKeep d (view t)
    → MayKeepEach d (nodes_view zs)
prim_ready d t c ps zs e f h =
    let g : MayKeep d (node.Prim c (nodes_view ps)) = as_ready d (view t) (node.Prim c (nodes_view ps)) (ap view e ∙ view_Prim c ps) h in
    subst (λ (xs : List Plan). MayKeepEach d (nodes_view xs)) (sym f) g

pub union_ready : (d : ℕ) (t a b y z : Plan) → t ≡ plan.Union a b → y ≡ a → z ≡ b → MayKeep d (view t)
    → MayKeep d (view y) × MayKeep d (view z)
union_ready d t a b y z e f g h =
    let w = as_ready d (view t) (node.Union (view a) (view b)) (ap view e ∙ view_Union a b) h in (
      lent_ready d a y f (ready_first d (memos_in (view a)) (memos_in (view b)) (binders (view a)) (binders (view b)) w),
      lent_ready d b z g (ready_behind d (memos_in (view a)) (memos_in (view b)) (binders (view a)) (binders (view b)) w),
    )

pub ext_ready : (d : ℕ) (t : Plan) (k : Kind) (b s y z : Plan) → t ≡ plan.Ext k b s → y ≡ b → z ≡ s → MayKeep d (view t)
    → MayKeep (d + 1) (view y) × MayKeep d (view z)
ext_ready d t k b s y z e f g h =
    let w = as_ready d (view t) (node.Ext k (view b) (view s)) (ap view e ∙ view_Ext k b s) h in (
      lent_ready (d + 1) b y f (ready_under d (memos_in (view b)) (binders (view b))
          (ready_behind d (memos_in (view s)) (memos_in (view b)) (binders (view s)) (binders (view b) + 1) w)),
      lent_ready d s z g (ready_first d (memos_in (view s)) (memos_in (view b)) (binders (view s)) (binders (view b) + 1) w),
    )

pub let_ready : (d : ℕ) (t a b y z : Plan) → t ≡ plan.Let a b → y ≡ a → z ≡ b → MayKeep d (view t)
    → MayKeep d (view y) × MayKeep (d + 1) (view z)
let_ready d t a b y z e f g h =
    let w = as_ready d (view t) (node.Let (view a) (view b)) (ap view e ∙ view_Let a b) h in (
      lent_ready d a y f (ready_first d (memos_in (view a)) (memos_in (view b)) (binders (view a)) (binders (view b) + 1) w),
      lent_ready (d + 1) b z g (ready_under d (memos_in (view b)) (binders (view b))
          (ready_behind d (memos_in (view a)) (memos_in (view b)) (binders (view a)) (binders (view b) + 1) w)),
    )

pub if_ready : (d : ℕ) (t a b c x y z : Plan) → t ≡ plan.If a b c → x ≡ a → y ≡ b → z ≡ c → MayKeep d (view t)
    → MayKeep d (view x) × MayKeep d (view y) × MayKeep d (view z)
if_ready d t a b c x y z e f g k h =
    let w = as_ready d (view t) (node.If (view a) (view b) (view c)) (ap view e ∙ view_If a b c) h in
    let v = ready_behind d (memos_in (view a)) (memos_in (view b) ++ memos_in (view c)) (binders (view a))
    (max (binders (view b)) (binders (view c))) w in (
      lent_ready d a x f (ready_first d (memos_in (view a)) (memos_in (view b) ++ memos_in (view c)) (binders (view a))
          (max (binders (view b)) (binders (view c))) w),
      lent_ready d b y g (ready_first d (memos_in (view b)) (memos_in (view c)) (binders (view b)) (binders (view c)) v),
      lent_ready d c z k (ready_behind d (memos_in (view b)) (memos_in (view c)) (binders (view b)) (binders (view c)) v),
    )

branches_ready : (d : ℕ) (bs : List (Name × Plan)) (last : Branches) → MayKeepBranches d (branches_of (map view_branch bs) last)
    → MayKeepFields d (fields_view bs) × MayKeepBranches d last
branches_ready d [] last h =
    let low : d + binders_of_branches last < 2 ^ 32 = h.shallow in
    (record { bare = refl; shallow = omega (arith, low) }, h)
branches_ready d (b ∷ bs) last h =
    let first = ready_first d (memos_in (view b.1)) (memos_of_branches (branches_of (map view_branch bs) last)) (binders (view b.1))
    (binders_of_branches (branches_of (map view_branch bs) last)) h in
    let behind = branches_ready d bs last
    (ready_behind d (memos_in (view b.1)) (memos_of_branches (branches_of (map view_branch bs) last)) (binders (view b.1))
    (binders_of_branches (branches_of (map view_branch bs) last)) h) in (
      ready_both d (memos_in (view b.1)) (memos_of_fields (fields_view bs)) (binders (view b.1)) (binders_of_fields (fields_view bs)) first
          behind.0,
      behind.1,
    )

pub case_ready : (d : ℕ) (t a z : Plan) (bs cs : List (Name × Plan)) (o p : Option Plan) → t ≡ plan.Case a bs o → z ≡ a → cs ≡ bs → p ≡ o
    → MayKeep d (view t)
    → MayKeep d (view z) × MayKeepFields (d + 1) (fields_view cs) × MayKeepBranches d (other_node p)
case_ready d t a z bs cs o p e f g k h =
    let B : Branches = branches_of (map view_branch bs) (other_node o) in
    let w = as_ready d (view t) (node.Case (view a) B) (ap view e ∙ view_Case a bs o) h in
    let inside = ready_under d (memos_of_branches B) (binders_of_branches B)
    (ready_behind d (memos_in (view a)) (memos_of_branches B) (binders (view a)) (binders_of_branches B + 1) w) in
    let both = branches_ready (d + 1) bs (other_node o) inside in (
      lent_ready d a z f (ready_first d (memos_in (view a)) (memos_of_branches B) (binders (view a)) (binders_of_branches B + 1) w),
      subst (λ (xs : List (Name × Plan)). MayKeepFields (d + 1) (fields_view xs)) (sym g) both.0,
      subst (λ (x : Option Plan). MayKeepBranches d (other_node x)) (sym k)
          (ready_outside d (memos_of_branches (other_node o)) (binders_of_branches (other_node o)) both.1),
    )

pub join_ready : (d : ℕ) (t : Plan) (j z : Join) → t ≡ plan.Join j → z ≡ j → MayKeep d (view t) → MayKeep d (join_view z)
join_ready d t j z e f h =
    subst (λ (x : Join). MayKeep d (join_view x)) (sym f) (as_ready d (view t) (join_view j) (ap view e ∙ view_Join j) h)

pub joined_ready : (d : ℕ) (j : Join) → MayKeep d (join_view j)
    → MayKeep d (view (out-Join j).outer) × MayKeepEach (d + 1) (nodes_view (out-Join j).conds) × MayKeepKey (d + 1)
    (keys_view (out-Join j).key) × MayKeep (d + 2) (view (out-Join j).body)
joined_ready d j h =
    let o = view (out-Join j).outer in
    let cs = nodes_view (out-Join j).conds in
    let q = keys_view (out-Join j).key in
    let b = view (out-Join j).body in
    let w = as_ready d (join_view j) (node.Join (out-Join j).number (out-Join j).kind (out-Join j).how o cs (out-Join j).inner q b)
    (view_join j) h in
    let conds = ready_behind d (memos_in o) (memos_of_nodes cs ++ (memos_of_key q ++ memos_in b)) (binders o)
    (max (binders_of_nodes cs + 1) (max (binders_of_key q + 1) (binders b + 2))) w in
    let keys = ready_behind d (memos_of_nodes cs) (memos_of_key q ++ memos_in b) (binders_of_nodes cs + 1)
    (max (binders_of_key q + 1) (binders b + 2)) conds in
    let body = ready_behind d (memos_of_key q) (memos_in b) (binders_of_key q + 1) (binders b + 2) keys in
    let low : d + (binders b + 2) < 2 ^ 32 = body.shallow in (
      ready_first d (memos_in o) (memos_of_nodes cs ++ (memos_of_key q ++ memos_in b)) (binders o)
          (max (binders_of_nodes cs + 1) (max (binders_of_key q + 1) (binders b + 2))) w,
      ready_under d (memos_of_nodes cs) (binders_of_nodes cs)
          (ready_first d (memos_of_nodes cs) (memos_of_key q ++ memos_in b) (binders_of_nodes cs + 1)
          (max (binders_of_key q + 1) (binders b + 2)) conds),
      ready_under d (memos_of_key q) (binders_of_key q) (ready_first d (memos_of_key q) (memos_in b) (binders_of_key q + 1)
          (binders b + 2) keys),
      record { bare = body.bare; shallow = omega (arith, low) },
    )

pub key_ready : (d : ℕ) (o : Option JoinKey) (k z : JoinKey) → o ≡ Some k → z ≡ k → MayKeepKey d (keys_view o)
    → MayKeep d (view (out-JoinKey z).value)
key_ready d o k z e f h =
    let g : MayKeepKey d (key_view k) = subst (λ (x : Option JoinKey). MayKeepKey d (keys_view x)) e h in
    let w : MayKeepKey d (key (out-JoinKey k).label (view (out-JoinKey k).value)) = rw (view_key k) at g in
    subst (λ (x : JoinKey). MayKeep d (view (out-JoinKey x).value)) (sym f) w

pub other_ready : (d : ℕ) (o : Option Plan) (a z : Plan) → o ≡ Some a → z ≡ a → MayKeepBranches d (other_node o) → MayKeep d (view z)
other_ready d o a z e f h =
    let g : MayKeepBranches d (other_node (Some a)) = subst (λ (x : Option Plan). MayKeepBranches d (other_node x)) e h in
    lent_ready d a z f g

-- ---- elements

pub each_ready : (d : ℕ) (ps : List Plan) (i : ℕ) (x : Plan) → i < length ps → x ≡ get_or ps i x → MayKeepEach d (nodes_view ps)
    → MayKeep d (view x)
each_ready d [] i x l e h = absurd (omega (arith, l))
each_ready d (p ∷ ps) zero x l e h = lent_ready d p x e (ready_first d (memos_in (view p)) (memos_of_nodes (nodes_view ps))
    (binders (view p)) (binders_of_nodes (nodes_view ps)) h)
each_ready d (p ∷ ps) (suc i) x l e h =
    each_ready d ps i x (omega (arith, l)) e (ready_behind d (memos_in (view p)) (memos_of_nodes (nodes_view ps)) (binders (view p))
    (binders_of_nodes (nodes_view ps)) h)

pub field_ready : (d : ℕ) (ps : List (Name × Plan)) (i : ℕ) (x : Name × Plan) → i < length ps → x ≡ get_or ps i x
    → MayKeepFields d (fields_view ps) → MayKeep d (view x.1)
field_ready d [] i x l e h = absurd (omega (arith, l))
field_ready d (p ∷ ps) zero x l e h =
    lent_ready d p.1 x.1 (ap (λ (y : Name × Plan). y.1) e) (ready_first d (memos_in (view p.1)) (memos_of_fields (fields_view ps))
    (binders (view p.1)) (binders_of_fields (fields_view ps)) h)
field_ready d (p ∷ ps) (suc i) x l e h =
    field_ready d ps i x (omega (arith, l)) e (ready_behind d (memos_in (view p.1)) (memos_of_fields (fields_view ps))
    (binders (view p.1)) (binders_of_fields (fields_view ps)) h)

-- as a loop has them
pub each_lent : (d : ℕ) (all xs ys : List Plan) (i : ℕ) (x : Plan) → xs ≡ all → i < length xs
    → (length ys ≡ length xs) × ((k : ℕ) (z : Plan) → i ≤ k → get_or ys k z ≡ get_or xs k z) → MayKeepEach d (nodes_view all)
    → MayKeep d (view (get_or ys i x))
each_lent d all xs ys i x e l h g =
    each_ready d xs i (get_or ys i x) l (unvisited_item xs ys i x l h) (subst (λ (zs : List Plan). MayKeepEach d (nodes_view zs)) (sym e) g)

pub field_lent : (d : ℕ) (all xs ys : List (Name × Plan)) (i : ℕ) (x : Name × Plan) → xs ≡ all → i < length xs
    → (length ys ≡ length xs) × ((k : ℕ) (z : Name × Plan) → i ≤ k → get_or ys k z ≡ get_or xs k z) → MayKeepFields d (fields_view all)
    → MayKeep d (view (get_or ys i x).1)
field_lent d all xs ys i x e l h g =
    field_ready d xs i (get_or ys i x) l (unvisited_item xs ys i x l h)
    (subst (λ (zs : List (Name × Plan)). MayKeepFields d (fields_view zs)) (sym e) g)
