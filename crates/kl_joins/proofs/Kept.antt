-- What is kept in a plan, by its form.
use Rattle.std.proofs.Common.{◌≡◌, ◌⊎◌, ⊎_elim, ℕ, ◌+◌, Bool, true, false, List, [], ◌∷◌, map, Option, Some, None, Result}
use Rattle.std.proofs.Common.{Ok, Err, IfOk, IsOkAnd, refl, sym, ap, subst, ◌∙◌}
use Rattle.kl_base.specs.declared.memory.NoMemory.{NoMemory}
use Rattle.kl_value.specs.declared.Kind.{Kind}
use Rattle.kl_outcome.specs.Outcome.{Name}
use Rattle.kl_core.specs.declared.term.Term.{Term}
use Rattle.kl_core.specs.Trees.{view as term_view}
use Rattle.kl_plan.specs.declared.plan.Join.{Join, out-Join}
use Rattle.kl_plan.specs.declared.plan.JoinKey.{JoinKey, out-JoinKey, roll-JoinKey}
use Rattle.kl_plan.specs.declared.plan.Plan.{Plan}
use Rattle.kl_plan.specs.declared.plan.Plan.TheVariants as plan
use Rattle.kl_plan.specs.declared.plan.Scan.{Scan}
use Rattle.kl_plan.specs.Joins.{join_view, key_view, keys_view, other_node}
use Rattle.kl_plan.specs.Nodes as node
use Rattle.kl_plan.specs.Nodes.{Node, Nodes, no_nodes, nodes, Fields, no_fields, fields, Branches, branch, Key, key, branches_of, view}
use Rattle.kl_plan.specs.Nodes.{view_branch, nodes_view, fields_view}
use Rattle.kl_plan.specs.Occurs.{frees_in}
use Rattle.kl_plan.proofs.Views.{view_Var, view_Rec, view_Proj, view_Inj, view_Case, view_Make, view_Union, view_Ext, view_If, view_Let, view_Join, view_Memo, view_join, view_key}
use Rattle.kl_plan.proofs.Views.{view_Prim, view_Scan}
use Rattle.kl_joins.specs.declared.keeping.Place.{Place}
use Rattle.kl_joins.specs.declared.keeping.Place.TheVariants as place
use Rattle.kl_joins.specs.Keeping.{MayKeep, WhetherKept}
use Rattle.kl_joins.specs.MemosMade.{aside, at_source, IsLooping, IsKept, IsNotKept, MemosMade, EachKept, FieldsKept, BranchesKept, KeyKept}
use Rattle.kl_joins.proofs.Fronts.{onto, Fronts}
use Rattle.kl_joins.proofs.Views.{view_Plain}

-- ---- results

if_ok : {P Q : Type 0} (r : Result (Unit {0}) NoMemory) → (P → Q) → IfOk r (λ _. P) → IfOk r (λ _. Q)
if_ok (Ok x) f p = f p
if_ok (Err e) f p = tt

-- what holds of a part and of the one behind it
behind_ok : {P Q R : Type 0} (r s : Result (Unit {0}) NoMemory) → IfOk r (λ _. P) → IfOk s (λ _. IsOkAnd r (λ _. Q)) → (P → Q → R)
    → IfOk s (λ _. R)
behind_ok (Ok x) (Ok y) p q go = go p q
behind_ok (Err e) (Ok y) p q go = absurd q
behind_ok r (Err e) p q go = tt

behind_both : (P Q : Type 0) (r s : Result (Unit {0}) NoMemory) → IfOk r (λ _. P) → IfOk s (λ _. IsOkAnd r (λ _. Q)) → IfOk s (λ _. P × Q)
behind_both P Q (Ok x) (Ok y) p q = (p, q)
behind_both P Q (Err e) (Ok y) p q = absurd q
behind_both P Q r (Err e) p q = tt

pub behind : {P : Type 0} (r : Result (Unit {0}) NoMemory) (x : Unit {0}) → r ≡ Ok x → P → IsOkAnd r (λ _. P)
behind r x e p = rw e p

behind_part : (P : Type 0) (r s : Result (Unit {0}) NoMemory) (x : Unit {0}) → r ≡ Ok x → IfOk s (λ _. P) → IfOk s (λ _. IsOkAnd r (λ _. P))
behind_part P r s x e h = if_ok s (behind r x e) h

-- ---- as the code has them

as_made : (l : Place) (d : ℕ) (p q p' q' : Node) → p ≡ p' → q ≡ q' → MemosMade l d p' q' → MemosMade l d p q
as_made l d p q p' q' e f h = subst (λ (x : Node). MemosMade l d x q) (sym e) (subst (λ (y : Node). MemosMade l d p' y) (sym f) h)

lent : (k l : Place) (d : ℕ) (z a x : Plan) → k ≡ l → z ≡ a → MemosMade k d (view z) (view x) → MemosMade l d (view a) (view x)
lent k l d z a x e f h = subst (λ (y : Plan). MemosMade l d (view y) (view x)) f (subst (λ m. MemosMade m d (view z) (view x)) e h)

pub next_made : (l : Place) (d : ℕ) (before r : Result (Unit {0}) NoMemory) (x : Unit {0}) (z a : Plan) (q : Node) → before ≡ Ok x → z ≡ a
    → IfOk r (λ _. MemosMade l d (view z) q)
    → IfOk r (λ _. IsOkAnd before (λ _. MemosMade l d (view a) q))
next_made l d before r x z a q f e h =
    behind_part (MemosMade l d (view a) q) before r x f (subst (λ (y : Plan). IfOk r (λ _. MemosMade l d (view y) q)) e h)

-- ---- a part that is kept, and one that is not

pub wrapped : (l : Place) (d : ℕ) (p q : Node) (b : Bool) (r : Result (Unit {0}) NoMemory) → WhetherKept b l p → b ≡ true
    → IfOk r (λ _. q ≡ node.Memo 0 (frees_in d p) p) → IfOk r (λ _. MemosMade l d p q)
wrapped l d p q b r k on h =
    let kept : IsKept l p = subst (λ c. WhetherKept c l p) on k in
    if_ok r (λ e. subst (λ (x : Node). MemosMade l d p x) (sym e) (kept, refl, refl, refl)) h

pub passed : (l : Place) (p : Node) (b : Bool) → WhetherKept b l p → b ≡ false → IsLooping p → IsNotKept l p
passed l p b k off = subst (λ c. WhetherKept c l p) off k

pub wrap_made : (p : Plan) (z q : Plan) (d : ℕ) (f : Result (List ℕ) NoMemory) (m : Result Plan NoMemory) (r : Result (Unit {0}) NoMemory)
    → IfOk f (λ fs. fs ≡ frees_in d (view p)) → z ≡ p
    → IfOk m (λ x. IsOkAnd f (λ fs. view x ≡ node.Memo 0 fs (view z))) → IfOk r (λ _. IsOkAnd m (λ x. q ≡ x))
    → IfOk r (λ _. view q ≡ node.Memo 0 (frees_in d (view p)) (view p))
wrap_made p z q d (Ok fs) (Ok x) (Ok y) h e g i = ap view i ∙ g ∙ ap (λ ns. node.Memo 0 ns (view z)) h
    ∙ ap (λ (n : Plan). node.Memo 0 (frees_in d (view p)) (view n)) e
wrap_made p z q d (Err a) (Ok x) (Ok y) h e g i = absurd g
wrap_made p z q d f (Err a) (Ok y) h e g i = absurd i
wrap_made p z q d f m (Err a) h e g i = tt

pub memo_made : (p a z : Plan) (f : Result (List ℕ) NoMemory) (fs : List ℕ) → f ≡ Ok fs → p ≡ plan.Memo 0 fs a → a ≡ z
    → IsOkAnd f (λ ns. view p ≡ node.Memo 0 ns (view z))
memo_made p a z f fs e g h = rw e (ap view g ∙ view_Memo 0 fs a ∙ ap (λ (n : Plan). node.Memo 0 fs (view n)) h)

pub put_made : (q x : Plan) (m : Result Plan NoMemory) → m ≡ Ok x → q ≡ x → IsOkAnd m (λ y. q ≡ y)
put_made q x m e h = rw e h

-- a loop's source
pub source_made : (l k : Place) (d : ℕ) (r : Result (Unit {0}) NoMemory) (x z a : Plan) (q : Node) → k ≡ at_source l (view x) → x ≡ a
    → z ≡ a → IfOk r (λ _. MemosMade k d (view z) q)
    → IfOk r (λ _. MemosMade (at_source l (view a)) d (view a) q)
source_made l k d r x z a q e f g h =
    let from : k ≡ at_source l (view a) = e ∙ ap (λ (m : Plan). at_source l (view m)) f in
    subst (λ n. IfOk r (λ _. MemosMade n d (view a) q)) from (subst (λ (y : Plan). IfOk r (λ _. MemosMade k d (view y) q)) g h)

-- ---- leaves

module _ (l : Place) (d : ℕ) (t : Plan) (ready : MayKeep d (view t)) (none : IsLooping (view t) → IsNotKept l (view t)) where
  plain_made : (x : Term) → t ≡ plan.Plain x → MemosMade l d (view t) (view t)
  plain_made x e = let is : view t ≡ node.Plain (term_view x) = ap view e
      ∙ view_Plain x in as_made l d (view t) (view t) (node.Plain (term_view x)) (node.Plain (term_view x)) is is refl

  var_made : (x : ℕ) → t ≡ plan.Var x → MemosMade l d (view t) (view t)
  var_made x e = let is : view t ≡ node.Var x = ap view e ∙ view_Var x in as_made l d (view t) (view t) (node.Var x) (node.Var x) is is refl

  scan_made : (x : Scan) → t ≡ plan.Scan x → MemosMade l d (view t) (view t)
  scan_made x e =
      let is : view t ≡ node.Scan x = ap view e ∙ view_Scan x in
      let not : IsLooping (node.Scan x) → IsNotKept l (node.Scan x) = subst (λ (p : Node). IsLooping p → IsNotKept l p) is none in
      as_made l d (view t) (view t) (node.Scan x) (node.Scan x) is is (refl, not tt)

  no_memo : (n : ℕ) (frees : List ℕ) (a : Plan) → t ≡ plan.Memo n frees a → MemosMade l d (view t) (view t)
  no_memo n frees a e =
      let is : view t ≡ node.Memo n frees (view a) = ap view e ∙ view_Memo n frees a in
      let at : MayKeep d (node.Memo n frees (view a)) = subst (λ (p : Node). MayKeep d p) is ready in
      let bare = at.bare in
      absurd cc

  pub leaf_made : ((x : Term) × (t ≡ plan.Plain x)) ⊎ (((x : ℕ) × (t ≡ plan.Var x)) ⊎
      (((n : ℕ) × (frees : List ℕ) × (a : Plan) × (t ≡ plan.Memo n frees a)) ⊎ ((x : Scan) × (t ≡ plan.Scan x))))
      → MemosMade l d (view t) (view t)
  leaf_made = ⊎_elim (λ h. plain_made h.0 h.1) (⊎_elim (λ h. var_made h.0 h.1)
      (⊎_elim (λ h. no_memo h.0 h.1 h.2 h.3) (λ h. scan_made h.0 h.1)))

-- ---- the forms

module _ (l : Place) (d : ℕ) (t u : Plan) where
  pub proj_made : (m : Name) (a z x : Plan) (k : Place) (r : Result (Unit {0}) NoMemory) → t ≡ plan.Proj m a → u ≡ plan.Proj m x → z ≡ a
      → k ≡ aside l
      → IfOk r (λ _. MemosMade k d (view z) (view x)) → IfOk r (λ _. MemosMade l d (view t) (view u))
  proj_made m a z x k r e f g j h =
      if_ok r (λ w. as_made l d (view t) (view u) (node.Proj m (view a)) (node.Proj m (view x)) (ap view e ∙ view_Proj m a)
      (ap view f ∙ view_Proj m x)
      (view a, refl, lent k (aside l) d z a x j g w)) h

  pub inj_made : (m : Name) (a z x : Plan) (k : Place) (r : Result (Unit {0}) NoMemory) → t ≡ plan.Inj m a → u ≡ plan.Inj m x → z ≡ a
      → k ≡ aside l
      → IfOk r (λ _. MemosMade k d (view z) (view x)) → IfOk r (λ _. MemosMade l d (view t) (view u))
  inj_made m a z x k r e f g j h =
      if_ok r (λ w. as_made l d (view t) (view u) (node.Inj m (view a)) (node.Inj m (view x)) (ap view e ∙ view_Inj m a)
      (ap view f ∙ view_Inj m x)
      (view a, refl, lent k (aside l) d z a x j g w)) h

  each_as : (ps zs qs : List Plan) (k : Place) → zs ≡ ps → k ≡ aside l → EachKept k d (nodes_view zs) (nodes_view qs)
      → EachKept (aside l) d (nodes_view ps) (nodes_view qs)
  each_as ps zs qs k g j h =
      subst (λ (xs : List Plan). EachKept (aside l) d (nodes_view xs) (nodes_view qs)) g
      (subst (λ m. EachKept m d (nodes_view zs) (nodes_view qs)) j h)

  pub make_made : (c : Kind) (ps zs qs : List Plan) (k : Place) (r : Result (Unit {0}) NoMemory) → t ≡ plan.Make c ps → u ≡ plan.Make c qs
      → zs ≡ ps → k ≡ aside l
      → IfOk r (λ _. EachKept k d (nodes_view zs) (nodes_view qs)) → IfOk r (λ _. MemosMade l d (view t) (view u))
  make_made c ps zs qs k r e f g j h =
      if_ok r (λ w. as_made l d (view t) (view u) (node.Make c (nodes_view ps)) (node.Make c (nodes_view qs)) (ap view e ∙ view_Make c ps)
      (ap view f ∙ view_Make c qs)
      (nodes_view ps, refl, each_as ps zs qs k g j w)) h

  pub prim_made : (c : ℕ) (ps zs qs : List Plan) (k : Place) (r : Result (Unit {0}) NoMemory) → t ≡ plan.Prim c ps → u ≡ plan.Prim c qs
      → zs ≡ ps → k ≡ aside l
      → IfOk r (λ _. EachKept k d (nodes_view zs) (nodes_view qs)) → IfOk r (λ _. MemosMade l d (view t) (view u))
  prim_made c ps zs qs k r e f g j h =
      if_ok r (λ w. as_made l d (view t) (view u) (node.Prim c (nodes_view ps)) (node.Prim c (nodes_view qs)) (ap view e ∙ view_Prim c ps)
      (ap view f ∙ view_Prim c qs)
      (nodes_view ps, refl, each_as ps zs qs k g j w)) h

  pub rec_made : (ps zs qs : List (Name × Plan)) (k : Place) (r : Result (Unit {0}) NoMemory) → t ≡ plan.Rec ps
      → u ≡ plan.Rec qs → zs ≡ ps → k ≡ aside l
      → IfOk r (λ _. FieldsKept k d (fields_view zs) (fields_view qs)) → IfOk r (λ _. MemosMade l d (view t) (view u))
  rec_made ps zs qs k r e f g j h =
      if_ok r (λ w. as_made l d (view t) (view u) (node.Rec (fields_view ps)) (node.Rec (fields_view qs)) (ap view e ∙ view_Rec ps)
      (ap view f ∙ view_Rec qs) (
        fields_view ps,
        refl,
        subst (λ (xs : List (Name × Plan)). FieldsKept (aside l) d (fields_view xs) (fields_view qs)) g
            (subst (λ m. FieldsKept m d (fields_view zs) (fields_view qs)) j w),
      )) h

  pub union_made : (a b y z v w : Plan) (r s : Result (Unit {0}) NoMemory) → t ≡ plan.Union a b → u ≡ plan.Union v w → y ≡ a → z ≡ b
      → IfOk r (λ _. MemosMade l d (view y) (view v)) → IfOk s (λ _. IsOkAnd r (λ _. MemosMade l d (view z) (view w)))
      → IfOk s (λ _. MemosMade l d (view t) (view u))
  union_made a b y z v w r s e f g j h i =
      behind_ok r s h i (λ m n. as_made l d (view t) (view u) (node.Union (view a) (view b)) (node.Union (view v) (view w))
      (ap view e ∙ view_Union a b) (ap view f ∙ view_Union v w)
      (view a, view b, refl, lent l l d y a v refl g m, lent l l d z b w refl j n))

  pub let_made : (a b y z v w : Plan) (k : Place) (r s : Result (Unit {0}) NoMemory) → t ≡ plan.Let a b → u ≡ plan.Let v w → y ≡ a → z ≡ b
      → k ≡ aside l
      → IfOk r (λ _. MemosMade k d (view y) (view v)) → IfOk s (λ _. IsOkAnd r (λ _. MemosMade l (d + 1) (view z) (view w)))
      → IfOk s (λ _. MemosMade l d (view t) (view u))
  let_made a b y z v w k r s e f g j o h i =
      behind_ok r s h i (λ m n. as_made l d (view t) (view u) (node.Let (view a) (view b)) (node.Let (view v) (view w))
      (ap view e ∙ view_Let a b) (ap view f ∙ view_Let v w)
      (view a, view b, refl, lent k (aside l) d y a v o g m, lent l l (d + 1) z b w refl j n))

  -- y is the body that was lent, z the source
  pub ext_made : (c : Kind) (b a y z v w : Plan) (r s : Result (Unit {0}) NoMemory) → (IsLooping (view t) → IsNotKept l (view t))
      → t ≡ plan.Ext c b a → u ≡ plan.Ext c v w → y ≡ b → z ≡ a
      → IfOk r (λ _. MemosMade (at_source l (view z)) d (view z) (view w))
      → IfOk s (λ _. IsOkAnd r (λ _. MemosMade place.Spine (d + 1) (view y) (view v)))
      → IfOk s (λ _. MemosMade l d (view t) (view u))
  ext_made c b a y z v w r s none e f g j h i =
      let is : view t ≡ node.Ext c (view b) (view a) = ap view e ∙ view_Ext c b a in
      let not : IsLooping (node.Ext c (view b) (view a)) → IsNotKept l (node.Ext c (view b) (view a)) = subst
      (λ (p : Node). IsLooping p → IsNotKept l p) is none in
      behind_ok r s h i (λ m n. as_made l d (view t) (view u) (node.Ext c (view b) (view a)) (node.Ext c (view v) (view w)) is
      (ap view f ∙ view_Ext c v w) (
        view b,
        view a,
        refl,
        not tt,
        lent place.Spine place.Spine (d + 1) y b v refl g n,
        subst
            (λ (x : Plan). MemosMade (at_source l (view x)) d (view x) (view w)) j m,
      ))

  pub if_made : (a b c x y z v w o : Plan) (k : Place) (r s q : Result (Unit {0}) NoMemory) → t ≡ plan.If a b c → u ≡ plan.If v w o
      → x ≡ a → y ≡ b → z ≡ c → k ≡ aside l
      → IfOk r (λ _. MemosMade k d (view x) (view v)) → IfOk s (λ _. IsOkAnd r (λ _. MemosMade l d (view y) (view w)))
      → IfOk q (λ _. IsOkAnd s (λ _. MemosMade l d (view z) (view o)))
      → IfOk q (λ _. MemosMade l d (view t) (view u))
  if_made a b c x y z v w o k r s q e f g j i p first second third =
      behind_ok s q (behind_both (MemosMade k d (view x) (view v)) (MemosMade l d (view y) (view w)) r s first second) third
      (λ m n. as_made l d (view t) (view u) (node.If (view a) (view b) (view c)) (node.If (view v) (view w) (view o))
      (ap view e ∙ view_If a b c) (ap view f ∙ view_If v w o)
      (view a, view b, view c, refl, lent k (aside l) d x a v p g m.0, lent l l d y b w refl j m.1, lent l l d z c o refl i n))

-- ---- cases

branches_made : (l : Place) (d : ℕ) (bs cs : List (Name × Plan)) (o p : Branches) → FieldsKept l (d + 1) (fields_view bs) (fields_view cs)
    → BranchesKept l d o p
    → BranchesKept l d (branches_of (map view_branch bs) o) (branches_of (map view_branch cs) p)
branches_made l d [] [] o p h g = g
branches_made l d (b ∷ bs) [] o p h g = absurd cc
branches_made l d [] (c ∷ cs) o p h g = let none = h.2 in absurd cc
branches_made l d (b ∷ bs) (c ∷ cs) o p h g =
    let is = h.2 in
    let label : b.0 ≡ c.0 = cc in
    let first : h.0 ≡ view b.1 = cc in
    let others : h.1 ≡ fields_view bs = cc in
    let B : Branches = branches_of (map view_branch bs) o in (
      view b.1,
      B,
      ap (λ m. branch m (view b.1) B) label,
      subst (λ (x : Node). MemosMade l (d + 1) x (view c.1)) first h.3,
      branches_made l d bs cs o p (subst (λ (xs : Fields). FieldsKept l (d + 1) xs (fields_view cs)) others h.4) g,
    )

pub case_made : (l : Place) (d : ℕ) (t u a z x : Plan) (bs zs cs : List (Name × Plan)) (o y p : Option Plan) (k : Place)
    (r s q : Result (Unit {0}) NoMemory) → t ≡ plan.Case a bs o → u ≡ plan.Case x cs p
    → z ≡ a → zs ≡ bs → y ≡ o → k ≡ aside l → IfOk r (λ _. MemosMade k d (view z) (view x))
    → IfOk s (λ _. IsOkAnd r (λ _. FieldsKept l (d + 1) (fields_view zs) (fields_view cs)))
    → IfOk q (λ _. IsOkAnd s (λ _. BranchesKept l d (other_node y) (other_node p))) → IfOk q (λ _. MemosMade l d (view t) (view u))
case_made l d t u a z x bs zs cs o y p k r s q e f g i j w first second third =
    let B : Branches = branches_of (map view_branch bs) (other_node o) in
    let C : Branches = branches_of (map view_branch cs) (other_node p) in
    behind_ok s q (behind_both (MemosMade k d (view z) (view x)) (FieldsKept l (d + 1) (fields_view zs) (fields_view cs)) r s first
    second) third
    (λ m n. as_made l d (view t) (view u) (node.Case (view a) B) (node.Case (view x) C) (ap view e ∙ view_Case a bs o)
    (ap view f ∙ view_Case x cs p) (
      view a,
      B,
      refl,
      lent k (aside l) d z a x w g m.0,
      branches_made l d bs cs (other_node o) (other_node p) (subst
          (λ (xs : List (Name × Plan)). FieldsKept l (d + 1) (fields_view xs) (fields_view cs)) i m.1)
          (subst (λ (h : Option Plan). BranchesKept l d (other_node h) (other_node p)) j n),
    ))

pub other_made : (l : Place) (d : ℕ) (before r : Result (Unit {0}) NoMemory) (x : Unit {0}) (o p : Option Plan) (a z y : Plan)
    → before ≡ Ok x → o ≡ Some a → p ≡ Some y → z ≡ a
    → IfOk r (λ _. MemosMade l d (view z) (view y)) → IfOk r (λ _. IsOkAnd before (λ _. BranchesKept l d (other_node o) (other_node p)))
other_made l d before r x o p a z y e f g i h =
    behind_part (BranchesKept l d (other_node o) (other_node p)) before r x e (if_ok r (λ w.
    let here : BranchesKept l d (other_node (Some a)) (other_node (Some y)) = (view a, refl, lent l l d z a y refl i w) in
    rw (f, g) here) h)

pub no_other : (l : Place) (d : ℕ) (before : Result (Unit {0}) NoMemory) (x : Unit {0}) (o p : Option Plan) → before ≡ Ok x → o ≡ None
    → p ≡ None → IsOkAnd before (λ _. BranchesKept l d (other_node o) (other_node p))
no_other l d before x o p e f g = behind before x e (rw (f, g) refl)

-- ---- joins

pub joined_made : (l : Place) (d : ℕ) (t u : Plan) (j z x : Join) (r : Result (Unit {0}) NoMemory) → t ≡ plan.Join j → u ≡ plan.Join x
    → z ≡ j
    → IfOk r (λ _. MemosMade l d (join_view z) (join_view x)) → IfOk r (λ _. MemosMade l d (view t) (view u))
joined_made l d t u j z x r e f g h =
    if_ok r (λ w. as_made l d (view t) (view u) (join_view j) (join_view x) (ap view e ∙ view_Join j) (ap view f ∙ view_Join x)
    (subst (λ (y : Join). MemosMade l d (join_view y) (join_view x)) g w)) h

pub join_passed : (l : Place) (t : Plan) (j z : Join) → t ≡ plan.Join j → z ≡ j → (IsLooping (view t) → IsNotKept l (view t))
    → IsNotKept l (join_view z)
join_passed l t j z e f none =
    let is : view t ≡ join_view j = ap view e ∙ view_Join j in
    let not : IsLooping (join_view j) → IsNotKept l (join_view j) = subst (λ (p : Node). IsLooping p → IsNotKept l p) is none in
    let looping : IsLooping (join_view j) = rw (view_join j) tt in
    subst (λ (y : Join). IsNotKept l (join_view y)) (sym f) (not looping)

pub join_made : (l k : Place) (d : ℕ) (j u : Join) (x b : Plan) (cs : List Plan) (q : Option JoinKey) (r : Result (Unit {0}) NoMemory)
    → join_view u ≡ node.Join (out-Join j).number (out-Join j).kind (out-Join j).how (view x) (nodes_view cs) (out-Join j).inner
    (keys_view q) (view b)
    → IsNotKept l (join_view j) → k ≡ aside l → MemosMade k d (view (out-Join j).outer) (view x)
    → EachKept place.Aside (d + 1) (nodes_view (out-Join j).conds) (nodes_view cs)
    → KeyKept (d + 1) (keys_view (out-Join j).key) (keys_view q)
    → IfOk r (λ _. MemosMade place.Spine (d + 2) (view (out-Join j).body) (view b))
    → IfOk r (λ _. MemosMade l d (join_view j) (join_view u))
join_made l k d j u x b cs q r seen none g first conds keys body =
    let o = view (out-Join j).outer in
    let ps = nodes_view (out-Join j).conds in
    let c = keys_view (out-Join j).key in
    let a = view (out-Join j).body in
    let was : Node = node.Join (out-Join j).number (out-Join j).kind (out-Join j).how o ps (out-Join j).inner c a in
    let not : IsNotKept l was = subst (λ (p : Node). IsNotKept l p) (view_join j) none in
    if_ok r (λ w. as_made l d (join_view j) (join_view u) was (node.Join (out-Join j).number (out-Join j).kind (out-Join j).how (view x)
    (nodes_view cs) (out-Join j).inner (keys_view q) (view b))
    (view_join j) seen
    (o, ps, c, a, refl, not, subst (λ m. MemosMade m d o (view x)) g first, conds, keys, w)) body

pub key_made : (d : ℕ) (o : Option JoinKey) (k z : JoinKey) (y : Plan) (r : Result (Unit {0}) NoMemory) → o ≡ Some k → z ≡ k
    → IfOk r (λ _. MemosMade place.Aside d (view (out-JoinKey z).value) (view y))
    → IfOk r (λ _. KeyKept d (keys_view o) (keys_view (Some (roll-JoinKey (record { label = (out-JoinKey z).label; value = y })))))
key_made d o k z y r e g h =
    let u : JoinKey = roll-JoinKey (record { label = (out-JoinKey z).label; value = y }) in
    if_ok r (λ w.
    let from : keys_view o ≡ key (out-JoinKey z).label (view (out-JoinKey z).value) = ap keys_view (e ∙ ap Some (sym g)) ∙ view_key z in
    let here : KeyKept d (key (out-JoinKey z).label (view (out-JoinKey z).value))
    (key (out-JoinKey z).label (view y)) = (view (out-JoinKey z).value, refl, w) in
    subst (λ (q : Key). KeyKept d q (key_view u)) (sym from)
    (subst (λ (q : Key). KeyKept d (key (out-JoinKey z).label (view (out-JoinKey z).value)) q) (sym (view_key u)) here)) h

pub no_key_made : (d : ℕ) (o p : Option JoinKey) → o ≡ None → p ≡ None → KeyKept d (keys_view o) (keys_view p)
no_key_made d o p e f = rw (e, f) refl

-- ---- elements

abbrev pub node_front : Plan → Nodes → Nodes
node_front p ps = nodes (view p) ps

abbrev pub field_front : Name × Plan → Fields → Fields
field_front f fs = fields f.0 (view f.1) fs

nodes_onto : (ps : List Plan) → onto node_front ps no_nodes ≡ nodes_view ps
nodes_onto [] = refl
nodes_onto (p ∷ ps) = ap (nodes (view p)) (nodes_onto ps)

fields_onto : (ps : List (Name × Plan)) → onto field_front ps no_fields ≡ fields_view ps
fields_onto [] = refl
fields_onto (p ∷ ps) = ap (fields p.0 (view p.1)) (fields_onto ps)

pub node_kept : (l : Place) (d : ℕ) (x y : Plan) → MemosMade l d (view x) (view y) → (p q : Nodes) → EachKept l d p q
    → EachKept l d (node_front x p) (node_front y q)
node_kept l d x y h p q g = (view x, p, refl, h, g)

pub field_kept : (l : Place) (d : ℕ) (x : Name × Plan) (y : Plan) → MemosMade l d (view x.1) (view y) → (p q : Fields)
    → FieldsKept l d p q → FieldsKept l d (field_front x p) (field_front (x.0, y) q)
field_kept l d x y h p q g = (view x.1, p, refl, h, g)

pub nodes_kept : (l : Place) (d : ℕ) (ps qs : List Plan) → Fronts node_front (EachKept l d) ps qs
    → EachKept l d (nodes_view ps) (nodes_view qs)
nodes_kept l d ps qs h = rw (← nodes_onto ps, ← nodes_onto qs) (h no_nodes no_nodes refl)

pub fields_kept : (l : Place) (d : ℕ) (ps qs : List (Name × Plan)) → Fronts field_front (FieldsKept l d) ps qs
    → FieldsKept l d (fields_view ps) (fields_view qs)
fields_kept l d ps qs h = rw (← fields_onto ps, ← fields_onto qs) (h no_fields no_fields refl)
