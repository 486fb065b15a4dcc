-- In a plan that was made with delegation no test and no loop is left that a driver could do.
use Rattle.std.proofs.Common.{◌≡◌, ◌⊎◌, inl, inr, ⊎_elim, ℕ, suc, ◌+◌, ◌-◌, ◌<◌, ◌≤◌, Bool, true, false, not, ◌&&◌, cond, nat_lt, List, [], ◌∷◌, map, filter, length, Option, Some, None, slice_get, refl, sym, ap, subst, ◌∙◌, arith}
use Rattle.std.specs.List.{AllByRecursion}
use Rattle.std.proofs.lemmas.Bool.{cases_lt, lt-ltb, le-ltb}
use mathlib.Core.Path.{ap₂}
use Rattle.kl_value.specs.declared.Kind.{Kind}
use Rattle.kl_value.specs.declared.Kind.TheVariants as kind
use Rattle.kl_value.specs.declared.Value.{Value}
use Rattle.kl_outcome.specs.Outcome.{Name}
use Rattle.kl_core.specs.Trees as term
use Rattle.kl_core.specs.Trees.{Tree, Var, Const, Source, Rec, Proj, Inj, Case, Make, Union, Ext, If, Let, Prim, Trees, no_trees, trees, Parts, Arms}
use Rattle.kl_sqltext.specs.declared.ast.SqlOp.{SqlOp}
use Rattle.kl_sqltext.specs.declared.ast.SqlTest.{SqlTest}
use Rattle.kl_ask.specs.Asks.{columns, item_of, kind_of}
use Rattle.kl_ask.specs.declared.ask.Ask.TheVariants as asks
use Rattle.kl_type.specs.Ground.{Ground, bool, int, str, rec, var, coll, arrow, IsGround}
use Rattle.kl_sqltext.proofs.Answer.{unique}
use Rattle.kl_sqltext.specs.Written.{statement_text}
use Rattle.kl_ship.specs.declared.needs.Need.{Need}
use Rattle.kl_ship.specs.declared.needs.Need.TheVariants as need
use Rattle.kl_plan.specs.declared.plan.Scan.{Scan}
use Rattle.kl_ship.specs.declared.source.ShipSource.{ShipSource}
use Rattle.kl_plan.specs.Nodes as node
use Rattle.kl_plan.specs.Nodes.{Node, Nodes, no_nodes, nodes, Fields, no_fields, fields, Branches, no_branches, rest, branch}
use Rattle.kl_ship.specs.Sources.{ground, fits, fits_source}
use Rattle.kl_ship.specs.Contents.{AreSources}
use Rattle.kl_ship.specs.Delegation.{comparison, variable, constant, column_at, column_of, test_between, test_by, test_of, is_empty, is_front, taken_before, taken, body_left, whole_use, column_use, in_use, or_first, first_of, kept_of}
use Rattle.kl_ship.specs.Joined.{MayJoin, IsJoinable, Joins, row_parts, packed_variable, packed_column, packed, packed_trees, label_in, columns_at, over_shown, statement}
use Rattle.kl_ship.specs.Ships.{Sends, IsScan, Becomes, TreesBecome, PartsBecome, ArmsBecome, passed_on, is_generator, ByRows, BySql, ByAsk, Delegates}
use Rattle.kl_ship.specs.Full.{Shows, IsUsed, IsFull, IsFullAt, FullyShipped, FullNodes, FullFields, FullBranches}
use Rattle.kl_plan.specs.Erased.{erased, erased_nodes}
use Rattle.kl_ship.proofs.Bare.{sent_bare}
use Rattle.kl_ship.proofs.Directly.{bare_loop}
use Rattle.kl_ship.proofs.Kept.{none_left, not_variable, variable_none, packed_total}
use Rattle.kl_ship.proofs.Fully.{uses_erased, variable_erased}
use Rattle.kl_ship.proofs.ColumnsLeft.{Strict, AllStrict, labels_strict, shown_used}

-- ---- tests of a packed condition

none_between : (o : SqlOp) (ca cb ca' cb' : Option (ℕ × Name)) (va vb va' vb' : Option Value) → (ca ≡ None → ca' ≡ None) → (cb ≡ None → cb' ≡ None) → (va ≡ None → va' ≡ None) → (vb ≡ None → vb' ≡ None)
    → test_between o ca cb va vb ≡ None → test_between o ca' cb' va' vb' ≡ None
none_between o (Some a) (Some b) ca' cb' va vb va' vb' f g p q h = cc
none_between o None None ca' cb' va vb va' vb' f g p q h = ap₂ (λ x y. test_between o x y va' vb') (f refl) (g refl)
none_between o (Some a) None ca' cb' va (Some w) va' vb' f g p q h = cc
none_between o (Some a) None ca' cb' va None va' vb' f g p q h = ap₂ (λ x y. test_between o ca' x va' y) (g refl) (q refl) ∙ by ca'
  where
    by : (c : Option (ℕ × Name)) → test_between o c None va' None ≡ None
    by (Some c) = refl
    by None = refl
none_between o None (Some b) ca' cb' (Some v) vb va' vb' f g p q h = cc
none_between o None (Some b) ca' cb' None vb va' vb' f g p q h = ap₂ (λ x y. test_between o x cb' y vb') (f refl) (p refl) ∙ by cb'
  where
    by : (c : Option (ℕ × Name)) → test_between o None c None vb' ≡ None
    by (Some c) = refl
    by None = refl

module _ (n : ℕ) (some : 0 < n) (shown : ℕ → Name → Name) (all : ℕ → List Name) where
  abbrev Packed : Tree → Tree
  Packed = packed n shown all 0

  -- whatever a variable becomes, it is one of three forms
  of_variable : {X : Type 0} (f : Tree → X) (x : ℕ) (z : X) → ((y : ℕ) → f (Var y) ≡ z) → ((ps : Parts) → f (Rec ps) ≡ z) → f (packed_variable n shown all 0 x) ≡ z
  of_variable f x z g h = by (nat_lt x 0) (nat_lt x (0 + n))
    where
      by : (b c : Bool) → f (cond b (Var x) (cond c (Rec (row_parts (shown (x - 0)) 0 (all (x - 0)))) (Var (x + 1 - n)))) ≡ z
      by true c = g x
      by false true = h (row_parts (shown (x - 0)) 0 (all (x - 0)))
      by false false = g (x + 1 - n)

  of_column : {X : Type 0} (f : Tree → X) (l : Name) (o : Option ℕ) (t : Tree) (z : X) → ((m : Name) (u : Tree) → f (Proj m u) ≡ z) → f (packed_column n shown all 0 l o (Proj l t)) ≡ z
  of_column f l (Some x) t z g = by (not (nat_lt x 0) && nat_lt x (0 + n))
    where
      by : (b : Bool) → f (cond b (Proj (shown (x - 0) l) (Var 0)) (Proj l t)) ≡ z
      by true = g (shown (x - 0) l) (Var 0)
      by false = g l t
  of_column f l None t z g = g l t

  constant_packed : (a : Tree) → constant a ≡ None → constant (Packed a) ≡ None
  constant_packed (Var x) h = of_variable constant x None (λ y. refl) (λ ps. refl)
  constant_packed (Const v) h = cc
  constant_packed (Proj l a) h = of_column constant l (variable a) (Packed a) None (λ m u. refl)
  constant_packed a h = refl

  column_packed : (a : Tree) → column_of n a ≡ None → column_of 1 (Packed a) ≡ None
  column_packed (Var x) h = of_variable (column_of 1) x None (λ y. refl) (λ ps. refl)
  column_packed (Proj l (Var x)) h = ⊎_elim low high (cases_lt x n)
    where
      low : x < n → column_of 1 (Packed (Proj l (Var x))) ≡ None
      low lt = absurd (let g : Some (n - 1 - x, l) ≡ None = sym (ap (λ b. cond b (Some (n - 1 - x, l)) None) (lt-ltb x n lt)) ∙ h in cc)

      high : n ≤ x → column_of 1 (Packed (Proj l (Var x))) ≡ None
      high le =
          let zero_le : 0 ≤ x = omega arith in
          let above : 0 + n ≤ x = omega (arith, le) in
          let out : 1 ≤ x + 1 - n = omega (arith, le, some) in
          rw (le-ltb x 0 zero_le, le-ltb x (0 + n) above) (ap (λ b. cond b (Some (1 - 1 - (x + 1 - n), l)) None) (le-ltb (x + 1 - n) 1 out))
  column_packed (Proj l a) h = ap (column_at 1 l) (variable_none n some shown all 0 (Packed a) (not_variable n some shown all 0 a 0 refl))
  column_packed a h = refl

  by_packed : (o : Option SqlOp) (ts : Trees) → test_by n o ts ≡ None → test_by 1 o (packed_trees n shown all 0 ts) ≡ None
  by_packed None ts h = refl
  by_packed (Some o) no_trees h = refl
  by_packed (Some o) (trees a no_trees) h = refl
  by_packed (Some o) (trees a (trees b (trees c ts))) h = refl
  by_packed (Some o) (trees a (trees b no_trees)) h =
      none_between o (column_of n a) (column_of n b) (column_of 1 (Packed a)) (column_of 1 (Packed b)) (constant a) (constant b) (constant (Packed a)) (constant (Packed b)) (column_packed a) (column_packed b) (constant_packed a) (constant_packed b) h

  test_packed : (c : Tree) → test_of n c ≡ None → test_of 1 (Packed c) ≡ None
  test_packed (Prim c ts) h = by_packed (comparison c) ts h
  test_packed (Var x) h = of_variable (test_of 1) x None (λ y. refl) (λ ps. refl)
  test_packed (Proj l a) h = of_column (test_of 1) l (variable a) (Packed a) None (λ m u. refl)
  test_packed c h = refl

  empty_packed : (k : Kind) (e : Tree) → is_empty k (Packed e) ≡ is_empty k e
  empty_packed k (Var x) = of_variable (is_empty k) x false (λ y. refl) (λ ps. refl)
  empty_packed k (Proj l a) = of_column (is_empty k) l (variable a) (Packed a) false (λ m u. refl)
  empty_packed k (Make j no_trees) = refl
  empty_packed k (Make j (trees t ts)) = refl
  empty_packed k e = refl

  none_taken_packed : (k : Kind) (d : Tree) → taken k n d ≡ [] → taken k 1 (Packed d) ≡ []
  none_taken_packed k (If c d e) h = by (is_front k c e) refl (test_of n c) refl (none_taken_packed k d)
    where
      front_same : is_front k (Packed c) (Packed e) ≡ is_front k c e
      front_same = ap₂ (λ x y. x && y) (packed_total n some shown all 0 c 0) (empty_packed k e)

      by : (front : Bool) → is_front k c e ≡ front → (test : Option SqlTest) → test_of n c ≡ test → (taken k n d ≡ [] → taken k 1 (Packed d) ≡ []) → cond (is_front k (Packed c) (Packed e)) (taken_before (test_of 1 (Packed c)) (taken k 1 (Packed d))) [] ≡ []
      by false f test g more = ap (λ x. cond x (taken_before (test_of 1 (Packed c)) (taken k 1 (Packed d))) []) (front_same ∙ f)
      by true f (Some q) g more =
          absurd (let z : q ∷ taken k n d ≡ [] = sym (ap (λ x. cond x (taken_before (test_of n c) (taken k n d)) []) f ∙ ap (λ x. taken_before x (taken k n d)) g) ∙ h in cc)
      by true f None g more =
          let z : taken k n d ≡ [] = sym (ap (λ x. cond x (taken_before (test_of n c) (taken k n d)) []) f ∙ ap (λ x. taken_before x (taken k n d)) g) ∙ h in
          ap (λ x. cond x (taken_before (test_of 1 (Packed c)) (taken k 1 (Packed d))) []) (front_same ∙ f) ∙ ap (λ x. taken_before x (taken k 1 (Packed d))) (test_packed c g) ∙ more z
  none_taken_packed k (Var x) h = of_variable (taken k 1) x [] (λ y. refl) (λ ps. refl)
  none_taken_packed k (Proj l a) h = of_column (taken k 1) l (variable a) (Packed a) [] (λ m u. refl)
  none_taken_packed k d h = refl

  source_packed : (j : ℕ) (t : Tree) → Packed t ≡ Source j → t ≡ Source j
  source_packed j (Source i) h = h
  source_packed j (Var x) h = absurd (let f : true ≡ false = sym (of_variable not_a_source x true (λ y. refl) (λ ps. refl)) ∙ ap not_a_source h in cc)
    where
      not_a_source : Tree → Bool
      not_a_source (Source i) = false
      not_a_source t = true
  source_packed j (Proj l a) h = absurd (let f : true ≡ false = sym (of_column not_a_source l (variable a) (Packed a) true (λ m u. refl)) ∙ ap not_a_source h in cc)
    where
      not_a_source : Tree → Bool
      not_a_source (Source i) = false
      not_a_source t = true
  source_packed j t h = cc

-- ---- tests and fronts of a plan are those of its term

module _ (ss : List ShipSource) where
  constant_erased : (p : Node) (on : Bool) (u : Need) (t : Tree) (n m : ℕ) → Becomes on ss u t n p m → constant (erased p) ≡ constant t
  constant_erased (node.Plain x) on u t n m w = ap constant (sym w.is)
  constant_erased (node.Var x) on u t n m w = ap constant (sym w.0)
  constant_erased (node.Rec ps) on u t n m w = ap constant (sym w.1)
  constant_erased (node.Proj l a) on u t n m w = ap constant (sym w.1)
  constant_erased (node.Inj l a) on u t n m w = ap constant (sym w.1)
  constant_erased (node.Case a bs) on u t n m w = ap constant (sym w.3)
  constant_erased (node.Make k ps) on u t n m w = ap constant (sym w.1)
  constant_erased (node.Union a b) on u t n m w = ap constant (sym w.3)
  constant_erased (node.Ext k b s) on u t n m w = ap constant (sym w.4)
  constant_erased (node.If a b c) on u t n m w = ap constant (sym w.5)
  constant_erased (node.Let a b) on u t n m w = ap constant (sym w.3)
  constant_erased (node.Prim c ps) on u t n m w = ap constant (sym w.1)
  constant_erased (node.Scan c) on u t n m w = ap constant (sym w.2)
  constant_erased (node.Join number k how o cs c q b) on u t n m w = absurd w
  constant_erased (node.Memo number frees p) on u t n m w = absurd w

  column_erased : (p : Node) (r : ℕ) (on : Bool) (u : Need) (t : Tree) (n m : ℕ) → Becomes on ss u t n p m → column_of r (erased p) ≡ column_of r t
  column_erased (node.Plain x) r on u t n m w = ap (column_of r) (sym w.is)
  column_erased (node.Var x) r on u t n m w = ap (column_of r) (sym w.0)
  column_erased (node.Rec ps) r on u t n m w = ap (column_of r) (sym w.1)
  column_erased (node.Proj l a) r on u t n m w = ap (column_at r l) (variable_erased ss a on need.Whole w.0 n m w.2) ∙ ap (column_of r) (sym w.1)
  column_erased (node.Inj l a) r on u t n m w = ap (column_of r) (sym w.1)
  column_erased (node.Case a bs) r on u t n m w = ap (column_of r) (sym w.3)
  column_erased (node.Make k ps) r on u t n m w = ap (column_of r) (sym w.1)
  column_erased (node.Union a b) r on u t n m w = ap (column_of r) (sym w.3)
  column_erased (node.Ext k b s) r on u t n m w = ap (column_of r) (sym w.4)
  column_erased (node.If a b c) r on u t n m w = ap (column_of r) (sym w.5)
  column_erased (node.Let a b) r on u t n m w = ap (column_of r) (sym w.3)
  column_erased (node.Prim c ps) r on u t n m w = ap (column_of r) (sym w.1)
  column_erased (node.Scan c) r on u t n m w = ap (column_of r) (sym w.2)
  column_erased (node.Join number k how o cs c q b) r on u t n m w = absurd w
  column_erased (node.Memo number frees p) r on u t n m w = absurd w

  by_erased : (r : ℕ) (o : Option SqlOp) (ps : Nodes) (on : Bool) (ts : Trees) (n m : ℕ) → TreesBecome on ss ts n ps m → test_by r o (erased_nodes ps) ≡ test_by r o ts
  by_erased r None ps on ts n m w = refl
  by_erased r (Some o) no_nodes on ts n m w = ap (test_by r (Some o)) (sym w.0)
  by_erased r (Some o) (nodes a no_nodes) on ts n m w = ap (test_by r (Some o)) (sym (w.3 ∙ ap (trees w.0) w.5.0))
  by_erased r (Some o) (nodes a (nodes b (nodes c ps))) on ts n m w = ap (test_by r (Some o)) (sym (w.3 ∙ ap (trees w.0) (w.5.3 ∙ ap (trees w.5.0) w.5.5.3)))
  by_erased r (Some o) (nodes a (nodes b no_nodes)) on ts n m w =
      ap₂ (λ x y. test_between o x y (constant (erased a)) (constant (erased b))) (column_erased a r on need.Whole w.0 n w.2 w.4) (column_erased b r on need.Whole w.5.0 w.2 w.5.2 w.5.4)
      ∙ ap₂ (λ x y. test_between o (column_of r w.0) (column_of r w.5.0) x y) (constant_erased a on need.Whole w.0 n w.2 w.4) (constant_erased b on need.Whole w.5.0 w.2 w.5.2 w.5.4)
      ∙ ap (test_by r (Some o)) (sym (w.3 ∙ ap (trees w.0) (w.5.3 ∙ ap (trees w.5.0) w.5.5.0)))

  test_erased : (p : Node) (r : ℕ) (on : Bool) (u : Need) (t : Tree) (n m : ℕ) → Becomes on ss u t n p m → test_of r (erased p) ≡ test_of r t
  test_erased (node.Plain x) r on u t n m w = ap (test_of r) (sym w.is)
  test_erased (node.Var x) r on u t n m w = ap (test_of r) (sym w.0)
  test_erased (node.Rec ps) r on u t n m w = ap (test_of r) (sym w.1)
  test_erased (node.Proj l a) r on u t n m w = ap (test_of r) (sym w.1)
  test_erased (node.Inj l a) r on u t n m w = ap (test_of r) (sym w.1)
  test_erased (node.Case a bs) r on u t n m w = ap (test_of r) (sym w.3)
  test_erased (node.Make k ps) r on u t n m w = ap (test_of r) (sym w.1)
  test_erased (node.Union a b) r on u t n m w = ap (test_of r) (sym w.3)
  test_erased (node.Ext k b s) r on u t n m w = ap (test_of r) (sym w.4)
  test_erased (node.If a b c) r on u t n m w = ap (test_of r) (sym w.5)
  test_erased (node.Let a b) r on u t n m w = ap (test_of r) (sym w.3)
  test_erased (node.Prim c ps) r on u t n m w = by_erased r (comparison c) ps on w.0 n m w.2 ∙ ap (test_of r) (sym w.1)
  test_erased (node.Scan c) r on u t n m w = ap (test_of r) (sym w.2)
  test_erased (node.Join number k how o cs c q b) r on u t n m w = absurd w
  test_erased (node.Memo number frees p) r on u t n m w = absurd w

  make_empty : (k j : Kind) (ps : Nodes) (on : Bool) (ts : Trees) (n m : ℕ) → TreesBecome on ss ts n ps m → is_empty k (term.Make j (erased_nodes ps)) ≡ is_empty k (term.Make j ts)
  make_empty k j no_nodes on ts n m w = ap (λ x. is_empty k (term.Make j x)) (sym w.0)
  make_empty k j (nodes p ps) on ts n m w = ap (λ x. is_empty k (term.Make j x)) (sym w.3)

  empty_erased : (p : Node) (k : Kind) (on : Bool) (u : Need) (t : Tree) (n m : ℕ) → Becomes on ss u t n p m → is_empty k (erased p) ≡ is_empty k t
  empty_erased (node.Plain x) k on u t n m w = ap (is_empty k) (sym w.is)
  empty_erased (node.Var x) k on u t n m w = ap (is_empty k) (sym w.0)
  empty_erased (node.Rec ps) k on u t n m w = ap (is_empty k) (sym w.1)
  empty_erased (node.Proj l a) k on u t n m w = ap (is_empty k) (sym w.1)
  empty_erased (node.Inj l a) k on u t n m w = ap (is_empty k) (sym w.1)
  empty_erased (node.Case a bs) k on u t n m w = ap (is_empty k) (sym w.3)
  empty_erased (node.Make j ps) k on u t n m w = make_empty k j ps on w.0 n m w.2 ∙ ap (is_empty k) (sym w.1)
  empty_erased (node.Union a b) k on u t n m w = ap (is_empty k) (sym w.3)
  empty_erased (node.Ext j b s) k on u t n m w = ap (is_empty k) (sym w.4)
  empty_erased (node.If a b c) k on u t n m w = ap (is_empty k) (sym w.5)
  empty_erased (node.Let a b) k on u t n m w = ap (is_empty k) (sym w.3)
  empty_erased (node.Prim c ps) k on u t n m w = ap (is_empty k) (sym w.1)
  empty_erased (node.Scan c) k on u t n m w = ap (is_empty k) (sym w.2)
  empty_erased (node.Join number j how o cs c q b) k on u t n m w = absurd w
  empty_erased (node.Memo number frees p) k on u t n m w = absurd w

  pub taken_erased : (p : Node) (k : Kind) (r : ℕ) (on : Bool) (u : Need) (t : Tree) (n m : ℕ) → Becomes on ss u t n p m → taken k r (erased p) ≡ taken k r t
  taken_erased (node.Plain x) k r on u t n m w = ap (taken k r) (sym w.is)
  taken_erased (node.Var x) k r on u t n m w = ap (taken k r) (sym w.0)
  taken_erased (node.Rec ps) k r on u t n m w = ap (taken k r) (sym w.1)
  taken_erased (node.Proj l a) k r on u t n m w = ap (taken k r) (sym w.1)
  taken_erased (node.Inj l a) k r on u t n m w = ap (taken k r) (sym w.1)
  taken_erased (node.Case a bs) k r on u t n m w = ap (taken k r) (sym w.3)
  taken_erased (node.Make j ps) k r on u t n m w = ap (taken k r) (sym w.1)
  taken_erased (node.Union a b) k r on u t n m w = ap (taken k r) (sym w.3)
  taken_erased (node.Ext j b s) k r on u t n m w = ap (taken k r) (sym w.4)
  taken_erased (node.If a b c) k r on u t n m w =
      ap₂ (λ x y. cond (x && y) (taken_before (test_of r (erased a)) (taken k r (erased b))) []) (uses_erased ss a on need.Whole w.0 n w.3 w.6).total (empty_erased c k on (passed_on u) w.2 w.4 m w.8)
      ∙ ap₂ (λ x y. cond (is_front k w.0 w.2) (taken_before x y) []) (test_erased a r on need.Whole w.0 n w.3 w.6) (taken_erased b k r on (passed_on u) w.1 w.3 w.4 w.7)
      ∙ ap (taken k r) (sym w.5)
  taken_erased (node.Let a b) k r on u t n m w = ap (taken k r) (sym w.3)
  taken_erased (node.Prim c ps) k r on u t n m w = ap (taken k r) (sym w.1)
  taken_erased (node.Scan c) k r on u t n m w = ap (taken k r) (sym w.2)
  taken_erased (node.Join number j how o cs c q b) k r on u t n m w = absurd w
  taken_erased (node.Memo number frees p) k r on u t n m w = absurd w

  -- ---- no test is left in the front of a generator

  joined_none : (s : ShipSource) (k : Kind) (taking : Bool) (ts : List ShipSource) (n : ℕ) (b : Tree) (qs : List SqlTest) (d : Tree) → taking ≡ true → Joins ss s k taking n b ts qs d → taken k (n + length ts) d ≡ []
  joined_none s k taking [] n b qs d select w =
      let e : n + length {A = ShipSource} [] ≡ n = omega arith in
      ap₂ (λ x y. taken k x y) e (w.1 ∙ ap (λ x. body_left x k n b) select) ∙ none_left k n b
  joined_none s k taking (t ∷ ts) n b qs d select w =
      let e : n + length (t ∷ ts) ≡ suc n + length ts = omega arith in
      ap (λ x. taken k x d) e ∙ joined_none s k true ts (suc n) w.0 w.2 d refl w.6

  shown_none : (s : ShipSource) (k : Kind) (ts : List ShipSource) (qs : List SqlTest) (d : Tree) → taken k (1 + length ts) d ≡ [] → taken k 1 (over_shown s ts (statement k s ts qs d).columns d) ≡ []
  shown_none s k [] qs d h = let e : 1 ≡ 1 + length {A = ShipSource} [] = omega arith in ap (λ x. taken k x d) e ∙ h
  shown_none s k (t ∷ ts) qs d h =
      let some : 0 < length (s ∷ t ∷ ts) = omega arith in
      let e : length (s ∷ t ∷ ts) ≡ 1 + length (t ∷ ts) = omega arith in
      none_taken_packed (length (s ∷ t ∷ ts)) some (λ p. label_in (statement k s (t ∷ ts) qs d).columns (length (t ∷ ts) - p)) (λ p. columns_at (s ∷ t ∷ ts) (length (t ∷ ts) - p)) k d (ap (λ x. taken k x d) e ∙ h)

  asked_none : (s : ShipSource) (k : Kind) (b : Tree) (c : Scan) (d : Tree) → s.abilities.select ≡ true → ByAsk ss s k b c d → taken k 1 d ≡ []
  asked_none s k b c d select w = ⊎_elim
      (λ a. ap (taken k 1) (a.1.body ∙ ap (λ x. body_left x k 1 b) select) ∙ none_left k 1 b)
      (λ a. ap (taken k 1) a.1.body ∙ shown_none s k a.1.joined a.1.tests a.1.behind (joined_none s k s.abilities.select a.1.joined 1 b a.1.tests a.1.behind select a.1.joins))
      w

  -- a generator's body has no test left in its front that its driver could do
  pub no_test_left : (s : ShipSource) (k : Kind) (b : Tree) (c : Scan) (d : Tree) (p : Node) (n m : ℕ) → s.abilities.select ≡ true → ByAsk ss s k b c d → Becomes true ss need.Items d n p m → taken k 1 (erased p) ≡ []
  no_test_left s k b c d p n m select asked w = taken_erased p k 1 true need.Items d n m w ∙ asked_none s k b c d select asked

-- ---- no loop is left that could join

same_fits : (k : Kind) (u : Bool) → fits_source k k u ≡ true
same_fits kind.Set u = refl
same_fits kind.Bag u = refl
same_fits kind.List u = refl

-- a scan of the loop's kind draws the rows as they come
kind_fits : (j k : Kind) (u : Bool) → cond (fits_source j k u) k j ≡ k → fits_source j k u ≡ true
kind_fits j k u h = by (fits_source j k u) refl
  where
    by : (b : Bool) → fits_source j k u ≡ b → fits_source j k u ≡ true
    by true f = f
    by false f = subst (λ x. fits_source x k u ≡ true) (sym (sym (ap (λ x. cond x k j) f) ∙ h)) (same_fits k u)

module _ (n : ℕ) (some : 0 < n) (shown : ℕ → Name → Name) (all : ℕ → List Name) where
  loop_packed : (k : Kind) (x : Tree) (i : ℕ) (t : Tree) → packed n shown all 0 t ≡ Ext k x (Source i) → (c : Tree) × (t ≡ Ext k c (Source i))
  loop_packed k x i (Ext j b s) h =
      let g : Ext j (packed n shown all (0 + 1) b) (packed n shown all 0 s) ≡ Ext k x (Source i) = h in
      let e : j ≡ k = cc in
      let f : packed n shown all 0 s ≡ Source i = cc in
      (b, ap₂ (λ y z. Ext y b z) e (source_packed n some shown all i s f))
  loop_packed k x i (Var y) h = absurd (let f : true ≡ false = sym (of_variable n some shown all no_loop y true (λ z. refl) (λ ps. refl)) ∙ ap no_loop h in cc)
    where
      no_loop : Tree → Bool
      no_loop (Ext k b s) = false
      no_loop t = true
  loop_packed k x i (Proj l a) h = absurd (let f : true ≡ false = sym (of_column n some shown all no_loop l (variable a) (packed n shown all 0 a) true (λ m u. refl)) ∙ ap no_loop h in cc)
    where
      no_loop : Tree → Bool
      no_loop (Ext k b s) = false
      no_loop t = true
  loop_packed k x i t h = cc

over_loop : (s : ShipSource) (k j : Kind) (ts : List ShipSource) (qs : List SqlTest) (x : Tree) (i : ℕ) (d : Tree) → over_shown s ts (statement k s ts qs d).columns d ≡ Ext j x (Source i) → (c : Tree) × (d ≡ Ext j c (Source i))
over_loop s k j [] qs x i d h = (x, h)
over_loop s k j (t ∷ ts) qs x i d h =
    let some : 0 < length (s ∷ t ∷ ts) = omega arith in
    loop_packed (length (s ∷ t ∷ ts)) some (λ p. label_in (statement k s (t ∷ ts) qs d).columns (length (t ∷ ts) - p)) (λ p. columns_at (s ∷ t ∷ ts) (length (t ∷ ts) - p)) j x i d h

module _ (ss : List ShipSource) where
  -- what is left of the last body is directly no loop that may join
  joined_end : (s : ShipSource) (k : Kind) (select : Bool) (ts : List ShipSource) (n : ℕ) (b : Tree) (qs : List SqlTest) (d : Tree) → Joins ss s k select n b ts qs d → IsJoinable ss s k d → ⊥
  joined_end s k select [] n b qs d w j = w.2 (subst (IsJoinable ss s k) w.1 j)
  joined_end s k select (t ∷ ts) n b qs d w j = joined_end s k true ts (suc n) w.0 w.2 d w.6 j

  no_plain_scan : (k : Kind) (y : Tree) (e : Scan) (n m : ℕ) → is_generator true y ≡ false → Becomes true ss (need.Source k) y n (node.Scan e) m → ⊥
  no_plain_scan k y e n m off w = let f : true ≡ false = sym (ap (is_generator true) w.2) ∙ off in cc

  pub no_loop_left : (s : ShipSource) (k : Kind) (b : Tree) (c : Scan) (d : Tree) (a : Node) (e : Scan) (n i m : ℕ)
      → IsScan s (need.Source k) n c → s.abilities.join ≡ true → c.kind ≡ k → ByAsk ss s k b c d → Becomes true ss need.Items d i (node.Ext k a (node.Scan e)) m → e.driver ≡ c.driver → e.kind ≡ k → ⊥
  no_loop_left s k b c d a e n i m scan join kind asked w driver other =
      ⊎_elim
      (λ o. no_plain_scan k w.1 e i w.3 o.0 o.2)
      (λ g. by g.1)
      w.5
    where
      fit : fits k s ≡ true
      fit = kind_fits (kind_of (ground s)) k s.abilities.unique (sym scan.kind ∙ kind)

      by : Delegates ss k w.0 w.1 i (node.Scan e) w.3 w.2 → ⊥
      by q =
          let same : e ≡ q.reading = (let f : node.Scan e ≡ node.Scan q.reading = q.plan in cc) in
          let may : MayJoin ss s k q.place q.source = record {
            listed = q.listed;
            driver = sym q.scan.driver ∙ sym (ap (λ x. x.driver) same) ∙ driver ∙ scan.driver;
            fits = kind_fits (kind_of (ground q.source)) k q.source.abilities.unique (sym q.scan.kind ∙ sym (ap (λ x. x.kind) same) ∙ other);
          } in
          let loop : d ≡ Ext k w.0 (Source q.place) = w.4 ∙ ap (Ext k w.0) q.is in
          ⊎_elim
          (λ rows. let f : true ≡ false = sym (ap₂ (λ x y. x && y) fit join) ∙ rows.0 in cc)
          (λ sql. let z = over_loop s k k sql.1.joined sql.1.tests w.0 q.place sql.1.behind (sym sql.1.body ∙ loop) in
          joined_end s k s.abilities.select sql.1.joined 1 b sql.1.tests sql.1.behind sql.1.joins (z.0, q.place, q.source, z.1, may))
          asked

-- ---- no column is asked in vain

abbrev InUse : Tree → Name → Type 0
InUse b l = (whole_use 0 b ≡ true) ⊎ (column_use 0 l b ≡ true)

all_used : (P : Name → Type 0) (ls : List Name) → ((l : Name) → P l) → AllByRecursion P ls
all_used P [] f = tt
all_used P (l ∷ ls) f = (f l, all_used P ls f)

filtered_used : (P : Name → Type 0) (f : Name → Bool) (ls : List Name) → ((l : Name) → f l ≡ true → P l) → AllByRecursion P (filter f ls)
filtered_used P f [] g = tt
filtered_used P f (l ∷ ls) g = by (f l) refl (filtered_used P f ls g)
  where
    by : (b : Bool) → f l ≡ b → AllByRecursion P (filter f ls) → AllByRecursion P (cond b (l ∷ filter f ls) (filter f ls))
    by true e more = (g l e, more)
    by false e more = more

in_used : (b : Tree) (all : List Name) → AllByRecursion (InUse b) (in_use 0 b all)
in_used b all = by (whole_use 0 b) refl
  where
    by : (w : Bool) → whole_use 0 b ≡ w → AllByRecursion (InUse b) (cond w all (filter (λ l. column_use 0 l b) all))
    by true e = all_used (InUse b) all (λ l. inl e)
    by false e = filtered_used (InUse b) (λ l. column_use 0 l b) all (λ l f. inr f)

first_few : (all : List Name) → length (first_of all) ≤ 1
first_few [] = omega arith
first_few (l ∷ ls) = omega arith

or_few : (P : Name → Type 0) (ls all : List Name) → AllByRecursion P ls → AllByRecursion P (or_first ls all) ⊎ (length (or_first ls all) ≤ 1)
or_few P [] all h = inr (first_few all)
or_few P (l ∷ ls) all h = inl h

pub kept_used : (b : Tree) (all : List Name) → AllByRecursion (InUse b) (or_first (in_use 0 b all) all) ⊎ (length (or_first (in_use 0 b all) all) ≤ 1)
kept_used b all = or_few (InUse b) (in_use 0 b all) all (in_used b all)

module _ (ss : List ShipSource) where
  used_same : (d e : Tree) → ((i : ℕ) → whole_use i e ≡ whole_use i d) → ((i : ℕ) (l : Name) → column_use i l e ≡ column_use i l d) → (ls : List Name) → AllByRecursion (InUse d) ls → AllByRecursion (InUse e) ls
  used_same d e f g [] h = tt
  used_same d e f g (l ∷ ls) h = (⊎_elim (λ u. inl (f 0 ∙ u)) (λ u. inr (g 0 l ∙ u)) h.0, used_same d e f g ls h.1)

  -- rows: each column that is asked is used, or it is the only one
  pub rows_in_use : (s : ShipSource) (k : Kind) (b : Tree) (c : Scan) (d : Tree) (p : Node) (n m : ℕ) → fits k s ≡ true → s.abilities.project ≡ true → ByRows s k b c d → Becomes true ss need.Items d n p m
      → (ls : List Name) → Shows c.ask ls → AllByRecursion (IsUsed p) ls ⊎ (length ls ≤ 1)
  rows_in_use s k b c d p n m fit project rows w ls shows =
      let same = uses_erased ss p true need.Items d n m w in
      let is : ls ≡ or_first (in_use 0 d (columns (item_of (ground s)))) (columns (item_of (ground s))) =
      subst (λ a. Shows a ls) rows.ask shows ∙ ap₂ (λ x y. cond (x && y) (kept_of d (item_of (ground s))) (columns (item_of (ground s)))) fit project in
      let all : List Name = columns (item_of (ground s)) in
      ⊎_elim
      (λ a. inl (subst (AllByRecursion (IsUsed p)) (sym is) (used_same d (erased p) same.whole same.column (or_first (in_use 0 d all) all) a)))
      (λ a. inr (subst (λ x. length x ≤ 1) (sym is) a))
      (kept_used d all)

-- ---- a plan made with delegation is fully shipped

pub columns_strict : (u : Ground) → IsGround u → Strict (columns u)
columns_strict (rec r) h = labels_strict r h
columns_strict u h = tt

pub item_ground : (t : Ground) → IsGround t → IsGround (item_of t)
item_ground (coll k t) h = h
item_ground (rec r) h = h
item_ground (var r) h = h
item_ground (arrow a b) h = absurd h
item_ground bool h = tt
item_ground int h = tt
item_ground str h = tt

module _ (ss : List ShipSource) (sources : AreSources ss) (good : (i : ℕ) (s : ShipSource) → slice_get ss i ≡ Some s → IsGround (ground s)) where
  joined_strict : (s : ShipSource) (k : Kind) (select : Bool) (ts : List ShipSource) (n : ℕ) (b : Tree) (qs : List SqlTest) (d : Tree) → Joins ss s k select n b ts qs d → AllStrict ts
  joined_strict s k select [] n b qs d w = tt
  joined_strict s k select (t ∷ ts) n b qs d w = (columns_strict (item_of (ground t)) (item_ground (ground t) (good w.1 t w.4.listed)), joined_strict s k true ts (suc n) w.0 w.2 d w.6)

  statement_in_use : (s : ShipSource) (k : Kind) (b : Tree) (c : Scan) (d : Tree) (p : Node) (n m : ℕ) → IsGround (ground s) → s.abilities.project ≡ true → BySql ss s k b c d → Becomes true ss need.Items d n p m
      → (ls : List Name) → Shows c.ask ls → AllByRecursion (IsUsed p) ls ⊎ (length ls ≤ 1)
  statement_in_use s k b c d p n m ground_good project q w ls shows =
      let same = uses_erased ss p true need.Items d n m w in
      let text : Shows (asks.Sql (statement_text (statement k s q.joined q.tests q.behind))) ls = subst (λ a. Shows a ls) q.ask shows in
      let one : text.0 ≡ statement k s q.joined q.tests q.behind = unique (statement_text (statement k s q.joined q.tests q.behind)) text.0 (statement k s q.joined q.tests q.behind) text.1 q.reads in
      let is : ls ≡ map (λ e. e.2) (statement k s q.joined q.tests q.behind).columns = text.2 ∙ ap (λ x. map (λ e. e.2) x.columns) one in
      ⊎_elim
      (λ a. inl (subst (AllByRecursion (IsUsed p)) (sym is)
      (used_same ss d (erased p) same.whole same.column (map (λ e. e.2) (statement k s q.joined q.tests q.behind).columns)
      (subst (λ x. AllByRecursion (InUse x) (map (λ e. e.2) (statement k s q.joined q.tests q.behind).columns)) (sym q.body) a))))
      (λ a. inr (subst (λ x. length x ≤ 1) (sym is) a))
      (shown_used s k q.joined q.tests q.behind project (columns_strict (item_of (ground s)) (item_ground (ground s) ground_good), joined_strict s k s.abilities.select q.joined 1 b q.tests q.behind q.joins))

  nothing_left : (k : Kind) (b y : Tree) (n i m : ℕ) (c : Scan) (d : Tree) (p : Node) → Delegates ss k b y n (node.Scan c) i d → Becomes true ss need.Items d i p m → IsFullAt ss k p (node.Scan c)
  nothing_left k b y n i m c d p q w j s listed driver name =
      let is : c ≡ q.reading = (let f : node.Scan c ≡ node.Scan q.reading = q.plan in cc) in
      let able : s.abilities ≡ q.source.abilities = sources.able q.place j q.source s q.listed listed (driver ∙ ap (λ x. x.driver) is ∙ q.scan.driver) in
      subst (IsFull s k p) (sym is) (record {
        tests = λ select. no_test_left ss q.source k b q.reading d p i m (sym (ap (λ x. x.select) able) ∙ select) q.ask w;
        columns = λ project kind ls shows.
            let able_too : q.source.abilities.project ≡ true = sym (ap (λ x. x.project) able) ∙ project in
            let fit : fits k q.source ≡ true = kind_fits (kind_of (ground q.source)) k q.source.abilities.unique (sym q.scan.kind ∙ kind) in
            ⊎_elim
            (λ rows. rows_in_use ss q.source k b q.reading d p i m fit able_too rows.1 w ls shows)
            (λ sql. statement_in_use q.source k b q.reading d p i m (good q.place q.source q.listed) able_too sql.1 w ls shows)
            q.ask;
        loops = λ join kind e over driver other.
            let a = bare_loop k p e (sent_bare true ss p need.Items d i m w) over in
            no_loop_left ss q.source k b q.reading d a.0 e n i m q.scan (sym (ap (λ x. x.join) able) ∙ join) kind q.ask
            (subst (λ x. Becomes true ss need.Items d i x m) a.1 w) driver other;
      })

  no_generator : (k : Kind) (y : Tree) (b s : Node) (n i : ℕ) → is_generator true y ≡ false → Becomes true ss (need.Source k) y n s i → IsFullAt ss k b s
  no_generator k y b (node.Scan c) n i off w = absurd (no_plain_scan ss k y c n i off w)
  no_generator k y b (node.Memo number frees p) n i off w = absurd w
  no_generator k y b s n i off w = tt

  scan_full : (s : Node) (c : Scan) → s ≡ node.Scan c → FullyShipped ss s
  scan_full s c e = subst (FullyShipped ss) (sym e) tt

  generator_full : (k : Kind) (b y : Tree) (n i m : ℕ) (s : Node) (d : Tree) (p : Node) → Delegates ss k b y n s i d → Becomes true ss need.Items d i p m → IsFullAt ss k p s
  generator_full k b y n i m s d p q w = subst (IsFullAt ss k p) (sym q.plan) (nothing_left k b y n i m q.reading d p (subst (λ x. Delegates ss k b y n x i d) q.plan q) w)

  mutual
    pub full : (p : Node) (u : Need) (t : Tree) (n m : ℕ) → Becomes true ss u t n p m → FullyShipped ss p
    full (node.Plain x) u t n m w = tt
    full (node.Var x) u t n m w = tt
    full (node.Rec ps) u t n m w = full_fields ps need.Whole w.0 n m w.2
    full (node.Proj l a) u t n m w = full a need.Whole w.0 n m w.2
    full (node.Inj l a) u t n m w = full a need.Whole w.0 n m w.2
    full (node.Case a bs) u t n m w = (full a need.Whole w.0 n w.2 w.4, full_branches bs (passed_on u) w.1 w.2 m w.5)
    full (node.Make k ps) u t n m w = full_nodes ps w.0 n m w.2
    full (node.Union a b) u t n m w = (full a (passed_on u) w.0 n w.2 w.4, full b (passed_on u) w.1 w.2 m w.5)
    full (node.Ext k b s) u t n m w =
        let body = full b need.Items w.2 w.3 m w.6 in
        ⊎_elim
        (λ o. (full s (need.Source k) w.1 n w.3 o.2, body, no_generator k w.1 b s n w.3 o.0 o.2))
        (λ g. (scan_full s g.1.reading g.1.plan, body, generator_full k w.0 w.1 n w.3 m s w.2 b g.1 w.6))
        w.5
    full (node.If a b c) u t n m w = (full a need.Whole w.0 n w.3 w.6, full b (passed_on u) w.1 w.3 w.4 w.7, full c (passed_on u) w.2 w.4 m w.8)
    full (node.Let a b) u t n m w = (full a need.Whole w.0 n w.2 w.4, full b (passed_on u) w.1 w.2 m w.5)
    full (node.Prim c ps) u t n m w = full_nodes ps w.0 n m w.2
    full (node.Scan c) u t n m w = tt
    full (node.Join number j how o cs c q b) u t n m w = absurd w
    full (node.Memo number frees p) u t n m w = absurd w

    full_nodes : (ps : Nodes) (ts : Trees) (n m : ℕ) → TreesBecome true ss ts n ps m → FullNodes ss ps
    full_nodes no_nodes ts n m w = tt
    full_nodes (nodes p ps) ts n m w = (full p need.Whole w.0 n w.2 w.4, full_nodes ps w.1 w.2 m w.5)

    full_fields : (ps : Fields) (u : Need) (ts : Parts) (n m : ℕ) → PartsBecome true ss u ts n ps m → FullFields ss ps
    full_fields no_fields u ts n m w = tt
    full_fields (fields l p ps) u ts n m w = (full p u w.0 n w.2 w.4, full_fields ps u w.1 w.2 m w.5)

    full_branches : (bs : Branches) (u : Need) (ts : Arms) (n m : ℕ) → ArmsBecome true ss u ts n bs m → FullBranches ss bs
    full_branches no_branches u ts n m w = tt
    full_branches (rest c) u ts n m w = full c u w.0 n m w.2
    full_branches (branch l b bs) u ts n m w = (full b u w.0 n w.2 w.4, full_branches bs u w.1 w.2 m w.5)

  -- what is shipped with delegation is fully shipped
  pub ships_full : (t : Tree) (p : Node) → Sends true ss t p → FullyShipped ss p
  ships_full t p w = full p need.Items t 0 w.0 w.1
