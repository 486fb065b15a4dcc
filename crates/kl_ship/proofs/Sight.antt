-- Terms of which the same is seen: the same uses of each position, and the same tests of the nearest row, alone and in the front.
use Rattle.std.proofs.Common.{◌≡◌, inr, ℕ, zero, suc, ◌+◌, arith, not, ◌&&◌, ◌||◌, cond, nat_eq, [], Option, Some, None, refl, sym, ap}
use Rattle.std.proofs.Common.{subst, ◌∙◌}
use Rattle.std.specs.Cmp.Lexicographic.{pointwise}
use mathlib.Core.Path.{ap₂}
use Rattle.kl_value.specs.declared.Kind.{Kind}
use Rattle.kl_outcome.specs.Outcome.{Name}
use Rattle.kl_core.specs.Trees.{Tree, Var, Source, Rec, Proj, Inj, Case, Make, Union, Ext, If, Let, Prim, Trees, no_trees, trees}
use Rattle.kl_core.specs.Trees.{Parts, no_parts, parts, Arms, no_arms, rest, arm}
use Rattle.kl_core.specs.Counts.{total_trees, total_parts, total_arms, total_code}
use Rattle.kl_core.specs.Positions.{raised, shift_of}
use Rattle.kl_core.proofs.Totals.{total_shift}
use Rattle.kl_sqltext.specs.declared.ast.SqlOp.{SqlOp}
use Rattle.kl_plan.specs.Erased.{key_test, erased, erased_nodes, erased_around, erased_keyed}
use Rattle.kl_plan.specs.Loops.{around, keyed}
use Rattle.kl_plan.specs.Nodes.{Node, Nodes, no_nodes, nodes, Key, no_key, key}
use Rattle.kl_ship.specs.Delegation.{comparison, variable, is_at, constant, column_at, column_of, test_between, test_by, test_of}
use Rattle.kl_ship.specs.Delegation.{is_empty, is_front, taken_before, taken}
use Rattle.kl_ship.specs.Delegation.{whole_use, whole_use_trees, whole_use_parts, whole_use_arms}
use Rattle.kl_ship.specs.Delegation.{column_use, column_use_trees, column_use_parts, column_use_arms}
use Rattle.kl_ship.proofs.Fully.{SameTree, itself, is_number, is_variable_by}
use Rattle.kl_ship.proofs.RaisedUses.{Held, held, gone, constant_raised, no_column_raised, empty_raised, no_test_raised, no_front_raised}

pub record SameSight (t u : Tree) : Type 0 where
  pub tree : SameTree t u
  pub position : variable u ≡ variable t
  pub value : constant u ≡ constant t
  pub column : column_of 1 u ≡ column_of 1 t
  pub test : test_of 1 u ≡ test_of 1 t
  pub empty : (k : Kind) → is_empty k u ≡ is_empty k t
  pub front : (k : Kind) → taken k 1 u ≡ taken k 1 t

pub see_itself : (t : Tree) → SameSight t t
see_itself t =
    record { tree = itself t; position = refl; value = refl; column = refl; test = refl; empty = λ k. refl; front = λ k. refl }

abbrev pub seen_from : (p q : Node) (t : Tree) → p ≡ q → SameSight (erased q) t → SameSight (erased p) t
seen_from p q t e h = subst (λ x. SameSight (erased x) t) (sym e) h

abbrev pub EachSight : Trees → Trees → Type 0
EachSight no_trees no_trees = Unit {0}
EachSight (trees t ts) (trees u us) = SameSight t u × EachSight ts us
EachSight ts us = ⊥

pub record SameParts (ps qs : Parts) : Type 0 where
  pub whole : (i : ℕ) → whole_use_parts i qs ≡ whole_use_parts i ps
  pub column : (i : ℕ) (l : Name) → column_use_parts i l qs ≡ column_use_parts i l ps
  pub total : total_parts qs ≡ total_parts ps

pub record SameArms (bs cs : Arms) : Type 0 where
  pub whole : (i : ℕ) → whole_use_arms i cs ≡ whole_use_arms i bs
  pub column : (i : ℕ) (l : Name) → column_use_arms i l cs ≡ column_use_arms i l bs
  pub total : total_arms cs ≡ total_arms bs

each_whole : (ts us : Trees) → EachSight ts us → (i : ℕ) → whole_use_trees i us ≡ whole_use_trees i ts
each_whole no_trees no_trees h i = refl
each_whole (trees t ts) (trees u us) h i = ap₂ (λ x y. x || y) (h.0.tree.whole i) (each_whole ts us h.1 i)
each_whole no_trees (trees u us) h i = absurd h
each_whole (trees t ts) no_trees h i = absurd h

each_column : (ts us : Trees) → EachSight ts us → (i : ℕ) (l : Name) → column_use_trees i l us ≡ column_use_trees i l ts
each_column no_trees no_trees h i l = refl
each_column (trees t ts) (trees u us) h i l = ap₂ (λ x y. x || y) (h.0.tree.column i l) (each_column ts us h.1 i l)
each_column no_trees (trees u us) h i l = absurd h
each_column (trees t ts) no_trees h i l = absurd h

each_total : (ts us : Trees) → EachSight ts us → total_trees us ≡ total_trees ts
each_total no_trees no_trees h = refl
each_total (trees t ts) (trees u us) h = ap₂ (λ x y. x && y) h.0.tree.total (each_total ts us h.1)
each_total no_trees (trees u us) h = absurd h
each_total (trees t ts) no_trees h = absurd h

each_test : (o : Option SqlOp) (ts us : Trees) → EachSight ts us → test_by 1 o us ≡ test_by 1 o ts
each_test None ts us h = refl
each_test (Some o) no_trees no_trees h = refl
each_test (Some o) (trees t no_trees) (trees u no_trees) h = refl
each_test (Some o) (trees t (trees v no_trees)) (trees u (trees w no_trees)) h =
    ap₂ (λ x y. test_between o x y (constant u) (constant w)) h.0.column h.1.0.column
    ∙ ap₂ (λ x y. test_between o (column_of 1 t) (column_of 1 v) x y) h.0.value h.1.0.value
each_test (Some o) (trees t (trees v (trees a ts))) (trees u (trees w (trees b us))) h = refl
each_test (Some o) no_trees (trees u us) h = absurd h
each_test (Some o) (trees t ts) no_trees h = absurd h
each_test (Some o) (trees t no_trees) (trees u (trees w us)) h = absurd h.1
each_test (Some o) (trees t (trees v ts)) (trees u no_trees) h = absurd h.1
each_test (Some o) (trees t (trees v no_trees)) (trees u (trees w (trees b us))) h = absurd h.1.1
each_test (Some o) (trees t (trees v (trees a ts))) (trees u (trees w no_trees)) h = absurd h.1.1

each_empty : (k j : Kind) (ts us : Trees) → EachSight ts us → is_empty k (Make j us) ≡ is_empty k (Make j ts)
each_empty k j no_trees no_trees h = refl
each_empty k j (trees t ts) (trees u us) h = refl
each_empty k j no_trees (trees u us) h = absurd h
each_empty k j (trees t ts) no_trees h = absurd h

-- ---- the parts of terms

pub see_rec : (ps qs : Parts) → SameParts ps qs → SameSight (Rec ps) (Rec qs)
see_rec ps qs h = record {
  tree = record { whole = λ i. h.whole i; column = λ i l. h.column i l; total = h.total };
  position = refl;
  value = refl;
  column = refl;
  test = refl;
  empty = λ k. refl;
  front = λ k. refl;
}

pub see_proj : (l : Name) (a b : Tree) → SameSight a b → SameSight (Proj l a) (Proj l b)
see_proj l a b h = record {
  tree = record {
    whole = λ i. ap₂ (λ x y. not x && y) (is_variable_by b ∙ ap is_number h.position ∙ sym (is_variable_by a)) (h.tree.whole i);
    column = λ i m. ap₂ (λ x y. (is_at i x && pointwise nat_eq l m) || y) h.position (h.tree.column i m);
    total = h.tree.total;
  };
  position = refl;
  value = refl;
  column = ap (column_at 1 l) h.position;
  test = refl;
  empty = λ k. refl;
  front = λ k. refl;
}

pub see_inj : (l : Name) (a b : Tree) → SameSight a b → SameSight (Inj l a) (Inj l b)
see_inj l a b h = record {
  tree = record { whole = λ i. h.tree.whole i; column = λ i m. h.tree.column i m; total = h.tree.total };
  position = refl;
  value = refl;
  column = refl;
  test = refl;
  empty = λ k. refl;
  front = λ k. refl;
}

pub see_case : (a b : Tree) (cs ds : Arms) → SameSight a b → SameArms cs ds → SameSight (Case a cs) (Case b ds)
see_case a b cs ds h g = record {
  tree = record {
    whole = λ i. ap₂ (λ x y. x || y) (h.tree.whole i) (g.whole i);
    column = λ i l. ap₂ (λ x y. x || y) (h.tree.column i l) (g.column i l);
    total = ap₂ (λ x y. x && y) h.tree.total g.total;
  };
  position = refl;
  value = refl;
  column = refl;
  test = refl;
  empty = λ k. refl;
  front = λ k. refl;
}

pub see_make : (k : Kind) (ts us : Trees) → EachSight ts us → SameSight (Make k ts) (Make k us)
see_make k ts us h = record {
  tree = record { whole = λ i. each_whole ts us h i; column = λ i l. each_column ts us h i l; total = each_total ts us h };
  position = refl;
  value = refl;
  column = refl;
  test = refl;
  empty = λ j. each_empty j k ts us h;
  front = λ k. refl;
}

pub see_union : (a b c d : Tree) → SameSight a b → SameSight c d → SameSight (Union a c) (Union b d)
see_union a b c d h g = record {
  tree = record {
    whole = λ i. ap₂ (λ x y. x || y) (h.tree.whole i) (g.tree.whole i);
    column = λ i l. ap₂ (λ x y. x || y) (h.tree.column i l) (g.tree.column i l);
    total = ap₂ (λ x y. x && y) h.tree.total g.tree.total;
  };
  position = refl;
  value = refl;
  column = refl;
  test = refl;
  empty = λ k. refl;
  front = λ k. refl;
}

pub see_ext : (k : Kind) (b c s t : Tree) → SameTree b c → SameTree s t → SameSight (Ext k b s) (Ext k c t)
see_ext k b c s t h g = record {
  tree = record {
    whole = λ i. ap₂ (λ x y. x || y) (h.whole (i + 1)) (g.whole i);
    column = λ i l. ap₂ (λ x y. x || y) (h.column (i + 1) l) (g.column i l);
    total = ap₂ (λ x y. x && y) h.total g.total;
  };
  position = refl;
  value = refl;
  column = refl;
  test = refl;
  empty = λ k. refl;
  front = λ k. refl;
}

pub see_if : (a b c d e f : Tree) → SameSight a b → SameSight c d → SameSight e f → SameSight (If a c e) (If b d f)
see_if a b c d e f h g i = record {
  tree = record {
    whole = λ n. ap₂ (λ x y. x || y) (h.tree.whole n) (ap₂ (λ x y. x || y) (g.tree.whole n) (i.tree.whole n));
    column = λ n l. ap₂ (λ x y. x || y) (h.tree.column n l) (ap₂ (λ x y. x || y) (g.tree.column n l) (i.tree.column n l));
    total = ap₂ (λ x y. x && y) h.tree.total (ap₂ (λ x y. x && y) g.tree.total i.tree.total);
  };
  position = refl;
  value = refl;
  column = refl;
  test = refl;
  empty = λ k. refl;
  front = λ k.
      ap₂ (λ x y. cond (x && y) (taken_before (test_of 1 b) (taken k 1 d)) []) h.tree.total (i.empty k)
      ∙ ap₂ (λ x y. cond (is_front k a e) (taken_before x y) []) h.test (g.front k);
}

pub see_let : (a b c d : Tree) → SameSight a b → SameSight c d → SameSight (Let a c) (Let b d)
see_let a b c d h g = record {
  tree = record {
    whole = λ i. ap₂ (λ x y. x || y) (h.tree.whole i) (g.tree.whole (i + 1));
    column = λ i l. ap₂ (λ x y. x || y) (h.tree.column i l) (g.tree.column (i + 1) l);
    total = ap₂ (λ x y. x && y) h.tree.total g.tree.total;
  };
  position = refl;
  value = refl;
  column = refl;
  test = refl;
  empty = λ k. refl;
  front = λ k. refl;
}

pub see_prim : (c : ℕ) (ts us : Trees) → EachSight ts us → SameSight (Prim c ts) (Prim c us)
see_prim c ts us h = record {
  tree = record {
    whole = λ i. each_whole ts us h i;
    column = λ i l. each_column ts us h i l;
    total = ap (λ y. total_code c && y) (each_total ts us h);
  };
  position = refl;
  value = refl;
  column = refl;
  test = each_test (comparison c) ts us h;
  empty = λ k. refl;
  front = λ k. refl;
}

pub see_source : (i j : ℕ) → SameSight (Source i) (Source j)
see_source i j = record {
  tree = record { whole = λ n. refl; column = λ n l. refl; total = refl };
  position = refl;
  value = refl;
  column = refl;
  test = refl;
  empty = λ k. refl;
  front = λ k. refl;
}

pub see_no_parts : SameParts no_parts no_parts
see_no_parts = record { whole = λ i. refl; column = λ i l. refl; total = refl }

pub see_parts : (l : Name) (t u : Tree) (ps qs : Parts) → SameSight t u → SameParts ps qs → SameParts (parts l t ps) (parts l u qs)
see_parts l t u ps qs h g = record {
  whole = λ i. ap₂ (λ x y. x || y) (h.tree.whole i) (g.whole i);
  column = λ i m. ap₂ (λ x y. x || y) (h.tree.column i m) (g.column i m);
  total = ap₂ (λ x y. x && y) h.tree.total g.total;
}

pub see_no_arms : SameArms no_arms no_arms
see_no_arms = record { whole = λ i. refl; column = λ i l. refl; total = refl }

pub see_rest : (t u : Tree) → SameSight t u → SameArms (rest t) (rest u)
see_rest t u h = record { whole = λ i. h.tree.whole i; column = λ i l. h.tree.column i l; total = h.tree.total }

pub see_arm : (l : Name) (t u : Tree) (bs cs : Arms) → SameSight t u → SameArms bs cs → SameArms (arm l t bs) (arm l u cs)
see_arm l t u bs cs h g = record {
  whole = λ i. ap₂ (λ x y. x || y) (h.tree.whole (i + 1)) (g.whole i);
  column = λ i m. ap₂ (λ x y. x || y) (h.tree.column (i + 1) m) (g.column i m);
  total = ap₂ (λ x y. x && y) h.tree.total g.total;
}

-- ---- raised above the nearest row

raised_tree : (t u : Tree) → SameTree t u → SameTree (shift_of t 0 1) (shift_of u 0 1)
raised_tree t u h = record {
  whole = λ i. whole i;
  column = λ i l. column i l;
  total = total_shift u 0 1 ∙ h.total
      ∙ sym (total_shift t 0 1);
}
  where
    up : (i : ℕ) → Held 0 (suc i) i
    up i = inr (omega arith, omega arith)

    whole : (i : ℕ) → whole_use i (shift_of u 0 1) ≡ whole_use i (shift_of t 0 1)
    whole zero = (gone u 0).whole ∙ sym (gone t 0).whole
    whole (suc i) = (held u 0 (suc i) i (up i)).whole ∙ h.whole i ∙ sym (held t 0 (suc i) i (up i)).whole

    column : (i : ℕ) (l : Name) → column_use i l (shift_of u 0 1) ≡ column_use i l (shift_of t 0 1)
    column zero l = (gone u 0).column l ∙ sym ((gone t 0).column l)
    column (suc i) l = (held u 0 (suc i) i (up i)).column l ∙ h.column i l ∙ sym ((held t 0 (suc i) i (up i)).column l)

above : Option ℕ → Option ℕ
above (Some x) = Some (raised 0 1 x)
above None = None

variable_raised : (t : Tree) → variable (shift_of t 0 1) ≡ above (variable t)
unfolding above
variable_raised (Var x) = refl
variable_raised t = refl

see_raised : (t u : Tree) → SameSight t u → SameSight (shift_of t 0 1) (shift_of u 0 1)
see_raised t u h = record {
  tree = raised_tree t u h.tree;
  position = variable_raised u ∙ ap above h.position ∙ sym (variable_raised t);
  value = constant_raised u 0 ∙ h.value ∙ sym (constant_raised t 0);
  column = no_column_raised u ∙ sym (no_column_raised t);
  test = no_test_raised u ∙ sym (no_test_raised t);
  empty = λ k. empty_raised k u 0 ∙ h.empty k ∙ sym (empty_raised k t 0);
  front = λ k. no_front_raised k u ∙ sym (no_front_raised k t);
}

pub see_key : (l : Name) (t u : Tree) → SameSight t u → SameSight (key_test l t) (key_test l u)
see_key l t u h =
    see_prim 1 (trees (Proj l (Var 0)) (trees (shift_of t 0 1) no_trees)) (trees (Proj l (Var 0)) (trees (shift_of u 0 1) no_trees))
    (see_itself (Proj l (Var 0)), (see_raised t u h, tt))

-- ---- conditions around, and keys

pub around_erased : (k : Kind) (cs : Nodes) (p : Node) → erased (around k cs p) ≡ erased_around k cs (erased p)
around_erased k no_nodes p = refl
around_erased k (nodes c cs) p = ap (λ t. If (erased c) t (Make k no_trees)) (around_erased k cs p)

pub keyed_erased : (q : Key) (k : Kind) (c : Node) → erased (keyed k q c) ≡ erased_keyed k q (erased c)
keyed_erased no_key k c = refl
keyed_erased (key l v) k c = refl

pub see_around : (k : Kind) (ds cs : Nodes) (t u : Tree) → EachSight (erased_nodes ds) (erased_nodes cs) → SameSight t u
    → SameSight (erased_around k ds t) (erased_around k cs u)
see_around k no_nodes no_nodes t u h g = g
see_around k (nodes d ds) (nodes c cs) t u h g =
    see_if (erased d) (erased c) (erased_around k ds t) (erased_around k cs u) (Make k no_trees) (Make k no_trees) h.0
    (see_around k ds cs t u h.1 g) (see_itself (Make k no_trees))
see_around k no_nodes (nodes c cs) t u h g = absurd h
see_around k (nodes d ds) no_nodes t u h g = absurd h
