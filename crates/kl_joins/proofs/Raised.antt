-- A plan whose positions are raised: its joins and memos are the same, and as a term it is the raised one.
use Rattle.std.proofs.Common.{◌≡◌, ℕ, ◌+◌, [], ◌∷◌, ◌++◌, refl, ap}
use mathlib.Core.Path.{ap₂}
use Rattle.kl_core.specs.Positions.{shift_of, shift_trees, shift_parts, shift_arms}
use Rattle.kl_core.specs.Trees as term
use Rattle.kl_core.specs.Trees.{Tree, Trees, no_trees, trees, Parts, no_parts, parts, Arms, no_arms, arm}
use Rattle.kl_core.proofs.Lowering.{choice_is}
use Rattle.kl_plan.specs.Erased.{erased, erased_nodes, erased_fields, erased_branches}
use Rattle.kl_plan.specs.Keys.{above, nodes_above, fields_above, branches_above, key_above}
use Rattle.kl_plan.specs.Nodes as node
use Rattle.kl_plan.specs.Nodes.{Node, Nodes, no_nodes, nodes, Fields, no_fields, fields, Branches, no_branches, rest, branch, Key, no_key, key}
use Rattle.kl_plan.specs.Numbers.{joins_in, joins_of_nodes, joins_of_fields, joins_of_branches, joins_of_key}
use Rattle.kl_plan.specs.Numbers.{memos_in, memos_of_nodes, memos_of_fields, memos_of_branches, memos_of_key}
use Rattle.kl_plan.proofs.Empty.{none_first, none_behind}

mutual
  pub joins_above : (p : Node) (n : ℕ) → joins_in (above p n) ≡ joins_in p
  joins_above (node.Plain t) n = refl
  joins_above (node.Var x) n = refl
  joins_above (node.Rec ps) n = joins_above_fields ps n
  joins_above (node.Proj l a) n = joins_above a n
  joins_above (node.Inj l a) n = joins_above a n
  joins_above (node.Case a bs) n = ap₂ (λ xs ys. xs ++ ys) (joins_above a n) (joins_above_branches bs n)
  joins_above (node.Make k ps) n = joins_above_nodes ps n
  joins_above (node.Union a b) n = ap₂ (λ xs ys. xs ++ ys) (joins_above a n) (joins_above b n)
  joins_above (node.Ext k b s) n = ap₂ (λ xs ys. xs ++ ys) (joins_above s n) (joins_above b (n + 1))
  joins_above (node.If a b c) n = ap₂ (λ xs ys. xs ++ ys) (joins_above a n) (ap₂ (λ xs ys. xs ++ ys) (joins_above b n) (joins_above c n))
  joins_above (node.Let a b) n = ap₂ (λ xs ys. xs ++ ys) (joins_above a n) (joins_above b (n + 1))
  joins_above (node.Prim c ps) n = joins_above_nodes ps n
  joins_above (node.Scan c) n = refl
  joins_above (node.Join m k how o cs i q b) n =
      ap (λ xs. m ∷ xs) (ap₂ (λ xs ys. xs ++ ys) (joins_above o n) (ap₂ (λ xs ys. xs ++ ys) (joins_above_nodes cs (n + 1))
      (ap₂ (λ xs ys. xs ++ ys) (joins_above_key q (n + 1)) (joins_above b (n + 1 + 1)))))
  joins_above (node.Memo m frees p) n = (joins_above p n)

  joins_above_nodes : (ps : Nodes) (n : ℕ) → joins_of_nodes (nodes_above ps n) ≡ joins_of_nodes ps
  joins_above_nodes no_nodes n = refl
  joins_above_nodes (nodes p ps) n = ap₂ (λ xs ys. xs ++ ys) (joins_above p n) (joins_above_nodes ps n)

  joins_above_fields : (ps : Fields) (n : ℕ) → joins_of_fields (fields_above ps n) ≡ joins_of_fields ps
  joins_above_fields no_fields n = refl
  joins_above_fields (fields l p ps) n = ap₂ (λ xs ys. xs ++ ys) (joins_above p n) (joins_above_fields ps n)

  joins_above_branches : (bs : Branches) (n : ℕ) → joins_of_branches (branches_above bs n) ≡ joins_of_branches bs
  joins_above_branches no_branches n = refl
  joins_above_branches (rest c) n = joins_above c n
  joins_above_branches (branch l b bs) n = ap₂ (λ xs ys. xs ++ ys) (joins_above b (n + 1)) (joins_above_branches bs n)

  joins_above_key : (q : Key) (n : ℕ) → joins_of_key (key_above q n) ≡ joins_of_key q
  joins_above_key no_key n = refl
  joins_above_key (key l p) n = joins_above p n

mutual
  pub memos_above : (p : Node) (n : ℕ) → memos_in (above p n) ≡ memos_in p
  memos_above (node.Plain t) n = refl
  memos_above (node.Var x) n = refl
  memos_above (node.Rec ps) n = memos_above_fields ps n
  memos_above (node.Proj l a) n = memos_above a n
  memos_above (node.Inj l a) n = memos_above a n
  memos_above (node.Case a bs) n = ap₂ (λ xs ys. xs ++ ys) (memos_above a n) (memos_above_branches bs n)
  memos_above (node.Make k ps) n = memos_above_nodes ps n
  memos_above (node.Union a b) n = ap₂ (λ xs ys. xs ++ ys) (memos_above a n) (memos_above b n)
  memos_above (node.Ext k b s) n = ap₂ (λ xs ys. xs ++ ys) (memos_above s n) (memos_above b (n + 1))
  memos_above (node.If a b c) n = ap₂ (λ xs ys. xs ++ ys) (memos_above a n) (ap₂ (λ xs ys. xs ++ ys) (memos_above b n) (memos_above c n))
  memos_above (node.Let a b) n = ap₂ (λ xs ys. xs ++ ys) (memos_above a n) (memos_above b (n + 1))
  memos_above (node.Prim c ps) n = memos_above_nodes ps n
  memos_above (node.Scan c) n = refl
  memos_above (node.Join m k how o cs i q b) n =
      (ap₂ (λ xs ys. xs ++ ys) (memos_above o n) (ap₂ (λ xs ys. xs ++ ys) (memos_above_nodes cs (n + 1))
      (ap₂ (λ xs ys. xs ++ ys) (memos_above_key q (n + 1)) (memos_above b (n + 1 + 1)))))
  memos_above (node.Memo m frees p) n = ap (λ xs. m ∷ xs) (memos_above p n)

  memos_above_nodes : (ps : Nodes) (n : ℕ) → memos_of_nodes (nodes_above ps n) ≡ memos_of_nodes ps
  memos_above_nodes no_nodes n = refl
  memos_above_nodes (nodes p ps) n = ap₂ (λ xs ys. xs ++ ys) (memos_above p n) (memos_above_nodes ps n)

  memos_above_fields : (ps : Fields) (n : ℕ) → memos_of_fields (fields_above ps n) ≡ memos_of_fields ps
  memos_above_fields no_fields n = refl
  memos_above_fields (fields l p ps) n = ap₂ (λ xs ys. xs ++ ys) (memos_above p n) (memos_above_fields ps n)

  memos_above_branches : (bs : Branches) (n : ℕ) → memos_of_branches (branches_above bs n) ≡ memos_of_branches bs
  memos_above_branches no_branches n = refl
  memos_above_branches (rest c) n = memos_above c n
  memos_above_branches (branch l b bs) n = ap₂ (λ xs ys. xs ++ ys) (memos_above b (n + 1)) (memos_above_branches bs n)

  memos_above_key : (q : Key) (n : ℕ) → memos_of_key (key_above q n) ≡ memos_of_key q
  memos_above_key no_key n = refl
  memos_above_key (key l p) n = memos_above p n

-- where no join stands, a raised plan is the raised term
mutual
  pub erased_above : (p : Node) (n : ℕ) → joins_in p ≡ [] → erased (above p n) ≡ shift_of (erased p) n 1
  erased_above (node.Plain t) n j = refl
  erased_above (node.Var x) n j = refl
  erased_above (node.Rec ps) n j = ap term.Rec (erased_fields_above ps n j)
  erased_above (node.Proj l a) n j = ap (term.Proj l) (erased_above a n j)
  erased_above (node.Inj l a) n j = ap (term.Inj l) (erased_above a n j)
  erased_above (node.Case a bs) n j =
      ap₂ term.Case (erased_above a n (none_first (joins_in a) (joins_of_branches bs) j))
      (erased_branches_above bs n (none_behind (joins_in a) (joins_of_branches bs) j))
  erased_above (node.Make k ps) n j = ap (term.Make k) (erased_nodes_above ps n j)
  erased_above (node.Union a b) n j =
      ap₂ term.Union (erased_above a n (none_first (joins_in a) (joins_in b) j)) (erased_above b n (none_behind (joins_in a) (joins_in b) j))
  erased_above (node.Ext k b s) n j =
      ap₂ (term.Ext k) (erased_above b (n + 1) (none_behind (joins_in s) (joins_in b) j)) (erased_above s n (none_first (joins_in s) (joins_in b) j))
  erased_above (node.If a b c) n j =
      let i = none_behind (joins_in a) (joins_in b ++ joins_in c) j in
      choice_is (erased_above a n (none_first (joins_in a) (joins_in b ++ joins_in c) j)) (erased_above b n (none_first (joins_in b) (joins_in c) i))
      (erased_above c n (none_behind (joins_in b) (joins_in c) i))
  erased_above (node.Let a b) n j =
      ap₂ term.Let (erased_above a n (none_first (joins_in a) (joins_in b) j)) (erased_above b (n + 1) (none_behind (joins_in a) (joins_in b) j))
  erased_above (node.Prim c ps) n j = ap (term.Prim c) (erased_nodes_above ps n j)
  erased_above (node.Scan c) n j = refl
  erased_above (node.Join m k how o cs i q b) n j = cc
  erased_above (node.Memo m frees p) n j = erased_above p n j

  erased_nodes_above : (ps : Nodes) (n : ℕ) → joins_of_nodes ps ≡ [] → erased_nodes (nodes_above ps n) ≡ shift_trees (erased_nodes ps) n 1
  erased_nodes_above no_nodes n j = refl
  erased_nodes_above (nodes p ps) n j =
      ap₂ trees (erased_above p n (none_first (joins_in p) (joins_of_nodes ps) j)) (erased_nodes_above ps n (none_behind (joins_in p) (joins_of_nodes ps) j))

  erased_fields_above : (ps : Fields) (n : ℕ) → joins_of_fields ps ≡ [] → erased_fields (fields_above ps n) ≡ shift_parts (erased_fields ps) n 1
  erased_fields_above no_fields n j = refl
  erased_fields_above (fields l p ps) n j =
      ap₂ (parts l) (erased_above p n (none_first (joins_in p) (joins_of_fields ps) j)) (erased_fields_above ps n (none_behind (joins_in p) (joins_of_fields ps) j))

  erased_branches_above : (bs : Branches) (n : ℕ) → joins_of_branches bs ≡ [] → erased_branches (branches_above bs n) ≡ shift_arms (erased_branches bs) n 1
  erased_branches_above no_branches n j = refl
  erased_branches_above (rest c) n j = ap term.rest (erased_above c n j)
  erased_branches_above (branch l b bs) n j =
      ap₂ (arm l) (erased_above b (n + 1) (none_first (joins_in b) (joins_of_branches bs) j))
      (erased_branches_above bs n (none_behind (joins_in b) (joins_of_branches bs) j))
