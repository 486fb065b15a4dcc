-- A plan without joins and memos that makes sense with one position more makes sense without it.
use Rattle.std.proofs.Common.{◌≡◌, inl, inr, ℕ, ◌+◌, List, [], ◌∷◌, ◌++◌, length, refl, sym, ◌∙◌, arith}
use Rattle.kl_type.specs.Ground.{Ground, Row}
use Rattle.kl_outcome.specs.Outcome.{Name}
use Rattle.kl_core.specs.Leaves.{LeavesOfTrees, LeavesOfParts, LeavesOfArms}
use Rattle.kl_core.specs.Positions.{shift_of, shift_trees, shift_parts, shift_arms}
use Rattle.kl_core.specs.Trees as term
use Rattle.kl_core.specs.Trees.{Tree, Trees, no_trees, trees, Parts, no_parts, parts, Arms, no_arms, arm}
use Rattle.kl_core.proofs.Lowering.{lowered_typed}
use Rattle.kl_core.proofs.Meanings.{raised_get}
use Rattle.kl_plan.specs.declared.plan.Scan.{Scan}
use Rattle.kl_plan.specs.Keys.{above, nodes_above, fields_above, branches_above}
use Rattle.kl_plan.specs.Nodes as node
use Rattle.kl_plan.specs.Nodes.{Node, Nodes, no_nodes, nodes, Fields, no_fields, fields, Branches, no_branches, rest, branch}
use Rattle.kl_plan.specs.Numbers.{joins_in, joins_of_nodes, joins_of_fields, joins_of_branches}
use Rattle.kl_plan.specs.Numbers.{memos_in, memos_of_nodes, memos_of_fields, memos_of_branches}
use Rattle.kl_plan.specs.Typing.{Anywhere, Nowhere, NoSource, PlanTypes, EachPlan, PlansOf, FieldTypes, BranchTypes, HasBranch}
use Rattle.kl_plan.proofs.Empty.{none_first, none_behind}

-- ---- terms without sources

mutual
  unread : (t : Tree) (n m : ℕ) → NoSource (shift_of t n m) → NoSource t
  unread (term.Var x) n m h = tt
  unread (term.Const v) n m h = tt
  unread (term.Source i) n m h = h
  unread (term.Rec ps) n m h = unread_parts ps n m h
  unread (term.Proj l a) n m h = unread a n m h
  unread (term.Inj l a) n m h = unread a n m h
  unread (term.Case a bs) n m h = (unread a n m h.0, unread_arms bs n m h.1)
  unread (term.Make k ts) n m h = unread_trees ts n m h
  unread (term.Union a b) n m h = (unread a n m h.0, unread b n m h.1)
  unread (term.Ext k b s) n m h = (unread b (n + 1) m h.0, unread s n m h.1)
  unread (term.If a b c) n m h = (unread a n m h.0, unread b n m h.1, unread c n m h.2)
  unread (term.Let a b) n m h = (unread a n m h.0, unread b (n + 1) m h.1)
  unread (term.Prim c ts) n m h = unread_trees ts n m h

  unread_trees : (ts : Trees) (n m : ℕ) → LeavesOfTrees Anywhere Nowhere (shift_trees ts n m) → LeavesOfTrees Anywhere Nowhere ts
  unread_trees no_trees n m h = tt
  unread_trees (trees t ts) n m h = (unread t n m h.0, unread_trees ts n m h.1)

  unread_parts : (ps : Parts) (n m : ℕ) → LeavesOfParts Anywhere Nowhere (shift_parts ps n m) → LeavesOfParts Anywhere Nowhere ps
  unread_parts no_parts n m h = tt
  unread_parts (parts l t ps) n m h = (unread t n m h.0, unread_parts ps n m h.1)

  unread_arms : (bs : Arms) (n m : ℕ) → LeavesOfArms Anywhere Nowhere (shift_arms bs n m) → LeavesOfArms Anywhere Nowhere bs
  unread_arms no_arms n m h = tt
  unread_arms (term.rest c) n m h = unread c n m h
  unread_arms (arm l b bs) n m h = (unread b (n + 1) m h.0, unread_arms bs n m h.1)

-- ---- plans

branch_before : (l : Name) (bs : Branches) (n : ℕ) → HasBranch l (branches_above bs n) → HasBranch l bs
branch_before l no_branches n h = h
branch_before l (rest c) n h = tt
branch_before l (branch k b bs) n (inl e) = inl e
branch_before l (branch k b bs) n (inr h) = inr (branch_before l bs n h)

module _ (Of : Scan → Ground → Type 0) (Listed : ℕ → List ℕ → Node → Type 0) (v : Ground) where
  mutual
    pub lowered_plan : (p : Node) (pre post : List Ground) (s : Ground) (n : ℕ) → n ≡ length pre → joins_in p ≡ [] → memos_in p ≡ []
        → PlanTypes Of Listed (pre ++ v ∷ post) (above p n) s → PlanTypes Of Listed (pre ++ post) p s
    lowered_plan (node.Plain t) pre post s n e j m h = (unread t n 1 h.0, λ S. lowered_typed S t pre (v ∷ []) post s n 1 e refl (h.1 S))
    lowered_plan (node.Var x) pre post s n e j m h = (sym (raised_get pre (v ∷ []) post x) ∙ (rw e at h.0), h.1)
    lowered_plan (node.Rec ps) pre post s n e j m h = (h.0, h.1, h.2, lowered_fields ps pre post h.0 n e j m h.3)
    lowered_plan (node.Proj l a) pre post s n e j m h = (h.0, lowered_plan a pre post _ n e j m h.1, h.2)
    lowered_plan (node.Inj l a) pre post s n e j m h = (h.0, h.1, h.2, h.3, h.4, lowered_plan a pre post h.1 n e j m h.5)
    lowered_plan (node.Case a bs) pre post s n e j m h = (
      h.0,
      lowered_plan a pre post _ n e (none_first (joins_in a) (joins_of_branches bs) j) (none_first (memos_in a) (memos_of_branches bs) m) h.1,
      λ l i. branch_before l bs n (h.2 l i),
      lowered_branches bs pre post h.0 s n e (none_behind (joins_in a) (joins_of_branches bs) j) (none_behind (memos_in a) (memos_of_branches bs) m) h.3,
    )
    lowered_plan (node.Make k ps) pre post s n e j m h = (h.0, h.1, h.2, lowered_each ps pre post h.0 n e j m h.3)
    lowered_plan (node.Union a b) pre post s n e j m h = (
      h.0,
      h.1,
      h.2,
      lowered_plan a pre post s n e (none_first (joins_in a) (joins_in b) j) (none_first (memos_in a) (memos_in b) m) h.3,
      lowered_plan b pre post s n e (none_behind (joins_in a) (joins_in b) j) (none_behind (memos_in a) (memos_in b) m) h.4,
    )
    lowered_plan (node.Ext k b a) pre post s n e j m h = (
      h.0,
      h.1,
      h.2,
      h.3,
      lowered_plan a pre post _ n e (none_first (joins_in a) (joins_in b) j) (none_first (memos_in a) (memos_in b) m) h.4,
      lowered_plan b (h.2 ∷ pre) post s (n + 1) (omega arith) (none_behind (joins_in a) (joins_in b) j) (none_behind (memos_in a) (memos_in b) m) h.5,
    )
    lowered_plan (node.If a b c) pre post s n e j m h =
        let i = none_behind (joins_in a) (joins_in b ++ joins_in c) j in
        let o = none_behind (memos_in a) (memos_in b ++ memos_in c) m in (
          lowered_plan a pre post _ n e (none_first (joins_in a) (joins_in b ++ joins_in c) j) (none_first (memos_in a) (memos_in b ++ memos_in c) m) h.0,
          lowered_plan b pre post s n e (none_first (joins_in b) (joins_in c) i) (none_first (memos_in b) (memos_in c) o) h.1,
          lowered_plan c pre post s n e (none_behind (joins_in b) (joins_in c) i) (none_behind (memos_in b) (memos_in c) o) h.2,
        )
    lowered_plan (node.Let a b) pre post s n e j m h = (
      h.0,
      lowered_plan a pre post h.0 n e (none_first (joins_in a) (joins_in b) j) (none_first (memos_in a) (memos_in b) m) h.1,
      lowered_plan b (h.0 ∷ pre) post s (n + 1) (omega arith) (none_behind (joins_in a) (joins_in b) j) (none_behind (memos_in a) (memos_in b) m) h.2,
    )
    lowered_plan (node.Prim c ps) pre post s n e j m h = (h.0, lowered_all ps pre post h.0 n e j m h.1, h.2)
    lowered_plan (node.Scan c) pre post s n e j m h = h
    lowered_plan (node.Join i k how o cs x q b) pre post s n e j m h = cc
    lowered_plan (node.Memo i frees p) pre post s n e j m h = cc

    lowered_each : (ps : Nodes) (pre post : List Ground) (s : Ground) (n : ℕ) → n ≡ length pre → joins_of_nodes ps ≡ [] → memos_of_nodes ps ≡ []
        → EachPlan Of Listed (pre ++ v ∷ post) (nodes_above ps n) s → EachPlan Of Listed (pre ++ post) ps s
    lowered_each no_nodes pre post s n e j m h = tt
    lowered_each (nodes p ps) pre post s n e j m h = (
      lowered_plan p pre post s n e (none_first (joins_in p) (joins_of_nodes ps) j) (none_first (memos_in p) (memos_of_nodes ps) m) h.0,
      lowered_each ps pre post s n e (none_behind (joins_in p) (joins_of_nodes ps) j) (none_behind (memos_in p) (memos_of_nodes ps) m) h.1,
    )

    lowered_all : (ps : Nodes) (pre post ss : List Ground) (n : ℕ) → n ≡ length pre → joins_of_nodes ps ≡ [] → memos_of_nodes ps ≡ []
        → PlansOf Of Listed (pre ++ v ∷ post) (nodes_above ps n) ss → PlansOf Of Listed (pre ++ post) ps ss
    lowered_all no_nodes pre post ss n e j m h = h
    lowered_all (nodes p ps) pre post ss n e j m h = (
      h.0,
      h.1,
      h.2,
      lowered_plan p pre post h.0 n e (none_first (joins_in p) (joins_of_nodes ps) j) (none_first (memos_in p) (memos_of_nodes ps) m) h.3,
      lowered_all ps pre post h.1 n e (none_behind (joins_in p) (joins_of_nodes ps) j) (none_behind (memos_in p) (memos_of_nodes ps) m) h.4,
    )

    lowered_fields : (ps : Fields) (pre post : List Ground) (r : Row) (n : ℕ) → n ≡ length pre → joins_of_fields ps ≡ [] → memos_of_fields ps ≡ []
        → FieldTypes Of Listed (pre ++ v ∷ post) (fields_above ps n) r → FieldTypes Of Listed (pre ++ post) ps r
    lowered_fields no_fields pre post r n e j m h = h
    lowered_fields (fields l p ps) pre post r n e j m h = (
      h.0,
      h.1,
      h.2,
      lowered_plan p pre post h.0 n e (none_first (joins_in p) (joins_of_fields ps) j) (none_first (memos_in p) (memos_of_fields ps) m) h.3,
      lowered_fields ps pre post h.1 n e (none_behind (joins_in p) (joins_of_fields ps) j) (none_behind (memos_in p) (memos_of_fields ps) m) h.4,
    )

    lowered_branches : (bs : Branches) (pre post : List Ground) (r : Row) (s : Ground) (n : ℕ) → n ≡ length pre → joins_of_branches bs ≡ [] → memos_of_branches bs ≡ []
        → BranchTypes Of Listed (pre ++ v ∷ post) (branches_above bs n) r s → BranchTypes Of Listed (pre ++ post) bs r s
    lowered_branches no_branches pre post r s n e j m h = tt
    lowered_branches (rest c) pre post r s n e j m h = lowered_plan c pre post s n e j m h
    lowered_branches (branch l b bs) pre post r s n e j m h = (
      h.0,
      h.1,
      lowered_plan b (h.0 ∷ pre) post s (n + 1) (omega arith) (none_first (joins_in b) (joins_of_branches bs) j) (none_first (memos_in b) (memos_of_branches bs) m) h.2,
      lowered_branches bs pre post r s n e (none_behind (joins_in b) (joins_of_branches bs) j) (none_behind (memos_in b) (memos_of_branches bs) m) h.3,
    )
