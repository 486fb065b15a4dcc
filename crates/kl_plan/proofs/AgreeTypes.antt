-- The type of a term, or of a plan in which no memo stands, rests on the types of its free positions alone.
use Rattle.std.proofs.Common.{◌≡◌, ℕ, ◌+◌, Bool, true, ◌||◌, List, [], ◌∷◌, ◌++◌, sym, subst, ◌∙◌, arith}
use Rattle.kl_value.specs.declared.Kind.{Kind}
use Rattle.kl_type.specs.Ground.{Ground, Row, bool, rec as rec_type, var as var_type, coll}
use Rattle.kl_ask.specs.declared.settings.JoinHow.{JoinHow}
use Rattle.kl_ask.specs.declared.settings.JoinHow.TheVariants as way
use Rattle.kl_core.specs.Positions.{occurs_in, occurs_trees, occurs_parts, occurs_arms}
use Rattle.kl_core.specs.Trees as term
use Rattle.kl_core.specs.Trees.{Tree, Trees, no_trees, trees, Parts, no_parts, parts, Arms, no_arms, arm}
use Rattle.kl_core.specs.Typing.{SourceTypes, CoreTypes, EachType, AllTypes, PartTypes, ArmTypes}
use Rattle.kl_plan.proofs.Empty.{none_first, none_behind}
use Rattle.kl_plan.specs.declared.plan.Scan.{Scan}
use Rattle.kl_plan.specs.Nodes as node
use Rattle.kl_plan.specs.Nodes.{Node, Nodes, no_nodes, nodes, Fields, no_fields, fields, Branches, no_branches, rest, branch, Key, no_key, key}
use Rattle.kl_plan.specs.Numbers.{memos_in, memos_of_nodes, memos_of_fields, memos_of_branches, memos_of_key}
use Rattle.kl_plan.specs.Occurs.{occurs, occurs_nodes, occurs_fields, occurs_branches, occurs_key}
use Rattle.kl_plan.specs.Typing.{PlanTypes, EachPlan, PlansOf, FieldTypes, BranchTypes, KeyTypes}
use Rattle.kl_plan.proofs.Agree.{AgreeAt, onto_left, onto_right, inwards, its_own}

-- ---- terms

module _ (S : SourceTypes) where
  mutual
    pub core_types_agree : (t : Tree) (G H : List Ground) (s : Ground) → AgreeAt (λ n. occurs_in n t) G H → CoreTypes S G t s → CoreTypes S H t s
    core_types_agree (term.Var x) G H s a h = (sym (a x (its_own x)) ∙ h.0, h.1)
    core_types_agree (term.Const v) G H s a h = h
    core_types_agree (term.Source i) G H s a h = h
    core_types_agree (term.Rec ps) G H s a h = (h.0, h.1, h.2, part_types_agree ps G H h.0 a h.3)
    core_types_agree (term.Proj l b) G H s a h = (h.0, core_types_agree b G H (rec_type h.0) a h.1, h.2)
    core_types_agree (term.Inj l b) G H s a h = (h.0, h.1, h.2, h.3, h.4, core_types_agree b G H h.1 a h.5)
    core_types_agree (term.Case b bs) G H s a h = (
      h.0,
      core_types_agree b G H (var_type h.0) (onto_left (λ n. occurs_in n b) (λ n. occurs_arms n bs) G H a) h.1,
      h.2,
      arm_types_agree bs G H h.0 s (onto_right (λ n. occurs_in n b) (λ n. occurs_arms n bs) G H a) h.3,
    )
    core_types_agree (term.Make k ts) G H s a h = (h.0, h.1, h.2, each_type_agrees ts G H h.0 a h.3)
    core_types_agree (term.Union b c) G H s a h = (
      h.0,
      h.1,
      h.2,
      core_types_agree b G H s (onto_left (λ n. occurs_in n b) (λ n. occurs_in n c) G H a) h.3,
      core_types_agree c G H s (onto_right (λ n. occurs_in n b) (λ n. occurs_in n c) G H a) h.4,
    )
    core_types_agree (term.Ext k b c) G H s a h = (
      h.0,
      h.1,
      h.2,
      h.3,
      core_types_agree c G H (coll h.1 h.2) (onto_right (λ n. occurs_in (n + 1) b) (λ n. occurs_in n c) G H a) h.4,
      core_types_agree b (h.2 ∷ G) (h.2 ∷ H) s
          (inwards (λ n. occurs_in n b) G H h.2 (onto_left (λ n. occurs_in (n + 1) b) (λ n. occurs_in n c) G H a)) h.5,
    )
    core_types_agree (term.If b c d) G H s a h =
        let g = onto_right (λ n. occurs_in n b) (λ n. occurs_in n c || occurs_in n d) G H a in (
          core_types_agree b G H bool (onto_left (λ n. occurs_in n b) (λ n. occurs_in n c || occurs_in n d) G H a) h.0,
          core_types_agree c G H s (onto_left (λ n. occurs_in n c) (λ n. occurs_in n d) G H g) h.1,
          core_types_agree d G H s (onto_right (λ n. occurs_in n c) (λ n. occurs_in n d) G H g) h.2,
        )
    core_types_agree (term.Let b c) G H s a h = (
      h.0,
      core_types_agree b G H h.0 (onto_left (λ n. occurs_in n b) (λ n. occurs_in (n + 1) c) G H a) h.1,
      core_types_agree c (h.0 ∷ G) (h.0 ∷ H) s
          (inwards (λ n. occurs_in n c) G H h.0 (onto_right (λ n. occurs_in n b) (λ n. occurs_in (n + 1) c) G H a)) h.2,
    )
    core_types_agree (term.Prim c ts) G H s a h = (h.0, all_types_agree ts G H h.0 a h.1, h.2)

    each_type_agrees : (ts : Trees) (G H : List Ground) (u : Ground) → AgreeAt (λ n. occurs_trees n ts) G H → EachType S G ts u → EachType S H ts u
    each_type_agrees no_trees G H u a h = tt
    each_type_agrees (trees t ts) G H u a h = (
      core_types_agree t G H u (onto_left (λ n. occurs_in n t) (λ n. occurs_trees n ts) G H a) h.0,
      each_type_agrees ts G H u (onto_right (λ n. occurs_in n t) (λ n. occurs_trees n ts) G H a) h.1,
    )

    all_types_agree : (ts : Trees) (G H us : List Ground) → AgreeAt (λ n. occurs_trees n ts) G H → AllTypes S G ts us → AllTypes S H ts us
    all_types_agree no_trees G H us a h = h
    all_types_agree (trees t ts) G H us a h = (
      h.0,
      h.1,
      h.2,
      core_types_agree t G H h.0 (onto_left (λ n. occurs_in n t) (λ n. occurs_trees n ts) G H a) h.3,
      all_types_agree ts G H h.1 (onto_right (λ n. occurs_in n t) (λ n. occurs_trees n ts) G H a) h.4,
    )

    part_types_agree : (ps : Parts) (G H : List Ground) (r : Row) → AgreeAt (λ n. occurs_parts n ps) G H → PartTypes S G ps r → PartTypes S H ps r
    part_types_agree no_parts G H r a h = h
    part_types_agree (parts l t ps) G H r a h = (
      h.0,
      h.1,
      h.2,
      core_types_agree t G H h.0 (onto_left (λ n. occurs_in n t) (λ n. occurs_parts n ps) G H a) h.3,
      part_types_agree ps G H h.1 (onto_right (λ n. occurs_in n t) (λ n. occurs_parts n ps) G H a) h.4,
    )

    arm_types_agree : (bs : Arms) (G H : List Ground) (r : Row) (s : Ground) → AgreeAt (λ n. occurs_arms n bs) G H → ArmTypes S G bs r s → ArmTypes S H bs r s
    arm_types_agree no_arms G H r s a h = tt
    arm_types_agree (term.rest c) G H r s a h = core_types_agree c G H s a h
    arm_types_agree (arm l b bs) G H r s a h = (
      h.0,
      h.1,
      core_types_agree b (h.0 ∷ G) (h.0 ∷ H) s
          (inwards (λ n. occurs_in n b) G H h.0 (onto_left (λ n. occurs_in (n + 1) b) (λ n. occurs_arms n bs) G H a)) h.2,
      arm_types_agree bs G H r s (onto_right (λ n. occurs_in (n + 1) b) (λ n. occurs_arms n bs) G H a) h.3,
    )

-- ---- plans in which no memo stands

module _ (Of : Scan → Ground → Type 0) (Listed : ℕ → List ℕ → Node → Type 0) where
  mutual
    pub plan_types_agree : (p : Node) (G H : List Ground) (s : Ground) → memos_in p ≡ [] → AgreeAt (λ n. occurs n p) G H
        → PlanTypes Of Listed G p s → PlanTypes Of Listed H p s
    plan_types_agree (node.Plain t) G H s m a h = (h.0, λ S. core_types_agree S t G H s a (h.1 S))
    plan_types_agree (node.Var x) G H s m a h = (sym (a x (its_own x)) ∙ h.0, h.1)
    plan_types_agree (node.Rec ps) G H s m a h = (h.0, h.1, h.2, field_types_agree ps G H h.0 m a h.3)
    plan_types_agree (node.Proj l b) G H s m a h = (h.0, plan_types_agree b G H (rec_type h.0) m a h.1, h.2)
    plan_types_agree (node.Inj l b) G H s m a h = (h.0, h.1, h.2, h.3, h.4, plan_types_agree b G H h.1 m a h.5)
    plan_types_agree (node.Case b bs) G H s m a h = (
      h.0,
      plan_types_agree b G H (var_type h.0) (none_first (memos_in b) (memos_of_branches bs) m)
          (onto_left (λ n. occurs n b) (λ n. occurs_branches n bs) G H a) h.1,
      h.2,
      branch_types_agree bs G H h.0 s (none_behind (memos_in b) (memos_of_branches bs) m)
          (onto_right (λ n. occurs n b) (λ n. occurs_branches n bs) G H a) h.3,
    )
    plan_types_agree (node.Make k ps) G H s m a h = (h.0, h.1, h.2, each_plan_agrees ps G H h.0 m a h.3)
    plan_types_agree (node.Union b c) G H s m a h = (
      h.0,
      h.1,
      h.2,
      plan_types_agree b G H s (none_first (memos_in b) (memos_in c) m) (onto_left (λ n. occurs n b) (λ n. occurs n c) G H a) h.3,
      plan_types_agree c G H s (none_behind (memos_in b) (memos_in c) m) (onto_right (λ n. occurs n b) (λ n. occurs n c) G H a) h.4,
    )
    plan_types_agree (node.Ext k b c) G H s m a h = (
      h.0,
      h.1,
      h.2,
      h.3,
      plan_types_agree c G H (coll h.1 h.2) (none_first (memos_in c) (memos_in b) m)
          (onto_right (λ n. occurs (n + 1) b) (λ n. occurs n c) G H a) h.4,
      plan_types_agree b (h.2 ∷ G) (h.2 ∷ H) s (none_behind (memos_in c) (memos_in b) m)
          (inwards (λ n. occurs n b) G H h.2 (onto_left (λ n. occurs (n + 1) b) (λ n. occurs n c) G H a)) h.5,
    )
    plan_types_agree (node.If b c d) G H s m a h =
        let g = onto_right (λ n. occurs n b) (λ n. occurs n c || occurs n d) G H a in
        let l = none_behind (memos_in b) (memos_in c ++ memos_in d) m in (
          plan_types_agree b G H bool (none_first (memos_in b) (memos_in c ++ memos_in d) m)
              (onto_left (λ n. occurs n b) (λ n. occurs n c || occurs n d) G H a) h.0,
          plan_types_agree c G H s (none_first (memos_in c) (memos_in d) l) (onto_left (λ n. occurs n c) (λ n. occurs n d) G H g) h.1,
          plan_types_agree d G H s (none_behind (memos_in c) (memos_in d) l) (onto_right (λ n. occurs n c) (λ n. occurs n d) G H g) h.2,
        )
    plan_types_agree (node.Let b c) G H s m a h = (
      h.0,
      plan_types_agree b G H h.0 (none_first (memos_in b) (memos_in c) m)
          (onto_left (λ n. occurs n b) (λ n. occurs (n + 1) c) G H a) h.1,
      plan_types_agree c (h.0 ∷ G) (h.0 ∷ H) s (none_behind (memos_in b) (memos_in c) m)
          (inwards (λ n. occurs n c) G H h.0 (onto_right (λ n. occurs n b) (λ n. occurs (n + 1) c) G H a)) h.2,
    )
    plan_types_agree (node.Prim c ps) G H s m a h = (h.0, plans_of_agree ps G H h.0 m a h.1, h.2)
    plan_types_agree (node.Scan c) G H s m a h = h
    plan_types_agree (node.Join n k how o cs i q b) G H s m a h =
        let keyed : ℕ → Bool = λ n. occurs_key (n + 1) q || occurs (n + 2) b in
        let behind : ℕ → Bool = λ n. occurs_nodes (n + 1) cs || (occurs_key (n + 1) q || occurs (n + 2) b) in
        let g = onto_right (λ n. occurs n o) behind G H a in
        let f = onto_right (λ n. occurs_nodes (n + 1) cs) keyed G H g in
        let ofbody : AgreeAt (λ n. occurs (n + 1 + 1) b) G H =
        λ n e. onto_right (λ n. occurs_key (n + 1) q) (λ n. occurs (n + 2) b) G H f n (subst (λ m. occurs m b ≡ true) (omega arith) e) in
        let l = none_behind (memos_in o) (memos_of_nodes cs ++ (memos_of_key q ++ memos_in b)) m in
        let j = none_behind (memos_of_nodes cs) (memos_of_key q ++ memos_in b) l in (
          h.0,
          h.1,
          h.2,
          h.3,
          h.4,
          plan_types_agree o G H (coll h.1 h.2) (none_first (memos_in o) (memos_of_nodes cs ++ (memos_of_key q ++ memos_in b)) m)
              (onto_left (λ n. occurs n o) behind G H a) h.5,
          each_plan_agrees cs (h.2 ∷ G) (h.2 ∷ H) bool (none_first (memos_of_nodes cs) (memos_of_key q ++ memos_in b) l)
              (inwards (λ n. occurs_nodes n cs) G H h.2 (onto_left (λ n. occurs_nodes (n + 1) cs) keyed G H g)) h.6,
          h.7,
          h.8,
          key_types_agree how k q (h.2 ∷ G) (h.2 ∷ H) h.3 (none_first (memos_of_key q) (memos_in b) j)
              (inwards (λ n. occurs_key n q) G H h.2 (onto_left (λ n. occurs_key (n + 1) q) (λ n. occurs (n + 2) b) G H f)) h.9,
          plan_types_agree b (h.3 ∷ h.2 ∷ G) (h.3 ∷ h.2 ∷ H) s (none_behind (memos_of_key q) (memos_in b) j)
              (inwards (λ n. occurs n b) (h.2 ∷ G) (h.2 ∷ H) h.3 (inwards (λ n. occurs (n + 1) b) G H h.2 ofbody)) h.10,
        )
    plan_types_agree (node.Memo n frees p) G H s m a h = let none : (n ∷ memos_in p) ≡ [] = m in cc

    key_types_agree : (how : JoinHow) (k : Kind) (q : Key) (G H : List Ground) (v : Ground) → memos_of_key q ≡ [] → AgreeAt (λ n. occurs_key n q) G H
        → KeyTypes Of Listed G how k q v → KeyTypes Of Listed H how k q v
    key_types_agree way.Block k no_key G H v m a h = h
    key_types_agree way.Block k (key l p) G H v m a h = absurd h
    key_types_agree way.Index k no_key G H v m a h = absurd h
    key_types_agree way.Index k (key l p) G H v m a h = (h.0, h.1, h.2, h.3, plan_types_agree p G H h.1 m a h.4)

    each_plan_agrees : (ps : Nodes) (G H : List Ground) (u : Ground) → memos_of_nodes ps ≡ [] → AgreeAt (λ n. occurs_nodes n ps) G H
        → EachPlan Of Listed G ps u → EachPlan Of Listed H ps u
    each_plan_agrees no_nodes G H u m a h = tt
    each_plan_agrees (nodes p ps) G H u m a h = (
      plan_types_agree p G H u (none_first (memos_in p) (memos_of_nodes ps) m)
          (onto_left (λ n. occurs n p) (λ n. occurs_nodes n ps) G H a) h.0,
      each_plan_agrees ps G H u (none_behind (memos_in p) (memos_of_nodes ps) m)
          (onto_right (λ n. occurs n p) (λ n. occurs_nodes n ps) G H a) h.1,
    )

    plans_of_agree : (ps : Nodes) (G H us : List Ground) → memos_of_nodes ps ≡ [] → AgreeAt (λ n. occurs_nodes n ps) G H
        → PlansOf Of Listed G ps us → PlansOf Of Listed H ps us
    plans_of_agree no_nodes G H us m a h = h
    plans_of_agree (nodes p ps) G H us m a h = (
      h.0,
      h.1,
      h.2,
      plan_types_agree p G H h.0 (none_first (memos_in p) (memos_of_nodes ps) m)
          (onto_left (λ n. occurs n p) (λ n. occurs_nodes n ps) G H a) h.3,
      plans_of_agree ps G H h.1 (none_behind (memos_in p) (memos_of_nodes ps) m)
          (onto_right (λ n. occurs n p) (λ n. occurs_nodes n ps) G H a) h.4,
    )

    field_types_agree : (ps : Fields) (G H : List Ground) (r : Row) → memos_of_fields ps ≡ [] → AgreeAt (λ n. occurs_fields n ps) G H
        → FieldTypes Of Listed G ps r → FieldTypes Of Listed H ps r
    field_types_agree no_fields G H r m a h = h
    field_types_agree (fields l p ps) G H r m a h = (
      h.0,
      h.1,
      h.2,
      plan_types_agree p G H h.0 (none_first (memos_in p) (memos_of_fields ps) m)
          (onto_left (λ n. occurs n p) (λ n. occurs_fields n ps) G H a) h.3,
      field_types_agree ps G H h.1 (none_behind (memos_in p) (memos_of_fields ps) m)
          (onto_right (λ n. occurs n p) (λ n. occurs_fields n ps) G H a) h.4,
    )

    branch_types_agree : (bs : Branches) (G H : List Ground) (r : Row) (s : Ground) → memos_of_branches bs ≡ []
        → AgreeAt (λ n. occurs_branches n bs) G H → BranchTypes Of Listed G bs r s → BranchTypes Of Listed H bs r s
    branch_types_agree no_branches G H r s m a h = tt
    branch_types_agree (rest c) G H r s m a h = plan_types_agree c G H s m a h
    branch_types_agree (branch l b bs) G H r s m a h = (
      h.0,
      h.1,
      plan_types_agree b (h.0 ∷ G) (h.0 ∷ H) s (none_first (memos_in b) (memos_of_branches bs) m)
          (inwards (λ n. occurs n b) G H h.0 (onto_left (λ n. occurs (n + 1) b) (λ n. occurs_branches n bs) G H a)) h.2,
      branch_types_agree bs G H r s (none_behind (memos_in b) (memos_of_branches bs) m)
          (onto_right (λ n. occurs (n + 1) b) (λ n. occurs_branches n bs) G H a) h.3,
    )
