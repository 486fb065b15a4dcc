-- Plans that differ in their numbers alone make sense at the same types.
use Rattle.std.proofs.Common.{⊎_elim, inl, inr, List, ◌∷◌, length, sym, ap, subst, ◌∙◌}
use Rattle.kl_value.specs.declared.Kind.{Kind}
use Rattle.kl_type.specs.Ground.{Ground, Row, bool, rec as rec_type, var as var_type, coll, IsGround}
use Rattle.kl_ask.specs.declared.settings.JoinHow.{JoinHow}
use Rattle.kl_ask.specs.declared.settings.JoinHow.TheVariants as way
use Rattle.kl_outcome.specs.Outcome.{Name}
use Rattle.kl_plan.specs.declared.plan.Scan.{Scan}
use Rattle.kl_plan.specs.Nodes as node
use Rattle.kl_plan.specs.Nodes.{Node, Nodes, no_nodes, nodes, Fields, no_fields, fields, Branches, no_branches, rest, branch, Key}
use Rattle.kl_plan.specs.Nodes.{no_key, key}
use Rattle.kl_plan.specs.Typing.{HasBranch, AnyMemo, PlanTypes, KeyTypes, EachPlan, PlansOf, FieldTypes, BranchTypes}
use Rattle.kl_joins.specs.Numbered.{SameScan, SamePlan, SameNodes, SameFields, SameBranches, SameKey}
use Rattle.kl_joins.proofs.Amounts.{none_stands}
use Rattle.kl_joins.proofs.SameOccurs.{same_frees}

has_branch : (l : Name) (cs bs : Branches) → SameBranches cs bs → HasBranch l cs → HasBranch l bs
has_branch l cs no_branches h b = subst (HasBranch l) h b
has_branch l cs (rest c) h b = tt
has_branch l cs (branch m c bs) h b =
    ⊎_elim (λ e. inl e) (λ g. inr (has_branch l h.1 bs h.4 g)) (subst (HasBranch l) h.2 b)

module _ (Of : Scan → Ground → Type 0) (types : (c d : Scan) (u : Ground) → SameScan c d → Of c u → Of d u) where
  mutual
    pub same_typed : (p r : Node) (G : List Ground) (s : Ground) → SamePlan p r → PlanTypes Of AnyMemo G p s → PlanTypes Of AnyMemo G r s
    same_typed p (node.Plain t) G s h e = subst (λ (x : Node). PlanTypes Of AnyMemo G x s) h e
    same_typed p (node.Var x) G s h e = subst (λ (x : Node). PlanTypes Of AnyMemo G x s) h e
    same_typed p (node.Rec ps) G s h e =
        let t : PlanTypes Of AnyMemo G (node.Rec h.0) s = subst (λ (x : Node). PlanTypes Of AnyMemo G x s) h.1 e in
        (t.0, t.1, t.2, fields_typed h.0 ps G t.0 h.2 t.3)
    same_typed p (node.Proj l a) G s h e =
        let t : PlanTypes Of AnyMemo G (node.Proj l h.0) s = subst (λ (x : Node). PlanTypes Of AnyMemo G x s) h.1 e in
        (t.0, same_typed h.0 a G (rec_type t.0) h.2 t.1, t.2)
    same_typed p (node.Inj l a) G s h e =
        let t : PlanTypes Of AnyMemo G (node.Inj l h.0) s = subst (λ (x : Node). PlanTypes Of AnyMemo G x s) h.1 e in
        (t.0, t.1, t.2, t.3, t.4, same_typed h.0 a G t.1 h.2 t.5)
    same_typed p (node.Case a bs) G s h e =
        let t : PlanTypes Of AnyMemo G (node.Case h.0 h.1) s = subst (λ (x : Node). PlanTypes Of AnyMemo G x s) h.2 e in
        (t.0, same_typed h.0 a G (var_type t.0) h.3 t.1, λ l i. has_branch l h.1 bs h.4 (t.2 l i), branches_typed h.1 bs G t.0 s h.4 t.3)
    same_typed p (node.Make k ps) G s h e =
        let t : PlanTypes Of AnyMemo G (node.Make k h.0) s = subst (λ (x : Node). PlanTypes Of AnyMemo G x s) h.1 e in
        (t.0, t.1, t.2, each_typed h.0 ps G t.0 h.2 t.3)
    same_typed p (node.Union a b) G s h e =
        let t : PlanTypes Of AnyMemo G (node.Union h.0 h.1) s = subst (λ (x : Node). PlanTypes Of AnyMemo G x s) h.2 e in
        (t.0, t.1, t.2, same_typed h.0 a G s h.3 t.3, same_typed h.1 b G s h.4 t.4)
    same_typed p (node.Ext k b a) G s h e =
        let t : PlanTypes Of AnyMemo G (node.Ext k h.0 h.1) s = subst (λ (x : Node). PlanTypes Of AnyMemo G x s) h.2 e in
        (t.0, t.1, t.2, t.3, same_typed h.1 a G (coll t.1 t.2) h.4 t.4, same_typed h.0 b (t.2 ∷ G) s h.3 t.5)
    same_typed p (node.If a b c) G s h e =
        let t : PlanTypes Of AnyMemo G (node.If h.0 h.1 h.2) s = subst (λ (x : Node). PlanTypes Of AnyMemo G x s) h.3 e in
        (same_typed h.0 a G bool h.4 t.0, same_typed h.1 b G s h.5 t.1, same_typed h.2 c G s h.6 t.2)
    same_typed p (node.Let a b) G s h e =
        let t : PlanTypes Of AnyMemo G (node.Let h.0 h.1) s = subst (λ (x : Node). PlanTypes Of AnyMemo G x s) h.2 e in
        (t.0, same_typed h.0 a G t.0 h.3 t.1, same_typed h.1 b (t.0 ∷ G) s h.4 t.2)
    same_typed p (node.Prim c ps) G s h e =
        let t : PlanTypes Of AnyMemo G (node.Prim c h.0) s = subst (λ (x : Node). PlanTypes Of AnyMemo G x s) h.1 e in
        (t.0, plans_typed h.0 ps G t.0 h.2 t.1, t.2)
    same_typed p (node.Scan c) G s h e =
        let t : PlanTypes Of AnyMemo G (node.Scan h.0) s = subst (λ (x : Node). PlanTypes Of AnyMemo G x s) h.1 e in
        (t.0, t.1 ∙ ap (λ k. coll k t.0) h.2.kind, t.2, types h.0 c t.0 h.2 t.3)
    same_typed p (node.Join n k how o cs i q b) G s h e =
        let t : PlanTypes Of AnyMemo G (node.Join h.0 k how h.1 h.2 h.3 h.4 h.5) s = subst (λ (x : Node). PlanTypes Of AnyMemo G x s) h.6 e in (
          t.0,
          t.1,
          t.2,
          t.3,
          t.4,
          same_typed h.1 o G (coll t.1 t.2) h.7 t.5,
          each_typed h.2 cs (t.2 ∷ G) bool h.8 t.6,
          subst (λ (j : Kind). IsGround (coll j t.3)) h.9.kind t.7,
          types h.3 i t.3 h.9 t.8,
          key_typed h.4 q (t.2 ∷ G) how k t.3 h.10 t.9,
          same_typed h.5 b (t.3 ∷ t.2 ∷ G) s h.11 t.10,
        )
    same_typed p (node.Memo n frees a) G s h e =
        let t : PlanTypes Of AnyMemo G (node.Memo h.0 frees h.1) s = subst (λ (x : Node). PlanTypes Of AnyMemo G x s) h.2 e in
        (t.0, t.1, t.2, same_typed h.1 a G s h.3 t.3, t.4 ∙ sym (same_frees h.1 a h.3 (length G)), none_stands h.1 a h.3 t.5, tt)

    pub key_typed : (e q : Key) (G : List Ground) (how : JoinHow) (k : Kind) (v : Ground) → SameKey e q
        → KeyTypes Of AnyMemo G how k e v → KeyTypes Of AnyMemo G how k q v
    key_typed e no_key G how k v h t = subst (λ (x : Key). KeyTypes Of AnyMemo G how k x v) h t
    key_typed e (key l p) G way.Block k v h t = subst (λ (x : Key). KeyTypes Of AnyMemo G way.Block k x v) h.1 t
    key_typed e (key l p) G way.Index k v h t =
        let u : KeyTypes Of AnyMemo G way.Index k (key l h.0) v = subst (λ (x : Key). KeyTypes Of AnyMemo G way.Index k x v) h.1 t in
        (u.0, u.1, u.2, u.3, same_typed h.0 p G u.1 h.2 u.4)

    pub each_typed : (qs ps : Nodes) (G : List Ground) (u : Ground) → SameNodes qs ps → EachPlan Of AnyMemo G qs u → EachPlan Of AnyMemo G ps u
    each_typed qs no_nodes G u h e = tt
    each_typed qs (nodes p ps) G u h e =
        let t : EachPlan Of AnyMemo G (nodes h.0 h.1) u = subst (λ (xs : Nodes). EachPlan Of AnyMemo G xs u) h.2 e in
        (same_typed h.0 p G u h.3 t.0, each_typed h.1 ps G u h.4 t.1)

    pub plans_typed : (qs ps : Nodes) (G : List Ground) (us : List Ground) → SameNodes qs ps → PlansOf Of AnyMemo G qs us → PlansOf Of AnyMemo G ps us
    plans_typed qs no_nodes G us h e = subst (λ (xs : Nodes). PlansOf Of AnyMemo G xs us) h e
    plans_typed qs (nodes p ps) G us h e =
        let t : PlansOf Of AnyMemo G (nodes h.0 h.1) us = subst (λ (xs : Nodes). PlansOf Of AnyMemo G xs us) h.2 e in
        (t.0, t.1, t.2, same_typed h.0 p G t.0 h.3 t.3, plans_typed h.1 ps G t.1 h.4 t.4)

    pub fields_typed : (qs ps : Fields) (G : List Ground) (r : Row) → SameFields qs ps → FieldTypes Of AnyMemo G qs r → FieldTypes Of AnyMemo G ps r
    fields_typed qs no_fields G r h e = subst (λ (xs : Fields). FieldTypes Of AnyMemo G xs r) h e
    fields_typed qs (fields l p ps) G r h e =
        let t : FieldTypes Of AnyMemo G (fields l h.0 h.1) r = subst (λ (xs : Fields). FieldTypes Of AnyMemo G xs r) h.2 e in
        (t.0, t.1, t.2, same_typed h.0 p G t.0 h.3 t.3, fields_typed h.1 ps G t.1 h.4 t.4)

    pub branches_typed : (cs bs : Branches) (G : List Ground) (r : Row) (s : Ground) → SameBranches cs bs
        → BranchTypes Of AnyMemo G cs r s → BranchTypes Of AnyMemo G bs r s
    branches_typed cs no_branches G r s h e = tt
    branches_typed cs (rest b) G r s h e =
        let t : BranchTypes Of AnyMemo G (rest h.0) r s = subst (λ (xs : Branches). BranchTypes Of AnyMemo G xs r s) h.1 e in
        same_typed h.0 b G s h.2 t
    branches_typed cs (branch l b bs) G r s h e =
        let t : BranchTypes Of AnyMemo G (branch l h.0 h.1) r s = subst (λ (xs : Branches). BranchTypes Of AnyMemo G xs r s) h.2 e in
        (t.0, t.1, same_typed h.0 b (t.0 ∷ G) s h.3 t.2, branches_typed h.1 bs G r s h.4 t.3)
