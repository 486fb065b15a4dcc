-- A plan that makes sense does so where values of its parts are kept.
use Rattle.std.proofs.Common.{◌≡◌, ⊎_elim, inl, inr, ℕ, ◌+◌, List, ◌∷◌, length, sym, ap, subst, ◌∙◌, arith}
use Rattle.kl_value.specs.declared.Kind.{Kind}
use Rattle.kl_type.specs.Ground.{Ground, Row, bool, rec as rec_type, var as var_type, coll}
use Rattle.kl_outcome.specs.Outcome.{Name}
use Rattle.kl_ask.specs.declared.settings.JoinHow.{JoinHow}
use Rattle.kl_ask.specs.declared.settings.JoinHow.TheVariants as way
use Rattle.kl_plan.specs.declared.plan.Scan.{Scan}
use Rattle.kl_plan.specs.Nodes as node
use Rattle.kl_plan.specs.Nodes.{Node, Nodes, no_nodes, nodes, Fields, no_fields, fields, Branches, no_branches, rest, branch}
use Rattle.kl_plan.specs.Nodes.{Key, no_key, key}
use Rattle.kl_plan.specs.Occurs.{frees_in}
use Rattle.kl_plan.specs.Typing.{AnyMemo, PlanTypes, EachPlan, PlansOf, FieldTypes, BranchTypes, HasBranch, KeyTypes}
use Rattle.kl_plan.proofs.ListedTypes.{types_of_any}
use Rattle.kl_joins.specs.declared.keeping.Place.{Place}
use Rattle.kl_joins.specs.declared.keeping.Place.TheVariants as place
use Rattle.kl_joins.specs.MemosMade.{aside, at_source, IsLooping, MemosMade, EachKept, FieldsKept, BranchesKept, KeyKept}
use Rattle.kl_joins.proofs.NoMemos.{NoMemo, typed_bare}

-- the branches have the labels that they had
has_kept : (bs cs : Branches) (l : Place) (d : ℕ) (m : Name) → BranchesKept l d cs bs → HasBranch m cs → HasBranch m bs
has_kept no_branches cs l d m w h = subst (HasBranch m) w h
has_kept (rest b) cs l d m w h = tt
has_kept (branch n b bs) cs l d m w h = ⊎_elim (λ e. inl e) (λ g. inr (has_kept bs w.1 l d m w.4 g)) (subst (HasBranch m) w.2 h)

module _ (Of : Scan → Ground → Type 0) where
  -- a loop, a join and a scan give a collection
  looping_coll : (p : Node) (G : List Ground) (s : Ground) → IsLooping p → PlanTypes Of NoMemo G p s → (k : Kind) × (u : Ground) × (s ≡ coll k u)
  looping_coll (node.Ext k b a) G s i h = (k, h.0, h.3)
  looping_coll (node.Join n k how o cs c q b) G s i h = (k, h.0, h.4)
  looping_coll (node.Scan c) G s i h = (c.kind, h.0, h.1)
  looping_coll (node.Plain t) G s i h = absurd i
  looping_coll (node.Var x) G s i h = absurd i
  looping_coll (node.Rec ps) G s i h = absurd i
  looping_coll (node.Proj l a) G s i h = absurd i
  looping_coll (node.Inj l a) G s i h = absurd i
  looping_coll (node.Case a bs) G s i h = absurd i
  looping_coll (node.Make k ps) G s i h = absurd i
  looping_coll (node.Union a b) G s i h = absurd i
  looping_coll (node.If a b c) G s i h = absurd i
  looping_coll (node.Let a b) G s i h = absurd i
  looping_coll (node.Prim c ps) G s i h = absurd i
  looping_coll (node.Memo n frees a) G s i h = absurd i

  mutual
    pub memos_typed : (r : Node) (l : Place) (d : ℕ) (p : Node) (G : List Ground) (s : Ground) → length G ≡ d → PlanTypes Of NoMemo G p s
        → MemosMade l d p r → PlanTypes Of AnyMemo G r s
    memos_typed (node.Plain t) l d p G s z h w = subst (λ x. PlanTypes Of NoMemo G x s) w h
    memos_typed (node.Var x) l d p G s z h w = subst (λ y. PlanTypes Of NoMemo G y s) w h
    memos_typed (node.Rec ps) l d p G s z h w =
        let g : PlanTypes Of NoMemo G (node.Rec w.0) s = subst (λ x. PlanTypes Of NoMemo G x s) w.1 h in
        (g.0, g.1, g.2, fields_typed ps (aside l) d w.0 G g.0 z g.3 w.2)
    memos_typed (node.Proj m a) l d p G s z h w =
        let g : PlanTypes Of NoMemo G (node.Proj m w.0) s = subst (λ x. PlanTypes Of NoMemo G x s) w.1 h in
        (g.0, memos_typed a (aside l) d w.0 G (rec_type g.0) z g.1 w.2, g.2)
    memos_typed (node.Inj m a) l d p G s z h w =
        let g : PlanTypes Of NoMemo G (node.Inj m w.0) s = subst (λ x. PlanTypes Of NoMemo G x s) w.1 h in
        (g.0, g.1, g.2, g.3, g.4, memos_typed a (aside l) d w.0 G g.1 z g.5 w.2)
    memos_typed (node.Case a bs) l d p G s z h w =
        let g : PlanTypes Of NoMemo G (node.Case w.0 w.1) s = subst (λ x. PlanTypes Of NoMemo G x s) w.2 h in (
          g.0,
          memos_typed a (aside l) d w.0 G (var_type g.0) z g.1 w.3,
          λ m i. has_kept bs w.1 l d m w.4 (g.2 m i),
          branches_typed bs l d w.1 G g.0 s z g.3 w.4,
        )
    memos_typed (node.Make k ps) l d p G s z h w =
        let g : PlanTypes Of NoMemo G (node.Make k w.0) s = subst (λ x. PlanTypes Of NoMemo G x s) w.1 h in
        (g.0, g.1, g.2, each_typed ps (aside l) d w.0 G g.0 z g.3 w.2)
    memos_typed (node.Union a b) l d p G s z h w =
        let g : PlanTypes Of NoMemo G (node.Union w.0 w.1) s = subst (λ x. PlanTypes Of NoMemo G x s) w.2 h in
        (g.0, g.1, g.2, memos_typed a l d w.0 G s z g.3 w.3, memos_typed b l d w.1 G s z g.4 w.4)
    memos_typed (node.Ext k b a) l d p G s z h w =
        let g : PlanTypes Of NoMemo G (node.Ext k w.0 w.1) s = subst (λ x. PlanTypes Of NoMemo G x s) w.2 h in (
          g.0,
          g.1,
          g.2,
          g.3,
          memos_typed a (at_source l w.1) d w.1 G (coll g.1 g.2) z g.4 w.5,
          memos_typed b place.Spine (d + 1) w.0 (g.2 ∷ G) s (omega arith) g.5 w.4,
        )
    memos_typed (node.If a b c) l d p G s z h w =
        let g : PlanTypes Of NoMemo G (node.If w.0 w.1 w.2) s = subst (λ x. PlanTypes Of NoMemo G x s) w.3 h in
        (memos_typed a (aside l) d w.0 G bool z g.0 w.4, memos_typed b l d w.1 G s z g.1 w.5, memos_typed c l d w.2 G s z g.2 w.6)
    memos_typed (node.Let a b) l d p G s z h w =
        let g : PlanTypes Of NoMemo G (node.Let w.0 w.1) s = subst (λ x. PlanTypes Of NoMemo G x s) w.2 h in
        (g.0, memos_typed a (aside l) d w.0 G g.0 z g.1 w.3, memos_typed b l (d + 1) w.1 (g.0 ∷ G) s (omega arith) g.2 w.4)
    memos_typed (node.Prim c ps) l d p G s z h w =
        let g : PlanTypes Of NoMemo G (node.Prim c w.0) s = subst (λ x. PlanTypes Of NoMemo G x s) w.1 h in
        (g.0, all_typed ps (aside l) d w.0 G g.0 z g.1 w.2, g.2)
    memos_typed (node.Scan c) l d p G s z h w = subst (λ x. PlanTypes Of NoMemo G x s) w.0 h
    memos_typed (node.Join n k how o cs i q b) l d p G s z h w =
        let g : PlanTypes Of NoMemo G (node.Join n k how w.0 w.1 i w.2 w.3) s = subst (λ x. PlanTypes Of NoMemo G x s) w.4 h in (
          g.0,
          g.1,
          g.2,
          g.3,
          g.4,
          memos_typed o (aside l) d w.0 G (coll g.1 g.2) z g.5 w.6,
          each_typed cs place.Aside (d + 1) w.1 (g.2 ∷ G) bool (omega arith) g.6 w.7,
          g.7,
          g.8,
          key_typed q how k (d + 1) w.2 (g.2 ∷ G) g.3 (omega arith) g.9 w.8,
          memos_typed b place.Spine (d + 2) w.3 (g.3 ∷ g.2 ∷ G) s (omega arith) g.10 w.9,
        )
    memos_typed (node.Memo n frees a) l d p G s z h w =
        let c = looping_coll p G s w.0.1 h in
        let found : frees ≡ frees_in (length G) a = w.2 ∙ ap (λ m. frees_in m p) (sym z) ∙ ap (frees_in (length G)) (sym w.3) in
        let bare : PlanTypes Of NoMemo G a s = subst (λ x. PlanTypes Of NoMemo G x s) (sym w.3) h in
        (c.0, c.1, c.2, types_of_any Of NoMemo a G s bare, found, typed_bare Of a G s bare, tt)

    each_typed : (ps : Nodes) (l : Place) (d : ℕ) (qs : Nodes) (G : List Ground) (u : Ground) → length G ≡ d → EachPlan Of NoMemo G qs u
        → EachKept l d qs ps → EachPlan Of AnyMemo G ps u
    each_typed no_nodes l d qs G u z h w = tt
    each_typed (nodes p ps) l d qs G u z h w =
        let g : EachPlan Of NoMemo G (nodes w.0 w.1) u = subst (λ x. EachPlan Of NoMemo G x u) w.2 h in
        (memos_typed p l d w.0 G u z g.0 w.3, each_typed ps l d w.1 G u z g.1 w.4)

    all_typed : (ps : Nodes) (l : Place) (d : ℕ) (qs : Nodes) (G : List Ground) (us : List Ground) → length G ≡ d → PlansOf Of NoMemo G qs us
        → EachKept l d qs ps → PlansOf Of AnyMemo G ps us
    all_typed no_nodes l d qs G us z h w = subst (λ x. PlansOf Of NoMemo G x us) w h
    all_typed (nodes p ps) l d qs G us z h w =
        let g : PlansOf Of NoMemo G (nodes w.0 w.1) us = subst (λ x. PlansOf Of NoMemo G x us) w.2 h in
        (g.0, g.1, g.2, memos_typed p l d w.0 G g.0 z g.3 w.3, all_typed ps l d w.1 G g.1 z g.4 w.4)

    fields_typed : (ps : Fields) (l : Place) (d : ℕ) (qs : Fields) (G : List Ground) (r : Row) → length G ≡ d → FieldTypes Of NoMemo G qs r
        → FieldsKept l d qs ps → FieldTypes Of AnyMemo G ps r
    fields_typed no_fields l d qs G r z h w = subst (λ x. FieldTypes Of NoMemo G x r) w h
    fields_typed (fields m p ps) l d qs G r z h w =
        let g : FieldTypes Of NoMemo G (fields m w.0 w.1) r = subst (λ x. FieldTypes Of NoMemo G x r) w.2 h in
        (g.0, g.1, g.2, memos_typed p l d w.0 G g.0 z g.3 w.3, fields_typed ps l d w.1 G g.1 z g.4 w.4)

    branches_typed : (bs : Branches) (l : Place) (d : ℕ) (cs : Branches) (G : List Ground) (r : Row) (s : Ground) → length G ≡ d
        → BranchTypes Of NoMemo G cs r s → BranchesKept l d cs bs → BranchTypes Of AnyMemo G bs r s
    branches_typed no_branches l d cs G r s z h w = tt
    branches_typed (rest b) l d cs G r s z h w =
        let g : PlanTypes Of NoMemo G w.0 s = subst (λ x. BranchTypes Of NoMemo G x r s) w.1 h in memos_typed b l d w.0 G s z g w.2
    branches_typed (branch m b bs) l d cs G r s z h w =
        let g : BranchTypes Of NoMemo G (branch m w.0 w.1) r s = subst (λ x. BranchTypes Of NoMemo G x r s) w.2 h in
        (g.0, g.1, memos_typed b l (d + 1) w.0 (g.0 ∷ G) s (omega arith) g.2 w.3, branches_typed bs l d w.1 G r s z g.3 w.4)

    key_typed : (q : Key) (how : JoinHow) (k : Kind) (d : ℕ) (e : Key) (G : List Ground) (v : Ground) → length G ≡ d
        → KeyTypes Of NoMemo G how k e v → KeyKept d e q → KeyTypes Of AnyMemo G how k q v
    key_typed no_key how k d e G v z h w = subst (λ x. KeyTypes Of NoMemo G how k x v) w h
    key_typed (key m p) way.Block k d e G v z h w = absurd (subst (λ x. KeyTypes Of NoMemo G way.Block k x v) w.1 h)
    key_typed (key m p) way.Index k d e G v z h w =
        let g : KeyTypes Of NoMemo G way.Index k (key m w.0) v = subst (λ x. KeyTypes Of NoMemo G way.Index k x v) w.1 h in
        (g.0, g.1, g.2, g.3, memos_typed p place.Aside d w.0 G g.1 z g.4 w.2)
