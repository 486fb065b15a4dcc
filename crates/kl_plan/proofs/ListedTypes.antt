-- What the types of a plan say of its scans and its memos is said of those alone that stand in it.
use Rattle.std.proofs.Common.{ℕ, List, ◌∷◌}
use Rattle.std.specs.List.{Contains}
use Rattle.kl_value.specs.declared.Kind.{Kind}
use Rattle.kl_type.specs.Ground.{Ground, Row, bool, rec as rec_type, var as var_type, coll}
use Rattle.kl_ask.specs.declared.settings.JoinHow.{JoinHow}
use Rattle.kl_ask.specs.declared.settings.JoinHow.TheVariants as way
use Rattle.kl_plan.specs.declared.plan.Scan.{Scan}
use Rattle.kl_plan.specs.Holding.{Listing, PartsIn, PartsInNodes, PartsInFields, PartsInBranches, PartsInKey}
use Rattle.kl_plan.specs.Nodes as node
use Rattle.kl_plan.specs.Nodes.{Node, Nodes, no_nodes, nodes, Fields, no_fields, fields, Branches, no_branches, rest, branch, Key, no_key, key}
use Rattle.kl_plan.specs.Parts.{parts_of}
use Rattle.kl_plan.specs.Typing.{AnyMemo, PlanTypes, EachPlan, PlansOf, FieldTypes, BranchTypes, KeyTypes}
use Rattle.kl_plan.proofs.Holding.{parts_in_all}

module _ (all : Listing) (Of On : Scan → Ground → Type 0) (L M : ℕ → List ℕ → Node → Type 0)
    (scans : (c : Scan) (u : Ground) → Contains all.scans c → Of c u → On c u)
    (memos : (n : ℕ) (frees : List ℕ) (q : Node) → Contains all.memos (n, (frees, q)) → L n frees q → M n frees q) where
  mutual
    pub types_of_parts : (p : Node) (G : List Ground) (s : Ground) → PartsIn all p → PlanTypes Of L G p s → PlanTypes On M G p s
    types_of_parts (node.Plain t) G s i h = h
    types_of_parts (node.Var x) G s i h = h
    types_of_parts (node.Rec ps) G s i h = (h.0, h.1, h.2, types_of_fields ps G h.0 i h.3)
    types_of_parts (node.Proj l a) G s i h = (h.0, types_of_parts a G (rec_type h.0) i h.1, h.2)
    types_of_parts (node.Inj l a) G s i h = (h.0, h.1, h.2, h.3, h.4, types_of_parts a G h.1 i h.5)
    types_of_parts (node.Case a bs) G s i h = (h.0, types_of_parts a G (var_type h.0) i.0 h.1, h.2, types_of_branches bs G h.0 s i.1 h.3)
    types_of_parts (node.Make k ps) G s i h = (h.0, h.1, h.2, types_of_each ps G h.0 i h.3)
    types_of_parts (node.Union a b) G s i h = (h.0, h.1, h.2, types_of_parts a G s i.0 h.3, types_of_parts b G s i.1 h.4)
    types_of_parts (node.Ext k b a) G s i h = (
      h.0,
      h.1,
      h.2,
      h.3,
      types_of_parts a G (coll h.1 h.2) i.1 h.4,
      types_of_parts b (h.2 ∷ G) s i.0 h.5,
    )
    types_of_parts (node.If a b c) G s i h = (types_of_parts a G bool i.0 h.0, types_of_parts b G s i.1 h.1, types_of_parts c G s i.2 h.2)
    types_of_parts (node.Let a b) G s i h = (h.0, types_of_parts a G h.0 i.0 h.1, types_of_parts b (h.0 ∷ G) s i.1 h.2)
    types_of_parts (node.Prim c ps) G s i h = (h.0, types_of_all ps G h.0 i h.1, h.2)
    types_of_parts (node.Scan c) G s i h = (h.0, h.1, h.2, scans c h.0 i h.3)
    types_of_parts (node.Join n k how o cs c q b) G s i h = (
      h.0,
      h.1,
      h.2,
      h.3,
      h.4,
      types_of_parts o G (coll h.1 h.2) i.1 h.5,
      types_of_each cs (h.2 ∷ G) bool i.2 h.6,
      h.7,
      scans c h.3 i.4 h.8,
      types_of_key how k q (h.2 ∷ G) h.3 i.3 h.9,
      types_of_parts b (h.3 ∷ h.2 ∷ G) s i.5 h.10,
    )
    types_of_parts (node.Memo n frees p) G s i h = (
      h.0,
      h.1,
      h.2,
      types_of_parts p G s i.1 h.3,
      h.4,
      h.5,
      memos n frees p i.0 h.6,
    )

    types_of_key : (how : JoinHow) (k : Kind) (q : Key) (G : List Ground) (v : Ground) → PartsInKey all q → KeyTypes Of L G how k q v
        → KeyTypes On M G how k q v
    types_of_key way.Block k no_key G v i h = h
    types_of_key way.Block k (key l p) G v i h = absurd h
    types_of_key way.Index k no_key G v i h = absurd h
    types_of_key way.Index k (key l p) G v i h = (h.0, h.1, h.2, h.3, types_of_parts p G h.1 i h.4)

    types_of_each : (ps : Nodes) (G : List Ground) (u : Ground) → PartsInNodes all ps → EachPlan Of L G ps u → EachPlan On M G ps u
    types_of_each no_nodes G u i h = tt
    types_of_each (nodes p ps) G u i h = (types_of_parts p G u i.0 h.0, types_of_each ps G u i.1 h.1)

    types_of_all : (ps : Nodes) (G us : List Ground) → PartsInNodes all ps → PlansOf Of L G ps us → PlansOf On M G ps us
    types_of_all no_nodes G us i h = h
    types_of_all (nodes p ps) G us i h = (h.0, h.1, h.2, types_of_parts p G h.0 i.0 h.3, types_of_all ps G h.1 i.1 h.4)

    types_of_fields : (ps : Fields) (G : List Ground) (r : Row) → PartsInFields all ps → FieldTypes Of L G ps r → FieldTypes On M G ps r
    types_of_fields no_fields G r i h = h
    types_of_fields (fields l p ps) G r i h = (h.0, h.1, h.2, types_of_parts p G h.0 i.0 h.3, types_of_fields ps G h.1 i.1 h.4)

    types_of_branches : (bs : Branches) (G : List Ground) (r : Row) (s : Ground) → PartsInBranches all bs → BranchTypes Of L G bs r s
        → BranchTypes On M G bs r s
    types_of_branches no_branches G r s i h = tt
    types_of_branches (rest c) G r s i h = types_of_parts c G s i h
    types_of_branches (branch l b bs) G r s i h = (h.0, h.1, types_of_parts b (h.0 ∷ G) s i.0 h.2, types_of_branches bs G r s i.1 h.3)

pub types_of_any : (Of : Scan → Ground → Type 0) (L : ℕ → List ℕ → Node → Type 0) (p : Node) (G : List Ground) (s : Ground)
    → PlanTypes Of L G p s → PlanTypes Of AnyMemo G p s
types_of_any Of L p G s h = types_of_parts (parts_of p) Of Of L AnyMemo (λ c u j o. o) (λ n frees q j l. tt) p G s (parts_in_all p) h
