-- Plans whose types list no memo have none.
use Rattle.std.proofs.Common.{◌≡◌, ℕ, List, [], ◌∷◌, ◌++◌, refl, arith}
use Rattle.std.specs.List.{Contains}
use Rattle.kl_value.specs.declared.Kind.{Kind}
use Rattle.kl_type.specs.Ground.{Ground, Row, bool, rec as rec_type, var as var_type, coll}
use Rattle.kl_ask.specs.declared.settings.JoinHow.{JoinHow}
use Rattle.kl_ask.specs.declared.settings.JoinHow.TheVariants as way
use Rattle.kl_plan.specs.declared.plan.Scan.{Scan}
use Rattle.kl_plan.specs.Nodes as node
use Rattle.kl_plan.specs.Nodes.{Node, Nodes, no_nodes, nodes, Fields, no_fields, fields, Branches, no_branches, rest, branch, Key}
use Rattle.kl_plan.specs.Nodes.{no_key, key}
use Rattle.kl_plan.specs.Numbers.{scans_in, memos_in, memos_of_nodes, memos_of_fields, memos_of_branches, memos_of_key}
use Rattle.kl_plan.specs.Parts.{joins_of}
use Rattle.kl_plan.specs.Typing.{PlanTypes, EachPlan, PlansOf, FieldTypes, BranchTypes, KeyTypes}
use Rattle.kl_plan.proofs.Holding.{parts_without_memos}
use Rattle.kl_plan.proofs.ListedTypes.{types_of_parts}
use Rattle.kl_plan.proofs.Empty.{none_both}

abbrev pub NoMemo : ℕ → List ℕ → Node → Type 0
NoMemo n frees p = ⊥

module _ (Of : Scan → Ground → Type 0) where
  mutual
    pub typed_bare : (p : Node) (G : List Ground) (s : Ground) → PlanTypes Of NoMemo G p s → memos_in p ≡ []
    typed_bare (node.Plain t) G s h = refl
    typed_bare (node.Var x) G s h = refl
    typed_bare (node.Rec ps) G s h = fields_bare ps G h.0 h.3
    typed_bare (node.Proj l a) G s h = typed_bare a G (rec_type h.0) h.1
    typed_bare (node.Inj l a) G s h = typed_bare a G h.1 h.5
    typed_bare (node.Case a bs) G s h =
        none_both (memos_in a) (memos_of_branches bs) (typed_bare a G (var_type h.0) h.1) (branches_bare bs G h.0 s h.3)
    typed_bare (node.Make k ps) G s h = each_bare ps G h.0 h.3
    typed_bare (node.Union a b) G s h = none_both (memos_in a) (memos_in b) (typed_bare a G s h.3) (typed_bare b G s h.4)
    typed_bare (node.Ext k b a) G s h =
        none_both (memos_in a) (memos_in b) (typed_bare a G (coll h.1 h.2) h.4) (typed_bare b (h.2 ∷ G) s h.5)
    typed_bare (node.If a b c) G s h =
        none_both (memos_in a) (memos_in b ++ memos_in c) (typed_bare a G bool h.0)
        (none_both (memos_in b) (memos_in c) (typed_bare b G s h.1) (typed_bare c G s h.2))
    typed_bare (node.Let a b) G s h = none_both (memos_in a) (memos_in b) (typed_bare a G h.0 h.1) (typed_bare b (h.0 ∷ G) s h.2)
    typed_bare (node.Prim c ps) G s h = all_bare ps G h.0 h.1
    typed_bare (node.Scan c) G s h = refl
    typed_bare (node.Join n k how o cs i q b) G s h =
        none_both (memos_in o) (memos_of_nodes cs ++ (memos_of_key q ++ memos_in b)) (typed_bare o G (coll h.1 h.2) h.5)
        (none_both (memos_of_nodes cs) (memos_of_key q ++ memos_in b) (each_bare cs (h.2 ∷ G) bool h.6)
        (none_both (memos_of_key q) (memos_in b) (key_bare how k q (h.2 ∷ G) h.3 h.9) (typed_bare b (h.3 ∷ h.2 ∷ G) s h.10)))
    typed_bare (node.Memo n frees p) G s h = absurd h.6

    key_bare : (how : JoinHow) (k : Kind) (q : Key) (G : List Ground) (v : Ground) → KeyTypes Of NoMemo G how k q v → memos_of_key q ≡ []
    key_bare way.Block k no_key G v h = refl
    key_bare way.Block k (key l p) G v h = absurd h
    key_bare way.Index k no_key G v h = absurd h
    key_bare way.Index k (key l p) G v h = typed_bare p G h.1 h.4

    each_bare : (ps : Nodes) (G : List Ground) (u : Ground) → EachPlan Of NoMemo G ps u → memos_of_nodes ps ≡ []
    each_bare no_nodes G u h = refl
    each_bare (nodes p ps) G u h = none_both (memos_in p) (memos_of_nodes ps) (typed_bare p G u h.0) (each_bare ps G u h.1)

    all_bare : (ps : Nodes) (G us : List Ground) → PlansOf Of NoMemo G ps us → memos_of_nodes ps ≡ []
    all_bare no_nodes G us h = refl
    all_bare (nodes p ps) G us h = none_both (memos_in p) (memos_of_nodes ps) (typed_bare p G h.0 h.3) (all_bare ps G h.1 h.4)

    fields_bare : (ps : Fields) (G : List Ground) (r : Row) → FieldTypes Of NoMemo G ps r → memos_of_fields ps ≡ []
    fields_bare no_fields G r h = refl
    fields_bare (fields l p ps) G r h = none_both (memos_in p) (memos_of_fields ps) (typed_bare p G h.0 h.3) (fields_bare ps G h.1 h.4)

    branches_bare : (bs : Branches) (G : List Ground) (r : Row) (s : Ground) → BranchTypes Of NoMemo G bs r s → memos_of_branches bs ≡ []
    branches_bare no_branches G r s h = refl
    branches_bare (rest c) G r s h = typed_bare c G s h
    branches_bare (branch l b bs) G r s h =
        none_both (memos_in b) (memos_of_branches bs) (typed_bare b (h.0 ∷ G) s h.2) (branches_bare bs G r s h.3)

  not_in_none : {A : Type 0} (x : A) → Contains [] x → ⊥
  not_in_none x h = absurd (let below = h.1 in omega (arith, below))

  -- a plan that has no memo needs none listed
  pub bare_typed : (L : ℕ → List ℕ → Node → Type 0) (p : Node) (G : List Ground) (s : Ground) → memos_in p ≡ [] → PlanTypes Of L G p s
      → PlanTypes Of NoMemo G p s
  bare_typed L p G s e h =
      types_of_parts (record { scans = scans_in p; joins = joins_of p; memos = [] }) Of Of L NoMemo (λ c u j o. o)
      (λ n frees q j l. not_in_none (n, (frees, q)) j) p G s (parts_without_memos p e) h
