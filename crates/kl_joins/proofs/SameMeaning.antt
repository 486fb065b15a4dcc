-- Plans that differ in their numbers alone mean the same.
use Rattle.std.proofs.Common.{◌≡◌, Bool, true, cond, nat_eq, List, ◌∷◌, Option, Some, sym, ap, ◌∙◌}
use Rattle.std.specs.Cmp.Lexicographic.{pointwise}
use mathlib.Core.Path.{fun_ext, ap₂}
use Rattle.kl_value.specs.Views.{field_at}
use Rattle.kl_value.specs.declared.Value.{Value}
use Rattle.kl_outcome.specs.Outcome.{Name, applied, recorded, tagged, part, item_then, Flow, drawn, as_variant}
use Rattle.kl_plan.specs.declared.plan.Scan.{Scan}
use Rattle.kl_plan.specs.Nodes as node
use Rattle.kl_plan.specs.Nodes.{Node, Nodes, no_nodes, nodes, Fields, no_fields, fields, Branches, no_branches, rest, branch, Key}
use Rattle.kl_plan.specs.Nodes.{no_key, key}
use Rattle.kl_plan.specs.Meaning.{one, many, worth, coming, drawn_for, come_after, come_opened, come_union, come_kept}
use Rattle.kl_plan.specs.Meaning.{Readings, scanned, on_test, tested, under_key, same_key}
use Rattle.kl_plan.specs.Meaning.{plan, plan_all, plan_items, plan_fields, plan_branches, plan_conds, plan_key}
use Rattle.kl_plan.proofs.Agree.{choice_comes}
use Rattle.kl_joins.specs.Numbered.{SameScan, SamePlan, SameNodes, SameFields, SameBranches, SameKey}

module _ (R : Readings) (reads : (c d : Scan) → SameScan c d → R c ≡ R d) where
  scan_means : (c d : Scan) → SameScan c d → scanned d.kind (R d) ≡ scanned c.kind (R c)
  scan_means c d s = ap₂ scanned (sym s.kind) (sym (reads c d s))

  mutual
    pub same_means : (p r : Node) → SamePlan p r → (env : List Value) → plan R r env ≡ plan R p env
    same_means p (node.Plain t) h env = ap (λ x. plan R x env) (sym h)
    same_means p (node.Var x) h env = ap (λ x. plan R x env) (sym h)
    same_means p (node.Rec ps) h env = ap (λ fs. one (recorded fs)) (fields_mean h.0 ps h.2 env) ∙ ap (λ x. plan R x env) (sym h.1)
    same_means p (node.Proj l a) h env = ap (λ c. one (part l (worth c))) (same_means h.0 a h.2 env) ∙ ap (λ x. plan R x env) (sym h.1)
    same_means p (node.Inj l a) h env = ap (λ c. one (tagged l (worth c))) (same_means h.0 a h.2 env) ∙ ap (λ x. plan R x env) (sym h.1)
    same_means p (node.Case a bs) h env =
        ap₂ (λ c go. come_after (worth c) (λ v. come_opened (as_variant v) go)) (same_means h.0 a h.3 env)
        (fun_ext λ l. fun_ext λ w. branches_mean h.1 bs h.4 l w env)
        ∙ ap (λ x. plan R x env) (sym h.2)
    same_means p (node.Make k ps) h env = ap (many k) (items_mean h.0 ps h.2 env) ∙ ap (λ x. plan R x env) (sym h.1)
    same_means p (node.Union a b) h env =
        ap₂ come_union (same_means h.0 a h.3 env) (same_means h.1 b h.4 env) ∙ ap (λ x. plan R x env) (sym h.2)
    same_means p (node.Ext k b s) h env =
        ap₂ (λ c go. many k (drawn (drawn_for k c) go)) (same_means h.1 s h.4 env)
        (fun_ext λ v. ap coming (same_means h.0 b h.3 (v ∷ env)))
        ∙ ap (λ x. plan R x env) (sym h.2)
    same_means p (node.If a b c) h env =
        choice_comes _ _ _ _ _ _ (ap worth (same_means h.0 a h.4 env)) (same_means h.1 b h.5 env) (same_means h.2 c h.6 env)
        ∙ ap (λ x. plan R x env) (sym h.3)
    same_means p (node.Let a b) h env =
        ap₂ (λ c go. come_after (worth c) go) (same_means h.0 a h.3 env) (fun_ext λ v. same_means h.1 b h.4 (v ∷ env))
        ∙ ap (λ x. plan R x env) (sym h.2)
    same_means p (node.Prim c ps) h env = ap (λ os. one (applied c os)) (all_mean h.0 ps h.2 env) ∙ ap (λ x. plan R x env) (sym h.1)
    same_means p (node.Scan c) h env = scan_means h.0 c h.2 ∙ ap (λ x. plan R x env) (sym h.1)
    same_means p (node.Join n k how o cs i q b) h env =
        ap₂ (λ c go. many k (drawn (drawn_for k c) go)) (same_means h.1 o h.7 env)
        (fun_ext λ x.
        conds_mean h.2 cs h.8 (x ∷ env) _ _ (key_means h.4 q h.10 (x ∷ env) _ _
        (fun_ext λ test. ap₂ (λ c go. drawn (drawn_for k c) go) (scan_means h.3 i h.9)
        (fun_ext λ y. ap (λ c. on_test (test y) (coming c)) (same_means h.5 b h.11 (y ∷ x ∷ env))))))
        ∙ ap (λ x. plan R x env) (sym h.6)
    same_means p (node.Memo n frees a) h env = ap come_kept (same_means h.1 a h.3 env) ∙ ap (λ x. plan R x env) (sym h.2)

    pub all_mean : (qs ps : Nodes) → SameNodes qs ps → (env : List Value) → plan_all R ps env ≡ plan_all R qs env
    all_mean qs no_nodes h env = ap (λ xs. plan_all R xs env) (sym h)
    all_mean qs (nodes p ps) h env =
        ap₂ (λ c os. worth c ∷ os) (same_means h.0 p h.3 env) (all_mean h.1 ps h.4 env) ∙ ap (λ xs. plan_all R xs env) (sym h.2)

    pub items_mean : (qs ps : Nodes) → SameNodes qs ps → (env : List Value) → plan_items R ps env ≡ plan_items R qs env
    items_mean qs no_nodes h env = ap (λ xs. plan_items R xs env) (sym h)
    items_mean qs (nodes p ps) h env =
        ap₂ (λ c f. item_then (worth c) f) (same_means h.0 p h.3 env) (items_mean h.1 ps h.4 env)
        ∙ ap (λ xs. plan_items R xs env) (sym h.2)

    pub fields_mean : (qs ps : Fields) → SameFields qs ps → (env : List Value) → plan_fields R ps env ≡ plan_fields R qs env
    fields_mean qs no_fields h env = ap (λ xs. plan_fields R xs env) (sym h)
    fields_mean qs (fields l p ps) h env =
        ap₂ (λ c fs. (l, worth c) ∷ fs) (same_means h.0 p h.3 env) (fields_mean h.1 ps h.4 env)
        ∙ ap (λ xs. plan_fields R xs env) (sym h.2)

    pub branches_mean : (cs bs : Branches) → SameBranches cs bs → (l : Name) (v : Value) (env : List Value)
        → plan_branches R bs l v env ≡ plan_branches R cs l v env
    branches_mean cs no_branches h l v env = ap (λ xs. plan_branches R xs l v env) (sym h)
    branches_mean cs (rest b) h l v env = same_means h.0 b h.2 env ∙ ap (λ xs. plan_branches R xs l v env) (sym h.1)
    branches_mean cs (branch m b bs) h l v env =
        ap₂ (λ c d. cond (pointwise nat_eq l m) c d) (same_means h.0 b h.3 (v ∷ env)) (branches_mean h.1 bs h.4 l v env)
        ∙ ap (λ xs. plan_branches R xs l v env) (sym h.2)

    pub conds_mean : (ds cs : Nodes) → SameNodes ds cs → (env : List Value) (f g : Flow) → f ≡ g
        → plan_conds R cs env f ≡ plan_conds R ds env g
    conds_mean ds no_nodes h env f g e = e ∙ ap (λ xs. plan_conds R xs env g) (sym h)
    conds_mean ds (nodes c cs) h env f g e =
        ap₂ (λ o d. tested (worth o) d) (same_means h.0 c h.3 env) (conds_mean h.1 cs h.4 env f g e)
        ∙ ap (λ xs. plan_conds R xs env g) (sym h.2)

    pub key_means : (e q : Key) → SameKey e q → (env : List Value) (go on : (Value → Option Bool) → Flow) → go ≡ on
        → plan_key R q env go ≡ plan_key R e env on
    key_means e no_key h env go on i = ap (λ f. f (λ y. Some true)) i ∙ ap (λ x. plan_key R x env on) (sym h)
    key_means e (key l p) h env go on i =
        ap₂ (λ c f. under_key (worth c) (λ v. f (λ y. same_key v (field_at l y)))) (same_means h.0 p h.2 env) i
        ∙ ap (λ x. plan_key R x env on) (sym h.1)
