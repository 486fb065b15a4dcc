-- A plan means the same with one value more, below its positions.
use Rattle.std.proofs.Common.{◌≡◌, ℕ, ◌+◌, Bool, true, cond, nat_eq, List, [], ◌∷◌, ◌++◌, length, Option, Some, refl, ap, arith}
use Rattle.std.specs.Cmp.Lexicographic.{pointwise}
use mathlib.Core.Path.{fun_ext, ap₂}
use Rattle.kl_value.specs.Views.{field_at}
use Rattle.kl_value.specs.declared.Value.{Value}
use Rattle.kl_outcome.specs.Outcome.{Name, applied, recorded, tagged, part, item_then, Flow, drawn, as_variant}
use Rattle.kl_core.specs.Trees as term
use Rattle.kl_core.proofs.Meanings.{shift_keeps}
use Rattle.kl_plan.specs.Nodes as node
use Rattle.kl_plan.specs.Nodes.{Node, Nodes, no_nodes, nodes, Fields, no_fields, fields, Branches, no_branches, rest, branch, Key, no_key, key}
use Rattle.kl_plan.specs.Meaning.{one, many, worth, coming, drawn_for, come_after, come_opened, come_union, come_kept, Readings, scanned, on_test, tested, under_key, same_key, no_tables}
use Rattle.kl_plan.specs.Meaning.{plan, plan_all, plan_items, plan_fields, plan_branches, plan_conds, plan_key}
use Rattle.kl_plan.specs.Keys.{above, nodes_above, fields_above, branches_above, key_above}
use Rattle.kl_plan.proofs.Agree.{choice_comes}

module _ (R : Readings) (x : Value) where
  mutual
    pub above_keeps : (p : Node) (pre post : List Value) (n : ℕ) → n ≡ length pre → plan R (above p n) (pre ++ x ∷ post) ≡ plan R p (pre ++ post)
    above_keeps (node.Plain t) pre post n e = ap one (shift_keeps no_tables t pre (x ∷ []) post n 1 e refl)
    above_keeps (node.Var y) pre post n e = ap one (shift_keeps no_tables (term.Var y) pre (x ∷ []) post n 1 e refl)
    above_keeps (node.Rec ps) pre post n e = ap (λ fs. one (recorded fs)) (fields_keep ps pre post n e)
    above_keeps (node.Proj l a) pre post n e = ap (λ c. one (part l (worth c))) (above_keeps a pre post n e)
    above_keeps (node.Inj l a) pre post n e = ap (λ c. one (tagged l (worth c))) (above_keeps a pre post n e)
    above_keeps (node.Case a bs) pre post n e =
        ap₂ (λ c go. come_after (worth c) (λ v. come_opened (as_variant v) go)) (above_keeps a pre post n e) (fun_ext λ l. fun_ext λ w. branches_keep bs l w pre post n e)
    above_keeps (node.Make k ps) pre post n e = ap (many k) (items_keep ps pre post n e)
    above_keeps (node.Union a b) pre post n e = ap₂ come_union (above_keeps a pre post n e) (above_keeps b pre post n e)
    above_keeps (node.Ext k b s) pre post n e =
        ap₂ (λ c go. many k (drawn (drawn_for k c) go)) (above_keeps s pre post n e) (fun_ext λ v. ap coming (above_keeps b (v ∷ pre) post (n + 1) (omega arith)))
    above_keeps (node.If a b c) pre post n e = choice_comes _ _ _ _ _ _ (ap worth (above_keeps a pre post n e)) (above_keeps b pre post n e) (above_keeps c pre post n e)
    above_keeps (node.Let a b) pre post n e = ap₂ (λ c go. come_after (worth c) go) (above_keeps a pre post n e) (fun_ext λ v. above_keeps b (v ∷ pre) post (n + 1) (omega arith))
    above_keeps (node.Prim c ps) pre post n e = ap (λ os. one (applied c os)) (all_keep ps pre post n e)
    above_keeps (node.Scan c) pre post n e = refl
    above_keeps (node.Join m k how o cs i q b) pre post n e =
        ap₂ (λ c go. many k (drawn (drawn_for k c) go)) (above_keeps o pre post n e)
        (fun_ext λ u. conds_keep cs (u ∷ pre) post (n + 1) _ _ (omega arith) (key_keeps q (u ∷ pre) post (n + 1) _ _ (omega arith)
        (fun_ext λ test. ap (drawn (drawn_for k (scanned i.kind (R i)))) (fun_ext λ y. ap (λ c. on_test (test y) (coming c)) (above_keeps b (y ∷ u ∷ pre) post (n + 1 + 1) (omega arith))))))
    above_keeps (node.Memo m frees p) pre post n e = ap come_kept (above_keeps p pre post n e)

    all_keep : (ps : Nodes) (pre post : List Value) (n : ℕ) → n ≡ length pre → plan_all R (nodes_above ps n) (pre ++ x ∷ post) ≡ plan_all R ps (pre ++ post)
    all_keep no_nodes pre post n e = refl
    all_keep (nodes p ps) pre post n e = ap₂ (λ c os. worth c ∷ os) (above_keeps p pre post n e) (all_keep ps pre post n e)

    items_keep : (ps : Nodes) (pre post : List Value) (n : ℕ) → n ≡ length pre → plan_items R (nodes_above ps n) (pre ++ x ∷ post) ≡ plan_items R ps (pre ++ post)
    items_keep no_nodes pre post n e = refl
    items_keep (nodes p ps) pre post n e = ap₂ (λ c f. item_then (worth c) f) (above_keeps p pre post n e) (items_keep ps pre post n e)

    fields_keep : (ps : Fields) (pre post : List Value) (n : ℕ) → n ≡ length pre → plan_fields R (fields_above ps n) (pre ++ x ∷ post) ≡ plan_fields R ps (pre ++ post)
    fields_keep no_fields pre post n e = refl
    fields_keep (fields l p ps) pre post n e = ap₂ (λ c fs. (l, worth c) ∷ fs) (above_keeps p pre post n e) (fields_keep ps pre post n e)

    branches_keep : (bs : Branches) (l : Name) (v : Value) (pre post : List Value) (n : ℕ) → n ≡ length pre → plan_branches R (branches_above bs n) l v (pre ++ x ∷ post) ≡ plan_branches R bs l v (pre ++ post)
    branches_keep no_branches l v pre post n e = refl
    branches_keep (rest c) l v pre post n e = above_keeps c pre post n e
    branches_keep (branch m b bs) l v pre post n e = ap₂ (λ c d. cond (pointwise nat_eq l m) c d) (above_keeps b (v ∷ pre) post (n + 1) (omega arith)) (branches_keep bs l v pre post n e)

    conds_keep : (cs : Nodes) (pre post : List Value) (n : ℕ) (f g : Flow) → n ≡ length pre → f ≡ g → plan_conds R (nodes_above cs n) (pre ++ x ∷ post) f ≡ plan_conds R cs (pre ++ post) g
    conds_keep no_nodes pre post n f g e h = h
    conds_keep (nodes c cs) pre post n f g e h = ap₂ (λ o d. tested (worth o) d) (above_keeps c pre post n e) (conds_keep cs pre post n f g e h)

    key_keeps : (q : Key) (pre post : List Value) (n : ℕ) (go on : (Value → Option Bool) → Flow) → n ≡ length pre → go ≡ on → plan_key R (key_above q n) (pre ++ x ∷ post) go ≡ plan_key R q (pre ++ post) on
    key_keeps no_key pre post n go on e h = ap (λ f. f (λ y. Some true)) h
    key_keeps (key l p) pre post n go on e h = ap₂ (λ c f. under_key (worth c) (λ v. f (λ y. same_key v (field_at l y)))) (above_keeps p pre post n e) h
