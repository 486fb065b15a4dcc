-- Rows of which none is repeated, which are counted as they come.
use Rattle.std.proofs.Common.{◌≡◌, ⊎_elim, inr, ℕ, pos, List, [], ◌∷◌, length, Result, Ok, Err, refl, sym, ap, subst, ◌∙◌, arith}
use Rattle.std.specs.List.{sum_by, IsDistinct}
use Rattle.std.proofs.lemmas.List.Sums.{sum_by-cons}
use Rattle.kl_value.specs.declared.Kind.{Kind}
use Rattle.kl_value.specs.declared.Kind.TheVariants as kind
use Rattle.kl_value.specs.declared.Value.{Value}
use Rattle.kl_value.specs.declared.Value.TheVariants as value
use Rattle.kl_value.proofs.IsCanonicalLemmas.{int_made}
use Rattle.kl_type.specs.Ground.{Ground, int, coll}
use Rattle.kl_prim.specs.Meaning.{amount}
use Rattle.kl_prim.specs.Table.{meaning, row_at, rows}
use Rattle.kl_outcome.specs.Outcome.{done, fine, overflow, flow, items_in, kept, after, answered}
use Rattle.kl_outcome.specs.Typed.{OfType, PrimTypes}
use Rattle.kl_outcome.proofs.Drawing.{members, items_canonical}
use Rattle.kl_outcome.proofs.Flows.{collected_flow, flow_items}
use Rattle.kl_outcome.proofs.PrimLemmas.{has_int}
use Rattle.kl_ask.specs.Driver.{same_value}
use Rattle.kl_scans.specs.Running.{Running}
use Rattle.kl_scans.specs.Right.{IsReadyRun}
use Rattle.kl_eval.specs.declared.stop.EvalStop.{EvalStop}
use Rattle.kl_eval.specs.declared.stop.EvalStop.TheVariants as why
use Rattle.kl_plan.specs.Alike.{IsAlike, harm}
use Rattle.kl_plan.specs.Kinds.{kind_of_items}
use Rattle.kl_plan.specs.Meaning.{worth, coming, plan, scanned}
use Rattle.kl_plan.specs.Nodes as node
use Rattle.kl_plan.specs.Nodes.{Node, no_nodes, nodes, view}
use Rattle.kl_plan.specs.declared.plan.Plan.{Plan}
use Rattle.kl_plan.specs.declared.plan.Plan.TheVariants as plans
use Rattle.kl_plan.specs.declared.plan.Scan.{Scan}
use Rattle.kl_plan.proofs.Collections.{alike_distinct}
use Rattle.kl_plan.proofs.Views.{view_Scan}
use Rattle.kl_scans.specs.Scans.{CanScan}
use Rattle.kl_scans.specs.Stage.{stage, RepeatsNone}
use Rattle.kl_cursor.specs.Gathering.{counted, IsTally, CountsRows}
use Rattle.kl_cursor.specs.Left.{fresh, reading}
use Rattle.kl_cursor.specs.Likeness.{Same}
use Rattle.kl_cursor.specs.Sense.{TypesAt, HasWorth, HasCall, Stands}
use Rattle.kl_cursor.specs.Steps.{Empties, Tallies, CallComes, CallGives}
use Rattle.kl_cursor.proofs.Gatherings.{length_members, counts_members, counted_all}
use Rattle.kl_cursor.proofs.Likes.{same_harm, same_weight}
use Rattle.kl_cursor.proofs.Starting.{harm_flow, scan_typed}
use Rattle.kl_cursor.proofs.Tallied.{items_come, worth_stands}
use Rattle.kl_cursor.proofs.ValueParts.{call_only_stop, sense_only}

pub scan_viewed : (p : Plan) (q : Scan) → p ≡ plans.Scan q → view p ≡ node.Scan q
scan_viewed p q is = ap view is ∙ view_Scan q

pub can_count : (p : Plan) (q : Scan) (w : Running) → p ≡ plans.Scan q → (env : List Value) × HasWorth w (view p) env → CanScan w q × IsReadyRun w
can_count p q w is h =
    let k : HasWorth w (node.Scan q) h.0 = subst (λ z. HasWorth w z h.0) (scan_viewed p q is) h.1 in
    let t = scan_typed w k.0 q k.1 k.3 in
    ((t.u, t.of), k.4)

same_scan : (q c : Scan) → plans.Scan q ≡ plans.Scan c → q ≡ c
same_scan q c e = cc

pub is_counted : (p : Plan) (q : Scan) (c : ℕ) (w : Running) → p ≡ plans.Scan q → CountsRows w c p → RepeatsNone (stage w) q
is_counted p q c w is h = subst (RepeatsNone (stage w)) (same_scan h.1 q (sym h.2 ∙ is)) h.3

-- ---- how many they are

one : Value → ℕ
one v = 1

ones : (vs : List Value) → sum_by one vs ≡ length vs
unfolding one
ones [] = refl
ones (v ∷ vs) = sum_by-cons one v vs ∙ (let h = ones vs in omega (arith, h))

flow_length : (vs : List Value) → sum_by one (items_in (flow vs fine)) ≡ length vs
flow_length vs = ap (sum_by one) (flow_items vs fine) ∙ ones vs

-- the collection of rows of which none is repeated has each of them
length_distinct : (k : Kind) (vs : List Value) → IsDistinct same_value vs → length (members k vs) ≡ length vs
length_distinct kind.Set vs apart =
    let alike : IsAlike (λ n. n) (flow (members kind.Set vs) fine) (flow vs fine) = subst (λ g. IsAlike (λ n. n) g (flow vs fine)) (items_canonical kind.Set vs) (alike_distinct vs apart) in
    sym (flow_length (members kind.Set vs)) ∙ sym (alike.same (harm_flow (members kind.Set vs)) one) ∙ flow_length vs
length_distinct kind.Bag vs apart = length_members kind.Bag vs refl
length_distinct kind.List vs apart = refl

-- so many came as were read
as_many : (k : Kind) (read came : List Value) → Same k (flow read fine) (flow came fine) → length read ≡ length came
as_many k read came same = sym (flow_length read) ∙ sym (same_weight k (flow read fine) (flow came fine) same (harm_flow read) one) ∙ flow_length came

count_type : (ss : List Ground) (s : Ground) → PrimTypes 14 ss s → s ≡ int
unfolding PrimTypes row_at rows
count_type ss s h = h.3

module _ (env : List Value) (q : Scan) (a b : Running) (apart : RepeatsNone (stage a) q) where
  abbrev p : Node
  p = node.Scan q

  counted_comes : (vs : List Value) → Empties env (fresh p) vs fine a b → CallComes env 14 (nodes p no_nodes) (done (value.Int (pos (length vs)))) a b
  counted_comes vs h =
      record {
        moves = h.moves;
        known = λ all i. h.known all i.0;
        comes = λ G s t y told.
            let x = scan_typed a G q y.1.0 y.1.3 in
            let read = told q x.u x.of in
            let same : Same q.kind (flow read.0 fine) (flow vs fine) =
            subst (λ z. Same q.kind z (flow vs fine)) (ap (λ z. coming (scanned q.kind z)) read.1) (h.gave G q.kind x.u t (subst (TypesAt a G p) x.is y.1.3) told) in
            ap (λ z. after z (λ u. answered (meaning 14 (u ∷ [])))) (ap (λ z. worth (scanned q.kind z)) read.1 ∙ collected_flow q.kind read.0 fine)
            ∙ ap answered (counts_members q.kind read.0 ∙ ap amount (length_distinct q.kind read.0 (read.3 apart) ∙ as_many q.kind read.0 vs same));
        counts = λ G s t y told well P.
            let x = scan_typed a G q y.1.0 y.1.3 in
            let fits : TypesAt a G p (coll q.kind x.u) = subst (TypesAt a G p) x.is y.1.3 in
            let all = coming (plan (reading a) p env) in
            let ends : harm all ≡ 0 = sym (same_harm q.kind all (flow vs fine) (h.gave G q.kind x.u t fits told)) ∙ harm_flow vs in
            let k = h.counts G q.kind x.u t fits told ends P in
            omega (arith, k);
        typed = λ G s t y. subst (λ z. OfType z (done (value.Int (pos (length vs))))) (sym (count_type y.0 s y.2)) (has_int (pos (length vs)), int_made (pos (length vs)));
      }

  call_rows : (r : Result Value EvalStop) → Tallies env (fresh p) (counted 0) r a b → CallGives env 14 (nodes p no_nodes) r a b
  call_rows (Ok v) h = subst (λ o. CallComes env 14 (nodes p no_nodes) o a b) (ap answered (counted_all h.0 ∙ h.1)) (counted_comes h.0 h.2)
  call_rows (Err why.Overflow) h = ⊎_elim
      (λ i. call_only_stop 14 p env a why.Overflow b (kept q.kind h.0, items_come env p q.kind a refl b h.0 overflow (inr refl) i))
      (λ i. let never = counted_all h.0 ∙ i.0 in absurd cc) h.1
  call_rows (Err (why.Driver l e)) h = call_only_stop 14 p env a (why.Driver l e) b h
  call_rows (Err why.NoMemory) h = call_only_stop 14 p env a why.NoMemory b h

module _ (c : ℕ) (p : Plan) (env : List Value) (a : Running) (counts : CountsRows a c p) where
  is_scan : view p ≡ node.Scan counts.1
  is_scan = scan_viewed p counts.1 counts.2

  pub counted_ready : HasCall a c (nodes (view p) no_nodes) env → IsTally (counted 0) × Stands a (fresh (view p)) env
  counted_ready s = (tt, worth_stands env (view p) (counts.1).kind a (ap kind_of_items is_scan) (sense_only c (view p) env a s))

  pub call_counted : (r : Result Value EvalStop) (b : Running) → Tallies env (fresh (view p)) (counted 0) r a b → CallGives env c (nodes (view p) no_nodes) r a b
  call_counted r b h =
      subst (λ z. CallGives env z (nodes (view p) no_nodes) r a b) (sym counts.0)
      (subst (λ z. CallGives env 14 (nodes z no_nodes) r a b) (sym is_scan) (call_rows env counts.1 a b counts.3 r (subst (λ z. Tallies env (fresh z) (counted 0) r a b) is_scan h)))
