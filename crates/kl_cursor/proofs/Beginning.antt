-- What a plan becomes as it begins, where nothing is evaluated first.
use Rattle.std.proofs.Common.{◌≡◌, ℕ, ◌+◌, ◌<◌, Bool, true, List, [], ◌∷◌, Result, Ok, Err, sym, ap, ◌∙◌, subst, arith, Bor}
use mathlib.Core.Path.{ap₂}
use Rattle.std.proofs.Math.Nat.{mul-le-mul_right}
use Rattle.circular_buffer.specs.Buffer.{Buffer, buffer}
use Rattle.kl_value.specs.declared.Kind.{Kind}
use Rattle.kl_value.specs.declared.Value.{Value}
use Rattle.kl_type.specs.Ground.{Ground, coll}
use Rattle.kl_outcome.specs.Outcome.{followed, drawn}
use Rattle.kl_core.specs.Counts.{fits_in}
use Rattle.kl_scans.specs.Running.{Running}
use Rattle.kl_eval.specs.declared.stop.EvalStop.{EvalStop}
use Rattle.kl_plan.specs.Alike.{weight}
use Rattle.kl_plan.specs.Meaning.{coming, drawn_for, plan}
use Rattle.kl_plan.specs.Nodes as node
use Rattle.kl_plan.specs.Nodes.{Node, Nodes, view, nodes_view}
use Rattle.kl_plan.specs.Typing.{PlanTypes, EachPlan}
use Rattle.kl_plan.specs.declared.plan.Plan.{Plan}
use Rattle.kl_plan.specs.declared.plan.Plan.TheVariants as plans
use Rattle.kl_plan.specs.declared.plan.Scan.{Scan}
use Rattle.kl_plan.proofs.Comings.{same_kind, same_type, union_coming}
use Rattle.kl_plan.proofs.Views.{view_Make, view_Union, view_Ext, view_Scan}
use Rattle.kl_scans.specs.Held.{nothing}
use Rattle.kl_scans.specs.Scans.{Starts}
use Rattle.kl_scans.specs.Stage.{stage, ScanOf, MemoOf}
use Rattle.kl_scans.proofs.Moving.{moves_none}
use Rattle.kl_cursor.specs.declared.state.State.{State}
use Rattle.kl_cursor.specs.declared.state.State.TheVariants as state
use Rattle.kl_cursor.specs.Drawing.{draws}
use Rattle.kl_cursor.specs.Left.{Snap, fresh, both, outside, pulling, made, snap, reading, cost}
use Rattle.kl_cursor.specs.Measure.{size, falling}
use Rattle.kl_cursor.specs.Sense.{HasItems}
use Rattle.kl_cursor.specs.Steps.{Onward, Stops}
use Rattle.kl_cursor.proofs.Drawn.{draws_fits, drawn_as_comes}
use Rattle.kl_cursor.proofs.Likes.{same_itself, same_at}
use Rattle.kl_cursor.proofs.Snaps.{snap_Union, snap_Outside, snap_Make, snap_Scan}
use Rattle.kl_cursor.proofs.Starting.{scan_begins, scan_refused}

-- ---- a literal

make_types : (w : Running) (G : List Ground) (j k : Kind) (u : Ground) (ps : Nodes) → PlanTypes (ScanOf (stage w)) (MemoOf (stage w)) G (node.Make k ps) (coll j u) → EachPlan (ScanOf (stage w)) (MemoOf (stage w)) G ps u
make_types w G j k u ps h = subst (EachPlan (ScanOf (stage w)) (MemoOf (stage w)) G ps) (sym (same_type j k u h.0 h.1)) h.3

pub make_begins : (env : List Value) (k : Kind) (ps : Nodes) (w : Running) → Onward env (fresh (node.Make k ps)) w (made ps) w
make_begins env k ps w = record {
  moves = moves_none nothing w;
  known = λ all h. (tt, h);
  same = λ G j u e f told. same_itself j _;
  counts = λ G j u e f told z P. omega arith;
  typed = λ G j u e f. make_types w G j k u ps f;
  lower = omega arith;
  fewer = omega arith;
}

-- ---- two parts

pub union_begins : (env : List Value) (a b : Node) (w : Running) → Onward env (fresh (node.Union a b)) w (both (fresh a) b) w
union_begins env a b w = record {
  moves = moves_none nothing w;
  known = λ all h. (tt, h);
  same = λ G j u h f told. same_at j (coming (plan (reading w) (node.Union a b) env)) (followed (coming (plan (reading w) a env)) (coming (plan (reading w) b env)))
      (union_coming (plan (reading w) a env) (plan (reading w) b env));
  counts = λ G j u h f told z P. omega arith;
  typed = λ G j u h f. (f.3, f.4);
  lower = omega arith;
  fewer = omega arith;
}

-- ---- a loop that draws its source as it comes

zero_more : (m n : ℕ) → m ≡ n → 0 + m ≡ n
zero_more m n e = omega arith

pub loop_begins : (env : List Value) (k : Kind) (p q : Node) (w : Running) → draws k q ≡ true → Onward env (fresh (node.Ext k p q)) w (outside p (fresh q)) w
loop_begins env k p q w fit = record {
  moves = moves_none nothing w;
  known = λ all h. (tt, h);
  same = λ G d u e f told. same_at d (drawn (drawn_for k (plan (reading w) q env)) (λ v. coming (plan (reading w) p (v ∷ env)))) (drawn (coming (plan (reading w) q env)) (λ v. coming (plan (reading w) p (v ∷ env))))
      (ap (λ g. drawn g (λ v. coming (plan (reading w) p (v ∷ env)))) (drawn_as_comes env k q w fit G f.1 f.2 e f.4 told));
  counts = λ G d u e f told z P.
      zero_more _ _ (ap (λ g. cost (stage w) P q env + weight (λ v. cost (stage w) P p (v ∷ env)) g) (sym (drawn_as_comes env k q w fit G f.1 f.2 e f.4 told)));
  typed = λ G d u e f. (f.1, f.2, subst (λ z. fits_in f.1 z ≡ true) (sym (same_kind d k u f.0 f.3)) (draws_fits (ScanOf (stage w)) (MemoOf (stage w)) q G f.1 f.2 k f.4 fit), f.4, f.5);
  lower = omega arith;
  fewer = mul-le-mul_right (size p) (omega arith);
}

-- ---- from what the code has

-- a plan is, as it begins, this cursor
abbrev pub Goes : List Value → Node → Snap → Running → Running → Type 0
Goes env p s w x = Onward env (fresh p) w s x × (falling s < falling (fresh p))

pub goes_at : (env : List Value) (p q : Node) (s t : Snap) (w x : Running) → p ≡ q → s ≡ t → Goes env q t w x → Goes env p s w x
goes_at env p q s t w x e f h = subst (λ z. Goes env z s w x) (sym e) (subst (λ z. Goes env q z w x) (sym f) h)

pub items_at : (env : List Value) (p q : Node) (w : Running) → p ≡ q → HasItems w p env → HasItems w q env
items_at env p q w e h = subst (λ z. HasItems w z env) e h

pub make_begun : (env : List Value) (p : Plan) (k : Kind) (ps : Bor (List Plan)) (w : Running) → p ≡ plans.Make k ps.now → Goes env (view p) (snap (state.Make ps 0)) w w
make_begun env p k ps w e =
    goes_at env (view p) (node.Make k (nodes_view ps.now)) (snap (state.Make ps 0)) (made (nodes_view ps.now)) w w (ap view e ∙ view_Make k ps.now) (snap_Make ps 0)
    (make_begins env k (nodes_view ps.now) w, omega arith)

pub union_begun : (env : List Value) (p a b i : Plan) (q : Bor Plan) (s : State) (w : Running) → p ≡ plans.Union a b → i ≡ a → q.now ≡ b → snap s ≡ fresh (view i) → Goes env (view p) (snap (state.Union s q)) w w
union_begun env p a b i q s w e f g h =
    let is : view p ≡ node.Union (view a) (view b) = ap view e ∙ view_Union a b in
    goes_at env (view p) (node.Union (view a) (view b)) (snap (state.Union s q)) (both (fresh (view a)) (view b)) w w is
    (snap_Union s q ∙ ap₂ both (h ∙ ap (λ z. fresh (view z)) f) (ap view g))
    (union_begins env (view a) (view b) w, omega arith)

pub loop_begun : (env : List Value) (p : Plan) (k : Kind) (b s i j : Plan) (q : Bor Plan) (t slot : State) (y : Bool) (w : Running) → p ≡ plans.Ext k b s → i ≡ s → j ≡ s → q.now ≡ b → y ≡ draws k (view i) → y ≡ true → snap t ≡ fresh (view j) → Goes env (view p) (snap (state.Outside q t slot)) w w
loop_begun env p k b s i j q t slot y w e f g h fit on is =
    goes_at env (view p) (node.Ext k (view b) (view s)) (snap (state.Outside q t slot)) (outside (view b) (fresh (view s))) w w (ap view e ∙ view_Ext k b s)
    (snap_Outside q t slot ∙ ap₂ outside (ap view h) (is ∙ ap (λ z. fresh (view z)) g))
    (loop_begins env k (view b) (view s) w (subst (λ z. draws k (view z) ≡ true) f (sym fit ∙ on)), omega arith)

pub scan_begun : (env : List Value) (p : Plan) (q : Bor Scan) (k n : ℕ) (ahead : Buffer Value) (r : Result ℕ EvalStop) (w x : Running) → p ≡ plans.Scan q.now → HasItems w (view p) env → n ≡ w.settings.fetch → ahead ≡ buffer [] n → Starts q.now r w x → r ≡ Ok k → Goes env (view p) (snap (state.Scan q k ahead)) w x
scan_begun env p q k n ahead r w x e h f g s is =
    goes_at env (view p) (node.Scan q.now) (snap (state.Scan q k ahead)) (pulling q.now k [] n) w x (ap view e ∙ view_Scan q.now)
    (snap_Scan q k ahead ∙ ap (λ z. pulling q.now k z.items z.capacity) g)
    (scan_begins env q.now k n w x (items_at env (view p) (node.Scan q.now) w (ap view e ∙ view_Scan q.now) h) f (subst (λ z. Starts q.now z w x) is s), omega arith)

pub scan_stopped : (env : List Value) (p : Plan) (q : Scan) (y : EvalStop) (r : Result ℕ EvalStop) (w x : Running) → p ≡ plans.Scan q → Starts q r w x → r ≡ Err y → Stops env (fresh (view p)) y w x
scan_stopped env p q y r w x e s is =
    subst (λ z. Stops env (fresh z) y w x) (sym (ap view e ∙ view_Scan q)) (scan_refused env q y w x (subst (λ z. Starts q z w x) is s))
