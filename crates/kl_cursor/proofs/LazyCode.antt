-- Laziness, from what the code has.
use Rattle.std.proofs.Common.{◌≡◌, ℕ, ◌+◌, Bool, true, false, List, [], ◌∷◌, Option, Some, None, Result, Ok, Err, slice_get, refl, sym, ap, ◌∙◌, subst, arith, Bor}
use Rattle.circular_buffer.specs.Buffer.{Buffer, buffer}
use Rattle.kl_value.specs.declared.Kind.{Kind}
use Rattle.kl_value.specs.declared.Kind.TheVariants as kind
use Rattle.kl_value.specs.declared.Value.{Value}
use Rattle.kl_core.specs.Counts.{fits_in}
use Rattle.kl_scans.specs.Running.{Running}
use Rattle.kl_eval.specs.declared.stop.EvalStop.{EvalStop}
use Rattle.kl_plan.specs.Kinds.{kind_of_items}
use Rattle.kl_plan.specs.Meaning.{Readings}
use Rattle.kl_plan.specs.Nodes as node
use Rattle.kl_plan.specs.Nodes.{Node, view}
use Rattle.kl_plan.specs.declared.plan.Plan.{Plan}
use Rattle.kl_plan.specs.declared.plan.Plan.TheVariants as plans
use Rattle.kl_plan.specs.declared.plan.Scan.{Scan}
use Rattle.kl_plan.proofs.Views.{view_Ext, view_Scan}
use Rattle.kl_scans.specs.Held.{Owned}
use Rattle.kl_scans.specs.Scans.{Starts, Pulls}
use Rattle.kl_scans.proofs.Moving.{owned_after}
use Rattle.kl_cursor.specs.declared.state.State.{State}
use Rattle.kl_cursor.specs.declared.state.State.TheVariants as state
use Rattle.kl_cursor.specs.Drawing.{draws}
use Rattle.kl_cursor.specs.Laziness.{IsScan, LoopOver, KeepsLazy, Lazily, BeginsLazily}
use Rattle.kl_cursor.specs.Left.{Snap, fresh, pulling, outside, inside, snap, uses}
use Rattle.kl_cursor.specs.Sense.{HasItems}
use Rattle.kl_cursor.specs.Steps.{Onward, Steps, Begins}
use Rattle.kl_cursor.proofs.Beginning.{items_at}
use Rattle.kl_cursor.proofs.Fetching.{fetching_at, take_fetches, pull_fetches, start_fetches}
use Rattle.kl_cursor.proofs.Forms.{inside_none}
use Rattle.kl_cursor.proofs.Handing.{handed_none}
use Rattle.kl_cursor.proofs.Lazily.{Spared, spared_then, spares_then, inside_spared, outside_spared, loop_spared, loop_goes, begins_spared}
use Rattle.kl_cursor.proofs.Scanning.{none_rows, pulled_more}
use Rattle.kl_cursor.proofs.Snaps.{snap_Scan, snap_Outside, snap_Inside, snap_inside}
use Rattle.kl_cursor.proofs.Taking.{given, finished, fresh_given, fresh_finished, fresh_steps}

-- ---- forms of which nothing is said

abbrev pub NoScan : Snap → Type 0
NoScan s = (c : Scan) → IsScan c s → ⊥

abbrev pub NoLoop : List Value → Snap → Type 0
NoLoop env s = (R : Readings) (w : Running) (b : Node) (c : Scan) (all : List Value) (drawn handed used : ℕ) → LoopOver R w env b c all drawn handed used s → ⊥

pub never_spares : (more : ℕ) (env : List Value) (s t : Snap) (a b : Running) → NoScan s → NoLoop env s → KeepsLazy more env s a t b
never_spares more env s t a b f g = record {
  scan = λ c all used handed told h. absurd (f c h.scan);
  loop = λ R p c all drawn handed told h. absurd (g R a p c all drawn handed h.used h.loops);
}

pub nothing_more : (n : ℕ) → n ≡ n + 0
nothing_more n = omega arith

pub never_lazily : (env : List Value) (s : Snap) (r : Result (Option Value × State) EvalStop) (a b : Running) → NoScan s → NoLoop env s → Lazily env s r a b
never_lazily env s (Ok (Some v, t)) a b f g = never_spares 1 env s (snap t) a b f g
never_lazily env s (Ok (None, t)) a b f g = tt
never_lazily env s (Err e) a b f g = tt

pub never_begins : (env : List Value) (s : Snap) (r : Result State EvalStop) (a b : Running) → NoScan s → NoLoop env s → BeginsLazily env s r a b
never_begins env s (Ok t) a b f g = never_spares 0 env s (snap t) a b f g
never_begins env s (Err e) a b f g = tt

pub lazily_at : (env : List Value) (x y : Snap) (r : Result (Option Value × State) EvalStop) (a b : Running) → x ≡ y → Lazily env y r a b → Lazily env x r a b
lazily_at env x y r a b e h = subst (λ z. Lazily env z r a b) (sym e) h

-- a cursor of another form
pub other_lazily : (env : List Value) (x y : Snap) (r : Result (Option Value × State) EvalStop) (a b : Running) → x ≡ y → NoScan y → NoLoop env y → Lazily env x r a b
other_lazily env x y r a b e f g = lazily_at env x y r a b e (never_lazily env y r a b f g)

-- ---- one after the other

pub lazily_then : (env : List Value) (s t : Snap) (r : Result (Option Value × State) EvalStop) (a b c : Running) → Onward env s a t b → KeepsLazy 0 env s a t b → Lazily env t r b c → Lazily env s r a c
lazily_then env s t (Ok (Some v, q)) a b c m f g = spares_then 1 env s t (snap q) a b c m f g
lazily_then env s t (Ok (None, q)) a b c m f g = tt
lazily_then env s t (Err e) a b c m f g = tt

pub begun_lazily : (env : List Value) (x : Snap) (p : Node) (t : State) (r : Result (Option Value × State) EvalStop) (a b c : Running) → x ≡ fresh p → Begins env (fresh p) (Ok t) a b → BeginsLazily env (fresh p) (Ok t) a b → Lazily env (snap t) r b c → Lazily env x r a c
begun_lazily env x p t r a b c e m l h = lazily_at env x (fresh p) r a c e (lazily_then env (fresh p) (snap t) r a b c m.0 l h)

pub loop_spares : (more : ℕ) (env : List Value) (s t : Snap) (a b : Running) → NoScan s → Spared more env s a t b → KeepsLazy more env s a t b
loop_spares more env s t a b f g = record { scan = λ c all used handed told h. absurd (f c h.scan); loop = g }

-- ---- inside the body

pub inside_lazily : (env : List Value) (p : Bor Plan) (s : State) (x : Value) (j1 j rest n : State) (i : Option Value) (v : Value) (r : Result (Option Value × State) EvalStop) (a b : Running) → Owned (uses (inside (view p.now) (snap s) x (snap j))) a → j1 ≡ j → r ≡ Ok (i, rest) → i ≡ Some v → n ≡ rest → Steps (x ∷ env) (snap j1) r a b
    → KeepsLazy 1 env (inside (view p.now) (snap s) x (snap j)) a (snap (state.Inside p s x n)) b
inside_lazily env p s x j1 j rest n i v r a b o e f g h k =
    subst (λ z. KeepsLazy 1 env (inside (view p.now) (snap s) x (snap j)) a z b) (sym (snap_Inside p s x n ∙ ap (λ z. inside (view p.now) (snap s) x (snap z)) h))
    (loop_spares 1 env (inside (view p.now) (snap s) x (snap j)) (inside (view p.now) (snap s) x (snap rest)) a b (λ c z. z)
    (inside_spared env (view p.now) (snap s) x (snap j) (snap rest) v a b o (given (x ∷ env) j1 j rest i v r a b e f g k)))

pub outside_lazily : (env : List Value) (p : Bor Plan) (s : State) (x : Value) (j1 j rest : State) (i : Option Value) (r z : Result (Option Value × State) EvalStop) (a b c : Running) → Owned (uses (inside (view p.now) (snap s) x (snap j))) a → j1 ≡ j → r ≡ Ok (i, rest) → i ≡ None → Steps (x ∷ env) (snap j1) r a b
    → Lazily env (outside (view p.now) (snap s)) z b c → Lazily env (inside (view p.now) (snap s) x (snap j)) z a c
outside_lazily env p s x j1 j rest i r z a b c o e f g h k =
    let over = finished (x ∷ env) j1 j rest i r a b e f g h in
    lazily_then env (inside (view p.now) (snap s) x (snap j)) (outside (view p.now) (snap s)) z a b c (inside_none env (view p.now) (snap s) x (snap j) a b o over)
    (loop_spares 0 env (inside (view p.now) (snap s) x (snap j)) (outside (view p.now) (snap s)) a b (λ d z. z) (outside_spared env (view p.now) (snap s) x (snap j) a b o over)) k

-- ---- between two items

given_lazily : (env : List Value) (s1 s rest : State) (i : Option Value) (v : Value) (r : Result (Option Value × State) EvalStop) (a b : Running) → s1 ≡ s → r ≡ Ok (i, rest) → i ≡ Some v → Lazily env (snap s1) r a b → KeepsLazy 1 env (snap s) a (snap rest) b
given_lazily env s1 s rest i v r a b e f g h =
    let x : Lazily env (snap s1) (Ok (i, rest)) a b = subst (λ q. Lazily env (snap s1) q a b) f h in
    let y : Lazily env (snap s1) (Ok (Some v, rest)) a b = subst (λ q. Lazily env (snap s1) (Ok (q, rest)) a b) g x in
    subst (λ q. KeepsLazy 1 env (snap q) a (snap rest) b) e y

pub loop_lazily : (env : List Value) (q : Bor Plan) (s0 : Snap) (x s rest inner n m : State) (i j : Option Value) (v w : Value) (r z : Result (Option Value × State) EvalStop) (a b c d : Running) → x ≡ s → r ≡ Ok (i, rest) → i ≡ Some v → z ≡ Ok (j, inner) → j ≡ Some w → n ≡ rest → m ≡ inner
    → Onward env (outside (view q.now) s0) a (outside (view q.now) (snap s)) b → Owned (uses (snap s)) b → Spared 0 env (outside (view q.now) s0) a (outside (view q.now) (snap s)) b
    → Steps env (snap x) r b c → Lazily env (snap x) r b c → Steps (v ∷ env) (snap (state.Fresh q)) z c d → KeepsLazy 1 env (outside (view q.now) s0) a (snap (state.Inside q n v m)) d
loop_lazily env q s0 x s rest inner n m i j v w r z a b c d e f g k l p o on own so h la t =
    let drawn = given env x s rest i v r b c e f g h in
    subst (λ y. KeepsLazy 1 env (outside (view q.now) s0) a y d) (sym (snap_inside q n rest v m inner p o))
    (loop_spares 1 env (outside (view q.now) s0) (inside (view q.now) (snap rest) v (snap inner)) a d (λ y u. u)
    (spared_then 1 env (outside (view q.now) s0) (outside (view q.now) (snap s)) (inside (view q.now) (snap rest) v (snap inner)) a b d on so
    (loop_spared env (view q.now) (snap s) (snap rest) v b c (owned_after (uses (snap s)) (uses (snap rest)) b c own drawn.moves) drawn (given_lazily env x s rest i v r b c e f g la) w (snap inner) d
    (fresh_given (v ∷ env) q inner j w z c d k l (fresh_steps (v ∷ env) q z c d t)))))

pub loop_spared_on : (env : List Value) (q : Bor Plan) (s0 : Snap) (x s rest inner n : State) (i j : Option Value) (v : Value) (r z : Result (Option Value × State) EvalStop) (a b c d : Running) → x ≡ s → r ≡ Ok (i, rest) → i ≡ Some v → z ≡ Ok (j, inner) → j ≡ None → n ≡ rest
    → Onward env (outside (view q.now) s0) a (outside (view q.now) (snap s)) b → Owned (uses (snap s)) b → Spared 0 env (outside (view q.now) s0) a (outside (view q.now) (snap s)) b
    → Steps env (snap x) r b c → Lazily env (snap x) r b c → Steps (v ∷ env) (snap (state.Fresh q)) z c d → Spared 0 env (outside (view q.now) s0) a (outside (view q.now) (snap n)) d
loop_spared_on env q s0 x s rest inner n i j v r z a b c d e f g k l p on own so h la t =
    let drawn = given env x s rest i v r b c e f g h in
    subst (λ y. Spared 0 env (outside (view q.now) s0) a (outside (view q.now) (snap y)) d) (sym p)
    (spared_then 0 env (outside (view q.now) s0) (outside (view q.now) (snap s)) (outside (view q.now) (snap rest)) a b d on so
    (loop_goes env (view q.now) (snap s) (snap rest) v b c (owned_after (uses (snap s)) (uses (snap rest)) b c own drawn.moves) drawn (given_lazily env x s rest i v r b c e f g la) d
    (fresh_finished (v ∷ env) q inner j z c d k l (fresh_steps (v ∷ env) q z c d t))))

-- ---- rows

pub took_lazily : (env : List Value) (q : Bor Scan) (k : ℕ) (before after : Buffer Value) (row : Value) (w : Running) → before.items ≡ row ∷ after.items → after.capacity ≡ before.capacity → KeepsLazy 1 env (pulling q.now k before.items before.capacity) w (snap (state.Scan q k after)) w
took_lazily env q k before after row w e f =
    subst (λ xs. KeepsLazy 1 env (pulling q.now k xs before.capacity) w (snap (state.Scan q k after)) w) (sym e)
    (subst (λ z. KeepsLazy 1 env (pulling q.now k (row ∷ after.items) before.capacity) w z w) (sym (snap_Scan q k after ∙ ap (λ m. pulling q.now k after.items m) f))
    (record {
      scan = λ c all used handed told h. (
        0,
        handed_none c w,
        fetching_at w env c all (used + 1) (used + 1) handed (handed + 0) (pulling q.now k after.items before.capacity) refl (nothing_more handed) (take_fetches env c q.now k before.capacity row after.items w all used handed h),
      );
      loop = λ R p c all drawn handed told h. absurd h.loops;
    }))

pub refilled_lazily : (env : List Value) (q : Scan) (k : ℕ) (before after : Buffer Value) (o : Option Value) (r : Result (Option Value × State) EvalStop) (a b : Running) → o ≡ None → o ≡ slice_get before.items 0 → after.capacity ≡ before.capacity → Lazily env (pulling q k [] after.capacity) r a b → Lazily env (pulling q k before.items before.capacity) r a b
refilled_lazily env q k before after o r a b e f g h =
    subst (λ m. Lazily env (pulling q k before.items m) r a b) g (subst (λ xs. Lazily env (pulling q k xs after.capacity) r a b) (sym (none_rows before.items o e f)) h)

pub refill_lazily : (env : List Value) (q : Bor Scan) (k n : ℕ) (into into' : List Value) (r : Result Bool EvalStop) (y : Bool) (filled after : Buffer Value) (row : Value) (a b : Running) → into ≡ [] → r ≡ Ok y → y ≡ true → Pulls q.now k into into' r a b
    → filled ≡ buffer into' n → filled.items ≡ row ∷ after.items → after.capacity ≡ filled.capacity → KeepsLazy 1 env (pulling q.now k [] n) a (snap (state.Scan q k after)) b
refill_lazily env q k n into into' r y filled after row a b e i j p f g h =
    let pulled = pulled_more q.now k into into' r y a b i j p in
    subst (λ z. KeepsLazy 1 env (pulling q.now k [] n) a z b) (sym (snap_Scan q k after ∙ ap (λ m. pulling q.now k after.items m) (h ∙ ap (λ z. z.capacity) f)))
    (record {
      scan = pull_fetches env q.now k n into into' row after.items a b e (sym (ap (λ z. z.items) f) ∙ g) pulled;
      loop = λ R b' c all drawn handed told h. absurd h.loops;
    })

-- ---- a plan as it begins

abbrev is_loop : Node → Bool
is_loop (node.Ext k b s) = true
is_loop (node.Scan c) = true
is_loop _ = false

no_loop : (p q : Node) → is_loop p ≡ false → is_loop q ≡ true → p ≡ q → ⊥
no_loop p q e f g = let x : true ≡ false = sym f ∙ sym (ap is_loop g) ∙ e in cc

-- neither a loop nor a scan
no_scan_here : (p q : Node) → p ≡ q → is_loop q ≡ false → NoScan (fresh p)
no_scan_here p q f e = λ c h. no_loop q (node.Scan c) e refl (sym f ∙ h)

no_loop_here : (env : List Value) (p q : Node) → p ≡ q → is_loop q ≡ false → NoLoop env (fresh p)
no_loop_here env p q f e = λ R w b c all drawn handed used h. no_loop q (node.Ext kind.List b (node.Scan c)) e refl (sym f ∙ h.0)

pub other_spares : (env : List Value) (p q : Node) (t : Snap) (a b : Running) → p ≡ q → is_loop q ≡ false → KeepsLazy 0 env (fresh p) a t b
other_spares env p q t a b f e = never_spares 0 env (fresh p) t a b (no_scan_here p q f e) (no_loop_here env p q f e)

-- what never comes item by item
pub whole_begins_lazily : (env : List Value) (p : Node) (r : Result State EvalStop) (a b : Running) → kind_of_items p ≡ None → BeginsLazily env (fresh p) r a b
whole_begins_lazily env p r a b e = never_begins env (fresh p) r a b (λ c h. no_kind_at c.kind (sym (ap kind_of_items h) ∙ e)) (λ R w b' c all drawn handed used h. no_kind_at kind.List (sym (ap kind_of_items h.0) ∙ e))
  where
    no_kind_at : (k : Kind) → Some k ≡ None → ⊥
    no_kind_at k h = cc

abbrev is_scan : Node → Bool
is_scan (node.Scan c) = true
is_scan _ = false

no_ext : (k : Kind) (b s : Node) (c : Scan) → node.Ext k b s ≡ node.Scan c → ⊥
no_ext k b s c e = no_scan_form (ap is_scan e)
  where
    no_scan_form : false ≡ true → ⊥
    no_scan_form h = cc

abbrev drawn_in : Node → Bool
drawn_in (node.Ext k b s) = draws k s
drawn_in _ = false

same_draws : (k : Kind) (p q b r : Node) → node.Ext k p q ≡ node.Ext kind.List b r → draws k q ≡ draws kind.List r
same_draws k p q b r g = ap drawn_in g

-- a loop whose source is made whole first
pub whole_loop_lazily : (env : List Value) (p : Plan) (k : Kind) (b s i : Plan) (y : Bool) (t : State) (w x : Running) → p ≡ plans.Ext k b s → i ≡ s → y ≡ draws k (view i) → y ≡ false → BeginsLazily env (fresh (view p)) (Ok t) w x
whole_loop_lazily env p k b s i y t w x e f fit off =
    subst (λ z. BeginsLazily env (fresh z) (Ok t) w x) (sym (ap view e ∙ view_Ext k b s))
    (never_begins env (fresh (node.Ext k (view b) (view s))) (Ok t) w x (λ c h. no_ext k (view b) (view s) c h) (λ R v b' c all drawn handed used h. would_draw b' c h.0 h.1))
  where
    would_draw : (b' : Node) (c : Scan) → node.Ext k (view b) (view s) ≡ node.Ext kind.List b' (node.Scan c) → c.kind ≡ kind.List → ⊥
    would_draw b' c g l =
        let is : draws k (view s) ≡ draws kind.List (node.Scan c) = same_draws k (view b) (view s) b' (node.Scan c) g in
        let on : draws kind.List (node.Scan c) ≡ true = ap (λ d. fits_in d kind.List) l in
        let z : true ≡ false = sym on ∙ sym is ∙ ap (λ q. draws k (view q)) (sym f) ∙ sym fit ∙ off in
        cc

pub loop_begins_lazily : (env : List Value) (p : Plan) (k : Kind) (b s j : Plan) (q : Bor Plan) (t slot : State) (w : Running) → p ≡ plans.Ext k b s → j ≡ s → q.now ≡ b → snap t ≡ fresh (view j) → BeginsLazily env (fresh (view p)) (Ok (state.Outside q t slot)) w w
loop_begins_lazily env p k b s j q t slot w e g h is =
    subst (λ z. KeepsLazy 0 env z w (snap (state.Outside q t slot)) w) (sym (ap (λ z. fresh (view z)) e ∙ ap fresh (view_Ext k b s)))
    (subst (λ z. KeepsLazy 0 env (fresh (node.Ext k (view b) (view s))) w z w) (sym (snap_Outside q t slot ∙ ap (λ z. outside (view z) (snap t)) h ∙ ap (outside (view b)) (is ∙ ap (λ z. fresh (view z)) g)))
    (loop_spares 0 env (fresh (node.Ext k (view b) (view s))) (outside (view b) (fresh (view s))) w w (λ c z. no_ext k (view b) (view s) c z) (begins_spared env w k (view b) (view s))))

pub scan_begins_lazily : (env : List Value) (p : Plan) (q : Bor Scan) (k n : ℕ) (ahead : Buffer Value) (r : Result ℕ EvalStop) (w x : Running) → p ≡ plans.Scan q.now → HasItems w (view p) env → n ≡ w.settings.fetch → ahead ≡ buffer [] n → Starts q.now r w x → r ≡ Ok k
    → BeginsLazily env (fresh (view p)) (Ok (state.Scan q k ahead)) w x
scan_begins_lazily env p q k n ahead r w x e h f g s is =
    let at = ap view e ∙ view_Scan q.now in
    subst (λ z. KeepsLazy 0 env (fresh z) w (snap (state.Scan q k ahead)) x) (sym at)
    (subst (λ z. KeepsLazy 0 env (fresh (node.Scan q.now)) w z x) (sym (snap_Scan q k ahead ∙ ap (λ z. pulling q.now k z.items z.capacity) g))
    (record {
      scan = start_fetches env q.now k n w x (items_at env (view p) (node.Scan q.now) w at h) f (subst (λ z. Starts q.now z w x) is s);
      loop = λ R b c all drawn handed told h. absurd (no_scan_loop q.now b c h.loops.0);
    }))
  where
    no_scan_loop : (q : Scan) (b : Node) (c : Scan) → node.Scan q ≡ node.Ext kind.List b (node.Scan c) → ⊥
    no_scan_loop q b c g = no_ext kind.List b (node.Scan c) q (sym g)
