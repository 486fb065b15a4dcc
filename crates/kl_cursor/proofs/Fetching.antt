-- Scans of which no more rows are fetched than are used, but for those of one time.
use Rattle.std.proofs.Common.{◌≡◌, ℕ, ◌+◌, ◌<◌, true, List, [], ◌∷◌, ◌++◌, length, drop, sym, ap, ◌∙◌, subst, arith}
use Rattle.kl_value.specs.declared.Kind.{Kind}
use Rattle.kl_value.specs.declared.Kind.TheVariants as kind
use Rattle.kl_value.specs.declared.Value.{Value}
use Rattle.kl_type.specs.Ground.{Ground}
use Rattle.kl_outcome.specs.Outcome.{more, fine, flow}
use Rattle.kl_outcome.specs.Typed.{HaveTypes}
use Rattle.kl_core.specs.Counts.{fits_in}
use Rattle.kl_scans.specs.Running.{Running}
use Rattle.kl_plan.specs.declared.plan.Scan.{Scan}
use Rattle.kl_plan.specs.Nodes as node
use Rattle.kl_plan.specs.Nodes.{Node}
use Rattle.kl_scans.specs.Held.{cursor_at}
use Rattle.kl_scans.specs.Scans.{Started, PulledMore}
use Rattle.kl_cursor.specs.Laziness.{rows_in, Handed, ByTimes, Fetching, ahead, ListTold, only_scan}
use Rattle.kl_scans.specs.Stage.{or_none}
use Rattle.kl_cursor.specs.Left.{Snap, fresh, pulling, outside, uses, left, rows_left}
use Rattle.kl_cursor.specs.Sense.{IsToldAt, Fits, HasItems}
use Rattle.kl_cursor.specs.Steps.{AreOf, Onward, Gives}
use Rattle.kl_cursor.proofs.Forms.{told_on}
use Rattle.kl_cursor.proofs.Handing.{of_itself}
use Rattle.kl_cursor.proofs.Rowwise.{flow_rows, next_rows, by_times}
use Rattle.kl_cursor.proofs.Scanning.{rows_of, scan_gives}
use Rattle.kl_cursor.proofs.Starting.{scan_begins}
use Rattle.kl_cursor.proofs.Still.{Still, left_still}

-- ---- what is told

pub told_onward : (env : List Value) (s t : Snap) (a b : Running) → Onward env s a t b → ListTold env s a → ListTold env t b
told_onward env s t a b m h = (h.0, h.1, h.2, m.typed h.0 kind.List h.1 h.2 h.3, told_on (uses s) (uses t) a b m.moves h.4)

source_told : (env : List Value) (s : Snap) (w : Running) (G : List Ground) (j : Kind) (t : Ground) → fits_in j kind.List ≡ true → HaveTypes G env → Fits w G j t s → IsToldAt w → ListTold env s w
source_told env s w G kind.Set t e h f told = cc
source_told env s w G kind.Bag t e h f told = cc
source_told env s w G kind.List t e h f told = (G, t, h, f, told)

-- the source of a loop that makes a list is one
pub told_source : (env : List Value) (p : Node) (s : Snap) (w : Running) → ListTold env (outside p s) w → ListTold env s w
told_source env p s w h = source_told env s w h.0 h.3.0 h.3.1 h.3.2 h.2 h.3.3 h.4

-- what a list had left, where an item was given
pub list_gave : (env : List Value) (s t : Snap) (v : Value) (a b : Running) → ListTold env s a → Gives env s a v t b → more v (left b t env) ≡ left a s env
list_gave env s t v a b h g = g.gave h.0 kind.List h.1 h.2 h.3 h.4

pub list_same : (env : List Value) (s t : Snap) (a b : Running) → ListTold env s a → Onward env s a t b → left b t env ≡ left a s env
list_same env s t a b h m = m.same h.0 kind.List h.1 h.2 h.3 h.4

-- ---- a scan

pub fetching_at : (w : Running) (env : List Value) (c : Scan) (all : List Value) (m n k l : ℕ) (s : Snap) → m ≡ n → k ≡ l → Fetching w env c all m k s → Fetching w env c all n l s
fetching_at w env c all m n k l s e f h = subst (λ z. Fetching w env c all z l s) e (subst (λ z. Fetching w env c all m z s) f h)

ahead_still : (w x : Running) → x.settings ≡ w.settings → w.settings.fetch ≡ x.settings.fetch
ahead_still w x e = ap (λ z. z.fetch) (sym e)

-- a scan that stands still
pub fetching_still : (w x : Running) (env : List Value) (c : Scan) (all : List Value) (used handed : ℕ) (s : Snap) → Still (uses s) w x → Fetching w env c all used handed s → Fetching x env c all used handed s
fetching_still w x env c all used handed s still h = record {
  scan = h.scan;
  rows = left_still s w x env still ∙ h.rows;
  sum = h.sum;
  few = subst (λ z. ahead s < z) (ahead_still w x still.fetch) h.few;
  times = subst (λ z. ByTimes z all handed) (ahead_still w x still.fetch) h.times;
}

-- a row that was fetched ahead
pub take_fetches : (env : List Value) (c : Scan) (q : Scan) (k n : ℕ) (row : Value) (rest : List Value) (w : Running) (all : List Value) (used handed : ℕ)
    → Fetching w env c all used handed (pulling q k (row ∷ rest) n) → Fetching w env c all (used + 1) handed (pulling q k rest n)
take_fetches env c q k n row rest w all used handed h = record {
  scan = h.scan;
  rows = next_rows row (flow (rest ++ rows_left (cursor_at w q.driver k)) fine) all used h.rows;
  sum = let x : handed ≡ used + length (row ∷ rest) = h.sum in omega arith;
  few = let x : length (row ∷ rest) < w.settings.fetch = h.few in omega arith;
  times = h.times;
}

-- ---- rows that are pulled

none_more : (n : ℕ) → n + 0 ≡ n
none_more n = omega arith

module _ (env : List Value) (q : Scan) (k n : ℕ) (into into' : List Value) (row : Value) (rest : List Value) (a b : Running) (e : into ≡ []) (g : into' ≡ row ∷ rest) (p : PulledMore q k into into' a b) where
  pulled_rows : p.rows ≡ row ∷ rest
  pulled_rows = sym (p.appended ∙ ap (λ z. z ++ p.rows) e) ∙ g

  pulled_handed : (c : Scan) → q ≡ c → Handed c (length p.rows) a b
  pulled_handed c is = record {
    settings = p.moves.settings;
    events = p.moves.events;
    logged = p.moves.logged;
    of = subst (AreOf (only_scan c)) (sym p.only) (of_itself c q is, tt);
    sum = ap rows_in p.only ∙ none_more (length p.rows);
  }

  pulled_times : (all : List Value) (used : ℕ) → ListTold env (pulling q k [] n) a → left a (pulling q k [] n) env ≡ flow (drop used all) fine → ByTimes a.settings.fetch all used → ByTimes a.settings.fetch all (used + length p.rows)
  pulled_times all used told rows times =
      let r = rows_of a q (cursor_at a q.driver k) p.was told.1 p.here told.3.2 told.4 in
      let l = p.hands.left r.0 r.1 in
      let same : r.0 ≡ drop used all = flow_rows r.0 (drop used all) (ap (λ o. flow (or_none o) fine) (sym r.1) ∙ ap (λ o. flow (rows_left o) fine) (sym p.here) ∙ rows) in
      by_times a.settings.fetch all p.rows l.0 used (sym same ∙ l.1) p.hands.some l.3 times

  pub pull_fetches : (c : Scan) (all : List Value) (used handed : ℕ) → ListTold env (pulling q k [] n) a → Fetching a env c all used handed (pulling q k [] n)
      → (rows : ℕ) × Handed c rows a b × Fetching b env c all (used + 1) (handed + rows) (pulling q k rest n)
  pull_fetches c all used handed told h =
      let had : handed ≡ used = (let x : handed ≡ used + 0 = h.sum in omega arith) in
      let size : length p.rows ≡ length (row ∷ rest) = ap length pulled_rows in
      let fetch : a.settings.fetch ≡ b.settings.fetch = ap (λ z. z.fetch) (sym p.moves.settings) in (
        length p.rows,
        pulled_handed c h.scan,
        record {
          scan = h.scan;
          rows = next_rows row (left b (pulling q k rest n) env) all used (list_gave env (pulling q k [] n) (pulling q k rest n) row a b told (scan_gives env q k n into into' row rest a b e g p) ∙ h.rows);
          sum = omega (arith, had, size);
          few = subst (λ z. length rest < z) fetch (let x = p.hands.most in omega (arith, size));
          times = subst (λ z. ByTimes z all (handed + length p.rows)) fetch (subst (λ z. ByTimes a.settings.fetch all (z + length p.rows)) (sym had) (pulled_times all used told h.rows (subst (ByTimes a.settings.fetch all) had h.times)));
        },
      )

-- ---- a scan as it is opened

same_scan : (q c : Scan) → node.Scan q ≡ node.Scan c → q ≡ c
same_scan q c e = cc

pub start_fetches : (env : List Value) (q : Scan) (k n : ℕ) (w x : Running) → HasItems w (node.Scan q) env → n ≡ w.settings.fetch → Started q k w x → (c : Scan) (all : List Value) (used handed : ℕ) → ListTold env (fresh (node.Scan q)) w
    → Fetching w env c all used handed (fresh (node.Scan q)) → (rows : ℕ) × Handed c rows w x × Fetching x env c all (used + 0) (handed + rows) (pulling q k [] n)
start_fetches env q k n w x i m s c all used handed told h =
    let fetch : w.settings.fetch ≡ x.settings.fetch = ap (λ z. z.fetch) (sym s.moves.settings) in
    let is = same_scan q c h.scan in (
      0,
      record { settings = s.moves.settings; events = s.moves.events; logged = s.moves.logged; of = subst (AreOf (only_scan c)) (sym s.only) (of_itself c q is, tt); sum = ap rows_in s.only },
      fetching_at x env c all used (used + 0) handed (handed + 0) (pulling q k [] n) (omega arith) (omega arith)
          (record {
            scan = is;
            rows = list_same env (fresh (node.Scan q)) (pulling q k [] n) w x told (scan_begins env q k n w x i m s) ∙ h.rows;
            sum = h.sum;
            few = subst (λ z. 0 < z) fetch h.few;
            times = subst (λ z. ByTimes z all handed) fetch h.times;
          }),
    )
