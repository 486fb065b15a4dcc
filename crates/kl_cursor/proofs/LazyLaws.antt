-- What laziness comes to, over a whole drawing.
use Rattle.std.proofs.Common.{◌≡◌, ℕ, ◌+◌, ◌<◌, ◌≤◌, ◌^◌, ◌*◌, true, List, [], ◌∷◌, length, Some, cond, nat_eq, slice_index_or, inl, refl, sym, ap, ◌∙◌, subst, arith}
use Rattle.std.specs.Option.{option_map}
use Rattle.std.specs.List.{Contains}
use Rattle.kl_value.specs.declared.Kind.TheVariants as kind
use Rattle.kl_value.specs.declared.Value.{Value}
use Rattle.kl_ask.specs.Asked.{raised_by}
use Rattle.kl_scans.specs.Running.{Running}
use Rattle.kl_plan.specs.declared.plan.Scan.{Scan}
use Rattle.kl_plan.specs.Holding.{PartsIn}
use Rattle.kl_plan.specs.Meaning.{Readings, coming, scanned}
use Rattle.kl_plan.specs.Nodes as node
use Rattle.kl_plan.specs.Nodes.{Node}
use Rattle.kl_scans.specs.Log as log
use Rattle.kl_scans.specs.Log.{Event, handed_after, rows_at}
use Rattle.kl_cursor.specs.Laziness.{Fetching, Frugal, Handed, LazyLoop, ListTold, LoopOver, KeepsLazy, items_at, rows_in, only_scan, empty_listing}
use Rattle.kl_cursor.specs.Left.{Snap, fresh, have, pulling, both, bound, outside, inside, made, ended, taking, reads, pairing, joining, matching, leading, reading}
use Rattle.kl_cursor.specs.Steps.{AreOf}
use Rattle.kl_cursor.proofs.Handing.{handed_none, handed_then}

-- ---- the promise

module _ (R : Readings) (w : Running) (env : List Value) (b : Node) (c : Scan) (all : List Value) (drawn handed : ℕ) where
  frugal_of : (used : ℕ) (s : Snap) → Fetching w env c all used handed s → drawn ≤ items_at R env b all used → ((n : ℕ) → n < used → items_at R env b all n < drawn) → Frugal R w.settings.fetch env b all drawn handed
  frugal_of used s f enough least = record { rows = used; front = record { enough = enough; least = least }; enough = omega (arith, f.sum); few = omega (arith, f.sum, f.few); times = f.times }

  frugal_at : (used : ℕ) (s : Snap) → LoopOver R w env b c all drawn handed used s → ((n : ℕ) → n < used → items_at R env b all n < drawn) → Frugal R w.settings.fetch env b all drawn handed
  frugal_at used (fresh p) l before = frugal_of used (fresh (node.Scan c)) l.2 (omega (arith, l.3)) before
  frugal_at used (outside p s) l before = frugal_of used s l.1 (omega (arith, l.2)) before
  frugal_at used (inside p s v i) l before = frugal_of used s l.1 (omega (arith, l.2)) before
  frugal_at used (have vs e) l before = absurd l
  frugal_at used (pulling d k rows n) l before = absurd l
  frugal_at used (both s p) l before = absurd l
  frugal_at used (bound v s) l before = absurd l
  frugal_at used (made ps) l before = absurd l
  frugal_at used ended l before = absurd l
  frugal_at used (taking vs s) l before = absurd l
  frugal_at used (reads k p) l before = absurd l
  frugal_at used (pairing k p xs s) l before = absurd l
  frugal_at used (joining j s h n) l before = absurd l
  frugal_at used (matching p ys x s) l before = absurd l
  frugal_at used (leading x i s) l lower = absurd l

  pub lazy_frugal : (s : Snap) → LazyLoop R w env b c all drawn drawn handed s → Frugal R w.settings.fetch env b all drawn handed
  lazy_frugal s h = frugal_at h.used s h.loops h.before

-- ---- a whole drawing

-- what was drawn of a loop over a scan, from its begin on
pub record Drawing (R : Readings) (env : List Value) (b : Node) (c : Scan) (all : List Value) (a : Running) (drawn : ℕ) (s : Snap) (w : Running) : Type 0 where
  pub handed : ℕ
  pub counted : Handed c handed a w
  pub lazy : LazyLoop R w env b c all drawn drawn handed s

none_times : (n : ℕ) → 0 ≡ 0 * n
none_times n = omega arith

-- nothing is handed before the first item is drawn
pub drawing_starts : (env : List Value) (b : Node) (c : Scan) (all : List Value) (w : Running) → reading w c ≡ Some all → c.kind ≡ kind.List → 0 < w.settings.fetch → PartsIn empty_listing b
    → Drawing (reading w) env b c all w 0 (fresh (node.Ext kind.List b (node.Scan c))) w
drawing_starts env b c all w told list fetch still = record {
  handed = 0;
  counted = handed_none c w;
  lazy = record {
    used = 0;
    loops = (refl, list, record { scan = refl; rows = ap (λ o. coming (scanned c.kind o)) told; sum = refl; few = fetch; times = inl (0, none_times w.settings.fetch) }, refl);
    before = λ n h. absurd (omega (arith, h));
    reads = refl;
    still = still;
  };
}

-- each item that is given then
pub drawing_goes : (R : Readings) (env : List Value) (b : Node) (c : Scan) (all : List Value) (a : Running) (drawn : ℕ) (s t : Snap) (w x : Running) → Drawing R env b c all a drawn s w → ListTold env s w → KeepsLazy 1 env s w t x → Drawing R env b c all a (drawn + 1) t x
drawing_goes R env b c all a drawn s t w x d told m =
    let l = d.lazy in
    let y = m.loop R b c all drawn d.handed told (record { used = l.used; loops = l.loops; before = λ n h. omega (arith, l.before n h); reads = l.reads; still = l.still }) in
    record { handed = d.handed + y.0; counted = handed_then c d.handed y.0 a w x d.counted y.1; lazy = y.2 }

-- ---- what a driver's count says

same_driver : (d : ℕ) → nat_eq d d ≡ true
same_driver d = grind arith

raised : (n m : ℕ) → m + n < 2 ^ 64 → raised_by n m ≡ m + n
raised n m h = omega (arith, h)

counted_after : (c : Scan) (es : List Event) (m : ℕ) → AreOf (only_scan c) es → m + rows_in es < 2 ^ 64 → handed_after c.driver es m ≡ m + rows_in es
counted_after c [] m h k = omega arith
counted_after c (log.started d ∷ es) m h k = counted_after c es m h.1 k
counted_after c (log.joined n way outer starts ∷ es) m h k = counted_after c es m h.1 k
counted_after c (log.missed q v ∷ es) m h k = counted_after c es m h.1 k
counted_after c (log.hit n frees p env ∷ es) m h k = counted_after c es m h.1 k
counted_after c (log.handed d n ∷ es) m h k =
    ap (λ y. handed_after c.driver es (cond y (raised_by n m) m)) (ap (λ z. nat_eq z.driver c.driver) (sym (only_one c d h.0)) ∙ same_driver c.driver)
    ∙ ap (handed_after c.driver es) (raised n m (let q : m + (n + rows_in es) < 2 ^ 64 = k in omega arith))
    ∙ counted_after c es (m + n) h.1 (let q : m + (n + rows_in es) < 2 ^ 64 = k in omega arith)
    ∙ one_sum m n (rows_in es)
  where
    one_sum : (m n k : ℕ) → (m + n) + k ≡ m + (n + k)
    one_sum m n k = omega arith

    only_one : (c d : Scan) → Contains (c ∷ []) d → c ≡ d
    only_one c d h = at_first h.0 h.1 h.2
      where
        at_first : (k : ℕ) → k < length (c ∷ []) → slice_index_or (c ∷ []) k d ≡ d → c ≡ d
        at_first k less e = let z : k ≡ 0 = omega (arith, less) in subst (λ i. slice_index_or (c ∷ []) i d ≡ d) z e

-- its count of rows rose by those that were handed, where it did not come to its greatest value
pub handed_counts : (c : Scan) (rows m : ℕ) (a b : Running) → Handed c rows a b → rows_at a c.driver ≡ Some m → m + rows < 2 ^ 64 → rows_at b c.driver ≡ Some (m + rows)
handed_counts c rows m a b h e k =
    h.logged.handed c.driver ∙ ap (option_map (handed_after c.driver h.events)) e
    ∙ ap Some (counted_after c h.events m h.of (subst (λ n. m + n < 2 ^ 64) (sym h.sum) k) ∙ ap (λ n. m + n) h.sum)
