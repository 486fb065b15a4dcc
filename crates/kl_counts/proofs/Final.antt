-- The counts of a run by the numbers of scans and joins.
use Rattle.std.proofs.Common.{◌≡◌, ◌≤◌, ℕ, ◌+◌, Bool, true, false, List, [], ◌∷◌, cond, nat_eq, refl, ap, ◌∙◌, arith}
use Rattle.std.specs.List.{sum_by, AllByRecursion}
use Rattle.std.specs.Set.{distinct_count}
use Rattle.std.proofs.lemmas.List.Sums.{sum_by-cons}
use mathlib.Core.Path.{fun_ext}
use Rattle.kl_ask.specs.declared.settings.JoinHow.{JoinHow}
use Rattle.kl_plan.specs.declared.plan.Scan.{Scan}
use Rattle.kl_plan.specs.Nodes.{Node}
use Rattle.kl_plan.specs.Meaning.{Readings}
use Rattle.kl_lookups.specs.Lookups.{Exact}
use Rattle.kl_plan.specs.Subqueries.{Subquery}
use Rattle.kl_counts.specs.Keys.{under}
use Rattle.kl_plan.specs.Prices.{Prices, inner_starts, executed, prices}
use Rattle.kl_counts.specs.Places.{Places, AnyScan, AnyJoin, NoMemo}
use Rattle.kl_plan.specs.Reached.{reached}
use Rattle.kl_counts.specs.Visits.{keys}
use Rattle.kl_scans.specs.Log.{Event, started, handed, joined, missed, hit}
use Rattle.kl_counts.specs.Log.{spent, hits_in, entries_in, times_in}
use Rattle.kl_plan.specs.Parts.{memos_of}
use Rattle.kl_plan.specs.Subqueries.{Memo}
use Rattle.kl_scans.specs.Stage.{Stage, readings}
use Rattle.kl_counts.specs.Once.{costs, at_scan, once_each, OtherScan, OtherInner, AnyMemo, NoneOutside, NoneInside, InnerOf, OnlyInner, OtherJoin, NoJoinInside}
use Rattle.kl_counts.specs.Ran.{HitMemos, Ran}
use Rattle.kl_counts.proofs.Pricing.{reached_rel}
use Rattle.kl_counts.proofs.Counting.{Anyhow, IsSame, NoneAt, SameAt, reached_none, reached_alike, spent_and_spared, spent_most, spent_outside, spent_once}
use Rattle.kl_counts.proofs.Regular.{places_with, each_memo, no_memos, Costed, inside_all}

-- ---- prices by numbers

abbrev no_scan : Scan → ℕ
no_scan c = 0

abbrev no_join : ℕ → JoinHow → ℕ → ℕ
no_join m way outer = 0

abbrev scan_at : ℕ → Scan → ℕ
scan_at n c = cond (nat_eq c.number n) 1 0

-- a price of the outer rows of the joins of a number
abbrev join_at : ℕ → (JoinHow → ℕ → ℕ) → ℕ → JoinHow → ℕ → ℕ
join_at j u m way outer = cond (nat_eq m j) (u way outer) 0

off : (b : Bool) (n : ℕ) → b ≡ false → cond b n 0 ≡ 0
off b n h = ap (λ c. cond c n 0) h

times_spent : (n : ℕ) (es : List Event) → times_in n es ≡ spent (at_scan n) es
times_spent n [] = refl
times_spent n (started c ∷ es) = ap (λ t. cond (nat_eq c.number n) 1 0 + t) (times_spent n es)
times_spent n (handed c m ∷ es) = times_spent n es
times_spent n (joined m way outer starts ∷ es) = omega (arith, times_spent n es)
times_spent n (missed k v ∷ es) = times_spent n es
times_spent n (hit m frees p env ∷ es) = times_spent n es

entries_spent : (w : ℕ → JoinHow → ℕ → ℕ) (es : List Event) → sum_by (λ e. w e.join e.way e.outer) (entries_in es) ≡ spent (prices no_scan w) es
entries_spent w [] = refl
entries_spent w (started c ∷ es) = omega (arith, entries_spent w es)
entries_spent w (handed c m ∷ es) = entries_spent w es
entries_spent w (joined m way outer starts ∷ es) = omega (arith, entries_spent w es, sum_by-cons (λ e. w e.join e.way e.outer) (record { join = m; way = way; outer = outer; starts = starts }) (entries_in es))
entries_spent w (missed k v ∷ es) = entries_spent w es
entries_spent w (hit m frees p env ∷ es) = entries_spent w es

module _ (t : Stage) (p : Node) where
  abbrev R : Readings
  R = readings t

  abbrev block : ℕ
  block = t.block

  -- ---- each entry has the starts that its outer number asks for

  pub starts_spent : (j : ℕ) (es : List Event) → HitMemos R block p es → sum_by (λ e. cond (nat_eq e.join j) e.starts 0) (entries_in es) ≡ spent (prices no_scan (join_at j (inner_starts block))) es
  starts_spent j [] h = refl
  starts_spent j (started c ∷ es) h = omega (arith, starts_spent j es h)
  starts_spent j (handed c m ∷ es) h = starts_spent j es h
  starts_spent j (joined m way outer starts ∷ es) h =
      let here : cond (nat_eq m j) starts 0 ≡ join_at j (inner_starts block) m way outer = ap (λ s. cond (nat_eq m j) s 0) h.0 in
      omega (arith, starts_spent j es h.1, sum_by-cons (λ e. cond (nat_eq e.join j) e.starts 0) (record { join = m; way = way; outer = outer; starts = starts }) (entries_in es))
  starts_spent j (missed k v ∷ es) h = starts_spent j es h
  starts_spent j (hit m frees q env ∷ es) h = starts_spent j es h.1

  -- ---- what costs nothing under any key, and what costs the same

  free_costs : (P : Prices) (ms : List Memo) → AllByRecursion (λ m. (d : ℕ) × NoneAt block P d m.1.1) ms → (k : Subquery) → costs R block P ms k ≡ 0
  free_costs P [] h k = refl
  free_costs P (m ∷ ms) h k = by (nat_eq m.0 k.0) (free_costs P ms h.1 k)
    where
      by : (b : Bool) → costs R block P ms k ≡ 0 → cond b (reached R block P m.1.1 (under 0 m.1.0 k.1)) (costs R block P ms k) ≡ 0
      by true r = reached_none R block P h.0.0 m.1.1 (under 0 m.1.0 k.1) h.0.1
      by false r = r

  same_costs : (P Q : Prices) (ms : List Memo) → AllByRecursion (λ m. (d : ℕ) × SameAt block P Q d m.1.1) ms → (k : Subquery) → costs R block P ms k ≡ costs R block Q ms k
  same_costs P Q [] h k = refl
  same_costs P Q (m ∷ ms) h k = by (nat_eq m.0 k.0) (same_costs P Q ms h.1 k)
    where
      by : (b : Bool) → costs R block P ms k ≡ costs R block Q ms k → cond b (reached R block P m.1.1 (under 0 m.1.0 k.1)) (costs R block P ms k) ≡ cond b (reached R block Q m.1.1 (under 0 m.1.0 k.1)) (costs R block Q ms k)
      by true r = reached_alike R block P Q h.0.0 m.1.1 (under 0 m.1.0 k.1) h.0.1
      by false r = r

  -- the inner scan of a join costs the same by its own number and by the join's
  inner_same : (n j m : ℕ) (way : JoinHow) (i : Scan) (outer : ℕ) (a b : Bool) → nat_eq i.number n ≡ a → nat_eq m j ≡ b → nat_eq i.number n ≡ nat_eq m j
      → executed block (at_scan n) m way i outer ≡ executed block (prices no_scan (join_at j (inner_starts block))) m way i outer
  inner_same n j m way i outer true true s t h = rw (s, t) (omega arith)
  inner_same n j m way i outer false false s t h = rw (s, t) (omega arith)
  inner_same n j m way i outer true false s t h = cc
  inner_same n j m way i outer false true s t h = cc

  module _ {V : Type 0} (same : Subquery → Subquery → Bool) (exact : Exact same) (capacity : ℕ) (value : Subquery → V) (es : List Event) (ran : Ran same capacity value t p es) where
    -- ---- a scan that stands by itself

    -- it is started at most as often as it is reached
    pub times_most : (n : ℕ) → times_in n es ≤ reached R block (at_scan n) p []
    times_most n = omega (arith, times_spent n es, spent_most t same exact capacity value p es ran (scan_at n) no_join)

    -- outside every memo exactly as often
    pub times_outside : (n : ℕ) → NoneInside n p → times_in n es ≡ reached R block (at_scan n) p []
    times_outside n none =
        let parts : AllByRecursion (λ m. (d : ℕ) × NoneAt block (at_scan n) d m.1.1) (memos_of p) =
        each_memo AnyScan AnyJoin (λ d m frees q. NoneAt block (at_scan n) d q) (λ d m frees q h. no_memos _ _ d q h) 0 p
        (places_with AnyScan AnyScan AnyScan AnyJoin AnyJoin AnyJoin (λ d m frees q. Places (OtherScan n) (OtherInner n) NoMemo d q) (λ d m frees q. Places (OtherScan n) (OtherInner n) NoMemo d q) (λ d m frees q. NoneAt block (at_scan n) d q)
        (λ c h g. tt) (λ m way i h g. tt)
        (λ d m frees q h g. places_with (OtherScan n) (OtherScan n) (λ c. (at_scan n).scan c ≡ 0) (OtherInner n) (OtherInner n) (λ m way i. (outer : ℕ) → executed block (at_scan n) m way i outer ≡ 0) NoMemo NoMemo NoMemo
        (λ c h g. off (nat_eq c.number n) 1 h) (λ m way i h g outer. let z = off (nat_eq i.number n) 1 h in rw z (omega arith)) (λ d m frees q h g. h) d q h h)
        0 p none none) in
        times_spent n es ∙ spent_outside t same exact capacity value p es ran (scan_at n) no_join (free_costs (at_scan n) (memos_of p) parts)

    -- inside memos, where all different keys have room, as often as one evaluation under each of them comes to it
    pub times_once : (n : ℕ) → Places AnyScan AnyJoin (Costed R block p) 0 p → NoneOutside n p → distinct_count same (keys R p []) ≤ capacity → times_in n es ≡ once_each same R block p n
    times_once n known none room =
        times_spent n es ∙ spent_once t same exact capacity value p es ran (scan_at n) no_join room
        (inside_all R block (at_scan n) p (λ n vs. refl) known
        (places_with (OtherScan n) (OtherScan n) (λ c. (at_scan n).scan c ≡ 0) (OtherInner n) (OtherInner n) (λ m way i. (outer : ℕ) → executed block (at_scan n) m way i outer ≡ 0) AnyMemo AnyMemo AnyMemo
        (λ c h g. off (nat_eq c.number n) 1 h) (λ m way i h g outer. let z = off (nat_eq i.number n) 1 h in rw z (omega arith)) (λ d m frees q h g. tt) 0 p none none))

    -- ---- the inner scan of a join

    same_at : (n j d : ℕ) (q : Node) → Places (OtherScan n) (InnerOf n j) NoMemo d q → SameAt block (at_scan n) (prices no_scan (join_at j (inner_starts block))) d q
    same_at n j d q h =
        places_with (OtherScan n) (OtherScan n) (λ c. (at_scan n).scan c ≡ 0) (InnerOf n j) (InnerOf n j)
        (λ m way i. (outer : ℕ) → executed block (at_scan n) m way i outer ≡ executed block (prices no_scan (join_at j (inner_starts block))) m way i outer) NoMemo NoMemo NoMemo
        (λ c h g. off (nat_eq c.number n) 1 h) (λ m way i h g outer. inner_same n j m way i outer (nat_eq i.number n) (nat_eq m j) refl refl h) (λ d m frees q h g. h) d q h h

    -- it is started as often as the entries of the join say
    pub times_inner : (n j : ℕ) → OnlyInner n j p → times_in n es ≡ sum_by (λ e. cond (nat_eq e.join j) e.starts 0) (entries_in es)
    times_inner n j only =
        let P = at_scan n in
        let Q = prices no_scan (join_at j (inner_starts block)) in
        let parts : AllByRecursion (λ m. (d : ℕ) × SameAt block P Q d m.1.1) (memos_of p) =
        each_memo AnyScan AnyJoin (λ d m frees q. SameAt block P Q d q) (λ d m frees q h. no_memos _ _ d q h) 0 p
        (places_with (OtherScan n) (OtherScan n) AnyScan (InnerOf n j) (InnerOf n j) AnyJoin (λ d m frees q. Places (OtherScan n) (InnerOf n j) NoMemo d q) (λ d m frees q. Places (OtherScan n) (InnerOf n j) NoMemo d q)
        (λ d m frees q. SameAt block P Q d q) (λ c h g. tt) (λ m way i h g. tt) (λ d m frees q h g. same_at n j d q h) 0 p only only) in
        let whole : reached R block P p [] ≡ reached R block Q p [] =
        reached_rel R block P Q IsSame refl (λ a b c d p q. omega arith) (OtherScan n) (InnerOf n j) (λ d m frees q. Places (OtherScan n) (InnerOf n j) NoMemo d q) Anyhow (λ d env v e. tt)
        (λ c h. off (nat_eq c.number n) 1 h) (λ m way i h outer. inner_same n j m way i outer (nat_eq i.number n) (nat_eq m j) refl refl h)
        (λ d m frees q h env z. ap (λ r. 0 + r) (reached_alike R block P Q d q env (same_at n j d q h))) 0 p [] tt only in
        let costs_same : sum_by (costs R block P (memos_of p)) (hits_in es) ≡ sum_by (costs R block Q (memos_of p)) (hits_in es) = ap (λ w. sum_by w (hits_in es)) (fun_ext (same_costs P Q (memos_of p) parts)) in
        let left = spent_and_spared t same exact capacity value p es ran (scan_at n) no_join in
        let right = spent_and_spared t same exact capacity value p es ran no_scan (join_at j (inner_starts block)) in
        omega (arith, times_spent n es, starts_spent j es ran.memos)

    -- ---- the outer rows of joins

    -- of every join: the outer numbers are among those of the meaning, each at most as often
    pub outers_most : (w : ℕ → JoinHow → ℕ → ℕ) → sum_by (λ e. w e.join e.way e.outer) (entries_in es) ≤ reached R block (prices no_scan w) p []
    outers_most w = omega (arith, entries_spent w es, spent_most t same exact capacity value p es ran no_scan w)

    -- of a join outside every memo they are those, each as often
    pub outers_outside : (j : ℕ) (u : JoinHow → ℕ → ℕ) → NoJoinInside j p → sum_by (λ e. join_at j u e.join e.way e.outer) (entries_in es) ≡ reached R block (prices no_scan (join_at j u)) p []
    outers_outside j u none =
        let P = prices no_scan (join_at j u) in
        let parts : AllByRecursion (λ m. (d : ℕ) × NoneAt block P d m.1.1) (memos_of p) =
        each_memo AnyScan AnyJoin (λ d m frees q. NoneAt block P d q) (λ d m frees q h. no_memos _ _ d q h) 0 p
        (places_with AnyScan AnyScan AnyScan AnyJoin AnyJoin AnyJoin (λ d m frees q. Places AnyScan (OtherJoin j) NoMemo d q) (λ d m frees q. Places AnyScan (OtherJoin j) NoMemo d q) (λ d m frees q. NoneAt block P d q)
        (λ c h g. tt) (λ m way i h g. tt)
        (λ d m frees q h g. places_with AnyScan AnyScan (λ c. P.scan c ≡ 0) (OtherJoin j) (OtherJoin j) (λ m way i. (outer : ℕ) → executed block P m way i outer ≡ 0) NoMemo NoMemo NoMemo
        (λ c h g. refl) (λ m way i h g outer. let z = off (nat_eq m j) (u way outer) h in rw z (omega arith)) (λ d m frees q h g. h) d q h h)
        0 p none none) in
        entries_spent (join_at j u) es ∙ spent_outside t same exact capacity value p es ran no_scan (join_at j u) (free_costs P (memos_of p) parts)
