-- What the counts of a run are, in whatever order it was drawn.
use Rattle.std.proofs.Common.{◌≡◌, ◌≤◌, ℕ, ◌+◌, Bool, List, [], ◌∷◌, length, refl, ap, ◌∙◌, arith}
use Rattle.std.specs.List.{sum_by}
use Rattle.std.specs.Set.{is_member, unique_keys, distinct_count}
use Rattle.std.proofs.lemmas.List.Sums.{sum_by-cons}
use Rattle.kl_value.specs.declared.Value.{Value}
use Rattle.kl_ask.specs.declared.settings.JoinHow.{JoinHow}
use Rattle.kl_plan.specs.declared.plan.Scan.{Scan}
use Rattle.kl_plan.specs.Nodes.{Node}
use Rattle.kl_plan.specs.Meaning.{Readings}
use Rattle.kl_lookups.specs.Lookups.{Exact, hit_by}
use Rattle.kl_lookups.proofs.Uniques.{members_weighed, sum_unique}
use Rattle.kl_lookups.proofs.Lookups.{sum_asked, sum_ample, sum_least}
use Rattle.kl_plan.specs.Subqueries.{Subquery, values_at}
use Rattle.kl_plan.specs.Prices.{Prices, executed, prices, at_keys}
use Rattle.kl_counts.specs.Places.{Places, AnyScan, AnyJoin, NoMemo, MemoFree}
use Rattle.kl_plan.specs.Reached.{reached}
use Rattle.kl_counts.specs.Visits.{keys}
use Rattle.kl_scans.specs.Log.{Event, started, handed, joined, missed, hit, paid}
use Rattle.kl_counts.specs.Log.{spared, spent, asked_in, hits_in, misses_in}
use Rattle.kl_counts.specs.Once.{costs}
use Rattle.kl_plan.specs.Parts.{memos_of}
use Rattle.kl_scans.specs.Stage.{Stage, readings}
use Rattle.kl_counts.specs.Ran.{HitMemos, Ran}
use Rattle.kl_counts.proofs.Visiting.{keys_weigh}
use Rattle.kl_counts.proofs.Pricing.{reached_rel}

-- ---- prices that are the same where something stands, and those that are nothing there

abbrev pub Anyhow : ℕ → List Value → Type 0
Anyhow d env = Unit {0}

abbrev pub NoneAt : ℕ → Prices → ℕ → Node → Type 0
NoneAt block P = Places (λ c. P.scan c ≡ 0) (λ n way i. (outer : ℕ) → executed block P n way i outer ≡ 0) NoMemo

abbrev pub SameAt : ℕ → Prices → Prices → ℕ → Node → Type 0
SameAt block P Q = Places (λ c. P.scan c ≡ Q.scan c) (λ n way i. (outer : ℕ) → executed block P n way i outer ≡ executed block Q n way i outer) NoMemo

abbrev pub IsNone : ℕ → ℕ → Type 0
IsNone a b = a ≡ 0

abbrev pub IsSame : ℕ → ℕ → Type 0
IsSame a b = a ≡ b

module _ (R : Readings) (block : ℕ) where
  pub reached_none : (P : Prices) (d : ℕ) (p : Node) (env : List Value) → NoneAt block P d p → reached R block P p env ≡ 0
  reached_none P d p env h =
      reached_rel R block P P IsNone refl (λ a b c d p q. omega arith) (λ c. P.scan c ≡ 0) (λ n way i. (outer : ℕ) → executed block P n way i outer ≡ 0) NoMemo Anyhow (λ d env v e. tt)
      (λ c h. h) (λ n way i h. h) (λ d n frees p h. absurd h) d p env tt h

  pub reached_alike : (P Q : Prices) (d : ℕ) (p : Node) (env : List Value) → SameAt block P Q d p → reached R block P p env ≡ reached R block Q p env
  reached_alike P Q d p env h =
      reached_rel R block P Q IsSame refl (λ a b c d p q. omega arith) (λ c. P.scan c ≡ Q.scan c) (λ n way i. (outer : ℕ) → executed block P n way i outer ≡ executed block Q n way i outer) NoMemo Anyhow (λ d env v e. tt)
      (λ c h. h) (λ n way i h. h) (λ d n frees p h. absurd h) d p env tt h

  -- where no memo is, there is no look-up
  pub keys_none : (w : Subquery → ℕ) (d : ℕ) (p : Node) (env : List Value) → MemoFree d p → reached R block (at_keys w) p env ≡ 0
  keys_none w d p env h =
      reached_rel R block (at_keys w) (at_keys w) IsNone refl (λ a b c d p q. omega arith) AnyScan AnyJoin NoMemo Anyhow (λ d env v e. tt)
      (λ c h. refl) (λ n way i h outer. omega arith) (λ d n frees p h. absurd h) d p env tt h

module _ (t : Stage) where
  abbrev R : Readings
  R = readings t

  abbrev block : ℕ
  block = t.block

  -- ---- what is done, and what of it was spared

  pub paid_split : (P : Prices) (es : List Event) → paid t P es ≡ spent P es + (sum_by (λ k. P.memo k.0 k.1) (asked_in es) + spared R block P es)
  paid_split P [] = omega arith
  paid_split P (started c ∷ es) = omega (arith, paid_split P es)
  paid_split P (handed c m ∷ es) = paid_split P es
  paid_split P (joined n way outer starts ∷ es) = omega (arith, paid_split P es)
  paid_split P (missed k v ∷ es) = omega (arith, paid_split P es, sum_by-cons (λ k. P.memo k.0 k.1) k (asked_in es))
  paid_split P (hit n frees q env ∷ es) = omega (arith, paid_split P es, sum_by-cons (λ k. P.memo k.0 k.1) (n, values_at env frees) (asked_in es))

  unasked : (ks : List Subquery) → sum_by (λ k. 0) ks ≡ 0
  unasked [] = refl
  unasked (k ∷ ks) = omega (arith, unasked ks, sum_by-cons (λ k. 0) k ks)

  unspent : (w : Subquery → ℕ) (es : List Event) → spent (at_keys w) es ≡ 0
  unspent w [] = refl
  unspent w (started c ∷ es) = omega (arith, unspent w es)
  unspent w (handed c m ∷ es) = unspent w es
  unspent w (joined n way outer starts ∷ es) = omega (arith, unspent w es)
  unspent w (missed k v ∷ es) = unspent w es
  unspent w (hit n frees q env ∷ es) = unspent w es

  module _ (p : Node) where
    spared_costs : (P : Prices) (es : List Event) → HitMemos R block p es → spared R block P es ≡ sum_by (costs R block P (memos_of p)) (hits_in es)
    spared_costs P [] h = refl
    spared_costs P (started c ∷ es) h = spared_costs P es h
    spared_costs P (handed c m ∷ es) h = spared_costs P es h
    spared_costs P (joined n way outer starts ∷ es) h = spared_costs P es h.1
    spared_costs P (missed k v ∷ es) h = spared_costs P es h
    spared_costs P (hit n frees q env ∷ es) h = omega (arith, spared_costs P es h.1, h.0.costs P, sum_by-cons (costs R block P (memos_of p)) (n, values_at env frees) (hits_in es))

    spared_none : (w : Subquery → ℕ) (es : List Event) → HitMemos R block p es → spared R block (at_keys w) es ≡ 0
    spared_none w [] h = refl
    spared_none w (started c ∷ es) h = spared_none w es h
    spared_none w (handed c m ∷ es) h = spared_none w es h
    spared_none w (joined n way outer starts ∷ es) h = spared_none w es h.1
    spared_none w (missed k v ∷ es) h = spared_none w es h
    spared_none w (hit n frees q env ∷ es) h = omega (arith, spared_none w es h.1, keys_none R block w h.0.depth q env h.0.free)

  ones : {X : Type 0} (xs : List X) → length xs ≡ sum_by (λ x. 1) xs
  ones [] = refl
  ones (x ∷ xs) = omega (arith, ones xs, sum_by-cons (λ x. 1) x xs)

  -- ---- a run

  module _ {V : Type 0} (same : Subquery → Subquery → Bool) (exact : Exact same) (capacity : ℕ) (value : Subquery → V) (p : Node) (es : List Event) (ran : Ran same capacity value t p es) where
    -- the look-ups are, in some order, those to which the meaning comes
    pub asked_keys : (w : Subquery → ℕ) → sum_by w (asked_in es) ≡ sum_by w (keys R p [])
    asked_keys w = omega (arith, ran.paid (at_keys w), paid_split (at_keys w) es, unspent w es, spared_none p w es ran.memos, keys_weigh block w R p [])

    pub hits_and_misses : (w : Subquery → ℕ) → sum_by w (hits_in es) + sum_by w (misses_in es) ≡ sum_by w (keys R p [])
    hits_and_misses w =
        ap (λ ks. sum_by w ks + sum_by w (misses_in es)) ran.hits ∙ ap (λ ks. sum_by w (hit_by same capacity value (asked_in es) []) + sum_by w ks) ran.misses
        ∙ sum_asked same capacity value w (asked_in es) [] ∙ asked_keys w

    -- 1. hits and misses together are as many as there are keys
    pub counts_look_ups : length (hits_in es) + length (misses_in es) ≡ length (keys R p [])
    counts_look_ups = omega (arith, hits_and_misses (λ k. 1), ones (hits_in es), ones (misses_in es), ones (keys R p []))

    same_keys : (q : Subquery) → is_member same (asked_in es) q ≡ is_member same (keys R p []) q
    same_keys = members_weighed same exact (asked_in es) (keys R p []) asked_keys

    -- 2. each different key missed at least once, and where there is room for all, once
    misses_least : (w : Subquery → ℕ) → sum_by w (unique_keys same (keys R p [])) ≤ sum_by w (misses_in es)
    misses_least w = omega (arith, sum_least same capacity value exact w (asked_in es), ap (sum_by w) ran.misses, sum_unique same exact w (asked_in es) (keys R p []) same_keys)

    pub counts_misses_least : distinct_count same (keys R p []) ≤ length (misses_in es)
    counts_misses_least = omega (arith, misses_least (λ k. 1), ones (misses_in es), ones (unique_keys same (keys R p [])))

    pub misses_ample : distinct_count same (keys R p []) ≤ capacity → (w : Subquery → ℕ) → sum_by w (misses_in es) ≡ sum_by w (unique_keys same (keys R p []))
    misses_ample room w =
        let count : distinct_count same (asked_in es) ≡ distinct_count same (keys R p []) = omega (arith, sum_unique same exact (λ k. 1) (asked_in es) (keys R p []) same_keys, ones (unique_keys same (asked_in es)), ones (unique_keys same (keys R p []))) in
        ap (sum_by w) ran.misses ∙ sum_ample same capacity value exact w (asked_in es) (omega arith) ∙ sum_unique same exact w (asked_in es) (keys R p []) same_keys

    pub counts_misses : distinct_count same (keys R p []) ≤ capacity → length (misses_in es) ≡ distinct_count same (keys R p [])
    counts_misses room = omega (arith, misses_ample room (λ k. 1), ones (misses_in es), ones (unique_keys same (keys R p [])))

    -- 3. what was started and executed, and what the look-ups that hit spared, is what the meaning comes to
    module _ (scan : Scan → ℕ) (join : ℕ → JoinHow → ℕ → ℕ) where
      pub spent_and_spared : spent (prices scan join) es + sum_by (costs R block (prices scan join) (memos_of p)) (hits_in es) ≡ reached R block (prices scan join) p []
      spent_and_spared = omega (arith, ran.paid (prices scan join), paid_split (prices scan join) es, spared_costs p (prices scan join) es ran.memos, unasked (asked_in es))

      -- so at most that is done
      pub spent_most : spent (prices scan join) es ≤ reached R block (prices scan join) p []
      spent_most = omega (arith, spent_and_spared)

      -- 4. outside every memo exactly that is done: what has a price stands in no memo
      pub spent_outside : ((k : Subquery) → costs R block (prices scan join) (memos_of p) k ≡ 0) → spent (prices scan join) es ≡ reached R block (prices scan join) p []
      spent_outside free = omega (arith, spent_and_spared, none (hits_in es))
        where
          none : (ks : List Subquery) → sum_by (costs R block (prices scan join) (memos_of p)) ks ≡ 0
          none [] = refl
          none (k ∷ ks) = omega (arith, none ks, free k, sum_by-cons (costs R block (prices scan join) (memos_of p)) k ks)

      -- 5. inside memos each miss does what the part comes to under its key: what has a price stands in memos alone
      pub spent_inside : reached R block (prices scan join) p [] ≡ sum_by (costs R block (prices scan join) (memos_of p)) (keys R p [])
          → spent (prices scan join) es ≡ sum_by (costs R block (prices scan join) (memos_of p)) (misses_in es)
      spent_inside all = omega (arith, spent_and_spared, hits_and_misses (costs R block (prices scan join) (memos_of p)))

      pub spent_once : distinct_count same (keys R p []) ≤ capacity → reached R block (prices scan join) p [] ≡ sum_by (costs R block (prices scan join) (memos_of p)) (keys R p [])
          → spent (prices scan join) es ≡ sum_by (costs R block (prices scan join) (memos_of p)) (unique_keys same (keys R p []))
      spent_once room all = spent_inside all ∙ misses_ample room (costs R block (prices scan join) (memos_of p))
