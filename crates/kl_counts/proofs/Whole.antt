-- The counts of a run of which all is known, and of the machine's.
use Rattle.std.proofs.Common.{◌≡◌, ⊎_elim, inl, inr, ◌<◌, ℕ, zero, suc, Bool, true, false, List, [], ◌∷◌, ◌++◌, cond, map, nat_eq, length, refl, sym, ap, subst, ◌∙◌, arith}
use Rattle.std.specs.List.{list_any, AllByRecursion, Contains, IsDistinct}
use Rattle.kl_value.specs.declared.Value.{Value}
use Rattle.kl_type.specs.Ground.{Ground}
use Rattle.kl_lookups.specs.Lookups.{Exact, has, moved_up, kept_with, hit_by, missed_by}
use Rattle.kl_lookups.proofs.Lookups.{moved_none}
use Rattle.kl_lookups.proofs.Mapped.{has_mapped, moved_mapped, kept_mapped}
use Rattle.kl_plan.specs.declared.plan.Scan.{Scan}
use Rattle.kl_plan.specs.Meaning.{Readings}
use Rattle.kl_plan.specs.Nodes.{Node}
use Rattle.kl_plan.specs.Numbers.{NumbersDiffer}
use Rattle.kl_plan.specs.Occurs.{occurs}
use Rattle.kl_plan.specs.Parts.{memos_of, parts_of}
use Rattle.kl_plan.specs.Prices.{Prices, inner_starts}
use Rattle.kl_plan.specs.Reached.{reached}
use Rattle.kl_plan.specs.Subqueries.{Memo, Subquery, values_at}
use Rattle.kl_plan.specs.Typing.{PlanTypes}
use Rattle.kl_plan.proofs.Holding.{memo_numbers}
use Rattle.kl_scans.specs.Log.{Event, started, handed, joined, missed, hit, IsOf, paid, Leaves, StartsFit}
use Rattle.kl_scans.specs.Same.{same_subquery}
use Rattle.kl_scans.specs.Stage.{Stage, readings}
use Rattle.kl_scans.proofs.Kept.{subqueries_exact}
use Rattle.kl_counts.specs.Counts.{Within, Regular, Counts}
use Rattle.kl_counts.specs.Free.{Rise, AreFree}
use Rattle.kl_counts.specs.Log.{asked_in, hits_in, misses_in, entries_in}
use Rattle.kl_counts.specs.Machine.{run}
use Rattle.kl_counts.specs.Once.{at_scan, OtherInner, AnyMemo}
use Rattle.kl_counts.specs.Places.{Places, AnyScan, AnyJoin, NoMemo, MemoFree}
use Rattle.kl_counts.specs.Ran.{WasMemo, HitMemos, Ran}
use Rattle.kl_counts.specs.Standing.{Place, alone, outside, inside}
use Rattle.kl_counts.specs.Visits.{Visit, reads, joins, asks, visits, environments_in, inner_in}
use Rattle.kl_counts.proofs.Counting.{counts_look_ups, counts_misses, counts_misses_least}
use Rattle.kl_counts.proofs.Differing.{none_inside, none_outside, only_inner, no_join_inside, inner_other}
use Rattle.kl_counts.proofs.Final.{times_most, times_outside, times_once, times_inner, outers_most, outers_outside}
use Rattle.kl_counts.proofs.Regular.{In, places_with, each_memo, no_memos, found, costed}
use Rattle.kl_counts.proofs.Running.{run_known}
use Rattle.kl_counts.proofs.Same.{under_key_at}
use Rattle.kl_counts.proofs.Scoped.{Alone, memos_alone}
use Rattle.kl_counts.proofs.Visited.{Stood, visited}
use Rattle.kl_counts.proofs.Visiting.{outers_weigh, starts_weigh}

-- executions of joins with other inner scans start none of the number
no_inner : (R : Readings) (block n : ℕ) (vs : List Visit) → AllByRecursion (Stood R AnyScan (OtherInner n) AnyMemo) vs → inner_in block n vs ≡ 0
no_inner R block n [] h = refl
no_inner R block n (asks k ∷ vs) h = no_inner R block n vs h.1
no_inner R block n (reads c env ∷ vs) h = no_inner R block n vs h.1
no_inner R block n (joins m way i outer ∷ vs) h = let z : cond {A = ℕ} (nat_eq i.number n) (inner_starts block way outer) 0 ≡ 0 = ap (λ b. cond b (inner_starts block way outer) 0) h.0 in omega (arith, no_inner R block n vs h.1)

entries_right : (R : Readings) (block : ℕ) (p : Node) (es : List Event) → HitMemos R block p es → AllByRecursion (λ e. e.starts ≡ inner_starts block e.way e.outer) (entries_in es)
entries_right R block p [] h = tt
entries_right R block p (started c ∷ es) h = entries_right R block p es h
entries_right R block p (handed c m ∷ es) h = entries_right R block p es h
entries_right R block p (joined n way outer starts ∷ es) h = (h.0, entries_right R block p es h.1)
entries_right R block p (missed k v ∷ es) h = entries_right R block p es h
entries_right R block p (hit n frees q env ∷ es) h = entries_right R block p es h.1

numbers_apart : (p : Node) → Regular p → IsDistinct nat_eq (map (λ m. m.0) (memos_of p))
numbers_apart p g = subst (IsDistinct nat_eq) (sym (memo_numbers p)) g.numbers.memos

-- ---- what hit, by what is known where it hit

-- of the memo of a plan: its free positions and no memo in its part
record Proper (m : Memo) : Type 0 where
  depth : ℕ
  free : MemoFree depth m.1.1
  rising : Rise 0 m.1.0
  listed : (x : ℕ) → occurs x m.1.1 ≡ true → list_any (nat_eq x) m.1.0 ≡ true

proper_in : (ms : List Memo) (m : Memo) → AllByRecursion (λ m. (d : ℕ) × Alone d m.0 m.1.0 m.1.1) ms → In m ms → Proper m
proper_in [] m h i = absurd i
proper_in (x ∷ xs) m h i = ⊎_elim (λ e. subst Proper (sym e) (record { depth = h.0.0; free = h.0.1.0; rising = h.0.1.1.rising; listed = h.0.1.1.listed })) (proper_in xs m h.1) i

-- A memo of the plan hit where each of its free positions has a value: what that spares is what its key costs.
hit_known : (R : Readings) (block : ℕ) (p : Node) → Regular p → (n : ℕ) (frees : List ℕ) (q : Node) (env : List Value) → In ((n, (frees, q))) (memos_of p)
    → AllByRecursion (λ x. x < length env) frees → WasMemo R block p n frees q env
hit_known R block p good n frees q env i bound =
    let places : Places AnyScan AnyJoin Alone 0 p =
    places_with AnyScan AnyScan AnyScan AnyJoin AnyJoin AnyJoin (λ d n frees q. MemoFree d q) (λ d n frees q. AreFree d frees q) Alone
    (λ c h g. tt) (λ n way i h g. tt) (λ d n frees q h g. (h, g)) 0 p good.apart good.frees in
    let m = proper_in (memos_of p) ((n, (frees, q))) (each_memo AnyScan AnyJoin Alone (λ d n frees q h. no_memos AnyScan AnyJoin d q h.0) 0 p places) i in
    record {
      depth = m.depth;
      free = m.free;
      costs = λ P. under_key_at R block P m.depth frees q env m.rising m.listed m.free bound
          ∙ sym (found R block P (memos_of p) ((n, (frees, q))) (values_at env frees) (numbers_apart p good) i);
    }

in_list : (ms : List Memo) (m : Memo) → Contains ms m → In m ms
in_list [] m c = absurd (omega (arith, c.1))
in_list (x ∷ ms) m (zero, lt, is) = inl (sym is)
in_list (x ∷ ms) m (suc i, lt, is) = inr (in_list ms m (i, omega (arith, lt), is))

-- what hit is listed, and covers its free positions
hits_known : (R : Readings) (block : ℕ) (p : Node) → Regular p → (es : List Event) → AllByRecursion (IsOf (parts_of p)) es → AllByRecursion (StartsFit block) es → HitMemos R block p es
hits_known R block p good [] of fit = tt
hits_known R block p good (started c ∷ es) of fit = hits_known R block p good es of.1 fit.1
hits_known R block p good (handed c m ∷ es) of fit = hits_known R block p good es of.1 fit.1
hits_known R block p good (joined n way outer starts ∷ es) of fit = (fit.0, hits_known R block p good es of.1 fit.1)
hits_known R block p good (missed k v ∷ es) of fit = hits_known R block p good es of.1 fit.1
hits_known R block p good (hit n frees q env ∷ es) of fit =
    (hit_known R block p good n frees q env (in_list (memos_of p) (n, (frees, q)) of.0.0) of.0.1, hits_known R block p good es of.1 fit.1)

module _ {V : Type 0} (same : Subquery → Subquery → Bool) (exact : Exact same) (capacity : ℕ) (value : Subquery → V) (t : Stage) (p : Node) (good : Regular p) where
  abbrev R : Readings
  R = readings t

  abbrev block : ℕ
  block = t.block

  -- a scan by itself is reached once for each environment
  environments : (c : Scan) → Within (alone c) (outside p ++ inside p) → reached R block (at_scan c.number) p [] ≡ length (environments_in c.number (visits R p []))
  environments c h =
      let places = inner_other p good.apart good.numbers c h in
      let none : inner_in block c.number (visits R p []) ≡ 0 =
      no_inner R block c.number (visits R p [])
      (visited R AnyScan (OtherInner c.number) (λ d m fs q. Places AnyScan (OtherInner c.number) NoMemo d q)
      (λ d n fs q g env. visited R AnyScan (OtherInner c.number) NoMemo (λ d n fs q g env. absurd g) d q env g) 0 p [] places) in
      omega (arith, starts_weigh block c.number R p [])

  pub counts : (es : List Event) → Ran same capacity value t p es → Counts same capacity R block p es
  counts es ran = record {
    look_ups = counts_look_ups t same exact capacity value p es ran;
    misses_least = counts_misses_least t same exact capacity value p es ran;
    misses = counts_misses t same exact capacity value p es ran;
    outside_memos = λ c h. times_outside t p same exact capacity value es ran c.number (none_inside p good.apart good.numbers (alone c) h) ∙ environments c (in_front (alone c) (outside p) (inside p) h);
    in_memos = λ c h. omega (arith, times_most t p same exact capacity value es ran c.number, environments c (in_back (alone c) (outside p) (inside p) h));
    once_in_memos = λ c h room. times_once t p same exact capacity value es ran c.number (costed R block p good.apart good.frees (numbers_apart p good)) (none_outside p good.apart good.numbers (alone c) h) room;
    inner_scans = λ j way i h. times_inner t p same exact capacity value es ran i.number j (only_inner p good.apart good.numbers j way i h);
    starts = entries_right R block p es ran.memos;
    outers = λ j way i h u. outers_outside t p same exact capacity value es ran j (λ way outer. u outer) (no_join_inside p good.apart good.numbers j way i h) ∙ outers_weigh block j u R p [];
    outers_most = λ j u. omega (arith, outers_most t p same exact capacity value es ran (λ m way outer. cond (nat_eq m j) (u outer) 0), outers_weigh block j u R p []);
  }
    where
      in_front : (x : Place) (xs ys : List Place) → Within x xs → Within x (xs ++ ys)
      in_front x [] ys i = absurd i
      in_front x (y ∷ xs) ys i = ⊎_elim (λ e. inl e) (λ k. inr (in_front x xs ys k)) i

      in_back : (x : Place) (xs ys : List Place) → Within x ys → Within x (xs ++ ys)
      in_back x [] ys i = i
      in_back x (y ∷ xs) ys i = inr (in_back x xs ys i)

-- The machine's run has these counts.
pub machine_counts : (same : Subquery → Subquery → Bool) → Exact same → (capacity : ℕ) (value : Subquery → Value) (t : Stage) (p : Node) → Regular p
    → Counts same capacity (readings t) t.block p (run same capacity value (readings t) t.block p [] []).0
machine_counts same exact capacity value t p good =
    counts same exact capacity value t p good (run same capacity value (readings t) t.block p [] []).0 (run_known same capacity value t p good.apart good.frees (numbers_apart p good))

-- ---- a run, from what is known of its events

-- plans that make sense and whose numbers differ
regular : (Of : Scan → Ground → Type 0) (Listed : ℕ → List ℕ → Node → Type 0) (p : Node) (s : Ground) → PlanTypes Of Listed [] p s → NumbersDiffer p → Regular p
regular Of Listed p s typed differ =
    let places : Places AnyScan AnyJoin Alone 0 p = memos_alone Of Listed p [] s typed in
    record {
      apart = places_with AnyScan AnyScan AnyScan AnyJoin AnyJoin AnyJoin Alone Alone (λ d n frees q. MemoFree d q) (λ c h g. tt) (λ n way i h g. tt) (λ d n frees q h g. h.0) 0 p places places;
      frees = places_with AnyScan AnyScan AnyScan AnyJoin AnyJoin AnyJoin Alone Alone (λ d n frees q. AreFree d frees q) (λ c h g. tt) (λ n way i h g. tt) (λ d n frees q h g. h.1) 0 p places places;
      numbers = differ;
    }

-- Which look-ups hit does not depend on the values that are kept.
abbrev bare : List (Subquery × Value) → List (Subquery × Unit {0})
bare es = map (λ e. (e.0, tt)) es

abbrev no_value : Subquery → Unit {0}
no_value k = tt

module _ (room : ℕ) where
  record InTurn (es : List Event) (m : List (Subquery × Value)) : Type 0 where
    hits : hits_in es ≡ hit_by same_subquery room no_value (asked_in es) (bare m)
    misses : misses_in es ≡ missed_by same_subquery room no_value (asked_in es) (bare m)

  in_turn : (es : List Event) (m l : List (Subquery × Value)) → Leaves room es m l → InTurn es m
  in_turn [] m l h = record { hits = refl; misses = refl }
  in_turn (started c ∷ es) m l h = let r = in_turn es m l h in record { hits = r.hits; misses = r.misses }
  in_turn (handed c n ∷ es) m l h = let r = in_turn es m l h in record { hits = r.hits; misses = r.misses }
  in_turn (joined n way outer starts ∷ es) m l h = let r = in_turn es m l h in record { hits = r.hits; misses = r.misses }
  in_turn (missed k v ∷ es) m l h =
      let none : has same_subquery k (bare m) ≡ false = has_mapped same_subquery same_subquery (λ k. k) (λ v. tt) (λ a b. refl) k m ∙ h.0 in
      let next : kept_with same_subquery room k tt (moved_up same_subquery k (bare m)) ≡ bare (kept_with same_subquery room k v m) =
      ap (kept_with same_subquery room k tt) (moved_none same_subquery k (bare m) none) ∙ kept_mapped same_subquery same_subquery (λ k. k) (λ v. tt) (λ a b. refl) room k v m in
      let r = in_turn es (kept_with same_subquery room k v m) l h.1 in
      record {
        hits = r.hits ∙ rw none (ap (hit_by same_subquery room no_value (asked_in es)) (sym next));
        misses = ap (λ ks. k ∷ ks) r.misses ∙ rw none (ap (λ x. k ∷ missed_by same_subquery room no_value (asked_in es) x) (sym next));
      }
  in_turn (hit n frees p env ∷ es) m l h =
      let found : has same_subquery (n, values_at env frees) (bare m) ≡ true = has_mapped same_subquery same_subquery (λ k. k) (λ v. tt) (λ a b. refl) (n, values_at env frees) m ∙ h.0 in
      let next : moved_up same_subquery (n, values_at env frees) (bare m) ≡ bare (moved_up same_subquery (n, values_at env frees) m) =
      moved_mapped same_subquery same_subquery (λ k. k) (λ v. tt) (λ a b. refl) (n, values_at env frees) m in
      let r = in_turn es (moved_up same_subquery (n, values_at env frees) m) l h.1 in
      record {
        hits = ap (λ ks. (n, values_at env frees) ∷ ks) r.hits ∙ rw found (ap (λ x. (n, values_at env frees) ∷ hit_by same_subquery room no_value (asked_in es) x) (sym next));
        misses = r.misses ∙ rw found (ap (missed_by same_subquery room no_value (asked_in es)) (sym next));
      }

-- The law of counts: of a whole run that ended well, over a cache that was empty, in whatever order its items were drawn.
pub whole_counts : (Of : Scan → Ground → Type 0) (Listed : ℕ → List ℕ → Node → Type 0) (t : Stage) (p : Node) (s : Ground) (es : List Event) (room : ℕ)
    (kept : List (Subquery × Value)) → PlanTypes Of Listed [] p s → NumbersDiffer p
    → ((P : Prices) → paid t P es ≡ reached (readings t) t.block P p [])
    → AllByRecursion (IsOf (parts_of p)) es → AllByRecursion (StartsFit t.block) es → Leaves room es [] kept
    → Counts same_subquery room (readings t) t.block p es
whole_counts Of Listed t p s es room kept typed differ pays of fit leaves =
    let good = regular Of Listed p s typed differ in
    let turns = in_turn room es [] kept leaves in
    counts same_subquery subqueries_exact room no_value t p good es
    (record { paid = pays; hits = turns.hits; misses = turns.misses; memos = hits_known (readings t) t.block p good es of fit })
