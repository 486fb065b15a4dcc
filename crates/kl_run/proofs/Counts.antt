-- What a trace shows of what was done.
use Rattle.std.proofs.Common.{◌≡◌, ℕ, zero, suc, ◌+◌, ◌-◌, ◌^◌, ◌<◌, ◌&&◌, Bool, true, false, List, [], ◌∷◌, ◌++◌, length, map, min, max, cond, nat_eq, Option, Some, None, slice_get, refl, sym, ap, ◌∙◌, subst, arith, append-nil, append_assoc}
use Rattle.std.specs.List.{AllByRecursion, Contains, sum_by}
use Rattle.std.specs.Option.{option_map}
use Rattle.std.proofs.lemmas.Option.{same_Some, slice_get_within}
use Rattle.kl_ask.specs.Asked.{raised_by, with_ask, same_ask}
use Rattle.kl_ask.specs.Driver.{State}
use Rattle.kl_ask.specs.Lists.{EachSteps}
use Rattle.kl_ask.specs.declared.ask.Ask.{Ask}
use Rattle.kl_ask.specs.declared.settings.JoinRun.{JoinRun}
use Rattle.kl_ask.proofs.Equal.{same_exactly}
use Rattle.kl_ask.proofs.Worlds.{there}
use Rattle.kl_plan.specs.Nodes.{Node}
use Rattle.kl_plan.specs.Numbers.{NumbersDiffer, scans_in}
use Rattle.kl_plan.specs.Parts.{parts_of}
use Rattle.kl_plan.specs.declared.plan.Scan.{Scan}
use Rattle.kl_joins.specs.Numbered.{AreNumbered, from}
use Rattle.kl_ship.proofs.Numbering.{numbered_within}
use Rattle.kl_scans.specs.Log.{Event, started, handed, joined, missed, hit, IsOf, StartsFit, times_after, asked_after, entries_after, peak_after, hits_after, misses_after, fullest, times_at, Logged}
use Rattle.kl_scans.specs.Running.{Running}
use Rattle.kl_counts.specs.Log.{Entry, entries_in, hits_in, misses_in, times_in}
use Rattle.kl_sources.specs.Attaching.{MayAttach}
use Rattle.kl_sources.specs.declared.source.Source.{Source}
use Rattle.kl_run.specs.Counted.{AsksCounted, IsExecution, IsFreshTrace, Shows, as_run, asks_it, count_in, greatest, raised, starts_asking, starts_of, times_of}
use Rattle.kl_run.proofs.Logs.{driver_asked}
use Rattle.kl_run.proofs.Raises.{raised_capped, raised_first, raised_new, raised_once}
use Rattle.kl_run.proofs.Sums.{numbers, starts_each, starts_in, sum_capped, sum_same}
use Rattle.kl_run.proofs.Traces.{entry, entry_of}

-- ---- after some events

times_raised : (n : ℕ) (es : List Event) (times : ℕ) → times_after n es times ≡ raised (times_in n es) times
times_raised n [] times = refl
times_raised n (started c ∷ es) times = times_raised n es (cond (nat_eq c.number n) (raised_by 1 times) times) ∙ raised_once (nat_eq c.number n) (times_in n es) times
times_raised n (handed c m ∷ es) times = times_raised n es times
times_raised n (joined m way outer starts ∷ es) times = times_raised n es times
times_raised n (missed k v ∷ es) times = times_raised n es times
times_raised n (hit m frees q env ∷ es) times = times_raised n es times

with_self : (ask : Ask) (asked : List (Ask × ℕ)) → times_of ask (with_ask ask asked) ≡ raised_by 1 (times_of ask asked)
with_self ask [] = let same : same_ask ask ask ≡ true = (same_exactly ask ask).1 refl in rw same refl
with_self ask (kept ∷ asked) = by (same_ask kept.0 ask) refl (with_self ask asked)
  where
    by : (b : Bool) → same_ask kept.0 ask ≡ b → times_of ask (with_ask ask asked) ≡ raised_by 1 (times_of ask asked)
        → times_of ask (cond b ((kept.0, raised_by 1 kept.1) ∷ asked) (kept ∷ with_ask ask asked)) ≡ raised_by 1 (cond b kept.1 (times_of ask asked))
    by true is rest = rw is refl
    by false is rest = rw is rest

with_other : (other ask : Ask) (asked : List (Ask × ℕ)) → same_ask other ask ≡ false → times_of ask (with_ask other asked) ≡ times_of ask asked
with_other other ask [] off = rw off refl
with_other other ask (kept ∷ asked) off = by (same_ask kept.0 other) refl (with_other other ask asked off)
  where
    by : (b : Bool) → same_ask kept.0 other ≡ b → times_of ask (with_ask other asked) ≡ times_of ask asked
        → times_of ask (cond b ((kept.0, raised_by 1 kept.1) ∷ asked) (kept ∷ with_ask other asked)) ≡ cond (same_ask kept.0 ask) kept.1 (times_of ask asked)
    by true is rest =
        let same : kept.0 ≡ other = (same_exactly kept.0 other).0 is in
        let none : same_ask kept.0 ask ≡ false = subst (λ x. same_ask x ask ≡ false) (sym same) off in
        rw none refl
    by false is rest = ap (cond (same_ask kept.0 ask) kept.1) rest

with_start : (d : ℕ) (ask : Ask) (c : Scan) (asked : List (Ask × ℕ))
    → times_of ask (cond (nat_eq c.driver d) (with_ask c.ask asked) asked) ≡ cond (asks_it d ask c) (raised_by 1 (times_of ask asked)) (times_of ask asked)
with_start d ask c asked = by (nat_eq c.driver d) (same_ask c.ask ask) refl
  where
    by : (x y : Bool) → same_ask c.ask ask ≡ y → times_of ask (cond x (with_ask c.ask asked) asked) ≡ cond (x && y) (raised_by 1 (times_of ask asked)) (times_of ask asked)
    by true true is =
        let same : c.ask ≡ ask = (same_exactly c.ask ask).0 is in
        subst (λ x. times_of ask (with_ask x asked) ≡ raised_by 1 (times_of ask asked)) (sym same) (with_self ask asked)
    by true false is = with_other c.ask ask asked is
    by false y is = refl

asked_raised : (d : ℕ) (ask : Ask) (es : List Event) (asked : List (Ask × ℕ)) → times_of ask (asked_after d es asked) ≡ raised (starts_in (asks_it d ask) es) (times_of ask asked)
asked_raised d ask [] asked = refl
asked_raised d ask (started c ∷ es) asked =
    asked_raised d ask es (cond (nat_eq c.driver d) (with_ask c.ask asked) asked) ∙ ap (raised (starts_in (asks_it d ask) es)) (with_start d ask c asked)
    ∙ raised_once (asks_it d ask c) (starts_in (asks_it d ask) es) (times_of ask asked)
asked_raised d ask (handed c m ∷ es) asked = asked_raised d ask es asked
asked_raised d ask (joined n way outer starts ∷ es) asked = asked_raised d ask es asked
asked_raised d ask (missed k v ∷ es) asked = asked_raised d ask es asked
asked_raised d ask (hit n frees q env ∷ es) asked = asked_raised d ask es asked

-- ---- joins and look-ups

entries_raised : (es : List Event) (joins : List JoinRun) → entries_after es joins ≡ joins ++ map as_run (entries_in es)
entries_raised [] joins = sym (append-nil joins)
entries_raised (started c ∷ es) joins = entries_raised es joins
entries_raised (handed c m ∷ es) joins = entries_raised es joins
entries_raised (joined n way outer starts ∷ es) joins =
    let e : Entry = record { join = n; way = way; outer = outer; starts = starts } in
    entries_raised es (joins ++ as_run e ∷ []) ∙ append_assoc joins (as_run e ∷ []) (map as_run (entries_in es))
entries_raised (missed k v ∷ es) joins = entries_raised es joins
entries_raised (hit n frees q env ∷ es) joins = entries_raised es joins

peak_raised : (block : ℕ) (es : List Event) (peak : ℕ) → peak_after block es peak ≡ max peak (greatest block (entries_in es))
peak_raised block [] peak = omega arith
peak_raised block (started c ∷ es) peak = peak_raised block es peak
peak_raised block (handed c m ∷ es) peak = peak_raised block es peak
peak_raised block (joined n way outer starts ∷ es) peak =
    let h = peak_raised block es (max peak (fullest block way outer)) in
    let e : max (max peak (fullest block way outer)) (greatest block (entries_in es)) ≡ max peak (max (fullest block way outer) (greatest block (entries_in es))) = omega arith in
    h ∙ e
peak_raised block (missed k v ∷ es) peak = peak_raised block es peak
peak_raised block (hit n frees q env ∷ es) peak = peak_raised block es peak

hits_raised : (es : List Event) (hits : ℕ) → hits_after es hits ≡ raised (length (hits_in es)) hits
hits_raised [] hits = refl
hits_raised (started c ∷ es) hits = hits_raised es hits
hits_raised (handed c m ∷ es) hits = hits_raised es hits
hits_raised (joined n way outer starts ∷ es) hits = hits_raised es hits
hits_raised (missed k v ∷ es) hits = hits_raised es hits
hits_raised (hit n frees q env ∷ es) hits = hits_raised es (raised_by 1 hits) ∙ raised_first (length (hits_in es)) hits

misses_raised : (es : List Event) (misses : ℕ) → misses_after es misses ≡ raised (length (misses_in es)) misses
misses_raised [] misses = refl
misses_raised (started c ∷ es) misses = misses_raised es misses
misses_raised (handed c m ∷ es) misses = misses_raised es misses
misses_raised (joined n way outer starts ∷ es) misses = misses_raised es misses
misses_raised (missed k v ∷ es) misses = misses_raised es (raised_by 1 misses) ∙ raised_first (length (misses_in es)) misses
misses_raised (hit n frees q env ∷ es) misses = misses_raised es misses

-- the joins in a log are the plan's, and started what they have to
executed : (block : ℕ) (p : Node) (es : List Event) → AllByRecursion (IsOf (parts_of p)) es → AllByRecursion (StartsFit block) es → AllByRecursion (IsExecution block p) (entries_in es)
executed block p [] own fit = tt
executed block p (started c ∷ es) own fit = executed block p es own.1 fit.1
executed block p (handed c m ∷ es) own fit = executed block p es own.1 fit.1
executed block p (joined n way outer starts ∷ es) own fit = ((own.0, fit.0), executed block p es own.1 fit.1)
executed block p (missed k v ∷ es) own fit = executed block p es own.1 fit.1
executed block p (hit n frees q env ∷ es) own fit = executed block p es own.1 fit.1

-- ---- of the scans of a plan

counted_in : (o : Option (ℕ × ℕ)) (times : ℕ) → option_map (λ e. e.1) o ≡ Some times → count_in o ≡ times
counted_in (Some e) times is = same_Some _ _ is
counted_in None times is = absurd cc

-- a scan of those that are numbered from n on stands at the place of its number
numbered_at : (cs : List Scan) (n : ℕ) → numbers cs ≡ from n (length cs) → (i : ℕ) → i < length cs → slice_get (map entry_of cs) i ≡ Some (entry (n + i))
numbered_at [] n e i lt = absurd (omega arith)
numbered_at (c ∷ cs) n e zero lt =
    let first : c.number ≡ n = cc in
    let same : n ≡ n + 0 = omega arith in
    ap (λ k. Some (entry k)) (first ∙ same)
numbered_at (c ∷ cs) n e (suc i) lt =
    let rest : numbers cs ≡ from (suc n) (length cs) = cc in
    let same : suc n + i ≡ n + suc i = omega arith in
    numbered_at cs (suc n) rest i (omega arith) ∙ ap (λ k. Some (entry k)) same

module _ (p : Node) (numbered : AreNumbered p) (apart : NumbersDiffer p) where
  -- at the start nothing is counted of a scan
  fresh_at : (c : Scan) → Contains (scans_in p) c → slice_get (map entry_of (scans_in p)) c.number ≡ Some (entry_of c)
  fresh_at c i =
      let below = numbered_within p numbered c i in
      let same : 0 + c.number ≡ c.number = omega arith in
      numbered_at (scans_in p) 0 numbered.scans c.number below ∙ ap (λ k. Some (entry k)) same

  module _ (steps : ℕ) (es : List Event) (a b : Running) (log : Logged es a b) (own : AllByRecursion (IsOf (parts_of p)) es) (fresh : IsFreshTrace p steps a.trace) where
    starts_at : (c : Scan) → Contains (scans_in p) c → starts_of b.trace.starts c.number ≡ min (times_in c.number es) (2 ^ 64 - 1)
    starts_at c i =
        let was : times_at a c.number ≡ Some 0 = ap (λ (starts : List (ℕ × ℕ)). option_map (λ e. e.1) (slice_get starts c.number)) fresh.starts ∙ ap (option_map (λ e. e.1)) (fresh_at c i) in
        let is : times_at b c.number ≡ Some (times_after c.number es 0) = log.starts c.number ∙ ap (option_map (times_after c.number es)) was in
        counted_in (slice_get b.trace.starts c.number) (times_after c.number es 0) is ∙ times_raised c.number es 0 ∙ raised_new (times_in c.number es)

    starts_asked : (d : ℕ) (ask : Ask) (count : ℕ) → raised (starts_in (asks_it d ask) es) count ≡ raised (starts_asking d ask (scans_in p) b.trace.starts) count
    starts_asked d ask count =
        let each : starts_in (asks_it d ask) es ≡ sum_by (λ c. cond (asks_it d ask c) (times_in c.number es) 0) (scans_in p) = starts_each (asks_it d ask) (parts_of p) apart.scans es own in
        let capped = sum_capped (asks_it d ask) (λ c. times_in c.number es) (scans_in p) in
        let same : starts_asking d ask (scans_in p) b.trace.starts ≡ sum_by (λ c. cond (asks_it d ask c) (min (times_in c.number es) (2 ^ 64 - 1)) 0) (scans_in p) =
        sum_same _ _ (scans_in p) (λ c i. ap (λ n. cond (asks_it d ask c) n 0) (starts_at c i)) in
        ap (λ n. raised n count) each ∙ raised_capped _ _ count (sym capped) ∙ sym (ap (λ n. raised n count) same)

    -- each driver was asked each ask as often as the scans that ask it were started
    pub asks_counted : AsksCounted p b.trace.starts a.drivers b.drivers
    asks_counted d x y ask was is =
        ap (times_of ask) (driver_asked es a b log d x y was is) ∙ asked_raised d ask es x.asked ∙ starts_asked d ask (times_of ask x.asked)

    -- all that was done is shown
    pub shows : Shows a.settings.block p es b.trace
    shows = record {
      numbers = log.numbers ∙ ap (map (λ e. e.0)) fresh.starts ∙ numbers_of (scans_in p);
      starts = starts_at;
      executions = executed a.settings.block p es own log.executed;
      joins = log.joins ∙ ap (entries_after es) fresh.joins ∙ entries_raised es [];
      peak = log.peak ∙ ap (peak_after a.settings.block es) fresh.peak ∙ peak_raised a.settings.block es 0 ∙ from_none (greatest a.settings.block (entries_in es));
      hits = log.hits ∙ ap (hits_after es) fresh.hits ∙ hits_raised es 0 ∙ raised_new (length (hits_in es));
      misses = log.misses ∙ ap (misses_after es) fresh.misses ∙ misses_raised es 0 ∙ raised_new (length (misses_in es));
    }
      where
        from_none : (n : ℕ) → max 0 n ≡ n
        from_none n = omega arith

        numbers_of : (cs : List Scan) → map (λ e. e.0) (map entry_of cs) ≡ map (λ c. c.number) cs
        numbers_of [] = refl
        numbers_of (c ∷ cs) = ap (λ ns. c.number ∷ ns) (numbers_of cs)

-- the same over drivers that were asked nothing more since
pub asks_since : (p : Node) (starts : List (ℕ × ℕ)) (ds mid last : List State) → length mid ≡ length ds → ((i : ℕ) (x z : State) → slice_get ds i ≡ Some x → slice_get mid i ≡ Some z → z.asked ≡ x.asked)
    → AsksCounted p starts mid last → AsksCounted p starts ds last
asks_since p starts ds mid last size same counted d x y ask was is =
    let z = there mid d (omega (arith, slice_get_within ds d x was, size)) in
    counted d z.0 y ask z.1 is ∙ ap (λ asked. raised (starts_asking d ask (scans_in p) starts) (times_of ask asked)) (same d x z.0 was z.1)

pub asks_attached : (marks : ℕ → Bool) (sources : List Source) (p : Node) (starts : List (ℕ × ℕ)) (ds mid last : List State) → EachSteps (MayAttach marks sources) ds mid
    → AsksCounted p starts mid last → AsksCounted p starts ds last
asks_attached marks sources p starts ds mid last steps counted = asks_since p starts ds mid last steps.size (λ i x z was is. (steps.each i x z was is).asked) counted
