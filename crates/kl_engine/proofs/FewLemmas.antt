-- How few rows were handed to a loop over one scan by when its items are out.
use Rattle.std.proofs.Common.{◌≡◌, ◌<◌, ◌≤◌, ℕ, zero, suc, ◌+◌, ◌*◌, inl, length, nat_lt, Bool, true, false, List, [], ◌∷◌, ◌++◌, take, Some, Result, Ok, codes, refl, sym, ap, subst, ◌∙◌, arith, append-nil}
use Rattle.std.proofs.lemmas.Bool.Decides.{nat_tests}
use Rattle.std.proofs.lemmas.Option.{same_Some}
use Rattle.std.specs.Io.KnownBytes.{append_known}
use Rattle.kl_outside.specs.Sinks.{SinkState, WritesWhole}
use Rattle.kl_outside.specs.declared.stop.Stop.{Stop}
use Rattle.kl_outside.proofs.SinkLemmas.{append_known-append, append_known-nil}
use Rattle.kl_exchange.specs.Printing.{Puts}
use Rattle.kl_value.specs.declared.Value.{Value}
use Rattle.kl_outcome.specs.Outcome.{Name, End, flow, items_in}
use Rattle.kl_outcome.proofs.Flows.{flow_items}
use Rattle.kl_ask.specs.declared.ask.DriverError.{DriverError}
use Rattle.kl_ask.specs.declared.ask.DriverError.TheVariants as driver
use Rattle.kl_plan.specs.Meaning.{coming, plan}
use Rattle.kl_plan.specs.Nodes.{Node}
use Rattle.kl_plan.specs.declared.plan.Scan.{Scan}
use Rattle.kl_scans.specs.Held.{Uses}
use Rattle.kl_scans.specs.Log.{Logged}
use Rattle.kl_scans.specs.Moves.{Closes}
use Rattle.kl_scans.specs.Running.{Running}
use Rattle.kl_scans.proofs.Moving.{logged_then}
use Rattle.kl_cursor.specs.Laziness.{ByTimes, Frugal, Handed, items_at}
use Rattle.kl_cursor.specs.Left.{reading}
use Rattle.kl_cursor.specs.Pulling.{Silent}
use Rattle.kl_cursor.specs.Sense.{IsToldAt}
use Rattle.kl_cursor.proofs.Handing.{handed_none}
use Rattle.kl_cursor.proofs.Quietly.{closes_silent}
use Rattle.kl_engine.specs.Planned.{HandsWritten, IsLine, LacksItem}
use Rattle.kl_engine.specs.Running.{HasList, TookMore, fault_of}
use Rattle.kl_engine.specs.Verdict.{list_front}
use Rattle.kl_engine.specs.declared.fault.Fault.{Fault}
use Rattle.kl_engine.specs.declared.fault.Fault.TheVariants as fault
use Rattle.kl_engine.proofs.PutLemmas.{front_more}

-- ---- first items

take_within : (n : ℕ) (xs ys : List Value) → n ≤ length xs → take n (xs ++ ys) ≡ take n xs
take_within zero xs ys h = refl
take_within (suc n) [] ys h = absurd (omega (arith, h))
take_within (suc n) (x ∷ xs) ys h = ap (λ vs. x ∷ vs) (take_within n xs ys (omega (arith, h)))

take_parts : (k n : ℕ) (xs : List Value) → k ≤ n → (rest : List Value) × (take n xs ≡ take k xs ++ rest)
take_parts zero n xs h = (take n xs, refl)
take_parts (suc k) zero xs h = absurd (omega (arith, h))
take_parts (suc k) (suc n) [] h = ([], refl)
take_parts (suc k) (suc n) (x ∷ xs) h = let r = take_parts k n xs (omega (arith, h)) in (r.0, ap (λ vs. x ∷ vs) r.1)

bytes_both : (xs ys : List ℕ) → length (xs ++ ys) ≡ length xs + length ys
bytes_both [] ys = omega arith
bytes_both (x ∷ xs) ys = let h = bytes_both xs ys in omega (arith, h)

-- the text of fewer first items is no longer
front_grows : (k n : ℕ) (vs : List Value) → k ≤ n → length (list_front (take k vs)) ≤ length (list_front (take n vs))
front_grows k n vs h =
    let r = take_parts k n vs h in
    let f = front_more (take k vs) r.0 in
    let e : length (list_front (take n vs)) ≡ length (list_front (take k vs)) + length f.0 = ap (λ us. length (list_front us)) r.1 ∙ ap length f.1 ∙ bytes_both (list_front (take k vs)) f.0 in
    omega (arith, e)

-- ---- what is out

-- a sink has the text of so many first items
abbrev pub IsOut : List Value → ℕ → SinkState → SinkState → Type 0
IsOut given n front out = 0 < n → (done : List ℕ) × (out.taken ≡ append_known front.taken done) × (length (list_front (take n given)) ≤ length done)

pub took_then : (a b c : SinkState) → TookMore a b → TookMore b c → TookMore a c
took_then a b c f g = (f.0 ++ g.0, g.1 ∙ ap (λ o. append_known o g.0) f.1 ∙ append_known-append a.taken f.0 g.0)

pub out_none : (given : List Value) (front out : SinkState) → IsOut given 0 front out
out_none given front out = λ some. absurd (omega (arith, some))

pub out_grows : (given : List Value) (n : ℕ) (front out out' : SinkState) → IsOut given n front out → TookMore out out' → IsOut given n front out'
out_grows given n front out out' h g = λ some.
    let d = h some in
    let e = bytes_both d.0 g.0 in
    let l = d.2 in
    (d.0 ++ g.0, g.1 ∙ ap (λ o. append_known o g.0) d.1 ∙ append_known-append front.taken d.0 g.0, omega (arith, e, l))

pub out_more : (given rest : List Value) (n : ℕ) (front out : SinkState) → n ≤ length given → IsOut given n front out → IsOut (given ++ rest) n front out
out_more given rest n front out within h = λ some. let d = h some in (d.0, d.1, subst (λ vs. length (list_front vs) ≤ length d.0) (sym (take_within n given rest within)) d.2)

-- all that was put is out where the page is empty
pub out_all : (given : List Value) (front out : SinkState) (page : List ℕ) → page ≡ [] → Puts {T = Unit {0}} (list_front given) (Ok tt) front [] out page → IsOut given (length given) front out
out_all given front out page none puts = λ some.
    let rest : puts.rest ≡ [] = puts.holds ∙ none in
    let all : list_front given ≡ puts.done = puts.all ∙ ap (λ bs. puts.done ++ bs) rest ∙ append-nil puts.done in
    let size : length (list_front (take (length given) given)) ≡ length puts.done = ap (λ vs. length (list_front vs)) (take_itself given) ∙ ap length all in
    (puts.done, puts.took, omega (arith, size))
  where
    take_itself : (vs : List Value) → take (length vs) vs ≡ vs
    take_itself [] = refl
    take_itself (v ∷ vs) = ap (λ us. v ∷ us) (take_itself vs)

-- what lacks an item has only items before it out
pub out_before : (given rest vs : List Value) (n k : ℕ) (front out : SinkState) → vs ≡ given ++ rest → n ≤ length given → 0 < k → IsOut given n front out → LacksItem vs k front out → n < k
out_before given rest vs n k front out is within some there lacks = by_case (nat_lt n k) refl
  where
    past : nat_lt n k ≡ false → ⊥
    past e =
        let no_less : k ≤ n = grind (arith, nat_tests) in
        let d = there (omega (arith, some, no_less)) in
        let same : lacks.0 ++ d.0 ≡ lacks.0 ++ lacks.1 = same_Some _ _ (ap (λ o. append_known o d.0) (sym lacks.2) ∙ sym d.1 ∙ lacks.3) in
        let sizes : length lacks.0 + length d.0 ≡ length lacks.0 + length lacks.1 = sym (bytes_both lacks.0 d.0) ∙ ap length same ∙ bytes_both lacks.0 lacks.1 in
        let first : take k vs ≡ take k given = ap (take k) is ∙ take_within k given rest (omega (arith, no_less, within)) in
        let long : length (list_front (take k vs)) ≡ length (list_front (take k given)) = ap (λ us. length (list_front us)) first in
        let more = front_grows k n given no_less in
        let short = lacks.4 in
        let out = d.2 in
        omega (arith, sizes, long, more, short, out)

    by_case : (b : Bool) → nat_lt n k ≡ b → n < k
    by_case true e = grind (arith, nat_tests)
    by_case false e = absurd (past e)

-- ---- rows that were handed

-- rows were handed: fewer than are fetched at once, and so many that give more items than are out
pub record Seen (a : Running) (b : Node) (c : Scan) (all : List Value) (out : ℕ) (w : Running) : Type 0 where
  pub rows : ℕ
  pub counted : Handed c rows a w
  pub few : (n : ℕ) → out < items_at (reading a) [] b all n → rows < n + a.settings.fetch
  pub times : ByTimes a.settings.fetch all rows

abbrev pub Withheld : Node → Running → ℕ → Running → Type 0
Withheld p a out w = (b : Node) (c : Scan) (all : List Value) → IsLine p b c → IsToldAt a → reading a c ≡ Some all → Seen a b c all out w

pub none_times : (n : ℕ) → 0 ≡ 0 * n
none_times n = omega arith

pub seen_none : (a : Running) (b : Node) (c : Scan) (all : List Value) (out : ℕ) → 0 < a.settings.fetch → Seen a b c all out a
seen_none a b c all out fetch = record { rows = 0; counted = handed_none c a; few = λ n h. omega (arith, fetch); times = inl (0, none_times a.settings.fetch) }

-- of a loop that was drawn lazily
pub seen_frugal : (a : Running) (b : Node) (c : Scan) (all : List Value) (drawn handed out : ℕ) (w : Running) → drawn ≤ out + 1 → Handed c handed a w → Frugal (reading a) a.settings.fetch [] b all drawn handed → Seen a b c all out w
seen_frugal a b c all drawn handed out w near h f = record { rows = handed; counted = h; few = few; times = f.times }
  where
    few : (n : ℕ) → out < items_at (reading a) [] b all n → handed < n + a.settings.fetch
    few n over = by_case (nat_lt n f.rows) refl
      where
        by_case : (y : Bool) → nat_lt n f.rows ≡ y → handed < n + a.settings.fetch
        by_case true e = let less = f.front.least n (let l : n < f.rows = grind (arith, nat_tests) in l) in absurd (omega (arith, less, over, near))
        by_case false e = let l : f.rows ≤ n = grind (arith, nat_tests) in let x = f.few in omega (arith, l, x)

pub seen_on : (a : Running) (b : Node) (c : Scan) (all : List Value) (out : ℕ) (w x : Running) → x.settings ≡ w.settings → Silent w x → Seen a b c all out w → Seen a b c all out x
seen_on a b c all out w x same still h = record {
  rows = h.rows;
  counted = record {
    settings = same ∙ h.counted.settings;
    events = h.counted.events;
    logged = subst (λ es. Logged es a x) (append-nil h.counted.events) (logged_then h.counted.events [] a w x h.counted.settings h.counted.logged still);
    of = h.counted.of;
    sum = h.counted.sum;
  };
  few = h.few;
  times = h.times;
}

pub withheld_on : (p : Node) (a : Running) (out : ℕ) (w x : Running) → x.settings ≡ w.settings → Silent w x → Withheld p a out w → Withheld p a out x
withheld_on p a out w x same still h = λ b c all line told at. seen_on a b c all out w x same still (h b c all line told at)

pub withheld_closed : (p : Node) (a : Running) (out : ℕ) (u : Uses) (w x : Running) → Closes u w x → Withheld p a out w → Withheld p a out x
withheld_closed p a out u w x closes h = withheld_on p a out w x closes.moves.settings (closes_silent u w x closes) h

pub withheld_none : (p : Node) (a : Running) (out : ℕ) → HasList a p → Withheld p a out a
withheld_none p a out (u, types, ready) = λ b c all line told at. seen_none a b c all out ready.session.fetch

-- ---- what lacks an item

pub lacking : (p : Node) (a : Running) (given rest : List Value) (out : ℕ) (x : Running) (front o : SinkState) → items_in (coming (plan (reading a) p [])) ≡ given ++ rest → out ≤ length given → IsOut given out front o → IsToldAt a → Withheld p a out x
    → HandsWritten (reading a) a.settings.fetch p front o (λ c rows. Handed c rows a x)
lacking p a given rest out x front o is within there told h = λ b c all k line at some fits lacks.
    let seen = h b c all line told at in
    let before = out_before given rest (items_in (coming (plan (reading a) p []))) out k front o is within some there lacks in
    (seen.rows, seen.counted, (λ n f. seen.few n (let e = f.enough in omega (arith, before, e))), seen.times)

-- nothing is lacking where all items are out
pub lacks_none : (p : Node) (a : Running) (given : List Value) (e : End) (out : ℕ) (x : Running) (front o : SinkState) → flow given e ≡ coming (plan (reading a) p []) → out ≡ length given → IsOut given out front o → HandsWritten (reading a) a.settings.fetch p front o (λ c rows. Handed c rows a x)
lacks_none p a given e out x front o is full there = λ b c all k line at some fits lacks.
    let items : items_in (coming (plan (reading a) p [])) ≡ given ++ [] = ap items_in (sym is) ∙ flow_items given e ∙ sym (append-nil given) in
    let size : length (items_in (coming (plan (reading a) p []))) ≡ length given = ap length (ap items_in (sym is) ∙ flow_items given e) in
    let before = out_before given [] (items_in (coming (plan (reading a) p []))) out k front o items (omega (arith, full)) some there lacks in
    absurd (omega (arith, before, fits, size, full))

-- where nothing was handed
pub nothing_handed : (p : Node) (a : Running) (front o : SinkState) → HasList a p → HandsWritten (reading a) a.settings.fetch p front o (λ c rows. Handed c rows a a)
nothing_handed p a front o (u, types, ready) = λ b c all k line at some fits lacks. (0, handed_none c a, (λ n f. let x = ready.session.fetch in omega (arith, x)), inl (0, none_times a.settings.fetch))

-- a driver that refuses a source is no failing output
pub driver_unwritten : (l : Name) (x : DriverError) (f : Fault) → f ≡ fault_of l x → Some f ≡ Some fault.Write → ⊥
driver_unwritten l x f is failed = no_write x (sym is ∙ same_Some _ _ failed)
  where
    no_write : (x : DriverError) → fault_of l x ≡ fault.Write → ⊥
    no_write driver.Failed h = cc
    no_write (driver.BadSource place) h = cc
    no_write (driver.TooLong place) h = cc
    no_write (driver.TooDeep place) h = cc
    no_write (driver.Changed drift) h = cc
    no_write driver.NoMemory h = cc

-- ---- what the end of a page takes

puts_held : (out : SinkState) (page : List ℕ) → Puts {T = Unit {0}} page (Ok tt) out [] out page
puts_held out page = record {
  done = [];
  rest = page;
  all = refl;
  took = sym (append_known-nil out.taken);
  holds = refl;
  cause = record { later = omega arith; counts = refl; failed = λ h. cc; wants_later = omega arith; counts_want = refl; wanted = λ h. cc };
}

pub close_more : {T : Type 0} (r : Result T Stop) (out out' : SinkState) (page : List ℕ) → ((text : List ℕ) (first : SinkState) → Puts {T = Unit {0}} text (Ok tt) first [] out page → WritesWhole (text ++ codes "|]\n") r first out') → TookMore out out'
close_more r out out' page h = let w = h page out (puts_held out page) in (w.part.done, w.part.took)
