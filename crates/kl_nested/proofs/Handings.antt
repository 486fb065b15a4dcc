-- Rows that are taken one by one, and what a cursor hands.
use Rattle.std.proofs.Common.{◌≡◌, ◌⊎◌, ℕ, ◌+◌, ◌-◌, ◌<◌, ◌≤◌, min, List, [], ◌∷◌, ◌++◌, length, drop, take, IsSome, Result, Ok, Err, false, refl, sym, ap, subst, ◌∙◌, arith, append_assoc, append-nil, length-append, take_at, inl, inr}
use Rattle.std.proofs.lemmas.Bool.{cases_lt}
use Rattle.kl_value.specs.declared.Value.{Value}
use Rattle.kl_outside.specs.Files.{FilesState, seen_in}
use Rattle.kl_exchange.specs.FileReading.{SeesMore}
use Rattle.kl_heads.specs.FileReading.{HeadedFile}
use Rattle.kl_exchange.proofs.FileReading.{more_then, same_seen}
use Rattle.kl_ask.specs.declared.ask.DriverError.{DriverError}
use Rattle.kl_ask.specs.declared.ask.DriverError.TheVariants as error
use Rattle.kl_type.specs.Ground.{ground_of}
use Rattle.kl_outcome.specs.Typed.{Inhabits}
use Rattle.kl_ask.specs.Asks.{item_of}
use Rattle.kl_ask.specs.Driver.{CountsFault}
use Rattle.kl_nested.specs.Desk.{HasTaken, IsKept}
use Rattle.kl_nested.specs.Handing.{AreNext, Hands, MeetsEnd, PassesHead, ReadsOne, Refuses, ShowsAll, TakesRow, TakesRows}
use Rattle.kl_nested.specs.Nested.{Tells, rows_at}
use Rattle.kl_nested.specs.declared.parts.Source.{Source}
use Rattle.kl_nested.specs.declared.parts.Open.{Open}
use Rattle.kl_nested.proofs.Throughs.{all_append}

-- ---- what later calls keep

pub kept_on : (limit : ℕ) (told told' : Tells) (s : Source) → told' ≡ told → IsKept limit told s → IsKept limit told' s
kept_on limit told told' s same kept = subst (λ t. IsKept limit t s) (sym same) kept

one_then : (a b c : HeadedFile) (f g h : FilesState) → ReadsOne a b f g → ReadsOne b c g h → ReadsOne a c f h
one_then a b c f g h m n = record {
  told = n.told ∙ m.told;
  others = λ k ne. n.others k (λ is. ne (is ∙ m.same_file)) ∙ m.others k ne;
  is_open = subst (λ k. IsSome (h.left k)) m.same_file n.is_open;
  others_seen = λ k ne. n.others_seen k (λ is. ne (is ∙ m.same_file)) ∙ m.others_seen k ne;
  more = more_then (seen_in f a.items.file) (seen_in g a.items.file) (seen_in h a.items.file) m.more (subst (λ k. SeesMore (seen_in g k) (seen_in h k)) m.same_file n.more);
  later = omega (arith, m.later, n.later);
  same_file = n.same_file ∙ m.same_file;
}

refuses_on : (limit : ℕ) (s : Source) (file n : ℕ) (e : DriverError) (f g h : FilesState) → g.told ≡ f.told → f.faults ≤ g.faults → Refuses limit s file n e g h → Refuses limit s file n e f h
refuses_on limit s file n error.Failed f g h told later cause = omega (arith, later, cause)
refuses_on limit s file n error.NoMemory f g h told later cause = tt
refuses_on limit s file n (error.Changed d) f g h told later cause = (sym told ∙ cause.0, cause.1, cause.2)
refuses_on limit s file n (error.BadSource p) f g h told later cause = absurd cause
refuses_on limit s file n (error.TooLong m) f g h told later cause = absurd cause
refuses_on limit s file n (error.TooDeep p) f g h told later cause = absurd cause

-- the count of faults over several calls, of which the last one's answer is the answer
pub counts_on : (T : Type 0) (e : DriverError) (a b c : ℕ) → b ≡ a → CountsFault {T = T} (Err e) b c → CountsFault {T = T} (Err e) a c
counts_on T error.Failed a b c same counts = omega (arith, same, counts)
counts_on T error.NoMemory a b c same counts = counts ∙ same
counts_on T (error.Changed d) a b c same counts = counts ∙ same
counts_on T (error.BadSource p) a b c same counts = counts ∙ same
counts_on T (error.TooLong m) a b c same counts = counts ∙ same
counts_on T (error.TooDeep p) a b c same counts = counts ∙ same

-- whatever would have been answered
pub counts_as : (T U : Type 0) (e : DriverError) (a b : ℕ) → CountsFault {T = T} (Err e) a b → CountsFault {T = U} (Err e) a b
counts_as T U error.Failed a b counts = counts
counts_as T U error.NoMemory a b counts = counts
counts_as T U (error.Changed d) a b counts = counts
counts_as T U (error.BadSource p) a b counts = counts
counts_as T U (error.TooLong m) a b counts = counts
counts_as T U (error.TooDeep p) a b counts = counts

-- ---- the loop

-- rows up to this number were appended
pub record Taking (limit : ℕ) (s : Source) (taken number : ℕ) (into into' : List Value) (old now : HeadedFile) (f g : FilesState) : Type 0 where
  pub reads : ReadsOne old now f g
  pub rows : List Value
  pub are_next : AreNext limit s taken rows into into' f
  pub size : taken + length rows ≡ number
  pub so_far : HasTaken limit s number now g
  pub behind : now.front ≡ false
  pub kept : IsKept limit g.told s
  pub counts : g.faults ≡ f.faults

module _ (limit : ℕ) (s : Source) (taken : ℕ) (into : List Value) (old : HeadedFile) (f : FilesState) where
  pub taking_none : IsKept limit f.told s → HasTaken limit s taken old f → old.front ≡ false → Taking limit s taken taken into into old old f f
  taking_none kept so_far behind = record {
    reads = record { told = refl; others = λ k ne. refl; is_open = so_far.is_open; others_seen = λ k ne. refl; more = same_seen (seen_in f old.items.file) (seen_in f old.items.file) refl; later = omega arith; same_file = refl };
    rows = [];
    are_next = record { appended = sym (append-nil into); typed = tt; next = λ all is. ap (λ n. drop n all) (let n : taken ≡ taken + 0 = omega arith in n) };
    size = omega arith;
    so_far = so_far;
    behind = behind;
    kept = kept;
    counts = refl;
  }

  module _ (number : ℕ) (into' into'' : List Value) (now then : HeadedFile) (g h : FilesState) (at : Taking limit s taken number into into' old now f g) where
    pub taking_more : TakesRow limit s number into' into'' (Ok tt) now then g h → Taking limit s taken (number + 1) into into'' old then f h
    taking_more takes =
        let row = takes.row in
        let one = row.1 in
        record {
          reads = one_then old now then f g h at.reads takes.reads;
          rows = at.rows ++ row.0 ∷ [];
          are_next = record {
            appended = one.appended ∙ ap (λ xs. xs ++ row.0 ∷ []) at.are_next.appended ∙ append_assoc into at.rows (row.0 ∷ []);
            typed = all_append (Inhabits (item_of (ground_of s.ty))) at.rows (row.0 ∷ []) at.are_next.typed one.typed;
            next = λ all is.
                let here : drop taken all ≡ at.rows ++ drop number all = at.are_next.next all is ∙ ap (λ n. at.rows ++ drop n all) at.size in
                let after : drop number all ≡ (row.0 ∷ []) ++ drop (number + 1) all = one.next all (ap (λ t. rows_at limit t s) at.reads.told ∙ is) in
                let long : number + 1 ≡ taken + length (at.rows ++ row.0 ∷ []) = omega (arith, at.size, length-append at.rows (row.0 ∷ [])) in
                here ∙ ap (λ xs. at.rows ++ xs) after ∙ sym (append_assoc at.rows (row.0 ∷ []) (drop (number + 1) all)) ∙ ap (λ n. (at.rows ++ row.0 ∷ []) ++ drop n all) long;
          };
          size = omega (arith, at.size, length-append at.rows (row.0 ∷ []));
          so_far = row.2;
          behind = takes.behind;
          kept = kept_on limit g.told h.told s takes.reads.told at.kept;
          counts = takes.counts ∙ at.counts;
        }

    pub taking_stopped : (count : ℕ) (e : DriverError) → number < taken + count → TakesRow limit s number into' into'' (Err e) now then g h → TakesRows limit s taken count into into'' (Err e) old then f h
    taking_stopped count e within takes = record {
      reads = one_then old now then f g h at.reads takes.reads;
      rows = at.rows;
      are_next = record { appended = takes.same ∙ at.are_next.appended; typed = at.are_next.typed; next = at.are_next.next };
      all = tt;
      few = omega (arith, at.size, within);
      counts = counts_on (Unit {0}) e f.faults g.faults h.faults at.counts takes.counts;
      cause = λ d is. subst (λ n. Refuses limit s old.items.file n d f h) (sym at.size)
          (refuses_on limit s old.items.file number d f g h at.reads.told at.reads.later (subst (λ k. Refuses limit s k number d g h) at.reads.same_file (takes.cause d is)));
    }

    pub taking_done : (count : ℕ) → number ≡ taken + count → TakesRows limit s taken count into into' (Ok tt) old now f g
    taking_done count is = record {
      reads = at.reads;
      rows = at.rows;
      are_next = at.are_next;
      all = (omega (arith, at.size, is), subst (λ n. HasTaken limit s n now g) is at.so_far);
      few = tt;
      counts = at.counts;
      cause = λ e is. absurd cc;
    }

-- ---- a cursor

-- as many as were asked for, or all that are left
pub as_many : (whole taken most count : ℕ) → taken ≤ whole → count ≡ min (whole - taken) most → (count ≡ most) ⊎ (taken + count ≡ whole)
as_many whole taken most count within is = elim (cases_lt most (whole - taken)) [
  | inl less ↦ inl (omega (arith, less, is))
  | inr past ↦ inr (omega (arith, past, is, within))
]

module _ (limit most : ℕ) (into : List Value) (old new : Open) (f g : FilesState)
    (ask : new.ask ≡ old.ask) (source : new.source ≡ old.source) (file : new.file ≡ old.file) where
  -- the head is not as it was kept
  pub not_passed : (e : DriverError) → PassesHead limit old.source old.taken (Err e) old.reader new.reader f g → Hands limit most into into (Err e) old new f g
  not_passed e passes = record {
    reads = passes.reads;
    ask = ask;
    source = source;
    file = file;
    handed = tt;
    same = refl;
    counts = counts_as (Unit {0}) ℕ e f.faults g.faults passes.counts;
    cause = λ d is. (0, inl (passes.unread, refl), passes.cause d (let k : e ≡ d = cc in ap Err k));
  }

  -- all rows were taken
  pub handed_none : MeetsEnd limit old.source (Ok tt) old.reader new.reader f g → old.taken ≡ old.source.count → new.taken ≡ old.taken → Hands limit most into into (Ok 0) old new f g
  handed_none meets spent taken = record {
    reads = meets.reads;
    ask = ask;
    source = source;
    file = file;
    handed = record {
      rows = [];
      are_next = record { appended = sym (append-nil into); typed = tt; next = λ all is. ap (λ n. drop n all) (let n : old.taken ≡ old.taken + 0 = omega arith in n) };
      size = refl;
      few = omega arith;
      all = inr (taken ∙ spent);
      after = omega (arith, taken);
      within = omega (arith, taken, spent);
      taken = subst (λ n. HasTaken limit old.source n new.reader g) (sym (taken ∙ spent)) meets.taken;
      ended = λ none. meets.all;
    };
    same = tt;
    counts = meets.counts;
    cause = λ e is. absurd cc;
  }

  pub not_ended : (e : DriverError) → old.taken ≡ old.source.count → MeetsEnd limit old.source (Err e) old.reader new.reader f g → Hands limit most into into (Err e) old new f g
  not_ended e spent meets = record { reads = meets.reads; ask = ask; source = source; file = file; handed = tt; same = refl; counts = counts_as (Unit {0}) ℕ e f.faults g.faults meets.counts; cause = λ d is. (old.source.count + 1, inr (inr (spent, refl)), meets.cause d (let k : e ≡ d = cc in ap Err k)) }

  pub handed_rows : (into' : List Value) (count : ℕ) → 0 < count → TakesRows limit old.source old.taken count into into' (Ok tt) old.reader new.reader f g → new.taken ≡ old.taken + count → count ≤ most
      → (count ≡ most) ⊎ (old.taken + count ≡ old.source.count) → old.taken + count ≤ old.source.count → Hands limit most into into' (Ok count) old new f g
  handed_rows into' count some takes taken few all within = record {
    reads = takes.reads;
    ask = ask;
    source = source;
    file = file;
    handed = record {
      rows = takes.rows;
      are_next = takes.are_next;
      size = takes.all.0;
      few = few;
      all = elim all [ inl is ↦ inl is | inr is ↦ inr (taken ∙ is) ];
      after = taken;
      within = omega (arith, taken, within);
      taken = subst (λ n. HasTaken limit old.source n new.reader g) (sym taken) takes.all.1;
      ended = λ none. absurd (omega (arith, none, some));
    };
    same = tt;
    counts = takes.counts;
    cause = λ e is. absurd cc;
  }

  pub not_handed : (into' into'' : List Value) (count : ℕ) (e : DriverError) → old.taken + count ≤ old.source.count → TakesRows limit old.source old.taken count into into' (Err e) old.reader new.reader f g → into'' ≡ take (length into) into' → Hands limit most into into'' (Err e) old new f g
  not_handed into' into'' count e within takes cut = record {
    reads = takes.reads;
    ask = ask;
    source = source;
    file = file;
    handed = tt;
    same = cut ∙ ap (take (length into)) takes.are_next.appended ∙ take_at into takes.rows (length into) refl;
    counts = counts_as (Unit {0}) ℕ e f.faults g.faults takes.counts;
    cause = λ d is. (old.taken + length takes.rows, inr (inl (omega arith, omega (arith, takes.few, within))), takes.cause d (let k : e ≡ d = cc in ap Err k));
  }

-- a cursor that read the head over
abbrev pub behind_head : Open → HeadedFile → Open
behind_head o reader = record { ask = o.ask; source = o.source; file = o.file; reader = reader; taken = o.taken }

module _ (limit most : ℕ) (into into' : List Value) (old new : Open) (reader : HeadedFile) (f m g : FilesState) (passes : PassesHead limit old.source old.taken (Ok tt) old.reader reader f m) where
  next_on : (s : Source) (taken : ℕ) (rows : List Value) → AreNext limit s taken rows into into' m → AreNext limit s taken rows into into' f
  next_on s taken rows next = record { appended = next.appended; typed = next.typed; next = λ all is. next.next all (ap (λ t. rows_at limit t s) passes.reads.told ∙ is) }

  -- what a cursor hands behind the head
  pub hands_on : (result : Result ℕ DriverError) → Hands limit most into into' result (behind_head old reader) new m g → Hands limit most into into' result old new f g
  hands_on (Ok count) hands = record {
    reads = one_then old.reader reader new.reader f m g passes.reads hands.reads;
    ask = hands.ask;
    source = hands.source;
    file = hands.file;
    handed = let h = hands.handed in record {
      rows = h.rows;
      are_next = next_on old.source old.taken h.rows h.are_next;
      size = h.size;
      few = h.few;
      all = h.all;
      after = h.after;
      within = h.within;
      taken = h.taken;
      ended = λ none. subst (λ k. ShowsAll limit old.source (seen_in g k)) passes.reads.same_file (h.ended none);
    };
    same = tt;
    counts = hands.counts ∙ passes.counts;
    cause = λ e is. absurd cc;
  }
  hands_on (Err e) hands = record {
    reads = one_then old.reader reader new.reader f m g passes.reads hands.reads;
    ask = hands.ask;
    source = hands.source;
    file = hands.file;
    handed = tt;
    same = hands.same;
    counts = counts_on ℕ e f.faults m.faults g.faults passes.counts hands.counts;
    cause = λ d is.
        let c = hands.cause d is in
        (c.0, c.1, refuses_on limit old.source old.reader.items.file c.0 d f m g passes.reads.told passes.reads.later (subst (λ k. Refuses limit old.source k c.0 d m g) passes.reads.same_file c.2));
  }
