-- Cursors of a flat driver: how they are opened, what they hand, and how they are closed.
use Rattle.std.proofs.Common.{◌≡◌, ◌≢◌, ◌⊎◌, ◌<◌, ◌+◌, ◌^◌, ℕ, Bool, true, false, List, [], ◌++◌, length, set, drop, Option, Some, None, Ok, Err, refl, sym, ◌∙◌, ap, subst, arith, inl, inr, slice_get, length-append, nat_lt}
use Rattle.std.proofs.lemmas.Bool.Decides.{nat_tests}
use Rattle.std.proofs.lemmas.Grind.{common_steps}
use Rattle.std.proofs.lemmas.Option.{none-some, same_Some}
use Rattle.std.specs.List.{AllByRecursion}
use Rattle.std.specs.Option.{option_map, option_flatten}
use Rattle.kl_value.specs.declared.Kind.{Kind}
use Rattle.kl_value.specs.declared.Value.{Value}
use Rattle.kl_type.specs.Ground.{ground_of}
use Rattle.kl_outcome.specs.Outcome.{Name}
use Rattle.kl_outcome.specs.Typed.{Inhabits}
use Rattle.kl_outside.specs.Files.{FilesState}
use Rattle.kl_ask.specs.Asked.{raised_by, with_ask}
use Rattle.kl_ask.specs.Asks.{answers, item_of, kind_of, shown_type}
use Rattle.kl_ask.specs.Driver.{Cursor, CanStart, Starts, OpensAt, IsFresh, Shows, Pulls, PullsMore, PullsNone, PullResult, Hands, emptied}
use Rattle.kl_ask.specs.declared.ask.Ask.{Ask}
use Rattle.kl_ask.specs.declared.ask.Ask.TheVariants as asks
use Rattle.kl_ask.specs.declared.ask.ColTest.{ColTest}
use Rattle.kl_ask.specs.declared.ask.DriverError.TheVariants as error
use Rattle.kl_ask.specs.Cursors.{open_at}
use Rattle.kl_ask.proofs.Opened.{added_free, added_now, added_others, changed_now, changed_others, replaced_other}
use Rattle.kl_ask.proofs.Whole.{in_order}
use Rattle.kl_flat.specs.Answering.{Takes}
use Rattle.kl_flat.specs.Asked.{keep_of, tests_of}
use Rattle.kl_flat.specs.ColumnTable.{rows_of}
use Rattle.kl_flat.specs.Cursors.{HandsNext, OpensLast}
use Rattle.kl_ask.specs.Named.{asked_source}
use Rattle.kl_flat.specs.Flat.{Sources, flat_state, told_only, attached_of, cursor_of, left_of}
use Rattle.kl_flat.specs.declared.parts.Source.{Source}
use Rattle.kl_flat.specs.declared.parts.Open.{Open}
use Rattle.kl_flat.proofs.Suiting.{item_flat}
use Rattle.kl_flat.proofs.Typing.{rows_suit, rows_typed}
use Rattle.kl_flat.proofs.Shown.{all_drop, all_front, answers_typed, answers-all, answers-few}

abbrev seen_as : {A : Type 0} → Option A → Option Open → Option Cursor
seen_as told o = option_map (cursor_of told) o

-- ---- `start`

shows : {A : Type 0} (told : Option A) (k : Kind) (keep : List Name) (tests : List ColTest) (rows : List Value) → Shows k keep tests (told_only told rows) (told_only told (answers rows keep tests))
shows None k keep tests rows = refl
shows (Some t) k keep tests rows = (answers rows keep tests, refl, in_order k (answers rows keep tests))

pub told_size : {A : Type 0} (told : Option A) (rows shown : List Value) → told_only told rows ≡ Some shown → length rows ≡ length shown
told_size None rows shown is = absurd cc
told_size (Some t) rows shown is = ap length (same_Some _ _ is)

-- a cursor before the first row of a source
pub fresh_over : {A : Type 0} (told : Option A) (source : Name) (keep : List Name) (tests : List ColTest) (s : Source) (o : Open) → o.ask ≡ asks.Rows source keep tests → o.ty ≡ s.ty → o.table ≡ s.table → o.at ≡ 0 → length (rows_of o.table) < 2 ^ 64
    → IsFresh keep tests (attached_of told s) (cursor_of told o)
fresh_over told source keep tests s o ask_is ty_is rows_is at_is small =
    let keep_is : keep_of o.ask ≡ keep = ap keep_of ask_is in
    let left_is : left_of o ≡ answers (rows_of s.table) keep tests =
    (λ i. answers (drop (at_is i) (rows_of (rows_is i))) (keep_of (ask_is i)) (tests_of (ask_is i))) in
    let few = answers-few keep tests (rows_of s.table) in
    record {
      ty = λ i. shown_type (keep_is i) (item_of (ground_of (ty_is i)));
      left = subst (λ rows. Shows (kind_of (ground_of s.ty)) keep tests (told_only told (rows_of s.table)) (told_only told rows)) (sym left_is) (shows told (kind_of (ground_of s.ty)) keep tests (rows_of s.table));
      most = omega (arith, few, ap length left_is);
      whole = λ none. ap length left_is ∙ answers-all keep tests (rows_of s.table) none;
      told = λ shown is. told_size told (left_of o) shown is;
      bound = omega (arith, few, ap length left_is, ap (λ t. length (rows_of t)) rows_is, small);
    }

opens_at : (ask : Ask) (s : Source) (o : Open) (f : FilesState) (sources : Sources) (cursors : List (Option Open)) (asked : List (Ask × ℕ)) (handed unread : ℕ)
    → CanStart (flat_state f sources cursors asked handed unread) ask → asked_source sources ask ≡ Some s
    → o.ask ≡ ask → o.ty ≡ s.ty → o.table ≡ s.table → o.at ≡ 0 → length (rows_of o.table) < 2 ^ 64
    → OpensAt ask (flat_state f sources cursors asked handed unread) (cursor_of f.told o)
opens_at (asks.Sql text) s o f sources cursors asked handed unread can found ask_is ty_is rows_is at_is small = absurd (let no : false ≡ true = can.answerable.2 in cc)
opens_at (asks.Rows source keep tests) s o f sources cursors asked handed unread can found ask_is ty_is rows_is at_is small = λ a is.
    let same : attached_of f.told s ≡ a = same_Some _ _ (sym (ap (option_map (attached_of f.told)) found) ∙ is) in
    subst (λ a. IsFresh keep tests a (cursor_of f.told o)) same (fresh_over f.told source keep tests s o ask_is ty_is rows_is at_is small)

pub start_done : (ask : Ask) (n : ℕ) (f : FilesState) (sources : Sources) (cursors cursors' : List (Option Open)) (asked asked' : List (Ask × ℕ)) (handed unread : ℕ)
    → CanStart (flat_state f sources cursors asked handed unread) ask → n ≡ length cursors → OpensLast sources ask cursors cursors' → asked' ≡ with_ask ask asked
    → Starts ask (Ok n) (flat_state f sources cursors asked handed unread) (flat_state f sources cursors' asked' handed unread)
start_done ask n f sources cursors cursors' asked asked' handed unread can last opens counted =
    let o = opens.made in
    record {
      keeps = record { kind = refl; handed = omega arith; faults = omega arith; drifts = omega arith; no_drift = λ is. refl; unread = omega arith };
      attached = refl;
      reading = λ k is. record { file = refl; read = refl };
      handed = refl;
      faults = refl;
      drifts = refl;
      unread = refl;
      opens = record {
        free = ap (seen_as f.told) (added_free cursors cursors' n o last opens.grown);
        opened = cursor_of f.told o;
        now = ap (seen_as f.told) (added_now cursors cursors' n o last opens.grown);
        ask_kept = opens.ask_is;
        fresh = opens_at ask opens.source o f sources cursors asked handed unread can opens.found opens.ask_is opens.ty opens.table opens.start o.small;
        others = λ k ne. ap (seen_as f.told) (added_others cursors cursors' n o last opens.grown k ne);
        anew = λ is. absurd cc;
        unread = λ r is. absurd (none-some _ is);
        asked = counted;
      };
      refused = tt;
      failed = λ is. absurd cc;
      no_other = tt;
    }

-- ---- `pull`

-- the rows that a cursor has left have the type that its ask shows
pub left_typed : (o : Open) → AllByRecursion (Inhabits (shown_type (keep_of o.ask) (item_of (ground_of o.ty)))) (left_of o)
left_typed o =
    let flat = item_flat o.ty (rows_suit o.ty (rows_of o.table) o.typed) in
    answers_typed (keep_of o.ask) (tests_of o.ask) (item_of (ground_of o.ty)) flat (drop o.at (rows_of o.table)) (all_drop _ o.at (rows_of o.table) (rows_typed o.ty (rows_of o.table) o.typed))

abbrev Same : Open → Open → Type 0
Same o o' = (o'.ask ≡ o.ask) × (o'.ty ≡ o.ty) × (o'.table ≡ o.table)

module _ (most to : ℕ) (taken : List Value) (o o' : Open) (same : Same o o') (at : o'.at ≡ to) (takes : Takes (rows_of o.table) o.at (keep_of o.ask) (tests_of o.ask) most taken to) where
  rest_is : left_of o' ≡ answers (drop to (rows_of o.table)) (keep_of o.ask) (tests_of o.ask)
  rest_is = λ i. answers (drop (at i) (rows_of (same.2 i))) (keep_of (same.0 i)) (tests_of (same.0 i))

  pub split_is : left_of o ≡ taken ++ left_of o'
  split_is = takes.split ∙ ap (λ rows. taken ++ rows) (sym rest_is)

  pub none_left : to ≡ length (rows_of o.table) → left_of o' ≡ []
  none_left e = rest_is ∙ ap (λ rows. answers rows (keep_of o.ask) (tests_of o.ask)) past
    where
      past : drop to (rows_of o.table) ≡ []
      past = grind (arith, common_steps)

  sizes : length (left_of o) ≡ length taken + length (left_of o')
  sizes = ap length split_is ∙ length-append taken (left_of o')

  hands : {A : Type 0} (told : Option A) → 0 < length taken → Hands most taken (cursor_of told o) (cursor_of told o')
  hands told some = record {
    ask = same.0;
    ty = λ i. shown_type (keep_of (same.0 i)) (item_of (ground_of (same.1 i)));
    some = some;
    most = takes.most;
    typed = all_front _ taken (left_of o') (subst (AllByRecursion (Inhabits (shown_type (keep_of o.ask) (item_of (ground_of o.ty))))) split_is (left_typed o));
    bound = omega (arith, sizes);
    left = left told;
    untold = untold told;
  }
    where
      left : {A : Type 0} (told : Option A) (all : List Value) → told_only told (left_of o) ≡ Some all → (rest : List Value) × (all ≡ taken ++ rest) × (told_only told (left_of o') ≡ Some rest) × ((length taken ≡ most) ⊎ (rest ≡ []))
      left None all is = absurd cc
      left (Some t) all is = (left_of o', sym (same_Some _ _ is) ∙ split_is, refl, elim (takes.all) [ inl e ↦ inl e | inr e ↦ inr (none_left e) ])

      untold : {A : Type 0} (told : Option A) → told_only told (left_of o) ≡ None → told_only told (left_of o') ≡ None
      untold None is = refl
      untold (Some t) is = absurd cc

  -- no answer was left
  module _ (few : length taken ≡ 0) (room : 0 < most) where
    all_looked : to ≡ length (rows_of o.table)
    all_looked = elim (takes.all) [ inl e ↦ absurd (omega (arith, e, few, room)) | inr e ↦ e ]

    none_then : left_of o' ≡ []
    none_then = none_left all_looked

    none_now : left_of o ≡ []
    none_now = split_is ∙ ap (λ xs. xs ++ left_of o') empty ∙ none_then
      where
        empty : taken ≡ []
        empty = grind (arith, common_steps)

    emptied_is : {A : Type 0} (told : Option A) → cursor_of told o' ≡ emptied (cursor_of told o)
    emptied_is told = λ i. record {
      ask = same.0 i;
      ty = shown_type (keep_of (same.0 i)) (item_of (ground_of (same.1 i)));
      left = told_only told ((none_then ∙ sym none_now) i);
      bound = length (none_then i);
    }

    spent : {A : Type 0} (told : Option A) (all : List Value) → told_only told (left_of o) ≡ Some all → all ≡ []
    spent None all is = absurd cc
    spent (Some t) all is = sym (same_Some _ _ is) ∙ none_now

module _ (cursor : ℕ) (o o' : Open) (f : FilesState) (sources : Sources) (cursors cursors' : List (Option Open)) (asked : List (Ask × ℕ)) (is : slice_get cursors cursor ≡ Some (Some o)) (made : cursors' ≡ set cursors cursor (Some o')) where
  cursor_is : (c : Cursor) → seen_as f.told (open_at cursors cursor) ≡ Some c → cursor_of f.told o ≡ c
  cursor_is c has = same_Some _ _ (sym (ap (λ x. seen_as f.told (option_flatten x)) is) ∙ has)

  module _ (most n : ℕ) (into into' : List Value) (hand : HandsNext most into into' o o' n) (handed handed' unread : ℕ) (count : handed' ≡ raised_by n handed) (fits : handed < 2 ^ 64) (room : 0 < most) where
    same : Same o o'
    same = (hand.ask, hand.ty, hand.table)

    more : 0 < n → (c : Cursor) → seen_as f.told (open_at cursors cursor) ≡ Some c
        → PullsMore cursor most into into' c (flat_state f sources cursors asked handed unread) (flat_state f sources cursors' asked handed' unread)
    more some c has =
        subst (λ c. PullsMore cursor most into into' c (flat_state f sources cursors asked handed unread) (flat_state f sources cursors' asked handed' unread)) (cursor_is c has) (record {
          rows = hand.taken;
          then = cursor_of f.told o';
          appended = hand.appended;
          now = ap (seen_as f.told) (changed_now cursors cursors' cursor o o' is made);
          hands = hands most o'.at hand.taken o o' same refl hand.takes f.told (omega (arith, some, hand.size));
          handed = count ∙ ap (λ n. raised_by n handed) hand.size;
          stated = λ r. absurd (none-some _ r.is_read);
        })

    none : n ≡ 0 → (c : Cursor) → seen_as f.told (open_at cursors cursor) ≡ Some c
        → PullsNone cursor into into' c (flat_state f sources cursors asked handed unread) (flat_state f sources cursors' asked handed' unread)
    none nothing c has =
        let few : length hand.taken ≡ 0 = omega (arith, nothing, hand.size) in
        subst (λ c. PullsNone cursor into into' c (flat_state f sources cursors asked handed unread) (flat_state f sources cursors' asked handed' unread)) (cursor_is c has) (record {
          same = grind (arith, common_steps);
          spent = spent most o'.at hand.taken o o' same refl hand.takes few room f.told;
          over = inl (ap length (none_now most o'.at hand.taken o o' same refl hand.takes few room));
          now = ap (seen_as f.told) (changed_now cursors cursors' cursor o o' is made) ∙ ap Some (emptied_is most o'.at hand.taken o o' same refl hand.takes few room f.told);
          handed = omega (arith, count, fits, nothing);
          unchanged = λ r. absurd (none-some _ r.is_read);
        })

    answer : (some : Bool) → nat_lt 0 n ≡ some → (c : Cursor) → seen_as f.told (open_at cursors cursor) ≡ Some c
        → PullResult cursor most into into' c (Ok some) (flat_state f sources cursors asked handed unread) (flat_state f sources cursors' asked handed' unread)
    answer true test c has = more (grind (arith, nat_tests)) c has
    answer false test c has = none (grind (arith, nat_tests)) c has

    -- rows were appended, or none was left
    pub pull_done : Pulls cursor most into into' (Ok (nat_lt 0 n)) (flat_state f sources cursors asked handed unread) (flat_state f sources cursors' asked handed' unread)
    pull_done = record {
      keeps = record { kind = refl; handed = omega (arith, count, fits); faults = omega arith; drifts = omega arith; no_drift = λ is. refl; unread = omega arith };
      attached = refl;
      asked = refl;
      faults = refl;
      drifts = refl;
      unread = refl;
      others = λ k ne. ap (seen_as f.told) (changed_others cursors cursors' cursor o o' is made k ne);
      reads = refl;
      same_file = λ is_open. refl;
      others_reading = λ k ne is_open. record { file = refl; read = refl };
      answer = answer (nat_lt 0 n) refl;
    }

-- want of memory closes the cursor
pub pull_stopped : (cursor most : ℕ) (into into' : List Value) (o : Option Open) (f : FilesState) (sources : Sources) (cursors cursors' : List (Option Open)) (asked : List (Ask × ℕ)) (handed unread : ℕ)
    → open_at cursors' cursor ≡ None → ((k : ℕ) → k ≢ cursor → open_at cursors' k ≡ open_at (set cursors cursor o) k) → into' ≡ into
    → Pulls cursor most into into' (Err error.NoMemory) (flat_state f sources cursors asked handed unread) (flat_state f sources cursors' asked handed unread)
pull_stopped cursor most into into' o f sources cursors cursors' asked handed unread closed others same = record {
  keeps = record { kind = refl; handed = omega arith; faults = omega arith; drifts = omega arith; no_drift = λ is. refl; unread = omega arith };
  attached = refl;
  asked = refl;
  faults = refl;
  drifts = refl;
  unread = refl;
  reads = refl;
  same_file = λ is_open. refl;
  others_reading = λ k ne is_open. record { file = refl; read = refl };
  others = λ k ne. ap (seen_as f.told) (others k ne ∙ replaced_other cursors cursor k o ne);
  answer = λ c has. record {
    same = same;
    closed = ap (seen_as f.told) closed;
    handed = refl;
    cause = tt;
    drifted = λ d drift. absurd cc;
    ahead = λ d drift. absurd cc;
    shown = λ d drift. absurd cc;
    joined_drifted = λ d drift. absurd cc;
  };
}
