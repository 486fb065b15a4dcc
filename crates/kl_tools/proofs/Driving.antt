-- What the calls of the driver of made rows do to what it means.
use Rattle.std.proofs.Common.{◌≡◌, ◌≢◌, inl, inr, ⊎_elim, ◌<◌, ◌+◌, ◌-◌, ◌^◌, ℕ, Bool, true, false, List, [], ◌∷◌, ◌++◌, length, set, Option, Some, None, Ok, Err, refl, sym, ◌∙◌, ap, subst, arith, slice_get, nat_lt, nat_eq}
use Rattle.std.specs.Cmp.Lexicographic.{pointwise}
use Rattle.std.specs.HashMap.{Updates, get}
use Rattle.std.specs.List.{AllByRecursion, IsDistinct}
use Rattle.std.specs.Option.{option_map}
use Rattle.std.proofs.lemmas.Bool.Decides.{nat_tests}
use Rattle.std.proofs.lemmas.List.{append-nil}
use Rattle.std.proofs.lemmas.Option.{none-some, same_Some}
use Rattle.kl_value.specs.declared.Value.{Value}
use Rattle.kl_type.specs.Ground.{ground_of}
use Rattle.kl_type.specs.declared.ground.Ty.{Ty}
use Rattle.kl_type.proofs.RowLemmas.{same_label}
use Rattle.kl_outcome.specs.Outcome.{Name}
use Rattle.kl_outcome.specs.Typed.{Inhabits}
use Rattle.kl_ask.specs.Asked.{raised_by, with_ask}
use Rattle.kl_ask.specs.Asks.{answers, columns, item_of, kind_of, shown_type}
use Rattle.kl_ask.specs.Cursors.{open_at}
use Rattle.kl_ask.specs.Driver.{Attaches, CanStart, Cursor, Hands, InOrder, IsFresh, OpensAt as IsOpened, PullResult, Pulls, PullsMore, PullsNone, Rows, Source as Attached, Starts, Stored, Missing, Bad, Long, Deep, emptied, same_value, told_rows}
use Rattle.kl_ask.specs.declared.ask.Ask.{Ask}
use Rattle.kl_ask.specs.declared.ask.Ask.TheVariants as asks
use Rattle.kl_ask.specs.declared.ask.DriverError.TheVariants as error
use Rattle.kl_ask.proofs.Names.{not_same}
use Rattle.kl_ask.proofs.Opened.{added_free, added_now, added_others, changed_now, changed_others, replaced_other}
use Rattle.kl_ask.proofs.Whole.{in_order, only_whole, whole_rows, whole_type}
use Rattle.kl_tools.specs.Cursors.{HandsNext, OpensAt}
use Rattle.kl_tools.specs.Driver.{Sources, attached_of, cursor_at, cursor_of, left_of, made_kind, made_state, made_type, stored_of}
use Rattle.kl_tools.specs.Made.{made_at, made_rows, rows_from}
use Rattle.kl_tools.specs.Types.{is_made_type}
use Rattle.kl_tools.specs.declared.parts.Open.{Open}
use Rattle.kl_tools.specs.declared.parts.Source.{Source}
use Rattle.kl_tools.proofs.MadeRows.{rows_distinct, rows_typed}
use Rattle.kl_tools.proofs.MadeTypes.{item_is}
use Rattle.kl_tools.proofs.RowLemmas.{rows_length, rows_split}

-- ---- `attach`

abbrev attached : Ty → List Value → ℕ → Attached
attached ty rows count = record { ty = ty; rows = Some rows; count = count; kept = None }

module _ (source locator : List ℕ) (ty : Ty) (s : Source) (seed rows : ℕ) (sources sources' : Sources) (cursors : List (Option Open)) (asked : List (Ask × ℕ)) (handed : ℕ)
    (suits : is_made_type ty ≡ true) (at : made_at locator ≡ Some (seed, rows)) (of : s.ty ≡ ty) (seeded : s.seed ≡ seed) (many : s.rows ≡ rows) (added : Updates (pointwise nat_eq) sources sources' source (Some s)) where
  stored : stored_of (made_at locator) ≡ Rows (made_rows seed rows)
  stored = ap stored_of at

  all_are : (all : List Value) → Some (stored_of (made_at locator)) ≡ Some (Rows all) → all ≡ made_rows seed rows
  all_are all is = let both : Some (Rows all) ≡ Some (Rows (made_rows seed rows)) = sym is ∙ ap Some stored in cc

  no_other : (why : Stored) → ((all : List Value) → Rows all ≡ why → ⊥) → Some (stored_of (made_at locator)) ≡ Some why → ⊥
  no_other why other is = other _ (same_Some _ _ (sym (ap Some stored) ∙ is))

  here : get (pointwise nat_eq) sources' source ≡ Some s
  here = added.0 source ∙ (let same = same_label source in rw same refl)

  elsewhere : (name : Name) → name ≢ source → get (pointwise nat_eq) sources' name ≡ get (pointwise nat_eq) sources name
  elsewhere name ne = added.0 name ∙ (let other = not_same source name (λ e. ne (sym e)) in rw other refl)

  pub attach_done : Attaches source locator ty (Ok rows) (made_state sources cursors asked handed) (made_state sources' cursors asked handed)
  attach_done = record {
    keeps = record { kind = refl; handed = omega arith; faults = omega arith; drifts = omega arith; no_drift = λ is. refl; unread = omega arith };
    cursors = refl;
    reading = λ k is. record { file = refl; read = refl };
    asked = refl;
    handed = refl;
    faults = refl;
    drifts = refl;
    unread = refl;
    others = λ name ne. ap (option_map attached_of) (elsewhere name ne);
    attached = (
      None,
      ap (option_map attached_of) here
          ∙ ap Some ((λ i. attached (of i) (made_rows (seeded i) (many i)) (many i)) ∙ sym (λ i. record { ty = ty; rows = told_rows (Some (stored i)); count = rows; kept = None })),
    );
    kept = λ anew. absurd cc;
    count = λ all is. sym (ap length (all_are all is) ∙ rows_length seed 0 rows);
    unique = λ is_unique is_set all is. subst (IsDistinct same_value) (sym (all_are all is)) (rows_distinct seed 0 rows);
    typed = λ all is. subst (λ t. AllByRecursion (Inhabits t) all) (sym (item_is ty suits)) (subst (AllByRecursion (Inhabits made_type)) (sym (all_are all is)) (rows_typed seed 0 rows));
    refused = tt;
    missing = λ is. absurd (no_other Missing (λ all e. cc) is);
    bad = λ place is. no_other (Bad place) (λ all e. cc) is;
    long = λ most is. no_other (Long most) (λ all e. cc) is;
    deep = λ place is. no_other (Deep place) (λ all e. cc) is;
    failed = λ is. absurd cc;
    bad_source = λ place is. absurd cc;
    too_long = λ most is. absurd cc;
    too_deep = λ place is. absurd cc;
    no_change = λ d is. cc;
  }

-- ---- `start`

module _ (sources : Sources) (cursors : List (Option Open)) (asked : List (Ask × ℕ)) (handed : ℕ) where
  opens_at : (ask : Ask) (o : Open) → CanStart (made_state sources cursors asked handed) ask → OpensAt sources ask o → IsOpened ask (made_state sources cursors asked handed) (cursor_of o)
  opens_at (asks.Sql text) o can opens = absurd (let no : false ≡ true = can.answerable.2 in cc)
  opens_at (asks.Rows source keep tests) o can opens = λ a is.
      let s = opens.source in
      let same : attached_of s ≡ a = same_Some _ _ (sym (ap (option_map attached_of) opens.found) ∙ is) in
      let item : item_of (ground_of s.ty) ≡ made_type = item_is s.ty s.typed in
      let answerable = can.answerable in
      let this : answerable.0 ≡ attached_of s = same_Some _ _ (sym answerable.1 ∙ ap (option_map attached_of) opens.found) in
      let whole = only_whole made_kind.abilities (ground_of answerable.0.ty) source keep tests refl refl answerable.2 in
      let keep_is : keep ≡ columns made_type = whole.0 ∙ ap (λ (b : Attached). columns (item_of (ground_of b.ty))) this ∙ ap columns item in
      let many : o.source.rows - o.at ≡ s.rows = omega (arith, opens.rows, opens.start) in
      let all : left_of o ≡ made_rows s.seed s.rows = λ i. rows_from (opens.seed i) (opens.start i) (many i) in
      let shown : answers (made_rows s.seed s.rows) keep tests ≡ made_rows s.seed s.rows =
      (λ i. answers (made_rows s.seed s.rows) (keep_is i) (whole.1 i)) ∙ whole_rows made_type (made_rows s.seed s.rows) (rows_typed s.seed 0 s.rows) in
      let few = s.few in
      subst (λ a. IsFresh keep tests a (cursor_of o)) same (record {
        ty = sym (ap (shown_type keep) item ∙ ap (λ ls. shown_type ls made_type) keep_is ∙ whole_type made_type);
        left = (made_rows s.seed s.rows, ap Some all, subst (λ rows. InOrder (kind_of (ground_of s.ty)) rows (made_rows s.seed s.rows)) (sym shown) (in_order (kind_of (ground_of s.ty)) (made_rows s.seed s.rows)));
        most = omega (arith, opens.rows);
        whole = λ none. omega (arith, opens.rows, opens.start);
        told = λ rows is. sym (ap length (sym (same_Some _ _ is)) ∙ rows_length o.source.seed o.at (o.source.rows - o.at));
        bound = omega (arith, opens.rows, few);
      })

  module _ (cursors' : List (Option Open)) (asked' : List (Ask × ℕ)) (ask : Ask) (n : ℕ) (o : Open) where
    pub start_done : CanStart (made_state sources cursors asked handed) ask → OpensAt sources ask o → n ≡ length cursors → cursors' ≡ cursors ++ Some o ∷ [] → asked' ≡ with_ask ask asked
        → Starts ask (Ok n) (made_state sources cursors asked handed) (made_state sources cursors' asked' handed)
    start_done can opens last grown counted = record {
      keeps = record { kind = refl; handed = omega arith; faults = omega arith; drifts = omega arith; no_drift = λ is. refl; unread = omega arith };
      attached = refl;
      reading = λ k is. record { file = refl; read = refl };
      handed = refl;
      faults = refl;
      drifts = refl;
      unread = refl;
      opens = record {
        free = ap (option_map cursor_of) (added_free cursors cursors' n o last grown);
        opened = cursor_of o;
        now = ap (option_map cursor_of) (added_now cursors cursors' n o last grown);
        ask_kept = opens.ask_is;
        fresh = opens_at ask o can opens;
        others = λ k ne. ap (option_map cursor_of) (added_others cursors cursors' n o last grown k ne);
        anew = λ is. absurd cc;
        unread = λ r is. absurd (none-some _ is);
        asked = counted;
      };
      refused = tt;
      failed = λ is. absurd cc;
      no_other = tt;
    }

-- ---- `pull`

module _ (sources : Sources) (cursors cursors' : List (Option Open)) (asked : List (Ask × ℕ)) (handed handed' cursor most n : ℕ) (into into' : List Value) where
  module _ (o o' : Open) (is : slice_get cursors cursor ≡ Some (Some o)) (made : cursors' ≡ set cursors cursor (Some o')) (hand : HandsNext most into into' o o' n) (count : handed' ≡ raised_by n handed) (fits : handed < 2 ^ 64) (room : 0 < most) where
    abbrev rows : List Value
    rows = rows_from o.source.seed o.at n

    size : length rows ≡ n
    size = rows_length o.source.seed o.at n

    stays : o'.source.rows ≡ o.source.rows
    stays = ap (λ (s : Source). s.rows) hand.source

    left' : left_of o' ≡ rows_from o.source.seed (o.at + n) (o.source.rows - (o.at + n))
    left' = λ i. rows_from (hand.source i).seed (hand.at i) ((hand.source i).rows - hand.at i)

    split : left_of o ≡ rows ++ left_of o'
    split =
        let within = o'.within in
        let whole : o.source.rows - o.at ≡ n + (o.source.rows - (o.at + n)) = omega (arith, within, stays, hand.at) in
        rows_split o.source.seed o.at n (o.source.rows - (o.at + n)) (o.source.rows - o.at) whole ∙ ap (λ more. rows ++ more) (sym left')

    none_left : o'.at ≡ o.source.rows → left_of o' ≡ []
    none_left e = let none : o'.source.rows - o'.at ≡ 0 = omega (arith, stays, e) in ap (rows_from o'.source.seed o'.at) none

    hands : 0 < n → Hands most rows (cursor_of o) (cursor_of o')
    hands some = let within = o'.within in record {
      ask = hand.ask;
      ty = refl;
      some = omega (arith, some, size);
      most = omega (arith, hand.few, size);
      typed = rows_typed o.source.seed o.at n;
      bound = omega (arith, within, stays, hand.at, size);
      left = λ all e. (left_of o', sym (same_Some _ _ e) ∙ split, refl, ⊎_elim (λ m. inl (size ∙ m)) (λ m. inr (none_left m)) hand.all);
      untold = λ e. absurd cc;
    }

    cursor_is : (c : Cursor) → cursor_at cursors cursor ≡ Some c → cursor_of o ≡ c
    cursor_is c has = same_Some _ _ (sym (ap (λ x. option_map cursor_of x) here) ∙ has)
      where
        here : open_at cursors cursor ≡ Some o
        here = search

    more : 0 < n → (c : Cursor) → cursor_at cursors cursor ≡ Some c → PullsMore cursor most into into' c (made_state sources cursors asked handed) (made_state sources cursors' asked handed')
    more some c has = subst (λ c. PullsMore cursor most into into' c (made_state sources cursors asked handed) (made_state sources cursors' asked handed')) (cursor_is c has) (record {
      rows = rows;
      then = cursor_of o';
      appended = hand.appended;
      now = ap (option_map cursor_of) (changed_now cursors cursors' cursor o o' is made);
      hands = hands some;
      handed = count ∙ ap (λ k. raised_by k handed) (sym size);
      stated = λ r. absurd (none-some _ r.is_read);
    })

    none : n ≡ 0 → (c : Cursor) → cursor_at cursors cursor ≡ Some c → PullsNone cursor into into' c (made_state sources cursors asked handed) (made_state sources cursors' asked handed')
    none zero_is c has =
        let within = o.within in
        let all : o'.at ≡ o.source.rows = ⊎_elim (λ m. absurd (omega (arith, m, zero_is, room))) (λ m. m) hand.all in
        let at_end : o.source.rows - o.at ≡ 0 = omega (arith, all, hand.at, zero_is) in
        let empty : left_of o ≡ [] = ap (rows_from o.source.seed o.at) at_end in
        let no_rows : rows ≡ [] = ap (rows_from o.source.seed o.at) zero_is in
        subst (λ c. PullsNone cursor into into' c (made_state sources cursors asked handed) (made_state sources cursors' asked handed')) (cursor_is c has) (record {
          same = hand.appended ∙ ap (λ more. into ++ more) no_rows ∙ append-nil into;
          spent = λ all e. sym (same_Some _ _ e) ∙ empty;
          over = inl at_end;
          now = ap (option_map cursor_of) (changed_now cursors cursors' cursor o o' is made) ∙ ap Some (emptied_is (none_left all ∙ sym empty) (omega (arith, stays, all)));
          handed = omega (arith, count, fits, zero_is);
          unchanged = λ r. absurd (none-some _ r.is_read);
        })
      where
        emptied_is : left_of o' ≡ left_of o → o'.source.rows - o'.at ≡ 0 → cursor_of o' ≡ emptied (cursor_of o)
        emptied_is e z = λ i. record { ask = hand.ask i; ty = made_type; left = Some (e i); bound = z i }

    answer : (some : Bool) → nat_lt 0 n ≡ some → (c : Cursor) → cursor_at cursors cursor ≡ Some c → PullResult cursor most into into' c (Ok some) (made_state sources cursors asked handed) (made_state sources cursors' asked handed')
    answer true test c has = more (grind (arith, nat_tests)) c has
    answer false test c has = none (grind (arith, nat_tests)) c has

    -- rows were appended, or none was left
    pub pull_done : Pulls cursor most into into' (Ok (nat_lt 0 n)) (made_state sources cursors asked handed) (made_state sources cursors' asked handed')
    pull_done = record {
      keeps = record { kind = refl; handed = omega (arith, count, fits); faults = omega arith; drifts = omega arith; no_drift = λ is. refl; unread = omega arith };
      attached = refl;
      asked = refl;
      faults = refl;
      drifts = refl;
      reads = refl;
      same_file = λ is_open. refl;
      others_reading = λ k ne is_open. record { file = refl; read = refl };
      unread = refl;
      others = λ k ne. ap (option_map cursor_of) (changed_others cursors cursors' cursor o o' is made k ne);
      answer = answer (nat_lt 0 n) refl;
    }

-- want of memory closes the cursor
pub pull_stopped : (sources : Sources) (cursors cursors' : List (Option Open)) (o : Option Open) (asked : List (Ask × ℕ)) (handed cursor most : ℕ) (into into' : List Value)
    → open_at cursors' cursor ≡ None → ((k : ℕ) → k ≢ cursor → open_at cursors' k ≡ open_at (set cursors cursor o) k) → into' ≡ into
    → Pulls cursor most into into' (Err error.NoMemory) (made_state sources cursors asked handed) (made_state sources cursors' asked handed)
pull_stopped sources cursors cursors' o asked handed cursor most into into' closed others same = record {
  keeps = record { kind = refl; handed = omega arith; faults = omega arith; drifts = omega arith; no_drift = λ is. refl; unread = omega arith };
  attached = refl;
  asked = refl;
  faults = refl;
  drifts = refl;
  reads = refl;
  same_file = λ is_open. refl;
  others_reading = λ k ne is_open. record { file = refl; read = refl };
  unread = refl;
  others = λ k ne. ap (option_map cursor_of) (others k ne ∙ replaced_other cursors cursor k o ne);
  answer = λ c has. record {
    same = same;
    closed = ap (option_map cursor_of) closed;
    handed = refl;
    cause = tt;
    drifted = λ d drift. absurd cc;
    ahead = λ d drift. absurd cc;
    shown = λ d drift. absurd cc;
    joined_drifted = λ d drift. absurd cc;
  };
}
