-- Cursors of a server hand rows, and are closed.
use Rattle.std.proofs.Common.{◌≡◌, ◌≢◌, ◌⊎◌, ◌<◌, ◌+◌, ◌^◌, ℕ, Bool, true, false, List, [], ◌++◌, length, set, Option, Some, None, Ok, Err, inl, inr, refl, sym, ap, ◌∙◌, subst, arith, slice_get, length-append, append-nil, nat_lt}
use Rattle.std.specs.List.{AllByRecursion}
use Rattle.std.specs.Option.{option_map}
use Rattle.std.proofs.lemmas.Bool.Decides.{nat_tests}
use Rattle.std.proofs.lemmas.Grind.{common_steps}
use Rattle.std.proofs.lemmas.Option.{same_Some}
use Rattle.kl_value.specs.declared.Value.{Value}
use Rattle.kl_outside.specs.Files.{FilesState}
use Rattle.kl_outcome.specs.Typed.{Inhabits}
use Rattle.kl_ask.specs.Asked.{raised_by}
use Rattle.kl_ask.specs.Cursors.{open_at}
use Rattle.kl_ask.specs.Driver.{Cursor, Hands, PullResult, Pulls, PullsMore, PullsNone}
use Rattle.kl_ask.specs.declared.ask.Ask.{Ask}
use Rattle.kl_ask.specs.declared.ask.DriverError.TheVariants as error
use Rattle.kl_ask.proofs.Opened.{changed_now, changed_others, replaced_other}
use Rattle.kl_flat.specs.Flat.{Sources, told_only}
use Rattle.kl_flat.proofs.Shown.{all_front}
use Rattle.kl_sqlserve.specs.Hands.{HandsRows}
use Rattle.kl_sqlserve.specs.Server.{cursor_of, rows_left_in, sql_state, type_of}
use Rattle.kl_sqlserve.specs.declared.joined.Open.{Open}
use Rattle.kl_sqlserve.proofs.Typed.{left_has}

reads_none : {A : Type 0} {x : A} → None ≡ Some x → ⊥
reads_none e = cc

module _ (most n : ℕ) (into into' : List Value) (o o' : Open) (hand : HandsRows most into into' o o' n) where
  sizes : length (rows_left_in o) ≡ length hand.taken + length (rows_left_in o')
  sizes = ap length hand.left ∙ length-append hand.taken (rows_left_in o')

  hands : {A : Type 0} (told : Option A) → 0 < n → Hands most hand.taken (cursor_of told o) (cursor_of told o')
  hands told some = record {
    ask = hand.ask;
    ty = hand.ty;
    some = omega (arith, some, hand.size);
    most = hand.few;
    typed = all_front _ hand.taken (rows_left_in o') (subst (AllByRecursion (Inhabits (type_of o))) hand.left (left_has o));
    bound = omega (arith, sizes);
    left = left told;
    untold = untold told;
  }
    where
      left : {A : Type 0} (told : Option A) (all : List Value) → told_only told (rows_left_in o) ≡ Some all
          → (rest : List Value) × (all ≡ hand.taken ++ rest) × (told_only told (rows_left_in o') ≡ Some rest) × ((length hand.taken ≡ most) ⊎ (rest ≡ []))
      left None all is = absurd cc
      left (Some t) all is = (rows_left_in o', sym (same_Some _ _ is) ∙ hand.left, refl, hand.all)

      untold : {A : Type 0} (told : Option A) → told_only told (rows_left_in o) ≡ None → told_only told (rows_left_in o') ≡ None
      untold None is = refl
      untold (Some t) is = absurd cc

  -- no row was left
  module _ (none : n ≡ 0) (room : 0 < most) where
    no_rows : hand.taken ≡ []
    no_rows = let few : length hand.taken ≡ 0 = omega (arith, hand.size, none) in grind (arith, common_steps)

    none_then : rows_left_in o' ≡ []
    none_then = elim (hand.all) [ inl e ↦ absurd (omega (arith, e, hand.size, none, room)) | inr e ↦ e ]

    none_now : rows_left_in o ≡ []
    none_now = hand.left ∙ (λ i. no_rows i ++ none_then i)

    spent : {A : Type 0} (told : Option A) (all : List Value) → told_only told (rows_left_in o) ≡ Some all → all ≡ []
    spent None all is = absurd cc
    spent (Some t) all is = sym (same_Some _ _ is) ∙ none_now

module _ (f : FilesState) (sources : Sources) (cursors cursors' : List (Option Open)) (asked : List (Ask × ℕ)) (handed handed' unread cursor most n : ℕ) (into into' : List Value) where
  module _ (o o' : Open) (is : slice_get cursors cursor ≡ Some (Some o)) (made : cursors' ≡ set cursors cursor (Some o')) (hand : HandsRows most into into' o o' n) (count : handed' ≡ raised_by n handed) (fits : handed < 2 ^ 64) (room : 0 < most) where
    cursor_is : (c : Cursor) → option_map (cursor_of f.told) (open_at cursors cursor) ≡ Some c → cursor_of f.told o ≡ c
    cursor_is c has = same_Some _ _ (sym (ap (λ x. option_map (cursor_of f.told) x) here) ∙ has)
      where
        here : open_at cursors cursor ≡ Some o
        here = search

    more : 0 < n → (c : Cursor) → option_map (cursor_of f.told) (open_at cursors cursor) ≡ Some c → PullsMore cursor most into into' c (sql_state f sources cursors asked handed unread) (sql_state f sources cursors' asked handed' unread)
    more some c has = subst (λ c. PullsMore cursor most into into' c (sql_state f sources cursors asked handed unread) (sql_state f sources cursors' asked handed' unread)) (cursor_is c has) (record {
      rows = hand.taken;
      then = cursor_of f.told o';
      appended = hand.appended;
      now = ap (option_map (cursor_of f.told)) (changed_now cursors cursors' cursor o o' is made);
      hands = hands most n into into' o o' hand f.told some;
      handed = count ∙ ap (λ k. raised_by k handed) hand.size;
      stated = λ r. absurd (reads_none r.is_read);
    })

    none : n ≡ 0 → (c : Cursor) → option_map (cursor_of f.told) (open_at cursors cursor) ≡ Some c → PullsNone cursor into into' c (sql_state f sources cursors asked handed unread) (sql_state f sources cursors' asked handed' unread)
    none zero_is c has = subst (λ c. PullsNone cursor into into' c (sql_state f sources cursors asked handed unread) (sql_state f sources cursors' asked handed' unread)) (cursor_is c has) (record {
      same = hand.appended ∙ ap (λ more. into ++ more) (no_rows most n into into' o o' hand zero_is room) ∙ append-nil into;
      spent = spent most n into into' o o' hand zero_is room f.told;
      over = inl (ap length (none_now most n into into' o o' hand zero_is room));
      now = ap (option_map (cursor_of f.told)) (changed_now cursors cursors' cursor o o' is made) ∙ ap Some (λ i. record {
        ask = hand.ask i;
        ty = hand.ty i;
        left = told_only f.told ((none_then most n into into' o o' hand zero_is room ∙ sym (none_now most n into into' o o' hand zero_is room)) i);
        bound = length (none_then most n into into' o o' hand zero_is room i);
      });
      handed = omega (arith, count, fits, zero_is);
      unchanged = λ r. absurd (reads_none r.is_read);
    })

    answer : (some : Bool) → nat_lt 0 n ≡ some → (c : Cursor) → option_map (cursor_of f.told) (open_at cursors cursor) ≡ Some c
        → PullResult cursor most into into' c (Ok some) (sql_state f sources cursors asked handed unread) (sql_state f sources cursors' asked handed' unread)
    answer true test c has = more (grind (arith, nat_tests)) c has
    answer false test c has = none (grind (arith, nat_tests)) c has

    -- rows were appended, or none was left
    pub pull_done : Pulls cursor most into into' (Ok (nat_lt 0 n)) (sql_state f sources cursors asked handed unread) (sql_state f sources cursors' asked handed' unread)
    pull_done = record {
      keeps = record { kind = refl; handed = omega (arith, count, fits); faults = omega arith; drifts = omega arith; no_drift = λ is. refl; unread = omega arith };
      attached = refl;
      asked = refl;
      faults = refl;
      drifts = refl;
      unread = refl;
      others = λ k ne. ap (option_map (cursor_of f.told)) (changed_others cursors cursors' cursor o o' is made k ne);
      reads = refl;
      same_file = λ is. refl;
      others_reading = λ k ne is. record { file = refl; read = refl };
      answer = answer (nat_lt 0 n) refl;
    }

-- want of memory closes the cursor
pub pull_stopped : (f : FilesState) (sources : Sources) (cursors cursors' : List (Option Open)) (o : Option Open) (asked : List (Ask × ℕ)) (handed unread cursor most : ℕ) (into into' : List Value)
    → open_at cursors' cursor ≡ None → ((k : ℕ) → k ≢ cursor → open_at cursors' k ≡ open_at (set cursors cursor o) k) → into' ≡ into
    → Pulls cursor most into into' (Err error.NoMemory) (sql_state f sources cursors asked handed unread) (sql_state f sources cursors' asked handed unread)
pull_stopped f sources cursors cursors' o asked handed unread cursor most into into' closed others same = record {
  keeps = record { kind = refl; handed = omega arith; faults = omega arith; drifts = omega arith; no_drift = λ is. refl; unread = omega arith };
  attached = refl;
  asked = refl;
  faults = refl;
  drifts = refl;
  unread = refl;
  others = λ k ne. ap (option_map (cursor_of f.told)) (others k ne ∙ replaced_other cursors cursor k o ne);
  reads = refl;
  same_file = λ is. refl;
  others_reading = λ k ne is. record { file = refl; read = refl };
  answer = λ c has. record {
    same = same;
    closed = ap (option_map (cursor_of f.told)) closed;
    handed = refl;
    cause = tt;
    drifted = λ d drift. absurd cc;
    ahead = λ d drift. absurd cc;
    shown = λ d drift. absurd cc;
    joined_drifted = λ d drift. absurd cc;
  };
}
