-- Each spelling leads a machine on to what it spells.
use Rattle.std.proofs.Common.{◌≡◌, ℕ, ◌+◌, ◌*◌, ◌<◌, ◌≤◌, suc, zero, Bool, true, false, List, [], ◌∷◌, ◌++◌, length, refl, sym, ap, subst, ◌∙◌, arith, ◌==◌, nat_le, inl, inr, Result, Ok, Err, ℤ, append_assoc, append-nil, zero-add}
use Rattle.std.specs.Char.{is_ascii_digit, is_ascii_alphabetic, digit_value}
use Rattle.std.specs.Int.{w64}
use Rattle.std.specs.Prelude.{FitsSigned}
use Rattle.std.specs.List.{list_all}
use Rattle.std.specs.Str.Parse.{AllDigits, digits_value_after, digits_value}
use Rattle.std.proofs.lemmas.Bool.{and_parts}
use Rattle.kl_base.specs.Word.{is_word, is_word_byte}
use Rattle.kl_value.specs.declared.Value.{Value}
use Rattle.kl_value.specs.declared.Value.TheVariants as value
use Rattle.kl_value.specs.declared.Kind.{Kind}
use Rattle.kl_value.specs.declared.Kind.TheVariants as kind
use Rattle.kl_value.specs.Canon.{canonical}
use Rattle.kl_base.specs.Fields.{LabelsDiffer}
use Rattle.kl_value.specs.Quoted.{Part, Parts}
use Rattle.kl_exchange.proofs.Pairs.{Pair, fields_are, differ_from_fields, fresh_label}
use Rattle.kl_exchange.specs.Fields.{fields_of}
use Rattle.kl_exchange.proofs.Bytes.{digit_is, digit_not_blank, blank_not_digit, blank_not_word, blank_not_bar, letter_not_blank, letter_not_bar, letter_not_close, not_equal, at_most, below, after_ge, fits_magnitude, escape_not_x, IsFirst, first_digit_is}
use Rattle.kl_value.specs.Written.{opening, closing}
use Rattle.kl_exchange.specs.Grammar.{is_blank, Blank, Padded, More, Listed, word_of, sign_of, signed, SpellsInt, SpellsPlain, SpellsLabel, SpellsField, SpellsBracket, Spells, IsItem}
use Rattle.kl_exchange.specs.Machine.{Brackets, goes, run, Run, more, ends, fails, deep, followed, advanced, value_due, opens_bracket, opened, closes, ends_closing, behind_brace, behind_bracket, label_due, record_opened, named, in_name, in_word, behind_minus, after_item, after_field, after_value, in_digits, in_text, behind_escape, hex_due, low_hex_due, greatest_magnitude, has_named, frame_of}
use Rattle.kl_exchange.specs.declared.machine.Machine.{Machine}
use Rattle.kl_exchange.specs.declared.machine.Frame.TheVariants as frame
use Rattle.kl_exchange.specs.declared.machine.Holder.{Holder}
use Rattle.kl_exchange.specs.declared.machine.Holder.TheVariants as holder
use Rattle.kl_exchange.specs.declared.machine.Phase.{Phase}
use Rattle.kl_exchange.specs.declared.machine.Phase.TheVariants as phase
use Rattle.kl_exchange.specs.Machine.{Step}
use Rattle.kl_exchange.specs.declared.machine.Stop.{Stop}
use Rattle.kl_exchange.specs.declared.machine.Stop.TheVariants as stop

-- a run over two parts
abbrev pub extended : ℕ → Run → List ℕ → Run
extended L (more m) ys = run L ys m
extended L (ends v rest) ys = ends v (rest ++ ys)
extended L (fails rest) ys = fails (rest ++ ys)
extended L (deep rest) ys = deep (rest ++ ys)

followed_append : (L : ℕ) (o : Result Step Stop) (b : ℕ) (xs ys : List ℕ) → ((m : Machine) → run L (xs ++ ys) m ≡ extended L (run L xs m) ys)
    → followed o b (xs ++ ys) (λ n. run L (xs ++ ys) n) ≡ extended L (followed o b xs (λ n. run L xs n)) ys
followed_append L (Ok (Step.Goes m)) b xs ys again = again m
followed_append L (Ok (Step.Ends v)) b xs ys again = refl
followed_append L (Err stop.Bad) b xs ys again = refl
followed_append L (Err stop.TooDeep) b xs ys again = refl
followed_append L (Err stop.NoMemory) b xs ys again = refl

pub run_append : (L : ℕ) (xs ys : List ℕ) (m : Machine) → run L (xs ++ ys) m ≡ extended L (run L xs m) ys
run_append L [] ys m = refl
run_append L (b ∷ xs) ys m = followed_append L (advanced L m.stack m.phase b) b xs ys (λ n. run_append L xs ys n)

abbrev pub at : Brackets → Phase → Machine
at st p = record { stack = st; phase = p }

module _ (L : ℕ) where
  -- one byte
  pub go : (st : Brackets) (p : Phase) (b : ℕ) (bytes : List ℕ) (to : Brackets) (q : Phase) → advanced L st p b ≡ goes to q
      → run L (b ∷ bytes) (at st p) ≡ run L bytes (at to q)
  go st p b bytes to q e = ap (λ o. followed o b bytes (λ n. run L bytes n)) e

  -- the same byte at two machines
  pub same_step : (st to : Brackets) (p q : Phase) (b : ℕ) (bytes : List ℕ) → advanced L st p b ≡ advanced L to q b
      → run L (b ∷ bytes) (at st p) ≡ run L (b ∷ bytes) (at to q)
  same_step st to p q b bytes e = ap (λ o. followed o b bytes (λ n. run L bytes n)) e

  -- white space, where it changes nothing
  pub blanks : (st : Brackets) (p : Phase) → ((b : ℕ) → is_blank b ≡ true → advanced L st p b ≡ goes st p)
      → (bs rest : List ℕ) → Blank bs → run L (bs ++ rest) (at st p) ≡ run L rest (at st p)
  blanks st p stays [] rest blank = refl
  blanks st p stays (b ∷ bs) rest blank = go st p b (bs ++ rest) st p (stays b blank.0) ∙ blanks st p stays bs rest blank.1

  -- where white space changes nothing
  value_blank : (st : Brackets) (b : ℕ) → is_blank b ≡ true → value_due L st b ≡ goes st phase.Value
  unfolding value_due
  value_blank st b e = rw e

  after_blank : (st : Brackets) (v : Value) (b : ℕ) → is_blank b ≡ true → after_value st v b ≡ goes st (phase.After v)
  unfolding after_value
  after_blank st v b e = rw e

  opened_blank : (st : Brackets) (k : Kind) (b : ℕ) → is_blank b ≡ true → opened L st k b ≡ goes st (phase.Opened k)
  unfolding opened
  opened_blank st k b e = rw e

  record_blank : (st : Brackets) (b : ℕ) → is_blank b ≡ true → record_opened st b ≡ goes st phase.RecordOpened
  unfolding record_opened
  record_blank st b e = rw e

  label_blank : (st : Brackets) (h : Holder) (b : ℕ) → is_blank b ≡ true → label_due st h b ≡ goes st (phase.Label h)
  unfolding label_due
  label_blank st h b e = rw e

  named_blank : (st : Brackets) (h : Holder) (l : List ℕ) (b : ℕ) → is_blank b ≡ true → named st h l b ≡ goes st (phase.Named h l)
  unfolding named
  named_blank st h l b e = rw e

  -- what comes next ends a number
  pub record Stops (rest : List ℕ) : Type 0 where
    pub first : ℕ
    pub others : List ℕ
    pub is : rest ≡ first ∷ others
    pub no_digit : is_ascii_digit first ≡ false

  stops_blanks : (bs rest : List ℕ) → Blank bs → Stops rest → Stops (bs ++ rest)
  stops_blanks [] rest blank stops = stops
  stops_blanks (b ∷ bs) rest blank stops = record { first = b; others = bs ++ rest; is = refl; no_digit = blank_not_digit b blank.0 }

  -- truth values
  run_word : (st : Brackets) (b : Bool) (rest : List ℕ) → run L (word_of b ++ rest) (at st phase.Value) ≡ run L rest (at st (phase.After (value.Bool b)))
  unfolding value_due in_word
  run_word st true rest = refl
  run_word st false rest = refl

  -- numbers
  run_digits : (st : Brackets) (negative : Bool) (m : ℕ) (ds rest : List ℕ) → AllDigits 10 ds → digits_value_after 10 m ds ≤ greatest_magnitude negative
      → run L (ds ++ rest) (at st (phase.Digits negative m)) ≡ run L rest (at st (phase.Digits negative (digits_value_after 10 m ds)))
  unfolding in_digits
  run_digits st negative m [] rest all most = refl
  run_digits st negative m (d ∷ ds) rest all most =
      go st (phase.Digits negative m) d (ds ++ rest) st (phase.Digits negative (m * 10 + digit_value d)) one
      ∙ run_digits st negative (m * 10 + digit_value d) ds rest all.1 most
    where
      one : in_digits st negative m d ≡ goes st (phase.Digits negative (m * 10 + digit_value d))
      one =
          let small : nat_le (m * 10 + digit_value d) (greatest_magnitude negative) ≡ true = at_most _ _ (omega (arith, after_ge (m * 10 + digit_value d) ds)) in
          rw (digit_is d all.0, small)

  first_digit : (st : Brackets) (d : ℕ) → digit_value d < 10 → value_due L st d ≡ goes st (phase.Digits false (digit_value d))
  unfolding value_due
  first_digit st d h = rw (digit_not_blank d h, digit_is d h)

  minus_digit : (st : Brackets) (d : ℕ) → digit_value d < 10 → behind_minus st d ≡ goes st (phase.Digits true (digit_value d))
  unfolding behind_minus
  minus_digit st d h = rw (digit_is d h)

  minus : (st : Brackets) (rest : List ℕ) → run L (45 ∷ rest) (at st phase.Value) ≡ run L rest (at st phase.Minus)
  unfolding value_due
  minus st rest = refl

  number_ends : (st : Brackets) (negative : Bool) (m : ℕ) (rest : List ℕ) → Stops rest
      → run L rest (at st (phase.Digits negative m)) ≡ run L rest (at st (phase.After (value.Int (signed negative m))))
  unfolding in_digits
  number_ends st negative m rest stops =
      rw stops.is (same_step st st (phase.Digits negative m) (phase.After (value.Int (signed negative m))) stops.first stops.others one)
    where
      one : in_digits st negative m stops.first ≡ after_value st (value.Int (signed negative m)) stops.first
      one = rw stops.no_digit

  from_zero : (d : ℕ) (ds : List ℕ) → digits_value_after 10 (digit_value d) ds ≡ digits_value 10 (d ∷ ds)
  from_zero d ds = ap (λ m. digits_value_after 10 m ds) (sym (zero-add (digit_value d)))

  run_digits_all : (st : Brackets) (negative : Bool) (d : ℕ) (ds rest : List ℕ) → AllDigits 10 ds
      → digits_value 10 (d ∷ ds) ≤ greatest_magnitude negative → Stops rest
      → run L (ds ++ rest) (at st (phase.Digits negative (digit_value d))) ≡ run L rest (at st (phase.After (value.Int (signed negative (digits_value 10 (d ∷ ds))))))
  run_digits_all st negative d ds rest all most stops =
      run_digits st negative (digit_value d) ds rest all (subst (λ m. m ≤ greatest_magnitude negative) (sym (from_zero d ds)) most)
      ∙ (number_ends st negative (digits_value_after 10 (digit_value d) ds) rest stops
      ∙ ap (λ m. run L rest (at st (phase.After (value.Int (signed negative m))))) (from_zero d ds))

  run_signed : (st : Brackets) (negative : Bool) (ds rest : List ℕ) → 0 < length ds → AllDigits 10 ds
      → digits_value 10 ds ≤ greatest_magnitude negative → Stops rest
      → run L ((sign_of negative ++ ds) ++ rest) (at st phase.Value) ≡ run L rest (at st (phase.After (value.Int (signed negative (digits_value 10 ds)))))
  run_signed st negative [] rest some all most stops = absurd (omega arith)
  run_signed st true (d ∷ ds) rest some all most stops =
      minus st (d ∷ ds ++ rest)
      ∙ (go st phase.Minus d (ds ++ rest) st (phase.Digits true (digit_value d)) (minus_digit st d all.0)
      ∙ run_digits_all st true d ds rest all.1 most stops)
  run_signed st false (d ∷ ds) rest some all most stops =
      go st phase.Value d (ds ++ rest) st (phase.Digits false (digit_value d)) (first_digit st d all.0)
      ∙ run_digits_all st false d ds rest all.1 most stops

  run_int : (st : Brackets) (x : List ℕ) (n : ℤ) (rest : List ℕ) → SpellsInt x n → Stops rest
      → run L (x ++ rest) (at st phase.Value) ≡ run L rest (at st (phase.After (value.Int n)))
  run_int st x n rest spells stops =
      rw (spells.is, spells.value)
      (run_signed st spells.negative spells.digits rest spells.numeral.0 spells.numeral.1
      (fits_magnitude spells.negative (digits_value 10 spells.digits) (subst (FitsSigned w64) spells.value spells.fits)) stops)

  -- texts
  text_byte : (st : Brackets) (t part : List ℕ) (c : ℕ) (rest : List ℕ) → Part c part
      → run L (part ++ rest) (at st (phase.Text t)) ≡ run L rest (at st (phase.Text (t ++ c ∷ [])))
  unfolding in_text behind_escape hex_due low_hex_due
  text_byte st t part c rest (Part.plain quote slash) = rw (not_equal c 34 quote, not_equal c 92 slash)
  text_byte st t part c rest (Part.escaped {c = b} e) = rw (escape_not_x b c e, e)
  text_byte st t part c rest (Part.hex h l) = rw (h, l)

  run_text : (st : Brackets) (t inside u : List ℕ) (rest : List ℕ) → Parts u inside
      → run L (inside ++ 34 ∷ rest) (at st (phase.Text t)) ≡ run L rest (at st (phase.After (value.Text (t ++ u))))
  unfolding in_text
  run_text st t inside [] rest spells = rw (spells, append-nil t)
  run_text st t inside (c ∷ u) rest spells =
      rw (spells.2, append_assoc spells.0 spells.1 (34 ∷ rest))
      (text_byte st t spells.0 c (spells.1 ++ 34 ∷ rest) spells.3
      ∙ (run_text st (t ++ c ∷ []) spells.1 u rest spells.4
      ∙ ap (λ w. run L rest (at st (phase.After (value.Text w)))) (append_assoc t (c ∷ []) u)))

  run_plain : (st : Brackets) (x : List ℕ) (v : Value) (rest : List ℕ) → SpellsPlain x v → Stops rest
      → run L (x ++ rest) (at st phase.Value) ≡ run L rest (at st (phase.After v))
  unfolding value_due
  run_plain st x v rest (SpellsPlain.truth b is e) stops = rw (is, e) (run_word st b rest)
  run_plain st x v rest (SpellsPlain.number n spells e) stops = rw e (run_int st x n rest spells stops)
  run_plain st x v rest (SpellsPlain.text inside t is spells e) stops = rw (is, e) (quoted ∙ run_text st [] inside t rest spells)
    where
      quoted : run L ((34 ∷ (inside ++ 34 ∷ [])) ++ rest) (at st phase.Value) ≡ run L (inside ++ 34 ∷ rest) (at st (phase.Text []))
      quoted = rw (append_assoc inside (34 ∷ []) rest)

  -- the first byte of a value
  pub record Starts (x : List ℕ) : Type 0 where
    pub first : ℕ
    pub others : List ℕ
    pub is : x ≡ first ∷ others
    pub kind : IsFirst first

  signed_starts : (negative : Bool) (ds : List ℕ) → 0 < length ds → AllDigits 10 ds → Starts (sign_of negative ++ ds)
  signed_starts negative [] some all = absurd (omega arith)
  signed_starts true (d ∷ ds) some all = record { first = 45; others = d ∷ ds; is = refl; kind = record { no_blank = refl; no_bar = refl; no_brace = refl } }
  signed_starts false (d ∷ ds) some all = record { first = d; others = ds; is = refl; kind = first_digit_is d all.0 }

  plain_starts : (x : List ℕ) (v : Value) → SpellsPlain x v → Starts x
  plain_starts x v (SpellsPlain.truth true is e) = record { first = 116; others = _; is = is; kind = record { no_blank = refl; no_bar = refl; no_brace = refl } }
  plain_starts x v (SpellsPlain.truth false is e) = record { first = 102; others = _; is = is; kind = record { no_blank = refl; no_bar = refl; no_brace = refl } }
  plain_starts x v (SpellsPlain.number n spells e) = subst Starts (sym spells.is) (signed_starts spells.negative spells.digits spells.numeral.0 spells.numeral.1)
  plain_starts x v (SpellsPlain.text inside t is spells e) = record { first = 34; others = _; is = is; kind = record { no_blank = refl; no_bar = refl; no_brace = refl } }

  bracket_starts : (S : List ℕ → Value → Type 0) (x : List ℕ) (v : Value) → SpellsBracket S x v → Starts x
  bracket_starts S x v (SpellsBracket.collection kind.Set inside items is listed e) = record { first = 123; others = _; is = is; kind = record { no_blank = refl; no_bar = refl; no_brace = refl } }
  bracket_starts S x v (SpellsBracket.collection kind.Bag inside items is listed e) = record { first = 123; others = _; is = is; kind = record { no_blank = refl; no_bar = refl; no_brace = refl } }
  bracket_starts S x v (SpellsBracket.collection kind.List inside items is listed e) = record { first = 91; others = _; is = is; kind = record { no_blank = refl; no_bar = refl; no_brace = refl } }
  bracket_starts S x v (SpellsBracket.fields inside pairs sorted is listed of e) = record { first = 91; others = _; is = is; kind = record { no_blank = refl; no_bar = refl; no_brace = refl } }
  bracket_starts S x v (SpellsBracket.variant inside f is spells e) = record { first = 60; others = _; is = is; kind = record { no_blank = refl; no_bar = refl; no_brace = refl } }

  value_starts : (n : ℕ) (x : List ℕ) (v : Value) → Spells n x v → Starts x
  value_starts zero x v spells = plain_starts x v spells
  value_starts (suc n) x v (inl spells) = plain_starts x v spells
  value_starts (suc n) x v (inr spells) = bracket_starts (Spells n) x v spells

  -- labels
  run_letters : (st : Brackets) (h : Holder) (name ls rest : List ℕ) → list_all is_word_byte ls ≡ true
      → run L (ls ++ rest) (at st (phase.Name h name)) ≡ run L rest (at st (phase.Name h (name ++ ls)))
  unfolding in_name
  run_letters st h name [] rest all = rw append-nil
  run_letters st h name (b ∷ ls) rest all =
      let both = and_parts (is_word_byte b) (list_all is_word_byte ls) all in
      go st (phase.Name h name) b (ls ++ rest) st (phase.Name h (name ++ b ∷ [])) (rw both.0)
      ∙ (run_letters st h (name ++ b ∷ []) ls rest both.1
      ∙ ap (λ l. run L rest (at st (phase.Name h l))) (append_assoc name (b ∷ []) ls))

  -- what follows a label: white space and `=`
  record EndsName (rest : List ℕ) : Type 0 where
    first : ℕ
    others : List ℕ
    is : rest ≡ first ∷ others
    no_word : is_word_byte first ≡ false

  ends_name : (bs rest : List ℕ) → Blank bs → EndsName (bs ++ 61 ∷ rest)
  ends_name [] rest blank = record { first = 61; others = rest; is = refl; no_word = refl }
  ends_name (b ∷ bs) rest blank = record { first = b; others = bs ++ 61 ∷ rest; is = refl; no_word = blank_not_word b blank.0 }

  name_ends : (st : Brackets) (h : Holder) (l rest : List ℕ) → is_word l ≡ true → has_named h l ≡ false → EndsName rest
      → run L rest (at st (phase.Name h l)) ≡ run L rest (at st (phase.Named h l))
  unfolding in_name
  name_ends st h l rest word fresh stop =
      rw stop.is (same_step st st (phase.Name h l) (phase.Named h l) stop.first stop.others (rw (stop.no_word, word, fresh)))

  run_equals : (st : Brackets) (h : Holder) (l rest : List ℕ) → run L (61 ∷ rest) (at st (phase.Named h l)) ≡ run L rest (at (frame_of h l ∷ st) phase.Value)
  unfolding named
  run_equals st h l rest = refl

  label_first : (st : Brackets) (h : Holder) (b : ℕ) → is_ascii_alphabetic b ≡ true → label_due st h b ≡ goes st (phase.Name h (b ∷ []))
  unfolding label_due
  label_first st h b letter = rw (letter_not_blank b letter, letter)

  run_label : (st : Brackets) (h : Holder) (l bs rest : List ℕ) → is_word l ≡ true → has_named h l ≡ false → Blank bs
      → run L (l ++ (bs ++ 61 ∷ rest)) (at st (phase.Label h)) ≡ run L rest (at (frame_of h l ∷ st) phase.Value)
  run_label st h [] bs rest word fresh blank = cc
  run_label st h (b ∷ l) bs rest word fresh blank =
      let both = and_parts (is_ascii_alphabetic b) (list_all is_word_byte l) word in
      go st (phase.Label h) b (l ++ (bs ++ 61 ∷ rest)) st (phase.Name h (b ∷ [])) (label_first st h b both.0)
      ∙ (run_letters st h (b ∷ []) l (bs ++ 61 ∷ rest) both.1
      ∙ (name_ends st h (b ∷ l) (bs ++ 61 ∷ rest) word fresh (ends_name bs rest blank)
      ∙ (blanks st (phase.Named h (b ∷ l)) (named_blank st h (b ∷ l)) bs (61 ∷ rest) blank
      ∙ run_equals st h (b ∷ l) rest)))

  -- LABEL "=", from where a label is due
  run_name : (st : Brackets) (h : Holder) (name l rest : List ℕ) → Padded SpellsLabel name l → has_named h l ≡ false
      → run L (name ++ 61 ∷ rest) (at st (phase.Label h)) ≡ run L rest (at (frame_of h l ∷ st) phase.Value)
  run_name st h name l rest spells fresh =
      rw (spells.is, append_assoc spells.before (spells.inside ++ spells.after) (61 ∷ rest), append_assoc spells.inside spells.after (61 ∷ rest), spells.spells.0)
      (blanks st (phase.Label h) (label_blank st h) spells.before (l ++ (spells.after ++ 61 ∷ rest)) spells.blank_before
      ∙ run_label st h l spells.after rest spells.spells.1 fresh spells.blank_after)

  record_letter : (st : Brackets) (b : ℕ) → is_ascii_alphabetic b ≡ true → record_opened st b ≡ label_due st (holder.Record []) b
  unfolding record_opened
  record_letter st b letter = rw (letter_not_blank b letter, letter_not_close b letter)

  record_word : (st : Brackets) (l rest : List ℕ) → is_word l ≡ true
      → run L (l ++ rest) (at st phase.RecordOpened) ≡ run L (l ++ rest) (at st (phase.Label (holder.Record [])))
  record_word st [] rest word = cc
  record_word st (b ∷ l) rest word =
      same_step st st phase.RecordOpened (phase.Label (holder.Record [])) b (l ++ rest)
      (record_letter st b (and_parts (is_ascii_alphabetic b) (list_all is_word_byte l) word).0)

  -- the same, at the beginning of a record
  record_name : (st : Brackets) (name l rest : List ℕ) → Padded SpellsLabel name l
      → run L (name ++ 61 ∷ rest) (at st phase.RecordOpened) ≡ run L rest (at (frame.Field [] l ∷ st) phase.Value)
  record_name st name l rest spells =
      rw (spells.is, append_assoc spells.before (spells.inside ++ spells.after) (61 ∷ rest), append_assoc spells.inside spells.after (61 ∷ rest), spells.spells.0)
      (blanks st phase.RecordOpened (record_blank st) spells.before (l ++ (spells.after ++ 61 ∷ rest)) spells.blank_before
      ∙ (record_word st l (spells.after ++ 61 ∷ rest) spells.spells.1
      ∙ run_label st (holder.Record []) l spells.after rest spells.spells.1 refl spells.blank_after))

  -- Values with brackets, where S spells the values inside.
  module _ (S : List ℕ → Value → Type 0) (n : ℕ) (starts : (x : List ℕ) (v : Value) → S x v → Starts x)
      (reads : (x : List ℕ) (v : Value) (st : Brackets) (rest : List ℕ) → S x v → n + length st ≤ L → Stops rest
      → run L (x ++ rest) (at st phase.Value) ≡ run L rest (at st (phase.After v))) where
    run_padded : (y : List ℕ) (v : Value) (st : Brackets) (rest : List ℕ) → Padded S y v → n + length st ≤ L → Stops rest
        → run L (y ++ rest) (at st phase.Value) ≡ run L rest (at st (phase.After v))
    run_padded y v st rest spells room stops =
        rw (spells.is, append_assoc spells.before (spells.inside ++ spells.after) rest, append_assoc spells.inside spells.after rest)
        (blanks st phase.Value (value_blank st) spells.before (spells.inside ++ (spells.after ++ rest)) spells.blank_before
        ∙ (reads spells.inside v st (spells.after ++ rest) spells.spells room (stops_blanks spells.after rest spells.blank_after stops)
        ∙ blanks st (phase.After v) (after_blank st v) spells.after rest spells.blank_after))

    stops_more : {A : Type 0} (P : List ℕ → A → Type 0) (bytes : List ℕ) (vs : List A) (rest : List ℕ) → More P bytes vs → Stops rest → Stops (bytes ++ rest)
    stops_more P bytes [] rest spells stops = rw spells stops
    stops_more P bytes (a ∷ others) rest spells stops = record { first = 44; others = (spells.0 ++ spells.1) ++ rest; is = ap (λ bs. bs ++ rest) spells.2; no_digit = refl }

    stops_closing : (k : Kind) (rest : List ℕ) → Stops (closing k ++ rest)
    stops_closing kind.Set rest = record { first = 125; others = rest; is = refl; no_digit = refl }
    stops_closing kind.Bag rest = record { first = 124; others = 125 ∷ rest; is = refl; no_digit = refl }
    stops_closing kind.List rest = record { first = 124; others = 93 ∷ rest; is = refl; no_digit = refl }

    -- collections
    item_closes : (st : Brackets) (k : Kind) (items : List Value) (v : Value) (rest : List ℕ)
        → run L (closing k ++ rest) (at (frame.Items k items ∷ st) (phase.After v)) ≡ run L rest (at st (phase.After (canonical k (items ++ v ∷ []))))
    unfolding after_value after_item closes ends_closing
    item_closes st kind.Set items v rest = refl
    item_closes st kind.Bag items v rest = refl
    item_closes st kind.List items v rest = refl

    item_comma : (st : Brackets) (k : Kind) (items : List Value) (v : Value) (rest : List ℕ)
        → run L (44 ∷ rest) (at (frame.Items k items ∷ st) (phase.After v)) ≡ run L rest (at (frame.Items k (items ++ v ∷ []) ∷ st) phase.Value)
    unfolding after_value after_item
    item_comma st k items v rest = refl

    run_items : (st : Brackets) (k : Kind) (items : List Value) (v : Value) (bytes : List ℕ) (vs : List Value) (rest : List ℕ)
        → More (Padded S) bytes vs → n + suc (length st) ≤ L
        → run L (bytes ++ (closing k ++ rest)) (at (frame.Items k items ∷ st) (phase.After v)) ≡ run L rest (at st (phase.After (canonical k (items ++ v ∷ vs))))
    run_items st k items v bytes [] rest spells room = rw spells (item_closes st k items v rest)
    run_items st k items v bytes (w ∷ vs) rest spells room =
        rw (spells.2, append_assoc spells.0 spells.1 (closing k ++ rest))
        (item_comma st k items v (spells.0 ++ (spells.1 ++ (closing k ++ rest)))
        ∙ (run_padded spells.0 w (frame.Items k (items ++ v ∷ []) ∷ st) (spells.1 ++ (closing k ++ rest)) spells.3 room
        (stops_more (Padded S) spells.1 vs (closing k ++ rest) spells.4 (stops_closing k rest))
        ∙ (run_items st k (items ++ v ∷ []) w spells.1 vs rest spells.4 room
        ∙ ap (λ ws. run L rest (at st (phase.After (canonical k ws)))) (append_assoc items (v ∷ []) (w ∷ vs)))))

    opened_first : (st : Brackets) (k : Kind) (b : ℕ) → IsFirst b → opened L st k b ≡ value_due L (frame.Items k [] ∷ st) b
    unfolding opened
    opened_first st kind.Set b first = rw (first.no_blank, first.no_brace)
    opened_first st kind.Bag b first = rw (first.no_blank, first.no_bar)
    opened_first st kind.List b first = rw (first.no_blank, first.no_bar)

    opened_value : (st : Brackets) (k : Kind) (x rest : List ℕ) → Starts x
        → run L (x ++ rest) (at st (phase.Opened k)) ≡ run L (x ++ rest) (at (frame.Items k [] ∷ st) phase.Value)
    opened_value st k x rest begins =
        rw begins.is (same_step st (frame.Items k [] ∷ st) (phase.Opened k) phase.Value begins.first (begins.others ++ rest) (opened_first st k begins.first begins.kind))

    opened_closes : (st : Brackets) (k : Kind) (rest : List ℕ) → run L (closing k ++ rest) (at st (phase.Opened k)) ≡ run L rest (at st (phase.After (canonical k [])))
    unfolding opened closes ends_closing
    opened_closes st kind.Set rest = refl
    opened_closes st kind.Bag rest = refl
    opened_closes st kind.List rest = refl

    run_opened : (st : Brackets) (k : Kind) (inside : List ℕ) (items : List Value) (rest : List ℕ) → Listed (Padded S) inside items
        → n + suc (length st) ≤ L
        → run L (inside ++ (closing k ++ rest)) (at st (phase.Opened k)) ≡ run L rest (at st (phase.After (canonical k items)))
    run_opened st k inside [] rest spells room =
        blanks st (phase.Opened k) (opened_blank st k) inside (closing k ++ rest) spells ∙ opened_closes st k rest
    run_opened st k inside (v ∷ vs) rest spells room =
        let p = spells.3 in
        let behind : List ℕ = spells.1 ++ (closing k ++ rest) in
        let stops : Stops behind = stops_more (Padded S) spells.1 vs (closing k ++ rest) spells.4 (stops_closing k rest) in
        rw (spells.2, append_assoc spells.0 spells.1 (closing k ++ rest), p.is, append_assoc p.before (p.inside ++ p.after) behind, append_assoc p.inside p.after behind)
        (blanks st (phase.Opened k) (opened_blank st k) p.before (p.inside ++ (p.after ++ behind)) p.blank_before
        ∙ (opened_value st k p.inside (p.after ++ behind) (starts p.inside v p.spells)
        ∙ (reads p.inside v (frame.Items k [] ∷ st) (p.after ++ behind) p.spells room (stops_blanks p.after behind p.blank_after stops)
        ∙ (blanks (frame.Items k [] ∷ st) (phase.After v) (after_blank (frame.Items k [] ∷ st) v) p.after behind p.blank_after
        ∙ run_items st k [] v spells.1 vs rest spells.4 room))))

    open_bracket : (st : Brackets) (b : ℕ) (p : Phase) → length st < L → opens_bracket L st p ≡ goes st p
    open_bracket st b p room = rw (below (length st) L room)

    -- the first byte behind `{` and `[`
    brace_as : (st : Brackets) (b : ℕ) → (b == 124) ≡ false → behind_brace L st b ≡ opened L st kind.Set b
    unfolding behind_brace
    brace_as st b e = rw e

    bracket_as : (st : Brackets) (b : ℕ) → (b == 124) ≡ false → behind_bracket st b ≡ record_opened st b
    unfolding behind_bracket
    bracket_as st b e = rw e

    record NoBar (bytes : List ℕ) : Type 0 where
      first : ℕ
      others : List ℕ
      is : bytes ≡ first ∷ others
      no_bar : (first == 124) ≡ false

    no_bar_blanks : (bs rest : List ℕ) → Blank bs → NoBar rest → NoBar (bs ++ rest)
    no_bar_blanks [] rest blank next = next
    no_bar_blanks (b ∷ bs) rest blank next = record { first = b; others = bs ++ rest; is = refl; no_bar = blank_not_bar b blank.0 }

    no_bar_padded : {A : Type 0} (P : List ℕ → A → Type 0) (y : List ℕ) (a : A) (rest : List ℕ) → Padded P y a
        → ((x : List ℕ) → P x a → (behind : List ℕ) → NoBar (x ++ behind)) → NoBar (y ++ rest)
    no_bar_padded P y a rest spells next =
        rw (spells.is, append_assoc spells.before (spells.inside ++ spells.after) rest, append_assoc spells.inside spells.after rest)
        (no_bar_blanks spells.before (spells.inside ++ (spells.after ++ rest)) spells.blank_before (next spells.inside spells.spells (spells.after ++ rest)))

    no_bar_starts : (x rest : List ℕ) → Starts x → NoBar (x ++ rest)
    no_bar_starts x rest begins = record { first = begins.first; others = begins.others ++ rest; is = ap (λ bs. bs ++ rest) begins.is; no_bar = begins.kind.no_bar }

    no_bar_word : (l rest : List ℕ) → is_word l ≡ true → NoBar (l ++ rest)
    no_bar_word [] rest word = cc
    no_bar_word (b ∷ l) rest word = record { first = b; others = l ++ rest; is = refl; no_bar = letter_not_bar b (and_parts (is_ascii_alphabetic b) (list_all is_word_byte l) word).0 }

    no_bar_items : (inside : List ℕ) (items : List Value) (rest : List ℕ) → Listed (Padded S) inside items → NoBar (inside ++ 125 ∷ rest)
    no_bar_items inside [] rest spells = no_bar_blanks inside (125 ∷ rest) spells (record { first = 125; others = rest; is = refl; no_bar = refl })
    no_bar_items inside (v ∷ vs) rest spells =
        rw (spells.2, append_assoc spells.0 spells.1 (125 ∷ rest))
        (no_bar_padded S spells.0 v (spells.1 ++ 125 ∷ rest) spells.3 (λ x s behind. no_bar_starts x behind (starts x v s)))

    no_bar_label : (l : List ℕ) (x : List ℕ) → SpellsLabel x l → (behind : List ℕ) → NoBar (x ++ behind)
    no_bar_label l x spells behind = rw spells.0 (no_bar_word l behind spells.1)

    no_bar_fields : (inside : List ℕ) (fs : List Pair) (rest : List ℕ) → Listed (SpellsField S) inside fs → NoBar (inside ++ 93 ∷ rest)
    no_bar_fields inside [] rest spells = no_bar_blanks inside (93 ∷ rest) spells (record { first = 93; others = rest; is = refl; no_bar = refl })
    no_bar_fields inside (f ∷ fs) rest spells =
        let field = spells.3 in
        rw (spells.2, append_assoc spells.0 spells.1 (93 ∷ rest), field.is, append_assoc field.name (61 ∷ field.text) (spells.1 ++ 93 ∷ rest))
        (no_bar_padded SpellsLabel field.name f.0 (61 ∷ (field.text ++ (spells.1 ++ 93 ∷ rest))) field.label (no_bar_label f.0))

    behind_opening : (st : Brackets) (k : Kind) (inside rest : List ℕ) (items : List Value) → length st < L → Listed (Padded S) inside items
        → run L (opening k ++ (inside ++ (closing k ++ rest))) (at st phase.Value) ≡ run L (inside ++ (closing k ++ rest)) (at st (phase.Opened k))
    unfolding value_due behind_brace behind_bracket
    behind_opening st kind.Set inside rest items room spells =
        let next = no_bar_items inside items rest spells in
        go st phase.Value 123 (inside ++ 125 ∷ rest) st phase.Brace (open_bracket st 123 phase.Brace room)
        ∙ rw next.is (same_step st st phase.Brace (phase.Opened kind.Set) next.first next.others (brace_as st next.first next.no_bar))
    behind_opening st kind.Bag inside rest items room spells = go st phase.Value 123 (124 ∷ inside ++ 124 ∷ 125 ∷ rest) st phase.Brace (open_bracket st 123 phase.Brace room)
    behind_opening st kind.List inside rest items room spells = go st phase.Value 91 (124 ∷ inside ++ 124 ∷ 93 ∷ rest) st phase.Bracket (open_bracket st 91 phase.Bracket room)

    run_collection : (st : Brackets) (k : Kind) (inside : List ℕ) (items : List Value) (rest : List ℕ) → Listed (Padded S) inside items
        → n + suc (length st) ≤ L
        → run L ((opening k ++ (inside ++ closing k)) ++ rest) (at st phase.Value) ≡ run L rest (at st (phase.After (canonical k items)))
    run_collection st k inside items rest spells room =
        rw (append_assoc (opening k) (inside ++ closing k) rest, append_assoc inside (closing k) rest)
        (behind_opening st k inside rest items (omega arith) spells ∙ run_opened st k inside items rest spells room)

    -- records
    field_closes : (st : Brackets) (fs : List Pair) (l : List ℕ) (v : Value) (rest : List ℕ)
        → run L (93 ∷ rest) (at (frame.Field fs l ∷ st) (phase.After v)) ≡ run L rest (at st (phase.After (value.Rec (fields_of (fs ++ (l, v) ∷ [])))))
    unfolding after_value after_field
    field_closes st fs l v rest = refl

    field_comma : (st : Brackets) (fs : List Pair) (l : List ℕ) (v : Value) (rest : List ℕ)
        → run L (44 ∷ rest) (at (frame.Field fs l ∷ st) (phase.After v)) ≡ run L rest (at st (phase.Label (holder.Record (fs ++ (l, v) ∷ []))))
    unfolding after_value after_field
    field_comma st fs l v rest = refl

    stops_bracket : (rest : List ℕ) → Stops (93 ∷ rest)
    stops_bracket rest = record { first = 93; others = rest; is = refl; no_digit = refl }

    run_fields : (st : Brackets) (fs : List Pair) (l : List ℕ) (v : Value) (bytes : List ℕ) (gs : List Pair) (rest : List ℕ)
        → More (SpellsField S) bytes gs → LabelsDiffer (fs ++ (l, v) ∷ gs) → n + suc (length st) ≤ L
        → run L (bytes ++ 93 ∷ rest) (at (frame.Field fs l ∷ st) (phase.After v)) ≡ run L rest (at st (phase.After (value.Rec (fields_of (fs ++ (l, v) ∷ gs)))))
    run_fields st fs l v bytes [] rest spells differ room = rw spells (field_closes st fs l v rest)
    run_fields st fs l v bytes (g ∷ gs) rest spells differ room =
        let field = spells.3 in
        let more_fields : List Pair = fs ++ (l, v) ∷ [] in
        let behind : List ℕ = spells.1 ++ 93 ∷ rest in
        let still : LabelsDiffer (more_fields ++ g ∷ gs) = subst LabelsDiffer (sym (append_assoc fs ((l, v) ∷ []) (g ∷ gs))) differ in
        rw (spells.2, append_assoc spells.0 spells.1 (93 ∷ rest), field.is, append_assoc field.name (61 ∷ field.text) behind)
        (field_comma st fs l v (field.name ++ 61 ∷ (field.text ++ behind))
        ∙ (run_name st (holder.Record more_fields) field.name g.0 (field.text ++ behind) field.label (fresh_label more_fields g.0 g.1 gs still)
        ∙ (run_padded field.text g.1 (frame.Field more_fields g.0 ∷ st) behind field.value room (stops_more (SpellsField S) spells.1 gs (93 ∷ rest) spells.4 (stops_bracket rest))
        ∙ (run_fields st more_fields g.0 g.1 spells.1 gs rest spells.4 still room
        ∙ ap (λ hs. run L rest (at st (phase.After (value.Rec (fields_of hs))))) (append_assoc fs ((l, v) ∷ []) (g ∷ gs))))))

    no_fields : fields_of [] ≡ []
    unfolding fields_of
    no_fields = refl

    record_closes : (st : Brackets) (rest : List ℕ) → run L (93 ∷ rest) (at st phase.RecordOpened) ≡ run L rest (at st (phase.After (value.Rec [])))
    unfolding record_opened
    record_closes st rest = refl

    run_record : (st : Brackets) (inside : List ℕ) (pairs : List Pair) (rest : List ℕ) → Listed (SpellsField S) inside pairs → LabelsDiffer pairs
        → n + suc (length st) ≤ L
        → run L (inside ++ 93 ∷ rest) (at st phase.RecordOpened) ≡ run L rest (at st (phase.After (value.Rec (fields_of pairs))))
    run_record st inside [] rest spells differ room =
        blanks st phase.RecordOpened (record_blank st) inside (93 ∷ rest) spells
        ∙ (record_closes st rest ∙ ap (λ fs. run L rest (at st (phase.After (value.Rec fs)))) (sym no_fields))
    run_record st inside (f ∷ fs) rest spells differ room =
        let field = spells.3 in
        let behind : List ℕ = spells.1 ++ 93 ∷ rest in
        rw (spells.2, append_assoc spells.0 spells.1 (93 ∷ rest), field.is, append_assoc field.name (61 ∷ field.text) behind)
        (record_name st field.name f.0 (field.text ++ behind) field.label
        ∙ (run_padded field.text f.1 (frame.Field [] f.0 ∷ st) behind field.value room (stops_more (SpellsField S) spells.1 fs (93 ∷ rest) spells.4 (stops_bracket rest))
        ∙ run_fields st [] f.0 f.1 spells.1 fs rest spells.4 differ room))

    run_bracket : (st : Brackets) (inside : List ℕ) (pairs : List Pair) (rest : List ℕ) → length st < L → Listed (SpellsField S) inside pairs
        → run L (91 ∷ (inside ++ 93 ∷ rest)) (at st phase.Value) ≡ run L (inside ++ 93 ∷ rest) (at st phase.RecordOpened)
    unfolding value_due
    run_bracket st inside pairs rest room spells =
        let next = no_bar_fields inside pairs rest spells in
        go st phase.Value 91 (inside ++ 93 ∷ rest) st phase.Bracket (open_bracket st 91 phase.Bracket room)
        ∙ rw next.is (same_step st st phase.Bracket phase.RecordOpened next.first next.others (bracket_as st next.first next.no_bar))

    -- variants
    variant_closes : (st : Brackets) (l : List ℕ) (v : Value) (rest : List ℕ)
        → run L (62 ∷ rest) (at (frame.Variant l ∷ st) (phase.After v)) ≡ run L rest (at st (phase.After (value.Inj l v)))
    unfolding after_value
    variant_closes st l v rest = refl

    run_variant : (st : Brackets) (inside : List ℕ) (f : Pair) (rest : List ℕ) → SpellsField S inside f → n + suc (length st) ≤ L
        → run L (60 ∷ (inside ++ 62 ∷ rest)) (at st phase.Value) ≡ run L rest (at st (phase.After (value.Inj f.0 f.1)))
    unfolding value_due
    run_variant st inside f rest field room =
        rw (field.is, append_assoc field.name (61 ∷ field.text) (62 ∷ rest))
        (go st phase.Value 60 (field.name ++ 61 ∷ (field.text ++ 62 ∷ rest)) st (phase.Label holder.Variant) (open_bracket st 60 (phase.Label holder.Variant) (omega arith))
        ∙ (run_name st holder.Variant field.name f.0 (field.text ++ 62 ∷ rest) field.label refl
        ∙ (run_padded field.text f.1 (frame.Variant f.0 ∷ st) (62 ∷ rest) field.value room (record { first = 62; others = rest; is = refl; no_digit = refl })
        ∙ variant_closes st f.0 f.1 rest)))

    run_brackets : (x : List ℕ) (v : Value) (st : Brackets) (rest : List ℕ) → SpellsBracket S x v → n + suc (length st) ≤ L
        → run L (x ++ rest) (at st phase.Value) ≡ run L rest (at st (phase.After v))
    run_brackets x v st rest (SpellsBracket.collection k inside items is listed e) room = rw (is, e) (run_collection st k inside items rest listed room)
    run_brackets x v st rest (SpellsBracket.fields inside pairs sorted is listed of e) room =
        rw (is, append_assoc inside (93 ∷ []) rest, e, fields_are pairs sorted of)
        (run_bracket st inside pairs rest (omega arith) listed ∙ run_record st inside pairs rest listed (differ_from_fields pairs sorted of) room)
    run_brackets x v st rest (SpellsBracket.variant inside f is spells e) room =
        rw (is, append_assoc inside (62 ∷ []) rest, e) (run_variant st inside f rest spells room)

  -- a value's spelling leads from where it is due to behind it
  pub run_value : (n : ℕ) (x : List ℕ) (v : Value) (st : Brackets) (rest : List ℕ) → Spells n x v → n + length st ≤ L → Stops rest
      → run L (x ++ rest) (at st phase.Value) ≡ run L rest (at st (phase.After v))
  run_value zero x v st rest spells room stops = run_plain st x v rest spells stops
  run_value (suc n) x v st rest (inl spells) room stops = run_plain st x v rest spells stops
  run_value (suc n) x v st rest (inr spells) room stops =
      run_brackets (Spells n) n (value_starts n) (λ y w tt behind s r t. run_value n y w tt behind s r t) x v st rest spells (omega arith)

  semicolon : (v : Value) (rest : List ℕ) → run L (59 ∷ rest) (at [] (phase.After v)) ≡ ends v rest
  unfolding after_value
  semicolon v rest = refl

  -- an item is read, whatever follows
  pub run_item : (n : ℕ) (item : List ℕ) (v : Value) (rest : List ℕ) → IsItem n item v → n ≤ L → run L (item ++ rest) (at [] phase.Value) ≡ ends v rest
  run_item n item v rest spells room =
      rw (spells.is, append_assoc spells.text (59 ∷ []) rest)
      (run_padded (Spells n) n (value_starts n) (run_value n) spells.text v [] (59 ∷ rest) spells.value (omega arith)
      (record { first = 59; others = rest; is = refl; no_digit = refl })
      ∙ semicolon v rest)

  -- white space is no item
  pub run_blank : (bs : List ℕ) → Blank bs → run L bs (at [] phase.Value) ≡ more (at [] phase.Value)
  run_blank bs blank =
      subst (λ cs. run L cs (at [] phase.Value) ≡ more (at [] phase.Value)) (append-nil bs) (blanks [] phase.Value (value_blank []) bs [] blank)
