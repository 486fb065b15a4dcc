-- Spans that a machine takes at once: each comes to what its bytes come to one by one.
use Rattle.std.proofs.Common.{◌≡◌, ℕ, ◌+◌, ◌<◌, ◌≤◌, Bool, true, false, List, [], ◌∷◌, ◌++◌, length, take, get_or, Some, Ok, refl, sym, ap, ap₂, ◌∙◌, arith, add-one, true≢false}
use Rattle.std.proofs.Math.Seq.{take-suc}
use Rattle.std.specs.Char.{is_ascii_digit, is_ascii_alphabetic, digit_value}
use Rattle.std.specs.List.{list_all}
use Rattle.std.proofs.lemmas.Bool.{and_parts}
use Rattle.kl_base.specs.Word.{is_word, is_word_byte, label_of}
use Rattle.kl_value.specs.declared.Kind.TheVariants as kind
use Rattle.kl_value.specs.declared.Value.{Value}
use Rattle.kl_value.specs.declared.Value.TheVariants as value
use Rattle.kl_exchange.specs.Grammar.{signed}
use Rattle.kl_exchange.specs.Machine.{Brackets, run, more, goes, value_due, label_due, named, in_name, in_text, in_digits, after_value, after_item, after_field, closes, behind_brace, behind_bracket, opened, record_opened, advanced, followed, Step, with_digit, has_named, frame_of, is_plain}
use Rattle.kl_exchange.specs.Scan.{Takes, IsInCollection, IsInRecord, IsInSet, IsInVariant, IsQuoted, IsNamed, number, with_item, with_field, with_set, with_variant}
use Rattle.kl_exchange.specs.declared.machine.Holder.{Holder}
use Rattle.kl_exchange.specs.declared.machine.Holder.TheVariants as holder
use Rattle.kl_exchange.specs.declared.machine.Machine.{Machine}
use Rattle.kl_exchange.specs.declared.machine.Phase.{Phase}
use Rattle.kl_exchange.specs.declared.machine.Phase.TheVariants as phase
use Rattle.kl_exchange.specs.declared.machine.Frame.TheVariants as frame
use Rattle.kl_exchange.proofs.Bytes.{IsFirst, first_digit_is, below, digit_below, digit_not_blank, letter_not_blank, letter_not_bar, letter_not_close}
use Rattle.kl_exchange.proofs.Runs.{at, go, same_step, run_append, extended}
use Rattle.kl_exchange.proofs.Scanning.{name_goes_on, text_goes_on}

-- a text in quotes

quote_opens : (st : Brackets) → value_due 256 st 34 ≡ goes st (phase.Text [])
unfolding value_due
quote_opens st = refl

quote_closes : (st : Brackets) (t : List ℕ) → in_text st t 34 ≡ goes st (phase.After (value.Text t))
unfolding in_text
quote_closes st t = refl

quoted_run : (st : Brackets) (body : List ℕ) → list_all is_plain body ≡ true → run 256 (34 ∷ (body ++ 34 ∷ [])) (at st phase.Value) ≡ more (at st (phase.After (value.Text body)))
quoted_run st body plain =
    go 256 st phase.Value 34 (body ++ 34 ∷ []) st (phase.Text []) (quote_opens st)
    ∙ (run_append 256 body (34 ∷ []) (at st (phase.Text []))
    ∙ (ap (λ o. extended 256 o (34 ∷ [])) (text_goes_on st [] body plain)
    ∙ go 256 st (phase.Text body) 34 [] st (phase.After (value.Text body)) (quote_closes st body)))

pub takes_quoted : (m : Machine) (body text bytes : List ℕ) → m.phase ≡ phase.Value → IsQuoted body bytes → text ≡ body
    → Takes (length body + 2) bytes m (at m.stack (phase.After (value.Text text)))
takes_quoted m body text bytes is q same = record {
  within = q.within;
  met = ap (λ bs. run 256 bs m) q.front
      ∙ (ap (λ p. run 256 (34 ∷ (body ++ 34 ∷ [])) (at m.stack p)) is
      ∙ (quoted_run m.stack body q.plain ∙ ap (λ t. more (at m.stack (phase.After (value.Text t)))) (sym same)));
}

-- a number

first_byte : (bytes : List ℕ) → 0 < length bytes → take 1 bytes ≡ get_or bytes 0 0 ∷ []
first_byte [] some = absurd (omega arith)
first_byte (b ∷ bs) some = refl

digit_begins : (st : Brackets) (b : ℕ) → is_ascii_digit b ≡ true → value_due 256 st b ≡ goes st (phase.Digits false (digit_value b))
unfolding value_due
digit_begins st b digit = rw (digit_not_blank b (digit_below b digit), digit) refl

pub takes_digit : (m : Machine) (bytes : List ℕ) (digit : ℕ) → m.phase ≡ phase.Value → 0 < length bytes → is_ascii_digit (get_or bytes 0 0) ≡ true → digit ≡ digit_value (get_or bytes 0 0)
    → Takes 1 bytes m (at m.stack (phase.Digits false digit))
takes_digit m bytes digit is some ascii same = record {
  within = omega arith;
  met = ap (λ bs. run 256 bs m) (first_byte bytes some)
      ∙ (ap (λ p. run 256 (get_or bytes 0 0 ∷ []) (at m.stack p)) is
      ∙ (go 256 m.stack phase.Value (get_or bytes 0 0) [] m.stack (phase.Digits false (digit_value (get_or bytes 0 0))) (digit_begins m.stack (get_or bytes 0 0) ascii)
      ∙ ap (λ d. more (at m.stack (phase.Digits false d))) (sym same)));
}

digit_goes_on : (st : Brackets) (negative : Bool) (magnitude b longer : ℕ) → is_ascii_digit b ≡ true → Some longer ≡ with_digit negative magnitude (digit_value b)
    → in_digits st negative magnitude b ≡ goes st (phase.Digits negative longer)
unfolding in_digits
digit_goes_on st negative magnitude b longer digit fits = rw (digit, ← fits) refl

pub digits_more : (m : Machine) (bytes : List ℕ) (i : ℕ) (negative : Bool) (magnitude longer : ℕ) → i < length bytes → is_ascii_digit (get_or bytes i 0) ≡ true
    → Some longer ≡ with_digit negative magnitude (digit_value (get_or bytes i 0)) → run 256 (take i bytes) m ≡ more (at m.stack (phase.Digits negative magnitude))
    → run 256 (take (i + 1) bytes) m ≡ more (at m.stack (phase.Digits negative longer))
digits_more m bytes i negative magnitude longer within digit fits so_far =
    ap (λ bs. run 256 bs m) (ap (λ k. take k bytes) (add-one i) ∙ take-suc bytes i 0 within)
    ∙ (run_append 256 (take i bytes) (get_or bytes i 0 ∷ []) m
    ∙ (ap (λ o. extended 256 o (get_or bytes i 0 ∷ [])) so_far
    ∙ go 256 m.stack (phase.Digits negative magnitude) (get_or bytes i 0) [] m.stack (phase.Digits negative longer) (digit_goes_on m.stack negative magnitude (get_or bytes i 0) longer digit fits)))

-- a comma behind an item

comma_behind : (st : Brackets) (v : Value) → IsInCollection st → after_value st v 44 ≡ goes (with_item st v) phase.Value
unfolding after_value after_item
comma_behind st v inside = rw inside.top refl

pub takes_item : (m : Machine) (v : Value) (bytes : List ℕ) (st : Brackets) → m.phase ≡ phase.After v → IsInCollection m.stack → take 1 bytes ≡ 44 ∷ [] → 1 ≤ length bytes → st ≡ with_item m.stack v
    → Takes 1 bytes m (at st phase.Value)
takes_item m v bytes st is inside comma some added = record {
  within = some;
  met = ap (λ bs. run 256 bs m) comma
      ∙ (ap (λ p. run 256 (44 ∷ []) (at m.stack p)) is
      ∙ (go 256 m.stack (phase.After v) 44 [] (with_item m.stack v) phase.Value (comma_behind m.stack v inside) ∙ ap (λ s. more (at s phase.Value)) (sym added)));
}

comma_digits : (st : Brackets) (negative : Bool) (magnitude : ℕ) → IsInCollection st → in_digits st negative magnitude 44 ≡ goes (with_item st (value.Int (signed negative magnitude))) phase.Value
unfolding in_digits
comma_digits st negative magnitude inside = comma_behind st (value.Int (signed negative magnitude)) inside

pub takes_number : (m : Machine) (negative : Bool) (magnitude : ℕ) (v : Value) (bytes : List ℕ) (st : Brackets) → m.phase ≡ phase.Digits negative magnitude → v ≡ value.Int (signed negative magnitude)
    → IsInCollection m.stack → take 1 bytes ≡ 44 ∷ [] → 1 ≤ length bytes → st ≡ with_item m.stack v → Takes 1 bytes m (at st phase.Value)
takes_number m negative magnitude v bytes st is number inside comma some added = record {
  within = some;
  met = ap (λ bs. run 256 bs m) comma
      ∙ (ap (λ p. run 256 (44 ∷ []) (at m.stack p)) is
      ∙ (go 256 m.stack (phase.Digits negative magnitude) 44 [] (with_item m.stack (value.Int (signed negative magnitude))) phase.Value (comma_digits m.stack negative magnitude inside)
      ∙ ap (λ s. more (at s phase.Value)) (ap (with_item m.stack) (sym number) ∙ sym added)));
}

-- a label and `=`

letter_begins : (st : Brackets) (h : Holder) (b : ℕ) → is_ascii_alphabetic b ≡ true → label_due st h b ≡ goes st (phase.Name h (b ∷ []))
unfolding label_due
letter_begins st h b letter = rw (letter_not_blank b letter, letter) refl

equals_behind : (st : Brackets) (h : Holder) (name l : List ℕ) → Some l ≡ label_of name → has_named h l ≡ false → in_name st h name 61 ≡ goes (frame_of h l ∷ st) phase.Value
unfolding in_name named
equals_behind st h name l label differs = rw (← label, differs) refl

named_run : (st : Brackets) (h : Holder) (name l : List ℕ) → is_word name ≡ true → Some l ≡ label_of name → has_named h l ≡ false
    → run 256 (name ++ 61 ∷ []) (at st (phase.Label h)) ≡ more (at (frame_of h l ∷ st) phase.Value)
named_run st h [] l word label differs = absurd (true≢false (sym word))
named_run st h (b ∷ bs) l word label differs =
    let both = and_parts (is_ascii_alphabetic b) (list_all is_word_byte bs) word in
    go 256 st (phase.Label h) b (bs ++ 61 ∷ []) st (phase.Name h (b ∷ [])) (letter_begins st h b both.0)
    ∙ (run_append 256 bs (61 ∷ []) (at st (phase.Name h (b ∷ [])))
    ∙ (ap (λ o. extended 256 o (61 ∷ [])) (name_goes_on st h (b ∷ []) bs both.1)
    ∙ go 256 st (phase.Name h (b ∷ bs)) 61 [] (frame_of h l ∷ st) phase.Value (equals_behind st h (b ∷ bs) l label differs)))

pub takes_named : (m : Machine) (h : Holder) (name l bytes : List ℕ) (st : Brackets) → m.phase ≡ phase.Label h → IsNamed name bytes → Some l ≡ label_of name → has_named h l ≡ false
    → st ≡ frame_of h l ∷ m.stack → Takes (length name + 1) bytes m (at st phase.Value)
takes_named m h name l bytes st is n label differs pushed = record {
  within = n.within;
  met = ap (λ bs. run 256 bs m) n.front
      ∙ (ap (λ p. run 256 (name ++ 61 ∷ []) (at m.stack p)) is
      ∙ (named_run m.stack h name l n.word label differs ∙ ap (λ s. more (at s phase.Value)) (sym pushed)));
}

-- a comma behind a field

comma_field : (st : Brackets) (v : Value) → IsInRecord st → after_value st v 44 ≡ Ok (Step.Goes (with_field st v))
unfolding after_value after_field
comma_field st v inside = rw inside.top refl

field_taken : (st : Brackets) (p : Phase) (n : Machine) → advanced 256 st p 44 ≡ Ok (Step.Goes n) → run 256 (44 ∷ []) (at st p) ≡ more n
field_taken st p n e = ap (λ o. followed o 44 [] (λ m. run 256 [] m)) e

pub takes_field : (m n : Machine) (v : Value) (bytes : List ℕ) → m.phase ≡ phase.After v → IsInRecord m.stack → take 1 bytes ≡ 44 ∷ [] → 1 ≤ length bytes → n ≡ with_field m.stack v
    → Takes 1 bytes m n
takes_field m n v bytes is inside comma some added = record {
  within = some;
  met = ap (λ bs. run 256 bs m) comma
      ∙ (ap (λ p. run 256 (44 ∷ []) (at m.stack p)) is
      ∙ (field_taken m.stack (phase.After v) (with_field m.stack v) (comma_field m.stack v inside) ∙ ap more (sym added)));
}

comma_field_digits : (st : Brackets) (negative : Bool) (magnitude : ℕ) → IsInRecord st → in_digits st negative magnitude 44 ≡ Ok (Step.Goes (with_field st (value.Int (signed negative magnitude))))
unfolding in_digits
comma_field_digits st negative magnitude inside = comma_field st (value.Int (signed negative magnitude)) inside

pub takes_field_number : (m n : Machine) (negative : Bool) (magnitude : ℕ) (v : Value) (bytes : List ℕ) → m.phase ≡ phase.Digits negative magnitude → v ≡ value.Int (signed negative magnitude)
    → IsInRecord m.stack → take 1 bytes ≡ 44 ∷ [] → 1 ≤ length bytes → n ≡ with_field m.stack v → Takes 1 bytes m n
takes_field_number m n negative magnitude v bytes is number inside comma some added = record {
  within = some;
  met = ap (λ bs. run 256 bs m) comma
      ∙ (ap (λ p. run 256 (44 ∷ []) (at m.stack p)) is
      ∙ (field_taken m.stack (phase.Digits negative magnitude) (with_field m.stack (value.Int (signed negative magnitude))) (comma_field_digits m.stack negative magnitude inside)
      ∙ ap more (ap (with_field m.stack) (sym number) ∙ sym added)));
}

-- a bracket that opens

brace_opens : (st : Brackets) → length st < 256 → value_due 256 st 123 ≡ goes st phase.Brace
unfolding value_due
brace_opens st low = rw (below (length st) 256 low) refl

bracket_opens : (st : Brackets) → length st < 256 → value_due 256 st 91 ≡ goes st phase.Bracket
unfolding value_due
bracket_opens st low = rw (below (length st) 256 low) refl

variant_opens : (st : Brackets) → length st < 256 → value_due 256 st 60 ≡ goes st (phase.Label holder.Variant)
unfolding value_due
variant_opens st low = rw (below (length st) 256 low) refl

opens : (m : Machine) (bytes : List ℕ) (b : ℕ) (p : Phase) → m.phase ≡ phase.Value → 0 < length bytes → get_or bytes 0 0 ≡ b → value_due 256 m.stack b ≡ goes m.stack p
    → Takes 1 bytes m (at m.stack p)
opens m bytes b p is some first e = record {
  within = omega arith;
  met = ap (λ bs. run 256 bs m) (first_byte bytes some ∙ ap (λ c. c ∷ []) first)
      ∙ (ap (λ q. run 256 (b ∷ []) (at m.stack q)) is ∙ go 256 m.stack phase.Value b [] m.stack p e);
}

pub takes_brace : (m : Machine) (bytes : List ℕ) → m.phase ≡ phase.Value → 0 < length bytes → get_or bytes 0 0 ≡ 123 → length m.stack < 256 → Takes 1 bytes m (at m.stack phase.Brace)
takes_brace m bytes is some first low = opens m bytes 123 phase.Brace is some first (brace_opens m.stack low)

pub takes_bracket : (m : Machine) (bytes : List ℕ) → m.phase ≡ phase.Value → 0 < length bytes → get_or bytes 0 0 ≡ 91 → length m.stack < 256 → Takes 1 bytes m (at m.stack phase.Bracket)
takes_bracket m bytes is some first low = opens m bytes 91 phase.Bracket is some first (bracket_opens m.stack low)

pub takes_variant : (m : Machine) (bytes : List ℕ) → m.phase ≡ phase.Value → 0 < length bytes → get_or bytes 0 0 ≡ 60 → length m.stack < 256
    → Takes 1 bytes m (at m.stack (phase.Label holder.Variant))
takes_variant m bytes is some first low = opens m bytes 60 (phase.Label holder.Variant) is some first (variant_opens m.stack low)

-- the first item of a set

abbrev in_set : Brackets → Brackets
in_set st = frame.Items kind.Set [] ∷ st

quote_first : (st : Brackets) → behind_brace 256 st 34 ≡ value_due 256 (in_set st) 34
unfolding behind_brace opened
quote_first st = refl

digit_first : (st : Brackets) (b : ℕ) → IsFirst b → behind_brace 256 st b ≡ value_due 256 (in_set st) b
unfolding behind_brace opened
digit_first st b first = rw (first.no_bar, first.no_blank, first.no_brace) refl

pub takes_first_quoted : (m : Machine) (body text bytes : List ℕ) (st : Brackets) → m.phase ≡ phase.Brace → IsQuoted body bytes → text ≡ body → st ≡ in_set m.stack
    → Takes (length body + 2) bytes m (at st (phase.After (value.Text text)))
takes_first_quoted m body text bytes st is q same pushed = record {
  within = q.within;
  met = ap (λ bs. run 256 bs m) q.front
      ∙ (ap (λ p. run 256 (34 ∷ (body ++ 34 ∷ [])) (at m.stack p)) is
      ∙ (same_step 256 m.stack (in_set m.stack) phase.Brace phase.Value 34 (body ++ 34 ∷ []) (quote_first m.stack)
      ∙ (quoted_run (in_set m.stack) body q.plain ∙ ap₂ (λ s t. more (at s (phase.After (value.Text t)))) (sym pushed) (sym same))));
}

pub takes_first_digit : (m : Machine) (bytes : List ℕ) (digit : ℕ) (st : Brackets) → m.phase ≡ phase.Brace → 0 < length bytes → is_ascii_digit (get_or bytes 0 0) ≡ true → digit ≡ digit_value (get_or bytes 0 0)
    → st ≡ in_set m.stack → Takes 1 bytes m (at st (phase.Digits false digit))
takes_first_digit m bytes digit st is some ascii same pushed = record {
  within = omega arith;
  met = ap (λ bs. run 256 bs m) (first_byte bytes some)
      ∙ (ap (λ p. run 256 (get_or bytes 0 0 ∷ []) (at m.stack p)) is
      ∙ (same_step 256 m.stack (in_set m.stack) phase.Brace phase.Value (get_or bytes 0 0) [] (digit_first m.stack (get_or bytes 0 0) (first_digit_is (get_or bytes 0 0) (digit_below (get_or bytes 0 0) ascii)))
      ∙ (go 256 (in_set m.stack) phase.Value (get_or bytes 0 0) [] (in_set m.stack) (phase.Digits false (digit_value (get_or bytes 0 0))) (digit_begins (in_set m.stack) (get_or bytes 0 0) ascii)
      ∙ ap₂ (λ s d. more (at s (phase.Digits false d))) (sym pushed) (sym same))));
}

-- the first label of a record

letter_first : (st : Brackets) (b : ℕ) → is_ascii_alphabetic b ≡ true → behind_bracket st b ≡ label_due st (holder.Record []) b
unfolding behind_bracket record_opened
letter_first st b letter = rw (letter_not_bar b letter, letter_not_blank b letter, letter_not_close b letter) refl

first_named_run : (st : Brackets) (name l : List ℕ) → is_word name ≡ true → Some l ≡ label_of name
    → run 256 (name ++ 61 ∷ []) (at st phase.Bracket) ≡ more (at (frame.Field [] l ∷ st) phase.Value)
first_named_run st [] l word label = absurd (true≢false (sym word))
first_named_run st (b ∷ bs) l word label =
    let both = and_parts (is_ascii_alphabetic b) (list_all is_word_byte bs) word in
    same_step 256 st st phase.Bracket (phase.Label (holder.Record [])) b (bs ++ 61 ∷ []) (letter_first st b both.0)
    ∙ named_run st (holder.Record []) (b ∷ bs) l word label refl

pub takes_first_named : (m : Machine) (name l bytes : List ℕ) (st : Brackets) → m.phase ≡ phase.Bracket → IsNamed name bytes → Some l ≡ label_of name → st ≡ frame.Field [] l ∷ m.stack
    → Takes (length name + 1) bytes m (at st phase.Value)
takes_first_named m name l bytes st is n label pushed = record {
  within = n.within;
  met = ap (λ bs. run 256 bs m) n.front
      ∙ (ap (λ p. run 256 (name ++ 61 ∷ []) (at m.stack p)) is
      ∙ (first_named_run m.stack name l n.word label ∙ ap (λ s. more (at s phase.Value)) (sym pushed)));
}

-- a bracket that closes

taken : (st : Brackets) (p : Phase) (b : ℕ) (n : Machine) → advanced 256 st p b ≡ Ok (Step.Goes n) → run 256 (b ∷ []) (at st p) ≡ more n
taken st p b n e = ap (λ o. followed o b [] (λ m. run 256 [] m)) e

set_ends : (st : Brackets) (v : Value) → IsInSet st → after_value st v 125 ≡ Ok (Step.Goes (with_set st v))
unfolding after_value after_item closes
set_ends st v inside = rw inside.top refl

set_ends_number : (st : Brackets) (negative : Bool) (magnitude : ℕ) → IsInSet st → in_digits st negative magnitude 125 ≡ Ok (Step.Goes (with_set st (number negative magnitude)))
unfolding in_digits
set_ends_number st negative magnitude inside = set_ends st (number negative magnitude) inside

variant_ends : (st : Brackets) (v : Value) → IsInVariant st → after_value st v 62 ≡ Ok (Step.Goes (with_variant st v))
unfolding after_value
variant_ends st v inside = rw inside.top refl

variant_ends_number : (st : Brackets) (negative : Bool) (magnitude : ℕ) → IsInVariant st → in_digits st negative magnitude 62 ≡ Ok (Step.Goes (with_variant st (number negative magnitude)))
unfolding in_digits
variant_ends_number st negative magnitude inside = variant_ends st (number negative magnitude) inside

takes_one : (m n : Machine) (p : Phase) (b : ℕ) (bytes : List ℕ) → m.phase ≡ p → take 1 bytes ≡ b ∷ [] → 1 ≤ length bytes → advanced 256 m.stack p b ≡ Ok (Step.Goes n) → Takes 1 bytes m n
takes_one m n p b bytes is first some e = record {
  within = some;
  met = ap (λ bs. run 256 bs m) first ∙ (ap (λ q. run 256 (b ∷ []) (at m.stack q)) is ∙ taken m.stack p b n e);
}

pub takes_set : (m n : Machine) (v : Value) (bytes : List ℕ) → m.phase ≡ phase.After v → IsInSet m.stack → take 1 bytes ≡ 125 ∷ [] → 1 ≤ length bytes → n ≡ with_set m.stack v
    → Takes 1 bytes m n
takes_set m n v bytes is inside first some e = takes_one m n (phase.After v) 125 bytes is first some (set_ends m.stack v inside ∙ ap (λ k. Ok (Step.Goes k)) (sym e))

pub takes_set_number : (m n : Machine) (negative : Bool) (magnitude : ℕ) (v : Value) (bytes : List ℕ) → m.phase ≡ phase.Digits negative magnitude → v ≡ number negative magnitude
    → IsInSet m.stack → take 1 bytes ≡ 125 ∷ [] → 1 ≤ length bytes → n ≡ with_set m.stack v → Takes 1 bytes m n
takes_set_number m n negative magnitude v bytes is same inside first some e =
    takes_one m n (phase.Digits negative magnitude) 125 bytes is first some
    (set_ends_number m.stack negative magnitude inside ∙ ap (λ k. Ok (Step.Goes k)) (ap (with_set m.stack) (sym same) ∙ sym e))

pub takes_variant_end : (m n : Machine) (v : Value) (bytes : List ℕ) → m.phase ≡ phase.After v → IsInVariant m.stack → take 1 bytes ≡ 62 ∷ [] → 1 ≤ length bytes → n ≡ with_variant m.stack v
    → Takes 1 bytes m n
takes_variant_end m n v bytes is inside first some e =
    takes_one m n (phase.After v) 62 bytes is first some (variant_ends m.stack v inside ∙ ap (λ k. Ok (Step.Goes k)) (sym e))

pub takes_variant_number : (m n : Machine) (negative : Bool) (magnitude : ℕ) (v : Value) (bytes : List ℕ) → m.phase ≡ phase.Digits negative magnitude → v ≡ number negative magnitude
    → IsInVariant m.stack → take 1 bytes ≡ 62 ∷ [] → 1 ≤ length bytes → n ≡ with_variant m.stack v → Takes 1 bytes m n
takes_variant_number m n negative magnitude v bytes is same inside first some e =
    takes_one m n (phase.Digits negative magnitude) 62 bytes is first some
    (variant_ends_number m.stack negative magnitude inside ∙ ap (λ k. Ok (Step.Goes k)) (ap (with_variant m.stack) (sym same) ∙ sym e))
