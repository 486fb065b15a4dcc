-- What completes what a machine has come to: each byte that it takes may stand before what completes the next machine,
-- and each machine can be completed.
use Rattle.std.proofs.Common.{◌≡◌, ℕ, ◌+◌, ◌-◌, ◌*◌, ◌<◌, ◌≤◌, suc, zero, Bool, true, false, ◌&&◌, cond, List, [], ◌∷◌, ◌++◌, length, drop, get_or, refl, sym, ap, subst, ◌∙◌, arith, ◌==◌, nat_le, nat_lt, IsTrue, ◌⊎◌, inl, inr, Option, Some, None, Result, Ok, Err, append_assoc, append-nil, zero-add, drop-cons, drop_of_length-le, add-one, lit<}
use Rattle.std.specs.Prelude.{⊤, codes}
use Rattle.std.specs.Char.{is_ascii_digit, is_ascii_alphabetic, is_ascii_hexdigit, digit_value}
use Rattle.std.specs.List.{AllByRecursion, IsDistinct}
use Rattle.std.specs.Str.Parse.{AllDigits, digits_value_after, digits_value}
use Rattle.std.proofs.lemmas.Bool.{and_parts}
use Rattle.kl_base.specs.Word.{is_word, is_word_byte}
use Rattle.kl_base.specs.Fields.{LabelsDiffer}
use Rattle.kl_value.specs.Canon.{canonical}
use Rattle.kl_value.specs.declared.Kind.{Kind}
use Rattle.kl_value.specs.declared.Kind.TheVariants as kind
use Rattle.kl_value.specs.declared.Value.{Value}
use Rattle.kl_value.specs.declared.Value.TheVariants as value
use Rattle.kl_value.specs.Quoted.{Part, Parts, escape_of}
use Rattle.kl_exchange.specs.Fields.{fields_of}
use Rattle.kl_value.specs.Written.{opening, closing}
use Rattle.kl_exchange.specs.Grammar.{is_blank, Blank, Padded, More, word_of, sign_of, signed, SpellsPlain, SpellsField, SpellsBracket, Spells, IsItem}
use Rattle.kl_exchange.specs.Machine.{Brackets, IsSound, IsSoundFrame, IsSoundHolder, IsSoundPhase, pending, goes, bad, run, Run, more, ends, fails, deep, followed, advanced, value_due, opens_bracket, opened, closes, ends_closing, behind_brace, behind_bracket, label_due, record_opened, named, in_name, in_word, behind_minus, after_item, after_field, after_value, in_digits, in_text, behind_escape, hex_due, low_hex_due, or_bad, with_digit, greatest_magnitude, hex_of, has_named, frame_of, first_of_close, last_of_close}
use Rattle.kl_exchange.specs.declared.machine.Frame.TheVariants as frame
use Rattle.kl_exchange.specs.declared.machine.Holder.{Holder}
use Rattle.kl_exchange.specs.declared.machine.Holder.TheVariants as holder
use Rattle.kl_exchange.specs.declared.machine.Machine.{Machine}
use Rattle.kl_exchange.specs.declared.machine.Phase.{Phase}
use Rattle.kl_exchange.specs.declared.machine.Phase.TheVariants as phase
use Rattle.kl_exchange.specs.Machine.{Step}
use Rattle.kl_exchange.specs.declared.machine.Stop.{Stop}
use Rattle.kl_exchange.specs.declared.machine.Stop.TheVariants as stop
use Rattle.kl_exchange.proofs.Bytes.{digit_below, equal, magnitude_fits, word_push, lt_from, le_from, at_most_from, unequal}
use Rattle.kl_value.proofs.QuotedLemmas.{hex_below}
use Rattle.kl_exchange.proofs.Pairs.{Pair, fields_of_is, differ_push, letters, room, letters_word, letters_bytes, length-letters, word_goes_on, longer_fresh}

-- Behind a value v with these brackets round it, u completes the item to w. The values of the innermost bracket nest at
-- most n deep.
abbrev pub After : ℕ → Brackets → Value → List ℕ → Value → Type 0
After n [] v u w = (bs : List ℕ) × (u ≡ bs ++ 59 ∷ []) × Blank bs × (w ≡ v)
After n (frame.Items k items ∷ st) v u w = (bs : List ℕ) × (rest : List ℕ) × (vs : List Value) × (behind : List ℕ)
    × (u ≡ bs ++ (rest ++ (closing k ++ behind))) × Blank bs × More (Padded (Spells n)) rest vs × After (suc n) st (canonical k (items ++ v ∷ vs)) behind w
After n (frame.Field fs l ∷ st) v u w = (bs : List ℕ) × (rest : List ℕ) × (gs : List Pair) × (behind : List ℕ)
    × (u ≡ bs ++ (rest ++ 93 ∷ behind)) × Blank bs × More (SpellsField (Spells n)) rest gs × LabelsDiffer (fs ++ (l, v) ∷ gs)
    × After (suc n) st (value.Rec (fields_of (fs ++ (l, v) ∷ gs))) behind w
After n (frame.Variant l ∷ st) v u w = (bs : List ℕ) × (behind : List ℕ) × (u ≡ bs ++ 62 ∷ behind) × Blank bs × After (suc n) st (value.Inj l v) behind w

-- where a value is due
abbrev pub Due : ℕ → Brackets → List ℕ → Value → Type 0
Due n st u w = (bs : List ℕ) × (x : List ℕ) × (v : Value) × (behind : List ℕ) × (u ≡ bs ++ (x ++ behind)) × Blank bs × Spells n x v × After n st v behind w

-- in a collection or a record that has nothing in it yet, whose bracket is not on the stack
abbrev pub Open : ℕ → Brackets → Kind → List ℕ → Value → Type 0
Open n st k u w = ((bs : List ℕ) × (behind : List ℕ) × (u ≡ bs ++ (closing k ++ behind)) × Blank bs × After (suc n) st (canonical k []) behind w)
    ⊎ Due n (frame.Items k [] ∷ st) u w

abbrev pub NamedDue : ℕ → Brackets → Holder → List ℕ → List ℕ → Value → Type 0
NamedDue n st h l u w = (bs : List ℕ) × (behind : List ℕ) × (u ≡ bs ++ 61 ∷ behind) × Blank bs × Due n (frame_of h l ∷ st) behind w

abbrev pub Whole : ℕ → Brackets → Holder → List ℕ → List ℕ → Value → Type 0
Whole n st h l u w = IsTrue (is_word l) × (has_named h l ≡ false) × NamedDue n st h l u w

abbrev pub InName : ℕ → Brackets → Holder → List ℕ → List ℕ → Value → Type 0
InName n st h name u w = (tail : List ℕ) × (behind : List ℕ) × (u ≡ tail ++ behind) × Whole n st h (name ++ tail) behind w

abbrev pub LabelDue : ℕ → Brackets → Holder → List ℕ → Value → Type 0
LabelDue n st h u w = (bs : List ℕ) × (behind : List ℕ) × (u ≡ bs ++ behind) × Blank bs × InName n st h [] behind w

abbrev pub RecordOpen : ℕ → Brackets → List ℕ → Value → Type 0
RecordOpen n st u w = ((bs : List ℕ) × (behind : List ℕ) × (u ≡ bs ++ 93 ∷ behind) × Blank bs × After (suc n) st (value.Rec []) behind w)
    ⊎ LabelDue n st (holder.Record []) u w

abbrev pub InDigits : ℕ → Brackets → Bool → ℕ → List ℕ → Value → Type 0
InDigits n st negative m u w = (ds : List ℕ) × (behind : List ℕ) × (u ≡ ds ++ behind) × AllDigits 10 ds
    × (digits_value_after 10 m ds ≤ greatest_magnitude negative) × After n st (value.Int (signed negative (digits_value_after 10 m ds))) behind w

abbrev pub InText : ℕ → Brackets → List ℕ → List ℕ → Value → Type 0
InText n st t u w = (inside : List ℕ) × (others : List ℕ) × (behind : List ℕ) × (u ≡ inside ++ 34 ∷ behind) × Parts others inside
    × After n st (value.Text (t ++ others)) behind w

abbrev pub LowDue : ℕ → Brackets → List ℕ → ℕ → List ℕ → Value → Type 0
LowDue n st t high u w = (low : ℕ) × (behind : List ℕ) × (u ≡ low ∷ behind) × IsTrue (is_ascii_hexdigit low) × InText n st (t ++ (high * 16 + digit_value low) ∷ []) behind w

abbrev pub HexDue : ℕ → Brackets → List ℕ → List ℕ → Value → Type 0
HexDue n st t u w = (high : ℕ) × (behind : List ℕ) × (u ≡ high ∷ behind) × IsTrue (is_ascii_hexdigit high) × LowDue n st t (digit_value high) behind w

abbrev pub EscapeDue : ℕ → Brackets → List ℕ → List ℕ → Value → Type 0
EscapeDue n st t u w = ((b : ℕ) × (c : ℕ) × (behind : List ℕ) × (u ≡ b ∷ behind) × (escape_of b ≡ Some c) × InText n st (t ++ c ∷ []) behind w)
    ⊎ ((behind : List ℕ) × (u ≡ 120 ∷ behind) × HexDue n st t behind w)

abbrev pub At : ℕ → Brackets → Phase → List ℕ → Value → Type 0
At n st phase.Value u w = Due n st u w
At n st (phase.Opened k) u w = Open n st k u w
At n st phase.Brace u w = ((behind : List ℕ) × (u ≡ 124 ∷ behind) × Open n st kind.Bag behind w) ⊎ Open n st kind.Set u w
At n st phase.Bracket u w = ((behind : List ℕ) × (u ≡ 124 ∷ behind) × Open n st kind.List behind w) ⊎ RecordOpen n st u w
At n st phase.RecordOpened u w = RecordOpen n st u w
At n st (phase.Label h) u w = LabelDue n st h u w
At n st (phase.Name h name) u w = InName n st h name u w
At n st (phase.Named h l) u w = NamedDue n st h l u w
At n st (phase.Word word count) u w = (behind : List ℕ) × (u ≡ drop count (word_of word) ++ behind) × After n st (value.Bool word) behind w
At n st phase.Minus u w = (d : ℕ) × (behind : List ℕ) × (u ≡ d ∷ behind) × (digit_value d < 10) × InDigits n st true (digit_value d) behind w
At n st (phase.Digits negative m) u w = InDigits n st negative m u w
At n st (phase.Text t) u w = InText n st t u w
At n st (phase.Escape t) u w = EscapeDue n st t u w
At n st (phase.Hex t) u w = HexDue n st t u w
At n st (phase.HexLow t high) u w = LowDue n st t high u w
At n st (phase.After v) u w = After n st v u w
At n st (phase.Closing k items) u w = (behind : List ℕ) × (u ≡ last_of_close k ∷ behind) × After (suc n) st (canonical k items) behind w

-- with at most L brackets open at a place
abbrev pub Completes : ℕ → Brackets → Phase → List ℕ → Value → Type 0
Completes L st p u w = (n : ℕ) × (n + (pending p + length st) ≡ L) × At n st p u w

-- What one byte comes to is right: what completes the next machine, behind the byte, completes this one.
abbrev pub Right : ℕ → Brackets → Phase → ℕ → Result Step Stop → Type 0
Right L st p b (Ok (Step.Goes m)) = IsSound L m.stack m.phase × ((u : List ℕ) (w : Value) → Completes L m.stack m.phase u w → Completes L st p (b ∷ u) w)
Right L st p b (Ok (Step.Ends v)) = Completes L st p (b ∷ []) v
Right L st p b (Err stop.TooDeep) = L ≤ pending p + length st
Right L st p b (Err e) = ⊤

choose : (P : Result Step Stop → Type 0) (c : Bool) (x y : Result Step Stop) → (c ≡ true → P x) → (c ≡ false → P y) → P (cond c x y)
choose P true x y p q = p refl
choose P false x y p q = q refl

by_option : {T : Type 0} (P : Result Step Stop → Type 0) (o : Option T) (f : T → Result Step Stop) → ((x : T) → o ≡ Some x → P (f x)) → P bad → P (or_bad o f)
by_option P None f p q = q
by_option P (Some x) f p q = p x refl

-- from one machine to another that completes alike
through : (L : ℕ) (st to : Brackets) (p q : Phase) (b : ℕ) (o : Result Step Stop) → pending q + length to ≤ pending p + length st
    → ((u : List ℕ) (w : Value) → Completes L to q u w → Completes L st p u w) → Right L to q b o → Right L st p b o
through L st to p q b (Ok (Step.Goes m)) as_deep leads right = (right.0, λ u w c. leads (b ∷ u) w (right.1 u w c))
through L st to p q b (Ok (Step.Ends v)) as_deep leads right = leads (b ∷ []) v right
through L st to p q b (Err stop.Bad) as_deep leads right = tt
through L st to p q b (Err stop.TooDeep) as_deep leads right = omega arith
through L st to p q b (Err stop.NoMemory) as_deep leads right = tt

plain : (n : ℕ) (x : List ℕ) (v : Value) → SpellsPlain x v → Spells n x v
plain zero x v spells = spells
plain (suc n) x v spells = inl spells

module _ (L : ℕ) where
  -- a blank before what is due
  blank_due : (n : ℕ) (st : Brackets) (b : ℕ) (u : List ℕ) (w : Value) → is_blank b ≡ true → Due n st u w → Due n st (b ∷ u) w
  blank_due n st b u w blank c = (b ∷ c.0, c.1, c.2, c.3, ap (λ bs. b ∷ bs) c.4, (blank, c.5), c.6, c.7)

  -- a value without brackets begins here
  begin : (n : ℕ) (st : Brackets) (x behind : List ℕ) (v w : Value) (u : List ℕ) → u ≡ x ++ behind → SpellsPlain x v → After n st v behind w → Due n st u w
  begin n st x behind v w u e spells c = ([], x, v, behind, e, tt, plain n x v spells, c)

  number_begins : (n : ℕ) (st : Brackets) (negative : Bool) (d : ℕ) (u : List ℕ) (w : Value) → digit_value d < 10
      → InDigits n st negative (digit_value d) u w → Due n st (sign_of negative ++ d ∷ u) w
  number_begins n st negative d u w digit c =
      let same : digits_value_after 10 (digit_value d) c.0 ≡ digits_value 10 (d ∷ c.0) = ap (λ m. digits_value_after 10 m c.0) (sym (zero-add (digit_value d))) in
      begin n st (sign_of negative ++ d ∷ c.0) c.1 (value.Int (signed negative (digits_value_after 10 (digit_value d) c.0))) w (sign_of negative ++ d ∷ u)
      (rw c.2 (sym (append_assoc (sign_of negative) (d ∷ c.0) c.1)))
      (SpellsPlain.number _
      (record { negative = negative; digits = d ∷ c.0; is = refl; numeral = (omega arith, (digit, c.3)); value = ap (signed negative) same; fits = magnitude_fits negative _ c.4 })
      refl) c.5

  text_begins : (n : ℕ) (st : Brackets) (u : List ℕ) (w : Value) → InText n st [] u w → Due n st (34 ∷ u) w
  text_begins n st u w c =
      begin n st (34 ∷ (c.0 ++ 34 ∷ [])) c.2 (value.Text c.1) w (34 ∷ u) (ap (λ bs. 34 ∷ bs) (c.3 ∙ sym (append_assoc c.0 (34 ∷ []) c.2)))
      (SpellsPlain.text c.0 c.1 refl c.4 refl) c.5

  word_begins : (n : ℕ) (st : Brackets) (word : Bool) (b : ℕ) (others behind : List ℕ) (u : List ℕ) (w : Value) → word_of word ≡ b ∷ others
      → u ≡ others ++ behind → After n st (value.Bool word) behind w → Due n st (b ∷ u) w
  word_begins n st word b others behind u w is e c =
      begin n st (word_of word) behind (value.Bool word) w (b ∷ u) (ap (λ bs. b ∷ bs) e ∙ ap (λ bs. bs ++ behind) (sym is)) (SpellsPlain.truth word refl refl) c

  -- a bracket opens here
  bracketed : (n : ℕ) (st : Brackets) (x behind : List ℕ) (v w : Value) (u : List ℕ) → u ≡ x ++ behind → SpellsBracket (Spells n) x v → After (suc n) st v behind w
      → Due (suc n) st u w
  bracketed n st x behind v w u e spells c = ([], x, v, behind, e, tt, inr spells, c)

  opens_collection : (n : ℕ) (st : Brackets) (k : Kind) (u : List ℕ) (w : Value) → Open n st k u w → Due (suc n) st (opening k ++ u) w
  opens_collection n st k u w (inl c) =
      bracketed n st (opening k ++ (c.0 ++ closing k)) c.1 (canonical k []) w (opening k ++ u)
      (rw c.2 (sym (append_assoc (opening k) (c.0 ++ closing k) c.1 ∙ ap (λ bs. opening k ++ bs) (append_assoc c.0 (closing k) c.1))))
      (SpellsBracket.collection k c.0 [] refl c.3 refl) c.4
  opens_collection n st k u w (inr c) =
      let a = c.7 in
      let part : List ℕ = c.0 ++ (c.1 ++ a.0) in
      let is : u ≡ (part ++ a.1) ++ (closing k ++ a.3) = c.4 ∙ simp (a.4, append_assoc) in
      bracketed n st (opening k ++ ((part ++ a.1) ++ closing k)) a.3 (canonical k (c.2 ∷ a.2)) w (opening k ++ u)
      (rw is (sym (append_assoc (opening k) ((part ++ a.1) ++ closing k) a.3 ∙ ap (λ bs. opening k ++ bs) (append_assoc (part ++ a.1) (closing k) a.3))))
      (SpellsBracket.collection k (part ++ a.1) (c.2 ∷ a.2) refl
      (part, a.1, refl, record { before = c.0; inside = c.1; after = a.0; is = refl; blank_before = c.5; blank_after = a.5; spells = c.6 }, a.6) refl) a.7

  -- A label is due, and what completes is a field without the white space behind its value.
  record Labelled (n : ℕ) (st : Brackets) (h : Holder) (u : List ℕ) (w : Value) : Type 0 where
    l : List ℕ
    v : Value
    front : List ℕ
    behind : List ℕ
    is : u ≡ front ++ behind
    field : (bs : List ℕ) → Blank bs → SpellsField (Spells n) (front ++ bs) (l, v)
    after : After n (frame_of h l ∷ st) v behind w

  labelled : (n : ℕ) (st : Brackets) (h : Holder) (u : List ℕ) (w : Value) → LabelDue n st h u w → Labelled n st h u w
  labelled n st h u w c =
      let l : List ℕ = c.4.0 in
      let named_due = c.4.3.2 in
      let due = named_due.4 in
      let name : List ℕ = c.0 ++ (l ++ named_due.0) in
      record {
        l = l;
        v = due.2;
        front = name ++ 61 ∷ (due.0 ++ due.1);
        behind = due.3;
        is = c.2 ∙ simp (c.4.2, named_due.2, due.4, append_assoc);
        field = λ bs blank. record {
          name = name;
          text = due.0 ++ (due.1 ++ bs);
          is = simp append_assoc;
          label = record { before = c.0; inside = l; after = named_due.0; is = refl; blank_before = c.3; blank_after = named_due.3; spells = (refl, c.4.3.0) };
          value = record { before = due.0; inside = due.1; after = bs; is = refl; blank_before = due.5; blank_after = blank; spells = due.6 };
        };
        after = due.7;
      }

  no_fields : fields_of [] ≡ []
  unfolding fields_of
  no_fields = refl

  none_differ : LabelsDiffer {T = Value} []
  unfolding IsDistinct
  none_differ = tt

  opens_record : (n : ℕ) (st : Brackets) (u : List ℕ) (w : Value) → RecordOpen n st u w → Due (suc n) st (91 ∷ u) w
  opens_record n st u w (inl c) =
      bracketed n st (91 ∷ (c.0 ++ 93 ∷ [])) c.1 (value.Rec []) w (91 ∷ u)
      (ap (λ bs. 91 ∷ bs) (c.2 ∙ sym (append_assoc c.0 (93 ∷ []) c.1)))
      (SpellsBracket.fields c.0 [] (fields_of []) refl c.3 (fields_of_is [] none_differ) (ap (λ fs. value.Rec fs) (sym no_fields))) c.4
  opens_record n st u w (inr c) =
      let p = labelled n st (holder.Record []) u w c in
      let a = p.after in
      let inside : List ℕ = (p.front ++ a.0) ++ a.1 in
      bracketed n st (91 ∷ (inside ++ 93 ∷ [])) a.3 (value.Rec (fields_of ((p.l, p.v) ∷ a.2))) w (91 ∷ u)
      (ap (λ bs. 91 ∷ bs) (p.is ∙ simp (a.4, append_assoc)))
      (SpellsBracket.fields inside ((p.l, p.v) ∷ a.2) (fields_of ((p.l, p.v) ∷ a.2)) refl (p.front ++ a.0, a.1, refl, p.field a.0 a.5, a.6)
      (fields_of_is ((p.l, p.v) ∷ a.2) a.7) refl) a.8

  opens_variant : (n : ℕ) (st : Brackets) (u : List ℕ) (w : Value) → LabelDue n st holder.Variant u w → Due (suc n) st (60 ∷ u) w
  opens_variant n st u w c =
      let p = labelled n st holder.Variant u w c in
      let a = p.after in
      bracketed n st (60 ∷ ((p.front ++ a.0) ++ 62 ∷ [])) a.1 (value.Inj p.l p.v) w (60 ∷ u)
      (ap (λ bs. 60 ∷ bs) (p.is ∙ simp (a.2, append_assoc)))
      (SpellsBracket.variant (p.front ++ a.0) (p.l, p.v) refl (p.field a.0 a.3) refl) a.4

  comma_item : (n : ℕ) (st : Brackets) (k : Kind) (items : List Value) (v : Value) (u : List ℕ) (w : Value)
      → Due n (frame.Items k (items ++ v ∷ []) ∷ st) u w → After n (frame.Items k items ∷ st) v (44 ∷ u) w
  comma_item n st k items v u w c =
      let a = c.7 in
      let part : List ℕ = c.0 ++ (c.1 ++ a.0) in (
        [],
        44 ∷ (part ++ a.1),
        c.2 ∷ a.2,
        a.3,
        ap (λ bs. 44 ∷ bs) (c.4 ∙ simp (a.4, append_assoc)),
        tt,
        (part, a.1, refl, record { before = c.0; inside = c.1; after = a.0; is = refl; blank_before = c.5; blank_after = a.5; spells = c.6 }, a.6),
        subst (λ vs. After (suc n) st (canonical k vs) a.3 w) (append_assoc items (v ∷ []) (c.2 ∷ a.2)) a.7,
      )

  comma_field : (n : ℕ) (st : Brackets) (fs : List Pair) (l : List ℕ) (v : Value) (u : List ℕ) (w : Value)
      → LabelDue n st (holder.Record (fs ++ (l, v) ∷ [])) u w → After n (frame.Field fs l ∷ st) v (44 ∷ u) w
  comma_field n st fs l v u w c =
      let p = labelled n st (holder.Record (fs ++ (l, v) ∷ [])) u w c in
      let a = p.after in
      let same = append_assoc fs ((l, v) ∷ []) ((p.l, p.v) ∷ a.2) in (
        [],
        44 ∷ ((p.front ++ a.0) ++ a.1),
        (p.l, p.v) ∷ a.2,
        a.3,
        ap (λ bs. 44 ∷ bs) (p.is ∙ simp (a.4, append_assoc)),
        tt,
        (p.front ++ a.0, a.1, refl, p.field a.0 a.5, a.6),
        subst LabelsDiffer same a.7,
        subst (λ gs. After (suc n) st (value.Rec (fields_of gs)) a.3 w) same a.8,
      )

  -- The byte closes a bracket, and the machine is behind a value with one bracket less.
  shut : (st to : Brackets) (p : Phase) (v : Value) (b : ℕ) → pending p + length to ≡ 1 + length st → 1 + length st ≤ L
      → ((n : ℕ) (u : List ℕ) (w : Value) → After (suc n) st v u w → At n to p (b ∷ u) w)
      → (u : List ℕ) (w : Value) → Completes L st (phase.After v) u w → Completes L to p (b ∷ u) w
  shut st to p v b same room make u w (zero, e, a) = absurd (omega arith)
  shut st to p v b same room make u w (suc n, e, a) = (n, omega arith, make n u w a)

  at_byte : (n : ℕ) (st : Brackets) (p : Phase) (b c : ℕ) (u : List ℕ) (w : Value) → (b == c) ≡ true → At n st p (c ∷ u) w → At n st p (b ∷ u) w
  at_byte n st p b c u w e = subst (λ a. At n st p (a ∷ u) w) (sym (equal b c e))

  after_byte : (n : ℕ) (st : Brackets) (v : Value) (b c : ℕ) (u : List ℕ) (w : Value) → (b == c) ≡ true → After n st v (c ∷ u) w → After n st v (b ∷ u) w
  after_byte n st v b c u w e = subst (λ a. After n st v (a ∷ u) w) (sym (equal b c e))

  due_byte : (n : ℕ) (st : Brackets) (b c : ℕ) (u : List ℕ) (w : Value) → (b == c) ≡ true → Due n st (c ∷ u) w → Due n st (b ∷ u) w
  due_byte n st b c u w e = subst (λ a. Due n st (a ∷ u) w) (sym (equal b c e))

  -- where a value is due
  brace_open : (n : ℕ) (st : Brackets) (u : List ℕ) (w : Value) → At n st phase.Brace u w → Due (suc n) st (123 ∷ u) w
  brace_open n st u w (inl c) = subst (λ bs. Due (suc n) st (123 ∷ bs) w) (sym c.1) (opens_collection n st kind.Bag c.0 w c.2)
  brace_open n st u w (inr c) = opens_collection n st kind.Set u w c

  bracket_open : (n : ℕ) (st : Brackets) (u : List ℕ) (w : Value) → At n st phase.Bracket u w → Due (suc n) st (91 ∷ u) w
  bracket_open n st u w (inl c) = subst (λ bs. Due (suc n) st (91 ∷ bs) w) (sym c.1) (opens_collection n st kind.List c.0 w c.2)
  bracket_open n st u w (inr c) = opens_record n st u w c

  right_opens : (st : Brackets) (b : ℕ) (p : Phase) → AllByRecursion IsSoundFrame st → IsSoundPhase p → pending p ≡ 1
      → ((n : ℕ) (u : List ℕ) (w : Value) → At n st p u w → Due (suc n) st (b ∷ u) w) → Right L st phase.Value b (opens_bracket L st p)
  right_opens st b p frames sound one make =
      choose (Right L st phase.Value b) (nat_lt (length st) L) _ _
      (λ e. (record { frames = frames; at = sound; nesting = let room = lt_from (length st) L e in omega arith }, λ u w c. (suc c.0, omega (arith, c.1), make c.0 u w c.2)))
      (λ e. let full = le_from (length st) L e in omega arith)

  right_value : (st : Brackets) (b : ℕ) → AllByRecursion IsSoundFrame st → length st ≤ L → Right L st phase.Value b (value_due L st b)
  unfolding value_due
  right_value st b frames room =
      let P = Right L st phase.Value b in
      choose P (is_blank b) _ _
      (λ e. (record { frames = frames; at = tt; nesting = omega arith }, λ u w c. (c.0, c.1, blank_due c.0 st b u w e c.2)))
      (λ _. choose P (is_ascii_digit b) _ _
      (λ e. (record { frames = frames; at = omega (arith, digit_below b e); nesting = omega arith }, λ u w c. (c.0, c.1, number_begins c.0 st false b u w (digit_below b e) c.2)))
      (λ _. choose P (b == 45) _ _
      (λ e. (
        record { frames = frames; at = tt; nesting = omega arith },
        λ u w c. (
          c.0,
          c.1,
          due_byte c.0 st b 45 u w e (subst (λ bs. Due c.0 st (45 ∷ bs) w) (sym c.2.2) (number_begins c.0 st true c.2.0 c.2.1 w c.2.3 c.2.4)),
        ),
      ))
      (λ _. choose P (b == 34) _ _
      (λ e. (record { frames = frames; at = tt; nesting = omega arith }, λ u w c. (c.0, c.1, due_byte c.0 st b 34 u w e (text_begins c.0 st u w c.2))))
      (λ _. choose P (b == 116) _ _
      (λ e. (
        record { frames = frames; at = lit< tt; nesting = omega arith },
        λ u w c. (c.0, c.1, due_byte c.0 st b 116 u w e (word_begins c.0 st true 116 (codes "rue") c.2.0 u w refl c.2.1 c.2.2)),
      ))
      (λ _. choose P (b == 102) _ _
      (λ e. (
        record { frames = frames; at = lit< tt; nesting = omega arith },
        λ u w c. (c.0, c.1, due_byte c.0 st b 102 u w e (word_begins c.0 st false 102 (codes "alse") c.2.0 u w refl c.2.1 c.2.2)),
      ))
      (λ _. choose P (b == 123) _ _
      (λ e. right_opens st b phase.Brace frames tt refl (λ n u w c. due_byte (suc n) st b 123 u w e (brace_open n st u w c)))
      (λ _. choose P (b == 91) _ _
      (λ e. right_opens st b phase.Bracket frames tt refl (λ n u w c. due_byte (suc n) st b 91 u w e (bracket_open n st u w c)))
      (λ _. choose P (b == 60) _ _
      (λ e. right_opens st b (phase.Label holder.Variant) frames tt refl (λ n u w c. due_byte (suc n) st b 60 u w e (opens_variant n st u w c)))
      (λ _. tt)))))))))

  -- in a collection
  blank_open : (n : ℕ) (st : Brackets) (k : Kind) (b : ℕ) (u : List ℕ) (w : Value) → is_blank b ≡ true → Open n st k u w → Open n st k (b ∷ u) w
  blank_open n st k b u w blank (inl c) = inl (b ∷ c.0, c.1, ap (λ bs. b ∷ bs) c.2, (blank, c.3), c.4)
  blank_open n st k b u w blank (inr c) = inr (blank_due n (frame.Items k [] ∷ st) b u w blank c)

  right_closes : (st to : Brackets) (p : Phase) (k : Kind) (items : List Value) (b : ℕ) → (b == first_of_close k) ≡ true → AllByRecursion IsSoundFrame st
      → pending p + length to ≡ 1 + length st → 1 + length st ≤ L
      → ((n : ℕ) (u : List ℕ) (w : Value) → After (suc n) st (canonical k items) u w → At n to p (closing k ++ u) w) → Right L to p b (closes st k items)
  unfolding closes
  right_closes st to p kind.Set items b e frames same room make =
      (record { frames = frames; at = tt; nesting = omega arith }, shut st to p (canonical kind.Set items) b same room (λ n u w a. at_byte n to p b 125 u w e (make n u w a)))
  right_closes st to p kind.Bag items b e frames same room make = (
    record { frames = frames; at = tt; nesting = omega arith },
    λ u w c. (c.0, omega (arith, c.1, same), at_byte c.0 to p b 124 u w e (subst (λ bs. At c.0 to p (124 ∷ bs) w) (sym c.2.1) (make c.0 c.2.0 w c.2.2))),
  )
  right_closes st to p kind.List items b e frames same room make = (
    record { frames = frames; at = tt; nesting = omega arith },
    λ u w c. (c.0, omega (arith, c.1, same), at_byte c.0 to p b 124 u w e (subst (λ bs. At c.0 to p (124 ∷ bs) w) (sym c.2.1) (make c.0 c.2.0 w c.2.2))),
  )

  right_opened : (st : Brackets) (k : Kind) (b : ℕ) → AllByRecursion IsSoundFrame st → 1 + length st ≤ L → Right L st (phase.Opened k) b (opened L st k b)
  unfolding opened
  right_opened st k b frames room =
      let P = Right L st (phase.Opened k) b in
      choose P (is_blank b) _ _
      (λ e. (record { frames = frames; at = tt; nesting = omega arith }, λ u w c. (c.0, c.1, blank_open c.0 st k b u w e c.2)))
      (λ _. choose P (b == first_of_close k) _ _
      (λ e. right_closes st st (phase.Opened k) k [] b e frames refl room (λ n u w a. inl ([], u, refl, tt, a)))
      (λ _. through L st (frame.Items k [] ∷ st) (phase.Opened k) phase.Value b _ (omega arith) (λ u w c. (c.0, omega (arith, c.1), inr c.2))
      (right_value (frame.Items k [] ∷ st) b (tt, frames) (omega arith))))

  right_brace : (st : Brackets) (b : ℕ) → AllByRecursion IsSoundFrame st → 1 + length st ≤ L → Right L st phase.Brace b (behind_brace L st b)
  unfolding behind_brace
  right_brace st b frames room =
      choose (Right L st phase.Brace b) (b == 124) _ _
      (λ e. (record { frames = frames; at = tt; nesting = omega arith }, λ u w c. (c.0, c.1, inl (u, ap (λ a. a ∷ u) (equal b 124 e), c.2))))
      (λ _. through L st st phase.Brace (phase.Opened kind.Set) b _ (omega arith) (λ u w c. (c.0, c.1, inr c.2)) (right_opened st kind.Set b frames room))

  right_closing : (st : Brackets) (k : Kind) (items : List Value) (b : ℕ) → AllByRecursion IsSoundFrame st → 1 + length st ≤ L
      → Right L st (phase.Closing k items) b (ends_closing st k items b)
  unfolding ends_closing
  right_closing st k items b frames room =
      choose (Right L st (phase.Closing k items) b) (b == last_of_close k) _ _
      (λ e. (
        record { frames = frames; at = tt; nesting = omega arith },
        shut st st (phase.Closing k items) (canonical k items) b refl room (λ n u w a. (u, ap (λ c. c ∷ u) (equal b (last_of_close k) e), a)),
      ))
      (λ _. tt)

  -- labels
  right_label : (st : Brackets) (h : Holder) (b : ℕ) → AllByRecursion IsSoundFrame st → IsSoundHolder h → 1 + length st ≤ L
      → Right L st (phase.Label h) b (label_due st h b)
  unfolding label_due
  right_label st h b frames held room =
      let P = Right L st (phase.Label h) b in
      choose P (is_blank b) _ _
      (λ e. (record { frames = frames; at = held; nesting = omega arith }, λ u w c. (c.0, c.1, (b ∷ c.2.0, c.2.1, ap (λ bs. b ∷ bs) c.2.2, (e, c.2.3), c.2.4))))
      (λ _. choose P (is_ascii_alphabetic b) _ _
      (λ e. (
        record { frames = frames; at = (held, rw e); nesting = omega arith },
        λ u w c. (c.0, c.1, ([], b ∷ u, refl, tt, (b ∷ c.2.0, c.2.1, ap (λ bs. b ∷ bs) c.2.2, c.2.3))),
      ))
      (λ _. tt))

  right_record : (st : Brackets) (b : ℕ) → AllByRecursion IsSoundFrame st → 1 + length st ≤ L → Right L st phase.RecordOpened b (record_opened st b)
  unfolding record_opened
  right_record st b frames room =
      let P = Right L st phase.RecordOpened b in
      choose P (is_blank b) _ _
      (λ e. (record { frames = frames; at = tt; nesting = omega arith }, λ u w c. (c.0, c.1, blank_record c.0 b u w e c.2)))
      (λ _. choose P (b == 93) _ _
      (λ e. (
        record { frames = frames; at = tt; nesting = omega arith },
        shut st st phase.RecordOpened (value.Rec []) b refl room (λ n u w a. inl ([], u, ap (λ c. c ∷ u) (equal b 93 e), tt, a)),
      ))
      (λ _. through L st st phase.RecordOpened (phase.Label (holder.Record [])) b _ (omega arith) (λ u w c. (c.0, c.1, inr c.2)) (right_label st (holder.Record []) b frames none_differ room)))
    where
      blank_record : (n : ℕ) (b : ℕ) (u : List ℕ) (w : Value) → is_blank b ≡ true → RecordOpen n st u w → RecordOpen n st (b ∷ u) w
      blank_record n b u w blank (inl c) = inl (b ∷ c.0, c.1, ap (λ bs. b ∷ bs) c.2, (blank, c.3), c.4)
      blank_record n b u w blank (inr c) = inr (b ∷ c.0, c.1, ap (λ bs. b ∷ bs) c.2, (blank, c.3), c.4)

  right_bracket : (st : Brackets) (b : ℕ) → AllByRecursion IsSoundFrame st → 1 + length st ≤ L → Right L st phase.Bracket b (behind_bracket st b)
  unfolding behind_bracket
  right_bracket st b frames room =
      choose (Right L st phase.Bracket b) (b == 124) _ _
      (λ e. (record { frames = frames; at = tt; nesting = omega arith }, λ u w c. (c.0, c.1, inl (u, ap (λ a. a ∷ u) (equal b 124 e), c.2))))
      (λ _. through L st st phase.Bracket phase.RecordOpened b _ (omega arith) (λ u w c. (c.0, c.1, inr c.2)) (right_record st b frames room))

  sound_frame : (h : Holder) (l : List ℕ) → IsSoundHolder h → has_named h l ≡ false → IsSoundFrame (frame_of h l)
  sound_frame (holder.Record fs) l held fresh = λ v. differ_push fs l v held fresh
  sound_frame holder.Variant l held fresh = tt

  right_named : (st : Brackets) (h : Holder) (l : List ℕ) (b : ℕ) → AllByRecursion IsSoundFrame st → IsSoundHolder h → has_named h l ≡ false → 1 + length st ≤ L
      → Right L st (phase.Named h l) b (named st h l b)
  unfolding named
  right_named st h l b frames held fresh room =
      let P = Right L st (phase.Named h l) b in
      choose P (is_blank b) _ _
      (λ e. (record { frames = frames; at = (held, fresh); nesting = omega arith }, λ u w c. (c.0, c.1, (b ∷ c.2.0, c.2.1, ap (λ bs. b ∷ bs) c.2.2, (e, c.2.3), c.2.4))))
      (λ _. choose P (b == 61) _ _
      (λ e. (
        record { frames = (sound_frame h l held fresh, frames); at = tt; nesting = omega arith },
        λ u w c. (c.0, omega (arith, c.1), ([], u, ap (λ a. a ∷ u) (equal b 61 e), tt, c.2)),
      ))
      (λ _. tt))

  right_name : (st : Brackets) (h : Holder) (name : List ℕ) (b : ℕ) → AllByRecursion IsSoundFrame st → IsSoundHolder h → is_word name ≡ true → 1 + length st ≤ L
      → Right L st (phase.Name h name) b (in_name st h name b)
  unfolding in_name
  right_name st h name b frames held word room =
      let P = Right L st (phase.Name h name) b in
      choose P (is_word_byte b) _ _
      (λ e. (
        record { frames = frames; at = (held, word_push name b word e); nesting = omega arith },
        λ u w c. (
          c.0,
          c.1,
          (b ∷ c.2.0, c.2.1, ap (λ bs. b ∷ bs) c.2.2, subst (λ l. Whole c.0 st h l c.2.1 w) (append_assoc name (b ∷ []) c.2.0) c.2.3),
        ),
      ))
      (λ _. rw word
      (choose P (has_named h name) _ _ (λ _. tt)
      (λ fresh. through L st st (phase.Name h name) (phase.Named h name) b _ (omega arith)
      (λ u w c. (c.0, c.1, ([], u, refl, subst (λ l. Whole c.0 st h l u w) (sym (append-nil name)) (word, fresh, c.2))))
      (right_named st h name b frames held fresh room))))

  -- words, numbers and texts
  right_word : (st : Brackets) (word : Bool) (count b : ℕ) → AllByRecursion IsSoundFrame st → length st ≤ L → Right L st (phase.Word word count) b (in_word st word count b)
  unfolding in_word
  right_word st word count b frames room =
      let P = Right L st (phase.Word word count) b in
      let letters : List ℕ = word_of word in
      choose P (nat_lt count (length letters) && (get_or letters count 0 == b)) _ _
      (λ e.
      let both = and_parts (nat_lt count (length letters)) (get_or letters count 0 == b) e in
      let within : count < length letters = lt_from count (length letters) both.0 in
      let here : drop count letters ≡ b ∷ drop (count + 1) letters =
      drop-cons letters count 0 within ∙ (ap (λ a. a ∷ drop (suc count) letters) (equal (get_or letters count 0) b both.1) ∙ ap (λ k. b ∷ drop k letters) (sym (add-one count))) in
      choose P (nat_lt (count + 1) (length letters)) _ _
      (λ f. (
        record { frames = frames; at = lt_from (count + 1) (length letters) f; nesting = omega arith },
        λ u w c. (c.0, c.1, (c.2.0, ap (λ bs. b ∷ bs) c.2.1 ∙ ap (λ bs. bs ++ c.2.0) (sym here), c.2.2)),
      ))
      (λ f.
      let last : length letters ≤ count + 1 = le_from (count + 1) (length letters) f in (
        record { frames = frames; at = tt; nesting = omega arith },
        λ u w c. (c.0, c.1, (u, ap (λ bs. bs ++ u) (sym (here ∙ ap (λ bs. b ∷ bs) (drop_of_length-le letters last))), c.2)),
      )))
      (λ _. tt)

  right_minus : (st : Brackets) (b : ℕ) → AllByRecursion IsSoundFrame st → length st ≤ L → Right L st phase.Minus b (behind_minus st b)
  unfolding behind_minus
  right_minus st b frames room =
      choose (Right L st phase.Minus b) (is_ascii_digit b) _ _
      (λ e. (
        record { frames = frames; at = omega (arith, digit_below b e); nesting = omega arith },
        λ u w c. (c.0, c.1, (b, u, refl, digit_below b e, c.2)),
      ))
      (λ _. tt)

  digit_small : (negative : Bool) (m digit longer : ℕ) → with_digit negative m digit ≡ Some longer → (longer ≡ m * 10 + digit) × (longer ≤ greatest_magnitude negative)
  digit_small negative m digit longer e = small (nat_le (m * 10 + digit) (greatest_magnitude negative)) refl e
    where
      small : (t : Bool) → nat_le (m * 10 + digit) (greatest_magnitude negative) ≡ t → cond t (Some (m * 10 + digit)) None ≡ Some longer
          → (longer ≡ m * 10 + digit) × (longer ≤ greatest_magnitude negative)
      small true h f = let is : longer ≡ m * 10 + digit = cc in (is, subst (λ k. k ≤ greatest_magnitude negative) (sym is) (at_most_from _ _ h))
      small false h f = cc

  right_after : (st : Brackets) (v : Value) (b : ℕ) → AllByRecursion IsSoundFrame st → length st ≤ L → Right L st (phase.After v) b (after_value st v b)
  unfolding after_value after_item after_field
  right_after [] v b frames room =
      let P = Right L [] (phase.After v) b in
      choose P (is_blank b) _ _
      (λ e. (record { frames = frames; at = tt; nesting = omega arith }, λ u w c. (c.0, c.1, (b ∷ c.2.0, ap (λ bs. b ∷ bs) c.2.1, (e, c.2.2), c.2.3))))
      (λ _. choose P (b == 59) _ _ (λ e. (L, omega arith, ([], ap (λ a. a ∷ []) (equal b 59 e), tt, refl))) (λ _. tt))
  right_after (frame.Items k items ∷ st) v b frames room =
      let P = Right L (frame.Items k items ∷ st) (phase.After v) b in
      choose P (is_blank b) _ _
      (λ e. (
        record { frames = frames; at = tt; nesting = omega arith },
        λ u w c. (c.0, c.1, (b ∷ c.2.0, c.2.1, c.2.2, c.2.3, ap (λ bs. b ∷ bs) c.2.4, (e, c.2.5), c.2.6, c.2.7)),
      ))
      (λ _. choose P (b == 44) _ _
      (λ e. (
        record { frames = frames; at = tt; nesting = omega arith },
        λ u w c. (c.0, c.1, after_byte c.0 (frame.Items k items ∷ st) v b 44 u w e (comma_item c.0 st k items v u w c.2)),
      ))
      (λ _. choose P (b == first_of_close k) _ _
      (λ e. right_closes st (frame.Items k items ∷ st) (phase.After v) k (items ++ v ∷ []) b e frames.1 (omega arith) (omega arith)
      (λ n u w a. ([], [], [], u, refl, tt, refl, a)))
      (λ _. tt)))
  right_after (frame.Field fs l ∷ st) v b frames room =
      let P = Right L (frame.Field fs l ∷ st) (phase.After v) b in
      choose P (is_blank b) _ _
      (λ e. (
        record { frames = frames; at = tt; nesting = omega arith },
        λ u w c. (c.0, c.1, (b ∷ c.2.0, c.2.1, c.2.2, c.2.3, ap (λ bs. b ∷ bs) c.2.4, (e, c.2.5), c.2.6, c.2.7, c.2.8)),
      ))
      (λ _. choose P (b == 44) _ _
      (λ e. (
        record { frames = frames.1; at = frames.0 v; nesting = omega arith },
        λ u w c. (c.0, omega (arith, c.1), after_byte c.0 (frame.Field fs l ∷ st) v b 44 u w e (comma_field c.0 st fs l v u w c.2)),
      ))
      (λ _. choose P (b == 93) _ _
      (λ e. (
        record { frames = frames.1; at = tt; nesting = omega arith },
        shut st (frame.Field fs l ∷ st) (phase.After v) (value.Rec (fields_of (fs ++ (l, v) ∷ []))) b (omega arith) (omega arith)
            (λ n u w a. ([], [], [], u, ap (λ c. c ∷ u) (equal b 93 e), tt, refl, frames.0 v, a)),
      ))
      (λ _. tt)))
  right_after (frame.Variant l ∷ st) v b frames room =
      let P = Right L (frame.Variant l ∷ st) (phase.After v) b in
      choose P (is_blank b) _ _
      (λ e. (
        record { frames = frames; at = tt; nesting = omega arith },
        λ u w c. (c.0, c.1, (b ∷ c.2.0, c.2.1, ap (λ bs. b ∷ bs) c.2.2, (e, c.2.3), c.2.4)),
      ))
      (λ _. choose P (b == 62) _ _
      (λ e. (
        record { frames = frames.1; at = tt; nesting = omega arith },
        shut st (frame.Variant l ∷ st) (phase.After v) (value.Inj l v) b (omega arith) (omega arith)
            (λ n u w a. ([], u, ap (λ c. c ∷ u) (equal b 62 e), tt, a)),
      ))
      (λ _. tt))

  right_digits : (st : Brackets) (negative : Bool) (m b : ℕ) → AllByRecursion IsSoundFrame st → length st ≤ L → m ≤ greatest_magnitude negative
      → Right L st (phase.Digits negative m) b (in_digits st negative m b)
  unfolding in_digits
  right_digits st negative m b frames room most =
      let P = Right L st (phase.Digits negative m) b in
      choose P (is_ascii_digit b) _ _
      (λ e. by_option P (with_digit negative m (digit_value b)) _
      (λ longer f.
      let small = digit_small negative m (digit_value b) longer f in (
        record { frames = frames; at = small.1; nesting = omega arith },
        λ u w c.
            let d = subst (λ k. InDigits c.0 st negative k u w) small.0 c.2 in
            (c.0, c.1, (b ∷ d.0, d.1, ap (λ bs. b ∷ bs) d.2, (digit_below b e, d.3), d.4, d.5)),
      ))
      tt)
      (λ _. through L st st (phase.Digits negative m) (phase.After (value.Int (signed negative m))) b _ (omega arith)
      (λ u w c. (c.0, c.1, ([], u, refl, tt, most, c.2))) (right_after st (value.Int (signed negative m)) b frames room))

  more_text : (n : ℕ) (st : Brackets) (t part : List ℕ) (c : ℕ) (u : List ℕ) (w : Value) → Part c part → InText n st (t ++ c ∷ []) u w → InText n st t (part ++ u) w
  more_text n st t part c u w spells a = (
    part ++ a.0,
    c ∷ a.1,
    a.2,
    rw a.3 (sym (append_assoc part a.0 (34 ∷ a.2))),
    (part, a.0, refl, spells, a.4),
    subst (λ bs. After n st (value.Text bs) a.2 w) (append_assoc t (c ∷ []) a.1) a.5,
  )

  right_text : (st : Brackets) (t : List ℕ) (b : ℕ) → AllByRecursion IsSoundFrame st → length st ≤ L → Right L st (phase.Text t) b (in_text st t b)
  unfolding in_text
  right_text st t b frames room =
      let P = Right L st (phase.Text t) b in
      choose P (b == 34) _ _
      (λ e. (
        record { frames = frames; at = tt; nesting = omega arith },
        λ u w c. (c.0, c.1, ([], [], u, ap (λ a. a ∷ u) (equal b 34 e), refl, subst (λ bs. After c.0 st (value.Text bs) u w) (sym (append-nil t)) c.2)),
      ))
      (λ q. choose P (b == 92) _ _
      (λ e. (record { frames = frames; at = tt; nesting = omega arith }, λ u w c. (c.0, c.1, at_byte c.0 st (phase.Text t) b 92 u w e (escaped c.0 u w c.2))))
      (λ s. (
        record { frames = frames; at = tt; nesting = omega arith },
        λ u w c. (c.0, c.1, more_text c.0 st t (b ∷ []) b u w (Part.plain (unequal b 34 q) (unequal b 92 s)) c.2),
      )))
    where
      escaped : (n : ℕ) (u : List ℕ) (w : Value) → EscapeDue n st t u w → InText n st t (92 ∷ u) w
      escaped n u w (inl c) =
          subst (λ bs. InText n st t (92 ∷ bs) w) (sym c.3) (more_text n st t (92 ∷ c.0 ∷ []) c.1 c.2 w (Part.escaped c.4) c.5)
      escaped n u w (inr c) =
          let h = c.2 in
          let l = h.4 in
          subst (λ bs. InText n st t (92 ∷ bs) w) (sym (c.1 ∙ (ap (λ bs. 120 ∷ bs) h.2 ∙ ap (λ bs. 120 ∷ h.0 ∷ bs) l.2)))
          (more_text n st t (92 ∷ 120 ∷ h.0 ∷ l.0 ∷ []) (digit_value h.0 * 16 + digit_value l.0) l.1 w (Part.hex h.3 l.3) l.4)

  right_escape : (st : Brackets) (t : List ℕ) (b : ℕ) → AllByRecursion IsSoundFrame st → length st ≤ L → Right L st (phase.Escape t) b (behind_escape st t b)
  unfolding behind_escape
  right_escape st t b frames room =
      let P = Right L st (phase.Escape t) b in
      choose P (b == 120) _ _
      (λ e. (record { frames = frames; at = tt; nesting = omega arith }, λ u w c. (c.0, c.1, inr (u, ap (λ a. a ∷ u) (equal b 120 e), c.2))))
      (λ _. by_option P (escape_of b) _
      (λ byte e. (record { frames = frames; at = tt; nesting = omega arith }, λ u w c. (c.0, c.1, inl (b, byte, u, refl, e, c.2)))) tt)

  hex_is : (b n : ℕ) → hex_of b ≡ Some n → (is_ascii_hexdigit b ≡ true) × (n ≡ digit_value b)
  hex_is b n e = hex (is_ascii_hexdigit b) refl e
    where
      hex : (t : Bool) → is_ascii_hexdigit b ≡ t → cond t (Some (digit_value b)) None ≡ Some n → (is_ascii_hexdigit b ≡ true) × (n ≡ digit_value b)
      hex true h f = (h, cc)
      hex false h f = cc

  right_hex : (st : Brackets) (t : List ℕ) (b : ℕ) → AllByRecursion IsSoundFrame st → length st ≤ L → Right L st (phase.Hex t) b (hex_due st t b)
  unfolding hex_due
  right_hex st t b frames room =
      by_option (Right L st (phase.Hex t) b) (hex_of b) _
      (λ high e.
      let h = hex_is b high e in (
        record { frames = frames; at = subst (λ n. n < 16) (sym h.1) (hex_below b h.0); nesting = omega arith },
        λ u w c. (c.0, c.1, (b, u, refl, h.0, subst (λ n. LowDue c.0 st t n u w) h.1 c.2)),
      )) tt

  right_low_hex : (st : Brackets) (t : List ℕ) (high b : ℕ) → AllByRecursion IsSoundFrame st → length st ≤ L → Right L st (phase.HexLow t high) b (low_hex_due st t high b)
  unfolding low_hex_due
  right_low_hex st t high b frames room =
      by_option (Right L st (phase.HexLow t high) b) (hex_of b) _
      (λ low e.
      let h = hex_is b low e in (
        record { frames = frames; at = tt; nesting = omega arith },
        λ u w c. (c.0, c.1, (b, u, refl, h.0, subst (λ n. InText c.0 st (t ++ (high * 16 + n) ∷ []) u w) h.1 c.2)),
      )) tt

  -- each byte is right
  pub right : (st : Brackets) (p : Phase) (b : ℕ) → IsSound L st p → Right L st p b (advanced L st p b)
  right st phase.Value b s = right_value st b s.frames (omega (arith, s.nesting))
  right st (phase.Opened k) b s = right_opened st k b s.frames s.nesting
  right st phase.Brace b s = right_brace st b s.frames s.nesting
  right st phase.Bracket b s = right_bracket st b s.frames s.nesting
  right st phase.RecordOpened b s = right_record st b s.frames s.nesting
  right st (phase.Label h) b s = right_label st h b s.frames s.at s.nesting
  right st (phase.Name h name) b s = right_name st h name b s.frames s.at.0 s.at.1 s.nesting
  right st (phase.Named h l) b s = right_named st h l b s.frames s.at.0 s.at.1 s.nesting
  right st (phase.Word word count) b s = right_word st word count b s.frames (omega (arith, s.nesting))
  right st phase.Minus b s = right_minus st b s.frames (omega (arith, s.nesting))
  right st (phase.Digits negative m) b s = right_digits st negative m b s.frames (omega (arith, s.nesting)) s.at
  right st (phase.Text t) b s = right_text st t b s.frames (omega (arith, s.nesting))
  right st (phase.Escape t) b s = right_escape st t b s.frames (omega (arith, s.nesting))
  right st (phase.Hex t) b s = right_hex st t b s.frames (omega (arith, s.nesting))
  right st (phase.HexLow t high) b s = right_low_hex st t high b s.frames (omega (arith, s.nesting))
  right st (phase.After v) b s = right_after st v b s.frames (omega (arith, s.nesting))
  right st (phase.Closing k items) b s = right_closing st k items b s.frames s.nesting

  -- Each sound machine can be completed.
  close_all : (n : ℕ) (st : Brackets) (v : Value) → AllByRecursion IsSoundFrame st → (u : List ℕ) × (w : Value) × After n st v u w
  close_all n [] v frames = (59 ∷ [], v, ([], refl, tt, refl))
  close_all n (frame.Items k items ∷ st) v frames =
      let rest = close_all (suc n) st (canonical k (items ++ v ∷ [])) frames.1 in
      (closing k ++ rest.0, rest.1, ([], [], [], rest.0, refl, tt, refl, rest.2))
  close_all n (frame.Field fs l ∷ st) v frames =
      let rest = close_all (suc n) st (value.Rec (fields_of (fs ++ (l, v) ∷ []))) frames.1 in
      (93 ∷ rest.0, rest.1, ([], [], [], rest.0, refl, tt, refl, frames.0 v, rest.2))
  close_all n (frame.Variant l ∷ st) v frames =
      let rest = close_all (suc n) st (value.Inj l v) frames.1 in
      (62 ∷ rest.0, rest.1, ([], rest.0, refl, tt, rest.2))

  can_value : (n : ℕ) (st : Brackets) → AllByRecursion IsSoundFrame st → (u : List ℕ) × (w : Value) × Due n st u w
  can_value n st frames =
      let rest = close_all n st (value.Bool true) frames in
      (codes "true" ++ rest.0, rest.1, begin n st (codes "true") rest.0 (value.Bool true) rest.1 (codes "true" ++ rest.0) refl (SpellsPlain.truth true refl refl) rest.2)

  can_open : (n : ℕ) (st : Brackets) (k : Kind) → AllByRecursion IsSoundFrame st → (u : List ℕ) × (w : Value) × Open n st k u w
  can_open n st k frames =
      let rest = close_all (suc n) st (canonical k []) frames in
      (closing k ++ rest.0, rest.1, inl ([], rest.0, refl, tt, rest.2))

  can_named : (n : ℕ) (st : Brackets) (h : Holder) (l : List ℕ) → AllByRecursion IsSoundFrame st → IsSoundHolder h → has_named h l ≡ false
      → (u : List ℕ) × (w : Value) × NamedDue n st h l u w
  can_named n st h l frames held fresh =
      let rest = can_value n (frame_of h l ∷ st) (sound_frame h l held fresh, frames) in
      (61 ∷ rest.0, rest.1, ([], rest.0, refl, tt, rest.2))

  -- a label that goes on from a name and that no field has
  fresh_tail : (h : Holder) (name : List ℕ) → (name ≡ []) ⊎ (is_word name ≡ true) → (tail : List ℕ) × IsTrue (is_word (name ++ tail)) × (has_named h (name ++ tail) ≡ false)
  fresh_tail (holder.Record fs) name word =
      let tail : List ℕ = letters (suc (room fs)) in
      (tail, word_goes_on name tail word (letters_word (room fs)) (letters_bytes (suc (room fs))), longer_fresh fs name tail (omega (arith, length-letters (suc (room fs)))))
  fresh_tail holder.Variant name word = (97 ∷ [], word_goes_on name (97 ∷ []) word refl refl, refl)

  can_name : (n : ℕ) (st : Brackets) (h : Holder) (name : List ℕ) → AllByRecursion IsSoundFrame st → IsSoundHolder h → (name ≡ []) ⊎ (is_word name ≡ true)
      → (u : List ℕ) × (w : Value) × InName n st h name u w
  can_name n st h name frames held word =
      let tail = fresh_tail h name word in
      let rest = can_named n st h (name ++ tail.0) frames held tail.2 in
      (tail.0 ++ rest.0, rest.1, (tail.0, rest.0, refl, (tail.1, tail.2, rest.2)))

  can_text : (n : ℕ) (st : Brackets) (t : List ℕ) → AllByRecursion IsSoundFrame st → (u : List ℕ) × (w : Value) × InText n st t u w
  can_text n st t frames =
      let rest = close_all n st (value.Text (t ++ [])) frames in
      (34 ∷ rest.0, rest.1, ([], [], rest.0, refl, refl, rest.2))

  can_low : (n : ℕ) (st : Brackets) (t : List ℕ) (high : ℕ) → AllByRecursion IsSoundFrame st → (u : List ℕ) × (w : Value) × LowDue n st t high u w
  can_low n st t high frames =
      let rest = can_text n st (t ++ (high * 16 + digit_value 48) ∷ []) frames in
      (48 ∷ rest.0, rest.1, (48, rest.0, refl, refl, rest.2))

  can_at : (n : ℕ) (st : Brackets) (p : Phase) → AllByRecursion IsSoundFrame st → IsSoundPhase p → (u : List ℕ) × (w : Value) × At n st p u w
  can_at n st phase.Value frames sound = can_value n st frames
  can_at n st (phase.Opened k) frames sound = can_open n st k frames
  can_at n st phase.Brace frames sound = let rest = can_open n st kind.Set frames in (rest.0, rest.1, inr rest.2)
  can_at n st phase.Bracket frames sound = let rest = close_all (suc n) st (value.Rec []) frames in (93 ∷ rest.0, rest.1, inr (inl ([], rest.0, refl, tt, rest.2)))
  can_at n st phase.RecordOpened frames sound = let rest = close_all (suc n) st (value.Rec []) frames in (93 ∷ rest.0, rest.1, inl ([], rest.0, refl, tt, rest.2))
  can_at n st (phase.Label h) frames sound = let rest = can_name n st h [] frames sound (inl refl) in (rest.0, rest.1, ([], rest.0, refl, tt, rest.2))
  can_at n st (phase.Name h name) frames sound = can_name n st h name frames sound.0 (inr sound.1)
  can_at n st (phase.Named h l) frames sound = can_named n st h l frames sound.0 sound.1
  can_at n st (phase.Word word count) frames sound =
      let rest = close_all n st (value.Bool word) frames in (drop count (word_of word) ++ rest.0, rest.1, (rest.0, refl, rest.2))
  can_at n st phase.Minus frames sound =
      let rest = close_all n st (value.Int (signed true 0)) frames in (48 ∷ rest.0, rest.1, (48, rest.0, refl, lit< tt, ([], rest.0, refl, tt, omega arith, rest.2)))
  can_at n st (phase.Digits negative m) frames sound =
      let rest = close_all n st (value.Int (signed negative m)) frames in (rest.0, rest.1, ([], rest.0, refl, tt, sound, rest.2))
  can_at n st (phase.Text t) frames sound = can_text n st t frames
  can_at n st (phase.Escape t) frames sound =
      let rest = can_text n st (t ++ 34 ∷ []) frames in (34 ∷ rest.0, rest.1, inl (34, 34, rest.0, refl, refl, rest.2))
  can_at n st (phase.Hex t) frames sound = let rest = can_low n st t (digit_value 48) frames in (48 ∷ rest.0, rest.1, (48, rest.0, refl, refl, rest.2))
  can_at n st (phase.HexLow t high) frames sound = can_low n st t high frames
  can_at n st (phase.After v) frames sound = close_all n st v frames
  can_at n st (phase.Closing k items) frames sound =
      let rest = close_all (suc n) st (canonical k items) frames in (last_of_close k ∷ rest.0, rest.1, (rest.0, refl, rest.2))

  pub can_complete : (st : Brackets) (p : Phase) → IsSound L st p → (u : List ℕ) × (w : Value) × Completes L st p u w
  can_complete st p s =
      let rest = can_at (L - (pending p + length st)) st p s.frames s.at in
      (rest.0, rest.1, (L - (pending p + length st), (let room = s.nesting in omega arith), rest.2))

  -- what completes the machine before an item is an item
  pub start_item : (u : List ℕ) (w : Value) → Completes L [] phase.Value u w → IsItem L u w
  start_item u w (n, e, c) =
      let a = c.7 in
      let same : n ≡ L = omega arith in
      subst (λ k. IsItem k u w) same
      (subst (IsItem n u) (sym a.3)
      (record {
        text = c.0 ++ (c.1 ++ a.0);
        is = c.4 ∙ simp (a.1, append_assoc);
        value = record { before = c.0; inside = c.1; after = a.0; is = refl; blank_before = c.5; blank_after = a.2; spells = c.6 };
      }))

-- A deeper limit changes nothing but where a bracket too many opened.
abbrev pub Lifts : Result Step Stop → Result Step Stop → Type 0
Lifts (Ok o) other = other ≡ Ok o
Lifts (Err stop.Bad) other = other ≡ Err stop.Bad
Lifts (Err stop.TooDeep) other = ((m : Machine) × (other ≡ Ok (Step.Goes m))) ⊎ (other ≡ Err stop.TooDeep)
Lifts (Err stop.NoMemory) other = other ≡ Err stop.NoMemory

lifts_same : (o : Result Step Stop) → Lifts o o
lifts_same (Ok o) = refl
lifts_same (Err stop.Bad) = refl
lifts_same (Err stop.TooDeep) = inr refl
lifts_same (Err stop.NoMemory) = refl

lifts_cond : (c : Bool) (x y z w : Result Step Stop) → Lifts x z → Lifts y w → Lifts (cond c x y) (cond c z w)
lifts_cond true x y z w one other = one
lifts_cond false x y z w one other = other

module _ (L K : ℕ) (deeper : L ≤ K) where
  lifts_opens : (st : Brackets) (p : Phase) → Lifts (opens_bracket L st p) (opens_bracket K st p)
  lifts_opens st p = opening_at (nat_lt (length st) L) (nat_lt (length st) K) refl refl
    where
      opening_at : (c d : Bool) → nat_lt (length st) L ≡ c → nat_lt (length st) K ≡ d → Lifts (cond c (goes st p) (Err stop.TooDeep)) (cond d (goes st p) (Err stop.TooDeep))
      opening_at true true e f = refl
      opening_at true false e f = absurd (let a = lt_from (length st) L e in let b = le_from (length st) K f in omega arith)
      opening_at false true e f = inl (_, refl)
      opening_at false false e f = inr refl

  lifts_value : (st : Brackets) (b : ℕ) → Lifts (value_due L st b) (value_due K st b)
  unfolding value_due
  lifts_value st b =
      lifts_cond (is_blank b) _ _ _ _ refl
      (lifts_cond (is_ascii_digit b) _ _ _ _ refl
      (lifts_cond (b == 45) _ _ _ _ refl
      (lifts_cond (b == 34) _ _ _ _ refl
      (lifts_cond (b == 116) _ _ _ _ refl
      (lifts_cond (b == 102) _ _ _ _ refl
      (lifts_cond (b == 123) _ _ _ _ (lifts_opens st phase.Brace)
      (lifts_cond (b == 91) _ _ _ _ (lifts_opens st phase.Bracket)
      (lifts_cond (b == 60) _ _ _ _ (lifts_opens st (phase.Label holder.Variant)) refl))))))))

  lifts_opened : (st : Brackets) (k : Kind) (b : ℕ) → Lifts (opened L st k b) (opened K st k b)
  unfolding opened
  lifts_opened st k b =
      lifts_cond (is_blank b) _ _ _ _ refl (lifts_cond (b == first_of_close k) _ _ _ _ (lifts_same (closes st k [])) (lifts_value (frame.Items k [] ∷ st) b))

  lifts_brace : (st : Brackets) (b : ℕ) → Lifts (behind_brace L st b) (behind_brace K st b)
  unfolding behind_brace
  lifts_brace st b = lifts_cond (b == 124) _ _ _ _ refl (lifts_opened st kind.Set b)

  pub lifts : (st : Brackets) (p : Phase) (b : ℕ) → Lifts (advanced L st p b) (advanced K st p b)
  lifts st phase.Value b = lifts_value st b
  lifts st (phase.Opened k) b = lifts_opened st k b
  lifts st phase.Brace b = lifts_brace st b
  lifts st phase.Bracket b = lifts_same _
  lifts st phase.RecordOpened b = lifts_same _
  lifts st (phase.Label h) b = lifts_same _
  lifts st (phase.Name h name) b = lifts_same _
  lifts st (phase.Named h l) b = lifts_same _
  lifts st (phase.Word word count) b = lifts_same _
  lifts st phase.Minus b = lifts_same _
  lifts st (phase.Digits negative m) b = lifts_same _
  lifts st (phase.Text t) b = lifts_same _
  lifts st (phase.Escape t) b = lifts_same _
  lifts st (phase.Hex t) b = lifts_same _
  lifts st (phase.HexLow t high) b = lifts_same _
  lifts st (phase.After v) b = lifts_same _
  lifts st (phase.Closing k items) b = lifts_same _

  -- the same over several bytes
  abbrev pub RunLifts : Run → Run → Type 0
  RunLifts (deep rest) other = ⊤
  RunLifts (more m) other = other ≡ more m
  RunLifts (ends v rest) other = other ≡ ends v rest
  RunLifts (fails rest) other = other ≡ fails rest

  lifts_followed : (o p : Result Step Stop) (b : ℕ) (bytes : List ℕ) → ((n : Machine) → RunLifts (run L bytes n) (run K bytes n)) → Lifts o p
      → RunLifts (followed o b bytes (λ n. run L bytes n)) (followed p b bytes (λ n. run K bytes n))
  lifts_followed (Ok (Step.Goes m)) p b bytes again lift = rw lift (again m)
  lifts_followed (Ok (Step.Ends v)) p b bytes again lift = rw lift
  lifts_followed (Err stop.Bad) p b bytes again lift = rw lift
  lifts_followed (Err stop.TooDeep) p b bytes again lift = tt
  lifts_followed (Err stop.NoMemory) p b bytes again lift = rw lift

  pub run_lifts : (bytes : List ℕ) (m : Machine) → RunLifts (run L bytes m) (run K bytes m)
  run_lifts [] m = refl
  run_lifts (b ∷ bytes) m = lifts_followed (advanced L m.stack m.phase b) (advanced K m.stack m.phase b) b bytes (λ n. run_lifts bytes n) (lifts m.stack m.phase b)
