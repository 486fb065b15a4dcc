-- What one byte makes of what an item's bytes have come to. Only contracts of private functions cite this; what a
-- reader answers is said by the grammar.
use Rattle.std.specs.Prelude.{◌≡◌, ℕ, ◌+◌, ◌-◌, ◌*◌, ◌^◌, ◌<◌, ◌≤◌, IsTrue, Bool, true, false, not, ◌&&◌, ◌==◌, nat_lt, nat_le, cond}
use Rattle.std.specs.Prelude.{List, [], ◌∷◌, ◌++◌, length, ⊤, Option, Some, None, Result, Ok, Err, slice_index}
use Rattle.std.specs.Char.{is_ascii_digit, is_ascii_alphabetic, is_ascii_hexdigit, digit_value}
use Rattle.std.specs.List.{AllByRecursion}
use Rattle.kl_base.specs.Word.{is_word, is_word_byte, label_of}
use Rattle.kl_base.specs.Fields.{LabelsDiffer}
use Rattle.kl_value.specs.Quoted.{escape_of}
use Rattle.kl_exchange.specs.Fields.{fields_of}
use Rattle.kl_exchange.specs.Gathered.{has_label}
use Rattle.kl_exchange.specs.Grammar.{is_blank, word_of, signed}
use Rattle.kl_value.specs.Canon.{canonical}
use Rattle.kl_value.specs.declared.Kind.{Kind}
use Rattle.kl_value.specs.declared.Kind.TheVariants as kind
use Rattle.kl_value.specs.declared.Value.{Value}
use Rattle.kl_value.specs.declared.Value.TheVariants as value
use Rattle.kl_exchange.specs.declared.machine.Frame.{Frame}
use Rattle.kl_exchange.specs.declared.machine.Frame.TheVariants as frame
use Rattle.kl_exchange.specs.declared.machine.Machine.{Machine}
use Rattle.kl_exchange.specs.declared.machine.Phase.{Phase}
use Rattle.kl_exchange.specs.declared.machine.Phase.TheVariants as phase
use Rattle.kl_exchange.specs.declared.machine.Holder.{Holder}
use Rattle.kl_exchange.specs.declared.machine.Holder.TheVariants as holder
use Rattle.kl_exchange.specs.declared.machine.Next.{Next}
use Rattle.kl_exchange.specs.declared.machine.Next.TheVariants as next
use Rattle.kl_exchange.specs.declared.machine.Stop.{Stop}
use Rattle.kl_exchange.specs.declared.machine.Stop.TheVariants as stop

-- what a byte makes of a machine
pub data Step : Type 0 where
  Goes : Machine → Step
  -- the byte ends the item
  Ends : Value → Step

abbrev pub Brackets : Type 0
Brackets = List Frame

abbrev pub goes : Brackets → Phase → Result Step Stop
goes st p = Ok (Step.Goes (record { stack = st; phase = p }))

abbrev pub bad : Result Step Stop
bad = Err stop.Bad

-- before an item
abbrev pub start : Machine
start = record { stack = []; phase = phase.Value }

abbrev pub going : Phase → Result Next Stop
going p = Ok (next.Goes p)

-- What a function answers, and the stack that it leaves, are what is said, unless memory runs out.
abbrev pub LeadsOn : Brackets → Result Next Stop → Result Step Stop → Type 0
LeadsOn st (Ok (next.Goes p)) said = said ≡ goes st p
LeadsOn st (Ok (next.Ends v)) said = (said ≡ Ok (Step.Ends v)) × (st ≡ [])
LeadsOn st (Err stop.Bad) said = said ≡ bad
LeadsOn st (Err stop.TooDeep) said = said ≡ Err stop.TooDeep
LeadsOn st (Err stop.NoMemory) said = ⊤

abbrev pub has_named : Holder → List ℕ → Bool
has_named (holder.Record fields) l = has_label fields l
has_named holder.Variant l = false

abbrev pub frame_of : Holder → List ℕ → Frame
frame_of (holder.Record fields) l = frame.Field fields l
frame_of holder.Variant l = frame.Variant l

abbrev pub first_of_close : Kind → ℕ
first_of_close kind.Set = 125
first_of_close kind.Bag = 124
first_of_close kind.List = 124

abbrev pub last_of_close : Kind → ℕ
last_of_close kind.Set = 125
last_of_close kind.Bag = 125
last_of_close kind.List = 93

-- the greatest magnitude of a number
abbrev pub greatest_magnitude : Bool → ℕ
greatest_magnitude true = 2 ^ 63
greatest_magnitude false = 2 ^ 63 - 1

abbrev pub with_digit : Bool → ℕ → ℕ → Option ℕ
with_digit negative magnitude digit =
    cond (nat_le (magnitude * 10 + digit) (greatest_magnitude negative)) (Some (magnitude * 10 + digit)) None

abbrev pub hex_of : ℕ → Option ℕ
hex_of b = cond (is_ascii_hexdigit b) (Some (digit_value b)) None

abbrev pub or_bad : {T : Type 0} → Option T → (T → Result Step Stop) → Result Step Stop
or_bad None f = bad
or_bad (Some x) f = f x

-- a bracket opens where fewer than L are open
abbrev pub opens_bracket : ℕ → Brackets → Phase → Result Step Stop
opens_bracket L st p = cond (nat_lt (length st) L) (goes st p) (Err stop.TooDeep)

unfoldable pub value_due : ℕ → Brackets → ℕ → Result Step Stop
value_due L st b =
    cond (is_blank b) (goes st phase.Value)
    (cond (is_ascii_digit b) (goes st (phase.Digits false (digit_value b)))
    (cond (b == 45) (goes st phase.Minus)
    (cond (b == 34) (goes st (phase.Text []))
    (cond (b == 116) (goes st (phase.Word true 1))
    (cond (b == 102) (goes st (phase.Word false 1))
    (cond (b == 123) (opens_bracket L st phase.Brace)
    (cond (b == 91) (opens_bracket L st phase.Bracket)
    (cond (b == 60) (opens_bracket L st (phase.Label holder.Variant))
    bad))))))))

unfoldable pub closes : Brackets → Kind → List Value → Result Step Stop
closes st kind.Set items = goes st (phase.After (canonical kind.Set items))
closes st k items = goes st (phase.Closing k items)

unfoldable pub ends_closing : Brackets → Kind → List Value → ℕ → Result Step Stop
ends_closing st k items b = cond (b == last_of_close k) (goes st (phase.After (canonical k items))) bad

unfoldable pub opened : ℕ → Brackets → Kind → ℕ → Result Step Stop
opened L st k b =
    cond (is_blank b) (goes st (phase.Opened k))
    (cond (b == first_of_close k) (closes st k [])
    (value_due L (frame.Items k [] ∷ st) b))

unfoldable pub behind_brace : ℕ → Brackets → ℕ → Result Step Stop
behind_brace L st b = cond (b == 124) (goes st (phase.Opened kind.Bag)) (opened L st kind.Set b)

unfoldable pub label_due : Brackets → Holder → ℕ → Result Step Stop
label_due st h b =
    cond (is_blank b) (goes st (phase.Label h))
    (cond (is_ascii_alphabetic b) (goes st (phase.Name h (b ∷ [])))
    bad)

unfoldable pub record_opened : Brackets → ℕ → Result Step Stop
record_opened st b =
    cond (is_blank b) (goes st phase.RecordOpened)
    (cond (b == 93) (goes st (phase.After (value.Rec [])))
    (label_due st (holder.Record []) b))

unfoldable pub behind_bracket : Brackets → ℕ → Result Step Stop
behind_bracket st b = cond (b == 124) (goes st (phase.Opened kind.List)) (record_opened st b)

unfoldable pub named : Brackets → Holder → List ℕ → ℕ → Result Step Stop
named st h l b =
    cond (is_blank b) (goes st (phase.Named h l))
    (cond (b == 61) (goes (frame_of h l ∷ st) phase.Value)
    bad)

unfoldable pub in_name : Brackets → Holder → List ℕ → ℕ → Result Step Stop
in_name st h name b =
    cond (is_word_byte b) (goes st (phase.Name h (name ++ b ∷ [])))
    (or_bad (label_of name) (λ l. cond (has_named h l) bad (named st h l b)))

unfoldable pub in_word : Brackets → Bool → ℕ → ℕ → Result Step Stop
in_word st word count b =
    cond (nat_lt count (length (word_of word)) && (slice_index (word_of word) count == b))
    (cond (nat_lt (count + 1) (length (word_of word))) (goes st (phase.Word word (count + 1))) (goes st (phase.After (value.Bool word))))
    bad

unfoldable pub behind_minus : Brackets → ℕ → Result Step Stop
behind_minus st b = cond (is_ascii_digit b) (goes st (phase.Digits true (digit_value b))) bad

unfoldable pub after_item : Brackets → Kind → List Value → ℕ → Result Step Stop
after_item st k items b =
    cond (b == 44) (goes (frame.Items k items ∷ st) phase.Value)
    (cond (b == first_of_close k) (closes st k items)
    bad)

unfoldable pub after_field : Brackets → List (List ℕ × Value) → ℕ → Result Step Stop
after_field st fields b =
    cond (b == 44) (goes st (phase.Label (holder.Record fields)))
    (cond (b == 93) (goes st (phase.After (value.Rec (fields_of fields))))
    bad)

unfoldable pub after_value : Brackets → Value → ℕ → Result Step Stop
after_value st v b = cond (is_blank b) (goes st (phase.After v)) (behind st)
  where
    behind : Brackets → Result Step Stop
    behind [] = cond (b == 59) (Ok (Step.Ends v)) bad
    behind (frame.Items k items ∷ st) = after_item st k (items ++ v ∷ []) b
    behind (frame.Field fields l ∷ st) = after_field st (fields ++ (l, v) ∷ []) b
    behind (frame.Variant l ∷ st) = cond (b == 62) (goes st (phase.After (value.Inj l v))) bad

unfoldable pub in_digits : Brackets → Bool → ℕ → ℕ → Result Step Stop
in_digits st negative magnitude b =
    cond (is_ascii_digit b) (or_bad (with_digit negative magnitude (digit_value b)) (λ longer. goes st (phase.Digits negative longer)))
    (after_value st (value.Int (signed negative magnitude)) b)

unfoldable pub in_text : Brackets → List ℕ → ℕ → Result Step Stop
in_text st text b =
    cond (b == 34) (goes st (phase.After (value.Text text)))
    (cond (b == 92) (goes st (phase.Escape text))
    (goes st (phase.Text (text ++ b ∷ []))))

unfoldable pub behind_escape : Brackets → List ℕ → ℕ → Result Step Stop
behind_escape st text b =
    cond (b == 120) (goes st (phase.Hex text))
    (or_bad (escape_of b) (λ byte. goes st (phase.Text (text ++ byte ∷ []))))

unfoldable pub hex_due : Brackets → List ℕ → ℕ → Result Step Stop
hex_due st text b = or_bad (hex_of b) (λ high. goes st (phase.HexLow text high))

unfoldable pub low_hex_due : Brackets → List ℕ → ℕ → ℕ → Result Step Stop
low_hex_due st text high b = or_bad (hex_of b) (λ low. goes st (phase.Text (text ++ (high * 16 + low) ∷ [])))

-- one byte more, where L brackets may be open
abbrev pub advanced : ℕ → Brackets → Phase → ℕ → Result Step Stop
advanced L st phase.Value b = value_due L st b
advanced L st (phase.Opened k) b = opened L st k b
advanced L st phase.Brace b = behind_brace L st b
advanced L st phase.Bracket b = behind_bracket st b
advanced L st phase.RecordOpened b = record_opened st b
advanced L st (phase.Label h) b = label_due st h b
advanced L st (phase.Name h name) b = in_name st h name b
advanced L st (phase.Named h l) b = named st h l b
advanced L st (phase.Word word count) b = in_word st word count b
advanced L st phase.Minus b = behind_minus st b
advanced L st (phase.Digits negative magnitude) b = in_digits st negative magnitude b
advanced L st (phase.Text text) b = in_text st text b
advanced L st (phase.Escape text) b = behind_escape st text b
advanced L st (phase.Hex text) b = hex_due st text b
advanced L st (phase.HexLow text high) b = low_hex_due st text high b
advanced L st (phase.After v) b = after_value st v b
advanced L st (phase.Closing k items) b = ends_closing st k items b

-- What holds of every machine that bytes come to: the labels of a record differ, numbers are in range, and at most L
-- brackets are open.
abbrev pub IsSoundFrame : Frame → Type 0
IsSoundFrame (frame.Items k items) = ⊤
IsSoundFrame (frame.Field fields l) = (v : Value) → LabelsDiffer (fields ++ (l, v) ∷ [])
IsSoundFrame (frame.Variant l) = ⊤

abbrev pub IsSoundHolder : Holder → Type 0
IsSoundHolder (holder.Record fields) = LabelsDiffer fields
IsSoundHolder holder.Variant = ⊤

abbrev pub IsSoundPhase : Phase → Type 0
IsSoundPhase (phase.Label h) = IsSoundHolder h
IsSoundPhase (phase.Name h name) = IsSoundHolder h × IsTrue (is_word name)
IsSoundPhase (phase.Named h l) = IsSoundHolder h × (has_named h l ≡ false)
IsSoundPhase (phase.Word word count) = count < length (word_of word)
IsSoundPhase (phase.Digits negative magnitude) = magnitude ≤ greatest_magnitude negative
IsSoundPhase (phase.HexLow text high) = high < 16
IsSoundPhase _ = ⊤

-- how many brackets are open that are not on the stack
abbrev pub pending : Phase → ℕ
pending (phase.Opened k) = 1
pending phase.Brace = 1
pending phase.Bracket = 1
pending phase.RecordOpened = 1
pending (phase.Label h) = 1
pending (phase.Name h name) = 1
pending (phase.Named h l) = 1
pending (phase.Closing k items) = 1
pending _ = 0

pub record IsSound (L : ℕ) (st : Brackets) (p : Phase) : Type 0 where
  pub frames : AllByRecursion IsSoundFrame st
  pub at : IsSoundPhase p
  pub nesting : pending p + length st ≤ L

-- what several bytes come to
pub data Run : Type 0 where
  more : Machine → Run
  -- the item has ended, and these bytes are behind it
  ends : Value → List ℕ → Run
  -- the first of these bytes cannot follow, or opens one bracket too many
  fails : List ℕ → Run
  deep : List ℕ → Run

abbrev pub followed : Result Step Stop → ℕ → List ℕ → (Machine → Run) → Run
followed (Ok (Step.Goes m)) b bytes go = go m
followed (Ok (Step.Ends v)) b bytes go = ends v bytes
followed (Err stop.Bad) b bytes go = fails (b ∷ bytes)
followed (Err stop.TooDeep) b bytes go = deep (b ∷ bytes)
followed (Err stop.NoMemory) b bytes go = fails (b ∷ bytes)

abbrev pub run : ℕ → List ℕ → Machine → Run
run L [] m = more m
run L (b ∷ bytes) m = followed (advanced L m.stack m.phase b) b bytes (λ n. run L bytes n)

-- The machine takes a byte, unless memory runs out. Behind an item's last byte it stands before the next item.
abbrev pub Advances : Machine → Result (Option Value) Stop → Result Step Stop → Type 0
Advances now (Ok None) said = said ≡ Ok (Step.Goes now)
Advances now (Ok (Some v)) said = (said ≡ Ok (Step.Ends v)) × (now ≡ start)
Advances now (Err stop.Bad) said = said ≡ bad
Advances now (Err stop.TooDeep) said = said ≡ Err stop.TooDeep
Advances now (Err stop.NoMemory) said = ⊤

-- a byte that stands for itself in a text
abbrev pub is_plain : ℕ → Bool
is_plain b = not (b == 34) && not (b == 92)

-- a blank changes nothing
abbrev pub stays_on_blank : Phase → Bool
stays_on_blank phase.Value = true
stays_on_blank (phase.Opened k) = true
stays_on_blank phase.RecordOpened = true
stays_on_blank (phase.Label h) = true
stays_on_blank (phase.Named h l) = true
stays_on_blank (phase.After v) = true
stays_on_blank _ = false
