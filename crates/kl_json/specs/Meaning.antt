-- Which value a JSON value is, or why it is none.
use Rattle.std.specs.Prelude.{ℕ, ℤ, Bool, true, false, cond, not, ◌&&◌, List, [], ◌∷◌, ◌++◌, map, nat_eq, Option, Some, None, Result, Ok, Err}
use Rattle.std.specs.Char.{is_ascii_alphabetic, is_ascii_alphanumeric}
use Rattle.std.specs.Cmp.Lexicographic.{pointwise}
use Rattle.std.specs.List.{list_all}
use Rattle.json.specs.Json.{Json, null, boolean, number, string, array, object, Items, no_items, item, Members, no_members, member}
use Rattle.kl_base.specs.Fields.{labels_of}
use Rattle.kl_base.specs.Word.{label_of}
use Rattle.kl_exchange.specs.Fields.{fields_of}
use Rattle.kl_json.specs.declared.choices.Choices.{Choices}
use Rattle.kl_json.specs.declared.choices.Refusal.{Refusal}
use Rattle.kl_json.specs.declared.choices.Refusal.TheVariants as refusal
use Rattle.kl_prim.specs.Meaning.{number_in}
use Rattle.kl_value.specs.declared.Value.{Value}
use Rattle.kl_value.specs.declared.Value.TheVariants as value

-- a result with its value changed, and what goes on with it; a refusal stays
abbrev pub each : {X Y : Type 0} → (X → Y) → Result X Refusal → Result Y Refusal
each f (Ok x) = Ok (f x)
each f (Err e) = Err e

abbrev pub then : {X Y : Type 0} → Result X Refusal → (X → Result Y Refusal) → Result Y Refusal
then (Ok x) f = f x
then (Err e) f = Err e

-- `null`, where a label may stand for it
abbrev pub null_meaning : Option (List ℕ) → Result Value Refusal
null_meaning None = Err refusal.Null
null_meaning (Some l) = Ok (value.Inj l (value.Rec []))

-- A number by its text: an integer where it is digits, with an optional `-` before them, of 64 bits.
abbrev pub spelt : Bool → List ℕ → Option ℤ → Result Value Refusal
spelt as_text s (Some n) = Ok (value.Int n)
spelt true s None = Ok (value.Text s)
spelt false s None = Err refusal.Number

abbrev pub number_meaning : Choices → List ℕ → Result Value Refusal
number_meaning c s = spelt c.text_numbers s (number_in s)

-- a byte of a label, or `_` where it stands in no word
abbrev pub word_byte : ℕ → ℕ
word_byte b = cond (is_ascii_alphanumeric b) b 95

abbrev pub begins_word : List ℕ → Bool
begins_word [] = false
begins_word (b ∷ bs) = is_ascii_alphabetic b

-- a word of a label, with `x` before it where no letter is first
abbrev pub letter_before : List ℕ → List ℕ
letter_before bs = cond (begins_word bs) [] (120 ∷ [])

abbrev pub as_word : List ℕ → List ℕ
as_word bs = letter_before bs ++ map word_byte bs

-- a label, where it is a word
abbrev pub word_or_refused : Option (List ℕ) → Result (List ℕ) Refusal
word_or_refused (Some l) = Ok l
word_or_refused None = Err refusal.Word

abbrev pub label_meaning : Choices → List ℕ → Result (List ℕ) Refusal
label_meaning c l = word_or_refused (label_of (cond c.words (as_word l) l))

-- whether no label stands twice
abbrev pub differ : List (List ℕ) → Bool
differ [] = true
differ (l ∷ ls) = list_all (λ m. not (pointwise nat_eq l m)) ls && differ ls

-- the record of these pairs, which come in any order
abbrev pub record_of : List (List ℕ × Value) → Result Value Refusal
record_of pairs = cond (differ (labels_of pairs)) (Ok (value.Rec (fields_of pairs))) (Err refusal.Twice)

-- The value of a JSON value. What is refused first in the order of the text is told, and a label that stands twice behind
-- the members of its object.
abbrev mutual
  pub meaning : Choices → Json → Result Value Refusal
  meaning c null = null_meaning c.null
  meaning c (boolean b) = Ok (value.Bool b)
  meaning c (number s) = number_meaning c s
  meaning c (string s) = Ok (value.Text s)
  meaning c (array js) = each value.List (items_meaning c js)
  meaning c (object ms) = then (members_meaning c ms) record_of

  pub items_meaning : Choices → Items → Result (List Value) Refusal
  items_meaning c no_items = Ok []
  items_meaning c (item j js) = then (meaning c j) (λ v. each (λ vs. v ∷ vs) (items_meaning c js))

  pub members_meaning : Choices → Members → Result (List (List ℕ × Value)) Refusal
  members_meaning c no_members = Ok []
  members_meaning c (member k j ms) = then (label_meaning c k) (λ l. then (meaning c j) (λ v. each (λ fs. (l, v) ∷ fs) (members_meaning c ms)))
