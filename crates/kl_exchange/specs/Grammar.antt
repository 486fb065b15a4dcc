-- Exchange text: which bytes spell which values.
use Rattle.std.specs.Prelude.{◌≡◌, ℕ, ℤ, pos, Bool, true, false, ◌||◌, ◌==◌, List, [], ◌∷◌, ◌++◌, codes, ◌⊎◌, IsTrue, Some}
use Rattle.std.specs.Prelude.{FitsSigned, neg_ℤ}
use Rattle.std.proofs.Common.{zero, suc}
use Rattle.std.specs.Int.{w64}
use Rattle.std.specs.List.{AllByRecursion}
use Rattle.std.specs.Str.Parse.{IsNumeral, digits_value}
use Rattle.kl_base.specs.Fields.{IsFieldsOf}
use Rattle.kl_base.specs.Word.{is_word}
use Rattle.kl_value.specs.Canon.{canonical}
use Rattle.kl_value.specs.declared.Kind.{Kind}
use Rattle.kl_value.specs.Quoted.{Parts}
use Rattle.kl_value.specs.Written.{opening, closing}
use Rattle.kl_value.specs.declared.Value.{Value}
use Rattle.kl_value.specs.declared.Value.TheVariants as value

-- bytes, and what they spell
abbrev pub Spelling : Type 0 → Type 1
Spelling A = List ℕ → A → Type 0

-- White space: tab, line feed, carriage return and space.
abbrev pub is_blank : ℕ → Bool
is_blank b = b == 9 || b == 10 || b == 13 || b == 32

abbrev pub Blank : List ℕ → Type 0
Blank bytes = AllByRecursion (λ b. IsTrue (is_blank b)) bytes

-- with white space before and after
pub record Padded {A : Type 0} (S : Spelling A) (bytes : List ℕ) (a : A) : Type 0 where
  pub before : List ℕ
  pub inside : List ℕ
  pub after : List ℕ
  pub is : bytes ≡ before ++ (inside ++ after)
  pub blank_before : Blank before
  pub blank_after : Blank after
  pub spells : S inside a

-- { "," part }
abbrev pub More : {A : Type 0} → Spelling A → Spelling (List A)
More S bytes [] = bytes ≡ []
More S bytes (a ∷ others) = (part : List ℕ) × (rest : List ℕ) × (bytes ≡ codes "," ++ (part ++ rest)) × S part a × More S rest others

-- [ part { "," part } ], and only white space where there is no part
abbrev pub Listed : {A : Type 0} → Spelling A → Spelling (List A)
Listed S bytes [] = Blank bytes
Listed S bytes (a ∷ others) = (part : List ℕ) × (rest : List ℕ) × (bytes ≡ part ++ rest) × S part a × More S rest others

abbrev pub word_of : Bool → List ℕ
word_of true = codes "true"
word_of false = codes "false"

-- the sign of a number, and its value
abbrev pub sign_of : Bool → List ℕ
sign_of true = codes "-"
sign_of false = []

abbrev pub signed : Bool → ℕ → ℤ
signed true magnitude = neg_ℤ (pos magnitude)
signed false magnitude = pos magnitude

-- a number: digits behind a sign, with leading zeros as they come, within 64 bits
pub record SpellsInt (bytes : List ℕ) (number : ℤ) : Type 0 where
  pub negative : Bool
  pub digits : List ℕ
  pub is : bytes ≡ sign_of negative ++ digits
  pub numeral : IsNumeral 10 digits
  pub value : number ≡ signed negative (digits_value 10 digits)
  pub fits : FitsSigned w64 number

-- a value without brackets
pub data SpellsPlain (bytes : List ℕ) (v : Value) : Type 0 where
  truth : (b : Bool) → bytes ≡ word_of b → v ≡ value.Bool b → SpellsPlain bytes v
  number : (n : ℤ) → SpellsInt bytes n → v ≡ value.Int n → SpellsPlain bytes v
  text : (inside t : List ℕ) → bytes ≡ codes "\"" ++ (inside ++ codes "\"") → Parts t inside → v ≡ value.Text t → SpellsPlain bytes v

abbrev pub SpellsLabel : Spelling (List ℕ)
SpellsLabel bytes l = (bytes ≡ l) × IsTrue (is_word l)

-- LABEL "=" value, where S spells values
pub record SpellsField (S : Spelling Value) (bytes : List ℕ) (f : List ℕ × Value) : Type 0 where
  pub name : List ℕ
  pub text : List ℕ
  pub is : bytes ≡ name ++ (codes "=" ++ text)
  pub label : Padded SpellsLabel name f.0
  pub value : Padded S text f.1

-- A value with brackets, where S spells the values inside. The items of a set and of a bag come in any order, those of
-- a set may repeat, and fields come in any order under labels that differ.
pub data SpellsBracket (S : Spelling Value) (bytes : List ℕ) (v : Value) : Type 0 where
  collection : (k : Kind) (inside : List ℕ) (items : List Value) → bytes ≡ opening k ++ (inside ++ closing k)
      → Listed (Padded S) inside items
      → v ≡ canonical k items → SpellsBracket S bytes v
  fields : (inside : List ℕ) (pairs sorted : List (List ℕ × Value))
      → bytes ≡ codes "[" ++ (inside ++ codes "]") → Listed (SpellsField S) inside pairs
      → IsFieldsOf pairs (Some sorted) → v ≡ value.Rec sorted → SpellsBracket S bytes v
  variant : (inside : List ℕ) (f : List ℕ × Value) → bytes ≡ codes "<" ++ (inside ++ codes ">") → SpellsField S inside f
      → v ≡ value.Inj f.0 f.1 → SpellsBracket S bytes v

-- The bytes spell the value, with at most so many brackets open at a place.
abbrev pub Spells : ℕ → Spelling Value
Spells zero bytes v = SpellsPlain bytes v
Spells (suc n) bytes v = SpellsPlain bytes v ⊎ SpellsBracket (Spells n) bytes v

-- an item: a value with its `;`
pub record IsItem (n : ℕ) (bytes : List ℕ) (v : Value) : Type 0 where
  pub text : List ℕ
  pub is : bytes ≡ text ++ codes ";"
  pub value : Padded (Spells n) text v

-- an exchange text of these values: their items, and white space
abbrev pub IsExchange : ℕ → Spelling (List Value)
IsExchange n bytes [] = Blank bytes
IsExchange n bytes (v ∷ vs) = (item : List ℕ) × (rest : List ℕ) × (bytes ≡ item ++ rest) × IsItem n item v × IsExchange n rest vs

-- the bytes begin some exchange text with at most so many brackets open at a place
pub record Begins (n : ℕ) (bytes : List ℕ) : Type 0 where
  pub more : List ℕ
  pub values : List Value
  pub whole : IsExchange n (bytes ++ more) values
