-- Words of SQL text: which bytes spell which value.
use Rattle.std.specs.Prelude.{◌≡◌, ℕ, ℤ, pos, neg_ℤ, ◌-◌, ◌^◌, ◌≤◌, ◌==◌, ◌||◌, Bool, IsTrue, List, [], ◌∷◌, ◌++◌, decimal}
use Rattle.std.specs.List.{list_all, flat_map}
use Rattle.std.specs.Prelude.{cond}
use Rattle.std.specs.Str.Parse.{IsNumeral, digits_value}
use Rattle.kl_base.specs.Word.{is_word}
use Rattle.kl_phrase.specs.Words.{Phrase, One, Behind, Before, Made, Or}

-- this byte
abbrev pub IsByte : ℕ → ℕ → Unit {0} → Type 0
IsByte c t x = t ≡ c

abbrev pub ThisByte : ℕ → Phrase ℕ (Unit {0})
ThisByte c = One (IsByte c)

-- a keyword: exactly these bytes
abbrev pub TheseBytes : List ℕ → Phrase ℕ (Unit {0})
TheseBytes cs n x ts = ts ≡ cs

-- white space: tab, line feed, carriage return and space
abbrev pub is_blank : ℕ → Bool
is_blank b = b == 9 || b == 10 || b == 13 || b == 32

abbrev pub IsBlank : ℕ → Unit {0} → Type 0
IsBlank t x = IsTrue (is_blank t)

-- any; one and any more
abbrev pub AnyBlanks : Phrase ℕ (Unit {0})
AnyBlanks n x ts = IsTrue (list_all is_blank ts)

abbrev pub SomeBlanks : Phrase ℕ (Unit {0})
SomeBlanks = Behind (One IsBlank) AnyBlanks

-- a name: a word between double quotes
abbrev pub AWord : Phrase ℕ (List ℕ)
AWord n w ts = (ts ≡ w) × IsTrue (is_word w)

abbrev pub QuotedWord : Phrase ℕ (List ℕ)
QuotedWord = Behind (ThisByte 34) (Before AWord (ThisByte 34))

-- the number of a table: from 0 to 9999, without leading zeros
abbrev pub most_table : ℕ
most_table = 9999

abbrev pub TableNumber : Phrase ℕ ℕ
TableNumber n k ts = (ts ≡ decimal k) × (k ≤ most_table)

-- one digit and any more, of a number that is no greater
abbrev pub Natural : ℕ → Phrase ℕ ℕ
Natural limit n k ts = IsNumeral 10 ts × (k ≡ digits_value 10 ts) × (k ≤ limit)

abbrev pub minus : ℕ → ℤ
minus k = neg_ℤ (pos k)

-- [ "-" ] digits, within 64 bits; white space may stand between
abbrev pub Number : Phrase ℕ ℤ
Number = Or (Made minus (Behind (ThisByte 45) (Behind AnyBlanks (Natural (2 ^ 63))))) (Made pos (Natural (2 ^ 63 - 1)))

-- a text with its quotes doubled
abbrev pub doubled_byte : ℕ → List ℕ
doubled_byte b = cond (b == 39) (39 ∷ 39 ∷ []) (b ∷ [])

abbrev pub doubled : List ℕ → List ℕ
doubled = flat_map doubled_byte

abbrev pub AText : Phrase ℕ (List ℕ)
AText n s ts = ts ≡ 39 ∷ (doubled s ++ 39 ∷ [])
