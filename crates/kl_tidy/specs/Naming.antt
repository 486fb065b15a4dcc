-- Words for the headers of a table.
use Rattle.std.specs.Prelude.{◌≡◌, ◌≤◌, ◌<◌, ℕ, Bool, true, false, not, ◌&&◌, ◌==◌, ◌+◌, List, [], ◌∷◌, ◌++◌, codes, cond, decimal, nat_eq, ⊤}
use Rattle.std.specs.Cmp.Lexicographic.{pointwise}
use Rattle.std.specs.List.{list_any}
use Rattle.kl_base.specs.Word.{is_word}
use Rattle.kl_json.specs.Meaning.{as_word}
use Rattle.kl_tidy.specs.Writing.{quoted}

-- the word itself as the first name, and with its number behind it as each later one
abbrev pub numbered : List ℕ → ℕ → List ℕ
numbered word n = cond (n == 1) word (word ++ codes "_" ++ decimal n)

abbrev pub is_one : List ℕ → List ℕ → Bool
is_one name taken = pointwise nat_eq name taken

-- a word that is no name before it
abbrev pub is_free : List (List ℕ) → List ℕ → Bool
is_free before name = is_word name && not (list_any (is_one name) before)

-- the header made a word: the first of its names that is free
pub record IsNameOf (before : List (List ℕ)) (cell name : List ℕ) : Type 0 where
  pub number : ℕ
  pub name_is : name ≡ numbered (as_word cell) number
  pub free : is_free before name ≡ true
  pub first : (n : ℕ) → 1 ≤ n → n < number → is_free before (numbered (as_word cell) n) ≡ false

-- one name for each header, in their order
abbrev pub AreNames : List (List ℕ) → List (List ℕ) → List (List ℕ) → Type 0
AreNames before [] [] = ⊤
AreNames before (cell ∷ cells) (name ∷ names) = IsNameOf before cell name × AreNames (before ++ name ∷ []) cells names
AreNames before [] (name ∷ names) = ⊥
AreNames before (cell ∷ cells) [] = ⊥

-- what is told of the column of a number: its name, if that is another than its header
abbrev pub note : List ℕ → ℕ → List ℕ → List ℕ → List ℕ
note path n cell name =
    cond (pointwise nat_eq cell name) []
    (path ++ codes ": column " ++ decimal n ++ codes " is " ++ name ++ codes ": " ++ quoted cell ++ codes "\n")

-- what is told of columns, from a number on
abbrev pub notes_from : List ℕ → ℕ → List (List ℕ) → List (List ℕ) → List ℕ
notes_from path n [] names = []
notes_from path n (cell ∷ cells) [] = []
notes_from path n (cell ∷ cells) (name ∷ names) = note path n cell name ++ notes_from path (n + 1) cells names

-- which headers were changed
abbrev pub header_notes : List ℕ → List (List ℕ) → List (List ℕ) → List ℕ
header_notes path header names = notes_from path 1 header names
