-- Where a byte stands in a text, and how the line that it stands in is shown.
use Rattle.std.specs.Prelude.{ℕ, ◌+◌, ◌-◌, Bool, not, ◌&&◌, ◌||◌, ◌==◌, List, ◌++◌, codes, cond, count_by, decimal, drop, filter, length, map, min, nat_lt, nat_le, take}
use Rattle.std.specs.List.{prefix_len, suffix_len}

abbrev pub is_newline : ℕ → Bool
is_newline b = b == 10

abbrev pub goes_on : ℕ → Bool
goes_on b = not (is_newline b)

-- lines are counted from 1
abbrev pub line_at : List ℕ → ℕ → ℕ
line_at bytes byte = count_by is_newline (take byte bytes) + 1

-- columns are bytes, and counted from 1
abbrev pub column_at : List ℕ → ℕ → ℕ
column_at bytes byte = suffix_len goes_on (take byte bytes) + 1

-- what stands on the line before a byte, at most so much of it
abbrev pub line_before : List ℕ → ℕ → List ℕ
line_before bytes byte = let front = take byte bytes in drop (length front - min (suffix_len goes_on front) 60) front

-- what stands on the line from a byte on, at most so much of it
abbrev pub line_behind : List ℕ → ℕ → List ℕ
line_behind bytes byte = let rest = drop byte bytes in take (min (prefix_len goes_on rest) 60) rest

-- a byte as it is shown: a blank in place of one that moves the writing
abbrev pub shown : ℕ → ℕ
shown b = cond (nat_lt b 32 && not (b == 9) || b == 127) 32 b

-- whether a byte begins a character of UTF-8
abbrev pub begins : ℕ → Bool
begins b = nat_lt b 128 || nat_le 192 b

-- the blank under a character
abbrev pub blank : ℕ → ℕ
blank b = cond (b == 9) 9 32

-- the line with a caret under a byte
abbrev pub marked_line : List ℕ → ℕ → List ℕ
marked_line bytes byte =
    map shown (line_before bytes byte) ++ map shown (line_behind bytes byte) ++ codes "\n"
    ++ map blank (filter begins (line_before bytes byte)) ++ codes "^\n"

abbrev pub place_text : ℕ → ℕ → List ℕ
place_text line column = codes ":" ++ decimal line ++ codes ":" ++ decimal column ++ codes ": "

-- what is told of a byte of a file: where it stands, what is wrong, and the line
abbrev pub told_at : List ℕ → List ℕ → ℕ → List ℕ → List ℕ
told_at path bytes byte sentence =
    path ++ place_text (line_at bytes byte) (column_at bytes byte) ++ sentence ++ codes "\n" ++ marked_line bytes byte
