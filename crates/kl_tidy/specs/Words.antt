-- What the words ask for.
use Rattle.std.specs.Prelude.{ℕ, ℤ, pos, negsuc, Bool, List, [], ◌∷◌, ◌++◌, codes, cond, is_some, nat_eq, nat_le, Option, Some, None, option_and_then, unwrap_or}
use Rattle.std.specs.Cmp.Lexicographic.{pointwise}
use Rattle.std.specs.List.{starts_with}
use Rattle.kl_base.specs.Fields.{field}
use Rattle.kl_prim.specs.Meaning.{number_in}
use Rattle.kl_tidy.specs.declared.words.Asked.{Asked}
use Rattle.kl_tidy.specs.declared.words.Command.{Command}
use Rattle.kl_tidy.specs.declared.words.Due.{Due}
use Rattle.kl_tidy.specs.declared.words.Due.TheVariants as due
use Rattle.kl_tidy.specs.declared.words.Flag.{Flag}
use Rattle.kl_tidy.specs.declared.words.Flag.TheVariants as flag
use Rattle.kl_tidy.specs.declared.words.Line.{Line}

abbrev pub is_option : List ℕ → Bool
is_option word = starts_with nat_eq word (codes "--")

abbrev pub flag_of : List ℕ → Flag
flag_of word =
    cond (pointwise nat_eq word (codes "--from")) flag.From
    (cond (pointwise nat_eq word (codes "--missing")) flag.Missing
    (cond (pointwise nat_eq word (codes "--scale")) flag.Scale flag.Unknown))

-- the byte between cells
abbrev pub delimiter_of : List ℕ → Option ℕ
delimiter_of kind =
    cond (pointwise nat_eq kind (codes "tab")) (Some 9)
    (cond (pointwise nat_eq kind (codes "semicolon")) (Some 59) None)

-- from 0 to 18, which an integer of 64 bits can have
abbrev pub as_decimals : ℤ → Option ℕ
as_decimals (pos n) = cond (nat_le n 18) (Some n) None
as_decimals (negsuc n) = None

abbrev pub decimals_of : List ℕ → Option ℕ
decimals_of word = option_and_then as_decimals (number_in word)

-- no word was read
abbrev pub nothing_asked : Line
nothing_asked = record { asked = record { path = None; delimiter = None; missing = []; scale = [] }; due = due.Any }

-- one path, and no other
abbrev pub with_path : Asked → List ℕ → Option Line
with_path a word = cond (is_some a.path) None (Some (record { asked = record a { path = Some word }; due = due.Any }))

-- `--from` once
abbrev pub with_kind : Asked → List ℕ → Option Line
with_kind a word =
    cond (is_some a.delimiter) None
    (option_and_then (λ d. Some (record { asked = record a { delimiter = Some d }; due = due.Any })) (delimiter_of word))

-- each of the others once for a column
abbrev pub with_value : Asked → List ℕ → List ℕ → Option Line
with_value a column word =
    cond (is_some (field column a.missing)) None
    (Some (record { asked = record a { missing = a.missing ++ (column, word) ∷ [] }; due = due.Any }))

abbrev pub with_decimals : Asked → List ℕ → List ℕ → Option Line
with_decimals a column word =
    cond (is_some (field column a.scale)) None
    (option_and_then (λ n. Some (record { asked = record a { scale = a.scale ++ (column, n) ∷ [] }; due = due.Any })) (decimals_of word))

abbrev pub option_due : Asked → Flag → Option Line
option_due a flag.From = Some (record { asked = a; due = due.Kind })
option_due a flag.Missing = Some (record { asked = a; due = due.Filled })
option_due a flag.Scale = Some (record { asked = a; due = due.Scaled })
option_due a flag.Unknown = None

-- no option is a path
abbrev pub word_read : Asked → List ℕ → Option Line
word_read a word = cond (is_option word) (option_due a (flag_of word)) (with_path a word)

abbrev pub step_by : Asked → List ℕ → Due → Option Line
step_by a word due.Any = word_read a word
step_by a word due.Kind = with_kind a word
step_by a word due.Filled = Some (record { asked = a; due = due.Value word })
step_by a word (due.Value column) = with_value a column word
step_by a word due.Scaled = Some (record { asked = a; due = due.Decimals word })
step_by a word (due.Decimals column) = with_decimals a column word

abbrev pub step : Line → List ℕ → Option Line
step line word = step_by line.asked word line.due

abbrev pub read_words : Line → List (List ℕ) → Option Line
read_words line [] = Some line
read_words line (word ∷ words) = option_and_then (λ next. read_words next words) (step line word)

abbrev pub command_by : Asked → Option (List ℕ) → Due → Option Command
command_by a (Some path) due.Any = Some (record { path = path; delimiter = unwrap_or a.delimiter 44; missing = a.missing; scale = a.scale })
command_by a path due = None

-- no word is due any more
abbrev pub command_in : Line → Option Command
command_in line = command_by line.asked line.asked.path line.due

-- The command of these words: a path, with `--from` and a kind, `--missing` with a column and a value, and `--scale` with a
-- column and a number of decimals, before it or behind it.
abbrev pub command_of : List (List ℕ) → Option Command
command_of words = option_and_then command_in (read_words nothing_asked words)
