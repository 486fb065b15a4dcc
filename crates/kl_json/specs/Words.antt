-- The words of the command line, and what they ask for.
use Rattle.std.specs.Prelude.{ℕ, Bool, true, false, cond, not, ◌&&◌, ◌||◌, ◌==◌, List, [], ◌∷◌, codes, nat_eq, Option, Some, None, is_some, option_and_then}
use Rattle.std.specs.Cmp.Lexicographic.{pointwise}
use Rattle.std.specs.Option.{option_map}
use Rattle.kl_base.specs.Word.{label_of}
use Rattle.kl_json.specs.declared.choices.Choices.{Choices}
use Rattle.kl_json.specs.declared.words.Command.{Command}
use Rattle.kl_json.specs.declared.words.Command.TheVariants as command
use Rattle.kl_json.specs.declared.words.Flag.{Flag}
use Rattle.kl_json.specs.declared.words.Flag.TheVariants as flag
use Rattle.kl_json.specs.declared.words.Line.{Line}

-- nothing is chosen
abbrev pub is_plain : Choices → Bool
is_plain c = not (is_some c.null) && (not c.text_numbers && not c.words)

-- ---- the words behind the command

-- no word was read
abbrev pub start : Line
start = record { file = None; choices = record { null = None; text_numbers = false; words = false }; label_due = false; closed = false }

-- `-` and something behind it
abbrev pub is_option : List ℕ → Bool
is_option [] = false
is_option (b ∷ []) = false
is_option (b ∷ c ∷ bs) = b == 45

abbrev pub flag_of : List ℕ → Flag
flag_of w =
    cond (pointwise nat_eq w (codes "--")) flag.Close
    (cond (pointwise nat_eq w (codes "--null")) flag.Null
    (cond (pointwise nat_eq w (codes "--text-numbers")) flag.TextNumbers
    (cond (pointwise nat_eq w (codes "--words")) flag.Words flag.Unknown)))

-- the label of `--null`
abbrev pub with_label : Line → List ℕ → Option Line
with_label l w = option_map (λ label. record l { choices = record l.choices { null = Some label }; label_due = false }) (label_of w)

-- one path, and no other
abbrev pub with_file : Line → List ℕ → Option Line
with_file l w = cond (is_some l.file) None (Some (record l { file = Some w }))

-- each option once
abbrev pub with_flag : Line → Flag → Option Line
with_flag l flag.Close = Some (record l { closed = true })
with_flag l flag.Null = cond (is_some l.choices.null) None (Some (record l { label_due = true }))
with_flag l flag.TextNumbers = cond l.choices.text_numbers None (Some (record l { choices = record l.choices { text_numbers = true } }))
with_flag l flag.Words = cond l.choices.words None (Some (record l { choices = record l.choices { words = true } }))
with_flag l flag.Unknown = None

abbrev pub step : Line → List ℕ → Option Line
step l w = cond l.label_due (with_label l w) (cond (l.closed || not (is_option w)) (with_file l w) (with_flag l (flag_of w)))

abbrev pub read_line : Line → List (List ℕ) → Option Line
read_line l [] = Some l
read_line l (w ∷ ws) = option_and_then (λ m. read_line m ws) (step l w)

-- ---- the command

abbrev pub command_of : List ℕ → List ℕ → Choices → Option Command
command_of name file c =
    cond (pointwise nat_eq name (codes "to")) (Some (command.To file c))
    (cond (pointwise nat_eq name (codes "from") && is_plain c) (Some (command.From file)) None)

abbrev pub with_path : List ℕ → Choices → Option (List ℕ) → Option Command
with_path name c None = None
with_path name c (Some file) = command_of name file c

abbrev pub make : List ℕ → Line → Option Command
make name l = cond l.label_due None (with_path name l.choices l.file)

-- the command of these words
abbrev pub command_in : List (List ℕ) → Option Command
command_in [] = None
command_in (w ∷ ws) = option_and_then (make w) (read_line start ws)
