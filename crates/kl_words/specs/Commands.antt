-- The command of some words.
use Rattle.std.specs.Prelude.{◌≡◌, ◌≤◌, ⊤, ◌&&◌, ◌^◌, ℕ, Bool, false, not, if◌then◌else◌, List, [], ◌∷◌, codes, nat_lt}
use Rattle.std.specs.Prelude.{Option, Some, None, option_and_then, option_map, unwrap_or, Result, MatchResult, IfErr}
use Rattle.std.specs.Option.{option_map_or}
use Rattle.std.specs.Str.{bytes_eq}
use Rattle.std.specs.Str.Parse.{digits_value, without_leading_plus}
use Rattle.clap.specs.ValueTests.{is_numeral}
use Rattle.clap.specs.Words.{App, Kinds, Row, Text, fault_of, first_of, matches_of, one_of}
use Rattle.kl_ask.specs.Settings.{usual_settings}
use Rattle.kl_ask.specs.declared.settings.Settings.{Settings}
use Rattle.kl_ask.specs.declared.settings.JoinHow.{JoinHow}
use Rattle.kl_ask.specs.declared.settings.JoinHow.TheVariants as join
use Rattle.kl_words.specs.declared.command.Command.{Command}
use Rattle.kl_words.specs.declared.command.Command.TheVariants as command
use Rattle.kl_words.specs.declared.command.Job.{Job}
use Rattle.kl_words.specs.declared.command.WordsError.{WordsError}
use Rattle.kl_words.specs.declared.command.WordsError.TheVariants.{NoMemory, Usage}
use Rattle.kl_words.specs.Lines.{gen_line, job_line, program_line, show_line, upgrade_line}

-- ---- what clap reads

abbrev pub rows_where : Kinds → List Row → Option (List Row)
rows_where [] rows = Some rows
rows_where (k ∷ ks) rows = None

-- what clap reads for the arguments of a command line, or nothing where it refuses the words
abbrev pub reading : App → List Text → Option (List Row)
reading line words = rows_where (fault_of line words) (matches_of line words)

-- the number that a text tells, if it is one of 32 bits: digits, which may have a plus before them
abbrev pub number_told : Text → Option ℕ
number_told t =
    let digits = without_leading_plus t in
    if is_numeral digits && nat_lt (digits_value 10 digits) (2 ^ 32) then Some (digits_value 10 digits) else None

-- the number of an option, where it is given
abbrev pub number_of : Text → List Row → Option ℕ
number_of id rows = option_and_then number_told (one_of id rows)

-- the option without a value is given
abbrev pub has_flag : Text → List Row → Bool
has_flag id rows = option_map_or (λ t. bytes_eq t (codes "true")) (one_of id rows) false

-- ---- what the words ask for

-- the two ways to join
abbrev pub join_named : Text → Option JoinHow
join_named t =
    if bytes_eq t (codes "block") then Some join.Block
    else if bytes_eq t (codes "index") then Some join.Index
    else None

-- the way of joining: the usual one, where none is named
abbrev pub join_of : List Row → Option JoinHow
join_of rows = option_map_or join_named (first_of (codes "join") rows) (Some usual_settings.join)

abbrev pub settings_of : List Row → JoinHow → Settings
settings_of rows how = record {
  block = unwrap_or (number_of (codes "block") rows) usual_settings.block;
  fetch = unwrap_or (number_of (codes "fetch") rows) usual_settings.fetch;
  cache = unwrap_or (number_of (codes "cache") rows) usual_settings.cache;
  join = how;
  rewrite = not (has_flag (codes "no-rewrite") rows);
  delegate = not (has_flag (codes "no-delegate") rows);
}

-- the path that stands at a place of the line
abbrev pub path_at : Text → List Row → Text
path_at id rows = unwrap_or (first_of id rows) []

abbrev pub job_by : List Row → JoinHow → Job
job_by rows how = record {
  program = path_at (codes "program") rows;
  catalogue = first_of (codes "catalogue") rows;
  settings = settings_of rows how;
  first = number_of (codes "first") rows;
  stats = has_flag (codes "stats") rows;
}

-- the job, or nothing where `--join` names no way of joining
abbrev pub job_of : List Row → Option Job
job_of rows = option_map (job_by rows) (join_of rows)

-- a program and perhaps a catalogue
abbrev pub paths_of : List Row → Text × Option Text
paths_of rows = (path_at (codes "program") rows, first_of (codes "catalogue") rows)

abbrev pub on_program : Text → List Text → Option (Text × Option Text)
on_program name words = option_map paths_of (reading (program_line name) words)

-- a file, and the text of a type
abbrev pub file_and_type_of : List Row → Text × Text
file_and_type_of rows = (path_at (codes "file") rows, path_at (codes "type") rows)

-- a job, for a command of this name
abbrev pub on_job : Text → List Text → Option Job
on_job name words = option_and_then job_of (reading (job_line name) words)

-- a seed and a number of rows
abbrev pub numbers_of : List Row → Option (ℕ × ℕ)
numbers_of rows = option_and_then (λ seed. option_map (λ size. (seed, size)) (number_of (codes "size") rows))
    (number_of (codes "seed") rows)

-- the command that the first word names, of the words behind it, which clap reads with the first before them
abbrev pub named : Text → List Text → Option Command
named name words =
    if bytes_eq name (codes "run") then option_map command.Run (on_job (codes "run") words)
    else if bytes_eq name (codes "explain") then option_map command.Explain (on_job (codes "explain") words)
    else if bytes_eq name (codes "types") then option_map (λ p. command.Types p.0 p.1) (on_program (codes "types") words)
    else if bytes_eq name (codes "check") then option_map (λ p. command.Check p.0 p.1) (on_program (codes "check") words)
    else if bytes_eq name (codes "show") then option_map command.Show (option_map (path_at (codes "file")) (reading show_line words))
    else if bytes_eq name (codes "upgrade") then
    option_map (λ p. command.Upgrade p.0 p.1) (option_map file_and_type_of (reading upgrade_line words))
    else if bytes_eq name (codes "gen") then option_map (λ n. command.Gen n.0 n.1) (option_and_then numbers_of (reading gen_line words))
    else None

-- the command of the words, or nothing: there is no first word, it names no command, clap refuses the words behind it,
-- or `--join` names no way of joining
abbrev pub command_of : List Text → Option Command
command_of [] = None
command_of (name ∷ rest) = named name (name ∷ rest)

-- ---- what holds of a command

-- the settings are within their ranges
pub record AreInRange (s : Settings) : Type 0 where
  pub block : (1 ≤ s.block) × (s.block ≤ 65536)
  pub fetch : (1 ≤ s.fetch) × (s.fetch ≤ 4096)
  pub cache : s.cache ≤ 4096

abbrev pub KeepsLimits : Command → Type 0
KeepsLimits (command.Run job) = AreInRange job.settings
KeepsLimits (command.Explain job) = AreInRange job.settings
KeepsLimits (command.Gen seed size) = size ≤ 1000000
KeepsLimits other = ⊤

-- ---- what a call answers

-- what there is; a refusal other than for want of memory comes only where there is nothing
abbrev pub AnswersWanted : {T : Type 0} → Option T → Result T WordsError → Type 0
AnswersWanted wanted result = MatchResult result (λ x. wanted ≡ Some x) (λ e. e ≡ Usage → wanted ≡ None)

-- no refusal but for want of memory. No public contract cites this.
abbrev pub OnlyWants : {T : Type 0} → Result T WordsError → Type 0
OnlyWants result = IfErr result (λ e. e ≡ NoMemory)
