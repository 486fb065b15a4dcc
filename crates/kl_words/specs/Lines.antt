-- The command lines, as clap reads them.
use Rattle.std.specs.Prelude.{ℤ, pos, Bool, true, false, Some, codes}
use Rattle.clap.specs.Words.{App, Rule, Text, new_app, new_rule, with_rule}
use Rattle.clap.specs.declared.builder.ArgAction.TheVariants.{SetTrue}
use Rattle.clap.specs.declared.builder.ValueParser.TheVariants as parser

-- a word in its place
abbrev pub place_rule : Text → Bool → Rule
place_rule name required = record (new_rule name) { required = required }

-- a number from 0 to `most` in its place
abbrev pub amount_rule : Text → ℤ → Rule
amount_rule name most = record (new_rule name) { required = true; parser = Some (parser.Signed (pos 0) most) }

-- an option with a number from `least` to `most`
abbrev pub number_rule : Text → ℤ → ℤ → Rule
number_rule name least most = record (new_rule name) {
  long = Some name;
  parser = Some (parser.Signed least most);
}

-- an option with a text
abbrev pub text_rule : Text → Rule
text_rule name = record (new_rule name) { long = Some name }

-- an option without a value
abbrev pub flag_rule : Text → Rule
flag_rule name = record (new_rule name) { long = Some name; action = Some SetTrue }

-- a command on a program and perhaps a catalogue
unfoldable pub program_line : Text → App
program_line name = with_rule (with_rule (new_app name) (place_rule (codes "program") true)) (place_rule (codes "catalogue") false)

-- a command on a program with the options of a run
unfoldable pub job_line : Text → App
unfolding program_line
job_line name =
    with_rule (with_rule (with_rule (with_rule (with_rule (with_rule (with_rule (with_rule
    (program_line name)
    (number_rule (codes "block") (pos 1) (pos 65536)))
    (number_rule (codes "fetch") (pos 1) (pos 4096)))
    (number_rule (codes "cache") (pos 0) (pos 4096)))
    (text_rule (codes "join")))
    (flag_rule (codes "no-rewrite")))
    (flag_rule (codes "no-delegate")))
    (number_rule (codes "first") (pos 0) (pos 4294967295)))
    (flag_rule (codes "stats"))

-- `show`
unfoldable pub show_line : App
show_line = with_rule (new_app (codes "show")) (place_rule (codes "file") true)

-- `upgrade`, on a file and a type
unfoldable pub upgrade_line : App
upgrade_line = with_rule (with_rule (new_app (codes "upgrade")) (place_rule (codes "file") true)) (place_rule (codes "type") true)

-- `gen`, with a seed and a number of rows
unfoldable pub gen_line : App
gen_line = with_rule (with_rule (new_app (codes "gen")) (amount_rule (codes "seed") (pos 4294967295)))
    (amount_rule (codes "size") (pos 1000000))
