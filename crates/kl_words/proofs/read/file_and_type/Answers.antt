use Rattle.std.proofs.Common.{◌∙◌, Some, ap, map, option_map, string_bytes, sym}
use Rattle.clap.specs.Words.{app_of, found_of, is_simple_and_free, rows_of}
use Rattle.kl_words.specs.Lines.{upgrade_line}
use Rattle.kl_words.specs.Commands.{file_and_type_of}
use Rattle.kl_words.proofs.Reading.{read_by}
use Rattle.kl_words.proofs.Simple.{upgrade_simple}
use Rattle.kl_words.proofs.read.file_and_type.Goals as goal

pub read_line-requires : goal.read_line-requires
read_line-requires c = ap is_simple_and_free c.in_ok-upgrade.ensures ∙ upgrade_simple

pub returns : goal.returns
returns c =
    let read = read_by (app_of c.in_ok-upgrade.field-0) upgrade_line (map string_bytes c.args.words.now) (Some (rows_of (found_of c.in_ok-matches.matches))) c.in_ok-upgrade.ensures c.in_ok-matches.ensures.ok in
    ap (option_map file_and_type_of) read ∙ (λ i. Some (sym c.in_ok-path.ensures.path i, sym c.in_ok-path-2.ensures.path i))
