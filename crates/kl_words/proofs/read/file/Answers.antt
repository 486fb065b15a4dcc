use Rattle.std.proofs.Common.{◌∙◌, ap, codes, map, string_bytes}
use Rattle.clap.specs.Words.{app_of, found_of, is_simple_and_free, rows_of}
use Rattle.kl_words.specs.Lines.{show_line}
use Rattle.kl_words.specs.Commands.{path_at}
use Rattle.kl_words.proofs.Reading.{read_one}
use Rattle.kl_words.proofs.Simple.{show_simple}
use Rattle.kl_words.proofs.read.file.Goals as goal

pub read_line-requires : goal.read_line-requires
read_line-requires c = ap is_simple_and_free c.in_ok-show.ensures ∙ show_simple

pub returns : goal.returns
returns c =
    read_one (path_at (codes "file")) (app_of c.in_ok-show.field-0) show_line (map string_bytes c.args.words.now) (rows_of (found_of c.in_ok-matches.matches)) c.path.result
    c.in_ok-show.ensures c.in_ok-matches.ensures.ok c.path.ensures.path c.path.ensures.wants
