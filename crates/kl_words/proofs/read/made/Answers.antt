use Rattle.std.proofs.Common.{◌∙◌, ap, map, string_bytes}
use Rattle.clap.specs.Words.{app_of, found_of, is_simple_and_free, rows_of}
use Rattle.kl_words.specs.Lines.{gen_line}
use Rattle.kl_words.specs.Commands.{numbers_of, reading}
use Rattle.kl_words.proofs.Ranges.{size_in}
use Rattle.kl_words.proofs.Reading.{read_by, then_answers}
use Rattle.kl_words.proofs.Simple.{gen_simple}
use Rattle.kl_words.proofs.read.made.Goals as goal

pub read_line-requires : goal.read_line-requires
read_line-requires c = ap is_simple_and_free c.in_ok-made.ensures ∙ gen_simple

pub returns-clause-meant : goal.returns-clause-meant
returns-clause-meant c =
    let words = map string_bytes c.args.words.now in
    then_answers (reading gen_line words) (rows_of (found_of c.in_ok-matches.matches)) numbers_of c.numbers.result
    (read_by (app_of c.in_ok-made.field-0) gen_line words _ c.in_ok-made.ensures c.in_ok-matches.ensures.ok) c.numbers.ensures

pub returns-clause-within : goal.returns-clause-within
returns-clause-within c =
    size_in c.in_ok-made.field-0 c.in_ok-matches.matches c.numbers.result c.in_ok-made.ensures c.in_ok-matches.ensures.parsed c.numbers.ensures
