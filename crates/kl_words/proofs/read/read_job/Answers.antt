use Rattle.std.proofs.Common.{◌∙◌, ap, map, string_bytes}
use Rattle.clap.specs.Words.{app_of, found_of, is_simple_and_free, rows_of}
use Rattle.kl_words.specs.Lines.{job_line}
use Rattle.kl_words.specs.Commands.{job_of, reading}
use Rattle.kl_words.proofs.Ranges.{job_in}
use Rattle.kl_words.proofs.Reading.{read_by, then_answers}
use Rattle.kl_words.proofs.Simple.{job_simple}
use Rattle.kl_words.proofs.read.read_job.Goals as goal

pub read_line-requires : goal.read_line-requires
read_line-requires c = ap is_simple_and_free c.in_ok-job.ensures ∙ job_simple _

pub returns-clause-meant : goal.returns-clause-meant
returns-clause-meant c =
    let words = map string_bytes c.args.words.now in
    then_answers (reading (job_line c.args.name.now) words) (rows_of (found_of c.in_ok-matches.matches)) job_of c.job-2.result
    (read_by (app_of c.in_ok-job.field-0) (job_line c.args.name.now) words _ c.in_ok-job.ensures c.in_ok-matches.ensures.ok) c.job-2.ensures

pub returns-clause-within : goal.returns-clause-within
returns-clause-within c =
    job_in c.args.name.now c.in_ok-job.field-0 c.in_ok-matches.matches c.job-2.result c.in_ok-job.ensures c.in_ok-matches.ensures.parsed c.job-2.ensures
