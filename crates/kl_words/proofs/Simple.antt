-- The command lines are such whose reading clap defines.
use Rattle.std.proofs.Common.{◌≡◌, true, refl}
use Rattle.clap.specs.Words.{Text, is_simple_and_free}
use Rattle.kl_words.specs.Lines.{gen_line, job_line, program_line, show_line, upgrade_line}

pub job_simple : (name : Text) → is_simple_and_free (job_line name) ≡ true
unfolding job_line program_line
job_simple name = refl

pub program_simple : (name : Text) → is_simple_and_free (program_line name) ≡ true
unfolding program_line
program_simple name = refl

pub show_simple : is_simple_and_free show_line ≡ true
unfolding show_line
show_simple = refl

pub upgrade_simple : is_simple_and_free upgrade_line ≡ true
unfolding upgrade_line
upgrade_simple = refl

pub gen_simple : is_simple_and_free gen_line ≡ true
unfolding gen_line
gen_simple = refl
