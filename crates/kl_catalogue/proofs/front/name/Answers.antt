use Rattle.std.proofs.Common.{sym, ap, ◌∙◌}
use Rattle.kl_lex.specs.Keywords.{is_keyword}
use Rattle.kl_catalogue.proofs.Steps.{no_name, name_taken, name_free}
use Rattle.kl_catalogue.proofs.front.name.Goals as goal

pub returns-in-None : goal.returns-in-None
returns-in-None c = no_name c.args.tokens.now c.in-None.ensures

pub returns-then-is_keyword : goal.returns-then-is_keyword
returns-then-is_keyword c = name_taken c.args.tokens.now c.in-Some.rest.now c.in-Some.word.now c.in-Some.ensures (ap is_keyword (sym c.slice.ensures) ∙ sym c.if-is_keyword.ensures)

pub returns-in_ok-dup-in-Some : goal.returns-in_ok-dup-in-Some
returns-in_ok-dup-in-Some c = rw c.in_ok-dup-in-Some.ensures (name_free c.args.tokens.now c.in-Some.rest.now c.in-Some.word.now c.in-Some.ensures (ap is_keyword (sym c.slice.ensures) ∙ sym c.if-is_keyword.ensures))
