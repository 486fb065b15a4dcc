use Rattle.std.proofs.Common.{List, ℕ, subst, sym}
use Rattle.kl_lex.specs.declared.token.Tok.TheVariants.{Text}
use Rattle.kl_value.specs.Quoted.{quote}
use Rattle.kl_lex.specs.Lexing.{Starts, NoneStarts}
use Rattle.kl_lex.proofs.Firsts.{other_sort}
use Rattle.kl_lex.proofs.Fronts.{begins}
use Rattle.kl_lex.proofs.Readings.{text_starts, text_none, symbol_starts}
use Rattle.kl_lex.proofs.lexer.token_at.Goals as goal

pub returns-in-None : goal.returns-in-None
returns-in-None c =
    subst NoneStarts (sym (begins c.args.bytes.now quote c.in-len1-up.len_at_least c.if-first-eq34.true))
    (text_none _ (rw c.in-None.is at c.in_ok-text_at-in-len1-up.ensures))

pub returns-in-Some : goal.returns-in-Some
returns-in-Some c =
    subst (λ (z : List ℕ). Starts z (Text c.in-Some.text) c.in-Some.rest.now) (sym (begins c.args.bytes.now quote c.in-len1-up.len_at_least c.if-first-eq34.true))
    (text_starts _ c.in-Some.text c.in-Some.rest.now (rw c.in-Some.is at c.in_ok-text_at-in-len1-up.ensures))

pub returns-in-Some-symbol_at : goal.returns-in-Some-symbol_at
returns-in-Some-symbol_at c =
    symbol_starts c.args.bytes.now c.in-Some-symbol_at.sym c.in-Some-symbol_at.rest.now
    (other_sort _ (sym c.if-is_ascii_alphabetic.ensures.value) (sym c.if-is_ascii_digit.ensures.value) c.if-first-eq34.false)
    c.in-Some-symbol_at.ensures
