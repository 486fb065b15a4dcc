use Rattle.std.proofs.Common.{◌≡◌, ◌≤◌, length}
use Rattle.kl_lex.specs.Lexing.{Upto}
use Rattle.kl_lex.proofs.lexer.lex.Given as goal

abbrev pub decreases-tokens : goal.decreases-tokens
decreases-tokens l = length l.lexer.rest.now

abbrev pub invariant-tokens : goal.invariant-tokens
invariant-tokens l = record {
  total : l.lexer.total ≡ length l.bytes;
  within : length l.lexer.rest.now ≤ length l.bytes;
  so_far : Upto (length l.bytes) l.bytes l.tokens.items l.lexer.rest.now;
}
