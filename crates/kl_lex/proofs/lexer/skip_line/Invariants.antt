use Rattle.std.proofs.Common.{◌≡◌, List, ℕ, ◌++◌, length}
use Rattle.kl_lex.specs.Blank.{InLine}
use Rattle.kl_lex.proofs.lexer.skip_line.Given as goal

abbrev pub decreases-line : goal.decreases-line
decreases-line l = length l.rest

abbrev pub invariant-line : goal.invariant-line
invariant-line l = (line : List ℕ) × (l.bytes ≡ line ++ l.rest) × InLine line
