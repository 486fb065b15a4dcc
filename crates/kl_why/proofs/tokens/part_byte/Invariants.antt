use Rattle.std.proofs.Common.{◌≡◌, drop}
use Rattle.kl_why.specs.Tokens.{behind}
use Rattle.kl_why.proofs.tokens.part_byte.Given as goal

abbrev pub invariant-loop-token : goal.invariant-loop-token
invariant-loop-token l = behind l.left (drop l.token-index l.tokens) ≡ behind l.number l.tokens
