use Rattle.std.proofs.Common.{List, ℕ, MatchOption, sym, subst}
use Rattle.kl_value.specs.Quoted.{backslash}
use Rattle.kl_lex.specs.Reading.{NoPart, PartFirst}
use Rattle.kl_lex.proofs.Fronts.{first_and_rest, begins}
use Rattle.kl_lex.proofs.Inside.{plain_first}
use Rattle.kl_lex.proofs.quoted.part_at.Goals as goal

pub returns-then-first-eq92 : goal.returns-then-first-eq92
returns-then-first-eq92 c =
    subst (λ (z : List ℕ). MatchOption c.escape_at.result (NoPart z) (λ part. PartFirst z part.0 part.1.now))
    (sym (begins c.args.bytes.now backslash c.in-len1-up.len_at_least c.if-first-eq92.true)) c.escape_at.ensures

pub returns-else-first-eq92 : goal.returns-else-first-eq92
returns-else-first-eq92 c =
    plain_first c.args.bytes.now _ _ (first_and_rest c.args.bytes.now c.in-len1-up.len_at_least) c.if-first-eq34.false c.if-first-eq92.false
