use Rattle.std.proofs.Common.{List, ℕ, ◌∷◌, MatchOption, sym, subst}
use Rattle.kl_value.specs.Quoted.{backslash}
use Rattle.kl_lex.specs.Reading.{NoPart, PartFirst}
use Rattle.kl_lex.proofs.Fronts.{first_and_rest, begins}
use Rattle.kl_lex.proofs.Inside.{escape_first}
use Rattle.kl_lex.proofs.quoted.escape_at.Goals as goal

pub returns-then-first-eq120 : goal.returns-then-first-eq120
returns-then-first-eq120 c =
    subst (λ (z : List ℕ). MatchOption c.hex_at.result (NoPart (backslash ∷ z)) (λ part. PartFirst (backslash ∷ z) part.0 part.1.now))
    (sym (begins c.args.bytes.now 120 c.in-len1-up.len_at_least c.if-first-eq120.true)) c.hex_at.ensures

pub returns-in_ok-escaped-in-len1-up : goal.returns-in_ok-escaped-in-len1-up
returns-in_ok-escaped-in-len1-up c =
    escape_first c.args.bytes.now _ _ _ (first_and_rest c.args.bytes.now c.in-len1-up.len_at_least) (sym c.in_ok-escaped-in-len1-up.ensures)
