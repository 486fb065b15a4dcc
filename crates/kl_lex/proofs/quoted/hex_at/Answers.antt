use Rattle.kl_lex.proofs.Fronts.{two_and_rest}
use Rattle.kl_lex.proofs.Inside.{hex_first, no_hex}
use Rattle.kl_lex.proofs.quoted.hex_at.Goals as goal

pub returns-in_err-hex-in-len2-up : goal.returns-in_err-hex-in-len2-up
returns-in_err-hex-in-len2-up c =
    rw c.from_residual.ensures (no_hex c.args.bytes.now _ _ _ (two_and_rest c.args.bytes.now c.in-len2-up.len_at_least) c.in_err-hex-in-len2-up.ensures)

pub returns-in_ok-hex-in-len2-up : goal.returns-in_ok-hex-in-len2-up
returns-in_ok-hex-in-len2-up c =
    hex_first c.args.bytes.now _ _ _ _ (two_and_rest c.args.bytes.now c.in-len2-up.len_at_least) c.in_ok-hex-in-len2-up.ensures
