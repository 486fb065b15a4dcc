-- Hexadecimal digits, by their value.
use Rattle.std.proofs.Common.{◌≡◌, ℕ, ◌<◌, true, arith}
use Rattle.std.proofs.lemmas.Bool.Decides.{nat_tests}
use Rattle.std.specs.Char.{is_ascii_hexdigit, digit_value}

pub hex_below : (d : ℕ) → is_ascii_hexdigit d ≡ true → digit_value d < 16
hex_below d h = grind (arith, nat_tests)

pub hex_from_below : (d : ℕ) → digit_value d < 16 → is_ascii_hexdigit d ≡ true
hex_from_below d h = grind (arith, nat_tests)
