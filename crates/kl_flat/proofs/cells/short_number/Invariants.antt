use Rattle.std.proofs.Common.{◌≡◌, ◌<◌, take, true}
use Rattle.std.specs.Str.{all_ascii_digits}
use Rattle.std.specs.Str.Parse.{digits_value}
use Rattle.kl_flat.proofs.cells.short_number.Given as goal

abbrev pub invariant-loop-byte : goal.invariant-loop-byte
invariant-loop-byte l = record {
  value : l.number ≡ digits_value 10 (take l.byte-index l.bytes);
  digits : all_ascii_digits (take l.byte-index l.bytes) ≡ true;
  small : l.number < 1000000000000000000;
}
