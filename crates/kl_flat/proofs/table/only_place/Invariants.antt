use Rattle.std.proofs.Common.{◌≡◌, take, Some}
use Rattle.std.specs.Option.{MatchOption}
use Rattle.csv.specs.Records.{field_at, fields_of}
use Rattle.kl_flat.specs.Table.{times}
use Rattle.kl_flat.proofs.table.only_place.Given as goal

abbrev pub invariant-loop-i : goal.invariant-loop-i
invariant-loop-i l =
    MatchOption l.found (times l.name (take l.i (fields_of l.header)) ≡ 0)
    (λ k. (times l.name (take l.i (fields_of l.header)) ≡ 1) × (field_at (fields_of l.header) k ≡ Some l.name))
