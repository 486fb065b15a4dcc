use Rattle.std.proofs.Common.{◌≡◌, drop}
use Rattle.std.specs.List.{list_all}
use Rattle.kl_flat.specs.RowTests.{passes_at}
use Rattle.kl_flat.proofs.answering.passes_all.Given as goal

abbrev pub invariant-loop-test : goal.invariant-loop-test
invariant-loop-test l = list_all (λ t. passes_at t l.at) (drop l.test-index l.tests) ≡ list_all (λ t. passes_at t l.at) l.tests
