use Rattle.std.proofs.Common.{refl, nat_eq}
use Rattle.std.specs.Cmp.Lexicographic.{pointwise}
use Rattle.kl_prim.specs.Table.{rows}
use Rattle.kl_prim.proofs.TableLemmas.{distinct_is}
use Rattle.kl_prim.proofs.primitives.table.Goals as goal

pub invariant_of-result : goal.invariant_of-result
invariant_of-result c = record {
  counted = refl;
  codes_differ = distinct_is nat_eq _ refl;
  names_differ = distinct_is (pointwise nat_eq) _ refl;
}

pub returns : goal.returns
unfolding rows
returns c = refl
