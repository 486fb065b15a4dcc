use Rattle.kl_rows.specs.Places.{a_kind}
use Rattle.calls_language.proofs.unifier.is_fixed_once.Goals as goal

pub merge-requires-clause-sorts : goal.merge-requires-clause-sorts
merge-requires-clause-sorts c = record {
  sort = a_kind;
  first = c.in_ok-is_set.ensures.keeps.sorts c.in_ok-kind.kind a_kind (c.in_ok-bag.ensures.keeps.sorts c.in_ok-kind.kind a_kind (c.in_ok-set.ensures.keeps.sorts c.in_ok-kind.kind a_kind c.in_ok-kind.ensures.sort));
  second = c.in_ok-is_set.ensures.keeps.sorts c.in_ok-bag.bag a_kind c.in_ok-bag.ensures.sort;
}
