use Rattle.std.proofs.Common.{inl, sym, subst, ap, ◌∙◌}
use Rattle.kl_type.specs.Ground.{IsGround}
use Rattle.kl_type.proofs.GroundLemmas.{ground-Int}
use Rattle.kl_rows.specs.Places.{a_type, sort_at}
use Rattle.kl_rows.specs.Schemes.{cells_of}
use Rattle.kl_rows.proofs.Adding.{unified_solvable}
use Rattle.calls_language.proofs.unifier.settles.Goals as goal

pub make-requires-clause-can : goal.make-requires-clause-can
make-requires-clause-can c = subst IsGround (sym ground-Int) tt

pub settle-requires-clause-on_root : goal.settle-requires-clause-on_root
settle-requires-clause-on_root c = inl (c.in_ok-unify.ensures.keeps.sorts c.in_ok-open.open a_type (c.in_ok-int.ensures.keeps.sorts c.in_ok-open.open a_type c.in_ok-open.ensures.sort))

pub settle-requires-clause-solvable : goal.settle-requires-clause-solvable
settle-requires-clause-solvable c = unified_solvable _ _ _ _ _ c.if-not-branch.false c.in_ok-unify.ensures

pub merge-requires-clause-sorts : goal.merge-requires-clause-sorts
merge-requires-clause-sorts c = record {
  sort = a_type;
  first = c.in_ok-used.ensures.sort ∙ ap (λ s. sort_at (cells_of s.nodes) s.root) c.in_ok-copy.ensures ∙ c.in_ok-scheme.ensures.sort
      ∙ c.in_ok-unify.ensures.keeps.sorts c.in_ok-open.open a_type (c.in_ok-int.ensures.keeps.sorts c.in_ok-open.open a_type c.in_ok-open.ensures.sort);
  second = c.in_ok-used.ensures.keeps.sorts c.in_ok-int.int a_type (c.in_ok-unify.ensures.keeps.sorts c.in_ok-int.int a_type c.in_ok-int.ensures.sort);
}
