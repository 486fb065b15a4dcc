use Rattle.std.proofs.Common.{[], sym, ◌∙◌}
use Rattle.kl_cursor.proofs.Gatherings.{tells_at, tells_empty, tells_count, tells_sum}
use Rattle.kl_cursor.proofs.gathering.tally_for.Goals as goal

pub returns-then-code-eq-IS_EMPTY-clause-tells : goal.returns-then-code-eq-IS_EMPTY-clause-tells
returns-then-code-eq-IS_EMPTY-clause-tells c = tells_at _ _ [] c.args.kind _ c.if-code-eq-IS_EMPTY.true (tells_empty c.args.kind)

pub returns-then-code-eq-COUNT-clause-tells : goal.returns-then-code-eq-COUNT-clause-tells
returns-then-code-eq-COUNT-clause-tells c = tells_at _ _ [] c.args.kind _ c.if-code-eq-COUNT.true (tells_count c.args.kind (sym c.is_set.ensures ∙ c.if-is_set.false))

pub returns-then-code-eq-SUM-clause-tells : goal.returns-then-code-eq-SUM-clause-tells
returns-then-code-eq-SUM-clause-tells c = tells_at _ _ [] c.args.kind _ c.if-code-eq-SUM.true (tells_sum c.args.kind (sym c.is_set.ensures ∙ c.if-is_set.false))
