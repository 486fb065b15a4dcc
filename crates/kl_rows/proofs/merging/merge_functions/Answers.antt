use Rattle.kl_rows.proofs.Rounds.{function_there, two_pairs, functions_asked}
use Rattle.kl_rows.proofs.merging.merge_functions.Goals as goal

pub merge_all-requires-clause-within : goal.merge_all-requires-clause-within
merge_all-requires-clause-within c =
    two_pairs c.args.cells.now.items c.args.first c.args.second c.function_at-one.result c.function_at-other.result _ c.requires.fine
    (function_there _ _ c.args.first c.function_at-one.result c.deref.ensures.value c.function_at-one.ensures)
    (function_there _ _ c.args.second c.function_at-other.result c.deref-2.ensures.value c.function_at-other.ensures) c.in_ok-pairs.ensures.items

pub returns : goal.returns
returns c =
    functions_asked c.args.cells.now.items _ c.args.first c.args.second c.function_at-one.result c.function_at-other.result _ _
    (function_there _ _ c.args.first c.function_at-one.result c.deref.ensures.value c.function_at-one.ensures)
    (function_there _ _ c.args.second c.function_at-other.result c.deref-2.ensures.value c.function_at-other.ensures) c.in_ok-pairs.ensures.items c.in_ok-holds.ensures
