use Rattle.std.proofs.Common.{◌∙◌, [], ◌∷◌, sym, ap, refl}
use Rattle.std.specs.Ordering.{is_eq, is_ne, is_lt, is_le, is_gt, is_ge}
use Rattle.kl_prim.specs.Meaning.{truth}
use Rattle.kl_prim.specs.Table.{meaning, row_at, rows}
use Rattle.kl_prim.proofs.TableLemmas.{means}
use Rattle.kl_eval.proofs.comparing.holds.Goals as goal

pub returns-in-1 : goal.returns-in-1
unfolding meaning row_at rows
returns-in-1 c = means c.args.code 1 (c.args.first.now ∷ c.args.second.now ∷ []) _ c.in-1.is refl ∙ ap truth (sym (c.is_eq.ensures ∙ ap is_eq c.cmp-order.ensures))

pub returns-in-2 : goal.returns-in-2
unfolding meaning row_at rows
returns-in-2 c = means c.args.code 2 (c.args.first.now ∷ c.args.second.now ∷ []) _ c.in-2.is refl ∙ ap truth (sym (c.is_ne.ensures ∙ ap is_ne c.cmp-order.ensures))

pub returns-in-3 : goal.returns-in-3
unfolding meaning row_at rows
returns-in-3 c = means c.args.code 3 (c.args.first.now ∷ c.args.second.now ∷ []) _ c.in-3.is refl ∙ ap truth (sym (c.is_lt.ensures ∙ ap is_lt c.cmp-order.ensures))

pub returns-in-4 : goal.returns-in-4
unfolding meaning row_at rows
returns-in-4 c = means c.args.code 4 (c.args.first.now ∷ c.args.second.now ∷ []) _ c.in-4.is refl ∙ ap truth (sym (c.is_le.ensures ∙ ap is_le c.cmp-order.ensures))

pub returns-in-5 : goal.returns-in-5
unfolding meaning row_at rows
returns-in-5 c = means c.args.code 5 (c.args.first.now ∷ c.args.second.now ∷ []) _ c.in-5.is refl ∙ ap truth (sym (c.is_gt.ensures ∙ ap is_gt c.cmp-order.ensures))

pub returns-in-6 : goal.returns-in-6
unfolding meaning row_at rows
returns-in-6 c = means c.args.code 6 (c.args.first.now ∷ c.args.second.now ∷ []) _ c.in-6.is refl ∙ ap truth (sym (c.is_ge.ensures ∙ ap is_ge c.cmp-order.ensures))
