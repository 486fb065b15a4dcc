use Rattle.std.proofs.Common.{true}
use Rattle.kl_forms.specs.Checks.{Checks}
use Rattle.kl_forms.proofs.Turns.{Before, ItemHas, FieldHas}
use Rattle.kl_forms.proofs.constants.+value.Given as goal

abbrev pub invariant-each_has-items : goal.invariant-each_has-items
invariant-each_has-items l = Checks true l.fn.u.cells.items l.u.cells.items (Before l.v-index (ItemHas l.items l.item))

abbrev pub invariant-fields_have-loop-i : goal.invariant-fields_have-loop-i
invariant-fields_have-loop-i l = Checks true l.fn.u.cells.items l.u.cells.items (Before l.i (FieldHas l.fields l.types))
