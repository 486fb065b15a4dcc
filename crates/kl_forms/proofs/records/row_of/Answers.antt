use Rattle.std.proofs.Common.{sym, subst, rules}
use Rattle.std.proofs.lemmas.List.Sorted.{answers_always}
use Rattle.kl_base.specs.Fields.{bytes_cmp}
use Rattle.kl_base.specs.Sorted.{IsRising}
use Rattle.kl_base.proofs.FieldsLemmas.{by_label, by_label_ranks}
use Rattle.kl_rows.specs.Places.{AreTypes}
use Rattle.kl_forms.specs.Rows.{FindsRow}
use Rattle.kl_forms.proofs.Sorting.{rising_sorted, perm_types, finds_sorted}
use Rattle.kl_forms.proofs.records.row_of.Goals as goal

pub sorted_row-requires-clause-fields_there : goal.sorted_row-requires-clause-fields_there
sorted_row-requires-clause-fields_there c = subst (AreTypes c.args.u.now.cells.items) (sym c.deref.ensures.value) (perm_types _ _ _ c.in_ok-sort_by.ensures.permutation c.requires.fields_there)

pub sorted_row-requires-clause-rise : goal.sorted_row-requires-clause-rise
sorted_row-requires-clause-rise c =
    subst (IsRising (λ f g. bytes_cmp f.0 g.0)) (sym c.deref.ensures.value)
    (rising_sorted _ (c.in_ok-sort_by.ensures.sorted by_label by_label_ranks (answers_always _ _ _ (λ f a r q k. search rules))))

pub returns : goal.returns
returns c =
    finds_sorted c.in_ok-found.found c.args.is_open c.args.fields.items _ c.args.u.now.cells.items c.sorted_row.new.u.cells.items c.in_ok-sort_by.ensures.permutation
    (subst (FindsRow c.in_ok-found.found c.args.u.now.cells.items c.sorted_row.new.u.cells.items c.args.is_open) c.deref.ensures.value c.in_ok-found.ensures)
