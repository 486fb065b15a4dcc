use Rattle.std.proofs.Common.{inl, refl, sym, subst, ◌∙◌}
use Rattle.kl_rows.specs.Places.{a_row, IsIn}
use Rattle.calls_language.proofs.unifier.open_record.Goals as goal

pub settled-requires-clause-on_root : goal.settled-requires-clause-on_root
settled-requires-clause-on_root c = inl c.in_ok-record.ensures.sort

pub make-requires-clause-can : goal.make-requires-clause-can
make-requires-clause-can c = record {
  placed = ((c.in_ok-field.ensures.sort, tt), c.in_ok-field.ensures.keeps.sorts c.in_ok-rest.rest a_row c.in_ok-rest.ensures.sort);
  tidy = record { lack = (c.in_ok-field.ensures.keeps.lacks c.in_ok-dup-2.field-0 c.in_ok-rest.rest (c.in_ok-rest.ensures.lacks c.in_ok-dup-2.field-0 (subst (IsIn c.in_ok-dup-2.field-0) (sym (c.deref.ensures.value ∙ c.in_ok-lacks.ensures.items)) (inl (c.in_ok-dup-2.ensures ∙ sym c.in_ok-dup.ensures)))), tt); differ = (refl, tt) };
}
