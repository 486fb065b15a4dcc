use Rattle.std.proofs.Common.{[], inl, inr, ap, refl, Some}
use Rattle.kl_engine.proofs.ShowLemmas.{upgrade_refused, upgrade_wanted, upgrade_unopened, upgrade_done}
use Rattle.kl_engine.proofs.WordLemmas.{fault_none, one_fault}
use Rattle.kl_engine.proofs.show.upgrade.Goals as goal

pub returns-in-Err-Bad-clause-does : goal.returns-in-Err-Bad-clause-does
returns-in-Err-Bad-clause-does g c = λ ds. rw c.in-Err-Bad.field-0-is (upgrade_refused _ _ ds _ _ _ (inl (c.in-Err-Bad.place, (rw c.in-Err-Bad.field-0-is at c.in-Err-Bad.ensures.refused), refl)))

pub returns-in-Err-Bad-clause-type_first : goal.returns-in-Err-Bad-clause-type_first
returns-in-Err-Bad-clause-type_first g c = λ f wrong. rw c.in-Err-Bad.field-0-is (inl (ap Some (one_fault _ _ f (inl (c.in-Err-Bad.place, (rw c.in-Err-Bad.field-0-is at c.in-Err-Bad.ensures.refused), refl)) wrong)), refl, refl)

pub returns-in-Err-TooDeep-clause-does : goal.returns-in-Err-TooDeep-clause-does
returns-in-Err-TooDeep-clause-does g c = λ ds. upgrade_refused _ _ ds _ _ _ (inr (c.in-Err-TooDeep.field-0-0, (rw c.in-Err-TooDeep.field-0-is at c.in-Err-TooDeep.ensures.refused), refl))

pub returns-in-Err-TooDeep-clause-type_first : goal.returns-in-Err-TooDeep-clause-type_first
returns-in-Err-TooDeep-clause-type_first g c = λ f wrong. (inl (ap Some (one_fault _ _ f (inr (c.in-Err-TooDeep.field-0-0, (rw c.in-Err-TooDeep.field-0-is at c.in-Err-TooDeep.ensures.refused), refl)) wrong)), refl, refl)

pub returns-in-Err-NoMemory-clause-does : goal.returns-in-Err-NoMemory-clause-does
returns-in-Err-NoMemory-clause-does g c = λ ds. upgrade_wanted _ _ ds _ _

pub returns-in-Err-clause-does : goal.returns-in-Err-clause-does
returns-in-Err-clause-does g c = λ ds. upgrade_wanted _ _ ds _ _

pub returns-in-Err-open_path-clause-does : goal.returns-in-Err-open_path-clause-does
returns-in-Err-open_path-clause-does g c = λ ds. rw c.open_fault.ensures (upgrade_unopened _ ds _ _ _ _ c.in-Ok.ty c.in-Ok.ensures.reads c.in-Err-open_path.stop c.in-Err-open_path.ensures)

pub returns-in-Err-open_path-clause-type_first : goal.returns-in-Err-open_path-clause-type_first
returns-in-Err-open_path-clause-type_first g c = λ f wrong. absurd (fault_none _ c.in-Ok.ty f c.in-Ok.ensures.reads wrong)

pub close-requires : goal.close-requires
close-requires g c = (c.upgrade_file-result.ensures []).reads.is_open

pub returns-clause-does : goal.returns-clause-does
returns-clause-does g c = λ ds. upgrade_done _ _ c.in-Ok.ty ds c.in-Ok-open_path.file _ _ _ _ _ _ _ c.in-Ok.ensures.reads c.in-Ok-open_path.ensures (c.upgrade_file-result.ensures ds) c.close.ensures

pub returns-clause-type_first : goal.returns-clause-type_first
returns-clause-type_first g c = λ f wrong. absurd (fault_none _ c.in-Ok.ty f c.in-Ok.ensures.reads wrong)
