use Rattle.kl_engine.proofs.fault.write_wrong.Goals as goal

pub returns-in-Unknown : goal.returns-in-Unknown
returns-in-Unknown g c = rw c.in-Unknown.is (rw c.slice.ensures at c.write_text-in-Unknown.ensures)

pub returns-in-Twice : goal.returns-in-Twice
returns-in-Twice g c = rw c.in-Twice.is (rw c.slice-in-Twice.ensures at c.write_text-in-Twice.ensures)

pub returns-in-Misapplied : goal.returns-in-Misapplied
returns-in-Misapplied g c = rw c.in-Misapplied.is (rw c.slice-in-Misapplied.ensures at c.write_text-in-Misapplied.ensures)

pub returns-in-Refutable : goal.returns-in-Refutable
returns-in-Refutable g c = rw c.in-Refutable.is c.write_text-in-Refutable.ensures
