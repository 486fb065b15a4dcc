use Rattle.kl_engine.proofs.fault.write_untyped.Goals as goal

pub returns : goal.returns
returns g c = rw c.format.ensures.text at (rw c.as_bytes.ensures.value at c.write_parts.ensures)
