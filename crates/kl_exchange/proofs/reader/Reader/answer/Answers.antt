use Rattle.std.proofs.Common.{refl, ◌∙◌}
use Rattle.kl_exchange.specs.Machine.{more}
use Rattle.kl_exchange.proofs.Reading.{keeps_sound, keeps_all, goes_to, ends_here, bad_here, deep_here}
use Rattle.kl_exchange.proofs.reader.Reader.answer.Goals as goal

pub scan-requires : goal.scan-requires
scan-requires c = keeps_sound c.self.inside.buffer.items c.self.inside.start c.self.inside.scanned c.self.inside.place c.self.inside.machine c.self.invariant

pub invariant_of-self : goal.invariant_of-self
invariant_of-self c =
    let e = rw c.in-Ok-More.field-0-is at c.in-Ok-More.ensures in
    keeps_all c.self.inside.buffer.items c.deref.result.now c.self.inside.start c.self.inside.scanned c.self.inside.place c.self.inside.machine
    c.self.inside.machine c.self.invariant c.deref.ensures.value refl c.scan.new.machine c.len-self-inside.result
    (c.len-self-inside.ensures ∙ c.self.inside.buffer.ok.0) e

pub at_end-requires-clause-begun : goal.at_end-requires-clause-begun
at_end-requires-clause-begun c =
    let e = rw c.in-Ok-More.field-0-is at c.in-Ok-More.ensures in
    record {
      machine = c.scan.new.machine;
      met = goes_to c.self.inside.buffer.items c.deref.result.now c.self.inside.start c.self.inside.scanned c.self.inside.place c.self.inside.machine
          c.self.inside.machine c.self.invariant c.deref.ensures.value refl (more c.scan.new.machine) e;
    }

pub returns-in-Ok-Ends : goal.returns-in-Ok-Ends
returns-in-Ok-Ends c =
    let e = rw c.in-Ok-Ends.field-0-is at c.in-Ok-Ends.ensures in
    rw (← c.self.view_is)
    (ends_here c.self.inside.buffer.items c.deref.result.now c.self.inside.start c.self.inside.scanned c.self.inside.place c.self.inside.machine
    c.self.inside.machine c.self.invariant c.deref.ensures.value refl c.self.inside.finished c.self.inside.refused
    c.in-Ok-Ends.value c.in-Ok-Ends.count (e.0, e.1) c.in-None.is)

pub returns-in-Err-Bad : goal.returns-in-Err-Bad
returns-in-Err-Bad c =
    let e = rw c.in-Err-Bad.field-0-is at c.in-Err-Bad.ensures in
    rw (← c.self.view_is)
    (bad_here c.self.inside.buffer.items c.deref.result.now c.self.inside.start c.self.inside.scanned c.self.inside.place c.self.inside.machine
    c.self.inside.machine c.self.invariant c.deref.ensures.value refl c.self.inside.finished c.self.inside.refused
    c.in-Err-Bad.count e c.in-None.is)

pub returns-in-Err-TooDeep : goal.returns-in-Err-TooDeep
returns-in-Err-TooDeep c =
    let e = rw c.in-Err-TooDeep.field-0-is at c.in-Err-TooDeep.ensures in
    rw (← c.self.view_is)
    (deep_here c.self.inside.buffer.items c.deref.result.now c.self.inside.start c.self.inside.scanned c.self.inside.place c.self.inside.machine
    c.self.inside.machine c.self.invariant c.deref.ensures.value refl c.self.inside.finished c.self.inside.refused
    c.in-Err-TooDeep.count e c.in-None.is)
