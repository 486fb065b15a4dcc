use Rattle.std.proofs.Common.{◌<◌, ◌≡◌, ap, sym, ◌∙◌, arith}
use Rattle.kl_exchange.proofs.FileReading.{fetches_again, ended_as, came_as, none_came}
use Rattle.kl_outside.specs.declared.stop.Stop.TheVariants as stop
use Rattle.kl_exchange.specs.declared.error.FileError.TheVariants as fault
use Rattle.kl_exchange.proofs.file_reader.FileReader.fetch_piece.Goals as goal

pub returns-then-self : goal.returns-then-self
returns-then-self g c = fetches_again _ _ c.requires.is_open c.requires.grows (ap (λ s. s.past) (sym c.self.view_is) ∙ c.if-self.true)

pub returns-in-Ok-eq0 : goal.returns-in-Ok-eq0
returns-in-Ok-eq0 g c =
    let none : c.in-Ok-eq0.field-0 ≡ 0 = c.in-Ok-eq0.field-0-test in
    ended_as _ _ c.self.view_is _ _ c.requires.grows c.if-self.false _ c.in-Ok-eq0.field-0 _ _ c.in-Ok-eq0.ensures.fetched c.in-Ok-eq0.ensures.same c.finish.ensures none

pub returns-in-Ok : goal.returns-in-Ok
returns-in-Ok g c =
    let some : 0 < c.in-Ok.field-0 = omega (arith, c.in-Ok.field-0-test.1) in
    let total = c.total.ensures in
    let least = c.min-most.ensures in
    came_as _ _ c.self.view_is _ _ c.requires.grows c.if-self.false c.min-most.result c.in-Ok.field-0 _ c.in-Ok.ensures.fetched c.in-Ok.ensures.same some (omega arith)

pub returns-in-Err-Failed : goal.returns-in-Err-Failed
returns-in-Err-Failed g c =
    let h = rw c.in-Err-Failed.field-0-is at c.in-Err-Failed.ensures in
    none_came _ _ stop.Failed fault.Read c.min-most.result _ _ _ c.self.view_is h.fetched h.same c.requires.is_open tt

pub returns-in-Err-NoMemory : goal.returns-in-Err-NoMemory
returns-in-Err-NoMemory g c =
    let h = rw c.in-Err-NoMemory.field-0-is at c.in-Err-NoMemory.ensures in
    none_came _ _ stop.NoMemory fault.NoMemory c.min-most.result _ _ _ c.self.view_is h.fetched h.same c.requires.is_open tt
