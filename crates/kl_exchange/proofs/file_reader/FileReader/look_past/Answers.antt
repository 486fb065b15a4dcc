use Rattle.std.proofs.Common.{◌<◌, ◌≡◌, ap, ◌∙◌, arith, rules}
use Rattle.kl_exchange.proofs.FileReading.{looked_end, looked_past}
use Rattle.kl_exchange.proofs.file_reader.FileReader.look_past.Goals as goal

pub returns-in-Ok-eq0 : goal.returns-in-Ok-eq0
returns-in-Ok-eq0 g c =
    let none : c.in-Ok-eq0.field-0 ≡ 0 = c.in-Ok-eq0.field-0-test in
    looked_end _ _ c.self.view_is _ _ c.requires.grows (ap (λ s. s.past) c.self.view_is ∙ c.requires.so_far) _ _ c.in-Ok-eq0.ensures _ c.finish.ensures none

pub returns-in-Ok : goal.returns-in-Ok
returns-in-Ok g c =
    let some : 0 < c.in-Ok.field-0 = omega (arith, c.in-Ok.field-0-test.1) in
    looked_past _ _ c.self.view_is _ _ c.requires.grows (ap (λ s. s.past) c.self.view_is ∙ c.requires.so_far) _ c.in-Ok.field-0 c.in-Ok.ensures some (search rules) c.requires.met
