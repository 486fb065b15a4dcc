use Rattle.std.proofs.Common.{ap}
use Rattle.kleisli.proofs.answer.Goals as goal

-- no file is open of files that are new
-- src/main.rt:54:32
pub new-requires-2 : goal.new-requires-2
new-requires-2 c = λ k. ap (λ s. s.left k) c.new.ensures

-- src/main.rt:55:34
pub new-requires-5 : goal.new-requires-5
new-requires-5 c = λ k. ap (λ s. s.left k) c.new-4.ensures

-- src/main.rt:56:31
pub new-requires-8 : goal.new-requires-8
new-requires-8 c = λ k. ap (λ s. s.left k) c.new-7.ensures
