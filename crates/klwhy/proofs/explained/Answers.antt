use Rattle.std.proofs.Common.{◌∙◌, ap, refl, sym}
use denote.Param.Object.{read_made}
use mathlib.Core.Logic.{inl, inr}
use Rattle.kl_ask.specs.Driver.{State}
use Rattle.klwhy.proofs.explained.OwnLists.{own-1}
use Rattle.klwhy.proofs.explained.Goals as goal

-- no file is open of files that are new
pub new-requires-2 : goal.new-requires-2
new-requires-2 c = λ k. ap (λ s. s.left k) c.new.ensures

pub new-requires-5 : goal.new-requires-5
new-requires-5 c = λ k. ap (λ s. s.left k) c.new-4.ensures

pub new-requires-8 : goal.new-requires-8
new-requires-8 c = λ k. ap (λ s. s.left k) c.new-7.ensures

-- nothing is attached at the driver of files of values, which its box reads as it is
pub add_driver-requires-2-clause-fresh : goal.add_driver-requires-2-clause-fresh
add_driver-requires-2-clause-fresh c =
    let boxed = read_made own-1 _ (inr (inl tt)) refl State (λ j w. j.1.state w) c.into_dyn_box-2.result.vtable c.into_dyn_box-2.result.value c.in_ok-nested.nested.value c.into_dyn_box-2.ensures.1 in
    λ x. ap (λ (s : State). s.attached x) boxed ∙ rw (sym c.in_ok-nested.ensures.ok) at (ap (λ (s : State). s.attached x) c.new-5.ensures)
