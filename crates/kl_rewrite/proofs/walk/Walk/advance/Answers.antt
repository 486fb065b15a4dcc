use Rattle.std.proofs.Common.{refl, sym, subst}
use Rattle.kl_core.specs.Trees.{view}
use Rattle.kl_rewrite.specs.Searched.{IsTraced}
use Rattle.kl_rewrite.proofs.Walks.{traced_whole, ends_here, goes_further, room_left, stepped}
use Rattle.kl_rewrite.proofs.walk.Walk.advance.Goals as goal

pub step-requires : goal.step-requires
step-requires c = record { traced = subst (λ r. IsTraced 0 (view c.args.term.now) r c.args.self.now.search) (sym c.deref.ensures.value) (traced_whole (view c.args.term.now) c.args.self.now c.requires.at) }

pub returns-then-not-branch : goal.returns-then-not-branch
returns-then-not-branch c = ends_here (view c.args.term.now) (view c.step.new.term) c.in_ok-step.field-0 c.args.self.now c.step.new.self c.requires.at c.if-not-branch.true c.in_ok-step.ensures

pub returns-then-self : goal.returns-then-self
returns-then-self c =
    let p = stepped (view c.args.term.now) (view c.step.new.term) c.in_ok-step.field-0 c.args.self.now.search c.step.new.self c.if-not-branch.false c.in_ok-step.ensures in
    goes_further (view c.args.term.now) (view c.step.new.term) c.args.self.now _ c.step.new.self c.requires.at p refl c.if-self.true
    (rw c.replace-path.ensures.after c.new.ensures.items) (rw c.replace-path.ensures.value p.settled)

pub returns-else-self : goal.returns-else-self
returns-else-self c =
    let p = stepped (view c.args.term.now) (view c.step.new.term) c.in_ok-step.field-0 c.args.self.now.search c.step.new.self c.if-not-branch.false c.in_ok-step.ensures in
    goes_further (view c.args.term.now) (view c.step.new.term) c.args.self.now _ c.step.new.self c.requires.at p refl (room_left (view c.args.term.now) (view c.step.new.term) c.args.self.now c.step.new.self c.requires.at p)
    (rw c.replace-path.ensures.after c.new.ensures.items) (rw c.new-else-self.ensures.items tt)
