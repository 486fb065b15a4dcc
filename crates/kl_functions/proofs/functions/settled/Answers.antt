use Rattle.std.proofs.Common.{arith}
use Rattle.kl_functions.specs.Occurrences.{names_of}
use Rattle.kl_functions.proofs.Rounding.{made_first, made_next, settled_now, fewer, next_at}
use Rattle.kl_functions.proofs.functions.settled.Goals as goal

pub rounds-init : goal.rounds-init
rounds-init c = made_first c.args.before c.args.found.now c.in_ok-unmade.unmade.items (names_of c.args.candidates.now) c.in_ok-unmade.ensures

pub rounds-preserved : goal.rounds-preserved
rounds-preserved c =
    made_next c.args.before c.args.found.now c.rounds.unmade.items c.in_ok-next.next.items (names_of c.args.candidates.now)
    (next_at c.args.before c.args.found.now c.deref.result.now c.rounds.unmade.items c.in_ok-next.next.items c.deref.ensures.value c.in_ok-next.ensures) c.rounds.invariant

pub rounds-smaller : goal.rounds-smaller
rounds-smaller c =
    fewer c.args.before c.args.found.now c.rounds.unmade.items c.in_ok-next.next.items (names_of c.args.candidates.now)
    (next_at c.args.before c.args.found.now c.deref.result.now c.rounds.unmade.items c.in_ok-next.next.items c.deref.ensures.value c.in_ok-next.ensures) (omega arith)

pub returns-then-len : goal.returns-then-len
returns-then-len c =
    settled_now c.args.before c.args.found.now c.rounds.unmade.items c.in_ok-next.next.items (names_of c.args.candidates.now)
    (next_at c.args.before c.args.found.now c.deref.result.now c.rounds.unmade.items c.in_ok-next.next.items c.deref.ensures.value c.in_ok-next.ensures) (omega arith) c.rounds.invariant
