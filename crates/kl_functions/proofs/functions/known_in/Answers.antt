use Rattle.std.proofs.Common.{List, [], ◌+◌, take, sym, subst, arith}
use Rattle.kl_functions.specs.declared.functions.Known.{Known}
use Rattle.kl_functions.specs.Known.{IsKnownAs, AreKnown}
use Rattle.kl_functions.proofs.Knowing.{known_next, known_all}
use Rattle.kl_functions.proofs.Listing.{known_least}
use Rattle.kl_functions.proofs.functions.known_in.Goals as goal

pub defs-preserved : goal.defs-preserved
defs-preserved c =
    subst (λ (z : List Known). AreKnown c.args.sources.now [] z (take (c.defs.i + 1) c.slice-defs.result.now)) (sym c.in_ok-push.ensures.items)
    (known_next c.args.sources.now c.defs.all.items c.slice-defs.result.now c.defs.i c.in_ok-known.known c.index-defs-i.result c.defs-test.true c.index-defs-i.is c.defs.invariant
    (subst (λ (z : List Known). IsKnownAs c.args.sources.now z c.in_ok-known.known c.index-defs-i.result) c.deref.ensures.value c.in_ok-known.ensures))

pub returns-clause-fields : goal.returns-clause-fields
returns-clause-fields c = λ d.
    known_least c.args.sources.now c.defs.all.items c.args.program.now.defs
    (known_all c.args.sources.now c.defs.all.items c.slice-defs.result.now c.args.program.now.defs c.defs.i (omega arith) c.slice-defs.ensures c.defs.invariant) d
