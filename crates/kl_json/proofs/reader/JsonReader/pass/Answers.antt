use Rattle.std.proofs.Common.{◌+◌, sym, ap, subst, arith}
use Rattle.kl_json.specs.Files.{IsAt}
use Rattle.kl_json.proofs.reader.JsonReader.pass.Goals as goal

pub overflow_add-self : goal.overflow_add-self
overflow_add-self c = omega (arith, c.self.invariant.total, c.requires.within, ap (λ r. r.items.limit) c.self.view_is)

pub invariant_of-self : goal.invariant_of-self
invariant_of-self c =
    let limit = ap (λ r. r.items.limit) c.self.view_is in
    subst (IsAt (c.self.inside.place + c.args.count)) (sym c.cut.ensures)
    (record { first = c.self.invariant.first; fresh = c.self.invariant.fresh; total = omega (arith, c.self.invariant.total, c.requires.within, limit) })
