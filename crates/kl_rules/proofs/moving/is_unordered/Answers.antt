use Rattle.std.proofs.Common.{◌≡◌, true, rules}
use Rattle.std.specs.Option.{is_some}
use Rattle.kl_rules.proofs.Moves.{order_view, ordered_told}
use Rattle.kl_rules.proofs.moving.is_unordered.Goals as goal

pub returns : goal.returns
returns c =
    let some : is_some c.empty_kinds.result ≡ true = search (rules, c.is_none.ensures, c.if-is_none.false) in
    let far : c.is_farther.result ≡ true = search (rules, c.if-not-is_farther.false) in
    let first : c.is_total.result ≡ true = search (rules, c.if-not-is_total.false) in
    let second : c.is_total-else-not-is_total.result ≡ true = search (rules, c.if-not-is_total-2.false) in
    ordered_told c.args.most c.args.term.now c.in-If.c c.in-If-get.d c.in-If-get.field-1 c.in-If-get.f c.in-If.e c.empty_kinds.result c.depth.result
    (order_view c.args.term.now c.in-If.c c.in-If.inside c.get.result.now c.in-If.e c.in-If-get.d c.in-If-get.field-1 c.in-If-get.f c.in-If.is c.get.ensures c.in-If-get.is)
    c.requires.within c.ranges.most.fits (search rules) some (search rules) (search rules) (search rules) (search rules)
