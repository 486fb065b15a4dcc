use Rattle.std.proofs.Common.{◌≡◌, ap, sym, ◌∙◌, true, rules}
use Rattle.std.specs.Option.{option_copied}
use Rattle.kl_rules.proofs.KnownShapes.{field_some, field_none}
use Rattle.kl_rules.proofs.shapes.rule_13.Goals as goal

pub returns-in_ok-dup-in-Some : goal.returns-in_ok-dup-in-Some
returns-in_ok-dup-in-Some c =
    let yes : c.is_total.result ≡ true = search (rules, c.if-not-is_total.false) in
    field_some _ _ _ _ _ _ _ _ _ c.in-Proj.is c.get.ensures c.in-Rec.is c.get-2.ensures (sym c.is_total.ensures ∙ yes) c.get-3.ensures (ap option_copied c.in-Some.is) c.in_ok-dup-in-Some.ensures

pub returns-in-None : goal.returns-in-None
returns-in-None c = field_none _ _ _ _ _ _ c.in-Proj.is c.get.ensures c.in-Rec.is c.get-3.ensures (ap option_copied c.in-None.is)
