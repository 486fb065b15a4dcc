use Rattle.std.proofs.Common.{sym, ap, ◌∙◌}
use Rattle.std.specs.Option.{is_some, option_copied}
use Rattle.kl_scans.proofs.Kept.{kept_there, not_there}
use Rattle.kl_scans.proofs.over.kept_value.Goals as goal

pub unreachable-requires : goal.unreachable-requires
unreachable-requires g c =
    let none = not_there c.args.key.now c.in-Some.memo _ c.in-Some.is (ap is_some (sym c.peek.ensures ∙ ap option_copied c.in-None-peek.is)) in
    let some = c.requires in cc

pub returns : goal.returns
returns g c = kept_there c.args.key.now c.in-Some.memo _ _ c.in-Some.is (sym c.peek.ensures ∙ ap option_copied c.in-Some-peek.is)
