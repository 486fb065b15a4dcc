use Rattle.std.proofs.Common.{refl}
use Rattle.kl_forms.proofs.OverRows.{no_variant, a_variant}
use Rattle.kl_forms.proofs.records.is_variant.Goals as goal

pub returns-in-None : goal.returns-in-None
returns-in-None c = no_variant _ _ c.args.u.now.cells.items c.args.u.now.cells.items 0 0 0 c.args.want c.args.is_open c.args.is_open c.args.fields.items _ _ c.requires.there refl c.in_ok-row_of.ensures c.in-None.is

pub returns-in_ok-holds-in-Some : goal.returns-in_ok-holds-in-Some
returns-in_ok-holds-in-Some c = a_variant _ _ _ _ _ _ _ _ _ _ c.args.fields.items _ _ c.requires.there refl c.in_ok-row_of.ensures c.in-Some.is c.in_ok-all-in-Some.ensures c.in_ok-holds-in-Some.ensures
