use Rattle.std.proofs.Common.{refl, true}
use Rattle.kl_forms.proofs.Looking.{row_refused, row_takes}
use Rattle.kl_forms.proofs.records.has_fields.Goals as goal

pub returns-in-None : goal.returns-in-None
returns-in-None c = row_refused _ _ c.args.u.now.cells.items 0 0 c.args.end true c.args.fields.items _ _ c.requires.there refl c.in_ok-row_of.ensures c.in-None.is

pub returns-in_ok-holds-in-Some : goal.returns-in_ok-holds-in-Some
returns-in_ok-holds-in-Some c = row_takes _ _ _ _ _ _ _ c.args.fields.items _ _ c.requires.there refl c.in_ok-row_of.ensures c.in-Some.is c.in_ok-holds-in-Some.ensures
