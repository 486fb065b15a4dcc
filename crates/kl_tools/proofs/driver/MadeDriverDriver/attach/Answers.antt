use Rattle.std.proofs.Common.{◌≡◌, Some, rules}
use Rattle.kl_tools.specs.Made.{made_at}
use Rattle.kl_tools.proofs.Driving.{attach_done}
use Rattle.kl_tools.proofs.driver.MadeDriverDriver.attach.Goals as goal

pub returns : goal.returns
returns c =
    let at : made_at c.args.locator.now ≡ Some (c.in-Some.seed, c.in-Some.rows) = search rules in
    attach_done c.args.source.now c.args.locator.now c.args.ty.now c.in_ok-made.made c.in-Some.seed c.in-Some.rows c.args.self.now.sources c.add_source.new.sources _ _ _ c.requires.suits at
    c.in_ok-made.ensures.ty c.in_ok-made.ensures.seed c.in_ok-made.ensures.rows c.in_ok-add_source.ensures.added
