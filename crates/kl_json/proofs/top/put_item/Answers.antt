use Rattle.std.proofs.Common.{codes}
use Rattle.kl_value.specs.Written.{text_of}
use Rattle.kl_json.proofs.Listing.{puts_both, puts_less}
use Rattle.kl_json.proofs.top.put_item.Goals as goal

pub returns-in-Ok : goal.returns-in-Ok
returns-in-Ok g c = puts_both (text_of c.args.value.now) (codes ";\n") c.put.result _ _ _ _ _ _ c.in-Ok.ensures.prints c.put.ensures

pub returns-in-Err : goal.returns-in-Err
returns-in-Err g c = puts_less (text_of c.args.value.now) (codes ";\n") c.in-Err.refused _ _ _ _ c.in-Err.ensures.prints
