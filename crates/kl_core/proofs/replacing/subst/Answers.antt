use Rattle.kl_core.specs.Trees.{view}
use Rattle.kl_core.proofs.Putting.{room_inside, put_whole, put_means, put_typed}
use Rattle.kl_core.proofs.replacing.subst.Goals as goal

pub put-requires-clause-room : goal.put-requires-clause-room
put-requires-clause-room c = room_inside (view c.args.t.now) c.args.at (view c.args.with.now) c.requires.room

pub returns : goal.returns
returns c =
    let whole = put_whole c.put.result (view c.args.t.now) (view c.args.with.now) c.args.at c.put.ensures in
    record {
      replaced = whole;
      means = put_means c.put.result (view c.args.t.now) (view c.args.with.now) c.args.at whole;
      typed = put_typed c.put.result (view c.args.t.now) (view c.args.with.now) c.args.at whole;
    }
