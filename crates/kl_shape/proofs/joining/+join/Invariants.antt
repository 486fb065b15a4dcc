use Rattle.std.proofs.Common.{◌≡◌, map, take, true}
use Rattle.kl_shape.specs.Joining.{are_sound}
use Rattle.kl_shape.specs.Shapes.{sound}
use Rattle.kl_shape.proofs.Joins.{HasJoined}
use Rattle.kl_shape.proofs.Records.{AreJoined, unseen}
use Rattle.kl_shape.proofs.joining.+join.Given as goal

abbrev pub invariant-join_unseen-fields : goal.invariant-join_unseen-fields
invariant-join_unseen-fields l = AreJoined (map unseen (take l.field-index l.fields)) (take l.field-index l.fields) l.joined.items × (are_sound l.joined.items ≡ true)

abbrev pub invariant-join_fields-fields : goal.invariant-join_fields-fields
invariant-join_fields-fields l = AreJoined (take l.i l.shapes) (take l.i l.fields) l.joined.items × (are_sound l.joined.items ≡ true)

abbrev pub invariant-join_items-items : goal.invariant-join_items-items
invariant-join_items-items l = HasJoined l.item (take l.value-index l.items) l.joined × (sound l.joined ≡ true)
