use Rattle.std.proofs.Common.{◌-◌, get_or}
use Rattle.kl_scope.specs.Sizes.{leaf, named, with_rest}
use Rattle.kl_scope.proofs.SizeLemmas.{up_node, up_compared, over_chosen}
use Rattle.kl_scope.proofs.SizeForms.{read_back, matched_seen, bind_form, any_form, same_form, rec_form, inj_form, at_pattern, at_shape, pats_more, pats_none}
use Rattle.kl_scope.proofs.counting.+matched.Goals as goal

pub matched-returns-in-Bind : goal.matched-returns-in-Bind
matched-returns-in-Bind t c = matched_seen _ _ _ _ _ _ _ c.in-Bind.is (bind_form _ _ _ _) (up_node c.node.result c.beside.result _ c.node.ensures c.beside.ensures)

pub matched-returns-in-Any : goal.matched-returns-in-Any
matched-returns-in-Any t c = matched_seen _ _ _ _ _ _ _ c.in-Any.is (any_form _ _ _) c.kept.ensures

pub matched-returns-in-Same : goal.matched-returns-in-Same
matched-returns-in-Same t c = matched_seen _ _ _ _ _ _ _ c.in-Same.is (same_form _ _ _ _) (up_compared c.compared.result c.args.term c.named.result (named c.in-Same.word.means c.args.known.now) c.args.after c.compared.ensures c.named.ensures)

pub matched-returns-in-Rec : goal.matched-returns-in-Rec
matched-returns-in-Rec t c =
    matched_seen _ _ _ _ _ _ _ c.in-Rec.is (rec_form c.in-Rec.fields c.in-Rec.tail c.args.term c.args.after c.args.known.now)
    (at_shape c.slice.result.now c.in-Rec.fields c.matched_fields.result c.args.term c.with_rest-after.result (with_rest c.in-Rec.tail c.args.term c.args.after) c.args.known.now
    c.matched_fields.ensures c.slice.ensures c.with_rest-after.ensures)

pub matched-returns-in-Inj : goal.matched-returns-in-Inj
matched-returns-in-Inj t c =
    matched_seen _ _ _ _ _ _ _ c.in-Inj.is (inj_form _ _ _ _ _)
    (over_chosen c.chosen.result c.args.term c.matched.result _ c.chosen.ensures (at_pattern c.get.result.now c.in-Inj.inner c.matched.result leaf c.args.after c.args.known.now c.matched.ensures c.get.ensures))

pub matched_fields-fields-init : goal.matched_fields-fields-init
matched_fields-fields-init t c = pats_none c.args.fields.now c.kept-size.result c.args.term c.args.after c.args.known.now c.kept-size.ensures

pub matched_fields-fields-preserved : goal.matched_fields-fields-preserved
matched_fields-fields-preserved t c =
    pats_more c.args.fields.now c.fields.i (get_or c.args.fields.now (c.fields.i - 1) c.index-fields-i.result) c.matched-size.result c.node-part.result c.fields.size c.args.term c.args.after c.args.known.now
    (read_back c.args.fields.now c.fields.i c.index-fields-i.result c.fields-test.true c.fields.auto.i c.index-fields-i.is) c.matched-size.ensures c.node-part.ensures c.fields.invariant
