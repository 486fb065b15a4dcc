use Rattle.std.proofs.Common.{◌≡◌, refl, ap, sym, ◌∙◌, true, false, rules}
use Rattle.kl_core.specs.Trees.{view}
use Rattle.kl_rules.proofs.Rooms.{fields_few, fields_low, body_room, replaced_some, replaced_not, replaced_unsorted}
use Rattle.kl_rules.proofs.records.rule_11.Goals as goal

pub returns-then-not-labels_rise : goal.returns-then-not-labels_rise
returns-then-not-labels_rise c =
    let falls : c.labels_rise.result ≡ false = search (rules, c.if-not-labels_rise.true) in
    replaced_unsorted _ _ _ _ _ _ c.in-Let.is c.get.ensures c.in-Rec.is c.slice-fields.ensures (sym c.labels_rise.ensures ∙ falls)

pub returns-then-not-is_alone : goal.returns-then-not-is_alone
returns-then-not-is_alone c =
    let other_use : c.is_alone.result ≡ false = search (rules, c.if-not-is_alone.true) in
    replaced_not _ _ _ _ _ _ _ c.in-Let.is c.get.ensures c.in-Rec.is c.slice-fields.ensures c.get-2.ensures (sym (c.is_alone.ensures 0 refl) ∙ other_use)

pub unpack_box-requires : goal.unpack_box-requires
unpack_box-requires c = record {
  few = fields_few _ _ _ _ _ _ c.in-Let.is c.get.ensures c.in-Rec.is c.slice-fields.ensures c.requires.small;
  room = body_room _ _ _ c.in-Let.is c.requires.small;
}

pub bind_fields-requires : goal.bind_fields-requires
bind_fields-requires c = record {
  few = fields_few _ _ _ _ _ _ c.in-Let.is c.get.ensures c.in-Rec.is c.slice-fields.ensures c.requires.small;
  low = fields_low _ _ _ _ _ _ c.in-Let.is c.get.ensures c.in-Rec.is c.slice-fields.ensures c.requires.small;
}

pub returns : goal.returns
returns c =
    let rising : c.labels_rise.result ≡ true = search (rules, c.if-not-labels_rise.false) in
    let alone : c.is_alone.result ≡ true = search (rules, c.if-not-is_alone.false) in
    replaced_some _ _ _ _ _ _ _ _ _ c.in-Let.is c.get.ensures c.in-Rec.is c.slice-fields.ensures c.get-2.ensures (sym c.labels_rise.ensures ∙ rising) (sym (c.is_alone.ensures 0 refl) ∙ alone)
    c.in_ok-body.ensures (ap view c.into_inner.ensures ∙ c.in_ok-bind_fields.ensures)
