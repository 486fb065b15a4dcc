use Rattle.std.proofs.Common.{◌≡◌, ◌++◌, drop}
use Rattle.json.specs.Tree.{items_tokens, members_tokens}
use Rattle.kl_json.specs.Written.{items_json, fields_json, AreUnicode, HaveUnicode}
use Rattle.kl_json.proofs.written.+write.Given as goal

abbrev pub invariant-write_items-loop-item : goal.invariant-write_items-loop-item
invariant-write_items-loop-item l =
    let rest = items_json (drop l.item-index l.items) in
    let all = items_json l.items in
    (l.writer.tokens ++ items_tokens rest ≡ l.initial.writer.tokens ++ items_tokens all) × (l.writer.before ≡ l.initial.writer.before)
    × (AreUnicode all → AreUnicode rest) × (AreUnicode rest → AreUnicode all)

abbrev pub invariant-write_fields-loop-field : goal.invariant-write_fields-loop-field
invariant-write_fields-loop-field l =
    let rest = fields_json (drop l.field-index l.fields) in
    let all = fields_json l.fields in
    (l.writer.tokens ++ members_tokens rest ≡ l.initial.writer.tokens ++ members_tokens all) × (l.writer.before ≡ l.initial.writer.before)
    × (HaveUnicode all → HaveUnicode rest) × (HaveUnicode rest → HaveUnicode all)
