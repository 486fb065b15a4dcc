use Rattle.std.proofs.Common.{rules, ◌≡◌, ◌+◌, ◌*◌, ◌%◌, [], ◌∷◌, ◌++◌, pos, codes, decimal, ap, ◌∙◌}
use Rattle.kl_value.specs.declared.Value.TheVariants as value
use Rattle.kl_tools.proofs.Labels.{made_labels}
use Rattle.kl_tools.proofs.rows.made_row.Goals as goal

pub returns : goal.returns
returns c =
    let labels = made_labels c.args.columns.now c.group-item.result c.id-item.result c.name-item.result c.requires.columns c.group-item.is c.id-item.is c.name-item.is in
    let group : c.in_ok-dup.field-0 ≡ codes "grp" = c.in_ok-dup.ensures ∙ labels.0 in
    let id : c.in_ok-dup-2.field-0 ≡ codes "id" = c.in_ok-dup-2.ensures ∙ labels.1.0 in
    let name : c.in_ok-dup-3.field-0 ≡ codes "name" = c.in_ok-dup-3.ensures ∙ labels.1.1 in
    let text : c.in_ok-text.text ≡ codes "n" ++ decimal ((c.args.seed + c.args.number) % 1000) = c.in_ok-text.ensures in
    let items : c.push-3.new.self.items ≡ (c.in_ok-dup.field-0, value.Int (pos ((c.args.seed + 7 * c.args.number) % 100))) ∷ (c.in_ok-dup-2.field-0, value.Int (pos c.args.number)) ∷ (c.in_ok-dup-3.field-0, value.Text c.in_ok-text.text) ∷ [] = search rules in
    ap value.Rec (c.of.ensures ∙ items ∙ (λ i. (group i, value.Int (pos ((c.args.seed + 7 * c.args.number) % 100))) ∷ (id i, value.Int (pos c.args.number)) ∷ (name i, value.Text (text i)) ∷ []))
