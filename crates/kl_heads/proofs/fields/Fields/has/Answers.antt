use Rattle.std.proofs.Common.{ap, ◌∙◌, is_some}
use Rattle.kl_heads.specs.Heads.{has_label}
use Rattle.kl_heads.proofs.FieldLemmas.{found_is}
use Rattle.kl_heads.proofs.fields.Fields.has.Goals as goal

pub returns : goal.returns
returns c =
    c.contains_key.ensures
    ∙ (ap is_some (found_is c.self.inside.types.entries c.args.label.now) ∙ ap (λ fs. has_label fs c.args.label.now) c.self.view_is)
