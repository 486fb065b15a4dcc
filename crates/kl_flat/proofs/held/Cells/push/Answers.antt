use Rattle.std.proofs.Common.{FitsSigned, w64, rules, sym, ap, ◌∙◌}
use Rattle.std.proofs.lemmas.Int.{to_z-of_z}
use Rattle.std.specs.Option.{option_map}
use Rattle.kl_value.specs.declared.Value.TheVariants as value
use Rattle.kl_flat.specs.Cells.{cell_value}
use Rattle.kl_flat.specs.Held.{type_of}
use Rattle.kl_flat.proofs.Gaining.{gains_number, gains_text, gains_truth, number_cell, truth_cell}
use Rattle.kl_flat.proofs.held.Cells.push.Goals as goal

pub returns-in_default : goal.returns-in_default
returns-in_default c = (ap (λ s. cell_value c.args.cell.now (type_of s)) c.in-Bool.is ∙ truth_cell c.args.cell.now ∙ sym c.in_default.ensures, sym c.in-Bool.is)

pub returns-in_default-integer_in : goal.returns-in_default-integer_in
returns-in_default-integer_in c =
    (ap (λ s. cell_value c.args.cell.now (type_of s)) c.in-Int.is ∙ number_cell c.args.cell.now ∙ ap (option_map value.Int) (sym c.in_default-integer_in.ensures), sym c.in-Int.is)

pub returns-in_ok-push-in-Bool : goal.returns-in_ok-push-in-Bool
returns-in_ok-push-in-Bool c = gains_truth c.args.cell.now c.args.self.now c.in-Bool.truths c.push.new.self c.in-Some.truth c.in-Bool.is c.in-Some.ensures c.in_ok-push-in-Bool.ensures.items

pub returns-in_ok-push-in-Int : goal.returns-in_ok-push-in-Int
returns-in_ok-push-in-Int c =
    let fits : FitsSigned w64 c.in-Some-integer_in.number = search rules in
    gains_number c.args.cell.now c.args.self.now c.in-Int.numbers c.push-in-Int.new.self c.in-Some-integer_in.number c.in-Int.is c.in-Some-integer_in.ensures (simp to_z-of_z at c.in_ok-push-in-Int.ensures.items)

pub returns-in_ok-push-in-Text : goal.returns-in_ok-push-in-Text
returns-in_ok-push-in-Text c = gains_text c.args.cell.now c.args.self.now c.in-Text.texts c.push-in-Text.new.self c.in-Text.is c.in_ok-push-in-Text.ensures.bytes c.in_ok-push-in-Text.ensures.ends
