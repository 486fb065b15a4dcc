use Rattle.std.proofs.Common.{Err, Ok, subst, sym}
use Rattle.kl_columns.specs.Reading.{ReadsValues}
use Rattle.kl_columns.proofs.ValuesHeld.{values_refused, values_type}
use Rattle.kl_columns.proofs.values.type_of_values.Goals as goal

pub returns-in_ok-item-in-Ok-clause-rows : goal.returns-in_ok-item-in-Ok-clause-rows
returns-in_ok-item-in-Ok-clause-rows g c =
    let old = g.F.Files.state c.args.files.now in
    let new = g.F.Files.state c.read_values.new.files in
    let read = subst (λ p. ReadsValues p (Ok c.in-Ok.item) old new) c.slice.ensures c.in-Ok.ensures in
    let here = subst (λ t. ReadsValues c.args.path.now (Ok t) old new) (sym c.in_ok-item-in-Ok.ensures) read in
    values_type c.args.path.now c.in_ok-item-in-Ok.item old new here

pub returns-in-Err-clause-why : goal.returns-in-Err-clause-why
returns-in-Err-clause-why g c =
    let old = g.F.Files.state c.args.files.now in
    let new = g.F.Files.state c.read_values.new.files in
    values_refused c.args.path.now old new c.in-Err.unfit c.refusal_for.result (subst (λ p. ReadsValues p (Err c.in-Err.unfit) old new) c.slice.ensures c.in-Err.ensures) c.refusal_for.ensures
