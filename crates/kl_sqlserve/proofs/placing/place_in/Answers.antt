use Rattle.std.proofs.Common.{◌≡◌, Some, length, nat_eq, slice_get, sym, ap, ◌∙◌, arith}
use Rattle.std.specs.Cmp.Lexicographic.{pointwise}
use Rattle.std.proofs.lemmas.Option.{slice_get-get_or}
use Rattle.kl_flat.specs.declared.held.Column.{Column}
use Rattle.kl_sqlserve.proofs.Placings.{found_here, none_here, not_here}
use Rattle.kl_sqlserve.proofs.placing.place_in.Goals as goal

pub returns-then-eq : goal.returns-then-eq
returns-then-eq c =
    let l = c.args.label.now in
    let columns = c.args.columns.now in
    let column = c.index-columns-place.result in
    let there = slice_get-get_or columns c.columns.place column c.columns-test.true ∙ ap Some (sym c.index-columns-place.is) in
    found_here l columns c.columns.place c.columns.invariant column there (ap (λ (x : Column). pointwise nat_eq l x.label) c.index-columns-place.is ∙ sym c.eq.ensures ∙ c.if-eq.true)

pub columns-preserved : goal.columns-preserved
columns-preserved c =
    let l = c.args.label.now in
    let columns = c.args.columns.now in
    let column = c.index-columns-place.result in
    let there = slice_get-get_or columns c.columns.place column c.columns-test.true ∙ ap Some (sym c.index-columns-place.is) in
    not_here l columns c.columns.place c.columns.invariant column there (ap (λ (x : Column). pointwise nat_eq l x.label) c.index-columns-place.is ∙ sym c.eq.ensures ∙ c.if-eq.false)

pub returns : goal.returns
returns c =
    let size : c.columns.place ≡ length c.args.columns.now = omega (arith, c.columns-test.false, c.columns.auto.place-end) in
    sym size ∙ none_here c.args.label.now c.args.columns.now c.columns.place c.columns.invariant size
