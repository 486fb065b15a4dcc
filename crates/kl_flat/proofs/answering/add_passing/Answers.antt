use Rattle.std.proofs.Common.{◌<◌, ◌++◌, [], ◌∷◌, Vec, Global, length, sym, ap, ◌∙◌, arith, subst, inl, inr, refl}
use Rattle.kl_value.specs.declared.Value.{Value}
use Rattle.kl_flat.specs.Asked.{keep_of, kept_places, tests_of}
use Rattle.kl_flat.specs.ColumnTable.{IsRow, rows_of}
use Rattle.kl_flat.specs.Held.{fields_at, labels_in, row_at}
use Rattle.kl_flat.proofs.Adding.{adding_ends, adding_goes, adding_more, adding_same, adding_starts, goes_same}
use Rattle.kl_flat.proofs.Kept.{places_within}
use Rattle.kl_flat.proofs.Tables.{fields_length, is_row, labels_at, rows_length}
use Rattle.kl_flat.proofs.answering.add_passing.Goals as goal
use Rattle.kl_flat.proofs.answering.add_passing.Goals.{then-passes_all+in_ok-row+in_ok-push, else-passes_all}

pub passes_all-requires : goal.passes_all-requires
passes_all-requires c =
    let lt : c.rows.at < c.args.cursor.now.table.len = omega (arith, c.rows-test.true, c.len-in-rows.ensures, ap (λ t. length (rows_of t)) c.get-table.ensures, rows_length c.args.cursor.now.table) in
    c.requires.cells c.rows.at lt

pub row-requires-clause-places : goal.row-requires-clause-places
row-requires-clause-places c =
    let columns = c.args.cursor.now.table.columns.items in
    let within = places_within (keep_of c.args.cursor.now.ask) (fields_at columns c.rows.at) c.slice.result.now (c.slice.ensures ∙ c.args.cursor.now.placed ∙ ap (kept_places (keep_of c.args.cursor.now.ask) 0) (sym (labels_at columns c.rows.at))) in
    λ k d lt. omega (arith, within k d lt, fields_length columns c.rows.at, ap (λ t. length t.columns.items) c.get-table.ensures)

pub rows-init : goal.rows-init
rows-init c =
    let o = c.args.cursor.now in
    adding_starts (rows_of o.table) o.at (keep_of o.ask) (tests_of o.ask) c.args.most _ _ refl o.within

pub rows-preserved : goal.rows-preserved
rows-preserved c =
    let o = c.args.cursor.now in
    let lt : c.rows.at < length (rows_of o.table) = omega (arith, c.rows-test.true, c.len-in-rows.ensures, ap (λ t. length (rows_of t)) c.get-table.ensures) in
    let row = row_at o.table.columns.items c.rows.at in
    let is = is_row o.table c.rows.at lt in
    let said = c.requires.same c.rows.at row is in
    elim c.if-passes_all.branch [
      | then-passes_all+in_ok-row+in_ok-push w ↦
          let same = w.slice.ensures ∙ o.placed ∙ ap (λ t. kept_places (keep_of o.ask) 0 (labels_in t.columns.items)) (sym c.get-table.ensures) in
          let shown_is = w.in_ok-row.ensures (keep_of o.ask) row same (subst (λ t. IsRow t c.rows.at row) (sym c.get-table.ensures) is) in
          let grown = ap (λ (v : Vec Value Global). v.items) w.into-is ∙ w.in_ok-push.ensures.items ∙ ap (λ r. c.rows.into.items ++ r ∷ []) shown_is in
          adding_more (rows_of o.table) o.at (keep_of o.ask) (tests_of o.ask) c.args.most _ c.rows.at c.rows.left row is (omega (arith, lt)) _ _ _ (omega (arith, c.if-left-gt0.true, w.left-is)) (said ∙ sym w.if-passes_all.ensures) grown c.rows.invariant
      | else-passes_all w ↦
          adding_same (rows_of o.table) o.at (keep_of o.ask) (tests_of o.ask) c.args.most _ c.rows.at c.rows.left row is (omega (arith, lt)) _ _ _ w.left-is (said ∙ sym w.if-passes_all.ensures) (ap (λ (v : Vec Value Global). v.items) w.into-is) c.rows.invariant
    ]

pub returns-after-rows-clause-added : goal.returns-after-rows-clause-added
returns-after-rows-clause-added c =
    let o = c.args.cursor.now in
    let size = ap (λ t. length (rows_of t)) c.get-table.ensures in
    adding_ends (rows_of o.table) o.at (keep_of o.ask) (tests_of o.ask) c.args.most _ _ _ c.rows.at c.rows.left c.in_ok-reserve.ensures.items c.rows.invariant
    (inr (omega (arith, c.rows.invariant.within, c.rows-test.false, c.len-in-rows.ensures, size)))

pub returns-else-left-gt0-clause-added : goal.returns-else-left-gt0-clause-added
returns-else-left-gt0-clause-added c =
    let o = c.args.cursor.now in
    adding_ends (rows_of o.table) o.at (keep_of o.ask) (tests_of o.ask) c.args.most _ _ _ c.rows.at c.rows.left c.in_ok-reserve.ensures.items c.rows.invariant
    (inl (omega (arith, c.if-left-gt0.false)))

pub returns-after-rows-clause-stays : goal.returns-after-rows-clause-stays
returns-after-rows-clause-stays c = adding_goes _ _ _ _ _ _ _ _ _ _ _ c.in_ok-reserve.ensures.items refl c.rows.invariant

pub returns-else-left-gt0-clause-stays : goal.returns-else-left-gt0-clause-stays
returns-else-left-gt0-clause-stays c = adding_goes _ _ _ _ _ _ _ _ _ _ _ c.in_ok-reserve.ensures.items refl c.rows.invariant

pub returns-in_err-row-clause-stays : goal.returns-in_err-row-clause-stays
returns-in_err-row-clause-stays c = adding_goes _ _ _ _ _ _ _ _ _ _ _ c.in_ok-reserve.ensures.items refl c.rows.invariant

pub returns-in_err-push-clause-stays : goal.returns-in_err-push-clause-stays
returns-in_err-push-clause-stays c = adding_goes _ _ _ _ _ _ _ _ _ _ _ c.in_ok-reserve.ensures.items c.in_err-push.ensures.items c.rows.invariant

pub returns-in_err-reserve-clause-stays : goal.returns-in_err-reserve-clause-stays
returns-in_err-reserve-clause-stays c = goes_same _ _ c.in_err-reserve.ensures.items
