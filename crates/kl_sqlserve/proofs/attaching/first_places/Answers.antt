use Rattle.std.proofs.Common.{◌<◌, ◌++◌, true, All, Vec, Global, ℕ, map, length, sym, ap, ◌∙◌, subst, arith}
use Rattle.std.specs.HashSet.{contains}
use Rattle.kl_flat.specs.ColumnTable.{rows_of}
use Rattle.kl_flat.specs.Held.{row_at}
use Rattle.kl_sqlserve.specs.Handing.{Leaves}
use Rattle.kl_sqlserve.specs.Keys.{same_key}
use Rattle.kl_sqlserve.specs.Repeats.{fresh}
use Rattle.kl_sqlserve.proofs.Distinct.{first_picked, first_skipped, there_picked}
use Rattle.kl_sqlserve.proofs.Openings.{none_seen}
use Rattle.kl_sqlserve.proofs.Repeated.{fresh-none, leaves_new}
use Rattle.kl_sqlserve.proofs.attaching.first_places.Goals as goal
use Rattle.kl_sqlserve.proofs.attaching.first_places.Goals.{then-branch+in_ok-push, else-branch}

pub rows-init : goal.rows-init
rows-init c =
    let table = c.args.table.now in
    record {
      first = ap (λ places. map (row_at table.columns.items) places ++ fresh (contains same_key c.new-seen.result) (rows_of table)) c.new-places.ensures.items
          ∙ fresh-none (contains same_key c.new-seen.result) (none_seen c.new-seen.result c.new-seen.ensures.empty) (rows_of table);
      there = λ k d lt. absurd (omega (arith, lt, ap length c.new-places.ensures.items));
    }

pub rows-preserved : goal.rows-preserved
rows-preserved c =
    let table = c.args.table.now in
    let leaves = leaves_new c.in_ok-row.row c.rows.seen c.takes_new.new.seen c.in_ok-takes_new.field-0 c.in_ok-takes_new.ensures.new c.in_ok-takes_new.ensures.seen in
    elim c.if-branch.branch [
      | then-branch+in_ok-push w ↦
          let grown = ap (λ (v : Vec ℕ Global). v.items) w.places-is ∙ w.in_ok-push.ensures.items in
          record {
            first = first_picked table c.rows.at c.in_ok-row.row c.in_ok-row.ensures c.rows.places.items c.rows.seen c.takes_new.new.seen c.rows.invariant.first
                (subst (Leaves true c.in_ok-row.row c.rows.seen c.takes_new.new.seen) w.if-branch.true leaves) c.if-branch.places.items grown;
            there = there_picked table c.rows.at c.in_ok-row.row c.in_ok-row.ensures c.rows.places.items c.rows.seen c.takes_new.new.seen c.rows.invariant.first c.rows.invariant.there c.if-branch.places.items grown;
          }
      | else-branch w ↦
          let same = ap (λ (v : Vec ℕ Global). v.items) w.places-is in
          record {
            first = first_skipped table c.rows.at c.in_ok-row.row c.in_ok-row.ensures c.rows.places.items c.rows.seen c.takes_new.new.seen c.rows.invariant.first
                (subst (Leaves true c.in_ok-row.row c.rows.seen c.takes_new.new.seen) w.if-branch.false leaves) c.if-branch.places.items same;
            there = subst (All (λ p. p < length (rows_of table))) (sym same) c.rows.invariant.there;
          }
    ]
