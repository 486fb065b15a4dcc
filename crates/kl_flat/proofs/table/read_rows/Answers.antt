use Rattle.std.proofs.Common.{◌≡◌, ◌+◌, ◌++◌, ◌≤◌, All, length, drop, take, map, sym, ap, ◌∙◌, subst, arith, rules}
use Rattle.std.specs.List.{range_with_len}
use Rattle.csv.specs.Records.{fields_of}
use Rattle.kl_flat.specs.Filling.{AddsRow, AreLevel, LacksRow}
use Rattle.kl_flat.specs.Held.{columns_in, height, row_at}
use Rattle.kl_flat.specs.Records.{records_left}
use Rattle.kl_flat.specs.Table.{first_missing, row_in}
use Rattle.kl_flat.proofs.Filling.{rows_more, rows_stay}
use Rattle.kl_flat.proofs.Rows.{front_stops, front_then, missing_stops, missing_then}
use Rattle.kl_flat.proofs.Tables.{lent_back}
use Rattle.kl_flat.proofs.table.read_rows.Goals as goal

pub of-requires : goal.of-requires
of-requires c =
    let held = c.records.held in
    let new = c.add_row.new.columns in
    let back : take held.len (new ++ drop (length new) held.items) ≡ new = lent_back held.items new held.len (omega (arith, held.ok)) (omega (arith, c.add_row.auto.columns, ap length c.deref_mut.ensures.value)) in
    let added = rw c.if-not-branch.true at c.in_ok-add_row.ensures in
    let lacks = added c.records.len (subst (AreLevel c.records.len) (sym c.deref_mut.ensures.value) c.records.invariant.level) in
    subst (All (λ c'. c.records.len ≤ height c'.cells)) (sym back) lacks.keeps.filled

pub returns-then-not-branch-clause-rows : goal.returns-then-not-branch-clause-rows
returns-then-not-branch-clause-rows c =
    let held = c.records.held in
    let new = c.add_row.new.columns in
    let back : take held.len (new ++ drop (length new) held.items) ≡ new = lent_back held.items new held.len (omega (arith, held.ok)) (omega (arith, c.add_row.auto.columns, ap length c.deref_mut.ensures.value)) in
    let added = rw c.if-not-branch.true at c.in_ok-add_row.ensures in
    let lacks = added c.records.len (subst (AreLevel c.records.len) (sym c.deref_mut.ensures.value) c.records.invariant.level) in
    let here = subst (λ cs. LacksRow (fields_of c.args.header.now) (fields_of c.next_record.new.entry) c.records.len cs new) c.deref_mut.ensures.value lacks in
    let read = row_in c.args.columns.now (fields_of c.args.header.now) in
    let none = ap (λ cs. row_in cs (fields_of c.args.header.now) (fields_of c.next_record.new.entry)) (sym c.records.invariant.columns) ∙ here.row in
    rows_stay c.of.result c.records.len held.items new (c.of.ensures.columns ∙ back) c.of.ensures.len here.keeps
    ∙ front_stops read (records_left c.records.reader) (records_left c.next_record.new.reader) (fields_of c.next_record.new.entry) (map read (records_left c.args.reader.now)) (c.in_ok-next_record.ensures.record c.if-branch.true) none
    (map (row_at held.items) (range_with_len 0 c.records.len)) c.records.invariant.rows

pub returns-then-not-branch-clause-bad : goal.returns-then-not-branch-clause-bad
returns-then-not-branch-clause-bad c =
    let held = c.records.held in
    let new = c.add_row.new.columns in
    let added = rw c.if-not-branch.true at c.in_ok-add_row.ensures in
    let lacks = added c.records.len (subst (AreLevel c.records.len) (sym c.deref_mut.ensures.value) c.records.invariant.level) in
    let here = subst (λ cs. LacksRow (fields_of c.args.header.now) (fields_of c.next_record.new.entry) c.records.len cs new) c.deref_mut.ensures.value lacks in
    let read = row_in c.args.columns.now (fields_of c.args.header.now) in
    let none = ap (λ cs. row_in cs (fields_of c.args.header.now) (fields_of c.next_record.new.entry)) (sym c.records.invariant.columns) ∙ here.row in
    missing_stops read (records_left c.records.reader) (records_left c.next_record.new.reader) (fields_of c.next_record.new.entry) (map read (records_left c.args.reader.now)) (c.in_ok-next_record.ensures.record c.if-branch.true) none
    c.in-Some.number (c.records.invariant.bad ∙ ap (λ n. first_missing n (map read (records_left c.records.reader))) (sym c.in-Some.ensures.1))

pub returns-then-not-branch-clause-columns : goal.returns-then-not-branch-clause-columns
returns-then-not-branch-clause-columns c =
    let held = c.records.held in
    let new = c.add_row.new.columns in
    let back : take held.len (new ++ drop (length new) held.items) ≡ new = lent_back held.items new held.len (omega (arith, held.ok)) (omega (arith, c.add_row.auto.columns, ap length c.deref_mut.ensures.value)) in
    let added = rw c.if-not-branch.true at c.in_ok-add_row.ensures in
    let lacks = added c.records.len (subst (AreLevel c.records.len) (sym c.deref_mut.ensures.value) c.records.invariant.level) in
    ap columns_in (c.of.ensures.columns ∙ back) ∙ lacks.keeps.columns ∙ ap columns_in c.deref_mut.ensures.value ∙ c.records.invariant.columns

pub records-preserved : goal.records-preserved
records-preserved c =
    let held = c.records.held in
    let new = c.add_row.new.columns in
    let back : take held.len (new ++ drop (length new) held.items) ≡ new = lent_back held.items new held.len (omega (arith, held.ok)) (omega (arith, c.add_row.auto.columns, ap length c.deref_mut.ensures.value)) in
    let added = rw c.if-not-branch.false at c.in_ok-add_row.ensures in
    let adds = added c.records.len (subst (AreLevel c.records.len) (sym c.deref_mut.ensures.value) c.records.invariant.level) in
    let here = subst (λ cs. AddsRow (fields_of c.args.header.now) (fields_of c.next_record.new.entry) c.records.len cs new) c.deref_mut.ensures.value adds in
    let read = row_in c.args.columns.now (fields_of c.args.header.now) in
    let row = ap (λ cs. row_in cs (fields_of c.args.header.now) (fields_of c.next_record.new.entry)) (sym c.records.invariant.columns) ∙ here.row in
    let next = c.in_ok-next_record.ensures.record c.if-branch.true in
    let whole = map read (records_left c.args.reader.now) in
    let number = sym c.in-Some.ensures.1 in
    record {
      plain = search rules;
      columns = ap columns_in back ∙ here.keeps.columns ∙ c.records.invariant.columns;
      level = subst (AreLevel c.in-Some.number) (sym back) (subst (λ n. AreLevel n new) number here.level);
      rows = front_then read (records_left c.records.reader) (records_left c.next_record.new.reader) (fields_of c.next_record.new.entry) whole next (row_at new c.records.len) (map (row_at held.items) (range_with_len 0 c.records.len))
          (map (row_at (take held.len (new ++ drop (length new) held.items))) (range_with_len 0 c.in-Some.number)) row
          ((λ j. map (row_at (back j)) (range_with_len 0 (sym number j))) ∙ rows_more c.records.len held.items new here.keeps) c.records.invariant.rows;
      bad = missing_then read (records_left c.records.reader) (records_left c.next_record.new.reader) (fields_of c.next_record.new.entry) whole next (row_at new c.records.len) (c.records.len + 1) row c.records.invariant.bad
          ∙ ap (λ n. first_missing (n + 1) (map read (records_left c.next_record.new.reader))) number;
    }
