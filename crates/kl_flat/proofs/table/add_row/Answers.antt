use Rattle.std.proofs.Common.{◌≡◌, ◌<◌, length, get_or, set, refl, sym, ap, ◌∙◌, subst, arith}
use Rattle.std.proofs.lemmas.List.{set-get_or}
use Rattle.csv.specs.Records.{fields_of}
use Rattle.kl_flat.specs.Filling.{LacksRow}
use Rattle.kl_flat.proofs.Filling.{fills_all, fills_more, item_at, lacks_cell, lacks_value}
use Rattle.kl_flat.proofs.table.add_row.Goals as goal

pub returns-in_default : goal.returns-in_default
returns-in_default c n level =
    let size = sym c.len.ensures ∙ c.if-len.false ∙ c.len-2.ensures in
    let lt : c.loop-i.i < length c.loop-i.columns = omega (arith, c.loop-i-test.true, c.loop-i.auto.columns) in
    let item = item_at c.loop-i.columns c.loop-i.i lt in
    lacks_cell (fields_of c.args.header.now) (fields_of c.args.entry.now) n c.loop-i.i c.args.columns.now c.loop-i.columns (c.loop-i.invariant n level) c.args.places.now item.0 c.requires size lt item.1 (sym c.in_default.ensures.value)

pub returns-then-not-branch : goal.returns-then-not-branch
returns-then-not-branch c n level =
    let size = sym c.len.ensures ∙ c.if-len.false ∙ c.len-2.ensures in
    let lt : c.loop-i.i < length c.loop-i.columns = omega (arith, c.loop-i-test.true, c.loop-i.auto.columns) in
    let column = get_or c.loop-i.columns c.loop-i.i c.index-columns-i.result in
    let refuses = rw c.if-not-branch.true at c.in_ok-push.ensures in
    let same : c.loop-i.columns ≡ set c.loop-i.columns c.loop-i.i (record { label = column.label; cells = c.push.new.self }) =
    sym (set-get_or c.loop-i.columns c.loop-i.i c.index-columns-i.result) ∙ (λ j. set c.loop-i.columns c.loop-i.i (record { label = column.label; cells = sym refuses.1 j })) in
    subst (LacksRow (fields_of c.args.header.now) (fields_of c.args.entry.now) n c.args.columns.now) same
    (lacks_value (fields_of c.args.header.now) (fields_of c.args.entry.now) n c.loop-i.i c.args.columns.now c.loop-i.columns (c.loop-i.invariant n level) c.args.places.now column c.requires size lt (ap (get_or c.loop-i.columns c.loop-i.i) c.index-columns-i.is)
    c.in-Some.cell.now (sym c.in-Some.ensures.value) refuses.0)

pub loop-i-preserved : goal.loop-i-preserved
loop-i-preserved c n level =
    let size = sym c.len.ensures ∙ c.if-len.false ∙ c.len-2.ensures in
    let lt : c.loop-i.i < length c.loop-i.columns = omega (arith, c.loop-i-test.true, c.loop-i.auto.columns) in
    let column = get_or c.loop-i.columns c.loop-i.i c.index-columns-i.result in
    let gains = rw c.if-not-branch.false at c.in_ok-push.ensures in
    fills_more (fields_of c.args.header.now) (fields_of c.args.entry.now) n c.loop-i.i c.args.columns.now c.loop-i.columns (c.loop-i.invariant n level) c.args.places.now column c.requires size lt (ap (get_or c.loop-i.columns c.loop-i.i) c.index-columns-i.is)
    c.in-Some.cell.now (record { label = column.label; cells = c.push.new.self }) (sym c.in-Some.ensures.value) refl gains

pub returns : goal.returns
returns c n level =
    let size = sym c.len.ensures ∙ c.if-len.false ∙ c.len-2.ensures in
    fills_all (fields_of c.args.header.now) (fields_of c.args.entry.now) n c.loop-i.i c.args.columns.now c.loop-i.columns (c.loop-i.invariant n level) (omega (arith, c.loop-i-test.false, c.loop-i.auto.columns)) size
