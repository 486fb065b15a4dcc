use Rattle.std.proofs.Common.{◌≡◌, arith, sym, rules, true, false, nat_eq}
use Rattle.std.specs.Option.{is_some}
use Rattle.std.specs.Cmp.Lexicographic.{pointwise, same_text}
use Rattle.csv.specs.Records.{fields_of}
use Rattle.kl_flat.proofs.Placing.{field-there}
use Rattle.kl_flat.proofs.Rows.{found_twice, found_now, found_before}
use Rattle.kl_flat.proofs.table.only_place.Goals as goal
use Rattle.kl_flat.proofs.table.only_place.Goals.{then-eq+else-is_some, else-eq}

pub returns-in_default : goal.returns-in_default
returns-in_default c = λ e. field-there (fields_of c.args.header.now) c.loop-i.i (sym c.in_default.ensures.value) (omega (arith, c.loop-i-test.true, c.len-i-end.ensures))

pub returns-then-is_some : goal.returns-then-is_some
returns-then-is_some c =
    let same : pointwise nat_eq c.args.name.now c.in-Some.field.now ≡ true = search rules in
    let some : is_some c.loop-i.found ≡ true = search rules in
    found_twice c.args.name.now (fields_of c.args.header.now) c.loop-i.i c.in-Some.field.now c.loop-i.found c.loop-i.invariant (sym c.in-Some.ensures.value) same some

pub loop-i-preserved : goal.loop-i-preserved
loop-i-preserved c =
    elim c.if-eq.branch [
      | then-eq+else-is_some w ↦
          let same : pointwise nat_eq c.args.name.now c.in-Some.field.now ≡ true = search rules in
          let none : is_some c.loop-i.found ≡ false = search rules in
          let now = found_now c.args.name.now (fields_of c.args.header.now) c.loop-i.i c.in-Some.field.now c.loop-i.found c.loop-i.invariant (sym c.in-Some.ensures.value) same (same_text _ _ (sym same)) none in
          rw w.found-is now
      | else-eq w ↦
          let other : pointwise nat_eq c.args.name.now c.in-Some.field.now ≡ false = search rules in
          let before = found_before c.args.name.now (fields_of c.args.header.now) c.loop-i.i c.in-Some.field.now c.loop-i.found c.loop-i.invariant (sym c.in-Some.ensures.value) other in
          rw w.found-is before
    ]
