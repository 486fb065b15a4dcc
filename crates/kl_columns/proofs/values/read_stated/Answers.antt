use Rattle.std.proofs.Common.{◌∙◌, [], Err, Ok, Some, ap, refl, subst, sym}
use Rattle.kl_type.specs.Has.{has_type}
use Rattle.kl_columns.specs.Reading.{ReadsItems}
use Rattle.kl_columns.proofs.ItemsRead.{all_read, begun, fits_more, found_as, its_own, lacks_it, may_read, one_more, stopped}
use Rattle.kl_columns.proofs.values.read_stated.Goals as goal

pub items-init : goal.items-init
items-init g c = ([], begun (Some c.args.ty) c.args.reader.now (g.F.Files.state c.args.files.now) c.requires.is_open, refl, refl)

pub next-requires : goal.next-requires
next-requires g c =
    let inv = c.items.invariant in
    let may = may_read (Some c.args.ty) c.args.reader.now (g.F.Files.state c.args.files.now) c.items.reader (g.F.Files.state c.items.files) inv.0 inv.1 c.requires.before in
    record { is_open = may.0; behind = may.1 }

pub items-preserved : goal.items-preserved
items-preserved g c =
    fits_more c.args.ty c.args.reader.now (g.F.Files.state c.args.files.now) c.items.reader (g.F.Files.state c.items.files) c.items.invariant.0 c.items.invariant.1 c.requires.before c.items.invariant.2
    _ c.items.invariant.3 c.in-Ok-Some.value c.next.new.self (g.F.Files.state c.next.new.files) _ c.in-Ok-Some.field-0-is c.in-Ok-Some.ensures.reads _ c.has.ensures c.if-not-has.false

pub items-preserved-else-not-has : goal.items-preserved-else-not-has
items-preserved-else-not-has g c =
    fits_more c.args.ty c.args.reader.now (g.F.Files.state c.args.files.now) c.items.reader (g.F.Files.state c.items.files) c.items.invariant.0 c.items.invariant.1 c.requires.before c.items.invariant.2
    _ c.items.invariant.3 c.in-Ok-Some.value c.next.new.self (g.F.Files.state c.next.new.files) _ c.in-Ok-Some.field-0-is c.in-Ok-Some.ensures.reads _ c.has.ensures c.if-not-has.false

pub items-preserved-else-not-has-2 : goal.items-preserved-else-not-has-2
items-preserved-else-not-has-2 g c =
    fits_more c.args.ty c.args.reader.now (g.F.Files.state c.args.files.now) c.items.reader (g.F.Files.state c.items.files) c.items.invariant.0 c.items.invariant.1 c.requires.before c.items.invariant.2
    _ c.items.invariant.3 c.in-Ok-Some.value c.next.new.self (g.F.Files.state c.next.new.files) _ c.in-Ok-Some.field-0-is c.in-Ok-Some.ensures.reads _ c.has.ensures c.if-not-has.false

pub items-preserved-else-not-has-3 : goal.items-preserved-else-not-has-3
items-preserved-else-not-has-3 g c =
    fits_more c.args.ty c.args.reader.now (g.F.Files.state c.args.files.now) c.items.reader (g.F.Files.state c.items.files) c.items.invariant.0 c.items.invariant.1 c.requires.before c.items.invariant.2
    _ c.items.invariant.3 c.in-Ok-Some.value c.next.new.self (g.F.Files.state c.next.new.files) _ c.in-Ok-Some.field-0-is c.in-Ok-Some.ensures.reads _ c.has.ensures c.if-not-has.false

pub items-preserved-else-not-has-4 : goal.items-preserved-else-not-has-4
items-preserved-else-not-has-4 g c =
    fits_more c.args.ty c.args.reader.now (g.F.Files.state c.args.files.now) c.items.reader (g.F.Files.state c.items.files) c.items.invariant.0 c.items.invariant.1 c.requires.before c.items.invariant.2
    _ c.items.invariant.3 c.in-Ok-Some.value c.next.new.self (g.F.Files.state c.next.new.files) _ c.in-Ok-Some.field-0-is c.in-Ok-Some.ensures.reads _ c.has.ensures c.if-not-has.false

pub items-preserved-else-not-has-5 : goal.items-preserved-else-not-has-5
items-preserved-else-not-has-5 g c =
    fits_more c.args.ty c.args.reader.now (g.F.Files.state c.args.files.now) c.items.reader (g.F.Files.state c.items.files) c.items.invariant.0 c.items.invariant.1 c.requires.before c.items.invariant.2
    _ c.items.invariant.3 c.in-Ok-Some.value c.next.new.self (g.F.Files.state c.next.new.files) _ c.in-Ok-Some.field-0-is c.in-Ok-Some.ensures.reads _ c.has.ensures c.if-not-has.false

pub items-preserved-else-not-has-6 : goal.items-preserved-else-not-has-6
items-preserved-else-not-has-6 g c =
    fits_more c.args.ty c.args.reader.now (g.F.Files.state c.args.files.now) c.items.reader (g.F.Files.state c.items.files) c.items.invariant.0 c.items.invariant.1 c.requires.before c.items.invariant.2
    _ c.items.invariant.3 c.in-Ok-Some.value c.next.new.self (g.F.Files.state c.next.new.files) _ c.in-Ok-Some.field-0-is c.in-Ok-Some.ensures.reads _ c.has.ensures c.if-not-has.false

pub items-smaller : goal.items-smaller
items-smaller g c =
    let now = g.F.Files.state c.items.files in
    let then = g.F.Files.state c.next.new.files in
    let next = found_as _ (Some c.in-Ok-Some.value) c.items.reader c.next.new.self now then c.in-Ok-Some.field-0-is c.in-Ok-Some.ensures.reads in
    let inv = c.items.invariant in
    (one_more (Some c.args.ty) c.args.reader.now (g.F.Files.state c.args.files.now) c.items.reader now inv.0 inv.1 c.next.new.self then c.in-Ok-Some.value next).1

pub returns-then-not-has : goal.returns-then-not-has
returns-then-not-has g c =
    let now = g.F.Files.state c.items.files in
    let then = g.F.Files.state c.next.new.files in
    let next = found_as _ (Some c.in-Ok-Some.value) c.items.reader c.next.new.self now then c.in-Ok-Some.field-0-is c.in-Ok-Some.ensures.reads in
    let inv = c.items.invariant in
    lacks_it c.args.ty c.args.reader.now (g.F.Files.state c.args.files.now) c.items.reader now inv.0 inv.1 c.requires.before inv.2 c.in-Ok-Some.value c.place-place.result c.next.new.self then next
    (ap (has_type c.in-Ok-Some.value) (sym inv.3) ∙ sym c.has.ensures ∙ c.if-not-has.true) c.place-place.ensures

pub returns-in-Ok-None : goal.returns-in-Ok-None
returns-in-Ok-None g c =
    let now = g.F.Files.state c.items.files in
    let then = g.F.Files.state c.next.new.files in
    let next = found_as _ _ c.items.reader c.next.new.self now then c.in-Ok-None.field-0-is c.in-Ok-None.ensures.reads in
    let inv = c.items.invariant in
    subst (λ t. ReadsItems (Some c.args.ty) (Ok t) c.args.reader.now (g.F.Files.state c.args.files.now) then) (sym inv.3)
    (all_read (Some c.args.ty) c.args.reader.now (g.F.Files.state c.args.files.now) c.items.reader now inv.0 inv.1 c.next.new.self then c.requires.before c.args.ty (its_own c.args.ty) inv.2 next refl)

pub returns-in-Err : goal.returns-in-Err
returns-in-Err g c =
    let old = g.F.Files.state c.args.files.now in
    let now = g.F.Files.state c.items.files in
    let then = g.F.Files.state c.next.new.files in
    let inv = c.items.invariant in
    subst (λ why. ReadsItems (Some c.args.ty) (Err why) c.args.reader.now old then) (sym c.unread.ensures)
    (stopped (Some c.args.ty) c.args.reader.now old c.items.reader now inv.0 inv.1 c.next.new.self then c.requires.before c.args.ty (its_own c.args.ty) inv.2 refl c.in-Err.error c.in-Err.ensures.reads)
