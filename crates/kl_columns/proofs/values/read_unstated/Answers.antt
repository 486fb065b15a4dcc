use Rattle.std.proofs.Common.{◌+◌, [], Err, None, Some, ap, arith, refl, subst, sym}
use Rattle.kl_shape.proofs.ShapeLemmas.{fits-Unseen, sound-Unseen}
use Rattle.kl_columns.specs.Reading.{JoinsItem, ReadsItems}
use Rattle.kl_columns.proofs.ItemsRead.{begun, few, found_as, joins_more, may_read, none_left, not_joined, one_more, stopped_unstated}
use Rattle.kl_columns.proofs.values.read_unstated.Goals as goal

pub items-init : goal.items-init
items-init g c = ([], begun None c.args.reader.now (g.F.Files.state c.args.files.now) c.requires.is_open, fits-Unseen, sound-Unseen, refl)

pub next-requires : goal.next-requires
next-requires g c =
    let inv = c.items.invariant in
    let may = may_read None c.args.reader.now (g.F.Files.state c.args.files.now) c.items.reader (g.F.Files.state c.items.files) inv.0 inv.1 c.requires.before in
    record { is_open = may.0; behind = may.1 }

pub joined-requires : goal.joined-requires
joined-requires g c = c.items.invariant.3

pub least-requires : goal.least-requires
least-requires g c = c.items.invariant.3

pub items-preserved : goal.items-preserved
items-preserved g c =
    joins_more c.args.reader.now (g.F.Files.state c.args.files.now) c.items.reader (g.F.Files.state c.items.files) c.items.invariant.0 c.items.invariant.1 c.requires.before c.items.shape c.items.invariant.2
    c.items.count c.items.invariant.4 c.in-Ok-Some.value c.next.new.self (g.F.Files.state c.next.new.files) _ c.in-Ok-Some.field-0-is c.in-Ok-Some.ensures.reads c.in-Ok.shape c.in-Ok.ensures

pub items-preserved-in-Ok : goal.items-preserved-in-Ok
items-preserved-in-Ok g c =
    joins_more c.args.reader.now (g.F.Files.state c.args.files.now) c.items.reader (g.F.Files.state c.items.files) c.items.invariant.0 c.items.invariant.1 c.requires.before c.items.shape c.items.invariant.2
    c.items.count c.items.invariant.4 c.in-Ok-Some.value c.next.new.self (g.F.Files.state c.next.new.files) _ c.in-Ok-Some.field-0-is c.in-Ok-Some.ensures.reads c.in-Ok.shape c.in-Ok.ensures

pub items-preserved-in-Ok-2 : goal.items-preserved-in-Ok-2
items-preserved-in-Ok-2 g c =
    joins_more c.args.reader.now (g.F.Files.state c.args.files.now) c.items.reader (g.F.Files.state c.items.files) c.items.invariant.0 c.items.invariant.1 c.requires.before c.items.shape c.items.invariant.2
    c.items.count c.items.invariant.4 c.in-Ok-Some.value c.next.new.self (g.F.Files.state c.next.new.files) _ c.in-Ok-Some.field-0-is c.in-Ok-Some.ensures.reads c.in-Ok.shape c.in-Ok.ensures

pub items-preserved-in-Ok-3 : goal.items-preserved-in-Ok-3
items-preserved-in-Ok-3 g c =
    joins_more c.args.reader.now (g.F.Files.state c.args.files.now) c.items.reader (g.F.Files.state c.items.files) c.items.invariant.0 c.items.invariant.1 c.requires.before c.items.shape c.items.invariant.2
    c.items.count c.items.invariant.4 c.in-Ok-Some.value c.next.new.self (g.F.Files.state c.next.new.files) _ c.in-Ok-Some.field-0-is c.in-Ok-Some.ensures.reads c.in-Ok.shape c.in-Ok.ensures

pub items-preserved-in-Ok-4 : goal.items-preserved-in-Ok-4
items-preserved-in-Ok-4 g c =
    joins_more c.args.reader.now (g.F.Files.state c.args.files.now) c.items.reader (g.F.Files.state c.items.files) c.items.invariant.0 c.items.invariant.1 c.requires.before c.items.shape c.items.invariant.2
    c.items.count c.items.invariant.4 c.in-Ok-Some.value c.next.new.self (g.F.Files.state c.next.new.files) _ c.in-Ok-Some.field-0-is c.in-Ok-Some.ensures.reads c.in-Ok.shape c.in-Ok.ensures

pub items-preserved-in-Ok-5 : goal.items-preserved-in-Ok-5
items-preserved-in-Ok-5 g c =
    joins_more c.args.reader.now (g.F.Files.state c.args.files.now) c.items.reader (g.F.Files.state c.items.files) c.items.invariant.0 c.items.invariant.1 c.requires.before c.items.shape c.items.invariant.2
    c.items.count c.items.invariant.4 c.in-Ok-Some.value c.next.new.self (g.F.Files.state c.next.new.files) _ c.in-Ok-Some.field-0-is c.in-Ok-Some.ensures.reads c.in-Ok.shape c.in-Ok.ensures

pub items-preserved-in-Ok-6 : goal.items-preserved-in-Ok-6
items-preserved-in-Ok-6 g c =
    joins_more c.args.reader.now (g.F.Files.state c.args.files.now) c.items.reader (g.F.Files.state c.items.files) c.items.invariant.0 c.items.invariant.1 c.requires.before c.items.shape c.items.invariant.2
    c.items.count c.items.invariant.4 c.in-Ok-Some.value c.next.new.self (g.F.Files.state c.next.new.files) _ c.in-Ok-Some.field-0-is c.in-Ok-Some.ensures.reads c.in-Ok.shape c.in-Ok.ensures

pub items-smaller : goal.items-smaller
items-smaller g c =
    let now = g.F.Files.state c.items.files in
    let then = g.F.Files.state c.next.new.files in
    let next = found_as _ (Some c.in-Ok-Some.value) c.items.reader c.next.new.self now then c.in-Ok-Some.field-0-is c.in-Ok-Some.ensures.reads in
    let inv = c.items.invariant in
    (one_more None c.args.reader.now (g.F.Files.state c.args.files.now) c.items.reader now inv.0 inv.1 c.next.new.self then c.in-Ok-Some.value next).1

pub overflow_add-count : goal.overflow_add-count
overflow_add-count g c =
    let inv = c.items.invariant in
    let k = few None c.args.reader.now (g.F.Files.state c.args.files.now) c.items.reader (g.F.Files.state c.items.files) inv.0 inv.1 c.requires.before in
    omega (arith, k, inv.4)

pub returns-in-Err-joined : goal.returns-in-Err-joined
returns-in-Err-joined g c =
    let old = g.F.Files.state c.args.files.now in
    let now = g.F.Files.state c.items.files in
    let then = g.F.Files.state c.next.new.files in
    let v = c.in-Ok-Some.value in
    let next = found_as _ (Some v) c.items.reader c.next.new.self now then c.in-Ok-Some.field-0-is c.in-Ok-Some.ensures.reads in
    let inv = c.items.invariant in
    not_joined c.args.reader.now old c.items.reader now inv.0 inv.1 c.requires.before c.items.shape inv.2 v c.in-Err-joined.unfit c.next.new.self then inv.3 next
    (subst (λ n. JoinsItem c.items.shape v n (Err c.in-Err-joined.unfit)) (ap (λ n. n + 1) inv.4) c.in-Err-joined.ensures)

pub returns-in-Ok-None : goal.returns-in-Ok-None
returns-in-Ok-None g c =
    let now = g.F.Files.state c.items.files in
    let then = g.F.Files.state c.next.new.files in
    let next = found_as _ None c.items.reader c.next.new.self now then c.in-Ok-None.field-0-is c.in-Ok-None.ensures.reads in
    let inv = c.items.invariant in
    none_left c.args.reader.now (g.F.Files.state c.args.files.now) c.items.reader now inv.0 inv.1 c.requires.before c.items.shape inv.2 c.least.result c.next.new.self then inv.3 next c.least.ensures

pub returns-in-Err : goal.returns-in-Err
returns-in-Err g c =
    let old = g.F.Files.state c.args.files.now in
    let now = g.F.Files.state c.items.files in
    let then = g.F.Files.state c.next.new.files in
    let inv = c.items.invariant in
    subst (λ why. ReadsItems None (Err why) c.args.reader.now old then) (sym c.unread.ensures)
    (stopped_unstated c.args.reader.now old c.items.reader now inv.0 inv.1 c.requires.before c.items.shape inv.2 inv.3 c.in-Err.error c.next.new.self then c.in-Err.ensures.reads)
