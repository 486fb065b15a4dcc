use Rattle.std.proofs.Common.{None, Ok, Err, Some, ap, subst, sym}
use Rattle.kl_heads.specs.FileReading.{ReadsHead}
use Rattle.kl_columns.specs.Reading.{ReadsThrough}
use Rattle.kl_columns.proofs.ItemsRead.{before_items, behind_head, fresh, head_stopped, open_behind}
use Rattle.kl_columns.proofs.values.read_open.Goals as goal

pub read_stated-requires : goal.read_stated-requires
read_stated-requires g c =
    let old = g.F.Files.state c.args.files.now in
    let after = g.F.Files.state c.head.new.files in
    let at = fresh c.args.file old c.new-reader.result c.requires (ap (λ r. r.front) c.new-reader.ensures) (ap (λ r. r.head) c.new-reader.ensures) (ap (λ r. r.refused) c.new-reader.ensures)
    (ap (λ r. r.items.text) c.new-reader.ensures) (ap (λ r. r.items.past) c.new-reader.ensures) (ap (λ r. r.items.file) c.new-reader.ensures) (ap (λ r. r.items.limit) c.new-reader.ensures) in
    let reads = subst (λ o. ReadsHead (Ok o) c.new-reader.result c.head.new.self old after) c.in-Ok-Some.field-0-is c.in-Ok-Some.ensures in
    record {
      is_open = open_behind c.args.file old c.new-reader.result c.requires at c.head.new.self after (Some c.in-Ok-Some.ty) reads;
      before = before_items c.args.file old c.new-reader.result c.requires at c.head.new.self after (Some c.in-Ok-Some.ty) reads;
    }

pub read_unstated-requires : goal.read_unstated-requires
read_unstated-requires g c =
    let old = g.F.Files.state c.args.files.now in
    let after = g.F.Files.state c.head.new.files in
    let at = fresh c.args.file old c.new-reader.result c.requires (ap (λ r. r.front) c.new-reader.ensures) (ap (λ r. r.head) c.new-reader.ensures) (ap (λ r. r.refused) c.new-reader.ensures)
    (ap (λ r. r.items.text) c.new-reader.ensures) (ap (λ r. r.items.past) c.new-reader.ensures) (ap (λ r. r.items.file) c.new-reader.ensures) (ap (λ r. r.items.limit) c.new-reader.ensures) in
    let reads = subst (λ o. ReadsHead (Ok o) c.new-reader.result c.head.new.self old after) c.in-Ok-None.field-0-is c.in-Ok-None.ensures in
    record {
      is_open = open_behind c.args.file old c.new-reader.result c.requires at c.head.new.self after None reads;
      before = before_items c.args.file old c.new-reader.result c.requires at c.head.new.self after None reads;
    }

pub returns-in-Ok-Some : goal.returns-in-Ok-Some
returns-in-Ok-Some g c =
    let old = g.F.Files.state c.args.files.now in
    let after = g.F.Files.state c.head.new.files in
    let at = fresh c.args.file old c.new-reader.result c.requires (ap (λ r. r.front) c.new-reader.ensures) (ap (λ r. r.head) c.new-reader.ensures) (ap (λ r. r.refused) c.new-reader.ensures)
    (ap (λ r. r.items.text) c.new-reader.ensures) (ap (λ r. r.items.past) c.new-reader.ensures) (ap (λ r. r.items.file) c.new-reader.ensures) (ap (λ r. r.items.limit) c.new-reader.ensures) in
    let reads = subst (λ o. ReadsHead (Ok o) c.new-reader.result c.head.new.self old after) c.in-Ok-Some.field-0-is c.in-Ok-Some.ensures in
    behind_head c.args.file old c.new-reader.result c.requires at c.head.new.self after (Some c.in-Ok-Some.ty) reads c.read_stated.result (g.F.Files.state c.read_stated.new.files) c.read_stated.ensures

pub returns-in-Ok-None : goal.returns-in-Ok-None
returns-in-Ok-None g c =
    let old = g.F.Files.state c.args.files.now in
    let after = g.F.Files.state c.head.new.files in
    let at = fresh c.args.file old c.new-reader.result c.requires (ap (λ r. r.front) c.new-reader.ensures) (ap (λ r. r.head) c.new-reader.ensures) (ap (λ r. r.refused) c.new-reader.ensures)
    (ap (λ r. r.items.text) c.new-reader.ensures) (ap (λ r. r.items.past) c.new-reader.ensures) (ap (λ r. r.items.file) c.new-reader.ensures) (ap (λ r. r.items.limit) c.new-reader.ensures) in
    let reads = subst (λ o. ReadsHead (Ok o) c.new-reader.result c.head.new.self old after) c.in-Ok-None.field-0-is c.in-Ok-None.ensures in
    behind_head c.args.file old c.new-reader.result c.requires at c.head.new.self after None reads c.read_unstated.result (g.F.Files.state c.read_unstated.new.files) c.read_unstated.ensures

pub returns : goal.returns
returns g c =
    let old = g.F.Files.state c.args.files.now in
    let after = g.F.Files.state c.head.new.files in
    let at = fresh c.args.file old c.new-reader.result c.requires (ap (λ r. r.front) c.new-reader.ensures) (ap (λ r. r.head) c.new-reader.ensures) (ap (λ r. r.refused) c.new-reader.ensures)
    (ap (λ r. r.items.text) c.new-reader.ensures) (ap (λ r. r.items.past) c.new-reader.ensures) (ap (λ r. r.items.file) c.new-reader.ensures) (ap (λ r. r.items.limit) c.new-reader.ensures) in
    subst (λ why. ReadsThrough c.args.file (Err why) old after) (sym c.unread.ensures) (head_stopped c.args.file old c.new-reader.result c.requires at c.head.new.self after c.in-Err.error c.in-Err.ensures)
