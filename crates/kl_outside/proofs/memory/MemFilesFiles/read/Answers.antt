use Rattle.std.proofs.Common.{◌≡◌, ◌<◌, rules, arith, length, sym}
use Rattle.kl_outside.specs.Memory.{bytes_held, stored}
use Rattle.kl_outside.proofs.Places.{no_read, reads_more, reads_stored}
use Rattle.kl_outside.proofs.memory.MemFilesFiles.read.Goals as goal

pub returns-then-make_call-clause-reads : goal.returns-then-make_call-clause-reads
returns-then-make_call-clause-reads c = no_read _ _ _ _ _ _ _ c.make_call.ensures.made c.fail_call.ensures.faults c.fail_call.ensures.later

pub returns-then-make_call-clause-shown : goal.returns-then-make_call-clause-shown
returns-then-make_call-clause-shown c = no_read _ _ _ _ _ _ _ c.make_call.ensures.made c.fail_call.ensures.faults c.fail_call.ensures.later

pub returns-clause-reads : goal.returns-clause-reads
returns-clause-reads c =
    let place = c.in-Some.place.now in
    let same : c.held_bytes-bytes.result.now ≡ bytes_held c.args.self.now.entries.items c.args.self.now.changes.items place.held = search rules in
    let room : 0 < length c.copy_from-count.new.into = omega (arith, c.requires.room, c.copy_from-count.ensures.size) in
    reads_stored c.args.self.now.entries.items c.args.self.now.changes.items c.args.self.now.places c.args.file place c.copy_from-count.result c.copy_from-count.new.into c.args.self.now.schedule c.make_call.new.self c.make_call.ensures.made (sym c.in-Some.ensures.value) room (rw (← same, c.copy_from-count.ensures.size) c.copy_from-count.ensures.count) (rw (← same) c.copy_from-count.ensures.copied)

pub returns-clause-shown : goal.returns-clause-shown
returns-clause-shown c =
    let place = c.in-Some.place.now in
    let same : c.held_bytes-bytes.result.now ≡ bytes_held c.args.self.now.entries.items c.args.self.now.changes.items place.held = search rules in
    let room : 0 < length c.copy_from-count.new.into = omega (arith, c.requires.room, c.copy_from-count.ensures.size) in
    reads_more _ (stored c.args.self.now) c.args.self.now.places c.args.file place c.copy_from-count.result c.copy_from-count.new.into c.args.self.now.schedule c.make_call.new.self c.make_call.ensures.made (sym c.in-Some.ensures.value) room (rw (← same, c.copy_from-count.ensures.size) c.copy_from-count.ensures.count) (rw (← same) c.copy_from-count.ensures.copied)
