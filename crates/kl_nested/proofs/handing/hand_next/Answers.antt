use Rattle.std.proofs.Common.{◌≡◌, ◌+◌, ◌≤◌, ap, arith, length, refl, rules, subst, take, ◌∙◌}
use Rattle.kl_nested.specs.Desk.{HasTaken}
use Rattle.kl_nested.specs.declared.parts.Source.{Source}
use Rattle.kl_nested.proofs.Handings.{as_many, behind_head, handed_none, handed_rows, hands_on, kept_on, not_ended, not_handed, not_passed}
use Rattle.kl_nested.proofs.handing.hand_next.Goals as goal

pub pass_head-requires-clause-kept : goal.pass_head-requires-clause-kept
pass_head-requires-clause-kept g c = rw c.get-source.ensures c.requires.reading.kept

pub pass_head-requires-clause-so_far : goal.pass_head-requires-clause-so_far
pass_head-requires-clause-so_far g c = rw c.get-source.ensures c.requires.reading.taken

pub returns-in-Err : goal.returns-in-Err
returns-in-Err g c =
    not_passed c.args.limit c.args.most c.args.into.now.items c.args.cursor.now _ (g.F.Files.state c.args.files.now) _ refl refl refl c.in-Err.error (rw c.get-source.ensures at c.in-Err.ensures)

pub overflow_sub-left : goal.overflow_sub-left
overflow_sub-left g c = let whole = ap (λ (s : Source). s.count) c.get-source.ensures in omega (arith, whole, c.requires.reading.within)

pub meet_end-requires-clause-kept : goal.meet_end-requires-clause-kept
meet_end-requires-clause-kept g c =
    let passes = rw c.get-source.ensures at c.in-Ok.ensures in
    rw c.get-source.ensures (kept_on c.args.limit (g.F.Files.state c.args.files.now).told _ c.args.cursor.now.source passes.reads.told c.requires.reading.kept)

pub meet_end-requires-clause-so_far : goal.meet_end-requires-clause-so_far
meet_end-requires-clause-so_far g c =
    let passes = rw c.get-source.ensures at c.in-Ok.ensures in
    let whole = ap (λ (s : Source). s.count) c.get-source.ensures in
    let spent : c.args.cursor.now.taken ≡ c.args.cursor.now.source.count = omega (arith, whole, c.if-count-eq0.true, c.min-count.ensures, c.from.ensures, c.requires.reading.within, c.requires.some) in
    rw c.get-source.ensures (subst (λ n. HasTaken c.args.limit c.args.cursor.now.source n c.pass_head.new.reader (g.F.Files.state c.pass_head.new.files)) spent passes.taken_so)

pub meet_end-requires-clause-behind : goal.meet_end-requires-clause-behind
meet_end-requires-clause-behind g c = c.in-Ok.ensures.passed

pub returns-in-Ok-meet_end : goal.returns-in-Ok-meet_end
returns-in-Ok-meet_end g c =
    let passes = rw c.get-source.ensures at c.in-Ok.ensures in
    let old = c.args.cursor.now in
    let whole = ap (λ (s : Source). s.count) c.get-source.ensures in
    let spent : old.taken ≡ old.source.count = omega (arith, whole, c.if-count-eq0.true, c.min-count.ensures, c.from.ensures, c.requires.reading.within, c.requires.some) in
    hands_on c.args.limit c.args.most c.args.into.now.items _ old _ c.pass_head.new.reader (g.F.Files.state c.args.files.now) (g.F.Files.state c.pass_head.new.files) _ passes _
    (handed_none c.args.limit c.args.most c.args.into.now.items (behind_head old c.pass_head.new.reader) _ (g.F.Files.state c.pass_head.new.files) _ refl refl refl (rw c.get-source.ensures at c.in-Ok-meet_end.ensures) spent refl)

pub returns-in-Err-meet_end : goal.returns-in-Err-meet_end
returns-in-Err-meet_end g c =
    let passes = rw c.get-source.ensures at c.in-Ok.ensures in
    let old = c.args.cursor.now in
    let whole = ap (λ (s : Source). s.count) c.get-source.ensures in
    let spent : old.taken ≡ old.source.count = omega (arith, whole, c.if-count-eq0.true, c.min-count.ensures, c.from.ensures, c.requires.reading.within, c.requires.some) in
    hands_on c.args.limit c.args.most c.args.into.now.items _ old _ c.pass_head.new.reader (g.F.Files.state c.args.files.now) (g.F.Files.state c.pass_head.new.files) _ passes _
    (not_ended c.args.limit c.args.most c.args.into.now.items (behind_head old c.pass_head.new.reader) _ (g.F.Files.state c.pass_head.new.files) _ refl refl refl c.in-Err-meet_end.error spent (rw c.get-source.ensures at c.in-Err-meet_end.ensures))

pub take_rows-requires-clause-kept : goal.take_rows-requires-clause-kept
take_rows-requires-clause-kept g c =
    let passes = rw c.get-source.ensures at c.in-Ok.ensures in
    rw c.get-source.ensures (kept_on c.args.limit (g.F.Files.state c.args.files.now).told _ c.args.cursor.now.source passes.reads.told c.requires.reading.kept)

pub take_rows-requires-clause-within : goal.take_rows-requires-clause-within
take_rows-requires-clause-within g c = let whole = ap (λ (s : Source). s.count) c.get-source.ensures in omega (arith, whole, c.min-count.ensures, c.requires.reading.within)

pub take_rows-requires-clause-so_far : goal.take_rows-requires-clause-so_far
take_rows-requires-clause-so_far g c = c.in-Ok.ensures.taken_so

pub take_rows-requires-clause-behind : goal.take_rows-requires-clause-behind
take_rows-requires-clause-behind g c = c.in-Ok.ensures.passed

pub overflow_add-cursor : goal.overflow_add-cursor
overflow_add-cursor g c = let whole = ap (λ (s : Source). s.count) c.get-source.ensures in omega (arith, whole, c.min-count.ensures, c.requires.reading.within, c.requires.reading.kept.few, c.requires.room)

pub returns-in-Ok-take_rows : goal.returns-in-Ok-take_rows
returns-in-Ok-take_rows g c =
    let passes = rw c.get-source.ensures at c.in-Ok.ensures in
    let whole = ap (λ (s : Source). s.count) c.get-source.ensures in
    let old = c.args.cursor.now in
    let many = as_many old.source.count old.taken c.args.most c.min-count.result c.requires.reading.within (omega (arith, whole, c.min-count.ensures, c.from.ensures)) in
    hands_on c.args.limit c.args.most c.args.into.now.items _ old _ c.pass_head.new.reader (g.F.Files.state c.args.files.now) (g.F.Files.state c.pass_head.new.files) _ passes _
    (handed_rows c.args.limit c.args.most c.args.into.now.items (behind_head old c.pass_head.new.reader) _ (g.F.Files.state c.pass_head.new.files) _ refl refl refl c.take_rows.new.into.items c.min-count.result (omega (arith, c.if-count-eq0.false)) (rw c.get-source.ensures at c.in-Ok-take_rows.ensures) refl
    (omega (arith, c.min-count.ensures, c.from.ensures)) many (omega (arith, whole, c.min-count.ensures, c.requires.reading.within)))

pub returns-in-Err-take_rows : goal.returns-in-Err-take_rows
returns-in-Err-take_rows g c =
    let passes = rw c.get-source.ensures at c.in-Ok.ensures in
    let whole = ap (λ (s : Source). s.count) c.get-source.ensures in
    let old = c.args.cursor.now in
    let within : old.taken + c.min-count.result ≤ old.source.count = omega (arith, whole, c.min-count.ensures, c.requires.reading.within) in
    let before : c.len-before.result ≡ length c.args.into.now.items = search rules in
    hands_on c.args.limit c.args.most c.args.into.now.items _ old _ c.pass_head.new.reader (g.F.Files.state c.args.files.now) (g.F.Files.state c.pass_head.new.files) _ passes _
    (not_handed c.args.limit c.args.most c.args.into.now.items (behind_head old c.pass_head.new.reader) _ (g.F.Files.state c.pass_head.new.files) _ refl refl refl c.take_rows.new.into.items c.truncate.new.self.items c.min-count.result c.in-Err-take_rows.error within (rw c.get-source.ensures at c.in-Err-take_rows.ensures)
    (c.truncate.ensures.items ∙ ap (λ n. take n c.take_rows.new.into.items) before))
