use Rattle.std.proofs.Common.{◌≡◌, false, subst, sym, ◌∙◌}
use Rattle.kl_json.specs.Files.{starts_blank}
use Rattle.kl_json.proofs.Meanwhile.{blanks_on, stays_on, fetched_on, next_taken, next_last, next_deep, next_fault}
use Rattle.kl_json.proofs.reader.JsonReader.next.Goals as goal

pub returns-in-Ends : goal.returns-in-Ends
returns-in-Ends g c =
    let s = g.F.Files.state c.args.files.now in
    let t = g.F.Files.state c.pieces.files in
    let blank = blanks_on c.args.choices.now c.args.self.now c.pieces.self s t c.pieces.invariant c.pass_blanks.new.self c.pass_blanks.ensures in
    let here = stays_on c.args.choices.now c.args.self.now c.pass_blanks.new.self s t blank c.look.new.self c.look.ensures.same in
    let start = subst (λ r. starts_blank r.items.text.left ≡ false) (sym c.look.ensures.same) c.pass_blanks.ensures.4 in
    next_taken c.args.choices.now c.args.self.now c.look.new.self s t here c.in-Ends.count c.take.result c.take.new.self c.in-Ends.ensures.within start c.take.ensures

pub returns-in-TooDeep : goal.returns-in-TooDeep
returns-in-TooDeep g c =
    let s = g.F.Files.state c.args.files.now in
    let t = g.F.Files.state c.pieces.files in
    let blank = blanks_on c.args.choices.now c.args.self.now c.pieces.self s t c.pieces.invariant c.pass_blanks.new.self c.pass_blanks.ensures in
    let here = stays_on c.args.choices.now c.args.self.now c.pass_blanks.new.self s t blank c.look.new.self c.look.ensures.same in
    next_deep c.args.choices.now c.args.self.now c.look.new.self s t here c.place_of.result

pub returns-then-has_ended : goal.returns-then-has_ended
returns-then-has_ended g c =
    let s = g.F.Files.state c.args.files.now in
    let t = g.F.Files.state c.pieces.files in
    let blank = blanks_on c.args.choices.now c.args.self.now c.pieces.self s t c.pieces.invariant c.pass_blanks.new.self c.pass_blanks.ensures in
    let here = stays_on c.args.choices.now c.args.self.now c.pass_blanks.new.self s t blank c.look.new.self c.look.ensures.same in
    let start = subst (λ r. starts_blank r.items.text.left ≡ false) (sym c.look.ensures.same) c.pass_blanks.ensures.4 in
    next_last c.args.choices.now c.args.self.now c.look.new.self s t here c.last.result c.last.new.self (sym c.has_ended.ensures ∙ c.if-has_ended.true) start c.last.ensures

pub returns-in-Err : goal.returns-in-Err
returns-in-Err g c =
    let s = g.F.Files.state c.args.files.now in
    let t = g.F.Files.state c.pieces.files in
    let blank = blanks_on c.args.choices.now c.args.self.now c.pieces.self s t c.pieces.invariant c.pass_blanks.new.self c.pass_blanks.ensures in
    let here = stays_on c.args.choices.now c.args.self.now c.pass_blanks.new.self s t blank c.look.new.self c.look.ensures.same in
    next_fault c.args.choices.now c.args.self.now c.look.new.self s t here c.in-Err.error c.fetch.new.self (g.F.Files.state c.fetch.new.files) c.in-Err.ensures

pub pieces-preserved : goal.pieces-preserved
pieces-preserved g c =
    let s = g.F.Files.state c.args.files.now in
    let t = g.F.Files.state c.pieces.files in
    let blank = blanks_on c.args.choices.now c.args.self.now c.pieces.self s t c.pieces.invariant c.pass_blanks.new.self c.pass_blanks.ensures in
    let here = stays_on c.args.choices.now c.args.self.now c.pass_blanks.new.self s t blank c.look.new.self c.look.ensures.same in
    fetched_on c.args.choices.now c.args.self.now c.look.new.self s t here c.in-Ok.field-0 c.fetch.new.self (g.F.Files.state c.fetch.new.files) c.in-Ok.ensures
