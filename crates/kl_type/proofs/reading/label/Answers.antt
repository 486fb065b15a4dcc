use Rattle.std.proofs.Common.{sym}
use Rattle.kl_type.proofs.Steps.{no_label, label_there, label_free}
use Rattle.kl_type.proofs.reading.label.Goals as goal

pub returns-in-None : goal.returns-in-None
returns-in-None c = no_label c.args.found.now.entries c.args.tokens.now c.in-None.ensures

pub returns-then-contains_key : goal.returns-then-contains_key
returns-then-contains_key c = label_there c.args.found.now.entries c.args.tokens.now c.in-Some.word.now c.in-Some.rest.now c.in-Some.ensures (sym c.if-contains_key.ensures)

pub returns-in_ok-dup-in-Some : goal.returns-in_ok-dup-in-Some
returns-in_ok-dup-in-Some c = rw c.in_ok-dup-in-Some.ensures (label_free c.args.found.now.entries c.args.tokens.now c.in-Some.word.now c.in-Some.rest.now c.in-Some.ensures (sym c.if-contains_key.ensures))
