use Rattle.std.proofs.Common.{◌≡◌, true, false, drop, sym, ap, subst, ◌∙◌, refl}
use Rattle.std.specs.List.{list_all}
use Rattle.kl_exchange.specs.Grammar.{is_blank}
use Rattle.kl_exchange.specs.Scan.{IsBegun}
use Rattle.kl_exchange.proofs.Reading.{needs_more, blank_from, rest_is, bad_end_here}
use Rattle.kl_exchange.proofs.reader.Reader.at_end.Goals as goal

pub returns-then-not-self : goal.returns-then-not-self
returns-then-not-self c =
    needs_more c.args.self.now.left c.requires.begun.machine c.requires.begun.met c.args.self.now refl c.requires.fresh
    (ap (λ s. s.finished) (sym c.self.view_is) ∙ c.if-not-self.true)

pub returns-then-are_blank : goal.returns-then-are_blank
returns-then-are_blank c =
    let buffer = c.self.inside.buffer.items in
    let from = c.self.inside.start in
    let all : list_all is_blank (drop from buffer) ≡ true =
    ap (list_all is_blank) (sym (rest_is c.deref.result.now buffer from c.deref.ensures.value)) ∙ (sym c.are_blank.ensures ∙ c.if-are_blank.true) in
    rw (← c.self.view_is)
    (record {
      fresh = ap (λ s. s.refused) c.self.view_is ∙ c.requires.fresh;
      finished = c.if-not-self.false;
      blank = blank_from (drop from buffer) all;
      same = refl;
    })

pub returns-else-are_blank : goal.returns-else-are_blank
returns-else-are_blank c =
    let buffer = c.self.inside.buffer.items in
    let from = c.self.inside.start in
    let text : list_all is_blank (drop from buffer) ≡ false =
    ap (list_all is_blank) (sym (rest_is c.deref.result.now buffer from c.deref.ensures.value)) ∙ (sym c.are_blank.ensures ∙ c.if-are_blank.false) in
    rw (← c.self.view_is)
    (bad_end_here buffer from c.self.inside.place c.len.result c.self.inside.refused c.self.inside.finished
    (subst (λ s. IsBegun s.left) (sym c.self.view_is) c.requires.begun) (ap (λ s. s.refused) c.self.view_is ∙ c.requires.fresh) c.if-not-self.false text
    (c.len.ensures ∙ c.self.inside.buffer.ok.0))
