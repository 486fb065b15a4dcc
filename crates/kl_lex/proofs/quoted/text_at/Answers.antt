use Rattle.std.proofs.Common.{List, ℕ, ◌++◌, append_assoc, sym, ap, ◌∙◌}
use Rattle.kl_lex.proofs.Inside.{parts_more, none_closes}
use Rattle.kl_lex.proofs.quoted.text_at.Goals as goal

pub parts-preserved : goal.parts-preserved
parts-preserved c =
    let (u, e, h) = c.parts.invariant in
    let (part, f, p) = c.in-Some.ensures in
    (u ++ part, e ∙ ap (λ (z : List ℕ). u ++ z) f ∙ sym (append_assoc u part c.in-Some.after.now), rw c.in_ok-push.ensures.items (parts_more c.parts.meant.items u part c.in-Some.byte h p))

pub returns-in-None : goal.returns-in-None
returns-in-None c meant rest (inside, e, h) =
    let (u, f, k) = c.parts.invariant in
    none_closes c.parts.meant.items meant u inside c.parts.rest.now rest k c.in_default.ensures c.in-None.ensures h (sym f ∙ e)
