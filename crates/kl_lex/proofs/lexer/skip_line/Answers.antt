use Rattle.std.proofs.Common.{List, ℕ, [], ◌∷◌, ◌++◌, append_assoc, sym, ap, ◌∙◌}
use Rattle.kl_lex.proofs.Fronts.{first_and_rest}
use Rattle.kl_lex.proofs.Sequence.{in_line_more}
use Rattle.kl_lex.proofs.lexer.skip_line.Goals as goal

pub line-preserved : goal.line-preserved
line-preserved c =
    let (line, e, h) = c.line.invariant in
    let f = first_and_rest c.line.rest.now c.in-len1-up.len_at_least in
    (line ++ _ ∷ [], e ∙ ap (λ (z : List ℕ). line ++ z) f ∙ sym (append_assoc line (_ ∷ []) _), in_line_more line _ h c.if-first-eq10.false)
