use Rattle.std.proofs.Common.{◌≡◌, ◌∙◌, ap, sym, subst, ◌++◌}
use Rattle.kl_sqltext.specs.Reading.{SqlReads}
use Rattle.kl_sqltext.specs.Written.{statement_text}
use Rattle.kl_sqltext.proofs.Answer.{unique}
use Rattle.kl_sqltext.proofs.Rendered.{rendered}
use Rattle.kl_sqltext.proofs.rendering.render.Goals as goal

pub returns-clause-reads : goal.returns-clause-reads
returns-clause-reads c =
    let text : c.of.result ≡ statement_text c.args.s.now = c.of.ensures ∙ (c.in_ok-write_statement.ensures.text ∙ ap (λ z. z ++ statement_text c.args.s.now) c.new-out.ensures.items) in
    subst (λ t. SqlReads t c.args.s.now) (sym text) (rendered c.args.s.now c.requires c.in_ok-write_statement.ensures.stored)

pub returns-clause-only : goal.returns-clause-only
returns-clause-only c = λ u h. unique c.of.result u c.args.s.now h (returns-clause-reads c)
