use Rattle.std.proofs.Common.{map, sym, ap, ◌∙◌}
use Rattle.kl_prim.specs.Table.{entry_of}
use Rattle.kl_meaning.specs.Codes.{code_in}
use Rattle.kl_meaning.proofs.Naming.{code_is, word_called}
use Rattle.kl_meaning.proofs.codes.code_named.Goals as goal

pub returns-clause-code : goal.returns-clause-code
returns-clause-code c = c.code_in.ensures ∙ ap (λ x. code_in x (map entry_of c.table.result.rows.now)) c.word.ensures.bytes ∙ ap (code_in c.args.name.now) c.table.ensures ∙ sym (code_is c.args.name.now)

pub returns-clause-called : goal.returns-clause-called
returns-clause-called c = word_called c.args.name.now _ c.word.ensures.word
    (c.code_in.ensures ∙ ap (λ x. code_in x (map entry_of c.table.result.rows.now)) c.word.ensures.bytes ∙ ap (code_in c.args.name.now) c.table.ensures ∙ sym (code_is c.args.name.now))
