use Rattle.kl_type.proofs.TextLemmas.{placed, reads_so, only_as}
use Rattle.kl_type.specs.Grammar.{Reads}
use Rattle.kl_base.specs.Results.{OrMemory}
use Rattle.kl_type.specs.declared.reading.TypeError.TheVariants.{NoMemory}
use Rattle.kl_type.proofs.Answer.{refused_so}
use Rattle.kl_type.proofs.Proper.{answers_proper}
use Rattle.kl_type.proofs.reading.read_type.Goals as goal

pub returns-in-Tokens-clause-reads : goal.returns-in-Tokens-clause-reads
returns-in-Tokens-clause-reads c =
    reads_so c.args.bytes.now c.in_ok-byte.field-0 c.in-Tokens.tokens c.slice.result.now c.in-Tokens.is c.slice.ensures c.in_ok-byte.ensures.tokens c.in_ok-byte.ensures.only Reads c.type_of.result c.type_of.ensures.spells

pub returns-in-Tokens-clause-proper : goal.returns-in-Tokens-clause-proper
returns-in-Tokens-clause-proper c = answers_proper c.slice.result.now c.type_of.result c.type_of.ensures.spells

pub returns-in-Tokens-clause-only : goal.returns-in-Tokens-clause-only
returns-in-Tokens-clause-only c =
    only_as c.args.bytes.now c.in_ok-byte.field-0 c.in-Tokens.tokens c.slice.result.now c.in-Tokens.is c.slice.ensures c.in_ok-byte.ensures.tokens c.in_ok-byte.ensures.only Reads (OrMemory NoMemory c.type_of.result) c.type_of.ensures.only

pub returns-in-Tokens-clause-refused : goal.returns-in-Tokens-clause-refused
returns-in-Tokens-clause-refused c =
    refused_so c.args.bytes.now c.slice.result.now (placed c.args.bytes.now c.in_ok-byte.field-0 c.in-Tokens.tokens c.slice.result.now c.in-Tokens.is c.slice.ensures c.in_ok-byte.ensures.tokens c.in_ok-byte.ensures.only) c.type_of.result c.type_of.ensures.refused
