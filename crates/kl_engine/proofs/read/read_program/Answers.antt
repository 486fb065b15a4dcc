use Rattle.std.proofs.Common.{ap, arith, length}
use Rattle.kl_engine.proofs.ReadLemmas.{few_tokens, found_deep, found_wrong, found_program, found_fault}
use Rattle.kl_engine.proofs.read.read_program.Goals as goal

pub parse-requires : goal.parse-requires
parse-requires c = let few = few_tokens 0 (length c.args.text.now) _ c.in-Ok.ensures.places in let few_bytes = c.requires in omega (arith, few, few_bytes, ap length c.slice.ensures)

pub returns-in-Err-TooDeep : goal.returns-in-Err-TooDeep
returns-in-Err-TooDeep c = found_deep _ _ _ _ _ c.in-Ok.ensures.tokens c.slice.ensures (rw c.in-Err-TooDeep.field-0-is at c.in-Err-TooDeep.ensures.refused)

pub returns-in-Err-Syntax : goal.returns-in-Err-Syntax
returns-in-Err-Syntax c = found_wrong _ _ _ _ _ _ _ c.in-Ok.ensures.tokens c.slice.ensures c.slice-in-Err-Syntax.ensures (rw c.in-Err-Syntax.field-0-is at c.in-Err-Syntax.ensures.refused) (rw c.in-Err-Syntax.field-0-is at c.byte_of.ensures)

pub returns-in-Ok-resolve : goal.returns-in-Ok-resolve
returns-in-Ok-resolve c = found_program _ _ _ _ _ _ c.in-Ok.ensures.tokens c.slice.ensures c.in-Ok-parse.ensures.program c.in-Ok-resolve.ensures.resolved

pub returns : goal.returns
returns c = found_fault _ _ _ _ _ _ _ _ c.in-Ok.ensures.tokens c.slice.ensures c.slice-in-Err.ensures c.in-Ok-parse.ensures.program c.in-Err.ensures.refused c.scope_fault.ensures
