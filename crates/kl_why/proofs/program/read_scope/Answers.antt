use Rattle.std.proofs.Common.{ap, arith, length, refl}
use Rattle.kl_why.proofs.Beginnings.{tokens_fit}
use Rattle.kl_why.proofs.Findings.{found_breach, found_deep, found_scope, found_syntax}
use Rattle.kl_why.proofs.program.read_scope.Goals as goal

pub parse-requires : goal.parse-requires
parse-requires c = let few = tokens_fit _ 0 (length c.args.text.now) c.in-Ok.ensures.places in let few_bytes = c.requires in omega (arith, few, few_bytes, ap length c.slice.ensures)

pub returns-in-Err-Syntax : goal.returns-in-Err-Syntax
returns-in-Err-Syntax c =
    found_syntax c.args.names.now _ _ _ _ c.in-Ok.ensures.tokens c.slice.ensures c.slice-in-Err-Syntax.ensures _ _
    (rw c.in-Err-Syntax.field-0-is at c.in-Err-Syntax.ensures.refused) (rw c.in-Err-Syntax.field-0-is at c.token_byte.ensures)

pub returns-in-Err-TooDeep : goal.returns-in-Err-TooDeep
returns-in-Err-TooDeep c =
    found_deep c.args.names.now _ _ _ _ c.in-Ok.ensures.tokens c.slice.ensures c.slice-in-Err-TooDeep.ensures _ _
    (rw c.in-Err-TooDeep.field-0-is at c.in-Err-TooDeep.ensures.refused) (rw c.in-Err-TooDeep.field-0-is at c.token_byte-in-Err-TooDeep.ensures)

pub returns-in-Ok-resolve : goal.returns-in-Ok-resolve
returns-in-Ok-resolve c = found_scope _ _ _ _ _ _ _ c.in-Ok.ensures.tokens c.slice.ensures c.in-Ok-parse.ensures.program c.in-Ok-resolve.ensures.resolved refl refl

pub returns-in-Err : goal.returns-in-Err
returns-in-Err c =
    found_breach _ _ _ _ _ c.in-Ok.ensures.tokens c.slice.ensures c.slice-in-Err.ensures _ _ _ c.in-Ok-parse.ensures.program c.in-Err.ensures.refused
    c.scope_refusal.ensures
