use Rattle.std.proofs.Common.{[], length, map, ap, ◌∙◌, arith}
use Rattle.kl_lex.specs.Blank.{Gap, none}
use Rattle.kl_lex.specs.Placing.{Comes, token_of}
use Rattle.kl_lex.specs.declared.lexer.Next.TheVariants as next
use Rattle.kl_lex.proofs.Placings.{map_more, one_list, ends, ends_only, ends_rising, stops, stops_only, goes_on, same_total, shorter}
use Rattle.kl_lex.proofs.lexer.lex_all.Goals as goal
use Rattle.kl_lex.proofs.lexer.lex_all.Goals.{In-End, In-Bad, In-Token}

over : (c : In-End) → Gap c.tokens.lexer.rest.now []
over c = rw c.in-End.is at c.in_ok-next.ensures

failed : (c : In-Bad) → Comes c.tokens.lexer.total c.tokens.lexer.rest.now (next.Bad c.in-Bad.byte)
failed c = rw c.in-Bad.is at c.in_ok-next.ensures

came : (c : In-Token) → Comes c.tokens.lexer.total c.tokens.lexer.rest.now (next.Token c.in-Token.token c.in-Token.after)
came c = rw c.in-Token.is at c.in_ok-next.ensures

pub tokens-init : goal.tokens-init
tokens-init c = record { total = c.new-lexer.ensures.total; within = let e = ap length c.new-lexer.ensures.rest in omega arith; so_far = rw (c.new-tokens.ensures.items, c.new-lexer.ensures.rest) none }

pub next-requires : goal.next-requires
next-requires c = omega (arith, c.tokens.invariant.within, c.tokens.invariant.total)

pub tokens-smaller : goal.tokens-smaller
tokens-smaller c = shorter c.tokens.lexer.total c.tokens.lexer.rest.now c.in-Token.token c.in-Token.after (came (goal.at.tokens-smaller c).In-Token)

pub tokens-preserved : goal.tokens-preserved
tokens-preserved c =
    let here = came (goal.at.tokens-preserved c).In-Token in
    let less = shorter c.tokens.lexer.total c.tokens.lexer.rest.now c.in-Token.token c.in-Token.after here in
    record {
      total = same_total c.tokens.lexer.total c.tokens.lexer.rest.now c.in-Token.token c.in-Token.after here ∙ c.tokens.invariant.total;
      within = omega (arith, c.tokens.invariant.within);
      so_far = rw (c.in_ok-push-in-Token.ensures.items, map_more c.tokens.tokens.items c.in-Token.token) (goes_on c.args.bytes.now (map token_of c.tokens.tokens.items) c.tokens.lexer.total c.tokens.invariant.total c.tokens.lexer.rest.now c.tokens.invariant.so_far c.in-Token.token c.in-Token.after here);
    }

pub returns-in-End-clause-tokens : goal.returns-in-End-clause-tokens
returns-in-End-clause-tokens c =
    rw c.of.ensures (ends c.args.bytes.now (map token_of c.tokens.tokens.items) c.tokens.lexer.total c.tokens.invariant.total c.tokens.lexer.rest.now c.tokens.invariant.so_far (over (goal.at.returns-in-End-clause-tokens c).In-End), ends_rising c.args.bytes.now (map token_of c.tokens.tokens.items) c.tokens.lexer.total c.tokens.invariant.total c.tokens.lexer.rest.now c.tokens.invariant.so_far (over (goal.at.returns-in-End-clause-tokens c).In-End))

pub returns-in-End-clause-only : goal.returns-in-End-clause-only
returns-in-End-clause-only c us h =
    rw c.of.ensures (one_list c.tokens.tokens.items us (ends_only c.args.bytes.now (map token_of c.tokens.tokens.items) c.tokens.lexer.total c.tokens.invariant.total c.tokens.lexer.rest.now c.tokens.invariant.so_far (map token_of us) (over (goal.at.returns-in-End-clause-only c).In-End) h))

pub returns-in-Bad-clause-tokens : goal.returns-in-Bad-clause-tokens
returns-in-Bad-clause-tokens c =
    stops c.args.bytes.now (map token_of c.tokens.tokens.items) c.tokens.lexer.total c.tokens.invariant.total c.tokens.lexer.rest.now c.tokens.invariant.so_far c.in-Bad.byte (failed (goal.at.returns-in-Bad-clause-tokens c).In-Bad)

pub returns-in-Bad-clause-only : goal.returns-in-Bad-clause-only
returns-in-Bad-clause-only c us h =
    stops_only c.args.bytes.now (map token_of c.tokens.tokens.items) c.tokens.lexer.total c.tokens.invariant.total c.tokens.lexer.rest.now c.tokens.invariant.so_far c.in-Bad.byte (map token_of us) (failed (goal.at.returns-in-Bad-clause-only c).In-Bad) h
