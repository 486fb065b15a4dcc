use Rattle.std.proofs.Common.{rules}
use Rattle.kl_flat.proofs.driver.open_cursor.Goals as goal

pub returns-clause-opened : goal.returns-clause-opened
returns-clause-opened c = record {
  source = c.in-Some.source.now;
  found = search rules;
  made = c.in_ok-open.open;
  grown = c.in_ok-push.ensures.items;
  ask_is = c.in_ok-open.ensures.ask;
  ty = c.in_ok-open.ensures.ty;
  table = c.in_ok-open.ensures.table;
  start = c.in_ok-open.ensures.start;
}
