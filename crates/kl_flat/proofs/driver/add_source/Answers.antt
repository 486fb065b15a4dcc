use Rattle.std.proofs.Common.{ap}
use Rattle.kl_flat.specs.ColumnTable.{rows_of}
use Rattle.kl_flat.proofs.driver.add_source.Goals as goal

pub returns-clause-added : goal.returns-clause-added
returns-clause-added c = record {
  made = c.in_ok-made.made;
  added = c.in_ok-put_source.ensures.added;
  of = c.in_ok-made.ensures.ty;
  with = ap rows_of c.in_ok-made.ensures.table;
  size = c.len-count.ensures;
}
