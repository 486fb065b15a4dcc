use Rattle.std.proofs.Common.{sym}
use Rattle.kl_flat.proofs.Tables.{rows_length}
use Rattle.kl_flat.proofs.column_table.ColumnTable.len.Goals as goal

pub returns : goal.returns
returns c = sym (rows_length c.args.self.now)
