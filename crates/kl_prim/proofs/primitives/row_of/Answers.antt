use Rattle.std.proofs.Common.{◌∙◌, ap}
use Rattle.std.specs.Option.{option_map}
use Rattle.kl_prim.specs.Table.{entry_of}
use Rattle.kl_prim.proofs.TableLemmas.{found_at, takes_found}
use Rattle.kl_prim.proofs.primitives.row_of.Goals as goal

pub returns-clause-row : goal.returns-clause-row
returns-clause-row c = ap (option_map entry_of) c.at_code.ensures ∙ found_at c.args.code _ c.table.ensures

pub returns-clause-takes : goal.returns-clause-takes
returns-clause-takes c = takes_found c.args.code c.at_code.result (ap (option_map entry_of) c.at_code.ensures ∙ found_at c.args.code _ c.table.ensures)
