use Rattle.std.proofs.Common.{◌≡◌, true, length, sym, ap, ◌∙◌, subst}
use Rattle.kl_flat.specs.ColumnTable.{rows_of}
use Rattle.kl_flat.specs.Fitting.{are_rows}
use Rattle.kl_sqlserve.proofs.Distinct.{kept_fit}
use Rattle.kl_sqlserve.proofs.attaching.add_source.Goals as goal

pub new_source-requires-clause-typed : goal.new_source-requires-clause-typed
new_source-requires-clause-typed c = subst (λ rows. are_rows c.args.ty.now rows ≡ true) (sym c.in_ok-table.ensures) (kept_fit c.args.ty.now (rows_of c.args.table) c.requires)

pub returns-clause-added : goal.returns-clause-added
returns-clause-added c = record {
  made = c.in_ok-made.made;
  added = c.in_ok-put_source.ensures.added;
  of = c.in_ok-made.ensures.ty;
  with = ap rows_of c.in_ok-made.ensures.table ∙ c.in_ok-table.ensures;
  size = c.len-count.ensures ∙ ap (λ t. length (rows_of t)) (sym c.in_ok-made.ensures.table);
}
