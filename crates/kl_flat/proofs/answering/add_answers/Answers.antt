use Rattle.std.proofs.Common.{◌≡◌, [], length, sym, ap, ◌∙◌, inr, arith, subst, append-nil}
use Rattle.kl_flat.specs.Asked.{keep_of, tests_of}
use Rattle.kl_flat.specs.ColumnTable.{rows_of}
use Rattle.kl_flat.specs.RowTests.{NonePasses}
use Rattle.kl_flat.proofs.Tables.{none_answers}
use Rattle.kl_flat.proofs.answering.add_answers.Goals as goal

pub returns-in-None-clause-added : goal.returns-in-None-clause-added
returns-in-None-clause-added c =
    let o = c.args.cursor.now in
    let none = rw c.in-None.is at c.in_ok-tests.ensures in
    let fail = subst (λ t. NonePasses t (tests_of o.ask)) c.get-table.ensures (subst (NonePasses c.get-table.result.now) c.tests_of.ensures none) in
    let empty = none_answers (keep_of o.ask) (tests_of o.ask) (rows_of o.table) fail in
    let size : c.len.result ≡ length (rows_of o.table) = c.len.ensures ∙ ap (λ t. length (rows_of t)) c.get-table.ensures in
    record {
      taken = [];
      grown = sym (append-nil c.args.into.now.items);
      takes = record {
        split = empty o.at ∙ sym (empty c.len.result);
        most = omega arith;
        all = inr size;
        within = omega (arith, size);
      };
    }
