use Rattle.std.proofs.Common.{◌∙◌, ◌∷◌, map, sym, ap, arith}
use Rattle.std.proofs.lemmas.List.{take_rest}
use Rattle.csv.specs.Records.{Row, fields_of}
use Rattle.kl_base.proofs.Places.{drop_at}
use Rattle.kl_tidy.proofs.Copied.{found_all}
use Rattle.kl_tidy.proofs.table.tidied.Goals as goal

pub returns : goal.returns
returns c =
    found_all c.found_under.result c.args.command.now c.args.bytes.now _ _ (map fields_of c.in_ok-records.records.items) c.found_under.new.notes.items c.in_ok-records.ensures
    (ap (map fields_of) (sym c.as_slice.ensures.value ∙ drop_at c.as_slice.result.now 0 c.header-item.result (omega (arith, c.in-len1-up.len_at_least)) c.header-item.is
    ∙ ap (λ rows. c.header-item.result ∷ rows) (sym (take_rest c.as_slice.result.now 1)))) c.found_under.ensures
