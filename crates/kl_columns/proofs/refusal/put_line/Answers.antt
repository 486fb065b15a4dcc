use Rattle.std.proofs.Common.{◌∙◌, ◌++◌, Result, Ok, Err, OnOk, ap, append_assoc, codes, decimal, sym}
use Rattle.kl_columns.specs.Refusals.{refusal_line}
use Rattle.kl_columns.proofs.refusal.put_line.Goals as goal

on_ok : {T E P Q : Type 0} (r : Result T E) → (P → Q) → OnOk r P → OnOk r Q
on_ok (Ok x) f p = f p
on_ok (Err e) f p = tt

pub returns-in-BadCatalogue : goal.returns-in-BadCatalogue
returns-in-BadCatalogue c =
    let page = c.args.page.now in
    let front = codes "catalogue: syntax at byte " in
    on_ok c.put_numbered.result (λ e. e ∙ ap (λ x. x ++ codes "\n") (append_assoc page.items front (decimal c.in-BadCatalogue.byte))
    ∙ append_assoc page.items (front ++ decimal c.in-BadCatalogue.byte) (codes "\n") ∙ ap (λ r. page.items ++ refusal_line r) (sym c.in-BadCatalogue.is)) c.put_numbered.ensures
