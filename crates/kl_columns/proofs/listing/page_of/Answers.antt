use Rattle.std.proofs.Common.{◌≡◌, ◌∙◌, ℕ, subst, sym}
use Rattle.kl_catalogue.specs.Reading.{IsCatalogue}
use Rattle.kl_catalogue.specs.declared.reading.CatalogueError.TheVariants.{Bad, NoMemory, TooDeep}
use Rattle.kl_columns.proofs.Equal.{other_entries, same_entries}
use Rattle.kl_columns.proofs.listing.page_of.Goals as goal

bad_wants : {byte : ℕ} → Bad byte ≡ NoMemory → ⊥
bad_wants h = cc

deep_wants : {byte : ℕ} → TooDeep byte ≡ NoMemory → ⊥
deep_wants h = cc

pub returns-then-eq-clause-reads : goal.returns-then-eq-clause-reads
returns-then-eq-clause-reads c =
    let page = c.in_ok-page.page in
    let read = subst (λ bytes. IsCatalogue bytes c.in-Ok.read) c.slice.ensures c.in-Ok.ensures.reads in
    subst (IsCatalogue page) (same_entries c.in-Ok.read c.args.entries.now (sym c.eq.ensures ∙ c.if-eq.true)) read

pub returns-in-Ok-clause-why : goal.returns-in-Ok-clause-why
returns-in-Ok-clause-why c is =
    let here = subst (λ bytes. IsCatalogue bytes c.args.entries.now) (sym (c.slice.ensures ∙ c.in_ok-page.ensures)) is in
    other_entries c.in-Ok.read c.args.entries.now (sym c.eq.ensures ∙ c.if-eq.false) (c.in-Ok.ensures.only c.args.entries.now here)

pub returns-in-Err-Bad-clause-why : goal.returns-in-Err-Bad-clause-why
returns-in-Err-Bad-clause-why c is =
    let here = subst (λ bytes. IsCatalogue bytes c.args.entries.now) (sym (c.slice.ensures ∙ c.in_ok-page.ensures)) is in
    bad_wants (sym c.in-Err-Bad.field-0-is ∙ c.in-Err-Bad.ensures.only c.args.entries.now here)

pub returns-in-Err-TooDeep-clause-why : goal.returns-in-Err-TooDeep-clause-why
returns-in-Err-TooDeep-clause-why c is =
    let here = subst (λ bytes. IsCatalogue bytes c.args.entries.now) (sym (c.slice.ensures ∙ c.in_ok-page.ensures)) is in
    deep_wants (sym c.in-Err-TooDeep.field-0-is ∙ c.in-Err-TooDeep.ensures.only c.args.entries.now here)
