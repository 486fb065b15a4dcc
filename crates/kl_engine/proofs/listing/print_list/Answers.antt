use Rattle.std.proofs.Common.{refl, sym, ◌∙◌}
use Rattle.kl_engine.proofs.DrawLemmas.{none_prints, none_spared, none_wanted, some_wanted, unbegun_prints, unbegun_scanned, unbegun_spared}
use Rattle.kl_engine.proofs.listing.print_list.Goals as goal

pub returns-in-Err-clause-prints : goal.returns-in-Err-clause-prints
returns-in-Err-clause-prints g c = λ files ks ss marks t runs list. rw c.write_fault.ensures (unbegun_prints _ _ _ _ ks ss marks t files runs list c.in-Err.error _ _ c.in-Err.ensures)

pub returns-in-Err-clause-scanned : goal.returns-in-Err-clause-scanned
returns-in-Err-clause-scanned g c = unbegun_scanned _ _ _ _ (λ well every. cc)

pub returns-then-are_enough-clause-prints : goal.returns-then-are_enough-clause-prints
returns-then-are_enough-clause-prints g c =
    λ files ks ss marks t runs list. none_prints _ _ _ _ ks ss marks t files runs list _ _ _ _ _ (sym c.are_enough.ensures ∙ c.if-are_enough.true) c.in-Ok.ensures c.end.ensures.ends

pub returns-then-are_enough-clause-scanned : goal.returns-then-are_enough-clause-scanned
returns-then-are_enough-clause-scanned g c = unbegun_scanned _ _ _ _ (none_wanted _ (sym c.are_enough.ensures ∙ c.if-are_enough.true) _)

pub returns-clause-prints : goal.returns-clause-prints
returns-clause-prints g c = λ files ks ss marks t runs list. c.print_items.ensures.prints files ks ss marks t _ runs list c.in-Ok.ensures

pub returns-in-Err-clause-spares : goal.returns-in-Err-clause-spares
returns-in-Err-clause-spares g c = unbegun_spared _ _ _ _ _ _ c.requires (λ is. cc)

pub returns-then-are_enough-clause-spares : goal.returns-then-are_enough-clause-spares
returns-then-are_enough-clause-spares g c = none_spared _ _ _ _ _ _ c.requires (sym c.are_enough.ensures ∙ c.if-are_enough.true)

pub returns-clause-spares : goal.returns-clause-spares
returns-clause-spares g c = c.print_items.ensures.spares _ c.in-Ok.ensures

pub returns-in-Err-clause-none : goal.returns-in-Err-clause-none
returns-in-Err-clause-none g c = λ none. refl

pub returns-then-are_enough-clause-none : goal.returns-then-are_enough-clause-none
returns-then-are_enough-clause-none g c = λ none. refl

pub returns-clause-none : goal.returns-clause-none
returns-clause-none g c = λ none. absurd (some_wanted _ (sym c.are_enough.ensures ∙ c.if-are_enough.false) none)
