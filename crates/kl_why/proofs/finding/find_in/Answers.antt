use Rattle.std.proofs.Common.{◌∙◌, ap}
use Rattle.kl_sources.specs.Sources.{names_of, types_of}
use Rattle.kl_why.proofs.Attached.{attached_as, proper_types, untyped_there}
use Rattle.kl_why.proofs.finding.find_in.Goals as goal

pub read_program-requires-clause-proper : goal.read_program-requires-clause-proper
read_program-requires-clause-proper g c = rw (c.deref-4.ensures.value, c.in_ok-types.ensures, c.deref-2.ensures.value) (proper_types _ _ c.requires.placed)

pub why_untyped-requires-clause-proper : goal.why_untyped-requires-clause-proper
why_untyped-requires-clause-proper g c =
    rw (c.deref-in-Err-Wrong-NoTyping-default-2.ensures.value, c.in_ok-types.ensures, c.deref-2.ensures.value) (proper_types _ _ c.requires.placed)

pub returns-in-Ok : goal.returns-in-Ok
returns-in-Ok g c =
    attached_as _ _ _ _ _ _ _ _ c.attach.result _ (c.deref-3.ensures.value ∙ c.in_ok-names.ensures ∙ ap names_of c.deref.ensures.value)
    (c.deref-4.ensures.value ∙ c.in_ok-types.ensures ∙ ap types_of c.deref-2.ensures.value) (rw c.slice.ensures at c.in-Ok.ensures) c.attach.ensures

pub returns-in-Err-Wrong-NoTyping-default : goal.returns-in-Err-Wrong-NoTyping-default
returns-in-Err-Wrong-NoTyping-default g c =
    let names = c.in_ok-names.ensures ∙ ap names_of c.deref.ensures.value in
    let types = c.in_ok-types.ensures ∙ ap types_of c.deref-2.ensures.value in
    untyped_there _ _ _ _ _ _ _ _ _ _ _ _ (c.deref-3.ensures.value ∙ names) (c.deref-in-Err-Wrong-NoTyping-default.ensures.value ∙ names)
    (c.deref-4.ensures.value ∙ types) (c.deref-in-Err-Wrong-NoTyping-default-2.ensures.value ∙ types)
    (rw (c.in-Err-Wrong-NoTyping-default.field-0-is, c.in-Err-Wrong-NoTyping-default.field-0-0-is, c.slice.ensures) at c.in-Err-Wrong-NoTyping-default.ensures) c.in_ok-why_untyped-in-Err-Wrong-NoTyping-default.ensures
