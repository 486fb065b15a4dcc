use Rattle.std.proofs.Common.{refl, sym, ◌∙◌}
use Rattle.kl_scans.proofs.Repeats.{driver_within, is_listed, repeats, states_it}
use Rattle.kl_scans.proofs.unrepeated.repeats_none.Goals as goal

pub abilities_at-requires : goal.abilities_at-requires
abilities_at-requires g c = driver_within _ _ _ c.deref.ensures.value _ _ c.requires.scan refl

pub returns-then-abilities_at-clause-yes : goal.returns-then-abilities_at-clause-yes
returns-then-abilities_at-clause-yes g c e = repeats _ _ _ c.deref.ensures.value _ _ c.requires.scan refl c.requires.ready.session _ c.abilities_at.ensures c.if-abilities_at.true _ c.slice.ensures (c.lists_whole_set.ensures.yes e)

pub returns-then-abilities_at-clause-no : goal.returns-then-abilities_at-clause-no
returns-then-abilities_at-clause-no g c h = c.lists_whole_set.ensures.no (is_listed _ _ _ c.deref.ensures.value _ _ c.requires.scan refl h c.requires.ready.session _ c.slice.ensures)

pub returns-else-abilities_at-clause-no : goal.returns-else-abilities_at-clause-no
returns-else-abilities_at-clause-no g c h = let never = sym (states_it _ _ _ c.deref.ensures.value _ _ c.requires.scan refl h _ c.abilities_at.ensures) ∙ c.if-abilities_at.false in absurd cc
