-- Attached sources by their names, as drivers keep them.
use Rattle.std.specs.Prelude.{ℕ, List, nat_eq, Option, None}
use Rattle.std.specs.Cmp.Lexicographic.{pointwise}
use Rattle.std.specs.HashMap.{get, HashMap}
use Rattle.std.specs.declared.hash.BuildHasherDefault.{BuildHasherDefault}
use Rattle.std.specs.declared.hash.FoldHasher.{FoldHasher}
use Rattle.kl_outcome.specs.Outcome.{Name}
use Rattle.kl_ask.specs.declared.ask.Ask.{Ask}
use Rattle.kl_ask.specs.declared.ask.Ask.TheVariants as asks

abbrev pub NamedSources : Type 0 → Type 0
NamedSources S = HashMap (List ℕ) S (BuildHasherDefault FoldHasher)

abbrev pub source_named : {S : Type 0} → NamedSources S → Name → Option S
source_named sources name = get (pointwise nat_eq) sources name

-- the attached source that an ask names
abbrev pub asked_source : {S : Type 0} → NamedSources S → Ask → Option S
asked_source sources (asks.Rows source keep tests) = source_named sources source
asked_source sources (asks.Sql text) = None
