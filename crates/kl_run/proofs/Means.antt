-- A plan makes sense and means what a term means that was rewritten into the one from which it is made.
use Rattle.std.proofs.Common.{◌≡◌, ℕ, zero, suc, List, [], ◌∷◌, map, slice_get, refl, ap, ◌∙◌, subst}
use Rattle.std.proofs.Math.Path.{fun_ext}
use Rattle.kl_value.specs.declared.Kind.TheVariants as kind
use Rattle.kl_type.specs.Ground.{Ground, coll}
use Rattle.kl_outcome.specs.Outcome.{items_of}
use Rattle.kl_core.specs.Trees.{Tree}
use Rattle.kl_core.specs.Typing.{SourceTypes, CoreTypes}
use Rattle.kl_rules.specs.Preserving.{Preserves}
use Rattle.kl_ask.specs.Driver.{DriverKind}
use Rattle.kl_ask.specs.declared.settings.Settings.{Settings}
use Rattle.kl_ship.specs.Contents.{types_in, AreSources, MakesSense}
use Rattle.kl_plan.specs.Nodes.{Node}
use Rattle.kl_ship.specs.declared.source.ShipSource.{ShipSource}
use Rattle.kl_ship.proofs.Law.{told}
use Rattle.kl_ship.proofs.Whole.{shipped_worth, shipped_list}
use Rattle.kl_sources.specs.Sources.{grounds_of}
use Rattle.kl_sources.specs.declared.source.Source.{Source}
use Rattle.kl_run.specs.Planned.{IsPlanOf, MeansTerm, ships_of}

pub means_term : {how : Settings} (ss : List ShipSource) (t u : Tree) (p : Node) → AreSources ss → IsPlanOf how ss u p → Preserves t u → MeansTerm ss t p
means_term ss t u p fit of keeps = record {
  value = λ R T s holds reads c.
      shipped_worth _ ss u p of.ships fit R T holds reads s (keeps.typed (types_in ss) [] s c)
      ∙ keeps.means (types_in ss) T [] [] s (told ss R T fit holds) tt c;
  list = λ R T s holds reads c.
      shipped_list _ ss u p of.ships fit R T holds reads s (keeps.typed (types_in ss) [] (coll kind.List s) c)
      ∙ ap items_of (keeps.means (types_in ss) T [] [] (coll kind.List s) (told ss R T fit holds) tt c);
}

-- the types of sources, and of those for which plans are made
pub same_types : (ks : List DriverKind) (ss : List Source) (i : ℕ) → slice_get (map (λ p. p.1) (grounds_of ss)) i ≡ types_in (ships_of ks ss) i
same_types ks [] i = refl
same_types ks (s ∷ ss) zero = refl
same_types ks (s ∷ ss) (suc i) = same_types ks ss i

-- what a term that makes sense over the sources was rewritten into makes sense where plans are made for them
pub plan_sense : (ks : List DriverKind) (ss : List Source) (S : SourceTypes) (t u : Tree) → ((i : ℕ) → S i ≡ slice_get (map (λ p. p.1) (grounds_of ss)) i) → Preserves t u
    → (s : Ground) × CoreTypes S [] t s → MakesSense (ships_of ks ss) u
plan_sense ks ss S t u types keeps h = (h.0, keeps.typed (types_in (ships_of ks ss)) [] h.0 (subst (λ T. CoreTypes T [] t h.0) (fun_ext (λ i. types i ∙ same_types ks ss i)) h.1))
