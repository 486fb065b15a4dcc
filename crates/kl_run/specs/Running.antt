-- A run of a plan of a term over a session.
use Rattle.std.specs.Prelude.{◌≡◌, ℕ, Bool, List, []}
use Rattle.kl_value.specs.declared.Kind.TheVariants as kind
use Rattle.kl_type.specs.Ground.{Ground, coll}
use Rattle.kl_outcome.specs.Outcome.{items_of}
use Rattle.kl_core.specs.Core.{core}
use Rattle.kl_core.specs.Trees.{Tree}
use Rattle.kl_core.specs.Typing.{CoreTypes, HaveSources}
use Rattle.kl_ask.specs.Driver.{DriverKind}
use Rattle.kl_ask.specs.World.{World, types_of, values_of}
use Rattle.kl_plan.specs.Meaning.{plan, worth, coming}
use Rattle.kl_plan.specs.Nodes.{Node}
use Rattle.kl_plan.specs.Parts.{memos_of}
use Rattle.kl_sources.specs.declared.source.Source.{Source}
use Rattle.kl_scans.specs.Right.{IsReadyRun}
use Rattle.kl_scans.specs.Running.{Running, session}
use Rattle.kl_cursor.specs.Left.{reading}
use Rattle.kl_cursor.specs.Sense.{TypesAt, IsToldAt}
use Rattle.kl_run.specs.Counted.{ReadsMarked}

-- a run of a plan in which nothing was done yet: nothing is kept of its subqueries, and there is as much room as the settings say
abbrev pub fresh_run : Node → World → Running
fresh_run p w = record {
  drivers = w.drivers;
  sources = w.sources;
  settings = w.settings;
  trace = w.trace;
  memos = memos_of p;
  kept = [];
  room = w.settings.cache;
}

-- The plan makes sense there at each type of the term, and where the sources that the session lists are told, it means what the
-- term means over their values.
pub record Runs (ks : List DriverKind) (ss : List Source) (marks : ℕ → Bool) (t : Tree) (p : Node) (w : Running) : Type 0 where
  pub ready : IsReadyRun w
  pub sense : (s : Ground) × CoreTypes (types_of (session w)) [] t s
  pub typed : (s : Ground) → CoreTypes (types_of (session w)) [] t s → TypesAt w [] p s
  pub told : HaveSources (types_of (session w)) (values_of (session w)) → IsToldAt w
  pub value : HaveSources (types_of (session w)) (values_of (session w)) → (s : Ground) → CoreTypes (types_of (session w)) [] t s
      → worth (plan (reading w) p []) ≡ core (values_of (session w)) t []
  pub list : HaveSources (types_of (session w)) (values_of (session w)) → (s : Ground)
      → CoreTypes (types_of (session w)) [] t (coll kind.List s)
      → coming (plan (reading w) p []) ≡ items_of (core (values_of (session w)) t [])
  pub reads : ReadsMarked ks ss marks (reading w)
