-- A term and the plan that it is shipped as.
use Rattle.std.proofs.Common.{◌≡◌, List, [], Some, sym, subst, ◌∙◌}
use Rattle.kl_value.specs.declared.Kind.{Kind}
use Rattle.kl_value.specs.declared.Kind.TheVariants as kind
use Rattle.kl_value.specs.declared.Value.{Value}
use Rattle.kl_type.specs.Ground.{Ground, coll}
use Rattle.kl_outcome.specs.Outcome.{fine, flow, items_of}
use Rattle.kl_outcome.proofs.OutcomeTypes.{FlowOf}
use Rattle.kl_core.specs.Core.{Tables, core}
use Rattle.kl_core.specs.Trees.{Tree}
use Rattle.kl_core.specs.Typing.{CoreTypes}
use Rattle.kl_ask.specs.declared.settings.Settings.{Settings}
use Rattle.kl_plan.specs.declared.plan.Scan.{Scan}
use Rattle.kl_plan.specs.Alike.{Alike}
use Rattle.kl_plan.specs.Meaning.{Readings, plan, worth, coming}
use Rattle.kl_plan.specs.Nodes.{Node}
use Rattle.kl_plan.specs.Typing.{AnyMemo}
use Rattle.kl_plan.proofs.Likeness.{alike_on}
use Rattle.kl_joins.specs.Bare.{Bare}
use Rattle.kl_joins.specs.Numbered.{SameScan}
use Rattle.kl_joins.proofs.Finished.{finished_typed, finished_worth, finished_list, finished_coming}
use Rattle.kl_ship.specs.declared.needs.Need.TheVariants as need
use Rattle.kl_ship.specs.declared.source.ShipSource.{ShipSource}
use Rattle.kl_ship.specs.Contents.{AreSources, HoldAll, types_in}
use Rattle.kl_ship.specs.Sense.{AskOf, KeepsTypes, ScanOf}
use Rattle.kl_ship.specs.Whole.{ReadsWell, Ships}
use Rattle.kl_ship.proofs.Bare.{sent_bare}
use Rattle.kl_ship.proofs.Fitting.{rows_flow}
use Rattle.kl_ship.proofs.Law.{law, law_coming}
use Rattle.kl_ship.proofs.Sense.{sends_sense}

module _ (how : Settings) (ss : List ShipSource) (t : Tree) (p : Node) (w : Ships how ss t p) (fit : AreSources ss) where
  bare : Bare w.sent
  bare = sent_bare how.delegate ss w.sent need.Items t 0 w.sends.0 w.sends.1

  sent_types : KeepsTypes ss t w.sent
  sent_types = sends_sense ss how.delegate t w.sent fit w.sends

  same_scan : (c d : Scan) (u : Ground) → SameScan c d → ScanOf ss c u → ScanOf ss d u
  same_scan c d u s h = record {
    place = h.place;
    source = h.source;
    listed = h.listed;
    driver = sym s.driver ∙ h.driver;
    named = sym s.source ∙ h.named;
    ask = subst (λ k. AskOf ss h.source d.ask k u) s.kind (subst (λ a. AskOf ss h.source a c.kind u) s.ask h.ask);
  }

  pub shipped_sense : KeepsTypes ss t p
  shipped_sense s h = finished_typed (ScanOf ss) how.join how.cache w.sent p w.finishes bare same_scan AnyMemo s (sent_types s h)

  module _ (R : Readings) (T : Tables) (holds : HoldAll ss R T) (reads : ReadsWell ss R) where
    rows : (c : Scan) (u : Ground) → ScanOf ss c u → (rows : List Value) × (R c ≡ Some rows) × FlowOf u (flow rows fine)
    rows c u h = let r = reads.typed c u h in (r.0, r.1, rows_flow u r.0 r.2)

    pub shipped_worth : (s : Ground) → CoreTypes (types_in ss) [] t s → worth (plan R p []) ≡ core T t []
    shipped_worth s h =
        finished_worth (ScanOf ss) how.join how.cache w.sent p w.finishes bare AnyMemo R rows reads.alike s (sent_types s h)
        ∙ (law ss R T fit holds w.sent how.delegate need.Items t 0 w.sends.0 [] [] s tt h w.sends.1).0

    pub shipped_list : (s : Ground) → CoreTypes (types_in ss) [] t (coll kind.List s) → coming (plan R p []) ≡ items_of (core T t [])
    shipped_list s h =
        finished_list (ScanOf ss) how.join how.cache w.sent p w.finishes bare AnyMemo R rows reads.alike s (sent_types (coll kind.List s) h)
        ∙ law_coming ss R T fit holds how.delegate t w.sent kind.List s h w.sends

    pub shipped_items : (k : Kind) (s : Ground) → CoreTypes (types_in ss) [] t (coll k s) → Alike k (items_of (core T t [])) (coming (plan R p []))
    shipped_items k s h =
        alike_on k (items_of (core T t [])) (coming (plan R w.sent [])) (coming (plan R p [])) (law_coming ss R T fit holds how.delegate t w.sent k s h w.sends)
        (finished_coming (ScanOf ss) how.join how.cache w.sent p w.finishes bare AnyMemo R rows reads.alike k s (sent_types (coll k s) h))
