-- A finished plan comes to what the plan of scans comes to, and makes sense at its types.
use Rattle.std.proofs.Common.{◌≡◌, ℕ, zero, suc, List, [], Some, refl, sym, ap, subst, ◌∙◌}
use Rattle.kl_value.specs.declared.Kind.{Kind}
use Rattle.kl_value.specs.declared.Kind.TheVariants as kind
use Rattle.kl_value.specs.declared.Value.{Value}
use Rattle.kl_type.specs.Ground.{Ground, coll}
use Rattle.kl_outcome.specs.Outcome.{fine, flow}
use Rattle.kl_outcome.proofs.OutcomeTypes.{FlowOf}
use Rattle.kl_ask.specs.declared.settings.JoinHow.{JoinHow}
use Rattle.kl_plan.specs.declared.plan.Scan.{Scan}
use Rattle.kl_plan.specs.Alike.{Alike}
use Rattle.kl_plan.specs.Meaning.{Readings, plan, worth, coming}
use Rattle.kl_plan.specs.Nodes.{Node}
use Rattle.kl_plan.specs.Typing.{AnyMemo, PlanTypes}
use Rattle.kl_plan.proofs.ListedTypes.{types_of_any}
use Rattle.kl_plan.proofs.Likeness.{alike_itself}
use Rattle.kl_joins.specs.declared.keeping.Place.TheVariants as place
use Rattle.kl_joins.specs.Finished.{AreKept, Finishes}
use Rattle.kl_joins.specs.Numbered.{SameScan}
use Rattle.kl_joins.proofs.JoinsMean.{joins_mean}
use Rattle.kl_joins.proofs.JoinsTyped.{joins_typed}
use Rattle.kl_joins.specs.Bare.{Bare}
use Rattle.kl_joins.proofs.MemosLike.{memos_worth, memos_coming, memos_list}
use Rattle.kl_joins.proofs.MemosTyped.{memos_typed}
use Rattle.kl_joins.proofs.NoMemos.{NoMemo, bare_typed}
use Rattle.kl_joins.proofs.SameMeaning.{same_means}
use Rattle.kl_joins.proofs.SameTypes.{same_typed}

module _ (Of : Scan → Ground → Type 0) (how : JoinHow) (cache : ℕ) (sent p : Node) (w : Finishes how cache sent p) (bare : Bare sent) where
  -- the plan with its joins has no memo yet
  joined_typed : (L : ℕ → List ℕ → Node → Type 0) (s : Ground) → PlanTypes Of L [] sent s → PlanTypes Of NoMemo [] w.joined s
  joined_typed L s h = joins_typed Of NoMemo how w.joined sent [] s w.joins bare (bare_typed Of L sent [] s bare.1 h)

  kept_typed : (n : ℕ) (q r : Node) (s : Ground) → AreKept n q r → PlanTypes Of NoMemo [] q s → PlanTypes Of AnyMemo [] r s
  kept_typed zero q r s k h = subst (λ z. PlanTypes Of AnyMemo [] z s) (sym k) (types_of_any Of NoMemo q [] s h)
  kept_typed (suc n) q r s k h = memos_typed Of r place.Outside 0 q [] s refl h k

  pub finished_typed : ((c d : Scan) (u : Ground) → SameScan c d → Of c u → Of d u) → (L : ℕ → List ℕ → Node → Type 0) (s : Ground)
      → PlanTypes Of L [] sent s → PlanTypes Of AnyMemo [] p s
  finished_typed types L s h = same_typed Of types w.kept p [] s w.same (kept_typed cache w.joined w.kept s w.memos (joined_typed L s h))

  module _ (L : ℕ → List ℕ → Node → Type 0) (R : Readings)
      (reads : (c : Scan) (u : Ground) → Of c u → (rows : List Value) × (R c ≡ Some rows) × FlowOf u (flow rows fine))
      (alike : (c d : Scan) → SameScan c d → R c ≡ R d) where
    joined_is : (s : Ground) → PlanTypes Of L [] sent s → plan R w.joined [] ≡ plan R sent []
    joined_is s h = joins_mean Of L R reads how w.joined sent [] [] s tt w.joins bare h

    kept_worth : (n : ℕ) (q r : Node) (s : Ground) → AreKept n q r → PlanTypes Of NoMemo [] q s → worth (plan R r []) ≡ worth (plan R q [])
    kept_worth zero q r s k h = ap (λ z. worth (plan R z [])) k
    kept_worth (suc n) q r s k h = memos_worth Of NoMemo R reads r place.Outside 0 q [] [] s tt h k

    kept_list : (n : ℕ) (q r : Node) (u : Ground) → AreKept n q r → PlanTypes Of NoMemo [] q (coll kind.List u)
        → coming (plan R r []) ≡ coming (plan R q [])
    kept_list zero q r u k h = ap (λ z. coming (plan R z [])) k
    kept_list (suc n) q r u k h = memos_list Of NoMemo R reads r place.Outside 0 q [] [] u tt h k

    kept_coming : (n : ℕ) (q r : Node) (k : Kind) (u : Ground) → AreKept n q r → PlanTypes Of NoMemo [] q (coll k u)
        → Alike k (coming (plan R q [])) (coming (plan R r []))
    kept_coming zero q r k u e h =
        subst (λ z. Alike k (coming (plan R q [])) (coming (plan R z []))) (sym e) (alike_itself k (coming (plan R q [])))
    kept_coming (suc n) q r k u e h = memos_coming Of NoMemo R reads r place.Outside 0 q [] [] k u tt h e

    pub finished_worth : (s : Ground) → PlanTypes Of L [] sent s → worth (plan R p []) ≡ worth (plan R sent [])
    finished_worth s h =
        ap worth (same_means R alike w.kept p w.same [])
        ∙ kept_worth cache w.joined w.kept s w.memos (joined_typed L s h)
        ∙ ap worth (joined_is s h)

    pub finished_list : (u : Ground) → PlanTypes Of L [] sent (coll kind.List u) → coming (plan R p []) ≡ coming (plan R sent [])
    finished_list u h =
        ap coming (same_means R alike w.kept p w.same [])
        ∙ kept_list cache w.joined w.kept u w.memos (joined_typed L (coll kind.List u) h)
        ∙ ap coming (joined_is (coll kind.List u) h)

    pub finished_coming : (k : Kind) (u : Ground) → PlanTypes Of L [] sent (coll k u)
        → Alike k (coming (plan R sent [])) (coming (plan R p []))
    finished_coming k u h =
        subst (λ c. Alike k (coming c) (coming (plan R p []))) (joined_is (coll k u) h)
        (subst (λ c. Alike k (coming (plan R w.joined [])) (coming c)) (sym (same_means R alike w.kept p w.same []))
        (kept_coming cache w.joined w.kept k u w.memos (joined_typed L (coll k u) h)))
