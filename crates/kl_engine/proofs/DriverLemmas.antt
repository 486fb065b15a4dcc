-- Drivers that stay as they were.
use Rattle.std.proofs.Common.{◌≡◌, ℕ, List, [], ◌∷◌, ◌++◌, Some, refl, sym, subst, ◌∙◌, slice_get, arith}
use Rattle.std.specs.List.{All}
use Rattle.std.proofs.lemmas.List.Elements.{All-push}
use Rattle.kl_outcome.specs.Outcome.{Name}
use Rattle.kl_ask.specs.Driver.{State, KeepsState}
use Rattle.kl_engine.specs.Answering.{AddsDriver, IsIdle, KeepsDriver, KeepsDrivers}

keeps_itself : (d : State) → KeepsState d d
keeps_itself d = record { kind = refl; handed = omega arith; faults = omega arith; drifts = omega arith; no_drift = λ is. refl; unread = omega arith }

same_at : (ds : List State) (i : ℕ) (a b : State) → slice_get ds i ≡ Some a → slice_get ds i ≡ Some b → a ≡ b
same_at ds i a b this that = let both : Some a ≡ Some b = sym this ∙ that in cc

pub keeps_same : (Named : Name → Type 0) (ds : List State) → KeepsDrivers Named ds ds
keeps_same Named ds = record {
  size = refl;
  each = λ i a b this that. subst (KeepsDriver Named a) (same_at ds i a b this that) (record { keeps = keeps_itself a; cursors = refl; attached = λ name none. refl });
}

pub keeps_wider : (Named Wider : Name → Type 0) (old new : List State) → ((name : Name) → Named name → Wider name) → KeepsDrivers Named old new → KeepsDrivers Wider old new
keeps_wider Named Wider old new wider keeps = record {
  size = keeps.size;
  each = λ i a b this that. let kept = keeps.each i a b this that in record {
    keeps = kept.keeps;
    cursors = kept.cursors;
    attached = λ name none. kept.attached name (λ named. none (wider name named));
  };
}

-- one more that is idle behind others that are
pub adds_driver : (d : State) (ds es : List State) → es ≡ ds ++ d ∷ [] → All IsIdle ds → IsIdle d → AddsDriver d ds es
adds_driver d ds es is all idle = record { added = is; idle = subst (All IsIdle) (sym is) (All-push IsIdle ds d all idle) }
