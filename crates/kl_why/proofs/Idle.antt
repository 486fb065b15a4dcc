-- Drivers at which nothing is attached.
use Rattle.std.proofs.Common.{◌≡◌, ℕ, zero, suc, List, [], ◌∷◌, ◌++◌, Some, None, slice_get, sym, subst}
use Rattle.kl_ask.specs.Driver.{State}
use Rattle.kl_outcome.specs.Outcome.{Name}
use Rattle.kl_sources.specs.Attaching.{HaveNone}

last_or_before : (ds : List State) (d e : State) (i : ℕ) → HaveNone ds → ((x : Name) → d.attached x ≡ None) → slice_get (ds ++ d ∷ []) i ≡ Some e → (x : Name) → e.attached x ≡ None
last_or_before [] d e zero clear fresh at x = let same : d ≡ e = cc in subst (λ s. s.attached x ≡ None) same (fresh x)
last_or_before [] d e (suc i) clear fresh at x = absurd (none at)
  where
    none : None ≡ Some e → ⊥
    none h = cc
last_or_before (b ∷ ds) d e zero clear fresh at x = clear 0 e at x
last_or_before (b ∷ ds) d e (suc i) clear fresh at x = last_or_before ds d e i (λ j s is. clear (suc j) s is) fresh at x

pub none_more : (ds : List State) (d : State) (more : List State) → more ≡ ds ++ d ∷ [] → HaveNone ds → ((x : Name) → d.attached x ≡ None) → HaveNone more
none_more ds d more is clear fresh = subst HaveNone (sym is) (λ i e at. last_or_before ds d e i clear fresh at)
