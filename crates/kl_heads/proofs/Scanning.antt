-- One byte of a scan.
use Rattle.std.proofs.Common.{◌≡◌, ℕ, ◌+◌, ◌<◌, List, ◌∷◌, length, drop, get_or, sym, ap, ◌∙◌, Result, Ok, Err}
use Rattle.kl_type.specs.declared.ground.Ty.{Ty}
use Rattle.kl_exchange.proofs.Scanning.{byte_at}
use Rattle.kl_heads.specs.Machine.{advanced, run, ends, no_head, fails, deep, followed}
use Rattle.kl_heads.specs.Machine.{Step}
use Rattle.kl_heads.specs.declared.machine.Machine.{Machine}
use Rattle.kl_heads.specs.declared.machine.Stop.{Stop}
use Rattle.kl_heads.specs.declared.machine.Stop.TheVariants as stop

-- A scan that has come from M to m at a place.
module _ (M m : Machine) (bytes : List ℕ) (i : ℕ) (within : i < length bytes) (met : run 256 (drop i bytes) m ≡ run 256 bytes M) where
  step : (o : Result Step Stop) → advanced 256 m.stack m.phase (get_or bytes i 0) ≡ o
      → run 256 bytes M ≡ followed o (get_or bytes i 0) (drop (i + 1) bytes) (λ n. run 256 (drop (i + 1) bytes) n)
  step o e =
      sym met ∙ (ap (λ bs. run 256 bs m) (byte_at bytes i within)
      ∙ ap (λ p. followed p (get_or bytes i 0) (drop (i + 1) bytes) (λ n. run 256 (drop (i + 1) bytes) n)) e)

  pub met_next : (n : Machine) → advanced 256 m.stack m.phase (get_or bytes i 0) ≡ Ok (Step.Goes n) → run 256 (drop (i + 1) bytes) n ≡ run 256 bytes M
  met_next n e = sym (step (Ok (Step.Goes n)) e)

  pub met_end : (t : Ty) → advanced 256 m.stack m.phase (get_or bytes i 0) ≡ Ok (Step.Ends t) → run 256 bytes M ≡ ends t (drop (i + 1) bytes)
  met_end t e = step (Ok (Step.Ends t)) e

  pub met_none : advanced 256 m.stack m.phase (get_or bytes i 0) ≡ Err stop.NoHead → run 256 bytes M ≡ no_head
  met_none e = step (Err stop.NoHead) e

  pub met_bad : advanced 256 m.stack m.phase (get_or bytes i 0) ≡ Err stop.Bad → run 256 bytes M ≡ fails (drop i bytes)
  met_bad e = step (Err stop.Bad) e ∙ ap fails (sym (byte_at bytes i within))

  pub met_deep : advanced 256 m.stack m.phase (get_or bytes i 0) ≡ Err stop.TooDeep → run 256 bytes M ≡ deep (drop i bytes)
  met_deep e = step (Err stop.TooDeep) e ∙ ap deep (sym (byte_at bytes i within))
