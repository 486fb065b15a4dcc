-- What events come to at a driver: what it was asked.
use Rattle.std.proofs.Common.{◌≡◌, ℕ, List, Some, slice_get, sym, ap, ◌∙◌}
use Rattle.std.specs.Option.{option_map}
use Rattle.std.proofs.lemmas.Option.{same_Some}
use Rattle.kl_ask.specs.Driver.{State}
use Rattle.kl_scans.specs.Log.{Event, asked_after, Logged}
use Rattle.kl_scans.specs.Running.{Running}

pub driver_asked : (es : List Event) (a b : Running) → Logged es a b → (d : ℕ) (x y : State) → slice_get a.drivers d ≡ Some x → slice_get b.drivers d ≡ Some y → y.asked ≡ asked_after d es x.asked
driver_asked es a b log d x y was is = same_Some _ _ (sym (ap (option_map (λ s. s.asked)) is) ∙ log.asked d ∙ ap (λ o. option_map (asked_after d es) (option_map (λ s. s.asked) o)) was)
