-- What is counted while a program runs.
use Rattle.std.specs.Prelude.{◌≡◌, []}
use Rattle.kl_ask.specs.declared.settings.Trace.{Trace}

-- nothing is counted
pub record IsBlank (t : Trace) : Type 0 where
  pub steps : t.steps ≡ 0
  pub starts : t.starts ≡ []
  pub joins : t.joins ≡ []
  pub hits : t.hits ≡ 0
  pub misses : t.misses ≡ 0
  pub peak : t.peak ≡ 0
