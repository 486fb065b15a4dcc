-- What the steps of placing sources answer, want of memory aside.
use Rattle.std.specs.Prelude.{◌≡◌, ℕ, List, ◌++◌, Option, Some, None, Result, Ok, Err, slice_get, ⊤, Vec}
use Rattle.std.specs.declared.alloc.Global.{Global}
use Rattle.kl_outcome.specs.Outcome.{Name}
use Rattle.kl_ask.specs.Driver.{DriverKind}
use Rattle.kl_sources.specs.declared.source.Source.{Source}
use Rattle.kl_sources.specs.declared.placing.PlaceError.{PlaceError}
use Rattle.kl_sources.specs.declared.placing.PlaceError.TheVariants.{NoMemory}
use Rattle.kl_sources.specs.Sources.{driver_named}

abbrev pub IsUnless : {A : Type 0} → Result A PlaceError → PlaceError → Type 0
IsUnless wanted NoMemory = ⊤
IsUnless wanted e = wanted ≡ Err e

-- a step's answer is what is wanted, or want of memory. No public contract cites this.
abbrev pub AnswersOne : Result Source PlaceError → Result Source PlaceError → Type 0
AnswersOne wanted (Ok s) = wanted ≡ Ok s
AnswersOne wanted (Err e) = IsUnless wanted e

-- the answer is what is wanted, or want of memory
abbrev pub AnswersList : Result (List Source) PlaceError → Result (Vec Source Global) PlaceError → Type 0
AnswersList wanted (Ok ss) = wanted ≡ Ok ss.items
AnswersList wanted (Err e) = IsUnless wanted e

-- the place of the first driver with a name. No public contract cites this.
abbrev pub Finds : Name → List DriverKind → Option ℕ → Type 0
Finds x ks None = driver_named x ks ≡ None
Finds x ks (Some i) = (k : DriverKind) × (slice_get ks i ≡ Some k) × (driver_named x ks ≡ Some (i, k))

-- what comes of more entries, behind sources that are placed. No public contract cites this.
abbrev pub behind : List Source → Result (List Source) PlaceError → Result (List Source) PlaceError
behind ss (Ok ts) = Ok (ss ++ ts)
behind ss (Err e) = Err e
