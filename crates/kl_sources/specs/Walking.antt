-- Attaching sources one by one: what stands once the first of them are attached, and at a refusal. No public contract
-- cites this; the laws of the whole call follow.
use Rattle.std.specs.Prelude.{◌≡◌, ◌⊎◌, ℕ, ◌<◌, Bool, true, false, List, length, Some, None, Result, Ok, Err, IsOk, slice_get, ⊤}
use Rattle.kl_outcome.specs.Outcome.{Name}
use Rattle.kl_ask.specs.Driver.{DriverKind, State, Stored, KeepsState, Attaches}
use Rattle.kl_ask.specs.Lists.{EachSteps, StepsAt}
use Rattle.kl_ask.specs.declared.ask.DriverError.{DriverError}
use Rattle.kl_ask.specs.declared.ask.DriverError.TheVariants as error
use Rattle.kl_ask.specs.declared.session.Attached.{Attached}
use Rattle.kl_sources.specs.declared.source.Source.{Source}
use Rattle.kl_sources.specs.declared.walking.Refused.{Refused}
use Rattle.kl_sources.specs.Sources.{kinds_of, contents}
use Rattle.kl_sources.specs.Attaching.{EachAttachesOwn, IsErrorOf, IsUnreadable, IsMishap, RoseAt, Stands, list_of}

abbrev pub IsMarkedBelow : ℕ → (ℕ → Bool) → List Source → Name → Type 0
IsMarkedBelow n marks sources x = (i : ℕ) × (s : Source) × (i < n) × (slice_get sources i ≡ Some s) × (marks i ≡ true) × (s.name ≡ x)

pub record MayAttachBelow (n : ℕ) (marks : ℕ → Bool) (sources : List Source) (old new : State) : Type 0 where
  pub keeps : KeepsState old new
  pub cursors : new.cursors ≡ old.cursors
  pub asked : new.asked ≡ old.asked
  pub handed : new.handed ≡ old.handed
  pub drifts : new.drifts ≡ old.drifts
  pub others : (x : Name) → (IsMarkedBelow n marks sources x → ⊥) → new.attached x ≡ old.attached x

-- the marked ones of the first n sources are attached
pub record AttachesBelow (n : ℕ) (marks : ℕ → Bool) (sources : List Source) (old new : List State) : Type 0 where
  pub drivers : EachSteps (MayAttachBelow n marks sources) old new
  pub own : EachAttachesOwn marks sources old new
  pub stand : (i : ℕ) (s : Source) → i < n → slice_get sources i ≡ Some s → marks i ≡ true → Stands (kinds_of old) new s

-- why a driver refuses a source
abbrev pub RefusesFor : List DriverKind → Source → DriverError → List State → List State → Type 0
RefusesFor ks s e old new =
    IsMishap s e old new
    ⊎ ((w : Stored) × IsErrorOf w e × (contents ks s ≡ Some w))
    ⊎ (IsUnreadable e × (contents ks s ≡ None) × RoseAt s.driver (λ d. d.unread) old new)

-- so many sources are attached, and there is a reason to go no further
pub record StopsAt (marks : ℕ → Bool) (sources : List Source) (old new : List State) (r : Refused) : Type 0 where
  pub count : ℕ
  pub below : AttachesBelow count marks sources old new
  pub source : Source
  pub there : slice_get sources r.place ≡ Some source
  pub cause : (r.error ≡ error.NoMemory) ⊎ ((count ≡ r.place) × (marks r.place ≡ true) × RefusesFor (kinds_of old) source r.error old new)

abbrev pub Walks : (ℕ → Bool) → List Source → Result (Unit {0}) Refused → List State → List State → Type 0
Walks marks sources (Ok done) old new = AttachesBelow (length sources) marks sources old new
Walks marks sources (Err r) old new = StopsAt marks sources old new r

-- all sources are attached, and this is the list of all
pub record WalksToEnd (marks : ℕ → Bool) (sources : List Source) (all : List Attached) (old new : List State) : Type 0 where
  pub below : AttachesBelow (length sources) marks sources old new
  pub list : all ≡ list_of marks 0 sources

abbrev pub WalksAll : (ℕ → Bool) → List Source → Result (List Attached) Refused → List State → List State → Type 0
WalksAll marks sources (Ok list) old new = WalksToEnd marks sources list old new
WalksAll marks sources (Err r) old new = StopsAt marks sources old new r

-- want of memory, told of one of so many sources
abbrev pub IsWant : ℕ → Refused → Type 0
IsWant n r = (r.place < n) × (r.error ≡ error.NoMemory)

-- the answer of a call that answers nothing more
abbrev pub SameEnd : Result ℕ DriverError → Result (Unit {0}) DriverError → Type 0
SameEnd (Ok count) (Ok done) = ⊤
SameEnd (Err e) (Err f) = f ≡ e
SameEnd _ _ = ⊥

abbrev pub AttachesIf : Bool → Source → Result (Unit {0}) DriverError → List State → List State → Type 0
AttachesIf true s result old new = (q : Result ℕ DriverError) × SameEnd q result
    × StepsAt s.driver (λ a b. Attaches s.name s.locator s.ty q a b) old new
AttachesIf false s result old new = IsOk result × (new ≡ old)
