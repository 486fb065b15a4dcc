-- What comes of attaching the sources that a program mentions.
use Rattle.std.specs.Prelude.{◌≡◌, ◌≢◌, ◌⊎◌, ℕ, suc, ◌<◌, ◌≤◌, Bool, true, false, List, [], ◌∷◌, length, map, slice_get, Option}
use Rattle.std.specs.Prelude.{Some, None, ⊤}
use Rattle.std.specs.Prelude.{Result, IfOk, IfErr, OnOk, MatchResult}
use Rattle.std.specs.List.{AllByRecursion, IsDistinct}
use Rattle.kl_base.specs.Counts.{Rose}
use Rattle.kl_value.specs.declared.Kind.TheVariants as kind
use Rattle.kl_value.specs.declared.Value.{Value}
use Rattle.kl_type.specs.Ground.{ground_of}
use Rattle.kl_outcome.specs.Outcome.{Name}
use Rattle.kl_outcome.specs.Typed.{Inhabits}
use Rattle.kl_ask.specs.Asks.{item_of, kind_of}
use Rattle.kl_ask.specs.Driver.{Kept, DriverKind, State, Stored, Missing, Bad, Long, Deep, Rows, KeepsState, same_value, told_rows}
use Rattle.kl_ask.specs.Lists.{EachSteps}
use Rattle.kl_ask.specs.declared.ask.DriverError.{DriverError}
use Rattle.kl_ask.specs.declared.ask.DriverError.TheVariants as error
use Rattle.kl_ask.specs.World.{World, IsReady, types_of, values_of}
use Rattle.kl_ask.specs.declared.session.Attached.{Attached}
use Rattle.kl_ask.specs.declared.settings.Settings.{Settings}
use Rattle.kl_ask.specs.declared.settings.Trace.{Trace}
use Rattle.kl_sources.specs.declared.attaching.AttachError.{AttachError}
use Rattle.kl_sources.specs.declared.source.Source.{Source}
use Rattle.kl_sources.specs.Sources.{grounds_of, kinds_of, contents, HaveValues, FirstWithout}

-- the same marks of the numbers below n
abbrev pub AgreeBelow : ℕ → (ℕ → Bool) → (ℕ → Bool) → Type 0
AgreeBelow n marks others = (i : ℕ) → i < n → marks i ≡ others i

-- nothing is attached at any driver
abbrev pub HaveNone : List State → Type 0
HaveNone ds = (i : ℕ) (d : State) → slice_get ds i ≡ Some d → (x : Name) → d.attached x ≡ None

-- the list of a session: all sources, each with its driver where it is marked
abbrev pub listed : Bool → Source → Attached
listed true s = record { source = s.name; ty = s.ty; driver = Some s.driver }
listed false s = record { source = s.name; ty = s.ty; driver = None }

abbrev pub list_of : (ℕ → Bool) → ℕ → List Source → List Attached
list_of marks n [] = []
list_of marks n (s ∷ ss) = listed (marks n) s ∷ list_of marks (suc n) ss

-- ---- what the drivers keep

abbrev pub IsMarkedName : (ℕ → Bool) → List Source → Name → Type 0
IsMarkedName marks sources x = (i : ℕ) × (s : Source) × (slice_get sources i ≡ Some s) × (marks i ≡ true) × (s.name ≡ x)

-- a driver at which nothing but marked sources may have been attached
pub record MayAttach (marks : ℕ → Bool) (sources : List Source) (old new : State) : Type 0 where
  pub keeps : KeepsState old new
  pub cursors : new.cursors ≡ old.cursors
  pub asked : new.asked ≡ old.asked
  pub handed : new.handed ≡ old.handed
  pub drifts : new.drifts ≡ old.drifts
  pub others : (x : Name) → (IsMarkedName marks sources x → ⊥) → new.attached x ≡ old.attached x

-- a marked source of this name has its driver at this place
abbrev pub IsMarkedAt : (ℕ → Bool) → List Source → ℕ → Name → Type 0
IsMarkedAt marks sources place x =
    (i : ℕ) × (s : Source) × (slice_get sources i ≡ Some s) × (marks i ≡ true) × (s.driver ≡ place) × (s.name ≡ x)

-- At the driver of a place only marked sources may have been attached that have it for their own; where there are none, it is
-- as it was, with all its counts.
pub record AttachesOwn (marks : ℕ → Bool) (sources : List Source) (place : ℕ) (old new : State) : Type 0 where
  pub others : (x : Name) → (IsMarkedAt marks sources place x → ⊥) → new.attached x ≡ old.attached x
  pub untouched : ((x : Name) → IsMarkedAt marks sources place x → ⊥) → new ≡ old

abbrev pub EachAttachesOwn : (ℕ → Bool) → List Source → List State → List State → Type 0
EachAttachesOwn marks sources old new =
    (place : ℕ) (a b : State) → slice_get old place ≡ Some a → slice_get new place ≡ Some b → AttachesOwn marks sources place a b

-- a count of the driver at a place rose
abbrev pub RoseAt : ℕ → (State → ℕ) → List State → List State → Type 0
RoseAt place count old new = (a : State) × (b : State) × (slice_get old place ≡ Some a) × (slice_get new place ≡ Some b)
    × Rose (count a) (count b)

-- ---- sources that are not told

-- Some driver does not tell its contents, so that neither values nor a first source without rows are said of these
-- sources.
pub record NoVerdict (ks : List DriverKind) (marks : ℕ → Bool) (sources : List Source) : Type 0 where
  pub driver : (i : ℕ) × (k : DriverKind) × (slice_get ks i ≡ Some k) × (k.stored ≡ None)
  pub no_values : (vs : List (Name × Value)) → HaveValues ks marks 0 sources vs → ⊥
  pub no_first : (s : Source) (w : Stored) → FirstWithout ks marks 0 sources s w → ⊥

-- ---- what stands at a driver

-- rows of the source's type, or contents that are not told
abbrev pub HasTyped : Source → Option Stored → Type 0
HasTyped s (Some (Rows rows)) = AllByRecursion (Inhabits (item_of (ground_of s.ty))) rows
HasTyped s (Some _) = ⊥
HasTyped s None = ⊤

-- A source is attached at its driver under its name, with its type, the number of its rows and, where they are told, these
-- rows.
pub record Stands (ks : List DriverKind) (ds : List State) (s : Source) : Type 0 where
  pub driver : State
  pub there : slice_get ds s.driver ≡ Some driver
  pub count : ℕ
  pub kept : Option Kept
  pub attached : driver.attached s.name ≡ Some (record { ty = s.ty; rows = told_rows (contents ks s); count = count; kept = kept })
  pub counted : (rows : List Value) → contents ks s ≡ Some (Rows rows) → count ≡ length rows
  pub typed : HasTyped s (contents ks s)
  -- a driver with `unique` repeats no row of a set
  pub unrepeated : (k : DriverKind) (rows : List Value) → slice_get ks s.driver ≡ Some k → k.abilities.unique ≡ true
      → kind_of (ground_of s.ty) ≡ kind.Set
      → contents ks s ≡ Some (Rows rows) → IsDistinct same_value rows

-- ---- refusals

-- the answer of a driver that cannot read what stands at a source
abbrev pub IsErrorOf : Stored → DriverError → Type 0
IsErrorOf Missing e = e ≡ error.Failed
IsErrorOf (Bad place) e = e ≡ error.BadSource place
IsErrorOf (Long most) e = e ≡ error.TooLong most
IsErrorOf (Deep place) e = e ≡ error.TooDeep place
IsErrorOf (Rows rows) e = ⊥

abbrev pub IsUnreadable : DriverError → Type 0
IsUnreadable (error.BadSource place) = ⊤
IsUnreadable (error.TooLong most) = ⊤
IsUnreadable (error.TooDeep place) = ⊤
IsUnreadable _ = ⊥

-- a fault of a source's driver, or want of memory
abbrev pub IsMishap : Source → DriverError → List State → List State → Type 0
IsMishap s e old new = ((e ≡ error.Failed) × RoseAt s.driver (λ d. d.faults) old new) ⊎ (e ≡ error.NoMemory)

-- the error of what stands at a source, or a mishap at one of the sources
abbrev pub IsRefusalOf : List Source → Source → Stored → List State → List State → AttachError → Type 0
IsRefusalOf sources s w old new e =
    ((e.source ≡ s.name) × IsErrorOf w e.error)
    ⊎ ((i : ℕ) × (t : Source) × (slice_get sources i ≡ Some t) × (e.source ≡ t.name) × IsMishap t e.error old new)

-- contents that are told say that the source is without rows
abbrev pub StandsWithout : List DriverKind → (ℕ → Bool) → List Source → Source → DriverError → Type 0
StandsWithout ks marks sources s e =
    (w : Stored) × IsErrorOf w e × (contents ks s ≡ Some w) × (FirstWithout ks marks 0 sources s w ⊎ NoVerdict ks marks sources)

-- the source is not told, and its driver counted one that it could not read
abbrev pub IsUnread : List DriverKind → (ℕ → Bool) → List Source → Source → DriverError → List State → List State → Type 0
IsUnread ks marks sources s e old new = IsUnreadable e × (contents ks s ≡ None) × NoVerdict ks marks sources
    × RoseAt s.driver (λ d. d.unread) old new

-- The cause of a refusal, which is that of one of the sources. Unless memory ran out, this source is mentioned, those that
-- are mentioned before it stand at their drivers, and neither it nor one behind it is attached at any driver.
pub record Causes (marks : ℕ → Bool) (sources : List Source) (old new : List State) (e : AttachError) : Type 0 where
  pub place : ℕ
  pub refused : Source
  pub there : slice_get sources place ≡ Some refused
  pub named : refused.name ≡ e.source
  pub marked : e.error ≢ error.NoMemory → marks place ≡ true
  pub cause : IsMishap refused e.error old new
      ⊎ StandsWithout (kinds_of old) marks sources refused e.error
      ⊎ IsUnread (kinds_of old) marks sources refused e.error old new
  pub before : e.error ≢ error.NoMemory → (i : ℕ) (s : Source) → i < place → slice_get sources i ≡ Some s → marks i ≡ true
      → Stands (kinds_of old) new s
  pub behind : e.error ≢ error.NoMemory → (i : ℕ) (s : Source) → place ≤ i → slice_get sources i ≡ Some s
      → (k : ℕ) (d : State) → slice_get new k ≡ Some d → d.attached s.name ≡ None

-- ---- the session

abbrev pub world_of : List State → List Attached → Settings → Trace → World
world_of ds list settings trace = record { drivers = ds; sources = list; settings = settings; trace = trace }

-- A session is ready for a program: each source has its type there, by its number, and the values that are said of the
-- sources are those of the session.
pub record Serves (ks : List DriverKind) (marks : ℕ → Bool) (sources : List Source) (w : World) : Type 0 where
  pub ready : IsReady w
  pub types : (i : ℕ) → types_of w i ≡ slice_get (map (λ p. p.1) (grounds_of sources)) i
  pub values : (vs : List (Name × Value)) → HaveValues ks marks 0 sources vs → (i : ℕ) → values_of w i ≡ slice_get (map (λ p. p.1) vs) i

-- ---- all

pub record AttachesAll (marks : ℕ → Bool) (sources : List Source) (result : Result (List Attached) AttachError)
    (old new : List State) : Type 0 where
  pub drivers : EachSteps (MayAttach marks sources) old new
  pub own : EachAttachesOwn marks sources old new
  pub list : IfOk result (λ list. list ≡ list_of marks 0 sources)
  -- each marked source stands at its driver, and a session of these drivers and this list is ready
  pub stand : OnOk result ((i : ℕ) (s : Source) → slice_get sources i ≡ Some s → marks i ≡ true → Stands (kinds_of old) new s)
  pub ready : IfOk result (λ list. (settings : Settings) (trace : Trace)
      → 0 < settings.fetch → Serves (kinds_of old) marks sources (world_of new list settings trace))
  -- the sources have values, or some driver does not tell
  pub values : OnOk result (((vs : List (Name × Value)) × HaveValues (kinds_of old) marks 0 sources vs)
      ⊎ NoVerdict (kinds_of old) marks sources)
  -- where contents that are told say that a source is the first without rows, its error comes, or a mishap
  pub refused : (s : Source) (w : Stored) → FirstWithout (kinds_of old) marks 0 sources s w
      → MatchResult result (λ _. ⊥) (IsRefusalOf sources s w old new)
  pub cause : IfErr result (Causes marks sources old new)
