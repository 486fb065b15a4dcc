-- The sources of a catalogue at their drivers, and what they come to.
use Rattle.std.specs.Prelude.{◌≡◌, ◌⊎◌, ℕ, suc, Bool, true, false, ◌||◌, List, [], ◌∷◌, map, slice_get, cond, nat_eq, ⊤}
use Rattle.std.specs.Prelude.{Option, Some, None, is_some, Result, Ok, Err}
use Rattle.std.specs.List.{AllByRecursion, IsDistinct, list_any}
use Rattle.std.specs.Option.{option_map}
use Rattle.std.specs.Cmp.Lexicographic.{pointwise}
use Rattle.kl_value.specs.Canon.{canonical}
use Rattle.kl_value.specs.Views.{collection}
use Rattle.kl_value.specs.declared.Value.{Value}
use Rattle.kl_type.specs.Ground.{Ground, IsProper, ground_of}
use Rattle.kl_type.specs.declared.Ty.{Ty}
use Rattle.kl_prim.specs.Table.{rows}
use Rattle.kl_outcome.specs.Outcome.{Name}
use Rattle.kl_ask.specs.Asks.{kind_of}
use Rattle.kl_ask.specs.Driver.{DriverKind, State, Stored, Rows, Suits, stored_by}
use Rattle.kl_catalogue.specs.declared.reading.Entry.{Entry}
use Rattle.kl_sources.specs.declared.source.Source.{Source}
use Rattle.kl_sources.specs.declared.placing.PlaceError.{PlaceError}
use Rattle.kl_sources.specs.declared.placing.PlaceError.TheVariants.{Twice, NoDriver, Unsuited}
use Rattle.kl_scope.specs.Senses.{entry_named}

abbrev pub names_of : List Source → List Name
names_of ss = map (λ s. s.name) ss

abbrev pub types_of : List Source → List (Name × Ty)
types_of ss = map (λ s. (s.name, s.ty)) ss

abbrev pub grounds_of : List Source → List (Name × Ground)
grounds_of ss = map (λ p. (p.0, ground_of p.1)) (types_of ss)

-- what drivers are
abbrev pub kinds_of : List State → List DriverKind
kinds_of ds = map (λ d. d.kind) ds

-- ---- which sources a catalogue names

abbrev pub same : Name → Name → Bool
same = pointwise nat_eq

-- a name that no entry may have: that of one before it, or a primitive's
abbrev pub is_taken : List Name → Name → Bool
is_taken before x = list_any (same x) before || is_some (entry_named x)

-- the first driver with a name, and its place
abbrev pub driver_named : Name → List DriverKind → Option (ℕ × DriverKind)
driver_named x [] = None
driver_named x (k ∷ ks) = cond (same k.name x) (Some (0, k)) (option_map (λ p. (suc p.0, p.1)) (driver_named x ks))

abbrev pub at_driver : Entry → Option (ℕ × DriverKind) → Result Source PlaceError
at_driver e (Some (i, k)) = cond (k.suits e.ty) (Ok (record { name = e.name; ty = e.ty; driver = i; locator = e.locator }))
    (Err (Unsuited e.name))
at_driver e None = Err (NoDriver e.driver)

-- an entry at its driver, or the first thing that is wrong with it
abbrev pub placed : List DriverKind → List Name → Entry → Result Source PlaceError
placed ks before e = cond (is_taken before e.name) (Err (Twice e.name)) (at_driver e (driver_named e.driver ks))

abbrev pub in_front : Result Source PlaceError → Result (List Source) PlaceError → Result (List Source) PlaceError
in_front (Ok s) (Ok ss) = Ok (s ∷ ss)
in_front (Ok s) (Err e) = Err e
in_front (Err e) r = Err e

-- all entries at their drivers, or what is wrong with the first that is wrong
abbrev pub sources_of : List DriverKind → List Name → List Entry → Result (List Source) PlaceError
sources_of ks before [] = Ok []
sources_of ks before (e ∷ es) = in_front (placed ks before e) (sources_of ks (e.name ∷ before) es)

-- ---- sources that stand at drivers

-- the driver of this number suits the source's type
abbrev pub IsSuited : List DriverKind → Source → Type 0
IsSuited ks s = (k : DriverKind) × (slice_get ks s.driver ≡ Some k) × (k.suits s.ty ≡ true)

-- and what it can do besides goes with that type, which is a collection's
abbrev pub IsFit : List DriverKind → Source → Type 0
IsFit ks s = (k : DriverKind) × (slice_get ks s.driver ≡ Some k) × Suits k.abilities (ground_of s.ty)

-- sources whose names differ, each of a proper type and at a driver that suits it
pub record ArePlaced (ks : List DriverKind) (ss : List Source) : Type 0 where
  pub suited : AllByRecursion (IsSuited ks) ss
  pub fit : AllByRecursion (IsFit ks) ss
  pub proper : AllByRecursion (λ s. IsProper s.ty) ss
  pub differ : IsDistinct same (names_of ss)

-- ---- what sources come to

-- what stands at a source, where its driver tells its contents
abbrev pub contents_at : Source → Option DriverKind → Option Stored
contents_at s (Some k) = stored_by k.stored s.locator s.ty
contents_at s None = None

abbrev pub contents : List DriverKind → Source → Option Stored
contents ks s = contents_at s (slice_get ks s.driver)

abbrev pub HasRows : List DriverKind → Source → Type 0
HasRows ks s = (rows : List Value) × (contents ks s ≡ Some (Rows rows))

-- its value, which is the collection of its rows; and an empty one
abbrev pub value_of : Source → List Value → Value
value_of s rows = canonical (kind_of (ground_of s.ty)) rows

abbrev pub empty_of : Source → Value
empty_of s = collection (kind_of (ground_of s.ty)) []

-- the value of a source that the program mentions, which has to be told, and of one that it does not
abbrev pub IsValueAt : List DriverKind → Bool → Source → Value → Type 0
IsValueAt ks true s v = (rows : List Value) × (contents ks s ≡ Some (Rows rows)) × (v ≡ value_of s rows)
IsValueAt ks false s v = v ≡ empty_of s

-- The values of sources, whose numbers go from n on: one that the program mentions has its value. Any other is empty,
-- which makes no difference to a program that does not mention it.
abbrev pub HaveValues : List DriverKind → (ℕ → Bool) → ℕ → List Source → List (Name × Value) → Type 0
HaveValues ks marks n [] vs = vs ≡ []
HaveValues ks marks n (s ∷ ss) vs =
    (v : Value) × (rest : List (Name × Value)) × (vs ≡ (s.name, v) ∷ rest)
    × IsValueAt ks (marks n) s v × HaveValues ks marks (suc n) ss rest

abbrev pub IsReadable : List DriverKind → Bool → Source → Type 0
IsReadable ks true s = HasRows ks s
IsReadable ks false s = ⊤

-- the first source that the program mentions and that has no rows, and what stands there in place of them
abbrev pub FirstWithout : List DriverKind → (ℕ → Bool) → ℕ → List Source → Source → Stored → Type 0
FirstWithout ks marks n [] s w = ⊥
FirstWithout ks marks n (t ∷ ts) s w =
    ((marks n ≡ true) × (s ≡ t) × (contents ks t ≡ Some w) × (HasRows ks t → ⊥))
    ⊎ (IsReadable ks (marks n) t × FirstWithout ks marks (suc n) ts s w)
