-- What is wrong with the text of a program, or with a source that it mentions.
use Rattle.std.specs.Prelude.{◌≡◌, ℕ, Bool, true, List, Option, Some, None, slice_get, Ok, Err, ⊤}
use Rattle.kl_ask.specs.Driver.{State}
use Rattle.kl_scope.specs.Breaches.{is_marked}
use Rattle.kl_scope.specs.Senses.{Name}
use Rattle.kl_scope.specs.declared.scoped.Scoped.{Scoped}
use Rattle.kl_sources.specs.Attaching.{Causes, Stands}
use Rattle.kl_sources.specs.Sources.{grounds_of, kinds_of, names_of}
use Rattle.kl_sources.specs.declared.attaching.AttachError.{AttachError}
use Rattle.kl_sources.specs.declared.source.Source.{Source}
use Rattle.kl_type.specs.Ground.{Ground}
use Rattle.kl_why.specs.Programs.{IsWell, IsWrong}
use Rattle.kl_why.specs.Refused.{BlamesSource, Told}
use Rattle.kl_why.specs.Untyped.{IsUntyped}
use Rattle.kl_why.specs.Whys.{Found}
use Rattle.kl_why.specs.declared.why.Why.{Why}
use Rattle.kl_why.specs.declared.why.Why.TheVariants as why
use Rattle.kl_why.specs.declared.wrong.Wrong.TheVariants as wrong

-- each source that is marked stands at its driver
abbrev pub AllStand : (ℕ → Bool) → List Source → List State → List State → Type 0
AllStand marks ss ds ds' = (i : ℕ) (s : Source) → slice_get ss i ≡ Some s → marks i ≡ true → Stands (kinds_of ds) ds' s

-- the driver of a source refuses it, and this is told of it
abbrev pub Refuses : Told → List State → List State → (ℕ → Bool) → List Source → Why → Type 0
Refuses told ds ds' marks ss w =
    (e : AttachError) × (i : ℕ) × (s : Source)
    × Causes marks ss ds ds' e × (slice_get ss i ≡ Some s) × (s.name ≡ e.source) × BlamesSource told s e.error w

-- The text of a program, which stands at a path, over these sources: the drivers before and after.
abbrev pub FindsIn : Told → List State → List State → List ℕ → List ℕ → List Source → Found → Type 0
FindsIn told ds ds' path bytes ss (Ok done) = (s : Scoped) × IsWell (names_of ss) (grounds_of ss) bytes s × AllStand (is_marked s) ss ds ds'
FindsIn told ds ds' path bytes ss (Err (why.Program w s)) = (s.path ≡ path) × (s.bytes ≡ bytes) × IsWrong (names_of ss) (grounds_of ss) bytes w s.byte
FindsIn told ds ds' path bytes ss (Err (why.Untyped reason s)) =
    (s.path ≡ path) × (s.bytes ≡ bytes) × ((byte : ℕ) × IsWrong (names_of ss) (grounds_of ss) bytes wrong.NoTyping byte)
    × IsUntyped (names_of ss) (grounds_of ss) bytes s.byte
FindsIn told ds ds' path bytes ss (Err (why.Unread it)) = ⊥
FindsIn told ds ds' path bytes ss (Err (why.TooLong it)) = ⊥
FindsIn told ds ds' path bytes ss (Err (why.Catalogue w s)) = ⊥
FindsIn told ds ds' path bytes ss (Err why.NoMemory) = ⊤
FindsIn told ds ds' path bytes ss (Err w) = (s : Scoped) × IsWell (names_of ss) (grounds_of ss) bytes s × Refuses told ds ds' (is_marked s) ss w

-- ---- for private functions alone

abbrev pub Attaches : Told → List State → List State → (ℕ → Bool) → List Source → Found → Type 0
Attaches told ds ds' marks ss (Ok done) = AllStand marks ss ds ds'
Attaches told ds ds' marks ss (Err why.NoMemory) = ⊤
Attaches told ds ds' marks ss (Err w) = Refuses told ds ds' marks ss w

-- the source of a name, if it is there
abbrev pub IsOfName : Name → List Source → Option Source → Type 0
IsOfName name ss None = ⊤
IsOfName name ss (Some s) = ((i : ℕ) × (slice_get ss i ≡ Some s)) × (s.name ≡ name)

-- what is told of a program whose declaration at a byte has no type
abbrev pub TellsTyping : List Name → List (Name × Ground) → List ℕ → List ℕ → ℕ → Why → Type 0
TellsTyping names grounds path bytes byte (why.Untyped reason s) = (s.path ≡ path) × (s.bytes ≡ bytes) × IsUntyped names grounds bytes s.byte
TellsTyping names grounds path bytes byte (why.Program w s) = (w ≡ wrong.NoTyping) × (s.path ≡ path) × (s.bytes ≡ bytes) × (s.byte ≡ byte)
TellsTyping names grounds path bytes byte w = ⊥
