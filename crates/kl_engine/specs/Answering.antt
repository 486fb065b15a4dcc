-- What a command does: how it ends, what it prints, the cause of each fault, and what stays as it was.
use Rattle.std.specs.Prelude.{◌≡◌, ◌≢◌, ◌⊎◌, ℕ, ◌≤◌, List, [], ◌∷◌, ◌++◌, length, All, Option, Some, None, slice_get, IsSome, ⊤}
use Rattle.std.specs.Io.KnownBytes.{append_known}
use Rattle.kl_outside.specs.Counts.{Rose}
use Rattle.kl_outside.specs.Files.{FilesState, Holds}
use Rattle.kl_outside.specs.Sinks.{SinkState, TookPart}
use Rattle.kl_value.specs.declared.Value.{Value}
use Rattle.kl_exchange.specs.FileItems.{FileEnd, WholeText, most_read}
use Rattle.kl_heads.specs.Files.{Shows}
use Rattle.kl_type.specs.Ground.{Ground}
use Rattle.kl_type.specs.Reading.{ReadsType}
use Rattle.kl_type.specs.declared.Ty.{Ty}
use Rattle.kl_outcome.specs.Outcome.{Name}
use Rattle.kl_syntax.specs.Syntax.{Decls, Exp}
use Rattle.kl_syntax.specs.declared.tree.Program.{Program as AProgram}
use Rattle.kl_scope.specs.Breaches.{Mentions}
use Rattle.kl_ask.specs.Driver.{DriverKind, State, Stored, KeepsState}
use Rattle.kl_ask.specs.Lists.{EachSteps}
use Rattle.kl_ask.specs.declared.settings.Settings.{Settings}
use Rattle.kl_sources.specs.Attaching.{RoseAt}
use Rattle.kl_sources.specs.Sources.{kinds_of, names_of, grounds_of, contents}
use Rattle.kl_sources.specs.declared.source.Source.{Source}
use Rattle.kl_engine.specs.Commands.{Command, NoneNamed, Program, Show, Upgrade, Origin, Files, Made, Tell, TellTo}
use Rattle.kl_engine.specs.Faults.{Ending}
use Rattle.kl_engine.specs.Outside.{Outside}
use Rattle.kl_engine.specs.Reading.{IsProgramOf, definitions, last}
use Rattle.kl_engine.specs.Verdict.{Verdict, refused, stored_fault, GivesList, IsExplained, IsListing, IsTextVerdict, HasInputs, IsTypeFault, IsVerdict}
use Rattle.kl_engine.specs.declared.fault.Fault.{Fault}
use Rattle.kl_engine.specs.declared.fault.Fault.TheVariants as fault
use Rattle.kl_engine.specs.declared.fault.Wrong.{Wrong}
use Rattle.kl_engine.specs.declared.fault.Wrong.TheVariants as wrong
use Rattle.kl_engine.specs.declared.top.Purpose.{Purpose}
use Rattle.kl_engine.specs.declared.top.Purpose.TheVariants as purpose

-- ---- drivers

-- a count of some driver rose
abbrev pub SomeRose : (State → ℕ) → List State → List State → Type 0
SomeRose count old new = (i : ℕ) × RoseAt i count old new

-- A driver is what it was, has no cursor open that it had not, and has nothing new attached but under names like these.
pub record KeepsDriver (Named : Name → Type 0) (old new : State) : Type 0 where
  pub keeps : KeepsState old new
  pub cursors : new.cursors ≡ old.cursors
  pub attached : (name : Name) → (Named name → ⊥) → new.attached name ≡ old.attached name

abbrev pub KeepsDrivers : (Name → Type 0) → List State → List State → Type 0
KeepsDrivers Named old new = EachSteps (KeepsDriver Named) old new

-- nothing is attached, and no cursor is open
abbrev pub IsIdle : State → Type 0
IsIdle d = ((name : Name) → d.attached name ≡ None) × ((k : ℕ) → d.cursors k ≡ None)

-- one driver more, behind the others, and all are idle
pub record AddsDriver (d : State) (old new : List State) : Type 0 where
  pub added : new ≡ old ++ d ∷ []
  pub idle : All IsIdle new

-- ---- sources, where Named is what holds of their names

-- what the driver of a source tells of it is this fault
abbrev pub IsStoredFault : List DriverKind → List Source → (Name → Type 0) → Fault → Type 0
IsStoredFault ks ss Named f =
    (i : ℕ) × (s : Source) × (w : Stored)
    × (slice_get ss i ≡ Some s) × Named s.name × (contents ks s ≡ Some w) × (stored_fault s.name w ≡ Some f)

-- the driver of a source tells nothing of it, and counted one that it could not read
abbrev pub IsCounted : List Source → (Name → Type 0) → List State → List State → Type 0
IsCounted ss Named old new =
    (i : ℕ) × (s : Source)
    × (slice_get ss i ≡ Some s) × Named s.name × (contents (kinds_of old) s ≡ None) × RoseAt s.driver (λ d. d.unread) old new

-- the driver of a source counted a drift
abbrev pub SomeDrifted : List Source → (Name → Type 0) → List State → List State → Type 0
SomeDrifted ss Named old new =
    (i : ℕ) × (s : Source) × (slice_get ss i ≡ Some s) × Named s.name × RoseAt s.driver (λ d. d.drifts) old new

-- the drivers of these sources tell what they hold
abbrev pub AreTold : List DriverKind → List Source → (Name → Type 0) → Type 0
AreTold ks ss Named = (i : ℕ) (s : Source) → slice_get ss i ≡ Some s → Named s.name → IsSome (contents ks s)

-- the source of this name is what the fault is of, where it tells a name
abbrev pub IsOf : Fault → Name → Type 0
IsOf (fault.BadSource name place) x = x ≡ name
IsOf (fault.Changed name) x = x ≡ name
IsOf f x = ⊤

-- a source is unreadable, too long or nested too deep: its driver tells so, or tells nothing of it and counted one
abbrev pub IsUnreadBy : List Source → (Name → Type 0) → Fault → List State → List State → Type 0
IsUnreadBy ss Named f old new = IsStoredFault (kinds_of old) ss Named f ⊎ IsCounted ss (λ x. Named x × IsOf f x) old new

-- ---- the end of a command

-- A fault of the outside, or want of memory: it may come before the end that a verdict has, where its cause is there.
pub data IsOutside (v : Verdict) (end : Ending) (old new : Outside) : Type 0 where
  reading : end ≡ Some fault.Read
      → Rose old.files.faults new.files.faults ⊎ SomeRose (λ d. d.faults) old.drivers new.drivers → IsOutside v end old new
  writing : end ≡ Some fault.Write → Rose old.out.faults new.out.faults → v.page ≢ [] → IsOutside v end old new
  drifting : (name : Name) → end ≡ Some (fault.Changed name) → SomeRose (λ d. d.drifts) old.drivers new.drivers → IsOutside v end old new
  wanting : end ≡ Some fault.NoMemory → IsOutside v end old new

-- The command ends as the verdict says, or a fault of the outside came first. What was printed is the verdict's page, or
-- a front of it.
pub record FollowsVerdict (v : Verdict) (end : Ending) (old new : Outside) : Type 0 where
  pub ends : (end ≡ v.ending) ⊎ IsOutside v end old new
  pub whole : end ≡ v.ending → new.out.taken ≡ append_known old.out.taken v.page
  pub part : TookPart v.page old.out new.out

-- what is wrong, whatever the name
abbrev pub unnamed : Wrong → Wrong
unnamed (wrong.Unknown name) = wrong.Unknown []
unnamed (wrong.Twice name) = wrong.Twice []
unnamed (wrong.Misapplied name) = wrong.Misapplied []
unnamed w = w

-- Verdicts on the same bytes are one, but for three things: the same breach at the same token may be told of another name;
-- where types are listed, other principal schemes of the same instances may be listed for one program; and where a plan is
-- explained, another plan of the program.
pub data SameVerdict (Listing : Type 0) (v w : Verdict) : Type 0 where
  one : v ≡ w → SameVerdict Listing v w
  replanned : Listing
      → (ks : List DriverKind) (ss : List Source) (settings : Settings) (ds : Decls) (e : Exp)
      → IsExplained ks ss settings ds e v → IsExplained ks ss settings ds e w → SameVerdict Listing v w
  renamed : (x y : Wrong) (byte : ℕ)
      → v ≡ refused (fault.Text x byte) → w ≡ refused (fault.Text y byte) → unnamed x ≡ unnamed y → SameVerdict Listing v w
  retyped : Listing
      → (grounds : List (Name × Ground)) (ds : Decls) (e : Exp) → IsListing grounds ds e v → IsListing grounds ds e w
      → SameVerdict Listing v w

-- an end that bytes determine: none of the faults that can come to any command
abbrev pub IsDetermined : Ending → Type 0
IsDetermined None = ⊤
IsDetermined (Some fault.Read) = ⊥
IsDetermined (Some fault.Write) = ⊥
IsDetermined (Some (fault.Changed name)) = ⊥
IsDetermined (Some fault.NoMemory) = ⊥
IsDetermined (Some f) = ⊤

-- ---- which faults come to what

-- its types are inferred
abbrev pub IsTyping : Purpose → Type 0
IsTyping purpose.Check = ⊥
IsTyping p = ⊤

abbrev pub ListsTypes : Purpose → Type 0
ListsTypes p = p ≡ purpose.Types

-- what is listed may be listed otherwise
abbrev pub Varies : Purpose → Type 0
Varies purpose.Types = ⊤
Varies (purpose.Explain settings) = ⊤
Varies p = ⊥

abbrev pub IsRun : Purpose → Type 0
IsRun (purpose.Run first) = ⊤
IsRun p = ⊥

-- the faults that a program's text may come to, and those of its sources
abbrev pub HasTextFault : Purpose → Fault → Type 0
HasTextFault p fault.Write = ⊤
HasTextFault p fault.NoMemory = ⊤
HasTextFault p (fault.Text w byte) = ⊤
HasTextFault p fault.Nesting = ⊤
HasTextFault p fault.TermNodes = IsTyping p
HasTextFault p fault.TermDepth = IsTyping p
HasTextFault p (fault.IllTyped decl) = IsTyping p
HasTextFault p fault.SchemeBytes = ListsTypes p
HasTextFault p fault.Overflow = IsRun p
HasTextFault p fault.Read = IsRun p
HasTextFault p (fault.Changed name) = IsRun p
HasTextFault p (fault.BadSource name place) = IsRun p
HasTextFault p fault.FileBytes = IsRun p
HasTextFault p fault.ItemNesting = IsRun p
HasTextFault p f = ⊥

abbrev pub AreFiles : Origin → Type 0
AreFiles (Files path catalogue) = ⊤
AreFiles (Made seed size) = ⊥

-- the faults of a file that is shown or upgraded, beside that of reading it
abbrev pub HasFileFault : Fault → Type 0
HasFileFault fault.Write = ⊤
HasFileFault fault.NoMemory = ⊤
HasFileFault (fault.BadFile place) = ⊤
HasFileFault fault.ItemNesting = ⊤
HasFileFault fault.FileBytes = ⊤
HasFileFault f = ⊥

-- the faults of each command
abbrev pub HasFault : Command → Fault → Type 0
HasFault NoneNamed fault.Usage = ⊤
HasFault NoneNamed fault.NoMemory = ⊤
HasFault NoneNamed f = ⊥
HasFault command fault.Read = ⊤
HasFault (Program p from) fault.ProgramBytes = AreFiles from
HasFault (Program p from) fault.CatalogueBytes = AreFiles from
HasFault (Program p from) (fault.Catalogue byte) = ⊤
HasFault (Program p from) (fault.NameTwice name) = ⊤
HasFault (Program p from) (fault.NoDriver name) = ⊤
HasFault (Program p from) (fault.Unsuited name) = ⊤
HasFault (Program p from) f = HasTextFault p f
HasFault (Show path) f = HasFileFault f
HasFault (Upgrade path word) (fault.NoType byte) = IsTypeFault word (fault.NoType byte)
HasFault (Upgrade path word) fault.Nesting = IsTypeFault word fault.Nesting
HasFault (Upgrade path word) f = HasFileFault f

-- a command ends well, or with one of these faults
abbrev pub IsOneOf : (Fault → Type 0) → Ending → Type 0
IsOneOf Has None = ⊤
IsOneOf Has (Some f) = Has f

-- The faults before which a program prints nothing. Before an overflow items of a list may have been printed, and before
-- a scheme that is too long the lines of others.
abbrev pub IsSilent : Fault → Type 0
IsSilent fault.Write = ⊥
IsSilent fault.NoMemory = ⊥
IsSilent fault.Overflow = ⊥
IsSilent fault.SchemeBytes = ⊥
IsSilent f = ⊤

abbrev pub EndsSilent : Ending → Type 0
EndsSilent None = ⊥
EndsSilent (Some f) = IsSilent f

-- The same of what a run comes to, where Lists says that it is a list: a driver may fail behind items of it.
abbrev pub Unprinted : Type 0 → Ending → Type 0
Unprinted Lists (Some fault.Read) = Lists → ⊥
Unprinted Lists (Some (fault.Changed name)) = Lists → ⊥
Unprinted Lists end = EndsSilent end

-- a source was found unreadable, too long or nested too deep
abbrev pub IsUnreadFault : Fault → Type 0
IsUnreadFault (fault.BadSource name place) = ⊤
IsUnreadFault fault.FileBytes = ⊤
IsUnreadFault fault.ItemNesting = ⊤
IsUnreadFault f = ⊥

-- an end that rests on what drivers tell
abbrev pub NeedsDrivers : Purpose → Ending → Type 0
NeedsDrivers (purpose.Run first) None = ⊤
NeedsDrivers (purpose.Run first) (Some fault.Overflow) = ⊤
NeedsDrivers (purpose.Run first) (Some f) = IsUnreadFault f
NeedsDrivers p end = ⊥

abbrev pub CommandNeedsDrivers : Command → Ending → Type 0
CommandNeedsDrivers (Program p from) end = NeedsDrivers p end
CommandNeedsDrivers command end = ⊥

-- ---- what is done with a program's text

-- A page is printed, or a front of it. No public contract cites this.
pub record PrintsPage (v : Verdict) (end : Ending) (out out' : SinkState) : Type 0 where
  pub ends : (end ≡ v.ending) ⊎ ((end ≡ Some fault.Write) × Rose out.faults out'.faults × (v.page ≢ [])) ⊎ (end ≡ Some fault.NoMemory)
  pub whole : end ≡ v.ending → out'.taken ≡ append_known out.taken v.page
  pub part : TookPart v.page out out'
  pub nothing : v.page ≡ [] → out' ≡ out

-- a name that the program in a text mentions
abbrev pub IsMentionedIn : List Source → List ℕ → Name → Type 0
IsMentionedIn ss text name =
    (q : AProgram) × IsProgramOf (names_of ss) text q × (i : ℕ) × (slice_get (names_of ss) i ≡ Some name) × Mentions q (names_of ss) i

-- the program that a text is gives a list
abbrev pub IsOfList : List Source → List ℕ → Type 0
IsOfList ss text = (q : AProgram) × IsProgramOf (names_of ss) text q
    × GivesList (grounds_of ss) (definitions (names_of ss) q) (last (names_of ss) q)

-- What is done with a text over these sources. No public contract cites this.
pub record DoesText (ss : List Source) (p : Purpose) (text : List ℕ) (end : Ending) (old new : Outside) : Type 0 where
  pub told : (v : Verdict) → IsTextVerdict (kinds_of old.drivers) ss p text v
      → (w : Verdict) × IsTextVerdict (kinds_of old.drivers) ss p text w × SameVerdict (Varies p) v w × FollowsVerdict w end old new
  pub meant : IsDetermined end → (NeedsDrivers p end → AreTold (kinds_of old.drivers) ss (IsMentionedIn ss text))
      → (v : Verdict) × IsTextVerdict (kinds_of old.drivers) ss p text v × (v.ending ≡ end)
  pub read : end ≡ Some fault.Read
      → IsStoredFault (kinds_of old.drivers) ss (IsMentionedIn ss text) fault.Read ⊎ SomeRose (λ d. d.faults) old.drivers new.drivers
  pub write : end ≡ Some fault.Write → Rose old.out.faults new.out.faults
  pub unread : (f : Fault) → end ≡ Some f → IsUnreadFault f → IsUnreadBy ss (IsMentionedIn ss text) f old.drivers new.drivers
  pub changed : (name : Name) → end ≡ Some (fault.Changed name)
      → SomeDrifted ss (λ x. IsMentionedIn ss text x × (x ≡ name)) old.drivers new.drivers
  pub no_other : IsOneOf (HasTextFault p) end
  pub nothing : Unprinted (IsOfList ss text) end → new.out ≡ old.out
  pub drivers : KeepsDrivers (IsMentionedIn ss text) old.drivers new.drivers
  pub still : (IsRun p → ⊥) → new.drivers ≡ old.drivers

-- ---- what a command does

-- the order of refusals comes to a file that is told to be missing
abbrev pub LacksFile : Command → FilesState → List DriverKind → Type 0
LacksFile command files ks = (told : _) × (files.told ≡ Some told) × IsVerdict told ks command (refused fault.Read)

-- P holds of a run's text and its sources, which are those of its files where these are told
abbrev pub OfRun : Command → FilesState → List DriverKind → (List ℕ → List Source → Type 0) → Type 0
OfRun (Program (purpose.Run first) from) files ks P =
    (text : List ℕ) × (ss : List Source)
    × ((told : _) → TellTo from files told → HasInputs told ks from text ss) × P text ss
OfRun command files ks P = ⊥

-- the word was refused that is to be a type
abbrev pub EndsAtType : List ℕ → Ending → Type 0
EndsAtType word None = ⊥
EndsAtType word (Some f) = IsTypeFault word f

-- nothing was printed before this end, where a run's program gives no list
abbrev pub PrintsNothing : Command → FilesState → List DriverKind → Ending → Type 0
PrintsNothing (Show path) files ks end = ⊥
PrintsNothing (Upgrade path word) files ks end = EndsAtType word end
PrintsNothing command files ks end = Unprinted (OfRun command files ks (λ text ss. IsOfList ss text)) end

-- a driver tells that a source which the run's program mentions is missing
abbrev pub LacksSource : Command → Outside → Type 0
LacksSource command old =
    let ks : List DriverKind = kinds_of old.drivers in
    OfRun command old.files ks (λ text ss. IsStoredFault ks ss (IsMentionedIn ss text) fault.Read)

-- a source of this name, which the run's program mentions, drifted
abbrev pub Drifted : Command → Name → Outside → Outside → Type 0
Drifted command name old new =
    OfRun command old.files (kinds_of old.drivers)
    (λ text ss. SomeDrifted ss (λ x. IsMentionedIn ss text x × (x ≡ name)) old.drivers new.drivers)

-- Whether files and drivers tell their bytes or not, each ending has its cause.
pub record IsCaused (command : Command) (end : Ending) (old new : Outside) : Type 0 where
  pub usage : end ≡ Some fault.Usage → command ≡ NoneNamed
  pub no_usage : command ≡ NoneNamed → (end ≡ Some fault.Usage) ⊎ (end ≡ Some fault.NoMemory)
  pub read : end ≡ Some fault.Read
      → LacksFile command old.files (kinds_of old.drivers)
      ⊎ LacksSource command old
      ⊎ Rose old.files.faults new.files.faults
      ⊎ SomeRose (λ d. d.faults) old.drivers new.drivers
  pub write : end ≡ Some fault.Write → Rose old.out.faults new.out.faults
  pub changed : (name : Name) → end ≡ Some (fault.Changed name) → Drifted command name old new
  pub no_other : IsOneOf (HasFault command) end
  -- no file failed, where a command ends otherwise
  pub unfailed : (end ≡ Some fault.Read → ⊥) → new.files.faults ≡ old.files.faults
  pub nothing : PrintsNothing command old.files (kinds_of old.drivers) end → new.out ≡ old.out

-- The same of a source of a program that is unreadable, too long or nested too deep.
abbrev pub UnreadCause : Command → Ending → Outside → Outside → Type 0
UnreadCause (Program p from) end old new =
    (f : Fault) → end ≡ Some f → IsUnreadFault f
    → OfRun (Program p from) old.files (kinds_of old.drivers) (λ text ss. IsUnreadBy ss (IsMentionedIn ss text) f old.drivers new.drivers)
UnreadCause command end old new = ⊤

-- a name that the program of a command mentions
abbrev pub IsMentioned : (List ℕ → Option (List ℕ)) → List DriverKind → Command → Name → Type 0
IsMentioned told ks (Program p from) name =
    (text : List ℕ) × (ss : List Source) × HasInputs told ks from text ss × IsMentionedIn ss text name
IsMentioned told ks command name = ⊥

-- the drivers of the sources that the program of a command mentions tell what they hold
abbrev pub AreMentionedTold : (List ℕ → Option (List ℕ)) → List DriverKind → Command → Type 0
AreMentionedTold told ks (Program p from) =
    (text : List ℕ) (ss : List Source) → HasInputs told ks from text ss → AreTold ks ss (IsMentionedIn ss text)
AreMentionedTold told ks command = ⊤

abbrev pub IsRunning : Command → Type 0
IsRunning (Program p from) = IsRun p
IsRunning command = ⊥

abbrev pub CommandVaries : Command → Type 0
CommandVaries (Program p from) = Varies p
CommandVaries command = ⊥

-- No file and no cursor is open that was not, and the same bytes are told. Only a run attaches sources, and none but
-- those that its program mentions.
pub record IsClosed (command : Command) (old new : Outside) : Type 0 where
  pub left : new.files.left ≡ old.files.left
  pub told : new.files.told ≡ old.files.told
  pub drivers : KeepsDrivers (λ name. ⊤) old.drivers new.drivers
  pub still : (IsRunning command → ⊥) → new.drivers ≡ old.drivers
  pub mentioned : (told : _) → Tell command old.files told
      → KeepsDrivers (IsMentioned told (kinds_of old.drivers) command) old.drivers new.drivers

-- what a command does
pub record Does (command : Command) (end : Ending) (old new : Outside) : Type 0 where
  pub told : (told : _) → Tell command old.files told
      → (v : Verdict) → IsVerdict told (kinds_of old.drivers) command v
      → (w : Verdict) × IsVerdict told (kinds_of old.drivers) command w × SameVerdict (CommandVaries command) v w
      × FollowsVerdict w end old new
  -- the way back
  pub meant : (told : _) → Tell command old.files told
      → IsDetermined end → (CommandNeedsDrivers command end → AreMentionedTold told (kinds_of old.drivers) command)
      → (v : Verdict) × IsVerdict told (kinds_of old.drivers) command v × (v.ending ≡ end)
  pub caused : IsCaused command end old new
  pub unread : UnreadCause command end old new
  pub closed : IsClosed command old new

-- A word that is no type is refused before anything else is done.
abbrev pub RefusesFirst : Command → Ending → Type 0 → Type 0
RefusesFirst (Upgrade path word) end Same = (f : Fault) → IsTypeFault word f → ((end ≡ Some f) ⊎ (end ≡ Some fault.NoMemory)) × Same
RefusesFirst command end Same = ⊤

-- What was printed of a whole file, read again, has the type of the word as its head and the same items.
abbrev pub UpgradesTo : List ℕ → List ℕ → SinkState → SinkState → Type 0
UpgradesTo word bytes out out' =
    (head : Option Ty) (vs : List Value) (behind : FileEnd) → Shows most_read bytes head vs behind
    → (t : Ty) × (page : List ℕ) × ReadsType word t × (out'.taken ≡ append_known out.taken page)
    × ((limit : ℕ) → length page ≤ limit → Shows limit page (Some t) vs WholeText)

abbrev pub ReadsAgain : Command → Ending → FilesState → SinkState → SinkState → Type 0
ReadsAgain (Upgrade path word) None files out out' = (bytes : List ℕ) → Holds files path bytes → UpgradesTo word bytes out out'
ReadsAgain command end files out out' = ⊤
