-- What is found of a program's text and of its sources.
use Rattle.std.proofs.Common.{◌≡◌, ℕ, All, Bool, List, Some, slice_get, Ok, Err, sym, subst}
use Rattle.std.proofs.lemmas.List.Elements.{All-from_recursion, All-map}
use Rattle.kl_ask.specs.Driver.{DriverKind, State}
use Rattle.kl_infer.specs.Inferred.{types_of}
use Rattle.kl_scope.specs.Breaches.{is_marked}
use Rattle.kl_scope.specs.Senses.{Name}
use Rattle.kl_scope.specs.declared.scoped.Scoped.{Scoped}
use Rattle.kl_sources.specs.Attaching.{Causes}
use Rattle.kl_sources.specs.Sources.{ArePlaced, grounds_of, names_of}
use Rattle.kl_sources.specs.Sources as sources
use Rattle.kl_sources.specs.declared.attaching.AttachError.{AttachError}
use Rattle.kl_sources.specs.declared.source.Source.{Source}
use Rattle.kl_type.specs.Ground.{IsProper}
use Rattle.kl_type.specs.declared.ground.Ty.{Ty}
use Rattle.kl_why.specs.Finding.{Attaches, FindsIn, IsOfName, Refuses, TellsTyping}
use Rattle.kl_why.specs.Programs.{IsWell, IsWrong}
use Rattle.kl_why.specs.Refused.{BlamesSource, Told}
use Rattle.kl_why.specs.Untyped.{IsUntyped}
use Rattle.kl_why.specs.Whys.{Found}
use Rattle.kl_why.specs.declared.why.Why.{Why}
use Rattle.kl_why.specs.declared.why.Why.TheVariants as why
use Rattle.kl_why.specs.declared.wrong.Wrong.{Wrong}
use Rattle.kl_why.specs.declared.wrong.Wrong.TheVariants as wrong

-- ---- sources

refused : (told : Told) (ds ds' : List State) (marks : ℕ → Bool) (ss : List Source) (w : Why) → Refuses told ds ds' marks ss w → Attaches told ds ds' marks ss (Err w)
refused told ds ds' marks ss (why.Unread it) r = r
refused told ds ds' marks ss (why.TooLong it) r = r
refused told ds ds' marks ss (why.Catalogue w s) r = r
refused told ds ds' marks ss (why.Program w s) r = r
refused told ds ds' marks ss (why.Untyped reason s) r = r
refused told ds ds' marks ss (why.Source n u s) r = r
refused told ds ds' marks ss (why.SourceAt n u p) r = r
refused told ds ds' marks ss (why.SourceUnread n p) r = r
refused told ds ds' marks ss (why.SourceLong n m) r = r
refused told ds ds' marks ss why.NoMemory r = tt

-- the source of the refusal is one of these, and this is told of it
pub refused_there : (told : Told) (ds ds' : List State) (marks : ℕ → Bool) (ss kept : List Source) (e : AttachError) (s : Source) (w : Why) → Causes marks ss ds ds' e → kept ≡ ss
    → IsOfName e.source kept (Some s) → BlamesSource told s e.error w → Attaches told ds ds' marks ss (Err w)
refused_there told ds ds' marks ss kept e s w causes same ((i, at), named) blames =
    refused told ds ds' marks ss w (e, i, s, causes, subst (λ l. slice_get l i ≡ Some s) same at, named, blames)

pub proper_types : (ks : List DriverKind) (ss : List Source) → ArePlaced ks ss → All (λ s. IsProper s.1) (sources.types_of ss)
proper_types ks ss placed = All-map (λ s. IsProper s.1) (λ (s : Source). (s.name, s.ty)) ss (All-from_recursion (λ (s : Source). IsProper s.ty) ss placed.proper)

-- ---- the text

module _ (told : Told) (ds ds' : List State) (path bytes : List ℕ) (ss : List Source) where
  attached : (found : Found) (s : Scoped) → IsWell (names_of ss) (grounds_of ss) bytes s → Attaches told ds ds' (is_marked s) ss found → FindsIn told ds ds' path bytes ss found
  attached (Ok done) s well stand = (s, well, stand)
  attached (Err why.NoMemory) s well r = tt
  attached (Err (why.Unread it)) s well (e, i, t, causes, at, named, blames) = absurd blames
  attached (Err (why.TooLong it)) s well (e, i, t, causes, at, named, blames) = absurd blames
  attached (Err (why.Catalogue w o)) s well (e, i, t, causes, at, named, blames) = absurd blames
  attached (Err (why.Program w o)) s well (e, i, t, causes, at, named, blames) = absurd blames
  attached (Err (why.Untyped reason o)) s well (e, i, t, causes, at, named, blames) = absurd blames
  attached (Err (why.Source n u o)) s well r = (s, well, r)
  attached (Err (why.SourceAt n u p)) s well r = (s, well, r)
  attached (Err (why.SourceUnread n p)) s well r = (s, well, r)
  attached (Err (why.SourceLong n m)) s well r = (s, well, r)

  -- the names and the types are those of the sources
  pub attached_as : (names : List Name) (types : List (Name × Ty)) (found : Found) (s : Scoped) → names ≡ names_of ss → types ≡ sources.types_of ss → IsWell names (types_of types) bytes s
      → Attaches told ds ds' (is_marked s) ss found → FindsIn told ds ds' path bytes ss found
  attached_as names types found s named typed well =
      attached found s (subst (λ ts. IsWell (names_of ss) (types_of ts) bytes s) typed (subst (λ ns. IsWell ns (types_of types) bytes s) named well))

  wrong_as : (names : List Name) (types : List (Name × Ty)) (w : Wrong) (byte : ℕ) → names ≡ names_of ss → types ≡ sources.types_of ss → IsWrong names (types_of types) bytes w byte
      → IsWrong (names_of ss) (grounds_of ss) bytes w byte
  wrong_as names types w byte named typed is =
      subst (λ ts. IsWrong (names_of ss) (types_of ts) bytes w byte) typed (subst (λ ns. IsWrong ns (types_of types) bytes w byte) named is)

  -- what is told of a program without types
  pub untyped_there : (names names' : List Name) (types types' : List (Name × Ty)) (byte : ℕ) (w : Why) → names ≡ names_of ss → names' ≡ names_of ss → types ≡ sources.types_of ss → types' ≡ sources.types_of ss
      → IsWrong names (types_of types) bytes wrong.NoTyping byte → TellsTyping names' (types_of types') path bytes byte w → FindsIn told ds ds' path bytes ss (Err w)
  untyped_there names names' types types' byte (why.Untyped reason s) named named' typed typed' is (at, same, untyped) = (
    at,
    same,
    (byte, wrong_as names types wrong.NoTyping byte named typed is),
    subst (λ ts. IsUntyped (names_of ss) (types_of ts) bytes s.byte) typed' (subst (λ ns. IsUntyped ns (types_of types') bytes s.byte) named' untyped),
  )
  untyped_there names names' types types' byte (why.Program w s) named named' typed typed' is (wrong_is, at, same, byte_is) = (
    at,
    same,
    subst (λ x. IsWrong (names_of ss) (grounds_of ss) bytes x s.byte) (sym wrong_is) (subst (λ b. IsWrong (names_of ss) (grounds_of ss) bytes wrong.NoTyping b) (sym byte_is)
        (wrong_as names types wrong.NoTyping byte named typed is)),
  )
  untyped_there names names' types types' byte (why.Unread it) named named' typed typed' is tells = absurd tells
  untyped_there names names' types types' byte (why.TooLong it) named named' typed typed' is tells = absurd tells
  untyped_there names names' types types' byte (why.Catalogue w s) named named' typed typed' is tells = absurd tells
  untyped_there names names' types types' byte (why.Source n u s) named named' typed typed' is tells = absurd tells
  untyped_there names names' types types' byte (why.SourceAt n u p) named named' typed typed' is tells = absurd tells
  untyped_there names names' types types' byte (why.SourceUnread n p) named named' typed typed' is tells = absurd tells
  untyped_there names names' types types' byte (why.SourceLong n m) named named' typed typed' is tells = absurd tells
  untyped_there names names' types types' byte why.NoMemory named named' typed typed' is tells = absurd tells
