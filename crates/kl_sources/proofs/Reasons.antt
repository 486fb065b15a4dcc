-- What is wrong with the entries of a catalogue is never want of memory.
use Rattle.std.proofs.Common.{ℕ, Bool, true, false, List, [], ◌∷◌, Option, Some, None, Result, Ok, Err, cond}
use Rattle.kl_outcome.specs.Outcome.{Name}
use Rattle.kl_ask.specs.Driver.{DriverKind}
use Rattle.kl_catalogue.specs.declared.reading.Entry.{Entry}
use Rattle.kl_sources.specs.Sources.{sources_of, in_front, is_taken, at_driver, driver_named}
use Rattle.kl_sources.specs.declared.source.Source.{Source}
use Rattle.kl_sources.specs.declared.placing.PlaceError.{PlaceError}
use Rattle.kl_sources.specs.declared.placing.PlaceError.TheVariants as place

-- an error that is no want of memory
abbrev pub IsReason : Result (List Source) PlaceError → Type 0
IsReason (Err place.NoMemory) = ⊥
IsReason r = Unit {0}

at_reason : (e : Entry) (found : Option (ℕ × DriverKind)) (r : Result (List Source) PlaceError) → IsReason r → IsReason (in_front (at_driver e found) r)
at_reason e None r rest = tt
at_reason e (Some (i, k)) r rest = suits_reason (k.suits e.ty)
  where
    suits_reason : (b : Bool) → IsReason (in_front (cond b (Ok (record { name = e.name; ty = e.ty; driver = i; locator = e.locator })) (Err (place.Unsuited e.name))) r)
    suits_reason true = front_reason (record { name = e.name; ty = e.ty; driver = i; locator = e.locator }) r rest
      where
        front_reason : (s : Source) (q : Result (List Source) PlaceError) → IsReason q → IsReason (in_front (Ok s) q)
        front_reason s (Ok ss) is = tt
        front_reason s (Err x) is = is
    suits_reason false = tt

taken_reason : (taken : Bool) (e : Entry) (found : Option (ℕ × DriverKind)) (r : Result (List Source) PlaceError) → IsReason r → IsReason (in_front (cond taken (Err (place.Twice e.name)) (at_driver e found)) r)
taken_reason true e found r rest = tt
taken_reason false e found r rest = at_reason e found r rest

-- sources that are wrong are so for a reason
pub sources_reason : (ks : List DriverKind) (before : List Name) (es : List Entry) → IsReason (sources_of ks before es)
sources_reason ks before [] = tt
sources_reason ks before (e ∷ es) = taken_reason (is_taken before e.name) e (driver_named e.driver ks) (sources_of ks (e.name ∷ before) es) (sources_reason ks (e.name ∷ before) es)
