-- What a piece that was fetched comes to.
use Rattle.std.proofs.Common.{◌≡◌, ℕ, ◌<◌, true, [], Result, Ok, Err, OnOk, refl, ap}
use Rattle.std.specs.Result.{result_map_both}
use Rattle.kl_base.specs.Counts.{Rose}
use Rattle.kl_exchange.specs.FileReading.{FetchesPiece, FileReading, HasRead, Left, to_come}
use Rattle.kl_exchange.specs.declared.FileError.{FileError}
use Rattle.kl_exchange.specs.declared.FileError.TheVariants as file
use Rattle.kl_json.specs.Files.{FetchesOn, Reading, fetch_fault}
use Rattle.kl_json.specs.declared.choices.Refusal.{Refusal}
use Rattle.kl_json.specs.declared.reader.JsonError.{JsonError}
use Rattle.kl_json.specs.declared.reader.JsonError.TheVariants as error
use Rattle.kl_outside.specs.Files.{FilesState}

-- the answer of a fetch
abbrev pub fetched_as : Result (Unit {0}) FileError → Result (Unit {0}) JsonError
fetched_as r = result_map_both (λ u. u) fetch_fault r

module _ (old new : Reading) (files files' : FilesState) (place : new.place ≡ old.place) where
  abbrev Goes : Type 0
  Goes = (first : Left) → HasRead first [] old.items (files.left old.items.file) → HasRead first [] new.items (files'.left old.items.file)

  on : (r : Result (Unit {0}) FileError) (q : Result (Unit {0}) JsonError) → FetchesPiece r old.items new.items files files'
      → OnOk q (to_come new.items < to_come old.items) → (q ≡ Err error.Read → Rose files.faults files'.faults) → Goes
      → ((k : Refusal) (p : ℕ) → q ≡ Err (error.Refused k p) → ⊥)
      → ((first : Left) → HasRead first [] old.items (files.left old.items.file) → q ≡ Err error.TooLong → new.items.past ≡ true)
      → FetchesOn q old new files files'
  on r q f less failed goes plain long = record {
    file = ap (λ (i : FileReading). i.file) f.same;
    place = place;
    fresh = f.fresh;
    limit = ap (λ (i : FileReading). i.limit) f.same;
    less = less;
    keeps = record { told = f.leaves.told; others = f.leaves.others; is_open = f.leaves.is_open; later = f.leaves.later };
    failed = failed;
    goes = goes;
    plain = plain;
    long = long;
  }

  pub fetches_on : (r : Result (Unit {0}) FileError) → FetchesPiece r old.items new.items files files' → FetchesOn (fetched_as r) old new files files'
  fetches_on (Ok u) f = on (Ok u) (Ok u) f f.less (λ e. absurd cc) (λ first h. f.goes first [] h) (λ k p e. cc) (λ first h e. absurd cc)
  fetches_on (Err file.Read) f = on (Err file.Read) (Err error.Read) f tt (λ e. f.leaves.failed refl) (λ first h. f.goes first [] h) (λ k p e. cc) (λ first h e. absurd cc)
  fetches_on (Err file.NoMemory) f =
      on (Err file.NoMemory) (Err error.NoMemory) f tt (λ e. absurd cc) (λ first h. f.goes first [] h) (λ k p e. cc) (λ first h e. absurd cc)
  fetches_on (Err file.TooLong) f =
      on (Err file.TooLong) (Err error.TooLong) f tt (λ e. absurd cc) (λ first h. (f.goes first [] h).0) (λ k p e. cc) (λ first h e. (f.goes first [] h).1)
  fetches_on (Err (file.Bad p)) f =
      on (Err (file.Bad p)) (Err (error.Bad p)) f tt (λ e. absurd cc) (λ first h. absurd (f.goes first [] h)) (λ k q e. cc) (λ first h e. absurd cc)
  fetches_on (Err (file.TooDeep p)) f =
      on (Err (file.TooDeep p)) (Err (error.TooDeep p)) f tt (λ e. absurd cc) (λ first h. absurd (f.goes first [] h)) (λ k q e. cc) (λ first h e. absurd cc)
