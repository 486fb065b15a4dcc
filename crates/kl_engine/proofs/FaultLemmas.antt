-- Parts are written one behind the other.
use Rattle.std.proofs.Common.{◌≡◌, ℕ, ◌+◌, ◌<◌, ◌≤◌, List, [], ◌∷◌, ◌++◌, length, get_or, take, drop, Ok, Err, sym, ap, subst, ◌∙◌, append-nil, take-append-drop}
use Rattle.std.specs.List.{flat_map}
use Rattle.std.proofs.lemmas.Grind.{flat_map-append}
use Rattle.std.proofs.lemmas.List.{take_all, take_more}
use Rattle.kl_outside.specs.Sinks.{SinkState, WritesWhole}
use Rattle.kl_outside.specs.declared.stop.Stop.{Stop}
use Rattle.kl_outside.proofs.SinkLemmas.{writes_nothing, writes_then, writes_stopped}

-- so many parts were written
pub record Wrote {A : Type 0} (bytes : A → List ℕ) (parts : List A) (count : ℕ) (old new : SinkState) : Type 0 where
  pub writes : WritesWhole {T = Unit {0}} (flat_map bytes (take count parts)) (Ok tt) old new

module _ {A : Type 0} (bytes : A → List ℕ) (parts : List A) (old : SinkState) where
  pub wrote_none : Wrote bytes parts 0 old old
  wrote_none = record { writes = writes_nothing {T = Unit {0}} tt old }

  more : (count : ℕ) (x : A) → count < length parts → flat_map bytes (take (count + 1) parts) ≡ flat_map bytes (take count parts) ++ bytes (get_or parts count x)
  more count x less =
      ap (flat_map bytes) (take_more parts count x less)
      ∙ (flat_map-append bytes (take count parts) (get_or parts count x ∷ [])
      ∙ ap (λ bs. flat_map bytes (take count parts) ++ bs) (append-nil (bytes (get_or parts count x))))

  pub wrote_more : (count : ℕ) (x : A) (mid new : SinkState) → count < length parts → Wrote bytes parts count old mid → WritesWhole {T = Unit {0}} (bytes (get_or parts count x)) (Ok tt) mid new → Wrote bytes parts (count + 1) old new
  wrote_more count x mid new less wrote writes = record {
    writes = subst (λ bs. WritesWhole {T = Unit {0}} bs (Ok tt) old new) (sym (more count x less)) (writes_then (flat_map bytes (take count parts)) (bytes (get_or parts count x)) tt (Ok tt) old mid new wrote.writes writes);
  }

  pub wrote_all : (count : ℕ) (new : SinkState) → length parts ≤ count → Wrote bytes parts count old new → WritesWhole {T = Unit {0}} (flat_map bytes parts) (Ok tt) old new
  wrote_all count new all wrote = subst (λ ps. WritesWhole {T = Unit {0}} (flat_map bytes ps) (Ok tt) old new) (take_all count parts all) wrote.writes

  pub wrote_part : (count : ℕ) (x : A) (stop : Stop) (mid new : SinkState) → count < length parts → Wrote bytes parts count old mid → WritesWhole {T = Unit {0}} (bytes (get_or parts count x)) (Err stop) mid new → WritesWhole {T = Unit {0}} (flat_map bytes parts) (Err stop) old new
  wrote_part count x stop mid new less wrote writes =
      let all : flat_map bytes parts ≡ flat_map bytes (take (count + 1) parts) ++ flat_map bytes (drop (count + 1) parts) =
      ap (flat_map bytes) (sym (take-append-drop (count + 1) parts)) ∙ flat_map-append bytes (take (count + 1) parts) (drop (count + 1) parts) in
      let front : WritesWhole {T = Unit {0}} (flat_map bytes (take (count + 1) parts)) (Err stop) old new =
      subst (λ bs. WritesWhole {T = Unit {0}} bs (Err stop) old new) (sym (more count x less)) (writes_then (flat_map bytes (take count parts)) (bytes (get_or parts count x)) tt (Err stop) old mid new wrote.writes writes) in
      subst (λ bs. WritesWhole {T = Unit {0}} bs (Err stop) old new) (sym all) (writes_stopped {T = Unit {0}} {U = Unit {0}} (flat_map bytes (take (count + 1) parts)) (flat_map bytes (drop (count + 1) parts)) stop old new front)
