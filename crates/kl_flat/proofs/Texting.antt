-- One more text behind the others.
use Rattle.std.proofs.Common.{◌≡◌, ◌<◌, ◌≤◌, ◌-◌, ℕ, zero, suc, List, [], ◌∷◌, ◌++◌, length, take, drop, refl, ap, ◌∙◌, arith, length-append}
use Rattle.std.specs.List.{slice_range, slice_index}
use Rattle.std.proofs.lemmas.Grind.{common_steps}
use Rattle.std.proofs.lemmas.List.{drop-append-le, drop_at, length-drop, take-append-le}
use Rattle.kl_flat.specs.Texts.{start}

abbrev IsOrdered : List ℕ → Type 0
IsOrdered ends = (i : ℕ) → i < length ends → start ends i ≤ slice_index ends i

abbrev IsWithin : List ℕ → List ℕ → Type 0
IsWithin bytes ends = (i : ℕ) → i < length ends → slice_index ends i ≤ length bytes

index_front : (ends : List ℕ) (e i : ℕ) → i < length ends → slice_index (ends ++ e ∷ []) i ≡ slice_index ends i
index_front ends e i lt = grind (arith, common_steps)

index_last : (ends : List ℕ) (e i : ℕ) → i ≡ length ends → slice_index (ends ++ e ∷ []) i ≡ e
index_last ends e i is = grind (arith, common_steps)

start_front : (ends : List ℕ) (e i : ℕ) → i ≤ length ends → start (ends ++ e ∷ []) i ≡ start ends i
start_front ends e zero le = refl
start_front ends e (suc i) le = index_front ends e i (omega arith)

module _ (bytes text ends : List ℕ) (e : ℕ) (last : e ≡ length (bytes ++ text)) (ordered : IsOrdered ends) (within : IsWithin bytes ends) (whole : start ends (length ends) ≡ length bytes) where
  pub text_before : (i : ℕ) → i < length ends
      → slice_range (bytes ++ text) (start (ends ++ e ∷ []) i) (slice_index (ends ++ e ∷ []) i) ≡ slice_range bytes (start ends i) (slice_index ends i)
  text_before i lt =
      (λ j. slice_range (bytes ++ text) (start_front ends e i (omega arith) j) (index_front ends e i lt j))
      ∙ ap (take (slice_index ends i - start ends i)) (drop-append-le (start ends i) bytes text (omega (arith, ordered i lt, within i lt)))
      ∙ take-append-le (slice_index ends i - start ends i) (drop (start ends i) bytes) text (omega (arith, length-drop (start ends i) bytes, within i lt))

  pub text_last : slice_range (bytes ++ text) (start (ends ++ e ∷ []) (length ends)) (slice_index (ends ++ e ∷ []) (length ends)) ≡ text
  text_last =
      (λ j. slice_range (bytes ++ text) ((start_front ends e (length ends) (omega arith) ∙ whole) j) ((index_last ends e (length ends) refl ∙ last) j))
      ∙ ap (take (length (bytes ++ text) - length bytes)) (drop_at bytes text (length bytes) refl)
      ∙ all
    where
      all : take (length (bytes ++ text) - length bytes) text ≡ text
      all = let few : length text ≤ length (bytes ++ text) - length bytes = omega (arith, length-append bytes text) in grind (arith, common_steps)
