-- What is told of headers that were changed.
use Rattle.std.proofs.Common.{◌≡◌, ◌<◌, ◌+◌, ℕ, zero, suc, List, [], ◌∷◌, ◌++◌, drop, length, get_or, Some, None, refl, sym, ap, ◌∙◌, arith, append_assoc, append-nil}
use Rattle.csv.specs.Records.{field_at}
use Rattle.kl_base.proofs.Places.{drop_at}
use Rattle.kl_flat.specs.Table.{Record}
use Rattle.kl_tidy.specs.Naming.{note, notes_from}

-- the field of a place stands before those behind it
pub drop_field : (fs : Record) (i : ℕ) (cell : List ℕ) → field_at fs i ≡ Some cell → drop i fs ≡ cell ∷ drop (i + 1) fs
unfolding field_at
drop_field [] i cell at = cc
drop_field (f ∷ fs) zero cell at = let same : f ≡ cell = cc in ap (λ x. x ∷ fs) same
drop_field (f ∷ fs) (suc i) cell at = let next : suc i + 1 ≡ suc (i + 1) = omega arith in rw next (drop_field fs i cell at)

-- behind the last field there is none
pub drop_none : (fs : Record) (i : ℕ) → field_at fs i ≡ None → drop i fs ≡ []
unfolding field_at
drop_none [] zero at = refl
drop_none [] (suc i) at = refl
drop_none (f ∷ fs) zero at = cc
drop_none (f ∷ fs) (suc i) at = drop_none fs i at

-- one column more
pub noted_more : (path : List ℕ) (header names : Record) (i : ℕ) (cell name before after old : List ℕ) → field_at header i ≡ Some cell → i < length names → name ≡ get_or names i name
    → after ≡ before ++ note path (i + 1) cell name
    → before ++ notes_from path (i + 1) (drop i header) (drop i names) ≡ old
    → after ++ notes_from path (i + 1 + 1) (drop (i + 1) header) (drop (i + 1) names) ≡ old
noted_more path header names i cell name before after old at less is adds so_far =
    ap (λ a. a ++ notes_from path (i + 1 + 1) (drop (i + 1) header) (drop (i + 1) names)) adds
    ∙ append_assoc before (note path (i + 1) cell name) (notes_from path (i + 1 + 1) (drop (i + 1) header) (drop (i + 1) names))
    ∙ (λ j. before ++ notes_from path (i + 1) (sym (drop_field header i cell at) j) (sym (drop_at names i name less is) j))
    ∙ so_far

-- no cell more
pub noted_all : (path : List ℕ) (n i : ℕ) (header names : Record) (before old : List ℕ) → field_at header i ≡ None → before ++ notes_from path n (drop i header) (drop i names) ≡ old → before ≡ old
noted_all path n i header names before old at so_far =
    sym (append-nil before) ∙ (λ j. before ++ notes_from path n (sym (drop_none header i at) j) (drop i names)) ∙ so_far

-- no name more
pub noted_end : (path : List ℕ) (n : ℕ) (cells : Record) (before old : List ℕ) → before ++ notes_from path n cells [] ≡ old → before ≡ old
noted_end path n [] before old so_far = sym (append-nil before) ∙ so_far
noted_end path n (cell ∷ cells) before old so_far = sym (append-nil before) ∙ so_far
