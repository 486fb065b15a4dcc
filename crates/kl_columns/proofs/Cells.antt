-- The cells of a header, one after another.
use Rattle.std.proofs.Common.{◌≡◌, ◌+◌, ℕ, zero, suc, List, [], ◌∷◌, ◌++◌, take, drop, filter, cond, Some, sym, ap, ◌∙◌, add-one, append_assoc, nat_eq}
use Rattle.std.specs.Cmp.Lexicographic.{pointwise}
use Rattle.std.proofs.lemmas.List.Elements.{filter-append}
use Rattle.csv.specs.Records.{field_at}
use Rattle.kl_flat.specs.Table.{Record, times}
use Rattle.kl_flat.proofs.Placing.{count_step}
use Rattle.kl_columns.specs.Headers.{is_nameable, nameable, note, notes_from, notes_of}

drop_field : (fs : Record) (i : ℕ) (cell : List ℕ) → field_at fs i ≡ Some cell → drop i fs ≡ cell ∷ drop (suc i) fs
unfolding field_at
drop_field [] i cell e = cc
drop_field (f ∷ fs) zero cell e = let same : f ≡ cell = cc in ap (λ x. x ∷ fs) same
drop_field (f ∷ fs) (suc i) cell e = drop_field fs i cell e

-- so far and what is left is all
abbrev pub Left : List ℕ → Record → ℕ → List (List ℕ) → List ℕ → List ℕ → Type 0
Left path header i labels notes before =
    (labels ++ filter (is_nameable header) (drop i header) ≡ nameable header)
    × (notes ++ notes_from path header (i + 1) (drop i header) ≡ before ++ notes_of path header)

pub left_more : (path : List ℕ) (header : Record) (i : ℕ) (cell : List ℕ) (labels : List (List ℕ)) (notes before : List ℕ) (labels' : List (List ℕ)) (notes' : List ℕ) → field_at header i ≡ Some cell
    → labels' ≡ labels ++ filter (is_nameable header) (cell ∷ []) → notes' ≡ notes ++ note path header (i + 1) cell → Left path header i labels notes before → Left path header (i + 1) labels' notes' before
left_more path header i cell labels notes before labels' notes' at grown told left =
    let next : drop i header ≡ cell ∷ drop (i + 1) header = drop_field header i cell at ∙ ap (λ n. cell ∷ drop n header) (sym (add-one i)) in
    let rest : List (List ℕ) = drop (i + 1) header in (
      ap (λ ls. ls ++ filter (is_nameable header) rest) grown ∙ append_assoc labels (filter (is_nameable header) (cell ∷ [])) (filter (is_nameable header) rest)
          ∙ ap (λ ls. labels ++ ls) (sym (filter-append (is_nameable header) (cell ∷ []) rest)) ∙ ap (λ cs. labels ++ filter (is_nameable header) cs) (sym next) ∙ left.0,
      ap (λ ns. ns ++ notes_from path header (i + 1 + 1) rest) told ∙ append_assoc notes (note path header (i + 1) cell) (notes_from path header (i + 1 + 1) rest)
          ∙ ap (λ cs. notes ++ notes_from path header (i + 1) cs) (sym next) ∙ left.1,
    )

-- one more cell is counted
pub times_more : (name : List ℕ) (header : Record) (i : ℕ) (cell : List ℕ) (count : ℕ) → field_at header i ≡ Some cell → count ≡ times name (take i header) → count + cond (pointwise nat_eq name cell) 1 0 ≡ times name (take (i + 1) header)
times_more name header i cell count at is = ap (λ n. n + cond (pointwise nat_eq name cell) 1 0) is ∙ sym (count_step name header i cell at) ∙ ap (λ n. times name (take n header)) (sym (add-one i))
