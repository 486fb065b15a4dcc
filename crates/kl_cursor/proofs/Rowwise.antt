-- The rows of a scan, one after the other.
use Rattle.std.proofs.Common.{◌≡◌, ◌⊎◌, ⊎_elim, inl, inr, ℕ, ◌+◌, ◌-◌, ◌*◌, ◌<◌, ◌≤◌, List, [], ◌∷◌, ◌++◌, length, take, drop, get_or, sym, ap, ◌∙◌, arith}
use mathlib.Core.Path.{ap₂}
use Rattle.std.specs.List.{sum_by}
use Rattle.std.proofs.lemmas.List.{length-drop, drop_more, take-take, length-append}
use Rattle.std.proofs.lemmas.List.Sums.{sum_by_more, sum_by-take-drop}
use Rattle.kl_value.specs.declared.Value.{Value}
use Rattle.kl_outcome.specs.Outcome.{Flow, more, fine, flow, items_in, end_in}
use Rattle.kl_outcome.proofs.Flows.{flow_items, flow_end, flow_is}
use Rattle.kl_cursor.specs.Laziness.{ByTimes}

pub flow_rows : (xs ys : List Value) → flow xs fine ≡ flow ys fine → xs ≡ ys
flow_rows xs ys e = sym (flow_items xs fine) ∙ ap items_in e ∙ flow_items ys fine

-- the next row
module _ (all : List Value) (n : ℕ) (v : Value) (rest : List Value) (e : drop n all ≡ v ∷ rest) where
  pub row_within : n < length all
  row_within = let x : length (drop n all) ≡ length (v ∷ rest) = ap length e in let y = length-drop n all in omega arith

  row_is : get_or all n v ≡ v
  row_is = let x : get_or all n v ∷ drop (n + 1) all ≡ v ∷ rest = sym (drop_more all n v row_within) ∙ e in cc

  pub rows_behind : rest ≡ drop (n + 1) all
  rows_behind = let x : get_or all n v ∷ drop (n + 1) all ≡ v ∷ rest = sym (drop_more all n v row_within) ∙ e in cc

  pub row_more : (f : Value → ℕ) → sum_by f (take (n + 1) all) ≡ sum_by f (take n all) + f v
  row_more f = sum_by_more f all n v row_within ∙ ap (λ z. sum_by f (take n all) + f z) row_is

pub next_row : (v : Value) (f : Flow) (all : List Value) (n : ℕ) → more v f ≡ flow (drop n all) fine → drop n all ≡ v ∷ items_in f
next_row v f all n e = sym (flow_items (drop n all) fine) ∙ ap items_in (sym e)

pub next_rows : (v : Value) (f : Flow) (all : List Value) (n : ℕ) → more v f ≡ flow (drop n all) fine → f ≡ flow (drop (n + 1) all) fine
next_rows v f all n e = flow_is f ∙ ap₂ flow (rows_behind all n v (items_in f) (next_row v f all n e)) (ap end_in e ∙ flow_end (drop n all) fine)

-- the first rows give no more than more of them
pub first_fewer : (f : Value → ℕ) (all : List Value) (m n : ℕ) → m ≤ n → sum_by f (take m all) ≤ sum_by f (take n all)
first_fewer f all m n h =
    let x = sum_by-take-drop f (take n all) m in
    let y : sum_by f (take m (take n all)) ≡ sum_by f (take m all) = ap (sum_by f) (take-take m n all h) in
    omega arith

-- rows that were handed, as many as are fetched at once or all that were left
pub by_times : (fetch : ℕ) (all rows rest : List Value) (n : ℕ) → drop n all ≡ rows ++ rest → 0 < length rows → (length rows ≡ fetch) ⊎ (rest ≡ []) → ByTimes fetch all n → ByTimes fetch all (n + length rows)
by_times fetch all rows rest n e some how = ⊎_elim (λ t. ⊎_elim (λ h. inl (t.0 + 1, let p : n ≡ t.0 * fetch = t.1 in grind arith)) (λ h. inr (all_handed h)) how) (λ t. absurd (none_left t))
  where
    counted : length all - n ≡ length (rows ++ rest)
    counted = sym (length-drop n all) ∙ ap length e

    none_left : n ≡ length all → ⊥
    none_left t = let x = counted in let y = length-append rows rest in omega arith

    all_handed : rest ≡ [] → n + length rows ≡ length all
    all_handed h = let x = counted in let y = length-append rows rest in let z : length rest ≡ 0 = ap length h in omega arith
