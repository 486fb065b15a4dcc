-- Rows that are made one after another.
use Rattle.std.proofs.Common.{◌≡◌, ℕ, zero, suc, ◌+◌, List, [], ◌∷◌, ◌++◌, length, sym, ap, ◌∙◌, refl, arith, append_assoc}
use Rattle.kl_value.specs.declared.Value.{Value}
use Rattle.kl_tools.specs.Made.{made_row, rows_from}

pub row_more : (seed i left left' : ℕ) (rows rows' all : List Value) → left ≡ suc left' → rows' ≡ rows ++ made_row seed i ∷ [] → rows ++ rows_from seed i left ≡ all → rows' ++ rows_from seed (i + 1) left' ≡ all
row_more seed i left left' rows rows' all e is h =
    let next : suc i ≡ i + 1 = omega arith in
    ap (λ xs. xs ++ rows_from seed (i + 1) left') is
    ∙ append_assoc rows (made_row seed i ∷ []) (rows_from seed (i + 1) left')
    ∙ ap (λ k. rows ++ made_row seed i ∷ rows_from seed k left') (sym next)
    ∙ ap (λ n. rows ++ rows_from seed i n) (sym e)
    ∙ h

-- the first rows, and those behind them
pub rows_split : (seed i k n m : ℕ) → m ≡ k + n → rows_from seed i m ≡ rows_from seed i k ++ rows_from seed (i + k) n
rows_split seed i zero n m e =
    let all : m ≡ n = omega (arith, e) in
    let none : i ≡ i + 0 = omega arith in
    ap (rows_from seed i) all ∙ ap (λ j. rows_from seed j n) none
rows_split seed i (suc k) n zero e = absurd (omega (arith, e))
rows_split seed i (suc k) n (suc m) e =
    let fewer : m ≡ k + n = omega (arith, e) in
    let next : suc i + k ≡ i + suc k = omega arith in
    ap (λ rows. made_row seed i ∷ rows) (rows_split seed (suc i) k n m fewer ∙ ap (λ j. rows_from seed (suc i) k ++ rows_from seed j n) next)

pub rows_length : (seed i n : ℕ) → length (rows_from seed i n) ≡ n
rows_length seed i zero = refl
rows_length seed i (suc n) = ap suc (rows_length seed (suc i) n)
