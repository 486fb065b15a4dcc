-- What a match on a slice binds: the first bytes, and all that is behind them.
use Rattle.std.proofs.Common.{◌≡◌, ℕ, ◌-◌, ◌≤◌, List, [], ◌∷◌, ◌++◌, length, take, drop, get_or, sym, ap, ◌∙◌, arith}
use Rattle.std.proofs.lemmas.List.{take_all, take-append-drop}

pub first_and_rest : (s : List ℕ) → 1 ≤ length s → s ≡ get_or s 0 0 ∷ take (length s - 1) (drop 1 s)
first_and_rest [] h = absurd (omega arith)
first_and_rest (x ∷ s) h = ap (λ (z : List ℕ). x ∷ z) (sym (take_all _ s (omega arith)))

pub begins : (s : List ℕ) (b : ℕ) → 1 ≤ length s → get_or s 0 0 ≡ b → s ≡ b ∷ take (length s - 1) (drop 1 s)
begins s b h e = first_and_rest s h ∙ ap (λ (z : ℕ). z ∷ take (length s - 1) (drop 1 s)) e

pub two_and_rest : (s : List ℕ) → 2 ≤ length s → s ≡ get_or s 0 0 ∷ get_or s 1 0 ∷ take (length s - 2) (drop 2 s)
two_and_rest [] h = absurd (omega arith)
two_and_rest (x ∷ []) h = absurd (omega arith)
two_and_rest (x ∷ y ∷ s) h = ap (λ (z : List ℕ). x ∷ y ∷ z) (sym (take_all _ s (omega arith)))

-- a cut in two
pub cut : (s front back : List ℕ) (n : ℕ) → front ≡ take n s → back ≡ drop n s → s ≡ front ++ back
cut s front back n e f = rw (e, f) (sym (take-append-drop n s))
