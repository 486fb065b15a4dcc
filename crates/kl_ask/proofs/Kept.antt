-- Kept lists of asks.
use Rattle.std.proofs.Common.{◌≡◌, ◌<◌, ◌≤◌, ◌+◌, ℕ, true, List, [], ◌∷◌, ◌++◌, length, get_or, set, take, drop, refl, sym, ◌∙◌, ap, subst, arith, drop-cons, slice_get, Some}
use Rattle.std.proofs.lemmas.Grind.{common_steps}
use Rattle.std.proofs.lemmas.List.{take-append-drop, take-set, drop-set-lt}
use Rattle.std.proofs.lemmas.Option.{gets, slice_get_read}
use Rattle.kl_ask.specs.Asked.{same_ask, raised_by, with_ask, all_times}
use Rattle.kl_ask.specs.declared.ask.Ask.{Ask}

put_at : {T : Type 0} (xs : List T) (i : ℕ) (y : T) → i < length xs → set xs i y ≡ take i xs ++ y ∷ drop (i + 1) xs
put_at xs i y lt =
    let there : slice_get (set xs i y) i ≡ Some y = grind (arith, gets, common_steps) in
    let front : drop i (set xs i y) ≡ y ∷ drop (i + 1) (set xs i y) = grind (arith, gets, common_steps, drop-cons) in
    let rest : drop (i + 1) (set xs i y) ≡ drop (i + 1) xs = drop-set-lt (i + 1) xs i y (omega arith) in
    sym (take-append-drop i (set xs i y)) ∙ ap (λ t. t ++ drop i (set xs i y)) (take-set xs i y) ∙ ap (λ d. take i xs ++ d) (front ∙ ap (λ d. y ∷ d) rest)

pub counted_at : (asked whole : List (Ask × ℕ)) (i n : ℕ) (kept : Ask × ℕ) (ask : Ask) → asked ≡ whole → i < length asked → kept ≡ get_or asked i kept → true ≡ same_ask kept.0 ask → n ≡ raised_by 1 kept.1 → with_ask ask whole ≡ take i whole ++ with_ask ask (drop i whole) → set asked i (kept.0, n) ≡ with_ask ask whole
counted_at asked whole i n kept ask same lt is eq more rest =
    let front : drop i whole ≡ kept ∷ drop (i + 1) whole =
    let there : slice_get whole i ≡ Some kept = subst (λ xs. slice_get xs i ≡ Some kept) same (slice_get_read asked (length asked) i kept refl lt is) in
    grind (arith, gets, common_steps, drop-cons) in
    let first : with_ask ask (kept ∷ drop (i + 1) whole) ≡ (kept.0, raised_by 1 kept.1) ∷ drop (i + 1) whole = rw (sym eq) refl in
    put_at asked i (kept.0, n) lt ∙ ap (λ xs. take i xs ++ (kept.0, n) ∷ drop (i + 1) xs) same ∙ ap (λ m. take i whole ++ (kept.0, m) ∷ drop (i + 1) whole) more ∙ sym (rest ∙ ap (λ xs. take i whole ++ with_ask ask xs) front ∙ ap (λ xs. take i whole ++ xs) first)

pub none_left : (asked : List (Ask × ℕ)) (i : ℕ) → length asked ≤ i → all_times (drop i asked) ≡ 0
none_left asked i is = let none : drop i asked ≡ [] = grind (arith, common_steps) in rw none refl
