-- At which byte a declaration or an entry begins.
use Rattle.std.proofs.Common.{◌≡◌, ◌<◌, ◌≤◌, ◌+◌, ◌-◌, zero, suc, ℕ, true, false, List, [], ◌∷◌, cond, drop, get_or, length, refl, sym, ap, ◌∙◌, arith}
use Rattle.std.proofs.lemmas.Grind.{common_steps}
use Rattle.std.proofs.lemmas.List.{drop_more}
use Rattle.kl_lex.specs.declared.token.Token.{Token}
use Rattle.kl_lex.specs.Lexing.{PlacesRise}
use Rattle.kl_why.specs.Tokens.{begin, behind, is_semi, part_byte}

-- each token takes a byte at least
pub tokens_fit : (ts : List Token) (place total : ℕ) → PlacesRise place total ts → length ts + place ≤ total
tokens_fit [] place total rise = omega (arith, rise)
tokens_fit (t ∷ ts) place total (after, full, more) = let rest = tokens_fit ts t.to total more in omega (arith, after, full, rest)

module _ (ts : List Token) (i : ℕ) (t : Token) (less : i < length ts) (at : t ≡ get_or ts i t) where
  left_there : drop i ts ≡ t ∷ drop (i + 1) ts
  left_there = drop_more ts i t less ∙ (λ j. sym at j ∷ drop (i + 1) ts)

  pub begins_there : (total n left : ℕ) → left ≡ 0 → behind left (drop i ts) ≡ behind n ts → t.from ≡ part_byte total ts n
  begins_there total n left none is = ap (begin total) (sym left_there ∙ sym (ap (λ k. behind k (drop i ts)) none) ∙ is)

  behind_semi : (left fewer : ℕ) (rest : List Token) → left ≡ suc fewer → is_semi t.what ≡ true → behind left (drop i ts) ≡ rest → behind fewer (drop (i + 1) ts) ≡ rest
  behind_semi left fewer rest one semi is =
      sym (ap (λ b. cond b (behind fewer (drop (i + 1) ts)) (behind (suc fewer) (drop (i + 1) ts))) semi)
      ∙ sym (ap (behind (suc fewer)) left_there) ∙ sym (ap (λ k. behind k (drop i ts)) one) ∙ is

  behind_other : (left fewer : ℕ) (rest : List Token) → left ≡ suc fewer → is_semi t.what ≡ false → behind left (drop i ts) ≡ rest → behind left (drop (i + 1) ts) ≡ rest
  behind_other left fewer rest one semi is =
      ap (λ k. behind k (drop (i + 1) ts)) one
      ∙ sym (ap (λ b. cond b (behind fewer (drop (i + 1) ts)) (behind (suc fewer) (drop (i + 1) ts))) semi)
      ∙ sym (ap (behind (suc fewer)) left_there) ∙ sym (ap (λ k. behind k (drop i ts)) one) ∙ is

  pub semi_next : (left fewer : ℕ) (rest : List Token) → fewer ≡ left - 1 → (left ≡ 0 → ⊥) → is_semi t.what ≡ true → behind left (drop i ts) ≡ rest → behind fewer (drop (i + 1) ts) ≡ rest
  semi_next left fewer rest less some semi is = let one : left ≡ suc fewer = grind (arith, less, some) in behind_semi left fewer rest one semi is

  pub other_next : (left same : ℕ) (rest : List Token) → same ≡ left → (left ≡ 0 → ⊥) → is_semi t.what ≡ false → behind left (drop i ts) ≡ rest → behind same (drop (i + 1) ts) ≡ rest
  other_next left same rest kept some semi is =
      let one : left ≡ suc (left - 1) = grind (arith, some) in
      ap (λ k. behind k (drop (i + 1) ts)) kept ∙ behind_other left (left - 1) rest one semi is

behind_none : (left : ℕ) → behind left [] ≡ []
behind_none zero = refl
behind_none (suc n) = refl

pub begins_nowhere : (ts : List Token) (total n left i : ℕ) → length ts ≤ i → behind left (drop i ts) ≡ behind n ts → total ≡ part_byte total ts n
begins_nowhere ts total n left i all is =
    let none : drop i ts ≡ [] = grind (arith, common_steps, all) in
    ap (begin total) (sym (behind_none left) ∙ sym (ap (behind left) none) ∙ is)
