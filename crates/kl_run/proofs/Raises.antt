-- Counts that are raised one by one.
use Rattle.std.proofs.Common.{◌≡◌, ℕ, zero, suc, ◌+◌, ◌-◌, ◌^◌, Bool, true, false, min, cond, refl, ap, ◌∙◌, arith}
use Rattle.kl_ask.specs.Asked.{raised_by}
use Rattle.kl_run.specs.Counted.{raised}

pub raised_new : (n : ℕ) → raised n 0 ≡ min n (2 ^ 64 - 1)
raised_new zero = refl
raised_new (suc n) = omega arith

pub raised_first : (n count : ℕ) → raised n (raised_by 1 count) ≡ raised (suc n) count
raised_first zero count = refl
raised_first (suc n) count = omega arith

-- one time more, or not
pub raised_once : (b : Bool) (n count : ℕ) → raised n (cond b (raised_by 1 count) count) ≡ raised (cond b 1 0 + n) count
raised_once true n count = let e : suc n ≡ 1 + n = omega arith in raised_first n count ∙ ap (λ m. raised m count) e
raised_once false n count = let e : n ≡ 0 + n = omega arith in ap (λ m. raised m count) e

-- only as much counts as a count can hold
pub raised_capped : (m n count : ℕ) → min m (2 ^ 64 - 1) ≡ min n (2 ^ 64 - 1) → raised m count ≡ raised n count
raised_capped zero zero count e = refl
raised_capped zero (suc n) count e = absurd (omega (arith, e))
raised_capped (suc m) zero count e = absurd (omega (arith, e))
raised_capped (suc m) (suc n) count e = omega (arith, e)
