-- Answers that are added at the end of a list, one by one.
use Rattle.std.proofs.Common.{◌≡◌, ◌≤◌, ◌⊎◌, ⊎_elim, inl, inr, ◌+◌, ℕ, true, false, List, [], ◌∷◌, ◌++◌, Some, take, drop, length, length-append, append_assoc, append-nil, refl, sym, ◌∙◌, ap, arith}
use Rattle.std.proofs.lemmas.Grind.{common_steps}
use Rattle.std.specs.List.{list_all}
use Rattle.std.specs.Prelude.{slice_get}
use Rattle.kl_value.specs.declared.Value.{Value}
use Rattle.kl_outcome.specs.Outcome.{Name}
use Rattle.kl_ask.specs.Asks.{answers, passes, shown}
use Rattle.kl_ask.specs.declared.ask.ColTest.{ColTest}
use Rattle.kl_flat.specs.Answering.{AddsAnswers, Continues}
use Rattle.kl_flat.proofs.Tables.{answer_more, answer_same}

-- so far, where so many more may be added
pub record Adding (rows : List Value) (from : ℕ) (keep : List Name) (tests : List ColTest) (limit : ℕ) (old new : List Value) (at left : ℕ) : Type 0 where
  pub taken : List Value
  pub grown : new ≡ old ++ taken
  pub split : answers (drop from rows) keep tests ≡ taken ++ answers (drop at rows) keep tests
  pub many : length taken + left ≡ limit
  pub within : at ≤ length rows

module _ (rows : List Value) (from : ℕ) (keep : List Name) (tests : List ColTest) (limit : ℕ) (old : List Value) where
  pub adding_starts : (new : List Value) → new ≡ old → from ≤ length rows → Adding rows from keep tests limit old new from limit
  adding_starts new same within = record { taken = []; grown = same ∙ sym (append-nil old); split = refl; many = omega arith; within = within }

  pub adding_ends : (base new : List Value) (at left : ℕ) → old ≡ base → Adding rows from keep tests limit old new at left → (left ≡ 0) ⊎ (at ≡ length rows) → AddsAnswers rows from keep tests limit base new at
  adding_ends base new at left same a ends = record {
    taken = a.taken;
    grown = a.grown ∙ ap (λ xs. xs ++ a.taken) same;
    takes = record {
      split = a.split;
      most = omega (arith, a.many);
      all = ⊎_elim (λ none. inl (omega (arith, a.many, none))) inr ends;
      within = a.within;
    };
  }

  pub adding_goes : (base new new' : List Value) (at left : ℕ) → old ≡ base → new' ≡ new → Adding rows from keep tests limit old new at left → Continues base new'
  adding_goes base new new' at left same stays a = (a.taken, stays ∙ a.grown ∙ ap (λ xs. xs ++ a.taken) same)

  module _ (at left : ℕ) (row : Value) (is : slice_get rows at ≡ Some row) (less : at + 1 ≤ length rows) where
    pub adding_more : (new new' : List Value) (left' : ℕ) → left' + 1 ≡ left → list_all (passes row) tests ≡ true → new' ≡ new ++ shown keep row ∷ []
        → Adding rows from keep tests limit old new at left → Adding rows from keep tests limit old new' (at + 1) left'
    adding_more new new' left' fewer pass grown a = record {
      taken = a.taken ++ shown keep row ∷ [];
      grown = grown ∙ ap (λ xs. xs ++ shown keep row ∷ []) a.grown ∙ append_assoc old a.taken (shown keep row ∷ []);
      split = answer_more rows keep tests at row is a.taken _ _ pass refl a.split;
      many = omega (arith, a.many, fewer, length-append a.taken (shown keep row ∷ []));
      within = less;
    }

    pub adding_same : (new new' : List Value) (left' : ℕ) → left' ≡ left → list_all (passes row) tests ≡ false → new' ≡ new
        → Adding rows from keep tests limit old new at left → Adding rows from keep tests limit old new' (at + 1) left'
    adding_same new new' left' as_many fail same a = record {
      taken = a.taken;
      grown = same ∙ a.grown;
      split = answer_same rows keep tests at row is a.taken _ fail a.split;
      many = omega (arith, a.many, as_many);
      within = less;
    }

pub goes_same : (old new : List Value) → new ≡ old → Continues old new
goes_same old new same = ([], same ∙ sym (append-nil old))

-- what was added is taken back
front_of : (old more : List Value) (n : ℕ) → n ≡ length old → take n (old ++ more) ≡ old
front_of old more n is = grind (arith, common_steps)

pub taken_back : (old new : List Value) (n : ℕ) → n ≡ length old → Continues old new → take n new ≡ old
taken_back old new n is c = ap (take n) c.1 ∙ front_of old c.0 n is
