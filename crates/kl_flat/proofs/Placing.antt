-- Where labels stand in a header, and what a record has there.
use Rattle.std.proofs.Common.{◌≡◌, ◌≤◌, ◌<◌, ℕ, zero, suc, ◌+◌, Bool, true, false, List, [], ◌∷◌, cond, length, take, nat_eq, Some, None, refl, ap, sym, ◌∙◌, subst, arith, add_comm, eqb-true, ◌==◌}
use Rattle.std.specs.List.{zip}
use Rattle.std.specs.Cmp.Lexicographic.{pointwise}
use Rattle.std.proofs.lemmas.Option.{same_Some}
use Rattle.csv.specs.Records.{field_at}
use Rattle.kl_base.specs.Fields.{field}
use Rattle.kl_type.proofs.RowLemmas.{same_label}
use Rattle.kl_flat.specs.Table.{Record, times}

abbrev is : List ℕ → List ℕ → Bool
is l m = pointwise nat_eq l m

pub field-there : (fs : Record) (i : ℕ) → field_at fs i ≡ None → i < length fs → ⊥
unfolding field_at
field-there [] i h lt = omega arith
field-there (g ∷ fs) zero h lt = cc
field-there (g ∷ fs) (suc i) h lt = field-there fs i h (omega arith)

-- one more field
pub count_step : (l : List ℕ) (fs : Record) (i : ℕ) (f : List ℕ) → field_at fs i ≡ Some f → times l (take (suc i) fs) ≡ times l (take i fs) + cond (is l f) 1 0
unfolding field_at
count_step l [] i f h = cc
count_step l (g ∷ fs) zero f h = let e : g ≡ f = cc in ap (λ x. cond (is l x) 1 0 + 0) e ∙ add_comm (cond (is l f) 1 0) 0
count_step l (g ∷ fs) (suc i) f h = let more = count_step l fs i f h in omega (arith, more)

pub count_front : (l : List ℕ) (fs : Record) (i : ℕ) → times l (take i fs) ≤ times l fs
count_front l [] zero = omega arith
count_front l [] (suc i) = omega arith
count_front l (g ∷ fs) zero = omega arith
count_front l (g ∷ fs) (suc i) = let more = count_front l fs i in omega (arith, more)

count_there : (l : List ℕ) (fs : Record) (i : ℕ) → field_at fs i ≡ Some l → 1 ≤ times l fs
unfolding field_at
count_there l [] i h = cc
count_there l (g ∷ fs) zero h = let e : is l g ≡ true = subst (λ m. is l m ≡ true) (sym (same_Some _ _ h)) (same_label l) in rw e (omega arith)
count_there l (g ∷ fs) (suc i) h = let more = count_there l fs i h in omega (arith, more)

-- what a record has under a label that stands in the header once
pub cell_at : (header entry : Record) (l : List ℕ) (i : ℕ) → length entry ≡ length header → times l header ≡ 1 → field_at header i ≡ Some l → field l (zip header entry) ≡ field_at entry i
unfolding field_at
cell_at [] entry l i size once there = cc
cell_at (h ∷ hs) [] l i size once there = absurd (omega arith)
cell_at (h ∷ hs) (c ∷ cs) l zero size once there =
    let e : h ≡ l = cc in
    let same : is l h ≡ true = subst (λ m. is l m ≡ true) (sym e) (same_label l) in
    rw same refl
cell_at (h ∷ hs) (c ∷ cs) l (suc i) size once there = later h c l i hs cs once there (λ e. cell_at hs cs l i (omega arith) e there)
  where
    later : (h c l : List ℕ) (i : ℕ) (hs cs : Record) → times l (h ∷ hs) ≡ 1 → field_at hs i ≡ Some l → (times l hs ≡ 1 → field l (zip hs cs) ≡ field_at cs i) → field l (zip (h ∷ hs) (c ∷ cs)) ≡ field_at cs i
    later h c l i hs cs once there more = by (is l h) refl
      where
        by : (b : Bool) → is l h ≡ b → field l (zip (h ∷ hs) (c ∷ cs)) ≡ field_at cs i
        by true e = let twice = count_there l hs i there in let sum = rw e at once in absurd (omega (arith, twice, sum))
        by false e = let sum = rw e at once in rw e (more (omega (arith, sum)))

pub not_once : (l : List ℕ) (hs : Record) → (times l hs ≡ 1 → ⊥) → (times l hs == 1) ≡ false
not_once l hs other = by (times l hs == 1) refl
  where
    by : (b : Bool) → (times l hs == 1) ≡ b → b ≡ false
    by false e = refl
    by true e = absurd (other (eqb-true (times l hs) 1 e))
