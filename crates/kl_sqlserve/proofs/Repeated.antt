-- Values without those that were seen.
use Rattle.std.proofs.Common.{◌≡◌, Bool, true, false, not, ◌||◌, List, [], ◌∷◌, ◌++◌, filter, cond, length, refl, sym, ap, ◌∙◌, append_assoc, length-append, arith}
use Rattle.std.specs.List.{AllByRecursion, IsDistinct}
use Rattle.std.specs.HashSet.{contains}
use Rattle.kl_value.specs.declared.Value.{Value}
use Rattle.kl_sqltext.specs.Meaning.{Tuple, shown_tuple, without_repeats}
use Rattle.kl_ask.specs.Driver.{same_value}
use Rattle.kl_sqlserve.specs.Handing.{Leaves, TakesTuple, left_after}
use Rattle.kl_sqlserve.specs.Keys.{same_key}
use Rattle.kl_sqlserve.specs.Left.{Seen}
use Rattle.kl_sqlserve.specs.Repeats.{fresh}
use Rattle.kl_sqlserve.specs.declared.query.Query.{Query}
use Rattle.kl_sqlserve.proofs.Keyed.{key_is, tied}

module _ (seen : Value → Bool) where
  abbrev new : Value → Bool
  new w = not (seen w)

  -- what is equal to one that was seen is left out in any case
  dropped : (v : Value) → seen v ≡ true → (vs : List Value) → filter new (filter (λ w. not (same_value v w)) vs) ≡ filter new vs
  dropped v is [] = refl
  dropped v is (w ∷ vs) = by (same_value v w) refl (dropped v is vs)
    where
      by : (b : Bool) → same_value v w ≡ b → filter new (filter (λ w. not (same_value v w)) vs) ≡ filter new vs → filter new (filter (λ w. not (same_value v w)) (w ∷ vs)) ≡ filter new (w ∷ vs)
      by true e h = let old : seen w ≡ true = ap seen (sym (tied v w e)) ∙ is in rw (e, old) h
      by false e h = rw e (ap (λ xs. cond (new w) (w ∷ xs) xs) h)

  two : (v : Value) (vs : List Value) → filter (λ w. not (same_value v w || seen w)) vs ≡ filter new (filter (λ w. not (same_value v w)) vs)
  two v [] = refl
  two v (w ∷ vs) = by (same_value v w) refl (two v vs)
    where
      by : (b : Bool) → same_value v w ≡ b → filter (λ w. not (same_value v w || seen w)) vs ≡ filter new (filter (λ w. not (same_value v w)) vs)
          → filter (λ w. not (same_value v w || seen w)) (w ∷ vs) ≡ filter new (filter (λ w. not (same_value v w)) (w ∷ vs))
      by true e h = rw e h
      by false e h = rw e (ap (λ xs. cond (new w) (w ∷ xs) xs) h)

fresh_is : (seen : Value → Bool) (vs : List Value) → fresh seen vs ≡ filter (λ w. not (seen w)) (without_repeats vs)
fresh_is seen [] = refl
fresh_is seen (v ∷ vs) = by (seen v) refl (fresh_is seen vs) (fresh_is (λ w. same_value v w || seen w) vs)
  where
    by : (b : Bool) → seen v ≡ b → fresh seen vs ≡ filter (λ w. not (seen w)) (without_repeats vs) → fresh (λ w. same_value v w || seen w) vs ≡ filter (λ w. not (same_value v w || seen w)) (without_repeats vs)
        → fresh seen (v ∷ vs) ≡ filter (λ w. not (seen w)) (without_repeats (v ∷ vs))
    by true e old other = rw e (old ∙ sym (dropped seen v e (without_repeats vs)))
    by false e other more = rw e (ap (λ xs. v ∷ xs) (more ∙ two seen v (without_repeats vs)))

all_new : (vs : List Value) → filter (λ w. not false) vs ≡ vs
all_new [] = refl
all_new (v ∷ vs) = ap (λ xs. v ∷ xs) (all_new vs)

-- where nothing was seen, the first of each
pub fresh-none : (seen : Value → Bool) → ((w : Value) → seen w ≡ false) → (vs : List Value) → fresh seen vs ≡ without_repeats vs
fresh-none seen none vs = (λ i. fresh (λ w. none w i) vs) ∙ fresh_is (λ w. false) vs ∙ all_new (without_repeats vs)

-- ---- a row is handed, or left out as a repeat

-- what is equal to one that was seen was seen
pub absorbed : (row : Value) (seen : Value → Bool) → seen row ≡ true → (w : Value) → (same_value row w || seen w) ≡ seen w
absorbed row seen old w = by (same_value row w) refl
  where
    by : (b : Bool) → same_value row w ≡ b → (b || seen w) ≡ seen w
    by true e = sym (ap seen (sym (tied row w e)) ∙ old)
    by false e = refl

pub leaves_new : (row : Value) (seen seen' : Seen) (new : Bool) → new ≡ not (contains same_key seen row) → ((w : Value) → contains same_key seen' w ≡ (same_value row w || contains same_key seen w)) → Leaves true row seen seen' new
leaves_new row seen seen' new is more rows = by (contains same_key seen row) refl
  where
    by : (b : Bool) → contains same_key seen row ≡ b → cond b (fresh (contains same_key seen) rows) (row ∷ fresh (λ w. same_value row w || contains same_key seen w) rows)
        ≡ cond new (row ∷ fresh (contains same_key seen') rows) (fresh (contains same_key seen') rows)
    by true old = let no : new ≡ false = is ∙ ap not old in (λ i. fresh (λ w. sym (more w ∙ absorbed row (contains same_key seen) old w) i) rows) ∙ ap (λ b. cond b (row ∷ fresh (contains same_key seen') rows) (fresh (contains same_key seen') rows)) (sym no)
    by false old = let yes : new ≡ true = is ∙ ap not old in (λ i. row ∷ fresh (λ w. sym (more w) i) rows) ∙ ap (λ b. cond b (row ∷ fresh (contains same_key seen') rows) (fresh (contains same_key seen') rows)) (sym yes)

module _ (q : Query) (tuple : Tuple) (row : Value) (seen seen' : Seen) (taken taken' : List Value) (shown : row ≡ shown_tuple q.statement.columns tuple) where
  pub taken_row : Leaves q.statement.distinct row seen seen' true → taken' ≡ taken ++ row ∷ [] → TakesTuple q tuple seen seen' taken taken'
  taken_row leaves grown = record {
    left = λ rows. ap (λ v. taken ++ left_after q seen (v ∷ rows)) (sym shown) ∙ ap (λ vs. taken ++ vs) (leaves rows) ∙ sym (append_assoc taken (row ∷ []) (left_after q seen' rows)) ∙ ap (λ vs. vs ++ left_after q seen' rows) (sym grown);
    few = omega (arith, ap length grown, length-append taken (row ∷ []));
  }

  pub left_row : Leaves q.statement.distinct row seen seen' false → taken' ≡ taken → TakesTuple q tuple seen seen' taken taken'
  left_row leaves same = record {
    left = λ rows. ap (λ v. taken ++ left_after q seen (v ∷ rows)) (sym shown) ∙ ap (λ vs. taken ++ vs) (leaves rows) ∙ ap (λ vs. vs ++ left_after q seen' rows) (sym same);
    few = omega (arith, ap length same);
  }

-- ---- nothing stands twice

all_filter : {A : Type 0} (P : A → Type 0) (keep : A → Bool) (xs : List A) → AllByRecursion P xs → AllByRecursion P (filter keep xs)
all_filter P keep [] h = tt
all_filter P keep (x ∷ xs) h = by (keep x) refl (all_filter P keep xs h.1)
  where
    by : (b : Bool) → keep x ≡ b → AllByRecursion P (filter keep xs) → AllByRecursion P (filter keep (x ∷ xs))
    by true e more = rw e (h.0, more)
    by false e more = rw e more

distinct_filter : (keep : Value → Bool) (xs : List Value) → IsDistinct same_value xs → IsDistinct same_value (filter keep xs)
unfolding IsDistinct
distinct_filter keep [] h = tt
distinct_filter keep (x ∷ xs) h = by (keep x) refl (distinct_filter keep xs h.1)
  where
    by : (b : Bool) → keep x ≡ b → IsDistinct same_value (filter keep xs) → IsDistinct same_value (filter keep (x ∷ xs))
    by true e more = rw e (all_filter (λ y. same_value x y ≡ false) keep xs h.0, more)
    by false e more = rw e more

differ_after : (v : Value) (vs : List Value) → AllByRecursion (λ w. same_value v w ≡ false) (filter (λ w. not (same_value v w)) vs)
differ_after v [] = tt
differ_after v (w ∷ vs) = by (same_value v w) refl (differ_after v vs)
  where
    by : (b : Bool) → same_value v w ≡ b → AllByRecursion (λ w. same_value v w ≡ false) (filter (λ w. not (same_value v w)) vs) → AllByRecursion (λ w. same_value v w ≡ false) (filter (λ w. not (same_value v w)) (w ∷ vs))
    by true e more = rw e more
    by false e more = rw e (e, more)

pub no_repeats : (vs : List Value) → IsDistinct same_value (without_repeats vs)
unfolding IsDistinct
no_repeats [] = tt
no_repeats (v ∷ vs) = (differ_after v (without_repeats vs), distinct_filter (λ w. not (same_value v w)) (without_repeats vs) (no_repeats vs))

-- one value more was seen
pub seen_more : (v copy : Value) (old new : Value → Bool) → copy ≡ v → ((w : Value) → new w ≡ cond (same_key copy w) true (old w)) → (w : Value) → new w ≡ (same_value v w || old w)
seen_more v copy old new is updates w = updates w ∙ ap (λ k. cond (same_key k w) true (old w)) is ∙ ap (λ b. cond b true (old w)) (key_is v w) ∙ by (same_value v w)
  where
    by : (b : Bool) → cond b true (old w) ≡ (b || old w)
    by true = refl
    by false = refl
