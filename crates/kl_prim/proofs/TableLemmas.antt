-- The rows of the table at their codes.
use Rattle.std.proofs.Common.{◌≡◌, ◌↔◌, ◌⊎◌, ⊎_elim, inl, inr, ℕ, ℤ, ◌==◌, ◌&&◌, not, Bool, true, false, cond, List, [], ◌∷◌, map, find, Option, Some, None, refl, sym, ap, subst, ◌∙◌, IfSome, Bor, Result}
use Rattle.std.specs.Option.{option_copied, option_map, option_and_then}
use Rattle.std.specs.List.{AllByRecursion, IsDistinct, list_all}
use Rattle.std.proofs.lemmas.Bool.{eqb-true, and_parts, not-true}
use Rattle.kl_value.specs.declared.Kind.{Kind}
use Rattle.kl_value.specs.declared.Value.{Value}
use Rattle.kl_prim.specs.Fits.{FitsShape}
use Rattle.kl_value.specs.Canon.{canonical}
use Rattle.kl_prim.specs.Meaning.{Answer, AnswersMeaning, one, with_some, all_some, as_ints, gives, into}
use Rattle.kl_prim.specs.Table.{Fits, FitsRow, Row, Takes, TakesRow, entry_of, meaning, row_at, rows}
use Rattle.kl_value.specs.Views.{as_int, collection}
use Rattle.kl_value.proofs.ViewLemmas.{collection_is}
use Rattle.kl_prim.specs.declared.rows.PrimRow.{PrimRow}
use Rattle.kl_prim.specs.declared.stop.PrimStop.{PrimStop}

-- a fact of each row, one beside the other
infixr 3 ◌&◌
abbrev pub ◌&◌ : {A B : Type 0} → A → B → A × B
a & b = (a, b)

pub answers_by : (a b : Answer) (r : Result Value PrimStop) → a ≡ b → AnswersMeaning b r → AnswersMeaning a r
answers_by a b r e h = subst (λ x. AnswersMeaning x r) (sym e) h

pub means : (code n : ℕ) (args : List Value) (a : Answer) → code ≡ n → meaning n args ≡ a → meaning code args ≡ a
means code n args a e h = ap (λ k. meaning k args) e ∙ h

pub fits : (code n : ℕ) (args : List Value) → code ≡ n → Fits code args → Fits n args
fits code n args e h = subst (λ k. Fits k args) e h

-- ---- collections as arguments

pub reads_ints : (args : List Value) (k : Kind) (vs : List Value) (f : List ℤ → Answer) → args ≡ collection k vs ∷ []
    → one as_ints f args ≡ with_some (all_some as_int vs) f
reads_ints args k vs f e =
    ap (one as_ints f) e ∙ ap (λ o. with_some (option_and_then (λ c. all_some as_int c.items) o) f) (collection_is k vs)

-- a collection made of the one argument
pub into_by : (k : Kind) (args : List Value) (a : Value) (j : Kind) (vs : List Value) → args ≡ a ∷ [] → a ≡ collection j vs → into k args ≡ gives (canonical k vs)
into_by k args a j vs e f =
    ap (into k) (e ∙ ap (λ v. v ∷ []) f) ∙ ap (λ o. with_some o (λ c. gives (canonical k c.items))) (collection_is j vs)

-- ---- codes without a row

absent : (code : ℕ) (rs : List Row) → AllByRecursion (λ r. r.entry.code ≡ code → ⊥) rs → find (λ r. r.entry.code == code) rs ≡ None
absent code [] h = refl
absent code (r ∷ rs) h =
    elim (r.entry.code == code) as (λ b. (r.entry.code == code) ≡ b → cond b (Some r) (find (λ q. q.entry.code == code) rs) ≡ None) [
      | true ↦ λ e. absurd (h.0 (eqb-true _ _ e))
      | false ↦ λ e. absent code rs h.1
    ] refl

pub no_row : (code : ℕ) (args : List Value) → AllByRecursion (λ r. r.entry.code ≡ code → ⊥) rows → Fits code args → ⊥
unfolding Fits row_at
no_row code args each h = subst (λ o. FitsRow o args) (absent code rows each) h

-- ---- the row of a code

find-map : {X Y : Type 0} (f : X → Y) (p : Y → Bool) (xs : List X) → option_map f (find (λ x. p (f x)) xs) ≡ find p (map f xs)
find-map f p [] = refl
find-map f p (x ∷ xs) =
    elim (p (f x)) as (λ b. option_map f (cond b (Some x) (find (λ y. p (f y)) xs)) ≡ cond b (Some (f x)) (find p (map f xs))) [
      | true ↦ refl
      | false ↦ find-map f p xs
    ]

-- what is found in the program's table is the row at the code
pub found_at : (code : ℕ) (rs : List PrimRow) → map entry_of rs ≡ map (λ r. r.entry) rows → option_map entry_of (find (λ r. r.code == code) rs) ≡ option_map (λ r. r.entry) (row_at code)
unfolding row_at
found_at code rs same =
    find-map entry_of (λ e. e.code == code) rs ∙ (ap (find (λ e. e.code == code)) same ∙ sym (find-map (λ (r : Row). r.entry) (λ e. e.code == code) rows))

-- and the arguments of its shape are those that fit the code
pub fits_at : (code : ℕ) (r : PrimRow) (args : List Value) → Some (entry_of r) ≡ option_map (λ (q : Row). q.entry) (row_at code) → FitsShape r.shape args ↔ Fits code args
unfolding Fits
fits_at code r args e = go (row_at code) e
  where
    go : (o : Option Row) → Some (entry_of r) ≡ option_map (λ (q : Row). q.entry) o → FitsShape r.shape args ↔ FitsRow o args
    go (Some q) e = let same : r.shape ≡ q.entry.shape = cc in (subst (λ s. FitsShape s args) same, subst (λ s. FitsShape s args) (sym same))
    go None e = cc

pub takes_found : (code : ℕ) (o : Option (Bor PrimRow)) → option_map entry_of (option_copied o) ≡ option_map (λ (q : Row). q.entry) (row_at code)
    → IfSome o (λ r. (args : List Value) → FitsShape r.now.shape args ↔ Fits code args)
takes_found code (Some r) e = λ args. fits_at code r.now args e
takes_found code None e = tt

-- ---- one argument or two

abbrev IsFew : Row → Type 0
IsFew r = (r.entry.arity ≡ 1) ⊎ (r.entry.arity ≡ 2)

few_rows : AllByRecursion IsFew rows
unfolding rows
few_rows =
    inr refl &
    inr refl &
    inr refl &
    inr refl &
    inr refl &
    inr refl &
    inr refl &
    inr refl &
    inr refl &
    inl refl &
    inl refl &
    inr refl &
    inl refl &
    inl refl &
    inl refl &
    inr refl &
    inl refl &
    inl refl &
    inl refl &
    inl refl &
    inl refl &
    inl refl &
    inl refl &
    inr refl &
    inl refl &
    inl refl &
    inr refl &
    inr refl &
    inr refl &
    inr refl &
    tt

few_at : (code : ℕ) (rs : List Row) (n : ℕ) → AllByRecursion IsFew rs → TakesRow (find (λ r. r.entry.code == code) rs) n → (n ≡ 1) ⊎ (n ≡ 2)
few_at code [] n few h = absurd h
few_at code (r ∷ rs) n few h =
    elim (r.entry.code == code) as (λ b. TakesRow (cond b (Some r) (find (λ q. q.entry.code == code) rs)) n → (n ≡ 1) ⊎ (n ≡ 2)) [
      | true ↦ λ e. ⊎_elim (λ one. inl (sym e ∙ one)) (λ two. inr (sym e ∙ two)) few.0
      | false ↦ λ e. few_at code rs n few.1 e
    ] h

pub takes_few : (code n : ℕ) → Takes code n → (n ≡ 1) ⊎ (n ≡ 2)
unfolding Takes row_at
takes_few code n h = few_at code rows n few_rows h

-- ---- keys that differ

module _ {K : Type 0} (same : K → K → Bool) where
  abbrev all_differ : List K → Bool
  all_differ [] = true
  all_differ (k ∷ ks) = list_all (λ l. not (same k l)) ks && all_differ ks

  each_unlike : (k : K) (ks : List K) → list_all (λ l. not (same k l)) ks ≡ true → AllByRecursion (λ l. same k l ≡ false) ks
  each_unlike k [] e = tt
  each_unlike k (l ∷ ls) e = let parts = and_parts (not (same k l)) (list_all (λ j. not (same k j)) ls) e in (not-true _ parts.0, each_unlike k ls parts.1)

  pub distinct_is : (ks : List K) → all_differ ks ≡ true → IsDistinct same ks
  unfolding IsDistinct
  distinct_is [] e = tt
  distinct_is (k ∷ ks) e = let parts = and_parts (list_all (λ l. not (same k l)) ks) (all_differ ks) e in (each_unlike k ks parts.0, distinct_is ks parts.1)

-- ---- from a row of the program's table to the row of its code
