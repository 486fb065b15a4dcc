-- Open cursors by their numbers: one is added behind the others, one changes, and one that is open is in its place.
use Rattle.std.proofs.Common.{◌≡◌, ◌≢◌, ◌<◌, ℕ, List, [], ◌∷◌, ◌++◌, length, set, Option, Some, None, refl, sym, ◌∙◌, ap, arith, slice_get, IsSome}
use Rattle.std.proofs.lemmas.Grind.{common_steps}
use Rattle.std.proofs.lemmas.Option.{gets, slice_get_within}
use Rattle.std.specs.Option.{option_map, option_flatten}
use Rattle.kl_base.proofs.Places.{get-set_other, get-set_same}
use Rattle.kl_ask.specs.Cursors.{open_at}

pub some_of : {T : Type 0} (o : Option T) → IsSome o → (x : T) × (o ≡ Some x)
some_of None h = absurd cc
some_of (Some x) h = (x, refl)

-- nothing is seen where nothing is
pub unseen : {T U : Type 0} (seen : T → U) (o : Option T) → option_map seen o ≡ None → o ≡ None
unseen seen None is = refl
unseen seen (Some x) is = absurd cc

pub get-push_other : {T : Type 0} (xs : List T) (i : ℕ) (y : T) → i ≢ length xs → slice_get (xs ++ y ∷ []) i ≡ slice_get xs i
get-push_other xs i y ne = grind (arith, gets, common_steps)

get-push_same : {T : Type 0} (xs : List T) (i : ℕ) (y : T) → i ≡ length xs → slice_get (xs ++ y ∷ []) i ≡ Some y
get-push_same xs i y is = grind (arith, gets, common_steps)

module _ {C : Type 0} (cursors cursors' : List (Option C)) where
  -- one more behind the others
  module _ (n : ℕ) (o : C) (last : n ≡ length cursors) (grown : cursors' ≡ cursors ++ Some o ∷ []) where
    pub added_free : open_at cursors n ≡ None
    added_free = let past : slice_get cursors n ≡ None = grind (arith, gets, common_steps) in ap option_flatten past

    pub added_now : open_at cursors' n ≡ Some o
    added_now = ap option_flatten (ap (λ xs. slice_get xs n) grown ∙ get-push_same cursors n (Some o) last)

    pub added_others : (k : ℕ) → k ≢ n → open_at cursors' k ≡ open_at cursors k
    added_others k ne = ap option_flatten (ap (λ xs. slice_get xs k) grown ∙ get-push_other cursors k (Some o) (λ is. ne (is ∙ sym last)))

  -- one that changes
  module _ (k : ℕ) (o o' : C) (is : slice_get cursors k ≡ Some (Some o)) (made : cursors' ≡ set cursors k (Some o')) where
    pub changed_now : open_at cursors' k ≡ Some o'
    changed_now = ap option_flatten (ap (λ xs. slice_get xs k) made ∙ get-set_same cursors k (Some o') (slice_get_within cursors k (Some o) is))

    pub changed_others : (j : ℕ) → j ≢ k → open_at cursors' j ≡ open_at cursors j
    changed_others j ne = ap option_flatten (ap (λ xs. slice_get xs j) made ∙ get-set_other cursors k j (Some o') ne)

pub replaced_other : {C : Type 0} (cursors : List (Option C)) (k j : ℕ) (o : Option C) → j ≢ k → open_at (set cursors k o) j ≡ open_at cursors j
replaced_other cursors k j o ne = ap option_flatten (get-set_other cursors k j o ne)

-- an open cursor is in its place
pub there : {C D : Type 0} (seen : C → D) (cursors : List (Option C)) (k : ℕ) → IsSome (option_map seen (open_at cursors k)) → (o : C) × (slice_get cursors k ≡ Some (Some o))
there {C} {D} seen cursors k is = by (slice_get cursors k) refl
  where
    no_some : IsSome {T = D} None → ⊥
    no_some h = cc

    by : (x : Option (Option C)) → slice_get cursors k ≡ x → (o : C) × (slice_get cursors k ≡ Some (Some o))
    by None e = absurd (no_some (rw e at is))
    by (Some None) e = absurd (no_some (rw e at is))
    by (Some (Some o)) e = (o, e)

pub is_within : {C D : Type 0} (seen : C → D) (cursors : List (Option C)) (k : ℕ) → IsSome (option_map seen (open_at cursors k)) → k < length cursors
is_within seen cursors k is = let at = (there seen cursors k is).1 in grind (arith, gets, common_steps)
