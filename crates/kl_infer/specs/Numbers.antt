-- Variables by their numbers, from 1 in the order of first appearance.
use Rattle.std.specs.Prelude.{◌≡◌, ℕ, suc, ◌<◌, ◌≤◌, ◌==◌, Bool, true, false, cond, List, [], ◌∷◌, ◌++◌, length}
use Rattle.kl_infer.specs.declared.page.Page.{Page}

-- how many bytes a text may have
abbrev pub limit : ℕ
limit = 65536

abbrev pub has : ℕ → List ℕ → Bool
has p [] = false
has p (q ∷ qs) = cond (p == q) true (has p qs)

abbrev pub add : ℕ → List ℕ → List ℕ
add p seen = cond (has p seen) seen (seen ++ p ∷ [])

-- the list with the others behind it, each once
abbrev pub add_all : List ℕ → List ℕ → List ℕ
add_all seen [] = seen
add_all seen (p ∷ ps) = add_all (add p seen) ps

-- its place, from 1
abbrev pub number : ℕ → List ℕ → ℕ
number p [] = 1
number p (q ∷ qs) = cond (p == q) 1 (suc (number p qs))

-- These variables appear in a text, which depends on the variables of the whole. A page that is not full has all of it, and
-- where the page came to be full the text is longer than the limit.
pub record Writes (old new : Page) (variables : List ℕ) (text : List ℕ → List ℕ) : Type 0 where
  pub was : new.full ≡ false → old.full ≡ false
  pub seen : new.full ≡ false → new.seen.items ≡ add_all old.seen.items variables
  pub written : new.full ≡ false → (more : List ℕ) → new.out.items ≡ old.out.items ++ text (add_all (add_all old.seen.items variables) more)
  pub fits : length old.out.items ≤ limit → length new.out.items ≤ limit
  pub longer : old.full ≡ false → new.full ≡ true → (more : List ℕ)
      → limit < length (old.out.items ++ text (add_all (add_all old.seen.items variables) more))
