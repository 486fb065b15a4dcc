-- How a descent refuses where a text nests too deep, or where two readers try the same tokens. T is the type of tokens.
-- No public contract cites this.
use Rattle.std.specs.Prelude.{ℕ, ◌-◌, Bool, List, length, Some, if◌then◌else◌}
use Rattle.kl_phrase.specs.Words.{heads}
use Rattle.kl_phrase.specs.Readers.{Why, bad, deep, Out, ok, fail, Reader, one, both, made, pick, farther}

-- too deep, if one of the two is
abbrev pub worse : Why → Why → Why
worse bad v = v
worse deep v = deep

module _ {T : Type 0} where
  -- p where nesting may go on; else it is refused so
  abbrev pub opened_by : {A : Type 0} → Why → Bool → Reader T A → Reader T A
  opened_by w may p ts = if may then p ts else fail w ts

  abbrev pub opening_by : {A : Type 0} → Why → (T → Bool) → Bool → Reader T A → Reader T A → Reader T A
  opening_by w test may p q = pick test (opened_by w may p) q

  -- what the second reader answers, after the first failed: of two refusals the place of the farther
  abbrev pub refused : {B : Type 0} → Why → List T → Out T B → Out T B
  refused w r (ok b s) = ok b s
  refused w r (fail v s) = fail (worse w v) (farther r s)

  abbrev pub settled : {A B : Type 0} → Out T A → Out T B → Out T B → Out T B
  settled (ok a r) o q = o
  settled (fail w r) o q = refused w r q

  -- p and then, with no way back, k; q where p fails
  abbrev pub decide : {A B C : Type 0} → (A × B → C) → Reader T A → Reader T B → Reader T C → Reader T C
  decide f p k q ts = settled (p ts) (made f (both p k) ts) (q ts)

  -- where a part may be left out, by the number of the token that stands there
  abbrev pub may_miss : (ℕ → T → Bool) → ℕ → List T → Bool
  may_miss misses total r = heads (misses (total - length r)) r

  -- the token that stands for the part
  abbrev pub missed : {A : Type 0} → A → Reader T A
  missed a = one (λ t. Some a)
