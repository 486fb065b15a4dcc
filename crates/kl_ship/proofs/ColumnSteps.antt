-- Lists of columns that loops make item by item.
use Rattle.std.proofs.Common.{◌≡◌, ℕ, zero, suc, ◌+◌, ◌-◌, ◌%◌, ◌^◌, ◌<◌, ◌∷◌, ◌++◌, List, [], Bool, map, drop, length, get_or, Option, Some, None, IsSome, codes, cond, true, ◌&&◌, slice_get, refl, sym, ap, subst, ◌∙◌, arith, append_assoc, length-drop, decimal}
use mathlib.Core.Path.{ap₂}
use Rattle.std.specs.List.{AllByRecursion, list_all}
use Rattle.std.proofs.lemmas.Fmt.{decimal_by_steps}
use Rattle.std.proofs.lemmas.Bool.Decides.{nat_tests}
use Rattle.std.proofs.lemmas.List.Folds.{list_all-append}
use Rattle.std.proofs.lemmas.Option.{slice_get_read}
use Rattle.kl_base.proofs.Places.{drop_at}
use Rattle.kl_base.specs.Word.{is_word_byte, is_word, label_of}
use Rattle.kl_outcome.specs.Outcome.{Name}
use Rattle.kl_core.specs.Trees.{Tree}
use Rattle.kl_ship.specs.declared.source.ShipSource.{ShipSource}
use Rattle.kl_ship.specs.Joined.{used_of, of_table, columns_used}
use Rattle.kl_ship.specs.Stated.{source_before, sources_at}

pub there : (ss : List ShipSource) (i : ℕ) → i < length ss → (t : ShipSource) × (slice_get ss i ≡ Some t)
there [] i lt = absurd (omega (arith, lt))
there (t ∷ ts) zero lt = (t, refl)
there (t ∷ ts) (suc i) lt = there ts i (omega (arith, lt))

pub sources_long : (ss : List ShipSource) (is : List ℕ) → AllByRecursion (λ i. i < length ss) is → length (sources_at ss is) ≡ length is
sources_long ss [] h = refl
sources_long ss (i ∷ is) h = by (slice_get ss i) (subst IsSome (sym (there ss i h.0).1) refl) (sources_long ss is h.1)
  where
    by : (o : Option ShipSource) → IsSome o → length (sources_at ss is) ≡ length is → length (source_before o (sources_at ss is)) ≡ suc (length is)
    by (Some t) s e = ap suc e
    by None s e = cc

-- what is done, and one more of what is left
pub one_more : {B : Type 0} (done rest whole : List B) (b : B) → done ++ (b ∷ rest) ≡ whole → (done ++ b ∷ []) ++ rest ≡ whole
one_more done rest whole b e = append_assoc done (b ∷ []) rest ∙ e

pub some_more : {B : Type 0} (done more rest whole : List B) → done ++ (more ++ rest) ≡ whole → (done ++ more) ++ rest ≡ whole
some_more done more rest whole e = append_assoc done more rest ∙ e

-- an item that is there is the same by any default
pub same_at : (is : List ℕ) (i a b : ℕ) → i < length is → get_or is i a ≡ get_or is i b
same_at [] i a b lt = absurd (omega (arith, lt))
same_at (x ∷ xs) zero a b lt = refl
same_at (x ∷ xs) (suc i) a b lt = same_at xs i a b (omega (arith, lt))

pub place_within : (ss : List ShipSource) (is : List ℕ) (i p : ℕ) → AllByRecursion (λ x. x < length ss) is → i < length is → p ≡ get_or is i p → p < length ss
place_within ss [] i p h lt e = absurd (omega (arith, lt))
place_within ss (x ∷ xs) zero p h lt e = subst (λ y. y < length ss) (sym e) h.0
place_within ss (x ∷ xs) (suc i) p h lt e = place_within ss xs i p h.1 (omega (arith, lt)) e

-- the next of the sources at these places
pub table_next : (ss : List ShipSource) (is : List ℕ) (i p : ℕ) (t : ShipSource) → i < length is → p ≡ get_or is i p → p < length ss → t ≡ get_or ss p t → sources_at ss (drop i is) ≡ t ∷ sources_at ss (drop (i + 1) is)
table_next ss is i p t lt e within at = ap (sources_at ss) (drop_at is i p lt e) ∙ ap (λ o. source_before o (sources_at ss (drop (i + 1) is))) (slice_get_read ss (length ss) p t refl within at)

pub mapped_next : {B : Type 0} (f : ShipSource → B) (ss : List ShipSource) (is : List ℕ) (i p : ℕ) (t : ShipSource) (done whole : List B) → i < length is → p ≡ get_or is i p → p < length ss → t ≡ get_or ss p t
    → done ++ map f (sources_at ss (drop i is)) ≡ whole → (done ++ f t ∷ []) ++ map f (sources_at ss (drop (i + 1) is)) ≡ whole
mapped_next f ss is i p t done whole lt e within at h = one_more done (map f (sources_at ss (drop (i + 1) is))) whole (f t) (ap (λ ts. done ++ map f ts) (sym (table_next ss is i p t lt e within at)) ∙ h)

pub used_next : (project : Bool) (d : Tree) (ss : List ShipSource) (is : List ℕ) (i n p : ℕ) (t : ShipSource) (done whole : List (ℕ × Name)) → i < length is → p ≡ get_or is i p → p < length ss → t ≡ get_or ss p t
    → done ++ columns_used project d n (sources_at ss (drop i is)) ≡ whole
    → (done ++ of_table n (used_of project (length (sources_at ss (drop (i + 1) is))) d t)) ++ columns_used project d (suc n) (sources_at ss (drop (i + 1) is)) ≡ whole
used_next project d ss is i n p t done whole lt e within at h =
    some_more done (of_table n (used_of project (length (sources_at ss (drop (i + 1) is))) d t)) (columns_used project d (suc n) (sources_at ss (drop (i + 1) is))) whole
    (ap (λ ts. done ++ columns_used project d n ts) (sym (table_next ss is i p t lt e within at)) ∙ h)

all_drop : {X : Type 0} (P : X → Type 0) (xs : List X) (i : ℕ) → AllByRecursion P xs → AllByRecursion P (drop i xs)
all_drop P [] zero h = tt
all_drop P [] (suc i) h = tt
all_drop P (x ∷ xs) zero h = h
all_drop P (x ∷ xs) (suc i) h = all_drop P xs i h.1

pub tables_left : (ss : List ShipSource) (is : List ℕ) (i : ℕ) → AllByRecursion (λ x. x < length ss) is → length (sources_at ss (drop i is)) ≡ length is - i
tables_left ss is i h = sources_long ss (drop i is) (all_drop (λ x. x < length ss) is i h) ∙ length-drop i is

-- ---- labels by number

digit_word : (d : ℕ) → d < 10 → is_word_byte (48 + d) ≡ true
digit_word d h = grind (arith, nat_tests)

digits_word : (n : ℕ) → n < 2 ^ 64 → list_all is_word_byte (decimal n) ≡ true
digits_word = decimal_by_steps (λ m ds. list_all is_word_byte ds ≡ true)
    (λ m lt. ap (λ b. b && true) (digit_word m lt))
    (λ m ds le h. list_all-append is_word_byte ds ((48 + m % 10) ∷ []) ∙ ap₂ (λ x y. x && y) h (ap (λ b. b && true) (digit_word (m % 10) (omega arith))))

pub number_word : (n : ℕ) → n < 2 ^ 64 → is_word (codes "c" ++ decimal n) ≡ true
number_word n small = digits_word n small

pub is_label : (n : ℕ) (bs : List ℕ) → n < 2 ^ 64 → bs ≡ codes "c" ++ decimal n → label_of bs ≡ Some bs
is_label n bs small e = ap (λ b. cond b (Some bs) None) (ap is_word e ∙ number_word n small)
