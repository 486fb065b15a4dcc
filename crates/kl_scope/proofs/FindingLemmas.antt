-- Findings, gathered.
use Rattle.std.proofs.Common.{◌≡◌, ℕ, ◌+◌, ◌<◌, Bool, true, false, ◌||◌, List, [], ◌∷◌, ◌++◌, map, length, drop, get_or, cond, refl, sym, ap, subst, ◌∙◌, Bor, bytes_eq}
use Rattle.std.proofs.lemmas.Map.Text.{is_eq-slice_cmp}
use Rattle.std.specs.BTreeSet.{BTreeSet, contains, Updates}
use Rattle.kl_base.specs.Fields.{bytes_cmp}
use Rattle.kl_syntax.specs.declared.tree.Pattern.{Pattern}
use Rattle.kl_syntax.specs.declared.tree.Word.{Word}
use Rattle.kl_syntax.specs.View.{pattern_view, patterns_view}
use Rattle.kl_scope.specs.declared.refusal.ScopeError.TheVariants.{Twice}
use Rattle.kl_scope.specs.Findings.{Finding, breach, may_fail, repeated, is_among, only_if}
use Rattle.kl_scope.specs.Gathering.{Gathered, noted, gathered}
use Rattle.kl_scope.specs.Patterns.{tests, tests_all}
use Rattle.kl_scope.specs.Senses.{Name}
use Rattle.kl_base.proofs.Places.{drop_at}

pub gathered_append : (g : Gathered) (xs ys : List Finding) → gathered g (xs ++ ys) ≡ gathered (gathered g xs) ys
gathered_append g [] ys = refl
gathered_append g (x ∷ xs) ys = gathered_append (noted g x) xs ys

map_append : {A B : Type 0} (f : A → B) (xs ys : List A) → map f (xs ++ ys) ≡ map f xs ++ map f ys
map_append f [] ys = refl
map_append f (x ∷ xs) ys = ap (λ z. f x ∷ z) (map_append f xs ys)

-- ---- parts of patterns that may fail

pub tests_more : (g h : Gathered) (fields : List (Word × Pattern)) (i : ℕ) (f : Word × Pattern) → i < length fields → f ≡ get_or fields i f → h ≡ gathered g (map may_fail (tests (pattern_view f.1)))
    → gathered h (map may_fail (tests_all (patterns_view (drop (i + 1) fields)))) ≡ gathered g (map may_fail (tests_all (patterns_view (drop i fields))))
tests_more g h fields i f lt at e =
    rw (drop_at fields i f lt at, e) (sym (ap (gathered g) (map_append may_fail (tests (pattern_view f.1)) (tests_all (patterns_view (drop (i + 1) fields)))) ∙ gathered_append g (map may_fail (tests (pattern_view f.1))) (map may_fail (tests_all (patterns_view (drop (i + 1) fields))))))

-- ---- words that stand twice

-- the set has the words before, and what is left is found as the whole is
pub record Looked (before : BTreeSet Name) (now : Gathered) (rest : List Word) (first : Gathered) (whole : List Word) : Type 0 where
  pub names : List Name
  pub holds : (x : Name) → contains bytes_cmp before x ≡ is_among x names
  pub same : gathered now (repeated names rest) ≡ gathered first (repeated [] whole)

among_more : (set next : BTreeSet Name) (k : Name) (names : List Name) → Updates bytes_cmp set next k true → ((x : Name) → contains bytes_cmp set x ≡ is_among x names) → (x : Name) → contains bytes_cmp next x ≡ is_among x (k ∷ names)
among_more set next k names up holds x = up.0 x ∙ rw (is_eq-slice_cmp k x, holds x) (either (bytes_eq k x) (is_among x names))
  where
    either : (a b : Bool) → cond a true b ≡ (a || b)
    either true b = refl
    either false b = refl

pub looked_more : (set next : BTreeSet Name) (g h first : Gathered) (w : Word) (rest whole : List Word) → Looked set g (w ∷ rest) first whole → Updates bytes_cmp set next w.text true
    → h ≡ gathered g (only_if (contains bytes_cmp set w.text) (breach (Twice w.text w.token))) → Looked next h rest first whole
looked_more set next g h first w rest whole l up e = record {
  names = w.text ∷ l.names;
  holds = among_more set next w.text l.names up l.holds;
  same = rw (e, l.holds w.text) (sym (gathered_append g (only_if (is_among w.text l.names) (breach (Twice w.text w.token))) (repeated (w.text ∷ l.names) rest))) ∙ l.same;
}

behind_item : (words : List (Bor Word)) (i : ℕ) (w : Bor Word) → i < length words → w ≡ get_or words i w → map (λ w. w.now) (drop i words) ≡ w.now ∷ map (λ w. w.now) (drop (i + 1) words)
behind_item words i w lt at = ap (map (λ w. w.now)) (drop_at words i w lt at)

pub looked_at : (set next : BTreeSet Name) (g h first : Gathered) (words : List (Bor Word)) (i : ℕ) (w : Bor Word) (whole : List Word) → i < length words → w ≡ get_or words i w → Looked set g (map (λ w. w.now) (drop i words)) first whole
    → Updates bytes_cmp set next w.now.text true → h ≡ gathered g (only_if (contains bytes_cmp set w.now.text) (breach (Twice w.now.text w.now.token))) → Looked next h (map (λ w. w.now) (drop (i + 1) words)) first whole
looked_at set next g h first words i w whole lt at l up e =
    looked_more set next g h first w.now (map (λ w. w.now) (drop (i + 1) words)) whole (subst (λ (z : List Word). Looked set g z first whole) (behind_item words i w lt at) l) up e
