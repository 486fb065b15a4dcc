-- The search in lists of parts, which are lent, changed in place and put back.
use Rattle.std.proofs.Common.{◌≡◌, ℕ, zero, suc, ◌+◌, ◌≤◌, ◌<◌, Bool, true, false, List, [], ◌∷◌, ◌++◌, length, get_or, take, drop, Option, Some, Result, Ok, refl, sym, ap, subst, ◌∙◌, arith, append-nil}
use Rattle.std.proofs.Math.ListN.{set}
use Rattle.std.proofs.lemmas.List.{length-set, get_or-set_other, get_or_default, take_all, drop_all}
use Rattle.kl_base.specs.declared.memory.NoMemory.{NoMemory}
use Rattle.kl_outcome.specs.Outcome.{Name}
use Rattle.kl_core.specs.declared.term.Term.{Term}
use Rattle.kl_core.specs.Trees.{Tree, trees, Parts, parts, view, trees_view, parts_view}
use Rattle.kl_rewrite.specs.declared.search.Search.{Search}
use Rattle.kl_rewrite.specs.Places.{tree_at, field_at, with_tree, with_field}
use Rattle.kl_rewrite.specs.Searched.{IsOpen, SearchedPart, AreOpen, PassesAll, StepsInOne, SearchedAll, AfterNone, Behind}
use Rattle.kl_rewrite.proofs.Sizes.{put_tree, put_field}
use Rattle.kl_rewrite.proofs.Parts.{PassesBelow, none_passed, one_passed, one_steps, all_passed, open_here}

-- ---- lists as trees

tree_read : (ts : List Term) (i : ℕ) (x : Term) → i < length ts → x ≡ get_or ts i x → tree_at (trees_view ts) i ≡ Some (view x)
tree_read [] i x l e = absurd (omega (arith, l))
tree_read (t ∷ ts) zero x l e = ap (λ y. Some (view y)) (sym e)
tree_read (t ∷ ts) (suc i) x l e = tree_read ts i x (omega (arith, l)) e

tree_written : (ts : List Term) (i : ℕ) (x y : Term) → i < length ts → x ≡ get_or ts i x → trees_view (set ts i y) ≡ with_tree (trees_view ts) i (view y)
tree_written [] i x y l e = absurd (omega (arith, l))
tree_written (t ∷ ts) zero x y l e = refl
tree_written (t ∷ ts) (suc i) x y l e = ap (trees (view t)) (tree_written ts i x y (omega (arith, l)) e)

tree_few : (ts : List Term) (i : ℕ) (b : Tree) → tree_at (trees_view ts) i ≡ Some b → i < length ts
tree_few [] i b e = absurd cc
tree_few (t ∷ ts) zero b e = omega arith
tree_few (t ∷ ts) (suc i) b e = omega (arith, tree_few ts i b e)

field_read : (ps : List (Name × Term)) (i : ℕ) (x : Name × Term) → i < length ps → x ≡ get_or ps i x → field_at (parts_view ps) i ≡ Some (view x.1)
field_read [] i x l e = absurd (omega (arith, l))
field_read (p ∷ ps) zero x l e = ap (λ (y : Name × Term). Some (view y.1)) (sym e)
field_read (p ∷ ps) (suc i) x l e = field_read ps i x (omega (arith, l)) e

field_written : (ps : List (Name × Term)) (i : ℕ) (x : Name × Term) (y : Term) → i < length ps → x ≡ get_or ps i x → parts_view (set ps i (x.0, y)) ≡ with_field (parts_view ps) i (view y)
field_written [] i x y l e = absurd (omega (arith, l))
field_written (p ∷ ps) zero x y l e = ap (λ (q : Name × Term). parts q.0 (view y) (parts_view ps)) e
field_written (p ∷ ps) (suc i) x y l e = ap (parts p.0 (view p.1)) (field_written ps i x y (omega (arith, l)) e)

pub field_few : (ps : List (Name × Term)) (i : ℕ) (b : Tree) → field_at (parts_view ps) i ≡ Some b → i < length ps
field_few [] i b e = absurd cc
field_few (p ∷ ps) zero b e = omega arith
field_few (p ∷ ps) (suc i) b e = omega (arith, field_few ps i b e)

-- ---- what a loop has not come to

-- the elements from i on are those of the list that was lent
pub rest_lent : {A : Type 0} (xs ys : List A) (i : ℕ) (y : A) → length ys ≡ length xs → ((k : ℕ) (d : A) → i ≤ k → get_or ys k d ≡ get_or xs k d)
    → (length (set ys i y) ≡ length xs) × ((k : ℕ) (d : A) → i + 1 ≤ k → get_or (set ys i y) k d ≡ get_or xs k d)
rest_lent xs ys i y long same = (length-set ys i y ∙ long, λ k d l. get_or-set_other ys i k y d (λ e. omega (arith, l, e)) ∙ same k d (omega (arith, l)))

given_back : {A : Type 0} (all xs ys : List A) → xs ≡ all → length ys ≡ length xs → take (length all) (ys ++ drop (length ys) all) ≡ ys
given_back all xs ys e long =
    let same : length ys ≡ length all = long ∙ ap length e in
    let none : drop (length ys) all ≡ [] = ap (λ n. drop n all) same ∙ drop_all (length all) all (omega arith) in
    rw (none, append-nil) (take_all (length all) ys (omega (arith, same)))

-- ---- the loops

module _ {A L : Type 0} (at : L → ℕ → Option Tree) (with : L → ℕ → Tree → L) (seen : List A → L) (part : A → Term) (filled : A → Term → A)
    (read : (xs : List A) (i : ℕ) (x : A) → i < length xs → x ≡ get_or xs i x → at (seen xs) i ≡ Some (view (part x)))
    (written : (xs : List A) (i : ℕ) (x : A) (y : Term) → i < length xs → x ≡ get_or xs i x → seen (set xs i (filled x y)) ≡ with (seen xs) i (view y))
    (few : (xs : List A) (i : ℕ) (b : Tree) → at (seen xs) i ≡ Some b → i < length xs)
    (back : (b : Tree) (ts : L) (i : ℕ) → at ts i ≡ Some b → with ts i b ≡ ts) where
  module _ (level n : ℕ) (all xs : List A) (s : Search) (e : xs ≡ all) (ys : List A) (i : ℕ) (v : Search) (long : length ys ≡ length xs) (h : PassesBelow at level i (seen xs) (seen ys) s v) where
    passed : PassesBelow at level i (seen all) (seen ys) s v
    passed = subst (λ zs. PassesBelow at level i (seen zs) (seen ys) s v) e h

    module _ (d : A) (l : i < length xs) where
      item : A
      item = get_or ys i d

      within : i < length ys
      within = omega (arith, l, long)

      is_item : item ≡ get_or ys i item
      unfolding item
      is_item = get_or_default ys i d (get_or ys i d) within

      stands : at (seen all) i ≡ Some (view (part item))
      stands = ap (λ z. at z i) (sym passed.same) ∙ read ys i item within is_item

      pub loop_open : (trail : List ℕ) → AreOpen at level n (seen all) trail s → IsOpen level (n + i) (view (part (get_or ys i d))) trail v
      unfolding item
      loop_open trail o = open_here at level n i (seen all) (seen ys) (view (part item)) trail s v o passed stands

      pub loop_passed : (b : Bool) (y : Term) (w : Search) → b ≡ false → SearchedPart level (n + i) (view (part (get_or ys i d))) (view y) b v w → PassesBelow at level (i + 1) (seen xs) (seen (set ys i (filled (get_or ys i d) y))) s w
      unfolding item
      loop_passed b y w f g =
          let p = subst (λ c. SearchedPart level (n + i) (view (part (get_or ys i d))) (view y) c v w) f g in
          let same : with (seen ys) i (view y) ≡ seen all = ap (with (seen ys) i) p.same ∙ back (view (part item)) (seen ys) i (read ys i item within is_item) ∙ passed.same in
          subst (λ zs. PassesBelow at level (i + 1) (seen zs) (seen (set ys i (filled item y))) s w) (sym e)
          (one_passed at level i (seen all) (seen ys) (seen (set ys i (filled item y))) (view (part item)) (view y) s v w passed stands (written ys i item y within is_item ∙ same) p)

      pub loop_steps : (b : Bool) (y : Term) (w : Search) → b ≡ true → SearchedPart level (n + i) (view (part (get_or ys i d))) (view y) b v w
          → StepsInOne at with level n (seen all) (seen (take (length all) (set ys i (filled (get_or ys i d) y) ++ drop (length (set ys i (filled (get_or ys i d) y))) all))) s w
      unfolding item
      loop_steps b y w f g =
          let p = subst (λ c. SearchedPart level (n + i) (view (part (get_or ys i d))) (view y) c v w) f g in
          let zs : List A = set ys i (filled item y) in
          let same : seen zs ≡ with (seen all) i (view y) = written ys i item y within is_item ∙ ap (λ z. with z i (view y)) passed.same in
          subst (λ z. StepsInOne at with level n (seen all) (seen z) s w) (sym (given_back all xs zs e (length-set ys i (filled item y) ∙ long)))
          (one_steps at with level n i (seen all) (seen ys) (seen zs) (view (part item)) (view y) s v w passed stands same p)

    pub loop_ended : length xs ≤ i → PassesAll at level (seen all) (seen (take (length all) (ys ++ drop (length ys) all))) s v
    loop_ended l =
        let count : length xs ≡ length all = ap length e in
        subst (λ z. PassesAll at level (seen all) (seen z) s v) (sym (given_back all xs ys e long))
        (all_passed at level i (seen all) (seen ys) s v (λ j b f. let m = few all j b f in omega (arith, m, count, l)) passed)

-- ---- in terms

pub terms_begun : (level : ℕ) (all xs : List Term) (trail : List ℕ) (s : Search) → AreOpen tree_at level 0 (trees_view all) trail s → PassesBelow tree_at level 0 (trees_view xs) (trees_view xs) s s
terms_begun level all xs trail s o = none_passed tree_at level (trees_view xs) s o.path o.least

module _ (level : ℕ) (all xs : List Term) (s : Search) (e : xs ≡ all) (ys : List Term) (i : ℕ) (v : Search) (long : length ys ≡ length xs) (h : PassesBelow tree_at level i (trees_view xs) (trees_view ys) s v) where
  pub terms_open : (d : Term) → i < length xs → (trail : List ℕ) → AreOpen tree_at level 0 (trees_view all) trail s → IsOpen level i (view (get_or ys i d)) trail v
  terms_open d l trail o =
      subst (λ m. IsOpen level m (view (get_or ys i d)) trail v) (omega arith)
      (loop_open tree_at with_tree trees_view (λ t. t) (λ t y. y) tree_read tree_written tree_few put_tree level 0 all xs s e ys i v long h d l trail o)

  numbered : (d y : Term) (b : Bool) (w : Search) → SearchedPart level i (view (get_or ys i d)) (view y) b v w → SearchedPart level (0 + i) (view (get_or ys i d)) (view y) b v w
  numbered d y b w g = subst (λ m. SearchedPart level m (view (get_or ys i d)) (view y) b v w) (omega arith) g

  pub terms_passed : (d : Term) → i < length xs → (b : Bool) (y : Term) (w : Search) → b ≡ false → SearchedPart level i (view (get_or ys i d)) (view y) b v w → PassesBelow tree_at level (i + 1) (trees_view xs) (trees_view (set ys i y)) s w
  terms_passed d l b y w f g = loop_passed tree_at with_tree trees_view (λ t. t) (λ t y. y) tree_read tree_written tree_few put_tree level 0 all xs s e ys i v long h d l b y w f (numbered d y b w g)

  pub terms_steps : (d : Term) → i < length xs → (b : Bool) (y : Term) (w : Search) → b ≡ true → SearchedPart level i (view (get_or ys i d)) (view y) b v w
      → StepsInOne tree_at with_tree level 0 (trees_view all) (trees_view (take (length all) (set ys i y ++ drop (length (set ys i y)) all))) s w
  terms_steps d l b y w f g = loop_steps tree_at with_tree trees_view (λ t. t) (λ t y. y) tree_read tree_written tree_few put_tree level 0 all xs s e ys i v long h d l b y w f (numbered d y b w g)

  pub terms_ended : length xs ≤ i → PassesAll tree_at level (trees_view all) (trees_view (take (length all) (ys ++ drop (length ys) all))) s v
  terms_ended l = loop_ended tree_at with_tree trees_view (λ t. t) (λ t y. y) tree_read tree_written tree_few put_tree level 0 all xs s e ys i v long h l

-- ---- in parts with labels

module _ (level n : ℕ) (all xs : List (Name × Term)) (s : Search) (e : xs ≡ all) (ys : List (Name × Term)) (i : ℕ) (v : Search) (long : length ys ≡ length xs) (h : PassesBelow field_at level i (parts_view xs) (parts_view ys) s v)
    (r : Result Bool NoMemory) (f : r ≡ Ok false) where
  pub fields_open : (d : Name × Term) → i < length xs → (trail : List ℕ) → AfterNone r (AreOpen field_at level n (parts_view all) trail s) → IsOpen level (n + i) (view (get_or ys i d).1) trail v
  fields_open d l trail o =
      loop_open field_at with_field parts_view (λ p. p.1) (λ p y. (p.0, y)) field_read field_written field_few put_field level n all xs s e ys i v long h d l trail (subst (λ q. AfterNone q (AreOpen field_at level n (parts_view all) trail s)) f o)

  pub fields_passed : (d : Name × Term) → i < length xs → (b : Bool) (y : Term) (w : Search) → b ≡ false → SearchedPart level (n + i) (view (get_or ys i d).1) (view y) b v w
      → PassesBelow field_at level (i + 1) (parts_view xs) (parts_view (set ys i ((get_or ys i d).0, y))) s w
  fields_passed d l b y w k g = loop_passed field_at with_field parts_view (λ p. p.1) (λ p y. (p.0, y)) field_read field_written field_few put_field level n all xs s e ys i v long h d l b y w k g

  pub fields_steps : (d : Name × Term) → i < length xs → (b : Bool) (y : Term) (w : Search) (us : Parts) → b ≡ true → SearchedPart level (n + i) (view (get_or ys i d).1) (view y) b v w
      → us ≡ parts_view (take (length all) (set ys i ((get_or ys i d).0, y) ++ drop (length (set ys i ((get_or ys i d).0, y))) all))
      → Behind r (parts_view all) us s w (λ x. SearchedAll field_at with_field level n (parts_view all) us x s w) true
  fields_steps d l b y w us k g j =
      rw (f, j) (loop_steps field_at with_field parts_view (λ p. p.1) (λ p y. (p.0, y)) field_read field_written field_few put_field level n all xs s e ys i v long h d l b y w k g)

  pub fields_ended : (us : Parts) → length xs ≤ i → us ≡ parts_view (take (length all) (ys ++ drop (length ys) all)) → Behind r (parts_view all) us s v (λ x. SearchedAll field_at with_field level n (parts_view all) us x s v) false
  fields_ended us l j = rw (f, j) (loop_ended field_at with_field parts_view (λ p. p.1) (λ p y. (p.0, y)) field_read field_written field_few put_field level n all xs s e ys i v long h l)

pub fields_begun : (level n : ℕ) (all xs : List (Name × Term)) (trail : List ℕ) (r : Result Bool NoMemory) (s : Search) → r ≡ Ok false → AfterNone r (AreOpen field_at level n (parts_view all) trail s)
    → PassesBelow field_at level 0 (parts_view xs) (parts_view xs) s s
fields_begun level n all xs trail r s f o =
    let given = subst (λ q. AfterNone q (AreOpen field_at level n (parts_view all) trail s)) f o in
    none_passed field_at level (parts_view xs) s given.path given.least
