-- No position is free in the term of a program.
use Rattle.std.proofs.Common.{◌≡◌, ℕ, suc, ◌+◌, ◌-◌, ◌<◌, ◌≤◌, Bool, true, false, ◌||◌, cond, List, [], ◌∷◌, length, Option, Some, None, refl, arith}
use Rattle.std.specs.List.{AllByRecursion}
use Rattle.std.proofs.lemmas.Bool.{ne_eqb, or_from}
use Rattle.kl_value.specs.declared.Kind.{Kind}
use Rattle.kl_outcome.specs.Outcome.{Name}
use Rattle.kl_syntax.specs.declared.tree.Op.{Op}
use Rattle.kl_syntax.specs.declared.tree.Op.TheVariants as op
use Rattle.kl_syntax.specs.declared.tree.Tail.{Tail}
use Rattle.kl_syntax.specs.declared.tree.Tail.TheVariants as tail
use Rattle.kl_syntax.specs.declared.tree.Word.{Word}
use Rattle.kl_syntax.specs.Syntax.{Pat, catch, any, same, is, shape, variant, Pats, no_pats, pats, Exp, Const, name, Call, Rec, More, Inj, Coll, Comp, If, Let, Case, Path, Not, Neg, Chain, Exps, no_exps, exps, Flds, no_flds, flds, Quals, no_quals, draw, test, Branches, no_branches, otherwise, branch, Steps, no_steps, step, Decls, no_decls, constant, function}
use Rattle.kl_meaning.specs.Match.{same_name}
use Rattle.kl_meaning.specs.Run.{code_named}
use Rattle.kl_prim.proofs.RecordLemmas.{in_order_all}
use Rattle.kl_core.specs.Positions.{occurs_in, occurs_trees, occurs_parts, occurs_arms}
use Rattle.kl_core.specs.Trees as term
use Rattle.kl_core.specs.Trees.{Tree, Trees, no_trees, trees, Arms}
use Rattle.kl_desugar.specs.Translation.{Scope, is_at, level_of, at_level, Place, here, inside, place_tree, Code, value_by, function_by, primitive_by, Codes, no_sense, level_tree, name_tree, with_rest, tested, matched, matched_fields, empty, called_tree, operated_tree, projected, matched_here, tree, tree_all, tree_fields, tree_quals, tree_branches, tree_steps, number_of, code_by, code_at, codes_first, with_code, function_tree, codes_after, term_of}
use Rattle.kl_desugar.specs.Translation as translation

-- each free position is below n
abbrev Below : ℕ → Tree → Type 0
Below n t = (m : ℕ) → n ≤ m → occurs_in m t ≡ false

abbrev AllBelow : ℕ → Trees → Type 0
AllBelow n ts = (m : ℕ) → n ≤ m → occurs_trees m ts ≡ false

abbrev ArmsBelow : ℕ → Arms → Type 0
ArmsBelow n bs = (m : ℕ) → n ≤ m → occurs_arms m bs ≡ false

under : (n m : ℕ) → n ≤ m → suc n ≤ m + 1
under n m h = omega (arith, h)

-- of a function, position 0 alone
abbrev CodeBelow : Code → Type 0
CodeBelow (value_by t) = Below 0 t
CodeBelow (function_by t) = Below 1 t
CodeBelow _ = Unit {0}

abbrev CodesBelow : Codes → Type 0
CodesBelow codes = (x : Name) → CodeBelow (codes x)

-- ---- names and places

abbrev LevelBelow : Option ℕ → ℕ → Type 0
LevelBelow (Some m) n = m < n
LevelBelow None n = Unit {0}

level_in : (x : Name) (S : Scope) → LevelBelow (level_of x S) (length S)
level_in x [] = tt
level_in x (b ∷ S) = by_name (is_at b x) (level_of x S) (length S) (level_in x S)
  where
    by_name : (c : Bool) (o : Option ℕ) (n : ℕ) → LevelBelow o n → LevelBelow (cond c (Some n) o) (suc n)
    by_name true o n h = omega arith
    by_name false (Some m) n h = omega (arith, h)
    by_name false None n h = tt

level_below : (m n k : ℕ) → m < n → n ≤ k → (n - suc m ≡ k → ⊥)
level_below m n k h g e = omega (arith, h, g, e)

at_below : (m n : ℕ) → m < n → Below n (at_level m n)
at_below m n h = λ k g. ne_eqb (n - suc m) k (level_below m n k h g)

closed_below : (n : ℕ) (t : Tree) → Below 0 t → Below n t
closed_below n t h = λ m g. h m (omega arith)

code_below : (c : Code) (n : ℕ) → CodeBelow c → Below n (translation.code_tree c)
code_below (value_by t) n h = closed_below n t h
code_below (function_by t) n h = λ m g. refl
code_below (primitive_by c) n h = λ m g. refl
code_below translation.nothing n h = λ m g. refl

name_below : (codes : Codes) (S : Scope) (x : Name) (n : ℕ) → CodesBelow codes → length S ≤ n → Below n (name_tree codes S x n)
name_below codes S x n closed le = by_level (level_of x S) (level_in x S)
  where
    by_level : (o : Option ℕ) → LevelBelow o (length S) → Below n (level_tree o (codes x) n)
    by_level (Some m) h = at_below m n (omega (arith, h, le))
    by_level None h = code_below (codes x) n (closed x)

abbrev PlaceIn : Place → ℕ → Type 0
PlaceIn (here m) n = m < n
PlaceIn (inside l t) n = PlaceIn t n

place_more : (t : Place) (n k : ℕ) → n ≤ k → PlaceIn t n → PlaceIn t k
place_more (here m) n k le h = omega (arith, le, h)
place_more (inside l t) n k le h = place_more t n k le h

place_below : (t : Place) (n : ℕ) → PlaceIn t n → Below n (place_tree t n)
place_below (here m) n h = at_below m n h
place_below (inside l t) n h = place_below t n h

tested_below : (t u a e : Tree) (n : ℕ) → Below n t → Below n u → Below n a → Below 0 e → Below n (tested t u a e)
tested_below t u a e n h k g z = λ m le. or_from _ _ (or_from _ _ (h m le) (or_from _ _ (k m le) refl)) (or_from _ _ (g m le) (z m (omega arith)))

-- ---- patterns

rest_below : (end : Tail) (ps : Pats) (t : Place) (R : Scope) (A : Scope → Tree) → PlaceIn t (length R) → ((Q : Scope) → length R ≤ length Q → Below (length Q) (A Q)) → Below (length R) (with_rest end ps t A R)
rest_below (tail.Rest x) ps t R A at h = λ m g. or_from _ _ (or_from _ _ (place_below t (length R) at m g) refl) (h (Some x.text ∷ R) (omega arith) (m + 1) (under (length R) m g))
rest_below tail.Exact ps t R A at h = h R (omega arith)
rest_below tail.Open ps t R A at h = h R (omega arith)

module _ (codes : Codes) (closed : CodesBelow codes) where
  module _ (S : Scope) (e : Tree) (missed : Below 0 e) where
    mutual
      matched_below : (p : Pat) (t : Place) (R : Scope) (A : Scope → Tree) → length S ≤ length R → PlaceIn t (length R) → ((Q : Scope) → length R ≤ length Q → Below (length Q) (A Q)) → Below (length R) (matched p t codes S e A R)
      matched_below (catch x) t R A le at h = λ m g. or_from _ _ (place_below t (length R) at m g) (h (Some x.text ∷ R) (omega arith) (m + 1) (under (length R) m g))
      matched_below any t R A le at h = h R (omega arith)
      matched_below (same x) t R A le at h = tested_below (place_tree t (length R)) (name_tree codes S x.text (length R)) (A R) e (length R) (place_below t (length R) at) (name_below codes S x.text (length R) closed le) (h R (omega arith)) missed
      matched_below (is v n) t R A le at h = tested_below (place_tree t (length R)) (term.Const v) (A R) e (length R) (place_below t (length R) at) (λ m g. refl) (h R (omega arith)) missed
      matched_below (shape ps end) t R A le at h =
          pats_below ps t R (λ Q. with_rest end ps t A Q) le at
          (λ Q g. rest_below end ps t Q A (place_more t (length R) (length Q) g at) (λ Z k. h Z (omega (arith, g, k))))
      matched_below (variant l p) t R A le at h =
          let inner : Below (suc (length R)) (matched p (here (length R)) codes S e A (None ∷ R)) = matched_below p (here (length R)) (None ∷ R) A (omega (arith, le)) (omega arith) (λ Q g. h Q (omega (arith, g))) in
          λ m g. or_from _ _ (place_below t (length R) at m g) (or_from _ _ (inner (m + 1) (under (length R) m g)) (missed m (omega arith)))

      pats_below : (ps : Pats) (t : Place) (R : Scope) (A : Scope → Tree) → length S ≤ length R → PlaceIn t (length R) → ((Q : Scope) → length R ≤ length Q → Below (length Q) (A Q)) → Below (length R) (matched_fields ps t codes S e A R)
      pats_below no_pats t R A le at h = h R (omega arith)
      pats_below (pats l p ps) t R A le at h =
          matched_below p (inside l.text t) R (λ Q. matched_fields ps t codes S e A Q) le at
          (λ Q g. pats_below ps t Q A (omega (arith, le, g)) (place_more t (length R) (length Q) g at) (λ Z k. h Z (omega (arith, g, k))))

  here_below : (p : Pat) (S : Scope) (e : Tree) (A : Scope → Tree) → Below 0 e → ((Q : Scope) → Below (length Q) (A Q)) → Below (suc (length S)) (matched_here p codes S e A)
  here_below p S e A missed h = matched_below S e missed p (here (length S)) (None ∷ S) A (omega arith) (omega arith) (λ Q g. h Q)

  -- ---- expressions

  call_below : (c : Code) (ts : Trees) (n : ℕ) → CodeBelow c → AllBelow n ts → Below n (called_tree c ts)
  call_below (function_by t) (trees a no_trees) n h k = λ m g. or_from _ _ (first (occurs_in m a) (k m g)) (h (m + 1) (omega arith))
    where
      first : (b : Bool) → (b || false) ≡ false → b ≡ false
      first true h = h
      first false h = refl
  call_below (function_by t) no_trees n h k = λ m g. refl
  call_below (function_by t) (trees a (trees b ts)) n h k = λ m g. refl
  call_below (value_by t) ts n h k = λ m g. refl
  call_below (primitive_by c) ts n h k = k
  call_below translation.nothing ts n h k = λ m g. refl

  operated_below : (c : Op) (a b : Tree) (n : ℕ) → Below n a → Below n b → Below n (operated_tree c a b)
  operated_below op.And a b n h k = λ m g. or_from _ _ (h m g) (or_from _ _ (k m g) refl)
  operated_below op.Or a b n h k = λ m g. or_from _ _ (h m g) (k m g)
  operated_below op.Append a b n h k = λ m g. or_from _ _ (h m g) (k m g)
  operated_below op.Eq a b n h k = λ m g. or_from _ _ (h m g) (or_from _ _ (k m g) refl)
  operated_below op.Ne a b n h k = λ m g. or_from _ _ (h m g) (or_from _ _ (k m g) refl)
  operated_below op.Lt a b n h k = λ m g. or_from _ _ (h m g) (or_from _ _ (k m g) refl)
  operated_below op.Le a b n h k = λ m g. or_from _ _ (h m g) (or_from _ _ (k m g) refl)
  operated_below op.Gt a b n h k = λ m g. or_from _ _ (h m g) (or_from _ _ (k m g) refl)
  operated_below op.Ge a b n h k = λ m g. or_from _ _ (h m g) (or_from _ _ (k m g) refl)
  operated_below op.Add a b n h k = λ m g. or_from _ _ (h m g) (or_from _ _ (k m g) refl)
  operated_below op.Sub a b n h k = λ m g. or_from _ _ (h m g) (or_from _ _ (k m g) refl)
  operated_below op.Mul a b n h k = λ m g. or_from _ _ (h m g) (or_from _ _ (k m g) refl)
  operated_below op.Cat a b n h k = λ m g. or_from _ _ (h m g) (or_from _ _ (k m g) refl)

  path_below : (ls : List Word) (t : Tree) (n : ℕ) → Below n t → Below n (projected ls t)
  path_below [] t n h = h
  path_below (l ∷ ls) t n h = path_below ls (term.Proj l.text t) n h

  parts_below : (ps : List (Name × Tree)) (n : ℕ) → AllByRecursion (λ p. Below n p.1) ps → (m : ℕ) → n ≤ m → occurs_parts m (term.parts_of ps) ≡ false
  parts_below [] n h m g = refl
  parts_below (p ∷ ps) n h m g = or_from _ _ (h.0 m g) (parts_below ps n h.1 m g)

  mutual
    tree_below : (e : Exp) (S : Scope) → Below (length S) (tree e codes S)
    tree_below (Const v) S = λ m g. refl
    tree_below (name x) S = name_below codes S x.text (length S) closed (omega arith)
    tree_below (Call f es) S = call_below (codes f.text) (tree_all es codes S) (length S) (closed f.text) (all_below es S)
    tree_below (Rec fs) S = parts_below _ (length S) (in_order_all (λ p. Below (length S) p.1) _ (fields_below fs S))
    tree_below (More fs a) S = λ m g. or_from _ _ (parts_below _ (length S) (in_order_all (λ p. Below (length S) p.1) _ (fields_below fs S)) m g) (or_from _ _ (tree_below a S m g) refl)
    tree_below (Inj l a) S = tree_below a S
    tree_below (Coll k es) S = all_below es S
    tree_below (Comp k e qs) S = quals_below qs k (λ R. term.Make k (trees (tree e codes R) no_trees)) S (λ Q m g. or_from _ _ (tree_below e Q m g) refl)
    tree_below (If a b c) S = λ m g. or_from _ _ (tree_below a S m g) (or_from _ _ (tree_below b S m g) (tree_below c S m g))
    tree_below (Let p a b) S =
        let inner = here_below p S no_sense (λ R. tree b codes R) (λ m g. refl) (λ Q. tree_below b Q) in
        λ m g. or_from _ _ (tree_below a S m g) (inner (m + 1) (under (length S) m g))
    tree_below (Case a bs) S = λ m g. or_from _ _ (tree_below a S m g) (branches_below bs S m g)
    tree_below (Path a ls) S = path_below ls _ (length S) (tree_below a S)
    tree_below (Not a) S = λ m g. or_from _ _ (tree_below a S m g) refl
    tree_below (Neg a) S = λ m g. or_from _ _ (tree_below a S m g) refl
    tree_below (Chain a ss) S = steps_below ss _ S (tree_below a S)

    all_below : (es : Exps) (S : Scope) → AllBelow (length S) (tree_all es codes S)
    all_below no_exps S = λ m g. refl
    all_below (exps e es) S = λ m g. or_from _ _ (tree_below e S m g) (all_below es S m g)

    fields_below : (fs : Flds) (S : Scope) → AllByRecursion (λ p. Below (length S) p.1) (tree_fields fs codes S)
    fields_below no_flds S = tt
    fields_below (flds l e fs) S = (tree_below e S, fields_below fs S)

    quals_below : (qs : Quals) (k : Kind) (A : Scope → Tree) (S : Scope) → ((Q : Scope) → Below (length Q) (A Q)) → Below (length S) (tree_quals qs k A codes S)
    quals_below no_quals k A S h = h S
    quals_below (draw p s qs) k A S h =
        let inner = here_below p S (empty k) (λ R. tree_quals qs k A codes R) (λ m g. refl) (λ Q. quals_below qs k A Q h) in
        λ m g. or_from _ _ (inner (m + 1) (under (length S) m g)) (tree_below s S m g)
    quals_below (test c qs) k A S h = λ m g. or_from _ _ (tree_below c S m g) (or_from _ _ (quals_below qs k A S h m g) refl)

    branches_below : (bs : Branches) (S : Scope) → ArmsBelow (length S) (tree_branches bs codes S)
    branches_below no_branches S = λ m g. refl
    branches_below (otherwise c) S = tree_below c S
    branches_below (branch l p b bs) S =
        let inner = here_below p S no_sense (λ R. tree b codes R) (λ m g. refl) (λ Q. tree_below b Q) in
        λ m g. or_from _ _ (inner (m + 1) (under (length S) m g)) (branches_below bs S m g)

    steps_below : (ss : Steps) (a : Tree) (S : Scope) → Below (length S) a → Below (length S) (tree_steps ss a codes S)
    steps_below no_steps a S h = h
    steps_below (step c e ss) a S h = steps_below ss _ S (operated_below c a _ (length S) h (tree_below e S))

-- ---- programs

first_below : (n c : Option ℕ) → CodeBelow (code_at n c)
first_below (Some i) c = λ m g. refl
first_below None (Some c) = tt
first_below None None = tt

with_below : (b : Bool) (c d : Code) → CodeBelow c → CodeBelow d → CodeBelow (cond b c d)
with_below true c d h k = h
with_below false c d h k = k

after_below : (ds : Decls) (codes : Codes) → CodesBelow codes → CodesBelow (codes_after ds codes)
after_below no_decls codes h = h
after_below (constant d e ds) codes h =
    after_below ds _ (λ x. with_below (same_name x d.text) (value_by (tree e codes [])) (codes x) (tree_below codes h e []) (h x))
after_below (function d p e ds) codes h =
    after_below ds _ (λ x. with_below (same_name x d.text) (function_by (function_tree p e codes)) (codes x) (here_below codes h p [] no_sense (λ R. tree e codes R) (λ m g. refl) (λ Q. tree_below codes h e Q)) (h x))

pub closed_by : (ds : Decls) (e : Exp) (sources : List Name) (t : Tree) → t ≡ term_of ds e sources → (n : ℕ) → occurs_in n t ≡ false
closed_by ds e sources t told n = rw told (tree_below _ (after_below ds _ (λ x. first_below (number_of x sources 0) (code_named x))) e [] n (omega arith))
