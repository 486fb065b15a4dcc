-- A term that was raised by one, lowered again, and what does not mention a position.
use Rattle.std.proofs.Common.{◌≡◌, inl, inr, ℕ, ◌+◌, ◌-◌, ◌<◌, ◌≤◌, Bool, true, false, ◌||◌, nat_eq, List, ◌∷◌, ◌++◌, length, refl, sym, ap, ap₂, ◌∙◌, arith, ⊎_elim, true≢false}
use Rattle.std.proofs.lemmas.Bool.{cases_lt, cases_eq, lt-ltb, le-ltb, eq-eqb, ne_eqb}
use Rattle.kl_type.specs.Ground.{Ground, Row}
use Rattle.kl_outcome.specs.Outcome.{Name}
use Rattle.kl_core.specs.Trees.{Tree, Var, Const, Source, Rec, Proj, Inj, Case, Make, Union, Ext, If, Let, Prim, Trees, no_trees, trees, Parts, no_parts, parts, Arms, no_arms, rest, arm}
use Rattle.kl_core.specs.Positions.{raised, shift_of, shift_trees, shift_parts, shift_arms, placed, subst_of, subst_trees, subst_parts, subst_arms, occurs_in, occurs_trees, occurs_parts, occurs_arms}
use Rattle.kl_core.specs.Typing.{SourceTypes, CoreTypes, EachType, AllTypes, PartTypes, ArmTypes, HasArm}
use Rattle.kl_core.proofs.Meanings.{raised_get}

pub choice_is : {a b c d e f : Tree} → a ≡ d → b ≡ e → c ≡ f → If a b c ≡ If d e f
choice_is {a} {b} {c} {d} {e} {f} p q r = ap (λ x. If x b c) p ∙ ap₂ (If d) q r

placed_raised : (w : Tree) (n x : ℕ) → placed n w (raised n 1 x) ≡ Var x
placed_raised w n x = ⊎_elim low high (cases_lt x n)
  where
    low : x < n → placed n w (raised n 1 x) ≡ Var x
    low h = rw (lt-ltb x n h, ne_eqb x n (λ e. omega arith), lt-ltb x n h) refl

    high : n ≤ x → placed n w (raised n 1 x) ≡ Var x
    high h = let e : x + 1 - 1 ≡ x = omega arith in rw (le-ltb x n h, ne_eqb (x + 1) n (λ e. omega arith), le-ltb (x + 1) n (omega arith)) (ap Var e)

-- what is put for a position that is not there is lost
mutual
  pub lowered : (t w : Tree) (n : ℕ) → subst_of (shift_of t n 1) n w ≡ t
  lowered (Var x) w n = placed_raised w n x
  lowered (Const v) w n = refl
  lowered (Source i) w n = refl
  lowered (Rec ps) w n = ap Rec (lowered_parts ps w n)
  lowered (Proj l a) w n = ap (Proj l) (lowered a w n)
  lowered (Inj l a) w n = ap (Inj l) (lowered a w n)
  lowered (Case a bs) w n = ap₂ Case (lowered a w n) (lowered_arms bs w n)
  lowered (Make k ts) w n = ap (Make k) (lowered_trees ts w n)
  lowered (Union a b) w n = ap₂ Union (lowered a w n) (lowered b w n)
  lowered (Ext k b s) w n = ap₂ (Ext k) (lowered b (shift_of w 0 1) (n + 1)) (lowered s w n)
  lowered (If a b c) w n = choice_is (lowered a w n) (lowered b w n) (lowered c w n)
  lowered (Let a b) w n = ap₂ Let (lowered a w n) (lowered b (shift_of w 0 1) (n + 1))
  lowered (Prim c ts) w n = ap (Prim c) (lowered_trees ts w n)

  lowered_trees : (ts : Trees) (w : Tree) (n : ℕ) → subst_trees (shift_trees ts n 1) n w ≡ ts
  lowered_trees no_trees w n = refl
  lowered_trees (trees t ts) w n = ap₂ trees (lowered t w n) (lowered_trees ts w n)

  lowered_parts : (ps : Parts) (w : Tree) (n : ℕ) → subst_parts (shift_parts ps n 1) n w ≡ ps
  lowered_parts no_parts w n = refl
  lowered_parts (parts l t ps) w n = ap₂ (parts l) (lowered t w n) (lowered_parts ps w n)

  lowered_arms : (bs : Arms) (w : Tree) (n : ℕ) → subst_arms (shift_arms bs n 1) n w ≡ bs
  lowered_arms no_arms w n = refl
  lowered_arms (rest c) w n = ap rest (lowered c w n)
  lowered_arms (arm l b bs) w n = ap₂ (arm l) (lowered b (shift_of w 0 1) (n + 1)) (lowered_arms bs w n)

pub one_lowered : (t u : Tree) (n : ℕ) → shift_of t n 1 ≡ shift_of u n 1 → t ≡ u
one_lowered t u n e = sym (lowered t (Source 0) n) ∙ ap (λ x. subst_of x n (Source 0)) e ∙ lowered u (Source 0) n

arm_before : (l : Name) (bs : Arms) (n m : ℕ) → HasArm l (shift_arms bs n m) → HasArm l bs
arm_before l no_arms n m h = h
arm_before l (rest c) n m h = tt
arm_before l (arm k b bs) n m (inl e) = inl e
arm_before l (arm k b bs) n m (inr h) = inr (arm_before l bs n m h)

-- a type of the raised term is one of the term
module _ (S : SourceTypes) where
  mutual
    pub lowered_typed : (t : Tree) (pre mid post : List Ground) (s : Ground) (n m : ℕ) → n ≡ length pre → m ≡ length mid → CoreTypes S (pre ++ (mid ++ post)) (shift_of t n m) s → CoreTypes S (pre ++ post) t s
    lowered_typed (Var x) pre mid post s n m e f h = (sym (raised_get pre mid post x) ∙ (rw (e, f) at h.0), h.1)
    lowered_typed (Const v) pre mid post s n m e f h = h
    lowered_typed (Source i) pre mid post s n m e f h = h
    lowered_typed (Rec ps) pre mid post s n m e f h = (h.0, h.1, h.2, lowered_parts_typed ps pre mid post h.0 n m e f h.3)
    lowered_typed (Proj l a) pre mid post s n m e f h = (h.0, lowered_typed a pre mid post _ n m e f h.1, h.2)
    lowered_typed (Inj l a) pre mid post s n m e f h = (h.0, h.1, h.2, h.3, h.4, lowered_typed a pre mid post h.1 n m e f h.5)
    lowered_typed (Case a bs) pre mid post s n m e f h =
        (h.0, lowered_typed a pre mid post _ n m e f h.1, λ l i. arm_before l bs n m (h.2 l i), lowered_arms_typed bs pre mid post h.0 s n m e f h.3)
    lowered_typed (Make k ts) pre mid post s n m e f h = (h.0, h.1, h.2, lowered_each_typed ts pre mid post h.0 n m e f h.3)
    lowered_typed (Union a b) pre mid post s n m e f h = (h.0, h.1, h.2, lowered_typed a pre mid post s n m e f h.3, lowered_typed b pre mid post s n m e f h.4)
    lowered_typed (Ext k b a) pre mid post s n m e f h =
        (h.0, h.1, h.2, h.3, lowered_typed a pre mid post _ n m e f h.4, lowered_typed b (h.2 ∷ pre) mid post s (n + 1) m (omega arith) f h.5)
    lowered_typed (If a b c) pre mid post s n m e f h =
        (lowered_typed a pre mid post _ n m e f h.0, lowered_typed b pre mid post s n m e f h.1, lowered_typed c pre mid post s n m e f h.2)
    lowered_typed (Let a b) pre mid post s n m e f h = (h.0, lowered_typed a pre mid post h.0 n m e f h.1, lowered_typed b (h.0 ∷ pre) mid post s (n + 1) m (omega arith) f h.2)
    lowered_typed (Prim c ts) pre mid post s n m e f h = (h.0, lowered_all_typed ts pre mid post h.0 n m e f h.1, h.2)

    lowered_each_typed : (ts : Trees) (pre mid post : List Ground) (s : Ground) (n m : ℕ) → n ≡ length pre → m ≡ length mid → EachType S (pre ++ (mid ++ post)) (shift_trees ts n m) s → EachType S (pre ++ post) ts s
    lowered_each_typed no_trees pre mid post s n m e f h = tt
    lowered_each_typed (trees t ts) pre mid post s n m e f h = (lowered_typed t pre mid post s n m e f h.0, lowered_each_typed ts pre mid post s n m e f h.1)

    lowered_all_typed : (ts : Trees) (pre mid post ss : List Ground) (n m : ℕ) → n ≡ length pre → m ≡ length mid → AllTypes S (pre ++ (mid ++ post)) (shift_trees ts n m) ss → AllTypes S (pre ++ post) ts ss
    lowered_all_typed no_trees pre mid post ss n m e f h = h
    lowered_all_typed (trees t ts) pre mid post ss n m e f h = (h.0, h.1, h.2, lowered_typed t pre mid post h.0 n m e f h.3, lowered_all_typed ts pre mid post h.1 n m e f h.4)

    lowered_parts_typed : (ps : Parts) (pre mid post : List Ground) (r : Row) (n m : ℕ) → n ≡ length pre → m ≡ length mid → PartTypes S (pre ++ (mid ++ post)) (shift_parts ps n m) r → PartTypes S (pre ++ post) ps r
    lowered_parts_typed no_parts pre mid post r n m e f h = h
    lowered_parts_typed (parts l t ps) pre mid post r n m e f h = (h.0, h.1, h.2, lowered_typed t pre mid post h.0 n m e f h.3, lowered_parts_typed ps pre mid post h.1 n m e f h.4)

    lowered_arms_typed : (bs : Arms) (pre mid post : List Ground) (r : Row) (s : Ground) (n m : ℕ) → n ≡ length pre → m ≡ length mid → ArmTypes S (pre ++ (mid ++ post)) (shift_arms bs n m) r s → ArmTypes S (pre ++ post) bs r s
    lowered_arms_typed no_arms pre mid post r s n m e f h = tt
    lowered_arms_typed (rest c) pre mid post r s n m e f h = lowered_typed c pre mid post s n m e f h
    lowered_arms_typed (arm l b bs) pre mid post r s n m e f h =
        (h.0, h.1, lowered_typed b (h.0 ∷ pre) mid post s (n + 1) m (omega arith) f h.2, lowered_arms_typed bs pre mid post r s n m e f h.3)

-- ---- what does not mention a position

free_var : (n x : ℕ) → nat_eq (raised n 1 x) n ≡ false
free_var n x = ⊎_elim low high (cases_lt x n)
  where
    low : x < n → nat_eq (raised n 1 x) n ≡ false
    low h = rw (lt-ltb x n h) (ne_eqb x n (λ e. omega (arith, h, e)))

    high : n ≤ x → nat_eq (raised n 1 x) n ≡ false
    high h = rw (le-ltb x n h) (ne_eqb (x + 1) n (λ e. omega (arith, h, e)))

mutual
  pub raised_free : (t : Tree) (n : ℕ) → occurs_in n (shift_of t n 1) ≡ false
  raised_free (Var x) n = free_var n x
  raised_free (Const v) n = refl
  raised_free (Source i) n = refl
  raised_free (Rec ps) n = raised_free_parts ps n
  raised_free (Proj l a) n = raised_free a n
  raised_free (Inj l a) n = raised_free a n
  raised_free (Case a bs) n = rw (raised_free a n) (raised_free_arms bs n)
  raised_free (Make k ts) n = raised_free_trees ts n
  raised_free (Union a b) n = rw (raised_free a n) (raised_free b n)
  raised_free (Ext k b s) n = rw (raised_free b (n + 1)) (raised_free s n)
  raised_free (If a b c) n = rw (raised_free a n, raised_free b n) (raised_free c n)
  raised_free (Let a b) n = rw (raised_free a n) (raised_free b (n + 1))
  raised_free (Prim c ts) n = raised_free_trees ts n

  raised_free_trees : (ts : Trees) (n : ℕ) → occurs_trees n (shift_trees ts n 1) ≡ false
  raised_free_trees no_trees n = refl
  raised_free_trees (trees t ts) n = rw (raised_free t n) (raised_free_trees ts n)

  raised_free_parts : (ps : Parts) (n : ℕ) → occurs_parts n (shift_parts ps n 1) ≡ false
  raised_free_parts no_parts n = refl
  raised_free_parts (parts l t ps) n = rw (raised_free t n) (raised_free_parts ps n)

  raised_free_arms : (bs : Arms) (n : ℕ) → occurs_arms n (shift_arms bs n 1) ≡ false
  raised_free_arms no_arms n = refl
  raised_free_arms (rest c) n = raised_free c n
  raised_free_arms (arm l b bs) n = rw (raised_free b (n + 1)) (raised_free_arms bs n)

neither_of : (a b : Bool) → (a || b) ≡ false → (a ≡ false) × (b ≡ false)
neither_of true b h = absurd cc
neither_of false b h = (refl, h)

raised_back : (w : Tree) (n x : ℕ) → nat_eq x n ≡ false → shift_of (placed n w x) n 1 ≡ Var x
raised_back w n x h = ⊎_elim low high (cases_lt x n)
  where
    low : x < n → shift_of (placed n w x) n 1 ≡ Var x
    low l = rw (h, lt-ltb x n l, lt-ltb x n l) refl

    high : n ≤ x → shift_of (placed n w x) n 1 ≡ Var x
    high l = ⊎_elim (λ e. absurd (true≢false (sym (eq-eqb x n e) ∙ h))) (λ d. above d) (cases_eq x n)
      where
        above : (x ≡ n → ⊥) → shift_of (placed n w x) n 1 ≡ Var x
        above d =
            let m : n < x = grind (arith, l, d) in
            let e : x - 1 + 1 ≡ x = omega (arith, m) in
            rw (h, le-ltb x n l, le-ltb (x - 1) n (omega (arith, m))) (ap Var e)

mutual
  pub put_raised : (t w : Tree) (n : ℕ) → occurs_in n t ≡ false → shift_of (subst_of t n w) n 1 ≡ t
  put_raised (Var x) w n h = raised_back w n x h
  put_raised (Const v) w n h = refl
  put_raised (Source i) w n h = refl
  put_raised (Rec ps) w n h = ap Rec (put_raised_parts ps w n h)
  put_raised (Proj l a) w n h = ap (Proj l) (put_raised a w n h)
  put_raised (Inj l a) w n h = ap (Inj l) (put_raised a w n h)
  put_raised (Case a bs) w n h = let g = neither_of (occurs_in n a) (occurs_arms n bs) h in ap₂ Case (put_raised a w n g.0) (put_raised_arms bs w n g.1)
  put_raised (Make k ts) w n h = ap (Make k) (put_raised_trees ts w n h)
  put_raised (Union a b) w n h = let g = neither_of (occurs_in n a) (occurs_in n b) h in ap₂ Union (put_raised a w n g.0) (put_raised b w n g.1)
  put_raised (Ext k b s) w n h = let g = neither_of (occurs_in (n + 1) b) (occurs_in n s) h in ap₂ (Ext k) (put_raised b (shift_of w 0 1) (n + 1) g.0) (put_raised s w n g.1)
  put_raised (If a b c) w n h =
      let g = neither_of (occurs_in n a) (occurs_in n b || occurs_in n c) h in
      let i = neither_of (occurs_in n b) (occurs_in n c) g.1 in
      choice_is (put_raised a w n g.0) (put_raised b w n i.0) (put_raised c w n i.1)
  put_raised (Let a b) w n h = let g = neither_of (occurs_in n a) (occurs_in (n + 1) b) h in ap₂ Let (put_raised a w n g.0) (put_raised b (shift_of w 0 1) (n + 1) g.1)
  put_raised (Prim c ts) w n h = ap (Prim c) (put_raised_trees ts w n h)

  put_raised_trees : (ts : Trees) (w : Tree) (n : ℕ) → occurs_trees n ts ≡ false → shift_trees (subst_trees ts n w) n 1 ≡ ts
  put_raised_trees no_trees w n h = refl
  put_raised_trees (trees t ts) w n h = let g = neither_of (occurs_in n t) (occurs_trees n ts) h in ap₂ trees (put_raised t w n g.0) (put_raised_trees ts w n g.1)

  put_raised_parts : (ps : Parts) (w : Tree) (n : ℕ) → occurs_parts n ps ≡ false → shift_parts (subst_parts ps n w) n 1 ≡ ps
  put_raised_parts no_parts w n h = refl
  put_raised_parts (parts l t ps) w n h = let g = neither_of (occurs_in n t) (occurs_parts n ps) h in ap₂ (parts l) (put_raised t w n g.0) (put_raised_parts ps w n g.1)

  put_raised_arms : (bs : Arms) (w : Tree) (n : ℕ) → occurs_arms n bs ≡ false → shift_arms (subst_arms bs n w) n 1 ≡ bs
  put_raised_arms no_arms w n h = refl
  put_raised_arms (rest c) w n h = ap rest (put_raised c w n h)
  put_raised_arms (arm l b bs) w n h = let g = neither_of (occurs_in (n + 1) b) (occurs_arms n bs) h in ap₂ (arm l) (put_raised b (shift_of w 0 1) (n + 1) g.0) (put_raised_arms bs w n g.1)

pub never_raised : (t u : Tree) (n : ℕ) → occurs_in n t ≡ true → t ≡ shift_of u n 1 → ⊥
never_raised t u n h e = true≢false (sym h ∙ ap (occurs_in n) e ∙ raised_free u n)
