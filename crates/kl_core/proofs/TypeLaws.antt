-- Moving and replacing positions keeps the types of a term.
use Rattle.std.proofs.Common.{◌≡◌, inl, inr, ℕ, suc, ◌+◌, ◌-◌, ◌<◌, ◌≤◌, List, [], ◌∷◌, ◌++◌, length, Some, slice_get, refl, sym, ◌∙◌, subst, arith, ⊎_elim}
use Rattle.std.proofs.lemmas.Bool.{cases_lt, cases_eq, lt-ltb, le-ltb, eq-eqb, ne_eqb}
use Rattle.kl_type.specs.Ground.{Ground, Row, IsGround}
use Rattle.kl_outcome.specs.Outcome.{Name}
use Rattle.kl_core.specs.Trees.{Tree, Var, Const, Source, Rec, Proj, Inj, Case, Make, Union, Ext, If, Let, Prim, Trees, no_trees, trees, Parts, no_parts, parts, Arms, no_arms, rest, arm}
use Rattle.kl_core.specs.Positions.{shift_of, shift_trees, shift_parts, shift_arms, placed, subst_of, subst_trees, subst_parts, subst_arms}
use Rattle.kl_core.specs.Typing.{SourceTypes, CoreTypes, EachType, AllTypes, PartTypes, ArmTypes, HasArm}
use Rattle.kl_core.proofs.Meanings.{raised_get, get_left, get_right}

arm_shifted : (l : Name) (bs : Arms) (n m : ℕ) → HasArm l bs → HasArm l (shift_arms bs n m)
arm_shifted l no_arms n m h = h
arm_shifted l (rest c) n m h = tt
arm_shifted l (arm k b bs) n m (inl e) = inl e
arm_shifted l (arm k b bs) n m (inr h) = inr (arm_shifted l bs n m h)

arm_put : (l : Name) (bs : Arms) (n : ℕ) (w : Tree) → HasArm l bs → HasArm l (subst_arms bs n w)
arm_put l no_arms n w h = h
arm_put l (rest c) n w h = tt
arm_put l (arm k b bs) n w (inl e) = inl e
arm_put l (arm k b bs) n w (inr h) = inr (arm_put l bs n w h)

module _ (S : SourceTypes) where
  mutual
    pub shift_typed : (t : Tree) (pre mid post : List Ground) (s : Ground) (n m : ℕ) → n ≡ length pre → m ≡ length mid → CoreTypes S (pre ++ post) t s → CoreTypes S (pre ++ (mid ++ post)) (shift_of t n m) s
    shift_typed (Var x) pre mid post s n m e f h = rw (e, f) (raised_get pre mid post x ∙ h.0, h.1)
    shift_typed (Const v) pre mid post s n m e f h = h
    shift_typed (Source i) pre mid post s n m e f h = h
    shift_typed (Rec ps) pre mid post s n m e f h = (h.0, h.1, h.2, shift_parts_typed ps pre mid post h.0 n m e f h.3)
    shift_typed (Proj l a) pre mid post s n m e f h = (h.0, shift_typed a pre mid post _ n m e f h.1, h.2)
    shift_typed (Inj l a) pre mid post s n m e f h = (h.0, h.1, h.2, h.3, h.4, shift_typed a pre mid post h.1 n m e f h.5)
    shift_typed (Case a bs) pre mid post s n m e f h =
        (h.0, shift_typed a pre mid post _ n m e f h.1, λ l i. arm_shifted l bs n m (h.2 l i), shift_arms_typed bs pre mid post h.0 s n m e f h.3)
    shift_typed (Make k ts) pre mid post s n m e f h = (h.0, h.1, h.2, shift_each_typed ts pre mid post h.0 n m e f h.3)
    shift_typed (Union a b) pre mid post s n m e f h = (h.0, h.1, h.2, shift_typed a pre mid post s n m e f h.3, shift_typed b pre mid post s n m e f h.4)
    shift_typed (Ext k b a) pre mid post s n m e f h =
        (h.0, h.1, h.2, h.3, shift_typed a pre mid post _ n m e f h.4, shift_typed b (h.2 ∷ pre) mid post s (n + 1) m (omega arith) f h.5)
    shift_typed (If a b c) pre mid post s n m e f h =
        (shift_typed a pre mid post _ n m e f h.0, shift_typed b pre mid post s n m e f h.1, shift_typed c pre mid post s n m e f h.2)
    shift_typed (Let a b) pre mid post s n m e f h = (h.0, shift_typed a pre mid post h.0 n m e f h.1, shift_typed b (h.0 ∷ pre) mid post s (n + 1) m (omega arith) f h.2)
    shift_typed (Prim c ts) pre mid post s n m e f h = (h.0, shift_all_typed ts pre mid post h.0 n m e f h.1, h.2)

    shift_each_typed : (ts : Trees) (pre mid post : List Ground) (s : Ground) (n m : ℕ) → n ≡ length pre → m ≡ length mid → EachType S (pre ++ post) ts s → EachType S (pre ++ (mid ++ post)) (shift_trees ts n m) s
    shift_each_typed no_trees pre mid post s n m e f h = tt
    shift_each_typed (trees t ts) pre mid post s n m e f h = (shift_typed t pre mid post s n m e f h.0, shift_each_typed ts pre mid post s n m e f h.1)

    shift_all_typed : (ts : Trees) (pre mid post ss : List Ground) (n m : ℕ) → n ≡ length pre → m ≡ length mid → AllTypes S (pre ++ post) ts ss → AllTypes S (pre ++ (mid ++ post)) (shift_trees ts n m) ss
    shift_all_typed no_trees pre mid post ss n m e f h = h
    shift_all_typed (trees t ts) pre mid post ss n m e f h = (h.0, h.1, h.2, shift_typed t pre mid post h.0 n m e f h.3, shift_all_typed ts pre mid post h.1 n m e f h.4)

    shift_parts_typed : (ps : Parts) (pre mid post : List Ground) (r : Row) (n m : ℕ) → n ≡ length pre → m ≡ length mid → PartTypes S (pre ++ post) ps r → PartTypes S (pre ++ (mid ++ post)) (shift_parts ps n m) r
    shift_parts_typed no_parts pre mid post r n m e f h = h
    shift_parts_typed (parts l t ps) pre mid post r n m e f h = (h.0, h.1, h.2, shift_typed t pre mid post h.0 n m e f h.3, shift_parts_typed ps pre mid post h.1 n m e f h.4)

    shift_arms_typed : (bs : Arms) (pre mid post : List Ground) (r : Row) (s : Ground) (n m : ℕ) → n ≡ length pre → m ≡ length mid → ArmTypes S (pre ++ post) bs r s → ArmTypes S (pre ++ (mid ++ post)) (shift_arms bs n m) r s
    shift_arms_typed no_arms pre mid post r s n m e f h = tt
    shift_arms_typed (rest c) pre mid post r s n m e f h = shift_typed c pre mid post s n m e f h
    shift_arms_typed (arm l b bs) pre mid post r s n m e f h =
        (h.0, h.1, shift_typed b (h.0 ∷ pre) mid post s (n + 1) m (omega arith) f h.2, shift_arms_typed bs pre mid post r s n m e f h.3)

  placed_typed : (w : Tree) (pre post : List Ground) (u s : Ground) (x n : ℕ) → n ≡ length pre → CoreTypes S (pre ++ post) w u → slice_get (pre ++ u ∷ post) x ≡ Some s → IsGround s → CoreTypes S (pre ++ post) (placed n w x) s
  placed_typed w pre post u s x n e d h g = ⊎_elim here off (cases_eq x n)
    where
      here : x ≡ n → CoreTypes S (pre ++ post) (placed n w x) s
      here q =
          let f : Some u ≡ Some s = sym (get_right pre (u ∷ post) x 0 (omega arith)) ∙ h in
          let same : u ≡ s = cc in
          rw (eq-eqb x n q) (subst (CoreTypes S (pre ++ post) w) same d)

      below : (x ≡ n → ⊥) → x < n → CoreTypes S (pre ++ post) (placed n w x) s
      below q lt = rw (ne_eqb x n q, lt-ltb x n lt) (get_left pre post (u ∷ post) x (omega arith) ∙ h, g)

      above : (x ≡ n → ⊥) → n ≤ x → CoreTypes S (pre ++ post) (placed n w x) s
      above q ge =
          let a : n < x = grind arith in
          let k : ℕ = x - n - 1 in
          let i : x - 1 ≡ length pre + k = omega arith in
          let j : x ≡ length pre + suc k = omega arith in
          rw (ne_eqb x n q, le-ltb x n ge) (get_right pre post (x - 1) k i ∙ sym (get_right pre (u ∷ post) x (suc k) j) ∙ h, g)

      off : (x ≡ n → ⊥) → CoreTypes S (pre ++ post) (placed n w x) s
      off q = ⊎_elim (below q) (above q) (cases_lt x n)

  -- what is put has its type under one more binder
  deeper : (w : Tree) (pre post : List Ground) (a u : Ground) → CoreTypes S (pre ++ post) w u → CoreTypes S ((a ∷ pre) ++ post) (shift_of w 0 1) u
  deeper w pre post a u h = shift_typed w [] (a ∷ []) (pre ++ post) u 0 1 refl refl h

  mutual
    pub subst_typed : (t w : Tree) (pre post : List Ground) (u s : Ground) (n : ℕ) → n ≡ length pre → CoreTypes S (pre ++ post) w u → CoreTypes S (pre ++ u ∷ post) t s → CoreTypes S (pre ++ post) (subst_of t n w) s
    subst_typed (Var x) w pre post u s n e d h = placed_typed w pre post u s x n e d h.0 h.1
    subst_typed (Const v) w pre post u s n e d h = h
    subst_typed (Source i) w pre post u s n e d h = h
    subst_typed (Rec ps) w pre post u s n e d h = (h.0, h.1, h.2, subst_parts_typed ps w pre post u h.0 n e d h.3)
    subst_typed (Proj l a) w pre post u s n e d h = (h.0, subst_typed a w pre post u _ n e d h.1, h.2)
    subst_typed (Inj l a) w pre post u s n e d h = (h.0, h.1, h.2, h.3, h.4, subst_typed a w pre post u h.1 n e d h.5)
    subst_typed (Case a bs) w pre post u s n e d h =
        (h.0, subst_typed a w pre post u _ n e d h.1, λ l i. arm_put l bs n w (h.2 l i), subst_arms_typed bs w pre post u h.0 s n e d h.3)
    subst_typed (Make k ts) w pre post u s n e d h = (h.0, h.1, h.2, subst_each_typed ts w pre post u h.0 n e d h.3)
    subst_typed (Union a b) w pre post u s n e d h = (h.0, h.1, h.2, subst_typed a w pre post u s n e d h.3, subst_typed b w pre post u s n e d h.4)
    subst_typed (Ext k b a) w pre post u s n e d h =
        (h.0, h.1, h.2, h.3, subst_typed a w pre post u _ n e d h.4, subst_typed b (shift_of w 0 1) (h.2 ∷ pre) post u s (n + 1) (omega arith) (deeper w pre post h.2 u d) h.5)
    subst_typed (If a b c) w pre post u s n e d h =
        (subst_typed a w pre post u _ n e d h.0, subst_typed b w pre post u s n e d h.1, subst_typed c w pre post u s n e d h.2)
    subst_typed (Let a b) w pre post u s n e d h =
        (h.0, subst_typed a w pre post u h.0 n e d h.1, subst_typed b (shift_of w 0 1) (h.0 ∷ pre) post u s (n + 1) (omega arith) (deeper w pre post h.0 u d) h.2)
    subst_typed (Prim c ts) w pre post u s n e d h = (h.0, subst_all_typed ts w pre post u h.0 n e d h.1, h.2)

    subst_each_typed : (ts : Trees) (w : Tree) (pre post : List Ground) (u s : Ground) (n : ℕ) → n ≡ length pre → CoreTypes S (pre ++ post) w u → EachType S (pre ++ u ∷ post) ts s → EachType S (pre ++ post) (subst_trees ts n w) s
    subst_each_typed no_trees w pre post u s n e d h = tt
    subst_each_typed (trees t ts) w pre post u s n e d h = (subst_typed t w pre post u s n e d h.0, subst_each_typed ts w pre post u s n e d h.1)

    subst_all_typed : (ts : Trees) (w : Tree) (pre post : List Ground) (u : Ground) (ss : List Ground) (n : ℕ) → n ≡ length pre → CoreTypes S (pre ++ post) w u → AllTypes S (pre ++ u ∷ post) ts ss → AllTypes S (pre ++ post) (subst_trees ts n w) ss
    subst_all_typed no_trees w pre post u ss n e d h = h
    subst_all_typed (trees t ts) w pre post u ss n e d h = (h.0, h.1, h.2, subst_typed t w pre post u h.0 n e d h.3, subst_all_typed ts w pre post u h.1 n e d h.4)

    subst_parts_typed : (ps : Parts) (w : Tree) (pre post : List Ground) (u : Ground) (r : Row) (n : ℕ) → n ≡ length pre → CoreTypes S (pre ++ post) w u → PartTypes S (pre ++ u ∷ post) ps r → PartTypes S (pre ++ post) (subst_parts ps n w) r
    subst_parts_typed no_parts w pre post u r n e d h = h
    subst_parts_typed (parts l t ps) w pre post u r n e d h = (h.0, h.1, h.2, subst_typed t w pre post u h.0 n e d h.3, subst_parts_typed ps w pre post u h.1 n e d h.4)

    subst_arms_typed : (bs : Arms) (w : Tree) (pre post : List Ground) (u : Ground) (r : Row) (s : Ground) (n : ℕ) → n ≡ length pre → CoreTypes S (pre ++ post) w u → ArmTypes S (pre ++ u ∷ post) bs r s → ArmTypes S (pre ++ post) (subst_arms bs n w) r s
    subst_arms_typed no_arms w pre post u r s n e d h = tt
    subst_arms_typed (rest c) w pre post u r s n e d h = subst_typed c w pre post u s n e d h
    subst_arms_typed (arm l b bs) w pre post u r s n e d h =
        (h.0, h.1, subst_typed b (shift_of w 0 1) (h.0 ∷ pre) post u s (n + 1) (omega arith) (deeper w pre post h.0 u d) h.2, subst_arms_typed bs w pre post u r s n e d h.3)
