-- Moving and replacing positions keeps what a term means.
use Rattle.std.proofs.Common.{◌≡◌, ℕ, zero, suc, ◌+◌, ◌-◌, ◌<◌, ◌≤◌, List, [], ◌∷◌, ◌++◌, length, cond, nat_eq, slice_get, refl, sym, ap, ◌∙◌, arith, ⊎_elim}
use Rattle.std.specs.Cmp.Lexicographic.{pointwise}
use mathlib.Core.Path.{fun_ext, ap₂}
use Rattle.std.proofs.lemmas.Bool.{cases_lt, cases_eq, lt-ltb, le-ltb, eq-eqb, ne_eqb}
use Rattle.kl_value.specs.declared.Value.{Value}
use Rattle.kl_outcome.specs.Outcome.{Outcome, done, Name, after, outcome_of, if_then, applied, recorded, tagged, part, cases, items_of, item_then, drawn, collected, union_of}
use Rattle.kl_core.specs.Trees.{Tree, Var, Const, Source, Rec, Proj, Inj, Case, Make, Union, Ext, If, Let, Prim, Trees, no_trees, trees, Parts, no_parts, parts, Arms, no_arms, rest, arm}
use Rattle.kl_core.specs.Core.{Tables, core, core_all, core_items, core_parts, core_arms}
use Rattle.kl_core.specs.Positions.{raised, shift_of, shift_trees, shift_parts, shift_arms, placed, subst_of, subst_trees, subst_parts, subst_arms}

pub get_left : {A : Type 0} (xs ys zs : List A) (x : ℕ) → x < length xs → slice_get (xs ++ ys) x ≡ slice_get (xs ++ zs) x
get_left [] ys zs x h = absurd (omega arith)
get_left (a ∷ xs) ys zs zero h = refl
get_left (a ∷ xs) ys zs (suc x) h = get_left xs ys zs x (omega arith)

pub get_right : {A : Type 0} (xs ys : List A) (x n : ℕ) → x ≡ length xs + n → slice_get (xs ++ ys) x ≡ slice_get ys n
get_right [] ys x n h = let e : x ≡ n = omega arith in ap (slice_get ys) e
get_right (a ∷ xs) ys zero n h = absurd (omega arith)
get_right (a ∷ xs) ys (suc x) n h = get_right xs ys x n (omega arith)

pub raised_get : {A : Type 0} (pre mid post : List A) (x : ℕ) → slice_get (pre ++ (mid ++ post)) (raised (length pre) (length mid) x) ≡ slice_get (pre ++ post) x
raised_get {A} pre mid post x = ⊎_elim low high (cases_lt x (length pre))
  where
    low : x < length pre → slice_get (pre ++ (mid ++ post)) (raised (length pre) (length mid) x) ≡ slice_get (pre ++ post) x
    low h = rw (lt-ltb x (length pre) h) (get_left pre (mid ++ post) post x h)

    high : length pre ≤ x → slice_get (pre ++ (mid ++ post)) (raised (length pre) (length mid) x) ≡ slice_get (pre ++ post) x
    high h =
        let n : ℕ = x - length pre in
        rw (le-ltb x (length pre) h)
        (get_right pre (mid ++ post) (x + length mid) (length mid + n) (omega arith) ∙ get_right mid post (length mid + n) n refl ∙ sym (get_right pre post x n (omega arith)))

pub choice_same : (a b c d e f : Outcome) → a ≡ d → b ≡ e → c ≡ f → if_then a b c ≡ if_then d e f
choice_same a b c d e f p q r = ap (λ o. if_then o b c) p ∙ ap₂ (λ o u. if_then d o u) q r

module _ (T : Tables) where
  mutual
    pub shift_keeps : (t : Tree) (pre mid post : List Value) (n m : ℕ) → n ≡ length pre → m ≡ length mid → core T (shift_of t n m) (pre ++ (mid ++ post)) ≡ core T t (pre ++ post)
    shift_keeps (Var x) pre mid post n m e f = rw (e, f) (ap outcome_of (raised_get pre mid post x))
    shift_keeps (Const v) pre mid post n m e f = refl
    shift_keeps (Source i) pre mid post n m e f = refl
    shift_keeps (Rec ps) pre mid post n m e f = ap recorded (shift_keeps_parts ps pre mid post n m e f)
    shift_keeps (Proj l a) pre mid post n m e f = ap (part l) (shift_keeps a pre mid post n m e f)
    shift_keeps (Inj l a) pre mid post n m e f = ap (tagged l) (shift_keeps a pre mid post n m e f)
    shift_keeps (Case a bs) pre mid post n m e f =
        ap₂ cases (shift_keeps a pre mid post n m e f) (fun_ext λ l. fun_ext λ v. shift_keeps_arms bs l v pre mid post n m e f)
    shift_keeps (Make k ts) pre mid post n m e f = ap (collected k) (shift_keeps_items ts pre mid post n m e f)
    shift_keeps (Union a b) pre mid post n m e f = ap₂ union_of (shift_keeps a pre mid post n m e f) (shift_keeps b pre mid post n m e f)
    shift_keeps (Ext k b s) pre mid post n m e f =
        ap₂ (λ o go. collected k (drawn (items_of o) go)) (shift_keeps s pre mid post n m e f) (fun_ext λ v. ap items_of (shift_keeps b (v ∷ pre) mid post (n + 1) m (omega arith) f))
    shift_keeps (If a b c) pre mid post n m e f =
        choice_same _ _ _ _ _ _ (shift_keeps a pre mid post n m e f) (shift_keeps b pre mid post n m e f) (shift_keeps c pre mid post n m e f)
    shift_keeps (Let a b) pre mid post n m e f =
        ap₂ after (shift_keeps a pre mid post n m e f) (fun_ext λ v. shift_keeps b (v ∷ pre) mid post (n + 1) m (omega arith) f)
    shift_keeps (Prim c ts) pre mid post n m e f = ap (applied c) (shift_keeps_all ts pre mid post n m e f)

    shift_keeps_all : (ts : Trees) (pre mid post : List Value) (n m : ℕ) → n ≡ length pre → m ≡ length mid → core_all T (shift_trees ts n m) (pre ++ (mid ++ post)) ≡ core_all T ts (pre ++ post)
    shift_keeps_all no_trees pre mid post n m e f = refl
    shift_keeps_all (trees t ts) pre mid post n m e f = ap₂ (λ o os. o ∷ os) (shift_keeps t pre mid post n m e f) (shift_keeps_all ts pre mid post n m e f)

    shift_keeps_items : (ts : Trees) (pre mid post : List Value) (n m : ℕ) → n ≡ length pre → m ≡ length mid → core_items T (shift_trees ts n m) (pre ++ (mid ++ post)) ≡ core_items T ts (pre ++ post)
    shift_keeps_items no_trees pre mid post n m e f = refl
    shift_keeps_items (trees t ts) pre mid post n m e f = ap₂ item_then (shift_keeps t pre mid post n m e f) (shift_keeps_items ts pre mid post n m e f)

    shift_keeps_parts : (ps : Parts) (pre mid post : List Value) (n m : ℕ) → n ≡ length pre → m ≡ length mid → core_parts T (shift_parts ps n m) (pre ++ (mid ++ post)) ≡ core_parts T ps (pre ++ post)
    shift_keeps_parts no_parts pre mid post n m e f = refl
    shift_keeps_parts (parts l t ps) pre mid post n m e f = ap₂ (λ o os. (l, o) ∷ os) (shift_keeps t pre mid post n m e f) (shift_keeps_parts ps pre mid post n m e f)

    shift_keeps_arms : (bs : Arms) (l : Name) (v : Value) (pre mid post : List Value) (n m : ℕ) → n ≡ length pre → m ≡ length mid → core_arms T (shift_arms bs n m) l v (pre ++ (mid ++ post)) ≡ core_arms T bs l v (pre ++ post)
    shift_keeps_arms no_arms l v pre mid post n m e f = refl
    shift_keeps_arms (rest c) l v pre mid post n m e f = shift_keeps c pre mid post n m e f
    shift_keeps_arms (arm k b bs) l v pre mid post n m e f =
        ap₂ (λ o q. cond (pointwise nat_eq l k) o q) (shift_keeps b (v ∷ pre) mid post (n + 1) m (omega arith) f) (shift_keeps_arms bs l v pre mid post n m e f)

  placed_get : (w : Tree) (pre post : List Value) (v : Value) (x n : ℕ) → n ≡ length pre → core T w (pre ++ post) ≡ done v → core T (placed n w x) (pre ++ post) ≡ outcome_of (slice_get (pre ++ v ∷ post) x)
  placed_get w pre post v x n e h = ⊎_elim here off (cases_eq x n)
    where
      here : x ≡ n → core T (placed n w x) (pre ++ post) ≡ outcome_of (slice_get (pre ++ v ∷ post) x)
      here d = rw (eq-eqb x n d) (h ∙ ap outcome_of (sym (get_right pre (v ∷ post) x 0 (omega arith))))

      below : (x ≡ n → ⊥) → x < n → core T (placed n w x) (pre ++ post) ≡ outcome_of (slice_get (pre ++ v ∷ post) x)
      below d lt = rw (ne_eqb x n d, lt-ltb x n lt) (ap outcome_of (get_left pre post (v ∷ post) x (omega arith)))

      above : (x ≡ n → ⊥) → n ≤ x → core T (placed n w x) (pre ++ post) ≡ outcome_of (slice_get (pre ++ v ∷ post) x)
      above d ge =
          let a : n < x = grind arith in
          let k : ℕ = x - n - 1 in
          let p : x - 1 ≡ length pre + k = omega arith in
          let q : x ≡ length pre + suc k = omega arith in
          rw (ne_eqb x n d, le-ltb x n ge) (ap outcome_of (get_right pre post (x - 1) k p ∙ sym (get_right pre (v ∷ post) x (suc k) q)))

      off : (x ≡ n → ⊥) → core T (placed n w x) (pre ++ post) ≡ outcome_of (slice_get (pre ++ v ∷ post) x)
      off d = ⊎_elim (below d) (above d) (cases_lt x n)

  -- what is put means the same under one more binder
  deeper : (w : Tree) (pre post : List Value) (u v : Value) → core T w (pre ++ post) ≡ done v → core T (shift_of w 0 1) ((u ∷ pre) ++ post) ≡ done v
  deeper w pre post u v h = shift_keeps w [] (u ∷ []) (pre ++ post) 0 1 refl refl ∙ h

  mutual
    pub subst_keeps : (t w : Tree) (pre post : List Value) (v : Value) (n : ℕ) → n ≡ length pre → core T w (pre ++ post) ≡ done v → core T (subst_of t n w) (pre ++ post) ≡ core T t (pre ++ v ∷ post)
    subst_keeps (Var x) w pre post v n e h = placed_get w pre post v x n e h
    subst_keeps (Const c) w pre post v n e h = refl
    subst_keeps (Source i) w pre post v n e h = refl
    subst_keeps (Rec ps) w pre post v n e h = ap recorded (subst_keeps_parts ps w pre post v n e h)
    subst_keeps (Proj l a) w pre post v n e h = ap (part l) (subst_keeps a w pre post v n e h)
    subst_keeps (Inj l a) w pre post v n e h = ap (tagged l) (subst_keeps a w pre post v n e h)
    subst_keeps (Case a bs) w pre post v n e h =
        ap₂ cases (subst_keeps a w pre post v n e h) (fun_ext λ l. fun_ext λ u. subst_keeps_arms bs l u w pre post v n e h)
    subst_keeps (Make k ts) w pre post v n e h = ap (collected k) (subst_keeps_items ts w pre post v n e h)
    subst_keeps (Union a b) w pre post v n e h = ap₂ union_of (subst_keeps a w pre post v n e h) (subst_keeps b w pre post v n e h)
    subst_keeps (Ext k b s) w pre post v n e h =
        ap₂ (λ o go. collected k (drawn (items_of o) go)) (subst_keeps s w pre post v n e h) (fun_ext λ u. ap items_of (subst_keeps b (shift_of w 0 1) (u ∷ pre) post v (n + 1) (omega arith) (deeper w pre post u v h)))
    subst_keeps (If a b c) w pre post v n e h =
        choice_same _ _ _ _ _ _ (subst_keeps a w pre post v n e h) (subst_keeps b w pre post v n e h) (subst_keeps c w pre post v n e h)
    subst_keeps (Let a b) w pre post v n e h =
        ap₂ after (subst_keeps a w pre post v n e h) (fun_ext λ u. subst_keeps b (shift_of w 0 1) (u ∷ pre) post v (n + 1) (omega arith) (deeper w pre post u v h))
    subst_keeps (Prim c ts) w pre post v n e h = ap (applied c) (subst_keeps_all ts w pre post v n e h)

    subst_keeps_all : (ts : Trees) (w : Tree) (pre post : List Value) (v : Value) (n : ℕ) → n ≡ length pre → core T w (pre ++ post) ≡ done v → core_all T (subst_trees ts n w) (pre ++ post) ≡ core_all T ts (pre ++ v ∷ post)
    subst_keeps_all no_trees w pre post v n e h = refl
    subst_keeps_all (trees t ts) w pre post v n e h = ap₂ (λ o os. o ∷ os) (subst_keeps t w pre post v n e h) (subst_keeps_all ts w pre post v n e h)

    subst_keeps_items : (ts : Trees) (w : Tree) (pre post : List Value) (v : Value) (n : ℕ) → n ≡ length pre → core T w (pre ++ post) ≡ done v → core_items T (subst_trees ts n w) (pre ++ post) ≡ core_items T ts (pre ++ v ∷ post)
    subst_keeps_items no_trees w pre post v n e h = refl
    subst_keeps_items (trees t ts) w pre post v n e h = ap₂ item_then (subst_keeps t w pre post v n e h) (subst_keeps_items ts w pre post v n e h)

    subst_keeps_parts : (ps : Parts) (w : Tree) (pre post : List Value) (v : Value) (n : ℕ) → n ≡ length pre → core T w (pre ++ post) ≡ done v → core_parts T (subst_parts ps n w) (pre ++ post) ≡ core_parts T ps (pre ++ v ∷ post)
    subst_keeps_parts no_parts w pre post v n e h = refl
    subst_keeps_parts (parts l t ps) w pre post v n e h = ap₂ (λ o os. (l, o) ∷ os) (subst_keeps t w pre post v n e h) (subst_keeps_parts ps w pre post v n e h)

    subst_keeps_arms : (bs : Arms) (l : Name) (u : Value) (w : Tree) (pre post : List Value) (v : Value) (n : ℕ) → n ≡ length pre → core T w (pre ++ post) ≡ done v → core_arms T (subst_arms bs n w) l u (pre ++ post) ≡ core_arms T bs l u (pre ++ v ∷ post)
    subst_keeps_arms no_arms l u w pre post v n e h = refl
    subst_keeps_arms (rest c) l u w pre post v n e h = subst_keeps c w pre post v n e h
    subst_keeps_arms (arm k b bs) l u w pre post v n e h =
        ap₂ (λ o q. cond (pointwise nat_eq l k) o q) (subst_keeps b (shift_of w 0 1) (u ∷ pre) post v (n + 1) (omega arith) (deeper w pre post u v h)) (subst_keeps_arms bs l u w pre post v n e h)
