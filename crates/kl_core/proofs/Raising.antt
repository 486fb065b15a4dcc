-- Raising positions: what fits, and what stays.
use Rattle.std.proofs.Common.{◌≡◌, ⊎_elim, ℕ, ◌+◌, ◌<◌, ◌≤◌, ◌^◌, List, [], ◌∷◌, ◌++◌, map, All, Option, Some, None, Result, Ok, Err, IfOk, refl, sym, ap, subst, ◌∙◌, arith}
use Rattle.std.specs.List.{AllByRecursion}
use Rattle.std.proofs.lemmas.List.Elements.{All-from_recursion}
use Rattle.std.proofs.lemmas.Bool.{cases_lt, lt-ltb, le-ltb}
use mathlib.Core.Path.{ap₂}
use Rattle.kl_value.specs.declared.Kind.{Kind}
use Rattle.kl_outcome.specs.Outcome.{Name}
use Rattle.kl_core.specs.declared.term.Term.{Term}
use Rattle.kl_core.specs.declared.term.Term.TheVariants as term
use Rattle.kl_core.specs.Trees.{Tree, Var, Const, Source, Rec, Proj, Inj, Case, Make, Union, Ext, If, Let, Prim, Trees, no_trees, trees, Parts, no_parts, parts, Arms, no_arms, rest, arm, arms_of, rest_of, view, view_part, trees_view, parts_view}
use Rattle.kl_core.specs.Positions.{raised, shift_of, shift_trees, shift_parts, shift_arms, InRange, TreesInRange, PartsInRange, ArmsInRange}
use Rattle.kl_core.specs.Core.{core}
use Rattle.kl_core.specs.Typing.{CoreTypes}
use Rattle.kl_core.specs.Keeping.{MeansShifted, TypedShifted}
use Rattle.kl_core.proofs.Meanings.{shift_keeps}
use Rattle.kl_core.proofs.TypeLaws.{shift_typed}
use Rattle.kl_core.proofs.Views.{view_Rec, view_Proj, view_Inj, view_Make, view_Union, view_Ext, view_If, view_Let, view_Prim, view_Case, view_option, arms_view, mapped_trees, mapped_parts, mapped_arms}

-- ---- each of a list fits

trees_fit : (ts : List Term) (n m : ℕ) → TreesInRange (shift_trees (trees_view ts) n m) → AllByRecursion (λ t. InRange (shift_of (view t) n m)) ts
trees_fit [] n m h = tt
trees_fit (t ∷ ts) n m h = (h.0, trees_fit ts n m h.1)

parts_fit : (ps : List (Name × Term)) (n m : ℕ) → PartsInRange (shift_parts (parts_view ps) n m) → AllByRecursion (λ p. InRange (shift_of (view p.1) n m)) ps
parts_fit [] n m h = tt
parts_fit (p ∷ ps) n m h = (h.0, parts_fit ps n m h.1)

arms_fit : (ps : List (Name × Term)) (last : Arms) (n m : ℕ) → ArmsInRange (shift_arms (arms_of (map view_part ps) last) n m)
    → AllByRecursion (λ p. InRange (shift_of (view p.1) (n + 1) m)) ps × ArmsInRange (shift_arms last n m)
arms_fit [] last n m h = (tt, h)
arms_fit (p ∷ ps) last n m h = let r = arms_fit ps last n m h.1 in ((h.0, r.0), r.1)

pub fit_Make : (t : Term) (k : Kind) (ts us : List Term) (n m : ℕ) → t ≡ term.Make k ts → us ≡ ts → InRange (shift_of (view t) n m) → All (λ t. InRange (shift_of (view t) n m)) us
fit_Make t k ts us n m e f h = rw f (All-from_recursion _ ts (trees_fit ts n m (rw (e, view_Make) at h)))

pub fit_Prim : (t : Term) (c : ℕ) (ts us : List Term) (n m : ℕ) → t ≡ term.Prim c ts → us ≡ ts → InRange (shift_of (view t) n m) → All (λ t. InRange (shift_of (view t) n m)) us
fit_Prim t c ts us n m e f h = rw f (All-from_recursion _ ts (trees_fit ts n m (rw (e, view_Prim) at h)))

pub fit_Rec : (t : Term) (ps qs : List (Name × Term)) (n m : ℕ) → t ≡ term.Rec ps → qs ≡ ps → InRange (shift_of (view t) n m) → All (λ p. InRange (shift_of (view p.1) n m)) qs
fit_Rec t ps qs n m e f h = rw f (All-from_recursion _ ps (parts_fit ps n m (rw (e, view_Rec) at h)))

pub fit_Proj : (t : Term) (l : Name) (a : Term) (n m : ℕ) → t ≡ term.Proj l a → InRange (shift_of (view t) n m) → InRange (shift_of (view a) n m)
fit_Proj t l a n m e h = rw (e, view_Proj) at h

pub fit_Inj : (t : Term) (l : Name) (a : Term) (n m : ℕ) → t ≡ term.Inj l a → InRange (shift_of (view t) n m) → InRange (shift_of (view a) n m)
fit_Inj t l a n m e h = rw (e, view_Inj) at h

pub fit_Union : (t a b : Term) (n m : ℕ) → t ≡ term.Union a b → InRange (shift_of (view t) n m) → InRange (shift_of (view a) n m) × InRange (shift_of (view b) n m)
fit_Union t a b n m e h = rw (e, view_Union) at h

pub fit_Ext : (t : Term) (k : Kind) (b s : Term) (n m : ℕ) → t ≡ term.Ext k b s → InRange (shift_of (view t) n m) → InRange (shift_of (view b) (n + 1) m) × InRange (shift_of (view s) n m)
fit_Ext t k b s n m e h = rw (e, view_Ext) at h

pub fit_If : (t a b c : Term) (n m : ℕ) → t ≡ term.If a b c → InRange (shift_of (view t) n m) → InRange (shift_of (view a) n m) × InRange (shift_of (view b) n m) × InRange (shift_of (view c) n m)
fit_If t a b c n m e h = rw (e, view_If) at h

pub fit_Let : (t a b : Term) (n m : ℕ) → t ≡ term.Let a b → InRange (shift_of (view t) n m) → InRange (shift_of (view a) n m) × InRange (shift_of (view b) (n + 1) m)
fit_Let t a b n m e h = rw (e, view_Let) at h

pub case_fit : (t a : Term) (ps : List (Name × Term)) (c : Option Term) (n m : ℕ) → t ≡ term.Case a ps c → InRange (shift_of (view t) n m) → InRange (shift_of (view a) n m) × ArmsInRange (shift_arms (arms_view ps c) n m)
case_fit t a ps c n m e h = subst (λ q. InRange (shift_of q n m)) (ap view e ∙ view_Case a ps c) h

pub fit_branches : (t a : Term) (ps qs : List (Name × Term)) (c : Option Term) (n m : ℕ) → t ≡ term.Case a ps c → qs ≡ ps → InRange (shift_of (view t) n m) → All (λ p. InRange (shift_of (view p.1) (n + 1) m)) qs
fit_branches t a ps qs c n m e f h = rw f (All-from_recursion _ ps (arms_fit ps (rest_of (view_option c)) n m (case_fit t a ps c n m e h).1).0)

pub fit_other : (t a : Term) (ps : List (Name × Term)) (c : Option Term) (n m : ℕ) → t ≡ term.Case a ps c → InRange (shift_of (view t) n m) → ArmsInRange (shift_arms (rest_of (view_option c)) n m)
fit_other t a ps c n m e h = (arms_fit ps (rest_of (view_option c)) n m (case_fit t a ps c n m e h).1).1

pub fit_rest : (c : Option Term) (b d : Term) (n m : ℕ) → c ≡ Some b → d ≡ b → ArmsInRange (shift_arms (rest_of (view_option c)) n m) → InRange (shift_of (view d) n m)
fit_rest c b d n m e f h = rw f (rw e at h)

-- ---- what is raised

pub raise_Make : (t : Term) (k : Kind) (ts us vs : List Term) (n m : ℕ) → t ≡ term.Make k ts → vs ≡ ts → map view us ≡ map (λ t. shift_of (view t) n m) vs → view (term.Make k us) ≡ shift_of (view t) n m
raise_Make t k ts us vs n m e f h = rw (e, view_Make, view_Make) (ap (Make k) (mapped_trees (λ t. shift_of t n m) (λ ts. shift_trees ts n m) refl (λ t ts. refl) ts us vs f h))

pub raise_Prim : (t : Term) (c : ℕ) (ts us vs : List Term) (n m : ℕ) → t ≡ term.Prim c ts → vs ≡ ts → map view us ≡ map (λ t. shift_of (view t) n m) vs → view (term.Prim c us) ≡ shift_of (view t) n m
raise_Prim t c ts us vs n m e f h = rw (e, view_Prim, view_Prim) (ap (Prim c) (mapped_trees (λ t. shift_of t n m) (λ ts. shift_trees ts n m) refl (λ t ts. refl) ts us vs f h))

pub raise_Rec : (t : Term) (ps qs rs : List (Name × Term)) (n m : ℕ) → t ≡ term.Rec ps → rs ≡ ps → map view_part qs ≡ map (λ p. (p.0, shift_of (view p.1) n m)) rs → view (term.Rec qs) ≡ shift_of (view t) n m
raise_Rec t ps qs rs n m e f h = rw (e, view_Rec, view_Rec) (ap Rec (mapped_parts (λ t. shift_of t n m) (λ ps. shift_parts ps n m) refl (λ l t ps. refl) ps qs rs f h))

pub raise_Proj : (t : Term) (l : Name) (a x : Term) (n m : ℕ) → t ≡ term.Proj l a → view x ≡ shift_of (view a) n m → view (term.Proj l x) ≡ shift_of (view t) n m
raise_Proj t l a x n m e h = rw (e, view_Proj, view_Proj) (ap (Proj l) h)

pub raise_Inj : (t : Term) (l : Name) (a x : Term) (n m : ℕ) → t ≡ term.Inj l a → view x ≡ shift_of (view a) n m → view (term.Inj l x) ≡ shift_of (view t) n m
raise_Inj t l a x n m e h = rw (e, view_Inj, view_Inj) (ap (Inj l) h)

pub raise_Union : (t a b x y : Term) (n m : ℕ) → t ≡ term.Union a b → view x ≡ shift_of (view a) n m → view y ≡ shift_of (view b) n m → view (term.Union x y) ≡ shift_of (view t) n m
raise_Union t a b x y n m e h i = rw (e, view_Union, view_Union) (ap₂ Union h i)

pub raise_Ext : (t : Term) (k : Kind) (b s x y : Term) (n m : ℕ) → t ≡ term.Ext k b s → view x ≡ shift_of (view b) (n + 1) m → view y ≡ shift_of (view s) n m → view (term.Ext k x y) ≡ shift_of (view t) n m
raise_Ext t k b s x y n m e h i = rw (e, view_Ext, view_Ext) (ap₂ (Ext k) h i)

pub raise_If : (t a b c x y z : Term) (n m : ℕ) → t ≡ term.If a b c → view x ≡ shift_of (view a) n m → view y ≡ shift_of (view b) n m → view z ≡ shift_of (view c) n m → view (term.If x y z) ≡ shift_of (view t) n m
raise_If t a b c x y z n m e h i j = rw (e, view_If, view_If) (ap (λ q. If q (view y) (view z)) h ∙ ap₂ (If (shift_of (view a) n m)) i j)

pub raise_Let : (t a b x y : Term) (n m : ℕ) → t ≡ term.Let a b → view x ≡ shift_of (view a) n m → view y ≡ shift_of (view b) (n + 1) m → view (term.Let x y) ≡ shift_of (view t) n m
raise_Let t a b x y n m e h i = rw (e, view_Let, view_Let) (ap₂ Let h i)

pub raise_Case : (t a x : Term) (ps qs rs : List (Name × Term)) (c d : Option Term) (n m : ℕ) → t ≡ term.Case a ps c → view x ≡ shift_of (view a) n m → rs ≡ ps
    → map view_part qs ≡ map (λ p. (p.0, shift_of (view p.1) (n + 1) m)) rs → rest_of (view_option d) ≡ shift_arms (rest_of (view_option c)) n m → view (term.Case x qs d) ≡ shift_of (view t) n m
raise_Case t a x ps qs rs c d n m e g f h i =
    view_Case x qs d
    ∙ ap₂ Case g (mapped_arms (λ t. shift_of t (n + 1) m) (λ bs. shift_arms bs n m) (λ l t bs. refl) ps qs rs (rest_of (view_option c)) (rest_of (view_option d)) f h i)
    ∙ sym (ap (λ q. shift_of q n m) (ap view e ∙ view_Case a ps c))

pub raise_nothing : (c : Option Term) (n m : ℕ) → c ≡ None → rest_of (view_option None) ≡ shift_arms (rest_of (view_option c)) n m
raise_nothing c n m e = rw e refl

-- ---- nothing is raised above 32 bits

same_var : (x n m : ℕ) → 2 ^ 32 ≤ n → raised n m x < 2 ^ 32 → raised n m x ≡ x
same_var x n m g h = ⊎_elim (λ lt. rw (lt-ltb x n lt) refl) (λ ge. absurd (past ge (rw (le-ltb x n ge) at h))) (cases_lt x n)
  where
    past : n ≤ x → x + m < 2 ^ 32 → ⊥
    past ge lt = omega arith

mutual
  pub none_raised : (t : Tree) (n m : ℕ) → 2 ^ 32 ≤ n → InRange (shift_of t n m) → shift_of t n m ≡ t
  none_raised (Var x) n m g h = ap Var (same_var x n m g h)
  none_raised (Const v) n m g h = refl
  none_raised (Source i) n m g h = refl
  none_raised (Rec ps) n m g h = ap Rec (none_raised_parts ps n m g h)
  none_raised (Proj l a) n m g h = ap (Proj l) (none_raised a n m g h)
  none_raised (Inj l a) n m g h = ap (Inj l) (none_raised a n m g h)
  none_raised (Case a bs) n m g h = ap₂ Case (none_raised a n m g h.0) (none_raised_arms bs n m g h.1)
  none_raised (Make k ts) n m g h = ap (Make k) (none_raised_trees ts n m g h)
  none_raised (Union a b) n m g h = ap₂ Union (none_raised a n m g h.0) (none_raised b n m g h.1)
  none_raised (Ext k b s) n m g h = ap₂ (Ext k) (none_raised b (n + 1) m (omega arith) h.0) (none_raised s n m g h.1)
  none_raised (If a b c) n m g h = ap (λ q. If q (shift_of b n m) (shift_of c n m)) (none_raised a n m g h.0) ∙ ap₂ (If a) (none_raised b n m g h.1) (none_raised c n m g h.2)
  none_raised (Let a b) n m g h = ap₂ Let (none_raised a n m g h.0) (none_raised b (n + 1) m (omega arith) h.1)
  none_raised (Prim c ts) n m g h = ap (Prim c) (none_raised_trees ts n m g h)

  none_raised_trees : (ts : Trees) (n m : ℕ) → 2 ^ 32 ≤ n → TreesInRange (shift_trees ts n m) → shift_trees ts n m ≡ ts
  none_raised_trees no_trees n m g h = refl
  none_raised_trees (trees t ts) n m g h = ap₂ trees (none_raised t n m g h.0) (none_raised_trees ts n m g h.1)

  none_raised_parts : (ps : Parts) (n m : ℕ) → 2 ^ 32 ≤ n → PartsInRange (shift_parts ps n m) → shift_parts ps n m ≡ ps
  none_raised_parts no_parts n m g h = refl
  none_raised_parts (parts l t ps) n m g h = ap₂ (parts l) (none_raised t n m g h.0) (none_raised_parts ps n m g h.1)

  none_raised_arms : (bs : Arms) (n m : ℕ) → 2 ^ 32 ≤ n → ArmsInRange (shift_arms bs n m) → shift_arms bs n m ≡ bs
  none_raised_arms no_arms n m g h = refl
  none_raised_arms (rest c) n m g h = ap rest (none_raised c n m g h)
  none_raised_arms (arm l b bs) n m g h = ap₂ (arm l) (none_raised b (n + 1) m (omega arith) h.0) (none_raised_arms bs n m g h.1)

-- so a copy is what is raised there
pub copied : {E : Type 0} (r : Result Term E) (t : Term) (n m : ℕ) → 2 ^ 32 ≤ n → InRange (shift_of (view t) n m) → IfOk r (λ u. u ≡ t) → IfOk r (λ u. view u ≡ shift_of (view t) n m)
copied (Ok u) t n m g h e = ap view e ∙ sym (none_raised (view t) n m g h)
copied (Err f) t n m g h e = tt

-- ---- what the public call promises

pub shifted_means : {E : Type 0} (r : Result Term E) (t : Tree) (n m : ℕ) → IfOk r (λ u. view u ≡ shift_of t n m) → IfOk r (λ u. MeansShifted t n m (view u))
shifted_means (Ok u) t n m e = λ T pre mid post p q. ap (λ x. core T x (pre ++ (mid ++ post))) e ∙ shift_keeps T t pre mid post n m (sym p) (sym q)
shifted_means (Err f) t n m e = tt

pub shifted_typed : {E : Type 0} (r : Result Term E) (t : Tree) (n m : ℕ) → IfOk r (λ u. view u ≡ shift_of t n m) → IfOk r (λ u. TypedShifted t n m (view u))
shifted_typed (Ok u) t n m e = λ S pre mid post s p q h. subst (λ x. CoreTypes S (pre ++ (mid ++ post)) x s) (sym e) (shift_typed S t pre mid post s n m (sym p) (sym q) h)
shifted_typed (Err f) t n m e = tt
