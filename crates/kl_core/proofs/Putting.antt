-- Putting a term for a position: room, and what stays.
use Rattle.std.proofs.Common.{◌≡◌, ⊎_elim, ℕ, ◌+◌, ◌<◌, ◌≤◌, ◌^◌, List, [], ◌∷◌, map, All, ◌++◌, Option, Some, None, Result, Ok, Err, IfOk, refl, sym, ap, subst as along, ◌∙◌, arith}
use Rattle.std.specs.List.{AllByRecursion}
use Rattle.std.proofs.lemmas.List.Elements.{All-from_recursion}
use Rattle.std.proofs.lemmas.Bool.{cases_lt, lt-ltb, le-ltb}
use mathlib.Core.Path.{ap₂}
use Rattle.kl_value.specs.declared.Kind.{Kind}
use Rattle.kl_outcome.specs.Outcome.{Name}
use Rattle.kl_core.specs.declared.term.Term.{Term}
use Rattle.kl_core.specs.declared.term.Term.TheVariants as term
use Rattle.kl_core.specs.Trees.{Tree, Var, Const, Source, Rec, Proj, Inj, Case, Make, Union, Ext, If, Let, Prim, Trees, no_trees, trees, Parts, no_parts, parts, Arms, no_arms, rest, arm, arms_of, rest_of, view, view_part, trees_view, parts_view}
use Rattle.kl_core.specs.Positions.{raised, shift_of, shift_trees, shift_parts, shift_arms, subst_of, subst_trees, subst_parts, subst_arms, binders, binders_trees, binders_parts, binders_arms, InRange, TreesInRange, PartsInRange, ArmsInRange}
use Rattle.kl_core.specs.Core.{core}
use Rattle.kl_core.specs.Typing.{CoreTypes}
use Rattle.kl_core.specs.Keeping.{Room, MeansPut, TypedPut}
use Rattle.kl_core.proofs.Meanings.{subst_keeps}
use Rattle.kl_core.proofs.TypeLaws.{subst_typed}
use Rattle.kl_core.specs.Inside.{RoomIn, RoomTrees, RoomParts, RoomArms, RoomUnder}
use Rattle.kl_core.proofs.Views.{view_Rec, view_Proj, view_Inj, view_Make, view_Union, view_Ext, view_If, view_Let, view_Prim, view_Case, view_option, arms_view, mapped_trees, mapped_parts, mapped_arms}

-- ---- raising in two steps, and by nothing

raised_twice : (x n a b : ℕ) → raised n b (raised n a x) ≡ raised n (a + b) x
raised_twice x n a b = ⊎_elim low high (cases_lt x n)
  where
    low : x < n → raised n b (raised n a x) ≡ raised n (a + b) x
    low h = rw (lt-ltb x n h, lt-ltb x n h) refl

    high : n ≤ x → raised n b (raised n a x) ≡ raised n (a + b) x
    high h =
        let i : n ≤ x + a = omega arith in
        let e : (x + a) + b ≡ x + (a + b) = omega arith in
        rw (le-ltb x n h, le-ltb (x + a) n i) e

mutual
  pub shift_twice : (t : Tree) (n a b : ℕ) → shift_of (shift_of t n a) n b ≡ shift_of t n (a + b)
  shift_twice (Var x) n a b = ap Var (raised_twice x n a b)
  shift_twice (Const v) n a b = refl
  shift_twice (Source i) n a b = refl
  shift_twice (Rec ps) n a b = ap Rec (twice_parts ps n a b)
  shift_twice (Proj l t) n a b = ap (Proj l) (shift_twice t n a b)
  shift_twice (Inj l t) n a b = ap (Inj l) (shift_twice t n a b)
  shift_twice (Case t bs) n a b = ap₂ Case (shift_twice t n a b) (twice_arms bs n a b)
  shift_twice (Make k ts) n a b = ap (Make k) (twice_trees ts n a b)
  shift_twice (Union t u) n a b = ap₂ Union (shift_twice t n a b) (shift_twice u n a b)
  shift_twice (Ext k t u) n a b = ap₂ (Ext k) (shift_twice t (n + 1) a b) (shift_twice u n a b)
  shift_twice (If t u v) n a b = ap (λ q. If q (shift_of (shift_of u n a) n b) (shift_of (shift_of v n a) n b)) (shift_twice t n a b) ∙ ap₂ (If (shift_of t n (a + b))) (shift_twice u n a b) (shift_twice v n a b)
  shift_twice (Let t u) n a b = ap₂ Let (shift_twice t n a b) (shift_twice u (n + 1) a b)
  shift_twice (Prim c ts) n a b = ap (Prim c) (twice_trees ts n a b)

  twice_trees : (ts : Trees) (n a b : ℕ) → shift_trees (shift_trees ts n a) n b ≡ shift_trees ts n (a + b)
  twice_trees no_trees n a b = refl
  twice_trees (trees t ts) n a b = ap₂ trees (shift_twice t n a b) (twice_trees ts n a b)

  twice_parts : (ps : Parts) (n a b : ℕ) → shift_parts (shift_parts ps n a) n b ≡ shift_parts ps n (a + b)
  twice_parts no_parts n a b = refl
  twice_parts (parts l t ps) n a b = ap₂ (parts l) (shift_twice t n a b) (twice_parts ps n a b)

  twice_arms : (bs : Arms) (n a b : ℕ) → shift_arms (shift_arms bs n a) n b ≡ shift_arms bs n (a + b)
  twice_arms no_arms n a b = refl
  twice_arms (rest c) n a b = ap rest (shift_twice c n a b)
  twice_arms (arm l t bs) n a b = ap₂ (arm l) (shift_twice t (n + 1) a b) (twice_arms bs n a b)

still : (x n : ℕ) → raised n 0 x ≡ x
still x n = ⊎_elim (λ h. rw (lt-ltb x n h) refl) (λ h. rw (le-ltb x n h) (omega arith)) (cases_lt x n)

mutual
  pub shift_none : (t : Tree) (n : ℕ) → shift_of t n 0 ≡ t
  shift_none (Var x) n = ap Var (still x n)
  shift_none (Const v) n = refl
  shift_none (Source i) n = refl
  shift_none (Rec ps) n = ap Rec (none_parts ps n)
  shift_none (Proj l t) n = ap (Proj l) (shift_none t n)
  shift_none (Inj l t) n = ap (Inj l) (shift_none t n)
  shift_none (Case t bs) n = ap₂ Case (shift_none t n) (none_arms bs n)
  shift_none (Make k ts) n = ap (Make k) (none_trees ts n)
  shift_none (Union t u) n = ap₂ Union (shift_none t n) (shift_none u n)
  shift_none (Ext k t u) n = ap₂ (Ext k) (shift_none t (n + 1)) (shift_none u n)
  shift_none (If t u v) n = ap (λ q. If q (shift_of u n 0) (shift_of v n 0)) (shift_none t n) ∙ ap₂ (If t) (shift_none u n) (shift_none v n)
  shift_none (Let t u) n = ap₂ Let (shift_none t n) (shift_none u (n + 1))
  shift_none (Prim c ts) n = ap (Prim c) (none_trees ts n)

  none_trees : (ts : Trees) (n : ℕ) → shift_trees ts n 0 ≡ ts
  none_trees no_trees n = refl
  none_trees (trees t ts) n = ap₂ trees (shift_none t n) (none_trees ts n)

  none_parts : (ps : Parts) (n : ℕ) → shift_parts ps n 0 ≡ ps
  none_parts no_parts n = refl
  none_parts (parts l t ps) n = ap₂ (parts l) (shift_none t n) (none_parts ps n)

  none_arms : (bs : Arms) (n : ℕ) → shift_arms bs n 0 ≡ bs
  none_arms no_arms n = refl
  none_arms (rest c) n = ap rest (shift_none c n)
  none_arms (arm l t bs) n = ap₂ (arm l) (shift_none t (n + 1)) (none_arms bs n)

-- ---- what fits when raised by more fits when raised by less

less_raised : (x n m k : ℕ) → k ≤ m → raised n m x < 2 ^ 32 → raised n k x < 2 ^ 32
less_raised x n m k g h = ⊎_elim low high (cases_lt x n)
  where
    low : x < n → raised n k x < 2 ^ 32
    low i = rw (lt-ltb x n i) (rw (lt-ltb x n i) at h)

    high : n ≤ x → raised n k x < 2 ^ 32
    high i = let j : x + m < 2 ^ 32 = rw (le-ltb x n i) at h in rw (le-ltb x n i) (omega arith)

mutual
  fit_less : (t : Tree) (n m k : ℕ) → k ≤ m → InRange (shift_of t n m) → InRange (shift_of t n k)
  fit_less (Var x) n m k g h = less_raised x n m k g h
  fit_less (Const v) n m k g h = tt
  fit_less (Source i) n m k g h = tt
  fit_less (Rec ps) n m k g h = less_parts ps n m k g h
  fit_less (Proj l t) n m k g h = fit_less t n m k g h
  fit_less (Inj l t) n m k g h = fit_less t n m k g h
  fit_less (Case t bs) n m k g h = (fit_less t n m k g h.0, less_arms bs n m k g h.1)
  fit_less (Make j ts) n m k g h = less_trees ts n m k g h
  fit_less (Union t u) n m k g h = (fit_less t n m k g h.0, fit_less u n m k g h.1)
  fit_less (Ext j t u) n m k g h = (fit_less t (n + 1) m k g h.0, fit_less u n m k g h.1)
  fit_less (If t u v) n m k g h = (fit_less t n m k g h.0, fit_less u n m k g h.1, fit_less v n m k g h.2)
  fit_less (Let t u) n m k g h = (fit_less t n m k g h.0, fit_less u (n + 1) m k g h.1)
  fit_less (Prim c ts) n m k g h = less_trees ts n m k g h

  less_trees : (ts : Trees) (n m k : ℕ) → k ≤ m → TreesInRange (shift_trees ts n m) → TreesInRange (shift_trees ts n k)
  less_trees no_trees n m k g h = tt
  less_trees (trees t ts) n m k g h = (fit_less t n m k g h.0, less_trees ts n m k g h.1)

  less_parts : (ps : Parts) (n m k : ℕ) → k ≤ m → PartsInRange (shift_parts ps n m) → PartsInRange (shift_parts ps n k)
  less_parts no_parts n m k g h = tt
  less_parts (parts l t ps) n m k g h = (fit_less t n m k g h.0, less_parts ps n m k g h.1)

  less_arms : (bs : Arms) (n m k : ℕ) → k ≤ m → ArmsInRange (shift_arms bs n m) → ArmsInRange (shift_arms bs n k)
  less_arms no_arms n m k g h = tt
  less_arms (rest c) n m k g h = fit_less c n m k g h
  less_arms (arm l t bs) n m k g h = (fit_less t (n + 1) m k g h.0, less_arms bs n m k g h.1)

-- ---- room for the whole is room inside

module _ (w : Tree) (top : ℕ) (fits : InRange (shift_of w 0 top)) where
  mutual
    room_in : (t : Tree) (at under : ℕ) → at + binders t < 2 ^ 32 → under + binders t ≤ top → RoomIn t at under w
    room_in (Var x) at under g h = fit_less w 0 top under (omega arith) fits
    room_in (Const v) at under g h = tt
    room_in (Source i) at under g h = tt
    room_in (Rec ps) at under g h = room_in_parts ps at under g h
    room_in (Proj l a) at under g h = room_in a at under g h
    room_in (Inj l a) at under g h = room_in a at under g h
    room_in (Case a bs) at under g h = (room_in a at under (omega arith) (omega arith), room_in_arms bs at under (omega arith) (omega arith))
    room_in (Make k ts) at under g h = room_in_trees ts at under g h
    room_in (Union a b) at under g h = (room_in a at under (omega arith) (omega arith), room_in b at under (omega arith) (omega arith))
    room_in (Ext k b s) at under g h = (room_in s at under (omega arith) (omega arith), omega arith, room_in b (at + 1) (under + 1) (omega arith) (omega arith))
    room_in (If a b c) at under g h = (room_in a at under (omega arith) (omega arith), room_in b at under (omega arith) (omega arith), room_in c at under (omega arith) (omega arith))
    room_in (Let a b) at under g h = (room_in a at under (omega arith) (omega arith), omega arith, room_in b (at + 1) (under + 1) (omega arith) (omega arith))
    room_in (Prim c ts) at under g h = room_in_trees ts at under g h

    room_in_trees : (ts : Trees) (at under : ℕ) → at + binders_trees ts < 2 ^ 32 → under + binders_trees ts ≤ top → RoomTrees ts at under w
    room_in_trees no_trees at under g h = tt
    room_in_trees (trees t ts) at under g h = (room_in t at under (omega arith) (omega arith), room_in_trees ts at under (omega arith) (omega arith))

    room_in_parts : (ps : Parts) (at under : ℕ) → at + binders_parts ps < 2 ^ 32 → under + binders_parts ps ≤ top → RoomParts ps at under w
    room_in_parts no_parts at under g h = tt
    room_in_parts (parts l t ps) at under g h = (room_in t at under (omega arith) (omega arith), room_in_parts ps at under (omega arith) (omega arith))

    room_in_arms : (bs : Arms) (at under : ℕ) → at + binders_arms bs < 2 ^ 32 → under + binders_arms bs ≤ top → RoomArms bs at under w
    room_in_arms no_arms at under g h = tt
    room_in_arms (rest c) at under g h = room_in c at under g h
    room_in_arms (arm l b bs) at under g h = ((omega arith, room_in b (at + 1) (under + 1) (omega arith) (omega arith)), room_in_arms bs at under (omega arith) (omega arith))

pub room_inside : (t : Tree) (at : ℕ) (w : Tree) → Room t at w → RoomIn t at 0 w
room_inside t at w h = room_in w (binders t) h.1 t at 0 h.0 (omega arith)

-- ---- room in each of a list

trees_room : (ts : List Term) (n u : ℕ) (w : Tree) → RoomTrees (trees_view ts) n u w → AllByRecursion (λ t. RoomIn (view t) n u w) ts
trees_room [] n u w h = tt
trees_room (t ∷ ts) n u w h = (h.0, trees_room ts n u w h.1)

parts_room : (ps : List (Name × Term)) (n u : ℕ) (w : Tree) → RoomParts (parts_view ps) n u w → AllByRecursion (λ p. RoomIn (view p.1) n u w) ps
parts_room [] n u w h = tt
parts_room (p ∷ ps) n u w h = (h.0, parts_room ps n u w h.1)

arms_room : (ps : List (Name × Term)) (last : Arms) (n u : ℕ) (w : Tree) → RoomArms (arms_of (map view_part ps) last) n u w → AllByRecursion (λ p. RoomUnder (view p.1) n u w) ps × RoomArms last n u w
arms_room [] last n u w h = (tt, h)
arms_room (p ∷ ps) last n u w h = let r = arms_room ps last n u w h.1 in ((h.0, r.0), r.1)

pub room_Make : (t : Term) (k : Kind) (ts us : List Term) (n u : ℕ) (w : Tree) → t ≡ term.Make k ts → us ≡ ts → RoomIn (view t) n u w → All (λ t. RoomIn (view t) n u w) us
room_Make t k ts us n u w e f h = rw f (All-from_recursion _ ts (trees_room ts n u w (rw (e, view_Make) at h)))

pub room_Prim : (t : Term) (c : ℕ) (ts us : List Term) (n u : ℕ) (w : Tree) → t ≡ term.Prim c ts → us ≡ ts → RoomIn (view t) n u w → All (λ t. RoomIn (view t) n u w) us
room_Prim t c ts us n u w e f h = rw f (All-from_recursion _ ts (trees_room ts n u w (rw (e, view_Prim) at h)))

pub room_Rec : (t : Term) (ps qs : List (Name × Term)) (n u : ℕ) (w : Tree) → t ≡ term.Rec ps → qs ≡ ps → RoomIn (view t) n u w → All (λ p. RoomIn (view p.1) n u w) qs
room_Rec t ps qs n u w e f h = rw f (All-from_recursion _ ps (parts_room ps n u w (rw (e, view_Rec) at h)))

pub room_Proj : (t : Term) (l : Name) (a : Term) (n u : ℕ) (w : Tree) → t ≡ term.Proj l a → RoomIn (view t) n u w → RoomIn (view a) n u w
room_Proj t l a n u w e h = rw (e, view_Proj) at h

pub room_Inj : (t : Term) (l : Name) (a : Term) (n u : ℕ) (w : Tree) → t ≡ term.Inj l a → RoomIn (view t) n u w → RoomIn (view a) n u w
room_Inj t l a n u w e h = rw (e, view_Inj) at h

pub room_Union : (t a b : Term) (n u : ℕ) (w : Tree) → t ≡ term.Union a b → RoomIn (view t) n u w → RoomIn (view a) n u w × RoomIn (view b) n u w
room_Union t a b n u w e h = rw (e, view_Union) at h

pub room_Ext : (t : Term) (k : Kind) (b s : Term) (n u : ℕ) (w : Tree) → t ≡ term.Ext k b s → RoomIn (view t) n u w → RoomIn (view s) n u w × RoomUnder (view b) n u w
room_Ext t k b s n u w e h =
    let r : RoomIn (view s) n u w × (n + 1 < 2 ^ 32) × RoomIn (view b) (n + 1) (u + 1) w = rw (e, view_Ext) at h in
    (r.0, (r.1, r.2))

pub room_If : (t a b c : Term) (n u : ℕ) (w : Tree) → t ≡ term.If a b c → RoomIn (view t) n u w → RoomIn (view a) n u w × RoomIn (view b) n u w × RoomIn (view c) n u w
room_If t a b c n u w e h = rw (e, view_If) at h

pub room_Let : (t a b : Term) (n u : ℕ) (w : Tree) → t ≡ term.Let a b → RoomIn (view t) n u w → RoomIn (view a) n u w × RoomUnder (view b) n u w
room_Let t a b n u w e h =
    let r : RoomIn (view a) n u w × (n + 1 < 2 ^ 32) × RoomIn (view b) (n + 1) (u + 1) w = rw (e, view_Let) at h in
    (r.0, (r.1, r.2))

pub case_room : (t a : Term) (ps : List (Name × Term)) (c : Option Term) (n u : ℕ) (w : Tree) → t ≡ term.Case a ps c → RoomIn (view t) n u w → RoomIn (view a) n u w × RoomArms (arms_view ps c) n u w
case_room t a ps c n u w e h = along (λ q. RoomIn q n u w) (ap view e ∙ view_Case a ps c) h

pub room_branches : (t a : Term) (ps qs : List (Name × Term)) (c : Option Term) (n u : ℕ) (w : Tree) → t ≡ term.Case a ps c → qs ≡ ps → RoomIn (view t) n u w → All (λ p. RoomUnder (view p.1) n u w) qs
room_branches t a ps qs c n u w e f h = rw f (All-from_recursion _ ps (arms_room ps (rest_of (view_option c)) n u w (case_room t a ps c n u w e h).1).0)

pub room_other : (t a : Term) (ps : List (Name × Term)) (c : Option Term) (n u : ℕ) (w : Tree) → t ≡ term.Case a ps c → RoomIn (view t) n u w → RoomArms (rest_of (view_option c)) n u w
room_other t a ps c n u w e h = (arms_room ps (rest_of (view_option c)) n u w (case_room t a ps c n u w e h).1).1

pub room_rest : (c : Option Term) (b d : Term) (n u : ℕ) (w : Tree) → c ≡ Some b → d ≡ b → RoomArms (rest_of (view_option c)) n u w → RoomIn (view d) n u w
room_rest c b d n u w e f h = rw f (rw e at h)

-- ---- what is put

pub put_Make : (t : Term) (k : Kind) (ts us vs : List Term) (n : ℕ) (w : Tree) → t ≡ term.Make k ts → vs ≡ ts → map view us ≡ map (λ t. subst_of (view t) n w) vs → view (term.Make k us) ≡ subst_of (view t) n w
put_Make t k ts us vs n w e f h = rw (e, view_Make, view_Make) (ap (Make k) (mapped_trees (λ t. subst_of t n w) (λ ts. subst_trees ts n w) refl (λ t ts. refl) ts us vs f h))

pub put_Prim : (t : Term) (c : ℕ) (ts us vs : List Term) (n : ℕ) (w : Tree) → t ≡ term.Prim c ts → vs ≡ ts → map view us ≡ map (λ t. subst_of (view t) n w) vs → view (term.Prim c us) ≡ subst_of (view t) n w
put_Prim t c ts us vs n w e f h = rw (e, view_Prim, view_Prim) (ap (Prim c) (mapped_trees (λ t. subst_of t n w) (λ ts. subst_trees ts n w) refl (λ t ts. refl) ts us vs f h))

pub put_Rec : (t : Term) (ps qs rs : List (Name × Term)) (n : ℕ) (w : Tree) → t ≡ term.Rec ps → rs ≡ ps → map view_part qs ≡ map (λ p. (p.0, subst_of (view p.1) n w)) rs → view (term.Rec qs) ≡ subst_of (view t) n w
put_Rec t ps qs rs n w e f h = rw (e, view_Rec, view_Rec) (ap Rec (mapped_parts (λ t. subst_of t n w) (λ ps. subst_parts ps n w) refl (λ l t ps. refl) ps qs rs f h))

pub put_Proj : (t : Term) (l : Name) (a x : Term) (n : ℕ) (w : Tree) → t ≡ term.Proj l a → view x ≡ subst_of (view a) n w → view (term.Proj l x) ≡ subst_of (view t) n w
put_Proj t l a x n w e h = rw (e, view_Proj, view_Proj) (ap (Proj l) h)

pub put_Inj : (t : Term) (l : Name) (a x : Term) (n : ℕ) (w : Tree) → t ≡ term.Inj l a → view x ≡ subst_of (view a) n w → view (term.Inj l x) ≡ subst_of (view t) n w
put_Inj t l a x n w e h = rw (e, view_Inj, view_Inj) (ap (Inj l) h)

pub put_Union : (t a b x y : Term) (n : ℕ) (w : Tree) → t ≡ term.Union a b → view x ≡ subst_of (view a) n w → view y ≡ subst_of (view b) n w → view (term.Union x y) ≡ subst_of (view t) n w
put_Union t a b x y n w e h i = rw (e, view_Union, view_Union) (ap₂ Union h i)

pub put_Ext : (t : Term) (k : Kind) (b s x y : Term) (n : ℕ) (w : Tree) → t ≡ term.Ext k b s → view x ≡ subst_of (view b) (n + 1) (shift_of w 0 1) → view y ≡ subst_of (view s) n w → view (term.Ext k x y) ≡ subst_of (view t) n w
put_Ext t k b s x y n w e h i = rw (e, view_Ext, view_Ext) (ap₂ (Ext k) h i)

pub put_If : (t a b c x y z : Term) (n : ℕ) (w : Tree) → t ≡ term.If a b c → view x ≡ subst_of (view a) n w → view y ≡ subst_of (view b) n w → view z ≡ subst_of (view c) n w → view (term.If x y z) ≡ subst_of (view t) n w
put_If t a b c x y z n w e h i j = rw (e, view_If, view_If) (ap (λ q. If q (view y) (view z)) h ∙ ap₂ (If (subst_of (view a) n w)) i j)

pub put_Let : (t a b x y : Term) (n : ℕ) (w : Tree) → t ≡ term.Let a b → view x ≡ subst_of (view a) n w → view y ≡ subst_of (view b) (n + 1) (shift_of w 0 1) → view (term.Let x y) ≡ subst_of (view t) n w
put_Let t a b x y n w e h i = rw (e, view_Let, view_Let) (ap₂ Let h i)

pub put_Case : (t a x : Term) (ps qs rs : List (Name × Term)) (c d : Option Term) (n : ℕ) (w : Tree) → t ≡ term.Case a ps c → view x ≡ subst_of (view a) n w → rs ≡ ps
    → map view_part qs ≡ map (λ p. (p.0, subst_of (view p.1) (n + 1) (shift_of w 0 1))) rs → rest_of (view_option d) ≡ subst_arms (rest_of (view_option c)) n w → view (term.Case x qs d) ≡ subst_of (view t) n w
put_Case t a x ps qs rs c d n w e g f h i =
    view_Case x qs d
    ∙ ap₂ Case g (mapped_arms (λ t. subst_of t (n + 1) (shift_of w 0 1)) (λ bs. subst_arms bs n w) (λ l t bs. refl) ps qs rs (rest_of (view_option c)) (rest_of (view_option d)) f h i)
    ∙ sym (ap (λ q. subst_of q n w) (ap view e ∙ view_Case a ps c))

pub put_nothing : (c : Option Term) (n : ℕ) (w : Tree) → c ≡ None → rest_of (view_option None) ≡ subst_arms (rest_of (view_option c)) n w
put_nothing c n w e = rw e refl

-- under one more binder
pub put_deeper : {E : Type 0} (r : Result Term E) (t w : Tree) (n u : ℕ) → IfOk r (λ v. view v ≡ subst_of t (n + 1) (shift_of w 0 (u + 1))) → IfOk r (λ v. view v ≡ subst_of t (n + 1) (shift_of (shift_of w 0 u) 0 1))
put_deeper r t w n u h = along (λ x. IfOk r (λ v. view v ≡ subst_of t (n + 1) x)) (sym (shift_twice w 0 u 1)) h

-- ---- what the public call promises

pub put_whole : {E : Type 0} (r : Result Term E) (t w : Tree) (n : ℕ) → IfOk r (λ v. view v ≡ subst_of t n (shift_of w 0 0)) → IfOk r (λ v. view v ≡ subst_of t n w)
put_whole r t w n h = along (λ x. IfOk r (λ v. view v ≡ subst_of t n x)) (shift_none w 0) h

pub put_means : {E : Type 0} (r : Result Term E) (t w : Tree) (n : ℕ) → IfOk r (λ v. view v ≡ subst_of t n w) → IfOk r (λ v. MeansPut t n w (view v))
put_means (Ok u) t w n e = λ T pre post v p h. ap (λ x. core T x (pre ++ post)) e ∙ subst_keeps T t w pre post v n (sym p) h
put_means (Err f) t w n e = tt

pub put_typed : {E : Type 0} (r : Result Term E) (t w : Tree) (n : ℕ) → IfOk r (λ v. view v ≡ subst_of t n w) → IfOk r (λ v. TypedPut t n w (view v))
put_typed (Ok u) t w n e = λ S pre post s q p d h. along (λ x. CoreTypes S (pre ++ post) x q) (sym e) (subst_typed S t w pre post s q n (sym p) d h)
put_typed (Err f) t w n e = tt
