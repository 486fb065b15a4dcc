-- How a search goes from a term into its parts, and from the root of the whole.
use Rattle.std.proofs.Common.{true, ◌≡◌, ◌≢◌, ◌⊎◌, inl, inr, ℕ, zero, suc, ◌+◌, ◌-◌, ◌≤◌, ◌<◌, List, [], ◌∷◌, Option, Some, None, option_and_then, refl, sym, ap, ap₂, subst, ◌∙◌, arith, ⊎_elim}
use Rattle.std.proofs.lemmas.Option.{same_Some}
use Rattle.std.proofs.lemmas.Bool.{cases_lt, cases_eq}
use Rattle.kl_core.specs.Trees.{Tree, Var, Const, Source, Rec, Proj, Inj, Case, Make, Union, Ext, If, Let, Prim, Trees, no_trees, trees, Parts, no_parts, parts, Arms, no_arms, rest, arm}
use Rattle.kl_core.specs.Counts.{nodes_of, depth_of}
use Rattle.kl_rewrite.specs.Places.{tree_at, field_at, arm_at, part_at, with_tree, with_field, with_arm, with_part, Place, stands_at, in_part, with_at}
use Rattle.kl_rewrite.specs.Beyond.{beyond_parts, is_beyond}
use Rattle.kl_rewrite.specs.Searched.{IsAlong}
use Rattle.kl_rewrite.specs.Steps.{IsWithin, Makes, IsFirst, Step, IsNormal}
use Rattle.kl_rewrite.specs.Search.{Made, IsQuiet, IsStill, Leads, IsSettled}
use Rattle.kl_rewrite.proofs.Sizes.{nodes_place, depth_place}
use Rattle.kl_rewrite.proofs.Beyond.{beyond_still}

-- ---- the whole

made_of : (t : Tree) (p : Place) (i : ℕ) (u : Tree) → IsWithin t → Makes t p i u → Made (16384 - nodes_of t) 0 t p i u
made_of t p i u w m =
    let nodes = nodes_place p t m.before m.after m.stands in
    let depth = depth_place p t m.before m.after m.stands in
    let small : nodes_of u ≤ 16384 = m.within.0 in
    let shallow : depth_of u ≤ 512 = m.within.1 in
    let many : nodes_of u ≡ nodes_of (with_at t p m.after) = ap nodes_of m.whole in
    let deep : depth_of u ≡ depth_of (with_at t p m.after) = ap depth_of m.whole in
    let low : nodes_of t ≤ 16384 = w.0 in
    record {
      before = m.before;
      after = m.after;
      stands = m.stands;
      rewrites = m.rewrites;
      whole = m.whole;
      small = omega (arith, nodes, small, many, low);
      shallow = omega (arith, depth.0, shallow, deep);
    }

makes_of : (t : Tree) (p : Place) (i : ℕ) (u : Tree) → IsWithin t → Made (16384 - nodes_of t) 0 t p i u → Makes t p i u
makes_of t p i u w m =
    let nodes = nodes_place p t m.before m.after m.stands in
    let depth = depth_place p t m.before m.after m.stands in
    let many : nodes_of u ≡ nodes_of (with_at t p m.after) = ap nodes_of m.whole in
    let deep : depth_of u ≡ depth_of (with_at t p m.after) = ap depth_of m.whole in
    let low : nodes_of t ≤ 16384 = w.0 in
    let high : depth_of t ≤ 512 = w.1 in
    record {
      before = m.before;
      after = m.after;
      stands = m.stands;
      rewrites = m.rewrites;
      whole = m.whole;
      within = (omega (arith, nodes, many, low, m.small), omega (arith, depth.1, deep, high, m.shallow));
    }

pub step_of : (t u : Tree) → IsWithin t → Leads (16384 - nodes_of t) 0 t u → Step t u
step_of t u w l = record {
  place = l.place;
  number = l.number;
  makes = makes_of t l.place l.number u w l.makes;
  first = λ q j v m. l.first q j v (made_of t q j v w m);
}

pub within_after : (t u : Tree) → Step t u → IsWithin u
within_after t u s = s.makes.within

pub normal_of : (t : Tree) → IsWithin t → IsQuiet (16384 - nodes_of t) 0 t → IsNormal t
normal_of t w q p i u m = q p i u (made_of t p i u w m)

-- ---- with less room

pub quieter : (room less level : ℕ) (t : Tree) → less ≤ room → IsQuiet room level t → IsQuiet less level t
quieter room less level t h q p i u m = q p i u (record { before = m.before; after = m.after; stands = m.stands; rewrites = m.rewrites; whole = m.whole; small = omega (arith, h, m.small); shallow = m.shallow })

pub still_at : (room less level : ℕ) (t : Tree) → less ≤ room → IsStill room level t → IsStill less level t
still_at room less level t h s i u m =
    s i u (record { before = m.before; after = m.after; stands = m.stands; rewrites = m.rewrites; whole = m.whole; small = omega (arith, h, m.small); shallow = m.shallow })

pub settled_less : (room less level : ℕ) (t : Tree) (r : List ℕ) → less ≤ room → IsSettled room level t r → IsSettled less level t r
settled_less room less level t [] h s = tt
settled_less room less level t (i ∷ r) h s = (
  λ j b l e. quieter room less (level + 1) b h (s.0 j b l e),
  λ a e. settled_less room less (level + 1) a r h (s.1 a e),
  λ b. still_at room less level t h (s.2 b),
)

-- ---- into a part

-- what is made in a part is made in the term
into : (room level : ℕ) (t a : Tree) (i : ℕ) (p : Place) (n : ℕ) (v : Tree) → part_at t i ≡ Some a → Made room (level + 1) a p n v → Made room level t (i ∷ p) n (with_part t i v)
into room level t a i p n v e m = record {
  before = m.before;
  after = m.after;
  stands = ap (λ o. option_and_then (λ b. stands_at b p) o) e ∙ m.stands;
  rewrites = m.rewrites;
  whole = ap (with_part t i) m.whole ∙ sym (ap (λ o. in_part t i o (λ b. with_at b p m.after)) e);
  small = m.small;
  shallow = omega (arith, m.shallow);
}

-- and the other way
pub record In (room level : ℕ) (t : Tree) (i : ℕ) (p : Place) (n : ℕ) : Type 0 where
  pub part : Tree
  pub stands : part_at t i ≡ Some part
  pub result : Tree
  pub makes : Made room (level + 1) part p n result

out_of : (room level : ℕ) (t : Tree) (i : ℕ) (p : Place) (n : ℕ) (u : Tree) → Made room level t (i ∷ p) n u → In room level t i p n
out_of room level t i p n u m = by_part (part_at t i) refl m.stands
  where
    by_part : (o : Option Tree) → part_at t i ≡ o → option_and_then (λ b. stands_at b p) o ≡ Some m.before → In room level t i p n
    by_part (Some b) f g = record {
      part = b;
      stands = f;
      result = with_at b p m.after;
      makes = record { before = m.before; after = m.after; stands = g; rewrites = m.rewrites; whole = refl; small = m.small; shallow = omega (arith, m.shallow) };
    }
    by_part None f g = absurd cc

-- ---- the first step

-- at the term itself, by the lowest rule
pub leads_here : (room level : ℕ) (t : Tree) (i : ℕ) (u : Tree) → Made room level t [] i u → ((j : ℕ) (v : Tree) → j < i → Made room level t [] j v → ⊥) → Leads room level t u
leads_here room level t i u m lower = record { place = []; number = i; makes = m; first = first }
  where
    first : (q : Place) (j : ℕ) (v : Tree) → Made room level t q j v → IsFirst [] i q j
    first [] j v n = ⊎_elim (λ l. absurd (lower j v l n)) (λ l. inr (refl, l)) (cases_lt j i)
    first (k ∷ q) j v n = inl tt

-- in its first part that has one
pub leads_in : (room level : ℕ) (t a v : Tree) (i : ℕ) → IsStill room level t → ((j : ℕ) (b : Tree) → j < i → part_at t j ≡ Some b → IsQuiet room (level + 1) b)
    → part_at t i ≡ Some a → Leads room (level + 1) a v → Leads room level t (with_part t i v)
leads_in room level t a v i still quiet e l = record { place = i ∷ l.place; number = l.number; makes = into room level t a i l.place l.number v e l.makes; first = first }
  where
    first : (q : Place) (j : ℕ) (w : Tree) → Made room level t q j w → IsFirst (i ∷ l.place) l.number q j
    first [] j w m = absurd (still j w m)
    first (k ∷ q) j w m = by_order (cases_lt k i)
      where
        d : In room level t k q j
        d = out_of room level t k q j w m

        later : (k ≡ i) ⊎ (i < k) → IsFirst (i ∷ l.place) l.number (k ∷ q) j
        later (inl s) =
            let same : d.part ≡ a = same_Some d.part a (sym d.stands ∙ ap (part_at t) s ∙ e) in
            let f = l.first q j d.result (subst (λ b. Made room (level + 1) b q j d.result) same d.makes) in
            ⊎_elim (λ b. inl (inr (sym s, b))) (λ b. inr (ap₂ ◌∷◌ (sym s) b.0, b.1)) f
        later (inr s) = inl (inl s)

        by_order : (k < i) ⊎ (i ≤ k) → IsFirst (i ∷ l.place) l.number (k ∷ q) j
        by_order (inl s) = absurd (quiet k d.part s d.stands q j d.result d.makes)
        by_order (inr s) = ⊎_elim (λ g. later (inl g)) (λ g. later (inr (omega (arith, s, g)))) (cases_eq k i)

-- nowhere
pub quiet_whole : (room level : ℕ) (t : Tree) → IsStill room level t → ((j : ℕ) (b : Tree) → part_at t j ≡ Some b → IsQuiet room (level + 1) b) → IsQuiet room level t
quiet_whole room level t still quiet [] i u m = still i u m
quiet_whole room level t still quiet (k ∷ p) i u m = let d = out_of room level t k p i u m in quiet k d.part d.stands p i d.result d.makes

-- ---- the parts of a term with another part

other_tree : (ts : Trees) (v : Tree) (i j : ℕ) → j ≢ i → tree_at (with_tree ts i v) j ≡ tree_at ts j
other_tree no_trees v i j n = refl
other_tree (trees t ts) v zero zero n = absurd (n refl)
other_tree (trees t ts) v zero (suc j) n = refl
other_tree (trees t ts) v (suc i) zero n = refl
other_tree (trees t ts) v (suc i) (suc j) n = other_tree ts v i j (λ e. n (ap suc e))

other_field : (ps : Parts) (v : Tree) (i j : ℕ) → j ≢ i → field_at (with_field ps i v) j ≡ field_at ps j
other_field no_parts v i j n = refl
other_field (parts l t ps) v zero zero n = absurd (n refl)
other_field (parts l t ps) v zero (suc j) n = refl
other_field (parts l t ps) v (suc i) zero n = refl
other_field (parts l t ps) v (suc i) (suc j) n = other_field ps v i j (λ e. n (ap suc e))

other_arm : (bs : Arms) (v a : Tree) (i j : ℕ) → arm_at bs i ≡ Some a → j ≢ i → arm_at (with_arm bs i v) j ≡ arm_at bs j
other_arm no_arms v a i j e n = refl
other_arm (rest c) v a zero zero e n = absurd (n refl)
other_arm (rest c) v a zero (suc j) e n = refl
other_arm (rest c) v a (suc i) j e n = absurd cc
other_arm (arm l b bs) v a zero zero e n = absurd (n refl)
other_arm (arm l b bs) v a zero (suc j) e n = refl
other_arm (arm l b bs) v a (suc i) zero e n = refl
other_arm (arm l b bs) v a (suc i) (suc j) e n = other_arm bs v a i j e (λ f. n (ap suc f))

this_tree : (ts : Trees) (v a : Tree) (i : ℕ) → tree_at ts i ≡ Some a → tree_at (with_tree ts i v) i ≡ Some v
this_tree no_trees v a i e = absurd cc
this_tree (trees t ts) v a zero e = refl
this_tree (trees t ts) v a (suc i) e = this_tree ts v a i e

this_field : (ps : Parts) (v a : Tree) (i : ℕ) → field_at ps i ≡ Some a → field_at (with_field ps i v) i ≡ Some v
this_field no_parts v a i e = absurd cc
this_field (parts l t ps) v a zero e = refl
this_field (parts l t ps) v a (suc i) e = this_field ps v a i e

this_arm : (bs : Arms) (v a : Tree) (i : ℕ) → arm_at bs i ≡ Some a → arm_at (with_arm bs i v) i ≡ Some v
this_arm no_arms v a i e = absurd cc
this_arm (rest c) v a zero e = refl
this_arm (rest c) v a (suc i) e = absurd cc
this_arm (arm l b bs) v a zero e = refl
this_arm (arm l b bs) v a (suc i) e = this_arm bs v a i e

pub this_part : (t v a : Tree) (i : ℕ) → part_at t i ≡ Some a → part_at (with_part t i v) i ≡ Some v
this_part (Var x) v a i e = absurd cc
this_part (Const c) v a i e = absurd cc
this_part (Source n) v a i e = absurd cc
this_part (Rec ps) v a i e = this_field ps v a i e
this_part (Proj l b) v a zero e = refl
this_part (Proj l b) v a (suc i) e = absurd cc
this_part (Inj l b) v a zero e = refl
this_part (Inj l b) v a (suc i) e = absurd cc
this_part (Case b bs) v a zero e = refl
this_part (Case b bs) v a (suc i) e = this_arm bs v a i e
this_part (Make j ts) v a i e = this_tree ts v a i e
this_part (Union b c) v a zero e = refl
this_part (Union b c) v a (suc zero) e = refl
this_part (Union b c) v a (suc (suc i)) e = absurd cc
this_part (Ext j b s) v a zero e = refl
this_part (Ext j b s) v a (suc zero) e = refl
this_part (Ext j b s) v a (suc (suc i)) e = absurd cc
this_part (If b c d) v a zero e = refl
this_part (If b c d) v a (suc zero) e = refl
this_part (If b c d) v a (suc (suc zero)) e = refl
this_part (If b c d) v a (suc (suc (suc i))) e = absurd cc
this_part (Let b c) v a zero e = refl
this_part (Let b c) v a (suc zero) e = refl
this_part (Let b c) v a (suc (suc i)) e = absurd cc
this_part (Prim c ts) v a i e = this_tree ts v a i e

pub other_part : (t v a : Tree) (i j : ℕ) → part_at t i ≡ Some a → j ≢ i → part_at (with_part t i v) j ≡ part_at t j
other_part (Var x) v a i j e n = absurd cc
other_part (Const c) v a i j e n = absurd cc
other_part (Source m) v a i j e n = absurd cc
other_part (Rec ps) v a i j e n = other_field ps v i j n
other_part (Proj l b) v a zero zero e n = absurd (n refl)
other_part (Proj l b) v a zero (suc j) e n = refl
other_part (Proj l b) v a (suc i) j e n = absurd cc
other_part (Inj l b) v a zero zero e n = absurd (n refl)
other_part (Inj l b) v a zero (suc j) e n = refl
other_part (Inj l b) v a (suc i) j e n = absurd cc
other_part (Case b bs) v a zero zero e n = absurd (n refl)
other_part (Case b bs) v a zero (suc j) e n = refl
other_part (Case b bs) v a (suc i) zero e n = refl
other_part (Case b bs) v a (suc i) (suc j) e n = other_arm bs v a i j e (λ f. n (ap suc f))
other_part (Make k ts) v a i j e n = other_tree ts v i j n
other_part (Union b c) v a zero zero e n = absurd (n refl)
other_part (Union b c) v a zero (suc j) e n = refl
other_part (Union b c) v a (suc zero) zero e n = refl
other_part (Union b c) v a (suc zero) (suc zero) e n = absurd (n refl)
other_part (Union b c) v a (suc zero) (suc (suc j)) e n = refl
other_part (Union b c) v a (suc (suc i)) j e n = absurd cc
other_part (Ext k b c) v a zero zero e n = absurd (n refl)
other_part (Ext k b c) v a zero (suc j) e n = refl
other_part (Ext k b c) v a (suc zero) zero e n = refl
other_part (Ext k b c) v a (suc zero) (suc zero) e n = absurd (n refl)
other_part (Ext k b c) v a (suc zero) (suc (suc j)) e n = refl
other_part (Ext k b c) v a (suc (suc i)) j e n = absurd cc
other_part (If b c d) v a zero zero e n = absurd (n refl)
other_part (If b c d) v a zero (suc j) e n = refl
other_part (If b c d) v a (suc zero) zero e n = refl
other_part (If b c d) v a (suc zero) (suc zero) e n = absurd (n refl)
other_part (If b c d) v a (suc zero) (suc (suc j)) e n = refl
other_part (If b c d) v a (suc (suc zero)) zero e n = refl
other_part (If b c d) v a (suc (suc zero)) (suc zero) e n = refl
other_part (If b c d) v a (suc (suc zero)) (suc (suc zero)) e n = absurd (n refl)
other_part (If b c d) v a (suc (suc zero)) (suc (suc (suc j))) e n = refl
other_part (If b c d) v a (suc (suc (suc i))) j e n = absurd cc
other_part (Let b c) v a zero zero e n = absurd (n refl)
other_part (Let b c) v a zero (suc j) e n = refl
other_part (Let b c) v a (suc zero) zero e n = refl
other_part (Let b c) v a (suc zero) (suc zero) e n = absurd (n refl)
other_part (Let b c) v a (suc zero) (suc (suc j)) e n = refl
other_part (Let b c) v a (suc (suc i)) j e n = absurd cc
other_part (Prim c ts) v a i j e n = other_tree ts v i j n

-- after a step in a part the trail leads there, and the parts before it are as they were
pub settled_in : (calm level : ℕ) (t a v : Tree) (i : ℕ) (r : List ℕ) → part_at t i ≡ Some a → ((j : ℕ) (b : Tree) → j < i → part_at t j ≡ Some b → IsQuiet calm (level + 1) b) → IsSettled calm (level + 1) v r
    → level + depth_of t ≤ 512 → IsStill calm level t → IsAlong a v r → IsSettled calm level (with_part t i v) (i ∷ r)
settled_in calm level t a v i r e quiet s deep still along = (
  λ j b l f. quiet j b l (sym (other_part t v a i j e (λ g. omega (arith, l, g))) ∙ f),
  λ b f. subst (λ w. IsSettled calm (level + 1) w r) (same_Some v b (sym (this_part t v a i e) ∙ f)) s,
  beyond r along,
)
  where
    beyond : (q : List ℕ) → IsAlong a v q → is_beyond (i ∷ q) (with_part t i v) ≡ true → IsStill calm level (with_part t i v)
    beyond [] g h = absurd cc
    beyond (j ∷ q) g h =
        let x = g j q refl in
        subst (λ w. IsStill calm level (with_part t i w)) (sym x.1) (beyond_still calm level t a x.0 i j e deep still (subst (λ w. beyond_parts i j (with_part t i w) ≡ true) x.1 h))
