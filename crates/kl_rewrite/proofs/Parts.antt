-- The search in the parts of a term, one after the other.
use Rattle.std.proofs.Common.{◌≡◌, ℕ, zero, suc, ◌+◌, ◌≤◌, ◌<◌, Bool, true, false, List, [], ◌∷◌, reverse, Option, Some, Result, Ok, Err, IfOk, refl, sym, ap, subst, ◌∙◌, arith, ⊎_elim, true≢false}
use Rattle.std.specs.Bool.{⊤}
use Rattle.std.proofs.lemmas.Option.{same_Some}
use Rattle.std.proofs.lemmas.Bool.{cases_lt}
use Rattle.kl_base.specs.declared.memory.NoMemory.{NoMemory}
use Rattle.kl_core.specs.declared.term.Term.{Term}
use Rattle.kl_core.specs.Trees.{view, Tree, Var, Const, Source, Rec, Proj, Inj, Case, Make, Union, Ext, If, Let, Prim, Trees, no_trees, trees, Parts, no_parts, parts, Arms, no_arms, rest, arm}
use Rattle.kl_core.specs.Leaves.{Leaves, LeavesOfTrees, LeavesOfParts, LeavesOfArms}
use Rattle.kl_core.specs.Positions.{AnySource}
use Rattle.kl_core.specs.Counts.{nodes_of, depth_of}
use Rattle.kl_core.proofs.Sizes.{few_binders}
use Rattle.kl_rules.specs.Rewriting.{IsLowPosition}
use Rattle.kl_rewrite.specs.declared.place.Allowance.{Allowance}
use Rattle.kl_rewrite.specs.declared.search.Search.{Search}
use Rattle.kl_rewrite.specs.Places.{tree_at, field_at, arm_at, part_at, with_part}
use Rattle.kl_rewrite.specs.Beyond.{is_beyond}
use Rattle.kl_rewrite.specs.Search.{IsQuiet, IsStill, Leads, IsSettled}
use Rattle.kl_rewrite.specs.Searched.{IsSearchable, KeepsRoom, Found, Passes, StepsIn, Searched, IsTraced, IsReady, IsOpen, StepsInPart, SearchedPart, AreOpen, PassesAll, StepsInOne, SearchedAll, AfterNone, Behind}
use Rattle.kl_rewrite.proofs.Sizes.{nodes_part, put_back, inside}
use Rattle.kl_rewrite.proofs.Searching.{quieter, still_at, settled_less, leads_in, settled_in, quiet_whole}

-- ---- what is known goes on

pub keeps_both : (s v w : Search) → KeepsRoom s.allowance v.allowance → KeepsRoom v.allowance w.allowance → KeepsRoom s.allowance w.allowance
keeps_both s v w h k =
    let room : v.allowance.room ≡ s.allowance.room = h.room in
    let least : v.allowance.room ≤ w.allowance.calm = k.least in
    let lower : v.allowance.calm ≤ s.allowance.calm = h.lower in
    let less : w.allowance.calm ≤ v.allowance.calm = k.lower in
    record { room = k.room ∙ room; least = omega (arith, room, least); lower = omega (arith, lower, less) }

ready_less : (calm less level n : ℕ) (t : Tree) (trail : List ℕ) → less ≤ calm → IsReady calm level n t trail → IsReady less level n t trail
ready_less calm less level n t [] h r = tt
ready_less calm less level n t (i ∷ trail) h r = (λ l. quieter calm less level t h (r.0 l), λ e. settled_less calm less level t trail h (r.1 e))

pub open_still : (level n : ℕ) (t : Tree) (trail : List ℕ) (s v : Search) → KeepsRoom s.allowance v.allowance → v.path.items ≡ [] → IsOpen level n t trail s → IsOpen level n t trail v
open_still level n t trail s v k e o = record {
  searchable = subst (λ r. IsSearchable r level t) (sym k.room) o.searchable;
  least = subst (λ r. r ≤ v.allowance.calm) (sym k.room) k.least;
  path = e;
  ready = ready_less s.allowance.calm v.allowance.calm level n t (reverse trail) k.lower o.ready;
}

-- ---- parts below a number

module _ {L : Type 0} (at : L → ℕ → Option Tree) where
  pub record PassesBelow (level n : ℕ) (ts us : L) (s s' : Search) : Type 0 where
    pub same : us ≡ ts
    pub path : s'.path.items ≡ []
    pub keeps : KeepsRoom s.allowance s'.allowance
    pub quiet : (i : ℕ) (b : Tree) → i < n → at ts i ≡ Some b → IsQuiet s'.allowance.calm level b

  pub none_passed : (level : ℕ) (ts : L) (s : Search) → s.path.items ≡ [] → s.allowance.room ≤ s.allowance.calm → PassesBelow level 0 ts ts s s
  none_passed level ts s e least = record { same = refl; path = e; keeps = record { room = refl; least = least; lower = omega arith }; quiet = λ i b l f. absurd (omega (arith, l)) }

  pub all_passed : (level n : ℕ) (ts us : L) (s v : Search) → ((i : ℕ) (b : Tree) → at ts i ≡ Some b → i < n) → PassesBelow level n ts us s v → PassesAll at level ts us s v
  all_passed level n ts us s v few h = record { same = h.same; path = h.path; keeps = h.keeps; quiet = λ i b f. h.quiet i b (few i b f) f }

  -- one part more, of a list that may have been rebuilt
  pub one_passed : (level n : ℕ) (ts us xs : L) (a b : Tree) (s v w : Search) → PassesBelow level n ts us s v → at ts n ≡ Some a → xs ≡ ts → Passes level a b v w → PassesBelow level (n + 1) ts xs s w
  one_passed level n ts us xs a b s v w h e same p = record {
    same = same;
    path = p.path;
    keeps = keeps_both s v w h.keeps p.keeps;
    quiet = λ i c l f. ⊎_elim (λ k. quieter v.allowance.calm w.allowance.calm level c p.keeps.lower (h.quiet i c k f)) (λ k. here i c (omega (arith, k, l)) f) (cases_lt i n);
  }
    where
      here : (i : ℕ) (c : Tree) → i ≡ n → at ts i ≡ Some c → IsQuiet w.allowance.calm level c
      here i c q f = subst (IsQuiet w.allowance.calm level) (same_Some a c (sym e ∙ ap (at ts) (sym q) ∙ f)) p.quiet

  pub open_here : (level n i : ℕ) (ts us : L) (a : Tree) (trail : List ℕ) (s v : Search) → AreOpen at level n ts trail s → PassesBelow level i ts us s v → at ts i ≡ Some a → IsOpen level (n + i) a trail v
  open_here level n i ts us a trail s v given h e = open_still level (n + i) a trail s v h.keeps h.path (given.each i a e)

  -- the step is made in the next part
  pub one_steps : (with : L → ℕ → Tree → L) (level n i : ℕ) (ts us xs : L) (a b : Tree) (s v w : Search) → PassesBelow level i ts us s v → at ts i ≡ Some a → xs ≡ with ts i b → StepsInPart level (n + i) a b v w
      → StepsInOne at with level n ts xs s w
  one_steps with level n i ts us xs a b s v w h e is p =
      let room : v.allowance.room ≡ s.allowance.room = h.keeps.room in
      let lower : v.allowance.calm ≤ s.allowance.calm = h.keeps.lower in
      let left : w.allowance.room + nodes_of b ≡ v.allowance.room + nodes_of a = p.leaves.room in
      let least : v.allowance.room ≤ w.allowance.calm = p.leaves.least in
      let less : w.allowance.calm ≤ v.allowance.calm = p.leaves.lower in
      record {
        index = i;
        before = a;
        after = b;
        stands = e;
        whole = is;
        quiet = λ j c l f. quieter v.allowance.calm w.allowance.calm level c less (h.quiet j c l f);
        step = record {
          leads = subst (λ r. Leads r level a b) room p.leads;
          leaves = record { room = omega (arith, left, room); least = omega (arith, least, room); lower = omega (arith, lower, less) };
          trail = p.trail;
          path = p.path;
          settled = p.settled;
          along = p.along;
        };
      }

-- ---- between the parts and the term

low_tree : (ts : Trees) (b : Tree) (i : ℕ) → tree_at ts i ≡ Some b → LeavesOfTrees IsLowPosition AnySource ts → Leaves IsLowPosition AnySource b
low_tree no_trees b i e h = absurd cc
low_tree (trees t ts) b zero e h = subst (Leaves IsLowPosition AnySource) (same_Some t b e) h.0
low_tree (trees t ts) b (suc i) e h = low_tree ts b i e h.1

low_field : (ps : Parts) (b : Tree) (i : ℕ) → field_at ps i ≡ Some b → LeavesOfParts IsLowPosition AnySource ps → Leaves IsLowPosition AnySource b
low_field no_parts b i e h = absurd cc
low_field (parts l t ps) b zero e h = subst (Leaves IsLowPosition AnySource) (same_Some t b e) h.0
low_field (parts l t ps) b (suc i) e h = low_field ps b i e h.1

low_arm : (bs : Arms) (b : Tree) (i : ℕ) → arm_at bs i ≡ Some b → LeavesOfArms IsLowPosition AnySource bs → Leaves IsLowPosition AnySource b
low_arm no_arms b i e h = absurd cc
low_arm (rest c) b zero e h = subst (Leaves IsLowPosition AnySource) (same_Some c b e) h
low_arm (rest c) b (suc i) e h = absurd cc
low_arm (arm l a bs) b zero e h = subst (Leaves IsLowPosition AnySource) (same_Some a b e) h.0
low_arm (arm l a bs) b (suc i) e h = low_arm bs b i e h.1

low_at : (a b : Tree) → Some a ≡ Some b → Leaves IsLowPosition AnySource a → Leaves IsLowPosition AnySource b
low_at a b e h = subst (Leaves IsLowPosition AnySource) (same_Some a b e) h

low_part : (t b : Tree) (i : ℕ) → part_at t i ≡ Some b → Leaves IsLowPosition AnySource t → Leaves IsLowPosition AnySource b
low_part (Var x) b i e h = absurd cc
low_part (Const c) b i e h = absurd cc
low_part (Source n) b i e h = absurd cc
low_part (Rec ps) b i e h = low_field ps b i e h
low_part (Proj l a) b zero e h = low_at a b e h
low_part (Proj l a) b (suc i) e h = absurd cc
low_part (Inj l a) b zero e h = low_at a b e h
low_part (Inj l a) b (suc i) e h = absurd cc
low_part (Case a bs) b zero e h = low_at a b e h.0
low_part (Case a bs) b (suc i) e h = low_arm bs b i e h.1
low_part (Make k ts) b i e h = low_tree ts b i e h
low_part (Union a c) b zero e h = low_at a b e h.0
low_part (Union a c) b (suc zero) e h = low_at c b e h.1
low_part (Union a c) b (suc (suc i)) e h = absurd cc
low_part (Ext k a c) b zero e h = low_at a b e h.0
low_part (Ext k a c) b (suc zero) e h = low_at c b e h.1
low_part (Ext k a c) b (suc (suc i)) e h = absurd cc
low_part (If a c d) b zero e h = low_at a b e h.0
low_part (If a c d) b (suc zero) e h = low_at c b e h.1
low_part (If a c d) b (suc (suc zero)) e h = low_at d b e h.2
low_part (If a c d) b (suc (suc (suc i))) e h = absurd cc
low_part (Let a c) b zero e h = low_at a b e h.0
low_part (Let a c) b (suc zero) e h = low_at c b e h.1
low_part (Let a c) b (suc (suc i)) e h = absurd cc
low_part (Prim c ts) b i e h = low_tree ts b i e h

some_node : (t : Tree) → 1 ≤ nodes_of t
some_node t = omega (arith, few_binders t)

part_searchable : (room level : ℕ) (t b : Tree) (i : ℕ) → part_at t i ≡ Some b → IsSearchable room level t → IsSearchable room (level + 1) b
part_searchable room level t b i e h =
    let many = nodes_part b (Var 0) t i e in
    let few : nodes_of t + room ≤ 16384 = h.few in
    let shallow : level + depth_of t ≤ 512 = h.shallow in
    record {
      low = low_part t b i e h.low;
      few = omega (arith, many, some_node (with_part t i (Var 0)), few);
      shallow = omega (arith, inside b t i e, shallow);
    }

pub parts_open : (level : ℕ) (t : Tree) (trail : List ℕ) (s v : Search) → IsTraced level t trail s → KeepsRoom s.allowance v.allowance → v.path.items ≡ s.path.items → AreOpen part_at (level + 1) 0 t trail v
parts_open level t trail s v h k e = record {
  least = subst (λ r. r ≤ v.allowance.calm) (sym k.room) k.least;
  path = e ∙ h.path;
  each = λ i b f. record {
    searchable = subst (λ r. IsSearchable r (level + 1) b) (sym k.room) (part_searchable s.allowance.room level t b i f h.searchable);
    least = subst (λ r. r ≤ v.allowance.calm) (sym k.room) k.least;
    path = e ∙ h.path;
    ready = subst (λ n. IsReady v.allowance.calm (level + 1) n b (reverse trail)) (omega arith) (ready i b f (reverse trail) h.settled);
  };
}
  where
    ready : (i : ℕ) (b : Tree) → part_at t i ≡ Some b → (r : List ℕ) → IsSettled s.allowance.calm level t r → IsReady v.allowance.calm (level + 1) i b r
    ready i b f [] g = tt
    ready i b f (j ∷ r) g = (
      λ l. quieter s.allowance.calm v.allowance.calm (level + 1) b k.lower (g.0 i b l f),
      λ q. settled_less s.allowance.calm v.allowance.calm (level + 1) b r k.lower (g.1 b (ap (part_at t) (sym q) ∙ f)),
    )

term_passes : (level : ℕ) (t u : Tree) (s v w : Search) → KeepsRoom s.allowance v.allowance → IsStill v.allowance.calm level t → PassesAll part_at (level + 1) t u v w → Passes level t u s w
term_passes level t u s v w k still p = record {
  same = p.same;
  path = p.path;
  keeps = keeps_both s v w k p.keeps;
  quiet = quiet_whole w.allowance.calm level t (still_at v.allowance.calm w.allowance.calm level t p.keeps.lower still) p.quiet;
}

term_steps : (level : ℕ) (t u : Tree) (s v w : Search) → level + depth_of t ≤ 512 → KeepsRoom s.allowance v.allowance → IsStill v.allowance.calm level t → StepsInOne part_at with_part (level + 1) 0 t u v w → StepsIn level t u s w
term_steps level t u s v w deep k still p =
    let room : v.allowance.room ≡ s.allowance.room = k.room in
    let lower : v.allowance.calm ≤ s.allowance.calm = k.lower in
    let first : s.allowance.room ≤ v.allowance.calm = k.least in
    let left : w.allowance.room + nodes_of p.after ≡ v.allowance.room + nodes_of p.before = p.step.leaves.room in
    let least : v.allowance.room ≤ w.allowance.calm = p.step.leaves.least in
    let less : w.allowance.calm ≤ v.allowance.calm = p.step.leaves.lower in
    let many : nodes_of (with_part t p.index p.after) + nodes_of p.before ≡ nodes_of t + nodes_of p.after = nodes_part p.before p.after t p.index p.stands in
    let now : nodes_of u ≡ nodes_of (with_part t p.index p.after) = ap nodes_of p.whole in
    let step = leads_in v.allowance.room level t p.before p.after p.index
    (still_at v.allowance.calm v.allowance.room level t (omega (arith, room, first)) still)
    (λ j b l f. quieter w.allowance.calm v.allowance.room (level + 1) b least (p.quiet j b l f)) p.stands p.step.leads in
    record {
      leads = subst (λ r. Leads r level t u) room (subst (Leads v.allowance.room level t) (sym p.whole) step);
      leaves = record { room = omega (arith, room, left, many, now); least = omega (arith, room, least); lower = omega (arith, lower, less) };
      settled =
          subst (λ x. IsSettled w.allowance.calm level x (reverse w.path.items)) (sym p.whole)
          (subst (IsSettled w.allowance.calm level (with_part t p.index p.after)) (sym (p.step.path ∙ ap (λ n. n ∷ p.step.trail) (omega arith)))
          (settled_in w.allowance.calm level t p.before p.after p.index p.step.trail p.stands p.quiet p.step.settled
          deep (still_at v.allowance.calm w.allowance.calm level t less still) p.step.along));
      along = λ j r e. (p.after, p.whole ∙ ap (λ n. with_part t n p.after) (same_number j r (sym e ∙ p.step.path)));
    }
  where
    same_number : (j : ℕ) (r : List ℕ) → j ∷ r ≡ (0 + p.index) ∷ p.step.trail → p.index ≡ j
    same_number j r e = let same : j ≡ 0 + p.index = cc in omega (arith, same)

pub found_nothing : (level : ℕ) (t u : Term) (b : Bool) (w v : Allowance) → b ≡ false → Found level t u b w v → (u ≡ t) × KeepsRoom w v × IsStill v.calm level (view t)
found_nothing level t u b w v e h = subst (λ c. Found level t u c w v) e h

-- before the search in the parts of a term at which nothing was made
pub parts_behind : (level : ℕ) (t u : Term) (b : Bool) (trail : List ℕ) (s v : Search) → IsTraced level (view t) trail s → b ≡ false → Found level t u b s.allowance v.allowance → v.path.items ≡ s.path.items
    → AreOpen part_at (level + 1) 0 (view u) trail v
parts_behind level t u b trail s v h e f path =
    let g = found_nothing level t u b s.allowance v.allowance e f in
    subst (λ x. AreOpen part_at (level + 1) 0 (view x) trail v) (sym g.0) (parts_open level (view t) trail s v h g.1 path)

pub term_searched : (level : ℕ) (t x : Term) (u : Tree) (b : Bool) (trail : List ℕ) (r : Result Bool NoMemory) (s v w : Search) → IsTraced level (view t) trail s → b ≡ false → Found level t x b s.allowance v.allowance
    → IfOk r (λ c. SearchedAll part_at with_part (level + 1) 0 (view x) u c v w) → IfOk r (λ c. Searched level (view t) u c s w)
term_searched level t x u b trail (Ok true) s v w o e f h =
    let g = found_nothing level t x b s.allowance v.allowance e f in
    term_steps level (view t) u s v w o.searchable.shallow g.1 g.2 (subst (λ y. StepsInOne part_at with_part (level + 1) 0 (view y) u v w) g.0 h)
term_searched level t x u b trail (Ok false) s v w o e f h =
    let g = found_nothing level t x b s.allowance v.allowance e f in
    term_passes level (view t) u s v w g.1 g.2 (subst (λ y. PassesAll part_at (level + 1) (view y) u v w) g.0 h)
term_searched level t x u b trail (Err e) s v w o is f h = tt

-- the step at the term itself
pub term_stepped : (level : ℕ) (t u : Term) (b : Bool) (s v : Search) → b ≡ true → v.path.items ≡ [] → Found level t u b s.allowance v.allowance → StepsIn level (view t) (view u) s v
term_stepped level t u b s v e path h =
    let g = subst (λ c. Found level t u c s.allowance v.allowance) e h in
    record {
      leads = g.0;
      leaves = g.1;
      settled = subst (λ p. IsSettled v.allowance.calm level (view u) (reverse p)) (sym path) tt;
      along = λ i q f. absurd (let none : [] ≡ i ∷ q = sym (ap reverse path) ∙ f in cc);
    }

-- what is known at a node that the trail leads beyond
pub still_beyond : (calm level : ℕ) (t : Tree) (r : List ℕ) → IsSettled calm level t r → is_beyond r t ≡ true → IsStill calm level t
still_beyond calm level t [] s h = absurd cc
still_beyond calm level t (i ∷ r) s h = s.2 h

-- ---- the parts of a term, as far as a number

abbrev pub Upto : ℕ → ℕ → Tree → Tree → Result Bool NoMemory → Search → Search → Type 0
Upto level n t u (Ok true) s v = StepsInOne part_at with_part level 0 t u s v
Upto level n t u (Ok false) s v = PassesBelow part_at level n t u s v
Upto level n t u (Err e) s v = ⊤

pub upto_first : (level : ℕ) (t a b : Tree) (r : Result Bool NoMemory) (s v : Search) → s.path.items ≡ [] → s.allowance.room ≤ s.allowance.calm → part_at t 0 ≡ Some a → IfOk r (λ x. SearchedPart level 0 a b x s v)
    → Upto level 1 t (with_part t 0 b) r s v
upto_first level t a b (Ok true) s v e least f h = one_steps part_at with_part level 0 0 t t (with_part t 0 b) a b s s v (none_passed part_at level t s e least) f refl h
upto_first level t a b (Ok false) s v e least f h = one_passed part_at level 0 t t (with_part t 0 b) a b s s v (none_passed part_at level t s e least) f (ap (with_part t 0) h.same ∙ put_back a t 0 f) h
upto_first level t a b (Err x) s v e least f h = tt

pub upto_more : (level n : ℕ) (t u a b : Tree) (r q : Result Bool NoMemory) (s v w : Search) → Upto level n t u r s v → part_at u n ≡ Some a → IfOk q (Behind r a b v w (λ x. SearchedPart level n a b x v w))
    → Upto level (n + 1) t (with_part u n b) q s w
upto_more level n t u a b r (Err e) s v w h f k = tt
upto_more level n t u a b (Err e) (Ok x) s v w h f k = absurd k
upto_more level n t u a b (Ok true) (Ok false) s v w h f k = absurd (true≢false (sym k.0))
upto_more level n t u a b (Ok true) (Ok true) s v w h f k =
    let same : with_part u n b ≡ u = ap (with_part u n) k.1 ∙ put_back a u n f in
    rw (same, k.2) h
upto_more level n t u a b (Ok false) (Ok true) s v w h f k =
    one_steps part_at with_part level 0 n t u (with_part u n b) a b s v w h (subst (λ x. part_at x n ≡ Some a) h.same f) (ap (λ x. with_part x n b) h.same) (subst (λ m. StepsInPart level m a b v w) (omega arith) k)
upto_more level n t u a b (Ok false) (Ok false) s v w h f k =
    one_passed part_at level n t u (with_part u n b) a b s v w h (subst (λ x. part_at x n ≡ Some a) h.same f) (ap (with_part u n) k.same ∙ put_back a u n f ∙ h.same) k

pub upto_all : (level n : ℕ) (t u : Tree) (r : Result Bool NoMemory) (s v : Search) → ((i : ℕ) (b : Tree) → part_at t i ≡ Some b → i < n) → Upto level n t u r s v
    → IfOk r (λ x. SearchedAll part_at with_part level 0 t u x s v)
upto_all level n t u (Ok true) s v few h = h
upto_all level n t u (Ok false) s v few h = all_passed part_at level n t u s v few h
upto_all level n t u (Err e) s v few h = tt

pub upto_open : (level n : ℕ) (t u a : Tree) (trail : List ℕ) (r : Result Bool NoMemory) (s v : Search) → AreOpen part_at level 0 t trail s → Upto level n t u r s v → part_at t n ≡ Some a
    → AfterNone r (IsOpen level n a trail v)
upto_open level n t u a trail (Ok true) s v o h f = tt
upto_open level n t u a trail (Ok false) s v o h f = subst (λ m. IsOpen level m a trail v) (omega arith) (open_here part_at level 0 n t u a trail s v o h f)
upto_open level n t u a trail (Err e) s v o h f = tt
