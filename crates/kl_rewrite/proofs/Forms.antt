-- The search in the parts of a term, by its form.
use Rattle.std.proofs.Common.{◌≡◌, ◌⊎◌, inl, inr, ℕ, zero, suc, ◌+◌, ◌-◌, ◌≤◌, ◌<◌, Bool, true, false, List, [], ◌∷◌, map, length, Option, Some, None, Result, Ok, Err, IfOk, refl, sym, ap, subst, ◌∙◌, arith, true≢false, ⊎_elim, rules}
use Rattle.std.proofs.lemmas.Bool.{cases_lt}
use Rattle.std.proofs.lemmas.Option.{same_Some}
use Rattle.kl_base.specs.declared.memory.NoMemory.{NoMemory}
use Rattle.kl_value.specs.declared.Kind.{Kind}
use Rattle.kl_value.specs.declared.Value.{Value}
use Rattle.kl_outcome.specs.Outcome.{Name}
use Rattle.kl_core.specs.declared.term.Term.{Term, the_lemmas}
use Rattle.kl_core.specs.declared.term.Term.TheVariants as term
use Rattle.kl_core.specs.Trees.{Tree, Var, Const, Source, Rec, Proj, Inj, Case, Make, Union, Ext, If, Let, Prim, Parts, no_parts, parts, Arms, rest, arm, parts_of, arms_of, rest_of, view, view_part, trees_view, parts_view}
use Rattle.kl_core.proofs.Views.{view_Var, view_Source, view_Rec, view_Make, view_If, view_Prim, view_Case, view_option}
use Rattle.kl_rewrite.specs.declared.search.Search.{Search}
use Rattle.kl_rewrite.specs.Places.{first_of, either_of, tree_at, field_at, arm_at, part_at, with_tree, with_field, with_arm, with_part}
use Rattle.kl_core.specs.Counts.{nodes_of}
use Rattle.kl_rewrite.specs.Search.{IsQuiet, Leads}
use Rattle.kl_rewrite.specs.Searched.{IsOpen, SearchedPart, StepsInPart, AreOpen, PassesAll, StepsInOne, SearchedAll, AfterNone, Behind}
use Rattle.kl_rewrite.proofs.Searching.{quieter}
use Rattle.kl_rewrite.proofs.Parts.{PassesBelow, Upto, keeps_both, open_still, none_passed, one_steps, upto_first, upto_more, upto_all, upto_open}

-- ---- what the code has for a part

open_as : (level n : ℕ) (a z : Term) (trail : List ℕ) (s : Search) → z ≡ a → IsOpen level n (view a) trail s → IsOpen level n (view z) trail s
open_as level n a z trail s e h = subst (λ (y : Term). IsOpen level n (view y) trail s) (sym e) h

next_open_as : (level n : ℕ) (a z : Term) (trail : List ℕ) (r : Result Bool NoMemory) (s : Search) → z ≡ a → AfterNone r (IsOpen level n (view a) trail s) → AfterNone r (IsOpen level n (view z) trail s)
next_open_as level n a z trail r s e h = subst (λ (y : Term). AfterNone r (IsOpen level n (view y) trail s)) (sym e) h

part_as : (level n : ℕ) (a z : Term) (b : Tree) (r : Result Bool NoMemory) (s v : Search) → z ≡ a → IfOk r (λ x. SearchedPart level n (view z) b x s v) → IfOk r (λ x. SearchedPart level n (view a) b x s v)
part_as level n a z b r s v e h = subst (λ (y : Term). IfOk r (λ x. SearchedPart level n (view y) b x s v)) e h

next_as : (level n : ℕ) (a z : Term) (b : Tree) (r q : Result Bool NoMemory) (v w : Search) → z ≡ a → IfOk q (Behind r (view z) b v w (λ x. SearchedPart level n (view z) b x v w))
    → IfOk q (Behind r (view a) b v w (λ x. SearchedPart level n (view a) b x v w))
next_as level n a z b r q v w e h = subst (λ (y : Term). IfOk q (Behind r (view y) b v w (λ x. SearchedPart level n (view y) b x v w))) e h

-- ---- no part

pub none_ok : (level : ℕ) (t : Tree) (trail : List ℕ) (s : Search) → AreOpen part_at level 0 t trail s → ((i : ℕ) (b : Tree) → part_at t i ≡ Some b → ⊥) → PassesAll part_at level t t s s
none_ok level t trail s o none = record { same = refl; path = o.path; keeps = record { room = refl; least = o.least; lower = omega arith }; quiet = λ i b e. absurd (none i b e) }

view_Const : (v : Value) → view (term.Const v) ≡ Const v
view_Const v = search (rules, the_lemmas)

none_in : (t u : Tree) (i : ℕ) (b : Tree) → t ≡ u → part_at u i ≡ None → part_at t i ≡ Some b → ⊥
none_in t u i b e f g = let h : None ≡ Some b = sym f ∙ ap (λ x. part_at x i) (sym e) ∙ g in absurd cc

no_Var : (t : Term) (x : ℕ) → t ≡ term.Var x → (i : ℕ) (b : Tree) → part_at (view t) i ≡ Some b → ⊥
no_Var t x e i b f = none_in (view t) (Var x) i b (ap view e ∙ view_Var x) refl f

no_Const : (t : Term) (v : Value) → t ≡ term.Const v → (i : ℕ) (b : Tree) → part_at (view t) i ≡ Some b → ⊥
no_Const t v e i b f = none_in (view t) (Const v) i b (ap view e ∙ view_Const v) refl f

no_Source : (t : Term) (x : ℕ) → t ≡ term.Source x → (i : ℕ) (b : Tree) → part_at (view t) i ≡ Some b → ⊥
no_Source t x e i b f = none_in (view t) (Source x) i b (ap view e ∙ view_Source x) refl f

pub no_leaf : (t : Term) → ((x : ℕ) × (t ≡ term.Var x)) ⊎ (((v : Value) × (t ≡ term.Const v)) ⊎ ((x : ℕ) × (t ≡ term.Source x))) → (i : ℕ) (b : Tree) → part_at (view t) i ≡ Some b → ⊥
no_leaf t (inl (x, e)) i b f = no_Var t x e i b f
no_leaf t (inr (inl (v, e))) i b f = no_Const t v e i b f
no_leaf t (inr (inr (x, e))) i b f = no_Source t x e i b f

-- ---- lists of parts that are all parts

module _ {L : Type 0} (at : L → ℕ → Option Tree) (with : L → ℕ → Tree → L) (form : L → Tree) (at_is : (ts : L) (i : ℕ) → part_at (form ts) i ≡ at ts i) (with_is : (ts : L) (i : ℕ) (v : Tree) → with_part (form ts) i v ≡ form (with ts i v)) where
  listed : (level : ℕ) (ts us : L) (b : Bool) (s v : Search) → SearchedAll at with level 0 ts us b s v → SearchedAll part_at with_part level 0 (form ts) (form us) b s v
  listed level ts us true s v h = record {
    index = h.index;
    before = h.before;
    after = h.after;
    stands = at_is ts h.index ∙ h.stands;
    whole = ap form h.whole ∙ sym (with_is ts h.index h.after);
    quiet = λ i b l f. h.quiet i b l (sym (at_is ts i) ∙ f);
    step = h.step;
  }
  listed level ts us false s v h = record { same = ap form h.same; path = h.path; keeps = h.keeps; quiet = λ i b f. h.quiet i b (sym (at_is ts i) ∙ f) }

  pub listed_ok : (level : ℕ) (t u : Tree) (ts us zs : L) (r : Result Bool NoMemory) (s v : Search) → t ≡ form ts → u ≡ form us → zs ≡ ts → IfOk r (λ b. SearchedAll at with level 0 zs us b s v)
      → IfOk r (λ b. SearchedAll part_at with_part level 0 t u b s v)
  listed_ok level t u ts us zs (Ok b) s v e f g h = rw (e, f, ← g) (listed level zs us b s v h)
  listed_ok level t u ts us zs (Err x) s v e f g h = tt

  pub listed_open : (level : ℕ) (t : Tree) (ts zs : L) (trail : List ℕ) (s : Search) → t ≡ form ts → zs ≡ ts → AreOpen part_at level 0 t trail s → AreOpen at level 0 zs trail s
  listed_open level t ts zs trail s e g o = record { least = o.least; path = o.path; each = λ i b f. o.each i b (ap (λ x. part_at x i) e ∙ at_is ts i ∙ ap (λ xs. at xs i) (sym g) ∙ f) }

pub made_ok : (level : ℕ) (t u : Term) (k : Kind) (ts us zs : List Term) (r : Result Bool NoMemory) (s v : Search) → t ≡ term.Make k ts → u ≡ term.Make k us → zs ≡ ts
    → IfOk r (λ b. SearchedAll tree_at with_tree level 0 (trees_view zs) (trees_view us) b s v) → IfOk r (λ b. SearchedAll part_at with_part level 0 (view t) (view u) b s v)
made_ok level t u k ts us zs r s v e f g h =
    listed_ok tree_at with_tree (Make k) (λ xs i. refl) (λ xs i x. refl) level (view t) (view u) (trees_view ts) (trees_view us) (trees_view zs) r s v (ap view e ∙ view_Make k ts) (ap view f ∙ view_Make k us) (ap trees_view g) h

pub made_open : (level : ℕ) (t : Term) (k : Kind) (ts zs : List Term) (trail : List ℕ) (s : Search) → t ≡ term.Make k ts → zs ≡ ts → AreOpen part_at level 0 (view t) trail s → AreOpen tree_at level 0 (trees_view zs) trail s
made_open level t k ts zs trail s e g o = listed_open tree_at with_tree (Make k) (λ xs i. refl) (λ xs i x. refl) level (view t) (trees_view ts) (trees_view zs) trail s (ap view e ∙ view_Make k ts) (ap trees_view g) o

pub prim_ok : (level : ℕ) (t u : Term) (k : ℕ) (ts us zs : List Term) (r : Result Bool NoMemory) (s v : Search) → t ≡ term.Prim k ts → u ≡ term.Prim k us → zs ≡ ts
    → IfOk r (λ b. SearchedAll tree_at with_tree level 0 (trees_view zs) (trees_view us) b s v) → IfOk r (λ b. SearchedAll part_at with_part level 0 (view t) (view u) b s v)
prim_ok level t u k ts us zs r s v e f g h =
    listed_ok tree_at with_tree (Prim k) (λ xs i. refl) (λ xs i x. refl) level (view t) (view u) (trees_view ts) (trees_view us) (trees_view zs) r s v (ap view e ∙ view_Prim k ts) (ap view f ∙ view_Prim k us) (ap trees_view g) h

pub prim_open : (level : ℕ) (t : Term) (k : ℕ) (ts zs : List Term) (trail : List ℕ) (s : Search) → t ≡ term.Prim k ts → zs ≡ ts → AreOpen part_at level 0 (view t) trail s → AreOpen tree_at level 0 (trees_view zs) trail s
prim_open level t k ts zs trail s e g o = listed_open tree_at with_tree (Prim k) (λ xs i. refl) (λ xs i x. refl) level (view t) (trees_view ts) (trees_view zs) trail s (ap view e ∙ view_Prim k ts) (ap trees_view g) o

pub record_ok : (level : ℕ) (t u : Term) (ps qs zs : List (Name × Term)) (r : Result Bool NoMemory) (s v : Search) → t ≡ term.Rec ps → u ≡ term.Rec qs → zs ≡ ps
    → IfOk r (λ b. SearchedAll field_at with_field level 0 (parts_view zs) (parts_view qs) b s v) → IfOk r (λ b. SearchedAll part_at with_part level 0 (view t) (view u) b s v)
record_ok level t u ps qs zs r s v e f g h =
    listed_ok field_at with_field Rec (λ xs i. refl) (λ xs i x. refl) level (view t) (view u) (parts_view ps) (parts_view qs) (parts_view zs) r s v (ap view e ∙ view_Rec ps) (ap view f ∙ view_Rec qs) (ap parts_view g) h

pub record_open : (level : ℕ) (t : Term) (ps zs : List (Name × Term)) (trail : List ℕ) (s : Search) → t ≡ term.Rec ps → zs ≡ ps → AreOpen part_at level 0 (view t) trail s → AreOpen field_at level 0 (parts_view zs) trail s
record_open level t ps zs trail s e g o = listed_open field_at with_field Rec (λ xs i. refl) (λ xs i x. refl) level (view t) (parts_view ps) (parts_view zs) trail s (ap view e ∙ view_Rec ps) (ap parts_view g) o

-- ---- one part

pub record HasOnePart (form : Tree → Tree) : Type 0 where
  pub at_is : (a : Tree) → part_at (form a) 0 ≡ Some a
  pub only : (a b : Tree) (i : ℕ) → part_at (form a) i ≡ Some b → i < 1
  pub with_is : (a v : Tree) → with_part (form a) 0 v ≡ form v

first_only : (a b : Tree) (i : ℕ) → first_of a i ≡ Some b → i < 1
first_only a b zero e = omega arith
first_only a b (suc i) e = absurd cc

pub one_Proj : (l : Name) → HasOnePart (Proj l)
one_Proj l = record { at_is = λ a. refl; only = first_only; with_is = λ a v. refl }

pub one_Inj : (l : Name) → HasOnePart (Inj l)
one_Inj l = record { at_is = λ a. refl; only = first_only; with_is = λ a v. refl }

module _ (form : Tree → Tree) (one : HasOnePart form) (level : ℕ) (t a z : Term) (trail : List ℕ) (s : Search) (e : view t ≡ form (view a)) (g : z ≡ a) (o : AreOpen part_at level 0 (view t) trail s) where
  only_open : IsOpen level 0 (view a) trail s
  only_open = o.each 0 (view a) (ap (λ x. part_at x 0) e ∙ one.at_is (view a))

  pub one_open : IsOpen level 0 (view z) trail s
  one_open = open_as level 0 a z trail s g only_open

  pub one_ok : (u b : Term) (r : Result Bool NoMemory) (v : Search) → view u ≡ form (view b) → IfOk r (λ x. SearchedPart level 0 (view z) (view b) x s v)
      → IfOk r (λ x. SearchedAll part_at with_part level 0 (view t) (view u) x s v)
  one_ok u b r v f h =
      let first = upto_first level (form (view a)) (view a) (view b) r s v only_open.path only_open.least (one.at_is (view a)) (part_as level 0 a z (view b) r s v g h) in
      let all = upto_all level 1 (form (view a)) (with_part (form (view a)) 0 (view b)) r s v (λ i c. one.only (view a) c i) first in
      rw (e, f, ← one.with_is (view a) (view b)) all

-- ---- two parts

pub record HasTwoParts (form : Tree → Tree → Tree) : Type 0 where
  pub first_is : (a b : Tree) → part_at (form a b) 0 ≡ Some a
  pub second_is : (a b : Tree) → part_at (form a b) 1 ≡ Some b
  pub only : (a b c : Tree) (i : ℕ) → part_at (form a b) i ≡ Some c → i < 2
  pub with_first : (a b v : Tree) → with_part (form a b) 0 v ≡ form v b
  pub with_second : (a b v : Tree) → with_part (form a b) 1 v ≡ form a v

either_only : (a b c : Tree) (i : ℕ) → either_of a b i ≡ Some c → i < 2
either_only a b c zero e = omega arith
either_only a b c (suc zero) e = omega arith
either_only a b c (suc (suc i)) e = absurd cc

pub two_Union : HasTwoParts Union
two_Union = record { first_is = λ a b. refl; second_is = λ a b. refl; only = either_only; with_first = λ a b v. refl; with_second = λ a b v. refl }

pub two_Ext : (k : Kind) → HasTwoParts (Ext k)
two_Ext k = record { first_is = λ a b. refl; second_is = λ a b. refl; only = either_only; with_first = λ a b v. refl; with_second = λ a b v. refl }

pub two_Let : HasTwoParts Let
two_Let = record { first_is = λ a b. refl; second_is = λ a b. refl; only = either_only; with_first = λ a b v. refl; with_second = λ a b v. refl }

module _ (form : Tree → Tree → Tree) (two : HasTwoParts form) (level : ℕ) (t a b z y : Term) (trail : List ℕ) (s : Search) (e : view t ≡ form (view a) (view b)) (g : z ≡ a) (k : y ≡ b) (o : AreOpen part_at level 0 (view t) trail s) where
  first_open : IsOpen level 0 (view a) trail s
  first_open = o.each 0 (view a) (ap (λ x. part_at x 0) e ∙ two.first_is (view a) (view b))

  pub two_open : IsOpen level 0 (view z) trail s
  two_open = open_as level 0 a z trail s g first_open

  module _ (c : Term) (r : Result Bool NoMemory) (v : Search) (h : IfOk r (λ x. SearchedPart level 0 (view z) (view c) x s v)) where
    begun : Upto level 1 (form (view a) (view b)) (form (view c) (view b)) r s v
    begun =
        subst (λ x. Upto level 1 (form (view a) (view b)) x r s v) (two.with_first (view a) (view b) (view c))
        (upto_first level (form (view a) (view b)) (view a) (view c) r s v first_open.path first_open.least (two.first_is (view a) (view b)) (part_as level 0 a z (view c) r s v g h))

    pub two_next : AfterNone r (IsOpen level 1 (view y) trail v)
    two_next =
        next_open_as level 1 b y trail r v k
        (upto_open level 1 (form (view a) (view b)) (form (view c) (view b)) (view b) trail r s v (subst (λ x. AreOpen part_at level 0 x trail s) e o) begun (two.second_is (view a) (view b)))

    pub two_ok : (u d : Term) (q : Result Bool NoMemory) (w : Search) → view u ≡ form (view c) (view d) → IfOk q (Behind r (view y) (view d) v w (λ x. SearchedPart level 1 (view y) (view d) x v w))
        → IfOk q (λ x. SearchedAll part_at with_part level 0 (view t) (view u) x s w)
    two_ok u d q w f l =
        let both = upto_more level 1 (form (view a) (view b)) (form (view c) (view b)) (view b) (view d) r q s v w begun (two.second_is (view c) (view b)) (next_as level 1 b y (view d) r q v w k l) in
        rw (e, f, ← two.with_second (view c) (view b) (view d)) (upto_all level 2 (form (view a) (view b)) (with_part (form (view c) (view b)) 1 (view d)) q s w (λ i x. two.only (view a) (view b) x i) both)

-- ---- conditions

condition_only : (a b c d : Tree) (i : ℕ) → part_at (If a b c) i ≡ Some d → i < 3
condition_only a b c d zero e = omega arith
condition_only a b c d (suc i) e = let l = either_only b c d i e in omega (arith, l)

module _ (level : ℕ) (t a b c z y x : Term) (trail : List ℕ) (s : Search) (e : t ≡ term.If a b c) (g : z ≡ a) (k : y ≡ b) (l : x ≡ c) (o : AreOpen part_at level 0 (view t) trail s) where
  opened_if : AreOpen part_at level 0 (If (view a) (view b) (view c)) trail s
  opened_if = subst (λ n. AreOpen part_at level 0 n trail s) (ap view e ∙ view_If a b c) o

  pub if_open : IsOpen level 0 (view z) trail s
  if_open = open_as level 0 a z trail s g (opened_if.each 0 (view a) refl)

  module _ (p : Term) (r : Result Bool NoMemory) (v : Search) (h : IfOk r (λ n. SearchedPart level 0 (view z) (view p) n s v)) where
    if_begun : Upto level 1 (If (view a) (view b) (view c)) (If (view p) (view b) (view c)) r s v
    if_begun = let first = opened_if.each 0 (view a) refl in upto_first level (If (view a) (view b) (view c)) (view a) (view p) r s v first.path first.least refl (part_as level 0 a z (view p) r s v g h)

    pub if_next : AfterNone r (IsOpen level 1 (view y) trail v)
    if_next = next_open_as level 1 b y trail r v k (upto_open level 1 (If (view a) (view b) (view c)) (If (view p) (view b) (view c)) (view b) trail r s v opened_if if_begun refl)

    module _ (f : Term) (q : Result Bool NoMemory) (w : Search) (i : IfOk q (Behind r (view y) (view f) v w (λ n. SearchedPart level 1 (view y) (view f) n v w))) where
      if_both : Upto level 2 (If (view a) (view b) (view c)) (If (view p) (view f) (view c)) q s w
      if_both = upto_more level 1 (If (view a) (view b) (view c)) (If (view p) (view b) (view c)) (view b) (view f) r q s v w if_begun refl (next_as level 1 b y (view f) r q v w k i)

      pub if_last : AfterNone q (IsOpen level 2 (view x) trail w)
      if_last = next_open_as level 2 c x trail q w l (upto_open level 2 (If (view a) (view b) (view c)) (If (view p) (view f) (view c)) (view c) trail q s w opened_if if_both refl)

      pub if_ok : (u d : Term) (m : Result Bool NoMemory) (n : Search) → u ≡ term.If p f d → IfOk m (Behind q (view x) (view d) w n (λ j. SearchedPart level 2 (view x) (view d) j w n))
          → IfOk m (λ j. SearchedAll part_at with_part level 0 (view t) (view u) j s n)
      if_ok u d m n is j =
          let all = upto_all level 3 (If (view a) (view b) (view c)) (If (view p) (view f) (view d)) m s n (λ i h. condition_only (view a) (view b) (view c) h i)
          (upto_more level 2 (If (view a) (view b) (view c)) (If (view p) (view f) (view c)) (view c) (view d) q m s w n if_both refl (next_as level 2 c x (view d) q m w n l j)) in
          subst (λ h. IfOk m (λ i. SearchedAll part_at with_part level 0 h (view u) i s n)) (sym (ap view e ∙ view_If a b c))
          (subst (λ h. IfOk m (λ i. SearchedAll part_at with_part level 0 (If (view a) (view b) (view c)) h i s n)) (sym (ap view is ∙ view_If p f d)) all)

-- ---- lists of parts behind others

module _ {L : Type 0} (at : L → ℕ → Option Tree) (with : L → ℕ → Tree → L) (form : L → Tree) where
  -- the list has the parts of the term from the number n on, and below m
  pub record IsFrom (n m : ℕ) (ts : L) : Type 0 where
    pub at_is : (i : ℕ) (b : Tree) → at ts i ≡ Some b → part_at (form ts) (n + i) ≡ Some b
    pub with_is : (i : ℕ) (a b : Tree) → at ts i ≡ Some a → with_part (form ts) (n + i) b ≡ form (with ts i b)
    pub at_back : (i : ℕ) (b : Tree) → n ≤ i → i < m → part_at (form ts) i ≡ Some b → at ts (i - n) ≡ Some b
    pub few : (i : ℕ) (b : Tree) → at ts i ≡ Some b → n + i < m

  below_then : (level n m : ℕ) (ts : L) (t : Tree) (calm less : ℕ) → IsFrom n m ts → t ≡ form ts → less ≤ calm → ((i : ℕ) (b : Tree) → i < n → part_at t i ≡ Some b → IsQuiet calm level b)
      → (i : ℕ) (b : Tree) → i < m → part_at t i ≡ Some b → (n ≤ i → at ts (i - n) ≡ Some b → IsQuiet less level b) → IsQuiet less level b
  below_then level n m ts t calm less f e l h i b k g next =
      ⊎_elim (λ j. quieter calm less level b l (h i b j g)) (λ j. next j (f.at_back i b j k (ap (λ x. part_at x i) (sym e) ∙ g))) (cases_lt i n)

  list_passes : (level n m : ℕ) (ts us : L) (t : Tree) (s v w : Search) → IsFrom n m ts → t ≡ form ts → PassesBelow part_at level n t (form ts) s v → PassesAll at level ts us v w → PassesBelow part_at level m t (form us) s w
  list_passes level n m ts us t s v w f e h k = record {
    same = ap form k.same ∙ sym e;
    path = k.path;
    keeps = keeps_both s v w h.keeps k.keeps;
    quiet = λ i b l g. below_then level n m ts t v.allowance.calm w.allowance.calm f e k.keeps.lower h.quiet i b l g (λ j x. k.quiet (i - n) b x);
  }

  list_steps : (level n m : ℕ) (ts us : L) (t : Tree) (s v w : Search) → IsFrom n m ts → t ≡ form ts → PassesBelow part_at level n t (form ts) s v → StepsInOne at with level n ts us v w → StepsInOne part_at with_part level 0 t (form us) s w
  list_steps level n m ts us t s v w f e h k =
      let room : v.allowance.room ≡ s.allowance.room = h.keeps.room in
      let lower : v.allowance.calm ≤ s.allowance.calm = h.keeps.lower in
      let left : w.allowance.room + nodes_of k.after ≡ v.allowance.room + nodes_of k.before = k.step.leaves.room in
      let least : v.allowance.room ≤ w.allowance.calm = k.step.leaves.least in
      let less : w.allowance.calm ≤ v.allowance.calm = k.step.leaves.lower in
      let last = f.few k.index k.before k.stands in
      record {
        index = n + k.index;
        before = k.before;
        after = k.after;
        stands = ap (λ x. part_at x (n + k.index)) e ∙ f.at_is k.index k.before k.stands;
        whole = ap form k.whole ∙ sym (f.with_is k.index k.before k.after k.stands) ∙ ap (λ x. with_part x (n + k.index) k.after) (sym e);
        quiet = λ i b l g. below_then level n m ts t v.allowance.calm w.allowance.calm f e less h.quiet i b (omega (arith, l, last)) g (λ j x. k.quiet (i - n) b (omega (arith, j, l)) x);
        step = record {
          leads = subst (λ x. Leads x level k.before k.after) room k.step.leads;
          leaves = record { room = omega (arith, left, room); least = omega (arith, least, room); lower = omega (arith, lower, less) };
          trail = k.step.trail;
          path = k.step.path ∙ ap (λ m. m ∷ k.step.trail) (omega arith);
          settled = k.step.settled;
          along = k.step.along;
        };
      }

  pub list_upto : (level n m : ℕ) (ts us : L) (t u : Tree) (r q : Result Bool NoMemory) (s v w : Search) → IsFrom n m ts → u ≡ form ts → Upto level n t u r s v
      → IfOk q (Behind r ts us v w (λ x. SearchedAll at with level n ts us x v w)) → Upto level m t (form us) q s w
  list_upto level n m ts us t u r (Err x) s v w f e h k = tt
  list_upto level n m ts us t u (Err y) (Ok x) s v w f e h k = absurd k
  list_upto level n m ts us t u (Ok true) (Ok false) s v w f e h k = absurd (true≢false (sym k.0))
  list_upto level n m ts us t u (Ok true) (Ok true) s v w f e h k = subst (λ z. Upto level m t z (Ok true) s w) (e ∙ ap form (sym k.1)) (subst (λ z. Upto level m t u (Ok true) s z) (sym k.2) h)
  list_upto level n m ts us t u (Ok false) (Ok true) s v w f e h k = list_steps level n m ts us t s v w f (sym h.same ∙ e) (subst (λ z. PassesBelow part_at level n t z s v) e h) k
  list_upto level n m ts us t u (Ok false) (Ok false) s v w f e h k = list_passes level n m ts us t s v w f (sym h.same ∙ e) (subst (λ z. PassesBelow part_at level n t z s v) e h) k

  pub list_open : (level n m : ℕ) (ts : L) (t u : Tree) (trail : List ℕ) (r : Result Bool NoMemory) (s v : Search) → IsFrom n m ts → t ≡ form ts → AreOpen part_at level 0 t trail s → Upto level n t u r s v
      → AfterNone r (AreOpen at level n ts trail v)
  list_open level n m ts t u trail (Ok true) s v f e o h = tt
  list_open level n m ts t u trail (Ok false) s v f e o h = record {
    least = subst (λ r. r ≤ v.allowance.calm) (sym h.keeps.room) h.keeps.least;
    path = h.path;
    each = λ i b g. open_still level (n + i) b trail s v h.keeps h.path (subst (λ m. IsOpen level m b trail s) (omega arith) (o.each (n + i) b (ap (λ x. part_at x (n + i)) e ∙ f.at_is i b g)));
  }
  list_open level n m ts t u trail (Err x) s v f e o h = tt

-- ---- cases

-- the branches before what stands behind `otherwise`
abbrev armed : Parts → Arms → Arms
armed no_parts last = last
armed (parts l t ps) last = arm l t (armed ps last)

abbrev many : Parts → ℕ
many no_parts = 0
many (parts l t ps) = suc (many ps)

armed_is : (ps : List (Name × Tree)) (last : Arms) → arms_of ps last ≡ armed (parts_of ps) last
armed_is [] last = refl
armed_is (p ∷ ps) last = ap (arm p.0 p.1) (armed_is ps last)

many_is : (ps : List (Name × Term)) → many (parts_view ps) ≡ length ps
many_is [] = refl
many_is (p ∷ ps) = ap suc (many_is ps)

branch_at : (ps : Parts) (last : Arms) (i : ℕ) (b : Tree) → field_at ps i ≡ Some b → arm_at (armed ps last) i ≡ Some b
branch_at no_parts last i b e = absurd cc
branch_at (parts l t ps) last zero b e = e
branch_at (parts l t ps) last (suc i) b e = branch_at ps last i b e

branch_with : (ps : Parts) (last : Arms) (i : ℕ) (a b : Tree) → field_at ps i ≡ Some a → with_arm (armed ps last) i b ≡ armed (with_field ps i b) last
branch_with no_parts last i a b e = absurd cc
branch_with (parts l t ps) last zero a b e = refl
branch_with (parts l t ps) last (suc i) a b e = ap (arm l t) (branch_with ps last i a b e)

branch_back : (ps : Parts) (last : Arms) (i : ℕ) (b : Tree) → i < many ps → arm_at (armed ps last) i ≡ Some b → field_at ps i ≡ Some b
branch_back no_parts last i b l e = absurd (omega (arith, l))
branch_back (parts l t ps) last zero b k e = e
branch_back (parts l t ps) last (suc i) b k e = branch_back ps last i b (omega (arith, k)) e

branch_few : (ps : Parts) (i : ℕ) (b : Tree) → field_at ps i ≡ Some b → i < many ps
branch_few no_parts i b e = absurd cc
branch_few (parts l t ps) zero b e = omega arith
branch_few (parts l t ps) (suc i) b e = omega (arith, branch_few ps i b e)

same_many : (ps : Parts) (i : ℕ) (b : Tree) → many (with_field ps i b) ≡ many ps
same_many no_parts i b = refl
same_many (parts l t ps) zero b = refl
same_many (parts l t ps) (suc i) b = ap suc (same_many ps i b)

abbrev past : ℕ → ℕ → ℕ
past zero i = i
past (suc n) i = suc (past n i)

past_is : (n i : ℕ) → past n i ≡ n + i
past_is zero i = omega arith
past_is (suc n) i = omega (arith, past_is n i)

other_at : (ps : Parts) (last : Arms) (i : ℕ) → arm_at (armed ps last) (past (many ps) i) ≡ arm_at last i
other_at no_parts last i = refl
other_at (parts l t ps) last i = other_at ps last i

other_with : (ps : Parts) (last : Arms) (i : ℕ) (a b : Tree) → arm_at last i ≡ Some a → with_arm (armed ps last) (past (many ps) i) b ≡ armed ps (with_arm last i b)
other_with no_parts last i a b e = refl
other_with (parts l t ps) last i a b e = ap (arm l t) (other_with ps last i a b e)

one_other : (o : Option Tree) (i : ℕ) (b : Tree) → arm_at (rest_of o) i ≡ Some b → i < 1
one_other None i b e = absurd cc
one_other (Some c) zero b e = omega arith
one_other (Some c) (suc i) b e = absurd cc

arms_few : (ps : Parts) (o : Option Tree) (i : ℕ) (b : Tree) → arm_at (armed ps (rest_of o)) i ≡ Some b → i < suc (many ps)
arms_few no_parts o i b e = one_other o i b e
arms_few (parts l t ps) o zero b e = omega arith
arms_few (parts l t ps) o (suc i) b e = omega (arith, arms_few ps o i b e)

branches_from : (a : Tree) (ps : Parts) (last : Arms) → IsFrom field_at with_field (λ qs. Case a (armed qs last)) 1 (suc (many ps)) ps
branches_from a ps last = record {
  at_is = λ i b e. subst (λ j. part_at (Case a (armed ps last)) j ≡ Some b) (past_is 1 i) (branch_at ps last i b e);
  with_is = λ i x b e. subst (λ j. with_part (Case a (armed ps last)) j b ≡ Case a (armed (with_field ps i b) last)) (past_is 1 i) (ap (Case a) (branch_with ps last i x b e));
  at_back = back;
  few = λ i b e. omega (arith, branch_few ps i b e);
}
  where
    back : (i : ℕ) (b : Tree) → 1 ≤ i → i < suc (many ps) → part_at (Case a (armed ps last)) i ≡ Some b → field_at ps (i - 1) ≡ Some b
    back zero b l k e = absurd (omega (arith, l))
    back (suc i) b l k e = subst (λ j. field_at ps j ≡ Some b) (omega arith) (branch_back ps last i b (omega (arith, k)) e)

other_from : (a : Tree) (ps : Parts) (o : Option Tree) → IsFrom arm_at with_arm (λ z. Case a (armed ps z)) (suc (many ps)) (suc (suc (many ps))) (rest_of o)
other_from a ps o = record {
  at_is = λ i b e. subst (λ j. part_at (Case a (armed ps (rest_of o))) j ≡ Some b) (past_is (suc (many ps)) i) (other_at ps (rest_of o) i ∙ e);
  with_is = λ i x b e.
      subst (λ j. with_part (Case a (armed ps (rest_of o))) j b ≡ Case a (armed ps (with_arm (rest_of o) i b))) (past_is (suc (many ps)) i) (ap (Case a) (other_with ps (rest_of o) i x b e));
  at_back = back;
  few = λ i b e. omega (arith, one_other o i b e);
}
  where
    back : (i : ℕ) (b : Tree) → suc (many ps) ≤ i → i < suc (suc (many ps)) → part_at (Case a (armed ps (rest_of o))) i ≡ Some b → arm_at (rest_of o) (i - suc (many ps)) ≡ Some b
    back i b l k e =
        let number : i ≡ suc (past (many ps) 0) = omega (arith, l, k, past_is (many ps) 0) in
        let none : 0 ≡ i - suc (many ps) = omega (arith, l, k) in
        subst (λ j. arm_at (rest_of o) j ≡ Some b) none (sym (other_at ps (rest_of o) 0) ∙ subst (λ j. part_at (Case a (armed ps (rest_of o))) j ≡ Some b) number e)

module _ (level : ℕ) (a x : Tree) (ps : Parts) (o : Option Tree) (trail : List ℕ) (r : Result Bool NoMemory) (s v : Search) (given : AreOpen part_at level 0 (Case a (armed ps (rest_of o))) trail s)
    (h : IfOk r (λ z. SearchedPart level 0 a x z s v)) where
  case_begun : Upto level 1 (Case a (armed ps (rest_of o))) (Case x (armed ps (rest_of o))) r s v
  case_begun = let first = given.each 0 a refl in upto_first level (Case a (armed ps (rest_of o))) a x r s v first.path first.least refl h

  branches_open : AfterNone r (AreOpen field_at level 1 ps trail v)
  branches_open = list_open field_at with_field (λ qs. Case a (armed qs (rest_of o))) level 1 (suc (many ps)) ps _ _ trail r s v (branches_from a ps (rest_of o)) refl given case_begun

  module _ (qs : Parts) (q : Result Bool NoMemory) (w : Search) (k : IfOk q (Behind r ps qs v w (λ z. SearchedAll field_at with_field level 1 ps qs z v w))) where
    case_further : Upto level (suc (many ps)) (Case a (armed ps (rest_of o))) (Case x (armed qs (rest_of o))) q s w
    case_further = list_upto field_at with_field (λ qs. Case x (armed qs (rest_of o))) level 1 (suc (many ps)) ps qs _ _ r q s v w (branches_from x ps (rest_of o)) refl case_begun k

    other_open : AfterNone q (AreOpen arm_at level (suc (many ps)) (rest_of o) trail w)
    other_open = list_open arm_at with_arm (λ z. Case a (armed ps z)) level (suc (many ps)) (suc (suc (many ps))) (rest_of o) _ _ trail q s w (other_from a ps o) refl given case_further

case_many : (level : ℕ) (ps qs : Parts) (r : Result Bool NoMemory) (b : Bool) (v w : Search) → Behind r ps qs v w (λ z. SearchedAll field_at with_field level 1 ps qs z v w) b → many qs ≡ many ps
case_many level ps qs (Ok true) b v w k = ap many k.1
case_many level ps qs (Ok false) true v w k = ap many k.whole ∙ same_many ps k.index k.after
case_many level ps qs (Ok false) false v w k = ap many k.same
case_many level ps qs (Err e) b v w k = absurd k

case_whole : (level : ℕ) (a x : Tree) (ps qs : Parts) (o d : Option Tree) (trail : List ℕ) (r q p : Result Bool NoMemory) (s v w n : Search) → AreOpen part_at level 0 (Case a (armed ps (rest_of o))) trail s
    → IfOk r (λ z. SearchedPart level 0 a x z s v) → IfOk q (Behind r ps qs v w (λ z. SearchedAll field_at with_field level 1 ps qs z v w))
    → IfOk p (Behind q (rest_of o) (rest_of d) w n (λ z. SearchedAll arm_at with_arm level (suc (many ps)) (rest_of o) (rest_of d) z w n))
    → IfOk p (λ z. SearchedAll part_at with_part level 0 (Case a (armed ps (rest_of o))) (Case x (armed qs (rest_of d))) z s n)
case_whole level a x ps qs o d trail r q (Err e) s v w n given h k l = tt
case_whole level a x ps qs o d trail r (Err e) (Ok b) s v w n given h k l = absurd l
case_whole level a x ps qs o d trail r (Ok c) (Ok b) s v w n given h k l =
    let count : many qs ≡ many ps = case_many level ps qs r c v w k in
    let further = subst (λ m. Upto level (suc m) (Case a (armed ps (rest_of o))) (Case x (armed qs (rest_of o))) (Ok c) s w) (sym count) (case_further level a x ps o trail r s v given h qs (Ok c) w k) in
    let all = list_upto arm_at with_arm (λ z. Case x (armed qs z)) level (suc (many qs)) (suc (suc (many qs))) (rest_of o) (rest_of d) _ _ (Ok c) (Ok b) s w n (other_from x qs o) refl further
    (subst (λ m. Behind (Ok c) (rest_of o) (rest_of d) w n (λ z. SearchedAll arm_at with_arm level (suc m) (rest_of o) (rest_of d) z w n) b) (sym count) l) in
    upto_all level (suc (suc (many qs))) _ _ (Ok b) s n few all
  where
    few : (i : ℕ) (y : Tree) → part_at (Case a (armed ps (rest_of o))) i ≡ Some y → i < suc (suc (many qs))
    few zero y e = omega arith
    few (suc i) y e = omega (arith, case_many level ps qs r c v w k, arms_few ps o i y e)

-- ---- as the code has them

case_view : (t a : Term) (ps : List (Name × Term)) (c : Option Term) → t ≡ term.Case a ps c → view t ≡ Case (view a) (armed (parts_view ps) (rest_of (view_option c)))
case_view t a ps c e = ap view e ∙ view_Case a ps c ∙ ap (Case (view a)) (armed_is (map view_part ps) (rest_of (view_option c)))

module _ (level : ℕ) (t a z : Term) (ps rs : List (Name × Term)) (c o : Option Term) (trail : List ℕ) (s : Search) (e : t ≡ term.Case a ps c) (g : z ≡ a) (f : rs ≡ ps) (i : o ≡ c) (ready : AreOpen part_at level 0 (view t) trail s) where
  opened_case : AreOpen part_at level 0 (Case (view a) (armed (parts_view ps) (rest_of (view_option c)))) trail s
  opened_case = subst (λ y. AreOpen part_at level 0 y trail s) (case_view t a ps c e) ready

  pub case_open : IsOpen level 0 (view z) trail s
  case_open = open_as level 0 a z trail s g (opened_case.each 0 (view a) refl)

  module _ (x : Term) (r : Result Bool NoMemory) (v : Search) (h : IfOk r (λ j. SearchedPart level 0 (view z) (view x) j s v)) where
    subject : IfOk r (λ j. SearchedPart level 0 (view a) (view x) j s v)
    subject = part_as level 0 a z (view x) r s v g h

    pub case_branches : AfterNone r (AreOpen field_at level 1 (parts_view rs) trail v)
    case_branches = subst (λ (y : List (Name × Term)). AfterNone r (AreOpen field_at level 1 (parts_view y) trail v)) (sym f) (branches_open level (view a) (view x) (parts_view ps) (view_option c) trail r s v opened_case subject)

    module _ (qs : List (Name × Term)) (q : Result Bool NoMemory) (w : Search) (k : IfOk q (Behind r (parts_view rs) (parts_view qs) v w (λ j. SearchedAll field_at with_field level 1 (parts_view rs) (parts_view qs) j v w)))
        (number : ℕ) (count : number ≡ length rs + 1) where
      branched : IfOk q (Behind r (parts_view ps) (parts_view qs) v w (λ j. SearchedAll field_at with_field level 1 (parts_view ps) (parts_view qs) j v w))
      branched = subst (λ (y : List (Name × Term)). IfOk q (Behind r (parts_view y) (parts_view qs) v w (λ j. SearchedAll field_at with_field level 1 (parts_view y) (parts_view qs) j v w))) f k

      counted : suc (many (parts_view ps)) ≡ number
      counted = omega (arith, many_is ps, count, ap length f)

      pub case_other : AfterNone q (AreOpen arm_at level number (rest_of (view_option o)) trail w)
      case_other =
          subst (λ (y : Option Term). AfterNone q (AreOpen arm_at level number (rest_of (view_option y)) trail w)) (sym i)
          (subst (λ m. AfterNone q (AreOpen arm_at level m (rest_of (view_option c)) trail w)) counted (other_open level (view a) (view x) (parts_view ps) (view_option c) trail r s v opened_case subject (parts_view qs) q w branched))

      pub case_ok : (u : Term) (d : Option Term) (p : Result Bool NoMemory) (n : Search) → u ≡ term.Case x qs d
          → IfOk p (Behind q (rest_of (view_option o)) (rest_of (view_option d)) w n (λ j. SearchedAll arm_at with_arm level number (rest_of (view_option o)) (rest_of (view_option d)) j w n))
          → IfOk p (λ j. SearchedAll part_at with_part level 0 (view t) (view u) j s n)
      case_ok u d p n is l =
          let other = subst (λ (y : Option Term). IfOk p (Behind q (rest_of (view_option y)) (rest_of (view_option d)) w n (λ j. SearchedAll arm_at with_arm level number (rest_of (view_option y)) (rest_of (view_option d)) j w n))) i l in
          let all = case_whole level (view a) (view x) (parts_view ps) (parts_view qs) (view_option c) (view_option d) trail r q p s v w n opened_case subject branched
          (subst (λ m. IfOk p (Behind q (rest_of (view_option c)) (rest_of (view_option d)) w n (λ j. SearchedAll arm_at with_arm level m (rest_of (view_option c)) (rest_of (view_option d)) j w n))) (sym counted) other) in
          subst (λ y. IfOk p (λ j. SearchedAll part_at with_part level 0 y (view u) j s n)) (sym (case_view t a ps c e))
          (subst (λ y. IfOk p (λ j. SearchedAll part_at with_part level 0 (Case (view a) (armed (parts_view ps) (rest_of (view_option c)))) y j s n)) (sym (case_view u x qs d is)) all)

-- what stands behind `otherwise`

module _ (level number : ℕ) (o : Option Term) (a z : Term) (trail : List ℕ) (r : Result Bool NoMemory) (s : Search) (e : o ≡ Some a) (g : z ≡ a) (f : r ≡ Ok false) (ready : AfterNone r (AreOpen arm_at level number (rest_of (view_option o)) trail s)) where
  rest_ready : AreOpen arm_at level number (rest (view a)) trail s
  rest_ready = subst (λ (y : Option Term). AreOpen arm_at level number (rest_of (view_option y)) trail s) e (subst (λ q. AfterNone q (AreOpen arm_at level number (rest_of (view_option o)) trail s)) f ready)

  rest_here : IsOpen level number (view a) trail s
  rest_here = subst (λ n. IsOpen level n (view a) trail s) (omega arith) (rest_ready.each 0 (view a) refl)

  pub rest_open : IsOpen level number (view z) trail s
  rest_open = open_as level number a z trail s g rest_here

  rest_searched : (b : Tree) (x : Bool) (v : Search) → SearchedPart level number (view a) b x s v → SearchedAll arm_at with_arm level number (rest (view a)) (rest b) x s v
  rest_searched b true v h =
      one_steps arm_at with_arm level number 0 (rest (view a)) (rest (view a)) (rest b) (view a) b s s v (none_passed arm_at level (rest (view a)) s rest_here.path rest_here.least) refl refl
      (subst (λ n. StepsInPart level n (view a) b s v) (omega arith) h)
  rest_searched b false v h = record { same = ap rest h.same; path = h.path; keeps = h.keeps; quiet = quiet }
    where
      quiet : (i : ℕ) (y : Tree) → arm_at (rest (view a)) i ≡ Some y → IsQuiet v.allowance.calm level y
      quiet zero y k = subst (IsQuiet v.allowance.calm level) (same_Some (view a) y k) h.quiet
      quiet (suc i) y k = absurd cc

  pub rest_ok : (b : Tree) (u : Arms) (q : Result Bool NoMemory) (v : Search) → u ≡ rest b → IfOk q (λ x. SearchedPart level number (view z) b x s v)
      → IfOk q (Behind r (rest_of (view_option o)) u s v (λ x. SearchedAll arm_at with_arm level number (rest_of (view_option o)) u x s v))
  rest_ok b u (Ok x) v is h =
      rw (f, e, is) (rest_searched b x v (subst (λ (y : Term). SearchedPart level number (view y) b x s v) g h))
  rest_ok b u (Err x) v is h = tt

pub no_rest : (level number : ℕ) (o p : Option Term) (r : Result Bool NoMemory) (trail : List ℕ) (s : Search) → o ≡ None → r ≡ Ok false → p ≡ None → AfterNone r (AreOpen arm_at level number (rest_of (view_option o)) trail s)
    → Behind r (rest_of (view_option o)) (rest_of (view_option p)) s s (λ x. SearchedAll arm_at with_arm level number (rest_of (view_option o)) (rest_of (view_option p)) x s s) false
no_rest level number o p r trail s e f g ready =
    let here = subst (λ q. AfterNone q (AreOpen arm_at level number (rest_of (view_option o)) trail s)) f ready in
    rw (e, f, g) (record { same = refl; path = here.path; keeps = record { room = refl; least = here.least; lower = omega arith }; quiet = λ i b h. absurd cc })
