-- One part of a list after another.
use Rattle.std.proofs.Common.{◌≡◌, ℕ, ◌+◌, ◌<◌, ◌≤◌, List, [], ◌∷◌, ◌++◌, length, map, drop, get_or, slice_index_or, Result, Ok, Err, refl, sym, ap, ◌∙◌, subst, add-one}
use Rattle.std.specs.Prelude.{MatchResult}
use Rattle.std.proofs.Math.Seq.{drop-cons}
use Rattle.std.proofs.lemmas.List.{drop_all}
use Rattle.kl_value.specs.declared.Kind.{Kind}
use Rattle.kl_type.specs.Ground.{Ground, bool, coll as colls, IsGround}
use Rattle.kl_rows.specs.Lists.{Fields}
use Rattle.kl_rows.specs.Places.{a_type, IsFine, IsType}
use Rattle.kl_rows.proofs.CellLists.{sort_within}
use Rattle.kl_rows.specs.Solutions.{Assignment, Solves}
use Rattle.kl_rows.proofs.Advancing.{Fact, keeps_refl, keeps_on, types_keep}
use Rattle.kl_forms.specs.Forms.{DrawnFrom, FieldOf, Operates}
use Rattle.kl_outcome.specs.Outcome.{Name}
use Rattle.kl_syntax.specs.declared.tree.Op.{Op}
use Rattle.kl_syntax.specs.declared.tree.Word.{Word}
use Rattle.kl_syntax.specs.Syntax.{Pat, Pats, pats, Exp, Exps, exps, Quals, no_quals, draw, test, Branches, no_branches, branch, Steps, step}
use Rattle.kl_meaning.specs.Typing.{Sort, Context, NameTypes, Takes, OpTypes, PathTypes, Types, AllTypes, EachType, QualTypes, StepTypes}
use Rattle.kl_infer.specs.Asking.{Leaves, Asks, Refuses, Asked, Gets, Binds, Bound, Binding, context, onto}
use Rattle.kl_infer.specs.Names.{Ready, sorts, ArmsTake, TakesAll}
use Rattle.kl_infer.specs.declared.refusal.Refusal.{Refusal}
use Rattle.kl_infer.specs.declared.scope.Known.{Known}
use Rattle.kl_rows.specs.declared.cell.Cell.{Cell}
use Rattle.kl_outcome.proofs.Grounds.{at_ground}
use Rattle.kl_meaning.proofs.Grounds.{op_ground}
use Rattle.kl_infer.proofs.Leaving.{Leads, begins, restated, goes_on, leads_on, beside, binds, opens, opens_none, ready_on, ready_for, ready_tail, said}
use Rattle.kl_infer.proofs.Forms.{T, first, second, third, ground_of_type, ready_after}
use Rattle.kl_infer.proofs.PatternForms.{Outside, refuses_each, bound_told, tests_only, binds_at, binds_by, onto_append, types_append}
use Rattle.kl_base.proofs.Places.{drop_at}

-- a number of a list, and those behind it
pub at_number : (ws : List ℕ) (n : ℕ) → n < length ws → drop n ws ≡ slice_index_or ws n 0 ∷ drop (n + 1) ws
at_number ws n lt = rw add-one (drop-cons ws n 0 lt)

-- nothing is left to ask
pub ends : (a b : List Cell) (D R : Fact) → ((s : Assignment) → R s) → Leaves a b D R → Asks a b D
ends a b D R r f = goes_on a b b D R (λ s. Unit {0}) f (restated b R (λ s. Unit {0}) f.fine (λ s h. tt) (λ s q h. r s))

-- what is left, in other words
onward : (a b : List Cell) (D R E : Fact) → ((s : Assignment) → R s → E s) → ((s : Assignment) → Solves b s → E s → R s) → Leaves a b D R → Leaves a b D E
onward a b D R E go come f = goes_on a b b D R E f (restated b R E f.fine go come)

head_same : {A : Type 0} (t u : A) (ts us : List A) → t ∷ ts ≡ u ∷ us → t ≡ u
head_same t u ts us e = cc

tail_same : {A : Type 0} (t u : A) (ts us : List A) → t ∷ ts ≡ u ∷ us → ts ≡ us
tail_same t u ts us e = cc

abbrev behind : List Ground → List Ground
behind [] = []
behind (t ∷ ts) = ts

module _ (k : Known) (ns : Fields) (r : Result (Unit {0}) Refusal) (a0 a b : List Cell) (D : Fact) where
  pub all_next : (e : Exp) (es : Exps) (i : ℕ) (is : List ℕ) → Ready k a ns (i ∷ is) → Leaves a0 a D (λ s. AllTypes (exps e es) (sorts k) (context s ns) (map s.types (i ∷ is)))
      → Asked r a b (T k ns e i) → Leads r a0 b D (λ s. AllTypes es (sorts k) (context s ns) (map s.types is))
  all_next e es i is y f g =
      leads_on r a0 a b D _ _
      (onward a0 a D _ (λ s. T k ns e i s × AllTypes es (sorts k) (context s ns) (map s.types is))
      (λ s h. (subst (λ (t : Ground). Types e (sorts k) (context s ns) t) (sym (head_same _ _ _ _ h.2)) h.3, subst (λ (ts : List Ground). AllTypes es (sorts k) (context s ns) ts) (sym (tail_same _ _ _ _ h.2)) h.4))
      (λ s q h. (s.types i, map s.types is, refl, h.0, h.1)) f)
      (beside r a b (T k ns e i) (λ s. AllTypes es (sorts k) (context s ns) (map s.types is)) (said k a ns is (λ G ts. AllTypes es (sorts k) G ts) (ready_tail k a ns i is y)) g)

  pub each_next : (e : Exp) (es : Exps) (i : ℕ) → Ready k a ns (i ∷ []) → Leaves a0 a D (λ s. EachType (exps e es) (sorts k) (context s ns) (s.types i))
      → Asked r a b (T k ns e i) → Leads r a0 b D (λ s. EachType es (sorts k) (context s ns) (s.types i))
  each_next e es i y f g =
      leads_on r a0 a b D _ _ f
      (beside r a b (T k ns e i) (λ s. EachType es (sorts k) (context s ns) (s.types i)) (said k a ns (i ∷ []) (λ G ts. EachType es (sorts k) G (first ts)) y) g)

  pub arms_next : (l : Word) (q : Pat) (e : Exp) (bs : Branches) (i w : ℕ) (is : List ℕ) → Ready k a ns (w ∷ i ∷ is)
      → Leaves a0 a D (λ s. ArmsTake (branch l q e bs) (sorts k) (context s ns) (map s.types (i ∷ is)) (s.types w))
      → Asked r a b (λ s. ArmsTake (branch l q e no_branches) (sorts k) (context s ns) (s.types i ∷ []) (s.types w)) → Leads r a0 b D (λ s. ArmsTake bs (sorts k) (context s ns) (map s.types is) (s.types w))
  arms_next l q e bs i w is y f g =
      leads_on r a0 a b D _ _
      (onward a0 a D _ (λ s. ArmsTake (branch l q e no_branches) (sorts k) (context s ns) (s.types i ∷ []) (s.types w) × ArmsTake bs (sorts k) (context s ns) (map s.types is) (s.types w))
      (λ s h. ((h.0, h.1, h.2, tt), h.3)) (λ s z h. (h.0.0, h.0.1, h.0.2, h.1)) f)
      (beside r a b _ (λ s. ArmsTake bs (sorts k) (context s ns) (map s.types is) (s.types w)) (said k a ns (w ∷ is) (λ G ts. ArmsTake bs (sorts k) G (behind ts) (first ts)) (ready_for k a ns (w ∷ i ∷ is) (w ∷ is) (y.wants.0, y.wants.1.1) y)) g)

module _ (a0 a : List Cell) (D : Fact) (l : Word) (ls : List Word) (t w : ℕ) (there : IsType a w) (f : Leaves a0 a D (λ s. PathTypes (l ∷ ls) (s.types t) (s.types w))) where
  path_seen : Leaves a0 a D (λ s. (u : Ground) × IsGround u × FieldOf l.text t u s × PathTypes ls u (s.types w))
  path_seen = onward a0 a D _ _
      (λ s h. (h.1, at_ground l.text h.0 h.1 (subst IsGround h.2 (s.types_ground t)) h.3, (h.0, h.2, h.3), h.4))
      (λ s z h. (h.2.0, h.0, h.2.1, h.2.2, h.3)) f

  pub path_refused : (e : Refusal) → Refuses a (λ s. (u : Ground) × IsGround u × FieldOf l.text t u s) e → Refuses a0 D e
  path_refused e g = leads_on (Err e) a0 a a D _ (λ s. Unit {0}) path_seen (opens_none a (FieldOf l.text t) (λ u s. PathTypes ls u (s.types w)) e g)

  pub path_next : (b : List Cell) (i : ℕ) → Gets a b i (FieldOf l.text t) → Leaves a0 b D (λ s. PathTypes ls (s.types i) (s.types w))
  path_next b i g = goes_on a0 a b D _ _ path_seen
      (opens a b i (FieldOf l.text t) (λ u s. PathTypes ls u (s.types w)) (λ u s v ag d. subst (λ (x : Ground). PathTypes ls u x) (sym (ag.types w (sort_within a w a_type there))) d) g)

module _ (k : Known) (ns : Fields) (a0 a b : List Cell) (D : Fact) (o : Op) (e : Exp) (ss : Steps) (t w u : ℕ) (ready : Ready k a ns (t ∷ w ∷ [])) (f : Leaves a0 a D (λ s. StepTypes (step o e ss) (sorts k) (context s ns) (s.types t) (s.types w)))
    (g : Gets a b u (λ x s. Unit {0})) where
  abbrev Operated : Context → Ground → Ground → Ground → Type 0
  Operated G x y z = (v : Ground) × IsGround v × OpTypes o x y v × StepTypes ss (sorts k) G v z

  step_ready : Ready k b ns (u ∷ t ∷ w ∷ [])
  step_ready = ready_after k ns a (t ∷ w ∷ []) ready b u (λ x s. Unit {0}) g

  step_seen : Leaves a0 b D (λ s. T k ns e u s × Operated (context s ns) (s.types t) (s.types u) (s.types w))
  step_seen =
      goes_on a0 a b D _ _
      (onward a0 a D _ (λ s. (x : Ground) × IsGround x × Unit {0} × (Types e (sorts k) (context s ns) x × Operated (context s ns) (s.types t) x (s.types w)))
      (λ s z. let gx = ground_of_type k ns a (t ∷ w ∷ []) ready e s z.0 z.2 in (z.0, gx, tt, (z.2, (z.1, op_ground o (s.types t) z.0 z.1 (s.types_ground t) gx z.3, z.3, z.4))))
      (λ s q z. let v = z.3.1 in (z.0, v.0, z.3.0, v.2, v.3)) f)
      (opens a b u (λ x s. Unit {0}) (λ x s. Types e (sorts k) (context s ns) x × Operated (context s ns) (s.types t) x (s.types w))
      (λ x. said k a ns (t ∷ w ∷ []) (λ G ts. Types e (sorts k) G x × Operated G (first ts) x (second ts)) ready) g)

  pub step_checked : (r : Result (Unit {0}) Refusal) (c : List Cell) → Asked r b c (T k ns e u) → Leads r a0 c D (λ s. Operated (context s ns) (s.types t) (s.types u) (s.types w))
  step_checked r c h = leads_on r a0 b c D _ _ step_seen
      (beside r b c (T k ns e u) (λ s. Operated (context s ns) (s.types t) (s.types u) (s.types w)) (said k b ns (u ∷ t ∷ w ∷ []) (λ G ts. Operated G (second ts) (first ts) (third ts)) step_ready) h)

  module _ (c : List Cell) (h : Asks b c (T k ns e u)) where
    pub step_refused : (x : Refusal) → Refuses c (λ s. (v : Ground) × IsGround v × Operates o t u v s) x → Refuses a0 D x
    step_refused x m = leads_on (Err x) a0 c c D _ (λ s. Unit {0}) (step_checked (Ok tt) c h) (opens_none c (Operates o t u) (λ y s. StepTypes ss (sorts k) (context s ns) y (s.types w)) x m)

    pub steps_next : (d : List Cell) (i : ℕ) → Gets c d i (Operates o t u) → Leaves a0 d D (λ s. StepTypes ss (sorts k) (context s ns) (s.types i) (s.types w))
    steps_next d i m = goes_on a0 c d D _ _ (step_checked (Ok tt) c h)
        (opens c d i (Operates o t u) (λ y s. StepTypes ss (sorts k) (context s ns) y (s.types w)) (λ y. said k c ns (u ∷ t ∷ w ∷ []) (λ G ts. StepTypes ss (sorts k) G y (third ts)) (ready_on k b c ns (u ∷ t ∷ w ∷ []) h.fine h.keeps step_ready)) m)

-- ---- variables of lists

-- what comes of a step on the way
abbrev pub BindingLeads : Result (Unit {0}) Refusal → List Cell → List Cell → Fields → Fields → Fields → (Assignment → Context → Context → Type 0) → (Assignment → Context → Context → Type 0) → Type 0
BindingLeads r a b bs cs ns D R = MatchResult r (λ u. Binding a b bs cs ns D R) (Refuses a (λ s. (H : Context) × D s (context s (onto bs ns)) H))

carried : (r : Result (Unit {0}) Refusal) (a0 a b : List Cell) (bs0 bs cs ns : Fields) (D R E S : Assignment → Context → Context → Type 0) → Binding a0 a bs0 bs ns D R → Bound r a b bs cs ns E
    → ((H : Context) → Leads r a b (λ s. R s (context s (onto bs ns)) H) (λ s. S s (context s (onto cs ns)) H)) → BindingLeads r a0 b bs0 cs ns D S
carried (Ok u) a0 a b bs0 bs cs ns D R E S f g h = record {
  fine = g.fine;
  keeps = keeps_on a0 a b f.keeps g.keeps;
  sorts = λ q. g.sorts (f.sorts q);
  leaves = λ H. goes_on a0 a b _ _ _ (f.leaves H) (h H);
}
carried (Err e) a0 a b bs0 bs cs ns D R E S f g h = refuses_each a0 (λ s. D s (context s (onto bs0 ns))) e (λ H. leads_on (Err e) a0 a b _ _ (λ s. S s (context s (onto cs ns)) H) (f.leaves H) (h H))

module _ (k : Known) (ns : Fields) (r : Result (Unit {0}) Refusal) (a0 a b : List Cell) (bs0 bs cs : Fields) (D : Assignment → Context → Context → Type 0) where
  pub takes_next : (l : Word) (q : Pat) (ps : Pats) (i : ℕ) (is : List ℕ) → Ready k a ns (i ∷ is)
      → Binding a0 a bs0 bs ns D (λ s. TakesAll (pats l q ps) (Outside k ns s) (map s.types (i ∷ is)))
      → Bound r a b bs cs ns (λ s. Takes q (Outside k ns s) (s.types i)) → BindingLeads r a0 b bs0 cs ns D (λ s. TakesAll ps (Outside k ns s) (map s.types is))
  takes_next l q ps i is y f g = carried r a0 a b bs0 bs cs ns D (λ s. TakesAll (pats l q ps) (Outside k ns s) (map s.types (i ∷ is))) (λ s. Takes q (Outside k ns s) (s.types i)) (λ s. TakesAll ps (Outside k ns s) (map s.types is)) f g
      (λ H. binds r a b bs cs ns (λ s. Takes q (Outside k ns s) (s.types i)) (λ M s. TakesAll ps (Outside k ns s) (map s.types is) M H)
      (λ M. said k a ns is (λ G ts. TakesAll ps (NameTypes (sorts k) G) ts M H) (ready_tail k a ns i is y)) g)

  -- a qualifier that asks this of the context before it and of that behind it
  pub quals_next : (one : Quals) (qs all : Quals) → ((G H : Context) → QualTypes all (sorts k) G H → (M : Context) × QualTypes one (sorts k) G M × QualTypes qs (sorts k) M H)
      → ((G M H : Context) → QualTypes one (sorts k) G M → QualTypes qs (sorts k) M H → QualTypes all (sorts k) G H)
      → Binding a0 a bs0 bs ns D (λ s. QualTypes all (sorts k)) → Bound r a b bs cs ns (λ s. QualTypes one (sorts k)) → BindingLeads r a0 b bs0 cs ns D (λ s. QualTypes qs (sorts k))
  quals_next one qs all go come f g = carried r a0 a b bs0 bs cs ns D (λ s. QualTypes all (sorts k)) (λ s. QualTypes one (sorts k)) (λ s. QualTypes qs (sorts k)) f g
      (λ H. leads_on r a a b _ _ _
      (restated a _ (λ s. (M : Context) × QualTypes one (sorts k) (context s (onto bs ns)) M × QualTypes qs (sorts k) M H) f.fine (λ s h. go (context s (onto bs ns)) H h) (λ s q h. come (context s (onto bs ns)) h.0 H h.1 h.2))
      (binds r a b bs cs ns (λ s. QualTypes one (sorts k)) (λ M s. QualTypes qs (sorts k) M H) (λ M s u ag d. d) g))

-- the last of them
pub bound_all : (ns : Fields) (a0 a : List Cell) (bs0 bs : Fields) (D R : Assignment → Context → Context → Type 0) → ((s : Assignment) (G H : Context) → R s G H → H ≡ G) → ((s : Assignment) (G H : Context) → H ≡ G → R s G H) → Binding a0 a bs0 bs ns D R → Binds a0 a bs0 bs ns D
bound_all ns a0 a bs0 bs D R go come f = binds_by a0 a bs0 bs ns D f.sorts (λ H. onward a0 a _ _ _ (λ s r. sym (go s _ H r)) (λ s q r. come s _ H (sym r)) (f.leaves H))

pub binding_begins : (a : List Cell) (bs ns : Fields) (D : Assignment → Context → Context → Type 0) → IsFine a → Binding a a bs bs ns D D
binding_begins a bs ns D f = record { fine = f; keeps = keeps_refl a; sorts = λ h. h; leaves = λ H. begins a (λ s. D s (context s (onto bs ns)) H) f }

-- ---- qualifiers

module _ (K : Name → Sort) where
  pub draw_split : (p : Pat) (e : Exp) (qs : Quals) (G H : Context) → QualTypes (draw p e qs) K G H → (M : Context) × QualTypes (draw p e no_quals) K G M × QualTypes qs K M H
  draw_split p e qs G H h = (h.2, (h.0, h.1, h.2, h.3, h.4, refl), h.5)

  pub draw_join : (p : Pat) (e : Exp) (qs : Quals) (G M H : Context) → QualTypes (draw p e no_quals) K G M → QualTypes qs K M H → QualTypes (draw p e qs) K G H
  draw_join p e qs G M H h j = (h.0, h.1, h.2, h.3, h.4, subst (λ (N : Context). QualTypes qs K N H) h.5 j)

  pub test_split : (c : Exp) (qs : Quals) (G H : Context) → QualTypes (test c qs) K G H → (M : Context) × QualTypes (test c no_quals) K G M × QualTypes qs K M H
  test_split c qs G H h = (G, (h.0, refl), h.1)

  pub test_join : (c : Exp) (qs : Quals) (G M H : Context) → QualTypes (test c no_quals) K G M → QualTypes qs K M H → QualTypes (test c qs) K G H
  test_join c qs G M H h j = (h.0, subst (λ (N : Context). QualTypes qs K N H) h.1 j)

module _ (k : Known) (bs ns : Fields) (a b : List Cell) (ready : Ready k a (onto bs ns) []) where
  pub test_form : (r : Result (Unit {0}) Refusal) (c : List Cell) (x : Exp) (i : ℕ) → Gets a b i (λ t s. t ≡ bool) → Asked r b c (λ s. Types x (sorts k) (context s (onto bs ns)) (s.types i)) → Bound r a c bs bs ns (λ s. QualTypes (test x no_quals) (sorts k))
  test_form r c x i g f =
      let ms = onto bs ns in
      bound_told r a c bs bs ns (λ s G H. Types x (sorts k) (context s ms) bool × (H ≡ G)) (λ s. QualTypes (test x no_quals) (sorts k)) (λ s H d. d) (λ s H d. d)
      (tests_only k ns a bs ready r c (λ s. Types x (sorts k) (context s ms) bool)
      (leads_on r a b c _ _ _
      (goes_on a a b _ _ _
      (restated a _ (λ s. (t : Ground) × IsGround t × (t ≡ bool) × Types x (sorts k) (context s ms) t) ready.fine (λ s h. (bool, tt, refl, h)) (λ s q h. subst (λ (t : Ground). Types x (sorts k) (context s ms) t) h.2 h.3))
      (opens a b i (λ t s. t ≡ bool) (λ t s. Types x (sorts k) (context s ms) t) (λ t. said k a ms [] (λ G ts. Types x (sorts k) G t) ready) g)) f))

  module _ (q : Pat) (x : Exp) (i : ℕ) (g1 : Gets a b i (λ t s. Unit {0})) where
    abbrev Drawing : Context → Fact
    Drawing H = λ s. QualTypes (draw q x no_quals) (sorts k) (context s (onto bs ns)) H

    abbrev Takings : ℕ → Context → Fact
    Takings j H = λ s. Takes q (NameTypes (sorts k) (context s (onto bs ns))) (s.types j) (context s (onto bs ns)) H

    draw_ready : Ready k b (onto bs ns) (i ∷ [])
    draw_ready = ready_after k (onto bs ns) a [] ready b i (λ t s. Unit {0}) g1

    draw_seen : (H : Context) → Leaves a b (Drawing H) (λ s. (u : Ground) × IsGround u × DrawnFrom i u s × (T k (onto bs ns) x i s × Takes q (NameTypes (sorts k) (context s (onto bs ns))) u (context s (onto bs ns)) H))
    draw_seen H =
        let ms = onto bs ns in
        let K = sorts k in
        goes_on a a b _ _ _
        (restated a (Drawing H)
        (λ s. (t : Ground) × IsGround t × Unit {0} × ((u : Ground) × IsGround u × ((kind : Kind) × (t ≡ colls kind u)) × (Types x K (context s ms) t × Takes q (NameTypes K (context s ms)) u (context s ms) H))) ready.fine
        (λ s o. let gr = ground_of_type k ms a [] ready x s (colls o.0 o.1) o.3 in (colls o.0 o.1, gr, tt, (o.1, gr, (o.0, refl), (o.3, subst (λ (N : Context). Takes q (NameTypes K (context s ms)) o.1 (context s ms) N) (sym o.5) o.4))))
        (λ s z o. let v = o.3 in (v.2.0, v.0, H, subst (λ (t : Ground). Types x K (context s ms) t) v.2.1 v.3.0, v.3.1, refl)))
        (opens a b i (λ t s. Unit {0}) (λ t s. (u : Ground) × IsGround u × ((kind : Kind) × (t ≡ colls kind u)) × (Types x K (context s ms) t × Takes q (NameTypes K (context s ms)) u (context s ms) H))
        (λ t. said k a ms [] (λ G ts. (u : Ground) × IsGround u × ((kind : Kind) × (t ≡ colls kind u)) × (Types x K G t × Takes q (NameTypes K G) u G H)) ready) g1)

    -- it is no collection
    pub draw_refused : (e : Refusal) → Refuses b (λ s. (u : Ground) × IsGround u × DrawnFrom i u s) e → Refuses a (λ s. (H : Context) × Drawing H s) e
    draw_refused e f = refuses_each a (λ s H. Drawing H s) e
        (λ H. leads_on (Err e) a b b _ _ (λ s. Unit {0}) (draw_seen H) (opens_none b (DrawnFrom i) (λ u s. T k (onto bs ns) x i s × Takes q (NameTypes (sorts k) (context s (onto bs ns))) u (context s (onto bs ns)) H) e f))

    module _ (c : List Cell) (j : ℕ) (g2 : Gets b c j (DrawnFrom i)) where
      drawn_ready : Ready k c (onto bs ns) (j ∷ i ∷ [])
      drawn_ready = ready_after k (onto bs ns) b (i ∷ []) draw_ready c j (DrawnFrom i) g2

      draw_checked : (r : Result (Unit {0}) Refusal) (d : List Cell) (H : Context) → Asked r c d (T k (onto bs ns) x i) → Leads r a d (Drawing H) (Takings j H)
      draw_checked r d H f =
          let ms = onto bs ns in
          let K = sorts k in
          leads_on r a c d _ _ _
          (goes_on a b c _ _ _ (draw_seen H)
          (opens b c j (DrawnFrom i) (λ u s. T k ms x i s × Takes q (NameTypes K (context s ms)) u (context s ms) H) (λ u. said k b ms (i ∷ []) (λ G ts. Types x K G (first ts) × Takes q (NameTypes K G) u G H) draw_ready) g2))
          (beside r c d (T k ms x i) (Takings j H) (said k c ms (j ∷ i ∷ []) (λ G ts. Takes q (NameTypes K G) (first ts) G H) drawn_ready) f)

      pub draw_unchecked : (d : List Cell) (e : Refusal) → Refuses c (T k (onto bs ns) x i) e → Refuses a (λ s. (H : Context) × Drawing H s) e
      draw_unchecked d e f = refuses_each a (λ s H. Drawing H s) e (λ H. draw_checked (Err e) d H f)

      module _ (d : List Cell) (f : Asks c d (T k (onto bs ns) x i)) where
        draw_taken : (r : Result (Unit {0}) Refusal) (e : List Cell) (cs : Fields) (H : Context) → Bound r d e [] cs (onto bs ns) (λ s. Takes q (Outside k (onto bs ns) s) (s.types j)) → Leads r a e (Drawing H) (λ u. context u (onto cs (onto bs ns)) ≡ H)
        draw_taken r e cs H h = leads_on r a d e _ _ _ (draw_checked (Ok tt) d H f) (binds_at d e [] cs (onto bs ns) (λ s. Takes q (Outside k (onto bs ns) s) (s.types j)) r h H)

        pub draw_untaken : (e : List Cell) (cs : Fields) (x2 : Refusal) → Refuses d (λ s. (H : Context) × Takes q (Outside k (onto bs ns) s) (s.types j) (context s (onto bs ns)) H) x2 → Refuses a (λ s. (H : Context) × Drawing H s) x2
        draw_untaken e cs x2 h = refuses_each a (λ s H. Drawing H s) x2 (λ H. draw_taken (Err x2) e cs H h)

        pub draw_form : (e : List Cell) (cs : Fields) → Binds d e [] cs (onto bs ns) (λ s. Takes q (Outside k (onto bs ns) s) (s.types j)) → Binds a e bs (bs ++ cs) ns (λ s. QualTypes (draw q x no_quals) (sorts k))
        draw_form e cs h = binds_by a e bs (bs ++ cs) ns (λ s. QualTypes (draw q x no_quals) (sorts k))
            (λ hb.
            let k1 = types_keep a b bs g1.keeps hb in
            let k2 = types_keep b c bs g2.keeps k1 in
            let k3 = types_keep c d bs f.keeps k2 in
            types_append e bs cs (types_keep d e bs h.keeps k3) (h.sorts tt))
            (λ H. onward a e _ _ _ (λ s o. ap (context s) (onto_append bs cs ns) ∙ o) (λ s z o. sym (ap (context s) (onto_append bs cs ns)) ∙ o) (draw_taken (Ok tt) e cs H h))

-- ---- paths

pub path_starts : (t : List Cell) (ls : List Word) (i w : ℕ) → IsFine t → Leaves t t (λ s. PathTypes ls (s.types i) (s.types w)) (λ s. PathTypes (drop 0 ls) (s.types i) (s.types w))
path_starts t ls i w f = begins t (λ s. PathTypes ls (s.types i) (s.types w)) f

module _ (a0 a : List Cell) (D : Fact) (ls : List Word) (n : ℕ) (l m : Word) (t w : ℕ) (lt : n < length ls) (e : l ≡ get_or ls n l) (em : l ≡ m) (there : IsType a0 w) (f : Leaves a0 a D (λ s. PathTypes (drop n ls) (s.types t) (s.types w))) where
  path_at : Leaves a0 a D (λ s. PathTypes (l ∷ drop (n + 1) ls) (s.types t) (s.types w))
  path_at = subst (λ (z : List Word). Leaves a0 a D (λ s. PathTypes z (s.types t) (s.types w))) (drop_at ls n l lt e) f

  pub path_more : (b : List Cell) (i : ℕ) → Gets a b i (FieldOf m.text t) → Leaves a0 b D (λ s. PathTypes (drop (n + 1) ls) (s.types i) (s.types w))
  path_more b i g = path_next a0 a D l (drop (n + 1) ls) t w (f.keeps.sorts w a_type there) path_at b i (subst (λ (z : Word). Gets a b i (FieldOf z.text t)) (sym em) g)

  pub path_stops : (x : Refusal) → Refuses a (λ s. (u : Ground) × IsGround u × FieldOf m.text t u s) x → Refuses a0 D x
  path_stops x g = path_refused a0 a D l (drop (n + 1) ls) t w (f.keeps.sorts w a_type there) path_at x (subst (λ (z : Word). Refuses a (λ s. (u : Ground) × IsGround u × FieldOf z.text t u s) x) (sym em) g)

pub path_done : (r : Result (Unit {0}) Refusal) (a0 a b : List Cell) (D : Fact) (ls : List Word) (n t w : ℕ) → length ls ≤ n → Leaves a0 a D (λ s. PathTypes (drop n ls) (s.types t) (s.types w)) → Asked r a b (λ s. s.types t ≡ s.types w) → Asked r a0 b D
path_done r a0 a b D ls n t w le f g = leads_on r a0 a b D _ (λ s. Unit {0}) (subst (λ (z : List Word). Leaves a0 a D (λ s. PathTypes z (s.types t) (s.types w))) (drop_all n ls le) f) g
