-- What the forms of expressions ask, put together from what was asked of their parts.
use Rattle.std.proofs.Common.{◌≡◌, ℕ, List, [], ◌∷◌, Result, Ok, refl, sym, ap, ◌∙◌, subst}
use Rattle.std.specs.List.{AllByRecursion}
use Rattle.kl_value.specs.declared.Kind.{Kind}
use Rattle.kl_value.specs.declared.Value.{Value}
use Rattle.kl_type.specs.Ground.{Ground, bool, arrow, IsGround}
use Rattle.kl_rows.specs.Lists.{Fields}
use Rattle.kl_rows.specs.Places.{a_function}
use Rattle.kl_rows.specs.Solutions.{Assignment, Says}
use Rattle.kl_rows.specs.Schemes.{cells_of, given}
use Rattle.kl_rows.specs.declared.cell.Cell.{Cell}
use Rattle.kl_rows.specs.declared.cell.Cell.TheVariants.{OfType, OfFunction, OfRow, OfKind}
use Rattle.kl_rows.specs.Places.{sort_of as cell_sort}
use Rattle.kl_rows.proofs.CellLists.{stands}
use Rattle.kl_rows.proofs.Advancing.{Fact}
use Rattle.kl_forms.specs.Forms.{ItemsOf, VariantOf, IsOfType}
use Rattle.kl_syntax.specs.declared.tree.Word.{Word}
use Rattle.kl_syntax.specs.Syntax.{Pat, Exp, Const, Inj, Coll, Comp, If, Let, Exps, Quals}
use Rattle.kl_meaning.specs.Typing.{Context, NameTypes, Takes, Types, AllTypes, EachType, QualTypes}
use Rattle.kl_infer.specs.Asking.{Leaves, Asks, Asked, Gets, Bound, context, onto}
use Rattle.kl_infer.specs.Names.{Meant, no_sense, by_value, by_function, by_source, by_code, IsGood, Ready, meant, sort_of, sorts}
use Rattle.kl_infer.specs.declared.refusal.Refusal.{Refusal}
use Rattle.kl_infer.specs.declared.scope.Known.{Known}
use Rattle.kl_meaning.specs.Typing.{AreGround}
use Rattle.kl_meaning.proofs.Grounds.{IsGroundSort, types_ground, all_ground}
use Rattle.kl_infer.proofs.Leaving.{Leads, restated, leads_on, in_words, beside, opens, binds, goes_on, ready_on, ready_for, said}

-- ---- what is known is ground

function_parts : (c : Cell) (s : Assignment) (i : ℕ) (a b : Ground) → cell_sort c ≡ a_function → Says c s i → s.functions i ≡ arrow a b → IsGround a × IsGround b
function_parts (OfFunction p q) s i a b e h k =
    let w : arrow (s.types p) (s.types q) ≡ arrow a b = sym h ∙ k in
    let x : s.types p ≡ a = cc in
    let y : s.types q ≡ b = cc in
    (subst IsGround x (s.types_ground p), subst IsGround y (s.types_ground q))
function_parts (OfType n) s i a b e h k = let d : ⊥ = cc in absurd d
function_parts (OfRow n) s i a b e h k = let d : ⊥ = cc in absurd d
function_parts (OfKind n) s i a b e h k = let d : ⊥ = cc in absurd d

good_ground : (m : Meant) → IsGood m → IsGroundSort (sort_of m)
good_ground no_sense g = tt
good_ground (by_value p) g = λ t h.
    let s = h.by in
    subst IsGround (sym (ap (λ o. given o s p.root) g.1) ∙ h.root_is) (s.types_ground p.root)
good_ground (by_function p) g = λ a b h.
    let s = h.by in
    let w = stands (cells_of p.nodes) p.root a_function g.1 in
    let solves = h.solves in
    function_parts w.cell s p.root a b w.sort (solves.each p.root w.cell w.here) (sym (ap (λ o. given o s p.root) g.1) ∙ h.root_is)
good_ground (by_source u) g = λ t h. subst IsGround h g
good_ground (by_code c) g = tt

pub context_ground : (s : Assignment) (ns : Fields) → AreGround (context s ns)
context_ground s [] = tt
context_ground s (b ∷ bs) = (s.types_ground b.1, context_ground s bs)

abbrev pub first : List Ground → Ground
first [] = bool
first (t ∷ ts) = t

abbrev pub second : List Ground → Ground
second [] = bool
second (t ∷ ts) = first ts

abbrev pub third : List Ground → Ground
third [] = bool
third (t ∷ ts) = second ts

module _ (k : Known) (ns : Fields) where
  abbrev pub T : Exp → ℕ → Fact
  T e w = λ s. Types e (sorts k) (context s ns) (s.types w)

  module _ (a : List Cell) (ws : List ℕ) (ready : Ready k a ns ws) where
    pub ground_of_type : (e : Exp) (s : Assignment) (t : Ground) → Types e (sorts k) (context s ns) t → IsGround t
    ground_of_type e s t h = types_ground (sorts k) (λ x. good_ground (meant k x) (ready.good x)) e (context s ns) t (context_ground s ns) h

    pub known_ground : (e : Exp) (G : Context) (t : Ground) → AreGround G → Types e (sorts k) G t → IsGround t
    known_ground e G t g h = types_ground (sorts k) (λ x. good_ground (meant k x) (ready.good x)) e G t g h

    pub ground_of_all : (es : Exps) (s : Assignment) (ts : List Ground) → AllTypes es (sorts k) (context s ns) ts → AllByRecursion IsGround ts
    ground_of_all es s ts h = all_ground (sorts k) (λ x. good_ground (meant k x) (ready.good x)) es (context s ns) ts (context_ground s ns) h

    -- the same numbers after a step
    pub ready_after : (b : List Cell) (i : ℕ) (E : Ground → Fact) → Gets a b i E → Ready k b ns (i ∷ ws)
    ready_after b i E g = let r = ready_on k a b ns ws g.fine g.keeps ready in ready_for k b ns ws (i ∷ ws) (g.sort, r.wants) r

  -- ---- what a form asks, with the types of its parts, and what is left of it where they have numbers

  module _ (a : List Cell) (w : ℕ) (ready : Ready k a ns (w ∷ [])) where
    pub constant_form : (r : Result (Unit {0}) Refusal) (b : List Cell) (v : Value) → Asked r a b (IsOfType v w) → Asked r a b (T (Const v) w)
    constant_form r b v f = in_words r a b (IsOfType v w) (T (Const v) w) (λ s h. h.1) (λ s h. (s.types_ground w, h)) f

    -- injections
    module _ (l : Word) (x : Exp) where
      abbrev pub Payload : Ground → Fact
      Payload = λ t s. Types x (sorts k) (context s ns) t

      pub inject_seen : Leaves a a (T (Inj l x) w) (λ s. (t : Ground) × IsGround t × VariantOf l.text w t s × Payload t s)
      inject_seen = restated a _ _ ready.fine
          (λ s h. (h.1, ground_of_type a (w ∷ []) ready x s h.1 h.5, (h.0, h.2, h.4), h.5))
          (λ s q h. (h.2.0, h.0, h.2.1, s.types_ground w, h.2.2, h.3))

      pub inject_opened : (b : List Cell) (i : ℕ) → Gets a b i (VariantOf l.text w) → Leaves a b (T (Inj l x) w) (T x i)
      inject_opened b i g = goes_on a a b _ _ _ inject_seen (opens a b i (VariantOf l.text w) Payload (λ t. said k a ns (w ∷ []) (λ G ts. Types x (sorts k) G t) ready) g)

    -- collections
    module _ (kind : Kind) (es : Exps) where
      abbrev pub Items : Ground → Fact
      Items = λ t s. EachType es (sorts k) (context s ns) t

      pub coll_seen : Leaves a a (T (Coll kind es) w) (λ s. (t : Ground) × IsGround t × ItemsOf kind w t s × Items t s)
      coll_seen = restated a _ _ ready.fine (λ s h. (h.0, subst IsGround h.1 (s.types_ground w), h.1, h.3)) (λ s q h. (h.0, h.2, s.types_ground w, h.3))

      pub coll_opened : (b : List Cell) (i : ℕ) → Gets a b i (ItemsOf kind w) → Leaves a b (T (Coll kind es) w) (λ s. EachType es (sorts k) (context s ns) (s.types i))
      coll_opened b i g = goes_on a a b _ _ _ coll_seen (opens a b i (ItemsOf kind w) Items (λ t. said k a ns (w ∷ []) (λ G ts. EachType es (sorts k) G t) ready) g)

    -- comprehensions
    module _ (kind : Kind) (x : Exp) (qs : Quals) where
      abbrev pub Drawn : Ground → Fact
      Drawn = λ t s. (H : Context) × QualTypes qs (sorts k) (context s ns) H × Types x (sorts k) H t

      pub comp_seen : Leaves a a (T (Comp kind x qs) w) (λ s. (t : Ground) × IsGround t × ItemsOf kind w t s × Drawn t s)
      comp_seen = restated a _ _ ready.fine (λ s e. (e.0, subst IsGround e.2 (s.types_ground w), e.2, (e.1, e.3, e.4))) (λ s q e. (e.0, e.3.0, e.2, e.3.1, e.3.2))

      pub comp_bound : (r : Result (Unit {0}) Refusal) (b c : List Cell) (i : ℕ) (bs : Fields) → Gets a b i (ItemsOf kind w) → Bound r b c [] bs ns (λ s. QualTypes qs (sorts k)) → Leads r a c (T (Comp kind x qs) w) (λ s. Types x (sorts k) (context s (onto bs ns)) (s.types i))
      comp_bound r b c i bs g h =
          leads_on r a b c _ _ _
          (goes_on a a b _ _ _ comp_seen (opens a b i (ItemsOf kind w) Drawn (λ t. said k a ns (w ∷ []) (λ G ts. (H : Context) × QualTypes qs (sorts k) G H × Types x (sorts k) H t) ready) g))
          (binds r b c [] bs ns (λ s. QualTypes qs (sorts k)) (λ H s. Types x (sorts k) H (s.types i)) (λ H. said k b ns (i ∷ w ∷ []) (λ G ts. Types x (sorts k) H (first ts)) (ready_after a (w ∷ []) ready b i (ItemsOf kind w) g)) h)

    module _ (b : List Cell) (i : ℕ) (g : Gets a b i (λ t s. Unit {0})) where
      at_new : Ready k b ns (i ∷ w ∷ [])
      at_new = ready_after a (w ∷ []) ready b i (λ t s. Unit {0}) g

      -- an expression of which something else is asked
      module _ (x : Exp) (P : Context → Ground → Ground → Type 0) where
        headed : Leaves a b (λ s. (t : Ground) × Types x (sorts k) (context s ns) t × P (context s ns) t (s.types w)) (λ s. T x i s × P (context s ns) (s.types i) (s.types w))
        headed =
            goes_on a a b _ _ _
            (restated a _ (λ s. (t : Ground) × IsGround t × Unit {0} × (Types x (sorts k) (context s ns) t × P (context s ns) t (s.types w))) ready.fine
            (λ s e. (e.0, ground_of_type a (w ∷ []) ready x s e.0 e.1, tt, (e.1, e.2))) (λ s q e. (e.0, e.3.0, e.3.1)))
            (opens a b i (λ t s. Unit {0}) (λ t s. Types x (sorts k) (context s ns) t × P (context s ns) t (s.types w)) (λ t. said k a ns (w ∷ []) (λ G ts. Types x (sorts k) G t × P G t (first ts)) ready) g)

        pub head_checked : (r : Result (Unit {0}) Refusal) (c : List Cell) → Asked r b c (T x i)
            → Leads r a c (λ s. (t : Ground) × Types x (sorts k) (context s ns) t × P (context s ns) t (s.types w)) (λ s. P (context s ns) (s.types i) (s.types w))
        head_checked r c h = leads_on r a b c _ _ _ headed (beside r b c (T x i) (λ s. P (context s ns) (s.types i) (s.types w)) (said k b ns (i ∷ w ∷ []) (λ G ts. P G (first ts) (second ts)) at_new) h)

        -- the other way round
        pub head_left : (r : Result (Unit {0}) Refusal) (c : List Cell) → Asked r b c (λ s. P (context s ns) (s.types i) (s.types w))
            → Leads r a c (λ s. (t : Ground) × Types x (sorts k) (context s ns) t × P (context s ns) t (s.types w)) (T x i)
        head_left r c h =
            leads_on r a b c _ _ _
            (goes_on a b b _ _ _ headed (restated b _ (λ s. P (context s ns) (s.types i) (s.types w) × T x i s) g.fine (λ s e. (e.1, e.0)) (λ s q e. (e.1, e.0))))
            (beside r b c (λ s. P (context s ns) (s.types i) (s.types w)) (T x i) (said k b ns (i ∷ w ∷ []) (λ G ts. Types x (sorts k) G (first ts)) at_new) h)

      -- patterns of `let`
      module _ (p : Pat) (x y : Exp) where
        abbrev pub Body : Context → Ground → Ground → Type 0
        Body G t u = (H : Context) × Takes p (NameTypes (sorts k) G) t G H × Types y (sorts k) H u

        pub let_checked : (r : Result (Unit {0}) Refusal) (c : List Cell) → Asked r b c (T x i) → Leads r a c (T (Let p x y) w) (λ s. Body (context s ns) (s.types i) (s.types w))
        let_checked r c h =
            leads_on r a a c _ _ _ (restated a (T (Let p x y) w) (λ s. (t : Ground) × Types x (sorts k) (context s ns) t × Body (context s ns) t (s.types w)) ready.fine
            (λ s o. (o.0, o.2, (o.1, o.3, o.4))) (λ s q o. (o.0, o.2.0, o.1, o.2.1, o.2.2)))
            (head_checked x Body r c h)

        pub let_bound : (r : Result (Unit {0}) Refusal) (c d : List Cell) (bs : Fields) → Asks b c (T x i) → Bound r c d [] bs ns (λ s. Takes p (NameTypes (sorts k) (context s ns)) (s.types i))
            → Leads r a d (T (Let p x y) w) (λ s. Types y (sorts k) (context s (onto bs ns)) (s.types w))
        let_bound r c d bs h q =
            leads_on r a c d _ _ _ (let_checked (Ok tt) c h)
            (binds r c d [] bs ns (λ s. Takes p (NameTypes (sorts k) (context s ns)) (s.types i)) (λ H s. Types y (sorts k) H (s.types w))
            (λ H. said k c ns (i ∷ w ∷ []) (λ G ts. Types y (sorts k) H (second ts)) (ready_on k b c ns (i ∷ w ∷ []) h.fine h.keeps at_new)) q)

    -- conditions
    module _ (b : List Cell) (i : ℕ) (g : Gets a b i (λ t s. t ≡ bool)) (x y z : Exp) where
      at_test : Ready k b ns (i ∷ w ∷ [])
      at_test = ready_after a (w ∷ []) ready b i (λ t s. t ≡ bool) g

      if_seen : Leaves a b (T (If x y z) w) (λ s. T x i s × (T y w s × T z w s))
      if_seen =
          goes_on a a b _ _ _
          (restated a (T (If x y z) w) (λ s. (t : Ground) × IsGround t × (t ≡ bool) × (Types x (sorts k) (context s ns) t × (T y w s × T z w s))) ready.fine
          (λ s h. (bool, tt, refl, (h.0, (h.1, h.2)))) (λ s o h. (subst (λ (t : Ground). Types x (sorts k) (context s ns) t) h.2 h.3.0, h.3.1.0, h.3.1.1)))
          (opens a b i (λ t s. t ≡ bool) (λ t s. Types x (sorts k) (context s ns) t × (T y w s × T z w s))
          (λ t. said k a ns (w ∷ []) (λ G ts. Types x (sorts k) G t × (Types y (sorts k) G (first ts) × Types z (sorts k) G (first ts))) ready) g)

      pub if_tested : (r : Result (Unit {0}) Refusal) (c : List Cell) → Asked r b c (T x i) → Leads r a c (T (If x y z) w) (λ s. T y w s × T z w s)
      if_tested r c f = leads_on r a b c _ _ _ if_seen (beside r b c (T x i) (λ s. T y w s × T z w s)
          (said k b ns (i ∷ w ∷ []) (λ G ts. Types y (sorts k) G (second ts) × Types z (sorts k) G (second ts)) at_test) f)

      pub if_chosen : (r : Result (Unit {0}) Refusal) (c d : List Cell) → Asks b c (T x i) → Asked r c d (T y w) → Leads r a d (T (If x y z) w) (T z w)
      if_chosen r c d f h =
          let q = ready_on k b c ns (i ∷ w ∷ []) f.fine f.keeps at_test in
          leads_on r a c d _ _ _ (if_tested (Ok tt) c f) (beside r c d (T y w) (T z w) (said k c ns (i ∷ w ∷ []) (λ G ts. Types z (sorts k) G (second ts)) q) h)
