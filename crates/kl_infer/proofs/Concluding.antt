-- From what was asked to schemes.
use Rattle.std.proofs.Common.{◌≡◌, ℕ, ◌≤◌, List, [], ◌∷◌, length, Some, Result, Ok, Err, refl, sym, ap, ◌∙◌, subst}
use Rattle.std.specs.Prelude.{MatchResult}
use Rattle.kl_value.specs.declared.Kind.TheVariants as kind
use Rattle.kl_type.specs.Ground.{Ground, bool, arrow, no_row, IsGround}
use Rattle.kl_rows.specs.declared.cell.Cell.{Cell}
use Rattle.kl_rows.specs.declared.cell.Cell.TheVariants.{OfFunction}
use Rattle.kl_rows.specs.declared.Scheme.{Scheme}
use Rattle.kl_rows.specs.Places.{Sort, a_type, a_function, sort_at, IsFine, IsType}
use Rattle.kl_rows.specs.Schemes.{Instance, Settles, given}
use Rattle.kl_rows.specs.Making.{CanMake, AddsCell}
use Rattle.kl_rows.specs.Solutions.{Assignment, Solves}
use Rattle.kl_rows.specs.Steps.{Grown}
use Rattle.kl_rows.proofs.CellLists.{sort_within}
use Rattle.kl_rows.proofs.Growing.{grown_function}
use Rattle.kl_rows.specs.Lists.{Fields}
use Rattle.kl_rows.proofs.Advancing.{Fact, agrees_on}
use Rattle.kl_outcome.specs.Outcome.{Name}
use Rattle.kl_syntax.specs.Syntax.{Pat, Exp}
use Rattle.kl_meaning.specs.Typing.{Context, NameTypes, Takes, Types, FunctionTypes}
use Rattle.kl_infer.specs.Asking.{Asks, OnNoType, Refuses, Asked, Gets, GetsFunction, Binds, Bound, context, onto}
use Rattle.kl_infer.specs.Inferred.{IsPrincipal, IsArrow}
use Rattle.kl_infer.specs.Names.{IsGood, Ready, meant, sorts}
use Rattle.kl_infer.specs.declared.refusal.Refusal.{Refusal}
use Rattle.kl_infer.specs.declared.refusal.Refusal.TheVariants.{NoType, NoMemory}
use Rattle.kl_infer.specs.declared.scope.Known.{Known}
use Rattle.kl_meaning.proofs.Grounds.{takes_ground}
use Rattle.kl_infer.proofs.Leaving.{Leads, restated, goes_on, leads_on, beside, opens, binds, said, ready_on, ready_in, ready_new}
use Rattle.kl_infer.proofs.Forms.{first, ground_of_type, known_ground}
use Rattle.kl_rows.proofs.Settlements.{empty_solved, empty_fine}

pub arrow_can : (ns : List Cell) (a b : ℕ) → IsType ns a → IsType ns b → CanMake ns (OfFunction a b)
arrow_can ns a b h k = record { placed = (h, k); tidy = tt }

pub arrow_so : (a b : List Cell) (i p q : ℕ) → IsFine a → IsType a p → IsType a q → AddsCell a b (OfFunction p q) i → GetsFunction a b i p q
arrow_so a b i p q f tp tq h = record {
  fine = h.fine;
  keeps = h.keeps;
  sort = h.sort;
  down = λ s d. grown_function a b i f p q (arrow_can a p q tp tq) h s d (arrow (s.types p) (s.types q)) refl;
  up = λ s d. (h.solves s).0 d;
}

-- ---- a scheme for all types of a declaration

-- what comes of asking for a scheme
abbrev pub Concludes : Result Scheme Refusal → List Cell → ℕ → Type 0
Concludes r t root = MatchResult r (λ p. Settles t root p) (Refuses t (λ s. Unit {0}))

-- from nothing: what P says is what the number may have
pub record Carries (a z : List Cell) (root : ℕ) (q : Sort) (P : Ground → Type 0) : Type 0 where
  pub sort : sort_at z root ≡ Some q
  pub down : (u : Ground) (s : Assignment) → P u → Solves a s → Grown a z s (λ v. given (Some q) v root ≡ u)
  pub up : (s : Assignment) → Solves z s → P (given (Some q) s root)

any_assignment : Assignment
any_assignment = record { types = λ i. bool; functions = λ i. bool; rows = λ i. no_row; kinds = λ i. kind.Set; types_ground = λ i. tt; rows_ground = λ i. tt }

-- what a scheme, and what a refusal says of P
abbrev pub Answers : Result Scheme Refusal → Sort → (Ground → Type 0) → Type 0
Answers r q P = MatchResult r (λ p. IsPrincipal q p P) (λ e. OnNoType e ((u : Ground) → P u → ⊥))

-- nothing meets what was asked from nothing
pub none_from : (a : List Cell) (D : Ground → Fact) (P : Ground → Type 0) (e : Refusal) → a ≡ [] → ((u : Ground) (s : Assignment) → P u → D u s) → ((u : Ground) → Refuses a (D u) e) → OnNoType e ((u : Ground) → P u → ⊥)
none_from a D P NoType em go f = λ u h. f u any_assignment (empty_solved a any_assignment em) (go u any_assignment h)
none_from a D P NoMemory em go f = tt

pub answer : (r : Result Scheme Refusal) (a z : List Cell) (root : ℕ) (q : Sort) (P : Ground → Type 0) → a ≡ [] → Carries a z root q P → Concludes r z root → Answers r q P
answer (Ok p) a z root q P empty carries c = record {
  good = c.good;
  sort_is = c.sort ∙ carries.sort;
  instances = λ u. (
    (λ i. let w = c.from u i in subst P (ap (λ o. given o w.0 root) (sym carries.sort) ∙ w.2) (carries.up w.0 w.1)),
    (λ h. let g = carries.down u any_assignment h (empty_solved a any_assignment empty) in subst (Instance p) (ap (λ o. given o g.to root) carries.sort ∙ g.holds) (c.to g.to g.solves)),
  );
  has_one = let w = c.from c.has_one.0 c.has_one.1 in (given (Some q) w.0 root, carries.up w.0 w.1);
}
answer (Err NoType) a z root q P empty carries none = λ u h. let w = carries.down u any_assignment h (empty_solved a any_assignment empty) in none w.to w.solves tt
answer (Err NoMemory) a z root q P empty carries none = tt

pub ready_first : (k : Known) (t : List Cell) → t ≡ [] → ((x : Name) → IsGood (meant k x)) → Ready k t [] []
ready_first k t e g = record { good = g; fine = empty_fine t e; bound = tt; wants = tt }

-- ---- an expression alone

module _ (k : Known) (a b : List Cell) (i : ℕ) (e : Exp) (em : a ≡ []) (good : (x : Name) → IsGood (meant k x)) (g : Gets a b i (λ t s. Unit {0})) where
  abbrev Typed_at : Ground → Ground → Type 0
  Typed_at t u = (u ≡ t) × Types e (sorts k) [] u

  at_type : (r : Result (Unit {0}) Refusal) (c : List Cell) (t : Ground) → Asked r b c (λ s. Types e (sorts k) [] (s.types i)) → Leads r a c (λ s. (u : Ground) × IsGround u × Unit {0} × Typed_at t u) (λ s. s.types i ≡ t)
  at_type r c t f = leads_on r a b c _ _ _
      (goes_on a b b _ _ (λ s. Types e (sorts k) [] (s.types i) × (s.types i ≡ t)) (opens a b i (λ u s. Unit {0}) (λ u s. Typed_at t u) (λ u s v ag d. d) g) (restated b _ _ g.fine (λ s h. (h.1, h.0)) (λ s q h. (h.1, h.0))))
      (beside r b c (λ s. Types e (sorts k) [] (s.types i)) (λ s. s.types i ≡ t) (λ s u ag d. ag.types i (sort_within b i a_type g.sort) ∙ d) f)

  has_type : (u : Ground) (s : Assignment) → Types e (sorts k) [] u → (v : Ground) × IsGround v × Unit {0} × Typed_at u v
  has_type u s h = (u, ground_of_type k [] a [] (ready_first k a em good) e s u h, tt, (refl, h))

  pub constant_refused : (o : Refusal) → Refuses b (λ s. Types e (sorts k) [] (s.types i)) o → OnNoType o ((t : Ground) → Types e (sorts k) [] t → ⊥)
  constant_refused o f = none_from a (λ u s. (v : Ground) × IsGround v × Unit {0} × Typed_at u v) (Types e (sorts k) []) o em has_type (λ u. at_type (Err o) b u f)

  pub constant_answer : (r : Result Scheme Refusal) (c : List Cell) → Asks b c (λ s. Types e (sorts k) [] (s.types i)) → Concludes r c i → Answers r a_type (Types e (sorts k) [])
  constant_answer r c f h = answer r a c i a_type (Types e (sorts k) []) em
      (record {
        sort = f.keeps.sorts i a_type g.sort;
        down = λ u s h d. (at_type (Ok tt) c u f).down s d (has_type u s h);
        up = λ s d. let w = (at_type (Ok tt) c (s.types i) f).up s d refl in subst (λ (t : Ground). Types e (sorts k) [] t) w.1.3.0 w.1.3.1;
      }) h

-- ---- a function

module _ (k : Known) (a b : List Cell) (i : ℕ) (p : Pat) (e : Exp) (em : a ≡ []) (good : (x : Name) → IsGood (meant k x)) (g1 : Gets a b i (λ t s. Unit {0})) where
  abbrev Rest : Ground → Context → Type 0
  Rest y H = (t : Ground) × IsGround t × Unit {0} × ((t ≡ y) × Types e (sorts k) H t)

  abbrev Whole : Ground → Ground → Type 0
  Whole x y = (t : Ground) × IsGround t × Unit {0} × ((t ≡ x) × ((H : Context) × Takes p (NameTypes (sorts k) []) t [] H × Rest y H))

  has_both : (x y : Ground) (s : Assignment) → FunctionTypes (sorts k) p e x y → Whole x y
  has_both x y s h = (x, h.0, tt, (refl, (h.1, h.2, (y, known_ground k [] a [] (ready_first k a em good) e h.1 y (takes_ground p (NameTypes (sorts k) []) x [] h.1 h.0 tt h.2) h.3, tt, (refl, h.3)))))

  none_of : (o : Refusal) → ((x y : Ground) → Refuses a (λ s. Whole x y) o) → OnNoType o ((s t : Ground) → FunctionTypes (sorts k) p e s t → ⊥)
  none_of NoType f = λ x y h. f x y any_assignment (empty_solved a any_assignment em) (has_both x y any_assignment h)
  none_of NoMemory f = tt

  taken : (r : Result (Unit {0}) Refusal) (c : List Cell) (bs : Fields) (x y : Ground) → Bound r b c [] bs [] (λ s. Takes p (NameTypes (sorts k) []) (s.types i)) → Leads r a c (λ s. Whole x y) (λ s. (s.types i ≡ x) × Rest y (context s (onto bs [])))
  taken r c bs x y h = leads_on r a b c _ _ _
      (goes_on a b b _ _ (λ s. (H : Context) × Takes p (NameTypes (sorts k) []) (s.types i) [] H × ((s.types i ≡ x) × Rest y H))
      (opens a b i (λ u s. Unit {0}) (λ u s. (u ≡ x) × ((H : Context) × Takes p (NameTypes (sorts k) []) u [] H × Rest y H)) (λ u s v ag m. m) g1)
      (restated b _ _ g1.fine (λ s m. (m.1.0, m.1.1, (m.0, m.1.2))) (λ s q m. (m.2.0, (m.0, m.1, m.2.1)))))
      (binds r b c [] bs [] (λ s. Takes p (NameTypes (sorts k) []) (s.types i)) (λ H s. (s.types i ≡ x) × Rest y H) (λ H s u ag m. (ag.types i (sort_within b i a_type g1.sort) ∙ m.0, m.1)) h)

  pub untaken : (o : Refusal) (bs0 : Fields) → bs0 ≡ [] → Refuses b (λ s. (H : Context) × Takes p (NameTypes (sorts k) []) (s.types i) (context s (onto bs0 [])) H) o → OnNoType o ((s t : Ground) → FunctionTypes (sorts k) p e s t → ⊥)
  untaken o bs0 e0 f = none_of o (λ x y. taken (Err o) b [] x y (subst (λ (v : Fields). Refuses b (λ s. (H : Context) × Takes p (NameTypes (sorts k) []) (s.types i) (context s (onto v [])) H) o) e0 f))

  module _ (c d : List Cell) (j : ℕ) (bs0 bs cs : Fields) (e0 : bs0 ≡ []) (ec : cs ≡ bs) (h0 : Binds b c bs0 bs [] (λ s. Takes p (NameTypes (sorts k) []) (s.types i))) (g2 : Gets c d j (λ t s. Unit {0})) where
    h1 : Binds b c [] bs [] (λ s. Takes p (NameTypes (sorts k) []) (s.types i))
    h1 = subst (λ (v : Fields). Binds b c v bs [] (λ s. Takes p (NameTypes (sorts k) []) (s.types i))) e0 h0

    ready_there : Ready k c (onto bs []) (i ∷ [])
    ready_there = ready_in k c bs [] (i ∷ []) (h1.sorts tt) (ready_on k b c [] (i ∷ []) h1.fine h1.keeps (ready_new k a b [] [] i (λ t s. Unit {0}) g1 (ready_first k a em good)))

    both_types : (r : Result (Unit {0}) Refusal) (f : List Cell) (x y : Ground) → Asked r d f (λ s. Types e (sorts k) (context s (onto cs [])) (s.types j)) → Leads r a f (λ s. Whole x y) (λ s. (s.types i ≡ x) × (s.types j ≡ y))
    both_types r f x y h2 = leads_on r a d f _ _ _
        (goes_on a c d _ _ _ (taken (Ok tt) c bs x y h1)
        (goes_on c c d _ _ _
        (restated c _ (λ s. (t : Ground) × IsGround t × Unit {0} × ((s.types i ≡ x) × ((t ≡ y) × Types e (sorts k) (context s (onto bs [])) t))) h1.fine (λ s m. (m.1.0, m.1.1, tt, (m.0, (m.1.3.0, m.1.3.1)))) (λ s q m. (m.3.0, (m.0, m.1, tt, (m.3.1.0, m.3.1.1)))))
        (goes_on c d d _ _ (λ s. Types e (sorts k) (context s (onto bs [])) (s.types j) × ((s.types i ≡ x) × (s.types j ≡ y)))
        (opens c d j (λ u s. Unit {0}) (λ u s. (s.types i ≡ x) × ((u ≡ y) × Types e (sorts k) (context s (onto bs [])) u)) (λ u. said k c (onto bs []) (i ∷ []) (λ G ts. (first ts ≡ x) × ((u ≡ y) × Types e (sorts k) G u)) ready_there) g2)
        (restated d _ _ g2.fine (λ s m. (m.1.1, (m.0, m.1.0))) (λ s q m. (m.1.0, (m.1.1, m.0)))))))
        (beside r d f (λ s. Types e (sorts k) (context s (onto bs [])) (s.types j)) (λ s. (s.types i ≡ x) × (s.types j ≡ y))
        (λ s u ag m. (ag.types i (sort_within d i a_type (g2.keeps.sorts i a_type ready_there.wants.0)) ∙ m.0, ag.types j (sort_within d j a_type g2.sort) ∙ m.1))
        (subst (λ (v : Fields). Asked r d f (λ s. Types e (sorts k) (context s (onto v [])) (s.types j))) ec h2))

    pub unbodied : (o : Refusal) → Refuses d (λ s. Types e (sorts k) (context s (onto cs [])) (s.types j)) o → OnNoType o ((s t : Ground) → FunctionTypes (sorts k) p e s t → ⊥)
    unbodied o f = none_of o (λ x y. both_types (Err o) d x y f)

    module _ (f z : List Cell) (l : ℕ) (h2 : Asks d f (λ s. Types e (sorts k) (context s (onto cs [])) (s.types j))) (g3 : GetsFunction f z l i j) where
      function_carries : Carries a z l a_function (IsArrow (FunctionTypes (sorts k) p e))
      function_carries = record {
        sort = g3.sort;
        down = λ u s h m.
            let x = h.0 in
            let y = h.1 in
            let v = (both_types (Ok tt) f x y h2).down s m (has_both x y s h.3) in
            let o = g3.down v.to v.solves in
            let kp = (both_types (Ok tt) f x y h2).keeps in
            let le : length a ≤ length f = kp.grows in
            record {
              to = o.to;
              agrees = agrees_on (length a) (length f) s v.to o.to le v.agrees o.agrees;
              solves = o.solves;
              holds = o.holds ∙ ap (λ t. arrow t (v.to.types j)) v.holds.0 ∙ ap (arrow x) v.holds.1 ∙ sym h.2;
            };
        up = λ s m.
            let n = g3.up s m in
            let w = ((both_types (Ok tt) f (s.types i) (s.types j) h2).up s n.0 (refl, refl)).1 in
            let r = w.3.1.2 in (
              s.types i,
              s.types j,
              n.1,
              (
                s.types_ground i,
                w.3.1.0,
                subst (λ (t : Ground). Takes p (NameTypes (sorts k) []) t [] w.3.1.0) w.3.0 w.3.1.1,
                subst (λ (t : Ground). Types e (sorts k) w.3.1.0 t) r.3.0 r.3.1,
              ),
            );
      }

      pub function_answer : (r : Result Scheme Refusal) → Concludes r z l
          → MatchResult r (λ q. IsPrincipal a_function q (IsArrow (FunctionTypes (sorts k) p e))) (λ o. OnNoType o ((s t : Ground) → FunctionTypes (sorts k) p e s t → ⊥))
      function_answer r h = no_function r (FunctionTypes (sorts k) p e) (answer r a z l a_function (IsArrow (FunctionTypes (sorts k) p e)) em function_carries h)
        where
          no_function : (r : Result Scheme Refusal) (F : Ground → Ground → Type 0) → Answers r a_function (IsArrow F) → MatchResult r (λ q. IsPrincipal a_function q (IsArrow F)) (λ o. OnNoType o ((s t : Ground) → F s t → ⊥))
          no_function (Ok q) F h = h
          no_function (Err NoType) F h = λ s t f. h (arrow s t) (s, t, refl, f)
          no_function (Err NoMemory) F h = tt
