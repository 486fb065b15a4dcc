-- What is asked, one thing after another.
use Rattle.std.proofs.Common.{◌≡◌, Bor, ℕ, suc, ◌≤◌, slice_index_or, Bool, true, false, IsTrue, List, [], ◌∷◌, length, map, Option, Some, None, cond, option_map, Result, Ok, Err, IfOk, refl, sym, ap, ◌∙◌, subst, arith}
use Rattle.std.specs.Prelude.{nat_eq, IsErrAnd, MatchResult}
use Rattle.std.specs.List.{AllByRecursion}
use Rattle.std.specs.Cmp.Lexicographic.{pointwise}
use Rattle.kl_base.specs.Fields.{field}
use Rattle.kl_type.specs.Ground.{Ground, bool, arrow, IsGround, IsProper, ground_of}
use Rattle.kl_type.specs.declared.Ty.{Ty}
use Rattle.kl_rows.specs.declared.cell.Cell.{Cell}
use Rattle.kl_rows.specs.declared.cell.Cell.TheVariants.{OfType}
use Rattle.kl_rows.specs.declared.cell.TypeNode.TheVariants.{AnyType}
use Rattle.kl_rows.specs.declared.Scheme.{Scheme}
use Rattle.kl_rows.specs.Lists.{Fields}
use Rattle.kl_rows.specs.Looking.{KnowsThere}
use Rattle.kl_rows.specs.Places.{Sort, a_type, sort_at, IsFine, IsType, AreTypes}
use Rattle.kl_rows.specs.Schemes.{Instance}
use Rattle.kl_rows.specs.Solutions.{Assignment, Solves}
use Rattle.kl_rows.specs.Steps.{Agrees, KeepsCells, Advances}
use Rattle.kl_rows.specs.Making.{AddsCell, Same}
use Rattle.kl_rows.specs.Expanding.{GivesType}
use Rattle.kl_rows.proofs.Growing.{grown_map, grown_type}
use Rattle.kl_rows.proofs.CellLists.{sort_within}
use Rattle.kl_rows.proofs.Advancing.{Fact, agrees_refl, agrees_on, keeps_refl, keeps_on, types_keep}
use Rattle.kl_outcome.specs.Outcome.{Name}
use Rattle.kl_forms.specs.Checks.{Checks, Finds}
use Rattle.kl_forms.specs.Forms.{Calls, Applies, IsInstance, IsThis}
use Rattle.kl_forms.proofs.Opening.{gives_type, same_types}
use Rattle.kl_forms.proofs.Shapes.{head_is}
use Rattle.kl_forms.proofs.Steps.{Stable, merges, told as say}
use Rattle.kl_meaning.specs.Typing.{Context, ValueTypes, CallTypes, VariableOr, NameTypes}
use Rattle.kl_infer.specs.Asking.{Leaves, Refuses, Asked, Gets, Found, GetsMany, Bound, context, onto}
use Rattle.kl_infer.specs.Names.{Meant, by_function, by_code, by_source, by_value, IsGood, Ready, labelled, meant, meant_of, sort_of, sorts}
use Rattle.kl_infer.specs.declared.refusal.Refusal.{Refusal}
use Rattle.kl_infer.specs.declared.refusal.Refusal.TheVariants.{NoType, NoMemory}
use Rattle.kl_infer.specs.declared.scope.Known.{Known}
use Rattle.kl_infer.specs.declared.scope.Sense.{Sense}
use Rattle.kl_infer.specs.declared.scope.Sense.TheVariants as sense

-- ---- refusals

pub refuses : (a : List Cell) (D : Fact) (e : Refusal) → ((s : Assignment) → Solves a s → D s → ⊥) → Refuses a D e
refuses a D NoType f = f
refuses a D NoMemory f = tt

-- what asks for more is refused too
pub refuses_more : (a : List Cell) (D E : Fact) (e : Refusal) → ((s : Assignment) → D s → E s) → Refuses a E e → Refuses a D e
refuses_more a D E NoType go f = λ s h d. f s h (go s d)
refuses_more a D E NoMemory go f = tt

-- what a `?` hands on
pub handed_on : {X : Type 0} (P : X → Type 0) (r : Result X Refusal) (e : Refusal) (Q : Refusal → Type 0) → IsErrAnd r (λ y. y ≡ e) → Q e → MatchResult r P Q
handed_on P (Ok x) e Q h q = absurd h
handed_on P (Err y) e Q h q = subst Q (sym h) q

-- what comes of a step that leaves R to ask
abbrev pub Leads : Result (Unit {0}) Refusal → List Cell → List Cell → Fact → Fact → Type 0
Leads r a b D R = MatchResult r (λ u. Leaves a b D R) (Refuses a D)

-- ---- steps

pub begins : (t : List Cell) (D : Fact) → IsFine t → Leaves t t D D
begins t D f = record { fine = f; keeps = keeps_refl t; down = λ s h d. record { to = s; agrees = agrees_refl (length t) s; solves = h; holds = d }; up = λ s h r. (h, r) }

-- the same in other words
pub restated : (a : List Cell) (D E : Fact) → IsFine a → ((s : Assignment) → D s → E s) → ((s : Assignment) → Solves a s → E s → D s) → Leaves a a D E
restated a D E f go come = record { fine = f; keeps = keeps_refl a; down = λ s h d. record { to = s; agrees = agrees_refl (length a) s; solves = h; holds = go s d }; up = λ s h r. (h, come s h r) }

pub goes_on : (a b c : List Cell) (D R S : Fact) → Leaves a b D R → Leaves b c R S → Leaves a c D S
goes_on a b c D R S f g = record {
  fine = g.fine;
  keeps = keeps_on a b c f.keeps g.keeps;
  down = λ s h d.
      let u = f.down s h d in
      let v = g.down u.to u.solves u.holds in
      let e = f.keeps in
      let le : length a ≤ length b = e.grows in
      record { to = v.to; agrees = agrees_on (length a) (length b) s u.to v.to le u.agrees v.agrees; solves = v.solves; holds = v.holds };
  up = λ s h r. let z = g.up s h r in f.up s z.0 z.1;
}

-- one step more, or a refusal of it
pub leads_on : (r : Result (Unit {0}) Refusal) (a b c : List Cell) (D R S : Fact) → Leaves a b D R → Leads r b c R S → Leads r a c D S
leads_on (Ok u) a b c D R S f g = goes_on a b c D R S f g
leads_on (Err NoType) a b c D R S f g = λ s h d. let u = f.down s h d in g u.to u.solves u.holds
leads_on (Err NoMemory) a b c D R S f g = tt

pub in_words : (r : Result (Unit {0}) Refusal) (a b : List Cell) (D E : Fact) → ((s : Assignment) → E s → D s) → ((s : Assignment) → D s → E s) → Asked r a b D → Asked r a b E
in_words (Ok u) a b D E go come f = record { fine = f.fine; keeps = f.keeps; down = λ s h e. f.down s h (go s e); up = λ s h r. let z = f.up s h r in (z.0, come s z.1) }
in_words (Err e) a b D E go come f = refuses_more a E D e go f

-- what else is asked is left
pub beside : (r : Result (Unit {0}) Refusal) (a b : List Cell) (E F : Fact) → Stable (length a) F → Asked r a b E → Leads r a b (λ s. E s × F s) F
beside (Ok o) a b E F stable f = record {
  fine = f.fine;
  keeps = f.keeps;
  down = λ s h d. let u = f.down s h d.0 in record { to = u.to; agrees = u.agrees; solves = u.solves; holds = stable s u.to u.agrees d.1 };
  up = λ s h r. let z = f.up s h tt in (z.0, (z.1, r));
}
beside (Err e) a b E F stable f = refuses_more a (λ s. E s × F s) E e (λ s d. d.0) f

-- a pattern binds variables
pub binds : (r : Result (Unit {0}) Refusal) (a b : List Cell) (bs cs ns : Fields) (D : Assignment → Context → Context → Type 0) (F : Context → Fact) → ((H : Context) → Stable (length a) (F H)) → Bound r a b bs cs ns D
    → Leads r a b (λ s. (H : Context) × D s (context s (onto bs ns)) H × F H s) (λ s. F (context s (onto cs ns)) s)
binds (Ok o) a b bs cs ns D F stable g = record {
  fine = g.fine;
  keeps = g.keeps;
  down = λ s h d. let u = g.down s d.0 h d.1 in record { to = u.to; agrees = u.agrees; solves = u.solves; holds = subst (λ t. F t u.to) (sym u.holds) (stable d.0 s u.to u.agrees d.2) };
  up = λ s h r. let z = g.up s h in (z.0, (context s (onto cs ns), z.1, r));
}
binds (Err e) a b bs cs ns D F stable g = refuses_more a _ (λ s. (H : Context) × D s (context s (onto bs ns)) H) e (λ s d. (d.0, d.1)) g

module _ (a b : List Cell) where
  -- a number stands for a type that there is
  pub opens : (i : ℕ) (E F : Ground → Fact) → ((t : Ground) → Stable (length a) (F t)) → Gets a b i E → Leaves a b (λ s. (t : Ground) × IsGround t × E t s × F t s) (λ s. F (s.types i) s)
  opens i E F stable g = record {
    fine = g.fine;
    keeps = g.keeps;
    down = λ s h d. let u = g.down s d.0 h d.1 d.2 in record { to = u.to; agrees = u.agrees; solves = u.solves; holds = subst (λ t. F t u.to) (sym u.holds) (stable d.0 s u.to u.agrees d.3) };
    up = λ s h r. let z = g.up s h in (z.0, (s.types i, s.types_ground i, z.1, r));
  }

  pub opens_many : (is : List ℕ) (n : ℕ) (F : List Ground → Fact) → ((ts : List Ground) → Stable (length a) (F ts)) → GetsMany a b is n
      → Leaves a b (λ s. (ts : List Ground) × (length ts ≡ n) × AllByRecursion IsGround ts × F ts s) (λ s. F (map s.types is) s)
  opens_many is n F stable g = record {
    fine = g.fine;
    keeps = g.keeps;
    down = λ s h d. let u = g.down s d.0 h d.1 d.2 in record { to = u.to; agrees = u.agrees; solves = u.solves; holds = subst (λ t. F t u.to) (sym u.holds) (stable d.0 s u.to u.agrees d.3) };
    up = λ s h r. (g.up s h, (map s.types is, length_mapped s is ∙ g.size, all_ground s is, r));
  }
    where
      length_mapped : (s : Assignment) (is : List ℕ) → length (map s.types is) ≡ length is
      length_mapped s [] = refl
      length_mapped s (i ∷ is) = ap suc (length_mapped s is)

      all_ground : (s : Assignment) (is : List ℕ) → AllByRecursion IsGround (map s.types is)
      all_ground s [] = tt
      all_ground s (i ∷ is) = (s.types_ground i, all_ground s is)

-- there is no such type
pub opens_none : (a : List Cell) (E F : Ground → Fact) (e : Refusal) → Refuses a (λ s. (t : Ground) × IsGround t × E t s) e → Refuses a (λ s. (t : Ground) × IsGround t × E t s × F t s) e
opens_none a E F e f = refuses_more a _ (λ s. (t : Ground) × IsGround t × E t s) e (λ s d. (d.0, d.1, d.2)) f

-- ---- what stays as it is where numbers are added

wants_keep : (old new : List Cell) (ws : List ℕ) → KeepsCells old new → AllByRecursion (IsType old) ws → AllByRecursion (IsType new) ws
wants_keep old new [] k h = tt
wants_keep old new (w ∷ ws) k h = (k.sorts w a_type h.0, wants_keep old new ws k h.1)

pub ready_on : (k : Known) (a b : List Cell) (ns : Fields) (ws : List ℕ) → IsFine b → KeepsCells a b → Ready k a ns ws → Ready k b ns ws
ready_on k a b ns ws f e r = record { good = r.good; fine = f; bound = types_keep a b ns e r.bound; wants = wants_keep a b ws e r.wants }

pub ready_for : (k : Known) (a : List Cell) (ns : Fields) (ws vs : List ℕ) → AllByRecursion (IsType a) vs → Ready k a ns ws → Ready k a ns vs
ready_for k a ns ws vs f r = record { good = r.good; fine = r.fine; bound = r.bound; wants = f }

onto_types : (ns : List Cell) (bs vs : Fields) → AreTypes ns bs → AreTypes ns vs → AreTypes ns (onto bs vs)
onto_types ns [] vs h k = k
onto_types ns (b ∷ bs) vs h k = onto_types ns bs (b ∷ vs) h.1 (h.0, k)

pub ready_in : (k : Known) (a : List Cell) (bs ns : Fields) (ws : List ℕ) → AreTypes a bs → Ready k a ns ws → Ready k a (onto bs ns) ws
ready_in k a bs ns ws f r = record { good = r.good; fine = r.fine; bound = onto_types a bs ns f r.bound; wants = r.wants }

pub same_context : (ns : List Cell) (bs : Fields) (s u : Assignment) → AreTypes ns bs → Agrees (length ns) s u → context u bs ≡ context s bs
same_context ns [] s u h a = refl
same_context ns (b ∷ bs) s u h a = rw (a.types b.1 (sort_within ns b.1 a_type h.0), same_context ns bs s u h.1 a) refl

same_wants : (ns : List Cell) (ws : List ℕ) (s u : Assignment) → AllByRecursion (IsType ns) ws → Agrees (length ns) s u → map u.types ws ≡ map s.types ws
same_wants ns [] s u h a = refl
same_wants ns (w ∷ ws) s u h a = rw (a.types w (sort_within ns w a_type h.0), same_wants ns ws s u h.1 a) refl

-- what is said of the variables and of these numbers
pub said : (k : Known) (t : List Cell) (ns : Fields) (ws : List ℕ) (P : Context → List Ground → Type 0) → Ready k t ns ws → Stable (length t) (λ s. P (context s ns) (map s.types ws))
said k t ns ws P r s u a d =
    subst (λ (G : Context). P G (map u.types ws)) (sym (same_context t ns s u r.bound a))
    (subst (λ (ts : List Ground). P (context s ns) ts) (sym (same_wants t ws s u r.wants a)) d)

-- ---- what a result says

pub when : {A E : Type 0} (P Q : A → Type 0) (r : Result A E) → ((v : A) → P v → Q v) → IfOk r P → IfOk r Q
when P Q (Ok v) go h = go v h
when P Q (Err e) go h = tt

-- a new number after a step
pub ready_new : (k : Known) (a b : List Cell) (ns : Fields) (ws : List ℕ) (i : ℕ) (E : Ground → Fact) → Gets a b i E → Ready k a ns ws → Ready k b ns (i ∷ [])
ready_new k a b ns ws i E g r = ready_for k b ns ws (i ∷ []) (g.sort, tt) (ready_on k a b ns ws g.fine g.keeps r)

pub ready_many : (k : Known) (a b : List Cell) (ns : Fields) (ws is : List ℕ) (n : ℕ) → GetsMany a b is n → Ready k a ns ws → Ready k b ns is
ready_many k a b ns ws is n g r = ready_for k b ns ws is g.sorts (ready_on k a b ns ws g.fine g.keeps r)

pub ready_at : (k : Known) (a : List Cell) (ns : Fields) (ws vs : List ℕ) → vs ≡ ws → Ready k a ns ws → Ready k a ns vs
ready_at k a ns ws vs e r = subst (λ (z : List ℕ). Ready k a ns z) (sym e) r

pub ready_both : (k : Known) (a : List Cell) (ns : Fields) (i : ℕ) (ws : List ℕ) → Ready k a ns (i ∷ []) → Ready k a ns ws → Ready k a ns (i ∷ ws)
ready_both k a ns i ws q r = ready_for k a ns ws (i ∷ ws) (q.wants.0, r.wants) r

pub ready_nothing : (k : Known) (a : List Cell) (ns : Fields) (ws : List ℕ) → Ready k a ns ws → Ready k a ns []
ready_nothing k a ns ws r = ready_for k a ns ws [] tt r

-- a number among these
pub ready_head : (k : Known) (a : List Cell) (ns : Fields) (i : ℕ) (ws : List ℕ) → Ready k a ns (i ∷ ws) → Ready k a ns (i ∷ [])
ready_head k a ns i ws r = ready_for k a ns (i ∷ ws) (i ∷ []) (r.wants.0, tt) r

pub ready_tail : (k : Known) (a : List Cell) (ns : Fields) (i : ℕ) (ws : List ℕ) → Ready k a ns (i ∷ ws) → Ready k a ns ws
ready_tail k a ns i ws r = ready_for k a ns (i ∷ ws) ws r.wants.1 r

pub ready_block : (k : Known) (a : List Cell) (bs cs ns : Fields) (ws : List ℕ) → cs ≡ bs → AreTypes a bs → Ready k a ns ws → Ready k a (onto cs ns) ws
ready_block k a bs cs ns ws e f r = ready_in k a cs ns ws (subst (λ (z : Fields). AreTypes a z) (sym e) f) r

labelled_types : (ts : List Cell) (ls : List Name) (is : List ℕ) → AllByRecursion (IsType ts) is → AreTypes ts (labelled ls is)
labelled_types ts [] is h = tt
labelled_types ts (l ∷ ls) [] h = tt
labelled_types ts (l ∷ ls) (i ∷ is) h = (h.0, labelled_types ts ls is h.1)

pub labelled_there : (t : List Cell) (ls : List Name) (is js : List ℕ) (all : Fields) → all ≡ labelled ls js → js ≡ is → AllByRecursion (IsType t) is → AreTypes t all
labelled_there t ls is js all e d f = subst (λ (z : Fields). AreTypes t z) (sym e) (labelled_types t ls js (subst (λ (z : List ℕ). AllByRecursion (IsType t) z) (sym d) f))

-- ---- calls of the unifier

-- what `met` makes of an answer, and what `found` makes of a number
abbrev pub Met : Bool → Result (Unit {0}) Refusal → Type 0
Met holds r = MatchResult r (λ u. holds ≡ true) (λ e. (holds ≡ false) × (e ≡ NoType))

abbrev pub IsNumber : Option ℕ → Result ℕ Refusal → Type 0
IsNumber number r = MatchResult r (λ n. number ≡ Some n) (λ e. (number ≡ None) × (e ≡ NoType))

pub asked : (r : Result (Unit {0}) Refusal) (holds : Bool) (a b : List Cell) (D : Fact) → Met holds r → Checks holds a b D → Asked r a b D
asked (Ok u) ans a b D m c = record { fine = c.fine; keeps = c.keeps; down = λ s h d. (c.down s h d).1; up = λ s h r. c.up m s h }
asked (Err e) ans a b D m c = refuses a D e (λ s h d. let w : false ≡ true = sym m.0 ∙ (c.down s h d).0 in let o : ⊥ = cc in o)

pub gets_found : (r : Result ℕ Refusal) (number : Option ℕ) (a b : List Cell) (E : Ground → Fact) → IsNumber number r → Finds number a b E → Found r a b E
gets_found (Ok i) number a b E m f = subst (λ o. Finds o a b E) m f
gets_found (Err e) number a b E m f = let none = subst (λ o. Finds o a b E) m.0 f in refuses a (λ s. (t : Ground) × IsGround t × E t s) e (λ s h d. none.none s d.0 h d.1 d.2)

pub fresh_so : (a b : List Cell) (i : ℕ) → IsFine a → AddsCell a b (OfType AnyType) i → Gets a b i (λ t s. Unit {0})
fresh_so a b i f h = record {
  fine = h.fine;
  keeps = h.keeps;
  sort = h.sort;
  down = λ s t d g x. grown_type a b i f AnyType (record { placed = tt; tidy = tt }) h s d t g tt;
  up = λ s d. (((h.solves s).0 d).0, tt);
}

pub truth_so : (a b : List Cell) (i : ℕ) (t : Ground) → t ≡ bool → GivesType a b i t → Gets a b i (λ u s. u ≡ bool)
truth_so a b i t k h = record {
  fine = h.fine;
  keeps = h.keeps;
  sort = h.sort;
  down = λ s u d g x. grown_map a b s (λ v. v.types i ≡ t) (λ v. v.types i ≡ u) (λ v y z. z ∙ k ∙ sym x) (h.down s d);
  up = λ s d. let z = h.up s d in (z.0, z.1 ∙ k);
}

-- a merge of types
pub same_so : (r : Result (Unit {0}) Refusal) (holds : Bool) (a b : List Cell) (i j : ℕ) → Met holds r → IsType a i → Advances holds a b (Same (sort_at a i) i j) (λ s. Unit {0}) → Asked r a b (λ s. s.types i ≡ s.types j)
same_so r ans a b i j m q h =
    let h2 : Advances ans a b (λ s. s.types i ≡ s.types j) (λ s. Unit {0}) = subst (λ (o : Option Sort). Advances ans a b (Same o i j) (λ s. Unit {0})) q h in
    asked r ans a b (λ s. s.types i ≡ s.types j) m (merges ans a b (λ s. s.types i ≡ s.types j) h2)

-- ---- names

-- a source's type, made anew and known from before
pub made_so : (r : Result (Unit {0}) Refusal) (holds : Bool) (a mid b : List Cell) (i w : ℕ) (t u : Ty) → Met holds r → u ≡ t → IsType a w → GivesType a mid i (ground_of u) → Advances holds mid b (Same (sort_at mid i) i w) (λ s. Unit {0}) → Asked r a b (IsThis t w)
made_so r ans a mid b i w t u p q there g m = asked r ans a b (IsThis t w) p (gives_type a mid b i w ans (ground_of u) (ground_of t) (ap ground_of q) there g (same_types ans mid b i w g.sort m))

pub known_so : (r : Result (Unit {0}) Refusal) (a b : List Cell) (i w : ℕ) (t : Ty) (sure : Bool) → sure ≡ true → IsProper t → KnowsThere sure a i t → Asked r a b (λ s. s.types i ≡ s.types w) → Asked r a b (IsThis t w)
known_so (Ok o) a b i w t sure e p h f =
    let y : IsTrue sure = subst IsTrue (sym e) refl in
    record { fine = f.fine; keeps = f.keeps; down = λ s g d. f.down s g (h.says y p s g ∙ d); up = λ s g r. let z = f.up s g r in (z.0, sym (h.says y p s z.0) ∙ z.1) }
known_so (Err NoType) a b i w t sure e p h f = let y : IsTrue sure = subst IsTrue (sym e) refl in λ s g d. f s g (h.says y p s g ∙ d)
known_so (Err NoMemory) a b i w t sure e p h f = tt

-- what a name stands for
pub value_good : (m : Meant) (k : Known) (x : Name) (p : Scheme) → m ≡ meant k x → m ≡ by_value p → ((y : Name) → IsGood (meant k y)) → IsGood (by_value p)
value_good m k x p e f g = subst IsGood (sym e ∙ f) (g x)

pub source_good : (m : Meant) (k : Known) (x : Name) (t : Ty) → m ≡ meant k x → m ≡ by_source t → ((y : Name) → IsGood (meant k y)) → IsProper t
source_good m k x t e f g = subst IsGood (sym e ∙ f) (g x)

pub value_named : (r : Result (Unit {0}) Refusal) (a b : List Cell) (m : Meant) (k : Known) (x : Name) (p : Scheme) (w : ℕ) → m ≡ meant k x → m ≡ by_value p → Asked r a b (IsInstance p w) → Asked r a b (λ s. ValueTypes (sorts k x) (s.types w))
value_named r a b m k x p w e f h = subst (λ (z : Meant). Asked r a b (λ s. ValueTypes (sort_of z) (s.types w))) (sym f ∙ e) h

pub source_named : (r : Result (Unit {0}) Refusal) (a b : List Cell) (m : Meant) (k : Known) (x : Name) (t : Ty) (w : ℕ) → m ≡ meant k x → m ≡ by_source t → Asked r a b (IsThis t w) → Asked r a b (λ s. ValueTypes (sorts k x) (s.types w))
source_named r a b m k x t w e f h = subst (λ (z : Meant). Asked r a b (λ s. ValueTypes (sort_of z) (s.types w))) (sym f ∙ e) h

no_value : (z : Sense) → ((p : Bor Scheme) → z ≡ sense.Value p → ⊥) → ((t : Bor Ty) → z ≡ sense.Source t → ⊥) → (u : Ground) → ValueTypes (sort_of (meant_of z)) u → ⊥
no_value sense.Nothing f g u h = h
no_value (sense.Value p) f g u h = f p refl
no_value (sense.Function p) f g u h = h
no_value (sense.Source t) f g u h = g t refl
no_value (sense.Primitive c) f g u h = h

pub none_named : (a : List Cell) (z : Sense) (k : Known) (x : Name) (w : ℕ) → meant_of z ≡ meant k x → ((p : Bor Scheme) → z ≡ sense.Value p → ⊥) → ((t : Bor Ty) → z ≡ sense.Source t → ⊥) → Refuses a (λ s. ValueTypes (sorts k x) (s.types w)) NoType
none_named a z k x w m f g = λ s h d. no_value z f g (s.types w) (subst (λ (y : Meant). ValueTypes (sort_of y) (s.types w)) (sym m) d)

pub asked_call : (r : Result (Unit {0}) Refusal) (holds : Bool) (a b : List Cell) (m : Meant) (k : Known) (x : Name) (ws : List ℕ) (w : ℕ) → Met holds r → m ≡ meant k x → Checks holds a b (λ s. CallTypes (sort_of m) (map s.types ws) (s.types w))
    → Asked r a b (λ s. CallTypes (sorts k x) (map s.types ws) (s.types w))
asked_call r ans a b m k x ws w p h c = asked r ans a b (λ s. CallTypes (sorts k x) (map s.types ws) (s.types w)) p (subst (λ (z : Meant). Checks ans a b (λ s. CallTypes (sort_of z) (map s.types ws) (s.types w))) h c)

field_type : (ts : List Cell) (ns : Fields) (x : Name) (i : ℕ) → AreTypes ts ns → field x ns ≡ Some i → IsType ts i
field_type ts [] x i h e = let d : ⊥ = cc in absurd d
field_type ts (b ∷ ns) x i h e = here (pointwise nat_eq x b.0) (field x ns) (field_type ts ns x i h.1) e
  where
    here : (t : Bool) (o : Option ℕ) → (o ≡ Some i → IsType ts i) → cond t (Some b.1) o ≡ Some i → IsType ts i
    here true o go q = let d : b.1 ≡ i = cc in subst (IsType ts) d h.0
    here false o go q = go q

pub name_there : (k : Known) (a : List Cell) (ns : Fields) (ws : List ℕ) (x : Name) (i : ℕ) → field x ns ≡ Some i → Ready k a ns ws → IsType a i
name_there k a ns ws x i e r = field_type a ns x i r.bound e

field_context : (s : Assignment) (ns : Fields) (x : Name) → field x (context s ns) ≡ option_map s.types (field x ns)
field_context s [] x = refl
field_context s (b ∷ ns) x = here (pointwise nat_eq x b.0) (field x ns) (field_context s ns x)
  where
    here : (t : Bool) (o : Option ℕ) → field x (context s ns) ≡ option_map s.types o → cond t (Some (s.types b.1)) (field x (context s ns)) ≡ option_map s.types (cond t (Some b.1) o)
    here true o e = refl
    here false o e = e

pub name_in : (r : Result (Unit {0}) Refusal) (k : Known) (a b : List Cell) (ns : Fields) (x : Name) (i w : ℕ) → field x ns ≡ Some i → Asked r a b (λ s. s.types i ≡ s.types w) → Asked r a b (λ s. NameTypes (sorts k) (context s ns) x (s.types w))
name_in r k a b ns x i w e f =
    let seen = λ (s : Assignment). field_context s ns x ∙ ap (option_map s.types) e in
    in_words r a b (λ s. s.types i ≡ s.types w) (λ s. NameTypes (sorts k) (context s ns) x (s.types w))
    (λ s h. subst (λ (o : Option Ground). VariableOr o (sorts k x) (s.types w)) (seen s) h) (λ s h. subst (λ (o : Option Ground). VariableOr o (sorts k x) (s.types w)) (sym (seen s)) h) f

pub name_out : (r : Result (Unit {0}) Refusal) (k : Known) (a b : List Cell) (ns : Fields) (x : Name) (w : ℕ) → field x ns ≡ None → Asked r a b (λ s. ValueTypes (sorts k x) (s.types w)) → Asked r a b (λ s. NameTypes (sorts k) (context s ns) x (s.types w))
name_out r k a b ns x w e f =
    let seen = λ (s : Assignment). field_context s ns x ∙ ap (option_map s.types) e in
    in_words r a b (λ s. ValueTypes (sorts k x) (s.types w)) (λ s. NameTypes (sorts k) (context s ns) x (s.types w))
    (λ s h. subst (λ (o : Option Ground). VariableOr o (sorts k x) (s.types w)) (seen s) h) (λ s h. subst (λ (o : Option Ground). VariableOr o (sorts k x) (s.types w)) (sym (seen s)) h) f

pub ready_like : (k : Known) (a : List Cell) (bs cs ns : Fields) (ws : List ℕ) → cs ≡ bs → Ready k a (onto bs ns) ws → Ready k a (onto cs ns) ws
ready_like k a bs cs ns ws e r = subst (λ (z : Fields). Ready k a (onto z ns) ws) (sym e) r

one_of : (args : List ℕ) → length args ≡ 1 → args ≡ slice_index_or args 0 0 ∷ []
one_of [] e = let d : ⊥ = cc in absurd d
one_of (i ∷ []) e = refl
one_of (i ∷ j ∷ is) e = absurd (omega (arith, e))

pub call_function : (holds : Bool) (old new : List Cell) (m : Meant) (p : Scheme) (args : List ℕ) (w : ℕ) → m ≡ by_function p → length args ≡ 1 → Checks holds old new (Calls p (slice_index_or args 0 0) w)
    → Checks holds old new (λ s. CallTypes (sort_of m) (map s.types args) (s.types w))
call_function ans old new m p args w e l c =
    let i = slice_index_or args 0 0 in
    subst (λ (z : Meant). Checks ans old new (λ s. CallTypes (sort_of z) (map s.types args) (s.types w))) (sym e)
    (subst (λ (z : List ℕ). Checks ans old new (λ s. CallTypes (sort_of (by_function p)) (map s.types z) (s.types w))) (sym (one_of args l))
    (say ans old new (Calls p i w) (λ s. CallTypes (sort_of (by_function p)) (s.types i ∷ []) (s.types w))
    (λ s q h. subst (λ (t : Ground). Instance p (arrow t (s.types w))) (sym (head_is _ _ h.1)) h.2) (λ s q h. (s.types i, refl, h)) c))

pub call_code : (holds : Bool) (old new : List Cell) (m : Meant) (n : ℕ) (args : List ℕ) (w : ℕ) → m ≡ by_code n → Checks holds old new (Applies n args w) → Checks holds old new (λ s. CallTypes (sort_of m) (map s.types args) (s.types w))
call_code ans old new m n args w e c = subst (λ (z : Meant). Checks ans old new (λ s. CallTypes (sort_of z) (map s.types args) (s.types w))) (sym e) c
