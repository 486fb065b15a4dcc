-- Assignments changed at one number.
use Rattle.std.proofs.Common.{◌≡◌, ◌≢◌, ℕ, Bool, true, false, [], ◌∷◌, Some, None, nat_eq, refl, sym, ap, ◌∙◌, subst}
use mathlib.Core.Path.{ap₂}
use Rattle.std.specs.List.{AllByRecursion}
use Rattle.std.proofs.lemmas.Bool.{eq-eqb, ne_eqb}
use Rattle.kl_value.specs.declared.value.Kind.{Kind}
use Rattle.kl_type.specs.Ground.{Ground, Row, rec, var, coll, arrow, at, IsGround, IsRow}
use Rattle.kl_rows.specs.declared.cell.TypeNode.{TypeNode}
use Rattle.kl_rows.specs.declared.cell.TypeNode.TheVariants.{AnyType, Base, Rec, Var, Coll, TypeLink}
use Rattle.kl_rows.specs.declared.cell.KindNode.{KindNode}
use Rattle.kl_rows.specs.declared.cell.KindNode.TheVariants.{AnyKind, Fixed, KindLink}
use Rattle.kl_rows.specs.declared.cell.RowNode.{RowNode}
use Rattle.kl_rows.specs.declared.cell.RowNode.TheVariants.{AnyRow, NoRow, Front}
use Rattle.kl_rows.specs.declared.cell.Cell.{Cell}
use Rattle.kl_rows.specs.declared.cell.Cell.TheVariants.{OfType, OfFunction, OfRow, OfKind}
use Rattle.kl_rows.specs.Lists.{Fields}
use Rattle.kl_rows.specs.Places.{Parts}
use Rattle.kl_rows.specs.Solutions.{Assignment, Splits, TypeSays, FunctionSays, RowSays, KindSays, Says}
use Rattle.kl_base.proofs.Each.{all_map}

pub parts_on : (c : Cell) (P Q : ℕ → Type 0) → ((p : ℕ) → P p → Q p) → Parts c P → Parts c Q
parts_on (OfType AnyType) P Q go h = tt
parts_on (OfType (Base b)) P Q go h = tt
parts_on (OfType (Rec r)) P Q go h = go r h
parts_on (OfType (Var r)) P Q go h = go r h
parts_on (OfType (Coll k a)) P Q go h = (go k h.0, go a h.1)
parts_on (OfFunction a b) P Q go h = (go a h.0, go b h.1)
parts_on (OfType (TypeLink a)) P Q go h = go a h
parts_on (OfRow (AnyRow ls)) P Q go h = tt
parts_on (OfRow NoRow) P Q go h = tt
parts_on (OfRow (Front fs r)) P Q go h = (all_map (λ f. P f.1) (λ f. Q f.1) fs (λ f k. go f.1 k) h.0, go r h.1)
parts_on (OfKind AnyKind) P Q go h = tt
parts_on (OfKind (Fixed k)) P Q go h = tt
parts_on (OfKind (KindLink a)) P Q go h = go a h

-- assignments that are one but at a number
pub record Off (i : ℕ) (s u : Assignment) : Type 0 where
  pub types : (j : ℕ) → j ≢ i → u.types j ≡ s.types j
  pub functions : (j : ℕ) → j ≢ i → u.functions j ≡ s.functions j
  pub rows : (j : ℕ) → j ≢ i → u.rows j ≡ s.rows j
  pub kinds : (j : ℕ) → j ≢ i → u.kinds j ≡ s.kinds j

pub fronts_off : (i : ℕ) (s u : Assignment) (fs : Fields) (w e : Row) → Off i s u → AllByRecursion (λ f. f.1 ≢ i) fs → AllByRecursion (λ f. (at f.0 w ≡ Some (s.types f.1)) × (at f.0 e ≡ None)) fs
    → AllByRecursion (λ f. (at f.0 w ≡ Some (u.types f.1)) × (at f.0 e ≡ None)) fs
fronts_off i s u [] w e o p h = tt
fronts_off i s u (f ∷ fs) w e o p h = ((h.0.0 ∙ ap Some (sym (o.types f.1 p.0)), h.0.1), fronts_off i s u fs w e o p.1 h.1)

pub type_off : (i : ℕ) (s u : Assignment) (n : TypeNode) (t : Ground) → Off i s u → Parts (OfType n) (λ p. p ≢ i) → TypeSays n s t → TypeSays n u t
type_off i s u AnyType t o p h = tt
type_off i s u (Base b) t o p h = h
type_off i s u (Rec r) t o p h = h ∙ ap rec (sym (o.rows r p))
type_off i s u (Var r) t o p h = h ∙ ap var (sym (o.rows r p))
type_off i s u (Coll k a) t o p h = h ∙ ap₂ coll (sym (o.kinds k p.0)) (sym (o.types a p.1))
type_off i s u (TypeLink a) t o p h = h ∙ sym (o.types a p)

pub function_off : (i : ℕ) (s u : Assignment) (a b : ℕ) (t : Ground) → Off i s u → Parts (OfFunction a b) (λ p. p ≢ i) → FunctionSays a b s t → FunctionSays a b u t
function_off i s u a b t o p h = h ∙ ap₂ arrow (sym (o.types a p.0)) (sym (o.types b p.1))

pub row_off : (i : ℕ) (s u : Assignment) (n : RowNode) (w : Row) → Off i s u → Parts (OfRow n) (λ p. p ≢ i) → RowSays n s w → RowSays n u w
row_off i s u (AnyRow ls) w o p h = h
row_off i s u NoRow w o p h = h
row_off i s u (Front fs r) w o p h = subst (λ e. Splits fs u.types w e) (sym (o.rows r p.1)) (record { fronts = fronts_off i s u fs w (s.rows r) o p.0 h.fronts; others = h.others })

pub kind_off : (i : ℕ) (s u : Assignment) (n : KindNode) (k : Kind) → Off i s u → Parts (OfKind n) (λ p. p ≢ i) → KindSays n s k → KindSays n u k
kind_off i s u AnyKind k o p h = tt
kind_off i s u (Fixed j) k o p h = h
kind_off i s u (KindLink a) k o p h = h ∙ sym (o.kinds a p)

pub says_off : (i : ℕ) (s u : Assignment) (c : Cell) (j : ℕ) → Off i s u → j ≢ i → Parts c (λ p. p ≢ i) → Says c s j → Says c u j
says_off i s u (OfType n) j o d p h = subst (TypeSays n u) (sym (o.types j d)) (type_off i s u n (s.types j) o p h)
says_off i s u (OfFunction a b) j o d p h = subst (FunctionSays a b u) (sym (o.functions j d)) (function_off i s u a b (s.functions j) o p h)
says_off i s u (OfRow n) j o d p h = subst (RowSays n u) (sym (o.rows j d)) (row_off i s u n (s.rows j) o p h)
says_off i s u (OfKind n) j o d p h = subst (KindSays n u) (sym (o.kinds j d)) (kind_off i s u n (s.kinds j) o p h)

pub pick_at : {A : Type 0} → Bool → A → A → A
pick_at true a b = a
pick_at false a b = b

pub picked : {A : Type 0} (i : ℕ) (a b : A) → pick_at (nat_eq i i) a b ≡ a
unfolding pick_at
picked i a b = rw (eq-eqb i i refl) refl

pub passed : {A : Type 0} (j i : ℕ) (a b : A) → j ≢ i → pick_at (nat_eq j i) a b ≡ b
unfolding pick_at
passed j i a b d = rw (ne_eqb j i d) refl

pub ground_at : (b : Bool) (t u : Ground) → IsGround t → IsGround u → IsGround (pick_at b t u)
unfolding pick_at
ground_at true t u h k = h
ground_at false t u h k = k

pub row_at : (b : Bool) (t u : Row) → IsRow t → IsRow u → IsRow (pick_at b t u)
unfolding pick_at
row_at true t u h k = h
row_at false t u h k = k

pub with_type : Assignment → ℕ → (t : Ground) → IsGround t → Assignment
with_type s i t g = record { types = λ j. pick_at (nat_eq j i) t (s.types j); functions = s.functions; rows = s.rows; kinds = s.kinds; types_ground = λ j. ground_at (nat_eq j i) t (s.types j) g (s.types_ground j); rows_ground = s.rows_ground }

pub with_function : Assignment → ℕ → Ground → Assignment
with_function s i t = record { types = s.types; functions = λ j. pick_at (nat_eq j i) t (s.functions j); rows = s.rows; kinds = s.kinds; types_ground = s.types_ground; rows_ground = s.rows_ground }

pub with_row : Assignment → ℕ → (r : Row) → IsRow r → Assignment
with_row s i r g = record { types = s.types; functions = s.functions; rows = λ j. pick_at (nat_eq j i) r (s.rows j); kinds = s.kinds; types_ground = s.types_ground; rows_ground = λ j. row_at (nat_eq j i) r (s.rows j) g (s.rows_ground j) }

pub with_kind : Assignment → ℕ → Kind → Assignment
with_kind s i k = record { types = s.types; functions = s.functions; rows = s.rows; kinds = λ j. pick_at (nat_eq j i) k (s.kinds j); types_ground = s.types_ground; rows_ground = s.rows_ground }

pub type_put : (s : Assignment) (i : ℕ) (t : Ground) (g : IsGround t) → Off i s (with_type s i t g) × ((with_type s i t g).types i ≡ t)
unfolding with_type
type_put s i t g = (record { types = λ j d. passed j i t (s.types j) d; functions = λ j d. refl; rows = λ j d. refl; kinds = λ j d. refl }, picked i t (s.types i))

pub function_put : (s : Assignment) (i : ℕ) (t : Ground) → Off i s (with_function s i t) × ((with_function s i t).functions i ≡ t)
unfolding with_function
function_put s i t = (record { types = λ j d. refl; functions = λ j d. passed j i t (s.functions j) d; rows = λ j d. refl; kinds = λ j d. refl }, picked i t (s.functions i))

pub row_put : (s : Assignment) (i : ℕ) (r : Row) (g : IsRow r) → Off i s (with_row s i r g) × ((with_row s i r g).rows i ≡ r)
unfolding with_row
row_put s i r g = (record { types = λ j d. refl; functions = λ j d. refl; rows = λ j d. passed j i r (s.rows j) d; kinds = λ j d. refl }, picked i r (s.rows i))

pub kind_put : (s : Assignment) (i : ℕ) (k : Kind) → Off i s (with_kind s i k) × ((with_kind s i k).kinds i ≡ k)
unfolding with_kind
kind_put s i k = (record { types = λ j d. refl; functions = λ j d. refl; rows = λ j d. refl; kinds = λ j d. passed j i k (s.kinds j) d }, picked i k (s.kinds i))
