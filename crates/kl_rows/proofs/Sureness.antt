-- Types that the cells write out.
use Rattle.std.proofs.Common.{◌≡◌, ◌⊎◌, ◌↔◌, ⊎_elim, nat_eq, true≢false, ℕ, zero, suc, ◌+◌, ◌<◌, ◌≤◌, Bool, true, false, IsTrue, List, [], ◌∷◌, ◌++◌, length, take, take_all, get_or, Some, option_map, slice_get, refl, sym, ap, ◌∙◌, subst, arith}
use mathlib.Core.Path.{ap₂}
use Rattle.std.specs.Cmp.Lexicographic.{pointwise}
use Rattle.std.proofs.lemmas.Cmp.{nat_list_eq_equiv}
use Rattle.kl_type.proofs.RowLemmas.{told}
use Rattle.kl_rows.specs.Joining.{same_scalar}
use Rattle.kl_rows.proofs.Advancing.{absurd_true}
use Rattle.kl_type.specs.Ground.{Ground, Row, bool, int, str, rec, var, coll, arrow, no_row, row, IsGround, IsRow, row_by, ground_of}
use Rattle.kl_type.specs.Parts.{same_kind}
use Rattle.kl_type.specs.declared.ground.Ty.{Ty}
use Rattle.kl_type.specs.declared.ground.Ty.TheVariants as ty
use Rattle.kl_type.proofs.GroundLemmas.{ground-Rec, ground-Var, ground-Coll}
use Rattle.kl_value.specs.declared.value.Kind.{Kind}
use Rattle.kl_value.specs.declared.value.Kind.TheVariants as kind
use Rattle.kl_rows.specs.declared.cell.Scalar.{Scalar}
use Rattle.kl_rows.specs.declared.cell.Scalar.TheVariants as scalar
use Rattle.kl_rows.specs.declared.cell.TypeNode.{TypeNode}
use Rattle.kl_rows.specs.declared.cell.TypeNode.TheVariants.{AnyType, Base, Rec, Var, Coll, TypeLink}
use Rattle.kl_rows.specs.declared.cell.KindNode.{KindNode}
use Rattle.kl_rows.specs.declared.cell.KindNode.TheVariants.{AnyKind, Fixed, KindLink}
use Rattle.kl_rows.specs.declared.cell.RowNode.{RowNode}
use Rattle.kl_rows.specs.declared.cell.RowNode.TheVariants.{NoRow, Front}
use Rattle.kl_rows.specs.declared.cell.Cell.{Cell}
use Rattle.kl_rows.specs.declared.cell.Cell.TheVariants.{OfType, OfRow, OfKind}
use Rattle.kl_rows.specs.Lists.{Fields}
use Rattle.kl_rows.specs.Looking.{EndsAsType, EndsAsKind, IsBlock, Spells, SpellsEach, SpellsTo, KnownAs, Knows, KnowsRow, KnowsThere, is_base, is_fixed}
use Rattle.kl_rows.specs.Places.{sort_of, AreTypes, IsFine, IsType}
use Rattle.kl_rows.specs.Solutions.{Assignment, Solves, Splits, TypeSays, KindSays, scalar_type}
use Rattle.kl_rows.specs.Walking.{HasType, HasKind, HasRow, IsTypeRoot, IsKindRoot, LeadsIn, LinksType, LinksKind, FindsKind}
use Rattle.kl_rows.proofs.CellLists.{row_same}
use Rattle.kl_rows.proofs.Spots.{type_same}
use Rattle.kl_rows.proofs.TypeJoins.{kind_enough}
use Rattle.kl_rows.proofs.Expansions.{append_row, row_append, take_more, front_splits, split_same}

-- ---- links lead to one end

module _ (Link : ℕ → ℕ → Type 0) (one : (i a b : ℕ) → Link i a → Link i b → a ≡ b) where
  one_end : (k m i e f : ℕ) → LeadsIn Link k i e → LeadsIn Link m i f → ((a : ℕ) → Link e a → ⊥) → ((a : ℕ) → Link f a → ⊥) → e ≡ f
  one_end zero zero i e f p q x y = sym p ∙ q
  one_end zero (suc m) i e f p q x y = absurd (x q.0 (subst (λ z. Link z q.0) p q.1))
  one_end (suc k) zero i e f p q x y = absurd (y p.0 (subst (λ z. Link z p.0) q p.1))
  one_end (suc k) (suc m) i e f p q x y = one_end k m p.0 e f p.2 (subst (λ z. LeadsIn Link m z f) (sym (one i p.0 q.0 p.1 q.1)) q.2) x y

link_same : (a b : ℕ) → TypeLink a ≡ TypeLink b → a ≡ b
link_same a b h = cc

kind_same : (m n : KindNode) → Some (OfKind m) ≡ Some (OfKind n) → m ≡ n
kind_same m n h = cc

kind_link_same : (a b : ℕ) → KindLink a ≡ KindLink b → a ≡ b
kind_link_same a b h = cc

module _ (ns : List Cell) where
  type_stops : (e : ℕ) (n : TypeNode) → HasType ns e n → IsTypeRoot n → (a : ℕ) → HasType ns e (TypeLink a) → ⊥
  type_stops e n h r a l = subst IsTypeRoot (type_same _ _ (sym h ∙ l)) r

  kind_stops : (e : ℕ) (n : KindNode) → HasKind ns e n → IsKindRoot n → (a : ℕ) → HasKind ns e (KindLink a) → ⊥
  kind_stops e n h r a l = subst IsKindRoot (kind_same _ _ (sym h ∙ l)) r

  one_type : (i : ℕ) (m n : TypeNode) → EndsAsType ns i m → EndsAsType ns i n → IsTypeRoot m → IsTypeRoot n → m ≡ n
  one_type i m n h g x y =
      let e = one_end (LinksType ns) (λ j a b p q. link_same a b (type_same _ _ (sym p ∙ q))) h.links.steps g.links.steps i h.place g.place h.links.all g.links.all
      (type_stops h.place m h.here x) (type_stops g.place n g.here y) in
      type_same m n (sym h.here ∙ ap (slice_get ns) e ∙ g.here)

  one_kind : (i : ℕ) (m n : KindNode) → EndsAsKind ns i m → EndsAsKind ns i n → IsKindRoot m → IsKindRoot n → m ≡ n
  one_kind i m n h g x y =
      let e = one_end (LinksKind ns) (λ j a b p q. kind_link_same a b (kind_same _ _ (sym p ∙ q))) h.links.steps g.links.steps i h.place g.place h.links.all g.links.all
      (kind_stops h.place m h.here x) (kind_stops g.place n g.here y) in
      kind_same m n (sym h.here ∙ ap (slice_get ns) e ∙ g.here)

  known_end : (i : ℕ) (n : TypeNode) → KnownAs ns i n → EndsAsType ns i n
  known_end i n h = record { place = h.place; links = h.links; here = h.here }

  -- what a type ends as is what is known of it
  is_known : (i : ℕ) (m n : TypeNode) → KnownAs ns i n → EndsAsType ns i m → IsTypeRoot m → n ≡ m
  is_known i m n h e r = one_type i n m (known_end i n h) e h.no_link r

  link_type : (k i e : ℕ) (n : TypeNode) → LeadsIn (LinksType ns) k i e → HasType ns e n → IsType ns i
  link_type zero i e n p h = ap (option_map sort_of) (subst (λ z. HasType ns z n) (sym p) h)
  link_type (suc k) i e n p h = ap (option_map sort_of) p.1

  ends_type : (i : ℕ) (n : TypeNode) → EndsAsType ns i n → IsType ns i
  ends_type i n h = link_type h.links.steps i h.place n h.links.all h.here

  pub spells_type : (t : Ground) (i : ℕ) → Spells ns i t → IsType ns i
  spells_type bool i h = ends_type i _ h
  spells_type int i h = ends_type i _ h
  spells_type str i h = ends_type i _ h
  spells_type (rec r) i h = ends_type i _ h.2
  spells_type (var r) i h = ends_type i _ h.2
  spells_type (coll k t) i h = ends_type i _ h.2
  spells_type (arrow a b) i h = absurd h

-- ---- what is written out is so in each solution

module _ (ns : List Cell) (s : Assignment) (g : Solves ns s) where
  types_on : (k i e : ℕ) → LeadsIn (LinksType ns) k i e → s.types e ≡ s.types i
  types_on zero i e p = ap s.types (sym p)
  types_on (suc k) i e p = types_on k p.0 e p.2 ∙ sym (g.each i (OfType (TypeLink p.0)) p.1)

  kinds_on : (k i e : ℕ) → LeadsIn (LinksKind ns) k i e → s.kinds e ≡ s.kinds i
  kinds_on zero i e p = ap s.kinds (sym p)
  kinds_on (suc k) i e p = kinds_on k p.0 e p.2 ∙ sym (g.each i (OfKind (KindLink p.0)) p.1)

  ended : (i : ℕ) (n : TypeNode) → EndsAsType ns i n → TypeSays n s (s.types i)
  ended i n h = subst (TypeSays n s) (types_on h.links.steps i h.place h.links.all) (g.each h.place (OfType n) h.here)

  kind_ended : (i : ℕ) (n : KindNode) → EndsAsKind ns i n → KindSays n s (s.kinds i)
  kind_ended i n h = subst (KindSays n s) (kinds_on h.links.steps i h.place h.links.all) (g.each h.place (OfKind n) h.here)

  block_row : (a : ℕ) (fs : Fields) (r : Row) → IsRow r → IsBlock ns a fs → row_by s.types fs ≡ r → s.rows a ≡ r
  block_row a fs r p b same =
      let none : s.rows b.rest ≡ no_row = g.each b.rest (OfRow NoRow) b.bare in
      let splits : Splits fs s.types (s.rows a) no_row = subst (Splits fs s.types (s.rows a)) none (g.each a (OfRow (Front fs b.rest)) b.here) in
      let made : Splits fs s.types r no_row = subst (λ w. Splits fs s.types w no_row) same (front_splits s.types fs (subst IsRow (sym same) p)) in
      split_same s.types fs (s.rows a) r no_row (s.rows_ground a) p splits made

  mutual
    pub spelled : (t : Ground) (i : ℕ) → IsGround t → Spells ns i t → s.types i ≡ t
    spelled bool i p h = ended i _ h
    spelled int i p h = ended i _ h
    spelled str i p h = ended i _ h
    spelled (rec r) i p h = ended i _ h.2 ∙ ap rec (block_row h.0 h.1 r p h.3 (spelled_each r h.1 p h.4))
    spelled (var r) i p h = ended i _ h.2 ∙ ap var (block_row h.0 h.1 r p.1 h.3 (spelled_each r h.1 p.1 h.4))
    spelled (coll k t) i p h = ended i _ h.2 ∙ ap₂ coll (kind_ended h.0 _ h.3) (spelled t h.1 p h.4)
    spelled (arrow a b) i p h = absurd h

    spelled_each : (r : Row) (fs : Fields) → IsRow r → SpellsEach ns fs r → row_by s.types fs ≡ r
    spelled_each no_row fs p h = ap (row_by s.types) h
    spelled_each (row l t r) fs p h = ap (row_by s.types) h.2 ∙ ap₂ (row l) (spelled t h.0 p.1 h.3) (spelled_each r h.1 p.2 h.4)

pub known_there : (ns : List Cell) (i : ℕ) (t : Ty) (b : Bool) → Knows b ns i t → KnowsThere b ns i t
known_there ns i t b k = record {
  spelled = k;
  there = λ y. spells_type ns (ground_of t) i (k.0 y);
  says = λ y p s g. spelled ns s g (ground_of t) i p (k.0 y);
}

pub no_type_there : (ns : List Cell) (i : ℕ) (t : Ty) (b : Bool) → IsTrue b ↔ IsType ns i → b ≡ false → KnowsThere false ns i t
no_type_there ns i t b is off = known_there ns i t false (λ y. let z : ⊥ = cc in absurd z, λ h. sym off ∙ is.1 (spells_type ns (ground_of t) i h))

-- ---- types without parts

scalar_enough : (a b : Scalar) → IsTrue (same_scalar a b) → a ≡ b
scalar_enough scalar.Bool scalar.Bool h = refl
scalar_enough scalar.Int scalar.Int h = refl
scalar_enough scalar.Str scalar.Str h = refl
scalar_enough scalar.Bool scalar.Int h = absurd_true _ h
scalar_enough scalar.Bool scalar.Str h = absurd_true _ h
scalar_enough scalar.Int scalar.Bool h = absurd_true _ h
scalar_enough scalar.Int scalar.Str h = absurd_true _ h
scalar_enough scalar.Str scalar.Bool h = absurd_true _ h
scalar_enough scalar.Str scalar.Int h = absurd_true _ h

scalar_itself : (a : Scalar) → IsTrue (same_scalar a a)
scalar_itself scalar.Bool = refl
scalar_itself scalar.Int = refl
scalar_itself scalar.Str = refl

base_is : (n : TypeNode) (x : Scalar) → IsTrue (is_base n x) → n ≡ Base x
base_is (Base a) x h = ap Base (scalar_enough a x h)
base_is AnyType x h = let z : ⊥ = cc in absurd z
base_is (Rec r) x h = let z : ⊥ = cc in absurd z
base_is (Var r) x h = let z : ⊥ = cc in absurd z
base_is (Coll k a) x h = let z : ⊥ = cc in absurd z
base_is (TypeLink a) x h = let z : ⊥ = cc in absurd z

scalar_spells : (ns : List Cell) (i : ℕ) (x : Scalar) → EndsAsType ns i (Base x) ↔ Spells ns i (scalar_type x)
scalar_spells ns i scalar.Bool = (λ h. h, λ h. h)
scalar_spells ns i scalar.Int = (λ h. h, λ h. h)
scalar_spells ns i scalar.Str = (λ h. h, λ h. h)

pub knows_scalar : (ns : List Cell) (i : ℕ) (b : Bool) (t : Ty) (n : TypeNode) (x : Scalar) → ground_of t ≡ scalar_type x → KnownAs ns i n → b ≡ is_base n x → Knows b ns i t
knows_scalar ns i b t n x is h e = (
  λ y. subst (Spells ns i) (sym is) ((scalar_spells ns i x).0 (subst (EndsAsType ns i) (base_is n x (subst IsTrue e y)) (known_end ns i n h))),
  λ k.
      let same : n ≡ Base x = is_known ns i (Base x) n h ((scalar_spells ns i x).1 (subst (Spells ns i) is k)) tt in
      subst IsTrue (sym e) (subst (λ m. IsTrue (is_base m x)) (sym same) (scalar_itself x)),
)

-- ---- records, variants and collections

rec_same : (a b : ℕ) → Rec a ≡ Rec b → a ≡ b
rec_same a b h = cc

var_same : (a b : ℕ) → Var a ≡ Var b → a ≡ b
var_same a b h = cc

coll_same : (j k a b : ℕ) → Coll j a ≡ Coll k b → (j ≡ k) × (a ≡ b)
coll_same j k a b h = (cc, cc)

pub knows_record : (ns : List Cell) (i r : ℕ) (b : Bool) (t : Ty) (fs gs : List (List ℕ × Ty)) (n : TypeNode) → t ≡ ty.Rec fs → gs ≡ fs → KnownAs ns i n → n ≡ Rec r → KnowsRow b ns r gs → Knows b ns i t
knows_record ns i r b t fs gs n e f h z k =
    let is : ground_of t ≡ rec (row_by ground_of fs) = ap ground_of e ∙ ground-Rec fs in
    let m = subst (λ hs. KnowsRow b ns r hs) f k in (
      λ y. let o = m.0 y in subst (Spells ns i) (sym is) (r, o.0, subst (EndsAsType ns i) z (known_end ns i n h), o.1, o.2),
      λ q.
          let o : Spells ns i (rec (row_by ground_of fs)) = subst (Spells ns i) is q in
          let same : o.0 ≡ r = rec_same o.0 r (sym (is_known ns i (Rec o.0) n h o.2 tt) ∙ z) in
          m.1 (o.1, subst (λ a. IsBlock ns a o.1) same o.3, o.4),
    )

pub knows_variant : (ns : List Cell) (i r : ℕ) (b : Bool) (t : Ty) (fs gs : List (List ℕ × Ty)) (n : TypeNode) → t ≡ ty.Var fs → gs ≡ fs → KnownAs ns i n → n ≡ Var r → KnowsRow b ns r gs → Knows b ns i t
knows_variant ns i r b t fs gs n e f h z k =
    let is : ground_of t ≡ var (row_by ground_of fs) = ap ground_of e ∙ ground-Var fs in
    let m = subst (λ hs. KnowsRow b ns r hs) f k in (
      λ y. let o = m.0 y in subst (Spells ns i) (sym is) (r, o.0, subst (EndsAsType ns i) z (known_end ns i n h), o.1, o.2),
      λ q.
          let o : Spells ns i (var (row_by ground_of fs)) = subst (Spells ns i) is q in
          let same : o.0 ≡ r = var_same o.0 r (sym (is_known ns i (Var o.0) n h o.2 tt) ∙ z) in
          m.1 (o.1, subst (λ a. IsBlock ns a o.1) same o.3, o.4),
    )

pub knows_coll : (ns : List Cell) (i j a : ℕ) (b c : Bool) (t : Ty) (k : Kind) (u v : Ty) (n : TypeNode) → t ≡ ty.Coll k u → v ≡ u → KnownAs ns i n → n ≡ Coll j a → IsTrue c ↔ EndsAsKind ns j (Fixed k) → c ≡ true → Knows b ns a v → Knows b ns i t
knows_coll ns i j a b c t k u v n e f h z q w m =
    let is : ground_of t ≡ coll k (ground_of u) = ap ground_of e ∙ ground-Coll k u in
    let d = subst (λ x. Knows b ns a x) f m in (
      λ y. subst (Spells ns i) (sym is) (j, a, subst (EndsAsType ns i) z (known_end ns i n h), q.0 (subst IsTrue (sym w) refl), d.0 y),
      λ p.
          let o : Spells ns i (coll k (ground_of u)) = subst (Spells ns i) is p in
          let same = coll_same o.0 j o.1 a (sym (is_known ns i (Coll o.0 o.1) n h o.2 tt) ∙ z) in
          d.1 (subst (λ x. Spells ns x (ground_of u)) same.1 o.4),
    )

-- where the kind is not known to be this one
pub other_kind : (ns : List Cell) (i j a : ℕ) (c : Bool) (t : Ty) (k : Kind) (u : Ty) (n : TypeNode) → t ≡ ty.Coll k u → KnownAs ns i n → n ≡ Coll j a → IsTrue c ↔ EndsAsKind ns j (Fixed k) → c ≡ false → Knows false ns i t
other_kind ns i j a c t k u n e h z q w =
    let is : ground_of t ≡ coll k (ground_of u) = ap ground_of e ∙ ground-Coll k u in (
      λ y. let x : ⊥ = cc in absurd x,
      λ p.
          let o : Spells ns i (coll k (ground_of u)) = subst (Spells ns i) is p in
          let same = coll_same o.0 j o.1 a (sym (is_known ns i (Coll o.0 o.1) n h o.2 tt) ∙ z) in
          subst IsTrue w (q.1 (subst (λ x. EndsAsKind ns x (Fixed k)) same.0 o.3)),
    )

-- of another form
pub no_record : (ns : List Cell) (i : ℕ) (t : Ty) (fs : List (List ℕ × Ty)) (n : TypeNode) → t ≡ ty.Rec fs → KnownAs ns i n → ((r : ℕ) → n ≡ Rec r → ⊥) → Knows false ns i t
no_record ns i t fs n e h off = (
  λ y. let x : ⊥ = cc in absurd x,
  λ p. let o : Spells ns i (rec (row_by ground_of fs)) = subst (Spells ns i) (ap ground_of e ∙ ground-Rec fs) p in absurd (off o.0 (is_known ns i (Rec o.0) n h o.2 tt)),
)

pub no_variant : (ns : List Cell) (i : ℕ) (t : Ty) (fs : List (List ℕ × Ty)) (n : TypeNode) → t ≡ ty.Var fs → KnownAs ns i n → ((r : ℕ) → n ≡ Var r → ⊥) → Knows false ns i t
no_variant ns i t fs n e h off = (
  λ y. let x : ⊥ = cc in absurd x,
  λ p. let o : Spells ns i (var (row_by ground_of fs)) = subst (Spells ns i) (ap ground_of e ∙ ground-Var fs) p in absurd (off o.0 (is_known ns i (Var o.0) n h o.2 tt)),
)

pub no_coll : (ns : List Cell) (i : ℕ) (t : Ty) (k : Kind) (u : Ty) (n : TypeNode) → t ≡ ty.Coll k u → KnownAs ns i n → ((j a : ℕ) → n ≡ Coll j a → ⊥) → Knows false ns i t
no_coll ns i t k u n e h off = (
  λ y. let x : ⊥ = cc in absurd x,
  λ p. let o : Spells ns i (coll k (ground_of u)) = subst (Spells ns i) (ap ground_of e ∙ ground-Coll k u) p in absurd (off o.0 o.1 (is_known ns i (Coll o.0 o.1) n h o.2 tt)),
)

-- ---- kinds

kind_itself : (k : Kind) → IsTrue (same_kind k k)
kind_itself kind.Set = refl
kind_itself kind.Bag = refl
kind_itself kind.List = refl

fixed_is : (n : KindNode) (k : Kind) → IsTrue (is_fixed n k) → n ≡ Fixed k
fixed_is (Fixed j) k h = ap Fixed (kind_enough j k h)
fixed_is AnyKind k h = let z : ⊥ = cc in absurd z
fixed_is (KindLink a) k h = let z : ⊥ = cc in absurd z

pub kind_known : (ns : List Cell) (i found : ℕ) (b : Bool) (n : KindNode) (k : Kind) → FindsKind ns i found → HasKind ns found n → b ≡ is_fixed n k → IsTrue b ↔ EndsAsKind ns i (Fixed k)
kind_known ns i found b n k f h e =
    let here : EndsAsKind ns i n = record { place = found; links = f.links; here = h } in
    let root : IsKindRoot n = subst IsKindRoot (kind_same _ _ (sym f.root.here ∙ h)) f.root.no_link in (
      λ y. subst (EndsAsKind ns i) (fixed_is n k (subst IsTrue e y)) here,
      λ q.
          let same : n ≡ Fixed k = one_kind ns i n (Fixed k) here q root tt in
          subst IsTrue (sym e) (subst (λ m. IsTrue (is_fixed m k)) (sym same) (kind_itself k)),
    )

-- ---- rows

front_same : (fs gs : Fields) (r q : ℕ) → Front fs r ≡ Front gs q → (fs ≡ gs) × (r ≡ q)
front_same fs gs r q h = (cc, cc)

pub a_block : (ns : List Cell) (i r : ℕ) (n : RowNode) (numbers ms : Fields) (b : Bool) → HasRow ns i n → n ≡ Front numbers r → ms ≡ numbers → IsTrue b ↔ HasRow ns r NoRow → b ≡ true → IsBlock ns i ms
a_block ns i r n numbers ms b h e f bare y = record {
  rest = r;
  here = h ∙ ap (λ m. Some (OfRow m)) e ∙ ap (λ fs. Some (OfRow (Front fs r))) (sym f);
  bare = bare.0 (subst IsTrue (sym y) refl);
}

pub block_types : (ns : List Cell) (i r : ℕ) (n : RowNode) (numbers ms : Fields) → IsFine ns → HasRow ns i n → n ≡ Front numbers r → ms ≡ numbers → AreTypes ns ms
block_types ns i r n numbers ms fine h e f = subst (AreTypes ns) (sym f) (fine.placed i (OfRow (Front numbers r)) (h ∙ ap (λ m. Some (OfRow m)) e)).0

one_block : (ns : List Cell) (i : ℕ) (fs gs : Fields) → IsBlock ns i fs → IsBlock ns i gs → fs ≡ gs
one_block ns i fs gs a b = (front_same fs gs a.rest b.rest (row_same _ _ (sym a.here ∙ b.here))).0

-- ---- fields

each_length : (ns : List Cell) (numbers : Fields) (fs : List (List ℕ × Ty)) → SpellsEach ns numbers (row_by ground_of fs) → length numbers ≡ length fs
each_length ns numbers [] h = ap length h
each_length ns numbers (f ∷ fs) h = ap length h.2 ∙ ap suc (each_length ns h.1 fs h.4)

each_at : (ns : List Cell) (numbers : Fields) (fs : List (List ℕ × Ty)) (k : ℕ) (m : List ℕ × ℕ) (f : List ℕ × Ty) → SpellsEach ns numbers (row_by ground_of fs) → k < length fs → m ≡ get_or numbers k m → f ≡ get_or fs k f
    → (m.0 ≡ f.0) × Spells ns m.1 (ground_of f.1)
each_at ns numbers [] k m f h lt em ef = absurd (omega arith)
each_at ns numbers (g ∷ fs) zero m f h lt em ef =
    let x : m ≡ (g.0, h.0) = em ∙ ap (λ z. get_or z 0 m) h.2 in
    (ap (λ z. z.0) x ∙ sym (ap (λ z. z.0) ef), subst (λ z. Spells ns z.1 (ground_of f.1)) (sym x) (subst (λ z. Spells ns h.0 (ground_of z.1)) (sym ef) h.3))
each_at ns numbers (g ∷ fs) (suc k) m f h lt em ef = each_at ns h.1 fs k m f h.4 (omega arith) (em ∙ ap (λ z. get_or z (suc k) m) h.2) ef

each_append : (ns : List Cell) (r q : Row) (fs gs : Fields) → SpellsEach ns fs r → SpellsEach ns gs q → SpellsEach ns (fs ++ gs) (append_row r q)
each_append ns no_row q fs gs h k = subst (λ z. SpellsEach ns (z ++ gs) q) (sym h) k
each_append ns (row l t r) q fs gs h k = (h.0, h.1 ++ gs, ap (λ z. z ++ gs) h.2, h.3, each_append ns r q h.1 gs h.4 k)

pub none_spelled : (ns : List Cell) (numbers : Fields) (fs : List (List ℕ × Ty)) → SpellsTo ns numbers fs 0
none_spelled ns numbers fs = refl

same_labels : (b : Bool) (l m : List ℕ) → b ≡ pointwise nat_eq l m → b ≡ true → l ≡ m
same_labels b l m e h = ⊎_elim (λ p. p.1) (λ p. absurd (true≢false (sym h ∙ e ∙ p.0))) (told l m)

other_labels : (b : Bool) (l m : List ℕ) → b ≡ pointwise nat_eq l m → b ≡ false → l ≡ m → ⊥
other_labels b l m e h q = true≢false (sym (subst (λ k. pointwise nat_eq l k ≡ true) q (nat_list_eq_equiv.refl l)) ∙ sym e ∙ h)

pub knows_more : (ns : List Cell) (numbers : Fields) (fs : List (List ℕ × Ty)) (k : ℕ) (m : List ℕ × ℕ) (f : List ℕ × Ty) (a b : Bool) → k < length fs → length numbers ≡ length fs → m ≡ get_or numbers k m → f ≡ get_or fs k f
    → a ≡ pointwise nat_eq m.0 f.0 → a ≡ true → b ≡ true → Knows b ns m.1 f.1 → SpellsTo ns numbers fs k → SpellsTo ns numbers fs (k + 1)
knows_more ns numbers fs k m f a b lt size em ef named y t h to =
    let one : SpellsEach ns (m ∷ []) (row f.0 (ground_of f.1) no_row) =
    (m.1, [], ap (λ l. (l, m.1) ∷ []) (same_labels a m.0 f.0 named y), h.0 (subst IsTrue (sym t) refl), refl) in
    subst (λ z. SpellsEach ns z (row_by ground_of (take (k + 1) fs))) (sym (take_more numbers k m (omega arith) em))
    (subst (SpellsEach ns (take k numbers ++ m ∷ [])) (sym (ap (row_by ground_of) (take_more fs k f lt ef) ∙ row_append ground_of (take k fs) (f ∷ [])))
    (each_append ns (row_by ground_of (take k fs)) (row f.0 (ground_of f.1) no_row) (take k numbers) (m ∷ []) to one))

pub knows_all : (ns : List Cell) (i : ℕ) (numbers : Fields) (fs : List (List ℕ × Ty)) (k : ℕ) → length fs ≤ k → length numbers ≡ length fs → IsBlock ns i numbers → SpellsTo ns numbers fs k → KnowsRow true ns i fs
knows_all ns i numbers fs k le size block to = (
  λ y. (numbers, block, subst (λ z. SpellsEach ns z (row_by ground_of fs)) (take_all k numbers (omega arith)) (subst (λ z. SpellsEach ns (take k numbers) (row_by ground_of z)) (take_all k fs le) to)),
  λ h. refl,
)

-- where it is not one block of these fields
pub block_lacks : (ns : List Cell) (i : ℕ) (fs : List (List ℕ × Ty)) → ((numbers : Fields) → IsBlock ns i numbers → SpellsEach ns numbers (row_by ground_of fs) → ⊥) → KnowsRow false ns i fs
block_lacks ns i fs off = (λ y. let x : ⊥ = cc in absurd x, λ h. absurd (off h.0 h.1 h.2))

module _ (ns : List Cell) (i : ℕ) (numbers : Fields) (fs : List (List ℕ × Ty)) (block : IsBlock ns i numbers) where
  here_too : (ms : Fields) → IsBlock ns i ms → SpellsEach ns ms (row_by ground_of fs) → SpellsEach ns numbers (row_by ground_of fs)
  here_too ms b h = subst (λ z. SpellsEach ns z (row_by ground_of fs)) (one_block ns i ms numbers b block) h

  pub other_length : (length numbers ≡ length fs → ⊥) → KnowsRow false ns i fs
  other_length off = block_lacks ns i fs (λ ms b h. off (each_length ns numbers fs (here_too ms b h)))

  module _ (k : ℕ) (m : List ℕ × ℕ) (f : List ℕ × Ty) (lt : k < length fs) (em : m ≡ get_or numbers k m) (ef : f ≡ get_or fs k f) where
    pub other_label : (a : Bool) → a ≡ pointwise nat_eq m.0 f.0 → a ≡ false → KnowsRow false ns i fs
    other_label a e off = block_lacks ns i fs (λ ms b h. other_labels a m.0 f.0 e off (each_at ns numbers fs k m f (here_too ms b h) lt em ef).0)

    pub other_field : (b : Bool) → Knows b ns m.1 f.1 → b ≡ false → KnowsRow false ns i fs
    other_field b h off = block_lacks ns i fs (λ ms c q. true≢false (sym (h.1 (each_at ns numbers fs k m f (here_too ms c q) lt em ef).1) ∙ off))
