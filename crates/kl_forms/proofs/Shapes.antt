-- Checks put together, for primitives.
use Rattle.std.proofs.Common.{◌≡◌, ◌↔◌, ◌⊎◌, ⊎_elim, ℕ, Bool, true, false, List, [], ◌∷◌, length, map, Option, Some, None, option_map, Result, Ok, Err, IfOk, refl, sym, ap, ◌∙◌, subst, get_or, arith}
use Rattle.std.proofs.lemmas.List.{length-map}
use Rattle.kl_value.specs.declared.Kind.{Kind}
use Rattle.kl_value.specs.declared.Kind.TheVariants as kind
use Rattle.kl_type.specs.declared.Ty.{Ty}
use Rattle.kl_type.specs.Ground.{Ground, bool, int, str, coll, IsGround, ground_of}
use Rattle.kl_prim.specs.Table.{Entry, Row as Primitive, row_at}
use Rattle.kl_prim.specs.declared.rows.Shape.{Shape}
use Rattle.kl_prim.specs.declared.rows.Shape.TheVariants as shape
use Rattle.kl_outcome.specs.Typed.{ShapeTypes, RowTypes, PrimTypes}
use Rattle.kl_syntax.specs.declared.tree.Op.{Op}
use Rattle.kl_syntax.specs.declared.tree.Op.TheVariants as op
use Rattle.kl_meaning.specs.Typing.{OpTypes}
use Rattle.kl_meaning.specs.Run.{code_of}
use Rattle.kl_meaning.specs.Codes.{IsCalled, IsCalledRow, is_form}
use Rattle.kl_rows.specs.declared.cell.TypeNode.TheVariants.{AnyType}
use Rattle.kl_rows.specs.declared.cell.KindNode.TheVariants.{AnyKind}
use Rattle.kl_rows.specs.declared.cell.Cell.{Cell}
use Rattle.kl_rows.specs.declared.cell.Cell.TheVariants.{OfType, OfKind}
use Rattle.kl_rows.specs.declared.cell.Scalar.{Scalar}
use Rattle.kl_rows.specs.Places.{a_kind, IsFine, IsType, IsKind}
use Rattle.kl_rows.specs.Solutions.{Assignment, scalar_type}
use Rattle.kl_rows.specs.Making.{AddsCell}
use Rattle.kl_rows.proofs.CellLists.{sort_within}
use Rattle.kl_rows.proofs.Advancing.{Fact}
use Rattle.kl_forms.specs.Checks.{Checks, OpensItem, LeavesNone, Finds}
use Rattle.kl_forms.specs.Forms.{ItemsOf, DrawnFrom, Applies, Operates}
use Rattle.kl_forms.proofs.Steps.{Stable, both, cut, never, told, with_type, with_kind}
use Rattle.kl_forms.proofs.Opening.{type_within, stable_type, can_any, opened, refused}
use Rattle.kl_outcome.proofs.PrimLemmas.{one_or_two}

-- one check and another, where the first holds and where it does not
pub and_then : (one ans : Bool) (a b c : List Cell) (D E : Fact) → one ≡ true → Stable (length a) E → Checks one a b D → Checks ans b c E → Checks ans a c (λ s. D s × E s)
and_then one ans a b c D E e stable f g = both ans a b c D E stable (subst (λ o. Checks o a b D) e f) g

pub and_not : (one : Bool) (a b : List Cell) (D E : Fact) → one ≡ false → Checks one a b D → Checks false a b (λ s. D s × E s)
and_not one a b D E e f = cut a b D (λ s. D s × E s) (λ s h d. d.0) (subst (λ o. Checks o a b D) e f)

pub stable_same : (ns : List Cell) (i j : ℕ) → IsType ns i → IsType ns j → Stable (length ns) (λ s. s.types i ≡ s.types j)
stable_same ns i j h k s u a d = a.types i (type_within ns i h) ∙ (d ∙ sym (a.types j (type_within ns j k)))

pub stable_and : (n : ℕ) (D E : Fact) → Stable n D → Stable n E → Stable n (λ s. D s × E s)
stable_and n D E h k s u a d = (h s u a d.0, k s u a d.1)

pub head_is : (x y : Ground) → x ∷ [] ≡ y ∷ [] → x ≡ y
head_is x y e = cc

pub heads_are : (x y z w : Ground) → x ∷ y ∷ [] ≡ z ∷ w ∷ [] → (x ≡ z) × (y ≡ w)
heads_are x y z w e = (cc, cc)

pub one_is : (x y : Ground) → x ≡ y → x ∷ [] ≡ y ∷ []
one_is x y e = ap (λ t. t ∷ []) e

pub two_are : (x y z w : Ground) → x ≡ z → y ≡ w → x ∷ y ∷ [] ≡ z ∷ w ∷ []
two_are x y z w e f = ap (λ t. t ∷ y ∷ []) e ∙ ap (λ t. z ∷ t ∷ []) f

-- the items of a collection that is there are of a ground type
pub items_ground : (s : Assignment) (i : ℕ) (k : Kind) (t : Ground) → s.types i ≡ coll k t → IsGround t
items_ground s i k t e = subst IsGround e (s.types_ground i)

-- a collection, whose items some check speaks of
module _ (old mid new : List Cell) (item arg want : ℕ) (ans : Bool) (arg_there : IsType old arg) (there : IsType old want) where
  module _ (open_item : OpensItem old mid item (DrawnFrom arg)) where
    pub turned : (k : Kind) → Checks ans mid new (λ s. ItemsOf k want (s.types item) s) → Checks ans old new (λ s. (j : Kind) × (a : Ground) × (s.types arg ≡ coll j a) × (s.types want ≡ coll k a))
    turned k c = told ans old new _ _
        (λ s h d. (d.1, items_ground s arg d.0 d.1 d.2, (d.0, d.2), d.3))
        (λ s h d. (d.2.0, d.0, d.2.1, d.3))
        (opened old mid new item (DrawnFrom arg) ans open_item (ItemsOf k want) (λ t. stable_type old want (λ x. x ≡ coll k t) there) c)

    pub kept : Checks ans mid new (λ s. s.types want ≡ s.types arg) → Checks ans old new (λ s. ShapeTypes shape.CollSame (s.types arg ∷ []) (s.types want))
    kept c = told ans old new _ _
        (λ s h d. let e = head_is (s.types arg) (coll d.0 d.1) d.2 in (d.1, items_ground s arg d.0 d.1 e, (d.0, e), d.3 ∙ sym e))
        (λ s h d. (d.2.0, d.0, one_is (s.types arg) (coll d.2.0 d.0) d.2.1, d.3 ∙ d.2.1))
        (opened old mid new item (DrawnFrom arg) ans open_item (λ t s. s.types want ≡ s.types arg) (λ t. stable_same old want arg there arg_there) c)

    pub summed : Checks ans mid new (λ s. (s.types item ≡ int) × (s.types want ≡ int)) → Checks ans old new (λ s. ShapeTypes shape.CollSum (s.types arg ∷ []) (s.types want))
    summed c = told ans old new _ _
        (λ s h d. (int, tt, (d.0, head_is (s.types arg) (coll d.0 int) d.1), (refl, d.2)))
        (λ s h d. (d.2.0, one_is (s.types arg) (coll d.2.0 int) (d.2.1 ∙ ap (coll d.2.0) d.3.0), d.3.1))
        (opened old mid new item (DrawnFrom arg) ans open_item (λ t s. (t ≡ int) × (s.types want ≡ int)) (λ t. stable_type old want (λ x. (t ≡ int) × (x ≡ int)) there) c)

    pub counted : (b : Scalar) → Checks ans mid new (λ s. s.types want ≡ scalar_type b) → Checks ans old new (λ s. (k : Kind) × (a : Ground) × (s.types arg ≡ coll k a) × (s.types want ≡ scalar_type b))
    counted b c = told ans old new _ _
        (λ s h d. (d.1, items_ground s arg d.0 d.1 d.2, (d.0, d.2), d.3))
        (λ s h d. (d.2.0, d.0, d.2.1, d.3))
        (opened old mid new item (DrawnFrom arg) ans open_item (λ t s. s.types want ≡ scalar_type b) (λ t. stable_type old want (λ x. x ≡ scalar_type b) there) c)

  pub integers : OpensItem old mid item (ItemsOf kind.Set want) → Checks ans mid new (λ s. (s.types arg ≡ str) × (s.types item ≡ int)) → Checks ans old new (λ s. ShapeTypes shape.TextInts (s.types arg ∷ []) (s.types want))
  integers open_item c = told ans old new _ _
      (λ s h d. (int, tt, d.1, (head_is (s.types arg) str d.0, refl)))
      (λ s h d. (one_is (s.types arg) str d.3.0, d.2 ∙ ap (coll kind.Set) d.3.1))
      (opened old mid new item (ItemsOf kind.Set want) ans open_item (λ t s. (s.types arg ≡ str) × (t ≡ int)) (λ t. stable_type old arg (λ x. (x ≡ str) × (t ≡ int)) arg_there) c)

-- no collection
module _ (old new : List Cell) (arg want : ℕ) where
  module _ (none : LeavesNone old new (DrawnFrom arg)) where
    pub not_turned : (k : Kind) → Checks false old new (λ s. (j : Kind) × (a : Ground) × (s.types arg ≡ coll j a) × (s.types want ≡ coll k a))
    not_turned k = refused old new (DrawnFrom arg) _ none (λ s d. (d.1, items_ground s arg d.0 d.1 d.2, (d.0, d.2)))

    pub not_kept : Checks false old new (λ s. ShapeTypes shape.CollSame (s.types arg ∷ []) (s.types want))
    not_kept = refused old new (DrawnFrom arg) _ none (λ s d. let e = head_is (s.types arg) (coll d.0 d.1) d.2 in (d.1, items_ground s arg d.0 d.1 e, (d.0, e)))

    pub not_summed : Checks false old new (λ s. ShapeTypes shape.CollSum (s.types arg ∷ []) (s.types want))
    not_summed = refused old new (DrawnFrom arg) _ none (λ s d. (int, tt, (d.0, head_is (s.types arg) (coll d.0 int) d.1)))

    pub not_counted : (b : Scalar) → Checks false old new (λ s. (k : Kind) × (a : Ground) × (s.types arg ≡ coll k a) × (s.types want ≡ scalar_type b))
    not_counted b = refused old new (DrawnFrom arg) _ none (λ s d. (d.1, items_ground s arg d.0 d.1 d.2, (d.0, d.2)))

  pub no_integers : LeavesNone old new (ItemsOf kind.Set want) → Checks false old new (λ s. ShapeTypes shape.TextInts (s.types arg ∷ []) (s.types want))
  no_integers none = refused old new (ItemsOf kind.Set want) _ none (λ s d. (int, tt, d.1))

-- collections of collections of one kind
module _ (old mid made new : List Cell) (k item arg want : ℕ) (ans : Bool) (fine : IsFine old) (arg_there : IsType old arg) (there : IsType old want) (kinds : AddsCell old mid (OfKind AnyKind) k) (types : AddsCell mid made (OfType AnyType) item) where
  abbrev Flat : Kind → Ground → Fact
  Flat j t s = (s.types want ≡ coll j t) × (s.types arg ≡ coll j (s.types want))

  flat_stable : (ns : List Cell) → IsType ns arg → IsType ns want → (j : Kind) (t : Ground) → Stable (length ns) (Flat j t)
  flat_stable ns a b j t s u g d =
      let e = g.types want (type_within ns want b) in
      (e ∙ d.0, g.types arg (type_within ns arg a) ∙ (d.1 ∙ ap (coll j) (sym e)))

  kind_within : IsKind mid k
  kind_within = kinds.sort

  arg_mid : IsType mid arg
  arg_mid = kinds.keeps.sorts arg _ arg_there

  want_mid : IsType mid want
  want_mid = kinds.keeps.sorts want _ there

  pub flat : Checks ans made new (λ s. (s.types want ≡ coll (s.kinds k) (s.types item)) × (s.types arg ≡ coll (s.kinds k) (s.types want))) → Checks ans old new (λ s. ShapeTypes shape.Flatten (s.types arg ∷ []) (s.types want))
  flat c = told ans old new _ _
      (λ s h d. (let e = head_is (s.types arg) (coll d.0 (coll d.0 d.1)) d.2 in (d.0, tt, (d.1, items_ground s want d.0 d.1 d.3, tt, (d.3, e ∙ ap (coll d.0) (sym d.3))))))
      (λ s h d. (d.0, d.2.0, one_is (s.types arg) (coll d.0 (coll d.0 d.2.0)) (d.2.3.1 ∙ ap (coll d.0) d.2.3.0), d.2.3.0))
      (with_kind old mid k fine AnyKind (record { placed = tt; tidy = tt }) kinds ans new _ (λ j s. (t : Ground) × IsGround t × Unit {0} × Flat j t s)
      (λ j s u g d. (d.0, d.1, tt, flat_stable old arg_there there j d.0 s u g d.3)) (λ s e. e) (λ s e. e)
      (with_type mid made item kinds.fine AnyType (can_any mid) types ans new _ (λ t s. Flat (s.kinds k) t s)
      (λ t s u g d. subst (λ j. Flat j t u) (sym (g.kinds k (sort_within mid k a_kind kind_within))) (flat_stable mid arg_mid want_mid (s.kinds k) t s u g d)) (λ s e. e) (λ s e. e) c))

pub scalar_check : (old new : List Cell) (want : ℕ) (ans : Bool) (t : Ty) (b : Scalar) → ground_of t ≡ scalar_type b → Checks ans old new (λ s. ground_of t ≡ s.types want) → Checks ans old new (λ s. s.types want ≡ scalar_type b)
scalar_check old new want ans t b e c = told ans old new _ _ (λ s h d. e ∙ sym d) (λ s h d. sym d ∙ e) c

-- what a call found
pub finds_some : (o : Option ℕ) (item : ℕ) (old new : List Cell) (E : Ground → Fact) → o ≡ Some item → Finds o old new E → OpensItem old new item E
finds_some o item old new E e f = subst (λ o. Finds o old new E) e f

pub finds_none : (o : Option ℕ) (old new : List Cell) (E : Ground → Fact) → o ≡ None → Finds o old new E → LeavesNone old new E
finds_none o old new E e f = subst (λ o. Finds o old new E) e f

-- a kind and items, of a collection that is there
pub stable_coll : (ns : List Cell) (i k a : ℕ) → IsType ns i → IsKind ns k → IsType ns a → Stable (length ns) (λ s. s.types i ≡ coll (s.kinds k) (s.types a))
stable_coll ns i k a h j l s u g d =
    g.types i (type_within ns i h) ∙ (d ∙ (ap (λ x. coll x (s.types a)) (sym (g.kinds k (sort_within ns k a_kind j))) ∙ ap (coll (u.kinds k)) (sym (g.types a (type_within ns a l)))))

-- an arm of a match on the shape
pub if_ok : {A F : Type 0} (r : Result A F) (P Q : A → Type 0) → ((x : A) → P x → Q x) → IfOk r P → IfOk r Q
if_ok (Ok x) P Q go h = go x h
if_ok (Err e) P Q go h = tt

pub arm : {F : Type 0} (r : Result Bool F) (old new : List Cell) (sh one : Shape) (ts : Assignment → List Ground) (want : ℕ) (D : Fact) → sh ≡ one
    → ((s : Assignment) → ShapeTypes one (ts s) (s.types want) → D s) → ((s : Assignment) → D s → ShapeTypes one (ts s) (s.types want))
    → IfOk r (λ ans. Checks ans old new D) → IfOk r (λ ans. Checks ans old new (λ s. ShapeTypes sh (ts s) (s.types want)))
arm r old new sh one ts want D e go come h =
    subst (λ sh. IfOk r (λ ans. Checks ans old new (λ s. ShapeTypes sh (ts s) (s.types want)))) (sym e)
    (if_ok r (λ ans. Checks ans old new D) (λ ans. Checks ans old new (λ s. ShapeTypes one (ts s) (s.types want))) (λ ans c. told ans old new D _ (λ s x d. go s d) (λ s x d. come s d) c) h)

-- how many arguments there are

-- lists of one and of two
pub one_of : (xs : List ℕ) → length xs ≡ 1 → xs ≡ get_or xs 0 0 ∷ []
one_of [] e = absurd (omega arith)
one_of (x ∷ []) e = refl
one_of (x ∷ y ∷ xs) e = absurd (omega arith)

pub two_of : (xs : List ℕ) → length xs ≡ 2 → xs ≡ get_or xs 0 0 ∷ get_or xs 1 0 ∷ []
two_of [] e = absurd (omega arith)
two_of (x ∷ []) e = absurd (omega arith)
two_of (x ∷ y ∷ []) e = refl
two_of (x ∷ y ∷ z ∷ xs) e = absurd (omega arith)

-- a primitive by its row
same_row : (e : Entry) (o : Option Primitive) → Some e ≡ option_map (λ r. r.entry) o → (ts : List Ground) (t : Ground) → RowTypes o ts t ↔ ShapeTypes e.shape ts t
same_row e None h ts t = let z : ⊥ = cc in absurd z
same_row e (Some p) h ts t = let q : e ≡ p.entry = cc in (λ d. subst (λ x. ShapeTypes x.shape ts t) (sym q) d, λ d. subst (λ x. ShapeTypes x.shape ts t) q d)

no_row_types : (o : Option Primitive) → None ≡ option_map (λ r. r.entry) o → (ts : List Ground) (t : Ground) → RowTypes o ts t → ⊥
no_row_types None h ts t d = d
no_row_types (Some p) h ts t d = cc

module _ (old : List Cell) (code want : ℕ) (args : List ℕ) where
  pub no_primitive : IsFine old → None ≡ option_map (λ r. r.entry) (row_at code) → Checks false old old (Applies code args want)
  unfolding PrimTypes
  no_primitive fine e = never old (Applies code args want) fine (λ s h d. no_row_types (row_at code) e (map s.types args) (s.types want) d)

  module _ (e : Entry) (row : Some e ≡ option_map (λ r. r.entry) (row_at code)) where
    pub by_row : (new : List Cell) (ans : Bool) → Checks ans old new (λ s. ShapeTypes e.shape (map s.types args) (s.types want)) → Checks ans old new (Applies code args want)
    unfolding PrimTypes
    by_row new ans c = told ans old new _ _ (λ s h d. (same_row e (row_at code) row (map s.types args) (s.types want)).0 d) (λ s h d. (same_row e (row_at code) row (map s.types args) (s.types want)).1 d) c

    pub by_one : (new : List Cell) (ans : Bool) → length args ≡ 1 → Checks ans old new (λ s. ShapeTypes e.shape (s.types (get_or args 0 0) ∷ []) (s.types want)) → Checks ans old new (Applies code args want)
    by_one new ans size c = by_row new ans (subst (λ xs. Checks ans old new (λ s. ShapeTypes e.shape (map s.types xs) (s.types want))) (sym (one_of args size)) c)

    pub by_two : (new : List Cell) (ans : Bool) → length args ≡ 2 → Checks ans old new (λ s. ShapeTypes e.shape (s.types (get_or args 0 0) ∷ s.types (get_or args 1 0) ∷ []) (s.types want)) → Checks ans old new (Applies code args want)
    by_two new ans size c = by_row new ans (subst (λ xs. Checks ans old new (λ s. ShapeTypes e.shape (map s.types xs) (s.types want))) (sym (two_of args size)) c)

    pub not_so_many : IsFine old → (length args ≡ 1 → ⊥) → (length args ≡ 2 → ⊥) → Checks false old old (Applies code args want)
    not_so_many fine not_one not_two = by_row old false (never old _ fine (λ s h d. ⊎_elim
        (λ q. not_one (sym (length-map args s.types) ∙ q))
        (λ q. not_two (sym (length-map args s.types) ∙ q))
        (one_or_two e.shape (map s.types args) (s.types want) d)))

-- operators
pub op_applied : (c : Op) (old new : List Cell) (first second want : ℕ) (ans : Bool) (code : ℕ) → (c ≡ op.Or → ⊥) → (c ≡ op.And → ⊥) → (c ≡ op.Append → ⊥) → code ≡ code_of c
    → Checks ans old new (Applies code (first ∷ second ∷ []) want) → Checks ans old new (λ s. Operates c first second (s.types want) s)
op_applied c old new first second want ans code o a p e h = by c o a p (subst (λ k. Checks ans old new (Applies k (first ∷ second ∷ []) want)) e h)
  where
    by : (c : Op) → (c ≡ op.Or → ⊥) → (c ≡ op.And → ⊥) → (c ≡ op.Append → ⊥) → Checks ans old new (Applies (code_of c) (first ∷ second ∷ []) want) → Checks ans old new (λ s. Operates c first second (s.types want) s)
    by op.Or o a p h = absurd (o refl)
    by op.And o a p h = absurd (a refl)
    by op.Append o a p h = absurd (p refl)
    by op.Eq o a p h = h
    by op.Ne o a p h = h
    by op.Lt o a p h = h
    by op.Le o a p h = h
    by op.Gt o a p h = h
    by op.Ge o a p h = h
    by op.Add o a p h = h
    by op.Sub o a p h = h
    by op.Mul o a p h = h
    by op.Cat o a p h = h

pub op_alike : (c : Op) (old new : List Cell) (first second want : ℕ) (ans : Bool) → (c ≡ op.And) ⊎ (c ≡ op.Or) → Checks ans old new (λ s. (s.types first ≡ bool) × ((s.types second ≡ bool) × (s.types want ≡ bool))) → Checks ans old new (λ s. Operates c first second (s.types want) s)
op_alike c old new first second want ans e h =
    let flat : Checks ans old new (λ s. (s.types first ≡ bool) × (s.types second ≡ bool) × (s.types want ≡ bool)) = told ans old new _ _ (λ s k d. (d.0, (d.1, d.2))) (λ s k d. (d.0, d.1.0, d.1.1)) h in
    ⊎_elim
    (λ q. subst (λ c. Checks ans old new (λ s. Operates c first second (s.types want) s)) (sym q) flat)
    (λ q. subst (λ c. Checks ans old new (λ s. Operates c first second (s.types want) s)) (sym q) flat) e

module _ (old : List Cell) (first second : ℕ) (first_there : IsType old first) (second_there : IsType old second) where
  pub stable_op : (c : Op) (t : Ground) → Stable (length old) (Operates c first second t)
  stable_op c t s u a d =
      subst (λ x. OpTypes c x (u.types second) t) (sym (a.types first (type_within old first first_there)))
      (subst (λ x. OpTypes c (s.types first) x t) (sym (a.types second (type_within old second second_there))) d)

  module _ (want : ℕ) (there : IsType old want) where
    pub stable_kept : Stable (length old) (λ s. ShapeTypes shape.CollSame (s.types first ∷ []) (s.types want))
    stable_kept s u a d =
        (d.0, d.1, one_is (u.types first) (coll d.0 d.1) (a.types first (type_within old first first_there) ∙ head_is (s.types first) (coll d.0 d.1) d.2), a.types want (type_within old want there) ∙ d.3)

    abbrev Both : Fact
    Both s = (s.types second ≡ s.types first) × ShapeTypes shape.CollSame (s.types first ∷ []) (s.types want)

    append_told : (ans : Bool) (new : List Cell) → Checks ans old new Both → Checks ans old new (λ s. Operates op.Append first second (s.types want) s)
    append_told ans new c = told ans old new Both _
        (λ s h d. (d.3, (d.0, d.1, one_is (s.types first) (coll d.0 d.1) d.2, d.4 ∙ d.2)))
        (λ s h d. (let e = head_is (s.types first) (coll d.1.0 d.1.1) d.1.2 in (d.1.0, d.1.1, e, d.0, d.1.3 ∙ sym e)))
        c

    pub appends : (one ans : Bool) (mid new : List Cell) → one ≡ true → Checks one old mid (λ s. s.types second ≡ s.types first) → Checks ans mid new (λ s. ShapeTypes shape.CollSame (s.types first ∷ []) (s.types want)) → Checks ans old new (λ s. Operates op.Append first second (s.types want) s)
    appends one ans mid new e c d = append_told ans new (and_then one ans old mid new _ _ e stable_kept c d)

    pub no_append : (one : Bool) (mid : List Cell) → one ≡ false → Checks one old mid (λ s. s.types second ≡ s.types first) → Checks false old mid (λ s. Operates op.Append first second (s.types want) s)
    no_append one mid e c = append_told false mid (and_not one old mid _ _ e c)

-- the first items of a collection
module _ (old mid new : List Cell) (number all want : ℕ) (one ans : Bool) (all_there : IsType old all) (there : IsType old want) (check : Checks one old mid (λ s. s.types number ≡ int)) where
  abbrev Taken : Fact
  Taken s = ShapeTypes shape.Take (s.types number ∷ s.types all ∷ []) (s.types want)

  pub takes_items : one ≡ true → Checks ans mid new (λ s. ShapeTypes shape.CollSame (s.types all ∷ []) (s.types want)) → Checks ans old new Taken
  takes_items e c = told ans old new (λ s. (s.types number ≡ int) × ShapeTypes shape.CollSame (s.types all ∷ []) (s.types want)) Taken
      (λ s h d. (let w = heads_are (s.types number) (s.types all) int (coll d.0 d.1) d.2 in (w.0, (d.0, d.1, one_is (s.types all) (coll d.0 d.1) w.1, d.3))))
      (λ s h d. (d.1.0, d.1.1, two_are (s.types number) (s.types all) int (coll d.1.0 d.1.1) d.0 (head_is (s.types all) (coll d.1.0 d.1.1) d.1.2), d.1.3))
      (and_then one ans old mid new _ _ e (stable_kept old all all all_there all_there want there) check c)

  pub takes_none : one ≡ false → Checks false old mid Taken
  takes_none e = cut old mid (λ s. s.types number ≡ int) Taken (λ s h d. (heads_are (s.types number) (s.types all) int (coll d.0 d.1) d.2).0) (subst (λ o. Checks o old mid (λ s. s.types number ≡ int)) e check)

-- a primitive that may be called has no form of records for its shape
pub shape_called : (code : ℕ) (e : Entry) → Some e ≡ option_map (λ r. r.entry) (row_at code) → IsCalled code → is_form e.shape ≡ false
unfolding IsCalled
shape_called code e row h = by (row_at code) row h
  where
    by : (o : Option Primitive) → Some e ≡ option_map (λ r. r.entry) o → IsCalledRow o → is_form e.shape ≡ false
    by None q k = let z : ⊥ = cc in absurd z
    by (Some p) q k = let same : e ≡ p.entry = cc in subst (λ x. is_form x.shape ≡ false) (sym same) k
