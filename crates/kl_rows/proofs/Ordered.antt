-- Cells that are marked in an order, each after its parts, have finite types, rows and kinds.
use Rattle.std.proofs.Common.{◌≡◌, ◌≢◌, inl, inr, ⊎_elim, ℕ, ◌<◌, Bool, true, false, ◌&&◌, List, [], ◌∷◌, ◌++◌, length, Some, None, slice_get, refl, sym, ap, ◌∙◌, subst, arith, length-append, true≢false}
use Rattle.std.specs.List.{AllByRecursion}
use Rattle.std.proofs.lemmas.Bool.{cases_eq, eq-eqb, ne_eqb}
use Rattle.std.proofs.lemmas.Option.{same_Some, slice_get_within}
use Rattle.kl_base.specs.Fields.{field}
use Rattle.kl_value.specs.declared.value.Kind.{Kind}
use Rattle.kl_value.specs.declared.value.Kind.TheVariants as kind
use Rattle.kl_type.specs.Ground.{Ground, Row, int, rec, var, coll, arrow, no_row, row, at, IsGround, IsRow}
use Rattle.kl_type.proofs.RowLemmas.{put, put_row, at_put, at_put_other, at_there, one_row, none_some}
use Rattle.kl_rows.specs.declared.cell.Scalar.{Scalar}
use Rattle.kl_rows.specs.declared.cell.Scalar.TheVariants as scalar
use Rattle.kl_rows.specs.declared.cell.TypeNode.{TypeNode}
use Rattle.kl_rows.specs.declared.cell.TypeNode.TheVariants.{AnyType, Base, Rec, Var, Coll, TypeLink}
use Rattle.kl_rows.specs.declared.cell.KindNode.{KindNode}
use Rattle.kl_rows.specs.declared.cell.KindNode.TheVariants.{AnyKind, Fixed, KindLink}
use Rattle.kl_rows.specs.declared.cell.RowNode.{RowNode}
use Rattle.kl_rows.specs.declared.cell.RowNode.TheVariants.{AnyRow, NoRow, Front}
use Rattle.kl_rows.specs.declared.cell.Cell.{Cell}
use Rattle.kl_rows.specs.declared.cell.Cell.TheVariants.{OfType, OfFunction, OfRow, OfKind}
use Rattle.kl_rows.specs.declared.finite.Mark.{Mark}
use Rattle.kl_rows.specs.declared.finite.Mark.TheVariants.{Unseen, Full, Bare}
use Rattle.kl_rows.specs.Lists.{Fields}
use Rattle.kl_rows.specs.Places.{Parts, a_row, IsPlaced, IsIn, Lacks, at_open, at_none, at_front, Differ, IsFine}
use Rattle.kl_rows.specs.Solutions.{Assignment, Splits, scalar_type, TypeSays, FunctionSays, RowSays, KindSays, Says, Solves}
use Rattle.kl_rows.specs.Finite.{Solvable, Order, mark_of, IsOrder, is_seen, full_if, full_only, all_seen, type_mark, front_mark, row_mark, next_mark}
use Rattle.kl_rows.proofs.CellLists.{stands}
use Rattle.kl_base.proofs.Each.{all_map}
use Rattle.kl_rows.proofs.ListLemmas.{Label, field_here, field_there}
use Rattle.kl_rows.proofs.Advancing.{row_of}
use Rattle.kl_rows.proofs.Assigning.{parts_on, Off, type_off, function_off, row_off, kind_off, says_off, with_type, with_function, with_row, with_kind, type_put, function_put, row_put, kind_put}

Seen : Mark → Type 0
Seen m = m ≡ Unseen → ⊥

one_seen : (m : Mark) → Seen (full_if (is_seen m)) → Seen m
unfolding Seen
one_seen Unseen h e = h refl
one_seen Full h e = cc
one_seen Bare h e = cc

two_seen : (a b : Bool) → Seen (full_if (a && b)) → Seen (full_if a) × Seen (full_if b)
unfolding Seen
two_seen true true h = ((λ e. cc), (λ e. cc))
two_seen true false h = absurd (h refl)
two_seen false b h = absurd (h refl)

only_full : (m : Mark) → Seen (full_only m) → m ≡ Full
unfolding Seen
only_full Unseen h = absurd (h refl)
only_full Bare h = absurd (h refl)
only_full Full h = refl

full_seen : (m : Mark) → m ≡ Full → Seen m
unfolding Seen
full_seen m h e = let z : ⊥ = cc in z

all_parts : (fs : Fields) (m : ℕ → Mark) → Seen (full_if (all_seen fs m)) → AllByRecursion (λ f. Seen (m f.1)) fs
all_parts [] m h = tt
all_parts (f ∷ fs) m h = let both = two_seen (is_seen (m f.1)) (all_seen fs m) h in (one_seen (m f.1) both.0, all_parts fs m both.1)

front_parts : (fs : Fields) (m : ℕ → Mark) (k : Mark) → Seen (front_mark fs m k) → AllByRecursion (λ f. Seen (m f.1)) fs × Seen k
front_parts [] m k h = (tt, h)
front_parts (f ∷ fs) m k h = let both = two_seen (all_seen (f ∷ fs) m) (is_seen k) h in (all_parts (f ∷ fs) m both.0, one_seen k both.1)

-- where something can be told of a cell, something is known of each part
seen_parts : (c : Cell) (m : ℕ → Mark) → Seen (next_mark c m) → Parts c (λ p. Seen (m p))
seen_parts (OfType AnyType) m h = tt
seen_parts (OfType (Base b)) m h = tt
seen_parts (OfType (Rec r)) m h = one_seen (m r) h
seen_parts (OfType (Var r)) m h = full_seen (m r) (only_full (m r) h)
seen_parts (OfType (Coll k a)) m h = let both = two_seen (is_seen (m k)) (is_seen (m a)) h in (one_seen (m k) both.0, one_seen (m a) both.1)
seen_parts (OfFunction a b) m h = let both = two_seen (is_seen (m a)) (is_seen (m b)) h in (one_seen (m a) both.0, one_seen (m b) both.1)
seen_parts (OfType (TypeLink a)) m h = one_seen (m a) h
seen_parts (OfRow (AnyRow ls)) m h = tt
seen_parts (OfRow NoRow) m h = tt
seen_parts (OfRow (Front fs r)) m h = front_parts fs m (m r) h
seen_parts (OfKind AnyKind) m h = tt
seen_parts (OfKind (Fixed k)) m h = tt
seen_parts (OfKind (KindLink a)) m h = one_seen (m a) h

-- a label that is not among these
fresh : List Label → Label
fresh [] = 97 ∷ []
fresh (l ∷ ls) = 97 ∷ (l ++ fresh ls)

fresh_longer : (ls : List Label) (l : Label) → IsIn l ls → length l < length (fresh ls)
unfolding fresh
fresh_longer [] l d = absurd d
fresh_longer (m ∷ ls) l d = ⊎_elim (λ e. omega (arith, length-append m (fresh ls), ap length e)) (λ k. (let r = fresh_longer ls l k in omega (arith, length-append m (fresh ls)))) d

fresh_lacked : (ls : List Label) (r : Row) → ((l : Label) → IsIn l ls → at l r ≡ None) → AllByRecursion (λ l. at l r ≡ None) ls
fresh_lacked [] r h = tt
fresh_lacked (l ∷ ls) r h = (h l (inl refl), fresh_lacked ls r (λ m d. h m (inr d)))

pub all_in : (ls : List Label) (l : Label) (P : Label → Type 0) → AllByRecursion P ls → IsIn l ls → P l
all_in [] l P h d = absurd d
all_in (m ∷ ls) l P h d = ⊎_elim (λ e. subst P (sym e) h.0) (λ k. all_in ls l P h.1 k) d

pub labels_apart : (l : Label) (fs : Fields) → field l fs ≡ None → AllByRecursion (λ g. g.0 ≢ l) fs
labels_apart l [] h = tt
labels_apart l ((m, t) ∷ fs) h =
    let d : l ≢ m = λ e. none_some t ⊥ (sym h ∙ field_here l m t fs e) in
    ((λ e. d (sym e)), labels_apart l fs (sym (field_there l m t fs d) ∙ h))

-- the row that has these fields before this rest
record Fronted (fs : Fields) (types : ℕ → Ground) (e : Row) : Type 0 where
  whole : Row
  good : IsRow whole
  splits : Splits fs types whole e

kept_fronts : (ty : ℕ → Ground) (l : Label) (t : Ground) (w e : Row) (gs : Fields) → AllByRecursion (λ g. g.0 ≢ l) gs → AllByRecursion (λ f. (at f.0 w ≡ Some (ty f.1)) × (at f.0 e ≡ None)) gs
    → AllByRecursion (λ f. (at f.0 (put l t w) ≡ Some (ty f.1)) × (at f.0 e ≡ None)) gs
kept_fronts ty l t w e [] a h = tt
kept_fronts ty l t w e (g ∷ gs) a h = ((at_put_other g.0 l t w a.0 ∙ h.0.0, h.0.1), kept_fronts ty l t w e gs a.1 h.1)

fronted : (s : Assignment) (fs : Fields) (e : Row) → IsRow e → AllByRecursion (λ f. at f.0 e ≡ None) fs → Differ fs → Fronted fs s.types e
fronted s [] e g h d = record { whole = e; good = g; splits = record { fronts = tt; others = λ l q. refl } }
fronted s ((m, t) ∷ fs) e g h d =
    let more = fronted s fs e g h.1 d.1 in
    let w = more.whole in
    let sp = more.splits in
    let off : at m w ≡ None = sp.others m d.0 ∙ h.0 in
    record {
      whole = put m (s.types t) w;
      good = put_row m (s.types t) w off (s.types_ground t) more.good;
      splits = record {
        fronts = ((at_put m (s.types t) w off, h.0), kept_fronts s.types m (s.types t) w e fs (labels_apart m fs d.0) sp.fronts);
        others = λ l q. (let apart : l ≢ m = λ z. none_some t ⊥ (sym q ∙ field_here l m t fs z) in at_put_other l m (s.types t) w apart ∙ sp.others l (sym (field_there l m t fs apart) ∙ q));
      };
    }

-- Some cells are given what they say from the start. Their parts are such cells, and so are a variant over such a row
-- and a row that is such a row with no field more.
pub record Start (ns : List Cell) (K : ℕ → Bool) : Type 0 where
  pub by : Assignment
  pub says : (j : ℕ) (c : Cell) → slice_get ns j ≡ Some c → K j ≡ true → Says c by j
  pub parts : (j : ℕ) (c : Cell) → slice_get ns j ≡ Some c → K j ≡ true → Parts c (λ p. K p ≡ true)
  pub variants : (j r : ℕ) → slice_get ns j ≡ Some (OfType (Var r)) → K r ≡ true → K j ≡ true
  pub bares : (j r : ℕ) → slice_get ns j ≡ Some (OfRow (Front [] r)) → K r ≡ true → K j ≡ true

-- what an order gives beside a start
record Built (ns : List Cell) (K : ℕ → Bool) (start : Start ns K) (os : Order) : Type 0 where
  by : Assignment
  same : (j : ℕ) → K j ≡ true → (by.types j ≡ start.by.types j) × (by.rows j ≡ start.by.rows j) × (by.kinds j ≡ start.by.kinds j) × (by.functions j ≡ start.by.functions j)
  held : (j : ℕ) (c : Cell) → slice_get ns j ≡ Some c → K j ≡ true → Says c by j
  says : (j : ℕ) (c : Cell) → slice_get ns j ≡ Some c → Seen (mark_of os j) → Says c by j
  parts : (j : ℕ) (c : Cell) → slice_get ns j ≡ Some c → Seen (mark_of os j) → Parts c (λ p. Seen (mark_of os p))
  full : (j : ℕ) (n : RowNode) → slice_get ns j ≡ Some (OfRow n) → K j ≡ false → mark_of os j ≡ Full → by.rows j ≡ no_row → ⊥

module _ (ns : List Cell) (fine : IsFine ns) (K : ℕ → Bool) (start : Start ns K) (os : Order) (b : Built ns K start os) where
  lacks_says : (l : Label) {q : ℕ} → Lacks ns l q → Seen (mark_of os q) → at l (b.by.rows q) ≡ None
  lacks_says l {q} (at_open ls e d) k = all_in ls l (λ m. at m (b.by.rows q) ≡ None) (b.says q (OfRow (AnyRow ls)) e k) d
  lacks_says l {q} (at_none e) k = ap (at l) (b.says q (OfRow NoRow) e k)
  lacks_says l {q} (at_front fs r e n h) k =
      let sp : Splits fs b.by.types (b.by.rows q) (b.by.rows r) = b.says q (OfRow (Front fs r)) e k in
      let p = b.parts q (OfRow (Front fs r)) e k in
      sp.others l n ∙ lacks_says l h p.1

  record NewType (n : TypeNode) : Type 0 where
    type : Ground
    good : IsGround type
    fits : TypeSays n b.by type

  record NewRow (n : RowNode) : Type 0 where
    row_new : Row
    good : IsRow row_new
    fits : RowSays n b.by row_new
    full : row_mark n (mark_of os) ≡ Full → row_new ≡ no_row → ⊥

  scalar_good : (x : Scalar) → IsGround (scalar_type x)
  scalar_good scalar.Bool = tt
  scalar_good scalar.Int = tt
  scalar_good scalar.Str = tt

  not_kept : (j r : ℕ) → (K r ≡ true → K j ≡ true) → K j ≡ false → K r ≡ false
  not_kept j r go h = elim (K r) as (λ x. K r ≡ x → x ≡ false) [ true ↦ λ e. absurd (true≢false (sym (go e) ∙ h)) | false ↦ λ e. refl ] refl

  new_type : (i : ℕ) (n : TypeNode) → slice_get ns i ≡ Some (OfType n) → K i ≡ false → IsPlaced ns i (OfType n) → Seen (type_mark n (mark_of os)) → NewType n
  new_type i AnyType e off p h = record { type = int; good = tt; fits = tt }
  new_type i (Base x) e off p h = record { type = scalar_type x; good = scalar_good x; fits = refl }
  new_type i (Rec r) e off p h = record { type = rec (b.by.rows r); good = b.by.rows_ground r; fits = refl }
  new_type i (Var r) e off p h =
      let st = stands ns r a_row p in
      let q = row_of st.cell st.sort in
      record { type = var (b.by.rows r); good = (b.full r q.0 (st.here ∙ ap Some q.1) (not_kept i r (start.variants i r e) off) (only_full (mark_of os r) h), b.by.rows_ground r); fits = refl }
  new_type i (Coll k a) e off p h = record { type = coll (b.by.kinds k) (b.by.types a); good = b.by.types_ground a; fits = refl }
  new_type i (TypeLink a) e off p h = record { type = b.by.types a; good = b.by.types_ground a; fits = refl }

  bare_full : (r : Row) (l : Label) (t : Ground) → at l r ≡ Some t → r ≡ no_row → ⊥
  bare_full r l t h e = none_some t ⊥ (sym (ap (at l) e) ∙ h)

  same_bare : (w e : Row) → IsRow w → IsRow e → Splits [] b.by.types w e → w ≡ no_row → e ≡ no_row
  same_bare w e g k sp z = one_row e no_row k tt (λ l. sym (sp.others l refl) ∙ ap (at l) z)

  front_full : (fs : Fields) (q : ℕ) (n : RowNode) (w : Row) → slice_get ns q ≡ Some (OfRow n) → (fs ≡ [] → K q ≡ false) → IsRow w → Splits fs b.by.types w (b.by.rows q) → front_mark fs (mark_of os) (mark_of os q) ≡ Full → w ≡ no_row → ⊥
  front_full [] q n w e off g sp m z = b.full q n e (off refl) m (same_bare w (b.by.rows q) g (b.by.rows_ground q) sp z)
  front_full ((l, t) ∷ fs) q n w e off g sp m z = bare_full w l (b.by.types t) sp.fronts.0.0 z

  new_row : (i : ℕ) (n : RowNode) → slice_get ns i ≡ Some (OfRow n) → K i ≡ false → Seen (row_mark n (mark_of os)) → NewRow n
  new_row i (AnyRow ls) e off h = record {
    row_new = row (fresh ls) int no_row;
    good = ((λ l t z. none_some t _ z), tt, tt);
    fits = fresh_lacked ls (row (fresh ls) int no_row) (λ l d. at_there l (fresh ls) int no_row (λ z. (let r = fresh_longer ls l d in let x = ap length z in omega arith)));
    full = λ m z. (let y : ⊥ = cc in y);
  }
  new_row i NoRow e off h = record { row_new = no_row; good = tt; fits = refl; full = λ m z. (let y : ⊥ = cc in y) }
  new_row i (Front fs q) e off h =
      let t = fine.tidy i fs q e in
      let p = front_parts fs (mark_of os) (mark_of os q) h in
      let st = stands ns q a_row (fine.placed i (OfRow (Front fs q)) e).1 in
      let node = row_of st.cell st.sort in
      let f = fronted b.by fs (b.by.rows q) (b.by.rows_ground q) (all_map (λ g. Lacks ns g.0 q) (λ g. at g.0 (b.by.rows q) ≡ None) fs (λ g k. lacks_says g.0 k p.1) t.lack) t.differ in
      record { row_new = f.whole; good = f.good; fits = f.splits; full = λ m z. front_full fs q node.0 f.whole (st.here ∙ ap Some node.1) (λ none. not_kept i q (start.bares i q (e ∙ ap (λ gs. Some (OfRow (Front gs q))) none)) off) f.good f.splits m z }

  new_kind : (n : KindNode) → (k : Kind) × KindSays n b.by k
  new_kind AnyKind = (kind.Set, tt)
  new_kind (Fixed j) = (j, refl)
  new_kind (KindLink a) = (b.by.kinds a, refl)

  module _ (i : ℕ) (m : Mark) (c : Cell) (here : slice_get ns i ≡ Some c) (is : m ≡ next_mark c (mark_of os)) (seen : Seen m) (new : mark_of os i ≡ Unseen) where
    mark_new : mark_of ((i, m) ∷ os) i ≡ m
    mark_new = rw (eq-eqb i i refl) refl

    mark_old : (j : ℕ) → j ≢ i → mark_of ((i, m) ∷ os) j ≡ mark_of os j
    mark_old j d = rw (ne_eqb j i d) refl

    not_new : (p : ℕ) → Seen (mark_of os p) → p ≢ i
    unfolding Seen
    not_new p k e = k (ap (mark_of os) e ∙ new)

    still_seen : (p : ℕ) → Seen (mark_of os p) → Seen (mark_of ((i, m) ∷ os) p)
    still_seen p k = subst Seen (sym (mark_old p (not_new p k))) k

    new_parts : Parts c (λ p. Seen (mark_of os p))
    new_parts = seen_parts c (mark_of os) (subst Seen is seen)

    away : K i ≡ false → (j : ℕ) → K j ≡ true → j ≢ i
    away no_keep j k z = true≢false (sym k ∙ ap K z ∙ no_keep)

    extend : K i ≡ false → (u : Assignment) → Off i b.by u → Says c u i → ((n : RowNode) → c ≡ OfRow n → m ≡ Full → u.rows i ≡ no_row → ⊥) → Built ns K start ((i, m) ∷ os)
    extend no_keep u off said full = record {
      by = u;
      same = λ j k. (let o = b.same j k in let d = away no_keep j k in (off.types j d ∙ o.0, off.rows j d ∙ o.1, off.kinds j d ∙ o.2, off.functions j d ∙ o.3));
      held = λ j x e k. says_off i b.by u x j off (away no_keep j k) (parts_on x _ _ (away no_keep) (start.parts j x e k)) (b.held j x e k);
      says = λ j x e k. ⊎_elim
          (λ same. subst (λ y. Says y u j) (same_Some c x (sym here ∙ ap (slice_get ns) (sym same) ∙ e)) (subst (Says c u) (sym same) said))
          (λ d. (let k' = subst Seen (mark_old j d) k in says_off i b.by u x j off d (parts_on x _ _ not_new (b.parts j x e k')) (b.says j x e k')))
          (cases_eq j i);
      parts = λ j x e k. ⊎_elim
          (λ same. subst (λ y. Parts y (λ p. Seen (mark_of ((i, m) ∷ os) p))) (same_Some c x (sym here ∙ ap (slice_get ns) (sym same) ∙ e)) (parts_on c _ _ still_seen new_parts))
          (λ d. parts_on x _ _ still_seen (b.parts j x e (subst Seen (mark_old j d) k)))
          (cases_eq j i);
      full = λ j n e away_j k z. ⊎_elim
          (λ same. full n (same_Some c (OfRow n) (sym here ∙ ap (slice_get ns) (sym same) ∙ e)) (sym mark_new ∙ sym (ap (mark_of ((i, m) ∷ os)) same) ∙ k) (ap u.rows (sym same) ∙ z))
          (λ d. b.full j n e away_j (sym (mark_old j d) ∙ k) (sym (off.rows j d) ∙ z))
          (cases_eq j i);
    }

    -- a cell from the start stays as it is
    pass_on : K i ≡ true → Built ns K start ((i, m) ∷ os)
    pass_on keep = record {
      by = b.by;
      same = b.same;
      held = b.held;
      says = λ j x e k. ⊎_elim (λ same. b.held j x e (ap K same ∙ keep)) (λ d. b.says j x e (subst Seen (mark_old j d) k)) (cases_eq j i);
      parts = λ j x e k. ⊎_elim
          (λ same. subst (λ y. Parts y (λ p. Seen (mark_of ((i, m) ∷ os) p))) (same_Some c x (sym here ∙ ap (slice_get ns) (sym same) ∙ e)) (parts_on c _ _ still_seen new_parts))
          (λ d. parts_on x _ _ still_seen (b.parts j x e (subst Seen (mark_old j d) k)))
          (cases_eq j i);
      full = λ j n e away_j k z. ⊎_elim (λ same. absurd (true≢false (sym keep ∙ sym (ap K same) ∙ away_j))) (λ d. b.full j n e away_j (sym (mark_old j d) ∙ k) z) (cases_eq j i);
    }

  put_on : (i : ℕ) (m : Mark) (c : Cell) → slice_get ns i ≡ Some c → m ≡ next_mark c (mark_of os) → Seen m → mark_of os i ≡ Unseen → K i ≡ false → Built ns K start ((i, m) ∷ os)
  put_on i m (OfType n) e q k w off =
      let t = new_type i n e off (fine.placed i (OfType n) e) (subst Seen q k) in
      let p = type_put b.by i t.type t.good in
      extend i m (OfType n) e q k w off (with_type b.by i t.type t.good) p.0
      (subst (TypeSays n (with_type b.by i t.type t.good)) (sym p.1) (type_off i b.by (with_type b.by i t.type t.good) n t.type p.0 (parts_on (OfType n) _ _ (not_new i m (OfType n) e q k w) (new_parts i m (OfType n) e q k w)) t.fits))
      (λ x z. (let y : ⊥ = cc in absurd y))
  put_on i m (OfFunction x a) e q k w off =
      let t : Ground = arrow (b.by.types x) (b.by.types a) in
      let p = function_put b.by i t in
      extend i m (OfFunction x a) e q k w off (with_function b.by i t) p.0
      (subst (FunctionSays x a (with_function b.by i t)) (sym p.1) (function_off i b.by (with_function b.by i t) x a t p.0 (parts_on (OfFunction x a) _ _ (not_new i m (OfFunction x a) e q k w) (new_parts i m (OfFunction x a) e q k w)) refl))
      (λ n z. (let y : ⊥ = cc in absurd y))
  put_on i m (OfRow n) e q k w off =
      let t = new_row i n e off (subst Seen q k) in
      let p = row_put b.by i t.row_new t.good in
      extend i m (OfRow n) e q k w off (with_row b.by i t.row_new t.good) p.0
      (subst (RowSays n (with_row b.by i t.row_new t.good)) (sym p.1) (row_off i b.by (with_row b.by i t.row_new t.good) n t.row_new p.0 (parts_on (OfRow n) _ _ (not_new i m (OfRow n) e q k w) (new_parts i m (OfRow n) e q k w)) t.fits))
      (λ x z f r. t.full (sym q ∙ f) (sym p.1 ∙ r))
  put_on i m (OfKind n) e q k w off =
      let t = new_kind n in
      let p = kind_put b.by i t.0 in
      extend i m (OfKind n) e q k w off (with_kind b.by i t.0) p.0
      (subst (KindSays n (with_kind b.by i t.0)) (sym p.1) (kind_off i b.by (with_kind b.by i t.0) n t.0 p.0 (parts_on (OfKind n) _ _ (not_new i m (OfKind n) e q k w) (new_parts i m (OfKind n) e q k w)) t.1))
      (λ x z. (let y : ⊥ = cc in absurd y))

  step : (i : ℕ) (m : Mark) (c : Cell) → slice_get ns i ≡ Some c → m ≡ next_mark c (mark_of os) → Seen m → mark_of os i ≡ Unseen → Built ns K start ((i, m) ∷ os)
  step i m c e q k w = elim (K i) as (λ x. K i ≡ x → Built ns K start ((i, m) ∷ os)) [ true ↦ λ h. pass_on i m c e q k w h | false ↦ λ h. put_on i m c e q k w h ] refl

nothing : Assignment
nothing = record { types = λ i. int; functions = λ i. int; rows = λ i. no_row; kinds = λ i. kind.Set; types_ground = λ i. tt; rows_ground = λ i. tt }

build : (ns : List Cell) (K : ℕ → Bool) (start : Start ns K) → IsFine ns → (os : Order) → IsOrder ns os → Built ns K start os
unfolding Seen
build ns K start f [] h = record { by = start.by; same = λ j k. (refl, refl, refl, refl); held = start.says; says = λ j c e k. absurd (k refl); parts = λ j c e k. absurd (k refl); full = λ j n e off k. (let z : ⊥ = cc in absurd z) }
build ns K start f (o ∷ os) h = step ns f K start os (build ns K start f os h.5) o.0 o.1 h.0 h.1 h.2 h.3 h.4

-- a start grows to what solves all cells
pub record Whole (ns : List Cell) (K : ℕ → Bool) (start : Start ns K) : Type 0 where
  pub by : Assignment
  pub solves : Solves ns by
  pub same : (j : ℕ) → K j ≡ true → (by.types j ≡ start.by.types j) × (by.rows j ≡ start.by.rows j) × (by.kinds j ≡ start.by.kinds j) × (by.functions j ≡ start.by.functions j)

pub started_solvable : (ns : List Cell) (K : ℕ → Bool) (start : Start ns K) → IsFine ns → (os : Order) → IsOrder ns os → ((i : ℕ) → i < length ns → mark_of os i ≡ Unseen → ⊥) → Whole ns K start
unfolding Seen
started_solvable ns K start f os h all = let b = build ns K start f os h in record { by = b.by; solves = record { each = λ i c e. b.says i c e (all i (slice_get_within ns i c e)) }; same = b.same }

no_start : (ns : List Cell) → Start ns (λ j. false)
no_start ns = record { by = nothing; says = λ j c e k. absurd (true≢false (sym k)); parts = λ j c e k. absurd (true≢false (sym k)); variants = λ j r e k. k; bares = λ j r e k. k }

-- where each cell is marked, something solves them
pub marked_solvable : (ns : List Cell) → IsFine ns → (os : Order) → IsOrder ns os → ((i : ℕ) → i < length ns → mark_of os i ≡ Unseen → ⊥) → Solvable ns
marked_solvable ns f os h all = let w = started_solvable ns (λ j. false) (no_start ns) f os h all in record { by = w.by; solves = w.solves }

-- the parts of a cell of which something can be told are marked
pub parts_marked : (c : Cell) (m : ℕ → Mark) → (next_mark c m ≡ Unseen → ⊥) → Parts c (λ p. m p ≡ Unseen → ⊥)
unfolding Seen
parts_marked c m h = seen_parts c m h
