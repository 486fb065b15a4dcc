-- What the grammar reads is proper: the fields of a type keep their order, no label comes twice, and a variant has one.
use Rattle.std.proofs.Common.{◌≡◌, ◌≢◌, ℕ, zero, suc, Bool, true, false, List, [], ◌∷◌, Some, None, cond, nat_eq, inl, inr, refl, sym, ap, subst, Ordering, Less, Equal, Greater}
use Rattle.std.specs.Prelude.{Result, Ok, Err, IfOk}
use Rattle.std.specs.FinMap.{nat_cmp-IsAntisymmetric, slice_cmp-IsAntisymmetric}
use Rattle.std.specs.Cmp.Lexicographic.{pointwise}
use Rattle.std.specs.Ordering.{match_ordering}
use Rattle.kl_base.specs.Fields.{bytes_cmp, field}
use Rattle.kl_lex.specs.declared.token.Placed.{Placed}
use Rattle.kl_phrase.specs.Words.{Phrase, Never}
use Rattle.kl_value.specs.declared.Kind.{Kind}
use Rattle.kl_value.specs.declared.Kind.TheVariants as kind
use Rattle.kl_type.specs.declared.ground.Ty.{Ty}
use Rattle.kl_type.specs.declared.reading.TypeError.{TypeError}
use Rattle.kl_type.specs.Grammar.{IsBase, Field, Fields, MoreFields, no_more, one_more, Coll, Rec, Var, AType, Reads}
use Rattle.kl_type.specs.Grammar as grammar
use Rattle.kl_type.specs.Ground.{Ground, Row, no_row, row, at, IsGround, IsRow, IsProper, row_by, ground_of}
use Rattle.kl_type.specs.Reading.{SpellsType}
use Rattle.kl_type.proofs.FieldGoods.{FieldList}
use Rattle.kl_type.proofs.GroundLemmas.{ground-Bool, ground-Int, ground-Str, ground-Rec, ground-Var, ground-Coll}
use Rattle.kl_type.proofs.RowLemmas.{Label, same_label, place, put, put_row}

abbrev row_of : FieldList → Row
row_of = row_by ground_of

-- ---- one field more

none_by : (b : Bool) (t : Ty) (fs : FieldList) (l : Label) → (field l fs ≡ None → at l (row_of fs) ≡ None) → cond b (Some t) (field l fs) ≡ None → cond b (Some (ground_of t)) (at l (row_of fs)) ≡ None
none_by true t fs l later h = absurd cc
none_by false t fs l later h = later h

-- a label of no field is one of no row
none_at : (l : Label) (fs : FieldList) → field l fs ≡ None → at l (row_of fs) ≡ None
none_at l [] h = refl
none_at l (f ∷ fs) h = none_by (pointwise nat_eq l f.0) f.1 fs l (none_at l fs) h

free_by : (b : Bool) (t : Ty) (fs : FieldList) (l : Label) → b ≡ true → cond b (Some t) (field l fs) ≡ None → ⊥
free_by true t fs l e h = cc
free_by false t fs l e h = cc

other : (l : Label) (f : List ℕ × Ty) (fs : FieldList) → field l (f ∷ fs) ≡ None → l ≢ f.0
other l f fs h e = free_by (pointwise nat_eq l f.0) f.1 fs l (subst (λ (m : Label). pointwise nat_eq l m ≡ true) e (same_label l)) h

put_by : (o : Ordering) (f e : List ℕ × Ty) (es more : FieldList) (p : Row) → bytes_cmp f.0 e.0 ≡ o → f.0 ≢ e.0 → row_of more ≡ p
    → row_of (match_ordering o (f ∷ e ∷ es) ((e.0, f.1) ∷ es) (e ∷ more)) ≡ place o f.0 (ground_of f.1) e.0 (ground_of e.1) (row_of es) p
put_by Less f e es more p is ne h = refl
put_by Equal f e es more p is ne h = absurd (ne (slice_cmp-IsAntisymmetric nat_cmp-IsAntisymmetric f.0 e.0 is))
put_by Greater f e es more p is ne h = ap (λ (r : Row). row e.0 (ground_of e.1) r) h

later_free : (b : Bool) (t : Ty) (fs : FieldList) (l : Label) → cond b (Some t) (field l fs) ≡ None → field l fs ≡ None
later_free true t fs l h = absurd cc
later_free false t fs l h = h

-- the fields with one more are the row with one more
put_is : (fs : FieldList) (f : List ℕ × Ty) → field f.0 fs ≡ None → row_of (grammar.put fs f) ≡ put f.0 (ground_of f.1) (row_of fs)
put_is [] f h = refl
put_is (e ∷ es) f h =
    put_by (bytes_cmp f.0 e.0) f e es (grammar.put es f) (put f.0 (ground_of f.1) (row_of es)) refl (other f.0 e es h)
    (put_is es f (later_free (pointwise nat_eq f.0 e.0) e.1 es f.0 h))

-- some fields, whose labels rise and whose types are proper
abbrev AreProper : FieldList → Type 0
AreProper fs = (row_of fs ≡ no_row → ⊥) × IsRow (row_of fs)

row_some : (l : Label) (t : Ground) (r : Row) → row l t r ≡ no_row → ⊥
row_some l t r h = cc

put_some : (o : Ordering) (f e : List ℕ × Ty) (es more : FieldList) → row_of (match_ordering o (f ∷ e ∷ es) ((e.0, f.1) ∷ es) (e ∷ more)) ≡ no_row → ⊥
put_some Less f e es more = row_some f.0 (ground_of f.1) (row_of (e ∷ es))
put_some Equal f e es more = row_some e.0 (ground_of f.1) (row_of es)
put_some Greater f e es more = row_some e.0 (ground_of e.1) (row_of more)

some : (fs : FieldList) (f : List ℕ × Ty) → row_of (grammar.put fs f) ≡ no_row → ⊥
some [] f = row_some f.0 (ground_of f.1) no_row
some (e ∷ es) f = put_some (bytes_cmp f.0 e.0) f e es (grammar.put es f)

put_proper : (fs : FieldList) (f : List ℕ × Ty) → field f.0 fs ≡ None → IsProper f.1 → IsRow (row_of fs) → AreProper (grammar.put fs f)
put_proper fs f free p h = (some fs f, subst IsRow (sym (put_is fs f free)) (put_row f.0 (ground_of f.1) (row_of fs) (none_at f.0 fs free) p h))

-- ---- the grammar's words, where what stands inside is proper

module _ (E : Phrase Placed Ty) (inside : (n : ℕ) (t : Ty) (ts : List Placed) → E n t ts → IsProper t) where
  field_proper : (fs : FieldList) (n : ℕ) (f : List ℕ × Ty) (ts : List Placed) → Field E fs n f ts → IsRow (row_of fs) → AreProper (grammar.put fs f)
  field_proper fs n f ts (u, v, e, (t, is, (word, free)), (x, y, d, c, s)) h = put_proper fs f free (inside _ f.1 y s) h

  more_proper : {fs all : FieldList} {n : ℕ} {ts : List Placed} → MoreFields E fs n all ts → AreProper fs → AreProper all
  more_proper no_more h = h
  more_proper {fs} (one_more f (x, y, e, c, s) r) h = more_proper r (field_proper fs _ f y s h.1)

  fields_proper : (n : ℕ) (all : FieldList) (ts : List Placed) → Fields E n all ts → AreProper all
  fields_proper n all ts (f, u, v, e, s, r) = more_proper r (field_proper [] n f u s tt)

  coll_proper : (k : Kind) (n : ℕ) (t : Ty) (ts : List Placed) → Coll E k n t ts → IsProper t
  coll_proper k n t ts (a, is, (u, v, e, o, (x, y, d, s, c))) = subst IsProper (sym is) (subst IsGround (sym (ground-Coll k a)) (inside _ a x s))

  rec_proper : (n : ℕ) (t : Ty) (ts : List Placed) → Rec E n t ts → IsProper t
  rec_proper n t ts (fs, is, (u, v, e, o, (x, y, d, inl s, c))) = let h = fields_proper _ fs x s in subst IsProper (sym is) (subst IsGround (sym (ground-Rec fs)) h.1)
  rec_proper n t ts (fs, is, (u, v, e, o, (x, y, d, inr (none, z), c))) = subst IsProper (sym is) (subst IsGround (sym (ground-Rec fs)) (subst (λ (gs : FieldList). IsRow (row_of gs)) (sym none) tt))

  var_proper : (n : ℕ) (t : Ty) (ts : List Placed) → Var E n t ts → IsProper t
  var_proper n t ts (fs, is, (u, v, e, o, (x, y, d, s, c))) = subst IsProper (sym is) (subst IsGround (sym (ground-Var fs)) (fields_proper _ fs x s))

  base_proper : (t : Ty) (p : Placed) → IsBase p t → IsProper t
  base_proper t p (inl (w, is)) = subst IsProper (sym is) (subst IsGround (sym ground-Bool) tt)
  base_proper t p (inr (inl (w, is))) = subst IsProper (sym is) (subst IsGround (sym ground-Int) tt)
  base_proper t p (inr (inr (w, is))) = subst IsProper (sym is) (subst IsGround (sym ground-Str) tt)

  type_proper : (may : Bool) (n : ℕ) (t : Ty) (ts : List Placed) → AType E may n t ts → IsProper t
  type_proper may n t ts (inl (m, s)) = coll_proper kind.Set n t ts s
  type_proper may n t ts (inr (inl (m, s))) = coll_proper kind.Bag n t ts s
  type_proper may n t ts (inr (inr (inl (m, s)))) = coll_proper kind.List n t ts s
  type_proper may n t ts (inr (inr (inr (inl (m, s))))) = rec_proper n t ts s
  type_proper may n t ts (inr (inr (inr (inr (inl (m, s)))))) = var_proper n t ts s
  type_proper may n t ts (inr (inr (inr (inr (inr (p, e, s)))))) = base_proper t p s

pub reads_proper : (depth n : ℕ) (t : Ty) (ts : List Placed) → Reads depth n t ts → IsProper t
reads_proper zero n t ts h = type_proper Never (λ m u us s. absurd s) false n t ts h
reads_proper (suc depth) n t ts h = type_proper (Reads depth) (reads_proper depth) true n t ts h

pub spells_proper : (ts : List Placed) (t : Ty) → SpellsType ts t → IsProper t
spells_proper ts t h = reads_proper 256 0 t ts h

pub answers_proper : (ts : List Placed) (r : Result Ty TypeError) → IfOk r (SpellsType ts) → IfOk r IsProper
answers_proper ts (Ok t) h = spells_proper ts t h
answers_proper ts (Err e) h = tt
