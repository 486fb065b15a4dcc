-- A block of fields that becomes one row for each field.
use Rattle.std.proofs.Common.{◌≡◌, ◌≢◌, ◌⊎◌, ⊎_elim, ℕ, ◌<◌, cond, List, [], ◌∷◌, ◌++◌, length, Some, None, slice_get, nat_eq, refl, sym, ap, ◌∙◌, subst, append_assoc, append-nil}
use Rattle.std.specs.List.{AllByRecursion}
use Rattle.std.specs.Cmp.Lexicographic.{pointwise}
use Rattle.kl_base.specs.Fields.{field}
use Rattle.kl_type.specs.Ground.{Ground, Row, at, IsRow}
use Rattle.kl_type.proofs.RowLemmas.{told, one_row, drops, at_drops, drops_row, same_label, none_some}
use Rattle.kl_rows.specs.declared.cell.TypeNode.TheVariants.{TypeLink}
use Rattle.kl_rows.specs.declared.cell.KindNode.TheVariants.{KindLink}
use Rattle.kl_rows.specs.declared.cell.RowNode.TheVariants.{Front}
use Rattle.kl_rows.specs.declared.cell.Cell.{Cell}
use Rattle.kl_rows.specs.declared.cell.Cell.TheVariants.{OfType, OfFunction, OfRow, OfKind}
use Rattle.kl_rows.specs.Lists.{Fields}
use Rattle.kl_rows.specs.Places.{a_type, sort_of, IsType, IsRowAt, AreTypes, Parts, Lacks, Differ, IsFine}
use Rattle.kl_rows.specs.Solutions.{Assignment, Splits, Solves}
use Rattle.kl_rows.specs.Steps.{Grown, KeepsCells}
use Rattle.kl_rows.specs.Making.{CanMake, AddsCell}
use Rattle.kl_rows.specs.Expanding.{Pushes}
use Rattle.kl_rows.specs.Copying.{IsPlain, IsSettled, Fits, SameAt, Takes}
use Rattle.kl_rows.proofs.Advancing.{KeepsRows, agrees_refl, keeps_refl, keeps_on}
use Rattle.kl_rows.proofs.CellLists.{get_first, get_last, sort_within}
use Rattle.kl_rows.proofs.Expansions.{pushed}
use Rattle.kl_rows.proofs.Growing.{grown_with, grown_type, grown_function, grown_row, grown_kind, parts_within}
use Rattle.kl_rows.proofs.ListLemmas.{Label, field_here, field_there}
use Rattle.kl_rows.proofs.Ordered.{labels_apart}

-- one plain cell
pub takes_plain : (old new : List Cell) (c : Cell) (p : ℕ) → IsFine old → CanMake old c → IsPlain c → Pushes old new c p → Takes old new c p
takes_plain old new c p fine can plain q = record {
  fine = a.fine;
  keeps = a.keeps;
  rows = rows_kept;
  sort = a.sort;
  lacks = a.lacks;
  settled = λ h. record {
    plain = λ i x e. ⊎_elim (λ g. h.plain i x g) (λ g. subst IsPlain (sym g.1) plain) (last i x e);
    before = λ i x e. ⊎_elim (λ g. h.before i x g) (λ g. subst (λ y. Parts y (λ z. z < i)) (sym g.1) (subst (λ j. Parts c (λ z. z < j)) (sym g.0) (parts_within old (length old) c can.placed))) (last i x e);
  };
  up = λ s h. (a.solves s).0 h;
  down = λ s u i h f. grow c refl s u i h f;
}
  where
    a : AddsCell old new c p
    a = pushed old new c p fine can q

    rows_kept : KeepsRows old new
    rows_kept i n e = ap (λ cs. slice_get cs i) q.added ∙ get_first old c i (OfRow n) e

    last : (i : ℕ) (x : Cell) → slice_get new i ≡ Some x → (slice_get old i ≡ Some x) ⊎ ((i ≡ length old) × (x ≡ c))
    last i x e = get_last old c i x (ap (λ cs. slice_get cs i) (sym q.added) ∙ e)

    grow : (d : Cell) → d ≡ c → (s u : Assignment) (i : ℕ) → Solves old s → Fits d s u i → Grown old new s (λ w. SameAt (sort_of d) w p u i)
    grow (OfType n) e s u i h f = grown_type old new p fine n (subst (CanMake old) (sym e) can) (subst (λ x. AddsCell old new x p) (sym e) a) s h (u.types i) (u.types_ground i) f
    grow (OfFunction x y) e s u i h f = grown_function old new p fine x y (subst (CanMake old) (sym e) can) (subst (λ z. AddsCell old new z p) (sym e) a) s h (u.functions i) f
    grow (OfRow n) e s u i h f = grown_row old new p fine n (subst (CanMake old) (sym e) can) (subst (λ x. AddsCell old new x p) (sym e) a) s h (u.rows i) (u.rows_ground i) f
    grow (OfKind n) e s u i h f = grown_kind old new p fine n (subst (CanMake old) (sym e) can) (subst (λ x. AddsCell old new x p) (sym e) a) s h (u.kinds i) f

-- a label that differs from this one
apart_field : (l m : Label) (t : ℕ) (fs : Fields) → field m ((l, t) ∷ fs) ≡ None → m ≢ l
apart_field l m t fs h e = none_some t ⊥ (sym h ∙ field_here m l t fs e)

field_more : (l m : Label) (t : ℕ) (fs : Fields) → m ≢ l → field m fs ≡ None → field m ((l, t) ∷ fs) ≡ None
field_more l m t fs d h = field_there m l t fs d ∙ h

-- a row without a label
module _ (l : Label) where
  abbrev pub rest_of : Row → Row
  rest_of w = drops (λ m. pointwise nat_eq l m) w

  pub at_rest_of : (w : Row) (m : Label) → l ≢ m → at m (rest_of w) ≡ at m w
  at_rest_of w m d = ⊎_elim (λ p. absurd (d p.1)) (λ p. at_drops (λ k. pointwise nat_eq l k) m w ∙ ap (λ b. cond b None (at m w)) p.0) (told l m)

  pub none_rest_of : (w : Row) → at l (rest_of w) ≡ None
  none_rest_of w = at_drops (λ k. pointwise nat_eq l k) l w ∙ ap (λ b. cond b None (at l w)) (same_label l)

module _ (types : ℕ → Ground) (l : Label) (t : ℕ) (done : Fields) where
  fronts_through : (w e r : Row) (fs : Fields) → AllByRecursion (λ g. g.0 ≢ l) fs → Splits ((l, t) ∷ []) types w e → AllByRecursion (λ f. (at f.0 e ≡ Some (types f.1)) × (at f.0 r ≡ None)) fs
      → AllByRecursion (λ f. (at f.0 w ≡ Some (types f.1)) × (at f.0 r ≡ None)) fs
  fronts_through w e r [] off a h = tt
  fronts_through w e r (f ∷ fs) off a h = ((a.others f.0 (field_more l f.0 t [] off.0 refl) ∙ h.0.0, h.0.1), fronts_through w e r fs off.1 a h.1)

  -- one field before a row that has fields before its rest
  splits_more : (w e r : Row) → field l done ≡ None → Splits ((l, t) ∷ []) types w e → Splits done types e r → Splits ((l, t) ∷ done) types w r
  splits_more w e r none a b = record {
    fronts = ((a.fronts.0.0, sym (b.others l none) ∙ a.fronts.0.1), fronts_through w e r done (labels_apart l done none) a b.fronts);
    others = λ m h. (let d = apart_field l m t done h in a.others m (field_more l m t [] d refl) ∙ b.others m (sym (field_there m l t done d) ∙ h));
  }

  fronts_rest : (w r : Row) (fs : Fields) → AllByRecursion (λ g. g.0 ≢ l) fs → AllByRecursion (λ f. (at f.0 w ≡ Some (types f.1)) × (at f.0 r ≡ None)) fs
      → AllByRecursion (λ f. (at f.0 (rest_of l w) ≡ Some (types f.1)) × (at f.0 r ≡ None)) fs
  fronts_rest w r [] off h = tt
  fronts_rest w r (f ∷ fs) off h = ((at_rest_of l w f.0 (λ e. off.0 (sym e)) ∙ h.0.0, h.0.1), fronts_rest w r fs off.1 h.1)

  -- a row without its first field
  splits_first : (w r : Row) → Splits ((l, t) ∷ done) types w r → Splits ((l, t) ∷ []) types w (rest_of l w)
  splits_first w r h = record {
    fronts = ((h.fronts.0.0, none_rest_of l w), tt);
    others = λ m n. (let d = apart_field l m t [] n in sym (at_rest_of l w m (λ e. d (sym e))));
  }

  splits_rest : (w r : Row) → field l done ≡ None → Splits ((l, t) ∷ done) types w r → Splits done types (rest_of l w) r
  splits_rest w r none h = record {
    fronts = fronts_rest w r done (labels_apart l done none) h.fronts.1;
    others = λ m n. ⊎_elim
        (λ p. ap (λ k. at k (rest_of l w)) (sym p.1) ∙ none_rest_of l w ∙ sym h.fronts.0.1 ∙ ap (λ k. at k r) p.1)
        (λ p. at_rest_of l w m p.1 ∙ h.others m (field_more l m t done (λ e. p.1 (sym e)) n))
        (told l m);
  }

fronts_agree : (ty uy : ℕ → Ground) (fs : Fields) (w e : Row) → AllByRecursion (λ f. uy f.1 ≡ ty f.1) fs → AllByRecursion (λ f. (at f.0 w ≡ Some (ty f.1)) × (at f.0 e ≡ None)) fs
    → AllByRecursion (λ f. (at f.0 w ≡ Some (uy f.1)) × (at f.0 e ≡ None)) fs
fronts_agree ty uy [] w e a h = tt
fronts_agree ty uy (f ∷ fs) w e a h = ((h.0.0 ∙ ap Some (sym a.0), h.0.1), fronts_agree ty uy fs w e a.1 h.1)

-- fields with different labels, in two parts
differ_rest : (xs ys : Fields) → Differ (xs ++ ys) → Differ ys
differ_rest [] ys h = h
differ_rest (x ∷ xs) ys h = differ_rest xs ys h.1

field_apart : (l : Label) (xs : Fields) (f : Label × ℕ) (ys : Fields) → field l (xs ++ f ∷ ys) ≡ None → l ≢ f.0
field_apart l [] (m, t) ys h e = none_some t ⊥ (sym h ∙ field_here l m t ys e)
field_apart l ((m, t) ∷ xs) f ys h e = ⊎_elim (λ p. none_some t ⊥ (sym h ∙ field_here l m t (xs ++ f ∷ ys) p.1)) (λ p. field_apart l xs f ys (sym (field_there l m t (xs ++ f ∷ ys) p.1) ∙ h) e) (told l m)

differ_apart : (xs : Fields) (f : Label × ℕ) (ys : Fields) → Differ (xs ++ f ∷ ys) → AllByRecursion (λ g. g.0 ≢ f.0) xs
differ_apart [] f ys h = tt
differ_apart (x ∷ xs) f ys h = (field_apart x.0 xs f ys h.0, differ_apart xs f ys h.1)

all_split : (P : Label × ℕ → Type 0) (xs : Fields) (f : Label × ℕ) → AllByRecursion P (xs ++ f ∷ []) → AllByRecursion P xs × P f
all_split P [] f h = (tt, h.0)
all_split P (x ∷ xs) f h = let r = all_split P xs f h.1 in ((h.0, r.0), r.1)

types_at : (ns : List Cell) (xs : Fields) (f : Label × ℕ) (ys : Fields) → AreTypes ns (xs ++ f ∷ ys) → IsType ns f.1
types_at ns [] f ys h = h.0
types_at ns (x ∷ xs) f ys h = types_at ns xs f ys h.1

-- so many of the fields stand before the rest already
pub record Split (old now : List Cell) (r : ℕ) (fields left : Fields) (rest : ℕ) : Type 0 where
  pub done : Fields
  pub all : left ++ done ≡ fields
  pub fine : IsFine now
  pub keeps : KeepsCells old now
  pub rows : KeepsRows old now
  pub sort : IsRowAt now rest
  pub lack : AllByRecursion (λ f. Lacks now f.0 rest) left
  pub lacks : (l : Label) → field l done ≡ None → Lacks old l r → Lacks now l rest
  pub settled : IsSettled old → IsSettled now
  pub up : (s : Assignment) → Solves now s → Solves old s × Splits done s.types (s.rows rest) (s.rows r)
  pub down : (s : Assignment) (w : Row) → Solves old s → IsRow w → Splits done s.types w (s.rows r) → Grown old now s (λ v. v.rows rest ≡ w)

pub split_none : (old : List Cell) (r : ℕ) (fields left : Fields) → IsFine old → CanMake old (OfRow (Front fields r)) → left ≡ fields → Split old old r fields left r
split_none old r fields left fine can e = record {
  done = [];
  all = append-nil left ∙ e;
  fine = fine;
  keeps = keeps_refl old;
  rows = λ i n h. h;
  sort = (let p = can.placed in p.1);
  lack = subst (λ fs. AllByRecursion (λ f. Lacks old f.0 r) fs) (sym e) (let t = can.tidy in t.lack);
  lacks = λ l n h. h;
  settled = λ h. h;
  up = λ s h. (h, record { fronts = tt; others = λ l n. refl });
  down = λ s w h g sp. record { to = s; agrees = agrees_refl (length old) s; solves = h; holds = sym (one_row w (s.rows r) g (s.rows_ground r) (λ l. sp.others l refl)) };
}

pub split_more : (old now new : List Cell) (r : ℕ) (fields left after : Fields) (rest p : ℕ) (f : Label × ℕ) (block : Fields) → IsFine old → CanMake old (OfRow (Front fields r)) → left ≡ after ++ f ∷ [] → block ≡ f ∷ []
    → Split old now r fields left rest → Pushes now new (OfRow (Front block rest)) p → Split old new r fields after p
split_more old now new r fields left after rest p f block fine can e b x q0 =
    let q = subst (λ fs. Pushes now new (OfRow (Front fs rest)) p) b q0 in
    let whole : after ++ f ∷ x.done ≡ fields = sym (append_assoc after (f ∷ []) x.done) ∙ ap (λ fs. fs ++ x.done) (sym e) ∙ x.all in
    let differ : Differ (after ++ f ∷ x.done) = subst Differ (sym whole) (let t = can.tidy in t.differ) in
    let types : AreTypes old (after ++ f ∷ x.done) = subst (AreTypes old) (sym whole) (let t = can.placed in t.0) in
    let is_type : IsType old f.1 = types_at old after f x.done types in
    let within : f.1 < length old = sort_within old f.1 a_type is_type in
    let none : field f.0 x.done ≡ None = (differ_rest after (f ∷ x.done) differ).0 in
    let lack = all_split (λ g. Lacks now g.0 rest) after f (subst (λ fs. AllByRecursion (λ g. Lacks now g.0 rest) fs) e x.lack) in
    let k = x.keeps in
    let make : CanMake now (OfRow (Front (f ∷ []) rest)) = record { placed = ((k.sorts f.1 a_type is_type, tt), x.sort); tidy = record { lack = (lack.1, tt); differ = (refl, tt) } } in
    let t = takes_plain now new (OfRow (Front (f ∷ []) rest)) p x.fine make tt q in
    let front : (m : Label) → m ≢ f.0 → Lacks now m rest → Lacks new m p = λ m d h. t.lacks m (field_more f.0 m f.1 [] d refl, h) in
    record {
      done = f ∷ x.done;
      all = whole;
      fine = t.fine;
      keeps = keeps_on old now new x.keeps t.keeps;
      rows = λ i n h. t.rows i n (x.rows i n h);
      sort = t.sort;
      lack = both_all after (differ_apart after f x.done differ) lack.0 front;
      lacks = λ m h l. (let d = apart_field f.0 m f.1 x.done h in front m d (x.lacks m (sym (field_there m f.0 f.1 x.done d) ∙ h) l));
      settled = λ h. t.settled (x.settled h);
      up = λ s h. (let a = t.up s h in let b = x.up s a.0 in (b.0, splits_more s.types f.0 f.1 x.done (s.rows p) (s.rows rest) (s.rows r) none a.1 b.1));
      down = λ s w h g sp.
          grown_with old now new s _ _ k.grows (x.down s (rest_of f.0 w) h (drops_row (λ m. pointwise nat_eq f.0 m) w g) (splits_rest s.types f.0 f.1 x.done w (s.rows r) none sp))
          (λ v o c d.
          let first = splits_first s.types f.0 f.1 x.done w (s.rows r) sp in
          grown_row now new p x.fine (Front (f ∷ []) rest) make (pushed now new (OfRow (Front (f ∷ []) rest)) p x.fine make q) v c w g
          (subst (Splits (f ∷ []) v.types w) (sym d) (record { fronts = fronts_agree s.types v.types (f ∷ []) w (rest_of f.0 w) (o.types f.1 within, tt) first.fronts; others = first.others })));
    }
  where
    both_all : (xs : Fields) → AllByRecursion (λ g. g.0 ≢ f.0) xs → AllByRecursion (λ g. Lacks now g.0 rest) xs → ((m : Label) → m ≢ f.0 → Lacks now m rest → Lacks new m p) → AllByRecursion (λ g. Lacks new g.0 p) xs
    both_all [] a h go = tt
    both_all (y ∷ ys) a h go = (go y.0 a.0 h.0, both_all ys a.1 h.1 go)

-- all fields stand before the rest
pub split_takes : (old now : List Cell) (r : ℕ) (fields left : Fields) (rest : ℕ) → left ≡ [] → Split old now r fields left rest → Takes old now (OfRow (Front fields r)) rest
split_takes old now r fields left rest e x =
    let all : x.done ≡ fields = ap (λ fs. fs ++ x.done) (sym e) ∙ x.all in
    record {
      fine = x.fine;
      keeps = x.keeps;
      rows = x.rows;
      sort = x.sort;
      lacks = λ l h. x.lacks l (subst (λ fs. field l fs ≡ None) (sym all) h.0) h.1;
      settled = x.settled;
      up = λ s h. (let a = x.up s h in (a.0, subst (λ fs. Splits fs s.types (s.rows rest) (s.rows r)) all a.1));
      down = λ s u i h f. x.down s (u.rows i) h (u.rows_ground i) (subst (λ fs. Splits fs s.types (u.rows i) (s.rows r)) (sym all) f);
    }

-- a link stands for the cell to which it leads
pub takes_type_link : (old : List Cell) (a : ℕ) → IsFine old → CanMake old (OfType (TypeLink a)) → Takes old old (OfType (TypeLink a)) a
takes_type_link old a fine can = record {
  fine = fine;
  keeps = keeps_refl old;
  rows = λ i n h. h;
  sort = (let p = can.placed in p.1);
  lacks = λ l h. absurd h;
  settled = λ h. h;
  up = λ s h. (h, refl);
  down = λ s u i h f. record { to = s; agrees = agrees_refl (length old) s; solves = h; holds = sym f };
}

pub takes_kind_link : (old : List Cell) (a : ℕ) → IsFine old → CanMake old (OfKind (KindLink a)) → Takes old old (OfKind (KindLink a)) a
takes_kind_link old a fine can = record {
  fine = fine;
  keeps = keeps_refl old;
  rows = λ i n h. h;
  sort = (let p = can.placed in p.1);
  lacks = λ l h. absurd h;
  settled = λ h. h;
  up = λ s h. (h, refl);
  down = λ s u i h f. record { to = s; agrees = agrees_refl (length old) s; solves = h; holds = sym f };
}
