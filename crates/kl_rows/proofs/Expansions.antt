-- The cells of a type without variables, part by part.
use Rattle.std.proofs.Common.{◌≡◌, ◌≢◌, ℕ, zero, suc, ◌+◌, ◌<◌, ◌≤◌, List, [], ◌∷◌, ◌++◌, length, take, get_or, take_all, Some, None, slice_get, refl, sym, ap, ◌∙◌, subst, arith, Less}
use mathlib.Core.Path.{ap₂}
use Rattle.std.specs.List.{AllByRecursion}
use Rattle.kl_base.specs.Fields.{bytes_cmp, labels_of, field}
use Rattle.kl_value.specs.declared.value.Kind.{Kind}
use Rattle.kl_type.specs.Ground.{Ground, Row, rec, var, coll, no_row, row, at, IsBefore, IsGround, IsRow, IsProper, row_by, ground_of}
use Rattle.kl_type.specs.declared.Ty.{Ty}
use Rattle.kl_type.specs.declared.Ty.TheVariants as ty
use Rattle.kl_type.proofs.RowLemmas.{at_here, at_there, one_row, never_less, none_some, before_rest}
use Rattle.kl_type.proofs.GroundLemmas.{ground-Rec, ground-Var, ground-Coll}
use Rattle.kl_rows.specs.declared.cell.Scalar.{Scalar}
use Rattle.kl_rows.specs.declared.cell.TypeNode.{TypeNode}
use Rattle.kl_rows.specs.declared.cell.TypeNode.TheVariants.{Base, Rec, Var, Coll}
use Rattle.kl_rows.specs.declared.cell.KindNode.TheVariants.{Fixed}
use Rattle.kl_rows.specs.declared.cell.RowNode.TheVariants.{NoRow, Front}
use Rattle.kl_rows.specs.declared.cell.Cell.{Cell}
use Rattle.kl_rows.specs.declared.cell.Cell.TheVariants.{OfType, OfRow, OfKind}
use Rattle.kl_rows.specs.Lists.{Fields}
use Rattle.kl_rows.specs.Places.{IsType, AreTypes, Lacks, at_none, Differ, IsFine}
use Rattle.kl_rows.specs.Solutions.{Assignment, Splits, scalar_type, TypeSays, Solves}
use Rattle.kl_rows.specs.Steps.{Grown, KeepsCells}
use Rattle.kl_rows.specs.Making.{CanMake, AddsCell}
use Rattle.kl_rows.specs.Expanding.{Pushes, GivesType, GivesFields, Expands, ExpandsRow}
use Rattle.kl_rows.proofs.Adding.{adds}
use Rattle.kl_rows.proofs.Advancing.{agrees_refl, keeps_refl, keeps_on, types_keep}
use Rattle.kl_rows.proofs.CellLists.{get_end}
use Rattle.kl_rows.proofs.Growing.{grown_then, grown_map, grown_type, grown_row, grown_kind}
use Rattle.kl_rows.proofs.ListLemmas.{Label, field_here, field_there, Looked, found, missing, look, all_at}

pub pushed : (ns new : List Cell) (c : Cell) (i : ℕ) → IsFine ns → CanMake ns c → Pushes ns new c i → AddsCell ns new c i
pushed ns new c i fine can p = adds ns c fine can new i p.added p.place

-- the last cell of a type
module _ (old mid new : List Cell) (n : TypeNode) (i : ℕ) (t : Ground) (fine : IsFine mid) (keeps : KeepsCells old mid) (can : CanMake mid (OfType n)) (p : Pushes mid new (OfType n) i) (good : IsGround t)
    (only : (s : Assignment) (u : Ground) → TypeSays n s t → TypeSays n s u → u ≡ t)
    (up : (s : Assignment) → Solves mid s → Solves old s × TypeSays n s t) (down : (s : Assignment) → Solves old s → Grown old mid s (λ u. Unit {0})) where
  type_last : GivesType old new i t
  type_last =
      let a = pushed mid new (OfType n) i fine can p in
      record {
        fine = a.fine;
        keeps = keeps_on old mid new keeps a.keeps;
        sort = a.sort;
        up = λ s h. (let b = (a.solves s).0 h in let c = up s b.0 in (c.0, only s (s.types i) c.1 b.1));
        down = λ s h. grown_then old mid new s _ _ keeps.grows (down s h) (λ u k z. grown_type mid new i fine n can a u k t good (up u k).1);
      }

pub gives_scalar : (old new : List Cell) (i : ℕ) (t : Ty) (b : Scalar) → ground_of t ≡ scalar_type b → Pushes old new (OfType (Base b)) i → Expands old new i t
gives_scalar old new i t b e p = record {
  gives = λ fine proper.
      subst (GivesType old new i) (sym e)
      (type_last old old new (Base b) i (scalar_type b) fine (keeps_refl old) (record { placed = tt; tidy = tt }) p (subst IsGround e proper) (λ s u q r. r) (λ s h. (h, refl))
      (λ s h. record { to = s; agrees = agrees_refl (length old) s; solves = h; holds = tt }));
}

pub gives_rec : (old mid new : List Cell) (r i : ℕ) (t : Ty) (fs gs : List (List ℕ × Ty)) → t ≡ ty.Rec fs → gs ≡ fs → ExpandsRow old mid r gs → Pushes mid new (OfType (Rec r)) i → Expands old new i t
gives_rec old mid new r i t fs gs e f x p = record {
  gives = λ fine proper.
      let is : ground_of t ≡ rec (row_by ground_of fs) = ap ground_of e ∙ ground-Rec fs in
      let good : IsGround (rec (row_by ground_of fs)) = subst IsGround is proper in
      let y = subst (λ hs. ExpandsRow old mid r hs) f x in
      let g = y.gives fine good in
      subst (GivesType old new i) (sym is)
      (type_last old mid new (Rec r) i (rec (row_by ground_of fs)) g.fine g.keeps (record { placed = g.sort; tidy = tt }) p good (λ s u q z. z ∙ sym q) (λ s h. (let a = g.up s h in (a.0, ap rec (sym a.1))))
      (λ s h. grown_map old mid s _ _ (λ u k z. tt) (g.down s h)));
}

pub gives_var : (old mid new : List Cell) (r i : ℕ) (t : Ty) (fs gs : List (List ℕ × Ty)) → t ≡ ty.Var fs → gs ≡ fs → ExpandsRow old mid r gs → Pushes mid new (OfType (Var r)) i → Expands old new i t
gives_var old mid new r i t fs gs e f x p = record {
  gives = λ fine proper.
      let is : ground_of t ≡ var (row_by ground_of fs) = ap ground_of e ∙ ground-Var fs in
      let good : IsGround (var (row_by ground_of fs)) = subst IsGround is proper in
      let y = subst (λ hs. ExpandsRow old mid r hs) f x in
      let g = y.gives fine good.1 in
      subst (GivesType old new i) (sym is)
      (type_last old mid new (Var r) i (var (row_by ground_of fs)) g.fine g.keeps (record { placed = g.sort; tidy = tt }) p good (λ s u q z. z ∙ sym q) (λ s h. (let a = g.up s h in (a.0, ap var (sym a.1))))
      (λ s h. grown_map old mid s _ _ (λ u k z. tt) (g.down s h)));
}

pub gives_coll : (old one two new : List Cell) (j a i : ℕ) (t : Ty) (k : Kind) (u v : Ty) → t ≡ ty.Coll k u → v ≡ u → Pushes old one (OfKind (Fixed k)) j → Expands one two a v → Pushes two new (OfType (Coll j a)) i → Expands old new i t
gives_coll old one two new j a i t k u v e f q x p = record {
  gives = λ fine proper.
      let is : ground_of t ≡ coll k (ground_of u) = ap ground_of e ∙ ground-Coll k u in
      let good : IsGround (coll k (ground_of u)) = subst IsGround is proper in
      let kind = pushed old one (OfKind (Fixed k)) j fine (record { placed = tt; tidy = tt }) q in
      let y = subst (λ w. Expands one two a w) f x in
      let g = y.gives kind.fine good in
      let up : (s : Assignment) → Solves two s → Solves old s × (coll k (ground_of u) ≡ coll (s.kinds j) (s.types a)) =
      λ s h. (let b = g.up s h in let c = (kind.solves s).0 b.0 in (c.0, ap₂ coll (sym c.1) (sym b.1))) in
      subst (GivesType old new i) (sym is)
      (type_last old two new (Coll j a) i (coll k (ground_of u)) g.fine (keeps_on old one two kind.keeps g.keeps) (record { placed = (let m = g.keeps in m.sorts j _ kind.sort, g.sort); tidy = tt }) p good (λ s w c z. z ∙ sym c) up
      (λ s h. grown_then old one two s _ _ (let m = kind.keeps in m.grows) (grown_kind old one j fine (Fixed k) (record { placed = tt; tidy = tt }) kind s h k refl) (λ w d z. grown_map one two w _ _ (λ b c l. tt) (g.down w d))));
}

abbrev pub append_row : Row → Row → Row
append_row no_row q = q
append_row (row l t r) q = row l t (append_row r q)

pub row_append : {X : Type 0} (g : X → Ground) (xs ys : List (List ℕ × X)) → row_by g (xs ++ ys) ≡ append_row (row_by g xs) (row_by g ys)
row_append g [] ys = refl
row_append g (x ∷ xs) ys = ap (row x.0 (g x.1)) (row_append g xs ys)

pub field_proper : (fs : List (List ℕ × Ty)) (k : ℕ) (f : List ℕ × Ty) → k < length fs → f ≡ get_or fs k f → IsRow (row_by ground_of fs) → IsProper f.1
field_proper [] k f lt e h = absurd (omega arith)
field_proper (g ∷ fs) zero f lt e h = subst (λ x. IsProper x.1) (sym e) h.1
field_proper (g ∷ fs) (suc k) f lt e h = field_proper fs k f (omega arith) e h.2

pub take_more : {X : Type 0} (fs : List (List ℕ × X)) (k : ℕ) (f : List ℕ × X) → k < length fs → f ≡ get_or fs k f → take (k + 1) fs ≡ take k fs ++ f ∷ []
take_more [] k f lt e = absurd (omega arith)
take_more (g ∷ fs) zero f lt e = ap (λ x. x ∷ []) (sym e)
take_more (g ∷ fs) (suc k) f lt e = let s : suc k + 1 ≡ suc (k + 1) = omega arith in rw s (ap (λ x. g ∷ x) (take_more fs k f (omega arith) e))

-- so many of the fields have their numbers
pub record ExpandsFields (old now : List Cell) (fs : List (List ℕ × Ty)) (k : ℕ) (numbers : Fields) : Type 0 where
  pub labels : labels_of numbers ≡ labels_of (take k fs)
  pub gives : IsFine old → IsRow (row_by ground_of fs) → GivesFields old now numbers (row_by ground_of (take k fs))

pub fields_none : (old : List Cell) (fs : List (List ℕ × Ty)) (numbers : Fields) → numbers ≡ [] → ExpandsFields old old fs 0 numbers
fields_none old fs numbers e = subst (ExpandsFields old old fs 0) (sym e) (record {
  labels = refl;
  gives = λ fine proper. record { fine = fine; keeps = keeps_refl old; sorts = tt; up = λ s h. (h, refl); down = λ s h. record { to = s; agrees = agrees_refl (length old) s; solves = h; holds = tt } };
})

labels_more : {X : Type 0} (xs ys : List (List ℕ × X)) → labels_of (xs ++ ys) ≡ labels_of xs ++ labels_of ys
labels_more [] ys = refl
labels_more (x ∷ xs) ys = ap (λ ls. x.0 ∷ ls) (labels_more xs ys)

types_more : (ns : List Cell) (fs : Fields) (f : List ℕ × ℕ) → AreTypes ns fs → IsType ns f.1 → AreTypes ns (fs ++ f ∷ [])
types_more ns [] f h k = (k, tt)
types_more ns (g ∷ fs) f h k = (h.0, types_more ns fs f h.1 k)

pub fields_more : (old now new : List Cell) (fs : List (List ℕ × Ty)) (k : ℕ) (f : List ℕ × Ty) (numbers after : Fields) (l : List ℕ) (i : ℕ) → k < length fs → f ≡ get_or fs k f → l ≡ f.0 → after ≡ numbers ++ (l, i) ∷ []
    → ExpandsFields old now fs k numbers → Expands now new i f.1 → ExpandsFields old new fs (k + 1) after
fields_more old now new fs k f numbers after l i lt e named is x y = subst (ExpandsFields old new fs (k + 1)) (sym is) (record {
  labels = labels_more numbers ((l, i) ∷ []) ∙ ap₂ (λ a b. a ++ b ∷ []) x.labels named ∙ sym (labels_more (take k fs) (f ∷ [])) ∙ ap labels_of (sym (take_more fs k f lt e));
  gives = λ fine proper.
      let g = x.gives fine proper in
      let t = y.gives g.fine (field_proper fs k f lt e proper) in
      let same : (s : Assignment) → row_by s.types numbers ≡ row_by ground_of (take k fs) → s.types i ≡ ground_of f.1 → row_by s.types (numbers ++ (l, i) ∷ []) ≡ row_by ground_of (take (k + 1) fs) =
      λ s a b. row_append s.types numbers ((l, i) ∷ []) ∙ ap₂ append_row a (ap₂ (λ m u. row m u no_row) named b) ∙ sym (row_append ground_of (take k fs) (f ∷ [])) ∙ ap (row_by ground_of) (sym (take_more fs k f lt e)) in
      record {
        fine = t.fine;
        keeps = keeps_on old now new g.keeps t.keeps;
        sorts = types_more new numbers (l, i) (types_keep now new numbers t.keeps g.sorts) t.sort;
        up = λ s h. (let a = t.up s h in let b = g.up s a.0 in (b.0, same s b.1 a.1));
        down = λ s h. grown_then old now new s _ _ (let m = g.keeps in m.grows) (g.down s h) (λ u w z. grown_map now new u _ _ (λ b c d. tt) (t.down u w));
      };
})

-- the fields before the row without labels
lift_fronts : (types : ℕ → Ground) (l : Label) (t : Ground) (r : Row) (fs : Fields) → IsBefore l r → AllByRecursion (λ f. (at f.0 r ≡ Some (types f.1)) × (at f.0 no_row ≡ None)) fs
    → AllByRecursion (λ f. (at f.0 (row l t r) ≡ Some (types f.1)) × (at f.0 no_row ≡ None)) fs
lift_fronts types l t r [] b h = tt
lift_fronts types l t r (f ∷ fs) b h =
    let off : f.0 ≢ l = λ e. never_less l (subst (λ m. bytes_cmp l m ≡ Less) e (b f.0 (types f.1) h.0.0)) in
    ((at_there f.0 l t r off ∙ h.0.0, refl), lift_fronts types l t r fs b h.1)

front_fronts : (types : ℕ → Ground) (fs : Fields) → IsRow (row_by types fs) → AllByRecursion (λ f. (at f.0 (row_by types fs) ≡ Some (types f.1)) × (at f.0 no_row ≡ None)) fs
front_fronts types [] h = tt
front_fronts types (f ∷ fs) h = ((at_here f.0 f.0 (types f.1) (row_by types fs) refl, refl), lift_fronts types f.0 (types f.1) (row_by types fs) fs h.0 (front_fronts types fs h.2))

front_others : (types : ℕ → Ground) (fs : Fields) (l : Label) → field l fs ≡ None → at l (row_by types fs) ≡ None
front_others types [] l h = refl
front_others types ((m, t) ∷ fs) l h =
    let off : l ≢ m = λ e. none_some t ⊥ (sym h ∙ field_here l m t fs e) in
    at_there l m (types t) (row_by types fs) off ∙ front_others types fs l (sym (field_there l m t fs off) ∙ h)

pub front_splits : (types : ℕ → Ground) (fs : Fields) → IsRow (row_by types fs) → Splits fs types (row_by types fs) no_row
front_splits types fs h = record { fronts = front_fronts types fs h; others = λ l e. front_others types fs l e }

pub split_same : (types : ℕ → Ground) (fs : Fields) (w v e : Row) → IsRow w → IsRow v → Splits fs types w e → Splits fs types v e → w ≡ v
split_same types fs w v e g h a b = one_row w v g h (λ l. go l (look l fs))
  where
    go : (l : Label) → Looked l fs → at l w ≡ at l v
    go l (found t p) = (all_at (λ m u. (at m w ≡ Some (types u)) × (at m e ≡ None)) fs l t a.fronts p).0 ∙ sym ((all_at (λ m u. (at m v ≡ Some (types u)) × (at m e ≡ None)) fs l t b.fronts p).0)
    go l (missing p) = a.others l p ∙ sym (b.others l p)

absent : (l : Label) (fs : List (List ℕ × Ty)) (ns : Fields) → labels_of ns ≡ labels_of fs → IsRow (row_by ground_of fs) → IsBefore l (row_by ground_of fs) → field l ns ≡ None
absent l fs [] e g b = refl
absent l [] (n ∷ ns) e g b = let z : ⊥ = cc in absurd z
absent l (f ∷ fs) ((m, t) ∷ ns) e g b =
    let first : m ≡ f.0 = cc in
    let rest : labels_of ns ≡ labels_of fs = cc in
    let off : l ≢ m = λ z. never_less l (subst (λ x. bytes_cmp l x ≡ Less) (sym (z ∙ first)) (b f.0 (ground_of f.1) (at_here f.0 f.0 (ground_of f.1) (row_by ground_of fs) refl))) in
    field_there l m t ns off ∙ absent l fs ns rest g.2 (before_rest l f.0 (ground_of f.1) (row_by ground_of fs) g.0 b)

differ_numbers : (fs : List (List ℕ × Ty)) (ns : Fields) → labels_of ns ≡ labels_of fs → IsRow (row_by ground_of fs) → Differ ns
differ_numbers fs [] e g = tt
differ_numbers [] (n ∷ ns) e g = let z : ⊥ = cc in absurd z
differ_numbers (f ∷ fs) ((m, t) ∷ ns) e g =
    let first : m ≡ f.0 = cc in
    let rest : labels_of ns ≡ labels_of fs = cc in
    (subst (λ l. field l ns ≡ None) (sym first) (absent f.0 fs ns rest g.2 g.0), differ_numbers fs ns rest g.2)

none_lacks : (ns : List Cell) (r : ℕ) (fs : Fields) → slice_get ns r ≡ Some (OfRow NoRow) → AllByRecursion (λ f. Lacks ns f.0 r) fs
none_lacks ns r [] e = tt
none_lacks ns r (f ∷ fs) e = (at_none e, none_lacks ns r fs e)

pub row_last : (old mid none new : List Cell) (fs : List (List ℕ × Ty)) (k : ℕ) (numbers : Fields) (rest i : ℕ) → length fs ≤ k → ExpandsFields old mid fs k numbers → Pushes mid none (OfRow NoRow) rest → Pushes none new (OfRow (Front numbers rest)) i
    → ExpandsRow old new i fs
row_last old mid none new fs k numbers rest i le x p q = record {
  gives = λ fine proper.
      let all : take k fs ≡ fs = take_all k fs le in
      let g = subst (λ gs. GivesFields old mid numbers (row_by ground_of gs)) all (x.gives fine proper) in
      let a = pushed mid none (OfRow NoRow) rest g.fine (record { placed = tt; tidy = tt }) p in
      let here : slice_get none rest ≡ Some (OfRow NoRow) = ap (λ r. slice_get none r) p.place ∙ ap (λ cs. slice_get cs (length mid)) p.added ∙ get_end mid (OfRow NoRow) in
      let m = a.keeps in
      let can : CanMake none (OfRow (Front numbers rest)) =
      record { placed = (types_keep mid none numbers m g.sorts, a.sort); tidy = record { lack = none_lacks none rest numbers here; differ = differ_numbers fs numbers (x.labels ∙ ap labels_of all) proper } } in
      let b = pushed none new (OfRow (Front numbers rest)) i a.fine can q in
      let up : (s : Assignment) → Solves none s → Solves old s × (row_by s.types numbers ≡ row_by ground_of fs) × (s.rows rest ≡ no_row) =
      λ s h. (let c = (a.solves s).0 h in let d = g.up s c.0 in (d.0, d.1, c.1)) in
      let splits : (s : Assignment) → Solves none s → Splits numbers s.types (row_by ground_of fs) (s.rows rest) =
      λ s h. (let c = up s h in subst (Splits numbers s.types (row_by ground_of fs)) (sym c.2) (subst (λ w. Splits numbers s.types w no_row) c.1 (front_splits s.types numbers (subst IsRow (sym c.1) proper)))) in
      let n = g.keeps in
      record {
        fine = b.fine;
        keeps = keeps_on old none new (keeps_on old mid none n m) b.keeps;
        sort = b.sort;
        up = λ s h. (let c = (b.solves s).0 h in ((up s c.0).0, split_same s.types numbers (s.rows i) (row_by ground_of fs) (s.rows rest) (s.rows_ground i) proper c.1 (splits s c.0)));
        down = λ s h. grown_then old none new s (λ u. Unit {0}) _ (let z = m.grows in let y = n.grows in omega arith)
            (grown_then old mid none s (λ u. Unit {0}) _ n.grows (g.down s h) (λ u w z. grown_map mid none u _ _ (λ v c d. tt) (grown_row mid none rest g.fine NoRow (record { placed = tt; tidy = tt }) a u w no_row tt refl)))
            (λ u w z. grown_row none new i a.fine (Front numbers rest) can b u w (row_by ground_of fs) proper (splits u w));
      };
}
