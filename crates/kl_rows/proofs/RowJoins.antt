-- Two ends of rows before one rest.
use Rattle.std.proofs.Common.{◌≡◌, ◌⊎◌, inl, inr, ⊎_elim, ℕ, zero, suc, ◌+◌, ◌<◌, ◌≤◌, Bool, true, false, ◌&&◌, List, [], ◌∷◌, ◌++◌, length, Option, Some, None, slice_get, refl, sym, ap, ◌∙◌, subst, arith, length-set, length-append}
use Rattle.std.specs.List.{AllByRecursion, list_all}
use Rattle.std.specs.Option.{is_none}
use Rattle.std.proofs.Math.ListN.{set}
use Rattle.std.proofs.lemmas.Bool.{cases_eq, and_parts}
use Rattle.std.proofs.lemmas.Option.{same_Some, slice_get_within}
use Rattle.std.proofs.lemmas.List.{append-nil}
use Rattle.kl_base.specs.Fields.{field}
use Rattle.kl_type.specs.Ground.{Ground, Row, no_row, rec, var, coll, arrow, at, IsRow}
use Rattle.kl_rows.specs.declared.cell.TypeNode.TheVariants.{AnyType, Base, Rec, Var, Coll, TypeLink}
use Rattle.kl_rows.specs.declared.cell.KindNode.TheVariants.{AnyKind, Fixed, KindLink}
use Rattle.kl_rows.specs.declared.cell.RowNode.{RowNode}
use Rattle.kl_rows.specs.declared.cell.RowNode.TheVariants.{AnyRow, NoRow, Front}
use Rattle.kl_rows.specs.declared.cell.Cell.{Cell}
use Rattle.kl_rows.specs.declared.cell.Cell.TheVariants.{OfType, OfFunction, OfRow, OfKind}
use Rattle.kl_rows.specs.Lists.{Fields}
use Rattle.kl_rows.specs.Places.{a_type, a_row, a_kind, sort_of, IsRowAt, AreTypes, IsPlaced, IsEnd, EndsAt, Steps, Walk, chained_one, Ended, IsIn, Lacks, at_open, at_none, at_front, IsTidy, IsFine, open_one, roots}
use Rattle.kl_rows.specs.Solutions.{Assignment, Splits, RowSays, Says, Solves}
use Rattle.kl_rows.specs.Steps.{Agrees, KeepsCells, Advances, Shares}
use Rattle.kl_rows.specs.Joining.{or_no_row, cell_at, is_empty, may_take, is_open, lacks_at, AreApart}
use Rattle.kl_rows.proofs.CellLists.{get_last, get_first, get_end, total_set, total_push, stands, sort_here, sort_within, row_same}
use Rattle.kl_rows.proofs.ListLemmas.{Label, no_no, Looked, found, missing, look, field_here}
use Rattle.kl_rows.proofs.Meeting.{at_whole, at_rest}
use Rattle.kl_rows.proofs.Advancing.{Fact, Goes, advances, stays, never, then, sets, set_here, set_there, set_keeps, set_was, set_placed, set_roots, keeps_on, types_keep, placed_keeps, Reaches, walk_kept, lacks_kept, tidy_kept, Others}
use Rattle.kl_rows.proofs.Assigning.{Off, with_row, row_put}
use Rattle.kl_type.proofs.RowLemmas.{none_some}
use Rattle.kl_base.proofs.Each.{all_append, all_map}

end_unchained : (n : RowNode) → IsEnd n → chained_one (OfRow n) ≡ 0
end_unchained (AnyRow ls) h = refl
end_unchained NoRow h = refl
end_unchained (Front fs r) h = absurd h

-- an end that gets fields before a rest
module _ (ns : List Cell) (e r : ℕ) (n : RowNode) (fs : Fields) (fine : IsFine ns) (here : slice_get ns e ≡ Some (OfRow n)) (is_end : IsEnd n) (types : AreTypes ns fs) (rest : EndsAt ns r) (apart : e ≡ r → ⊥)
    (tidy : IsTidy ns fs r) (covers : (l : Label) → Lacks ns l e → (field l fs ≡ None) × Lacks ns l r) where
  abbrev pub closed : List Cell
  closed = set ns e (OfRow (Front fs r))

  closed_here : slice_get closed e ≡ Some (OfRow (Front fs r))
  closed_here = set_here ns e (OfRow n) (OfRow (Front fs r)) here refl

  closed_there : (i : ℕ) → (e ≡ i → ⊥) → slice_get closed i ≡ slice_get ns i
  closed_there = set_there ns e (OfRow n) (OfRow (Front fs r)) here refl

  pub closed_ends : (i : ℕ) → (e ≡ i → ⊥) → EndsAt ns i → EndsAt closed i
  closed_ends i off h = record { node = h.node; here = closed_there i off ∙ h.here; is_end = h.is_end }

  reach_end : (i : ℕ) → EndsAt ns i → (e ≡ i) ⊎ (e ≡ i → ⊥) → Reaches closed i 1
  reach_end i h (inl same) = record {
    steps = 1;
    fields = fs ++ [];
    end = r;
    walk = (fs, [], r, record { here = sym (ap (slice_get closed) same) ∙ closed_here }, refl, (refl, refl, closed_ends r apart rest));
    short = omega arith;
  }
  reach_end i h (inr off) = record { steps = 0; fields = []; end = i; walk = (refl, refl, closed_ends i off h); short = omega arith }

  no_front : (i : ℕ) (gs : Fields) (q : ℕ) → Steps ns i gs q → e ≡ i → ⊥
  no_front i gs q st same = subst IsEnd (row_same n (Front gs q) (sym here ∙ ap (slice_get ns) same ∙ st.here)) is_end

  reach : (k i : ℕ) (gs : Fields) (q : ℕ) → Walk ns k i gs q → Reaches closed i (suc k)
  reach zero i gs q w = reach_end i w.2 (cases_eq e i)
  reach (suc k) i gs q w =
      let more = reach k w.2 w.1 q w.5 in
      let le = more.short in
      record {
        steps = suc more.steps;
        fields = w.0 ++ more.fields;
        end = more.end;
        walk = (w.0, more.fields, w.2, record { here = closed_there i (no_front i w.0 w.2 w.3) ∙ w.3.here }, refl, more.walk);
        short = omega arith;
      }

  end_lacks : (l : Label) (i : ℕ) → (e ≡ i → ⊥) → EndsAt ns i → Lacks ns l i → Lacks closed l i
  end_lacks l i off h (at_open ls q d) = at_open ls (closed_there i off ∙ q) d
  end_lacks l i off h (at_none q) = at_none (closed_there i off ∙ q)
  end_lacks l i off h (at_front gs q p d k) = absurd (subst IsEnd (row_same _ _ (sym h.here ∙ p)) h.is_end)

  at_closed : (l : Label) → Lacks ns l e → Lacks closed l e
  at_closed l k = let c = covers l k in at_front fs r closed_here c.0 (end_lacks l r apart rest c.1)

  lacks_closed : (l : Label) {i : ℕ} → Lacks ns l i → Lacks closed l i
  lacks_closed l {i} (at_open ls q d) = ⊎_elim (λ same. subst (Lacks closed l) same (at_closed l (subst (Lacks ns l) (sym same) (at_open ls q d)))) (λ off. at_open ls (closed_there i off ∙ q) d) (cases_eq e i)
  lacks_closed l {i} (at_none q) = ⊎_elim (λ same. subst (Lacks closed l) same (at_closed l (subst (Lacks ns l) (sym same) (at_none q)))) (λ off. at_none (closed_there i off ∙ q)) (cases_eq e i)
  lacks_closed l {i} (at_front gs q p d k) = at_front gs q (closed_there i (no_front i gs q (record { here = p })) ∙ p) d (lacks_closed l k)

  pub closed_keeps : KeepsCells ns closed
  closed_keeps = set_keeps ns e (OfRow n) (OfRow (Front fs r)) here refl (λ l i h. lacks_closed l h)

  tidy_closed : (gs : Fields) (q : ℕ) → IsTidy ns gs q → IsTidy closed gs q
  tidy_closed gs q t = record { lack = all_map (λ f. Lacks ns f.0 q) (λ f. Lacks closed f.0 q) gs (λ f k. lacks_closed f.0 k) t.lack; differ = t.differ }

  front_same : (gs : Fields) (q : ℕ) → OfRow (Front fs r) ≡ OfRow (Front gs q) → (fs ≡ gs) × (r ≡ q)
  front_same gs q h = (cc, cc)

  tidy_at : (i : ℕ) (gs : Fields) (q : ℕ) → slice_get closed i ≡ Some (OfRow (Front gs q)) → IsTidy closed gs q
  tidy_at i gs q h = ⊎_elim
      (λ same. (let p = front_same gs q (same_Some _ _ (sym closed_here ∙ ap (slice_get closed) same ∙ h)) in subst (λ x. IsTidy closed x q) p.0 (subst (IsTidy closed fs) p.1 (tidy_closed fs r tidy))))
      (λ off. tidy_closed gs q (fine.tidy i gs q (sym (closed_there i off) ∙ h)))
      (cases_eq e i)

  rest_row : IsRowAt ns r
  rest_row = sort_here ns r (OfRow rest.node) rest.here

  pub closed_fine : IsFine closed
  closed_fine = record {
    tidy = tidy_at;
    placed = set_placed ns e (OfRow n) (OfRow (Front fs r)) here refl (λ l i h. lacks_closed l h) fine (types, rest_row);
    ended = λ i h.
        let old = fine.ended i (set_was ns e (OfRow n) (OfRow (Front fs r)) here refl i a_row h) in
        let new = reach old.steps i old.fields old.end old.walk in
        let a = old.short in
        let b = new.short in
        record {
          steps = new.steps;
          fields = new.fields;
          end = new.end;
          walk = new.walk;
          short = omega (arith, total_set chained_one ns e (OfRow n) (OfRow (Front fs r)) here, end_unchained n is_end);
        };
  }

  pub closes : (P : Fact) → ((s : Assignment) → Others ns e s → Splits fs s.types (s.rows e) (s.rows r) → RowSays n s (s.rows e)) → Goes true ns closed (λ s. Splits fs s.types (s.rows e) (s.rows r) × P s) P
  closes P lack = sets ns e (OfRow n) (OfRow (Front fs r)) here refl _ _ (λ l i h. lacks_closed l h) closed_fine (λ s o h d. (d.0, d.1)) (λ s o h p. (lack s o h, (h, p)))

  pub closed_roots : roots closed + open_one (OfRow n) ≡ roots ns
  closed_roots = omega (arith, set_roots ns e (OfRow n) (OfRow (Front fs r)) here refl)

-- another row for one number
put_same : (s : Assignment) (n : ℕ) (r : Row) (g : IsRow r) → (with_row s n r g).rows n ≡ r
put_same s n r g = (row_put s n r g).1

put_agrees : (s : Assignment) (n : ℕ) (r : Row) (g : IsRow r) → Agrees n s (with_row s n r g)
put_agrees s n r g =
    let o : Off n s (with_row s n r g) = (row_put s n r g).0 in
    record { types = λ i h. o.types i (λ e. omega arith); functions = λ i h. o.functions i (λ e. omega arith); rows = λ i h. o.rows i (λ e. omega arith); kinds = λ i h. o.kinds i (λ e. omega arith) }

fronts_agree : (ns : List Cell) (fs : Fields) (s u : Assignment) (w e : Row) → AreTypes ns fs → Agrees (length ns) s u → AllByRecursion (λ f. (at f.0 w ≡ Some (s.types f.1)) × (at f.0 e ≡ None)) fs
    → AllByRecursion (λ f. (at f.0 w ≡ Some (u.types f.1)) × (at f.0 e ≡ None)) fs
fronts_agree ns [] s u w e h a k = tt
fronts_agree ns (f ∷ fs) s u w e h a k = ((k.0.0 ∙ ap Some (sym (a.types f.1 (sort_within ns f.1 a_type h.0))), k.0.1), fronts_agree ns fs s u w e h.1 a k.1)

pub splits_agree : (ns : List Cell) (fs : Fields) (s u : Assignment) (i r : ℕ) → AreTypes ns fs → Agrees (length ns) s u → i < length ns → r < length ns → Splits fs s.types (s.rows i) (s.rows r) → Splits fs u.types (u.rows i) (u.rows r)
splits_agree ns fs s u i r h a li lr k =
    subst (λ w. Splits fs u.types w (u.rows r)) (sym (a.rows i li)) (subst (λ e. Splits fs u.types (s.rows i) e) (sym (a.rows r lr))
    (record { fronts = fronts_agree ns fs s u (s.rows i) (s.rows r) h a k.fronts; others = k.others }))

-- what is said of old numbers is said under an assignment that agrees
says_agree : (ns : List Cell) (i : ℕ) (c : Cell) (s u : Assignment) → i < length ns → IsPlaced ns i c → Agrees (length ns) s u → Says c s i → Says c u i
says_agree ns i (OfType AnyType) s u l p a h = tt
says_agree ns i (OfType (Base b)) s u l p a h = a.types i l ∙ h
says_agree ns i (OfType (Rec r)) s u l p a h = a.types i l ∙ h ∙ ap rec (sym (a.rows r (sort_within ns r a_row p)))
says_agree ns i (OfType (Var r)) s u l p a h = a.types i l ∙ h ∙ ap var (sym (a.rows r (sort_within ns r a_row p)))
says_agree ns i (OfType (Coll k x)) s u l p a h =
    a.types i l ∙ h ∙ ap (λ j. coll j (s.types x)) (sym (a.kinds k (sort_within ns k a_kind p.0))) ∙ ap (coll (u.kinds k)) (sym (a.types x (sort_within ns x a_type p.1)))
says_agree ns i (OfFunction x y) s u l p a h =
    a.functions i l ∙ h ∙ ap (λ j. arrow j (s.types y)) (sym (a.types x (sort_within ns x a_type p.0))) ∙ ap (arrow (u.types x)) (sym (a.types y (sort_within ns y a_type p.1)))
says_agree ns i (OfType (TypeLink x)) s u l p a h = a.types i l ∙ h ∙ sym (a.types x (sort_within ns x a_type p.1))
says_agree ns i (OfRow (AnyRow ls)) s u l p a h = subst (λ r. AllByRecursion (λ m. at m r ≡ None) ls) (sym (a.rows i l)) h
says_agree ns i (OfRow NoRow) s u l p a h = a.rows i l ∙ h
says_agree ns i (OfRow (Front fs r)) s u l p a h = splits_agree ns fs s u i r p.0 a l (sort_within ns r a_row p.1) h
says_agree ns i (OfKind AnyKind) s u l p a h = tt
says_agree ns i (OfKind (Fixed j)) s u l p a h = a.kinds i l ∙ h
says_agree ns i (OfKind (KindLink x)) s u l p a h = a.kinds i l ∙ h ∙ sym (a.kinds x (sort_within ns x a_kind p.1))

pub solves_agree : (ns : List Cell) (s u : Assignment) → IsFine ns → Agrees (length ns) s u → Solves ns s → Solves ns u
solves_agree ns s u f a h = record { each = λ i c e. says_agree ns i c s u (slice_get_within ns i c e) (f.placed i c e) a (h.each i c e) }

-- a fresh row
module _ (ns : List Cell) (ls : List Label) (fine : IsFine ns) where
  abbrev pub pushed : List Cell
  pushed = ns ++ OfRow (AnyRow ls) ∷ []

  pub pushed_longer : length pushed ≡ length ns + 1
  pushed_longer = length-append ns (OfRow (AnyRow ls) ∷ [])

  pub pushed_keeps : KeepsCells ns pushed
  pushed_keeps = record {
    grows = omega (arith, pushed_longer);
    sorts = λ i q e. (let st = stands ns i q e in sort_here pushed i st.cell (get_first ns (OfRow (AnyRow ls)) i st.cell st.here) ∙ ap Some st.sort);
    lacks = λ l i h. lacks_kept ns pushed l (λ j n e. get_first ns (OfRow (AnyRow ls)) j (OfRow n) e) h;
  }

  pub pushed_end : EndsAt pushed (length ns)
  pushed_end = record { node = AnyRow ls; here = get_end ns (OfRow (AnyRow ls)); is_end = tt }

  ended_in : (i : ℕ) (c : Cell) → sort_of c ≡ a_row → (slice_get ns i ≡ Some c) ⊎ ((i ≡ length ns) × (c ≡ OfRow (AnyRow ls))) → Ended pushed i
  ended_in i c q (inl e) =
      let old = fine.ended i (sort_here ns i c e ∙ ap Some q) in
      let le = old.short in
      record {
        steps = old.steps;
        fields = old.fields;
        end = old.end;
        walk = walk_kept ns pushed (λ j n h. get_first ns (OfRow (AnyRow ls)) j (OfRow n) h) old.steps i old.fields old.end old.walk;
        short = omega (arith, total_push chained_one ns (OfRow (AnyRow ls)));
      }
  ended_in i c q (inr e) = record { steps = 0; fields = []; end = i; walk = (refl, refl, subst (EndsAt pushed) (sym e.0) pushed_end); short = omega arith }

  no_front_here : (fs : Fields) (r : ℕ) → OfRow (Front fs r) ≡ OfRow (AnyRow ls) → ⊥
  no_front_here fs r h = cc

  pub pushed_fine : IsFine pushed
  pushed_fine = record {
    tidy = λ i fs r e. tidy_kept ns pushed fs r (λ j n h. get_first ns (OfRow (AnyRow ls)) j (OfRow n) h) (⊎_elim (λ h. fine.tidy i fs r h) (λ h. (let z : ⊥ = no_front_here fs r h.1 in absurd z)) (get_last ns (OfRow (AnyRow ls)) i (OfRow (Front fs r)) e));
    placed = λ i c e. ⊎_elim (λ h. placed_keeps ns pushed i c pushed_keeps (fine.placed i c h)) (λ h. subst (IsPlaced pushed i) (sym h.1) tt) (get_last ns (OfRow (AnyRow ls)) i c e);
    ended = λ i h. (let st = stands pushed i a_row h in ended_in i st.cell st.sort (get_last ns (OfRow (AnyRow ls)) i st.cell st.here));
  }

  pushed_solves : (s u : Assignment) → Solves ns s → Agrees (length ns) s u → AllByRecursion (λ l. at l (u.rows (length ns)) ≡ None) ls → Solves pushed u
  pushed_solves s u h a k =
      let old = solves_agree ns s u fine a h in
      record { each = λ i c e. ⊎_elim (λ g. old.each i c g) (λ g. subst (λ j. Says c u j) (sym g.0) (subst (λ d. Says d u (length ns)) (sym g.1) k)) (get_last ns (OfRow (AnyRow ls)) i c e) }

  pub pushes : (D R : Fact) → ((s : Assignment) → Solves ns s → D s → (r : Row) × IsRow r × AllByRecursion (λ l. at l r ≡ None) ls × ((u : Assignment) → Agrees (length ns) s u → u.rows (length ns) ≡ r → R u))
      → ((s : Assignment) → Solves ns s → R s → D s) → Goes true ns pushed D R
  pushes D R go come = record {
    fine = pushed_fine;
    keeps = pushed_keeps;
    down = λ s h d.
        let w = go s h d in
        let u = with_row s (length ns) w.0 w.1 in
        let a = put_agrees s (length ns) w.0 w.1 in
        let e = put_same s (length ns) w.0 w.1 in (
          refl,
          record { to = u; agrees = a; solves = pushed_solves s u h a (subst (λ r. AllByRecursion (λ l. at l r ≡ None) ls) (sym e) w.2); holds = w.3 u a e },
        );
    up = λ t s h r. let old : Solves ns s = record { each = λ i c e. h.each i c (get_first ns (OfRow (AnyRow ls)) i c e) } in (old, come s old r);
  }

-- what an end says against fields, and what it says once it has them
none_is : (o : Option ℕ) → is_none o ≡ true → o ≡ None
none_is None h = refl
none_is (Some t) h = let e : ⊥ = cc in absurd e

all_lacked : (ty : ℕ → Ground) (fs : Fields) (w e : Row) (ls : List Label) → Splits fs ty w e → list_all (λ l. is_none (field l fs)) ls ≡ true → AllByRecursion (λ l. at l e ≡ None) ls → AllByRecursion (λ l. at l w ≡ None) ls
all_lacked ty fs w e [] h k p = tt
all_lacked ty fs w e (l ∷ ls) h k p = let both = and_parts _ _ k in (h.others l (none_is _ both.0) ∙ p.0, all_lacked ty fs w e ls h both.1 p.1)

one_lacked : (ty : ℕ → Ground) (fs : Fields) (w e : Row) (l : Label) (o : Option ℕ) (b : Bool) → Splits fs ty w e → field l fs ≡ o → (is_none o && b) ≡ false → at l w ≡ None → (b ≡ false → ⊥) → ⊥
one_lacked ty fs w e l (Some t) b h q c p more = none_some _ ⊥ (sym p ∙ at_whole ty fs w e l t h q)
one_lacked ty fs w e l None b h q c p more = more c

some_lacked : (ty : ℕ → Ground) (fs : Fields) (w e : Row) (ls : List Label) → Splits fs ty w e → list_all (λ l. is_none (field l fs)) ls ≡ false → AllByRecursion (λ l. at l w ≡ None) ls → ⊥
some_lacked ty fs w e [] h k p = let z : ⊥ = cc in z
some_lacked ty fs w e (l ∷ ls) h k p = one_lacked ty fs w e l (field l fs) _ h refl k p.0 (λ c. some_lacked ty fs w e ls h c p.1)

empty_none : (fs : Fields) → is_empty fs ≡ true → fs ≡ []
empty_none [] h = refl
empty_none (f ∷ fs) h = let e : ⊥ = cc in absurd e

pub refused : (n : RowNode) (fs : Fields) (s : Assignment) (w e : Row) → IsEnd n → may_take (OfRow n) fs ≡ false → RowSays n s w → Splits fs s.types w e → ⊥
refused (AnyRow ls) fs s w e q h k p = some_lacked s.types fs w e ls p h k
refused NoRow [] s w e q h k p = let z : ⊥ = cc in z
refused NoRow ((l, t) ∷ fs) s w e q h k p = none_some _ ⊥ (sym (ap (at l) k) ∙ p.fronts.0.0)
refused (Front gs r) fs s w e q h k p = q

no_splits : (ty : ℕ → Ground) (r : Row) → Splits [] ty r r
no_splits ty r = record { fronts = tt; others = λ l h. refl }

pub swap : (fs gs : Fields) (a b : ℕ) (s : Assignment) → Shares fs gs a b s → Shares gs fs b a s
swap fs gs a b s h = record { rest = h.rest; good = h.good; on_first = h.on_second; on_second = h.on_first }

open_same : (ls ms : List Label) → Some (OfRow (AnyRow ls)) ≡ Some (OfRow (AnyRow ms)) → ls ≡ ms
open_same ls ms h = cc

open_not : {A : Type 0} (ls : List Label) (n : RowNode) → Some (OfRow (AnyRow ls)) ≡ Some (OfRow n) → ((ms : List Label) → n ≡ AnyRow ms → ⊥) → A
open_not ls n h off = absurd (off ls (sym (row_same _ _ h)))

-- what an open end lacks stands among its labels
open_lacks : (ns : List Cell) (l : Label) (i : ℕ) (ls : List Label) → slice_get ns i ≡ Some (OfRow (AnyRow ls)) → Lacks ns l i → IsIn l ls
open_lacks ns l i ls h (at_open ms e d) = subst (IsIn l) (open_same ms ls (sym e ∙ h)) d
open_lacks ns l i ls h (at_none e) = open_not ls NoRow (sym h ∙ e) (λ ms q. let z : ⊥ = cc in z)
open_lacks ns l i ls h (at_front fs r e d k) = open_not ls (Front fs r) (sym h ∙ e) (λ ms q. let z : ⊥ = cc in z)

taken_none : (fs : Fields) (l : Label) (ls : List Label) → IsIn l ls → list_all (λ m. is_none (field m fs)) ls ≡ true → field l fs ≡ None
taken_none fs l [] d h = absurd d
taken_none fs l (m ∷ ms) d h = let both = and_parts _ _ h in ⊎_elim (λ e. subst (λ k. field k fs ≡ None) (sym e) (none_is _ both.0)) (λ k. taken_none fs l ms k both.1) d

in_left : (l : Label) (ls ms : List Label) → IsIn l ls → IsIn l (ls ++ ms)
in_left l [] ms d = absurd d
in_left l (m ∷ ls) ms d = ⊎_elim (λ e. inl e) (λ k. inr (in_left l ls ms k)) d

in_right : (l : Label) (ls ms : List Label) → IsIn l ms → IsIn l (ls ++ ms)
in_right l [] ms d = d
in_right l (m ∷ ls) ms d = inr (in_right l ls ms d)

-- one end twice
pub same_ends : (ns : List Cell) (a b : ℕ) (fs gs : Fields) (c : Bool) → IsFine ns → a ≡ b → AreApart fs gs → c ≡ (is_empty fs && is_empty gs) → Goes c ns ns (Shares fs gs a b) (λ s. Unit {0})
same_ends ns a b fs gs c fine e apart q = subst (λ d. Goes d ns ns (Shares fs gs a b) (λ s. Unit {0})) (sym q) (go fs gs apart)
  where
    go : (fs gs : Fields) → AreApart fs gs → Goes (is_empty fs && is_empty gs) ns ns (Shares fs gs a b) (λ s. Unit {0})
    go [] [] p = stays ns _ _ fine (λ s h d. tt)
        (λ s h d. record { rest = s.rows b; good = s.rows_ground b; on_first = subst (λ i. Splits [] s.types (s.rows i) (s.rows b)) (sym e) (no_splits s.types (s.rows b)); on_second = no_splits s.types (s.rows b) })
    go ((l, t) ∷ fs) gs p = never ns _ _ fine
        (λ s h d. none_some _ ⊥ (sym (ap (λ i. at l (s.rows i)) e ∙ d.on_second.others l (p.first l t (field_here l l t fs refl)) ∙ d.on_first.fronts.0.1) ∙ d.on_first.fronts.0.0))
    go [] ((l, t) ∷ gs) p = never ns _ _ fine (λ s h d. none_some _ ⊥ (sym (sym (ap (λ i. at l (s.rows i)) e) ∙ d.on_first.others l refl ∙ d.on_second.fronts.0.1) ∙ d.on_second.fronts.0.0))

-- an end that cannot take its fields
pub first_refuses : (ns : List Cell) (a b : ℕ) (fs gs : Fields) → IsFine ns → (n : RowNode) → slice_get ns a ≡ Some (OfRow n) → IsEnd n → may_take (OfRow n) fs ≡ false → Goes false ns ns (Shares fs gs a b) (λ s. Unit {0})
first_refuses ns a b fs gs fine n here is_end h = never ns _ _ fine (λ s g d. refused n fs s (s.rows a) d.rest is_end h (g.each a (OfRow n) here) d.on_first)

pub second_refuses : (ns : List Cell) (a b : ℕ) (fs gs : Fields) → IsFine ns → (n : RowNode) → slice_get ns b ≡ Some (OfRow n) → IsEnd n → may_take (OfRow n) gs ≡ false → Goes false ns ns (Shares fs gs a b) (λ s. Unit {0})
second_refuses ns a b fs gs fine n here is_end h = never ns _ _ fine (λ s g d. refused n gs s (s.rows b) d.rest is_end h (g.each b (OfRow n) here) d.on_second)

-- two ends with no label
pub both_closed : (ns : List Cell) (a b : ℕ) → IsFine ns → slice_get ns a ≡ Some (OfRow NoRow) → slice_get ns b ≡ Some (OfRow NoRow) → Goes true ns ns (Shares [] [] a b) (λ s. Unit {0})
both_closed ns a b fine ha hb = stays ns _ _ fine (λ s h d. tt)
    (λ s h d.
    let ea : s.rows a ≡ no_row = h.each a (OfRow NoRow) ha in
    let eb : s.rows b ≡ no_row = h.each b (OfRow NoRow) hb in
    record { rest = no_row; good = tt; on_first = record { fronts = tt; others = λ l q. ap (at l) ea }; on_second = record { fronts = tt; others = λ l q. ap (at l) eb } })

-- an open end and one with no label
module _ (ns : List Cell) (a b : ℕ) (fs : Fields) (ls : List Label) (fine : IsFine ns) (ha : slice_get ns a ≡ Some (OfRow (AnyRow ls))) (hb : slice_get ns b ≡ Some (OfRow NoRow)) (apart : a ≡ b → ⊥) (types : AreTypes ns fs)
    (takes : list_all (λ l. is_none (field l fs)) ls ≡ true) (tidy : IsTidy ns fs b) where
  closed_covers : (l : Label) → Lacks ns l a → (field l fs ≡ None) × Lacks ns l b
  closed_covers l k = (taken_none fs l ls (open_lacks ns l a ls ha k) takes, at_none hb)

  closed_end : EndsAt ns b
  closed_end = record { node = NoRow; here = hb; is_end = tt }

  every_lacks : (r : Row) → r ≡ no_row → (ms : List Label) → AllByRecursion (λ l. at l r ≡ None) ms
  every_lacks r e [] = tt
  every_lacks r e (l ∷ ms) = (ap (at l) e, every_lacks r e ms)

  fronts_on : (ty : ℕ → Ground) (w e q : Row) (gs : Fields) → ((l : Label) → at l q ≡ at l e) → AllByRecursion (λ f. (at f.0 w ≡ Some (ty f.1)) × (at f.0 e ≡ None)) gs → AllByRecursion (λ f. (at f.0 w ≡ Some (ty f.1)) × (at f.0 q ≡ None)) gs
  fronts_on ty w e q [] h k = tt
  fronts_on ty w e q (f ∷ gs) h k = ((k.0.0, h f.0 ∙ k.0.1), fronts_on ty w e q gs h k.1)

  pub one_closed : Goes true ns (set ns a (OfRow (Front fs b))) (Shares fs [] a b) (λ s. Unit {0})
  one_closed = then true ns ns (set ns a (OfRow (Front fs b))) _ (λ s. Splits fs s.types (s.rows a) (s.rows b) × Unit {0}) _
      (stays ns _ _ fine
      (λ s h d. (record { fronts = fronts_on s.types (s.rows a) d.rest (s.rows b) fs (λ l. d.on_second.others l refl) d.on_first.fronts; others = λ l q. d.on_first.others l q ∙ sym (d.on_second.others l refl) }, tt))
      (λ s h d. record { rest = s.rows b; good = s.rows_ground b; on_first = d.0; on_second = no_splits s.types (s.rows b) }))
      (closes ns a b (AnyRow ls) fs fine ha tt types closed_end apart tidy closed_covers (λ s. Unit {0})
      (λ s o h. all_lacked s.types fs (s.rows a) (s.rows b) ls h takes (every_lacks (s.rows b) (o b (OfRow NoRow) apart hb) ls)))

  pub one_closed_roots : roots (set ns a (OfRow (Front fs b))) ≤ roots ns
  one_closed_roots = omega (arith, closed_roots ns a b (AnyRow ls) fs fine ha tt types closed_end apart tidy closed_covers)

-- two open ends
module _ (ns : List Cell) (a b : ℕ) (fs gs : Fields) (ls ms : List Label) (fine : IsFine ns) (ha : slice_get ns a ≡ Some (OfRow (AnyRow ls))) (hb : slice_get ns b ≡ Some (OfRow (AnyRow ms))) (apart : a ≡ b → ⊥)
    (types_a : AreTypes ns fs) (types_b : AreTypes ns gs) (takes_a : list_all (λ l. is_none (field l fs)) ls ≡ true) (takes_b : list_all (λ l. is_none (field l gs)) ms ≡ true) (tidy_a : IsTidy ns fs b) (tidy_b : IsTidy ns gs a) where
  abbrev fresh : List Cell
  fresh = ns ++ OfRow (AnyRow (ls ++ ms)) ∷ []

  abbrev half : List Cell
  half = set fresh a (OfRow (Front fs (length ns)))

  abbrev pub full : List Cell
  full = set half b (OfRow (Front gs (length ns)))

  a_in : a < length ns
  a_in = slice_get_within ns a (OfRow (AnyRow ls)) ha

  b_in : b < length ns
  b_in = slice_get_within ns b (OfRow (AnyRow ms)) hb

  a_off : a ≡ length ns → ⊥
  a_off e = let l = a_in in omega arith

  b_off : b ≡ length ns → ⊥
  b_off e = let l = b_in in omega arith

  fresh_fine : IsFine fresh
  fresh_fine = pushed_fine ns (ls ++ ms) fine

  fresh_a : slice_get fresh a ≡ Some (OfRow (AnyRow ls))
  fresh_a = get_first ns (OfRow (AnyRow (ls ++ ms))) a (OfRow (AnyRow ls)) ha

  fresh_b : slice_get fresh b ≡ Some (OfRow (AnyRow ms))
  fresh_b = get_first ns (OfRow (AnyRow (ls ++ ms))) b (OfRow (AnyRow ms)) hb

  fresh_end : EndsAt fresh (length ns)
  fresh_end = pushed_end ns (ls ++ ms) fine

  fresh_types : AreTypes fresh fs
  fresh_types = types_keep ns fresh fs (pushed_keeps ns (ls ++ ms) fine) types_a

  fresh_tidy : IsTidy fresh fs (length ns)
  fresh_tidy = record {
    lack = all_map (λ f. Lacks ns f.0 b) (λ f. Lacks fresh f.0 (length ns)) fs (λ f k. at_open (ls ++ ms) (get_end ns (OfRow (AnyRow (ls ++ ms)))) (in_right f.0 ls ms (open_lacks ns f.0 b ms hb k))) tidy_a.lack;
    differ = tidy_a.differ;
  }

  fresh_covers : (l : Label) → Lacks fresh l a → (field l fs ≡ None) × Lacks fresh l (length ns)
  fresh_covers l k = let d = open_lacks fresh l a ls fresh_a k in (taken_none fs l ls d takes_a, at_open (ls ++ ms) (get_end ns (OfRow (AnyRow (ls ++ ms)))) (in_left l ls ms d))

  half_fine : IsFine half
  half_fine = closed_fine fresh a (length ns) (AnyRow ls) fs fresh_fine fresh_a tt fresh_types fresh_end a_off fresh_tidy fresh_covers

  half_b : slice_get half b ≡ Some (OfRow (AnyRow ms))
  half_b = set_there fresh a (OfRow (AnyRow ls)) (OfRow (Front fs (length ns))) fresh_a refl b apart ∙ fresh_b

  half_rest : slice_get half (length ns) ≡ Some (OfRow (AnyRow (ls ++ ms)))
  half_rest = set_there fresh a (OfRow (AnyRow ls)) (OfRow (Front fs (length ns))) fresh_a refl (length ns) a_off ∙ get_end ns (OfRow (AnyRow (ls ++ ms)))

  half_end : EndsAt half (length ns)
  half_end = record { node = AnyRow (ls ++ ms); here = half_rest; is_end = tt }

  half_tidy : IsTidy half gs (length ns)
  half_tidy = record {
    lack = all_map (λ f. Lacks ns f.0 a) (λ f. Lacks half f.0 (length ns)) gs (λ f k. at_open (ls ++ ms) half_rest (in_left f.0 ls ms (open_lacks ns f.0 a ls ha k))) tidy_b.lack;
    differ = tidy_b.differ;
  }

  half_covers : (l : Label) → Lacks half l b → (field l gs ≡ None) × Lacks half l (length ns)
  half_covers l k = let d = open_lacks half l b ms half_b k in (taken_none gs l ms d takes_b, at_open (ls ++ ms) half_rest (in_right l ls ms d))

  half_types : AreTypes half gs
  half_types = types_keep ns half gs (keeps_on ns fresh half (pushed_keeps ns (ls ++ ms) fine) (closed_keeps fresh a (length ns) (AnyRow ls) fs fresh_fine fresh_a tt fresh_types fresh_end a_off fresh_tidy fresh_covers)) types_b

  left_part : (xs ys : List Label) (P : Label → Type 0) → AllByRecursion P (xs ++ ys) → AllByRecursion P xs
  left_part [] ys P h = tt
  left_part (x ∷ xs) ys P h = (h.0, left_part xs ys P h.1)

  right_part : (xs ys : List Label) (P : Label → Type 0) → AllByRecursion P (xs ++ ys) → AllByRecursion P ys
  right_part [] ys P h = h
  right_part (x ∷ xs) ys P h = right_part xs ys P h.1

  -- the rest lacks what the whole lacks
  rest_lacks : (ty : ℕ → Ground) (hs : Fields) (w r : Row) (xs : List Label) → Splits hs ty w r → AllByRecursion (λ l. at l w ≡ None) xs → AllByRecursion (λ l. at l r ≡ None) xs
  rest_lacks ty hs w r [] h k = tt
  rest_lacks ty hs w r (l ∷ xs) h k = (one (look l hs), rest_lacks ty hs w r xs h k.1)
    where
      one : Looked l hs → at l r ≡ None
      one (found t e) = at_rest ty hs w r l t h e
      one (missing e) = sym (h.others l e) ∙ k.0

  push_step : Goes true ns fresh (Shares fs gs a b) (λ s. Splits fs s.types (s.rows a) (s.rows (length ns)) × (Splits gs s.types (s.rows b) (s.rows (length ns)) × Unit {0}))
  push_step = pushes ns (ls ++ ms) fine _ _
      (λ s h d. (
        d.rest,
        d.good,
        all_append (λ l. at l d.rest ≡ None) ls ms (rest_lacks s.types fs (s.rows a) d.rest ls d.on_first (h.each a (OfRow (AnyRow ls)) ha)) (rest_lacks s.types gs (s.rows b) d.rest ms d.on_second (h.each b (OfRow (AnyRow ms)) hb)),
        λ u ag e. (shifted s u ag fs a d.rest a_in types_a e d.on_first, (shifted s u ag gs b d.rest b_in types_b e d.on_second, tt)),
      ))
      (λ s h d. record { rest = s.rows (length ns); good = s.rows_ground (length ns); on_first = d.0; on_second = d.1.0 })
    where
      shifted : (s u : Assignment) → Agrees (length ns) s u → (hs : Fields) (i : ℕ) (r : Row) → i < length ns → AreTypes ns hs → u.rows (length ns) ≡ r → Splits hs s.types (s.rows i) r → Splits hs u.types (u.rows i) (u.rows (length ns))
      shifted s u ag hs i r li types e k =
          subst (λ w. Splits hs u.types w (u.rows (length ns))) (sym (ag.rows i li)) (subst (λ q. Splits hs u.types (s.rows i) q) (sym e)
          (record { fronts = fronts_agree ns hs s u (s.rows i) r types ag k.fronts; others = k.others }))

  first_close : Goes true fresh half (λ s. Splits fs s.types (s.rows a) (s.rows (length ns)) × (Splits gs s.types (s.rows b) (s.rows (length ns)) × Unit {0})) (λ s. Splits gs s.types (s.rows b) (s.rows (length ns)) × Unit {0})
  first_close = closes fresh a (length ns) (AnyRow ls) fs fresh_fine fresh_a tt fresh_types fresh_end a_off fresh_tidy fresh_covers (λ s. Splits gs s.types (s.rows b) (s.rows (length ns)) × Unit {0})
      (λ s o h. all_lacked s.types fs (s.rows a) (s.rows (length ns)) ls h takes_a (left_part ls ms (λ l. at l (s.rows (length ns)) ≡ None) (o (length ns) (OfRow (AnyRow (ls ++ ms))) a_off (get_end ns (OfRow (AnyRow (ls ++ ms)))))))

  second_close : Goes true half full (λ s. Splits gs s.types (s.rows b) (s.rows (length ns)) × Unit {0}) (λ s. Unit {0})
  second_close = closes half b (length ns) (AnyRow ms) gs half_fine half_b tt half_types half_end b_off half_tidy half_covers (λ s. Unit {0})
      (λ s o h. all_lacked s.types gs (s.rows b) (s.rows (length ns)) ms h takes_b (right_part ls ms (λ l. at l (s.rows (length ns)) ≡ None) (o (length ns) (OfRow (AnyRow (ls ++ ms))) b_off half_rest)))

  pub both_open : Goes true ns full (Shares fs gs a b) (λ s. Unit {0})
  both_open = then true ns fresh full _ _ _ push_step (then true fresh half full _ _ _ first_close second_close)

  pub both_open_roots : roots full ≤ roots ns
  both_open_roots = omega (
    arith,
    total_push open_one ns (OfRow (AnyRow (ls ++ ms))),
    closed_roots fresh a (length ns) (AnyRow ls) fs fresh_fine fresh_a tt fresh_types fresh_end a_off fresh_tidy fresh_covers,
    closed_roots half b (length ns) (AnyRow ms) gs half_fine half_b tt half_types half_end b_off half_tidy half_covers,
  )

-- the arms of the code
pub told_take : (ns ns' : List Cell) (i : ℕ) (fs fs' : Fields) (b : Bool) (h : EndsAt ns i) → ns' ≡ ns → fs' ≡ fs → b ≡ may_take (cell_at ns' i) fs' → may_take (OfRow h.node) fs ≡ b
told_take ns ns' i fs fs' b h e f q =
    let here : cell_at ns' i ≡ OfRow h.node = ap (λ xs. cell_at xs i) e ∙ ap or_no_row h.here in
    sym (q ∙ ap (λ c. may_take c fs') here ∙ ap (may_take (OfRow h.node)) f)

pub told_open : (ns ns' : List Cell) (i : ℕ) (b : Bool) (h : EndsAt ns i) → ns' ≡ ns → b ≡ is_open (cell_at ns' i) → is_open (OfRow h.node) ≡ b
told_open ns ns' i b h e q =
    let here : cell_at ns' i ≡ OfRow h.node = ap (λ xs. cell_at xs i) e ∙ ap or_no_row h.here in
    sym (q ∙ ap is_open here)

pub end_within : (ns : List Cell) (i : ℕ) → EndsAt ns i → i < length ns
end_within ns i h = slice_get_within ns i (OfRow h.node) h.here

module _ (ns : List Cell) (a b : ℕ) (fs gs : Fields) (fine : IsFine ns) where
  pub arm_same : (c : Bool) → a ≡ b → AreApart fs gs → c ≡ (is_empty fs && is_empty gs) → Advances c ns ns (Shares fs gs a b) (λ s. Unit {0})
  arm_same c e apart q = advances c ns ns _ _ (same_ends ns a b fs gs c fine e apart q) (omega arith)

  pub arm_first : (h : EndsAt ns a) → may_take (OfRow h.node) fs ≡ false → Advances false ns ns (Shares fs gs a b) (λ s. Unit {0})
  arm_first h t = advances false ns ns _ _ (first_refuses ns a b fs gs fine h.node h.here h.is_end t) (omega arith)

  pub arm_second : (h : EndsAt ns b) → may_take (OfRow h.node) gs ≡ false → Advances false ns ns (Shares fs gs a b) (λ s. Unit {0})
  arm_second h t = advances false ns ns _ _ (second_refuses ns a b fs gs fine h.node h.here h.is_end t) (omega arith)

  closed_arm : (n m : RowNode) → IsEnd n → IsEnd m → slice_get ns a ≡ Some (OfRow n) → slice_get ns b ≡ Some (OfRow m) → may_take (OfRow n) fs ≡ true → may_take (OfRow m) gs ≡ true → is_open (OfRow n) ≡ false → is_open (OfRow m) ≡ false
      → Advances true ns ns (Shares fs gs a b) (λ s. Unit {0})
  closed_arm NoRow NoRow p q ha hb ta tb oa ob =
      subst (λ xs. Advances true ns ns (Shares xs gs a b) (λ s. Unit {0})) (sym (empty_none fs ta)) (subst (λ ys. Advances true ns ns (Shares [] ys a b) (λ s. Unit {0})) (sym (empty_none gs tb))
      (advances true ns ns _ _ (both_closed ns a b fine ha hb) (omega arith)))
  closed_arm (AnyRow ls) m p q ha hb ta tb oa ob = no_no oa
  closed_arm n (AnyRow ls) p q ha hb ta tb oa ob = no_no ob
  closed_arm (Front hs r) m p q ha hb ta tb oa ob = absurd p
  closed_arm n (Front hs r) p q ha hb ta tb oa ob = absurd q

  pub arm_closed : (h : EndsAt ns a) (k : EndsAt ns b) → may_take (OfRow h.node) fs ≡ true → may_take (OfRow k.node) gs ≡ true → is_open (OfRow h.node) ≡ false → is_open (OfRow k.node) ≡ false → Advances true ns ns (Shares fs gs a b) (λ s. Unit {0})
  arm_closed h k ta tb oa ob = closed_arm h.node k.node h.is_end k.is_end h.here k.here ta tb oa ob

  half_arm : (new : List Cell) (n m : RowNode) → IsEnd n → IsEnd m → slice_get ns a ≡ Some (OfRow n) → slice_get ns b ≡ Some (OfRow m) → (a ≡ b → ⊥) → AreTypes ns fs → IsTidy ns fs b → may_take (OfRow n) fs ≡ true → may_take (OfRow m) gs ≡ true → is_open (OfRow n) ≡ true → is_open (OfRow m) ≡ false
      → new ≡ set ns a (OfRow (Front fs b)) → Advances true ns new (Shares fs gs a b) (λ s. Unit {0})
  half_arm new (AnyRow ls) NoRow p q ha hb apart types tidy ta tb oa ob e =
      subst (λ xs. Advances true ns xs (Shares fs gs a b) (λ s. Unit {0})) (sym e) (subst (λ ys. Advances true ns (set ns a (OfRow (Front fs b))) (Shares fs ys a b) (λ s. Unit {0})) (sym (empty_none gs tb))
      (advances true ns (set ns a (OfRow (Front fs b))) _ _ (one_closed ns a b fs ls fine ha hb apart types ta tidy) (one_closed_roots ns a b fs ls fine ha hb apart types ta tidy)))
  half_arm new (AnyRow ls) (AnyRow ms) p q ha hb apart types tidy ta tb oa ob e = no_no ob
  half_arm new (AnyRow ls) (Front hs r) p q ha hb apart types tidy ta tb oa ob e = absurd q
  half_arm new NoRow m p q ha hb apart types tidy ta tb oa ob e = no_no (sym oa)
  half_arm new (Front hs r) m p q ha hb apart types tidy ta tb oa ob e = absurd p

  pub arm_half : (new : List Cell) (h : EndsAt ns a) (k : EndsAt ns b) → (a ≡ b → ⊥) → AreTypes ns fs → IsTidy ns fs b → may_take (OfRow h.node) fs ≡ true → may_take (OfRow k.node) gs ≡ true → is_open (OfRow h.node) ≡ true → is_open (OfRow k.node) ≡ false
      → new ≡ set ns a (OfRow (Front fs b)) → Advances true ns new (Shares fs gs a b) (λ s. Unit {0})
  arm_half new h k apart types tidy ta tb oa ob e = half_arm new h.node k.node h.is_end k.is_end h.here k.here apart types tidy ta tb oa ob e

  open_arm : (one two new : List Cell) (r : ℕ) (n m : RowNode) → IsEnd n → IsEnd m → slice_get ns a ≡ Some (OfRow n) → slice_get ns b ≡ Some (OfRow m) → (a ≡ b → ⊥) → AreTypes ns fs → AreTypes ns gs → IsTidy ns fs b → IsTidy ns gs a
      → may_take (OfRow n) fs ≡ true → may_take (OfRow m) gs ≡ true → is_open (OfRow n) ≡ true → is_open (OfRow m) ≡ true
      → r ≡ length ns → one ≡ ns ++ OfRow (AnyRow (lacks_at (cell_at ns a) ++ lacks_at (cell_at ns b))) ∷ [] → two ≡ set one a (OfRow (Front fs r)) → new ≡ set two b (OfRow (Front gs r))
      → Advances true ns new (Shares fs gs a b) (λ s. Unit {0})
  open_arm one two new r (AnyRow ls) (AnyRow ms) p q ha hb apart ya yb xa xb ta tb oa ob e f g h =
      let lacks : lacks_at (cell_at ns a) ++ lacks_at (cell_at ns b) ≡ ls ++ ms = ap (λ c. lacks_at (or_no_row c) ++ lacks_at (cell_at ns b)) ha ∙ ap (λ c. ls ++ lacks_at (or_no_row c)) hb in
      let one_is : one ≡ ns ++ OfRow (AnyRow (ls ++ ms)) ∷ [] = f ∙ ap (λ x. ns ++ OfRow (AnyRow x) ∷ []) lacks in
      let two_is : two ≡ set (ns ++ OfRow (AnyRow (ls ++ ms)) ∷ []) a (OfRow (Front fs (length ns))) = g ∙ ap (λ x. set x a (OfRow (Front fs r))) one_is ∙ ap (λ x. set (ns ++ OfRow (AnyRow (ls ++ ms)) ∷ []) a (OfRow (Front fs x))) e in
      let new_is : new ≡ set (set (ns ++ OfRow (AnyRow (ls ++ ms)) ∷ []) a (OfRow (Front fs (length ns)))) b (OfRow (Front gs (length ns))) =
      h ∙ ap (λ x. set x b (OfRow (Front gs r))) two_is ∙ ap (λ x. set (set (ns ++ OfRow (AnyRow (ls ++ ms)) ∷ []) a (OfRow (Front fs (length ns)))) b (OfRow (Front gs x))) e in
      subst (λ xs. Advances true ns xs (Shares fs gs a b) (λ s. Unit {0})) (sym new_is)
      (advances true ns _ _ _ (both_open ns a b fs gs ls ms fine ha hb apart ya yb ta tb xa xb) (both_open_roots ns a b fs gs ls ms fine ha hb apart ya yb ta tb xa xb))
  open_arm one two new r NoRow m p q ha hb apart ya yb xa xb ta tb oa ob e f g h = no_no (sym oa)
  open_arm one two new r n NoRow p q ha hb apart ya yb xa xb ta tb oa ob e f g h = no_no (sym ob)
  open_arm one two new r (Front hs x) m p q ha hb apart ya yb xa xb ta tb oa ob e f g h = absurd p
  open_arm one two new r n (Front hs x) p q ha hb apart ya yb xa xb ta tb oa ob e f g h = absurd q

  pub arm_open : (one two new : List Cell) (r : ℕ) (h : EndsAt ns a) (k : EndsAt ns b) → (a ≡ b → ⊥) → AreTypes ns fs → AreTypes ns gs → IsTidy ns fs b → IsTidy ns gs a
      → may_take (OfRow h.node) fs ≡ true → may_take (OfRow k.node) gs ≡ true → is_open (OfRow h.node) ≡ true → is_open (OfRow k.node) ≡ true
      → r ≡ length ns → one ≡ ns ++ OfRow (AnyRow (lacks_at (cell_at ns a) ++ lacks_at (cell_at ns b))) ∷ [] → two ≡ set one a (OfRow (Front fs r)) → new ≡ set two b (OfRow (Front gs r))
      → Advances true ns new (Shares fs gs a b) (λ s. Unit {0})
  arm_open one two new r h k apart ya yb xa xb ta tb oa ob e f g i = open_arm one two new r h.node k.node h.is_end k.is_end h.here k.here apart ya yb xa xb ta tb oa ob e f g i

pub turned : (ns new : List Cell) (a b : ℕ) (fs gs : Fields) → Advances true ns new (Shares gs fs b a) (λ s. Unit {0}) → Advances true ns new (Shares fs gs a b) (λ s. Unit {0})
turned ns new a b fs gs h = record {
  fine = h.fine;
  keeps = h.keeps;
  fewer = h.fewer;
  down = λ s g d. h.down s g (swap fs gs a b s d);
  up = λ t s g r. let one = h.up t s g r in (one.0, swap gs fs b a s one.1);
}

pub within_push : (ns one : List Cell) (i : ℕ) (c : Cell) → EndsAt ns i → one ≡ ns ++ c ∷ [] → i < length one
within_push ns one i c h e = let l = end_within ns i h in omega (arith, ap length e, length-append ns (c ∷ []))

pub within_set : (ns one two : List Cell) (i j : ℕ) (c d : Cell) → EndsAt ns i → one ≡ ns ++ c ∷ [] → two ≡ set one j d → i < length two
within_set ns one two i j c d h e f = let l = within_push ns one i c h e in omega (arith, ap length f, length-set one j d)

pub end_row : (ns : List Cell) (i : ℕ) → EndsAt ns i → IsRowAt ns i
end_row ns i h = sort_here ns i (OfRow h.node) h.here

lacks_none : (n : RowNode) → ((ls : List Label) → n ≡ AnyRow ls → ⊥) → lacks_at (OfRow n) ≡ []
lacks_none (AnyRow ls) off = absurd (off ls refl)
lacks_none NoRow off = refl
lacks_none (Front fs r) off = refl

pub no_lacks : (ns : List Cell) (i : ℕ) (n : RowNode) (xs : List Label) → slice_get ns i ≡ Some (OfRow n) → ((ls : List Label) → n ≡ AnyRow ls → ⊥) → xs ≡ xs ++ lacks_at (cell_at ns i)
no_lacks ns i n xs h off = sym (ap (λ c. xs ++ lacks_at (or_no_row c)) h ∙ ap (λ ys. xs ++ ys) (lacks_none n off) ∙ append-nil xs)
