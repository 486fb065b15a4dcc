-- Steps of a merge, one after another.
use Rattle.std.proofs.Common.{◌≡◌, ⊎_elim, ℕ, zero, suc, ◌+◌, ◌<◌, ◌≤◌, Bool, true, false, IsTrue, List, [], ◌∷◌, length, Some, option_map, slice_get, refl, sym, ap, ◌∙◌, subst, arith, length-set}
use Rattle.std.proofs.Math.ListN.{set}
use Rattle.std.proofs.lemmas.Bool.{cases_eq}
use Rattle.std.proofs.lemmas.Option.{same_Some, slice_get_within}
use Rattle.kl_rows.specs.declared.cell.TypeNode.TheVariants.{AnyType, Base, Rec, Var, Coll, TypeLink}
use Rattle.kl_rows.specs.declared.cell.KindNode.TheVariants.{AnyKind, Fixed, KindLink}
use Rattle.kl_rows.specs.declared.cell.RowNode.{RowNode}
use Rattle.kl_rows.specs.declared.cell.RowNode.TheVariants.{AnyRow, NoRow, Front}
use Rattle.kl_rows.specs.declared.cell.Cell.{Cell}
use Rattle.kl_rows.specs.declared.cell.Cell.TheVariants.{OfType, OfFunction, OfRow, OfKind}
use Rattle.kl_rows.specs.Lists.{Fields}
use Rattle.kl_rows.specs.Places.{Sort, a_type, a_row, a_kind, sort_of, sort_at, AreTypes, IsPlaced, EndsAt, Walk, chained_one, chained, Lacks, at_open, at_none, at_front, IsTidy, IsFine, open_one, roots}
use Rattle.kl_rows.specs.Solutions.{Assignment, Says, Solves}
use Rattle.kl_rows.specs.Steps.{Agrees, Grown, KeepsCells, Advances}
use Rattle.kl_rows.proofs.CellLists.{get_set_other, total_set, sort_here}
use Rattle.kl_base.proofs.Places.{get-set_same}
use Rattle.kl_base.proofs.Each.{all_map}

abbrev pub Fact : Type 1
Fact = Assignment → Type 0

pub agrees_refl : (n : ℕ) (s : Assignment) → Agrees n s s
agrees_refl n s = record { types = λ i h. refl; functions = λ i h. refl; rows = λ i h. refl; kinds = λ i h. refl }

pub agrees_on : (m n : ℕ) (s u v : Assignment) → m ≤ n → Agrees m s u → Agrees n u v → Agrees m s v
agrees_on m n s u v le a b = record {
  types = λ i h. b.types i (omega arith) ∙ a.types i h;
  functions = λ i h. b.functions i (omega arith) ∙ a.functions i h;
  rows = λ i h. b.rows i (omega arith) ∙ a.rows i h;
  kinds = λ i h. b.kinds i (omega arith) ∙ a.kinds i h;
}

pub keeps_refl : (ns : List Cell) → KeepsCells ns ns
keeps_refl ns = record { grows = omega arith; sorts = λ i q e. e; lacks = λ l i h. h }

pub keeps_on : (a b c : List Cell) → KeepsCells a b → KeepsCells b c → KeepsCells a c
keeps_on a b c h k = record { grows = let x = h.grows in let y = k.grows in omega arith; sorts = λ i q e. k.sorts i q (h.sorts i q e); lacks = λ l i x. k.lacks l i (h.lacks l i x) }

pub absurd_true : (A : Type 0) → IsTrue false → A
absurd_true A h = let d : ⊥ = cc in absurd d

-- what a step does to the solutions, whatever becomes of the roots
pub record Goes (yes : Bool) (old new : List Cell) (D R : Fact) : Type 0 where
  pub fine : IsFine new
  pub keeps : KeepsCells old new
  pub down : (s : Assignment) → Solves old s → D s → IsTrue yes × Grown old new s R
  pub up : IsTrue yes → (s : Assignment) → Solves new s → R s → Solves old s × D s

pub advances : (holds : Bool) (old new : List Cell) (D R : Fact) → Goes holds old new D R → roots new ≤ roots old → Advances holds old new D R
advances ans old new D R g le = record { fine = g.fine; keeps = g.keeps; fewer = le; down = g.down; up = g.up }

pub goes : (holds : Bool) (old new : List Cell) (D R : Fact) → Advances holds old new D R → Goes holds old new D R
goes ans old new D R g = record { fine = g.fine; keeps = g.keeps; down = g.down; up = g.up }

-- nothing is done
pub stays : (ns : List Cell) (D R : Fact) → IsFine ns → ((s : Assignment) → Solves ns s → D s → R s) → ((s : Assignment) → Solves ns s → R s → D s) → Goes true ns ns D R
stays ns D R f go come = record {
  fine = f;
  keeps = keeps_refl ns;
  down = λ s h d. (refl, record { to = s; agrees = agrees_refl (length ns) s; solves = h; holds = go s h d });
  up = λ t s h r. (h, come s h r);
}

-- nothing can be done
pub never : (ns : List Cell) (D R : Fact) → IsFine ns → ((s : Assignment) → Solves ns s → D s → ⊥) → Goes false ns ns D R
never ns D R f no_way = record { fine = f; keeps = keeps_refl ns; down = λ s h d. absurd (no_way s h d); up = λ t. absurd_true _ t }

pub then : (yes : Bool) (a b c : List Cell) (D M R : Fact) → Goes true a b D M → Goes yes b c M R → Goes yes a c D R
then ans a b c D M R h k = record {
  fine = k.fine;
  keeps = keeps_on a b c h.keeps k.keeps;
  down = λ s p d.
      let one = (h.down s p d).1 in
      let two = k.down one.to one.solves one.holds in
      let grown = two.1 in
      let le : length a ≤ length b = h.keeps.grows in
      (two.0, record { to = grown.to; agrees = agrees_on (length a) (length b) s one.to grown.to le one.agrees grown.agrees; solves = grown.solves; holds = grown.holds });
  up = λ t s p r. let one = k.up t s p r in h.up refl s one.0 one.1;
}

-- what more is asked stays asked
pub beside : (yes : Bool) (a b : List Cell) (D R P : Fact) → ((s u : Assignment) → Agrees (length a) s u → P s → P u)
    → Goes yes a b D R → Goes yes a b (λ s. D s × P s) (λ s. R s × P s)
beside ans a b D R P go h = record {
  fine = h.fine;
  keeps = h.keeps;
  down = λ s p d.
      let one = h.down s p d.0 in
      let grown = one.1 in (one.0, record { to = grown.to; agrees = grown.agrees; solves = grown.solves; holds = (grown.holds, go s grown.to grown.agrees d.1) });
  up = λ t s p r. let one = h.up t s p r.0 in (one.0, (one.1, r.1));
}

-- the same with other words for what is asked
pub asked : (yes : Bool) (a b : List Cell) (D D' R R' : Fact) → ((s : Assignment) → D' s → D s) → ((s : Assignment) → D s → D' s) → ((s : Assignment) → R s → R' s) → ((s : Assignment) → R' s → R s)
    → Goes yes a b D R → Goes yes a b D' R'
asked ans a b D D' R R' d1 d2 r1 r2 h = record {
  fine = h.fine;
  keeps = h.keeps;
  down = λ s p d. let one = h.down s p (d1 s d) in let grown = one.1 in (one.0, record { to = grown.to; agrees = grown.agrees; solves = grown.solves; holds = r1 grown.to grown.holds });
  up = λ t s p r. let one = h.up t s p (r2 s r) in (one.0, d2 s one.1);
}

-- the same from other words for what was asked, which the cells make one
pub through : (holds : Bool) (a b : List Cell) (D D' R : Fact) → ((s : Assignment) → Solves a s → D' s → D s) → ((s : Assignment) → Solves a s → D s → D' s) → Advances holds a b D R → Advances holds a b D' R
through ans a b D D' R go come h = record {
  fine = h.fine;
  keeps = h.keeps;
  fewer = h.fewer;
  down = λ s p d. h.down s p (go s p d);
  up = λ t s p r. let one = h.up t s p r in (one.0, come s one.0 one.1);
}

pub types_keep : (old new : List Cell) (fs : Fields) → KeepsCells old new → AreTypes old fs → AreTypes new fs
types_keep old new [] k h = tt
types_keep old new (f ∷ fs) k h = (k.sorts f.1 a_type h.0, types_keep old new fs k h.1)

pub placed_keeps : (old new : List Cell) (i : ℕ) (c : Cell) → KeepsCells old new → IsPlaced old i c → IsPlaced new i c
placed_keeps old new i (OfType AnyType) k h = tt
placed_keeps old new i (OfType (Base b)) k h = tt
placed_keeps old new i (OfType (Rec r)) k h = k.sorts r a_row h
placed_keeps old new i (OfType (Var r)) k h = k.sorts r a_row h
placed_keeps old new i (OfType (Coll j a)) k h = (k.sorts j a_kind h.0, k.sorts a a_type h.1)
placed_keeps old new i (OfFunction a b) k h = (k.sorts a a_type h.0, k.sorts b a_type h.1)
placed_keeps old new i (OfType (TypeLink a)) k h = (h.0, k.sorts a a_type h.1)
placed_keeps old new i (OfRow (AnyRow lacks)) k h = tt
placed_keeps old new i (OfRow NoRow) k h = tt
placed_keeps old new i (OfRow (Front fs r)) k h = (types_keep old new fs k h.0, k.sorts r a_row h.1)
placed_keeps old new i (OfKind AnyKind) k h = tt
placed_keeps old new i (OfKind (Fixed j)) k h = tt
placed_keeps old new i (OfKind (KindLink a)) k h = (h.0, k.sorts a a_kind h.1)

-- a row ends within so many steps
pub record Reaches (cells : List Cell) (i bound : ℕ) : Type 0 where
  pub steps : ℕ
  pub fields : Fields
  pub end : ℕ
  pub walk : Walk cells steps i fields end
  pub short : steps ≤ bound

abbrev pub KeepsRows : List Cell → List Cell → Type 0
KeepsRows old new = (i : ℕ) (n : RowNode) → slice_get old i ≡ Some (OfRow n) → slice_get new i ≡ Some (OfRow n)

pub walk_kept : (old new : List Cell) → KeepsRows old new → (k i : ℕ) (fs : Fields) (e : ℕ) → Walk old k i fs e → Walk new k i fs e
walk_kept old new h zero i fs e w = (w.0, w.1, record { node = w.2.node; here = h i w.2.node w.2.here; is_end = w.2.is_end })
walk_kept old new h (suc k) i fs e w = (w.0, w.1, w.2, record { here = h i (Front w.0 w.2) w.3.here }, w.4, walk_kept old new h k w.2 w.1 e w.5)

pub lacks_kept : (old new : List Cell) (l : List ℕ) → KeepsRows old new → {i : ℕ} → Lacks old l i → Lacks new l i
lacks_kept old new l h {i} (at_open ls e d) = at_open ls (h i (AnyRow ls) e) d
lacks_kept old new l h {i} (at_none e) = at_none (h i NoRow e)
lacks_kept old new l h {i} (at_front fs r e d k) = at_front fs r (h i (Front fs r) e) d (lacks_kept old new l h k)

pub tidy_kept : (old new : List Cell) (fs : Fields) (r : ℕ) → KeepsRows old new → IsTidy old fs r → IsTidy new fs r
tidy_kept old new fs r h t = record { lack = all_map (λ f. Lacks old f.0 r) (λ f. Lacks new f.0 r) fs (λ f k. lacks_kept old new f.0 h k) t.lack; differ = t.differ }

pub row_of : (c : Cell) → sort_of c ≡ a_row → (n : RowNode) × (c ≡ OfRow n)
row_of (OfRow n) h = (n, refl)
row_of (OfType n) h = let e : ⊥ = cc in absurd e
row_of (OfFunction a b) h = let e : ⊥ = cc in absurd e
row_of (OfKind n) h = let e : ⊥ = cc in absurd e

pub walk_end : (ns : List Cell) (k i : ℕ) (fs : Fields) (e : ℕ) → Walk ns k i fs e → EndsAt ns e
walk_end ns zero i fs e w = subst (EndsAt ns) w.0 w.2
walk_end ns (suc k) i fs e w = walk_end ns k w.2 w.1 e w.5

-- each place other than this one says what it says
abbrev pub Others : List Cell → ℕ → Assignment → Type 0
Others ns p s = (i : ℕ) (x : Cell) → (p ≡ i → ⊥) → slice_get ns i ≡ Some x → Says x s i

module _ (ns : List Cell) (p : ℕ) (c d : Cell) (here : slice_get ns p ≡ Some c) (sorts : sort_of c ≡ sort_of d) where
  within : p < length ns
  within = slice_get_within ns p c here

  pub set_here : slice_get (set ns p d) p ≡ Some d
  set_here = get-set_same ns p d within

  pub set_there : (i : ℕ) → (p ≡ i → ⊥) → slice_get (set ns p d) i ≡ slice_get ns i
  set_there i off = get_set_other ns p i d off

  pub set_each : (P : ℕ → Cell → Type 0) → P p d → ((i : ℕ) (x : Cell) → (p ≡ i → ⊥) → slice_get ns i ≡ Some x → P i x) → (i : ℕ) (x : Cell) → slice_get (set ns p d) i ≡ Some x → P i x
  set_each P a h i x e = ⊎_elim
      (λ q. subst (λ j. P j x) q (subst (P p) (same_Some d x (sym set_here ∙ ap (slice_get (set ns p d)) q ∙ e)) a))
      (λ off. h i x off (sym (set_there i off) ∙ e))
      (cases_eq p i)

  pub old_each : (P : ℕ → Cell → Type 0) → P p c → ((i : ℕ) (x : Cell) → (p ≡ i → ⊥) → slice_get ns i ≡ Some x → P i x) → (i : ℕ) (x : Cell) → slice_get ns i ≡ Some x → P i x
  old_each P a h i x e = ⊎_elim
      (λ q. subst (λ j. P j x) q (subst (P p) (same_Some c x (sym here ∙ ap (slice_get ns) q ∙ e)) a))
      (λ off. h i x off e)
      (cases_eq p i)

  abbrev pub Stays : Type 0
  Stays = (l : List ℕ) (i : ℕ) → Lacks ns l i → Lacks (set ns p d) l i

  -- a cell that is no row leaves what rows lack as it is
  pub set_stays : ((n : RowNode) → c ≡ OfRow n → ⊥) → Stays
  set_stays off l i h = lacks_kept ns (set ns p d) l (λ j n q. set_there j (λ same. off n (same_Some c (OfRow n) (sym here ∙ ap (slice_get ns) same ∙ q))) ∙ q) h

  pub set_keeps : Stays → KeepsCells ns (set ns p d)
  set_keeps stays_so = record {
    lacks = stays_so;
    grows = omega (arith, length-set ns p d);
    sorts = λ i q e. ⊎_elim
        (λ same. sym (ap (sort_at (set ns p d)) same) ∙ sort_here (set ns p d) p d set_here ∙ ap Some (sym sorts) ∙ sym (sort_here ns p c here) ∙ ap (sort_at ns) same ∙ e)
        (λ off. ap (option_map sort_of) (set_there i off) ∙ e)
        (cases_eq p i);
  }

  pub set_was : (i : ℕ) (q : Sort) → sort_at (set ns p d) i ≡ Some q → sort_at ns i ≡ Some q
  set_was i q e = ⊎_elim
      (λ same. ap (sort_at ns) (sym same) ∙ sort_here ns p c here ∙ ap Some sorts ∙ sym (sort_here (set ns p d) p d set_here) ∙ ap (sort_at (set ns p d)) same ∙ e)
      (λ other. sym (ap (option_map sort_of) (set_there i other)) ∙ e)
      (cases_eq p i)

  pub others_before : (s : Assignment) → Solves ns s → Others ns p s
  others_before s h i x off e = h.each i x e

  pub others_after : (s : Assignment) → Solves (set ns p d) s → Others ns p s
  others_after s h i x off e = h.each i x (set_there i off ∙ e)

  pub solves_after : (s : Assignment) → Others ns p s → Says d s p → Solves (set ns p d) s
  solves_after s o h = record { each = set_each (λ i x. Says x s i) h o }

  pub solves_before : (s : Assignment) → Others ns p s → Says c s p → Solves ns s
  solves_before s o h = record { each = old_each (λ i x. Says x s i) h o }

  -- one place is written
  pub sets : (D R : Fact) → Stays → IsFine (set ns p d)
      → ((s : Assignment) → Others ns p s → Says c s p → D s → Says d s p × R s)
      → ((s : Assignment) → Others ns p s → Says d s p → R s → Says c s p × D s) → Goes true ns (set ns p d) D R
  sets D R stays_so f go come = record {
    fine = f;
    keeps = set_keeps stays_so;
    down = λ s h a.
        let o = others_before s h in
        let r = go s o (h.each p c here) a in
        (refl, record { to = s; agrees = agrees_refl (length ns) s; solves = solves_after s o r.0; holds = r.1 });
    up = λ t s h a.
        let o = others_after s h in
        let r = come s o (h.each p d set_here) a in
        (solves_before s o r.0, r.1);
  }

  pub set_roots : roots (set ns p d) + open_one c ≡ roots ns + open_one d
  set_roots = total_set open_one ns p c d here

  pub set_placed : Stays → IsFine ns → IsPlaced ns p d → (i : ℕ) (x : Cell) → slice_get (set ns p d) i ≡ Some x → IsPlaced (set ns p d) i x
  set_placed stays_so f good = set_each (IsPlaced (set ns p d)) (placed_keeps ns (set ns p d) p d (set_keeps stays_so) good) (λ i x off e. placed_keeps ns (set ns p d) i x (set_keeps stays_so) (f.placed i x e))

  -- a cell that is no row leaves the rows as they are
  pub set_fine : IsFine ns → IsPlaced ns p d → ((n : RowNode) → c ≡ OfRow n → ⊥) → chained_one d ≡ chained_one c → IsFine (set ns p d)
  set_fine f good off chain = record {
    tidy = λ i fs r e. ⊎_elim
        (λ same. let q = row_of c (sorts ∙ ap sort_of (same_Some d (OfRow (Front fs r)) (sym set_here ∙ ap (slice_get (set ns p d)) same ∙ e))) in absurd (off q.0 q.1))
        (λ other. tidy_kept ns (set ns p d) fs r rows_kept (f.tidy i fs r (sym (set_there i other) ∙ e)))
        (cases_eq p i);
    placed = set_placed (set_stays off) f good;
    ended = λ i e.
        let old = f.ended i (set_was i a_row e) in
        let same : chained (set ns p d) ≡ chained ns = omega (arith, total_set chained_one ns p c d here) in
        let le = old.short in
        record {
          steps = old.steps;
          fields = old.fields;
          end = old.end;
          walk = walk_kept ns (set ns p d) rows_kept old.steps i old.fields old.end old.walk;
          short = omega arith;
        };
  }
    where
      rows_kept : KeepsRows ns (set ns p d)
      rows_kept j n q = set_there j (λ same. off n (same_Some c (OfRow n) (sym here ∙ ap (slice_get ns) same ∙ q))) ∙ q
