-- Cells that are kept, one after another.
use Rattle.std.proofs.Common.{◌≡◌, ◌⊎◌, inl, inr, ⊎_elim, ℕ, zero, suc, ◌+◌, ◌<◌, ◌≤◌, Bool, true, false, ◌||◌, List, [], ◌∷◌, length, take, get_or, Some, slice_get, refl, sym, ap, ◌∙◌, subst, arith, length-set, get_or-set_same, get_or-set_other, true≢false}
use Rattle.std.specs.List.{AllByRecursion}
use Rattle.std.proofs.Math.ListN.{set}
use Rattle.std.proofs.lemmas.Bool.{cases_eq, or_parts}
use Rattle.std.proofs.lemmas.Option.{same_Some, slice_get_within}
use Rattle.kl_rows.specs.declared.cell.RowNode.TheVariants.{Front}
use Rattle.kl_rows.specs.declared.cell.Cell.{Cell}
use Rattle.kl_rows.specs.declared.cell.Cell.TheVariants.{OfRow}
use Rattle.kl_rows.specs.Lists.{Fields}
use Rattle.kl_rows.specs.Places.{Parts}
use Rattle.kl_rows.specs.Copying.{kept_in, IsSource}
use Rattle.kl_rows.specs.Keeping.{Needs, not_one, unkept, Grows, Widens, KeepsOne, KeepsParts, KeepsFields, ClosedAt, Turns, SweptTo, Sweeps}
use Rattle.kl_rows.proofs.Assigning.{parts_on}
use Rattle.kl_rows.proofs.Growing.{parts_within}
use Rattle.kl_base.proofs.Each.{all_map}
use Rattle.kl_rows.proofs.ListLemmas.{below_or_last}

pub grows_then : (a b c : List Bool) → Grows a b → Grows b c → Grows a c
grows_then a b c h k = record { size = k.size ∙ h.size; stays = λ j e. k.stays j (h.stays j e); fewer = (let x = h.fewer in let y = k.fewer in omega arith) }

or_true : (a b : Bool) → (a || b) ≡ true → (a ≡ true) ⊎ ((a ≡ false) × (b ≡ true))
or_true true b h = inl refl
or_true false b h = inr (refl, h)

pub widens_then : (x y : Bool) (a b c : List Bool) → Widens x a b → Widens y b c → Widens (x || y) a c
widens_then x y a b c h k = record {
  grows = grows_then a b c h.grows k.grows;
  less = λ e. ⊎_elim
      (λ t. (let l = h.less t in let g = k.grows in let m = g.fewer in omega arith))
      (λ t. (let same : unkept b ≡ unkept a = ap unkept (h.same t.0) in let l = k.less t.1 in omega arith))
      (or_true x y e);
  same = λ e. (let f = or_parts x y e in k.same f.1 ∙ h.same f.0);
}

unkept_set : (ks : List Bool) (i : ℕ) → i < length ks → kept_in ks i ≡ false → unkept (set ks i true) < unkept ks
unkept_set [] i l h = absurd (omega arith)
unkept_set (k ∷ ks) zero l h = let one : not_one k ≡ 1 = ap not_one h in omega arith
unkept_set (k ∷ ks) (suc i) l h = let r = unkept_set ks i (omega arith) h in omega arith

pub keeps_new : (ks vs new : List Bool) (at : ℕ) (b : Bool) → at < length ks → vs ≡ ks → b ≡ kept_in vs at → b ≡ false → new ≡ set ks at true → KeepsOne true at ks new
keeps_new ks vs new at b l v e f is = subst (KeepsOne true at ks) (sym is) (record {
  widens = record {
    grows = record {
      size = length-set ks at true;
      stays = λ j h. ⊎_elim (λ z. subst (λ x. kept_in (set ks at true) x ≡ true) (sym z) (get_or-set_same ks at true false l)) (λ d. get_or-set_other ks at j true false d ∙ h) (cases_eq j at);
      fewer = (let w = less in omega arith);
    };
    less = λ z. less;
    same = λ z. absurd (true≢false z);
  };
  has = get_or-set_same ks at true false l;
})
  where
    less : unkept (set ks at true) < unkept ks
    less = unkept_set ks at l (ap (λ xs. kept_in xs at) (sym v) ∙ sym e ∙ f)

-- the parts of a cell
abbrev pub IsKeptIn : List Bool → ℕ → Type 0
IsKeptIn ks p = kept_in ks p ≡ true

fields_stay : (mid new : List Bool) (fs : Fields) → Grows mid new → AllByRecursion (λ f. IsKeptIn mid f.1) fs → AllByRecursion (λ f. IsKeptIn new f.1) fs
fields_stay mid new fs g h = all_map (λ f. IsKeptIn mid f.1) (λ f. IsKeptIn new f.1) fs (λ f k. g.stays f.1 k) h

pub parts_front : (c : Cell) (x y any : Bool) (fs gs : Fields) (r : ℕ) (old mid new : List Bool) → c ≡ OfRow (Front fs r) → gs ≡ fs → any ≡ (x || y) → KeepsFields x gs old mid → KeepsOne y r mid new → KeepsParts any c old new
parts_front c x y any fs gs r old mid new e q o h k =
    let w = k.widens in
    record {
      widens = subst (λ z. Widens z old new) (sym o) (widens_then x y old mid new h.widens k.widens);
      has = subst (λ z. Parts z (IsKeptIn new)) (sym e) (fields_stay mid new fs w.grows (subst (λ l. AllByRecursion (λ f. IsKeptIn mid f.1) l) q h.has), k.has);
    }

-- fields, one after another
pub record FieldsTo (any : Bool) (fs : Fields) (k : ℕ) (old now : List Bool) : Type 0 where
  pub widens : Widens any old now
  pub has : AllByRecursion (λ f. IsKeptIn now f.1) (take k fs)

take_all_more : (P : List ℕ × ℕ → Type 0) (fs : Fields) (k : ℕ) (f : List ℕ × ℕ) → k < length fs → f ≡ get_or fs k f → AllByRecursion P (take k fs) → P f → AllByRecursion P (take (k + 1) fs)
take_all_more P [] k f l e h p = absurd (omega arith)
take_all_more P (g ∷ fs) zero f l e h p = (subst P e p, tt)
take_all_more P (g ∷ fs) (suc k) f l e h p = let s : suc k + 1 ≡ suc (k + 1) = omega arith in rw s (h.0, take_all_more P fs k f (omega arith) e h.1 p)

pub fields_turn : (x y any : Bool) (fs : Fields) (k : ℕ) (f : List ℕ × ℕ) (old mid new : List Bool) → k < length fs → f ≡ get_or fs k f → any ≡ (x || y) → FieldsTo x fs k old mid → KeepsOne y f.1 mid new → FieldsTo any fs (k + 1) old new
fields_turn x y any fs k f old mid new l e o h t =
    let w = t.widens in
    record {
      widens = subst (λ z. Widens z old new) (sym o) (widens_then x y old mid new h.widens t.widens);
      has = take_all_more (λ g. IsKeptIn new g.1) fs k f l e (fields_stay mid new (take k fs) w.grows h.has) t.has;
    }

pub sweep_turn : (x y any : Bool) (cells : List Cell) (k : ℕ) (c : Cell) (old mid new : List Bool) → slice_get cells k ≡ Some c → any ≡ (x || y) → SweptTo x cells old mid k → Turns y c k mid new → SweptTo any cells old new (k + 1)
sweep_turn x y any cells k c old mid new here o h t = record {
  widens = subst (λ z. Widens z old new) (sym o) (widens_then x y old mid new h.widens t.widens);
  still = λ e i d l q.
      let f = or_parts x y (sym o ∙ e) in
      let w = h.widens in
      ⊎_elim
      (λ b. h.still f.0 i d b q)
      (λ z. subst (λ ks. ClosedAt ks d i) (w.same f.0) (subst (ClosedAt mid d) (sym z) (subst (λ y. ClosedAt mid y k) (same_Some c d (sym here ∙ ap (slice_get cells) (sym z) ∙ q)) (t.still f.1))))
      (below_or_last i k l);
}

pub sweep_ends : (any : Bool) (cells : List Cell) (old new : List Bool) (k : ℕ) → length cells ≤ k → SweptTo any cells old new k → Sweeps any cells old new
sweep_ends any cells old new k le h = record { widens = h.widens; still = λ e i c q. h.still e i c (let l = slice_get_within cells i c q in omega arith) q }

pub needs : (cells : List Cell) (root : ℕ) (old new : List Bool) (any : Bool) → any ≡ false → length old ≡ length cells → kept_in old root ≡ true → Sweeps any cells old new → Needs cells new root
needs cells root old new any e size has s =
    let w = s.widens in
    subst (λ ks. Needs cells ks root) (sym (w.same e)) (record {
      root_in = has;
      closed = record { parts = λ i c q k. (let a = s.still e i c q in a.parts k); size = size };
      told = λ j c q t. (let a = s.still e j c q in a.told t);
    })

-- between passes
pub record Keeping (cells : List Cell) (root : ℕ) (ks : List Bool) : Type 0 where
  pub size : length ks ≡ length cells
  pub has : kept_in ks root ≡ true

pub parts_there : (cells : List Cell) (ks : List Bool) (i : ℕ) (c : Cell) → IsSource cells → slice_get cells i ≡ Some c → length ks ≡ length cells → Parts c (λ p. p < length ks)
parts_there cells ks i c good e size = parts_on c _ _ (λ p l. omega arith) (parts_within cells i c (good.placed i c e))
