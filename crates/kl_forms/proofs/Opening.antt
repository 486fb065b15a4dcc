-- Numbers of types of which something is said.
use Rattle.std.proofs.Common.{◌≡◌, ℕ, ◌<◌, Bool, true, false, IsTrue, List, length, refl, sym, ap, ◌∙◌, subst, arith}
use Rattle.kl_value.specs.declared.value.Kind.{Kind}
use Rattle.kl_type.specs.Ground.{Ground, IsGround, coll, arrow}
use Rattle.kl_rows.specs.declared.cell.TypeNode.{TypeNode}
use Rattle.kl_rows.specs.declared.cell.TypeNode.TheVariants.{AnyType}
use Rattle.kl_rows.specs.declared.cell.KindNode.TheVariants.{AnyKind, Fixed}
use Rattle.kl_rows.specs.declared.cell.Cell.{Cell}
use Rattle.kl_rows.specs.declared.cell.Cell.TheVariants.{OfType, OfFunction, OfKind}
use Rattle.kl_rows.specs.Places.{a_type, a_function, sort_at, IsFine, IsType, IsFunction}
use Rattle.kl_rows.specs.Solutions.{Assignment, TypeSays}
use Rattle.kl_rows.specs.Steps.{Advances}
use Rattle.kl_rows.specs.Making.{CanMake, AddsCell, Same}
use Rattle.kl_rows.specs.Expanding.{GivesType}
use Rattle.kl_rows.specs.declared.schemes.Scheme.{Scheme}
use Rattle.kl_rows.specs.Schemes.{Instance, Instantiates, cells_of, given}
use Rattle.kl_rows.proofs.CellLists.{sort_within}
use Rattle.kl_rows.proofs.Advancing.{Fact, agrees_on, keeps_on, absurd_true}
use Rattle.kl_rows.proofs.Growing.{grown_type, grown_function}
use Rattle.kl_forms.specs.Checks.{Checks, OpensItem, LeavesNone}
use Rattle.kl_forms.proofs.Steps.{Stable, merges, told, with_type, with_kind, with_instance}

pub type_within : (ns : List Cell) (i : ℕ) → IsType ns i → i < length ns
type_within ns i h = sort_within ns i a_type h

-- what is said of a type that is there
pub stable_type : (ns : List Cell) (i : ℕ) (P : Ground → Type 0) → IsType ns i → Stable (length ns) (λ s. P (s.types i))
stable_type ns i P h s u a d = subst P (sym (a.types i (type_within ns i h))) d

pub can_any : (ns : List Cell) → CanMake ns (OfType AnyType)
can_any ns = record { placed = tt; tidy = tt }

-- a fresh type of which a check asks something
module _ (old mid new : List Cell) (item : ℕ) (E : Ground → Fact) (fine : IsFine old) (adds : AddsCell old mid (OfType AnyType) item) (stable : (t : Ground) → Stable (length old) (E t)) where
  pub opens : (ans : Bool) → ans ≡ true → Checks ans mid new (λ s. E (s.types item) s) → OpensItem old new item E
  opens ans e c = record {
    fine = c.fine;
    keeps = keeps_on old mid new adds.keeps c.keeps;
    sort = c.keeps.sorts item a_type adds.sort;
    down = λ s t h g d.
        let w = grown_type old mid item fine AnyType (can_any old) adds s h t g tt in
        let z = (c.down w.to w.solves (subst (λ x. E x w.to) (sym w.holds) (stable t s w.to w.agrees d))).1 in
        let le = adds.keeps.grows in
        record { to = z.to; agrees = agrees_on (length old) (length mid) s w.to z.to le w.agrees z.agrees; solves = z.solves; holds = z.agrees.types item (type_within mid item adds.sort) ∙ w.holds };
    up = λ s h. let w = c.up e s h in (((adds.solves s).0 w.0).0, w.1);
  }

  pub refuses : (ans : Bool) → ans ≡ false → Checks ans mid new (λ s. E (s.types item) s) → LeavesNone old new E
  refuses ans e c = record {
    fine = c.fine;
    keeps = keeps_on old mid new adds.keeps c.keeps;
    none = λ s t h g d.
        let w = grown_type old mid item fine AnyType (can_any old) adds s h t g tt in
        let z = (c.down w.to w.solves (subst (λ x. E x w.to) (sym w.holds) (stable t s w.to w.agrees d))).0 in
        absurd_true _ (subst IsTrue e z);
  }

-- two types made one
pub same_types : (ans : Bool) (old new : List Cell) (a b : ℕ) → IsType old a → Advances ans old new (Same (sort_at old a) a b) (λ s. Unit {0}) → Checks ans old new (λ s. s.types a ≡ s.types b)
same_types ans old new a b is m = subst (λ o. Checks ans old new (Same o a b)) is (merges ans old new _ m)

-- a new type is this one
pub says_type : (old mid new : List Cell) (i want : ℕ) (ans : Bool) (n : TypeNode) → IsFine old → CanMake old (OfType n) → IsType old want → AddsCell old mid (OfType n) i → Checks ans mid new (λ s. s.types i ≡ s.types want) → Checks ans old new (λ s. TypeSays n s (s.types want))
says_type old mid new i want ans n fine can there adds c =
    told ans old new _ _
    (λ s h d. (s.types want, s.types_ground want, d, refl))
    (λ s h d. subst (TypeSays n s) d.3 d.2)
    (with_type old mid i fine n can adds ans new _ (λ t s. t ≡ s.types want) (λ t. stable_type old want (λ x. t ≡ x) there) (λ s e. e) (λ s e. e) c)

pub gives_type : (old mid new : List Cell) (i want : ℕ) (ans : Bool) (x t : Ground) → x ≡ t → IsType old want → GivesType old mid i x → Checks ans mid new (λ s. s.types i ≡ s.types want) → Checks ans old new (λ s. t ≡ s.types want)
gives_type old mid new i want ans x t is there gives c = record {
  fine = c.fine;
  keeps = keeps_on old mid new gives.keeps c.keeps;
  down = λ s h d.
      let w = gives.down s h in
      let z = c.down w.to w.solves (w.holds ∙ is ∙ stable_type old want (λ x. t ≡ x) there s w.to w.agrees d) in
      let le = gives.keeps.grows in
      (z.0, record { to = z.1.to; agrees = agrees_on (length old) (length mid) s w.to z.1.to le w.agrees z.1.agrees; solves = z.1.solves; holds = tt });
  up = λ e s h. let w = c.up e s h in let z = gives.up s w.0 in (z.0, sym (sym w.1 ∙ z.1 ∙ is));
}

pub instance_type : (old mid new : List Cell) (i want : ℕ) (ans : Bool) (scheme : Scheme) → IsType old want → IsType (cells_of scheme.nodes) scheme.root → Instantiates old mid scheme i → Checks ans mid new (λ s. s.types i ≡ s.types want) → Checks ans old new (λ s. Instance scheme (s.types want))
instance_type old mid new i want ans scheme there is used c =
    told ans old new _ _
    (λ s h d. (s.types want, d, refl))
    (λ s h d. subst (Instance scheme) d.2 d.1)
    (with_instance old mid scheme i is used ans new _ (λ t s. t ≡ s.types want) (λ t. stable_type old want (λ x. t ≡ x) there) (λ s e. e) (λ s e. e) c)

-- a call of a scheme's function
pub instance_call : (old mid made new : List Cell) (i j arg want : ℕ) (ans : Bool) (scheme : Scheme) → IsType old arg → IsType old want → IsFunction (cells_of scheme.nodes) scheme.root → Instantiates old mid scheme i → AddsCell mid made (OfFunction arg want) j
    → Advances ans made new (Same (sort_at made i) i j) (λ s. Unit {0}) → Checks ans old new (λ s. Instance scheme (arrow (s.types arg) (s.types want)))
instance_call old mid made new i j arg want ans scheme arg_there there is used adds m =
    let sort : sort_at mid i ≡ sort_at (cells_of scheme.nodes) scheme.root = used.sort in
    let is_function : IsFunction mid i = sort ∙ is in
    let is_type : (k : ℕ) → IsType old k → IsType mid k = λ k h. used.keeps.sorts k a_type h in
    let le = used.keeps.grows in
    let next = adds.keeps.grows in
    let merged : Checks ans made new (λ s. s.functions i ≡ s.functions j) = subst (λ o. Checks ans made new (Same o i j)) (adds.keeps.sorts i a_function is_function) (merges ans made new _ m) in
    record {
      fine = merged.fine;
      keeps = keeps_on old made new (keeps_on old mid made used.keeps adds.keeps) merged.keeps;
      down = λ s h d.
          let w = used.down s _ h d in
          let x = grown_function mid made j used.fine arg want (record { placed = (is_type arg arg_there, is_type want there); tidy = tt }) adds w.to w.solves _ refl in
          let e = x.agrees.functions i (sort_within mid i a_function is_function) ∙ (sym (ap (λ o. given o w.to i) is_function) ∙ w.holds) in
          let z = merged.down x.to x.solves (e ∙ (sym (ap (λ t. arrow t (w.to.types want)) (w.agrees.types arg (type_within old arg arg_there)) ∙ ap (λ t. arrow (s.types arg) t) (w.agrees.types want (type_within old want there))) ∙ sym x.holds)) in
          (z.0, record { to = z.1.to; agrees = agrees_on (length old) (length made) s x.to z.1.to (omega arith) (agrees_on (length old) (length mid) s w.to x.to le w.agrees x.agrees) z.1.agrees; solves = z.1.solves; holds = tt });
      up = λ e s h.
          let w = merged.up e s h in
          let x = (adds.solves s).0 w.0 in
          let y = used.up s x.0 in
          (y.0, subst (Instance scheme) (ap (λ o. given o s i) is_function ∙ (w.1 ∙ x.1)) y.1);
    }

-- collections
pub items_known : (old mid new : List Cell) (i item want : ℕ) (ans : Bool) (k : Kind) → IsFine old → IsType old item → IsType old want → AddsCell old mid (OfKind (Fixed k)) i
    → Checks ans mid new (λ s. s.types want ≡ coll (s.kinds i) (s.types item)) → Checks ans old new (λ s. s.types want ≡ coll k (s.types item))
items_known old mid new i item want ans k fine item_there there adds c =
    told ans old new _ _
    (λ s h d. (k, refl, d))
    (λ s h d. subst (λ j. s.types want ≡ coll j (s.types item)) d.1 d.2)
    (with_kind old mid i fine (Fixed k) (record { placed = tt; tidy = tt }) adds ans new _ (λ j s. s.types want ≡ coll j (s.types item))
    (λ j s u a d. a.types want (type_within old want there) ∙ (d ∙ ap (coll j) (sym (a.types item (type_within old item item_there))))) (λ s e. e) (λ s e. e) c)

pub items_any : (old mid new : List Cell) (i item want : ℕ) (ans : Bool) → IsFine old → IsType old item → IsType old want → AddsCell old mid (OfKind AnyKind) i
    → Checks ans mid new (λ s. s.types want ≡ coll (s.kinds i) (s.types item)) → Checks ans old new (λ s. (k : Kind) × (s.types want ≡ coll k (s.types item)))
items_any old mid new i item want ans fine item_there there adds c =
    told ans old new _ _
    (λ s h d. (d.0, tt, d.1))
    (λ s h d. (d.0, d.2))
    (with_kind old mid i fine AnyKind (record { placed = tt; tidy = tt }) adds ans new _ (λ j s. s.types want ≡ coll j (s.types item))
    (λ j s u a d. a.types want (type_within old want there) ∙ (d ∙ ap (coll j) (sym (a.types item (type_within old item item_there))))) (λ s e. e) (λ s e. e) c)

-- a number that a call found, of which a check asks something
pub opened : (old mid new : List Cell) (item : ℕ) (E : Ground → Fact) (ans : Bool) → OpensItem old mid item E → (F : Ground → Fact) → ((t : Ground) → Stable (length old) (F t)) → Checks ans mid new (λ s. F (s.types item) s)
    → Checks ans old new (λ s. (t : Ground) × IsGround t × E t s × F t s)
opened old mid new item E ans o F stable c = record {
  fine = c.fine;
  keeps = keeps_on old mid new o.keeps c.keeps;
  down = λ s h d.
      let w = o.down s d.0 h d.1 d.2 in
      let z = c.down w.to w.solves (subst (λ x. F x w.to) (sym w.holds) (stable d.0 s w.to w.agrees d.3)) in
      let le = o.keeps.grows in
      (z.0, record { to = z.1.to; agrees = agrees_on (length old) (length mid) s w.to z.1.to le w.agrees z.1.agrees; solves = z.1.solves; holds = tt });
  up = λ e s h. let w = c.up e s h in let x = o.up s w.0 in (x.0, (s.types item, s.types_ground item, x.1, w.1));
}

pub refused : (old new : List Cell) (E : Ground → Fact) (D : Fact) → LeavesNone old new E → ((s : Assignment) → D s → (t : Ground) × IsGround t × E t s) → Checks false old new D
refused old new E D r go = record {
  fine = r.fine;
  keeps = r.keeps;
  down = λ s h d. (let w = go s d in absurd (r.none s w.0 h w.1 w.2));
  up = λ e s h. absurd_true _ e;
}
