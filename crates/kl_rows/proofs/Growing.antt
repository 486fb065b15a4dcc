-- Solutions that grow by the value of one new number.
use Rattle.std.proofs.Common.{◌≡◌, ◌≢◌, ℕ, ◌<◌, ◌≤◌, List, [], ◌∷◌, length, sym, subst, arith}
use Rattle.std.specs.List.{AllByRecursion}
use Rattle.std.proofs.lemmas.Option.{slice_get_within}
use Rattle.kl_value.specs.declared.value.Kind.{Kind}
use Rattle.kl_type.specs.Ground.{Ground, Row, IsGround, IsRow}
use Rattle.kl_rows.specs.declared.cell.TypeNode.{TypeNode}
use Rattle.kl_rows.specs.declared.cell.TypeNode.TheVariants.{AnyType, Base, Rec, Var, Coll, TypeLink}
use Rattle.kl_rows.specs.declared.cell.KindNode.{KindNode}
use Rattle.kl_rows.specs.declared.cell.KindNode.TheVariants.{AnyKind, Fixed, KindLink}
use Rattle.kl_rows.specs.declared.cell.RowNode.{RowNode}
use Rattle.kl_rows.specs.declared.cell.RowNode.TheVariants.{AnyRow, NoRow, Front}
use Rattle.kl_rows.specs.declared.cell.Cell.{Cell}
use Rattle.kl_rows.specs.declared.cell.Cell.TheVariants.{OfType, OfFunction, OfRow, OfKind}
use Rattle.kl_rows.specs.Lists.{Fields}
use Rattle.kl_rows.specs.Places.{Parts, a_type, a_row, a_kind, AreTypes, IsPlaced, IsFine}
use Rattle.kl_rows.specs.Solutions.{Assignment, TypeSays, FunctionSays, RowSays, KindSays, Solves}
use Rattle.kl_rows.specs.Steps.{Agrees, Grown}
use Rattle.kl_rows.specs.Making.{CanMake, AddsCell}
use Rattle.kl_rows.proofs.CellLists.{sort_within}
use Rattle.kl_rows.proofs.Advancing.{Fact, agrees_on}
use Rattle.kl_rows.proofs.Assigning.{parts_on, Off, type_off, function_off, row_off, kind_off, says_off, with_type, with_function, with_row, with_kind, type_put, function_put, row_put, kind_put}

types_within : (ns : List Cell) (fs : Fields) → AreTypes ns fs → AllByRecursion (λ f. f.1 < length ns) fs
types_within ns [] h = tt
types_within ns (f ∷ fs) h = (sort_within ns f.1 a_type h.0, types_within ns fs h.1)

-- the parts of a cell that is in order are there
pub parts_within : (ns : List Cell) (i : ℕ) (c : Cell) → IsPlaced ns i c → Parts c (λ p. p < length ns)
parts_within ns i (OfType AnyType) h = tt
parts_within ns i (OfType (Base b)) h = tt
parts_within ns i (OfType (Rec r)) h = sort_within ns r a_row h
parts_within ns i (OfType (Var r)) h = sort_within ns r a_row h
parts_within ns i (OfType (Coll k a)) h = (sort_within ns k a_kind h.0, sort_within ns a a_type h.1)
parts_within ns i (OfFunction a b) h = (sort_within ns a a_type h.0, sort_within ns b a_type h.1)
parts_within ns i (OfType (TypeLink a)) h = sort_within ns a a_type h.1
parts_within ns i (OfRow (AnyRow ls)) h = tt
parts_within ns i (OfRow NoRow) h = tt
parts_within ns i (OfRow (Front fs r)) h = (types_within ns fs h.0, sort_within ns r a_row h.1)
parts_within ns i (OfKind AnyKind) h = tt
parts_within ns i (OfKind (Fixed k)) h = tt
parts_within ns i (OfKind (KindLink a)) h = sort_within ns a a_kind h.1

pub off_agrees : (i n : ℕ) (s u : Assignment) → n ≤ i → Off i s u → Agrees n s u
off_agrees i n s u le o = record {
  types = λ j lt. o.types j (omega arith);
  functions = λ j lt. o.functions j (omega arith);
  rows = λ j lt. o.rows j (omega arith);
  kinds = λ j lt. o.kinds j (omega arith);
}

-- a number that is not there may be given any value
pub off_solves : (ns : List Cell) (s u : Assignment) (i : ℕ) → IsFine ns → length ns ≤ i → Off i s u → Solves ns s → Solves ns u
off_solves ns s u i fine le o h = record {
  each = λ j c e. (let lt : j < length ns = slice_get_within ns j c e in says_off i s u c j o (omega arith) (parts_on c _ _ (λ p l. omega arith) (parts_within ns j c (fine.placed j c e))) (h.each j c e));
}

pub grown_then : (a b c : List Cell) (s : Assignment) (P Q : Fact) → length a ≤ length b → Grown a b s P → ((u : Assignment) → Solves b u → P u → Grown b c u Q) → Grown a c s Q
grown_then a b c s P Q le g go =
    let h = go g.to g.solves g.holds in
    record { to = h.to; agrees = agrees_on (length a) (length b) s g.to h.to le g.agrees h.agrees; solves = h.solves; holds = h.holds }

-- the same where the step may use what agrees
pub grown_with : (a b c : List Cell) (s : Assignment) (P Q : Fact) → length a ≤ length b → Grown a b s P → ((u : Assignment) → Agrees (length a) s u → Solves b u → P u → Grown b c u Q) → Grown a c s Q
grown_with a b c s P Q le g go =
    let h = go g.to g.agrees g.solves g.holds in
    record { to = h.to; agrees = agrees_on (length a) (length b) s g.to h.to le g.agrees h.agrees; solves = h.solves; holds = h.holds }

pub grown_map : (a b : List Cell) (s : Assignment) (P Q : Fact) → ((u : Assignment) → Solves b u → P u → Q u) → Grown a b s P → Grown a b s Q
grown_map a b s P Q go g = record { to = g.to; agrees = g.agrees; solves = g.solves; holds = go g.to g.solves g.holds }

module _ (old new : List Cell) (i : ℕ) (fine : IsFine old) where
  private_within : (c : Cell) → CanMake old c → i ≡ length old → Parts c (λ p. p ≢ i)
  private_within c can e = parts_on c _ _ (λ p l. omega arith) (parts_within old (length old) c can.placed)

  -- a new type may be any that the node says
  pub grown_type : (n : TypeNode) → CanMake old (OfType n) → AddsCell old new (OfType n) i → (s : Assignment) → Solves old s → (t : Ground) → IsGround t → TypeSays n s t → Grown old new s (λ u. u.types i ≡ t)
  grown_type n can a s h t g says =
      let p = type_put s i t g in
      let u : Assignment = with_type s i t g in
      let at_end : i ≡ length old = a.place in
      record {
        to = u;
        agrees = off_agrees i (length old) s u (omega arith) p.0;
        solves = (a.solves u).1 (off_solves old s u i fine (omega arith) p.0 h, subst (TypeSays n u) (sym p.1) (type_off i s u n t p.0 (private_within (OfType n) can at_end) says));
        holds = p.1;
      }

  -- a new function goes from and to its types
  pub grown_function : (a b : ℕ) → CanMake old (OfFunction a b) → AddsCell old new (OfFunction a b) i → (s : Assignment) → Solves old s → (t : Ground) → FunctionSays a b s t → Grown old new s (λ u. u.functions i ≡ t)
  grown_function a b can k s h t says =
      let p = function_put s i t in
      let u : Assignment = with_function s i t in
      let at_end : i ≡ length old = k.place in
      record {
        to = u;
        agrees = off_agrees i (length old) s u (omega arith) p.0;
        solves = (k.solves u).1 (off_solves old s u i fine (omega arith) p.0 h, subst (FunctionSays a b u) (sym p.1) (function_off i s u a b t p.0 (private_within (OfFunction a b) can at_end) says));
        holds = p.1;
      }

  pub grown_row : (n : RowNode) → CanMake old (OfRow n) → AddsCell old new (OfRow n) i → (s : Assignment) → Solves old s → (r : Row) → IsRow r → RowSays n s r → Grown old new s (λ u. u.rows i ≡ r)
  grown_row n can a s h r g says =
      let p = row_put s i r g in
      let u : Assignment = with_row s i r g in
      let at_end : i ≡ length old = a.place in
      record {
        to = u;
        agrees = off_agrees i (length old) s u (omega arith) p.0;
        solves = (a.solves u).1 (off_solves old s u i fine (omega arith) p.0 h, subst (RowSays n u) (sym p.1) (row_off i s u n r p.0 (private_within (OfRow n) can at_end) says));
        holds = p.1;
      }

  pub grown_kind : (n : KindNode) → CanMake old (OfKind n) → AddsCell old new (OfKind n) i → (s : Assignment) → Solves old s → (k : Kind) → KindSays n s k → Grown old new s (λ u. u.kinds i ≡ k)
  grown_kind n can a s h k says =
      let p = kind_put s i k in
      let u : Assignment = with_kind s i k in
      let at_end : i ≡ length old = a.place in
      record {
        to = u;
        agrees = off_agrees i (length old) s u (omega arith) p.0;
        solves = (a.solves u).1 (off_solves old s u i fine (omega arith) p.0 h, subst (KindSays n u) (sym p.1) (kind_off i s u n k p.0 (private_within (OfKind n) can at_end) says));
        holds = p.1;
      }
