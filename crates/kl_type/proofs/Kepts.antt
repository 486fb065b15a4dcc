-- What the descent answers rests on no token behind the first of the rest, nor on the depth, unless it is too small.
use Rattle.std.proofs.Common.{◌≡◌, ℕ, zero, suc, ◌≤◌, Bool, true, false, IsTrue, List, [], refl, arith}
use Rattle.kl_lex.specs.declared.token.Sym.{Sym}
use Rattle.kl_lex.specs.declared.token.Sym.TheVariants as sy
use Rattle.kl_lex.specs.declared.token.Placed.{Placed}
use Rattle.kl_value.specs.declared.Kind.{Kind}
use Rattle.kl_value.specs.declared.Kind.TheVariants as kind
use Rattle.kl_phrase.specs.Readers.{Why, deep, Reader}
use Rattle.kl_phrase.proofs.Kept.{Keeps, Rests, Takes, keeps_one, keeps_nothing, keeps_made, keeps_behind, keeps_before, keeps_pick, keeps_opening}
use Rattle.kl_phrase.proofs.Exact.{IsBad, Each}
use Rattle.kl_type.specs.declared.ground.Ty.{Ty}
use Rattle.kl_type.specs.declared.ground.Ty.TheVariants as ty
use Rattle.kl_lex.specs.Brackets.{opener, closer}
use Rattle.kl_type.specs.Descent as d
use Rattle.kl_type.specs.Descent.{a_symbol, a_base}
use Rattle.kl_type.proofs.FieldGoods.{FieldList, keeps_fields, takes_comma}
use Rattle.kl_phrase.proofs.Theory.{no}

module _ (Q : Why → List Placed → Type 0) (N M : ℕ) where
  keeps_mark : (s : Sym) → Keeps Q N M (d.mark s) (d.mark s)
  keeps_mark s = keeps_one (a_symbol s)

  module _ (e e' : Reader Placed Ty) (ke : Keeps Q N M e e') (ke' : Keeps Q M M e' e') where
    keeps_coll : (k : Kind) → Keeps Q N M (d.coll e k) (d.coll e' k)
    keeps_coll k = keeps_made (ty.Coll k) (keeps_behind (keeps_mark (opener k)) (keeps_before ke (keeps_mark (closer k))))

    keeps_rec : Keeps Q N M (d.rec e) (d.rec e')
    keeps_rec = keeps_made ty.Rec (keeps_behind (keeps_mark sy.OpenRec) (keeps_before (keeps_pick (keeps_fields Q N M e e' ke ke') (keeps_nothing [])) (keeps_mark sy.CloseRec)))

    keeps_var : Keeps Q N M (d.var e) (d.var e')
    keeps_var = keeps_made ty.Var (keeps_behind (keeps_mark sy.Lt) (keeps_before (keeps_fields Q N M e e' ke ke') (keeps_mark sy.Gt)))

  keeps_a_type : (e e' : Reader Placed Ty) (may can : Bool) → (IsTrue may → Keeps Q N M e e') → (IsTrue may → Keeps Q M M e' e') → (IsTrue may → IsTrue can) → ((r : List Placed) → Q deep r → may ≡ can) → Keeps Q N M (d.a_type e may) (d.a_type e' can)
  unfolding d.a_type
  keeps_a_type e e' may can k k' i j =
      keeps_opening i j (λ h. keeps_coll e e' (k h) (k' h) kind.Set)
      (keeps_opening i j (λ h. keeps_coll e e' (k h) (k' h) kind.Bag)
      (keeps_opening i j (λ h. keeps_coll e e' (k h) (k' h) kind.List)
      (keeps_opening i j (λ h. keeps_rec e e' (k h) (k' h))
      (keeps_opening i j (λ h. keeps_var e e' (k h) (k' h)) (keeps_one a_base)))))

-- at one depth all failures are kept
pub same_reads : (Q : Why → List Placed → Type 0) (N M n : ℕ) → Keeps Q N M (d.reads n) (d.reads n)
unfolding d.reads
same_reads Q N M zero = keeps_a_type Q N M d.never d.never false false no no (λ i. i) (λ r h. refl)
same_reads Q N M (suc n) = keeps_a_type Q N M (d.reads n) (d.reads n) true true (λ i. same_reads Q N M n) (λ i. same_reads Q M M n) (λ i. i) (λ r h. refl)

pub more_reads : (N M n k : ℕ) → n ≤ k → Keeps IsBad N M (d.reads n) (d.reads k)
unfolding d.reads
more_reads N M zero zero le = keeps_a_type IsBad N M d.never d.never false false no no (λ i. i) (λ r h. absurd h)
more_reads N M zero (suc k) le = keeps_a_type IsBad N M d.never (d.reads k) false true no no (λ i. refl) (λ r h. absurd h)
more_reads N M (suc n) zero le = absurd (omega arith)
more_reads N M (suc n) (suc k) le = keeps_a_type IsBad N M (d.reads n) (d.reads k) true true (λ i. more_reads N M n k (omega arith)) (λ i. same_reads IsBad M M k) (λ i. i) (λ r h. absurd h)

pub rests_reads : (n : ℕ) (ts : List Placed) → Rests ts (d.reads n ts)
rests_reads n ts = (same_reads Each 0 0 n).rests ts

pub takes_next : (n : ℕ) (fields : FieldList) → Takes (Rattle.kl_phrase.specs.Readers.behind (d.mark sy.Comma) (d.field (d.reads n) fields))
takes_next n fields = takes_comma Each 0 0 (d.reads n) (d.reads n) (same_reads Each 0 0 n) fields
