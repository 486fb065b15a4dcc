-- Numbers that are given to parts one behind the other.
use Rattle.std.proofs.Common.{◌≡◌, ℕ, zero, suc, ◌+◌, List, [], ◌∷◌, ◌++◌, length, refl, sym, ap, subst, ◌∙◌, arith}
use Rattle.std.proofs.lemmas.List.{append-nil, append_assoc, map-append, length-append, length-map}
use Rattle.kl_plan.specs.declared.plan.Scan.{Scan}
use Rattle.kl_plan.specs.Nodes.{Node}
use Rattle.kl_joins.specs.declared.numbering.Numbers.{Numbers}
use Rattle.kl_joins.specs.Numbered.{from, AreNumbered}
use Rattle.kl_joins.specs.Numbering.{Marks, in_plan, both, HasRoom, Counted, PlanNumbered}

from_more : (n m j k l : ℕ) → m ≡ n + j → l ≡ j + k → from n j ++ from m k ≡ from n l
from_more n m zero k l e f =
    let g : m ≡ n = omega (arith, e) in
    let h : k ≡ l = omega (arith, f) in
    λ i. from (g i) (h i)
from_more n m (suc j) k l e f =
    let g : suc (j + k) ≡ l = omega (arith, f) in
    ap (λ xs. n ∷ xs) (from_more (suc n) m j k (j + k) (omega (arith, e)) refl) ∙ ap (from n) g

from_length : (n k : ℕ) → length (from n k) ≡ k
from_length n zero = refl
from_length n (suc k) = ap suc (from_length (suc n) k)

behind : (xs ys : List ℕ) (m n j k l : ℕ) → xs ≡ from m j → n ≡ m + j → ys ≡ from n k → l ≡ j + k → xs ++ ys ≡ from m l
behind xs ys m n j k l e g h q = (λ i. e i ++ h i) ∙ from_more m n j k l g q

-- ---- what is numbered in parts

abbrev pub none : Marks
none = record { scans = []; joins = []; memos = [] }

abbrev pub one_scan : Scan → Marks
one_scan c = record { scans = c ∷ []; joins = []; memos = [] }

abbrev pub one_join : ℕ → Marks
one_join n = record { scans = []; joins = n ∷ []; memos = [] }

abbrev pub one_memo : ℕ → Marks
one_memo n = record { scans = []; joins = []; memos = n ∷ [] }

pub both_none : (a : Marks) → both a none ≡ a
both_none a = λ i. record { scans = append-nil a.scans i; joins = append-nil a.joins i; memos = append-nil a.memos i }

pub both_assoc : (a b c : Marks) → both (both a b) c ≡ both a (both b c)
both_assoc a b c = λ i. record {
  scans = append_assoc a.scans b.scans c.scans i;
  joins = append_assoc a.joins b.joins c.joins i;
  memos = append_assoc a.memos b.memos c.memos i;
}

pub room_as : (w : Numbers) (a b : Marks) → a ≡ b → HasRoom w a → HasRoom w b
room_as w a b e h = subst (HasRoom w) e h

pub room_first : (w : Numbers) (a b : Marks) → HasRoom w (both a b) → HasRoom w a
room_first w a b h = record {
  scans = omega (arith, h.scans, length-append a.scans b.scans);
  joins = omega (arith, h.joins, length-append a.joins b.joins);
  memos = omega (arith, h.memos, length-append a.memos b.memos);
}

pub room_next : (w v : Numbers) (a b c : Marks) → HasRoom w (both a b) → Counted w v a c → HasRoom v b
room_next w v a b c h k = record {
  scans = omega (arith, h.scans, k.next_scan, length-append a.scans b.scans);
  joins = omega (arith, h.joins, k.next_join, length-append a.joins b.joins);
  memos = omega (arith, h.memos, k.next_memo, length-append a.memos b.memos);
}

pub counted_as : (w v : Numbers) (a b c d : Marks) → c ≡ a → d ≡ b → Counted w v a b → Counted w v c d
counted_as w v a b c d e f h = subst (λ (m : Marks). Counted w v m d) (sym e) (subst (λ (m : Marks). Counted w v a m) (sym f) h)

pub counted_none : (w : Numbers) → Counted w w none none
counted_none w =
    record { scans = refl; joins = refl; memos = refl; next_scan = omega arith; next_join = omega arith; next_memo = omega arith }

-- two parts, one behind the other
pub counted_both : (w v u : Numbers) (a b c d : Marks) → Counted w v a b → Counted v u c d → Counted w u (both a c) (both b d)
counted_both w v u a b c d h k = record {
  scans =
      map-append (λ (x : Scan). x.number) b.scans d.scans
      ∙ behind _ _ w.scans v.scans (length a.scans) (length c.scans) _ h.scans h.next_scan k.scans (length-append a.scans c.scans);
  joins = behind _ _ w.joins v.joins (length a.joins) (length c.joins) _ h.joins h.next_join k.joins (length-append a.joins c.joins);
  memos = behind _ _ w.memos v.memos (length a.memos) (length c.memos) _ h.memos h.next_memo k.memos (length-append a.memos c.memos);
  next_scan = omega (arith, h.next_scan, k.next_scan, length-append a.scans c.scans);
  next_join = omega (arith, h.next_join, k.next_join, length-append a.joins c.joins);
  next_memo = omega (arith, h.next_memo, k.next_memo, length-append a.memos c.memos);
}

pub counted_scan : (w v : Numbers) (c d : Scan) → d.number ≡ w.scans → v ≡ record w { scans = w.scans + 1 }
    → Counted w v (one_scan c) (one_scan d)
counted_scan w v c d e f = record {
  scans = ap (λ n. n ∷ []) e;
  joins = refl;
  memos = refl;
  next_scan = ap (λ (x : Numbers). x.scans) f;
  next_join = ap (λ (x : Numbers). x.joins) f ∙ omega arith;
  next_memo = ap (λ (x : Numbers). x.memos) f ∙ omega arith;
}

pub counted_join : (w : Numbers) (n m k : ℕ) → m ≡ w.joins → k ≡ w.joins + 1 → Counted w (record w { joins = k }) (one_join n) (one_join m)
counted_join w n m k e f = record {
  scans = refl;
  joins = ap (λ x. x ∷ []) e;
  memos = refl;
  next_scan = omega arith;
  next_join = f;
  next_memo = omega arith;
}

pub counted_memo : (w : Numbers) (n m k : ℕ) → m ≡ w.memos → k ≡ w.memos + 1 → Counted w (record w { memos = k }) (one_memo n) (one_memo m)
counted_memo w n m k e f = record {
  scans = refl;
  joins = refl;
  memos = ap (λ x. x ∷ []) e;
  next_scan = omega arith;
  next_join = omega arith;
  next_memo = f;
}

-- ---- a whole plan, from 0 on

whole : (xs : List ℕ) (n k : ℕ) → xs ≡ from 0 k → n ≡ length xs → xs ≡ from 0 n
whole xs n k e f = e ∙ ap (from 0) (sym (f ∙ ap length e ∙ from_length 0 k))

pub are_numbered : (w v : Numbers) (p r : Node) → w ≡ record { scans = 0; joins = 0; memos = 0 } → PlanNumbered w v p r → AreNumbered r
are_numbered w v p r e h =
    let c : Counted (record { scans = 0; joins = 0; memos = 0 }) v (in_plan p) (in_plan r) =
    subst (λ (x : Numbers). Counted x v (in_plan p) (in_plan r)) e h.counted in
    let r_scans = (in_plan r).scans in
    record {
      scans = whole _ (length r_scans) _ c.scans (sym (length-map r_scans (λ (x : Scan). x.number)));
      joins = whole _ _ _ c.joins refl;
      memos = whole _ _ _ c.memos refl;
    }
