-- How often scans are started where each key is evaluated once.
use Rattle.std.specs.Prelude.{◌≡◌, ℕ, Bool, List, [], ◌∷◌, cond, false, nat_eq, ⊤}
use Rattle.std.specs.List.{sum_by}
use Rattle.std.specs.Set.{unique_keys}
use Rattle.kl_ask.specs.declared.settings.JoinHow.{JoinHow}
use Rattle.kl_plan.specs.declared.plan.Scan.{Scan}
use Rattle.kl_plan.specs.Nodes.{Node}
use Rattle.kl_plan.specs.Meaning.{Readings}
use Rattle.kl_plan.specs.Parts.{memos_of}
use Rattle.kl_plan.specs.Subqueries.{Memo, Subquery}
use Rattle.kl_counts.specs.Keys.{under}
use Rattle.kl_plan.specs.Prices.{Prices, prices}
use Rattle.kl_plan.specs.Reached.{reached}
use Rattle.kl_counts.specs.Visits.{keys}
use Rattle.kl_counts.specs.Places.{Places, AnyScan, AnyJoin, NoMemo}

-- what the part of the memo of a number comes to under the values of its key
abbrev pub costs : Readings → ℕ → Prices → List Memo → Subquery → ℕ
costs R block P [] k = 0
costs R block P (m ∷ ms) k = cond (nat_eq m.0 k.0) (reached R block P m.1.1 (under 0 m.1.0 k.1)) (costs R block P ms k)

-- Only starts of the scan of a number are counted.
abbrev pub at_scan : ℕ → Prices
at_scan n = prices (λ c. cond (nat_eq c.number n) 1 0) (λ m way outer. 0)

-- how often the scan of a number, which stands in a memo, is come to where the part is evaluated once under each key
abbrev pub once_each : (Subquery → Subquery → Bool) → Readings → ℕ → Node → ℕ → ℕ
once_each same R block p n = sum_by (costs R block (at_scan n) (memos_of p)) (unique_keys same (keys R p []))

-- ---- where the scan of a number stands

-- no scan has the number
abbrev pub OtherScan : ℕ → Scan → Type 0
OtherScan n c = nat_eq c.number n ≡ false

abbrev pub OtherInner : ℕ → ℕ → JoinHow → Scan → Type 0
OtherInner n m way i = nat_eq i.number n ≡ false

abbrev pub AnyMemo : ℕ → ℕ → List ℕ → Node → Type 0
AnyMemo d n frees p = ⊤

-- no scan of the number stands outside memos, be it the inner part of a join
abbrev pub NoneOutside : ℕ → Node → Type 0
NoneOutside n = Places (OtherScan n) (OtherInner n) AnyMemo 0

-- none stands inside a memo
abbrev pub NoneInside : ℕ → Node → Type 0
NoneInside n = Places AnyScan AnyJoin (λ d m frees q. Places (OtherScan n) (OtherInner n) NoMemo d q) 0

-- The inner part of a join has the number exactly where the join has its own, and no other scan has it.
abbrev pub InnerOf : ℕ → ℕ → ℕ → JoinHow → Scan → Type 0
InnerOf n j m way i = nat_eq i.number n ≡ nat_eq m j

abbrev pub OnlyInner : ℕ → ℕ → Node → Type 0
OnlyInner n j = Places (OtherScan n) (InnerOf n j) (λ d m frees q. Places (OtherScan n) (InnerOf n j) NoMemo d q) 0

-- the join of a number stands in no memo
abbrev pub OtherJoin : ℕ → ℕ → JoinHow → Scan → Type 0
OtherJoin j m way i = nat_eq m j ≡ false

abbrev pub NoJoinInside : ℕ → Node → Type 0
NoJoinInside j = Places AnyScan AnyJoin (λ d m frees q. Places AnyScan (OtherJoin j) NoMemo d q) 0
