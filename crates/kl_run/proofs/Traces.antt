-- A trace in which nothing is counted of the scans of a plan.
use Rattle.std.proofs.Common.{◌≡◌, ℕ, zero, suc, ◌+◌, ◌^◌, ◌<◌, ◌≤◌, List, [], ◌∷◌, ◌++◌, length, map, refl, sym, ap, ◌∙◌, arith}
use Rattle.std.proofs.lemmas.List.{map-append}
use Rattle.kl_core.specs.Counts.{nodes_of}
use Rattle.kl_core.specs.Trees.{Tree}
use Rattle.kl_ask.specs.declared.settings.Settings.{Settings}
use Rattle.kl_plan.specs.Nodes.{Node}
use Rattle.kl_plan.specs.Numbers.{scans_in}
use Rattle.kl_plan.specs.declared.plan.Scan.{Scan}
use Rattle.kl_joins.specs.Numbered.{from}
use Rattle.kl_ship.specs.declared.source.ShipSource.{ShipSource}
use Rattle.kl_ship.proofs.Amounts.{scans_most}
use Rattle.kl_run.specs.Planned.{IsPlanOf}
use Rattle.kl_run.proofs.Sums.{numbers}

-- an entry in which nothing is counted yet, of a number and of a scan
abbrev pub entry : ℕ → ℕ × ℕ
entry n = (n, 0)

abbrev pub entry_of : Scan → ℕ × ℕ
entry_of c = (c.number, 0)

-- entries for so many numbers from 0 on
abbrev pub entries : ℕ → List (ℕ × ℕ)
entries count = map entry (from 0 count)

from_one : (n count : ℕ) → from n (suc count) ≡ from n count ++ (n + count) ∷ []
from_one n zero = let e : n ≡ n + 0 = omega arith in ap (λ k. k ∷ []) e
from_one n (suc count) = let e : suc n + count ≡ n + suc count = omega arith in ap (λ ns. n ∷ ns) (from_one (suc n) count ∙ ap (λ k. from (suc n) count ++ k ∷ []) e)

pub entries_more : (count : ℕ) → entries count ++ entry count ∷ [] ≡ entries (count + 1)
entries_more count =
    let e : 0 + count ≡ count = omega arith in
    let f : suc count ≡ count + 1 = omega arith in
    sym (map-append entry (from 0 count) (count ∷ [])) ∙ ap (map entry) (ap (λ k. from 0 count ++ k ∷ []) (sym e) ∙ sym (from_one 0 count)) ∙ ap entries f

numbered : (cs : List Scan) → map entry_of cs ≡ map entry (numbers cs)
numbered [] = refl
numbered (c ∷ cs) = ap (λ es. entry_of c ∷ es) (numbered cs)

module _ {how : Settings} (ss : List ShipSource) (t : Tree) (p : Node) (of : IsPlanOf how ss t p) where
  pub scans_few : nodes_of t ≤ 16384 → length (scans_in p) < 2 ^ 32
  scans_few small = let most = scans_most _ ss t p of.ships in omega (arith, most, small)

  pub plan_entries : entries (length (scans_in p)) ≡ map entry_of (scans_in p)
  plan_entries = ap (map entry) (sym of.ships.finishes.numbered.scans) ∙ sym (numbered (scans_in p))
