-- What was counted while a program ran, and the lines that tell it.
use Rattle.std.specs.Prelude.{ℕ, ◌-◌, Bool, true, false, List, [], ◌∷◌, ◌++◌, codes, decimal, Some, None, sum, map}
use Rattle.std.specs.List.{flat_map, zip}
use Rattle.kl_ask.specs.Driver.{State}
use Rattle.kl_ask.specs.declared.settings.Trace.{Trace}
use Rattle.kl_engine.specs.Faults.{Ending, joined, fault_line}

-- the rows that some drivers handed since they were made; no public contract cites this
abbrev pub handed_by : List State → ℕ
handed_by ds = sum (map (λ d. d.handed) ds)

-- the rows that they handed in a call: the sum of what each of them handed
abbrev pub handed_in : List State → List State → ℕ
handed_in old new = sum (map (λ d. d.1.handed - d.0.handed) (zip old new))

abbrev pub scan_line : ℕ × ℕ → List ℕ
scan_line scan = joined (codes "scan " ∷ decimal scan.0 ∷ codes " starts " ∷ decimal scan.1 ∷ codes "\n" ∷ [])

-- a line each
abbrev pub totals_text : Trace → ℕ → List ℕ
totals_text trace handed =
    joined (
    codes "steps " ∷ decimal trace.steps
    ∷ codes "\nhits " ∷ decimal trace.hits
    ∷ codes "\nmisses " ∷ decimal trace.misses
    ∷ codes "\npeak " ∷ decimal trace.peak
    ∷ codes "\nhanded " ∷ decimal handed
    ∷ codes "\n" ∷ [])

abbrev pub stats_text : Trace → ℕ → List ℕ
stats_text trace handed = totals_text trace handed ++ flat_map scan_line trace.starts

-- what `err` is told: the fault's line; or where a command ended well and its words ask for them, the counts
abbrev pub told_text : Bool → List ℕ → Ending → Trace → ℕ → List ℕ
told_text stats path (Some f) trace handed = fault_line path f
told_text true path None trace handed = stats_text trace handed
told_text false path None trace handed = []
