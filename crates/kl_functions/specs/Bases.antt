-- With what the new names of an expansion's variables begin.
use Rattle.std.specs.Prelude.{◌≡◌, ℕ, ◌<◌, Bool, true, false, ◌||◌, nat_eq, List, [], ◌∷◌, ◌++◌, map, replicate}
use Rattle.std.specs.List.{list_any, starts_with}
use Rattle.kl_outcome.specs.Outcome.{Name}
use Rattle.kl_prim.specs.Table.{rows}
use Rattle.kl_syntax.specs.declared.tree.Decl.{Decl}

-- the n-th of `v_`, `vv_`, `vvv_`, .., from 0
abbrev pub nth_base : ℕ → Name
nth_base n = replicate n 118 ++ 118 ∷ 95 ∷ []

-- a name of a definition, a source or a primitive begins with it
abbrev pub is_begun : List Decl → List Name → Name → Bool
is_begun defs sources b =
    list_any (λ d. starts_with nat_eq d.name.text b) defs
    || (list_any (λ s. starts_with nat_eq s b) sources || list_any (λ e. starts_with nat_eq e.name b) (map (λ r. r.entry) rows))

-- the first with which none begins
pub record IsFirstFree (defs : List Decl) (sources : List Name) (b : Name) : Type 0 where
  pub number : ℕ
  pub same : b ≡ nth_base number
  pub free : is_begun defs sources b ≡ false
  pub before : (m : ℕ) → m < number → is_begun defs sources (nth_base m) ≡ true
