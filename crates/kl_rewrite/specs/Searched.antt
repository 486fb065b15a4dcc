-- What the search does at one place, in one part, and in parts that stand beside one another. The trail and the path are
-- kept with their last number first. No public contract cites this.
use Rattle.std.specs.Prelude.{◌≡◌, ◌⊎◌, ℕ, ◌+◌, ◌≤◌, ◌<◌, Bool, true, false, List, [], ◌∷◌, reverse, Option, Some, None, Result, Ok, Err, ⊤}
use Rattle.kl_base.specs.declared.memory.NoMemory.{NoMemory}
use Rattle.kl_core.specs.declared.term.Term.{Term}
use Rattle.kl_core.specs.Trees.{Tree, view}
use Rattle.kl_core.specs.Leaves.{Leaves}
use Rattle.kl_core.specs.Positions.{AnySource}
use Rattle.kl_core.specs.Counts.{nodes_of, depth_of}
use Rattle.kl_rules.specs.Rewriting.{IsLowPosition}
use Rattle.kl_rewrite.specs.declared.place.Allowance.{Allowance}
use Rattle.kl_rewrite.specs.declared.search.Search.{Search}
use Rattle.kl_rewrite.specs.Places.{with_part}
use Rattle.kl_rewrite.specs.Search.{Made, IsQuiet, IsStill, Leads, IsSettled}

-- ---- at one place

-- small enough for the rules and for the limits
pub record IsSearchable (room level : ℕ) (t : Tree) : Type 0 where
  pub low : Leaves IsLowPosition AnySource t
  pub few : nodes_of t + room ≤ 16384
  pub shallow : level + depth_of t ≤ 512

-- nothing is made, up to a room that may have become less
pub record KeepsRoom (w v : Allowance) : Type 0 where
  pub room : v.room ≡ w.room
  pub least : w.room ≤ v.calm
  pub lower : v.calm ≤ w.calm

-- the room that u leaves in place of t
pub record LeavesRoom (t u : Tree) (w v : Allowance) : Type 0 where
  pub room : v.room + nodes_of u ≡ w.room + nodes_of t
  pub least : w.room ≤ v.calm
  pub lower : v.calm ≤ w.calm

-- what one rule makes, or that it makes nothing
abbrev pub Given : ℕ → ℕ → Tree → Option Term → Allowance → Allowance → Type 0
Given level n t (Some u) w v = Made w.room level t [] n (view u) × LeavesRoom t (view u) w v × (v.calm ≡ w.calm)
Given level n t None w v = KeepsRoom w v × ((u : Tree) → Made v.calm level t [] n u → ⊥)

-- one rule tried: it is made, or nothing is
abbrev pub Tried : ℕ → ℕ → Term → Term → Bool → Allowance → Allowance → Type 0
Tried level n t u true w v = Made w.room level (view t) [] n (view u) × LeavesRoom (view t) (view u) w v × (v.calm ≡ w.calm)
Tried level n t u false w v = (u ≡ t) × KeepsRoom w v × ((x : Tree) → Made v.calm level (view t) [] n x → ⊥)

-- all rules tried: what the lowest makes that makes anything
abbrev pub Found : ℕ → Term → Term → Bool → Allowance → Allowance → Type 0
Found level t u true w v = Leads w.room level (view t) (view u) × LeavesRoom (view t) (view u) w v
Found level t u false w v = (u ≡ t) × KeepsRoom w v × IsStill v.calm level (view t)

-- ---- in a part

-- nothing is made anywhere in it
pub record Passes (level : ℕ) (t u : Tree) (s s' : Search) : Type 0 where
  pub same : u ≡ t
  pub path : s'.path.items ≡ []
  pub keeps : KeepsRoom s.allowance s'.allowance
  pub quiet : IsQuiet s'.allowance.calm level t

-- only the first part on the way is another
abbrev pub IsAlong : Tree → Tree → List ℕ → Type 0
IsAlong t u p = (i : ℕ) (q : List ℕ) → p ≡ i ∷ q → (a : Tree) × (u ≡ with_part t i a)

-- the first step is made, and the path leads to it
pub record StepsIn (level : ℕ) (t u : Tree) (s s' : Search) : Type 0 where
  pub leads : Leads s.allowance.room level t u
  pub leaves : LeavesRoom t u s.allowance s'.allowance
  pub settled : IsSettled s'.allowance.calm level u (reverse s'.path.items)
  pub along : IsAlong t u (reverse s'.path.items)

abbrev pub Searched : ℕ → Tree → Tree → Bool → Search → Search → Type 0
Searched level t u true s s' = StepsIn level t u s s'
Searched level t u false s s' = Passes level t u s s'

-- before the search in a part that the trail leads through, or that it does not lead to
pub record IsTraced (level : ℕ) (t : Tree) (trail : List ℕ) (s : Search) : Type 0 where
  pub searchable : IsSearchable s.allowance.room level t
  pub least : s.allowance.room ≤ s.allowance.calm
  pub path : s.path.items ≡ []
  pub settled : IsSettled s.allowance.calm level t (reverse trail)

-- ---- in a part with a number

-- quiet where the trail leads through a later part, and settled where it leads through this one
abbrev pub IsReady : ℕ → ℕ → ℕ → Tree → List ℕ → Type 0
IsReady calm level n t [] = ⊤
IsReady calm level n t (i ∷ r) = (n < i → IsQuiet calm level t) × (n ≡ i → IsSettled calm level t r)

pub record IsOpen (level n : ℕ) (t : Tree) (trail : List ℕ) (s : Search) : Type 0 where
  pub searchable : IsSearchable s.allowance.room level t
  pub least : s.allowance.room ≤ s.allowance.calm
  pub path : s.path.items ≡ []
  pub ready : IsReady s.allowance.calm level n t (reverse trail)

-- the rest of the trail in the part with this number, none where the part is before the trail
abbrev pub IsTrailIn : ℕ → List ℕ → Option (List ℕ) → Type 0
IsTrailIn n trail (Some r) = (reverse r ≡ []) ⊎ (reverse trail ≡ n ∷ reverse r)
IsTrailIn n trail None = (i : ℕ) × (r : List ℕ) × (reverse trail ≡ i ∷ r) × (n < i)

pub record StepsInPart (level n : ℕ) (t u : Tree) (s s' : Search) : Type 0 where
  pub leads : Leads s.allowance.room level t u
  pub leaves : LeavesRoom t u s.allowance s'.allowance
  pub trail : List ℕ
  pub path : reverse s'.path.items ≡ n ∷ trail
  pub settled : IsSettled s'.allowance.calm level u trail
  pub along : IsAlong t u trail

abbrev pub SearchedPart : ℕ → ℕ → Tree → Tree → Bool → Search → Search → Type 0
SearchedPart level n t u true s s' = StepsInPart level n t u s s'
SearchedPart level n t u false s s' = Passes level t u s s'

-- ---- in parts beside one another, the first of them with the number n; `at` gives one, and `with` puts another there

module _ {L : Type 0} (at : L → ℕ → Option Tree) where
  pub record AreOpen (level n : ℕ) (ts : L) (trail : List ℕ) (s : Search) : Type 0 where
    pub least : s.allowance.room ≤ s.allowance.calm
    pub path : s.path.items ≡ []
    pub each : (i : ℕ) (b : Tree) → at ts i ≡ Some b → IsOpen level (n + i) b trail s

  pub record PassesAll (level : ℕ) (ts us : L) (s s' : Search) : Type 0 where
    pub same : us ≡ ts
    pub path : s'.path.items ≡ []
    pub keeps : KeepsRoom s.allowance s'.allowance
    pub quiet : (i : ℕ) (b : Tree) → at ts i ≡ Some b → IsQuiet s'.allowance.calm level b

  module _ (with : L → ℕ → Tree → L) where
    pub record StepsInOne (level n : ℕ) (ts us : L) (s s' : Search) : Type 0 where
      pub index : ℕ
      pub before : Tree
      pub after : Tree
      pub stands : at ts index ≡ Some before
      pub whole : us ≡ with ts index after
      pub quiet : (i : ℕ) (b : Tree) → i < index → at ts i ≡ Some b → IsQuiet s'.allowance.calm level b
      pub step : StepsInPart level (n + index) before after s s'

    abbrev pub SearchedAll : ℕ → ℕ → L → L → Bool → Search → Search → Type 0
    SearchedAll level n ts us true s s' = StepsInOne level n ts us s s'
    SearchedAll level n ts us false s s' = PassesAll level ts us s s'

-- ---- behind a part that was searched

-- what holds where nothing was made there
abbrev pub AfterNone : Result Bool NoMemory → Type 0 → Type 0
AfterNone (Ok false) P = P
AfterNone (Ok true) P = ⊤
AfterNone (Err e) P = ⊤

-- what the search answers behind it: the step that was made, or what comes of the search from here on
abbrev pub Behind : {T : Type 0} → Result Bool NoMemory → T → T → Search → Search → (Bool → Type 0) → Bool → Type 0
Behind (Ok true) t u s s' P b = (b ≡ true) × (u ≡ t) × (s' ≡ s)
Behind (Ok false) t u s s' P b = P b
Behind (Err e) t u s s' P b = ⊥
