-- What the rules ask of the parts of a term.
use Rattle.std.specs.Prelude.{◌≡◌, ℕ, ◌+◌, ◌*◌, ◌<◌, Bool, true, false, ◌&&◌, List, [], ◌∷◌, cond, nat_eq, ⊤}
use Rattle.kl_value.specs.declared.Value.{Value, Value-F, fold-Value}
use Rattle.kl_outcome.specs.Outcome.{Name}
use Rattle.kl_core.specs.Trees.{Tree, Var, Const, Source, Rec, Proj, Inj, Case, Make, Union, Ext, If, Let, Prim, Trees, no_trees}
use Rattle.kl_core.specs.Trees.{trees, Parts, no_parts, parts, Arms, no_arms, rest, arm}
use Rattle.kl_core.specs.Positions.{occurs_in}

-- A variable, or projections of one.
abbrev pub IsPath : Tree → Type 0
IsPath (Var x) = ⊤
IsPath (Proj l a) = IsPath a
IsPath _ = ⊥

-- A path, a constant or a source: nothing is lost where it is evaluated once more.
abbrev pub IsCheap : Tree → Type 0
IsCheap (Const v) = ⊤
IsCheap (Source i) = ⊤
IsCheap t = IsPath t

-- How often a position is used. A use in the body of a loop counts twice, since the body may be evaluated more than
-- once.
abbrev mutual
  pub uses_in : ℕ → Tree → ℕ
  uses_in n (Var x) = cond (nat_eq x n) 1 0
  uses_in n (Const v) = 0
  uses_in n (Source i) = 0
  uses_in n (Rec ps) = uses_parts n ps
  uses_in n (Proj l a) = uses_in n a
  uses_in n (Inj l a) = uses_in n a
  uses_in n (Case a bs) = uses_in n a + uses_arms n bs
  uses_in n (Make k ts) = uses_trees n ts
  uses_in n (Union a b) = uses_in n a + uses_in n b
  uses_in n (Ext k b s) = 2 * uses_in (n + 1) b + uses_in n s
  uses_in n (If a b c) = uses_in n a + (uses_in n b + uses_in n c)
  uses_in n (Let a b) = uses_in n a + uses_in (n + 1) b
  uses_in n (Prim c ts) = uses_trees n ts

  pub uses_trees : ℕ → Trees → ℕ
  uses_trees n no_trees = 0
  uses_trees n (trees t ts) = uses_in n t + uses_trees n ts

  pub uses_parts : ℕ → Parts → ℕ
  uses_parts n no_parts = 0
  uses_parts n (parts l t ps) = uses_in n t + uses_parts n ps

  pub uses_arms : ℕ → Arms → ℕ
  uses_arms n no_arms = 0
  uses_arms n (rest c) = uses_in n c
  uses_arms n (arm l b bs) = uses_in (n + 1) b + uses_arms n bs

-- The nearest free position of c is nearer than each of d. A term without free positions has none that is nearer.
abbrev pub IsFarther : Tree → Tree → Type 0
IsFarther d c = (n : ℕ) × (occurs_in n c ≡ true) × ((m : ℕ) → occurs_in m d ≡ true → n < m)

-- no variant and no empty collection in it: the value has one type
abbrev pub all_plain : List Bool → Bool
all_plain [] = true
all_plain (b ∷ bs) = b && all_plain bs

abbrev pub fields_plain : List (Name × Bool) → Bool
fields_plain [] = true
fields_plain (f ∷ fs) = f.1 && fields_plain fs

abbrev pub some_plain : List Bool → Bool
some_plain [] = false
some_plain (b ∷ bs) = b && all_plain bs

abbrev pub plain_layer : Value-F Bool → Bool
plain_layer (Value-F.Rec fs) = fields_plain fs
plain_layer (Value-F.Inj l b) = false
plain_layer (Value-F.Set bs) = some_plain bs
plain_layer (Value-F.Bag bs) = some_plain bs
plain_layer (Value-F.List bs) = some_plain bs
plain_layer _ = true

unfoldable pub plain_value : Value → Bool
plain_value = fold-Value Bool plain_layer

-- no variant and no empty collection in it, nor in its constants: the term has one type
abbrev mutual
  pub plain_in : Tree → Bool
  plain_in (Var x) = true
  plain_in (Const v) = plain_value v
  plain_in (Source i) = true
  plain_in (Rec ps) = plain_parts ps
  plain_in (Proj l a) = plain_in a
  plain_in (Inj l a) = false
  plain_in (Case a bs) = plain_in a && plain_arms bs
  plain_in (Make k no_trees) = false
  plain_in (Make k (trees t ts)) = plain_in t && plain_trees ts
  plain_in (Union a b) = plain_in a && plain_in b
  plain_in (Ext k b s) = plain_in b && plain_in s
  plain_in (If a b c) = plain_in a && (plain_in b && plain_in c)
  plain_in (Let a b) = plain_in a && plain_in b
  plain_in (Prim c ts) = plain_trees ts

  pub plain_trees : Trees → Bool
  plain_trees no_trees = true
  plain_trees (trees t ts) = plain_in t && plain_trees ts

  pub plain_parts : Parts → Bool
  plain_parts no_parts = true
  plain_parts (parts l t ps) = plain_in t && plain_parts ps

  pub plain_arms : Arms → Bool
  plain_arms no_arms = true
  plain_arms (rest c) = plain_in c
  plain_arms (arm l b bs) = plain_in b && plain_arms bs
