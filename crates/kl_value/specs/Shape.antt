-- How deep a value nests.
use Rattle.std.specs.Prelude.{ℕ, ◌+◌, max, List, [], ◌∷◌}
use Rattle.kl_value.specs.declared.value.Value.{Value, Value-F, fold-Value}

-- the greatest number that f gives of an item
abbrev pub greatest : {X : Type 0} → (X → ℕ) → List X → ℕ
greatest f [] = 0
greatest f (x ∷ xs) = max (f x) (greatest f xs)

-- one level, where d gives the depth of what stands inside
abbrev pub depth_layer : {X : Type 0} → (X → ℕ) → Value-F X → ℕ
depth_layer d (Value-F.Rec fs) = 1 + greatest (λ f. d f.1) fs
depth_layer d (Value-F.Inj l v) = 1 + d v
depth_layer d (Value-F.Set vs) = 1 + greatest d vs
depth_layer d (Value-F.Bag vs) = 1 + greatest d vs
depth_layer d (Value-F.List vs) = 1 + greatest d vs
depth_layer d _ = 0

-- how many records, variants and collections stand in one another
unfoldable pub depth_of : Value → ℕ
depth_of = fold-Value ℕ (depth_layer (λ n. n))
