-- The order of values.
use Rattle.std.specs.Prelude.{ℕ}
use Rattle.std.specs.declared.cmp.Ordering.{Ordering}
use Rattle.std.specs.Ordering.{nat_cmp, int_cmp, bool_cmp, ordering_then}
use Rattle.std.specs.Cmp.Lexicographic.{slice_cmp}
use Rattle.kl_base.specs.Fields.{bytes_cmp}
use Rattle.kl_value.specs.declared.value.Value.{Value, Value-F, out-Value, fold-Value}

-- where a shape stands among the shapes
abbrev pub rank : {X : Type 0} → Value-F X → ℕ
rank (Value-F.Bool b) = 0
rank (Value-F.Int n) = 1
rank (Value-F.Text t) = 2
rank (Value-F.Rec fs) = 3
rank (Value-F.Inj l v) = 4
rank (Value-F.Set vs) = 5
rank (Value-F.Bag vs) = 6
rank (Value-F.List vs) = 7

-- One level of the order, where R orders what stands inside: different shapes go by their ranks, and inside a shape
-- false is before true, integers go by value, texts by bytes, records as lists of pairs of label and value, variants by
-- label and then payload, and collections as lists.
abbrev pub order_layer : {X Y : Type 0} → (X → Y → Ordering) → Value-F X → Value-F Y → Ordering
order_layer R (Value-F.Bool a) (Value-F.Bool b) = bool_cmp a b
order_layer R (Value-F.Int m) (Value-F.Int n) = int_cmp m n
order_layer R (Value-F.Text s) (Value-F.Text t) = bytes_cmp s t
order_layer R (Value-F.Rec fs) (Value-F.Rec gs) = slice_cmp (λ f g. ordering_then (bytes_cmp f.0 g.0) (R f.1 g.1)) fs gs
order_layer R (Value-F.Inj l v) (Value-F.Inj m w) = ordering_then (bytes_cmp l m) (R v w)
order_layer R (Value-F.Set vs) (Value-F.Set ws) = slice_cmp R vs ws
order_layer R (Value-F.Bag vs) (Value-F.Bag ws) = slice_cmp R vs ws
order_layer R (Value-F.List vs) (Value-F.List ws) = slice_cmp R vs ws
order_layer R x y = nat_cmp (rank x) (rank y)

-- The order: the level above, with itself inside. `compare-out` of proofs/OrderLemmas.antt states that as an equation.
unfoldable pub compare : Value → Value → Ordering
compare = fold-Value (Value → Ordering) (λ x w. order_layer (λ f v. f v) x (out-Value w))
