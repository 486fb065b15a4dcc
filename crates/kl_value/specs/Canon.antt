-- The canonical form of a collection.
use Rattle.std.specs.Prelude.{◌≡◌, ◌↔◌, List as Items, Contains}
use Rattle.std.specs.List.{dedup}
use Rattle.std.specs.List.Sorted.{IsStrictlySortedBy}
use Rattle.std.specs.Ordering.{eq_by_cmp}
use Rattle.kl_value.specs.Order.{compare}
use Rattle.kl_base.specs.Sorted.{IsRising, count_of, sorted}
use Rattle.kl_value.specs.declared.value.Kind.{Kind}
use Rattle.kl_value.specs.declared.value.Kind.TheVariants as kind
use Rattle.kl_value.specs.declared.value.Value.{Value}
use Rattle.kl_value.specs.declared.value.Value.TheVariants as value

-- the sorted items without repeats of a set, the sorted items of a bag, and the items of a list
unfoldable pub canonical : Kind → Items Value → Value
canonical kind.Set xs = value.Set (dedup (eq_by_cmp compare) (sorted compare xs))
canonical kind.Bag xs = value.Bag (sorted compare xs)
canonical kind.List xs = value.List xs

-- The same without an algorithm: of a set any list with the same members in strictly rising order, of a bag any list
-- with as many of each value in rising order.
abbrev pub IsCanonicalOf : Kind → Items Value → Value → Type 0
IsCanonicalOf kind.Set xs v = (ys : Items Value) × (v ≡ value.Set ys) × IsStrictlySortedBy compare ys
    × ((w : Value) → Contains ys w ↔ Contains xs w)
IsCanonicalOf kind.Bag xs v = (ys : Items Value) × (v ≡ value.Bag ys) × IsRising compare ys
    × ((w : Value) → count_of compare w ys ≡ count_of compare w xs)
IsCanonicalOf kind.List xs v = v ≡ value.List xs
