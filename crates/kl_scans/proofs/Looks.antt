-- Events among which nothing is looked up.
use Rattle.std.proofs.Common.{◌≡◌, ℕ, List, [], ◌∷◌, length, ap, arith}
use Rattle.std.specs.Bool.{⊤}
use Rattle.std.specs.List.{AllByRecursion, Contains}
use Rattle.kl_value.specs.declared.Value.{Value}
use Rattle.kl_plan.specs.Holding.{Listing}
use Rattle.kl_plan.specs.Subqueries.{Memo, Subquery}
use Rattle.kl_scans.specs.Log.{Event, started, handed, joined, missed, hit, IsOf, Leaves}

-- no look-up, whether it finds a value or not
abbrev pub NoLook : Event → Type 0
NoLook (started c) = ⊤
NoLook (handed c n) = ⊤
NoLook (joined n way outer starts) = ⊤
NoLook (missed k v) = ⊥
NoLook (hit n frees p env) = ⊥

-- what is kept stays as it is
pub leaves_same : (room : ℕ) (es : List Event) (old new : List (Subquery × Value)) → AllByRecursion NoLook es → Leaves room es old new → new ≡ old
leaves_same room [] old new h l = l
leaves_same room (started c ∷ es) old new h l = leaves_same room es old new h.1 l
leaves_same room (handed c n ∷ es) old new h l = leaves_same room es old new h.1 l
leaves_same room (joined n way outer starts ∷ es) old new h l = leaves_same room es old new h.1 l
leaves_same room (missed k v ∷ es) old new h l = absurd h.0
leaves_same room (hit n frees p env ∷ es) old new h l = absurd h.0

none_in : (ms : List Memo) (m : Memo) → ms ≡ [] → Contains ms m → ⊥
none_in ms m is c = let empty : length ms ≡ 0 = ap length is in omega (arith, c.1)

-- where no memo is listed, nothing is looked up
pub no_looks : (all : Listing) (es : List Event) → all.memos ≡ [] → AllByRecursion (IsOf all) es → AllByRecursion NoLook es
no_looks all [] none h = tt
no_looks all (started c ∷ es) none h = (tt, no_looks all es none h.1)
no_looks all (handed c n ∷ es) none h = (tt, no_looks all es none h.1)
no_looks all (joined n way outer starts ∷ es) none h = (tt, no_looks all es none h.1)
no_looks all (missed k v ∷ es) none h = absurd (none_in all.memos _ none h.0.2)
no_looks all (hit n frees p env ∷ es) none h = absurd (none_in all.memos _ none h.0.0)
