-- The table of primitives, looked up by name.
use Rattle.std.proofs.Common.{◌≡◌, ◌≢◌, ℕ, zero, suc, ◌<◌, Bool, true, false, List, [], ◌∷◌, map, length, get_or, find, Option, Some, None, cond, All, nat_eq, refl, sym, ap, subst, ◌∙◌, arith, bytes_eq}
use Rattle.std.proofs.lemmas.Slice.Eq.{bytes_eq-Decides}
use Rattle.std.specs.Cmp.Lexicographic.{pointwise}
use Rattle.std.specs.List.{IsDistinct, AllByRecursion, Contains}
use Rattle.std.specs.Option.{option_map}
use Rattle.kl_prim.specs.declared.rows.PrimRow.{PrimRow}
use Rattle.kl_prim.specs.Table.{entry_of, rows}
use Rattle.kl_scope.specs.Senses.{Name, entry_named}

abbrev pub has_name : Name → PrimRow → Bool
has_name x r = bytes_eq r.name.now x

found_entries : (x : Name) (rs : List PrimRow) → find (λ e. bytes_eq e.name x) (map entry_of rs) ≡ option_map entry_of (find (has_name x) rs)
found_entries x [] = refl
found_entries x (r ∷ rs) = step (bytes_eq r.name.now x) (found_entries x rs)
  where
    step : (b : Bool) → find (λ e. bytes_eq e.name x) (map entry_of rs) ≡ option_map entry_of (find (has_name x) rs)
        → cond b (Some (entry_of r)) (find (λ e. bytes_eq e.name x) (map entry_of rs)) ≡ option_map entry_of (cond b (Some r) (find (has_name x) rs))
    step true h = refl
    step false h = h

entry_is : (x : Name) (rs : List PrimRow) → map entry_of rs ≡ map (λ r. r.entry) rows → entry_named x ≡ option_map entry_of (find (has_name x) rs)
entry_is x rs e = ap (find (λ e. bytes_eq e.name x)) (sym e) ∙ found_entries x rs

find_step : (b : Bool) (r : PrimRow) (o : Option PrimRow) → b ≡ false → cond b (Some r) o ≡ o
find_step b r o h = rw h refl

apart : (a x : Name) → a ≢ x → bytes_eq a x ≡ false
apart a x h = go (bytes_eq a x) (bytes_eq-Decides a x).0
  where
    go : (b : Bool) → (b ≡ true → a ≡ x) → b ≡ false
    go true f = absurd (h (f refl))
    go false f = refl

none_found : (x : Name) (rs : List PrimRow) → All (λ r. r.name.now ≢ x) rs → find (has_name x) rs ≡ None
none_found x [] h = refl
none_found x (r ∷ rs) h =
    find_step (bytes_eq r.name.now x) r (find (has_name x) rs) (apart r.name.now x (h 0 r (omega arith))) ∙ none_found x rs (λ k d lt. h (suc k) d (omega arith))

apart_at : (a : Name) (rs : List PrimRow) (k : ℕ) (r : PrimRow) → AllByRecursion (λ y. bytes_eq a y ≡ false) (map (λ r. r.name.now) rs) → k < length rs → get_or rs k r ≡ r → bytes_eq a r.name.now ≡ false
apart_at a [] k r h lt e = absurd (omega arith)
apart_at a (s ∷ rs) zero r h lt e = subst (λ (z : PrimRow). bytes_eq a z.name.now ≡ false) e h.0
apart_at a (s ∷ rs) (suc k) r h lt e = apart_at a rs k r h.1 (omega arith) e

one_found : (x : Name) (rs : List PrimRow) (k : ℕ) (r : PrimRow) → IsDistinct (pointwise nat_eq) (map (λ r. r.name.now) rs) → k < length rs → get_or rs k r ≡ r → r.name.now ≡ x → find (has_name x) rs ≡ Some r
unfolding IsDistinct
one_found x [] k r d lt e n = absurd (omega arith)
one_found x (s ∷ rs) zero r d lt e n = rw (e, (bytes_eq-Decides r.name.now x).1 n) refl
one_found x (s ∷ rs) (suc k) r d lt e n =
    find_step (bytes_eq s.name.now x) s (find (has_name x) rs) (ap (bytes_eq s.name.now) (sym n) ∙ apart_at s.name.now rs k r d.0 (omega arith) e) ∙ one_found x rs k r d.1 (omega arith) e n

pub no_entry : (x : Name) (rs : List PrimRow) → map entry_of rs ≡ map (λ r. r.entry) rows → All (λ r. r.name.now ≢ x) rs → entry_named x ≡ None
no_entry x rs e h = entry_is x rs e ∙ ap (option_map entry_of) (none_found x rs h)

pub an_entry : (x : Name) (rs : List PrimRow) (r : PrimRow) → map entry_of rs ≡ map (λ r. r.entry) rows → IsDistinct (pointwise nat_eq) (map (λ r. r.name.now) rs) → Contains rs r → r.name.now ≡ x → entry_named x ≡ Some (entry_of r)
an_entry x rs r e d h n = entry_is x rs e ∙ ap (option_map entry_of) (one_found x rs h.0 r d h.1 h.2 n)
