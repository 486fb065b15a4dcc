-- What the function that finds the items of a file is, by the grammar.
use Rattle.std.proofs.Common.{◌≡◌, ℕ, zero, suc, ◌+◌, ◌-◌, ◌<◌, nat_le, Bool, true, false, cond, List, [], ◌∷◌, ◌++◌, length, take, refl, sym, ap, subst, ◌∙◌, arith, append_assoc, length-append, drop, take-append-drop}
use Rattle.std.specs.List.{list_all}
use Rattle.kl_exchange.specs.FileItems.{Items, WholeText, BadAt, EndsIn, Shows, reading}
use Rattle.kl_exchange.specs.Found.{FileItem, Found, end_of, next_found, found_from, file_items, Placed, values_of, IsFound}
use Rattle.kl_exchange.specs.Grammar.{is_blank}
use Rattle.kl_exchange.specs.Machine.{Run, run, more, ends, fails, deep, start}
use Rattle.kl_exchange.specs.Reading.{IsBad, IsDeep}
use Rattle.kl_exchange.specs.declared.machine.Machine.{Machine}
use Rattle.kl_exchange.proofs.FileReading.{item_size}
use Rattle.kl_exchange.proofs.Reading.{ends_item, needs_more, bad_at_end, bad_there, deep_there, fails_begun, deep_begun, blank_from}

-- from a place on
abbrev From : Bool → ℕ → List ℕ → Found → Type 0
From whole place left f = (read : List ℕ) × (rest : List ℕ) × (p : ℕ) × (left ≡ read ++ rest) × (p ≡ place + length read) × Placed place read f.items × EndsIn p rest whole f.behind

at_end : (whole : Bool) (place : ℕ) (left : List ℕ) (m : Machine) → run 256 left start ≡ more m → EndsIn place left whole (end_of whole place left)
at_end false place left m e = let w = needs_more left m e (reading place left false) refl refl refl in (refl, (w.more, w.v, w.proper, w.begun))
at_end true place left m e = by (list_all is_blank left) refl
  where
    by : (b : Bool) → list_all is_blank left ≡ b → EndsIn place left true (cond b WholeText (BadAt (place + length left)))
    by true h = (refl, blank_from left h)
    by false h = (length left, refl, bad_at_end left m e (reading place left true) refl refl h)

found_is : (n : ℕ) (whole : Bool) (place : ℕ) (left : List ℕ) → length left < n → From whole place left (found_from n whole place left)
found_is zero whole place left lt = absurd (omega arith)
found_is (suc n) whole place left lt = by (run 256 left start) refl (λ p rest l. found_is n whole p rest l)
  where
    by : (o : Run) → run 256 left start ≡ o → ((p : ℕ) (rest : List ℕ) → length rest < n → From whole p rest (found_from n whole p rest)) → From whole place left (next_found whole place left (found_from n whole) o)
    by (more m) e go = ([], left, place, refl, omega arith, refl, at_end whole place left m e)
    by (fails rest) e go =
        let (front, b, others, m, is, first, met, stop) = fails_begun left rest e in
        let size : length left ≡ length front + length rest = ap length is ∙ length-append front rest in
        let there : IsBad (reading place left whole) (length front) = bad_there (reading place left whole) front b others m (is ∙ ap (λ bs. front ++ bs) first) met stop in
        let k : length front ≡ length left - length rest = omega arith in
        ([], left, place, refl, omega arith, refl, (length left - length rest, refl, subst (IsBad (reading place left whole)) k there))
    by (deep rest) e go =
        let (front, b, others, m, is, first, met, sound, stop) = deep_begun left rest e in
        let size : length left ≡ length front + length rest = ap length is ∙ length-append front rest in
        let there : IsDeep (reading place left whole) (length front) = deep_there (reading place left whole) front b others m (is ∙ ap (λ bs. front ++ bs) first) met sound stop in
        let k : length front ≡ length left - length rest = omega arith in
        ([], left, place, refl, omega arith, refl, (length left - length rest, refl, subst (IsDeep (reading place left whole)) k there))
    by (ends v rest) e go =
        let (item, is, spells) = ends_item 256 left rest v e in
        let some = item_size item v spells in
        let size : length left ≡ length item + length rest = ap length is ∙ length-append item rest in
        let (read, behind, p, split, at, placed, end) = go (place + (length left - length rest)) rest (omega arith) in
        let same : place + (length left - length rest) ≡ place + length item = omega arith in
        let long : length (item ++ read) ≡ length item + length read = length-append item read in (
          item ++ read,
          behind,
          p,
          is ∙ ap (λ bs. item ++ bs) split ∙ sym (append_assoc item read behind),
          omega arith,
          (item, read, refl, refl, spells, subst (λ q. Placed q read (found_from n whole (place + (length left - length rest)) rest).items) same placed),
          end,
        )

pub is_found : (limit : ℕ) (bytes : List ℕ) → IsFound limit bytes (file_items limit bytes)
unfolding file_items
is_found limit bytes =
    let (read, left, p, split, at, placed, end) = found_is (suc (length bytes)) (nat_le (length bytes) limit) 0 (take limit bytes) (let k : length (take limit bytes ++ drop limit bytes) ≡ length bytes = ap length (take-append-drop limit bytes) in let l : length (take limit bytes ++ drop limit bytes) ≡ length (take limit bytes) + length (drop limit bytes) = length-append (take limit bytes) (drop limit bytes) in omega arith) in
    let same : p ≡ length read = omega arith in
    record { read = read; left = left; seen = split; items = placed; ends = subst (λ q. EndsIn q left (nat_le (length bytes) limit) (found_from (suc (length bytes)) (nat_le (length bytes) limit) 0 (take limit bytes)).behind) same end }

items_of : (place : ℕ) (bytes : List ℕ) (xs : List FileItem) → Placed place bytes xs → Items bytes (values_of xs)
items_of place bytes [] h = h
items_of place bytes (x ∷ xs) (item, rest, is, at, spells, others) = (item, rest, is, spells, items_of (place + length item) rest xs others)

-- it shows these items
pub found_shows : (limit : ℕ) (bytes : List ℕ) (f : Found) → IsFound limit bytes f → Shows limit bytes (values_of f.items) f.behind
found_shows limit bytes f h = record { read = h.read; left = h.left; seen = h.seen; items = items_of 0 h.read f.items h.items; ends = h.ends }
