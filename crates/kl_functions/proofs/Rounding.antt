-- The rounds of a search, one after another.
use Rattle.std.proofs.Common.{◌≡◌, ◌<◌, ◌≤◌, ◌≢◌, true, false, not, List, length, sym, ap, ◌∙◌, subst, true≢false, arith}
use Rattle.std.proofs.lemmas.List.{length-map}
use Rattle.std.specs.Borrow.{Bor}
use Rattle.kl_outcome.specs.Outcome.{Name}
use Rattle.kl_functions.specs.declared.functions.Before.{Before}
use Rattle.kl_functions.specs.declared.occurrences.Occurrence.{Occurrence}
use Rattle.kl_ho.specs.HoPrograms.{is_among}
use Rattle.kl_functions.specs.Occurrences.{names_of}
use Rattle.kl_functions.specs.Rounds.{Facts, facts_in, is_made, still_unmade, AreMade, AreSettled}
use Rattle.kl_functions.proofs.Searching.{length_filter, kept_all, known_still, closed_now}

pub made_first : (before : Before) (found : List Occurrence) (xs : List (Bor Name)) (cs : List Name) → names_of xs ≡ cs → AreMade (facts_in before found xs) cs
made_first before found xs cs e = λ of x i n. absurd (true≢false (sym i ∙ ap (λ z. is_among x z) (sym e) ∙ n))

module _ (before : Before) (found : List Occurrence) (xs ys : List (Bor Name)) (cs : List Name) (next : names_of ys ≡ still_unmade (facts_in before found xs) (names_of xs)) where
  pub made_next : AreMade (facts_in before found xs) cs → AreMade (facts_in before found ys) cs
  made_next h = λ of x i n. known_still (facts_in before found xs) cs of (h of) x i (ap (λ z. is_among x z) (sym next) ∙ n)

  lengths : length ys ≡ length (still_unmade (facts_in before found xs) (names_of xs))
  lengths = sym (length-map ys (λ (z : Bor Name). z.now)) ∙ ap (λ zs. length zs) next

  pub settled_now : length ys ≡ length xs → AreMade (facts_in before found xs) cs → AreSettled (facts_in before found ys) cs
  settled_now long h =
      let whole : length (still_unmade (facts_in before found xs) (names_of xs)) ≡ length (names_of xs) = sym lengths ∙ long ∙ sym (length-map xs (λ (z : Bor Name). z.now)) in
      let same : names_of ys ≡ names_of xs = next ∙ kept_all (λ x. not (is_made (facts_in before found xs) x)) (names_of xs) whole in
      let facts : List Name → Facts = λ zs. record (facts_in before found xs) { unmade = zs } in
      record {
        closed = subst (λ (zs : List Name). (x : Name) → is_among x zs ≡ true → is_made (facts zs) x ≡ false) (sym same) (closed_now (facts_in before found xs) whole);
        known = made_next h;
      }

  pub fewer : length ys ≢ length xs → length ys < length xs
  fewer differ =
      let most : length (still_unmade (facts_in before found xs) (names_of xs)) ≤ length (names_of xs) = length_filter (λ x. not (is_made (facts_in before found xs) x)) (names_of xs) in
      let long : length (names_of xs) ≡ length xs = length-map xs (λ (z : Bor Name). z.now) in
      let is : length ys ≡ length (still_unmade (facts_in before found xs) (names_of xs)) = lengths in
      omega arith

-- what a slice shows
pub next_at : (before : Before) (found : List Occurrence) (zs xs ys : List (Bor Name)) → zs ≡ xs → names_of ys ≡ still_unmade (facts_in before found zs) (names_of zs) → names_of ys ≡ still_unmade (facts_in before found xs) (names_of xs)
next_at before found zs xs ys e h = subst (λ (ws : List (Bor Name)). names_of ys ≡ still_unmade (facts_in before found ws) (names_of ws)) e h
