-- How many rows some drivers handed.
use Rattle.std.proofs.Common.{◌≡◌, ℕ, suc, ◌+◌, ◌-◌, ◌*◌, ◌^◌, ◌<◌, ◌≤◌, List, [], ◌∷◌, ◌++◌, Some, length, map, take, get_or, slice_get, sum, Option, refl, sym, ap, subst, ◌∙◌, arith}
use Rattle.std.specs.List.{zip}
use Rattle.std.proofs.lemmas.List.{take_all, take_more, map-append}
use Rattle.std.proofs.lemmas.List.Sums.{sum_by-append, sum_by-cons}
use Rattle.kl_outcome.specs.Outcome.{Name}
use Rattle.kl_outside.specs.Sinks.{SinkState}
use Rattle.kl_ask.specs.Driver.{State}
use Rattle.kl_ask.specs.declared.settings.Trace.{Trace}
use Rattle.kl_words.specs.declared.command.Command.{Command as Read}
use Rattle.kl_words.specs.declared.command.Command.TheVariants as read
use Rattle.kl_words.specs.declared.command.Job.{Job}
use Rattle.kl_engine.specs.Answering.{KeepsDrivers}
use Rattle.kl_engine.specs.Commands.{asked, path_of, wants_stats}
use Rattle.kl_engine.specs.Faults.{Ending, TookLine}
use Rattle.kl_engine.specs.Stats.{handed_by, handed_in, told_text}

-- So far these were counted, and each count is below 2 ^ 64.
pub record Counted (ds : List State) (n now : ℕ) : Type 0 where
  pub sum : now ≡ handed_by ds
  pub most : now ≤ n * (2 ^ 64 - 1)

abbrev counts : {A : Type 0} → (A → State) → List A → List ℕ
counts f xs = map (λ d. d.handed) (map f xs)

module _ {A : Type 0} (f : A → State) (xs : List A) where
  pub counted_none : Counted (map f (take 0 xs)) 0 0
  counted_none = record { sum = refl; most = omega arith }

  more : (i : ℕ) (x : A) → i < length xs → counts f (take (i + 1) xs) ≡ counts f (take i xs) ++ (f (get_or xs i x)).handed ∷ []
  more i x less =
      ap (counts f) (take_more xs i x less)
      ∙ ap (map (λ d. d.handed)) (map-append f (take i xs) (get_or xs i x ∷ []))
      ∙ map-append (λ d. d.handed) (map f (take i xs)) (f (get_or xs i x) ∷ [])

  pub counted_more : (i : ℕ) (x : A) (now count : ℕ) (ys : List A) → ys ≡ xs → i < length ys → x ≡ get_or ys i x → count ≡ (f x).handed → count < 2 ^ 64
      → Counted (map f (take i xs)) i now → Counted (map f (take (i + 1) xs)) (i + 1) (now + count)
  counted_more i x now count ys same within at is small so =
      let less : i < length xs = subst (λ zs. i < length zs) same within in
      let there : x ≡ get_or xs i x = subst (λ zs. x ≡ get_or zs i x) same at in
      let n : ℕ = (f (get_or xs i x)).handed in
      let whole : sum (counts f (take (i + 1) xs)) ≡ sum (counts f (take i xs)) + sum (n ∷ []) = ap sum (more i x less) ∙ sum_by-append (λ y. y) (counts f (take i xs)) (n ∷ []) in
      let single : sum (n ∷ []) ≡ n + 0 = sum_by-cons (λ y. y) n [] in
      let one : count ≡ n = is ∙ ap (λ y. (f y).handed) there in
      let was = so.sum in
      let most = so.most in
      record { sum = omega (arith, was, whole, single, one); most = omega (arith, most, small) }

  pub counted_all : (i now : ℕ) (ys : List A) → ys ≡ xs → (i < length ys → ⊥) → Counted (map f (take i xs)) i now → now ≡ handed_by (map f xs)
  counted_all i now ys same past so =
      let all : length xs ≤ i = subst (λ zs. length zs ≤ i) same (omega (arith, past)) in
      so.sum ∙ ap (λ zs. handed_by (map f zs)) (take_all i xs all)

-- what all drivers handed is what each of them handed
handed_adds : (old new : List State) → length new ≡ length old → ((i : ℕ) (a b : State) → slice_get old i ≡ Some a → slice_get new i ≡ Some b → a.handed ≤ b.handed) → handed_by new ≡ handed_by old + handed_in old new
handed_adds [] [] same rise = refl
handed_adds [] (b ∷ new) same rise = absurd cc
handed_adds (a ∷ old) [] same rise = absurd cc
handed_adds (a ∷ old) (b ∷ new) same rise =
    let first : a.handed ≤ b.handed = rise 0 a b refl refl in
    let rest = handed_adds old new (omega (arith, same)) (λ i c d this that. rise (suc i) c d this that) in
    let news = sum_by-cons (λ y. y) b.handed (map (λ (d : State). d.handed) new) in
    let olds = sum_by-cons (λ y. y) a.handed (map (λ (d : State). d.handed) old) in
    let rises = sum_by-cons (λ y. y) (b.handed - a.handed) (map (λ (d : State × State). d.1.handed - d.0.handed) (zip old new)) in
    omega (arith, first, rest, news, olds, rises)

pub handed_is : (Named : Name → Type 0) (old new : List State) (before after handed : ℕ) → KeepsDrivers Named old new → before ≡ handed_by old → after ≡ handed_by new → handed ≡ after - before → handed ≡ handed_in old new
handed_is Named old new before after handed keeps was is rose =
    let adds = handed_adds old new keeps.size (λ i a b this that. (keeps.each i a b this that).keeps.handed) in
    omega (arith, adds, was, is, rose)

-- what a run tells
pub run_told : (found : Option Read) (job : Job) (path : List ℕ) (end told : Ending) (trace : Trace) (handed count : ℕ) (old new : SinkState)
    → found ≡ Some (read.Run job) → path ≡ job.program → told ≡ end → handed ≡ count
    → TookLine (told_text job.stats path end trace handed) old new → TookLine (told_text (wants_stats found) (path_of (asked found)) told trace count) old new
run_told found job path end told trace handed count old new is at same counted took =
    subst (λ o. TookLine (told_text (wants_stats o) (path_of (asked o)) told trace count) old new) (sym is)
    (subst (λ n. TookLine (told_text job.stats job.program told trace n) old new) counted
    (subst (λ e. TookLine (told_text job.stats job.program e trace handed) old new) (sym same)
    (subst (λ p. TookLine (told_text job.stats p end trace handed) old new) at took)))
