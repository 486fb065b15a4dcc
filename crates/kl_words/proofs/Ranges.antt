-- A number that is given is within its range, since clap took it.
use Rattle.std.proofs.Common.{◌≡◌, ◌∙◌, ◌<◌, ◌≤◌, ◌^◌, ℕ, zero, suc, Bool, true, false, List, [], ◌∷◌, Option, Some, None, Ok, Err, length, map, refl, sym, ap, subst, codes, inl, inr, not, arith, true≢false}
use Rattle.std.specs.Prelude.{⊤, ◌==◌, Result, IfOk, IfSome, pos, option_and_then, option_map, slice_get, unwrap_or}
use Rattle.std.specs.Borrow.{Bor}
use Rattle.std.specs.List.{All, slice_index_or}
use Rattle.std.specs.Str.{bytes_eq}
use Rattle.std.specs.Str.Parse.{ParsesUnsigned}
use Rattle.std.proofs.lemmas.Bool.{cases_lt, eqb-true}
use Rattle.std.proofs.lemmas.Slice.Eq.{bytes_eq-Decides}
use Rattle.clap.specs.Facts.{Entry, EntryPasses, EntryValuesPass, PassesArg, ReadsByParser, args_of, groups_of, parser_of_value}
use Rattle.clap.specs.Values.{Accepts, IsSignedIn, read_as, reading_of}
use Rattle.clap.specs.Built.{IsAuto}
use Rattle.clap.specs.Walk.{rule_of}
use Rattle.clap.specs.Words.{App, Rule, Text, IsParsedFrom, SameRules, app_of, found_of, matched_of, rows_of, without_minus}
use Rattle.clap.specs.declared.ArgMatches.{ArgMatches}
use Rattle.clap.specs.declared.builder.arg.Arg.{Arg}
use Rattle.clap.specs.declared.builder.command.Command.{Command}
use Rattle.clap.specs.declared.builder.command.Command.TheViews.{out-Command}
use Rattle.clap.specs.declared.builder.value_parser.ValueParser.TheVariants as parser
use Rattle.clap.specs.declared.builder.value_parser.Reading.TheVariants.{WithoutMinus}
use Rattle.clap.specs.declared.parser.matches.MatchedArg.{MatchedArg}
use Rattle.clap.proofs.CallerLemmas.{entry_by_id}
use Rattle.clap.proofs.CallerReads.{signed_reads}
use Rattle.clap.proofs.WalkLemmas.{both, one_text-rows}
use Rattle.kl_ask.specs.declared.settings.JoinHow.{JoinHow}
use Rattle.kl_words.specs.declared.command.Job.{Job}
use Rattle.kl_words.specs.declared.command.WordsError.{WordsError}
use Rattle.kl_words.specs.Lines.{gen_line, job_line, program_line}
use Rattle.kl_words.specs.Commands.{AnswersWanted, AreInRange, job_by, job_of, join_of, number_of, number_told, numbers_of, settings_of}
use Rattle.kl_words.proofs.Reading.{told_reads}

-- ---- the one rule of an id

Each : {X : Type 0} → (X → Type 0) → List X → Type 0
Each P [] = ⊤
Each P (x ∷ xs) = P x × Each P xs

each_at : {X : Type 0} (P : X → Type 0) (xs : List X) → Each P xs → (k : ℕ) (d : X) → k < length xs → P (slice_index_or xs k d)
unfolding Each
each_at P [] h k d lt = absurd (omega arith)
each_at P (x ∷ xs) h zero d lt = h.0
each_at P (x ∷ xs) h (suc k) d lt = each_at P xs h.1 k d (omega arith)

map_at : (xs : List Arg) (k : ℕ) (d : Arg) → slice_index_or (map rule_of xs) k (rule_of d) ≡ rule_of (slice_index_or xs k d)
map_at [] k d = refl
map_at (x ∷ xs) zero d = refl
map_at (x ∷ xs) (suc k) d = map_at xs k d

map_length : (xs : List Arg) → length (map rule_of xs) ≡ length xs
map_length [] = refl
map_length (x ∷ xs) = ap suc (map_length xs)

-- the arguments with this id take numbers in these bounds
TakesOne : Text → ℕ → ℕ → Rule → Type 0
TakesOne id low high r = bytes_eq r.id id ≡ true → r.parser ≡ Some (parser.Signed (pos low) (pos high))

no : {X : Type 0} → false ≡ true → X
no e = absurd (true≢false (sym e))

takes_block : (name : Text) → Each (TakesOne (codes "block") 1 65536) (job_line name).top.rules
unfolding Each TakesOne job_line program_line
takes_block name = (no, (no, (λ e. refl, (no, (no, (no, (no, (no, (no, (no, tt))))))))))

takes_fetch : (name : Text) → Each (TakesOne (codes "fetch") 1 4096) (job_line name).top.rules
unfolding Each TakesOne job_line program_line
takes_fetch name = (no, (no, (no, (λ e. refl, (no, (no, (no, (no, (no, (no, tt))))))))))

takes_cache : (name : Text) → Each (TakesOne (codes "cache") 0 4096) (job_line name).top.rules
unfolding Each TakesOne job_line program_line
takes_cache name = (no, (no, (no, (no, (λ e. refl, (no, (no, (no, (no, (no, tt))))))))))

job_plain : (name : Text) → (job_line name).top.is_plain ≡ true
unfolding job_line program_line
job_plain name = refl

all_simple : (name : Text) → Each (λ r. r.is_simple ≡ true) (job_line name).top.rules
unfolding Each job_line program_line
all_simple name = (refl, (refl, (refl, (refl, (refl, (refl, (refl, (refl, (refl, (refl, tt))))))))))

takes_size : Each (TakesOne (codes "size") 0 1000000) gen_line.top.rules
unfolding Each TakesOne gen_line
takes_size = (no, (λ e. refl, tt))

gen_plain : gen_line.top.is_plain ≡ true
unfolding gen_line
gen_plain = refl

gen_simple : Each (λ r. r.is_simple ≡ true) gen_line.top.rules
unfolding Each gen_line
gen_simple = (refl, (refl, tt))

-- what holds of each rule of a command holds of each argument
of_args : (P : Rule → Type 0) (line : Command) → Each P (app_of line).top.rules → (k : ℕ) (d : Arg) → k < length (args_of line)
    → P (rule_of (slice_index_or (args_of line) k d))
of_args P line h k d lt =
    let here : k < length (map rule_of (args_of line)) = rw (map_length (args_of line)) lt in
    subst P (map_at (args_of line) k d) (each_at P (map rule_of (args_of line)) h k (rule_of d) here)

-- ---- the built command

empty : {X : Type 0} (xs : List X) → (length xs == 0) ≡ true → xs ≡ []
empty [] e = refl
empty (x ∷ xs) e = let none : length (x ∷ xs) ≡ 0 = eqb-true _ _ e in absurd (omega arith)

-- what is known of the command and of an option that it has
record Knows (line : Command) (id : Text) (low high : ℕ) : Type 0 where
  takes : Each (TakesOne id low high) (app_of line).top.rules
  simple : Each (λ r. r.is_simple ≡ true) (app_of line).top.rules
  plain : (app_of line).top.is_plain ≡ true
  no_help : bytes_eq (codes "help") id ≡ false
  no_version : bytes_eq (codes "version") id ≡ false
  is_named : id ≡ [] → ⊥

no_globals : (line : Command) → (app_of line).top.is_plain ≡ true → (out-Command line).has_globals ≡ false
no_globals line e =
    let none : not (out-Command line).has_globals ≡ true = (both _ _ (both _ _ (both _ _ e).1).1).0 in
    go (out-Command line).has_globals none
  where
    go : (b : Bool) → not b ≡ true → b ≡ false
    go false h = refl
    go true h = no h

no_groups : (line : Command) (m : ArgMatches) (p : IsParsedFrom line m) → (app_of line).top.is_plain ≡ true
    → Each (λ r. r.is_simple ≡ true) (app_of line).top.rules → groups_of p.built ≡ []
no_groups line m p plain simple =
    let names_none = λ (k : ℕ) (d : Arg) (lt : k < length (args_of line)).
    empty (slice_index_or (args_of line) k d).groups.items
    (both _ _ (both _ _ (both _ _ (of_args (λ r. r.is_simple ≡ true) line simple k d lt)).1).1).0 in
    (p.from.same_groups names_none).1 ∙ empty (groups_of line) (both _ _ plain).0

parser_here : (line : Command) (m : ArgMatches) (p : IsParsedFrom line m) (id : Text) (low high : ℕ) → Knows line id low high
    → (j : ℕ) (x : Arg) → j < length (args_of p.built) → slice_index_or (args_of p.built) j x ≡ x → bytes_eq x.id.now id ≡ true
    → x.value_parser ≡ Some (parser.Signed (pos low) (pos high))
unfolding TakesOne
parser_here line m p id low high known j x inside at same = elim (cases_lt j (length (args_of line))) [
  | inl under ↦
      let s = subst (λ w. SameRules (slice_index_or (args_of line) j x) w) at (p.from.kept j x under).1 in
      let own : bytes_eq (slice_index_or (args_of line) j x).id.now id ≡ true = rw (← s.id) same in
      s.parser _ (of_args (TakesOne id low high) line known.takes j x under own)
  | inr over ↦ elim (subst IsAuto at (p.from.extra j x over inside)) [
    | inl h ↦ let bad : bytes_eq (codes "help") id ≡ true = rw h at same in no (sym known.no_help ∙ bad)
    | inr h ↦ let bad : bytes_eq (codes "version") id ≡ true = rw h at same in no (sym known.no_version ∙ bad)
  ]
]

-- ---- the values that were read

first_passes : (P : Bor Text → Type 0) (vs : List (Bor Text)) (v : Bor Text) → All P vs → slice_get vs 0 ≡ Some v → P v
first_passes P [] v h e = cc
first_passes P (x ∷ xs) v h e =
    let same : x ≡ v = ap (λ (o : Option (Bor Text)). unwrap_or o x) e in
    subst P same (h 0 x (omega arith))

-- an entry of this id is no group's, its first value is in the bounds, and it is read without a minus
entry_value : (line : Command) (m : ArgMatches) (p : IsParsedFrom line m) (id : Text) (low high : ℕ) → Knows line id low high
    → (e : Entry) → e.0.now ≡ id → EntryPasses p.built e → (v : Bor Text) → slice_get e.1.vals.items 0 ≡ Some v
    → IsSignedIn (pos low) (pos high) v.now × (e.1.reading ≡ WithoutMinus)
entry_value line m p id low high known e key passes v first = (passed passes.0, read passes.4)
  where
    single : e.1.is_group ≡ true → ⊥
    single g = elim (passes.3 g) [
      | inl none ↦ known.is_named (sym key ∙ none)
      | inr has ↦
          let bad : 0 < 0 = rw (no_groups line m p known.plain known.simple) at has in
          omega arith
    ]

    passed : EntryValuesPass p.built e → IsSignedIn (pos low) (pos high) v.now
    passed (inl g) = absurd (single g)
    passed (inr all) =
        let any = first_passes (λ w. PassesArg p.built e.0.now w.now) e.1.vals.items v all first in
        let own = parser_here line m p id low high known any.0 any.1 any.2 any.3 (subst (λ (w : List ℕ). bytes_eq any.1.id.now w ≡ true) key any.4.0) in
        subst (λ q. Accepts any.1.ignore_case (parser_of_value q) v.now) own any.4.1

    read : ReadsByParser p.built e → e.1.reading ≡ WithoutMinus
    read (inl g) = absurd (single g)
    read (inr any) =
        let own = parser_here line m p id low high known any.0 any.1 any.2 any.3 (subst (λ (w : List ℕ). bytes_eq any.1.id.now w ≡ true) key any.4.0) in
        sym (subst (λ q. reading_of (parser_of_value q) ≡ e.1.reading) own any.4.1)

-- a number that is told is in the bounds
told_in : (low high : ℕ) (t v : Text) → high < 2 ^ 32 → t ≡ without_minus v → IsSignedIn (pos low) (pos high) v
    → IfSome (number_told t) (λ n. (low ≤ n) × (n ≤ high))
told_in low high t v fits is signed =
    let got = signed_reads ℕ (λ u x. ParsesUnsigned 32 10 u x) 32 low high v (number_told (without_minus v))
    (told_reads (without_minus v)) (λ u x g. g) fits signed in
    subst (λ w. IfSome (number_told w) (λ n. (low ≤ n) × (n ≤ high))) (sym is)
    (subst (λ o. IfSome o (λ n. (low ≤ n) × (n ≤ high))) (sym got.1) (got.2, got.3))

number_in : (line : Command) (m : ArgMatches) (p : IsParsedFrom line m) (id : Text) (low high : ℕ) → Knows line id low high
    → high < 2 ^ 32 → IfSome (number_of id (rows_of (found_of m))) (λ n. (low ≤ n) × (n ≤ high))
number_in line m p id low high known fits =
    subst (λ o. IfSome (option_and_then number_told o) (λ n. (low ≤ n) × (n ≤ high))) (one_text-rows (found_of m) id)
    (at (matched_of (found_of m) id) refl)
  where
    value : (a : MatchedArg) → matched_of (found_of m) id ≡ Some a → (w : Option (Bor Text)) → slice_get a.vals.items 0 ≡ w
        → IfSome (option_and_then number_told (option_map (λ s. read_as a.reading s.now) w)) (λ n. (low ≤ n) × (n ≤ high))
    value a is None first = tt
    value a is (Some v) first =
        let parsed = p.parsed (p.from.globals ∙ no_globals line known.plain) in
        let got = entry_by_id (EntryPasses p.built) (found_of m).entries.items id a parsed.values is in
        let key : got.0.0.now ≡ id = (bytes_eq-Decides got.0.0.now id).0 got.2 in
        let here : slice_get got.0.1.vals.items 0 ≡ Some v = rw got.1 first in
        let passes = entry_value line m p id low high known got.0 key got.3 v here in
        let how : a.reading ≡ WithoutMinus = rw (← got.1) passes.1 in
        told_in low high (read_as a.reading v.now) v.now fits (ap (λ r. read_as r v.now) how) passes.0

    at : (o : Option MatchedArg) → matched_of (found_of m) id ≡ o
        → IfSome (option_and_then number_told (option_and_then (λ a. option_map (λ s. read_as a.reading s.now) (slice_get a.vals.items 0)) (matched_of (found_of m) id)))
        (λ n. (low ≤ n) × (n ≤ high))
    at None is = rw is tt
    at (Some a) is = rw is (value a is (slice_get a.vals.items 0) refl)

-- ---- the settings

kept : (o : Option ℕ) (least most default : ℕ) → IfSome o (λ n. (least ≤ n) × (n ≤ most)) → least ≤ default → default ≤ most
    → (least ≤ unwrap_or o default) × (unwrap_or o default ≤ most)
kept None least most default h low high = (low, high)
kept (Some n) least most default h low high = h

known : (line : Command) (a : App) (id : Text) (low high : ℕ) → app_of line ≡ a → Each (TakesOne id low high) a.top.rules
    → Each (λ r. r.is_simple ≡ true) a.top.rules → a.top.is_plain ≡ true
    → bytes_eq (codes "help") id ≡ false → bytes_eq (codes "version") id ≡ false → (id ≡ [] → ⊥) → Knows line id low high
known line a id low high is takes simple plain help version name = record {
  takes = subst (λ (a : App). Each (TakesOne id low high) a.top.rules) (sym is) takes;
  simple = subst (λ (a : App). Each (λ r. r.is_simple ≡ true) a.top.rules) (sym is) simple;
  plain = subst (λ (a : App). a.top.is_plain ≡ true) (sym is) plain;
  no_help = help;
  no_version = version;
  is_named = name;
}

settings_in : (name : Text) (line : Command) (m : ArgMatches) (how : JoinHow) → app_of line ≡ job_line name → IsParsedFrom line m
    → AreInRange (settings_of (rows_of (found_of m)) how)
settings_in name line m how is p = record {
  block = kept _ 1 65536 256 (number_in line m p (codes "block") 1 65536 (known line (job_line name) (codes "block") 1 65536 is (takes_block name) (all_simple name) (job_plain name) refl refl (λ e. cc)) (omega arith)) (omega arith) (omega arith);
  fetch = kept _ 1 4096 64 (number_in line m p (codes "fetch") 1 4096 (known line (job_line name) (codes "fetch") 1 4096 is (takes_fetch name) (all_simple name) (job_plain name) refl refl (λ e. cc)) (omega arith)) (omega arith) (omega arith);
  cache = (kept _ 0 4096 64 (number_in line m p (codes "cache") 0 4096 (known line (job_line name) (codes "cache") 0 4096 is (takes_cache name) (all_simple name) (job_plain name) refl refl (λ e. cc)) (omega arith)) (omega arith) (omega arith)).1;
}

pub job_in : (name : Text) (line : Command) (m : ArgMatches) (r : Result Job WordsError) → app_of line ≡ job_line name → IsParsedFrom line m
    → AnswersWanted (job_of (rows_of (found_of m))) r → IfOk r (λ j. AreInRange j.settings)
job_in name line m (Err e) is p h = tt
job_in name line m (Ok j) is p h = go (join_of (rows_of (found_of m))) h
  where
    go : (o : Option JoinHow) → option_map (job_by (rows_of (found_of m))) o ≡ Some j → AreInRange j.settings
    go None e = cc
    go (Some how) e =
        let same : job_by (rows_of (found_of m)) how ≡ j = ap (λ (o : Option Job). unwrap_or o j) e in
        subst (λ (x : Job). AreInRange x.settings) same (settings_in name line m how is p)

-- ---- the number of rows

pub size_in : (line : Command) (m : ArgMatches) (r : Result (ℕ × ℕ) WordsError) → app_of line ≡ gen_line → IsParsedFrom line m
    → AnswersWanted (numbers_of (rows_of (found_of m))) r → IfOk r (λ n. n.1 ≤ 1000000)
size_in line m (Err e) is p h = tt
size_in line m (Ok n) is p h =
    go (number_of (codes "seed") (rows_of (found_of m))) (number_of (codes "size") (rows_of (found_of m)))
    (number_in line m p (codes "size") 0 1000000 (known line gen_line (codes "size") 0 1000000 is takes_size gen_simple gen_plain refl refl (λ e. cc)) (omega arith)) h
  where
    go : (seed size : Option ℕ) → IfSome size (λ k. (0 ≤ k) × (k ≤ 1000000)) → option_and_then (λ k. option_map (λ l. (k, l)) size) seed ≡ Some n → n.1 ≤ 1000000
    go None size most e = cc
    go (Some k) None most e = cc
    go (Some k) (Some l) most e =
        let same : l ≡ n.1 = ap (λ (o : Option (ℕ × ℕ)). (unwrap_or o n).1) e in
        omega (arith, most.1, same)
