-- What a reader of an open file has read of it, call by call.
use Rattle.std.proofs.Common.{◌≡◌, ◌⊎◌, inl, inr, ℕ, zero, suc, ◌+◌, ◌-◌, ◌<◌, ◌≤◌, nat_le, Bool, true, false, IsTrue, List, [], ◌∷◌, ◌++◌, length, take, drop, Option, Some, None, refl, sym, ap, subst, ◌∙◌, arith, append_assoc, append-nil, length-append, length-take, length-drop, take-append-drop}
use Rattle.std.proofs.Math.Seq.{take-append-add}
use Rattle.std.proofs.lemmas.Bool.{cases_lt, le-leb, lt-leb}
use Rattle.std.specs.Prelude.{codes}
use Rattle.std.proofs.lemmas.List.{append_cancel_left, drop-append-le, take-append-le}
use Rattle.std.proofs.lemmas.Option.{same_Some}
use Rattle.kl_value.specs.declared.Value.{Value}
use Rattle.kl_type.specs.declared.ground.Ty.{Ty}
use Rattle.kl_exchange.specs.FileItems.{Items, FileEnd, WholeText, BadAt, TooDeepAt, PastLimit, EndsIn as EndsInItems, Shows as ShowsItems}
use Rattle.kl_exchange.specs.FileReading.{FileReading, Left, Remains, IsFetched, HasRead as HasReadItems, EndsSo as EndsSoItems}
use Rattle.kl_exchange.specs.Grammar.{IsItem}
use Rattle.kl_exchange.specs.Reading.{nesting}
use Rattle.kl_heads.specs.FileReading.{HeadedFile, HasOpened, HasRead, Behind, EndsSo, IsMet, limit_of}
use Rattle.kl_heads.specs.Files.{BeginsNext, EndsIn, Shows, is_first, standing}
use Rattle.kl_heads.specs.Found.{moved}
use Rattle.kl_heads.specs.Heads.{IsHead}
use Rattle.kl_heads.specs.Reading.{IsNext, NoneNext, IsBad, IsDeep}
use Rattle.kl_heads.specs.Texts.{IsHeadless, StaysHeadless}
use Rattle.kl_exchange.proofs.FileItems.{first_items}
use Rattle.kl_heads.proofs.Items.{head_or_item}
use Rattle.kl_heads.proofs.OneEnd.{end_none, no_next_item}
use Rattle.kl_heads.proofs.Reaching.{one_head}
use Rattle.kl_heads.proofs.Headless.{head_begins, items_bad, items_deep, later_bad, later_deep, front_headless}

pub is_true : (b : Bool) → IsTrue b → b ≡ true
is_true b t = t

-- ---- before the first answer

-- what a file has left behind so many bytes
abbrev pub cut_left : ℕ → Left → Left
cut_left n (Some (Some bytes)) = Some (Some (drop n bytes))
cut_left n (Some None) = Some None
cut_left n None = None

module _ (now : HeadedFile) (left : Left) (n : ℕ) (t : Ty) (few : n ≤ length now.items.text.left) (head_is : IsHead nesting (take n now.items.text.left) t) (fresh : now.items.text.refused ≡ None) where
  abbrev cut_items : FileReading
  cut_items = record now.items { limit = now.items.limit - n; text = record now.items.text { left = drop n now.items.text.left } }

  whole_of : (first : Left) → HasReadItems first [] now.items left → (bytes : List ℕ) → first ≡ Some (Some bytes) → (more : List ℕ) × (bytes ≡ now.items.text.left ++ more)
  whole_of first has bytes known = let r = has.remains bytes known in (r.beyond ++ r.behind, r.whole ∙ ap (λ read. (read ++ now.items.text.left) ++ (r.beyond ++ r.behind)) has.items)

  behind_cut : (first : Left) → HasReadItems first [] now.items left → Behind (take n now.items.text.left) first (cut_left n first)
  behind_cut (Some (Some bytes)) has =
      let w = whole_of (Some (Some bytes)) has bytes refl in
      let front : take n bytes ≡ take n now.items.text.left = ap (take n) w.1 ∙ take-append-le n now.items.text.left w.0 few in
      (drop n bytes, sym (take-append-drop n bytes) ∙ ap (λ bs. bs ++ drop n bytes) front, refl)
  behind_cut (Some None) has = refl
  behind_cut None has = refl

  remains_cut : (first : Left) → HasReadItems first [] now.items left → (bytes : List ℕ) → cut_left n first ≡ Some (Some bytes) → Remains [] cut_items left bytes
  unfolding whole_of
  remains_cut (Some (Some whole)) has bytes is =
      let r = has.remains whole refl in
      let w = whole_of (Some (Some whole)) has whole refl in
      let same : drop n whole ≡ bytes = same_Some _ _ (same_Some _ _ is) in
      let place = has.place in
      let none : length has.read ≡ 0 = ap length has.items in
      let size : length (drop n now.items.text.left) ≡ length now.items.text.left - n = length-drop n now.items.text.left in
      record {
        beyond = r.beyond;
        behind = r.behind;
        known = r.known;
        whole = sym same ∙ (ap (drop n) w.1 ∙ drop-append-le n now.items.text.left w.0 few);
        nothing_beyond = r.nothing_beyond;
        limit_met = λ past. let met = r.limit_met past in let full = met.1 in let f = few in (met.0, omega arith);
        end_met = r.end_met;
      }
  remains_cut (Some None) has bytes is = absurd (let e : None ≡ Some bytes = same_Some _ _ is in cc)
  remains_cut None has bytes is = absurd cc

  -- the head is read
  pub opens_head : (first : Left) → HasOpened first now left → HasRead first (Some t) [] (record now { front = false; head = n; items = record now.items { limit = now.items.limit - n; text = record now.items.text { left = drop n now.items.text.left } } }) left
  opens_head first opened =
      let has = opened.items in
      let place = has.place in
      let none : length has.read ≡ 0 = ap length has.items in
      let size : length (drop n now.items.text.left) ≡ length now.items.text.left - n = length-drop n now.items.text.left in
      let within = has.within in
      let f = few in
      record {
        known = refl;
        front = take n now.items.text.left;
        states = head_is;
        size = length-take n now.items.text.left ∙ omega arith;
        headless = λ no. absurd cc;
        rest = cut_left n first;
        behind = behind_cut first has;
        items = record {
          read = [];
          items = refl;
          place = omega arith;
          within = omega arith;
          remains = remains_cut first has;
          refusal = λ e end is of. absurd (let no : None ≡ Some e = sym fresh ∙ is in cc);
        };
      }

behind_none : (first : Left) → Behind [] first first
behind_none (Some (Some bytes)) = (bytes, refl, refl)
behind_none (Some None) = refl
behind_none None = refl

-- no head comes
pub opens_items : (first : Left) (now : HeadedFile) (left : Left) → HasOpened first now left → StaysHeadless now.items.text.finished now.items.text.left
    → HasRead first None [] (record now { front = false }) left
opens_items first now left opened headless = record {
  known = refl;
  front = [];
  states = refl;
  size = sym opened.size;
  headless = λ is. headless;
  rest = first;
  behind = behind_none first;
  items = opened.items;
}

-- what is looked at of a file of which nothing was read
module _ (first : Left) (now : HeadedFile) (left : Left) (opened : HasOpened first now left) (bytes : List ℕ) (known : first ≡ Some (Some bytes)) where
  abbrev r : Remains opened.items.read now.items left bytes
  r = opened.items.remains bytes known

  abbrev room : ℕ
  room = now.items.limit - length now.items.text.left

  abbrev beyond : List ℕ
  beyond = r.beyond ++ r.behind

  within : length now.items.text.left ≤ now.items.limit
  within = let h = opened.items.within in omega arith

  is_left : bytes ≡ now.items.text.left ++ beyond
  is_left = r.whole ∙ ap (λ read. (read ++ now.items.text.left) ++ (r.beyond ++ r.behind)) opened.items.items

  same_limit : limit_of now ≡ now.items.limit
  same_limit = let none = opened.size in omega arith

  pub looked : take (limit_of now) bytes ≡ now.items.text.left ++ take room beyond
  looked =
      let w = within in
      let size : length now.items.text.left + (now.items.limit - length now.items.text.left) ≡ limit_of now = same_limit_arith w in
      ap (take (limit_of now)) is_left ∙ (ap (λ k. take k (now.items.text.left ++ beyond)) (sym size) ∙ take-append-add now.items.text.left beyond (now.items.limit - length now.items.text.left))
    where
      same_limit_arith : length now.items.text.left ≤ now.items.limit → length now.items.text.left + (now.items.limit - length now.items.text.left) ≡ limit_of now
      same_limit_arith w = let none = opened.size in omega arith

  take_none : (k : ℕ) → take {A = ℕ} k [] ≡ []
  take_none zero = refl
  take_none (suc k) = refl

  pub all_looked : now.items.text.finished ≡ true → (take room beyond ≡ []) × (nat_le (length bytes) (limit_of now) ≡ true)
  all_looked finished =
      let none : r.beyond ++ r.behind ≡ [] = r.end_met finished in
      let size : length bytes ≡ length now.items.text.left = ap length (is_left ∙ (ap (λ bs. now.items.text.left ++ bs) none ∙ append-nil now.items.text.left)) in
      let w = within in
      let l = same_limit in
      (ap (take (now.items.limit - length now.items.text.left)) none ∙ take_none (now.items.limit - length now.items.text.left), le-leb (length bytes) (limit_of now) (omega arith))

  pub in_file : length now.items.text.left ≤ length bytes
  in_file = let size : length bytes ≡ length now.items.text.left + length beyond = ap length is_left ∙ length-append now.items.text.left beyond in omega arith

  -- the limit is passed
  pub past_looked : now.items.past ≡ true → (take (limit_of now) bytes ≡ now.items.text.left) × (nat_le (length bytes) (limit_of now) ≡ false)
  past_looked past =
      let met = r.limit_met past in
      let some = met.0 in
      let full = met.1 in
      let place = opened.items.place in
      let none : length opened.items.read ≡ 0 = ap length opened.items.items in
      let no_room : now.items.limit - length now.items.text.left ≡ 0 = omega arith in
      let size : length bytes ≡ length now.items.text.left + length (r.beyond ++ r.behind) = ap length is_left ∙ length-append now.items.text.left (r.beyond ++ r.behind) in
      let others : length (r.beyond ++ r.behind) ≡ length r.beyond + length r.behind = length-append r.beyond r.behind in
      let l = same_limit in
      (looked ∙ (ap (λ k. now.items.text.left ++ take k (r.beyond ++ r.behind)) no_room ∙ append-nil now.items.text.left), lt-leb (length bytes) (limit_of now) (omega arith))

  shows_first : (end : FileEnd) → EndsIn true 0 (take (limit_of now) bytes) (nat_le (length bytes) (limit_of now)) end → Shows (limit_of now) bytes None [] end
  shows_first end ends = record { front = []; read = []; left = take (limit_of now) bytes; seen = refl; states = refl; items = refl; ends = ends }

  pub bad_first : (k : ℕ) → (k < length now.items.text.left) ⊎ (now.items.text.finished ≡ true)
      → ((behind : List ℕ) (whole : Bool) → (now.items.text.finished ≡ true → (behind ≡ []) × (whole ≡ true)) → IsBad (standing true 0 (now.items.text.left ++ behind) whole) k)
      → Shows (limit_of now) bytes None [] (BadAt k) × ((k < length bytes) ⊎ (now.items.text.finished ≡ true))
  bad_first k at bad = (
    shows_first (BadAt k) (k, omega arith, subst (λ bs. IsBad (standing true 0 bs (nat_le (length bytes) (limit_of now))) k) (sym looked) (bad (take room beyond) (nat_le (length bytes) (limit_of now)) all_looked)),
    met at,
  )
    where
      met : (k < length now.items.text.left) ⊎ (now.items.text.finished ≡ true) → (k < length bytes) ⊎ (now.items.text.finished ≡ true)
      met (inl less) = inl (let i = in_file in omega arith)
      met (inr ended) = inr ended

  pub deep_first : (k : ℕ) → k < length now.items.text.left → ((behind : List ℕ) (whole : Bool) → IsDeep (standing true 0 (now.items.text.left ++ behind) whole) k)
      → Shows (limit_of now) bytes None [] (TooDeepAt k) × ((k < length bytes) ⊎ (now.items.text.finished ≡ true))
  deep_first k at deep = (
    shows_first (TooDeepAt k) (k, omega arith, subst (λ bs. IsDeep (standing true 0 bs (nat_le (length bytes) (limit_of now))) k) (sym looked) (deep (take room beyond) (nat_le (length bytes) (limit_of now)))),
    inl (let i = in_file in omega arith),
  )

  pub past_first : now.items.past ≡ true → BeginsNext true now.items.text.left → Shows (limit_of now) bytes None [] PastLimit × (now.items.past ≡ true)
  past_first past begun = let p = past_looked past in (shows_first PastLimit (p.1, subst (BeginsNext true) (sym p.0) begun), past)

-- ---- behind the head, or where none comes

item_next : (first : Bool) (n : ℕ) (bytes : List ℕ) (v : Value) → IsItem n bytes v → IsNext first n bytes
item_next true n bytes v spells = inr (v, spells)
item_next false n bytes v spells = (v, spells)

nat_le_behind : (a b c : ℕ) → nat_le (a + b) (a + c) ≡ nat_le b c
nat_le_behind a b c = elim (cases_lt c b) [
  | inl less ↦ lt-leb (a + b) (a + c) (omega arith) ∙ sym (lt-leb b c less)
  | inr le ↦ le-leb (a + b) (a + c) (omega arith) ∙ sym (le-leb b c le)
]

module _ (first : Left) (head : Option Ty) (vs : List Value) (now : HeadedFile) (left : Left) (has : HasRead first head vs now left) where
  -- what the file has behind the head
  pub rest_of : (bytes : List ℕ) → first ≡ Some (Some bytes) → (more : List ℕ) × (bytes ≡ has.front ++ more) × (has.rest ≡ Some (Some more))
  rest_of bytes known = subst (λ f. Behind has.front f has.rest) known has.behind

  -- where no item was read and there is no head, the file begins none
  no_head_in : is_first head vs ≡ true → (more : List ℕ) → has.rest ≡ Some (Some more) → IsHeadless more
  no_head_in is more known =
      let r = has.items.remains more known in
      let whole : more ≡ now.items.text.left ++ (r.beyond ++ r.behind) = r.whole ∙ ap (λ read. (read ++ now.items.text.left) ++ (r.beyond ++ r.behind)) (none head vs is has.items.items) in
      subst IsHeadless (sym whole) (has.headless is (r.beyond ++ r.behind) (λ t. r.end_met (is_true now.items.text.finished t)))
    where
      none : (h : Option Ty) (ws : List Value) → is_first h ws ≡ true → Items has.items.read ws → has.items.read ≡ []
      none None [] is items = items
      none None (v ∷ ws) is items = absurd cc
      none (Some t) ws is items = absurd cc

  -- an end of the items is one of the file
  module _ (end : FileEnd) (more : List ℕ) (known : has.rest ≡ Some (Some more)) (shows : ShowsItems now.items.limit more vs end) where
    headless_left : is_first head vs ≡ true → IsHeadless shows.left
    headless_left is =
        let read_none : shows.read ≡ [] = none head vs is shows.items in
        let front : shows.left ≡ take now.items.limit more = sym (shows.seen ∙ ap (λ read. read ++ shows.left) read_none) in
        subst IsHeadless (sym front) (front_headless (take now.items.limit more) (drop now.items.limit more) (subst IsHeadless (sym (take-append-drop now.items.limit more)) (no_head_in is more known)))
      where
        none : (h : Option Ty) (ws : List Value) → is_first h ws ≡ true → Items shows.read ws → shows.read ≡ []
        none None [] is items = items
        none None (v ∷ ws) is items = absurd cc
        none (Some t) ws is items = absurd cc

    ends_at : (b : Bool) → (b ≡ true → IsHeadless shows.left) → (n : ℕ) (whole : Bool) (e : FileEnd) → EndsInItems (length shows.read) shows.left whole e
        → EndsIn b (n + length shows.read) shows.left whole (moved n e)
    ends_at b headless n whole WholeText ends = ends
    ends_at true headless n whole (BadAt p) ends = (ends.0, (let at = ends.1 in omega arith), at_place (items_bad (length shows.read) shows.left whole ends.0 (headless refl) ends.2))
      where
        at_place : IsBad (standing true (length shows.read) shows.left whole) ends.0 → IsBad (standing true (n + length shows.read) shows.left whole) ends.0
        at_place b = record { within = b.within; begins = b.begins; longest = b.longest; in_none = b.in_none; none_next = b.none_next }
    ends_at false headless n whole (BadAt p) ends = (ends.0, (let at = ends.1 in omega arith), at_place (later_bad (length shows.read) shows.left whole ends.0 ends.2))
      where
        at_place : IsBad (standing false (length shows.read) shows.left whole) ends.0 → IsBad (standing false (n + length shows.read) shows.left whole) ends.0
        at_place b = record { within = b.within; begins = b.begins; longest = b.longest; in_none = b.in_none; none_next = b.none_next }
    ends_at true headless n whole (TooDeepAt p) ends = (ends.0, (let at = ends.1 in omega arith), at_place (items_deep (length shows.read) shows.left whole ends.0 (headless refl) ends.2))
      where
        at_place : IsDeep (standing true (length shows.read) shows.left whole) ends.0 → IsDeep (standing true (n + length shows.read) shows.left whole) ends.0
        at_place d = record { within = d.within; begins = d.begins; deeper = d.deeper; too_deep = d.too_deep; none_next = d.none_next }
    ends_at false headless n whole (TooDeepAt p) ends = (ends.0, (let at = ends.1 in omega arith), at_place (later_deep (length shows.read) shows.left whole ends.0 ends.2))
      where
        at_place : IsDeep (standing false (length shows.read) shows.left whole) ends.0 → IsDeep (standing false (n + length shows.read) shows.left whole) ends.0
        at_place d = record { within = d.within; begins = d.begins; deeper = d.deeper; too_deep = d.too_deep; none_next = d.none_next }
    ends_at b headless n whole PastLimit ends = (ends.0, (ends.1.0, ends.1.2, item_next b nesting (shows.left ++ ends.1.0) ends.1.1 ends.1.3))

    shows_file : (bytes : List ℕ) → bytes ≡ has.front ++ more → Shows (limit_of now) bytes head vs (moved now.head end)
    shows_file bytes is =
        let size : length bytes ≡ length has.front + length more = ap length is ∙ length-append has.front more in
        let limit : limit_of now ≡ length has.front + now.items.limit = ap (λ n. n + now.items.limit) (sym has.size) in
        let whole : nat_le (length bytes) (limit_of now) ≡ nat_le (length more) now.items.limit =
        ap (λ n. nat_le n (limit_of now)) size ∙ (ap (λ n. nat_le (length has.front + length more) n) limit ∙ nat_le_behind (length has.front) (length more) now.items.limit) in
        record {
          front = has.front;
          read = shows.read;
          left = shows.left;
          seen = ap (take (limit_of now)) is ∙ (ap (λ n. take n (has.front ++ more)) limit ∙ (take-append-add has.front more now.items.limit ∙ ap (λ bs. has.front ++ bs) shows.seen));
          states = has.states;
          items = shows.items;
          ends = subst (λ n. EndsIn (is_first head vs) (length has.front + length shows.read) shows.left (nat_le (length bytes) (limit_of now)) (moved n end)) has.size
              (subst (λ b. EndsIn (is_first head vs) (length has.front + length shows.read) shows.left b (moved (length has.front) end)) (sym whole)
              (ends_at (is_first head vs) headless_left (length has.front) (nat_le (length more) now.items.limit) end shows.ends));
        }

  pub ends_file : (end : FileEnd) → EndsSoItems has.rest vs end now.items left → (end ≡ PastLimit → now.items.past ≡ true) → EndsSo first head vs (moved now.head end) now
  ends_file end ends past bytes known =
      let w = rest_of bytes known in
      (shows_file end w.0 w.2 (ends.1 w.0 w.2) bytes w.1, met end ends.2 past)
    where
      within : (bytes more : List ℕ) → bytes ≡ has.front ++ more → has.rest ≡ Some (Some more) → now.head + (now.items.text.place + length now.items.text.left) ≤ length bytes
      within bytes more is rest =
          let r = has.items.remains more rest in
          let size : length bytes ≡ length has.front + length more = ap length is ∙ length-append has.front more in
          let all : length more ≡ length (has.items.read ++ now.items.text.left) + length (r.beyond ++ r.behind) = ap length r.whole ∙ length-append (has.items.read ++ now.items.text.left) (r.beyond ++ r.behind) in
          let fetched : length (has.items.read ++ now.items.text.left) ≡ length has.items.read + length now.items.text.left = length-append has.items.read now.items.text.left in
          let place = has.items.place in
          let front = has.size in
          omega arith

      met : (e : FileEnd) → IsFetched e now.items → (e ≡ PastLimit → now.items.past ≡ true) → IsMet (moved now.head e) bytes now
      met WholeText f past = tt
      met (BadAt p) (inl less) past = inl (let w = rest_of bytes known in let i = within bytes w.0 w.1 w.2 in omega arith)
      met (BadAt p) (inr ended) past = inr ended
      met (TooDeepAt p) (inl less) past = inl (let w = rest_of bytes known in let i = within bytes w.0 w.1 w.2 in omega arith)
      met (TooDeepAt p) (inr ended) past = inr ended
      met PastLimit f past = past refl

-- ---- what was read is a front of what the file shows

module _ (limit room : ℕ) (whole front rest : List ℕ) (is : whole ≡ front ++ rest) (size : length front + room ≡ limit) where
  looked_at : take limit whole ≡ front ++ take room rest
  looked_at = ap (take limit) is ∙ (ap (λ n. take n (front ++ rest)) (sym size) ∙ take-append-add front rest room)

module _ (first : Left) (head : Option Ty) (vs : List Value) (now : HeadedFile) (left : Left) (has : HasRead first head vs now left) (bytes : List ℕ) (known : first ≡ Some (Some bytes)) where
  -- what is looked at begins with the head and the items that were read
  seen_front : (u : List ℕ) × (take (limit_of now) bytes ≡ has.front ++ (has.items.read ++ u))
  seen_front =
      let w = rest_of first head vs now left has bytes known in
      let r = has.items.remains w.0 w.2 in
      let room = now.items.limit - (now.items.text.place + length now.items.text.left) in
      let size : length (has.items.read ++ now.items.text.left) ≡ length has.items.read + length now.items.text.left = length-append has.items.read now.items.text.left in
      let place = has.items.place in
      let within = has.items.within in
      let here : take now.items.limit w.0 ≡ has.items.read ++ (now.items.text.left ++ take room (r.beyond ++ r.behind)) =
      looked_at now.items.limit room w.0 (has.items.read ++ now.items.text.left) (r.beyond ++ r.behind) r.whole (omega arith) ∙ append_assoc has.items.read now.items.text.left (take room (r.beyond ++ r.behind)) in (
        now.items.text.left ++ take room (r.beyond ++ r.behind),
        looked_at (limit_of now) now.items.limit bytes has.front w.0 w.1 (ap (λ n. n + now.items.limit) has.size) ∙ ap (λ bs. has.front ++ bs) here,
      )

  module _ (other : Option Ty) (ws : List Value) (end : FileEnd) (shows : Shows (limit_of now) bytes other ws end) where
    none_there : NoneNext (is_first other ws) nesting shows.left
    none_there = end_none (is_first other ws) (length shows.front + length shows.read) shows.left (nat_le (length bytes) (limit_of now)) end shows.ends

    both : shows.front ++ (shows.read ++ shows.left) ≡ has.front ++ (has.items.read ++ seen_front.0)
    both = sym shows.seen ∙ seen_front.1

    -- behind the same front
    items_shown : shows.front ≡ has.front → (us : List Value) × (ws ≡ vs ++ us)
    items_shown same =
        let behind : has.items.read ++ seen_front.0 ≡ shows.read ++ shows.left =
        append_cancel_left has.front (has.items.read ++ seen_front.0) (shows.read ++ shows.left) (sym both ∙ ap (λ bs. bs ++ (shows.read ++ shows.left)) same) in
        first_items has.items.read seen_front.0 shows.read shows.left vs ws has.items.items shows.items (no_next_item (is_first other ws) nesting shows.left none_there) behind

-- a head and no head are not both there
module _ (first : Left) (vs : List Value) (now : HeadedFile) (left : Left) (bytes : List ℕ) (known : first ≡ Some (Some bytes)) (t : Ty) where
  headed_shown : (ws : List Value) (end : FileEnd) → HasRead first (Some t) vs now left → Shows (limit_of now) bytes None ws end → ⊥
  headed_shown [] end has shows =
      let all = both first (Some t) vs now left has bytes known None [] end shows in
      let whole : shows.left ≡ has.front ++ (has.items.read ++ (seen_front first (Some t) vs now left has bytes known).0) =
      ap (λ bs. bs ++ shows.left) (sym shows.items) ∙ (ap (λ bs. bs ++ (shows.read ++ shows.left)) (sym shows.states) ∙ all) in
      none_there first (Some t) vs now left has bytes known None [] end shows has.front (has.items.read ++ (seen_front first (Some t) vs now left has bytes known).0) whole (inl (t, has.states))
  headed_shown (w ∷ ws) end has shows =
      let all = both first (Some t) vs now left has bytes known None (w ∷ ws) end shows in
      let i = shows.items in
      head_or_item nesting nesting has.front i.0 (has.items.read ++ (seen_front first (Some t) vs now left has bytes known).0) (i.1 ++ shows.left) t w has.states i.3
      (sym all ∙ (ap (λ bs. bs ++ (shows.read ++ shows.left)) shows.states ∙ (ap (λ bs. bs ++ shows.left) i.2 ∙ append_assoc i.0 i.1 shows.left)))

headless_shown : (first : Left) (vs ws : List Value) (now : HeadedFile) (left : Left) (bytes : List ℕ) (end : FileEnd) (t : Ty) → HasRead first None vs now left → first ≡ Some (Some bytes)
    → Shows (limit_of now) bytes (Some t) ws end → ⊥
headless_shown first [] ws now left bytes end t has known shows =
    let w = rest_of first None [] now left has bytes known in
    let h = head_begins nesting shows.front t shows.states in
    let behind = shows.read ++ shows.left in
    let is : bytes ≡ shows.front ++ (behind ++ drop (limit_of now) bytes) =
    sym (take-append-drop (limit_of now) bytes) ∙ (ap (λ bs. bs ++ drop (limit_of now) bytes) shows.seen ∙ append_assoc shows.front behind (drop (limit_of now) bytes)) in
    let same : w.0 ≡ bytes = sym (w.1 ∙ ap (λ bs. bs ++ w.0) has.states) in
    no_head_in first None [] now left has refl w.0 w.2 h.0 (h.1 ++ (behind ++ drop (limit_of now) bytes)) h.3
    (same ∙ (is ∙ (ap (λ bs. bs ++ (behind ++ drop (limit_of now) bytes)) h.2 ∙ append_assoc h.0 (codes "ty" ++ h.1) (behind ++ drop (limit_of now) bytes))))
headless_shown first (v ∷ vs) ws now left bytes end t has known shows =
    let all = both first None (v ∷ vs) now left has bytes known (Some t) ws end shows in
    let i = has.items.items in
    let u = (seen_front first None (v ∷ vs) now left has bytes known).0 in
    head_or_item nesting nesting shows.front i.0 (shows.read ++ shows.left) (i.1 ++ u) t v shows.states i.3
    (all ∙ (ap (λ bs. bs ++ (has.items.read ++ u)) has.states ∙ (ap (λ bs. bs ++ u) i.2 ∙ append_assoc i.0 i.1 u)))

pub first_shown : (first : Left) (head other : Option Ty) (vs ws : List Value) (now : HeadedFile) (left : Left) (bytes : List ℕ) (end : FileEnd)
    → HasRead first head vs now left → first ≡ Some (Some bytes) → Shows (limit_of now) bytes other ws end → (head ≡ other) × ((us : List Value) × (ws ≡ vs ++ us))
first_shown first None None vs ws now left bytes end has known shows =
    (refl, items_shown first None vs now left has bytes known None ws end shows (shows.states ∙ sym has.states))
first_shown first (Some t) (Some u) vs ws now left bytes end has known shows =
    let one = one_head nesting nesting shows.front has.front (shows.read ++ shows.left) (has.items.read ++ (seen_front first (Some t) vs now left has bytes known).0) u t shows.states has.states
    (both first (Some t) vs now left has bytes known (Some u) ws end shows) in
    (ap Some (sym one.1), items_shown first (Some t) vs now left has bytes known (Some u) ws end shows one.0)
first_shown first None (Some t) vs ws now left bytes end has known shows = absurd (headless_shown first vs ws now left bytes end t has known shows)
first_shown first (Some t) None vs ws now left bytes end has known shows = absurd (headed_shown first vs now left bytes known t ws end has shows)
