-- What a reader knows of a file, from call to call.
use Rattle.std.proofs.Common.{◌≡◌, ℕ, zero, suc, ◌≤◌, length, Bool, true, false, ◌||◌, IsTrue, List, [], ◌∷◌, ◌++◌, take, drop, Some, None, refl, sym, ap, subst, ◌∙◌, arith, append_assoc, append-nil, length-append}
use Rattle.std.proofs.lemmas.List.{take-append-drop, length-take, length-drop}
use Rattle.kl_base.proofs.Each.{all_append}
use Rattle.kl_exchange.specs.FileReading.{FileReading, HasRead as HasFetched, Left, Remains}
use Rattle.kl_exchange.specs.Grammar.{Blank, is_blank}
use Rattle.kl_json.specs.Files.{IsJson, Ends, closes_itself, ends_before, follows, Values, IsFile, Begins, RefusesAt, IsRefused, Reading, HasPassed, cut, passed, starts_blank}
use Rattle.kl_json.specs.declared.choices.Choices.{Choices}
use Rattle.kl_json.specs.declared.choices.Refusal.{Refusal}
use Rattle.kl_value.specs.declared.Value.{Value}

-- a front of bytes that begin with no white space begins with none
starts_so : (n : ℕ) (bs : List ℕ) → starts_blank bs ≡ false → starts_blank (take n bs) ≡ false
starts_so zero bs h = refl
starts_so (suc n) [] h = refl
starts_so (suc n) (b ∷ bs) h = h

-- one value more
push : (c : Choices) (read white text rest : List ℕ) (vs : List Value) (v : Value) → Values c read vs (white ++ (text ++ rest)) → Blank white → IsJson c text v → Ends text rest
    → Values c ((read ++ white) ++ text) (vs ++ v ∷ []) rest
push c read white text rest [] v none blank is ends =
    (white, text, [], ap (λ r. (r ++ white) ++ text) none ∙ sym (append-nil (white ++ text)), blank, is, ends, refl)
push c read white text rest (w ∷ vs) v (before, here, behind, whole, blanks, json, ended, more) blank is ends = (
  before,
  here,
  (behind ++ white) ++ text,
  ap (λ x. (x ++ white) ++ text) whole ∙ ap (λ x. x ++ text) (append_assoc (before ++ here) behind white) ∙ append_assoc (before ++ here) (behind ++ white) text,
  blanks,
  json,
  subst (Ends here) (sym (append_assoc behind white (text ++ rest)) ∙ sym (append_assoc (behind ++ white) text rest)) ended,
  push c behind white text rest vs v more blank is ends,
)

-- What is left of a file once so many of the bytes fetched are passed.
pub record Cut (n : ℕ) (items : FileReading) (left : Left) (rest : List ℕ) : Type 0 where
  pub behind : List ℕ
  pub tail : List ℕ
  pub whole : rest ≡ take n items.text.left ++ behind
  pub is : behind ≡ drop n items.text.left ++ tail
  pub end : items.text.finished ≡ true → tail ≡ []
  pub fetched : HasFetched (Some (Some behind)) [] (cut n items) left

module _ (n : ℕ) (items : FileReading) (left : Left) (rest : List ℕ) (few : n ≤ length items.text.left) (fresh : items.text.refused ≡ None) (has : HasFetched (Some (Some rest)) [] items left) where
  abbrev of : Remains has.read items left rest
  of = has.remains rest refl

  abbrev tail_of : List ℕ
  tail_of = of.beyond ++ of.behind

  abbrev behind_of : List ℕ
  behind_of = drop n items.text.left ++ tail_of

  remains_behind : (bytes : List ℕ) → Some (Some behind_of) ≡ Some (Some bytes) → Remains [] (cut n items) left bytes
  remains_behind bytes e =
      let same : behind_of ≡ bytes = cc in
      let place = has.place in
      let none : length has.read ≡ 0 = ap length has.items in
      let size = length-drop n items.text.left in
      record {
        beyond = of.beyond;
        behind = of.behind;
        known = of.known;
        whole = sym same;
        nothing_beyond = of.nothing_beyond;
        limit_met = λ past. let met = of.limit_met past in let full = met.1 in let f = few in (met.0, omega arith);
        end_met = of.end_met;
      }

  cut_here : Cut n items left rest
  cut_here =
      let place = has.place in
      let within = has.within in
      let none : length has.read ≡ 0 = ap length has.items in
      let size = length-drop n items.text.left in
      let f = few in
      record {
        behind = behind_of;
        tail = tail_of;
        whole = of.whole ∙ ap (λ r. (r ++ items.text.left) ++ tail_of) has.items ∙ ap (λ x. x ++ tail_of) (sym (take-append-drop n items.text.left))
            ∙ append_assoc (take n items.text.left) (drop n items.text.left) tail_of;
        is = refl;
        end = of.end_met;
        fetched = record {
          read = [];
          items = refl;
          place = omega arith;
          within = omega arith;
          remains = remains_behind;
          refusal = λ e end is. absurd (let no : Some e ≡ None = sym is ∙ fresh in cc);
        };
      }

module _ (c : Choices) (bytes : List ℕ) (vs : List Value) (now : Reading) (left : Left) (has : HasPassed c bytes vs now left) where
  pub blank_passed : (n : ℕ) → n ≤ length now.items.text.left → Blank (take n now.items.text.left) → HasPassed c bytes vs (passed n now) left
  blank_passed n few blank =
      let k = cut_here n now.items left has.rest few has.fresh has.fetched in
      let front = take n now.items.text.left in
      let stands = has.stands in
      let size = length-append has.white front in
      let total = has.total in
      let within = has.fetched.within in
      let length_front = length-take n now.items.text.left in
      let f = few in
      record {
        read = has.read;
        white = has.white ++ front;
        rest = k.behind;
        whole = has.whole ∙ ap (λ x. (has.read ++ has.white) ++ x) k.whole ∙ sym (append_assoc (has.read ++ has.white) front k.behind)
            ∙ ap (λ x. x ++ k.behind) (append_assoc has.read has.white front);
        values = subst (Values c has.read vs) (ap (λ x. has.white ++ x) k.whole ∙ sym (append_assoc has.white front k.behind)) has.values;
        blank = all_append (λ b. IsTrue (is_blank b)) has.white front has.blank blank;
        stands = omega arith;
        total = omega arith;
        fresh = has.fresh;
        fetched = k.fetched;
      }

  ends_there : (b ended : Bool) (behind tail : List ℕ) → (ended ≡ true → tail ≡ []) → IsTrue (b || follows ended behind) → IsTrue (b || ends_before (behind ++ tail))
  ends_there true ended behind tail none h = refl
  ends_there false ended [] tail none h = subst (λ t. IsTrue (ends_before t)) (sym (none h)) refl
  ends_there false ended (b ∷ behind) tail none h = h

  -- the text of the first bytes ends where it does in the whole file
  pub ends_here : (n : ℕ) (k : Cut n now.items left has.rest) → IsTrue (closes_itself (take n now.items.text.left) || follows now.items.text.finished (drop n now.items.text.left))
      → Ends (take n now.items.text.left) k.behind
  ends_here n k ends =
      let text = take n now.items.text.left in
      subst (Ends text) (sym k.is) (ends_there (closes_itself text) now.items.text.finished (drop n now.items.text.left) k.tail k.end ends)

  pub value_taken : (n : ℕ) (v : Value) → n ≤ length now.items.text.left → IsJson c (take n now.items.text.left) v
      → IsTrue (closes_itself (take n now.items.text.left) || follows now.items.text.finished (drop n now.items.text.left)) → HasPassed c bytes (vs ++ v ∷ []) (passed n now) left
  value_taken n v few is ends =
      let k = cut_here n now.items left has.rest few has.fresh has.fetched in
      let text = take n now.items.text.left in
      let read = (has.read ++ has.white) ++ text in
      let stands = has.stands in
      let total = has.total in
      let within = has.fetched.within in
      let one = length-append has.read has.white in
      let two = length-append (has.read ++ has.white) text in
      let length_text = length-take n now.items.text.left in
      let f = few in
      record {
        read = read;
        white = [];
        rest = k.behind;
        whole = has.whole ∙ ap (λ x. (has.read ++ has.white) ++ x) k.whole ∙ sym (append_assoc (has.read ++ has.white) text k.behind)
            ∙ ap (λ x. x ++ k.behind) (sym (append-nil read));
        values = push c has.read has.white text k.behind vs v (subst (λ x. Values c has.read vs (has.white ++ x)) k.whole has.values) has.blank is (ends_here n k ends);
        blank = tt;
        stands = omega arith;
        total = omega arith;
        fresh = has.fresh;
        fetched = k.fetched;
      }

  pub value_refused : (n : ℕ) (r : Refusal) (place : ℕ) → n ≤ length now.items.text.left → starts_blank now.items.text.left ≡ false → IsRefused c (take n now.items.text.left) r
      → IsTrue (closes_itself (take n now.items.text.left) || follows now.items.text.finished (drop n now.items.text.left)) → place ≡ now.place → RefusesAt c bytes vs r place
  value_refused n r place few start is ends at =
      let k = cut_here n now.items left has.rest few has.fresh has.fetched in
      record {
        read = has.read;
        white = has.white;
        text = take n now.items.text.left;
        rest = k.behind;
        whole = has.whole ∙ ap (λ x. (has.read ++ has.white) ++ x) k.whole;
        values = subst (λ x. Values c has.read vs (has.white ++ x)) k.whole has.values;
        blank = has.blank;
        starts = starts_so n now.items.text.left start;
        refused = is;
        ends = ends_here n k ends;
        stands = at ∙ has.stands;
      }

  pub all_passed : now.items.text.finished ≡ true → now.items.text.left ≡ [] → IsFile c bytes vs
  all_passed finished none =
      let of = has.fetched.remains has.rest refl in
      let over : has.rest ≡ [] = of.whole ∙ ap (λ r. (r ++ now.items.text.left) ++ (of.beyond ++ of.behind)) has.fetched.items
      ∙ ap (λ l. l ++ (of.beyond ++ of.behind)) none ∙ of.end_met finished in
      record {
        read = has.read;
        white = has.white;
        whole = has.whole ∙ ap (λ x. (has.read ++ has.white) ++ x) over ∙ append-nil (has.read ++ has.white);
        values = subst (Values c has.read vs) (ap (λ x. has.white ++ x) over ∙ append-nil has.white) has.values;
        blank = has.blank;
      }

  -- in any case the file begins with the values read
  pub begins_so : Begins c bytes vs
  begins_so = record { read = has.read; rest = has.white ++ has.rest; whole = has.whole ∙ append_assoc has.read has.white has.rest; values = has.values }
