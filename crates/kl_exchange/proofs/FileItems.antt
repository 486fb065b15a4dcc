-- What stands at the front of some bytes stands there alone.
use Rattle.std.proofs.Common.{◌≡◌, ◌⊎◌, inl, inr, ℕ, suc, zero, ◌+◌, ◌<◌, ◌≤◌, Bool, false, List, [], ◌∷◌, ◌++◌, length, take, drop, refl, sym, ap, ap₂, subst, ◌∙◌, nat_le, arith, append_assoc, append-nil, length-append, take-append-drop, IsTrue}
use Rattle.std.proofs.lemmas.Bool.{cases_lt, false≢true}
use Rattle.std.proofs.lemmas.List.{take-append-le, take_all}
use Rattle.kl_exchange.specs.Grammar.{Blank, IsItem, IsExchange, Begins}
use Rattle.kl_exchange.specs.Machine.{run, more, ends, start}
use Rattle.kl_exchange.specs.Reading.{NoItem, IsBad, IsDeep}
use Rattle.kl_exchange.proofs.Reading.{begins}
use Rattle.kl_exchange.proofs.Runs.{run_item, run_blank}
use Rattle.kl_value.specs.declared.Value.{Value}
use Rattle.kl_exchange.specs.FileItems.{Items, FileEnd, WholeText, BadAt, TooDeepAt, PastLimit, BeginsItem, reading, EndsIn, Shows}

-- two items at the front of the same bytes are one
pub one_first : (item rest other behind : List ℕ) (v w : Value) → IsItem 256 item v → IsItem 256 other w → item ++ rest ≡ other ++ behind → (v ≡ w) × (rest ≡ behind)
one_first item rest other behind v w is also same =
    let e : ends v rest ≡ ends w behind = sym (run_item 256 256 item v rest is (omega arith)) ∙ (ap (λ bs. run 256 bs start) same ∙ run_item 256 256 other w behind also (omega arith)) in
    (cc, cc)

begun_has_none : (left : List ℕ) → BeginsItem left → NoItem 256 left
begun_has_none left begun item rest v is spells =
    let one = one_first (left ++ begun.0) [] item (rest ++ begun.0) begun.1 v begun.3 spells
    (append-nil (left ++ begun.0) ∙ (ap (λ bs. bs ++ begun.0) is ∙ append_assoc item rest begun.0)) in
    let size : 0 ≡ length rest + length begun.0 = ap length one.1 ∙ length-append rest begun.0 in
    let some = begun.2 in
    omega arith

blank_has_none : (left : List ℕ) → Blank left → NoItem 256 left
blank_has_none left blank item rest v is spells =
    let e : more start ≡ ends v rest = sym (run_blank 256 left blank) ∙ (ap (λ bs. run 256 bs start) is ∙ run_item 256 256 item v rest spells (omega arith)) in
    absurd cc

-- the bytes that an end speaks of have no whole item in front
pub end_has_none : (place : ℕ) (left : List ℕ) (finished : Bool) (e : FileEnd) → EndsIn place left finished e → NoItem 256 left
end_has_none place left finished WholeText h = blank_has_none left h.1
end_has_none place left finished (BadAt p) h = h.2.no_item 256
end_has_none place left finished (TooDeepAt p) h = h.2.no_item
end_has_none place left finished PastLimit h = begun_has_none left h.1

-- What begins an exchange text begins one also without its last bytes.
pub begins_front : (n : ℕ) (bytes behind : List ℕ) → Begins n (bytes ++ behind) → Begins n bytes
begins_front n bytes behind b = record {
  more = behind ++ b.more;
  values = b.values;
  whole = subst (λ bs. IsExchange n bs b.values) (append_assoc bytes behind b.more) b.whole;
}

pub taken_front : (j k : ℕ) (xs : List ℕ) → j ≤ k → (rest : List ℕ) × (take k xs ≡ take j xs ++ rest)
taken_front zero k xs le = (take k xs, refl)
taken_front (suc j) zero xs le = absurd (omega arith)
taken_front (suc j) (suc k) [] le = ([], refl)
taken_front (suc j) (suc k) (x ∷ xs) le = let r = taken_front j k xs (omega arith) in (r.0, ap (λ ys. x ∷ ys) r.1)

begins_taken : (n j k : ℕ) (xs : List ℕ) → j ≤ k → Begins n (take k xs) → Begins n (take j xs)
begins_taken n j k xs le b = let r = taken_front j k xs le in begins_front n (take j xs) r.0 (subst (Begins n) r.1 b)

begins_any : (n k : ℕ) (xs : List ℕ) → Begins n xs → Begins n (take k xs)
begins_any n k xs b = begins_front n (take k xs) (drop k xs) (subst (Begins n) (sym (take-append-drop k xs)) b)

blank_begins : (n : ℕ) (left : List ℕ) → Blank left → Begins n left
blank_begins n left blank = record { more = []; values = []; whole = subst Blank (sym (append-nil left)) blank }

one_deep : (place : ℕ) (left : List ℕ) (finished : Bool) (j k : ℕ) → IsDeep (reading place left finished) j → IsDeep (reading place left finished) k → j < k → ⊥
one_deep place left finished j k deep also less = deep.too_deep (begins_taken 256 (j + 1) k left (omega arith) also.begins)

one_bad : (place : ℕ) (left : List ℕ) (finished : Bool) (j k : ℕ) → IsBad (reading place left finished) j → IsBad (reading place left finished) k → j < k → ⊥
one_bad place left finished j k bad also less = bad.longest k 256 less also.within also.begins

not_whole : (place : ℕ) (left : List ℕ) (finished : Bool) (k : ℕ) → IsBad (reading place left finished) k → Blank left → ⊥
not_whole place left finished k bad blank = bad.in_none 256 [] [] (λ t. refl) (subst Blank (sym (append-nil left)) blank)

not_begun : (place : ℕ) (left : List ℕ) (finished : Bool) (k : ℕ) → finished ≡ false → IsBad (reading place left finished) k → BeginsItem left → ⊥
not_begun place left finished k unended bad begun =
    let b = begins 256 left begun.0 begun.1 begun.3 in
    bad.in_none 256 b.more b.values (λ t. absurd (false≢true (subst IsTrue unended t))) b.whole

deep_or_bad : (place : ℕ) (left : List ℕ) (finished : Bool) (j k : ℕ) → IsDeep (reading place left finished) j → IsBad (reading place left finished) k → ⊥
deep_or_bad place left finished j k deep bad = elim (cases_lt k (j + 1)) [
  | inl less ↦ bad.longest (j + 1) deep.deeper.0 less (let h = deep.within in omega arith) deep.deeper.1
  | inr past ↦ deep.too_deep (begins_taken 256 (j + 1) k left past bad.begins)
]

deep_or_begun : (place : ℕ) (left : List ℕ) (finished : Bool) (j : ℕ) → IsDeep (reading place left finished) j → Begins 256 left → ⊥
deep_or_begun place left finished j deep begun = deep.too_deep (begins_any 256 (j + 1) left begun)

same_place : (place j k p q : ℕ) → p ≡ place + j → q ≡ place + k → (j < k → ⊥) → (k < j → ⊥) → p ≡ q
same_place place j k p q x y a b =
    let le : k ≤ j = elim (cases_lt j k) [ inl less ↦ absurd (a less) | inr past ↦ past ] in
    let ge : j ≤ k = elim (cases_lt k j) [ inl less ↦ absurd (b less) | inr past ↦ past ] in
    omega arith

-- bytes left have one end
pub one_end : (place : ℕ) (left : List ℕ) (finished : Bool) (e f : FileEnd) → EndsIn place left finished e → EndsIn place left finished f → e ≡ f
one_end place left finished WholeText WholeText h k = refl
one_end place left finished WholeText (BadAt q) h k = absurd (not_whole place left finished k.0 k.2 h.1)
one_end place left finished WholeText (TooDeepAt q) h k = absurd (deep_or_begun place left finished k.0 k.2 (blank_begins 256 left h.1))
one_end place left finished WholeText PastLimit h k = absurd (let a = h.0 in let b = k.0 in cc)
one_end place left finished (BadAt p) WholeText h k = absurd (not_whole place left finished h.0 h.2 k.1)
one_end place left finished (BadAt p) (BadAt q) h k =
    ap BadAt (same_place place h.0 k.0 p q h.1 k.1 (one_bad place left finished h.0 k.0 h.2 k.2) (one_bad place left finished k.0 h.0 k.2 h.2))
one_end place left finished (BadAt p) (TooDeepAt q) h k = absurd (deep_or_bad place left finished k.0 h.0 k.2 h.2)
one_end place left finished (BadAt p) PastLimit h k = absurd (not_begun place left finished h.0 k.0 h.2 k.1)
one_end place left finished (TooDeepAt p) WholeText h k = absurd (deep_or_begun place left finished h.0 h.2 (blank_begins 256 left k.1))
one_end place left finished (TooDeepAt p) (BadAt q) h k = absurd (deep_or_bad place left finished h.0 k.0 h.2 k.2)
one_end place left finished (TooDeepAt p) (TooDeepAt q) h k =
    ap TooDeepAt (same_place place h.0 k.0 p q h.1 k.1 (one_deep place left finished h.0 k.0 h.2 k.2) (one_deep place left finished k.0 h.0 k.2 h.2))
one_end place left finished (TooDeepAt p) PastLimit h k = absurd (deep_or_begun place left finished h.0 h.2 (begins 256 left k.1.0 k.1.1 k.1.3))
one_end place left finished PastLimit WholeText h k = absurd (let a = h.0 in let b = k.0 in cc)
one_end place left finished PastLimit (BadAt q) h k = absurd (not_begun place left finished k.0 h.0 k.2 h.1)
one_end place left finished PastLimit (TooDeepAt q) h k = absurd (deep_or_begun place left finished k.0 k.2 (begins 256 left h.1.0 h.1.1 h.1.3))
one_end place left finished PastLimit PastLimit h k = refl

-- Items at the front of bytes are the first of all that stand there.
pub first_items : (read left other rest : List ℕ) (vs ws : List Value) → Items read vs → Items other ws → NoItem 256 rest → read ++ left ≡ other ++ rest
    → (us : List Value) × (ws ≡ vs ++ us)
first_items read left other rest [] ws items others none same = (ws, refl)
first_items read left other rest (v ∷ vs) [] items others none same =
    absurd (none items.0 (items.1 ++ left) v (ap (λ bs. bs ++ rest) (sym others) ∙ (sym same ∙ (ap (λ bs. bs ++ left) items.2 ∙ append_assoc items.0 items.1 left))) items.3)
first_items read left other rest (v ∷ vs) (w ∷ ws) items others none same =
    let one = one_first items.0 (items.1 ++ left) others.0 (others.1 ++ rest) v w items.3 others.3
    (sym (ap (λ bs. bs ++ left) items.2 ∙ append_assoc items.0 items.1 left) ∙ (same ∙ (ap (λ bs. bs ++ rest) others.2 ∙ append_assoc others.0 others.1 rest))) in
    let r = first_items items.1 left others.1 rest vs ws items.4 others.4 none one.1 in
    (r.0, ap₂ ◌∷◌ (sym one.0) r.1)

-- Items with no item behind them are all.
pub one_items : (read left other rest : List ℕ) (vs ws : List Value) → Items read vs → Items other ws → NoItem 256 left → NoItem 256 rest → read ++ left ≡ other ++ rest
    → (vs ≡ ws) × (left ≡ rest)
one_items read left other rest [] [] items others none also same = (refl, ap (λ bs. bs ++ left) (sym items) ∙ (same ∙ ap (λ bs. bs ++ rest) others))
one_items read left other rest [] (w ∷ ws) items others none also same =
    absurd (none others.0 (others.1 ++ rest) w (ap (λ bs. bs ++ left) (sym items) ∙ (same ∙ (ap (λ bs. bs ++ rest) others.2 ∙ append_assoc others.0 others.1 rest))) others.3)
one_items read left other rest (v ∷ vs) [] items others none also same =
    absurd (also items.0 (items.1 ++ left) v (ap (λ bs. bs ++ rest) (sym others) ∙ (sym same ∙ (ap (λ bs. bs ++ left) items.2 ∙ append_assoc items.0 items.1 left))) items.3)
one_items read left other rest (v ∷ vs) (w ∷ ws) items others none also same =
    let one = one_first items.0 (items.1 ++ left) others.0 (others.1 ++ rest) v w items.3 others.3
    (sym (ap (λ bs. bs ++ left) items.2 ∙ append_assoc items.0 items.1 left) ∙ (same ∙ (ap (λ bs. bs ++ rest) others.2 ∙ append_assoc others.0 others.1 rest))) in
    let r = one_items items.1 left others.1 rest vs ws items.4 others.4 none also one.1 in
    (ap₂ ◌∷◌ one.0 r.0, r.1)

-- A file shows one list of values, with one end.
pub one_showing : (limit : ℕ) (bytes : List ℕ) (vs ws : List Value) (e f : FileEnd) → Shows limit bytes vs e → Shows limit bytes ws f → (vs ≡ ws) × (e ≡ f)
one_showing limit bytes vs ws e f shows also =
    let finished = nat_le (length bytes) limit in
    let same = sym shows.seen ∙ also.seen in
    let one = one_items shows.read shows.left also.read also.left vs ws shows.items also.items (end_has_none (length shows.read) shows.left finished e shows.ends)
    (end_has_none (length also.read) also.left finished f also.ends) same in
    let place : length also.read ≡ length shows.read =
    (let size : length shows.read + length shows.left ≡ length also.read + length also.left = sym (length-append shows.read shows.left) ∙ (ap length same ∙ length-append also.read also.left) in
    let left : length shows.left ≡ length also.left = ap length one.1 in
    omega arith) in (
      one.0,
      one_end (length shows.read) shows.left finished e f shows.ends
          (subst (λ n. EndsIn n shows.left finished f) place (subst (λ bs. EndsIn (length also.read) bs finished f) (sym one.1) also.ends)),
    )

-- A cut of bytes lies within another cut, or behind it.
two_cuts : (xs ys zs bs : List ℕ) → xs ++ ys ≡ zs ++ bs → ((d : List ℕ) × (xs ≡ zs ++ d)) ⊎ ((d : List ℕ) × (zs ≡ xs ++ d))
two_cuts [] ys zs bs same = inr (zs, refl)
two_cuts (x ∷ xs) ys [] bs same = inl (x ∷ xs, refl)
two_cuts (x ∷ xs) ys (a ∷ zs) bs same =
    let first : x ≡ a = cc in
    let others : xs ++ ys ≡ zs ++ bs = cc in
    elim (two_cuts xs ys zs bs others) [
      | inl c ↦ inl (c.0, ap₂ ◌∷◌ first c.1)
      | inr c ↦ inr (c.0, ap₂ ◌∷◌ (sym first) c.1)
    ]

-- Bytes that are bad stay so, however many come behind them.
pub bad_grows : (place other : ℕ) (left behind : List ℕ) (finished : Bool) (k : ℕ) → IsBad (reading place left false) k → IsBad (reading other (left ++ behind) finished) k
bad_grows place other left behind finished k bad =
    let size : length (left ++ behind) ≡ length left + length behind = length-append left behind in
    let within = bad.within in
    record {
      within = omega arith;
      begins = subst (Begins 256) (sym (take-append-le k left behind within)) bad.begins;
      longest = λ j n past inside b. elim (cases_lt (length left) j) [
        | inl beyond ↦ dead n (begins_front n left (r_behind j beyond) (subst (Begins n) (r_is j beyond) b))
        | inr before ↦ bad.longest j n past before (subst (Begins n) (take-append-le j left behind before) b)
      ];
      in_none = λ n more vs alone whole. bad.in_none n (behind ++ more) vs (λ t. absurd (false≢true t)) (subst (λ bs. IsExchange n bs vs) (append_assoc left behind more) whole);
      no_item = λ n item rest v is spells. elim (two_cuts left behind item rest is) [
        | inl c ↦ bad.no_item n item c.0 v c.1 spells
        | inr c ↦ dead n (begins n left c.0 v (subst (λ bs. IsItem n bs v) c.1 spells))
      ];
    }
  where
    dead : (n : ℕ) → Begins n left → ⊥
    dead n b = bad.in_none n b.more b.values (λ t. absurd (false≢true t)) b.whole

    front : (j : ℕ) → length left < j → (rest : List ℕ) × (take j (left ++ behind) ≡ take (length left) (left ++ behind) ++ rest)
    front j beyond = taken_front (length left) j (left ++ behind) (omega arith)

    r_behind : (j : ℕ) → length left < j → List ℕ
    r_behind j beyond = (front j beyond).0

    r_is : (j : ℕ) (beyond : length left < j) → take j (left ++ behind) ≡ left ++ r_behind j beyond
    r_is j beyond = (front j beyond).1 ∙ ap (λ bs. bs ++ (front j beyond).0) (take-append-le (length left) left behind (omega arith) ∙ take_all (length left) left (omega arith))

-- So does a bracket too many.
pub deep_grows : (place other : ℕ) (left behind : List ℕ) (was finished : Bool) (k : ℕ) → IsDeep (reading place left was) k → IsDeep (reading other (left ++ behind) finished) k
deep_grows place other left behind was finished k deep =
    let size : length (left ++ behind) ≡ length left + length behind = length-append left behind in
    let within = deep.within in
    let one_more : take (k + 1) (left ++ behind) ≡ take (k + 1) left = take-append-le (k + 1) left behind (omega arith) in
    record {
      within = omega arith;
      begins = subst (Begins 256) (sym (take-append-le k left behind (omega arith))) deep.begins;
      deeper = (deep.deeper.0, subst (Begins deep.deeper.0) (sym one_more) deep.deeper.1);
      too_deep = λ b. deep.too_deep (subst (Begins 256) one_more b);
      no_item = λ item rest v is spells. elim (two_cuts left behind item rest is) [
        | inl c ↦ deep.no_item item c.0 v c.1 spells
        | inr c ↦ deep_or_begun place left was k deep (begins 256 left c.0 v (subst (λ bs. IsItem 256 bs v) c.1 spells))
      ];
    }
