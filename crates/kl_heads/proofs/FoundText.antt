-- What the function that finds the head and the items of a file is, by the grammar.
use Rattle.std.proofs.Common.{◌≡◌, ℕ, ◌+◌, ◌-◌, ◌≤◌, nat_le, Bool, true, false, cond, List, [], ◌∷◌, ◌++◌, length, take, drop, map, refl, sym, ap, subst, ◌∙◌, arith, inr, Some, None, append_assoc, append-nil, length-append, length-take, length-drop, take-append-drop}
use Rattle.std.proofs.Math.Seq.{take-append-add}
use Rattle.std.proofs.lemmas.Bool.Decides.{nat_tests}
use Rattle.kl_type.specs.declared.ground.Ty.{Ty}
use Rattle.kl_exchange.specs.FileItems.{Items, FileEnd, WholeText, BadAt, TooDeepAt, PastLimit, reading, EndsIn as EndsInItems}
use Rattle.kl_exchange.specs.Found.{FileItem, Found, Placed, IsFound, file_items, values_of}
use Rattle.kl_exchange.proofs.Bytes.{at_most_from}
use Rattle.kl_exchange.proofs.Founds.{is_found}
use Rattle.kl_exchange.proofs.Reading.{front_taken}
use Rattle.kl_heads.specs.Files.{States, is_first, standing, EndsIn, Shows}
use Rattle.kl_heads.specs.Found.{FileText, moved, behind_head, no_text, text_by, file_text, IsFileText}
use Rattle.kl_heads.specs.Machine.{Run, run, more, ends, no_head, fails, deep, start, may_be_item}
use Rattle.kl_heads.specs.Reading.{IsBad}
use Rattle.kl_heads.specs.Texts.{IsHeadless}
use Rattle.kl_heads.proofs.Heading.{more_begun, more_bad, fails_bad, deep_deep}
use Rattle.kl_heads.proofs.Headless.{items_bad, items_deep, later_bad, later_deep}
use Rattle.kl_heads.proofs.LawsRun.{no_head_more, more_item}
use Rattle.kl_heads.proofs.Reaching.{ends_head}

-- the items with so many bytes more before each
abbrev moved_items : ℕ → List FileItem → List FileItem
moved_items n xs = map (λ x. (n + x.0, x.1)) xs

placed_behind : (n place : ℕ) (read : List ℕ) (xs : List FileItem) → Placed place read xs → Placed (n + place) read (moved_items n xs)
placed_behind n place read [] h = h
placed_behind n place read (x ∷ xs) (item, rest, is, at, spells, others) =
    let same : n + (place + length item) ≡ (n + place) + length item = omega arith in
    (item, rest, is, ap (λ k. n + k) at, spells, subst (λ k. Placed k rest (moved_items n xs)) same (placed_behind n (place + length item) rest xs others))

ends_behind : (n place : ℕ) (left : List ℕ) (finished : Bool) (e : FileEnd) → EndsInItems place left finished e → EndsIn false (n + place) left finished (moved n e)
ends_behind n place left finished WholeText h = h
ends_behind n place left finished (BadAt p) (k, is, bad) = (
  k,
  (let same : n + p ≡ (n + place) + k = omega arith in same),
  later_bad (n + place) left finished k (record { within = bad.within; begins = bad.begins; longest = bad.longest; in_none = bad.in_none; no_item = bad.no_item }),
)
ends_behind n place left finished (TooDeepAt p) (k, is, much) = (
  k,
  (let same : n + p ≡ (n + place) + k = omega arith in same),
  later_deep (n + place) left finished k (record { within = much.within; begins = much.begins; deeper = much.deeper; too_deep = much.too_deep; no_item = much.no_item }),
)
ends_behind n place left finished PastLimit (unended, (u, v, some, spells)) = (unended, (u, some, (v, spells)))

-- before the first answer, where the bytes lead to items
ends_first : (left : List ℕ) (finished : Bool) (e : FileEnd) → IsHeadless left → EndsInItems 0 left finished e → EndsIn true 0 left finished (moved 0 e)
ends_first left finished WholeText headless h = h
ends_first left finished (BadAt p) headless (k, is, bad) = (k, (let same : 0 + p ≡ 0 + k = omega arith in same), items_bad 0 left finished k headless bad)
ends_first left finished (TooDeepAt p) headless (k, is, much) = (k, (let same : 0 + p ≡ 0 + k = omega arith in same), items_deep 0 left finished k headless much)
ends_first left finished PastLimit headless (unended, (u, v, some, spells)) = (unended, (u, some, inr (v, spells)))

same_test : (n a b : ℕ) → n ≤ a → n ≤ b → nat_le (a - n) (b - n) ≡ nat_le a b
same_test n a b p q = by (nat_le (a - n) (b - n)) (nat_le a b) refl refl
  where
    by : (c d : Bool) → nat_le (a - n) (b - n) ≡ c → nat_le a b ≡ d → nat_le (a - n) (b - n) ≡ nat_le a b
    by c d e f = grind (arith, nat_tests)

module _ (limit : ℕ) (bytes : List ℕ) where
  abbrev seen : List ℕ
  seen = take limit bytes

  abbrev finished : Bool
  finished = nat_le (length bytes) limit

  -- items alone
  items_alone : IsHeadless seen → IsFileText limit bytes (behind_head None 0 (file_items limit bytes))
  items_alone headless = by (file_items limit bytes) (is_found limit bytes)
    where
      by : (f : Found) → IsFound limit bytes f → IsFileText limit bytes (behind_head None 0 f)
      by f h = record {
        front = [];
        read = h.read;
        left = h.left;
        seen = h.seen;
        states = refl;
        items = placed_behind 0 0 h.read f.items h.items;
        ends = end f.items h.items;
      }
        where
          end : (xs : List FileItem) → Placed 0 h.read xs → EndsIn (is_first None (values_of (moved_items 0 xs))) (0 + length h.read) h.left finished (moved 0 f.behind)
          end [] placed =
              let all : seen ≡ h.left = h.seen ∙ ap (λ bs. bs ++ h.left) placed in
              let none : 0 ≡ 0 + length h.read = omega (arith, ap length placed) in
              subst (λ n. EndsIn true n h.left finished (moved 0 f.behind)) none
              (ends_first h.left finished f.behind (subst IsHeadless all headless)
              (subst (λ n. EndsInItems n h.left finished f.behind) (ap length placed) h.ends))
          end (x ∷ xs) placed = ends_behind 0 (length h.read) h.left finished f.behind h.ends

  -- items behind a head
  items_behind : (t : Ty) (rest : List ℕ) → run 256 seen start ≡ ends t rest
      → IsFileText limit bytes (behind_head (Some t) (length seen - length rest) (file_items (limit - (length seen - length rest)) (drop (length seen - length rest) bytes)))
  items_behind t rest e =
      let c = ends_head 256 seen rest t e in
      let size : length seen ≡ length c.0 + length rest = ap length c.1 ∙ length-append c.0 rest in
      let n : length seen - length rest ≡ length c.0 = omega arith in
      subst (λ k. IsFileText limit bytes (behind_head (Some t) k (file_items (limit - k) (drop k bytes)))) (sym n)
      (by c.0 c.1 c.2 (file_items (limit - length c.0) (drop (length c.0) bytes)) (is_found (limit - length c.0) (drop (length c.0) bytes)))
    where
      by : (head : List ℕ) → seen ≡ head ++ rest → States (Some t) head → (f : Found) → IsFound (limit - length head) (drop (length head) bytes) f
          → IsFileText limit bytes (behind_head (Some t) (length head) f)
      by head is states f h =
          let split : bytes ≡ head ++ (rest ++ drop limit bytes) = sym (take-append-drop limit bytes) ∙ (ap (λ bs. bs ++ drop limit bytes) is ∙ append_assoc head rest (drop limit bytes)) in
          let short : length head ≤ limit = omega (arith, ap length is, length-append head rest, length-take limit bytes) in
          let within : length head ≤ length bytes = omega (arith, ap length split, length-append head (rest ++ drop limit bytes)) in
          let cut : bytes ≡ head ++ drop (length head) bytes =
          sym (take-append-drop (length head) bytes) ∙ ap (λ bs. bs ++ drop (length head) bytes) (front_taken bytes head (rest ++ drop limit bytes) split) in
          let room : limit ≡ length head + (limit - length head) = omega arith in
          let whole : seen ≡ head ++ take (limit - length head) (drop (length head) bytes) =
          ap (take limit) cut ∙ (ap (λ n. take n (head ++ drop (length head) bytes)) room ∙ take-append-add head (drop (length head) bytes) (limit - length head)) in
          let same : nat_le (length (drop (length head) bytes)) (limit - length head) ≡ finished =
          ap (λ n. nat_le n (limit - length head)) (length-drop (length head) bytes) ∙ same_test (length head) (length bytes) limit within short in
          record {
            front = head;
            read = h.read;
            left = h.left;
            seen = whole ∙ ap (λ bs. head ++ bs) h.seen;
            states = states;
            items = subst (λ k. Placed k h.read (moved_items (length head) f.items)) (let same : length head + 0 ≡ length head = omega arith in same) (placed_behind (length head) 0 h.read f.items h.items);
            ends = ends_behind (length head) (length h.read) h.left finished f.behind (subst (λ b. EndsInItems (length h.read) h.left b f.behind) same h.ends);
          }

  -- no head and no item
  nothing : (e : FileEnd) → EndsIn true 0 seen finished e → IsFileText limit bytes (no_text e)
  nothing e end = record { front = []; read = []; left = seen; seen = refl; states = refl; items = refl; ends = end }

  same_bad : (left : List ℕ) (b c : Bool) (j k : ℕ) → b ≡ c → j ≡ k → IsBad (standing true 0 left b) j → IsBad (standing true 0 left c) k
  same_bad left b c j k e f bad = subst (λ d. IsBad (standing true 0 left d) k) e (subst (IsBad (standing true 0 left b)) f bad)

  pub is_file_text : IsFileText limit bytes (file_text limit bytes)
  unfolding file_text
  is_file_text = by (run 256 seen start) refl finished refl
    where
      by : (o : Run) → run 256 seen start ≡ o → (whole : Bool) → finished ≡ whole → IsFileText limit bytes (text_by limit bytes o whole)
      by (ends t rest) e whole f = items_behind t rest e
      by no_head e whole f = items_alone (subst IsHeadless (append-nil seen) (no_head_more seen [] e))
      by (fails rest) e whole f =
          let p : ℕ = length seen - length rest in
          nothing (BadAt p) (p, (let same : p ≡ 0 + p = omega arith in same), (fails_bad (reading 0 seen finished) rest e).1)
      by (deep rest) e whole f =
          let p : ℕ = length seen - length rest in
          nothing (TooDeepAt p) (p, (let same : p ≡ 0 + p = omega arith in same), deep_deep (reading 0 seen finished) rest e)
      by (more m) e false f = nothing PastLimit (f, more_begun seen m e)
      by (more m) e true f = at (may_be_item m.phase) refl
        where
          at : (b : Bool) → may_be_item m.phase ≡ b → IsFileText limit bytes (cond b (behind_head None 0 (file_items limit bytes)) (no_text (BadAt (length bytes))))
          at true g = items_alone (more_item seen m e g)
          at false g =
              let all : length bytes ≤ limit = at_most_from (length bytes) limit f in
              let size : length seen ≡ length bytes = omega (arith, length-take limit bytes) in
              nothing (BadAt (length bytes))
              (length bytes, (let same : length bytes ≡ 0 + length bytes = omega arith in same), same_bad seen true finished (length seen) (length bytes) (sym f) size (more_bad (reading 0 seen true) m e g refl))

items_of : (place : ℕ) (bytes : List ℕ) (xs : List FileItem) → Placed place bytes xs → Items bytes (values_of xs)
items_of place bytes [] h = h
items_of place bytes (x ∷ xs) (item, rest, is, at, spells, others) = (item, rest, is, spells, items_of (place + length item) rest xs others)

-- what is so found, shows that head and these items
pub file_shows : (limit : ℕ) (bytes : List ℕ) (f : FileText) → IsFileText limit bytes f → Shows limit bytes f.head (values_of f.items) f.behind
file_shows limit bytes f h = record { front = h.front; read = h.read; left = h.left; seen = h.seen; states = h.states; items = items_of (length h.front) h.read f.items h.items; ends = h.ends }

pub text_shows : (limit : ℕ) (bytes : List ℕ) → Shows limit bytes (file_text limit bytes).head (values_of (file_text limit bytes).items) (file_text limit bytes).behind
text_shows limit bytes = file_shows limit bytes (file_text limit bytes) (is_file_text limit bytes)
