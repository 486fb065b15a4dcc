-- What is told of stands so in what was read.
use Rattle.std.proofs.Common.{◌≡◌, ◌⊎◌, inl, inr, ℕ, ◌+◌, ◌<◌, true, false, List, [], ◌∷◌, ◌++◌, length, Option, Some, refl, sym, ap, subst, ◌∙◌, arith, append_assoc, length-append, slice_get}
use Rattle.std.specs.Option.{option_map}
use Rattle.std.proofs.lemmas.Bool.{false≢true}
use Rattle.std.proofs.lemmas.Grind.{common_steps}
use Rattle.std.proofs.lemmas.Option.{gets, same_Some}
use Rattle.kl_value.specs.declared.Value.{Value}
use Rattle.kl_type.specs.Has.{has_type}
use Rattle.kl_type.specs.declared.ground.Ty.{Ty}
use Rattle.kl_outcome.specs.Typed.{Has}
use Rattle.kl_outcome.proofs.Having.{tells}
use Rattle.kl_outside.specs.Files.{Seen}
use Rattle.kl_exchange.specs.FileItems.{FileEnd, WholeText, PastLimit}
use Rattle.kl_exchange.specs.FileReading.{Left}
use Rattle.kl_exchange.specs.Found.{values_of}
use Rattle.kl_heads.specs.FileReading.{AsSeen, EndsSo, HasRead, HeadedFile, IsMet, IsMetBy, limit_of, place_of}
use Rattle.kl_heads.specs.Files.{Shows}
use Rattle.kl_heads.specs.Found.{file_text}
use Rattle.kl_ask.specs.Driver.{Kept, StopsAt}
use Rattle.kl_ask.specs.declared.ask.Drift.TheVariants as drift
use Rattle.kl_nested.specs.Contents.{behind_of, head_as, item_ty, spelt_in}
use Rattle.kl_nested.specs.Handing.{ShowsAll, ShowsDrift}
use Rattle.kl_nested.specs.Nested.{head_of, stated_of}
use Rattle.kl_nested.specs.declared.parts.Source.{Source}
use Rattle.kl_nested.proofs.Collections.{item_is}
use Rattle.kl_heads.proofs.FoundText.{text_shows}
use Rattle.kl_heads.proofs.OneEnd.{one_text}
use Rattle.kl_heads.proofs.Shown.{first_shown}
use Rattle.kl_heads.proofs.SoFar.{stated}

get_behind : (vs : List Value) (v : Value) (us : List Value) (n : ℕ) → n ≡ length vs → slice_get (vs ++ v ∷ us) n ≡ Some v
get_behind vs v us n is = grind (arith, gets, common_steps)

module _ (limit : ℕ) (bytes : List ℕ) where
  spelt_end : (head : Option Ty) (vs : List Value) (end : FileEnd) → Shows limit bytes head vs end
      → ((spelt_in limit bytes).items ≡ vs) × ((spelt_in limit bytes).behind ≡ behind_of end)
  spelt_end head vs end shows =
      let one = one_text limit bytes (file_text limit bytes).head head (values_of (file_text limit bytes).items) vs (file_text limit bytes).behind end (text_shows limit bytes) shows in
      (one.1.0, ap behind_of one.1.1)

  spelt_front : (head : Option Ty) (vs : List Value) (now : HeadedFile) (left : Left) → limit_of now ≡ limit → HasRead (Some (Some bytes)) head vs now left
      → (us : List Value) × ((spelt_in limit bytes).items ≡ vs ++ us)
  spelt_front head vs now left same has =
      let shown = first_shown (Some (Some bytes)) head (file_text limit bytes).head vs (values_of (file_text limit bytes).items) now left bytes (file_text limit bytes).behind has refl
      (subst (λ n. Shows n bytes (file_text limit bytes).head (values_of (file_text limit bytes).items) (file_text limit bytes).behind) (sym same) (text_shows limit bytes)) in
      (shown.1.0, shown.1.1)

-- What was read of the head, all that came states.
pub says_head : (limit : ℕ) (head : Option Ty) (vs : List Value) (now : HeadedFile) (q : Seen) → limit_of now ≡ limit → HasRead (Some (Some q.bytes)) head vs now (Some (Some [])) → IsMetBy now q
    → (spelt_in limit q.bytes).head q.ended ≡ Some (head_as head)
says_head limit head vs now q same has met =
    ap (option_map head_as) (stated vs now (Some (Some [])) q.bytes q.ended met.ended limit head same has)

-- as many bytes were read as were fetched, where the end was met
pub read_to_end : (bytes : List ℕ) (head : Option Ty) (vs : List Value) (now : HeadedFile) (left : Left) → HasRead (Some (Some bytes)) head vs now left → now.items.text.finished ≡ true
    → length bytes ≡ place_of now + length now.items.text.left
read_to_end bytes head vs now left has finished =
    let behind = has.behind in
    let r = has.items.remains behind.0 behind.2 in
    let whole : length bytes ≡ length has.front + length behind.0 = ap length behind.1 ∙ length-append has.front behind.0 in
    let a : length behind.0 ≡ length (has.items.read ++ now.items.text.left) + length (r.beyond ++ r.behind) = ap length r.whole ∙ length-append (has.items.read ++ now.items.text.left) (r.beyond ++ r.behind) in
    let b : length (has.items.read ++ now.items.text.left) ≡ length has.items.read + length now.items.text.left = length-append has.items.read now.items.text.left in
    let c : length (r.beyond ++ r.behind) ≡ 0 = ap length (r.end_met finished) in
    let d = has.items.place in
    let e = has.size in
    omega (arith, whole, a, b, c, d, e)

module _ (limit : ℕ) (s : Source) (now : HeadedFile) (seen : Option Seen) where
  -- what is no head and no item, or nests too deep
  pub unread_shown : (head : Option Ty) (vs : List Value) (end : FileEnd) (place : ℕ) → behind_of end ≡ StopsAt place → ((bytes : List ℕ) → IsMet end bytes now → (place < length bytes) ⊎ (now.items.text.finished ≡ true))
      → limit_of now ≡ limit → AsSeen (λ first left. EndsSo first head vs end now) now seen → ShowsDrift limit s seen (drift.Unread place)
  unread_shown head vs end place stops met same has = λ q is.
      let so = has q is in
      let ends = so.0 q.bytes refl in
      let at = spelt_end limit q.bytes head vs end (subst (λ n. Shows n q.bytes head vs end) same ends.0) in
      (at.1 ∙ stops, elim (met q.bytes ends.1) [ inl within ↦ inl within | inr finished ↦ inr (so.1.ended finished) ])

  -- more bytes than are looked at
  pub past_shown : (head : Option Ty) (vs : List Value) → limit_of now ≡ limit → AsSeen (λ first left. EndsSo first head vs PastLimit now) now seen → ShowsDrift limit s seen (drift.Bytes s.bytes (limit + 1))
  past_shown head vs same has = λ q is. let so = has q is in (so.1.passed (so.0 q.bytes refl).1 ∙ ap (λ n. n + 1) same, inl (limit, refl, refl))

  -- what is stated of the type
  pub header_shown : (head : Option Ty) → limit_of now ≡ limit → AsSeen (λ first left. HasRead first head [] now left) now seen → ShowsDrift limit s seen (drift.Header (head_of s) (head_as head))
  header_shown head same has = λ q is. let so = has q is in says_head limit head [] now q same so.0 so.1

  module _ (vs : List Value) (same : limit_of now ≡ limit) where
    -- an item that lacks the type
    pub misfit_shown : (v : Value) (taken : ℕ) → taken ≡ length vs → AsSeen (λ first left. HasRead first (stated_of s) (vs ++ v ∷ []) now left) now seen → has_type v (item_ty s.ty) ≡ false
        → ShowsDrift limit s seen (drift.Misfit taken)
    misfit_shown v taken counted has lacks = λ q is.
        let front = spelt_front limit q.bytes (stated_of s) (vs ++ v ∷ []) now (Some (Some [])) same (has q is).0 in (
          v,
          ap (λ ws. slice_get ws taken) (front.1 ∙ append_assoc vs (v ∷ []) front.0) ∙ get_behind vs v front.0 taken counted,
          λ inhabits. let typed = tells v (item_ty s.ty) (subst (λ g. Has g v) (sym (item_is s.ty)) inhabits.0) in false≢true (sym lacks ∙ typed),
        )

    -- an item more than were kept
    pub more_shown : (v : Value) → s.count ≡ length vs → AsSeen (λ first left. HasRead first (stated_of s) (vs ++ v ∷ []) now left) now seen → ShowsDrift limit s seen (drift.Count s.count (s.count + 1))
    more_shown v counted has = λ q is.
        let front = spelt_front limit q.bytes (stated_of s) (vs ++ v ∷ []) now (Some (Some [])) same (has q is).0 in
        let size : length (spelt_in limit q.bytes).items ≡ length (vs ++ v ∷ []) + length front.0 = ap length front.1 ∙ length-append (vs ++ v ∷ []) front.0 in
        let one : length (vs ++ v ∷ []) ≡ length vs + 1 = length-append vs (v ∷ []) in
        inr (omega arith, omega (arith, size, one, counted))

    module _ (has : AsSeen (λ first left. HasRead first (stated_of s) vs now left × EndsSo first (stated_of s) vs WholeText now) now seen) (finished : now.items.text.finished ≡ true) where
      at_end : (q : Seen) → seen ≡ Some q → ((spelt_in limit q.bytes).items ≡ vs) × ((spelt_in limit q.bytes).behind ≡ behind_of WholeText)
      at_end q is = spelt_end limit q.bytes (stated_of s) vs WholeText (subst (λ n. Shows n q.bytes (stated_of s) vs WholeText) same ((has q is).0.1 q.bytes refl).0)

      -- fewer items than were kept
      pub fewer_shown : (taken : ℕ) → taken ≡ length vs → ShowsDrift limit s seen (drift.Count s.count taken)
      fewer_shown taken counted = λ q is. let end = at_end q is in inl (record { ended = (has q is).1.ended finished; behind = end.1; size = ap length end.0 ∙ sym counted })

      -- another number of bytes
      pub bytes_shown : (size : ℕ) → s.count ≡ length vs → size ≡ place_of now + length now.items.text.left → ShowsDrift limit s seen (drift.Bytes s.bytes size)
      bytes_shown size counted total = λ q is.
          let end = at_end q is in (
            read_to_end q.bytes (stated_of s) vs now (Some (Some [])) (has q is).0.0 finished ∙ sym total,
            inr (record { ended = (has q is).1.ended finished; behind = end.1; size = ap length end.0 ∙ sym counted }),
          )

      -- all is as it was kept
      pub all_shown : (size : ℕ) → s.count ≡ length vs → size ≡ place_of now + length now.items.text.left → size ≡ s.bytes → ShowsAll limit s seen
      all_shown size counted total kept = λ q is.
          let end = at_end q is in
          record {
            all = record { ended = (has q is).1.ended finished; behind = end.1; size = ap length end.0 ∙ sym counted };
            size = λ k at. read_to_end q.bytes (stated_of s) vs now (Some (Some [])) (has q is).0.0 finished ∙ sym total ∙ kept ∙ ap (λ (k : Kept). k.bytes) (same_Some _ _ at);
            head = λ k at. let so = has q is in says_head limit (stated_of s) vs now q same so.0.0 so.1 ∙ ap (λ (k : Kept). Some k.head) (same_Some _ _ at);
          }
