-- What stands in a file of which a head and items were read.
use Rattle.std.proofs.Common.{◌≡◌, ℕ, ◌+◌, true, false, Bool, List, [], ◌∷◌, ◌++◌, length, drop, Option, Some, None, refl, sym, ap, subst, ◌∙◌, arith, append_assoc, take-append-drop}
use Rattle.std.proofs.lemmas.List.{append_cancel_left}
use Rattle.kl_value.specs.declared.Value.{Value}
use Rattle.kl_type.specs.Has.{has_type}
use Rattle.kl_type.specs.declared.ground.Ty.{Ty}
use Rattle.kl_exchange.specs.FileItems.{FileEnd, WholeText, BadAt, TooDeepAt, PastLimit}
use Rattle.kl_exchange.specs.FileReading.{Left}
use Rattle.kl_exchange.specs.Found.{FileItem, values_of}
use Rattle.kl_heads.specs.FileReading.{HasRead, HeadedFile, limit_of, place_of}
use Rattle.kl_heads.specs.Files.{Shows, States}
use Rattle.kl_heads.specs.Found.{FileText, file_text}
use Rattle.kl_heads.specs.Stated.{states_no_other}
use Rattle.kl_ask.specs.Driver.{Bad, Rows}
use Rattle.kl_nested.specs.Contents.{first_misfit, stored_behind, stored_in, stored_unless}
use Rattle.kl_nested.specs.Handing.{AllHave}
use Rattle.kl_heads.proofs.FoundText.{is_file_text, text_shows}
use Rattle.kl_heads.proofs.OneEnd.{one_text}
use Rattle.kl_heads.proofs.OneFile.{one_states}
use Rattle.kl_heads.proofs.Shown.{first_shown}
use Rattle.kl_nested.proofs.Places.{none_misfit, misfit_at}

-- what is not misfit has the type
all_have : (t : Ty) (xs : List FileItem) → first_misfit t xs ≡ None → AllHave t (values_of xs)
all_have t [] h = tt
all_have t (x ∷ xs) h = by (has_type x.1 t) refl (all_have t xs)
  where
    by : (b : Bool) → has_type x.1 t ≡ b → (first_misfit t xs ≡ None → AllHave t (values_of xs)) → AllHave t (values_of (x ∷ xs))
    by true is more = (is, more (rw is at h))
    by false is more = absurd (let k = rw is at h in cc)

-- of a file at most `limit` bytes are looked at
module _ (limit : ℕ) (bytes : List ℕ) (item : Ty) where
  abbrev text : FileText
  text = file_text limit bytes

  -- its head is the one that was read
  pub head_read : (head : Option Ty) (vs : List Value) (now : HeadedFile) (left : Left) → limit_of now ≡ limit → HasRead (Some (Some bytes)) head vs now left → head ≡ text.head
  head_read head vs now left same has =
      (first_shown (Some (Some bytes)) head text.head vs (values_of text.items) now left bytes text.behind has refl
      (subst (λ n. Shows n bytes text.head (values_of text.items) text.behind) (sym same) (text_shows limit bytes))).0

  stored_fitting : states_no_other item text.head ≡ true → stored_in limit bytes item ≡ stored_unless limit (first_misfit item text.items) text
  stored_fitting fits = rw fits refl

  -- another head
  pub head_differs : (head : Option Ty) (vs : List Value) (now : HeadedFile) (left : Left) → limit_of now ≡ limit → HasRead (Some (Some bytes)) head vs now left → states_no_other item head ≡ false
      → stored_in limit bytes item ≡ Bad 0
  head_differs head vs now left same has other =
      let differs : states_no_other item text.head ≡ false = sym (ap (states_no_other item) (head_read head vs now left same has)) ∙ other in
      rw differs refl

  -- an end behind items that have the type
  pub ends_at : (head : Option Ty) (vs : List Value) (end : FileEnd) → states_no_other item head ≡ true → AllHave item vs → Shows limit bytes head vs end → stored_in limit bytes item ≡ stored_behind limit vs end
  ends_at head vs end fits have shows =
      let one = one_text limit bytes text.head head (values_of text.items) vs text.behind end (text_shows limit bytes) shows in
      let none : first_misfit item text.items ≡ None = none_misfit item text.items (subst (AllHave item) (sym one.1.0) have) in
      stored_fitting (ap (states_no_other item) one.0 ∙ fits) ∙ ap (λ o. stored_unless limit o text) none ∙ (λ i. stored_behind limit (one.1.0 i) (one.1.1 i))

  -- an item that lacks the type, behind items that have it
  pub misfits : (head : Option Ty) (vs : List Value) (v : Value) (now then : HeadedFile) (left left' : Left) → limit_of then ≡ limit → states_no_other item head ≡ true → HasRead (Some (Some bytes)) head vs now left
      → HasRead (Some (Some bytes)) head (vs ++ v ∷ []) then left' → AllHave item vs → has_type v item ≡ false → stored_in limit bytes item ≡ Bad (place_of now)
  misfits head vs v now then left left' same fits before after have misfit =
      let found = is_file_text limit bytes in
      let shows : Shows (limit_of then) bytes text.head (values_of text.items) text.behind = subst (λ n. Shows n bytes text.head (values_of text.items) text.behind) (sym same) (text_shows limit bytes) in
      let front = first_shown (Some (Some bytes)) head text.head (vs ++ v ∷ []) (values_of text.items) then left' bytes text.behind after refl shows in
      let behind = before.behind in
      let r = before.items.remains behind.0 behind.2 in
      let more : behind.0 ≡ before.items.read ++ (now.items.text.left ++ (r.beyond ++ r.behind)) = r.whole ∙ append_assoc before.items.read now.items.text.left (r.beyond ++ r.behind) in
      let cut : before.front ++ behind.0 ≡ found.front ++ (found.read ++ (found.left ++ drop limit bytes)) =
      sym behind.1 ∙ sym (take-append-drop limit bytes) ∙ ap (λ z. z ++ drop limit bytes) found.seen ∙ append_assoc found.front (found.read ++ found.left) (drop limit bytes) ∙ ap (λ z. found.front ++ z) (append_assoc found.read found.left (drop limit bytes)) in
      let one : before.front ≡ found.front = one_states head before.front found.front behind.0 (found.read ++ (found.left ++ drop limit bytes)) before.states (subst (λ h. States h found.front) (sym front.0) found.states) cut in
      let split : before.items.read ++ (now.items.text.left ++ (r.beyond ++ r.behind)) ≡ found.read ++ (found.left ++ drop limit bytes) =
      sym more ∙ append_cancel_left before.front behind.0 (found.read ++ (found.left ++ drop limit bytes)) (cut ∙ ap (λ z. z ++ (found.read ++ (found.left ++ drop limit bytes))) (sym one)) in
      let at = misfit_at item vs v front.1.0 (length found.front) text.items before.items.read found.read (now.items.text.left ++ (r.beyond ++ r.behind)) (found.left ++ drop limit bytes) before.items.items have misfit found.items split
      (front.1.1 ∙ append_assoc vs (v ∷ []) front.1.0) in
      let place : length found.front + length before.items.read ≡ place_of now = let k = before.items.place in let m = before.size in let n : length before.front ≡ length found.front = ap length one in omega arith in
      stored_fitting (sym (ap (states_no_other item) front.0) ∙ fits) ∙ ap (λ o. stored_unless limit o text) at ∙ ap Bad place

  -- a file that holds rows shows them and no more, they have the type, and so has its head
  pub holds : (rows : List Value) → stored_in limit bytes item ≡ Rows rows → Shows limit bytes text.head rows WholeText × AllHave item rows × (states_no_other item text.head ≡ true)
  holds rows is = by_head (states_no_other item text.head) refl
    where
      same_rows : {xs ys : List Value} → Rows xs ≡ Rows ys → xs ≡ ys
      same_rows h = cc

      at_end : (end : FileEnd) (vs : List Value) → Shows limit bytes text.head vs end → stored_behind limit vs end ≡ Rows rows → Shows limit bytes text.head rows WholeText × (vs ≡ rows)
      at_end WholeText vs shows e = (subst (λ xs. Shows limit bytes text.head xs WholeText) (same_rows e) shows, same_rows e)
      at_end (BadAt p) vs shows e = absurd cc
      at_end (TooDeepAt p) vs shows e = absurd cc
      at_end PastLimit vs shows e = absurd cc

      by : stored_unless limit (first_misfit item text.items) text ≡ Rows rows → (o : Option ℕ) → first_misfit item text.items ≡ o → Shows limit bytes text.head rows WholeText × AllHave item rows
      by stored (Some p) none = absurd (let k = rw none at stored in cc)
      by stored None none =
          let end = at_end text.behind (values_of text.items) (text_shows limit bytes) (rw none at stored) in
          (end.0, subst (AllHave item) end.1 (all_have item text.items none))

      by_head : (b : Bool) → states_no_other item text.head ≡ b → Shows limit bytes text.head rows WholeText × AllHave item rows × (states_no_other item text.head ≡ true)
      by_head true fits = let so = by (sym (stored_fitting fits) ∙ is) (first_misfit item text.items) refl in (so.0, so.1, fits)
      by_head false differs = absurd (let k = rw differs at is in cc)
