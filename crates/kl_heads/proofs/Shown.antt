-- What was read of a file by any time is a front of what it shows.
use Rattle.std.proofs.Common.{◌≡◌, ℕ, ◌+◌, ◌-◌, ◌≤◌, true, List, [], ◌∷◌, ◌++◌, length, take, drop, Option, Some, None, refl, sym, ap, subst, ◌∙◌, arith, inl, append_assoc, length-append, take-append-drop}
use Rattle.std.proofs.Math.Seq.{take-append-add}
use Rattle.std.proofs.lemmas.Bool.{false≢true}
use Rattle.kl_value.specs.declared.Value.{Value}
use Rattle.kl_type.specs.declared.ground.Ty.{Ty}
use Rattle.kl_exchange.specs.FileItems.{Items, FileEnd}
use Rattle.kl_exchange.specs.FileReading.{Left}
use Rattle.kl_exchange.proofs.FileItems.{first_items}
use Rattle.kl_heads.specs.FileReading.{HeadedFile, Behind, HasRead, limit_of}
use Rattle.kl_heads.specs.Files.{States, is_first, Shows}
use Rattle.kl_heads.specs.Texts.{IsHeadless}
use Rattle.kl_heads.proofs.Items.{head_or_item, head_typed, typed_grows}
use Rattle.kl_heads.proofs.OneEnd.{all_of, cut_front, end_none}
use Rattle.kl_heads.proofs.Reaching.{one_head}

abbrev Goes : Option Ty → List Value → Option Ty → List Value → Type 0
Goes head vs other ws = (head ≡ other) × ((us : List Value) × (ws ≡ vs ++ us))

module _ (limit : ℕ) (bytes front read x : List ℕ) (seen : take limit bytes ≡ front ++ (read ++ x)) where
  headed : (u : Ty) (ws : List Value) (end : FileEnd) → Shows limit bytes (Some u) ws end → IsHeadless bytes → ⊥
  headed u ws end s headless =
      let whole : bytes ≡ s.front ++ ((s.read ++ s.left) ++ drop limit bytes) =
      sym (take-append-drop limit bytes) ∙ (ap (λ bs. bs ++ drop limit bytes) s.seen ∙ append_assoc s.front (s.read ++ s.left) (drop limit bytes)) in
      let typed = typed_grows s.front ((s.read ++ s.left) ++ drop limit bytes) (head_typed 256 s.front u s.states) in
      headless typed.0 typed.1 typed.3 (whole ∙ typed.2)

  goes_on : (head other : Option Ty) (vs ws : List Value) (end : FileEnd) → States head front → Items read vs → Shows limit bytes other ws end
      → (is_first head vs ≡ true → IsHeadless bytes) → Goes head vs other ws
  goes_on None None vs ws end states items s headless =
      let behind : read ++ x ≡ s.read ++ s.left =
      ap (λ bs. bs ++ (read ++ x)) (sym states) ∙ (sym seen ∙ (s.seen ∙ ap (λ bs. bs ++ (s.read ++ s.left)) s.states)) in
      (refl, first_items read x s.read s.left vs ws items s.items (all_of limit bytes None ws end s) behind)
  goes_on None (Some u) [] ws end states items s headless = absurd (headed u ws end s (headless refl))
  goes_on None (Some u) (v ∷ vs) ws end states items s headless =
      let whole : s.front ++ (s.read ++ s.left) ≡ items.0 ++ (items.1 ++ x) =
      sym s.seen ∙ (seen ∙ (ap (λ bs. bs ++ (read ++ x)) states ∙ (ap (λ bs. bs ++ x) items.2 ∙ append_assoc items.0 items.1 x))) in
      absurd (head_or_item 256 256 s.front items.0 (s.read ++ s.left) (items.1 ++ x) u v s.states items.3 whole)
  goes_on (Some t) None vs [] end states items s headless =
      let whole : s.left ≡ front ++ (read ++ x) = ap (λ bs. bs ++ s.left) (sym s.items) ∙ (ap (λ bs. bs ++ (s.read ++ s.left)) (sym s.states) ∙ (sym s.seen ∙ seen)) in
      absurd (end_none true (length s.front + length s.read) s.left _ end s.ends front (read ++ x) whole (inl (t, states)))
  goes_on (Some t) None vs (w ∷ ws) end states items s headless =
      let others = s.items in
      let whole : front ++ (read ++ x) ≡ others.0 ++ (others.1 ++ s.left) =
      sym seen ∙ (s.seen ∙ (ap (λ bs. bs ++ (s.read ++ s.left)) s.states ∙ (ap (λ bs. bs ++ s.left) others.2 ∙ append_assoc others.0 others.1 s.left))) in
      absurd (head_or_item 256 256 front others.0 (read ++ x) (others.1 ++ s.left) t w states others.3 whole)
  goes_on (Some t) (Some u) vs ws end states items s headless =
      let same = sym seen ∙ s.seen in
      let one = one_head 256 256 front s.front (read ++ x) (s.read ++ s.left) t u states s.states same in
      let behind : read ++ x ≡ s.read ++ s.left = cut_front front (read ++ x) (s.read ++ s.left) (same ∙ ap (λ bs. bs ++ (s.read ++ s.left)) (sym one.0)) in
      (ap Some one.1, first_items read x s.read s.left vs ws items s.items (all_of limit bytes (Some u) ws end s) behind)

looked_at : (limit : ℕ) (bytes front read tail : List ℕ) → bytes ≡ front ++ (read ++ tail) → length front + length read ≤ limit
    → take limit bytes ≡ front ++ (read ++ take (limit - (length front + length read)) tail)
looked_at limit bytes front read tail is within =
    let room : ℕ = limit - (length front + length read) in
    let size : limit ≡ length (front ++ read) + room = omega (arith, length-append front read) in
    ap (take limit) (is ∙ sym (append_assoc front read tail))
    ∙ (ap (λ n. take n ((front ++ read) ++ tail)) size ∙ (take-append-add (front ++ read) tail room ∙ append_assoc front read (take room tail)))

bare : (head : Option Ty) (vs : List Value) (front read tail : List ℕ) → is_first head vs ≡ true → States head front → Items read vs → front ++ (read ++ tail) ≡ tail
bare None [] front read tail first states items = ap (λ bs. bs ++ (read ++ tail)) states ∙ ap (λ bs. bs ++ tail) items
bare None (v ∷ vs) front read tail first states items = absurd (false≢true first)
bare (Some t) vs front read tail first states items = absurd (false≢true first)

pub first_shown : (first : Left) (head other : Option Ty) (vs ws : List Value) (now : HeadedFile) (left : Left) (bytes : List ℕ) (end : FileEnd)
    → HasRead first head vs now left → first ≡ Some (Some bytes) → Shows (limit_of now) bytes other ws end → Goes head vs other ws
first_shown first head other vs ws now left bytes end has known s =
    let b = subst (λ l. Behind has.front l has.rest) known has.behind in
    let r = has.items.remains b.0 b.2 in
    let read : List ℕ = has.items.read in
    let tail : List ℕ = now.items.text.left ++ (r.beyond ++ r.behind) in
    let whole : bytes ≡ has.front ++ (read ++ tail) =
    b.1 ∙ ap (λ bs. has.front ++ bs) (r.whole ∙ append_assoc read now.items.text.left (r.beyond ++ r.behind)) in
    let place = has.items.place in
    let within = has.items.within in
    let size = has.size in
    let fits : length has.front + length read ≤ limit_of now = omega arith in
    goes_on (limit_of now) bytes has.front read (take (limit_of now - (length has.front + length read)) tail)
    (looked_at (limit_of now) bytes has.front read tail whole fits) head other vs ws end has.states has.items.items s
    (λ none. subst IsHeadless (sym (whole ∙ bare head vs has.front read tail none has.states has.items.items)) (has.headless none (r.beyond ++ r.behind) (λ t. r.end_met t)))
