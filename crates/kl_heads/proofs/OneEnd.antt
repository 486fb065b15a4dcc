-- What stands at the front of some bytes stands there alone, and bytes left have one end.
use Rattle.std.proofs.Common.{◌≡◌, inl, inr, ℕ, suc, zero, ◌+◌, ◌<◌, ◌≤◌, Bool, true, false, List, [], ◌∷◌, ◌++◌, length, take, drop, refl, sym, ap, ap₂, subst, ◌∙◌, nat_le, arith, append_assoc, append-nil, length-append, take-append-drop, IsTrue, Option, Some, None}
use Rattle.std.proofs.lemmas.Bool.{cases_lt, false≢true}
use Rattle.kl_value.specs.declared.Value.{Value}
use Rattle.kl_type.specs.declared.ground.Ty.{Ty}
use Rattle.kl_exchange.specs.FileItems.{Items, FileEnd, WholeText, BadAt, TooDeepAt, PastLimit}
use Rattle.kl_exchange.specs.Grammar.{Blank}
use Rattle.kl_exchange.specs.Reading.{NoItem}
use Rattle.kl_exchange.proofs.FileItems.{one_first, taken_front, one_items}
use Rattle.kl_exchange.proofs.OneAnswer.{one_front}
use Rattle.kl_exchange.proofs.Reading.{Stuck as StuckItem, none_there, one_item}
use Rattle.kl_exchange.proofs.Runs.{run_blank as items_blank}
use Rattle.kl_heads.specs.Files.{is_first, standing, EndsIn, Shows}
use Rattle.kl_heads.specs.Reading.{IsNext, NoneNext, IsBad, IsDeep}
use Rattle.kl_heads.specs.Texts.{MayFollow, Begins}
use Rattle.kl_heads.proofs.Heading.{head_text}
use Rattle.kl_heads.proofs.Items.{head_or_item, head_typed, typed_grows, typed_stuck}
use Rattle.kl_heads.proofs.Late.{Typed}
use Rattle.kl_heads.proofs.Reaching.{one_head}

-- ---- one head or item at the front

pub one_next : (first : Bool) (m n : ℕ) (a b x y : List ℕ) → IsNext first m a → IsNext first n b → a ++ x ≡ b ++ y → a ≡ b
one_next true m n a b x y (inl (t, h)) (inl (u, k)) e = (one_head m n a b x y t u h k e).0
one_next true m n a b x y (inl (t, h)) (inr (v, i)) e = absurd (head_or_item m n a b x y t v h i e)
one_next true m n a b x y (inr (v, i)) (inl (t, h)) e = absurd (head_or_item n m b a y x t v h i (sym e))
one_next true m n a b x y (inr (v, i)) (inr (w, j)) e = (one_front m n a b x y v w i j e).0
one_next false m n a b x y (v, i) (w, j) e = (one_front m n a b x y v w i j e).0

pub next_follows : (first : Bool) (n : ℕ) (bytes : List ℕ) → IsNext first n bytes → MayFollow first n bytes
next_follows true n bytes (inl (t, h)) = head_text n bytes t h
next_follows true n bytes (inr (v, i)) = (None, v ∷ [], one_item n bytes v i)
next_follows false n bytes (v, i) = (v ∷ [], one_item n bytes v i)

pub begins_next : (first : Bool) (n : ℕ) (bytes u : List ℕ) → IsNext first n (bytes ++ u) → Begins first n bytes
begins_next first n bytes u next = record { more = u; whole = next_follows first n (bytes ++ u) next }

-- less than one has none whole at the front
pub begun_none : (first : Bool) (m n : ℕ) (left u : List ℕ) → 0 < length u → IsNext first m (left ++ u) → NoneNext first n left
begun_none first m n left u some begun item rest is next =
    let one = one_next first m n (left ++ u) item [] (rest ++ u) begun next (append-nil (left ++ u) ∙ (ap (λ bs. bs ++ u) is ∙ append_assoc item rest u)) in
    let size : length (left ++ u) ≡ length item = ap length one in
    let parts : length left ≡ length item + length rest = ap length is ∙ length-append item rest in
    omega (arith, length-append left u)

blank_items : (n : ℕ) (left : List ℕ) → Blank left → NoItem n left
blank_items n left blank = none_there n n left (omega arith) (λ v rest e. absurd (let met = sym (items_blank n left blank) ∙ e in cc))

-- nor has white space
pub blank_none : (first : Bool) (n : ℕ) (left : List ℕ) → Blank left → NoneNext first n left
blank_none true n left blank head rest is (inl (t, h)) =
    let typed = subst (StuckItem n) (items_blank n left blank) (typed_stuck n left (subst Typed (sym is) (typed_grows head rest (head_typed n head t h)))) in
    absurd typed
blank_none true n left blank item rest is (inr (v, i)) = blank_items n left blank item rest v is i
blank_none false n left blank item rest is (v, i) = blank_items n left blank item rest v is i

-- ---- what begins a text begins one also without its last bytes

pub begins_front : (first : Bool) (n : ℕ) (bytes behind : List ℕ) → Begins first n (bytes ++ behind) → Begins first n bytes
begins_front first n bytes behind b = record { more = behind ++ b.more; whole = subst (MayFollow first n) (append_assoc bytes behind b.more) b.whole }

begins_taken : (first : Bool) (n j k : ℕ) (xs : List ℕ) → j ≤ k → Begins first n (take k xs) → Begins first n (take j xs)
begins_taken first n j k xs le b = let r = taken_front j k xs le in begins_front first n (take j xs) r.0 (subst (Begins first n) r.1 b)

begins_any : (first : Bool) (n k : ℕ) (xs : List ℕ) → Begins first n xs → Begins first n (take k xs)
begins_any first n k xs b = begins_front first n (take k xs) (drop k xs) (subst (Begins first n) (sym (take-append-drop k xs)) b)

-- ---- one end

module _ (first : Bool) (place : ℕ) (left : List ℕ) (finished : Bool) where
  abbrev Bad : ℕ → Type 0
  Bad k = IsBad (standing first place left finished) k

  abbrev Deep : ℕ → Type 0
  Deep k = IsDeep (standing first place left finished) k

  blank_follows : (n : ℕ) → Blank left → MayFollow first n left
  blank_follows n blank = by first
    where
      by : (b : Bool) → MayFollow b n left
      by true = (None, [], blank)
      by false = ([], blank)

  blank_begins : (n : ℕ) → Blank left → Begins first n left
  blank_begins n blank = record { more = []; whole = subst (MayFollow first n) (sym (append-nil left)) (blank_follows n blank) }

  one_deep : (j k : ℕ) → Deep j → Deep k → j < k → ⊥
  one_deep j k deep also less = deep.too_deep (begins_taken first 256 (j + 1) k left (omega arith) also.begins)

  one_bad : (j k : ℕ) → Bad j → Bad k → j < k → ⊥
  one_bad j k bad also less = bad.longest k 256 less also.within also.begins

  not_whole : (k : ℕ) → Bad k → Blank left → ⊥
  not_whole k bad blank = bad.in_none 256 [] (λ t. refl) (subst (MayFollow first 256) (sym (append-nil left)) (blank_follows 256 blank))

  not_begun : (k : ℕ) (u : List ℕ) → finished ≡ false → Bad k → IsNext first 256 (left ++ u) → ⊥
  not_begun k u unended bad begun = bad.in_none 256 u (λ t. absurd (false≢true (subst IsTrue unended t))) (next_follows first 256 (left ++ u) begun)

  deep_or_bad : (j k : ℕ) → Deep j → Bad k → ⊥
  deep_or_bad j k deep bad = elim (cases_lt k (j + 1)) [
    | inl less ↦ bad.longest (j + 1) deep.deeper.0 less (let h = deep.within in omega arith) deep.deeper.1
    | inr past ↦ deep.too_deep (begins_taken first 256 (j + 1) k left past bad.begins)
  ]

  deep_or_begun : (j : ℕ) → Deep j → Begins first 256 left → ⊥
  deep_or_begun j deep begun = deep.too_deep (begins_any first 256 (j + 1) left begun)

  same_place : (j k p q : ℕ) → p ≡ place + j → q ≡ place + k → (j < k → ⊥) → (k < j → ⊥) → p ≡ q
  same_place j k p q x y a b =
      let le : k ≤ j = elim (cases_lt j k) [ inl less ↦ absurd (a less) | inr past ↦ past ] in
      let ge : j ≤ k = elim (cases_lt k j) [ inl less ↦ absurd (b less) | inr past ↦ past ] in
      omega arith

  -- bytes left have one end
  pub one_end : (e f : FileEnd) → EndsIn first place left finished e → EndsIn first place left finished f → e ≡ f
  one_end WholeText WholeText h k = refl
  one_end WholeText (BadAt q) h k = absurd (not_whole k.0 k.2 h.1)
  one_end WholeText (TooDeepAt q) h k = absurd (deep_or_begun k.0 k.2 (blank_begins 256 h.1))
  one_end WholeText PastLimit h k = absurd (false≢true (sym k.0 ∙ h.0))
  one_end (BadAt p) WholeText h k = absurd (not_whole h.0 h.2 k.1)
  one_end (BadAt p) (BadAt q) h k = ap BadAt (same_place h.0 k.0 p q h.1 k.1 (one_bad h.0 k.0 h.2 k.2) (one_bad k.0 h.0 k.2 h.2))
  one_end (BadAt p) (TooDeepAt q) h k = absurd (deep_or_bad k.0 h.0 k.2 h.2)
  one_end (BadAt p) PastLimit h k = absurd (not_begun h.0 k.1.0 k.0 h.2 k.1.2)
  one_end (TooDeepAt p) WholeText h k = absurd (deep_or_begun h.0 h.2 (blank_begins 256 k.1))
  one_end (TooDeepAt p) (BadAt q) h k = absurd (deep_or_bad h.0 k.0 h.2 k.2)
  one_end (TooDeepAt p) (TooDeepAt q) h k = ap TooDeepAt (same_place h.0 k.0 p q h.1 k.1 (one_deep h.0 k.0 h.2 k.2) (one_deep k.0 h.0 k.2 h.2))
  one_end (TooDeepAt p) PastLimit h k = absurd (deep_or_begun h.0 h.2 (begins_next first 256 left k.1.0 k.1.2))
  one_end PastLimit WholeText h k = absurd (false≢true (sym h.0 ∙ k.0))
  one_end PastLimit (BadAt q) h k = absurd (not_begun k.0 h.1.0 h.0 k.2 h.1.2)
  one_end PastLimit (TooDeepAt q) h k = absurd (deep_or_begun k.0 k.2 (begins_next first 256 left h.1.0 h.1.2))
  one_end PastLimit PastLimit h k = refl

  -- the bytes that an end speaks of have neither head nor item whole in front
  pub end_none : (e : FileEnd) → EndsIn first place left finished e → NoneNext first 256 left
  end_none WholeText h = blank_none first 256 left h.1
  end_none (BadAt p) h = h.2.none_next 256
  end_none (TooDeepAt p) h = h.2.none_next
  end_none PastLimit h = begun_none first 256 256 left h.1.0 h.1.1 h.1.2

-- no item, either
pub no_next_item : (first : Bool) (n : ℕ) (left : List ℕ) → NoneNext first n left → NoItem n left
no_next_item true n left none item rest v is i = none item rest is (inr (v, i))
no_next_item false n left none item rest v is i = none item rest is (v, i)

-- ---- a file has one head or none, one list of items and one end

pub cut_front : (a x y : List ℕ) → a ++ x ≡ a ++ y → x ≡ y
cut_front [] x y e = e
cut_front (b ∷ a) x y e = let others : a ++ x ≡ a ++ y = cc in cut_front a x y others

end_as : (a b : Bool) (p q : ℕ) (xs ys : List ℕ) (finished : Bool) (e : FileEnd) → a ≡ b → p ≡ q → xs ≡ ys → EndsIn a p xs finished e → EndsIn b q ys finished e
end_as a b p q xs ys finished e same place bytes h =
    subst (λ c. EndsIn c q ys finished e) same (subst (λ n. EndsIn a n ys finished e) place (subst (λ bs. EndsIn a p bs finished e) bytes h))

module _ (limit : ℕ) (bytes : List ℕ) where
  pub all_of : (head : Option Ty) (vs : List Value) (e : FileEnd) (s : Shows limit bytes head vs e) → NoItem 256 s.left
  all_of head vs e s =
      no_next_item (is_first head vs) 256 s.left (end_none (is_first head vs) (length s.front + length s.read) s.left (nat_le (length bytes) limit) e s.ends)

  -- behind the same front
  behind_front : (head other : Option Ty) (vs ws : List Value) (e f : FileEnd) (s : Shows limit bytes head vs e) (o : Shows limit bytes other ws f) → s.front ≡ o.front
      → ((us : List Value) → is_first other us ≡ is_first head us) → (vs ≡ ws) × (e ≡ f)
  behind_front head other vs ws e f s o same first =
      let behind : s.read ++ s.left ≡ o.read ++ o.left =
      cut_front s.front (s.read ++ s.left) (o.read ++ o.left) (sym s.seen ∙ (o.seen ∙ ap (λ bs. bs ++ (o.read ++ o.left)) (sym same))) in
      let one = one_items s.read s.left o.read o.left vs ws s.items o.items (all_of head vs e s) (all_of other ws f o) behind in
      let place : length o.front + length o.read ≡ length s.front + length s.read =
      (let size : length s.read + length s.left ≡ length o.read + length o.left = sym (length-append s.read s.left) ∙ (ap length behind ∙ length-append o.read o.left) in
      let left : length s.left ≡ length o.left = ap length one.1 in
      let front : length s.front ≡ length o.front = ap length same in
      omega arith) in (
        one.0,
        one_end (is_first head vs) (length s.front + length s.read) s.left (nat_le (length bytes) limit) e f s.ends
            (end_as (is_first other ws) (is_first head vs) (length o.front + length o.read) (length s.front + length s.read) o.left s.left (nat_le (length bytes) limit) f
            (first ws ∙ ap (is_first head) (sym one.0)) place (sym one.1) o.ends),
      )

  -- no file has a head and has none
  mixed : (t : Ty) (vs ws : List Value) (e f : FileEnd) → Shows limit bytes None vs e → Shows limit bytes (Some t) ws f → ⊥
  mixed t [] ws e f s o =
      let whole : s.left ≡ o.front ++ (o.read ++ o.left) = ap (λ bs. bs ++ s.left) (sym s.items) ∙ (ap (λ bs. bs ++ (s.read ++ s.left)) (sym s.states) ∙ (sym s.seen ∙ o.seen)) in
      end_none true (length s.front + length s.read) s.left (nat_le (length bytes) limit) e s.ends o.front (o.read ++ o.left) whole (inl (t, o.states))
  mixed t (v ∷ vs) ws e f s o =
      let items = s.items in
      let whole : o.front ++ (o.read ++ o.left) ≡ items.0 ++ (items.1 ++ s.left) =
      sym o.seen ∙ (s.seen ∙ (ap (λ bs. bs ++ (s.read ++ s.left)) s.states ∙ (ap (λ bs. bs ++ s.left) items.2 ∙ append_assoc items.0 items.1 s.left))) in
      head_or_item 256 256 o.front items.0 (o.read ++ o.left) (items.1 ++ s.left) t v o.states items.3 whole

  pub one_text : (head other : Option Ty) (vs ws : List Value) (e f : FileEnd) → Shows limit bytes head vs e → Shows limit bytes other ws f
      → (head ≡ other) × ((vs ≡ ws) × (e ≡ f))
  one_text None None vs ws e f s o = (refl, behind_front None None vs ws e f s o (s.states ∙ sym o.states) (λ us. refl))
  one_text None (Some u) vs ws e f s o = absurd (mixed u vs ws e f s o)
  one_text (Some t) None vs ws e f s o = absurd (mixed t ws vs f e o s)
  one_text (Some t) (Some u) vs ws e f s o =
      let one = one_head 256 256 s.front o.front (s.read ++ s.left) (o.read ++ o.left) t u s.states o.states (sym s.seen ∙ o.seen) in
      (ap Some one.1, behind_front (Some t) (Some u) vs ws e f s o one.0 (λ us. refl))
