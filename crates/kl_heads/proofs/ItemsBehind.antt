-- The answers of a reader of items, behind a head or where none comes.
use Rattle.std.proofs.Common.{◌≡◌, inl, inr, ℕ, Bool, true, false, [], refl, ap, subst, arith, None, Err, append-nil}
use Rattle.kl_exchange.specs.Reading.{IsBad as IsBadItem, IsDeep as IsDeepItem, ReadsNext as ReadsItem}
use Rattle.kl_exchange.specs.State.{State}
use Rattle.kl_exchange.specs.declared.ReadError.{ReadError}
use Rattle.kl_exchange.specs.declared.ReadError.TheVariants as error
use Rattle.kl_heads.specs.Fronts.{IsBehind, IsRefusedBehind}
use Rattle.kl_heads.specs.Reading.{Headed, headed_of, refused_by, behind_head, IsWithin, IsBad, IsDeep, ReadsNext}
use Rattle.kl_heads.specs.Texts.{IsHeadless, StaysHeadless}
use Rattle.kl_heads.proofs.Headless.{items_bad, items_deep, later_bad, later_deep}

module _ (first : Bool) (head : ℕ) (items : State) (is : IsBehind first head items) where
  abbrev old : Headed
  old = headed_of first head items None

  -- what stands nowhere among items stands nowhere
  bad_at : (b : Bool) → (b ≡ true → (head ≡ 0) × StaysHeadless items.finished items.left) → (k : ℕ) → IsBadItem items k → IsBad (headed_of b head items None) k
  bad_at true headless k c =
      let h : IsHeadless items.left = subst IsHeadless (append-nil items.left) ((headless refl).1 [] (λ f. refl)) in
      let b = items_bad 0 items.left items.finished k h (record { within = c.within; begins = c.begins; longest = c.longest; in_none = c.in_none; no_item = c.no_item }) in
      record { within = b.within; begins = b.begins; longest = b.longest; in_none = b.in_none; none_next = b.none_next }
  bad_at false headless k c =
      let b = later_bad 0 items.left items.finished k (record { within = c.within; begins = c.begins; longest = c.longest; in_none = c.in_none; no_item = c.no_item }) in
      record { within = b.within; begins = b.begins; longest = b.longest; in_none = b.in_none; none_next = b.none_next }

  deep_at : (b : Bool) → (b ≡ true → (head ≡ 0) × StaysHeadless items.finished items.left) → (k : ℕ) → IsDeepItem items k → IsDeep (headed_of b head items None) k
  deep_at true headless k c =
      let h : IsHeadless items.left = subst IsHeadless (append-nil items.left) ((headless refl).1 [] (λ f. refl)) in
      let d = items_deep 0 items.left items.finished k h (record { within = c.within; begins = c.begins; deeper = c.deeper; too_deep = c.too_deep; no_item = c.no_item }) in
      record { within = d.within; begins = d.begins; deeper = d.deeper; too_deep = d.too_deep; none_next = d.none_next }
  deep_at false headless k c =
      let d = later_deep 0 items.left items.finished k (record { within = c.within; begins = c.begins; deeper = c.deeper; too_deep = c.too_deep; no_item = c.no_item }) in
      record { within = d.within; begins = d.begins; deeper = d.deeper; too_deep = d.too_deep; none_next = d.none_next }

  same_old : (items' : State) → items' ≡ items → headed_of first head items' None ≡ old
  same_old items' e = ap (λ s. headed_of first head s None) e

  pub refuses : (e : ReadError) (items' : State) → ReadsItem items (Err e) items' → ReadsNext old (Err (behind_head head e)) (headed_of first head items' None)
  refuses (error.Bad p) items' (inl c) = inl (ap (refused_by head None) c.0, same_old items' c.1)
  refuses (error.Bad p) items' (inr c) = inr (
    ap (refused_by head None) c.0,
    (c.1.0, (let at = c.1.1 in omega arith), bad_at first is.headless c.1.0 c.1.2),
    ap (λ s. headed_of first head s None) c.2,
  )
  refuses (error.TooDeep p) items' (inl c) = inl (ap (refused_by head None) c.0, same_old items' c.1)
  refuses (error.TooDeep p) items' (inr c) = inr (
    ap (refused_by head None) c.0,
    (c.1.0, (let at = c.1.1 in omega arith), deep_at first is.headless c.1.0 c.1.2),
    ap (λ s. headed_of first head s None) c.2,
  )
  refuses error.NoMemory items' reads = same_old items' reads

  -- the place of a refusal is a number of 64 bits
  pub within : (e : ReadError) (items' : State) → ReadsItem items (Err e) items' → IsWithin (behind_head head e)
  within (error.Bad p) items' (inl c) = subst (IsRefusedBehind head) c.0 is.placed
  within (error.Bad p) items' (inr c) = let at = c.1.1 in let k = c.1.2.within in let room = is.room in omega arith
  within (error.TooDeep p) items' (inl c) = subst (IsRefusedBehind head) c.0 is.placed
  within (error.TooDeep p) items' (inr c) = let at = c.1.1 in let k = c.1.2.within in let room = is.room in omega arith
  within error.NoMemory items' reads = tt
