-- One answer for each state.
use Rattle.std.proofs.Common.{◌≡◌, ◌≢◌, ℕ, ◌+◌, Bool, true, false, List, ◌++◌, length, refl, sym, ap, ◌∙◌, ◌⊎◌, inl, inr, Option, Some, None, Result, Ok, Err}
use Rattle.std.proofs.lemmas.Bool.{false≢true}
use Rattle.std.proofs.lemmas.Option.{same_Some}
use Rattle.kl_value.specs.declared.Value.{Value}
use Rattle.kl_type.specs.declared.ground.Ty.{Ty}
use Rattle.kl_exchange.specs.FileItems.{FileEnd, WholeText, BadAt, TooDeepAt, PastLimit}
use Rattle.kl_exchange.specs.Grammar.{IsItem}
use Rattle.kl_exchange.specs.declared.ReadError.{ReadError}
use Rattle.kl_exchange.specs.declared.ReadError.TheVariants as error
use Rattle.kl_exchange.proofs.OneAnswer.{one_front}
use Rattle.kl_heads.specs.Files.{standing, EndsIn}
use Rattle.kl_heads.specs.Heads.{IsHead}
use Rattle.kl_heads.specs.Reading.{Headed, IsNext, IsBad, IsDeep, ReadsNext, refuses}
use Rattle.kl_heads.specs.declared.reader.Item.{Item}
use Rattle.kl_heads.specs.declared.reader.Item.TheVariants as item
use Rattle.kl_heads.proofs.Items.{head_or_item}
use Rattle.kl_heads.proofs.OneEnd.{one_end, end_none, cut_front}
use Rattle.kl_heads.proofs.Reaching.{one_head}

abbrev Answer : Type 0
Answer = Result Item ReadError × Headed

-- what bytes that have neither a head nor an item whole in front come to
abbrev ended : Headed → FileEnd → Answer
ended old WholeText = (Ok item.End, old)
ended old (BadAt p) = (Err (error.Bad p), refuses (error.Bad p) old)
ended old (TooDeepAt p) = (Err (error.TooDeep p), refuses (error.TooDeep p) old)
ended old PastLimit = (Ok item.NeedMore, old)

-- a head or an item of so many bytes
abbrev handed : Headed → Ty ⊎ Value → ℕ → List ℕ → Answer
handed old (inl t) n rest = (Ok (item.Head t), record { first = false; text = record old.text { place = old.text.place + n; left = rest } })
handed old (inr v) n rest = (Ok (item.Value v), record { first = false; text = record old.text { place = old.text.place + n; left = rest } })

abbrev IsThe : Bool → Ty ⊎ Value → List ℕ → Type 0
IsThe first (inl t) bytes = (first ≡ true) × IsHead 256 bytes t
IsThe first (inr v) bytes = IsItem 256 bytes v

next_of : (first : Bool) (x : Ty ⊎ Value) (bytes : List ℕ) → IsThe first x bytes → IsNext first 256 bytes
next_of true (inl t) bytes h = inl (t, h.1)
next_of false (inl t) bytes h = absurd (false≢true h.0)
next_of true (inr v) bytes h = inr (v, h)
next_of false (inr v) bytes h = (v, h)

abbrev Same : Answer → Answer → Type 0
Same a b = a ≡ b

same_headed : (s t : Headed) → s.first ≡ t.first → s.text.place ≡ t.text.place → s.text.left ≡ t.text.left → s.text.finished ≡ t.text.finished → s.text.refused ≡ t.text.refused → s ≡ t
same_headed s t b p l f r = λ i. record { first = b i; text = record { place = p i; left = l i; finished = f i; refused = r i } }

module _ (old : Headed) where
  abbrev Ends : FileEnd → Type 0
  Ends e = EndsIn old.first old.text.place old.text.left old.text.finished e

  abbrev Said : Result Item ReadError → Headed → Type 0
  Said r new = ((e : FileEnd) × Ends e × Same (r, new) (ended old e))
      ⊎ ((x : Ty ⊎ Value) × (bytes : List ℕ) × (rest : List ℕ) × (old.text.left ≡ bytes ++ rest) × IsThe old.first x bytes × Same (r, new) (handed old x (length bytes) rest))

  bad_as : (k : ℕ) → IsBad old k → IsBad (standing old.first old.text.place old.text.left old.text.finished) k
  bad_as k bad = record { within = bad.within; begins = bad.begins; longest = bad.longest; in_none = bad.in_none; none_next = bad.none_next }

  deep_as : (k : ℕ) → IsDeep old k → IsDeep (standing old.first old.text.place old.text.left old.text.finished) k
  deep_as k deep = record { within = deep.within; begins = deep.begins; deeper = deep.deeper; too_deep = deep.too_deep; none_next = deep.none_next }

  said : (r : Result Item ReadError) (new : Headed) → old.text.refused ≡ None → ReadsNext old r new → r ≢ Err error.NoMemory → Said r new
  said (Ok (item.Head t)) new fresh (first, later, g) other =
      inr (
        inl t,
        g.bytes,
        new.text.left,
        g.front,
        (first, g.states),
        ap (λ s. (Ok (item.Head t), s)) (same_headed new (record { first = false; text = record old.text { place = old.text.place + length g.bytes; left = new.text.left } }) later g.place refl g.finished (g.refused ∙ sym fresh)),
      )
  said (Ok (item.Value v)) new fresh (later, g) other =
      inr (
        inr v,
        g.bytes,
        new.text.left,
        g.front,
        g.spells,
        ap (λ s. (Ok (item.Value v), s)) (same_headed new (record { first = false; text = record old.text { place = old.text.place + length g.bytes; left = new.text.left } }) later g.place refl g.finished (g.refused ∙ sym fresh)),
      )
  said (Ok item.NeedMore) new fresh w other = inl (PastLimit, (w.unfinished, (w.more, w.proper, w.begun)), ap (λ s. (Ok item.NeedMore, s)) w.same)
  said (Ok item.End) new fresh w other = inl (WholeText, (w.finished, w.blank), ap (λ s. (Ok item.End, s)) w.same)
  said (Err (error.Bad place)) new fresh (inl c) other = absurd (let clash : None ≡ Some (error.Bad place) = sym fresh ∙ c.0 in cc)
  said (Err (error.Bad place)) new fresh (inr (none, (k, is, bad), same)) other = inl (BadAt place, (k, is, bad_as k bad), ap (λ s. (Err (error.Bad place), s)) same)
  said (Err (error.TooDeep place)) new fresh (inl c) other = absurd (let clash : None ≡ Some (error.TooDeep place) = sym fresh ∙ c.0 in cc)
  said (Err (error.TooDeep place)) new fresh (inr (none, (k, is, deep), same)) other =
      inl (TooDeepAt place, (k, is, deep_as k deep), ap (λ s. (Err (error.TooDeep place), s)) same)
  said (Err error.NoMemory) new fresh reads other = absurd (other refl)

  -- two at the front are one
  handed_one : (x y : Ty ⊎ Value) (a b p q : List ℕ) → IsThe old.first x a → IsThe old.first y b → a ++ p ≡ b ++ q → Same (handed old x (length a) p) (handed old y (length b) q)
  handed_one (inl t) (inl u) a b p q h k e =
      let one = one_head 256 256 a b p q t u h.1 k.1 e in
      let rest : p ≡ q = cut_front a p q (e ∙ ap (λ bs. bs ++ q) (sym one.0)) in
      λ i. (Ok (item.Head (one.1 i)), record { first = false; text = record old.text { place = old.text.place + length (one.0 i); left = rest i } })
  handed_one (inl t) (inr w) a b p q h k e = absurd (head_or_item 256 256 a b p q t w h.1 k e)
  handed_one (inr v) (inl u) a b p q h k e = absurd (head_or_item 256 256 b a q p u v k.1 h (sym e))
  handed_one (inr v) (inr w) a b p q h k e =
      let one = one_front 256 256 a b p q v w h k e in
      let rest : p ≡ q = cut_front a p q (e ∙ ap (λ bs. bs ++ q) (sym one.0)) in
      λ i. (Ok (item.Value (one.1 i)), record { first = false; text = record old.text { place = old.text.place + length (one.0 i); left = rest i } })

  one_said : (r s : Result Item ReadError) (new other : Headed) → Said r new → Said s other → Same (r, new) (s, other)
  one_said r s new other (inl (e, h, is)) (inl (f, k, also)) =
      is ∙ (ap (ended old) (one_end old.first old.text.place old.text.left old.text.finished e f h k) ∙ sym also)
  one_said r s new other (inl (e, h, is)) (inr (x, bytes, rest, front, k, also)) =
      absurd (end_none old.first old.text.place old.text.left old.text.finished e h bytes rest front (next_of old.first x bytes k))
  one_said r s new other (inr (x, bytes, rest, front, k, also)) (inl (e, h, is)) =
      absurd (end_none old.first old.text.place old.text.left old.text.finished e h bytes rest front (next_of old.first x bytes k))
  one_said r s new other (inr (x, a, p, front, h, is)) (inr (y, b, q, back, k, also)) = is ∙ (handed_one x y a b p q h k (sym front ∙ back) ∙ sym also)

  -- what a reader answers once it has refused
  kept : (e : ReadError) (r : Result Item ReadError) (new : Headed) → old.text.refused ≡ Some e → ReadsNext old r new → r ≢ Err error.NoMemory → Same (r, new) (Err e, old)
  kept e (Ok (item.Head t)) new refused reads other = absurd (let fresh = reads.2.fresh in let clash : None ≡ Some e = sym fresh ∙ refused in cc)
  kept e (Ok (item.Value v)) new refused reads other = absurd (let fresh = reads.1.fresh in let clash : None ≡ Some e = sym fresh ∙ refused in cc)
  kept e (Ok item.NeedMore) new refused reads other = absurd (let fresh = reads.fresh in let clash : None ≡ Some e = sym fresh ∙ refused in cc)
  kept e (Ok item.End) new refused reads other = absurd (let fresh = reads.fresh in let clash : None ≡ Some e = sym fresh ∙ refused in cc)
  kept e (Err (error.Bad place)) new refused (inl c) other = λ i. (Err (same_Some _ e (sym c.0 ∙ refused) i), c.1 i)
  kept e (Err (error.Bad place)) new refused (inr c) other = absurd (let clash : None ≡ Some e = sym c.0 ∙ refused in cc)
  kept e (Err (error.TooDeep place)) new refused (inl c) other = λ i. (Err (same_Some _ e (sym c.0 ∙ refused) i), c.1 i)
  kept e (Err (error.TooDeep place)) new refused (inr c) other = absurd (let clash : None ≡ Some e = sym c.0 ∙ refused in cc)
  kept e (Err error.NoMemory) new refused reads other = absurd (other refl)

pub one_answer : (old new other : Headed) (r s : Result Item ReadError) → ReadsNext old r new → ReadsNext old s other → r ≢ Err error.NoMemory → s ≢ Err error.NoMemory → (r ≡ s) × (new ≡ other)
one_answer old new other r s p q f g = both (refusal old.text.refused refl)
  where
    both : Same (r, new) (s, other) → (r ≡ s) × (new ≡ other)
    both e = (ap (λ x. x.0) e, ap (λ x. x.1) e)

    refusal : (o : Option ReadError) → old.text.refused ≡ o → Same (r, new) (s, other)
    refusal None e = one_said old r s new other (said old r new e p f) (said old s other e q g)
    refusal (Some d) e = kept old d r new e p f ∙ sym (kept old d s other e q g)
