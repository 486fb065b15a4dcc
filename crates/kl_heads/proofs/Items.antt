-- Heads beside items: bytes that begin one begin no other.
use Rattle.std.proofs.Common.{◌≡◌, ℕ, ◌≤◌, true, List, ◌∷◌, ◌++◌, codes, sym, ap, subst, ◌∙◌, arith, inl, inr, Some, None, append_assoc}
use Rattle.kl_value.specs.declared.Value.{Value}
use Rattle.kl_type.specs.declared.ground.Ty.{Ty}
use Rattle.kl_exchange.specs.Grammar.{IsItem, IsExchange}
use Rattle.kl_exchange.specs.Machine.{start as items_start, run as items_run, value_due, in_word as in_item_word}
use Rattle.kl_exchange.specs.Reading.{NoItem}
use Rattle.kl_exchange.proofs.Runs.{run_append as items_append, run_blank as items_blank}
use Rattle.kl_exchange.proofs.Reading.{Stuck as StuckItem, dead as dead_items, none_there}
use Rattle.kl_heads.specs.Heads.{IsHead}
use Rattle.kl_heads.specs.Machine.{run, ends, start}
use Rattle.kl_heads.specs.Reading.{NoneNext}
use Rattle.kl_heads.specs.Texts.{MayFollow}
use Rattle.kl_heads.proofs.Late.{Typed}
use Rattle.kl_heads.proofs.Reaching.{Stuck, dead}
use Rattle.kl_heads.proofs.Runs.{run_head}

-- ---- bytes that begin with `ty` are no front of items

pub typed_grows : (bytes u : List ℕ) → Typed bytes → Typed (bytes ++ u)
typed_grows bytes u c = (c.0, c.1 ++ u, ap (λ bs. bs ++ u) c.2 ∙ append_assoc c.0 (116 ∷ 121 ∷ c.1) u, c.3)

stuck_there : (L : ℕ) (rest : List ℕ) → StuckItem L (items_run L (116 ∷ 121 ∷ rest) items_start)
unfolding value_due in_item_word
stuck_there L rest = tt

pub typed_stuck : (L : ℕ) (bytes : List ℕ) → Typed bytes → StuckItem L (items_run L bytes items_start)
typed_stuck L bytes c =
    subst (λ bs. StuckItem L (items_run L bs items_start)) (sym c.2)
    (rw (items_append L c.0 (116 ∷ 121 ∷ c.1) items_start, items_blank L c.0 c.3) (stuck_there L c.1))

pub no_items : (n : ℕ) (bytes u : List ℕ) (vs : List Value) → Typed bytes → IsExchange n (bytes ++ u) vs → ⊥
no_items n bytes u vs typed whole = dead_items n n bytes u vs (omega arith) (typed_stuck n bytes typed) whole

pub no_item : (n : ℕ) (bytes : List ℕ) → Typed bytes → NoItem n bytes
no_item n bytes typed = none_there n n bytes (omega arith) (λ v rest e. subst (StuckItem n) e (typed_stuck n bytes typed))

pub head_typed : (n : ℕ) (bytes : List ℕ) (t : Ty) → IsHead n bytes t → Typed bytes
head_typed n bytes t h = (h.before, 112 ∷ 101 ∷ h.blank ∷ (h.text ++ codes ";"), h.is, h.blank_before)

-- no item and no head begin alike
pub head_or_item : (m n : ℕ) (a b x y : List ℕ) (t : Ty) (v : Value) → IsHead m a t → IsItem n b v → a ++ x ≡ b ++ y → ⊥
head_or_item m n a b x y t v h i e = no_item n (a ++ x) (typed_grows a x (head_typed m a t h)) b y v e i

-- ---- texts with and without a head

-- no text goes on from bytes with `ty` where the run stops
pub dead_text : (L n : ℕ) (bytes u : List ℕ) → n ≤ L → Typed bytes → Stuck L (run L bytes start) → MayFollow true n (bytes ++ u) → ⊥
dead_text L n bytes u room typed stuck (None, vs, whole) = no_items n bytes u vs typed whole
dead_text L n bytes u room typed stuck (Some t, vs, (head, rest, is, spells, others)) = dead L n bytes u head rest t room stuck is spells

pub dead_next : (L n : ℕ) (bytes : List ℕ) → n ≤ L → Typed bytes → ((t : Ty) (rest : List ℕ) → run L bytes start ≡ ends t rest → ⊥) → NoneNext true n bytes
dead_next L n bytes room typed none head rest is (inl (t, spells)) = none t rest (ap (λ bs. run L bs start) is ∙ run_head L n head t rest spells room)
dead_next L n bytes room typed none item rest is (inr (v, spells)) = no_item n bytes typed item rest v is spells

pub stuck_next : (L n : ℕ) (bytes : List ℕ) → n ≤ L → Typed bytes → Stuck L (run L bytes start) → NoneNext true n bytes
stuck_next L n bytes room typed stuck = dead_next L n bytes room typed (λ t rest e. subst (Stuck L) e stuck)
