-- Where no head is begun, what is in no text of items alone is in none with a head either.
use Rattle.std.proofs.Common.{◌≡◌, inl, inr, ℕ, suc, zero, ◌+◌, Bool, true, false, IsTrue, List, [], ◌∷◌, ◌++◌, length, take, drop, refl, sym, ap, subst, ◌∙◌, arith, Some, None, append_assoc, append-nil, take-append-drop, length-append}
use Rattle.std.specs.Prelude.{codes}
use Rattle.std.proofs.lemmas.Bool.{false≢true}
use Rattle.kl_value.specs.declared.Value.{Value}
use Rattle.kl_value.specs.declared.Value.TheVariants as value
use Rattle.kl_type.specs.declared.ground.Ty.{Ty}
use Rattle.kl_exchange.specs.FileItems.{reading}
use Rattle.kl_exchange.specs.Grammar.{Blank, is_blank, Begins as BeginsItems, IsExchange, IsItem, SpellsPlain, Spells}
use Rattle.kl_exchange.specs.Reading.{nesting, IsBad as IsBadItem, IsDeep as IsDeepItem}
use Rattle.kl_heads.specs.Files.{standing}
use Rattle.kl_heads.specs.Heads.{IsHead}
use Rattle.kl_heads.specs.Reading.{IsNext, IsBad, IsDeep}
use Rattle.kl_heads.specs.Texts.{Begins, IsHeadless, MayFollow}

-- a head's spelling is white space, `ty` and more
pub head_begins : (n : ℕ) (bytes : List ℕ) (t : Ty) → IsHead n bytes t → (before : List ℕ) × (tail : List ℕ) × (bytes ≡ before ++ (codes "ty" ++ tail)) × Blank before
head_begins n bytes t h = (h.before, codes "pe" ++ (h.blank ∷ (h.text ++ codes ";")), h.is, h.blank_before)

-- a front of bytes that begin so
data FrontOf (bytes before : List ℕ) : Type 0 where
  blank_front : Blank bytes → FrontOf bytes before
  one_front : bytes ≡ before ++ codes "t" → FrontOf bytes before
  whole_front : (x : List ℕ) → bytes ≡ before ++ (codes "ty" ++ x) → FrontOf bytes before

front_behind : (b : ℕ) (bytes before : List ℕ) → IsTrue (is_blank b) → FrontOf bytes before → FrontOf (b ∷ bytes) (b ∷ before)
front_behind b bytes before is (blank_front h) = blank_front (is, h)
front_behind b bytes before is (one_front e) = one_front (ap (λ bs. b ∷ bs) e)
front_behind b bytes before is (whole_front x e) = whole_front x (ap (λ bs. b ∷ bs) e)

front_of : (bytes more before tail : List ℕ) → Blank before → bytes ++ more ≡ before ++ 116 ∷ 121 ∷ tail → FrontOf bytes before
front_of [] more before tail blank e = blank_front tt
front_of (b ∷ []) more [] tail blank e = one_front (let same : b ≡ 116 = cc in ap (λ x. x ∷ []) same)
front_of (b ∷ (c ∷ bytes)) more [] tail blank e = whole_front bytes (let one : b ≡ 116 = cc in let two : c ≡ 121 = cc in ap (λ x. x ∷ c ∷ bytes) one ∙ ap (λ y. 116 ∷ y ∷ bytes) two)
front_of (b ∷ bytes) more (w ∷ before) tail blank e =
    let same : b ≡ w = cc in
    let rest : bytes ++ more ≡ before ++ 116 ∷ 121 ∷ tail = cc in
    subst (λ x. FrontOf (x ∷ bytes) (w ∷ before)) (sym same) (front_behind w bytes before blank.0 (front_of bytes more before tail blank.1 rest))

-- white space begins a text, and so does white space with a `t`
blank_begins : (n : ℕ) (bytes : List ℕ) → Blank bytes → BeginsItems n bytes
blank_begins n bytes blank = record { more = []; values = []; whole = subst Blank (sym (append-nil bytes)) blank }

plain : (n : ℕ) (bytes : List ℕ) (v : Value) → SpellsPlain bytes v → Spells n bytes v
plain zero bytes v p = p
plain (suc n) bytes v p = inl p

true_item : (n : ℕ) (before : List ℕ) → Blank before → IsItem n ((before ++ codes "t") ++ codes "rue;") (value.Bool true)
true_item n before blank = record {
  text = before ++ codes "true";
  is = append_assoc before (codes "t") (codes "rue;") ∙ sym (append_assoc before (codes "true") (codes ";"));
  value = record {
    before = before;
    inside = codes "true";
    after = [];
    is = refl;
    blank_before = blank;
    blank_after = tt;
    spells = plain n (codes "true") (value.Bool true) (SpellsPlain.truth true refl refl);
  };
}

true_text : (n : ℕ) (before : List ℕ) → Blank before → IsExchange n ((before ++ codes "t") ++ codes "rue;") (value.Bool true ∷ [])
true_text n before blank = ((before ++ codes "t") ++ codes "rue;", [], sym (append-nil ((before ++ codes "t") ++ codes "rue;")), true_item n before blank, tt)

-- A front of bytes that begin no head, with which a text with a head begins, begins one of items alone.
begins_so : (n : ℕ) (bytes behind before : List ℕ) → IsHeadless (bytes ++ behind) → Blank before → FrontOf bytes before → BeginsItems n bytes
begins_so n bytes behind before headless blank (blank_front h) = blank_begins n bytes h
begins_so n bytes behind before headless blank (one_front e) = record {
  more = codes "rue;";
  values = value.Bool true ∷ [];
  whole = subst (λ bs. IsExchange n (bs ++ codes "rue;") (value.Bool true ∷ [])) (sym e) (true_text n before blank);
}
begins_so n bytes behind before headless blank (whole_front x e) =
    absurd (headless before (x ++ behind) blank (ap (λ bs. bs ++ behind) e ∙ append_assoc before (codes "ty" ++ x) behind))

items_begin : (n : ℕ) (bytes behind : List ℕ) → IsHeadless (bytes ++ behind) → Begins true n bytes → BeginsItems n bytes
items_begin n bytes behind headless b = by b.whole
  where
    by : MayFollow true n (bytes ++ b.more) → BeginsItems n bytes
    by (None, vs, is) = record { more = b.more; values = vs; whole = is }
    by (Some t, vs, is) =
        let h = head_begins n is.0 t is.3 in
        let e : bytes ++ b.more ≡ h.0 ++ (codes "ty" ++ (h.1 ++ is.1)) =
        is.2 ∙ (ap (λ bs. bs ++ is.1) h.2 ∙ append_assoc h.0 (codes "ty" ++ h.1) is.1) in
        begins_so n bytes behind h.0 headless h.3 (front_of bytes b.more h.0 (h.1 ++ is.1) h.3 e)

pub begins_first : (n : ℕ) (bytes : List ℕ) → BeginsItems n bytes → Begins true n bytes
begins_first n bytes b = record { more = b.more; whole = (None, b.values, b.whole) }

-- bytes in no text of items are in no text with a head
none_follows : (n : ℕ) (left : List ℕ) (finished : Bool) (more : List ℕ) → IsHeadless left
    → ((m : ℕ) (u : List ℕ) (vs : List Value) → (IsTrue finished → u ≡ []) → IsExchange m (left ++ u) vs → ⊥)
    → (IsTrue finished → more ≡ []) → MayFollow true n (left ++ more) → ⊥
none_follows n left finished more headless none ends (None, vs, is) = none n more vs ends is
none_follows n left finished more headless none ends (Some t, vs, is) = by (front_of left more h.0 (h.1 ++ is.1) h.3 e)
  where
    h : (before : List ℕ) × (tail : List ℕ) × (is.0 ≡ before ++ (codes "ty" ++ tail)) × Blank before
    h = head_begins n is.0 t is.3

    e : left ++ more ≡ h.0 ++ (codes "ty" ++ (h.1 ++ is.1))
    e = is.2 ∙ (ap (λ bs. bs ++ is.1) h.2 ∙ append_assoc h.0 (codes "ty" ++ h.1) is.1)

    one : (f : Bool) → ((m : ℕ) (u : List ℕ) (vs : List Value) → (IsTrue f → u ≡ []) → IsExchange m (left ++ u) vs → ⊥) → (IsTrue f → more ≡ []) → left ≡ h.0 ++ codes "t" → ⊥
    one false none ends same = none n (codes "rue;") (value.Bool true ∷ []) (λ f. absurd (false≢true f)) (subst (λ bs. IsExchange n (bs ++ codes "rue;") (value.Bool true ∷ [])) (sym same) (true_text n h.0 h.3))
    one true none ends same =
        let size : length (left ++ more) ≡ length left + length more = length-append left more in
        let no_more : length more ≡ 0 = ap length (ends refl) in
        let short : length left ≡ length h.0 + 1 = ap length same ∙ length-append h.0 (codes "t") in
        let long : length (left ++ more) ≡ length h.0 + length (codes "ty" ++ (h.1 ++ is.1)) = ap length e ∙ length-append h.0 (codes "ty" ++ (h.1 ++ is.1)) in
        let two : length (codes "ty" ++ (h.1 ++ is.1)) ≡ 2 + length (h.1 ++ is.1) = length-append (codes "ty") (h.1 ++ is.1) in
        omega arith

    by : FrontOf left h.0 → ⊥
    by (blank_front b) = none n [] [] (λ f. refl) (subst Blank (sym (append-nil left)) b)
    by (one_front same) = one finished none ends same
    by (whole_front x same) = headless h.0 x h.3 same

-- no head or item stands where no item does
none_first : (n : ℕ) (left : List ℕ) → IsHeadless left → ((bytes rest : List ℕ) (v : Value) → left ≡ bytes ++ rest → IsItem n bytes v → ⊥)
    → (bytes rest : List ℕ) → left ≡ bytes ++ rest → IsNext true n bytes → ⊥
none_first n left headless none bytes rest is (inl (t, h)) =
    let b = head_begins n bytes t h in
    headless b.0 (b.1 ++ rest) b.3 (is ∙ (ap (λ bs. bs ++ rest) b.2 ∙ append_assoc b.0 (codes "ty" ++ b.1) rest))
none_first n left headless none bytes rest is (inr (v, h)) = none bytes rest v is h

module _ (place : ℕ) (left : List ℕ) (finished : Bool) (k : ℕ) (headless : IsHeadless left) where
  whole_again : (j : ℕ) → IsHeadless (take j left ++ drop j left)
  whole_again j = subst IsHeadless (sym (take-append-drop j left)) headless

  pub items_bad : IsBadItem (reading place left finished) k → IsBad (standing true place left finished) k
  items_bad b = record {
    within = b.within;
    begins = begins_first nesting (take k left) b.begins;
    longest = λ j n more within begins. b.longest j n more within (items_begin n (take j left) (drop j left) (whole_again j) begins);
    in_none = λ n more ends follows. none_follows n left finished more headless b.in_none ends follows;
    none_next = λ n. none_first n left headless (b.no_item n);
  }

  pub items_deep : IsDeepItem (reading place left finished) k → IsDeep (standing true place left finished) k
  items_deep d = record {
    within = d.within;
    begins = begins_first nesting (take k left) d.begins;
    deeper = (d.deeper.0, begins_first d.deeper.0 (take (k + 1) left) d.deeper.1);
    too_deep = λ begins. d.too_deep (items_begin nesting (take (k + 1) left) (drop (k + 1) left) (whole_again (k + 1)) begins);
    none_next = none_first nesting left headless d.no_item;
  }

-- behind the first answer they are the same
module _ (place : ℕ) (left : List ℕ) (finished : Bool) (k : ℕ) where
  begins_later : (n : ℕ) (bytes : List ℕ) → BeginsItems n bytes → Begins false n bytes
  begins_later n bytes b = record { more = b.more; whole = (b.values, b.whole) }

  begins_back : (n : ℕ) (bytes : List ℕ) → Begins false n bytes → BeginsItems n bytes
  begins_back n bytes b = record { more = b.more; values = b.whole.0; whole = b.whole.1 }

  pub later_bad : IsBadItem (reading place left finished) k → IsBad (standing false place left finished) k
  later_bad b = record {
    within = b.within;
    begins = begins_later nesting (take k left) b.begins;
    longest = λ j n more within begins. b.longest j n more within (begins_back n (take j left) begins);
    in_none = λ n more ends follows. b.in_none n more follows.0 ends follows.1;
    none_next = λ n bytes rest is next. b.no_item n bytes rest next.0 is next.1;
  }

  pub later_deep : IsDeepItem (reading place left finished) k → IsDeep (standing false place left finished) k
  later_deep d = record {
    within = d.within;
    begins = begins_later nesting (take k left) d.begins;
    deeper = (d.deeper.0, begins_later d.deeper.0 (take (k + 1) left) d.deeper.1);
    too_deep = λ begins. d.too_deep (begins_back nesting (take (k + 1) left) begins);
    none_next = λ bytes rest is next. d.no_item bytes rest next.0 is next.1;
  }

-- a front of bytes that begin no head begins none
pub front_headless : (bytes behind : List ℕ) → IsHeadless (bytes ++ behind) → IsHeadless bytes
front_headless bytes behind headless before more blank is =
    headless before (more ++ behind) blank (ap (λ bs. bs ++ behind) is ∙ append_assoc before (codes "ty" ++ more) behind)
