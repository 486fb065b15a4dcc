-- What the bytes that came so far state is what was read of them.
use Rattle.std.proofs.Common.{◌≡◌, ℕ, Bool, true, false, ◌==◌, cond, IsTrue, List, [], ◌∷◌, ◌++◌, Option, Some, None, refl, sym, ap, subst, ◌∙◌, append_assoc, append-nil}
use Rattle.std.specs.Prelude.{not, codes}
use Rattle.std.proofs.lemmas.Bool.{false≢true}
use Rattle.kl_value.specs.declared.Value.{Value}
use Rattle.kl_type.specs.declared.ground.Ty.{Ty}
use Rattle.kl_exchange.specs.FileItems.{Items}
use Rattle.kl_exchange.specs.FileReading.{Left, Remains}
use Rattle.kl_exchange.specs.Found.{values_of}
use Rattle.kl_exchange.specs.Grammar.{Blank, is_blank}
use Rattle.kl_exchange.proofs.Bytes.{equal}
use Rattle.kl_heads.specs.FileReading.{Behind, HasRead, HeadedFile, limit_of}
use Rattle.kl_heads.specs.Files.{Shows, is_first}
use Rattle.kl_heads.specs.Found.{file_text}
use Rattle.kl_heads.specs.Stated.{begins_no_head, no_more_of_head, stated_in, stated_or}
use Rattle.kl_heads.specs.Texts.{StaysHeadless}
use Rattle.kl_heads.proofs.FoundText.{text_shows}
use Rattle.kl_heads.proofs.Items.{no_item}
use Rattle.kl_heads.proofs.Late.{Typed}
use Rattle.kl_heads.proofs.Shown.{first_shown}

-- ---- that no head is begun is said of those bytes alone that begin none, whatever follows

-- the bytes begin a head, or would with others behind them, if any may come
abbrev MayBegin : Bool → List ℕ → Type 0
MayBegin ended bytes = (more : List ℕ) × (IsTrue ended → more ≡ []) × Typed (bytes ++ more)

behind_blank : (ended : Bool) (b : ℕ) (bytes : List ℕ) → is_blank b ≡ true → MayBegin ended bytes → MayBegin ended (b ∷ bytes)
behind_blank ended b bytes blank (more, ends, (before, tail, is, blanks)) = (more, ends, (b ∷ before, tail, ap (λ bs. b ∷ bs) is, (blank, blanks)))

negated : (c : Bool) → not c ≡ false → c ≡ true
negated true f = refl
negated false f = absurd (false≢true (sym f))

behind_letter : (ended : Bool) (bytes : List ℕ) → no_more_of_head ended bytes ≡ false → MayBegin ended (116 ∷ bytes)
behind_letter false [] e = (121 ∷ [], (λ t. absurd (false≢true t)), ([], [], refl, tt))
behind_letter true [] e = absurd (false≢true (sym e))
behind_letter ended (b ∷ bytes) e = ([], (λ t. refl), ([], bytes, ap (λ bs. 116 ∷ bs) (append-nil (b ∷ bytes)) ∙ ap (λ x. 116 ∷ x ∷ bytes) (equal b 121 (negated (b == 121) e)), tt))

-- where it is not said that none is begun, one is, or may be
may_begin : (ended : Bool) (bytes : List ℕ) → begins_no_head ended bytes ≡ false → MayBegin ended bytes
may_begin false [] e = (116 ∷ 121 ∷ [], (λ t. absurd (false≢true t)), ([], [], refl, tt))
may_begin true [] e = absurd (false≢true (sym e))
may_begin ended (b ∷ bytes) e = by (is_blank b) refl (may_begin ended bytes) e
  where
    letter : (c : Bool) → (b == 116) ≡ c → cond c (no_more_of_head ended bytes) true ≡ false → MayBegin ended (b ∷ bytes)
    letter true is f = subst (λ x. MayBegin ended (x ∷ bytes)) (sym (equal b 116 is)) (behind_letter ended bytes f)
    letter false is f = absurd (false≢true (sym f))

    by : (c : Bool) → is_blank b ≡ c → (begins_no_head ended bytes ≡ false → MayBegin ended bytes) → cond c (begins_no_head ended bytes) (cond (b == 116) (no_more_of_head ended bytes) true) ≡ false → MayBegin ended (b ∷ bytes)
    by true is later f = behind_blank ended b bytes is (later f)
    by false is later f = letter (b == 116) refl f

said_none : (ended : Bool) (bytes : List ℕ) → (MayBegin ended bytes → ⊥) → begins_no_head ended bytes ≡ true
said_none ended bytes none = by (begins_no_head ended bytes) refl
  where
    by : (c : Bool) → begins_no_head ended bytes ≡ c → begins_no_head ended bytes ≡ true
    by true e = e
    by false e = absurd (none (may_begin ended bytes e))

pub stays_headless : (ended : Bool) (bytes : List ℕ) → StaysHeadless ended bytes → begins_no_head ended bytes ≡ true
stays_headless ended bytes headless = said_none ended bytes (λ m. headless m.0 m.1 m.2.0 m.2.1 m.2.3 m.2.2)

nothing_there : (before tail : List ℕ) → [] ≡ before ++ 116 ∷ 121 ∷ tail → ⊥
nothing_there [] tail is = cc
nothing_there (b ∷ before) tail is = cc

no_y_behind : (ended : Bool) (bytes more tail : List ℕ) → no_more_of_head ended bytes ≡ true → (IsTrue ended → more ≡ []) → bytes ++ more ≡ 121 ∷ tail → ⊥
no_y_behind ended [] more tail e ends is = let none : [] ≡ 121 ∷ tail = sym (ends e) ∙ is in cc
no_y_behind ended (b ∷ bytes) more tail e ends is = let same : b ≡ 121 = cc in false≢true (ap (λ x. not (x == 121)) (sym same) ∙ e)

pub headless_stays : (ended : Bool) (bytes : List ℕ) → begins_no_head ended bytes ≡ true → StaysHeadless ended bytes
headless_stays ended [] e more ends before tail blank is = nothing_there before tail (sym (ends e) ∙ is)
headless_stays ended (b ∷ bytes) e more ends [] tail blank is =
    let same : b ≡ 116 = cc in
    let rest : bytes ++ more ≡ 121 ∷ tail = cc in
    no_y_behind ended bytes more tail (subst (λ x. begins_no_head ended (x ∷ bytes) ≡ true) same e) ends rest
headless_stays ended (b ∷ bytes) e more ends (w ∷ before) tail blank is =
    let same : b ≡ w = cc in
    let rest : bytes ++ more ≡ before ++ 116 ∷ 121 ∷ tail = cc in
    let here : is_blank b ≡ true = ap is_blank same ∙ blank.0 in
    headless_stays ended bytes (ap (λ c. cond c (begins_no_head ended bytes) (cond (b == 116) (no_more_of_head ended bytes) true)) (sym here) ∙ e) more ends before tail blank.1 rest

-- ---- what was read of a file by any time, all that came of it states

module _ (vs : List Value) (now : HeadedFile) (left : Left) (bytes : List ℕ) (ended : Bool) (ends : IsTrue now.items.text.finished → IsTrue ended) where
  none_begun : HasRead (Some (Some bytes)) None vs now left → begins_no_head ended bytes ≡ true
  none_begun has = said_none ended bytes (none vs has.items.items has.headless)
    where
      b : Behind has.front (Some (Some bytes)) has.rest
      b = has.behind

      r : Remains has.items.read now.items left b.0
      r = has.items.remains b.0 b.2

      beyond : List ℕ
      beyond = r.beyond ++ r.behind

      tail : List ℕ
      tail = now.items.text.left ++ beyond

      whole : bytes ≡ has.items.read ++ tail
      whole = b.1 ∙ (ap (λ bs. bs ++ b.0) has.states ∙ (r.whole ∙ append_assoc has.items.read now.items.text.left beyond))

      none : (ws : List Value) → Items has.items.read ws → (is_first None ws ≡ true → StaysHeadless now.items.text.finished now.items.text.left) → MayBegin ended bytes → ⊥
      none [] items headless (more, over, (before, rest, is, blank)) =
          let all : bytes ++ more ≡ now.items.text.left ++ (beyond ++ more) =
          ap (λ bs. bs ++ more) (whole ∙ ap (λ bs. bs ++ tail) items) ∙ append_assoc now.items.text.left beyond more in
          headless refl (beyond ++ more) (λ t. ap (λ bs. bs ++ more) (r.end_met t) ∙ over (ends t)) before rest blank (sym all ∙ is)
      none (v ∷ ws) items headless (more, over, typed) =
          let all : bytes ++ more ≡ items.0 ++ ((items.1 ++ tail) ++ more) =
          ap (λ bs. bs ++ more) (whole ∙ (ap (λ bs. bs ++ tail) items.2 ∙ append_assoc items.0 items.1 tail)) ∙ append_assoc items.0 (items.1 ++ tail) more in
          no_item 256 (bytes ++ more) typed items.0 ((items.1 ++ tail) ++ more) v all items.3

  pub stated : (limit : ℕ) (head : Option Ty) → limit_of now ≡ limit → HasRead (Some (Some bytes)) head vs now left → stated_in limit ended bytes ≡ Some head
  stated limit head same has =
      by head has
      (first_shown (Some (Some bytes)) head (file_text limit bytes).head vs (values_of (file_text limit bytes).items) now left bytes (file_text limit bytes).behind has refl
      (subst (λ n. Shows n bytes (file_text limit bytes).head (values_of (file_text limit bytes).items) (file_text limit bytes).behind) (sym same) (text_shows limit bytes))).0
    where
      by : (head : Option Ty) → HasRead (Some (Some bytes)) head vs now left → head ≡ (file_text limit bytes).head → stated_in limit ended bytes ≡ Some head
      by (Some t) has is = ap (λ h. stated_or h (begins_no_head ended bytes)) (sym is)
      by None has is = ap (λ h. stated_or h (begins_no_head ended bytes)) (sym is) ∙ ap (λ c. stated_or None c) (none_begun has)
