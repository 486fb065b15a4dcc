-- Where a head is told from an item: behind white space and `ty` it is one, or nothing.
use Rattle.std.proofs.Common.{◌≡◌, ℕ, ◌+◌, ◌≤◌, true, false, ◌&&◌, List, [], ◌∷◌, ◌++◌, length, get_or, refl, sym, ap, subst, ◌∙◌, arith, ◌==◌, nat_lt, ◌⊎◌, inl, inr, Option, Some, None, Result, Ok, Err, true≢false}
use Rattle.std.specs.Prelude.{⊤}
use Rattle.std.specs.Char.{is_ascii_alphabetic}
use Rattle.std.proofs.lemmas.Bool.{and_parts}
use Rattle.std.proofs.lemmas.Bool.Decides.{nat_tests}
use Rattle.kl_base.specs.Word.{is_word_byte, label_of}
use Rattle.kl_value.specs.declared.Kind.{Kind}
use Rattle.kl_value.specs.declared.Kind.TheVariants as kind
use Rattle.kl_type.specs.Grammar.{put}
use Rattle.kl_type.specs.declared.ground.Ty.{Ty}
use Rattle.kl_exchange.specs.Grammar.{is_blank, Blank}
use Rattle.kl_exchange.proofs.Bytes.{equal, le_from}
use Rattle.kl_exchange.specs.Machine.{last_of_close}
use Rattle.kl_heads.specs.Heads.{Types, has_label}
use Rattle.kl_heads.specs.Machine.{Brackets, Run, run, more, ends, no_head, fails, deep, followed, advanced, start, or_bad, keyword, in_keyword, behind_keyword, type_due, opens_bracket, behind_brace, behind_bracket, record_opened, label_due, in_name, named, in_word, after_type, after_item, after_field, ends_closing, closer_of, base_word, may_be_item}
use Rattle.kl_heads.specs.Machine.{Step}
use Rattle.kl_heads.specs.declared.machine.Base.{Base}
use Rattle.kl_heads.specs.declared.machine.Shape.{Shape}
use Rattle.kl_heads.specs.declared.machine.Frame.TheVariants as frame
use Rattle.kl_heads.specs.declared.machine.Machine.{Machine}
use Rattle.kl_heads.specs.declared.machine.Phase.{Phase}
use Rattle.kl_heads.specs.declared.machine.Phase.TheVariants as phase
use Rattle.kl_heads.specs.declared.machine.Stop.{Stop}
use Rattle.kl_heads.specs.declared.machine.Stop.TheVariants as stop
use Rattle.kl_heads.proofs.Completes.{choose}
use Rattle.kl_heads.proofs.Runs.{at, blanks, keyword_blank}

-- no item may stand there
abbrev Late : Result Step Stop → Type 0
Late (Ok (Step.Goes m)) = may_be_item m.phase ≡ false
Late (Err stop.NoHead) = ⊥
Late o = ⊤

not_below : (a b : ℕ) → b ≤ a → nat_lt a b ≡ false
not_below a b h = grind (arith, nat_tests)

by_option : {T : Type 0} (o : Option T) (f : T → Result Step Stop) → ((x : T) → Late (f x)) → Late (or_bad o f)
by_option None f p = tt
by_option (Some x) f p = p x

late_keyword : (st : Brackets) (count b : ℕ) → nat_lt count 2 ≡ false → Late (in_keyword st count b)
unfolding in_keyword
late_keyword st count b e =
    let two : 2 ≤ count = le_from count 2 e in
    choose Late ((count == 0) && is_blank b) _ _
    (λ f. absurd (let none : count ≡ 0 = equal count 0 (and_parts (count == 0) (is_blank b) f).0 in omega arith))
    (λ _. choose Late (nat_lt count (length keyword) && (get_or keyword count 0 == b)) _ _
    (λ _. choose Late (nat_lt (count + 1) (length keyword)) _ _ (λ _. not_below (count + 1) 2 (omega arith)) (λ _. refl))
    (λ _. choose Late (nat_lt count 2) _ _ (λ f. absurd (true≢false (sym f ∙ e))) (λ _. tt)))

late_gap : (st : Brackets) (b : ℕ) → Late (behind_keyword st b)
unfolding behind_keyword
late_gap st b = choose Late (is_blank b) _ _ (λ _. refl) (λ _. tt)

module _ (L : ℕ) where
  late_opens : (st : Brackets) (p : Phase) → may_be_item p ≡ false → Late (opens_bracket L st p)
  late_opens st p e = choose Late (nat_lt (length st) L) _ _ (λ _. e) (λ _. tt)

  late_type : (st : Brackets) (b : ℕ) → Late (type_due L st b)
  unfolding type_due
  late_type st b =
      choose Late (is_blank b) _ _ (λ _. refl)
      (λ _. choose Late (b == 98) _ _ (λ _. refl)
      (λ _. choose Late (b == 105) _ _ (λ _. refl)
      (λ _. choose Late (b == 115) _ _ (λ _. refl)
      (λ _. choose Late (b == 123) _ _ (λ _. late_opens st phase.Brace refl)
      (λ _. choose Late (b == 91) _ _ (λ _. late_opens st phase.Bracket refl)
      (λ _. choose Late (b == 60) _ _ (λ _. late_opens st _ refl) (λ _. tt)))))))

  late_brace : (st : Brackets) (b : ℕ) → Late (behind_brace L st b)
  unfolding behind_brace
  late_brace st b = choose Late (b == 124) _ _ (λ _. refl) (λ _. late_type (frame.Items kind.Set ∷ st) b)

late_label : (st : Brackets) (s : Shape) (fs : Types) (b : ℕ) → Late (label_due st s fs b)
unfolding label_due
late_label st s fs b = choose Late (is_blank b) _ _ (λ _. refl) (λ _. choose Late (is_ascii_alphabetic b) _ _ (λ _. refl) (λ _. tt))

late_record : (st : Brackets) (b : ℕ) → Late (record_opened st b)
unfolding record_opened
late_record st b = choose Late (is_blank b) _ _ (λ _. refl) (λ _. choose Late (b == 93) _ _ (λ _. refl) (λ _. late_label st _ [] b))

late_bracket : (st : Brackets) (b : ℕ) → Late (behind_bracket st b)
unfolding behind_bracket
late_bracket st b = choose Late (b == 124) _ _ (λ _. refl) (λ _. late_record st b)

late_named : (st : Brackets) (s : Shape) (fs : Types) (l : List ℕ) (b : ℕ) → Late (named st s fs l b)
unfolding named
late_named st s fs l b = choose Late (is_blank b) _ _ (λ _. refl) (λ _. choose Late (b == 58) _ _ (λ _. refl) (λ _. tt))

late_name : (st : Brackets) (s : Shape) (fs : Types) (name : List ℕ) (b : ℕ) → Late (in_name st s fs name b)
unfolding in_name
late_name st s fs name b =
    choose Late (is_word_byte b) _ _ (λ _. refl)
    (λ _. by_option (label_of name) _ (λ l. choose Late (has_label fs l) _ _ (λ _. tt) (λ _. late_named st s fs l b)))

late_word : (st : Brackets) (word : Base) (count b : ℕ) → Late (in_word st word count b)
unfolding in_word
late_word st word count b =
    choose Late (nat_lt count (length (base_word word)) && (get_or (base_word word) count 0 == b)) _ _
    (λ _. choose Late (nat_lt (count + 1) (length (base_word word))) _ _ (λ _. refl) (λ _. refl)) (λ _. tt)

late_item : (st : Brackets) (k : Kind) (t : Ty) (b : ℕ) → Late (after_item st k t b)
unfolding after_item
late_item st kind.Set t b = choose Late (b == 125) _ _ (λ _. refl) (λ _. tt)
late_item st kind.Bag t b = choose Late (b == 124) _ _ (λ _. refl) (λ _. tt)
late_item st kind.List t b = choose Late (b == 124) _ _ (λ _. refl) (λ _. tt)

late_closing : (st : Brackets) (k : Kind) (t : Ty) (b : ℕ) → Late (ends_closing st k t b)
unfolding ends_closing
late_closing st k t b = choose Late (b == last_of_close k) _ _ (λ _. refl) (λ _. tt)

late_field : (st : Brackets) (s : Shape) (fs : Types) (b : ℕ) → Late (after_field st s fs b)
unfolding after_field
late_field st s fs b = choose Late (b == 44) _ _ (λ _. refl) (λ _. choose Late (b == closer_of s) _ _ (λ _. refl) (λ _. tt))

late_after : (st : Brackets) (t : Ty) (b : ℕ) → Late (after_type st t b)
unfolding after_type
late_after [] t b = choose Late (is_blank b) _ _ (λ _. refl) (λ _. choose Late (b == 59) _ _ (λ _. tt) (λ _. tt))
late_after (frame.Items k ∷ st) t b = choose Late (is_blank b) _ _ (λ _. refl) (λ _. late_item st k t b)
late_after (frame.Field s fs l ∷ st) t b = choose Late (is_blank b) _ _ (λ _. refl) (λ _. late_field st s (put fs (l, t)) b)

late : (L : ℕ) (st : Brackets) (p : Phase) (b : ℕ) → may_be_item p ≡ false → Late (advanced L st p b)
late L st (phase.Keyword count) b e = late_keyword st count b e
late L st phase.Gap b e = late_gap st b
late L st phase.Type b e = late_type L st b
late L st phase.Brace b e = late_brace L st b
late L st phase.Bracket b e = late_bracket st b
late L st phase.RecordOpened b e = late_record st b
late L st (phase.Label s fs) b e = late_label st s fs b
late L st (phase.Name s fs name) b e = late_name st s fs name b
late L st (phase.Named s fs l) b e = late_named st s fs l b
late L st (phase.Word word count) b e = late_word st word count b
late L st (phase.After t) b e = late_after st t b
late L st (phase.Closing k t) b e = late_closing st k t b

-- and over several bytes
abbrev pub LateRun : Run → Type 0
LateRun (more m) = may_be_item m.phase ≡ false
LateRun no_head = ⊥
LateRun o = ⊤

module _ (L : ℕ) where
  late_step : (o : Result Step Stop) (b : ℕ) (bytes : List ℕ) → Late o → ((n : Machine) → may_be_item n.phase ≡ false → LateRun (run L bytes n))
      → LateRun (followed o b bytes (λ n. run L bytes n))
  late_step (Ok (Step.Goes m)) b bytes h again = again m h
  late_step (Ok (Step.Ends t)) b bytes h again = tt
  late_step (Err stop.NoHead) b bytes h again = absurd h
  late_step (Err stop.Bad) b bytes h again = tt
  late_step (Err stop.TooDeep) b bytes h again = tt
  late_step (Err stop.NoMemory) b bytes h again = tt

  late_run : (bytes : List ℕ) (m : Machine) → may_be_item m.phase ≡ false → LateRun (run L bytes m)
  late_run [] m h = h
  late_run (b ∷ bytes) m h = late_step (advanced L m.stack m.phase b) b bytes (late L m.stack m.phase b h) (λ n k. late_run bytes n k)

-- white space, and perhaps a `t`
abbrev pub MayBeItem : List ℕ → Type 0
MayBeItem bytes = Blank bytes ⊎ ((bs : List ℕ) × (bytes ≡ bs ++ 116 ∷ []) × Blank bs)

-- white space and `ty`
abbrev pub Typed : List ℕ → Type 0
Typed bytes = (bs : List ℕ) × (rest : List ℕ) × (bytes ≡ bs ++ 116 ∷ 121 ∷ rest) × Blank bs

-- what bytes are that lead there
abbrev pub Told : List ℕ → Run → Type 0
Told bytes (more m) = (MayBeItem bytes × (may_be_item m.phase ≡ true)) ⊎ (Typed bytes × (may_be_item m.phase ≡ false))
Told bytes no_head = ⊤
Told bytes o = Typed bytes

typed_later : (b : ℕ) (bytes : List ℕ) → is_blank b ≡ true → Typed bytes → Typed (b ∷ bytes)
typed_later b bytes blank c = (b ∷ c.0, c.1, ap (λ bs. b ∷ bs) c.2, (blank, c.3))

item_later : (b : ℕ) (bytes : List ℕ) → is_blank b ≡ true → MayBeItem bytes → MayBeItem (b ∷ bytes)
item_later b bytes blank (inl c) = inl (blank, c)
item_later b bytes blank (inr c) = inr (b ∷ c.0, ap (λ bs. b ∷ bs) c.1, (blank, c.2))

told_later : (b : ℕ) (bytes : List ℕ) (o : Run) → is_blank b ≡ true → Told bytes o → Told (b ∷ bytes) o
told_later b bytes (more m) blank (inl c) = inl (item_later b bytes blank c.0, c.1)
told_later b bytes (more m) blank (inr c) = inr (typed_later b bytes blank c.0, c.1)
told_later b bytes no_head blank c = tt
told_later b bytes (ends t rest) blank c = typed_later b bytes blank c
told_later b bytes (fails rest) blank c = typed_later b bytes blank c
told_later b bytes (deep rest) blank c = typed_later b bytes blank c

told_late : (bytes : List ℕ) (o : Run) → Typed bytes → LateRun o → Told bytes o
told_late bytes (more m) typed h = inr (typed, h)
told_late bytes no_head typed h = tt
told_late bytes (ends t rest) typed h = typed
told_late bytes (fails rest) typed h = typed
told_late bytes (deep rest) typed h = typed

module _ (L : ℕ) where
  -- behind a `t`
  told_t : (bytes : List ℕ) → Told (116 ∷ bytes) (run L bytes (at [] (phase.Keyword 1)))
  unfolding in_keyword
  told_t [] = inl (inr ([], refl, tt), refl)
  told_t (b ∷ bytes) =
      choose (λ o. Told (116 ∷ b ∷ bytes) (followed o b bytes (λ n. run L bytes n))) (121 == b) _ _
      (λ e. told_late (116 ∷ b ∷ bytes) (run L bytes (at [] (phase.Keyword 2))) ([], bytes, ap (λ c. 116 ∷ c ∷ bytes) (sym (equal 121 b e)), tt)
      (late_run L bytes (at [] (phase.Keyword 2)) refl)) (λ _. tt)

  pub told : (bytes : List ℕ) → Told bytes (run L bytes start)
  unfolding in_keyword
  told [] = inl (inl tt, refl)
  told (b ∷ bytes) =
      choose (λ o. Told (b ∷ bytes) (followed o b bytes (λ n. run L bytes n))) (is_blank b) _ _
      (λ e. told_later b bytes (run L bytes start) e (told bytes))
      (λ _. choose (λ o. Told (b ∷ bytes) (followed o b bytes (λ n. run L bytes n))) (116 == b) _ _
      (λ e. subst (λ c. Told (c ∷ bytes) (run L bytes (at [] (phase.Keyword 1)))) (equal 116 b e) (told_t bytes)) (λ _. tt))

  behind_ty : (rest : List ℕ) → LateRun (run L (116 ∷ 121 ∷ rest) start)
  unfolding in_keyword
  behind_ty rest = late_run L rest (at [] (phase.Keyword 2)) refl

  -- behind `ty` the machine is late
  pub typed_late : (bytes : List ℕ) → Typed bytes → LateRun (run L bytes start)
  typed_late bytes c =
      subst (λ bs. LateRun (run L bs start)) (sym c.2)
      (subst LateRun (sym (blanks L [] (phase.Keyword 0) (keyword_blank L []) c.0 (116 ∷ 121 ∷ c.1) c.3)) (behind_ty c.1))
