-- What completes what a machine has come to: each byte that it takes may stand before what completes the next machine,
-- and each machine can be completed.
use Rattle.std.proofs.Common.{◌≡◌, ℕ, ◌+◌, ◌-◌, ◌<◌, ◌≤◌, suc, zero, Bool, true, false, ◌&&◌, cond, List, [], ◌∷◌, ◌++◌, length, drop, get_or, refl, sym, ap, subst, ◌∙◌, arith, ◌==◌, nat_lt, IsTrue, ◌⊎◌, inl, inr, Result, Ok, Err, append_assoc, append-nil, drop-cons, drop_of_length-le, add-one, lit<}
use Rattle.std.specs.Prelude.{⊤, codes}
use Rattle.std.specs.Char.{is_ascii_alphabetic}
use Rattle.std.proofs.lemmas.Bool.{and_parts}
use Rattle.std.proofs.Common.{length-append}
use Rattle.kl_base.specs.Word.{is_word, is_word_byte}
use Rattle.kl_value.specs.declared.Kind.{Kind}
use Rattle.kl_value.specs.declared.Kind.TheVariants as kind
use Rattle.kl_value.specs.Written.{opening, closing}
use Rattle.kl_type.specs.Grammar.{put}
use Rattle.kl_type.specs.declared.ground.Ty.{Ty}
use Rattle.kl_type.specs.declared.ground.Ty.TheVariants as ty
use Rattle.kl_exchange.specs.Grammar.{is_blank, Blank, More}
use Rattle.kl_exchange.proofs.Bytes.{equal, word_push, lt_from, le_from}
use Rattle.kl_exchange.proofs.Pairs.{letters, letters_word, letters_bytes, length-letters, word_goes_on, shorter_differs}
use Rattle.kl_exchange.specs.Machine.{last_of_close}
use Rattle.kl_heads.specs.Heads.{Types, has_label, put_all, AreNew, SpellsBase, SpellsFieldType, SpellsBracketType, SpellsType, IsHead}
use Rattle.kl_heads.specs.Machine.{Brackets, goes, run, Run, more, ends, no_head, fails, deep, followed, advanced, keyword, in_keyword, behind_keyword, type_due, opens_bracket, behind_brace, behind_bracket, record_opened, label_due, in_name, named, in_word, after_type, after_item, after_field, ends_closing, closer_of, type_of, base_word, base_type}
use Rattle.kl_heads.specs.Machine.{Step}
use Rattle.kl_heads.specs.declared.machine.Base.{Base}
use Rattle.kl_heads.specs.declared.machine.Base.TheVariants as base
use Rattle.kl_heads.specs.declared.machine.Shape.{Shape}
use Rattle.kl_heads.specs.declared.machine.Shape.TheVariants as shape
use Rattle.kl_heads.specs.declared.machine.Frame.TheVariants as frame
use Rattle.kl_heads.specs.declared.machine.Machine.{Machine}
use Rattle.kl_heads.specs.declared.machine.Phase.{Phase}
use Rattle.kl_heads.specs.declared.machine.Phase.TheVariants as phase
use Rattle.kl_heads.specs.declared.machine.Stop.{Stop}
use Rattle.kl_heads.specs.declared.machine.Stop.TheVariants as stop

-- What holds of every machine that bytes come to: a word is not whole yet, a label is one so far, and at most L brackets
-- are open.
abbrev pub IsSoundPhase : Phase → Type 0
IsSoundPhase (phase.Keyword count) = count < length keyword
IsSoundPhase (phase.Name s fields name) = IsTrue (is_word name)
IsSoundPhase (phase.Word word count) = count < length (base_word word)
IsSoundPhase _ = ⊤

-- how many brackets are open that are not on the stack
abbrev pub pending : Phase → ℕ
pending phase.Brace = 1
pending phase.Bracket = 1
pending phase.RecordOpened = 1
pending (phase.Label s fields) = 1
pending (phase.Name s fields name) = 1
pending (phase.Named s fields l) = 1
pending (phase.Closing k t) = 1
pending _ = 0

pub record IsSound (L : ℕ) (st : Brackets) (p : Phase) : Type 0 where
  pub at : IsSoundPhase p
  pub nesting : pending p + length st ≤ L

-- Behind a type t with these brackets round it, u completes the head to w. The types of the innermost bracket nest at most
-- n deep.
abbrev pub After : ℕ → Brackets → Ty → List ℕ → Ty → Type 0
After n [] t u w = (bs : List ℕ) × (u ≡ bs ++ 59 ∷ []) × Blank bs × (w ≡ t)
After n (frame.Items k ∷ st) t u w = (bs : List ℕ) × (behind : List ℕ) × (u ≡ bs ++ (closing k ++ behind)) × Blank bs
    × After (suc n) st (ty.Coll k t) behind w
After n (frame.Field s fs l ∷ st) t u w = (bs : List ℕ) × (rest : List ℕ) × (gs : Types) × (behind : List ℕ)
    × (u ≡ bs ++ (rest ++ closer_of s ∷ behind)) × Blank bs × More (SpellsFieldType (SpellsType n)) rest gs × AreNew (put fs (l, t)) gs
    × After (suc n) st (type_of s (put_all (put fs (l, t)) gs)) behind w

-- where a type is due
abbrev pub Due : ℕ → Brackets → List ℕ → Ty → Type 0
Due n st u w = (bs : List ℕ) × (x : List ℕ) × (t : Ty) × (behind : List ℕ) × (u ≡ bs ++ (x ++ behind)) × Blank bs × SpellsType n x t × After n st t behind w

abbrev pub NamedDue : ℕ → Brackets → Shape → Types → List ℕ → List ℕ → Ty → Type 0
NamedDue n st s fs l u w = (bs : List ℕ) × (behind : List ℕ) × (u ≡ bs ++ 58 ∷ behind) × Blank bs × Due n (frame.Field s fs l ∷ st) behind w

abbrev pub Whole : ℕ → Brackets → Shape → Types → List ℕ → List ℕ → Ty → Type 0
Whole n st s fs l u w = IsTrue (is_word l) × (has_label fs l ≡ false) × NamedDue n st s fs l u w

abbrev pub InName : ℕ → Brackets → Shape → Types → List ℕ → List ℕ → Ty → Type 0
InName n st s fs name u w = (tail : List ℕ) × (behind : List ℕ) × (u ≡ tail ++ behind) × Whole n st s fs (name ++ tail) behind w

abbrev pub LabelDue : ℕ → Brackets → Shape → Types → List ℕ → Ty → Type 0
LabelDue n st s fs u w = (bs : List ℕ) × (behind : List ℕ) × (u ≡ bs ++ behind) × Blank bs × InName n st s fs [] behind w

abbrev pub RecordOpen : ℕ → Brackets → List ℕ → Ty → Type 0
RecordOpen n st u w = ((bs : List ℕ) × (behind : List ℕ) × (u ≡ bs ++ 93 ∷ behind) × Blank bs × After (suc n) st (ty.Rec []) behind w)
    ⊎ LabelDue n st shape.Record [] u w

-- behind the word `type`
abbrev pub GapDue : ℕ → Brackets → List ℕ → Ty → Type 0
GapDue n st u w = (b : ℕ) × (behind : List ℕ) × (u ≡ b ∷ behind) × (is_blank b ≡ true) × Due n st behind w

-- in that word, before which white space may stand
abbrev pub InKeyword : ℕ → Brackets → ℕ → List ℕ → Ty → Type 0
InKeyword n st count u w = (bs : List ℕ) × (behind : List ℕ) × (u ≡ bs ++ (drop count keyword ++ behind)) × Blank bs × (0 < count → bs ≡ [])
    × GapDue n st behind w

abbrev pub At : ℕ → Brackets → Phase → List ℕ → Ty → Type 0
At n st (phase.Keyword count) u w = InKeyword n st count u w
At n st phase.Gap u w = GapDue n st u w
At n st phase.Type u w = Due n st u w
At n st phase.Brace u w = ((behind : List ℕ) × (u ≡ 124 ∷ behind) × Due n (frame.Items kind.Bag ∷ st) behind w) ⊎ Due n (frame.Items kind.Set ∷ st) u w
At n st phase.Bracket u w = ((behind : List ℕ) × (u ≡ 124 ∷ behind) × Due n (frame.Items kind.List ∷ st) behind w) ⊎ RecordOpen n st u w
At n st phase.RecordOpened u w = RecordOpen n st u w
At n st (phase.Label s fs) u w = LabelDue n st s fs u w
At n st (phase.Name s fs name) u w = InName n st s fs name u w
At n st (phase.Named s fs l) u w = NamedDue n st s fs l u w
At n st (phase.Word word count) u w = (behind : List ℕ) × (u ≡ drop count (base_word word) ++ behind) × After n st (base_type word) behind w
At n st (phase.After t) u w = After n st t u w
At n st (phase.Closing k t) u w = (behind : List ℕ) × (u ≡ last_of_close k ∷ behind) × After (suc n) st (ty.Coll k t) behind w

-- with at most L brackets open at a place
abbrev pub Completes : ℕ → Brackets → Phase → List ℕ → Ty → Type 0
Completes L st p u w = (n : ℕ) × (n + (pending p + length st) ≡ L) × At n st p u w

-- What one byte comes to is right: what completes the next machine, behind the byte, completes this one.
abbrev pub Right : ℕ → Brackets → Phase → ℕ → Result Step Stop → Type 0
Right L st p b (Ok (Step.Goes m)) = IsSound L m.stack m.phase × ((u : List ℕ) (w : Ty) → Completes L m.stack m.phase u w → Completes L st p (b ∷ u) w)
Right L st p b (Ok (Step.Ends t)) = Completes L st p (b ∷ []) t
Right L st p b (Err stop.TooDeep) = L ≤ pending p + length st
Right L st p b (Err e) = ⊤

pub choose : (P : Result Step Stop → Type 0) (c : Bool) (x y : Result Step Stop) → (c ≡ true → P x) → (c ≡ false → P y) → P (cond c x y)
choose P true x y p q = p refl
choose P false x y p q = q refl

-- from one machine to another that completes alike
through : (L : ℕ) (st to : Brackets) (p q : Phase) (b : ℕ) (o : Result Step Stop) → pending q + length to ≤ pending p + length st
    → ((u : List ℕ) (w : Ty) → Completes L to q u w → Completes L st p u w) → Right L to q b o → Right L st p b o
through L st to p q b (Ok (Step.Goes m)) as_deep leads right = (right.0, λ u w c. leads (b ∷ u) w (right.1 u w c))
through L st to p q b (Ok (Step.Ends t)) as_deep leads right = leads (b ∷ []) t right
through L st to p q b (Err stop.NoHead) as_deep leads right = tt
through L st to p q b (Err stop.Bad) as_deep leads right = tt
through L st to p q b (Err stop.TooDeep) as_deep leads right = omega arith
through L st to p q b (Err stop.NoMemory) as_deep leads right = tt

based : (n : ℕ) (x : List ℕ) (t : Ty) → SpellsBase x t → SpellsType n x t
based zero x t spells = spells
based (suc n) x t spells = inl spells

spells_word : (b : Base) → SpellsBase (base_word b) (base_type b)
spells_word base.Bool = SpellsBase.truth refl refl
spells_word base.Int = SpellsBase.number refl refl
spells_word base.Str = SpellsBase.text refl refl

-- a label that no field has: a long one
pub room : Types → ℕ
room [] = 0
room (f ∷ fs) = length f.0 + room fs

longer_fresh : (fs : Types) (name tail : List ℕ) → room fs < length tail → has_label fs (name ++ tail) ≡ false
unfolding room
longer_fresh [] name tail long = refl
longer_fresh (f ∷ fs) name tail long =
    rw (shorter_differs (name ++ tail) f.0 (omega (arith, length-append name tail)), longer_fresh fs name tail (omega arith))

module _ (L : ℕ) where
  -- a blank before what is due
  blank_due : (n : ℕ) (st : Brackets) (b : ℕ) (u : List ℕ) (w : Ty) → is_blank b ≡ true → Due n st u w → Due n st (b ∷ u) w
  blank_due n st b u w blank c = (b ∷ c.0, c.1, c.2, c.3, ap (λ bs. b ∷ bs) c.4, (blank, c.5), c.6, c.7)

  -- a type without brackets begins here
  word_begins : (n : ℕ) (st : Brackets) (word : Base) (b : ℕ) (others behind u : List ℕ) (w : Ty) → base_word word ≡ b ∷ others
      → u ≡ others ++ behind → After n st (base_type word) behind w → Due n st (b ∷ u) w
  word_begins n st word b others behind u w is e c =
      ([], base_word word, base_type word, behind, ap (λ bs. b ∷ bs) e ∙ ap (λ bs. bs ++ behind) (sym is), tt, based n (base_word word) (base_type word) (spells_word word), c)

  -- a bracket opens here
  bracketed : (n : ℕ) (st : Brackets) (x behind : List ℕ) (t w : Ty) (u : List ℕ) → u ≡ x ++ behind → SpellsBracketType (SpellsType n) x t → After (suc n) st t behind w
      → Due (suc n) st u w
  bracketed n st x behind t w u e spells c = ([], x, t, behind, e, tt, inr spells, c)

  opens_collection : (n : ℕ) (st : Brackets) (k : Kind) (u : List ℕ) (w : Ty) → Due n (frame.Items k ∷ st) u w → Due (suc n) st (opening k ++ u) w
  opens_collection n st k u w c =
      let a = c.7 in
      let inside : List ℕ = c.0 ++ (c.1 ++ a.0) in
      let is : u ≡ inside ++ (closing k ++ a.1) = c.4 ∙ simp (a.2, append_assoc) in
      bracketed n st (opening k ++ (inside ++ closing k)) a.1 (ty.Coll k c.2) w (opening k ++ u)
      (rw is (sym (append_assoc (opening k) (inside ++ closing k) a.1 ∙ ap (λ bs. opening k ++ bs) (append_assoc inside (closing k) a.1))))
      (SpellsBracketType.collection k inside c.2 refl
      (record { before = c.0; inside = c.1; after = a.0; is = refl; blank_before = c.5; blank_after = a.3; spells = c.6 }) refl) a.4

  -- A label is due, and what completes is a field without the white space behind its type.
  record Labelled (n : ℕ) (st : Brackets) (s : Shape) (fs : Types) (u : List ℕ) (w : Ty) : Type 0 where
    l : List ℕ
    t : Ty
    front : List ℕ
    behind : List ℕ
    is : u ≡ front ++ behind
    fresh : has_label fs l ≡ false
    field : (bs : List ℕ) → Blank bs → SpellsFieldType (SpellsType n) (front ++ bs) (l, t)
    after : After n (frame.Field s fs l ∷ st) t behind w

  labelled : (n : ℕ) (st : Brackets) (s : Shape) (fs : Types) (u : List ℕ) (w : Ty) → LabelDue n st s fs u w → Labelled n st s fs u w
  labelled n st s fs u w c =
      let l : List ℕ = c.4.0 in
      let named_due = c.4.3.2 in
      let due = named_due.4 in
      let name : List ℕ = c.0 ++ (l ++ named_due.0) in
      record {
        l = l;
        t = due.2;
        front = name ++ 58 ∷ (due.0 ++ due.1);
        behind = due.3;
        is = c.2 ∙ simp (c.4.2, named_due.2, due.4, append_assoc);
        fresh = c.4.3.1;
        field = λ bs blank. record {
          name = name;
          text = due.0 ++ (due.1 ++ bs);
          is = simp append_assoc;
          label = record { before = c.0; inside = l; after = named_due.0; is = refl; blank_before = c.3; blank_after = named_due.3; spells = (refl, c.4.3.0) };
          inside = record { before = due.0; inside = due.1; after = bs; is = refl; blank_before = due.5; blank_after = blank; spells = due.6 };
        };
        after = due.7;
      }

  opens_record : (n : ℕ) (st : Brackets) (u : List ℕ) (w : Ty) → RecordOpen n st u w → Due (suc n) st (91 ∷ u) w
  opens_record n st u w (inl c) =
      bracketed n st (91 ∷ (c.0 ++ 93 ∷ [])) c.1 (ty.Rec []) w (91 ∷ u)
      (ap (λ bs. 91 ∷ bs) (c.2 ∙ sym (append_assoc c.0 (93 ∷ []) c.1)))
      (SpellsBracketType.fields c.0 [] refl c.3 tt refl) c.4
  opens_record n st u w (inr c) =
      let p = labelled n st shape.Record [] u w c in
      let a = p.after in
      let inside : List ℕ = (p.front ++ a.0) ++ a.1 in
      bracketed n st (91 ∷ (inside ++ 93 ∷ [])) a.3 (ty.Rec (put_all [] ((p.l, p.t) ∷ a.2))) w (91 ∷ u)
      (ap (λ bs. 91 ∷ bs) (p.is ∙ simp (a.4, append_assoc)))
      (SpellsBracketType.fields inside ((p.l, p.t) ∷ a.2) refl (p.front ++ a.0, a.1, refl, p.field a.0 a.5, a.6) (refl, a.7) refl) a.8

  opens_variant : (n : ℕ) (st : Brackets) (u : List ℕ) (w : Ty) → LabelDue n st shape.Variant [] u w → Due (suc n) st (60 ∷ u) w
  opens_variant n st u w c =
      let p = labelled n st shape.Variant [] u w c in
      let a = p.after in
      let inside : List ℕ = (p.front ++ a.0) ++ a.1 in
      bracketed n st (60 ∷ (inside ++ 62 ∷ [])) a.3 (ty.Var (put_all [] ((p.l, p.t) ∷ a.2))) w (60 ∷ u)
      (ap (λ bs. 60 ∷ bs) (p.is ∙ simp (a.4, append_assoc)))
      (SpellsBracketType.cases inside (p.l, p.t) a.2 refl (p.front ++ a.0, a.1, refl, p.field a.0 a.5, a.6) (refl, a.7) refl) a.8

  comma_field : (n : ℕ) (st : Brackets) (s : Shape) (fs : Types) (l : List ℕ) (t : Ty) (u : List ℕ) (w : Ty)
      → LabelDue n st s (put fs (l, t)) u w → After n (frame.Field s fs l ∷ st) t (44 ∷ u) w
  comma_field n st s fs l t u w c =
      let p = labelled n st s (put fs (l, t)) u w c in
      let a = p.after in (
        [],
        44 ∷ ((p.front ++ a.0) ++ a.1),
        (p.l, p.t) ∷ a.2,
        a.3,
        ap (λ bs. 44 ∷ bs) (p.is ∙ simp (a.4, append_assoc)),
        tt,
        (p.front ++ a.0, a.1, refl, p.field a.0 a.5, a.6),
        (p.fresh, a.7),
        a.8,
      )

  -- The byte closes a bracket, and the machine is behind a type with one bracket less.
  shut : (st to : Brackets) (p : Phase) (t : Ty) (b : ℕ) → pending p + length to ≡ 1 + length st → 1 + length st ≤ L
      → ((n : ℕ) (u : List ℕ) (w : Ty) → After (suc n) st t u w → At n to p (b ∷ u) w)
      → (u : List ℕ) (w : Ty) → Completes L st (phase.After t) u w → Completes L to p (b ∷ u) w
  shut st to p t b same room make u w (zero, e, a) = absurd (omega arith)
  shut st to p t b same room make u w (suc n, e, a) = (n, omega arith, make n u w a)

  due_byte : (n : ℕ) (st : Brackets) (b c : ℕ) (u : List ℕ) (w : Ty) → (b == c) ≡ true → Due n st (c ∷ u) w → Due n st (b ∷ u) w
  due_byte n st b c u w e = subst (λ a. Due n st (a ∷ u) w) (sym (equal b c e))

  -- where a type is due
  brace_open : (n : ℕ) (st : Brackets) (u : List ℕ) (w : Ty) → At n st phase.Brace u w → Due (suc n) st (123 ∷ u) w
  brace_open n st u w (inl c) = subst (λ bs. Due (suc n) st (123 ∷ bs) w) (sym c.1) (opens_collection n st kind.Bag c.0 w c.2)
  brace_open n st u w (inr c) = opens_collection n st kind.Set u w c

  bracket_open : (n : ℕ) (st : Brackets) (u : List ℕ) (w : Ty) → At n st phase.Bracket u w → Due (suc n) st (91 ∷ u) w
  bracket_open n st u w (inl c) = subst (λ bs. Due (suc n) st (91 ∷ bs) w) (sym c.1) (opens_collection n st kind.List c.0 w c.2)
  bracket_open n st u w (inr c) = opens_record n st u w c

  right_opens : (st : Brackets) (b : ℕ) (p : Phase) → IsSoundPhase p → pending p ≡ 1
      → ((n : ℕ) (u : List ℕ) (w : Ty) → At n st p u w → Due (suc n) st (b ∷ u) w) → Right L st phase.Type b (opens_bracket L st p)
  right_opens st b p sound one make =
      choose (Right L st phase.Type b) (nat_lt (length st) L) _ _
      (λ e. (
        record { at = sound; nesting = (let within = lt_from (length st) L e in omega arith) },
        λ u w c. (suc c.0, omega (arith, c.1, one), make c.0 u w c.2),
      ))
      (λ e. let full = le_from (length st) L e in omega arith)

  right_type : (st : Brackets) (b : ℕ) → length st ≤ L → Right L st phase.Type b (type_due L st b)
  unfolding type_due
  right_type st b room =
      let P = Right L st phase.Type b in
      choose P (is_blank b) _ _
      (λ e. (record { at = tt; nesting = omega arith }, λ u w c. (c.0, c.1, blank_due c.0 st b u w e c.2)))
      (λ _. choose P (b == 98) _ _
      (λ e. (
        record { at = lit< tt; nesting = omega arith },
        λ u w c. (c.0, c.1, due_byte c.0 st b 98 u w e (word_begins c.0 st base.Bool 98 (codes "ool") c.2.0 u w refl c.2.1 c.2.2)),
      ))
      (λ _. choose P (b == 105) _ _
      (λ e. (
        record { at = lit< tt; nesting = omega arith },
        λ u w c. (c.0, c.1, due_byte c.0 st b 105 u w e (word_begins c.0 st base.Int 105 (codes "nt") c.2.0 u w refl c.2.1 c.2.2)),
      ))
      (λ _. choose P (b == 115) _ _
      (λ e. (
        record { at = lit< tt; nesting = omega arith },
        λ u w c. (c.0, c.1, due_byte c.0 st b 115 u w e (word_begins c.0 st base.Str 115 (codes "tring") c.2.0 u w refl c.2.1 c.2.2)),
      ))
      (λ _. choose P (b == 123) _ _
      (λ e. right_opens st b phase.Brace tt refl (λ n u w c. due_byte (suc n) st b 123 u w e (brace_open n st u w c)))
      (λ _. choose P (b == 91) _ _
      (λ e. right_opens st b phase.Bracket tt refl (λ n u w c. due_byte (suc n) st b 91 u w e (bracket_open n st u w c)))
      (λ _. choose P (b == 60) _ _
      (λ e. right_opens st b (phase.Label shape.Variant []) tt refl (λ n u w c. due_byte (suc n) st b 60 u w e (opens_variant n st u w c)))
      (λ _. tt)))))))

  -- the word `type`
  right_keyword : (st : Brackets) (count b : ℕ) → length st ≤ L → Right L st (phase.Keyword count) b (in_keyword st count b)
  unfolding in_keyword
  right_keyword st count b room =
      let P = Right L st (phase.Keyword count) b in
      choose P ((count == 0) && is_blank b) _ _
      (λ e.
      let both = and_parts (count == 0) (is_blank b) e in
      let none : count ≡ 0 = equal count 0 both.0 in (
        record { at = lit< tt; nesting = omega arith },
        λ u w c. (
          c.0,
          c.1,
          (b ∷ c.2.0, c.2.1, ap (λ bs. b ∷ bs) c.2.2 ∙ ap (λ k. b ∷ (c.2.0 ++ (drop k keyword ++ c.2.1))) (sym none), (both.1, c.2.3), (λ some. absurd (omega arith)), c.2.5),
        ),
      ))
      (λ _. choose P (nat_lt count (length keyword) && (get_or keyword count 0 == b)) _ _
      (λ e.
      let both = and_parts (nat_lt count (length keyword)) (get_or keyword count 0 == b) e in
      let within : count < length keyword = lt_from count (length keyword) both.0 in
      let here : drop count keyword ≡ b ∷ drop (count + 1) keyword =
      drop-cons keyword count 0 within ∙ (ap (λ a. a ∷ drop (suc count) keyword) (equal (get_or keyword count 0) b both.1) ∙ ap (λ k. b ∷ drop k keyword) (sym (add-one count))) in
      choose P (nat_lt (count + 1) (length keyword)) _ _
      (λ f. (
        record { at = lt_from (count + 1) (length keyword) f; nesting = omega arith },
        λ u w c.
            let none : c.2.0 ≡ [] = c.2.4 (omega arith) in (
              c.0,
              c.1,
              ([], c.2.1, ap (λ bs. b ∷ bs) (c.2.2 ∙ ap (λ bs. bs ++ (drop (count + 1) keyword ++ c.2.1)) none) ∙ ap (λ bs. bs ++ c.2.1) (sym here), tt, (λ some. refl), c.2.5),
            ),
      ))
      (λ f.
      let last : length keyword ≤ count + 1 = le_from (count + 1) (length keyword) f in (
        record { at = tt; nesting = omega arith },
        λ u w c. (c.0, c.1, ([], u, ap (λ bs. bs ++ u) (sym (here ∙ ap (λ bs. b ∷ bs) (drop_of_length-le keyword last))), tt, (λ some. refl), c.2)),
      )))
      (λ _. choose P (nat_lt count 2) _ _ (λ _. tt) (λ _. tt)))

  right_gap : (st : Brackets) (b : ℕ) → length st ≤ L → Right L st phase.Gap b (behind_keyword st b)
  unfolding behind_keyword
  right_gap st b room =
      choose (Right L st phase.Gap b) (is_blank b) _ _
      (λ e. (record { at = tt; nesting = omega arith }, λ u w c. (c.0, c.1, (b, u, refl, e, c.2)))) (λ _. tt)

  right_brace : (st : Brackets) (b : ℕ) → 1 + length st ≤ L → Right L st phase.Brace b (behind_brace L st b)
  unfolding behind_brace
  right_brace st b room =
      choose (Right L st phase.Brace b) (b == 124) _ _
      (λ e. (record { at = tt; nesting = omega arith }, λ u w c. (c.0, omega (arith, c.1), inl (u, ap (λ a. a ∷ u) (equal b 124 e), c.2))))
      (λ _. through L st (frame.Items kind.Set ∷ st) phase.Brace phase.Type b _ (omega arith) (λ u w c. (c.0, omega (arith, c.1), inr c.2))
      (right_type (frame.Items kind.Set ∷ st) b (omega arith)))

  right_closing : (st : Brackets) (k : Kind) (t : Ty) (b : ℕ) → 1 + length st ≤ L
      → Right L st (phase.Closing k t) b (ends_closing st k t b)
  unfolding ends_closing
  right_closing st k t b room =
      choose (Right L st (phase.Closing k t) b) (b == last_of_close k) _ _
      (λ e. (
        record { at = tt; nesting = omega arith },
        shut st st (phase.Closing k t) (ty.Coll k t) b refl room (λ n u w a. (u, ap (λ c. c ∷ u) (equal b (last_of_close k) e), a)),
      ))
      (λ _. tt)

  -- labels
  right_label : (st : Brackets) (s : Shape) (fs : Types) (b : ℕ) → 1 + length st ≤ L
      → Right L st (phase.Label s fs) b (label_due st s fs b)
  unfolding label_due
  right_label st s fs b room =
      let P = Right L st (phase.Label s fs) b in
      choose P (is_blank b) _ _
      (λ e. (record { at = tt; nesting = omega arith }, λ u w c. (c.0, c.1, (b ∷ c.2.0, c.2.1, ap (λ bs. b ∷ bs) c.2.2, (e, c.2.3), c.2.4))))
      (λ _. choose P (is_ascii_alphabetic b) _ _
      (λ e. (
        record { at = rw e; nesting = omega arith },
        λ u w c. (c.0, c.1, ([], b ∷ u, refl, tt, (b ∷ c.2.0, c.2.1, ap (λ bs. b ∷ bs) c.2.2, c.2.3))),
      ))
      (λ _. tt))

  right_record : (st : Brackets) (b : ℕ) → 1 + length st ≤ L → Right L st phase.RecordOpened b (record_opened st b)
  unfolding record_opened
  right_record st b room =
      let P = Right L st phase.RecordOpened b in
      choose P (is_blank b) _ _
      (λ e. (record { at = tt; nesting = omega arith }, λ u w c. (c.0, c.1, blank_record c.0 b u w e c.2)))
      (λ _. choose P (b == 93) _ _
      (λ e. (
        record { at = tt; nesting = omega arith },
        shut st st phase.RecordOpened (ty.Rec []) b refl room (λ n u w a. inl ([], u, ap (λ c. c ∷ u) (equal b 93 e), tt, a)),
      ))
      (λ _. through L st st phase.RecordOpened (phase.Label shape.Record []) b _ (omega arith) (λ u w c. (c.0, c.1, inr c.2)) (right_label st shape.Record [] b room)))
    where
      blank_record : (n : ℕ) (b : ℕ) (u : List ℕ) (w : Ty) → is_blank b ≡ true → RecordOpen n st u w → RecordOpen n st (b ∷ u) w
      blank_record n b u w blank (inl c) = inl (b ∷ c.0, c.1, ap (λ bs. b ∷ bs) c.2, (blank, c.3), c.4)
      blank_record n b u w blank (inr c) = inr (b ∷ c.0, c.1, ap (λ bs. b ∷ bs) c.2, (blank, c.3), c.4)

  right_bracket : (st : Brackets) (b : ℕ) → 1 + length st ≤ L → Right L st phase.Bracket b (behind_bracket st b)
  unfolding behind_bracket
  right_bracket st b room =
      choose (Right L st phase.Bracket b) (b == 124) _ _
      (λ e. (record { at = tt; nesting = omega arith }, λ u w c. (c.0, omega (arith, c.1), inl (u, ap (λ a. a ∷ u) (equal b 124 e), c.2))))
      (λ _. through L st st phase.Bracket phase.RecordOpened b _ (omega arith) (λ u w c. (c.0, c.1, inr c.2)) (right_record st b room))

  right_named : (st : Brackets) (s : Shape) (fs : Types) (l : List ℕ) (b : ℕ) → 1 + length st ≤ L
      → Right L st (phase.Named s fs l) b (named st s fs l b)
  unfolding named
  right_named st s fs l b room =
      let P = Right L st (phase.Named s fs l) b in
      choose P (is_blank b) _ _
      (λ e. (record { at = tt; nesting = omega arith }, λ u w c. (c.0, c.1, (b ∷ c.2.0, c.2.1, ap (λ bs. b ∷ bs) c.2.2, (e, c.2.3), c.2.4))))
      (λ _. choose P (b == 58) _ _
      (λ e. (
        record { at = tt; nesting = omega arith },
        λ u w c. (c.0, omega (arith, c.1), ([], u, ap (λ a. a ∷ u) (equal b 58 e), tt, c.2)),
      ))
      (λ _. tt))

  right_name : (st : Brackets) (s : Shape) (fs : Types) (name : List ℕ) (b : ℕ) → is_word name ≡ true → 1 + length st ≤ L
      → Right L st (phase.Name s fs name) b (in_name st s fs name b)
  unfolding in_name
  right_name st s fs name b word room =
      let P = Right L st (phase.Name s fs name) b in
      choose P (is_word_byte b) _ _
      (λ e. (
        record { at = word_push name b word e; nesting = omega arith },
        λ u w c. (
          c.0,
          c.1,
          (b ∷ c.2.0, c.2.1, ap (λ bs. b ∷ bs) c.2.2, subst (λ l. Whole c.0 st s fs l c.2.1 w) (append_assoc name (b ∷ []) c.2.0) c.2.3),
        ),
      ))
      (λ _. rw word
      (choose P (has_label fs name) _ _ (λ _. tt)
      (λ fresh. through L st st (phase.Name s fs name) (phase.Named s fs name) b _ (omega arith)
      (λ u w c. (c.0, c.1, ([], u, refl, subst (λ l. Whole c.0 st s fs l u w) (sym (append-nil name)) (word, fresh, c.2))))
      (right_named st s fs name b room))))

  right_word : (st : Brackets) (word : Base) (count b : ℕ) → length st ≤ L → Right L st (phase.Word word count) b (in_word st word count b)
  unfolding in_word
  right_word st word count b room =
      let P = Right L st (phase.Word word count) b in
      let bytes : List ℕ = base_word word in
      choose P (nat_lt count (length bytes) && (get_or bytes count 0 == b)) _ _
      (λ e.
      let both = and_parts (nat_lt count (length bytes)) (get_or bytes count 0 == b) e in
      let within : count < length bytes = lt_from count (length bytes) both.0 in
      let here : drop count bytes ≡ b ∷ drop (count + 1) bytes =
      drop-cons bytes count 0 within ∙ (ap (λ a. a ∷ drop (suc count) bytes) (equal (get_or bytes count 0) b both.1) ∙ ap (λ k. b ∷ drop k bytes) (sym (add-one count))) in
      choose P (nat_lt (count + 1) (length bytes)) _ _
      (λ f. (
        record { at = lt_from (count + 1) (length bytes) f; nesting = omega arith },
        λ u w c. (c.0, c.1, (c.2.0, ap (λ bs. b ∷ bs) c.2.1 ∙ ap (λ bs. bs ++ c.2.0) (sym here), c.2.2)),
      ))
      (λ f.
      let last : length bytes ≤ count + 1 = le_from (count + 1) (length bytes) f in (
        record { at = tt; nesting = omega arith },
        λ u w c. (c.0, c.1, (u, ap (λ bs. bs ++ u) (sym (here ∙ ap (λ bs. b ∷ bs) (drop_of_length-le bytes last))), c.2)),
      )))
      (λ _. tt)

  right_item : (st : Brackets) (k : Kind) (t : Ty) (b : ℕ) → 1 + length st ≤ L
      → Right L (frame.Items k ∷ st) (phase.After t) b (after_item st k t b)
  unfolding after_item
  right_item st kind.Set t b room =
      choose (Right L (frame.Items kind.Set ∷ st) (phase.After t) b) (b == 125) _ _
      (λ e. (
        record { at = tt; nesting = omega arith },
        shut st (frame.Items kind.Set ∷ st) (phase.After t) (ty.Coll kind.Set t) b (omega arith) room (λ n u w a. ([], u, ap (λ c. c ∷ u) (equal b 125 e), tt, a)),
      ))
      (λ _. tt)
  right_item st kind.Bag t b room =
      choose (Right L (frame.Items kind.Bag ∷ st) (phase.After t) b) (b == 124) _ _
      (λ e. (
        record { at = tt; nesting = omega arith },
        λ u w c. (c.0, omega (arith, c.1), ([], c.2.0, ap (λ a. a ∷ u) (equal b 124 e) ∙ ap (λ bs. 124 ∷ bs) c.2.1, tt, c.2.2)),
      ))
      (λ _. tt)
  right_item st kind.List t b room =
      choose (Right L (frame.Items kind.List ∷ st) (phase.After t) b) (b == 124) _ _
      (λ e. (
        record { at = tt; nesting = omega arith },
        λ u w c. (c.0, omega (arith, c.1), ([], c.2.0, ap (λ a. a ∷ u) (equal b 124 e) ∙ ap (λ bs. 124 ∷ bs) c.2.1, tt, c.2.2)),
      ))
      (λ _. tt)

  right_field : (st : Brackets) (s : Shape) (fs : Types) (l : List ℕ) (t : Ty) (b : ℕ) → 1 + length st ≤ L
      → Right L (frame.Field s fs l ∷ st) (phase.After t) b (after_field st s (put fs (l, t)) b)
  unfolding after_field
  right_field st s fs l t b room =
      let P = Right L (frame.Field s fs l ∷ st) (phase.After t) b in
      choose P (b == 44) _ _
      (λ e. (
        record { at = tt; nesting = omega arith },
        λ u w c. (c.0, omega (arith, c.1), subst (λ a. After c.0 (frame.Field s fs l ∷ st) t (a ∷ u) w) (sym (equal b 44 e)) (comma_field c.0 st s fs l t u w c.2)),
      ))
      (λ _. choose P (b == closer_of s) _ _
      (λ e. (
        record { at = tt; nesting = omega arith },
        shut st (frame.Field s fs l ∷ st) (phase.After t) (type_of s (put fs (l, t))) b (omega arith) room
            (λ n u w a. ([], [], [], u, ap (λ c. c ∷ u) (equal b (closer_of s) e), tt, refl, tt, a)),
      ))
      (λ _. tt))

  right_after : (st : Brackets) (t : Ty) (b : ℕ) → length st ≤ L → Right L st (phase.After t) b (after_type st t b)
  unfolding after_type
  right_after [] t b room =
      let P = Right L [] (phase.After t) b in
      choose P (is_blank b) _ _
      (λ e. (record { at = tt; nesting = omega arith }, λ u w c. (c.0, c.1, (b ∷ c.2.0, ap (λ bs. b ∷ bs) c.2.1, (e, c.2.2), c.2.3))))
      (λ _. choose P (b == 59) _ _ (λ e. (L, omega arith, ([], ap (λ a. a ∷ []) (equal b 59 e), tt, refl))) (λ _. tt))
  right_after (frame.Items k ∷ st) t b room =
      choose (Right L (frame.Items k ∷ st) (phase.After t) b) (is_blank b) _ _
      (λ e. (
        record { at = tt; nesting = omega arith },
        λ u w c. (c.0, c.1, (b ∷ c.2.0, c.2.1, ap (λ bs. b ∷ bs) c.2.2, (e, c.2.3), c.2.4)),
      ))
      (λ _. right_item st k t b (omega arith))
  right_after (frame.Field s fs l ∷ st) t b room =
      choose (Right L (frame.Field s fs l ∷ st) (phase.After t) b) (is_blank b) _ _
      (λ e. (
        record { at = tt; nesting = omega arith },
        λ u w c. (c.0, c.1, (b ∷ c.2.0, c.2.1, c.2.2, c.2.3, ap (λ bs. b ∷ bs) c.2.4, (e, c.2.5), c.2.6, c.2.7, c.2.8)),
      ))
      (λ _. right_field st s fs l t b (omega arith))

  -- each byte is right
  pub right : (st : Brackets) (p : Phase) (b : ℕ) → IsSound L st p → Right L st p b (advanced L st p b)
  right st (phase.Keyword count) b s = right_keyword st count b (omega (arith, s.nesting))
  right st phase.Gap b s = right_gap st b (omega (arith, s.nesting))
  right st phase.Type b s = right_type st b (omega (arith, s.nesting))
  right st phase.Brace b s = right_brace st b s.nesting
  right st phase.Bracket b s = right_bracket st b s.nesting
  right st phase.RecordOpened b s = right_record st b s.nesting
  right st (phase.Label h fs) b s = right_label st h fs b s.nesting
  right st (phase.Name h fs name) b s = right_name st h fs name b s.at s.nesting
  right st (phase.Named h fs l) b s = right_named st h fs l b s.nesting
  right st (phase.Word word count) b s = right_word st word count b (omega (arith, s.nesting))
  right st (phase.After t) b s = right_after st t b (omega (arith, s.nesting))
  right st (phase.Closing k t) b s = right_closing st k t b s.nesting

  -- Each sound machine can be completed.
  close_all : (n : ℕ) (st : Brackets) (t : Ty) → (u : List ℕ) × (w : Ty) × After n st t u w
  close_all n [] t = (59 ∷ [], t, ([], refl, tt, refl))
  close_all n (frame.Items k ∷ st) t =
      let rest = close_all (suc n) st (ty.Coll k t) in
      (closing k ++ rest.0, rest.1, ([], rest.0, refl, tt, rest.2))
  close_all n (frame.Field s fs l ∷ st) t =
      let rest = close_all (suc n) st (type_of s (put fs (l, t))) in
      (closer_of s ∷ rest.0, rest.1, ([], [], [], rest.0, refl, tt, refl, tt, rest.2))

  can_type : (n : ℕ) (st : Brackets) → (u : List ℕ) × (w : Ty) × Due n st u w
  can_type n st =
      let rest = close_all n st ty.Int in
      (codes "int" ++ rest.0, rest.1, ([], codes "int", ty.Int, rest.0, refl, tt, based n (codes "int") ty.Int (SpellsBase.number refl refl), rest.2))

  can_named : (n : ℕ) (st : Brackets) (s : Shape) (fs : Types) (l : List ℕ) → (u : List ℕ) × (w : Ty) × NamedDue n st s fs l u w
  can_named n st s fs l =
      let rest = can_type n (frame.Field s fs l ∷ st) in
      (58 ∷ rest.0, rest.1, ([], rest.0, refl, tt, rest.2))

  can_name : (n : ℕ) (st : Brackets) (s : Shape) (fs : Types) (name : List ℕ) → (name ≡ []) ⊎ (is_word name ≡ true) → (u : List ℕ) × (w : Ty) × InName n st s fs name u w
  can_name n st s fs name word =
      let tail : List ℕ = letters (suc (room fs)) in
      let fresh : has_label fs (name ++ tail) ≡ false = longer_fresh fs name tail (omega (arith, length-letters (suc (room fs)))) in
      let rest = can_named n st s fs (name ++ tail) in
      (tail ++ rest.0, rest.1, (tail, rest.0, refl, (word_goes_on name tail word (letters_word (room fs)) (letters_bytes (suc (room fs))), fresh, rest.2)))

  can_gap : (n : ℕ) (st : Brackets) → (u : List ℕ) × (w : Ty) × GapDue n st u w
  can_gap n st = let rest = can_type n st in (32 ∷ rest.0, rest.1, (32, rest.0, refl, refl, rest.2))

  can_at : (n : ℕ) (st : Brackets) (p : Phase) → IsSoundPhase p → (u : List ℕ) × (w : Ty) × At n st p u w
  can_at n st (phase.Keyword count) sound =
      let rest = can_gap n st in (drop count keyword ++ rest.0, rest.1, ([], rest.0, refl, tt, (λ some. refl), rest.2))
  can_at n st phase.Gap sound = can_gap n st
  can_at n st phase.Type sound = can_type n st
  can_at n st phase.Brace sound = let rest = can_type n (frame.Items kind.Set ∷ st) in (rest.0, rest.1, inr rest.2)
  can_at n st phase.Bracket sound = let rest = close_all (suc n) st (ty.Rec []) in (93 ∷ rest.0, rest.1, inr (inl ([], rest.0, refl, tt, rest.2)))
  can_at n st phase.RecordOpened sound = let rest = close_all (suc n) st (ty.Rec []) in (93 ∷ rest.0, rest.1, inl ([], rest.0, refl, tt, rest.2))
  can_at n st (phase.Label s fs) sound = let rest = can_name n st s fs [] (inl refl) in (rest.0, rest.1, ([], rest.0, refl, tt, rest.2))
  can_at n st (phase.Name s fs name) sound = can_name n st s fs name (inr sound)
  can_at n st (phase.Named s fs l) sound = can_named n st s fs l
  can_at n st (phase.Word word count) sound =
      let rest = close_all n st (base_type word) in (drop count (base_word word) ++ rest.0, rest.1, (rest.0, refl, rest.2))
  can_at n st (phase.After t) sound = close_all n st t
  can_at n st (phase.Closing k t) sound = let rest = close_all (suc n) st (ty.Coll k t) in (last_of_close k ∷ rest.0, rest.1, (rest.0, refl, rest.2))

  pub can_complete : (st : Brackets) (p : Phase) → IsSound L st p → (u : List ℕ) × (w : Ty) × Completes L st p u w
  can_complete st p s =
      let rest = can_at (L - (pending p + length st)) st p s.at in
      (rest.0, rest.1, (L - (pending p + length st), (let room = s.nesting in omega arith), rest.2))

  -- what completes the machine before a head is a head
  pub start_head : (u : List ℕ) (w : Ty) → Completes L [] (phase.Keyword 0) u w → IsHead L u w
  start_head u w (n, e, c) =
      let gap = c.5 in
      let due = gap.4 in
      let a = due.7 in
      let same : n ≡ L = omega arith in
      subst (λ k. IsHead k u w) same
      (subst (IsHead n u) (sym a.3)
      (record {
        before = c.0;
        blank = gap.0;
        text = due.0 ++ (due.1 ++ a.0);
        is = c.2 ∙ simp (gap.2, due.4, a.1, append_assoc);
        blank_before = c.3;
        apart = gap.3;
        states = record { before = due.0; inside = due.1; after = a.0; is = refl; blank_before = due.5; blank_after = a.2; spells = due.6 };
      }))

-- A deeper limit changes nothing but where a bracket too many opened.
abbrev pub Lifts : Result Step Stop → Result Step Stop → Type 0
Lifts (Ok o) other = other ≡ Ok o
Lifts (Err stop.TooDeep) other = ((m : Machine) × (other ≡ Ok (Step.Goes m))) ⊎ (other ≡ Err stop.TooDeep)
Lifts (Err stop.NoHead) other = other ≡ Err stop.NoHead
Lifts (Err stop.Bad) other = other ≡ Err stop.Bad
Lifts (Err stop.NoMemory) other = other ≡ Err stop.NoMemory

lifts_same : (o : Result Step Stop) → Lifts o o
lifts_same (Ok o) = refl
lifts_same (Err stop.NoHead) = refl
lifts_same (Err stop.Bad) = refl
lifts_same (Err stop.TooDeep) = inr refl
lifts_same (Err stop.NoMemory) = refl

lifts_cond : (c : Bool) (x y z w : Result Step Stop) → Lifts x z → Lifts y w → Lifts (cond c x y) (cond c z w)
lifts_cond true x y z w one other = one
lifts_cond false x y z w one other = other

module _ (L K : ℕ) (deeper : L ≤ K) where
  lifts_opens : (st : Brackets) (p : Phase) → Lifts (opens_bracket L st p) (opens_bracket K st p)
  lifts_opens st p = opening_at (nat_lt (length st) L) (nat_lt (length st) K) refl refl
    where
      opening_at : (c d : Bool) → nat_lt (length st) L ≡ c → nat_lt (length st) K ≡ d → Lifts (cond c (goes st p) (Err stop.TooDeep)) (cond d (goes st p) (Err stop.TooDeep))
      opening_at true true e f = refl
      opening_at true false e f = absurd (let a = lt_from (length st) L e in let b = le_from (length st) K f in omega arith)
      opening_at false true e f = inl (_, refl)
      opening_at false false e f = inr refl

  lifts_type : (st : Brackets) (b : ℕ) → Lifts (type_due L st b) (type_due K st b)
  unfolding type_due
  lifts_type st b =
      lifts_cond (is_blank b) _ _ _ _ refl
      (lifts_cond (b == 98) _ _ _ _ refl
      (lifts_cond (b == 105) _ _ _ _ refl
      (lifts_cond (b == 115) _ _ _ _ refl
      (lifts_cond (b == 123) _ _ _ _ (lifts_opens st phase.Brace)
      (lifts_cond (b == 91) _ _ _ _ (lifts_opens st phase.Bracket)
      (lifts_cond (b == 60) _ _ _ _ (lifts_opens st (phase.Label shape.Variant [])) refl))))))

  lifts_brace : (st : Brackets) (b : ℕ) → Lifts (behind_brace L st b) (behind_brace K st b)
  unfolding behind_brace
  lifts_brace st b = lifts_cond (b == 124) _ _ _ _ refl (lifts_type (frame.Items kind.Set ∷ st) b)

  pub lifts : (st : Brackets) (p : Phase) (b : ℕ) → Lifts (advanced L st p b) (advanced K st p b)
  lifts st (phase.Keyword count) b = lifts_same _
  lifts st phase.Gap b = lifts_same _
  lifts st phase.Type b = lifts_type st b
  lifts st phase.Brace b = lifts_brace st b
  lifts st phase.Bracket b = lifts_same _
  lifts st phase.RecordOpened b = lifts_same _
  lifts st (phase.Label s fs) b = lifts_same _
  lifts st (phase.Name s fs name) b = lifts_same _
  lifts st (phase.Named s fs l) b = lifts_same _
  lifts st (phase.Word word count) b = lifts_same _
  lifts st (phase.After t) b = lifts_same _
  lifts st (phase.Closing k t) b = lifts_same _

  -- the same over several bytes
  abbrev pub RunLifts : Run → Run → Type 0
  RunLifts (deep rest) other = ⊤
  RunLifts (more m) other = other ≡ more m
  RunLifts (ends t rest) other = other ≡ ends t rest
  RunLifts no_head other = other ≡ no_head
  RunLifts (fails rest) other = other ≡ fails rest

  lifts_followed : (o p : Result Step Stop) (b : ℕ) (bytes : List ℕ) → ((n : Machine) → RunLifts (run L bytes n) (run K bytes n)) → Lifts o p
      → RunLifts (followed o b bytes (λ n. run L bytes n)) (followed p b bytes (λ n. run K bytes n))
  lifts_followed (Ok (Step.Goes m)) p b bytes again lift = rw lift (again m)
  lifts_followed (Ok (Step.Ends t)) p b bytes again lift = rw lift
  lifts_followed (Err stop.NoHead) p b bytes again lift = rw lift
  lifts_followed (Err stop.Bad) p b bytes again lift = rw lift
  lifts_followed (Err stop.TooDeep) p b bytes again lift = tt
  lifts_followed (Err stop.NoMemory) p b bytes again lift = rw lift

  pub run_lifts : (bytes : List ℕ) (m : Machine) → RunLifts (run L bytes m) (run K bytes m)
  run_lifts [] m = refl
  run_lifts (b ∷ bytes) m = lifts_followed (advanced L m.stack m.phase b) (advanced K m.stack m.phase b) b bytes (λ n. run_lifts bytes n) (lifts m.stack m.phase b)
