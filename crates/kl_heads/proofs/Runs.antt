-- Each spelling leads a machine on to what it spells.
use Rattle.std.proofs.Common.{◌≡◌, ℕ, ◌+◌, ◌<◌, ◌≤◌, suc, zero, true, false, List, [], ◌∷◌, ◌++◌, length, refl, ap, ◌∙◌, arith, ◌==◌, inl, inr, Result, Ok, Err, append_assoc, append-nil, codes}
use Rattle.std.specs.Char.{is_ascii_alphabetic}
use Rattle.std.specs.List.{list_all}
use Rattle.std.proofs.lemmas.Bool.{and_parts}
use Rattle.kl_base.specs.Word.{is_word, is_word_byte}
use Rattle.kl_value.specs.declared.Kind.{Kind}
use Rattle.kl_value.specs.declared.Kind.TheVariants as kind
use Rattle.kl_value.specs.Written.{opening, closing}
use Rattle.kl_type.specs.Grammar.{put}
use Rattle.kl_type.specs.declared.ground.Ty.{Ty}
use Rattle.kl_type.specs.declared.ground.Ty.TheVariants as ty
use Rattle.kl_exchange.specs.Grammar.{Spelling, is_blank, Blank, Padded, More, Listed, SpellsLabel}
use Rattle.kl_exchange.proofs.Bytes.{blank_not_word, blank_not_bar, letter_not_blank, letter_not_bar, letter_not_close, below}
use Rattle.kl_heads.specs.Heads.{Types, has_label, put_all, AreNew, SpellsBase, SpellsFieldType, SpellsBracketType, SpellsType, IsHead}
use Rattle.kl_heads.specs.Machine.{Brackets, goes, run, Run, more, ends, no_head, fails, deep, followed, advanced, in_keyword, behind_keyword, type_due, opens_bracket, behind_brace, behind_bracket, record_opened, label_due, in_name, named, in_word, after_type, after_item, after_field, ends_closing, closer_of, type_of, base_word, base_type}
use Rattle.kl_heads.specs.Machine.{Step}
use Rattle.kl_heads.specs.declared.machine.Base.{Base}
use Rattle.kl_heads.specs.declared.machine.Base.TheVariants as base
use Rattle.kl_heads.specs.declared.machine.Shape.{Shape}
use Rattle.kl_heads.specs.declared.machine.Shape.TheVariants as shape
use Rattle.kl_heads.specs.declared.machine.Frame.TheVariants as frame
use Rattle.kl_heads.specs.declared.machine.Machine.{Machine}
use Rattle.kl_heads.specs.declared.machine.Phase.{Phase}
use Rattle.kl_heads.specs.declared.machine.Phase.TheVariants as phase
use Rattle.kl_heads.specs.declared.machine.Stop.{Stop}
use Rattle.kl_heads.specs.declared.machine.Stop.TheVariants as stop

-- a run over two parts
abbrev pub extended : ℕ → Run → List ℕ → Run
extended L (more m) ys = run L ys m
extended L (ends t rest) ys = ends t (rest ++ ys)
extended L no_head ys = no_head
extended L (fails rest) ys = fails (rest ++ ys)
extended L (deep rest) ys = deep (rest ++ ys)

followed_append : (L : ℕ) (o : Result Step Stop) (b : ℕ) (xs ys : List ℕ) → ((m : Machine) → run L (xs ++ ys) m ≡ extended L (run L xs m) ys)
    → followed o b (xs ++ ys) (λ n. run L (xs ++ ys) n) ≡ extended L (followed o b xs (λ n. run L xs n)) ys
followed_append L (Ok (Step.Goes m)) b xs ys again = again m
followed_append L (Ok (Step.Ends t)) b xs ys again = refl
followed_append L (Err stop.NoHead) b xs ys again = refl
followed_append L (Err stop.Bad) b xs ys again = refl
followed_append L (Err stop.TooDeep) b xs ys again = refl
followed_append L (Err stop.NoMemory) b xs ys again = refl

pub run_append : (L : ℕ) (xs ys : List ℕ) (m : Machine) → run L (xs ++ ys) m ≡ extended L (run L xs m) ys
run_append L [] ys m = refl
run_append L (b ∷ xs) ys m = followed_append L (advanced L m.stack m.phase b) b xs ys (λ n. run_append L xs ys n)

abbrev pub at : Brackets → Phase → Machine
at st p = record { stack = st; phase = p }

-- the first byte of bytes, which is no `|`
record NoBar (bytes : List ℕ) : Type 0 where
  first : ℕ
  others : List ℕ
  is : bytes ≡ first ∷ others
  no_bar : (first == 124) ≡ false

-- the first byte of a type
record Starts (x : List ℕ) : Type 0 where
  first : ℕ
  others : List ℕ
  is : x ≡ first ∷ others
  no_bar : (first == 124) ≡ false

module _ (L : ℕ) where
  -- one byte
  pub go : (st : Brackets) (p : Phase) (b : ℕ) (bytes : List ℕ) (to : Brackets) (q : Phase) → advanced L st p b ≡ goes to q
      → run L (b ∷ bytes) (at st p) ≡ run L bytes (at to q)
  go st p b bytes to q e = ap (λ o. followed o b bytes (λ n. run L bytes n)) e

  -- the same byte at two machines
  pub same_step : (st to : Brackets) (p q : Phase) (b : ℕ) (bytes : List ℕ) → advanced L st p b ≡ advanced L to q b
      → run L (b ∷ bytes) (at st p) ≡ run L (b ∷ bytes) (at to q)
  same_step st to p q b bytes e = ap (λ o. followed o b bytes (λ n. run L bytes n)) e

  -- white space, where it changes nothing
  pub blanks : (st : Brackets) (p : Phase) → ((b : ℕ) → is_blank b ≡ true → advanced L st p b ≡ goes st p)
      → (bs rest : List ℕ) → Blank bs → run L (bs ++ rest) (at st p) ≡ run L rest (at st p)
  blanks st p stays [] rest blank = refl
  blanks st p stays (b ∷ bs) rest blank = go st p b (bs ++ rest) st p (stays b blank.0) ∙ blanks st p stays bs rest blank.1

  pub keyword_blank : (st : Brackets) (b : ℕ) → is_blank b ≡ true → in_keyword st 0 b ≡ goes st (phase.Keyword 0)
  unfolding in_keyword
  keyword_blank st b e = rw e

  type_blank : (st : Brackets) (b : ℕ) → is_blank b ≡ true → type_due L st b ≡ goes st phase.Type
  unfolding type_due
  type_blank st b e = rw e

  after_blank : (st : Brackets) (t : Ty) (b : ℕ) → is_blank b ≡ true → after_type st t b ≡ goes st (phase.After t)
  unfolding after_type
  after_blank st t b e = rw e

  record_blank : (st : Brackets) (b : ℕ) → is_blank b ≡ true → record_opened st b ≡ goes st phase.RecordOpened
  unfolding record_opened
  record_blank st b e = rw e

  label_blank : (st : Brackets) (s : Shape) (fs : Types) (b : ℕ) → is_blank b ≡ true → label_due st s fs b ≡ goes st (phase.Label s fs)
  unfolding label_due
  label_blank st s fs b e = rw e

  named_blank : (st : Brackets) (s : Shape) (fs : Types) (l : List ℕ) (b : ℕ) → is_blank b ≡ true → named st s fs l b ≡ goes st (phase.Named s fs l)
  unfolding named
  named_blank st s fs l b e = rw e

  -- `type` and white space
  gap_blank : (st : Brackets) (b : ℕ) → is_blank b ≡ true → behind_keyword st b ≡ goes st phase.Type
  unfolding behind_keyword
  gap_blank st b e = rw e

  run_letters_of_type : (bytes : List ℕ) → run L (codes "type" ++ bytes) (at [] (phase.Keyword 0)) ≡ run L bytes (at [] phase.Gap)
  unfolding in_keyword
  run_letters_of_type bytes = refl

  run_keyword : (b : ℕ) (bytes : List ℕ) → is_blank b ≡ true → run L (codes "type" ++ b ∷ bytes) (at [] (phase.Keyword 0)) ≡ run L bytes (at [] phase.Type)
  run_keyword b bytes blank = run_letters_of_type (b ∷ bytes) ∙ go [] phase.Gap b bytes [] phase.Type (gap_blank [] b blank)

  -- types without brackets
  run_word : (st : Brackets) (b : Base) (rest : List ℕ) → run L (base_word b ++ rest) (at st phase.Type) ≡ run L rest (at st (phase.After (base_type b)))
  unfolding type_due in_word
  run_word st base.Bool rest = refl
  run_word st base.Int rest = refl
  run_word st base.Str rest = refl

  run_base : (st : Brackets) (x : List ℕ) (t : Ty) (rest : List ℕ) → SpellsBase x t → run L (x ++ rest) (at st phase.Type) ≡ run L rest (at st (phase.After t))
  run_base st x t rest (SpellsBase.truth is e) = rw (is, e) (run_word st base.Bool rest)
  run_base st x t rest (SpellsBase.number is e) = rw (is, e) (run_word st base.Int rest)
  run_base st x t rest (SpellsBase.text is e) = rw (is, e) (run_word st base.Str rest)

  base_starts : (x : List ℕ) (t : Ty) → SpellsBase x t → Starts x
  base_starts x t (SpellsBase.truth is e) = record { first = 98; others = _; is = is; no_bar = refl }
  base_starts x t (SpellsBase.number is e) = record { first = 105; others = _; is = is; no_bar = refl }
  base_starts x t (SpellsBase.text is e) = record { first = 115; others = _; is = is; no_bar = refl }

  bracket_starts : (S : Spelling Ty) (x : List ℕ) (t : Ty) → SpellsBracketType S x t → Starts x
  bracket_starts S x t (SpellsBracketType.collection kind.Set inside item is spells e) = record { first = 123; others = _; is = is; no_bar = refl }
  bracket_starts S x t (SpellsBracketType.collection kind.Bag inside item is spells e) = record { first = 123; others = _; is = is; no_bar = refl }
  bracket_starts S x t (SpellsBracketType.collection kind.List inside item is spells e) = record { first = 91; others = _; is = is; no_bar = refl }
  bracket_starts S x t (SpellsBracketType.fields inside fs is listed new e) = record { first = 91; others = _; is = is; no_bar = refl }
  bracket_starts S x t (SpellsBracketType.cases inside f fs is listed new e) = record { first = 60; others = _; is = is; no_bar = refl }

  type_starts : (n : ℕ) (x : List ℕ) (t : Ty) → SpellsType n x t → Starts x
  type_starts zero x t spells = base_starts x t spells
  type_starts (suc n) x t (inl spells) = base_starts x t spells
  type_starts (suc n) x t (inr spells) = bracket_starts (SpellsType n) x t spells

  -- labels
  run_letters : (st : Brackets) (s : Shape) (fs : Types) (name ls rest : List ℕ) → list_all is_word_byte ls ≡ true
      → run L (ls ++ rest) (at st (phase.Name s fs name)) ≡ run L rest (at st (phase.Name s fs (name ++ ls)))
  unfolding in_name
  run_letters st s fs name [] rest all = rw append-nil
  run_letters st s fs name (b ∷ ls) rest all =
      let both = and_parts (is_word_byte b) (list_all is_word_byte ls) all in
      go st (phase.Name s fs name) b (ls ++ rest) st (phase.Name s fs (name ++ b ∷ [])) (rw both.0)
      ∙ (run_letters st s fs (name ++ b ∷ []) ls rest both.1
      ∙ ap (λ l. run L rest (at st (phase.Name s fs l))) (append_assoc name (b ∷ []) ls))

  -- what follows a label: white space and `:`
  record EndsName (rest : List ℕ) : Type 0 where
    first : ℕ
    others : List ℕ
    is : rest ≡ first ∷ others
    no_word : is_word_byte first ≡ false

  ends_name : (bs rest : List ℕ) → Blank bs → EndsName (bs ++ 58 ∷ rest)
  ends_name [] rest blank = record { first = 58; others = rest; is = refl; no_word = refl }
  ends_name (b ∷ bs) rest blank = record { first = b; others = bs ++ 58 ∷ rest; is = refl; no_word = blank_not_word b blank.0 }

  name_ends : (st : Brackets) (s : Shape) (fs : Types) (l rest : List ℕ) → is_word l ≡ true → has_label fs l ≡ false → EndsName rest
      → run L rest (at st (phase.Name s fs l)) ≡ run L rest (at st (phase.Named s fs l))
  unfolding in_name
  name_ends st s fs l rest word fresh stop =
      rw stop.is (same_step st st (phase.Name s fs l) (phase.Named s fs l) stop.first stop.others (rw (stop.no_word, word, fresh)))

  run_colon : (st : Brackets) (s : Shape) (fs : Types) (l rest : List ℕ) → run L (58 ∷ rest) (at st (phase.Named s fs l)) ≡ run L rest (at (frame.Field s fs l ∷ st) phase.Type)
  unfolding named
  run_colon st s fs l rest = refl

  label_first : (st : Brackets) (s : Shape) (fs : Types) (b : ℕ) → is_ascii_alphabetic b ≡ true → label_due st s fs b ≡ goes st (phase.Name s fs (b ∷ []))
  unfolding label_due
  label_first st s fs b letter = rw (letter_not_blank b letter, letter)

  run_label : (st : Brackets) (s : Shape) (fs : Types) (l bs rest : List ℕ) → is_word l ≡ true → has_label fs l ≡ false → Blank bs
      → run L (l ++ (bs ++ 58 ∷ rest)) (at st (phase.Label s fs)) ≡ run L rest (at (frame.Field s fs l ∷ st) phase.Type)
  run_label st s fs [] bs rest word fresh blank = cc
  run_label st s fs (b ∷ l) bs rest word fresh blank =
      let both = and_parts (is_ascii_alphabetic b) (list_all is_word_byte l) word in
      go st (phase.Label s fs) b (l ++ (bs ++ 58 ∷ rest)) st (phase.Name s fs (b ∷ [])) (label_first st s fs b both.0)
      ∙ (run_letters st s fs (b ∷ []) l (bs ++ 58 ∷ rest) both.1
      ∙ (name_ends st s fs (b ∷ l) (bs ++ 58 ∷ rest) word fresh (ends_name bs rest blank)
      ∙ (blanks st (phase.Named s fs (b ∷ l)) (named_blank st s fs (b ∷ l)) bs (58 ∷ rest) blank
      ∙ run_colon st s fs (b ∷ l) rest)))

  -- LABEL ":", from where a label is due
  run_name : (st : Brackets) (s : Shape) (fs : Types) (name l rest : List ℕ) → Padded SpellsLabel name l → has_label fs l ≡ false
      → run L (name ++ 58 ∷ rest) (at st (phase.Label s fs)) ≡ run L rest (at (frame.Field s fs l ∷ st) phase.Type)
  run_name st s fs name l rest spells fresh =
      rw (spells.is, append_assoc spells.before (spells.inside ++ spells.after) (58 ∷ rest), append_assoc spells.inside spells.after (58 ∷ rest), spells.spells.0)
      (blanks st (phase.Label s fs) (label_blank st s fs) spells.before (l ++ (spells.after ++ 58 ∷ rest)) spells.blank_before
      ∙ run_label st s fs l spells.after rest spells.spells.1 fresh spells.blank_after)

  record_letter : (st : Brackets) (b : ℕ) → is_ascii_alphabetic b ≡ true → record_opened st b ≡ label_due st shape.Record [] b
  unfolding record_opened
  record_letter st b letter = rw (letter_not_blank b letter, letter_not_close b letter)

  record_word : (st : Brackets) (l rest : List ℕ) → is_word l ≡ true
      → run L (l ++ rest) (at st phase.RecordOpened) ≡ run L (l ++ rest) (at st (phase.Label shape.Record []))
  record_word st [] rest word = cc
  record_word st (b ∷ l) rest word =
      same_step st st phase.RecordOpened (phase.Label shape.Record []) b (l ++ rest)
      (record_letter st b (and_parts (is_ascii_alphabetic b) (list_all is_word_byte l) word).0)

  -- the same, at the beginning of a record
  record_name : (st : Brackets) (name l rest : List ℕ) → Padded SpellsLabel name l
      → run L (name ++ 58 ∷ rest) (at st phase.RecordOpened) ≡ run L rest (at (frame.Field shape.Record [] l ∷ st) phase.Type)
  record_name st name l rest spells =
      rw (spells.is, append_assoc spells.before (spells.inside ++ spells.after) (58 ∷ rest), append_assoc spells.inside spells.after (58 ∷ rest), spells.spells.0)
      (blanks st phase.RecordOpened (record_blank st) spells.before (l ++ (spells.after ++ 58 ∷ rest)) spells.blank_before
      ∙ (record_word st l (spells.after ++ 58 ∷ rest) spells.spells.1
      ∙ run_label st shape.Record [] l spells.after rest spells.spells.1 refl spells.blank_after))

  open_bracket : (st : Brackets) (p : Phase) → length st < L → opens_bracket L st p ≡ goes st p
  open_bracket st p room = rw (below (length st) L room)

  -- Types with brackets, where S spells the types inside.
  module _ (S : Spelling Ty) (n : ℕ) (starts : (x : List ℕ) (t : Ty) → S x t → Starts x)
      (reads : (x : List ℕ) (t : Ty) (st : Brackets) (rest : List ℕ) → S x t → n + length st ≤ L
      → run L (x ++ rest) (at st phase.Type) ≡ run L rest (at st (phase.After t))) where
    run_padded : (y : List ℕ) (t : Ty) (st : Brackets) (rest : List ℕ) → Padded S y t → n + length st ≤ L
        → run L (y ++ rest) (at st phase.Type) ≡ run L rest (at st (phase.After t))
    run_padded y t st rest spells room =
        rw (spells.is, append_assoc spells.before (spells.inside ++ spells.after) rest, append_assoc spells.inside spells.after rest)
        (blanks st phase.Type (type_blank st) spells.before (spells.inside ++ (spells.after ++ rest)) spells.blank_before
        ∙ (reads spells.inside t st (spells.after ++ rest) spells.spells room
        ∙ blanks st (phase.After t) (after_blank st t) spells.after rest spells.blank_after))

    -- collections
    brace_as : (st : Brackets) (b : ℕ) → (b == 124) ≡ false → behind_brace L st b ≡ type_due L (frame.Items kind.Set ∷ st) b
    unfolding behind_brace
    brace_as st b e = rw e

    bracket_as : (st : Brackets) (b : ℕ) → (b == 124) ≡ false → behind_bracket st b ≡ record_opened st b
    unfolding behind_bracket
    bracket_as st b e = rw e

    no_bar_blanks : (bs rest : List ℕ) → Blank bs → NoBar rest → NoBar (bs ++ rest)
    no_bar_blanks [] rest blank next = next
    no_bar_blanks (b ∷ bs) rest blank next = record { first = b; others = bs ++ rest; is = refl; no_bar = blank_not_bar b blank.0 }

    no_bar_padded : {A : Type 0} (P : List ℕ → A → Type 0) (y : List ℕ) (a : A) (rest : List ℕ) → Padded P y a
        → ((x : List ℕ) → P x a → (behind : List ℕ) → NoBar (x ++ behind)) → NoBar (y ++ rest)
    no_bar_padded P y a rest spells next =
        rw (spells.is, append_assoc spells.before (spells.inside ++ spells.after) rest, append_assoc spells.inside spells.after rest)
        (no_bar_blanks spells.before (spells.inside ++ (spells.after ++ rest)) spells.blank_before (next spells.inside spells.spells (spells.after ++ rest)))

    no_bar_starts : (x rest : List ℕ) → Starts x → NoBar (x ++ rest)
    no_bar_starts x rest begins = record { first = begins.first; others = begins.others ++ rest; is = ap (λ bs. bs ++ rest) begins.is; no_bar = begins.no_bar }

    no_bar_word : (l rest : List ℕ) → is_word l ≡ true → NoBar (l ++ rest)
    no_bar_word [] rest word = cc
    no_bar_word (b ∷ l) rest word = record { first = b; others = l ++ rest; is = refl; no_bar = letter_not_bar b (and_parts (is_ascii_alphabetic b) (list_all is_word_byte l) word).0 }

    no_bar_label : (l : List ℕ) (x : List ℕ) → SpellsLabel x l → (behind : List ℕ) → NoBar (x ++ behind)
    no_bar_label l x spells behind = rw spells.0 (no_bar_word l behind spells.1)

    no_bar_fields : (inside : List ℕ) (fs : Types) (rest : List ℕ) → Listed (SpellsFieldType S) inside fs → NoBar (inside ++ 93 ∷ rest)
    no_bar_fields inside [] rest spells = no_bar_blanks inside (93 ∷ rest) spells (record { first = 93; others = rest; is = refl; no_bar = refl })
    no_bar_fields inside (f ∷ fs) rest spells =
        let field = spells.3 in
        rw (spells.2, append_assoc spells.0 spells.1 (93 ∷ rest), field.is, append_assoc field.name (58 ∷ field.text) (spells.1 ++ 93 ∷ rest))
        (no_bar_padded SpellsLabel field.name f.0 (58 ∷ (field.text ++ (spells.1 ++ 93 ∷ rest))) field.label (no_bar_label f.0))

    behind_opening : (st : Brackets) (k : Kind) (inside rest : List ℕ) (t : Ty) → length st < L → Padded S inside t
        → run L (opening k ++ (inside ++ rest)) (at st phase.Type) ≡ run L (inside ++ rest) (at (frame.Items k ∷ st) phase.Type)
    unfolding type_due behind_brace behind_bracket
    behind_opening st kind.Set inside rest t room spells =
        let next = no_bar_padded S inside t rest spells (λ x s behind. no_bar_starts x behind (starts x t s)) in
        go st phase.Type 123 (inside ++ rest) st phase.Brace (open_bracket st phase.Brace room)
        ∙ rw next.is (same_step st (frame.Items kind.Set ∷ st) phase.Brace phase.Type next.first next.others (brace_as st next.first next.no_bar))
    behind_opening st kind.Bag inside rest t room spells = go st phase.Type 123 (124 ∷ inside ++ rest) st phase.Brace (open_bracket st phase.Brace room)
    behind_opening st kind.List inside rest t room spells = go st phase.Type 91 (124 ∷ inside ++ rest) st phase.Bracket (open_bracket st phase.Bracket room)

    coll_closes : (st : Brackets) (k : Kind) (t : Ty) (rest : List ℕ) → run L (closing k ++ rest) (at (frame.Items k ∷ st) (phase.After t)) ≡ run L rest (at st (phase.After (ty.Coll k t)))
    unfolding after_type after_item ends_closing
    coll_closes st kind.Set t rest = refl
    coll_closes st kind.Bag t rest = refl
    coll_closes st kind.List t rest = refl

    run_collection : (st : Brackets) (k : Kind) (inside : List ℕ) (t : Ty) (rest : List ℕ) → Padded S inside t → n + suc (length st) ≤ L
        → run L ((opening k ++ (inside ++ closing k)) ++ rest) (at st phase.Type) ≡ run L rest (at st (phase.After (ty.Coll k t)))
    run_collection st k inside t rest spells room =
        rw (append_assoc (opening k) (inside ++ closing k) rest, append_assoc inside (closing k) rest)
        (behind_opening st k inside (closing k ++ rest) t (omega arith) spells
        ∙ (run_padded inside t (frame.Items k ∷ st) (closing k ++ rest) spells room ∙ coll_closes st k t rest))

    -- fields
    field_closes : (st : Brackets) (s : Shape) (fs : Types) (l : List ℕ) (t : Ty) (rest : List ℕ)
        → run L (closer_of s ∷ rest) (at (frame.Field s fs l ∷ st) (phase.After t)) ≡ run L rest (at st (phase.After (type_of s (put fs (l, t)))))
    unfolding after_type after_field
    field_closes st shape.Record fs l t rest = refl
    field_closes st shape.Variant fs l t rest = refl

    field_comma : (st : Brackets) (s : Shape) (fs : Types) (l : List ℕ) (t : Ty) (rest : List ℕ)
        → run L (44 ∷ rest) (at (frame.Field s fs l ∷ st) (phase.After t)) ≡ run L rest (at st (phase.Label s (put fs (l, t))))
    unfolding after_type after_field
    field_comma st s fs l t rest = refl

    run_fields : (st : Brackets) (s : Shape) (fs : Types) (l : List ℕ) (t : Ty) (bytes : List ℕ) (gs : Types) (rest : List ℕ)
        → More (SpellsFieldType S) bytes gs → AreNew (put fs (l, t)) gs → n + suc (length st) ≤ L
        → run L (bytes ++ closer_of s ∷ rest) (at (frame.Field s fs l ∷ st) (phase.After t)) ≡ run L rest (at st (phase.After (type_of s (put_all (put fs (l, t)) gs))))
    run_fields st s fs l t bytes [] rest spells fresh room = rw spells (field_closes st s fs l t rest)
    run_fields st s fs l t bytes (g ∷ gs) rest spells fresh room =
        let field = spells.3 in
        let others : Types = put fs (l, t) in
        let behind : List ℕ = spells.1 ++ closer_of s ∷ rest in
        rw (spells.2, append_assoc spells.0 spells.1 (closer_of s ∷ rest), field.is, append_assoc field.name (58 ∷ field.text) behind)
        (field_comma st s fs l t (field.name ++ 58 ∷ (field.text ++ behind))
        ∙ (run_name st s others field.name g.0 (field.text ++ behind) field.label fresh.0
        ∙ (run_padded field.text g.1 (frame.Field s others g.0 ∷ st) behind field.inside room
        ∙ run_fields st s others g.0 g.1 spells.1 gs rest spells.4 fresh.1 room)))

    record_closes : (st : Brackets) (rest : List ℕ) → run L (93 ∷ rest) (at st phase.RecordOpened) ≡ run L rest (at st (phase.After (ty.Rec [])))
    unfolding record_opened
    record_closes st rest = refl

    run_record : (st : Brackets) (inside : List ℕ) (pairs : Types) (rest : List ℕ) → Listed (SpellsFieldType S) inside pairs → AreNew [] pairs
        → n + suc (length st) ≤ L
        → run L (inside ++ 93 ∷ rest) (at st phase.RecordOpened) ≡ run L rest (at st (phase.After (ty.Rec (put_all [] pairs))))
    run_record st inside [] rest spells fresh room =
        blanks st phase.RecordOpened (record_blank st) inside (93 ∷ rest) spells ∙ record_closes st rest
    run_record st inside (f ∷ fs) rest spells fresh room =
        let field = spells.3 in
        let behind : List ℕ = spells.1 ++ 93 ∷ rest in
        rw (spells.2, append_assoc spells.0 spells.1 (93 ∷ rest), field.is, append_assoc field.name (58 ∷ field.text) behind)
        (record_name st field.name f.0 (field.text ++ behind) field.label
        ∙ (run_padded field.text f.1 (frame.Field shape.Record [] f.0 ∷ st) behind field.inside room
        ∙ run_fields st shape.Record [] f.0 f.1 spells.1 fs rest spells.4 fresh.1 room))

    run_bracket : (st : Brackets) (inside : List ℕ) (pairs : Types) (rest : List ℕ) → length st < L → Listed (SpellsFieldType S) inside pairs
        → run L (91 ∷ (inside ++ 93 ∷ rest)) (at st phase.Type) ≡ run L (inside ++ 93 ∷ rest) (at st phase.RecordOpened)
    unfolding type_due
    run_bracket st inside pairs rest room spells =
        let next = no_bar_fields inside pairs rest spells in
        go st phase.Type 91 (inside ++ 93 ∷ rest) st phase.Bracket (open_bracket st phase.Bracket room)
        ∙ rw next.is (same_step st st phase.Bracket phase.RecordOpened next.first next.others (bracket_as st next.first next.no_bar))

    -- variants
    run_cases : (st : Brackets) (inside : List ℕ) (f : List ℕ × Ty) (fs : Types) (rest : List ℕ) → Listed (SpellsFieldType S) inside (f ∷ fs) → AreNew [] (f ∷ fs)
        → n + suc (length st) ≤ L
        → run L (60 ∷ (inside ++ 62 ∷ rest)) (at st phase.Type) ≡ run L rest (at st (phase.After (ty.Var (put_all [] (f ∷ fs)))))
    unfolding type_due
    run_cases st inside f fs rest spells fresh room =
        let field = spells.3 in
        let behind : List ℕ = spells.1 ++ 62 ∷ rest in
        rw (spells.2, append_assoc spells.0 spells.1 (62 ∷ rest), field.is, append_assoc field.name (58 ∷ field.text) behind)
        (go st phase.Type 60 (field.name ++ 58 ∷ (field.text ++ behind)) st (phase.Label shape.Variant []) (open_bracket st (phase.Label shape.Variant []) (omega arith))
        ∙ (run_name st shape.Variant [] field.name f.0 (field.text ++ behind) field.label refl
        ∙ (run_padded field.text f.1 (frame.Field shape.Variant [] f.0 ∷ st) behind field.inside room
        ∙ run_fields st shape.Variant [] f.0 f.1 spells.1 fs rest spells.4 fresh.1 room)))

    run_brackets : (x : List ℕ) (t : Ty) (st : Brackets) (rest : List ℕ) → SpellsBracketType S x t → n + suc (length st) ≤ L
        → run L (x ++ rest) (at st phase.Type) ≡ run L rest (at st (phase.After t))
    run_brackets x t st rest (SpellsBracketType.collection k inside item is spells e) room = rw (is, e) (run_collection st k inside item rest spells room)
    run_brackets x t st rest (SpellsBracketType.fields inside fs is listed new e) room =
        rw (is, append_assoc inside (93 ∷ []) rest, e)
        (run_bracket st inside fs rest (omega arith) listed ∙ run_record st inside fs rest listed new room)
    run_brackets x t st rest (SpellsBracketType.cases inside f fs is listed new e) room =
        rw (is, append_assoc inside (62 ∷ []) rest, e) (run_cases st inside f fs rest listed new room)

  -- a type's spelling leads from where it is due to behind it
  pub run_type : (n : ℕ) (x : List ℕ) (t : Ty) (st : Brackets) (rest : List ℕ) → SpellsType n x t → n + length st ≤ L
      → run L (x ++ rest) (at st phase.Type) ≡ run L rest (at st (phase.After t))
  run_type zero x t st rest spells room = run_base st x t rest spells
  run_type (suc n) x t st rest (inl spells) room = run_base st x t rest spells
  run_type (suc n) x t st rest (inr spells) room =
      run_brackets (SpellsType n) n (type_starts n) (λ y u to behind s r. run_type n y u to behind s r) x t st rest spells (omega arith)

  semicolon : (t : Ty) (rest : List ℕ) → run L (59 ∷ rest) (at [] (phase.After t)) ≡ ends t rest
  unfolding after_type
  semicolon t rest = refl

  -- a head is read, whatever follows
  pub run_head : (n : ℕ) (head : List ℕ) (t : Ty) (rest : List ℕ) → IsHead n head t → n ≤ L → run L (head ++ rest) (at [] (phase.Keyword 0)) ≡ ends t rest
  run_head n head t rest spells room =
      rw (spells.is, append_assoc spells.before (codes "type" ++ spells.blank ∷ (spells.text ++ 59 ∷ [])) rest, append_assoc spells.text (59 ∷ []) rest)
      (blanks [] (phase.Keyword 0) (keyword_blank []) spells.before (codes "type" ++ spells.blank ∷ (spells.text ++ 59 ∷ rest)) spells.blank_before
      ∙ (run_keyword spells.blank (spells.text ++ 59 ∷ rest) spells.apart
      ∙ (run_padded (SpellsType n) n (type_starts n) (run_type n) spells.text t [] (59 ∷ rest) spells.states (omega arith)
      ∙ semicolon t rest)))
