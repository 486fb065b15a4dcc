-- The next item that was fetched, and the head.
use Rattle.std.proofs.Common.{◌≡◌, inl, inr, ℕ, ◌+◌, ◌-◌, ◌<◌, ◌≤◌, true, false, List, [], ◌∷◌, ◌++◌, length, drop, Option, Some, None, Result, Ok, Err, refl, sym, ap, subst, ◌∙◌, arith}
use Rattle.std.specs.Prelude.{⊤}
use Rattle.kl_value.specs.declared.Value.{Value}
use Rattle.kl_type.specs.declared.ground.Ty.{Ty}
use Rattle.kl_exchange.specs.FileItems.{FileEnd, WholeText, BadAt, TooDeepAt, PastLimit}
use Rattle.kl_exchange.specs.FileReading.{FileReading, HandsOut as HandsItems, HeldOut as HeldItems, Left, HasRead as HasReadItems, EndsSo as EndsSoItems, to_come}
use Rattle.kl_exchange.specs.Reading.{ReadsNext as ReadsItem, Waits}
use Rattle.kl_exchange.specs.State.{State}
use Rattle.kl_exchange.specs.declared.Item.{Item as AnItem}
use Rattle.kl_exchange.specs.declared.Item.TheVariants as plain
use Rattle.kl_exchange.specs.declared.ReadError.{ReadError}
use Rattle.kl_exchange.specs.declared.ReadError.TheVariants as error
use Rattle.kl_heads.specs.FileReading.{HeadedFile, HasOpened, HasRead, EndsSo, HandsItem, HandsOut, HeldItem, HeldFirst, HeldOut, AnswersHead, Answers, MayFetch, SameFile, IsBegun}
use Rattle.kl_heads.specs.Files.{is_first}
use Rattle.kl_heads.specs.Found.{moved}
use Rattle.kl_heads.specs.Fronts.{HasTaken}
use Rattle.kl_heads.specs.Reading.{behind_head, item_as, lasting, refusal_of}
use Rattle.kl_heads.specs.Texts.{StaysHeadless}
use Rattle.kl_heads.specs.declared.front.Front.{Front}
use Rattle.kl_heads.specs.declared.front.Look.TheVariants as look
use Rattle.kl_heads.specs.declared.reader.Item.{Item}
use Rattle.kl_heads.specs.declared.reader.Item.TheVariants as item
use Rattle.kl_heads.specs.declared.scan.Halt.{Halt}
use Rattle.kl_heads.specs.declared.scan.Halt.TheVariants as halt
use Rattle.kl_heads.proofs.FileReading.{opens_head, opens_items, bad_first, deep_first, ends_file}
use Rattle.kl_heads.proofs.Looks.{Means}

pub not_first : (head : Option Ty) (vs : List Value) (v : Value) → is_first head (vs ++ v ∷ []) ≡ true → ⊥
not_first None [] v is = cc
not_first None (w ∷ vs) v is = cc
not_first (Some t) vs v is = cc

-- ---- the reader of items was asked

abbrev pub IsValue : Result AnItem ReadError → Type 0
IsValue (Ok (plain.Value v)) = ⊤
IsValue r = ⊥

-- where no item was answered, the bytes are left as they were
pub left_alone : (r : Result AnItem ReadError) (old new : State) → (IsValue r → ⊥) → ReadsItem old r new → (new.left ≡ old.left) × (new.finished ≡ old.finished)
left_alone (Ok (plain.Value v)) old new not reads = absurd (not tt)
left_alone (Ok plain.NeedMore) old new not reads = (ap (λ s. s.left) reads.same, ap (λ s. s.finished) reads.same)
left_alone (Ok plain.End) old new not reads = (ap (λ s. s.left) reads.same, ap (λ s. s.finished) reads.same)
left_alone (Err (error.Bad p)) old new not (inl c) = (ap (λ s. s.left) c.1, ap (λ s. s.finished) c.1)
left_alone (Err (error.Bad p)) old new not (inr c) = (ap (λ s. s.left) c.2, ap (λ s. s.finished) c.2)
left_alone (Err (error.TooDeep p)) old new not (inl c) = (ap (λ s. s.left) c.1, ap (λ s. s.finished) c.1)
left_alone (Err (error.TooDeep p)) old new not (inr c) = (ap (λ s. s.left) c.2, ap (λ s. s.finished) c.2)
left_alone (Err error.NoMemory) old new not reads = (ap (λ s. s.left) reads, ap (λ s. s.finished) reads)

-- the reader with its part that reads items
abbrev pub with_items : HeadedFile → FileReading → HeadedFile
with_items r items = record r { items = items }

module _ (old : HeadedFile) (items : FileReading) (known : old.front ≡ false) where
  abbrev now : HeadedFile
  now = with_items old items

  -- items more were read
  has_items : (first left : Left) (head : Option Ty) (vs ws : List Value) (has : HasRead first head vs old left)
      → (is_first head ws ≡ true → StaysHeadless items.text.finished items.text.left) → HasReadItems has.rest ws items left → HasRead first head ws now left
  has_items first left head vs ws has headless read = record {
    known = known;
    front = has.front;
    states = has.states;
    size = has.size;
    headless = headless;
    rest = has.rest;
    behind = has.behind;
    items = read;
  }

  module _ (r : Result AnItem ReadError) (hands : HandsItems r old.items items) where
    still_headless : (IsValue r → ⊥) → (first left : Left) (head : Option Ty) (vs : List Value) → HasRead first head vs old left
        → is_first head vs ≡ true → StaysHeadless items.text.finished items.text.left
    still_headless not first left head vs has is =
        let a = left_alone r old.items.text items.text not hands.text in
        subst (λ b. StaysHeadless b items.text.left) (sym a.1) (subst (StaysHeadless old.items.text.finished) (sym a.0) (has.headless is))

    stands : (IsValue r → ⊥) → (first left : Left) (head : Option Ty) (vs : List Value) (has : HasRead first head vs old left) → HasReadItems has.rest vs items left → HasRead first head vs now left
    stands not first left head vs has read = has_items first left head vs vs has (still_headless not first left head vs has) read

    ended_at : (not : IsValue r → ⊥) (first left : Left) (head : Option Ty) (vs : List Value) (has : HasRead first head vs old left) (end : FileEnd) → (end ≡ PastLimit → ⊥)
        → EndsSoItems has.rest vs end items left → HasRead first head vs now left × EndsSo first head vs (moved old.head end) now
    unfolding stands has_items
    ended_at not first left head vs has end more ends =
        let read = stands not first left head vs has ends.0 in
        (read, ends_file first head vs now left read end ends (λ is. absurd (more is)))

  module _ (same : (items.file ≡ old.items.file) × (items.limit ≡ old.items.limit) × (items.piece ≡ old.items.piece)) where
    is_same : SameFile old now
    is_same = record { file = same.0; piece = same.2; limit = ap (λ n. old.head + n) same.1 }

-- an answer of the reader of items, with its place counted from the file's first byte
abbrev pub as_held : ℕ → Result AnItem ReadError → Result AnItem ReadError
as_held head (Ok i) = Ok i
as_held head (Err e) = Err (behind_head head e)

parts_same : (old new : FileReading) → new ≡ record old { text = new.text } → (new.file ≡ old.file) × (new.limit ≡ old.limit) × (new.piece ≡ old.piece)
parts_same old new e = (ap (λ r. r.file) e, ap (λ r. r.limit) e, ap (λ r. r.piece) e)

pub hands_item : (old : HeadedFile) (items : FileReading) (r : Result AnItem ReadError) → old.front ≡ false → HandsItems r old.items items
    → HandsItem (as_held old.head r) old (with_items old items)
hands_item old items r known hands = record {
  same = is_same old items known (parts_same old.items items hands.same);
  known = known;
  finished = hands.finished;
  past = ap (λ n. n.past) hands.same;
  waits = λ is. waits r is (hands.waits (needs r is));
  ended = λ is. ended r is hands.text;
  still = λ is. still r is hands.text;
  less = λ v is. hands.less v (gives r v is);
  goes = λ first left head vs has. goes r hands first left head vs has (hands.goes has.rest left vs has.items);
}
  where
    needs : (x : Result AnItem ReadError) → as_held old.head x ≡ Ok plain.NeedMore → x ≡ Ok plain.NeedMore
    needs (Ok i) is = is
    needs (Err e) is = absurd cc

    gives : (x : Result AnItem ReadError) (v : Value) → as_held old.head x ≡ Ok (plain.Value v) → x ≡ Ok (plain.Value v)
    gives (Ok i) v is = is
    gives (Err e) v is = absurd cc

    waits : (x : Result AnItem ReadError) → as_held old.head x ≡ Ok plain.NeedMore → Waits items.text items.text → MayFetch (with_items old items)
    waits x is w = record {
      grows = record { unfinished = w.unfinished; fresh = w.fresh };
      begun = λ front. absurd (let no : false ≡ true = sym known ∙ front in cc);
      waits = λ front. w;
    }

    ended : (x : Result AnItem ReadError) → as_held old.head x ≡ Ok plain.End → ReadsItem old.items.text x items.text → items.text.finished ≡ true
    ended (Ok (plain.Value v)) is reads = absurd cc
    ended (Ok plain.NeedMore) is reads = absurd cc
    ended (Ok plain.End) is reads = ap (λ s. s.finished) reads.same ∙ reads.finished
    ended (Err e) is reads = absurd cc

    still : (x : Result AnItem ReadError) → as_held old.head x ≡ Ok plain.NeedMore → ReadsItem old.items.text x items.text → to_come items ≡ to_come old.items
    still (Ok (plain.Value v)) is reads = absurd cc
    still (Ok plain.NeedMore) is reads = ap to_come (hands.same ∙ ap {A = State} (λ t. record old.items { text = t }) reads.same)
    still (Ok plain.End) is reads = absurd cc
    still (Err e) is reads = absurd cc

    goes : (x : Result AnItem ReadError) → HandsItems x old.items items → (first left : Left) (head : Option Ty) (vs : List Value) (has : HasRead first head vs old left)
        → HeldItems has.rest vs x items left → HeldItem first head vs (as_held old.head x) (with_items old items) left
    goes (Ok (plain.Value v)) h first left head vs has held = has_items old items known first left head vs (vs ++ v ∷ []) has (λ is. absurd (not_first head vs v is)) held
    goes (Ok plain.NeedMore) h first left head vs has held = stands old items known (Ok plain.NeedMore) h (λ t. t) first left head vs has held
    goes (Ok plain.End) h first left head vs has held = ended_at old items known (Ok plain.End) h (λ t. t) first left head vs has WholeText (λ e. cc) held
    goes (Err (error.Bad p)) h first left head vs has held = ended_at old items known (Err (error.Bad p)) h (λ t. t) first left head vs has (BadAt p) (λ e. cc) held
    goes (Err (error.TooDeep p)) h first left head vs has held = ended_at old items known (Err (error.TooDeep p)) h (λ t. t) first left head vs has (TooDeepAt p) (λ e. cc) held
    goes (Err error.NoMemory) h first left head vs has held = stands old items known (Err error.NoMemory) h (λ t. t) first left head vs has held

-- ---- the head was looked for

module _ (old : HeadedFile) (front : old.front ≡ true) (refused : old.refused ≡ None) (fresh : old.items.text.refused ≡ None)
    (within : old.items.text.place + length old.items.text.left ≤ old.items.limit) (none_read : old.head + old.items.text.place ≡ 0) where
  pub head_found : (t : Ty) (n : ℕ) → Means old.items.text.left old.items.text.finished (Ok (look.Head t n))
      → AnswersHead (Ok (look.Head t n)) old (record { front = false; head = n; items = record old.items { limit = old.items.limit - n; text = record old.items.text { left = drop n old.items.text.left } }; refused = old.refused })
  head_found t n means = record {
    same = record { file = refl; piece = refl; limit = let few = means.0 in let w = within in let none = none_read in omega arith };
    answers = (front, refl, refl, refl);
    goes = λ first left opened. opens_head old left n t means.0 means.1 fresh first opened;
  }

  pub items_found : StaysHeadless old.items.text.finished old.items.text.left → AnswersHead (Ok look.Items) old (record old { front = false })
  items_found headless = record {
    same = record { file = refl; piece = refl; limit = refl };
    answers = refl;
    goes = λ first left opened. opens_items first old left opened headless;
  }

  pub unknown_found : Means old.items.text.left old.items.text.finished (Ok look.Unknown) → AnswersHead (Ok look.Unknown) old old
  unknown_found means = record {
    same = record { file = refl; piece = refl; limit = refl };
    answers = (front, record { grows = record { unfinished = means.0; fresh = fresh }; begun = λ is. means.1; waits = λ no. absurd (let b : false ≡ true = sym no ∙ front in cc) }, refl);
    goes = λ first left opened. opened;
  }

  pub refusal_found : (h : Halt) → Means old.items.text.left old.items.text.finished (Err h) → AnswersHead (Err (refusal_of h)) old (record old { refused = lasting (refusal_of h) })
  refusal_found (halt.Bad k) means = record {
    same = record { file = refl; piece = refl; limit = refl };
    answers = (front, refl);
    goes = λ first left opened bytes is. bad_first first old left opened bytes is k means.0 means.1;
  }
  refusal_found (halt.TooDeep k) means = record {
    same = record { file = refl; piece = refl; limit = refl };
    answers = (front, refl);
    goes = λ first left opened bytes is. deep_first first old left opened bytes is k means.0 means.1;
  }
  refusal_found halt.NoMemory means = record {
    same = record { file = refl; piece = refl; limit = refl };
    answers = (front, ap (λ e. record old { refused = e }) (sym refused));
    goes = λ first left opened. subst (λ r. HasOpened first r left) (ap (λ e. record old { refused = e }) refused) opened;
  }

-- ---- `next_held`

pub held_head : (old new : HeadedFile) (t : Ty) (n : ℕ) → AnswersHead (Ok (look.Head t n)) old new → HandsOut (Ok (item.Head t)) old new
held_head old new t n a = record {
  same = a.same;
  waits = λ is. absurd cc;
  still = λ is. absurd cc;
  less = λ v is. absurd cc;
  first = λ first left opened. a.goes first left opened;
  goes = λ first left head vs has. absurd (let no : false ≡ true = sym has.known ∙ a.answers.0 in cc);
}

pub held_refused : (old new : HeadedFile) (e : ReadError) → AnswersHead (Err e) old new → HandsOut (Err e) old new
held_refused old new e a = record {
  same = a.same;
  waits = λ is. absurd cc;
  still = λ is. absurd cc;
  less = λ v is. absurd cc;
  first = λ first left opened. first_refused e a first left opened;
  goes = λ first left head vs has. absurd (let no : false ≡ true = sym has.known ∙ at_front e a.answers in cc);
}
  where
    at_front : (d : ReadError) → Answers (Err d) old new → old.front ≡ true
    at_front (error.Bad p) b = b.0
    at_front (error.TooDeep p) b = b.0
    at_front error.NoMemory b = b.0

    first_refused : (d : ReadError) → AnswersHead (Err d) old new → (first left : Left) → HasOpened first old left → HeldFirst first (Err d) new left
    first_refused (error.Bad p) b first left opened = b.goes first left opened
    first_refused (error.TooDeep p) b first left opened = b.goes first left opened
    first_refused error.NoMemory b first left opened = inl (b.goes first left opened)

abbrev pub as_items : Result AnItem ReadError → Result Item ReadError
as_items (Ok i) = Ok (item_as i)
as_items (Err e) = Err e

pub held_items : (old mid new : HeadedFile) (r : Result AnItem ReadError) → AnswersHead (Ok look.Items) old mid → HandsItem r mid new → HandsOut (as_items r) old new
held_items old mid new r a hands = record {
  same = record { file = hands.same.file ∙ a.same.file; piece = hands.same.piece ∙ a.same.piece; limit = hands.same.limit ∙ a.same.limit };
  waits = λ is. hands.waits (needs r is);
  still = λ is. hands.still (needs r is) ∙ same_to_come;
  less = λ v is. subst (λ n. to_come new.items < n) same_to_come (hands.less v (gives r v is));
  first = λ first left opened. at_first r first left (hands.goes first left None [] (a.goes first left opened));
  goes = λ first left head vs has. later r first left head vs (hands.goes first left head vs (subst (λ m. HasRead first head vs m left) (was has.known) has));
}
  where
    same_to_come : to_come mid.items ≡ to_come old.items
    same_to_come = ap (λ m. to_come m.items) a.answers

    was : old.front ≡ false → old ≡ mid
    was known = ap (λ b. record old { front = b }) known ∙ sym a.answers

    needs : (x : Result AnItem ReadError) → as_items x ≡ Ok item.NeedMore → x ≡ Ok plain.NeedMore
    needs (Ok (plain.Value v)) is = absurd cc
    needs (Ok plain.NeedMore) is = refl
    needs (Ok plain.End) is = absurd cc
    needs (Err e) is = absurd cc

    gives : (x : Result AnItem ReadError) (v : Value) → as_items x ≡ Ok (item.Value v) → x ≡ Ok (plain.Value v)
    gives (Ok (plain.Value w)) v is = let same : w ≡ v = cc in ap (λ y. Ok (plain.Value y)) same
    gives (Ok plain.NeedMore) v is = absurd cc
    gives (Ok plain.End) v is = absurd cc
    gives (Err e) v is = absurd cc

    at_first : (x : Result AnItem ReadError) (first left : Left) → HeldItem first None [] x new left → HeldFirst first (as_items x) new left
    at_first (Ok (plain.Value v)) first left held = held
    at_first (Ok plain.NeedMore) first left held = inr held
    at_first (Ok plain.End) first left held = held.1
    at_first (Err (error.Bad p)) first left held = held.1
    at_first (Err (error.TooDeep p)) first left held = held.1
    at_first (Err error.NoMemory) first left held = inr held

    later : (x : Result AnItem ReadError) (first left : Left) (head : Option Ty) (vs : List Value) → HeldItem first head vs x new left → HeldOut first head vs (as_items x) new left
    later (Ok (plain.Value v)) first left head vs held = held
    later (Ok plain.NeedMore) first left head vs held = held
    later (Ok plain.End) first left head vs held = held
    later (Err (error.Bad p)) first left head vs held = held
    later (Err (error.TooDeep p)) first left head vs held = held
    later (Err error.NoMemory) first left head vs held = held

-- ---- what stays true where it is not known yet whether a head comes

pub begun_still : (front front' : Front) (head : ℕ) (items : FileReading) (refused refused' : Option ReadError) → IsBegun (Some front) head items refused → refused ≡ None
    → (refused' ≡ None → HasTaken items.text.left front'.scanned front'.machine) → IsBegun (Some front') head items refused'
begun_still front front' head items refused refused' begun none taken =
    let b = begun.before front refl none in
    record {
      room = begun.room;
      before = λ f it no. let same : front' ≡ f = cc in record {
        first_answer = b.first_answer;
        none_read = b.none_read;
        fresh = b.fresh;
        taken = subst (λ g. HasTaken items.text.left g.scanned g.machine) same (taken no);
      };
      behind = λ it. absurd cc;
    }

pub not_lasting : (h : Halt) → lasting (refusal_of h) ≡ None → h ≡ halt.NoMemory
not_lasting (halt.Bad k) is = absurd cc
not_lasting (halt.TooDeep k) is = absurd cc
not_lasting halt.NoMemory is = refl
