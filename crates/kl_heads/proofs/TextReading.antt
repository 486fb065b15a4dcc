-- What a reader of a text that comes in pieces knows, call by call.
use Rattle.std.proofs.Common.{◌≡◌, inr, ℕ, ◌+◌, ◌-◌, ◌^◌, ◌<◌, Bool, true, false, List, [], ◌++◌, length, take, drop, Option, Some, None, Result, Ok, Err, refl, sym, ap, subst, ◌∙◌, arith, append_assoc, append-nil, length-append, length-take, length-drop, take-append-drop}
use Rattle.std.specs.Prelude.{OnErr, OnOk}
use Rattle.std.proofs.lemmas.Bool.{false≢true}
use Rattle.std.proofs.lemmas.List.{take-append-le}
use Rattle.kl_type.specs.declared.ground.Ty.{Ty}
use Rattle.kl_exchange.specs.State.{State}
use Rattle.kl_exchange.specs.declared.ReadError.{ReadError}
use Rattle.kl_heads.specs.Files.{standing}
use Rattle.kl_heads.specs.Fronts.{HasTaken, IsBefore, IsBehind, IsHeaded, IsRefusedBehind}
use Rattle.kl_heads.specs.Machine.{run, start}
use Rattle.kl_heads.specs.Reading.{Headed, headed_of, refused_by, refusal_of, lasting, GivesHead, IsBad, IsDeep, IsNext, ReadsNext}
use Rattle.kl_heads.specs.Texts.{IsHeadless, StaysHeadless}
use Rattle.kl_heads.specs.declared.front.Front.{Front}
use Rattle.kl_heads.specs.declared.front.Look.TheVariants as look
use Rattle.kl_heads.specs.declared.machine.Machine.{Machine}
use Rattle.kl_heads.specs.declared.reader.Item.TheVariants as item
use Rattle.kl_heads.specs.declared.scan.Halt.{Halt}
use Rattle.kl_heads.specs.declared.scan.Halt.TheVariants as halt
use Rattle.kl_heads.proofs.Looks.{Means}

-- more bytes came
pub taken_more : (bytes u : List ℕ) (place : ℕ) (m : Machine) → HasTaken bytes place m → HasTaken (bytes ++ u) place m
taken_more bytes u place m taken =
    let within = taken.within in
    let size : length (bytes ++ u) ≡ length bytes + length u = length-append bytes u in
    record { within = omega arith; met = ap (λ bs. run 256 bs start) (take-append-le place bytes u within) ∙ taken.met }

pub headless_more : (left u : List ℕ) → StaysHeadless false left → StaysHeadless false (left ++ u)
headless_more left u headless behind none =
    subst IsHeadless (sym (append_assoc left u behind)) (headless (u ++ behind) (λ t. absurd (false≢true t)))

pub headless_ended : (finished : Bool) (left : List ℕ) → StaysHeadless finished left → StaysHeadless true left
headless_ended finished left headless behind none = headless behind (λ t. none refl)

-- ---- what stays true

module _ (front : Option Front) (first : Bool) (head : ℕ) (finished : Bool) (items : State) (refused : Option ReadError) (is : IsHeaded front first head finished items refused) where
  pub fed_headed : (piece : List ℕ) (items' : State) → items' ≡ record items { left = items.left ++ piece } → finished ≡ false
      → (head + items.place) + (length items.left + length piece) < 2 ^ 64 → IsHeaded front first head finished items' refused
  fed_headed piece items' same unfinished room = subst (λ s. IsHeaded front first head finished s refused) (sym same) (record {
    room = let size : length (items.left ++ piece) ≡ length items.left + length piece = length-append items.left piece in omega arith;
    same_end = is.same_end;
    before = λ f it no. let b = is.before f it no in record {
      first_answer = b.first_answer;
      none_read = b.none_read;
      fresh = b.fresh;
      taken = taken_more items.left piece f.scanned f.machine b.taken;
    };
    behind = λ none. let b = is.behind none in (
      b.0,
      record {
        room = let size : length (items.left ++ piece) ≡ length items.left + length piece = length-append items.left piece in omega arith;
        placed = b.1.placed;
        headless = λ at. let h = b.1.headless at in (
          h.0,
          subst (λ e. StaysHeadless e (items.left ++ piece)) (sym open_end)
              (headless_more items.left piece (subst (λ e. StaysHeadless e items.left) open_end h.1)),
        );
      },
    );
  })
    where
      open_end : items.finished ≡ false
      open_end = sym is.same_end ∙ unfinished

  pub fed_so : {E : Type 0} (r : Result (Unit {0}) E) (piece : List ℕ) (items' : State) → OnOk r (items' ≡ record items { left = items.left ++ piece }) → OnErr r (items' ≡ items)
      → items.finished ≡ false → (head + items.place) + (length items.left + length piece) < 2 ^ 64 → IsHeaded front first head finished items' refused
  fed_so (Ok done) piece items' fed kept open_end room = fed_headed piece items' fed (is.same_end ∙ open_end) room
  fed_so (Err e) piece items' fed kept open_end room = subst (λ s. IsHeaded front first head finished s refused) (sym kept) is

  pub finished_headed : (items' : State) → items' ≡ record items { finished = true } → IsHeaded front first head true items' refused
  finished_headed items' same = subst (λ s. IsHeaded front first head true s refused) (sym same) (record {
    room = is.room;
    same_end = refl;
    before = λ f it no. let b = is.before f it no in record { first_answer = b.first_answer; none_read = b.none_read; fresh = b.fresh; taken = b.taken };
    behind = λ none. let b = is.behind none in (
      b.0,
      record {
        room = b.1.room;
        placed = b.1.placed;
        headless = λ at. let h = b.1.headless at in (h.0, headless_ended items.finished items.left h.1);
      },
    );
  })

-- no byte is lost
pub head_total : (old new : State) (t : Ty) → GivesHead old t new → new.place + length new.left ≡ old.place + length old.left
head_total old new t g =
    let place = g.place in
    let size : length old.left ≡ length g.bytes + length new.left = ap length g.front ∙ length-append g.bytes new.left in
    omega arith

-- ---- where a head may come

module _ (first : Bool) (head : ℕ) (finished : Bool) (items : State) (front : Front) (b : IsBefore front first head items) (ended : finished ≡ items.finished)
    (room : head + (items.place + length items.left) < 2 ^ 64) where
  abbrev old : Headed
  old = headed_of first head items None

  none : (head ≡ 0) × (items.place ≡ 0)
  none = let n = b.none_read in (omega arith, omega arith)

  fresh_view : refused_by head None items.refused ≡ None
  fresh_view = ap (refused_by head None) b.fresh

  -- the head
  module _ (t : Ty) (n : ℕ) (means : Means items.left finished (Ok (look.Head t n))) (items' : State) (cut : items' ≡ record items { left = drop n items.left }) where
    pub gives_head : ReadsNext old (Ok (item.Head t)) (headed_of false n items' None)
    gives_head = subst (λ s. ReadsNext old (Ok (item.Head t)) (headed_of false n s None)) (sym cut) (
      b.first_answer,
      refl,
      record {
        fresh = fresh_view;
        bytes = take n items.left;
        front = sym (take-append-drop n items.left);
        states = means.1;
        proper = means.2;
        place = let size : length (take n items.left) ≡ n = length-take n items.left ∙ (let few = means.0 in omega arith) in let h = none.0 in omega arith;
        finished = refl;
        refused = ap (refused_by n None) b.fresh;
      },
    )

    pub headed_head : IsHeaded None false n finished items' None
    headed_head = subst (λ s. IsHeaded None false n finished s None) (sym cut) (record {
      room = small;
      same_end = ended;
      before = λ f it no. absurd cc;
      behind = λ it. (refl, record { room = small; placed = subst (IsRefusedBehind n) (sym b.fresh) tt; headless = λ at. absurd (false≢true at) });
    })
      where
        small : n + (items.place + length (drop n items.left)) < 2 ^ 64
        small = let size : length (drop n items.left) ≡ length items.left - n = length-drop n items.left in let few = means.0 in let p = none.1 in let r = room in omega arith

  -- items
  pub behind_none : Means items.left finished (Ok look.Items) → IsBehind first head items
  behind_none means = record {
    room = room;
    placed = subst (IsRefusedBehind head) (sym b.fresh) tt;
    headless = λ at. (none.0, subst (λ e. StaysHeadless e items.left) ended means);
  }

  -- less than a head
  pub waits_head : Means items.left finished (Ok look.Unknown) → ReadsNext old (Ok item.NeedMore) old
  waits_head means = record {
    fresh = fresh_view;
    unfinished = sym ended ∙ means.0;
    more = means.1.0;
    proper = means.1.1;
    begun = subst (λ f. IsNext f 256 (items.left ++ means.1.0)) (sym b.first_answer) means.1.2;
    same = refl;
  }

  pub headed_still : (front' : Front) → HasTaken items.left front'.scanned front'.machine → IsHeaded (Some front') first head finished items None
  headed_still front' taken = record {
    room = room;
    same_end = ended;
    before = λ f it no. let same : front' ≡ f = cc in record {
      first_answer = b.first_answer;
      none_read = b.none_read;
      fresh = b.fresh;
      taken = subst (λ g. HasTaken items.left g.scanned g.machine) same taken;
    };
    behind = λ it. absurd cc;
  }

  -- a refusal
  pub headed_refused : (front' : Front) (h : Halt) → (h ≡ halt.NoMemory → HasTaken items.left front'.scanned front'.machine) → IsHeaded (Some front') first head finished items (lasting (refusal_of h))
  headed_refused front' (halt.Bad k) taken = record { room = room; same_end = ended; before = λ f it no. absurd cc; behind = λ it. absurd cc }
  headed_refused front' (halt.TooDeep k) taken = record { room = room; same_end = ended; before = λ f it no. absurd cc; behind = λ it. absurd cc }
  headed_refused front' halt.NoMemory taken = headed_still front' (taken refl)

  pub refuses_head : (h : Halt) → Means items.left finished (Err h) → ReadsNext old (Err (refusal_of h)) (headed_of first head items (lasting (refusal_of h)))
  refuses_head (halt.Bad k) means = inr (fresh_view, (k, (let z = none.0 in let p = none.1 in omega arith), bad), refl)
    where
      bad : IsBad old k
      bad =
          let m = means.1 [] items.finished (λ f. (refl, sym ended ∙ f)) in
          let n = subst (λ bs. IsBad (standing true 0 bs items.finished) k) (append-nil items.left) m in
          subst (λ f. IsBad (headed_of f head items None) k) (sym b.first_answer) (record { within = n.within; begins = n.begins; longest = n.longest; in_none = n.in_none; none_next = n.none_next })
  refuses_head (halt.TooDeep k) means = inr (fresh_view, (k, (let z = none.0 in let p = none.1 in omega arith), deep), refl)
    where
      deep : IsDeep old k
      deep =
          let n = subst (λ bs. IsDeep (standing true 0 bs items.finished) k) (append-nil items.left) (means.1 [] items.finished) in
          subst (λ f. IsDeep (headed_of f head items None) k) (sym b.first_answer) (record { within = n.within; begins = n.begins; deeper = n.deeper; too_deep = n.too_deep; none_next = n.none_next })
  refuses_head halt.NoMemory means = refl
