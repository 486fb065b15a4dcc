-- What a reader of an open file has read, call by call.
use Rattle.std.proofs.Common.{◌≡◌, inl, inr, ℕ, zero, suc, ◌+◌, ◌-◌, ◌<◌, ◌≤◌, nat_le, Bool, true, false, List, [], ◌∷◌, ◌++◌, length, take, min, Option, Some, None, Result, Ok, Err, IsErrOf, IsSome, refl, sym, ap, subst, ◌∙◌, arith, append_assoc, append-nil, length-append, length-take, take_all}
use Rattle.std.proofs.Math.Seq.{take-append-add}
use Rattle.std.specs.Prelude.{⊤, OnErr}
use Rattle.std.specs.Result.{IfErr}
use Rattle.std.proofs.lemmas.Bool.{cases_eq, le-leb, lt-leb, false≢true}
use Rattle.std.proofs.lemmas.List.{nil_from_length}
use Rattle.std.proofs.lemmas.Option.{same_Some}
use Rattle.kl_exchange.specs.FileItems.{Items, FileEnd, WholeText, BadAt, TooDeepAt, PastLimit, BeginsItem, reading, EndsIn, Shows}
use Rattle.kl_exchange.specs.FileReading.{AsSeen, AsSeenBehind, FileReading, IsFaultPlaced, IsFedWithin, IsPlaced, IsRefusedWithin, Left, Remains, IsFetched, IsMetBy, IsRefusalOf, HasRead, HasSeen, EndsSo, Fetched, FetchedPiece, HeldOut, HandsOut, Leaves, Fetches, FetchesPiece, MayGrow, NextItem, SeesMore, Stands, end_to_come, to_come}
use Rattle.kl_exchange.specs.Fetching.{FetchesBehind}
use Rattle.kl_exchange.specs.Grammar.{Blank, IsExchange, IsItem}
use Rattle.kl_exchange.specs.Reading.{GivesItem, Waits, IsBad, IsDeep, ReadsNext}
use Rattle.kl_exchange.specs.State.{State}
use Rattle.kl_exchange.specs.declared.error.FileError.{FileError}
use Rattle.kl_exchange.specs.declared.error.FileError.TheVariants as fault
use Rattle.kl_exchange.specs.declared.error.ReadError.{ReadError}
use Rattle.kl_base.specs.Counts.{Rose}
use Rattle.kl_outside.specs.declared.stop.Stop.{Stop}
use Rattle.kl_outside.specs.declared.stop.Stop.TheVariants as stop
use Rattle.kl_exchange.specs.declared.error.ReadError.TheVariants as error
use Rattle.kl_exchange.specs.declared.reader.Item.{Item}
use Rattle.kl_exchange.specs.declared.reader.Item.TheVariants as item
use Rattle.kl_exchange.proofs.FileItems.{bad_grows, deep_grows, first_items, end_has_none}
use Rattle.kl_exchange.proofs.Fetching.{still_open}
use Rattle.std.specs.Option.{option_map}
use Rattle.kl_outside.specs.Files.{CountsFailed, FilesState, OtherFiles, OtherSeen, Consumed, IsAtEnd, ReadsPiece, Seen, seen_in, seen_then}
use Rattle.kl_value.specs.declared.Value.{Value}

pub items-append : (read more : List ℕ) (vs ws : List Value) → Items read vs → Items more ws → Items (read ++ more) (vs ++ ws)
items-append read more [] ws items others = subst (λ bs. Items (bs ++ more) ws) (sym items) others
items-append read more (v ∷ vs) ws items others = (
  items.0,
  items.1 ++ more,
  ap (λ bs. bs ++ more) items.2 ∙ append_assoc items.0 items.1 more,
  items.3,
  items-append items.1 more vs ws items.4 others,
)

one_item : (bytes : List ℕ) (v : Value) → IsItem 256 bytes v → Items bytes (v ∷ [])
one_item bytes v spells = (bytes, [], sym (append-nil bytes), spells, refl)

pub item_size : (bytes : List ℕ) (v : Value) → IsItem 256 bytes v → 0 < length bytes
item_size bytes v spells =
    let size : length bytes ≡ length spells.text + 1 = ap length spells.is ∙ length-append spells.text (59 ∷ []) in
    omega arith

-- a reader before its first item
pub begins_so : (now : FileReading) (left : Left) → now.text ≡ reading 0 [] false → now.past ≡ false → HasRead left [] now left
begins_so now left text fresh = record {
  read = [];
  items = refl;
  place = ap (λ s. s.place) text;
  within = let a : now.text.place ≡ 0 = ap (λ s. s.place) text in let b : length now.text.left ≡ 0 = ap (λ s. length s.left) text in omega arith;
  remains = λ bytes known. record {
    beyond = [];
    behind = bytes;
    known = known;
    whole = ap (λ bs. bs ++ bytes) (sym (ap (λ s. s.left) text));
    nothing_beyond = λ is. refl;
    limit_met = λ is. absurd (false≢true (sym fresh ∙ is));
    end_met = λ is. absurd (false≢true (sym (ap (λ s. s.finished) text) ∙ is));
  };
  refusal = λ e end is of. absurd (let none : None ≡ Some e = sym (ap (λ s. s.refused) text) ∙ is in cc);
}

-- the front of a file that is looked at
looked_at : (limit room : ℕ) (whole front rest : List ℕ) → whole ≡ front ++ rest → length front + room ≡ limit → take limit whole ≡ front ++ take room rest
looked_at limit room whole front rest is size = ap (take limit) is ∙ (ap (λ n. take n (front ++ rest)) (sym size) ∙ take-append-add front rest room)

take_none : (n : ℕ) → take {A = ℕ} n [] ≡ []
take_none zero = refl
take_none (suc n) = refl

bad_as : (s : State) (k : ℕ) → IsBad s k → IsBad (reading s.place s.left s.finished) k
bad_as s k bad = record { within = bad.within; begins = bad.begins; longest = bad.longest; in_none = bad.in_none; no_item = bad.no_item }

deep_as : (s : State) (k : ℕ) → IsDeep s k → IsDeep (reading s.place s.left s.finished) k
deep_as s k deep = record { within = deep.within; begins = deep.begins; deeper = deep.deeper; too_deep = deep.too_deep; no_item = deep.no_item }

-- where more may come, what is bad stands among the bytes that came: all of them begin a text otherwise
bad_within : (place : ℕ) (left : List ℕ) (k : ℕ) → IsBad (reading place left false) k → k < length left
bad_within place left k bad = elim (cases_eq k (length left)) [ inl all ↦ absurd (begun all) | inr less ↦ below less ]
  where
    begun : k ≡ length left → ⊥
    begun is =
        let all : take k left ≡ left = take_all k left (omega (arith, is)) in
        let text = bad.begins in
        bad.in_none 256 text.more text.values (λ more. absurd (false≢true more)) (subst (λ bs. IsExchange 256 (bs ++ text.more) text.values) all text.whole)

    below : (k ≡ length left → ⊥) → k < length left
    below less = let within = bad.within in omega (arith, within, less)

module _ (first : Left) (vs : List Value) (now : FileReading) (left : Left) (has : HasRead first vs now left) where
  room : ℕ
  room = now.limit - (now.text.place + length now.text.left)

  front_size : length (has.read ++ now.text.left) + room ≡ now.limit
  unfolding room
  front_size =
      let size : length (has.read ++ now.text.left) ≡ length has.read + length now.text.left = length-append has.read now.text.left in
      let a = has.place in
      let b = has.within in
      omega arith

  -- what is looked at and was not fetched
  unseen : (bytes : List ℕ) → Remains has.read now left bytes → List ℕ
  unseen bytes r = take room (r.beyond ++ r.behind)

  shows_so : (end : FileEnd) (bytes : List ℕ) (r : Remains has.read now left bytes) → EndsIn (length has.read) (now.text.left ++ unseen bytes r) (nat_le (length bytes) now.limit) end → Shows now.limit bytes vs end
  unfolding unseen
  shows_so end bytes r ends = record {
    read = has.read;
    left = now.text.left ++ unseen bytes r;
    seen = looked_at now.limit room bytes (has.read ++ now.text.left) (r.beyond ++ r.behind) r.whole front_size ∙ append_assoc has.read now.text.left (unseen bytes r);
    items = has.items;
    ends = ends;
  }

  -- nothing was left to fetch
  all_seen : (bytes : List ℕ) (r : Remains has.read now left bytes) → now.text.finished ≡ true → (unseen bytes r ≡ []) × (nat_le (length bytes) now.limit ≡ true)
  unfolding unseen
  all_seen bytes r finished =
      let none = r.end_met finished in
      let size : length bytes ≡ length (has.read ++ now.text.left) + 0 = ap length r.whole ∙ (ap (λ bs. length ((has.read ++ now.text.left) ++ bs)) none ∙ length-append (has.read ++ now.text.left) []) in
      let fits = front_size in
      (ap (take room) none ∙ take_none room, le-leb (length bytes) now.limit (omega arith))

  refused_so : (p : ℕ) (bytes : List ℕ) (r : Remains has.read now left bytes) → (b : Bool) → now.text.finished ≡ b → EndsIn now.text.place now.text.left now.text.finished (BadAt p)
      → EndsIn (length has.read) (now.text.left ++ unseen bytes r) (nat_le (length bytes) now.limit) (BadAt p)
  refused_so p bytes r true is ends =
      let all = all_seen bytes r is in (
        ends.0,
        ends.1 ∙ ap (λ n. n + ends.0) has.place,
        same (length has.read) (now.text.left ++ unseen bytes r) (nat_le (length bytes) now.limit) now.text.place now.text.left now.text.finished ends.0
            (ap (λ bs. now.text.left ++ bs) all.0 ∙ append-nil now.text.left) (all.1 ∙ sym is) ends.2,
      )
    where
      same : (to : ℕ) (xs : List ℕ) (b : Bool) (from : ℕ) (ys : List ℕ) (c : Bool) (k : ℕ) → xs ≡ ys → b ≡ c → IsBad (reading from ys c) k → IsBad (reading to xs b) k
      same to xs b from ys c k e f bad =
          subst (λ zs. IsBad (reading to zs b) k) (sym e)
          (subst (λ d. IsBad (reading to ys d) k) (sym f)
          (record { within = bad.within; begins = bad.begins; longest = bad.longest; in_none = bad.in_none; no_item = bad.no_item }))
  refused_so p bytes r false is ends = (
    ends.0,
    ends.1 ∙ ap (λ n. n + ends.0) has.place,
    bad_grows now.text.place (length has.read) now.text.left (unseen bytes r) (nat_le (length bytes) now.limit) ends.0
        (subst (λ b. IsBad (reading now.text.place now.text.left b) ends.0) is ends.2),
  )

  bad_fetched : (p : ℕ) → EndsIn now.text.place now.text.left now.text.finished (BadAt p) → (b : Bool) → now.text.finished ≡ b → IsFetched (BadAt p) now
  bad_fetched p ends true is = inr is
  bad_fetched p ends false is =
      let within = bad_within now.text.place now.text.left ends.0 (subst (λ b. IsBad (reading now.text.place now.text.left b) ends.0) is ends.2) in
      let at = ends.1 in
      inl (omega arith)

  -- where the reader refuses
  pub ends_bad : (p : ℕ) → EndsIn now.text.place now.text.left now.text.finished (BadAt p) → EndsSo first vs (BadAt p) now left
  ends_bad p ends = (
    has,
    (λ bytes known. let r = has.remains bytes known in shows_so (BadAt p) bytes r (refused_so p bytes r now.text.finished refl ends)),
    bad_fetched p ends now.text.finished refl,
  )

  pub ends_deep : (p : ℕ) → EndsIn now.text.place now.text.left now.text.finished (TooDeepAt p) → EndsSo first vs (TooDeepAt p) now left
  ends_deep p ends = (
    has,
    (λ bytes known. let r = has.remains bytes known in shows_so (TooDeepAt p) bytes r (
      ends.0,
      ends.1 ∙ ap (λ n. n + ends.0) has.place,
      deep_grows now.text.place (length has.read) now.text.left (unseen bytes r) now.text.finished (nat_le (length bytes) now.limit) ends.0 ends.2,
    )),
    inl (let within = ends.2.within in let at = ends.1 in omega arith),
  )

  -- where only white space is left
  pub ends_whole : now.text.finished ≡ true → Blank now.text.left → EndsSo first vs WholeText now left
  ends_whole finished blank = (
    has,
    (λ bytes known.
        let r = has.remains bytes known in
        let all = all_seen bytes r finished in
        shows_so WholeText bytes r (all.1, subst (λ bs. Blank bs) (sym (ap (λ bs. now.text.left ++ bs) all.0 ∙ append-nil now.text.left)) blank)),
    tt,
  )

  -- where the limit is met and the file has more
  pub ends_past : now.past ≡ true → BeginsItem now.text.left → EndsSo first vs PastLimit now left
  unfolding unseen room
  ends_past past begun = (
    has,
    (λ bytes known.
        let r = has.remains bytes known in
        let met = r.limit_met past in
        let some = met.0 in
        let full = met.1 in
        let none : room ≡ 0 = omega arith in
        let unseen_none : unseen bytes r ≡ [] = ap (λ n. take n (r.beyond ++ r.behind)) none in
        let size : length bytes ≡ length (has.read ++ now.text.left) + length (r.beyond ++ r.behind) = ap length r.whole ∙ length-append (has.read ++ now.text.left) (r.beyond ++ r.behind) in
        let others : length (r.beyond ++ r.behind) ≡ length r.beyond + length r.behind = length-append r.beyond r.behind in
        let fits = front_size in
        shows_so PastLimit bytes r
        (lt-leb (length bytes) now.limit (omega arith), subst BeginsItem (sym (ap (λ bs. now.text.left ++ bs) unseen_none ∙ append-nil now.text.left)) begun)),
    tt,
  )

  -- an item more
  pub has_more : (v : Value) (text : State) → GivesItem now.text v text → HasRead first (vs ++ v ∷ []) (record now { text = text }) left
  has_more v text gives =
      let size : length now.text.left ≡ length gives.bytes + length text.left = ap length gives.front ∙ length-append gives.bytes text.left in
      let place = gives.place in
      let within = has.within in
      record {
        read = has.read ++ gives.bytes;
        items = items-append has.read gives.bytes vs (v ∷ []) has.items (one_item gives.bytes v gives.spells);
        place = gives.place ∙ (ap (λ n. n + length gives.bytes) has.place ∙ sym (length-append has.read gives.bytes));
        within = omega arith;
        remains = λ bytes known.
            let r = has.remains bytes known in
            record {
              beyond = r.beyond;
              behind = r.behind;
              known = r.known;
              whole = r.whole ∙ ap (λ bs. bs ++ (r.beyond ++ r.behind)) (ap (λ bs. has.read ++ bs) gives.front ∙ sym (append_assoc has.read gives.bytes text.left));
              nothing_beyond = r.nothing_beyond;
              limit_met = λ past. let met = r.limit_met past in (met.0, let m = met.1 in omega arith);
              end_met = λ finished. r.end_met (sym gives.finished ∙ finished);
            };
        refusal = λ e end is of. absurd (let none : None ≡ Some e = sym gives.refused ∙ is in cc);
      }

  -- a refusal more
  pub has_refused : (d : ReadError) → ((e : ReadError) (end : FileEnd) → Some d ≡ Some e → IsRefusalOf end e → EndsIn now.text.place now.text.left now.text.finished end)
      → HasRead first vs (record now { text = record now.text { refused = Some d } }) left
  has_refused d cause = record {
    read = has.read;
    items = has.items;
    place = has.place;
    within = has.within;
    remains = λ bytes known. let r = has.remains bytes known in
        record { beyond = r.beyond; behind = r.behind; known = r.known; whole = r.whole; nothing_beyond = r.nothing_beyond; limit_met = r.limit_met; end_met = r.end_met };
    refusal = cause;
  }

-- the cause of a refusal
bad_cause : (p : ℕ) (e : ReadError) (end : FileEnd) (place : ℕ) (left : List ℕ) (finished : Bool) → EndsIn place left finished (BadAt p) → Some (error.Bad p) ≡ Some e → IsRefusalOf end e
    → EndsIn place left finished end
bad_cause p e (BadAt q) place left finished ends is of = subst (λ n. EndsIn place left finished (BadAt n)) (let same : error.Bad p ≡ error.Bad q = (let a : error.Bad p ≡ e = cc in a ∙ of) in cc) ends
bad_cause p e (TooDeepAt q) place left finished ends is of = absurd (let same : error.Bad p ≡ error.TooDeep q = (let a : error.Bad p ≡ e = cc in a ∙ of) in cc)
bad_cause p e WholeText place left finished ends is of = absurd of
bad_cause p e PastLimit place left finished ends is of = absurd of

deep_cause : (p : ℕ) (e : ReadError) (end : FileEnd) (place : ℕ) (left : List ℕ) (finished : Bool) → EndsIn place left finished (TooDeepAt p) → Some (error.TooDeep p) ≡ Some e → IsRefusalOf end e
    → EndsIn place left finished end
deep_cause p e (TooDeepAt q) place left finished ends is of = subst (λ n. EndsIn place left finished (TooDeepAt n)) (let same : error.TooDeep p ≡ error.TooDeep q = (let a : error.TooDeep p ≡ e = cc in a ∙ of) in cc) ends
deep_cause p e (BadAt q) place left finished ends is of = absurd (let same : error.TooDeep p ≡ error.Bad q = (let a : error.TooDeep p ≡ e = cc in a ∙ of) in cc)
deep_cause p e WholeText place left finished ends is of = absurd of
deep_cause p e PastLimit place left finished ends is of = absurd of

-- a reader's answer
module _ (first : Left) (vs : List Value) (now : FileReading) (left : Left) (has : HasRead first vs now left) where
  abbrev After : Result Item ReadError → State → Type 0
  After r text = HeldOut first vs r (record now { text = text }) left

  same_text : (P : FileReading → Type 0) (text : State) → text ≡ now.text → P now → P (record now { text = text })
  same_text P text same p = subst (λ s. P (record now { text = s })) (sym same) p

  pub held_out : (r : Result Item ReadError) (text : State) → ReadsNext now.text r text → After r text
  held_out (Ok (item.Value v)) text reads = has_more first vs now left has v text reads
  held_out (Ok item.NeedMore) text reads = same_text (λ n. HasRead first vs n left) text reads.same has
  held_out (Ok item.End) text reads = same_text (λ n. EndsSo first vs WholeText n left) text reads.same (ends_whole first vs now left has reads.finished reads.blank)
  held_out (Err (error.Bad p)) text (inl c) = same_text (λ n. EndsSo first vs (BadAt p) n left) text c.1 (ends_bad first vs now left has p (has.refusal (error.Bad p) (BadAt p) c.0 refl))
  held_out (Err (error.Bad p)) text (inr c) =
      let ends : EndsIn now.text.place now.text.left now.text.finished (BadAt p) = (c.1.0, c.1.1, bad_as now.text c.1.0 c.1.2) in
      subst (λ s. EndsSo first vs (BadAt p) (record now { text = s }) left) (sym c.2)
      (ends_bad first vs (record now { text = record now.text { refused = Some (error.Bad p) } }) left
      (has_refused first vs now left has (error.Bad p) (λ e end is of. bad_cause p e end now.text.place now.text.left now.text.finished ends is of)) p ends)
  held_out (Err (error.TooDeep p)) text (inl c) = same_text (λ n. EndsSo first vs (TooDeepAt p) n left) text c.1 (ends_deep first vs now left has p (has.refusal (error.TooDeep p) (TooDeepAt p) c.0 refl))
  held_out (Err (error.TooDeep p)) text (inr c) =
      let ends : EndsIn now.text.place now.text.left now.text.finished (TooDeepAt p) = (c.1.0, c.1.1, deep_as now.text c.1.0 c.1.2) in
      subst (λ s. EndsSo first vs (TooDeepAt p) (record now { text = s }) left) (sym c.2)
      (ends_deep first vs (record now { text = record now.text { refused = Some (error.TooDeep p) } }) left
      (has_refused first vs now left has (error.TooDeep p) (λ e end is of. deep_cause p e end now.text.place now.text.left now.text.finished ends is of)) p ends)
  held_out (Err error.NoMemory) text reads = same_text (λ n. HasRead first vs n left) text reads has

-- what is left of a file whose bytes are known
pub consumed : (left left' : Left) (piece rest : List ℕ) → Consumed left left' piece → left ≡ Some (Some rest) → (now : List ℕ) × (left' ≡ Some (Some now)) × (rest ≡ piece ++ now)
consumed (Some (Some old)) (Some (Some new)) piece rest is known = (new, refl, (let same : rest ≡ old = cc in same) ∙ is)
consumed (Some None) left' piece rest is known = absurd cc
consumed None left' piece rest is known = absurd is
consumed (Some (Some old)) (Some None) piece rest is known = absurd is
consumed (Some (Some old)) None piece rest is known = absurd is

-- what is fetched
module _ (first : Left) (vs : List Value) (now : FileReading) (left left' : Left) (has : HasRead first vs now left) (waits : MayGrow now.text) (unpast : now.past ≡ false) where
  pub has_fetched : (piece : List ℕ) → length piece ≤ now.limit - (now.text.place + length now.text.left) → Consumed left left' piece
      → HasRead first vs (record now { text = record now.text { left = now.text.left ++ piece } }) left'
  has_fetched piece few taken =
      let size : length (now.text.left ++ piece) ≡ length now.text.left + length piece = length-append now.text.left piece in
      let within = has.within in
      record {
        read = has.read;
        items = has.items;
        place = has.place;
        within = omega arith;
        remains = λ bytes known.
            let r = has.remains bytes known in
            let d = consumed left left' piece r.behind taken r.known in
            record {
              beyond = [];
              behind = d.0;
              known = d.1;
              whole = r.whole ∙ (ap (λ bs. (has.read ++ now.text.left) ++ (bs ++ r.behind)) (r.nothing_beyond unpast)
                  ∙ (ap (λ bs. (has.read ++ now.text.left) ++ bs) d.2
                  ∙ (sym (append_assoc (has.read ++ now.text.left) piece d.0) ∙ ap (λ bs. bs ++ d.0) (append_assoc has.read now.text.left piece))));
              nothing_beyond = λ is. refl;
              limit_met = λ past. absurd (false≢true (sym unpast ∙ past));
              end_met = λ finished. absurd (false≢true (sym waits.unfinished ∙ finished));
            };
        refusal = λ e end is of. absurd (let none : None ≡ Some e = sym waits.fresh ∙ is in cc);
      }

  pub has_ended : Consumed left left' [] → IsAtEnd left → HasRead first vs (record now { text = record now.text { finished = true } }) left'
  has_ended taken at_end = record {
    read = has.read;
    items = has.items;
    place = has.place;
    within = has.within;
    remains = λ bytes known.
        let r = has.remains bytes known in
        let d = consumed left left' [] r.behind taken r.known in
        let none : d.0 ≡ [] = sym d.2 ∙ at_end r.behind r.known in
        record {
          beyond = [];
          behind = d.0;
          known = d.1;
          whole = r.whole ∙ (ap (λ bs. (has.read ++ now.text.left) ++ (bs ++ r.behind)) (r.nothing_beyond unpast) ∙ ap (λ bs. (has.read ++ now.text.left) ++ bs) d.2);
          nothing_beyond = λ is. refl;
          limit_met = λ past. absurd (false≢true (sym unpast ∙ past));
          end_met = λ finished. none;
        };
    refusal = λ e end is of. absurd (let none : None ≡ Some e = sym waits.fresh ∙ is in cc);
  }

  -- the limit is met, and the file has more
  pub has_passed : (piece : List ℕ) → 0 < length piece → now.text.place + length now.text.left ≡ now.limit → Consumed left left' piece → HasRead first vs (record now { past = true }) left'
  has_passed piece some met taken = record {
    read = has.read;
    items = has.items;
    place = has.place;
    within = has.within;
    remains = λ bytes known.
        let r = has.remains bytes known in
        let d = consumed left left' piece r.behind taken r.known in
        record {
          beyond = piece;
          behind = d.0;
          known = d.1;
          whole = r.whole ∙ (ap (λ bs. (has.read ++ now.text.left) ++ (bs ++ r.behind)) (r.nothing_beyond unpast) ∙ ap (λ bs. (has.read ++ now.text.left) ++ bs) d.2);
          nothing_beyond = λ is. absurd (false≢true (sym is));
          limit_met = λ past. (some, met);
          end_met = λ finished. absurd (false≢true (sym waits.unfinished ∙ finished));
        };
    refusal = λ e end is of. absurd (let none : None ≡ Some e = sym waits.fresh ∙ is in cc);
  }

-- a piece more than was read lies before a reader that has not met the end
widened : (bytes piece : List ℕ) (vs : List Value) (now : FileReading) → HasRead (Some (Some bytes)) vs now (Some (Some [])) → now.text.finished ≡ false
    → HasRead (Some (Some (bytes ++ piece))) vs now (Some (Some piece))
widened bytes piece vs now has unfinished = record {
  read = has.read;
  items = has.items;
  place = has.place;
  within = has.within;
  remains = λ all known.
      let r = has.remains bytes refl in
      let none : r.behind ≡ [] = sym (same_Some _ _ (same_Some _ _ r.known)) in
      record {
        beyond = r.beyond;
        behind = piece;
        known = refl;
        whole = sym (same_Some _ _ (same_Some _ _ known)) ∙ (ap (λ bs. bs ++ piece) (r.whole ∙ ap (λ bs. (has.read ++ now.text.left) ++ (r.beyond ++ bs)) none ∙ ap (λ bs. (has.read ++ now.text.left) ++ bs) (append-nil r.beyond))
            ∙ append_assoc (has.read ++ now.text.left) r.beyond piece);
        nothing_beyond = r.nothing_beyond;
        limit_met = r.limit_met;
        end_met = λ finished. absurd (false≢true (sym unfinished ∙ finished));
      };
  refusal = has.refusal;
}

-- how much was read where nothing is left
pub read_so_much : (bytes : List ℕ) (vs : List Value) (now : FileReading) → HasRead (Some (Some bytes)) vs now (Some (Some [])) → now.past ≡ false → length bytes ≡ now.text.place + length now.text.left
read_so_much bytes vs now has unpast =
    let r = has.remains bytes refl in
    let none : r.behind ≡ [] = sym (same_Some _ _ (same_Some _ _ r.known)) in
    let whole : bytes ≡ has.read ++ now.text.left = r.whole ∙ (ap (λ bs. (has.read ++ now.text.left) ++ (bs ++ r.behind)) (r.nothing_beyond unpast) ∙ (ap (λ bs. (has.read ++ now.text.left) ++ bs) none ∙ append-nil (has.read ++ now.text.left))) in
    let size : length (has.read ++ now.text.left) ≡ length has.read + length now.text.left = length-append has.read now.text.left in
    let place = has.place in
    ap length whole ∙ omega arith

-- what was read once a piece came
pub more_seen : (before after : Option Seen) (piece : List ℕ) → after ≡ option_map (seen_then piece) before → SeesMore before after
more_seen None after piece is = is
more_seen (Some b) (Some a) piece is = (piece, ap (λ s. s.bytes) (some_is is))
  where
    some_is : {x y : Seen} → Some x ≡ Some y → x ≡ y
    some_is h = cc
more_seen (Some b) None piece is = absurd cc

pub same_seen : (before after : Option Seen) → after ≡ before → SeesMore before after
same_seen None after is = is
same_seen (Some b) (Some a) is = ([], ap (λ s. s.bytes) (some_is is) ∙ sym (append-nil b.bytes))
  where
    some_is : {x y : Seen} → Some x ≡ Some y → x ≡ y
    some_is h = cc
same_seen (Some b) None is = absurd cc

pub more_then : (a b c : Option Seen) → SeesMore a b → SeesMore b c → SeesMore a c
more_then None b c is more = subst (λ o. SeesMore o c) is more
more_then (Some a) (Some b) (Some c) m n = (m.0 ++ n.0, n.1 ∙ (ap (λ bs. bs ++ n.0) m.1 ∙ append_assoc a.bytes m.0 n.0))
more_then (Some a) (Some b) None m n = absurd n
more_then (Some a) None c m n = absurd m

-- a fact of what was read before and behind a piece
by_seen : (before after : Option Seen) (piece : List ℕ) (P Q : Seen → Type 0) → after ≡ option_map (seen_then piece) before → ((s : Seen) → before ≡ Some s → P s)
    → ((s : Seen) → P s → Q (seen_then piece s)) → (s : Seen) → after ≡ Some s → Q s
by_seen None after piece P Q is had then s now = absurd (let h : None ≡ Some s = sym is ∙ now in cc)
by_seen (Some b) after piece P Q is had then s now = subst Q (let h : Some (seen_then piece b) ≡ Some s = sym is ∙ now in cc) (then b (had b refl))

-- what waits begins an item
pub begins_item : (text : State) → Waits text text → BeginsItem text.left
begins_item text waits = (waits.more, waits.v, waits.proper, waits.begun)

-- What was read is the first of what a file shows.
pub first_shown : (first : Left) (vs ws : List Value) (now : FileReading) (left : Left) (bytes : List ℕ) (end : FileEnd) → HasRead first vs now left → first ≡ Some (Some bytes)
    → Shows now.limit bytes ws end → (us : List Value) × (ws ≡ vs ++ us)
first_shown first vs ws now left bytes end has known shows =
    let r = has.remains bytes known in
    let room = now.limit - (now.text.place + length now.text.left) in
    let size : length (has.read ++ now.text.left) ≡ length has.read + length now.text.left = length-append has.read now.text.left in
    let a = has.place in
    let b = has.within in
    let seen : take now.limit bytes ≡ has.read ++ (now.text.left ++ take room (r.beyond ++ r.behind)) =
    looked_at now.limit room bytes (has.read ++ now.text.left) (r.beyond ++ r.behind) r.whole (omega arith) ∙ append_assoc has.read now.text.left (take room (r.beyond ++ r.behind)) in
    first_items has.read (now.text.left ++ take room (r.beyond ++ r.behind)) shows.read shows.left vs ws has.items shows.items
    (end_has_none (length shows.read) shows.left (nat_le (length bytes) now.limit) end shows.ends) (sym seen ∙ shows.seen)

-- a refusal's place is among the bytes that are looked at
module _ (limit : ℕ) (old : State) (within : old.place + length old.left ≤ limit) (refused : IsRefusedWithin limit old.refused) where
  pub placed : (r : Result Item ReadError) (text : State) → ReadsNext old r text → IfErr r (λ e. IsPlaced limit e)
  placed (Ok i) text reads = tt
  placed (Err (error.Bad p)) text (inl c) = subst (IsRefusedWithin limit) c.0 refused
  placed (Err (error.Bad p)) text (inr c) = let at = c.1.1 in let k = c.1.2.within in omega arith
  placed (Err (error.TooDeep p)) text (inl c) = subst (IsRefusedWithin limit) c.0 refused
  placed (Err (error.TooDeep p)) text (inr c) = let at = c.1.1 in let k = c.1.2.within in omega arith
  placed (Err error.NoMemory) text reads = tt

-- `next_held`
pub hands_out : (old : FileReading) (result : Result Item ReadError) (text : State) → IsFedWithin old.text old.limit old.piece → ReadsNext old.text result text
    → text.place + length text.left ≡ old.text.place + length old.text.left → text.finished ≡ old.text.finished → HandsOut result old (record old { text = text })
hands_out old result text fed reads total finished = record {
  text = reads;
  same = refl;
  finished = finished;
  waits = waiting result reads;
  placed = placed old.limit old.text fed.within fed.refused result text reads;
  less = falls result reads;
  goes = λ first left vs has. held_out first vs old left has result text reads;
}
  where
    waiting : (r : Result Item ReadError) → ReadsNext old.text r text → r ≡ Ok item.NeedMore → Waits text text
    waiting (Ok (item.Value v)) w is = absurd cc
    waiting (Ok item.NeedMore) w is = subst (λ t. Waits t t) (sym w.same) (record { fresh = w.fresh; unfinished = w.unfinished; more = w.more; proper = w.proper; v = w.v; begun = w.begun; same = refl })
    waiting (Ok item.End) w is = absurd cc
    waiting (Err e) w is = absurd cc

    falls : (r : Result Item ReadError) → ReadsNext old.text r text → (v : Value) → r ≡ Ok (item.Value v) → to_come (record old { text = text }) < to_come old
    falls (Ok (item.Value w)) gives v is =
        let some = item_size gives.bytes w gives.spells in
        let size : length old.text.left ≡ length gives.bytes + length text.left = ap length gives.front ∙ length-append gives.bytes text.left in
        let same : end_to_come text.finished ≡ end_to_come old.text.finished = ap end_to_come finished in
        let room : old.limit - (text.place + length text.left) ≡ old.limit - (old.text.place + length old.text.left) = ap (λ n. old.limit - n) total in
        omega arith
    falls (Ok item.NeedMore) gives v is = absurd cc
    falls (Ok item.End) gives v is = absurd cc
    falls (Err e) gives v is = absurd cc

-- `fetch_piece`
module _ (old : FileReading) (s t : FilesState) (told : t.told ≡ s.told) (others : OtherFiles old.file s t) (others_seen : OtherSeen old.file s t) (counts : t.faults ≡ s.faults)
    (waits : MayGrow old.text) (unpast : old.past ≡ false) where
  leaves : (r : Result (Unit {0}) FileError) (piece : List ℕ) → Consumed (s.left old.file) (t.left old.file) piece → seen_in t old.file ≡ option_map (seen_then piece) (seen_in s old.file)
      → (IsErrOf r fault.Read → ⊥) → Leaves old.file r s t
  leaves r piece taken seen well = record {
    told = told;
    others = others;
    is_open = still_open (s.left old.file) (t.left old.file) piece taken;
    others_seen = others_seen;
    more = more_seen (seen_in s old.file) (seen_in t old.file) piece seen;
    later = omega (arith, counts);
    well = λ not. counts;
    failed = λ is. absurd (well is);
  }

  -- what a piece makes of what was read
  seen_so : (new : FileReading) (piece : List ℕ) (P : Left → Left → Type 0) (front : List ℕ) (vs : List Value) → seen_in t old.file ≡ option_map (seen_then piece) (seen_in s old.file)
      → ((q : Seen) → HasRead (Some (Some (q.bytes ++ piece))) vs old (Some (Some piece)) → P (Some (Some (q.bytes ++ piece))) (Some (Some [])))
      → ((q : Seen) → length q.bytes ≡ old.text.place + length old.text.left → IsMetBy new (seen_then piece q))
      → AsSeenBehind front (λ first left. HasRead first vs old left) old (seen_in s old.file) → AsSeenBehind front P new (seen_in t old.file)
  seen_so new piece P front vs seen goes meets has = by_seen (seen_in s old.file) (seen_in t old.file) piece
      (λ q. (bytes : List ℕ) × (q.bytes ≡ front ++ bytes) × HasRead (Some (Some bytes)) vs old (Some (Some [])) × IsMetBy old (record q { bytes = bytes }))
      (λ q. (bytes : List ℕ) × (q.bytes ≡ front ++ bytes) × P (Some (Some bytes)) (Some (Some [])) × IsMetBy new (record q { bytes = bytes })) seen has
      (λ q so. (
        so.0 ++ piece,
        ap (λ bs. bs ++ piece) so.1 ∙ append_assoc front so.0 piece,
        goes (record q { bytes = so.0 }) (widened so.0 piece vs old so.2 waits.unfinished),
        meets (record q { bytes = so.0 }) (read_so_much so.0 vs old so.2 unpast),
      ))

  pub fetches_end : Consumed (s.left old.file) (t.left old.file) [] → IsAtEnd (s.left old.file) → seen_in t old.file ≡ option_map (seen_then []) (seen_in s old.file)
      → FetchesPiece (Ok tt) old (record old { text = record old.text { finished = true } }) s t
  fetches_end taken at_end seen = record {
    leaves = leaves (Ok tt) [] taken seen (λ is. cc);
    same = refl;
    kept = tt;
    grows = ([], sym (append-nil old.text.left));
    place = refl;
    fresh = refl;
    placed = tt;
    less = let one : end_to_come old.text.finished ≡ 1 = ap end_to_come waits.unfinished in omega arith;
    goes = λ first vs has. has_ended first vs old (s.left old.file) (t.left old.file) has waits unpast taken at_end;
    sees = λ front vs. seen_so (record old { text = record old.text { finished = true } }) [] (λ first left. HasRead first vs (record old { text = record old.text { finished = true } }) left) front vs seen
        (λ q has. has_ended (Some (Some (q.bytes ++ []))) vs old (Some (Some [])) (Some (Some [])) has waits unpast refl (λ bytes is. cc))
        (λ q size. record { ended = λ finished. refl; passed = λ past. absurd (false≢true (sym unpast ∙ past)) });
  }

  pub fetches_piece : (piece : List ℕ) → 0 < length piece → length piece ≤ old.limit - (old.text.place + length old.text.left) → Consumed (s.left old.file) (t.left old.file) piece
      → seen_in t old.file ≡ option_map (seen_then piece) (seen_in s old.file) → FetchesPiece (Ok tt) old (record old { text = record old.text { left = old.text.left ++ piece } }) s t
  fetches_piece piece some few taken seen =
      let size : length (old.text.left ++ piece) ≡ length old.text.left + length piece = length-append old.text.left piece in
      let new = record old { text = record old.text { left = old.text.left ++ piece } } in
      record {
        leaves = leaves (Ok tt) piece taken seen (λ is. cc);
        same = refl;
        kept = tt;
        grows = (piece, refl);
        place = refl;
        fresh = refl;
        placed = tt;
        less = omega arith;
        goes = λ first vs has. has_fetched first vs old (s.left old.file) (t.left old.file) has waits unpast piece few taken;
        sees = λ front vs. seen_so new piece (λ first left. HasRead first vs new left) front vs seen
            (λ q has. has_fetched (Some (Some (q.bytes ++ piece))) vs old (Some (Some piece)) (Some (Some [])) has waits unpast piece few (sym (append-nil piece)))
            (λ q size. record { ended = λ finished. absurd (false≢true (sym waits.unfinished ∙ finished)); passed = λ past. absurd (false≢true (sym unpast ∙ past)) });
      }

  pub fetches_past : (piece : List ℕ) → length piece ≡ 1 → old.text.place + length old.text.left ≡ old.limit → Consumed (s.left old.file) (t.left old.file) piece
      → seen_in t old.file ≡ option_map (seen_then piece) (seen_in s old.file) → FetchesPiece (Err fault.TooLong) old (record old { past = true }) s t
  fetches_past piece one met taken seen =
      let some : 0 < length piece = omega arith in
      record {
        leaves = leaves (Err fault.TooLong) piece taken seen (λ is. cc);
        same = refl;
        kept = refl;
        grows = ([], sym (append-nil old.text.left));
        place = refl;
        fresh = refl;
        placed = tt;
        less = tt;
        goes = λ first vs has. (has_passed first vs old (s.left old.file) (t.left old.file) has waits unpast piece some met taken, refl);
        sees = λ front vs. seen_so (record old { past = true }) piece (λ first left. FetchedPiece first vs (Err fault.TooLong) (record old { past = true }) left) front vs seen
            (λ q has. (has_passed (Some (Some (q.bytes ++ piece))) vs old (Some (Some piece)) (Some (Some [])) has waits unpast piece some met (sym (append-nil piece)), refl))
            (λ q size. record {
              ended = λ finished. absurd (false≢true (sym waits.unfinished ∙ finished));
              passed = λ past. length-append q.bytes piece ∙ omega (arith, size, one, met);
            });
      }

pub fetches_again : (old : FileReading) (s : FilesState) → IsSome (s.left old.file) → MayGrow old.text → old.past ≡ true → FetchesPiece (Err fault.TooLong) old old s s
fetches_again old s is_open waits past = record {
  leaves = record { told = refl; others = λ k ne. refl; is_open = is_open; others_seen = λ k ne. refl; more = same_seen (seen_in s old.file) (seen_in s old.file) refl; later = omega arith; well = λ not. refl; failed = λ is. absurd cc };
  same = refl;
  kept = refl;
  grows = ([], sym (append-nil old.text.left));
  place = refl;
  fresh = refl;
  placed = tt;
  less = tt;
  goes = λ first vs has. (has, past);
  sees = λ front vs has q is. let so = has q is in (so.0, so.1, (so.2, past), so.3);
}

-- a read that failed, or found no memory, left the reader as it was
abbrev pub IsFaultOf : Stop → FileError → Type 0
IsFaultOf stop.Failed fault.Read = ⊤
IsFaultOf stop.NoMemory fault.NoMemory = ⊤
IsFaultOf e why = ⊥

pub fetches_not : (old : FileReading) (e : Stop) (why : FileError) (s t : FilesState) → t.told ≡ s.told → OtherFiles old.file s t → OtherSeen old.file s t → IsSome (s.left old.file)
    → t.left old.file ≡ s.left old.file → seen_in t old.file ≡ seen_in s old.file → CountsFailed {T = ℕ} (Err e) s.faults t.faults → (IsErrOf {T = ℕ} (Err e) stop.Failed → Rose s.faults t.faults)
    → IsFaultOf e why → FetchesPiece (Err why) old old s t
fetches_not old stop.Failed fault.Read s t told others others_seen is_open left seen counts failed of = record {
  leaves = record {
    told = told;
    others = others;
    is_open = subst IsSome (sym left) is_open;
    others_seen = others_seen;
    more = same_seen (seen_in s old.file) (seen_in t old.file) seen;
    later = counts;
    well = λ not. absurd (not refl);
    failed = λ is. failed refl;
  };
  same = refl;
  kept = refl;
  grows = ([], sym (append-nil old.text.left));
  place = refl;
  fresh = refl;
  placed = tt;
  less = tt;
  goes = λ first vs has. subst (λ l. HasRead first vs old l) (sym left) has;
  sees = λ front vs has q is. has q (sym seen ∙ is);
}
fetches_not old stop.NoMemory fault.NoMemory s t told others others_seen is_open left seen counts failed of = record {
  leaves = record {
    told = told;
    others = others;
    is_open = subst IsSome (sym left) is_open;
    others_seen = others_seen;
    more = same_seen (seen_in s old.file) (seen_in t old.file) seen;
    later = omega (arith, counts);
    well = λ not. counts;
    failed = λ is. absurd cc;
  };
  same = refl;
  kept = refl;
  grows = ([], sym (append-nil old.text.left));
  place = refl;
  fresh = refl;
  placed = tt;
  less = tt;
  goes = λ first vs has. subst (λ l. HasRead first vs old l) (sym left) has;
  sees = λ front vs has q is. has q (sym seen ∙ is);
}
fetches_not old stop.Failed fault.NoMemory s t told others others_seen is_open left seen counts failed of = absurd of
fetches_not old stop.Failed fault.TooLong s t told others others_seen is_open left seen counts failed of = absurd of
fetches_not old stop.Failed (fault.Bad p) s t told others others_seen is_open left seen counts failed of = absurd of
fetches_not old stop.Failed (fault.TooDeep p) s t told others others_seen is_open left seen counts failed of = absurd of
fetches_not old stop.NoMemory fault.Read s t told others others_seen is_open left seen counts failed of = absurd of
fetches_not old stop.NoMemory fault.TooLong s t told others others_seen is_open left seen counts failed of = absurd of
fetches_not old stop.NoMemory (fault.Bad p) s t told others others_seen is_open left seen counts failed of = absurd of
fetches_not old stop.NoMemory (fault.TooDeep p) s t told others others_seen is_open left seen counts failed of = absurd of

-- a piece that was looked for
pub piece_came : (old : FileReading) (most count : ℕ) (left : List ℕ) (s t : FilesState) → FetchesBehind old.file most (Ok count) old.text.left left s t → 0 < count
    → most ≤ old.limit - (old.text.place + length old.text.left) → MayGrow old.text → old.past ≡ false → FetchesPiece (Ok tt) old (record old { text = record old.text { left = left } }) s t
piece_came old most count left s t b some few waits unpast =
    let came = b.came in
    let size = came.2 in
    let within = came.3 in
    subst (λ l. FetchesPiece (Ok tt) old (record old { text = record old.text { left = l } }) s t) (sym came.1)
    (fetches_piece old s t b.told b.others b.others_seen b.counts waits unpast came.0 (omega arith) (omega arith) came.4 came.6)

pub end_came : (old : FileReading) (most count : ℕ) (left : List ℕ) (s t : FilesState) → FetchesBehind old.file most (Ok count) old.text.left left s t → count ≡ 0
    → MayGrow old.text → old.past ≡ false → FetchesPiece (Ok tt) old (record old { text = record old.text { left = left; finished = true } }) s t
end_came old most count left s t b none waits unpast =
    let came = b.came in
    let empty : came.0 ≡ [] = nil_from_length came.0 (came.2 ∙ none) in
    let same : left ≡ old.text.left = came.1 ∙ (ap (λ bs. old.text.left ++ bs) empty ∙ append-nil old.text.left) in
    subst (λ l. FetchesPiece (Ok tt) old (record old { text = record old.text { left = l; finished = true } }) s t) (sym same)
    (fetches_end old s t b.told b.others b.others_seen b.counts waits unpast (subst (λ bs. Consumed (s.left old.file) (t.left old.file) bs) empty came.4) (came.5 none)
    (subst (λ bs. seen_in t old.file ≡ option_map (seen_then bs) (seen_in s old.file)) empty came.6))

-- nothing came
pub none_came : (old view : FileReading) (e : Stop) (why : FileError) (most : ℕ) (text : State) (s t : FilesState) → view ≡ old → FetchesBehind view.file most (Err e) view.text.left text.left s t
    → text ≡ record view.text { left = text.left } → IsSome (s.left old.file) → IsFaultOf e why → FetchesPiece (Err why) old (record view { text = text }) s t
none_came old view e why most text s t same b is is_open of =
    let text_is : text ≡ view.text = is ∙ ap {A = List ℕ} (λ l. record view.text { left = l }) b.came.0 in
    subst (λ r. FetchesPiece (Err why) r (record view { text = text }) s t) same
    (subst (λ x. FetchesPiece (Err why) view (record view { text = x }) s t) (sym text_is)
    (fetches_not view e why s t b.told b.others b.others_seen (subst (λ r. IsSome (s.left r.file)) (sym same) is_open) b.came.1 b.came.2 b.counts b.failed of))

-- the same, where a reader is known by what it is made of
module _ (old view : FileReading) (same : view ≡ old) (s t : FilesState) (waits : MayGrow old.text) (unpast : view.past ≡ false) where
  waiting : MayGrow view.text
  waiting = subst (λ r. MayGrow r.text) (sym same) waits

  pub ended_as : (most count : ℕ) (text text' : State) → FetchesBehind view.file most (Ok count) view.text.left text.left s t → text ≡ record view.text { left = text.left }
      → text' ≡ record text { finished = true } → count ≡ 0 → FetchesPiece (Ok tt) old (record view { text = text' }) s t
  ended_as most count text text' behind is ends none =
      subst (λ r. FetchesPiece (Ok tt) r (record view { text = text' }) s t) same
      (subst (λ x. FetchesPiece (Ok tt) view (record view { text = x }) s t) (sym (ends ∙ ap {A = State} (λ x. record x { finished = true }) is))
      (end_came view most count text.left s t behind none waiting unpast))

  pub came_as : (most count : ℕ) (text : State) → FetchesBehind view.file most (Ok count) view.text.left text.left s t → text ≡ record view.text { left = text.left }
      → 0 < count → most ≤ view.limit - (view.text.place + length view.text.left) → FetchesPiece (Ok tt) old (record view { text = text }) s t
  came_as most count text behind is some few =
      subst (λ r. FetchesPiece (Ok tt) r (record view { text = text }) s t) same
      (subst (λ x. FetchesPiece (Ok tt) view (record view { text = x }) s t) (sym is)
      (piece_came view most count text.left s t behind some few waiting unpast))

  module _ (into : List ℕ) (count : ℕ) (reads : ReadsPiece view.file into (Ok count) s t) where
    pub looked_end : (text : State) → text ≡ record view.text { finished = true } → count ≡ 0 → FetchesPiece (Ok tt) old (record view { text = text }) s t
    looked_end text ends none =
        subst (λ r. FetchesPiece (Ok tt) r (record view { text = text }) s t) same
        (subst (λ x. FetchesPiece (Ok tt) view (record view { text = x }) s t) (sym ends)
        (fetches_end view s t reads.told reads.others reads.others_seen reads.counts waiting unpast
        (subst (λ bs. Consumed (s.left view.file) (t.left view.file) bs) (ap (λ n. take n into) none) reads.bytes) (reads.end none)
        (subst (λ bs. seen_in t view.file ≡ option_map (seen_then bs) (seen_in s view.file)) (ap (λ n. take n into) none) reads.seen)))

    pub looked_past : 0 < count → length into ≡ 1 → old.text.place + length old.text.left ≡ old.limit → FetchesPiece (Err fault.TooLong) old (record view { past = true }) s t
    looked_past some one met =
        let size : length (take count into) ≡ min count (length into) = length-take count into in
        let within = reads.within in
        subst (λ r. FetchesPiece (Err fault.TooLong) r (record view { past = true }) s t) same
        (fetches_past view s t reads.told reads.others reads.others_seen reads.counts waiting unpast (take count into) (size ∙ omega arith)
        (subst (λ r. r.text.place + length r.text.left ≡ r.limit) (sym same) met) reads.bytes reads.seen)

-- `fetch`: where the bytes are less than an item, what was read ends in a limit that is passed
pub fetches_so : (r : Result (Unit {0}) FileError) (old new : FileReading) (s t : FilesState) → Waits old.text old.text → FetchesPiece r old new s t → Fetches r old new s t
fetches_so r old new s t waits f = record {
  leaves = f.leaves;
  same = f.same;
  placed = f.placed;
  less = f.less;
  goes = λ first vs has. so r f.kept first vs (t.left old.file) (f.goes first vs has);
  sees = λ vs has q is.
      let at = f.sees [] vs (λ p was. let now = has p was in (p.bytes, refl, now.0, now.1)) q is in
      subst (λ bs. Fetched (Some (Some bs)) vs r new (Some (Some [])) × IsMetBy new (record q { bytes = bs })) (sym at.1)
      (so r f.kept (Some (Some at.0)) vs (Some (Some [])) at.2, at.3);
}
  where
    so : (x : Result (Unit {0}) FileError) → OnErr x (new.text ≡ old.text) → (first : Left) (vs : List Value) (left : Left) → FetchedPiece first vs x new left → Fetched first vs x new left
    so (Ok done) kept first vs left has = has
    so (Err fault.Read) kept first vs left has = has
    so (Err fault.NoMemory) kept first vs left has = has
    so (Err fault.TooLong) kept first vs left has = ends_past first vs new left has.0 has.1 (subst (λ x. BeginsItem x.left) (sym kept) (begins_item old.text waits))
    so (Err (fault.Bad p)) kept first vs left has = has
    so (Err (fault.TooDeep p)) kept first vs left has = has

-- `next`, up to here: nothing was handed out
pub record Meanwhile (old now : FileReading) (s t : FilesState) : Type 0 where
  pub told : t.told ≡ s.told
  pub others : OtherFiles old.file s t
  pub is_open : IsSome (t.left old.file)
  pub others_seen : OtherSeen old.file s t
  pub more : SeesMore (seen_in s old.file) (seen_in t old.file)
  pub counts : t.faults ≡ s.faults
  pub same : now ≡ record old { text = now.text; past = now.past }
  pub less : to_come now ≤ to_come old
  pub goes : (first : Left) (vs : List Value) → HasRead first vs old (s.left old.file) → HasRead first vs now (t.left old.file)
  pub sees : (vs : List Value) → HasSeen vs old (seen_in s old.file) → HasSeen vs now (seen_in t old.file)

pub no_read : {T : Type 0} {e : FileError} → IsErrOf {T = T} (Err e) fault.Read → e ≡ fault.Read
no_read is = cc

module _ (old now new : FileReading) (s t : FilesState) (far : Meanwhile old now s t) (held : Result Item ReadError) (hands : HandsOut held now new) where
  both_same : new ≡ record old { text = new.text; past = new.past }
  both_same = hands.same ∙ ap {A = FileReading} (λ r. record r { text = new.text }) far.same ∙ ap (λ b. record old { text = new.text; past = b }) (sym (ap (λ r. r.past) hands.same))

  met_by : (q : Seen) → IsMetBy now q → IsMetBy new q
  met_by q met = record {
    ended = λ finished. met.ended (sym hands.finished ∙ finished);
    passed = λ past. met.passed (sym (ap (λ r. r.past) hands.same) ∙ past) ∙ ap (λ n. n + 1) (sym limit_same);
  }
    where
      limit_same : new.limit ≡ now.limit
      limit_same = ap (λ r. r.limit) hands.same

  limit_now : now.limit ≡ old.limit
  limit_now = ap (λ r. r.limit) far.same

  at_place : (p : ℕ) → p ≤ now.limit → p ≤ old.limit
  at_place p within = subst (λ l. p ≤ l) limit_now within

  held_item : (r : Result (Option Value) FileError) → IfErr r (λ e. IsFaultPlaced old.limit e) → (IsErrOf r fault.Read → ⊥) → ((v : Value) → r ≡ Ok (Some v) → held ≡ Ok (item.Value v))
      → ((first left : Left) (vs : List Value) → HeldOut first vs held new left → Stands first vs r new left) → NextItem r old new s t
  held_item r at well value stands = record {
    leaves = record { told = far.told; others = far.others; is_open = far.is_open; others_seen = far.others_seen; more = far.more; later = omega (arith, far.counts); well = λ not. far.counts; failed = λ is. absurd (well is) };
    same = both_same;
    placed = at;
    less = λ v is. let a = hands.less v (value v is) in let b = far.less in omega arith;
    goes = λ first vs has. stands first (t.left old.file) vs (hands.goes first (t.left old.file) vs (far.goes first vs has));
    sees = λ vs has q is. let so = far.sees vs has q is in (stands (Some (Some q.bytes)) (Some (Some [])) vs (hands.goes (Some (Some q.bytes)) (Some (Some [])) vs so.0), met_by q so.1);
  }

  pub next_value : (v : Value) → held ≡ Ok (item.Value v) → NextItem (Ok (Some v)) old new s t
  next_value v is = held_item (Ok (Some v)) tt (λ e. cc) (λ w e. is ∙ ap (λ x. Ok (item.Value x)) (let same : v ≡ w = cc in same)) (λ first left vs h. subst (λ r. HeldOut first vs r new left) is h)

  pub next_wanting : held ≡ Err error.NoMemory → NextItem (Err fault.NoMemory) old new s t
  next_wanting is = held_item (Err fault.NoMemory) tt (λ e. cc) (λ w e. absurd cc) (λ first left vs h. subst (λ r. HeldOut first vs r new left) is h)

  pub next_end : held ≡ Ok item.End → NextItem (Ok None) old new s t
  next_end is = held_item (Ok None) tt (λ e. cc) (λ w e. absurd cc) (λ first left vs h. subst (λ r. HeldOut first vs r new left) is h)

  pub next_bad : (p : ℕ) → held ≡ Err (error.Bad p) → NextItem (Err (fault.Bad p)) old new s t
  next_bad p is = held_item (Err (fault.Bad p)) (at_place p (subst (λ r. IfErr r (λ e. IsPlaced now.limit e)) is hands.placed)) (λ e. cc) (λ w e. absurd cc) (λ first left vs h. subst (λ r. HeldOut first vs r new left) is h)

  pub next_deep : (p : ℕ) → held ≡ Err (error.TooDeep p) → NextItem (Err (fault.TooDeep p)) old new s t
  next_deep p is = held_item (Err (fault.TooDeep p)) (at_place p (subst (λ r. IfErr r (λ e. IsPlaced now.limit e)) is hands.placed)) (λ e. cc) (λ w e. absurd cc) (λ first left vs h. subst (λ r. HeldOut first vs r new left) is h)

  -- a piece was fetched meanwhile
  module _ (is : held ≡ Ok item.NeedMore) (next : FileReading) (u : FilesState) where
    now_file : now.file ≡ old.file
    now_file = ap (λ r. r.file) far.same

    new_file : new.file ≡ old.file
    new_file = ap (λ r. r.file) hands.same ∙ now_file

    pub next_fault : (e : FileError) → Fetches (Err e) new next t u → NextItem (Err e) old next s u
    next_fault e fetches =
        let fetch = subst (λ f. Leaves {T = Unit {0}} f (Err e) t u) new_file fetches.leaves in
        record {
          leaves = record {
            told = fetch.told ∙ far.told;
            others = λ k ne. fetch.others k ne ∙ far.others k ne;
            is_open = fetch.is_open;
            others_seen = λ k ne. fetch.others_seen k ne ∙ far.others_seen k ne;
            more = more_then (seen_in s old.file) (seen_in t old.file) (seen_in u old.file) far.more fetch.more;
            later = let a = far.counts in let b = fetch.later in omega arith;
            well = λ not. fetch.well (λ bad. not (ap Err (no_read bad))) ∙ far.counts;
            failed = λ bad. let a = far.counts in let b = fetch.failed (cc_err bad) in omega arith;
          };
          same = fetches.same ∙ ap {A = FileReading} (λ r. record r { text = next.text; past = next.past }) both_same;
          placed = subst (λ l. IsFaultPlaced l e) (ap (λ r. r.limit) both_same) fetches.placed;
          less = λ v bad. absurd cc;
          goes = λ first vs has. stood e fetches first vs (held_more first vs has);
          sees = λ vs has q now. let so = subst (λ n. AsSeen (λ first left. Fetched first vs (Err e) next left) next (seen_in u n)) new_file (fetches.sees vs (seen_more vs has)) q now in (stood_as e next (Some (Some q.bytes)) (Some (Some [])) vs so.0, so.1);
        }
      where
        seen_more : (vs : List Value) → HasSeen vs old (seen_in s old.file) → HasSeen vs new (seen_in t new.file)
        seen_more vs has = subst (λ n. HasSeen vs new (seen_in t n)) (sym new_file)
            (λ q is_now. let so = far.sees vs has q is_now in (subst (λ r. HeldOut (Some (Some q.bytes)) vs r new (Some (Some []))) is (hands.goes (Some (Some q.bytes)) (Some (Some [])) vs so.0), met_by q so.1))

        stood_as : (d : FileError) (n : FileReading) (first left : Left) (vs : List Value) → Fetched first vs (Err d) n left → Stands first vs (Err d) n left
        stood_as fault.Read n first left vs h = h
        stood_as fault.NoMemory n first left vs h = h
        stood_as fault.TooLong n first left vs h = h
        stood_as (fault.Bad p) n first left vs h = absurd h
        stood_as (fault.TooDeep p) n first left vs h = absurd h

        cc_err : IsErrOf {T = Option Value} (Err e) fault.Read → IsErrOf {T = Unit {0}} (Err e) fault.Read
        cc_err bad = ap Err (no_read bad)

        held_more : (first : Left) (vs : List Value) → HasRead first vs old (s.left old.file) → HasRead first vs new (t.left new.file)
        held_more first vs has = subst (λ f. HasRead first vs new (t.left f)) (sym new_file) (subst (λ r. HeldOut first vs r new (t.left old.file)) is (hands.goes first (t.left old.file) vs (far.goes first vs has)))

        stood : (d : FileError) → Fetches (Err d) new next t u → (first : Left) (vs : List Value) → HasRead first vs new (t.left new.file) → Stands first vs (Err d) next (u.left old.file)
        stood fault.Read f first vs has = subst (λ n. HasRead first vs next (u.left n)) new_file (f.goes first vs has)
        stood fault.NoMemory f first vs has = subst (λ n. HasRead first vs next (u.left n)) new_file (f.goes first vs has)
        stood fault.TooLong f first vs has = subst (λ n. EndsSo first vs PastLimit next (u.left n)) new_file (f.goes first vs has)
        stood (fault.Bad p) f first vs has = absurd (f.goes first vs has)
        stood (fault.TooDeep p) f first vs has = absurd (f.goes first vs has)

    -- a piece more was fetched, and nothing was handed out
    pub goes_on : Fetches (Ok tt) new next t u → Meanwhile old next s u
    goes_on fetches =
        let fetch = subst (λ f. Leaves {T = Unit {0}} f (Ok tt) t u) new_file fetches.leaves in
        record {
          told = fetch.told ∙ far.told;
          others = λ k ne. fetch.others k ne ∙ far.others k ne;
          is_open = fetch.is_open;
          others_seen = λ k ne. fetch.others_seen k ne ∙ far.others_seen k ne;
          more = more_then (seen_in s old.file) (seen_in t old.file) (seen_in u old.file) far.more fetch.more;
          counts = fetch.well (λ bad. cc) ∙ far.counts;
          same = fetches.same ∙ ap {A = FileReading} (λ r. record r { text = next.text; past = next.past }) both_same;
          less = let a = far.less in let b = fetches.less in let c = held_less in omega arith;
          goes = λ first vs has. subst (λ f. HasRead first vs next (u.left f)) new_file (fetches.goes first vs (subst (λ f. HasRead first vs new (t.left f)) (sym new_file)
              (subst (λ r. HeldOut first vs r new (t.left old.file)) is (hands.goes first (t.left old.file) vs (far.goes first vs has)))));
          sees = λ vs has. subst (λ f. HasSeen vs next (seen_in u f)) new_file (fetches.sees vs (subst (λ f. HasSeen vs new (seen_in t f)) (sym new_file)
              (λ q is_now. let so = far.sees vs has q is_now in (subst (λ r. HeldOut (Some (Some q.bytes)) vs r new (Some (Some []))) is (hands.goes (Some (Some q.bytes)) (Some (Some [])) vs so.0), met_by q so.1))));
        }
      where
        held_less : to_come new ≤ to_come now
        held_less =
            let w : Waits now.text new.text = subst (λ r. ReadsNext now.text r new.text) is hands.text in
            let same_as : new ≡ now = hands.same ∙ ap {A = State} (λ x. record now { text = x }) w.same in
            let same_come : to_come new ≡ to_come now = ap to_come same_as in
            omega arith
