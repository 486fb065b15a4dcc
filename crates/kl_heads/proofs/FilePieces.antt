-- A piece more of a file, and reading on until an answer comes.
use Rattle.std.proofs.Common.{◌≡◌, ℕ, ◌+◌, ◌≤◌, true, false, List, [], ◌++◌, length, Option, Some, None, Result, Ok, Err, IsErrOf, IsSome, refl, sym, ap, subst, ◌∙◌, arith, append_assoc, length-append}
use Rattle.std.specs.Prelude.{OnErr}
use Rattle.std.proofs.lemmas.Bool.{false≢true}
use Rattle.std.proofs.lemmas.Option.{same_Some}
use Rattle.kl_value.specs.declared.Value.{Value}
use Rattle.kl_type.specs.declared.ground.Ty.{Ty}
use Rattle.kl_outside.specs.Files.{FilesState, OtherFiles, OtherSeen, Seen, seen_in}
use Rattle.kl_exchange.specs.FileItems.{BeginsItem, PastLimit}
use Rattle.kl_exchange.specs.FileReading.{FileReading, FetchesPiece, FetchedPiece, Left, Leaves, SeesMore, IsMetBy as IsMetByItems, HasRead as HasReadItems, to_come}
use Rattle.kl_exchange.specs.declared.Item.{Item as AnItem}
use Rattle.kl_exchange.specs.declared.Item.TheVariants as plain
use Rattle.kl_exchange.specs.declared.FileError.{FileError}
use Rattle.kl_exchange.specs.declared.FileError.TheVariants as fault
use Rattle.kl_exchange.specs.declared.ReadError.{ReadError}
use Rattle.kl_exchange.specs.declared.ReadError.TheVariants as error
use Rattle.kl_exchange.proofs.FileReading.{begins_item, ends_past, more_then, no_read}
use Rattle.kl_heads.specs.FileReading.{HeadedFile, HasOpened, HasRead, Behind, IsMetBy, AsSeen, MayFetch, FetchedFirst, FetchedMore, FetchesMore, AnswersHead, Answers, HandsItem, HeldItem, IsBegun, LooksAt, Opens, Stands, ReadsHead, NextItem, SameFile, fault_of}
use Rattle.kl_heads.specs.Files.{BeginsNext}
use Rattle.kl_heads.specs.Fronts.{HasTaken}
use Rattle.kl_heads.specs.Texts.{IsHeadless, StaysHeadless}
use Rattle.kl_heads.specs.declared.front.Front.{Front}
use Rattle.kl_heads.specs.declared.front.Look.{Look}
use Rattle.kl_heads.specs.declared.front.Look.TheVariants as look
use Rattle.kl_heads.proofs.FileReading.{past_first, ends_file, is_true}
use Rattle.kl_heads.proofs.FileItems.{with_items}
use Rattle.kl_heads.proofs.TextReading.{taken_more}

-- what was known before is known of the one that is there
seen_before : (before after : Option Seen) (q : Seen) → SeesMore before after → after ≡ Some q → (p : Seen) × (before ≡ Some p)
seen_before None after q more is = absurd (let no : None ≡ Some q = sym more ∙ is in cc)
seen_before (Some p) after q more is = (p, refl)

-- ---- a piece

module _ (r : Result (Unit {0}) FileError) (old : HeadedFile) (items : FileReading) (s t : FilesState) (may : MayFetch old) (fetches : FetchesPiece r old.items items s t) where
  abbrev new : HeadedFile
  new = with_items old items

  -- no head comes in what was fetched either
  grown_headless : StaysHeadless old.items.text.finished old.items.text.left → StaysHeadless items.text.finished items.text.left
  grown_headless headless more none =
      subst (λ bs. IsHeadless bs) (sym (ap (λ bs. bs ++ more) fetches.grows.1 ∙ append_assoc old.items.text.left fetches.grows.0 more))
      (headless (fetches.grows.0 ++ more) (λ t. absurd (false≢true (sym may.grows.unfinished ∙ is_true old.items.text.finished t))))

  first_so : (x : Result (Unit {0}) FileError) → OnErr x (items.text ≡ old.items.text) → old.front ≡ true → old.head ≡ 0 → old.refused ≡ None
      → (first left : Left) → FetchedPiece first [] x items left → FetchedFirst first x new left
  first_so (Ok done) kept front none fresh first left has = record { unknown = front; size = none; fresh = fresh; items = has }
  first_so (Err fault.Read) kept front none fresh first left has = record { unknown = front; size = none; fresh = fresh; items = has }
  first_so (Err fault.NoMemory) kept front none fresh first left has = record { unknown = front; size = none; fresh = fresh; items = has }
  first_so (Err fault.TooLong) kept front none fresh first left has =
      let opened : HasOpened first new left = record { unknown = front; size = none; fresh = fresh; items = has.0 } in
      (opened, λ bytes is. past_first first new left opened bytes is has.1 (subst (λ text. BeginsNext true text.left) (sym kept) (may.begun front)))
  first_so (Err (fault.Bad p)) kept front none fresh first left has = absurd has
  first_so (Err (fault.TooDeep p)) kept front none fresh first left has = absurd has

  -- of a file that begins otherwise, the head is the same
  module _ (head : Option Ty) (vs : List Value) (first' left' : Left) (has : HasRead first' head vs old left') where
    more_at : (first rest left : Left) → Behind has.front first rest → HasReadItems rest vs items left → HasRead first head vs new left
    more_at first rest left behind read = record {
      known = has.known;
      front = has.front;
      states = has.states;
      size = has.size;
      headless = λ is. grown_headless (has.headless is);
      rest = rest;
      behind = behind;
      items = read;
    }

    more_so : (x : Result (Unit {0}) FileError) → OnErr x (items.text ≡ old.items.text) → (first rest left : Left) → Behind has.front first rest
        → FetchedPiece rest vs x items left → FetchedMore first head vs x new left
    unfolding more_at
    more_so (Ok done) kept first rest left behind read = more_at first rest left behind read
    more_so (Err fault.Read) kept first rest left behind read = more_at first rest left behind read
    more_so (Err fault.NoMemory) kept first rest left behind read = more_at first rest left behind read
    more_so (Err fault.TooLong) kept first rest left behind read =
        let at = more_at first rest left behind read.0 in
        let begun = begins_item old.items.text (may.waits has.known) in
        (at, ends_file first head vs new left at PastLimit (ends_past rest vs items left read.0 read.1 (subst (λ text. BeginsItem text.left) (sym kept) begun)) (λ is. read.1))
    more_so (Err (fault.Bad p)) kept first rest left behind read = absurd read
    more_so (Err (fault.TooDeep p)) kept first rest left behind read = absurd read

  -- `fetch`
  pub fetches_more : FetchesMore r old new s t
  fetches_more = record {
    items = fetches;
    same = refl;
    first = λ first opened. first_so r fetches.kept opened.unknown opened.size opened.fresh first (t.left old.items.file) (fetches.goes first [] opened.items);
    goes = λ first head vs has. more_so head vs first (s.left old.items.file) has r fetches.kept first has.rest (t.left old.items.file) has.behind (fetches.goes has.rest vs has.items);
  }

  met_first : old.head ≡ 0 → (q : Seen) → IsMetByItems items q → IsMetBy new q
  met_first none q met = record { ended = met.ended; passed = λ past. met.passed past ∙ ap (λ n. n + 1) (let z = none in omega arith) }

  pub sees_first : AsSeen (λ first left. HasOpened first old left) old (seen_in s old.items.file) → AsSeen (λ first left. FetchedFirst first r new left) new (seen_in t old.items.file)
  sees_first has q is =
      let b = seen_before (seen_in s old.items.file) (seen_in t old.items.file) q fetches.leaves.more is in
      let o = (has b.0 b.1).0 in
      let at = fetches.sees [] [] (λ p was. let h = has p was in (
        p.bytes,
        refl,
        h.0.items,
        record {
          ended = h.1.ended;
          passed = λ past. h.1.passed past ∙ ap (λ n. n + 1) (let z = h.0.size in omega arith);
        },
      )) q is in
      let so = first_so r fetches.kept o.unknown o.size o.fresh (Some (Some at.0)) (Some (Some [])) at.2 in
      subst (λ bs. FetchedFirst (Some (Some bs)) r new (Some (Some [])) × IsMetBy new (record q { bytes = bs })) (sym at.1) (so, met_first o.size (record q { bytes = at.0 }) at.3)

  abbrev SeesBehind : List ℕ → List Value → Seen → Type 0
  SeesBehind front vs p = (bytes : List ℕ) × (p.bytes ≡ front ++ bytes) × HasReadItems (Some (Some bytes)) vs old.items (Some (Some [])) × IsMetByItems old.items (record p { bytes = bytes })

  pub sees_more : (head : Option Ty) (vs : List Value) → AsSeen (λ first left. HasRead first head vs old left) old (seen_in s old.items.file)
      → AsSeen (λ first left. FetchedMore first head vs r new left) new (seen_in t old.items.file)
  sees_more head vs has q is =
      let b = seen_before (seen_in s old.items.file) (seen_in t old.items.file) q fetches.leaves.more is in
      let h = (has b.0 b.1).0 in
      let at = fetches.sees h.front vs (λ p was. subst (SeesBehind h.front vs) (same_Some _ _ (sym b.1 ∙ was)) (here b.0 h (has b.0 b.1).1)) q is in
      let so = more_so head vs (Some (Some b.0.bytes)) (Some (Some [])) h r fetches.kept (Some (Some (h.front ++ at.0))) (Some (Some at.0)) (Some (Some [])) (at.0, refl, refl) at.2 in
      subst (λ bs. FetchedMore (Some (Some bs)) head vs r new (Some (Some [])) × IsMetBy new (record q { bytes = bs })) (sym at.1)
      (so, record { ended = at.3.ended; passed = λ past. length-append h.front at.0 ∙ (ap (λ n. length h.front + n) (at.3.passed past) ∙ (let z = h.size in omega arith)) })
    where
      here : (p : Seen) (h : HasRead (Some (Some p.bytes)) head vs old (Some (Some []))) → IsMetBy old p → SeesBehind h.front vs p
      here p h met =
          let w = h.behind in
          let size : length p.bytes ≡ length h.front + length w.0 = ap length w.1 ∙ length-append h.front w.0 in (
            w.0,
            w.1,
            subst (λ rest. HasReadItems rest vs old.items (Some (Some []))) w.2 h.items,
            record {
              ended = met.ended;
              passed = λ past. let a = met.passed past in let z = h.size in omega arith;
            },
          )

-- what stays true of a reader that fetched a piece
pub begun_grows : (front : Option Front) (head : ℕ) (items items' : FileReading) (refused : Option ReadError) (r : Result (Unit {0}) FileError) (s t : FilesState) → IsBegun front head items refused
    → FetchesPiece r items items' s t → IsBegun front head items' refused
begun_grows front head items items' refused r s t begun f = record {
  room = let limit : items'.limit ≡ items.limit = ap (λ i. i.limit) f.same in let room = begun.room in omega arith;
  before = λ g is no. let b = begun.before g is no in record {
    first_answer = b.first_answer;
    none_read = let place = f.place in let none = b.none_read in omega arith;
    fresh = f.fresh ∙ b.fresh;
    taken = subst (λ bs. HasTaken bs g.scanned g.machine) (sym f.grows.1) (taken_more items.text.left f.grows.0 g.scanned g.machine b.taken);
  };
  behind = begun.behind;
}

-- ---- up to an answer

-- A file was read on by pieces, and nothing was answered. What stood of it in the sense of P stands.
pub record Meanwhile (I : Type 0) (P : I → Left → HeadedFile → Left → Type 0) (old now : HeadedFile) (s t : FilesState) : Type 0 where
  pub told : t.told ≡ s.told
  pub others : OtherFiles old.items.file s t
  pub is_open : IsSome (t.left old.items.file)
  pub others_seen : OtherSeen old.items.file s t
  pub more : SeesMore (seen_in s old.items.file) (seen_in t old.items.file)
  pub counts : t.faults ≡ s.faults
  pub same : SameFile old now
  pub front : now.front ≡ old.front
  pub less : to_come now.items ≤ to_come old.items
  pub goes : (i : I) (first : Left) → P i first old (s.left old.items.file) → P i first now (t.left old.items.file)
  pub sees : (i : I) → AsSeen (λ first left. P i first old left) old (seen_in s old.items.file) → AsSeen (λ first left. P i first now left) now (seen_in t old.items.file)

then_same : (old now next : HeadedFile) → SameFile old now → SameFile now next → SameFile old next
then_same old now next a b = record { file = b.file ∙ a.file; piece = b.piece ∙ a.piece; limit = b.limit ∙ a.limit }

-- an answer that reads no file meets what was met
met_still : (now next : HeadedFile) (q : Seen) → SameFile now next → next.items.text.finished ≡ now.items.text.finished → next.items.past ≡ now.items.past → IsMetBy now q → IsMetBy next q
met_still now next q same finished past met = record {
  ended = λ is. met.ended (sym finished ∙ is);
  passed = λ is. met.passed (sym past ∙ is) ∙ ap (λ n. n + 1) (sym same.limit);
}

module _ (I : Type 0) (P : I → Left → HeadedFile → Left → Type 0) (old now : HeadedFile) (s t : FilesState) (far : Meanwhile I P old now s t) where
  -- an answer was found among what was fetched
  module _ {T : Type 0} (result : Result T FileError) (well : IsErrOf result fault.Read → ⊥) where
    pub leaves_now : Leaves old.items.file result s t
    leaves_now = record { told = far.told; others = far.others; is_open = far.is_open; others_seen = far.others_seen; more = far.more; later = omega (arith, far.counts); well = λ not. far.counts; failed = λ is. absurd (well is) }

  -- none was, and a piece was fetched
  module _ (mid next : HeadedFile) (u : FilesState) (same : SameFile now mid) where
    file_is : mid.items.file ≡ old.items.file
    file_is = same.file ∙ far.same.file

    pub leaves_then : {T : Type 0} (e : FileError) → Leaves {T = Unit {0}} mid.items.file (Err e) t u → Leaves {T = T} old.items.file (Err e) s u
    leaves_then {T} e left =
        let fetch = subst (λ f. Leaves {T = Unit {0}} f (Err e) t u) file_is left in
        record {
          told = fetch.told ∙ far.told;
          others = λ k ne. fetch.others k ne ∙ far.others k ne;
          is_open = fetch.is_open;
          others_seen = λ k ne. fetch.others_seen k ne ∙ far.others_seen k ne;
          more = more_then (seen_in s old.items.file) (seen_in t old.items.file) (seen_in u old.items.file) far.more fetch.more;
          later = let a = far.counts in let b = fetch.later in omega arith;
          well = λ not. fetch.well (λ bad. not (ap Err (no_read bad))) ∙ far.counts;
          failed = λ bad. let a = far.counts in let b = fetch.failed (ap Err (no_read bad)) in omega arith;
        }

    pub reads_on : FetchesMore (Ok tt) mid next t u → mid.front ≡ now.front → to_come mid.items ≤ to_come now.items
        → ((i : I) (first left : Left) → P i first now left → P i first mid left)
        → ((i : I) (first : Left) → P i first mid (t.left mid.items.file) → P i first next (u.left mid.items.file))
        → ((i : I) → AsSeen (λ first left. P i first mid left) mid (seen_in t mid.items.file) → AsSeen (λ first left. P i first next left) next (seen_in u mid.items.file))
        → mid.items.text.finished ≡ now.items.text.finished → mid.items.past ≡ now.items.past → Meanwhile I P old next s u
    reads_on fetches front less keeps goes sees finished past =
        let fetch = subst (λ f. Leaves {T = Unit {0}} f (Ok tt) t u) file_is fetches.items.leaves in
        record {
          told = fetch.told ∙ far.told;
          others = λ k ne. fetch.others k ne ∙ far.others k ne;
          is_open = fetch.is_open;
          others_seen = λ k ne. fetch.others_seen k ne ∙ far.others_seen k ne;
          more = more_then (seen_in s old.items.file) (seen_in t old.items.file) (seen_in u old.items.file) far.more fetch.more;
          counts = fetch.well (λ bad. cc) ∙ far.counts;
          same = then_same old mid next (then_same old now mid far.same same) fetched_same;
          front = ap (λ r. r.front) fetches.same ∙ (front ∙ far.front);
          less = let a = far.less in let b = fetches.items.less in let c = less in omega arith;
          goes = λ i first has. subst (λ f. P i first next (u.left f)) file_is (goes i first (subst (λ f. P i first mid (t.left f)) (sym file_is) (keeps i first (t.left old.items.file) (far.goes i first has))));
          sees = λ i has. subst (λ f. AsSeen (λ first left. P i first next left) next (seen_in u f)) file_is
              (sees i (subst (λ f. AsSeen (λ first left. P i first mid left) mid (seen_in t f)) (sym file_is)
              (λ q is. let h = far.sees i has q is in (keeps i (Some (Some q.bytes)) (Some (Some [])) h.0, met_still now mid q same finished past h.1))));
        }
      where
        fetched_same : SameFile mid next
        fetched_same = record {
          file = ap (λ r. r.file) fetches.items.same;
          piece = ap (λ r. r.piece) fetches.items.same;
          limit = let h : next.head ≡ mid.head = ap (λ r. r.head) fetches.same in let l : next.items.limit ≡ mid.items.limit = ap (λ r. r.limit) fetches.items.same in omega arith;
        }

    pub fetched_file : (x : Result (Unit {0}) FileError) → FetchesMore x mid next t u → SameFile old next
    fetched_file x fetches = then_same old mid next (then_same old now mid far.same same) (record {
      file = ap (λ r. r.file) fetches.items.same;
      piece = ap (λ r. r.piece) fetches.items.same;
      limit = let h : next.head ≡ mid.head = ap (λ r. r.head) fetches.same in let l : next.items.limit ≡ mid.items.limit = ap (λ r. r.limit) fetches.items.same in omega arith;
    })

-- ---- `head`

abbrev pub opened_at : (i : Unit {0}) → Left → HeadedFile → Left → Type 0
opened_at i first now left = HasOpened first now left

abbrev pub ReadingHead : HeadedFile → HeadedFile → FilesState → FilesState → Type 0
ReadingHead old now s t = Meanwhile (Unit {0}) opened_at old now s t

kept_parts : (r : Result Look ReadError) (old next : HeadedFile) → Answers r old next → (next.items.text.finished ≡ old.items.text.finished) × (next.items.past ≡ old.items.past)
kept_parts (Ok (look.Head t n)) old next a = (ap (λ i. i.text.finished) a.3, ap (λ i. i.past) a.3)
kept_parts (Ok look.Items) old next a = (ap (λ r. r.items.text.finished) a, ap (λ r. r.items.past) a)
kept_parts (Ok look.Unknown) old next a = (ap (λ r. r.items.text.finished) a.2, ap (λ r. r.items.past) a.2)
kept_parts (Err (error.Bad p)) old next a = (ap (λ r. r.items.text.finished) a.1, ap (λ r. r.items.past) a.1)
kept_parts (Err (error.TooDeep p)) old next a = (ap (λ r. r.items.text.finished) a.1, ap (λ r. r.items.past) a.1)
kept_parts (Err error.NoMemory) old next a = (ap (λ r. r.items.text.finished) a.1, ap (λ r. r.items.past) a.1)

module _ (old now mid : HeadedFile) (s t : FilesState) (far : ReadingHead old now s t) (looked : Result Look ReadError) (a : AnswersHead looked now mid) where
  found : (result : Result (Option Ty) FileError) → (IsErrOf result fault.Read → ⊥) → ((first left : Left) → LooksAt first looked mid left → Opens first result mid left) → ReadsHead result old mid s t
  found result well opens = record {
    leaves = leaves_now (Unit {0}) opened_at old now s t far result well;
    same = then_same old now mid far.same a.same;
    goes = λ first opened. opens first (t.left old.items.file) (a.goes first (t.left old.items.file) (far.goes tt first opened));
    sees = λ has q is.
        let h = far.sees tt has q is in
        let k = kept_parts looked now mid a.answers in
        (opens (Some (Some q.bytes)) (Some (Some [])) (a.goes (Some (Some q.bytes)) (Some (Some [])) h.0), met_still now mid q a.same k.0 k.1 h.1);
  }

  pub head_here : (ty : Ty) (n : ℕ) → looked ≡ Ok (look.Head ty n) → ReadsHead (Ok (Some ty)) old mid s t
  head_here ty n is = found (Ok (Some ty)) (λ e. cc) (λ first left h. subst (λ r. LooksAt first r mid left) is h)

  pub items_here : looked ≡ Ok look.Items → ReadsHead (Ok None) old mid s t
  items_here is = found (Ok None) (λ e. cc) (λ first left h. subst (λ r. LooksAt first r mid left) is h)

  pub refused_here : (e : ReadError) → looked ≡ Err e → ReadsHead (Err (fault_of e)) old mid s t
  refused_here (error.Bad p) is = found (Err (fault.Bad p)) (λ e. cc) (λ first left h. subst (λ r. LooksAt first r mid left) is h)
  refused_here (error.TooDeep p) is = found (Err (fault.TooDeep p)) (λ e. cc) (λ first left h. subst (λ r. LooksAt first r mid left) is h)
  refused_here error.NoMemory is = found (Err fault.NoMemory) (λ e. cc) (λ first left h. subst (λ r. LooksAt first r mid left) is h)

  pub refused_as : (e : ReadError) (why : FileError) → why ≡ fault_of e → looked ≡ Err e → ReadsHead (Err why) old mid s t
  refused_as e why of is = subst (λ d. ReadsHead (Err d) old mid s t) (sym of) (refused_here e is)

  module _ (is : looked ≡ Ok look.Unknown) (next : HeadedFile) (u : FilesState) where
    unknown : (now.front ≡ true) × MayFetch now × (mid ≡ now)
    unknown = subst (λ r. Answers r now mid) is a.answers

    pub may_fetch : MayFetch mid
    may_fetch = subst MayFetch (sym unknown.2) unknown.1

    parts : (mid.items.text.finished ≡ now.items.text.finished) × (mid.items.past ≡ now.items.past)
    parts = kept_parts looked now mid a.answers

    opened_mid : (first left : Left) → HasOpened first now left → HasOpened first mid left
    opened_mid first left opened = subst (λ r. HasOpened first r left) (sym unknown.2) opened

    seen_next : (x : Result (Unit {0}) FileError) → FetchesMore x mid next t u → AsSeen (λ first left. HasOpened first mid left) mid (seen_in t mid.items.file)
        → AsSeen (λ first left. FetchedFirst first x next left) next (seen_in u mid.items.file)
    seen_next x fetches has = subst (λ n. AsSeen (λ first left. FetchedFirst first x n left) n (seen_in u mid.items.file)) (sym fetches.same) (sees_first x mid next.items t u may_fetch fetches.items has)

    pub head_goes_on : FetchesMore (Ok tt) mid next t u → ReadingHead old next s u
    head_goes_on fetches = reads_on (Unit {0}) opened_at old now s t far mid next u a.same fetches (ap (λ r. r.front) unknown.2) (let e : to_come mid.items ≡ to_come now.items = ap (λ r. to_come r.items) unknown.2 in omega arith)
        (λ i first left opened. opened_mid first left opened) (λ i first opened. fetches.first first opened) (λ i has. seen_next (Ok tt) fetches has) parts.0 parts.1

    pub head_fault : (e : FileError) → FetchesMore (Err e) mid next t u → ReadsHead (Err e) old next s u
    head_fault e fetches =
        let file = file_is (Unit {0}) opened_at old now s t far mid next u a.same in
        record {
          leaves = leaves_then (Unit {0}) opened_at old now s t far mid next u a.same e fetches.items.leaves;
          same = fetched_file (Unit {0}) opened_at old now s t far mid next u a.same (Err e) fetches;
          goes = λ first opened. opens e first (u.left old.items.file) (subst (λ f. FetchedFirst first (Err e) next (u.left f)) file
              (fetches.first first (subst (λ f. HasOpened first mid (t.left f)) (sym file) (opened_mid first (t.left old.items.file) (far.goes tt first opened)))));
          sees = λ has q now_seen.
              let h = subst (λ f. AsSeen (λ first left. FetchedFirst first (Err e) next left) next (seen_in u f)) file (seen_next (Err e) fetches
              (subst (λ f. AsSeen (λ first left. HasOpened first mid left) mid (seen_in t f)) (sym file)
              (λ p was. let o = far.sees tt has p was in (opened_mid (Some (Some p.bytes)) (Some (Some [])) o.0, met_still now mid p a.same parts.0 parts.1 o.1)))) q now_seen in
              (opens e (Some (Some q.bytes)) (Some (Some [])) h.0, h.1);
        }
      where
        opens : (d : FileError) (first left : Left) → FetchedFirst first (Err d) next left → Opens first (Err d) next left
        opens fault.Read first left h = h
        opens fault.NoMemory first left h = h
        opens fault.TooLong first left h = h.1
        opens (fault.Bad p) first left h = absurd h
        opens (fault.TooDeep p) first left h = absurd h

-- ---- `next`

abbrev pub read_at : Option Ty × List Value → Left → HeadedFile → Left → Type 0
read_at i first now left = HasRead first i.0 i.1 now left

abbrev pub ReadingItem : HeadedFile → HeadedFile → FilesState → FilesState → Type 0
ReadingItem old now s t = Meanwhile (Option Ty × List Value) read_at old now s t

module _ (old now mid : HeadedFile) (s t : FilesState) (far : ReadingItem old now s t) (known : old.front ≡ false) (held : Result AnItem ReadError) (hands : HandsItem held now mid) where
  got : (result : Result (Option Value) FileError) → (IsErrOf result fault.Read → ⊥) → ((v : Value) → result ≡ Ok (Some v) → held ≡ Ok (plain.Value v))
      → ((first left : Left) (head : Option Ty) (vs : List Value) → HeldItem first head vs held mid left → Stands first head vs result mid left) → NextItem result old mid s t
  got result well value stands = record {
    leaves = leaves_now (Option Ty × List Value) read_at old now s t far result well;
    same = then_same old now mid far.same hands.same;
    less = λ v is. let b = far.less in let c = hands.less v (value v is) in omega arith;
    goes = λ first head vs has. stands first (t.left old.items.file) head vs (hands.goes first (t.left old.items.file) head vs (far.goes (head, vs) first has));
    sees = λ head vs has q is.
        let h = far.sees (head, vs) has q is in
        (stands (Some (Some q.bytes)) (Some (Some [])) head vs (hands.goes (Some (Some q.bytes)) (Some (Some [])) head vs h.0), met_still now mid q hands.same hands.finished hands.past h.1);
  }

  pub item_here : (v : Value) → held ≡ Ok (plain.Value v) → NextItem (Ok (Some v)) old mid s t
  item_here v is = got (Ok (Some v)) (λ e. cc) (λ w e. is ∙ ap (λ x. Ok (plain.Value x)) (let same : v ≡ w = cc in same)) (λ first left head vs h. subst (λ r. HeldItem first head vs r mid left) is h)

  pub end_here : held ≡ Ok plain.End → NextItem (Ok None) old mid s t
  end_here is = got (Ok None) (λ e. cc) (λ w e. absurd cc) (λ first left head vs h. subst (λ r. HeldItem first head vs r mid left) is h)

  pub refusal_here : (e : ReadError) → held ≡ Err e → NextItem (Err (fault_of e)) old mid s t
  refusal_here (error.Bad p) is = got (Err (fault.Bad p)) (λ e. cc) (λ w e. absurd cc) (λ first left head vs h. subst (λ r. HeldItem first head vs r mid left) is h)
  refusal_here (error.TooDeep p) is = got (Err (fault.TooDeep p)) (λ e. cc) (λ w e. absurd cc) (λ first left head vs h. subst (λ r. HeldItem first head vs r mid left) is h)
  refusal_here error.NoMemory is = got (Err fault.NoMemory) (λ e. cc) (λ w e. absurd cc) (λ first left head vs h. subst (λ r. HeldItem first head vs r mid left) is h)

  pub refusal_as : (e : ReadError) (why : FileError) → why ≡ fault_of e → held ≡ Err e → NextItem (Err why) old mid s t
  refusal_as e why of is = subst (λ d. NextItem (Err d) old mid s t) (sym of) (refusal_here e is)

  module _ (is : held ≡ Ok plain.NeedMore) (next : HeadedFile) (u : FilesState) where
    read_mid : (head : Option Ty) (vs : List Value) (first left : Left) → HasRead first head vs now left → HasRead first head vs mid left
    read_mid head vs first left has = subst (λ r. HeldItem first head vs r mid left) is (hands.goes first left head vs has)

    next_seen : (x : Result (Unit {0}) FileError) → FetchesMore x mid next t u → (head : Option Ty) (vs : List Value) → AsSeen (λ first left. HasRead first head vs mid left) mid (seen_in t mid.items.file)
        → AsSeen (λ first left. FetchedMore first head vs x next left) next (seen_in u mid.items.file)
    next_seen x fetches head vs has = subst (λ n. AsSeen (λ first left. FetchedMore first head vs x n left) n (seen_in u mid.items.file)) (sym fetches.same)
        (sees_more x mid next.items t u (hands.waits is) fetches.items head vs has)

    pub item_goes_on : FetchesMore (Ok tt) mid next t u → ReadingItem old next s u
    item_goes_on fetches = reads_on (Option Ty × List Value) read_at old now s t far mid next u hands.same fetches (hands.known ∙ sym (far.front ∙ known)) (let e = hands.still is in omega arith)
        (λ i first left has. read_mid i.0 i.1 first left has) (λ i first has. fetches.goes first i.0 i.1 has) (λ i has. next_seen (Ok tt) fetches i.0 i.1 has) hands.finished hands.past

    pub item_fault : (e : FileError) → FetchesMore (Err e) mid next t u → NextItem (Err e) old next s u
    item_fault e fetches =
        let file = file_is (Option Ty × List Value) read_at old now s t far mid next u hands.same in
        record {
          leaves = leaves_then (Option Ty × List Value) read_at old now s t far mid next u hands.same e fetches.items.leaves;
          same = fetched_file (Option Ty × List Value) read_at old now s t far mid next u hands.same (Err e) fetches;
          less = λ v bad. absurd cc;
          goes = λ first head vs has. stands e first (u.left old.items.file) head vs (subst (λ f. FetchedMore first head vs (Err e) next (u.left f)) file
              (fetches.goes first head vs (subst (λ f. HasRead first head vs mid (t.left f)) (sym file) (read_mid head vs first (t.left old.items.file) (far.goes (head, vs) first has)))));
          sees = λ head vs has q now_seen.
              let h = subst (λ f. AsSeen (λ first left. FetchedMore first head vs (Err e) next left) next (seen_in u f)) file (next_seen (Err e) fetches head vs
              (subst (λ f. AsSeen (λ first left. HasRead first head vs mid left) mid (seen_in t f)) (sym file)
              (λ p was. let o = far.sees (head, vs) has p was in (read_mid head vs (Some (Some p.bytes)) (Some (Some [])) o.0, met_still now mid p hands.same hands.finished hands.past o.1)))) q now_seen in
              (stands e (Some (Some q.bytes)) (Some (Some [])) head vs h.0, h.1);
        }
      where
        stands : (d : FileError) (first left : Left) (head : Option Ty) (vs : List Value) → FetchedMore first head vs (Err d) next left → Stands first head vs (Err d) next left
        stands fault.Read first left head vs h = h
        stands fault.NoMemory first left head vs h = h
        stands fault.TooLong first left head vs h = h
        stands (fault.Bad p) first left head vs h = absurd h
        stands (fault.TooDeep p) first left head vs h = absurd h
