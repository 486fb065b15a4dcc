-- How listing a file goes on, and how it ends.
use Rattle.std.proofs.Common.{◌≡◌, ◌≢◌, ◌⊎◌, ◌≤◌, inl, inr, ℕ, List, [], ◌∷◌, ◌++◌, codes, Bool, true, false, Option, Some, None, Result, Ok, Err, IsOk, IsSome, IsErrOf, refl, sym, ap, subst, ◌∙◌, arith, append-nil, append_assoc, if◌then◌else◌}
use Rattle.std.specs.List.{flat_map}
use Rattle.std.specs.Io.KnownBytes.{append_known}
use Rattle.std.proofs.lemmas.Grind.{flat_map-append}
use Rattle.std.proofs.Math.Path.{fun_ext}
use Rattle.kl_base.specs.Counts.{Rose}
use Rattle.kl_exchange.specs.FileItems.{FileEnd, WholeText, BadAt, TooDeepAt, PastLimit, most_read}
use Rattle.kl_exchange.specs.FileReading.{Left, Leaves}
use Rattle.kl_exchange.specs.Found.{FileItem, values_of}
use Rattle.kl_exchange.specs.Printing.{Puts, as_stop}
use Rattle.kl_exchange.specs.declared.error.FileError.{FileError}
use Rattle.kl_exchange.specs.declared.error.FileError.TheVariants as error
use Rattle.kl_exchange.specs.declared.error.PrintError.{PrintError}
use Rattle.kl_exchange.specs.declared.error.PrintError.TheVariants as print
use Rattle.kl_exchange.specs.declared.error.ReadError.{ReadError}
use Rattle.kl_exchange.specs.declared.error.ReadError.TheVariants as read
use Rattle.kl_exchange.proofs.FileReading.{begins_so}
use Rattle.kl_heads.specs.FileReading.{HeadedFile, HasRead, HasOpened, EndsSo, Opens, ReadsHead, HeldOut, HandsOut, FetchedMore, FetchesMore, limit_of, place_of}
use Rattle.kl_heads.specs.Files.{Shows}
use Rattle.kl_heads.specs.Found.{FileText, file_text}
use Rattle.kl_heads.specs.Stated.{states_no_other}
use Rattle.kl_heads.specs.declared.reader.Item.{Item}
use Rattle.kl_heads.specs.declared.reader.Item.TheVariants as item
use Rattle.kl_heads.proofs.FoundText.{text_shows}
use Rattle.kl_heads.proofs.OneEnd.{one_text}
use Rattle.kl_outside.specs.Files.{FilesState, OpensPath, Closes, OtherFiles, left_at_first, IsMissing}
use Rattle.kl_outside.specs.Sinks.{SinkState, TookPart, WritesWhole}
use Rattle.kl_outside.specs.declared.stop.Stop.{Stop}
use Rattle.kl_outside.specs.declared.stop.Stop.TheVariants as stop
use Rattle.kl_outside.proofs.SinkLemmas.{append_known-nil, append_known-append, took_none, took_all, took_front}
use Rattle.kl_outside.proofs.FileLemmas.{same_left}
use Rattle.kl_value.specs.Written.{text_of}
use Rattle.kl_value.specs.declared.Value.{Value}
use Rattle.kl_type.specs.Reading.{ReadsType}
use Rattle.kl_type.specs.Written.{type_text}
use Rattle.kl_type.specs.declared.Ty.{Ty}
use Rattle.kl_ask.specs.Driver.{State}
use Rattle.kl_engine.specs.Answering.{EndsAtType, IsDetermined, IsOneOf, HasFault}
use Rattle.kl_engine.specs.Commands.{Show, Upgrade}
use Rattle.kl_engine.specs.Faults.{Ending, ending}
use Rattle.kl_engine.specs.Outside.{Outside, outside_of}
use Rattle.kl_engine.specs.Showing.{line_of, FollowsFile, DoesShow, DoesUpgrade, ReadsOn, ListsFile, ListsItems, Flushes, StopsAt, open_fault, stop_fault, read_fault, fetch_fault, write_fault}
use Rattle.kl_engine.specs.declared.show.Form.{Form}
use Rattle.kl_engine.specs.declared.show.Form.TheVariants as form
use Rattle.kl_engine.specs.Verdict.{Verdict, refused, behind, end_fault, fits, head_line, item_line, listed, shown, upgraded, value_line, IsFile, IsShowing, IsUpgrading, IsTypeFault}
use Rattle.kl_engine.specs.declared.fault.Fault.{Fault}
use Rattle.kl_engine.specs.declared.fault.Fault.TheVariants as fault
use Rattle.kl_engine.proofs.ListingLemmas.{AllFit, fit_more, lines, listed_told, head_is, front_is, end_is, misfit_is}
use Rattle.kl_engine.proofs.WordLemmas.{fault_none, one_fault, one_type}

-- ---- what is told of a verdict

-- a fault of the outside, or want of memory, behind this front of the page
abbrev Cause : Fault → List ℕ → FilesState → FilesState → SinkState → SinkState → Type 0
Cause f page s0 s out0 out =
    ((f ≡ fault.Read) × Rose s0.faults s.faults) ⊎ ((f ≡ fault.Write) × Rose out0.faults out.faults × (page ≢ [])) ⊎ (f ≡ fault.NoMemory)

no_front : (xs ys : List ℕ) → xs ≢ [] → xs ++ ys ≢ []
no_front [] ys full is = full refl
no_front (x ∷ xs) ys full is = cc

no_back : (xs ys : List ℕ) → ys ≢ [] → xs ++ ys ≢ []
no_back [] ys full is = full is
no_back (x ∷ xs) ys full is = cc

unlike : (f : Fault) (page : List ℕ) (s0 s : FilesState) (out0 out : SinkState) → Cause f page s0 s out0 out → IsDetermined (Some f) → ⊥
unlike f page s0 s out0 out cause told = elim cause [
  | inl h ↦ subst (λ g. IsDetermined (Some g)) h.0 told
  | inr (inl h) ↦ subst (λ g. IsDetermined (Some g)) h.0 told
  | inr (inr h) ↦ subst (λ g. IsDetermined (Some g)) h told
]

-- the faults do not rest on the path, nor on the word
as_path : (path : List ℕ) (end : Ending) → IsOneOf (HasFault (Show [])) end → IsOneOf (HasFault (Show path)) end
as_path path None has = tt
as_path path (Some fault.Usage) has = has
as_path path (Some (fault.Text w byte)) has = has
as_path path (Some (fault.IllTyped decl)) has = has
as_path path (Some (fault.BadFile place)) has = has
as_path path (Some (fault.Catalogue byte)) has = has
as_path path (Some (fault.NameTwice name)) has = has
as_path path (Some (fault.NoDriver name)) has = has
as_path path (Some (fault.Unsuited name)) has = has
as_path path (Some (fault.NoType byte)) has = has
as_path path (Some (fault.BadSource name place)) has = has
as_path path (Some (fault.Changed name)) has = has
as_path path (Some fault.CatalogueBytes) has = has
as_path path (Some fault.Overflow) has = has
as_path path (Some fault.Read) has = has
as_path path (Some fault.Write) has = has
as_path path (Some fault.NoMemory) has = has
as_path path (Some fault.ProgramBytes) has = has
as_path path (Some fault.FileBytes) has = has
as_path path (Some fault.Nesting) has = has
as_path path (Some fault.ItemNesting) has = has
as_path path (Some fault.TermNodes) has = has
as_path path (Some fault.TermDepth) has = has
as_path path (Some fault.SchemeBytes) has = has

as_word : (path word : List ℕ) (end : Ending) → IsOneOf (HasFault (Show [])) end → IsOneOf (HasFault (Upgrade path word)) end
as_word path word None has = tt
as_word path word (Some fault.Usage) has = has
as_word path word (Some (fault.Text w byte)) has = has
as_word path word (Some (fault.IllTyped decl)) has = has
as_word path word (Some (fault.BadFile place)) has = has
as_word path word (Some (fault.Catalogue byte)) has = has
as_word path word (Some (fault.NameTwice name)) has = has
as_word path word (Some (fault.NoDriver name)) has = has
as_word path word (Some (fault.Unsuited name)) has = has
as_word path word (Some (fault.NoType byte)) has = absurd has
as_word path word (Some (fault.BadSource name place)) has = has
as_word path word (Some (fault.Changed name)) has = has
as_word path word (Some fault.CatalogueBytes) has = has
as_word path word (Some fault.Overflow) has = has
as_word path word (Some fault.Read) has = has
as_word path word (Some fault.Write) has = has
as_word path word (Some fault.NoMemory) has = has
as_word path word (Some fault.ProgramBytes) has = has
as_word path word (Some fault.FileBytes) has = has
as_word path word (Some fault.Nesting) has = absurd has
as_word path word (Some fault.ItemNesting) has = has
as_word path word (Some fault.TermNodes) has = has
as_word path word (Some fault.TermDepth) has = has
as_word path word (Some fault.SchemeBytes) has = has

end_told : (end : FileEnd) → IsDetermined (end_fault end)
end_told WholeText = tt
end_told (BadAt place) = tt
end_told (TooDeepAt place) = tt
end_told PastLimit = tt

end_other : (end : FileEnd) → IsOneOf (HasFault (Show [])) (end_fault end)
end_other WholeText = tt
end_other (BadAt place) = tt
end_other (TooDeepAt place) = tt
end_other PastLimit = tt

module _ (ds : List State) (s0 s : FilesState) (out0 out : SinkState) where
  -- the verdict's end, behind its whole page
  follows_whole : (v : Verdict) (page : List ℕ) (end : Ending) → v ≡ record { page = page; ending = end } → out.taken ≡ append_known out0.taken page → FollowsFile v end (outside_of s0 ds out0) (outside_of s ds out)
  follows_whole v page end is took = subst (λ w. FollowsFile w end (outside_of s0 ds out0) (outside_of s ds out)) (sym is) (record {
    ends = inl refl;
    whole = λ same. took;
    part = took_all page out0 out took;
  })

  -- a fault came first, behind a front of the page
  follows_front : (v : Verdict) (page more : List ℕ) (f : Fault) → IsDetermined v.ending → v.page ≡ page ++ more → Cause f page s0 s out0 out → TookPart page out0 out → FollowsFile v (Some f) (outside_of s0 ds out0) (outside_of s ds out)
  follows_front v page more f told is cause part = record {
    ends = elim cause [
      | inl h ↦ inr (inl (ap Some h.0, h.1))
      | inr (inl h) ↦ inr (inr (inl (ap Some h.0, h.1, λ none. no_front page more h.2 (sym is ∙ none))))
      | inr (inr h) ↦ inr (inr (inr (ap Some h)))
    ];
    whole = λ same. absurd (unlike f page s0 s out0 out cause (subst IsDetermined (sym same) told));
    part = subst (λ bs. TookPart bs out0 out) (sym is) (took_front page more out0 out part);
  }

-- what follows a verdict follows it behind a line that was written
follows_behind : (ds : List State) (front : List ℕ) (v : Verdict) (end : Ending) (s s' : FilesState) (out0 out1 out2 : SinkState) → WritesWhole {T = Unit {0}} front (Ok tt) out0 out1
    → FollowsFile v end (outside_of s ds out1) (outside_of s' ds out2) → FollowsFile (behind front v) end (outside_of s ds out0) (outside_of s' ds out2)
follows_behind ds front v end s s' out0 out1 out2 writes follows = record {
  ends = elim follows.ends [
    | inl h ↦ inl h
    | inr (inl h) ↦ inr (inl h)
    | inr (inr (inl h)) ↦ inr (inr (inl (h.0, (let a = h.1 in let b = writes.cause.later in omega arith), no_back front v.page h.2)))
    | inr (inr (inr h)) ↦ inr (inr (inr h))
  ];
  whole = λ same. follows.whole same ∙ (ap (λ k. append_known k v.page) writes.took ∙ append_known-append out0.taken front v.page);
  part = record {
    done = front ++ follows.part.done;
    rest = follows.part.rest;
    all = ap (λ bs. front ++ bs) follows.part.all ∙ sym (append_assoc front follows.part.done follows.part.rest);
    took = follows.part.took ∙ (ap (λ k. append_known k follows.part.done) writes.took ∙ append_known-append out0.taken front follows.part.done);
  };
}

-- the files failed before
follows_before : (ds : List State) (v : Verdict) (end : Ending) (s0 s s' : FilesState) (out out' : SinkState) → s0.faults ≤ s.faults
    → FollowsFile v end (outside_of s ds out) (outside_of s' ds out') → FollowsFile v end (outside_of s0 ds out) (outside_of s' ds out')
follows_before ds v end s0 s s' out out' later follows = record {
  ends = elim follows.ends [
    | inl h ↦ inl h
    | inr (inl h) ↦ inr (inl (h.0, (let a = h.1 in omega arith)))
    | inr (inr h) ↦ inr (inr h)
  ];
  whole = follows.whole;
  part = follows.part;
}

-- ---- the listing of items

-- The file is read on, and nothing else is.
pub record Stays (items now : HeadedFile) (s0 s : FilesState) : Type 0 where
  pub is_file : now.items.file ≡ items.items.file
  pub limit : limit_of now ≡ limit_of items
  pub told : s.told ≡ s0.told
  pub others : OtherFiles items.items.file s0 s
  pub is_open : IsSome (s.left items.items.file)
  pub later : s0.faults ≤ s.faults

-- These items were read behind the head, and have the type. Their lines were printed but for the bytes that the page holds.
pub record Printed (line : Value → List ℕ) (t : Option Ty) (first : Left) (head : Option Ty) (now : HeadedFile) (left : Left) (out0 out : SinkState) (held : List ℕ) (begun : Bool) : Type 0 where
  pub vs : List Value
  pub read : HasRead first head vs now left
  pub fit : AllFit t vs
  pub done : List ℕ
  pub all : flat_map line vs ≡ done ++ held
  pub took : out.taken ≡ append_known out0.taken done
  pub some : begun ≡ true → flat_map line vs ≢ []

pub record Going (items : HeadedFile) (line : Value → List ℕ) (t : Option Ty) (now : HeadedFile) (s0 s : FilesState) (out0 out : SinkState) (held : List ℕ) (begun : Bool) : Type 0 where
  pub stays : Stays items now s0 s
  pub well : s.faults ≡ s0.faults
  pub later : out0.faults ≤ out.faults
  pub none : begun ≡ false → held ≡ []
  pub printed : (first : Left) (head : Option Ty) → HasRead first head [] items (s0.left items.items.file) → Printed line t first head now (s.left items.items.file) out0 out held begun

pub open_now : (items : HeadedFile) (line : Value → List ℕ) (t : Option Ty) (now : HeadedFile) (s0 s : FilesState) (out0 out : SinkState) (held : List ℕ) (begun : Bool) → Going items line t now s0 s out0 out held begun → IsSome (s.left now.items.file)
open_now items line t now s0 s out0 out held begun so = subst (λ n. IsSome (s.left n)) (sym so.stays.is_file) so.stays.is_open

pub going_none : (items : HeadedFile) (line : Value → List ℕ) (t : Option Ty) (s : FilesState) (out : SinkState) → IsSome (s.left items.items.file) → Going items line t items s s out out [] false
going_none items line t s out is_open = record {
  stays = record { is_file = refl; limit = refl; told = refl; others = λ k ne. refl; is_open = is_open; later = omega arith };
  well = refl;
  later = omega arith;
  none = λ is. refl;
  printed = λ first head has. record { vs = []; read = has; fit = tt; done = []; all = refl; took = sym (append_known-nil out.taken); some = λ is. absurd cc };
}

module _ (items : HeadedFile) (line : Value → List ℕ) (t : Option Ty) (now : HeadedFile) (s0 s : FilesState) (out0 out : SinkState) (held : List ℕ) (begun : Bool) (so : Going items line t now s0 s out0 out held begun) where
  stays_held : (new : HeadedFile) (result : Result Item ReadError) → HandsOut result now new → Stays items new s0 s
  stays_held new result hands = record {
    is_file = hands.same.file ∙ so.stays.is_file;
    limit = hands.same.limit ∙ so.stays.limit;
    told = so.stays.told;
    others = so.stays.others;
    is_open = so.stays.is_open;
    later = so.stays.later;
  }

  -- no head comes behind what was read
  pub no_head : (first : Left) × (head : Option Ty) × HasRead first head [] items (s0.left items.items.file) → (new : HeadedFile) (u : Ty) → HandsOut (Ok (item.Head u)) now new → ⊥
  no_head (first, head, has) new u hands = let p = so.printed first head has in hands.goes first (s.left items.items.file) head p.vs p.read

  lines_one : (vs : List Value) (v : Value) → flat_map line (vs ++ v ∷ []) ≡ flat_map line vs ++ line v
  lines_one vs v = flat_map-append line vs (v ∷ []) ∙ ap (λ bs. flat_map line vs ++ bs) (append-nil (line v))

  -- an item more was read and printed
  module _ (new : HeadedFile) (v : Value) (fit : fits t v ≡ true) (full : line v ≢ []) (hands : HandsOut (Ok (item.Value v)) now new) where
    pub going_value : {T : Type 0} (done : T) (out' : SinkState) (after : List ℕ) → Puts (line v) (Ok done) out held out' after → Going items line t new s0 s out0 out' after true
    going_value done out' after puts = record {
      stays = stays_held new (Ok (item.Value v)) hands;
      well = so.well;
      later = let a = so.later in let b = puts.cause.later in omega arith;
      none = λ is. absurd cc;
      printed = λ first head has.
          let p = so.printed first head has in
          record {
            vs = p.vs ++ v ∷ [];
            read = hands.goes first (s.left items.items.file) head p.vs p.read;
            fit = fit_more t p.vs v p.fit fit;
            done = p.done ++ puts.done;
            all = lines_one p.vs v ∙ (ap (λ bs. bs ++ line v) p.all ∙ (append_assoc p.done held (line v) ∙ (ap (λ bs. p.done ++ bs) (puts.all ∙ ap (λ bs. puts.done ++ bs) puts.holds) ∙ sym (append_assoc p.done puts.done after))));
            took = puts.took ∙ (ap (λ k. append_known k puts.done) p.took ∙ append_known-append out0.taken p.done puts.done);
            some = λ is none. no_back (flat_map line p.vs) (line v) full (sym (lines_one p.vs v) ∙ none);
          };
    }

  -- ---- how the listing ends

  -- a front of the page, which is not empty, was written in part
  abbrev HasCut : Verdict → SinkState → Type 0
  HasCut v out' = (page : List ℕ) × (more : List ℕ) × (v.page ≡ page ++ more) × TookPart page out0 out' × (page ≢ [])

  -- where the bytes are known, P of what comes of them
  abbrev Where : (Verdict → Type 0) → Type 0
  Where P = (bytes : List ℕ) (head : Option Ty) → HasRead (Some (Some bytes)) head [] items (s0.left items.items.file) → limit_of items ≡ most_read
      → P (listed line t (file_text most_read bytes).items (file_text most_read bytes).behind)

  module _ (ds : List State) (new : HeadedFile) (s' : FilesState) (out' : SinkState) (stays : Stays items new s0 s') where
    ends_with : (end : Ending) → IsDetermined end → IsOneOf (HasFault (Show [])) end → s'.faults ≡ s0.faults
        → Where (λ v. FollowsFile v end (outside_of s0 ds out0) (outside_of s' ds out')) → ListsItems items line t end (outside_of s0 ds out0) (outside_of s' ds out')
    ends_with end told other well follows = record {
      reads = record {
        told = stays.told;
        others = stays.others;
        is_open = stays.is_open;
        later = stays.later;
        read = λ is. absurd (subst IsDetermined is told);
        write = λ is. absurd (subst IsDetermined is told);
        no_other = other;
        unfailed = λ fine. well;
      };
      follows = follows;
    }

    stops_with : (f : Fault) → HasFault (Show []) f → (f ≡ fault.Read → Rose s0.faults s'.faults) → (f ≡ fault.Write → Rose out0.faults out'.faults) → ((f ≡ fault.Read → ⊥) → s'.faults ≡ s0.faults)
        → Where (λ v. FollowsFile v (Some f) (outside_of s0 ds out0) (outside_of s' ds out')) → ListsItems items line t (Some f) (outside_of s0 ds out0) (outside_of s' ds out')
    stops_with f other reads writes well follows = record {
      reads = record {
        told = stays.told;
        others = stays.others;
        is_open = stays.is_open;
        later = stays.later;
        read = λ is. reads cc;
        write = λ is. writes cc;
        no_other = other;
        unfailed = λ fine. well (λ is. fine (ap Some is));
      };
      follows = follows;
    }

    -- a write was refused
    refused_with : (e : PrintError) → s'.faults ≡ s0.faults → (as_stop {T = Unit {0}} (Err e) ≡ Err stop.Failed → Rose out0.faults out'.faults) → Where (λ v. HasCut v out') → ListsItems items line t (Some (write_fault e)) (outside_of s0 ds out0) (outside_of s' ds out')
    refused_with print.Failed well rose cut = stops_with fault.Write tt (λ is. absurd cc) (λ is. rose refl) (λ fine. well)
        (λ bytes head has limit. let c = cut bytes head has limit in
        follows_front ds s0 s' out0 out' (listed line t (file_text most_read bytes).items (file_text most_read bytes).behind) c.0 c.1 fault.Write (listed_told line t (file_text most_read bytes).items (file_text most_read bytes).behind) c.2 (inr (inl (refl, rose refl, c.4))) c.3)
    refused_with print.NoMemory well rose cut = stops_with fault.NoMemory tt (λ is. absurd cc) (λ is. absurd cc) (λ fine. well)
        (λ bytes head has limit. let c = cut bytes head has limit in
        follows_front ds s0 s' out0 out' (listed line t (file_text most_read bytes).items (file_text most_read bytes).behind) c.0 c.1 fault.NoMemory (listed_told line t (file_text most_read bytes).items (file_text most_read bytes).behind) c.2 (inr (inr refl)) c.3)

    -- a fault of reading, or want of memory, where the page was written
    cut_off : (f : Fault) → Where (λ v. (page : List ℕ) × (more : List ℕ) × (v.page ≡ page ++ more) × (out'.taken ≡ append_known out0.taken page)) → ((page : List ℕ) → Cause f page s0 s' out0 out')
        → Where (λ v. FollowsFile v (Some f) (outside_of s0 ds out0) (outside_of s' ds out'))
    cut_off f front cause bytes head has limit =
        let c = front bytes head has limit in
        follows_front ds s0 s' out0 out' (listed line t (file_text most_read bytes).items (file_text most_read bytes).behind) c.0 c.1 f (listed_told line t (file_text most_read bytes).items (file_text most_read bytes).behind) c.2 (cause c.0) (took_all c.0 out0 out' c.3)

  -- the lines of what was read stand first on the page
  front_at : (P : List ℕ → Type 0) → ((first : Left) (head : Option Ty) (p : Printed line t first head now (s.left items.items.file) out0 out held begun) → P (flat_map line p.vs)) → Where (λ v. (page : List ℕ) × (more : List ℕ) × (v.page ≡ page ++ more) × P page)
  front_at P holds bytes head has limit =
      let p = so.printed (Some (Some bytes)) head has in
      let f = front_is line t bytes head p.vs now (s.left items.items.file) (so.stays.limit ∙ limit) p.read p.fit in
      (flat_map line p.vs, f.0, f.1, holds (Some (Some bytes)) head p)

  -- an item was read, and its line was refused
  pub value_stopped : (ds : List State) (e : PrintError) (new : HeadedFile) (v : Value) (out' : SinkState) (after : List ℕ) → fits t v ≡ true → line v ≢ [] → HandsOut (Ok (item.Value v)) now new → Puts {T = Unit {0}} (line v) (as_stop (Err e)) out held out' after
      → ListsItems items line t (Some (write_fault e)) (outside_of s0 ds out0) (outside_of s ds out')
  value_stopped ds e new v out' after fit full hands puts =
      refused_with ds new s out' (stays_held new (Ok (item.Value v)) hands) e so.well (λ is. let a = so.later in let b = puts.cause.failed is in omega arith) (λ bytes head has limit.
      let p = so.printed (Some (Some bytes)) head has in
      let read = hands.goes (Some (Some bytes)) (s.left items.items.file) head p.vs p.read in
      let f = front_is line t bytes head (p.vs ++ v ∷ []) new (s.left items.items.file) (hands.same.limit ∙ (so.stays.limit ∙ limit)) read (fit_more t p.vs v p.fit fit) in (
        flat_map line (p.vs ++ v ∷ []),
        f.0,
        f.1,
        record {
          done = p.done ++ puts.done;
          rest = puts.rest;
          all = lines_one p.vs v ∙ (ap (λ bs. bs ++ line v) p.all ∙ (append_assoc p.done held (line v) ∙ (ap (λ bs. p.done ++ bs) puts.all ∙ sym (append_assoc p.done puts.done puts.rest))));
          took = puts.took ∙ (ap (λ k. append_known k puts.done) p.took ∙ append_known-append out0.taken p.done puts.done);
        },
        λ none. no_back (flat_map line p.vs) (line v) full (sym (lines_one p.vs v) ∙ none),
      ))

  -- the page was written
  module _ (out' : SinkState) (after : List ℕ) (flushes : Flushes {T = Unit {0}} begun (Ok tt) held after out out') where
    sunk : out0.faults ≤ out'.faults
    sunk = by begun refl
      where
        by : (b : Bool) → begun ≡ b → out0.faults ≤ out'.faults
        by true is = let a = so.later in let b = (flushes.writes is).0.cause.later in omega arith
        by false is = let a = so.later in let b = ap (λ o. o.faults) (flushes.idle is).2 in omega arith

    none_held : after ≡ []
    none_held = by begun refl
      where
        by : (b : Bool) → begun ≡ b → after ≡ []
        by true is = (flushes.writes is).1
        by false is = (flushes.idle is).1 ∙ so.none is

    all_took : (first : Left) (head : Option Ty) (p : Printed line t first head now (s.left items.items.file) out0 out held begun) → out'.taken ≡ append_known out0.taken (flat_map line p.vs)
    all_took first head p = by begun refl
      where
        by : (b : Bool) → begun ≡ b → out'.taken ≡ append_known out0.taken (flat_map line p.vs)
        by true is = (flushes.writes is).0.took ∙ (ap (λ k. append_known k held) p.took ∙ (append_known-append out0.taken p.done held ∙ ap (append_known out0.taken) (sym p.all)))
        by false is = ap (λ o. o.taken) (flushes.idle is).2 ∙ (p.took ∙ ap (append_known out0.taken) (sym (p.all ∙ (ap (λ bs. p.done ++ bs) (so.none is) ∙ append-nil p.done))))

    -- no item was whole
    module _ (new : HeadedFile) (hands : HandsOut (Ok item.NeedMore) now new) where
      pub going_wait : Going items line t new s0 s out0 out' after false
      going_wait = record {
        stays = stays_held new (Ok item.NeedMore) hands;
        well = so.well;
        later = sunk;
        none = λ is. none_held;
        printed = λ first head has.
            let p = so.printed first head has in
            record {
              vs = p.vs;
              read = hands.goes first (s.left items.items.file) head p.vs p.read;
              fit = p.fit;
              done = flat_map line p.vs;
              all = sym (ap (λ bs. flat_map line p.vs ++ bs) none_held ∙ append-nil (flat_map line p.vs));
              took = all_took first head p;
              some = λ is. absurd cc;
            };
      }

    pub items_end : (ds : List State) (new : HeadedFile) → HandsOut (Ok item.End) now new → ListsItems items line t None (outside_of s0 ds out0) (outside_of s ds out')
    items_end ds new hands = ends_with ds new s out' (stays_held new (Ok item.End) hands) None tt tt so.well (λ bytes head has limit.
        let p = so.printed (Some (Some bytes)) head has in
        let ends = hands.goes (Some (Some bytes)) (s.left items.items.file) head p.vs p.read in
        follows_whole ds s0 s out0 out' (listed line t (file_text most_read bytes).items (file_text most_read bytes).behind) (flat_map line p.vs) None
        (end_is line t bytes head p.vs new (s.left items.items.file) (hands.same.limit ∙ (so.stays.limit ∙ limit)) ends.0 p.fit WholeText ends.1) (all_took (Some (Some bytes)) head p))

    -- a refusal behind what was read
    refusal_end : (ds : List State) (new : HeadedFile) (end : FileEnd) (stays : Stays items new s0 s)
        → ((head : Option Ty) (bytes : List ℕ) (vs : List Value) → HasRead (Some (Some bytes)) head vs now (s.left items.items.file) → HasRead (Some (Some bytes)) head vs new (s.left items.items.file) × EndsSo (Some (Some bytes)) head vs end new)
        → ListsItems items line t (end_fault end) (outside_of s0 ds out0) (outside_of s ds out')
    refusal_end ds new end stays goes = ends_with ds new s out' stays (end_fault end) (end_told end) (end_other end) so.well (λ bytes head has limit.
        let p = so.printed (Some (Some bytes)) head has in
        let ends = goes head bytes p.vs p.read in
        follows_whole ds s0 s out0 out' (listed line t (file_text most_read bytes).items (file_text most_read bytes).behind) (flat_map line p.vs) (end_fault end)
        (end_is line t bytes head p.vs new (s.left items.items.file) (stays.limit ∙ limit) ends.0 p.fit end ends.1) (all_took (Some (Some bytes)) head p))

    wanted_end : (ds : List State) (new : HeadedFile) → Stays items new s0 s → ListsItems items line t (Some fault.NoMemory) (outside_of s0 ds out0) (outside_of s ds out')
    wanted_end ds new stays = stops_with ds new s out' stays fault.NoMemory tt (λ is. absurd cc) (λ is. absurd cc) (λ fine. so.well)
        (cut_off ds new s out' stays fault.NoMemory (front_at (λ page. out'.taken ≡ append_known out0.taken page) all_took) (λ page. inr (inr refl)))

    items_refused : (ds : List State) (e : ReadError) (new : HeadedFile) → HandsOut (Err e) now new → ListsItems items line t (Some (read_fault e)) (outside_of s0 ds out0) (outside_of s ds out')
    items_refused ds (read.Bad place) new hands = refusal_end ds new (BadAt place) (stays_held new (Err (read.Bad place)) hands) (λ head bytes vs has. hands.goes (Some (Some bytes)) (s.left items.items.file) head vs has)
    items_refused ds (read.TooDeep place) new hands = refusal_end ds new (TooDeepAt place) (stays_held new (Err (read.TooDeep place)) hands) (λ head bytes vs has. hands.goes (Some (Some bytes)) (s.left items.items.file) head vs has)
    items_refused ds read.NoMemory new hands = wanted_end ds new (stays_held new (Err read.NoMemory) hands)

    misfit_end : (ds : List State) (new : HeadedFile) (v : Value) → fits t v ≡ false → HandsOut (Ok (item.Value v)) now new → ListsItems items line t (Some (fault.BadFile (place_of now))) (outside_of s0 ds out0) (outside_of s ds out')
    misfit_end ds new v misfit hands = ends_with ds new s out' (stays_held new (Ok (item.Value v)) hands) (Some (fault.BadFile (place_of now))) tt tt so.well (λ bytes head has limit.
        let p = so.printed (Some (Some bytes)) head has in
        let after = hands.goes (Some (Some bytes)) (s.left items.items.file) head p.vs p.read in
        follows_whole ds s0 s out0 out' (listed line t (file_text most_read bytes).items (file_text most_read bytes).behind) (flat_map line p.vs) (Some (fault.BadFile (place_of now)))
        (misfit_is line t bytes head p.vs now (s.left items.items.file) (so.stays.limit ∙ limit) p.read p.fit v new (s.left items.items.file) (hands.same.limit ∙ (so.stays.limit ∙ limit)) after misfit) (all_took (Some (Some bytes)) head p))

  -- writing the page was refused
  pub items_unflushed : (ds : List State) (e : PrintError) (new : HeadedFile) (out' : SinkState) (after : List ℕ) → Stays items new s0 s → Flushes {T = Unit {0}} begun (as_stop (Err e)) held after out out' → ListsItems items line t (Some (write_fault e)) (outside_of s0 ds out0) (outside_of s ds out')
  items_unflushed ds e new out' after stays flushes = go begun refl
    where
      not_idle : (f : PrintError) → IsOk (as_stop {T = Unit {0}} (Err f)) → ⊥
      not_idle print.Failed is = cc
      not_idle print.NoMemory is = cc

      go : (b : Bool) → begun ≡ b → ListsItems items line t (Some (write_fault e)) (outside_of s0 ds out0) (outside_of s ds out')
      go false is = absurd (not_idle e (flushes.idle is).0)
      go true is =
          let w = (flushes.writes is).0 in
          refused_with ds new s out' stays e so.well (λ failed. let a = so.later in let b = w.cause.failed failed in omega arith)
          (λ bytes head has limit.
          let f = front_at (λ page. TookPart page out0 out' × (page ≢ [])) (λ first h p. (
            record {
              done = p.done ++ w.part.done;
              rest = w.part.rest;
              all = p.all ∙ (ap (λ bs. p.done ++ bs) w.part.all ∙ sym (append_assoc p.done w.part.done w.part.rest));
              took = w.part.took ∙ (ap (λ k. append_known k w.part.done) p.took ∙ append_known-append out0.taken p.done w.part.done);
            },
            p.some is,
          )) bytes head has limit in
          (f.0, f.1, f.2, f.3.0, f.3.1))

  -- the listing stops with a fault, unless the page is refused
  stopped_at : (ds : List State) (f : Fault) (result : Result (Unit {0}) Fault) (new : HeadedFile) (out' : SinkState) (after : List ℕ) → Stays items new s0 s → StopsAt f begun result held after out out'
      → (Flushes {T = Unit {0}} begun (Ok tt) held after out out' → ListsItems items line t (Some f) (outside_of s0 ds out0) (outside_of s ds out')) → ListsItems items line t (ending result) (outside_of s0 ds out0) (outside_of s ds out')
  stopped_at ds f result new out' after stays (Ok done, flushes, is) ends = rw is (ends flushes)
  stopped_at ds f result new out' after stays (Err e, flushes, is) ends = rw is (items_unflushed ds e new out' after stays flushes)

  pub stops_refused : (ds : List State) (e : ReadError) (result : Result (Unit {0}) Fault) (new : HeadedFile) (out' : SinkState) (after : List ℕ) → HandsOut (Err e) now new → StopsAt (read_fault e) begun result held after out out' → ListsItems items line t (ending result) (outside_of s0 ds out0) (outside_of s ds out')
  stops_refused ds e result new out' after hands stops = stopped_at ds (read_fault e) result new out' after (stays_held new (Err e) hands) stops (λ flushes. items_refused out' after flushes ds e new hands)

  pub stops_misfit : (ds : List State) (result : Result (Unit {0}) Fault) (new : HeadedFile) (v : Value) (out' : SinkState) (after : List ℕ) → fits t v ≡ false → HandsOut (Ok (item.Value v)) now new → StopsAt (fault.BadFile (place_of now)) begun result held after out out' → ListsItems items line t (ending result) (outside_of s0 ds out0) (outside_of s ds out')
  stops_misfit ds result new v out' after misfit hands stops = stopped_at ds (fault.BadFile (place_of now)) result new out' after (stays_held new (Ok (item.Value v)) hands) stops (λ flushes. misfit_end out' after flushes ds new v misfit hands)

  pub wait_unflushed : (ds : List State) (e : PrintError) (result : Result Item ReadError) (new : HeadedFile) (out' : SinkState) (after : List ℕ) → HandsOut result now new → Flushes {T = Unit {0}} begun (as_stop (Err e)) held after out out' → ListsItems items line t (Some (write_fault e)) (outside_of s0 ds out0) (outside_of s ds out')
  wait_unflushed ds e result new out' after hands flushes = items_unflushed ds e new out' after (stays_held new result hands) flushes

  -- the file was read on
  module _ (new : HeadedFile) (s' : FilesState) where
    stays_fetched : (result : Result (Unit {0}) FileError) → FetchesMore result now new s s' → Stays items new s0 s'
    stays_fetched result fetches = record {
      is_file = ap (λ r. r.items.file) fetches.same ∙ (ap (λ r. r.file) fetches.items.same ∙ so.stays.is_file);
      limit = ap limit_of fetches.same ∙ (ap (λ (r : HeadedFile). limit_of r) (ap (λ i. record now { items = i }) fetches.items.same) ∙ so.stays.limit);
      told = fetches.items.leaves.told ∙ so.stays.told;
      others = λ k ne. fetches.items.leaves.others k (λ is. ne (is ∙ so.stays.is_file)) ∙ so.stays.others k ne;
      is_open = subst (λ n. IsSome (s'.left n)) so.stays.is_file fetches.items.leaves.is_open;
      later = let a = so.stays.later in let b = fetches.items.leaves.later in omega arith;
    }

    came : (result : Result (Unit {0}) FileError) (fetches : FetchesMore result now new s s') (first : Left) (head : Option Ty) (vs : List Value) → HasRead first head vs now (s.left items.items.file) → FetchedMore first head vs result new (s'.left items.items.file)
    came result fetches first head vs has =
        subst (λ n. FetchedMore first head vs result new (s'.left n)) so.stays.is_file
        (fetches.goes first head vs (subst (λ n. HasRead first head vs now (s.left n)) (sym so.stays.is_file) has))

    pub going_fetched : FetchesMore (Ok tt) now new s s' → Going items line t new s0 s' out0 out held begun
    going_fetched fetches = record {
      stays = stays_fetched (Ok tt) fetches;
      well = fetches.items.leaves.well (λ bad. cc) ∙ so.well;
      later = so.later;
      none = so.none;
      printed = λ first head has.
          let p = so.printed first head has in
          record { vs = p.vs; read = came (Ok tt) fetches first head p.vs p.read; fit = p.fit; done = p.done; all = p.all; took = p.took; some = p.some };
    }

    took_lines : begun ≡ false → (first : Left) (head : Option Ty) (p : Printed line t first head now (s.left items.items.file) out0 out held begun) → out.taken ≡ append_known out0.taken (flat_map line p.vs)
    took_lines is first head p = p.took ∙ ap (append_known out0.taken) (sym (p.all ∙ (ap (λ bs. p.done ++ bs) (so.none is) ∙ append-nil p.done)))

    pub items_unfetched : (ds : List State) → (first : Left) × (head : Option Ty) × HasRead first head [] items (s0.left items.items.file) → begun ≡ false → (e : FileError) → FetchesMore (Err e) now new s s' → ListsItems items line t (Some (fetch_fault e)) (outside_of s0 ds out0) (outside_of s' ds out)
    items_unfetched ds (first, head, has) is (error.Bad place) fetches = let p = so.printed first head has in absurd (came (Err (error.Bad place)) fetches first head p.vs p.read)
    items_unfetched ds (first, head, has) is (error.TooDeep place) fetches = let p = so.printed first head has in absurd (came (Err (error.TooDeep place)) fetches first head p.vs p.read)
    items_unfetched ds given is error.TooLong fetches = ends_with ds new s' out (stays_fetched (Err error.TooLong) fetches) (Some fault.FileBytes) tt tt (fetches.items.leaves.well (λ bad. cc) ∙ so.well) (λ bytes head has limit.
        let p = so.printed (Some (Some bytes)) head has in
        let ends = came (Err error.TooLong) fetches (Some (Some bytes)) head p.vs p.read in
        follows_whole ds s0 s' out0 out (listed line t (file_text most_read bytes).items (file_text most_read bytes).behind) (flat_map line p.vs) (Some fault.FileBytes)
        (end_is line t bytes head p.vs new (s'.left items.items.file) ((stays_fetched (Err error.TooLong) fetches).limit ∙ limit) ends.0 p.fit PastLimit ends.1) (took_lines is (Some (Some bytes)) head p))
    items_unfetched ds given is error.Read fetches =
        let rose : Rose s0.faults s'.faults = let a = so.stays.later in let b = fetches.items.leaves.failed refl in omega arith in
        stops_with ds new s' out (stays_fetched (Err error.Read) fetches) fault.Read tt (λ same. rose) (λ same. absurd cc) (λ other. absurd (other refl))
        (cut_off ds new s' out (stays_fetched (Err error.Read) fetches) fault.Read (front_at (λ page. out.taken ≡ append_known out0.taken page) (took_lines is)) (λ page. inl (refl, rose)))
    items_unfetched ds given is error.NoMemory fetches =
        stops_with ds new s' out (stays_fetched (Err error.NoMemory) fetches) fault.NoMemory tt (λ same. absurd cc) (λ same. absurd cc) (λ other. fetches.items.leaves.well (λ bad. cc) ∙ so.well)
        (cut_off ds new s' out (stays_fetched (Err error.NoMemory) fetches) fault.NoMemory (front_at (λ page. out.taken ≡ append_known out0.taken page) (took_lines is)) (λ page. inr (inr refl)))

-- ---- an open file

-- no item is whole
no_values : (xs : List FileItem) → values_of xs ≡ [] → xs ≡ []
no_values [] is = refl
no_values (x ∷ xs) is = absurd cc

-- before the first byte of a file
abbrev pub new_reader : ℕ → HeadedFile
new_reader file = record {
  front = true;
  head = 0;
  items = record { file = file; limit = most_read; piece = 4096; text = record { place = 0; left = []; finished = false; refused = None }; past = false };
  refused = None;
}

opened : (file : ℕ) (left : Left) → HasOpened left (new_reader file) left
opened file left = record { unknown = refl; size = refl; fresh = refl; items = begins_so (new_reader file).items left refl refl }

-- this stands first on the page, and alone where a file has no head and no item
pub record Fronts (of : FileText → Verdict) (front : List ℕ) : Type 0 where
  pub alone : (f : FileText) → f.head ≡ None → f.items ≡ [] → of f ≡ record { page = front; ending = end_fault f.behind }
  pub begins : (f : FileText) → (more : List ℕ) × ((of f).page ≡ front ++ more)
  pub told : (f : FileText) → IsDetermined (of f).ending

pub shown_fronts : Fronts shown []
shown_fronts = record {
  alone = λ f head items. ap (λ xs. listed value_line f.head xs f.behind) items;
  begins = λ f. ((shown f).page, refl);
  told = λ f. listed_told value_line f.head f.items f.behind;
}

upgraded_as : (t : Ty) (f : FileText) (b : Bool) → states_no_other t f.head ≡ b → upgraded t f ≡ behind (head_line t) (if b then listed item_line (Some t) f.items f.behind else refused (fault.BadFile 0))
upgraded_as t f b is = ap (λ c. behind (head_line t) (if c then listed item_line (Some t) f.items f.behind else refused (fault.BadFile 0))) is

pub upgraded_fronts : (t : Ty) → Fronts (upgraded t) (head_line t)
upgraded_fronts t = record {
  alone = λ f head items.
      upgraded_as t f true (ap (states_no_other t) head)
      ∙ (ap (λ xs. behind (head_line t) (listed item_line (Some t) xs f.behind)) items ∙ ap (λ p. record { page = p; ending = end_fault f.behind }) (append-nil (head_line t)));
  begins = λ f. ((if states_no_other t f.head then listed item_line (Some t) f.items f.behind else refused (fault.BadFile 0)).page, refl);
  told = λ f. by f (states_no_other t f.head) refl;
}
  where
    by : (f : FileText) (b : Bool) → states_no_other t f.head ≡ b → IsDetermined (upgraded t f).ending
    by f true is = subst (λ v. IsDetermined v.ending) (sym (upgraded_as t f true is)) (listed_told item_line (Some t) f.items f.behind)
    by f false is = subst (λ v. IsDetermined v.ending) (sym (upgraded_as t f false is)) tt

module _ (ds : List State) (file : ℕ) (s0 s1 : FilesState) (new : HeadedFile) where
  -- where the bytes are known
  at_head : (result : Result (Option Ty) FileError) → ReadsHead result (new_reader file) new s0 s1 → (bytes : List ℕ) → s0.left file ≡ Some (Some bytes) → Opens (Some (Some bytes)) result new (s1.left file)
  at_head result reads bytes known = reads.goes (Some (Some bytes)) (subst (HasOpened (Some (Some bytes)) (new_reader file)) (sym known) (opened file (Some (Some bytes))))

  -- the head was not read, behind a line that was printed
  module _ (of : FileText → Verdict) (front : List ℕ) (fronts : Fronts of front) (out0 out : SinkState) (took : out.taken ≡ append_known out0.taken front) where
    head_end : (end : FileEnd) → EndsSo (s0.left file) None [] end new → limit_of new ≡ most_read → (bytes : List ℕ) → s0.left file ≡ Some (Some bytes) → FollowsFile (of (file_text most_read bytes)) (end_fault end) (outside_of s0 ds out0) (outside_of s1 ds out)
    head_end end ends limit bytes known =
        let text = file_text most_read bytes in
        let one = one_text most_read bytes None text.head [] (values_of text.items) end text.behind (subst (λ n. Shows n bytes None [] end) limit (ends bytes known).0) (text_shows most_read bytes) in
        follows_whole ds s0 s1 out0 out (of text) front (end_fault end)
        (fronts.alone text (sym one.0) (no_values text.items (sym one.1.0)) ∙ ap (λ e. record { page = front; ending = end_fault e }) (sym one.1.1)) took

    head_stop : (f : Fault) → Cause f front s0 s1 out0 out → (bytes : List ℕ) → FollowsFile (of (file_text most_read bytes)) (Some f) (outside_of s0 ds out0) (outside_of s1 ds out)
    head_stop f cause bytes =
        let text = file_text most_read bytes in
        let b = fronts.begins text in
        follows_front ds s0 s1 out0 out (of text) front b.0 f (fronts.told text) b.1 cause (took_all front out0 out took)

    head_reads : (e : FileError) → ReadsHead (Err e) (new_reader file) new s0 s1 → ReadsOn file (Some (fetch_fault e)) (outside_of s0 ds out0) (outside_of s1 ds out)
    head_reads e reads = record {
      told = reads.leaves.told;
      others = reads.leaves.others;
      is_open = reads.leaves.is_open;
      later = reads.leaves.later;
      read = λ is. reads.leaves.failed (is_read e is);
      write = λ is. absurd (no_write e is);
      no_other = other e;
      unfailed = λ fine. reads.leaves.well (λ is. fine (as_read e is));
    }
      where
        is_read : (e : FileError) → Some (fetch_fault e) ≡ Some fault.Read → IsErrOf {T = Option Ty} (Err e) error.Read
        is_read (error.Bad place) is = absurd cc
        is_read (error.TooDeep place) is = absurd cc
        is_read error.TooLong is = absurd cc
        is_read error.Read is = refl
        is_read error.NoMemory is = absurd cc

        as_read : (e : FileError) → IsErrOf {T = Option Ty} (Err e) error.Read → Some (fetch_fault e) ≡ Some fault.Read
        as_read e is = cc

        no_write : (e : FileError) → Some (fetch_fault e) ≡ Some fault.Write → ⊥
        no_write (error.Bad place) is = cc
        no_write (error.TooDeep place) is = cc
        no_write error.TooLong is = cc
        no_write error.Read is = cc
        no_write error.NoMemory is = cc

        other : (e : FileError) → HasFault (Show []) (fetch_fault e)
        other (error.Bad place) = tt
        other (error.TooDeep place) = tt
        other error.TooLong = tt
        other error.Read = tt
        other error.NoMemory = tt

    pub head_failed : (e : FileError) → ReadsHead (Err e) (new_reader file) new s0 s1 → ListsFile file of (Some (fetch_fault e)) (outside_of s0 ds out0) (outside_of s1 ds out)
    head_failed e reads = record { reads = head_reads e reads; follows = by e reads }
      where
        by : (e : FileError) → ReadsHead (Err e) (new_reader file) new s0 s1 → (bytes : List ℕ) → s0.left file ≡ Some (Some bytes) → FollowsFile (of (file_text most_read bytes)) (Some (fetch_fault e)) (outside_of s0 ds out0) (outside_of s1 ds out)
        by (error.Bad place) reads bytes known = head_end (BadAt place) (reads.goes (s0.left file) (opened file (s0.left file))) reads.same.limit bytes known
        by (error.TooDeep place) reads bytes known = head_end (TooDeepAt place) (reads.goes (s0.left file) (opened file (s0.left file))) reads.same.limit bytes known
        by error.TooLong reads bytes known = head_end PastLimit (reads.goes (s0.left file) (opened file (s0.left file))) reads.same.limit bytes known
        by error.Read reads bytes known = head_stop fault.Read (inl (refl, reads.leaves.failed refl)) bytes
        by error.NoMemory reads bytes known = head_stop fault.NoMemory (inr (inr refl)) bytes

  -- the head was read
  module _ (head : Option Ty) (reads : ReadsHead (Ok head) (new_reader file) new s0 s1) where
    text_head : (bytes : List ℕ) → s0.left file ≡ Some (Some bytes) → head ≡ (file_text most_read bytes).head
    text_head bytes known = head_is value_line head bytes head [] new (s1.left file) reads.same.limit (at_head (Ok head) reads bytes known) tt

    listed_reads : (end : Ending) (s2 : FilesState) (out0 out1 out2 : SinkState) → out0.faults ≤ out1.faults → ReadsOn new.items.file end (outside_of s1 ds out1) (outside_of s2 ds out2) → ReadsOn file end (outside_of s0 ds out0) (outside_of s2 ds out2)
    listed_reads end s2 out0 out1 out2 later on = record {
      told = on.told ∙ reads.leaves.told;
      others = λ k ne. on.others k (λ is. ne (is ∙ reads.same.file)) ∙ reads.leaves.others k ne;
      is_open = subst (λ n. IsSome (s2.left n)) reads.same.file on.is_open;
      later = let a = reads.leaves.later in let b = on.later in omega arith;
      read = λ is. let a = reads.leaves.later in let b = on.read is in omega arith;
      write = λ is. let b = on.write is in omega arith;
      no_other = on.no_other;
      unfailed = λ fine. on.unfailed fine ∙ reads.leaves.well (λ bad. cc);
    }

    listed_follows : (line : Value → List ℕ) (t : Option Ty) (end : Ending) (s2 : FilesState) (out1 out2 : SinkState) → ListsItems new line t end (outside_of s1 ds out1) (outside_of s2 ds out2) → (bytes : List ℕ) → s0.left file ≡ Some (Some bytes)
        → FollowsFile (listed line t (file_text most_read bytes).items (file_text most_read bytes).behind) end (outside_of s0 ds out1) (outside_of s2 ds out2)
    listed_follows line t end s2 out1 out2 lists bytes known =
        follows_before ds (listed line t (file_text most_read bytes).items (file_text most_read bytes).behind) end s0 s1 s2 out1 out2 reads.leaves.later
        (lists.follows bytes head (subst (λ n. HasRead (Some (Some bytes)) head [] new (s1.left n)) (sym reads.same.file) (at_head (Ok head) reads bytes known)) reads.same.limit)

    pub show_listed : (end : Ending) (s2 : FilesState) (out out' : SinkState) → ListsItems new value_line head end (outside_of s1 ds out) (outside_of s2 ds out') → ListsFile file shown end (outside_of s0 ds out) (outside_of s2 ds out')
    show_listed end s2 out out' lists = record {
      reads = listed_reads end s2 out out out' (omega arith) lists.reads;
      follows = λ bytes known.
          subst (λ h. FollowsFile (listed value_line h (file_text most_read bytes).items (file_text most_read bytes).behind) end (outside_of s0 ds out) (outside_of s2 ds out')) (text_head bytes known)
          (listed_follows value_line head end s2 out out' lists bytes known);
    }

    module _ (t : Ty) (out0 out1 : SinkState) (writes : WritesWhole {T = Unit {0}} (head_line t) (Ok tt) out0 out1) where
      stated : (b : Bool) → states_no_other t head ≡ b → (bytes : List ℕ) → s0.left file ≡ Some (Some bytes)
          → behind (head_line t) (if b then listed item_line (Some t) (file_text most_read bytes).items (file_text most_read bytes).behind else refused (fault.BadFile 0)) ≡ upgraded t (file_text most_read bytes)
      stated b is bytes known = sym (upgraded_as t (file_text most_read bytes) b (ap (states_no_other t) (sym (text_head bytes known)) ∙ is))

      pub upgrade_listed : states_no_other t head ≡ true → (end : Ending) (s2 : FilesState) (out2 : SinkState) → ListsItems new item_line (Some t) end (outside_of s1 ds out1) (outside_of s2 ds out2) → ListsFile file (upgraded t) end (outside_of s0 ds out0) (outside_of s2 ds out2)
      upgrade_listed is end s2 out2 lists = record {
        reads = listed_reads end s2 out0 out1 out2 writes.cause.later lists.reads;
        follows = λ bytes known.
            subst (λ v. FollowsFile v end (outside_of s0 ds out0) (outside_of s2 ds out2)) (stated true is bytes known)
            (follows_behind ds (head_line t) (listed item_line (Some t) (file_text most_read bytes).items (file_text most_read bytes).behind) end s0 s2 out0 out1 out2 writes (listed_follows item_line (Some t) end s2 out1 out2 lists bytes known));
      }

      pub upgrade_other : states_no_other t head ≡ false → ListsFile file (upgraded t) (Some (fault.BadFile 0)) (outside_of s0 ds out0) (outside_of s1 ds out1)
      upgrade_other is = record {
        reads = record {
          told = reads.leaves.told;
          others = reads.leaves.others;
          is_open = reads.leaves.is_open;
          later = reads.leaves.later;
          read = λ same. absurd cc;
          write = λ same. absurd cc;
          no_other = tt;
          unfailed = λ fine. reads.leaves.well (λ bad. cc);
        };
        follows = λ bytes known.
            follows_whole ds s0 s1 out0 out1 (upgraded t (file_text most_read bytes)) (head_line t) (Some (fault.BadFile 0))
            (sym (stated false is bytes known) ∙ ap (λ p. record { page = p; ending = Some (fault.BadFile 0) }) (append-nil (head_line t))) writes.took;
      }

-- the line of the head was refused
pub upgrade_unput : (ds : List State) (file : ℕ) (t : Ty) (e : Stop) (s : FilesState) (out0 out : SinkState) → IsSome (s.left file) → WritesWhole {T = Unit {0}} (head_line t) (Err e) out0 out
    → ListsFile file (upgraded t) (Some (stop_fault e)) (outside_of s ds out0) (outside_of s ds out)
upgrade_unput ds file t e s out0 out is_open writes = record {
  reads = record { told = refl; others = λ k ne. refl; is_open = is_open; later = omega arith; read = λ is. absurd (no_read e is); write = λ is. writes.cause.failed (is_failed e is); no_other = other e; unfailed = λ fine. refl };
  follows = λ bytes known.
      let text = file_text most_read bytes in
      let b = (upgraded_fronts t).begins text in
      follows_front ds s s out0 out (upgraded t text) (head_line t) b.0 (stop_fault e) ((upgraded_fronts t).told text) b.1 (cause e writes) writes.part;
}
  where
    cause : (e : Stop) → WritesWhole {T = Unit {0}} (head_line t) (Err e) out0 out → Cause (stop_fault e) (head_line t) s s out0 out
    cause stop.Failed writes = inr (inl (refl, writes.cause.failed refl, λ is. cc))
    cause stop.NoMemory writes = inr (inr refl)

    no_read : (e : Stop) → Some (stop_fault e) ≡ Some fault.Read → ⊥
    no_read stop.Failed is = cc
    no_read stop.NoMemory is = cc

    is_failed : (e : Stop) → Some (stop_fault e) ≡ Some fault.Write → IsErrOf {T = Unit {0}} (Err e) stop.Failed
    is_failed stop.Failed is = refl
    is_failed stop.NoMemory is = absurd cc

    other : (e : Stop) → HasFault (Show []) (stop_fault e)
    other stop.Failed = tt
    other stop.NoMemory = tt

-- ---- the file at a path

-- what a missing file comes to, of which nothing is printed
missing_follows : (ds : List State) (v : Verdict) (f f' : FilesState) (out : SinkState) → v ≡ refused fault.Read → FollowsFile v (Some fault.Read) (outside_of f ds out) (outside_of f' ds out)
missing_follows ds v f f' out is = follows_whole ds f f' out out v [] (Some fault.Read) is (sym (append_known-nil out.taken))

-- nothing is printed before a fault of the outside
nothing_follows : (ds : List State) (v : Verdict) (e : Fault) (f f' : FilesState) (out : SinkState) → IsDetermined v.ending → Cause e [] f f' out out → FollowsFile v (Some e) (outside_of f ds out) (outside_of f' ds out)
nothing_follows ds v e f f' out told cause = follows_front ds f f' out out v [] v.page e told refl cause (took_none [] out out refl)

never_at_type : (word : List ℕ) (t : Ty) → ReadsType word t → (end : Ending) → EndsAtType word end → ⊥
never_at_type word t reads None at = at
never_at_type word t reads (Some f) at = fault_none word t f reads at

-- a file could not be opened
module _ (path : List ℕ) (ds : List State) (f f' : FilesState) (out : SinkState) where
  unopened : (stop : Stop) → OpensPath path (Err stop) f f' → (told : List ℕ → Option (List ℕ)) → f.told ≡ Some told → (of : List ℕ → Verdict → Type 0) → ((bytes : List ℕ) (v : Verdict) → of bytes v → IsDetermined v.ending)
      → (file : Option (List ℕ)) → told path ≡ file → (v : Verdict) → IsFile of file v → FollowsFile v (Some (open_fault stop)) (outside_of f ds out) (outside_of f' ds out)
  unopened stop.Failed opens told is of sure None at v has = missing_follows ds v f f' out has
  unopened stop.Failed opens told is of sure (Some bytes) at v has = nothing_follows ds v fault.Read f f' out (sure bytes v has) (inl (
    refl,
    elim (opens.failed refl) [
      | inl missing ↦ absurd (let one : told ≡ missing.0 = let a = sym is ∙ missing.1 in cc in let b = ap (λ t. t path) one in let d = missing.2 in cc)
      | inr rose ↦ rose
    ],
  ))
  unopened stop.NoMemory opens told is of sure None at v has = absurd (let a = (opens.missing (told, is, at)).0 in cc)
  unopened stop.NoMemory opens told is of sure (Some bytes) at v has = nothing_follows ds v fault.NoMemory f f' out (sure bytes v has) (inr (inr refl))

  open_untold : (stop : Stop) → IsDetermined (Some (open_fault stop)) → ⊥
  open_untold stop.Failed told = told
  open_untold stop.NoMemory told = told

  open_read : (stop : Stop) → OpensPath path (Err stop) f f' → Some (open_fault stop) ≡ Some fault.Read → IsMissing f path ⊎ Rose f.faults f'.faults
  open_read stop.Failed opens is = opens.failed refl
  open_read stop.NoMemory opens is = absurd cc

  open_write : (stop : Stop) → Some (open_fault stop) ≡ Some fault.Write → ⊥
  open_write stop.Failed is = cc
  open_write stop.NoMemory is = cc

  open_other : (stop : Stop) → HasFault (Show []) (open_fault stop)
  open_other stop.Failed = tt
  open_other stop.NoMemory = tt

  open_unfailed : (stop : Stop) → OpensPath path (Err stop) f f' → (Some (open_fault stop) ≡ Some fault.Read → ⊥) → f'.faults ≡ f.faults
  open_unfailed stop.Failed opens fine = absurd (fine refl)
  open_unfailed stop.NoMemory opens fine = opens.counts

  shown_sure : (bytes : List ℕ) (v : Verdict) → IsShowing bytes v → IsDetermined v.ending
  shown_sure bytes v has = subst (λ w. IsDetermined w.ending) (sym has) (shown_fronts.told (file_text most_read bytes))

  pub show_unopened : (stop : Stop) → OpensPath path (Err stop) f f' → DoesShow path (Some (open_fault stop)) (outside_of f ds out) (outside_of f' ds out)
  show_unopened stop opens = record {
    follows = λ told is v has. unopened stop opens told is IsShowing shown_sure (told path) refl v has;
    meant = λ told is well. absurd (open_untold stop well);
    read = open_read stop opens;
    write = λ is. absurd (open_write stop is);
    no_other = as_path path (Some (open_fault stop)) (open_other stop);
    unfailed = open_unfailed stop opens;
    left = opens.refused;
    told = opens.told;
  }

  pub upgrade_unopened : (word : List ℕ) (t : Ty) → ReadsType word t → (stop : Stop) → OpensPath path (Err stop) f f' → DoesUpgrade path word (Some (open_fault stop)) (outside_of f ds out) (outside_of f' ds out)
  upgrade_unopened word t reads stop opens = record {
    follows = λ told is v has. by told is v has;
    meant = λ told is well. absurd (open_untold stop well);
    read = λ is. elim (open_read stop opens is) [ inl missing ↦ inl (missing, (t, reads)) | inr rose ↦ inr rose ];
    silent = λ at. absurd (never_at_type word t reads (Some (open_fault stop)) at);
    write = λ is. absurd (open_write stop is);
    no_other = as_word path word (Some (open_fault stop)) (open_other stop);
    unfailed = open_unfailed stop opens;
    left = opens.refused;
    told = opens.told;
  }
    where
      by : (told : List ℕ → Option (List ℕ)) → f.told ≡ Some told → (v : Verdict) → IsUpgrading word (told path) v → FollowsFile v (Some (open_fault stop)) (outside_of f ds out) (outside_of f' ds out)
      by told is v (inl (g, wrong, e)) = absurd (fault_none word t g reads wrong)
      by told is v (inr (u, also, has)) =
          unopened stop opens told is (λ bytes w. w ≡ upgraded u (file_text most_read bytes)) (λ bytes w eq. subst (λ x. IsDetermined x.ending) (sym eq) ((upgraded_fronts u).told (file_text most_read bytes))) (told path) refl v has

-- ends that are as what bytes determine are those of the verdict
follows_meant : (v : Verdict) (end : Ending) (old new : Outside) → FollowsFile v end old new → IsDetermined end → v.ending ≡ end
follows_meant v end old new follows well = elim follows.ends [
  | inl h ↦ sym h
  | inr (inl h) ↦ absurd (subst IsDetermined h.0 well)
  | inr (inr (inl h)) ↦ absurd (subst IsDetermined h.0 well)
  | inr (inr (inr h)) ↦ absurd (subst IsDetermined h well)
]

-- a file was opened, listed and closed
module _ (path : List ℕ) (ds : List State) (file : ℕ) (of : FileText → Verdict) (end : Ending) (s0 s1 s2 s3 : FilesState) (out out' : SinkState)
    (opens : OpensPath path (Ok file) s0 s1) (lists : ListsFile file of end (outside_of s1 ds out) (outside_of s2 ds out')) (closes : Closes file s2 s3) where
  at : (told : List ℕ → Option (List ℕ)) → s0.told ≡ Some told → (bytes : List ℕ) → told path ≡ Some bytes → s1.left file ≡ Some (Some bytes)
  at told is bytes has = opens.left ∙ ap Some (ap (λ t. left_at_first t path) is ∙ has)

  gone : (told : List ℕ → Option (List ℕ)) → s0.told ≡ Some told → told path ≡ None → ⊥
  gone told is none = let a = (opens.missing (told, is, none)).0 in cc

  rose : Rose s1.faults s2.faults → Rose s0.faults s3.faults
  rose r = let a = opens.later in let c = closes.faults in omega arith

  done_follows : (told : List ℕ → Option (List ℕ)) → s0.told ≡ Some told → (bytes : List ℕ) → told path ≡ Some bytes → FollowsFile (of (file_text most_read bytes)) end (outside_of s0 ds out) (outside_of s3 ds out')
  done_follows told is bytes has =
      let follows = lists.follows bytes (at told is bytes has) in
      record {
        ends = elim follows.ends [ inl h ↦ inl h | inr (inl h) ↦ inr (inl (h.0, rose h.1)) | inr (inr h) ↦ inr (inr h) ];
        whole = follows.whole;
        part = follows.part;
      }

  file_done : (told : List ℕ → Option (List ℕ)) → s0.told ≡ Some told → (found : Option (List ℕ)) → told path ≡ found → (v : Verdict) → IsFile (λ bytes w. w ≡ of (file_text most_read bytes)) found v → FollowsFile v end (outside_of s0 ds out) (outside_of s3 ds out')
  file_done told is None has v eq = absurd (gone told is has)
  file_done told is (Some bytes) has v eq = subst (λ w. FollowsFile w end (outside_of s0 ds out) (outside_of s3 ds out')) (sym eq) (done_follows told is bytes has)

  file_meant : (told : List ℕ → Option (List ℕ)) → s0.told ≡ Some told → (found : Option (List ℕ)) → told path ≡ found → IsDetermined end → (v : Verdict) × IsFile (λ bytes w. w ≡ of (file_text most_read bytes)) found v × (v.ending ≡ end)
  file_meant told is None has well = absurd (gone told is has)
  file_meant told is (Some bytes) has well =
      (of (file_text most_read bytes), refl, follows_meant (of (file_text most_read bytes)) end (outside_of s0 ds out) (outside_of s3 ds out') (done_follows told is bytes has) well)

  all_left : s3.left ≡ s0.left
  all_left = fun_ext (same_left file s0 s1 s2 s3 opens.fresh opens.others lists.reads.others closes.others closes.closed)

  unfailed : (end ≡ Some fault.Read → ⊥) → s3.faults ≡ s0.faults
  unfailed fine = closes.faults ∙ (lists.reads.unfailed fine ∙ opens.counts)

pub show_done : (path : List ℕ) (ds : List State) (file : ℕ) (end : Ending) (s0 s1 s2 s3 : FilesState) (out out' : SinkState) → OpensPath path (Ok file) s0 s1 → ListsFile file shown end (outside_of s1 ds out) (outside_of s2 ds out') → Closes file s2 s3 → DoesShow path end (outside_of s0 ds out) (outside_of s3 ds out')
show_done path ds file end s0 s1 s2 s3 out out' opens lists closes = record {
  follows = λ told is v has. file_done path ds file shown end s0 s1 s2 s3 out out' opens lists closes told is (told path) refl v has;
  meant = λ told is well. file_meant path ds file shown end s0 s1 s2 s3 out out' opens lists closes told is (told path) refl well;
  read = λ is. inr (rose path ds file shown end s0 s1 s2 s3 out out' opens lists closes (lists.reads.read is));
  write = lists.reads.write;
  no_other = as_path path end lists.reads.no_other;
  unfailed = unfailed path ds file shown end s0 s1 s2 s3 out out' opens lists closes;
  left = all_left path ds file shown end s0 s1 s2 s3 out out' opens lists closes;
  told = closes.told ∙ (lists.reads.told ∙ opens.told);
}

pub upgrade_done : (path word : List ℕ) (t : Ty) (ds : List State) (file : ℕ) (end : Ending) (s0 s1 s2 s3 : FilesState) (out out' : SinkState) → ReadsType word t → OpensPath path (Ok file) s0 s1 → ListsFile file (upgraded t) end (outside_of s1 ds out) (outside_of s2 ds out') → Closes file s2 s3 → DoesUpgrade path word end (outside_of s0 ds out) (outside_of s3 ds out')
upgrade_done path word t ds file end s0 s1 s2 s3 out out' reads opens lists closes = record {
  follows = follows;
  meant = λ told is well. let m = file_meant path ds file (upgraded t) end s0 s1 s2 s3 out out' opens lists closes told is (told path) refl well in (m.0, inr (t, reads, m.1), m.2);
  read = λ is. inr (rose path ds file (upgraded t) end s0 s1 s2 s3 out out' opens lists closes (lists.reads.read is));
  write = lists.reads.write;
  silent = λ at. absurd (never_at_type word t reads end at);
  no_other = as_word path word end lists.reads.no_other;
  unfailed = unfailed path ds file (upgraded t) end s0 s1 s2 s3 out out' opens lists closes;
  left = all_left path ds file (upgraded t) end s0 s1 s2 s3 out out' opens lists closes;
  told = closes.told ∙ (lists.reads.told ∙ opens.told);
}
  where
    follows : (told : List ℕ → Option (List ℕ)) → s0.told ≡ Some told → (v : Verdict) → IsUpgrading word (told path) v → FollowsFile v end (outside_of s0 ds out) (outside_of s3 ds out')
    follows told is v (inl (f, wrong, eq)) = absurd (fault_none word t f reads wrong)
    follows told is v (inr (u, also, has)) =
        file_done path ds file (upgraded t) end s0 s1 s2 s3 out out' opens lists closes told is (told path) refl v (subst (λ w. IsFile (λ bytes x. x ≡ upgraded w (file_text most_read bytes)) (told path) v) (one_type word u t also reads) has)

-- ---- the word

-- no verdict is want of memory
pub showing_unwanted : (found : Option (List ℕ)) (v : Verdict) → IsFile IsShowing found v → v.ending ≡ Some fault.NoMemory → ⊥
showing_unwanted None v has is = let both : Some fault.Read ≡ Some fault.NoMemory = ap (λ w. w.ending) (sym has) ∙ is in cc
showing_unwanted (Some bytes) v has is = subst IsDetermined (ap (λ w. w.ending) (sym has) ∙ is) (shown_fronts.told (file_text most_read bytes))

pub upgrading_unwanted : (word : List ℕ) (found : Option (List ℕ)) (v : Verdict) → IsUpgrading word found v → v.ending ≡ Some fault.NoMemory → ⊥
upgrading_unwanted word found v (inl (f, inl (byte, this, eq), has)) is = let both : Some (fault.NoType byte) ≡ Some fault.NoMemory = sym (ap Some eq) ∙ (ap (λ w. w.ending) (sym has) ∙ is) in cc
upgrading_unwanted word found v (inl (f, inr (byte, this, eq), has)) is = let both : Some fault.Nesting ≡ Some fault.NoMemory = sym (ap Some eq) ∙ (ap (λ w. w.ending) (sym has) ∙ is) in cc
upgrading_unwanted word None v (inr (t, reads, has)) is = let both : Some fault.Read ≡ Some fault.NoMemory = ap (λ w. w.ending) (sym has) ∙ is in cc
upgrading_unwanted word (Some bytes) v (inr (t, reads, has)) is = subst IsDetermined (ap (λ w. w.ending) (sym has) ∙ is) ((upgraded_fronts t).told (file_text most_read bytes))

-- the word is no type, and nothing else is looked at
pub upgrade_refused : (path word : List ℕ) (ds : List State) (f : Fault) (s : FilesState) (out : SinkState) → IsTypeFault word f → DoesUpgrade path word (Some f) (outside_of s ds out) (outside_of s ds out)
upgrade_refused path word ds f s out wrong = record {
  follows = λ told is v has. follows_whole ds s s out out v [] (Some f) (by told v has) (sym (append_known-nil out.taken));
  meant = λ told is well. (refused f, inl (f, wrong, refl), refl);
  read = λ is. absurd (subst IsDetermined is told);
  write = λ is. absurd (subst IsDetermined is told);
  no_other = other;
  silent = λ at. refl;
  unfailed = λ fine. refl;
  left = refl;
  told = refl;
}
  where
    by : (told : List ℕ → Option (List ℕ)) (v : Verdict) → IsUpgrading word (told path) v → v ≡ refused f
    by told v (inl (g, also, eq)) = eq ∙ ap refused (one_fault word g f also wrong)
    by told v (inr (t, reads, has)) = absurd (fault_none word t f reads wrong)

    told : IsDetermined (Some f)
    told = elim wrong [
      | inl (byte, this, is) ↦ subst (λ g. IsDetermined (Some g)) (sym is) tt
      | inr (byte, this, is) ↦ subst (λ g. IsDetermined (Some g)) (sym is) tt
    ]

    other : HasFault (Upgrade path word) f
    other = elim wrong [
      | inl (byte, this, is) ↦ subst (HasFault (Upgrade path word)) (sym is) (inl (byte, this, refl))
      | inr (byte, this, is) ↦ subst (HasFault (Upgrade path word)) (sym is) (inr (byte, this, refl))
    ]

-- want of memory, before a file is opened
pub upgrade_wanted : (path word : List ℕ) (ds : List State) (s : FilesState) (out : SinkState) → DoesUpgrade path word (Some fault.NoMemory) (outside_of s ds out) (outside_of s ds out)
upgrade_wanted path word ds s out = record {
  follows = λ told is v has. record {
    ends = inr (inr (inr refl));
    whole = λ same. absurd (upgrading_unwanted word (told path) v has (sym same));
    part = took_none v.page out out refl;
  };
  meant = λ told is well. absurd well;
  read = λ is. absurd cc;
  write = λ is. absurd cc;
  no_other = tt;
  silent = λ at. refl;
  unfailed = λ fine. refl;
  left = refl;
  told = refl;
}

-- ---- lines

pub line_some : (f : Form) (v : Value) → line_of f v ≢ []
line_some form.Values v = no_back (text_of v) (codes "\n") (λ is. cc)
line_some form.Items v = no_back (text_of v) (codes ";\n") (λ is. cc)
