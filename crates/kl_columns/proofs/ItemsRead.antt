-- The items of a file of values, one by one.
use Rattle.std.proofs.Common.{◌≡◌, inr, ℕ, ◌+◌, ◌<◌, ◌≤◌, Bool, true, false, ◌&&◌, List, [], ◌∷◌, ◌++◌, length, Option, Some, None, IsSome, Result, Ok, Err, IsErrOf, refl, sym, ap, subst, ◌∙◌, arith, length-append}
use Rattle.std.proofs.lemmas.Bool.{and_parts}
use Rattle.std.proofs.lemmas.List.Folds.{list_all-append}
use Rattle.kl_base.proofs.Rises.{rose_after}
use Rattle.kl_base.specs.Counts.{Rose}
use Rattle.kl_value.specs.declared.Value.{Value}
use Rattle.kl_type.specs.Has.{has_type}
use Rattle.kl_type.specs.declared.ground.Ty.{Ty}
use Rattle.kl_type.specs.declared.ground.Ty.TheVariants as ty
use Rattle.kl_outside.specs.Files.{FilesState, Closes, OpensPath, OtherFiles, left_at_first}
use Rattle.kl_outside.specs.declared.stop.Stop.TheVariants as stop
use Rattle.kl_exchange.specs.FileItems.{FileEnd, WholeText, BadAt, TooDeepAt, PastLimit, most_read, reading}
use Rattle.kl_exchange.specs.FileReading.{Left, to_come}
use Rattle.kl_exchange.specs.Found.{values_of}
use Rattle.kl_exchange.specs.declared.error.FileError.{FileError}
use Rattle.kl_exchange.specs.declared.error.FileError.TheVariants as fault
use Rattle.kl_exchange.proofs.FileReading.{begins_so}
use Rattle.kl_heads.specs.FileReading.{EndsSo, HasOpened, HasRead, HeadedFile, NextItem, Opens, ReadsHead, Stands, limit_of, place_of}
use Rattle.kl_heads.specs.Files.{Shows}
use Rattle.kl_heads.specs.Found.{FileText, file_text}
use Rattle.kl_heads.specs.Stated.{states_no_other}
use Rattle.kl_heads.proofs.FoundText.{text_shows}
use Rattle.kl_heads.proofs.OneEnd.{one_text}
use Rattle.kl_heads.proofs.Shown.{first_shown}
use Rattle.kl_ask.specs.Driver.{Bad, Rows}
use Rattle.kl_nested.specs.Contents.{stored_behind, stored_in}
use Rattle.kl_nested.specs.Handing.{AllHave}
use Rattle.kl_nested.proofs.Places.{items_few}
use Rattle.kl_nested.proofs.SameTypes.{same_type}
use Rattle.kl_nested.proofs.Standings.{ends_at, head_read, misfits}
use Rattle.kl_shape.specs.Joining.{Joins}
use Rattle.kl_shape.specs.Shapes.{filled, fits, sound}
use Rattle.kl_shape.specs.declared.shape.Shape.{Shape}
use Rattle.kl_shape.proofs.Fills.{is_filled}
use Rattle.kl_columns.specs.Reading.{IsBeforeItems, IsLeastOf, JoinsItem, ReadsItems, ReadsOpen, ReadsThrough, ReadsValues, unread_as}
use Rattle.kl_columns.specs.Values.{IsFound, IsItemType, IsListedAs, IsPrincipal, MayHave, all_have}
use Rattle.kl_columns.specs.declared.values.Unfit.{Unfit}
use Rattle.kl_columns.specs.declared.values.Unfit.TheVariants as unfit

-- ---- what stands in a file

each_has : (vs : List Value) (t : Ty) → all_have vs t ≡ true → AllHave t vs
each_has [] t all = tt
each_has (v ∷ vs) t all = let both = and_parts (has_type v t) (all_have vs t) all in (both.0, each_has vs t both.1)

all_more : (vs : List Value) (v : Value) (t : Ty) → all_have vs t ≡ true → has_type v t ≡ true → all_have (vs ++ v ∷ []) t ≡ true
all_more vs v t all one = list_all-append (λ w. has_type w t) vs (v ∷ []) ∙ (λ i. all i && (one i && true))

pub its_own : (t : Ty) → states_no_other t (Some t) ≡ true
its_own t = (same_type t t).1 refl

module _ (bytes : List ℕ) where
  abbrev text : FileText
  text = file_text most_read bytes

  module _ (head : Option Ty) (vs : List Value) (end : FileEnd) (shows : Shows most_read bytes head vs end) (t : Ty) (fits_head : states_no_other t head ≡ true) (all : all_have vs t ≡ true) where
    one : (text.head ≡ head) × ((values_of text.items ≡ vs) × (text.behind ≡ end))
    one = one_text most_read bytes text.head head (values_of text.items) vs text.behind end (text_shows most_read bytes) shows

    stored : stored_in most_read bytes t ≡ stored_behind most_read vs end
    stored = ends_at most_read bytes t head vs end fits_head (each_has vs t all) shows

    pub found_there : MayHave head vs t → IsFound bytes (stored_behind most_read vs end)
    found_there may = (t, subst (λ h. MayHave h (values_of text.items) t) (sym one.0) (subst (λ ws. MayHave head ws t) (sym one.1.0) may), stored)

  pub item_type : (head : Option Ty) (vs : List Value) → Shows most_read bytes head vs WholeText → (t : Ty) → states_no_other t head ≡ true → all_have vs t ≡ true → IsListedAs head vs t → IsItemType bytes t
  item_type head vs shows t fits_head all listed =
      let here = one head vs WholeText shows t fits_head all in
      record {
        rows = stored head vs WholeText shows t fits_head all ∙ ap Rows (sym here.1.0);
        listed = subst (λ h. IsListedAs h (values_of text.items) t) (sym here.0) (subst (λ ws. IsListedAs head ws t) (sym here.1.0) listed);
      }

-- ---- on the way through it

pub record Underway (head : Option Ty) (start : HeadedFile) (old : FilesState) (now : HeadedFile) (new : FilesState) (values : List Value) : Type 0 where
  pub goes : (first : Left) → HasRead first head [] start (old.left start.items.file) → HasRead first head values now (new.left start.items.file)
  pub same_file : now.items.file ≡ start.items.file
  pub same_limit : limit_of now ≡ limit_of start
  pub told : new.told ≡ old.told
  pub others : OtherFiles start.items.file old new
  pub is_open : IsSome (new.left start.items.file)
  pub later : old.faults ≤ new.faults

pub begun : (head : Option Ty) (start : HeadedFile) (old : FilesState) → IsSome (old.left start.items.file) → Underway head start old start old []
begun head start old is_open = record {
  goes = λ first h. h;
  same_file = refl;
  same_limit = refl;
  told = refl;
  others = λ k ne. refl;
  is_open = is_open;
  later = omega arith;
}

-- what was found, told otherwise
pub found_as : (o p : Option Value) (now then : HeadedFile) (new after : FilesState) → o ≡ p → NextItem (Ok o) now then new after → NextItem (Ok p) now then new after
found_as o p now then new after is next = subst (λ x. NextItem (Ok x) now then new after) is next

module _ (head : Option Ty) (start : HeadedFile) (old : FilesState) (now : HeadedFile) (new : FilesState) (values : List Value) (u : Underway head start old now new values) where
  -- more can be read
  pub may_read : IsBeforeItems head start (old.left start.items.file) → IsSome (new.left now.items.file) × (now.front ≡ false)
  may_read before = (subst (λ k. IsSome (new.left k)) (sym u.same_file) u.is_open, (u.goes before.first before.has_read).known)

  -- as many items as were read
  pub few : IsBeforeItems head start (old.left start.items.file) → length values ≤ most_read
  few before =
      let has = u.goes before.first before.has_read in
      let a = items_few has.items.read values has.items.items in
      let b = has.items.place in
      let c = has.items.within in
      let d : limit_of now ≡ most_read = u.same_limit ∙ before.limit_is in
      omega arith

  module _ (found : Result (Option Value) FileError) (then : HeadedFile) (after : FilesState) (next : NextItem found now then new after) where
    stands : (first : Left) → HasRead first head [] start (old.left start.items.file) → Stands first head values found then (after.left start.items.file)
    stands first h =
        subst (λ k. Stands first head values found then (after.left k)) u.same_file
        (next.goes first head values (subst (λ k. HasRead first head values now (new.left k)) (sym u.same_file) (u.goes first h)))

    others_on : OtherFiles start.items.file old after
    others_on k ne = next.leaves.others k (λ is. ne (is ∙ u.same_file)) ∙ u.others k ne

    open_on : IsSome (after.left start.items.file)
    open_on = subst (λ k. IsSome (after.left k)) u.same_file next.leaves.is_open

    later_on : old.faults ≤ after.faults
    later_on = let a = u.later in let b = next.leaves.later in omega arith

    limit_on : limit_of start ≡ most_read → limit_of then ≡ most_read
    limit_on is = next.same.limit ∙ (u.same_limit ∙ is)

    file_left : (result : Result Ty Unfit) → (IsErrOf result unfit.Read → Rose old.faults after.faults) → ReadsOpen start.items.file result old after
    file_left result failed = record { told = next.leaves.told ∙ u.told; others = others_on; is_open = open_on; later = later_on; failed = failed }

    -- where there was no memory
    wanted : ReadsItems head (Err unfit.NoMemory) start old after
    wanted = record { reads = file_left (Err unfit.NoMemory) (λ is. absurd cc); known = λ bytes h. tt }

  module _ (then : HeadedFile) (after : FilesState) where
    pub one_more : (v : Value) → NextItem (Ok (Some v)) now then new after → Underway head start old then after (values ++ v ∷ []) × (to_come then.items < to_come now.items)
    one_more v next = (
      record {
        goes = stands (Ok (Some v)) then after next;
        same_file = next.same.file ∙ u.same_file;
        same_limit = next.same.limit ∙ u.same_limit;
        told = next.leaves.told ∙ u.told;
        others = others_on (Ok (Some v)) then after next;
        is_open = open_on (Ok (Some v)) then after next;
        later = later_on (Ok (Some v)) then after next;
      },
      next.less v refl,
    )

    module _ (before : IsBeforeItems head start (old.left start.items.file)) (t : Ty) (fits_head : states_no_other t head ≡ true) (all : all_have values t ≡ true) where
      pub all_read : NextItem (Ok None) now then new after → IsListedAs head values t → ReadsItems head (Ok t) start old after
      all_read next listed = record {
        reads = file_left (Ok None) then after next (Ok t) (λ is. absurd cc);
        known = λ bytes h.
            let so = stands (Ok None) then after next (Some (Some bytes)) h in
            item_type bytes head values (subst (λ n. Shows n bytes head values WholeText) (limit_on (Ok None) then after next before.limit_is) (so.1 bytes refl).0) t fits_head all listed;
      }

      module _ (may : MayHave head values t) where
        ends_there : (e : FileError) (next : NextItem (Err e) now then new after) (end : FileEnd) (bytes : List ℕ) → EndsSo (Some (Some bytes)) head values end then → IsFound bytes (stored_behind most_read values end)
        ends_there e next end bytes so =
            found_there bytes head values end (subst (λ n. Shows n bytes head values end) (limit_on (Err e) then after next before.limit_is) (so bytes refl).0) t fits_head all may

        pub stopped : (e : FileError) → NextItem (Err e) now then new after → ReadsItems head (Err (unread_as e)) start old after
        stopped (fault.Bad p) next = record {
          reads = file_left (Err (fault.Bad p)) then after next (Err (unfit.Bad p)) (λ is. absurd cc);
          known = λ bytes h. ends_there (fault.Bad p) next (BadAt p) bytes (stands (Err (fault.Bad p)) then after next (Some (Some bytes)) h).1;
        }
        stopped (fault.TooDeep p) next = record {
          reads = file_left (Err (fault.TooDeep p)) then after next (Err unfit.TooDeep) (λ is. absurd cc);
          known = λ bytes h. (p, ends_there (fault.TooDeep p) next (TooDeepAt p) bytes (stands (Err (fault.TooDeep p)) then after next (Some (Some bytes)) h).1);
        }
        stopped fault.TooLong next = record {
          reads = file_left (Err fault.TooLong) then after next (Err unfit.TooLong) (λ is. absurd cc);
          known = λ bytes h. ends_there fault.TooLong next PastLimit bytes (stands (Err fault.TooLong) then after next (Some (Some bytes)) h).1;
        }
        stopped fault.Read next = record {
          reads = file_left (Err fault.Read) then after next (Err unfit.Read) (λ is. rose_after old.faults new.faults after.faults u.later (next.leaves.failed refl));
          known = λ bytes h. tt;
        }
        stopped fault.NoMemory next = wanted (Err fault.NoMemory) then after next

-- ---- of a file that states a type

module _ (t : Ty) (start : HeadedFile) (old : FilesState) (now : HeadedFile) (new : FilesState) (values : List Value) (u : Underway (Some t) start old now new values) (before : IsBeforeItems (Some t) start (old.left start.items.file)) (all : all_have values t ≡ true) where
  pub lacks_it : (v : Value) (place : ℕ) (then : HeadedFile) (after : FilesState) → NextItem (Ok (Some v)) now then new after → has_type v t ≡ false → place ≡ place_of now → ReadsItems (Some t) (Err (unfit.Bad place)) start old after
  lacks_it v place then after next lacks same = record {
    reads = file_left (Some t) start old now new values u (Ok (Some v)) then after next (Err (unfit.Bad place)) (λ is. absurd cc);
    known = λ bytes h.
        let left = new.left start.items.file in
        let has = u.goes (Some (Some bytes)) h in
        let more = stands (Some t) start old now new values u (Ok (Some v)) then after next (Some (Some bytes)) h in
        let limit = limit_on (Some t) start old now new values u (Ok (Some v)) then after next before.limit_is in
        let stated = head_read most_read bytes t (Some t) (values ++ v ∷ []) then (after.left start.items.file) limit more in (
          t,
          subst (λ o. MayHave o (values_of (file_text most_read bytes).items) t) stated refl,
          misfits most_read bytes t (Some t) values v now then left (after.left start.items.file) limit (its_own t) has more (each_has values t all) lacks ∙ ap Bad (sym same),
        );
  }

  -- one item more that has the type, which the loop holds
  pub fits_more : (ty : Ty) → ty ≡ t → (v : Value) (then : HeadedFile) (after : FilesState) (found : Option Value) → found ≡ Some v → NextItem (Ok found) now then new after → (fits : Bool) → fits ≡ has_type v ty → fits ≡ true
      → (vs : List Value) × Underway (Some t) start old then after vs × (all_have vs t ≡ true) × (ty ≡ t)
  fits_more ty same v then after found is next fits told so = (
    values ++ v ∷ [],
    (one_more (Some t) start old now new values u then after v (found_as found (Some v) now then new after is next)).0,
    all_more values v t all (ap (has_type v) (sym same) ∙ sym told ∙ so),
    same,
  )

-- ---- of a file that states none

module _ (start : HeadedFile) (old : FilesState) (now : HeadedFile) (new : FilesState) (values : List Value) (u : Underway None start old now new values) (before : IsBeforeItems None start (old.left start.items.file)) (shape : Shape) (principal : IsPrincipal values shape) where
  module _ (is_sound : sound shape ≡ true) where
    all_filled : all_have values (filled shape) ≡ true
    all_filled = sym (principal (filled shape)) ∙ is_filled shape is_sound

    least_read : (t : Ty) (then : HeadedFile) (after : FilesState) → t ≡ filled shape → NextItem (Ok None) now then new after → ReadsItems None (Ok t) start old after
    least_read t then after is next =
        all_read None start old now new values u then after before t refl (ap (all_have values) is ∙ all_filled) next (record { shape = shape; principal = principal; least = is })

    pub stopped_unstated : (e : FileError) (then : HeadedFile) (after : FilesState) → NextItem (Err e) now then new after → ReadsItems None (Err (unread_as e)) start old after
    stopped_unstated e then after next = stopped None start old now new values u then after before (filled shape) refl all_filled all_filled e next

  principal_more : (v : Value) (joined : Shape) → Joins shape v (Some joined) → IsPrincipal (values ++ v ∷ []) joined
  principal_more v joined joins t =
      joins t ∙ (λ i. principal t i && has_type v t) ∙ ap (λ b. all_have values t && b) (last (has_type v t)) ∙ sym (list_all-append (λ w. has_type w t) values (v ∷ []))
    where
      last : (b : Bool) → b ≡ b && true
      last true = refl
      last false = refl

  untyped : (v : Value) (n : ℕ) (then : HeadedFile) (after : FilesState) → sound shape ≡ true → NextItem (Ok (Some v)) now then new after → Joins shape v None → n ≡ length values + 1
      → ReadsItems None (Err (unfit.Untyped n)) start old after
  untyped v n then after is_sound next none counted = record {
    reads = file_left None start old now new values u (Ok (Some v)) then after next (Err (unfit.Untyped n)) (λ is. absurd cc);
    known = λ bytes h.
        let more = stands None start old now new values u (Ok (Some v)) then after next (Some (Some bytes)) h in
        let limit = limit_on None start old now new values u (Ok (Some v)) then after next before.limit_is in
        let shows : Shows (limit_of then) bytes (file_text most_read bytes).head (values_of (file_text most_read bytes).items) (file_text most_read bytes).behind =
        subst (λ m. Shows m bytes (file_text most_read bytes).head (values_of (file_text most_read bytes).items) (file_text most_read bytes).behind) (sym limit) (text_shows most_read bytes) in
        let front = first_shown (Some (Some bytes)) None (file_text most_read bytes).head (values ++ v ∷ []) (values_of (file_text most_read bytes).items) then (after.left start.items.file) bytes (file_text most_read bytes).behind more refl shows in
        record {
          unstated = sym front.0;
          other = record {
            before = values;
            value = v;
            after = front.1.0;
            split = front.1.1;
            number = counted;
            common = (filled shape, all_filled is_sound);
            none = λ t. list_all-append (λ w. has_type w t) values (v ∷ []) ∙ nothing t (all_have values t) (has_type v t) (sym (λ i. principal t i && has_type v t) ∙ none t);
          };
        };
  }
    where
      nothing : (t : Ty) (b c : Bool) → b && c ≡ false → b && (c && true) ≡ false
      nothing t true true e = e
      nothing t true false e = refl
      nothing t false c e = refl

  -- one item more that is joined
  pub joins_more : (count : ℕ) → count ≡ length values → (v : Value) (then : HeadedFile) (after : FilesState) (found : Option Value) → found ≡ Some v → NextItem (Ok found) now then new after
      → (joined : Shape) → JoinsItem shape v (count + 1) (Ok joined)
      → (vs : List Value) × Underway None start old then after vs × IsPrincipal vs joined × (sound joined ≡ true) × (count + 1 ≡ length vs)
  joins_more count counted v then after found is next joined joins = (
    values ++ v ∷ [],
    (one_more None start old now new values u then after v (found_as found (Some v) now then new after is next)).0,
    principal_more v joined joins.joins,
    joins.is_sound,
    (let longer : length (values ++ v ∷ []) ≡ length values + 1 = length-append values (v ∷ []) in omega (arith, longer, counted)),
  )

  -- an item that is not joined
  pub not_joined : (v : Value) (e : Unfit) (then : HeadedFile) (after : FilesState) → sound shape ≡ true → NextItem (Ok (Some v)) now then new after → JoinsItem shape v (length values + 1) (Err e)
      → ReadsItems None (Err e) start old after
  not_joined v (unfit.Untyped n) then after is_sound next why = untyped v n then after is_sound next why.1 why.0
  not_joined v unfit.NoMemory then after is_sound next why = wanted None start old now new values u (Ok (Some v)) then after next
  not_joined v (unfit.Bad p) then after is_sound next why = absurd why
  not_joined v unfit.TooDeep then after is_sound next why = absurd why
  not_joined v unfit.TooLong then after is_sound next why = absurd why
  not_joined v unfit.Read then after is_sound next why = absurd why

  -- none is left
  pub none_left : (result : Result Ty Unfit) (then : HeadedFile) (after : FilesState) → sound shape ≡ true → NextItem (Ok None) now then new after → IsLeastOf shape result → ReadsItems None result start old after
  none_left (Ok t) then after is_sound next is = least_read is_sound t then after is next
  none_left (Err unfit.NoMemory) then after is_sound next is = wanted None start old now new values u (Ok None) then after next
  none_left (Err (unfit.Untyped n)) then after is_sound next is = absurd is
  none_left (Err (unfit.Bad p)) then after is_sound next is = absurd is
  none_left (Err unfit.TooDeep) then after is_sound next is = absurd is
  none_left (Err unfit.TooLong) then after is_sound next is = absurd is
  none_left (Err unfit.Read) then after is_sound next is = absurd is

-- ---- the head, and the whole file

module _ (file : ℕ) (old : FilesState) (now : HeadedFile) (is_open : IsSome (old.left file)) where
  pub record IsFresh : Type 0 where
    pub has_opened : HasOpened (old.left file) now (old.left file)
    pub limit_is : limit_of now ≡ most_read
    pub same_file : now.items.file ≡ file

  pub fresh : now.front ≡ true → now.head ≡ 0 → now.refused ≡ None → now.items.text ≡ reading 0 [] false → now.items.past ≡ false → now.items.file ≡ file → now.items.limit ≡ most_read → IsFresh
  fresh front head refused text past same is_limit = record {
    has_opened = record { unknown = front; size = head; fresh = refused; items = begins_so now.items (old.left file) text past };
    limit_is = omega (arith, head, is_limit);
    same_file = same;
  }

  module _ (at : IsFresh) (then : HeadedFile) (after : FilesState) where
    opens : (found : Result (Option Ty) FileError) → ReadsHead found now then old after → Opens (old.left file) found then (after.left file)
    opens found reads =
        subst (λ k. Opens (old.left file) found then (after.left k)) at.same_file
        (reads.goes (old.left file) (subst (λ k. HasOpened (old.left file) now (old.left k)) (sym at.same_file) at.has_opened))

    others_then : (found : Result (Option Ty) FileError) → ReadsHead found now then old after → OtherFiles file old after
    others_then found reads k ne = reads.leaves.others k (λ is. ne (is ∙ at.same_file))

    open_then : (found : Result (Option Ty) FileError) → ReadsHead found now then old after → IsSome (after.left file)
    open_then found reads = subst (λ k. IsSome (after.left k)) at.same_file reads.leaves.is_open

    module _ (head : Option Ty) (reads : ReadsHead (Ok head) now then old after) where
      pub file_then : then.items.file ≡ file
      file_then = reads.same.file ∙ at.same_file

      pub open_behind : IsSome (after.left then.items.file)
      open_behind = subst (λ k. IsSome (after.left k)) (sym file_then) (open_then (Ok head) reads)

      pub before_items : IsBeforeItems head then (after.left then.items.file)
      before_items = record {
        first = old.left file;
        has_read = subst (λ k. HasRead (old.left file) head [] then (after.left k)) (sym file_then) (opens (Ok head) reads);
        limit_is = reads.same.limit ∙ at.limit_is;
      }

      pub behind_head : (result : Result Ty Unfit) (last : FilesState) → ReadsItems head result then after last → ReadsThrough file result old last
      behind_head result last items =
          let r = subst (λ k. ReadsOpen k result after last) file_then items.reads in
          record {
            reads = record {
              told = r.told ∙ reads.leaves.told;
              others = λ k ne. r.others k ne ∙ others_then (Ok head) reads k ne;
              is_open = r.is_open;
              later = (let a = reads.leaves.later in let b = r.later in omega arith);
              failed = λ is. rose_after old.faults after.faults last.faults reads.leaves.later (r.failed is);
            };
            known = λ bytes is.
                items.known bytes (subst (λ k. HasRead (Some (Some bytes)) head [] then (after.left k)) (sym file_then) (subst (λ l. HasRead l head [] then (after.left file)) is (opens (Ok head) reads)));
          }

    module _ (e : FileError) (reads : ReadsHead (Err e) now then old after) where
      left_so : (result : Result Ty Unfit) → (IsErrOf result unfit.Read → Rose old.faults after.faults) → ReadsOpen file result old after
      left_so result failed = record { told = reads.leaves.told; others = others_then (Err e) reads; is_open = open_then (Err e) reads; later = reads.leaves.later; failed = failed }

      no_items : (end : FileEnd) (bytes : List ℕ) → EndsSo (old.left file) None [] end then → old.left file ≡ Some (Some bytes) → IsFound bytes (stored_behind most_read [] end)
      no_items end bytes so is = found_there bytes None [] end (subst (λ n. Shows n bytes None [] end) (reads.same.limit ∙ at.limit_is) (so bytes is).0) ty.Str refl refl refl

    pub head_stopped : (e : FileError) → ReadsHead (Err e) now then old after → ReadsThrough file (Err (unread_as e)) old after
    head_stopped (fault.Bad p) reads = record {
      reads = left_so (fault.Bad p) reads (Err (unfit.Bad p)) (λ is. absurd cc);
      known = λ bytes is. no_items (fault.Bad p) reads (BadAt p) bytes (opens (Err (fault.Bad p)) reads) is;
    }
    head_stopped (fault.TooDeep p) reads = record {
      reads = left_so (fault.TooDeep p) reads (Err unfit.TooDeep) (λ is. absurd cc);
      known = λ bytes is. (p, no_items (fault.TooDeep p) reads (TooDeepAt p) bytes (opens (Err (fault.TooDeep p)) reads) is);
    }
    head_stopped fault.TooLong reads = record {
      reads = left_so fault.TooLong reads (Err unfit.TooLong) (λ is. absurd cc);
      known = λ bytes is. no_items fault.TooLong reads PastLimit bytes (opens (Err fault.TooLong) reads) is;
    }
    head_stopped fault.Read reads = record { reads = left_so fault.Read reads (Err unfit.Read) (λ is. reads.leaves.failed refl); known = λ bytes is. tt }
    head_stopped fault.NoMemory reads = record { reads = left_so fault.NoMemory reads (Err unfit.NoMemory) (λ is. absurd cc); known = λ bytes is. tt }

-- ---- the file at a path

no_failure : {T E : Type 0} {value : T} {why : E} → Ok value ≡ Err why → ⊥
no_failure is = cc

pub values_read : (path : List ℕ) (file : ℕ) (result : Result Ty Unfit) (s0 s1 s2 s3 : FilesState) → OpensPath path (Ok file) s0 s1 → ReadsThrough file result s1 s2 → Closes file s2 s3 → ReadsValues path result s0 s3
values_read path file result s0 s1 s2 s3 opens through closes = record {
  told = closes.told ∙ through.reads.told ∙ opens.told;
  later = omega (arith, opens.later, through.reads.later, closes.faults);
  failed = λ is. inr (let a = through.reads.failed is in omega (arith, opens.later, a, closes.faults));
  missing = λ missing. absurd (no_failure (opens.missing missing).0);
  known = λ bytes holds. through.known bytes (opens.left ∙ ap Some (ap (λ t. left_at_first t path) holds.1 ∙ holds.2));
}

pub not_opened : (path : List ℕ) (s0 s1 : FilesState) → OpensPath path (Err stop.Failed) s0 s1 → ReadsValues path (Err unfit.Read) s0 s1
not_opened path s0 s1 opens = record { told = opens.told; later = opens.later; failed = λ is. opens.failed refl; missing = λ missing. refl; known = λ bytes holds. tt }

pub no_room : (path : List ℕ) (s0 s1 : FilesState) → OpensPath path (Err stop.NoMemory) s0 s1 → ReadsValues path (Err unfit.NoMemory) s0 s1
no_room path s0 s1 opens = record {
  told = opens.told;
  later = opens.later;
  failed = λ is. absurd cc;
  missing = λ missing. absurd (let h = (opens.missing missing).0 in cc);
  known = λ bytes holds. tt;
}
