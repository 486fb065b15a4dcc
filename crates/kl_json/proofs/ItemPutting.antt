-- What is printed of the items of an exchange text, one by one.
use Rattle.std.proofs.Common.{◌≡◌, inl, inr, ℕ, true, false, List, [], ◌∷◌, ◌++◌, Option, Some, None, Result, Ok, Err, IsSome, refl, sym, ap, subst, ◌∙◌, drop, append_assoc, append-nil}
use Rattle.std.specs.Prelude.{◌+◌}
use Rattle.std.proofs.lemmas.List.{flat_map_more, take-append-drop}
use Rattle.kl_base.proofs.Each.{all_append}
use Rattle.kl_base.proofs.Rises.{rose_after}
use Rattle.kl_exchange.specs.FileItems.{BadAt, Items, PastLimit, most_read, TooDeepAt, WholeText}
use Rattle.kl_exchange.specs.FileReading.{Leaves, Left}
use Rattle.kl_exchange.specs.Grammar.{IsItem}
use Rattle.kl_exchange.specs.Printing.{Puts}
use Rattle.kl_exchange.specs.Reading.{nesting}
use Rattle.kl_exchange.specs.declared.FileError.{FileError}
use Rattle.kl_exchange.specs.declared.FileError.TheVariants as file
use Rattle.kl_exchange.specs.declared.PrintError.{PrintError}
use Rattle.kl_exchange.specs.declared.PrintError.TheVariants as page
use Rattle.kl_exchange.proofs.FileItems.{one_first}
use Rattle.kl_exchange.proofs.FileReading.{begins_so as begins_fetching}
use Rattle.kl_exchange.proofs.OneAnswer.{one_front}
use Rattle.kl_heads.specs.FileReading.{HasOpened, HasRead, HeadedFile, NextItem, Opens, ReadsHead, Stands, limit_of, place_of}
use Rattle.kl_heads.specs.Files.{Shows}
use Rattle.kl_heads.proofs.OneEnd.{cut_front}
use Rattle.kl_heads.proofs.OneFile.{one_states}
use Rattle.kl_json.specs.Answers.{ArePrinted, Ending, FromEnds, ItemsCause, Printing, PutsItems, PutsLine, HasItemAt, HasNoLine, IsPrinted, ItemsStand, PutsLines, BeginsItems, file_fault, fits, json_line, json_lines, open_fault, print_fault}
use Rattle.kl_json.specs.Files.{Keeps}
use Rattle.kl_json.specs.Written.{IsUnicode, json_of}
use Rattle.kl_json.specs.declared.fault.Fault.{Fault}
use Rattle.kl_json.specs.declared.fault.Fault.TheVariants as fault
use Rattle.kl_json.proofs.Listing.{failed, line_more, no_read, none_put, well}
use Rattle.kl_json.proofs.Putting.{keeps_none, keeps_then}
use Rattle.kl_outside.specs.Files.{FilesState}
use Rattle.kl_outside.specs.Sinks.{SinkState}
use Rattle.kl_outside.specs.declared.Stop.{Stop}
use Rattle.kl_outside.specs.declared.Stop.TheVariants as stop
use Rattle.kl_type.specs.declared.Ty.{Ty}
use Rattle.kl_value.specs.declared.Value.{Value}

-- before the first byte
abbrev pub start : ℕ → HeadedFile
start number = record {
  front = true;
  head = 0;
  items = record { file = number; limit = most_read; piece = 8192; text = record { place = 0; left = []; finished = false; refused = None }; past = false };
  refused = None;
}

keeps_of : {T : Type 0} (k : ℕ) (r : Result T FileError) (s t : FilesState) → Leaves k r s t → Keeps k s t
keeps_of k r s t l = record { told = l.told; others = l.others; is_open = l.is_open; later = l.later }

abbrev begins_items : (bytes : List ℕ) (head : Option Ty) (vs : List Value) (now : HeadedFile) (left : Left) → HasRead (Some (Some bytes)) head vs now left → BeginsItems bytes head vs
begins_items bytes head vs now left has =
    let b = has.behind in
    let r = has.items.remains b.0 b.2 in
    record {
      front = has.front;
      read = has.items.read;
      rest = now.items.text.left ++ (r.beyond ++ r.behind);
      whole = b.1 ∙ ap (λ x. has.front ++ x) (r.whole ∙ append_assoc has.items.read now.items.text.left (r.beyond ++ r.behind));
      states = has.states;
      items = has.items.items;
    }

shown_begins : (bytes : List ℕ) (head : Option Ty) (vs : List Value) → Shows most_read bytes head vs WholeText → BeginsItems bytes head vs
shown_begins bytes head vs s =
    let over = drop most_read bytes in
    record {
      front = s.front;
      read = s.read;
      rest = s.left ++ over;
      whole = sym (take-append-drop most_read bytes) ∙ ap (λ x. x ++ over) s.seen ∙ append_assoc s.front (s.read ++ s.left) over ∙ ap (λ x. s.front ++ x) (append_assoc s.read s.left over);
      states = s.states;
      items = s.items;
    }

-- ---- what `from` does not end with

pub from_unopened : (e : Stop) → FromEnds (Err (open_fault e))
from_unopened stop.Failed = tt
from_unopened stop.NoMemory = tt

pub from_unprinted : (e : PrintError) → FromEnds (Err (print_fault e))
from_unprinted page.Failed = tt
from_unprinted page.NoMemory = tt

from_stopped : (e : FileError) → FromEnds (Err (file_fault e))
from_stopped file.Read = tt
from_stopped file.NoMemory = tt
from_stopped (file.Bad p) = tt
from_stopped (file.TooDeep p) = tt
from_stopped file.TooLong = tt

from_no_line : (head : Option Ty) (v : Value) (place : ℕ) (f : Fault) → HasNoLine head v place f → FromEnds (Err f)
from_no_line head v place fault.Usage h = h
from_no_line head v place fault.Read h = tt
from_no_line head v place fault.Write h = tt
from_no_line head v place fault.NoMemory h = tt
from_no_line head v place (fault.Bad p) h = tt
from_no_line head v place (fault.Refused r p) h = h
from_no_line head v place (fault.NoUnicode p) h = tt
from_no_line head v place fault.Nesting h = tt
from_no_line head v place fault.FileBytes h = tt

-- ---- why nothing more was read

unprinted_cause : (bytes : List ℕ) (vs : List Value) (e : PrintError) → ItemsCause bytes vs (print_fault e)
unprinted_cause bytes vs page.Failed = tt
unprinted_cause bytes vs page.NoMemory = tt

pub items_unopened : (bytes : List ℕ) (w : Stop) → ItemsStand bytes [] (Err (open_fault w))
items_unopened bytes stop.Failed = (inl refl, tt)
items_unopened bytes stop.NoMemory = (inl refl, tt)

head_cause : (first : Left) (e : FileError) (now : HeadedFile) (left : Left) → limit_of now ≡ most_read → Opens first (Err e) now left
    → (bytes : List ℕ) → first ≡ Some (Some bytes) → ItemsCause bytes [] (file_fault e)
head_cause first file.Read now left limit o bytes is = tt
head_cause first file.NoMemory now left limit o bytes is = tt
head_cause first (file.Bad p) now left limit o bytes is = inl (None, subst (λ k. Shows k bytes None [] (BadAt p)) limit (o bytes is).0)
head_cause first (file.TooDeep p) now left limit o bytes is = (None, p, subst (λ k. Shows k bytes None [] (TooDeepAt p)) limit (o bytes is).0)
head_cause first file.TooLong now left limit o bytes is = (None, subst (λ k. Shows k bytes None [] PastLimit) limit (o bytes is).0)

item_cause : (first : Left) (head : Option Ty) (vs : List Value) (e : FileError) (now : HeadedFile) (left : Left) → limit_of now ≡ most_read → Stands first head vs (Err e) now left
    → (bytes : List ℕ) → first ≡ Some (Some bytes) → ItemsCause bytes vs (file_fault e)
item_cause first head vs file.Read now left limit s bytes is = tt
item_cause first head vs file.NoMemory now left limit s bytes is = tt
item_cause first head vs (file.Bad p) now left limit s bytes is = inl (head, subst (λ k. Shows k bytes head vs (BadAt p)) limit (s.1 bytes is).0)
item_cause first head vs (file.TooDeep p) now left limit s bytes is = (head, p, subst (λ k. Shows k bytes head vs (TooDeepAt p)) limit (s.1 bytes is).0)
item_cause first head vs file.TooLong now left limit s bytes is = (head, subst (λ k. Shows k bytes head vs PastLimit) limit (s.1 bytes is).0)

-- one item more was read of bytes that begin with these
pub record MoreItem (read whole rest : List ℕ) (v : Value) : Type 0 where
  pub item : List ℕ
  pub is : IsItem nesting item v
  pub whole_is : whole ≡ read ++ item

more_item : (vs : List Value) (v : Value) (read whole x y : List ℕ) → Items read vs → Items whole (vs ++ v ∷ []) → read ++ x ≡ whole ++ y → MoreItem read whole y v
more_item [] v read whole x y none (item, rest, is, spells, no_more) same = record {
  item = item;
  is = spells;
  whole_is = is ∙ ap (λ r. item ++ r) no_more ∙ append-nil item ∙ ap (λ r. r ++ item) (sym none);
}
more_item (w ∷ vs) v read whole x y (item, rest, is, spells, items) (also, others, is', spells', more) same =
    let front : item ++ (rest ++ x) ≡ also ++ (others ++ y) =
    sym (ap (λ bs. bs ++ x) is ∙ append_assoc item rest x) ∙ (same ∙ (ap (λ bs. bs ++ y) is' ∙ append_assoc also others y)) in
    let first = (one_front nesting nesting item also (rest ++ x) (others ++ y) w w spells spells' front).0 in
    let behind = (one_first item (rest ++ x) also (others ++ y) w w spells spells' front).1 in
    let m = more_item vs v rest others x y items more behind in
    record {
      item = m.item;
      is = m.is;
      whole_is = is' ∙ (λ j. sym first j ++ m.whole_is j) ∙ sym (append_assoc item rest m.item) ∙ ap (λ bs. bs ++ m.item) (sym is);
    }

-- The item that was read last stands behind those before it, at the place where the reader stood.
item_there : (bytes : List ℕ) (head : Option Ty) (vs : List Value) (v : Value) (old new : HeadedFile) (left left' : Left) (Lacks : Option Ty → Value → Type 0) (p : ℕ)
    → HasRead (Some (Some bytes)) head vs old left → HasRead (Some (Some bytes)) head (vs ++ v ∷ []) new left' → p ≡ place_of old → Lacks head v → HasItemAt bytes vs p Lacks
item_there bytes head vs v old new left left' Lacks p before after place lacks =
    let b = begins_items bytes head vs old left before in
    let a = begins_items bytes head (vs ++ v ∷ []) new left' after in
    let fronts : b.front ≡ a.front = one_states head b.front a.front (b.read ++ b.rest) (a.read ++ a.rest) b.states a.states (sym b.whole ∙ a.whole) in
    let behind : b.read ++ b.rest ≡ a.read ++ a.rest = cut_front b.front (b.read ++ b.rest) (a.read ++ a.rest) (sym b.whole ∙ a.whole ∙ ap (λ f. f ++ (a.read ++ a.rest)) (sym fronts)) in
    let m = more_item vs v b.read a.read b.rest a.rest b.items a.items behind in
    record {
      head = head;
      value = v;
      front = b.front;
      read = b.read;
      item = m.item;
      rest = a.rest;
      whole = a.whole ∙ (λ j. sym fronts j ++ (m.whole_is j ++ a.rest)) ∙ ap (λ r. b.front ++ r) (append_assoc b.read m.item a.rest);
      states = b.states;
      items = b.items;
      is = m.is;
      stands = place ∙ (λ j. sym before.size j + before.items.place j);
      lacks = lacks;
    }

line_cause : (bytes : List ℕ) (head : Option Ty) (vs : List Value) (v : Value) (old new : HeadedFile) (left left' : Left) (f : Fault) → HasNoLine head v (place_of old) f
    → HasRead (Some (Some bytes)) head vs old left → HasRead (Some (Some bytes)) head (vs ++ v ∷ []) new left' → ItemsCause bytes vs f
line_cause bytes head vs v old new left left' fault.Usage h b a = tt
line_cause bytes head vs v old new left left' fault.Read h b a = tt
line_cause bytes head vs v old new left left' fault.Write h b a = tt
line_cause bytes head vs v old new left left' fault.NoMemory h b a = tt
line_cause bytes head vs v old new left left' (fault.Bad p) h b a = inr (item_there bytes head vs v old new left left' (λ g w. fits g w ≡ false) p b a h.0 h.1)
line_cause bytes head vs v old new left left' (fault.Refused r p) h b a = tt
line_cause bytes head vs v old new left left' (fault.NoUnicode p) h b a = item_there bytes head vs v old new left left' (λ g w. IsUnicode (json_of w) → ⊥) p b a h.0 h.1
line_cause bytes head vs v old new left left' fault.Nesting h b a = absurd h
line_cause bytes head vs v old new left left' fault.FileBytes h b a = absurd h

-- the items read are on the page
pub record Listed (head : Option Ty) (old : HeadedFile) (files files' : FilesState) (out out' : SinkState) (now : HeadedFile) (held : List ℕ) : Type 0 where
  pub file : now.items.file ≡ old.items.file
  pub limit : limit_of now ≡ most_read
  pub keeps : Keeps old.items.file files files'
  pub printed : List Value
  pub some : (first : Left) × HasRead first head printed now (files'.left old.items.file)
  pub read : (first : Left) → HasRead first head [] old (files.left old.items.file) → HasRead first head printed now (files'.left old.items.file)
  pub lines : ArePrinted head printed
  pub puts : Puts {T = Unit {0}} (json_lines printed) (Ok tt) out [] out' held

pub listed_first : (head : Option Ty) (old : HeadedFile) (files : FilesState) (out : SinkState) (held : List ℕ) → IsSome (files.left old.items.file)
    → (first : Left) × HasRead first head [] old (files.left old.items.file) → limit_of old ≡ most_read → held ≡ [] → Listed head old files files out out old held
listed_first head old files out held is_open some limit empty = record {
  file = refl;
  limit = limit;
  keeps = keeps_none old.items.file files is_open;
  printed = [];
  some = some;
  read = λ first has. has;
  lines = tt;
  puts = subst (Puts {T = Unit {0}} [] (Ok tt) out [] out) (sym empty) (none_put out);
}

lines_more : (vs : List Value) (v : Value) → json_lines (vs ++ v ∷ []) ≡ json_lines vs ++ json_line v
lines_more vs v = sym (flat_map_more json_line [] vs v)

is_read : (e : FileError) → failed (file_fault e) ≡ failed fault.Read → e ≡ file.Read
is_read file.Read is = refl
is_read file.NoMemory is = absurd cc
is_read (file.Bad p) is = absurd cc
is_read (file.TooDeep p) is = absurd cc
is_read file.TooLong is = absurd cc

no_write : (e : FileError) → failed (file_fault e) ≡ failed fault.Write → ⊥
no_write file.Read is = cc
no_write file.NoMemory is = cc
no_write (file.Bad p) is = cc
no_write (file.TooDeep p) is = cc
no_write file.TooLong is = cc

opened_at : (number : ℕ) (left : Left) → HasOpened left (start number) left
opened_at number left = record { unknown = refl; size = refl; fresh = refl; items = begins_fetching (start number).items left refl refl }

module _ (number : ℕ) (files files' : FilesState) (old now : HeadedFile) (same : old ≡ start number) where
  file_is : old.items.file ≡ number
  file_is = ap (λ r. r.items.file) same

  opened : (r : Result (Option Ty) FileError) → ReadsHead r old now files files' → Opens (files.left number) r now (files'.left number)
  opened r h =
      subst (λ k. Opens (files.left number) r now (files'.left k)) file_is
      (h.goes (files.left number) (subst (λ k. HasOpened (files.left number) old (files.left k)) (sym file_is) (subst (λ o. HasOpened (files.left number) o (files.left number)) (sym same) (opened_at number (files.left number)))))

  keeps_head : (r : Result (Option Ty) FileError) → ReadsHead r old now files files' → Keeps number files files'
  keeps_head r h = subst (λ k. Keeps k files files') file_is (keeps_of old.items.file r files files' h.leaves)

  pub now_file : (r : Result (Option Ty) FileError) → ReadsHead r old now files files' → now.items.file ≡ number
  now_file r h = h.same.file ∙ file_is

  pub now_limit : (r : Result (Option Ty) FileError) → ReadsHead r old now files files' → limit_of now ≡ most_read
  now_limit r h = h.same.limit ∙ ap limit_of same

  pub now_open : (r : Result (Option Ty) FileError) → ReadsHead r old now files files' → IsSome (files'.left now.items.file)
  now_open r h = subst (λ k. IsSome (files'.left k)) (sym (now_file r h)) (keeps_head r h).is_open

  pub now_unread : (head : Option Ty) → ReadsHead (Ok head) old now files files' → (first : Left) × HasRead first head [] now (files'.left now.items.file)
  now_unread head h = (files.left number, subst (λ k. HasRead (files.left number) head [] now (files'.left k)) (sym (now_file (Ok head) h)) (opened (Ok head) h))

  pub head_stopped : (out : SinkState) (held : List ℕ) → held ≡ [] → (e : FileError) → ReadsHead (Err e) old now files files' → PutsLines json_lines FromEnds ItemsStand number (Ok (Err (file_fault e))) files files' out out held
  head_stopped out held empty e h = record {
    keeps = keeps_head (Err e) h;
    ends = from_stopped e;
    printed = [];
    meant = λ bytes is. (inl refl, head_cause (files.left number) e now (files'.left number) (now_limit (Err e) h) (opened (Err e) h) bytes is);
    puts = subst (Puts {T = Unit {0}} [] (Ok tt) out [] out) (sym empty) (none_put out);
    read = λ f. h.leaves.failed (ap Err (is_read e f));
    unwritten = λ end is f. absurd (no_write e ((let it : failed (file_fault e) ≡ end = cc in it) ∙ f));
  }

  pub head_read : (head : Option Ty) → ReadsHead (Ok head) old now files files' → (r : Printing) (files'' : FilesState) (out out' : SinkState) (held : List ℕ)
      → PutsItems now head r files' files'' out out' held → PutsLines json_lines FromEnds ItemsStand number r files files'' out out' held
  unfolding now_unread
  head_read head h r files'' out out' held p = record {
    keeps = keeps_then number files files' files'' (keeps_head (Ok head) h) (subst (λ k. Keeps k files' files'') (now_file (Ok head) h) p.keeps);
    ends = p.ends;
    printed = p.printed;
    meant = p.meant (files.left number) (now_unread head h).1;
    puts = p.puts;
    read = λ e. rose_after files.faults files'.faults files''.faults (keeps_head (Ok head) h).later (p.read e);
    unwritten = p.unwritten;
  }

module _ (head : Option Ty) (old : HeadedFile) (files files' : FilesState) (out out' : SinkState) (now : HeadedFile) (held : List ℕ) (l : Listed head old files files' out out' now held) where
  pub known_on : now.front ≡ false
  known_on = l.some.1.known

  pub open_on : IsSome (files'.left now.items.file)
  open_on = subst (λ k. IsSome (files'.left k)) (sym l.file) l.keeps.is_open

  was_read : (vs : List Value) (new : HeadedFile) (left : Left) → ((first : Left) → HasRead first head [] old (files.left old.items.file) → HasRead first head vs new left) → ArePrinted head vs
      → (first : Left) → HasRead first head [] old (files.left old.items.file) → (bytes : List ℕ) → first ≡ Some (Some bytes) → (e : Fault) → ItemsCause bytes vs e → ItemsStand bytes vs (Err e)
  was_read vs new left goes lines first has bytes is e why = (inr (head, begins_items bytes head vs new left (subst (λ f. HasRead f head vs new left) is (goes first has)), lines), why)

  module _ (r : Result (Option Value) FileError) (new : HeadedFile) (files'' : FilesState) (n : NextItem r now new files' files'') where
    keeps_on : Keeps old.items.file files files''
    keeps_on = keeps_then old.items.file files files' files'' l.keeps (subst (λ k. Keeps k files' files'') l.file (keeps_of now.items.file r files' files'' n.leaves))

    told_on : (first : Left) → HasRead first head l.printed now (files'.left old.items.file) → Stands first head l.printed r new (files''.left old.items.file)
    told_on first has =
        subst (λ k. Stands first head l.printed r new (files''.left k)) l.file
        (n.goes first head l.printed (subst (λ k. HasRead first head l.printed now (files'.left k)) (sym l.file) has))

    limit_on : limit_of new ≡ most_read
    limit_on = n.same.limit ∙ l.limit

  all_printed : (v : Value) → IsPrinted head v → ArePrinted head (l.printed ++ v ∷ [])
  all_printed v p = all_append (IsPrinted head) l.printed (v ∷ []) l.lines (p, tt)

  pub listed_more : (v : Value) (new : HeadedFile) (files'' : FilesState) → NextItem (Ok (Some v)) now new files' files'' → (u : Unit {0}) (out'' : SinkState) (held' : List ℕ)
      → PutsLine head v (place_of now) (Ok (Ok u)) out' held out'' held' → Listed head old files files'' out out'' new held'
  listed_more v new files'' n u out'' held' p = record {
    file = n.same.file ∙ l.file;
    limit = limit_on (Ok (Some v)) new files'' n;
    keeps = keeps_on (Ok (Some v)) new files'' n;
    printed = l.printed ++ v ∷ [];
    some = (l.some.0, told_on (Ok (Some v)) new files'' n l.some.0 l.some.1);
    read = λ first has. told_on (Ok (Some v)) new files'' n first (l.read first has);
    lines = all_printed v p.0;
    puts = line_more json_line json_lines lines_more l.printed v (Ok u) out out' out'' held held' l.puts p.1;
  }

  pub listed_unprinted : (v : Value) (new : HeadedFile) (files'' : FilesState) → NextItem (Ok (Some v)) now new files' files'' → (r : Printing) (out'' : SinkState) (held' : List ℕ)
      → ((u : Unit {0}) → r ≡ Ok (Ok u) → ⊥) → PutsLine head v (place_of now) r out' held out'' held' → PutsItems old head r files files'' out out'' held'
  listed_unprinted v new files'' n (Ok (Ok u)) out'' held' stopped p = absurd (stopped u refl)
  listed_unprinted v new files'' n (Ok (Err f)) out'' held' stopped p = record {
    keeps = keeps_on (Ok (Some v)) new files'' n;
    ends = from_no_line head v (place_of now) f p.0;
    printed = l.printed;
    meant = λ first has bytes at. was_read l.printed now (files'.left old.items.file) l.read l.lines first has bytes at f
        (line_cause bytes head l.printed v now new (files'.left old.items.file) (files''.left old.items.file) f p.0
        (subst (λ g. HasRead g head l.printed now (files'.left old.items.file)) at (l.read first has))
        (subst (λ g. HasRead g head (l.printed ++ v ∷ []) new (files''.left old.items.file)) at (told_on (Ok (Some v)) new files'' n first (l.read first has))));
    puts = subst (λ o. Puts {T = Unit {0}} (json_lines l.printed) (Ok tt) out [] o held') (sym p.1) (subst (Puts {T = Unit {0}} (json_lines l.printed) (Ok tt) out [] out') (sym p.2) l.puts);
    read = λ e. absurd (subst (HasNoLine head v (place_of now)) (same_fault f fault.Read e) p.0);
    unwritten = λ end at e. absurd (subst (HasNoLine head v (place_of now)) (same_fault f fault.Write ((let it : failed f ≡ end = cc in it) ∙ e)) p.0);
  }
    where
      same_fault : (f g : Fault) → failed f ≡ failed g → f ≡ g
      same_fault f g e = cc
  listed_unprinted v new files'' n (Err e) out'' held' stopped p = record {
    keeps = keeps_on (Ok (Some v)) new files'' n;
    ends = from_unprinted e;
    printed = l.printed ++ v ∷ [];
    meant = λ first has bytes at.
        was_read (l.printed ++ v ∷ []) new (files''.left old.items.file) (λ f h. told_on (Ok (Some v)) new files'' n f (l.read f h)) (all_printed v p.0) first has bytes at (print_fault e)
        (unprinted_cause bytes (l.printed ++ v ∷ []) e);
    puts = line_more json_line json_lines lines_more l.printed v (Err e) out out' out'' held held' l.puts p.1;
    read = λ f. absurd (no_read e f);
    unwritten = λ end at f. absurd cc;
  }

  pub listed_end : (u : Unit {0}) (new : HeadedFile) (files'' : FilesState) → NextItem (Ok None) now new files' files'' → PutsItems old head (Ok (Ok u)) files files'' out out' held
  listed_end u new files'' n = record {
    keeps = keeps_on (Ok None) new files'' n;
    ends = tt;
    printed = l.printed;
    meant = λ first has bytes at.
        (head, subst (λ k. Shows k bytes head l.printed WholeText) (limit_on (Ok None) new files'' n) ((told_on (Ok None) new files'' n first (l.read first has)).1 bytes at).0, l.lines);
    puts = l.puts;
    read = λ f. absurd cc;
    unwritten = λ end is f. let no : well u ≡ failed fault.Write = (let it : well u ≡ end = cc in it) ∙ f in cc;
  }

  pub listed_stopped : (e : FileError) (new : HeadedFile) (files'' : FilesState) → NextItem (Err e) now new files' files'' → PutsItems old head (Ok (Err (file_fault e))) files files'' out out' held
  listed_stopped e new files'' n = record {
    keeps = keeps_on (Err e) new files'' n;
    ends = from_stopped e;
    printed = l.printed;
    meant = λ first has bytes at. was_read l.printed now (files'.left old.items.file) l.read l.lines first has bytes at (file_fault e)
        (item_cause first head l.printed e new (files''.left old.items.file) (limit_on (Err e) new files'' n) (told_on (Err e) new files'' n first (l.read first has)) bytes at);
    puts = l.puts;
    read = λ f. rose_after files.faults files'.faults files''.faults l.keeps.later (n.leaves.failed (ap Err (is_read e f)));
    unwritten = λ end is f. absurd (no_write e ((let it : failed (file_fault e) ≡ end = cc in it) ∙ f));
  }

pub items_weaker : (bytes : List ℕ) (vs : List Value) (end : Ending) (e : PrintError) → ItemsStand bytes vs end → ItemsStand bytes vs (Err (print_fault e))
items_weaker bytes vs (Ok done) e s = (inr (s.0, shown_begins bytes s.0 vs s.1, s.2), unprinted_cause bytes vs e)
items_weaker bytes vs (Err f) e s = (s.0, unprinted_cause bytes vs e)
