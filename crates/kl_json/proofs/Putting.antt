-- What is printed of the JSON values of a file, one by one.
use Rattle.std.proofs.Common.{◌≡◌, ℕ, List, [], ◌∷◌, ◌++◌, Option, Some, None, Result, Ok, Err, IsSome, refl, sym, ap, subst, ◌∙◌, arith, append_assoc}
use Rattle.std.proofs.lemmas.List.{flat_map_more}
use Rattle.kl_base.proofs.Rises.{rose_after}
use Rattle.kl_exchange.specs.FileReading.{HasRead, Left}
use Rattle.kl_exchange.specs.Printing.{Puts, as_stop}
use Rattle.kl_exchange.specs.declared.PrintError.{PrintError}
use Rattle.kl_exchange.specs.declared.PrintError.TheVariants as page
use Rattle.kl_exchange.proofs.FileReading.{begins_so as begins_fetching}
use Rattle.kl_json.specs.Answers.{Ending, JsonStands, PutsLines, ToEnds, item_lines, json_fault, open_fault, print_fault, value_item}
use Rattle.kl_json.specs.Files.{Begins, HasPassed, HasValues, Keeps, NextValue, Reading, Told, unread}
use Rattle.kl_json.specs.declared.choices.Choices.{Choices}
use Rattle.kl_json.specs.declared.fault.Fault.TheVariants as fault
use Rattle.kl_json.specs.declared.reader.JsonError.{JsonError}
use Rattle.kl_json.specs.declared.reader.JsonError.TheVariants as error
use Rattle.kl_json.proofs.Listing.{failed, line_more, no_read, none_put, well}
use Rattle.kl_json.proofs.Values.{begins_so}
use Rattle.kl_outside.specs.Files.{FilesState}
use Rattle.kl_outside.specs.Sinks.{SinkState}
use Rattle.kl_outside.specs.declared.Stop.{Stop}
use Rattle.kl_outside.specs.declared.Stop.TheVariants as stop
use Rattle.kl_value.specs.declared.Value.{Value}

pub keeps_none : (k : ℕ) (s : FilesState) → IsSome (s.left k) → Keeps k s s
keeps_none k s is_open = record { told = refl; others = λ j d. refl; is_open = is_open; later = omega arith }

pub keeps_then : (k : ℕ) (s t u : FilesState) → Keeps k s t → Keeps k t u → Keeps k s u
keeps_then k s t u a b =
    let before = a.later in
    let after = b.later in
    record { told = b.told ∙ a.told; others = λ j d. b.others j d ∙ a.others j d; is_open = b.is_open; later = omega arith }

-- ---- what `to` does not end with

pub to_unopened : (e : Stop) → ToEnds (Err (open_fault e))
to_unopened stop.Failed = tt
to_unopened stop.NoMemory = tt

pub to_unprinted : (e : PrintError) → ToEnds (Err (print_fault e))
to_unprinted page.Failed = tt
to_unprinted page.NoMemory = tt

to_stopped : (e : JsonError) → ToEnds (Err (json_fault e))
to_stopped error.Read = tt
to_stopped error.NoMemory = tt
to_stopped (error.Bad p) = tt
to_stopped (error.TooDeep p) = tt
to_stopped error.TooLong = tt
to_stopped (error.Refused r p) = tt

-- the values read are on the page
pub record Listed (c : Choices) (number : ℕ) (files files' : FilesState) (out out' : SinkState) (now : Reading) (held : List ℕ) : Type 0 where
  pub file : now.items.file ≡ number
  pub keeps : Keeps number files files'
  pub printed : List Value
  pub values : HasValues c (files.left number) printed now (files'.left number)
  pub puts : Puts {T = Unit {0}} (item_lines printed) (Ok tt) out [] out' held

pub listed_first : (c : Choices) (number : ℕ) (files : FilesState) (out : SinkState) (now : Reading) (held : List ℕ) → IsSome (files.left number) → now ≡ unread number → held ≡ []
    → Listed c number files files out out now held
listed_first c number files out now held is_open same empty = record {
  file = ap (λ r. r.items.file) same;
  keeps = keeps_none number files is_open;
  printed = [];
  values = λ bytes is. subst (λ r. HasPassed c bytes [] r (files.left number)) (sym same) (record {
    read = [];
    white = [];
    rest = bytes;
    whole = refl;
    values = refl;
    blank = tt;
    stands = refl;
    total = refl;
    fresh = refl;
    fetched = subst (HasRead (Some (Some bytes)) [] (unread number).items) (sym is) (begins_fetching (unread number).items (Some (Some bytes)) refl refl);
  });
  puts = subst (Puts {T = Unit {0}} [] (Ok tt) out [] out) (sym empty) (none_put out);
}

begins_of : (c : Choices) (bytes : List ℕ) (vs : List Value) (end : Ending) → JsonStands c bytes vs end → Begins c bytes vs
begins_of c bytes vs (Ok done) s = record { read = s.read; rest = s.white; whole = s.whole; values = s.values }
begins_of c bytes vs (Err (fault.Refused r p)) s = record { read = s.read; rest = s.white ++ (s.text ++ s.rest); whole = s.whole ∙ append_assoc s.read s.white (s.text ++ s.rest); values = s.values }
begins_of c bytes vs (Err fault.Usage) s = s
begins_of c bytes vs (Err fault.Read) s = s
begins_of c bytes vs (Err fault.Write) s = s
begins_of c bytes vs (Err fault.NoMemory) s = s
begins_of c bytes vs (Err (fault.Bad p)) s = s
begins_of c bytes vs (Err (fault.NoUnicode p)) s = s
begins_of c bytes vs (Err fault.Nesting) s = s
begins_of c bytes vs (Err fault.FileBytes) s = s.0

stands_unprinted : (c : Choices) (bytes : List ℕ) (vs : List Value) (e : PrintError) → Begins c bytes vs → JsonStands c bytes vs (Err (print_fault e))
stands_unprinted c bytes vs page.Failed b = b
stands_unprinted c bytes vs page.NoMemory b = b

pub json_weaker : (c : Choices) (bytes : List ℕ) (vs : List Value) (end : Ending) (e : PrintError) → JsonStands c bytes vs end → JsonStands c bytes vs (Err (print_fault e))
json_weaker c bytes vs end e s = stands_unprinted c bytes vs e (begins_of c bytes vs end s)

lines_more : (vs : List Value) (v : Value) → item_lines (vs ++ v ∷ []) ≡ item_lines vs ++ value_item v
lines_more vs v = sym (flat_map_more value_item [] vs v)

stands_stopped : (c : Choices) (first : Left) (vs : List Value) (e : JsonError) (now : Reading) (left : Left) → Told c first vs (Err e) now left
    → (bytes : List ℕ) → first ≡ Some (Some bytes) → JsonStands c bytes vs (Err (json_fault e))
stands_stopped c first vs error.Read now left t bytes is = begins_so c bytes vs now left (t bytes is)
stands_stopped c first vs error.NoMemory now left t bytes is = begins_so c bytes vs now left (t bytes is)
stands_stopped c first vs (error.Bad p) now left t bytes is = begins_so c bytes vs now left (t bytes is)
stands_stopped c first vs (error.TooDeep p) now left t bytes is = begins_so c bytes vs now left (t bytes is)
stands_stopped c first vs error.TooLong now left t bytes is = let long = t bytes is in (begins_so c bytes vs now left long.0, long.1)
stands_stopped c first vs (error.Refused r p) now left t bytes is = t bytes is

is_read : (e : JsonError) → failed (json_fault e) ≡ failed fault.Read → e ≡ error.Read
is_read error.Read is = refl
is_read error.NoMemory is = absurd cc
is_read (error.Bad p) is = absurd cc
is_read (error.TooDeep p) is = absurd cc
is_read error.TooLong is = absurd cc
is_read (error.Refused r p) is = absurd cc

no_write : (e : JsonError) → failed (json_fault e) ≡ failed fault.Write → ⊥
no_write error.Read is = cc
no_write error.NoMemory is = cc
no_write (error.Bad p) is = cc
no_write (error.TooDeep p) is = cc
no_write error.TooLong is = cc
no_write (error.Refused r p) is = cc

module _ (c : Choices) (number : ℕ) (files files' : FilesState) (out out' : SinkState) (now : Reading) (held : List ℕ) (l : Listed c number files files' out out' now held) where
  module _ (r : Result (Option Value) JsonError) (new : Reading) (files'' : FilesState) (n : NextValue c r now new files' files'') where
    keeps_on : Keeps number files files''
    keeps_on = keeps_then number files files' files'' l.keeps (subst (λ k. Keeps k files' files'') l.file n.keeps)

    told_on : Told c (files.left number) l.printed r new (files''.left number)
    told_on =
        subst (λ k. Told c (files.left number) l.printed r new (files''.left k)) l.file
        (n.goes (files.left number) l.printed (subst (λ k. HasValues c (files.left number) l.printed now (files'.left k)) (sym l.file) l.values))

  pub listed_more : (v : Value) (new : Reading) (files'' : FilesState) → NextValue c (Ok (Some v)) now new files' files'' → (u : Unit {0}) (out'' : SinkState) (held' : List ℕ)
      → Puts (value_item v) (as_stop (Ok u)) out' held out'' held' → Listed c number files files'' out out'' new held'
  listed_more v new files'' n u out'' held' p = record {
    file = n.file ∙ l.file;
    keeps = keeps_on (Ok (Some v)) new files'' n;
    printed = l.printed ++ v ∷ [];
    values = told_on (Ok (Some v)) new files'' n;
    puts = line_more value_item item_lines lines_more l.printed v (Ok u) out out' out'' held held' l.puts p;
  }

  pub listed_unprinted : (v : Value) (new : Reading) (files'' : FilesState) → NextValue c (Ok (Some v)) now new files' files'' → (e : PrintError) (out'' : SinkState) (held' : List ℕ)
      → Puts {T = Unit {0}} (value_item v) (as_stop {T = Unit {0}} (Err e)) out' held out'' held' → PutsLines item_lines ToEnds (JsonStands c) number (Err e) files files'' out out'' held'
  listed_unprinted v new files'' n e out'' held' p = record {
    keeps = keeps_on (Ok (Some v)) new files'' n;
    ends = to_unprinted e;
    printed = l.printed ++ v ∷ [];
    meant = λ bytes is. stands_unprinted c bytes (l.printed ++ v ∷ []) e (begins_so c bytes (l.printed ++ v ∷ []) new (files''.left number) (told_on (Ok (Some v)) new files'' n bytes is));
    puts = line_more value_item item_lines lines_more l.printed v (Err e) out out' out'' held held' l.puts p;
    read = λ f. absurd (no_read e f);
    unwritten = λ end is f. absurd cc;
  }

  pub listed_end : (u : Unit {0}) (new : Reading) (files'' : FilesState) → NextValue c (Ok None) now new files' files'' → PutsLines item_lines ToEnds (JsonStands c) number (Ok (Ok u)) files files'' out out' held
  listed_end u new files'' n = record {
    keeps = keeps_on (Ok None) new files'' n;
    ends = tt;
    printed = l.printed;
    meant = told_on (Ok None) new files'' n;
    puts = l.puts;
    read = λ f. absurd cc;
    unwritten = λ end is f. let no : well u ≡ failed fault.Write = (let it : Ok u ≡ end = cc in it) ∙ f in cc;
  }

  pub listed_stopped : (e : JsonError) (new : Reading) (files'' : FilesState) → NextValue c (Err e) now new files' files'' → PutsLines item_lines ToEnds (JsonStands c) number (Ok (Err (json_fault e))) files files'' out out' held
  listed_stopped e new files'' n = record {
    keeps = keeps_on (Err e) new files'' n;
    ends = to_stopped e;
    printed = l.printed;
    meant = stands_stopped c (files.left number) l.printed e new (files''.left number) (told_on (Err e) new files'' n);
    puts = l.puts;
    read = λ f. rose_after files.faults files'.faults files''.faults l.keeps.later (n.failed (ap Err (is_read e f)));
    unwritten = λ end is f. absurd (no_write e ((let it : Err (json_fault e) ≡ end = cc in it) ∙ f));
  }

pub json_unopened : (c : Choices) (bytes : List ℕ) (why : Stop) → JsonStands c bytes [] (Err (open_fault why))
json_unopened c bytes stop.Failed = record { read = []; rest = bytes; whole = refl; values = refl }
json_unopened c bytes stop.NoMemory = record { read = []; rest = bytes; whole = refl; values = refl }
