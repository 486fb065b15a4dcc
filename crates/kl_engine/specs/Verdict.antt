-- What words mean over files: what is to be printed, and the fault with which that ends.
use Rattle.std.specs.Prelude.{◌≡◌, ◌⊎◌, ℕ, ◌<◌, ◌≤◌, ◌↔◌, nat_lt, nat_le, Bool, true, false, IsTrue, if◌then◌else◌}
use Rattle.std.specs.Prelude.{List, [], ◌∷◌, ◌++◌, length, map, take, codes, Option, Some, None, Err}
use Rattle.std.specs.List.{zip}
use Rattle.kl_exchange.specs.FileItems.{FileEnd, WholeText, BadAt, TooDeepAt, PastLimit, most_read}
use Rattle.kl_exchange.specs.Found.{FileItem}
use Rattle.kl_heads.specs.Found.{FileText, file_text}
use Rattle.kl_heads.specs.Stated.{states_no_other}
use Rattle.kl_value.specs.Written.{text_of, with_commas}
use Rattle.kl_value.specs.declared.value.Kind.TheVariants as kind
use Rattle.kl_value.specs.declared.Value.{Value, Value-F, out-Value}
use Rattle.kl_value.specs.declared.Value.TheVariants as value
use Rattle.kl_type.specs.Ground.{Ground, coll}
use Rattle.kl_type.specs.Has.{has_type}
use Rattle.kl_type.specs.Reading.{ReadsType, RefusesType}
use Rattle.kl_type.specs.Written.{type_text}
use Rattle.kl_type.specs.declared.Ty.{Ty}
use Rattle.kl_type.specs.declared.TypeError.TheVariants as no_type
use Rattle.kl_rows.specs.declared.Scheme.{Scheme}
use Rattle.kl_outcome.specs.Outcome.{Name, Outcome, done, over, stuck}
use Rattle.kl_syntax.specs.Syntax.{Exp, Decls, no_decls, constant, function}
use Rattle.kl_syntax.specs.declared.tree.Program.{Program}
use Rattle.kl_scope.specs.Sizes.{declared}
use Rattle.kl_scope.specs.declared.terms.Size.{Size}
use Rattle.kl_meaning.specs.Run.{meaning_of_program}
use Rattle.kl_meaning.specs.Typing.{HasTyping, ProgramTypes}
use Rattle.kl_infer.specs.Inferred.{Infers, IsIllTyped}
use Rattle.kl_infer.specs.Numbers.{limit}
use Rattle.kl_infer.specs.Printed.{scheme_text}
use Rattle.kl_infer.specs.declared.Typed.{Typed}
use Rattle.kl_scope.specs.Breaches.{Mentions}
use Rattle.kl_ask.specs.declared.settings.Settings.{Settings}
use Rattle.kl_ask.specs.Driver.{DriverKind, Stored, Missing, Bad, Long, Deep, Rows}
use Rattle.kl_sources.specs.Sources.{names_of, grounds_of, HaveValues, FirstWithout}
use Rattle.kl_sources.specs.declared.source.Source.{Source}
use Rattle.kl_engine.specs.Catalogues.{IsCatalogueFault, IsCatalogueOf}
use Rattle.kl_engine.specs.Reading.{IsTextFault, IsProgramOf, definitions, last}
use Rattle.kl_tools.specs.Texts.{catalogue_text, program_text}
use Rattle.kl_engine.specs.Commands.{Command, NoneNamed, Program as AProgram, Show, Upgrade, Origin, Files, Made}
use Rattle.kl_engine.specs.Explaining.{IsExplanation}
use Rattle.kl_engine.specs.Faults.{Ending}
use Rattle.kl_engine.specs.declared.fault.Fault.{Fault}
use Rattle.kl_engine.specs.declared.fault.Fault.TheVariants as fault
use Rattle.kl_engine.specs.declared.top.Purpose.{Purpose}
use Rattle.kl_engine.specs.declared.top.Purpose.TheVariants as purpose

pub record Verdict : Type 0 where
  pub page : List ℕ
  pub ending : Ending

abbrev pub well : List ℕ → Verdict
well page = record { page = page; ending = None }

-- nothing is printed
abbrev pub refused : Fault → Verdict
refused f = record { page = []; ending = Some f }

-- how many bytes a program may have
abbrev pub most_bytes : ℕ
most_bytes = 65536

-- The order of refusals. First the words, then the file that they name: that it is missing, and what its bytes are. Of a
-- program these are too many first; then comes the catalogue: that it is missing, too many bytes, its text, its entries in
-- their order; and then the text of the program.

-- What the text of a program comes to: where it is one in scope, of each declaration that its term is too large, then
-- that it has no type; and then what it is asked for. A run reads the sources that the program mentions, in the order of
-- the catalogue.

-- the fault of the first declaration that is past a limit, by the sizes of their terms
abbrev pub size_fault : List Size → Option Fault
size_fault [] = None
size_fault (s ∷ ss) = if nat_lt 4096 s.nodes then Some fault.TermNodes else if nat_lt 512 s.depth then Some fault.TermDepth
    else size_fault ss

abbrev pub AfterSizes : Option Fault → (Verdict → Type 0) → Verdict → Type 0
AfterSizes (Some f) Goes v = v ≡ refused f
AfterSizes None Goes v = Goes v

abbrev pub IsSized : Decls → Exp → (Verdict → Type 0) → Verdict → Type 0
IsSized ds e Goes v = AfterSizes (size_fault (declared ds e [])) Goes v

-- the program has no typing: the first declaration without one is told
abbrev pub IsUntyped : List (Name × Ground) → Decls → Exp → Verdict → Type 0
IsUntyped grounds ds e v = (n : ℕ) × IsIllTyped ds e grounds n × (v ≡ refused (fault.IllTyped n))

abbrev pub IsFile : (List ℕ → Verdict → Type 0) → Option (List ℕ) → Verdict → Type 0
IsFile AreBytes None v = v ≡ refused fault.Read
IsFile AreBytes (Some bytes) v = AreBytes bytes v

-- ---- `types`

-- each declaration's name with its scheme; that of the last expression is `it`
abbrev pub names_in : Decls → List Name
names_in no_decls = []
names_in (constant d e ds) = d.text ∷ names_in ds
names_in (function d p e ds) = d.text ∷ names_in ds

abbrev pub named_schemes : Decls → Typed → List (Name × Scheme)
named_schemes ds typed = zip (names_in ds) typed.schemes ++ (codes "it", typed.result) ∷ []

abbrev pub scheme_line : Name × Scheme → List ℕ
scheme_line d = d.0 ++ codes " : " ++ scheme_text d.1 ++ codes "\n"

abbrev pub behind : List ℕ → Verdict → Verdict
behind front v = record { page = front ++ v.page; ending = v.ending }

-- a line each, up to the first that has too long a text
abbrev pub scheme_lines : List (Name × Scheme) → Verdict
scheme_lines [] = well []
scheme_lines (d ∷ ds) = if nat_lt limit (length (scheme_text d.1)) then refused fault.SchemeBytes else behind (scheme_line d)
    (scheme_lines ds)

-- the principal schemes of the declarations are listed
abbrev pub IsListing : List (Name × Ground) → Decls → Exp → Verdict → Type 0
IsListing grounds ds e v = (typed : Typed) × Infers ds e grounds typed × (v ≡ scheme_lines (named_schemes ds typed))

-- ---- `run`

-- each type of the program is one of lists
abbrev pub GivesList : List (Name × Ground) → Decls → Exp → Type 0
GivesList grounds ds e = (t : Ground) → ProgramTypes ds e grounds t → (s : Ground) × (t ≡ coll kind.List s)

-- the first of some items, where a number is given
abbrev pub first_of : Option ℕ → List Value → List Value
first_of None vs = vs
first_of (Some n) vs = take n vs

-- a collection is cut to its first items
abbrev pub cut_layer : Option ℕ → Value-F Value → Value → Value
cut_layer first (Value-F.Set vs) v = value.Set (first_of first vs)
cut_layer first (Value-F.Bag vs) v = value.Bag (first_of first vs)
cut_layer first (Value-F.List vs) v = value.List (first_of first vs)
cut_layer first _ v = v

abbrev pub cut : Option ℕ → Value → Value
cut first v = cut_layer first (out-Value v) v

-- whether so many items are wanted that these are enough
abbrev pub suffice : Option ℕ → List Value → Bool
suffice None vs = false
suffice (Some n) vs = nat_le n (length vs)

-- a value and a newline
abbrev pub value_page : Value → Verdict
value_page v = well (text_of v ++ codes "\n")

-- a list as far as it goes, without its end
abbrev pub list_front : List Value → List ℕ
list_front vs = codes "[|" ++ with_commas (map text_of vs)

-- the items of a list up to an overflow
abbrev pub overflowing : List Value → Verdict
overflowing vs = record { page = list_front vs; ending = Some fault.Overflow }

-- the same where no more than the first are wanted: if these stand before it, the overflow is not come to
abbrev pub cut_list : Option ℕ → List Value → Verdict
cut_list first vs = if suffice first vs then value_page (value.List (first_of first vs)) else overflowing vs

-- a value and a newline; or an overflow, before which of a list its items are printed, and of all else nothing
abbrev pub IsOutcome : List (Name × Ground) → Option ℕ → Decls → Exp → Outcome → Verdict → Type 0
IsOutcome grounds first ds e (done v) w = w ≡ value_page (cut first v)
IsOutcome grounds first ds e (over vs) w = (GivesList grounds ds e × (w ≡ cut_list first vs))
    ⊎ ((GivesList grounds ds e → ⊥) × (w ≡ refused fault.Overflow))
IsOutcome grounds first ds e stuck w = ⊥

-- what stands at a source in place of rows
abbrev pub stored_fault : Name → Stored → Option Fault
stored_fault name Missing = Some fault.Read
stored_fault name (Bad place) = Some (fault.BadSource name place)
stored_fault name (Long most) = Some fault.FileBytes
stored_fault name (Deep place) = Some fault.ItemNesting
stored_fault name (Rows rows) = None

-- The first source that the program mentions and that has no rows is refused; or else the program comes to what it
-- means over the values of its sources.
abbrev pub IsMeant : List DriverKind → List Source → (ℕ → Bool) → Option ℕ → Decls → Exp → Verdict → Type 0
IsMeant ks ss marks first ds e v =
    ((s : Source) × (w : Stored) × (f : Fault) × FirstWithout ks marks 0 ss s w × (stored_fault s.name w ≡ Some f) × (v ≡ refused f))
    ⊎ ((vs : List (Name × Value)) × HaveValues ks marks 0 ss vs × IsOutcome (grounds_of ss) first ds e (meaning_of_program ds e vs) v)

-- ---- `explain`

-- the lines of a plan of the program are listed; no source is read
abbrev pub IsExplained : List DriverKind → List Source → Settings → Decls → Exp → Verdict → Type 0
IsExplained ks ss settings ds e v = (page : List ℕ) × IsExplanation ks ss settings ds e page × (v ≡ well page)

-- ---- all that is done with programs

abbrev pub IsScopedVerdict : List DriverKind → List Source → (ℕ → Bool) → Purpose → Decls → Exp → Verdict → Type 0
IsScopedVerdict ks ss marks purpose.Check ds e v = v ≡ well (codes "ok\n")
IsScopedVerdict ks ss marks purpose.Types ds e v = IsSized ds e (λ w. IsUntyped (grounds_of ss) ds e w ⊎ IsListing (grounds_of ss) ds e w) v
IsScopedVerdict ks ss marks (purpose.Run first) ds e v =
    IsSized ds e (λ w. IsUntyped (grounds_of ss) ds e w ⊎ (HasTyping ds e (grounds_of ss) × IsMeant ks ss marks first ds e w)) v
IsScopedVerdict ks ss marks (purpose.Explain settings) ds e v =
    IsSized ds e (λ w. IsUntyped (grounds_of ss) ds e w ⊎ (HasTyping ds e (grounds_of ss) × IsExplained ks ss settings ds e w)) v

-- the fault of what stands behind the items of a file
abbrev pub end_fault : FileEnd → Ending
end_fault WholeText = None
end_fault (BadAt place) = Some (fault.BadFile place)
end_fault (TooDeepAt place) = Some fault.ItemNesting
end_fault PastLimit = Some fault.FileBytes

-- ---- `show` and `upgrade`

-- the value has the type, where one is stated
abbrev pub fits : Option Ty → Value → Bool
fits None v = true
fits (Some t) v = has_type v t

-- A line of each item, up to the first that lacks the type, and what stands there: the file is bad at the number of bytes before
-- that item; or what stands behind all items.
abbrev pub listed : (Value → List ℕ) → Option Ty → List FileItem → FileEnd → Verdict
listed line t [] end = record { page = []; ending = end_fault end }
listed line t (x ∷ xs) end = if fits t x.1 then behind (line x.1) (listed line t xs end) else refused (fault.BadFile x.0)

-- the canonical text, and a newline
abbrev pub value_line : Value → List ℕ
value_line v = text_of v ++ codes "\n"

-- the same with the `;` of an item
abbrev pub item_line : Value → List ℕ
item_line v = text_of v ++ codes ";\n"

-- What `file_text` is of a file's bytes, `text_laws` of kl_heads says by the grammar alone.
abbrev pub shown : FileText → Verdict
shown f = listed value_line f.head f.items f.behind

abbrev pub IsShowing : List ℕ → Verdict → Type 0
IsShowing bytes v = v ≡ shown (file_text most_read bytes)

-- the line of a head
abbrev pub head_line : Ty → List ℕ
head_line t = codes "type " ++ type_text t ++ codes ";\n"

-- the items as items of this type, behind its head; a head of another type is bad at 0
abbrev pub upgraded : Ty → FileText → Verdict
upgraded t f = behind (head_line t)
    (if states_no_other t f.head then listed item_line (Some t) f.items f.behind else refused (fault.BadFile 0))

-- the word is no type: a byte where it goes wrong, or nests too deep
abbrev pub IsTypeFault : List ℕ → Fault → Type 0
IsTypeFault word f =
    ((byte : ℕ) × RefusesType word (Err (no_type.Bad byte)) × (f ≡ fault.NoType byte))
    ⊎ ((byte : ℕ) × RefusesType word (Err (no_type.TooDeep byte)) × (f ≡ fault.Nesting))

-- what is wrong with the word is told first, and then what its type makes of the file
abbrev pub IsUpgrading : List ℕ → Option (List ℕ) → Verdict → Type 0
IsUpgrading word file v =
    ((f : Fault) × IsTypeFault word f × (v ≡ refused f))
    ⊎ ((t : Ty) × ReadsType word t × IsFile (λ bytes w. w ≡ upgraded t (file_text most_read bytes)) file v)

-- these marks tell which sources the program mentions
abbrev pub AreMarks : Program → List Name → (ℕ → Bool) → Type 0
AreMarks q names marks = (i : ℕ) → i < length names → IsTrue (marks i) ↔ Mentions q names i

-- what the text of a program comes to, over some drivers and sources
abbrev pub IsTextVerdict : List DriverKind → List Source → Purpose → List ℕ → Verdict → Type 0
IsTextVerdict ks ss p bytes v =
    ((f : Fault) × IsTextFault (names_of ss) bytes f × (v ≡ refused f))
    ⊎ ((q : Program) × (marks : ℕ → Bool)
    × IsProgramOf (names_of ss) bytes q × AreMarks q (names_of ss) marks
    × IsScopedVerdict ks ss marks p (definitions (names_of ss) q) (last (names_of ss) q) v)

-- ---- files, and made rows

-- what is wrong with a file: it is missing, or has too many bytes, or its bytes are wrong
abbrev pub IsFileFault : Fault → (List ℕ → Fault → Type 0) → Option (List ℕ) → Fault → Type 0
IsFileFault long AreWrong None f = f ≡ fault.Read
IsFileFault long AreWrong (Some bytes) f = ((most_bytes < length bytes) × (f ≡ long)) ⊎ ((length bytes ≤ most_bytes) × AreWrong bytes f)

-- what is wrong with the catalogue that a command names, if it names one
abbrev pub IsSourcesFault : (List ℕ → Option (List ℕ)) → List DriverKind → Option (List ℕ) → Fault → Type 0
IsSourcesFault told ks None f = ⊥
IsSourcesFault told ks (Some path) f = IsFileFault fault.CatalogueBytes (IsCatalogueFault ks) (told path) f

-- the sources of a command: those of its catalogue, and none where it names none
abbrev pub HasSources : (List ℕ → Option (List ℕ)) → List DriverKind → Option (List ℕ) → List Source → Type 0
HasSources told ks None ss = ss ≡ []
HasSources told ks (Some path) ss = (bytes : List ℕ) × (told path ≡ Some bytes) × (length bytes ≤ most_bytes) × IsCatalogueOf ks bytes ss

-- what is wrong with the files of a program: first with its own, and then with its catalogue
abbrev pub IsFilesFault : (List ℕ → Option (List ℕ)) → List DriverKind → List ℕ → Option (List ℕ) → Fault → Type 0
IsFilesFault told ks path catalogue f = IsFileFault fault.ProgramBytes (λ text. IsSourcesFault told ks catalogue) (told path) f

-- files have this text and these sources
pub record HasFiles (told : List ℕ → Option (List ℕ)) (ks : List DriverKind) (path : List ℕ) (catalogue : Option (List ℕ)) (text : List ℕ)
    (ss : List Source) : Type 0 where
  pub at : told path ≡ Some text
  pub few : length text ≤ most_bytes
  pub sources : HasSources told ks catalogue ss

-- what is wrong before a program's text is read; over made rows, that their catalogue has no such sources
abbrev pub IsInputsFault : (List ℕ → Option (List ℕ)) → List DriverKind → Origin → Fault → Type 0
IsInputsFault told ks (Files path catalogue) f = IsFilesFault told ks path catalogue f
IsInputsFault told ks (Made seed size) f = IsCatalogueFault ks (catalogue_text seed size) f

-- a program has this text and these sources
abbrev pub HasInputs : (List ℕ → Option (List ℕ)) → List DriverKind → Origin → List ℕ → List Source → Type 0
HasInputs told ks (Files path catalogue) text ss = HasFiles told ks path catalogue text ss
HasInputs told ks (Made seed size) text ss = (text ≡ program_text) × IsCatalogueOf ks (catalogue_text seed size) ss

-- what is wrong before is told first, and then what its text comes to
abbrev pub IsProgramVerdict : (List ℕ → Option (List ℕ)) → List DriverKind → Purpose → Origin → Verdict → Type 0
IsProgramVerdict told ks p from v =
    ((f : Fault) × IsInputsFault told ks from f × (v ≡ refused f))
    ⊎ ((text : List ℕ) × (ss : List Source) × HasInputs told ks from text ss × IsTextVerdict ks ss p text v)

-- the verdict on a command, over files with these bytes and drivers of these kinds
abbrev pub IsVerdict : (List ℕ → Option (List ℕ)) → List DriverKind → Command → Verdict → Type 0
IsVerdict told ks NoneNamed v = v ≡ refused fault.Usage
IsVerdict told ks (AProgram p from) v = IsProgramVerdict told ks p from v
IsVerdict told ks (Show path) v = IsFile IsShowing (told path) v
IsVerdict told ks (Upgrade path word) v = IsUpgrading word (told path) v
