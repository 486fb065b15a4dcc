-- What one byte makes of what a head's bytes have come to. Contracts of private functions cite this, and the function `file_text`,
-- which `text_laws` says by the grammar; what a reader answers is said by the grammar.
use Rattle.std.specs.Prelude.{◌≡◌, ℕ, ◌+◌, Bool, false, ◌&&◌, ◌==◌, nat_lt, cond, codes}
use Rattle.std.specs.Prelude.{List, [], ◌∷◌, ◌++◌, length, ⊤, Option, Some, None, Result, Ok, Err, slice_index}
use Rattle.std.specs.Char.{is_ascii_alphabetic}
use Rattle.kl_base.specs.Word.{is_word_byte, label_of}
use Rattle.kl_value.specs.declared.Kind.{Kind}
use Rattle.kl_value.specs.declared.Kind.TheVariants as kind
use Rattle.kl_type.specs.Grammar.{put}
use Rattle.kl_type.specs.declared.ground.Ty.{Ty}
use Rattle.kl_type.specs.declared.ground.Ty.TheVariants as ty
use Rattle.kl_exchange.specs.Grammar.{is_blank}
use Rattle.kl_exchange.specs.Machine.{last_of_close}
use Rattle.kl_heads.specs.Heads.{Types, has_label}
use Rattle.kl_heads.specs.declared.machine.Base.{Base}
use Rattle.kl_heads.specs.declared.machine.Base.TheVariants as base
use Rattle.kl_heads.specs.declared.machine.Shape.{Shape}
use Rattle.kl_heads.specs.declared.machine.Shape.TheVariants as shape
use Rattle.kl_heads.specs.declared.machine.Frame.{Frame}
use Rattle.kl_heads.specs.declared.machine.Frame.TheVariants as frame
use Rattle.kl_heads.specs.declared.machine.Machine.{Machine}
use Rattle.kl_heads.specs.declared.machine.Phase.{Phase}
use Rattle.kl_heads.specs.declared.machine.Phase.TheVariants as phase
use Rattle.kl_heads.specs.declared.machine.Next.{Next}
use Rattle.kl_heads.specs.declared.machine.Next.TheVariants as next
use Rattle.kl_heads.specs.declared.machine.Stop.{Stop}
use Rattle.kl_heads.specs.declared.machine.Stop.TheVariants as stop

-- what a byte makes of a machine
pub data Step : Type 0 where
  Goes : Machine → Step
  -- the byte ends the head
  Ends : Ty → Step

abbrev pub Brackets : Type 0
Brackets = List Frame

abbrev pub goes : Brackets → Phase → Result Step Stop
goes st p = Ok (Step.Goes (record { stack = st; phase = p }))

abbrev pub bad : Result Step Stop
bad = Err stop.Bad

-- before a head
abbrev pub start : Machine
start = record { stack = []; phase = phase.Keyword 0 }

abbrev pub going : Phase → Result Next Stop
going p = Ok (next.Goes p)

-- What a function answers, and the stack that it leaves, are what is said, unless memory runs out.
abbrev pub LeadsOn : Brackets → Result Next Stop → Result Step Stop → Type 0
LeadsOn st (Ok (next.Goes p)) said = said ≡ goes st p
LeadsOn st (Ok (next.Ends t)) said = (said ≡ Ok (Step.Ends t)) × (st ≡ [])
LeadsOn st (Err stop.NoHead) said = said ≡ Err stop.NoHead
LeadsOn st (Err stop.Bad) said = said ≡ bad
LeadsOn st (Err stop.TooDeep) said = said ≡ Err stop.TooDeep
LeadsOn st (Err stop.NoMemory) said = ⊤

abbrev pub keyword : List ℕ
keyword = codes "type"

abbrev pub base_word : Base → List ℕ
base_word base.Bool = codes "bool"
base_word base.Int = codes "int"
base_word base.Str = codes "string"

abbrev pub base_type : Base → Ty
base_type base.Bool = ty.Bool
base_type base.Int = ty.Int
base_type base.Str = ty.Str

abbrev pub closer_of : Shape → ℕ
closer_of shape.Record = 93
closer_of shape.Variant = 62

abbrev pub type_of : Shape → Types → Ty
type_of shape.Record fields = ty.Rec fields
type_of shape.Variant fields = ty.Var fields

abbrev pub or_bad : {T : Type 0} → Option T → (T → Result Step Stop) → Result Step Stop
or_bad None f = bad
or_bad (Some x) f = f x

-- a bracket opens where fewer than L are open
abbrev pub opens_bracket : ℕ → Brackets → Phase → Result Step Stop
opens_bracket L st p = cond (nat_lt (length st) L) (goes st p) (Err stop.TooDeep)

-- One byte of a word, of which so many have come: the next one of it, its last, or another.
abbrev pub in_letters : List ℕ → ℕ → ℕ → Result Step Stop → Result Step Stop → Result Step Stop → Result Step Stop
in_letters word count b on last other =
    cond (nat_lt count (length word) && (slice_index word count == b)) (cond (nat_lt (count + 1) (length word)) on last) other

unfoldable pub in_keyword : Brackets → ℕ → ℕ → Result Step Stop
in_keyword st count b =
    cond ((count == 0) && is_blank b) (goes st (phase.Keyword 0))
    (in_letters keyword count b (goes st (phase.Keyword (count + 1))) (goes st phase.Gap) (cond (nat_lt count 2) (Err stop.NoHead) bad))

unfoldable pub behind_keyword : Brackets → ℕ → Result Step Stop
behind_keyword st b = cond (is_blank b) (goes st phase.Type) bad

unfoldable pub type_due : ℕ → Brackets → ℕ → Result Step Stop
type_due L st b =
    cond (is_blank b) (goes st phase.Type)
    (cond (b == 98) (goes st (phase.Word base.Bool 1))
    (cond (b == 105) (goes st (phase.Word base.Int 1))
    (cond (b == 115) (goes st (phase.Word base.Str 1))
    (cond (b == 123) (opens_bracket L st phase.Brace)
    (cond (b == 91) (opens_bracket L st phase.Bracket)
    (cond (b == 60) (opens_bracket L st (phase.Label shape.Variant []))
    bad))))))

unfoldable pub behind_brace : ℕ → Brackets → ℕ → Result Step Stop
behind_brace L st b = cond (b == 124) (goes (frame.Items kind.Bag ∷ st) phase.Type) (type_due L (frame.Items kind.Set ∷ st) b)

unfoldable pub label_due : Brackets → Shape → Types → ℕ → Result Step Stop
label_due st s fields b =
    cond (is_blank b) (goes st (phase.Label s fields))
    (cond (is_ascii_alphabetic b) (goes st (phase.Name s fields (b ∷ [])))
    bad)

unfoldable pub record_opened : Brackets → ℕ → Result Step Stop
record_opened st b =
    cond (is_blank b) (goes st phase.RecordOpened)
    (cond (b == 93) (goes st (phase.After (ty.Rec [])))
    (label_due st shape.Record [] b))

unfoldable pub behind_bracket : Brackets → ℕ → Result Step Stop
behind_bracket st b = cond (b == 124) (goes (frame.Items kind.List ∷ st) phase.Type) (record_opened st b)

unfoldable pub named : Brackets → Shape → Types → List ℕ → ℕ → Result Step Stop
named st s fields l b =
    cond (is_blank b) (goes st (phase.Named s fields l))
    (cond (b == 58) (goes (frame.Field s fields l ∷ st) phase.Type)
    bad)

unfoldable pub in_name : Brackets → Shape → Types → List ℕ → ℕ → Result Step Stop
in_name st s fields name b =
    cond (is_word_byte b) (goes st (phase.Name s fields (name ++ b ∷ [])))
    (or_bad (label_of name) (λ l. cond (has_label fields l) bad (named st s fields l b)))

unfoldable pub in_word : Brackets → Base → ℕ → ℕ → Result Step Stop
in_word st word count b =
    in_letters (base_word word) count b (goes st (phase.Word word (count + 1))) (goes st (phase.After (base_type word))) bad

unfoldable pub after_item : Brackets → Kind → Ty → ℕ → Result Step Stop
after_item st kind.Set t b = cond (b == 125) (goes st (phase.After (ty.Coll kind.Set t))) bad
after_item st k t b = cond (b == 124) (goes st (phase.Closing k t)) bad

unfoldable pub ends_closing : Brackets → Kind → Ty → ℕ → Result Step Stop
ends_closing st k t b = cond (b == last_of_close k) (goes st (phase.After (ty.Coll k t))) bad

unfoldable pub after_field : Brackets → Shape → Types → ℕ → Result Step Stop
after_field st s fields b =
    cond (b == 44) (goes st (phase.Label s fields))
    (cond (b == closer_of s) (goes st (phase.After (type_of s fields)))
    bad)

unfoldable pub after_type : Brackets → Ty → ℕ → Result Step Stop
after_type st t b = cond (is_blank b) (goes st (phase.After t)) (behind st)
  where
    behind : Brackets → Result Step Stop
    behind [] = cond (b == 59) (Ok (Step.Ends t)) bad
    behind (frame.Items k ∷ st) = after_item st k t b
    behind (frame.Field s fields l ∷ st) = after_field st s (put fields (l, t)) b

-- one byte more, where L brackets may be open
abbrev pub advanced : ℕ → Brackets → Phase → ℕ → Result Step Stop
advanced L st (phase.Keyword count) b = in_keyword st count b
advanced L st phase.Gap b = behind_keyword st b
advanced L st phase.Type b = type_due L st b
advanced L st phase.Brace b = behind_brace L st b
advanced L st phase.Bracket b = behind_bracket st b
advanced L st phase.RecordOpened b = record_opened st b
advanced L st (phase.Label s fields) b = label_due st s fields b
advanced L st (phase.Name s fields name) b = in_name st s fields name b
advanced L st (phase.Named s fields l) b = named st s fields l b
advanced L st (phase.Word word count) b = in_word st word count b
advanced L st (phase.After t) b = after_type st t b
advanced L st (phase.Closing k t) b = ends_closing st k t b

-- white space, and perhaps the first byte of the word
abbrev pub may_be_item : Phase → Bool
may_be_item (phase.Keyword count) = nat_lt count 2
may_be_item _ = false

-- what several bytes come to
pub data Run : Type 0 where
  more : Machine → Run
  -- the head has ended, and these bytes are behind it
  ends : Ty → List ℕ → Run
  -- no head is begun, and an item may be
  no_head : Run
  -- the first of these bytes cannot follow, or opens one bracket too many
  fails : List ℕ → Run
  deep : List ℕ → Run

abbrev pub followed : Result Step Stop → ℕ → List ℕ → (Machine → Run) → Run
followed (Ok (Step.Goes m)) b bytes go = go m
followed (Ok (Step.Ends t)) b bytes go = ends t bytes
followed (Err stop.NoHead) b bytes go = no_head
followed (Err stop.Bad) b bytes go = fails (b ∷ bytes)
followed (Err stop.TooDeep) b bytes go = deep (b ∷ bytes)
followed (Err stop.NoMemory) b bytes go = fails (b ∷ bytes)

abbrev pub run : ℕ → List ℕ → Machine → Run
run L [] m = more m
run L (b ∷ bytes) m = followed (advanced L m.stack m.phase b) b bytes (λ n. run L bytes n)

-- The machine takes a byte, unless memory runs out. Behind a head's last byte it stands before a head.
abbrev pub Advances : Machine → Result (Option Ty) Stop → Result Step Stop → Type 0
Advances now (Ok None) said = said ≡ Ok (Step.Goes now)
Advances now (Ok (Some t)) said = (said ≡ Ok (Step.Ends t)) × (now ≡ start)
Advances now (Err stop.NoHead) said = said ≡ Err stop.NoHead
Advances now (Err stop.Bad) said = said ≡ bad
Advances now (Err stop.TooDeep) said = said ≡ Err stop.TooDeep
Advances now (Err stop.NoMemory) said = ⊤
