-- The status of each refusal, and the text that tells of it.
use Rattle.std.specs.Prelude.{ℕ, List, ◌++◌, codes, decimal, Result, Ok, Err}
use Rattle.kl_why.specs.Places.{told_at}
use Rattle.kl_why.specs.Rules.{rule_of, wrong_status}
use Rattle.kl_why.specs.Sources.{unfit_sentence, unfit_status}
use Rattle.kl_why.specs.declared.why.Spot.{Spot}
use Rattle.kl_why.specs.declared.why.Why.{Why}
use Rattle.kl_why.specs.declared.why.Why.TheVariants as why

-- nothing is wrong, or this is
abbrev pub Found : Type 0
Found = Result (Unit {0}) Why

abbrev pub status_of : Found → ℕ
status_of (Ok done) = 0
status_of (Err (why.Unread path)) = 7
status_of (Err (why.TooLong path)) = 10
status_of (Err (why.Catalogue w s)) = wrong_status w
status_of (Err (why.Program w s)) = wrong_status w
status_of (Err (why.Untyped reason s)) = 3
status_of (Err (why.Source name u s)) = unfit_status u
status_of (Err (why.SourceAt name u place)) = unfit_status u
status_of (Err (why.SourceUnread name path)) = 7
status_of (Err (why.SourceLong name most)) = 10
status_of (Err why.NoMemory) = 9

-- a sentence at its place
abbrev pub spot_text : List ℕ → Spot → List ℕ
spot_text sentence s = told_at s.path s.bytes s.byte sentence

abbrev pub placed_text : List ℕ → ℕ → List ℕ
placed_text sentence place = sentence ++ codes " at " ++ decimal place ++ codes "\n"

abbrev pub unread_text : List ℕ → List ℕ → List ℕ
unread_text name path = path ++ codes ": this file of source " ++ name ++ codes " is missing or could not be read\n"

abbrev pub long_text : List ℕ → ℕ → List ℕ
long_text name most = codes "source " ++ name ++ codes ": its file has more than " ++ decimal most ++ codes " bytes\n"

abbrev pub why_text : Why → List ℕ
why_text (why.Unread path) = path ++ codes ": this file is missing or could not be read\n"
why_text (why.TooLong path) = path ++ codes ": this file has more than 65,536 bytes, the most that a program or a catalogue has\n"
why_text (why.Catalogue w s) = spot_text (rule_of w) s
why_text (why.Program w s) = spot_text (rule_of w) s
why_text (why.Untyped reason s) = spot_text (codes "this has no type where it stands: " ++ reason) s
why_text (why.Source name u s) = spot_text (unfit_sentence name u) s
why_text (why.SourceAt name u place) = placed_text (unfit_sentence name u) place
why_text (why.SourceUnread name path) = unread_text name path
why_text (why.SourceLong name most) = long_text name most
why_text why.NoMemory = codes "out of memory\n"

abbrev pub page_of : Found → List ℕ
page_of (Ok done) = codes "nothing is wrong\n"
page_of (Err w) = why_text w
