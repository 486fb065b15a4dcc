-- What comes of the words.
use Rattle.std.proofs.Common.{◌≡◌, ◌≢◌, ◌⊎◌, inl, inr, ℕ, List, Option, Some, None, IsSome, Result, Ok, Err, refl, sym, ap, subst, ◌∙◌}
use Rattle.std.proofs.lemmas.Bool.{false≢true}
use Rattle.kl_outside.specs.Files.{FilesState}
use Rattle.kl_outside.specs.Sinks.{SinkState}
use Rattle.kl_tidy.specs.Answering.{Answers, Cause, Does, HoldsBack, IsSaid, Prints, PrintsNothing, PutsOut, TellsSo, TellsUsage, status_of}
use Rattle.kl_tidy.specs.Causes.{IsPageFor, Makes, MakesFor, RefusesFile, WhyNoPage}
use Rattle.kl_tidy.specs.Refusals.{refusal_status}
use Rattle.kl_tidy.specs.Words.{command_of}
use Rattle.kl_tidy.specs.declared.refusal.Refusal.{Refusal}
use Rattle.kl_tidy.specs.declared.refusal.Refusal.TheVariants as refusal
use Rattle.kl_tidy.specs.declared.words.Command.{Command}

abbrev no_command : Option Command
no_command = None

-- the file of a command that the words are is refused
no_page : (r : Refusal) (words : List (List ℕ)) (command : Command) (old new : FilesState) (notes : List ℕ) → command_of words ≡ Some command → RefusesFile r command old new notes → WhyNoPage r words old new notes
no_page (refusal.BadFile path w) words command old new notes asked why = (command, asked, why)
no_page refusal.Read words command old new notes asked why = (command, asked, why)
no_page refusal.FileBytes words command old new notes asked why = (command, asked, why)
no_page refusal.NoMemory words command old new notes asked why = tt
no_page refusal.Usage words command old new notes asked why = absurd why
no_page refusal.Write words command old new notes asked why = absurd why

-- what is made for the command that the words are
pub makes : (r : Result (List ℕ) Refusal) (words : List (List ℕ)) (command : Command) (old new : FilesState) (notes : List ℕ) → command_of words ≡ Some command → MakesFor r command old new notes → Makes r words old new notes
makes (Ok page) words command old new notes asked made = record { command = command; asked = asked; bytes = made.0; file = made.1; tidies = made.2 }
makes (Err r) words command old new notes asked why = no_page r words command old new notes asked why

nonzero : (r : Refusal) → refusal_status r ≡ 0 → ⊥
nonzero refusal.Usage h = cc
nonzero (refusal.BadFile path w) h = cc
nonzero refusal.Read h = cc
nonzero refusal.Write h = cc
nonzero refusal.NoMemory h = cc
nonzero refusal.FileBytes h = cc

-- a refusal is told as itself, or that memory was wanting
pub told_itself : (why : Option Refusal) → IsSaid why why
told_itself None = refl
told_itself (Some r) = inl refl

pub told_wanting : (why : Option Refusal) → IsSome why → IsSaid why (Some refusal.NoMemory)
told_wanting None some = absurd (false≢true some)
told_wanting (Some r) some = inr refl

some_command : (words : List (List ℕ)) (command : Command) → command_of words ≡ Some command → command_of words ≡ None → ⊥
some_command words command is none = apart (sym is ∙ none)
  where
    apart : Some command ≡ no_command → ⊥
    apart e = cc

-- a sink that took nothing took nothing of what is printed
held_back : (r : Refusal) (old new : SinkState) → HoldsBack r old new → PrintsNothing old new
held_back refusal.Write old new h = h
held_back refusal.NoMemory old new h = h
held_back refusal.Usage old new h = inl (ap (λ (s : SinkState). s.taken) h)
held_back (refusal.BadFile path w) old new h = inl (ap (λ (s : SinkState). s.taken) h)
held_back refusal.Read old new h = inl (ap (λ (s : SinkState). s.taken) h)
held_back refusal.FileBytes old new h = inl (ap (λ (s : SinkState). s.taken) h)

untouched : (r : Refusal) (old new : SinkState) → new ≡ old → HoldsBack r old new
untouched refusal.Write old new h = inl (ap (λ (s : SinkState). s.taken) h)
untouched refusal.NoMemory old new h = inl (ap (λ (s : SinkState). s.taken) h)
untouched refusal.Usage old new h = h
untouched (refusal.BadFile path w) old new h = h
untouched refusal.Read old new h = h
untouched refusal.FileBytes old new h = h

module _ (words : List (List ℕ)) (files files' : FilesState) (out out' err err' : SinkState) where
  -- the words that are no command come to no other refusal
  used : (why : Option Refusal) (notes : List ℕ) → Does why words files files' out out' notes → command_of words ≡ None → (status_of why ≡ 1) ⊎ (status_of why ≡ 9)
  used None notes does none = absurd (some_command words does.2.command does.2.asked none)
  used (Some refusal.Usage) notes does none = inl refl
  used (Some refusal.NoMemory) notes does none = inr refl
  used (Some refusal.Write) notes does none = absurd (some_command words does.1.1.1.command does.1.1.1.asked none)
  used (Some (refusal.BadFile path w)) notes does none = absurd (some_command words does.1.0 does.1.1 none)
  used (Some refusal.Read) notes does none = absurd (some_command words does.1.0 does.1.1 none)
  used (Some refusal.FileBytes) notes does none = absurd (some_command words does.1.0 does.1.1 none)

  by_status : (why : Option Refusal) (notes : List ℕ) → Does why words files files' out out' notes
      → (status_of why ≡ 0 → Prints files.told words out out') × (status_of why ≢ 0 → PrintsNothing out out')
  by_status None notes does = ((λ is. (notes, does)), λ other. absurd (other refl))
  by_status (Some r) notes does = ((λ is. absurd (nonzero r is)), λ other. held_back r out out' does.0)

  -- what the status alone says
  pub told_by_status : (status : ℕ) → Answers words status files files' out out' err err'
      → (status ≡ 0 → Prints files.told words out out') × (status ≢ 0 → PrintsNothing out out') × TellsUsage words status
  told_by_status status a =
      let both = by_status a.why a.notes a.does in (
        λ is. both.0 (sym a.status_is ∙ is),
        λ other. both.1 (λ is. other (a.status_is ∙ is)),
        λ none. subst (λ n. (n ≡ 1) ⊎ (n ≡ 9)) (sym a.status_is) (used a.why a.notes a.does none),
      )

  making : (r : Refusal) (notes : List ℕ) → WhyNoPage r words files files' notes → Cause r words files files' out out' notes
  making refusal.Write notes why = absurd why.2
  making refusal.NoMemory notes why = tt
  making refusal.Usage notes why = why
  making (refusal.BadFile path w) notes why = why
  making refusal.Read notes why = why
  making refusal.FileBytes notes why = why

  -- a page that was made is printed or not, and then this is done
  done : (page : List ℕ) (why : Option Refusal) (notes : List ℕ) → IsPageFor files.told words page notes → PutsOut (Ok page) why out out' → Does why words files files' out out' notes
  done page None notes is puts = (page, puts, is)
  done page (Some refusal.Write) notes is puts = (puts.0, (puts.1, (page, is)))
  done page (Some refusal.NoMemory) notes is puts = (puts, tt)
  done page (Some refusal.Usage) notes is puts = absurd puts
  done page (Some (refusal.BadFile path w)) notes is puts = absurd puts
  done page (Some refusal.Read) notes is puts = absurd puts
  done page (Some refusal.FileBytes) notes is puts = absurd puts

  comes : (made : Result (List ℕ) Refusal) (why : Option Refusal) (notes : List ℕ) → Makes made words files files' notes → PutsOut made why out out' → Does why words files files' out out' notes
  comes (Ok page) why notes made puts = done page why notes made puts
  comes (Err r) why notes made puts =
      subst (λ w. Does w words files files' out out' notes) (sym puts.0) (untouched r out out' puts.1, making r notes made)

  -- where there is no memory for the line, nothing else is said
  wanting : (why told : Option Refusal) (notes : List ℕ) → IsSaid why told → Does why words files files' out out' notes → Does told words files files' out out' notes
  wanting None told notes is does = subst (λ w. Does w words files files' out out' notes) (sym is) does
  wanting (Some r) told notes (inl is) does = subst (λ w. Does w words files files' out out' notes) (sym is) does
  wanting (Some r) told notes (inr is) does = subst (λ w. Does w words files files' out out' notes) (sym is) (held_back r out out' does.0, tt)

  -- what was made, printed and told
  pub answers : (made : Result (List ℕ) Refusal) (why : Option Refusal) (notes : List ℕ) (status : ℕ) → Makes made words files files' notes → PutsOut made why out out'
      → TellsSo why notes status err err' → Answers words status files files' out out' err err'
  answers made why notes status m p t = record {
    why = t.told;
    notes = notes;
    does = wanting why t.told notes t.same (comes made why notes m p);
    status_is = t.status_is;
    tells = t.tells;
  }
