-- What the top call does where no program is read: words that name no command, want of memory, and a file that is shown.
use Rattle.std.proofs.Common.{◌≡◌, ◌⊎◌, inl, inr, ℕ, List, Option, Some, None, refl, sym, ap, subst, ◌∙◌}
use Rattle.std.specs.Bool.{⊤}
use Rattle.std.specs.Io.KnownBytes.{append_known}
use Rattle.kl_exchange.specs.FileItems.{most_read}
use Rattle.kl_heads.specs.Found.{file_text}
use Rattle.kl_outside.specs.Files.{FilesState}
use Rattle.kl_outside.specs.Sinks.{SinkState}
use Rattle.kl_outside.proofs.SinkLemmas.{took_none, append_known-nil}
use Rattle.kl_outcome.specs.Outcome.{Name}
use Rattle.kl_ask.specs.Driver.{DriverKind, State}
use Rattle.kl_sources.specs.Sources.{kinds_of}
use Rattle.kl_engine.specs.Answering.{one, reading, writing, wanting, Does, IsMentioned, UnreadCause, IsUnreadFault, IsOneOf, HasFault, ReadsAgain, RefusesFirst}
use Rattle.kl_words.specs.declared.command.Command.{Command as Read}
use Rattle.kl_engine.specs.Commands.{Command, NoneNamed, Program, Show, Upgrade, asked}
use Rattle.kl_engine.specs.Faults.{Ending}
use Rattle.kl_engine.specs.Outside.{Outside, outside_of}
use Rattle.kl_engine.specs.Showing.{DoesShow, DoesUpgrade}
use Rattle.kl_engine.specs.Verdict.{Verdict, refused, upgraded, IsShowing, IsFile, IsTypeFault, IsVerdict}
use Rattle.kl_engine.specs.declared.fault.Fault.TheVariants as fault
use Rattle.kl_engine.specs.declared.fault.Fault.{Fault}
use Rattle.kl_engine.proofs.AgainLemmas.{upgrades_to}
use Rattle.kl_engine.proofs.DriverLemmas.{keeps_same}
use Rattle.kl_engine.proofs.FairLemmas.{IsOfVerdict, fair_text}
use Rattle.kl_engine.proofs.InputLemmas.{inputs_verdict}
use Rattle.kl_engine.proofs.ShowLemmas.{showing_unwanted, upgrading_unwanted}

-- no verdict is want of memory
never_wanted : (told : List ℕ → Option (List ℕ)) (ks : List DriverKind) (command : Command) (v : Verdict) → IsVerdict told ks command v → v.ending ≡ Some fault.NoMemory → ⊥
never_wanted told ks NoneNamed v of is = let both : Some fault.Usage ≡ Some fault.NoMemory = ap (λ w. w.ending) (sym of) ∙ is in cc
never_wanted told ks (Program p from) v (inl h) is = inputs_verdict told ks from h.0 h.1 (let both : Some h.0 ≡ Some fault.NoMemory = ap (λ w. w.ending) (sym h.2) ∙ is in cc)
never_wanted told ks (Program p from) v (inr h) is = subst IsOfVerdict is (fair_text ks h.1 p h.0 v h.3).told
never_wanted told ks (Show path) v of is = showing_unwanted (told path) v of is
never_wanted told ks (Upgrade path word) v of is = upgrading_unwanted word (told path) v of is

wants_fault : (command : Command) → HasFault command fault.NoMemory
wants_fault NoneNamed = tt
wants_fault (Program p from) = tt
wants_fault (Show path) = tt
wants_fault (Upgrade path word) = tt

unread_wanted : (command : Command) (o : Outside) → UnreadCause command (Some fault.NoMemory) o o
unread_wanted NoneNamed o = tt
unread_wanted (Program p from) o = λ f is un. absurd (let same : fault.NoMemory ≡ f = cc in subst IsUnreadFault (sym same) un)
unread_wanted (Show path) o = tt
unread_wanted (Upgrade path word) o = tt

pub wanted_does : (command : Command) (o : Outside) → Does command (Some fault.NoMemory) o o
wanted_does command o = record {
  told = λ told is v of. (
    v,
    of,
    one refl,
    record {
      ends = inr (wanting refl);
      whole = λ same. absurd (never_wanted told (kinds_of o.drivers) command v of (sym same));
      part = took_none v.page o.out o.out refl;
    },
  );
  meant = λ told is well needs. absurd well;
  caused = record {
    usage = λ is. absurd cc;
    no_usage = λ is. inr refl;
    read = λ is. absurd cc;
    write = λ is. absurd cc;
    changed = λ name is. absurd cc;
    no_other = wants_fault command;
    unfailed = λ other. refl;
    nothing = λ is. refl;
  };
  unread = unread_wanted command o;
  closed = record { left = refl; told = refl; drivers = keeps_same (λ name. ⊤) o.drivers; still = λ is. refl; mentioned = λ told is. keeps_same (IsMentioned told (kinds_of o.drivers) command) o.drivers };
}

pub neither_does : (o : Outside) → Does NoneNamed (Some fault.Usage) o o
neither_does o = record {
  told = λ told is v of. (
    v,
    of,
    one refl,
    record {
      ends = inl (sym (ap (λ w. w.ending) of));
      whole = λ end. sym (ap (λ w. append_known o.out.taken w.page) of ∙ append_known-nil o.out.taken);
      part = took_none v.page o.out o.out refl;
    },
  );
  meant = λ told is well needs. (refused fault.Usage, refl, refl);
  caused = record {
    usage = λ is. refl;
    no_usage = λ is. inl refl;
    read = λ is. absurd cc;
    write = λ is. absurd cc;
    changed = λ name is. absurd cc;
    no_other = tt;
    unfailed = λ other. refl;
    nothing = λ is. refl;
  };
  unread = tt;
  closed = record { left = refl; told = refl; drivers = keeps_same (λ name. ⊤) o.drivers; still = λ is. refl; mentioned = λ told is. keeps_same (IsMentioned told (kinds_of o.drivers) NoneNamed) o.drivers };
}

-- ---- a file that is shown

shown_end : (path : List ℕ) (end : Ending) → IsOneOf (HasFault (Show path)) end → end ≡ Some fault.Usage → ⊥
shown_end path end has is = subst (IsOneOf (HasFault (Show path))) is has

shown_drift : (path : List ℕ) (end : Ending) (name : Name) → IsOneOf (HasFault (Show path)) end → end ≡ Some (fault.Changed name) → ⊥
shown_drift path end name has is = subst (IsOneOf (HasFault (Show path))) is has

pub show_does : (path : List ℕ) (end : Ending) (f f' : FilesState) (ds : List State) (out out' : SinkState) → DoesShow path end (outside_of f ds out) (outside_of f' ds out') → Does (Show path) end (outside_of f ds out) (outside_of f' ds out')
show_does path end f f' ds out out' shows = record {
  told = λ told is v of.
      let follows = shows.follows told is v of in (
        v,
        of,
        one refl,
        record {
          ends = elim follows.ends [
            | inl h ↦ inl h
            | inr (inl h) ↦ inr (reading h.0 (inl h.1))
            | inr (inr (inl h)) ↦ inr (writing h.0 h.1 h.2)
            | inr (inr (inr h)) ↦ inr (wanting h)
          ];
          whole = follows.whole;
          part = follows.part;
        },
      );
  meant = λ told is well needs. shows.meant told is well;
  caused = record {
    usage = λ is. absurd (shown_end path end shows.no_other is);
    no_usage = λ is. absurd cc;
    read = λ is. elim (shows.read is) [
      | inl missing ↦ inl (missing.0, missing.1, subst (λ o. IsFile IsShowing o (refused fault.Read)) (sym missing.2) refl)
      | inr rose ↦ inr (inr (inl rose))
    ];
    write = shows.write;
    changed = λ name is. absurd (shown_drift path end name shows.no_other is);
    no_other = shows.no_other;
    unfailed = shows.unfailed;
    nothing = λ is. absurd is;
  };
  unread = tt;
  closed = record { left = shows.left; told = shows.told; drivers = keeps_same (λ name. ⊤) ds; still = λ is. refl; mentioned = λ told is. keeps_same (IsMentioned told (kinds_of ds) (Show path)) ds };
}

-- what is done with a file is done with it under another name of the same path
pub show_at : (path other : List ℕ) (end : Ending) (f f' : FilesState) (ds : List State) (out out' : SinkState) → other ≡ path → DoesShow other end (outside_of f ds out) (outside_of f' ds out') → Does (Show path) end (outside_of f ds out) (outside_of f' ds out')
show_at path other end f f' ds out out' same shows = show_does path end f f' ds out out' (subst (λ p. DoesShow p end (outside_of f ds out) (outside_of f' ds out')) same shows)

-- ---- a file that is upgraded

upgrade_end : (path word : List ℕ) (end : Ending) → IsOneOf (HasFault (Upgrade path word)) end → end ≡ Some fault.Usage → ⊥
upgrade_end path word end has is = subst (IsOneOf (HasFault (Upgrade path word))) is has

upgrade_drift : (path word : List ℕ) (end : Ending) (name : Name) → IsOneOf (HasFault (Upgrade path word)) end → end ≡ Some (fault.Changed name) → ⊥
upgrade_drift path word end name has is = subst (IsOneOf (HasFault (Upgrade path word))) is has

pub upgrade_does : (path word : List ℕ) (end : Ending) (f f' : FilesState) (ds : List State) (out out' : SinkState) → DoesUpgrade path word end (outside_of f ds out) (outside_of f' ds out') → Does (Upgrade path word) end (outside_of f ds out) (outside_of f' ds out')
upgrade_does path word end f f' ds out out' does = record {
  told = λ told is v of.
      let follows = does.follows told is v of in (
        v,
        of,
        one refl,
        record {
          ends = elim follows.ends [
            | inl h ↦ inl h
            | inr (inl h) ↦ inr (reading h.0 (inl h.1))
            | inr (inr (inl h)) ↦ inr (writing h.0 h.1 h.2)
            | inr (inr (inr h)) ↦ inr (wanting h)
          ];
          whole = follows.whole;
          part = follows.part;
        },
      );
  meant = λ told is well needs. does.meant told is well;
  caused = record {
    usage = λ is. absurd (upgrade_end path word end does.no_other is);
    no_usage = λ is. absurd cc;
    read = λ is. elim (does.read is) [
      | inl (missing, (t, reads)) ↦ inl (missing.0, missing.1, inr (t, reads, subst (λ o. IsFile (λ bytes w. w ≡ upgraded t (file_text most_read bytes)) o (refused fault.Read)) (sym missing.2) refl))
      | inr rose ↦ inr (inr (inl rose))
    ];
    write = does.write;
    changed = λ name is. absurd (upgrade_drift path word end name does.no_other is);
    no_other = does.no_other;
    unfailed = does.unfailed;
    nothing = does.silent;
  };
  unread = tt;
  closed = record { left = does.left; told = does.told; drivers = keeps_same (λ name. ⊤) ds; still = λ is. refl; mentioned = λ told is. keeps_same (IsMentioned told (kinds_of ds) (Upgrade path word)) ds };
}

-- what is done with a file and a word is done with them under other names
pub upgrade_at : (path other word text : List ℕ) (end : Ending) (f f' : FilesState) (ds : List State) (out out' : SinkState) → other ≡ path → text ≡ word → DoesUpgrade other text end (outside_of f ds out) (outside_of f' ds out') → DoesUpgrade path word end (outside_of f ds out) (outside_of f' ds out')
upgrade_at path other word text end f f' ds out out' same also does = subst (λ p. DoesUpgrade p word end (outside_of f ds out) (outside_of f' ds out')) same (subst (λ w. DoesUpgrade other w end (outside_of f ds out) (outside_of f' ds out')) also does)

-- ---- words that name a command

module _ (found : Option Read) (r : Read) (is : found ≡ Some r) where
  pub does_found : (end end' : Ending) (o o' : Outside) → end ≡ end' → Does (asked (Some r)) end' o o' → Does (asked found) end o o'
  does_found end end' o o' same does = subst (λ e. Does (asked found) e o o') (sym same) (subst (λ c. Does (asked c) end' o o') (sym is) does)

-- words that name none
module _ (found : Option Read) (is : found ≡ None) where
  pub does_none : (end : Ending) (o : Outside) → end ≡ Some fault.Usage → Does (asked found) end o o
  does_none end o same = subst (λ e. Does (asked found) e o o) (sym same) (subst (λ c. Does (asked c) (Some fault.Usage) o o) (sym is) (neither_does o))

-- memory ran out, whatever the words name
pub does_wanted : (found : Option Read) (end : Ending) (o : Outside) → end ≡ Some fault.NoMemory → Does (asked found) end o o
does_wanted found end o same = subst (λ e. Does (asked found) e o o) (sym same) (wanted_does (asked found) o)

-- ---- the clauses of a word that is to be a type

-- of the words that name a command
module _ (found : Option Read) (r : Read) (is : found ≡ Some r) where
  pub first_found : (end : Ending) (Same : Type 0) → RefusesFirst (asked (Some r)) end Same → RefusesFirst (asked found) end Same
  first_found end Same h = subst (λ o. RefusesFirst (asked o) end Same) (sym is) h

  pub again_found : (end : Ending) (files : FilesState) (out out' : SinkState) → ReadsAgain (asked (Some r)) end files out out' → ReadsAgain (asked found) end files out out'
  again_found end files out out' h = subst (λ o. ReadsAgain (asked o) end files out out') (sym is) h

-- memory ran out before
first_want : (command : Command) (Same : Type 0) → Same → RefusesFirst command (Some fault.NoMemory) Same
first_want NoneNamed Same same = tt
first_want (Program p from) Same same = tt
first_want (Show path) Same same = tt
first_want (Upgrade path word) Same same = λ f wrong. (inr refl, same)

pub first_wanted : (found : Option Read) (end : Ending) (Same : Type 0) → end ≡ Some fault.NoMemory → Same → RefusesFirst (asked found) end Same
first_wanted found end Same is same = subst (λ e. RefusesFirst (asked found) e Same) (sym is) (first_want (asked found) Same same)

again_want : (command : Command) (files : FilesState) (out out' : SinkState) → ReadsAgain command (Some fault.NoMemory) files out out'
again_want NoneNamed files out out' = tt
again_want (Program p from) files out out' = tt
again_want (Show path) files out out' = tt
again_want (Upgrade path word) files out out' = tt

pub again_wanted : (found : Option Read) (end : Ending) (files : FilesState) (out out' : SinkState) → end ≡ Some fault.NoMemory → ReadsAgain (asked found) end files out out'
again_wanted found end files out out' is = subst (λ e. ReadsAgain (asked found) e files out out') (sym is) (again_want (asked found) files out out')

-- words that name none
pub first_none : (found : Option Read) → found ≡ None → (end : Ending) (Same : Type 0) → RefusesFirst (asked found) end Same
first_none found is end Same = subst (λ o. RefusesFirst (asked o) end Same) (sym is) tt

pub again_none : (found : Option Read) → found ≡ None → (end : Ending) (files : FilesState) (out out' : SinkState) → ReadsAgain (asked found) end files out out'
again_none found is end files out out' = subst (λ o. ReadsAgain (asked o) end files out out') (sym is) tt

-- a file was upgraded
pub first_upgraded : (path word text : List ℕ) (end end' : Ending) (Same : Type 0) → text ≡ word → end ≡ end'
    → ((f : Fault) → IsTypeFault text f → ((end' ≡ Some f) ⊎ (end' ≡ Some fault.NoMemory)) × Same) → RefusesFirst (Upgrade path word) end Same
first_upgraded path word text end end' Same same is first f wrong =
    let h = first f (subst (λ w. IsTypeFault w f) (sym same) wrong) in (elim h.0 [ inl k ↦ inl (is ∙ k) | inr k ↦ inr (is ∙ k) ], h.1)

again_by : (path word : List ℕ) (end : Ending) (f f' : FilesState) (ds : List State) (out out' : SinkState) → DoesUpgrade path word end (outside_of f ds out) (outside_of f' ds out') → ReadsAgain (Upgrade path word) end f out out'
again_by path word None f f' ds out out' does = λ bytes holds. upgrades_to path word ds f f' out out' does bytes holds
again_by path word (Some e) f f' ds out out' does = tt

pub again_upgraded : (path word : List ℕ) (end end' : Ending) (f f' : FilesState) (ds : List State) (out out' : SinkState) → end ≡ end' → DoesUpgrade path word end' (outside_of f ds out) (outside_of f' ds out') → ReadsAgain (Upgrade path word) end f out out'
again_upgraded path word end end' f f' ds out out' is does = subst (λ e. ReadsAgain (Upgrade path word) e f out out') (sym is) (again_by path word end' f f' ds out out' does)
