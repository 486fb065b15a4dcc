-- What is printed of a verdict.
use Rattle.std.proofs.Common.{◌≡◌, ◌≢◌, inl, inr, ℕ, Option, List, [], ◌++◌, codes, length, Some, None, Ok, Err, refl, sym, ap, subst, arith, length-append}
use Rattle.kl_outside.specs.Sinks.{SinkState, WritesWhole}
use Rattle.kl_outside.specs.declared.stop.Stop.{Stop}
use Rattle.kl_outside.specs.declared.stop.Stop.TheVariants as stop
use Rattle.kl_outside.proofs.SinkLemmas.{took_none, append_known-nil}
use Rattle.kl_exchange.specs.Printing.{as_stop}
use Rattle.kl_exchange.specs.declared.error.PrintError.{PrintError}
use Rattle.kl_exchange.specs.declared.error.PrintError.TheVariants as print
use Rattle.kl_value.specs.declared.Value.{Value}
use Rattle.kl_value.specs.declared.Value.TheVariants as value
use Rattle.kl_engine.specs.Answering.{PrintsPage, IsDetermined}
use Rattle.kl_engine.specs.Showing.{write_fault}
use Rattle.kl_engine.specs.Verdict.{Verdict, well, refused, cut, cut_layer, first_of}
use Rattle.kl_engine.specs.declared.fault.Fault.{Fault}
use Rattle.kl_engine.specs.declared.fault.Fault.TheVariants as fault

-- a page ends with a newline, so it is not empty
pub line_full : (text : List ℕ) → text ++ codes "\n" ≢ []
line_full text is = let same = ap length is in omega (arith, length-append text (codes "\n"), same)

module _ (page : List ℕ) (full : page ≢ []) (out out' : SinkState) where
  pub page_took : {T : Type 0} (done : T) → WritesWhole page (Ok done) out out' → PrintsPage (well page) None out out'
  page_took done writes = record { ends = inl refl; whole = λ is. writes.took; part = writes.part; nothing = λ none. absurd (full none) }

  pub page_failed : {T : Type 0} → WritesWhole {T = T} page (Err stop.Failed) out out' → PrintsPage (well page) (Some fault.Write) out out'
  page_failed writes = record { ends = inr (inl (refl, writes.cause.failed refl, full)); whole = λ is. absurd cc; part = writes.part; nothing = λ none. absurd (full none) }

  pub page_wanted : {T : Type 0} → WritesWhole {T = T} page (Err stop.NoMemory) out out' → PrintsPage (well page) (Some fault.NoMemory) out out'
  page_wanted writes = record { ends = inr (inr refl); whole = λ is. absurd cc; part = writes.part; nothing = λ none. absurd (full none) }

  pub page_stopped : (e : PrintError) → WritesWhole {T = Unit {0}} page (as_stop (Err e)) out out' → PrintsPage (well page) (Some (write_fault e)) out out'
  page_stopped print.Failed writes = page_failed writes
  page_stopped print.NoMemory writes = page_wanted writes

abbrev pub stop_fault : Stop → Fault
stop_fault stop.Failed = fault.Write
stop_fault stop.NoMemory = fault.NoMemory

-- a page of any verdict was refused
pub page_cut : (v : Verdict) → IsDetermined v.ending → v.page ≢ [] → (e : Stop) (out out' : SinkState) → WritesWhole {T = Unit {0}} v.page (Err e) out out' → PrintsPage v (Some (stop_fault e)) out out'
page_cut v told full stop.Failed out out' writes = record { ends = inr (inl (refl, writes.cause.failed refl, full)); whole = λ is. absurd (subst IsDetermined (sym is) told); part = writes.part; nothing = λ none. absurd (full none) }
page_cut v told full stop.NoMemory out out' writes = record { ends = inr (inr refl); whole = λ is. absurd (subst IsDetermined (sym is) told); part = writes.part; nothing = λ none. absurd (full none) }

-- nothing is printed
pub prints_refused : (f : Fault) (out : SinkState) → PrintsPage (refused f) (Some f) out out
prints_refused f out = record { ends = inl refl; whole = λ is. sym (append_known-nil out.taken); part = took_none [] out out refl; nothing = λ none. refl }

-- a list that is cut
pub cut_is : (first : Option ℕ) (vs : List Value) → cut first (value.List vs) ≡ value.List (first_of first vs)
cut_is first vs = ap (λ x. cut_layer first x (value.List vs)) (value.outs-List vs)
