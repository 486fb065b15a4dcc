-- What is printed of values that are read one by one.
use Rattle.std.proofs.Common.{◌≡◌, ◌⊎◌, inr, ℕ, List, [], ◌∷◌, ◌++◌, Some, None, Result, Ok, Err, refl, sym, ap, subst, ◌∙◌}
use Rattle.std.specs.Io.KnownBytes.{append_known}
use Rattle.kl_base.specs.Counts.{Rose}
use Rattle.kl_base.proofs.Rises.{rose_after}
use Rattle.kl_exchange.specs.Printing.{Puts, as_stop}
use Rattle.kl_exchange.specs.declared.PrintError.{PrintError}
use Rattle.kl_exchange.specs.declared.PrintError.TheVariants as page
use Rattle.kl_exchange.proofs.Printed.{prints_none, then, whole}
use Rattle.kl_json.specs.Answers.{Does, Ending, IsWritten, Printing, PutsLines, Finishes, flushed_end, open_fault, print_fault}
use Rattle.kl_json.specs.declared.fault.Fault.{Fault}
use Rattle.kl_json.specs.declared.fault.Fault.TheVariants as fault
use Rattle.kl_outside.specs.Files.{FilesState, Closes, Holds, IsMissing, OpensPath, left_at_first}
use Rattle.kl_outside.specs.Sinks.{SinkState, TookPart, WritesWhole}
use Rattle.kl_outside.specs.declared.Stop.{Stop}
use Rattle.kl_outside.specs.declared.Stop.TheVariants as stop
use Rattle.kl_outside.proofs.FileLemmas.{same_left}
use Rattle.kl_outside.proofs.SinkLemmas.{append_known-nil}
use Rattle.kl_value.specs.declared.Value.{Value}

-- ---- lines on a page

pub none_put : (s : SinkState) → Puts {T = Unit {0}} [] (Ok tt) s [] s []
none_put s = (prints_none s [] None).adds

pub puts_both : (us bs : List ℕ) (r : Result (Unit {0}) PrintError) (s t v : SinkState) (h k m : List ℕ) → Puts {T = Unit {0}} us (Ok tt) s h t k → Puts bs (as_stop r) t k v m → Puts (us ++ bs) (as_stop r) s h v m
puts_both us bs (Ok done) s t v h k m p q = (then {w = None} {x = None} {y = None} (record { adds = p }) (record { adds = q })).adds
puts_both us bs (Err page.Failed) s t v h k m p q = (then {w = None} {x = None} {y = Some stop.Failed} (record { adds = p }) (record { adds = q })).adds
puts_both us bs (Err page.NoMemory) s t v h k m p q = (then {w = None} {x = None} {y = Some stop.NoMemory} (record { adds = p }) (record { adds = q })).adds

pub puts_less : (us bs : List ℕ) (e : PrintError) (s t : SinkState) (h k : List ℕ) → Puts {T = Unit {0}} us (as_stop (Err e)) s h t k → Puts {T = Unit {0}} (us ++ bs) (as_stop (Err e)) s h t k
puts_less us bs page.Failed s t h k p = (then {bs = bs} {w = None} {x = Some stop.Failed} {y = Some stop.Failed} (record { adds = p }) (record { adds = (refl, refl) })).adds
puts_less us bs page.NoMemory s t h k p = (then {bs = bs} {w = None} {x = Some stop.NoMemory} {y = Some stop.NoMemory} (record { adds = p }) (record { adds = (refl, refl) })).adds

-- one line more
pub line_more : (line : Value → List ℕ) (lines : List Value → List ℕ) → ((vs : List Value) (v : Value) → lines (vs ++ v ∷ []) ≡ lines vs ++ line v)
    → (vs : List Value) (v : Value) (r : Result (Unit {0}) PrintError) (s t w : SinkState) (k m : List ℕ)
    → Puts {T = Unit {0}} (lines vs) (Ok tt) s [] t k → Puts (line v) (as_stop r) t k w m → Puts (lines (vs ++ v ∷ [])) (as_stop r) s [] w m
line_more line lines more vs v r s t w k m p q =
    subst (λ bytes. Puts bytes (as_stop r) s [] w m) (sym (more vs v)) (puts_both (lines vs) (line v) r s t w [] k m p q)

-- ---- the end

-- what opening a file answers
abbrev opened_as : ℕ → Result ℕ Stop
opened_as file = Ok file

abbrev refused_as : Stop → Result ℕ Stop
refused_as why = Err why

-- a command that ended so
abbrev pub failed : Fault → Ending
failed f = Err f

abbrev pub well : Unit {0} → Ending
well u = Ok u

pub no_read : (e : PrintError) → failed (print_fault e) ≡ failed fault.Read → ⊥
no_read page.Failed is = cc
no_read page.NoMemory is = cc

not_whole : (e : PrintError) → IsWritten (Err (print_fault e)) → ⊥
not_whole page.Failed written = written
not_whole page.NoMemory written = written

put_rose : (e : PrintError) (bytes held after : List ℕ) (s t : SinkState) → Puts {T = Unit {0}} bytes (as_stop (Err e)) s held t after → failed (print_fault e) ≡ failed fault.Write → Rose s.faults t.faults
put_rose page.Failed bytes held after s t p is = p.cause.failed refl
put_rose page.NoMemory bytes held after s t p is = absurd cc

wrote_rose : (e : PrintError) (bytes : List ℕ) (s t : SinkState) → WritesWhole {T = Unit {0}} bytes (as_stop (Err e)) s t → failed (print_fault e) ≡ failed fault.Write → Rose s.faults t.faults
wrote_rose page.Failed bytes s t w is = w.cause.failed refl
wrote_rose page.NoMemory bytes s t w is = absurd cc

module _ (lines : List Value → List ℕ) (Ends : Ending → Type 0) (Stands : List ℕ → List Value → Ending → Type 0)
    (weaker : (bytes : List ℕ) (vs : List Value) (end : Ending) (e : PrintError) → Stands bytes vs end → Stands bytes vs (Err (print_fault e)))
    (unprinted : (e : PrintError) → Ends (Err (print_fault e)))
    (path : List ℕ) (file : ℕ) (s0 s1 s2 s3 : FilesState) (opens : OpensPath path (Ok file) s0 s1) (closes : Closes file s2 s3) (out out1 : SinkState) (held : List ℕ) where
  held_bytes : (bytes : List ℕ) → Holds s0 path bytes → s1.left file ≡ Some (Some bytes)
  held_bytes bytes h = opens.left ∙ ap (λ told. Some (left_at_first told path)) h.1 ∙ ap Some h.2

  none_missing : IsMissing s0 path → ⊥
  none_missing m = let no : opened_as file ≡ refused_as stop.Failed = (opens.missing m).0 in cc

  module _ (r : Printing) (p : PutsLines lines Ends Stands file r s1 s2 out out1 held) where
    abbrev told_so : s3.told ≡ s0.told
    told_so = closes.told ∙ (p.keeps.told ∙ opens.told)

    abbrev closed_so : (k : ℕ) → s3.left k ≡ s0.left k
    closed_so = same_left file s0 s1 s2 s3 opens.fresh opens.others p.keeps.others closes.others closes.closed

    rose : Rose s1.faults s2.faults → Rose s0.faults s3.faults
    rose up = subst (λ n. Rose s0.faults n) (sym closes.faults) (rose_after s0.faults s1.faults s2.faults opens.later up)

  pub done : (r : Printing) (end : Ending) (out2 : SinkState) → PutsLines lines Ends Stands file r s1 s2 out out1 held → Finishes r end held out1 out2 → Does lines Ends Stands path end s0 s3 out out2
  done (Ok inner) end out2 p (flushed, wrote, is) = by flushed wrote is
    where
      by : (f : Result (Unit {0}) PrintError) → WritesWhole held (as_stop f) out1 out2 → end ≡ flushed_end inner f → Does lines Ends Stands path end s0 s3 out out2
      by (Ok u) w is =
          let all = whole (lines p.printed) tt (Ok tt) held out out1 out2 p.puts w in
          record {
            told = told_so (Ok inner) p;
            closed = closed_so (Ok inner) p;
            ends = subst Ends (sym is) p.ends;
            printed = p.printed;
            meant = λ bytes h. subst (Stands bytes p.printed) (sym is) (p.meant bytes (held_bytes bytes h));
            part = all.part;
            whole = λ written. all.took;
            read = λ e. inr (rose (Ok inner) p (p.read (sym is ∙ e)));
            missing = λ m. absurd (none_missing m);
            write = λ e. absurd (p.unwritten inner refl (sym is ∙ e));
          }
      by (Err e) w is =
          let all = whole (lines p.printed) tt (as_stop (Err e)) held out out1 out2 p.puts w in
          record {
            told = told_so (Ok inner) p;
            closed = closed_so (Ok inner) p;
            ends = subst Ends (sym is) (unprinted e);
            printed = p.printed;
            meant = λ bytes h. subst (Stands bytes p.printed) (sym is) (weaker bytes p.printed inner e (p.meant bytes (held_bytes bytes h)));
            part = all.part;
            whole = λ written. absurd (not_whole e (subst IsWritten is written));
            read = λ f. absurd (no_read e (sym is ∙ f));
            missing = λ m. absurd (none_missing m);
            write = λ f. wrote_rose e (lines p.printed) out out2 all (sym is ∙ f);
          }
  done (Err e) end out2 p (is, same) = record {
    told = told_so (Err e) p;
    closed = closed_so (Err e) p;
    ends = subst Ends (sym is) p.ends;
    printed = p.printed;
    meant = λ bytes h. subst (Stands bytes p.printed) (sym is) (p.meant bytes (held_bytes bytes h));
    part = subst (λ o. TookPart (lines p.printed) out o) (sym same) (record { done = p.puts.done; rest = p.puts.rest; all = p.puts.all; took = p.puts.took });
    whole = λ written. absurd (not_whole e (subst IsWritten is written));
    read = λ f. absurd (no_read e (sym is ∙ f));
    missing = λ m. absurd (none_missing m);
    write = λ f. subst (λ o. Rose out.faults o.faults) (sym same) (put_rose e (lines p.printed) [] held out out1 p.puts (sym is ∙ f));
  }

-- a file that is not opened
pub unopened : (lines : List Value → List ℕ) (Ends : Ending → Type 0) (Stands : List ℕ → List Value → Ending → Type 0) (path : List ℕ) (why : Stop) (s0 s1 : FilesState) (out : SinkState) → lines [] ≡ []
    → ((w : Stop) → Ends (Err (open_fault w))) → ((bytes : List ℕ) → Stands bytes [] (Err (open_fault why))) → OpensPath path (Err why) s0 s1 → Does lines Ends Stands path (Err (open_fault why)) s0 s1 out out
unopened lines Ends Stands path why s0 s1 out none ends stands opens = record {
  told = opens.told;
  closed = λ k. ap (λ left. left k) opens.refused;
  ends = ends why;
  printed = [];
  meant = λ bytes h. stands bytes;
  part = record { done = []; rest = []; all = none; took = sym (append_known-nil out.taken) };
  whole = λ written. sym (append_known-nil out.taken) ∙ ap (append_known out.taken) (sym none);
  read = read why opens;
  missing = missing why opens;
  write = λ e. absurd (no_write why e);
}
  where
    read : (w : Stop) → OpensPath path (Err w) s0 s1 → failed (open_fault w) ≡ failed fault.Read → IsMissing s0 path ⊎ Rose s0.faults s1.faults
    read stop.Failed o e = o.failed refl
    read stop.NoMemory o e = absurd cc

    missing : (w : Stop) → OpensPath path (Err w) s0 s1 → IsMissing s0 path → (failed (open_fault w) ≡ failed fault.Read) × (s1.faults ≡ s0.faults) × (out ≡ out)
    missing stop.Failed o m = (refl, (o.missing m).1, refl)
    missing stop.NoMemory o m = absurd (let no : refused_as stop.NoMemory ≡ refused_as stop.Failed = (o.missing m).0 in cc)

    no_write : (w : Stop) → failed (open_fault w) ≡ failed fault.Write → ⊥
    no_write stop.Failed e = cc
    no_write stop.NoMemory e = cc
