-- How the call ends.
use Rattle.std.proofs.Common.{◌≡◌, ◌≢◌, refl, ◌⊎◌, inl, inr, ℕ, Bool, true, false, IsTrue, List, ◌++◌, Result, Ok, Err, IfOk, IfErr, ap, subst, ◌∙◌, sym}
use Rattle.kl_outside.specs.Files.{FilesState}
use Rattle.kl_outside.specs.Sinks.{SinkState, WritesWhole}
use Rattle.kl_columns.specs.Answering.{Answers, Cause, Does, Ending, Ends, IsPageFor, Makes, Prints, PrintsNothing, Puts, StopsWriting, TellsUsage, end_line, end_status}
use Rattle.kl_columns.specs.Causes.{AreNotes, WhyNoCatalogue, WhyNoPage}
use Rattle.kl_columns.specs.Listing.{IsCatalogueOf}
use Rattle.kl_columns.specs.Refusals.{refusal_status}
use Rattle.kl_columns.specs.Words.{are_files, paths_of, wants_sql}
use Rattle.kl_columns.specs.declared.refusal.Refusal.{Refusal}
use Rattle.kl_columns.specs.declared.refusal.Refusal.TheVariants as refusal
use Rattle.kl_columns.proofs.Causing.{no_page}

abbrev failed : Refusal → Ending
failed r = Err r

abbrev ended_well : Ending
ended_well = Ok tt

-- the files have a catalogue, or it is said why not
pub makes : (r : Result (List ℕ) Refusal) (words : List (List ℕ)) (old new : FilesState) (notes : List ℕ) → IsTrue (are_files (paths_of words))
    → IfOk r (λ page. IsCatalogueOf (wants_sql words) old.told (paths_of words) page) → IfOk r (λ page. AreNotes old.told (paths_of words) notes)
    → IfErr r (λ e. WhyNoCatalogue e (wants_sql words) (paths_of words) old new notes) → Makes r words old new notes
makes (Ok page) words old new notes tables lists noted why = (record { files = tables; lists = lists }, noted)
makes (Err e) words old new notes tables lists noted why = no_page e words old new notes tables why

-- the words tell which files, and which driver
pub makes_at : (r : Result (List ℕ) Refusal) (words : List (List ℕ)) (sql : Bool) (paths : List (List ℕ)) (old new : FilesState) (notes : List ℕ) → sql ≡ wants_sql words → paths ≡ paths_of words
    → are_files (paths_of words) ≡ true → IfOk r (λ page. IsCatalogueOf sql old.told paths page) → IfOk r (λ page. AreNotes old.told paths notes)
    → IfErr r (λ e. WhyNoCatalogue e sql paths old new notes) → Makes r words old new notes
makes_at r words sql paths old new notes wants are tables lists noted why =
    makes r words old new notes tables
    (subst (λ s. IfOk r (λ page. IsCatalogueOf s old.told (paths_of words) page)) wants (subst (λ ps. IfOk r (λ page. IsCatalogueOf sql old.told ps page)) are lists))
    (subst (λ ps. IfOk r (λ page. AreNotes old.told ps notes)) are noted)
    (subst (λ s. IfErr r (λ e. WhyNoCatalogue e s (paths_of words) old new notes)) wants (subst (λ ps. IfErr r (λ e. WhyNoCatalogue e sql ps old new notes)) are why))

true_false : true ≡ false → ⊥
true_false h = cc

nonzero : (r : Refusal) → refusal_status r ≡ 0 → ⊥
nonzero refusal.Usage h = cc
nonzero (refusal.BadFile at n) h = cc
nonzero (refusal.BadCatalogue byte) h = cc
nonzero refusal.Read h = cc
nonzero refusal.Write h = cc
nonzero refusal.NoMemory h = cc
nonzero refusal.CatalogueBytes h = cc
nonzero refusal.FileBytes h = cc
nonzero (refusal.BadText at n) h = cc
nonzero (refusal.NoCommonType at n) h = cc
nonzero refusal.ItemNesting h = cc

module _ (words : List (List ℕ)) (files files' : FilesState) (out out' err err' : SinkState) where
  prints : (end : Ending) (notes : List ℕ) → Does end words files files' out out' notes → end_status end ≡ 0 → Prints files.told words out out'
  prints (Ok done) notes does is = does.0
  prints (Err r) notes does is = absurd (nonzero r is)

  silent : (end : Ending) (notes : List ℕ) → Does end words files files' out out' notes → (end_status end ≡ 0 → ⊥) → PrintsNothing out out'
  silent (Ok done) notes does is = absurd (is refl)
  silent (Err r) notes does is = does.0

  pub prints_well : (status : ℕ) → Answers words status files files' out out' err err' → status ≡ 0 → Prints files.told words out out'
  prints_well status a is = prints a.end a.notes a.does (sym a.status_is ∙ is)

  pub prints_nothing : (status : ℕ) → Answers words status files files' out out' err err' → status ≢ 0 → PrintsNothing out out'
  prints_nothing status a is = silent a.end a.notes a.does (λ zero. is (a.status_is ∙ zero))

  used : (end : Ending) (notes : List ℕ) → Does end words files files' out out' notes → are_files (paths_of words) ≡ false → (end_status end ≡ 1) ⊎ (end_status end ≡ 9)
  used (Ok done) notes does no_tables = absurd (true_false (sym does.0.2.files ∙ no_tables))
  used (Err refusal.Usage) notes does no_tables = inl refl
  used (Err refusal.NoMemory) notes does no_tables = inr refl
  used (Err refusal.Write) notes does no_tables = absurd (true_false (sym does.1.1.1.files ∙ no_tables))
  used (Err (refusal.BadFile at n)) notes does no_tables = absurd (true_false (sym does.1.0 ∙ no_tables))
  used (Err (refusal.BadCatalogue byte)) notes does no_tables = absurd (true_false (sym does.1.0 ∙ no_tables))
  used (Err refusal.Read) notes does no_tables = absurd (true_false (sym does.1.0 ∙ no_tables))
  used (Err refusal.CatalogueBytes) notes does no_tables = absurd (true_false (sym does.1.0 ∙ no_tables))
  used (Err refusal.FileBytes) notes does no_tables = absurd (true_false (sym does.1.0 ∙ no_tables))
  used (Err (refusal.BadText at n)) notes does no_tables = absurd (true_false (sym does.1.0 ∙ no_tables))
  used (Err (refusal.NoCommonType at n)) notes does no_tables = absurd (true_false (sym does.1.0 ∙ no_tables))
  used (Err refusal.ItemNesting) notes does no_tables = absurd (true_false (sym does.1.0 ∙ no_tables))

  pub tells_usage : (status : ℕ) → Answers words status files files' out out' err err' → TellsUsage words status
  tells_usage status a no_tables = subst (λ n. (n ≡ 1) ⊎ (n ≡ 9)) (sym a.status_is) (used a.end a.notes a.does no_tables)

  writing : (r : Refusal) (page notes : List ℕ) → IsPageFor files.told words page → AreNotes files.told (paths_of words) notes → StopsWriting r out out' → Cause r words files files' out out' notes
  writing refusal.Write page notes is noted why = (why, (page, is), noted)
  writing refusal.NoMemory page notes is noted why = tt
  writing refusal.Usage page notes is noted why = absurd why
  writing (refusal.BadFile at n) page notes is noted why = absurd why
  writing (refusal.BadCatalogue byte) page notes is noted why = absurd why
  writing refusal.Read page notes is noted why = absurd why
  writing refusal.CatalogueBytes page notes is noted why = absurd why
  writing refusal.FileBytes page notes is noted why = absurd why
  writing (refusal.BadText at n) page notes is noted why = absurd why
  writing (refusal.NoCommonType at n) page notes is noted why = absurd why
  writing refusal.ItemNesting page notes is noted why = absurd why

  making : (r : Refusal) (notes : List ℕ) → WhyNoPage r words files files' notes → Cause r words files files' out out' notes
  making refusal.Write notes why = absurd why.1
  making refusal.NoMemory notes why = tt
  making refusal.Usage notes why = why
  making (refusal.BadFile at n) notes why = why
  making (refusal.BadCatalogue byte) notes why = why
  making refusal.Read notes why = why
  making refusal.CatalogueBytes notes why = why
  making refusal.FileBytes notes why = why
  making (refusal.BadText at n) notes why = why
  making (refusal.NoCommonType at n) notes why = why
  making refusal.ItemNesting notes why = why

  module _ (ended : Ending) (notes : List ℕ) (status : ℕ) (e : Ends ended notes status err err') where
    closing : (end : Ending) → e.end ≡ end → Does end words files files' out out' notes → Answers words status files files' out out' err err'
    closing end is does = record {
      end = end;
      status_is = e.status_is ∙ ap end_status is;
      notes = notes;
      does = does;
      told = e.told;
      tells = subst (λ x. WritesWhole (notes ++ end_line x) e.told err err') is e.tells;
    }

    refusing : (r : Refusal) → (e.end ≡ failed r) ⊎ (e.end ≡ failed refusal.NoMemory) → PrintsNothing out out' → Cause r words files files' out out' notes
        → Answers words status files files' out out' err err'
    refusing r (inl is) none why = closing (failed r) is (none, why)
    refusing r (inr is) none why = closing (failed refusal.NoMemory) is (none, tt)

  -- what was made and printed, and how the call ended
  pub answers : (page : Result (List ℕ) Refusal) (ended : Ending) (notes : List ℕ) (status : ℕ) → Makes page words files files' notes → Puts page ended out out' → Ends ended notes status err err'
      → Answers words status files files' out out' err err'
  answers (Ok page) (Ok done) notes status made puts e = closing (Ok done) notes status e ended_well e.same ((page, puts, made.0), made.1)
  answers (Ok page) (Err r) notes status made puts e = refusing (failed r) notes status e r e.same puts.0 (writing r page notes made.0 made.1 puts.1)
  answers (Err r) (Ok done) notes status made puts e = absurd puts
  answers (Err r) (Err other) notes status made puts e =
      refusing (failed other) notes status e other e.same (inl (ap (λ (s : SinkState). s.taken) puts.1))
      (subst (λ x. Cause x words files files' out out' notes) (sym puts.0) (making r notes made))
