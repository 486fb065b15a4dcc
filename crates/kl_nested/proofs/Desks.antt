-- What stays true of the files, the sources and the open cursors of a driver.
use Rattle.std.proofs.Common.{◌≡◌, ◌≢◌, ◌⊎◌, ℕ, false, List, [], ◌∷◌, ◌++◌, length, set, Option, Some, None, IsSome, slice_get, refl, sym, ap, subst, ◌∙◌, ⊎_elim, nat_eq, arith, inl, inr}
use Rattle.std.specs.Cmp.Lexicographic.{pointwise}
use Rattle.std.specs.HashMap.{Updates}
use Rattle.std.proofs.lemmas.Bool.{cases_eq}
use Rattle.std.proofs.lemmas.Option.{same_Some}
use Rattle.kl_type.proofs.RowLemmas.{same_label, told}
use Rattle.kl_outside.specs.Files.{FilesState, OtherFiles, OtherSeen, left_at_first, seen_in}
use Rattle.kl_outcome.specs.Outcome.{Name}
use Rattle.kl_heads.specs.FileReading.{AsSeen}
use Rattle.kl_ask.specs.Cursors.{open_at}
use Rattle.kl_ask.specs.declared.ask.Ask.{Ask}
use Rattle.kl_ask.specs.declared.ask.Ask.TheVariants as asks
use Rattle.kl_ask.proofs.Names.{not_same}
use Rattle.kl_ask.proofs.Opened.{added_free, added_now, added_others, changed_now, changed_others}
use Rattle.kl_nested.specs.Desk.{HasReadOf, HasTaken, IsDesk, IsKept, IsReading}
use Rattle.kl_nested.specs.Handing.{ReadsOne}
use Rattle.kl_ask.specs.Named.{asked_source, source_named}
use Rattle.kl_nested.specs.Nested.{Sources}
use Rattle.kl_nested.specs.Opening.{OpensOver}
use Rattle.kl_nested.specs.declared.parts.Source.{Source}
use Rattle.kl_nested.specs.declared.parts.Open.{Open}
use Rattle.kl_nested.proofs.Handings.{kept_on}
use Rattle.kl_nested.proofs.Progress.{begins_open, begins_seen}

some_not_none : (T : Type 0) → IsSome {T = T} None → ⊥
some_not_none T h = cc

module _ (limit : ℕ) (f g : FilesState) (told_on : g.told ≡ f.told) where
  taken_on : (s : Source) (n : ℕ) (o : Open) → g.left o.reader.items.file ≡ f.left o.reader.items.file → seen_in g o.reader.items.file ≡ seen_in f o.reader.items.file → HasTaken limit s n o.reader f → HasTaken limit s n o.reader g
  taken_on s n o left seen h = record {
    values = h.values;
    has_seen = subst (AsSeen (HasReadOf s h.values o.reader) o.reader) (sym seen) h.has_seen;
    has_read = subst (λ l. HasReadOf s h.values o.reader (Some (left_at_first g.told s.path)) l) (sym left) (subst (λ t. HasReadOf s h.values o.reader (Some (left_at_first t s.path)) (f.left o.reader.items.file)) (sym told_on) h.has_read);
    is_open = subst IsSome (sym left) h.is_open;
    counted = h.counted;
    same_limit = h.same_limit;
  }

  pub reading_on : (o : Open) → g.left o.file ≡ f.left o.file → seen_in g o.file ≡ seen_in f o.file → IsReading limit f o → IsReading limit g o
  reading_on o left seen h = record {
    kept = kept_on limit f.told g.told o.source told_on h.kept;
    within = h.within;
    same_file = h.same_file;
    taken = taken_on o.source o.taken o (ap g.left h.same_file ∙ left ∙ sym (ap f.left h.same_file)) (ap (seen_in g) h.same_file ∙ seen ∙ sym (ap (seen_in f) h.same_file)) h.taken;
  }

-- the file of an open cursor is open
pub file_open : (limit : ℕ) (f : FilesState) (o : Open) → IsReading limit f o → IsSome (f.left o.file)
file_open limit f o h = subst (λ k. IsSome (f.left k)) h.same_file h.taken.is_open

module _ (limit : ℕ) (f : FilesState) (sources : Sources) (cursors : List (Option Open)) (desk : IsDesk limit f sources cursors) where
  -- the source that is asked is as it was attached
  pub kept_asked : (ask : Ask) (s : Source) → asked_source sources ask ≡ Some s → IsKept limit f.told s
  kept_asked (asks.Rows name keep tests) s is = desk.kept name s is
  kept_asked (asks.Sql text) s is = absurd cc

  -- no open file has changed
  pub desk_same : (g : FilesState) → g.told ≡ f.told → ((k : ℕ) → g.left k ≡ f.left k) → ((k : ℕ) → IsSome (f.left k) → seen_in g k ≡ seen_in f k) → IsDesk limit g sources cursors
  desk_same g told_on left seen = record {
    kept = λ name s is. kept_on limit f.told g.told s told_on (desk.kept name s is);
    asked = desk.asked;
    reading = λ k o is. reading_on limit f g told_on o (left o.file) (seen o.file (file_open limit f o (desk.reading k o is))) (desk.reading k o is);
    only = λ n is. desk.only n (subst IsSome (left n) is);
    apart = desk.apart;
  }

  -- one source more, under a name that had none
  pub desk_attached : (sources' : Sources) (name : Name) (s : Source) → source_named sources name ≡ None → Updates (pointwise nat_eq) sources sources' name (Some s) → IsKept limit f.told s → IsDesk limit f sources' cursors
  desk_attached sources' name s fresh added kept = record {
    kept = λ n t is. ⊎_elim
        (λ same. subst (IsKept limit f.told) (same_Some _ _ (sym here ∙ sym (ap (source_named sources') same.1) ∙ is)) kept)
        (λ other. desk.kept n t (sym (added.0 n ∙ (let e = turned n name other.0 in rw e refl)) ∙ is))
        (told n name);
    asked = λ k o is. stays o.ask o.source (desk.asked k o is);
    reading = desk.reading;
    only = desk.only;
    apart = desk.apart;
  }
    where
      here : source_named sources' name ≡ Some s
      here = added.0 name ∙ (let e = same_label name in rw e refl)

      turned : (n m : Name) → pointwise nat_eq n m ≡ false → pointwise nat_eq m n ≡ false
      turned n m other = not_same m n (λ same. let e = sym other ∙ ap (pointwise nat_eq n) same ∙ same_label n in cc)

      stays : (ask : Ask) (t : Source) → asked_source sources ask ≡ Some t → asked_source sources' ask ≡ Some t
      stays (asks.Sql text) t is = absurd cc
      stays (asks.Rows n keep tests) t is = ⊎_elim
          (λ same. let e : None ≡ Some t = sym fresh ∙ sym (ap (source_named sources) same.1) ∙ is in cc)
          (λ other. added.0 n ∙ (let e = turned n name other.0 in rw e refl) ∙ is)
          (told n name)

  -- one cursor more, whose file was not open
  module _ (g : FilesState) (cursors' : List (Option Open)) (source : Source) (ask : Ask) (o : Open) (told_on : g.told ≡ f.told) (grown : cursors' ≡ cursors ++ Some o ∷ []) (over : OpensOver limit source ask f g o) (found : asked_source sources ask ≡ Some source) where
    kept : IsKept limit f.told source
    kept = kept_asked ask source found

    new_reading : IsReading limit g o
    new_reading =
        let same : o.source ≡ source = over.source_is in
        record {
          kept = kept_on limit f.told g.told o.source told_on (subst (IsKept limit f.told) (sym same) kept);
          within = omega (arith, over.none_taken);
          same_file = over.same_file;
          taken = record {
            values = [];
            has_seen = subst (AsSeen (HasReadOf o.source [] o.reader) o.reader) (sym (ap (seen_in g) over.same_file ∙ over.unread)) (λ q is. let h = begins_seen o.reader f.log over.front over.size over.fresh over.text over.unpast q is in (inl (refl, h.0), h.1));
            has_read =
                subst (λ l. HasReadOf o.source [] o.reader l (g.left o.reader.items.file)) (ap g.left over.same_file ∙ over.left ∙ ap Some (λ i. left_at_first (sym told_on i) (sym (ap (λ (s : Source). s.path) same) i)))
                (inl (refl, begins_open o.reader (g.left o.reader.items.file) over.front over.size over.fresh over.text over.unpast));
            is_open = subst IsSome (sym (ap g.left over.same_file ∙ over.left)) refl;
            counted = over.none_taken;
            same_limit = omega (arith, over.size, over.same_limit);
          };
        }

    others_apart : (k : ℕ) (p : Open) → open_at cursors k ≡ Some p → p.file ≢ o.file
    others_apart k p is same = some_not_none (Option (List ℕ)) (subst IsSome (ap f.left same ∙ over.free) (file_open limit f p (desk.reading k p is)))

    cases : (k : ℕ) (p : Open) → open_at cursors' k ≡ Some p → ((k ≡ length cursors) × (p ≡ o)) ⊎ ((k ≢ length cursors) × (open_at cursors k ≡ Some p))
    cases k p is = ⊎_elim
        (λ last. inl (last, same_Some _ _ (sym is ∙ added_now cursors cursors' k o last grown)))
        (λ ne. inr (ne, sym (added_others cursors cursors' (length cursors) o refl grown k ne) ∙ is))
        (cases_eq k (length cursors))

    pub desk_opened : IsDesk limit g sources cursors'
    desk_opened = record {
      kept = λ name s is. kept_on limit f.told g.told s told_on (desk.kept name s is);
      asked = λ k p is. elim (cases k p is) [
        | inl new ↦ (ap (λ (x : Open). asked_source sources x.ask) new.1 ∙ ap (asked_source sources) over.ask_is ∙ found ∙ ap Some (sym over.source_is) ∙ ap (λ (x : Open). Some x.source) (sym new.1))
        | inr old ↦ desk.asked k p old.1
      ];
      reading = λ k p is. elim (cases k p is) [
        | inl new ↦ subst (IsReading limit g) (sym new.1) new_reading
        | inr old ↦ reading_on limit f g told_on p (over.others p.file (others_apart k p old.1)) (over.others_seen p.file (others_apart k p old.1)) (desk.reading k p old.1)
      ];
      only = λ n is. elim (cases_eq n o.file) [
        | inl same ↦ (length cursors, o, added_now cursors cursors' (length cursors) o refl grown, sym same)
        | inr ne ↦ (let old = desk.only n (subst IsSome (over.others n ne) is) in
            (old.0, old.1, added_others cursors cursors' (length cursors) o refl grown old.0 (not_last old.0 old.1 old.2) ∙ old.2, old.3))
      ];
      apart = λ j k p q isp isq same. by (cases j p isp) (cases k q isq) same;
    }
      where
        not_last : (k : ℕ) (p : Open) → open_at cursors k ≡ Some p → k ≢ length cursors
        not_last k p at same = let e : None ≡ Some p = sym (added_free cursors cursors' (length cursors) o refl grown) ∙ sym (ap (open_at cursors) same) ∙ at in cc

        by : {j k : ℕ} {p q : Open} → ((j ≡ length cursors) × (p ≡ o)) ⊎ ((j ≢ length cursors) × (open_at cursors j ≡ Some p)) → ((k ≡ length cursors) × (q ≡ o)) ⊎ ((k ≢ length cursors) × (open_at cursors k ≡ Some q)) → p.file ≡ q.file → j ≡ k
        by (inl a) (inl b) same = a.0 ∙ sym b.0
        by {j} {k} {p} {q} (inl a) (inr b) same = absurd (others_apart k q b.1 (sym same ∙ ap (λ (x : Open). x.file) a.1))
        by {j} {k} {p} {q} (inr a) (inl b) same = absurd (others_apart j p a.1 (same ∙ ap (λ (x : Open). x.file) b.1))
        by {j} {k} {p} {q} (inr a) (inr b) same = desk.apart j k p q a.1 b.1 same

  -- one cursor reads on
  module _ (g : FilesState) (cursors' : List (Option Open)) (at : ℕ) (o o' : Open) (is : slice_get cursors at ≡ Some (Some o)) (made : cursors' ≡ set cursors at (Some o')) (reads : ReadsOne o.reader o'.reader f g) (ask : o'.ask ≡ o.ask) (source : o'.source ≡ o.source) (file : o'.file ≡ o.file) where
    here : open_at cursors at ≡ Some o
    here = search

    its_own : (k : ℕ) (p : Open) → k ≢ at → open_at cursors k ≡ Some p → p.file ≢ o.reader.items.file
    its_own k p ne at_k same = ne (desk.apart k at p o at_k here (same ∙ (desk.reading at o here).same_file))

    pub desk_pulled : IsReading limit g o' → IsDesk limit g sources cursors'
    desk_pulled now = record {
      kept = λ name s is. kept_on limit f.told g.told s reads.told (desk.kept name s is);
      asked = λ k p at_k. elim (cases_eq k at) [
        | inl same ↦ (let e : o' ≡ p = same_Some _ _ (sym (changed_now cursors cursors' at o o' is made) ∙ sym (ap (open_at cursors') same) ∙ at_k) in
            subst (λ (x : Open). asked_source sources x.ask ≡ Some x.source) e (ap (asked_source sources) ask ∙ desk.asked at o here ∙ ap Some (sym source)))
        | inr ne ↦ desk.asked k p (sym (changed_others cursors cursors' at o o' is made k ne) ∙ at_k)
      ];
      reading = λ k p at_k. elim (cases_eq k at) [
        | inl same ↦ subst (IsReading limit g) (same_Some _ _ (sym (changed_now cursors cursors' at o o' is made) ∙ sym (ap (open_at cursors') same) ∙ at_k)) now
        | inr ne ↦ (let old = sym (changed_others cursors cursors' at o o' is made k ne) ∙ at_k in reading_on limit f g reads.told p (reads.others p.file (its_own k p ne old)) (reads.others_seen p.file (its_own k p ne old)) (desk.reading k p old))
      ];
      only = λ n is_open. elim (cases_eq n o.reader.items.file) [
        | inl same ↦ (at, o', changed_now cursors cursors' at o o' is made, file ∙ sym (desk.reading at o here).same_file ∙ sym same)
        | inr ne ↦ (let old = desk.only n (subst IsSome (reads.others n ne) is_open) in
            (old.0, old.1, changed_others cursors cursors' at o o' is made old.0 (not_at n ne old.0 old.1 old.2 old.3) ∙ old.2, old.3))
      ];
      apart = λ j k p q isp isq same. by j k p q (cases_eq j at) (cases_eq k at) isp isq same;
    }
      where
        not_at : (n : ℕ) → n ≢ o.reader.items.file → (k : ℕ) (p : Open) → open_at cursors k ≡ Some p → p.file ≡ n → k ≢ at
        not_at n ne k p at_k file_is same =
            let one : o ≡ p = same_Some _ _ (sym here ∙ sym (ap (open_at cursors) same) ∙ at_k) in
            ne (sym file_is ∙ ap (λ (x : Open). x.file) (sym one) ∙ sym (desk.reading at o here).same_file)

        was : (k : ℕ) (p : Open) → open_at cursors' k ≡ Some p → (p' : Open) × (open_at cursors k ≡ Some p') × (p'.file ≡ p.file)
        was k p at_k = elim (cases_eq k at) [
          | inl same ↦ (o, ap (open_at cursors) same ∙ here, sym file ∙ ap (λ (x : Open). x.file) (same_Some _ _ (sym (changed_now cursors cursors' at o o' is made) ∙ sym (ap (open_at cursors') same) ∙ at_k)))
          | inr ne ↦ (p, sym (changed_others cursors cursors' at o o' is made k ne) ∙ at_k, refl)
        ]

        by : (j k : ℕ) (p q : Open) → (j ≡ at) ⊎ (j ≢ at) → (k ≡ at) ⊎ (k ≢ at) → open_at cursors' j ≡ Some p → open_at cursors' k ≡ Some q → p.file ≡ q.file → j ≡ k
        by j k p q a b isp isq same = let x = was j p isp in let y = was k q isq in desk.apart j k x.0 y.0 x.1 y.1 (x.2 ∙ same ∙ sym y.2)

  -- one cursor is closed, and its file, after its reader read on
  module _ (g : FilesState) (cursors' : List (Option Open)) (at : ℕ) (o : Open) (here : open_at cursors at ≡ Some o) (closed : open_at cursors' at ≡ None) (others : (k : ℕ) → k ≢ at → open_at cursors' k ≡ open_at cursors k)
      (told_on : g.told ≡ f.told) (left : OtherFiles o.file f g) (gone : g.left o.file ≡ None) (seen : OtherSeen o.file f g) where
    pub desk_closed : IsDesk limit g sources cursors'
    desk_closed = record {
      kept = λ name s is. kept_on limit f.told g.told s told_on (desk.kept name s is);
      asked = λ k p at_k. desk.asked k p (was k p at_k);
      reading = λ k p at_k.
          let old = was k p at_k in
          let own : p.file ≢ o.file = (λ same. (ne k p at_k) (desk.apart k at p o old here same)) in
          reading_on limit f g told_on p (left p.file own) (seen p.file own) (desk.reading k p old);
      only = λ n is_open. elim (cases_eq n o.file) [
        | inl same ↦ absurd (some_not_none (Option (List ℕ)) (subst IsSome (ap g.left same ∙ gone) is_open))
        | inr other ↦ (let old = desk.only n (subst IsSome (left n other) is_open) in (old.0, old.1, others old.0 (not_at n other old.0 old.1 old.2 old.3) ∙ old.2, old.3))
      ];
      apart = λ j k p q isp isq same. desk.apart j k p q (was j p isp) (was k q isq) same;
    }
      where
        not_at : (n : ℕ) → n ≢ o.file → (k : ℕ) (p : Open) → open_at cursors k ≡ Some p → p.file ≡ n → k ≢ at
        not_at n other k p at_k file_is same =
            let one : o ≡ p = same_Some _ _ (sym here ∙ sym (ap (open_at cursors) same) ∙ at_k) in
            other (sym file_is ∙ ap (λ (x : Open). x.file) (sym one))

        ne : (k : ℕ) (p : Open) → open_at cursors' k ≡ Some p → k ≢ at
        ne k p at_k same = let e : None ≡ Some p = sym closed ∙ sym (ap (open_at cursors') same) ∙ at_k in cc

        was : (k : ℕ) (p : Open) → open_at cursors' k ≡ Some p → open_at cursors k ≡ Some p
        was k p at_k = sym (others k (ne k p at_k)) ∙ at_k
