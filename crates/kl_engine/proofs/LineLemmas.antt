-- The lines of declarations, one after the other.
use Rattle.std.proofs.Common.{◌≡◌, ◌≢◌, inl, inr, ℕ, ◌+◌, ◌<◌, ◌≤◌, nat_lt, Bool, true, false, if◌then◌else◌, List, [], ◌∷◌, ◌++◌, codes, length, map, take, drop, get_or, min, Option, Some, None, Result, Ok, Err, refl, sym, ap, ap₂, subst, ◌∙◌, arith, append_assoc, append-nil, take-append-drop}
use Rattle.std.specs.List.{zip}
use Rattle.std.specs.Io.KnownBytes.{append_known}
use Rattle.std.proofs.lemmas.List.{take_all, take_more, length-map, get_or-map}
use Rattle.std.proofs.lemmas.Slice.Zip.{length-zip, get_or-zip}
use Rattle.kl_outside.specs.Sinks.{SinkState, WritesWhole}
use Rattle.kl_outside.specs.declared.stop.Stop.{Stop}
use Rattle.kl_outside.specs.declared.stop.Stop.TheVariants as stop
use Rattle.kl_outside.proofs.SinkLemmas.{took_all, took_front, writes_then, writes_stopped}
use Rattle.kl_rows.specs.declared.Scheme.{Scheme}
use Rattle.kl_outcome.specs.Outcome.{Name}
use Rattle.kl_syntax.specs.Syntax.{Decls}
use Rattle.kl_syntax.specs.View.{decl_of, decls_of}
use Rattle.kl_syntax.specs.declared.tree.Decl.{Decl}
use Rattle.kl_syntax.specs.declared.tree.Pattern.{Pattern}
use Rattle.kl_infer.specs.Numbers.{limit}
use Rattle.kl_infer.specs.Printed.{scheme_text}
use Rattle.kl_infer.specs.declared.Typed.{Typed}
use Rattle.kl_engine.specs.Answering.{PrintsPage, IsDetermined}
use Rattle.kl_engine.specs.Faults.{ending}
use Rattle.kl_engine.specs.Running.{ListsLine, ListsAll, ListsFront}
use Rattle.kl_engine.specs.Verdict.{Verdict, well, refused, behind, names_in, named_schemes, scheme_line, scheme_lines}
use Rattle.kl_engine.specs.declared.fault.Fault.{Fault}
use Rattle.kl_engine.specs.declared.fault.Fault.TheVariants as fault
use Rattle.kl_engine.proofs.PageLemmas.{line_full, stop_fault, page_cut}

abbrev Named : Type 0
Named = Name × Scheme

abbrev Fits : Named → Type 0
Fits d = nat_lt limit (length (scheme_text d.1)) ≡ false

lines_fit : (d : Named) (ds : List Named) → Fits d → scheme_lines (d ∷ ds) ≡ behind (scheme_line d) (scheme_lines ds)
lines_fit d ds fits = ap (λ b. if b then refused fault.SchemeBytes else behind (scheme_line d) (scheme_lines ds)) fits

lines_long : (d : Named) (ds : List Named) → nat_lt limit (length (scheme_text d.1)) ≡ true → scheme_lines (d ∷ ds) ≡ refused fault.SchemeBytes
lines_long d ds long = ap (λ b. if b then refused fault.SchemeBytes else behind (scheme_line d) (scheme_lines ds)) long

behind_twice : (front more : List ℕ) (v : Verdict) → behind front (behind more v) ≡ behind (front ++ more) v
behind_twice front more v = ap (λ page. record { page = page; ending = v.ending }) (sym (append_assoc front more v.page))

then_at : (long : Bool) (d : Named) (xs ys : List Named) → ((scheme_lines xs).ending ≡ None → scheme_lines (xs ++ ys) ≡ behind (scheme_lines xs).page (scheme_lines ys))
    → (if long then refused fault.SchemeBytes else behind (scheme_line d) (scheme_lines xs)).ending ≡ None
    → (if long then refused fault.SchemeBytes else behind (scheme_line d) (scheme_lines (xs ++ ys))) ≡ behind (if long then refused fault.SchemeBytes else behind (scheme_line d) (scheme_lines xs)).page (scheme_lines ys)
then_at true d xs ys more fine = absurd cc
then_at false d xs ys more fine = ap (behind (scheme_line d)) (more fine) ∙ behind_twice (scheme_line d) (scheme_lines xs).page (scheme_lines ys)

lines_then : (xs ys : List Named) → (scheme_lines xs).ending ≡ None → scheme_lines (xs ++ ys) ≡ behind (scheme_lines xs).page (scheme_lines ys)
lines_then [] ys fine = refl
lines_then (d ∷ xs) ys fine = then_at (nat_lt limit (length (scheme_text d.1))) d xs ys (lines_then xs ys) fine

told_at : (long : Bool) (d : Named) (v : Verdict) → IsDetermined v.ending → IsDetermined (if long then refused fault.SchemeBytes else behind (scheme_line d) v).ending
told_at true d v told = tt
told_at false d v told = told

ends_told : (xs : List Named) → IsDetermined (scheme_lines xs).ending
ends_told [] = tt
ends_told (d ∷ xs) = told_at (nat_lt limit (length (scheme_text d.1))) d (scheme_lines xs) (ends_told xs)

-- ---- what is written

named_full : (d : Named) → scheme_line d ≢ []
named_full d = line_full ((d.0 ++ codes " : ") ++ scheme_text d.1)

behind_full : (front : List ℕ) (d : Named) → front ++ scheme_line d ≢ []
behind_full [] d is = named_full d is
behind_full (b ∷ bs) d is = cc

one_line : (d : Named) → Fits d → scheme_lines (d ∷ []) ≡ well (scheme_line d ++ [])
one_line d fits = lines_fit d [] fits

module _ (xs : List Named) (out mid new : SinkState) (before : ListsAll xs out mid) where
  -- what comes of more declarations
  with_more : (ys : List Named) → scheme_lines (xs ++ ys) ≡ behind (scheme_lines xs).page (scheme_lines ys)
  with_more ys = lines_then xs ys before.fine

  pub lists_more : (d : Named) (x : Unit {0}) → ListsLine d (Ok x) mid new → ListsAll (xs ++ d ∷ []) out new
  lists_more d x (fits, writes) =
      let page : (scheme_lines (xs ++ d ∷ [])).page ≡ (scheme_lines xs).page ++ scheme_line d = ap (λ v. v.page) (with_more (d ∷ []) ∙ ap (behind (scheme_lines xs).page) (one_line d fits)) ∙ ap (λ bs. (scheme_lines xs).page ++ bs) (append-nil (scheme_line d)) in
      record {
        fine = ap (λ v. v.ending) (with_more (d ∷ []) ∙ ap (behind (scheme_lines xs).page) (one_line d fits));
        writes = subst (λ bs. WritesWhole {T = Unit {0}} bs (Ok tt) out new) (sym page) (writes_then (scheme_lines xs).page (scheme_line d) tt (Ok tt) out mid new before.writes writes);
        still = λ none. absurd (behind_full (scheme_lines xs).page d (sym page ∙ none));
      }

  front_empty : (front rest : List ℕ) → front ++ rest ≡ [] → front ≡ []
  front_empty [] rest is = refl
  front_empty (b ∷ bs) rest is = absurd cc

  with_line : (d : Named) (others : List Named) → Fits d → scheme_lines (xs ++ d ∷ others) ≡ behind ((scheme_lines xs).page ++ scheme_line d) (scheme_lines others)
  with_line d others fits = with_more (d ∷ others) ∙ (ap (behind (scheme_lines xs).page) (lines_fit d others fits) ∙ behind_twice (scheme_lines xs).page (scheme_line d) (scheme_lines others))

  -- a line was begun
  cut : (d : Named) (others : List Named) (e : Stop) → Fits d → WritesWhole {T = Unit {0}} (scheme_line d) (Err e) mid new → PrintsPage (scheme_lines (xs ++ d ∷ others)) (Some (stop_fault e)) out new
  cut d others e fits writes =
      let front = writes_then {T = Unit {0}} {U = Unit {0}} (scheme_lines xs).page (scheme_line d) tt (Err e) out mid new before.writes writes in
      let page = writes_stopped {T = Unit {0}} {U = Unit {0}} ((scheme_lines xs).page ++ scheme_line d) (scheme_lines others).page e out new front in
      subst (λ v. PrintsPage v (Some (stop_fault e)) out new) (sym (with_line d others fits))
      (page_cut (behind ((scheme_lines xs).page ++ scheme_line d) (scheme_lines others)) (ends_told others) (λ is. behind_full (scheme_lines xs).page d (front_empty ((scheme_lines xs).page ++ scheme_line d) (scheme_lines others).page is)) e out new page)

  -- before a line was begun
  early : (ys : List Named) → new ≡ mid → PrintsPage (scheme_lines (xs ++ ys)) (Some fault.NoMemory) out new
  early ys same = subst (λ v. PrintsPage v (Some fault.NoMemory) out new) (sym (with_more ys)) (record {
    ends = inr (inr refl);
    whole = λ end. absurd (subst IsDetermined (sym end) (ends_told ys));
    part = took_front (scheme_lines xs).page (scheme_lines ys).page out new (took_all (scheme_lines xs).page out new (ap (λ s. s.taken) same ∙ before.writes.took));
    nothing = λ none. same ∙ before.still (front_empty (scheme_lines xs).page (scheme_lines ys).page none);
  })

  -- a line was refused
  pub lists_stopped : (d : Named) (f : Fault) (others : List Named) → ListsLine d (Err f) mid new → PrintsPage (scheme_lines (xs ++ d ∷ others)) (Some f) out new
  lists_stopped d fault.SchemeBytes others (long, same) =
      let took : new.taken ≡ append_known out.taken ((scheme_lines xs).page ++ []) = ap (λ s. s.taken) same ∙ (before.writes.took ∙ ap (append_known out.taken) (sym (append-nil (scheme_lines xs).page))) in
      subst (λ v. PrintsPage v (Some fault.SchemeBytes) out new) (sym (with_more (d ∷ others) ∙ ap (behind (scheme_lines xs).page) (lines_long d others long)))
      (record {
        ends = inl refl;
        whole = λ end. took;
        part = took_all ((scheme_lines xs).page ++ []) out new took;
        nothing = λ none. same ∙ before.still (sym (append-nil (scheme_lines xs).page) ∙ none);
      })
  lists_stopped d fault.Write others (fits, writes) = cut d others stop.Failed fits writes
  lists_stopped d fault.NoMemory others (inl same) = early (d ∷ others) same
  lists_stopped d fault.NoMemory others (inr (fits, writes)) = cut d others stop.NoMemory fits writes
  lists_stopped d fault.Usage others is = absurd is
  lists_stopped d (fault.Catalogue byte) others is = absurd is
  lists_stopped d (fault.NameTwice name) others is = absurd is
  lists_stopped d (fault.NoDriver name) others is = absurd is
  lists_stopped d (fault.Unsuited name) others is = absurd is
  lists_stopped d (fault.BadSource name place) others is = absurd is
  lists_stopped d (fault.Changed name) others is = absurd is
  lists_stopped d fault.CatalogueBytes others is = absurd is
  lists_stopped d (fault.Text w byte) others is = absurd is
  lists_stopped d (fault.IllTyped n) others is = absurd is
  lists_stopped d (fault.BadFile n) others is = absurd is
  lists_stopped d (fault.NoType byte) others is = absurd is
  lists_stopped d fault.Overflow others is = absurd is
  lists_stopped d fault.Read others is = absurd is
  lists_stopped d fault.ProgramBytes others is = absurd is
  lists_stopped d fault.FileBytes others is = absurd is
  lists_stopped d fault.Nesting others is = absurd is
  lists_stopped d fault.ItemNesting others is = absurd is
  lists_stopped d fault.TermNodes others is = absurd is
  lists_stopped d fault.TermDepth others is = absurd is

-- the last line ends it
pub lists_ended : (xs : List Named) (d : Named) (result : Result (Unit {0}) Fault) (out mid new : SinkState) → ListsAll xs out mid → ListsLine d result mid new → PrintsPage (scheme_lines (xs ++ d ∷ [])) (ending result) out new
lists_ended xs d (Ok x) out mid new before line =
    let all = lists_more xs out mid new before d x line in
    subst (λ end. PrintsPage (scheme_lines (xs ++ d ∷ [])) end out new) all.fine
    (record { ends = inl refl; whole = λ end. all.writes.took; part = all.writes.part; nothing = all.still })
lists_ended xs d (Err f) out mid new before line = lists_stopped xs out mid new before d f [] line

-- ---- declarations with their schemes

one_name : (param : Option Pattern) (d : Decl) (ds : Decls) → names_in (decl_of param d ds) ≡ d.name.text ∷ names_in ds
one_name None d ds = refl
one_name (Some p) d ds = refl

pub names_are : (ds : List Decl) → names_in (decls_of ds) ≡ map (λ d. d.name.text) ds
names_are [] = refl
names_are (d ∷ ds) = one_name d.param d (decls_of ds) ∙ ap (λ ns. d.name.text ∷ ns) (names_are ds)

abbrev name_of : Decl → Name
name_of d = d.name.text

abbrev pub pairs : List Decl → List Scheme → List Named
pairs defs schemes = zip (map name_of defs) schemes

size_of : (defs : List Decl) (schemes : List Scheme) → length (pairs defs schemes) ≡ min (length defs) (length schemes)
size_of defs schemes = length-zip (map name_of defs) schemes ∙ ap (λ n. min n (length schemes)) (length-map defs name_of)

-- what its owners share
pub scheme_at : (schemes : List Scheme) (i : ℕ) (owned scheme : Scheme) → owned ≡ get_or schemes i owned → scheme ≡ owned → scheme ≡ get_or schemes i scheme
scheme_at schemes i owned scheme h e = subst (λ (z : Scheme). z ≡ get_or schemes i z) (sym e) h

module _ (defs : List Decl) (schemes : List Scheme) (end i : ℕ) (d : Decl) (scheme : Scheme) (name : Name) (end_is : end ≡ min (length defs) (length schemes)) (within : i < end) (scheme_is : scheme ≡ get_or schemes i scheme) (name_is : name ≡ (get_or defs i d).name.text) where
  inside : i < length (pairs defs schemes)
  inside = let size = size_of defs schemes in omega (arith, within, end_is, size)

  here : i < length defs
  here = omega (arith, within, end_is)

  in_defs : i < length (map name_of defs)
  in_defs = let size = length-map defs name_of in omega (arith, within, end_is, size)

  in_schemes : i < length schemes
  in_schemes = omega (arith, within, end_is)

  pair_is : (name, scheme) ≡ get_or (pairs defs schemes) i (name, scheme)
  pair_is =
      ap₂ (λ n s. (n, s)) (name_is ∙ sym (get_or-map name_of defs i d name here)) scheme_is
      ∙ sym (get_or-zip (map name_of defs) schemes i (name, scheme) in_defs in_schemes)

  taken_more : take (i + 1) (pairs defs schemes) ≡ take i (pairs defs schemes) ++ (name, scheme) ∷ []
  taken_more = take_more (pairs defs schemes) i (name, scheme) inside ∙ ap (λ p. take i (pairs defs schemes) ++ p ∷ []) (sym pair_is)

  split_at : pairs defs schemes ≡ take i (pairs defs schemes) ++ (name, scheme) ∷ drop (i + 1) (pairs defs schemes)
  split_at =
      sym (take-append-drop (i + 1) (pairs defs schemes))
      ∙ (ap (λ front. front ++ drop (i + 1) (pairs defs schemes)) taken_more
      ∙ append_assoc (take i (pairs defs schemes)) ((name, scheme) ∷ []) (drop (i + 1) (pairs defs schemes)))

  pub step_lists : (x : Unit {0}) (out mid new : SinkState) → ListsAll (take i (pairs defs schemes)) out mid → ListsLine (name, scheme) (Ok x) mid new → ListsAll (take (i + 1) (pairs defs schemes)) out new
  step_lists x out mid new before line = subst (λ ds. ListsAll ds out new) (sym taken_more) (lists_more (take i (pairs defs schemes)) out mid new before (name, scheme) x line)

  pub stop_lists : (f : Fault) (out mid new : SinkState) → ListsAll (take i (pairs defs schemes)) out mid → ListsLine (name, scheme) (Err f) mid new → ListsFront (pairs defs schemes) (Err f) out new
  stop_lists f out mid new before line others =
      subst (λ ds. PrintsPage (scheme_lines (ds ++ others)) (Some f) out new) (sym split_at)
      (subst (λ ds. PrintsPage (scheme_lines ds) (Some f) out new) (sym (append_assoc (take i (pairs defs schemes)) ((name, scheme) ∷ drop (i + 1) (pairs defs schemes)) others))
      (lists_stopped (take i (pairs defs schemes)) out mid new before (name, scheme) f (drop (i + 1) (pairs defs schemes) ++ others) line))

-- all are through
pub lists_done : (defs : List Decl) (schemes : List Scheme) (end i : ℕ) (out new : SinkState) → end ≡ min (length defs) (length schemes) → end ≤ i → ListsAll (take i (pairs defs schemes)) out new → ListsAll (pairs defs schemes) out new
lists_done defs schemes end i out new end_is all lists = subst (λ ds. ListsAll ds out new) (take_all i (pairs defs schemes) (let size = size_of defs schemes in omega (arith, all, end_is, size))) lists

-- the pairs are those of the definitions
named_as : (defs given : List Decl) (schemes : List Scheme) (typed : Typed) → given ≡ defs → schemes ≡ typed.schemes → named_schemes (decls_of defs) typed ≡ pairs given schemes ++ (codes "it", typed.result) ∷ []
named_as defs given schemes typed defs_are schemes_are =
    ap (λ ds. ds ++ (codes "it", typed.result) ∷ [])
    (ap (λ ns. zip ns typed.schemes) (names_are defs ∙ ap (map name_of) (sym defs_are)) ∙ ap (zip (map name_of given)) (sym schemes_are))

pub list_ended : (defs given : List Decl) (schemes : List Scheme) (typed : Typed) (result : Result (Unit {0}) Fault) (out mid new : SinkState) → given ≡ defs → schemes ≡ typed.schemes
    → ListsAll (pairs given schemes) out mid → ListsLine (codes "it", typed.result) result mid new → PrintsPage (scheme_lines (named_schemes (decls_of defs) typed)) (ending result) out new
list_ended defs given schemes typed result out mid new defs_are schemes_are before line =
    subst (λ ds. PrintsPage (scheme_lines ds) (ending result) out new) (sym (named_as defs given schemes typed defs_are schemes_are))
    (lists_ended (pairs given schemes) (codes "it", typed.result) result out mid new before line)

pub list_stopped : (defs given : List Decl) (schemes : List Scheme) (typed : Typed) (f : Fault) (out new : SinkState) → given ≡ defs → schemes ≡ typed.schemes
    → ListsFront (pairs given schemes) (Err f) out new → PrintsPage (scheme_lines (named_schemes (decls_of defs) typed)) (Some f) out new
list_stopped defs given schemes typed f out new defs_are schemes_are front =
    subst (λ ds. PrintsPage (scheme_lines ds) (Some f) out new) (sym (named_as defs given schemes typed defs_are schemes_are)) (front ((codes "it", typed.result) ∷ []))
