-- A program whose copy without functions is in scope keeps to the rules of names.
use Rattle.std.proofs.Common.{◌≡◌, ◌⊎◌, inl, inr, Bool, true, false, ◌||◌, if◌then◌else◌, List, [], ◌∷◌, ◌++◌, map, Option, Some, None, is_some, bytes_eq, refl, sym, ap, ◌∙◌, subst, true≢false}
use Rattle.std.specs.List.{Contains, AllByRecursion}
use Rattle.std.specs.Option.{option_or}
use Rattle.std.proofs.lemmas.Bool.{or_left, or_right, false_from_ne_true}
use mathlib.Core.Path.{ap₂}
use Rattle.kl_outcome.specs.Outcome.{Name}
use Rattle.kl_syntax.specs.declared.tree.Decl.{Decl}
use Rattle.kl_syntax.specs.declared.tree.Pattern.{Pattern}
use Rattle.kl_syntax.specs.declared.tree.Program.{Program}
use Rattle.kl_syntax.specs.declared.tree.Tail.TheVariants as tail
use Rattle.kl_syntax.specs.declared.tree.Word.{Word}
use Rattle.kl_syntax.specs.Syntax.{Pat, catch, any, same, is, shape, variant, Pats, no_pats, pats, Exp, Decls, no_decls, constant}
use Rattle.kl_syntax.specs.Syntax.{function}
use Rattle.kl_syntax.specs.View.{view, pattern_view, decl_of, decls_of}
use Rattle.kl_scope.specs.Breaches.{program_findings, InScope, IsFirstBreach, IsRefusal}
use Rattle.kl_scope.specs.Findings.{Finding, breach, mention, only_if, repeated, pattern_findings, patterns_findings, drawn_findings}
use Rattle.kl_scope.specs.Findings.{may_fail, sure_findings, findings, taken, decls_findings, behind_decls}
use Rattle.kl_scope.specs.Findings as scope_findings
use Rattle.kl_scope.specs.Patterns.{variables, tests, pattern_labels, within}
use Rattle.kl_scope.specs.Senses.{Scope, at_first, is_taken, defined}
use Rattle.kl_scope.specs.declared.names.Sense.{Sense}
use Rattle.kl_scope.specs.declared.refusal.ScopeError.{ScopeError}
use Rattle.kl_scope.specs.declared.refusal.ScopeError.TheVariants.{Unknown, Twice, Misapplied, Refutable, NoMemory}
use Rattle.kl_meaning.specs.Match.{same_name}
use Rattle.kl_ho.specs.Functions.{first_functions, with_function, with_fields, candidates, candidates_in, AreLeast, no_fields}
use Rattle.kl_ho.specs.HoPrograms.{FunctionFields, is_among}
use Rattle.kl_ho.specs.Keeps.{Clean}
use Rattle.kl_ho.specs.Plain.{plainly, decls_plainly, last_plainly, AreCaught, CatchesFunctions, CatchFunctions}
use Rattle.kl_ho.proofs.Accepting.{split_clean, clean_none}
use Rattle.kl_ho.proofs.Fields.{nothing_contained}
use Rattle.kl_functions.specs.declared.functions.Known.{Known}
use Rattle.kl_functions.specs.Known.{AreKnown, AreDistinct, fields_in}
use Rattle.kl_functions.specs.Named.{plain_findings, IsFirstPlainBreach, IsNamed, IsNameRefusal}
use Rattle.kl_functions.specs.Plainly.{function_body}
use Rattle.kl_desugar.proofs.Scopes.{turned}
use Rattle.kl_functions.proofs.Among.{among_is}
use Rattle.kl_functions.proofs.Listing.{known_least}
use Rattle.kl_functions.proofs.Searching.{first_in, next_in, first_or_next, itself}

clean_from : (fs : List Finding) → ((e : ScopeError) → Contains fs (breach e) → ⊥) → Clean fs
clean_from [] h = tt
clean_from (breach e ∷ fs) h = absurd (h e (first_in (breach e) fs))
clean_from (mention i ∷ fs) h = (tt, clean_from fs (λ e c. h e (next_in (mention i) (breach e) fs c)))

-- ---- no two definitions have one name

not_twice : (v : Option Sense) (b : Bool) (t : Sense) (o s : Option Sense) (e : Bool) → (is_some (option_or v (option_or (if b then Some t else o) s)) || e) ≡ false → (b ≡ false) × ((is_some (option_or v (option_or o s)) || e) ≡ false)
not_twice (Some x) b t o s e h = absurd (true≢false h)
not_twice None true t o s e h = absurd (true≢false h)
not_twice None false t o s e h = (refl, h)

abbrev IsNew : Scope → Decl → Type 0
IsNew s d = is_taken s d.name.text ≡ false

differ : (s : Scope) (n : Name) (f : Bool) (ds : List Decl) → AllByRecursion (IsNew (defined s n f)) ds → AllByRecursion (λ d. same_name d.name.text n ≡ false) ds × AllByRecursion (IsNew s) ds
differ s n f [] h = (tt, tt)
differ s n f (d ∷ ds) h =
    let r = not_twice _ (bytes_eq n d.name.text) _ _ _ _ h.0 in
    let others = differ s n f ds h.1 in ((sym (turned d.name.text n) ∙ r.0, others.0), (r.1, others.1))

function_clean : (w : Word) (p : Pat) (e : Exp) (ds : Decls) (s : Scope) → Clean (decls_findings (function w p e ds) s)
    → (is_taken s w.text ≡ false) × Clean (sure_findings p s) × Clean (decls_findings ds (defined s w.text true))
function_clean w p e ds s h =
    let a = split_clean (taken s w) (sure_findings p s ++ (findings e (within p s) ++ decls_findings ds (defined s w.text true))) h in
    let b = split_clean (sure_findings p s) (findings e (within p s) ++ decls_findings ds (defined s w.text true)) a.1 in
    (clean_none (is_taken s w.text) (Twice w.text w.token) a.0, b.0, (split_clean (findings e (within p s)) (decls_findings ds (defined s w.text true)) b.1).1)

constant_clean : (w : Word) (e : Exp) (ds : Decls) (s : Scope) → Clean (decls_findings (constant w e ds) s) → (is_taken s w.text ≡ false) × Clean (decls_findings ds (defined s w.text false))
constant_clean w e ds s h =
    let a = split_clean (taken s w) (findings e s ++ decls_findings ds (defined s w.text false)) h in
    (clean_none (is_taken s w.text) (Twice w.text w.token) a.0, (split_clean (findings e s) (decls_findings ds (defined s w.text false)) a.1).1)

module _ (F : FunctionFields) where
  -- the name is free, and nothing is broken behind it
  behind_clean : (p : Option Pattern) (d : Decl) (rest : Decls) (I : Name → Bool) (s : Scope) → Clean (decls_findings (decls_plainly F (decl_of p d rest) I) s)
      → IsNew s d × Clean (decls_findings (decls_plainly F rest (with_function d.name.text (is_some p) I)) (defined s d.name.text (is_some p)))
  behind_clean (Some p) d rest I s h =
      let r = function_clean d.name (pattern_view p) (function_body F I d.name.text (pattern_view p) (view d.body)) (decls_plainly F rest (with_function d.name.text true I)) s h in (r.0, r.2)
  behind_clean None d rest I s h = constant_clean d.name (plainly F I [] (view d.body) None []) (decls_plainly F rest (with_function d.name.text false I)) s h

  distinct : (ds : List Decl) (I : Name → Bool) (s : Scope) → Clean (decls_findings (decls_plainly F (decls_of ds) I) s) → AreDistinct ds × AllByRecursion (IsNew s) ds
  distinct [] I s h = (tt, tt)
  distinct (d ∷ ds) I s h =
      let b = behind_clean d.param d (decls_of ds) I s h in
      let r = distinct ds (with_function d.name.text (is_some d.param) I) (defined s d.name.text (is_some d.param)) b.1 in
      let k = differ s d.name.text (is_some d.param) ds r.1 in ((k.0, r.0), (b.0, k.1))

-- ---- each function field catches a variable

-- the label of a candidate stands among the labels
absent : (ps : Pats) (b : List Name) (l x : Name) → Contains (candidates_in ps) (l, x) → scope_findings.is_among l b ≡ true → Clean (repeated b (pattern_labels ps)) → ⊥
absent no_pats b l x c i h = nothing_contained (l, x) c
absent (pats k (catch w) ps) b l x c i h =
    let r = split_clean (only_if (scope_findings.is_among k.text b) (breach (Twice k.text k.token))) (repeated (k.text ∷ b) (pattern_labels ps)) h in
    elim (first_or_next (k.text, w.text) (l, x) (candidates_in ps) c) [
      | inl e ↦ true≢false (sym i ∙ ap (λ (z : Name × Name). scope_findings.is_among z.0 b) (sym e) ∙ clean_none (scope_findings.is_among k.text b) (Twice k.text k.token) r.0)
      | inr d ↦ absent ps (k.text ∷ b) l x d (or_right (bytes_eq k.text l) (scope_findings.is_among l b) i) r.1
    ]
absent (pats k any ps) b l x c i h = absent ps (k.text ∷ b) l x c (or_right (bytes_eq k.text l) (scope_findings.is_among l b) i) (split_clean (only_if (scope_findings.is_among k.text b) (breach (Twice k.text k.token))) (repeated (k.text ∷ b) (pattern_labels ps)) h).1
absent (pats k (same w) ps) b l x c i h = absent ps (k.text ∷ b) l x c (or_right (bytes_eq k.text l) (scope_findings.is_among l b) i) (split_clean (only_if (scope_findings.is_among k.text b) (breach (Twice k.text k.token))) (repeated (k.text ∷ b) (pattern_labels ps)) h).1
absent (pats k (is v n) ps) b l x c i h = absent ps (k.text ∷ b) l x c (or_right (bytes_eq k.text l) (scope_findings.is_among l b) i) (split_clean (only_if (scope_findings.is_among k.text b) (breach (Twice k.text k.token))) (repeated (k.text ∷ b) (pattern_labels ps)) h).1
absent (pats k (shape qs end) ps) b l x c i h = absent ps (k.text ∷ b) l x c (or_right (bytes_eq k.text l) (scope_findings.is_among l b) i) (split_clean (only_if (scope_findings.is_among k.text b) (breach (Twice k.text k.token))) (repeated (k.text ∷ b) (pattern_labels ps)) h).1
absent (pats k (variant m q) ps) b l x c i h = absent ps (k.text ∷ b) l x c (or_right (bytes_eq k.text l) (scope_findings.is_among l b) i) (split_clean (only_if (scope_findings.is_among k.text b) (breach (Twice k.text k.token))) (repeated (k.text ∷ b) (pattern_labels ps)) h).1

module _ (ls : List Name) where
  -- each of the labels stood before, or is that of a candidate
  abbrev AreThere : List Name → Pats → Type 0
  AreThere b ps = (l : Name) → Contains ls l → (scope_findings.is_among l b ≡ true) ⊎ ((x : Name) × Contains (candidates_in ps) (l, x))

  there_still : (k : Name) (b : List Name) (ps : Pats) → AreThere b ps → AreThere (k ∷ b) ps
  there_still k b ps h l c = elim (h l c) [ inl i ↦ inl (or_right (bytes_eq k l) (scope_findings.is_among l b) i) | inr d ↦ inr d ]

  there_caught : (k x : Name) (b : List Name) (ps : Pats) → ((l : Name) → Contains ls l → (scope_findings.is_among l b ≡ true) ⊎ ((y : Name) × Contains ((k, x) ∷ candidates_in ps) (l, y))) → AreThere (k ∷ b) ps
  there_caught k x b ps h l c = elim (h l c) [
    | inl i ↦ inl (or_right (bytes_eq k l) (scope_findings.is_among l b) i)
    | inr d ↦ elim (first_or_next (k, x) (l, d.0) (candidates_in ps) d.1) [
      | inl e ↦ inl (or_left (bytes_eq k l) (scope_findings.is_among l b) (turned l k ∙ ap (λ (z : Name × Name). same_name z.0 k) (sym e) ∙ itself k))
      | inr n ↦ inr (d.0, n)
    ]
  ]

  not_here : (k : Word) (b : List Name) (ps : Pats) → AreThere b ps → Clean (repeated b (k ∷ pattern_labels ps)) → is_among k.text ls ≡ false
  not_here k b ps h c =
      let r = split_clean (only_if (scope_findings.is_among k.text b) (breach (Twice k.text k.token))) (repeated (k.text ∷ b) (pattern_labels ps)) c in
      false_from_ne_true (is_among k.text ls) (λ t. elim (h k.text ((among_is k.text ls).0 t)) [
        | inl i ↦ true≢false (sym i ∙ clean_none (scope_findings.is_among k.text b) (Twice k.text k.token) r.0)
        | inr d ↦ absent ps (k.text ∷ b) k.text d.0 d.1 (or_left (bytes_eq k.text k.text) (scope_findings.is_among k.text b) (turned k.text k.text ∙ itself k.text)) r.1
      ])

  labels_behind : (k : Word) (b : List Name) (ps : Pats) → Clean (repeated b (k ∷ pattern_labels ps)) → Clean (repeated (k.text ∷ b) (pattern_labels ps))
  labels_behind k b ps c = (split_clean (only_if (scope_findings.is_among k.text b) (breach (Twice k.text k.token))) (repeated (k.text ∷ b) (pattern_labels ps)) c).1

  all_caught : (ps : Pats) (b : List Name) → AreThere b ps → Clean (repeated b (pattern_labels ps)) → AreCaught ls ps
  all_caught no_pats b h c = tt
  all_caught (pats k (catch w) ps) b h c = all_caught ps (k.text ∷ b) (there_caught k.text w.text b ps h) (labels_behind k b ps c)
  all_caught (pats k any ps) b h c = (not_here k b ps h c, all_caught ps (k.text ∷ b) (there_still k.text b ps h) (labels_behind k b ps c))
  all_caught (pats k (same w) ps) b h c = (not_here k b ps h c, all_caught ps (k.text ∷ b) (there_still k.text b ps h) (labels_behind k b ps c))
  all_caught (pats k (is v n) ps) b h c = (not_here k b ps h c, all_caught ps (k.text ∷ b) (there_still k.text b ps h) (labels_behind k b ps c))
  all_caught (pats k (shape qs end) ps) b h c = (not_here k b ps h c, all_caught ps (k.text ∷ b) (there_still k.text b ps h) (labels_behind k b ps c))
  all_caught (pats k (variant m q) ps) b h c = (not_here k b ps h c, all_caught ps (k.text ∷ b) (there_still k.text b ps h) (labels_behind k b ps c))

  caught_at : (p : Pat) (s : Scope) → ((l : Name) → Contains ls l → (x : Name) × Contains (candidates p) (l, x)) → Clean (pattern_findings p s) → CatchesFunctions ls p
  caught_at (shape ps tail.Exact) s h c = all_caught ps [] (λ l k. inr (h l k)) (split_clean (repeated [] (pattern_labels ps)) (patterns_findings ps s) c).0
  caught_at (shape ps tail.Open) s h c = tt
  caught_at (shape ps (tail.Rest x)) s h c = tt
  caught_at (catch x) s h c = tt
  caught_at any s h c = tt
  caught_at (same x) s h c = tt
  caught_at (is v n) s h c = tt
  caught_at (variant k p) s h c = tt

caught_all : (F : FunctionFields) (ds : Decls) (I J : Name → Bool) (before : FunctionFields) (s : Scope) → AreLeast F ds I before → Clean (decls_findings (decls_plainly F ds J) s) → CatchFunctions F ds
caught_all F no_decls I J before s h c = tt
caught_all F (constant d a ds) I J before s h c =
    caught_all F ds (with_function d.text false I) (with_function d.text false J) (with_fields d.text [] before) (defined s d.text false) h
    (constant_clean d (plainly F J [] a None []) (decls_plainly F ds (with_function d.text false J)) s c).1
caught_all F (function d p a ds) I J before s h c =
    let r = function_clean d p (function_body F J d.text p a) (decls_plainly F ds (with_function d.text true J)) s c in
    let pattern = (split_clean (pattern_findings p s) (repeated [] (variables p)) (split_clean (map may_fail (tests p)) (drawn_findings p s) r.1).1).0 in (
      caught_at (F d.text) p s (λ l k. let f = (h.0 l).0 k in (f.0, f.1)) pattern,
      caught_all F ds (with_function d.text true I) (with_function d.text true J) (with_fields d.text (F d.text) before) (defined s d.text true) h.1 r.2,
    )

-- ---- the copy of a program

module _ (p copy : Program) (sources : List Name) (ks : List Known) (known : AreKnown sources [] ks p.defs) (defs : decls_of copy.defs ≡ decls_plainly (fields_in ks) (decls_of p.defs) (first_functions sources))
    (last : view copy.last ≡ last_plainly (fields_in ks) (decls_of p.defs) (view p.last) (first_functions sources)) where
  same_findings : program_findings copy sources ≡ plain_findings (fields_in ks) (decls_of p.defs) (view p.last) sources
  same_findings = ap₂ (λ ds e. decls_findings ds (at_first sources) ++ findings e (behind_decls ds (at_first sources))) defs last

  pub named_ok : InScope copy sources → IsNamed p sources ks
  named_ok h =
      let c = split_clean (decls_findings (decls_plainly (fields_in ks) (decls_of p.defs) (first_functions sources)) (at_first sources))
      (findings (last_plainly (fields_in ks) (decls_of p.defs) (view p.last) (first_functions sources)) (behind_decls (decls_plainly (fields_in ks) (decls_of p.defs) (first_functions sources)) (at_first sources)))
      (clean_from (plain_findings (fields_in ks) (decls_of p.defs) (view p.last) sources) (λ e i. h e (subst (λ (z : List Finding). Contains z (breach e)) (sym same_findings) i))) in
      let least = known_least sources ks p.defs known (distinct (fields_in ks) p.defs (first_functions sources) (at_first sources) c.0).0 in
      record {
        known = known;
        least = least;
        catches = caught_all (fields_in ks) (decls_of p.defs) (first_functions sources) (first_functions sources) no_fields (at_first sources) least c.0;
        no_breach = c;
      }

  first_plain : (e : ScopeError) → IsFirstBreach copy sources e → IsFirstPlainBreach (fields_in ks) (decls_of p.defs) (view p.last) sources e
  first_plain e h = record {
    breaks = subst (λ (z : List Finding). Contains z (breach e)) same_findings h.breaks;
    first = λ y i. h.first y (subst (λ (z : List Finding). Contains z (breach y)) (sym same_findings) i);
  }

  pub named_refused : (e : ScopeError) → IsRefusal copy sources e → IsNameRefusal p sources e
  named_refused NoMemory h = tt
  named_refused (Unknown n t) h = (ks, known, first_plain (Unknown n t) h)
  named_refused (Twice n t) h = (ks, known, first_plain (Twice n t) h)
  named_refused (Misapplied n t) h = (ks, known, first_plain (Misapplied n t) h)
  named_refused (Refutable t) h = (ks, known, first_plain (Refutable t) h)
