-- The labels that a search finds are those of the least function fields.
use Rattle.std.proofs.Common.{◌≡◌, ◌↔◌, inl, inr, Bool, true, false, not, ◌||◌, cond, List, [], ◌∷◌, map, filter, Result, Ok, Err, IfOk, refl, sym, ap, ◌∙◌, subst, true≢false}
use Rattle.std.specs.Borrow.{Bor}
use Rattle.std.proofs.lemmas.Bool.{or_right}
use Rattle.std.specs.List.{Contains}
use Rattle.kl_outcome.specs.Outcome.{Name}
use Rattle.kl_syntax.specs.Syntax.{Pat, Exp}
use Rattle.kl_scope.specs.Patterns.{variables}
use Rattle.kl_meaning.specs.Match.{same_name}
use Rattle.kl_functions.specs.declared.functions.Before.{Before}
use Rattle.kl_functions.specs.declared.occurrences.Occurrence.{Occurrence}
use Rattle.kl_functions.specs.declared.occurrences.Parameter.{Parameter}
use Rattle.kl_ho.specs.Expansion.{texts}
use Rattle.kl_ho.specs.Functions.{Site, IsFunction, candidates, sites, body_sites}
use Rattle.kl_ho.specs.HoPrograms.{is_among}
use Rattle.kl_functions.specs.Known.{settled_labels, AreFieldsOf, functions_of, fields_of}
use Rattle.kl_functions.specs.Occurrences.{names_of, roles_of, pairs_of, seconds_of, occurrences}
use Rattle.kl_functions.specs.Rounds.{sites_in, facts_in, AreSettled}
use Rattle.kl_ho.proofs.Fields.{nothing_contained}
use Rattle.kl_functions.proofs.Siting.{same_sites, sites_are_of}
use Rattle.kl_functions.proofs.Searching.{first_in, next_in, first_or_next, itself, function_found}

-- a label is kept with a variable that is not unmade
record Kept (unmade : List Name) (cs : List (Name × Name)) (l : Name) : Type 0 where
  variable : Name
  there : Contains cs (l, variable)
  closed : is_among variable unmade ≡ false

label_kept : (unmade : List Name) (cs : List (Name × Name)) (l : Name) → Contains (settled_labels unmade cs) l → Kept unmade cs l
label_kept unmade [] l c = absurd (nothing_contained l c)
label_kept unmade (k ∷ cs) l c = by_unmade (is_among k.1 unmade) refl (label_kept unmade cs l) c
  where
    later : Kept unmade cs l → Kept unmade (k ∷ cs) l
    later h = record { variable = h.variable; there = next_in k (l, h.variable) cs h.there; closed = h.closed }

    by_unmade : (b : Bool) → is_among k.1 unmade ≡ b → (Contains (settled_labels unmade cs) l → Kept unmade cs l)
        → Contains (map (λ z. z.0) (cond (not b) (k ∷ filter (λ z. not (is_among z.1 unmade)) cs) (filter (λ z. not (is_among z.1 unmade)) cs))) l → Kept unmade (k ∷ cs) l
    by_unmade true e go d = later (go d)
    by_unmade false e go d = elim (first_or_next k.0 l (settled_labels unmade cs) d) [
      | inl i ↦ record { variable = k.1; there = rw (sym i) (first_in k cs); closed = e }
      | inr n ↦ later (go n)
    ]

kept_label : (unmade : List Name) (cs : List (Name × Name)) (l x : Name) → Contains cs (l, x) → is_among x unmade ≡ false → Contains (settled_labels unmade cs) l
kept_label unmade [] l x c o = absurd (nothing_contained (l, x) c)
kept_label unmade (k ∷ cs) l x c o = by_unmade (is_among k.1 unmade) refl (λ d. kept_label unmade cs l x d o)
  where
    by_unmade : (b : Bool) → is_among k.1 unmade ≡ b → (Contains cs (l, x) → Contains (settled_labels unmade cs) l) → Contains (map (λ z. z.0) (cond (not b) (k ∷ filter (λ z. not (is_among z.1 unmade)) cs) (filter (λ z. not (is_among z.1 unmade)) cs))) l
    by_unmade true e go = elim (first_or_next k (l, x) cs c) [
      | inl i ↦ absurd (true≢false (sym e ∙ ap (λ (z : Name × Name). is_among z.1 unmade) i ∙ o))
      | inr d ↦ go d
    ]
    by_unmade false e go = elim (first_or_next k (l, x) cs c) [
      | inl i ↦ subst (λ (y : Name). Contains (k.0 ∷ settled_labels unmade cs) y) (ap (λ (z : Name × Name). z.0) i) (first_in k.0 (settled_labels unmade cs))
      | inr d ↦ next_in k.0 l (settled_labels unmade cs) (go d)
    ]

among_seconds : (cs : List (Name × Name)) (l x : Name) → Contains cs (l, x) → is_among x (seconds_of cs) ≡ true
among_seconds [] l x c = absurd (nothing_contained (l, x) c)
among_seconds (k ∷ cs) l x c = elim (first_or_next k (l, x) cs c) [
  | inl i ↦ ap (λ (z : Name × Name). same_name x z.1 || is_among x (seconds_of cs)) i ∙ ap (λ b. b || is_among x (seconds_of cs)) (itself x)
  | inr d ↦ or_right (same_name x k.1) (is_among x (seconds_of cs)) (among_seconds cs l x d)
]

settled_are : (is_function : Name → Bool) (before : Name → List Name) (p : Pat) (e : Exp) (unmade : List Name) → AreSettled (record { is_function = is_function; before = before; calls = body_sites p e; unmade = unmade }) (seconds_of (candidates p))
    → (l : Name) → Contains (settled_labels unmade (candidates p)) l ↔ ((x : Name) × Contains (candidates p) (l, x) × IsFunction is_function before (body_sites p e) x)
settled_are is_function before p e unmade s l = (
  (λ c. let k = label_kept unmade (candidates p) l c in
      (k.variable, k.there, s.known (sites_are_of (texts (variables p)) (seconds_of (candidates p)) e []) k.variable (among_seconds (candidates p) l k.variable k.there) k.closed)),
  (λ h. kept_label unmade (candidates p) l h.0 h.1 (function_found (record { is_function = is_function; before = before; calls = body_sites p e; unmade = unmade }) s.closed h.2)),
)

pub fields_found : (before : Before) (p : Pat) (e : Exp) (g : Parameter) (fields : List (Bor Name × Bor Name)) (found : List Occurrence) (unmade : List (Bor Name)) (ls : List Name) → names_of g.variables.items ≡ texts (variables p)
    → pairs_of fields ≡ candidates p → names_of g.candidates.items ≡ seconds_of (pairs_of fields) → found ≡ occurrences (roles_of g) e false [] → AreSettled (facts_in before found unmade) (names_of g.candidates.items)
    → ls ≡ settled_labels (names_of unmade) (pairs_of fields) → AreFieldsOf before p e ls
fields_found before p e g fields found unmade ls vs fs cs os s are =
    let calls : sites_in found ≡ body_sites p e =
    ap sites_in os ∙ same_sites (roles_of g) e false [] ∙ ap (λ z. sites z (names_of g.candidates.items) e []) vs ∙ ap (λ z. sites (texts (variables p)) z e []) (cs ∙ ap seconds_of fs) in
    let known : AreSettled (record { is_function = functions_of before.known.now before.sources.now; before = fields_of before.known.now; calls = body_sites p e; unmade = names_of unmade }) (seconds_of (candidates p)) =
    subst (λ (z : List Site). AreSettled (record { is_function = functions_of before.known.now before.sources.now; before = fields_of before.known.now; calls = z; unmade = names_of unmade }) (seconds_of (candidates p))) calls
    (subst (λ (z : List Name). AreSettled (facts_in before found unmade) z) (cs ∙ ap seconds_of fs) s) in
    λ l. rw (are, fs) (settled_are (functions_of before.known.now before.sources.now) (fields_of before.known.now) p e (names_of unmade) known l)

pub fields_done : {X : Type 0} (r : Result (List Name) X) (before : Before) (p : Pat) (e : Exp) (g : Parameter) (fields fields1 fields2 : List (Bor Name × Bor Name)) (found found2 : List Occurrence) (unmade unmade2 cand2 : List (Bor Name)) → fields1 ≡ fields
    → found2 ≡ found → cand2 ≡ g.candidates.items → fields2 ≡ fields → unmade2 ≡ unmade → names_of g.variables.items ≡ texts (variables p) → pairs_of fields ≡ candidates p → names_of g.candidates.items ≡ seconds_of (pairs_of fields1)
    → found ≡ occurrences (roles_of g) e false [] → AreSettled (facts_in before found2 unmade) (names_of cand2) → IfOk r (λ ls. ls ≡ settled_labels (names_of unmade2) (pairs_of fields2)) → IfOk r (λ ls. AreFieldsOf before p e ls)
fields_done (Ok ls) before p e g fields fields1 fields2 found found2 unmade unmade2 cand2 a b d f u vs fs cs os s h =
    let known : AreSettled (facts_in before found unmade) (names_of g.candidates.items) =
    subst (λ (z : List Occurrence). AreSettled (facts_in before z unmade) (names_of g.candidates.items)) b (subst (λ (z : List (Bor Name)). AreSettled (facts_in before found2 unmade) (names_of z)) d s) in
    fields_found before p e g fields found unmade ls vs fs (cs ∙ ap (λ (z : List (Bor Name × Bor Name)). seconds_of (pairs_of z)) a) os known
    (h ∙ ap (λ (z : List (Bor Name)). settled_labels (names_of z) (pairs_of fields2)) u ∙ ap (λ (z : List (Bor Name × Bor Name)). settled_labels (names_of unmade) (pairs_of z)) f)
fields_done (Err x) before p e g fields fields1 fields2 found found2 unmade unmade2 cand2 a b d f u vs fs cs os s h = tt
