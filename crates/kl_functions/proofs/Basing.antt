-- No name that stands before a program, and none that it defines, begins with its base.
use Rattle.std.proofs.Common.{◌≡◌, ◌⊎◌, inl, inr, ℕ, zero, suc, ◌<◌, Bool, true, false, ◌||◌, nat_eq, bytes_eq, List, [], ◌∷◌, map, find, cond, Option, Some, None, is_some, option_and_then, Result, Ok, Err, IfOk, refl, sym, ap, ◌∙◌, true≢false, arith}
use Rattle.std.specs.List.{list_any, starts_with}
use Rattle.std.proofs.lemmas.Bool.{or_parts}
use Rattle.std.specs.Cmp.Lexicographic.{same_text}
use Rattle.kl_outcome.specs.Outcome.{Name}
use Rattle.kl_prim.specs.Table.{Entry, entry_of, rows}
use Rattle.kl_prim.specs.declared.rows.PrimRow.{PrimRow}
use Rattle.kl_scope.specs.Senses.{by_name, entry_named}
use Rattle.kl_syntax.specs.declared.tree.Decl.{Decl}
use Rattle.kl_syntax.specs.declared.tree.Pattern.{Pattern}
use Rattle.kl_syntax.specs.Syntax.{Decls}
use Rattle.kl_syntax.specs.View.{decl_of, decls_of}
use Rattle.kl_meaning.specs.Match.{same_name}
use Rattle.kl_ho.specs.HoPrograms.{is_among}
use Rattle.kl_ho.specs.Plain.{arity_of, first_arity}
use Rattle.kl_ho.specs.Shapes.{DefinesOld}
use Rattle.kl_functions.specs.Bases.{nth_base, is_begun, IsFirstFree}
use Rattle.kl_functions.specs.Firsts.{primitive_arity}
use Rattle.kl_functions.proofs.Beginning.{first_arity_is}

-- the names of the rows are those of the entries
pub rows_begun : (b : Name) (rs : List PrimRow) → list_any (λ r. starts_with nat_eq r.name.now b) rs ≡ list_any (λ e. starts_with nat_eq e.name b) (map entry_of rs)
rows_begun b [] = refl
rows_begun b (r ∷ rs) = ap (λ z. starts_with nat_eq r.name.now b || z) (rows_begun b rs)

-- one more `v` in front
pub next_base : (n : ℕ) → 118 ∷ nth_base n ≡ nth_base (suc n)
next_base n = refl

none_named : (b x : Name) (es : List Entry) → list_any (λ e. starts_with nat_eq e.name b) es ≡ false → (e : Entry) → find (λ z. bytes_eq z.name x) es ≡ Some e → starts_with nat_eq x b ≡ false
none_named b x [] h e f = absurd (true≢false (sym (ap is_some f)))
none_named b x (z ∷ es) h e f = by_name (bytes_eq z.name x) refl f (none_named b x es)
  where
    by_name : (t : Bool) → bytes_eq z.name x ≡ t → cond t (Some z) (find (λ y. bytes_eq y.name x) es) ≡ Some e
        → (list_any (λ y. starts_with nat_eq y.name b) es ≡ false → (y : Entry) → find (λ w. bytes_eq w.name x) es ≡ Some y → starts_with nat_eq x b ≡ false) → starts_with nat_eq x b ≡ false
    by_name true i g go = ap (λ y. starts_with nat_eq y b) (sym (same_text z.name x (sym i))) ∙ (or_parts (starts_with nat_eq z.name b) (list_any (λ y. starts_with nat_eq y.name b) es) h).0
    by_name false i g go = go (or_parts (starts_with nat_eq z.name b) (list_any (λ y. starts_with nat_eq y.name b) es) h).1 e g

primitive_old : (b x : Name) (k : ℕ) → list_any (λ e. starts_with nat_eq e.name b) (map (λ r. r.entry) rows) ≡ false → primitive_arity x ≡ Some k → starts_with nat_eq x b ≡ false
primitive_old b x k h f = by_entry (entry_named x) refl f
  where
    by_entry : (o : Option Entry) → entry_named x ≡ o → arity_of (option_and_then by_name o) ≡ Some k → starts_with nat_eq x b ≡ false
    by_entry (Some e) i g = none_named b x (map (λ r. r.entry) rows) h e i
    by_entry None i g = absurd (true≢false (sym (ap is_some g)))

source_old : (b x : Name) (ss : List Name) → list_any (λ s. starts_with nat_eq s b) ss ≡ false → is_among x ss ≡ true → starts_with nat_eq x b ≡ false
source_old b x [] h i = absurd (true≢false (sym i))
source_old b x (s ∷ ss) h i = by_name (same_name x s) refl i (source_old b x ss)
  where
    by_name : (t : Bool) → same_name x s ≡ t → (t || is_among x ss) ≡ true → (list_any (λ y. starts_with nat_eq y b) ss ≡ false → is_among x ss ≡ true → starts_with nat_eq x b ≡ false) → starts_with nat_eq x b ≡ false
    by_name true e j go = ap (λ y. starts_with nat_eq y b) (same_text x s (sym e)) ∙ (or_parts (starts_with nat_eq s b) (list_any (λ y. starts_with nat_eq y b) ss) h).0
    by_name false e j go = go (or_parts (starts_with nat_eq s b) (list_any (λ y. starts_with nat_eq y b) ss) h).1 j

module _ (defs : List Decl) (sources : List Name) (b : Name) (free : is_begun defs sources b ≡ false) where
  none_of : (list_any (λ d. starts_with nat_eq d.name.text b) defs ≡ false) × (list_any (λ s. starts_with nat_eq s b) sources ≡ false) × (list_any (λ e. starts_with nat_eq e.name b) (map (λ r. r.entry) rows) ≡ false)
  none_of =
      let a = or_parts (list_any (λ d. starts_with nat_eq d.name.text b) defs) (list_any (λ s. starts_with nat_eq s b) sources || list_any (λ e. starts_with nat_eq e.name b) (map (λ r. r.entry) rows)) free in
      let c = or_parts (list_any (λ s. starts_with nat_eq s b) sources) (list_any (λ e. starts_with nat_eq e.name b) (map (λ r. r.entry) rows)) a.1 in (a.0, c.0, c.1)

  pub first_old : (x : Name) (k : ℕ) → first_arity sources x ≡ Some k → starts_with nat_eq x b ≡ false
  first_old x k e = by_source (is_among x sources) refl (sym (first_arity_is sources x (is_among x sources) refl) ∙ e)
    where
      by_source : (t : Bool) → is_among x sources ≡ t → cond t (Some 0) (primitive_arity x) ≡ Some k → starts_with nat_eq x b ≡ false
      by_source true i g = source_old b x sources none_of.1 i
      by_source false i g = primitive_old b x k none_of.2 g

defined_old : (b : Name) (p : Option Pattern) (d : Decl) (rest : Decls) → starts_with nat_eq d.name.text b ≡ false → DefinesOld (λ x. starts_with nat_eq x b) rest → DefinesOld (λ x. starts_with nat_eq x b) (decl_of p d rest)
defined_old b (Some p) d rest h k = (h, k)
defined_old b None d rest h k = (h, k)

all_defined_old : (b : Name) (ds : List Decl) → list_any (λ d. starts_with nat_eq d.name.text b) ds ≡ false → DefinesOld (λ x. starts_with nat_eq x b) (decls_of ds)
all_defined_old b [] h = tt
all_defined_old b (d ∷ ds) h =
    let r = or_parts (starts_with nat_eq d.name.text b) (list_any (λ e. starts_with nat_eq e.name.text b) ds) h in defined_old b d.param d (decls_of ds) r.0 (all_defined_old b ds r.1)

pub defines_old : (defs : List Decl) (sources : List Name) (b : Name) → is_begun defs sources b ≡ false → DefinesOld (λ x. starts_with nat_eq x b) (decls_of defs)
defines_old defs sources b free = all_defined_old b defs (or_parts (list_any (λ d. starts_with nat_eq d.name.text b) defs) _ free).0

-- ---- the first that is free

-- none of the bases before this one is free
abbrev Tried : List Decl → List Name → Name → Type 0
Tried ds sources b = (n : ℕ) × (b ≡ nth_base n) × ((m : ℕ) → m < n → is_begun ds sources (nth_base m) ≡ true)

pub first_free : {X : Type 0} (r : Result Name X) (defs ds : List Decl) (sources : List Name) (bytes one two : Name) → ds ≡ defs → one ≡ bytes → two ≡ bytes → false ≡ is_begun ds sources one → Tried ds sources bytes → IfOk r (λ l. l ≡ two)
    → IfOk r (λ b. IsFirstFree defs sources b)
first_free (Ok b) defs ds sources bytes one two d o t e tried h = record {
  number = tried.0;
  same = h ∙ t ∙ tried.1;
  free = ap (λ z. is_begun z sources b) (sym d) ∙ ap (λ z. is_begun ds sources z) (h ∙ t ∙ sym o) ∙ sym e;
  before = λ m lt. ap (λ z. is_begun z sources (nth_base m)) (sym d) ∙ tried.2 m lt;
}
first_free (Err x) defs ds sources bytes one two d o t e tried h = tt

pub then_old : {X : Type 0} (r : Result Name X) (defs : List Decl) (sources : List Name) → IfOk r (λ b. IsFirstFree defs sources b)
    → IfOk r (λ b. (x : Name) (k : ℕ) → first_arity sources x ≡ Some k → starts_with nat_eq x b ≡ false)
then_old (Ok b) defs sources h = first_old defs sources b h.free
then_old (Err x) defs sources h = tt

pub then_defined : {X : Type 0} (r : Result Name X) (defs : List Decl) (sources : List Name) → IfOk r (λ b. IsFirstFree defs sources b) → IfOk r (λ b. DefinesOld (λ x. starts_with nat_eq x b) (decls_of defs))
then_defined (Ok b) defs sources h = defines_old defs sources b h.free
then_defined (Err x) defs sources h = tt

below_or : (m n : ℕ) → m < suc n → (m < n) ⊎ (m ≡ n)
below_or zero zero lt = inr refl
below_or zero (suc n) lt = inl (omega arith)
below_or (suc m) zero lt = absurd (omega arith)
below_or (suc m) (suc n) lt = elim (below_or m n (omega arith)) [ inl a ↦ inl (omega arith) | inr e ↦ inr (ap suc e) ]

pub tried_more : (ds : List Decl) (sources : List Name) (bytes now one : Name) → one ≡ bytes → now ≡ 118 ∷ bytes → true ≡ is_begun ds sources one → Tried ds sources bytes → Tried ds sources now
tried_more ds sources bytes now one o n e tried = (
  suc tried.0,
  n ∙ ap (λ z. 118 ∷ z) tried.1 ∙ next_base tried.0,
  λ m lt. elim (below_or m tried.0 lt) [ inl less ↦ tried.2 m less | inr same ↦ ap (λ z. is_begun ds sources (nth_base z)) same ∙ ap (λ z. is_begun ds sources z) (sym tried.1 ∙ sym o) ∙ sym e ],
)
