-- Programs that keep to the rules: what is listed for each definition, new names without end, and that there is an expansion.
use Rattle.std.proofs.Common.{◌≡◌, ℕ, suc, zero, ◌+◌, ◌<◌, ◌≤◌, Bool, true, false, cond, List, [], ◌∷◌, ◌++◌, Option, Some, None, refl, sym, ap, ◌∙◌, length, get_or, length-append, arith}
use Rattle.std.specs.List.{AllByRecursion}
use Rattle.std.specs.Cmp.Lexicographic.{same_text}
use Rattle.kl_outcome.specs.Outcome.{Name}
use Rattle.kl_syntax.specs.declared.tree.Decl.{Decl}
use Rattle.kl_syntax.specs.declared.tree.Pattern.{Pattern}
use Rattle.kl_syntax.specs.Syntax.{Exp, Decls}
use Rattle.kl_syntax.specs.View.{view, decl_of, decls_of}
use Rattle.kl_type.proofs.RowLemmas.{same_label}
use Rattle.kl_meaning.specs.Match.{same_name}
use Rattle.kl_ho.specs.declared.program.HoScoped.{HoScoped}
use Rattle.kl_ho.specs.HoPrograms.{FunctionFields, no_highers}
use Rattle.kl_ho.specs.Keeps.{KeepsDecls, with_arity}
use Rattle.kl_ho.specs.KeptPrograms.{begins, listed, fields_of, KeepsToRules}
use Rattle.kl_ho.specs.Plain.{first_arity, first_world}
use Rattle.kl_ho.specs.Shapes.{Chooses, World, added}
use Rattle.kl_ho.proofs.Counting.{some_none}
use Rattle.kl_ho.specs.Declaring.{SomeExpansion, EachListed}
use Rattle.kl_ho.proofs.Growing.{begins_new}
use Rattle.kl_ho.proofs.ProgramScoping.{knows_first}
use Rattle.kl_ho.proofs.Shaping.{kept_expansion}

-- ---- the names that begin with a base have no end

-- a name that is longer than each of these
flat : List Name → Name
flat [] = 0 ∷ []
flat (z ∷ zs) = z ++ flat zs

differs : (y z : Name) → length z < length y → same_name y z ≡ false
differs y z l = by_name (same_name y z) refl
  where
    by_name : (b : Bool) → same_name y z ≡ b → b ≡ false
    by_name true e = let s : length y ≡ length z = ap length (same_text y z (sym e)) in absurd (omega (arith, l, s))
    by_name false e = refl

some_more : (zs : List Name) → 0 < length (flat zs)
unfolding flat
some_more [] = omega arith
some_more (z ∷ zs) = omega (arith, some_more zs, length-append z (flat zs))

all_differ : (y : Name) (zs : List Name) → length (flat zs) ≤ length y → AllByRecursion (λ z. same_name y z ≡ false) zs
unfolding flat
all_differ y [] l = tt
all_differ y (z ∷ zs) l =
    let all : length (z ++ flat zs) ≡ length z + length (flat zs) = length-append z (flat zs) in
    let here : length z < length y = omega (arith, l, all, some_more zs) in
    let rest : length (flat zs) ≤ length y = omega (arith, l, all) in
    (differs y z here, all_differ y zs rest)

pub chooses : (base : Name) → Chooses (begins base)
chooses base ys =
    let long : length (flat ys) ≤ length (base ++ flat ys) = omega (arith, length-append base (flat ys)) in
    (base ++ flat ys, begins_new base (flat ys), all_differ (base ++ flat ys) ys long)

-- ---- there is an expansion

pub kept_some : (sources : List Name) (ho : HoScoped) → KeepsToRules sources ho → SomeExpansion (fields_of ho) no_highers (decls_of ho.program.defs) (view ho.program.last)
kept_some sources ho k =
    let x = kept_expansion (fields_of ho) (begins ho.base) sources (first_world sources) (first_arity sources) (decls_of ho.program.defs) (view ho.program.last) (chooses ho.base) k.first_old k.defines_old (knows_first sources) k.keeps in
    (x.2.0, x.2.1, x.0, x.1, x.2.2)

-- ---- names are defined once

-- what stands behind a definition that keeps to the rules
keeps_behind : (fields : FunctionFields) (p : Option Pattern) (d : Decl) (ds : Decls) (e : Exp) (world : World) (arity : Name → Option ℕ) → KeepsDecls fields (decl_of p d ds) e world arity
    → (arity d.name.text ≡ None) × (k : ℕ) × (w : World) × KeepsDecls fields ds e w (with_arity d.name.text k arity)
keeps_behind fields (Some p) d ds e world arity h = (h.0.0, 1, added world d.name.text (Some h.1), h.3)
keeps_behind fields None d ds e world arity h = (h.0.0, 0, added world d.name.text None, h.2)

is_other : (x y : Name) (arity : Name → Option ℕ) (k : ℕ) → arity x ≡ None → arity y ≡ Some k → same_name x y ≡ false
is_other x y arity k n s = by_name (same_name x y) refl
  where
    by_name : (b : Bool) → same_name x y ≡ b → b ≡ false
    by_name true e = absurd (some_none s (sym (ap arity (same_text x y (sym e))) ∙ n))
    by_name false e = refl

still_some : (d y : Name) (k j : ℕ) (arity : Name → Option ℕ) → arity y ≡ Some j → (m : ℕ) × (with_arity d k arity y ≡ Some m)
still_some d y k j arity s = by_name (same_name y d)
  where
    by_name : (b : Bool) → (m : ℕ) × (cond b (Some k) (arity y) ≡ Some m)
    by_name true = (k, refl)
    by_name false = (j, s)

-- none of the definitions has a name that stands before them
others : (fields : FunctionFields) (ds : List Decl) (e : Exp) (world : World) (arity : Name → Option ℕ) (y : Name) (j : ℕ) → arity y ≡ Some j → KeepsDecls fields (decls_of ds) e world arity → (i : ℕ) (o : Decl) → i < length ds
    → same_name (get_or ds i o).name.text y ≡ false
others fields [] e world arity y j s h i o l = absurd (omega (arith, l))
others fields (d ∷ ds) e world arity y j s h zero o l = is_other d.name.text y arity j (keeps_behind fields d.param d (decls_of ds) e world arity h).0 s
others fields (d ∷ ds) e world arity y j s h (suc i) o l =
    let k = keeps_behind fields d.param d (decls_of ds) e world arity h in
    let t = still_some d.name.text y k.1 j arity s in
    let m : i < length ds = omega (arith, l) in
    others fields ds e k.2 (with_arity d.name.text k.1 arity) y t.0 t.1 k.3 i o m

-- what is listed for a definition is what is listed at its place
pub listed_at : (fields : FunctionFields) (ds : List Decl) (lss : List (List Name)) (e : Exp) (world : World) (arity : Name → Option ℕ) → length lss ≡ length ds → KeepsDecls fields (decls_of ds) e world arity
    → (i : ℕ) (o : Decl) (p : List Name) → i < length ds → listed ds lss (get_or ds i o).name.text ≡ get_or lss i p
listed_at fields [] lss e world arity n h i o p l = absurd (omega (arith, l))
listed_at fields (d ∷ ds) [] e world arity n h i o p l = absurd (omega (arith, l, n))
listed_at fields (d ∷ ds) (ls ∷ lss) e world arity n h zero o p l = rw (same_label d.name.text) refl
listed_at fields (d ∷ ds) (ls ∷ lss) e world arity n h (suc i) o p l =
    let k = keeps_behind fields d.param d (decls_of ds) e world arity h in
    let m : i < length ds = omega (arith, l) in
    let same : length lss ≡ length ds = omega (arith, n) in
    let here : with_arity d.name.text k.1 arity d.name.text ≡ Some k.1 = rw (same_label d.name.text) refl in
    rw (others fields ds e k.2 (with_arity d.name.text k.1 arity) d.name.text k.1 here k.3 i o m)
    (listed_at fields ds lss e k.2 (with_arity d.name.text k.1 arity) same k.3 i o p m)

pub kept_listed : (sources : List Name) (ho : HoScoped) → KeepsToRules sources ho → EachListed ho.program.defs ho.functions
kept_listed sources ho k = λ i d ls l s t.
    ap (λ (z : Decl). listed ho.program.defs ho.functions z.name.text) s
    ∙ listed_at (fields_of ho) ho.program.defs ho.functions (view ho.program.last) (first_world sources) (first_arity sources) k.each_listed k.keeps i d ls l ∙ sym t
