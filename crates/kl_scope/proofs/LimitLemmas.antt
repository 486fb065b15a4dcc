-- The sizes of the declarations, one after another, against the limits.
use Rattle.std.proofs.Common.{◌≡◌, ℕ, ◌+◌, ◌<◌, ◌≤◌, min, List, [], ◌∷◌, ◌++◌, length, get_or, drop, All, Option, Some, None, Result, Ok, Err, IfOk, refl, sym, ap, subst, ◌∙◌, arith, append_assoc, length-append}
use Rattle.std.proofs.lemmas.List.{drop_all}
use Rattle.std.proofs.lemmas.List.Elements.{All-push}
use Rattle.kl_base.specs.declared.memory.NoMemory.{NoMemory}
use Rattle.kl_syntax.specs.declared.tree.Decl.{Decl}
use Rattle.kl_syntax.specs.declared.tree.Expr.{Expr}
use Rattle.kl_syntax.specs.declared.tree.Pattern.{Pattern}
use Rattle.kl_syntax.specs.Syntax.{Exp, Decls}
use Rattle.kl_syntax.specs.View.{view, decl_of, decls_of}
use Rattle.kl_scope.specs.declared.counting.SizeBreach.{SizeBreach}
use Rattle.kl_scope.specs.declared.counting.SizeBreach.TheVariants.{Nodes, Depth}
use Rattle.kl_scope.specs.declared.terms.Size.{Size}
use Rattle.kl_scope.specs.Caps.{most, capped, decl_size, Judges}
use Rattle.kl_scope.specs.Limits.{HasManyNodes, IsDeep, IsWithin, Tells}
use Rattle.kl_scope.specs.Sizes.{sized, declared}
use Rattle.kl_scope.proofs.SizeLemmas.{size_is}
use Rattle.kl_base.proofs.Places.{drop_at}

-- ---- what is told of a capped size is true of the size

module _ (c s : Size) (h : c ≡ capped s) where
  nodes : c.nodes ≡ min s.nodes most
  unfolding capped
  nodes = ap (λ (z : Size). z.nodes) h

  depth : c.depth ≡ min s.depth most
  unfolding capped
  depth = ap (λ (z : Size). z.depth) h

  many : HasManyNodes c → HasManyNodes s
  many k = let m = nodes in omega (arith, m, k)

  deep : IsDeep c → IsDeep s
  deep (j, k) = let m = nodes in let n = depth in (omega (arith, m, j), omega (arith, n, k))

  pub within : IsWithin c → IsWithin s
  within (j, k) = let m = nodes in let n = depth in (omega (arith, m, j), omega (arith, n, k))

  pub exact : IsWithin c → c ≡ s
  exact (j, k) = let m = nodes in let n = depth in size_is c s (omega (arith, m, j)) (omega (arith, n, k))

-- ---- the first declaration past a limit

pub told_of : (b : SizeBreach) (known all after : List Size) (c s : Size) (place : ℕ) → length known ≡ place → All IsWithin known → all ≡ known ++ s ∷ after → c ≡ capped s → Judges (Some b) place c → Tells (Some b) all
told_of (Nodes d) known all after c s place n w e h (j, k) = record { before = known; size = s; after = after; parts = e; number = n ∙ sym j; earlier = w; past = many c s h k }
told_of (Depth d) known all after c s place n w e h (j, k) = record { before = known; size = s; after = after; parts = e; number = n ∙ sym j; earlier = w; past = deep c s h k }

pub told_last : (o : Option SizeBreach) (known all : List Size) (c s : Size) (place : ℕ) → length known ≡ place → All IsWithin known → all ≡ known ++ s ∷ [] → c ≡ capped s → Judges o place c → Tells o all
told_last None known all c s place n w e h j = rw e (All-push IsWithin known s w (within c s h j))
told_last (Some b) known all c s place n w e h j = told_of b known all [] c s place n w e h j

-- ---- the walk over the definitions

-- the first so many are known and within the limits
pub record Going (known : List Size) (i : ℕ) (defs : List Decl) (last : Expr) : Type 0 where
  pub number : length known ≡ i
  pub within : All IsWithin known
  pub rest : declared (decls_of defs) (view last) [] ≡ known ++ declared (decls_of (drop i defs)) (view last) known

decl_first : (o : Option Pattern) (d : Decl) (rest : Decls) (last : Exp) (ds : List Size) → declared (decl_of o d rest) last ds ≡ decl_size o d ds ∷ declared rest last (ds ++ decl_size o d ds ∷ [])
decl_first (Some p) d rest last ds = refl
decl_first None d rest last ds = refl

module _ (known : List Size) (i : ℕ) (defs : List Decl) (last : Expr) (d : Decl) (at : drop i defs ≡ d ∷ drop (i + 1) defs) (g : Going known i defs last) where
  abbrev s : Size
  s = decl_size d.param d known

  all_is : declared (decls_of defs) (view last) [] ≡ known ++ s ∷ declared (decls_of (drop (i + 1) defs)) (view last) (known ++ s ∷ [])
  all_is =
      g.rest ∙ ap (λ (ds : List Decl). known ++ declared (decls_of ds) (view last) known) at ∙ ap (λ (z : List Size). known ++ z) (decl_first d.param d (decls_of (drop (i + 1) defs)) (view last) known)

  pub going_told : (b : SizeBreach) (c : Size) → c ≡ capped s → Judges (Some b) i c → Tells (Some b) (declared (decls_of defs) (view last) [])
  going_told b c h j = told_of b known (declared (decls_of defs) (view last) []) (declared (decls_of (drop (i + 1) defs)) (view last) (known ++ s ∷ [])) c s i g.number g.within all_is h j

  pub going_more : (c : Size) → c ≡ capped s → Judges None i c → Going (known ++ c ∷ []) (i + 1) defs last
  going_more c h j =
      rw (exact c s h j) (record {
        number = length-append known (s ∷ []) ∙ ap (λ n. n + 1) g.number;
        within = All-push IsWithin known s g.within (within c s h j);
        rest = all_is ∙ sym (append_assoc known (s ∷ []) (declared (decls_of (drop (i + 1) defs)) (view last) (known ++ s ∷ [])));
      })

pub going_last : (known : List Size) (i : ℕ) (defs : List Decl) (last : Expr) (o : Option SizeBreach) (c : Size) → drop i defs ≡ [] → Going known i defs last → c ≡ capped (sized (view last) known) → Judges o i c → Tells o (declared (decls_of defs) (view last) [])
going_last known i defs last o c end g h j =
    told_last o known (declared (decls_of defs) (view last) []) c (sized (view last) known) i g.number g.within (g.rest ∙ ap (λ (ds : List Decl). known ++ declared (decls_of ds) (view last) known) end) h j

pub at_def : (ds es : List Decl) (i : ℕ) (d : Decl) → ds ≡ es → i < length ds → d ≡ get_or ds i d → drop i es ≡ d ∷ drop (i + 1) es
at_def ds es i d same lt is = subst (λ (z : List Decl). drop i z ≡ d ∷ drop (i + 1) z) same (drop_at ds i d lt is)

pub going_end : (known : List Size) (i : ℕ) (ds defs : List Decl) (last : Expr) (o : Option SizeBreach) (c : Size) → ds ≡ defs → length ds ≤ i → i ≤ length ds → Going known i defs last → c ≡ capped (sized (view last) known) → Judges o (length ds) c → Tells o (declared (decls_of defs) (view last) [])
going_end known i ds defs last o c same le ge g h j =
    let here : length ds ≡ i = omega arith in
    going_last known i defs last o c (drop_all i defs (subst (λ (z : List Decl). length z ≤ i) same le)) g h (subst (λ (n : ℕ). Judges o n c) here j)

pub ok_told : {P Q : Option SizeBreach → Type 0} (r : Result (Option SizeBreach) NoMemory) → ((o : Option SizeBreach) → P o → Q o) → IfOk r P → IfOk r Q
ok_told (Ok o) f h = f o h
ok_told (Err e) f h = tt
