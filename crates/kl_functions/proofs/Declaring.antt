-- The copy of a program, declaration by declaration.
use Rattle.std.proofs.Common.{◌≡◌, ℕ, zero, suc, ◌+◌, ◌<◌, ◌≤◌, Bool, List, [], ◌∷◌, ◌++◌, take, drop, length, get_or, Option, Some, None, is_some, Result, Ok, Err, IfOk, refl, sym, ap, ◌∙◌, add-one, arith}
use Rattle.std.proofs.lemmas.List.{drop_all, take_all}
use mathlib.Core.Path.{ap₂}
use Rattle.kl_base.proofs.Places.{drop_at}
use Rattle.kl_outcome.specs.Outcome.{Name}
use Rattle.kl_syntax.specs.declared.tree.Decl.{Decl}
use Rattle.kl_syntax.specs.declared.tree.Pattern.{Pattern}
use Rattle.kl_syntax.specs.Syntax.{Exp, Decls, no_decls, constant, function}
use Rattle.kl_syntax.specs.View.{view, pattern_view, decl_of, decls_of}
use Rattle.kl_scope.specs.Walks.{onto, decl_front}
use Rattle.kl_ho.specs.Functions.{first_functions, with_function}
use Rattle.kl_ho.specs.HoPrograms.{FunctionFields}
use Rattle.kl_ho.specs.Plain.{plainly, decls_plainly, last_plainly}
use Rattle.kl_functions.specs.declared.functions.Known.{Known}
use Rattle.kl_functions.specs.Known.{IsKnownBy, AreKnown, functions_of}
use Rattle.kl_functions.specs.Plainly.{function_body, IsPlainBody, IsPlainDecl}
use Rattle.kl_functions.proofs.Copying.{made_next}
use Rattle.kl_functions.proofs.Listing.{functions_then}

-- ---- what is known of one

-- the definition at a place, what is known of it, and what is known before and behind it
record KnownAt (ks : List Known) (i : ℕ) (d : Decl) : Type 0 where
  here : Known
  up_to : take (suc i) ks ≡ take i ks ++ here ∷ []
  named : here.name ≡ d.name.text
  flagged : here.is_function ≡ is_some d.param

flag : (sources : List Name) (b : List Known) (p : Option Pattern) (d : Decl) (k : Known) → IsKnownBy sources b p d k → k.is_function ≡ is_some p
flag sources b (Some p) d k h = h.0
flag sources b None d k h = h.0

known_at : (sources : List Name) (b ks : List Known) (ds : List Decl) (i : ℕ) (d : Decl) → i < length ds → d ≡ get_or ds i d → AreKnown sources b ks ds → KnownAt ks i d
known_at sources b (k ∷ ks) (e ∷ ds) zero d lt at h = record { here = k; up_to = refl; named = h.0.0 ∙ ap (λ (z : Decl). z.name.text) (sym at); flagged = flag sources b e.param e k h.0.1 ∙ ap (λ (z : Decl). is_some z.param) (sym at) }
known_at sources b (k ∷ ks) (e ∷ ds) (suc i) d lt at h =
    let r = known_at sources (b ++ k ∷ []) ks ds i d (omega arith) at h.1 in record { here = r.here; up_to = ap (λ z. k ∷ z) r.up_to; named = r.named; flagged = r.flagged }
known_at sources b [] [] i d lt at h = absurd (omega arith)
known_at sources b [] (e ∷ ds) i d lt at h = absurd h
known_at sources b (k ∷ ks) [] i d lt at h = absurd h

pub as_long : (sources : List Name) (b ks : List Known) (ds : List Decl) → AreKnown sources b ks ds → length ks ≡ length ds
as_long sources b [] [] h = refl
as_long sources b (k ∷ ks) (d ∷ ds) h = ap suc (as_long sources (b ++ k ∷ []) ks ds h.1)
as_long sources b [] (d ∷ ds) h = absurd h
as_long sources b (k ∷ ks) [] h = absurd h

-- ---- declarations

decls_seen : (ds : List Decl) → decls_of ds ≡ onto decl_front ds no_decls
decls_seen [] = refl
decls_seen (d ∷ ds) = ap (λ z. decl_of d.param d z) (decls_seen ds)

module _ (F : FunctionFields) (sources : List Name) (ks : List Known) (ds : List Decl) (known : AreKnown sources [] ks ds) where
  abbrev before : ℕ → Name → Bool
  before i = functions_of (take i ks) sources

  function_next : (i : ℕ) (d : Decl) → KnownAt ks i d → with_function d.name.text (is_some d.param) (before i) ≡ before (i + 1)
  function_next i d k =
      rw add-one (functions_then sources F (take i ks) k.here (before i) d.name.text (is_some d.param) refl k.named k.flagged ∙ ap (λ z. functions_of z sources) (sym k.up_to))

  one_copied : (p q : Option Pattern) (d c : Decl) (I J : Name → Bool) (rest : Decls) → c.name ≡ d.name → IsPlainBody F I d.name.text p q (view d.body) (view c.body) → with_function d.name.text (is_some p) I ≡ J
      → decls_plainly F (decl_of p d rest) I ≡ decl_of q c (decls_plainly F rest J)
  one_copied (Some p) q d c I J rest n h w =
      rw h.0 (ap₂ (λ u v. function d.name (pattern_view p) u (decls_plainly F rest v)) (sym h.1) w ∙ ap (λ z. function z (pattern_view p) (view c.body) (decls_plainly F rest J)) (sym n))
  one_copied None q d c I J rest n h w =
      rw h.0 (ap₂ (λ u v. constant d.name u (decls_plainly F rest v)) (sym h.1) w ∙ ap (λ z. constant z (view c.body) (decls_plainly F rest J)) (sym n))

  pub decls_next : (i : ℕ) (d c : Decl) (made now : List Decl) → i < length ds → d ≡ get_or ds i d → now ≡ made ++ c ∷ [] → IsPlainDecl F (before i) d c
      → onto decl_front made (decls_plainly F (decls_of (drop i ds)) (before i)) ≡ decls_plainly F (decls_of ds) (first_functions sources)
      → onto decl_front now (decls_plainly F (decls_of (drop (i + 1) ds)) (before (i + 1))) ≡ decls_plainly F (decls_of ds) (first_functions sources)
  decls_next i d c made now lt at n h all =
      made_next decl_front made now c (decls_plainly F (decls_of (drop i ds)) (before i)) (decls_plainly F (decls_of (drop (i + 1) ds)) (before (i + 1))) (decls_plainly F (decls_of ds) (first_functions sources)) n
      (ap (λ zs. decls_plainly F (decls_of zs) (before i)) (drop_at ds i d lt at)
      ∙ one_copied d.param c.param d c (before i) (before (i + 1)) (decls_of (drop (i + 1) ds)) h.0 h.1 (function_next i d (known_at sources [] ks ds i d lt at known))) all

  one_last : (p : Option Pattern) (d : Decl) (e : Exp) (I J : Name → Bool) (rest : Decls) → with_function d.name.text (is_some p) I ≡ J → last_plainly F (decl_of p d rest) e I ≡ last_plainly F rest e J
  one_last (Some p) d e I J rest w = ap (λ z. last_plainly F rest e z) w
  one_last None d e I J rest w = ap (λ z. last_plainly F rest e z) w

  pub last_next : (i : ℕ) (d : Decl) (e : Exp) → i < length ds → d ≡ get_or ds i d → last_plainly F (decls_of (drop i ds)) e (before i) ≡ last_plainly F (decls_of ds) e (first_functions sources)
      → last_plainly F (decls_of (drop (i + 1) ds)) e (before (i + 1)) ≡ last_plainly F (decls_of ds) e (first_functions sources)
  last_next i d e lt at h =
      sym (ap (λ zs. last_plainly F (decls_of zs) e (before i)) (drop_at ds i d lt at) ∙ one_last d.param d e (before i) (before (i + 1)) (decls_of (drop (i + 1) ds)) (function_next i d (known_at sources [] ks ds i d lt at known))) ∙ h

  pub decls_done : (i : ℕ) (made all : List Decl) → length ds ≤ i → all ≡ made → onto decl_front made (decls_plainly F (decls_of (drop i ds)) (before i)) ≡ decls_plainly F (decls_of ds) (first_functions sources)
      → decls_of all ≡ decls_plainly F (decls_of ds) (first_functions sources)
  decls_done i made all le e h = ap decls_of e ∙ decls_seen made ∙ sym (ap (λ zs. onto decl_front made (decls_plainly F (decls_of zs) (before i))) (drop_all i ds le)) ∙ h

  pub last_done : (i : ℕ) (e x : Exp) → length ds ≤ i → x ≡ plainly F (functions_of ks sources) [] e None [] → last_plainly F (decls_of (drop i ds)) e (before i) ≡ last_plainly F (decls_of ds) e (first_functions sources)
      → x ≡ last_plainly F (decls_of ds) e (first_functions sources)
  last_done i e x le c h =
      let all : take i ks ≡ ks = take_all i ks (omega (arith, as_long sources [] ks ds known)) in
      c ∙ ap (λ z. plainly F (functions_of z sources) [] e None []) (sym all) ∙ sym (ap (λ zs. last_plainly F (decls_of zs) e (before i)) (drop_all i ds le)) ∙ h

-- what is made of one declaration
pub function_is : {X : Type 0} (F : FunctionFields) (I : Name → Bool) (r : Result Decl X) (d : Decl) (p : Pattern) → d.param ≡ Some p → IfOk r (λ c. c.name ≡ d.name) → IfOk r (λ c. c.param ≡ Some p)
    → IfOk r (λ c. view c.body ≡ function_body F I d.name.text (pattern_view p) (view d.body)) → IfOk r (λ c. IsPlainDecl F I d c)
function_is F I (Ok c) d p i n m b = (n, rw i (m, b))
function_is F I (Err x) d p i n m b = tt

pub constant_is : {X : Type 0} (F : FunctionFields) (I : Name → Bool) (r : Result Decl X) (d : Decl) → d.param ≡ None → IfOk r (λ c. c.name ≡ d.name) → IfOk r (λ c. c.param ≡ None)
    → IfOk r (λ c. view c.body ≡ plainly F I [] (view d.body) None []) → IfOk r (λ c. IsPlainDecl F I d c)
constant_is F I (Ok c) d i n m b = (n, rw i (m, b))
constant_is F I (Err x) d i n m b = tt
