-- What is known of definitions whose names differ are their least function fields.
use Rattle.std.proofs.Common.{◌≡◌, Bool, true, false, cond, List, [], ◌∷◌, ◌++◌, Option, Some, None, refl, sym, ap, ◌∙◌, subst}
use Rattle.std.specs.List.{AllByRecursion}
use Rattle.kl_outcome.specs.Outcome.{Name}
use Rattle.kl_syntax.specs.declared.tree.Decl.{Decl}
use Rattle.kl_syntax.specs.declared.tree.Pattern.{Pattern}
use Rattle.kl_syntax.specs.View.{decl_of, decls_of}
use Rattle.kl_meaning.specs.Match.{same_name}
use Rattle.kl_functions.specs.declared.functions.Known.{Known}
use Rattle.kl_ho.specs.Functions.{with_function, with_fields, first_functions, no_fields, AreLeast, AreFunctionFields}
use Rattle.kl_ho.specs.HoPrograms.{FunctionFields}
use Rattle.kl_functions.specs.Known.{IsKnownBy, AreKnown, AreDistinct, fields_in, function_at, fields_at, functions_of, fields_of}
use Rattle.kl_ho.proofs.Meaning.{everywhere}
use Rattle.kl_functions.proofs.Searching.{itself}

function_more : (b : List Known) (k : Known) (found : Bool) (x : Name) → function_at (b ++ k ∷ []) found x ≡ cond (same_name x k.name) k.is_function (function_at b found x)
function_more [] k found x = refl
function_more (y ∷ b) k found x = function_more b k (cond (same_name x y.name) y.is_function found) x

fields_more : (b : List Known) (k : Known) (found : List Name) (x : Name) → fields_at (b ++ k ∷ []) found x ≡ cond (same_name x k.name) k.fields (fields_at b found x)
fields_more [] k found x = refl
fields_more (y ∷ b) k found x = fields_more b k (cond (same_name x y.name) y.fields found) x

-- these fields are known of each
abbrev Agree : FunctionFields → List Known → List Decl → Type 0
Agree fields (k ∷ ks) (d ∷ ds) = (fields d.name.text ≡ k.fields) × Agree fields ks ds
Agree fields _ _ = Unit {0}

module _ (sources : List Name) (fields : FunctionFields) where
  -- the definitions behind this one
  abbrev Go : List Known → List Decl → Type 0
  Go b ds = (is_function : Name → Bool) (before : FunctionFields) → is_function ≡ functions_of b sources → before ≡ fields_of b → AreLeast fields (decls_of ds) is_function before

  pub functions_then : (b : List Known) (k : Known) (is_function : Name → Bool) (n : Name) (t : Bool) → is_function ≡ functions_of b sources → k.name ≡ n → k.is_function ≡ t
      → with_function n t is_function ≡ functions_of (b ++ k ∷ []) sources
  functions_then b k is_function n t e named is = everywhere (λ x.
      ap (λ (g : Name → Bool). cond (same_name x n) t (g x)) e ∙ ap (λ (m : Name). cond (same_name x m) t (functions_of b sources x)) (sym named)
      ∙ ap (λ (s : Bool). cond (same_name x k.name) s (functions_of b sources x)) (sym is) ∙ sym (function_more b k (first_functions sources x) x))

  fields_then : (b : List Known) (k : Known) (before : FunctionFields) (n : Name) (ls : List Name) → before ≡ fields_of b → k.name ≡ n → k.fields ≡ ls → with_fields n ls before ≡ fields_of (b ++ k ∷ [])
  fields_then b k before n ls f named is = everywhere (λ x.
      ap (λ (g : FunctionFields). cond (same_name x n) ls (g x)) f ∙ ap (λ (m : Name). cond (same_name x m) ls (fields_of b x)) (sym named)
      ∙ ap (λ (s : List Name). cond (same_name x k.name) s (fields_of b x)) (sym is) ∙ sym (fields_more b k [] x))

  decl_least : (k : Known) (d : Decl) (ds : List Decl) (b : List Known) (is_function : Name → Bool) (before : FunctionFields) (p : Option Pattern) → is_function ≡ functions_of b sources → before ≡ fields_of b
      → fields d.name.text ≡ k.fields → k.name ≡ d.name.text → IsKnownBy sources b p d k → Go (b ++ k ∷ []) ds → AreLeast fields (decl_of p d (decls_of ds)) is_function before
  decl_least k d ds b is_function before (Some p) e f a named h go = (
    (λ l. rw (a, e, f) (h.1 l)),
    go (with_function d.name.text true is_function) (with_fields d.name.text (fields d.name.text) before) (functions_then b k is_function d.name.text true e named h.0)
        (fields_then b k before d.name.text (fields d.name.text) f named (sym a)),
  )
  decl_least k d ds b is_function before None e f a named h go =
      go (with_function d.name.text false is_function) (with_fields d.name.text [] before) (functions_then b k is_function d.name.text false e named h.0) (fields_then b k before d.name.text [] f named h.1)

  each_least : (ks : List Known) (ds : List Decl) (b : List Known) → Agree fields ks ds → AreKnown sources b ks ds → Go b ds
  each_least [] [] b a h is_function before e f = tt
  each_least (k ∷ ks) (d ∷ ds) b a h is_function before e f = decl_least k d ds b is_function before d.param e f a.0 h.0.0 h.0.1 (each_least ks ds (b ++ k ∷ []) a.1 h.1)
  each_least [] (d ∷ ds) b a h is_function before e f = absurd h
  each_least (k ∷ ks) [] b a h is_function before e f = absurd h

-- ---- names that differ

agree_still : (d : Name) (ls : List Name) (fields : FunctionFields) (ks : List Known) (ds : List Decl) → AllByRecursion (λ e. same_name e.name.text d ≡ false) ds → Agree fields ks ds
    → Agree (λ x. cond (same_name x d) ls (fields x)) ks ds
agree_still d ls fields (k ∷ ks) (e ∷ ds) h a = (ap (λ b. cond b ls (fields e.name.text)) h.0 ∙ a.0, agree_still d ls fields ks ds h.1 a.1)
agree_still d ls fields [] ds h a = tt
agree_still d ls fields (k ∷ ks) [] h a = tt

agree_known : (sources : List Name) (b ks : List Known) (ds : List Decl) → AreKnown sources b ks ds → AreDistinct ds → Agree (fields_in ks) ks ds
agree_known sources b (k ∷ ks) (d ∷ ds) h distinct = (
  ap (λ s. cond s k.fields (fields_in ks d.name.text)) (ap (λ z. same_name d.name.text z) h.0.0 ∙ itself d.name.text),
  agree_still k.name k.fields (fields_in ks) ks ds (subst (λ (z : Name). AllByRecursion (λ e. same_name e.name.text z ≡ false) ds) (sym h.0.0) distinct.0)
      (agree_known sources (b ++ k ∷ []) ks ds h.1 distinct.1),
)
agree_known sources b [] ds h distinct = tt
agree_known sources b (k ∷ ks) [] h distinct = tt

pub known_least : (sources : List Name) (ks : List Known) (ds : List Decl) → AreKnown sources [] ks ds → AreDistinct ds → AreFunctionFields (fields_in ks) (decls_of ds) sources
known_least sources ks ds h distinct = each_least sources (fields_in ks) ks ds [] (agree_known sources [] ks ds h distinct) h (first_functions sources) no_fields refl refl
