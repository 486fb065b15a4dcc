-- What a name has that stands before a program.
use Rattle.std.proofs.Common.{◌≡◌, ℕ, suc, Bool, true, false, ◌||◌, cond, if◌then◌else◌, List, [], ◌∷◌, Option, Some, None, is_some, refl, sym, ap, ◌∙◌}
use Rattle.std.specs.Option.{option_map, option_or}
use Rattle.kl_outcome.specs.Outcome.{Name}
use Rattle.kl_scope.specs.Senses.{place_in, primitive_of, called, at_first, sense}
use Rattle.kl_scope.specs.declared.names.Sense.{Sense}
use Rattle.kl_syntax.specs.declared.tree.Meaning.TheVariants.{Source}
use Rattle.kl_meaning.specs.Match.{same_name}
use Rattle.kl_functions.specs.Firsts.{primitive_arity, is_one}
use Rattle.kl_ho.specs.Functions.{takes_one, first_functions}
use Rattle.kl_ho.specs.HoPrograms.{is_among}
use Rattle.kl_ho.specs.Plain.{arity_of, first_arity}
use Rattle.kl_desugar.proofs.Scopes.{turned}

place_among : (ys : List Name) (x : Name) → is_some (place_in ys x) ≡ is_among x ys
place_among [] x = refl
place_among (y ∷ ys) x = ap (λ b. is_some (if b then Some 0 else option_map suc (place_in ys x))) (turned x y) ∙ by_name (same_name x y) (place_in ys x) (place_among ys x)
  where
    by_name : (b : Bool) (o : Option ℕ) → is_some o ≡ is_among x ys → is_some (if b then Some 0 else option_map suc o) ≡ (b || is_among x ys)
    by_name true o e = refl
    by_name false (Some i) e = e
    by_name false None e = e

arity_first : (o : Option ℕ) (b : Bool) (p : Option Sense) → is_some o ≡ b → arity_of (option_or (option_map (λ i. sense (Source i) 0) o) p) ≡ cond b (Some 0) (arity_of p)
arity_first (Some i) b p e = rw (sym e) refl
arity_first None b p e = rw (sym e) refl

pub first_arity_is : (sources : List Name) (x : Name) (b : Bool) → b ≡ is_among x sources → first_arity sources x ≡ cond b (Some 0) (primitive_arity x)
first_arity_is sources x b e = arity_first (place_in sources x) b (primitive_of x) (place_among sources x ∙ sym e)

one_taken : (o : Option Sense) → is_one (arity_of o) ≡ takes_one o
one_taken (Some s) = refl
one_taken None = refl

pub first_function_is : (sources : List Name) (x : Name) → is_one (first_arity sources x) ≡ first_functions sources x
first_function_is sources x = one_taken (called (at_first sources) x)
