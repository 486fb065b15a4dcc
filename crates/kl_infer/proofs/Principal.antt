-- The first declaration that has no type is one, and principal schemes are schemes.
use Rattle.std.proofs.Common.{◌≡◌, inl, inr, ℕ, suc, List, [], ap, sym, subst, ◌∙◌}
use Rattle.std.specs.Prelude.{All}
use Rattle.std.proofs.lemmas.List.Elements.{All-nil, All-cons}
use Rattle.kl_rows.specs.Schemes.{IsScheme}
use Rattle.kl_rows.specs.declared.Scheme.{Scheme}
use Rattle.kl_syntax.specs.Syntax.{Exp, Decls, no_decls, constant, function}
use Rattle.kl_meaning.specs.Typing.{KnownTypes, Types, FunctionTypes, with_sort, value_of, function_of}
use Rattle.kl_infer.specs.Inferred.{FailsAt, HaveSchemes}

pub one_failing : (ds : Decls) (e : Exp) (known : KnownTypes) (n m : ℕ) → FailsAt ds e known n → FailsAt ds e known m → n ≡ m
one_failing no_decls e known n m this that = this.0 ∙ sym that.0
one_failing (constant d b ds) e known n m (inl (none, is)) (inl (also, it)) = none ∙ sym also
one_failing (constant d b ds) e known n m (inl (zero_is, none)) (inr (k, is, typed, rest)) = absurd (none typed.0 typed.1)
one_failing (constant d b ds) e known n m (inr (k, is, typed, rest)) (inl (zero_is, none)) = absurd (none typed.0 typed.1)
one_failing (constant d b ds) e known n m (inr (k, is, typed, rest)) (inr (j, it, also, more)) = is ∙ (ap suc (one_failing ds e (with_sort d.text (value_of (Types b known [])) known) k j rest more) ∙ sym it)
one_failing (function d p b ds) e known n m (inl (none, is)) (inl (also, it)) = none ∙ sym also
one_failing (function d p b ds) e known n m (inl (zero_is, none)) (inr (k, is, typed, rest)) = absurd (none typed.0 typed.1 typed.2)
one_failing (function d p b ds) e known n m (inr (k, is, typed, rest)) (inl (zero_is, none)) = absurd (none typed.0 typed.1 typed.2)
one_failing (function d p b ds) e known n m (inr (k, is, typed, rest)) (inr (j, it, also, more)) = is ∙ (ap suc (one_failing ds e (with_sort d.text (function_of (FunctionTypes known p b)) known) k j rest more) ∙ sym it)

-- principal schemes are schemes
pub good_schemes : (ds : Decls) (known : KnownTypes) (schemes : List Scheme) → HaveSchemes ds known schemes → All IsScheme schemes
good_schemes no_decls known schemes have = subst (All IsScheme) (sym have) (All-nil IsScheme)
good_schemes (constant d e ds) known schemes (first, rest, is, principal, more) =
    subst (All IsScheme) (sym is) (All-cons IsScheme first rest principal.good (good_schemes ds (with_sort d.text (value_of (Types e known [])) known) rest more))
good_schemes (function d p e ds) known schemes (first, rest, is, principal, more) =
    subst (All IsScheme) (sym is) (All-cons IsScheme first rest principal.good (good_schemes ds (with_sort d.text (function_of (FunctionTypes known p e)) known) rest more))
