-- The first declaration of a program without a type is that of its expansion, by its number in the program.
use Rattle.std.proofs.Common.{◌≡◌, ◌↔◌, inl, inr, ℕ, suc, List, [], refl, sym, ap, ◌∙◌, subst}
use Rattle.kl_type.specs.Ground.{Ground}
use Rattle.kl_outcome.specs.Outcome.{Name}
use Rattle.kl_syntax.specs.Syntax.{Exp, Decls}
use Rattle.kl_meaning.specs.Typing.{KnownTypes, types_at_first}
use Rattle.kl_infer.specs.Inferred.{FailsAt, IsIllTyped}
use Rattle.kl_ho.specs.Highers.{Highers}
use Rattle.kl_ho.specs.Expansion.{New}
use Rattle.kl_ho.specs.HoPrograms.{FunctionFields, no_highers, ProgramExpands, x_last, x_constant, x_function, x_dropped}
use Rattle.kl_ho.specs.HoFails.{HoFailsAt, IsHoIllTyped, first_or, given_number}
use Rattle.kl_ho.proofs.Holding.{holds_nothing}
use Rattle.kl_ho.proofs.Typings.{AllAlike}
use Rattle.kl_ho.proofs.Programs.{expression_types, first_alike, function_types, program_has_typing, with_alike}

module _ (is_new : New) (fields : FunctionFields) where
  fails_to : {n : ℕ} {highers : Highers} {ds cs : Decls} {e x : Exp} → ProgramExpands is_new fields n highers ds e cs x → (known also : KnownTypes) → AllAlike known also
      → (k : ℕ) → FailsAt cs x also k → HoFailsAt fields ds e highers known (given_number fields ds k)
  fails_to (x_last {n = n} {highers = highers} {e = e} {x = x} h) known also a k =
      λ f. (f.0, λ t i. f.1 t ((expression_types is_new highers known also a n [] e x [] [] h (holds_nothing is_new) t).0 i))
  fails_to (x_constant {n = n} {highers = highers} {d = d} {a = v} {b = b} {ds = ds} c h next) known also a k =
      let here = expression_types is_new highers known also a n [] v b [] [] h (holds_nothing is_new) in
      let behind = fails_to next _ _ (with_alike d.text _ _ known also here a) in
      rw c (λ f. elim f [
        | inl first ↦ inl (ap (λ j. first_or j (λ m. given_number fields ds m)) first.0, λ t i. first.1 t ((here t).0 i))
        | inr later ↦ inr (given_number fields ds later.0, ap (λ j. first_or j (λ m. given_number fields ds m)) later.1, (later.2.0, (here later.2.0).1 later.2.1), behind later.0 later.3)
      ])
  fails_to (x_function {n = n} {highers = highers} {S = S} {d = d} {p = p} {q = q} {a = v} {b = b} {ds = ds} none c r h next) known also a k =
      let here = function_types is_new highers known also a n S p q v b r h in
      let behind = fails_to next _ _ (with_alike d.text _ _ known also here a) in
      rw (none, c) (λ f. elim f [
        | inl first ↦ inl (ap (λ j. first_or j (λ m. given_number fields ds m)) first.0, λ s t i. first.1 s t ((here s t).0 i))
        | inr later ↦ inr (given_number fields ds later.0, ap (λ j. first_or j (λ m. given_number fields ds m)) later.1, (later.2.0, later.2.1, (here later.2.0 later.2.1).1 later.2.2), behind later.0 later.3)
      ])
  fails_to (x_dropped {ds = ds} h is next) known also a k = rw is (λ f. (given_number fields ds k, refl, fails_to next known also a k f))

  fails_back : {n : ℕ} {highers : Highers} {ds cs : Decls} {e x : Exp} → ProgramExpands is_new fields n highers ds e cs x → (known also : KnownTypes) → AllAlike known also
      → (i : ℕ) → HoFailsAt fields ds e highers known i → (k : ℕ) × (i ≡ given_number fields ds k) × FailsAt cs x also k
  fails_back (x_last {n = n} {highers = highers} {e = e} {x = x} h) known also a i =
      λ f. (i, refl, (f.0, λ t o. f.1 t ((expression_types is_new highers known also a n [] e x [] [] h (holds_nothing is_new) t).1 o)))
  fails_back (x_constant {n = n} {highers = highers} {d = d} {a = v} {b = b} {ds = ds} c h next) known also a i =
      let here = expression_types is_new highers known also a n [] v b [] [] h (holds_nothing is_new) in
      let behind = fails_back next _ _ (with_alike d.text _ _ known also here a) in
      rw c (λ f. elim f [
        | inl first ↦ (0, first.0, inl (refl, λ t o. first.1 t ((here t).1 o)))
        | inr later ↦ let found = behind later.0 later.3 in (suc found.0, later.1 ∙ ap suc found.1, inr (found.0, refl, (later.2.0, (here later.2.0).0 later.2.1), found.2))
      ])
  fails_back (x_function {n = n} {highers = highers} {S = S} {d = d} {p = p} {q = q} {a = v} {b = b} {ds = ds} none c r h next) known also a i =
      let here = function_types is_new highers known also a n S p q v b r h in
      let behind = fails_back next _ _ (with_alike d.text _ _ known also here a) in
      rw (none, c) (λ f. elim f [
        | inl first ↦ (0, first.0, inl (refl, λ s t o. first.1 s t ((here s t).1 o)))
        | inr later ↦ let found = behind later.0 later.3 in (suc found.0, later.1 ∙ ap suc found.1, inr (found.0, refl, (later.2.0, later.2.1, (here later.2.0 later.2.1).0 later.2.2), found.2))
      ])
  fails_back (x_dropped {ds = ds} h is next) known also a i = rw is (λ f. let found = fails_back next known also a f.0 f.2 in (found.0, f.1 ∙ ap suc found.1, found.2))

pub ill_typed : (is_new : New) (fields : FunctionFields) (n : ℕ) (ds cs : Decls) (e x : Exp) → ProgramExpands is_new fields n no_highers ds e cs x → (sources : List (Name × Ground)) (i : ℕ)
    → IsHoIllTyped fields ds e sources i ↔ ((k : ℕ) × (i ≡ given_number fields ds k) × IsIllTyped cs x sources k)
ill_typed is_new fields n ds cs e x h sources i =
    let typing = program_has_typing is_new fields n ds cs e x h sources in
    let first = types_at_first sources in (
      (λ bad. let found = fails_back is_new fields h first first (first_alike sources) i bad.fails in (found.0, found.1, record { fails = found.2; none = λ o. bad.none (typing.1 o) })),
      (λ bad. record { fails = subst (HoFailsAt fields ds e no_highers first) (sym bad.1) (fails_to is_new fields h first first (first_alike sources) bad.0 bad.2.fails); none = λ o. bad.2.none (typing.0 o) }),
    )
