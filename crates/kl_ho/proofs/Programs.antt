-- A program means what its expansion means, and has the same typings.
use Rattle.std.proofs.Common.{◌≡◌, ◌↔◌, ℕ, true, false, List, [], Option, Some, None, refl, sym, ap, ◌∙◌}
use Rattle.kl_base.specs.Fields.{field}
use Rattle.kl_value.specs.declared.Value.{Value}
use Rattle.kl_type.specs.Ground.{Ground}
use Rattle.kl_outcome.specs.Outcome.{Outcome, stuck, Name}
use Rattle.kl_syntax.specs.Syntax.{Pat, Exp, Decls}
use Rattle.kl_meaning.specs.Match.{Env, fits, must_fit, same_name}
use Rattle.kl_meaning.specs.Run.{KnownOutcomes, look_up, run, at_first, with_known, known_after, meaning_of_program, code_named}
use Rattle.kl_meaning.specs.Run as meant
use Rattle.kl_meaning.specs.Typing.{Context, KnownTypes, Sort, NameTypes, Types, FunctionTypes, types_at_first, sort_at}
use Rattle.kl_meaning.specs.Typing.{sort_by_code, sort_if, with_sort, types_after, EachTyped, ProgramTypes, HasTyping}
use Rattle.kl_ho.specs.Highers.{Highers}
use Rattle.kl_ho.specs.HoRun.{Deeper, within, hrun}
use Rattle.kl_ho.specs.HoTyping.{HoTypes}
use Rattle.kl_ho.specs.Expansion.{Scope, New, PatBecomes, Expands}
use Rattle.kl_ho.specs.HoPrograms.{FunctionFields, no_highers, with_higher, Deepers, program_run, ProgramComes, HoFunctionTypes}
use Rattle.kl_ho.specs.HoPrograms.{program_types, EachHoTyped, HoProgramTypes, HoHasTyping, ProgramExpands, x_last, x_constant}
use Rattle.kl_ho.specs.HoPrograms.{x_function, x_dropped}
use Rattle.kl_ho.proofs.Holding.{Holds, holds_nothing}
use Rattle.kl_ho.proofs.Meaning.{everywhere, Sound, fits_alike, must_alike, run_same, sound_within, sound_still}
use Rattle.kl_ho.proofs.Typings.{Alike, AllAlike, takes_to, takes_back, names_to, names_back, types_to, types_back}

-- ---- meaning

module _ (is_new : New) (fields : FunctionFields) (n m : ℕ) (deeper : Deepers) (sound : (highers : Highers) (known : KnownOutcomes) → Sound is_new highers known n (within m (deeper highers known) highers known)) where
  expression_same : (highers : Highers) (known : KnownOutcomes) (S : Scope) (e x : Exp) (env held : Env) → Expands is_new highers n [] S e x → Holds is_new S env held
      → hrun m (deeper highers known) highers [] known e env ≡ run x known held
  expression_same highers known S e x env held h k = run_same is_new highers known (within m (deeper highers known) highers known) h (sound highers known) env held k

  function_same : (highers : Highers) (known : KnownOutcomes) (S : Scope) (p q : Pat) (a b : Exp) → PatBecomes is_new [] [] p q S → Expands is_new highers n [] S a b → (v : Value)
      → must_fit (fits p (look_up known []) v []) (λ inner. hrun m (deeper highers known) highers [] known a inner) ≡ must_fit (fits q (look_up known []) v []) (λ inner. run b known inner)
  function_same highers known S p q a b r h v =
      must_alike is_new S (fits p (look_up known []) v []) (fits q (look_up known []) v []) _ _ (fits_alike is_new known [] [] [] (holds_nothing is_new) r v [] [] (holds_nothing is_new))
      (λ env held k. expression_same highers known S a b env held h k)

  pub program_same : {highers : Highers} {ds cs : Decls} {e x : Exp} → ProgramExpands is_new fields n highers ds e cs x → (known : KnownOutcomes)
      → program_run m deeper fields ds e highers known ≡ run x (known_after cs known) []
  program_same (x_last {highers = highers} {e = e} {x = x} h) known = expression_same highers known [] e x [] [] h (holds_nothing is_new)
  program_same (x_constant {highers = highers} {d = d} {c = c} {a = a} {b = b} {e = e} {ds = ds} t h p) known =
      rw t (ap (λ o. program_run m deeper fields ds e highers (with_known d.text (meant.value_of o) known)) (expression_same highers known [] a b [] [] h (holds_nothing is_new))
      ∙ program_same p (with_known d.text (meant.value_of (run b known [])) known))
  program_same (x_function {highers = highers} {S = S} {d = d} {p = p} {q = q} {a = a} {b = b} {e = e} {ds = ds} i t r h k) known =
      rw (t, i) (ap (λ f. program_run m deeper fields ds e (with_higher d.text None highers) (with_known d.text (meant.function_of f) known))
      (everywhere (function_same highers known S p q a b r h)) ∙ program_same k _)
  program_same (x_dropped h i k) known = rw i (program_same k known)

pub program_comes : (is_new : New) (fields : FunctionFields) (n : ℕ) (ds cs : Decls) (e x : Exp) → ProgramExpands is_new fields n no_highers ds e cs x → (sources : List (Name × Value))
    → ProgramComes n fields ds e sources (meaning_of_program cs x sources)
program_comes is_new fields n ds cs e x h sources = λ deeper. program_same is_new fields n n deeper (λ highers known. sound_within is_new highers known n (deeper highers known)) h (at_first sources)

abbrev nowhere : Deeper
nowhere = λ d given env. stuck

pub program_comes_alone : (is_new : New) (fields : FunctionFields) (n : ℕ) (ds cs : Decls) (e x : Exp) → ProgramExpands is_new fields n no_highers ds e cs x → (sources : List (Name × Value)) (m : ℕ) (o : Outcome)
    → ProgramComes m fields ds e sources o → o ≡ meaning_of_program cs x sources
program_comes_alone is_new fields n ds cs e x h sources m o c =
    sym (c (λ highers known. within n nowhere highers known))
    ∙ program_same is_new fields n m (λ highers known. within n nowhere highers known)
    (λ highers known. sound_still is_new highers known n m (within n nowhere highers known) (sound_within is_new highers known n nowhere)) h (at_first sources)

-- ---- typing

pub with_alike : (d : Name) (k j : Sort) (known also : KnownTypes) → Alike k j → AllAlike known also → AllAlike (with_sort d k known) (with_sort d j also)
with_alike d k j known also a h x = elim (same_name x d) as (λ b. Alike (sort_if b k (known x)) (sort_if b j (also x))) [ true ↦ a | false ↦ h x ]

same_code : (c : Option ℕ) → Alike (sort_by_code c) (sort_by_code c)
same_code (Some c) = refl
same_code None = tt

same_source : (s : Option Ground) (c : Option ℕ) → Alike (sort_at s c) (sort_at s c)
same_source (Some s) c = λ t. ((λ h. h), (λ h. h))
same_source None c = same_code c

pub first_alike : (sources : List (Name × Ground)) → AllAlike (types_at_first sources) (types_at_first sources)
first_alike sources x = same_source (field x sources) (code_named x)

module _ (is_new : New) (highers : Highers) (known also : KnownTypes) (alike : AllAlike known also) (n : ℕ) where
  pub expression_types : (S : Scope) (e x : Exp) (G H : Context) → Expands is_new highers n [] S e x → Holds is_new S G H → (t : Ground) → HoTypes highers [] known e G t ↔ Types x also H t
  expression_types S e x G H h k t = ((λ i. types_to is_new highers known also alike h i.0 G H t k i.1), (λ i. (n, types_back is_new highers known also alike h G H t k i)))

  pub function_types : (S : Scope) (p q : Pat) (a b : Exp) → PatBecomes is_new [] [] p q S → Expands is_new highers n [] S a b → (s t : Ground)
      → HoFunctionTypes highers known p a s t ↔ FunctionTypes also q b s t
  function_types S p q a b r h s t = (
    (λ i. let k = takes_to is_new [] (NameTypes known []) (NameTypes also []) (names_to is_new highers known also alike [] [] [] (holds_nothing is_new)) r s [] [] i.1 (holds_nothing is_new) i.2 in
        (i.0, k.0, k.2, (expression_types S a b i.1 k.0 h k.1 t).0 i.3)),
    (λ i. let k = takes_back is_new [] (NameTypes known []) (NameTypes also []) (names_back is_new highers known also alike [] [] [] (holds_nothing is_new)) r s [] [] i.1 (holds_nothing is_new) i.2 in
        (i.0, k.0, k.2, (expression_types S a b k.0 i.1 h k.1 t).1 i.3)),
  )

pub program_types_same : (is_new : New) (fields : FunctionFields) {n : ℕ} {highers : Highers} {ds cs : Decls} {e x : Exp} → ProgramExpands is_new fields n highers ds e cs x → (known also : KnownTypes) → AllAlike known also
    → (t : Ground) → program_types fields ds e highers known t ↔ Types x (types_after cs also) [] t
program_types_same is_new fields (x_last {n = n} {highers = highers} {e = e} {x = x} h) known also a t = expression_types is_new highers known also a n [] e x [] [] h (holds_nothing is_new) t
program_types_same is_new fields (x_constant {n = n} {highers = highers} {d = d} {a = v} {b = b} c h k) known also a t =
    rw c (program_types_same is_new fields k _ _ (with_alike d.text _ _ known also (expression_types is_new highers known also a n [] v b [] [] h (holds_nothing is_new)) a) t)
program_types_same is_new fields (x_function {n = n} {highers = highers} {S = S} {d = d} {p = p} {q = q} {a = v} {b = b} i c r h k) known also a t =
    rw (i, c) (program_types_same is_new fields k _ _ (with_alike d.text _ _ known also (function_types is_new highers known also a n S p q v b r h) a) t)
program_types_same is_new fields (x_dropped h i k) known also a t = rw i (program_types_same is_new fields k known also a t)

pub each_typed_same : (is_new : New) (fields : FunctionFields) {n : ℕ} {highers : Highers} {ds cs : Decls} {e x : Exp} → ProgramExpands is_new fields n highers ds e cs x → (known also : KnownTypes) → AllAlike known also
    → EachHoTyped fields ds highers known ↔ EachTyped cs also
each_typed_same is_new fields (x_last h) known also a = ((λ i. tt), (λ i. tt))
each_typed_same is_new fields (x_constant {n = n} {highers = highers} {d = d} {a = v} {b = b} c h k) known also a =
    let here = expression_types is_new highers known also a n [] v b [] [] h (holds_nothing is_new) in
    let others = each_typed_same is_new fields k _ _ (with_alike d.text _ _ known also here a) in
    rw c ((λ i. ((i.0.0, (here i.0.0).0 i.0.1), others.0 i.1)), (λ i. ((i.0.0, (here i.0.0).1 i.0.1), others.1 i.1)))
each_typed_same is_new fields (x_function {n = n} {highers = highers} {S = S} {d = d} {p = p} {q = q} {a = v} {b = b} j c r h k) known also a =
    let here = function_types is_new highers known also a n S p q v b r h in
    let others = each_typed_same is_new fields k _ _ (with_alike d.text _ _ known also here a) in
    rw (j, c) ((λ i. ((i.0.0, i.0.1, (here i.0.0 i.0.1).0 i.0.2), others.0 i.1)), (λ i. ((i.0.0, i.0.1, (here i.0.0 i.0.1).1 i.0.2), others.1 i.1)))
each_typed_same is_new fields (x_dropped h i k) known also a =
    let others = each_typed_same is_new fields k known also a in
    rw i ((λ j. others.0 j.1), (λ j. (tt, others.1 j)))

pub program_typing : (is_new : New) (fields : FunctionFields) (n : ℕ) (ds cs : Decls) (e x : Exp) → ProgramExpands is_new fields n no_highers ds e cs x → (sources : List (Name × Ground)) (t : Ground)
    → HoProgramTypes fields ds e sources t ↔ ProgramTypes cs x sources t
program_typing is_new fields n ds cs e x h sources t = program_types_same is_new fields h (types_at_first sources) (types_at_first sources) (first_alike sources) t

pub program_has_typing : (is_new : New) (fields : FunctionFields) (n : ℕ) (ds cs : Decls) (e x : Exp) → ProgramExpands is_new fields n no_highers ds e cs x → (sources : List (Name × Ground))
    → HoHasTyping fields ds e sources ↔ HasTyping cs x sources
program_has_typing is_new fields n ds cs e x h sources =
    let each = each_typed_same is_new fields h (types_at_first sources) (types_at_first sources) (first_alike sources) in
    let last = program_typing is_new fields n ds cs e x h sources in
    ((λ i. (each.0 i.0, (i.1.0, (last i.1.0).0 i.1.1))), (λ i. (each.1 i.0, (i.1.0, (last i.1.0).1 i.1.1))))
