-- What keeps to the rules of scope and to the shapes keeps to the shapes alone.
use Rattle.std.proofs.Common.{◌≡◌, ℕ, Bool, true, false, ◌||◌, cond, List, [], Option, Some, None, IsTrue, is_some, refl, sym, ap}
use Rattle.std.proofs.Common.{◌∙◌, true≢false, arith}
use Rattle.std.proofs.lemmas.Option.{same_Some}
use Rattle.kl_base.specs.Fields.{field}
use Rattle.kl_outcome.specs.Outcome.{Name}
use Rattle.kl_syntax.specs.declared.tree.Tail.TheVariants as tail
use Rattle.kl_syntax.specs.Syntax.{Pat, catch, any, same, is, shape, variant, Pats, no_pats, pats, Exp, Const, name, Call, Rec}
use Rattle.kl_syntax.specs.Syntax.{More, Inj, Coll, Comp, If, Let, Case, Path, Not, Neg, Chain, Exps, no_exps, exps, Flds}
use Rattle.kl_syntax.specs.Syntax.{no_flds, flds, Quals, no_quals, draw, test, Branches, no_branches, otherwise, branch, Steps}
use Rattle.kl_syntax.specs.Syntax.{no_steps, step, Decls, no_decls, constant, function}
use Rattle.kl_meaning.specs.Match.{same_name}
use Rattle.kl_ho.specs.Highers.{Higher}
use Rattle.kl_ho.specs.Expansion.{New}
use Rattle.kl_ho.specs.HoPrograms.{is_among, FunctionFields, higher_from, IsExpansion}
use Rattle.kl_ho.proofs.ProgramEnding.{program_has_expansion}
use Rattle.kl_ho.specs.Shapes.{Shape, plain, with, shape_at, World, names_after, behind_shaped, or_function, ByShape, Unless}
use Rattle.kl_ho.specs.Shapes.{IsShapedPat, AreShapedPats, IsShaped, IsShapedArgument, IsShapedLiteral, AreShaped}
use Rattle.kl_ho.specs.Shapes.{AreShapedFields, AreShapedQuals, AreShapedBranches, AreShapedSteps, added, IsShapedFunction}
use Rattle.kl_ho.specs.Shapes.{IsShapedDecls, IsFirstWorld, Chooses, DefinesOld}
use Rattle.kl_ho.specs.Keeps.{Else, ByParam, KeepsNames, KeepsNamesAll, Keeps, KeepsArgument, KeepsLiteral, KeepsAll, KeepsFields}
use Rattle.kl_ho.specs.Keeps.{KeepsQuals, KeepsBranches, KeepsSteps, with_arity, KeepsFunction, KeepsDecls, KnowsFirst, AreOld}

-- the names that are taken are those that take so many arguments, functions one
pub record Agree (world : World) (arity : Name → Option ℕ) : Type 0 where
  pub one : (x : Name) (t : Shape) → world.functions x ≡ Some t → arity x ≡ Some 1
  pub taken : (x : Name) → world.taken x ≡ is_some (arity x)

not_both : (o : Option ℕ) → o ≡ Some 0 → o ≡ Some 1 → ⊥
not_both o p q = let n : ◌≡◌ {A = ℕ} 0 1 = same_Some 0 1 (sym p ∙ q) in omega (arith, n)

module _ (world : World) (arity : Name → Option ℕ) (params : List (Name × Shape)) (agree : Agree world arity) where
  no_function : (o : Option Shape) (x : Name) → world.functions x ≡ o → arity x ≡ Some 0 → o ≡ None
  no_function (Some t) x e a = absurd (not_both (arity x) a (agree.one x t e))
  no_function None x e a = refl

  name_shaped : (among : Bool) (x : Name) → Else among ((field x params ≡ None) × (arity x ≡ Some 0)) → (cond among None (or_function (field x params) (world.functions x)) ≡ None) × IsTrue (among || world.taken x)
  name_shaped true x h = (refl, refl)
  name_shaped false x h = (rw h.0 (no_function (world.functions x) x refl h.1), agree.taken x ∙ ap is_some h.1)

  head_known : (o : Option Shape) (f : Name) (n : ℕ) → ByParam o (n ≡ 1) (arity f ≡ Some n) → IsTrue (is_some o || world.taken f)
  head_known (Some s) f n h = refl
  head_known None f n h = agree.taken f ∙ ap is_some h

  by_shape : (o : Option Shape) (P P' : Type 0) (Q Q' : Shape → Type 0) → (P → P') → ((s : Shape) → Q s → Q' s) → ByShape o P Q → ByShape o P' Q'
  by_shape None P P' Q Q' f g h = f h
  by_shape (Some plain) P P' Q Q' f g h = f h
  by_shape (Some (with l s rest)) P P' Q Q' f g h = g (with l s rest) h

  unless : (o : Option Shape) (P P' : Type 0) → (P → P') → Unless o P → Unless o P'
  unless (Some s) P P' f h = tt
  unless None P P' f h = f h

  mutual
    pat_shaped : (p : Pat) (V : List Name) → KeepsNames world arity params p V → IsShapedPat world params p V
    pat_shaped (catch x) V h = tt
    pat_shaped any V h = tt
    pat_shaped (same x) V h = name_shaped (is_among x.text V) x.text h
    pat_shaped (is v n) V h = tt
    pat_shaped (shape ps end) V h = pats_shaped ps V h.1
    pat_shaped (variant l p) V h = pat_shaped p V h

    pats_shaped : (ps : Pats) (V : List Name) → KeepsNamesAll world arity params ps V → AreShapedPats world params ps V
    pats_shaped no_pats V h = tt
    pats_shaped (pats l p ps) V h = (pat_shaped p V h.0, pats_shaped ps V h.1)

  mutual
    shaped : (e : Exp) (V : List Name) → Keeps world arity params e V → IsShaped world params e V
    shaped (Const v) V h = tt
    shaped (name x) V h = name_shaped (is_among x.text V) x.text h
    shaped (Call f es) V h = (
      (h.0.0, head_known (field f.text params) f.text _ h.0.1),
      rw h.0.0 (by_shape (or_function (field f.text params) (world.functions f.text)) _ _ _ _ (λ k. all_shaped es V k) (λ s k. argument_shaped es s V k) h.1),
    )
    shaped (Rec fs) V h = fields_shaped fs plain V h.1
    shaped (More fs a) V h = (fields_shaped fs plain V h.1, shaped a V h.2)
    shaped (Inj l a) V h = shaped a V h
    shaped (Coll k es) V h = all_shaped es V h
    shaped (Comp k e qs) V h = (quals_shaped qs V h.0, shaped e (behind_shaped qs V) h.1)
    shaped (If a b c) V h = (shaped a V h.0, shaped b V h.1, shaped c V h.2)
    shaped (Let p a b) V h = (shaped a V h.0, pat_shaped p V h.1.1.0, shaped b (names_after p V) h.2)
    shaped (Case a bs) V h = (shaped a V h.0, branches_shaped bs V h.2)
    shaped (Path a ls) V h = shaped a V h
    shaped (Not a) V h = shaped a V h
    shaped (Neg a) V h = shaped a V h
    shaped (Chain a ss) V h = (shaped a V h.0, steps_shaped ss V h.1)

    argument_shaped : (es : Exps) (s : Shape) (V : List Name) → KeepsArgument world arity params s es V → IsShapedArgument world params s es V
    argument_shaped no_exps s V h = h
    argument_shaped (exps e no_exps) s V h = literal_shaped e s V h
    argument_shaped (exps e (exps x es)) s V h = h

    literal_shaped : (e : Exp) (s : Shape) (V : List Name) → KeepsLiteral world arity params s e V → IsShapedLiteral world params s e V
    literal_shaped (Rec fs) s V h = (h.0, fields_shaped fs s V h.2)
    literal_shaped e s V h = absurd h

    all_shaped : (es : Exps) (V : List Name) → KeepsAll world arity params es V → AreShaped world params es V
    all_shaped no_exps V h = tt
    all_shaped (exps e es) V h = (shaped e V h.0, all_shaped es V h.1)

    fields_shaped : (fs : Flds) (s : Shape) (V : List Name) → KeepsFields world arity params s fs V → AreShapedFields world params s fs V
    fields_shaped no_flds s V h = tt
    fields_shaped (flds l e fs) s V h = (unless (shape_at l.text s) _ _ (λ k. shaped e V k) h.0, fields_shaped fs s V h.1)

    quals_shaped : (qs : Quals) (V : List Name) → KeepsQuals world arity params qs V → AreShapedQuals world params qs V
    quals_shaped no_quals V h = tt
    quals_shaped (draw p e qs) V h = (shaped e V h.0, pat_shaped p V h.1.0, quals_shaped qs (names_after p V) h.2)
    quals_shaped (test e qs) V h = (shaped e V h.0, quals_shaped qs V h.1)

    branches_shaped : (bs : Branches) (V : List Name) → KeepsBranches world arity params bs V → AreShapedBranches world params bs V
    branches_shaped no_branches V h = tt
    branches_shaped (otherwise e) V h = shaped e V h
    branches_shaped (branch l p e bs) V h = (pat_shaped p V h.0.1.0, shaped e (names_after p V) h.1, branches_shaped bs V h.2)

    steps_shaped : (ss : Steps) (V : List Name) → KeepsSteps world arity params ss V → AreShapedSteps world params ss V
    steps_shaped no_steps V h = tt
    steps_shaped (step c e ss) V h = (shaped e V h.0, steps_shaped ss V h.1)

-- ---- programs

agree_more : (world : World) (arity : Name → Option ℕ) (d : Name) (o : Option Shape) (k : ℕ) → Agree world arity → ((t : Shape) → o ≡ Some t → k ≡ 1) → Agree (added world d o) (with_arity d k arity)
agree_more world arity d o k a own = record { one = λ x t e. once x t (same_name x d) e; taken = λ x. both x (same_name x d) }
  where
    once : (x : Name) (t : Shape) (b : Bool) → cond b o (world.functions x) ≡ Some t → cond b (Some k) (arity x) ≡ Some 1
    once x t true e = ap Some (own t e)
    once x t false e = a.one x t e

    both : (x : Name) (b : Bool) → (b || world.taken x) ≡ is_some (cond b (Some k) (arity x))
    both x true = refl
    both x false = a.taken x

function_shaped : (world : World) (arity : Name → Option ℕ) (a : Agree world arity) (h : Option Higher) (p : Pat) (e : Exp) (o : Shape) → KeepsFunction world arity h p e o → IsShapedFunction world h p e o
function_shaped world arity a None p e o (q, s, k) = (q, pat_shaped world arity [] a p [] s.1.0, shaped world arity [] a e (names_after p []) k)
function_shaped world arity a (Some h) p e o (l, s, rest, params, q, are, sure, body) =
    (l, s, rest, params, q, rw q are, pat_shaped world arity [] a (shape h.rest tail.Exact) [] sure.1.0, shaped world arity params a h.body (names_after (shape h.rest tail.Exact) []) body)

pub decls_shaped : (fields : FunctionFields) (ds : Decls) (e : Exp) (world : World) (arity : Name → Option ℕ) → Agree world arity → KeepsDecls fields ds e world arity → IsShapedDecls fields ds e world
decls_shaped fields no_decls e world arity a h = shaped world arity [] a e [] h
decls_shaped fields (constant d x ds) e world arity a h = (
  a.taken d.text ∙ ap is_some h.0.0,
  shaped world arity [] a x [] h.1,
  decls_shaped fields ds e (added world d.text None) (with_arity d.text 0 arity) (agree_more world arity d.text None 0 a (λ t q. let z : ⊥ = cc in absurd z)) h.2,
)
decls_shaped fields (function d p x ds) e world arity a h = (
  a.taken d.text ∙ ap is_some h.0.0,
  h.1,
  function_shaped world arity a (higher_from (fields d.text) p x) p x h.1 h.2,
  decls_shaped fields ds e (added world d.text (Some h.1)) (with_arity d.text 1 arity) (agree_more world arity d.text (Some h.1) 1 a (λ t q. refl)) h.3,
)

some_is : (o : Option ℕ) → is_some o ≡ true → (k : ℕ) × (o ≡ Some k)
some_is (Some k) e = (k, refl)
some_is None e = absurd (true≢false (sym e))

pub kept_expansion : (fields : FunctionFields) (is_new : New) (sources : List Name) (world : World) (arity : Name → Option ℕ) (ds : Decls) (e : Exp) → Chooses is_new → AreOld is_new arity → DefinesOld is_new ds
    → KnowsFirst sources world arity → KeepsDecls fields ds e world arity → (cs : Decls) × (x : Exp) × IsExpansion fields ds e cs x
kept_expansion fields is_new sources world arity ds e choose old defines k h =
    let first : IsFirstWorld is_new world = record {
      plain_only = λ x t q. let p = k.plain_only x t q in (p.0, k.taken x ∙ ap is_some p.1);
      within = λ x t. let a = some_is (arity x) (sym (k.taken x) ∙ t) in old x a.0 a.1;
    } in
    program_has_expansion fields is_new world ds e choose first defines
    (decls_shaped fields ds e world arity (record { one = λ x t q. (k.plain_only x t q).1; taken = k.taken }) h)
