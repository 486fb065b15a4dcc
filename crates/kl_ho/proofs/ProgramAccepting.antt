-- The rules of scope find no breach in the expansion of a program that keeps to them.
use Rattle.std.proofs.Common.{◌≡◌, ℕ, Bool, true, false, cond, List, [], ◌∷◌, ◌++◌, Option, Some, None, is_some, refl, sym, ap}
use Rattle.std.proofs.Common.{◌∙◌, subst, true≢false, bytes_eq, ⊎_elim}
use Rattle.std.specs.Cmp.Lexicographic.{same_text}
use Rattle.std.specs.List.{Contains}
use Rattle.std.proofs.lemmas.List.Elements.{Contains-push_cases, Contains-append_cases}
use Rattle.std.proofs.lemmas.Option.{same_Some}
use Rattle.kl_type.proofs.RowLemmas.{same_label}
use Rattle.kl_outcome.specs.Outcome.{Name}
use Rattle.kl_syntax.specs.declared.tree.Tail.TheVariants as tail
use Rattle.kl_syntax.specs.declared.tree.Word.{Word}
use Rattle.kl_syntax.specs.Syntax.{Pat, shape, Exp, Decls}
use Rattle.kl_scope.specs.Senses as scope
use Rattle.kl_scope.specs.Senses.{at_first, named, called, defined, entry_named, is_taken}
use Rattle.kl_scope.specs.Patterns.{variables, within}
use Rattle.kl_scope.specs.Findings.{Finding, breach, taken, sure_findings, findings, decls_findings, behind_decls}
use Rattle.kl_scope.specs.declared.refusal.ScopeError.{ScopeError}
use Rattle.kl_scope.specs.declared.refusal.ScopeError.TheVariants.{Twice}
use Rattle.kl_meaning.specs.Match.{same_name}
use Rattle.kl_ho.specs.Highers.{Higher, Highers}
use Rattle.kl_ho.specs.Expansion.{New, PatBecomes, Expands}
use Rattle.kl_ho.specs.HoPrograms.{FunctionFields, no_highers, with_higher, ProgramExpands, x_last, x_constant, x_function}
use Rattle.kl_ho.specs.HoPrograms.{x_dropped}
use Rattle.kl_ho.specs.Shapes.{Shape, plain, with, World, AreParams, added, names_after}
use Rattle.kl_ho.specs.Keeps.{IsFine, Clean, Takes, KeepsSure, Keeps, with_arity, KeepsDecls, KnowsFirst, IsAccepted}
use Rattle.kl_ho.proofs.Fields.{nothing_contained}
use Rattle.kl_ho.proofs.Accepting.{At, both_clean, none_clean, pushed, all_bound_is, at_after, BodyKeeps, TableAt, Fitting}
use Rattle.kl_ho.proofs.Accepting.{sure_clean, clean}

pub flipped : (x d : Name) → same_name x d ≡ false → bytes_eq d x ≡ false
flipped x d e = by_name (bytes_eq d x) refl
  where
    by_name : (b : Bool) → bytes_eq d x ≡ b → b ≡ false
    by_name true q = absurd (true≢false (sym (same_label d) ∙ ap (λ z. same_name z d) (same_text d x (sym q)) ∙ e))
    by_name false q = refl

all_contains : (fs : List Finding) → Clean fs → (e : ScopeError) → Contains fs (breach e) → ⊥
all_contains [] h e i = nothing_contained (breach e) i
all_contains (f ∷ fs) h e i =
    ⊎_elim (λ a. ⊎_elim (λ z. nothing_contained (breach e) z) (λ q. subst IsFine q h.0) (Contains-push_cases [] f (breach e) a)) (λ k. all_contains fs h.1 e k)
    (Contains-append_cases (f ∷ []) fs (breach e) i)

module _ (is_new : New) (sources : List Name) where
  abbrev at : List (Name × Bool) → scope.Scope
  at D = record { variables = []; definitions = D; sources = sources }

  -- what is known before a declaration
  record State (highers : Highers) (D : List (Name × Bool)) (world : World) (arity : Name → Option ℕ) : Type 0 where
    values : (x : Name) → arity x ≡ Some 0 → Takes (named (at D) x) 0
    calls : (x : Name) (k : ℕ) → arity x ≡ Some k → highers x ≡ None → Takes (called (at D) x) k
    table : (x : Name) (t : Shape) → world.functions x ≡ Some t → (arity x ≡ Some 1) × TableAt is_new highers (at D) world.functions arity t (highers x)
    none : (x : Name) (k : ℕ) → arity x ≡ Some k → world.functions x ≡ None → highers x ≡ None
    unknown : (x : Name) → arity x ≡ None → (named (at D) x ≡ None) × (highers x ≡ None)

  module _ (highers : Highers) (D : List (Name × Bool)) (world : World) (arity : Name → Option ℕ) (s : State highers D world arity) where
    abbrev fitting : Fitting is_new highers (at D) world.functions arity []
    fitting = record { world = world; takes = arity; params = []; heads = λ f t e. e; others = λ f e. refl; less = λ x k e. e; none = s.none }

  nowhere : At is_new [] [] []
  nowhere = record { seen = tt; bound = tt; new = tt }

  differs : (arity : Name → Option ℕ) (x d : Name) (k : ℕ) → arity x ≡ Some k → arity d ≡ None → same_name x d ≡ false
  differs arity x d k e n = by_name (same_name x d) refl
    where
      by_name : (b : Bool) → same_name x d ≡ b → b ≡ false
      by_name true q = let w : Some k ≡ None = sym e ∙ ap arity (same_text x d (sym q)) ∙ n in let z : ⊥ = cc in absurd z
      by_name false q = refl

  -- one name more
  module _ (highers also : Highers) (D E : List (Name × Bool)) (world : World) (arity : Name → Option ℕ) (d : Name) (o : Option Shape) (k : ℕ) (s : State highers D world arity) (free : arity d ≡ None)
      (other : (x : Name) → same_name x d ≡ false → also x ≡ highers x) where
    abbrev more_functions : Name → Option Shape
    more_functions = (added world d o).functions

    lifted : (t : Shape) (h : Higher) → BodyKeeps is_new highers (at D) world.functions arity t h → BodyKeeps is_new also (at E) more_functions (with_arity d k arity) t h
    lifted t h b =
        record {
          world = b.world;
          takes = b.takes;
          params = b.params;
          are = b.are;
          below = λ x u e. let f = b.below x u e in rw (differs arity x d 1 (s.table x u f).0 free) f;
          less = λ x j e. let f = b.less x j e in rw (differs arity x d j f free) f;
          none = λ x j e n. other x (differs arity x d j (b.less x j e) free) ∙ b.none x j e n;
          pattern = b.pattern;
          body = b.body;
        }

    table_lifted : (t : Shape) (p : Option Higher) → TableAt is_new highers (at D) world.functions arity t p → TableAt is_new also (at E) more_functions (with_arity d k arity) t p
    table_lifted plain p h = h
    table_lifted (with l u rest) p h = (h.0, h.1, lifted (with l u rest) h.0 h.2)

    step : ((x : Name) → same_name x d ≡ false → (named (at E) x ≡ named (at D) x) × (called (at E) x ≡ called (at D) x)) → (k ≡ 0 → Takes (named (at E) d) 0) → (also d ≡ None → Takes (called (at E) d) k)
        → ((t : Shape) → o ≡ Some t → (k ≡ 1) × TableAt is_new also (at E) more_functions (with_arity d k arity) t (also d)) → (o ≡ None → also d ≡ None)
        → State also E (added world d o) (with_arity d k arity)
    step names own_value own_call own_table own_none =
        record {
          values = λ x e. value x (same_name x d) refl e;
          calls = λ x j e n. call x j (same_name x d) refl e n;
          table = λ x t e. row x t (same_name x d) refl e;
          none = λ x j e n. no_higher x j (same_name x d) refl e n;
          unknown = λ x e. nothing x (same_name x d) refl e;
        }
      where
        value : (x : Name) (b : Bool) → same_name x d ≡ b → cond b (Some k) (arity x) ≡ Some 0 → Takes (named (at E) x) 0
        value x true q e = rw (same_text x d (sym q)) (own_value (same_Some k 0 e))
        value x false q e = rw (names x q).0 (s.values x e)

        call : (x : Name) (j : ℕ) (b : Bool) → same_name x d ≡ b → cond b (Some k) (arity x) ≡ Some j → also x ≡ None → Takes (called (at E) x) j
        call x j true q e n =
            let one : x ≡ d = same_text x d (sym q) in
            rw one (subst (λ z. Takes (called (at E) d) z) (same_Some k j e) (own_call (sym (ap also one) ∙ n)))
        call x j false q e n = rw (names x q).1 (s.calls x j e (sym (other x q) ∙ n))

        row : (x : Name) (t : Shape) (b : Bool) → same_name x d ≡ b → cond b o (world.functions x) ≡ Some t
            → (cond b (Some k) (arity x) ≡ Some 1) × TableAt is_new also (at E) more_functions (with_arity d k arity) t (also x)
        row x t true q e =
            let r = own_table t e in
            (ap Some r.0, subst (λ z. TableAt is_new also (at E) more_functions (with_arity d k arity) t (also z)) (sym (same_text x d (sym q))) r.1)
        row x t false q e =
            let r = s.table x t e in
            (r.0, subst (λ z. TableAt is_new also (at E) more_functions (with_arity d k arity) t z) (sym (other x q)) (table_lifted t (highers x) r.1))

        no_higher : (x : Name) (j : ℕ) (b : Bool) → same_name x d ≡ b → cond b (Some k) (arity x) ≡ Some j → cond b o (world.functions x) ≡ None → also x ≡ None
        no_higher x j true q e n = ap also (same_text x d (sym q)) ∙ own_none n
        no_higher x j false q e n = other x q ∙ s.none x j e n

        nothing : (x : Name) (b : Bool) → same_name x d ≡ b → cond b (Some k) (arity x) ≡ None → (named (at E) x ≡ None) × (also x ≡ None)
        nothing x true q e = let z : ⊥ = cc in absurd z
        nothing x false q e = ((names x q).0 ∙ (s.unknown x e).0, other x q ∙ (s.unknown x e).1)

  kept_names : (D : List (Name × Bool)) (d : Name) (f : Bool) (x : Name) → same_name x d ≡ false
      → (named (at ((d, f) ∷ D)) x ≡ named (at D) x) × (called (at ((d, f) ∷ D)) x ≡ called (at D) x)
  kept_names D d f x e = let n = flipped x d e in (rw n refl, rw n refl)

  free_name : (D : List (Name × Bool)) (w : Word) → named (at D) w.text ≡ None → is_some (entry_named w.text) ≡ false → Clean (taken (at D) w)
  free_name D w n e = none_clean (is_taken (at D) w.text) (breach (Twice w.text w.token)) (rw (n, e) refl)

  still_highers : (highers : Highers) (d : Name) (h : Option Higher) (x : Name) → same_name x d ≡ false → with_higher d h highers x ≡ highers x
  still_highers highers d h x e = rw e refl

  abbrev ProgramClean : Decls → Exp → List (Name × Bool) → Type 0
  ProgramClean cs x D = Clean (decls_findings cs (at D)) × Clean (findings x (behind_decls cs (at D)))

  expression_clean : {n : ℕ} (highers : Highers) (D : List (Name × Bool)) (world : World) (arity : Name → Option ℕ) (s : State highers D world arity) (e x : Exp) → Expands is_new highers n [] [] e x
      → Keeps world arity [] e [] → Clean (findings x (at D))
  expression_clean highers D world arity s e x h k = clean is_new highers (at D) world.functions arity s.values s.calls s.table h (fitting highers D world arity s) [] [] k nowhere

  parameter_clean : {S : List (Name × Name)} (highers : Highers) (D : List (Name × Bool)) (world : World) (arity : Name → Option ℕ) (s : State highers D world arity) (p q : Pat) → PatBecomes is_new [] [] p q S
      → KeepsSure world arity [] p [] → Clean (sure_findings q (at D))
  parameter_clean highers D world arity s p q r k = sure_clean is_new highers (at D) world.functions arity s.values s.calls s.table (fitting highers D world arity s) [] [] [] nowhere r k

  body_clean : {n : ℕ} {S : List (Name × Name)} (highers : Highers) (D : List (Name × Bool)) (world : World) (arity : Name → Option ℕ) (s : State highers D world arity) (p q : Pat) (a b : Exp) → PatBecomes is_new [] [] p q S
      → Expands is_new highers n [] S a b → Keeps world arity [] a (names_after p []) → Clean (findings b (within q (at D)))
  body_clean highers D world arity s p q a b r h j =
      rw (all_bound_is is_new highers (at D) world.functions arity (variables q) [])
      (clean is_new highers (at D) world.functions arity s.values s.calls s.table h (fitting highers D world arity s) (names_after p []) (pushed (variables q) []) j (at_after is_new [] r [] [] nowhere))

  state_constant : (highers : Highers) (D : List (Name × Bool)) (world : World) (arity : Name → Option ℕ) (d : Name) → State highers D world arity → arity d ≡ None
      → State highers ((d, false) ∷ D) (added world d None) (with_arity d 0 arity)
  state_constant highers D world arity d s n =
      step highers highers D ((d, false) ∷ D) world arity d None 0 s n (λ x e. refl) (kept_names D d false) (λ e. rw (same_label d) refl) (λ e. rw (same_label d) refl)
      (λ t e. let z : ⊥ = cc in absurd z) (λ e. (s.unknown d n).1)

  state_plain : (highers : Highers) (D : List (Name × Bool)) (world : World) (arity : Name → Option ℕ) (d : Name) → State highers D world arity → arity d ≡ None
      → State (with_higher d None highers) ((d, true) ∷ D) (added world d (Some plain)) (with_arity d 1 arity)
  state_plain highers D world arity d s n =
      let here : with_higher d None highers d ≡ None = rw (same_label d) refl in
      step highers (with_higher d None highers) D ((d, true) ∷ D) world arity d (Some plain) 1 s n (still_highers highers d None) (kept_names D d true) (λ e. let z : ⊥ = cc in absurd z) (λ e. rw (same_label d) refl)
      (λ t e. (refl, subst (λ z. TableAt is_new (with_higher d None highers) (at ((d, true) ∷ D)) (added world d (Some plain)).functions (with_arity d 1 arity) z (with_higher d None highers d)) (same_Some plain t e) here))
      (λ e. here)

  state_higher : (highers : Highers) (D : List (Name × Bool)) (world : World) (arity : Name → Option ℕ) (d l : Name) (u rest : Shape) (h : Higher) (params : List (Name × Shape)) → State highers D world arity → arity d ≡ None
      → AreParams (with l u rest) h.handed params → KeepsSure world arity [] (shape h.rest tail.Exact) [] → Keeps world arity params h.body (names_after (shape h.rest tail.Exact) [])
      → State (with_higher d (Some h) highers) D (added world d (Some (with l u rest))) (with_arity d 1 arity)
  state_higher highers D world arity d l u rest h params s n a p b =
      let here : with_higher d (Some h) highers d ≡ Some h = rw (same_label d) refl in
      step highers (with_higher d (Some h) highers) D D world arity d (Some (with l u rest)) 1 s n (still_highers highers d (Some h)) (λ x e. (refl, refl)) (λ e. let z : ⊥ = cc in absurd z)
      (λ e. let w : Some h ≡ None = sym here ∙ e in let z : ⊥ = cc in absurd z)
      (λ t e. (
        refl,
        subst (λ z. TableAt is_new (with_higher d (Some h) highers) (at D) (added world d (Some (with l u rest))).functions (with_arity d 1 arity) z (with_higher d (Some h) highers d)) (same_Some (with l u rest) t e) (
          h,
          here,
          record {
            world = world;
            takes = arity;
            params = params;
            are = a;
            below = λ x v e. rw (differs arity x d 1 (s.table x v e).0 n) e;
            less = λ x j e. rw (differs arity x d j e n) e;
            none = λ x j e m. still_highers highers d (Some h) x (differs arity x d j e n) ∙ s.none x j e m;
            pattern = p;
            body = b;
          },
        ),
      ))
      (λ e. let z : ⊥ = cc in absurd z)

  program_clean : {fields : FunctionFields} {n : ℕ} {highers : Highers} {ds cs : Decls} {e x : Exp} → ProgramExpands is_new fields n highers ds e cs x → (D : List (Name × Bool)) (world : World) (arity : Name → Option ℕ)
      → KeepsDecls fields ds e world arity → State highers D world arity → ProgramClean cs x D
  program_clean (x_last {highers = highers} {e = e} {x = x} h) D world arity k s = (tt, expression_clean highers D world arity s e x h k)
  program_clean (x_constant {highers = highers} {d = d} {c = c} {a = a} {b = b} {cs = cs} t h p) D world arity k s =
      let r = program_clean p ((d.text, false) ∷ D) (added world d.text None) (with_arity d.text 0 arity) k.2 (state_constant highers D world arity d.text s k.0.0) in (
        both_clean (taken (at D) c) (findings b (at D) ++ decls_findings cs (defined (at D) c.text false)) (free_name D c (ap (named (at D)) t ∙ (s.unknown d.text k.0.0).0) (ap (λ z. is_some (entry_named z)) t ∙ k.0.1))
            (both_clean (findings b (at D)) (decls_findings cs (defined (at D) c.text false)) (expression_clean highers D world arity s a b h k.1) (rw t r.0)),
        rw t r.1,
      )
  program_clean {fields = fields} (x_function {highers = highers} {d = d} {c = c} {p = p} {q = q} {a = a} {b = b} {e = e} {ds = ds} {cs = cs} i t r h m) D world arity k s =
      let f = rw i at k.2 in
      let u = program_clean m ((d.text, true) ∷ D) (added world d.text (Some plain)) (with_arity d.text 1 arity) (subst (λ z. KeepsDecls fields ds e (added world d.text (Some z)) (with_arity d.text 1 arity)) f.0 k.3)
      (state_plain highers D world arity d.text s k.0.0) in (
        both_clean (taken (at D) c) (sure_findings q (at D) ++ (findings b (within q (at D)) ++ decls_findings cs (defined (at D) c.text true)))
            (free_name D c (ap (named (at D)) t ∙ (s.unknown d.text k.0.0).0) (ap (λ z. is_some (entry_named z)) t ∙ k.0.1))
            (both_clean (sure_findings q (at D)) (findings b (within q (at D)) ++ decls_findings cs (defined (at D) c.text true)) (parameter_clean highers D world arity s p q r f.1)
            (both_clean (findings b (within q (at D))) (decls_findings cs (defined (at D) c.text true)) (body_clean highers D world arity s p q a b r h f.2) (rw t u.0))),
        rw t u.1,
      )
  program_clean {fields = fields} (x_dropped {highers = highers} {d = d} {e = e} {ds = ds} h i m) D world arity k s =
      let f = rw i at k.2 in
      program_clean m D (added world d.text (Some (with f.0 f.1 f.2))) (with_arity d.text 1 arity) (subst (λ z. KeepsDecls fields ds e (added world d.text (Some z)) (with_arity d.text 1 arity)) f.4 k.3)
      (state_higher highers D world arity d.text f.0 f.1 f.2 h f.3 s k.0.0 f.5 f.6 f.7)

  first_state : (world : World) (arity : Name → Option ℕ) → KnowsFirst sources world arity → State no_highers [] world arity
  first_state world arity k =
      record {
        values = λ x e. k.values x e;
        calls = λ x j e n. k.calls x j e;
        table = λ x t e. let p = k.plain_only x t e in (p.1, subst (λ z. TableAt is_new no_highers (at []) world.functions arity z None) (sym p.0) refl);
        none = λ x j e n. refl;
        unknown = λ x e. (k.unknown x e, refl);
      }

pub accepted : (is_new : New) (fields : FunctionFields) (n : ℕ) (ds cs : Decls) (e x : Exp) → ProgramExpands is_new fields n no_highers ds e cs x → (sources : List Name) (world : World) (arity : Name → Option ℕ)
    → KnowsFirst sources world arity → KeepsDecls fields ds e world arity → IsAccepted cs x sources
accepted is_new fields n ds cs e x h sources world arity k d =
    let r = program_clean is_new sources h [] world arity d (first_state is_new sources world arity k) in
    λ error i. all_contains (decls_findings cs (at_first sources) ++ findings x (behind_decls cs (at_first sources))) (both_clean (decls_findings cs (at_first sources)) (findings x (behind_decls cs (at_first sources))) r.0 r.1) error i
