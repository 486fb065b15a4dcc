-- Each program that keeps to the shapes has an expansion.
use Rattle.std.proofs.Common.{◌≡◌, ℕ, ◌+◌, ◌≤◌, Bool, true, false, ◌||◌, [], Option, Some, None, refl, sym, ap, ◌∙◌, subst}
use Rattle.std.proofs.Common.{true≢false}
use Rattle.std.specs.Cmp.Lexicographic.{same_text}
use Rattle.std.proofs.lemmas.Option.{same_Some}
use Rattle.kl_outcome.specs.Outcome.{Name}
use Rattle.kl_type.proofs.RowLemmas.{same_label}
use Rattle.kl_syntax.specs.declared.tree.Word.{Word}
use Rattle.kl_syntax.specs.Syntax.{Pat, Exp, Decls, no_decls, constant, function}
use Rattle.kl_meaning.specs.Match.{same_name}
use Rattle.kl_ho.specs.Highers.{Higher, Highers}
use Rattle.kl_ho.specs.Expansion.{New}
use Rattle.kl_ho.specs.HoPrograms.{FunctionFields, higher_from, no_highers, with_higher, IsExpansion, ProgramExpands, x_last}
use Rattle.kl_ho.specs.HoPrograms.{x_constant, x_function, x_dropped}
use Rattle.kl_ho.specs.Shapes.{Chooses, AreParams, added, IsBuilt, b_start, b_plain, b_higher, Shape, World, names_after}
use Rattle.kl_ho.specs.Shapes.{IsShapedFunction, IsShapedDecls, IsFirstWorld, DefinesOld}
use Rattle.kl_ho.proofs.Ending.{raise, left, right, good_world, has_expansion, pat_ends}

pub raise_program : {is_new : New} {fields : FunctionFields} {n : ℕ} {highers : Highers} {ds cs : Decls} {e x : Exp} → ProgramExpands is_new fields n highers ds e cs x → (m : ℕ) → n ≤ m → ProgramExpands is_new fields m highers ds e cs x
raise_program {is_new = is_new} (x_last {highers = highers} h) m le = x_last (raise is_new highers h m le)
raise_program {is_new = is_new} (x_constant {highers = highers} t h p) m le = x_constant t (raise is_new highers h m le) (raise_program p m le)
raise_program {is_new = is_new} (x_function {highers = highers} i t r h k) m le = x_function i t r (raise is_new highers h m le) (raise_program k m le)
raise_program (x_dropped h i k) m le = x_dropped h i (raise_program k m le)

-- ---- a new definition changes nothing for those before it

module _ (highers : Highers) (is_new : New) (d : Name) (o : Option Higher) where
  untouched : (x : Name) → same_name x d ≡ false → with_higher d o highers x ≡ highers x
  untouched x e = rw e refl

  other_name : (world : World) (x : Name) → world.taken d ≡ false → world.taken x ≡ true → same_name x d ≡ false
  other_name world x n t = by_name (same_name x d) refl
    where
      by_name : (b : Bool) → same_name x d ≡ b → b ≡ false
      by_name true e = absurd (true≢false (sym t ∙ ap world.taken (same_text x d (sym e)) ∙ n))
      by_name false e = refl

  or_false : (a b : Bool) → (a || b) ≡ false → (a ≡ false) × (b ≡ false)
  or_false true b e = absurd (true≢false e)
  or_false false b e = (refl, e)

  flipped : (x : Name) → same_name d x ≡ false → same_name x d ≡ false
  flipped x e = by_name (same_name x d) refl
    where
      by_name : (b : Bool) → same_name x d ≡ b → b ≡ false
      by_name true q = absurd (true≢false (sym (same_label d) ∙ ap (same_name d) (sym (same_text x d (sym q))) ∙ e))
      by_name false q = refl

  pub built_still : {world : World} → IsBuilt highers is_new world → world.taken d ≡ false → IsBuilt (with_higher d o highers) is_new world
  built_still (b_start {world = world} f k) n = b_start f (λ x t. ((k x t).0, untouched x (other_name world x n t) ∙ (k x t).1))
  built_still (b_plain {world = world} c p built t none only) n =
      let m = or_false (same_name d c) (world.taken d) n in
      b_plain c p (built_still built m.1) t (untouched c (flipped c m.0) ∙ none) only
  built_still (b_higher {world = world} c l s rest h params built t found a p b) n =
      let m = or_false (same_name d c) (world.taken d) n in
      b_higher c l s rest h params (built_still built m.1) t (untouched c (flipped c m.0) ∙ found) a p b

module _ (fields : FunctionFields) (is_new : New) (choose : Chooses is_new) where
  abbrev ProgramEnds : Highers → Decls → Exp → Type 0
  ProgramEnds highers ds e = (n : ℕ) × (cs : Decls) × (x : Exp) × ProgramExpands is_new fields n highers ds e cs x

  -- there is no definition with function fields but those that stand before
  abbrev pub HasOnly : Highers → World → Type 0
  HasOnly highers world = (x : Name) → world.taken x ≡ false → highers x ≡ None

  only_more : (highers : Highers) (world : World) (d : Name) (h : Option Higher) (o : Option Shape) → HasOnly highers world → HasOnly (with_higher d h highers) (added world d o)
  only_more highers world d h o only x t =
      let m = or_false highers is_new d h (same_name x d) (world.taken x) t in
      untouched highers is_new d h x m.0 ∙ only x m.1

  only_still : (highers : Highers) (world : World) (d : Name) (o : Option Shape) → HasOnly highers world → HasOnly highers (added world d o)
  only_still highers world d o only x t = only x (or_false highers is_new d None (same_name x d) (world.taken x) t).1

  none_some : (s : Shape) (P : Type 0) → ◌≡◌ {A = Option Shape} None (Some s) → P
  none_some s P e = let z : ⊥ = cc in absurd z

  function_ends : (highers : Highers) (world : World) → IsBuilt highers is_new world → (d : Word) (p : Pat) (a e : Exp) (ds : Decls) (o : Shape) (h : Option Higher) → higher_from (fields d.text) p a ≡ h
      → IsShapedFunction world h p a o → world.taken d.text ≡ false → is_new d.text ≡ false
      → (IsBuilt (with_higher d.text h highers) is_new (added world d.text (Some o)) → ProgramEnds (with_higher d.text h highers) ds e) → ProgramEnds highers (function d p a ds) e
  function_ends highers world built d p a e ds o None i s n t go =
      let q = pat_ends is_new highers choose world (good_world is_new highers choose built).sub [] [] [] tt p [] [] s.1 tt in
      let x = has_expansion is_new highers choose world built a (names_after p []) q.scope s.2 q.seen in
      let here : with_higher d.text None highers d.text ≡ None = rw (same_label d.text) refl in
      let r = go (b_plain d.text (Some o) (built_still highers is_new d.text None built n) t here (λ z k. sym (same_Some o z k) ∙ s.0)) in
      let m = x.0 + r.0 in
      (m, function d q.pattern x.1 r.1, r.2, x_function i refl q.becomes (raise is_new highers x.2 m (left x.0 r.0)) (raise_program r.3 m (right x.0 r.0)))
  function_ends highers world built d p a e ds o (Some h) i (l, s, rest, params, k, ps, q, b) n t go =
      let here : with_higher d.text (Some h) highers d.text ≡ Some h = rw (same_label d.text) refl in
      let fits = subst (λ z. AreParams z h.handed params) k ps in
      let next = b_higher d.text l s rest h params (built_still highers is_new d.text (Some h) built n) t here fits q b in
      let r = go (subst (λ z. IsBuilt (with_higher d.text (Some h) highers) is_new (added world d.text (Some z))) (sym k) next) in
      (r.0, r.1, r.2, x_dropped h i r.3)

  pub program_ends : (ds : Decls) (e : Exp) (highers : Highers) (world : World) → IsBuilt highers is_new world → HasOnly highers world → DefinesOld is_new ds → IsShapedDecls fields ds e world
      → ProgramEnds highers ds e
  program_ends no_decls e highers world built only t s = let x = has_expansion is_new highers choose world built e [] [] s tt in (x.0, no_decls, x.1, x_last x.2)
  program_ends (constant d a ds) e highers world built only t s =
      let x = has_expansion is_new highers choose world built a [] [] s.1 tt in
      let r = program_ends ds e highers (added world d.text None) (b_plain d.text None built t.0 (only d.text s.0) (λ z k. none_some z _ k)) (only_still highers world d.text None only) t.1 s.2 in
      let m = x.0 + r.0 in
      (m, constant d x.1 r.1, r.2, x_constant refl (raise is_new highers x.2 m (left x.0 r.0)) (raise_program r.3 m (right x.0 r.0)))
  program_ends (function d p a ds) e highers world built only t s =
      function_ends highers world built d p a e ds s.1 (higher_from (fields d.text) p a) refl s.2 s.0 t.0
      (λ b. program_ends ds e (with_higher d.text (higher_from (fields d.text) p a) highers) (added world d.text (Some s.1)) b
      (only_more highers world d.text (higher_from (fields d.text) p a) (Some s.1) only) t.1 s.3)

pub program_has_expansion : (fields : FunctionFields) (is_new : New) (world : World) (ds : Decls) (e : Exp) → Chooses is_new → IsFirstWorld is_new world → DefinesOld is_new ds
    → IsShapedDecls fields ds e world → (cs : Decls) × (x : Exp) × IsExpansion fields ds e cs x
program_has_expansion fields is_new world ds e choose w t s =
    let r = program_ends fields is_new choose ds e no_highers world (b_start w.plain_only (λ x k. (w.within x k, refl))) (λ x k. refl) t s in
    (r.1, r.2, (is_new, r.0, r.3))
