-- The term of a tidy program has the types that the program has.
use Rattle.std.proofs.Common.{◌≡◌, inl, inr, ℕ, ◌+◌, Bool, true, false, not, ◌||◌, List, [], ◌∷◌, ◌++◌, cond, map, Option, Some, None, IsSome, IsTrue, refl, sym, ap, subst, ◌∙◌, arith}
use Rattle.std.specs.Cmp.Lexicographic.{same_text}
use Rattle.std.specs.List.{AllByRecursion}
use Rattle.kl_value.specs.declared.Kind.{Kind}
use Rattle.kl_value.specs.declared.Value.TheVariants as value
use Rattle.kl_prim.specs.Records.{in_order}
use Rattle.kl_prim.proofs.RecordLemmas.{in_order_all, in_order_rises, in_order_found}
use Rattle.kl_type.specs.Ground.{Ground, Row, bool, rec, var as variant_type, coll as colls, at, IsRow, IsGround}
use Rattle.kl_outcome.specs.Outcome.{Name}
use Rattle.kl_outcome.proofs.Grounds.{at_ground}
use Rattle.kl_syntax.specs.declared.tree.Op.{Op}
use Rattle.kl_syntax.specs.declared.tree.Op.TheVariants as op
use Rattle.kl_syntax.specs.declared.tree.Word.{Word}
use Rattle.kl_syntax.specs.Syntax.{Exp, Const, name, Call, Rec, More, Inj, Coll, Comp, If, Let, Case, Path, Not, Neg, Chain, Exps, no_exps, exps, Flds, no_flds, flds, Quals, no_quals, draw, test, Branches, no_branches, otherwise, branch, Steps, no_steps, step, Decls, no_decls, constant, function}
use Rattle.kl_meaning.specs.Match.{same_name}
use Rattle.kl_meaning.specs.Run.{code_named}
use Rattle.kl_meaning.specs.Tidy.{IsTidy, AreTidy, AreTidyFields, AreTidyQuals, AreTidyBranches, AreTidySteps, IsTidyProgram}
use Rattle.kl_meaning.specs.Typing.{Context, AreGround, Sort, nothing, value_of, function_of, primitive, KnownTypes, CallTypes, OpTypes, PathTypes, has_field, has_branch, Types, AllTypes, EachType, FieldTypes, QualTypes, BranchTypes, StepTypes, sort_at, types_at_first, sort_if, FunctionTypes, types_after, ProgramTypes}
use Rattle.kl_meaning.proofs.Fields.{IsFieldOf, has_fields, fields_apart, written, written_named, written_types}
use Rattle.kl_meaning.proofs.Grounds.{IsGroundSort, types_ground, quals_ground, field_ground, first_known, constant_ground, function_ground}
use Rattle.kl_meaning.proofs.Safety.{truth_typed}
use Rattle.kl_core.specs.Trees as term
use Rattle.kl_core.specs.Trees.{Tree, Trees, no_trees, trees}
use Rattle.kl_core.specs.Typing.{SourceTypes, CoreTypes, ArmTypes, HasArm}
use Rattle.kl_core.specs.Typing as core
use Rattle.kl_core.proofs.Proper.{types_proper}
use Rattle.kl_desugar.specs.Sense.{types_of, HasSense}
use Rattle.kl_desugar.specs.Translation.{Scope, Code, value_by, function_by, primitive_by, Codes, empty, called_tree, operated_tree, projected, tree, tree_all, tree_fields, tree_quals, tree_branches, tree_steps, no_sense, number_of, code_at, codes_first, codes_after, function_tree, term_of}
use Rattle.kl_desugar.specs.Translation as translation
use Rattle.kl_desugar.proofs.Positions.{Standing, scope, values, names, grows_none}
use Rattle.kl_outcome.proofs.PrimLemmas.{extend_types}
use Rattle.kl_outcome.proofs.RowFields.{divided}
use Rattle.kl_type.proofs.RowLemmas.{drops_row, labels_rise}
use Rattle.kl_desugar.proofs.Fielding.{parts_typed}
use Rattle.kl_desugar.proofs.Fitting.{Agrees, AllAgree, AllGround, names_ground, name_typed, here_typed}
use Rattle.kl_desugar.proofs.Law.{SourceAt, source_at}

-- ---- labels

arm_held : (bs : Branches) (codes : Codes) (R : Scope) (l : Name) → IsTrue (has_branch bs l) → HasArm l (tree_branches bs codes R)
arm_held no_branches codes R l h = let n : ⊥ = cc in absurd n
arm_held (otherwise c) codes R l h = tt
arm_held (branch m p b bs) codes R l h = here (same_name l m.text) refl h (arm_held bs codes R l)
  where
    here : (t : Bool) → t ≡ same_name l m.text → IsTrue (t || has_branch bs l) → (IsTrue (has_branch bs l) → HasArm l (tree_branches bs codes R)) → HasArm l (tree_branches (branch m p b bs) codes R)
    here true is k next = inl (same_text l m.text is)
    here false is k next = inr (next k)

-- ---- steps

module _ (S : SourceTypes) (G : List Ground) where
  two_typed : (s u : Ground) (a b : Tree) → CoreTypes S G a s → CoreTypes S G b u → core.AllTypes S G (translation.pair a b) (s ∷ u ∷ [])
  two_typed s u a b h k = (s, u ∷ [], refl, h, (u, [], refl, k, refl))

  operated_typed : (c : Op) (s u t : Ground) (a b : Tree) → OpTypes c s u t → CoreTypes S G a s → CoreTypes S G b u → CoreTypes S G (operated_tree c a b) t
  operated_typed op.And s u t a b h p q = (subst (CoreTypes S G a) h.0 p, subst (CoreTypes S G b) (h.1 ∙ sym h.2) q, subst (CoreTypes S G (term.Const (value.Bool false))) (sym h.2) (tt, truth_typed false))
  operated_typed op.Or s u t a b h p q = (subst (CoreTypes S G a) h.0 p, subst (CoreTypes S G (term.Const (value.Bool true))) (sym h.2) (tt, truth_typed true), subst (CoreTypes S G b) (h.1 ∙ sym h.2) q)
  operated_typed op.Append s u t a b h p q = (h.0, h.1, h.4 ∙ h.2, subst (CoreTypes S G a) (sym h.4) p, subst (CoreTypes S G b) (h.3 ∙ sym h.4) q)
  operated_typed op.Eq s u t a b h p q = (s ∷ u ∷ [], two_typed s u a b p q, h)
  operated_typed op.Ne s u t a b h p q = (s ∷ u ∷ [], two_typed s u a b p q, h)
  operated_typed op.Lt s u t a b h p q = (s ∷ u ∷ [], two_typed s u a b p q, h)
  operated_typed op.Le s u t a b h p q = (s ∷ u ∷ [], two_typed s u a b p q, h)
  operated_typed op.Gt s u t a b h p q = (s ∷ u ∷ [], two_typed s u a b p q, h)
  operated_typed op.Ge s u t a b h p q = (s ∷ u ∷ [], two_typed s u a b p q, h)
  operated_typed op.Add s u t a b h p q = (s ∷ u ∷ [], two_typed s u a b p q, h)
  operated_typed op.Sub s u t a b h p q = (s ∷ u ∷ [], two_typed s u a b p q, h)
  operated_typed op.Mul s u t a b h p q = (s ∷ u ∷ [], two_typed s u a b p q, h)
  operated_typed op.Cat s u t a b h p q = (s ∷ u ∷ [], two_typed s u a b p q, h)

  path_typed : (ls : List Word) (s t : Ground) (a : Tree) → PathTypes ls s t → CoreTypes S G a s → CoreTypes S G (projected ls a) t
  path_typed [] s t a h k = subst (CoreTypes S G a) h k
  path_typed (l ∷ ls) s t a h k = path_typed ls h.1 t (term.Proj l.text a) h.4 (h.0, subst (CoreTypes S G a) h.2 k, h.3)

  call_typed : (k : Sort) (c : Code) (ss : List Ground) (t : Ground) (ts : Trees) → Agrees S k c → core.AllTypes S G ts ss → CallTypes k ss t → CoreTypes S G (called_tree c ts) t
  call_typed (function_of P) (function_by u) ss t (trees a no_trees) g h k =
      let lists : h.0 ∷ h.1 ≡ k.0 ∷ [] = sym h.2 ∙ k.1 in
      let same : k.0 ≡ h.0 = cc in
      (h.0, h.3, g h.0 t G (subst (λ s. P s t) same k.2))
  call_typed (function_of P) (function_by u) ss t no_trees g h k = let lists : [] ≡ k.0 ∷ [] = sym h ∙ k.1 in let n : ⊥ = cc in absurd n
  call_typed (function_of P) (function_by u) ss t (trees a (trees b ts)) g h k =
      let lists : h.0 ∷ h.1 ≡ k.0 ∷ [] = sym h.2 ∙ k.1 in
      let rest : h.1 ≡ h.4.0 ∷ h.4.1 = h.4.2 in
      let n : ⊥ = cc in absurd n
  call_typed (function_of P) translation.nothing ss t ts g h k = absurd g
  call_typed (function_of P) (value_by u) ss t ts g h k = absurd g
  call_typed (function_of P) (primitive_by d) ss t ts g h k = absurd g
  call_typed (primitive d) (primitive_by c) ss t ts g h k = (ss, h, subst (λ n. CallTypes (primitive n) ss t) g k)
  call_typed (primitive d) translation.nothing ss t ts g h k = absurd g
  call_typed (primitive d) (value_by u) ss t ts g h k = absurd g
  call_typed (primitive d) (function_by u) ss t ts g h k = absurd g
  call_typed nothing c ss t ts g h k = absurd k
  call_typed (value_of P) c ss t ts g h k = absurd k

-- ---- expressions

row_good : (t : Ground) (r : Row) → t ≡ rec r → IsGround t → IsRow r
row_good t r e h = subst IsGround e h

module _ (S : SourceTypes) (known : KnownTypes) (codes : Codes) (rest : List Ground) (agree : AllAgree S known codes) (ground : (x : Name) → IsGroundSort (known x)) where
  record_typed : (fs : Flds) (G : List Ground) (R : Scope) (r : Row) → IsRow r → AreTidyFields fs → ((l : Name) → IsSome (at l r) → IsTrue (has_field fs l))
      → AllByRecursion (IsFieldOf (CoreTypes S G) r) (tree_fields fs codes R) → CoreTypes S G (term.Rec (term.parts_of (in_order (tree_fields fs codes R)))) (rec r)
  record_typed fs G R r good d has each = (
    r,
    refl,
    labels_rise r good,
    parts_typed S G r _ good (in_order_rises _ (fields_apart (λ e. tree e codes R) (λ fs. tree_fields fs codes R) refl (λ l e fs. refl) fs d))
        (in_order_all (IsFieldOf (CoreTypes S G) r) _ each)
        (λ l there. in_order_found l _ (has_fields (λ e. tree e codes R) (λ fs. tree_fields fs codes R) refl (λ l e fs. refl) fs l (has l there))),
  )

  mutual
    pub tree_typed : (e : Exp) (P : Standing Ground) (t : Ground) → AllGround P → IsTidy e → Types e known (names P) t → CoreTypes S (values P ++ rest) (tree e codes (scope P)) t
    tree_typed (Const v) P t i d h = h
    tree_typed (name x) P t i d h = name_typed S known codes rest agree P P x.text t i (grows_none P) h
    tree_typed (Call f es) P t i d h = call_typed S _ (known f.text) (codes f.text) h.0 t _ (agree f.text) (all_typed es P h.0 i d h.1) h.2
    tree_typed (Rec fs) P t i d h =
        subst (CoreTypes S (values P ++ rest) (tree (Rec fs) codes (scope P))) (sym h.1)
        (record_typed fs (values P ++ rest) (scope P) h.0 (row_good t h.0 h.1 h.2) d h.3 (fields_typed fs P h.0 i d h.4))
    tree_typed (More fs a) P t i d h =
        let good = row_good t h.0 h.2 h.3 in
        let part = written known (names P) h.0 fs in
        let each = fields_typed fs P part i d.0 (written_types known (names P) h.0 fs h.5) in
        let first = record_typed fs (values P ++ rest) (scope P) part (drops_row (λ l. not (has_field fs l)) h.0 good) d.0 (written_named known (names P) h.0 fs) each in (
          rec part ∷ rec h.1 ∷ [],
          (rec part, rec h.1 ∷ [], refl, first, (rec h.1, [], refl, tree_typed a P (rec h.1) i d.1 h.6, refl)),
          extend_types part h.1 h.0 t h.2 (divided (has_field fs) h.0 h.1 good h.4),
        )
    tree_typed (Inj l a) P t i d h = (h.0, h.1, h.2, h.3, h.4, tree_typed a P h.1 i d h.5)
    tree_typed (Coll k es) P t i d h = (h.0, h.1, h.2, each_typed es P h.0 i d h.3)
    tree_typed (Comp k e qs) P t i d h =
        let item = types_ground known ground e h.1 h.0 (quals_ground known ground qs (names P) h.1 (names_ground P i) h.3) h.4 in
        subst (CoreTypes S (values P ++ rest) (tree (Comp k e qs) codes (scope P))) (sym h.2)
        (quals_typed qs k (λ R. term.Make k (trees (tree e codes R) no_trees)) P h.1 h.0 item i d.0 h.3
        (λ Q q n. (h.0, refl, item, (tree_typed e Q h.0 q d.1 (subst (λ G. Types e known G h.0) (sym n) h.4), tt))))
    tree_typed (If a b c) P t i d h = (tree_typed a P bool i d.0 h.0, tree_typed b P t i d.1 h.1, tree_typed c P t i d.2 h.2)
    tree_typed (Let p a b) P t i d h =
        let first = tree_typed a P h.0 i d.1 h.2 in (
          h.0,
          first,
          here_typed S known codes rest agree p P h.0 t no_sense h.1 (λ R. tree b codes R) (inl d.0) d.3 h.3 (types_proper S _ _ h.0 first) i (λ Q q n. tree_typed b Q t q d.2 (subst (λ G. Types b known G t) (sym n) h.4)),
        )
    tree_typed (Case a bs) P t i d h =
        let subject = tree_typed a P _ i d.0 h.1 in
        (h.0, subject, λ l there. arm_held bs codes (scope P) l (h.2 l there), branches_typed bs P h.0 t i (types_proper S _ _ (variant_type h.0) subject).1 d.1 h.3)
    tree_typed (Path a ls) P t i d h = path_typed S _ ls h.0 t _ h.2 (tree_typed a P h.0 i d h.1)
    tree_typed (Not a) P t i d h = (h.0 ∷ [], (h.0, [], refl, tree_typed a P h.0 i d h.1, refl), h.2)
    tree_typed (Neg a) P t i d h = (h.0 ∷ [], (h.0, [], refl, tree_typed a P h.0 i d h.1, refl), h.2)
    tree_typed (Chain a ss) P t i d h = steps_typed ss _ P h.0 t i d.1 h.2 (tree_typed a P h.0 i d.0 h.1)

    all_typed : (es : Exps) (P : Standing Ground) (ss : List Ground) → AllGround P → AreTidy es → AllTypes es known (names P) ss → core.AllTypes S (values P ++ rest) (tree_all es codes (scope P)) ss
    all_typed no_exps P ss i d h = h
    all_typed (exps e es) P ss i d h = (h.0, h.1, h.2, tree_typed e P h.0 i d.0 h.3, all_typed es P h.1 i d.1 h.4)

    each_typed : (es : Exps) (P : Standing Ground) (s : Ground) → AllGround P → AreTidy es → EachType es known (names P) s → core.EachType S (values P ++ rest) (tree_all es codes (scope P)) s
    each_typed no_exps P s i d h = tt
    each_typed (exps e es) P s i d h = (tree_typed e P s i d.0 h.0, each_typed es P s i d.1 h.1)

    fields_typed : (fs : Flds) (P : Standing Ground) (r : Row) → AllGround P → AreTidyFields fs → FieldTypes fs known (names P) r → AllByRecursion (IsFieldOf (CoreTypes S (values P ++ rest)) r) (tree_fields fs codes (scope P))
    fields_typed no_flds P r i d h = tt
    fields_typed (flds l e fs) P r i d h = ((h.0, h.1, tree_typed e P h.0 i d.1 h.2), fields_typed fs P r i d.2 h.3)

    quals_typed : (qs : Quals) (k : Kind) (A : Scope → Tree) (P : Standing Ground) (H : Context) (s : Ground) → IsGround s → AllGround P → AreTidyQuals qs → QualTypes qs known (names P) H
        → ((Q : Standing Ground) → AllGround Q → names Q ≡ H → CoreTypes S (values Q ++ rest) (A (scope Q)) (colls k s))
        → CoreTypes S (values P ++ rest) (tree_quals qs k A codes (scope P)) (colls k s)
    quals_typed no_quals k A P H s g i d h go = go P i (sym h)
    quals_typed (draw p e qs) k A P H s g i d h go =
        let drawn = tree_typed e P _ i d.0 h.3 in (
          s,
          h.0,
          h.1,
          refl,
          drawn,
          here_typed S known codes rest agree p P h.1 (colls k s) (empty k) h.2 (λ R. tree_quals qs k A codes R) (inr (λ G. (s, refl, g, tt))) d.2 h.4 (types_proper S _ _ (colls h.0 h.1) drawn) i
              (λ Q q n. quals_typed qs k A Q H s g q d.1 (subst (λ M. QualTypes qs known M H) (sym n) h.5) go),
        )
    quals_typed (test c qs) k A P H s g i d h go = (tree_typed c P bool i d.0 h.0, quals_typed qs k A P H s g i d.1 h.1 go, (s, refl, g, tt))

    branches_typed : (bs : Branches) (P : Standing Ground) (r : Row) (t : Ground) → AllGround P → IsRow r → AreTidyBranches bs → BranchTypes bs known (names P) r t → ArmTypes S (values P ++ rest) (tree_branches bs codes (scope P)) r t
    branches_typed no_branches P r t i g d h = tt
    branches_typed (otherwise c) P r t i g d h = tree_typed c P t i d h
    branches_typed (branch l p b bs) P r t i g d h = (
      h.0,
      h.2,
      here_typed S known codes rest agree p P h.0 t no_sense h.1 (λ R. tree b codes R) (inl d.0) d.3 h.3 (at_ground l.text r h.0 g h.2) i (λ Q q n. tree_typed b Q t q d.1 (subst (λ G. Types b known G t) (sym n) h.4)),
      branches_typed bs P r t i g d.2 h.5,
    )

    steps_typed : (ss : Steps) (a : Tree) (P : Standing Ground) (s t : Ground) → AllGround P → AreTidySteps ss → StepTypes ss known (names P) s t → CoreTypes S (values P ++ rest) a s → CoreTypes S (values P ++ rest) (tree_steps ss a codes (scope P)) t
    steps_typed no_steps a P s t i d h k = subst (CoreTypes S (values P ++ rest) a) h k
    steps_typed (step c e ss) a P s t i d h k =
        steps_typed ss (operated_tree c a (tree e codes (scope P))) P h.1 t i d.1 h.4 (operated_typed S _ c s h.0 h.1 a _ h.3 k (tree_typed e P h.0 i d.0 h.2))

-- ---- programs

first_agrees : (S : SourceTypes) (v : Option Ground) (n c : Option ℕ) → ((t : Ground) → v ≡ Some t → IsGround t) → SourceAt S v n → Agrees S (sort_at v c) (code_at n c)
first_agrees S (Some s) (Some n) c g h = λ t G e. (h ∙ ap Some e, g t (ap Some e))
first_agrees S (Some s) None c g h = absurd h
first_agrees S None (Some n) c g h = absurd h
first_agrees S None None (Some c) g h = refl
first_agrees S None None None g h = tt

all_first : (ss : List (Name × Ground)) → AreGround ss → AllAgree (types_of ss) (types_at_first ss) (codes_first (map (λ s. s.0) ss))
all_first ss g x =
    first_agrees _ _ _ (code_named x) (λ t e. field_ground x ss t g e) (source_at x ss (types_of ss) 0 (λ j. let e : 0 + j ≡ j = omega arith in ap (types_of ss) e))

with_agrees : (S : SourceTypes) (b : Bool) (k j : Sort) (c d : Code) → Agrees S k c → Agrees S j d → Agrees S (sort_if b k j) (cond b c d)
with_agrees S true k j c d h g = h
with_agrees S false k j c d h g = g

program_typed : (S : SourceTypes) (ds : Decls) (e : Exp) (known : KnownTypes) (codes : Codes) (t : Ground) → IsTidyProgram ds e → AllAgree S known codes → ((x : Name) → IsGroundSort (known x)) → Types e (types_after ds known) [] t → CoreTypes S [] (tree e (codes_after ds codes) []) t
program_typed S no_decls e known codes t d g i h = tree_typed S known codes [] g i e [] t tt d h
program_typed S (constant x a ds) e known codes t d g i h =
    program_typed S ds e _ _ t d.1
    (λ y. with_agrees S (same_name y x.text) (value_of (Types a known [])) (known y) (value_by (tree a codes [])) (codes y) (λ s G k. tree_typed S known codes G g i a [] s tt d.0 k) (g y))
    (constant_ground x.text a known i) h
program_typed S (function x p a ds) e known codes t d g i h =
    program_typed S ds e _ _ t d.2
    (λ y. with_agrees S (same_name y x.text) (function_of (FunctionTypes known p a)) (known y) (function_by (function_tree p a codes)) (codes y)
    (λ s u G k. here_typed S known codes G g p [] s u no_sense k.1 (λ R. tree a codes R) (inl d.0) d.3 k.2 k.0 tt (λ Q q n. tree_typed S known codes G g i a Q u q d.1 (subst (λ M. Types a known M u) (sym n) k.3)))
    (g y))
    (function_ground x.text p a known i) h

pub makes_sense : (ds : Decls) (e : Exp) (ss : List (Name × Ground)) (t : Ground) → AreGround ss → IsTidyProgram ds e → ProgramTypes ds e ss t → CoreTypes (types_of ss) [] (term_of ds e (map (λ s. s.0) ss)) t
makes_sense ds e ss t g d h = program_typed (types_of ss) ds e _ _ t d (all_first ss g) (first_known ss g) h

pub sense_by : (ds : Decls) (e : Exp) (names : List Name) (t : Tree) → t ≡ term_of ds e names → HasSense ds e names t
sense_by ds e names t is sources s same g d h = subst (λ u. CoreTypes (types_of sources) [] u s) (sym (is ∙ ap (term_of ds e) (sym same))) (makes_sense ds e sources s g d h)
