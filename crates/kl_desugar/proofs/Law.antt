-- The term means what the program means.
use Rattle.std.proofs.Common.{◌≡◌, ◌≢◌, inr, ℕ, suc, ◌+◌, Bool, true, false, cond, List, [], ◌∷◌, ◌++◌, map, Option, Some, None, slice_get, refl, sym, ap, ◌∙◌, arith}
use Rattle.kl_base.specs.Fields.{field}
use Rattle.kl_value.specs.declared.Kind.{Kind}
use Rattle.kl_value.specs.declared.Value.{Value}
use Rattle.kl_value.specs.declared.Value.TheVariants as value
use Rattle.kl_prim.specs.Table.{meaning}
use Rattle.kl_value.specs.Views.{as_bool}
use Rattle.kl_prim.specs.Records.{in_order}
use Rattle.kl_outcome.specs.Outcome.{Outcome, done, over, stuck, Flow, stop, fine, Name, answered, if_then, chosen, applied, recorded, outcome_of, as_record, as_variant, field_in, part, collected, item_then}
use Rattle.kl_outcome.proofs.Refining.{Refines, refines_same, refines_is, after_up, if_up, opened_up, RefinesAll, args_up, Pairs, parts_up, FlowUp, item_up, collected_up, union_up}
use Rattle.kl_syntax.specs.declared.tree.Op.{Op}
use Rattle.kl_syntax.specs.declared.tree.Word.{Word}
use Rattle.kl_syntax.specs.declared.tree.Op.TheVariants as op
use Rattle.kl_syntax.specs.Syntax.{Exp, Const, name, Call, Rec, More, Inj, Coll, Comp, If, Let, Case, Path, Not, Neg, Chain, Exps, no_exps, exps, Flds, no_flds, flds, Quals, no_quals, draw, test, Branches, no_branches, otherwise, branch, Steps, no_steps, step, Decls, no_decls, constant, function}
use Rattle.kl_meaning.specs.Match.{Env, same_name, fits}
use Rattle.kl_meaning.specs.Run.{Meant, nothing, value_of, function_of, primitive, KnownOutcomes, look_up, called, operated, parts_of, flow_if, draw_if, run, run_all, run_items, run_fields, run_quals, run_branches, run_steps, code_named, meant_at, at_first, known_after, meaning_of_program}
use Rattle.kl_core.specs.Core.{Tables, core, core_all, core_items, core_parts, core_arms}
use Rattle.kl_core.specs.Trees as term
use Rattle.kl_core.specs.Trees.{Tree, Trees, no_trees, trees}
use Rattle.kl_desugar.specs.Translation.{Scope, Code, value_by, function_by, primitive_by, Codes, empty, called_tree, operated_tree, projected, matched_here, tree, tree_all, tree_fields, tree_quals, tree_branches, tree_steps, no_sense, number_of, code_by, code_at, codes_first, with_code, codes_after, function_tree, term_of, tables_of, Means}
use Rattle.kl_desugar.specs.Translation as translation
use Rattle.kl_desugar.proofs.Positions.{Held, scope, values, names, grows_none}
use Rattle.kl_desugar.proofs.Ordered.{order_up}
use Rattle.kl_outcome.proofs.Drawing.{kept_none}
use Rattle.kl_desugar.proofs.Drawing.{draw_from_up}
use Rattle.kl_desugar.proofs.Matching.{must_is, if_is, Meets, AllMeet, name_up, here_up}

either : (b : Bool) (o q o' q' : Outcome) → Refines o o' → Refines q q' → Refines (cond b o q) (cond b o' q')
either true o q o' q' h k = h
either false o q o' q' h k = k

-- a call of what a name means
call_up : (T : Tables) (m : Meant) (c : Code) (os : List Outcome) (ts : Trees) (env : List Value) → Meets T m c → RefinesAll os (core_all T ts env) → Refines (called m os) (core T (called_tree c ts) env)
call_up T nothing c os ts env h r = tt
call_up T (value_of o) c os ts env h r = tt
call_up T (function_of f) (function_by t) (o ∷ []) (trees a no_trees) env h r = after_up o (core T a env) _ _ r.0 (λ v. h v env)
call_up T (function_of f) (function_by t) (o ∷ []) (trees a (trees b ts)) env h r = absurd r.1
call_up T (function_of f) (function_by t) (o ∷ []) no_trees env h r = absurd r
call_up T (function_of f) (function_by t) [] ts env h r = tt
call_up T (function_of f) (function_by t) (o ∷ q ∷ os) ts env h r = tt
call_up T (function_of f) translation.nothing os ts env h r = absurd h
call_up T (function_of f) (value_by t) os ts env h r = absurd h
call_up T (function_of f) (primitive_by d) os ts env h r = absurd h
call_up T (primitive d) (primitive_by c) os ts env h r = rw h (args_up os (core_all T ts env) _ r)
call_up T (primitive d) translation.nothing os ts env h r = absurd h
call_up T (primitive d) (value_by t) os ts env h r = absurd h
call_up T (primitive d) (function_by t) os ts env h r = absurd h

-- a step of a chain
two_up : (c : ℕ) (o q o' q' : Outcome) → Refines o o' → Refines q q' → Refines (applied c (o ∷ q ∷ [])) (applied c (o' ∷ q' ∷ []))
two_up c o q o' q' h k = args_up (o ∷ q ∷ []) (o' ∷ q' ∷ []) (λ vs. answered (meaning c vs)) (h, (k, tt))

one_up : (c : ℕ) (o q : Outcome) → Refines o q → Refines (applied c (o ∷ [])) (applied c (q ∷ []))
one_up c o q h = args_up (o ∷ []) (q ∷ []) (λ vs. answered (meaning c vs)) (h, tt)

operated_up : (T : Tables) (c : Op) (o q : Outcome) (a b : Tree) (env : List Value) → Refines o (core T a env) → Refines q (core T b env) → Refines (operated c o q) (core T (operated_tree c a b) env)
operated_up T op.And o q a b env h k = if_up _ _ _ _ _ _ h k refl
operated_up T op.Or o q a b env h k = if_up _ _ _ _ _ _ h refl k
operated_up T op.Append o q a b env h k = union_up _ _ _ _ h k
operated_up T op.Eq o q a b env h k = two_up 1 _ _ _ _ h k
operated_up T op.Ne o q a b env h k = two_up 2 _ _ _ _ h k
operated_up T op.Lt o q a b env h k = two_up 3 _ _ _ _ h k
operated_up T op.Le o q a b env h k = two_up 4 _ _ _ _ h k
operated_up T op.Gt o q a b env h k = two_up 5 _ _ _ _ h k
operated_up T op.Ge o q a b env h k = two_up 6 _ _ _ _ h k
operated_up T op.Add o q a b env h k = two_up 7 _ _ _ _ h k
operated_up T op.Sub o q a b env h k = two_up 8 _ _ _ _ h k
operated_up T op.Mul o q a b env h k = two_up 9 _ _ _ _ h k
operated_up T op.Cat o q a b env h k = two_up 12 _ _ _ _ h k

-- fields one after the other
path_up : (T : Tables) (ls : List Word) (o : Outcome) (t : Tree) (env : List Value) → Refines o (core T t env) → Refines (parts_of ls o) (core T (projected ls t) env)
path_up T [] o t env h = h
path_up T (l ∷ ls) o t env h = path_up T ls (part l.text o) (term.Proj l.text t) env (after_up o (core T t env) _ _ h (λ v. refines_same (field_in l.text (as_record v))))

-- a test before what is drawn
test_up : (k : Kind) (c c' q : Outcome) (f : Flow) → Refines c c' → Refines (collected k f) q → Refines (collected k (draw_if c f)) (if_then c' q (collected k (stop fine)))
test_up k (done v) c' q f h r = rw h (tested (as_bool v))
  where
    tested : (b : Option Bool) → Refines (collected k (flow_if b f)) (chosen b q (collected k (stop fine)))
    tested (Some true) = r
    tested (Some false) = refl
    tested None = tt
test_up k (over vs) c' q f h r = rw (h, kept_none k) refl
test_up k stuck c' q f h r = tt

parts_are : (T : Tables) (os : List (Name × Outcome)) (ts : List (Name × Tree)) (env : List Value) → Pairs (λ o t. Refines o (core T t env)) os ts → Pairs Refines os (core_parts T (term.parts_of ts) env)
parts_are T [] [] env h = tt
parts_are T [] (t ∷ ts) env h = absurd h
parts_are T (o ∷ os) [] env h = absurd h
parts_are T (o ∷ os) (t ∷ ts) env (e, h, k) = (e, h, parts_are T os ts env k)

record_up : (T : Tables) (os : List (Name × Outcome)) (ts : List (Name × Tree)) (env : List Value) → Pairs (λ o t. Refines o (core T t env)) os ts
    → Refines (recorded (in_order os)) (core T (term.Rec (term.parts_of (in_order ts))) env)
record_up T os ts env h = parts_up _ _ _ (parts_are T _ _ env (order_up (λ o t. Refines o (core T t env)) os ts h))

module _ (T : Tables) (known : KnownOutcomes) (codes : Codes) (rest : List Value) (meets : AllMeet T known codes) where
  mutual
    pub tree_up : (e : Exp) (P : Held) → Refines (run e known (names P)) (core T (tree e codes (scope P)) (values P ++ rest))
    tree_up (Const v) P = refl
    tree_up (name x) P = name_up T known codes rest meets P P x.text (grows_none P)
    tree_up (Call f es) P = call_up T (known f.text) (codes f.text) _ _ _ (meets f.text) (all_up es P)
    tree_up (Rec fs) P = record_up T _ _ _ (fields_up fs P)
    tree_up (More fs a) P = two_up 27 _ _ _ _ (record_up T _ _ _ (fields_up fs P)) (tree_up a P)
    tree_up (Inj l a) P = after_up (run a known (names P)) _ _ _ (tree_up a P) (λ v. refines_same (done (value.Inj l.text v)))
    tree_up (Coll k es) P = collected_up k _ _ (items_up es P)
    tree_up (Comp k e qs) P =
        quals_up qs k (λ inner. item_then (run e known inner) (stop fine)) (λ R. term.Make k (trees (tree e codes R) no_trees)) P
        (λ Q. collected_up k _ _ (item_up (run e known (names Q)) _ (stop fine) (stop fine) (tree_up e Q) (inr refl)))
    tree_up (If a b c) P = if_up _ _ _ _ _ _ (tree_up a P) (tree_up b P) (tree_up c P)
    tree_up (Let p a b) P =
        after_up (run a known (names P)) _ _ _ (tree_up a P)
        (λ v. rw (must_is (fits p (look_up known (names P)) v (names P)) (λ inner. run b known inner))
        (here_up T known codes rest meets p P v stuck no_sense (λ inner. run b known inner) (λ R. tree b codes R) (λ env. tt) (λ Q. tree_up b Q)))
    tree_up (Case a bs) P =
        after_up (run a known (names P)) _ _ _ (tree_up a P) (λ v. opened_up (as_variant v) _ _ (λ l w. branches_up bs l w P))
    tree_up (Path a ls) P = path_up T ls _ _ _ (tree_up a P)
    tree_up (Not a) P = one_up 11 _ _ (tree_up a P)
    tree_up (Neg a) P = one_up 10 _ _ (tree_up a P)
    tree_up (Chain a ss) P = steps_up ss _ _ P (tree_up a P)

    all_up : (es : Exps) (P : Held) → RefinesAll (run_all es known (names P)) (core_all T (tree_all es codes (scope P)) (values P ++ rest))
    all_up no_exps P = tt
    all_up (exps e es) P = (tree_up e P, all_up es P)

    items_up : (es : Exps) (P : Held) → FlowUp (run_items es known (names P)) (core_items T (tree_all es codes (scope P)) (values P ++ rest))
    items_up no_exps P = inr refl
    items_up (exps e es) P = item_up (run e known (names P)) _ _ _ (tree_up e P) (items_up es P)

    fields_up : (fs : Flds) (P : Held) → Pairs (λ o t. Refines o (core T t (values P ++ rest))) (run_fields fs known (names P)) (tree_fields fs codes (scope P))
    fields_up no_flds P = tt
    fields_up (flds l e fs) P = (refl, tree_up e P, fields_up fs P)

    quals_up : (qs : Quals) (k : Kind) (go : Env → Flow) (A : Scope → Tree) (P : Held)
        → ((Q : Held) → Refines (collected k (go (names Q))) (core T (A (scope Q)) (values Q ++ rest)))
        → Refines (collected k (run_quals qs go known (names P))) (core T (tree_quals qs k A codes (scope P)) (values P ++ rest))
    quals_up no_quals k go A P h = h P
    quals_up (draw p s qs) k go A P h =
        draw_from_up k (run s known (names P)) _ _ _ (tree_up s P)
        (λ v. rw (if_is k (fits p (look_up known (names P)) v (names P)) (λ inner. run_quals qs go known inner))
        (here_up T known codes rest meets p P v (collected k (stop fine)) (empty k) (λ inner. collected k (run_quals qs go known inner)) (λ R. tree_quals qs k A codes R)
        (λ env. refines_same (collected k (stop fine))) (λ Q. quals_up qs k go A Q h)))
    quals_up (test c qs) k go A P h = test_up k (run c known (names P)) _ _ _ (tree_up c P) (quals_up qs k go A P h)

    branches_up : (bs : Branches) (l : Name) (v : Value) (P : Held) → Refines (run_branches bs l v known (names P)) (core_arms T (tree_branches bs codes (scope P)) l v (values P ++ rest))
    branches_up no_branches l v P = tt
    branches_up (otherwise c) l v P = tree_up c P
    branches_up (branch m p b bs) l v P =
        rw (must_is (fits p (look_up known (names P)) v (names P)) (λ inner. run b known inner))
        (either (same_name l m.text) _ _ _ _
        (here_up T known codes rest meets p P v stuck no_sense (λ inner. run b known inner) (λ R. tree b codes R) (λ env. tt) (λ Q. tree_up b Q))
        (branches_up bs l v P))

    steps_up : (ss : Steps) (o : Outcome) (t : Tree) (P : Held) → Refines o (core T t (values P ++ rest)) → Refines (run_steps ss o known (names P)) (core T (tree_steps ss t codes (scope P)) (values P ++ rest))
    steps_up no_steps o t P h = h
    steps_up (step c e ss) o t P h = steps_up ss _ _ P (operated_up T c o (run e known (names P)) t (tree e codes (scope P)) _ h (tree_up e P))

-- what a source has stands at its number
module _ {V : Type 0} where
  abbrev pub SourceAt : (ℕ → Option V) → Option V → Option ℕ → Type 0
  SourceAt T (Some v) (Some n) = T n ≡ Some v
  SourceAt T None None = Unit {0}
  SourceAt T _ _ = ⊥

  source_found : (T : ℕ → Option V) (b : Bool) (u : V) (i : ℕ) (v : Option V) (n : Option ℕ) → T i ≡ Some u → SourceAt T v n → SourceAt T (cond b (Some u) v) (cond b (Some i) n)
  source_found T true u i v n h k = h
  source_found T false u i v n h k = k

  pub source_at : (x : Name) (ss : List (Name × V)) (T : ℕ → Option V) (i : ℕ) → ((j : ℕ) → T (i + j) ≡ slice_get (map (λ s. s.1) ss) j) → SourceAt T (field x ss) (number_of x (map (λ s. s.0) ss) i)
  source_at x [] T i h = tt
  source_at x (s ∷ ss) T i h =
      let e : i ≡ i + 0 = omega arith in
      source_found T (same_name x s.0) s.1 i _ _ (ap T e ∙ h 0)
      (source_at x ss T (suc i) (λ j. let d : suc i + j ≡ i + suc j = omega arith in ap T d ∙ h (suc j)))

first_meets : (T : Tables) (v : Option Value) (n c : Option ℕ) → SourceAt T v n → Meets T (meant_at v c) (code_at n c)
first_meets T (Some v) (Some n) c h = λ env. ap outcome_of h
first_meets T (Some v) None c h = absurd h
first_meets T None (Some n) c h = absurd h
first_meets T None None (Some c) h = refl
first_meets T None None None h = tt

all_first : (ss : List (Name × Value)) → AllMeet (tables_of ss) (at_first ss) (codes_first (map (λ s. s.0) ss))
all_first ss x = first_meets _ _ _ (code_named x) (source_at x ss (tables_of ss) 0 (λ j. let e : 0 + j ≡ j = omega arith in ap (tables_of ss) e))

with_meets : (T : Tables) (b : Bool) (m n : Meant) (c d : Code) → Meets T m c → Meets T n d → Meets T (cond b m n) (cond b c d)
with_meets T true m n c d h k = h
with_meets T false m n c d h k = k

after_meets : (T : Tables) (ds : Decls) (known : KnownOutcomes) (codes : Codes) → AllMeet T known codes → AllMeet T (known_after ds known) (codes_after ds codes)
after_meets T no_decls known codes h = h
after_meets T (constant d e ds) known codes h =
    after_meets T ds _ _ (λ x. with_meets T (same_name x d.text) (value_of (run e known [])) (known x) (value_by (tree e codes [])) (codes x) (λ env. tree_up T known codes env h e []) (h x))
after_meets T (function d p e ds) known codes h =
    after_meets T ds _ _ (λ x. with_meets T (same_name x d.text) (function_of _) (known x) (function_by (function_tree p e codes)) (codes x)
    (λ v env. rw (must_is (fits p (look_up known []) v []) (λ inner. run e known inner)) (here_up T known codes env h p [] v stuck no_sense (λ inner. run e known inner) (λ R. tree e codes R) (λ ρ. tt) (λ Q. tree_up T known codes env h e Q)))
    (h x))

pub term_means : (ds : Decls) (e : Exp) (ss : List (Name × Value)) → meaning_of_program ds e ss ≢ stuck → core (tables_of ss) (term_of ds e (map (λ s. s.0) ss)) [] ≡ meaning_of_program ds e ss
term_means ds e ss n =
    let T = tables_of ss in
    refines_is (meaning_of_program ds e ss) _ (tree_up T _ _ [] (after_meets T ds _ _ (all_first ss)) e []) n

pub means : (ds : Decls) (e : Exp) (names : List Name) → Means ds e names (term_of ds e names)
means ds e names ss is n = rw (sym is) (term_means ds e ss n)

pub means_by : (ds : Decls) (e : Exp) (names : List Name) (t : Tree) → t ≡ term_of ds e names → Means ds e names t
means_by ds e names t is = rw is (means ds e names)
