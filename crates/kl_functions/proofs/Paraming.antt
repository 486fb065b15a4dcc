-- The copy of a body depends on which names are function parameters, and not on their order.
use Rattle.std.proofs.Common.{◌≡◌, Bool, ◌||◌, List, [], ◌∷◌, Option, Some, None, refl, sym, ap, ◌∙◌}
use Rattle.std.specs.List.{list_any}
use Rattle.std.specs.Ordering.{is_gt}
use Rattle.std.proofs.Math.Bool.{or_assoc, or_comm}
use Rattle.std.proofs.lemmas.Bool.{cond_both}
use mathlib.Core.Path.{ap₂}
use Rattle.kl_base.specs.Sorted.{put_in}
use Rattle.kl_prim.specs.Records.{by_label, in_order}
use Rattle.kl_outcome.specs.Outcome.{Name}
use Rattle.kl_syntax.specs.declared.tree.Tail.TheVariants as tail
use Rattle.kl_syntax.specs.Syntax.{Pat, catch, any, same, is, shape, variant, Pats, no_pats, pats, Exp, Const, name, Call, Rec}
use Rattle.kl_syntax.specs.Syntax.{More, Inj, Coll, Comp, If, Let, Case, Path, Not, Neg, Chain, Exps, no_exps, exps, Flds}
use Rattle.kl_syntax.specs.Syntax.{no_flds, flds, Quals, no_quals, draw, test, Branches, no_branches, otherwise, branch, Steps}
use Rattle.kl_syntax.specs.Syntax.{no_steps, step}
use Rattle.kl_meaning.specs.Match.{same_name}
use Rattle.kl_ho.specs.HoPrograms.{FunctionFields, is_among, handed_in, rest_in, higher_from}
use Rattle.kl_ho.specs.Plain.{is_parameter, takes_function, is_bare_function, plainly, plainly_handed, plainly_all, plainly_fields}
use Rattle.kl_ho.specs.Plain.{plainly_quals, plainly_branches, plainly_steps, body_plainly}
use Rattle.kl_ho.specs.Shapes.{names_after, names_after_all, behind_shaped}
use Rattle.kl_functions.specs.Occurrences.{seconds_of}
use Rattle.kl_functions.specs.Plainly.{parameter_names, other_names, function_body}

module _ (F : FunctionFields) (I : Name → Bool) (P Q : List Name) (h : (x : Name) → is_among x P ≡ is_among x Q) where
  same_parameter : (V : List Name) (f : Name) → is_parameter P V f ≡ is_parameter Q V f
  same_parameter V f = rw (h f) refl

  same_takes : (o : Option Name) (l : Name) → takes_function F P o l ≡ takes_function F Q o l
  same_takes (Some f) l = rw (h f) refl
  same_takes None l = refl

  same_bare : (e : Exp) (V : List Name) → is_bare_function I P e V ≡ is_bare_function I Q e V
  same_bare (name x) V = rw (h x.text) refl
  same_bare e V = refl

  mutual
    pub same_copy : (e : Exp) (o : Option Name) (V : List Name) → plainly F I P e o V ≡ plainly F I Q e o V
    same_copy (Const v) o V = refl
    same_copy (name x) o V = refl
    same_copy (Call f es) o V = rw (same_parameter V f.text, same_handed es f.text V) refl
    same_copy (Rec fs) o V = ap Rec (same_fields fs o V)
    same_copy (More fs a) o V = ap₂ (λ u v. More u v) (same_fields fs None V) (same_copy a None V)
    same_copy (Inj l a) o V = ap (λ u. Inj l u) (same_copy a None V)
    same_copy (Coll k es) o V = ap (λ u. Coll k u) (same_all es V)
    same_copy (Comp k e qs) o V = ap₂ (λ u v. Comp k u v) (same_copy e None (behind_shaped qs V)) (same_quals qs V)
    same_copy (If a b c) o V = rw (same_copy a None V, same_copy b None V, same_copy c None V) refl
    same_copy (Let p a b) o V = ap₂ (λ u v. Let p u v) (same_copy a None V) (same_copy b None (names_after p V))
    same_copy (Case a bs) o V = ap₂ (λ u v. Case u v) (same_copy a None V) (same_branches bs V)
    same_copy (Path a ls) o V = ap (λ u. Path u ls) (same_copy a None V)
    same_copy (Not a) o V = ap Not (same_copy a None V)
    same_copy (Neg a) o V = ap Neg (same_copy a None V)
    same_copy (Chain a ss) o V = ap₂ (λ u v. Chain u v) (same_copy a None V) (same_steps ss V)

    same_handed : (es : Exps) (f : Name) (V : List Name) → plainly_handed F I P es f V ≡ plainly_handed F I Q es f V
    same_handed no_exps f V = refl
    same_handed (exps e no_exps) f V = ap (λ u. exps u no_exps) (same_copy e (Some f) V)
    same_handed (exps e (exps x es)) f V = rw (same_copy e None V, same_copy x None V, same_all es V) refl

    same_all : (es : Exps) (V : List Name) → plainly_all F I P es V ≡ plainly_all F I Q es V
    same_all no_exps V = refl
    same_all (exps e es) V = ap₂ (λ u v. exps u v) (same_copy e None V) (same_all es V)

    same_fields : (fs : Flds) (o : Option Name) (V : List Name) → plainly_fields F I P fs o V ≡ plainly_fields F I Q fs o V
    same_fields no_flds o V = refl
    same_fields (flds l e fs) o V = rw (same_bare e V, same_takes o l.text, same_copy e None V, same_fields fs o V) refl

    same_quals : (qs : Quals) (V : List Name) → plainly_quals F I P qs V ≡ plainly_quals F I Q qs V
    same_quals no_quals V = refl
    same_quals (draw p e qs) V = ap₂ (λ u v. draw p u v) (same_copy e None V) (same_quals qs (names_after p V))
    same_quals (test e qs) V = ap₂ (λ u v. test u v) (same_copy e None V) (same_quals qs V)

    same_branches : (bs : Branches) (V : List Name) → plainly_branches F I P bs V ≡ plainly_branches F I Q bs V
    same_branches no_branches V = refl
    same_branches (otherwise e) V = ap otherwise (same_copy e None V)
    same_branches (branch l p e bs) V = ap₂ (λ u v. branch l p u v) (same_copy e None (names_after p V)) (same_branches bs V)

    same_steps : (ss : Steps) (V : List Name) → plainly_steps F I P ss V ≡ plainly_steps F I Q ss V
    same_steps no_steps V = refl
    same_steps (step c e ss) V = ap₂ (λ u v. step c u v) (same_copy e None V) (same_steps ss V)

-- ---- the body of a definition

-- the order of labels leaves each that is there
put_any : (t : Name → Bool) (k : Name × Name) (ks : List (Name × Name)) → list_any t (seconds_of (put_in by_label k ks)) ≡ (t k.1 || list_any t (seconds_of ks))
put_any t k [] = refl
put_any t k (j ∷ ks) =
    cond_both (is_gt (by_label k j)) (j ∷ put_in by_label k ks) (k ∷ j ∷ ks) (λ z. list_any t (seconds_of z) ≡ (t k.1 || (t j.1 || list_any t (seconds_of ks))))
    (λ i. ap (λ b. t j.1 || b) (put_any t k ks) ∙ sym (or_assoc (t j.1) (t k.1) (list_any t (seconds_of ks)))
    ∙ ap (λ b. b || list_any t (seconds_of ks)) (or_comm (t j.1) (t k.1)) ∙ or_assoc (t k.1) (t j.1) (list_any t (seconds_of ks))) (λ i. refl)

ordered_any : (t : Name → Bool) (ks : List (Name × Name)) → list_any t (seconds_of ks) ≡ list_any t (seconds_of (in_order ks))
ordered_any t [] = refl
ordered_any t (k ∷ ks) = ap (λ b. t k.1 || b) (ordered_any t ks) ∙ sym (put_any t k (in_order ks))

none_handed : (ps : Pats) → handed_in [] ps ≡ []
none_handed no_pats = refl
none_handed (pats l p ps) = none_handed ps

all_left : (ps : Pats) → rest_in [] ps ≡ ps
all_left no_pats = refl
all_left (pats l p ps) = ap (λ qs. pats l p qs) (all_left ps)

body_for : (F : FunctionFields) (I : Name → Bool) (ls : List Name) (p : Pat) (e : Exp) → plainly F I (parameter_names ls p) e None (other_names ls p) ≡ body_plainly F I (higher_from ls p e) p e
body_for F I [] (shape ps tail.Exact) e = ap₂ (λ u v. plainly F I (seconds_of u) e None (names_after_all v [])) (none_handed ps) (all_left ps)
body_for F I [] (shape ps tail.Open) e = refl
body_for F I [] (shape ps (tail.Rest x)) e = refl
body_for F I [] (catch x) e = refl
body_for F I [] any e = refl
body_for F I [] (same x) e = refl
body_for F I [] (is v n) e = refl
body_for F I [] (variant k p) e = refl
body_for F I (l ∷ ls) (shape ps tail.Exact) e =
    same_copy F I (seconds_of (handed_in (l ∷ ls) ps)) (seconds_of (in_order (handed_in (l ∷ ls) ps))) (λ x. ordered_any (λ y. same_name x y) (handed_in (l ∷ ls) ps)) e None (names_after_all (rest_in (l ∷ ls) ps) [])
body_for F I (l ∷ ls) (shape ps tail.Open) e = refl
body_for F I (l ∷ ls) (shape ps (tail.Rest x)) e = refl
body_for F I (l ∷ ls) (catch x) e = refl
body_for F I (l ∷ ls) any e = refl
body_for F I (l ∷ ls) (same x) e = refl
body_for F I (l ∷ ls) (is v n) e = refl
body_for F I (l ∷ ls) (variant k p) e = refl

pub body_made : (F : FunctionFields) (I : Name → Bool) (d : Name) (p : Pat) (e x : Exp) (ls ps vs : List Name) → ls ≡ F d → ps ≡ parameter_names ls p → vs ≡ other_names ls p → x ≡ plainly F I ps e None vs
    → x ≡ function_body F I d p e
body_made F I d p e x ls ps vs i j k h = h ∙ ap₂ (λ u v. plainly F I u e None v) j k ∙ ap (λ u. plainly F I (parameter_names u p) e None (other_names u p)) i ∙ body_for F I (F d) p e
