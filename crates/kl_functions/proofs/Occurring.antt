-- The places where names stand, a form of expressions each.
use Rattle.std.proofs.Common.{◌≡◌, ◌==◌, Bool, true, false, length, arith, None, List, [], ◌∷◌, ◌++◌, map, Option, Result, Ok, Err, IfOk, refl, ap, ◌∙◌, append_assoc}
use Rattle.std.specs.Option.{option_map}
use Rattle.std.proofs.lemmas.Bool.{eqb-true}
use Rattle.kl_value.specs.declared.Kind.{Kind}
use Rattle.kl_outcome.specs.Outcome.{Name}
use Rattle.kl_syntax.specs.declared.tree.Branch.{Branch}
use Rattle.kl_syntax.specs.declared.tree.Expr.{Expr}
use Rattle.kl_syntax.specs.declared.tree.Expr.TheVariants as expr
use Rattle.kl_syntax.specs.declared.tree.Op.{Op}
use Rattle.kl_syntax.specs.declared.tree.Pattern.{Pattern}
use Rattle.kl_syntax.specs.declared.tree.Pattern.TheVariants as code
use Rattle.kl_syntax.specs.declared.tree.Qual.{Qual}
use Rattle.kl_syntax.specs.declared.tree.Tail.{Tail}
use Rattle.kl_syntax.specs.declared.tree.Word.{Word}
use Rattle.kl_syntax.specs.Syntax.{Branches}
use Rattle.kl_syntax.specs.View.{view, exps_view, fields_view, quals_view, branches_of, branch_view, rest_of, steps_view, pattern_view, patterns_view}
use Rattle.kl_syntax.proofs.Views.{pattern_Rec, view_Call, view_Rec, view_More, view_Comp, view_If, view_Let, view_Case, view_Chain}
use Rattle.kl_functions.specs.declared.occurrences.Occurrence.{Occurrence}
use Rattle.kl_functions.specs.declared.occurrences.Referent.{Referent}
use Rattle.kl_functions.specs.declared.occurrences.Occurrence.TheVariants.{Head}
use Rattle.kl_ho.specs.Functions.{behind_quals}
use Rattle.kl_functions.specs.Occurrences.{Roles, OnOk, referent, argument_at, is_one, pattern_occurrences, patterns_occurrences, occurrences, occurrences_all, occurrences_fields, occurrences_quals, occurrences_branches, occurrences_steps, occurrences_bound}

pub one_is : (es : List Expr) → (length es == 1) ≡ is_one (exps_view es)
one_is [] = refl
one_is (x ∷ []) = refl
one_is (x ∷ y ∷ es) = by_length (length (x ∷ y ∷ es) == 1) refl
  where
    by_length : (b : Bool) → (length (x ∷ y ∷ es) == 1) ≡ b → b ≡ false
    by_length true e = let n : length (x ∷ y ∷ es) ≡ 1 = eqb-true (length (x ∷ y ∷ es)) 1 e in absurd (omega arith)
    by_length false e = refl

pub argument_none : (g : Roles) (H : List Name) (es : List Expr) → (length es ≡ 1 → ⊥) → ◌≡◌ {A = Option (List (Name × Option Referent))} None (argument_at g (exps_view es) H)
argument_none g H [] n = refl
argument_none g H (x ∷ []) n = absurd (n refl)
argument_none g H (x ∷ y ∷ es) n = refl

joined : (old now new xs ys : List Occurrence) → now ≡ old ++ xs → new ≡ now ++ ys → new ≡ old ++ (xs ++ ys)
joined old now new xs ys p q = q ∙ ap (λ z. z ++ ys) p ∙ append_assoc old xs ys

module _ (g : Roles) (H : List Name) where
  pub shape_found : {X : Type 0} (r : Result (Unit {0}) X) (p : Pattern) (ps zs : List (Word × Pattern)) (end : Tail) (old new : List Occurrence) → p ≡ code.Rec ps end → zs ≡ ps
      → IfOk r (λ _. new ≡ old ++ patterns_occurrences g (patterns_view zs) H) → IfOk r (λ _. new ≡ old ++ pattern_occurrences g (pattern_view p) H)
  shape_found (Ok x) p ps zs end old new i j h = h ∙ ap (λ z. old ++ z) (rw (j, i, pattern_Rec) refl)
  shape_found (Err x) p ps zs end old new i j h = tt

  pub rec_found : {X : Type 0} (r : Result (Unit {0}) X) (e : Expr) (fs zs : List (Word × Expr)) (given : Bool) (old new : List Occurrence) → e ≡ expr.Rec fs → zs ≡ fs
      → IfOk r (λ _. new ≡ old ++ occurrences_fields g (fields_view zs) given H) → IfOk r (λ _. new ≡ old ++ occurrences g (view e) given H)
  rec_found (Ok x) e fs zs given old new i j h = h ∙ ap (λ z. old ++ z) (rw (j, i, view_Rec) refl)
  rec_found (Err x) e fs zs given old new i j h = tt

  pub call_found : (e : Expr) (f : Word) (es ys zs : List Expr) (given : Bool) (old now new : List Occurrence) → e ≡ expr.Call f es → ys ≡ es → zs ≡ es
      → now ≡ old ++ Head (referent g H f.text) (argument_at g (exps_view ys) H) ∷ [] → new ≡ now ++ occurrences_all g (exps_view zs) (is_one (exps_view zs)) H → new ≡ old ++ occurrences g (view e) given H
  call_found e f es ys zs given old now new i j k h l = joined old now new _ _ h l ∙ ap (λ z. old ++ z) (rw (i, view_Call, j, k) refl)

  pub more_found : (e a b : Expr) (fs zs : List (Word × Expr)) (given : Bool) (old now new : List Occurrence) → e ≡ expr.More fs a → zs ≡ fs → b ≡ a
      → now ≡ old ++ occurrences_fields g (fields_view zs) false H → new ≡ now ++ occurrences g (view b) false H → new ≡ old ++ occurrences g (view e) given H
  more_found e a b fs zs given old now new i j k h l = joined old now new _ _ h l ∙ ap (λ z. old ++ z) (rw (i, view_More, j, k) refl)

  pub comp_found : (e : Expr) (k : Kind) (a b : Expr) (qs rs : List Qual) (given : Bool) (names : List Name) (old now new : List Occurrence) → e ≡ expr.Comp k a qs → b ≡ a → rs ≡ qs
      → names ≡ behind_quals (quals_view rs) H → now ≡ old ++ occurrences_quals g (quals_view rs) H → new ≡ now ++ occurrences g (view b) false names → new ≡ old ++ occurrences g (view e) given H
  comp_found e k a b qs rs given names old now new i j l n h m = joined old now new _ _ h m ∙ ap (λ z. old ++ z) (rw (i, view_Comp, n, j, l) refl)

  pub comp_ok : {V : Type 0} {X : Type 0} (names : V → List Name) (q : Result V X) (r : Result (Unit {0}) X) (e : Expr) (k : Kind) (a b : Expr) (qs rs : List Qual) (given : Bool) (old now new : List Occurrence)
      → e ≡ expr.Comp k a qs → b ≡ a → rs ≡ qs → IfOk q (λ v. names v ≡ behind_quals (quals_view rs) H) → IfOk q (λ _. now ≡ old ++ occurrences_quals g (quals_view rs) H)
      → IfOk r (λ _. OnOk q (λ v. new ≡ now ++ occurrences g (view b) false (names v))) → IfOk r (λ _. new ≡ old ++ occurrences g (view e) given H)
  comp_ok names (Ok v) (Ok x) e k a b qs rs given old now new i j l n h m = comp_found e k a b qs rs given (names v) old now new i j l n h m
  comp_ok names (Err z) (Ok x) e k a b qs rs given old now new i j l n h m = absurd m
  comp_ok names q (Err z) e k a b qs rs given old now new i j l n h m = tt

  pub if_found : (e a b c x y z : Expr) (given : Bool) (old u v new : List Occurrence) → e ≡ expr.If a b c → x ≡ a → y ≡ b → z ≡ c
      → u ≡ old ++ occurrences g (view x) false H → v ≡ u ++ occurrences g (view y) false H → new ≡ v ++ occurrences g (view z) false H → new ≡ old ++ occurrences g (view e) given H
  if_found e a b c x y z given old u v new i j k l h m n =
      joined old u new (occurrences g (view x) false H) (occurrences g (view y) false H ++ occurrences g (view z) false H) h (joined u v new (occurrences g (view y) false H) (occurrences g (view z) false H) m n)
      ∙ ap (λ w. old ++ w) (rw (i, view_If, j, k, l) refl)

  pub let_found : (e : Expr) (p : Pattern) (a b x y : Expr) (given : Bool) (old now new : List Occurrence) → e ≡ expr.Let p a b → x ≡ a → y ≡ b
      → now ≡ old ++ occurrences g (view x) false H → new ≡ now ++ occurrences_bound g (pattern_view p) (view y) H → new ≡ old ++ occurrences g (view e) given H
  let_found e p a b x y given old now new i j k h l = joined old now new _ _ h l ∙ ap (λ z. old ++ z) (rw (i, view_Let, j, k) refl)

  pub case_found : (e a x : Expr) (bs zs : List Branch) (c : Option Expr) (given : Bool) (old u v new : List Occurrence) → e ≡ expr.Case a bs c → x ≡ a → zs ≡ bs
      → u ≡ old ++ occurrences g (view x) false H
      → ((rest : Branches) → v ++ occurrences_branches g rest H ≡ u ++ occurrences_branches g (branches_of (map branch_view zs) rest) H)
      → new ≡ v ++ occurrences_branches g (rest_of (option_map view c)) H → new ≡ old ++ occurrences g (view e) given H
  case_found e a x bs zs c given old u v new i j k h l m =
      joined old u new (occurrences g (view x) false H) (occurrences_branches g (branches_of (map branch_view zs) (rest_of (option_map view c))) H) h (m ∙ l (rest_of (option_map view c)))
      ∙ ap (λ w. old ++ w) (rw (i, view_Case, j, k) refl)

  pub chain_found : (e a x : Expr) (ss zs : List (Op × Expr)) (given : Bool) (old now new : List Occurrence) → e ≡ expr.Chain a ss → x ≡ a → zs ≡ ss
      → now ≡ old ++ occurrences g (view x) false H → new ≡ now ++ occurrences_steps g (steps_view zs) H → new ≡ old ++ occurrences g (view e) given H
  chain_found e a x ss zs given old now new i j k h l = joined old now new _ _ h l ∙ ap (λ z. old ++ z) (rw (i, view_Chain, j, k) refl)
