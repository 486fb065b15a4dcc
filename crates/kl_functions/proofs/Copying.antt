-- The copy of an expression without its functions, a form each.
use Rattle.std.proofs.Common.{◌≡◌, ℕ, ◌+◌, ◌<◌, ◌≤◌, Bool, ◌&&◌, cond, List, [], ◌∷◌, ◌++◌, map, drop, length, get_or, Option, Some, None, Result, Ok, Err, IfOk, refl, sym, ap, ◌∙◌, subst, arith}
use Rattle.std.specs.Option.{option_map}
use Rattle.std.proofs.lemmas.List.{drop_all}
use mathlib.Core.Path.{ap₂}
use Rattle.kl_base.proofs.Places.{drop_at}
use Rattle.kl_value.specs.declared.Kind.{Kind}
use Rattle.kl_value.specs.declared.Value.{Value}
use Rattle.kl_outcome.specs.Outcome.{Name}
use Rattle.kl_syntax.specs.declared.tree.Branch.{Branch}
use Rattle.kl_syntax.specs.declared.tree.Expr.{Expr}
use Rattle.kl_syntax.specs.declared.tree.Expr.TheVariants as expr
use Rattle.kl_syntax.specs.declared.tree.Op.{Op}
use Rattle.kl_syntax.specs.declared.tree.Pattern.{Pattern}
use Rattle.kl_syntax.specs.declared.tree.Qual.{Qual}
use Rattle.kl_syntax.specs.declared.tree.Word.{Word}
use Rattle.kl_syntax.specs.Syntax.{Exp, Const, name, Call, Rec, More, Inj, Coll, Comp, If, Let, Case, Path, Not, Neg, Chain, no_exps, exps, no_flds, flds, Quals, no_quals, Branches, no_steps, step}
use Rattle.kl_syntax.specs.View.{view, exps_view, fields_view, quals_view, qual_view, steps_view, branch_view, branches_of, branches_view, rest_of, pattern_view}
use Rattle.kl_syntax.proofs.Views.{view_Const, view_Name, view_Call, view_Rec, view_More, view_Inj, view_Coll, view_Comp, view_If, view_Let, view_Case, view_Path, view_Not, view_Neg, view_Chain}
use Rattle.kl_scope.specs.Walks.{onto, expr_front, field_front, step_front}
use Rattle.kl_ho.proofs.Loops.{onto_push}
use Rattle.kl_ho.specs.HoPrograms.{FunctionFields}
use Rattle.kl_ho.specs.Plain.{nothing, is_parameter, takes_function, is_bare_function, called_parameter, plainly, plainly_handed, plainly_all, plainly_fields, plainly_quals, plainly_branches, plainly_steps}
use Rattle.kl_ho.specs.Shapes.{names_after, behind_shaped}
use Rattle.kl_functions.specs.Occurrences.{OnOk}

-- ---- what comes of parts

one_made : {A B X : Type 0} (H : A → Type 0) (K : A → B → Type 0) (G : B → Type 0) → ((y : A) (x : B) → H y → K y x → G x) → (ra : Result A X) (r : Result B X) → IfOk ra H → IfOk r (λ x. OnOk ra (λ y. K y x)) → IfOk r G
one_made H K G f (Ok y) (Ok x) h k = f y x h k
one_made H K G f (Err z) (Ok x) h k = absurd k
one_made H K G f ra (Err z) h k = tt

two_made : {A B C X : Type 0} (H : A → Type 0) (J : B → Type 0) (K : A → B → C → Type 0) (G : C → Type 0) → ((y : A) (z : B) (x : C) → H y → J z → K y z x → G x) → (ra : Result A X) (rb : Result B X) (r : Result C X)
    → IfOk ra H → IfOk rb J → IfOk r (λ x. OnOk ra (λ y. OnOk rb (λ z. K y z x))) → IfOk r G
two_made H J K G f (Ok y) (Ok z) (Ok x) h j k = f y z x h j k
two_made H J K G f (Ok y) (Err z) (Ok x) h j k = absurd k
two_made H J K G f (Err z) rb (Ok x) h j k = absurd k
two_made H J K G f ra rb (Err z) h j k = tt

three_made : {A B C D X : Type 0} (H : A → Type 0) (J : B → Type 0) (L : C → Type 0) (K : A → B → C → D → Type 0) (G : D → Type 0) → ((y : A) (z : B) (w : C) (x : D) → H y → J z → L w → K y z w x → G x)
    → (ra : Result A X) (rb : Result B X) (rc : Result C X) (r : Result D X) → IfOk ra H → IfOk rb J → IfOk rc L → IfOk r (λ x. OnOk ra (λ y. OnOk rb (λ z. OnOk rc (λ w. K y z w x)))) → IfOk r G
three_made H J L K G f (Ok y) (Ok z) (Ok w) (Ok x) h j l k = f y z w x h j l k
three_made H J L K G f (Ok y) (Ok z) (Err w) (Ok x) h j l k = absurd k
three_made H J L K G f (Ok y) (Err z) rc (Ok x) h j l k = absurd k
three_made H J L K G f (Err z) rb rc (Ok x) h j l k = absurd k
three_made H J L K G f ra rb rc (Err z) h j l k = tt

-- ---- a call of a function parameter

pub many_called : (f : Word) (es now : List Expr) (c : Expr) → (length es ≡ 1 → ⊥) → view c ≡ nothing → now ≡ c ∷ es → view (expr.Call f now) ≡ called_parameter f (exps_view es)
many_called f [] now c n h i = ap (λ z. view (expr.Call f z)) i ∙ view_Call f (c ∷ []) ∙ ap (λ z. Call f (exps z no_exps)) h
many_called f (x ∷ []) now c n h i = absurd (n refl)
many_called f (x ∷ y ∷ es) now c n h i = ap (λ z. view (expr.Call f z)) i ∙ view_Call f (c ∷ x ∷ y ∷ es) ∙ ap (λ z. Call f (exps z (exps_view (x ∷ y ∷ es)))) h

-- ---- lists that are made one by one

-- one more is made of what is left
pub made_next : {A T : Type 0} (front : A → T → T) (made now : List A) (x : A) (left rest all : T) → now ≡ made ++ x ∷ [] → left ≡ front x rest → onto front made left ≡ all → onto front now rest ≡ all
made_next front made now x left rest all n e h = ap (λ zs. onto front zs rest) n ∙ onto_push front made x rest ∙ ap (λ z. onto front made z) (sym e) ∙ h

exps_seen : (es : List Expr) → exps_view es ≡ onto expr_front es no_exps
exps_seen [] = refl
exps_seen (e ∷ es) = ap (λ z. exps (view e) z) (exps_seen es)

fields_seen : (fs : List (Word × Expr)) → fields_view fs ≡ onto field_front fs no_flds
fields_seen [] = refl
fields_seen (f ∷ fs) = ap (λ z. flds f.0 (view f.1) z) (fields_seen fs)

quals_seen : (qs : List Qual) → quals_view qs ≡ onto qual_view qs no_quals
quals_seen [] = refl
quals_seen (q ∷ qs) = ap (λ z. qual_view q z) (quals_seen qs)

steps_seen : (ss : List (Op × Expr)) → steps_view ss ≡ onto step_front ss no_steps
steps_seen [] = refl
steps_seen (s ∷ ss) = ap (λ z. step s.0 (view s.1) z) (steps_seen ss)

branches_seen : (bs : List Branch) (rest : Branches) → branches_of (map branch_view bs) rest ≡ onto branch_view bs rest
branches_seen [] rest = refl
branches_seen (b ∷ bs) rest = ap (λ z. branch_view b z) (branches_seen bs rest)

module _ (F : FunctionFields) (I : Name → Bool) (P : List Name) where
  abbrev copy : Exp → List Name → Exp
  copy e V = plainly F I P e None V

  module _ (V : List Name) where
    pub items_next : (es : List Expr) (i : ℕ) (e x : Expr) (made now : List Expr) → i < length es → e ≡ get_or es i e → now ≡ made ++ x ∷ [] → view x ≡ copy (view e) V
        → onto expr_front made (plainly_all F I P (exps_view (drop i es)) V) ≡ plainly_all F I P (exps_view es) V → onto expr_front now (plainly_all F I P (exps_view (drop (i + 1) es)) V) ≡ plainly_all F I P (exps_view es) V
    items_next es i e x made now lt at n c h =
        made_next expr_front made now x (plainly_all F I P (exps_view (drop i es)) V) (plainly_all F I P (exps_view (drop (i + 1) es)) V) (plainly_all F I P (exps_view es) V) n
        (ap (λ zs. plainly_all F I P (exps_view zs) V) (drop_at es i e lt at) ∙ ap (λ z. exps z (plainly_all F I P (exps_view (drop (i + 1) es)) V)) (sym c)) h

    pub items_done : (es made all : List Expr) (i : ℕ) → length es ≤ i → all ≡ made → onto expr_front made (plainly_all F I P (exps_view (drop i es)) V) ≡ plainly_all F I P (exps_view es) V
        → exps_view all ≡ plainly_all F I P (exps_view es) V
    items_done es made all i le e h = ap exps_view e ∙ exps_seen made ∙ sym (ap (λ zs. onto expr_front made (plainly_all F I P (exps_view zs) V)) (drop_all i es le)) ∙ h

    pub steps_next : (ss : List (Op × Expr)) (i : ℕ) (s : Op × Expr) (x : Expr) (made now : List (Op × Expr)) → i < length ss → s ≡ get_or ss i s → now ≡ made ++ (s.0, x) ∷ [] → view x ≡ copy (view s.1) V
        → onto step_front made (plainly_steps F I P (steps_view (drop i ss)) V) ≡ plainly_steps F I P (steps_view ss) V
        → onto step_front now (plainly_steps F I P (steps_view (drop (i + 1) ss)) V) ≡ plainly_steps F I P (steps_view ss) V
    steps_next ss i s x made now lt at n c h =
        made_next step_front made now (s.0, x) (plainly_steps F I P (steps_view (drop i ss)) V) (plainly_steps F I P (steps_view (drop (i + 1) ss)) V) (plainly_steps F I P (steps_view ss) V) n
        (ap (λ zs. plainly_steps F I P (steps_view zs) V) (drop_at ss i s lt at) ∙ ap (λ z. step s.0 z (plainly_steps F I P (steps_view (drop (i + 1) ss)) V)) (sym c)) h

    pub steps_done : (ss made all : List (Op × Expr)) (i : ℕ) → length ss ≤ i → all ≡ made → onto step_front made (plainly_steps F I P (steps_view (drop i ss)) V) ≡ plainly_steps F I P (steps_view ss) V
        → steps_view all ≡ plainly_steps F I P (steps_view ss) V
    steps_done ss made all i le e h = ap steps_view e ∙ steps_seen made ∙ sym (ap (λ zs. onto step_front made (plainly_steps F I P (steps_view zs) V)) (drop_all i ss le)) ∙ h

    -- whether a function is handed over in a field
    abbrev field_copy : Option Name → Word → Exp → Exp
    field_copy o l e = cond (is_bare_function I P e V && takes_function F P o l.text) nothing (copy e V)

    pub fields_next : (o : Option Name) (fs : List (Word × Expr)) (i : ℕ) (f : Word × Expr) (l : Word) (x : Expr) (made now : List (Word × Expr)) → i < length fs → f ≡ get_or fs i f → now ≡ made ++ (l, x) ∷ [] → l ≡ f.0
        → view x ≡ field_copy o f.0 (view f.1) → onto field_front made (plainly_fields F I P (fields_view (drop i fs)) o V) ≡ plainly_fields F I P (fields_view fs) o V
        → onto field_front now (plainly_fields F I P (fields_view (drop (i + 1) fs)) o V) ≡ plainly_fields F I P (fields_view fs) o V
    fields_next o fs i f l x made now lt at n k c h =
        made_next field_front made now (l, x) (plainly_fields F I P (fields_view (drop i fs)) o V) (plainly_fields F I P (fields_view (drop (i + 1) fs)) o V) (plainly_fields F I P (fields_view fs) o V) n
        (ap (λ zs. plainly_fields F I P (fields_view zs) o V) (drop_at fs i f lt at) ∙ ap₂ (λ m z. flds m z (plainly_fields F I P (fields_view (drop (i + 1) fs)) o V)) (sym k) (sym c)) h

    pub fields_done : (o : Option Name) (fs made all : List (Word × Expr)) (i : ℕ) → length fs ≤ i → all ≡ made → onto field_front made (plainly_fields F I P (fields_view (drop i fs)) o V) ≡ plainly_fields F I P (fields_view fs) o V
        → fields_view all ≡ plainly_fields F I P (fields_view fs) o V
    fields_done o fs made all i le e h = ap fields_view e ∙ fields_seen made ∙ sym (ap (λ zs. onto field_front made (plainly_fields F I P (fields_view zs) o V)) (drop_all i fs le)) ∙ h

    pub branches_next : (bs : List Branch) (i : ℕ) (b x : Branch) (made now : List Branch) → i < length bs → b ≡ get_or bs i b → now ≡ made ++ x ∷ []
        → ((rest : Branches) → branch_view x (plainly_branches F I P rest V) ≡ plainly_branches F I P (branch_view b rest) V)
        → ((rest : Branches) → onto branch_view made (plainly_branches F I P (onto branch_view (drop i bs) rest) V) ≡ plainly_branches F I P (onto branch_view bs rest) V)
        → (rest : Branches) → onto branch_view now (plainly_branches F I P (onto branch_view (drop (i + 1) bs) rest) V) ≡ plainly_branches F I P (onto branch_view bs rest) V
    branches_next bs i b x made now lt at n c h = λ rest.
        made_next branch_view made now x (plainly_branches F I P (onto branch_view (drop i bs) rest) V) (plainly_branches F I P (onto branch_view (drop (i + 1) bs) rest) V) (plainly_branches F I P (onto branch_view bs rest) V) n
        (ap (λ zs. plainly_branches F I P (onto branch_view zs rest) V) (drop_at bs i b lt at) ∙ sym (c (onto branch_view (drop (i + 1) bs) rest))) (h rest)

    pub branches_done : (bs made all : List Branch) (i : ℕ) → length bs ≤ i → all ≡ made
        → ((rest : Branches) → onto branch_view made (plainly_branches F I P (onto branch_view (drop i bs) rest) V) ≡ plainly_branches F I P (onto branch_view bs rest) V)
        → (rest : Branches) → onto branch_view all (plainly_branches F I P rest V) ≡ plainly_branches F I P (onto branch_view bs rest) V
    branches_done bs made all i le e h = λ rest.
        ap (λ zs. onto branch_view zs (plainly_branches F I P rest V)) e ∙ sym (ap (λ zs. onto branch_view made (plainly_branches F I P (onto branch_view zs rest) V)) (drop_all i bs le)) ∙ h rest

    -- ---- forms

    module _ (e : Expr) (o : Option Name) where
      abbrev Copied : Expr → Type 0
      Copied x = view x ≡ plainly F I P (view e) o V

      seen : (t : Exp) (x : Expr) → view e ≡ t → view x ≡ plainly F I P t o V → Copied x
      seen t x i h = h ∙ sym (ap (λ z. plainly F I P z o V) i)

      pub const_copied : (v w : Value) → e ≡ expr.Const v → w ≡ v → Copied (expr.Const w)
      const_copied v w i j = seen (Const v) (expr.Const w) (ap view i ∙ view_Const v) (ap (λ z. view (expr.Const z)) j ∙ view_Const v)

      pub name_copied : {X : Type 0} (r : Result Expr X) (w : Word) → e ≡ expr.Name w → IfOk r (λ x. x ≡ expr.Name w) → IfOk r Copied
      name_copied (Ok x) w i k = seen (name w) x (ap view i ∙ view_Name w) (ap view k ∙ view_Name w)
      name_copied (Err x) w i k = tt

      pub rec_copied : {X : Type 0} (ra : Result (List (Word × Expr)) X) (r : Result Expr X) (fs zs : List (Word × Expr)) → e ≡ expr.Rec fs → zs ≡ fs
          → IfOk ra (λ y. fields_view y ≡ plainly_fields F I P (fields_view zs) o V) → IfOk r (λ x. OnOk ra (λ y. x ≡ expr.Rec y)) → IfOk r Copied
      rec_copied ra r fs zs i j h k =
          one_made (λ y. fields_view y ≡ plainly_fields F I P (fields_view zs) o V) (λ y x. x ≡ expr.Rec y) Copied
          (λ y x h k. seen (Rec (fields_view fs)) x (ap view i ∙ view_Rec fs) (ap view k ∙ view_Rec y ∙ ap Rec (h ∙ ap (λ z. plainly_fields F I P (fields_view z) o V) j))) ra r h k

      pub more_copied : {X : Type 0} (ra : Result (List (Word × Expr)) X) (rb r : Result Expr X) (fs zs : List (Word × Expr)) (a : Expr) → e ≡ expr.More fs a → zs ≡ fs
          → IfOk ra (λ y. fields_view y ≡ plainly_fields F I P (fields_view zs) None V) → IfOk rb (λ y. view y ≡ copy (view a) V) → IfOk r (λ x. OnOk ra (λ y. OnOk rb (λ z. x ≡ expr.More y z))) → IfOk r Copied
      more_copied ra rb r fs zs a i j h m k =
          two_made (λ y. fields_view y ≡ plainly_fields F I P (fields_view zs) None V) (λ y. view y ≡ copy (view a) V) (λ y z x. x ≡ expr.More y z) Copied
          (λ y z x h m k. seen (More (fields_view fs) (view a)) x (ap view i ∙ view_More fs a)
          (ap view k ∙ view_More y z ∙ ap₂ (λ u v. More u v) (h ∙ ap (λ w. plainly_fields F I P (fields_view w) None V) j) m)) ra rb r h m k

      pub inj_copied : {X : Type 0} (ra r : Result Expr X) (l : Word) (a : Expr) → e ≡ expr.Inj l a → IfOk ra (λ y. view y ≡ copy (view a) V) → IfOk r (λ x. OnOk ra (λ y. x ≡ expr.Inj l y)) → IfOk r Copied
      inj_copied ra r l a i h k =
          one_made (λ y. view y ≡ copy (view a) V) (λ y x. x ≡ expr.Inj l y) Copied (λ y x h k. seen (Inj l (view a)) x (ap view i ∙ view_Inj l a) (ap view k ∙ view_Inj l y ∙ ap (λ z. Inj l z) h)) ra r h k

      pub coll_copied : {X : Type 0} (ra : Result (List Expr) X) (r : Result Expr X) (c : Kind) (es zs : List Expr) → e ≡ expr.Coll c es → zs ≡ es → IfOk ra (λ y. exps_view y ≡ plainly_all F I P (exps_view zs) V)
          → IfOk r (λ x. OnOk ra (λ y. x ≡ expr.Coll c y)) → IfOk r Copied
      coll_copied ra r c es zs i j h k =
          one_made (λ y. exps_view y ≡ plainly_all F I P (exps_view zs) V) (λ y x. x ≡ expr.Coll c y) Copied
          (λ y x h k. seen (Coll c (exps_view es)) x (ap view i ∙ view_Coll c es) (ap view k ∙ view_Coll c y ∙ ap (λ z. Coll c z) (h ∙ ap (λ z. plainly_all F I P (exps_view z) V) j))) ra r h k

      pub if_copied : {X : Type 0} (ra rb rc r : Result Expr X) (a b c : Expr) → e ≡ expr.If a b c → IfOk ra (λ y. view y ≡ copy (view a) V) → IfOk rb (λ y. view y ≡ copy (view b) V) → IfOk rc (λ y. view y ≡ copy (view c) V)
          → IfOk r (λ x. OnOk ra (λ y. OnOk rb (λ z. OnOk rc (λ w. x ≡ expr.If y z w)))) → IfOk r Copied
      if_copied ra rb rc r a b c i h m n k =
          three_made (λ y. view y ≡ copy (view a) V) (λ y. view y ≡ copy (view b) V) (λ y. view y ≡ copy (view c) V) (λ y z w x. x ≡ expr.If y z w) Copied
          (λ y z w x h m n k. seen (If (view a) (view b) (view c)) x (ap view i ∙ view_If a b c)
          (ap view k ∙ view_If y z w ∙ ap₂ (λ u v. If u v (view w)) h m ∙ ap (λ u. If (copy (view a) V) (copy (view b) V) u) n)) ra rb rc r h m n k

      pub let_copied : {X : Type 0} (ra rb r : Result Expr X) (p : Pattern) (a b z0 : Expr) → e ≡ expr.Let p a b → z0 ≡ b → IfOk ra (λ y. view y ≡ copy (view a) V)
          → IfOk rb (λ y. view y ≡ copy (view z0) (names_after (pattern_view p) V)) → IfOk r (λ x. OnOk ra (λ y. OnOk rb (λ z. x ≡ expr.Let p y z))) → IfOk r Copied
      let_copied ra rb r p a b z0 i j h m k =
          two_made (λ y. view y ≡ copy (view a) V) (λ y. view y ≡ copy (view z0) (names_after (pattern_view p) V)) (λ y z x. x ≡ expr.Let p y z) Copied
          (λ y z x h m k. seen (Let (pattern_view p) (view a) (view b)) x (ap view i ∙ view_Let p a b)
          (ap view k ∙ view_Let p y z ∙ ap₂ (λ u v. Let (pattern_view p) u v) h (m ∙ ap (λ w. copy (view w) (names_after (pattern_view p) V)) j))) ra rb r h m k

      pub case_copied : {X : Type 0} (ra : Result Expr X) (rb : Result (List Branch) X) (rc : Result (Option Expr) X) (r : Result Expr X) (a : Expr) (bs zs : List Branch) (c : Option Expr) → e ≡ expr.Case a bs c → zs ≡ bs
          → IfOk ra (λ y. view y ≡ copy (view a) V) → IfOk rb (λ y. (rest : Branches) → onto branch_view y (plainly_branches F I P rest V) ≡ plainly_branches F I P (onto branch_view zs rest) V)
          → IfOk rc (λ y. rest_of (option_map view y) ≡ plainly_branches F I P (rest_of (option_map view c)) V) → IfOk r (λ x. OnOk ra (λ y. OnOk rb (λ z. OnOk rc (λ w. x ≡ expr.Case y z w)))) → IfOk r Copied
      case_copied ra rb rc r a bs zs c i j h m n k =
          three_made (λ y. view y ≡ copy (view a) V) (λ y. (rest : Branches) → onto branch_view y (plainly_branches F I P rest V) ≡ plainly_branches F I P (onto branch_view zs rest) V)
          (λ y. rest_of (option_map view y) ≡ plainly_branches F I P (rest_of (option_map view c)) V) (λ y z w x. x ≡ expr.Case y z w) Copied
          (λ y z w x h m n k. seen (Case (view a) (branches_view bs c)) x (ap view i ∙ view_Case a bs c)
          (ap view k ∙ view_Case y z w ∙ ap₂ (λ u v. Case u v) h
          (branches_seen z (rest_of (option_map view w)) ∙ ap (λ u. onto branch_view z u) n ∙ m (rest_of (option_map view c))
          ∙ ap (λ u. plainly_branches F I P (onto branch_view u (rest_of (option_map view c))) V) j ∙ ap (λ u. plainly_branches F I P u V) (sym (branches_seen bs (rest_of (option_map view c))))))) ra rb rc r h m n k

      pub path_copied : {X : Type 0} (ra r : Result Expr X) (a : Expr) (ls zs : List Word) → e ≡ expr.Path a ls → zs ≡ ls → IfOk ra (λ y. view y ≡ copy (view a) V) → IfOk r (λ x. OnOk ra (λ y. x ≡ expr.Path y zs)) → IfOk r Copied
      path_copied ra r a ls zs i j h k =
          one_made (λ y. view y ≡ copy (view a) V) (λ y x. x ≡ expr.Path y zs) Copied
          (λ y x h k. seen (Path (view a) ls) x (ap view i ∙ view_Path a ls) (ap view k ∙ view_Path y zs ∙ ap₂ (λ u v. Path u v) h j)) ra r h k

      pub not_copied : {X : Type 0} (ra r : Result Expr X) (a : Expr) → e ≡ expr.Not a → IfOk ra (λ y. view y ≡ copy (view a) V) → IfOk r (λ x. OnOk ra (λ y. x ≡ expr.Not y)) → IfOk r Copied
      not_copied ra r a i h k = one_made (λ y. view y ≡ copy (view a) V) (λ y x. x ≡ expr.Not y) Copied (λ y x h k. seen (Not (view a)) x (ap view i ∙ view_Not a) (ap view k ∙ view_Not y ∙ ap Not h)) ra r h k

      pub neg_copied : {X : Type 0} (ra r : Result Expr X) (a : Expr) → e ≡ expr.Neg a → IfOk ra (λ y. view y ≡ copy (view a) V) → IfOk r (λ x. OnOk ra (λ y. x ≡ expr.Neg y)) → IfOk r Copied
      neg_copied ra r a i h k = one_made (λ y. view y ≡ copy (view a) V) (λ y x. x ≡ expr.Neg y) Copied (λ y x h k. seen (Neg (view a)) x (ap view i ∙ view_Neg a) (ap view k ∙ view_Neg y ∙ ap Neg h)) ra r h k

      pub chain_copied : {X : Type 0} (ra : Result Expr X) (rb : Result (List (Op × Expr)) X) (r : Result Expr X) (a : Expr) (ss zs : List (Op × Expr)) → e ≡ expr.Chain a ss → zs ≡ ss → IfOk ra (λ y. view y ≡ copy (view a) V)
          → IfOk rb (λ y. steps_view y ≡ plainly_steps F I P (steps_view zs) V) → IfOk r (λ x. OnOk ra (λ y. OnOk rb (λ z. x ≡ expr.Chain y z))) → IfOk r Copied
      chain_copied ra rb r a ss zs i j h m k =
          two_made (λ y. view y ≡ copy (view a) V) (λ y. steps_view y ≡ plainly_steps F I P (steps_view zs) V) (λ y z x. x ≡ expr.Chain y z) Copied
          (λ y z x h m k. seen (Chain (view a) (steps_view ss)) x (ap view i ∙ view_Chain a ss)
          (ap view k ∙ view_Chain y z ∙ ap₂ (λ u v. Chain u v) h (m ∙ ap (λ w. plainly_steps F I P (steps_view w) V) j))) ra rb r h m k

      pub call_copied : {X : Type 0} (ra : Result (List Expr) X) (r : Result Expr X) (f : Word) (es zs : List Expr) → e ≡ expr.Call f es → zs ≡ es → IfOk ra (λ y. exps_view y ≡ plainly_handed F I P (exps_view zs) f.text V)
          → IfOk r (λ x. OnOk ra (λ y. view x ≡ cond (is_parameter P V f.text) (called_parameter f (exps_view y)) (Call f (exps_view y)))) → IfOk r Copied
      call_copied ra r f es zs i j h k =
          one_made (λ y. exps_view y ≡ plainly_handed F I P (exps_view zs) f.text V) (λ y x. view x ≡ cond (is_parameter P V f.text) (called_parameter f (exps_view y)) (Call f (exps_view y))) Copied
          (λ y x h k. seen (Call f (exps_view es)) x (ap view i ∙ view_Call f es)
          (k ∙ ap (λ z. cond (is_parameter P V f.text) (called_parameter f z) (Call f z)) (h ∙ ap (λ z. plainly_handed F I P (exps_view z) f.text V) j))) ra r h k

      pub comp_copied : {W X : Type 0} (names : W → List Name) (rq : Result (List Qual × W) X) (r : Result Expr X) (c : Kind) (a b : Expr) (qs zs : List Qual) → e ≡ expr.Comp c a qs → b ≡ a → zs ≡ qs
          → IfOk rq (λ y. quals_view y.0 ≡ plainly_quals F I P (quals_view zs) V) → IfOk rq (λ y. names y.1 ≡ behind_shaped (quals_view zs) V)
          → IfOk r (λ x. OnOk rq (λ y. view x ≡ Comp c (copy (view b) (names y.1)) (quals_view y.0))) → IfOk r Copied
      comp_copied names (Ok y) (Ok x) c a b qs zs i j l h n k =
          seen (Comp c (view a) (quals_view qs)) x (ap view i ∙ view_Comp c a qs)
          (k ∙ ap₂ (λ u v. Comp c u v) (ap (λ w. copy (view w) (names y.1)) j ∙ ap (λ w. copy (view a) w) (n ∙ ap (λ z. behind_shaped (quals_view z) V) l))
          (h ∙ ap (λ z. plainly_quals F I P (quals_view z) V) l))
      comp_copied names (Err z) (Ok x) c a b qs zs i j l h n k = absurd k
      comp_copied names rq (Err z) c a b qs zs i j l h n k = tt

    pub comp_made : {W X : Type 0} (names : W → List Name) (ra r : Result Expr X) (rq : Result (List Qual × W) X) (c : Kind) (a : Expr) (qs : List Qual) (v : W) (shown : List Name) → rq ≡ Ok (qs, v) → shown ≡ names v
        → IfOk ra (λ y. view y ≡ copy (view a) shown) → IfOk r (λ x. OnOk ra (λ y. x ≡ expr.Comp c y qs)) → IfOk r (λ x. OnOk rq (λ q. view x ≡ Comp c (copy (view a) (names q.1)) (quals_view q.0)))
    comp_made names (Ok y) (Ok x) rq c a qs v shown i n h k =
        subst (λ z. OnOk z (λ q. view x ≡ Comp c (copy (view a) (names q.1)) (quals_view q.0))) (sym i) (ap view k ∙ view_Comp c y qs ∙ ap (λ u. Comp c u (quals_view qs)) (h ∙ ap (λ w. copy (view a) w) n))
    comp_made names (Err z) (Ok x) rq c a qs v shown i n h k = absurd k
    comp_made names ra (Err z) rq c a qs v shown i n h k = tt

    pub one_handed : {X : Type 0} (ra : Result Expr X) (r : Result (List Expr) X) (es : List Expr) (e : Expr) (f : Name) → es ≡ e ∷ [] → IfOk ra (λ y. view y ≡ plainly F I P (view e) (Some f) V)
        → IfOk r (λ x. OnOk ra (λ y. x ≡ y ∷ [])) → IfOk r (λ x. exps_view x ≡ plainly_handed F I P (exps_view es) f V)
    one_handed ra r es e f i h k =
        one_made (λ y. view y ≡ plainly F I P (view e) (Some f) V) (λ y x. x ≡ y ∷ []) (λ x. exps_view x ≡ plainly_handed F I P (exps_view es) f V)
        (λ y x h k. ap exps_view k ∙ ap (λ z. exps z no_exps) h ∙ sym (ap (λ z. plainly_handed F I P (exps_view z) f V) i)) ra r h k

    pub all_handed : {X : Type 0} (r : Result (List Expr) X) (es zs : List Expr) (f : Name) → zs ≡ es → (length es ≡ 1 → ⊥) → IfOk r (λ x. exps_view x ≡ plainly_all F I P (exps_view zs) V)
        → IfOk r (λ x. exps_view x ≡ plainly_handed F I P (exps_view es) f V)
    all_handed (Ok x) [] zs f i n h = h ∙ ap (λ z. plainly_all F I P (exps_view z) V) i
    all_handed (Ok x) (e ∷ []) zs f i n h = absurd (n refl)
    all_handed (Ok x) (e ∷ d ∷ es) zs f i n h = h ∙ ap (λ z. plainly_all F I P (exps_view z) V) i
    all_handed (Err x) es zs f i n h = tt

    pub part_made : {X : Type 0} (ra r : Result Expr X) (a z : Expr) → z ≡ a → IfOk ra (λ y. view y ≡ copy (view z) V) → IfOk r (λ x. OnOk ra (λ y. x ≡ y)) → IfOk r (λ x. view x ≡ copy (view a) V)
    part_made ra r a z i h k =
        one_made (λ y. view y ≡ copy (view z) V) (λ y x. x ≡ y) (λ x. view x ≡ copy (view a) V) (λ y x h k. ap view k ∙ h ∙ ap (λ w. copy (view w) V) i) ra r h k

  -- ---- qualifiers

  pub quals_next : (qs : List Qual) (i : ℕ) (q x : Qual) (made now : List Qual) (V old new : List Name) → i < length qs → q ≡ get_or qs i q → now ≡ made ++ x ∷ []
      → ((rest : Quals) → plainly_quals F I P (qual_view q rest) old ≡ qual_view x (plainly_quals F I P rest new))
      → onto qual_view made (plainly_quals F I P (quals_view (drop i qs)) old) ≡ plainly_quals F I P (quals_view qs) V → onto qual_view now (plainly_quals F I P (quals_view (drop (i + 1) qs)) new) ≡ plainly_quals F I P (quals_view qs) V
  quals_next qs i q x made now V old new lt at n c h =
      made_next qual_view made now x (plainly_quals F I P (quals_view (drop i qs)) old) (plainly_quals F I P (quals_view (drop (i + 1) qs)) new) (plainly_quals F I P (quals_view qs) V) n
      (ap (λ zs. plainly_quals F I P (quals_view zs) old) (drop_at qs i q lt at) ∙ c (quals_view (drop (i + 1) qs))) h

  pub quals_done : (qs made all : List Qual) (i : ℕ) (V last : List Name) → length qs ≤ i → all ≡ made → onto qual_view made (plainly_quals F I P (quals_view (drop i qs)) last) ≡ plainly_quals F I P (quals_view qs) V
      → quals_view all ≡ plainly_quals F I P (quals_view qs) V
  quals_done qs made all i V last le e h = ap quals_view e ∙ quals_seen made ∙ sym (ap (λ zs. onto qual_view made (plainly_quals F I P (quals_view zs) last)) (drop_all i qs le)) ∙ h

pub one_item : {X : Type 0} (es : List X) (e : X) → length es ≡ 1 → e ≡ get_or es 0 e → es ≡ e ∷ []
one_item [] e n i = absurd (omega arith)
one_item (x ∷ []) e n i = ap (λ z. z ∷ []) (sym i)
one_item (x ∷ y ∷ es) e n i = absurd (omega arith)

pub quals_behind : (qs : List Qual) (i : ℕ) (q : Qual) (V old new : List Name) → i < length qs → q ≡ get_or qs i q → ((rest : Quals) → behind_shaped (qual_view q rest) old ≡ behind_shaped rest new)
    → behind_shaped (quals_view (drop i qs)) old ≡ behind_shaped (quals_view qs) V → behind_shaped (quals_view (drop (i + 1) qs)) new ≡ behind_shaped (quals_view qs) V
quals_behind qs i q V old new lt at c h = sym (c (quals_view (drop (i + 1) qs))) ∙ sym (ap (λ zs. behind_shaped (quals_view zs) old) (drop_at qs i q lt at)) ∙ h
