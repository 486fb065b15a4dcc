-- The term of an expression, a variant each.
use Rattle.std.proofs.Common.{◌≡◌, ℕ, List, [], ◌∷◌, map, Option, Some, None, length, Result, Ok, Err, IfOk, refl, sym, ap, ◌∙◌}
use Rattle.std.specs.Option.{option_map}
use Rattle.kl_base.specs.declared.NoMemory.{NoMemory}
use Rattle.kl_value.specs.declared.Kind.{Kind}
use Rattle.kl_syntax.specs.declared.Word.{Word}
use Rattle.kl_syntax.specs.declared.Pattern.{Pattern}
use Rattle.kl_syntax.specs.declared.tree.Op.{Op}
use Rattle.kl_syntax.specs.declared.tree.Expr.{Expr}
use Rattle.kl_syntax.specs.declared.tree.Qual.{Qual}
use Rattle.kl_syntax.specs.declared.tree.Expr.TheVariants as expr
use Rattle.kl_syntax.specs.declared.tree.Branch.{Branch}
use Rattle.kl_syntax.specs.declared.tree.Decl.{Decl}
use Rattle.kl_syntax.specs.Syntax.{Call, Exp, Branches, Decls, no_decls}
use Rattle.kl_syntax.specs.View.{view, exps_of, exps_view, quals_view, pattern_view, steps_view, fields_view, branch_view, branches_of, rest_of, decl_of}
use Rattle.kl_core.specs.declared.Term.{Term}
use Rattle.kl_core.specs.declared.term.Term.TheVariants as code
use Rattle.kl_core.specs.Trees as term
use Rattle.kl_core.specs.Trees.{Tree, view_part}
use Rattle.kl_core.proofs.Views as core
use Rattle.kl_prim.specs.Records.{in_order}
use Rattle.kl_desugar.specs.Translation.{Scope, Codes, here, tree, tree_all, tree_fields, tree_branches, tree_steps, called_tree, projected, matched_here, no_sense, codes_after}
use Rattle.kl_desugar.specs.Layers.{Layered, missed, wrapped}
use Rattle.kl_desugar.specs.Opening.{OpensQuals}
use Rattle.kl_desugar.specs.States.{AsksPattern, Given, layers_view, field_of, arm_of}
use Rattle.kl_desugar.specs.declared.layers.Entered.{Entered}
use Rattle.kl_desugar.proofs.Wrapping.{matched_is, quals_are}
use Rattle.kl_syntax.proofs.Views.{view_Inj, view_Coll, view_Comp, view_If, view_Let, view_Rec, view_More, view_Case, branch_seen, view_Path, view_Not, view_Neg, view_Chain}

trees_are : (es : List Expr) (codes : Codes) (S : Scope) → tree_all (exps_of (map view es)) codes S ≡ term.trees_of (map (λ e. tree (view e) codes S) es)
trees_are [] codes S = refl
trees_are (e ∷ es) codes S = ap (term.trees (tree (view e) codes S)) (trees_are es codes S)

-- what was made of a part that may be wanting
pub given_ok : {A X : Type 0} (r : Result Term X) (part : Result A NoMemory) (P : A → Type 0) (Q : A → Term → Type 0) (R : Term → Type 0) → IfOk part P → IfOk r (λ t. Given part (λ x. Q x t))
    → ((x : A) (t : Term) → P x → Q x t → R t) → IfOk r R
given_ok (Ok t) (Ok x) P Q R h g go = go x t h g
given_ok (Ok t) (Err e) P Q R h g go = absurd g
given_ok (Err e) part P Q R h g go = tt

pub given : {A : Type 0} (part : Result A NoMemory) (x : A) (P : A → Type 0) → part ≡ Ok x → P x → Given part P
given part x P e p = rw e p

pub coll_is : (e : Expr) (k : Kind) (es fs : List Expr) (ts : List Term) (t : Term) (codes : Codes) (S : Scope) → e ≡ expr.Coll k es → fs ≡ es
    → map term.view ts ≡ map (λ e. tree (view e) codes S) fs → t ≡ code.Make k ts → term.view t ≡ tree (view e) codes S
coll_is e k es fs ts t codes S p q h i =
    rw (p, view_Coll, i, core.view_Make, h, q) (ap (term.Make k) (sym (trees_are es codes S)))

pub not_is : (e a b : Expr) (x t : Term) (codes : Codes) (S : Scope) → e ≡ expr.Not a → b ≡ a → term.view x ≡ tree (view b) codes S → t ≡ code.Prim 11 (x ∷ []) → term.view t ≡ tree (view e) codes S
not_is e a b x t codes S i j h g = rw (i, view_Not, g, core.view_Prim, h, j) refl

pub neg_is : (e a b : Expr) (x t : Term) (codes : Codes) (S : Scope) → e ≡ expr.Neg a → b ≡ a → term.view x ≡ tree (view b) codes S → t ≡ code.Prim 10 (x ∷ []) → term.view t ≡ tree (view e) codes S
neg_is e a b x t codes S i j h g = rw (i, view_Neg, g, core.view_Prim, h, j) refl

pub inj_is : (e : Expr) (l : Word) (a b : Expr) (x : Term) (codes : Codes) (S : Scope) → e ≡ expr.Inj l a → b ≡ a → term.view x ≡ tree (view b) codes S → term.view (code.Inj l.text x) ≡ tree (view e) codes S
inj_is e l a b x codes S i j h = rw (i, view_Inj, core.view_Inj, h, j) refl

pub if_is : (e a b c x y z : Expr) (t u v : Term) (codes : Codes) (S : Scope) → e ≡ expr.If a b c → x ≡ a → y ≡ b → z ≡ c
    → term.view t ≡ tree (view x) codes S → term.view u ≡ tree (view y) codes S → term.view v ≡ tree (view z) codes S → term.view (code.If t u v) ≡ tree (view e) codes S
if_is e a b c x y z t u v codes S i j k l h g f = rw (i, view_If, core.view_If, h, g, f, j, k, l) refl

pub path_is : (e a b : Expr) (ls ms : List Word) (x t : Term) (codes : Codes) (S : Scope) → e ≡ expr.Path a ls → b ≡ a → ms ≡ ls → term.view x ≡ tree (view b) codes S → term.view t ≡ projected ms (term.view x)
    → term.view t ≡ tree (view e) codes S
path_is e a b ls ms x t codes S i j k h g = rw (i, view_Path, g, h, j, k) refl

pub chain_is : (e a b : Expr) (ss rs : List (Op × Expr)) (x t : Term) (codes : Codes) (S : Scope) → e ≡ expr.Chain a ss → b ≡ a → rs ≡ ss → term.view x ≡ tree (view b) codes S
    → term.view t ≡ tree_steps (steps_view rs) (term.view x) codes S → term.view t ≡ tree (view e) codes S
chain_is e a b ss rs x t codes S i j k h g = rw (i, view_Chain, g, h, j, k) refl

pub comp_is : (e : Expr) (k : Kind) (a b : Expr) (qs rs : List Qual) (t : Term) (codes : Codes) (S R : Scope) (ls : List Layered) → e ≡ expr.Comp k a qs → b ≡ a → rs ≡ qs → OpensQuals (quals_view rs) k codes S R [] ls
    → term.view t ≡ wrapped (missed (Some k)) ls (term.Make k (term.trees (tree (view b) codes R) term.no_trees)) → term.view t ≡ tree (view e) codes S
comp_is e k a b qs rs t codes S R ls p q r o w = rw (p, view_Comp, w, q, o.layers, o.scope, r) (sym (quals_are (quals_view qs) k _ codes S))

pub head_is : (part : Result Entered NoMemory) (x : Entered) (e : Exp) (k : Kind) (Q : Scope) (h u v : Term) (codes : Codes) → part ≡ Ok x → Q ≡ x.scope.items → term.view h ≡ tree e codes Q
    → term.view u ≡ term.Make k (term.trees (term.view h) term.no_trees) → term.view v ≡ wrapped (missed (Some k)) (layers_view x.layers.items) (term.view u)
    → Given part (λ o. term.view v ≡ wrapped (missed (Some k)) (layers_view o.layers.items) (term.Make k (term.trees (tree e codes o.scope.items) term.no_trees)))
head_is part x e k Q h u v codes i q f g w = given part x _ i (w ∙ ap (wrapped (missed (Some k)) (layers_view x.layers.items)) (g ∙ ap (λ z. term.Make k (term.trees z term.no_trees)) (f ∙ ap (tree e codes) q)))

pub let_is : (e : Expr) (p : Pattern) (a b c d : Expr) (t u : Term) (codes : Codes) (S : Scope) → e ≡ expr.Let p a b → c ≡ a → d ≡ b
    → term.view t ≡ tree (view c) codes S → term.view u ≡ matched_here (pattern_view p) codes S no_sense (λ R. tree (view d) codes R)
    → term.view (code.Let t u) ≡ tree (view e) codes S
let_is e p a b c d t u codes S i k l n h = rw (i, view_Let, core.view_Let, n, h, k, l) refl

pub within_is : (p : Pattern) (e : Expr) (codes : Codes) (S R Q : Scope) (ls : List Layered) (t u : Term) → Q ≡ R → AsksPattern (pattern_view p) (here (length S)) codes S (None ∷ S) R [] ls
    → term.view t ≡ tree (view e) codes Q → term.view u ≡ wrapped (missed None) ls (term.view t) → term.view u ≡ matched_here (pattern_view p) codes S no_sense (λ R. tree (view e) codes R)
within_is p e codes S R Q ls t u m o h f =
    rw (f, h, m, o.layers, o.scope) (sym (matched_is (pattern_view p) (here (length S)) codes S _ (λ Q. tree (view e) codes Q) (None ∷ S)))

pub within_ok : {X : Type 0} (r : Result Term X) (p : Pattern) (e : Expr) (codes : Codes) (S R Q : Scope) (ls : List Layered) (t : Term) → Q ≡ R → AsksPattern (pattern_view p) (here (length S)) codes S (None ∷ S) R [] ls
    → term.view t ≡ tree (view e) codes Q → IfOk r (λ u. term.view u ≡ wrapped (missed None) ls (term.view t)) → IfOk r (λ u. term.view u ≡ matched_here (pattern_view p) codes S no_sense (λ R. tree (view e) codes R))
within_ok (Ok u) p e codes S R Q ls t m o h f = within_is p e codes S R Q ls t u m o h f
within_ok (Err x) p e codes S R Q ls t m o h f = tt

fields_are : (fs : List (Word × Expr)) (codes : Codes) (S : Scope) → tree_fields (fields_view fs) codes S ≡ map (field_of codes S) fs
fields_are [] codes S = refl
fields_are (f ∷ fs) codes S = ap (λ z. field_of codes S f ∷ z) (fields_are fs codes S)

-- the record of the written fields, whatever it stands in
pub written_is : (ts : List (List ℕ × Term)) (fs : List (Word × Expr)) (t : Term) (codes : Codes) (S : Scope) → map view_part ts ≡ map (field_of codes S) fs
    → term.view t ≡ term.Rec (term.parts_of (in_order (map view_part ts))) → term.view t ≡ term.Rec (term.parts_of (in_order (tree_fields (fields_view fs) codes S)))
written_is ts fs t codes S h w = w ∙ ap (λ z. term.Rec (term.parts_of (in_order z))) (h ∙ sym (fields_are fs codes S))

pub rec_is : (e : Expr) (fs gs : List (Word × Expr)) (ts : List (List ℕ × Term)) (t : Term) (codes : Codes) (S : Scope) → e ≡ expr.Rec fs → gs ≡ fs
    → map view_part ts ≡ map (field_of codes S) gs → term.view t ≡ term.Rec (term.parts_of (in_order (map view_part ts))) → term.view t ≡ tree (view e) codes S
rec_is e fs gs ts t codes S p q h w = written_is ts gs t codes S h w ∙ rw (p, view_Rec, q) refl

pub more_is : (e a b : Expr) (fs gs : List (Word × Expr)) (t u : Term) (codes : Codes) (S : Scope) → e ≡ expr.More fs a → b ≡ a → gs ≡ fs
    → term.view t ≡ term.Rec (term.parts_of (in_order (tree_fields (fields_view gs) codes S))) → term.view u ≡ tree (view b) codes S → term.view (code.Prim 27 (t ∷ u ∷ [])) ≡ tree (view e) codes S
more_is e a b fs gs t u codes S i j k h g = rw (i, view_More, core.view_Prim, h, g, j, k) refl

branches_are : (bs : List Branch) (last : Branches) (codes : Codes) (S : Scope) → tree_branches (branches_of (map branch_view bs) last) codes S ≡ term.arms_of (map (arm_of codes S) bs) (tree_branches last codes S)
branches_are [] last codes S = refl
branches_are (b ∷ bs) last codes S =
    ap (λ z. tree_branches z codes S) (branch_seen b (branches_of (map branch_view bs) last))
    ∙ ap (term.arm (arm_of codes S b).0 (arm_of codes S b).1) (branches_are bs last codes S)

pub case_is : (e a b : Expr) (bs cs : List Branch) (c : Option Expr) (t : Term) (ts : List (List ℕ × Term)) (u : Option Term) (codes : Codes) (S : Scope) → e ≡ expr.Case a bs c → b ≡ a → cs ≡ bs
    → map view_part ts ≡ map (arm_of codes S) cs → term.rest_of (option_map term.view u) ≡ tree_branches (rest_of (option_map view c)) codes S → term.view t ≡ tree (view b) codes S
    → term.view (code.Case t ts u) ≡ tree (view e) codes S
case_is e a b bs cs c t ts u codes S i j k h g f =
    rw (i, view_Case, core.view_Case, f, j, h, k, g) (ap (term.Case (tree (view a) codes S)) (sym (branches_are bs (rest_of (option_map view c)) codes S)))

pub decl_then : (p : Option Pattern) (d : Decl) (ds : Decls) (codes : Codes) → codes_after (decl_of p d ds) codes ≡ codes_after ds (codes_after (decl_of p d no_decls) codes)
decl_then (Some p) d ds codes = refl
decl_then None d ds codes = refl

pub call_ok : {X : Type 0} (r : Result Term X) (f : Word) (es fs : List Expr) (ts : List Term) (codes : Codes) (S : Scope) → fs ≡ es
    → map term.view ts ≡ map (λ e. tree (view e) codes S) fs → IfOk r (λ t. term.view t ≡ called_tree (codes f.text) (term.trees_of (map term.view ts)))
    → IfOk r (λ t. term.view t ≡ tree (Call f (exps_view es)) codes S)
call_ok (Ok t) f es fs ts codes S q h w = rw (w, h, q) (ap (called_tree (codes f.text)) (sym (trees_are es codes S)))
call_ok (Err x) f es fs ts codes S q h w = tt
