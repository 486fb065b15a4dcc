-- Expressions and patterns of the code, and their trees.
use Rattle.std.proofs.Common.{◌≡◌, ℕ, suc, List, [], ◌∷◌, length, map, Option, refl, sym, ap, ◌∙◌, rules}
use Rattle.std.specs.Option.{option_map}
use Rattle.kl_outcome.specs.Outcome.{Name}
use Rattle.kl_value.specs.declared.value.Kind.{Kind}
use Rattle.kl_value.specs.declared.value.Value.{Value}
use Rattle.kl_syntax.specs.declared.tree.Branch.{Branch, out-Branch}
use Rattle.kl_syntax.specs.declared.tree.Expr.{Expr}
use Rattle.kl_syntax.specs.declared.tree.Expr.TheVariants as expr
use Rattle.kl_syntax.specs.declared.tree.Op.{Op}
use Rattle.kl_syntax.specs.declared.tree.Pattern.{Pattern, the_lemmas as pattern_lemmas}
use Rattle.kl_syntax.specs.declared.tree.Pattern.TheVariants as code
use Rattle.kl_syntax.specs.declared.tree.Qual.{Qual}
use Rattle.kl_syntax.specs.declared.tree.Qual.TheVariants as quals
use Rattle.kl_syntax.specs.declared.tree.Tail.{Tail}
use Rattle.kl_syntax.specs.declared.tree.Word.{Word}
use Rattle.kl_syntax.specs.Syntax.{Pat, catch, any, same, is, shape, variant, Exp, exps, Const, name, Call, Rec, More, Inj, Coll, Comp, If, Let, Case, Path, Not, Neg, Chain, Quals, draw, test, Branches, branch}
use Rattle.kl_syntax.specs.View.{view, qual_view, branch_view, branches_view, branches_of, rest_of, exps_of, exps_view, fields_view, field_view, quals_view, steps_view, pattern_view, patterns_view, pattern_pair}
use Rattle.kl_infer.proofs.Lists.{with_arms, count, names_of, bodies}
use Rattle.kl_syntax.proofs.Views.{view_Const, view_Name, view_Gen, view_Cond, view_Call, view_Rec, view_More, view_Inj, view_Coll, view_Comp, view_If, view_Let, view_Case, view_Path, view_Not, view_Neg, view_Chain, branch_seen, pattern_Rec}

pub view_con : (e : Expr) (v : Value) → e ≡ expr.Const v → view e ≡ Const v
view_con e v h = ap view h ∙ view_Const v

pub view_name : (e : Expr) (x : Word) → e ≡ expr.Name x → view e ≡ name x
view_name e x h = ap view h ∙ view_Name x

pub view_call : (e : Expr) (f : Word) (es fs : List Expr) → e ≡ expr.Call f es → fs ≡ es → view e ≡ Call f (exps_view fs)
view_call e f es fs h k = ap view h ∙ view_Call f es ∙ ap (λ (z : List Expr). Call f (exps_view z)) (sym k)

pub view_rec : (e : Expr) (es fs : List (Word × Expr)) → e ≡ expr.Rec es → fs ≡ es → view e ≡ Rec (fields_view fs)
view_rec e es fs h k = ap view h ∙ view_Rec es ∙ ap (λ (z : List (Word × Expr)). Rec (fields_view z)) (sym k)

pub view_more : (e a x : Expr) (es fs : List (Word × Expr)) → e ≡ expr.More es a → fs ≡ es → x ≡ a → view e ≡ More (fields_view fs) (view x)
view_more e a x es fs h k j = ap view h ∙ view_More es a ∙ ap (λ (z : List (Word × Expr)). More (fields_view z) (view a)) (sym k) ∙ ap (λ (z : Expr). More (fields_view fs) (view z)) (sym j)

pub view_inj : (e : Expr) (l : Word) (a b : Expr) → e ≡ expr.Inj l a → b ≡ a → view e ≡ Inj l (view b)
view_inj e l a b h k = ap view h ∙ view_Inj l a ∙ ap (λ (z : Expr). Inj l (view z)) (sym k)

pub view_coll : (e : Expr) (n : Kind) (es fs : List Expr) → e ≡ expr.Coll n es → fs ≡ es → view e ≡ Coll n (exps_view fs)
view_coll e n es fs h k = ap view h ∙ view_Coll n es ∙ ap (λ (z : List Expr). Coll n (exps_view z)) (sym k)

pub view_comp : (e : Expr) (n : Kind) (a b : Expr) (qs rs : List Qual) → e ≡ expr.Comp n a qs → b ≡ a → rs ≡ qs → view e ≡ Comp n (view b) (quals_view rs)
view_comp e n a b qs rs h k j = ap view h ∙ view_Comp n a qs ∙ ap (λ (z : Expr). Comp n (view z) (quals_view qs)) (sym k) ∙ ap (λ (z : List Qual). Comp n (view b) (quals_view z)) (sym j)

pub view_if : (e a b c x y z : Expr) → e ≡ expr.If a b c → x ≡ a → y ≡ b → z ≡ c → view e ≡ If (view x) (view y) (view z)
view_if e a b c x y z h p q r =
    ap view h ∙ view_If a b c ∙ ap (λ (w : Expr). If (view w) (view b) (view c)) (sym p) ∙ ap (λ (w : Expr). If (view x) (view w) (view c)) (sym q) ∙ ap (λ (w : Expr). If (view x) (view y) (view w)) (sym r)

pub view_let : (e : Expr) (p : Pattern) (a b x y : Expr) → e ≡ expr.Let p a b → x ≡ a → y ≡ b → view e ≡ Let (pattern_view p) (view x) (view y)
view_let e p a b x y h q r = ap view h ∙ view_Let p a b ∙ ap (λ (w : Expr). Let (pattern_view p) (view w) (view b)) (sym q) ∙ ap (λ (w : Expr). Let (pattern_view p) (view x) (view w)) (sym r)

-- a branch with what it is of
abbrev pub arm : Branch → Word × (Pat × Exp)
arm b = ((out-Branch b).label, (pattern_view (out-Branch b).pat, view (out-Branch b).body))

pub arms_seen : (bs : List Branch) (last : Branches) → branches_of (map branch_view bs) last ≡ with_arms (map arm bs) last
arms_seen [] last = refl
arms_seen (b ∷ bs) last = branch_seen b (branches_of (map branch_view bs) last) ∙ ap (branch (out-Branch b).label (pattern_view (out-Branch b).pat) (view (out-Branch b).body)) (arms_seen bs last)

pub view_case : (e a x : Expr) (bs cs : List Branch) (c : Option Expr) → e ≡ expr.Case a bs c → x ≡ a → cs ≡ bs → view e ≡ Case (view x) (with_arms (map arm cs) (rest_of (option_map view c)))
view_case e a x bs cs c h k j =
    ap view h ∙ view_Case a bs c ∙ ap (λ (z : Expr). Case (view z) (branches_view bs c)) (sym k) ∙ ap (λ (z : List Branch). Case (view x) (branches_view z c)) (sym j) ∙ ap (Case (view x)) (arms_seen cs (rest_of (option_map view c)))

pub view_path : (e a x : Expr) (ls ms : List Word) → e ≡ expr.Path a ls → x ≡ a → ms ≡ ls → view e ≡ Path (view x) ms
view_path e a x ls ms h k j = ap view h ∙ view_Path a ls ∙ ap (λ (z : Expr). Path (view z) ls) (sym k) ∙ ap (λ (z : List Word). Path (view x) z) (sym j)

pub view_not : (e a x : Expr) → e ≡ expr.Not a → x ≡ a → view e ≡ Not (view x)
view_not e a x h k = ap view h ∙ view_Not a ∙ ap (λ (z : Expr). Not (view z)) (sym k)

pub view_neg : (e a x : Expr) → e ≡ expr.Neg a → x ≡ a → view e ≡ Neg (view x)
view_neg e a x h k = ap view h ∙ view_Neg a ∙ ap (λ (z : Expr). Neg (view z)) (sym k)

pub view_chain : (e a x : Expr) (ss rs : List (Op × Expr)) → e ≡ expr.Chain a ss → x ≡ a → rs ≡ ss → view e ≡ Chain (view x) (steps_view rs)
view_chain e a x ss rs h k j = ap view h ∙ view_Chain a ss ∙ ap (λ (z : Expr). Chain (view z) (steps_view ss)) (sym k) ∙ ap (λ (z : List (Op × Expr)). Chain (view x) (steps_view z)) (sym j)

pub view_gen : (q : Qual) (p : Pattern) (e : Expr) (qs : Quals) → q ≡ quals.Gen p e → qual_view q qs ≡ draw (pattern_view p) (view e) qs
view_gen q p e qs h = ap (λ (z : Qual). qual_view z qs) h ∙ ap (λ f. f qs) (view_Gen p e)

pub view_cond : (q : Qual) (e : Expr) (qs : Quals) → q ≡ quals.Cond e → qual_view q qs ≡ test (view e) qs
view_cond q e qs h = ap (λ (z : Qual). qual_view z qs) h ∙ ap (λ f. f qs) (view_Cond e)

-- ---- lists

pub count_view : (es : List Expr) → count (exps_view es) ≡ length es
count_view [] = refl
count_view (e ∷ es) = ap suc (count_view es)

pub names_seen : (fs : List (Word × Expr)) → names_of (map field_view fs) ≡ map (λ f. f.0.text) fs
names_seen [] = refl
names_seen (f ∷ fs) = ap (λ (z : List Name). f.0.text ∷ z) (names_seen fs)

pub bodies_seen : (fs : List (Word × Expr)) → bodies (map field_view fs) ≡ exps_of (map (λ f. view f.1) fs)
bodies_seen [] = refl
bodies_seen (f ∷ fs) = ap (exps (view f.1)) (bodies_seen fs)

pub length_seen : (fs : List (Word × Expr)) → length (map field_view fs) ≡ length fs
length_seen [] = refl
length_seen (f ∷ fs) = ap suc (length_seen fs)

pub arm_names : (bs : List Branch) → names_of (map arm bs) ≡ map (λ b. (out-Branch b).label.text) bs
arm_names [] = refl
arm_names (b ∷ bs) = ap (λ (z : List Name). (out-Branch b).label.text ∷ z) (arm_names bs)

pub arm_length : (bs : List Branch) → length (map arm bs) ≡ length bs
arm_length [] = refl
arm_length (b ∷ bs) = ap suc (arm_length bs)

pub pattern_names : (ps : List (Word × Pattern)) → names_of (map pattern_pair ps) ≡ map (λ f. f.0.text) ps
pattern_names [] = refl
pattern_names (p ∷ ps) = ap (λ (z : List Name). p.0.text ∷ z) (pattern_names ps)

pub pattern_length : (ps : List (Word × Pattern)) → length (map pattern_pair ps) ≡ length ps
pattern_length [] = refl
pattern_length (p ∷ ps) = ap suc (pattern_length ps)

-- ---- patterns

pub view_catch : (p : Pattern) (x : Word) → p ≡ code.Bind x → pattern_view p ≡ catch x
view_catch p x h = ap pattern_view h ∙ search (rules, pattern_lemmas)

pub view_any : (p : Pattern) → p ≡ code.Any → pattern_view p ≡ any
view_any p h = ap pattern_view h ∙ search (rules, pattern_lemmas)

pub view_same : (p : Pattern) (x : Word) → p ≡ code.Same x → pattern_view p ≡ same x
view_same p x h = ap pattern_view h ∙ search (rules, pattern_lemmas)

pub view_is : (p : Pattern) (v : Value) (n : ℕ) → p ≡ code.Is v n → pattern_view p ≡ is v n
view_is p v n h = ap pattern_view h ∙ search (rules, pattern_lemmas)

pub view_shape : (p : Pattern) (ps qs : List (Word × Pattern)) (end : Tail) → p ≡ code.Rec ps end → qs ≡ ps → pattern_view p ≡ shape (patterns_view qs) end
view_shape p ps qs end h k = ap pattern_view h ∙ pattern_Rec ps end ∙ ap (λ (z : List (Word × Pattern)). shape (patterns_view z) end) (sym k)

variant_seen : (l : Word) (p : Pattern) → pattern_view (code.Inj l p) ≡ variant l (pattern_view p)
variant_seen l p = search (rules, pattern_lemmas)

pub view_variant : (p : Pattern) (l : Word) (a b : Pattern) → p ≡ code.Inj l a → b ≡ a → pattern_view p ≡ variant l (pattern_view b)
view_variant p l a b h k = ap pattern_view h ∙ variant_seen l a ∙ ap (λ (z : Pattern). variant l (pattern_view z)) (sym k)
