-- Sizes of the code's own trees, a form each.
use Rattle.std.proofs.Common.{◌≡◌, ℕ, suc, ◌+◌, ◌-◌, ◌<◌, ◌≤◌, List, ◌∷◌, map, drop, length, get_or, Option, refl, sym, ap, ◌∙◌, rules, arith}
use Rattle.std.proofs.Math.Seq.{drop-cons}
use Rattle.std.proofs.lemmas.List.{drop_all}
use Rattle.kl_value.specs.declared.value.Kind.{Kind}
use Rattle.kl_value.specs.declared.value.Value.{Value}
use Rattle.kl_syntax.specs.declared.tree.Branch.{Branch, out-Branch, the_lemmas as branch_lemmas}
use Rattle.kl_syntax.specs.declared.tree.Expr.{Expr, the_lemmas}
use Rattle.kl_syntax.specs.declared.tree.Expr.TheVariants as expr
use Rattle.kl_syntax.specs.declared.tree.Op.{Op}
use Rattle.kl_syntax.specs.declared.tree.Pattern.{Pattern, the_lemmas as pattern_lemmas}
use Rattle.kl_syntax.specs.declared.tree.Pattern.TheVariants as code
use Rattle.kl_syntax.specs.declared.tree.Qual.{Qual, the_lemmas as qual_lemmas}
use Rattle.kl_syntax.specs.declared.tree.Qual.TheVariants as quals
use Rattle.kl_syntax.specs.declared.tree.Tail.{Tail}
use Rattle.kl_syntax.specs.declared.tree.Word.{Word}
use Rattle.kl_syntax.specs.Syntax.{Quals, Branches}
use Rattle.kl_syntax.specs.View.{view, qual_view, branch_view, branches_view, branches_of, exps_view, fields_view, quals_view, steps_view, pattern_view, patterns_view}
use Rattle.kl_scope.specs.declared.terms.Size.{Size}
use Rattle.kl_scope.specs.Caps.{capped}
use Rattle.kl_scope.specs.Sizes.{beside, node, leaf, no_parts, named, callee, with_rest, matched, matched_fields, sized, sized_all, sized_fields, qualified, sized_branches, chained, third, projected}
use Rattle.kl_scope.proofs.SizeLemmas.{alike, no_parts_is, beside_alike, chained_alike, projected_alike, up_node, up_beside, up_matched, up_fields}

pub call_form : (f : Word) (es : List Expr) (ds : List Size) → sized (view (expr.Call f es)) ds ≡ node (beside (sized_all (exps_view es) ds) (callee f.means ds))
call_form f es ds = search (rules, the_lemmas)

pub record_form : (fs : List (Word × Expr)) (ds : List Size) → sized (view (expr.Rec fs)) ds ≡ node (sized_fields (fields_view fs) ds)
record_form fs ds = search (rules, the_lemmas)

pub more_form : (fs : List (Word × Expr)) (a : Expr) (ds : List Size) → sized (view (expr.More fs a)) ds ≡ node (beside (node (sized_fields (fields_view fs) ds)) (sized (view a) ds))
more_form fs a ds = search (rules, the_lemmas)

pub coll_form : (k : Kind) (es : List Expr) (ds : List Size) → sized (view (expr.Coll k es)) ds ≡ node (sized_all (exps_view es) ds)
coll_form k es ds = search (rules, the_lemmas)

pub comp_form : (k : Kind) (e : Expr) (qs : List Qual) (ds : List Size) → sized (view (expr.Comp k e qs)) ds ≡ qualified (quals_view qs) (node (sized (view e) ds)) ds
comp_form k e qs ds = search (rules, the_lemmas)

pub if_form : (a b c : Expr) (ds : List Size) → sized (view (expr.If a b c)) ds ≡ node (beside (sized (view a) ds) (beside (sized (view b) ds) (sized (view c) ds)))
if_form a b c ds = search (rules, the_lemmas)

pub let_form : (p : Pattern) (a b : Expr) (ds : List Size) → sized (view (expr.Let p a b)) ds ≡ node (beside (sized (view a) ds) (matched (pattern_view p) leaf (sized (view b) ds) ds))
let_form p a b ds = search (rules, the_lemmas)

pub case_form : (a : Expr) (bs : List Branch) (c : Option Expr) (ds : List Size) → sized (view (expr.Case a bs c)) ds ≡ node (beside (sized (view a) ds) (sized_branches (branches_view bs c) ds))
case_form a bs c ds = search (rules, the_lemmas)

pub chain_form : (a : Expr) (ss : List (Op × Expr)) (ds : List Size) → sized (view (expr.Chain a ss)) ds ≡ chained (sized (view a) ds) (steps_view ss) ds
chain_form a ss ds = search (rules, the_lemmas)

pub path_form : (a : Expr) (ls : List Word) (ds : List Size) → sized (view (expr.Path a ls)) ds ≡ projected (sized (view a) ds) ls
path_form a ls ds = search (rules, the_lemmas)

pub gen_form : (p : Pattern) (e : Expr) (qs : Quals) (t : Size) (ds : List Size) → qualified (qual_view (quals.Gen p e) qs) t ds ≡ node (beside (matched (pattern_view p) leaf (qualified qs t ds) ds) (sized (view e) ds))
gen_form p e qs t ds = search (rules, qual_lemmas)

pub cond_form : (e : Expr) (qs : Quals) (t : Size) (ds : List Size) → qualified (qual_view (quals.Cond e) qs) t ds ≡ node (beside (sized (view e) ds) (beside (qualified qs t ds) leaf))
cond_form e qs t ds = search (rules, qual_lemmas)

pub branch_form : (b : Branch) (bs : Branches) (ds : List Size) → sized_branches (branch_view b bs) ds ≡ beside (matched (pattern_view (out-Branch b).pat) leaf (sized (view (out-Branch b).body) ds) ds) (sized_branches bs ds)
branch_form b bs ds = search (rules, branch_lemmas)

-- ---- what the code counts for a form

pub seen : (e x : Expr) (r s : Size) (ds : List Size) → e ≡ x → sized (view x) ds ≡ s → r ≡ capped s → r ≡ capped (sized (view e) ds)
seen e x r s ds h f k = k ∙ ap capped (sym f ∙ ap (λ (z : Expr). sized (view z) ds) (sym h))

pub matched_seen : (p q : Pattern) (r s t a : Size) (ds : List Size) → p ≡ q → matched (pattern_view q) t a ds ≡ s → r ≡ capped s → r ≡ capped (matched (pattern_view p) t a ds)
matched_seen p q r s t a ds h f k = k ∙ ap capped (sym f ∙ ap (λ (z : Pattern). matched (pattern_view z) t a ds) (sym h))

pub qual_seen : (p q : Qual) (qs : Quals) (r s t : Size) (ds : List Size) → p ≡ q → qualified (qual_view q qs) t ds ≡ s → r ≡ capped s → r ≡ capped (qualified (qual_view p qs) t ds)
qual_seen p q qs r s t ds h f k = k ∙ ap capped (sym f ∙ ap (λ (z : Qual). qualified (qual_view z qs) t ds) (sym h))

pub bind_form : (w : Word) (t a : Size) (ds : List Size) → matched (pattern_view (code.Bind w)) t a ds ≡ node (beside t a)
bind_form w t a ds = search (rules, pattern_lemmas)

pub any_form : (t a : Size) (ds : List Size) → matched (pattern_view code.Any) t a ds ≡ a
any_form t a ds = search (rules, pattern_lemmas)

pub same_form : (w : Word) (t a : Size) (ds : List Size) → matched (pattern_view (code.Same w)) t a ds ≡ node (beside (node (beside t (named w.means ds))) (beside a leaf))
same_form w t a ds = search (rules, pattern_lemmas)

pub rec_form : (ps : List (Word × Pattern)) (end : Tail) (t a : Size) (ds : List Size) → matched (pattern_view (code.Rec ps end)) t a ds ≡ matched_fields (patterns_view ps) t (with_rest end t a) ds
rec_form ps end t a ds = search (rules, pattern_lemmas)

pub inj_form : (l : Word) (p : Pattern) (t a : Size) (ds : List Size) → matched (pattern_view (code.Inj l p)) t a ds ≡ node (beside t (beside (matched (pattern_view p) leaf a ds) leaf))
inj_form l p t a ds = search (rules, pattern_lemmas)

pub const_form : (v : Value) (ds : List Size) → sized (view (expr.Const v)) ds ≡ leaf
const_form v ds = search (rules, the_lemmas)

pub inject_form : (l : Word) (a : Expr) (ds : List Size) → sized (view (expr.Inj l a)) ds ≡ node (sized (view a) ds)
inject_form l a ds = search (rules, the_lemmas)

pub not_form : (a : Expr) (ds : List Size) → sized (view (expr.Not a)) ds ≡ node (sized (view a) ds)
not_form a ds = search (rules, the_lemmas)

pub neg_form : (a : Expr) (ds : List Size) → sized (view (expr.Neg a)) ds ≡ node (sized (view a) ds)
neg_form a ds = search (rules, the_lemmas)

-- an item of a list, and those behind it
pub at_back : {A : Type 0} (xs : List A) (i : ℕ) (x : A) → 0 < i → i ≤ length xs → x ≡ get_or xs (i - 1) x → drop (i - 1) xs ≡ x ∷ drop i xs
at_back xs i x pos le e =
    let next : suc (i - 1) ≡ i = omega arith in
    drop-cons xs (i - 1) x (omega arith) ∙ ap (λ y. y ∷ drop (suc (i - 1)) xs) (sym e) ∙ ap (λ n. x ∷ drop n xs) next

-- ---- what references show

pub at_expr : (e x : Expr) (r : Size) (ds : List Size) → r ≡ capped (sized (view e) ds) → e ≡ x → r ≡ capped (sized (view x) ds)
at_expr e x r ds h k = h ∙ ap (λ (z : Expr). capped (sized (view z) ds)) k

pub at_shape : (ps qs : List (Word × Pattern)) (r t a b : Size) (ds : List Size) → r ≡ capped (matched_fields (patterns_view ps) t a ds) → ps ≡ qs → a ≡ capped b → r ≡ capped (matched_fields (patterns_view qs) t b ds)
at_shape ps qs r t a b ds h k j = up_fields (patterns_view qs) r t a b ds (h ∙ ap (λ (z : List (Word × Pattern)). capped (matched_fields (patterns_view z) t a ds)) k) j

pub at_items : (es xs : List Expr) (r : Size) (ds : List Size) → r ≡ capped (sized_all (exps_view es) ds) → es ≡ xs → r ≡ capped (sized_all (exps_view xs) ds)
at_items es xs r ds h k = h ∙ ap (λ (z : List Expr). capped (sized_all (exps_view z) ds)) k

pub at_fields : (es xs : List (Word × Expr)) (r : Size) (ds : List Size) → r ≡ capped (sized_fields (fields_view es) ds) → es ≡ xs → r ≡ capped (sized_fields (fields_view xs) ds)
at_fields es xs r ds h k = h ∙ ap (λ (z : List (Word × Expr)). capped (sized_fields (fields_view z) ds)) k

pub at_quals : (es xs : List Qual) (r t : Size) (ds : List Size) → r ≡ capped (qualified (quals_view es) t ds) → es ≡ xs → r ≡ capped (qualified (quals_view xs) t ds)
at_quals es xs r t ds h k = h ∙ ap (λ (z : List Qual). capped (qualified (quals_view z) t ds)) k

pub at_steps : (es xs : List (Op × Expr)) (r t : Size) (ds : List Size) → r ≡ capped (chained t (steps_view es) ds) → es ≡ xs → r ≡ capped (chained t (steps_view xs) ds)
at_steps es xs r t ds h k = h ∙ ap (λ (z : List (Op × Expr)). capped (chained t (steps_view z) ds)) k

pub at_pattern : (p q : Pattern) (r t a : Size) (ds : List Size) → r ≡ capped (matched (pattern_view p) t a ds) → p ≡ q → r ≡ capped (matched (pattern_view q) t a ds)
at_pattern p q r t a ds h k = h ∙ ap (λ (z : Pattern). capped (matched (pattern_view z) t a ds)) k

pub at_labels : (ls ms : List Word) (r t : Size) → r ≡ capped (projected t ls) → ls ≡ ms → r ≡ capped (projected t ms)
at_labels ls ms r t h k = h ∙ ap (λ (z : List Word). capped (projected t z)) k

pub at_branches : (bs cs : List Branch) (rest : Branches) (r : Size) (ds : List Size) → r ≡ capped (sized_branches (branches_of (map branch_view bs) rest) ds) → bs ≡ cs → r ≡ capped (sized_branches (branches_of (map branch_view cs) rest) ds)
at_branches bs cs rest r ds h k = h ∙ ap (λ (z : List Branch). capped (sized_branches (branches_of (map branch_view z) rest) ds)) k

-- ---- lists, an item after another

pub items_more : (es : List Expr) (i : ℕ) (x : Expr) (r e s : Size) (ds : List Size) → drop (i - 1) es ≡ x ∷ drop i es → r ≡ capped (beside e s) → e ≡ capped (sized (view x) ds) → s ≡ capped (sized_all (exps_view (drop i es)) ds)
    → r ≡ capped (sized_all (exps_view (drop (i - 1) es)) ds)
items_more es i x r e s ds at h k j =
    up_beside r e s (sized (view x) ds) (sized_all (exps_view (drop i es)) ds) h k j ∙ ap (λ (z : List Expr). capped (sized_all (exps_view z) ds)) (sym at)

pub fields_more : (es : List (Word × Expr)) (i : ℕ) (x : Word × Expr) (r e s : Size) (ds : List Size) → drop (i - 1) es ≡ x ∷ drop i es → r ≡ capped (beside e s) → e ≡ capped (sized (view x.1) ds) → s ≡ capped (sized_fields (fields_view (drop i es)) ds)
    → r ≡ capped (sized_fields (fields_view (drop (i - 1) es)) ds)
fields_more es i x r e s ds at h k j =
    up_beside r e s (sized (view x.1) ds) (sized_fields (fields_view (drop i es)) ds) h k j ∙ ap (λ (z : List (Word × Expr)). capped (sized_fields (fields_view z) ds)) (sym at)

pub pats_more : (ps : List (Word × Pattern)) (i : ℕ) (x : Word × Pattern) (r m s t a : Size) (ds : List Size) → drop (i - 1) ps ≡ x ∷ drop i ps → r ≡ capped (matched (pattern_view x.1) m s ds) → m ≡ capped (node t)
    → s ≡ capped (matched_fields (patterns_view (drop i ps)) t a ds) → r ≡ capped (matched_fields (patterns_view (drop (i - 1) ps)) t a ds)
pats_more ps i x r m s t a ds at h k j =
    up_matched (pattern_view x.1) r m s (node t) (matched_fields (patterns_view (drop i ps)) t a ds) ds h k j ∙ ap (λ (z : List (Word × Pattern)). capped (matched_fields (patterns_view z) t a ds)) (sym at)

pub pats_none : (ps : List (Word × Pattern)) (r t a : Size) (ds : List Size) → r ≡ capped a → r ≡ capped (matched_fields (patterns_view (drop (length ps) ps)) t a ds)
pats_none ps r t a ds h = h ∙ ap (λ (z : List (Word × Pattern)). capped (matched_fields (patterns_view z) t a ds)) (sym (drop_all (length ps) ps (omega arith)))

pub items_none : (es : List Expr) (ds : List Size) → no_parts ≡ capped (sized_all (exps_view (drop (length es) es)) ds)
items_none es ds = no_parts_is ∙ ap (λ (z : List Expr). capped (sized_all (exps_view z) ds)) (sym (drop_all (length es) es (omega arith)))

pub fields_none : (es : List (Word × Expr)) (ds : List Size) → no_parts ≡ capped (sized_fields (fields_view (drop (length es) es)) ds)
fields_none es ds = no_parts_is ∙ ap (λ (z : List (Word × Expr)). capped (sized_fields (fields_view z) ds)) (sym (drop_all (length es) es (omega arith)))

pub steps_more : (ss : List (Op × Expr)) (i : ℕ) (x : Op × Expr) (n q p e o s w : Size) (ds : List Size) → drop i ss ≡ x ∷ drop (i + 1) ss → n ≡ capped (node q) → q ≡ capped (beside s p) → p ≡ capped (beside e o)
    → e ≡ capped (sized (view x.1) ds) → o ≡ capped (third x.0) → capped (chained s (steps_view (drop i ss)) ds) ≡ w → capped (chained n (steps_view (drop (i + 1) ss)) ds) ≡ w
steps_more ss i x n q p e o s w ds at hn hq hp he ho h =
    let part = beside (sized (view x.1) ds) (third x.0) in
    let rest = steps_view (drop (i + 1) ss) in
    let one : p ≡ capped part = up_beside p e o (sized (view x.1) ds) (third x.0) hp he ho in
    let two : q ≡ capped (beside s part) = hq ∙ beside_alike s s p part refl (alike p part one) in
    let three : n ≡ capped (node (beside s part)) = up_node n q (beside s part) hn two in
    chained_alike rest n (node (beside s part)) ds (alike n (node (beside s part)) three) ∙ ap (λ (z : List (Op × Expr)). capped (chained s (steps_view z) ds)) (sym at) ∙ h

pub labels_more : (ls : List Word) (i : ℕ) (x : Word) (n s w : Size) → drop i ls ≡ x ∷ drop (i + 1) ls → n ≡ capped (node s) → capped (projected s (drop i ls)) ≡ w → capped (projected n (drop (i + 1) ls)) ≡ w
labels_more ls i x n s w at hn h =
    projected_alike (drop (i + 1) ls) n (node s) (alike n (node s) hn) ∙ ap (λ (z : List Word). capped (projected s z)) (sym at) ∙ h

pub labels_none : (ls : List Word) (i : ℕ) (r s w : Size) → length ls ≤ i → r ≡ capped s → capped (projected s (drop i ls)) ≡ w → r ≡ w
labels_none ls i r s w le hr h = hr ∙ ap (λ (z : List Word). capped (projected s z)) (sym (drop_all i ls le)) ∙ h

pub read_back : {A : Type 0} (xs : List A) (i : ℕ) (d : A) → 0 < i → i ≤ length xs → d ≡ get_or xs (i - 1) d → drop (i - 1) xs ≡ get_or xs (i - 1) d ∷ drop i xs
read_back xs i d pos le e = at_back xs i d pos le e ∙ ap (λ y. y ∷ drop i xs) e
