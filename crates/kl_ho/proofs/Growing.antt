-- What is made of parts is an expansion, and where more is wanted than is let in, each expansion is too big.
use Rattle.std.proofs.Common.{◌≡◌, ℕ, suc, ◌+◌, ◌<◌, ◌≤◌, Bool, true, false, ◌||◌, cond, List, [], ◌∷◌, ◌++◌, Option, Some, None, is_some, Result, Ok, Err, IfOk, refl, sym, ap, ◌∙◌, subst, true≢false, arith}
use Rattle.std.proofs.Math.Seq.{take-append_seam}
use Rattle.std.specs.Cmp.Lexicographic.{same_text}
use Rattle.std.proofs.lemmas.List.{append_cancel_left}
use Rattle.std.proofs.lemmas.Option.{same_Some}
use Rattle.kl_base.specs.Fields.{field}
use Rattle.kl_type.proofs.RowLemmas.{same_label}
use Rattle.kl_outcome.specs.Outcome.{Name}
use Rattle.kl_syntax.specs.declared.tree.Word.{Word}
use Rattle.kl_syntax.specs.Syntax.{Pat, Exp, Const, name, Call, Rec, More, Inj, Coll, Comp, If, Let, Case, Path, Not, Neg, Chain, Exps, no_exps, exps, Flds, flds, Quals, draw, test, Branches, otherwise, branch, Steps, step}
use Rattle.kl_meaning.specs.Match.{same_name}
use Rattle.kl_ho.specs.declared.stop.Stop.{Stop}
use Rattle.kl_ho.specs.declared.stop.Stop.TheVariants.{TooBig, NoMemory}
use Rattle.kl_ho.specs.Highers.{Higher, Highers, Funs, head, given_by}
use Rattle.kl_ho.specs.HoPrograms.{is_among}
use Rattle.kl_ho.specs.Nodes.{nodes, nodes_all, nodes_fields, nodes_quals, nodes_branches, nodes_steps}
use Rattle.kl_ho.specs.Expansion.{Scope, New, HidesNone, Becomes, Expands, e_call, e_unfold, e_rec, e_extend, e_inj, e_coll, e_comp, e_if, e_let, e_case, e_path, e_not, e_neg, e_chain, ExpandAll, a_more, FieldsExpand, f_skip, f_more, QualsExpand, q_draw, q_test, BranchesExpand, b_otherwise, b_more, StepsExpand, s_more}
use Rattle.kl_ho.specs.KeptPrograms.{begins}
use Rattle.kl_ho.specs.Growing.{scope_of, made, too_big, told, Gives, AnyExp, AnyAll, AnyFields, AnyQuals, AnyBranches, AnySteps, Passes, Makes}
use Rattle.kl_ho.proofs.Ending.{left, right}
use Rattle.kl_ho.proofs.Counting.{some_none}

-- ---- names

pub begins_new : (base x : Name) → begins base (base ++ x) ≡ true
begins_new base x = rw (take-append_seam base x) (same_label base)

pub hides_none : (base x : Name) (V : List Name) → HidesNone x (base ++ x) (scope_of base V)
hides_none base x [] = tt
hides_none base x (v ∷ V) =
    ((λ e. let s : v ≡ x = append_cancel_left base v x (same_text (base ++ v) (base ++ x) (sym e)) in rw s (same_label x)), hides_none base x V)

abbrev new_if : Name → Name → Bool → Option Name
new_if base x b = cond b (Some (base ++ x)) None

seen_new : (base x : Name) (V : List Name) → field x (scope_of base V) ≡ new_if base x (is_among x V)
seen_new base x [] = refl
seen_new base x (v ∷ V) = by_name (same_name x v) refl (seen_new base x V)
  where
    by_name : (b : Bool) → same_name x v ≡ b → field x (scope_of base V) ≡ new_if base x (is_among x V)
        → cond b (Some (base ++ v)) (field x (scope_of base V)) ≡ new_if base x (b || is_among x V)
    by_name true e h = ap (λ z. Some (base ++ z)) (sym (same_text x v (sym e)))
    by_name false e h = h

pub renamed_new : (base : Name) (V : List Name) (x y : Name) → is_among x V ≡ true → y ≡ base ++ x → Becomes (begins base) (scope_of base V) x y
renamed_new base V x y e q = rw (seen_new base x V, e) q

pub renamed_old : (base : Name) (V : List Name) (x y : Name) → is_among x V ≡ false → y ≡ x → begins base y ≡ false → Becomes (begins base) (scope_of base V) x y
renamed_old base V x y e q n = rw (seen_new base x V, e) (q, subst (λ z. begins base z ≡ false) q n)

pub becomes_new : {E : Type 0} (base : Name) (V : List Name) (x : Name) (r : Result Name E) → is_among x V ≡ true → IfOk r (λ y. y ≡ base ++ x) → IfOk r (λ y. Becomes (begins base) (scope_of base V) x y)
becomes_new base V x (Ok y) e h = renamed_new base V x y e h
becomes_new base V x (Err z) e h = tt

pub becomes_old : {E : Type 0} (base : Name) (V : List Name) (x : Name) (r : Result Name E) → is_among x V ≡ false → IfOk r (λ y. y ≡ x) → IfOk r (λ y. begins base y ≡ false)
    → IfOk r (λ y. Becomes (begins base) (scope_of base V) x y)
becomes_old base V x (Ok y) e h n = renamed_old base V x y e h n
becomes_old base V x (Err z) e h n = tt

-- ---- parts

-- expansions of a part at a depth, and at any; all have one size
pub record Part {T : Type 0} (At : ℕ → T → Type 0) (Any : T → Type 0) (size : T → ℕ) : Type 0 where
  pub any : (n : ℕ) (x : T) → At n x → Any x
  pub same : (x y : T) → Any x → Any y → size x ≡ size y
  pub up : (n m : ℕ) (x : T) → n ≤ m → At n x → At m x

module _ {A T : Type 0} (AtP : ℕ → A → Type 0) (AnyP : A → Type 0) (sizeP : A → ℕ) (AtQ : ℕ → T → Type 0) (AnyQ : T → Type 0) (sizeQ : T → ℕ) where
  -- made of one part
  pub one_made : (k t b : ℕ) → t ≡ k + b → (f : A → T) → ((n : ℕ) (x : A) → AtP n x → (l : ℕ) × AtQ l (f x)) → ((x : A) → sizeQ (f x) ≡ k + sizeP x)
      → (x : A) (c : ℕ) → Gives AtP AnyP sizeP b (made x c) → Gives AtQ AnyQ sizeQ t (made (f x) c)
  one_made k t b e f join sizes x c h =
      let j = join h.0 x h.1 in
      (j.0, j.1, omega (arith, e, h.2, sizes x))

  pub one_told : {X Y : Type 0} (va : X → A) (vy : Y → T) (g : X → Y) (k t b c : ℕ) → t ≡ k + b → (f : A → T) → ((x : X) → vy (g x) ≡ f (va x)) → ((n : ℕ) (x : A) → AtP n x → (l : ℕ) × AtQ l (f x))
      → ((x : A) → sizeQ (f x) ≡ k + sizeP x) → ((w : T) → AnyQ w → (x : A) × AnyP x × (sizeQ w ≡ k + sizeP x)) → (ra : Result X Stop) (r : Result Y Stop) → Gives AtP AnyP sizeP b (told va ra c)
      → Passes ra r (λ x. Makes r (λ y. y ≡ g x)) → Gives AtQ AnyQ sizeQ t (told vy r c)
  one_told va vy g k t b c e f seen join sizes split (Ok x) (Ok y) h p = rw (ap vy p ∙ seen x) (one_made k t b e f join sizes (va x) c h)
  one_told va vy g k t b c e f seen join sizes split (Ok x) (Err TooBig) h p = absurd p
  one_told va vy g k t b c e f seen join sizes split (Ok x) (Err NoMemory) h p = tt
  one_told va vy g k t b c e f seen join sizes split (Err TooBig) r h p = rw p (λ w a. let s = split w a in omega (arith, e, h s.0 s.1, s.2))
  one_told va vy g k t b c e f seen join sizes split (Err NoMemory) r h p = rw p tt

module _ {A B T : Type 0} (AtP : ℕ → A → Type 0) (AnyP : A → Type 0) (sizeP : A → ℕ) (AtR : ℕ → B → Type 0) (AnyR : B → Type 0) (sizeR : B → ℕ)
    (AtQ : ℕ → T → Type 0) (AnyQ : T → Type 0) (sizeQ : T → ℕ) (P : Part AtP AnyP sizeP) (R : Part AtR AnyR sizeR) where
  -- made of two parts
  pub two_made : (k t b d c : ℕ) → t ≡ k + b → (f : A → B → T) → ((n : ℕ) (x : A) (y : B) → AtP n x → AtR n y → (l : ℕ) × AtQ l (f x y)) → ((x : A) (y : B) → sizeQ (f x y) ≡ k + (sizeP x + sizeR y))
      → (x : A) (y : B) → Gives AtP AnyP sizeP b (made x d) → Gives AtR AnyR sizeR d (made y c) → Gives AtQ AnyQ sizeQ t (made (f x y) c)
  two_made k t b d c e f join sizes x y h g =
      let n = h.0 + g.0 in
      let j = join n x y (P.up h.0 n x (left h.0 g.0) h.1) (R.up g.0 n y (right h.0 g.0) g.1) in
      (j.0, j.1, omega (arith, e, h.2, g.2, sizes x y))

  pub second_big : (k t b d : ℕ) → t ≡ k + b → ((w : T) → AnyQ w → (x : A) × (y : B) × AnyP x × AnyR y × (sizeQ w ≡ k + (sizeP x + sizeR y)))
      → (x : A) → Gives AtP AnyP sizeP b (made x d) → Gives AtR AnyR sizeR d too_big → Gives AtQ AnyQ sizeQ t too_big
  second_big k t b d e split x h g = λ w a. let s = split w a in omega (arith, e, h.2, P.same x s.0 (P.any h.0 x h.1) s.2, g s.1 s.3, s.4)

  pub first_of_two_big : (k t b : ℕ) → t ≡ k + b → ((w : T) → AnyQ w → (x : A) × (y : B) × AnyP x × AnyR y × (sizeQ w ≡ k + (sizeP x + sizeR y)))
      → Gives AtP AnyP sizeP b too_big → Gives AtQ AnyQ sizeQ t too_big
  first_of_two_big k t b e split h = λ w a. let s = split w a in omega (arith, e, h s.0 s.2, s.4)

  pub two_told : {X Y Z : Type 0} (va : X → A) (vb : Y → B) (vz : Z → T) (g : X → Y → Z) (k t b d c : ℕ) → t ≡ k + b → (f : A → B → T) → ((x : X) (y : Y) → vz (g x y) ≡ f (va x) (vb y))
      → ((n : ℕ) (x : A) (y : B) → AtP n x → AtR n y → (l : ℕ) × AtQ l (f x y)) → ((x : A) (y : B) → sizeQ (f x y) ≡ k + (sizeP x + sizeR y))
      → ((w : T) → AnyQ w → (x : A) × (y : B) × AnyP x × AnyR y × (sizeQ w ≡ k + (sizeP x + sizeR y))) → (ra : Result X Stop) (rb : Result Y Stop) (r : Result Z Stop)
      → Gives AtP AnyP sizeP b (told va ra d) → Gives AtR AnyR sizeR d (told vb rb c) → Passes ra r (λ x. Passes rb r (λ y. Makes r (λ z. z ≡ g x y))) → Gives AtQ AnyQ sizeQ t (told vz r c)
  two_told va vb vz g k t b d c e f seen join sizes split (Ok x) (Ok y) (Ok z) h i p = rw (ap vz p ∙ seen x y) (two_made k t b d c e f join sizes (va x) (vb y) h i)
  two_told va vb vz g k t b d c e f seen join sizes split (Ok x) (Ok y) (Err TooBig) h i p = absurd p
  two_told va vb vz g k t b d c e f seen join sizes split (Ok x) (Ok y) (Err NoMemory) h i p = tt
  two_told va vb vz g k t b d c e f seen join sizes split (Ok x) (Err TooBig) r h i p = rw p (second_big k t b d e split (va x) h i)
  two_told va vb vz g k t b d c e f seen join sizes split (Ok x) (Err NoMemory) r h i p = rw p tt
  two_told va vb vz g k t b d c e f seen join sizes split (Err TooBig) rb r h i p = rw p (first_of_two_big k t b e split h)
  two_told va vb vz g k t b d c e f seen join sizes split (Err NoMemory) rb r h i p = rw p tt

pub some_node : (x : Exp) → 0 < nodes x
some_node (Const v) = omega arith
some_node (name x) = omega arith
some_node (Call f es) = omega arith
some_node (Rec fs) = omega arith
some_node (More fs a) = omega arith
some_node (Inj l a) = omega arith
some_node (Coll k es) = omega arith
some_node (Comp k e qs) = omega arith
some_node (If a b c) = omega arith
some_node (Let p a b) = omega arith
some_node (Case a bs) = omega arith
some_node (Path a ls) = omega arith
some_node (Not a) = omega arith
some_node (Neg a) = omega arith
some_node (Chain a ss) = omega arith

module _ (highers : Highers) where
  module _ {is_new : New} where
    pub call_split : {n : ℕ} {funs : Funs} {S : Scope} {f : Word} {es : Exps} {w : Exp} → highers (head funs f.text) ≡ None → Expands is_new highers n funs S (Call f es) w
        → (xs : Exps) × AnyAll highers es funs xs × (nodes w ≡ 1 + nodes_all xs)
    call_split {n = n} {S = S} q (e_call {fs = fs} i t a h) = (fs, (is_new, S, n, h), omega arith)
    call_split q (e_unfold d given found g fs p b) = absurd (some_none found q)

    pub unfold_split : {n : ℕ} {funs : Funs} {S : Scope} {f : Word} {fs : Flds} {w : Exp} (h : Higher) (given : Funs) → highers (head funs f.text) ≡ Some h → given_by h.handed fs funs ≡ Some given
        → Expands is_new highers n funs S (Call f (exps (Rec fs) no_exps)) w → (gs : Flds) × (x : Exp) × AnyFields highers fs h.handed funs gs × AnyExp highers h.body given x × (nodes w ≡ 2 + (nodes_fields gs + nodes x))
    unfold_split h given q g (e_call i t a es) = absurd (some_none q i)
    unfold_split h given q g (e_unfold {n = n} {funs = funs} {S = S} {T = T} {fs = fs} {gs = gs} {b = b} d others found i r p x) =
        let one : d ≡ h = same_Some d h (sym found ∙ q) in
        let two : others ≡ given = same_Some others given (sym i ∙ subst (λ z. given_by z.handed fs funs ≡ Some given) (sym one) g) in (
          gs,
          b,
          (is_new, S, suc n, subst (λ z. FieldsExpand is_new highers (suc n) funs S z.handed fs gs) one r),
          (is_new, T, n, subst (λ z. Expands is_new highers n z T h.body b) two (subst (λ z. Expands is_new highers n others T z.body b) one x)),
          omega arith,
        )

    pub rec_split : {n : ℕ} {funs : Funs} {S : Scope} {fs : Flds} {w : Exp} → Expands is_new highers n funs S (Rec fs) w → (gs : Flds) × AnyFields highers fs [] funs gs × (nodes w ≡ 1 + nodes_fields gs)
    rec_split {n = n} {S = S} (e_rec {gs = gs} h) = (gs, (is_new, S, n, h), omega arith)

    pub more_split : {n : ℕ} {funs : Funs} {S : Scope} {fs : Flds} {a w : Exp} → Expands is_new highers n funs S (More fs a) w
        → (gs : Flds) × (x : Exp) × AnyFields highers fs [] funs gs × AnyExp highers a funs x × (nodes w ≡ 1 + (nodes_fields gs + nodes x))
    more_split {n = n} {S = S} (e_extend {gs = gs} {x = x} h k) = (gs, x, (is_new, S, n, h), (is_new, S, n, k), omega arith)

    pub inj_split : {n : ℕ} {funs : Funs} {S : Scope} {l : Word} {a w : Exp} → Expands is_new highers n funs S (Inj l a) w → (x : Exp) × AnyExp highers a funs x × (nodes w ≡ 1 + nodes x)
    inj_split {n = n} {S = S} (e_inj {b = b} t h) = (b, (is_new, S, n, h), omega arith)

    pub coll_split : {n : ℕ} {funs : Funs} {S : Scope} {k : _} {es : Exps} {w : Exp} → Expands is_new highers n funs S (Coll k es) w → (xs : Exps) × AnyAll highers es funs xs × (nodes w ≡ 1 + nodes_all xs)
    coll_split {n = n} {S = S} (e_coll {fs = fs} h) = (fs, (is_new, S, n, h), omega arith)

    pub comp_split : {n : ℕ} {funs : Funs} {S : Scope} {k : _} {a w : Exp} {qs : Quals} → Expands is_new highers n funs S (Comp k a qs) w
        → (rs : Quals) × (x : Exp) × AnyQuals highers qs funs rs × AnyExp highers a funs x × (nodes w ≡ 1 + (nodes_quals rs + nodes x))
    comp_split {n = n} {S = S} (e_comp {T = T} {b = b} {rs = rs} h k) = (rs, b, (is_new, S, n, T, h), (is_new, T, n, k), omega arith)

    pub if_split : {n : ℕ} {funs : Funs} {S : Scope} {a b c w : Exp} → Expands is_new highers n funs S (If a b c) w
        → (x y z : Exp) × AnyExp highers a funs x × AnyExp highers b funs y × AnyExp highers c funs z × (nodes w ≡ 1 + (nodes x + (nodes y + nodes z)))
    if_split {n = n} {S = S} (e_if {x = x} {y = y} {z = z} h k i) = (x, y, z, (is_new, S, n, h), (is_new, S, n, k), (is_new, S, n, i), omega arith)

    pub let_split : {n : ℕ} {funs : Funs} {S : Scope} {p : Pat} {a b w : Exp} → Expands is_new highers n funs S (Let p a b) w
        → (x : Exp) × (y : Exp) × AnyExp highers a funs x × AnyExp highers b funs y × (nodes w ≡ 1 + (nodes x + nodes y))
    let_split {n = n} {S = S} (e_let {T = T} {x = x} {y = y} h p k) = (x, y, (is_new, S, n, h), (is_new, T, n, k), omega arith)

    pub case_split : {n : ℕ} {funs : Funs} {S : Scope} {a w : Exp} {bs : Branches} → Expands is_new highers n funs S (Case a bs) w
        → (x : Exp) × (cs : Branches) × AnyExp highers a funs x × AnyBranches highers bs funs cs × (nodes w ≡ 1 + (nodes x + nodes_branches cs))
    case_split {n = n} {S = S} (e_case {x = x} {cs = cs} h k) = (x, cs, (is_new, S, n, h), (is_new, S, n, k), omega arith)

    pub path_split : {n : ℕ} {funs : Funs} {S : Scope} {ls : List Word} {a w : Exp} → Expands is_new highers n funs S (Path a ls) w → (x : Exp) × AnyExp highers a funs x × (nodes w ≡ 1 + nodes x)
    path_split {n = n} {S = S} (e_path {x = x} t h) = (x, (is_new, S, n, h), omega arith)

    pub not_split : {n : ℕ} {funs : Funs} {S : Scope} {a w : Exp} → Expands is_new highers n funs S (Not a) w → (x : Exp) × AnyExp highers a funs x × (nodes w ≡ 1 + nodes x)
    not_split {n = n} {S = S} (e_not {x = x} h) = (x, (is_new, S, n, h), omega arith)

    pub neg_split : {n : ℕ} {funs : Funs} {S : Scope} {a w : Exp} → Expands is_new highers n funs S (Neg a) w → (x : Exp) × AnyExp highers a funs x × (nodes w ≡ 1 + nodes x)
    neg_split {n = n} {S = S} (e_neg {x = x} h) = (x, (is_new, S, n, h), omega arith)

    pub chain_split : {n : ℕ} {funs : Funs} {S : Scope} {a w : Exp} {ss : Steps} → Expands is_new highers n funs S (Chain a ss) w
        → (x : Exp) × (rs : Steps) × AnyExp highers a funs x × AnySteps highers ss funs rs × (nodes w ≡ 1 + (nodes x + nodes_steps rs))
    chain_split {n = n} {S = S} (e_chain {x = x} {rs = rs} h k) = (x, rs, (is_new, S, n, h), (is_new, S, n, k), omega arith)

    pub all_split : {n : ℕ} {funs : Funs} {S : Scope} {e : Exp} {es ws : Exps} → ExpandAll is_new highers n funs S (exps e es) ws
        → (x : Exp) × (xs : Exps) × AnyExp highers e funs x × AnyAll highers es funs xs × (nodes_all ws ≡ 0 + (nodes x + nodes_all xs))
    all_split {n = n} {S = S} (a_more {x = x} {xs = xs} h k) = (x, xs, (is_new, S, n, h), (is_new, S, n, k), omega arith)

    pub skip_split : {n : ℕ} {funs : Funs} {S : Scope} {skips : List (Name × Name)} {l : Word} {e : Exp} {fs gs : Flds} → is_some (field l.text skips) ≡ true → FieldsExpand is_new highers n funs S skips (flds l e fs) gs
        → FieldsExpand is_new highers n funs S skips fs gs
    skip_split q (f_skip s h) = h
    skip_split q (f_more s t a h) = absurd (true≢false (sym q ∙ ap is_some s))

    pub field_split : {n : ℕ} {funs : Funs} {S : Scope} {skips : List (Name × Name)} {l : Word} {e : Exp} {fs gs : Flds} → is_some (field l.text skips) ≡ false → FieldsExpand is_new highers n funs S skips (flds l e fs) gs
        → (x : Exp) × (hs : Flds) × AnyExp highers e funs x × AnyFields highers fs skips funs hs × (nodes_fields gs ≡ 0 + (nodes x + nodes_fields hs))
    field_split q (f_skip s h) = absurd (true≢false (sym s ∙ q))
    field_split {n = n} {S = S} q (f_more {x = x} {gs = hs} s t a h) = (x, hs, (is_new, S, n, a), (is_new, S, n, h), omega arith)

    pub draw_split : {n : ℕ} {funs : Funs} {S T : Scope} {p : Pat} {e : Exp} {qs ws : Quals} → QualsExpand is_new highers n funs S (draw p e qs) ws T
        → (x : Exp) × (rs : Quals) × AnyExp highers e funs x × AnyQuals highers qs funs rs × (nodes_quals ws ≡ 0 + (nodes x + nodes_quals rs))
    draw_split {n = n} {S = S} (q_draw {T = T} {U = U} {x = x} {rs = rs} h p k) = (x, rs, (is_new, S, n, h), (is_new, T, n, U, k), omega arith)

    pub test_split : {n : ℕ} {funs : Funs} {S T : Scope} {e : Exp} {qs ws : Quals} → QualsExpand is_new highers n funs S (test e qs) ws T
        → (x : Exp) × (rs : Quals) × AnyExp highers e funs x × AnyQuals highers qs funs rs × (nodes_quals ws ≡ 0 + (nodes x + nodes_quals rs))
    test_split {n = n} {S = S} (q_test {U = U} {x = x} {rs = rs} h k) = (x, rs, (is_new, S, n, h), (is_new, S, n, U, k), omega arith)

    pub otherwise_split : {n : ℕ} {funs : Funs} {S : Scope} {e : Exp} {ws : Branches} → BranchesExpand is_new highers n funs S (otherwise e) ws → (x : Exp) × AnyExp highers e funs x × (nodes_branches ws ≡ 0 + nodes x)
    otherwise_split {n = n} {S = S} (b_otherwise {x = x} h) = (x, (is_new, S, n, h), omega arith)

    pub branch_split : {n : ℕ} {funs : Funs} {S : Scope} {l : Word} {p : Pat} {e : Exp} {bs ws : Branches} → BranchesExpand is_new highers n funs S (branch l p e bs) ws
        → (x : Exp) × (cs : Branches) × AnyExp highers e funs x × AnyBranches highers bs funs cs × (nodes_branches ws ≡ 0 + (nodes x + nodes_branches cs))
    branch_split {n = n} {S = S} (b_more {T = T} {x = x} {cs = cs} t p h k) = (x, cs, (is_new, T, n, h), (is_new, S, n, k), omega arith)

    pub step_split : {n : ℕ} {funs : Funs} {S : Scope} {c : _} {e : Exp} {ss ws : Steps} → StepsExpand is_new highers n funs S (step c e ss) ws
        → (x : Exp) × (rs : Steps) × AnyExp highers e funs x × AnySteps highers ss funs rs × (nodes_steps ws ≡ 0 + (nodes x + nodes_steps rs))
    step_split {n = n} {S = S} (s_more {x = x} {rs = rs} h k) = (x, rs, (is_new, S, n, h), (is_new, S, n, k), omega arith)
