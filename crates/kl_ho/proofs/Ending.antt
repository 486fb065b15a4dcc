-- Each expression whose functions stand where their shapes let them has an expansion.
use Rattle.std.proofs.Common.{◌≡◌, ℕ, suc, zero, ◌+◌, ◌≤◌, Bool, true, false, ◌||◌, cond, IsTrue, List, [], ◌∷◌, Option, Some}
use Rattle.std.proofs.Common.{None, IsSome, is_some, refl, sym, ap, ◌∙◌, subst, true≢false, arith}
use Rattle.std.specs.Cmp.Lexicographic.{same_text}
use Rattle.std.specs.List.{AllByRecursion}
use Rattle.std.proofs.lemmas.Option.{same_Some}
use Rattle.kl_base.specs.Fields.{field}
use Rattle.kl_outcome.specs.Outcome.{Name}
use Rattle.kl_syntax.specs.declared.tree.Tail.{Tail}
use Rattle.kl_syntax.specs.declared.tree.Tail.TheVariants as tail
use Rattle.kl_syntax.specs.declared.tree.Word.{Word}
use Rattle.kl_syntax.specs.Syntax.{Pat, catch, any, same, is, shape, variant, Pats, no_pats, pats, Exp, Const, name, Call, Rec}
use Rattle.kl_syntax.specs.Syntax.{More, Inj, Coll, Comp, If, Let, Case, Path, Not, Neg, Chain, Exps, no_exps, exps, Flds}
use Rattle.kl_syntax.specs.Syntax.{no_flds, flds, Quals, no_quals, draw, test, Branches, no_branches, otherwise, branch, Steps}
use Rattle.kl_syntax.specs.Syntax.{no_steps, step}
use Rattle.kl_type.proofs.RowLemmas.{same_label}
use Rattle.kl_meaning.specs.Match.{same_name}
use Rattle.kl_ho.specs.Highers.{Higher, Highers, Funs, head, bare_at, given_by}
use Rattle.kl_ho.specs.HoPrograms.{is_among}
use Rattle.kl_ho.specs.Shapes.{Chooses, AreParams, added, IsBuilt, b_start, b_plain, b_higher, Shape, plain, with, shape_at}
use Rattle.kl_ho.specs.Shapes.{World, rest_after, names_after, names_after_all, behind_shaped, or_function, IsOfShape, HoldsAll}
use Rattle.kl_ho.specs.Shapes.{IsShapedPat, AreShapedPats, ByShape, Unless, IsShaped, IsShapedArgument, IsShapedLiteral}
use Rattle.kl_ho.specs.Shapes.{AreShaped, AreShapedFields, AreShapedQuals, AreShapedBranches, AreShapedSteps}
use Rattle.kl_ho.specs.Expansion.{Scope, New, HidesNone, BecomesBy, Becomes, PatBecomes, p_catch, p_any, p_same, p_is, p_shape}
use Rattle.kl_ho.specs.Expansion.{p_variant, TailBecomes, t_exact, t_open, t_rest, PatsBecome, p_none, p_more, Expands, e_const}
use Rattle.kl_ho.specs.Expansion.{e_name, e_call, e_unfold, e_rec, e_extend, e_inj, e_coll, e_comp, e_if, e_let, e_case, e_path}
use Rattle.kl_ho.specs.Expansion.{e_not, e_neg, e_chain, ExpandAll, a_none, a_more, FieldsExpand, f_none, f_skip, f_more}
use Rattle.kl_ho.specs.Expansion.{QualsExpand, q_none, q_draw, q_test, BranchesExpand, b_none, b_otherwise, b_more, StepsExpand}
use Rattle.kl_ho.specs.Expansion.{s_none, s_more}

-- ---- deeper unfoldings may be let in

module _ (is_new : New) (highers : Highers) where
  mutual
    pub raise : {n : ℕ} {funs : Funs} {S : Scope} {e x : Exp} → Expands is_new highers n funs S e x → (m : ℕ) → n ≤ m → Expands is_new highers m funs S e x
    raise e_const m h = e_const
    raise (e_name b) m h = e_name b
    raise (e_call n t a es) m h = e_call n t a (raise_all es m h)
    raise (e_unfold d given found g fs p b) zero h = let z : ⊥ = omega (arith, h) in absurd z
    raise (e_unfold {n = n} d given found g fs p b) (suc m) h = e_unfold d given found g (raise_fields fs (suc m) h) p (raise b m (omega (arith, h)))
    raise (e_rec fs) m h = e_rec (raise_fields fs m h)
    raise (e_extend fs a) m h = e_extend (raise_fields fs m h) (raise a m h)
    raise (e_inj t a) m h = e_inj t (raise a m h)
    raise (e_coll es) m h = e_coll (raise_all es m h)
    raise (e_comp qs a) m h = e_comp (raise_quals qs m h) (raise a m h)
    raise (e_if a b c) m h = e_if (raise a m h) (raise b m h) (raise c m h)
    raise (e_let a p b) m h = e_let (raise a m h) p (raise b m h)
    raise (e_case a bs) m h = e_case (raise a m h) (raise_branches bs m h)
    raise (e_path t a) m h = e_path t (raise a m h)
    raise (e_not a) m h = e_not (raise a m h)
    raise (e_neg a) m h = e_neg (raise a m h)
    raise (e_chain a ss) m h = e_chain (raise a m h) (raise_steps ss m h)

    pub raise_all : {n : ℕ} {funs : Funs} {S : Scope} {es xs : Exps} → ExpandAll is_new highers n funs S es xs → (m : ℕ) → n ≤ m → ExpandAll is_new highers m funs S es xs
    raise_all a_none m h = a_none
    raise_all (a_more e es) m h = a_more (raise e m h) (raise_all es m h)

    pub raise_fields : {n : ℕ} {funs : Funs} {S : Scope} {skips : List (Name × Name)} {fs gs : Flds} → FieldsExpand is_new highers n funs S skips fs gs → (m : ℕ) → n ≤ m → FieldsExpand is_new highers m funs S skips fs gs
    raise_fields f_none m h = f_none
    raise_fields (f_skip s fs) m h = f_skip s (raise_fields fs m h)
    raise_fields (f_more s t e fs) m h = f_more s t (raise e m h) (raise_fields fs m h)

    pub raise_quals : {n : ℕ} {funs : Funs} {S T : Scope} {qs rs : Quals} → QualsExpand is_new highers n funs S qs rs T → (m : ℕ) → n ≤ m → QualsExpand is_new highers m funs S qs rs T
    raise_quals q_none m h = q_none
    raise_quals (q_draw e p qs) m h = q_draw (raise e m h) p (raise_quals qs m h)
    raise_quals (q_test e qs) m h = q_test (raise e m h) (raise_quals qs m h)

    pub raise_branches : {n : ℕ} {funs : Funs} {S : Scope} {bs cs : Branches} → BranchesExpand is_new highers n funs S bs cs → (m : ℕ) → n ≤ m → BranchesExpand is_new highers m funs S bs cs
    raise_branches b_none m h = b_none
    raise_branches (b_otherwise e) m h = b_otherwise (raise e m h)
    raise_branches (b_more t p e bs) m h = b_more t p (raise e m h) (raise_branches bs m h)

    pub raise_steps : {n : ℕ} {funs : Funs} {S : Scope} {ss rs : Steps} → StepsExpand is_new highers n funs S ss rs → (m : ℕ) → n ≤ m → StepsExpand is_new highers m funs S ss rs
    raise_steps s_none m h = s_none
    raise_steps (s_more e ss) m h = s_more (raise e m h) (raise_steps ss m h)

pub left : (n m : ℕ) → n ≤ n + m
left n m = omega arith

pub right : (n m : ℕ) → m ≤ n + m
right n m = omega arith

-- ---- new names

abbrev new_names : Scope → List Name
new_names [] = []
new_names (s ∷ seen) = s.1 ∷ new_names seen

hides_none : (x y : Name) (seen : Scope) → AllByRecursion (λ z. same_name y z ≡ false) (new_names seen) → HidesNone x y seen
hides_none x y [] a = tt
hides_none x y (s ∷ seen) a = ((λ e. absurd (true≢false (sym (same_label y) ∙ ap (same_name y) (sym (same_text s.1 y (sym e))) ∙ a.0))), hides_none x y seen a.1)

-- the variables that stand for values are seen
abbrev pub AreSeen : List Name → Scope → Type 0
AreSeen V S = AllByRecursion (λ x. IsSome (field x S)) V

seen_in : (x v : Name) (V : List Name) (S : Scope) (b : Bool) → same_name x v ≡ b → IsSome (field v S) → (is_among x V ≡ true → IsSome (field x S)) → (b || is_among x V) ≡ true → IsSome (field x S)
seen_in x v V S true t h go e = subst (λ z. IsSome (field z S)) (sym (same_text x v (sym t))) h
seen_in x v V S false t h go e = go e

pub seen_among : (x : Name) (V : List Name) (S : Scope) → AreSeen V S → is_among x V ≡ true → IsSome (field x S)
seen_among x [] S h e = absurd (true≢false (sym e))
seen_among x (v ∷ V) S h e = seen_in x v V S (same_name x v) refl h.0 (λ i. seen_among x V S h.1 i) e

pub seen_still : (x y : Name) (V : List Name) (S : Scope) → AreSeen V S → AreSeen V ((x, y) ∷ S)
seen_still x y [] S h = tt
seen_still x y (v ∷ V) S h = (elim (same_name v x) as (λ b. IsSome (cond b (Some y) (field v S))) [ true ↦ refl | false ↦ h.0 ], seen_still x y V S h.1)

pub seen_bound : (x y : Name) (V : List Name) (S : Scope) → AreSeen V S → AreSeen (x ∷ V) ((x, y) ∷ S)
seen_bound x y V S h = (rw (same_label x) refl, seen_still x y V S h)

pub either_some : (b : Bool) (s : Shape) (k : Name) (o : Option Shape) (p : Option Name) → is_some o ≡ is_some p → is_some (cond b (Some s) o) ≡ is_some (cond b (Some k) p)
either_some true s k o p e = refl
either_some false s k o p e = e

-- what is made of a pattern, and what is seen behind it
pub record PatEnds (is_new : New) (O S : Scope) (p : Pat) (W : List Name) : Type 0 where
  pub pattern : Pat
  pub scope : Scope
  pub becomes : PatBecomes is_new O S p pattern scope
  pub seen : AreSeen W scope

pub record PatsEnd (is_new : New) (O S : Scope) (ps : Pats) (W : List Name) : Type 0 where
  pub patterns : Pats
  pub scope : Scope
  pub become : PatsBecome is_new O S ps patterns scope
  pub seen : AreSeen W scope

module _ (is_new : New) (highers : Highers) (choose : Chooses is_new) where
  -- ---- functions that end

  -- wherever it is put, the body of a definition has an expansion
  abbrev Ends : Higher → Funs → Type 0
  Ends h given = (n : ℕ) × (q : Pat) × (T : Scope) × (b : Exp) × PatBecomes is_new [] [] (shape h.rest tail.Exact) q T × Expands is_new highers n given T h.body b

  -- a function of this shape ends, whatever functions that end it is given for its function fields
  abbrev mutual
    pub Good : Shape → Name → Type 0
    Good plain g = (is_new g ≡ false) × (highers g ≡ None)
    Good (with l s rest) g =
        (is_new g ≡ false) × (h : Higher) × (highers g ≡ Some h) × (k : Name × Name) × (ks : List (Name × Name)) × (h.handed ≡ k ∷ ks) × (k.0 ≡ l) × AreHanded rest ks
        × ((i : Name) (given : Funs) → Good s i → GoodGiven rest ks given → Ends h ((k.1, i) ∷ given))

    -- the functions that are given for these fields
    pub GoodGiven : Shape → List (Name × Name) → Funs → Type 0
    GoodGiven plain ks given = given ≡ []
    GoodGiven (with l s rest) [] given = ⊥
    GoodGiven (with l s rest) (k ∷ ks) given = (i : Name) × (others : Funs) × (given ≡ (k.1, i) ∷ others) × Good s i × GoodGiven rest ks others

    pub AreHanded : Shape → List (Name × Name) → Type 0
    AreHanded plain ks = ks ≡ []
    AreHanded (with l s rest) [] = ⊥
    AreHanded (with l s rest) (k ∷ ks) = (k.0 ≡ l) × AreHanded rest ks

  label_handed : (s : Shape) (ks : List (Name × Name)) → AreHanded s ks → (l : Name) → is_some (shape_at l s) ≡ is_some (field l ks)
  label_handed plain ks h l = rw h refl
  label_handed (with m s rest) [] h l = absurd h
  label_handed (with m s rest) (k ∷ ks) h l = rw h.0 (either_some (same_name l m) s k.1 (shape_at l rest) (field l ks) (label_handed rest ks h.1 l))

  tail_ends : (end : Tail) (S : Scope) (W : List Name) → AreSeen W S → (close : Tail) × (T : Scope) × TailBecomes is_new S end close T × AreSeen (rest_after end W) T
  tail_ends tail.Exact S W seen = (tail.Exact, S, t_exact, seen)
  tail_ends tail.Open S W seen = (tail.Open, S, t_open, seen)
  tail_ends (tail.Rest x) S W seen =
      let y = choose (new_names S) in
      (tail.Rest (record x { text = y.0 }), (x.text, y.0) ∷ S, t_rest y.1 (hides_none x.text y.0 S y.2), seen_bound x.text y.0 W S seen)

  module _ (world : World) (sub : (x : Name) → world.taken x ≡ true → is_new x ≡ false) where
    becomes_by : (o : Option Name) (x : Name) (among : Bool) → (among ≡ true → IsSome o) → IsTrue (among || world.taken x) → (y : Name) × BecomesBy is_new o x y
    becomes_by (Some z) x among s t = (z, refl)
    becomes_by None x true s t = absurd (true≢false (sym (s refl)))
    becomes_by None x false s t = (x, (refl, sub x t))

    becomes : (x : Name) (V : List Name) (S : Scope) → AreSeen V S → IsTrue (is_among x V || world.taken x) → (y : Name) × Becomes is_new S x y
    becomes x V S seen t = becomes_by (field x S) x (is_among x V) (seen_among x V S seen) t

    module _ (params : List (Name × Shape)) (O : Scope) (V : List Name) (seen_outside : AreSeen V O) where
      mutual
        pub pat_ends : (p : Pat) (S : Scope) (W : List Name) → IsShapedPat world params p V → AreSeen W S → PatEnds is_new O S p (names_after p W)
        pat_ends (catch x) S W h seen =
            let y = choose (new_names S) in
            record {
              pattern = catch (record x { text = y.0 });
              scope = (x.text, y.0) ∷ S;
              becomes = p_catch y.1 (hides_none x.text y.0 S y.2);
              seen = seen_bound x.text y.0 W S seen;
            }
        pat_ends any S W h seen = record { pattern = any; scope = S; becomes = p_any; seen = seen }
        pat_ends (same x) S W h seen =
            let y = becomes x.text V O seen_outside h.1 in
            record { pattern = same (record x { text = y.0 }); scope = S; becomes = p_same y.1; seen = seen }
        pat_ends (is v n) S W h seen = record { pattern = is v n; scope = S; becomes = p_is; seen = seen }
        pat_ends (shape ps end) S W h seen =
            let r = pats_end ps S W h seen in
            let t = tail_ends end r.scope (names_after_all ps W) r.seen in
            record { pattern = shape r.patterns t.0; scope = t.1; becomes = p_shape r.become t.2; seen = t.3 }
        pat_ends (variant l p) S W h seen =
            let r = pat_ends p S W h seen in
            record { pattern = variant l r.pattern; scope = r.scope; becomes = p_variant refl r.becomes; seen = r.seen }

        pub pats_end : (ps : Pats) (S : Scope) (W : List Name) → AreShapedPats world params ps V → AreSeen W S → PatsEnd is_new O S ps (names_after_all ps W)
        pats_end no_pats S W h seen = record { patterns = no_pats; scope = S; become = p_none; seen = seen }
        pats_end (pats l p ps) S W h seen =
            let r = pat_ends p S W h.0 seen in
            let q = pats_end ps r.scope (names_after p W) h.1 r.seen in
            record { patterns = pats l r.pattern q.patterns; scope = q.scope; become = p_more refl r.becomes q.become; seen = q.seen }

    module _ (params : List (Name × Shape)) (funs : Funs) where
      abbrev pub HeadGood : Option Shape → Name → Type 0
      HeadGood (Some s) f = Good s (head funs f)
      HeadGood None f = IsTrue (is_some (field f params) || world.taken f) → (is_new (head funs f) ≡ false) × (highers (head funs f) ≡ None)

      module _ (heads : (f : Name) → HeadGood (or_function (field f params) (world.functions f)) f) where
        given_more : (V : List Name) (fs : Flds) (l : Name) (s rest : Shape) (k : Name × Name) (ks : List (Name × Name)) (o : Option Name) → k.0 ≡ l → bare_at l fs ≡ o → IsOfShape world params o s V
            → (given : Funs) × (given_by ks fs funs ≡ Some given) × GoodGiven rest ks given → (given : Funs) × (given_by (k ∷ ks) fs funs ≡ Some given) × GoodGiven (with l s rest) (k ∷ ks) given
        given_more V fs l s rest k ks None t e i g = absurd i
        given_more V fs l s rest k ks (Some x) t e i g =
            let here : or_function (field x params) (world.functions x) ≡ Some s = rw i.0 at i.1 in
            let good : Good s (head funs x) = subst (λ o. HeadGood o x) here (heads x) in
            ((k.1, head funs x) ∷ g.0, rw (t, e, g.1) refl, (head funs x, g.0, refl, good, g.2))

        given_ends : (V : List Name) (fs : Flds) (s : Shape) (ks : List (Name × Name)) → AreHanded s ks → HoldsAll world params s fs V
            → (given : Funs) × (given_by ks fs funs ≡ Some given) × GoodGiven s ks given
        given_ends V fs plain ks a h = ([], rw a refl, refl)
        given_ends V fs (with l s rest) [] a h = absurd a
        given_ends V fs (with l s rest) (k ∷ ks) a h = given_more V fs l s rest k ks (bare_at l fs) a.0 refl h.0 (given_ends V fs rest ks a.1 h.1)

        -- what is made of each part
        abbrev EndsAt : Exp → Scope → Type 0
        EndsAt e S = (n : ℕ) × (x : Exp) × Expands is_new highers n funs S e x

        abbrev AllEnd : Exps → Scope → Type 0
        AllEnd es S = (n : ℕ) × (xs : Exps) × ExpandAll is_new highers n funs S es xs

        abbrev FieldsEnd : List (Name × Name) → Flds → Scope → Type 0
        FieldsEnd ks fs S = (n : ℕ) × (gs : Flds) × FieldsExpand is_new highers n funs S ks fs gs

        abbrev QualsEnd : Quals → Scope → List Name → Type 0
        QualsEnd qs S W = (n : ℕ) × (rs : Quals) × (T : Scope) × QualsExpand is_new highers n funs S qs rs T × AreSeen W T

        abbrev BranchesEnd : Branches → Scope → Type 0
        BranchesEnd bs S = (n : ℕ) × (cs : Branches) × BranchesExpand is_new highers n funs S bs cs

        abbrev StepsEnd : Steps → Scope → Type 0
        StepsEnd ss S = (n : ℕ) × (rs : Steps) × StepsExpand is_new highers n funs S ss rs

        abbrev ArgumentEnds : Exps → List (Name × Name) → Shape → Scope → List Name → Type 0
        ArgumentEnds es ks s S V = (fs : Flds) × (es ≡ exps (Rec fs) no_exps) × HoldsAll world params s fs V × FieldsEnd ks fs S

        unfold_ends : (f : Word) (es : Exps) (V : List Name) (S : Scope) (l : Name) (s rest : Shape) → Good (with l s rest) (head funs f.text)
            → ((ks : List (Name × Name)) → AreHanded (with l s rest) ks → ArgumentEnds es ks (with l s rest) S V) → EndsAt (Call f es) S
        unfold_ends f es V S l s rest (t, h, found, k, ks, e, kl, hs, goes) argument =
            let a = argument (k ∷ ks) (kl, hs) in
            let g = given_ends V a.0 (with l s rest) (k ∷ ks) (kl, hs) a.2 in
            let i = g.2 in
            let b = goes i.0 i.1 i.3 i.4 in
            let n = a.3.0 + b.0 in
            let fields = subst (λ z. FieldsExpand is_new highers (suc n) funs S z a.0 a.3.1) (sym e) (raise_fields is_new highers a.3.2 (suc n) (omega arith)) in
            let given = subst (λ z. given_by z a.0 funs ≡ Some g.0) (sym e) g.1 in
            let body = subst (λ z. Expands is_new highers b.0 z b.2 h.body b.3) (sym i.2) b.5 in
            let whole : Expands is_new highers (suc n) funs S (Call f (exps (Rec a.0) no_exps)) (Let b.1 (Rec a.3.1) b.3) = e_unfold h g.0 found given fields b.4 (raise is_new highers body n (right a.3.0 b.0)) in
            (suc n, Let b.1 (Rec a.3.1) b.3, subst (λ z. Expands is_new highers (suc n) funs S (Call f z) (Let b.1 (Rec a.3.1) b.3)) (sym a.1) whole)

        plain_ends : (f : Word) (es : Exps) (S : Scope) → is_new (head funs f.text) ≡ false → highers (head funs f.text) ≡ None → AllEnd es S → EndsAt (Call f es) S
        plain_ends f es S t n a =
            (a.0, Call (record f { text = head funs f.text }) a.1, e_call n refl t a.2)

        call_ends : (o : Option Shape) (f : Word) (es : Exps) (V : List Name) (S : Scope) → IsTrue (is_some (field f.text params) || world.taken f.text) → HeadGood o f.text
            → ByShape o (AreShaped world params es V) (λ s. IsShapedArgument world params s es V) → (AreShaped world params es V → AllEnd es S)
            → ((s : Shape) (ks : List (Name × Name)) → AreHanded s ks → IsShapedArgument world params s es V → ArgumentEnds es ks s S V) → EndsAt (Call f es) S
        call_ends None f es V S t g h all argument = plain_ends f es S (g t).0 (g t).1 (all h)
        call_ends (Some plain) f es V S t g h all argument = plain_ends f es S g.0 g.1 (all h)
        call_ends (Some (with l s rest)) f es V S t g h all argument = unfold_ends f es V S l s rest g (λ ks a. argument (with l s rest) ks a h)

        field_ends : (o : Option Shape) (p : Option Name) (l : Word) (e : Exp) (fs : Flds) (ks : List (Name × Name)) (V : List Name) (S : Scope) → field l.text ks ≡ p → is_some o ≡ is_some p
            → Unless o (IsShaped world params e V) → (IsShaped world params e V → EndsAt e S) → FieldsEnd ks fs S → FieldsEnd ks (flds l e fs) S
        field_ends (Some s) (Some x) l e fs ks V S q t h end r = (r.0, r.1, f_skip (ap is_some q) r.2)
        field_ends (Some s) None l e fs ks V S q t h end r = absurd (true≢false t)
        field_ends None (Some x) l e fs ks V S q t h end r = absurd (true≢false (sym t))
        field_ends None None l e fs ks V S q t h end r =
            let x = end h in
            (x.0 + r.0, flds l x.1 r.1, f_more q refl (raise is_new highers x.2 (x.0 + r.0) (left x.0 r.0)) (raise_fields is_new highers r.2 (x.0 + r.0) (right x.0 r.0)))

        mutual
          pub ends : (e : Exp) (V : List Name) (S : Scope) → IsShaped world params e V → AreSeen V S → EndsAt e S
          ends (Const v) V S h seen = (0, Const v, e_const)
          ends (name x) V S h seen = let y = becomes x.text V S seen h.1 in (0, name (record x { text = y.0 }), e_name y.1)
          ends (Call f es) V S h seen =
              call_ends (or_function (field f.text params) (world.functions f.text)) f es V S h.0.1 (heads f.text) (rw h.0.0 at h.1) (λ a. all_end es V S a seen)
              (λ s ks a i. argument_ends es s ks a V S i seen)
          ends (Rec fs) V S h seen = let r = fields_end fs plain [] refl V S h seen in (r.0, Rec r.1, e_rec r.2)
          ends (More fs a) V S h seen =
              let r = fields_end fs plain [] refl V S h.0 seen in
              let x = ends a V S h.1 seen in
              (r.0 + x.0, More r.1 x.1, e_extend (raise_fields is_new highers r.2 (r.0 + x.0) (left r.0 x.0)) (raise is_new highers x.2 (r.0 + x.0) (right r.0 x.0)))
          ends (Inj l a) V S h seen = let r = ends a V S h seen in (r.0, Inj l r.1, e_inj refl r.2)
          ends (Coll k es) V S h seen = let r = all_end es V S h seen in (r.0, Coll k r.1, e_coll r.2)
          ends (Comp k e qs) V S h seen =
              let q = quals_end qs V S h.0 seen in
              let r = ends e (behind_shaped qs V) q.2 h.1 q.4 in
              (q.0 + r.0, Comp k r.1 q.1, e_comp (raise_quals is_new highers q.3 (q.0 + r.0) (left q.0 r.0)) (raise is_new highers r.2 (q.0 + r.0) (right q.0 r.0)))
          ends (If a b c) V S h seen =
              let x = ends a V S h.0 seen in
              let y = ends b V S h.1 seen in
              let z = ends c V S h.2 seen in
              let n = x.0 + (y.0 + z.0) in
              (n, If x.1 y.1 z.1, e_if (raise is_new highers x.2 n (omega arith)) (raise is_new highers y.2 n (omega arith)) (raise is_new highers z.2 n (omega arith)))
          ends (Let p a b) V S h seen =
              let x = ends a V S h.0 seen in
              let q = pat_ends params S V seen p S V h.1 seen in
              let y = ends b (names_after p V) q.scope h.2 q.seen in
              (x.0 + y.0, Let q.pattern x.1 y.1, e_let (raise is_new highers x.2 (x.0 + y.0) (left x.0 y.0)) q.becomes (raise is_new highers y.2 (x.0 + y.0) (right x.0 y.0)))
          ends (Case a bs) V S h seen =
              let x = ends a V S h.0 seen in
              let y = branches_end bs V S h.1 seen in
              (x.0 + y.0, Case x.1 y.1, e_case (raise is_new highers x.2 (x.0 + y.0) (left x.0 y.0)) (raise_branches is_new highers y.2 (x.0 + y.0) (right x.0 y.0)))
          ends (Path a ls) V S h seen = let r = ends a V S h seen in (r.0, Path r.1 ls, e_path refl r.2)
          ends (Not a) V S h seen = let r = ends a V S h seen in (r.0, Not r.1, e_not r.2)
          ends (Neg a) V S h seen = let r = ends a V S h seen in (r.0, Neg r.1, e_neg r.2)
          ends (Chain a ss) V S h seen =
              let x = ends a V S h.0 seen in
              let y = steps_end ss V S h.1 seen in
              (x.0 + y.0, Chain x.1 y.1, e_chain (raise is_new highers x.2 (x.0 + y.0) (left x.0 y.0)) (raise_steps is_new highers y.2 (x.0 + y.0) (right x.0 y.0)))

          argument_ends : (es : Exps) (s : Shape) (ks : List (Name × Name)) → AreHanded s ks → (V : List Name) (S : Scope) → IsShapedArgument world params s es V → AreSeen V S
              → ArgumentEnds es ks s S V
          argument_ends (exps e no_exps) s ks a V S h seen =
              let r = literal_ends e s ks a V S h seen in
              (r.0, ap (λ z. exps z no_exps) r.1, r.2, r.3)
          argument_ends no_exps s ks a V S h seen = absurd h
          argument_ends (exps e (exps x es)) s ks a V S h seen = absurd h

          literal_ends : (e : Exp) (s : Shape) (ks : List (Name × Name)) → AreHanded s ks → (V : List Name) (S : Scope) → IsShapedLiteral world params s e V → AreSeen V S
              → (fs : Flds) × (e ≡ Rec fs) × HoldsAll world params s fs V × FieldsEnd ks fs S
          literal_ends (Rec fs) s ks a V S h seen = (fs, refl, h.0, fields_end fs s ks a V S h.1 seen)
          literal_ends e s ks a V S h seen = absurd h

          all_end : (es : Exps) (V : List Name) (S : Scope) → AreShaped world params es V → AreSeen V S → AllEnd es S
          all_end no_exps V S h seen = (0, no_exps, a_none)
          all_end (exps e es) V S h seen =
              let x = ends e V S h.0 seen in
              let y = all_end es V S h.1 seen in
              (x.0 + y.0, exps x.1 y.1, a_more (raise is_new highers x.2 (x.0 + y.0) (left x.0 y.0)) (raise_all is_new highers y.2 (x.0 + y.0) (right x.0 y.0)))

          fields_end : (fs : Flds) (s : Shape) (ks : List (Name × Name)) → AreHanded s ks → (V : List Name) (S : Scope) → AreShapedFields world params s fs V → AreSeen V S
              → FieldsEnd ks fs S
          fields_end no_flds s ks a V S h seen = (0, no_flds, f_none)
          fields_end (flds l e fs) s ks a V S h seen =
              field_ends (shape_at l.text s) (field l.text ks) l e fs ks V S refl (label_handed s ks a l.text) h.0 (λ i. ends e V S i seen) (fields_end fs s ks a V S h.1 seen)

          quals_end : (qs : Quals) (V : List Name) (S : Scope) → AreShapedQuals world params qs V → AreSeen V S → QualsEnd qs S (behind_shaped qs V)
          quals_end no_quals V S h seen = (0, no_quals, S, q_none, seen)
          quals_end (draw p e qs) V S h seen =
              let x = ends e V S h.0 seen in
              let q = pat_ends params S V seen p S V h.1 seen in
              let r = quals_end qs (names_after p V) q.scope h.2 q.seen in
              (x.0 + r.0, draw q.pattern x.1 r.1, r.2, q_draw (raise is_new highers x.2 (x.0 + r.0) (left x.0 r.0)) q.becomes (raise_quals is_new highers r.3 (x.0 + r.0) (right x.0 r.0)), r.4)
          quals_end (test e qs) V S h seen =
              let x = ends e V S h.0 seen in
              let r = quals_end qs V S h.1 seen in
              (x.0 + r.0, test x.1 r.1, r.2, q_test (raise is_new highers x.2 (x.0 + r.0) (left x.0 r.0)) (raise_quals is_new highers r.3 (x.0 + r.0) (right x.0 r.0)), r.4)

          branches_end : (bs : Branches) (V : List Name) (S : Scope) → AreShapedBranches world params bs V → AreSeen V S → BranchesEnd bs S
          branches_end no_branches V S h seen = (0, no_branches, b_none)
          branches_end (otherwise e) V S h seen = let x = ends e V S h seen in (x.0, otherwise x.1, b_otherwise x.2)
          branches_end (branch l p e bs) V S h seen =
              let q = pat_ends params S V seen p S V h.0 seen in
              let x = ends e (names_after p V) q.scope h.1 q.seen in
              let y = branches_end bs V S h.2 seen in
              (x.0 + y.0, branch l q.pattern x.1 y.1, b_more refl q.becomes (raise is_new highers x.2 (x.0 + y.0) (left x.0 y.0)) (raise_branches is_new highers y.2 (x.0 + y.0) (right x.0 y.0)))

          steps_end : (ss : Steps) (V : List Name) (S : Scope) → AreShapedSteps world params ss V → AreSeen V S → StepsEnd ss S
          steps_end no_steps V S h seen = (0, no_steps, s_none)
          steps_end (step c e ss) V S h seen =
              let x = ends e V S h.0 seen in
              let y = steps_end ss V S h.1 seen in
              (x.0 + y.0, step c x.1 y.1, s_more (raise is_new highers x.2 (x.0 + y.0) (left x.0 y.0)) (raise_steps is_new highers y.2 (x.0 + y.0) (right x.0 y.0)))

  -- ---- worlds of functions that end

  pub record IsGoodWorld (world : World) : Type 0 where
    pub good : (x : Name) (s : Shape) → world.functions x ≡ Some s → Good s x
    pub others : (x : Name) → world.taken x ≡ true → world.functions x ≡ None → highers x ≡ None
    pub sub : (x : Name) → world.taken x ≡ true → is_new x ≡ false

  abbrev BothAt : Option Shape → Option Name → Type 0
  BothAt (Some s) (Some g) = Good s g
  BothAt None None = Unit {0}
  BothAt _ _ = ⊥

  either_both : (b : Bool) (s : Shape) (g : Name) (o : Option Shape) (p : Option Name) → Good s g → BothAt o p → BothAt (cond b (Some s) o) (cond b (Some g) p)
  either_both true s g o p h k = h
  either_both false s g o p h k = k

  both_at : (s : Shape) (ks : List (Name × Name)) (params : List (Name × Shape)) (given : Funs) → AreParams s ks params → GoodGiven s ks given → (f : Name) → BothAt (field f params) (field f given)
  both_at plain ks params given a g f = rw (a.1, g) tt
  both_at (with l s rest) (k ∷ ks) (p ∷ ps) given a g f = rw (a.1, g.2) (either_both (same_name f k.1) s g.0 (field f ps) (field f g.1) g.3 (both_at rest ks ps g.1 a.2 g.4 f))
  both_at (with l s rest) [] params given a g f = absurd g
  both_at (with l s rest) (k ∷ ks) [] given a g f = absurd a

  heads_of : (world : World) (w : IsGoodWorld world) (params : List (Name × Shape)) (funs : Funs) → ((f : Name) → BothAt (field f params) (field f funs)) → (f : Name)
      → HeadGood world w.sub params funs (or_function (field f params) (world.functions f)) f
  heads_of world w params funs both f = by_param (field f params) (field f funs) refl refl (both f)
    where
      by_function : (o : Option Shape) → world.functions f ≡ o → field f params ≡ None → field f funs ≡ None → HeadGood world w.sub params funs o f
      by_function (Some s) e p q = rw q (w.good f s e)
      by_function None e p q = λ t. let u : world.taken f ≡ true = rw p at t in rw q (w.sub f u, w.others f u e)

      by_param : (p : Option Shape) (q : Option Name) → field f params ≡ p → field f funs ≡ q → BothAt p q → HeadGood world w.sub params funs (or_function p (world.functions f)) f
      by_param (Some s) (Some g) i j h = rw j h
      by_param None None i j h = by_function (world.functions f) refl i j
      by_param (Some s) None i j h = absurd h
      by_param None (Some g) i j h = absurd h

  higher_ends : (world : World) (w : IsGoodWorld world) (h : Higher) (params : List (Name × Shape)) (funs : Funs) → ((f : Name) → BothAt (field f params) (field f funs))
      → IsShapedPat world [] (shape h.rest tail.Exact) [] → IsShaped world params h.body (names_after (shape h.rest tail.Exact) []) → Ends h funs
  higher_ends world w h params funs both p b =
      let q = pat_ends world w.sub [] [] [] tt (shape h.rest tail.Exact) [] [] p tt in
      let x = ends world w.sub params funs (heads_of world w params funs both) h.body (names_after (shape h.rest tail.Exact) []) q.scope b q.seen in
      (x.0, q.pattern, q.scope, x.1, q.becomes, x.2)

  higher_good : (world : World) (w : IsGoodWorld world) (d l : Name) (s rest : Shape) (h : Higher) (params : List (Name × Shape)) → is_new d ≡ false → highers d ≡ Some h
      → AreParams (with l s rest) h.handed params → IsShapedPat world [] (shape h.rest tail.Exact) [] → IsShaped world params h.body (names_after (shape h.rest tail.Exact) []) → Good (with l s rest) d
  higher_good world w d l s rest h params t found a p b = by_handed h.handed refl params a (λ funs both. higher_ends world w h params funs both p b)
    where
      are_handed : (s : Shape) (ks : List (Name × Name)) (ps : List (Name × Shape)) → AreParams s ks ps → AreHanded s ks
      are_handed plain ks ps a = a.0
      are_handed (with l s rest) (k ∷ ks) (p ∷ ps) a = (a.0, are_handed rest ks ps a.2)
      are_handed (with l s rest) [] ps a = absurd a
      are_handed (with l s rest) (k ∷ ks) [] a = absurd a

      by_handed : (ks : List (Name × Name)) → h.handed ≡ ks → (ps : List (Name × Shape)) → AreParams (with l s rest) ks ps
          → ((funs : Funs) → ((f : Name) → BothAt (field f ps) (field f funs)) → Ends h funs) → Good (with l s rest) d
      by_handed (k ∷ ks) e (p ∷ ps) a go = (
        t,
        h,
        found,
        k,
        ks,
        e,
        a.0,
        are_handed rest ks ps a.2,
        λ i given gi gg. go ((k.1, i) ∷ given) (both_at (with l s rest) (k ∷ ks) (p ∷ ps) ((k.1, i) ∷ given) a (i, given, refl, gi, gg)),
      )
      by_handed [] e ps a go = absurd a
      by_handed (k ∷ ks) e [] a go = absurd a

  added_good : (world : World) (d : Name) (o : Option Shape) → IsGoodWorld world → is_new d ≡ false → ((s : Shape) → o ≡ Some s → Good s d) → (o ≡ None → highers d ≡ None) → IsGoodWorld (added world d o)
  added_good world d o w t good none =
      record {
        good = λ x s e. by_name x s (same_name x d) refl e;
        others = λ x k e. other x (same_name x d) refl k e;
        sub = λ x k. below x (same_name x d) refl k;
      }
    where
      by_name : (x : Name) (s : Shape) (b : Bool) → same_name x d ≡ b → cond b o (world.functions x) ≡ Some s → Good s x
      by_name x s true q e = subst (Good s) (sym (same_text x d (sym q))) (good s e)
      by_name x s false q e = w.good x s e

      other : (x : Name) (b : Bool) → same_name x d ≡ b → (b || world.taken x) ≡ true → cond b o (world.functions x) ≡ None → highers x ≡ None
      other x true q k e = subst (λ z. highers z ≡ None) (sym (same_text x d (sym q))) (none e)
      other x false q k e = w.others x k e

      below : (x : Name) (b : Bool) → same_name x d ≡ b → (b || world.taken x) ≡ true → is_new x ≡ false
      below x true q k = subst (λ z. is_new z ≡ false) (sym (same_text x d (sym q))) t
      below x false q k = w.sub x k

  -- in a world of definitions each of which keeps to the shapes, all functions end
  pub good_world : {world : World} → IsBuilt highers is_new world → IsGoodWorld world
  good_world (b_start f k) =
      record { good = λ x s e. let p = f x s e in subst (λ z. Good z x) (sym p.0) ((k x p.1).0, (k x p.1).1); others = λ x t e. (k x t).1; sub = λ x t. (k x t).0 }
  good_world (b_plain {world = world} d o built t none only) =
      added_good world d o (good_world built) t (λ s e. subst (λ z. Good z d) (sym (only s e)) (t, none)) (λ e. none)
  good_world (b_higher {world = world} d l s rest h params built t found a p b) =
      let w = good_world built in
      let g = higher_good world w d l s rest h params t found a p b in
      added_good world d (Some (with l s rest)) w t (λ z e. subst (λ y. Good y d) (same_Some (with l s rest) z e) g) (λ e. absurd (true≢false (ap is_some e)))

  -- over such a world an expression that keeps to the shapes has an expansion
  pub has_expansion : (world : World) → IsBuilt highers is_new world → (e : Exp) (V : List Name) (S : Scope) → IsShaped world [] e V → AreSeen V S
      → (n : ℕ) × (x : Exp) × Expands is_new highers n [] S e x
  has_expansion world built e V S h seen =
      let w = good_world built in
      ends world w.sub [] [] (heads_of world w [] [] (λ f. tt)) e V S h seen
