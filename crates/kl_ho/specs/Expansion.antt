-- Expansions: each call of a definition with function fields is replaced by the body of that definition.
use Rattle.std.specs.Prelude.{◌≡◌, ℕ, suc, Bool, true, false, List, [], ◌∷◌, Option, Some, None, IsSome}
use Rattle.std.specs.List.{AllByRecursion}
use Rattle.kl_base.specs.Fields.{field}
use Rattle.kl_value.specs.declared.Kind.{Kind}
use Rattle.kl_value.specs.declared.Value.{Value}
use Rattle.kl_outcome.specs.Outcome.{Name}
use Rattle.kl_syntax.specs.declared.tree.Op.{Op}
use Rattle.kl_syntax.specs.declared.tree.Tail.TheVariants as tail
use Rattle.kl_syntax.specs.declared.tree.Tail.{Tail}
use Rattle.kl_syntax.specs.declared.tree.Word.{Word}
use Rattle.kl_syntax.specs.Syntax.{Pat, catch, any, same, is, shape, variant, Pats, no_pats, pats, Exp, Const, name, Call, Rec}
use Rattle.kl_syntax.specs.Syntax.{More, Inj, Coll, Comp, If, Let, Case, Path, Not, Neg, Chain, Exps, no_exps, exps, Flds}
use Rattle.kl_syntax.specs.Syntax.{no_flds, flds, Quals, no_quals, draw, test, Branches, no_branches, otherwise, branch, Steps}
use Rattle.kl_syntax.specs.Syntax.{no_steps, step}
use Rattle.kl_meaning.specs.Match.{same_name}
use Rattle.kl_ho.specs.Highers.{Higher, Highers, Funs, head, given_by}

-- the new name of each variable that the given program sees at a place, the last bound first
abbrev pub Scope : Type 0
Scope = List (Name × Name)

-- which names are new: those of the variables of an expansion, and no others
abbrev pub New : Type 0
New = Name → Bool

-- a variable becomes its new name; any other name stays, and is none of the new ones
abbrev pub BecomesBy : New → Option Name → Name → Name → Type 0
BecomesBy is_new (Some z) x y = y ≡ z
BecomesBy is_new None x y = (y ≡ x) × (is_new x ≡ false)

abbrev pub Becomes : New → Scope → Name → Name → Type 0
Becomes is_new S x y = BecomesBy is_new (field x S) x y

-- no other variable that is seen has the new name
abbrev pub HidesNone : Name → Name → Scope → Type 0
HidesNone x y seen = AllByRecursion (λ s. same_name s.1 y ≡ true → same_name s.0 x ≡ true) seen

-- how a record pattern ends; the variable of the rest hides the others
pub data TailBecomes (is_new : New) : Scope → Tail → Tail → Scope → Type 0 where
  t_exact : {S : Scope} → TailBecomes is_new S tail.Exact tail.Exact S
  t_open : {S : Scope} → TailBecomes is_new S tail.Open tail.Open S
  t_rest : {S : Scope} {x y : Word} → is_new y.text ≡ true → HidesNone x.text y.text S
      → TailBecomes is_new S (tail.Rest x) (tail.Rest y) ((x.text, y.text) ∷ S)

-- a pattern with new names for its variables, which hide what the given ones hide; bare names are looked up outside it
mutual
  pub data PatBecomes (is_new : New) (outside : Scope) : Scope → Pat → Pat → Scope → Type 0 where
    p_catch : {S : Scope} {x y : Word} → is_new y.text ≡ true → HidesNone x.text y.text S → PatBecomes is_new outside S (catch x) (catch y) ((x.text, y.text) ∷ S)
    p_any : {S : Scope} → PatBecomes is_new outside S any any S
    p_same : {S : Scope} {x y : Word} → Becomes is_new outside x.text y.text → PatBecomes is_new outside S (same x) (same y) S
    p_is : {S : Scope} {v : Value} {m n : ℕ} → PatBecomes is_new outside S (is v m) (is v n) S
    p_shape : {S T U : Scope} {ps qs : Pats} {end close : Tail} → PatsBecome is_new outside S ps qs T → TailBecomes is_new T end close U
        → PatBecomes is_new outside S (shape ps end) (shape qs close) U
    p_variant : {S T : Scope} {l m : Word} {p q : Pat} → m.text ≡ l.text → PatBecomes is_new outside S p q T → PatBecomes is_new outside S (variant l p) (variant m q) T

  pub data PatsBecome (is_new : New) (outside : Scope) : Scope → Pats → Pats → Scope → Type 0 where
    p_none : {S : Scope} → PatsBecome is_new outside S no_pats no_pats S
    p_more : {S T U : Scope} {l m : Word} {p q : Pat} {ps qs : Pats} → m.text ≡ l.text → PatBecomes is_new outside S p q T → PatsBecome is_new outside T ps qs U
        → PatsBecome is_new outside S (pats l p ps) (pats m q qs) U

abbrev pub texts : List Word → List Name
texts [] = []
texts (w ∷ ws) = w.text ∷ texts ws

-- an expression and its expansion, in which unfoldings nest at most n deep
mutual
  pub data Expands (is_new : New) (highers : Highers) : ℕ → Funs → Scope → Exp → Exp → Type 0 where
    e_const : {n : ℕ} {funs : Funs} {S : Scope} {v : Value} → Expands is_new highers n funs S (Const v) (Const v)
    e_name : {n : ℕ} {funs : Funs} {S : Scope} {x y : Word} → Becomes is_new S x.text y.text → Expands is_new highers n funs S (name x) (name y)
    e_call : {n : ℕ} {funs : Funs} {S : Scope} {f g : Word} {es fs : Exps} → highers (head funs f.text) ≡ None → g.text ≡ head funs f.text → is_new g.text ≡ false
        → ExpandAll is_new highers n funs S es fs → Expands is_new highers n funs S (Call f es) (Call g fs)
    -- an unfolding
    e_unfold : {n : ℕ} {funs : Funs} {S T : Scope} {f : Word} {fs gs : Flds} {q : Pat} {b : Exp} (h : Higher) (given : Funs)
        → highers (head funs f.text) ≡ Some h → given_by h.handed fs funs ≡ Some given → FieldsExpand is_new highers (suc n) funs S h.handed fs gs
        → PatBecomes is_new [] [] (shape h.rest tail.Exact) q T → Expands is_new highers n given T h.body b
        → Expands is_new highers (suc n) funs S (Call f (exps (Rec fs) no_exps)) (Let q (Rec gs) b)
    e_rec : {n : ℕ} {funs : Funs} {S : Scope} {fs gs : Flds} → FieldsExpand is_new highers n funs S [] fs gs → Expands is_new highers n funs S (Rec fs) (Rec gs)
    e_extend : {n : ℕ} {funs : Funs} {S : Scope} {fs gs : Flds} {a x : Exp} → FieldsExpand is_new highers n funs S [] fs gs → Expands is_new highers n funs S a x
        → Expands is_new highers n funs S (More fs a) (More gs x)
    e_inj : {n : ℕ} {funs : Funs} {S : Scope} {l m : Word} {a b : Exp} → m.text ≡ l.text → Expands is_new highers n funs S a b → Expands is_new highers n funs S (Inj l a) (Inj m b)
    e_coll : {n : ℕ} {funs : Funs} {S : Scope} {k : Kind} {es fs : Exps} → ExpandAll is_new highers n funs S es fs → Expands is_new highers n funs S (Coll k es) (Coll k fs)
    e_comp : {n : ℕ} {funs : Funs} {S T : Scope} {k : Kind} {a b : Exp} {qs rs : Quals} → QualsExpand is_new highers n funs S qs rs T → Expands is_new highers n funs T a b
        → Expands is_new highers n funs S (Comp k a qs) (Comp k b rs)
    e_if : {n : ℕ} {funs : Funs} {S : Scope} {a b c x y z : Exp} → Expands is_new highers n funs S a x → Expands is_new highers n funs S b y → Expands is_new highers n funs S c z
        → Expands is_new highers n funs S (If a b c) (If x y z)
    e_let : {n : ℕ} {funs : Funs} {S T : Scope} {p q : Pat} {a b x y : Exp} → Expands is_new highers n funs S a x → PatBecomes is_new S S p q T → Expands is_new highers n funs T b y
        → Expands is_new highers n funs S (Let p a b) (Let q x y)
    e_case : {n : ℕ} {funs : Funs} {S : Scope} {a x : Exp} {bs cs : Branches} → Expands is_new highers n funs S a x → BranchesExpand is_new highers n funs S bs cs
        → Expands is_new highers n funs S (Case a bs) (Case x cs)
    e_path : {n : ℕ} {funs : Funs} {S : Scope} {a x : Exp} {ls ms : List Word} → texts ms ≡ texts ls → Expands is_new highers n funs S a x → Expands is_new highers n funs S (Path a ls) (Path x ms)
    e_not : {n : ℕ} {funs : Funs} {S : Scope} {a x : Exp} → Expands is_new highers n funs S a x → Expands is_new highers n funs S (Not a) (Not x)
    e_neg : {n : ℕ} {funs : Funs} {S : Scope} {a x : Exp} → Expands is_new highers n funs S a x → Expands is_new highers n funs S (Neg a) (Neg x)
    e_chain : {n : ℕ} {funs : Funs} {S : Scope} {a x : Exp} {ss rs : Steps} → Expands is_new highers n funs S a x → StepsExpand is_new highers n funs S ss rs
        → Expands is_new highers n funs S (Chain a ss) (Chain x rs)

  pub data ExpandAll (is_new : New) (highers : Highers) : ℕ → Funs → Scope → Exps → Exps → Type 0 where
    a_none : {n : ℕ} {funs : Funs} {S : Scope} → ExpandAll is_new highers n funs S no_exps no_exps
    a_more : {n : ℕ} {funs : Funs} {S : Scope} {e x : Exp} {es xs : Exps} → Expands is_new highers n funs S e x → ExpandAll is_new highers n funs S es xs
        → ExpandAll is_new highers n funs S (exps e es) (exps x xs)

  -- the fields but those at these labels
  pub data FieldsExpand (is_new : New) (highers : Highers) : ℕ → Funs → Scope → List (Name × Name) → Flds → Flds → Type 0 where
    f_none : {n : ℕ} {funs : Funs} {S : Scope} {skips : List (Name × Name)} → FieldsExpand is_new highers n funs S skips no_flds no_flds
    f_skip : {n : ℕ} {funs : Funs} {S : Scope} {skips : List (Name × Name)} {l : Word} {e : Exp} {fs gs : Flds} → IsSome (field l.text skips)
        → FieldsExpand is_new highers n funs S skips fs gs → FieldsExpand is_new highers n funs S skips (flds l e fs) gs
    f_more : {n : ℕ} {funs : Funs} {S : Scope} {skips : List (Name × Name)} {l m : Word} {e x : Exp} {fs gs : Flds} → field l.text skips ≡ None → m.text ≡ l.text
        → Expands is_new highers n funs S e x → FieldsExpand is_new highers n funs S skips fs gs → FieldsExpand is_new highers n funs S skips (flds l e fs) (flds m x gs)

  pub data QualsExpand (is_new : New) (highers : Highers) : ℕ → Funs → Scope → Quals → Quals → Scope → Type 0 where
    q_none : {n : ℕ} {funs : Funs} {S : Scope} → QualsExpand is_new highers n funs S no_quals no_quals S
    q_draw : {n : ℕ} {funs : Funs} {S T U : Scope} {p q : Pat} {e x : Exp} {qs rs : Quals} → Expands is_new highers n funs S e x → PatBecomes is_new S S p q T
        → QualsExpand is_new highers n funs T qs rs U → QualsExpand is_new highers n funs S (draw p e qs) (draw q x rs) U
    q_test : {n : ℕ} {funs : Funs} {S U : Scope} {e x : Exp} {qs rs : Quals} → Expands is_new highers n funs S e x → QualsExpand is_new highers n funs S qs rs U
        → QualsExpand is_new highers n funs S (test e qs) (test x rs) U

  pub data BranchesExpand (is_new : New) (highers : Highers) : ℕ → Funs → Scope → Branches → Branches → Type 0 where
    b_none : {n : ℕ} {funs : Funs} {S : Scope} → BranchesExpand is_new highers n funs S no_branches no_branches
    b_otherwise : {n : ℕ} {funs : Funs} {S : Scope} {e x : Exp} → Expands is_new highers n funs S e x → BranchesExpand is_new highers n funs S (otherwise e) (otherwise x)
    b_more : {n : ℕ} {funs : Funs} {S T : Scope} {l m : Word} {p q : Pat} {e x : Exp} {bs cs : Branches} → m.text ≡ l.text → PatBecomes is_new S S p q T
        → Expands is_new highers n funs T e x → BranchesExpand is_new highers n funs S bs cs → BranchesExpand is_new highers n funs S (branch l p e bs) (branch m q x cs)

  pub data StepsExpand (is_new : New) (highers : Highers) : ℕ → Funs → Scope → Steps → Steps → Type 0 where
    s_none : {n : ℕ} {funs : Funs} {S : Scope} → StepsExpand is_new highers n funs S no_steps no_steps
    s_more : {n : ℕ} {funs : Funs} {S : Scope} {c : Op} {e x : Exp} {ss rs : Steps} → Expands is_new highers n funs S e x → StepsExpand is_new highers n funs S ss rs
        → StepsExpand is_new highers n funs S (step c e ss) (step c x rs)

-- with new names of some kind for its variables, of which it sees some
abbrev pub IsExpansionAt : ℕ → Highers → Funs → Exp → Exp → Type 0
IsExpansionAt n highers funs e x = (is_new : New) × (S : Scope) × Expands is_new highers n funs S e x
