-- Programs as definitions see them: trees whose lists are data of their own. Words keep their tokens and meanings.
use Rattle.std.specs.Prelude.{ℕ, List}
use Rattle.kl_value.specs.declared.value.Kind.{Kind}
use Rattle.kl_value.specs.declared.value.Value.{Value}
use Rattle.kl_syntax.specs.declared.tree.Op.{Op}
use Rattle.kl_syntax.specs.declared.tree.Tail.{Tail}
use Rattle.kl_syntax.specs.declared.tree.Word.{Word}

mutual
  pub data Pat : Type 0 where
    catch : Word → Pat
    any : Pat
    same : Word → Pat
    -- a constant and its first token
    is : Value → ℕ → Pat
    -- a record's fields, and how it ends
    shape : Pats → Tail → Pat
    variant : Word → Pat → Pat

  pub data Pats : Type 0 where
    no_pats : Pats
    pats : Word → Pat → Pats → Pats

mutual
  pub data Exp : Type 0 where
    Const : Value → Exp
    name : Word → Exp
    Call : Word → Exps → Exp
    Rec : Flds → Exp
    -- the fields before `...`, and what stands behind it
    More : Flds → Exp → Exp
    Inj : Word → Exp → Exp
    Coll : Kind → Exps → Exp
    Comp : Kind → Exp → Quals → Exp
    If : Exp → Exp → Exp → Exp
    Let : Pat → Exp → Exp → Exp
    Case : Exp → Branches → Exp
    Path : Exp → List Word → Exp
    Not : Exp → Exp
    Neg : Exp → Exp
    Chain : Exp → Steps → Exp

  pub data Exps : Type 0 where
    no_exps : Exps
    exps : Exp → Exps → Exps

  pub data Flds : Type 0 where
    no_flds : Flds
    flds : Word → Exp → Flds → Flds

  pub data Quals : Type 0 where
    no_quals : Quals
    draw : Pat → Exp → Quals → Quals
    test : Exp → Quals → Quals

  -- the last is what stands behind `otherwise`
  pub data Branches : Type 0 where
    no_branches : Branches
    otherwise : Exp → Branches
    branch : Word → Pat → Exp → Branches → Branches

  pub data Steps : Type 0 where
    no_steps : Steps
    step : Op → Exp → Steps → Steps

-- definitions in their order: names of expressions, and functions
pub data Decls : Type 0 where
  no_decls : Decls
  constant : Word → Exp → Decls → Decls
  function : Word → Pat → Exp → Decls → Decls
