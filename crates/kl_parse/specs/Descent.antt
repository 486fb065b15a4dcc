-- The descent: for each word of the grammar a reader. `total`: how many tokens there are in all; `w`: how it refuses where
-- nesting may not go on.
-- No public contract cites this.
use Rattle.std.specs.Prelude.{ℕ, zero, suc, Bool, true, false, List, [], ◌∷◌, Option, Some, None, ◌⊎◌}
use Rattle.kl_lex.specs.declared.token.Sym.{Sym}
use Rattle.kl_lex.specs.declared.token.Sym.TheVariants as sym
use Rattle.kl_lex.specs.declared.token.Token.{Token}
use Rattle.kl_value.specs.declared.value.Kind.{Kind}
use Rattle.kl_value.specs.declared.value.Kind.TheVariants as kind
use Rattle.kl_lex.specs.declared.keyword.Keyword.{Keyword}
use Rattle.kl_lex.specs.declared.keyword.Keyword.TheVariants as key
use Rattle.kl_parse.specs.declared.operator.Level.{Level}
use Rattle.kl_parse.specs.declared.operator.Level.TheVariants as level
use Rattle.kl_syntax.specs.declared.tree.Word.{Word}
use Rattle.kl_syntax.specs.declared.tree.Pattern.{Pattern}
use Rattle.kl_syntax.specs.declared.tree.Pattern.TheVariants as pattern
use Rattle.kl_syntax.specs.declared.tree.Expr.{Expr}
use Rattle.kl_syntax.specs.declared.tree.Expr.TheVariants as expr
use Rattle.kl_syntax.specs.declared.tree.Qual.{Qual}
use Rattle.kl_syntax.specs.declared.tree.Qual.TheVariants as qual
use Rattle.kl_syntax.specs.declared.tree.Branch.{Branch}
use Rattle.kl_syntax.specs.declared.tree.Tail.{Tail}
use Rattle.kl_syntax.specs.declared.tree.Tail.TheVariants as tail
use Rattle.kl_syntax.specs.declared.tree.Decl.{Decl}
use Rattle.kl_syntax.specs.declared.tree.Program.{Program}
use Rattle.kl_parse.specs.Lexemes.{word_of}
use Rattle.kl_lex.specs.Brackets.{opener, closer}
use Rattle.kl_phrase.specs.Depth.{opens}
use Rattle.kl_parse.specs.Grammar.{is_of, variant_of, shape_of, name_of, record_of, inject_of, gen_of, comp_of, case_of, path_of, chain_of}
use Rattle.kl_parse.specs.Grammar.{compare_of, let_of, if_of, branch_of, misses, left_out, function_of, constant_of, decl_of}
use Rattle.kl_parse.specs.Grammar.{program_of, Sort, whole, negated, signed, added}
use Rattle.kl_parse.specs.Kinds.{among, is_symbol, is_key, label_kinds, constant_kinds, big_kinds, op_kinds, symbol_kind}
use Rattle.kl_parse.specs.Kinds.{a_symbol, a_key, a_label, a_name, a_constant, a_least, a_negative, an_op}
use Rattle.kl_phrase.specs.Readers.{Why, bad, deep, Reader, fail, one, nothing, numbered, both, behind, before, chain, made}
use Rattle.kl_phrase.specs.Readers.{choose, pick, many, parted, tail_turn, tailed, followed}
use Rattle.kl_phrase.specs.Refusals.{opened_by, opening_by, decide, may_miss, missed}

abbrev pub mark : Sym → Reader Token (Unit {0})
mark s = one (a_symbol s)

abbrev pub word_mark : Keyword → Reader Token (Unit {0})
word_mark k = one (a_key k)

abbrev pub never : {A : Type 0} → Why → Reader Token A
never w ts = fail w ts

-- what may follow a condition, and a body that is no function
abbrev pub after_qual : List ℕ
after_qual = symbol_kind sym.Comma ∷ symbol_kind sym.CloseSet ∷ symbol_kind sym.CloseBag ∷ symbol_kind sym.CloseList ∷ []

-- the digits that a minus makes the least integer
abbrev pub least_at : Reader Token Expr
least_at = made expr.Const (one a_least)

abbrev pub chained : Level → Reader Token Expr → Reader Token Expr
chained l p = made chain_of (both p (many (among (op_kinds l)) (both (one (an_op l)) p)))

-- what stands inside: expressions e
module _ (e : Reader Token Expr) where
  abbrev pub exprs : Reader Token (List Expr)
  exprs = parted (is_symbol sym.Comma) (mark sym.Comma) e

  abbrev pub in_args : Reader Token (List Expr)
  in_args = before exprs (mark sym.ClosePar)

  abbrev pub in_group : Reader Token Expr
  in_group = before e (mark sym.ClosePar)

  abbrev pub condition : Reader Token Expr
  condition = followed (among after_qual) e

  abbrev pub expr_before : Keyword → Reader Token Expr
  expr_before k = before e (word_mark k)

  abbrev pub in_if : Reader Token (Expr × (Expr × Expr))
  in_if = both (expr_before key.Then) (both (expr_before key.Else) e)

  abbrev pub otherwise : Reader Token (Option Expr)
  otherwise = pick (is_key key.Otherwise) (made Some (behind (word_mark key.Otherwise) e)) (nothing None)

  abbrev pub case_end : Reader Token (Option Expr)
  case_end = before otherwise (word_mark key.End)

  abbrev pub in_case : Reader Token Branch → Reader Token (Expr × (List Branch × Option Expr))
  in_case b = both (expr_before key.Of) (both (parted (is_symbol sym.Comma) (mark sym.Comma) b) case_end)

-- no minus, and what u reads
abbrev pub unsigned : Reader Token Expr → Reader Token Expr
unsigned u = pick (is_symbol sym.Sub) (λ ts. fail bad ts) u

abbrev pub pat_before : Reader Token Pattern → Sym → Reader Token Pattern
pat_before p s = before p (mark s)

abbrev pub drawn : Reader Token Pattern → Reader Token Pattern
drawn p = pat_before p sym.Draw

abbrev pub parameter : Reader Token Pattern → Reader Token Pattern
parameter p = pat_before p sym.Arrow

abbrev pub plain_body : Reader Token Expr → Reader Token Expr
plain_body e = followed (is_symbol sym.Semi) e

-- patterns p too
module _ (p : Reader Token Pattern) (e : Reader Token Expr) where
  unfoldable pub qualifier : Reader Token Qual
  qualifier = decide gen_of (drawn p) e (made qual.Cond (condition e))

  abbrev pub quals : Reader Token (List Qual)
  quals = parted (is_symbol sym.Comma) (mark sym.Comma) qualifier

  -- items or a comprehension, behind their first expression
  abbrev pub beyond : Kind → Expr → Reader Token Expr
  beyond k first = pick (is_symbol sym.Bar) (made (λ found. comp_of k (first, found)) (behind (mark sym.Bar) quals))
      (made (λ more. expr.Coll k (first ∷ more)) (many (is_symbol sym.Comma) (behind (mark sym.Comma) e)))

  unfoldable pub body : Reader Token (Option Pattern × Expr)
  body = decide function_of (parameter p) e (made constant_of (plain_body e))

  unfoldable pub in_coll : Kind → Reader Token Expr
  in_coll k = before (pick (is_symbol (closer k)) (nothing (expr.Coll k [])) (chain e (beyond k))) (mark (closer k))

  abbrev pub coll : Kind → Reader Token Expr
  coll k = behind (mark (opener k)) (in_coll k)

  abbrev pub in_let : Reader Token (Pattern × (Expr × Expr))
  in_let = both (pat_before p sym.Equals) (both (expr_before e key.In) e)

module _ (total : ℕ) where
  abbrev pub label : Reader Token Word
  label = made word_of (numbered total (one a_label))

  abbrev pub name : Reader Token Word
  name = made word_of (numbered total (one a_name))

  unfoldable pub simple : Reader Token Pattern
  simple = pick (is_symbol sym.Bind) (made pattern.Bind (behind (mark sym.Bind) name))
      (pick (is_symbol sym.Any) (made (λ _. pattern.Any) (mark sym.Any))
      (pick (is_symbol sym.Sub) (made is_of (numbered total (behind (mark sym.Sub) (one a_negative))))
      (pick (among constant_kinds) (made is_of (numbered total (one a_constant))) (made pattern.Same name))))

  -- what stands behind the dots of a pattern
  abbrev pub rest_name : Reader Token Tail
  rest_name = pick (is_symbol sym.Bind) (made tail.Rest (behind (mark sym.Bind) name)) (nothing tail.Open)

  abbrev pub others : Reader Token Tail
  others = behind (mark sym.Dots) rest_name

  -- p: the patterns inside brackets
  module _ (p : Reader Token Pattern) where
    abbrev pub pat_field : Reader Token (Word × Pattern)
    pat_field = both label (behind (mark sym.Eq) p)

    abbrev pub pat_turn : Reader Token ((Word × Pattern) ⊎ Option Tail)
    pat_turn = tail_turn (is_symbol sym.Comma) (is_symbol sym.Dots) (mark sym.Comma) pat_field others

    abbrev pub pat_fields : Reader Token (List (Word × Pattern) × Option Tail)
    pat_fields = tailed (is_symbol sym.Comma) (is_symbol sym.Dots) (mark sym.Comma) pat_field others

    abbrev pub shape : Reader Token Pattern
    shape = pick (among label_kinds) (made shape_of (both pat_field pat_fields))
        (pick (is_symbol sym.Dots) (made (pattern.Rec []) others) (nothing (pattern.Rec [] tail.Exact)))

    abbrev pub in_shape : Reader Token Pattern
    in_shape = before shape (mark sym.CloseRec)

    abbrev pub in_variant : Reader Token (Word × Pattern)
    in_variant = before pat_field (mark sym.Gt)

    abbrev pub pat_variant : Reader Token (Word × Pattern)
    pat_variant = behind (mark sym.Lt) in_variant

    unfoldable pub pat : Why → Bool → Reader Token Pattern
    pat w may = opening_by w (is_symbol sym.Lt) may (made variant_of pat_variant)
        (opening_by w (is_symbol sym.OpenRec) may (behind (mark sym.OpenRec) in_shape) simple)

  unfoldable pub pat_by : Why → ℕ → Reader Token Pattern
  pat_by w zero = pat (never w) w false
  pat_by w (suc depth) = pat (pat_by w depth) w true

  abbrev pub inside_by : Why → ℕ → Reader Token Pattern
  inside_by w zero = never w
  inside_by w (suc depth) = pat_by w depth

  abbrev pub field : Reader Token Expr → Reader Token (Word × Expr)
  field e = both label (behind (mark sym.Eq) e)

  -- expressions e, and signed ones u
  module _ (e u : Reader Token Expr) where
    abbrev pub base : Reader Token Expr
    base = behind (mark sym.Dots) (unsigned u)

    abbrev pub field_turn : Reader Token ((Word × Expr) ⊎ Option Expr)
    field_turn = tail_turn (is_symbol sym.Comma) (is_symbol sym.Dots) (mark sym.Comma) (field e) base

    abbrev pub fields : Reader Token (List (Word × Expr) × Option Expr)
    fields = tailed (is_symbol sym.Comma) (is_symbol sym.Dots) (mark sym.Comma) (field e) base

    abbrev pub rec_body : Reader Token Expr
    rec_body = pick (among label_kinds) (made record_of (both (field e) fields)) (nothing (expr.Rec []))

    abbrev pub in_rec : Reader Token Expr
    in_rec = before rec_body (mark sym.CloseRec)

  abbrev pub in_inject : Reader Token Expr → Reader Token (Word × Expr)
  in_inject a = before (field a) (mark sym.Gt)

  abbrev pub labels : Reader Token (List Word)
  labels = many (is_symbol sym.Dot) (behind (mark sym.Dot) label)

  unfoldable pub named : Why → Bool → Reader Token Expr → Reader Token Expr
  named w may e = made name_of (both name (opening_by w (is_symbol sym.OpenPar) may
      (made Some (behind (mark sym.OpenPar) (in_args e))) (nothing None)))

  module _ (w : Why) (may : Bool) (p : Reader Token Pattern) (e n u a : Reader Token Expr) (b : Reader Token Branch) where
    unfoldable pub prim : Reader Token Expr
    prim = pick (among constant_kinds) (made expr.Const (one a_constant))
        (opening_by w (is_symbol sym.OpenPar) may (behind (mark sym.OpenPar) (in_group e))
        (opening_by w (is_symbol sym.OpenRec) may (behind (mark sym.OpenRec) (in_rec e u))
        (opening_by w (is_symbol sym.Lt) may (made inject_of (behind (mark sym.Lt) (in_inject a)))
        (opening_by w (is_symbol sym.OpenSet) may (coll p e kind.Set)
        (opening_by w (is_symbol sym.OpenBag) may (coll p e kind.Bag)
        (opening_by w (is_symbol sym.OpenList) may (coll p e kind.List)
        (opening_by w (is_key key.Case) may (made case_of (behind (word_mark key.Case) (in_case e b))) (named w may e))))))))

    unfoldable pub post : Reader Token Expr
    post = made path_of (both prim labels)

    unfoldable pub un : Reader Token Expr
    un = pick (is_symbol sym.Sub) (behind (mark sym.Sub) (pick (among big_kinds) least_at (opened_by w may (made expr.Neg u)))) post

    unfoldable pub mul : Reader Token Expr
    mul = chained level.Mul un

    unfoldable pub add : Reader Token Expr
    add = chained level.Add mul

    unfoldable pub compare : Reader Token Expr
    compare = made compare_of (both add (pick (among (op_kinds level.Compare)) (made Some (both (one (an_op level.Compare)) add))
        (nothing None)))

    unfoldable pub negation : Reader Token Expr
    negation = opening_by w (is_key key.Not) may (made expr.Not (behind (word_mark key.Not) n)) compare

    unfoldable pub and : Reader Token Expr
    and = chained level.And negation

    unfoldable pub ors : Reader Token Expr
    ors = chained level.Or and

    unfoldable pub read_whole : Reader Token Expr
    read_whole = opening_by w (is_key key.Let) may (made let_of (behind (word_mark key.Let) (in_let p e)))
        (opening_by w (is_key key.If) may (made if_of (behind (word_mark key.If) (in_if e))) ors)

    -- what stands between the operators of a level
    abbrev pub operand : Level → Reader Token Expr
    operand level.Or = and
    operand level.And = negation
    operand level.Compare = add
    operand level.Add = mul
    operand level.Mul = un

    abbrev pub of_sort : Sort → Reader Token Expr
    of_sort whole = read_whole
    of_sort negated = negation
    of_sort signed = un
    of_sort added = add

  unfoldable pub branch : Why → Bool → Reader Token Pattern → Reader Token Expr → Reader Token Branch
  branch w may p e = pick (is_symbol sym.Lt) (opened_by w may (made branch_of (both (pat_variant p) (behind (mark sym.Arrow) e))))
      (λ ts. fail bad ts)

  -- a branch, or a token in its place
  abbrev pub branch_or : List Token → Reader Token Branch → Reader Token Branch
  branch_or ts b = choose (may_miss (misses ts) total) (missed left_out) b

  unfoldable pub reads_by : Why → ℕ → Sort → Reader Token Expr
  reads_by w zero s = of_sort w false (never w) (never w) (never w) (never w) (never w) (never w) s
  reads_by w (suc depth) s = of_sort w true (pat_by w depth) (reads_by w depth whole) (reads_by w depth negated)
      (reads_by w depth signed) (reads_by w depth added) (branch w (opens depth) (inside_by w depth) (reads_by w depth whole)) s

  -- the same, where a token may stand for a branch
  unfoldable pub begins_by : List Token → ℕ → Sort → Reader Token Expr
  begins_by ts zero s = of_sort bad false (never bad) (never bad) (never bad) (never bad) (never bad) (never bad) s
  begins_by ts (suc depth) s = of_sort bad true (pat_by bad depth) (begins_by ts depth whole) (begins_by ts depth negated)
      (begins_by ts depth signed) (begins_by ts depth added)
      (branch_or ts (branch bad (opens depth) (inside_by bad depth) (begins_by ts depth whole))) s

  module _ (p : Reader Token Pattern) (e : Reader Token Expr) where
    abbrev pub decl : Reader Token Decl
    decl = made decl_of (behind (word_mark key.Define) (both name (behind (mark sym.Equals) (before (body p e) (mark sym.Semi)))))

    unfoldable pub read_program : Reader Token Program
    read_program = made program_of (both (many (is_key key.Define) decl) (before e (mark sym.Semi)))

  abbrev pub program_by : Why → ℕ → Reader Token Program
  program_by w depth = read_program (pat_by w depth) (reads_by w depth whole)

  abbrev pub begins_program : List Token → ℕ → Reader Token Program
  begins_program ts depth = read_program (pat_by bad depth) (begins_by ts depth whole)

-- ---- as the code goes, by how deep nesting may go on

module _ (total : ℕ) where
  abbrev pub read_pat : ℕ → Reader Token Pattern
  read_pat = pat_by total deep

  abbrev pub pat_inside : ℕ → Reader Token Pattern
  pat_inside = inside_by total deep

  abbrev pub reads : ℕ → Sort → Reader Token Expr
  reads = reads_by total deep

  abbrev pub program : ℕ → Reader Token Program
  program = program_by total deep

  abbrev pub inside : ℕ → Sort → Reader Token Expr
  inside zero s = never deep
  inside (suc depth) s = reads depth s

  abbrev pub branch_at : ℕ → Reader Token Branch
  branch_at depth = branch total deep (opens depth) (pat_inside depth) (reads depth whole)

  abbrev pub branch_inside : ℕ → Reader Token Branch
  branch_inside zero = never deep
  branch_inside (suc depth) = branch_at depth

  abbrev pub named_at : ℕ → Reader Token Expr
  named_at depth = named total deep (opens depth) (inside depth whole)

  abbrev pub prim_at : ℕ → Reader Token Expr
  prim_at depth = prim total deep (opens depth) (pat_inside depth) (inside depth whole) (inside depth negated) (inside depth signed)
      (inside depth added) (branch_inside depth)

  abbrev pub post_at : ℕ → Reader Token Expr
  post_at depth = post total deep (opens depth) (pat_inside depth) (inside depth whole) (inside depth negated) (inside depth signed)
      (inside depth added) (branch_inside depth)

  abbrev pub sort_at : ℕ → Sort → Reader Token Expr
  sort_at depth = of_sort total deep (opens depth) (pat_inside depth) (inside depth whole) (inside depth negated)
      (inside depth signed) (inside depth added) (branch_inside depth)

  abbrev pub compare_at : ℕ → Reader Token Expr
  compare_at depth = compare total deep (opens depth) (pat_inside depth) (inside depth whole) (inside depth negated)
      (inside depth signed) (inside depth added) (branch_inside depth)

  abbrev pub operand_at : ℕ → Level → Reader Token Expr
  operand_at depth = operand total deep (opens depth) (pat_inside depth) (inside depth whole) (inside depth negated)
      (inside depth signed) (inside depth added) (branch_inside depth)

  abbrev pub chain_at : ℕ → Level → Reader Token Expr
  chain_at depth l = chained l (operand_at depth l)

  -- what stands behind `define`
  abbrev pub decl_rest : ℕ → Reader Token Decl
  decl_rest depth = made decl_of (both (name total)
      (behind (mark sym.Equals) (before (body (read_pat depth) (reads depth whole)) (mark sym.Semi))))

  abbrev pub decls : ℕ → Reader Token (List Decl)
  decls depth = many (is_key key.Define) (decl total (read_pat depth) (reads depth whole))
