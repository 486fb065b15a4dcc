-- The readers of each level of expressions read that level.
use Rattle.std.proofs.Common.{◌≡◌, ℕ, Bool, true, IsTrue, List, [], ◌∷◌, Option, Some, None, inl, inr, refl, sym, ap, ◌∙◌}
use Rattle.std.proofs.lemmas.Bool.{false≢true}
use Rattle.std.proofs.lemmas.List.{append-nil}
use Rattle.kl_lex.specs.declared.token.Sym.TheVariants as sy
use Rattle.kl_lex.specs.declared.token.Token.{Token}
use Rattle.kl_value.specs.declared.value.Kind.TheVariants as kind
use Rattle.kl_lex.specs.declared.keyword.Keyword.TheVariants as key
use Rattle.kl_parse.specs.declared.operator.Level.{Level}
use Rattle.kl_parse.specs.declared.operator.Level.TheVariants as level
use Rattle.kl_syntax.specs.declared.tree.Op.{Op}
use Rattle.kl_syntax.specs.declared.tree.Expr.{Expr}
use Rattle.kl_syntax.specs.declared.tree.Expr.TheVariants as expr
use Rattle.kl_syntax.specs.declared.tree.Qual.TheVariants as qual
use Rattle.kl_syntax.specs.declared.tree.Pattern.{Pattern}
use Rattle.kl_syntax.specs.declared.tree.Branch.{Branch}
use Rattle.kl_parse.specs.Lexemes.{Symbol, Key, Label, Name, Constant, IsLeast, AnOp}
use Rattle.kl_parse.specs.Grammar.{name_of, path_of, chain_of, compare_of, Chained, Args, Group, Unsigned, Rec, Inject, Coll, Case, If, Let, Named, Least, Prim, Post, Un, Mul, Add, Compare, Not, And, Ors, Whole, Sort, whole, negated, signed, added, of_sort}
use Rattle.kl_parse.specs.Kinds.{among, is_symbol, one_symbol, one_key, name_kinds, constant_kinds, big_kinds, op_kinds}
use Rattle.kl_parse.specs.Descent as d
use Rattle.kl_parse.proofs.KindLemmas.{all_of, none_of, is_symbol_of, decides_constant, decides_least, decides_op, on_least, on_symbol, on_op, has_symbol, has_label, has_name, has_least}
use Rattle.kl_parse.proofs.PatGoods.{Free, good_label, good_name, off, stop, past, past_key}
use Rattle.kl_parse.proofs.ExprFirsts.{goes_prim, goes_path, goes_mul, goes_add, goes_compare, goes_and, goes_whole, on_args, on_constants, on_group, on_rec, on_inject, on_coll, on_case, on_named, on_let, on_if, on_not, prim2, prim3, prim4, prim5, prim6, prim7, prim8, prim_kinds, un_kinds, not_kinds, if_kinds, whole_kinds, Prim2, Prim3, Prim4, Prim5, Prim6, Prim7, Prim8, on2, on3, on4, on5, on6, on7, on8, Minus, on_path, on_compare, on_ors, Iffy, on_iffy, Second}
use Rattle.kl_parse.proofs.ExprGoods.{looser, good_group, good_args, good_rec, good_inject, good_coll, good_case, good_if, good_let}
use Rattle.kl_phrase.specs.Words.{heads, Phrase, One, Nothing, Then, Behind, Many, Made, Or, Optional, Opened}
use Rattle.kl_phrase.specs.Readers.{Reader, bad, behind, made, pick}
use Rattle.kl_phrase.specs.Refusals.{opened_by}
use Rattle.kl_phrase.proofs.Theory.{Good, On, Has, To, good_one, good_nothing, good_made, good_both, good_pick, good_same, good_follow, good_many, meets_many, on_behind, has_behind}
use Rattle.kl_phrase.proofs.Firsts.{Stops, on_made, on_then, off_nothing, meets_on, meets_or, meets_nothing, has_made, has_then, has_left, has_right, has_nothing, has_many, on_opened}
use Rattle.kl_phrase.proofs.Commit.{Apart}
use Rattle.kl_phrase.proofs.Deciding.{Flat, good_opened_by, good_opening_by}

-- ---- some text spells it

has_un : (may : Bool) (P : Phrase Token Pattern) (E N U A : Phrase Token Expr) (B : Phrase Token Branch) → Has (Un may P E N U A B)
has_un may P E N U A B = has_left Least (Minus may P E N U A B) (has_made expr.Const (Behind (Symbol sy.Sub) (One IsLeast)) (has_behind (Symbol sy.Sub) (One IsLeast) (has_symbol sy.Sub) has_least))

has_chained : (l : Level) (S : Phrase Token Expr) → Has S → Has (Chained l S)
has_chained l S has_in = has_made chain_of (Then S (Many (Then (AnOp l) S))) (has_then S (Many (Then (AnOp l) S)) has_in (has_many (Then (AnOp l) S)))

has_mul : (may : Bool) (P : Phrase Token Pattern) (E N U A : Phrase Token Expr) (B : Phrase Token Branch) → Has (Mul may P E N U A B)
has_mul may P E N U A B = has_chained level.Mul (Un may P E N U A B) (has_un may P E N U A B)

has_add : (may : Bool) (P : Phrase Token Pattern) (E N U A : Phrase Token Expr) (B : Phrase Token Branch) → Has (Add may P E N U A B)
has_add may P E N U A B = has_chained level.Add (Mul may P E N U A B) (has_mul may P E N U A B)

has_compare : (may : Bool) (P : Phrase Token Pattern) (E N U A : Phrase Token Expr) (B : Phrase Token Branch) → Has (Compare may P E N U A B)
has_compare may P E N U A B = has_made compare_of (Then (Add may P E N U A B) (Second may P E N U A B)) (has_then (Add may P E N U A B) (Second may P E N U A B) (has_add may P E N U A B) (has_right (Made Some (Then (AnOp level.Compare) (Add may P E N U A B))) (Nothing None) (has_nothing None)))

has_not : (may : Bool) (P : Phrase Token Pattern) (E N U A : Phrase Token Expr) (B : Phrase Token Branch) → Has (Not may P E N U A B)
has_not may P E N U A B = has_right (Opened may (Made expr.Not (Behind (Key key.Not) N))) (Compare may P E N U A B) (has_compare may P E N U A B)

has_and : (may : Bool) (P : Phrase Token Pattern) (E N U A : Phrase Token Expr) (B : Phrase Token Branch) → Has (And may P E N U A B)
has_and may P E N U A B = has_chained level.And (Not may P E N U A B) (has_not may P E N U A B)

has_ors : (may : Bool) (P : Phrase Token Pattern) (E N U A : Phrase Token Expr) (B : Phrase Token Branch) → Has (Ors may P E N U A B)
has_ors may P E N U A B = has_chained level.Or (And may P E N U A B) (has_and may P E N U A B)

has_whole : (may : Bool) (P : Phrase Token Pattern) (E N U A : Phrase Token Expr) (B : Phrase Token Branch) → Has (Whole may P E N U A B)
has_whole may P E N U A B = has_right (Opened may (Let P E)) (Iffy may P E N U A B) (has_right (Opened may (If E)) (Ors may P E N U A B) (has_ors may P E N U A B))

pub has_sort : (s : Sort) (may : Bool) (P : Phrase Token Pattern) (E N U A : Phrase Token Expr) (B : Phrase Token Branch) → Has (of_sort s may P E N U A B)
has_sort whole = has_whole
has_sort negated = has_not
has_sort signed = has_un
has_sort added = has_add

-- and some text that begins with no minus
pub has_unsigned : (may : Bool) (P : Phrase Token Pattern) (E N U A : Phrase Token Expr) (B : Phrase Token Branch) → Has (Unsigned (Un may P E N U A B))
has_unsigned may P E N U A B n =
    let a = has_path n in
    (a.0, a.1, (inr (inr a.2), λ t more e w. (let h : among prim_kinds t ≡ true = ap (heads (among prim_kinds)) (sym e ∙ sym (append-nil a.1)) ∙ on_path may P E N U A B n a.0 a.1 [] a.2 in false≢true (sym (stop prim_kinds (one_symbol sy.Sub) refl (t ∷ []) h) ∙ is_symbol_of sy.Sub t w))))
  where
    has_prim : Has (Prim may P E N U A B)
    has_prim =
        has_right (Made expr.Const Constant) (Prim2 may P E N U A B)
        (has_right (Opened may (Group E)) (Prim3 may P E N U A B)
        (has_right (Opened may (Rec E U)) (Prim4 may P E N U A B)
        (has_right (Opened may (Inject A)) (Prim5 may P E N U A B)
        (has_right (Opened may (Coll P E kind.Set)) (Prim6 may P E N U A B)
        (has_right (Opened may (Coll P E kind.Bag)) (Prim7 may P E N U A B)
        (has_right (Opened may (Coll P E kind.List)) (Prim8 may P E N U A B)
        (has_right (Opened may (Case E B)) (Named may E)
        (has_made name_of (Then Name (Optional None (Opened may (Made Some (Args E))))) (has_then Name (Optional None (Opened may (Made Some (Args E)))) has_name (has_right (Opened may (Made Some (Args E))) (Nothing None) (has_nothing None)))))))))))

    has_path : Has (Post may P E N U A B)
    has_path = has_made path_of (Then (Prim may P E N U A B) (Many (Behind (Symbol sy.Dot) Label))) (has_then (Prim may P E N U A B) (Many (Behind (Symbol sy.Dot) Label)) has_prim (has_many (Behind (Symbol sy.Dot) Label)))

-- what may go on behind a sort
abbrev pub goes_of : Sort → List ℕ
goes_of whole = goes_whole
goes_of negated = goes_compare
goes_of signed = goes_path
goes_of added = goes_add

-- ---- a level

-- S { op S }: what goes on is what goes on S, or an operator of the level
good_chained : {N : ℕ} (l : Level) (goes more : List ℕ) {S W : Phrase Token Expr} {p : Reader Token Expr} → none_of (op_kinds l) goes ≡ true → all_of goes more ≡ true → all_of (op_kinds l) more ≡ true → Good N S W (Stops (among goes)) p → Has W → Good N (Chained l S) (Chained l W) (Stops (among more)) (d.chained l p)
good_chained l goes more {S} {W} none gin lin good has_in =
    good_made (good_both good (good_many (good_both {C = Free} (good_one (decides_op l)) good has_in (λ n b y v r h. tt)) on_step (stop (op_kinds l) goes none) (λ v h. (looser goes more gin v h, looser (op_kinds l) more lin v h))) (has_many (Then (AnOp l) W)) (meets_many (among (op_kinds l)) (Then (AnOp l) S) on_step (stop (op_kinds l) goes none) (looser goes more gin)))
  where
    on_step : On (among (op_kinds l)) (Then (AnOp l) S)
    on_step = on_then (among (op_kinds l)) (AnOp l) S (on_op l)

module _ (M : ℕ) (may can : Bool) (imp : IsTrue may → IsTrue can) (P PW : Phrase Token Pattern) (E N U A EW NW UW AW : Phrase Token Expr) (B BW : Phrase Token Branch) (p : Reader Token Pattern) (e n u a : Reader Token Expr) (b : Reader Token Branch)
    (gp : IsTrue may → Good M P PW Free p) (ge : IsTrue may → Good M E EW (Stops (among goes_whole)) e) (gn : IsTrue may → Good M N NW (Stops (among goes_compare)) n) (gu : IsTrue may → Good M U UW (Stops (among goes_path)) u) (ga : IsTrue may → Good M A AW (Stops (among goes_add)) a) (gb : IsTrue may → Good M B BW (Stops (among goes_whole)) b)
    (hp : IsTrue may → Has PW) (he : IsTrue may → Has EW) (hn : IsTrue may → Has NW) (ha : IsTrue may → Has AW) (hu : IsTrue may → Has (Unsigned UW)) (hb : IsTrue may → Has BW) (on_e : On (among whole_kinds) E) (on_u : On (among un_kinds) U) (flat_p : IsTrue may → (ts : List Token) → Flat (d.drawn p ts)) (flat_q : IsTrue may → (ts : List Token) → Flat (made qual.Cond (d.condition e) ts)) (apart : IsTrue may → Apart M (d.drawn p) (made qual.Cond (d.condition e))) where
  freely : {X : Type 0} {S V : Phrase Token X} {r : Reader Token X} (kinds : List ℕ) → Good M S V Free r → Good M S V (Stops (among kinds)) r
  freely kinds g = good_follow (Stops (among kinds)) (λ v h. tt) g

  good_named : Good M (Named may E) (Named can EW) (Stops (among goes_prim)) (d.named M bad may e)
  unfolding d.named
  good_named =
      good_made (good_both {C = Free} good_name
      (good_opening_by {may = may} {can = can} imp (λ i. freely goes_prim (good_made (good_args M E EW e (ge i) (he i)))) good_nothing (on_args E) (off_nothing (is_symbol sy.OpenPar) None (Stops (among goes_prim)) (looser (one_symbol sy.OpenPar) goes_prim refl)))
      (has_right (Opened can (Made Some (Args EW))) (Nothing None) (has_nothing None)) (λ n b y v r h. tt))

  good_prim : Good M (Prim may P E N U A B) (Prim can PW EW NW UW AW BW) (Stops (among goes_prim)) (d.prim M bad may p e n u a b)
  unfolding d.prim
  good_prim =
      good_pick (good_made (good_one decides_constant))
      (good_opening_by {may = may} {can = can} imp (λ i. freely goes_prim (good_group M E EW e (ge i) (he i)))
      (good_opening_by {may = may} {can = can} imp (λ i. freely goes_prim (good_rec M E EW U UW e u (ge i) (he i) (gu i) (hu i) on_u))
      (good_opening_by {may = may} {can = can} imp (λ i. freely goes_prim (good_inject M A AW a (ga i) (ha i)))
      (good_opening_by {may = may} {can = can} imp (λ i. freely goes_prim (good_coll M P PW p (gp i) (hp i) E EW e (ge i) (he i) on_e (flat_p i) (flat_q i) (apart i) kind.Set))
      (good_opening_by {may = may} {can = can} imp (λ i. freely goes_prim (good_coll M P PW p (gp i) (hp i) E EW e (ge i) (he i) on_e (flat_p i) (flat_q i) (apart i) kind.Bag))
      (good_opening_by {may = may} {can = can} imp (λ i. freely goes_prim (good_coll M P PW p (gp i) (hp i) E EW e (ge i) (he i) on_e (flat_p i) (flat_q i) (apart i) kind.List))
      (good_opening_by {may = may} {can = can} imp (λ i. freely goes_prim (good_case M E EW e (ge i) (he i) B BW b (gb i) (hb i))) good_named
      (on_case E B) (off (Named may E) name_kinds (one_key key.Case) (Stops (among goes_prim)) refl (on_named may E)))
      (on_coll P E kind.List) (off (Prim8 may P E N U A B) prim8 (one_symbol sy.OpenList) (Stops (among goes_prim)) refl (on8 may P E N U A B)))
      (on_coll P E kind.Bag) (off (Prim7 may P E N U A B) prim7 (one_symbol sy.OpenBag) (Stops (among goes_prim)) refl (on7 may P E N U A B)))
      (on_coll P E kind.Set) (off (Prim6 may P E N U A B) prim6 (one_symbol sy.OpenSet) (Stops (among goes_prim)) refl (on6 may P E N U A B)))
      (on_inject A) (off (Prim5 may P E N U A B) prim5 (one_symbol sy.Lt) (Stops (among goes_prim)) refl (on5 may P E N U A B)))
      (on_rec E U) (off (Prim4 may P E N U A B) prim4 (one_symbol sy.OpenRec) (Stops (among goes_prim)) refl (on4 may P E N U A B)))
      (on_group E) (off (Prim3 may P E N U A B) prim3 (one_symbol sy.OpenPar) (Stops (among goes_prim)) refl (on3 may P E N U A B)))
      on_constants (off (Prim2 may P E N U A B) prim2 constant_kinds (Stops (among goes_prim)) refl (on2 may P E N U A B))

  on_dot : On (is_symbol sy.Dot) (Behind (Symbol sy.Dot) Label)
  on_dot = on_behind (is_symbol sy.Dot) (Symbol sy.Dot) Label (on_symbol sy.Dot)

  good_post : Good M (Post may P E N U A B) (Post can PW EW NW UW AW BW) (Stops (among goes_path)) (d.post M bad may p e n u a b)
  unfolding d.post
  good_post =
      good_made (good_both good_prim (good_many {C = Free} (past sy.Dot good_label has_label) on_dot (λ w h. tt) (λ v h. (tt, looser (one_symbol sy.Dot) goes_path refl v h))) (has_many (Behind (Symbol sy.Dot) Label)) (meets_many (is_symbol sy.Dot) (Behind (Symbol sy.Dot) Label) on_dot (stop (one_symbol sy.Dot) goes_prim refl) (looser goes_prim goes_path refl)))

  -- what stands behind a minus
  abbrev Behind_minus : Bool → Phrase Token Expr → Phrase Token Expr
  Behind_minus may U = Or (Made expr.Const (One IsLeast)) (Opened may (Made expr.Neg U))

  abbrev Signed : Bool → Phrase Token Expr → Phrase Token Expr
  Signed may U = Behind (Symbol sy.Sub) (Behind_minus may U)

  good_minus : Good M (Signed may U) (Signed can UW) (Stops (among goes_path)) (behind (d.mark sy.Sub) (pick (among big_kinds) d.least_at (opened_by bad may (made expr.Neg u))))
  good_minus = past sy.Sub (good_pick (good_made (good_one decides_least)) (good_opened_by may can imp (λ i. good_made (gu i))) (on_made (among big_kinds) expr.Const (One IsLeast) on_least) (off (Opened may (Made expr.Neg U)) un_kinds big_kinds (Stops (among goes_path)) refl (on_opened (among un_kinds) may (Made expr.Neg U) (on_made (among un_kinds) expr.Neg U on_u))))
      (has_left (Made expr.Const (One IsLeast)) (Opened can (Made expr.Neg UW)) (has_made expr.Const (One IsLeast) has_least))

  to_un : (b : Bool) (X Y : Phrase Token Expr) → To (Or (Signed b X) Y) (Or Least (Or (Opened b (Made expr.Neg (Behind (Symbol sy.Sub) X))) Y))
  to_un b X Y n x ts (inl (u, v, e, s, inl (y, ey, l))) = inl (y, ey, (u, v, e, s, l))
  to_un b X Y n x ts (inl (u, v, e, s, inr (i, (y, ey, r)))) = inr (inl (i, (y, ey, (u, v, e, s, r))))
  to_un b X Y n x ts (inr r) = inr (inr r)

  of_un : (b : Bool) (X Y : Phrase Token Expr) → To (Or Least (Or (Opened b (Made expr.Neg (Behind (Symbol sy.Sub) X))) Y)) (Or (Signed b X) Y)
  of_un b X Y n x ts (inl (y, ey, (u, v, e, s, l))) = inl (u, v, e, s, inl (y, ey, l))
  of_un b X Y n x ts (inr (inl (i, (y, ey, (u, v, e, s, r))))) = inl (u, v, e, s, inr (i, (y, ey, r)))
  of_un b X Y n x ts (inr (inr r)) = inr r

  good_un : Good M (Un may P E N U A B) (Un can PW EW NW UW AW BW) (Stops (among goes_path)) (d.un M bad may p e n u a b)
  unfolding d.un
  good_un =
      good_same (to_un may U (Post may P E N U A B)) (of_un may U (Post may P E N U A B)) (to_un can UW (Post can PW EW NW UW AW BW))
      (good_pick good_minus good_post (on_behind (is_symbol sy.Sub) (Symbol sy.Sub) (Behind_minus may U) (on_symbol sy.Sub)) (off (Post may P E N U A B) prim_kinds (one_symbol sy.Sub) (Stops (among goes_path)) refl (on_path may P E N U A B)))

  good_mul : Good M (Mul may P E N U A B) (Mul can PW EW NW UW AW BW) (Stops (among goes_mul)) (d.mul M bad may p e n u a b)
  unfolding d.mul
  good_mul = good_chained level.Mul goes_path goes_mul refl refl refl good_un (has_un can PW EW NW UW AW BW)

  good_add : Good M (Add may P E N U A B) (Add can PW EW NW UW AW BW) (Stops (among goes_add)) (d.add M bad may p e n u a b)
  unfolding d.add
  good_add = good_chained level.Add goes_mul goes_add refl refl refl good_mul (has_mul can PW EW NW UW AW BW)

  abbrev Again : Phrase Token Expr → Phrase Token (Option (Op × Expr))
  Again S = Made Some (Then (AnOp level.Compare) S)

  on_again : On (among (op_kinds level.Compare)) (Again (Add may P E N U A B))
  on_again = on_made (among (op_kinds level.Compare)) Some (Then (AnOp level.Compare) (Add may P E N U A B)) (on_then (among (op_kinds level.Compare)) (AnOp level.Compare) (Add may P E N U A B) (on_op level.Compare))

  good_compare : Good M (Compare may P E N U A B) (Compare can PW EW NW UW AW BW) (Stops (among goes_compare)) (d.compare M bad may p e n u a b)
  unfolding d.compare
  good_compare =
      good_made (good_both good_add
      (good_pick (good_follow (Stops (among goes_compare)) (looser goes_add goes_compare refl) (good_made (good_both {C = Free} (good_one (decides_op level.Compare)) good_add (has_add can PW EW NW UW AW BW) (λ n b y v r h. tt)))) good_nothing on_again (off_nothing (among (op_kinds level.Compare)) None (Stops (among goes_compare)) (looser (op_kinds level.Compare) goes_compare refl)))
      (has_right (Again (Add can PW EW NW UW AW BW)) (Nothing None) (has_nothing None))
      (meets_or (Stops (among goes_add)) (Stops (among goes_compare)) (Again (Add may P E N U A B)) (Nothing None) (meets_on (Stops (among goes_compare)) (stop (op_kinds level.Compare) goes_add refl) on_again) (meets_nothing (Stops (among goes_add)) (Stops (among goes_compare)) None (looser goes_add goes_compare refl))))

  good_not : Good M (Not may P E N U A B) (Not can PW EW NW UW AW BW) (Stops (among goes_compare)) (d.negation M bad may p e n u a b)
  unfolding d.negation
  good_not = good_opening_by {may = may} {can = can} imp (λ i. good_made (past_key key.Not (gn i) (hn i))) good_compare (on_not N) (off (Compare may P E N U A B) un_kinds (one_key key.Not) (Stops (among goes_compare)) refl (on_compare may P E N U A B))

  good_and : Good M (And may P E N U A B) (And can PW EW NW UW AW BW) (Stops (among goes_and)) (d.and M bad may p e n u a b)
  unfolding d.and
  good_and = good_chained level.And goes_compare goes_and refl refl refl good_not (has_not can PW EW NW UW AW BW)

  good_ors : Good M (Ors may P E N U A B) (Ors can PW EW NW UW AW BW) (Stops (among goes_whole)) (d.ors M bad may p e n u a b)
  unfolding d.ors
  good_ors = good_chained level.Or goes_and goes_whole refl refl refl good_and (has_and can PW EW NW UW AW BW)

  good_whole : Good M (Whole may P E N U A B) (Whole can PW EW NW UW AW BW) (Stops (among goes_whole)) (d.read_whole M bad may p e n u a b)
  unfolding d.read_whole
  good_whole =
      good_opening_by {may = may} {can = can} imp (λ i. good_let M P PW p (gp i) (hp i) E EW e (ge i) (he i) on_e (flat_p i) (flat_q i) (apart i))
      (good_opening_by {may = may} {can = can} imp (λ i. good_if M E EW e (ge i) (he i)) good_ors (on_if E) (off (Ors may P E N U A B) not_kinds (one_key key.If) (Stops (among goes_whole)) refl (on_ors may P E N U A B)))
      (on_let P E) (off (Iffy may P E N U A B) if_kinds (one_key key.Let) (Stops (among goes_whole)) refl (on_iffy may P E N U A B))

  pub good_sort : (s : Sort) → Good M (of_sort s may P E N U A B) (of_sort s can PW EW NW UW AW BW) (Stops (among (goes_of s))) (d.of_sort M bad may p e n u a b s)
  good_sort whole = good_whole
  good_sort negated = good_not
  good_sort signed = good_un
  good_sort added = good_add
