-- The readers of expressions read the expressions. E: those inside; W: where what begins one of them has its whole texts.
use Rattle.std.proofs.Common.{◌≡◌, ℕ, ◌+◌, Bool, true, false, if◌then◌else◌, List, [], ◌∷◌, ◌++◌, length, Some, None, inl, inr, refl, sym, ap, ◌∙◌, append_assoc}
use Rattle.std.proofs.lemmas.Bool.{false≢true}
use Rattle.kl_lex.specs.declared.token.Sym.TheVariants as sy
use Rattle.kl_lex.specs.declared.token.Tok.TheVariants as tok
use Rattle.kl_lex.specs.declared.token.Token.{Token}
use Rattle.kl_value.specs.declared.value.Kind.{Kind}
use Rattle.kl_value.specs.declared.value.Kind.TheVariants as kind
use Rattle.kl_lex.specs.declared.keyword.Keyword.{Keyword}
use Rattle.kl_lex.specs.declared.keyword.Keyword.TheVariants as key
use Rattle.kl_syntax.specs.declared.tree.Expr.{Expr}
use Rattle.kl_syntax.specs.declared.tree.Expr.TheVariants as expr
use Rattle.kl_syntax.specs.declared.tree.Qual.TheVariants as qual
use Rattle.kl_syntax.specs.declared.tree.Pattern.{Pattern}
use Rattle.kl_syntax.specs.declared.tree.Branch.{Branch}
use Rattle.kl_parse.specs.Lexemes.{Symbol, Key, Label}
use Rattle.kl_lex.specs.Brackets.{opener, closer}
use Rattle.kl_parse.specs.Grammar.{record_of, inject_of, case_of, let_of, if_of, gen_of, comp_of, Exprs, Args, Group, Field, Unsigned, Fields, Rec, Inject, Otherwise, If, AQual, Inside, Coll, Let, Case, Prim}
use Rattle.kl_parse.specs.Kinds.{among, is_symbol, is_key, one_symbol, one_key, symbol_kind, label_kinds}
use Rattle.kl_parse.specs.Descent as d
use Rattle.kl_parse.proofs.KindLemmas.{all_of, none_of, within, is_symbol_of, symbol_of, on_symbol, on_key, has_symbol, has_key, has_label}
use Rattle.kl_parse.proofs.PatGoods.{Free, good_symbol, good_key, good_label, off, stop, closes, past, past_key}
use Rattle.kl_parse.proofs.ExprFirsts.{goes_path, goes_add, goes_whole, on_base, on_field, un_kinds, whole_kinds}
use Rattle.kl_phrase.specs.Words.{heads, Phrase, Nothing, Then, Behind, Before, Many, Made, Or, Optional, Parted, Tailed}
use Rattle.kl_phrase.specs.Readers.{Out, ok, fail, bad, Reader, made, both, behind, before, chain, nothing, pick, parted}
use Rattle.kl_phrase.proofs.Theory.{Good, Begins, Sound, On, Off, Has, Meets, To, Chain, good_nothing, good_made, good_both, good_before, good_pick, good_follow, good_many, good_parted, good_same, good_chain, meets_many, on_behind, has_behind}
use Rattle.kl_phrase.proofs.Firsts.{Stops, Heads, Within, on_made, on_then, off_nothing, meets_on, heads_within, stops_within, has_made, has_then, has_before, has_left, has_right, has_nothing, has_many, has_parted}
use Rattle.kl_phrase.proofs.Tails.{good_tailed, has_tailed, meets_tailed}
use Rattle.kl_phrase.proofs.Commit.{good_choose, good_followed, Apart}
use Rattle.kl_phrase.proofs.Deciding.{Flat, good_decide}

-- more may go on: less may follow
pub looser : (a b : List ℕ) → all_of a b ≡ true → (v : List Token) → Stops (among b) v → Stops (among a) v
looser a b h = stops_within (within a b h)

abbrev pub comma_goes : List ℕ
comma_goes = one_symbol sy.Comma ++ goes_whole

-- one or more with commas between them, where what may go on one is at most what may go on an expression
good_list : {N : ℕ} {A : Type 0} {S W : Phrase Token A} {p : Reader Token A} → Good N S W (Stops (among goes_whole)) p → Has W → Good N (Parted (Symbol sy.Comma) S) (Parted (Symbol sy.Comma) W) (Stops (among comma_goes)) (parted (is_symbol sy.Comma) (d.mark sy.Comma) p)
good_list good has_in = good_parted (good_symbol sy.Comma Free) good has_in (on_symbol sy.Comma) (stop (one_symbol sy.Comma) goes_whole refl) (λ v h. (looser goes_whole comma_goes refl v h, looser (one_symbol sy.Comma) comma_goes refl v h))

-- before a keyword
good_before_key : {N : ℕ} {A : Type 0} {S V : Phrase Token A} {p : Reader Token A} (k : Keyword) (goes : List ℕ) → none_of (one_key k) goes ≡ true → Good N S V (Stops (among goes)) p → Good N (Before S (Key k)) (Before V (Key k)) Free (before p (d.word_mark k))
good_before_key k goes h gp = good_before gp (good_key k Free) (has_key k) (meets_on Free (stop (one_key k) goes h) (on_key k))

-- ---- what stands inside

module _ (N : ℕ) (E W : Phrase Token Expr) (e : Reader Token Expr) (good : Good N E W (Stops (among goes_whole)) e) (has_in : Has W) where
  pub good_in_group : Good N (Before E (Symbol sy.ClosePar)) (Before W (Symbol sy.ClosePar)) Free (d.in_group e)
  good_in_group = closes sy.ClosePar good (stop (one_symbol sy.ClosePar) goes_whole refl)

  pub good_group : Good N (Group E) (Group W) Free (behind (d.mark sy.OpenPar) (d.in_group e))
  good_group = past sy.OpenPar good_in_group (has_before W (Symbol sy.ClosePar) has_in (has_symbol sy.ClosePar))

  pub good_in_args : Good N (Before (Exprs E) (Symbol sy.ClosePar)) (Before (Exprs W) (Symbol sy.ClosePar)) Free (d.in_args e)
  good_in_args = closes sy.ClosePar (good_list good has_in) (stop (one_symbol sy.ClosePar) comma_goes refl)

  pub good_args : Good N (Args E) (Args W) Free (behind (d.mark sy.OpenPar) (d.in_args e))
  good_args = past sy.OpenPar good_in_args (has_before (Exprs W) (Symbol sy.ClosePar) (has_parted (Symbol sy.Comma) W has_in) (has_symbol sy.ClosePar))

  pub has_field : Has (Field W)
  has_field = has_then Label (Behind (Symbol sy.Eq) W) has_label (has_behind (Symbol sy.Eq) W (has_symbol sy.Eq) has_in)

  pub good_field : Good N (Field E) (Field W) (Stops (among goes_whole)) (d.field N e)
  good_field = good_both {C = Free} good_label (past sy.Eq good has_in) (has_behind (Symbol sy.Eq) W (has_symbol sy.Eq) has_in) (λ n b y v r h. tt)

  good_otherwise : Good N (Otherwise E) (Otherwise W) (Heads (is_key key.End)) (d.otherwise e)
  good_otherwise =
      good_pick (good_made (past_key key.Otherwise (good_follow (Heads (is_key key.End)) (stop (one_key key.End) goes_whole refl) good) has_in)) good_nothing
      (on_made (is_key key.Otherwise) Some (Behind (Key key.Otherwise) E) (on_behind (is_key key.Otherwise) (Key key.Otherwise) E (on_key key.Otherwise)))
      (off_nothing (is_key key.Otherwise) None (Heads (is_key key.End)) (stop (one_key key.End) (one_key key.Otherwise) refl))

  has_last : Has (Before (Otherwise W) (Key key.End))
  has_last = has_before (Otherwise W) (Key key.End) (has_right (Made Some (Behind (Key key.Otherwise) W)) (Nothing None) (has_nothing None)) (has_key key.End)

  pub good_if : Good N (If E) (If W) (Stops (among goes_whole)) (made if_of (behind (d.word_mark key.If) (d.in_if e)))
  good_if =
      good_made (past_key key.If (good_both {C = Free} (good_before_key key.Then goes_whole refl good) (good_both {C = Free} (good_before_key key.Else goes_whole refl good) good has_in (λ n b y v r h. tt)) (has_then (Before W (Key key.Else)) W (has_before W (Key key.Else) has_in (has_key key.Else)) has_in) (λ n b y v r h. tt)) (has_then (Before W (Key key.Then)) (Then (Before W (Key key.Else)) W) (has_before W (Key key.Then) has_in (has_key key.Then)) (has_then (Before W (Key key.Else)) W (has_before W (Key key.Else) has_in (has_key key.Else)) has_in)))

  pub good_case : (B V : Phrase Token Branch) (b : Reader Token Branch) → Good N B V (Stops (among goes_whole)) b → Has V → Good N (Case E B) (Case W V) Free (made case_of (behind (d.word_mark key.Case) (d.in_case e b)))
  good_case B V b good_b has_b =
      good_made (past_key key.Case (good_both {C = Free} (good_before good (good_key key.Of Free) (has_key key.Of) (meets_on Free (stop (one_key key.Of) goes_whole refl) (on_key key.Of))) (good_both (good_list good_b has_b) (good_before good_otherwise (good_key key.End Free) (has_key key.End) (meets_on Free (λ v h. h) (on_key key.End))) has_last meets_last) has_parts (λ n x y v r h. tt)) (has_then (Before W (Key key.Of)) (Then (Parted (Symbol sy.Comma) V) (Before (Otherwise W) (Key key.End))) (has_before W (Key key.Of) has_in (has_key key.Of)) has_parts))
    where
      meets_last : Meets (Stops (among comma_goes)) (Before (Otherwise E) (Key key.End)) Free
      meets_last n x ts v (u, w, e, inl s, r) h = rw (e, append_assoc) (stop (one_key key.Otherwise) comma_goes refl (u ++ (w ++ v)) (on_made (is_key key.Otherwise) Some (Behind (Key key.Otherwise) E) (on_behind (is_key key.Otherwise) (Key key.Otherwise) E (on_key key.Otherwise)) n x u (w ++ v) s))
      meets_last n x ts v (u, w, e, inr (ex, z), r) h = rw (e, z) (stop (one_key key.End) comma_goes refl (w ++ v) (on_key key.End (n + length u) tt w v r))

      has_parts : Has (Then (Parted (Symbol sy.Comma) V) (Before (Otherwise W) (Key key.End)))
      has_parts = has_then (Parted (Symbol sy.Comma) V) (Before (Otherwise W) (Key key.End)) (has_parted (Symbol sy.Comma) V has_b) has_last

-- ---- a signed expression whose first token is no minus

-- the first token of a front is that of the whole
first_of : (ts u r more : List Token) (t : Token) → ts ≡ u ++ r → u ≡ t ∷ more → heads (is_symbol sy.Sub) ts ≡ false → t.what ≡ tok.Sym sy.Sub → ⊥
first_of ts u r more t e f h w = let i : heads (is_symbol sy.Sub) ts ≡ true = ap (heads (is_symbol sy.Sub)) (e ∙ ap (λ z. z ++ r) f) ∙ is_symbol_of sy.Sub t w in false≢true (sym h ∙ i)

module _ (N : ℕ) (U V : Phrase Token Expr) (C : List Token → Type 0) (u : Reader Token Expr) (good : Good N U V C u) (on_u : On (among un_kinds) U) where
  begins_so : (n : ℕ) (ts y r : List Token) → ts ≡ y ++ r → heads (is_symbol sy.Sub) ts ≡ false → Begins V n y → Begins (Unsigned V) n y
  begins_so n ts y r e h (inl z) = inl z
  begins_so n ts [] r e h (inr (more, a, k)) = inl refl
  begins_so n ts (t ∷ y) r e h (inr (more, a, k)) =
      inr (more, a, (k, λ c rest f w. (let same : t ≡ c = ap (first_or t) f in first_of ts (t ∷ y) r y t e refl h (ap (λ (x : Token). x.what) same ∙ w))))
    where
      first_or : Token → List Token → Token
      first_or d [] = d
      first_or d (x ∷ xs) = x

  unsigned_sound : (n : ℕ) (ts : List Token) → n + length ts ≡ N → Sound (Unsigned U) (Unsigned V) n ts (d.unsigned u ts)
  unsigned_sound n ts le = by_test (heads (is_symbol sy.Sub) ts) refl
    where
      by_out : (o : Out Token Expr) → heads (is_symbol sy.Sub) ts ≡ false → Sound U V n ts o → Sound (Unsigned U) (Unsigned V) n ts o
      by_out (ok a r) h (y, e, s) = (y, e, (s, λ t more f. first_of ts y r more t e f h))
      by_out (fail w r) h (y, s, v, e, f, t, k) = (y, s, v, e, f, t, begins_so n ts (y ++ s) v (e ∙ ap (λ z. y ++ z) f ∙ sym (append_assoc y s v)) h k)

      by_test : (b : Bool) → heads (is_symbol sy.Sub) ts ≡ b → Sound (Unsigned U) (Unsigned V) n ts (if b then fail bad ts else u ts)
      by_test true h = ([], [], ts, refl, refl, refl, inl refl)
      by_test false h = by_out (u ts) h (good.sound n ts le)

  no_minus : (n : ℕ) (a : Expr) (y v : List Token) → Unsigned U n a y → heads (is_symbol sy.Sub) (y ++ v) ≡ false
  no_minus n a [] v (s, none) = absurd (false≢true (on_u n a [] [] s))
  no_minus n a (t ∷ y) v (s, none) = by_test (is_symbol sy.Sub t) refl
    where
      by_test : (b : Bool) → is_symbol sy.Sub t ≡ b → is_symbol sy.Sub t ≡ false
      by_test true e = absurd (none t y refl (symbol_of sy.Sub t e))
      by_test false e = e

  good_unsigned : Good N (Unsigned U) (Unsigned V) C (d.unsigned u)
  good_unsigned = record {
    sound = unsigned_sound;
    again = λ n a y v le s c. rw (no_minus n a y v s) (good.again n a y v le s.0 c);
    wider = λ n a y s. (good.wider n a y s.0, s.1);
  }

-- ---- records

module _ (N : ℕ) (E W U V : Phrase Token Expr) (e u : Reader Token Expr) (good : Good N E W (Stops (among goes_whole)) e) (has_in : Has W) (good_u : Good N U V (Stops (among goes_path)) u) (has_u : Has (Unsigned V)) (on_u : On (among un_kinds) U) where
  abbrev Base : Phrase Token Expr → Phrase Token Expr
  Base U = Behind (Symbol sy.Dots) (Unsigned U)

  good_base : Good N (Base U) (Base V) (Stops (among goes_whole)) (d.base N e u)
  good_base = good_follow (Stops (among goes_whole)) (looser goes_path goes_whole refl) (past sy.Dots (good_unsigned N U V (Stops (among goes_path)) u good_u on_u) has_u)

  before_close : (v : List Token) → Heads (is_symbol sy.CloseRec) v → Stops (among goes_whole) v × (heads (is_symbol sy.Comma) v ≡ false)
  before_close v h = (stop (one_symbol sy.CloseRec) goes_whole refl v h, stop (one_symbol sy.CloseRec) (one_symbol sy.Comma) refl v h)

  good_fields : Good N (Fields E U) (Fields W V) (Heads (is_symbol sy.CloseRec)) (made record_of (both (d.field N e) (d.fields N e u)))
  good_fields =
      good_made (good_both {C = Stops (among goes_whole)} (good_field N E W e good has_in)
      (good_tailed (is_symbol sy.Comma) (is_symbol sy.Dots) (good_symbol sy.Comma Free) (good_field N E W e good has_in) good_base (on_symbol sy.Comma) (on_base U) (off (Field E) label_kinds (one_symbol sy.Dots) (Stops (among goes_whole)) refl (on_field E)) (has_field N E W e good has_in)
      (stop (one_symbol sy.Comma) goes_whole refl) before_close)
      (has_tailed (Symbol sy.Comma) (Field W) (Base V))
      (meets_tailed (is_symbol sy.Comma) (Symbol sy.Comma) (Field E) (Base U) (on_symbol sy.Comma) (stop (one_symbol sy.Comma) goes_whole refl) before_close))

  pub good_rec : Good N (Rec E U) (Rec W V) Free (behind (d.mark sy.OpenRec) (d.in_rec N e u))
  good_rec =
      past sy.OpenRec (closes sy.CloseRec
      (good_pick good_fields good_nothing (on_made (among label_kinds) record_of (Then (Field E) (Tailed (Symbol sy.Comma) (Field E) (Base U))) (on_then (among label_kinds) (Field E) (Tailed (Symbol sy.Comma) (Field E) (Base U)) (on_field E))) (off_nothing (among label_kinds) (expr.Rec []) (Heads (is_symbol sy.CloseRec)) (stop (one_symbol sy.CloseRec) label_kinds refl)))
      (λ v h. h)) (has_before (Optional (expr.Rec []) (Fields W V)) (Symbol sy.CloseRec) (has_right (Fields W V) (Nothing (expr.Rec [])) (has_nothing (expr.Rec []))) (has_symbol sy.CloseRec))

pub good_inject : (N : ℕ) (A W : Phrase Token Expr) (a : Reader Token Expr) → Good N A W (Stops (among goes_add)) a → Has W → Good N (Inject A) (Inject W) Free (made inject_of (behind (d.mark sy.Lt) (d.in_inject N a)))
good_inject N A W a good has_in =
    good_made (past sy.Lt (closes sy.Gt (good_both {C = Free} good_label (past sy.Eq good has_in) has_rest (λ n b y v r h. tt)) (stop (one_symbol sy.Gt) goes_add refl)) (has_before (Field W) (Symbol sy.Gt) (has_then Label (Behind (Symbol sy.Eq) W) has_label has_rest) (has_symbol sy.Gt)))
  where
    has_rest : Has (Behind (Symbol sy.Eq) W)
    has_rest = has_behind (Symbol sy.Eq) W (has_symbol sy.Eq) has_in

-- ---- patterns too

abbrev closers : List ℕ
closers = symbol_kind sy.CloseSet ∷ symbol_kind sy.CloseBag ∷ symbol_kind sy.CloseList ∷ []

a_closer : (k : Kind) → Within (is_symbol (closer k)) (among closers)
a_closer kind.Set = within (one_symbol sy.CloseSet) closers refl
a_closer kind.Bag = within (one_symbol sy.CloseBag) closers refl
a_closer kind.List = within (one_symbol sy.CloseList) closers refl

closer_stops : (k : Kind) (kinds : List ℕ) → none_of closers kinds ≡ true → (v : List Token) → Heads (is_symbol (closer k)) v → Stops (among kinds) v
closer_stops k kinds h v i = stop closers kinds h v (heads_within (a_closer k) v i)

starts_no_closer : (k : Kind) (ts : List Token) → heads (among whole_kinds) ts ≡ true → heads (is_symbol (closer k)) ts ≡ false
starts_no_closer kind.Set ts h = stop whole_kinds (one_symbol sy.CloseSet) refl ts h
starts_no_closer kind.Bag ts h = stop whole_kinds (one_symbol sy.CloseBag) refl ts h
starts_no_closer kind.List ts h = stop whole_kinds (one_symbol sy.CloseList) refl ts h

module _ (N : ℕ) (P PW : Phrase Token Pattern) (p : Reader Token Pattern) (good_p : Good N P PW Free p) (has_p : Has PW) (E W : Phrase Token Expr) (e : Reader Token Expr) (good : Good N E W (Stops (among goes_whole)) e) (has_in : Has W) (on_e : On (among whole_kinds) E) (flat_p : (ts : List Token) → Flat (d.drawn p ts)) (flat_q : (ts : List Token) → Flat (made qual.Cond (d.condition e) ts)) (apart : Apart N (d.drawn p) (made qual.Cond (d.condition e))) where
  pub good_qual : Good N (AQual P E) (AQual PW W) (Heads (among d.after_qual)) (d.qualifier p e)
  unfolding d.qualifier
  good_qual =
      good_decide gen_of e flat_p flat_q (good_made (good_both {C = Free} (closes sy.Draw good_p (λ v h. tt)) (good_follow (Heads (among d.after_qual)) (stop d.after_qual goes_whole refl) good) has_in (λ n b y v r h. tt)))
      (good_made (good_followed (among d.after_qual) good (stop d.after_qual goes_whole refl))) apart

  has_qual : Has (AQual PW W)
  has_qual = has_right (Made gen_of (Then (Before PW (Symbol sy.Draw)) W)) (Made qual.Cond W) (has_made qual.Cond W has_in)

  good_quals : Good N (Parted (Symbol sy.Comma) (AQual P E)) (Parted (Symbol sy.Comma) (AQual PW W)) (Heads (among closers)) (d.quals p e)
  good_quals = good_parted (good_symbol sy.Comma Free) good_qual has_qual (on_symbol sy.Comma) (heads_within (within (one_symbol sy.Comma) d.after_qual refl)) (λ v h. (heads_within (within closers d.after_qual refl) v h, stop closers (one_symbol sy.Comma) refl v h))

  abbrev Comp : Phrase Token Pattern → Phrase Token Expr → Kind → Expr → Phrase Token Expr
  Comp P E k first = Made (λ found. comp_of k (first, found)) (Behind (Symbol sy.Bar) (Parted (Symbol sy.Comma) (AQual P E)))

  abbrev Items : Phrase Token Expr → Kind → Expr → Phrase Token Expr
  Items E k first = Made (λ more. expr.Coll k (first ∷ more)) (Many (Behind (Symbol sy.Comma) E))

  on_comp : (k : Kind) (first : Expr) → On (is_symbol sy.Bar) (Comp P E k first)
  on_comp k first = on_made (is_symbol sy.Bar) (λ found. comp_of k (first, found)) (Behind (Symbol sy.Bar) (Parted (Symbol sy.Comma) (AQual P E))) (on_behind (is_symbol sy.Bar) (Symbol sy.Bar) (Parted (Symbol sy.Comma) (AQual P E)) (on_symbol sy.Bar))

  off_items : (k : Kind) (first : Expr) → Off (is_symbol sy.Bar) (Items E k first) (Heads (is_symbol (closer k)))
  off_items k first n x u v ([], ex, z) h = rw z (closer_stops k (one_symbol sy.Bar) refl v h)
  off_items k first n x u v (a ∷ more, ex, (y, w, e, (y1, y2, e1, c, s), r)) h = rw (e, e1, append_assoc, append_assoc) (stop (one_symbol sy.Comma) (one_symbol sy.Bar) refl (y1 ++ (y2 ++ (w ++ v))) (on_symbol sy.Comma n tt y1 (y2 ++ (w ++ v)) c))

  good_beyond : (k : Kind) (first : Expr) → Good N (Or (Comp P E k first) (Items E k first)) (Or (Comp PW W k first) (Items W k first)) (Heads (is_symbol (closer k))) (d.beyond p e k first)
  good_beyond k first =
      good_pick (good_made (past sy.Bar (good_follow (Heads (is_symbol (closer k))) (heads_within (a_closer k)) good_quals) (has_parted (Symbol sy.Comma) (AQual PW W) has_qual)))
      (good_made (good_many (past sy.Comma good has_in) (on_behind (is_symbol sy.Comma) (Symbol sy.Comma) E (on_symbol sy.Comma)) (stop (one_symbol sy.Comma) goes_whole refl) (λ v h. (closer_stops k goes_whole refl v h, closer_stops k (one_symbol sy.Comma) refl v h))))
      (on_comp k first) (off_items k first)

  abbrev Beyond : Phrase Token Pattern → Phrase Token Expr → Kind → Phrase Token Expr
  Beyond P E k = Chain E (λ first. Or (Comp P E k first) (Items E k first))

  to_inside : (P : Phrase Token Pattern) (E : Phrase Token Expr) (k : Kind) → To (Or (Nothing (expr.Coll k [])) (Beyond P E k)) (Inside P E k)
  to_inside P E k n x ts (inl (ex, z)) = inl ([], ex, inr (refl, z))
  to_inside P E k n x ts (inr (a, u, v, ets, s, inl (found, ex, q))) = inr ((a, found), ex, (u, v, ets, s, q))
  to_inside P E k n x ts (inr (a, u, v, ets, s, inr (more, ex, r))) = inl (a ∷ more, ex, inl ((a, more), refl, (u, v, ets, s, r)))

  of_inside : (P : Phrase Token Pattern) (E : Phrase Token Expr) (k : Kind) → To (Inside P E k) (Or (Nothing (expr.Coll k [])) (Beyond P E k))
  of_inside P E k n x ts (inl (l, ex, inr (el, z))) = inl (ex ∙ ap (expr.Coll k) el, z)
  of_inside P E k n x ts (inl (l, ex, inl (y, el, (u, v, ets, s, r)))) = inr (y.0, u, v, ets, s, inr (y.1, ex ∙ ap (expr.Coll k) el, r))
  of_inside P E k n x ts (inr (y, ex, (u, v, ets, s, q))) = inr (y.0, u, v, ets, s, inl (y.1, ex, q))

  meets_beyond : (k : Kind) (a : Expr) → Meets (Stops (among goes_whole)) (Or (Comp P E k a) (Items E k a)) (Heads (is_symbol (closer k)))
  meets_beyond k a n b y v (inl s) h = stop (one_symbol sy.Bar) goes_whole refl (y ++ v) (on_comp k a n b y v s)
  meets_beyond k a n b y v (inr (more, ex, r)) h = meets_many {C = Stops (among goes_whole)} {D = Heads (is_symbol (closer k))} (is_symbol sy.Comma) (Behind (Symbol sy.Comma) E) (on_behind (is_symbol sy.Comma) (Symbol sy.Comma) E (on_symbol sy.Comma)) (stop (one_symbol sy.Comma) goes_whole refl) (closer_stops k goes_whole refl) n more y v r h

  has_items : (k : Kind) (a : Expr) → Has (Or (Comp PW W k a) (Items W k a))
  has_items k a = has_right (Comp PW W k a) (Items W k a) (has_made (λ more. expr.Coll k (a ∷ more)) (Many (Behind (Symbol sy.Comma) W)) (has_many (Behind (Symbol sy.Comma) W)))

  good_inside : (k : Kind) → Good N (Inside P E k) (Inside PW W k) (Heads (is_symbol (closer k))) (pick (is_symbol (closer k)) (nothing (expr.Coll k [])) (chain e (d.beyond p e k)))
  good_inside k =
      good_same (to_inside P E k) (of_inside P E k) (to_inside PW W k)
      (good_choose (heads (is_symbol (closer k))) good_nothing (good_chain good (good_beyond k) (has_items k) (meets_beyond k)) (λ n x u v (ex, z) h. rw z h) off_first)
    where
      off_first : (n : ℕ) (x : Expr) (u v : List Token) → Beyond P E k n x u → Heads (is_symbol (closer k)) v → heads (is_symbol (closer k)) (u ++ v) ≡ false
      off_first n x u v (a, y, w, e, s, r) h = rw (e, append_assoc) (starts_no_closer k (y ++ (w ++ v)) (on_e n a y (w ++ v) s))

  has_inside : (k : Kind) → Has (Before (Inside PW W k) (Symbol (closer k)))
  has_inside k = has_before (Inside PW W k) (Symbol (closer k)) (has_left (Made (expr.Coll k) (Optional [] (Exprs W))) (Made (comp_of k) (Then W (Behind (Symbol sy.Bar) (Parted (Symbol sy.Comma) (AQual PW W))))) (has_made (expr.Coll k) (Optional [] (Exprs W)) (has_right (Exprs W) (Nothing []) (has_nothing [])))) (has_symbol (closer k))

  pub good_coll : (k : Kind) → Good N (Coll P E k) (Coll PW W k) Free (d.coll p e k)
  unfolding d.in_coll
  good_coll k = past (opener k) (closes (closer k) (good_inside k) (λ v h. h)) (has_inside k)

  pub good_let : Good N (Let P E) (Let PW W) (Stops (among goes_whole)) (made let_of (behind (d.word_mark key.Let) (d.in_let p e)))
  good_let =
      good_made (past_key key.Let (good_both {C = Free} (closes sy.Equals good_p (λ v h. tt)) (good_both {C = Free} (good_before_key key.In goes_whole refl good) good has_in (λ n b y v r h. tt)) has_value (λ n b y v r h. tt)) (has_then (Before PW (Symbol sy.Equals)) (Then (Before W (Key key.In)) W) (has_before PW (Symbol sy.Equals) has_p (has_symbol sy.Equals)) has_value))
    where
      has_value : Has (Then (Before W (Key key.In)) W)
      has_value = has_then (Before W (Key key.In)) W (has_before W (Key key.In) has_in (has_key key.In)) has_in
