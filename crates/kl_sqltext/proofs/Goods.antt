-- Each reader of the descent reads its word of the grammar.
use Rattle.std.proofs.Common.{◌≡◌, ℕ, zero, suc, ◌+◌, ◌-◌, ◌^◌, ◌<◌, ◌==◌, ◌||◌, Bool, true, false, List, [], ◌∷◌, ◌++◌, length, ◌⊎◌, inl, inr, refl, ap, subst, ◌∙◌, append_assoc, codes, decimal, arith, length-append}
use Rattle.std.proofs.lemmas.Bool.Decides.{nat_tests}
use Rattle.std.proofs.lemmas.Bool.{and_parts, or_left, or_right}
use Rattle.std.specs.List.{list_all}
use Rattle.kl_phrase.specs.Words.{heads, Phrase, Nothing, Then, Behind, Upto, Made, Or}
use Rattle.kl_phrase.specs.Readers.{ok, Out, made, loop, behind, both, nothing}
use Rattle.kl_phrase.proofs.Theory.{On, Meets, To, Has, Loop, Eats, Sound}
use Rattle.kl_phrase.proofs.Firsts.{Stops, Without, heads_without, heads_within, stops_within, on_made, on_then}
use Rattle.kl_phrase.proofs.Kept.{Takes, takes_one, takes_behind}
use Rattle.kl_phrase.proofs.Exact.{Exactly}
use Rattle.kl_sqltext.specs.Words.{ThisByte, TheseBytes, is_blank, AnyBlanks, SomeBlanks, QuotedWord, TableNumber, Number, AText, most_table}
use Rattle.kl_sqltext.specs.Grammar.{SqlColumn, FromWhere, column_of, col_of, int_of, text_of, yes_of, no_of, test_of, no_table, put_first, always, spj_of, Alias, Ref, AColumn, AComparison, Plain, Truth, AfterOp, ATest, Conjunction, Tests, AWhere, ATable, MoreTables, AFrom, MoreColumn, Distinct, Statement}
use Rattle.kl_sqltext.specs.Descent.{is, is_digit, mark, space, a_blank, gap, gaps, after_gap}
use Rattle.kl_sqltext.specs.Statements as d
use Rattle.kl_sqltext.specs.Statements.{begins_number, begins_plain, goes_further}
use Rattle.kl_sqltext.proofs.Flat.{Free, ReadsFlat, reads_nothing, reads_made, reads_both, reads_behind, reads_before, reads_pick, reads_same, reads_follow, reads_loop, reads_parted, flat_exactly}
use Rattle.kl_sqltext.proofs.Bytes.{reads_mark, on_mark, only_byte, reads_code, on_code, reads_gap, reads_space, on_space, reads_named, on_named}
use Rattle.kl_sqltext.proofs.Numerals.{reads_place, reads_number, on_natural}
use Rattle.kl_sqltext.proofs.Gaps.{Solid, reads_gap_then, reads_space_then, reads_gapped, on_gapped, gapped_first}
use Rattle.kl_sqltext.proofs.Texts.{reads_text, on_text, reads_op, on_op, is_first, is_second}

-- such a byte is no blank
solid : (c : ℕ) → is_blank c ≡ false → Solid (is c)
solid c h = only_byte c is_blank h

any : {A : Type 0} (R : Phrase ℕ A) (D : List ℕ → Type 0) → Meets Free R D
any R D n b y v r h = tt

on_behind : {A : Type 0} (test : ℕ → Bool) (S : Phrase ℕ (Unit {0})) (R : Phrase ℕ A) → On test S → On test (Behind S R)
on_behind test S R on n x u v (y, z, e, s, r) = rw (e, append_assoc) (on n tt y (z ++ v) s)

-- behind white space no digit stands
off_gap : {A : Type 0} (test other : ℕ → Bool) (R : Phrase ℕ A) (D : List ℕ → Type 0) → On test R → Without test other → Without is_blank other → Meets (Stops other) (Behind AnyBlanks R) D
off_gap test other R D on apart blank n b y v (u, w, e, s, r) h = rw (e, append_assoc) (go u s)
  where
    go : (u : List ℕ) → AnyBlanks n tt u → heads other (u ++ (w ++ v)) ≡ false
    go [] s = heads_without apart (w ++ v) (on (n + length u) b w v r)
    go (t ∷ u) s = blank t (and_parts (is_blank t) (list_all is_blank u) s).0

-- what goes on at the end of a value, and at the end of a statement
abbrev pub is_tail : ℕ → Bool
is_tail t = is_digit t || t == 39

abbrev pub is_end : ℕ → Bool
is_end t = goes_further t || is_tail t

abbrev pub Tail : List ℕ → Type 0
Tail = Stops is_tail

abbrev pub Ends : List ℕ → Type 0
Ends = Stops is_end

tail_digit : (v : List ℕ) → Tail v → Stops is_digit v
tail_digit = stops_within (λ t h. or_left (is_digit t) (t == 39) h)

tail_quote : (v : List ℕ) → Tail v → Stops (is 39) v
tail_quote = stops_within (λ t h. or_right (is_digit t) (t == 39) h)

ends_tail : (v : List ℕ) → Ends v → Tail v
ends_tail = stops_within (λ t h. or_right (goes_further t) (is_tail t) h)

ends_further : (v : List ℕ) → Ends v → Stops goes_further v
ends_further = stops_within (λ t h. or_left (goes_further t) (is_tail t) h)

further_blank : (v : List ℕ) → Stops goes_further v → Stops is_blank v
further_blank = stops_within (λ t h. or_left (is_blank t) (t == 44) h)

blank_tail : (t : ℕ) → is_blank t ≡ true → is_tail t ≡ false
blank_tail t h = grind (arith, nat_tests)

blank_digit : (t : ℕ) → is_blank t ≡ true → is_digit t ≡ false
blank_digit t h = grind (arith, nat_tests)

-- ---- references and columns

reads_alias : ReadsFlat Alias (Stops is_digit) d.alias
reads_alias = reads_behind (reads_mark 116) reads_place (any TableNumber (Stops is_digit))

reads_ref : ReadsFlat Ref Free d.ref
reads_ref = reads_both reads_alias (reads_gap_then Free (solid 46 refl) (on_behind (is 46) (ThisByte 46) (Behind AnyBlanks QuotedWord) (on_mark 46)) (reads_behind (reads_mark 46) (reads_gap_then Free (solid 34 refl) on_named reads_named) (any (Behind AnyBlanks QuotedWord) Free)))
    (off_gap (is 46) is_digit (Behind (ThisByte 46) (Behind AnyBlanks QuotedWord)) Free (on_behind (is 46) (ThisByte 46) (Behind AnyBlanks QuotedWord) (on_mark 46)) (only_byte 46 is_digit refl) blank_digit)

on_ref : On (is 116) Ref
on_ref = on_then (is 116) Alias (Behind AnyBlanks (Behind (ThisByte 46) (Behind AnyBlanks QuotedWord))) (on_behind (is 116) (ThisByte 116) TableNumber (on_mark 116))

pub reads_column : ReadsFlat AColumn Free d.column
reads_column = reads_made column_of (reads_both reads_ref (reads_space_then Free (solid 65 refl) (on_behind (is 65) (TheseBytes (codes "AS")) (Behind SomeBlanks QuotedWord) (on_code 65 (83 ∷ []))) (reads_behind (reads_code (codes "AS")) (reads_space_then Free (solid 34 refl) on_named reads_named) (any (Behind SomeBlanks QuotedWord) Free))) (any (Behind SomeBlanks (Behind (TheseBytes (codes "AS")) (Behind SomeBlanks QuotedWord))) Free))

on_column : On (is 116) AColumn
on_column = on_made (is 116) column_of (Then Ref (Behind SomeBlanks (Behind (TheseBytes (codes "AS")) (Behind SomeBlanks QuotedWord)))) (on_then (is 116) Ref (Behind SomeBlanks (Behind (TheseBytes (codes "AS")) (Behind SomeBlanks QuotedWord))) on_ref)

-- ---- tests

on_number : On begins_number (Made int_of Number)
on_number n q u v (z, eq, inl (k, ek, (x, y, e, s, r))) = let h : heads (is 45) (u ++ v) ≡ true = rw (e, append_assoc) (on_mark 45 n tt x (y ++ v) s) in heads_within (λ t h. or_left (t == 45) (is_digit t) h) (u ++ v) h
on_number n q u v (z, eq, inr (k, ek, h)) = heads_within (λ t h. or_right (t == 45) (is_digit t) h) (u ++ v) (on_natural (2 ^ 63 - 1) n k u v h)

on_a_text : On (is 39) (Made text_of AText)
on_a_text = on_made (is 39) text_of AText on_text

on_rest : On (λ t. begins_number t || t == 39) (Or (Made int_of Number) (Made text_of AText))
on_rest n q u v (inl h) = heads_within (λ t h. or_left (begins_number t) (t == 39) h) (u ++ v) (on_number n q u v h)
on_rest n q u v (inr h) = heads_within (λ t h. or_right (begins_number t) (t == 39) h) (u ++ v) (on_a_text n q u v h)

no_ref : (t : ℕ) → (begins_number t || t == 39) ≡ true → (t == 116) ≡ false
no_ref t h = grind (arith, nat_tests)

pub reads_plain : ReadsFlat Plain Tail d.plain
reads_plain = reads_pick (reads_follow Tail (λ v h. tt) (reads_made col_of reads_ref)) (reads_pick (reads_follow Tail tail_digit (reads_made int_of reads_number)) (reads_follow Tail tail_quote (reads_made text_of reads_text)) on_number (λ n q u v h c. heads_without (only_byte 39 begins_number refl) (u ++ v) (on_a_text n q u v h)))
    (on_made (is 116) col_of Ref on_ref) (λ n q u v h c. heads_without no_ref (u ++ v) (on_rest n q u v h))

on_plain : On begins_plain Plain
on_plain n q u v (inl h) = heads_within (λ t h. or_left (t == 116) (begins_number t || t == 39) h) (u ++ v) (on_made (is 116) col_of Ref on_ref n q u v h)
on_plain n q u v (inr h) = heads_within (λ t h. or_right (t == 116) (begins_number t || t == 39) h) (u ++ v) (on_rest n q u v h)

on_yes : On (is 84) (Made yes_of (TheseBytes (codes "TRUE")))
on_yes = on_made (is 84) yes_of (TheseBytes (codes "TRUE")) (on_code 84 (82 ∷ 85 ∷ 69 ∷ []))

on_no : On (is 70) (Made no_of (TheseBytes (codes "FALSE")))
on_no = on_made (is 70) no_of (TheseBytes (codes "FALSE")) (on_code 70 (65 ∷ 76 ∷ 83 ∷ 69 ∷ []))

pub reads_truth : ReadsFlat Truth Free d.truth
reads_truth = reads_pick (reads_made yes_of (reads_code (codes "TRUE"))) (reads_made no_of (reads_code (codes "FALSE"))) on_yes (λ n q u v h c. heads_without (only_byte 70 (is 84) refl) (u ++ v) (on_no n q u v h))

abbrev begins_truth : ℕ → Bool
begins_truth t = t == 84 || t == 70

on_truth : On begins_truth Truth
on_truth n q u v (inl h) = heads_within (λ t h. or_left (t == 84) (t == 70) h) (u ++ v) (on_yes n q u v h)
on_truth n q u v (inr h) = heads_within (λ t h. or_right (t == 84) (t == 70) h) (u ++ v) (on_no n q u v h)

truth_no_plain : (t : ℕ) → begins_truth t ≡ true → begins_plain t ≡ false
truth_no_plain t h = grind (arith, nat_tests)

plain_solid : (t : ℕ) → begins_plain t ≡ true → is_blank t ≡ false
plain_solid t h = grind (arith, nat_tests)

truth_solid : (t : ℕ) → begins_truth t ≡ true → is_blank t ≡ false
truth_solid t h = grind (arith, nat_tests)

op_solid : (t : ℕ) → is_first t ≡ true → is_blank t ≡ false
op_solid t h = grind (arith, nat_tests)

right_no_op : (t : ℕ) → (is_blank t || begins_plain t) ≡ true → is_second t ≡ false
right_no_op t h = grind (arith, nat_tests)

pub reads_after_op : ReadsFlat AfterOp Tail d.after_op
reads_after_op = reads_gapped begins_plain begins_truth reads_plain (reads_follow Tail (λ v h. tt) reads_truth) on_plain on_truth truth_no_plain plain_solid truth_solid

reads_test : ReadsFlat ATest Tail d.test
reads_test = reads_made test_of (reads_both reads_ref (reads_both (reads_gap_then (Stops is_second) op_solid on_op reads_op) reads_after_op (λ n b y v r h. heads_without right_no_op (y ++ v) (on_gapped Plain Truth begins_plain begins_truth on_plain n b y v r))) (any (Then (Behind AnyBlanks AComparison) AfterOp) Tail))

on_test : On (is 116) ATest
on_test = on_made (is 116) test_of (Then Ref (Then (Behind AnyBlanks AComparison) AfterOp)) (on_then (is 116) Ref (Then (Behind AnyBlanks AComparison) AfterOp) on_ref)

pub takes_conjunction : Takes d.conjunction
takes_conjunction = takes_behind (takes_behind (takes_one a_blank) (reads_gap.keeps (λ _ _. ⊥) 0 0)) ((reads_code (codes "AND")).keeps (λ _ _. ⊥) 0 0)

reads_conjunction : ReadsFlat Conjunction Free d.conjunction
reads_conjunction = reads_space_then Free (solid 65 refl) (on_code 65 (78 ∷ 68 ∷ [])) (reads_code (codes "AND"))

blanks_go_on : (w : List ℕ) → heads is_blank w ≡ true → Tail w
blanks_go_on w h = heads_without blank_tail w h

pub reads_spaced : ReadsFlat (Behind SomeBlanks ATest) Tail (behind space d.test)
reads_spaced = reads_space_then Tail (solid 116 refl) on_test reads_test

pub reads_tests : ReadsFlat Tests Ends d.tests
reads_tests = reads_parted reads_conjunction reads_spaced (on_behind is_blank SomeBlanks (TheseBytes (codes "AND")) on_space) blanks_go_on (λ v h. (ends_tail v h, further_blank v (ends_further v h))) takes_conjunction

-- ---- tables

reads_where : ReadsFlat AWhere Ends d.a_where
reads_where = reads_made no_table (reads_behind (reads_code (codes "WHERE")) reads_tests (any Tests Ends))

on_where : On (is 87) AWhere
on_where = on_made (is 87) no_table (Behind (TheseBytes (codes "WHERE")) Tests) (on_behind (is 87) (TheseBytes (codes "WHERE")) Tests (on_code 87 (72 ∷ 69 ∷ 82 ∷ 69 ∷ [])))

pub reads_table : (i : ℕ) → ReadsFlat (ATable i) Free (d.table i)
reads_table i = reads_before reads_named (reads_gap_then Free (solid 116 refl) (on_code 116 (decimal i)) (reads_code (116 ∷ decimal i))) (any (Behind AnyBlanks (TheseBytes (116 ∷ decimal i))) Free)

on_table : (i : ℕ) → On (is 34) (ATable i)
on_table i n w u v (y, z, e, s, r) = rw (e, append_assoc) (on_named n w y (z ++ v) s)

nothing_ends : {A : Type 0} (a : A) → ReadsFlat (Nothing a) Ends (nothing a)
nothing_ends a = reads_follow Ends (λ v h. tt) (reads_nothing a)

pub reads_more : (k i : ℕ) → ReadsFlat (MoreTables k i) Ends (d.more k i)
unfolding MoreTables d.more
reads_more zero i = reads_pick (reads_space_then Ends (solid 87 refl) on_where reads_where) (nothing_ends ([], [])) (on_behind is_blank SomeBlanks AWhere on_space) (λ n b u v (e, z) h. rw z (further_blank v (ends_further v h)))
reads_more (suc k) i =
    reads_pick (reads_gapped (is 44) (is 87) (item (reads_more k (suc i))) reads_where on_item on_where (only_byte 87 (is 44) refl) (solid 44 refl) (solid 87 refl)) (nothing_ends ([], []))
    (on_gapped Item AWhere (is 44) (is 87) on_item) (λ n b u v (e, z) h. rw z (ends_further v h))
  where
    Inner : Phrase ℕ FromWhere
    Inner = Made put_first (Then (ATable i) (MoreTables k (suc i)))

    Item : Phrase ℕ FromWhere
    Item = Behind (ThisByte 44) (Behind AnyBlanks Inner)

    item : ReadsFlat (MoreTables k (suc i)) Ends (d.more k (suc i)) → ReadsFlat Item Ends (behind (mark 44) (behind gap (made put_first (both (d.table i) (d.more k (suc i))))))
    item others = reads_behind (reads_mark 44) (reads_gap_then Ends (solid 34 refl) (on_made (is 34) put_first (Then (ATable i) (MoreTables k (suc i))) (on_then (is 34) (ATable i) (MoreTables k (suc i)) (on_table i))) (reads_made put_first (reads_both (reads_table i) others (any (MoreTables k (suc i)) Ends)))) (any (Behind AnyBlanks Inner) Ends)

    on_item : On (is 44) Item
    on_item = on_behind (is 44) (ThisByte 44) (Behind AnyBlanks Inner) (on_mark 44)

First : Phrase ℕ FromWhere
First = Made put_first (Then (ATable 0) (MoreTables most_table 1))

on_first : On (is 34) First
unfolding First
on_first = on_made (is 34) put_first (Then (ATable 0) (MoreTables most_table 1)) (on_then (is 34) (ATable 0) (MoreTables most_table 1) (on_table 0))

pub reads_from : ReadsFlat AFrom Ends d.a_from
unfolding First
reads_from = reads_behind (reads_code (codes "FROM")) (reads_space_then Ends (solid 34 refl) on_first (reads_made put_first (reads_both (reads_table 0) (reads_more most_table 1) (any (MoreTables most_table 1) Ends)))) (any (Behind SomeBlanks First) Ends)

on_from : On (is 70) AFrom
on_from = on_behind (is 70) (TheseBytes (codes "FROM")) (Behind SomeBlanks (Made put_first (Then (ATable 0) (MoreTables most_table 1)))) (on_code 70 (82 ∷ 79 ∷ 77 ∷ []))

-- ---- columns

reads_more_column : ReadsFlat MoreColumn Free d.more_column
reads_more_column = reads_behind (reads_mark 44) (reads_gap_then Free (solid 116 refl) on_column reads_column) (any (Behind AnyBlanks AColumn) Free)

on_more_column : On (is 44) MoreColumn
on_more_column = on_behind (is 44) (ThisByte 44) (Behind AnyBlanks AColumn) (on_mark 44)

abbrev Turn : Phrase ℕ (SqlColumn ⊎ FromWhere)
Turn = Or (Behind AnyBlanks (Made inl MoreColumn)) (Behind SomeBlanks (Made inr AFrom))

on_inl : On {A = SqlColumn ⊎ FromWhere} (is 44) (Made inl MoreColumn)
on_inl = on_made (is 44) inl MoreColumn on_more_column

on_inr : On {A = SqlColumn ⊎ FromWhere} (is 70) (Made inr AFrom)
on_inr = on_made (is 70) inr AFrom on_from

reads_turn : ReadsFlat Turn Ends d.columns_turn
reads_turn = reads_gapped (is 44) (is 70) (reads_follow Ends (λ v h. tt) (reads_made inl reads_more_column)) (reads_made inr reads_from) on_inl on_inr (only_byte 70 (is 44) refl) (solid 44 refl) (solid 70 refl)

turn_on : (n : ℕ) (c : SqlColumn) (u v : List ℕ) → Turn n (inl c) u → Free v → d.columns_turn (u ++ v) ≡ ok (inl c) v
turn_on n c u v (inl h) free = gapped_first (is 44) (made inr d.a_from) (reads_made inl reads_more_column) on_inl (solid 44 refl) n (inl c) u v h free
turn_on n c u v (inr (x, y, e, s, (b, eb, r))) free = absurd cc

eats_turn : Eats Turn
eats_turn n c u (inl (x, y, e, s, (b, eb, (p, q, f, (t, ep, et), r)))) =
    let k : length u ≡ length x + length y = ap length e ∙ length-append x y in
    let l : length y ≡ length (t ∷ q) = ap length (f ∙ ap (λ z. z ++ q) ep) in omega arith
eats_turn n c u (inr (x, y, e, s, (b, eb, r))) = absurd cc

reads_behind_columns : ReadsFlat (Behind SomeBlanks AFrom) Ends (behind space d.a_from)
reads_behind_columns = reads_space_then Ends (solid 70 refl) on_from reads_from

has_turns : Has (Loop Turn)
has_turns n = let (b, u, (x, y, e, s, r)) = reads_behind_columns.has n in (([], b), u, inr (x, y, e, s, (b, refl, r)))

loop_upto : To (Loop Turn) (Upto (Behind AnyBlanks MoreColumn) (Behind SomeBlanks AFrom))
loop_upto n ([], b) ts (inl (x, y, e, g, (c, ec, r))) = absurd cc
loop_upto n ([], b) ts (inr (x, y, e, s, (c, ec, r))) = let k : c ≡ b = cc in (x, y, e, s, subst (λ z. AFrom (n + length x) z y) k r)
loop_upto n (a ∷ more, b) ts (u, v, e, inl (x, y, eu, g, (c, ec, r)), l) = let k : c ≡ a = cc in (u, v, e, (x, y, eu, g, subst (λ z. MoreColumn (n + length x) z y) k r), loop_upto (n + length u) (more, b) v l)
loop_upto n (a ∷ more, b) ts (u, v, e, inr (x, y, eu, s, (c, ec, r)), l) = absurd cc

upto_loop : To (Upto (Behind AnyBlanks MoreColumn) (Behind SomeBlanks AFrom)) (Loop Turn)
upto_loop n ([], b) ts (x, y, e, s, r) = inr (x, y, e, s, (b, refl, r))
upto_loop n (a ∷ more, b) ts (u, v, e, (x, y, eu, g, r), l) = (u, v, e, inl (x, y, eu, g, (a, refl, r)), upto_loop (n + length u) (more, b) v l)

-- a column takes bytes
turn_less : (ts r : List ℕ) (c : SqlColumn) → d.columns_turn ts ≡ ok (inl c) r → length r < length ts
turn_less ts r c e = go (subst (λ (o : Out ℕ (SqlColumn ⊎ FromWhere)). Sound Turn Turn 0 ts o) e ((reads_turn.good (0 + length ts)).sound 0 ts refl))
  where
    go : Sound Turn Turn 0 ts (ok (inl c) r) → length r < length ts
    go (u, eu, s) = let k = eats_turn 0 c u s in let l : length ts ≡ length u + length r = ap length eu ∙ length-append u r in omega arith

pub column_less : (ts r s : List ℕ) (some : Bool) (c : SqlColumn) → gaps ts ≡ ok some r → heads (is 44) r ≡ true → d.more_column r ≡ ok c s → length s < length ts
column_less ts r s some c e h f = turn_less ts s c (rw e (by some))
  where
    by : (b : Bool) → after_gap (is 44) (made {B = SqlColumn ⊎ FromWhere} inl d.more_column) (made {B = SqlColumn ⊎ FromWhere} inr d.a_from) b r ≡ ok (inl c) s
    by true = rw (h, f) refl
    by false = rw (h, f) refl

pub reads_columns : ReadsFlat (Upto (Behind AnyBlanks MoreColumn) (Behind SomeBlanks AFrom)) Ends (loop d.columns_turn)
reads_columns = reads_same loop_upto upto_loop (reads_loop Free reads_turn turn_on eats_turn has_turns (any (Loop Turn) Ends))

-- ---- the statement

abbrev Body : Phrase ℕ (SqlColumn × (List SqlColumn × FromWhere))
Body = Then AColumn (Upto (Behind AnyBlanks MoreColumn) (Behind SomeBlanks AFrom))

on_body : On (is 116) Body
on_body = on_then (is 116) AColumn (Upto (Behind AnyBlanks MoreColumn) (Behind SomeBlanks AFrom)) on_column

abbrev no_distinct : ℕ → Bool
no_distinct t = is_blank t || t == 68

reads_distinct : ReadsFlat Distinct (Stops no_distinct) d.distinct
reads_distinct = reads_pick (reads_made always (reads_before (reads_code (codes "DISTINCT")) (reads_follow (Stops no_distinct) (stops_within (λ t h. or_left (is_blank t) (t == 68) h)) reads_space) (any SomeBlanks (Stops no_distinct)))) (reads_follow (Stops no_distinct) (λ v h. tt) (reads_nothing false))
    (λ n b u v (x, e, (y, z, f, s, r)). rw (f, append_assoc) (on_code 68 (73 ∷ 83 ∷ 84 ∷ 73 ∷ 78 ∷ 67 ∷ 84 ∷ []) n x y (z ++ v) s))
    (λ n b u v (e, z) h. rw z (stops_within {other = no_distinct} (λ t h. or_right (is_blank t) (t == 68) h) v h))

abbrev begins_body : ℕ → Bool
begins_body t = t == 68 || t == 116

on_distinct_body : On begins_body (Then Distinct Body)
on_distinct_body n x u v (y, z, e, inl (b, eb, (p, q, f, s, r)), h) =
    let whole : u ++ v ≡ p ++ (q ++ (z ++ v)) = ap (λ w. w ++ v) e ∙ append_assoc y z v ∙ ap (λ w. w ++ (z ++ v)) f ∙ append_assoc p q (z ++ v) in
    rw whole (heads_within (λ t h. or_left (t == 68) (t == 116) h) (p ++ (q ++ (z ++ v))) (on_code 68 (73 ∷ 83 ∷ 84 ∷ 73 ∷ 78 ∷ 67 ∷ 84 ∷ []) n b p (q ++ (z ++ v)) s))
on_distinct_body n x u v (y, z, e, inr (eb, ey), h) =
    let whole : u ++ v ≡ z ++ v = ap (λ w. w ++ v) (e ∙ ap (λ w. w ++ z) ey) in
    rw whole (heads_within (λ t h. or_right (t == 68) (t == 116) h) (z ++ v) (on_body (n + length y) x.1 z v h))

body_solid : (t : ℕ) → begins_body t ≡ true → is_blank t ≡ false
body_solid t h = grind (arith, nat_tests)

pub reads_statement : ReadsFlat Statement Ends d.statement
reads_statement = reads_made spj_of (reads_behind (reads_code (codes "SELECT")) (reads_space_then Ends body_solid on_distinct_body
    (reads_both reads_distinct (reads_both reads_column reads_columns (any (Upto (Behind AnyBlanks MoreColumn) (Behind SomeBlanks AFrom)) Ends)) (λ n b y v r h. heads_without (only_byte 116 no_distinct refl) (y ++ v) (on_body n b y v r)))) (any (Behind SomeBlanks (Then Distinct Body)) Ends))

pub exactly : Exactly (λ _. Statement) (λ n. n) Ends (λ _. true) (λ N n. d.statement)
exactly = flat_exactly reads_statement refl
