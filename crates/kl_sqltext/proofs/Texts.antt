-- Texts in quotes, and comparisons.
use Rattle.std.proofs.Common.{◌≡◌, ℕ, ◌+◌, ◌==◌, Bool, true, false, IsTrue, not, List, [], ◌∷◌, ◌++◌, length, ◌⊎◌, inl, inr, refl, sym, ap, subst, ◌∙◌, append_assoc, arith, eqb-true, ◌||◌}
use Rattle.kl_phrase.specs.Words.{Phrase, One, Nothing, Behind, Made, Or}
use Rattle.kl_phrase.specs.Readers.{ok, made}
use Rattle.kl_phrase.proofs.Theory.{On, Off, To, Has, Loop, Eats}
use Rattle.kl_phrase.proofs.Firsts.{Stops, heads_without, on_made}
use Rattle.kl_sqltext.specs.declared.ast.SqlOp.{SqlOp}
use Rattle.kl_sqltext.specs.declared.ast.SqlOp.TheVariants as op
use Rattle.kl_sqltext.specs.Words.{ThisByte, AText, doubled}
use Rattle.kl_sqltext.specs.Grammar.{AComparison}
use Rattle.kl_sqltext.specs.Descent.{is, mark, a_quote, no_quote, part, inside, text, is_op, ne_op, le_op, ge_op, an_op}
use Rattle.kl_sqltext.proofs.Flat.{Free, ReadsFlat, reads_one, reads_nothing, reads_made, reads_behind, reads_pick, reads_same, reads_follow, reads_loop}
use Rattle.kl_sqltext.proofs.Bytes.{reads_mark, on_mark, only_byte, decides_passing}

-- ---- texts

Bare : Phrase ℕ ℕ
Bare = One (λ t a. (a ≡ t) × IsTrue (no_quote t))

Part : Phrase ℕ (ℕ ⊎ Unit {0})
Part = Or (Behind (ThisByte 39) (Or (Made a_quote (ThisByte 39)) (Nothing (inr (tt {0}))))) (Made inl Bare)

not_quote : (t : ℕ) → IsTrue (no_quote t) → (t == 39) ≡ false
not_quote t h = by (t == 39) refl h
  where
    by : (b : Bool) → (t == 39) ≡ b → IsTrue (not b) → (t == 39) ≡ false
    by true e h = let k : false ≡ true = h in cc
    by false e h = e

reads_part : ReadsFlat Part (Stops (is 39)) part
unfolding Part Bare
reads_part = reads_pick (reads_behind (reads_mark 39) (reads_pick (reads_follow (Stops (is 39)) (λ v h. tt) (reads_made a_quote (reads_mark 39))) (reads_follow (Stops (is 39)) (λ v h. tt) (reads_nothing (inr (tt {0})))) (on_made (is 39) a_quote (ThisByte 39) (on_mark 39)) (λ n b u v (e, z) h. rw z h)) (λ n b y v r h. tt))
    (reads_follow (Stops (is 39)) (λ v h. tt) (reads_made inl (reads_one (decides_passing no_quote) 97 97 (refl, refl))))
    (λ n x u v (y, z, e, s, r). rw (e, append_assoc) (on_mark 39 n tt y (z ++ v) s))
    (λ n x u v (a, ea, (t, e, h)) c. rw e (not_quote t h.1))

part_on : (n : ℕ) (a : ℕ) (u v : List ℕ) → Part n (inl a) u → part (u ++ v) ≡ ok (inl a) v
unfolding Part Bare
part_on n a u v (inl (y, z, e, (s, ey, es), inl (x, ea, (t, ez, et)))) =
    let k : a ≡ 39 = cc in
    let whole : u ≡ 39 ∷ 39 ∷ [] = e ∙ (λ i. ey i ++ ez i) ∙ (λ i. es i ∷ et i ∷ []) in
    rw (whole, k) refl
part_on n a u v (inl (y, z, e, s, inr (ea, ez))) = absurd cc
part_on n a u v (inr (b, ea, (t, e, (eb, h)))) = let k : a ≡ b = cc in rw (e, not_quote t h, k, eb) refl

eats_part : Eats Part
unfolding Part Bare
eats_part n a u (inl (y, z, e, (s, ey, es), r)) = let k : length u ≡ length (s ∷ z) = ap length (e ∙ ap (λ w. w ++ z) ey) in omega arith
eats_part n a u (inr (b, ea, (t, e, h))) = let k : length u ≡ 1 = ap length e in omega arith

text_to : (n : ℕ) (s : List ℕ) (x : Unit {0}) (ts : List ℕ) → Loop Part n (s, x) ts → ts ≡ doubled s ++ 39 ∷ []
unfolding Part Bare
text_to n [] x ts (inl (u, v, e, (t, eu, et), inl (y, ea, m))) = absurd cc
text_to n [] x ts (inl (u, v, e, (t, eu, et), inr (ea, ev))) = e ∙ (λ i. eu i ++ ev i) ∙ ap (λ z. z ∷ []) et
text_to n [] x ts (inr (b, ea, h)) = absurd cc
text_to n (a ∷ s) x ts (u, v, e, inl (y, z, eu, (t, ey, et), inl (w, ea, (r, ez, er))), rest) =
    let k : a ≡ 39 = cc in
    let front : u ≡ 39 ∷ 39 ∷ [] = eu ∙ (λ i. ey i ++ ez i) ∙ (λ i. et i ∷ er i ∷ []) in
    rw k (e ∙ (λ i. front i ++ text_to (n + length u) s x v rest i))
text_to n (a ∷ s) x ts (u, v, e, inl (y, z, eu, m, inr (ea, ez)), rest) = absurd cc
text_to n (a ∷ s) x ts (u, v, e, inr (b, ea, (t, et, (eb, h))), rest) =
    let k : a ≡ t = let q : a ≡ b = cc in q ∙ eb in
    rw (k, not_quote t h) (e ∙ (λ i. et i ++ text_to (n + length u) s x v rest i))

text_from : (n : ℕ) (s ts : List ℕ) → ts ≡ doubled s ++ 39 ∷ [] → Loop Part n (s, tt) ts
unfolding Part Bare
text_from n [] ts e = inl (39 ∷ [], [], e, (39, refl, refl), inr (refl, refl))
text_from n (a ∷ s) ts e = by (a == 39) refl (λ m. text_from m s (doubled s ++ 39 ∷ []) refl)
  where
    by : (b : Bool) → (a == 39) ≡ b → ((m : ℕ) → Loop Part m (s, tt) (doubled s ++ 39 ∷ [])) → Loop Part n (a ∷ s, tt) ts
    by true q more = let k = eqb-true a 39 q in (39 ∷ 39 ∷ [], doubled s ++ 39 ∷ [], e ∙ rw q refl, inl (39 ∷ [], 39 ∷ [], refl, (39, refl, refl), inl (tt, ap inl k, (39, refl, refl))), more (n + 2))
    by false q more = (a ∷ [], doubled s ++ 39 ∷ [], e ∙ rw q refl, inr (a, refl, (a, refl, (refl, rw q refl))), more (n + 1))

pub reads_text : ReadsFlat AText (Stops (is 39)) text
reads_text = reads_same to from (reads_behind (reads_mark 39) (reads_made inside (reads_loop Free reads_part (λ n a u v s c. part_on n a u v s) eats_part has (λ n x y v r h. tt))) (λ n b y v r h. tt))
  where
    has : Has (Loop Part)
    has n = (([], tt), 39 ∷ [], text_from n [] (39 ∷ []) refl)

    to : To (Behind (ThisByte 39) (Made inside (Loop Part))) AText
    to n s ts (u, v, e, (t, eu, et), ((q, x), es, l)) = e ∙ (λ i. eu i ++ text_to (n + length u) q x v l i) ∙ (λ i. et i ∷ (doubled (sym es i) ++ 39 ∷ []))

    from : To AText (Behind (ThisByte 39) (Made inside (Loop Part)))
    from n s ts e = (39 ∷ [], doubled s ++ 39 ∷ [], e, (39, refl, refl), ((s, tt), refl, text_from (n + 1) s (doubled s ++ 39 ∷ []) refl))

pub on_text : On (is 39) AText
on_text n s u v e = rw e refl

-- ---- comparisons

abbrev Below : Phrase ℕ SqlOp
Below = Or (Made ne_op (ThisByte 62)) (Or (Made le_op (ThisByte 61)) (Nothing op.Lt))

abbrev Above : Phrase ℕ SqlOp
Above = Or (Made ge_op (ThisByte 61)) (Nothing op.Gt)

abbrev Ops : Phrase ℕ SqlOp
Ops = Or (Made is_op (ThisByte 61)) (Or (Behind (ThisByte 60) Below) (Behind (ThisByte 62) Above))

-- what can be the second byte of one
abbrev pub is_second : ℕ → Bool
is_second t = t == 61 || t == 62

abbrev Ends : List ℕ → Type 0
Ends = Stops is_second

ends_at : (c : ℕ) → is_second c ≡ true → (v : List ℕ) → Ends v → Stops (is c) v
ends_at c h [] e = refl
ends_at c h (t ∷ v) e = go (t == c) refl
  where
    go : (b : Bool) → (t == c) ≡ b → (t == c) ≡ false
    go false k = k
    go true k = let z : is_second t ≡ true = subst (λ y. is_second y ≡ true) (sym (eqb-true t c k)) h in let y : true ≡ false = sym z ∙ e in cc

made_mark : (c : ℕ) (f : Unit {0} → SqlOp) → ReadsFlat (Made f (ThisByte c)) Ends (made f (mark c))
made_mark c f = reads_follow Ends (λ v h. tt) (reads_made f (reads_mark c))

on_made_mark : (c : ℕ) (f : Unit {0} → SqlOp) → On (is c) (Made f (ThisByte c))
on_made_mark c f = on_made (is c) f (ThisByte c) (on_mark c)

reads_ops : ReadsFlat Ops Ends an_op
reads_ops = reads_pick (made_mark 61 is_op)
    (reads_pick
    (reads_behind (reads_mark 60) (reads_pick (made_mark 62 ne_op) (reads_pick (made_mark 61 le_op) (reads_follow Ends (λ v h. tt) (reads_nothing op.Lt)) (on_made_mark 61 le_op) (λ n b u v (e, z) h. rw z (ends_at 61 refl v h))) (on_made_mark 62 ne_op) off_ne) (λ n b y v r h. tt))
    (reads_behind (reads_mark 62) (reads_pick (made_mark 61 ge_op) (reads_follow Ends (λ v h. tt) (reads_nothing op.Gt)) (on_made_mark 61 ge_op) (λ n b u v (e, z) h. rw z (ends_at 61 refl v h))) (λ n b y v r h. tt))
    (λ n x u v (y, z, e, s, r). rw (e, append_assoc) (on_mark 60 n tt y (z ++ v) s))
    (λ n x u v (y, z, e, s, r) h. rw (e, append_assoc) (heads_without (only_byte 62 (is 60) refl) (y ++ (z ++ v)) (on_mark 62 n tt y (z ++ v) s))))
    (on_made_mark 61 is_op)
    off_is
  where
    off_ne : Off (is 62) (Or (Made le_op (ThisByte 61)) (Nothing op.Lt)) Ends
    off_ne n b u v (inl s) h = heads_without (only_byte 61 (is 62) refl) (u ++ v) (on_made_mark 61 le_op n b u v s)
    off_ne n b u v (inr (e, z)) h = rw z (ends_at 62 refl v h)

    off_is : Off (is 61) (Or (Behind (ThisByte 60) Below) (Behind (ThisByte 62) Above)) Ends
    off_is n b u v (inl (y, z, e, s, r)) h = rw (e, append_assoc) (heads_without (only_byte 60 (is 61) refl) (y ++ (z ++ v)) (on_mark 60 n tt y (z ++ v) s))
    off_is n b u v (inr (y, z, e, s, r)) h = rw (e, append_assoc) (heads_without (only_byte 62 (is 61) refl) (y ++ (z ++ v)) (on_mark 62 n tt y (z ++ v) s))

ops_to : To Ops AComparison
ops_to n o ts (inl (x, eo, (t, e, et))) = rw eo (e ∙ ap (λ z. z ∷ []) et)
ops_to n o ts (inr (inl (u, v, e, (t, eu, et), inl (x, eo, (s, ev, es))))) = rw eo (e ∙ (λ i. eu i ++ ev i) ∙ (λ i. et i ∷ es i ∷ []))
ops_to n o ts (inr (inl (u, v, e, (t, eu, et), inr (inl (x, eo, (s, ev, es)))))) = rw eo (e ∙ (λ i. eu i ++ ev i) ∙ (λ i. et i ∷ es i ∷ []))
ops_to n o ts (inr (inl (u, v, e, (t, eu, et), inr (inr (eo, ev))))) = rw eo (e ∙ (λ i. eu i ++ ev i) ∙ ap (λ z. z ∷ []) et)
ops_to n o ts (inr (inr (u, v, e, (t, eu, et), inl (x, eo, (s, ev, es))))) = rw eo (e ∙ (λ i. eu i ++ ev i) ∙ (λ i. et i ∷ es i ∷ []))
ops_to n o ts (inr (inr (u, v, e, (t, eu, et), inr (eo, ev)))) = rw eo (e ∙ (λ i. eu i ++ ev i) ∙ ap (λ z. z ∷ []) et)

ops_from : To AComparison Ops
ops_from n op.Eq ts e = inl (tt, refl, (61, e, refl))
ops_from n op.Ne ts e = inr (inl (60 ∷ [], 62 ∷ [], e, (60, refl, refl), inl (tt, refl, (62, refl, refl))))
ops_from n op.Le ts e = inr (inl (60 ∷ [], 61 ∷ [], e, (60, refl, refl), inr (inl (tt, refl, (61, refl, refl)))))
ops_from n op.Lt ts e = inr (inl (60 ∷ [], [], e, (60, refl, refl), inr (inr (refl, refl))))
ops_from n op.Ge ts e = inr (inr (62 ∷ [], 61 ∷ [], e, (62, refl, refl), inl (tt, refl, (61, refl, refl))))
ops_from n op.Gt ts e = inr (inr (62 ∷ [], [], e, (62, refl, refl), inr (refl, refl)))

pub reads_op : ReadsFlat AComparison (Stops is_second) an_op
reads_op = reads_same ops_to ops_from reads_ops

-- the first byte of one
abbrev pub is_first : ℕ → Bool
is_first t = t == 60 || is_second t

pub on_op : On is_first AComparison
on_op n op.Eq u v e = rw e refl
on_op n op.Ne u v e = rw e refl
on_op n op.Le u v e = rw e refl
on_op n op.Lt u v e = rw e refl
on_op n op.Ge u v e = rw e refl
on_op n op.Gt u v e = rw e refl
