-- A descent tells the place of each refusal, and whether it is for nesting.
use Rattle.std.proofs.Common.{◌≡◌, ℕ, zero, suc, ◌+◌, ◌-◌, ◌<◌, ◌≤◌, List, [], ◌∷◌, ◌++◌, length, take, drop, Bool, false, inl, inr, refl, sym, ap, subst, ◌∙◌, append_assoc, length-append, arith}
use Rattle.std.proofs.lemmas.List.{append-nil, take-append-drop}
use Rattle.std.proofs.Math.Seq.{take-append_seam, drop-append_seam, take-append-add}
use Rattle.kl_phrase.specs.Words.{Phrase}
use Rattle.kl_phrase.specs.Readers.{Why, bad, deep, Out, ok, fail, Reader, ended}
use Rattle.kl_phrase.specs.Places.{IsWhole, BeginsWhole}
use Rattle.kl_phrase.proofs.Theory.{Good, Sound, Fails, Begins, Has, To}
use Rattle.kl_phrase.proofs.Kept.{Keeps, Kept, head}
use Rattle.kl_phrase.proofs.Exact.{IsBad, Each}
use Rattle.kl_phrase.specs.Fronts.{Told, program, syntax, too_deep, BeginsWithin, IsSyntax, IsTooDeep, Tells, OneFront, again_told, deep_told, first_told, told}
use Rattle.kl_phrase.proofs.Plain.{plain, Plains, read_so}
use Rattle.kl_phrase.proofs.Agreeing.{Agrees, Clear}
use Rattle.kl_phrase.proofs.Deepening.{Deepens, Deep}

-- What a grammar's author shows. S n, L ts n: as in the statement; W: where what begins a text nested at most n deep has
-- its whole texts. N: how many tokens there are. P: the descent; F: the plain one; G ts: the plain one in which parts may
-- be left out where hole ts says so.
pub record Placed {T A : Type 0} (S : ℕ → Phrase T A) (L : List T → ℕ → Phrase T A) (up : ℕ → ℕ) (C : List T → Type 0) (hole : List T → ℕ → List T → Bool) (P F : ℕ → ℕ → Reader T A) (G : List T → ℕ → ℕ → Reader T A) : Type 0 where
  pub has : (n : ℕ) → Has (S n)
  pub has_front : (ts : List T) (n : ℕ) → Has (L ts n)
  pub ends : C []
  -- each reader reads its phrase
  pub good : (N n : ℕ) → Good N (S n) (S (up n)) C (F N n)
  pub front : (ts : List T) (N n : ℕ) → Good N (S n) (L ts n) C (F N n)
  pub loose : (ts : List T) (N n : ℕ) → Good N (L ts n) (L ts n) C (G ts N n)
  -- what is read rests on no token behind the next one
  pub more : (N M n k : ℕ) → n ≤ k → Keeps IsBad N M (P N n) (P M k)
  pub same : (N M n : ℕ) → Keeps Each N M (P N n) (P M n)
  -- the readers answer alike
  pub plain_of : (N n : ℕ) → Plains (P N n) (F N n)
  pub agree : (ts : List T) (N n h : ℕ) → Agrees (hole ts N) h (F N n) (G ts N n)
  -- nothing is left out at a token of ts
  pub no_hole : (ts r : List T) (N : ℕ) → head r ≡ head (drop (N - length r) ts) → hole ts N r ≡ false
  -- what nests too deep stands behind so many tokens, and, where it ends a text, that is no whole one
  pub deepens : (N n : ℕ) → Deepens n (P N n)
  pub open_end : (n k : ℕ) (a : A) (ts : List T) → P (length ts) n ts ≡ fail deep [] → S k 0 a ts → ⊥

module _ {T : Type 0} where
  -- ---- lists

  pub sized : (ts u r : List T) → ts ≡ u ++ r → (length r ≤ length ts) × (length ts - length r ≡ length u)
  sized ts u r e = let k : length ts ≡ length u + length r = ap length e ∙ length-append u r in (omega arith, omega arith)

  through : (u v : List T) (t : T) → take (suc (length u)) (u ++ t ∷ v) ≡ u ++ t ∷ []
  through u v t = ap (λ (n : ℕ). take n (u ++ t ∷ v)) (let k : suc (length u) ≡ length u + 1 = omega arith in k) ∙ take-append-add u (t ∷ v) 1

  -- more tokens of the text through one behind the place
  longer : (u r : List T) (t : T) (j : ℕ) → length u < j → (w : List T) × (take j (u ++ t ∷ r) ≡ u ++ t ∷ w)
  longer [] r t zero lt = absurd (omega arith)
  longer [] r t (suc j) lt = (take j r, refl)
  longer (x ∷ u) r t zero lt = absurd (omega arith)
  longer (x ∷ u) r t (suc j) lt = let k = longer u r t j (omega arith) in (k.0, ap (λ w. x ∷ w) k.1)

  shorter : (j k : ℕ) (ts : List T) → j ≤ k → take j (take k ts) ≡ take j ts
  shorter zero k ts le = refl
  shorter (suc j) zero ts le = absurd (omega arith)
  shorter (suc j) (suc k) [] le = refl
  shorter (suc j) (suc k) (t ∷ ts) le = ap (λ (z : List T). t ∷ z) (shorter j k ts (omega arith))

  split_take : (j k : ℕ) (ts : List T) → j ≤ k → take k ts ≡ take j ts ++ drop j (take k ts)
  split_take j k ts le = sym (take-append-drop j (take k ts)) ∙ ap (λ (z : List T). z ++ drop j (take k ts)) (shorter j k ts le)

  -- a rest that is longer than what stands behind a front begins with a token of it
  on_front : (x more u r : List T) → x ++ more ≡ u ++ r → length more < length r → (ys : List T) × (x ≡ u ++ ys) × (r ≡ ys ++ more) × (0 < length ys)
  on_front x more [] r e lt = (x, refl, sym e, let k : length (x ++ more) ≡ length x + length more = length-append x more in let l : length (x ++ more) ≡ length r = ap length e in omega arith)
  on_front [] more (y ∷ u) r e lt = absurd (let k : length more ≡ suc (length (u ++ r)) = ap length e in let l : length (u ++ r) ≡ length u + length r = length-append u r in omega arith)
  on_front (z ∷ x) more (y ∷ u) r e lt = let k : x ++ more ≡ u ++ r = cc in let h : z ≡ y = cc in let g = on_front x more u r k lt in (g.0, ap (λ w. w ∷ x) h ∙ ap (λ w. y ∷ w) g.1, g.2, g.3)

  head_of : (ys more : List T) → 0 < length ys → head (ys ++ more) ≡ head ys
  head_of [] more lt = absurd (omega arith)
  head_of (y ∷ ys) more lt = refl

module _ {T A : Type 0} (S : ℕ → Phrase T A) (L : List T → ℕ → Phrase T A) (up : ℕ → ℕ) (C : List T → Type 0) (hole : List T → ℕ → List T → Bool) (P F : ℕ → ℕ → Reader T A) (G : List T → ℕ → ℕ → Reader T A) (g : Placed S L up C hole P F G) where
  wider : (ts : List T) (n : ℕ) → To (S n) (L ts n)
  wider ts n m a u s = (g.front ts 0 n).wider m a u s

  -- ---- each text is read

  read_plain : (n : ℕ) (a : A) (ts : List T) → S n 0 a ts → F (length ts) n ts ≡ ok a []
  read_plain n a ts h = ap (F (length ts) n) (sym (append-nil ts)) ∙ (g.good (length ts) n).again 0 a ts [] (let l = ap length (append-nil ts) in omega arith) h g.ends

  read : (n : ℕ) (a : A) (ts : List T) → S n 0 a ts → P (length ts) n ts ≡ ok a []
  read n a ts h = read_so (g.plain_of (length ts) n) ts [] a (read_plain n a ts h)

  again : (n k : ℕ) (a : A) (ts : List T) → n ≤ k → S n 0 a ts → P (length ts) k ts ≡ ok a []
  again n k a ts le h =
      let one : P (length ts) n (ts ++ []) ≡ ok a [] = ap (P (length ts) n) (append-nil ts) ∙ read n a ts h in
      let kk : Kept IsBad [] [] (ok a []) (P (length ts) k (ts ++ [])) = subst (λ o. Kept IsBad [] [] o (P (length ts) k (ts ++ []))) one ((g.more (length ts) (length ts) n k le).keeps [] [] refl refl ts (let l = ap length (append-nil ts) in omega arith)) in
      ap (P (length ts) k) (sym (append-nil ts)) ∙ kk [] refl

  -- two readings of one text are one
  pub unique : (n k : ℕ) (a b : A) (ts : List T) → S n 0 a ts → S k 0 b ts → a ≡ b
  unique n k a b ts h i =
      let x = again n (n + k) a ts (omega arith) h in
      let y = again k (n + k) b ts (omega arith) i in
      let e : ok a [] ≡ ok b [] = sym x ∙ y in cc

  same_total : (u r m : List T) → length (u ++ r) + length m ≡ length (u ++ m) + length r
  same_total u r m = let a : length (u ++ r) ≡ length u + length r = length-append u r in let b : length (u ++ m) ≡ length u + length m = length-append u m in omega arith

  -- ---- no text goes on through the place

  dead : (n : ℕ) (u r m : List T) → P (length (u ++ r)) n (u ++ r) ≡ fail bad r → head r ≡ head m → IsWhole S (u ++ m) → ⊥
  dead n u r m e hd (k, a, h) =
      let x = again k (n + k) a (u ++ m) (omega arith) h in
      let kk : Kept {A = A} IsBad r m (fail bad r) (P (length (u ++ m)) (n + k) (u ++ m)) = subst (λ o. Kept IsBad r m o (P (length (u ++ m)) (n + k) (u ++ m))) e ((g.more (length (u ++ r)) (length (u ++ m)) n (n + k) (omega arith)).keeps r m hd (same_total u r m) u (omega arith)) in
      let b : Path (Out T A) (ok a []) (fail bad m) = sym x ∙ kk tt [] refl in cc

  dead_rest : (n : ℕ) (b : A) (t : T) (u r m : List T) → P (length (u ++ t ∷ r)) n (u ++ t ∷ r) ≡ ok b (t ∷ r) → IsWhole S (u ++ t ∷ m) → ⊥
  dead_rest n b t u r m e (k, a, h) =
      let x = again k (n + k) a (u ++ t ∷ m) (omega arith) h in
      let kk : Kept IsBad (t ∷ r) (t ∷ m) (ok b (t ∷ r)) (P (length (u ++ t ∷ m)) (n + k) (u ++ t ∷ m)) = subst (λ o. Kept IsBad (t ∷ r) (t ∷ m) o (P (length (u ++ t ∷ m)) (n + k) (u ++ t ∷ m))) e ((g.more (length (u ++ t ∷ r)) (length (u ++ t ∷ m)) n (n + k) (omega arith)).keeps (t ∷ r) (t ∷ m) refl (same_total u (t ∷ r) (t ∷ m)) u (omega arith)) in
      let y : Path (Out T A) (ok a []) (ok b (t ∷ m)) = sym x ∙ kk [] refl in
      let z : Path (List T) [] (t ∷ m) = cc in cc

  -- the rest of a text that begins with a front of ts is no hole before that front ends
  clear : (ts more : List T) (k : ℕ) → Clear (hole ts (length (take k ts ++ more))) (length more) (take k ts ++ more)
  clear ts more k u r e lt =
      let f = on_front (take k ts) more u r e lt in
      let at : length (take k ts ++ more) - length r ≡ length u = (sized (take k ts ++ more) u r e).1 in
      let whole : ts ≡ u ++ (f.0 ++ drop k ts) = sym (take-append-drop k ts) ∙ ap (λ (z : List T). z ++ drop k ts) f.1 ∙ append_assoc u f.0 (drop k ts) in
      let rest : drop (length (take k ts ++ more) - length r) ts ≡ f.0 ++ drop k ts = ap (λ (n : ℕ). drop n ts) at ∙ ap (drop (length u)) whole ∙ drop-append_seam u (f.0 ++ drop k ts) in
      g.no_hole ts r (length (take k ts ++ more)) (ap head f.2 ∙ head_of f.0 more f.3 ∙ sym (ap head rest ∙ head_of f.0 (drop k ts) f.3))

  -- no text nested so little goes through the place
  dead_deep : (n : ℕ) (w : Why) (t : T) (u v : List T) → P (length (u ++ t ∷ v)) n (u ++ t ∷ v) ≡ fail w (t ∷ v) → BeginsWithin S L n (u ++ t ∷ v) (suc (length u)) → ⊥
  dead_deep n w t u v e (more, a, h) =
      let front : take (suc (length u)) (u ++ t ∷ v) ≡ u ++ t ∷ [] = through u v t in
      let text : take (suc (length u)) (u ++ t ∷ v) ++ more ≡ u ++ t ∷ more = ap (λ (z : List T). z ++ more) front ∙ append_assoc u (t ∷ []) more in
      let kk : Kept {A = A} Each (t ∷ v) (t ∷ more) (fail w (t ∷ v)) (P (length (u ++ t ∷ more)) n (u ++ t ∷ more)) = subst (λ o. Kept Each (t ∷ v) (t ∷ more) o (P (length (u ++ t ∷ more)) n (u ++ t ∷ more))) e ((g.same (length (u ++ t ∷ v)) (length (u ++ t ∷ more)) n).keeps (t ∷ v) (t ∷ more) refl (same_total u (t ∷ v) (t ∷ more)) u (omega arith)) in
      refuse (u ++ t ∷ v) more (suc (length u)) w (u ++ t ∷ more) text (kk tt [] refl) h
    where
      refuse : (ts more : List T) (k : ℕ) (w : Why) (xs : List T) → take k ts ++ more ≡ xs → P (length xs) n xs ≡ fail w (t ∷ more) → L ts n 0 a (take k ts ++ more) → ⊥
      refuse ts more k w xs ex p h =
          let xs2 = take k ts ++ more in
          let p2 : P (length xs2) n xs2 ≡ fail w (t ∷ more) = subst (λ (z : List T). P (length z) n z ≡ fail w (t ∷ more)) (sym ex) p in
          let f2 : F (length xs2) n xs2 ≡ fail bad (t ∷ more) = (g.plain_of (length xs2) n).plains xs2 ∙ ap plain p2 in
          let ag : G ts (length xs2) n xs2 ≡ F (length xs2) n xs2 = (g.agree ts (length xs2) n (length more)).agrees xs2 (clear ts more k) (subst (λ (o : Out T A). length more < length (Rattle.kl_phrase.proofs.Rests.left o)) (sym f2) (let z : length more < suc (length more) = omega arith in z)) in
          let rd : G ts (length xs2) n xs2 ≡ ok a [] = ap (G ts (length xs2) n) (sym (append-nil xs2)) ∙ (g.loose ts (length xs2) n).again 0 a xs2 [] (let l = ap length (append-nil xs2) in omega arith) h g.ends in
          let b : Path (Out T A) (ok a []) (fail bad (t ∷ more)) = sym rd ∙ ag ∙ f2 in cc

  -- ---- the tokens before the place

  begun : {W : Phrase T A} → Has W → (u : List T) → Begins W 0 u → (more : List T) × (a : A) × W 0 a (u ++ more)
  begun {W} has u (inl z) = let h = has 0 in (h.1, h.0, subst (λ (w : List T). W 0 h.0 (w ++ h.1)) (sym z) h.2)
  begun has u (inr b) = b

  front_of : {W : Phrase T A} → Has W → (ts u r : List T) → ts ≡ u ++ r → Fails W 0 ts bad r → (more : List T) × (a : A) × W 0 a (u ++ more)
  front_of {W} has ts u r e (x, s, v, ex, er, z, b) =
      let k : length x ≡ length u = let a = (sized ts x r ex).1 in let c = (sized ts u r e).1 in omega arith in
      let same : x ≡ u = same_front x u r (sym ex ∙ e) in
      begun has u (subst (Begins W 0) (ap (λ (y : List T). x ++ y) z ∙ append-nil x ∙ same) b)
    where
      same_front : (x u r : List T) → x ++ r ≡ u ++ r → x ≡ u
      same_front x u r e = Rattle.std.proofs.lemmas.List.append_cancel_right x u r e

  plain_fails : (n : ℕ) (ts r : List T) (w : Why) → P (length ts) n ts ≡ fail w r → F (length ts) n ts ≡ fail bad r
  plain_fails n ts r w e = (g.plain_of (length ts) n).plains ts ∙ ap plain e

  before_within : (n : ℕ) (ts u r : List T) (w : Why) → ts ≡ u ++ r → P (length ts) n ts ≡ fail w r → BeginsWithin S L n ts (length u)
  before_within n ts u r w e p =
      let h : Fails (L ts n) 0 ts bad r = subst (λ (o : Out T A). Sound (S n) (L ts n) 0 ts o) (plain_fails n ts r w p) ((g.front ts (length ts) n).sound 0 ts (omega arith)) in
      let b = front_of {W = L ts n} (g.has_front ts n) ts u r e h in
      let f : take (length u) ts ≡ u = ap (take (length u)) e ∙ take-append_seam u r in
      (b.0, b.1, subst (λ (z : List T). L ts n 0 b.1 (z ++ b.0)) (sym f) b.2)

  before_whole : (n : ℕ) (ts u r : List T) (w : Why) → ts ≡ u ++ r → P (length ts) n ts ≡ fail w r → BeginsWhole S (take (length u) ts)
  before_whole n ts u r w e p =
      let h : Fails (S (up n)) 0 ts bad r = subst (λ (o : Out T A). Sound (S n) (S (up n)) 0 ts o) (plain_fails n ts r w p) ((g.good (length ts) n).sound 0 ts (omega arith)) in
      let b = front_of {W = S (up n)} (g.has (up n)) ts u r e h in
      let f : take (length u) ts ≡ u = ap (take (length u)) e ∙ take-append_seam u r in
      (b.0, (up n, b.1, subst (λ (z : List T). S (up n) 0 b.1 (z ++ b.0)) (sym f) b.2))

  -- ---- the answer

  -- the place after u, where no text goes on
  syntax_at : (n : ℕ) (ts u r : List T) → ts ≡ u ++ r → BeginsWithin S L n ts (length u) → BeginsWhole S (take (length u) ts) → ((m : List T) → head r ≡ head m → IsWhole S (u ++ m) → ⊥) → IsSyntax S L n ts (length ts - length r)
  syntax_at n ts u [] e b w never = subst (IsSyntax S L n ts) (sym (sized ts u [] e).1) (record {
    within = let k = (sized ts u [] e).1 in omega arith;
    before = b;
    begins = w;
    no_longer = λ j lt le h. absurd (let k = (sized ts u [] e).1 in omega arith);
    not_whole = λ h. never [] refl (subst (IsWhole S) e h);
  })
  syntax_at n ts u (t ∷ r) e b w never = subst (IsSyntax S L n ts) (sym (sized ts u (t ∷ r) e).1) (record {
    within = let k = (sized ts u (t ∷ r) e).1 in omega arith;
    before = b;
    begins = w;
    no_longer = λ j lt le (more, (k, a, h)). let x = longer u r t j lt in never (t ∷ (x.0 ++ more)) refl (k, a, subst (S k 0 a) (ap (λ (z : List T). take j z ++ more) e ∙ ap (λ z. z ++ more) x.1 ∙ append_assoc u (t ∷ x.0) more) h);
    not_whole = λ h. never (t ∷ r) refl (subst (IsWhole S) e h);
  })

  -- the second run: no text goes on through the tokens, or one does
  abbrev Through : List T → Told A → ℕ → Type 0
  Through xs (program a) k = ⊥
  Through xs (too_deep j) k = (j ≡ k) × BeginsWhole S xs
  Through xs (syntax j) k = (j ≡ k) × ((m : List T) → IsWhole S (xs ++ m) → ⊥)

  read_whole : (n : ℕ) (ts u r : List T) (a : A) → ts ≡ u ++ r → P (length ts) n ts ≡ ok a r → S n 0 a u
  read_whole n ts u r a e p = go (subst (λ (o : Out T A). Sound (S n) (S (up n)) 0 ts o) ((g.plain_of (length ts) n).plains ts ∙ ap plain p) ((g.good (length ts) n).sound 0 ts (omega arith)))
    where
      go : (x : List T) × (ts ≡ x ++ r) × S n 0 a x → S n 0 a u
      go (x, ex, h) = subst (S n 0 a) (Rattle.std.proofs.lemmas.List.append_cancel_right x u r (sym ex ∙ e)) h

  rest_of : (n : ℕ) (ts : List T) (o : Out T A) → P (length ts) n ts ≡ o → (u : List T) × (ts ≡ u ++ Rattle.kl_phrase.proofs.Rests.left o)
  rest_of n ts (ok a r) p = subst (λ (o : Out T A). Rattle.kl_phrase.proofs.Kept.Rests ts o) p ((g.deepens (length ts) n).rests.leaves ts)
  rest_of n ts (fail w r) p = subst (λ (o : Out T A). Rattle.kl_phrase.proofs.Kept.Rests ts o) p ((g.deepens (length ts) n).rests.leaves ts)

  at_end : (n : ℕ) (ts u : List T) (w : Why) → ts ≡ u ++ [] → P (length ts) n ts ≡ fail w [] → BeginsWhole S ts
  at_end n ts u w e p =
      let eu : ts ≡ u = e ∙ append-nil u in
      subst (BeginsWhole S) (ap (λ (z : List T). take (length z) ts) (sym eu) ∙ take_all ts) (before_whole n ts u [] w e p)
    where
      take_all : (ts : List T) → take (length ts) ts ≡ ts
      take_all [] = refl
      take_all (t ∷ ts) = ap (λ (z : List T). t ∷ z) (take_all ts)

  second : (k : ℕ) (xs : List T) (o : Out T A) → P (length xs) (length xs) xs ≡ o → (u : List T) × (xs ≡ u ++ Rattle.kl_phrase.proofs.Rests.left o) → Through xs (again_told P k (ended o)) k
  second k xs (ok a []) p (u, e) = (refl, ([], (length xs, a, subst (S (length xs) 0 a) (sym (append-nil u) ∙ sym e ∙ sym (append-nil xs)) (read_whole (length xs) xs u [] a e p))))
  second k xs (ok a (t ∷ r)) p (u, e) = (refl, λ m h. dead_rest (length xs) a t u r (r ++ m) (subst (λ (z : List T). P (length z) (length xs) z ≡ ok a (t ∷ r)) e p) (subst (IsWhole S) (ap (λ (z : List T). z ++ m) e ∙ append_assoc u (t ∷ r) m) h))
  second k xs (fail bad []) p (u, e) = (refl, at_end (length xs) xs u bad e p)
  second k xs (fail bad (t ∷ r)) p (u, e) = (refl, λ m h. dead (length xs) u (t ∷ r) (t ∷ (r ++ m)) (subst (λ (z : List T). P (length z) (length xs) z ≡ fail bad (t ∷ r)) e p) refl (subst (IsWhole S) (ap (λ (z : List T). z ++ m) e ∙ append_assoc u (t ∷ r) m) h))
  second k xs (fail deep []) p (u, e) = (refl, at_end (length xs) xs u deep e p)
  second k xs (fail deep (t ∷ r)) p (u, e) = absurd (let d : length xs + suc (length r) ≤ length xs = subst (λ (o : Out T A). Deep (length xs) xs o) p ((g.deepens (length xs) (length xs)).deepens xs) in omega arith)

  deep_case : (n : ℕ) (t : T) (ts u r : List T) → ts ≡ u ++ t ∷ r → P (length ts) n ts ≡ fail deep (t ∷ r) → (z : Told A) → Through (take (suc (length u)) ts) z (length u) → Tells S L n ts z
  deep_case n t ts u r e p (program a) h = absurd h
  deep_case n t ts u r e p (too_deep j) (ej, b) = subst (IsTooDeep S L n ts) (sym ej) (record {
    within = let k = ap length e in let l = length-append u (t ∷ r) in omega arith;
    before = before_within n ts u (t ∷ r) deep e p;
    begins = b;
    too_deep = λ h. dead_deep n deep t u r (subst (λ (z : List T). P (length z) n z ≡ fail deep (t ∷ r)) e p) (subst (λ (z : List T). BeginsWithin S L n z (suc (length u))) e h);
  })
  deep_case n t ts u r e p (syntax j) (ej, never) = subst (IsSyntax S L n ts) ((sized ts u (t ∷ r) e).1 ∙ sym ej) (syntax_at n ts u (t ∷ r) e (before_within n ts u (t ∷ r) deep e p) (before_whole n ts u (t ∷ r) deep e p) no_text)
    where
      no_text : (m : List T) → head (t ∷ r) ≡ head m → IsWhole S (u ++ m) → ⊥
      no_text [] hd h = absurd cc
      no_text (s ∷ m) hd h =
          let k : t ≡ s = cc in
          let front : take (suc (length u)) ts ≡ u ++ t ∷ [] = ap (take (suc (length u))) e ∙ through u r t in
          never m (subst (IsWhole S) (ap (λ z. u ++ z ∷ m) (sym k) ∙ sym (append_assoc u (t ∷ []) m) ∙ ap (λ (z : List T). z ++ m) (sym front)) h)

  front_take : (ts u r : List T) → ts ≡ u ++ r → take (length u) ts ≡ u
  front_take ts u r e = ap (take (length u)) e ∙ take-append_seam u r

  answer : (n : ℕ) (ts : List T) (o : Out T A) → P (length ts) n ts ≡ o → (u : List T) × (ts ≡ u ++ Rattle.kl_phrase.proofs.Rests.left o) → Tells S L n ts (first_told P ts (ended o))
  answer n ts (ok a []) p (u, e) = subst (S n 0 a) (sym (append-nil u) ∙ sym e) (read_whole n ts u [] a e p)
  answer n ts (ok a (t ∷ r)) p (u, e) =
      let h : S n 0 a u = read_whole n ts u (t ∷ r) a e p in
      let f : take (length u) ts ++ [] ≡ u = append-nil (take (length u) ts) ∙ front_take ts u (t ∷ r) e in
      syntax_at n ts u (t ∷ r) e ([], a, subst (L ts n 0 a) (sym f) (wider ts n 0 a u h)) ([], (n, a, subst (S n 0 a) (sym f) h)) no_text
    where
      no_text : (m : List T) → head (t ∷ r) ≡ head m → IsWhole S (u ++ m) → ⊥
      no_text [] hd h = absurd cc
      no_text (s ∷ m) hd h = let k : t ≡ s = cc in dead_rest n a t u r m (subst (λ (z : List T). P (length z) n z ≡ ok a (t ∷ r)) e p) (subst (λ z. IsWhole S (u ++ z ∷ m)) (sym k) h)
  answer n ts (fail bad r) p (u, e) = syntax_at n ts u r e (before_within n ts u r bad e p) (before_whole n ts u r bad e p) (λ m hd h. dead n u r m (subst (λ (z : List T). P (length z) n z ≡ fail bad r) e p) hd h)
  answer n ts (fail deep []) p (u, e) = subst (IsSyntax S L n ts) (let k = (sized ts u [] e).1 in let i = ap length e in let l = length-append u [] in omega arith) (syntax_at n ts u [] e (before_within n ts u [] deep e p) (before_whole n ts u [] deep e p) no_text)
    where
      no_text : (m : List T) → head [] ≡ head m → IsWhole S (u ++ m) → ⊥
      no_text [] hd (k, a, h) = g.open_end n k a ts p (subst (S k 0 a) (sym e) h)
      no_text (s ∷ m) hd h = absurd cc
  answer n ts (fail deep (t ∷ r)) p (u, e) =
      let k : length ts - suc (length r) ≡ length u = (sized ts u (t ∷ r) e).1 in
      let xs = take (suc (length u)) ts in
      subst (λ (j : ℕ). Tells S L n ts (deep_told P j ts)) (sym k) (deep_case n t ts u r e p (deep_told P (length u) ts) (second (length u) xs (P (length xs) (length xs) xs) refl (rest_of (length xs) xs (P (length xs) (length xs) xs) refl)))

  pub tells : (n : ℕ) (ts : List T) → Tells S L n ts (told P n ts)
  tells n ts = answer n ts (P (length ts) n ts) refl (rest_of n ts (P (length ts) n ts) refl)

  -- a text is told as such
  pub only : (n : ℕ) (a : A) (ts : List T) → S n 0 a ts → told P n ts ≡ program a
  only n a ts h = ap (λ (o : Out T A). first_told P ts (ended o)) (read n a ts h)

  -- ---- at most one place

  fewer : (n j k : ℕ) (ts : List T) → j ≤ k → BeginsWithin S L n ts k → BeginsWithin S L n ts j
  fewer n j k ts le (more, a, h) = (drop j (take k ts) ++ more, a, subst (L ts n 0 a) (ap (λ (z : List T). z ++ more) (split_take j k ts le) ∙ append_assoc (take j ts) (drop j (take k ts)) more) h)

  not_behind : (n j k : ℕ) (ts : List T) → j < k → IsTooDeep S L n ts j → BeginsWithin S L n ts k → ⊥
  not_behind n j k ts lt f h = f.too_deep (fewer n (suc j) k ts (omega arith) h)

  by_order : (j k : ℕ) → (j < k → ⊥) → (k < j → ⊥) → j ≡ k
  by_order j k f g = omega (arith, f, g)

  pub one_place : (n : ℕ) (ts : List T) → OneFront S L n ts
  one_place n ts = record {
    one_syntax = λ j k f i. by_order j k (λ lt. f.no_longer k lt i.within i.begins) (λ lt. i.no_longer j lt f.within f.begins);
    one_deep = λ j k f i. by_order j k (λ lt. not_behind n j k ts lt f i.before) (λ lt. not_behind n k j ts lt i f.before);
    apart = λ j k f i. apart_by j k f i;
    no_syntax = λ a k h f. f.not_whole (n, a, h);
    no_deep = λ a k h f. f.too_deep (drop (suc k) ts, a, subst (L ts n 0 a) (sym (take-append-drop (suc k) ts)) (wider ts n 0 a ts h));
  }
    where
      apart_by : (j k : ℕ) → IsSyntax S L n ts j → IsTooDeep S L n ts k → ⊥
      apart_by j k f i = let no : k < j → ⊥ = λ lt. not_behind n k j ts lt i f.before in let past : j < suc k → ⊥ = λ lt. f.no_longer (suc k) lt (let w = i.within in omega arith) i.begins in omega (arith, no, past)
