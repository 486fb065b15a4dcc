-- Two readers of which the first may be given up, and where nesting may not go on.
use Rattle.std.proofs.Common.{◌≡◌, ℕ, suc, ◌+◌, ◌-◌, ◌<◌, ◌≤◌, nat_lt, Bool, true, false, IsTrue, List, [], ◌∷◌, ◌++◌, length, inl, inr, if◌then◌else◌, refl, sym, ap, subst, ◌∙◌, length-append, arith}
use Rattle.kl_phrase.specs.Words.{Phrase, Or, Opened}
use Rattle.kl_phrase.specs.Readers.{Why, bad, deep, Out, ok, fail, Reader, after, both, made, farther}
use Rattle.kl_phrase.proofs.Theory.{Fails, Sound, Good, On, Off, good_pick, same_sound, or_wider, joined}
use Rattle.kl_phrase.proofs.Kept.{Keeps, Kept, Rests, head, keeps_made, chain_rests, shorter}
use Rattle.kl_phrase.proofs.Commit.{Apart}
use Rattle.kl_phrase.specs.Refusals.{worse, opened_by, opening_by, refused, settled, decide}

module _ {T : Type 0} where
  -- ---- where nesting may go on

  pub good_opened_by : {total : ℕ} {A : Type 0} {S W : Phrase T A} {C : List T → Type 0} {p : Reader T A} (may can : Bool) → (IsTrue may → IsTrue can) → (IsTrue may → Good total S W C p) → Good total (Opened may S) (Opened can W) C (opened_by bad may p)
  good_opened_by {total} {A} {S} {W} {C} {p} true can i g = record {
    sound = λ n ts le. same_sound S W (Opened true S) (Opened can W) n ts (p ts) (λ n a u s. (refl, s)) (λ n a u s. (i refl, s)) ((g refl).sound n ts le);
    again = λ n a u v le s c. (g refl).again n a u v le s.1 c;
    wider = λ n a u s. (i refl, (g refl).wider n a u s.1);
  }
  good_opened_by false can i g = record {
    sound = λ n ts le. ([], [], ts, refl, refl, refl, inl refl);
    again = λ n a u v le s c. absurd (let z : false ≡ true = s.0 in cc);
    wider = λ n a u s. absurd (let z : false ≡ true = s.0 in cc);
  }

  pub good_opening_by : {total : ℕ} {A : Type 0} {test : T → Bool} {may can : Bool} {S W R V : Phrase T A} {C : List T → Type 0} {p q : Reader T A} → (IsTrue may → IsTrue can) → (IsTrue may → Good total S W C p) → Good total R V C q → On test S → Off test R C → Good total (Or (Opened may S) R) (Or (Opened can W) V) C (opening_by bad test may p q)
  good_opening_by {total} {A} {test} {may} {can} i g h on off = good_pick (good_opened_by may can i g) h (λ n a u v s. on n a u v s.1) off

  pub keeps_opened_by : {A : Type 0} {Q : Why → List T → Type 0} {N M : ℕ} (w : Why) (may can : Bool) {p p' : Reader T A} → (IsTrue may → IsTrue can) → ((r : List T) → Q w r → may ≡ can) → (IsTrue may → Keeps Q N M p p') → Keeps Q N M (opened_by w may p) (opened_by w can p')
  keeps_opened_by w true true i j k = record { keeps = λ m l hd eq xs le. (k refl).keeps m l hd eq xs le; rests = λ ts. (k refl).rests ts }
  keeps_opened_by w true false i j k = absurd (let e : false ≡ true = i refl in cc)
  keeps_opened_by w false true i j k = record { keeps = λ m l hd eq xs le qd ys e. absurd (let z : false ≡ true = j (xs ++ m) qd in cc); rests = λ ts. ([], refl) }
  keeps_opened_by w false false i j k = record { keeps = λ m l hd eq xs le qd ys e. ap (λ z. fail w (z ++ l)) (Rattle.std.proofs.lemmas.List.append_cancel_right xs ys m e); rests = λ ts. ([], refl) }

  -- ---- p and then k, or q

  farther_sound : {A : Type 0} (b : Bool) (W : Phrase T A) (n : ℕ) (ts r s : List T) → Fails W n ts bad r → Fails W n ts bad s → Fails W n ts bad (if b then s else r)
  farther_sound true W n ts r s h k = k
  farther_sound false W n ts r s h k = h

  left : {A : Type 0} (W V : Phrase T A) (n : ℕ) (ts r : List T) (w : Why) → Fails W n ts w r → Fails (Or W V) n ts w r
  left W V n ts r w h = same_sound W W (Or W V) (Or W V) n ts (fail w r) (λ n a u s. inl s) (λ n a u s. inl s) h

  right : {A : Type 0} (S W R V : Phrase T A) (n : ℕ) (ts : List T) (o : Out T A) → Sound R V n ts o → Sound (Or S R) (Or W V) n ts o
  right S W R V n ts o h = same_sound R V (Or S R) (Or W V) n ts o (λ n a u s. inr s) (λ n a u s. inr s) h

  -- no failure is one of depth
  abbrev pub Flat : {A : Type 0} → Out T A → Type 0
  Flat (ok a r) = Unit {0}
  Flat (fail bad r) = Unit {0}
  Flat (fail deep r) = ⊥

  refused_sound : {A : Type 0} (S W R V : Phrase T A) (n : ℕ) (ts r : List T) (w : Why) (o : Out T A) → Flat {A = A} (fail w r) → Flat o → Fails W n ts w r → Sound R V n ts o → Sound (Or S R) (Or W V) n ts (refused w r o)
  refused_sound S W R V n ts r w (ok a s) f g h k = right S W R V n ts (ok a s) k
  refused_sound S W R V n ts r deep (fail v s) f g h k = absurd f
  refused_sound S W R V n ts r bad (fail deep s) f g h k = absurd g
  refused_sound S W R V n ts r bad (fail bad s) f g h k = farther_sound (nat_lt (length s) (length r)) (Or W V) n ts r s (left W V n ts r bad h) (right S W R V n ts (fail bad s) k)

  settled_sound : {A B C : Type 0} (f : A × B → C) (k : Reader T B) (S W R V : Phrase T C) (n : ℕ) (ts : List T) (o : Out T A) (q : Out T C) → Flat o → Flat q → Sound S W n ts (after (after o (λ a r. after (k r) (λ b s. ok (a, b) s))) (λ x s. ok (f x) s)) → Sound R V n ts q
      → Sound (Or S R) (Or W V) n ts (settled o (after (after o (λ a r. after (k r) (λ b s. ok (a, b) s))) (λ x s. ok (f x) s)) q)
  settled_sound {A} {B} {C} f k S W R V n ts (ok a r) q fo fq h g = same_sound S W (Or S R) (Or W V) n ts (after {B = C} (after {B = A × B} (k r) (λ b s. ok (a, b) s)) (λ x s. ok (f x) s)) (λ n a u s. inl s) (λ n a u s. inl s) h
  settled_sound {A} {B} {C} f k S W R V n ts (fail w r) q fo fq h g = refused_sound S W R V n ts r w q fo fq h g

  -- the readers answer no failure of depth
  pub good_decide : {total : ℕ} {A B C : Type 0} (f : A × B → C) {S W R V : Phrase T C} {D : List T → Type 0} {p : Reader T A} (k : Reader T B) {q : Reader T C} → ((ts : List T) → Flat (p ts)) → ((ts : List T) → Flat (q ts)) → Good total S W D (made f (both p k)) → Good total R V D q → Apart total p q → Good total (Or S R) (Or W V) D (decide f p k q)
  good_decide {total} {A} {B} {C} f {S} {W} {R} {V} {D} {p} k {q} fp fq g h apart = record {
    sound = λ n ts le. settled_sound f k S W R V n ts (p ts) (q ts) (fp ts) (fq ts) (g.sound n ts le) (h.sound n ts le);
    again = again;
    wider = or_wider g.wider h.wider;
  }
    where
      first : (c : C) (v : List T) (o : Out T A) (z : Out T C) → after (after o (λ a r. after (k r) (λ b s. ok (a, b) s))) (λ x s. ok (f x) s) ≡ ok c v → settled o (after (after o (λ a r. after (k r) (λ b s. ok (a, b) s))) (λ x s. ok (f x) s)) z ≡ ok c v
      first c v (ok a r) z e = e
      first c v (fail w r) z e = absurd cc

      second : (n : ℕ) (c : C) (ts v : List T) (o : Out T A) → n + length ts ≡ total → p ts ≡ o → q ts ≡ ok c v → settled o (made f (both p k) ts) (q ts) ≡ ok c v
      second n c ts v (ok a r) le e i = absurd (apart n ts a c r v le e i)
      second n c ts v (fail w r) le e i = rw i refl

      again : (n : ℕ) (c : C) (u v : List T) → n + length (u ++ v) ≡ total → Or S R n c u → D v → decide f p k q (u ++ v) ≡ ok c v
      again n c u v le (inl s) d = first c v (p (u ++ v)) (q (u ++ v)) (g.again n c u v le s d)
      again n c u v le (inr r) d = second n c (u ++ v) v (p (u ++ v)) le refl (h.again n c u v le r d)

  -- ---- what it rests on

  -- a rest that is no shorter than m ends in it
  suffix : (xs m u r : List T) → xs ++ m ≡ u ++ r → length m ≤ length r → (zs : List T) × (r ≡ zs ++ m)
  suffix xs m [] r e le = (xs, sym e)
  suffix [] m (x ∷ u) r e le = absurd (let k : length m ≡ suc (length (u ++ r)) = ap length e in let l : length (u ++ r) ≡ length u + length r = length-append u r in omega arith)
  suffix (y ∷ xs) m (x ∷ u) r e le = let k : xs ++ m ≡ u ++ r = cc in suffix xs m u r k le

  longer_by : (ys m : List T) → length m ≤ length (ys ++ m)
  longer_by ys m = let k : length (ys ++ m) ≡ length ys + length m = length-append ys m in omega arith

  -- of two rests of one text the farther one in a text that goes on otherwise
  far_ends : (r s ys m : List T) → farther r s ≡ ys ++ m → (length m ≤ length r) × (length m ≤ length s)
  far_ends r s ys m e = go (nat_lt (length s) (length r)) refl
    where
      go : (b : Bool) → nat_lt (length s) (length r) ≡ b → (length m ≤ length r) × (length m ≤ length s)
      go true f = let lt : length s < length r = Rattle.std.proofs.lemmas.Bool.ltb-true (length s) (length r) f in let es : length s ≡ length (ys ++ m) = ap length (ap (λ b. if b then s else r) (sym f) ∙ e) in let z = longer_by ys m in (omega arith, omega arith)
      go false f = let ge : length r ≤ length s = Rattle.std.proofs.lemmas.Bool.ltb-false (length s) (length r) f in let es : length r ≡ length (ys ++ m) = ap length (ap (λ b. if b then s else r) (sym f) ∙ e) in let z = longer_by ys m in (omega arith, omega arith)

  same_order : (a b m l : List T) → nat_lt (length (a ++ m)) (length (b ++ m)) ≡ nat_lt (length (a ++ l)) (length (b ++ l))
  same_order a b m l = go (nat_lt (length (a ++ m)) (length (b ++ m))) (nat_lt (length (a ++ l)) (length (b ++ l))) refl refl
    where
      am : length (a ++ m) ≡ length a + length m
      am = length-append a m

      bm : length (b ++ m) ≡ length b + length m
      bm = length-append b m

      al : length (a ++ l) ≡ length a + length l
      al = length-append a l

      bl : length (b ++ l) ≡ length b + length l
      bl = length-append b l

      go : (x y : Bool) → nat_lt (length (a ++ m)) (length (b ++ m)) ≡ x → nat_lt (length (a ++ l)) (length (b ++ l)) ≡ y → x ≡ y
      go true true e f = refl
      go false false e f = refl
      go true false e f = absurd (let x = Rattle.std.proofs.lemmas.Bool.ltb-true (length (a ++ m)) (length (b ++ m)) e in let y = Rattle.std.proofs.lemmas.Bool.ltb-false (length (a ++ l)) (length (b ++ l)) f in let k1 = am in let k2 = bm in let k3 = al in let k4 = bl in omega arith)
      go false true e f = absurd (let x = Rattle.std.proofs.lemmas.Bool.ltb-false (length (a ++ m)) (length (b ++ m)) e in let y = Rattle.std.proofs.lemmas.Bool.ltb-true (length (a ++ l)) (length (b ++ l)) f in let k1 = am in let k2 = bm in let k3 = al in let k4 = bl in omega arith)

  picked : (b c : Bool) (zr zs ys m l : List T) → b ≡ c → Path (List T) (if b then zs ++ m else zr ++ m) (ys ++ m) → Path (List T) (if c then zs ++ l else zr ++ l) (ys ++ l)
  picked true true zr zs ys m l e h = ap (λ z. z ++ l) (Rattle.std.proofs.lemmas.List.append_cancel_right zs ys m h)
  picked false false zr zs ys m l e h = ap (λ z. z ++ l) (Rattle.std.proofs.lemmas.List.append_cancel_right zr ys m h)
  picked true false zr zs ys m l e h = absurd cc
  picked false true zr zs ys m l e h = absurd cc

  far_moved : (zr zs ys m l : List T) → farther (zr ++ m) (zs ++ m) ≡ ys ++ m → farther (zr ++ l) (zs ++ l) ≡ ys ++ l
  far_moved zr zs ys m l h = picked (nat_lt (length (zs ++ m)) (length (zr ++ m))) (nat_lt (length (zs ++ l)) (length (zr ++ l))) zr zs ys m l (same_order zs zr m l) h

  far_rests : (b : Bool) (ts r s : List T) → (u : List T) × (ts ≡ u ++ r) → (v : List T) × (ts ≡ v ++ s) → (u : List T) × (ts ≡ u ++ (if b then s else r))
  far_rests true ts r s h g = g
  far_rests false ts r s h g = h

  pub far_least : (r s : List T) → (length (farther r s) ≤ length r) × (length (farther r s) ≤ length s)
  far_least r s = go (nat_lt (length s) (length r)) refl
    where
      go : (b : Bool) → nat_lt (length s) (length r) ≡ b → (length (if b then s else r) ≤ length r) × (length (if b then s else r) ≤ length s)
      go true e = let k : length s < length r = Rattle.std.proofs.lemmas.Bool.ltb-true (length s) (length r) e in (omega arith, omega arith)
      go false e = let k : length r ≤ length s = Rattle.std.proofs.lemmas.Bool.ltb-false (length s) (length r) e in (omega arith, omega arith)

  pub decide_rests : {A B C : Type 0} (f : A × B → C) (p : Reader T A) (k : Reader T B) (q : Reader T C) → ((ts : List T) → Rests ts (p ts)) → ((ts : List T) → Rests ts (k ts)) → ((ts : List T) → Rests ts (q ts)) → (ts : List T) → Rests ts (decide f p k q ts)
  decide_rests {A} {B} {C} f p k q rp rk rq ts = go (p ts) (q ts) (rp ts) (rq ts)
    where
      given : (w : Why) (r : List T) (o : Out T C) → (u : List T) × (ts ≡ u ++ r) → Rests ts o → Rests ts (refused w r o)
      given w r (ok c s) h g = g
      given w r (fail v s) h g = far_rests (nat_lt (length s) (length r)) ts r s h g

      go : (o : Out T A) (z : Out T C) → Rests ts o → Rests ts z → Rests ts (settled o (after (after o (λ a r. after (k r) (λ b s. ok (a, b) s))) (λ x s. ok (f x) s)) z)
      go (ok a r) z h g = chain_rests (λ x s. ok (f x) s) ts (after {B = A × B} (k r) (λ b s. ok (a, b) s)) (λ x s. ([], refl)) (chain_rests (λ b s. ok (a, b) s) ts (k r) (λ b s. ([], refl)) (rest_past ts r (k r) h (rk r)))
        where
          rest_past : (ts r : List T) (o : Out T B) → (u : List T) × (ts ≡ u ++ r) → Rests r o → Rests ts o
          rest_past ts r (ok b s) (u, e) (v, h) = (u ++ v, joined ts u r v s e h)
          rest_past ts r (fail w s) (u, e) (v, h) = (u ++ v, joined ts u r v s e h)
      go (fail w r) z h g = given w r z h g

  two_made : {A B C : Type 0} (f : A × B → C) (a : A) (o : Out T B) → after (after {B = A × B} o (λ b s. ok (a, b) s)) (λ x s. ok (f x) s) ≡ after o (λ b s. ok (f (a, b)) s)
  two_made f a (ok b s) = refl
  two_made f a (fail w s) = refl

  first_kept : {A B C : Type 0} {Q : Why → List T → Type 0} {N M : ℕ} (f : A × B → C) (k k' : Reader T B) (a : A) (r m l : List T) (o : Out T C) (p' : Out T A) (q' : Out T C) → Keeps Q N M k k' → length r ≤ N → made (λ (b : B). f (a, b)) k r ≡ o → Rests r o → ((ys : List T) → r ≡ ys ++ m → p' ≡ ok a (ys ++ l)) → head m ≡ head l → N + length l ≡ M + length m
      → Kept Q m l o (settled p' (after (after p' (λ a r. after (k' r) (λ b s. ok (a, b) s))) (λ x s. ok (f x) s)) q')
  first_kept {A} {B} {C} {Q} {N} {M} f k k' a r m l (ok c s) p' q' kk le eo (u, e) h hd eq = λ zs ez.
      let er = joined r u s zs m e ez in
      let g : Kept Q m l (ok c s) (made (λ (b : B). f (a, b)) k' ((u ++ zs) ++ l)) = subst (λ o. Kept Q m l o (made (λ (b : B). f (a, b)) k' ((u ++ zs) ++ l))) (ap (made (λ (b : B). f (a, b)) k) (sym er) ∙ eo) ((keeps_made (λ (b : B). f (a, b)) kk).keeps m l hd eq (u ++ zs) (subst (λ z. length z ≤ N) er le)) in
      rw (h (u ++ zs) er) (two_made f a (k' ((u ++ zs) ++ l)) ∙ g zs ez)
  first_kept {A} {B} {C} {Q} {N} {M} f k k' a r m l (fail w s) p' q' kk le eo (u, e) h hd eq = λ qw zs ez.
      let er = joined r u s zs m e ez in
      let g : Kept {A = C} Q m l (fail w s) (made (λ (b : B). f (a, b)) k' ((u ++ zs) ++ l)) = subst (λ o. Kept Q m l o (made (λ (b : B). f (a, b)) k' ((u ++ zs) ++ l))) (ap (made (λ (b : B). f (a, b)) k) (sym er) ∙ eo) ((keeps_made (λ (b : B). f (a, b)) kk).keeps m l hd eq (u ++ zs) (subst (λ z. length z ≤ N) er le)) in
      rw (h (u ++ zs) er) (two_made f a (k' ((u ++ zs) ++ l)) ∙ g qw zs ez)

  -- what is told of the worse of two failures is told of both
  pub record Splits (Q : Why → List T → Type 0) : Type 0 where
    pub splits : (w v : Why) (r s z : List T) → Q (worse w v) z → Q w r × Q v s

  -- p fails
  second_kept : {A C : Type 0} (Q : Why → List T → Type 0) (sp : Splits Q) (k' : Out T A → Out T C) (w : Why) (xs r m l : List T) (o : Out T C) (p' : Out T A) (q' : Out T C) → (u : List T) → xs ++ m ≡ u ++ r → Rests (xs ++ m) o → Kept Q m l (fail w r) p' → Kept Q m l o q' → ((a : A) (c : C) (z s : List T) → p' ≡ ok a z → q' ≡ ok c s → ⊥)
      → Kept Q m l (refused w r o) (settled p' (k' p') q')
  second_kept {A} {C} Q sp k' w xs r m l (ok c s) p' q' u eu re kp kq apart = λ ys e. by_front p' refl ys (kq ys e)
    where
      by_front : (z : Out T A) → p' ≡ z → (ys : List T) → q' ≡ ok c (ys ++ l) → settled z (k' z) q' ≡ ok c (ys ++ l)
      by_front (ok a z) e ys i = absurd (apart a c z (ys ++ l) e i)
      by_front (fail v z) e ys i = rw i refl
  second_kept {A} {C} Q sp k' w xs r m l (fail v s) p' q' u eu (x, ex) kp kq apart = λ qw ys e.
      let two = sp.splits w v r s (farther r s) qw in
      let le = far_ends r s ys m e in
      let zr = suffix xs m u r eu le.0 in
      let zs = suffix xs m x s ex le.1 in
      let h : farther (zr.0 ++ l) (zs.0 ++ l) ≡ ys ++ l = far_moved zr.0 zs.0 ys m l (ap (λ z. farther z (zs.0 ++ m)) (sym zr.1) ∙ ap (farther r) (sym zs.1) ∙ e) in
      rw (kp two.0 zr.0 zr.1, kq two.1 zs.0 zs.1) (ap (fail (worse w v)) h)

  pub keeps_decide : {A B C : Type 0} {Q : Why → List T → Type 0} {N M : ℕ} (sp : Splits Q) (f : A × B → C) {p p' : Reader T A} {k k' : Reader T B} {q q' : Reader T C} → Keeps Q N M p p' → Keeps Q N M k k' → Keeps Q N M q q' → Apart M p' q' → Keeps Q N M (decide f p k q) (decide f p' k' q')
  keeps_decide {A} {B} {C} {Q} {N} {M} sp f {p} {p'} {k} {k'} {q} {q'} kp kk kq apart = record {
    keeps = λ m l hd eq xs le. go m l hd eq xs le (p (xs ++ m)) refl (kp.keeps m l hd eq xs le) (kp.rests (xs ++ m));
    rests = decide_rests f p k q kp.rests kk.rests kq.rests;
  }
    where
      within : (m l xs : List T) → N + length l ≡ M + length m → length (xs ++ m) ≤ N → (M - length (xs ++ l)) + length (xs ++ l) ≡ M
      within m l xs eq le = let a : length (xs ++ m) ≡ length xs + length m = length-append xs m in let b : length (xs ++ l) ≡ length xs + length l = length-append xs l in omega arith

      go : (m l : List T) → head m ≡ head l → N + length l ≡ M + length m → (xs : List T) → length (xs ++ m) ≤ N → (o : Out T A) → p (xs ++ m) ≡ o → Kept Q m l o (p' (xs ++ l)) → Rests (xs ++ m) o
          → Kept Q m l (settled o (after (after o (λ a r. after (k r) (λ b s. ok (a, b) s))) (λ x s. ok (f x) s)) (q (xs ++ m))) (decide f p' k' q' (xs ++ l))
      go m l hd eq xs le (ok a r) e h re =
          subst (λ (o : Out T C). Kept Q m l o (decide f p' k' q' (xs ++ l))) (sym (two_made f a (k r)))
          (first_kept f k k' a r m l (made (λ (b : B). f (a, b)) k r) (p' (xs ++ l)) (q' (xs ++ l)) kk (shorter N (xs ++ m) r a re le) refl ((keeps_made (λ (b : B). f (a, b)) kk).rests r) h hd eq)
      go m l hd eq xs le (fail w r) e h (u, eu) =
          second_kept Q sp (λ o. after (after {B = A × B} o (λ a r. after (k' r) (λ b s. ok (a, b) s))) (λ x s. ok (f x) s)) w xs r m l (q (xs ++ m)) (p' (xs ++ l)) (q' (xs ++ l)) u eu (kq.rests (xs ++ m)) h (kq.keeps m l hd eq xs le)
          (λ a c z s ep eq2. apart (M - length (xs ++ l)) (xs ++ l) a c z s (within m l xs eq le) ep eq2)
