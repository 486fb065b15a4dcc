-- What is kept of findings is the first breach, and the sources that are named.
use Rattle.std.proofs.Common.{◌≡◌, ℕ, ◌<◌, ◌≤◌, ◌≢◌, ◌==◌, ◌⊎◌, ◌↔◌, inl, inr, Bool, true, false, ◌&&◌, ◌||◌, nat_lt, List, [], ◌∷◌, ◌++◌, length, get_or, replicate, Option, Some, None, if◌then◌else◌, refl, sym, subst, ◌∙◌, arith, append_assoc, append-nil}
use Rattle.std.proofs.Math.ListN.{set}
use Rattle.std.proofs.lemmas.List.{length-set, get_or-set_same, get_or-set_other, get_or-replicate, get_or_past, length-replicate}
use Rattle.std.proofs.lemmas.List.Elements.{Contains-append_left, Contains-append_right, Contains-push_cases}
use Rattle.std.proofs.lemmas.Bool.Decides.{Decides-ltb, Decides-eqb}
use Rattle.std.specs.Bool.{Decides}
use Rattle.std.specs.List.{Contains}
use Rattle.kl_scope.specs.declared.refusal.ScopeError.{ScopeError}
use Rattle.kl_scope.specs.Breaches.{NotAfter}
use Rattle.kl_scope.specs.Findings.{Finding, breach, mention}
use Rattle.kl_scope.specs.Gathering.{Gathered, is_before, earlier, noted, gathered}
use Rattle.kl_scope.specs.Ranks.{token_of, rule_of}

-- ---- the order

not_after_itself : (e : ScopeError) → NotAfter e e
not_after_itself e = inr (refl, omega arith)

not_after_across : (e f g : ScopeError) → NotAfter e f → NotAfter f g → NotAfter e g
not_after_across e f g (inl a) (inl b) = inl (omega arith)
not_after_across e f g (inl a) (inr b) = let h = b.0 in inl (omega arith)
not_after_across e f g (inr a) (inl b) = let h = a.0 in inl (omega arith)
not_after_across e f g (inr a) (inr b) = let h = a.0 in let k = b.0 in let i = a.1 in let j = b.1 in inr (h ∙ k, omega arith)

-- the test says what it means
before_yes : (a b c : Bool) (m n p q : ℕ) → Decides a (m < n) → Decides b (m ≡ n) → Decides c (p < q) → (a || b && c) ≡ true → (m < n) ⊎ ((m ≡ n) × (p ≤ q))
before_yes true b c m n p q da db dc h = inl (da.0 refl)
before_yes false true true m n p q da db dc h = let k : p < q = dc.0 refl in inr (db.0 refl, omega arith)
before_yes false true false m n p q da db dc h = absurd cc
before_yes false false c m n p q da db dc h = absurd cc

refuted : {P : Type 0} → Decides false P → P → ⊥
refuted d p = let k : false ≡ true = d.1 p in cc

before_no : (a b c : Bool) (m n p q : ℕ) → Decides a (m < n) → Decides b (m ≡ n) → Decides c (p < q) → (a || b && c) ≡ false → (n < m) ⊎ ((n ≡ m) × (q ≤ p))
before_no true b c m n p q da db dc h = absurd cc
before_no false true true m n p q da db dc h = absurd cc
before_no false true false m n p q da db dc h = let k : p < q → ⊥ = refuted dc in inr (sym (db.0 refl), omega (arith, k))
before_no false false c m n p q da db dc h = let k : m < n → ⊥ = refuted da in let j : m ≡ n → ⊥ = refuted db in inl (omega (arith, k, j))

before_not_after : (e f : ScopeError) → is_before e f ≡ true → NotAfter e f
before_not_after e f h =
    before_yes (nat_lt (token_of e) (token_of f)) (token_of e == token_of f) (nat_lt (rule_of e) (rule_of f)) (token_of e) (token_of f) (rule_of e) (rule_of f)
    (Decides-ltb (token_of e) (token_of f)) (Decides-eqb (token_of e) (token_of f)) (Decides-ltb (rule_of e) (rule_of f)) h

else_not_after : (e f : ScopeError) → is_before e f ≡ false → NotAfter f e
else_not_after e f h =
    before_no (nat_lt (token_of e) (token_of f)) (token_of e == token_of f) (nat_lt (rule_of e) (rule_of f)) (token_of e) (token_of f) (rule_of e) (rule_of f)
    (Decides-ltb (token_of e) (token_of f)) (Decides-eqb (token_of e) (token_of f)) (Decides-ltb (rule_of e) (rule_of f)) h

-- ---- the first breach

pub Best : Option ScopeError → List Finding → Type 0
Best None fs = (e : ScopeError) → Contains fs (breach e) → ⊥
Best (Some e) fs = Contains fs (breach e) × ((f : ScopeError) → Contains fs (breach f) → NotAfter e f)

last_of : (fs : List Finding) (x : Finding) → Contains (fs ++ x ∷ []) x
last_of fs x = Contains-append_right fs (x ∷ []) x (0, omega arith, refl)

best_step : (o : Option ScopeError) (done : List Finding) (b : ScopeError) → Best o done → Best (earlier o b) (done ++ breach b ∷ [])
unfolding Best
best_step None done b h = (
  last_of done (breach b),
  λ f c. elim (Contains-push_cases done (breach b) (breach f) c) [
    | inl before ↦ absurd (h f before)
    | inr e ↦ let same : b ≡ f = cc in subst (λ (z : ScopeError). NotAfter b z) same (not_after_itself b)
  ],
)
best_step (Some a) done b h = choose (is_before b a) refl
  where
    choose : (t : Bool) → is_before b a ≡ t → Best (Some (if t then b else a)) (done ++ breach b ∷ [])
    choose true e = (
      last_of done (breach b),
      λ f c. elim (Contains-push_cases done (breach b) (breach f) c) [
        | inl before ↦ not_after_across b a f (before_not_after b a e) (h.1 f before)
        | inr k ↦ let same : b ≡ f = cc in subst (λ (z : ScopeError). NotAfter b z) same (not_after_itself b)
      ],
    )
    choose false e = (
      Contains-append_left done (breach b ∷ []) (breach a) h.0,
      λ f c. elim (Contains-push_cases done (breach b) (breach f) c) [
        | inl before ↦ h.1 f before
        | inr k ↦ let same : b ≡ f = cc in subst (λ (z : ScopeError). NotAfter a z) same (else_not_after b a e)
      ],
    )

best_mention : (o : Option ScopeError) (done : List Finding) (i : ℕ) → Best o done → Best o (done ++ mention i ∷ [])
unfolding Best
best_mention None done i h = λ e c. elim (Contains-push_cases done (mention i) (breach e) c) [ inl before ↦ h e before | inr k ↦ absurd cc ]
best_mention (Some a) done i h = (Contains-append_left done (mention i ∷ []) (breach a) h.0, λ f c. elim (Contains-push_cases done (mention i) (breach f) c) [ inl before ↦ h.1 f before | inr k ↦ absurd cc ])

best_more : (g : Gathered) (done : List Finding) (x : Finding) → Best g.first done → Best (noted g x).first (done ++ x ∷ [])
best_more g done (breach b) h = best_step g.first done b h
best_more g done (mention i) h = best_mention g.first done i h

best_of_all : (g : Gathered) (done fs : List Finding) → Best g.first done → Best (gathered g fs).first (done ++ fs)
best_of_all g done [] h = rw append-nil h
best_of_all g done (x ∷ fs) h = rw (← append_assoc done (x ∷ []) fs) (best_of_all (noted g x) (done ++ x ∷ []) fs (best_more g done x h))

pub best_is : (g : Gathered) (fs : List Finding) → g.first ≡ None → Best (gathered g fs).first fs
unfolding Best
best_is g fs none = best_of_all g [] fs (rw none (λ e c. absurd (let k = c.1 in omega arith)))

pub none_is : (o : Option ScopeError) (fs : List Finding) → Best o fs → o ≡ None → (e : ScopeError) → Contains fs (breach e) → ⊥
unfolding Best
none_is None fs h e = h
none_is (Some a) fs h e = absurd cc

pub some_is : (o : Option ScopeError) (fs : List Finding) (e : ScopeError) → Best o fs → o ≡ Some e → Contains fs (breach e) × ((f : ScopeError) → Contains fs (breach f) → NotAfter e f)
unfolding Best
some_is None fs e h k = absurd cc
some_is (Some a) fs e h k = let same : a ≡ e = cc in subst (λ (z : ScopeError). Contains fs (breach z) × ((f : ScopeError) → Contains fs (breach f) → NotAfter z f)) same h

-- ---- the sources that are named

pub Marked : ℕ → List Bool → List Finding → Type 0
Marked n marks fs = (length marks ≡ n) × ((i : ℕ) → i < n → (get_or marks i false ≡ true) ↔ Contains fs (mention i))

marked_more : (n : ℕ) (g : Gathered) (done : List Finding) (x : Finding) → Marked n g.marks done → Marked n (noted g x).marks (done ++ x ∷ [])
unfolding Marked
marked_more n g done (breach b) h = (
  h.0,
  λ i lt. (
    λ t. Contains-append_left done (breach b ∷ []) (mention i) ((h.1 i lt).0 t),
    λ c. elim (Contains-push_cases done (breach b) (mention i) c) [ inl before ↦ (h.1 i lt).1 before | inr k ↦ absurd cc ],
  ),
)
marked_more n g done (mention j) h = (length-set g.marks j true ∙ h.0, λ i lt. at i lt (i == j) refl)
  where
    at : (i : ℕ) → i < n → (t : Bool) → i == j ≡ t → (get_or (set g.marks j true) i false ≡ true) ↔ Contains (done ++ mention j ∷ []) (mention i)
    at i lt true e =
        let same : i ≡ j = (Decides-eqb i j).0 e in
        let less : j < length g.marks = omega (arith, h.0) in
        (λ _. subst (λ (z : ℕ). Contains (done ++ mention j ∷ []) (mention z)) (sym same) (last_of done (mention j)), λ _. rw same (get_or-set_same g.marks j true false less))
    at i lt false e =
        let other : i ≢ j = λ k. (let c : true ≡ false = sym ((Decides-eqb i j).1 k) ∙ e in cc) in
        let kept : get_or (set g.marks j true) i false ≡ get_or g.marks i false = get_or-set_other g.marks j i true false other in (
          λ t. Contains-append_left done (mention j ∷ []) (mention i) ((h.1 i lt).0 (sym kept ∙ t)),
          λ c. kept ∙ elim (Contains-push_cases done (mention j) (mention i) c) [ inl before ↦ (h.1 i lt).1 before | inr k ↦ absurd (let back : i ≡ j = cc in other back) ],
        )

marked_all : (n : ℕ) (g : Gathered) (done fs : List Finding) → Marked n g.marks done → Marked n (gathered g fs).marks (done ++ fs)
marked_all n g done [] h = rw append-nil h
marked_all n g done (x ∷ fs) h = rw (← append_assoc done (x ∷ []) fs) (marked_all n (noted g x) (done ++ x ∷ []) fs (marked_more n g done x h))

marked_from : (n : ℕ) (g : Gathered) (fs : List Finding) → g.marks ≡ replicate n false → Marked n (gathered g fs).marks fs
unfolding Marked
marked_from n g fs none = marked_all n g [] fs (rw none (length-replicate n false, λ i lt. (λ t. absurd (let k = get_or-replicate n i false false lt in let c : false ≡ true = sym k ∙ t in cc), λ c. absurd (let k = c.1 in omega arith))))

pub marked_is : (n : ℕ) (g : Gathered) (fs : List Finding) → g.marks ≡ replicate n false → (i : ℕ) → i < n → (get_or (gathered g fs).marks i false ≡ true) ↔ Contains fs (mention i)
unfolding Marked
marked_is n g fs none = (marked_from n g fs none).1

pub unmarked_is : (n : ℕ) (g : Gathered) (fs : List Finding) → g.marks ≡ replicate n false → (i : ℕ) → n ≤ i → get_or (gathered g fs).marks i false ≡ false
unfolding Marked
unmarked_is n g fs none i le = let h : length (gathered g fs).marks ≡ n = (marked_from n g fs none).0 in get_or_past (gathered g fs).marks i false (omega arith)
