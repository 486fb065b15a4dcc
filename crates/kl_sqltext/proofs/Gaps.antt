-- What stands behind white space.
use Rattle.std.proofs.Common.{◌≡◌, ℕ, ◌+◌, Bool, true, false, IsTrue, ◌||◌, List, [], ◌∷◌, ◌++◌, length, inl, inr, refl, ap, ◌∙◌, append_assoc}
use Rattle.std.proofs.lemmas.Bool.{and_parts, or_right}
use Rattle.std.specs.List.{list_all}
use Rattle.kl_phrase.specs.Words.{heads, Phrase, Nothing, Behind, Made, Or, Never}
use Rattle.kl_phrase.specs.Readers.{Reader, behind, ok}
use Rattle.kl_phrase.proofs.Theory.{On, Meets, To, Chain}
use Rattle.kl_phrase.proofs.Firsts.{Stops, Without, heads_without, on_made}
use Rattle.kl_sqltext.specs.Words.{is_blank, AnyBlanks, SomeBlanks}
use Rattle.kl_sqltext.specs.Descent.{yes, gaps, gap, space, after_gap, gapped}
use Rattle.kl_sqltext.proofs.Flat.{ReadsFlat, reads_nothing, reads_made, reads_behind, reads_pick, reads_only, reads_chain, reads_same, reads_follow}
use Rattle.kl_sqltext.proofs.Bytes.{reads_gap, reads_space, on_space}

-- such a byte is no blank
abbrev pub Solid : (ℕ → Bool) → Type 0
Solid test = Without test is_blank

module _ {A : Type 0} {R : Phrase ℕ A} {test : ℕ → Bool} (D : List ℕ → Type 0) (solid : Solid test) (on : On test R) where
  pub meets_solid : Meets (Stops is_blank) R D
  meets_solid n b y v r h = heads_without solid (y ++ v) (on n b y v r)

  pub reads_gap_then : {q : Reader ℕ A} → ReadsFlat R D q → ReadsFlat (Behind AnyBlanks R) D (behind gap q)
  reads_gap_then r = reads_behind reads_gap r meets_solid

  pub reads_space_then : {q : Reader ℕ A} → ReadsFlat R D q → ReadsFlat (Behind SomeBlanks R) D (behind space q)
  reads_space_then r = reads_behind reads_space r meets_solid

-- with whether there is some
BlanksTold : Phrase ℕ Bool
BlanksTold = Or (Made yes SomeBlanks) (Nothing false)

reads_blanks : ReadsFlat BlanksTold (Stops is_blank) gaps
unfolding BlanksTold
reads_blanks = reads_pick (reads_made yes reads_space) (reads_follow (Stops is_blank) (λ v h. tt) (reads_nothing false)) (on_made is_blank yes SomeBlanks on_space) (λ n b u v (e, z) h. rw z h)

abbrev AfterGap : {A : Type 0} → Phrase ℕ A → Phrase ℕ A → Bool → Phrase ℕ A
AfterGap I K true = Or I K
AfterGap I K false = Or I Never

module _ {A : Type 0} (I K : Phrase ℕ A) where
  gapped_to : To (Chain BlanksTold (AfterGap I K)) (Or (Behind AnyBlanks I) (Behind SomeBlanks K))
  unfolding BlanksTold
  gapped_to n a ts (true, u, v, e, inl (x, eb, s), inl i) = inl (u, v, e, is_gap u s, i)
    where
      is_gap : (u : List ℕ) → SomeBlanks n tt u → AnyBlanks n tt u
      is_gap u (y, z, e, (t, ey, b), g) = rw (e, ey) (rw b g)
  gapped_to n a ts (true, u, v, e, inl (x, eb, s), inr k) = inr (u, v, e, s, k)
  gapped_to n a ts (true, u, v, e, inr (eb, eu), r) = absurd cc
  gapped_to n a ts (false, u, v, e, inl (x, eb, s), r) = absurd cc
  gapped_to n a ts (false, u, v, e, inr (eb, eu), inl i) = inl (u, v, e, rw eu refl, i)
  gapped_to n a ts (false, u, v, e, inr (eb, eu), inr k) = absurd k

  gapped_from : To (Or (Behind AnyBlanks I) (Behind SomeBlanks K)) (Chain BlanksTold (AfterGap I K))
  unfolding BlanksTold
  gapped_from n a ts (inl ([], v, e, g, i)) = (false, [], v, e, inr (refl, refl), inl i)
  gapped_from n a ts (inl (t ∷ u, v, e, g, i)) = let k = and_parts (is_blank t) (list_all is_blank u) g in (true, t ∷ u, v, e, inl (tt, refl, (t ∷ [], u, refl, (t, refl, k.0), k.1)), inl i)
  gapped_from n a ts (inr (u, v, e, s, k)) = (true, u, v, e, inl (tt, refl, s), inr k)

  pub on_gapped : (first second : ℕ → Bool) → On first I → On (λ t. is_blank t || first t) (Or (Behind AnyBlanks I) (Behind SomeBlanks K))
  on_gapped first second on n a u v (inl (x, y, e, g, i)) = rw (e, append_assoc) (begins x (y ++ v) g (on (n + length x) a y v i))
    where
      begins : (x w : List ℕ) → IsTrue (list_all is_blank x) → heads first w ≡ true → heads (λ t. is_blank t || first t) (x ++ w) ≡ true
      begins [] [] g h = absurd cc
      begins [] (t ∷ w) g h = or_right (is_blank t) (first t) h
      begins (t ∷ x) w g h = let k = and_parts (is_blank t) (list_all is_blank x) g in rw k.0 refl
  on_gapped first second on n a u v (inr (x, y, e, s, k)) = rw (e, append_assoc) (blank (x ++ (y ++ v)) (on_space n tt x (y ++ v) s))
    where
      blank : (w : List ℕ) → heads is_blank w ≡ true → heads (λ t. is_blank t || first t) w ≡ true
      blank [] h = absurd cc
      blank (t ∷ w) h = rw h refl

-- i, on its first byte, behind any white space; k, on another, behind some
pub reads_gapped : {A : Type 0} {I K : Phrase ℕ A} (test second : ℕ → Bool) {D : List ℕ → Type 0} {i k : Reader ℕ A} → ReadsFlat I D i → ReadsFlat K D k → On test I → On second K → Without second test → Solid test → Solid second
    → ReadsFlat (Or (Behind AnyBlanks I) (Behind SomeBlanks K)) D (gapped test i k)
reads_gapped {A} {I} {K} test second {D} {i} {k} ri rk on also apart solid sound =
    reads_same (gapped_to I K) (gapped_from I K) (reads_chain reads_blanks each meets)
  where
    each : (b : Bool) → ReadsFlat (AfterGap I K b) D (after_gap test i k b)
    each true = reads_pick ri rk on (λ n a u v r h. heads_without apart (u ++ v) (also n a u v r))
    each false = reads_only ri on

    meets : (b : Bool) → Meets (Stops is_blank) (AfterGap I K b) D
    meets true n a y v (inl r) h = heads_without solid (y ++ v) (on n a y v r)
    meets true n a y v (inr r) h = heads_without sound (y ++ v) (also n a y v r)
    meets false n a y v (inl r) h = heads_without solid (y ++ v) (on n a y v r)
    meets false n a y v (inr r) h = absurd r

-- i behind white space, whatever k is
pub gapped_first : {A : Type 0} {I : Phrase ℕ A} (test : ℕ → Bool) {D : List ℕ → Type 0} {i : Reader ℕ A} (k : Reader ℕ A) → ReadsFlat I D i → On test I → Solid test → (n : ℕ) (a : A) (u v : List ℕ) → Behind AnyBlanks I n a u → D v → gapped test i k (u ++ v) ≡ ok a v
gapped_first {A} {I} test {D} {i} k ri on solid n a u v h d = go (gapped_from I I n a u (inl h))
  where
    chosen : (b : Bool) (m : ℕ) (y : List ℕ) → I m a y → after_gap test i k b (y ++ v) ≡ ok a v
    chosen true m y r = rw (on m a y v r) ((ri.good (m + length (y ++ v))).again m a y v refl r d)
    chosen false m y r = rw (on m a y v r) ((ri.good (m + length (y ++ v))).again m a y v refl r d)

    is_i : (b : Bool) (m : ℕ) (y : List ℕ) → AfterGap I I b m a y → I m a y
    is_i true m y (inl r) = r
    is_i true m y (inr r) = r
    is_i false m y (inl r) = r
    is_i false m y (inr r) = absurd r

    go : Chain BlanksTold (AfterGap I I) n a u → gapped test i k (u ++ v) ≡ ok a v
    go (b, x, y, e, s, r0) =
        let r = is_i b (n + length x) y r0 in
        let whole : u ++ v ≡ x ++ (y ++ v) = ap (λ z. z ++ v) e ∙ append_assoc x y v in
        let first : gaps (x ++ (y ++ v)) ≡ ok b (y ++ v) = (reads_blanks.good (n + length (x ++ (y ++ v)))).again n b x (y ++ v) refl s (heads_without solid (y ++ v) (on (n + length x) a y v r)) in
        ap (gapped test i k) whole ∙ rw first (chosen b (n + length x) y r)
