-- One more header is named.
use Rattle.std.proofs.Common.{◌≡◌, ◌+◌, ℕ, zero, suc, List, [], ◌∷◌, ◌++◌, take, Some, sym, ap, subst, ◌∙◌, add-one, append_assoc}
use Rattle.std.proofs.lemmas.List.{append-nil}
use Rattle.csv.specs.Records.{field_at}
use Rattle.kl_flat.specs.Table.{Record}
use Rattle.kl_tidy.specs.Naming.{AreNames, IsNameOf}

take_field : (fs : Record) (i : ℕ) (cell : List ℕ) → field_at fs i ≡ Some cell → take (suc i) fs ≡ take i fs ++ cell ∷ []
unfolding field_at
take_field [] i cell e = cc
take_field (f ∷ fs) zero cell e = let same : f ≡ cell = cc in ap (λ x. x ∷ []) same
take_field (f ∷ fs) (suc i) cell e = ap (λ xs. f ∷ xs) (take_field fs i cell e)

names_more : (before cells names : Record) (cell name : List ℕ) → AreNames before cells names → IsNameOf (before ++ names) cell name → AreNames before (cells ++ cell ∷ []) (names ++ name ∷ [])
names_more before [] [] cell name h one = (subst (λ b. IsNameOf b cell name) (append-nil before) one, tt)
names_more before [] (n ∷ names) cell name h one = absurd h
names_more before (c ∷ cells) [] cell name h one = absurd h
names_more before (c ∷ cells) (n ∷ names) cell name h one =
    (h.0, names_more (before ++ n ∷ []) cells names cell name h.1 (subst (λ b. IsNameOf b cell name) (sym (append_assoc before (n ∷ []) names)) one))

pub named_at : (fs : Record) (i : ℕ) (cell name : List ℕ) (names names' : Record) → field_at fs i ≡ Some cell → names' ≡ names ++ name ∷ [] → AreNames [] (take i fs) names → IsNameOf names cell name
    → AreNames [] (take (i + 1) fs) names'
named_at fs i cell name names names' at grown h one =
    subst (λ ns. AreNames [] (take (i + 1) fs) ns) (sym grown)
    (subst (λ cs. AreNames [] cs (names ++ name ∷ [])) (sym (ap (λ n. take n fs) (add-one i) ∙ take_field fs i cell at)) (names_more [] (take i fs) names cell name h one))
