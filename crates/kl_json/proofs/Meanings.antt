-- How the meanings of items and members go on.
use Rattle.std.proofs.Common.{◌≡◌, ℕ, List, [], ◌∷◌, ◌++◌, Result, Ok, Err, refl, sym, ap, ◌∙◌}
use Rattle.std.specs.Borrow.{Bor}
use Rattle.std.proofs.lemmas.List.{append_assoc}
use Rattle.json.specs.Value.{value_view, items_view, members_view}
use Rattle.json.specs.declared.value.Value.{Value as Tree}
use Rattle.kl_value.specs.declared.Value.{Value}
use Rattle.kl_json.specs.declared.choices.Choices.{Choices}
use Rattle.kl_json.specs.declared.choices.Refusal.{Refusal}
use Rattle.kl_json.specs.Meaning.{each, then, meaning, items_meaning, members_meaning, label_meaning}

pub begun : {X : Type 0} (r : Result (List X) Refusal) → r ≡ each (λ xs. [] ++ xs) r
begun (Ok xs) = refl
begun (Err e) = refl

gone_on : {X : Type 0} (done : List X) (x : X) (r : Result (List X) Refusal) → each (λ xs. done ++ xs) (each (λ xs. x ∷ xs) r) ≡ each (λ xs. (done ++ x ∷ []) ++ xs) r
gone_on done x (Ok xs) = ap Ok (sym (append_assoc done (x ∷ []) xs))
gone_on done x (Err e) = refl

nothing_more : {X : Type 0} (done : List X) → done ++ [] ≡ done
nothing_more [] = refl
nothing_more (x ∷ xs) = ap (λ ys. x ∷ ys) (nothing_more xs)

module _ {A : Type 0} (c : Choices) where
  -- of these items the first have these meanings, and the others are left
  abbrev pub ItemsSo : List (Tree A) → List Value → List (Tree A) → Type 0
  ItemsSo xs done left = items_meaning c (items_view xs) ≡ each (λ vs. done ++ vs) (items_meaning c (items_view left))

  pub item_more : (xs rest : List (Tree A)) (left : List (Tree A)) (x : Tree A) (v : Value) (done : List Value)
      → left ≡ x ∷ rest → Ok v ≡ meaning c (value_view x) → ItemsSo xs done left → ItemsSo xs (done ++ v ∷ []) rest
  item_more xs rest left x v done here is so =
      so ∙ ap (λ ys. each (λ vs. done ++ vs) (items_meaning c (items_view ys))) here
      ∙ ap (λ r. each (λ vs. done ++ vs) (then r (λ w. each (λ vs. w ∷ vs) (items_meaning c (items_view rest))))) (sym is)
      ∙ gone_on done v (items_meaning c (items_view rest))

  pub item_refused : (xs rest : List (Tree A)) (left : List (Tree A)) (x : Tree A) (e : Refusal) (done : List Value)
      → left ≡ x ∷ rest → Err e ≡ meaning c (value_view x) → ItemsSo xs done left → Err e ≡ items_meaning c (items_view xs)
  item_refused xs rest left x e done here is so =
      sym (so ∙ ap (λ ys. each (λ vs. done ++ vs) (items_meaning c (items_view ys))) here
      ∙ ap (λ r. each (λ vs. done ++ vs) (then r (λ w. each (λ vs. w ∷ vs) (items_meaning c (items_view rest))))) (sym is))

  pub items_ended : (xs left : List (Tree A)) (done : List Value) → left ≡ [] → ItemsSo xs done left → Ok done ≡ items_meaning c (items_view xs)
  items_ended xs left done none so =
      sym (so ∙ ap (λ ys. each (λ vs. done ++ vs) (items_meaning c (items_view ys))) none ∙ ap Ok (nothing_more done))

  abbrev pub MembersSo : List (Bor (List ℕ) × Tree A) → List (List ℕ × Value) → List (Bor (List ℕ) × Tree A) → Type 0
  MembersSo xs done left = members_meaning c (members_view xs) ≡ each (λ fs. done ++ fs) (members_meaning c (members_view left))

  pub member_more : (xs rest left : List (Bor (List ℕ) × Tree A)) (x : Bor (List ℕ) × Tree A) (l : List ℕ) (v : Value) (done : List (List ℕ × Value))
      → left ≡ x ∷ rest → Ok l ≡ label_meaning c x.0.now → Ok v ≡ meaning c (value_view x.1) → MembersSo xs done left → MembersSo xs (done ++ (l, v) ∷ []) rest
  member_more xs rest left x l v done here named is so =
      so ∙ ap (λ ys. each (λ fs. done ++ fs) (members_meaning c (members_view ys))) here
      ∙ ap (λ r. each (λ fs. done ++ fs) (then r (λ k. then (meaning c (value_view x.1)) (λ w. each (λ fs. (k, w) ∷ fs) (members_meaning c (members_view rest)))))) (sym named)
      ∙ ap (λ r. each (λ fs. done ++ fs) (then r (λ w. each (λ fs. (l, w) ∷ fs) (members_meaning c (members_view rest))))) (sym is)
      ∙ gone_on done (l, v) (members_meaning c (members_view rest))

  pub label_refused : (xs rest left : List (Bor (List ℕ) × Tree A)) (x : Bor (List ℕ) × Tree A) (e : Refusal) (done : List (List ℕ × Value))
      → left ≡ x ∷ rest → Err e ≡ label_meaning c x.0.now → MembersSo xs done left → Err e ≡ members_meaning c (members_view xs)
  label_refused xs rest left x e done here named so =
      sym (so ∙ ap (λ ys. each (λ fs. done ++ fs) (members_meaning c (members_view ys))) here
      ∙ ap (λ r. each (λ fs. done ++ fs) (then r (λ k. then (meaning c (value_view x.1)) (λ w. each (λ fs. (k, w) ∷ fs) (members_meaning c (members_view rest)))))) (sym named))

  pub member_refused : (xs rest left : List (Bor (List ℕ) × Tree A)) (x : Bor (List ℕ) × Tree A) (l : List ℕ) (e : Refusal) (done : List (List ℕ × Value))
      → left ≡ x ∷ rest → Ok l ≡ label_meaning c x.0.now → Err e ≡ meaning c (value_view x.1) → MembersSo xs done left → Err e ≡ members_meaning c (members_view xs)
  member_refused xs rest left x l e done here named is so =
      sym (so ∙ ap (λ ys. each (λ fs. done ++ fs) (members_meaning c (members_view ys))) here
      ∙ ap (λ r. each (λ fs. done ++ fs) (then r (λ k. then (meaning c (value_view x.1)) (λ w. each (λ fs. (k, w) ∷ fs) (members_meaning c (members_view rest)))))) (sym named)
      ∙ ap (λ r. each (λ fs. done ++ fs) (then r (λ w. each (λ fs. (l, w) ∷ fs) (members_meaning c (members_view rest))))) (sym is))

  pub members_ended : (xs left : List (Bor (List ℕ) × Tree A)) (done : List (List ℕ × Value)) → left ≡ [] → MembersSo xs done left → Ok done ≡ members_meaning c (members_view xs)
  members_ended xs left done none so =
      sym (so ∙ ap (λ ys. each (λ fs. done ++ fs) (members_meaning c (members_view ys))) none ∙ ap Ok (nothing_more done))
