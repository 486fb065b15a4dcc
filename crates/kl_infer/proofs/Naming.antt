-- What names stand for.
use Rattle.std.proofs.Common.{◌≡◌, ◌⊎◌, inl, inr, ⊎_elim, ℕ, min, ◌+◌, ◌<◌, ◌≤◌, Bool, true, false, cond, List, [], ◌∷◌, ◌++◌, length, drop, get_or, slice_index_or, map, Option, Some, None, refl, sym, ap, ◌∙◌, arith, append_assoc}
use Rattle.std.proofs.lemmas.List.{drop_all, append-nil}
use Rattle.std.proofs.lemmas.Bool.{cases_lt}
use Rattle.kl_base.specs.Fields.{field}
use Rattle.kl_outcome.specs.Outcome.{Name}
use Rattle.kl_rows.specs.Lists.{Fields}
use Rattle.kl_meaning.specs.Match.{same_name}
use Rattle.kl_infer.specs.Asking.{onto}
use Rattle.kl_meaning.specs.Codes.{IsCalled}
use Rattle.kl_syntax.specs.declared.tree.Pattern.{Pattern}
use Rattle.kl_infer.specs.Names.{IfCode, Meant, last_from, defined, meant_over, labelled}
use Rattle.kl_rows.specs.declared.Scheme.{Scheme}
use Rattle.kl_syntax.specs.declared.tree.Decl.{Decl}
use Rattle.kl_infer.proofs.Loops.{at_number}
use Rattle.kl_base.proofs.Places.{drop_at}

-- the last of a block is the innermost
pub field_onto : (x : Name) (bs ns : Fields) → field x (onto bs ns) ≡ last_from x bs (field x ns)
field_onto x [] ns = refl
field_onto x (b ∷ bs) ns = field_onto x bs (b ∷ ns)

pub innermost : (x : Name) (bs ns : Fields) (o r : Option ℕ) → o ≡ field x ns → r ≡ last_from x bs o → r ≡ field x (onto bs ns)
innermost x bs ns o r e h = h ∙ ap (last_from x bs) e ∙ sym (field_onto x bs ns)

-- a definition is no primitive
pub hidden_called : (b : Bool) (o : Option Pattern) (s : Scheme) (m : Meant) → IfCode m IsCalled → IfCode (cond b (defined o s) m) IsCalled
hidden_called true (Some p) s m h = tt
hidden_called true None s m h = tt
hidden_called false o s m h = h

pub meant_step : (x : Name) (ds : List Decl) (ss : List Scheme) (n : ℕ) (d : Decl) (s : Scheme) (m p w : Meant) → n < length ds → n < length ss → d ≡ get_or ds n d → s ≡ get_or ss n s
    → p ≡ cond (same_name x d.name.text) (defined d.param s) m → meant_over x (drop n ds) (drop n ss) m ≡ w → meant_over x (drop (n + 1) ds) (drop (n + 1) ss) p ≡ w
meant_step x ds ss n d s m p w l1 l2 e1 e2 h g =
    ap (meant_over x (drop (n + 1) ds) (drop (n + 1) ss)) h
    ∙ sym (ap (λ (z : List Decl). meant_over x z (drop n ss) m) (drop_at ds n d l1 e1) ∙ ap (λ (z : List Scheme). meant_over x (d ∷ drop (n + 1) ds) z m) (drop_at ss n s l2 e2)) ∙ g

over_none : (x : Name) (ds : List Decl) (m : Meant) → meant_over x ds [] m ≡ m
over_none x [] m = refl
over_none x (d ∷ ds) m = refl

pub meant_end : (x : Name) (ds : List Decl) (ss : List Scheme) (n : ℕ) (m w : Meant) → (length ds ≤ n) ⊎ (length ss ≤ n) → meant_over x (drop n ds) (drop n ss) m ≡ w → m ≡ w
meant_end x ds ss n m w le g = ⊎_elim
    (λ l. ap (λ (z : List Decl). meant_over x z (drop n ss) m) (sym (drop_all n ds l)) ∙ g)
    (λ l. sym (over_none x (drop n ds) m) ∙ ap (λ (z : List Scheme). meant_over x (drop n ds) z m) (sym (drop_all n ss l)) ∙ g) le

pub least_of : (m n i : ℕ) → min m n ≤ i → (m ≤ i) ⊎ (n ≤ i)
least_of m n i h = ⊎_elim (λ l. inl (omega arith)) (λ l. inr (omega arith)) (cases_lt m n)

-- ---- labels with numbers

pub labels_start : (all : Fields) (ls : List Name) (ns : List ℕ) → all ≡ [] → all ++ labelled ls ns ≡ labelled ls ns
labels_start all ls ns e = ap (λ (z : Fields). z ++ labelled ls ns) e

pub labels_more : {X : Type 0} (f : X → Name) (all new : Fields) (xs : List X) (ns : List ℕ) (i : ℕ) (x y : X) (l : Name) → length ns ≡ length xs → i < length xs → x ≡ get_or xs i x → x ≡ y → l ≡ f y → new ≡ all ++ (l, slice_index_or ns i 0) ∷ []
    → all ++ labelled (map f (drop i xs)) (drop i ns) ≡ labelled (map f xs) ns → new ++ labelled (map f (drop (i + 1) xs)) (drop (i + 1) ns) ≡ labelled (map f xs) ns
labels_more {X} f all new xs ns i x y l size lt e ey el en h =
    let n = slice_index_or ns i 0 in
    let rest = labelled (map f (drop (i + 1) xs)) (drop (i + 1) ns) in
    ap (λ (z : Fields). z ++ rest) en ∙ append_assoc all ((l, n) ∷ []) rest ∙ ap (λ (z : Name). all ++ (z, n) ∷ rest) (el ∙ sym (ap f ey))
    ∙ sym (ap (λ (z : List X). all ++ labelled (map f z) (drop i ns)) (drop_at xs i x lt e) ∙ ap (λ (z : List ℕ). all ++ labelled (f x ∷ map f (drop (i + 1) xs)) z) (at_number ns i (omega arith))) ∙ h

pub labels_done : {X : Type 0} (f : X → Name) (all : Fields) (xs : List X) (ns : List ℕ) (i : ℕ) → length xs ≤ i → all ++ labelled (map f (drop i xs)) (drop i ns) ≡ labelled (map f xs) ns → all ≡ labelled (map f xs) ns
labels_done {X} f all xs ns i le h = sym (append-nil all) ∙ sym (ap (λ (z : List X). all ++ labelled (map f z) (drop i ns)) (drop_all i xs le)) ∙ h
