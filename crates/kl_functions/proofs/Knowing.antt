-- What is known of the definitions of a program, one after another.
use Rattle.std.proofs.Common.{◌≡◌, ℕ, ◌+◌, ◌<◌, ◌≤◌, List, [], ◌∷◌, ◌++◌, take, length, get_or, sym, ap, ◌∙◌, subst, append_assoc, append-nil, add-one}
use Rattle.std.proofs.Math.Seq.{take-suc}
use Rattle.std.proofs.lemmas.List.{take_all}
use Rattle.kl_outcome.specs.Outcome.{Name}
use Rattle.kl_syntax.specs.declared.tree.Decl.{Decl}
use Rattle.kl_functions.specs.declared.functions.Known.{Known}
use Rattle.kl_functions.specs.Known.{IsKnownAs, AreKnown}

known_more : (sources : List Name) (b ks : List Known) (ds : List Decl) (k : Known) (d : Decl) → AreKnown sources b ks ds → IsKnownAs sources (b ++ ks) k d → AreKnown sources b (ks ++ k ∷ []) (ds ++ d ∷ [])
known_more sources b [] [] k d h i = (subst (λ (z : List Known). IsKnownAs sources z k d) (append-nil b) i, tt)
known_more sources b (x ∷ ks) (y ∷ ds) k d h i =
    (h.0, known_more sources (b ++ x ∷ []) ks ds k d h.1 (subst (λ (z : List Known). IsKnownAs sources z k d) (sym (append_assoc b (x ∷ []) ks)) i))
known_more sources b [] (y ∷ ds) k d h i = absurd h
known_more sources b (x ∷ ks) [] k d h i = absurd h

pub known_next : (sources : List Name) (ks : List Known) (ds : List Decl) (i : ℕ) (k : Known) (d : Decl) → i < length ds → d ≡ get_or ds i d → AreKnown sources [] ks (take i ds) → IsKnownAs sources ks k d
    → AreKnown sources [] (ks ++ k ∷ []) (take (i + 1) ds)
known_next sources ks ds i k d lt at h is =
    let more : take (i + 1) ds ≡ take i ds ++ d ∷ [] = rw add-one (take-suc ds i d lt ∙ ap (λ (z : Decl). take i ds ++ z ∷ []) (sym at)) in
    subst (λ (z : List Decl). AreKnown sources [] (ks ++ k ∷ []) z) (sym more) (known_more sources [] ks (take i ds) k d h is)

pub known_all : (sources : List Name) (ks : List Known) (ds all : List Decl) (i : ℕ) → length ds ≤ i → ds ≡ all → AreKnown sources [] ks (take i ds) → AreKnown sources [] ks all
known_all sources ks ds all i le e h = subst (λ (z : List Decl). AreKnown sources [] ks z) (take_all i ds le ∙ e) h
