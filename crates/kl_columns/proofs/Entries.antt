-- One more entry behind others.
use Rattle.std.proofs.Common.{◌≡◌, ◌<◌, ◌+◌, ℕ, Bool, false, List, [], ◌∷◌, ◌++◌, length, get_or, map, take, sym, subst, ◌∙◌, append-nil, append_assoc}
use Rattle.std.proofs.lemmas.List.{take_more}
use Rattle.kl_type.specs.declared.ground.Ty.{Ty}
use Rattle.kl_catalogue.specs.declared.reading.Entry.{Entry}
use Rattle.kl_sources.specs.Sources.{is_taken}
use Rattle.kl_columns.specs.Listing.{AreFree, HasType, IsEntryFor, ListAll, ListEach, Lists, Told}

each_push : (sql : Bool) (told : Told) (ps : List (List ℕ)) (es : List Entry) (p : List ℕ) (e : Entry) → ListEach sql told ps es → Lists sql told p e → ListEach sql told (ps ++ p ∷ []) (es ++ e ∷ [])
each_push sql told [] [] p e all one = (one, tt)
each_push sql told (q ∷ ps) (f ∷ es) p e all one = (all.0, each_push sql told ps es p e all.1 one)
each_push sql told [] (f ∷ es) p e all one = absurd all
each_push sql told (q ∷ ps) [] p e all one = absurd all

free_push : (before : List (List ℕ)) (es : List Entry) (e : Entry) → AreFree before es → is_taken (before ++ map (λ f. f.name) es) e.name ≡ false → AreFree before (es ++ e ∷ [])
free_push before [] e all one = (subst (λ names. is_taken names e.name ≡ false) (append-nil before) one, tt)
free_push before (f ∷ es) e all one =
    (all.0, free_push (before ++ f.name ∷ []) es e all.1 (subst (λ names. is_taken names e.name ≡ false) (sym (append_assoc before (f.name ∷ []) (map (λ g. g.name) es))) one))

-- the entry of the file of this place
pub lists_more : (sql : Bool) (told : Told) (paths : List (List ℕ)) (i : ℕ) (path : List ℕ) (entries : List Entry) (ty : Ty) (entry : Entry)
    → i < length paths → path ≡ get_or paths i path → ListAll sql told (take i paths) entries → IsEntryFor entries sql path ty entry → HasType sql told path ty
    → ListAll sql told (take (i + 1) paths) (entries ++ entry ∷ [])
lists_more sql told paths i path entries ty entry less at all one has =
    let longer : take i paths ++ path ∷ [] ≡ take (i + 1) paths = (λ j. take i paths ++ at j ∷ []) ∙ sym (take_more paths i path less) in
    record {
      each = subst (λ ps. ListEach sql told ps (entries ++ entry ∷ [])) longer (each_push sql told (take i paths) entries path entry all.each (record {
        locator = one.locator;
        driver = one.driver told;
        ty = subst (HasType sql told path) (sym one.ty_is) has;
      }));
      named = free_push [] entries entry all.named one.named;
    }
