-- `==` on entries of catalogues is equality.
use Rattle.std.proofs.Common.{◌≡◌, ◌&&◌, List, Decides, true, false, nat_eq, refl, sym, ap, ◌∙◌}
use Rattle.std.specs.Cmp.Lexicographic.{pointwise}
use Rattle.std.proofs.lemmas.Bool.Decides.{Decides-and, Decides-like}
use Rattle.std.proofs.lemmas.Slice.Eq.{bytes_eq-Decides, slice_eq-Decides}
use Rattle.kl_catalogue.specs.contracts.reading.EntryPartialEq.TheImpl as entries
use Rattle.kl_catalogue.specs.declared.reading.Entry.{Entry}
use Rattle.kl_nested.proofs.SameTypes.{same_type}
use Rattle.kl_type.specs.contracts.ground.TyPartialEq.TheImpl as types

same_entry : (a b : Entry) → Decides (entries.ghosts.eq a b) (a ≡ b)
same_entry a b =
    let found = Decides-and (pointwise nat_eq a.driver b.driver) (pointwise nat_eq a.locator b.locator) (bytes_eq-Decides a.driver b.driver) (bytes_eq-Decides a.locator b.locator) in
    let typed = Decides-and (types.ghosts.eq a.ty b.ty) (pointwise nat_eq a.driver b.driver && pointwise nat_eq a.locator b.locator) (same_type a.ty b.ty) found in
    let all = Decides-and (pointwise nat_eq a.name b.name) (types.ghosts.eq a.ty b.ty && (pointwise nat_eq a.driver b.driver && pointwise nat_eq a.locator b.locator)) (bytes_eq-Decides a.name b.name) typed in
    Decides-like (entries.ghosts.eq a b) (λ h i. record { name = h.0 i; ty = h.1.0 i; driver = h.1.1.0 i; locator = h.1.1.1 i })
    (λ e. (ap (λ (t : Entry). t.name) e, (ap (λ (t : Entry). t.ty) e, (ap (λ (t : Entry). t.driver) e, ap (λ (t : Entry). t.locator) e)))) all

pub same_entries : (es fs : List Entry) → pointwise entries.ghosts.eq es fs ≡ true → es ≡ fs
same_entries es fs h = (slice_eq-Decides same_entry es fs (pointwise entries.ghosts.eq es fs) refl).0 h

true_false : true ≡ false → ⊥
true_false h = cc

pub other_entries : (es fs : List Entry) → pointwise entries.ghosts.eq es fs ≡ false → es ≡ fs → ⊥
other_entries es fs h e = true_false (sym ((slice_eq-Decides same_entry es fs (pointwise entries.ghosts.eq es fs) refl).1 e) ∙ h)
