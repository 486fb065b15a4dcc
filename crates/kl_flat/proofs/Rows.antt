-- Rows of a table, from the places of the columns.
use Rattle.std.proofs.Common.{◌≡◌, ◌<◌, ◌≤◌, ◌==◌, ℕ, suc, ◌+◌, Bool, true, false, List, [], ◌∷◌, ◌++◌, map, cond, length, take, drop, get_or, nat_eq, Option, Some, None, refl, sym, ap, ◌∙◌, subst, arith, eq-eqb, add-one, eqb-true, true≢false, append-nil, append_assoc}
use Rattle.std.specs.List.{zip}
use Rattle.std.specs.Option.{option_map, MatchOption, is_some}
use Rattle.std.specs.Cmp.Lexicographic.{pointwise}
use Rattle.std.proofs.lemmas.Grind.{common_steps}
use Rattle.std.proofs.lemmas.List.{get_or-map, length-map, map-append}
use Rattle.std.proofs.lemmas.List.Folds.{list_all_at}
use Rattle.csv.specs.Records.{field_at}
use Rattle.kl_base.specs.Fields.{field}
use Rattle.kl_value.specs.declared.Value.{Value}
use Rattle.kl_value.specs.declared.Value.TheVariants as value
use Rattle.kl_type.specs.declared.ground.Ty.{Ty}
use Rattle.kl_flat.specs.Cells.{cell_value}
use Rattle.kl_flat.specs.Places.{ArePlaces}
use Rattle.kl_flat.specs.Table.{Columns, Record, all_of, first_missing, front_of, is_header, part_in, row_in, times}
use Rattle.kl_flat.proofs.Options.{all_of-none, all_of-more}
use Rattle.kl_flat.proofs.Placing.{cell_at, count_front, count_step}

-- ---- the place of a label

abbrev pub IsFound : List ℕ → Record → ℕ → Option ℕ → Type 0
IsFound l hs i found = MatchOption found (times l (take i hs) ≡ 0) (λ k. (times l (take i hs) ≡ 1) × (field_at hs k ≡ Some l))

pub found_twice : (l : List ℕ) (hs : Record) (i : ℕ) (f : List ℕ) (found : Option ℕ) → IsFound l hs i found → field_at hs i ≡ Some f → pointwise nat_eq l f ≡ true → is_some found ≡ true → times l hs ≡ 1 → ⊥
found_twice l hs i f None inv at same some once = cc
found_twice l hs i f (Some k) inv at same some once =
    let more : times l (take (suc i) hs) ≡ times l (take i hs) + 1 = subst (λ b. times l (take (suc i) hs) ≡ times l (take i hs) + cond b 1 0) same (count_step l hs i f at) in
    omega (arith, more, inv.0, count_front l hs (suc i), once)

pub found_now : (l : List ℕ) (hs : Record) (i : ℕ) (f : List ℕ) (found : Option ℕ) → IsFound l hs i found → field_at hs i ≡ Some f → pointwise nat_eq l f ≡ true → l ≡ f → is_some found ≡ false → IsFound l hs (i + 1) (Some i)
found_now l hs i f (Some k) inv at same eq some = cc
found_now l hs i f None inv at same eq some =
    let more : times l (take (suc i) hs) ≡ times l (take i hs) + 1 = subst (λ b. times l (take (suc i) hs) ≡ times l (take i hs) + cond b 1 0) same (count_step l hs i f at) in
    rw add-one (more ∙ ap (λ n. n + 1) inv, at ∙ ap Some (sym eq))

pub found_before : (l : List ℕ) (hs : Record) (i : ℕ) (f : List ℕ) (found : Option ℕ) → IsFound l hs i found → field_at hs i ≡ Some f → pointwise nat_eq l f ≡ false → IsFound l hs (i + 1) found
found_before l hs i f found inv at other = by found inv
  where
    same : times l (take (suc i) hs) ≡ times l (take i hs)
    same = let more = subst (λ b. times l (take (suc i) hs) ≡ times l (take i hs) + cond b 1 0) other (count_step l hs i f at) in omega (arith, more)

    by : (found : Option ℕ) → IsFound l hs i found → IsFound l hs (i + 1) found
    by None inv = rw add-one (same ∙ inv)
    by (Some k) inv = rw add-one (same ∙ inv.0, inv.1)

-- ---- the row that a record is

module _ (columns : Columns) (header entry : Record) (size : length entry ≡ length header) where
  abbrev part : List ℕ × Ty → Option (List ℕ × Value)
  part = part_in (zip header entry)

  pub row_of_parts : (o : Option (List (List ℕ × Value))) → all_of (map part columns) ≡ o → row_in columns header entry ≡ option_map value.Rec o
  row_of_parts o is = let e : nat_eq (length entry) (length header) ≡ true = eq-eqb (length entry) (length header) size in rw e (ap (option_map value.Rec) is)

  pub no_row : (i : ℕ) (c : List ℕ × Ty) → i < length columns → c ≡ get_or columns i c → part c ≡ None → row_in columns header entry ≡ None
  no_row i c lt is none = row_of_parts None whole
    where
      cut : columns ≡ take i columns ++ c ∷ drop (i + 1) columns
      cut = grind (arith, common_steps)

      whole : all_of (map part columns) ≡ None
      whole = ap (λ cs. all_of (map part cs)) cut ∙ ap all_of (map-append part (take i columns) (c ∷ drop (i + 1) columns)) ∙ ap (λ o. all_of (map part (take i columns) ++ o ∷ map part (drop (i + 1) columns))) none ∙ all_of-none (map part (take i columns)) _

  pub whole_row : (i : ℕ) (fs : List (List ℕ × Value)) → length columns ≤ i → all_of (map part (take i columns)) ≡ Some fs → Some (value.Rec fs) ≡ row_in columns header entry
  whole_row i fs all before = sym (row_of_parts (Some fs) (ap (λ cs. all_of (map part cs)) whole ∙ before))
    where
      whole : columns ≡ take i columns
      whole = grind (arith, common_steps)

  pub one_more : (i : ℕ) (c : List ℕ × Ty) (f : List ℕ × Value) (fs : List (List ℕ × Value)) → i < length columns → c ≡ get_or columns i c → part c ≡ Some f → all_of (map part (take i columns)) ≡ Some fs → all_of (map part (take (i + 1) columns)) ≡ Some (fs ++ f ∷ [])
  one_more i c f fs lt is some before = ap (λ cs. all_of (map part cs)) longer ∙ ap all_of (map-append part (take i columns) (c ∷ [])) ∙ ap (λ o. all_of (map part (take i columns) ++ o ∷ [])) some ∙ all_of-more (map part (take i columns)) fs f before
    where
      longer : take (i + 1) columns ≡ take i columns ++ c ∷ []
      longer = grind (arith, common_steps)

pub part_none : (cells : List (List ℕ × List ℕ)) (c : List ℕ × Ty) → field c.0 cells ≡ None → part_in cells c ≡ None
part_none cells c e = rw e refl

pub part_is : (cells : List (List ℕ × List ℕ)) (c : List ℕ × Ty) (bs : List ℕ) (o : Option Value) → field c.0 cells ≡ Some bs → cell_value bs c.1 ≡ o → part_in cells c ≡ option_map (λ v. (c.0, v)) o
part_is cells c bs o e is = rw e (ap (option_map (λ v. (c.0, v))) is)

pub cell_in : (columns : Columns) (header entry : Record) (places : List ℕ) (i : ℕ) (c : List ℕ × Ty) → ArePlaces columns header places → length entry ≡ length header → i < length columns → c ≡ get_or columns i c → field c.0 (zip header entry) ≡ field_at entry (get_or places i 0)
cell_in columns header entry places i c found size lt is = cell_at header entry c.0 (get_or places i 0) size (once (times c.0 header == 1) refl) there
  where
    there : field_at header (get_or places i 0) ≡ Some c.0
    there =
        let few : i < length places = omega (arith, lt, sym (length-map places (field_at header)) ∙ ap length found.labels ∙ length-map columns (λ (d : List ℕ × Ty). Some d.0)) in
        sym (get_or-map (field_at header) places i 0 None few) ∙ ap (λ os. get_or os i None) found.labels ∙ get_or-map (λ (d : List ℕ × Ty). Some d.0) columns i c None lt ∙ ap (λ (d : List ℕ × Ty). Some d.0) (sym is)

    once : (b : Bool) → (times c.0 header == 1) ≡ b → times c.0 header ≡ 1
    once true e = eqb-true (times c.0 header) 1 e
    once false e =
        let bad : is_header columns header ≡ false = list_all_at (λ d. times d.0 header == 1) columns i c lt (ap (λ (d : List ℕ × Ty). times d.0 header == 1) (sym is) ∙ e) in
        absurd (true≢false (sym found.once ∙ bad))

-- ---- one more record is read

module _ (read : Record → Option Value) (left after : List Record) (entry : Record) (whole : List (Option Value)) (next : left ≡ entry ∷ after) where
  pub front_then : (row : Value) (rows rows' : List Value) → read entry ≡ Some row → rows' ≡ rows ++ row ∷ [] → front_of whole ≡ rows ++ front_of (map read left) → front_of whole ≡ rows' ++ front_of (map read after)
  front_then row rows rows' is grown so_far =
      so_far ∙ ap (λ rs. rows ++ front_of (map read rs)) next ∙ ap (λ o. rows ++ front_of (o ∷ map read after)) is
      ∙ sym (append_assoc rows (row ∷ []) (front_of (map read after))) ∙ ap (λ xs. xs ++ front_of (map read after)) (sym grown)

  pub missing_then : (row : Value) (n : ℕ) → read entry ≡ Some row → first_missing 1 whole ≡ first_missing n (map read left) → first_missing 1 whole ≡ first_missing (n + 1) (map read after)
  missing_then row n is so_far = so_far ∙ ap (λ rs. first_missing n (map read rs)) next ∙ ap (λ o. first_missing n (o ∷ map read after)) is

  module _ (none : read entry ≡ None) where
    pub front_stops : (rows : List Value) → front_of whole ≡ rows ++ front_of (map read left) → rows ≡ front_of whole
    front_stops rows so_far = sym (so_far ∙ ap (λ rs. rows ++ front_of (map read rs)) next ∙ ap (λ o. rows ++ front_of (o ∷ map read after)) none ∙ append-nil rows)

    pub missing_stops : (n : ℕ) → first_missing 1 whole ≡ first_missing n (map read left) → Some n ≡ first_missing 1 whole
    missing_stops n so_far = sym (so_far ∙ ap (λ rs. first_missing n (map read rs)) next ∙ ap (λ o. first_missing n (o ∷ map read after)) none)
