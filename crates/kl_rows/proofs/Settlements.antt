-- Schemes that are settled, and their instances.
use Rattle.std.proofs.Common.{◌≡◌, ℕ, ◌<◌, Bool, true, List, [], length, Option, Some, None, slice_get, inl, inr, refl, sym, ap, ◌∙◌, subst, arith}
use Rattle.std.specs.List.{AllByRecursion}
use Rattle.std.proofs.lemmas.Option.{same_Some, slice_get_within}
use Rattle.kl_rows.specs.declared.cell.TypeNode.TheVariants.{Var}
use Rattle.kl_rows.specs.declared.cell.RowNode.TheVariants.{Front}
use Rattle.kl_rows.specs.declared.cell.Cell.{Cell}
use Rattle.kl_rows.specs.declared.cell.Cell.TheVariants.{OfType, OfRow}
use Rattle.kl_rows.specs.declared.schemes.Part.{Part}
use Rattle.kl_rows.specs.declared.schemes.Scheme.{Scheme}
use Rattle.kl_rows.specs.Lists.{Fields}
use Rattle.kl_rows.specs.Places.{Sort, a_type, a_function, a_row, a_kind, sort_at, IsTyped, Parts, IsPlaced, IsTidy, IsFine}
use Rattle.kl_rows.specs.Solutions.{Assignment, Solves}
use Rattle.kl_rows.specs.Finite.{IsOrderOf}
use Rattle.kl_rows.specs.Keeping.{Needs}
use Rattle.kl_rows.specs.Copying.{IsSettled, number_in, pulled, IsSource, IsEarlier, InOrder, kept_in, IsClosed, SameOn, Copies}
use Rattle.kl_rows.specs.Schemes.{cells_of, IsBasePart, given, Instance, IsScheme, Settles, Instantiates, Tabled, CountsTo, KeepsAll}
use Rattle.kl_rows.proofs.Assigning.{parts_on}
use Rattle.kl_rows.proofs.CellLists.{stands, sort_here, sort_within}
use Rattle.kl_rows.proofs.Growing.{grown_map, parts_within}
use Rattle.kl_rows.proofs.Ordered.{Start, started_solvable, marked_solvable}

pub empty_fine : (cells : List Cell) → cells ≡ [] → IsFine cells
empty_fine cells e = subst IsFine (sym e) (record { tidy = λ i fs r h. (let z : ⊥ = cc in absurd z); placed = λ i c h. (let z : ⊥ = cc in absurd z); ended = λ i h. (let z : ⊥ = cc in absurd z) })

empty_settled : (cells : List Cell) → cells ≡ [] → IsSettled cells
empty_settled cells e = subst IsSettled (sym e) (record { plain = λ i c h. (let z : ⊥ = cc in absurd z); before = λ i c h. (let z : ⊥ = cc in absurd z) })

pub empty_solved : (cells : List Cell) (s : Assignment) → cells ≡ [] → Solves cells s
empty_solved cells s e = subst (λ cs. Solves cs s) (sym e) (record { each = λ i c h. (let z : ⊥ = cc in absurd z) })

pub copies_settled : (kept : List Bool) (cells none table : List Cell) (numbers : List ℕ) → none ≡ [] → Copies kept cells none table numbers → IsSettled table
copies_settled kept cells none table numbers e x = x.settled (empty_settled none e)

pub root_within : (cells : List Cell) (root : ℕ) → IsTyped cells root → root < length cells
root_within cells root (inl h) = sort_within cells root a_type h
root_within cells root (inr h) = sort_within cells root a_function h

typed_as : (cells table : List Cell) (i j : ℕ) → sort_at table j ≡ sort_at cells i → IsTyped cells i → IsTyped table j
typed_as cells table i j e (inl h) = inl (e ∙ h)
typed_as cells table i j e (inr h) = inr (e ∙ h)

given_same : (q : Option Sort) (w u : Assignment) (i j : ℕ) → w.types i ≡ u.types j → w.functions i ≡ u.functions j → given q w i ≡ given q u j
given_same None w u i j h k = h
given_same (Some a_type) w u i j h k = h
given_same (Some a_function) w u i j h k = k
given_same (Some a_row) w u i j h k = h
given_same (Some a_kind) w u i j h k = h

-- a copy has what its source has
given_copied : (D : ℕ → Type 0) (cells : List Cell) (numbers : List ℕ) (w u : Assignment) (i : ℕ) → IsTyped cells i → D i → SameOn D cells numbers w u → given (sort_at cells i) w (number_in numbers i) ≡ given (sort_at cells i) u i
given_copied D cells numbers w u i (inl e) d same = ap (λ q. given q w (number_in numbers i)) e ∙ same.types i d e ∙ sym (ap (λ q. given q u i) e)
given_copied D cells numbers w u i (inr e) d same = ap (λ q. given q w (number_in numbers i)) e ∙ same.functions i d e ∙ sym (ap (λ q. given q u i) e)

-- the cell with the number of a type or of a function
record Typed (cells : List Cell) (i : ℕ) : Type 0 where
  cell : Cell
  here : slice_get cells i ≡ Some cell

typed : (cells : List Cell) (i : ℕ) → IsTyped cells i → Typed cells i
typed cells i (inl e) = let st = stands cells i a_type e in record { cell = st.cell; here = st.here }
typed cells i (inr e) = let st = stands cells i a_function e in record { cell = st.cell; here = st.here }

-- the copies of what a type needs are its scheme
module _ (cells : List Cell) (list : List ℕ) (root : ℕ) (kept : List Bool) (none table : List Cell) (numbers : List ℕ) (parts : List Part) (fine : IsFine cells) (ordered : IsOrderOf cells list) (is_root : IsTyped cells root)
    (needs : Needs cells kept root) (e : none ≡ []) (x : Copies kept cells none table numbers) (t : Tabled table parts) where
  start : (v : Assignment) → Solves table v → Start cells (kept_in kept)
  start v h = record {
    by = pulled numbers v;
    says = λ j c q k. (x.up v h).1 j c k q;
    parts = λ j c q k. (let a = needs.closed in a.parts j c q k);
    variants = λ j r q k. needs.told j (OfType (Var r)) q k;
    bares = λ j r q k. needs.told j (OfRow (Front [] r)) q k;
  }

  begun : (v : Assignment) (h : Solves table v) → ((start v h).by.types root ≡ v.types (number_in numbers root)) × ((start v h).by.functions root ≡ v.functions (number_in numbers root))
  unfolding start
  begun v h = (refl, refl)

  pub settles : (scheme : Scheme) → scheme.nodes ≡ parts → scheme.root ≡ number_in numbers root → Settles cells root scheme
  settles scheme n r =
      let settled = copies_settled kept cells none table numbers e x in
      let table_fine = x.fine in
      let same : cells_of scheme.nodes ≡ table = ap cells_of n ∙ t.same in
      let st = typed cells root is_root in
      let sorts : sort_at table (number_in numbers root) ≡ sort_at cells root = x.sorts root st.cell needs.root_in st.here ∙ sym (sort_here cells root st.cell st.here) in
      let root_sort : sort_at (cells_of scheme.nodes) scheme.root ≡ sort_at cells root = ap (λ cs. sort_at cs scheme.root) same ∙ ap (sort_at table) r ∙ sorts in
      let meets : (s : Assignment) → Solves cells s → Instance scheme (given (sort_at cells root) s root) = λ s h.
      let g = x.down s s (empty_solved none s e) (λ j c k q. h.each j c q) in
      let w = g.holds in
      record { by = g.to; solves = subst (λ cs. Solves cs g.to) (sym same) g.solves; root_is = ap (λ q. given q g.to scheme.root) root_sort ∙ ap (given (sort_at cells root) g.to) r ∙ given_copied (λ j. kept_in kept j ≡ true) cells numbers g.to s root is_root needs.root_in w } in
      record {
        good = record {
          placed = subst (λ cs. (i : ℕ) (c : Cell) → slice_get cs i ≡ Some c → IsPlaced cs i c) (sym same) table_fine.placed;
          before = subst (λ cs. (i : ℕ) (c : Cell) → slice_get cs i ≡ Some c → Parts c (λ p. p < i)) (sym same) settled.before;
          tidy = subst (λ cs. (i : ℕ) (fs : Fields) (q : ℕ) → slice_get cs i ≡ Some (OfRow (Front fs q)) → IsTidy cs fs q) (sym same) table_fine.tidy;
          bases = subst (λ ps. AllByRecursion IsBasePart ps) (sym n) t.bases;
          root_in = typed_as cells (cells_of scheme.nodes) root scheme.root root_sort is_root;
        };
        sort = root_sort;
        to = meets;
        has_one = let w = marked_solvable cells fine ordered.order ordered.is_order ordered.all in (given (sort_at cells root) w.by root, meets w.by w.solves);
        from = λ u h.
            let v = h.by in
            let solved : Solves table v = subst (λ cs. Solves cs v) same h.solves in
            let w = started_solvable cells (kept_in kept) (start v solved) fine ordered.order ordered.is_order ordered.all in
            let b = begun v solved in
            let k = w.same root needs.root_in in
            (w.by, w.solves, given_same (sort_at cells root) w.by v root (number_in numbers root) (k.0 ∙ b.0) (k.3 ∙ b.1) ∙ ap (given (sort_at cells root) v) (sym r) ∙ sym (ap (λ q. given q v scheme.root) root_sort) ∙ h.root_is);
      }

-- a scheme as a source
pub scheme_source : (scheme : Scheme) (table : List Cell) → table ≡ cells_of scheme.nodes → IsScheme scheme → IsSource table
scheme_source scheme table e g = subst IsSource (sym e) (record { placed = g.placed; tidy = g.tidy })

pub scheme_order : (scheme : Scheme) (table : List Cell) (n : ℕ) (list : List ℕ) → table ≡ cells_of scheme.nodes → n ≡ length table → IsScheme scheme → CountsTo n list → InOrder table list
scheme_order scheme table n list e m g h =
    let size = h.size in
    let is : (k i : ℕ) → slice_get list k ≡ Some i → i ≡ k = λ k i q. (let l = slice_get_within list k i q in same_Some i k (sym q ∙ h.each k (omega arith))) in
    let before : (i : ℕ) (c : Cell) → slice_get table i ≡ Some c → Parts c (λ p. p < i) = subst (λ cs. (i : ℕ) (c : Cell) → slice_get cs i ≡ Some c → Parts c (λ p. p < i)) (sym e) g.before in
    record {
      within = λ k i q. (let l = slice_get_within list k i q in let s = is k i q in omega arith);
      before = λ k i c q d. (let s = is k i q in let l = slice_get_within list k i q in parts_on c (λ p. p < i) (IsEarlier list k) (λ p b. (p, omega arith, h.each p (omega arith))) (before i c d));
      once = λ k j i q d. sym (is k i q) ∙ is j i d;
      all = λ i l. (i, h.each i (omega arith));
    }

pub all_closed : (table : List Cell) (n : ℕ) (kept : List Bool) → n ≡ length table → IsSource table → KeepsAll n kept → IsClosed table kept
all_closed table n kept m g h = record {
  parts = λ i c e k. parts_on c (λ p. p < length table) (λ p. kept_in kept p ≡ true) (λ p l. h.each p (omega arith)) (parts_within table i c (g.placed i c e));
  size = h.size ∙ m;
}

pub instantiates : (scheme : Scheme) (table old new : List Cell) (n : ℕ) (kept : List Bool) (numbers : List ℕ) (i : ℕ) → table ≡ cells_of scheme.nodes → n ≡ length table → IsScheme scheme → KeepsAll n kept → Copies kept table old new numbers
    → i ≡ number_in numbers scheme.root → Instantiates old new scheme i
instantiates scheme table old new n kept numbers i e m g h x r =
    let is_root : IsTyped table scheme.root = subst (λ cs. IsTyped cs scheme.root) (sym e) g.root_in in
    let lt = root_within table scheme.root is_root in
    let root_in : kept_in kept scheme.root ≡ true = h.each scheme.root (omega arith) in
    let st = typed table scheme.root is_root in
    let same : sort_at table scheme.root ≡ sort_at (cells_of scheme.nodes) scheme.root = ap (λ cs. sort_at cs scheme.root) e in
    let sorts : sort_at new i ≡ sort_at table scheme.root = ap (sort_at new) r ∙ x.sorts scheme.root st.cell root_in st.here ∙ sym (sort_here table scheme.root st.cell st.here) in
    record {
      fine = x.fine;
      keeps = x.keeps;
      sort = sorts ∙ same;
      up = λ s k.
          let a = x.up s k in (
            a.0,
            record {
              by = pulled numbers s;
              solves = subst (λ cs. Solves cs (pulled numbers s)) e (record { each = λ j c q. a.1 j c (let l = slice_get_within table j c q in h.each j (omega arith)) q });
              root_is = ap (λ q. given q (pulled numbers s) scheme.root) (sym (sorts ∙ same)) ∙ given_same (sort_at new i) (pulled numbers s) s scheme.root (number_in numbers scheme.root) refl refl ∙ ap (given (sort_at new i) s) (sym r);
            },
          );
      down = λ s u k q.
          let v = q.by in
          let solved : Solves table v = subst (λ cs. Solves cs v) (sym e) q.solves in
          grown_map old new s _ _ (λ w a one. ap (λ o. given o w i) sorts ∙ ap (given (sort_at table scheme.root) w) r ∙ given_copied (λ j. kept_in kept j ≡ true) table numbers w v scheme.root is_root root_in one ∙ ap (λ o. given o v scheme.root) same ∙ q.root_is) (x.down s v k (λ j c d f. solved.each j c f));
    }
