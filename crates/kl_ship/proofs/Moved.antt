-- A loop that leaves nothing to its source, whose body and source are exchanged for others of which the same is seen.
use Rattle.std.proofs.Common.{◌≡◌, inl, inr, ⊎_elim, List, [], ◌∷◌, refl, sym, subst, ◌∙◌}
use Rattle.std.specs.List.{AllByRecursion}
use Rattle.kl_value.specs.declared.Kind.{Kind}
use Rattle.kl_outcome.specs.Outcome.{Name}
use Rattle.kl_plan.specs.declared.plan.Scan.{Scan}
use Rattle.kl_plan.specs.Erased.{erased}
use Rattle.kl_plan.specs.Nodes as node
use Rattle.kl_plan.specs.Nodes.{Node}
use Rattle.kl_joins.specs.Numbered.{SameScan}
use Rattle.kl_ship.specs.declared.source.ShipSource.{ShipSource}
use Rattle.kl_ship.specs.Delegation.{whole_use, column_use, taken}
use Rattle.kl_ship.specs.Full.{Shows, IsUsed, IsReading, IsLoopOver, IsFull, IsFullAt}
use Rattle.kl_ship.proofs.Sight.{SameSight}

pub same_scan : (c : Scan) → SameScan c c
same_scan c = record { driver = refl; source = refl; ask = refl; kind = refl }

-- a scan like this one
abbrev pub HasLike : (Scan → Type 0) → Scan → Type 0
HasLike P d = (e : Scan) × P e × SameScan e d

-- of the second body nothing more is seen that a driver could do than of the first
pub record Moves (k : Kind) (b c : Node) : Type 0 where
  pub whole : whole_use 0 (erased c) ≡ whole_use 0 (erased b)
  pub column : (l : Name) → column_use 0 l (erased c) ≡ column_use 0 l (erased b)
  pub tests : taken k 1 (erased b) ≡ [] → taken k 1 (erased c) ≡ []
  pub loops : (d : Scan) → IsLoopOver k d c → HasLike (λ e. IsLoopOver k e b) d

pub moves_by : (k : Kind) (b c : Node) → SameSight (erased b) (erased c)
    → ((d : Scan) → IsLoopOver k d c → HasLike (λ e. IsLoopOver k e b) d) → Moves k b c
moves_by k b c s loops = record { whole = s.tree.whole 0; column = λ l. s.tree.column 0 l; tests = λ h. s.front k ∙ h; loops = loops }

module _ (k : Kind) (b c : Node) (m : Moves k b c) where
  used_moved : (ls : List Name) → AllByRecursion (IsUsed b) ls → AllByRecursion (IsUsed c) ls
  used_moved [] h = tt
  used_moved (l ∷ ls) h = (⊎_elim (λ u. inl (m.whole ∙ u)) (λ u. inr (m.column l ∙ u)) h.0, used_moved ls h.1)

  is_full_moved : (s : ShipSource) (d e : Scan) → SameScan d e → IsFull s k b d → IsFull s k c e
  is_full_moved s d e same h = record {
    tests = λ select. m.tests (h.tests select);
    columns = λ project kind ls shows.
        ⊎_elim (λ all. inl (used_moved ls all)) (λ few. inr few)
        (h.columns project (same.kind ∙ kind) ls (subst (λ a. Shows a ls) (sym same.ask) shows));
    loops = λ join kind x over driver other.
        let y = m.loops x over in
        h.loops join (same.kind ∙ kind) y.0 y.1 (y.2.driver ∙ driver ∙ sym same.driver) (y.2.kind ∙ other);
  }

  module _ (ss : List ShipSource) where
    pub scan_moved : (d e : Scan) → SameScan d e → IsFullAt ss k b (node.Scan d) → IsFullAt ss k c (node.Scan e)
    scan_moved d e same h i s listed driver name =
        is_full_moved s d e same (h i s listed (driver ∙ sym same.driver) (name ∙ sym same.source))

    at_reading : (p : Node) → IsFullAt ss k b p → (d : Scan) → IsReading d p → IsFullAt ss k b (node.Scan d)
    at_reading (node.Scan e) h d r = subst (λ x. IsFullAt ss k b (node.Scan x)) r h
    at_reading (node.Memo n frees p) h d r = at_reading p h d r
    at_reading p h d r = absurd r

    each_reading : (p : Node) → ((d : Scan) → IsReading d p → IsFullAt ss k c (node.Scan d)) → IsFullAt ss k c p
    each_reading (node.Scan e) h = h e refl
    each_reading (node.Memo n frees p) h = each_reading p h
    each_reading p h = tt

    pub source_moved : (p q : Node) → ((d : Scan) → IsReading d q → HasLike (λ e. IsReading e p) d) → IsFullAt ss k b p → IsFullAt ss k c q
    source_moved p q like h = each_reading q (λ d r. let e = like d r in scan_moved e.0 d e.2 (at_reading p h e.0 e.1))
