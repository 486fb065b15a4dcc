-- Parts that are written one behind the other.
use Rattle.std.proofs.Common.{◌≡◌, ℕ, ◌+◌, ◌<◌, length, get_or, List, ◌∷◌, ◌++◌, drop, Ok, Err, sym, ap, subst, ◌∙◌, append_assoc}
use Rattle.std.specs.List.{flat_map}
use Rattle.std.proofs.lemmas.List.{drop_more}
use Rattle.kl_outside.specs.Sinks.{SinkState, WritesWhole}
use Rattle.kl_outside.specs.declared.Stop.{Stop}
use Rattle.kl_outside.proofs.SinkLemmas.{writes_then, writes_stopped}

module _ {X : Type 0} (f : X → List ℕ) (parts : List X) (s : SinkState) where
  -- the bytes before those of the parts that are left
  pub record Written (left : List X) (t : SinkState) : Type 0 where
    pub done : List ℕ
    pub all : flat_map f parts ≡ done ++ flat_map f left
    pub wrote : WritesWhole {T = Unit {0}} done (Ok tt) s t

  part_written : (left rest : List X) (x : X) (t u : SinkState) (ok : Unit {0}) → left ≡ x ∷ rest → Written left t → WritesWhole (f x) (Ok ok) t u → Written rest u
  part_written left rest x t u ok here w p = record {
    done = w.done ++ f x;
    all = w.all ∙ ap (λ ys. w.done ++ flat_map f ys) here ∙ sym (append_assoc w.done (f x) (flat_map f rest));
    wrote = writes_then w.done (f x) tt (Ok ok) s t u w.wrote p;
  }

  part_refused : (left rest : List X) (x : X) (t u : SinkState) (e : Stop) → left ≡ x ∷ rest → Written left t → WritesWhole {T = Unit {0}} (f x) (Err e) t u → WritesWhole {T = Unit {0}} (flat_map f parts) (Err e) s u
  part_refused left rest x t u e here w p =
      subst (λ bytes. WritesWhole {T = Unit {0}} bytes (Err e) s u) (sym (w.all ∙ ap (λ ys. w.done ++ flat_map f ys) here ∙ sym (append_assoc w.done (f x) (flat_map f rest))))
      (writes_stopped (w.done ++ f x) (flat_map f rest) e s u (writes_then w.done (f x) tt (Err e) s t u w.wrote p))

  pub written_at : (i : ℕ) (x : X) (t u : SinkState) → i < length parts → Written (drop i parts) t → WritesWhole {T = Unit {0}} (f (get_or parts i x)) (Ok tt) t u → Written (drop (i + 1) parts) u
  written_at i x t u less w p = part_written (drop i parts) (drop (i + 1) parts) (get_or parts i x) t u tt (drop_more parts i x less) w p

  pub refused_at : (i : ℕ) (x : X) (e : Stop) (t u : SinkState) → i < length parts → Written (drop i parts) t → WritesWhole {T = Unit {0}} (f (get_or parts i x)) (Err e) t u → WritesWhole {T = Unit {0}} (flat_map f parts) (Err e) s u
  refused_at i x e t u less w p = part_refused (drop i parts) (drop (i + 1) parts) (get_or parts i x) t u e (drop_more parts i x less) w p
