-- What every verdict on a text keeps to.
use Rattle.std.proofs.Common.{◌≡◌, ◌⊎◌, inl, inr, ℕ, nat_lt, Bool, true, false, if◌then◌else◌, List, [], ◌∷◌, length, Option, Some, None, refl, sym, subst}
use Rattle.std.specs.Bool.{⊤}
use Rattle.kl_value.specs.declared.Value.{Value}
use Rattle.kl_value.specs.declared.Value.TheVariants as value
use Rattle.kl_type.specs.Ground.{Ground}
use Rattle.kl_outcome.specs.Outcome.{Name, Outcome, done, over, stuck}
use Rattle.kl_rows.specs.declared.Scheme.{Scheme}
use Rattle.kl_syntax.specs.Syntax.{Exp, Decls}
use Rattle.kl_scope.specs.Sizes.{declared}
use Rattle.kl_meaning.specs.Run.{meaning_of_program}
use Rattle.kl_meaning.specs.Typing.{HasTyping}
use Rattle.kl_infer.specs.Numbers.{limit}
use Rattle.kl_infer.specs.Printed.{scheme_text}
use Rattle.kl_ask.specs.Driver.{DriverKind, Stored, Missing, Bad, Long, Deep, Rows}
use Rattle.kl_sources.specs.Sources.{names_of, grounds_of}
use Rattle.kl_sources.specs.declared.source.Source.{Source}
use Rattle.kl_engine.specs.Answering.{IsOneOf, HasTextFault, IsTyping, EndsSilent}
use Rattle.kl_engine.specs.Faults.{Ending}
use Rattle.kl_engine.specs.Reading.{definitions, last}
use Rattle.kl_engine.specs.Verdict.{Verdict, well, refused, size_fault, AfterSizes, IsSized, IsUntyped, behind, named_schemes, scheme_line, scheme_lines, IsExplained, IsListing, first_of, suffice, value_page, overflowing, cut_list, stored_fault, IsOutcome, IsMeant, IsScopedVerdict, IsTextVerdict}
use Rattle.kl_engine.specs.declared.fault.Fault.{Fault}
use Rattle.kl_engine.specs.declared.fault.Fault.TheVariants as fault
use Rattle.kl_engine.specs.declared.top.Purpose.{Purpose}
use Rattle.kl_engine.specs.declared.top.Purpose.TheVariants as purpose
use Rattle.kl_engine.proofs.ReadLemmas.{any_fault}
use Rattle.kl_engine.proofs.SizeLemmas.{sized_faults}

-- no verdict is a fault of writing, a drift or want of memory
abbrev pub IsOfVerdict : Ending → Type 0
IsOfVerdict None = ⊤
IsOfVerdict (Some fault.Write) = ⊥
IsOfVerdict (Some (fault.Changed name)) = ⊥
IsOfVerdict (Some fault.NoMemory) = ⊥
IsOfVerdict (Some f) = ⊤

-- Its end is one that a verdict may have, and is a fault of its purpose; before each fault but two nothing is printed.
pub record Fair (p : Purpose) (v : Verdict) : Type 0 where
  pub told : IsOfVerdict v.ending
  pub has : IsOneOf (HasTextFault p) v.ending
  pub empty : EndsSilent v.ending → v.page ≡ []

fair_at : (p : Purpose) (v w : Verdict) → v ≡ w → Fair p w → Fair p v
fair_at p v w same fair = subst (Fair p) (sym same) fair

fair_fault : (p : Purpose) (f : Fault) → IsOfVerdict (Some f) → HasTextFault p f → Fair p (refused f)
fair_fault p f told has = record { told = told; has = has; empty = λ is. refl }

fair_well : (p : Purpose) (page : List ℕ) → Fair p (well page)
fair_well p page = record { told = tt; has = tt; empty = λ is. absurd is }

-- a purpose that looks at types
module _ (p : Purpose) (typing : IsTyping p) (ds : Decls) (e : Exp) where
  fair_untyped : (grounds : List (Name × Ground)) (v : Verdict) → IsUntyped grounds ds e v → Fair p v
  fair_untyped grounds v (n, ill, is) = fair_at p v (refused (fault.IllTyped n)) is (fair_fault p (fault.IllTyped n) tt typing)

  fair_after : (Goes : Verdict → Type 0) → ((v : Verdict) → Goes v → Fair p v) → (v : Verdict) → IsSized ds e Goes v → Fair p v
  fair_after Goes fair v is = pick (size_fault (declared ds e [])) refl is
    where
      pick : (size : Option Fault) → size_fault (declared ds e []) ≡ size → AfterSizes size Goes v → Fair p v
      pick (Some f) at same = fair_at p v (refused f) same (sized_faults (λ g. Fair p (refused g)) (fair_fault p fault.TermNodes tt typing) (fair_fault p fault.TermDepth tt typing) (declared ds e []) f at)
      pick None at goes = fair v goes

ends_at : (long : Bool) (d : Name × Scheme) (v : Verdict) (f : Fault) → (v.ending ≡ Some f → EndsSilent (Some f) → ⊥)
    → (if long then refused fault.SchemeBytes else behind (scheme_line d) v).ending ≡ Some f → EndsSilent (Some f) → ⊥
ends_at true d v f more is before = let same : Some f ≡ Some fault.SchemeBytes = sym is in subst EndsSilent same before
ends_at false d v f more is before = more is before

line_ends : (ds : List (Name × Scheme)) (f : Fault) → (scheme_lines ds).ending ≡ Some f → EndsSilent (Some f) → ⊥
line_ends [] f is before = absurd cc
line_ends (d ∷ ds) f is before = ends_at (nat_lt limit (length (scheme_text d.1))) d (scheme_lines ds) f (line_ends ds f) is before

fair_behind : (front : List ℕ) (v : Verdict) (end : Ending) → v.ending ≡ end → ((f : Fault) → v.ending ≡ Some f → EndsSilent (Some f) → ⊥) → Fair purpose.Types v → Fair purpose.Types (behind front v)
fair_behind front v None at ends fair = record { told = fair.told; has = fair.has; empty = λ is. absurd (subst EndsSilent at is) }
fair_behind front v (Some f) at ends fair = record { told = fair.told; has = fair.has; empty = λ is. absurd (ends f at (subst EndsSilent at is)) }

fair_line : (long : Bool) (d : Name × Scheme) (v : Verdict) → ((f : Fault) → v.ending ≡ Some f → EndsSilent (Some f) → ⊥) → Fair purpose.Types v
    → Fair purpose.Types (if long then refused fault.SchemeBytes else behind (scheme_line d) v)
fair_line true d v ends fair = record { told = tt; has = refl; empty = λ is. refl }
fair_line false d v ends fair = fair_behind (scheme_line d) v v.ending refl ends fair

fair_lines : (ds : List (Name × Scheme)) → Fair purpose.Types (scheme_lines ds)
fair_lines [] = fair_well purpose.Types []
fair_lines (d ∷ ds) = fair_line (nat_lt limit (length (scheme_text d.1))) d (scheme_lines ds) (line_ends ds) (fair_lines ds)

pub fair_cut : (first : Option ℕ) (enough : Bool) (xs : List Value) → Fair (purpose.Run first) (if enough then value_page (value.List (first_of first xs)) else overflowing xs)
fair_cut first true xs = fair_well (purpose.Run first) _
fair_cut first false xs = record { told = tt; has = tt; empty = λ before. absurd before }

fair_outcome : (grounds : List (Name × Ground)) (first : Option ℕ) (ds : Decls) (e : Exp) (o : Outcome) (v : Verdict) → IsOutcome grounds first ds e o v → Fair (purpose.Run first) v
fair_outcome grounds first ds e (done x) v is = fair_at (purpose.Run first) v _ is (fair_well (purpose.Run first) _)
fair_outcome grounds first ds e (over xs) v (inl (list, is)) = fair_at (purpose.Run first) v (cut_list first xs) is (fair_cut first (suffice first xs) xs)
fair_outcome grounds first ds e (over xs) v (inr (none, is)) = fair_at (purpose.Run first) v (refused fault.Overflow) is (fair_fault (purpose.Run first) fault.Overflow tt tt)
fair_outcome grounds first ds e stuck v is = absurd is

fair_stored : (first : Option ℕ) (name : Name) (w : Stored) (f : Fault) → stored_fault name w ≡ Some f → Fair (purpose.Run first) (refused f)
fair_stored first name Missing f is = let same : fault.Read ≡ f = cc in subst (λ g. Fair (purpose.Run first) (refused g)) same (fair_fault (purpose.Run first) fault.Read tt tt)
fair_stored first name (Bad place) f is = let same : fault.BadSource name place ≡ f = cc in subst (λ g. Fair (purpose.Run first) (refused g)) same (fair_fault (purpose.Run first) (fault.BadSource name place) tt tt)
fair_stored first name (Long most) f is = let same : fault.FileBytes ≡ f = cc in subst (λ g. Fair (purpose.Run first) (refused g)) same (fair_fault (purpose.Run first) fault.FileBytes tt tt)
fair_stored first name (Deep place) f is = let same : fault.ItemNesting ≡ f = cc in subst (λ g. Fair (purpose.Run first) (refused g)) same (fair_fault (purpose.Run first) fault.ItemNesting tt tt)
fair_stored first name (Rows rows) f is = absurd cc

module _ (ks : List DriverKind) (ss : List Source) (marks : ℕ → Bool) (ds : Decls) (e : Exp) where
  fair_meant : (first : Option ℕ) (v : Verdict) → IsMeant ks ss marks first ds e v → Fair (purpose.Run first) v
  fair_meant first v (inl (s, w, f, at, is, eq)) = fair_at (purpose.Run first) v (refused f) eq (fair_stored first s.name w f is)
  fair_meant first v (inr (vs, values, is)) = fair_outcome (grounds_of ss) first ds e (meaning_of_program ds e vs) v is

  pub fair_done : (p : Purpose) (v : Verdict) → IsScopedVerdict ks ss marks p ds e v → Fair p v
  fair_done purpose.Check v is = fair_at purpose.Check v _ is (fair_well purpose.Check _)
  fair_done purpose.Types v is =
      fair_after purpose.Types tt ds e (λ w. IsUntyped (grounds_of ss) ds e w ⊎ IsListing (grounds_of ss) ds e w)
      (λ w goes. elim goes [ inl h ↦ fair_untyped purpose.Types tt ds e (grounds_of ss) w h | inr h ↦ fair_at purpose.Types w _ h.2 (fair_lines (named_schemes ds h.0)) ]) v is
  fair_done (purpose.Explain settings) v is =
      fair_after (purpose.Explain settings) tt ds e (λ w. IsUntyped (grounds_of ss) ds e w ⊎ (HasTyping ds e (grounds_of ss) × IsExplained ks ss settings ds e w))
      (λ w goes. elim goes [ inl h ↦ fair_untyped (purpose.Explain settings) tt ds e (grounds_of ss) w h | inr h ↦ fair_at (purpose.Explain settings) w _ h.1.2 (fair_well (purpose.Explain settings) _) ]) v is
  fair_done (purpose.Run first) v is =
      fair_after (purpose.Run first) tt ds e (λ w. IsUntyped (grounds_of ss) ds e w ⊎ (HasTyping ds e (grounds_of ss) × IsMeant ks ss marks first ds e w))
      (λ w goes. elim goes [ inl h ↦ fair_untyped (purpose.Run first) tt ds e (grounds_of ss) w h | inr h ↦ fair_meant first w h.1 ]) v is

pub fair_text : (ks : List DriverKind) (ss : List Source) (p : Purpose) (bytes : List ℕ) (v : Verdict) → IsTextVerdict ks ss p bytes v → Fair p v
fair_text ks ss p bytes v (inl (f, of, is)) = fair_at p v (refused f) is (any_fault (λ g. Fair p (refused g)) (λ w byte. fair_fault p (fault.Text w byte) tt tt) (fair_fault p fault.Nesting tt tt) (names_of ss) bytes f of)
fair_text ks ss p bytes v (inr (q, marks, whole, told, is)) = fair_done ks ss marks (definitions (names_of ss) q) (last (names_of ss) q) p v is
