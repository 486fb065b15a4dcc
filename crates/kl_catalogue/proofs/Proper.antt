-- What the grammar reads has proper types.
use Rattle.std.proofs.Common.{ℕ, ◌+◌, List, [], ◌∷◌, length, All, sym, subst}
use Rattle.std.proofs.lemmas.List.Elements.{All-nil, All-cons}
use Rattle.std.specs.Prelude.{Result, Ok, Err, IfOk}
use Rattle.kl_lex.specs.declared.token.Placed.{Placed}
use Rattle.kl_type.specs.Grammar.{Reads}
use Rattle.kl_type.specs.Ground.{IsProper}
use Rattle.kl_type.proofs.Proper.{reads_proper}
use Rattle.kl_catalogue.specs.declared.reading.Entry.{Entry}
use Rattle.kl_catalogue.specs.declared.reading.CatalogueError.{CatalogueError}
use Rattle.kl_catalogue.specs.Grammar.{AnEntry, ReadsCatalogue}
use Rattle.kl_catalogue.specs.Reading.{SpellsCatalogue}

abbrev pub AreProper : List Entry → Type 0
AreProper c = All (λ (e : Entry). IsProper e.ty) c

entry_proper : (depth n : ℕ) (e : Entry) (ts : List Placed) → AnEntry (Reads depth) n e ts → IsProper e.ty
entry_proper depth n e ts (x, is, (u, v, d, o, (w, y, f, (a, b, g, called, (p, q, h, (r, s, i, colon, read), others)), semi))) =
    subst (λ (z : Entry). IsProper z.ty) (sym is) (reads_proper depth _ x.1.0 s read)

catalogue_proper : (depth : ℕ) (c : List Entry) (n : ℕ) (ts : List Placed) → ReadsCatalogue depth n c ts → AreProper c
catalogue_proper depth [] n ts h = All-nil (λ (e : Entry). IsProper e.ty)
catalogue_proper depth (e ∷ c) n ts (u, v, is, one, more) = All-cons (λ (z : Entry). IsProper z.ty) e c (entry_proper depth n e u one) (catalogue_proper depth c (n + length u) v more)

pub answers_proper : (ts : List Placed) (r : Result (List Entry) CatalogueError) → IfOk r (SpellsCatalogue ts) → IfOk r AreProper
answers_proper ts (Ok c) h = catalogue_proper 256 c 0 ts h
answers_proper ts (Err e) h = tt
