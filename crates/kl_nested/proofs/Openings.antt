-- A cursor that is opened and put behind the others, or closed again.
use Rattle.std.proofs.Common.{◌≡◌, ℕ, List, Option, Result, Ok, Err, refl, sym, ap, subst, ◌∙◌, arith, inl, inr}
use Rattle.std.proofs.lemmas.Bool.{cases_eq}
use Rattle.kl_outside.specs.Files.{FilesState}
use Rattle.kl_outside.proofs.FileLemmas.{not_open}
use Rattle.kl_ask.specs.declared.ask.Ask.{Ask}
use Rattle.kl_ask.specs.declared.ask.DriverError.{DriverError}
use Rattle.kl_ask.specs.declared.ask.DriverError.TheVariants as error
use Rattle.kl_nested.specs.Opening.{OpensLast, OpensOne, PutsLast}
use Rattle.kl_nested.specs.declared.parts.Source.{Source}
use Rattle.kl_nested.specs.declared.parts.Open.{Open}

pub opened_last : (limit : ℕ) (source : Source) (ask : Ask) (o : Open) (result : Result (Unit {0}) DriverError) (cursors cursors' : List (Option Open)) (f f1 f2 : FilesState)
    → OpensOne limit source ask (Ok o) f f1 → PutsLast o result cursors cursors' f1 f2 → OpensLast limit source ask result cursors cursors' f f2
opened_last limit source ask o (Ok done) cursors cursors' f f1 f2 opens puts =
    let same : f2 ≡ f1 = puts.put.1 in
    subst (λ f2. OpensLast limit source ask (Ok done) cursors cursors' f f2) (sym same) (record {
      told = opens.told;
      later = opens.later;
      counts = opens.counts;
      opened = (o, puts.put.0, opens.opened);
      same = tt;
      refused = record { left = tt; seen = tt; failed = λ is. absurd cc; no_other = tt };
    })
opened_last limit source ask o (Err e) cursors cursors' f f1 f2 opens puts =
    let closes = puts.refused.1 in
    let over = opens.opened in
    let wanted : e ≡ error.NoMemory = cc in
    subst (λ e. OpensLast limit source ask (Err e) cursors cursors' f f2) (sym wanted) (record {
      told = closes.told ∙ opens.told;
      later = omega (arith, opens.later, closes.faults);
      counts = closes.faults ∙ opens.counts;
      opened = tt;
      same = puts.refused.0;
      refused = record {
        left = λ k. elim (cases_eq k o.file) [ inl is ↦ ap f2.left is ∙ closes.closed ∙ sym over.free ∙ sym (ap f.left is) | inr ne ↦ closes.others k ne ∙ over.others k ne ];
        seen = λ k is. closes.seen k ∙ over.others_seen k (λ same. not_open (f.left k) (ap f.left same ∙ over.free) is);
        failed = λ is. absurd cc;
        no_other = inr refl;
      };
    })
