use Rattle.std.proofs.Common.{map}
use Rattle.kl_plan.specs.Nodes.{view}
use Rattle.kl_plan.specs.Parts.{memos_of}
use Rattle.kl_cursor.specs.Left.{snap}
use Rattle.kl_cursor.specs.Measure.{most}
use Rattle.kl_scans.specs.Keeping.{kept_in, room_in}
use Rattle.kl_engine.proofs.DrawLemmas.{Drawing, Fronts}
use Rattle.kl_engine.proofs.listing.print_items.Given as goal

abbrev pub invariant-items : goal.invariant-items
invariant-items g l =
    Drawing (view l.plan) l.fn.first
    (record {
      drivers = map (λ d. (goal.Driver-dyn g (d.vtable, d.value)).state d.value) l.initial.run.session.drivers.items;
      sources = l.initial.run.session.sources;
      settings = l.initial.run.session.settings;
      trace = l.initial.run.session.trace;
      memos = memos_of (view l.initial.run.plan.now);
      kept = kept_in l.initial.run.memo;
      room = room_in l.initial.run.memo;
    })
    l.place l.left l.cursor.env (snap l.cursor.at)
    (record {
      drivers = map (λ d. (goal.Driver-dyn g (d.vtable, d.value)).state d.value) l.run.session.drivers.items;
      sources = l.run.session.sources;
      settings = l.run.session.settings;
      trace = l.run.session.trace;
      memos = memos_of (view l.run.plan.now);
      kept = kept_in l.run.memo;
      room = room_in l.run.memo;
    })
    (Fronts (g.S.Sink.state l.initial.out) l.initial.page (g.S.Sink.state l.out) l.page)

abbrev pub decreases-items : goal.decreases-items
decreases-items g l =
    most
    (record {
      drivers = map (λ d. (goal.Driver-dyn g (d.vtable, d.value)).state d.value) l.run.session.drivers.items;
      sources = l.run.session.sources;
      settings = l.run.session.settings;
      trace = l.run.session.trace;
      memos = memos_of (view l.run.plan.now);
      kept = kept_in l.run.memo;
      room = room_in l.run.memo;
    })
    (snap l.cursor.at)
