-- `Record::note`: that it keeps its contract, and that its result meets the clauses of its type.
use Rattle.std.proofs.lemmas.Grind.{common_steps}
use Rattle.std.proofs.Common.{sym, subst, arith, ℕ, List, Bool, length}
use Rattle.bench_model.specs.Record.{Held, Recorded, CanMark, HasRoom, IsMarked, after, at_rest, event_of, events_of, held_now, replay}
use Rattle.bench_model.proofs.RecordLemmas.{events-after, replay-after, used-after, units-after, recorded, handed_of-event_of}
use Rattle.bench_model.proofs.MarkLemmas.{marked_after}
use Rattle.bench_model.proofs.record.Record.note.Goals as goal

pub invariant_of-self : goal.invariant_of-self
invariant_of-self c =
    let r = c.self.inside in
    let i = c.self.invariant in
    let v = c.self.view_is in
    let bs : List ℕ = c.args.bytes.now in
    let made = at_rest r.made_file.items r.made_cells.items in
    let h = replay (events_of r.changes.items r.handed.items) made in
    let fits = subst (λ (q : Recorded). CanMark c.args.change (held_now q).kept.greatest q.longest) (sym v) c.requires.marks in
    let can = subst (λ (n : ℕ). CanMark c.args.change n r.longest) (sym i.is_marked.long) fits in
    let room = subst (λ (q : Recorded). HasRoom (length bs) q) (sym v) c.requires.room in
    let marks = marked_after h r.synced.items r.marks.items r.longest c.args.change bs i.is_marked c.requires.handed can in
    let is = replay-after r.changes.items c.push.new.changes.items c.args.change r.handed.items c.push.new.handed.items bs i.all c.requires.handed
    c.push.ensures.changes c.push.ensures.handed made in
    record {
      all = used-after r.changes.items c.push.new.changes.items c.args.change r.handed.items c.push.new.handed.items bs i.all c.requires.handed
          c.push.ensures.changes c.push.ensures.handed;
      units = omega (
        arith,
        i.units,
        units-after r.changes.items c.push.new.changes.items c.args.change r.handed.items c.push.new.handed.items bs i.all
            c.requires.handed c.push.ensures.changes c.push.ensures.handed,
      );
      within = omega (arith, room);
      is_marked = subst (λ (q : Held). IsMarked q.kept r.synced.items c.mark_by.new.marks.items) (sym is)
          (subst (λ (m : List Bool). IsMarked (after (event_of c.args.change bs) h).kept r.synced.items m) (sym c.mark_by.ensures.items) marks);
      changes_fit = omega (arith, i.changes_fit, c.push.ensures.change_capacity);
      bytes_fit = omega (arith, i.bytes_fit, c.push.ensures.byte_capacity);
      made_fits = i.made_fits;
      synced_fits = i.synced_fits;
      marks_fit = omega (arith, i.marks_fit, c.mark_by.ensures.capacity);
    }

pub returns : goal.returns
returns c =
    let r = c.self.inside in
    recorded (at_rest r.made_file.items r.made_cells.items) (events_of r.changes.items r.handed.items) r.used (length c.args.bytes.now) r.room r.longest
    (event_of c.args.change c.args.bytes.now) (events_of c.push.new.changes.items c.push.new.handed.items) c.args.self.now
    (events-after r.changes.items c.push.new.changes.items c.args.change r.handed.items c.push.new.handed.items c.args.bytes.now c.self.invariant.all
    c.requires.handed c.push.ensures.changes c.push.ensures.handed)
    (handed_of-event_of c.args.change c.args.bytes.now c.requires.handed)
    c.self.view_is

pub mark_by-requires-clause-can : goal.mark_by-requires-clause-can
mark_by-requires-clause-can c = grind (arith, common_steps)

pub push-requires-clause-change_room : goal.push-requires-clause-change_room
push-requires-clause-change_room c = grind (arith, common_steps)
