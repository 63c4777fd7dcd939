-- `Record::note_sync`: that it keeps its contract, and that its result meets the clauses of its type.
use Rattle.std.proofs.lemmas.Grind.{common_steps}
use Rattle.std.proofs.Common.{◌≡◌, sym, subst, refl, arith, ℕ, List, [], Bool, length, replicate, false}
use Rattle.bench_model.specs.Kept.{all_synced}
use Rattle.bench_model.specs.Record.{Held, Recorded, HasRoom, IsMarked, after, synced, at_rest, events_of, held_now, replay}
use Rattle.bench_model.specs.declared.change.Change.TheVariants.{Synced}
use Rattle.bench_model.proofs.RecordLemmas.{events-after, replay-after, used-after, units-after, recorded}
use Rattle.bench_model.proofs.MarkLemmas.{marked_synced}
use Rattle.bench_model.proofs.record.Record.note_sync.Goals as goal

pub invariant_of-self : goal.invariant_of-self
invariant_of-self c =
    let r = c.self.inside in
    let i = c.self.invariant in
    let v = c.self.view_is in
    let f : List ℕ = c.args.file.now in
    let made = at_rest r.made_file.items r.made_cells.items in
    let h = replay (events_of r.changes.items r.handed.items) made in
    let room = subst (λ (q : Recorded). HasRoom 0 q) (sym v) c.requires.room in
    let file_is : h.kept.file ≡ f = subst (λ (q : Recorded). (held_now q).kept.file ≡ f) (sym v) c.requires.file in
    let is = replay-after r.changes.items c.push.new.changes.items Synced r.handed.items c.push.new.handed.items [] i.all refl c.push.ensures.changes
    c.push.ensures.handed made in
    record {
      all = used-after r.changes.items c.push.new.changes.items Synced r.handed.items c.push.new.handed.items [] i.all refl c.push.ensures.changes
          c.push.ensures.handed;
      units = omega (
        arith,
        i.units,
        units-after r.changes.items c.push.new.changes.items Synced r.handed.items c.push.new.handed.items [] i.all refl
            c.push.ensures.changes c.push.ensures.handed,
      );
      within = omega (arith, room);
      is_marked = subst (λ (q : Held). IsMarked q.kept c.replace.new.old.items c.unmark.new.marks.items) (sym is)
          (subst (λ (m : List Bool). IsMarked (after synced h).kept c.replace.new.old.items m) (sym c.unmark.ensures.items)
          (subst (λ (s : List ℕ). IsMarked (after synced h).kept s (replicate (length f) false)) (sym c.replace.ensures.items)
          (subst (λ (g : List ℕ). IsMarked (all_synced g) f (replicate (length f) false)) (sym file_is) (marked_synced f))));
      changes_fit = omega (arith, i.changes_fit, c.push.ensures.change_capacity);
      bytes_fit = omega (arith, i.bytes_fit, c.push.ensures.byte_capacity);
      made_fits = i.made_fits;
      synced_fits = omega (arith, i.synced_fits, c.replace.ensures.capacity);
      marks_fit = omega (arith, i.marks_fit, c.unmark.ensures.capacity);
    }

pub returns : goal.returns
returns c =
    let r = c.self.inside in
    recorded (at_rest r.made_file.items r.made_cells.items) (events_of r.changes.items r.handed.items) r.used 0 r.room r.longest
    synced (events_of c.push.new.changes.items c.push.new.handed.items) c.args.self.now
    (events-after r.changes.items c.push.new.changes.items Synced r.handed.items c.push.new.handed.items [] c.self.invariant.all refl c.push.ensures.changes
    c.push.ensures.handed)
    refl c.self.view_is

pub push-requires-clause-change_room : goal.push-requires-clause-change_room
push-requires-clause-change_room c = grind (arith, common_steps)
