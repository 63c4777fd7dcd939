-- `Player::prepare`: its clauses `turns`, `host` and `one`.
use Rattle.std.proofs.Common.{◌∙◌, ℕ, List, length, refl, ap}
use Rattle.flash_session.proofs.ReadLemmas.{kept_items}
use Rattle.flash_session.proofs.TakesLemmas.{prepares_so, unread_so}
use Rattle.flash_session.proofs.TurnMade.{ready_turn, prepare_unread}
use Rattle.flash_session.specs.Targets.{goal_for}
use Rattle.flash_session.proofs.player.Player.prepare.Goals as goal

pub returns-in-Ok-clause-turns : goal.returns-in-Ok-clause-turns
returns-in-Ok-clause-turns g c =
    ready_turn g.B.Bench.tells (goal_for c.args.job.now c.args.self.now (g.B.Bench.state c.args.bench.now).file) c.args.self.now c.args.arena.now
    (g.B.Bench.state c.args.bench.now) c.requires.fit c.args.cursor c.requires.place c.args.call c.args.from c.args.len c.args.next c.requires.step
    (g.B.Bench.state c.prepare_from.new.bench) c.prepare_from.ensures.reads
    (λ told x. g.met.B.Bench.as_told c.args.bench.now x told) _ c.prepare_from.new.arena c.in-Ok.left c.in-Ok.ensures.prepares
    (kept_items c.args.self.now.page.len c.prepare_from.new.page c.args.self.now.page.items c.args.self.now.page.ok.0
    (c.prepare_from.ensures.long ∙ ap (λ (l : List ℕ). length l) c.deref_mut.ensures.value)) refl (c.in-Ok.ensures.cause.on_ok refl)

pub returns-in-Err-clause-turns : goal.returns-in-Err-clause-turns
returns-in-Err-clause-turns g c =
    prepare_unread g.B.Bench.tells (goal_for c.args.job.now c.args.self.now (g.B.Bench.state c.args.bench.now).file) c.args.self.now c.args.arena.now
    (g.B.Bench.state c.args.bench.now) c.requires.fit c.args.cursor c.requires.place c.args.call c.args.from c.args.len c.args.next c.requires.step
    (g.B.Bench.state c.prepare_from.new.bench) c.prepare_from.ensures.reads
    (λ told x. g.met.B.Bench.as_told c.args.bench.now x told) _ c.prepare_from.new.arena c.in-Err.ensures.prepares
    (kept_items c.args.self.now.page.len c.prepare_from.new.page c.args.self.now.page.items c.args.self.now.page.ok.0
    (c.prepare_from.ensures.long ∙ ap (λ (l : List ℕ). length l) c.deref_mut.ensures.value)) refl
    c.in-Err.ensures.cause.later (c.in-Err.ensures.cause.on_fault refl)

pub returns-in-Ok-clause-host : goal.returns-in-Ok-clause-host
returns-in-Ok-clause-host g c =
    let prepared = c.in-Ok.ensures.prepares in
    let cells = c.prepare_from.ensures.reads.cells in
    record {
      made = refl;
      next = (
        record {
          from = c.args.from;
          comes = c.requires.step;
          fuel = prepared.fuel;
          bytes = prepared.bytes;
          long = prepared.long;
          are = prepared.are;
          first =
              prepared.first;
        },
        λ told. record { operation = cells.operation; cells = cells.cells },
      );
    }

pub returns-in-Err-clause-host : goal.returns-in-Err-clause-host
returns-in-Err-clause-host g c =
    let cells = c.prepare_from.ensures.reads.cells in
    record {
      made = refl;
      next = record {
        calls = c.in-Err.ensures.prepares.0;
        ram = c.in-Err.ensures.prepares.1;
        stays =
            λ told. record { operation = cells.operation; cells = cells.cells };
      };
    }

pub returns-in-Ok-clause-one : goal.returns-in-Ok-clause-one
returns-in-Ok-clause-one g c = prepares_so c.args.cursor c.args.call c.args.from c.args.len c.in-Ok.left c.args.next c.requires.kind

pub returns-in-Err-clause-one : goal.returns-in-Err-clause-one
returns-in-Err-clause-one g c = unread_so c.args.cursor c.args.call c.args.from c.args.len c.args.next c.requires.kind
