-- `tick`: its contract, `TicksOnce`, and what the line holds after it.
use Rattle.std.proofs.Common.{ap, refl, sym, ◌∙◌, ◌≡◌, ◌≤◌, subst}
use Rattle.target_core.specs.Units.{unit_state}
use Rattle.target_core.proofs.RamLemmas.{only_here}
use Rattle.target_core.proofs.StepLemmas.{same_here, quiet_tick, tick_from}
use Rattle.flash_layout.specs.Maps.{map_of}
use Rattle.flash_driver.proofs.TickLemmas.{idle_tick}
use Rattle.target_core.specs.AnyTable.{any_table}
use Rattle.flash_layout.specs.declared.flash_map.FlashMap.{FlashMap}
use Rattle.flash_layout.specs.Areas.{cells_in}
use Rattle.target_core.proofs.step.tick.Goals as goal

pub returns-then-not-runs : goal.returns-then-not-runs
returns-then-not-runs g c =
    quiet_tick (λ b x told. g.met.B.Bench.as_told b x told) c.args.line.now _ (same_here c.args.line.now) refl refl
    (λ cells. sym (idle_tick any_table (unit_state c.args.line.now.unit.now) cells (sym c.args.line.now.running ∙ c.if-not-runs.true)))

pub returns-then-runs_on : goal.returns-then-runs_on
returns-then-runs_on g c =
    quiet_tick (λ b x told. g.met.B.Bench.as_told b x told) c.args.line.now _
    (record {
      arena = refl;
      unit = refl;
      bench = refl;
      base = refl;
      map = ap map_of c.runs_on.ensures.layout;
      size = refl;
      window = refl;
      others =
          only_here c.args.line.now.arena.now c.args.line.now.window;
    }) refl refl
    (λ cells. c.runs_on.ensures.ticks c.if-runs_on.true cells)

pub returns : goal.returns
returns g c =
    tick_from c.args.line.now _ c.tick_at_end.new.line c.tick_at_end.result
    (record {
      arena = refl;
      unit = refl;
      bench = refl;
      base = refl;
      map = ap map_of c.runs_on.ensures.layout;
      size = refl;
      window = refl;
      others =
          only_here c.args.line.now.arena.now c.args.line.now.window;
    })
    (c.runs_on.ensures.else_same c.if-runs_on.false) refl refl c.tick_at_end.ensures

pub invariant_of-line : goal.invariant_of-line
invariant_of-line g c =
    let l = c.args.line.now in
    record {
      reaches = l.reaches;
      by_halves = l.by_halves;
      by_words = l.by_words;
      is_code = l.is_code;
      by_code = l.by_code;
      in_block = subst (λ (m : FlashMap). l.apart ≤ m.block) (sym c.runs_on.ensures.layout) l.in_block;
      at_block = subst (λ (m : FlashMap). l.block ≡ m.base) (sym c.runs_on.ensures.layout) l.at_block;
      is_apart = l.is_apart;
      begins = l.begins;
      ram = l.ram;
      agrees = record {
        count = l.agrees.count ∙ ap (λ (m : FlashMap). cells_in m.areas.items) (sym c.runs_on.ensures.layout);
        operation = λ told. l.agrees.operation told ∙ sym c.runs_on.ensures.operation;
      };
      running = l.running ∙ sym c.runs_on.ensures.runs;
    }
