-- `LineBus::load16`: that it keeps its contract, and what the line holds after it.
use Rattle.std.proofs.Common.{refl, arith, ◌≡◌, ◌≤◌, sym, subst}
use Rattle.std.proofs.lemmas.Grind.{common_steps}
use Rattle.target_core.specs.World.{world_answer, world_asks}
use Rattle.target_core.proofs.LineLemmas.{loads}
use Rattle.target_core.proofs.RamLemmas.{only_here}
use Rattle.target_core.specs.Units.{Unit, unit_state, state_runs}
use Rattle.target_core.proofs.line.LineBus.load16.Goals as goal

pub returns-in-Some-clause-acts : goal.returns-in-Some-clause-acts
returns-in-Some-clause-acts g c =
    loads {G = g.B.Bench} (λ b x told. g.met.B.Bench.as_told b x told) c.args.self.now _ 2 c.args.at c.in-Some.offset c.load16_from.result
    (record {
      arena = refl;
      unit = refl;
      bench = refl;
      base = refl;
      map = refl;
      size = refl;
      window = refl;
      others =
          only_here c.args.self.now.arena.now c.args.self.now.window;
    }) refl refl refl
    c.in-Some.ensures.value c.load16_from.ensures.value

pub returns-in-None-clause-acts : goal.returns-in-None-clause-acts
unfolding world_answer world_asks
returns-in-None-clause-acts g c = grind (arith, common_steps)

pub invariant_of-self : goal.invariant_of-self
invariant_of-self g c =
    let l = c.args.self.now in
    record {
      reaches = l.reaches;
      by_halves = l.by_halves;
      by_words = l.by_words;
      is_code = l.is_code;
      by_code = l.by_code;
      in_block = l.in_block;
      at_block = l.at_block;
      is_apart = l.is_apart;
      begins = l.begins;
      ram = l.ram;
      agrees = l.agrees;
      running = l.running;
    }

pub invariant_of-self-in-None : goal.invariant_of-self-in-None
invariant_of-self-in-None g c =
    let l = c.args.self.now in
    record {
      reaches = l.reaches;
      by_halves = l.by_halves;
      by_words = l.by_words;
      is_code = l.is_code;
      by_code = l.by_code;
      in_block = subst (λ (u : Unit). l.apart ≤ u.layout.block) (sym c.load_or_quiet.ensures.same) l.in_block;
      at_block = subst (λ (u : Unit). l.block ≡ u.layout.base) (sym c.load_or_quiet.ensures.same) l.at_block;
      is_apart = l.is_apart;
      begins = l.begins;
      ram = l.ram;
      agrees = c.load_or_quiet.ensures.touches.agrees;
      running = subst (λ (u : Unit). l.runs ≡ state_runs (unit_state u)) (sym c.load_or_quiet.ensures.same) l.running;
    }
