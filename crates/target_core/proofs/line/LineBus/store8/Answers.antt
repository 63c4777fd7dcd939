-- `LineBus::store8`: that it keeps its contract, and what the line holds after it.
use Rattle.target_core.proofs.RamLemmas.{only_set, ram_is, ram_set}
use Rattle.target_core.proofs.LineLemmas.{stores}
use Rattle.std.proofs.Common.{arith, refl, ◌∙◌, sym, length-set, ◌≡◌, ◌≤◌, subst}
use Rattle.std.proofs.lemmas.Grind.{common_steps}
use Rattle.target_core.specs.World.{world_answer, world_asks}
use Rattle.flash_layout.specs.declared.flash_map.FlashMap.{FlashMap}
use Rattle.target_core.proofs.line.LineBus.store8.Goals as goal

pub returns-in-None : goal.returns-in-None
unfolding world_answer world_asks
returns-in-None g c = grind (arith, common_steps)

pub returns-in-Some : goal.returns-in-Some
returns-in-Some g c =
    stores {G = g.B.Bench} (λ b x told. g.met.B.Bench.as_told b x told) c.args.self.now _ 1 c.args.at c.in-Some.offset c.args.value
    (record {
      arena = refl;
      unit = refl;
      bench = refl;
      base = refl;
      map = refl;
      size = refl;
      window = refl;
      others = only_set _ _ _ _ c.store8_from.ensures.set c.args.self.now.ram.0;
    }) refl refl
    c.in-Some.ensures.value (ram_is _ _ _ _ c.store8_from.ensures.set c.args.self.now.ram.0)

pub invariant_of-self : goal.invariant_of-self
invariant_of-self g c =
    let l = c.args.self.now in
    record {
      reaches = l.reaches;
      by_halves = l.by_halves;
      by_words = l.by_words;
      is_code = l.is_code;
      by_code = l.by_code;
      in_block = l.in_block;
      at_block = l.at_block;
      is_apart = l.is_apart;
      begins = l.begins ∙ sym c.store8_from.ensures.begin;
      ram = ram_set _ _ _ _ _ c.store8_from.ensures.set l.ram (length-set _ _ _ ∙ l.ram.1);
      agrees = l.agrees;
      running = l.running;
    }

pub invariant_of-self-in-None : goal.invariant_of-self-in-None
invariant_of-self-in-None g c =
    let l = c.args.self.now in
    record {
      reaches = l.reaches;
      by_halves = l.by_halves;
      by_words = l.by_words;
      is_code = l.is_code;
      by_code = l.by_code;
      in_block = subst (λ (m : FlashMap). l.apart ≤ m.block) (sym c.store_or_quiet-end.ensures.layout) l.in_block;
      at_block = subst (λ (m : FlashMap). l.block ≡ m.base) (sym c.store_or_quiet-end.ensures.layout) l.at_block;
      is_apart = l.is_apart;
      begins = l.begins;
      ram = l.ram;
      agrees = c.store_or_quiet-end.ensures.touches.agrees;
      running = c.is_running-self.ensures;
    }
