-- `LineBus::poke32`: that it keeps its contract, and what the line holds after it.
use Rattle.std.proofs.lemmas.Bool.{false≢true}
use Rattle.std.proofs.Common.{refl, sym, ◌∙◌, length-set}
use Rattle.target_core.proofs.RamLemmas.{only_set, ram_is, ram_set}
use Rattle.target_core.proofs.LineLemmas.{stores}
use Rattle.target_core.proofs.line.LineBus.poke32.Goals as goal

pub returns-clause-acts : goal.returns-clause-acts
returns-clause-acts g c made =
    stores {G = g.B.Bench} (λ b x told. g.met.B.Bench.as_told b x told) c.args.self.now _ 4 c.args.at c.in-Some.offset c.args.value
    (record {
      arena = refl;
      unit = refl;
      bench = refl;
      base = refl;
      map = refl;
      size = refl;
      window = refl;
      others = only_set _ _ _ _ c.store32_from.ensures.set c.args.self.now.ram.0;
    }) refl refl
    c.in-Some.ensures.value (ram_is _ _ _ _ c.store32_from.ensures.set c.args.self.now.ram.0)

pub returns-clause-kept : goal.returns-clause-kept
returns-clause-kept g c kept = absurd (false≢true (sym kept))

pub returns-in_default-clause-acts : goal.returns-in_default-clause-acts
returns-in_default-clause-acts g c made = absurd (false≢true made)

pub invariant_of-self : goal.invariant_of-self
invariant_of-self g c =
    let l = c.args.self.now in
    record {
      reaches = l.reaches;
      by_halves = l.by_halves;
      by_words = l.by_words;
      is_code = l.is_code;
      by_code = l.by_code;
      in_block = l.in_block;
      at_block = l.at_block;
      is_apart = l.is_apart;
      begins = l.begins ∙ sym c.store32_from.ensures.begin;
      ram = ram_set _ _ _ _ _ c.store32_from.ensures.set l.ram (length-set _ _ _ ∙ length-set _ _ _ ∙ length-set _ _ _ ∙ length-set _ _ _ ∙ l.ram.1);
      agrees = l.agrees;
      running = l.running;
    }
