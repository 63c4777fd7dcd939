-- `put_items`: that its loop keeps its invariant.
use Rattle.std.proofs.Common.{arith}
use Rattle.std.proofs.lemmas.Grind.{common_steps}
use Rattle.std.proofs.lemmas.List.Elements.{All-more}
use Rattle.flm_descriptor.specs.declared.items.SectorItem.{SectorItem}
use Rattle.flm_forge.specs.Device.{ItemFits, item_bytes}
use Rattle.flm_forge.proofs.WriteLemmas.{one_more}
use Rattle.flm_forge.proofs.device.put_items.Goals as goal

abbrev no_item : SectorItem
no_item = record { size = 0; offset = 0 }

pub loop-item-preserved : goal.loop-item-preserved
loop-item-preserved c =
    let l = c.loop-item in
    let items = c.args.items.now in
    let fit = c.in_ok-put_words.ensures.fit in
    record {
      made = one_more item_bytes items l.item-index no_item l.out.items c.put_words.new.out.items c.args.out.now.items
          (omega arith) l.invariant.made c.in_ok-put_words.ensures.bytes;
      fit = All-more ItemFits items l.item-index no_item (omega arith) l.invariant.fit
          (record { size = fit 0 0 (omega arith); offset = fit 1 0 (omega arith) });
    }

pub returns-clause-fits : goal.returns-clause-fits
returns-clause-fits c = grind (arith, common_steps)
