-- `put_items`: what holds at each turn of its loop.
use Rattle.std.proofs.Common.{◌≡◌, ◌++◌, take}
use Rattle.std.specs.Prelude.{All}
use Rattle.std.specs.List.{flat_map}
use Rattle.flm_forge.specs.Device.{ItemFits, item_bytes}
use Rattle.flm_forge.proofs.device.put_items.Given as goal

abbrev pub invariant-loop-item : goal.invariant-loop-item
invariant-loop-item l = record {
  made : l.out.items ≡ l.initial.out.items ++ flat_map item_bytes (take l.item-index l.items);
  fit : All ItemFits (take l.item-index l.items);
}
