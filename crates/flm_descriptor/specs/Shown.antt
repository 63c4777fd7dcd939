-- A flash algorithm as contracts see it.
use Rattle.std.specs.Prelude.{ℕ, List}
use Rattle.flm_descriptor.specs.declared.algorithm.Algorithm.{Algorithm}
use Rattle.flm_descriptor.specs.declared.algorithm.Entries.{Entries}
use Rattle.flm_descriptor.specs.declared.device.Device.{Device}
use Rattle.flm_descriptor.specs.declared.items.SectorItem.{SectorItem}

pub record Shown : Type 0 where
  pub code : List ℕ
  pub init_data : List ℕ
  pub data_at : ℕ
  pub zero_at : ℕ
  pub zero_len : ℕ
  pub static_base : ℕ
  pub entries : Entries
  pub device : Device
  pub items : List SectorItem

abbrev pub shown : Algorithm → Shown
shown a = record {
  code = a.code;
  init_data = a.init_data;
  data_at = a.data_at;
  zero_at = a.zero_at;
  zero_len = a.zero_len;
  static_base = a.static_base;
  entries = a.entries;
  device = a.device;
  items = a.items;
}
