-- What a made file says, and why no file is made.
use Rattle.std.specs.Prelude.{◌≡◌, ◌≢◌, ◌⊎◌, ◌+◌, ◌<◌, ◌≤◌, ◌^◌, ℕ, List, length, All, Result, Ok, IsErrOf}
use Rattle.armv6m_asm.specs.Assembly.{IsAssembled, IsRefused}
use Rattle.armv6m_asm.specs.declared.code.Code.{Code}
use Rattle.armv6m_asm.specs.declared.fault.AsmFault.{AsmFault}
use Rattle.armv6m_asm.specs.declared.fault.AsmFault.TheVariants as asm
use Rattle.flm_descriptor.specs.declared.algorithm.Entries.{Entries}
use Rattle.flm_descriptor.specs.declared.device.Device.{Device}
use Rattle.flm_descriptor.specs.Flm.{IsFlm, limits_of}
use Rattle.flm_descriptor.specs.Lawful.{addresses, AreInside}
use Rattle.flm_descriptor.specs.Shown.{Shown}
use Rattle.flm_forge.specs.declared.fault.ForgeFault.{ForgeFault}
use Rattle.flm_forge.specs.declared.fault.ForgeFault.TheVariants.{Asm, OutOfMemory}
use Rattle.flm_forge.specs.declared.source.Listing.{Listing}
use Rattle.flm_forge.specs.Device.{version, on_chip, end_pair}
use Rattle.flm_forge.specs.Entries.{AreEntries}
use Rattle.flm_forge.specs.File.{file_of}

-- the device of a listing
abbrev pub device_of : Listing → Device
device_of l = record {
  vers = version;
  name = l.name;
  kind = on_chip;
  base = l.base;
  size = l.size;
  page = l.page;
  res = 0;
  empty = l.empty;
  to_prog = l.to_prog;
  to_erase = l.to_erase;
}

-- the algorithm of a listing: the code, then the data, then the zeroed data
abbrev pub algorithm_of : Listing → List ℕ → Entries → Shown
algorithm_of l code entries = record {
  code = code;
  init_data = l.init_data;
  data_at = length code;
  zero_at = length code + length l.init_data;
  zero_len = l.zero_len;
  static_base = length code;
  entries = entries;
  device = device_of l;
  items = l.items;
}

-- the name is a string that fits DevName with a zero byte after it
pub record HasName (l : Listing) : Type 0 where
  pub fits : length l.name ≤ 127
  pub no_zero : All (λ byte. byte ≢ 0) l.name

-- the conditions under which a file reads back as its listing says: the entries are in the code, code and data end below the last address,
-- and the device and its items pass a reader's checks
pub record IsReadable (l : Listing) (code : Code) (entries : Entries) : Type 0 where
  pub name : HasName l
  pub no_end : All (λ item. item ≢ end_pair) l.items
  pub labelled : AreEntries code.labels l.hidden entries
  pub inside : AreInside (length code.bytes) entries
  pub ends : length code.bytes + length l.init_data + l.zero_len < addresses
  pub few : length l.items ≤ 512
  pub limits : limits_of (device_of l) l.items ≡ Ok tt

-- a file was made from a listing: it has the bytes of the text's code and of the listing, and is the FLM file of the listing's algorithm
pub record IsForged (l : Listing) (file : List ℕ) : Type 0 where
  pub code : Code
  pub assembled : IsAssembled l.text code
  pub file_is : file ≡ file_of l code
  pub fits : length file < 2 ^ 32
  pub read : (entries : Entries) → IsReadable l code entries → IsFlm file (algorithm_of l code.bytes entries)

-- why no file is made: this fault refuses the text, or out of memory
abbrev pub IsUnforged : Listing → ForgeFault → Type 0
IsUnforged l OutOfMemory = Unit {0}
IsUnforged l (Asm fault) = (fault ≢ asm.OutOfMemory) × IsRefused l.text fault

-- if the text is refused, the answer is the fault that refuses it, or out of memory
abbrev pub AnswersRefusal : Listing → Result (List ℕ) ForgeFault → Type 0
AnswersRefusal l answer = (fault : AsmFault) → fault ≢ asm.OutOfMemory → IsRefused l.text fault → IsErrOf answer (Asm fault) ⊎ IsErrOf answer OutOfMemory
