-- The image that a file stands for, and why a file is refused.
use Rattle.std.specs.Prelude.{◌≡◌, ◌≢◌, ℕ, List, [], Option, Some, None}
use Rattle.octets.specs.Lines.{lines_of}
use Rattle.byte_map.specs.Image.{Run}
use Rattle.byte_map.specs.Laying.{Lays, IsLayFault}
use Rattle.byte_map.specs.declared.fault.LayFault.TheVariants as lay
use Rattle.record_lines.specs.Format.{IsImageOfText}
use Rattle.image_hex.specs.declared.fault.HexKind.TheVariants as hex_kind
use Rattle.image_hex.specs.Hex.{hex, IsHexFault}
use Rattle.image_srec.specs.declared.fault.SrecKind.TheVariants as srec_kind
use Rattle.image_srec.specs.Srec.{srec, IsSrecFault}
use Rattle.image_set.specs.declared.form.Form.{Form}
use Rattle.image_set.specs.declared.form.Form.TheVariants as form
use Rattle.image_set.specs.declared.fault.ImageFault.{ImageFault}
use Rattle.image_set.specs.declared.fault.ImageFault.TheVariants.{NoForm, Hex, Srec, Elf, Conflict, PastEnd, OutsideDevice, EmptyImage, OutOfMemory}
use Rattle.image_set.specs.Form.{form_of}
use Rattle.image_set.specs.Segments.{IsElfImage, IsElfFault, IsFirstRefused}

-- the image of a file of a known form; raw bytes are one run
abbrev pub IsImageOfForm : Option Form → List ℕ → List Run → Type 0
IsImageOfForm None bytes image = ⊥
IsImageOfForm (Some (form.Raw at)) bytes image = Lays (record { at = at; bytes = bytes }) [] image
IsImageOfForm (Some form.Elf) bytes image = IsElfImage bytes image
IsImageOfForm (Some form.Hex) bytes image = IsImageOfText hex (lines_of bytes) image
IsImageOfForm (Some form.Srec) bytes image = IsImageOfText srec (lines_of bytes) image

-- a run of the file goes past 2^32, and this is its first address
abbrev pub GoesPastEnd : Option Form → List ℕ → ℕ → Type 0
GoesPastEnd None bytes at = ⊥
GoesPastEnd (Some (form.Raw from)) bytes at = IsLayFault (record { at = from; bytes = bytes }) [] (lay.PastEnd at)
GoesPastEnd (Some form.Elf) bytes at = IsFirstRefused bytes (PastEnd at)
GoesPastEnd (Some form.Hex) bytes at = ⊥
GoesPastEnd (Some form.Srec) bytes at = ⊥

-- why a file of a known form is refused
abbrev pub IsFaultOfForm : Option Form → List ℕ → ImageFault → Type 0
IsFaultOfForm f bytes NoForm = f ≡ None
IsFaultOfForm f bytes (Hex fault) = (f ≡ Some form.Hex) × IsHexFault (lines_of bytes) fault.line fault.kind × (fault.kind ≢ hex_kind.OutOfMemory)
IsFaultOfForm f bytes (Srec fault) = (f ≡ Some form.Srec) × IsSrecFault (lines_of bytes) fault.line fault.kind × (fault.kind ≢ srec_kind.OutOfMemory)
IsFaultOfForm f bytes (Elf fault) = (f ≡ Some form.Elf) × IsElfFault bytes fault
IsFaultOfForm f bytes (Conflict at old new) = (f ≡ Some form.Elf) × IsFirstRefused bytes (Conflict at old new)
IsFaultOfForm f bytes (PastEnd at) = GoesPastEnd f bytes at
IsFaultOfForm f bytes (OutsideDevice at) = ⊥
IsFaultOfForm f bytes EmptyImage = ⊥
IsFaultOfForm f bytes OutOfMemory = Unit {0}

-- the image that a file stands for, with or without an address for raw bytes
abbrev pub IsImage : Option ℕ → List ℕ → List Run → Type 0
IsImage raw_at bytes image = IsImageOfForm (form_of raw_at bytes) bytes image

-- why a file is refused, with or without an address for raw bytes
abbrev pub IsFault : Option ℕ → List ℕ → ImageFault → Type 0
IsFault raw_at bytes fault = IsFaultOfForm (form_of raw_at bytes) bytes fault
