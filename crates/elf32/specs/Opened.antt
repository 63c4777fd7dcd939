-- What is known of an ELF file that was read.
use Rattle.std.specs.Prelude.{◌≡◌, ◌+◌, ◌*◌, ◌≤◌, ℕ, List, length, Option, None}
use Rattle.elf32.specs.Format.{e_phoff, e_phnum, e_shoff, e_shnum}
use Rattle.elf32.specs.Checks.{name_fault, section_names}
use Rattle.elf32.specs.Places.{Placed, AreKept, kept_of}

pub record IsOpened (bytes : List ℕ) (names : Option (List ℕ)) (places : List Placed) : Type 0 where
  pub header : 52 ≤ length bytes
  pub programs : e_phoff bytes + 32 * e_phnum bytes ≤ length bytes
  pub sections : e_shoff bytes + 40 * e_shnum bytes ≤ length bytes
  pub named : names ≡ section_names bytes
  pub good : name_fault bytes ≡ None
  pub kept : AreKept bytes (kept_of bytes) places
