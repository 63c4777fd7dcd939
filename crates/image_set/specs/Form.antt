-- The form of a file, as a function of its bytes.
use Rattle.std.specs.Prelude.{ℕ, ◌==◌, ◌||◌, not, nat_eq, Bool, List, Option, Some, None, find, if◌then◌else◌}
use Rattle.std.specs.List.{starts_with}
use Rattle.elf32.specs.Format.{magic}
use Rattle.image_set.specs.declared.form.Form.{Form}
use Rattle.image_set.specs.declared.form.Form.TheVariants.{Raw, Elf, Hex, Srec}

-- a space, a tab, a carriage return or a line feed
abbrev pub is_blank : ℕ → Bool
is_blank byte = (byte == 32) || ((byte == 9) || ((byte == 13) || (byte == 10)))

-- the form of a text by its first byte that isn't blank: a colon begins a record of Intel HEX, and a capital S one of
-- Motorola S-records
abbrev pub text_form : Option ℕ → Option Form
text_form None = None
text_form (Some first) = if first == 58 then Some Hex else if first == 83 then Some Srec else None

-- the form of a file by its bytes: an ELF file begins with the magic bytes (System V ABI, chapter 4, "ELF Identification")
abbrev pub file_form : List ℕ → Option Form
file_form bytes = if starts_with nat_eq bytes magic then Some Elf else text_form (find (λ byte. not (is_blank byte)) bytes)

-- the form of a file: raw bytes where an address is given for them, whatever they are
abbrev pub form_of : Option ℕ → List ℕ → Option Form
form_of None bytes = file_form bytes
form_of (Some at) bytes = Some (Raw at)
