-- The entry functions of an algorithm, and the labels of its text that they are.
use Rattle.std.specs.Prelude.{◌≡◌, ℕ, Bool, List, [], ◌∷◌, Option, Some, None, if◌then◌else◌}
use Rattle.std.specs.List.{list_any}
use Rattle.std.specs.Str.{bytes_eq}
use Rattle.armv6m_asm.specs.declared.labels.Label.{Label}
use Rattle.flm_descriptor.specs.declared.algorithm.Entries.{Entries}
use Rattle.flm_descriptor.specs.declared.fault.Name.{Name}
use Rattle.flm_descriptor.specs.declared.fault.Name.TheVariants as name
use Rattle.flm_descriptor.specs.Parts.{text_of}

-- the place of the first label with this name
unfoldable pub place_named : List Label → List ℕ → Option ℕ
place_named [] name = None
place_named (label ∷ labels) name = if bytes_eq label.name name then Some label.place else place_named labels name

-- whether a name is among the hidden ones
abbrev pub is_hidden : List Name → Name → Bool
is_hidden hidden name = list_any (λ other. bytes_eq (text_of other) (text_of name)) hidden

-- the place of an entry that gets a symbol: it has a label, and isn't hidden
unfoldable pub shown_place : List Label → List Name → Name → Option ℕ
shown_place labels hidden name = if is_hidden hidden name then None else place_named labels (text_of name)

-- the names of the entry functions
abbrev pub entry_names : List Name
entry_names = name.Init ∷ name.UnInit ∷ name.EraseSector ∷ name.ProgramPage ∷ name.EraseChip ∷ name.Verify ∷ []

-- the entries are at their labels: the four required ones exist, and the other two may be missing
pub record AreEntries (labels : List Label) (hidden : List Name) (entries : Entries) : Type 0 where
  pub init : shown_place labels hidden name.Init ≡ Some entries.init
  pub uninit : shown_place labels hidden name.UnInit ≡ Some entries.uninit
  pub erase_sector : shown_place labels hidden name.EraseSector ≡ Some entries.erase_sector
  pub program_page : shown_place labels hidden name.ProgramPage ≡ Some entries.program_page
  pub erase_chip : shown_place labels hidden name.EraseChip ≡ entries.erase_chip
  pub verify : shown_place labels hidden name.Verify ≡ entries.verify
