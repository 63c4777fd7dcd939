-- Sections by name and type, in the order of the file.
use Rattle.std.specs.Prelude.{◌≡◌, ◌≤◌, length, ℕ, ◌==◌, ◌&&◌, false, List, [], ◌∷◌, ◌++◌, map, min, Option, Some, None, is_some, if◌then◌else◌}
use Rattle.std.specs.Str.{bytes_eq}
use Rattle.std.specs.Borrow.{Bor}
use Rattle.elf32.specs.Search.{first_below}
use Rattle.elf32.specs.Format.{e_shnum}
use Rattle.elf32.specs.Strings.{is_name}
use Rattle.elf32.specs.Checks.{section_name}
use Rattle.elf32.specs.Tables.{is_section}

-- a section's name, its type, and its place in the table
abbrev pub Placed : Type 0
Placed = List ℕ × ℕ × ℕ

-- the place of the first section of a name and type
abbrev pub first_place : List ℕ → ℕ → List Placed → Option ℕ
first_place name kind [] = None
first_place name kind (p ∷ ps) = if bytes_eq name p.0 && (kind == p.1) then Some p.2 else first_place name kind ps

-- the entries of a map of sections, as a list
abbrev pub placed_of : List ((Bor (List ℕ) × ℕ) × ℕ) → List Placed
placed_of es = map (λ e. (e.0.0.now, e.0.1, e.1)) es

-- a list with one more section, unless one of its name and type is in it
abbrev pub noted : List ℕ → ℕ → ℕ → List Placed → List Placed
noted name kind place ps = if is_some (first_place name kind ps) then ps else ps ++ (name, kind, place) ∷ []

-- how many sections, from the first on, have their names kept in the map
abbrev pub kept_of : List ℕ → ℕ
kept_of bytes = min (e_shnum bytes) 64

-- a list finds the first of `n` sections of each name and type, where the name has at most 64 bytes
abbrev pub AreKept : List ℕ → ℕ → List Placed → Type 0
AreKept bytes n places =
    (name : List ℕ) (kind : ℕ) → length name ≤ 64 → first_place name kind places ≡ first_below (is_section bytes name kind) n

-- no name of at most 64 bytes finds section `k`
abbrev pub HasNoShortName : List ℕ → ℕ → Type 0
HasNoShortName bytes k = (name : List ℕ) → length name ≤ 64 → is_name name (section_name bytes k) ≡ false
