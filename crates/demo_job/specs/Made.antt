-- What a seed makes, with one generator that starts from it: the cells, then the image, then the number of calls after which the job is
-- stopped.
use Rattle.std.specs.Prelude.{◌+◌, ◌*◌, ◌%◌, ◌==◌, if◌then◌else◌, ℕ, zero, suc, List, [], ◌∷◌, ◌++◌, replicate}
use Rattle.byte_map.specs.Image.{Run, over}
use Rattle.demo_job.specs.Generator.{next, byte_of, draws, after}

-- The cells: sectors of 1,024 bytes. One byte is drawn for each sector. Where it is even, the sector is blank; else it is full of draws.

unfoldable pub sector_of : ℕ → List ℕ
sector_of state = if byte_of state % 2 == 0 then replicate 1024 255 else draws 1024 (next state)

unfoldable pub after_sector : ℕ → ℕ
after_sector state = if byte_of state % 2 == 0 then next state else after 1024 (next state)

-- the bytes of a number of sectors, and the state of the generator after them
unfoldable pub sectors : ℕ → ℕ → List ℕ
sectors zero state = []
sectors (suc n) state = sector_of state ++ sectors n (after_sector state)

unfoldable pub after_sectors : ℕ → ℕ → ℕ
after_sectors zero state = state
after_sectors (suc n) state = after_sectors n (after_sector state)

abbrev pub cells_of : ℕ → List ℕ
cells_of seed = sectors 64 seed

-- The image: 20,480 draws, from the start of one of the first 32 sectors on. The draw before them chooses the sector.

abbrev pub base : ℕ
base = 0x08000000

unfoldable pub run_of : ℕ → Run
run_of state = record { at = base + 1024 * (byte_of state % 32); bytes = draws 20480 (next state) }

unfoldable pub after_run : ℕ → ℕ
after_run state = after 20480 (next state)

abbrev pub image_of : ℕ → List Run
image_of seed = run_of (after_sectors 64 seed) ∷ []

-- the image laid over the cells
abbrev pub laid_of : ℕ → List ℕ
laid_of seed = over (image_of seed) base (cells_of seed)

-- The stop: two draws give the number of calls that go through.

unfoldable pub stop_from : ℕ → ℕ
stop_from state = 20000 + (256 * byte_of state + byte_of (next state)) % 10000

abbrev pub stop_of : ℕ → ℕ
stop_of seed = stop_from (after_run (after_sectors 64 seed))
