-- A job file as it would be with another hash.
use Rattle.std.specs.Prelude.{◌≡◌, ◌<◌, ◌+◌, ◌-◌, ◌++◌, ◌&&◌, ℕ, List, All, length, take, drop, get_or, nat_le, nat_lt, if◌then◌else◌}
use Rattle.std.proofs.lemmas.List.Elements.{All-append, All-take, All-drop}
use Rattle.bench_model.specs.Calls.{written}
use Rattle.bench_model.specs.State.{BenchState}

-- a file with this hash at byte 8 in place of its own; a file that is too short has the part of it that fits
abbrev pub mended_file : (hash file : List ℕ) → List ℕ
mended_file hash file = take (length file) (written 8 hash file)

-- the byte at a place of a file, with the first `count` bytes of a hash laid over the file from byte 8 on
abbrev pub laid_byte : (hash : List ℕ) (count place byte : ℕ) → ℕ
laid_byte hash count place byte = if nat_le 8 place && nat_lt place (8 + count) then get_or hash (place - 8) byte else byte

-- A bench whose job file has this hash, in each file that a stop may leave. It refused `writes` calls that change the file and `cells` calls
-- on the cells, and each refusal counts as a fault.
abbrev pub with_hash : (hash : List ℕ) (writes cells : ℕ) → BenchState → BenchState
with_hash hash writes cells b = record b {
  file = mended_file hash b.file;
  files_at = λ k file. (kept : List ℕ) × b.files_at k kept × (file ≡ mended_file hash kept);
  store_faults = b.store_faults + writes;
  device_faults = b.device_faults + cells;
}

-- a file of bytes with another hash consists of bytes
pub mended_bytes : (hash file : List ℕ) → All (λ byte. byte < 256) hash → All (λ byte. byte < 256) file → All (λ byte. byte < 256) (mended_file hash file)
mended_bytes hash file of_hash of_file =
    All-take (λ byte. byte < 256) (length file) (written 8 hash file)
    (All-append (λ byte. byte < 256) (take 8 file ++ hash) (drop (8 + length hash) file)
    (All-append (λ byte. byte < 256) (take 8 file) hash (All-take (λ byte. byte < 256) 8 file of_file) of_hash)
    (All-drop (λ byte. byte < 256) (8 + length hash) file of_file))
