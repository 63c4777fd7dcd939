-- The line of each refusal on standard error.
use Rattle.std.specs.Prelude.{ℕ, List, [], ◌∷◌, ◌++◌, map, codes, decimal, if◌then◌else◌}
use Rattle.std.specs.Char.{is_ascii_control}
use Rattle.std.specs.List.{concat, flat_map}
use Rattle.octets.specs.Digit.{hex_text}
use Rattle.report_text.specs.Calls.{failed_text}
use Rattle.report_text.specs.Faults.{board_text, flm_text, image_text, any_text, file_text}
use Rattle.report_text.specs.Refusal.{Refusal, out_of_memory, usage, input_fault, image_too_long, image_refused, image_misplaced, flm_refused, other_device}
use Rattle.report_text.specs.Refusal.{no_room}
use Rattle.report_text.specs.Refusal.{board_refused, job_open, no_job, not_a_job, damaged, cells_differ, store_fault, device_fault, output_fault, call_failed}
use Rattle.report_text.specs.Refusal.{mismatch, differs}

-- the text of a difference: a place or an address, the byte wanted there, and the one found
unfoldable pub difference_text : List ℕ → ℕ → ℕ → ℕ → List ℕ
difference_text what at wanted found = concat (what ∷ codes " at " ∷ hex_text 8 at ∷ codes " wanted " ∷ hex_text 2 wanted
    ∷ codes " found " ∷ hex_text 2 found ∷ [])

-- the digits of a hash
abbrev pub hash_text : List ℕ → List ℕ
hash_text hash = flat_map (hex_text 2) hash

-- A byte of a file's name as it is printed: a dot stands for each ASCII control character, so the line stays one line.
abbrev pub visible : ℕ → ℕ
visible byte = if is_ascii_control byte then 0x2E else byte

-- what the line of a refusal says
unfoldable pub reason_of : Refusal → List ℕ
reason_of out_of_memory = codes "out of memory"
reason_of usage = codes "usage: flm_tool JOB CELLS COMMAND [WORDS]"
reason_of (input_fault name) = codes "cannot read " ++ map visible name
reason_of (image_too_long bytes cells) = concat (codes "image: " ∷ decimal bytes ∷ codes " bytes for " ∷ decimal cells ∷ codes " cells" ∷ [])
reason_of (image_refused name fault) = file_text name fault ++ any_text fault
reason_of (image_misplaced fault) = codes "image: " ++ image_text fault
reason_of (flm_refused fault) = codes "flm: " ++ flm_text fault
reason_of (other_device base size) = concat (codes "flm: other device " ∷ hex_text 8 base ∷ codes " " ∷ decimal size ∷ [])
reason_of (no_room need have) = concat (codes "flm: NoRoom " ∷ decimal need ∷ codes " " ∷ decimal have ∷ [])
reason_of (board_refused fault) = codes "board: " ++ board_text fault
reason_of job_open = codes "job: open"
reason_of no_job = codes "job: none"
reason_of (not_a_job at) = concat (codes "job: not a job at " ∷ decimal at ∷ [])
reason_of (damaged kept found) = codes "job: damaged " ++ hash_text kept ++ codes " " ++ hash_text found
reason_of (cells_differ wanted found) = concat (codes "job: " ∷ decimal wanted ∷ codes " cells wanted, " ∷ decimal found ∷ codes " found" ∷ [])
reason_of store_fault = codes "store fault"
reason_of device_fault = codes "device fault"
reason_of output_fault = codes "output fault"
reason_of (call_failed number call end) = failed_text number call end
reason_of (mismatch at wanted found) = difference_text (codes "mismatch") at wanted found
reason_of (differs place wanted found) = difference_text (codes "differs") place wanted found

-- the whole line of a refusal
unfoldable pub line_of : Refusal → List ℕ
line_of refusal = codes "flmprog: " ++ reason_of refusal ++ codes "\n"
