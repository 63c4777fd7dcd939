-- What a gang says of its targets: a line for each, and a status.
use Rattle.std.specs.Prelude.{ℕ, ◌+◌, List, [], ◌∷◌, ◌++◌, Option, Some, None, unwrap_or}
use Rattle.board_file.specs.declared.region.Region.{Region}
use Rattle.flash_session.specs.declared.target_end.TargetEnd.{TargetEnd}
use Rattle.flash_session.specs.declared.target_end.TargetEnd.TheVariants as ended
use Rattle.report_text.specs.Refusal.{Refusal, status_of, store_fault, device_fault, call_failed}
use Rattle.report_text.specs.Refusal.{mismatch}
use Rattle.report_text.specs.Target.{target_line}
use Rattle.job_text.specs.Laid.{address_at}
use Rattle.job_commands.specs.Refused.{of_session, of_survey}

-- how a target ended, with the regions of its job's board where its job was opened
pub record Outcome : Type 0 where
  pub end : TargetEnd
  pub regions : Option (List Region)

-- Why a target isn't done.

-- the address of a place among the cells of the regions; the place itself where it is after those cells, or where there are no regions
abbrev pub address_in : Option (List Region) → ℕ → ℕ
address_in None place = place
address_in (Some regions) place = unwrap_or (address_at regions place) place

-- why a target with these regions isn't done: none where it is
abbrev pub reason_in : Option (List Region) → TargetEnd → Option Refusal
reason_in regions ended.Done = None
reason_in regions (ended.Open fault) = Some (of_session fault)
reason_in regions (ended.Survey fault) = Some (of_survey fault)
reason_in regions (ended.CallFailed number call end) = Some (call_failed number call end)
reason_in regions (ended.Mismatch d) = Some (mismatch (address_in regions d.at) d.want d.got)
reason_in regions ended.StoreFault = Some store_fault
reason_in regions ended.DeviceFault = Some device_fault

abbrev pub reason : Outcome → Option Refusal
reason x = reason_in x.regions x.end

-- The lines, one after the other.

-- the lines of targets that are numbered from `index` on
abbrev pub lines_from : ℕ → List Outcome → List ℕ
lines_from index [] = []
lines_from index (x ∷ rest) = target_line index (reason x) ++ lines_from (index + 1) rest

abbrev pub lines_of : List Outcome → List ℕ
lines_of ends = lines_from 1 ends

-- The status: that of the first target that isn't done, and 0 where all are.

abbrev pub status_before : Option Refusal → ℕ → ℕ
status_before None rest = rest
status_before (Some refusal) rest = status_of refusal

abbrev pub status_in : List Outcome → ℕ
status_in [] = 0
status_in (x ∷ rest) = status_before (reason x) (status_in rest)
