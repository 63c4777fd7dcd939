-- The faults of the layers below, as refusals of the program.
use Rattle.job_file.specs.declared.fault.BeginFault.{BeginFault}
use Rattle.job_file.specs.declared.fault.BeginFault.TheVariants as beginning
use Rattle.flash_session.specs.declared.fault.SessionFault.{SessionFault}
use Rattle.flash_session.specs.declared.fault.SessionFault.TheVariants as session
use Rattle.flash_session.specs.declared.fault.SurveyFault.{SurveyFault}
use Rattle.flash_session.specs.declared.fault.SurveyFault.TheVariants as survey
use Rattle.report_text.specs.Refusal.{Refusal, out_of_memory, job_open, not_a_job, damaged, cells_differ, store_fault, device_fault}
use Rattle.report_text.specs.Refused.{of_open}

-- the refusal for a session that wasn't opened
abbrev pub of_session : SessionFault → Refusal
of_session session.OutOfMemory = out_of_memory
of_session (session.Open fault) = of_open fault
of_session session.DeviceFault = device_fault

-- the refusal for a survey that wasn't made
abbrev pub of_survey : SurveyFault → Refusal
of_survey survey.OutOfMemory = out_of_memory
of_survey survey.DeviceFault = device_fault
of_survey survey.StoreFault = store_fault

-- the refusal for a job that wasn't begun
abbrev pub of_begin : BeginFault → Refusal
of_begin beginning.OutOfMemory = out_of_memory
of_begin beginning.JobOpen = job_open
of_begin beginning.StoreFault = store_fault
of_begin beginning.DeviceFault = device_fault
of_begin (beginning.CellsDiffer said found) = cells_differ said found
of_begin (beginning.NotAJob at) = not_a_job at
of_begin (beginning.Damaged kept found) = damaged kept found
