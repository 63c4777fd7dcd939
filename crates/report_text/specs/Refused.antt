-- Which refusal each fault of the layers below becomes.
use Rattle.flm_descriptor.specs.declared.fault.FlmFault.{FlmFault}
use Rattle.flm_descriptor.specs.declared.fault.FlmFault.TheVariants as flm
use Rattle.job_file.specs.declared.fault.OpenFault.{OpenFault}
use Rattle.job_file.specs.declared.fault.OpenFault.TheVariants as opening
use Rattle.report_text.specs.Refusal.{Refusal, out_of_memory, flm_refused, no_job, not_a_job, damaged, cells_differ, store_fault}

-- the refusal for an FLM file that wasn't read
abbrev pub of_flm : FlmFault → Refusal
of_flm flm.OutOfMemory = out_of_memory
of_flm fault = flm_refused fault

-- the refusal for a job that wasn't opened
abbrev pub of_open : OpenFault → Refusal
of_open opening.OutOfMemory = out_of_memory
of_open opening.NoJob = no_job
of_open (opening.NotAJob at) = not_a_job at
of_open (opening.Damaged kept found) = damaged kept found
of_open opening.StoreFault = store_fault
of_open (opening.CellsDiffer said found) = cells_differ said found
