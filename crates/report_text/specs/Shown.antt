-- The refusal that a value of the program stands for.
use Rattle.report_text.specs.Refusal as refusal
use Rattle.report_text.specs.declared.refusal.Refusal.{Refusal}
use Rattle.report_text.specs.declared.refusal.Refusal.TheVariants.{OutOfMemory, Usage, InputFault, ImageTooLong, ImageRefused, ImageMisplaced, FlmRefused}
use Rattle.report_text.specs.declared.refusal.Refusal.TheVariants.{OtherDevice, NoRoom, BoardRefused, JobOpen, NoJob, NotAJob, Damaged, CellsDiffer, StoreFault}
use Rattle.report_text.specs.declared.refusal.Refusal.TheVariants.{DeviceFault, OutputFault, CallFailed, Mismatch, Differs}

abbrev pub shown : Refusal → refusal.Refusal
shown OutOfMemory = refusal.out_of_memory
shown Usage = refusal.usage
shown (InputFault name) = refusal.input_fault name.now
shown (ImageTooLong bytes cells) = refusal.image_too_long bytes cells
shown (ImageRefused name fault) = refusal.image_refused name.now fault
shown (ImageMisplaced fault) = refusal.image_misplaced fault
shown (FlmRefused fault) = refusal.flm_refused fault
shown (OtherDevice base size) = refusal.other_device base size
shown (NoRoom need have) = refusal.no_room need have
shown (BoardRefused fault) = refusal.board_refused fault
shown JobOpen = refusal.job_open
shown NoJob = refusal.no_job
shown (NotAJob at) = refusal.not_a_job at
shown (Damaged kept found) = refusal.damaged kept found
shown (CellsDiffer wanted found) = refusal.cells_differ wanted found
shown StoreFault = refusal.store_fault
shown DeviceFault = refusal.device_fault
shown OutputFault = refusal.output_fault
shown (CallFailed number call end) = refusal.call_failed number call end
shown (Mismatch at wanted found) = refusal.mismatch at wanted found
shown (Differs at wanted found) = refusal.differs at wanted found
