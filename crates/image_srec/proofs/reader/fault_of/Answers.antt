-- `fault_of`: its contract, `IsSrecFault`.
use Rattle.std.proofs.Common.{refl, subst}
use Rattle.record_lines.specs.Format.{IsTextFault}
use Rattle.image_srec.specs.Srec.{srec}
use Rattle.image_srec.proofs.LineLemmas.{line_as_srec}
use Rattle.image_srec.proofs.reader.fault_of.Goals as goal

pub returns-in-Line : goal.returns-in-Line
returns-in-Line c = λ lines is. line_as_srec lines c.in-Line.line c.in-Line.fault (subst (IsTextFault srec lines) c.in-Line.is is)

pub returns-in-NoEnd : goal.returns-in-NoEnd
returns-in-NoEnd c = λ lines is. subst (IsTextFault srec lines) c.in-NoEnd.is is

pub returns-in-OutOfMemory : goal.returns-in-OutOfMemory
returns-in-OutOfMemory c = λ lines is. refl
