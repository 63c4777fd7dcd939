-- A fault of adding bytes as a fault of an image.
use Rattle.byte_map.specs.declared.fault.LayFault.{LayFault}
use Rattle.byte_map.specs.declared.fault.LayFault.TheVariants as lay
use Rattle.image_set.specs.declared.fault.ImageFault.{ImageFault}
use Rattle.image_set.specs.declared.fault.ImageFault.TheVariants.{Conflict, PastEnd, OutOfMemory}

abbrev pub fault_of : LayFault → ImageFault
fault_of (lay.Conflict at old new) = Conflict at old new
fault_of (lay.PastEnd at) = PastEnd at
fault_of lay.OutOfMemory = OutOfMemory
