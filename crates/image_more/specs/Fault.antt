-- A fault of a step, as the fault of its file.
use Rattle.byte_map.specs.declared.fault.LayFault.{LayFault}
use Rattle.byte_map.specs.declared.fault.LayFault.TheVariants as lay
use Rattle.image_set.specs.declared.fault.ImageFault.{ImageFault}
use Rattle.image_set.specs.declared.fault.ImageFault.TheVariants as image
use Rattle.image_more.specs.declared.fault.AnyFault.{AnyFault}
use Rattle.image_more.specs.declared.fault.AnyFault.TheVariants as any
use Rattle.image_more.specs.declared.fault.Uf2Fault.{Uf2Fault}
use Rattle.image_more.specs.declared.fault.Uf2Fault.TheVariants.{Conflict, PastEnd, OutOfMemory}

-- why the payload of a block wasn't added, as a fault of its file
abbrev pub fault_of : LayFault → Uf2Fault
fault_of (lay.Conflict at old new) = Conflict at old new
fault_of (lay.PastEnd at) = PastEnd at
fault_of lay.OutOfMemory = OutOfMemory

-- why a file that isn't UF2, or a union of images, is refused, as a fault of a file of any form
abbrev pub any_of : ImageFault → AnyFault
any_of image.NoForm = any.Image image.NoForm
any_of (image.Hex fault) = any.Image (image.Hex fault)
any_of (image.Srec fault) = any.Image (image.Srec fault)
any_of (image.Elf fault) = any.Image (image.Elf fault)
any_of (image.Conflict at old new) = any.Image (image.Conflict at old new)
any_of (image.PastEnd at) = any.Image (image.PastEnd at)
any_of (image.OutsideDevice at) = any.Image (image.OutsideDevice at)
any_of image.EmptyImage = any.Image image.EmptyImage
any_of image.OutOfMemory = any.OutOfMemory
