-- The fault of a read of cells, or of the bytes wanted of them.
use Rattle.std.specs.Prelude.{Option, Some}
use Rattle.bench_model.specs.Counted.{BenchFault, store, device}
use Rattle.flash_session.specs.declared.windows.Unread.{Unread}
use Rattle.flash_session.specs.declared.windows.Unread.TheVariants as unread

abbrev pub unread_fault : Unread → Option BenchFault
unread_fault unread.Device = Some device
unread_fault unread.Store = Some store
