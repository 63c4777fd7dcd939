-- The table of a controller of any kind: it does what the table of the controller's own kind says.
use Rattle.std.specs.Prelude.{ℕ, Bool, List, Option}
use Rattle.board_file.specs.declared.kind.ControllerKind.{ControllerKind}
use Rattle.board_file.specs.declared.kind.ControllerKind.TheVariants as kind
use Rattle.flash_layout.specs.declared.area.Area.{Area}
use Rattle.flash_layout.specs.declared.area.Found.{Found}
use Rattle.flash_layout.specs.declared.work.Operation.{Operation}
use Rattle.flash_layout.specs.Maps.{FlashMap}
use Rattle.flash_driver.specs.declared.state.Effect.{Effect}
use Rattle.flash_driver.specs.Table.{Table}
use Rattle.flash_controller.specs.Table.{fc1_table}
use Rattle.fpec_controller.specs.Table.{fpec_table}
use Rattle.target_core.specs.declared.unit.AnyRegisters.{AnyRegisters}
use Rattle.target_core.specs.declared.unit.AnyRegisters.TheVariants.{Fc1, Fpec}

abbrev pub any_block : ControllerKind → ℕ
any_block kind.Fc1 = fc1_table.block kind.Fc1
any_block kind.Fpec = fpec_table.block kind.Fpec

abbrev pub any_fresh : ControllerKind → AnyRegisters
any_fresh kind.Fc1 = Fc1 (fc1_table.fresh kind.Fc1)
any_fresh kind.Fpec = Fpec (fpec_table.fresh kind.Fpec)

abbrev pub any_load : AnyRegisters → Option Operation → ℕ → Option ℕ
any_load (Fc1 s) runs offset = fc1_table.load s runs offset
any_load (Fpec s) runs offset = fpec_table.load s runs offset

-- the effect of a store, with the registers of one kind as registers of any kind
abbrev pub does_as : {R : Type 0} → (R → AnyRegisters) → Effect × R → Effect × AnyRegisters
does_as of p = (p.0, of p.1)

abbrev pub any_store : FlashMap → AnyRegisters → Option Operation → ℕ → ℕ → Effect × AnyRegisters
any_store map (Fc1 s) runs offset value = does_as Fc1 (fc1_table.store map s runs offset value)
any_store map (Fpec s) runs offset value = does_as Fpec (fpec_table.store map s runs offset value)

abbrev pub any_looks : AnyRegisters → Area → ℕ → ℕ → Bool
any_looks (Fc1 s) area width value = fc1_table.looks s area width value
any_looks (Fpec s) area width value = fpec_table.looks s area width value

abbrev pub any_program : FlashMap → AnyRegisters → Found → ℕ → ℕ → List ℕ → Effect × AnyRegisters
any_program map (Fc1 s) found width value seen = does_as Fc1 (fc1_table.program map s found width value seen)
any_program map (Fpec s) found width value seen = does_as Fpec (fpec_table.program map s found width value seen)

abbrev pub any_ended : AnyRegisters → AnyRegisters
any_ended (Fc1 s) = Fc1 (fc1_table.ended s)
any_ended (Fpec s) = Fpec (fpec_table.ended s)

abbrev pub any_table : Table AnyRegisters
any_table = record { block = any_block; fresh = any_fresh; load = any_load; store = any_store; looks = any_looks; program = any_program; ended = any_ended }
