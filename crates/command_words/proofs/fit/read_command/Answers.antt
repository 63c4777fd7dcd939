-- `read_command`: that it keeps its contract.
use Rattle.std.proofs.Common.{arith}
use Rattle.std.proofs.lemmas.Grind.{common_steps}
use Rattle.command_words.proofs.fit.read_command.Goals as goal

pub returns-in_ok-form-in-Dump : goal.returns-in_ok-form-in-Dump
returns-in_ok-form-in-Dump c = grind (arith, common_steps)

pub returns-in_ok-board_and_images-in-Verify : goal.returns-in_ok-board_and_images-in-Verify
returns-in_ok-board_and_images-in-Verify c = grind (arith, common_steps)

pub returns-in_err-only_name-in-Inspect : goal.returns-in_err-only_name-in-Inspect
returns-in_err-only_name-in-Inspect c = grind (arith, common_steps)

pub returns-in_ok-target_and_images-in-Begin : goal.returns-in_ok-target_and_images-in-Begin
returns-in_ok-target_and_images-in-Begin c = grind (arith, common_steps)

pub returns-in_err-target_and_images-in-Begin : goal.returns-in_err-target_and_images-in-Begin
returns-in_err-target_and_images-in-Begin c = grind (arith, common_steps)

pub returns-in_ok-only_name-in-Compare : goal.returns-in_ok-only_name-in-Compare
returns-in_ok-only_name-in-Compare c = grind (arith, common_steps)

pub returns-in_ok-target_and_images-in-Plan : goal.returns-in_ok-target_and_images-in-Plan
returns-in_ok-target_and_images-in-Plan c = grind (arith, common_steps)

pub returns-in_ok-only_number-in-Demo : goal.returns-in_ok-only_number-in-Demo
returns-in_ok-only_number-in-Demo c = grind (arith, common_steps)

pub returns-in_err-target_and_images-in-Program : goal.returns-in_err-target_and_images-in-Program
returns-in_err-target_and_images-in-Program c = grind (arith, common_steps)

pub returns-in_err-target_and_images-in-Plan : goal.returns-in_err-target_and_images-in-Plan
returns-in_err-target_and_images-in-Plan c = grind (arith, common_steps)

pub returns-in_err-only_name-in-Compare : goal.returns-in_err-only_name-in-Compare
returns-in_err-only_name-in-Compare c = grind (arith, common_steps)

pub returns-in_ok-target_and_images-in-Program : goal.returns-in_ok-target_and_images-in-Program
returns-in_ok-target_and_images-in-Program c = grind (arith, common_steps)

pub returns-in_err-board_and_images-in-Verify : goal.returns-in_err-board_and_images-in-Verify
returns-in_err-board_and_images-in-Verify c = grind (arith, common_steps)

pub returns-in_err-form-in-Dump : goal.returns-in_err-form-in-Dump
returns-in_err-form-in-Dump c = grind (arith, common_steps)

pub returns-in_ok-only_name-in-Inspect : goal.returns-in_ok-only_name-in-Inspect
returns-in_ok-only_name-in-Inspect c = grind (arith, common_steps)
