-- The command that a request stands for.
use Rattle.std.specs.Prelude.{option_copied}
use Rattle.command_words.specs.Files.{FilesAsked}
use Rattle.command_words.specs.Words.{Command, program, begin, resume, revert, plan, verify, compare, status, inspect, dump, demo}
use Rattle.command_words.specs.Names.{names_of}
use Rattle.command_words.specs.declared.command.FileNames.{FileNames}
use Rattle.command_words.specs.declared.command.Request.{Request}
use Rattle.command_words.specs.declared.command.Request.TheVariants.{Program, Begin, Resume, Revert, Plan, Verify, Compare, Status, Inspect, Dump, Demo}

abbrev pub files_of : FileNames → FilesAsked
files_of files = record {
  raw_at = files.raw_at;
  board = files.board.now;
  flm = option_copied files.flm;
  images = names_of files.images;
}

abbrev pub command_of : Request → Command
command_of (Program files) = program (files_of files)
command_of (Begin files) = begin (files_of files)
command_of Resume = resume
command_of Revert = revert
command_of (Plan files) = plan (files_of files)
command_of (Verify files) = verify (files_of files)
command_of (Compare image) = compare image.now
command_of Status = status
command_of (Inspect flm) = inspect flm.now
command_of (Dump form board) = dump form board.now
command_of (Demo seed) = demo seed
