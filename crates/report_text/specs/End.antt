-- The line of an end.
use Rattle.std.specs.Prelude.{ℕ, List, codes}
use Rattle.report_text.specs.declared.end.End.{End}
use Rattle.report_text.specs.declared.end.End.TheVariants.{Done, Begun, Same}

abbrev pub end_text : End → List ℕ
end_text Done = codes "done\n"
end_text Begun = codes "begun\n"
end_text Same = codes "same\n"
