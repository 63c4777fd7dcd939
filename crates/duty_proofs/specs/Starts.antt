-- The marks at the beginning of a call, and the marks between calls.
use Rattle.std.specs.Prelude.{◌+◌, ℕ, zero, suc, true, List, [], ◌∷◌, map, replicate}
use Rattle.shadow_step.specs.declared.marks.Mark.{Mark}
use Rattle.shadow_step.specs.declared.marks.Mark.TheVariants.{Known, Page, Any}
use Rattle.shadow_step.specs.declared.marks.CoreMarks.{CoreMarks}
use Rattle.duty_proofs.specs.declared.cells.CellMark.{CellMark}
use Rattle.duty_proofs.specs.TargetMarks.{TargetMarks, laid}

-- the marks of the core at a call: its frame sets all registers and flags, so all are known
abbrev pub all_known : CoreMarks
all_known = record { regs = replicate 16 Known; n = true; z = true; c = true; v = true; primask = true }

-- the marks of n bytes of the page, from place i on
unfoldable pub names : ℕ → ℕ → List Mark
names i zero = []
names i (suc n) = Page 1 i ∷ names (i + 1) n

-- the marks at the beginning of a call: the buffer holds n bytes of the page, and the cells from a place on have these marks
abbrev pub started : TargetMarks → ℕ → ℕ → ℕ → List CellMark → TargetMarks
started m buffer n from cells = record m { ram = laid buffer (names 0 n) m.ram; from = from; cells = cells }

-- a mark without the page: a page belongs to one call
abbrev pub unnamed : Mark → Mark
unnamed (Page w x) = Any
unnamed m = m

-- the marks between calls: none of the page, and none of cells
abbrev pub forgotten : TargetMarks → TargetMarks
forgotten m = record m { ram = map unnamed m.ram; value = Known; from = 0; cells = [] }
