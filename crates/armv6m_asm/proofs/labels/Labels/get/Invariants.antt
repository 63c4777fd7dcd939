-- `Labels::get`: what holds at each turn of its loop.
use Rattle.std.proofs.Common.{take}
use Rattle.std.specs.Prelude.{Contains}
use Rattle.armv6m_asm.specs.Label.{names_of}
use Rattle.armv6m_asm.proofs.labels.Labels.get.Given as goal

abbrev pub invariant-loop-label : goal.invariant-loop-label
invariant-loop-label l = Contains (names_of (take l.label-index l.label-items)) l.name → ⊥
