-- `Driver::program`: that it keeps its contract, and what `take` requires.
use Rattle.flash_driver.proofs.RowLemmas.{blind_store}
use Rattle.std.proofs.Common.{ap, ◌∙◌, sym, subst, Option, []}
use Rattle.flash_layout.specs.Maps.{map_of}
use Rattle.flash_layout.specs.Work.{range_of}
use Rattle.flash_driver.proofs.TouchLemmas.{look_then}
use Rattle.std.proofs.lemmas.Bool.{false≢true}
use Rattle.flash_layout.specs.declared.work.Operation.{Operation}
use Rattle.flash_layout.specs.Areas.{cells_in}
use Rattle.flash_driver.specs.Table.{MayBegin}
use Rattle.flash_driver.proofs.driver.Driver.program.Goals as goal

pub returns-clause-touches : goal.returns-clause-touches
returns-clause-touches g c =
    look_then _ _ _ _ _ _ _ (λ told. c.requires.agrees.operation told ∙ ap range_of c.requires.idle) c.look.ensures.bench c.in_ok-look.ensures.cause
    c.take-2.ensures.touches

pub returns-clause-elsewhere : goal.returns-clause-elsewhere
returns-clause-elsewhere g c none = absurd (false≢true (sym none ∙ sym c.looks.ensures ∙ c.if-not-looks.false))

pub take-requires-2-clause-begins : goal.take-requires-2-clause-begins
take-requires-2-clause-begins g c =
    subst (λ (o : Option Operation). MayBegin (cells_in c.args.self.now.layout.areas.items) o c.program-effect-2.result) (sym c.requires.idle)
    c.program-effect-2.ensures.begins

pub take-requires-clause-begins : goal.take-requires-clause-begins
take-requires-clause-begins g c =
    subst (λ (o : Option Operation). MayBegin (cells_in c.args.self.now.layout.areas.items) o c.program-effect.result) (sym c.requires.idle)
    c.program-effect.ensures.begins

pub returns-then-not-looks-clause-elsewhere : goal.returns-then-not-looks-clause-elsewhere
returns-then-not-looks-clause-elsewhere g c none =
    blind_store g.R.Registers.table (map_of c.args.self.now.layout) c.args.self.now.state [] c.args.width c.args.value c.args.found _ _ _
    (sym c.looks.ensures ∙ c.if-not-looks.true) c.program-effect.ensures.row c.take.ensures.gives

pub returns-then-not-looks-clause-gives : goal.returns-then-not-looks-clause-gives
returns-then-not-looks-clause-gives g c told =
    blind_store g.R.Registers.table (map_of c.args.self.now.layout) c.args.self.now.state (g.B.Bench.state c.args.bench.now).cells c.args.width
    c.args.value c.args.found _ _ _ (sym c.looks.ensures ∙ c.if-not-looks.true) c.program-effect.ensures.row c.take.ensures.gives
