-- `lay_run`: its clauses `ok` and `refused`.
use Rattle.std.proofs.Common.{[], OnOk, IfErr, sym, subst}
use Rattle.std.proofs.lemmas.Option.{get_or_from_slice_get}
use Rattle.byte_map.specs.Image.{Run}
use Rattle.byte_map.specs.Laying.{Lays, IsLayFault}
use Rattle.image_set.proofs.union.lay_run.Goals as goal

pub returns-clause-ok : goal.returns-clause-ok
returns-clause-ok c =
    let run = get_or_from_slice_get c.args.image.now c.args.index _ (record { at = 0; bytes = [] }) c.run-at.ensures in
    subst (λ (r : Run). OnOk c.lay.result (Lays r c.args.union.now c.lay.new.self)) (sym run) c.lay.ensures.ok

pub returns-clause-refused : goal.returns-clause-refused
returns-clause-refused c =
    let run = get_or_from_slice_get c.args.image.now c.args.index _ (record { at = 0; bytes = [] }) c.run-at.ensures in
    subst (λ (r : Run). IfErr c.lay.result (IsLayFault r c.args.union.now)) (sym run) c.lay.ensures.refused
