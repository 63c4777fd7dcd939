-- `put_cells`: its contract, `PutsCells`, where all was put.
use Rattle.device_dump.proofs.DumpLemmas.{put_done}
use Rattle.device_dump.proofs.text.put_cells.Goals as goal

pub returns : goal.returns
returns g c =
    put_done c.args.form c.args.regions.now c.args.cells.now c.in_ok-map.map g.O.Sink.tells (g.O.Sink.state c.args.out.now)
    (g.O.Sink.state c.put_map.new.out) c.know_bytes.ensures c.requires c.in_ok-map.ensures _ c.in_ok-put_map.ensures
