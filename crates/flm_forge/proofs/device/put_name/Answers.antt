-- `put_name`: that it keeps its contract.
use Rattle.std.proofs.lemmas.Result.{on_ok_weaker}
use Rattle.flm_forge.proofs.WriteLemmas.{name_parts}
use Rattle.flm_forge.proofs.device.put_name.Goals as goal

pub returns : goal.returns
returns c =
    on_ok_weaker c.put_zeros.result
    (λ last. name_parts c.args.name.now c.min-len.result c.args.out.now.items c.put.new.out.items c.put_zeros.new.out.items c.min-len.ensures
    c.in_ok-put.ensures last)
    c.put_zeros.ensures
