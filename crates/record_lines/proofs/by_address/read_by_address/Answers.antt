-- `read_by_address`: its contract, `IsImageOfText`.
use Rattle.std.proofs.Common.{arith}
use Rattle.std.proofs.lemmas.Option.{IfSome_then}
use Rattle.std.proofs.lemmas.Grind.{common_steps}
use Rattle.octets.specs.Lines.{lines_of}
use Rattle.record_lines.proofs.Unions.{union_permuted}
use Rattle.record_lines.proofs.Gathering.{union_is_image}
use Rattle.record_lines.proofs.by_address.read_by_address.Goals as goal

pub returns : goal.returns
returns g c =
    let f = g.S.RecordFormat.format in
    let lines = lines_of c.args.text.now in
    let runs = c.in_ok-gathered.gathered in
    IfSome_then c.lay_all.result c.lay_all.ensures
    (λ image union. union_is_image f lines runs image c.in_ok-gathered.ensures (union_permuted runs c.sort.new.self image c.sort.ensures union))

pub returns-in_err-ok : goal.returns-in_err-ok
returns-in_err-ok g c = grind (arith, common_steps)
