-- `read_head`: its clause `said`, and what `read_head_into` requires.
use Rattle.std.proofs.Common.{◌≡◌, ap, drop, arith, refl}
use Rattle.std.proofs.lemmas.Grind.{common_steps}
use Rattle.job_text.specs.declared.head.Places.{Places}
use Rattle.job_text.specs.Reading.{places_of}
use Rattle.bench_model.proofs.Moments.{only_reads_here}
use Rattle.bench_model.proofs.CountLemmas.{none_counted}
use Rattle.job_file.proofs.JobLemmas.{front_is, head_gives, head_cut}
use Rattle.job_file.proofs.class.read_head.Goals as goal

pub returns-then-whole-places-clause-said : goal.returns-then-whole-places-clause-said
returns-then-whole-places-clause-said g c = λ told.
    let front : c.places_in-places.result.front ≡ (places_of c.args.format).front = ap (λ (p : Places). p.front) c.places_in-places.ensures.value in
    head_cut c.args.whole c.args.format (drop 1 (g.B.Bench.state c.args.bench.now).file) (omega (arith, front))

pub read_head_into-requires-clause-long : goal.read_head_into-requires-clause-long
read_head_into-requires-clause-long g c =
    let front : c.places_in-places.result.front ≡ (places_of c.args.format).front = ap (λ (p : Places). p.front) c.places_in-places.ensures.value in
    omega (arith, front, front_is c.args.format)

pub returns-clause-said : goal.returns-clause-said
returns-clause-said g c = λ told.
    let front : c.places_in-places.result.front ≡ (places_of c.args.format).front = ap (λ (p : Places). p.front) c.places_in-places.ensures.value in
    head_gives c.args.whole c.args.format (g.B.Bench.state c.args.bench.now).file c.read_head_into.result (omega (arith, front))
    (c.read_head_into.ensures.said told)

pub read_head_into-requires-clause-room : goal.read_head_into-requires-clause-room
read_head_into-requires-clause-room g c = grind (arith, common_steps)

pub returns-clause-long : goal.returns-clause-long
returns-clause-long g c = grind (arith, common_steps)

pub returns-then-whole-places-clause-reads : goal.returns-then-whole-places-clause-reads
returns-then-whole-places-clause-reads g c = only_reads_here _ _

pub returns-then-whole-places-clause-counted : goal.returns-then-whole-places-clause-counted
returns-then-whole-places-clause-counted g c = none_counted _ _ refl
