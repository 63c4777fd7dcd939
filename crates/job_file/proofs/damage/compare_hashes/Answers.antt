-- `compare_hashes`: its clauses `ok`, `differ`, `reads` and `cause`, and what `read_kept` requires.
use Rattle.std.proofs.Common.{◌∙◌, ℕ, List, take, drop, length, ap, sym, arith, refl}
use Rattle.std.proofs.lemmas.List.{length-drop, drop-drop}
use Rattle.sha2.specs.Sha256.{sha256}
use Rattle.bench_model.proofs.Moments.{only_reads_then, only_reads_here}
use Rattle.job_file.proofs.HashLemmas.{short_intact, damage_is, they_differ}
use Rattle.job_file.proofs.CountLemmas.{none_caused}
use Rattle.job_file.proofs.damage.compare_hashes.Goals as goal

pub returns-then-whole-lt-FRONT-clause-ok : goal.returns-then-whole-lt-FRONT-clause-ok
returns-then-whole-lt-FRONT-clause-ok g c = λ told.
    let file = (g.B.Bench.state c.args.bench.now).file in
    short_intact (drop 1 file) (omega (arith, c.requires.told told, length-drop 1 file))

pub read_kept-requires : goal.read_kept-requires
read_kept-requires g c = λ told. omega (arith, c.requires.told told, ap (λ (l : List ℕ). length l) (c.read_hash.ensures.reads.file told))

pub returns-clause-ok : goal.returns-clause-ok
returns-clause-ok g c = λ told.
    let file = (g.B.Bench.state c.args.bench.now).file in
    damage_is (drop 1 file) c.in_ok-kept.kept c.in_ok-found.found c.differing.result (omega (arith, c.requires.told told, length-drop 1 file))
    (c.requires.second told)
    (c.in_ok-kept.ensures.ok told ∙ ap (λ (l : List ℕ). take 32 (drop 8 l)) (c.read_hash.ensures.reads.file told)
    ∙ ap (λ (l : List ℕ). take 32 l) (sym (drop-drop 7 1 file)))
    (c.in_ok-found.ensures.ok told ∙ ap (λ (l : List ℕ). sha256 l) (sym (drop-drop 39 1 file)))
    c.differing.ensures

pub returns-clause-differ : goal.returns-clause-differ
returns-clause-differ g c = they_differ c.in_ok-kept.kept c.in_ok-found.found c.differing.result c.differing.ensures

pub returns-clause-reads : goal.returns-clause-reads
returns-clause-reads g c = only_reads_then c.read_hash.ensures.reads c.read_kept.ensures.reads

pub returns-clause-cause : goal.returns-clause-cause
returns-clause-cause g c = none_caused _ (c.in_ok-kept.ensures.cause.on_ok refl ∙ c.in_ok-found.ensures.cause.on_ok refl)

pub returns-then-whole-lt-FRONT-clause-cause : goal.returns-then-whole-lt-FRONT-clause-cause
returns-then-whole-lt-FRONT-clause-cause g c = none_caused _ refl

pub returns-then-whole-lt-FRONT-clause-reads : goal.returns-then-whole-lt-FRONT-clause-reads
returns-then-whole-lt-FRONT-clause-reads g c = only_reads_here _ _
