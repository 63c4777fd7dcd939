-- `beginning_in`: its clauses `below` and `others`.
use Rattle.std.proofs.Common.{◌^◌, [], rules, arith}
use Rattle.std.specs.Prelude.{nat_lt}
use Rattle.std.proofs.lemmas.Bool.Decides.{nat_tests}
use Rattle.std.proofs.lemmas.List.Sorted.{IsPartitionPoint-from_clause, IsPartitionedBy-ltb, IsNonDecreasingBy-from_default}
use Rattle.byte_map.specs.Image.{Run}
use Rattle.byte_map.proofs.Runs.{at_rises}
use Rattle.byte_map.proofs.chunk.beginning_in.Goals as goal

pub returns-clause-below : goal.returns-clause-below
returns-clause-below c =
    let rises = IsNonDecreasingBy-from_default (λ (r : Run). r.at) c.args.runs.now (record { at = 0; bytes = [] })
    (λ i j. at_rises (2 ^ 32) c.args.runs.now i j c.requires) in
    let parted = IsPartitionedBy-ltb (λ (r : Run). r.at) c.args.runs.now c.args.address rises in
    let point = IsPartitionPoint-from_clause (λ (r : Run). nat_lt (r.at) c.args.address) _ _ c.partition_point.ensures.partitioned parted
    (λ a r q k. search rules) in
    λ k lt. let passed = point.0 k (record { at = 0; bytes = [] }) (omega arith) lt in grind (arith, nat_tests)

pub returns-clause-others : goal.returns-clause-others
returns-clause-others c =
    let rises = IsNonDecreasingBy-from_default (λ (r : Run). r.at) c.args.runs.now (record { at = 0; bytes = [] })
    (λ i j. at_rises (2 ^ 32) c.args.runs.now i j c.requires) in
    let parted = IsPartitionedBy-ltb (λ (r : Run). r.at) c.args.runs.now c.args.address rises in
    let point = IsPartitionPoint-from_clause (λ (r : Run). nat_lt (r.at) c.args.address) _ _ c.partition_point.ensures.partitioned parted
    (λ a r q k. search rules) in
    λ k le lt. let failed = point.1 k (record { at = 0; bytes = [] }) le lt in grind (arith, nat_tests)
