-- `read_lengths`: its clause `ok`, and what the calls ask for.
use Rattle.std.proofs.Common.{◌≡◌, ◌∙◌, ℕ, List, length, ap, sym, arith}
use Rattle.job_text.specs.declared.format.Format.{Format}
use Rattle.job_text.specs.declared.format.Format.TheVariants.{Second}
use Rattle.job_text.specs.Reading.{places_of}
use Rattle.job_parts.proofs.LengthLemmas.{long_file, format_is}
use Rattle.job_parts.proofs.lengths.read_lengths.Goals as goal

pub read_second-requires : goal.read_second-requires
read_second-requires g c = λ told.
    let some = c.requires told in
    let file = (g.B.Bench.state c.args.bench.now).file in
    let is : some.job.format ≡ Second = format_is some.job file some.whole ∙ sym (c.in_ok-read_mark.ensures.ok told) ∙ c.in-Second.is in
    omega (
      arith,
      long_file some.job file some.whole,
      ap (λ (f : Format). (places_of f).front) is,
      ap (λ (l : List ℕ). length l) (c.in_ok-read_mark.ensures.reads.file told),
    )
