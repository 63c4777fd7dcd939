-- `read_survey`: its clause `ok`, and what `hash_file` requires.
use Rattle.std.proofs.Common.{◌∙◌, ℕ, List, length, ap, sym, arith}
use Rattle.sha2.specs.Sha256.{sha256}
use Rattle.byte_map.specs.Image.{Run}
use Rattle.job_text.proofs.OneTextLemmas.{has_fields}
use Rattle.job_file.proofs.TextLemmas.{some_cells, snapshot_within}
use Rattle.job_parts.specs.Listing.{bytes_of}
use Rattle.job_parts.proofs.LengthLemmas.{snapshot_there}
use Rattle.job_parts.proofs.listing.read_survey.Goals as goal

pub hash_file-requires-clause-told : goal.hash_file-requires-clause-told
hash_file-requires-clause-told g c = λ told.
    let job = c.args.job.now in
    let within = snapshot_within job (g.B.Bench.state c.args.bench.now).file 0 c.cells.result (c.requires told)
    (some_cells job) (omega (arith, c.cells.ensures)) in
    omega (arith, within, c.from.ensures, ap (λ (l : List ℕ). length l) (c.in_ok-lengths.ensures.reads.file told))

pub returns-clause-ok : goal.returns-clause-ok
returns-clause-ok g c = λ told stands. record {
  format = (c.in_ok-lengths.ensures.ok told stands.text (has_fields stands.text _ _ stands.is) stands.whole).format;
  image = c.hash_image.ensures ∙ ap (λ (rs : List Run). sha256 (bytes_of rs)) (sym stands.image);
  snapshot = c.in_ok-snapshot.ensures.ok told ∙ ap (λ (l : List ℕ). sha256 l)
      (snapshot_there c.args.job.now _ _ stands c.from.result (c.in_ok-lengths.ensures.reads.file told) (c.from.ensures ∙ c.cells.ensures));
}
