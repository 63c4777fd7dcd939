-- `gather_srec_line`: its contract, `Gathers`.
use Rattle.std.proofs.Common.{◌≡◌, ◌-◌, ◌%◌, ◌++◌, ◌∙◌, sym, ap, append-nil, ℕ, List, [], ◌∷◌}
use Rattle.std.specs.Prelude.{sum}
use Rattle.byte_map.specs.Image.{Run}
use Rattle.image_srec.specs.Record.{checksum_of}
use Rattle.image_more.specs.Texts.{digits, srec_bytes, srec_line}
use Rattle.outside_io.proofs.GatherLemmas.{gathers_as}
use Rattle.image_more.proofs.line.gather_srec_line.Goals as goal

pub returns : goal.returns
unfolding srec_line
returns g c =
    let row : Run = record { at = c.args.at; bytes = c.args.bytes.now } in
    let front = c.pack_srec-packed.ensures.items in
    let total : c.byte_sum-total.result ≡ sum (srec_bytes row) = c.byte_sum-total.ensures ∙ ap sum (c.as_slice.ensures.value ∙ front) in
    let packed : c.as_slice-2.result.now ≡ srec_bytes row ++ checksum_of (srec_bytes row) ∷ [] =
    c.as_slice-2.ensures.value
    ∙ c.push.ensures.items
    ∙ ap (λ (l : List ℕ). l ++ (255 - c.byte_sum-total.result % 256) ∷ []) front
    ∙ ap (λ (n : ℕ). srec_bytes row ++ (255 - n % 256) ∷ []) total in
    gathers_as (ap (λ (l : List ℕ). 83 ∷ 51 ∷ (digits l ++ 10 ∷ [])) packed ∙ sym (append-nil (srec_line row ++ 10 ∷ []))) c.gather_digits.ensures
