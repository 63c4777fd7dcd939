-- `put_device`: its clauses `bytes` and `fits`.
use Rattle.std.proofs.Common.{◌++◌, ℕ, List, [], ◌∷◌, ap, ◌∙◌, arith}
use Rattle.std.proofs.lemmas.Result.{on_ok_weaker}
use Rattle.flm_forge.specs.Device.{device_bytes, name_field, on_chip, version}
use Rattle.flm_forge.specs.Fields.{half_bytes, words_bytes}
use Rattle.flm_forge.proofs.WriteLemmas.{six_parts}
use Rattle.flm_forge.proofs.device.put_device.Goals as goal

pub returns-clause-bytes : goal.returns-clause-bytes
unfolding device_bytes
returns-clause-bytes c =
    let l = c.args.l.now in
    let named = c.in_ok-put_name.ensures ∙ ap (λ (text : List ℕ). c.put_halves.new.out.items ++ name_field text) c.bytes.ensures in
    on_ok_weaker c.put_words-2.result
    (λ last. six_parts c.args.out.now.items (half_bytes version) (name_field l.name) (half_bytes on_chip) (words_bytes (l.base ∷ l.size ∷ l.page ∷ 0 ∷ []))
    (l.empty ∷ 0 ∷ 0 ∷ 0 ∷ []) (words_bytes (l.to_prog ∷ l.to_erase ∷ []))
    c.put_halves.new.out.items c.put_name.new.out.items c.put_halves-2.new.out.items c.put_words.new.out.items c.put.new.out.items c.put_words-2.new.out.items
    c.in_ok-put_halves.ensures named c.in_ok-put_halves-2.ensures c.in_ok-put_words.ensures.bytes c.in_ok-put.ensures last)
    c.put_words-2.ensures.bytes

pub returns-clause-fits : goal.returns-clause-fits
returns-clause-fits c =
    let first = c.in_ok-put_words.ensures.fit in
    on_ok_weaker c.put_words-2.result
    (λ last. record {
      base = first 0 0 (omega arith);
      size = first 1 0 (omega arith);
      page = first 2 0 (omega arith);
      to_prog = last 0 0 (omega arith);
      to_erase = last 1 0 (omega arith);
    })
    c.put_words-2.ensures.fit
