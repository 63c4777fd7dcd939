-- `put_values`: its contract, `Puts`.
use Rattle.std.proofs.Common.{◌≡◌, ◌∙◌, ◌∷◌, [], List, ℕ, ap, refl}
use Rattle.std.specs.Prelude.{codes, decimal}
use Rattle.std.specs.List.{concat}
use Rattle.flm_descriptor.specs.declared.device.Device.{Device}
use Rattle.octets.specs.Digit.{hex_text}
use Rattle.outside_io.proofs.PutTexts.{puts_as}
use Rattle.report_text.specs.Inspection.{values_text}
use Rattle.report_text.proofs.inspection.put_values.Goals as goal

-- the pieces are the lines
in_pieces : (device : Device) (page empty reserved prog erase : List ℕ) → page ≡ decimal device.page → empty ≡ hex_text 2 device.empty
    → reserved ≡ hex_text 8 device.res → prog ≡ decimal device.to_prog → erase ≡ decimal device.to_erase
    → concat (codes "page " ∷ page ∷ codes "\nempty " ∷ empty ∷ codes "\nreserved " ∷ reserved ∷ codes "\ntimes " ∷ prog ∷ codes " " ∷ erase ∷ codes "\n" ∷ [])
    ≡ values_text device
unfolding values_text
in_pieces device page empty reserved prog erase of_page of_empty of_reserved of_prog of_erase = rw (of_page, of_empty, of_reserved, of_prog, of_erase) refl

pub returns : goal.returns
returns g c =
    puts_as (in_pieces c.args.device.now _ _ _ _ _ (c.as_bytes-page.ensures.value ∙ c.format.ensures.text)
    (c.hex_digits-empty.ensures ∙ ap (hex_text 2) c.from.ensures) c.hex_digits-reserved.ensures
    (c.as_bytes-prog.ensures.value ∙ c.format-2.ensures.text) (c.as_bytes-erase.ensures.value ∙ c.format-3.ensures.text))
    c.put_pieces.ensures
