-- `put_kind`: its contract, `Puts`.
use Rattle.std.proofs.Common.{◌≡◌, ◌∙◌, ◌∷◌, [], List, ℕ, ap, refl}
use Rattle.std.specs.Prelude.{codes, decimal}
use Rattle.std.specs.List.{concat}
use Rattle.flm_descriptor.specs.declared.device.Device.{Device}
use Rattle.octets.specs.Digit.{hex_text}
use Rattle.outside_io.proofs.PutTexts.{puts_as}
use Rattle.report_text.specs.Inspection.{kind_text}
use Rattle.report_text.proofs.inspection.put_kind.Goals as goal

-- the pieces are the lines
in_pieces : (device : Device) (version kind base size : List ℕ) → version ≡ hex_text 4 device.vers → kind ≡ decimal device.kind
    → base ≡ hex_text 8 device.base → size ≡ decimal device.size
    → concat (codes "version " ∷ version ∷ codes "\ntype " ∷ kind ∷ codes "\ndevice " ∷ base ∷ codes " " ∷ size ∷ codes "\n" ∷ []) ≡ kind_text device
unfolding kind_text
in_pieces device version kind base size of_version of_kind of_base of_size = rw (of_version, of_kind, of_base, of_size) refl

pub returns : goal.returns
returns g c =
    puts_as (in_pieces c.args.device.now _ _ _ _ (c.hex_digits-version.ensures ∙ ap (hex_text 4) c.from.ensures)
    (c.as_bytes-kind.ensures.value ∙ c.format.ensures.text) c.hex_digits-base.ensures (c.as_bytes-size.ensures.value ∙ c.format-2.ensures.text))
    c.put_pieces.ensures
