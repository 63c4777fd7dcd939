-- A text of a map, or a file of it, is read as that map and as no other.
use Rattle.std.proofs.Common.{◌≡◌, sym, subst, refl, ℕ, Bool, false, List, [], ◌∷◌, ◌++◌, Option, Some, None}
use Rattle.std.specs.Prelude.{codes}
use Rattle.octets.specs.Lines.{lines_of}
use Rattle.byte_map.specs.Image.{Run}
use Rattle.record_lines.specs.Format.{IsImageOfText}
use Rattle.record_lines.proofs.OneReading.{one_text_image}
use Rattle.image_hex.specs.Hex.{hex}
use Rattle.image_srec.specs.Srec.{srec}
use Rattle.image_set.specs.declared.form.Form.{Form}
use Rattle.image_set.specs.declared.form.Form.TheVariants as form
use Rattle.image_set.specs.Form.{form_of}
use Rattle.image_set.specs.Read.{IsImageOfForm}
use Rattle.image_more.specs.declared.form.RowForm.TheVariants.{Hex, Srec}
use Rattle.image_more.specs.Rows.{rows_of}
use Rattle.image_more.specs.Texts.{hex_line, rows_lines, hex_lines, srec_lines, hex_text, srec_text, text_of}
use Rattle.image_more.specs.Maps.{IsByteMap}
use Rattle.image_more.specs.Any.{is_uf2, IsImageBy, IsAnyImage}
use Rattle.image_more.proofs.HexLemmas.{hex_is_read}
use Rattle.image_more.proofs.SrecLemmas.{srec_is_read}

pub hex_read_alone : (map other : List Run) → IsByteMap map → IsImageOfText hex (lines_of (hex_text map)) other → other ≡ map
hex_read_alone map other is read = one_text_image hex (lines_of (hex_text map)) other map read (hex_is_read map is)

pub srec_read_alone : (map other : List Run) → IsByteMap map → IsImageOfText srec (lines_of (srec_text map)) other → other ≡ map
srec_read_alone map other is read = one_text_image srec (lines_of (srec_text map)) other map read (srec_is_read map is)

-- The first byte of a text shows its form.

begins_hex : (rows : List Run) → form_of None (text_of (rows_lines (Hex None) rows ++ codes ":00000001FF" ∷ [])) ≡ Some form.Hex
unfolding hex_line
begins_hex [] = refl
begins_hex (row ∷ rows) = refl

no_uf2_hex : (rows : List Run) → is_uf2 None (text_of (rows_lines (Hex None) rows ++ codes ":00000001FF" ∷ [])) ≡ false
unfolding hex_line
no_uf2_hex [] = refl
no_uf2_hex (row ∷ rows) = refl

hex_form : (map : List Run) → form_of None (hex_text map) ≡ Some form.Hex
unfolding hex_lines
hex_form map = begins_hex (rows_of map)

hex_not_uf2 : (map : List Run) → is_uf2 None (hex_text map) ≡ false
unfolding hex_lines
hex_not_uf2 map = no_uf2_hex (rows_of map)

srec_form : (map : List Run) → form_of None (srec_text map) ≡ Some form.Srec
unfolding srec_lines
srec_form map = refl

srec_not_uf2 : (map : List Run) → is_uf2 None (srec_text map) ≡ false
unfolding srec_lines
srec_not_uf2 map = refl

file_of : (bytes : List ℕ) (f : Form) (image : List Run) → is_uf2 None bytes ≡ false → form_of None bytes ≡ Some f → IsImageOfForm (Some f) bytes image →
    IsAnyImage None bytes image
file_of bytes f image no_uf2 form_is image_is =
    subst (λ (b : Bool). IsImageBy b None bytes image) (sym no_uf2) (subst (λ (g : Option Form). IsImageOfForm g bytes image) (sym form_is) image_is)

of_file : (bytes : List ℕ) (f : Form) (image : List Run) → is_uf2 None bytes ≡ false → form_of None bytes ≡ Some f → IsAnyImage None bytes image →
    IsImageOfForm (Some f) bytes image
of_file bytes f image no_uf2 form_is any =
    subst (λ (g : Option Form). IsImageOfForm g bytes image) form_is (subst (λ (b : Bool). IsImageBy b None bytes image) no_uf2 any)

pub hex_file : (map : List Run) → IsByteMap map → IsAnyImage None (hex_text map) map
hex_file map is = file_of (hex_text map) form.Hex map (hex_not_uf2 map) (hex_form map) (hex_is_read map is)

pub hex_file_alone : (map other : List Run) → IsByteMap map → IsAnyImage None (hex_text map) other → other ≡ map
hex_file_alone map other is any = hex_read_alone map other is (of_file (hex_text map) form.Hex other (hex_not_uf2 map) (hex_form map) any)

pub srec_file : (map : List Run) → IsByteMap map → IsAnyImage None (srec_text map) map
srec_file map is = file_of (srec_text map) form.Srec map (srec_not_uf2 map) (srec_form map) (srec_is_read map is)

pub srec_file_alone : (map other : List Run) → IsByteMap map → IsAnyImage None (srec_text map) other → other ≡ map
srec_file_alone map other is any = srec_read_alone map other is (of_file (srec_text map) form.Srec other (srec_not_uf2 map) (srec_form map) any)
