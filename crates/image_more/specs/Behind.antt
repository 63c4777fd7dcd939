-- What is known after some rows.
use Rattle.std.specs.Prelude.{List, [], ◌∷◌}
use Rattle.byte_map.specs.Image.{Run}
use Rattle.image_more.specs.declared.form.RowForm.{RowForm}
use Rattle.image_more.specs.Texts.{behind}

abbrev pub form_behind : RowForm → List Run → RowForm
form_behind form [] = form
form_behind form (row ∷ rows) = form_behind (behind form row) rows
