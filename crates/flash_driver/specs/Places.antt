-- What an access to an address goes to.
use Rattle.std.specs.Prelude.{◌≡◌, ◌-◌, ℕ, ◌&&◌, nat_eq, nat_lt, nat_le, if◌then◌else◌, Option, Some, None}
use Rattle.flash_layout.specs.declared.area.Found.{Found}
use Rattle.flash_layout.specs.Areas.{find, FoundInside}
use Rattle.flash_layout.specs.Maps.{FlashMap}
use Rattle.flash_driver.specs.declared.place.Place.{Place}
use Rattle.flash_driver.specs.declared.place.Place.TheVariants as place

abbrev pub of_found : Option Found → Place
of_found None = place.Nowhere
of_found (Some found) = place.Flash found

-- What an access of `width` bytes goes to. In the controller's block only accesses of words go to a register.
unfoldable pub place_of : FlashMap → ℕ → ℕ → Place
place_of map at width =
    if nat_le map.base at && nat_lt (at - map.base) map.block then (if nat_eq width 4 then place.Register (at - map.base) else place.Nowhere)
    else of_found (find map.areas 0 at)

-- only a word goes to a register; an access to a cell of the flash lies among the cells
abbrev pub PlaceInside : FlashMap → ℕ → ℕ → Place → Type 0
PlaceInside map at width (place.Register offset) = width ≡ 4
PlaceInside map at width (place.Flash found) = FoundInside map.areas at found
PlaceInside map at width place.Nowhere = Unit {0}
