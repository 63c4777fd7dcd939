-- The end that a target shows.
use Rattle.std.specs.Prelude.{◌≡◌, Option, Some, None}
use Rattle.std.specs.Borrow.{Bor}
use Rattle.flash_session.specs.declared.cursor.Place.{Place}
use Rattle.flash_session.specs.declared.cursor.Place.TheVariants as place
use Rattle.flash_session.specs.declared.target_end.TargetEnd.{TargetEnd}

-- the end that a target shows at a place, or none where it hasn't ended
abbrev pub IsEndAt : Place → Option (Bor TargetEnd) → Type 0
IsEndAt (place.At c) None = Unit {0}
IsEndAt (place.At c) (Some e) = ⊥
IsEndAt (place.In call len left next) None = Unit {0}
IsEndAt (place.In call len left next) (Some e) = ⊥
IsEndAt (place.Comparing at) None = Unit {0}
IsEndAt (place.Comparing at) (Some e) = ⊥
IsEndAt place.Closing None = Unit {0}
IsEndAt place.Closing (Some e) = ⊥
IsEndAt (place.Ended end) None = ⊥
IsEndAt (place.Ended end) (Some e) = e.now ≡ end
