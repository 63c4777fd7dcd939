-- A quiet range of a board with RAM has fewer bytes than there are addresses.
use Rattle.std.proofs.Common.{◌≡◌, ◌<◌, ◌≤◌, ◌+◌, ℕ, Bool, true, false, ◌&&◌, ◌||◌, nat_lt, List, [], ◌∷◌, ◌++◌, Option, Some, None, if◌then◌else◌, refl, arith}
use Rattle.std.specs.List.{list_all, list_any}
use Rattle.std.proofs.lemmas.Bool.{ltb-false, lt-ltb}
use Rattle.board_file.specs.declared.kind.ControllerKind.{ControllerKind}
use Rattle.board_file.specs.declared.key.Part.{Part}
use Rattle.board_file.specs.declared.key.Part.TheVariants as part
use Rattle.board_file.specs.declared.place.Placed.{Placed}
use Rattle.board_file.specs.declared.quiet.QuietRange.{QuietRange}
use Rattle.board_file.specs.declared.region.Region.{Region}
use Rattle.board_file.specs.Kinds.{block_of}
use Rattle.board_file.specs.Table.{addresses}
use Rattle.board_file.specs.Limits.{placed, region_parts, quiet_parts, parts_of, share, shared_with, or_later, overlap, ends_late, is_short}

neither : (test : Bool) (q : Part) (later : Option Part) → (if test then Some q else later) ≡ None → (test ≡ false) × (later ≡ None)
neither true q later e = absurd cc
neither false q later e = (refl, e)

shared_later : (p : Placed) (xs ys : List Placed) → shared_with p (xs ++ ys) ≡ None → shared_with p ys ≡ None
shared_later p [] ys e = e
shared_later p (x ∷ xs) ys e = shared_later p xs ys (neither (share p x) x.part (shared_with p (xs ++ ys)) e).1

or_none : (a b : Bool) → (a || b) ≡ false → (a ≡ false) × (b ≡ false)
or_none true b is = absurd cc
or_none false b is = (refl, is)

and_both : (a b : Bool) → a ≡ true → b ≡ true → (a && b) ≡ true
and_both a b one two = rw (one, two) refl

one_short : (p : Placed) (q : QuietRange) → 0 < p.size → p.base + p.size ≤ addresses → ends_late q ≡ false → share p (placed part.Quiet q.base q.size) ≡ false →
    is_short q ≡ true
one_short p q some ends early apart = by_size (nat_lt q.size addresses) refl
  where
    by_size : (b : Bool) → nat_lt q.size addresses ≡ b → is_short q ≡ true
    by_size true short = short
    by_size false long =
        let all : addresses ≤ q.size = ltb-false _ _ long in
        let end : q.base + q.size ≤ addresses = ltb-false _ _ early in
        let left : nat_lt p.base (q.base + q.size) ≡ true = lt-ltb _ _ (omega (arith, all, some, ends)) in
        let right : nat_lt q.base (p.base + p.size) ≡ true = lt-ltb _ _ (omega (arith, all, end, some)) in
        let both : share p (placed part.Quiet q.base q.size) ≡ true = and_both _ _ left right in
        absurd (cc)

all_short : (p : Placed) (qs : List QuietRange) → 0 < p.size → p.base + p.size ≤ addresses → list_any ends_late qs ≡ false →
    shared_with p (quiet_parts qs) ≡ None → list_all is_short qs ≡ true
all_short p [] some ends early e = refl
all_short p (q ∷ qs) some ends early e =
    let now = neither (share p (placed part.Quiet q.base q.size)) part.Quiet (shared_with p (quiet_parts qs)) e in
    let both = or_none (ends_late q) (list_any ends_late qs) early in
    and_both (is_short q) (list_all is_short qs) (one_short p q some ends both.0 now.0) (all_short p qs some ends both.1 now.1)

first_none : (p : Part) (o : Option Part) (later : Option (Part × Part)) → or_later p o later ≡ None → o ≡ None
first_none p None later e = refl
first_none p (Some q) later e = absurd cc

-- the quiet ranges of parts that have no address in common
pub quiet_short : (ram_base ram_size : ℕ) (regions : List Region) (k : ControllerKind) (base : ℕ) (quiet : List QuietRange) → 0 < ram_size →
    ram_base + ram_size ≤ addresses
    → list_any ends_late quiet ≡ false → overlap (parts_of ram_base ram_size regions k base quiet) ≡ None → list_all is_short quiet ≡ true
quiet_short ram_base ram_size regions k base quiet some ends early e =
    let ram : Placed = placed part.Ram ram_base ram_size in
    let unit : Placed = placed part.Controller base (block_of k) in
    let fixed : List Placed = region_parts part.Region regions ++ unit ∷ [] in
    let none : shared_with ram (fixed ++ quiet_parts quiet) ≡ None = first_none part.Ram (shared_with ram (fixed ++ quiet_parts quiet))
    (overlap (fixed ++ quiet_parts quiet)) e in
    all_short ram quiet some ends early (shared_later ram fixed (quiet_parts quiet) none)
