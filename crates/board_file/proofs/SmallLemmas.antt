-- Regions that are counted one after another are too big exactly where all of them together are.
use Rattle.std.proofs.Common.{◌≡◌, ◌≤◌, ◌<◌, ◌+◌, ℕ, Bool, true, false, ◌||◌, nat_lt, List, [], ◌∷◌, Result, Ok, Err, if◌then◌else◌, refl, ap, ◌∙◌, arith}
use Rattle.std.specs.List.{list_any}
use Rattle.std.proofs.lemmas.Bool.{ltb-true, ltb-false, lt-ltb, le-ltb}
use Rattle.std.proofs.lemmas.List.Sums.{sum_by-cons}
use Rattle.faults.specs.Results.{◌>>=◌}
use Rattle.board_file.specs.declared.region.Region.{Region}
use Rattle.board_file.specs.declared.key.Key.TheVariants as key
use Rattle.board_file.specs.declared.fault.BoardFault.{BoardFault}
use Rattle.board_file.specs.declared.fault.BoardFault.TheVariants as fault
use Rattle.board_file.specs.Table.{addresses}
use Rattle.board_file.specs.Limits.{sectors_of, size_of, sectors_in, is_too_big, most_cells, most_sectors}
use Rattle.board_file.specs.Small.{are_many, small_regions, unless_too_big}

abbrev said : Bool → List Region → Result (List Region) BoardFault
said big rs = if big then Err (fault.TooBig key.RegionSectors) else Ok rs

-- whether regions are too big, where the regions before them have this number of cells and sectors
abbrev big_behind : ℕ → ℕ → List Region → Bool
big_behind cells sectors rs = list_any is_too_big rs || are_many (cells + size_of rs) (sectors + sectors_in rs)

or_right : (a b : Bool) → b ≡ true → (a || b) ≡ true
or_right true b is = refl
or_right false b is = is

or_none : (a b : Bool) → (a || b) ≡ false → (a ≡ false) × (b ≡ false)
or_none true b is = absurd cc
or_none false b is = (refl, is)

none_or : (a b : Bool) → a ≡ false → b ≡ false → (a || b) ≡ false
none_or a b one two = rw (one, two) refl

-- if cells and sectors are too many, more of them are too
many_more : (cells sectors more other : ℕ) → are_many cells sectors ≡ true → are_many (cells + more) (sectors + other) ≡ true
many_more cells sectors more other is = by_cells (nat_lt most_cells cells) refl
  where
    by_cells : (b : Bool) → nat_lt most_cells cells ≡ b → are_many (cells + more) (sectors + other) ≡ true
    by_cells true many =
        let less : most_cells < cells = ltb-true _ _ many in
        let test : nat_lt most_cells (cells + more) ≡ true = lt-ltb _ _ (omega (arith, less)) in
        rw test refl
    by_cells false few =
        let rest : nat_lt most_sectors sectors ≡ true = rw few at is in
        let less : most_sectors < sectors = ltb-true _ _ rest in
        or_right (nat_lt most_cells (cells + more)) (nat_lt most_sectors (sectors + other)) (lt-ltb _ _ (omega (arith, less)))

few_of : (cells sectors : ℕ) → are_many cells sectors ≡ false → (cells ≤ most_cells) × (sectors ≤ most_sectors)
few_of cells sectors is = let p = or_none (nat_lt most_cells cells) (nat_lt most_sectors sectors) is in (ltb-false _ _ p.0, ltb-false _ _ p.1)

few : (cells sectors : ℕ) → cells ≤ most_cells → sectors ≤ most_sectors → are_many cells sectors ≡ false
few cells sectors a b = none_or _ _ (le-ltb _ _ a) (le-ltb _ _ b)

abbrev far : Region → Bool
far r = nat_lt addresses (r.base + r.size)

counted : (cells sectors : ℕ) (rs : List Region) → cells ≤ most_cells → sectors ≤ most_sectors →
    small_regions cells sectors rs ≡ said (big_behind cells sectors rs) rs
counted cells sectors [] a b = rw (few (cells + 0) (sectors + 0) (omega (arith, a)) (omega (arith, b))) refl
counted cells sectors (r ∷ rs) a b = by_test (are_many (cells + r.size) (sectors + sectors_of r.sectors) || far r) refl
    (counted (cells + r.size) (sectors + sectors_of r.sectors) rs)
  where
    sizes : size_of (r ∷ rs) ≡ r.size + size_of rs
    sizes = sum_by-cons (λ (q : Region). q.size) r rs

    counts : sectors_in (r ∷ rs) ≡ sectors_of r.sectors + sectors_in rs
    counts = sum_by-cons (λ (q : Region). sectors_of q.sectors) r rs

    all : are_many (cells + size_of (r ∷ rs)) (sectors + sectors_in (r ∷ rs)) ≡ are_many (cells + r.size + size_of rs)
        (sectors + sectors_of r.sectors + sectors_in rs)
    all =
        let x : cells + size_of (r ∷ rs) ≡ cells + r.size + size_of rs = omega (arith, sizes) in
        let y : sectors + sectors_in (r ∷ rs) ≡ sectors + sectors_of r.sectors + sectors_in rs = omega (arith, counts) in
        ap (λ (n : ℕ). are_many n (sectors + sectors_in (r ∷ rs))) x ∙ ap (λ (n : ℕ). are_many (cells + r.size + size_of rs) n) y

    too_big : are_many (cells + r.size) (sectors + sectors_of r.sectors) || far r ≡ true → big_behind cells sectors (r ∷ rs) ≡ true
    too_big is = by_many (are_many (cells + r.size) (sectors + sectors_of r.sectors)) refl
      where
        by_many : (b : Bool) → are_many (cells + r.size) (sectors + sectors_of r.sectors) ≡ b → big_behind cells sectors (r ∷ rs) ≡ true
        by_many true many =
            or_right (list_any is_too_big (r ∷ rs)) (are_many (cells + size_of (r ∷ rs)) (sectors + sectors_in (r ∷ rs)))
            (all ∙ many_more (cells + r.size) (sectors + sectors_of r.sectors) (size_of rs) (sectors_in rs) many)
        by_many false less =
            let past : far r ≡ true = rw less at is in
            let one : is_too_big r ≡ true = or_right (nat_lt most_cells r.size || nat_lt most_sectors (sectors_of r.sectors)) (far r) past in
            rw one refl

    fits : are_many (cells + r.size) (sectors + sectors_of r.sectors) || far r ≡ false → big_behind cells sectors (r ∷ rs) ≡ big_behind (cells + r.size)
        (sectors + sectors_of r.sectors) rs
    fits is =
        let p = or_none (are_many (cells + r.size) (sectors + sectors_of r.sectors)) (far r) is in
        let f = few_of (cells + r.size) (sectors + sectors_of r.sectors) p.0 in
        let one : is_too_big r ≡ false = none_or (nat_lt most_cells r.size || nat_lt most_sectors (sectors_of r.sectors)) (far r)
        (none_or (nat_lt most_cells r.size) (nat_lt most_sectors (sectors_of r.sectors)) (le-ltb _ _ (omega (arith, f.0))) (le-ltb _ _ (omega (arith, f.1))))
        p.1 in
        ap (λ (b : Bool). (b || list_any is_too_big rs) || are_many (cells + size_of (r ∷ rs)) (sectors + sectors_in (r ∷ rs))) one
        ∙ ap (λ (b : Bool). list_any is_too_big rs || b) all

    joined : (b : Bool) → (said b rs >>= λ others. Ok (r ∷ others)) ≡ said b (r ∷ rs)
    joined true = refl
    joined false = refl

    by_test : (b : Bool) → (are_many (cells + r.size) (sectors + sectors_of r.sectors) || far r) ≡ b
        → (cells + r.size ≤ most_cells → sectors + sectors_of r.sectors ≤ most_sectors →
        small_regions (cells + r.size) (sectors + sectors_of r.sectors) rs ≡ said (big_behind (cells + r.size) (sectors + sectors_of r.sectors) rs) rs)
        → small_regions cells sectors (r ∷ rs) ≡ said (big_behind cells sectors (r ∷ rs)) (r ∷ rs)
    by_test true is others = rw (is, too_big is) refl
    by_test false is others =
        let f = few_of (cells + r.size) (sectors + sectors_of r.sectors) (or_none (are_many (cells + r.size) (sectors + sectors_of r.sectors)) (far r) is).0 in
        let rest = others f.0 f.1 in
        rw (is, fits is, rest) (joined (big_behind (cells + r.size) (sectors + sectors_of r.sectors) rs))

-- all regions of a text, counted from 0
pub small_or_too_big : (rs : List Region) → small_regions 0 0 rs ≡ unless_too_big rs
small_or_too_big rs =
    let x : 0 + size_of rs ≡ size_of rs = omega arith in
    let y : 0 + sectors_in rs ≡ sectors_in rs = omega arith in
    counted 0 0 rs (omega arith) (omega arith)
    ∙ ap (λ (n : ℕ). said (list_any is_too_big rs || are_many n (0 + sectors_in rs)) rs) x
    ∙ ap (λ (n : ℕ). said (list_any is_too_big rs || are_many (size_of rs) n) rs) y
