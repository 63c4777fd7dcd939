-- Cells are made sector by sector: one more sector, and the number of cells. A made device's geometry grows in the same way.
use Rattle.std.proofs.Common.{◌≡◌, refl, sym, ap, arith, ◌∙◌, ◌+◌, ◌*◌, ◌%◌, ◌^◌, ◌≤◌, subst, ◌==◌, ℕ, zero, suc, Bool, true, false, cond, List, [], ◌∷◌, ◌++◌}
use Rattle.std.proofs.Common.{length, append_assoc, append-nil, length-append}
use Rattle.std.specs.Prelude.{replicate}
use Rattle.std.proofs.lemmas.List.{length-replicate}
use Rattle.byte_map.specs.Image.{Run, IsSameMap}
use Rattle.byte_map.specs.Laying.{Lays}
use Rattle.byte_map.proofs.OneList.{one_list}
use Rattle.demo_job.specs.Generator.{next, byte_of, draws}
use Rattle.demo_job.specs.Made.{sector_of, after_sector, sectors, after_sectors, cells_of}
use Rattle.demo_job.proofs.GeneratorLemmas.{length-draws}

pub sectors_step : (n state : ℕ) → sectors (suc n) state ≡ sectors n state ++ sector_of (after_sectors n state)
unfolding sectors after_sectors
sectors_step zero state = append-nil (sector_of state)
sectors_step (suc n) state =
    ap (λ (l : List ℕ). sector_of state ++ l) (sectors_step n (after_sector state))
    ∙ sym (append_assoc (sector_of state) (sectors n (after_sector state)) (sector_of (after_sectors n (after_sector state))))

pub after_sectors_step : (n state : ℕ) → after_sectors (suc n) state ≡ after_sector (after_sectors n state)
unfolding after_sectors
after_sectors_step zero state = refl
after_sectors_step (suc n) state = after_sectors_step n (after_sector state)

pub no_sectors : (state : ℕ) → sectors 0 state ≡ []
unfolding sectors
no_sectors state = refl

pub not_after_sectors : (state : ℕ) → after_sectors 0 state ≡ state
unfolding after_sectors
not_after_sectors state = refl

length_either : (blank : Bool) (a b : List ℕ) (n : ℕ) → length a ≡ n → length b ≡ n → length (cond blank a b) ≡ n
length_either true a b n first second = first
length_either false a b n first second = second

length-sector : (state : ℕ) → length (sector_of state) ≡ 1024
unfolding sector_of
length-sector state = length_either (byte_of state % 2 == 0) (replicate 1024 255) (draws 1024 (next state)) 1024 (length-replicate {A = ℕ} 1024 255)
    (length-draws 1024 (next state))

pub length-sectors : (n state : ℕ) → length (sectors n state) ≡ n * 1024
unfolding sectors
length-sectors zero state = refl
length-sectors (suc n) state =
    let rest = length-sectors n (after_sector state) in
    let one = length-sector state in
    length-append (sector_of state) (sectors n (after_sector state)) ∙ omega (arith, rest, one)

pub length-cells : (seed : ℕ) → length (cells_of seed) ≡ 65536
length-cells seed = length-sectors 64 seed

-- a piece alone is a map of one run
pub one_piece : (piece : Run) (old new : List Run) → old ≡ [] → 1 ≤ length piece.bytes → Lays piece old new → new ≡ piece ∷ []
one_piece piece old new none some lays =
    one_list 0 (2 ^ 32) new (piece ∷ []) lays.maximal (omega arith, some, lays.fits, tt)
    (subst (λ (l : List Run). IsSameMap new (piece ∷ l)) none lays.union)

pub begin_sectors : (start : List ℕ) (state : ℕ) → start ≡ start ++ sectors 0 state
begin_sectors start state = sym (ap (λ (l : List ℕ). start ++ l) (no_sectors state) ∙ append-nil start)

pub more_sectors : (i first state : ℕ) (start old new : List ℕ) → state ≡ after_sectors i first → old ≡ start ++ sectors i first → new ≡ old ++ sector_of state
    → new ≡ start ++ sectors (i + 1) first
more_sectors i first state start old new state_is old_is new_is =
    let more : suc i ≡ i + 1 = omega arith in
    new_is
    ∙ ap (λ (s : ℕ). old ++ sector_of s) state_is
    ∙ ap (λ (l : List ℕ). l ++ sector_of (after_sectors i first)) old_is
    ∙ append_assoc start (sectors i first) (sector_of (after_sectors i first))
    ∙ ap (λ (l : List ℕ). start ++ l) (sym (sectors_step i first))
    ∙ ap (λ (n : ℕ). start ++ sectors n first) more

pub more_after : (i first state new : ℕ) → state ≡ after_sectors i first → new ≡ after_sector state → new ≡ after_sectors (i + 1) first
more_after i first state new state_is new_is =
    let more : suc i ≡ i + 1 = omega arith in
    new_is ∙ ap after_sector state_is ∙ sym (after_sectors_step i first) ∙ ap (λ (n : ℕ). after_sectors n first) more
