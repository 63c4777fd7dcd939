-- No list of actions costs less than the chosen plan. This is the second half of `LawLemmas`; `ReachLemmas` is the first.
use Rattle.std.proofs.Common.{◌≡◌, ℕ, ◌+◌, ◌*◌, ◌<◌, ◌≤◌, Bool, true, false, nat_eq, nat_lt, refl, sym, arith, slice_index, ◌∙◌, List, [], ◌∷◌, length, inl}
use Rattle.std.proofs.Common.{inr}
use Rattle.std.proofs.lemmas.Bool.{false≢true, cases_Bool, both_ways, ltb-true, ltb-false, cond-true, cond-false, and_parts}
use Rattle.std.proofs.Math.Nat.{mul-le-mul_left}
use Rattle.flm_descriptor.specs.Shape.{range_at}
use Rattle.page_geometry.specs.Geometry.{In, Geometry, IsGeometry}
use Rattle.page_geometry.specs.Cells.{count_below, is_used, differs, IsEmpty}
use Rattle.page_geometry.specs.Ideal.{Action, EraseSector, EraseChip, ProgramPage}
use Rattle.page_geometry.proofs.TestLemmas.{differs_at, differs_from, used_at, unused, count_below_le, count_below_or, count_below_one, count_below_none}
use Rattle.board_file.specs.declared.board.Weights.{Weights}
use Rattle.erase_planner.specs.Plans.{Leads, erases_chip, price, cost, must_erase, is_erased, once_erased, must_program, is_wanted, sectors_cost, chip_cost}
use Rattle.erase_planner.specs.Plans.{takes_chip, by_sectors, by_chip, chosen, IsLeast}
use Rattle.page_geometry.proofs.GeometryLemmas.{page_within}
use Rattle.erase_planner.proofs.NeedLemmas.{erases, programs, kept, stays_empty, erased_empty, chip_empty}
use Rattle.erase_planner.proofs.SetLemmas.{must_erase_at, must_erase_from, is_erased_at, is_erased_from, once_at}

-- ---- the number of actions of each kind

unfoldable sector_erasures : List Action → ℕ
sector_erasures [] = 0
sector_erasures (EraseSector s ∷ rest) = 1 + sector_erasures rest
sector_erasures (EraseChip ∷ rest) = sector_erasures rest
sector_erasures (ProgramPage p bytes ∷ rest) = sector_erasures rest

unfoldable page_writes : List Action → ℕ
page_writes [] = 0
page_writes (EraseSector s ∷ rest) = page_writes rest
page_writes (EraseChip ∷ rest) = page_writes rest
page_writes (ProgramPage p bytes ∷ rest) = 1 + page_writes rest

unfoldable chip_erasures : List Action → ℕ
chip_erasures [] = 0
chip_erasures (EraseSector s ∷ rest) = chip_erasures rest
chip_erasures (EraseChip ∷ rest) = 1 + chip_erasures rest
chip_erasures (ProgramPage p bytes ∷ rest) = chip_erasures rest

cost_by_kind : (w : Weights) (actions : List Action) → cost w actions ≡ w.sector * sector_erasures actions + w.page * page_writes actions + w.chip *
    chip_erasures actions
unfolding cost price sector_erasures page_writes chip_erasures
cost_by_kind w [] = omega arith
cost_by_kind w (EraseSector s ∷ rest) = let before = cost_by_kind w rest in omega (arith, before)
cost_by_kind w (EraseChip ∷ rest) = let before = cost_by_kind w rest in omega (arith, before)
cost_by_kind w (ProgramPage p bytes ∷ rest) = let before = cost_by_kind w rest in omega (arith, before)

-- each erasure erases one sector
erases_few : (n : ℕ) (actions : List Action) → count_below n (λ s. erases s actions) ≤ sector_erasures actions
unfolding erases sector_erasures
erases_few n [] = omega (arith, count_below_none n (λ s. false) (λ k h. refl))
erases_few n (EraseSector t ∷ rest) =
    omega (arith, count_below_or n (λ s. nat_eq s t) (λ s. erases s rest), count_below_one n t, erases_few n rest)
erases_few n (EraseChip ∷ rest) = erases_few n rest
erases_few n (ProgramPage p bytes ∷ rest) = erases_few n rest

programs_few : (n : ℕ) (actions : List Action) → count_below n (λ p. programs p actions) ≤ page_writes actions
unfolding programs page_writes
programs_few n [] = omega (arith, count_below_none n (λ s. false) (λ k h. refl))
programs_few n (ProgramPage p bytes ∷ rest) =
    omega (arith, count_below_or n (λ q. nat_eq q p) (λ q. programs q rest), count_below_one n p, programs_few n rest)
programs_few n (EraseChip ∷ rest) = programs_few n rest
programs_few n (EraseSector s ∷ rest) = programs_few n rest

chip_once : (actions : List Action) → erases_chip actions ≡ true → 1 ≤ chip_erasures actions
unfolding erases_chip chip_erasures
chip_once [] e = absurd (false≢true e)
chip_once (EraseChip ∷ rest) e = omega arith
chip_once (EraseSector s ∷ rest) e = chip_once rest e
chip_once (ProgramPage p bytes ∷ rest) e = chip_once rest e

module _ (l : Geometry) (good : IsGeometry l) (w : Weights) (empty : ℕ) (cells want : List ℕ) (long : length cells ≡ l.size) where
  needs_erasure : (actions : List Action) → Leads l empty cells actions want → erases_chip actions ≡ false → (s : ℕ) → must_erase l empty cells want s ≡ true →
      erases s actions ≡ true
  needs_erasure actions leads nc s m =
      elim (cases_Bool (erases s actions)) [
        | inl is ↦ is
        | inr isnt ↦
            (let x = must_erase_at l empty cells want s m in
            let d = differs_at _ _ _ x.3 in
            let u = used_at _ _ _ x.4 in
            absurd (d.2 (kept l good empty want actions cells s x.0 u.0 leads nc isnt x.2 u.1 u.2 d.0 d.1)))
      ]

  needs_program : (actions : List Action) → Leads l empty cells actions want → erases_chip actions ≡ false →
      (p : ℕ) → p < length l.pages → must_program l empty cells want p ≡ true → programs p actions ≡ true
  unfolding must_program
  needs_program actions leads nc p hp m =
      elim (cases_Bool (programs p actions)) [
        | inl is ↦ is
        | inr isnt ↦
            (let d = differs_at _ _ _ m in
            let i : ℕ = d.0 in
            let inside : i < length cells = omega (arith, long, d.1.1, good.pages_part.below p hp) in
            let value = once_at l empty cells want i inside in
            elim (cases_Bool (is_erased l empty cells want i)) [
              | inl was ↦
                  (let x = is_erased_at l empty cells want i was in
                  let within = page_within l good x.0 p i hp d.1 x.3 in
                  let blank = erased_empty l good empty want actions cells x.0 p leads long hp (needs_erasure actions leads nc x.0 x.2) isnt within in
                  absurd (d.2 (value ∙ cond-true _ _ _ was ∙ sym (blank i d.1))))
              | inr wasnt ↦
                  (let same : slice_index (once_erased l empty cells want) i ≡ slice_index cells i = value ∙ cond-false _ _ _ wasnt in
                  let x = good.nested p hp in
                  let in_sector : In i (range_at l.sectors x.0) = (omega (arith, x.2.0, d.1.0), omega (arith, x.2.1, d.1.1)) in
                  let changes : differs (range_at l.pages p) cells want ≡ true = differs_from _ cells want i d.1 (λ e. d.2 (same ∙ e)) in
                  elim (cases_Bool (is_used empty (range_at l.pages p) cells)) [
                    | inl used ↦ absurd (both_ways _ wasnt (is_erased_from l empty cells want x.0 i x.1
                        (must_erase_from l empty cells want x.0 p hp x.2 changes used) in_sector))
                    | inr blank ↦
                        (let before : IsEmpty empty (range_at l.pages p) cells = unused _ _ _ blank in
                        let after = stays_empty l good empty want actions cells p leads long hp isnt before in
                        absurd (d.2 (same ∙ before i d.1 ∙ sym (after i d.1))))
                  ])
            ])
      ]

  needs_write : (actions : List Action) → Leads l empty cells actions want → erases_chip actions ≡ true →
      (p : ℕ) → p < length l.pages → is_wanted l empty want p ≡ true → programs p actions ≡ true
  unfolding is_wanted
  needs_write actions leads yc p hp m =
      elim (cases_Bool (programs p actions)) [
        | inl is ↦ is
        | inr isnt ↦
            (let u = used_at _ _ _ m in
            absurd (u.2 (chip_empty l good empty want actions cells p leads long hp yc isnt u.0 u.1)))
      ]

  pub sectors_least : (actions : List Action) → Leads l empty cells actions want → erases_chip actions ≡ false →
      sectors_cost l w empty cells want ≤ cost w actions
  unfolding sectors_cost
  sectors_least actions leads nc =
      let first : count_below (length l.sectors) (must_erase l empty cells want) ≤ sector_erasures actions =
      omega (
        arith,
        count_below_le (length l.sectors) (must_erase l empty cells want) (λ s. erases s actions) (λ s h m. needs_erasure actions leads nc s m),
        erases_few (length l.sectors) actions,
      ) in
      let second : count_below (length l.pages) (must_program l empty cells want) ≤ page_writes actions =
      omega (
        arith,
        count_below_le (length l.pages) (must_program l empty cells want) (λ p. programs p actions) (λ p h m. needs_program actions leads nc p h m),
        programs_few (length l.pages) actions,
      ) in
      omega (arith, cost_by_kind w actions, mul-le-mul_left w.sector first, mul-le-mul_left w.page second)

  pub chip_least : (actions : List Action) → Leads l empty cells actions want → erases_chip actions ≡ true → chip_cost l w empty want ≤ cost w actions
  unfolding chip_cost
  chip_least actions leads yc =
      let second : count_below (length l.pages) (is_wanted l empty want) ≤ page_writes actions =
      omega (
        arith,
        count_below_le (length l.pages) (is_wanted l empty want) (λ p. programs p actions) (λ p h m. needs_write actions leads yc p h m),
        programs_few (length l.pages) actions,
      ) in
      omega (arith, cost_by_kind w actions, mul-le-mul_left w.page second, mul-le-mul_left w.chip (chip_once actions yc))

  -- no plan costs less than the chosen one
  pub chosen_least : (has_chip : Bool) → IsLeast l w empty has_chip cells want (chosen l w has_chip empty cells want).cost
  unfolding chosen takes_chip by_chip by_sectors
  chosen_least has_chip actions plan =
      elim (cases_Bool (erases_chip actions)) [
        | inl with_chip ↦
            (let least = chip_least actions plan.leads with_chip in
            let can = plan.lawful with_chip in
            elim (cases_Bool (nat_lt (chip_cost l w empty want) (sectors_cost l w empty cells want))) [
              | inl less ↦ rw (can, less) least
              | inr more ↦ rw (can, more) (omega (arith, ltb-false _ _ more, least))
            ])
        | inr without ↦
            (let least = sectors_least actions plan.leads without in
            elim (cases_Bool (takes_chip l w has_chip empty cells want)) [
              | inl takes ↦
                  (let both = and_parts has_chip (nat_lt (chip_cost l w empty want) (sectors_cost l w empty cells want)) takes in
                  rw (both.0, both.1) (omega (arith, ltb-true _ _ both.1, least)))
              | inr not_chip ↦ rw not_chip least
            ])
      ]
