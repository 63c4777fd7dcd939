-- From the marks of the whole contents to the chosen plan.
use Rattle.std.proofs.Common.{◌≡◌, ℕ, ◌+◌, ◌*◌, ◌<◌, min, Bool, true, false, ◌&&◌, nat_lt, cond, refl, sym, ap, subst, arith, slice_index, ◌∙◌, List, length}
use Rattle.std.proofs.Common.{inl, inr}
use Rattle.std.proofs.lemmas.Bool.{cases_Bool, both_ways, false_from_ne_true, cond-true, cond-false}
use Rattle.erase_planner.specs.declared.marks.Mark.{Mark}
use Rattle.board_file.specs.declared.board.Weights.{Weights}
use Rattle.flm_descriptor.specs.Shape.{Range, range, range_at}
use Rattle.page_geometry.specs.Geometry.{In, Geometry, IsGeometry}
use Rattle.page_geometry.specs.Cells.{count_below, is_used, differs}
use Rattle.page_geometry.proofs.TestLemmas.{same_tests, some_below_same, count_below_same, differs_from, differs_at, used_from, used_at}
use Rattle.erase_planner.specs.Plans.{has_page, tests, must_erase, must_program, is_wanted, is_erased, once_erased, sectors_cost, chip_cost, takes_chip}
use Rattle.erase_planner.specs.Plans.{by_sectors, by_chip, chosen, Chosen}
use Rattle.erase_planner.specs.Marks.{seen, mark_of, mark_at, AreMarks, erases_by, programs_by, wanted_by}
use Rattle.erase_planner.proofs.SetLemmas.{once_at, is_erased_from, is_erased_at}
use Rattle.erase_planner.proofs.FillLemmas.{tests_same, tests_at, programs_is}

module _ (l : Geometry) (good : IsGeometry l) (empty : ℕ) (old want : List ℕ) (old_long : length old ≡ l.size) (want_long : length want ≡ l.size)
    (marks : List Mark) (m : AreMarks l empty old want marks) where
  whole : (p n : ℕ) → p < length l.pages → n ≡ l.size → seen (range_at l.pages p) n ≡ range_at l.pages p
  whole p n hp e =
      let below = good.pages_part.below p hp in
      let same : min (range_at l.pages p).stop n ≡ (range_at l.pages p).stop = omega (arith, below, e) in
      ap (λ (b : ℕ). range (range_at l.pages p).start b) same

  abbrev full_mark : ℕ → Mark
  full_mark p = record {
    differs = differs (range_at l.pages p) old want;
    old_used = is_used empty (range_at l.pages p) old;
    want_used =
        is_used empty (range_at l.pages p) want;
  }

  mark_full : (p : ℕ) → p < length l.pages → mark_at marks p ≡ full_mark p
  unfolding mark_of
  mark_full p hp = let e = m.each p hp in let a = whole p (length old) hp old_long in let b = whole p (length want) hp want_long in
      e ∙ ap (λ (r : Range). let k : Mark = record {
        differs = differs r old want;
        old_used = is_used empty r old;
        want_used =
            is_used empty (seen (range_at l.pages p) (length want)) want;
      } in k) a
      ∙ ap (λ (r : Range). let k : Mark = record {
        differs = differs (range_at l.pages p) old want;
        old_used = is_used empty (range_at l.pages p) old;
        want_used = is_used empty r want;
      } in k) b

  erases_is : (s : ℕ) → erases_by l marks s ≡ must_erase l empty old want s
  unfolding erases_by must_erase
  erases_is s = some_below_same (length l.pages) _ _ (λ p hp.
      ap (λ (k : Mark). has_page (range_at l.sectors s) (range_at l.pages p) && (k.differs && k.old_used)) (mark_full p hp))

  wanted_is : (p : ℕ) → p < length l.pages → wanted_by marks p ≡ is_wanted l empty want p
  unfolding is_wanted
  wanted_is p hp = ap (λ (k : Mark). k.want_used) (mark_full p hp)

  abbrev sector_set : List Bool
  sector_set = tests (length l.sectors) (must_erase l empty old want)

  program_is : (p : ℕ) → p < length l.pages → programs_by l marks sector_set p ≡ must_program l empty old want p
  unfolding must_program
  program_is p hp =
      let r = range_at l.pages p in
      let below = good.pages_part.below p hp in
      let some = good.pages_part.some p hp in
      let x = good.nested p hp in
      let s : ℕ = x.0 in
      let in_sector : (j : ℕ) → In j r → In j (range_at l.sectors s) = λ j hj. (omega (arith, x.2.0, hj.0), omega (arith, x.2.1, hj.1)) in
      let first : In r.start r = (omega arith, some) in
      let value : (j : ℕ) → In j r → slice_index (once_erased l empty old want) j ≡ cond (is_erased l empty old want j) empty (slice_index old j) =
      λ j hj. once_at l empty old want j (omega (arith, old_long, hj.1, below)) in
      let e = programs_is l good sector_set p s r.start hp x.1 first (in_sector r.start first) marks in
      let b = tests_at (length l.sectors) (must_erase l empty old want) s x.1 in
      e ∙ ap (λ (t : Bool). cond t (mark_at marks p).want_used (mark_at marks p).differs) b
      ∙ ap (λ (k : Mark). cond (must_erase l empty old want s) k.want_used k.differs) (mark_full p hp)
      ∙ elim (cases_Bool (must_erase l empty old want s)) [
        | inl is ↦
            (let blank : (j : ℕ) → In j r → slice_index (once_erased l empty old want) j ≡ empty =
            λ j hj. value j hj ∙ cond-true _ _ _ (is_erased_from l empty old want s j x.1 is (in_sector j hj)) in
            cond-true _ _ _ is ∙ same_tests _ _
            (λ u. let y = used_at _ _ _ u in differs_from _ _ _ y.0 y.1 (λ q. y.2 (sym q ∙ blank y.0 y.1)))
            (λ d. let y = differs_at _ _ _ d in used_from _ _ _ y.0 y.1 (λ q. y.2 (blank y.0 y.1 ∙ sym q))))
        | inr isnt ↦
            (let not_erased : (j : ℕ) → In j r → is_erased l empty old want j ≡ false =
            λ j hj. false_from_ne_true _ (λ q.
            let y = is_erased_at l empty old want j q in
            let same : y.0 ≡ s = good.sectors_part.apart y.0 s j y.3 (in_sector j hj) in
            both_ways (must_erase l empty old want s) isnt (subst (λ (k : ℕ). must_erase l empty old want k ≡ true) same y.2)) in
            let stay : (j : ℕ) → In j r → slice_index (once_erased l empty old want) j ≡ slice_index old j =
            λ j hj. value j hj ∙ cond-false _ _ _ (not_erased j hj) in
            cond-false _ _ _ isnt ∙ same_tests _ _
            (λ u. let y = differs_at _ _ _ u in differs_from _ _ _ y.0 y.1 (λ q. y.2 (sym (stay y.0 y.1) ∙ q)))
            (λ u. let y = differs_at _ _ _ u in differs_from _ _ _ y.0 y.1 (λ q. y.2 (stay y.0 y.1 ∙ q))))
      ]

  -- ---- what the code counts and fills is the chosen plan

  sectors_are : tests (length l.sectors) (erases_by l marks) ≡ sector_set
  sectors_are = tests_same (length l.sectors) (erases_by l marks) (must_erase l empty old want) (λ s h. erases_is s)

  abbrev given_sectors : List Bool
  given_sectors = tests (length l.sectors) (erases_by l marks)

  pages_is : (p : ℕ) → p < length l.pages → programs_by l marks given_sectors p ≡ must_program l empty old want p
  pages_is p hp = ap (λ (bs : List Bool). programs_by l marks bs p) sectors_are ∙ program_is p hp

  sectors_cost_is : (w : Weights) → w.sector * count_below (length l.sectors) (erases_by l marks) + w.page * count_below (length l.pages)
      (programs_by l marks given_sectors) ≡ sectors_cost l w empty old want
  unfolding sectors_cost
  sectors_cost_is w =
      let a = count_below_same (length l.sectors) (erases_by l marks) (must_erase l empty old want) (λ s h. erases_is s) in
      let b = count_below_same (length l.pages) (programs_by l marks given_sectors) (must_program l empty old want) pages_is in
      ap (λ (n : ℕ). w.sector * n + w.page * count_below (length l.pages) (programs_by l marks given_sectors)) a ∙
      ap (λ (n : ℕ). w.sector * count_below (length l.sectors) (must_erase l empty old want) + w.page * n) b

  chip_cost_is : (w : Weights) → w.chip + w.page * count_below (length l.pages) (wanted_by marks) ≡ chip_cost l w empty want
  unfolding chip_cost
  chip_cost_is w = ap (λ (n : ℕ). w.chip + w.page * n) (count_below_same (length l.pages) (wanted_by marks) (is_wanted l empty want) wanted_is)

  pub finish_sectors : (w : Weights) (has_chip : Bool) (sectors pages : List Bool) (total : ℕ)
      → sectors ≡ given_sectors → pages ≡ tests (length l.pages) (programs_by l marks given_sectors)
      → total ≡ w.sector * count_below (length l.sectors) (erases_by l marks) + w.page * count_below (length l.pages) (programs_by l marks given_sectors)
      → (has_chip && nat_lt (w.chip + w.page * count_below (length l.pages) (wanted_by marks)) total) ≡ false
      → (let x : Chosen = record { chip = false; sectors = sectors; pages = pages; cost = total } in x) ≡ chosen l w has_chip empty old want
  unfolding chosen takes_chip by_sectors
  finish_sectors w has_chip sectors pages total e1 e2 e3 dear =
      let a = sectors_cost_is w in
      let b = chip_cost_is w in
      let total_is : total ≡ sectors_cost l w empty old want = e3 ∙ a in
      let pages_are : pages ≡ tests (length l.pages) (must_program l empty old want) = e2 ∙ tests_same (length l.pages) (programs_by l marks given_sectors)
      (must_program l empty old want) pages_is in
      let sectors_is : sectors ≡ sector_set = e1 ∙ sectors_are in
      let no_chip : (has_chip && nat_lt (chip_cost l w empty want) (sectors_cost l w empty old want)) ≡ false =
      ap (λ (n : ℕ). has_chip && nat_lt n (sectors_cost l w empty old want)) (sym b)
      ∙ ap (λ (n : ℕ). has_chip && nat_lt (w.chip + w.page * count_below (length l.pages) (wanted_by marks)) n) (sym total_is) ∙ dear in
      rw (no_chip, sectors_is, pages_are, total_is) refl

  pub finish_chip : (w : Weights) (has_chip : Bool) (sectors pages : List Bool) (total : ℕ)
      → sectors ≡ tests (length l.sectors) (λ s. false) → pages ≡ tests (length l.pages) (wanted_by marks)
      → total ≡ w.chip + w.page * count_below (length l.pages) (wanted_by marks)
      → (has_chip && nat_lt total (w.sector * count_below (length l.sectors) (erases_by l marks) + w.page * count_below (length l.pages)
      (programs_by l marks given_sectors))) ≡ true
      → (let x : Chosen = record { chip = true; sectors = sectors; pages = pages; cost = total } in x) ≡ chosen l w has_chip empty old want
  unfolding chosen takes_chip by_chip
  finish_chip w has_chip sectors pages total e1 e2 e3 less =
      let a = sectors_cost_is w in
      let b = chip_cost_is w in
      let total_is : total ≡ chip_cost l w empty want = e3 ∙ b in
      let pages_are : pages ≡ tests (length l.pages) (is_wanted l empty want) = e2 ∙
      tests_same (length l.pages) (wanted_by marks) (is_wanted l empty want) wanted_is in
      let cheap : (has_chip && nat_lt (chip_cost l w empty want) (sectors_cost l w empty old want)) ≡ true =
      ap (λ (n : ℕ). has_chip && nat_lt n (sectors_cost l w empty old want)) (sym total_is)
      ∙ ap (λ (n : ℕ). has_chip && nat_lt total n) (sym a) ∙ less in
      rw (cheap, e1, pages_are, total_is) refl
