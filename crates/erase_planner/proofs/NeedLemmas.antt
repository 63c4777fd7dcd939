-- What a list of actions needs: without an erasure or a write some cells stay, and some are empty in the end.
use Rattle.std.proofs.Common.{◌≡◌, ℕ, ◌<◌, Bool, true, false, ◌||◌, nat_eq, sym, ap, subst, arith, slice_index, ◌∙◌, List, [], ◌∷◌, length, inl, inr}
use Rattle.std.proofs.lemmas.Bool.{false≢true, true≢false, or_cases, or_parts, eqb-true, eqb-false}
use Rattle.flm_descriptor.specs.Shape.{range_at}
use Rattle.page_geometry.specs.Geometry.{In, Within, Geometry, IsGeometry}
use Rattle.page_geometry.specs.Cells.{IsEmpty}
use Rattle.page_geometry.specs.Ideal.{Action, EraseSector, EraseChip, ProgramPage, Acts}
use Rattle.page_geometry.proofs.TestLemmas.{cases_in}
use Rattle.erase_planner.specs.Plans.{Leads, erases_chip}

-- the actions erase the sector
unfoldable pub erases : ℕ → List Action → Bool
erases s [] = false
erases s (EraseSector t ∷ rest) = nat_eq s t || erases s rest
erases s (EraseChip ∷ rest) = erases s rest
erases s (ProgramPage p bytes ∷ rest) = erases s rest

-- the actions program the page
unfoldable pub programs : ℕ → List Action → Bool
programs p [] = false
programs p (EraseSector t ∷ rest) = programs p rest
programs p (EraseChip ∷ rest) = programs p rest
programs p (ProgramPage q bytes ∷ rest) = nat_eq p q || programs p rest

module _ (l : Geometry) (good : IsGeometry l) (empty : ℕ) (want : List ℕ) where
  -- a page that isn't empty stays to the end if its sector isn't erased
  pub kept : (actions : List Action) (cells : List ℕ) (s p i : ℕ) → Leads l empty cells actions want → erases_chip actions ≡ false → erases s actions ≡ false
      → Within (range_at l.pages p) (range_at l.sectors s) → In i (range_at l.pages p) → (slice_index cells i ≡ empty → ⊥)
      → (j : ℕ) → In j (range_at l.pages p) → slice_index cells j ≡ slice_index want j
  unfolding Leads Acts erases erases_chip
  kept [] cells s p i x nc ne w hi used j hj = ap (λ (c : List ℕ). slice_index c j) x
  kept (EraseSector t ∷ rest) cells s p i x nc ne w hi used j hj =
      let parts = or_parts (nat_eq s t) (erases s rest) ne in
      let outside : (k : ℕ) → In k (range_at l.pages p) → In k (range_at l.sectors t) → ⊥ =
      λ k hk in_t. eqb-false s t parts.0 (good.sectors_part.apart s t k (omega (arith, w.0, hk.0), omega (arith, w.1, hk.1)) in_t) in
      let stays : (k : ℕ) → In k (range_at l.pages p) → slice_index x.0 k ≡ slice_index cells k = λ k hk. x.1.2.1 k (outside k hk) in
      sym (stays j hj) ∙ kept rest x.0 s p i x.2 nc parts.1 w hi (λ e. used (sym (stays i hi) ∙ e)) j hj
  kept (EraseChip ∷ rest) cells s p i x nc ne w hi used j hj = absurd (true≢false nc)
  kept (ProgramPage q bytes ∷ rest) cells s p i x nc ne w hi used j hj =
      let outside : (k : ℕ) → In k (range_at l.pages p) → In k (range_at l.pages q) → ⊥ =
      λ k hk in_q. let same : p ≡ q = good.pages_part.apart p q k hk in_q in
      used (x.1.2 i (subst (λ (n : ℕ). In i (range_at l.pages n)) same hi)) in
      let stays : (k : ℕ) → In k (range_at l.pages p) → slice_index x.0 k ≡ slice_index cells k = λ k hk. x.1.4.1 k (outside k hk) in
      sym (stays j hj) ∙ kept rest x.0 s p i x.2 nc ne w hi (λ e. used (sym (stays i hi) ∙ e)) j hj

  -- a page that is empty and isn't programmed is empty in the end
  pub stays_empty : (actions : List Action) (cells : List ℕ) (p : ℕ) → Leads l empty cells actions want → length cells ≡ l.size → p < length l.pages →
      programs p actions ≡ false
      → IsEmpty empty (range_at l.pages p) cells → IsEmpty empty (range_at l.pages p) want
  unfolding Leads Acts programs
  stays_empty [] cells p x n hp np blank = λ i hi. sym (ap (λ (c : List ℕ). slice_index c i) x) ∙ blank i hi
  stays_empty (EraseSector t ∷ rest) cells p x n hp np blank =
      stays_empty rest x.0 p x.2 (x.1.2.0 ∙ n) hp np (λ k hk. elim (cases_in k (range_at l.sectors t)) [
        | inl inside ↦ x.1.1 k inside
        | inr outside ↦ x.1.2.1 k outside ∙ blank k hk
      ])
  stays_empty (EraseChip ∷ rest) cells p x n hp np blank =
      stays_empty rest x.0 p x.2 (x.1.0 ∙ n) hp np (λ k hk. x.1.1 k (omega (arith, x.1.0, n, hk.1, good.pages_part.below p hp)))
  stays_empty (ProgramPage q bytes ∷ rest) cells p x n hp np blank =
      let parts = or_parts (nat_eq p q) (programs p rest) np in
      stays_empty rest x.0 p x.2 (x.1.4.0 ∙ n) hp parts.1
      (λ k hk. x.1.4.1 k (λ in_q. eqb-false p q parts.0 (good.pages_part.apart p q k hk in_q)) ∙ blank k hk)

  -- a page whose sector is erased and that isn't programmed is empty in the end
  pub erased_empty : (actions : List Action) (cells : List ℕ) (s p : ℕ) → Leads l empty cells actions want → length cells ≡ l.size → p < length l.pages →
      erases s actions ≡ true → programs p actions ≡ false
      → Within (range_at l.pages p) (range_at l.sectors s) → IsEmpty empty (range_at l.pages p) want
  unfolding Leads Acts programs erases
  erased_empty [] cells s p x n hp ye np w = absurd (false≢true ye)
  erased_empty (EraseSector t ∷ rest) cells s p x n hp ye np w =
      elim (or_cases (nat_eq s t) (erases s rest) ye) [
        | inl here ↦
            (let same : s ≡ t = eqb-true s t here in
            stays_empty rest x.0 p x.2 (x.1.2.0 ∙ n) hp np (λ k hk.
            x.1.1 k (subst (λ (m : ℕ). In k (range_at l.sectors m)) same (omega (arith, w.0, hk.0), omega (arith, w.1, hk.1)))))
        | inr later ↦ erased_empty rest x.0 s p x.2 (x.1.2.0 ∙ n) hp later np w
      ]
  erased_empty (EraseChip ∷ rest) cells s p x n hp ye np w = erased_empty rest x.0 s p x.2 (x.1.0 ∙ n) hp ye np w
  erased_empty (ProgramPage q bytes ∷ rest) cells s p x n hp ye np w =
      let parts = or_parts (nat_eq p q) (programs p rest) np in
      erased_empty rest x.0 s p x.2 (x.1.4.0 ∙ n) hp ye parts.1 w

  -- if the chip is erased, a page that isn't programmed is empty in the end
  pub chip_empty : (actions : List Action) (cells : List ℕ) (p : ℕ) → Leads l empty cells actions want → length cells ≡ l.size → p < length l.pages →
      erases_chip actions ≡ true → programs p actions ≡ false
      → IsEmpty empty (range_at l.pages p) want
  unfolding Leads Acts programs erases_chip
  chip_empty [] cells p x n hp ye np = absurd (false≢true ye)
  chip_empty (EraseSector t ∷ rest) cells p x n hp ye np = chip_empty rest x.0 p x.2 (x.1.2.0 ∙ n) hp ye np
  chip_empty (EraseChip ∷ rest) cells p x n hp ye np =
      stays_empty rest x.0 p x.2 (x.1.0 ∙ n) hp np (λ k hk. x.1.1 k (omega (arith, x.1.0, n, hk.1, good.pages_part.below p hp)))
  chip_empty (ProgramPage q bytes ∷ rest) cells p x n hp ye np =
      let parts = or_parts (nat_eq p q) (programs p rest) np in
      chip_empty rest x.0 p x.2 (x.1.4.0 ∙ n) hp ye parts.1
