-- The chosen plan, as a list, leads from the old contents to the wanted ones.
use Rattle.std.proofs.Common.{◌≡◌, ℕ, zero, suc, ◌+◌, ◌-◌, ◌<◌, ◌≤◌, Bool, true, false, ◌&&◌, nat_le, nat_lt, cond, refl, sym, subst, arith, slice_index, ◌∙◌}
use Rattle.std.proofs.Common.{List, [], ◌∷◌, ◌++◌, map, length, inl, inr, zero-add}
use Rattle.std.proofs.lemmas.Bool.{false≢true, cases_Bool, cases_lt, cases_eq, both_ways, cond-true, cond-false, and_from, and_parts, le-leb, leb-true, lt-ltb}
use Rattle.std.proofs.lemmas.Bool.{ltb-true, false_from_ne_true}
use Rattle.std.proofs.lemmas.List.{same_lists, get_or_past, get_or_default}
use Rattle.std.proofs.lemmas.List.FromFn.{get_or-map-range_with_len, length-map-range_with_len}
use Rattle.std.specs.List.{range_with_len}
use Rattle.flm_descriptor.specs.Shape.{Range, range_at}
use Rattle.page_geometry.specs.Geometry.{In, Geometry, IsGeometry}
use Rattle.page_geometry.specs.Cells.{is_used, differs, IsEmpty, Holds}
use Rattle.page_geometry.specs.Ideal.{Action, EraseChip, Acts, erasures, bytes_in, writes}
use Rattle.page_geometry.proofs.TestLemmas.{cases_in, differs_at, differs_from, same_in, unused}
use Rattle.board_file.specs.declared.board.Weights.{Weights}
use Rattle.erase_planner.specs.Plans.{Leads, erases_chip, IsPlan, must_erase, is_erased, once_erased, must_program, is_wanted, sectors_cost, chip_cost}
use Rattle.erase_planner.specs.Plans.{takes_chip, by_sectors, by_chip, chosen, tests, actions_of}
use Rattle.erase_planner.proofs.SetLemmas.{must_erase_from, is_erased_at, is_erased_from, once_at}

-- ---- a list with a range replaced

in_range : ℕ → Range → Bool
in_range i r = nat_le r.start i && nat_lt i r.stop

unfoldable replaced : Range → (ℕ → ℕ) → List ℕ → List ℕ
replaced r f cells = map (λ i. cond (in_range i r) (f i) (slice_index cells i)) (range_with_len 0 (length cells))

replaced_length : (r : Range) (f : ℕ → ℕ) (cells : List ℕ) → length (replaced r f cells) ≡ length cells
unfolding replaced
replaced_length r f cells = length-map-range_with_len (λ (i : ℕ). cond (in_range i r) (f i) (slice_index cells i)) 0 (length cells)

replaced_in : (r : Range) (f : ℕ → ℕ) (cells : List ℕ) (i : ℕ) → i < length cells → In i r → slice_index (replaced r f cells) i ≡ f i
unfolding replaced in_range
replaced_in r f cells i h inside =
    get_or-map-range_with_len (λ (k : ℕ). cond (in_range k r) (f k) (slice_index cells k)) 0 (length cells) i i 0 h (zero-add i)
    ∙ cond-true (in_range i r) _ _ (and_from _ _ (le-leb _ _ inside.0) (lt-ltb _ _ inside.1))

replaced_out : (r : Range) (f : ℕ → ℕ) (cells : List ℕ) (i : ℕ) → (In i r → ⊥) → slice_index (replaced r f cells) i ≡ slice_index cells i
unfolding replaced in_range
replaced_out r f cells i outside =
    elim (cases_lt i (length cells)) [
      | inl h ↦
          (let isnt : in_range i r ≡ false = false_from_ne_true _
          (λ e. let both = and_parts (nat_le r.start i) (nat_lt i r.stop) e in outside (leb-true _ _ both.0, ltb-true _ _ both.1)) in
          get_or-map-range_with_len (λ (k : ℕ). cond (in_range k r) (f k) (slice_index cells k)) 0 (length cells) i i 0 h (zero-add i)
          ∙ cond-false (in_range i r) _ _ isnt)
      | inr past ↦ get_or_past (replaced r f cells) i 0 (omega (arith, past, replaced_length r f cells)) ∙ sym (get_or_past cells i 0 past)
    ]

-- ---- the bytes of a range

bytes_length : (r : Range) (cells : List ℕ) → length (bytes_in r cells) ≡ r.stop - r.start
unfolding bytes_in
bytes_length r cells = length-map-range_with_len (λ (i : ℕ). slice_index cells i) r.start (r.stop - r.start)

bytes_at : (r : Range) (cells : List ℕ) (i : ℕ) → In i r → slice_index (bytes_in r cells) (i - r.start) ≡ slice_index cells i
unfolding bytes_in
bytes_at r cells i h =
    get_or-map-range_with_len (λ (k : ℕ). slice_index cells k) r.start (r.stop - r.start) (i - r.start) i 0 (omega (arith, h.0, h.1)) (omega (arith, h.0))

-- ---- actions one after another

Leads_then : (l : Geometry) (empty : ℕ) (xs ys : List Action) (cells mid want : List ℕ) → Leads l empty cells xs mid → Leads l empty mid ys want →
    Leads l empty cells (xs ++ ys) want
unfolding Leads
Leads_then l empty [] ys cells mid want first second = subst (λ (c : List ℕ). Leads l empty c ys want) (sym first) second
Leads_then l empty (a ∷ xs) ys cells mid want first second =
    (first.0, first.1, Leads_then l empty xs ys first.0 mid want first.2 second)

module _ (l : Geometry) (good : IsGeometry l) (empty : ℕ) where
  -- erasing each sector from `k` on that passes the test
  record Erased (t : ℕ → Bool) (n k : ℕ) (cells after : List ℕ) : Type 0 where
    leads : Leads l empty cells (erasures k (map t (range_with_len k n))) after
    long : length after ≡ length cells
    inside : (s i : ℕ) → k ≤ s → s < k + n → t s ≡ true → In i (range_at l.sectors s) → slice_index after i ≡ empty
    outside : (i : ℕ) → ((s : ℕ) → k ≤ s → s < k + n → t s ≡ true → In i (range_at l.sectors s) → ⊥) → slice_index after i ≡ slice_index cells i

  erase_all : (t : ℕ → Bool) (n k : ℕ) (cells : List ℕ) → length cells ≡ l.size → k + n ≤ length l.sectors → (after : List ℕ) × Erased t n k cells after
  unfolding Leads Acts erasures
  erase_all t zero k cells long few = (
    cells,
    record {
      leads = refl;
      long = refl;
      inside = λ s i a b. absurd (omega (arith, a, b));
      outside = λ i h. refl;
    },
  )
  erase_all t (suc n) k cells long few =
      let short : k + 1 + n ≤ length l.sectors = omega (arith, few) in
      elim (cases_Bool (t k)) [
        | inl is ↦
            (let r = range_at l.sectors k in
            let next : List ℕ = replaced r (λ _. empty) cells in
            let next_long : length next ≡ length cells = replaced_length r (λ _. empty) cells in
            let below = good.sectors_part.below k (omega (arith, few)) in
            let blank : IsEmpty empty r next = λ i hi. replaced_in r (λ _. empty) cells i (omega (arith, long, below, hi.1)) hi in
            let rest = erase_all t n (k + 1) next (next_long ∙ long) short in (
              rest.0,
              record {
                leads = rw is (next, (omega (arith, few), blank, (next_long, λ i h. replaced_out r (λ _. empty) cells i h)), rest.1.leads);
                long = rest.1.long ∙ next_long;
                inside = λ s i a b yes' hi. elim (cases_eq s k) [
                  | inl same ↦
                      (let here : In i r = subst (λ (m : ℕ). In i (range_at l.sectors m)) same hi in
                      rest.1.outside i (λ s2 a2 b2 t2 h2. omega (arith, a2, good.sectors_part.apart s2 k i h2 here)) ∙ blank i here)
                  | inr other ↦ rest.1.inside s i (omega (arith, a, other)) (omega (arith, b)) yes' hi
                ];
                outside = λ i h. rest.1.outside i (λ s2 a2 b2 t2 h2. h s2 (omega (arith, a2)) (omega (arith, b2)) t2 h2)
                    ∙ replaced_out r (λ _. empty) cells i (λ here. h k (omega arith) (omega arith) is here);
              },
            ))
        | inr isnt ↦
            (let rest = erase_all t n (k + 1) cells long short in (
              rest.0,
              record {
                leads = rw isnt rest.1.leads;
                long = rest.1.long;
                inside = λ s i a b yes' hi. elim (cases_eq s k) [
                  | inl same ↦ absurd (both_ways (t k) isnt (subst (λ (m : ℕ). t m ≡ true) same yes'))
                  | inr other ↦ rest.1.inside s i (omega (arith, a, other)) (omega (arith, b)) yes' hi
                ];
                outside = λ i h. rest.1.outside i (λ s2 a2 b2 t2 h2. h s2 (omega (arith, a2)) (omega (arith, b2)) t2 h2);
              },
            ))
      ]

  -- programming each page from `k` on that passes the test
  program_all : (want : List ℕ) → length want ≡ l.size → (t : ℕ → Bool) (n k : ℕ) (cells : List ℕ) → length cells ≡ l.size → k + n ≡ length l.pages
      → ((p i : ℕ) → k ≤ p → p < length l.pages → t p ≡ true → In i (range_at l.pages p) → slice_index cells i ≡ empty)
      → ((p i : ℕ) → k ≤ p → p < length l.pages → t p ≡ false → In i (range_at l.pages p) → slice_index cells i ≡ slice_index want i)
      → ((p i : ℕ) → p < k → In i (range_at l.pages p) → slice_index cells i ≡ slice_index want i)
      → Leads l empty cells (writes l want k (map t (range_with_len k n))) want
  unfolding Leads Acts writes
  program_all want want_long t zero k cells long all_pages blank same done =
      same_lists cells want (long ∙ sym want_long) (λ i d h.
      let x = good.pages_part.cover i (omega (arith, h, long)) in
      get_or_default cells i d 0 h ∙ done x.0 i (omega (arith, x.1, all_pages)) x.2 ∙ get_or_default want i 0 d (omega (arith, h, long, want_long)))
  program_all want want_long t (suc n) k cells long all_pages blank same done =
      let more : k + 1 + n ≡ length l.pages = omega (arith, all_pages) in
      let here : k < length l.pages = omega (arith, all_pages) in
      let r = range_at l.pages k in
      elim (cases_Bool (t k)) [
        | inl is ↦
            (let next : List ℕ = replaced r (λ i. slice_index want i) cells in
            let next_long : length next ≡ length cells = replaced_length r (λ i. slice_index want i) cells in
            let below = good.pages_part.below k here in
            let value : (i : ℕ) → In i r → slice_index next i ≡ slice_index want i =
            λ i hi. replaced_in r (λ j. slice_index want j) cells i (omega (arith, long, below, hi.1)) hi in
            let kept : (i : ℕ) → (In i r → ⊥) → slice_index next i ≡ slice_index cells i = λ i h. replaced_out r (λ j. slice_index want j) cells i h in
            let away : (p i : ℕ) → k + 1 ≤ p → In i (range_at l.pages p) → In i r → ⊥ = λ p i a hp hk. omega (arith, a, good.pages_part.apart p k i hp hk) in
            let held : Holds r (bytes_in r want) next = λ i hi. value i hi ∙ sym (bytes_at r want i hi) in
            let rest = program_all want want_long t n (k + 1) next (next_long ∙ long) more
            (λ p i a b yes' hi. kept i (away p i a hi) ∙ blank p i (omega (arith, a)) b yes' hi)
            (λ p i a b no' hi. kept i (away p i a hi) ∙ same p i (omega (arith, a)) b no' hi)
            (λ p i a hi. elim (cases_in i r) [
              | inl inside ↦ value i inside
              | inr outside ↦ kept i outside ∙ done p i (elim (cases_eq p k) [
                | inl e ↦ absurd (outside (subst (λ (m : ℕ). In i (range_at l.pages m)) e hi))
                | inr ne ↦ omega (arith, a, ne)
              ]) hi
            ]) in
            rw is (next, (here, bytes_length r want, (λ i hi. blank k i (omega arith) here is hi), held, (next_long, kept)), rest))
        | inr isnt ↦
            (let rest = program_all want want_long t n (k + 1) cells long more
            (λ p i a b yes' hi. blank p i (omega (arith, a)) b yes' hi)
            (λ p i a b no' hi. same p i (omega (arith, a)) b no' hi)
            (λ p i a hi. elim (cases_eq p k) [
              | inl e ↦ same p i (omega (arith, e)) (omega (arith, e, here)) (subst (λ (m : ℕ). t m ≡ false) (sym e) isnt) hi
              | inr ne ↦ done p i (omega (arith, a, ne)) hi
            ]) in
            rw isnt rest)
      ]

-- ---- the chosen plan is a plan

erases_no_chip : (l : Geometry) (want : List ℕ) (sectors pages : List Bool) (s p : ℕ) → erases_chip (erasures s sectors ++ writes l want p pages) ≡ false
unfolding erases_chip erasures writes
erases_no_chip l want [] [] s p = refl
erases_no_chip l want [] (true ∷ pages) s p = erases_no_chip l want [] pages s (p + 1)
erases_no_chip l want [] (false ∷ pages) s p = erases_no_chip l want [] pages s (p + 1)
erases_no_chip l want (true ∷ sectors) pages s p = erases_no_chip l want sectors pages (s + 1) p
erases_no_chip l want (false ∷ sectors) pages s p = erases_no_chip l want sectors pages (s + 1) p

module _ (l : Geometry) (good : IsGeometry l) (w : Weights) (empty : ℕ) (cells want : List ℕ) (long : length cells ≡ l.size) (want_long : length want ≡ l.size)
  where
    -- a page to program is empty once the sectors are erased
    program_blank : (p i : ℕ) → p < length l.pages → must_program l empty cells want p ≡ true → In i (range_at l.pages p) →
        slice_index (once_erased l empty cells want) i ≡ empty
    unfolding must_program
    program_blank p i hp m hi =
        let below = good.pages_part.below p hp in
        let value : (j : ℕ) → In j (range_at l.pages p) → slice_index (once_erased l empty cells want) j ≡ cond (is_erased l empty cells want j) empty
        (slice_index cells j) =
        λ j hj. once_at l empty cells want j (omega (arith, long, hj.1, below)) in
        let x = good.nested p hp in
        let in_sector : (j : ℕ) → In j (range_at l.pages p) → In j (range_at l.sectors x.0) =
        λ j hj. (omega (arith, x.2.0, hj.0), omega (arith, x.2.1, hj.1)) in
        elim (cases_Bool (must_erase l empty cells want x.0)) [
          | inl is ↦ value i hi ∙ cond-true _ _ _ (is_erased_from l empty cells want x.0 i x.1 is (in_sector i hi))
          | inr isnt ↦
              (let not_erased : (j : ℕ) → In j (range_at l.pages p) → is_erased l empty cells want j ≡ false =
              λ j hj. false_from_ne_true _ (λ e.
              let y = is_erased_at l empty cells want j e in
              let e2 : y.0 ≡ x.0 = good.sectors_part.apart y.0 x.0 j y.3 (in_sector j hj) in
              both_ways (must_erase l empty cells want x.0) isnt (subst (λ (s : ℕ). must_erase l empty cells want s ≡ true) e2 y.2)) in
              let stay : (j : ℕ) → In j (range_at l.pages p) → slice_index (once_erased l empty cells want) j ≡ slice_index cells j =
              λ j hj. value j hj ∙ cond-false _ _ _ (not_erased j hj) in
              let d = differs_at _ _ _ m in
              let changes : differs (range_at l.pages p) cells want ≡ true = differs_from _ cells want d.0 d.1 (λ e. d.2 (stay d.0 d.1 ∙ e)) in
              elim (cases_Bool (is_used empty (range_at l.pages p) cells)) [
                | inl used ↦ absurd (both_ways _ isnt (must_erase_from l empty cells want x.0 p hp x.2 changes used))
                | inr blank ↦ stay i hi ∙ unused _ _ _ blank i hi
              ])
        ]

    pub sectors_reach : IsPlan l empty false cells (erasures 0 (tests (length l.sectors) (must_erase l empty cells want)) ++ writes l want 0
        (tests (length l.pages) (must_program l empty cells want))) want
    unfolding must_program
    sectors_reach =
        let t = must_erase l empty cells want in
        let first = erase_all l good empty t (length l.sectors) 0 cells long (omega arith) in
        let mid : List ℕ = first.0 in
        let once : (i : ℕ) → i < length cells → slice_index mid i ≡ slice_index (once_erased l empty cells want) i =
        λ i h. elim (cases_Bool (is_erased l empty cells want i)) [
          | inl is ↦ (let y = is_erased_at l empty cells want i is in
              first.1.inside y.0 i (omega arith) (omega (arith, y.1)) y.2 y.3 ∙ sym (once_at l empty cells want i h ∙ cond-true _ _ _ is))
          | inr isnt ↦
              first.1.outside i (λ s a b yes' hs. both_ways _ isnt (is_erased_from l empty cells want s i (omega (arith, b)) yes' hs))
              ∙ sym (once_at l empty cells want i h ∙ cond-false _ _ _ isnt)
        ] in
        let second = program_all l good empty want want_long (must_program l empty cells want) (length l.pages) 0 mid (first.1.long ∙ long)
        (zero-add (length l.pages))
        (λ p i a b yes' hi. once i (omega (arith, long, hi.1, good.pages_part.below p b)) ∙ program_blank p i b yes' hi)
        (λ p i a b no' hi. once i (omega (arith, long, hi.1, good.pages_part.below p b)) ∙ same_in _ _ _ no' i hi)
        (λ p i a hi. absurd (omega (arith, a))) in
        record {
          leads = Leads_then l empty _ _ cells mid want first.1.leads second;
          lawful = λ e. absurd (both_ways _ (erases_no_chip l want (tests (length l.sectors) t) (tests (length l.pages) (must_program l empty cells want)) 0 0)
              e);
        }

    pub chip_reach : IsPlan l empty true cells ((EraseChip ∷ []) ++ writes l want 0 (tests (length l.pages) (is_wanted l empty want))) want
    unfolding Leads Acts is_wanted
    chip_reach =
        let whole : List ℕ = replaced (record { start = 0; stop = l.size }) (λ _. empty) cells in
        let whole_long : length whole ≡ length cells = replaced_length _ (λ _. empty) cells in
        let blank : (i : ℕ) → i < length whole → slice_index whole i ≡ empty = λ i h. replaced_in (record { start = 0; stop = l.size }) (λ _. empty) cells i
        (omega (arith, h, whole_long)) (omega arith, omega (arith, h, whole_long, long)) in
        let within : (p i : ℕ) → p < length l.pages → In i (range_at l.pages p) → i < length whole =
        λ p i hp hi. omega (arith, hi.1, good.pages_part.below p hp, whole_long, long) in
        let second = program_all l good empty want want_long (is_wanted l empty want) (length l.pages) 0 whole (whole_long ∙ long) (zero-add (length l.pages))
        (λ p i a b yes' hi. blank i (within p i b hi))
        (λ p i a b no' hi. blank i (within p i b hi) ∙ sym (unused _ _ _ no' i hi))
        (λ p i a hi. absurd (omega (arith, a))) in
        record {
          leads = (whole, (whole_long, blank), second);
          lawful = λ e. refl;
        }

    -- the chosen plan, as a list, is a plan
    pub chosen_reach : (has_chip : Bool) → IsPlan l empty has_chip cells (actions_of l want (chosen l w has_chip empty cells want)) want
    unfolding chosen takes_chip by_chip by_sectors actions_of
    chosen_reach has_chip =
        elim (cases_Bool (takes_chip l w has_chip empty cells want)) [
          | inl takes ↦
              (let both = and_parts has_chip (nat_lt (chip_cost l w empty want) (sectors_cost l w empty cells want)) takes in
              rw (both.0, both.1) chip_reach)
          | inr not_chip ↦ rw not_chip (record { leads = sectors_reach.leads; lawful = λ e. absurd (false≢true (sectors_reach.lawful e)) })
        ]
