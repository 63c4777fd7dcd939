-- If an algorithm keeps its duties for a region, the phases of its plan lead to the region's goal, and leave what lies outside the plan.
-- The clauses `reaches` and `local` of `Session::go` rest on this: the goal is reached, and nothing else is changed.
use Rattle.std.proofs.Common.{◌≡◌, ◌<◌, ◌≤◌, ◌+◌, ◌-◌, ◌^◌, ◌∙◌, ⊎_elim, inl, inr, ℕ, suc, Bool, true, false, cond, is_some, List, [], ◌∷◌, ◌++◌, map, length}
use Rattle.std.proofs.Common.{get_or, None, refl, sym, ap, subst, arith}
use Rattle.std.proofs.lemmas.Bool.{cases_lt}
use Rattle.std.proofs.lemmas.List.{get_or_past}
use Rattle.std.proofs.lemmas.List.FromFn.{length-map-range_with_len}
use Rattle.board_file.specs.declared.board.Weights.{Weights}
use Rattle.board_file.specs.Shown.{Shown as BoardShown}
use Rattle.flm_descriptor.specs.Shown.{Shown as AlgorithmShown}
use Rattle.flm_descriptor.specs.Shape.{Range, range_at}
use Rattle.flash_layout.specs.Areas.{cells_in}
use Rattle.flash_layout.specs.Maps.{FlashMap, board_map}
use Rattle.page_geometry.specs.Geometry.{In, Geometry, IsGeometry}
use Rattle.page_geometry.specs.Ideal.{Action, erasures, writes}
use Rattle.page_geometry.specs.Ideal as act
use Rattle.erase_planner.specs.Plans.{Chosen, Leads, erases_chip, actions_of, must_erase, must_program, is_wanted, takes_chip, by_sectors, by_chip, chosen}
use Rattle.erase_planner.specs.Plans.{IsLeastPlan}
use Rattle.target_core.specs.Units.{state_op, state_reset}
use Rattle.target_core.specs.World.{World}
use Rattle.algo_calls.specs.Setups.{Setup, setup_of}
use Rattle.algo_calls.specs.Frames.{loaded}
use Rattle.algo_calls.specs.Duties.{Site, part, Acting, span, KeepAll, Phase, Erases, ErasesChip, Programs, Verifies, kind_of, checks, works_of, MayAsk}
use Rattle.algo_calls.specs.Duties.{device_of, ready, site_of, Serves}
use Rattle.algo_calls.proofs.KeptLemmas.{board_in}
use Rattle.flash_session.specs.Moves.{Move, Stand}
use Rattle.flash_session.specs.Script.{RegionWork, region_work, erase_moves, page_moves, has_verify, verify_moves, phase, Torn, phases}
use Rattle.flash_session.specs.Local.{IsInRegionPlan, SameBut}
use Rattle.flash_session.proofs.Lists.{phase_none}
use Rattle.flash_session.proofs.Members.{move_of, erasing_phase, erase_list, program_list, check_list}
use Rattle.flash_session.proofs.Leading.{IsAmong, put, part_long, put_part, put_long, put_again, Led, led_ready, led_actions, led_verifies, leads_split}
use Rattle.flash_session.proofs.Leading.{leads_length, AreBytes, erased_bytes, part_bytes, put_bytes}
use Rattle.flash_session.proofs.Passing.{PlacesIn, Passes, passes_none, passes_then, passes_phase, begun, whole_phase}

-- ---- the sets of a plan

-- either of two plans has a truth value for each sector
either_sectors : (l : Geometry) (d : Bool) (x y : Chosen) → length x.sectors ≡ length l.sectors → length y.sectors ≡ length l.sectors
    → length (cond d x y).sectors ≡ length l.sectors
either_sectors l true x y one two = one
either_sectors l false x y one two = two

-- either of two plans has a truth value for each page
either_pages : (l : Geometry) (d : Bool) (x y : Chosen) → length x.pages ≡ length l.pages → length y.pages ≡ length l.pages
    → length (cond d x y).pages ≡ length l.pages
either_pages l true x y one two = one
either_pages l false x y one two = two

-- the chosen plan has a truth value for each sector
chosen_sectors : (l : Geometry) (w : Weights) (has_chip : Bool) (empty : ℕ) (old want : List ℕ)
    → length (chosen l w has_chip empty old want).sectors ≡ length l.sectors
unfolding chosen by_chip by_sectors
chosen_sectors l w has_chip empty old want =
    either_sectors l (takes_chip l w has_chip empty old want) (by_chip l w empty old want) (by_sectors l w empty old want)
    (length-map-range_with_len (λ (k : ℕ). false) 0 (length l.sectors)) (length-map-range_with_len (must_erase l empty old want) 0 (length l.sectors))

-- the chosen plan has a truth value for each page
chosen_pages : (l : Geometry) (w : Weights) (has_chip : Bool) (empty : ℕ) (old want : List ℕ)
    → length (chosen l w has_chip empty old want).pages ≡ length l.pages
unfolding chosen by_chip by_sectors
chosen_pages l w has_chip empty old want =
    either_pages l (takes_chip l w has_chip empty old want) (by_chip l w empty old want) (by_sectors l w empty old want)
    (length-map-range_with_len (is_wanted l empty want) 0 (length l.pages)) (length-map-range_with_len (must_program l empty old want) 0 (length l.pages))

-- the actions of a plan that erases the chip erase the chip
chip_first : (l : Geometry) (want : List ℕ) (plan : Chosen) → plan.chip ≡ true → erases_chip (actions_of l want plan) ≡ true
unfolding erases_chip actions_of
chip_first l want plan is = rw is refl

-- ---- the cells that a phase changes

-- a member of a set is a number below the set's length
below_length : (bs : List Bool) (k : ℕ) → get_or bs k false ≡ true → k < length bs
below_length bs k is = ⊎_elim
    (λ (less : k < length bs). less)
    (λ (le : length bs ≤ k). let none : false ≡ true = sym (get_or_past bs k false le) ∙ is in absurd cc)
    (cases_lt k (length bs))

-- the set P contains all places of the plan of a region
abbrev pub Covers : (ℕ → Type 0) → Site → Chosen → Type 0
Covers P site plan = (i : ℕ) → IsInRegionPlan site.start site.layout plan i → P i

-- a place in the range of a duty, counted from the region's first cell
in_span : (site : Site) (r : Range) (i : ℕ) → (span site r).0 ≤ i → i < (span site r).0 + (span site r).1 → In (i - site.start) r
    × (i ≡ site.start + (i - site.start))
in_span site r i from below = ((omega (arith, from), omega (arith, from, below)), omega (arith, from))

-- erasing opens operations only at places in P, if P contains the sectors of the set
sector_places : (P : ℕ → Type 0) (site : Site) (bs : List Bool) (k : ℕ)
    → ((j : ℕ) → get_or bs j false ≡ true → (i : ℕ) → In i (range_at site.layout.sectors (k + j)) → P (site.start + i))
    → PlacesIn P site (map Acting (erasures k bs))
unfolding erasures
sector_places P site [] k all = tt
sector_places P site (true ∷ bs) k all = (
  (λ i from below.
      let in_ = in_span site (range_at site.layout.sectors k) i from below in
      let z : k ≡ k + 0 = omega arith in
      subst P (sym in_.1) (all 0 refl (i - site.start) (subst (λ (n : ℕ). In (i - site.start) (range_at site.layout.sectors n)) z in_.0))),
  sector_places P site bs (k + 1) (λ j is i h. all (suc j) is i
      (let z : k + 1 + j ≡ k + suc j = omega arith in subst (λ (n : ℕ). In i (range_at site.layout.sectors n)) z h)),
)
sector_places P site (false ∷ bs) k all = sector_places P site bs (k + 1)
    (λ j is i h. all (suc j) is i (let z : k + 1 + j ≡ k + suc j = omega arith in subst (λ (n : ℕ). In i (range_at site.layout.sectors n)) z h))

-- programming opens operations only at places in P, if P contains the pages of the set
page_places : (P : ℕ → Type 0) (site : Site) (goal : List ℕ) (bs : List Bool) (k : ℕ)
    → ((j : ℕ) → get_or bs j false ≡ true → (i : ℕ) → In i (range_at site.layout.pages (k + j)) → P (site.start + i))
    → PlacesIn P site (map Acting (writes site.layout goal k bs))
unfolding writes
page_places P site goal [] k all = tt
page_places P site goal (true ∷ bs) k all = (
  (λ i from below.
      let in_ = in_span site (range_at site.layout.pages k) i from below in
      let z : k ≡ k + 0 = omega arith in
      subst P (sym in_.1) (all 0 refl (i - site.start) (subst (λ (n : ℕ). In (i - site.start) (range_at site.layout.pages n)) z in_.0))),
  page_places P site goal bs (k + 1) (λ j is i h. all (suc j) is i
      (let z : k + 1 + j ≡ k + suc j = omega arith in subst (λ (n : ℕ). In i (range_at site.layout.pages n)) z h)),
)
page_places P site goal (false ∷ bs) k all = page_places P site goal bs (k + 1)
    (λ j is i h. all (suc j) is i (let z : k + 1 + j ≡ k + suc j = omega arith in subst (λ (n : ℕ). In i (range_at site.layout.pages n)) z h))

-- checks open no place
check_places : (P : ℕ → Type 0) (s : Setup) (site : Site) (held : List ℕ) (bs : List Bool) (k : ℕ) → PlacesIn P site (checks s site.layout held k bs)
unfolding checks
check_places P s site held [] k = tt
check_places P s site held (true ∷ bs) k = (tt, check_places P s site held bs (k + 1))
check_places P s site held (false ∷ bs) k = check_places P s site held bs (k + 1)

-- the cells of a sector that the plan erases are places of the plan
in_sector : (P : ℕ → Type 0) (site : Site) (plan : Chosen) → IsGeometry site.layout → length plan.sectors ≡ length site.layout.sectors → Covers P site plan
    → (k : ℕ) → get_or plan.sectors k false ≡ true → (i : ℕ) → In i (range_at site.layout.sectors k) → P (site.start + i)
in_sector P site plan good long covers k is i h =
    let less : k < length site.layout.sectors = omega (arith, below_length plan.sectors k is, long) in
    covers (site.start + i) (record { at = i; is = refl; inside = omega (arith, h.1, good.sectors_part.below k less); planned = inr (inl (k, is, h)) })

-- the cells of a page that the plan programs are places of the plan
in_page : (P : ℕ → Type 0) (site : Site) (plan : Chosen) → IsGeometry site.layout → length plan.pages ≡ length site.layout.pages → Covers P site plan
    → (k : ℕ) → get_or plan.pages k false ≡ true → (i : ℕ) → In i (range_at site.layout.pages k) → P (site.start + i)
in_page P site plan good long covers k is i h =
    let less : k < length site.layout.pages = omega (arith, below_length plan.pages k is, long) in
    covers (site.start + i) (record { at = i; is = refl; inside = omega (arith, h.1, good.pages_part.below k less); planned = inr (inr (k, is, h)) })

-- the range of number `0 + k` is that of number `k`
from_zero : (rs : List Range) (i k : ℕ) → In i (range_at rs (0 + k)) → In i (range_at rs k)
from_zero rs i k h = let z : 0 + k ≡ k = omega arith in subst (λ (n : ℕ). In i (range_at rs n)) z h

-- the erase phase opens only places of the plan
erasing_places : (P : ℕ → Type 0) (s : Setup) (site : Site) (plan : Chosen) (held : List ℕ) (chip : Bool) → IsGeometry site.layout
    → length plan.sectors ≡ length site.layout.sectors → Covers P site plan
    → (chip ≡ true → plan.chip ≡ true) → PlacesIn P site (works_of s site.layout held (cond chip ErasesChip (Erases plan.sectors)))
unfolding works_of
erasing_places P s site plan held true good long covers is = (
  (λ i from below. covers i (record { at = i - site.start; is = omega (arith, from); inside = omega (arith, from, below); planned = inl (is refl) })),
  tt,
)
erasing_places P s site plan held false good long covers is =
    sector_places P site plan.sectors 0 (λ k in_set i h. in_sector P site plan good long covers k in_set i (from_zero site.layout.sectors i k h))

-- the program phase opens only places of the plan
programming_places : (P : ℕ → Type 0) (s : Setup) (site : Site) (plan : Chosen) (held goal : List ℕ) → IsGeometry site.layout
    → length plan.pages ≡ length site.layout.pages → Covers P site plan
    → PlacesIn P site (works_of s site.layout held (Programs plan.pages goal))
unfolding works_of
programming_places P s site plan held goal good long covers =
    page_places P site goal plan.pages 0 (λ k in_set i h. in_page P site plan good long covers k in_set i (from_zero site.layout.pages i k h))

-- the verify phase opens no place
verifying_places : (P : ℕ → Type 0) (s : Setup) (site : Site) (held : List ℕ) (set : List Bool) → PlacesIn P site (works_of s site.layout held (Verifies set))
unfolding works_of
verifying_places P s site held set = check_places P s site held set 0

-- ---- what the phases of a plan lead to

-- the erase phase leads to cells with the erased contents in the region
erasing_led : (s : Setup) (site : Site) (cells mid : List ℕ) (chip : Bool) (set : List Bool) → IsAmong site cells
    → Leads site.layout s.algorithm.device.empty (part site cells) (cond chip (act.EraseChip ∷ []) (erasures 0 set)) mid
    → Led s site cells (works_of s site.layout (part site cells) (cond chip ErasesChip (Erases set))) (put site mid cells)
unfolding works_of
erasing_led s site cells mid true set among leads = led_actions s site (act.EraseChip ∷ []) cells mid among leads
erasing_led s site cells mid false set among leads = led_actions s site (erasures 0 set) cells mid among leads

-- the program phase leads to cells with the goal in the region
programming_led : (s : Setup) (site : Site) (cells goal : List ℕ) (set : List Bool) → IsAmong site cells
    → Leads site.layout s.algorithm.device.empty (part site cells) (writes site.layout goal 0 set) goal
    → Led s site cells (works_of s site.layout (part site cells) (Programs set goal)) (put site goal cells)
unfolding works_of
programming_led s site cells goal set among leads = led_actions s site (writes site.layout goal 0 set) cells goal among leads

-- the actions of a plan are its erasures, and then its writes
split_actions : (l : Geometry) (goal : List ℕ) (plan : Chosen)
    → actions_of l goal plan ≡ cond plan.chip (act.EraseChip ∷ []) (erasures 0 plan.sectors) ++ writes l goal 0 plan.pages
unfolding actions_of
split_actions l goal plan = refl

-- the erase phase calls no function that the algorithm lacks
may_erase : (s : Setup) (l : Geometry) (chip : Bool) (set : List Bool) → (chip ≡ true → is_some s.algorithm.entries.erase_chip ≡ true)
    → length set ≡ length l.sectors → MayAsk s l (cond chip ErasesChip (Erases set))
may_erase s l true set entry long = entry refl
may_erase s l false set entry long = long

-- the erase phase is of kind 1, for the chip as for sectors
erasing_kind : (chip : Bool) (set : List Bool) → kind_of (cond chip ErasesChip (Erases set)) ≡ 1
erasing_kind true set = refl
erasing_kind false set = refl

-- the moves of a region, phase by phase
phases_are : (s : Setup) (t : RegionWork) (b : Torn) → phases s t b ≡ phase s 1 b.erase (erase_moves s t.planned) ++
    (phase s 2 b.program (page_moves false s t) ++ phase s 3 b.verify (verify_moves s t))
unfolding phases
phases_are s t b = refl

-- ---- a region's plan, where its algorithm keeps its duties on the cells

-- the cells are those before the region's first call, and the goal is the region's part
pub record IsRegionServed (b : BoardShown) (region : ℕ) (a : AlgorithmShown) (w : Weights) (plan : Chosen) (goal cells : List ℕ) : Type 0 where
  pub serves : Serves b a region
  pub lawful : IsGeometry (device_of a)
  pub count : length cells ≡ cells_in (board_map b).areas
  pub among : IsAmong (site_of b a region) cells
  pub goal_size : length goal ≡ (device_of a).size
  pub empty : a.device.empty < 2 ^ 8
  pub bytes : AreBytes cells
  pub goal_bytes : AreBytes goal
  pub least : IsLeastPlan (device_of a) w (is_some a.entries.erase_chip) a.device.empty (part (site_of b a region) cells) goal plan

module _ (P : ℕ → Type 0) (old : List ℕ) (b : BoardShown) (region : ℕ) (a : AlgorithmShown) (w : Weights) (plan : Chosen) (goal cells : List ℕ)
    (is : IsRegionServed b region a w plan goal cells)
    (covers : Covers P (site_of b a region) plan) where
  abbrev here : Site
  here = site_of b a region

  abbrev mine : List ℕ
  mine = part here cells

  -- after reset and load the world is the one in which an algorithm keeps its duties
  begun_is : (x : World) → board_in x ≡ (b.ram_base, board_map b) → begun (setup_of a b) x ≡ ready b a x.cells
  begun_is x same = ap (λ (p : ℕ × FlashMap). let y : World =
      record { ram_base = p.0; ram = loaded (setup_of a b); map = p.1; state = state_reset p.1; cells = x.cells } in y) same

  -- a phase of the region over these cells
  work_here : (kind : Phase) (x : Stand) (torn : List ℕ) (moves : List Move) (want : List ℕ) → board_in x.world ≡ (b.ram_base, board_map b)
      → state_op x.world.state ≡ None
      → moves ≡ map (move_of (setup_of a b) (device_of a)) (works_of (setup_of a b) (device_of a) (part here x.world.cells) kind)
      → length x.world.cells ≡ length cells → AreBytes x.world.cells
      → MayAsk (setup_of a b) (device_of a) kind → Led (setup_of a b) here x.world.cells (works_of (setup_of a b) (device_of a) (part here x.world.cells) kind)
      want
      → PlacesIn P here (works_of (setup_of a b) (device_of a) (part here x.world.cells) kind) → SameBut P old x.world.cells
      → Passes P x (phase (setup_of a b) (kind_of kind) torn moves) want old
  work_here kind x torn moves want board idle list long bytes may led places start =
      let s = setup_of a b in
      let works = works_of s (device_of a) (part here x.world.cells) kind in
      passes_phase P old s here is.lawful (kind_of kind) torn moves works x want list (omega (arith, is.among, long)) idle
      (λ some. subst (λ (v : World). KeepAll s here v (whole_phase (kind_of kind) works)) (sym (begun_is x.world board))
      (is.serves.keeps x.world.cells kind (long ∙ is.count) bytes may some (led_ready s here works x.world.cells want led)))
      led places start

  -- a phase of the region, where the cells before it are known
  work : (kind : Phase) (x : Stand) (torn : List ℕ) (moves : List Move) (want now held : List ℕ) → x.world.cells ≡ now → part here now ≡ held
      → board_in x.world ≡ (b.ram_base, board_map b) → state_op x.world.state ≡ None
      → moves ≡ map (move_of (setup_of a b) (device_of a)) (works_of (setup_of a b) (device_of a) held kind) → length now ≡ length cells → AreBytes now
      → MayAsk (setup_of a b) (device_of a) kind → Led (setup_of a b) here now (works_of (setup_of a b) (device_of a) held kind) want
      → PlacesIn P here (works_of (setup_of a b) (device_of a) held kind) → SameBut P old now
      → Passes P x (phase (setup_of a b) (kind_of kind) torn moves) want old
  work kind x torn moves want now held same part_is board idle list long bytes may led places start =
      let s = setup_of a b in
      let l = device_of a in
      let held_is : held ≡ part here x.world.cells = sym part_is ∙ ap (part here) (sym same) in
      work_here kind x torn moves want board idle
      (subst (λ (c : List ℕ). moves ≡ map (move_of s l) (works_of s l c kind)) held_is list)
      (ap (λ (c : List ℕ). length c) same ∙ long)
      (subst (λ (c : List ℕ). AreBytes c) (sym same) bytes) may
      (subst (λ (c : List ℕ). Led s here x.world.cells (works_of s l c kind) want) held_is
      (subst (λ (c : List ℕ). Led s here c (works_of s l held kind) want) (sym same) led))
      (subst (λ (c : List ℕ). PlacesIn P here (works_of s l c kind)) held_is places)
      (subst (λ (c : List ℕ). SameBut P old c) (sym same) start)

  -- the sets of the plan have a truth value for each page
  pages_long : length plan.pages ≡ length (device_of a).pages
  pages_long = ap (λ (p : Chosen). length p.pages) is.least.chosen ∙ chosen_pages (device_of a) w (is_some a.entries.erase_chip) a.device.empty mine goal

  -- the sets of the plan have a truth value for each sector
  sectors_long : length plan.sectors ≡ length (device_of a).sectors
  sectors_long = ap (λ (p : Chosen). length p.sectors) is.least.chosen ∙ chosen_sectors (device_of a) w (is_some a.entries.erase_chip) a.device.empty mine goal

  abbrev own_work : RegionWork
  own_work = region_work (device_of a) a.device.base plan goal

  -- the cells that the script is to reach with this region
  abbrev reached : List ℕ
  reached = put here goal cells

  -- those cells are as many as before
  reached_long : length reached ≡ length cells
  reached_long = put_long here goal cells is.among is.goal_size

  -- the verify phase, if the algorithm can verify, changes no cell
  check_passes : (d : Bool) (x : Stand) (torn : List ℕ) → d ≡ has_verify (setup_of a b) → x.world.cells ≡ reached → board_in x.world ≡ (b.ram_base, board_map b)
      → state_op x.world.state ≡ None → SameBut P old reached
      → Passes P x (phase (setup_of a b) 3 torn (cond d (page_moves true (setup_of a b) own_work) [])) reached old
  check_passes true x torn entry same board idle start =
      let s = setup_of a b in
      let l = device_of a in
      work (Verifies plan.pages) x torn (page_moves true s own_work) reached reached goal same (put_part here goal cells is.among is.goal_size) board idle
      (check_list s l plan goal is.lawful is.goal_size pages_long) reached_long (put_bytes here goal cells is.among is.goal_size is.bytes is.goal_bytes)
      (pages_long, sym entry) (led_verifies s here goal reached plan.pages) (verifying_places P s here goal plan.pages) start
  check_passes false x torn entry same board idle start = passes_none P old x (phase (setup_of a b) 3 torn []) reached
      (phase_none (setup_of a b) 3 torn [] refl) idle same start

  -- the phases of the plan from these cells on leave the cells of the other regions
  pub phases_pass : (x : Stand) (torn : Torn) → x.world.cells ≡ cells → board_in x.world ≡ (b.ram_base, board_map b) → state_op x.world.state ≡ None
      → SameBut P old cells
      → Passes P x (phases (setup_of a b) own_work torn) reached old
  phases_pass x torn same board idle start =
      let s = setup_of a b in
      let l = device_of a in
      let es : List Action = cond plan.chip (act.EraseChip ∷ []) (erasures 0 plan.sectors) in
      let ws : List Action = writes l goal 0 plan.pages in
      let parts : (mid : List ℕ) × Leads l a.device.empty mine es mid × Leads l a.device.empty mid ws goal =
      leads_split l a.device.empty es ws mine goal (subst (λ (y : List Action). Leads l a.device.empty mine y goal)
      (split_actions l goal plan) is.least.leads.leads) in
      let half : List ℕ = parts.0 in
      let half_size : length half ≡ l.size = leads_length l a.device.empty es mine half parts.1 ∙ part_long here cells is.among in
      let mid : List ℕ = put here half cells in
      let mid_part : part here mid ≡ half = put_part here half cells is.among half_size in
      let mid_long : length mid ≡ length cells = put_long here half cells is.among half_size in
      let mid_among : IsAmong here mid = omega (arith, is.among, mid_long) in
      let half_bytes : AreBytes half = erased_bytes l a.device.empty plan.chip plan.sectors mine half is.empty (part_bytes here cells is.among is.bytes)
      parts.1 in
      let entry : plan.chip ≡ true → is_some a.entries.erase_chip ≡ true = λ chip. is.least.leads.lawful (chip_first l goal plan chip) in
      let second : List Move = phase s 2 torn.program (page_moves false s own_work) in
      let third : List Move = phase s 3 torn.verify (verify_moves s own_work) in
      let one : Passes P x (phase s 1 torn.erase (erase_moves s own_work.planned)) mid old =
      subst (λ (n : ℕ). Passes P x (phase s n torn.erase (erase_moves s own_work.planned)) mid old) (erasing_kind plan.chip plan.sectors)
      (work (erasing_phase plan) x torn.erase (erase_moves s own_work.planned) mid cells mine same refl board idle
      (erase_list s l plan goal mine sectors_long) refl is.bytes
      (may_erase s l plan.chip plan.sectors entry sectors_long) (erasing_led s here cells half plan.chip plan.sectors is.among parts.1)
      (erasing_places P s here plan mine plan.chip is.lawful sectors_long covers (λ chip. chip)) start) in
      let written : Led s here mid (works_of s l half (Programs plan.pages goal)) reached =
      subst (λ (c : List ℕ). Led s here mid (works_of s l half (Programs plan.pages goal)) c) (put_again here goal half cells is.among half_size)
      (subst (λ (c : List ℕ). Led s here mid (works_of s l c (Programs plan.pages goal)) (put here goal mid)) mid_part
      (programming_led s here mid goal plan.pages mid_among (subst (λ (c : List ℕ). Leads l a.device.empty c ws goal) (sym mid_part) parts.2))) in
      subst (λ (m : List Move). Passes P x m reached old) (sym (phases_are s own_work torn))
      (passes_then P old x (phase s 1 torn.erase (erase_moves s own_work.planned)) (second ++ third) mid reached one (λ y y_idle y_is y_board.
      let two : Passes P y second reached old =
      work (Programs plan.pages goal) y torn.program (page_moves false s own_work) reached mid half y_is mid_part (y_board ∙ board) y_idle
      (program_list s l plan goal is.lawful is.goal_size pages_long half) mid_long (put_bytes here half cells is.among half_size is.bytes half_bytes)
      (pages_long, is.goal_size, is.goal_bytes) written (programming_places P s here plan half goal is.lawful pages_long covers) one.same in
      passes_then P old y second third reached reached two (λ z z_idle z_is z_board.
      check_passes (has_verify s) z torn.verify refl z_is (z_board ∙ y_board ∙ board) z_idle two.same)))
