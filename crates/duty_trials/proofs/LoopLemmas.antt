-- A list that is tried call by call: what each call may rely on, the target at each call, and that a breach is one of the list.
use Rattle.std.proofs.Common.{◌≡◌, ◌<◌, ◌≤◌, ◌+◌, ◌^◌, ◌∙◌, ◌⊎◌, ⊎_elim, inl, inr, ℕ, suc, Bool, true, false, All, List, [], ◌∷◌, length}
use Rattle.std.proofs.Common.{length-take, take, drop, get_or, slice_index, Option, None, refl, sym, ap, subst, zero-add, arith}
use Rattle.std.proofs.lemmas.List.Elements.{All-take, All-drop}
use Rattle.std.proofs.lemmas.List.{take_all}
use Rattle.board_file.specs.Shown.{Shown as BoardShown}
use Rattle.flash_layout.specs.Areas.{cells_in}
use Rattle.flash_layout.specs.Maps.{board_map}
use Rattle.flm_descriptor.specs.Shown.{Shown as AlgorithmShown}
use Rattle.flm_descriptor.specs.Shape.{range_at}
use Rattle.page_geometry.specs.Geometry.{In, Geometry, IsGeometry}
use Rattle.page_geometry.specs.Ideal.{Acts, bytes_in}
use Rattle.page_geometry.specs.Ideal as act
use Rattle.target_core.specs.World.{World}
use Rattle.algo_calls.specs.declared.call.Call.TheVariants as call
use Rattle.algo_calls.specs.Setups.{Setup, setup_of}
use Rattle.algo_calls.specs.Frames.{Request, asked, after}
use Rattle.algo_calls.proofs.IdealLemmas.{does_length}
use Rattle.algo_calls.specs.Duties.{Site, Duty, Acting, Quiet, Does, Keeps, IsReady, AreReady, MayAsk, works_of, part, request_of, device_of, site_of}
use Rattle.algo_calls.specs.Duties.{ready}
use Rattle.duty_trials.specs.declared.stand.Tried.{Tried}
use Rattle.duty_trials.specs.declared.list.Work.{Work}
use Rattle.duty_trials.specs.declared.list.Work.TheVariants as work
use Rattle.duty_trials.specs.declared.list.Turn.{Turn}
use Rattle.duty_trials.specs.declared.list.Turn.TheVariants as turn
use Rattle.duty_trials.specs.Tried.{IsBroken, IsKept}
use Rattle.duty_trials.specs.Trials.{world_after, IsAsked}
use Rattle.duty_trials.specs.Lists.{kind_in, count_of, HasFunction, MayWork, members, work_on, phase_of, init_of, uninit_of, duty_at, before_turn}
use Rattle.duty_trials.specs.declared.stand.Tried.TheVariants as tried
use Rattle.duty_trials.specs.declared.list.Ended.{Ended}
use Rattle.duty_trials.specs.declared.subject.Subject.{Subject}
use Rattle.duty_trials.specs.Subjects.{board_in, algorithm_in, setup_for, site_in}
use Rattle.duty_trials.specs.Ended.{TriesCall, TriesMember, BreaksAt, IfBroken, ended_at}
use Rattle.duty_trials.proofs.SubjectLemmas.{layout_good, among}
use Rattle.duty_trials.proofs.IdealLemmas.{bytes_agree, part_long}
use Rattle.duty_trials.proofs.ListLemmas.{members_same, members_more, members_skip, members_some, only_one, works_are, IsTurn, behind_turn, turns}
use Rattle.duty_trials.proofs.TrialLemmas.{world_more}
use Rattle.duty_trials.proofs.WorkLemmas.{Refutes}

is_or_not : (x : Bool) → (x ≡ true) ⊎ (x ≡ false)
is_or_not true = inl refl
is_or_not false = inr refl

-- ---- what a call may rely on

-- a page stays as it is when another page is programmed
page_stays : (s : Setup) (site : Site) (k j : ℕ) (bytes x y : List ℕ) → IsGeometry site.layout → (k ≡ j → ⊥)
    → Does s site x (Acting (act.ProgramPage k bytes)) y
    → (i : ℕ) → In i (range_at site.layout.pages j) → slice_index (part site y) i ≡ slice_index (part site x) i
unfolding Acts
page_stays s site k j bytes x y good other does i inside = does.leads.4.1 i (λ there. other (good.pages_part.apart k j i there inside))

-- a later work may still be done after another one: an empty page stays empty
may_later : (s : Setup) (site : Site) (w : Work) (held : List ℕ) (k j : ℕ) (x y : List ℕ) → IsGeometry site.layout → k < j
    → Does s site x (work_on s site.layout w held k) y
    → MayWork s site x w j → MayWork s site y w j
may_later s site work.Sectors held k j x y good less does may = tt
may_later s site work.Chip held k j x y good less does may = tt
may_later s site work.Pages held k j x y good less does may = λ i inside.
    page_stays s site k j (bytes_in (range_at site.layout.pages k) held) x y good (λ same. absurd (omega (arith, less, same))) does i inside ∙ may i inside
may_later s site work.Checks held k j x y good less does may = tt

-- the works before number `k` are the same over the cells that work `k` leaves
work_same : (s t : Setup) (site : Site) (w : Work) (held : List ℕ) (k j : ℕ) (x y : List ℕ) → IsGeometry site.layout → j < k
    → Does s site x (work_on t site.layout w held k) y
    → work_on t site.layout w (part site x) j ≡ work_on t site.layout w (part site y) j
work_same s t site work.Sectors held k j x y good less does = refl
work_same s t site work.Chip held k j x y good less does = refl
work_same s t site work.Pages held k j x y good less does =
    ap (λ (b : List ℕ). Acting (act.ProgramPage j b)) (bytes_agree (range_at site.layout.pages j) (part site x) (part site y)
    (page_stays s site k j (bytes_in (range_at site.layout.pages k) held) x y good (λ same. absurd (omega (arith, less, same))) does))
work_same s t site work.Checks held k j x y good less does = ap (λ (c : List ℕ). work_on t site.layout work.Checks (part site c) j) (sym does)

ready_one : (s : Setup) (site : Site) (w : Work) (held cells : List ℕ) (k : ℕ) → MayWork s site cells w k
    → IsReady s site cells (work_on s site.layout w held k)
ready_one s site work.Sectors held cells k may = tt
ready_one s site work.Chip held cells k may = tt
ready_one s site work.Pages held cells k may = may
ready_one s site work.Checks held cells k may = tt

all_ready : (s : Setup) (site : Site) (w : Work) (held : List ℕ) → IsGeometry site.layout → (bs : List Bool) (k : ℕ) (cells : List ℕ)
    → ((j : ℕ) → get_or bs j false ≡ true → MayWork s site cells w (k + j)) → AreReady s site cells (members (work_on s site.layout w held) k bs)
unfolding AreReady
all_ready s site w held good [] k cells may = tt
all_ready s site w held good (true ∷ bs) k cells may =
    let z : k + 0 ≡ k = omega arith in (
      ready_one s site w held cells k (subst (λ (n : ℕ). MayWork s site cells w n) z (may 0 refl)),
      λ y does. all_ready s site w held good bs (k + 1) y (λ j is.
          let e : k + suc j ≡ k + 1 + j = omega arith in
          may_later s site w held k (k + 1 + j) cells y good (omega arith) does (subst (λ (n : ℕ). MayWork s site cells w n) e (may (suc j) is))),
    )
all_ready s site w held good (false ∷ bs) k cells may = all_ready s site w held good bs (k + 1) cells (λ j is.
    let e : k + suc j ≡ k + 1 + j = omega arith in subst (λ (n : ℕ). MayWork s site cells w n) e (may (suc j) is))

-- ---- a list that `Serves` covers

may_ask : (s : Setup) (l : Geometry) (w : Work) (set : List Bool) (held : List ℕ) → length set ≡ count_of l w → HasFunction s.algorithm.entries w
    → length held ≡ l.size
    → All (λ v. v < 2 ^ 8) held → MayAsk s l (phase_of w set held)
may_ask s l work.Sectors set held long has size bytes = long
may_ask s l work.Chip set held long has size bytes = has
may_ask s l work.Pages set held long has size bytes = (long, size, bytes)
may_ask s l work.Checks set held long has size bytes = (long, has)

-- what is known of a list before its trial: a set with a member, and cells over which its works may be asked for
pub record IsList (b : BoardShown) (a : AlgorithmShown) (region : ℕ) (w : Work) (set : List Bool) (before : List ℕ) : Type 0 where
  pub good : IsGeometry (device_of a)
  pub long : length before ≡ cells_in (board_map b).areas
  pub bytes : All (λ v. v < 2 ^ 8) before
  pub among : (site_of b a region).start + (device_of a).size ≤ length before
  pub many : length set ≡ count_of (device_of a) w
  pub function : HasFunction a.entries w
  pub member : ℕ
  pub has : get_or set member false ≡ true
  pub may : (j : ℕ) → get_or set j false ≡ true → MayWork (setup_of a b) (site_of b a region) before w j

chip_only : (b : BoardShown) (a : AlgorithmShown) (region : ℕ) (w : Work) (set : List Bool) (before : List ℕ) → IsList b a region w set before → w ≡ work.Chip
    → set ≡ true ∷ []
chip_only b a region w set before list is = only_one set list.member (list.many ∙ ap (λ (x : Work). count_of (device_of a) x) is) list.has

asks : (b : BoardShown) (a : AlgorithmShown) (region : ℕ) (w : Work) (set : List Bool) (before ideal : List ℕ) → IsList b a region w set before
    → length ideal ≡ length before
    → All (λ v. v < 2 ^ 8) ideal → (w ≡ work.Checks → ideal ≡ before) → IsAsked b a region before (phase_of w set (part (site_of b a region) ideal))
asks b a region w set before ideal list same bytes still =
    let s : Setup = setup_of a b in
    let site : Site = site_of b a region in
    let held : List ℕ = part site ideal in
    let works : works_of s (device_of a) (part site before) (phase_of w set held) ≡ members (work_on s (device_of a) w held) 0 set =
    works_are s (device_of a) w set (part site before) held (chip_only b a region w set before list) (λ is. ap (λ (c : List ℕ). part site c) (still is)) in
    record {
      long = list.long;
      bytes = list.bytes;
      may = may_ask s (device_of a) w set held list.many list.function (part_long site ideal (omega (arith, list.among, same)))
          (All-take (λ v. v < 2 ^ 8) site.layout.size (drop site.start ideal) (All-drop (λ v. v < 2 ^ 8) site.start ideal bytes));
      some = λ none. members_some (work_on s (device_of a) w held) 0 set list.member list.has (sym works ∙ none);
      ready = subst (λ (ds : List Duty). AreReady s site before ds) (sym works) (all_ready s site w held list.good set 0 before (λ j is.
          subst (λ (n : ℕ). MayWork s site before w n) (sym (zero-add j)) (list.may j is)));
    }

-- a call of a list that isn't kept is a breach of the list
pub breaks : (b : BoardShown) (a : AlgorithmShown) (region : ℕ) (w : Work) (set : List Bool) (before ideal : List ℕ) (t : Turn) (s : Setup) (x : World)
    → IsList b a region w set before
    → length ideal ≡ length before → All (λ v. v < 2 ^ 8) ideal → (w ≡ work.Checks → ideal ≡ before) → IsTurn set t → s ≡ setup_of a b
    → x ≡ world_after (setup_of a b) (site_of b a region) (ready b a before)
    (before_turn (setup_of a b) (device_of a) w set (part (site_of b a region) ideal) t)
    → (Keeps s (site_of b a region) x (duty_at (setup_of a b) (device_of a) w (part (site_of b a region) ideal) t) → ⊥)
    → BreaksAt b a region w set before ideal t
breaks b a region w set before ideal t s x list same bytes still is setup stands broken =
    let site : Site = site_of b a region in
    let held : List ℕ = part site ideal in
    record {
      asked = asks b a region w set before ideal list same bytes still;
      behind = behind_turn (setup_of a b) (device_of a) w set held t;
      list = turns (setup_of a b) (device_of a) w set (part site before) held t (chip_only b a region w set before list)
          (λ is'. ap (λ (c : List ℕ). part site c) (still is')) is;
      breaks = subst (λ (y : World). Keeps (setup_of a b) site y (duty_at (setup_of a b) (device_of a) w held t) → ⊥) stands
          (subst (λ (z : Setup). Keeps z site x (duty_at (setup_of a b) (device_of a) w held t) → ⊥) setup broken);
    }

-- ---- how far a list has come

-- All calls before number `k` were kept. The target has made them, over the cells that the ideal device leaves, and no operation is open.
pub record Goes (b : BoardShown) (a : AlgorithmShown) (region : ℕ) (w : Work) (set : List Bool) (before : List ℕ) (k : ℕ) (s : Setup) (x : World)
    (operation : Option (ℕ × ℕ))
    (ideal : List ℕ) : Type 0 where
  pub list : IsList b a region w set before
  pub setup : s ≡ setup_of a b
  pub world : x ≡ world_after (setup_of a b) (site_of b a region) (ready b a before)
      (init_of w ∷ members (work_on (setup_of a b) (device_of a) w (part (site_of b a region) ideal)) 0 (take k set))
  pub cells : x.cells ≡ ideal
  pub long : length ideal ≡ length before
  pub still : w ≡ work.Checks → ideal ≡ before
  pub may : (j : ℕ) → k ≤ j → get_or set j false ≡ true → MayWork (setup_of a b) (site_of b a region) ideal w j
  pub idle : operation ≡ None

-- the loop's state after Init
pub goes_first : (b : BoardShown) (a : AlgorithmShown) (region : ℕ) (w : Work) (set : List Bool) (before : List ℕ) (kind : ℕ) (s s' : Setup) (x x' : World)
    (operation : Option (ℕ × ℕ))
    → IsList b a region w set before → kind ≡ kind_in w → s ≡ setup_of a b → s' ≡ s → x ≡ ready b a before → x' ≡ after s x (asked (call.Init kind) [])
    → x'.cells ≡ before
    → operation ≡ None → Goes b a region w set before 0 s' x' operation before
goes_first b a region w set before kind s s' x x' operation list told setup same stands is cells idle = record {
  list = list;
  setup = same ∙ setup;
  world = is
      ∙ ap (λ (n : ℕ). after s x (asked (call.Init n) [])) told
      ∙ ap (λ (z : Setup). after z x (asked (call.Init (kind_in w)) [])) setup
      ∙ ap (λ (y : World). after (setup_of a b) y (asked (call.Init (kind_in w)) [])) stands;
  cells = cells;
  long = refl;
  still = λ is'. refl;
  may = λ j from has. list.may j has;
  idle = idle;
}

-- the loop's state after a number that isn't in the set
goes_past : (b : BoardShown) (a : AlgorithmShown) (region : ℕ) (w : Work) (set : List Bool) (before : List ℕ) (k : ℕ) (s : Setup) (x : World)
    (operation : Option (ℕ × ℕ)) (ideal : List ℕ)
    → get_or set k false ≡ false → Goes b a region w set before k s x operation ideal → Goes b a region w set before (k + 1) s x operation ideal
goes_past b a region w set before k s x operation ideal isnt goes = record {
  list = goes.list;
  setup = goes.setup;
  world = goes.world ∙ ap (λ (ds : List Duty). world_after (setup_of a b) (site_of b a region) (ready b a before) (init_of w ∷ ds))
      (sym (members_skip (work_on (setup_of a b) (device_of a) w (part (site_of b a region) ideal)) set k isnt));
  cells = goes.cells;
  long = goes.long;
  still = goes.still;
  may = λ j from has. goes.may j (omega (arith, from)) has;
  idle = goes.idle;
}

-- the loop's state for values that are equal to these
goes_as : (b : BoardShown) (a : AlgorithmShown) (region : ℕ) (w : Work) (set : List Bool) (before : List ℕ) (k : ℕ) (s s' : Setup) (x x' : World)
    (operation operation' : Option (ℕ × ℕ))
    (ideal ideal' : List ℕ) → s' ≡ s → x' ≡ x → operation' ≡ operation → ideal' ≡ ideal → Goes b a region w set before k s x operation ideal
    → Goes b a region w set before k s' x' operation' ideal'
goes_as b a region w set before k s s' x x' operation operation' ideal ideal' setup world opened cells goes =
    subst (λ (z : Setup). Goes b a region w set before k z x' operation' ideal') (sym setup)
    (subst (λ (y : World). Goes b a region w set before k s y operation' ideal') (sym world)
    (subst (λ (o : Option (ℕ × ℕ)). Goes b a region w set before k s x o ideal') (sym opened)
    (subst (λ (c : List ℕ). Goes b a region w set before k s x operation c) (sym cells) goes)))

-- checks leave the cells as they are
still_later : (s t : Setup) (site : Site) (w : Work) (held : List ℕ) (k : ℕ) (x y : List ℕ) → Does s site x (work_on t site.layout w held k) y → w ≡ work.Checks
    → y ≡ x
still_later s t site work.Sectors held k x y does is = absurd cc
still_later s t site work.Chip held k x y does is = absurd cc
still_later s t site work.Pages held k x y does is = absurd cc
still_later s t site work.Checks held k x y does is = does

-- the works over the cells that the ideal device leaves
abbrev work_with : BoardShown → AlgorithmShown → ℕ → Work → List ℕ → ℕ → Duty
work_with b a region w ideal j = work_on (setup_of a b) (device_of a) w (part (site_of b a region) ideal) j

module _ (b : BoardShown) (a : AlgorithmShown) (region : ℕ) (w : Work) (set : List Bool) (before : List ℕ) (k : ℕ) (s : Setup) (x : World)
    (operation : Option (ℕ × ℕ)) (ideal : List ℕ) (x' : World) (operation' : Option (ℕ × ℕ)) (ideal' : List ℕ) (result : Tried)
    (goes : Goes b a region w set before k s x operation ideal) where
  module _ (has : get_or set k false ≡ true)
      (tries : TriesCall s (site_of b a region) (work_on (setup_of a b) (device_of a) w (part (site_of b a region) ideal') k) ideal ideal' x x' operation'
      result) where
    does : Does (setup_of a b) (site_of b a region) ideal (work_with b a region w ideal' k) ideal'
    does = subst (λ (z : Setup). Does z (site_of b a region) ideal (work_with b a region w ideal' k) ideal') goes.setup tries.does

    -- the members before a call are the same over the cells that the ideal device leaves
    same : members (work_with b a region w ideal) 0 (take k set) ≡ members (work_with b a region w ideal') 0 (take k set)
    same = members_same (work_with b a region w ideal) (work_with b a region w ideal') (take k set) 0 (λ j from below.
        work_same (setup_of a b) (setup_of a b) (site_of b a region) w (part (site_of b a region) ideal') k j ideal ideal' goes.list.good
        (omega (arith, below, length-take k set)) does)

    stands : x ≡ world_after (setup_of a b) (site_of b a region) (ready b a before) (init_of w ∷ members (work_with b a region w ideal') 0 (take k set))
    stands = goes.world ∙ ap (λ (ds : List Duty). world_after (setup_of a b) (site_of b a region) (ready b a before) (init_of w ∷ ds)) same

    long : length ideal' ≡ length before
    long = does_length (setup_of a b) (site_of b a region) (work_with b a region w ideal' k) ideal ideal' does ∙ goes.long

    still : w ≡ work.Checks → ideal' ≡ before
    still is = still_later (setup_of a b) (setup_of a b) (site_of b a region) w (part (site_of b a region) ideal') k ideal ideal' does is ∙ goes.still is

    call_breaks : IsBroken result → BreaksAt b a region w set before ideal' (turn.Member k)
    call_breaks broken =
        breaks b a region w set before ideal' (turn.Member k) s x goes.list long tries.bytes still has goes.setup stands (tries.broken broken)

    goes_more : IsKept result → Goes b a region w set before (k + 1) s x' operation' ideal'
    goes_more kept = record {
      list = goes.list;
      setup = goes.setup;
      world = tries.world kept
          ∙ ap (λ (z : Setup). after z x (request_of z (device_of a) (work_with b a region w ideal' k))) goes.setup
          ∙ ap (λ (y : World). after (setup_of a b) y (request_of (setup_of a b) (device_of a) (work_with b a region w ideal' k))) stands
          ∙ sym (world_more (setup_of a b) (site_of b a region) (ready b a before) (init_of w ∷ members (work_with b a region w ideal') 0 (take k set))
          (work_with b a region w ideal' k))
          ∙ ap (λ (ds : List Duty). world_after (setup_of a b) (site_of b a region) (ready b a before) (init_of w ∷ ds))
          (sym (members_more (work_with b a region w ideal') set k has));
      cells = tries.cells kept;
      long = long;
      still = still;
      may = λ j from member. may_later (setup_of a b) (site_of b a region) w (part (site_of b a region) ideal') k j ideal ideal' goes.list.good
          (omega (arith, from)) does (goes.may j (omega (arith, from)) member);
      idle = tries.idle kept;
    }

  module _ (tries : TriesMember s (setup_of a b) (site_of b a region) w set k ideal ideal' x x' operation operation' result) where
    -- the list breaks at a member if its call broke
    pub member_breaks : IsBroken result → BreaksAt b a region w set before ideal' (turn.Member k)
    member_breaks broken = ⊎_elim
        (λ (has : get_or set k false ≡ true). call_breaks has (tries.tries has) broken)
        (λ (isnt : get_or set k false ≡ false). absurd (subst (λ (r : Tried). IsBroken r) (tries.passes isnt).3 broken))
        (is_or_not (get_or set k false))

    -- the loop's state after a member whose call was kept, or which has no call
    pub goes_on : (s' : Setup) → s' ≡ s → IsKept result → Goes b a region w set before (k + 1) s' x' operation' ideal'
    goes_on s' setup kept = ⊎_elim
        (λ (has : get_or set k false ≡ true).
        goes_as b a region w set before (k + 1) s s' x' x' operation' operation' ideal' ideal' setup refl refl refl (goes_more has (tries.tries has) kept))
        (λ (isnt : get_or set k false ≡ false).
        let stays = tries.passes isnt in
        goes_as b a region w set before (k + 1) s s' x x' operation operation' ideal ideal' setup stays.1 stays.2 stays.0
        (goes_past b a region w set before k s x operation ideal isnt goes))
        (is_or_not (get_or set k false))

-- the list breaks at Init if Init isn't kept
pub init_breaks : (b : BoardShown) (a : AlgorithmShown) (region : ℕ) (w : Work) (set : List Bool) (before : List ℕ) (s : Setup) (x : World)
    → IsList b a region w set before
    → s ≡ setup_of a b → x ≡ ready b a before → (Keeps s (site_of b a region) x (init_of w) → ⊥) → BreaksAt b a region w set before before turn.Init
init_breaks b a region w set before s x list setup stands broken =
    breaks b a region w set before before turn.Init s x list refl list.bytes (λ is. refl) tt setup stands broken

-- the list breaks at UnInit if UnInit isn't kept
pub uninit_breaks : (b : BoardShown) (a : AlgorithmShown) (region : ℕ) (w : Work) (set : List Bool) (before : List ℕ) (k : ℕ) (s : Setup) (x : World)
    (operation : Option (ℕ × ℕ)) (ideal : List ℕ)
    → All (λ v. v < 2 ^ 8) ideal → length set ≤ k → Goes b a region w set before k s x operation ideal
    → (Keeps s (site_of b a region) x (uninit_of w) → ⊥) → BreaksAt b a region w set before ideal turn.UnInit
uninit_breaks b a region w set before k s x operation ideal bytes all goes broken =
    breaks b a region w set before ideal turn.UnInit s x goes.list goes.long bytes goes.still tt goes.setup
    (goes.world ∙ ap (λ (bs : List Bool). world_after (setup_of a b) (site_of b a region) (ready b a before)
    (init_of w ∷ members (work_on (setup_of a b) (device_of a) w (part (site_of b a region) ideal)) 0 bs)) (take_all k set all)) broken

-- Init or UnInit isn't kept if its trial shows a breach
pub end_breaks : (t : Subject) (s : Setup) (x : World) (r r' : Request) (ideal : List ℕ) (result : Tried) → Refutes s x r 0 0 ideal result → r' ≡ r
    → x.cells ≡ ideal
    → length ideal ≡ t.cells → IsBroken result → Keeps s (site_in t) x (Quiet r') → ⊥
end_breaks t s x r r' ideal result refutes same cells long broken =
    refutes broken (site_in t) (Quiet r') same (sym cells) (layout_good t)
    (subst (λ (c : List ℕ). (site_in t).start + (site_in t).layout.size ≤ length c) (sym cells) (among t ideal long)) tt

-- ---- the end of a list

tried_at : (t : Turn) (x : Tried) (P : Turn → Type 0) → (IsBroken x → P t) → IfBroken (ended_at t x) P
tried_at t tried.Kept P so = tt
tried_at t (tried.Broken breach) P so = so tt
tried_at t tried.Fault P so = tt

-- a property of the turn at which the list ended, if the trial there shows a breach
pub ended : (t : Turn) (x : Tried) (e : Ended) (P : Turn → Type 0) → e ≡ ended_at t x → (IsBroken x → P t) → IfBroken e P
ended t x e P is so = subst (λ (z : Ended). IfBroken z P) (sym is) (tried_at t x P so)

pub list_of : (t : Subject) (w : Work) (set : List Bool) (x : List ℕ) (k : ℕ) → get_or set k false ≡ true → length x ≡ t.cells → All (λ v. v < 2 ^ 8) x
    → length set ≡ count_of (site_in t).layout w → HasFunction (algorithm_in t).entries w
    → ((j : ℕ) → get_or set j false ≡ true → MayWork (setup_for t) (site_in t) x w j) → IsList (board_in t) (algorithm_in t) t.region w set x
list_of t w set x k has long bytes many function may = record {
  good = layout_good t;
  long = long ∙ t.many;
  bytes = bytes;
  among = among t x long;
  many = many;
  function = function;
  member = k;
  has = has;
  may = may;
}
