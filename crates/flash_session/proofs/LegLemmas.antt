-- If each algorithm keeps its duties, the script leads region by region to the goal of all cells, and leaves what lies outside the plans.
use Rattle.std.proofs.Common.{◌≡◌, ◌≤◌, ◌+◌, ◌-◌, ◌∙◌, ⊎_elim, ℕ, false, is_some, List, [], ◌∷◌, ◌++◌, length, take, drop, None, refl, sym, ap, subst}
use Rattle.std.proofs.Common.{length-append, length-take, length-drop, arith}
use Rattle.std.proofs.lemmas.List.{drop-drop, drop_all, take_all, take_at, append-nil}
use Rattle.bench_model.specs.History.{Leaves}
use Rattle.bench_model.specs.State.{BenchState, cells_half}
use Rattle.bench_model.proofs.Moments.{leaves_as}
use Rattle.board_file.specs.Shown.{Shown as BoardShown}
use Rattle.flm_descriptor.specs.Shown.{Shown as AlgorithmShown}
use Rattle.flash_layout.specs.Maps.{board_map}
use Rattle.page_geometry.specs.Geometry.{Geometry}
use Rattle.erase_planner.specs.Plans.{Chosen, IsLeastPlan}
use Rattle.target_core.specs.Units.{state_op}
use Rattle.algo_calls.specs.Setups.{Setup, setup_of}
use Rattle.algo_calls.specs.Duties.{Site, part, device_of, site_of}
use Rattle.algo_calls.proofs.KeptLemmas.{board_in}
use Rattle.flash_session.specs.declared.session.SessionEnd.{SessionEnd}
use Rattle.flash_session.specs.declared.session.SessionEnd.TheVariants as end
use Rattle.flash_session.specs.Moves.{Move, Reset, Stand, run, IsWithin, IsLeftOnWay}
use Rattle.flash_session.specs.Script.{Planned, region_work, Leg, leg, Torn, Broken, torn_first, torn_rest, phases, legs_of, script}
use Rattle.flash_session.specs.Outcome.{GoTo, Follows, end_fault, IsReached}
use Rattle.bench_model.specs.Counted.{is_store_fault, is_device_fault}
use Rattle.flash_session.specs.Local.{SameBut}
use Rattle.flash_session.specs.Sessions.{leg_for, legs_for}
use Rattle.flash_session.proofs.OutcomeLemmas.{differs_somewhere, one_cells, not_both}
use Rattle.flash_session.proofs.LocalLemmas.{but_none}
use Rattle.flash_session.proofs.Leading.{IsAmong, put, put_outside, put_long, put_bytes, AreBytes}
use Rattle.flash_session.proofs.PartLemmas.{two_parts}
use Rattle.flash_session.proofs.RestLemmas.{legs_none, legs_more}
use Rattle.flash_session.proofs.Passing.{Passes, passes_none, passes_then, passes_reset, idle_local}
use Rattle.flash_session.proofs.Serving.{Covers, IsRegionServed, phases_pass}

script_is : (l : Leg) (rest : List Leg) (b : Broken) → script (l ∷ rest) b ≡ legs_of (l ∷ rest) b.legs ++ (Reset l.setup b.last ∷ [])
unfolding script
script_is l rest b = refl

planned_is : (x : Setup) (p : Planned) (l : Geometry) (base : ℕ) (goal : List ℕ) → p.layout ≡ l → p.base ≡ base
    → leg x (region_work l base p.plan goal) ≡ leg x (record { planned = p; goal = goal })
planned_is x p l base goal one two =
    ap (λ (k : Geometry). leg x (region_work k base p.plan goal)) (sym one) ∙ ap (λ (c : ℕ). leg x (region_work p.layout c p.plan goal)) (sym two)

module _ (b : BoardShown) (goal : List ℕ) where
  -- a region is served on the cells that the regions before it leave, and led to its part of the goal
  pub record IsLegServed (region : ℕ) (a : AlgorithmShown) (p : Planned) (cells : List ℕ) : Type 0 where
    pub served : IsRegionServed b region a b.weights p.plan (part (site_of b a region) goal) cells
    pub layout : p.layout ≡ device_of a
    pub base : p.base ≡ a.device.base

  -- the cells once the regions from this number on hold their parts of the goal
  abbrev pub reached_by : ℕ → List AlgorithmShown → List Planned → List ℕ → List ℕ
  reached_by region (a ∷ rest) (p ∷ more) cells = reached_by (region + 1) rest more (put (site_of b a region) (part (site_of b a region) goal) cells)
  reached_by region algorithms plans cells = cells

  abbrev pub AreServed : ℕ → List AlgorithmShown → List Planned → List ℕ → Type 0
  AreServed region (a ∷ rest) (p ∷ more) cells = IsLegServed region a p cells
      × AreServed (region + 1) rest more (put (site_of b a region) (part (site_of b a region) goal) cells)
  AreServed region algorithms plans cells = Unit {0}

  abbrev pub AllCovered : (ℕ → Type 0) → ℕ → List AlgorithmShown → List Planned → Type 0
  AllCovered P region (a ∷ rest) (p ∷ more) = Covers P (site_of b a region) p.plan × AllCovered P (region + 1) rest more
  AllCovered P region algorithms plans = Unit {0}

  module _ (P : ℕ → Type 0) (old : List ℕ) where
    pub legs_pass : (region : ℕ) (algorithms : List AlgorithmShown) (plans : List Planned) (torn : List Torn) (cells : List ℕ) (x : Stand)
        → AreServed region algorithms plans cells → AllCovered P region algorithms plans → x.world.cells ≡ cells
        → board_in x.world ≡ (b.ram_base, board_map b) → state_op x.world.state ≡ None → SameBut P old cells
        → Passes P x (legs_of (legs_for b region algorithms goal plans) torn) (reached_by region algorithms plans cells) old
    legs_pass region [] plans torn cells x served covered same board idle start = passes_none P old x (legs_of [] torn) cells (legs_none torn) idle same start
    legs_pass region (a ∷ rest) [] torn cells x served covered same board idle start =
        passes_none P old x (legs_of [] torn) cells (legs_none torn) idle same start
    legs_pass region (a ∷ rest) (p ∷ more) torn cells x served covered same board idle start =
        let site = site_of b a region in
        let mine = part site goal in
        let l = leg_for b region a goal p in
        let later = legs_for b (region + 1) rest goal more in
        let mid : List ℕ = put site mine cells in
        let one : Passes P x (phases l.setup l.region_work (torn_first torn)) mid old =
        subst (λ (k : Leg). Passes P x (phases k.setup k.region_work (torn_first torn)) mid old)
        (planned_is (setup_of a b) p (device_of a) a.device.base mine served.0.layout served.0.base)
        (phases_pass P old b region a b.weights p.plan mine cells served.0.served covered.0 x (torn_first torn) same board idle start) in
        let all : Passes P x (phases l.setup l.region_work (torn_first torn) ++ legs_of later (torn_rest torn)) (reached_by (region + 1) rest more mid) old =
        passes_then P old x (phases l.setup l.region_work (torn_first torn)) (legs_of later (torn_rest torn)) mid (reached_by (region + 1) rest more mid) one
        (λ y y_idle y_is y_board. legs_pass (region + 1) rest more (torn_rest torn) mid y served.1 covered.1 y_is (y_board ∙ board) y_idle one.same) in
        subst (λ (m : List Move). Passes P x m (reached_by (region + 1) rest more mid) old) (sym (legs_more l later torn)) all

    -- the script leads to the cells that the regions reach in turn, and a stop at any moment leaves everything outside their plans
    module _ (a : AlgorithmShown) (rest : List AlgorithmShown) (p : Planned) (more : List Planned) (x : Stand) (served : AreServed 0 (a ∷ rest) (p ∷ more) old)
        (covered : AllCovered P 0 (a ∷ rest) (p ∷ more)) (same : x.world.cells ≡ old)
        (board : board_in x.world ≡ (b.ram_base, board_map b)) (idle : state_op x.world.state ≡ None) where
      abbrev legs : List Leg
      legs = legs_for b 0 (a ∷ rest) goal (p ∷ more)

      abbrev left : List ℕ
      left = reached_by 0 (a ∷ rest) (p ∷ more) old

      pub script_passes : (torn : Broken) → Passes P x (script legs torn) left old
      script_passes torn =
          let l = leg_for b 0 a goal p in
          let one : Passes P x (legs_of legs torn.legs) left old = legs_pass 0 (a ∷ rest) (p ∷ more) torn.legs old x served covered same board idle
          (but_none P old old refl) in
          let all : Passes P x (legs_of legs torn.legs ++ (Reset l.setup torn.last ∷ [])) left old =
          passes_then P old x (legs_of legs torn.legs) (Reset l.setup torn.last ∷ []) left left one (λ y y_idle y_is y_board.
          subst (λ (c : List ℕ). Passes P y (Reset l.setup torn.last ∷ []) c old) y_is
          (passes_reset P old l.setup y torn.last y_idle (subst (λ (c : List ℕ). SameBut P old c) (sym y_is) one.same))) in
          subst (λ (m : List Move). Passes P x m left old) (sym (script_is l (legs_for b 1 rest goal more) torn)) all

      module _ (start now : BenchState) where
        -- if the regions together reach the goal, the session ends as reached, unless a fault comes
        pub follows_reaches : left ≡ goal → (e : SessionEnd) → Follows legs goal x e start now → is_device_fault (end_fault e) ≡ false
            → is_store_fault (end_fault e) ≡ false → IsReached e
        follows_reaches reaches (end.Reached r) follows other stored = tt
        follows_reaches reaches (end.Mismatch d) follows other stored =
            let moves = script legs follows.broken in
            let one = script_passes follows.broken in
            let goes : GoTo x moves goal = record { last = one.last; ran = one.ran; leaves = one.reached ∙ reaches } in
            let at_goal : now.cells ≡ goal = one_cells x moves now.cells goal follows.ends.0 goes in
            absurd (differs_somewhere goal now.cells d at_goal follows.ends.1)
        follows_reaches reaches (end.CallFailed number call f) follows other stored =
            let one = script_passes follows.broken in
            absurd (not_both (run x (script legs follows.broken)) _ _ one.ran follows.ends.ran)
        follows_reaches reaches x follows other stored = cc

        -- whatever the end is, a stop at any moment leaves the cells outside the plans as they were
        pub follows_local : (e : SessionEnd) → Follows legs goal x e start now → Leaves (cells_half start) (cells_half now) (SameBut P old)
        follows_local e follows =
            let moves = script legs follows.broken in
            leaves_as (IsLeftOnWay x moves) (SameBut P old)
            (λ c was. ⊎_elim
            (λ (first : was.at ≡ x.world). idle_local P old x.world was.at c idle (but_none P old x.world.cells same) first was.left)
            (λ (within : IsWithin x moves was.at). (script_passes follows.broken).local was.at within c was.left)
            was.on)
            follows.moments

-- ---- a region after another one

-- the cells of a later region stay if those of an earlier one change
part_behind : (first second : Site) (x cells : List ℕ) → IsAmong first cells → length x ≡ first.layout.size → first.start + first.layout.size ≤ second.start
    → part second (put first x cells) ≡ part second cells
part_behind first second x cells among long behind =
    let n = first.start + first.layout.size in
    let m = second.start - n in
    let e : n + m ≡ second.start = omega (arith, behind) in
    let same = (put_outside first x cells among long).2 in
    let cut : (c : List ℕ) → drop second.start c ≡ drop m (drop n c) = λ c. ap (λ (k : ℕ). drop k c) (sym e) ∙ sym (drop-drop m n c) in
    ap (take second.layout.size) (cut (put first x cells) ∙ ap (drop m) same ∙ sym (cut cells))

-- an earlier region's new cells don't change how a later region is served
pub later_served : (b : BoardShown) (region : ℕ) (a : AlgorithmShown) (plan : Chosen) (goal cells : List ℕ) (first : Site) (x : List ℕ) → IsAmong first cells
    → length x ≡ first.layout.size → AreBytes x
    → first.start + first.layout.size ≤ (site_of b a region).start → IsRegionServed b region a b.weights plan goal cells
    → IsRegionServed b region a b.weights plan goal (put first x cells)
later_served b region a plan goal cells first x among long bytes behind is =
    let same = put_long first x cells among long in
    record {
      serves = is.serves;
      lawful = is.lawful;
      count = same ∙ is.count;
      among = omega (arith, is.among, same);
      goal_size = is.goal_size;
      empty = is.empty;
      bytes = put_bytes first x cells among long is.bytes bytes;
      goal_bytes = is.goal_bytes;
      least = subst (λ (c : List ℕ). IsLeastPlan (device_of a) b.weights (is_some a.entries.erase_chip) a.device.empty c goal plan)
          (sym (part_behind first (site_of b a region) x cells among long behind)) is.least;
    }

-- ---- all regions together reach the goal

put_first : (n : ℕ) (x cells : List ℕ) → take 0 cells ++ (x ++ drop (0 + n) cells) ≡ x ++ drop n cells
put_first n x cells = let z : 0 + n ≡ n = omega arith in ap (λ (k : ℕ). x ++ drop k cells) z

-- when a board's one region holds the goal, the cells are the goal
pub one_reached : (n : ℕ) (goal cells : List ℕ) → length goal ≡ n → length cells ≡ n → take 0 cells ++ (take n (drop 0 goal) ++ drop (0 + n) cells) ≡ goal
one_reached n goal cells long held =
    put_first n (take n goal) cells ∙ ap (λ (l : List ℕ). take n goal ++ l) (drop_all n cells (omega (arith, held))) ∙ append-nil (take n goal)
    ∙ take_all n goal (omega (arith, long))

-- when both of two regions hold their parts of the goal, the cells are the goal
pub both_reached : (n m at : ℕ) (goal cells mid : List ℕ) → at ≡ n → length goal ≡ n + m → length cells ≡ n + m → mid ≡ take n goal ++ drop n cells
    → take at mid ++ (take m (drop at goal) ++ drop (at + m) mid) ≡ goal
both_reached n m at goal cells mid is long held mid_is =
    let front : List ℕ = take n goal in
    let front_long : length front ≡ n = omega (arith, length-take n goal, long) in
    let mid_long : length mid ≡ n + m = ap (λ (l : List ℕ). length l) mid_is ∙ length-append front (drop n cells)
    ∙ (let d = length-drop n cells in omega (arith, front_long, held, d)) in
    ap (λ (k : ℕ). take k mid ++ (take m (drop k goal) ++ drop (k + m) mid)) is
    ∙ ap (λ (l : List ℕ). l ++ (take m (drop n goal) ++ drop (n + m) mid)) (ap (take n) mid_is ∙ take_at front (drop n cells) n front_long)
    ∙ ap (λ (l : List ℕ). front ++ (take m (drop n goal) ++ l)) (drop_all (n + m) mid (omega (arith, mid_long)))
    ∙ ap (λ (l : List ℕ). front ++ l) (append-nil (take m (drop n goal))) ∙ sym (two_parts n m goal long)
