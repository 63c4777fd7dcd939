-- In every campaign each pair that is left is untouched, whole or finished, by induction on the list of calls.
use Rattle.std.proofs.Common.{◌≡◌, ◌⊎◌, ◌∙◌, ⊎_elim, inl, inr, ◌≤◌, ◌<◌, ℕ, List, [], ◌∷◌, Option, Some, None, sym, ap, subst, cond, Bool, arith}
use Rattle.std.proofs.lemmas.Bool.{cases_lt, lt-leb, le-leb}
use Rattle.bench_model.specs.History.{left}
use Rattle.bench_model.specs.State.{BenchState, file_half, cells_half, Left}
use Rattle.job_text.specs.Files.{IsFree, IsWhole}
use Rattle.bench_model.specs.Pairs.{PairsInTurn}
use Rattle.campaign.specs.Stops.{CampaignJob, IsUntouched, IsAtClose, HasNoClose, IsDone, IsEntered, last_at, IsFinished, IsSafePair, IsSafe}
use Rattle.campaign.specs.Campaign.{goal_of, LaterCall, Keeps, AllGoOn, Campaign, IsCampaign, AllSafe, IsSafeCampaign}

not_yet : (last : Option (List ℕ)) (closing : ℕ) (goal : List ℕ) (k : ℕ) → k < closing → last_at last closing goal k ≡ last
not_yet last closing goal k lt = ap (λ (b : Bool). cond b (Some goal) last) (lt-leb closing k lt)

reached : (last : Option (List ℕ)) (closing : ℕ) (goal : List ℕ) (k : ℕ) → closing ≤ k → last_at last closing goal k ≡ Some goal
reached last closing goal k le = ap (λ (b : Bool). cond b (Some goal) last) (le-leb closing k le)

at_close : (start : BenchState) (aim : CampaignJob) (goal f c : List ℕ) → IsAtClose aim.body goal f c → IsSafePair start aim (Some goal) f c
at_close start aim goal f c at = ⊎_elim
    (λ whole. inr (inl whole))
    (λ closed. inr (inr (record { closed = closed; done = ap (λ (l : List ℕ). Some l) (sym at.done) })))
    at.whole_or_closed

-- a call with safe pairs before its close leaves only safe pairs
pub in_turn : (start : BenchState) (aim : CampaignJob) (last : Option (List ℕ)) (old new : BenchState) (closing : ℕ) (goal : List ℕ)
    (First : List ℕ → List ℕ → Type 0)
    → ((f c : List ℕ) → First f c → IsSafePair start aim last f c) → PairsInTurn old new closing First (IsAtClose aim.body goal) →
    IsSafe start aim last old new closing goal
in_turn start aim last old new closing goal First good run k f c from to f_at c_at = ⊎_elim
    (λ (early : k < closing). subst (λ (l : Option (List ℕ)). IsSafePair start aim l f c) (sym (not_yet last closing goal k early))
    (good f c (run.before k f c from to early f_at c_at)))
    (λ (late : closing ≤ k). subst (λ (l : Option (List ℕ)). IsSafePair start aim l f c) (sym (reached last closing goal k late))
    (at_close start aim goal f c (run.from k f c late to f_at c_at)))
    (cases_lt k closing)

-- a status that is none of those without a close
pub other_status : (status n : ℕ) → status ≡ n → (n ≡ 1 → ⊥) → (n ≡ 9 → ⊥) → (n ≡ 11 → ⊥) → (n ≡ 12 → ⊥) → HasNoClose status → ⊥
other_status status n is a b c d none = ⊎_elim
    (λ (one : status ≡ 1). a (sym is ∙ one))
    (λ (more : (status ≡ 9) ⊎ ((status ≡ 11) ⊎ (status ≡ 12))). ⊎_elim
    (λ (nine : status ≡ 9). b (sym is ∙ nine))
    (λ (rest : (status ≡ 11) ⊎ (status ≡ 12)). ⊎_elim (λ (e : status ≡ 11). c (sym is ∙ e)) (λ (t : status ≡ 12). d (sym is ∙ t)) rest)
    more)
    none

-- the file as it is read is free or the job's
pub reads : (start : BenchState) (aim : CampaignJob) (last : Option (List ℕ)) (f c : List ℕ) → ((g : List ℕ) → left (file_half start) g → IsFree g) →
    IsSafePair start aim last f c → IsFree f ⊎ IsWhole aim.body f
reads start aim last f c free good = ⊎_elim
    (λ (u : IsUntouched start f c). inl (⊎_elim (λ (is : IsFree f). is) (λ (at : left (file_half start) f). free f at) u.free))
    (λ (rest : IsWhole aim.body f ⊎ IsFinished aim.body last f c). ⊎_elim (λ (w : IsWhole aim.body f). inr w)
    (λ (d : IsFinished aim.body last f c). inl d.closed.free) rest)
    good

-- one later call is safe
pub one : (start : BenchState) (aim : CampaignJob) (last : Option (List ℕ)) (call : LaterCall)
    → ((f c : List ℕ) → left (file_half call.old) f → left (cells_half call.old) c → IsSafePair start aim last f c)
    → Keeps aim call → IsFree call.old.file ⊎ IsWhole aim.body call.old.file
    → IsSafe start aim last call.old call.new call.closing (goal_of aim call.goal) × (call.status ≡ 0 → IsDone aim.body (goal_of aim call.goal) call.new)
one start aim last call good keeps class = ⊎_elim
    (λ (free : IsFree call.old.file). let idle = keeps.idle free in (
      (λ k f c from to f_at c_at.
          let l = idle.pairs k f c from to f_at c_at in
          let early : k < call.closing = omega (arith, idle.never) in
          subst (λ (o : Option (List ℕ)). IsSafePair start aim o f c) (sym (not_yet last call.closing (goal_of aim call.goal) k early)) (good f c l.0 l.1)),
      (λ zero. absurd (keeps.not_free zero free)),
    ))
    (λ (whole : IsWhole aim.body call.old.file). let go = keeps.stands whole in (
      in_turn start aim last call.old call.new call.closing (goal_of aim call.goal) (λ f c. Left call.old f c ⊎ IsWhole aim.body f)
          (λ f c first. ⊎_elim (λ (l : Left call.old f c). good f c l.0 l.1) (λ (w : IsWhole aim.body f). inr (inl w)) first)
          go.pairs,
      (λ zero. keeps.zero zero whole),
    ))
    class

-- what the next call is entered with is safe
pub enters : (start : BenchState) (aim : CampaignJob) (last : Option (List ℕ)) (old new : BenchState) (closing : ℕ) (goal : List ℕ) (end : ℕ)
    (next : BenchState)
    → old.moment ≤ end → end ≤ new.moment → IsSafe start aim last old new closing goal → IsEntered aim new end next
    → (f c : List ℕ) → left (file_half next) f → left (cells_half next) c → IsSafePair start aim (last_at last closing goal end) f c
enters start aim last old new closing goal end next later in_time safe goes f c f_at c_at = ⊎_elim
    (λ (same : (x : List ℕ) → left (cells_half next) x → new.cells_at end x). safe end f c later in_time (goes.files f f_at) (same c c_at))
    (λ (whole : (x : List ℕ) → left (file_half next) x → IsWhole aim.body x). inr (inl (whole f f_at)))
    goes.cells

all : (start : BenchState) (aim : CampaignJob) (last : Option (List ℕ)) (old new : BenchState) (closing : ℕ) (goal : List ℕ) (end : ℕ) (calls : List LaterCall)
    → ((g : List ℕ) → left (file_half start) g → IsFree g)
    → old.moment ≤ end → end ≤ new.moment → IsSafe start aim last old new closing goal → AllGoOn aim new end calls
    → AllSafe start aim (last_at last closing goal end) calls
all start aim last old new closing goal end [] free later in_time safe go = tt
all start aim last old new closing goal end (call ∷ rest) free later in_time safe go =
    let now = last_at last closing goal end in
    let good = enters start aim last old new closing goal end call.old later in_time safe go.0 in
    let told = go.0.told in
    let step = one start aim now call good go.1 (reads start aim now call.old.file call.old.cells free
    (good call.old.file call.old.cells told.as_read told.as_told)) in
    (step.0, step.1, all start aim now call.old call.new call.closing (goal_of aim call.goal) call.end rest free go.1.later go.1.in_time step.0 go.2)

pub campaigns_are_safe : (c : Campaign) → IsCampaign c → IsSafeCampaign c
campaigns_are_safe c is =
    let first = in_turn c.start c.aim None c.start c.new c.closing c.aim.laid (λ f x. IsUntouched c.start f x ⊎ IsWhole c.aim.body f)
    (λ f x either. ⊎_elim (λ (u : IsUntouched c.start f x). inl u) (λ (w : IsWhole c.aim.body f). inr (inl w)) either) is.first.pairs in
    (first, all c.start c.aim None c.start c.new c.closing c.aim.laid c.end c.calls is.free is.later is.in_time first is.calls)
