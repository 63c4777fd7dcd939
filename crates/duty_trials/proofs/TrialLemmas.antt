-- An algorithm doesn't keep its duties if a call of a list isn't kept.
use Rattle.std.proofs.Common.{◌≡◌, ◌≤◌, ◌+◌, ℕ, false, List, [], ◌∷◌, ◌++◌, length, refl, sym, ◌∙◌, ap, subst}
use Rattle.bench_model.specs.State.{BenchState}
use Rattle.board_file.specs.Shown.{Shown as BoardShown}
use Rattle.flm_descriptor.specs.Shown.{Shown as AlgorithmShown}
use Rattle.page_geometry.specs.Geometry.{IsGeometry}
use Rattle.target_core.specs.World.{World}
use Rattle.target_core.specs.Runs.{IsLeftOn}
use Rattle.algo_calls.specs.declared.call.CallEnd.{CallEnd}
use Rattle.algo_calls.specs.Ends.{is_device_call}
use Rattle.algo_calls.specs.Setups.{Setup, setup_of}
use Rattle.algo_calls.specs.Frames.{Request, after, path_of}
use Rattle.algo_calls.specs.Calls.{CallGives}
use Rattle.algo_calls.specs.Duties.{Site, Duty, Phase, Does, Keeps, KeepAll, place_of, request_of, site_of, ready, Serves}
use Rattle.algo_calls.proofs.IdealLemmas.{does_same}
use Rattle.algo_calls.proofs.KeptLemmas.{kept_local}
use Rattle.algo_calls.proofs.LawLemmas.{ends_so}
use Rattle.duty_trials.specs.Trials.{world_after, BreaksIn, SeenOutside}

pub kept_at : (s : Setup) (site : Site) (w : World) (before : List Duty) (d : Duty) (behind : List Duty) → KeepAll s site w (before ++ d ∷ behind)
    → Keeps s site (world_after s site w before) d
unfolding KeepAll
kept_at s site w [] d behind all = all.0
kept_at s site w (x ∷ rest) d behind all = kept_at s site (after s w (request_of s site.layout x)) rest d behind all.1

pub refutes : (b : BoardShown) (a : AlgorithmShown) (region : ℕ) (cells : List ℕ) (phase : Phase) (before : List Duty) (d : Duty)
    → BreaksIn b a region cells phase before d → Serves b a region → ⊥
refutes b a region cells phase before d x serves =
    x.breaks (kept_at (setup_of a b) (site_of b a region) (ready b a cells) before d x.behind
    (subst (λ (l : List Duty). KeepAll (setup_of a b) (site_of b a region) (ready b a cells) l) x.list
    (serves.keeps cells phase x.asked.long x.asked.bytes x.asked.may x.asked.some x.asked.ready)))

-- a call that leaves other contents than the ideal device isn't kept
pub cell_differs : (s : Setup) (site : Site) (w : World) (d : Duty) (r : Request) (start : BenchState) (e : CallEnd) (w' : World) (end : BenchState)
    (wanted : List ℕ)
    → request_of s site.layout d ≡ r → CallGives s w r start e w' end → is_device_call e ≡ false → Does s site w.cells d wanted
    → (w'.cells ≡ wanted → ⊥) → Keeps s site w d → ⊥
cell_differs s site w d r start e w' end wanted is gives fine does differ keeps =
    differ (ap (λ (x : World). x.cells) ((ends_so s w r start e w' end fine gives.ends).1 ∙ sym (ap (λ (q : Request). after s w q) is))
    ∙ does_same s site d w.cells (after s w (request_of s site.layout d)).cells wanted keeps.leaves does)

-- A call isn't kept if at some moment a loss of power might have changed a cell outside its place: an operation was open there.
pub outside : (s : Setup) (site : Site) (w : World) (d : Duty) (r : Request) (start : BenchState) (e : CallEnd) (w' : World) (end : BenchState)
    → request_of s site.layout d ≡ r → CallGives s w r start e w' end → is_device_call e ≡ false → IsGeometry site.layout
    → site.start + site.layout.size ≤ length w.cells
    → SeenOutside (place_of site d) w.cells start end → Keeps s site w d → ⊥
outside s site w d r start e w' end is gives fine good within seen keeps =
    let left : IsLeftOn (path_of s w r) seen.left = gives.moments.each seen.moment seen.left seen.since seen.past seen.may in
    let on : IsLeftOn (path_of s w (request_of s site.layout d)) seen.left = subst (λ (q : Request). IsLeftOn (path_of s w q) seen.left) (sym is) left in
    seen.differs (kept_local s site w d good within keeps seen.left on)

-- the target after the calls of a list and one call more
pub world_more : (s : Setup) (site : Site) (w : World) (before : List Duty) (d : Duty)
    → world_after s site w (before ++ d ∷ []) ≡ after s (world_after s site w before) (request_of s site.layout d)
world_more s site w [] d = refl
world_more s site w (x ∷ rest) d = world_more s site (after s w (request_of s site.layout x)) rest d
