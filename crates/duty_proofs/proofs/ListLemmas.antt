-- An algorithm keeps its duties in every list if each of its calls leads on.
use Rattle.std.proofs.Common.{◌≡◌, ◌<◌, ◌+◌, ◌^◌, ℕ, Bool, true, false, List, [], ◌∷◌, ◌++◌, map, length, All, IsSome, refl, sym, subst, inl, inr}
use Rattle.std.proofs.Common.{◌∙◌, arith}
use Rattle.flm_descriptor.specs.Shown.{Shown as AlgorithmShown}
use Rattle.board_file.specs.Shown.{Shown as BoardShown}
use Rattle.page_geometry.specs.Ideal.{EraseSector, EraseChip, ProgramPage, bytes_in, erasures, writes}
use Rattle.target_core.specs.World.{World}
use Rattle.algo_calls.specs.declared.call.Call.TheVariants as call
use Rattle.algo_calls.specs.Setups.{Setup, setup_of}
use Rattle.algo_calls.specs.Frames.{asked, after}
use Rattle.algo_calls.specs.Duties.{Acting, AreReady, Duty, Erases, ErasesChip, KeepAll, Keeps, MayAsk, Phase, Programs, Quiet, Serves, Site, Verifies}
use Rattle.algo_calls.specs.Duties.{checks, device_of, duties_of, part, ready, request_of, site_of, works_of}
use Rattle.algo_calls.proofs.IdealLemmas.{does_length}
use Rattle.duty_proofs.specs.Kept.{ArePageBytes, EachLeads, IsKind, Leads, Sized, check_of, page_of}

module _ (b : BoardShown) (a : AlgorithmShown) (region : ℕ) (Between : ℕ → World → Type 0) (each : EachLeads b a region Between) where
  abbrev s : Setup
  s = setup_of a b

  abbrev site : Site
  site = site_of b a region

  abbrev next : World → Duty → World
  next w d = after s w (request_of s site.layout d)

  -- a list of calls and the UnInit after it are kept
  abbrev KeepOn : ℕ → World → List Duty → Type 0
  KeepOn kind w works = KeepAll s site w (works ++ Quiet (asked (call.UnInit kind) []) ∷ [])

  still_sized : (w : World) (d : Duty) → Sized b w → Keeps s site w d → Sized b (next w d)
  still_sized w d sized keeps = does_length s site d w.cells (next w d).cells keeps.leaves ∙ sized

  ends_on : (kind : ℕ) (w : World) → IsKind a kind → Sized b w → Between kind w → KeepOn kind w []
  unfolding KeepAll
  ends_on kind w asked' sized between = (each.ends kind w asked' sized between, tt)

  one : IsKind a 1
  one = inl refl

  two : IsKind a 2
  two = inr (inl refl)

  three : IsSome a.entries.verify → IsKind a 3
  three has = inr (inr (refl, has))

  goes_on : (kind : ℕ) (w : World) (d : Duty) (rest : List Duty) → Leads s site w d (Between kind) → KeepOn kind (next w d) rest → KeepOn kind w (d ∷ rest)
  unfolding KeepAll
  goes_on kind w d rest leads keep = (leads.keeps, keep)

  sectors_keep : (set : List Bool) (k : ℕ) (w : World) → k + length set ≡ length (device_of a).sectors → Sized b w → Between 1 w →
      KeepOn 1 w (map Acting (erasures k set))
  unfolding erasures
  sectors_keep [] k w all sized between = ends_on 1 w one sized between
  sectors_keep (false ∷ set) k w all sized between = sectors_keep set (k + 1) w (omega (arith, all)) sized between
  sectors_keep (true ∷ set) k w all sized between =
      let leads : Leads s site w (Acting (EraseSector k)) (Between 1) = each.sector k w (omega (arith, all)) sized between in
      goes_on 1 w (Acting (EraseSector k)) _ leads
      (sectors_keep set (k + 1) (next w (Acting (EraseSector k))) (omega (arith, all)) (still_sized w _ sized leads.keeps) leads.then')

  chip_keeps : (w : World) → IsSome a.entries.erase_chip → Sized b w → Between 1 w → KeepOn 1 w (Acting EraseChip ∷ [])
  chip_keeps w has sized between =
      let leads : Leads s site w (Acting EraseChip) (Between 1) = each.chip w has sized between in
      goes_on 1 w (Acting EraseChip) [] leads (ends_on 1 _ one (still_sized w _ sized leads.keeps) leads.then')

  pages_keep : (set : List Bool) (bytes : List ℕ) → ((k : ℕ) → k < length (device_of a).pages → ArePageBytes a k (bytes_in (page_of a k) bytes)) →
      (k : ℕ) (w : World)
      → k + length set ≡ length (device_of a).pages → AreReady s site w.cells (map Acting (writes (device_of a) bytes k set)) → Sized b w → Between 2 w
      → KeepOn 2 w (map Acting (writes (device_of a) bytes k set))
  unfolding writes AreReady
  pages_keep [] bytes fit k w all turn sized between = ends_on 2 w two sized between
  pages_keep (false ∷ set) bytes fit k w all turn sized between = pages_keep set bytes fit (k + 1) w (omega (arith, all)) turn sized between
  pages_keep (true ∷ set) bytes fit k w all turn sized between =
      let below : k < length (device_of a).pages = omega (arith, all) in
      let d : Duty = Acting (ProgramPage k (bytes_in (page_of a k) bytes)) in
      let leads : Leads s site w d (Between 2) = each.page k (bytes_in (page_of a k) bytes) w below (fit k below) sized turn.0 between in
      goes_on 2 w d _ leads
      (pages_keep set bytes fit (k + 1) (next w d) (omega (arith, all)) (turn.1 _ leads.keeps.leaves) (still_sized w d sized leads.keeps) leads.then')

  checks_keep : (set : List Bool) (cells : List ℕ) → IsSome a.entries.verify → All (λ v. v < 2 ^ 8) cells → (k : ℕ) (w : World) → w.cells ≡ cells
      → k + length set ≡ length (device_of a).pages → Sized b w → Between 3 w → KeepOn 3 w (checks s (device_of a) (part site cells) k set)
  unfolding checks
  checks_keep [] cells has small k w same all sized between = ends_on 3 w (three has) sized between
  checks_keep (false ∷ set) cells has small k w same all sized between = checks_keep set cells has small (k + 1) w same (omega (arith, all)) sized between
  checks_keep (true ∷ set) cells has small k w same all sized between =
      let d : Duty = check_of b a region k cells in
      let leads : Leads s site w d (Between 3) =
      subst (λ (c : List ℕ). Leads s site w (check_of b a region k c) (Between 3)) same
      (each.check k w (omega (arith, all)) has sized (subst (λ (c : List ℕ). All (λ v. v < 2 ^ 8) c) (sym same) small) between) in
      goes_on 3 w d _ leads
      (checks_keep set cells has small (k + 1) (next w d) (leads.keeps.leaves ∙ same) (omega (arith, all)) (still_sized w d sized leads.keeps) leads.then')

  begins : (kind : ℕ) (cells : List ℕ) (works : List Duty) → IsKind a kind → Sized b (ready b a cells)
      → ((w : World) → w.cells ≡ cells → Sized b w → Between kind w → KeepOn kind w works)
      → KeepAll s site (ready b a cells) (Quiet (asked (call.Init kind) []) ∷ (works ++ Quiet (asked (call.UnInit kind) []) ∷ []))
  unfolding KeepAll
  begins kind cells works asked' sized keep =
      let leads : Leads s site (ready b a cells) (Quiet (asked (call.Init kind) [])) (Between kind) = each.begins kind cells asked' sized in
      (leads.keeps, keep _ leads.keeps.leaves (still_sized (ready b a cells) (Quiet (asked (call.Init kind) [])) sized leads.keeps) leads.then')

  phase_keeps : (cells : List ℕ) (phase : Phase) → Sized b (ready b a cells) → All (λ v. v < 2 ^ 8) cells → MayAsk s (device_of a) phase
      → ((bytes : List ℕ) → length bytes ≡ (device_of a).size → All (λ v. v < 2 ^ 8) bytes → (k : ℕ) → k < length (device_of a).pages
      → ArePageBytes a k (bytes_in (page_of a k) bytes))
      → AreReady s site cells (works_of s (device_of a) (part site cells) phase)
      → KeepAll s site (ready b a cells) (duties_of s (device_of a) (part site cells) phase)
  unfolding works_of
  phase_keeps cells (Erases set) sized small may fit turn =
      begins 1 cells (map Acting (erasures 0 set)) one sized (λ w same sized' between. sectors_keep set 0 w (omega (arith, may)) sized' between)
  phase_keeps cells ErasesChip sized small may fit turn =
      begins 1 cells (Acting EraseChip ∷ []) one sized (λ w same sized' between. chip_keeps w may sized' between)
  phase_keeps cells (Programs set bytes) sized small may fit turn = begins 2 cells (map Acting (writes (device_of a) bytes 0 set)) two sized
      (λ w same sized' between. pages_keep set bytes (fit bytes may.1 may.2) 0 w (omega (arith, may.0))
      (subst (λ (c : List ℕ). AreReady s site c (map Acting (writes (device_of a) bytes 0 set))) (sym same) turn) sized' between)
  phase_keeps cells (Verifies set) sized small may fit turn = begins 3 cells (checks s (device_of a) (part site cells) 0 set) (three may.1) sized
      (λ w same sized' between. checks_keep set cells may.1 small 0 w same (omega (arith, may.0)) sized' between)

  pub serves : ((bytes : List ℕ) → length bytes ≡ (device_of a).size → All (λ v. v < 2 ^ 8) bytes → (k : ℕ) → k < length (device_of a).pages
      → ArePageBytes a k (bytes_in (page_of a k) bytes)) → Serves b a region
  serves fit = record { keeps = λ cells phase sized small may some turn. phase_keeps cells phase sized small may fit turn }
