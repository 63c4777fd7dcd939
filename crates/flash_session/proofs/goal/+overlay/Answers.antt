-- `+overlay`: that it keeps its contract, and what `overlay` requires.
use Rattle.std.proofs.Common.{◌≡◌, ◌<◌, ◌≤◌, ◌∙◌, ◌-◌, ◌+◌, ◌∷◌, ℕ, List, length, take, drop, sym, ap, arith}
use Rattle.std.proofs.lemmas.Grind.{common_steps}
use Rattle.std.proofs.lemmas.List.{length-drop}
use Rattle.board_file.specs.declared.region.Region.{Region}
use Rattle.board_file.specs.Limits.{size_of}
use Rattle.byte_map.specs.Image.{over}
use Rattle.job_text.specs.Laid.{overlaid}
use Rattle.flash_session.proofs.GoalLemmas.{fit_rest, lay_past, old_past, old_behind, lay_here}
use Rattle.flash_session.proofs.JobLemmas.{size_of-cons}
use Rattle.flash_session.proofs.goal.+overlay.Goals as goal

pub returns-then-at-region : goal.returns-then-at-region
returns-then-at-region t c = λ snapshot long held.
    let r = c.in-Some.region.now in
    let rest = c.in-Some.rest.now in
    let n = length c.args.cells.now in
    let is : c.args.regions.now ≡ r ∷ rest = c.in-Some.ensures.cases.0 in
    let total : length snapshot ≡ r.size + size_of rest = long ∙ ap size_of is ∙ size_of-cons r rest in
    let past : r.size ≤ c.args.at = omega arith in
    c.overlay.ensures (drop r.size snapshot) (omega (arith, total, length-drop r.size snapshot)) (held ∙ old_past r.size c.args.at n snapshot past)
    ∙ lay_past c.args.image.now r rest snapshot c.args.at n past (omega (arith, total))
    ∙ ap (λ (rs : List Region). take n (drop c.args.at (overlaid c.args.image.now rs snapshot))) (sym is)

pub returns : goal.returns
returns t c = λ snapshot long held.
    let r = c.in-Some.region.now in
    let rest = c.in-Some.rest.now in
    let n = length c.args.cells.now in
    let here = c.min-here.result in
    let at = c.args.at in
    let is : c.args.regions.now ≡ r ∷ rest = c.in-Some.ensures.cases.0 in
    let total : length snapshot ≡ r.size + size_of rest = long ∙ ap size_of is ∙ size_of-cons r rest in
    let inside : at < r.size = omega arith in
    let front = c.split_at_mut-front.ensures.front in
    let back = c.split_at_mut-front.ensures.back in
    let back_len : length c.split_at_mut-front.result.1.now ≡ n - here = omega (arith, c.split_at_mut-front.ensures.back_len) in
    let behind : c.split_at_mut-front.result.1.now ≡ take (n - here) (drop 0 (drop r.size snapshot)) = back ∙ ap (drop here) held
    ∙ old_behind r.size at here n snapshot inside c.min-here.ensures in
    lay_here c.args.image.now r rest snapshot c.args.cells.now c.overlay_into.new.old c.overlay-2.new.cells at here n inside
    (omega (arith, total)) c.min-here.ensures held
    (c.overlay_into.ensures ∙ ap (λ (l : List ℕ). over c.args.image.now (r.base + at) l) front)
    (c.overlay-2.ensures (drop r.size snapshot) (omega (arith, total, length-drop r.size snapshot))
    (behind ∙ ap (λ (k : ℕ). take k (drop 0 (drop r.size snapshot))) (sym back_len))
    ∙ ap (λ (k : ℕ). take k (drop 0 (overlaid c.args.image.now rest (drop r.size snapshot)))) back_len)
    ∙ ap (λ (rs : List Region). take n (drop at (overlaid c.args.image.now rs snapshot))) (sym is)

pub overlay-requires : goal.overlay-requires
overlay-requires t c =
    let r = c.in-Some.region.now in
    let rest = c.in-Some.rest.now in
    let is : c.args.regions.now ≡ r ∷ rest = c.in-Some.ensures.cases.0 in
    let sizes : size_of c.args.regions.now ≡ r.size + size_of rest = ap size_of is ∙ size_of-cons r rest in
    (omega (arith, c.in-Some.ensures.cases.1), (omega (arith, c.requires.range, sizes), fit_rest c.args.regions.now r rest is c.requires.fit))

pub overlay-requires-2 : goal.overlay-requires-2
overlay-requires-2 t c =
    let r = c.in-Some.region.now in
    let rest = c.in-Some.rest.now in
    let is : c.args.regions.now ≡ r ∷ rest = c.in-Some.ensures.cases.0 in
    let sizes : size_of c.args.regions.now ≡ r.size + size_of rest = ap size_of is ∙ size_of-cons r rest in (
      omega (arith, c.in-Some.ensures.cases.1),
      (
        omega (arith, c.requires.range, sizes, c.min-here.ensures, c.split_at_mut-front.ensures.back_len),
        fit_rest c.args.regions.now r rest is c.requires.fit,
      ),
    )

pub overlay_into-requires : goal.overlay_into-requires
overlay_into-requires t c = grind (arith, common_steps)

pub overflow_add-region : goal.overflow_add-region
overflow_add-region t c = grind (arith, common_steps)

pub returns-in_default : goal.returns-in_default
returns-in_default t c = grind (arith, common_steps)
