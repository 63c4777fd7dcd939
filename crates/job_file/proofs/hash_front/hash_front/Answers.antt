-- `hash_front`: its contract, `Holds256`, and what `hash_runs` requires.
use Rattle.std.proofs.Common.{◌≡◌, ◌-◌, ◌++◌, ◌∙◌, [], ℕ, List, length, take, drop, ap, subst, arith}
use Rattle.std.specs.List.{concat, flat_map}
use Rattle.std.proofs.lemmas.List.{take_all, length-drop}
use Rattle.sha2.specs.Hashers.{Holds256}
use Rattle.job_text.specs.Body.{run_text}
use Rattle.job_text.specs.Parts.{flms_of}
use Rattle.job_text.proofs.PartLemmas.{short_parts}
use Rattle.job_file.proofs.hash_front.hash_front.Goals as goal

pub hash_runs-requires : goal.hash_runs-requires
hash_runs-requires c = short_parts c.args.parts.now c.requires.parts

pub returns : goal.returns
returns c =
    let p = c.args.parts.now in
    let head = c.args.head.now in
    let files = concat (flms_of p) in
    let runs = flat_map run_text p.image.now in
    let behind : take (length head - 39) (drop 39 head) ≡ drop 39 head = take_all _ _ (omega (arith, length-drop 39 head)) in
    let one = c.update.ensures [] c.new-hasher.ensures in
    let two = c.update-2.ensures _ one in
    let three = c.hash_files.ensures _ two in
    subst (λ (l : List ℕ). Holds256 c.hash_runs.new.hasher l)
    (ap (λ (l : List ℕ). ((l ++ p.board.now) ++ files) ++ runs) behind ∙ ap (λ (l : List ℕ). ((drop 39 l ++ p.board.now) ++ files) ++ runs) c.requires.head)
    (c.hash_runs.ensures _ three)
