-- `lose`: its contract, `IsLost`.
use Rattle.std.proofs.Common.{◌≡◌, ◌∙◌, refl, sym, subst, List, [], ◌∷◌}
use Rattle.bench_model.specs.State.{Left}
use Rattle.bench_model.specs.Loss.{IsPicked, after_loss}
use Rattle.bench_model.specs.Shown.{shown, bench_of}
use Rattle.bench_model.specs.declared.memory.MemoryBench.{MemoryBench}
use Rattle.bench_model.specs.declared.pick.Pick.TheVariants.{Filled}
use Rattle.byte_map.specs.Image.{Run}
use Rattle.job_text.specs.Fits.{Suits}
use Rattle.demo_job.specs.Run.{answer_in}
use Rattle.demo_job.specs.Scene.{fixture_of}
use Rattle.demo_job.proofs.MadeLemmas.{length-cells}
use Rattle.demo_job.proofs.PlanLemmas.{board_size}
use Rattle.demo_job.proofs.RunLemmas.{begun_of, want_is_one}
use Rattle.demo_job.proofs.run.lose.Goals as goal

pub returns : goal.returns
returns c =
    let seed = c.args.seed in
    let t = fixture_of c.args.scene.now.fixture in
    let scene = c.requires.scene in
    let over = c.begin_stopped-stopped.ensures in
    let its = over.its_parts in
    let begun = c.begin_stopped-stopped.result.bench in
    let lost = c.power_loss.new.self in
    let answer = answer_in c.begin_stopped-stopped.result.refusal in
    let suits = subst (λ (i : List Run). Suits t.board (t.algorithm ∷ []) i) (sym (its.image ∙ sym scene.image)) scene.suits in
    let of = begun_of seed t over.first begun c.args.bench answer over.parts over.inner c.requires.fresh scene.fixture suits its.board its.flm its.second
    its.image (board_size t.board t.algorithm scene.suits.fit ∙ its.size) its.all (length-cells seed)
    (over.begins refl) in
    let inner = c.into_inner-bench.ensures.inner in
    record {
      first = over.first;
      inner = over.inner;
      calls = over.calls;
      same = over.same;
      begun = begun;
      answer = answer;
      syncs = over.syncs;
      is_job = of.is_job;
      carries = of.carries;
      kind = over.kind;
      counts = over.counts;
      no_want = λ is. c.if-status-eq-NO_MEMORY.false (c.status.ensures ∙ want_is_one c.begin_stopped-stopped.result.refusal is);
      left = subst (λ (b : MemoryBench). Left (bench_of b) (bench_of lost).file (bench_of lost).cells) inner c.power_loss.ensures.left;
      picked = subst (λ (b : MemoryBench). IsPicked (Filled 0x5A) (shown b) (shown lost).file (shown lost).cells) inner c.power_loss.ensures.picked;
      rest = c.power_loss.ensures.rest;
      exact = subst (λ (b : MemoryBench). shown lost ≡ after_loss (shown lost).file (shown lost).cells (shown b)) inner c.power_loss.ensures.exact;
    }
