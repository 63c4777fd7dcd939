-- `begin_stopped`: its contract, `BeginsOver`, and what `begin_job` requires.
use Rattle.std.proofs.Common.{◌∙◌, sym, subst, List, [], ◌∷◌}
use Rattle.bench_model.specs.Stopped.{stopped}
use Rattle.byte_map.specs.Image.{Run}
use Rattle.job_file.proofs.FirstLemmas.{syncs_as}
use Rattle.job_text.specs.Fits.{Suits}
use Rattle.command_files.specs.Answered.{IsOf}
use Rattle.command_files.specs.Call.{bench_call, Answer}
use Rattle.job_commands.specs.Steps.{BeginsParts, BenchCounted, has_work}
use Rattle.demo_job.specs.Run.{silence}
use Rattle.demo_job.specs.Scene.{fixture_of}
use Rattle.demo_job.proofs.PlanLemmas.{board_size}
use Rattle.demo_job.proofs.RunLemmas.{parts_of}
use Rattle.demo_job.proofs.run.begin_stopped.Goals as goal

pub begin_job-requires : goal.begin_job-requires
begin_job-requires g c =
    let t = fixture_of c.args.scene.now.fixture in
    let scene = c.requires in
    parts_of t c.parts.result scene.fixture (subst (λ (i : List Run). Suits t.board (t.algorithm ∷ []) i) (sym c.parts.ensures.image) scene.suits)
    c.parts.ensures.board c.parts.ensures.flm c.parts.ensures.second (board_size t.board t.algorithm scene.suits.fit ∙ sym c.parts.ensures.size)

pub returns : goal.returns
returns g c =
    let scene = c.requires in
    let first = stopped g.B.Bench.state c.new-stopping.result in
    let begun = stopped g.B.Bench.state c.begin_job.new.bench in
    record {
      first = c.new-stopping.result;
      inner = c.new-stopping.ensures.inner;
      calls = c.new-stopping.ensures.calls ∙ scene.calls;
      same = c.new-stopping.ensures.same;
      syncs = syncs_as c.begin_job.ensures.first (λ is. c.refusal_of-refusal.ensures ∙ is);
      parts = c.parts.result;
      its_parts = record {
        board = c.parts.ensures.board;
        flm = c.parts.ensures.flm;
        second = c.parts.ensures.second;
        image = c.parts.ensures.image ∙ scene.image;
        size = sym c.parts.ensures.size;
        all = c.parts.ensures.size ∙ scene.size;
      };
      begins = λ told. subst (λ (a : Answer). BeginsParts (bench_call g.B.Bench.tells first begun) silence c.parts.result a) (sym c.refusal_of-refusal.ensures)
          (c.begin_job.ensures.told told);
      kind = subst (λ (a : Answer). IsOf has_work a) (sym c.refusal_of-refusal.ensures) c.begin_job.ensures.kind;
      counts = subst (λ (a : Answer). BenchCounted (bench_call g.B.Bench.tells first begun) silence a) (sym c.refusal_of-refusal.ensures)
          c.begin_job.ensures.counts;
    }
