-- `resume`: its contract, `Shows`.
use Rattle.std.proofs.Common.{◌∙◌, refl, sym, subst, true}
use Rattle.bench_model.specs.Shown.{bench_of}
use Rattle.flash_session.specs.declared.goal.Goal.TheVariants.{New}
use Rattle.command_files.specs.Call.{bench_call, Answer}
use Rattle.job_commands.specs.GoOn.{GoesOnFrom, GoOnEnds}
use Rattle.demo_job.specs.Run.{Resumes, silence}
use Rattle.demo_job.specs.Scene.{fixture_of}
use Rattle.demo_job.proofs.RunLemmas.{done_laid, zero_done}
use Rattle.demo_job.proofs.ShowLemmas.{same_as, no_inputs, takes_none}
use Rattle.demo_job.proofs.run.resume.Goals as goal

pub returns : goal.returns
returns c fresh is_fresh is_lost =
    let seed = c.args.seed in
    let t = fixture_of c.args.scene.now.fixture in
    let scene = c.requires.scene in
    let lost = c.args.bench in
    let after = c.go_on.new.bench in
    let end = c.refusal_of-refusal.result in
    let resumes : Resumes lost after end = λ inputs takes.
    subst (λ (a : Answer). GoOnEnds New (bench_call true (bench_of lost) (bench_of after)) inputs silence a) (sym c.refusal_of-refusal.ensures)
    (c.go_on.ensures.ends inputs takes) in
    let same = same_as c.is_same.ensures c.cells.ensures (c.deref.ensures.value ∙ scene.goal) in
    record {
      fixture = t;
      is_fixture = scene.fixture;
      seed_is = refl;
      sectors_are = c.requires.counts.sectors;
      pages_are = c.requires.counts.pages;
      cost_is = c.requires.counts.cost;
      calls_are = scene.calls;
      lost = lost;
      is_lost = is_lost;
      resumes = resumes;
      status_is = c.status.ensures;
      same = same;
      zero = λ zero. same.1 (done_laid seed t fresh lost after is_fresh is_lost scene.base scene.size
          (subst (λ (a : Answer). GoesOnFrom New (bench_call true (bench_of lost) (bench_of after)) silence a) (zero_done end (sym c.status.ensures ∙ zero))
          ((resumes no_inputs takes_none).told refl)));
    }
