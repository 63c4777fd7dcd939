-- What a demonstration shows.
use Rattle.std.specs.Prelude.{◌≡◌, ◌↔◌, ℕ, IsTrue}
use Rattle.algo_calls.specs.Duties.{device_of}
use Rattle.bench_model.specs.Shown.{bench_of}
use Rattle.bench_model.specs.declared.memory.MemoryBench.{MemoryBench}
use Rattle.demo_job.specs.Made.{laid_of, stop_of}
use Rattle.demo_job.specs.Fixture.{Fixture, IsFixture}
use Rattle.demo_job.specs.Plan.{erased, programmed}
use Rattle.demo_job.specs.Run.{plan_of, IsLost, Resumes, status_in}
use Rattle.demo_job.specs.declared.run.Demo.{Demo}

-- What a demonstration shows, on a fresh bench of a seed. It gives the numbers of the plan that is chosen from the seed's cells to the
-- image laid over them. It gives the number of calls after which the job was stopped, and the end of the resume, on what the loss of the
-- power left. It says `same` exactly where the cells are the image laid over the seed's cells, and always with status 0.
pub record Shows (seed : ℕ) (fresh : MemoryBench) (demo : Demo) : Type 0 where
  pub fixture : Fixture
  pub is_fixture : IsFixture fixture
  pub seed_is : demo.lines.seed ≡ seed
  pub sectors_are : demo.lines.sectors ≡ erased (device_of fixture.algorithm) (plan_of seed fixture)
  pub pages_are : demo.lines.pages ≡ programmed (device_of fixture.algorithm) (plan_of seed fixture)
  pub cost_is : demo.lines.cost ≡ (plan_of seed fixture).cost
  pub calls_are : demo.lines.calls ≡ stop_of seed
  pub lost : MemoryBench
  pub is_lost : IsLost seed fixture fresh lost
  pub resumes : Resumes lost demo.bench demo.refusal
  pub status_is : demo.lines.status ≡ status_in demo.refusal
  pub same : IsTrue demo.lines.same ↔ ((bench_of demo.bench).cells ≡ laid_of seed)
  pub zero : demo.lines.status ≡ 0 → IsTrue demo.lines.same
