-- `status`: its contract, `StatusEnds`.
use Rattle.std.proofs.Common.{rules, ◌≢◌, ◌∙◌, ap, sym, subst, refl, sum_by, IsTrue}
use Rattle.board_file.specs.Shown as board
use Rattle.flm_descriptor.specs.declared.device.Device.{Device}
use Rattle.job_text.specs.Said.{algorithms_shown}
use Rattle.report_text.specs.Job as report
use Rattle.bench_model.specs.Counted.{is_store_fault, IsCounted}
use Rattle.job_file.specs.Counted.{open_fault}
use Rattle.job_file.specs.Faults.{IsOpenFault}
use Rattle.job_file.specs.declared.fault.OpenFault.{OpenFault}
use Rattle.job_file.specs.declared.fault.OpenFault.TheVariants.{NoJob}
use Rattle.command_files.specs.Call.{sink_call}
use Rattle.command_files.specs.Shown.{answer_of}
use Rattle.job_status.proofs.StatusLemmas.{devices_fill, shown_devices, ends_free, ends_job, ends_refused}
use Rattle.job_status.proofs.status_command.status.Goals as goal

pub returns-in-Ok : goal.returns-in-Ok
returns-in-Ok g c = λ inputs takes.
    let out = sink_call g.O.Sink.tells (g.O.Sink.state c.args.out.now) (g.O.Sink.state c.print_job.new.out) in
    ends_job g.B.Bench.tells (g.B.Bench.state c.args.bench.now) (g.B.Bench.state c.open.new.bench) inputs takes c.open.ensures.reads out
    (c.in-Ok.ensures.counted.on_other refl) (answer_of c.print_job.result) (record {
      devices = report.devices_of c.in-Ok.job;
      image = c.in-Ok.job.image;
      size = ap (sum_by (λ (device : Device). device.size)) (sym (shown_devices c.in-Ok.job.algorithms))
          ∙ devices_fill (board.shown c.in-Ok.job.board) c.in-Ok.job.board.regions (algorithms_shown c.in-Ok.job.algorithms) c.in-Ok.job.fit
          ∙ c.in-Ok.ensures.sized;
      stands = λ told. let st = c.in-Ok.ensures.ok told in record {
        some = record {
          job = st.text;
          board = board.shown c.in-Ok.job.board;
          algorithms = algorithms_shown c.in-Ok.job.algorithms;
          is = st.is;
          whole =
              st.whole;
        };
        devices_are = shown_devices c.in-Ok.job.algorithms;
        image_is = st.image;
      };
      says = c.print_job.ensures;
    })

pub returns-in-Err : goal.returns-in-Err
returns-in-Err g c = λ inputs takes.
    let some : c.in-Err.fault ≢ NoJob = search rules in
    rw c.from.ensures (ends_refused g.B.Bench.tells (g.B.Bench.state c.args.bench.now) (g.B.Bench.state c.open.new.bench) inputs takes c.open.ensures.reads
    g.O.Sink.tells (g.O.Sink.state c.args.out.now) c.in-Err.fault some c.in-Err.ensures.counted c.in-Err.ensures.refused c.in-Err.ensures.sound)

pub returns-in-Err-NoJob : goal.returns-in-Err-NoJob
returns-in-Err-NoJob g c = λ inputs takes.
    let b = g.B.Bench.state c.args.bench.now in
    let after = g.B.Bench.state c.open.new.bench in
    let at = c.in-Err-NoJob in
    ends_free g.B.Bench.tells b after inputs takes c.open.ensures.reads
    (sink_call g.O.Sink.tells (g.O.Sink.state c.args.out.now) (g.O.Sink.state c.print_job-in-Err-NoJob.new.out))
    ((subst (λ (f : OpenFault). IsCounted b.store_faults after.store_faults (is_store_fault (open_fault f))) at.field-0-is at.ensures.counted).on_other refl)
    (answer_of c.print_job-in-Err-NoJob.result)
    (subst (λ (f : OpenFault). IsTrue g.B.Bench.tells → IsOpenFault b.file b.cell_count f) at.field-0-is at.ensures.refused)
    c.print_job-in-Err-NoJob.ensures
