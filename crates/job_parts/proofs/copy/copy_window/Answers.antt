-- `copy_window`: its contract, `Gives`.
use Rattle.std.proofs.Common.{ap, refl, ◌∙◌, ◌++◌, List, ℕ, subst}
use Rattle.outside_io.specs.Appends.{AppendsPart}
use Rattle.job_parts.proofs.GiveLemmas.{counted_rose, counted_same, store_failed}
use Rattle.job_parts.proofs.copy.copy_window.Goals as goal

pub returns-in-Err : goal.returns-in-Err
returns-in-Err g c =
    let does = c.in-Err.ensures.does in
    store_failed _ (record { file = does.file; moments = does.moments; cells = does.cells }) does.cause.later (does.cause.on_fault refl)

pub returns-in-Ok-put : goal.returns-in-Ok-put
returns-in-Ok-put g c =
    let does = c.in-Ok.ensures.does in record {
      kind = tt;
      given = λ told its.
          c.in-Ok-put.ensures.ok its ∙ ap (λ (l : List ℕ). (g.O.Sink.state c.args.out.now).taken ++ l) (does.ok told);
      looks = record {
        store = counted_same (does.cause.on_ok refl);
        output = counted_same (c.in-Ok-put.ensures.cause.on_ok refl);
        reads = record { file = does.file; moments = does.moments; cells = does.cells };
      };
    }

pub returns-in-Err-put : goal.returns-in-Err-put
returns-in-Err-put g c =
    let does = c.in-Ok.ensures.does in record {
      kind = tt;
      given = λ told its.
          subst (λ (l : List ℕ). AppendsPart l (g.O.Sink.state c.args.out.now).taken (g.O.Sink.state c.put.new.self).taken) (does.ok told)
          (c.in-Err-put.ensures.err its);
      looks = record {
        store = counted_same (does.cause.on_ok refl);
        output = counted_rose c.in-Err-put.ensures.cause.later (c.in-Err-put.ensures.cause.on_fault refl);
        reads = record { file = does.file; moments = does.moments; cells = does.cells };
      };
    }
