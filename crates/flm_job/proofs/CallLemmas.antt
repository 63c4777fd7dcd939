-- How a call of `flm_job` ends.
use Rattle.std.proofs.Common.{◌≡◌, ◌≢◌, ℕ, Bool, List, [], ◌∷◌, inl, inr, refl, subst, arith}
use Rattle.bench_model.specs.State.{BenchState}
use Rattle.outside_io.specs.State.{SinkState}
use Rattle.report_text.specs.Refusal.{Refusal, damaged, status_of}
use Rattle.report_text.specs.Shown.{shown}
use Rattle.report_text.specs.declared.refusal.Refusal as value
use Rattle.report_text.specs.declared.refusal.Refusal.TheVariants as variant
use Rattle.report_text.specs.Lines.{line_of}
use Rattle.report_text.proofs.StatusLemmas.{some_status}
use Rattle.command_files.specs.Call.{BenchCall, SinkCall, done, refused, bench_call, sink_call}
use Rattle.job_parts.specs.declared.part.Part.{Part}
use Rattle.flm_job.specs.Words.{AskFor}
use Rattle.flm_job.specs.Rescues.{Rescues}
use Rattle.flm_job.specs.Answers.{Ends, IsDamagedOnly, IsFoundIn, IsGivenDamaged, SaysLine, refused_line}

-- the line of a refusal that isn't about the words
pub refused_others : (e : value.Refusal) → (e ≡ variant.Usage → ⊥) → line_of (shown e) ≡ refused_line (shown e)
refused_others variant.Usage other = absurd (other refl)
refused_others e other = refl

-- no refusal has the status 0
pub never_zero : (r : Refusal) (status : ℕ) → status ≡ status_of r → status ≡ 0 → refused r ≡ done
never_zero r status is zero = absurd (omega (arith, is, zero, some_status r))

-- where no part but the listing is asked for
pub listing_only : (words : List (List ℕ)) (bench : BenchCall) (out : SinkCall) (r : Refusal) → (words ≢ [] → (part : Part) → AskFor words part → ⊥)
    → Ends words bench out (refused r) → IsDamagedOnly (refused r) (words ≡ [])
listing_only [] bench out (damaged kept found) none ends = refl
listing_only (word ∷ words) bench out (damaged kept found) none (inl of) = absurd (none (λ is. absurd cc) of.part of.ask)
listing_only (word ∷ words) bench out (damaged kept found) none (inr of) = let wrong = of.answer_is in absurd cc
listing_only words bench out r none ends = tt

-- where the job isn't damaged
pub undamaged : (r : Refusal) (P : Type 0) → IsDamagedOnly (refused r) ⊥ → IsDamagedOnly (refused r) P
undamaged (damaged kept found) P none = absurd none
undamaged r P none = tt

-- a damaged job
pub given_damaged : {B : Type 0} (state : B → BenchState) (tells : Bool) (words : List (List ℕ)) (status : ℕ) (bench after : B) (out err : SinkCall)
    (r : Refusal) (hash : List ℕ) (part : Part) (out_then err_then : SinkState) → AskFor words part → words ≢ [] → IsFoundIn r hash
    → Ends words (bench_call tells (state bench) (state after)) (sink_call out.tells out.before out_then) (refused r)
    → SaysLine (sink_call err.tells err.before err_then) r
    → Rescues state tells part hash status after (sink_call out.tells out_then out.after) (sink_call err.tells err_then err.after)
    → IsGivenDamaged state tells words status bench out err
given_damaged state tells words status bench after out err (damaged kept found) hash part out_then err_then ask other is ends line rescues = record {
  part = part;
  ask = ask;
  other = other;
  after = after;
  kept = kept;
  found = found;
  out_then = out_then;
  err_then = err_then;
  ends = ends;
  line = line;
  rescues = subst
      (λ (h : List ℕ). Rescues state tells part h status after (sink_call out.tells out_then out.after) (sink_call err.tells err_then err.after))
      is rescues;
}
given_damaged state tells words status bench after out err r hash part out_then err_then ask other is ends line rescues = absurd is
