-- How the next call is entered: after a call that returned or was stopped, with or without a target that ran meanwhile.
use Rattle.std.proofs.Common.{inl, inr, ◌∙◌, ℕ, List, sym, subst}
use Rattle.bench_model.specs.History.{left, LeftOnly}
use Rattle.bench_model.specs.State.{BenchState, file_half, cells_half}
use Rattle.job_text.specs.Files.{IsWhole}
use Rattle.campaign.specs.Stops.{CampaignJob, IsTold, IsEntered}

-- the next call after one that ended, on the same bench
pub after_return : (aim : CampaignJob) (new next : BenchState) → IsTold next → ((f : List ℕ) → left (file_half next) f → left (file_half new) f)
    → ((c : List ℕ) → left (cells_half next) c → left (cells_half new) c) → IsEntered aim new new.moment next
after_return aim new next told files cells = record { told = told; files = files; cells = inl cells }

-- the next call after a stop that left this pair and nothing pending
pub after_stop : (aim : CampaignJob) (new next : BenchState) (end : ℕ) (f c : List ℕ) → new.files_at end f → new.cells_at end c → IsTold next
    → LeftOnly f (file_half next) → LeftOnly c (cells_half next) → IsEntered aim new end next
after_stop aim new next end f c f_at c_at told only_f only_c = record {
  told = told;
  files = λ g at. subst (λ (l : List ℕ). new.files_at end l) (sym (only_f g at)) f_at;
  cells = inl (λ d at. subst (λ (l : List ℕ). new.cells_at end l) (sym (only_c d at)) c_at);
}

-- the next call after a stop that left the whole job, whatever the target did meanwhile
pub after_stop_alone : (aim : CampaignJob) (new next : BenchState) (end : ℕ) (f : List ℕ) → new.files_at end f → IsWhole aim.body f → IsTold next
    → LeftOnly f (file_half next) → IsEntered aim new end next
after_stop_alone aim new next end f f_at whole told only_f = record {
  told = told;
  files = λ g at. subst (λ (l : List ℕ). new.files_at end l) (sym (only_f g at)) f_at;
  cells = inr (λ g at. only_f g at ∙ whole);
}
