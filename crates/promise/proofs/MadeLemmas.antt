-- Two calls that are made, with a loss of the power between them, are a campaign.
use Rattle.std.proofs.Common.{◌≤◌, ◌⊎◌, ⊎_elim, inl, refl, sym, subst, arith, ℕ, List, [], ◌∷◌, All, Option, Some, None}
use Rattle.std.proofs.lemmas.List.Elements.{All-nil}
use Rattle.bench_model.specs.Loss.{IsAtRest}
use Rattle.bench_model.specs.Memory.{left_as_read, left_as_told}
use Rattle.bench_model.specs.Shown.{bench_of}
use Rattle.bench_model.specs.State.{Left, SameOutside}
use Rattle.bench_model.specs.declared.memory.MemoryBench.{MemoryBench}
use Rattle.campaign.specs.Stops.{CampaignJob, IsTold, IsEntered}
use Rattle.command_words.specs.Files.{FilesAsked, Command, program, begin, resume, revert, names_asked}
use Rattle.command_words.specs.Words.{Asks}
use Rattle.command_words.proofs.WordsLemmas.{one_command}
use Rattle.flash_session.specs.declared.goal.Goal.{Goal}
use Rattle.promise.specs.Job.{campaign_job}
use Rattle.promise.specs.Promise.{Call, KeepsPromise}
use Rattle.promise.specs.Campaign.{command_to}
use Rattle.promise.specs.Made.{LeavesFree, IsCampaign}
use Rattle.promise.proofs.CampaignLemmas.{are_safe}

-- `resume` and `revert` take no file
pub takes_none : (may_take : List ℕ → Type 0) (words : List (List ℕ)) (command : Command) → Asks words resume ⊎ Asks words revert → Asks words command
    → All may_take (names_asked command)
takes_none may_take words command either asks = ⊎_elim
    (λ (is : Asks words resume).
    subst (λ (x : Command). All may_take (names_asked x)) (one_command words resume command is asks) (All-nil may_take))
    (λ (is : Asks words revert).
    subst (λ (x : Command). All may_take (names_asked x)) (one_command words revert command is asks) (All-nil may_take))
    either

same_all : (operation : Option (ℕ × ℕ)) (cells : List ℕ) → SameOutside operation cells cells
same_all None cells = refl
same_all (Some range) cells = (refl, refl, refl)

is_told : (m : MemoryBench) → IsTold (bench_of m)
is_told m = record {
  as_read = left_as_read m.history m.file.items m.cells.items m.operation m.in_step;
  as_told = (left_as_told m.history m.file.items m.cells.items m.operation m.in_step m.cells.items).1 (same_all m.operation m.cells.items);
}

-- a bench that lost its power is entered with what the loss left
pub entered : (ended lost : MemoryBench) → Left (bench_of ended) (bench_of lost).file (bench_of lost).cells → IsAtRest (bench_of lost) → (aim : CampaignJob)
    → IsEntered aim (bench_of ended) (bench_of ended).moment (bench_of lost)
entered ended lost at rest aim = record {
  told = is_told lost;
  files = λ f is. subst (λ (x : List ℕ). (bench_of ended).files_at (bench_of ended).moment x) (sym (rest.file f is)) at.0;
  cells = inl (λ c is. subst (λ (x : List ℕ). (bench_of ended).cells_at (bench_of ended).moment x) (sym (rest.cells c is)) at.1);
}

pub is_campaign : (asked : FilesAsked) (goal : Goal) (first last : Call) → KeepsPromise (program asked) first ⊎ KeepsPromise (begin asked) first
    → LeavesFree first.old → first.old.moment ≤ first.new.moment → KeepsPromise (command_to goal) last → last.old.moment ≤ last.new.moment
    → ((aim : CampaignJob) → IsEntered aim first.new first.new.moment last.old)
    → IsCampaign asked first (record { goal = goal; call = last; end = last.new.moment })
is_campaign asked goal first last keeps free forward keeps_last forward_last enters = record {
  is_first = record { keeps = keeps; free = free; within = (forward, omega arith) };
  keep = (keeps_last, tt);
  follow = λ job. (enters (campaign_job job), (forward_last, omega arith), tt);
  safe = λ is keep. are_safe asked first first.new.moment (record { goal = goal; call = last; end = last.new.moment } ∷ []) is keep;
}
