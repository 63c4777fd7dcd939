-- What a command on files answers, by what it does: it yields before any work, it refuses the files, or it works on what they want.
use Rattle.std.proofs.Common.{◌≡◌, ap, subst, inl, inr, true}
use Rattle.report_text.specs.Refusal.{Refusal}
use Rattle.command_words.specs.Files.{FilesAsked}
use Rattle.command_files.specs.Inputs.{InputsCall, FilesGiven, AreFiles}
use Rattle.command_files.specs.Files.{Aim, IsAim}
use Rattle.command_files.specs.Refused.{IsRefused}
use Rattle.command_files.proofs.FilesLemmas.{one_given, one_aim, one_refusal, aim_or_refused}
use Rattle.command_files.specs.Call.{BenchCall, SinkCall, Answer, refused}
use Rattle.command_files.specs.Answered.{yields, DidNothing}
use Rattle.command_files.specs.Reading.{ShowsFiles, AnswersFiles}

module _ (bench : BenchCall) (inputs : InputsCall) (out : SinkCall) (asked : FilesAsked) (Holds Goes : FilesGiven → Aim → Type 0) where
  pub answers_yielding : (answer : Answer) → yields answer ≡ true → DidNothing bench out → ((files : FilesGiven) (aim : Aim) → Goes files aim)
      → ShowsFiles inputs asked Holds answer → AnswersFiles bench inputs out asked answer Holds Goes
  answers_yielding answer yields did goes shows = record {
    shows = shows;
    refuses = λ files refusal told are is. inr (yields, did);
    goes = λ files aim told are is. goes files aim;
  }

  pub answers_refused : (r : Refusal) (files : FilesGiven) → AreFiles inputs asked files → IsRefused asked files r → ShowsFiles inputs asked Holds (refused r)
      → AnswersFiles bench inputs out asked (refused r) Holds Goes
  answers_refused r files are is shows = record {
    shows = shows;
    refuses = λ other refusal told its refused'.
        let same = one_given inputs asked files other told are its in
        inl (ap refused (one_refusal asked other r refusal (subst (λ (f : FilesGiven). IsRefused asked f r) same is) refused'));
    goes = λ other aim told its is_aim.
        let same = one_given inputs asked files other told are its in
        absurd (aim_or_refused asked other aim r is_aim (subst (λ (f : FilesGiven). IsRefused asked f r) same is));
  }

  pub answers_worked : (answer : Answer) (files : FilesGiven) (aim : Aim) → AreFiles inputs asked files → IsAim asked.raw_at files aim
      → ShowsFiles inputs asked Holds answer → Goes files aim → AnswersFiles bench inputs out asked answer Holds Goes
  answers_worked answer files aim are is shows goes = record {
    shows = shows;
    refuses = λ other refusal told its refused'.
        let same = one_given inputs asked files other told are its in
        absurd (aim_or_refused asked other aim refusal (subst (λ (f : FilesGiven). IsAim asked.raw_at f aim) same is) refused');
    goes = λ other aim' told its is_aim.
        let same = one_given inputs asked files other told are its in
        subst (λ (a : Aim). Goes other a) (one_aim asked other aim aim' (subst (λ (f : FilesGiven). IsAim asked.raw_at f aim) same is) is_aim)
        (subst (λ (f : FilesGiven). Goes f aim) same goes);
  }
