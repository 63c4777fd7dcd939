-- What is reported of algorithms, and how a call ends.
use Rattle.std.proofs.Common.{◌≡◌, ◌<◌, ◌++◌, ◌⊎◌, ⊎_elim, refl, sym, subst, inl, inr, ℕ, Bool, List, [], ◌∷◌, slice_get, Some, Ok}
use Rattle.std.proofs.Common.{Err}
use Rattle.board_file.specs.Shown as board
use Rattle.flm_descriptor.specs.Shown as flm
use Rattle.serve_law.specs.Table.{IsA1On}
use Rattle.outside_io.specs.State.{SinkState}
use Rattle.report_text.specs.Refusal as refusal
use Rattle.report_text.specs.Refusal.{Refusal}
use Rattle.report_text.specs.Shown.{shown}
use Rattle.report_text.specs.declared.refusal.Refusal as value
use Rattle.report_text.specs.declared.refusal.Refusal.TheVariants as variant
use Rattle.report_text.specs.Lines.{line_of}
use Rattle.command_words.specs.Files.{names_in}
use Rattle.command_files.specs.Inputs.{InputsCall, FilesGiven, NoneFailed}
use Rattle.command_files.specs.Steps.{IsTakeFault, TookFiles}
use Rattle.command_files.specs.Call.{SinkCall, sink_call}
use Rattle.command_files.specs.Said.{TookNothing, TookAll, TookPart}
use Rattle.duty_rounds.specs.declared.verdict.Verdict.{Verdict}
use Rattle.duty_rounds.specs.declared.verdict.Verdict.TheVariants as verdict
use Rattle.duty_rounds.specs.Verdicts.{IsTrueOf}
use Rattle.duty_rounds.proofs.RoundLemmas.{breaks_refutes}
use Rattle.flm_check.specs.declared.ending.Ending.{Ending}
use Rattle.flm_check.specs.declared.ending.Ending.TheVariants as ending
use Rattle.flm_check.specs.Words.{Asked, Asks, AsksNothing}
use Rattle.flm_check.specs.BoardAlgorithms.{AreBoardAlgorithms}
use Rattle.flm_check.specs.Steps.{IsReadRefusal}
use Rattle.flm_check.specs.Endings.{first_line}
use Rattle.flm_check.specs.Verdicts.{IsTold, IsInside}
use Rattle.flm_check.specs.Answers.{Claims, ClaimsOf, ComesRefused, PutsRefused, Works, refused_line}

-- ---- what is reported of algorithms

-- a breach is by one of the algorithms
pub inside : (b : board.Shown) (algorithms : List flm.Shown) (count : ℕ) (v : Verdict) → ((k : ℕ) (a : flm.Shown) → slice_get algorithms k ≡ Some a → k < count)
    → IsTrueOf b algorithms v → IsInside count v
inside b algorithms count verdict.Proved few is = tt
inside b algorithms count verdict.Tried few is = tt
inside b algorithms count (verdict.Broken broken) few is = few broken.region is.algorithm is.is

claims : (b : board.Shown) (algorithms : List flm.Shown) (v : Verdict) (e : Ending) → IsTrueOf b algorithms v → IsTold v e → Claims b algorithms e
claims b algorithms verdict.Proved ending.Proved is told = is
claims b algorithms verdict.Proved (ending.Tried lists calls) is told = absurd told
claims b algorithms verdict.Proved (ending.Broken duty) is told = absurd told
claims b algorithms verdict.Tried ending.Proved is told = absurd told
claims b algorithms verdict.Tried (ending.Tried lists calls) is told = tt
claims b algorithms verdict.Tried (ending.Broken duty) is told = absurd told
claims b algorithms (verdict.Broken broken) ending.Proved is told = absurd told
claims b algorithms (verdict.Broken broken) (ending.Tried lists calls) is told = absurd told
claims b algorithms (verdict.Broken broken) (ending.Broken duty) is told = record {
  region = broken.region;
  algorithm = is.algorithm;
  is = is.is;
  refuted = breaks_refutes b is.algorithm broken.region broken.plan.work broken.turn is.breach.breaks;
}

proved_told : (e : Ending) → IsTold verdict.Proved e → e ≡ ending.Proved
proved_told ending.Proved told = refl
proved_told (ending.Tried lists calls) told = absurd told
proved_told (ending.Broken duty) told = absurd told

pub claims_of : (files : FilesGiven) (b : board.Shown) (algorithms : List flm.Shown) (v : Verdict) (e : Ending) → AreBoardAlgorithms files b algorithms
    → IsTrueOf b algorithms v → ((a : flm.Shown) → algorithms ≡ a ∷ [] → IsA1On b a → v ≡ verdict.Proved) → IsTold v e → ClaimsOf files e
claims_of files b algorithms v e are is proved told = record {
  board = b;
  algorithms = algorithms;
  are_algorithms = are;
  claims = claims b algorithms v e is told;
  proved = λ a only on. proved_told e (subst (λ (x : Verdict). IsTold x e) (proved a only on) told);
}

-- ---- how a call ends

nothing : (tells : Bool) (o : SinkState) → TookNothing (sink_call tells o o)
nothing tells o = record { taken = refl; faults = refl }

pub puts_nothing : (tells : Bool) (o : SinkState) (r : Refusal) → (r ≡ refusal.output_fault → ⊥) → PutsRefused (sink_call tells o o) r
puts_nothing tells o refusal.output_fault other = absurd (other refl)
puts_nothing tells o r other = nothing tells o

-- the line of a refusal that isn't about the words
pub refused_others : (e : value.Refusal) → (e ≡ variant.Usage → ⊥) → line_of (shown e) ≡ refused_line (shown e)
refused_others variant.Usage other = absurd (other refl)
refused_others e other = refl

-- a call is refused if one of its files couldn't be taken
pub comes_untaken : (words : List (List ℕ)) (inputs : InputsCall) (out : SinkCall) (asked : Asked) (r : Refusal) → Asks words asked
    → IsTakeFault inputs (names_in asked.files) r → ComesRefused words inputs out r
comes_untaken words inputs out asked refusal.out_of_memory asks is = is
comes_untaken words inputs out asked (refusal.input_fault name) asks is = record { asked = asked; asks = asks; fault = is }
comes_untaken words inputs out asked r asks is = absurd is

-- a call with files that are refused
pub comes_refused : (words : List (List ℕ)) (inputs : InputsCall) (out : SinkCall) (asked : Asked) (r : Refusal) → Asks words asked
    → TookFiles inputs asked.files (λ files. IsReadRefusal files r) → ComesRefused words inputs out r
comes_refused words inputs out asked refusal.out_of_memory asks took = took.none_failed
comes_refused words inputs out asked refusal.usage asks took = inr (record { asked = asked; asks = asks; took = took })
comes_refused words inputs out asked (refusal.board_refused fault) asks took = record { asked = asked; asks = asks; took = took }
comes_refused words inputs out asked (refusal.flm_refused fault) asks took = record { asked = asked; asks = asks; took = took }
comes_refused words inputs out asked (refusal.other_device base size) asks took = record { asked = asked; asks = asks; took = took }
comes_refused words inputs out asked (refusal.no_room need have) asks took = record { asked = asked; asks = asks; took = took }
comes_refused words inputs out asked r asks took = absurd took.given.holds

-- taking files is never refused by a fault of the output
pub take_no_output : (inputs : InputsCall) (names : List (List ℕ)) (r : Refusal) → IsTakeFault inputs names r → r ≡ refusal.output_fault → ⊥
take_no_output inputs names refusal.output_fault is same = is
take_no_output inputs names r is same = absurd cc

pub read_no_output : (files : FilesGiven) (r : Refusal) → IsReadRefusal files r → r ≡ refusal.output_fault → ⊥
read_no_output files refusal.output_fault is same = is
read_no_output files r is same = absurd cc

-- ---- the work of a call

module _ (words : List (List ℕ)) (inputs : InputsCall) (told : Bool) (o : SinkState) where
  abbrev Out : SinkCall
  Out = sink_call told o o

  -- the words fit no call
  pub works_unfit : (e : value.Refusal) → shown e ≡ refusal.usage → AsksNothing words → NoneFailed inputs → Works words inputs Out (Err e)
  works_unfit e is nothing_asked none = record {
    comes = subst (λ (r : Refusal). ComesRefused words inputs Out r) (sym is) (inl (nothing_asked, none));
    leaves = subst (λ (r : Refusal). PutsRefused Out r) (sym is) (nothing told o);
  }

  -- out of memory
  pub works_without_memory : (e : value.Refusal) → shown e ≡ refusal.out_of_memory → NoneFailed inputs → Works words inputs Out (Err e)
  works_without_memory e is none = record {
    comes = subst (λ (r : Refusal). ComesRefused words inputs Out r) (sym is) none;
    leaves = subst (λ (r : Refusal). PutsRefused Out r) (sym is) (nothing told o);
  }

  -- the files give no algorithms for a board
  pub works_untaken : (asked : Asked) (e : value.Refusal) → Asks words asked
      → IsTakeFault inputs (names_in asked.files) (shown e) ⊎ TookFiles inputs asked.files (λ files. IsReadRefusal files (shown e)) →
      Works words inputs Out (Err e)
  works_untaken asked e asks fault = record {
    comes = ⊎_elim (λ is. comes_untaken words inputs Out asked (shown e) asks is) (λ took. comes_refused words inputs Out asked (shown e) asks took) fault;
    leaves = puts_nothing told o (shown e)
        (⊎_elim (λ is. take_no_output inputs (names_in asked.files) (shown e) is) (λ took. read_no_output took.given.files (shown e) took.given.holds) fault);
  }

module _ (words : List (List ℕ)) (inputs : InputsCall) (out : SinkCall) where
  -- standard output failed
  pub works_cut : (asked : Asked) (e : value.Refusal) (end : Ending) (rest : List ℕ) → shown e ≡ refusal.output_fault → Asks words asked
      → TookFiles inputs asked.files (λ files. ClaimsOf files end) → TookPart out (first_line end ++ rest) → Works words inputs out (Err e)
  works_cut asked e end rest is asks took part = record {
    comes = subst (λ (r : Refusal). ComesRefused words inputs out r) (sym is) (record {
      asked = asked;
      asks = asks;
      took = record {
        given = record {
          files = took.given.files;
          are_files = took.given.are_files;
          holds = record { end = end; claims = took.given.holds; rest = rest; took = part };
        };
        none_failed = took.none_failed;
      };
    });
    leaves = subst (λ (r : Refusal). PutsRefused out r) (sym is) (record { text = first_line end ++ rest; took = part });
  }

  -- the algorithms were checked, and the ending was put
  pub works_done : (asked : Asked) (e : Ending) (rest : List ℕ) → Asks words asked → TookFiles inputs asked.files (λ files. ClaimsOf files e)
      → TookAll out (first_line e ++ rest) → Works words inputs out (Ok e)
  works_done asked e rest asks took all = record {
    comes = record { asked = asked; asks = asks; took = took };
    leaves = record { rest = rest; took = all };
  }
