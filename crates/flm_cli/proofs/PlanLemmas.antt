-- From the steps of `plan` to its end, with a lemma for each step that may end it.
use Rattle.std.proofs.Common.{◌≡◌, ◌≢◌, ◌<◌, ◌≤◌, ◌+◌, ◌-◌, ◌^◌, ◌∙◌, sym, ap, subst, refl, arith, inl, inr, ℕ, zero, suc, Bool, true, false, nat_lt, IsTrue}
use Rattle.std.proofs.Common.{IsSome, is_some, All, List, [], ◌∷◌, ◌++◌, map, length, take, drop, set, get_or, append-nil, Option, option_to_list, Some, None}
use Rattle.std.proofs.Common.{Result, OnOk, Ok, Err}
use Rattle.std.specs.List.{flat_map}
use Rattle.std.proofs.Math.Seq.{take-add}
use Rattle.std.proofs.lemmas.Bool.{lt-ltb}
use Rattle.std.proofs.lemmas.List.{take_all, take_at, take_more, take_more_set, drop_at, drop-drop, map-append, length-take-le, length-append}
use Rattle.std.proofs.lemmas.List.Elements.{All-nil, All-cons}
use Rattle.bench_model.specs.State.{BenchState, cells_half}
use Rattle.bench_model.specs.declared.bench_fault.DeviceFault.{DeviceFault}
use Rattle.bench_model.proofs.Moments.{adds_nothing_here, file_stays_here, cells_stay_here}
use Rattle.outside_io.specs.State.{SinkState}
use Rattle.outside_io.specs.declared.sink.OutputFault.{OutputFault}
use Rattle.byte_map.specs.Image.{Run, over}
use Rattle.board_file.specs.declared.board.Weights.{Weights}
use Rattle.board_file.specs.declared.region.Region.{Region}
use Rattle.board_file.specs.Limits.{size_of}
use Rattle.board_file.specs.Shown as board
use Rattle.flm_descriptor.specs.Shown as flm
use Rattle.flm_descriptor.specs.declared.algorithm.Algorithm.{Algorithm}
use Rattle.page_geometry.specs.Geometry.{Geometry}
use Rattle.erase_planner.specs.Plans.{Chosen, chosen}
use Rattle.readback.specs.Readback.{OnlyReadsCells}
use Rattle.readback.proofs.ReadbackLemmas.{only_reads_cells_here, only_reads_cells_then}
use Rattle.flash_session.specs.declared.region_plan.RegionPlan.{RegionPlan}
use Rattle.flash_session.specs.RegionPlans.{IsRegionPlanFor, IsPlannedOver}
use Rattle.flash_session.proofs.JobLemmas.{size_of-cons}
use Rattle.report_text.specs.Plan.{plan_text}
use Rattle.report_text.specs.Region.{region_text, plans_text}
use Rattle.outside_io.specs.Puts.{Puts}
use Rattle.report_text.specs.Refusal.{Refusal, out_of_memory, usage, input_fault, flm_refused, other_device, no_room, board_refused, image_refused}
use Rattle.report_text.specs.Refusal.{image_misplaced, cells_differ, device_fault, output_fault, differs}
use Rattle.algo_calls.specs.Duties.{device_of}
use Rattle.command_words.specs.Files.{FilesAsked, names_in}
use Rattle.command_files.specs.Inputs.{InputsCall, FilesGiven, AreFiles, NoneFailed}
use Rattle.command_files.specs.Files.{others_of, AreFor, Aim, IsAim}
use Rattle.command_files.specs.Refused.{IsRefused}
use Rattle.command_files.specs.Steps.{IsTakeFault, IsFilesRefusal, aim_of}
use Rattle.command_files.specs.declared.wanted.Wanted.{Wanted}
use Rattle.command_files.specs.Call.{BenchCall, SinkCall, Answer, done, refused, bench_call, sink_call}
use Rattle.command_files.specs.Said.{PrintsText}
use Rattle.command_files.specs.Answered.{input, store, device, output, fault_in, yields, IsUnless, StandsEarly, IsOf, EndsLawfully, on_files}
use Rattle.command_files.specs.Reading.{ShowsFiles}
use Rattle.flm_cli.specs.Plan.{text_for, plans_for, text_of, PlanLeaves, IsPlanned, ShowsPlan, IsDueForPlan, PlanEnds, has_plan}
use Rattle.device_dump.specs.Looks.{LooksAtCells, PrintsNothing}
use Rattle.flm_cli.specs.Steps.{AreDevices, AreParts, ArePlanned, cells_on, part_text, parts_text, IsPrinted, Printed, PlansCells}
use Rattle.command_files.proofs.ReadingLemmas.{answers_yielding, answers_refused, answers_worked}
use Rattle.command_files.proofs.AnswerLemmas.{unraised, never_store, did_nothing, plain_lawful, untaken_lawful}
use Rattle.flm_cli.proofs.FoundLemmas.{is_early}

-- The work on the cells.

module _ (bench : BenchCall) (out : SinkCall) (text : List ℕ → List ℕ) where
  plan_cases : (P : Answer → Type 0) → P done → P (refused out_of_memory) → P (refused device_fault) → P (refused output_fault) → (answer : Answer)
      → Printed bench out text answer → P answer
  plan_cases P d m e o done printed = d
  plan_cases P d m e o (refused out_of_memory) printed = m
  plan_cases P d m e o (refused device_fault) printed = e
  plan_cases P d m e o (refused output_fault) printed = o
  plan_cases P d m e o (refused r) printed = absurd printed

  never_input : (answer : Answer) → Printed bench out text answer → fault_in answer ≡ Some input → ⊥
  never_input answer printed = plan_cases (λ a. fault_in a ≡ Some input → ⊥) (λ is. cc) (λ is. cc) (λ is. let same : device ≡ input = cc in cc)
      (λ is. let same : output ≡ input = cc in cc) answer printed

  planned_lawful : (inputs : InputsCall) (names : List (List ℕ)) (answer : Answer) → NoneFailed inputs
      → PlansCells bench out text answer → EndsLawfully on_files bench inputs out has_plan names answer
  planned_lawful inputs names answer same plans = record {
    kind = plan_cases (λ a. IsOf has_plan a) tt refl refl refl answer plans.printed;
    counts = record {
      inputs_count = unraised inputs.before.faults inputs.after.faults input answer same.faults (never_input answer plans.printed);
      store_count = unraised bench.before.store_faults bench.after.store_faults store answer plans.leaves.file.faults
          (never_store has_plan refl answer (plan_cases (λ a. IsOf has_plan a) tt refl refl refl answer plans.printed));
      device_count = plans.device_count;
      out_count = plans.out_count;
    };
    stands = plan_cases (λ a. PrintsNothing out a → StandsEarly on_files bench out a) (λ nothing. tt) (λ nothing. nothing) (λ nothing. tt)
        (λ nothing. tt) answer plans.printed plans.leaves.prints;
    untaken = λ name is. absurd (never_input answer plans.printed (ap fault_in is));
    none_failed = λ told no. same.failed told;
  }

  -- whatever the answer is, the text that is due was printed
  prints_due : (answer : Answer) → PrintsNothing out answer → Printed bench out text answer → IsTrue bench.tells
      → PrintsText out (text bench.after.cells) answer
  prints_due done nothing printed told = subst (λ (c : List ℕ). PrintsText out (text c) done) (sym (printed.surveyed told)) printed.prints
  prints_due (refused output_fault) nothing printed told =
      subst (λ (c : List ℕ). PrintsText out (text c) (refused output_fault)) (sym (printed.surveyed told)) printed.prints
  prints_due (refused out_of_memory) nothing printed told = nothing
  prints_due (refused device_fault) nothing printed told = nothing
  prints_due (refused r) nothing printed told = absurd printed

-- memory runs out before the cells are looked at
pub plans_nothing : (tells told : Bool) (b : BenchState) (o : SinkState) (text : List ℕ → List ℕ)
    → PlansCells (bench_call tells b b) (sink_call told o o) text (refused out_of_memory)
plans_nothing tells told b o text = record {
  leaves = record {
    prints = record { taken = refl; faults = refl };
    stands = cells_stay_here b;
    file = file_stays_here b;
    count = refl;
    stops = adds_nothing_here (cells_half b);
  };
  printed = tt;
  device_count = unraised b.device_faults b.device_faults device (refused out_of_memory) refl (λ is. cc);
  out_count = unraised o.faults o.faults output (refused out_of_memory) refl (λ is. cc);
}

module _ (bench : BenchCall) (told : Bool) (o : SinkState) (text : List ℕ → List ℕ) where
  -- the device fails
  pub plans_fault : (e : DeviceFault) → LooksAtCells {A = Unit {0}} bench (Err e) → PlansCells bench (sink_call told o o) text (refused device_fault)
  plans_fault e looks = record {
    leaves = record {
      prints = record { taken = refl; faults = refl };
      stands = looks.err;
      file = looks.file;
      count = looks.count;
      stops = looks.stops;
    };
    printed = tt;
    device_count = record { later = looks.cause.later; only = λ its. looks.cause.on_fault refl; answered = λ more. refl };
    out_count = unraised o.faults o.faults output (refused device_fault) refl (λ is. let same : device ≡ output = cc in cc);
  }

  module _ (after : SinkState) (cells : List ℕ) (all : length cells ≡ bench.before.cell_count) where
    -- the whole text is put
    pub plans_done : (v : Unit {0}) → LooksAtCells bench (Ok v) → (IsTrue bench.tells → bench.after.cells ≡ cells)
        → (u : Unit {0}) → Puts told o after (text cells) (Ok u) → PlansCells bench (sink_call told o after) text done
    plans_done v looks surveyed u puts = record {
      leaves = record { prints = tt; stands = looks.ok; file = looks.file; count = looks.count; stops = looks.stops };
      printed = record { cells = cells; all = all; surveyed = surveyed; prints = record { taken = puts.ok; faults = puts.cause.on_ok refl } };
      device_count = unraised bench.before.device_faults bench.after.device_faults device done (looks.cause.on_ok refl) (λ is. cc);
      out_count = unraised o.faults after.faults output done (puts.cause.on_ok refl) (λ is. cc);
    }

    -- a beginning of the text is put
    pub plans_cut : (v : Unit {0}) → LooksAtCells bench (Ok v) → (IsTrue bench.tells → bench.after.cells ≡ cells)
        → (e : OutputFault) → Puts told o after (text cells) (Err e) → PlansCells bench (sink_call told o after) text (refused output_fault)
    plans_cut v looks surveyed f puts = record {
      leaves = record { prints = tt; stands = looks.ok; file = looks.file; count = looks.count; stops = looks.stops };
      printed = record {
        cells = cells;
        all = all;
        surveyed = surveyed;
        prints = record { taken = puts.err; later = puts.cause.later; rose = puts.cause.on_fault refl };
      };
      device_count = unraised bench.before.device_faults bench.after.device_faults device (refused output_fault) (looks.cause.on_ok refl)
          (λ is. let same : output ≡ device = cc in cc);
      out_count = record { later = puts.cause.later; only = λ its. puts.cause.on_fault refl; answered = λ more. refl };
    }

-- The ends before the work on the cells.

module _ (tells told : Bool) (b : BenchState) (o : SinkState) (inputs : InputsCall) (asked : FilesAsked) where
  abbrev Bench : BenchCall
  Bench = bench_call tells b b

  abbrev Out : SinkCall
  Out = sink_call told o o

  abbrev Ends : Refusal → Type 0
  Ends r = PlanEnds asked Bench inputs Out (refused r)

  abbrev Holds : Refusal → FilesGiven → Aim → Type 0
  Holds r files = ShowsPlan Bench Out (refused r)

  abbrev Goes : Refusal → FilesGiven → Aim → Type 0
  Goes r files = IsDueForPlan Bench Out (refused r)

  leaves : (r : Refusal) → is_early r ≡ true → PlanLeaves Bench Out (refused r)
  leaves device_fault early = absurd (cc)
  leaves output_fault early = absurd (cc)
  leaves (differs at wanted found) early = absurd (cc)
  leaves r early = record {
    prints = record { taken = refl; faults = refl };
    stands = cells_stay_here b;
    file = file_stays_here b;
    count = refl;
    stops = adds_nothing_here (cells_half b);
  }

  due_yielding : (r : Refusal) → is_early r ≡ true → yields (refused r) ≡ true → (files : FilesGiven) (aim : Aim) → Goes r files aim
  due_yielding device_fault early its files aim = absurd (cc)
  due_yielding output_fault early its files aim = absurd (cc)
  due_yielding (differs at wanted found) early its files aim = absurd (cc)
  due_yielding r early its files aim = record {
    other_size = λ other. inr (its, did_nothing tells told b o);
    complete = λ same. inr its;
    planned = λ its_told same. record { taken = refl; faults = refl };
  }

  pub ends_untaken : (r : Refusal) → IsTakeFault inputs (names_in asked) r → Ends r
  ends_untaken out_of_memory is = record {
    lawful = untaken_lawful tells told b o inputs on_files has_plan (names_in asked) out_of_memory (did_nothing tells told b o) refl (λ name. refl) is;
    leaves = leaves out_of_memory refl;
    files = answers_yielding Bench inputs Out asked (Holds out_of_memory) (Goes out_of_memory) (refused out_of_memory) refl (did_nothing tells told b o)
        (due_yielding out_of_memory refl refl) tt;
  }
  ends_untaken (input_fault name) is = record {
    lawful = untaken_lawful tells told b o inputs on_files has_plan (names_in asked) (input_fault name) (did_nothing tells told b o) refl (λ name. refl) is;
    leaves = leaves (input_fault name) refl;
    files = answers_yielding Bench inputs Out asked (Holds (input_fault name)) (Goes (input_fault name)) (refused (input_fault name)) refl
        (did_nothing tells told b o) (due_yielding (input_fault name) refl refl) tt;
  }
  ends_untaken r is = absurd is

  module _ (files : FilesGiven) (are : AreFiles inputs asked files) (same : NoneFailed inputs) where
    -- the files are refused
    ends_refused : (r : Refusal) → has_plan r ≡ true → is_early r ≡ true → fault_in (refused r) ≡ None → IsRefused asked files r
        → ShowsFiles inputs asked (Holds r) (refused r) → Ends r
    ends_refused r has early no_fault is shows = record {
      lawful = plain_lawful tells told b o inputs on_files has_plan (names_in asked) r (did_nothing tells told b o) has same no_fault;
      leaves = leaves r early;
      files = answers_refused Bench inputs Out asked (Holds r) (Goes r) r files are is shows;
    }

    pub ends_unread : (r : Refusal) → IsFilesRefusal asked files r → Ends r
    ends_unread out_of_memory is = ends_untaken out_of_memory same
    ends_unread usage is = ends_refused usage refl refl refl is (record { files = files; are_files = are; holds = is })
    ends_unread (board_refused fault) is =
        ends_refused (board_refused fault) refl refl refl is (record { files = files; are_files = are; holds = is })
    ends_unread (flm_refused fault) is =
        ends_refused (flm_refused fault) refl refl refl is (record { files = files; are_files = are; holds = is })
    ends_unread (other_device base size) is =
        ends_refused (other_device base size) refl refl refl is (record { files = files; are_files = are; holds = is })
    ends_unread (no_room need have) is =
        ends_refused (no_room need have) refl refl refl is (record { files = files; are_files = are; holds = is })
    ends_unread (image_refused name fault) is =
        ends_refused (image_refused name fault) refl refl refl is (record { files = files; are_files = are; holds = is })
    ends_unread (image_misplaced fault) is =
        ends_refused (image_misplaced fault) refl refl refl is (record { files = files; are_files = are; holds = is })
    ends_unread r is = absurd is

    -- another number of cells
    pub ends_other_size : (wanted : Wanted) → IsAim asked.raw_at files (aim_of wanted) → size_of wanted.board.regions ≢ b.cell_count
        → Ends (cells_differ (size_of wanted.board.regions) b.cell_count)
    ends_other_size wanted is unequal =
        let r = cells_differ (size_of wanted.board.regions) b.cell_count in
        let aim = aim_of wanted in
        record {
          lawful = plain_lawful tells told b o inputs on_files has_plan (names_in asked) r (did_nothing tells told b o) refl same refl;
          leaves = leaves r refl;
          files = answers_worked Bench inputs Out asked (Holds r) (Goes r) (refused r) files aim are is
              (record {
                files = files;
                are_files = are;
                holds = record { aim = aim; is_aim = is; holds = record { wanted_is = refl; found_is = refl; unequal = unequal } };
              })
              (record {
                other_size = λ other. inl refl;
                complete = λ equal. absurd (unequal equal);
                planned = λ its_told equal. absurd (unequal equal);
              });
        }

-- An algorithm for each region.

devices_by : (b : board.Shown) (regions : List Region) (files : List (List ℕ)) (algorithms : List flm.Shown) → length files ≡ length regions
    → AreFor b regions files algorithms → AreDevices regions algorithms
devices_by b [] [] [] same are = tt
devices_by b [] [] (a ∷ more) same are = absurd are
devices_by b [] (f ∷ fs) algorithms same are = absurd (omega (arith, same))
devices_by b (r ∷ rs) [] algorithms same are = absurd (omega (arith, same))
devices_by b (r ∷ rs) (f ∷ fs) [] same are = absurd are
devices_by b (r ∷ rs) (f ∷ fs) (a ∷ more) same are = (are.0.fits.base_is, are.0.fits.size_is, devices_by b rs fs more (omega (arith, same)) are.1)

each_by : (regions : List Region) (algorithms : List flm.Shown) → AreDevices regions algorithms → length algorithms ≡ length regions
each_by [] [] devices = refl
each_by (r ∷ rs) (a ∷ more) devices = ap suc (each_by rs more devices.2)
each_by regions algorithms devices = absurd devices

-- there are as many FLM files as regions
as_many : (b : board.Shown) (regions : List Region) (first : Option (List ℕ)) (others : List (List ℕ)) (algorithms : List flm.Shown) → IsSome first
    → (IsSome first → length regions ≤ length others) → 0 < length regions
    → AreFor b regions (option_to_list first ++ take (others_of first regions) others) algorithms → AreDevices regions algorithms
as_many b regions None others algorithms some enough any are = absurd (cc)
as_many b regions (Some f) others algorithms some enough any are =
    let few = length-take-le (length regions - 1) others (omega (arith, enough some)) in
    devices_by b regions (f ∷ take (length regions - 1) others) algorithms (omega (arith, few, any)) are

pub devices_of : (raw_at : Option ℕ) (files : FilesGiven) (aim : Aim) → IsAim raw_at files aim → IsSome files.flm → 0 < length aim.board.regions
    → AreDevices aim.board.regions aim.algorithms
devices_of raw_at files aim is some any =
    as_many aim.board aim.board.regions files.flm files.images aim.algorithms some is.are_read.board.enough any is.are_read.algorithms

-- the devices have as many cells as the regions
pub device_cells : (regions : List Region) (algorithms : List flm.Shown) → AreDevices regions algorithms → cells_on algorithms ≡ size_of regions
device_cells [] [] devices = refl
device_cells (r ∷ rs) (a ∷ more) devices = omega (arith, size_of-cons r rs, devices.1, device_cells rs more devices.2)
device_cells regions algorithms devices = absurd devices

-- The end of the work on the cells.

module _ (bench : BenchCall) (inputs : InputsCall) (out : SinkCall) (asked : FilesAsked) (files : FilesGiven) (are : AreFiles inputs asked files)
    (wanted : Wanted)
    (is : IsAim asked.raw_at files (aim_of wanted)) (devices : AreDevices wanted.board.regions (map flm.shown wanted.algorithms.items))
    (cells : size_of wanted.board.regions ≡ bench.before.cell_count) where
  abbrev aim : Aim
  aim = aim_of wanted

  abbrev text : List ℕ → List ℕ
  text = text_of aim

  planned_is : (answer : Answer) → IsPrinted bench out text answer → IsPlanned bench out aim answer
  planned_is answer printed = record {
    size = cells;
    each = each_by aim.board.regions aim.algorithms devices;
    cells = printed.cells;
    all = printed.all ∙ sym cells;
    surveyed = printed.surveyed;
    prints = printed.prints;
  }

  planned_shows : (answer : Answer) → Printed bench out text answer → ShowsFiles inputs asked (λ files. ShowsPlan bench out answer) answer
  planned_shows done printed =
      record { files = files; are_files = are; holds = record { aim = aim; is_aim = is; holds = planned_is done printed } }
  planned_shows (refused out_of_memory) printed = tt
  planned_shows (refused device_fault) printed =
      record { files = files; are_files = are; holds = record { aim = aim; is_aim = is; holds = cells } }
  planned_shows (refused output_fault) printed =
      record { files = files; are_files = are; holds = record { aim = aim; is_aim = is; holds = planned_is (refused output_fault) printed } }
  planned_shows (refused r) printed = absurd printed

  planned_due : (answer : Answer) → PrintsNothing out answer → Printed bench out text answer → IsDueForPlan bench out answer aim
  planned_due answer nothing printed = record {
    other_size = λ other. absurd (other cells);
    complete = λ equal. plan_cases bench out text (λ a. IsUnless a done) (inl refl) (inr refl) (inr refl) (inr refl) answer printed;
    planned = λ told equal. prints_due bench out text answer nothing printed told;
  }

  pub ends_planned : NoneFailed inputs → (answer : Answer) → PlansCells bench out text answer → PlanEnds asked bench inputs out answer
  ends_planned same answer plans = record {
    lawful = planned_lawful bench out text inputs (names_in asked) answer same plans;
    leaves = plans.leaves;
    files = answers_worked bench inputs out asked (λ files. ShowsPlan bench out answer) (λ files. IsDueForPlan bench out answer) answer files aim are is
        (planned_shows answer plans.printed) (planned_due answer plans.leaves.prints plans.printed);
  }

-- The memory for the plans.

parts_more : (algorithms : List flm.Shown) (start : ℕ) (parts : List RegionPlan) (a : flm.Shown) (p : RegionPlan) → AreParts algorithms start parts →
    IsRegionPlanFor a p
    → p.start ≡ start + cells_on algorithms
    → AreParts (algorithms ++ a ∷ []) start (parts ++ p ∷ [])
parts_more [] start [] a p are is at = let here : p.start ≡ start = omega (arith, at) in (is, here, tt)
parts_more (b ∷ algorithms) start (q ∷ parts) a p are is at =
    let behind : p.start ≡ start + b.device.size + cells_on algorithms = omega (arith, at) in
    (are.0, are.1, parts_more algorithms (start + b.device.size) parts a p are.2 is behind)
parts_more algorithms start parts a p are is at = absurd are

cells_more : (algorithms : List flm.Shown) (a : flm.Shown) → cells_on (algorithms ++ a ∷ []) ≡ cells_on algorithms + a.device.size
cells_more [] a = omega arith
cells_more (b ∷ algorithms) a = omega (arith, cells_more algorithms a)

cells_within : (n : ℕ) (algorithms : List Algorithm) → cells_on (map flm.shown (take n algorithms)) ≤ cells_on (map flm.shown algorithms)
cells_within (suc n) (a ∷ algorithms) = omega (arith, cells_within n algorithms)
cells_within n algorithms = omega arith

one_more : (algorithms : List Algorithm) (i : ℕ) (a : Algorithm) → i < length algorithms → a ≡ get_or algorithms i a
    → map flm.shown (take (i + 1) algorithms) ≡ map flm.shown (take i algorithms) ++ flm.shown a ∷ []
one_more algorithms i a less is =
    ap (λ (l : List Algorithm). map flm.shown l) (take_more algorithms i a less ∙ ap (λ (x : Algorithm). take i algorithms ++ x ∷ []) (sym is))
    ∙ map-append flm.shown (take i algorithms) (a ∷ [])

-- the memory for the first algorithms was taken
pub record TakenTo (algorithms : List Algorithm) (parts : List RegionPlan) (start i : ℕ) : Type 0 where
  pub are : AreParts (map flm.shown (take i algorithms)) 0 parts
  pub start_is : start ≡ cells_on (map flm.shown (take i algorithms))

module _ (algorithms : List Algorithm) (parts : List RegionPlan) (start i : ℕ) (a : Algorithm) (so_far : TakenTo algorithms parts start i)
    (less : i < length algorithms) (is : a ≡ get_or algorithms i a) where
  pub taken_more : (p : RegionPlan) → IsRegionPlanFor (flm.shown a) p → p.start ≡ start → TakenTo algorithms (parts ++ p ∷ []) (start + a.device.size) (i + 1)
  taken_more p for_it at =
      let before = map flm.shown (take i algorithms) in
      let here : p.start ≡ 0 + cells_on before = omega (arith, at, so_far.start_is) in
      record {
        are = subst (λ (l : List flm.Shown). AreParts l 0 (parts ++ p ∷ [])) (sym (one_more algorithms i a less is))
            (parts_more before 0 parts (flm.shown a) p so_far.are for_it here);
        start_is = omega (arith, so_far.start_is, ap cells_on (one_more algorithms i a less is), cells_more before (flm.shown a));
      }

  -- a region ends within all cells
  pub ends_within : start + a.device.size ≤ cells_on (map flm.shown algorithms)
  ends_within = omega (
    arith,
    so_far.start_is,
    ap cells_on (one_more algorithms i a less is),
    cells_more (map flm.shown (take i algorithms)) (flm.shown a),
    cells_within (i + 1) algorithms,
  )

pub taken_all : (algorithms : List Algorithm) (parts : List RegionPlan) (start i : ℕ) → TakenTo algorithms parts start i → length algorithms ≤ i
    → AreParts (map flm.shown algorithms) 0 parts
taken_all algorithms parts start i so_far past = subst (λ (l : List Algorithm). AreParts (map flm.shown l) 0 parts) (take_all i algorithms past) so_far.are

-- The survey.

pub many_parts : (algorithms : List Algorithm) (start : ℕ) (parts : List RegionPlan) → AreParts (map flm.shown algorithms) start parts
    → length parts ≡ length algorithms
many_parts [] start [] are = refl
many_parts (a ∷ algorithms) start (p ∷ parts) are = ap suc (many_parts algorithms (start + a.device.size) parts are.2)
many_parts algorithms start parts are = absurd are

-- a plan is one by an algorithm, for cells within all cells
pub record IsOneOf (a : flm.Shown) (p : RegionPlan) (end : ℕ) : Type 0 where
  pub is : IsRegionPlanFor a p
  pub inside : p.start + a.device.size ≤ end

pub part_at : (algorithms : List Algorithm) (start : ℕ) (parts : List RegionPlan) (i : ℕ) (d : Algorithm) (e : RegionPlan) → i < length parts
    → AreParts (map flm.shown algorithms) start parts
    → IsOneOf (flm.shown (get_or algorithms i d)) (get_or parts i e) (start + cells_on (map flm.shown algorithms))
part_at [] start [] i d e less are = absurd (omega (arith, less))
part_at (a ∷ algorithms) start (p ∷ parts) zero d e less are = record { is = are.0; inside = omega (arith, are.1) }
part_at (a ∷ algorithms) start (p ∷ parts) (suc i) d e less are =
    let rest = part_at algorithms (start + a.device.size) parts i d e (omega (arith, less)) are.2 in
    record { is = rest.is; inside = omega (arith, rest.inside) }
part_at algorithms start parts i d e less are = absurd are

parts_set : (algorithms : List Algorithm) (start : ℕ) (parts : List RegionPlan) (i : ℕ) (d : Algorithm) (e p : RegionPlan) → i < length parts
    → AreParts (map flm.shown algorithms) start parts
    → IsRegionPlanFor (flm.shown (get_or algorithms i d)) p → p.start ≡ (get_or parts i e).start → AreParts (map flm.shown algorithms) start (set parts i p)
parts_set [] start [] i d e p less are is at = absurd (omega (arith, less))
parts_set (a ∷ algorithms) start (q ∷ parts) zero d e p less are is at = (is, at ∙ are.1, are.2)
parts_set (a ∷ algorithms) start (q ∷ parts) (suc i) d e p less are is at =
    (are.0, are.1, parts_set algorithms (start + a.device.size) parts i d e p (omega (arith, less)) are.2 is at)
parts_set algorithms start parts i d e p less are is at = absurd are

module _ (tells : Bool) (weights : Weights) (image : List Run) where
  plan_still : (all cells : List ℕ) (a : flm.Shown) (p : RegionPlan) → (IsTrue tells → all ≡ cells) → IsPlannedOver tells weights image all a p
      → IsPlannedOver tells weights image cells a p
  plan_still all cells a p same is = record {
    cells = is.cells;
    long = is.long;
    told = λ told. is.told told ∙ ap (λ (l : List ℕ). take a.device.size (drop p.start l)) (same told);
    plan = is.plan;
  }

  plans_still : (all cells : List ℕ) (algorithms : List flm.Shown) (parts : List RegionPlan) → (IsTrue tells → all ≡ cells)
      → ArePlanned tells weights image all algorithms parts
      → ArePlanned tells weights image cells algorithms parts
  plans_still all cells [] [] same are = tt
  plans_still all cells (a ∷ algorithms) (p ∷ parts) same are = (plan_still all cells a p same are.0, plans_still all cells algorithms parts same are.1)
  plans_still all cells algorithms parts same are = absurd are

  -- the plans stay right while the cells are only read
  pub plans_since : {T E : Type 0} (r : Result T E) (all cells : List ℕ) (algorithms : List flm.Shown) (parts : List RegionPlan) → (IsTrue tells → cells ≡ all)
      → OnOk r (ArePlanned tells weights image all algorithms parts) → OnOk r (ArePlanned tells weights image cells algorithms parts)
  plans_since (Ok v) all cells algorithms parts same are = plans_still all cells algorithms parts (λ told. sym (same told)) are
  plans_since (Err e) all cells algorithms parts same are = tt

  plans_more : (all : List ℕ) (algorithms : List flm.Shown) (parts : List RegionPlan) (a : flm.Shown) (p : RegionPlan) →
      ArePlanned tells weights image all algorithms parts
      → IsPlannedOver tells weights image all a p → ArePlanned tells weights image all (algorithms ++ a ∷ []) (parts ++ p ∷ [])
  plans_more all [] [] a p are is = (is, tt)
  plans_more all (b ∷ algorithms) (q ∷ parts) a p are is = (are.0, plans_more all algorithms parts a p are.1 is)
  plans_more all algorithms parts a p are is = absurd are

  -- the first regions were surveyed
  pub record SurveyedTo (algorithms : List Algorithm) (before now : BenchState) (parts : List RegionPlan) (i : ℕ) : Type 0 where
    pub are : AreParts (map flm.shown algorithms) 0 parts
    pub plans : ArePlanned tells weights image before.cells (map flm.shown (take i algorithms)) (take i parts)
    pub reads : OnlyReadsCells tells before now
    pub faults : now.device_faults ≡ before.device_faults

  pub surveyed_none : (algorithms : List Algorithm) (s : BenchState) (parts : List RegionPlan) → AreParts (map flm.shown algorithms) 0 parts
      → SurveyedTo algorithms s s parts 0
  surveyed_none algorithms s parts are = record { are = are; plans = tt; reads = only_reads_cells_here tells s; faults = refl }

  module _ (algorithms : List Algorithm) (before now later : BenchState) (parts : List RegionPlan) (i : ℕ) (a : Algorithm) (old new : RegionPlan)
      (so_far : SurveyedTo algorithms before now parts i) (less : i < length parts)
      (is : a ≡ get_or algorithms i a) (was : old ≡ get_or parts i old) where
    pub surveyed_more : IsRegionPlanFor (flm.shown a) new → new.start ≡ old.start → IsPlannedOver tells weights image now.cells (flm.shown a) new
        → OnlyReadsCells tells now later
        → later.device_faults ≡ now.device_faults → SurveyedTo algorithms before later (set parts i new) (i + 1)
    surveyed_more for_it at plan reads faults =
        let within : i < length algorithms = omega (arith, less, many_parts algorithms 0 parts so_far.are) in
        let more = plans_more before.cells (map flm.shown (take i algorithms)) (take i parts) (flm.shown a) new so_far.plans
        (plan_still now.cells before.cells (flm.shown a) new so_far.reads.cells plan) in
        record {
          are = parts_set algorithms 0 parts i a old new less so_far.are (subst (λ (x : Algorithm). IsRegionPlanFor (flm.shown x) new) is for_it)
              (at ∙ ap (λ (p : RegionPlan). p.start) was);
          plans = subst (λ (l : List flm.Shown). ArePlanned tells weights image before.cells l (take (i + 1) (set parts i new)))
              (sym (one_more algorithms i a within is))
              (subst (λ (l : List RegionPlan). ArePlanned tells weights image before.cells (map flm.shown (take i algorithms) ++ flm.shown a ∷ []) l)
              (sym (take_more_set parts i new less)) more);
          reads = only_reads_cells_then so_far.reads reads;
          faults = faults ∙ so_far.faults;
        }

    pub one_of : IsOneOf (flm.shown a) old (cells_on (map flm.shown algorithms))
    one_of =
        let end = cells_on (map flm.shown algorithms) in
        let one = part_at algorithms 0 parts i a old less so_far.are in
        let its = subst (λ (x : Algorithm). IsOneOf (flm.shown x) old (0 + end)) (sym is)
        (subst (λ (p : RegionPlan). IsOneOf (flm.shown (get_or algorithms i a)) p (0 + end)) (sym was) one) in
        record { is = its.is; inside = omega (arith, its.inside) }

  pub surveyed_all : (algorithms : List Algorithm) (before now : BenchState) (parts : List RegionPlan) (i : ℕ) → SurveyedTo algorithms before now parts i
      → length parts ≤ i
      → ArePlanned tells weights image before.cells (map flm.shown algorithms) parts
  surveyed_all algorithms before now parts i so_far past =
      subst (λ (l : List Algorithm). ArePlanned tells weights image before.cells (map flm.shown l) parts)
      (take_all i algorithms (omega (arith, past, many_parts algorithms 0 parts so_far.are)))
      (subst (λ (l : List RegionPlan). ArePlanned tells weights image before.cells (map flm.shown (take i algorithms)) l) (take_all i parts past) so_far.plans)

-- The text that is printed.

next_cells : (start n m : ℕ) (all : List ℕ) → take n (drop start all) ++ take m (drop (start + n) all) ≡ take (n + m) (drop start all)
next_cells start n m all = ap (λ (l : List ℕ). take n (drop start all) ++ take m l) (sym (drop-drop n start all)) ∙ sym (take-add n m (drop start all))

abbrev told_of : RegionPlan → ℕ × List ℕ
told_of p = (p.base, plan_text p.geometry p.base p.plan.made)

module _ (tells : Bool) (weights : Weights) (image : List Run) (all : List ℕ) where
  -- the text of the plan of a region
  one_text : (r : Region) (a : flm.Shown) (p : RegionPlan) → a.device.base ≡ r.base → IsRegionPlanFor a p → (is : IsPlannedOver tells weights image all a p)
      → plan_text p.geometry p.base p.plan.made ≡ text_for weights a image r.base is.cells
  one_text r a p base part is =
      let chip = is_some a.entries.erase_chip in
      let empty = a.device.empty in
      ap (λ (m : Chosen). plan_text p.geometry p.base m) is.plan.chosen
      ∙ ap (λ (l : Geometry). plan_text l p.base (chosen l weights chip empty is.cells (over image a.device.base is.cells))) part.layout
      ∙ ap (λ (n : ℕ). plan_text (device_of a) n (chosen (device_of a) weights chip empty is.cells (over image a.device.base is.cells))) (part.base ∙ base)
      ∙ ap (λ (n : ℕ). plan_text (device_of a) r.base (chosen (device_of a) weights chip empty is.cells (over image n is.cells))) base

  -- the plans are those of some cells, from a place on
  pub record AreOf (regions : List Region) (algorithms : List flm.Shown) (start : ℕ) (parts : List RegionPlan) : Type 0 where
    pub cells : List ℕ
    pub long : length cells ≡ size_of regions
    pub told : IsTrue tells → cells ≡ take (size_of regions) (drop start all)
    pub texts : map told_of parts ≡ plans_for weights image regions algorithms cells

  are_of : (regions : List Region) (algorithms : List flm.Shown) (start : ℕ) (parts : List RegionPlan) → AreDevices regions algorithms
      → AreParts algorithms start parts
      → ArePlanned tells weights image all algorithms parts → AreOf regions algorithms start parts
  are_of [] [] start [] devices are plans = record { cells = []; long = refl; told = λ told. refl; texts = refl }
  are_of [] [] start (p ∷ parts) devices are plans = absurd are
  are_of [] (a ∷ algorithms) start parts devices are plans = absurd devices
  are_of (r ∷ regions) [] start parts devices are plans = absurd devices
  are_of (r ∷ regions) (a ∷ algorithms) start [] devices are plans = absurd are
  are_of (r ∷ regions) (a ∷ algorithms) start (p ∷ parts) devices are plans =
      let one = plans.0 in
      let rest = are_of regions algorithms (start + a.device.size) parts devices.2 are.2 plans.1 in
      let total = size_of-cons r regions in
      let size = devices.1 in
      let base = are.0.base ∙ devices.0 in
      let whole : a.device.size + size_of regions ≡ size_of (r ∷ regions) = omega (arith, size, total) in
      record {
        cells = one.cells ++ rest.cells;
        long = omega (arith, length-append one.cells rest.cells, one.long, rest.long, whole);
        told = λ told.
            ap (λ (l : List ℕ). l ++ rest.cells) (one.told told ∙ ap (λ (k : ℕ). take a.device.size (drop k all)) are.1)
            ∙ ap (λ (l : List ℕ). take a.device.size (drop start all) ++ l) (rest.told told)
            ∙ next_cells start a.device.size (size_of regions) all
            ∙ ap (λ (k : ℕ). take k (drop start all)) whole;
        texts =
            ap (λ (t : List ℕ). (p.base, t) ∷ map told_of parts) (one_text r a p devices.0 are.0 one)
            ∙ ap (λ (n : ℕ). (n, text_for weights a image r.base one.cells) ∷ map told_of parts) base
            ∙ ap (λ (l : List ℕ). (r.base, text_for weights a image r.base l) ∷ map told_of parts) (sym (take_at one.cells rest.cells r.size (one.long ∙ size)))
            ∙ ap (λ (l : List (ℕ × List ℕ)). (r.base, text_for weights a image r.base (take r.size (one.cells ++ rest.cells))) ∷ l)
            (rest.texts ∙ ap (λ (l : List ℕ). plans_for weights image regions algorithms l) (sym (drop_at one.cells rest.cells r.size (one.long ∙ size))));
      }

module _ (tells : Bool) (wanted : Wanted) (s : BenchState) (parts : List RegionPlan)
    (devices : AreDevices wanted.board.regions (map flm.shown wanted.algorithms.items))
    (are : AreParts (map flm.shown wanted.algorithms.items) 0 parts)
    (plans : ArePlanned tells wanted.board.weights wanted.image s.cells (map flm.shown wanted.algorithms.items) parts) where
  -- the cells, as they were read
  pub read_of : AreOf tells wanted.board.weights wanted.image s.cells wanted.board.regions (map flm.shown wanted.algorithms.items) 0 parts
  read_of = are_of tells wanted.board.weights wanted.image s.cells wanted.board.regions (map flm.shown wanted.algorithms.items) 0 parts devices are plans

  -- where the bench tells its cells, these are the cells that were read
  pub read_told : (IsTrue tells → length s.cells ≡ size_of wanted.board.regions) → IsTrue tells → s.cells ≡ read_of.cells
  read_told all told = sym (read_of.told told ∙ take_all (size_of wanted.board.regions) s.cells (omega (arith, all told)))

  pub read_text : parts_text parts ≡ text_of (aim_of wanted) read_of.cells
  read_text = ap (λ (l : List (ℕ × List ℕ)). plans_text l) read_of.texts

pub parts_end : (algorithms : List flm.Shown) (start : ℕ) (parts : List RegionPlan) → AreParts algorithms start parts
    → All (λ p. p.base + p.geometry.size ≤ 2 ^ 32) parts
parts_end [] start [] are = All-nil (λ (p : RegionPlan). p.base + p.geometry.size ≤ 2 ^ 32)
parts_end (a ∷ algorithms) start (p ∷ parts) are =
    All-cons (λ (p : RegionPlan). p.base + p.geometry.size ≤ 2 ^ 32) p parts are.0.end (parts_end algorithms (start + a.device.size) parts are.2)
parts_end algorithms start parts are = absurd are

named_texts : (parts : List RegionPlan) → flat_map (λ (p : RegionPlan). part_text true p) parts ≡ flat_map (λ (plan : ℕ × List ℕ). region_text plan.0 ++ plan.1)
    (map told_of parts)
named_texts [] = refl
named_texts (p ∷ parts) = ap (λ (l : List ℕ). part_text true p ++ l) (named_texts parts)

-- the texts of all plans, one after the other
pub all_texts : (parts : List RegionPlan) → flat_map (λ (p : RegionPlan). part_text (nat_lt 1 (length parts)) p) parts ≡ parts_text parts
all_texts [] = refl
all_texts (p ∷ []) = append-nil (part_text false p)
all_texts (p ∷ q ∷ parts) =
    let many = lt-ltb 1 (length (p ∷ q ∷ parts)) (omega arith) in
    ap (λ (b : Bool). flat_map (λ (x : RegionPlan). part_text b x) (p ∷ q ∷ parts)) many ∙ named_texts (p ∷ q ∷ parts)
