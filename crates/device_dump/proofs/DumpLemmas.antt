-- From the steps of `dump` to its end. Each step that may end `dump` has its lemma.
use Rattle.std.proofs.Common.{◌≡◌, ◌≢◌, ◌<◌, ◌∙◌, sym, ap, subst, refl, arith, inl, inr, ℕ, Bool, true, IsTrue, List, [], ◌∷◌, ◌++◌, length}
use Rattle.std.proofs.Common.{take, drop, Some, Ok, Err}
use Rattle.std.proofs.lemmas.List.{take_all, take-append-le}
use Rattle.std.specs.List.{All}
use Rattle.bench_model.specs.State.{BenchState, cells_half}
use Rattle.bench_model.specs.declared.bench_fault.DeviceFault.{DeviceFault}
use Rattle.bench_model.proofs.Moments.{adds_nothing_here, file_stays_here, cells_stay_here}
use Rattle.outside_io.specs.Puts.{Puts}
use Rattle.outside_io.specs.State.{SinkState}
use Rattle.outside_io.specs.declared.sink.OutputFault.{OutputFault}
use Rattle.board_file.specs.declared.fault.BoardFault.{BoardFault}
use Rattle.board_file.specs.Limits.{size_of}
use Rattle.board_file.specs.declared.region.Region.{Region}
use Rattle.board_file.specs.Shown as board
use Rattle.board_file.specs.Text.{reading, IsBoard}
use Rattle.byte_map.specs.Image.{Run}
use Rattle.report_text.specs.Refusal.{Refusal, out_of_memory, input_fault, board_refused, cells_differ, device_fault, output_fault}
use Rattle.command_words.specs.declared.command.TextForm.{TextForm}
use Rattle.command_files.specs.Inputs.{InputsCall, IsFile, NoneFailed}
use Rattle.command_files.specs.Steps.{IsTakeFault, IsBoardRefusal}
use Rattle.command_files.specs.Call.{BenchCall, SinkCall, Answer, done, refused, bench_call, sink_call}
use Rattle.command_files.specs.Said.{PrintsText}
use Rattle.command_files.specs.Answered.{input, store, device, output, fault_in, yields, IsUnless, StandsEarly, IsOf, EndsLawfully, on_files}
use Rattle.command_files.proofs.AnswerLemmas.{unraised, never_store, did_nothing, plain_lawful, untaken_lawful, one_file}
use Rattle.device_dump.specs.CellMaps.{IsMapOfCells}
use Rattle.device_dump.specs.Dump.{text_in, StandsBehind, DumpLeaves, ComesOfBoard, IsDueForBoard, DumpEnds, has_dump}
use Rattle.device_dump.specs.Looks.{LooksAtCells, PrintsNothing}
use Rattle.device_dump.specs.Steps.{Dumped, DumpsCells, IsPut, PutsCells}
use Rattle.device_dump.proofs.CellLemmas.{one_map}

-- The work on the cells.

module _ (form : TextForm) (regions : List Region) where
  module _ (bench : BenchCall) (out : SinkCall) where
    dump_cases : (P : Answer → Type 0) → P done → P (refused out_of_memory) → P (refused device_fault) → P (refused output_fault) → (answer : Answer)
        → Dumped form regions bench out answer → P answer
    dump_cases P d m e o done dumped = d
    dump_cases P d m e o (refused out_of_memory) dumped = m
    dump_cases P d m e o (refused device_fault) dumped = e
    dump_cases P d m e o (refused output_fault) dumped = o
    dump_cases P d m e o (refused r) dumped = absurd dumped

    never_input : (answer : Answer) → Dumped form regions bench out answer → fault_in answer ≡ Some input → ⊥
    never_input answer dumped = dump_cases (λ a. fault_in a ≡ Some input → ⊥) (λ is. cc) (λ is. cc) (λ is. let same : device ≡ input = cc in cc)
        (λ is. let same : output ≡ input = cc in cc) answer dumped

    dumped_lawful : (inputs : InputsCall) (names : List (List ℕ)) (answer : Answer) → NoneFailed inputs
        → DumpsCells form regions bench out answer → EndsLawfully on_files bench inputs out has_dump names answer
    dumped_lawful inputs names answer same dumps = record {
      kind = dump_cases (λ a. IsOf has_dump a) tt refl refl refl answer dumps.dumped;
      counts = record {
        inputs_count = unraised inputs.before.faults inputs.after.faults input answer same.faults (never_input answer dumps.dumped);
        store_count = unraised bench.before.store_faults bench.after.store_faults store answer dumps.leaves.file.faults
            (never_store has_dump refl answer (dump_cases (λ a. IsOf has_dump a) tt refl refl refl answer dumps.dumped));
        device_count = dumps.device_count;
        out_count = dumps.out_count;
      };
      stands = dump_cases (λ a. PrintsNothing out a → StandsEarly on_files bench out a) (λ nothing. tt) (λ nothing. nothing) (λ nothing. tt)
          (λ nothing. tt) answer
          dumps.dumped dumps.leaves.prints;
      untaken = λ name is. absurd (never_input answer dumps.dumped (ap fault_in is));
      none_failed = λ told no. same.failed told;
    }

    -- with every answer, what is due to be printed is printed
    prints_due : (answer : Answer) (map : List Run) → PrintsNothing out answer → Dumped form regions bench out answer → IsTrue bench.tells
        → IsMapOfCells regions bench.after.cells map → PrintsText out (text_in form map) answer
    prints_due done map nothing dumped told is =
        let same : dumped.map ≡ map = one_map regions dumped.cells dumped.map map dumped.is_map
        (subst (λ (c : List ℕ). IsMapOfCells regions c map) (dumped.surveyed told) is) in
        subst (λ (m : List Run). PrintsText out (text_in form m) done) same dumped.prints
    prints_due (refused output_fault) map nothing dumped told is =
        let same : dumped.map ≡ map = one_map regions dumped.cells dumped.map map dumped.is_map
        (subst (λ (c : List ℕ). IsMapOfCells regions c map) (dumped.surveyed told) is) in
        subst (λ (m : List Run). PrintsText out (text_in form m) (refused output_fault)) same dumped.prints
    prints_due (refused out_of_memory) map nothing dumped told is = nothing
    prints_due (refused device_fault) map nothing dumped told is = nothing
    prints_due (refused r) map nothing dumped told is = absurd dumped

  -- out of memory, before the cells are looked at
  pub dumps_nothing : (tells told : Bool) (b : BenchState) (o : SinkState)
      → DumpsCells form regions (bench_call tells b b) (sink_call told o o) (refused out_of_memory)
  dumps_nothing tells told b o = record {
    leaves = record {
      prints = record { taken = refl; faults = refl };
      stands = inl (cells_stay_here b);
      file = file_stays_here b;
      count = refl;
      stops = adds_nothing_here (cells_half b);
    };
    dumped = tt;
    device_count = unraised b.device_faults b.device_faults device (refused out_of_memory) refl (λ is. cc);
    out_count = unraised o.faults o.faults output (refused out_of_memory) refl (λ is. cc);
  }

  module _ (bench : BenchCall) (told : Bool) (o : SinkState) where
    -- the device fails
    pub dumps_fault : (e : DeviceFault) → LooksAtCells {A = Unit {0}} bench (Err e) → DumpsCells form regions bench (sink_call told o o) (refused device_fault)
    dumps_fault e looks = record {
      leaves = record {
        prints = record { taken = refl; faults = refl };
        stands = looks.err;
        file = looks.file;
        count = looks.count;
        stops = looks.stops;
      };
      dumped = tt;
      device_count = record { later = looks.cause.later; only = λ its. looks.cause.on_fault refl; answered = λ more. refl };
      out_count = unraised o.faults o.faults output (refused device_fault) refl (λ is. let same : device ≡ output = cc in cc);
    }

  -- the cells were read, and put
  module _ (bench : BenchCall) (out : SinkCall) (cells : List ℕ) where
    pub dumps_put : (u : Unit {0}) → LooksAtCells bench (Ok u) → (IsTrue bench.tells → bench.after.cells ≡ cells)
        → (answer : Answer) → PutsCells form regions cells out answer → DumpsCells form regions bench out answer
    dumps_put u looks surveyed done puts = record {
      leaves = record { prints = tt; stands = looks.ok; file = looks.file; count = looks.count; stops = looks.stops };
      dumped = record {
        cells = cells;
        bytes = puts.bytes;
        all = puts.all;
        surveyed = surveyed;
        map = puts.map;
        is_map = puts.is_map;
        prints = puts.prints;
      };
      device_count = unraised bench.before.device_faults bench.after.device_faults device done (looks.cause.on_ok refl) (λ is. cc);
      out_count = unraised out.before.faults out.after.faults output done puts.prints.faults (λ is. cc);
    }
    dumps_put u looks surveyed (refused output_fault) puts = record {
      leaves = record { prints = tt; stands = looks.ok; file = looks.file; count = looks.count; stops = looks.stops };
      dumped = record {
        cells = cells;
        bytes = puts.bytes;
        all = puts.all;
        surveyed = surveyed;
        map = puts.map;
        is_map = puts.is_map;
        prints = puts.prints;
      };
      device_count = unraised bench.before.device_faults bench.after.device_faults device (refused output_fault) (looks.cause.on_ok refl)
          (λ is. let same : output ≡ device = cc in cc);
      out_count = record { later = puts.prints.later; only = λ its. puts.prints.rose; answered = λ more. refl };
    }
    dumps_put u looks surveyed (refused out_of_memory) puts = record {
      leaves = record { prints = puts; stands = inr looks.ok; file = looks.file; count = looks.count; stops = looks.stops };
      dumped = tt;
      device_count = unraised bench.before.device_faults bench.after.device_faults device (refused out_of_memory) (looks.cause.on_ok refl) (λ is. cc);
      out_count = unraised out.before.faults out.after.faults output (refused out_of_memory) puts.faults (λ is. cc);
    }
    dumps_put u looks surveyed (refused r) puts = absurd puts

-- The text of the map is put, whole or in part.
module _ (form : TextForm) (regions : List Region) (cells : List ℕ) (map : List Run) (told : Bool) (o after : SinkState)
    (bytes : All (λ byte. byte < 256) cells)
    (all : length cells ≡ size_of regions) (is_map : IsMapOfCells regions cells map) where
  pub put_done : (u : Unit {0}) → Puts told o after (text_in form map) (Ok u) → IsPut form regions cells (sink_call told o after) done
  put_done u puts = record { bytes = bytes; all = all; map = map; is_map = is_map; prints = record { taken = puts.ok; faults = puts.cause.on_ok refl } }

  pub put_cut : (e : OutputFault) → Puts told o after (text_in form map) (Err e) → IsPut form regions cells (sink_call told o after) (refused output_fault)
  put_cut e puts = record {
    bytes = bytes;
    all = all;
    map = map;
    is_map = is_map;
    prints = record { taken = puts.err; later = puts.cause.later; rose = puts.cause.on_fault refl };
  }

-- a vector holds what was written through a slice of it
pub written_back : (len : ℕ) (new old : List ℕ) → len ≡ length new → take len (new ++ drop (length new) old) ≡ new
written_back len new old same = take-append-le len new (drop (length new) old) (omega arith) ∙ take_all len new (omega arith)

-- The exits before the work on the cells.

module _ (form : TextForm) (name : List ℕ) (tells told : Bool) (b : BenchState) (o : SinkState) (inputs : InputsCall) where
  abbrev Bench : BenchCall
  Bench = bench_call tells b b

  abbrev Out : SinkCall
  Out = sink_call told o o

  leaves : (answer : Answer) → PrintsNothing Out answer → StandsBehind Bench answer → DumpLeaves Bench Out answer
  leaves answer nothing stands = record {
    prints = nothing;
    stands = stands;
    file = file_stays_here b;
    count = refl;
    stops = adds_nothing_here (cells_half b);
  }

  due_yielding : (answer : Answer) → yields answer ≡ true → ((text : List ℕ) → PrintsText Out text answer) → (text : List ℕ)
      → IsDueForBoard form Bench Out answer text
  due_yielding answer its prints text = record {
    refuses = λ fault is. inr (its, did_nothing tells told b o);
    other_count = λ board is other. inr (its, did_nothing tells told b o);
    complete = λ board is same. inr its;
    dumped = λ board map is same told is_map. prints (text_in form map);
  }

  pub ends_untaken : (r : Refusal) → IsTakeFault inputs (name ∷ []) r → DumpEnds form name Bench inputs Out (refused r)
  ends_untaken out_of_memory is = record {
    lawful = untaken_lawful tells told b o inputs on_files has_dump (name ∷ []) out_of_memory (did_nothing tells told b o) refl (λ other. refl) is;
    leaves = leaves (refused out_of_memory) (record { taken = refl; faults = refl }) (inl (cells_stay_here b));
    comes = tt;
    due = λ text its stands. due_yielding (refused out_of_memory) refl (λ t. record { taken = refl; faults = refl }) text;
  }
  ends_untaken (input_fault other) is = record {
    lawful = untaken_lawful tells told b o inputs on_files has_dump (name ∷ []) (input_fault other) (did_nothing tells told b o) refl (λ n. refl) is;
    leaves = leaves (refused (input_fault other)) (record { taken = refl; faults = refl }) (cells_stay_here b);
    comes = tt;
    due = λ text its stands. due_yielding (refused (input_fault other)) refl (λ t. record { taken = refl; faults = refl }) text;
  }
  ends_untaken r is = absurd is

  module _ (text : List ℕ) (file : IsFile inputs name text) (same : NoneFailed inputs) where
    -- what is due for the text of the file is due for the one under the name
    due_here : (answer : Answer) → IsDueForBoard form Bench Out answer text → (other : List ℕ) → IsTrue inputs.tells → inputs.before.stands name ≡ Some other
        → IsDueForBoard form Bench Out answer other
    due_here answer due other its stands = subst (λ (t : List ℕ). IsDueForBoard form Bench Out answer t) (one_file inputs name other text its stands file) due

    -- the text isn't that of a board
    refused_due : (fault : BoardFault) → reading text ≡ Err fault → IsDueForBoard form Bench Out (refused (board_refused fault)) text
    refused_due fault is = record {
      refuses = λ other also. let both : fault ≡ other = cc in inl (cc);
      other_count = λ board its other. absurd (cc);
      complete = λ board its other. absurd (cc);
      dumped = λ board map its other told is_map. absurd (cc);
    }

    pub ends_unread : (r : Refusal) → IsBoardRefusal text r → DumpEnds form name Bench inputs Out (refused r)
    ends_unread out_of_memory is = ends_untaken out_of_memory same
    ends_unread (board_refused fault) is = record {
      lawful = plain_lawful tells told b o inputs on_files has_dump (name ∷ []) (board_refused fault) (did_nothing tells told b o) refl same refl;
      leaves = leaves (refused (board_refused fault)) (record { taken = refl; faults = refl }) (cells_stay_here b);
      comes = record { text = text; file = file; refuses = is };
      due = due_here (refused (board_refused fault)) (refused_due fault is);
    }
    ends_unread r is = absurd is

    module _ (its : board.Shown) (is : IsBoard text its) where
      -- the bench has another number of cells than the board
      differs_due : size_of its.regions ≢ b.cell_count → IsDueForBoard form Bench Out (refused (cells_differ (size_of its.regions) b.cell_count)) text
      differs_due unequal = record {
        refuses = λ fault wrong. absurd (cc);
        other_count = λ other also differs. let both : its ≡ other = cc in
            inl (ap (λ (s : board.Shown). refused (cells_differ (size_of s.regions) b.cell_count)) both);
        complete = λ other also equal. let both : its ≡ other = cc in
            absurd (unequal (ap (λ (s : board.Shown). size_of s.regions) both ∙ equal));
        dumped = λ other map also equal told is_map. let both : its ≡ other = cc in
            absurd (unequal (ap (λ (s : board.Shown). size_of s.regions) both ∙ equal));
      }

      pub ends_other_count : size_of its.regions ≢ b.cell_count
          → DumpEnds form name Bench inputs Out (refused (cells_differ (size_of its.regions) b.cell_count))
      ends_other_count unequal =
          let r = cells_differ (size_of its.regions) b.cell_count in
          record {
            lawful = plain_lawful tells told b o inputs on_files has_dump (name ∷ []) r (did_nothing tells told b o) refl same refl;
            leaves = leaves (refused r) (record { taken = refl; faults = refl }) (cells_stay_here b);
            comes = record {
              text = text;
              file = file;
              board = its;
              is_board = is;
              holds = record { wanted_is = refl; found_is = refl; unequal = unequal };
            };
            due = due_here (refused r) (differs_due unequal);
          }

-- The end of the work on the cells.

module _ (form : TextForm) (name : List ℕ) (bench : BenchCall) (inputs : InputsCall) (out : SinkCall) (text : List ℕ) (file : IsFile inputs name text)
    (same : NoneFailed inputs) (its : board.Shown) (is : IsBoard text its) (count : size_of its.regions ≡ bench.before.cell_count) where
  dumped_comes : (answer : Answer) → Dumped form its.regions bench out answer → ComesOfBoard form bench inputs out name answer
  dumped_comes done dumped =
      record { text = text; file = file; board = its; is_board = is; holds = record { count = count; holds = dumped } }
  dumped_comes (refused out_of_memory) dumped = tt
  dumped_comes (refused device_fault) dumped =
      record { text = text; file = file; board = its; is_board = is; holds = record { count = count; holds = tt } }
  dumped_comes (refused output_fault) dumped =
      record { text = text; file = file; board = its; is_board = is; holds = record { count = count; holds = dumped } }
  dumped_comes (refused r) dumped = absurd dumped

  dumped_due : (answer : Answer) → PrintsNothing out answer → Dumped form its.regions bench out answer → IsDueForBoard form bench out answer text
  dumped_due answer nothing dumped = record {
    refuses = λ fault wrong. absurd (cc);
    other_count = λ other also differs. let both : its ≡ other = cc in
        absurd (differs (ap (λ (s : board.Shown). size_of s.regions) (sym both) ∙ count));
    complete = λ other also equal. dump_cases form its.regions bench out (λ a. IsUnless a done) (inl refl) (inr refl) (inr refl) (inr refl) answer dumped;
    dumped = λ other map also equal told is_map. let both : its ≡ other = cc in
        prints_due form its.regions bench out answer map nothing dumped told
        (subst (λ (s : board.Shown). IsMapOfCells s.regions bench.after.cells map) (sym both) is_map);
  }

  pub ends_dumped : (answer : Answer) → DumpsCells form its.regions bench out answer → DumpEnds form name bench inputs out answer
  ends_dumped answer dumps = record {
    lawful = dumped_lawful form its.regions bench out inputs (name ∷ []) answer same dumps;
    leaves = dumps.leaves;
    comes = dumped_comes answer dumps.dumped;
    due = λ other told stands.
        subst (λ (t : List ℕ). IsDueForBoard form bench out answer t) (one_file inputs name other text told stands file)
        (dumped_due answer dumps.leaves.prints dumps.dumped);
  }
