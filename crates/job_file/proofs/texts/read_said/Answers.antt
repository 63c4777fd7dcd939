-- `read_said`: its clauses `gives`, `fit`, `reads` and `counted`, and what `read_file` and `read_second` require.
use Rattle.std.proofs.Common.{◌≡◌, ◌+◌, ◌∙◌, true, ℕ, List, Ok, length, drop, refl, ap, subst, arith}
use Rattle.board_file.specs.declared.region.Region.{Region}
use Rattle.board_file.specs.Shown as board
use Rattle.job_text.specs.Reading.{are_files, file_at, second_at}
use Rattle.bench_model.proofs.Moments.{only_reads_then}
use Rattle.job_file.specs.Readers.{Fails, files_checked, file_there, second_there}
use Rattle.job_file.proofs.TextsLemmas.{IsBoardRead, counted_by, first_by, board_unread, files_uncounted, unchecked, first_unread, second_unread, texts_read}
use Rattle.job_file.proofs.TextsLemmas.{both_fit}
use Rattle.job_file.proofs.CountLemmas.{counted_behind, files_miscounted}
use Rattle.job_file.proofs.texts.read_said.Goals as goal

pub read_file-requires-clause-told : goal.read_file-requires-clause-told
read_file-requires-clause-told g c = λ told. ap (λ (l : List ℕ). length l) (c.read_board.ensures.reads.file told) ∙ c.requires.told told

pub read_file-requires-clause-within : goal.read_file-requires-clause-within
read_file-requires-clause-within g c = let fits = c.in-Ok.ensures.fits refl in omega (arith, fits)

pub read_second-requires-clause-told : goal.read_second-requires-clause-told
read_second-requires-clause-told g c = λ told. ap (λ (l : List ℕ). length l) (c.read_file.ensures.reads.file told ∙ c.read_board.ensures.reads.file told)
    ∙ c.requires.told told

pub read_second-requires-clause-within : goal.read_second-requires-clause-within
read_second-requires-clause-within g c = let fits = c.in-Ok-read_file.ensures.fits refl in omega (arith, fits)

pub returns-in-Err-clause-gives : goal.returns-in-Err-clause-gives
returns-in-Err-clause-gives g c = λ told.
    board_unread c.args.whole c.args.places.now c.args.head.now (drop c.args.places.now.front (g.B.Bench.state c.args.bench.now).file) c.in-Err.fault
    (c.in-Err.ensures.gives told)

pub returns-in-Err-check_files-clause-gives : goal.returns-in-Err-check_files-clause-gives
returns-in-Err-check_files-clause-gives g c = λ told.
    let h = c.args.head.now in
    let p = c.args.places.now in
    let file = (g.B.Bench.state c.args.bench.now).file in
    let b = board.shown c.in-Ok.board in
    let br : IsBoardRead c.args.whole p h file b =
    record { long = c.requires.told told; inside = c.in-Ok.ensures.fits refl; read = c.in-Ok.ensures.gives told } in
    let many = ap (λ (rs : List Region). length rs) c.as_slice.ensures in
    files_uncounted c.args.whole p h file b c.in-Err-check_files.fault br
    (subst (λ (n : ℕ). Fails c.in-Err-check_files.fault (files_checked p h n)) many
    (unchecked (Unit {0}) p h _ c.in-Err-check_files.fault c.in-Err-check_files.ensures))

pub returns-in-Err-read_file-clause-gives : goal.returns-in-Err-read_file-clause-gives
returns-in-Err-read_file-clause-gives g c = λ told.
    let h = c.args.head.now in
    let p = c.args.places.now in
    let file = (g.B.Bench.state c.args.bench.now).file in
    let b = board.shown c.in-Ok.board in
    let br : IsBoardRead c.args.whole p h file b =
    record { long = c.requires.told told; inside = c.in-Ok.ensures.fits refl; read = c.in-Ok.ensures.gives told } in
    let counted = counted_by c.args.whole p h file b c.as_slice.ensures br c.in-Ok-check_files.ensures.0 c.in-Ok-check_files.ensures.1 in
    let one = (g.B.Bench.state c.read_board.new.bench).file in
    let same : one ≡ file = c.read_board.ensures.reads.file told in
    let at : c.from.result ≡ h.board = omega arith in
    let e = c.in-Err-read_file.fault in
    first_unread c.args.whole p h file b e counted
    (subst (λ (f : List ℕ). Fails e (file_at c.args.whole (p.front + h.board) b 0 h.first (drop (p.front + h.board) f))) same
    (subst (λ (k : ℕ). Fails e (file_at c.args.whole (p.front + k) b 0 h.first (drop (p.front + k) one))) at (c.in-Err-read_file.ensures.gives told)))

pub returns-in-Err-read_second-clause-gives : goal.returns-in-Err-read_second-clause-gives
returns-in-Err-read_second-clause-gives g c = λ told.
    let h = c.args.head.now in
    let p = c.args.places.now in
    let file = (g.B.Bench.state c.args.bench.now).file in
    let b = board.shown c.in-Ok.board in
    let br : IsBoardRead c.args.whole p h file b =
    record { long = c.requires.told told; inside = c.in-Ok.ensures.fits refl; read = c.in-Ok.ensures.gives told } in
    let counted = counted_by c.args.whole p h file b c.as_slice.ensures br c.in-Ok-check_files.ensures.0 c.in-Ok-check_files.ensures.1 in
    let one = (g.B.Bench.state c.read_board.new.bench).file in
    let same : one ≡ file = c.read_board.ensures.reads.file told in
    let at : c.from.result ≡ h.board = omega arith in
    let a = c.in-Ok-read_file.first in
    let first = first_by c.args.whole p h file b one c.from.result a same at counted (c.in-Ok-read_file.ensures.gives told) in
    let two = (g.B.Bench.state c.read_file.new.bench).file in
    let same_two : two ≡ file = c.read_file.ensures.reads.file told ∙ same in
    let next : c.from-2.result ≡ h.first = omega arith in
    let e = c.in-Err-read_second.fault in
    second_unread c.args.whole p h file b (file_there file (p.front + h.board) h.first a) e first
    (subst (λ (f : List ℕ). Fails e (second_at c.args.whole (p.front + h.board + h.first) b h (drop (p.front + h.board + h.first) f))) same_two
    (subst (λ (n : ℕ). Fails e (second_at c.args.whole (p.front + h.board + n) b h (drop (p.front + h.board + n) two))) next
    (subst (λ (k : ℕ). Fails e (second_at c.args.whole (p.front + k + c.from-2.result) b h (drop (p.front + k + c.from-2.result) two)))
    at (c.in-Err-read_second.ensures.gives told))))

pub returns-in-Ok-read_second-clause-gives : goal.returns-in-Ok-read_second-clause-gives
returns-in-Ok-read_second-clause-gives g c = λ told.
    let h = c.args.head.now in
    let p = c.args.places.now in
    let file = (g.B.Bench.state c.args.bench.now).file in
    let b = board.shown c.in-Ok.board in
    let br : IsBoardRead c.args.whole p h file b =
    record { long = c.requires.told told; inside = c.in-Ok.ensures.fits refl; read = c.in-Ok.ensures.gives told } in
    let counted = counted_by c.args.whole p h file b c.as_slice.ensures br c.in-Ok-check_files.ensures.0 c.in-Ok-check_files.ensures.1 in
    let one = (g.B.Bench.state c.read_board.new.bench).file in
    let same : one ≡ file = c.read_board.ensures.reads.file told in
    let at : c.from.result ≡ h.board = omega arith in
    let a = c.in-Ok-read_file.first in
    let first = first_by c.args.whole p h file b one c.from.result a same at counted (c.in-Ok-read_file.ensures.gives told) in
    let two = (g.B.Bench.state c.read_file.new.bench).file in
    let same_two : two ≡ file = c.read_file.ensures.reads.file told ∙ same in
    let next : c.from-2.result ≡ h.first = omega arith in
    let o = c.in-Ok-read_second.second in
    let end = c.in-Ok-read_second.end in
    texts_read c.args.whole p h file b (file_there file (p.front + h.board) h.first a) (second_there file (p.front + h.board + h.first) h.second o)
    (drop end file) first
    (subst (λ (f : List ℕ). second_at c.args.whole (p.front + h.board + h.first) b h (drop (p.front + h.board + h.first) f) ≡ Ok
    (second_there f (p.front + h.board + h.first) h.second o, drop end f)) same_two
    (subst (λ (n : ℕ). second_at c.args.whole (p.front + h.board + n) b h (drop (p.front + h.board + n) two) ≡ Ok
    (second_there two (p.front + h.board + n) h.second o, drop end two)) next
    (subst (λ (k : ℕ). second_at c.args.whole (p.front + k + c.from-2.result) b h (drop (p.front + k + c.from-2.result) two)
    ≡ Ok (second_there two (p.front + k + c.from-2.result) h.second o, drop end two)) at (c.in-Ok-read_second.ensures.gives told))))

pub returns-in-Ok-read_second-clause-fit : goal.returns-in-Ok-read_second-clause-fit
returns-in-Ok-read_second-clause-fit g c =
    let h = c.args.head.now in
    let many = ap (λ (rs : List Region). length rs) c.as_slice.ensures in
    both_fit (board.shown c.in-Ok.board) h.files c.in-Ok-read_file.first c.in-Ok-read_second.second
    (subst (λ (n : ℕ). are_files h.files n ≡ true) many c.in-Ok-check_files.ensures.0) c.in-Ok-read_file.ensures.fit c.in-Ok-read_second.ensures.fit

pub returns-in-Err-read_second-clause-reads : goal.returns-in-Err-read_second-clause-reads
returns-in-Err-read_second-clause-reads g c = only_reads_then (only_reads_then c.read_board.ensures.reads c.read_file.ensures.reads)
    c.read_second.ensures.reads

pub returns-in-Ok-read_second-clause-reads : goal.returns-in-Ok-read_second-clause-reads
returns-in-Ok-read_second-clause-reads g c = only_reads_then (only_reads_then c.read_board.ensures.reads c.read_file.ensures.reads)
    c.read_second.ensures.reads

pub returns-in-Err-read_second-clause-counted : goal.returns-in-Err-read_second-clause-counted
returns-in-Err-read_second-clause-counted g c = counted_behind (counted_behind c.in-Ok.ensures.counted c.in-Ok-read_file.ensures.counted)
    c.in-Err-read_second.ensures.counted

pub returns-in-Ok-read_second-clause-counted : goal.returns-in-Ok-read_second-clause-counted
returns-in-Ok-read_second-clause-counted g c = counted_behind (counted_behind c.in-Ok.ensures.counted c.in-Ok-read_file.ensures.counted)
    c.in-Ok-read_second.ensures.counted

pub returns-in-Err-read_file-clause-reads : goal.returns-in-Err-read_file-clause-reads
returns-in-Err-read_file-clause-reads g c = only_reads_then c.read_board.ensures.reads c.read_file.ensures.reads

pub returns-in-Err-read_file-clause-counted : goal.returns-in-Err-read_file-clause-counted
returns-in-Err-read_file-clause-counted g c = counted_behind c.in-Ok.ensures.counted c.in-Err-read_file.ensures.counted

pub returns-in-Err-read_second-clause-fits : goal.returns-in-Err-read_second-clause-fits
returns-in-Err-read_second-clause-fits g c = tt

pub returns-in-Ok-read_second-clause-fits : goal.returns-in-Ok-read_second-clause-fits
returns-in-Ok-read_second-clause-fits g c = c.in-Ok-read_second.ensures.fits

pub returns-in-Err-check_files-clause-counted : goal.returns-in-Err-check_files-clause-counted
returns-in-Err-check_files-clause-counted g c =
    files_miscounted c.args.places.now c.args.head.now _ c.in-Err-check_files.fault c.in-Err-check_files.ensures c.in-Ok.ensures.counted

pub returns-in-Err-read_second-clause-ends : goal.returns-in-Err-read_second-clause-ends
returns-in-Err-read_second-clause-ends g c = tt

pub returns-in-Err-read_second-clause-fit : goal.returns-in-Err-read_second-clause-fit
returns-in-Err-read_second-clause-fit g c = tt
