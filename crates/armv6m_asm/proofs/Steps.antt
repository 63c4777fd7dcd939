-- What holds after the first statements, or lines, in each pass over them.
use Rattle.std.proofs.Common.{◌≡◌, ◌≤◌, ◌<◌, ◌+◌, ◌^◌, ℕ, List, [], ◌∷◌, ◌++◌, length, get_or, take, drop, refl, sym, ap, subst, ◌∙◌, arith, append_assoc}
use Rattle.std.specs.Prelude.{All, Contains, None}
use Rattle.std.proofs.lemmas.List.{take_all, take_more, drop_all, map-append, length-take-le}
use Rattle.std.proofs.lemmas.List.Elements.{All-nil, All-append, All-push, All-contains, Contains-get_or, Contains-append_left, Contains-append_right}
use Rattle.octets.specs.Lines.{lines_of, whole_lines}
use Rattle.armv6m_decode.specs.declared.instr.Instr.{Instr}
use Rattle.armv6m_encode.specs.declared.code.Encoding.{Encoding}
use Rattle.armv6m_encode.specs.Encoding.{IsEncodedAs}
use Rattle.armv6m_forms.specs.declared.form.Aim.{Aim}
use Rattle.armv6m_forms.specs.declared.form.Form.TheVariants as form
use Rattle.armv6m_forms.specs.Form.{StandsFor}
use Rattle.armv6m_asm.specs.declared.statement.Destination.{Destination}
use Rattle.armv6m_asm.specs.declared.statement.Operation.TheVariants as operation
use Rattle.armv6m_asm.specs.declared.statement.Statement.{Statement}
use Rattle.armv6m_asm.specs.declared.labels.Label.{Label}
use Rattle.armv6m_asm.specs.declared.code.Code.{Code}
use Rattle.armv6m_asm.specs.declared.fault.AsmFault.{AsmFault}
use Rattle.armv6m_asm.specs.declared.fault.AsmFault.TheVariants.{BadWord, TwiceLabel, NoLabel, OutOfReach, OutOfMemory}
use Rattle.armv6m_asm.specs.Usable.{IsUsable}
use Rattle.armv6m_asm.specs.Label.{names_of}
use Rattle.armv6m_asm.specs.Assembly.{size_of, place_after, label_at, labels_of, AreOnce, named_by, destinations_of, LeadsTo, code_of, AreBytes, GoesBeyond}
use Rattle.armv6m_asm.specs.Assembly.{IsRight}
use Rattle.armv6m_asm.specs.Assembly.{IsBad, AreRead, IsFirstBad, AreOfText, HasLabelsOnce, HasDestinations, IsAssembled, IsRefused}
use Rattle.armv6m_asm.specs.Passes.{ReadsAll, IsReadFault, FindsLabels, AddsLabels, IsAddFault, IsLabelFault, IsMissingFault, IsDestinationFault, AddsCode}
use Rattle.armv6m_asm.specs.Passes.{AddsBytes, IsBeyondFault, IsCodeFault}
use Rattle.armv6m_asm.proofs.Widths.{length-code_of, aimed_width}
use Rattle.armv6m_asm.proofs.Places.{place_after-append, labels_of-append, destinations_of-append, read_append, read_long, bytes_append, split_at, end_more}
use Rattle.armv6m_asm.proofs.Places.{place_after-take}
use Rattle.armv6m_asm.proofs.Names.{no_name_twice, once_more}

-- the statement of an empty line
abbrev pub nothing : Statement
nothing = record { label = None; operation = operation.Nothing }

-- ---- lines

-- the lines before `from` are read
pub record HasRead (text : List ℕ) (from place : ℕ) (statements : List Statement) : Type 0 where
  pub before : List (List ℕ)
  pub lines_are : lines_of text ≡ before ++ lines_of (drop from text)
  pub read : AreRead 0 before statements
  pub usable : All IsUsable statements
  pub place_is : place ≡ place_after 0 statements
  pub fits : place < 2 ^ 32

pub read_nothing : (text : List ℕ) → HasRead text 0 0 []
read_nothing text = record { before = []; lines_are = refl; read = tt; usable = All-nil IsUsable; place_is = refl; fits = omega arith }

lines_more : (before rest : List (List ℕ)) (line : List ℕ) → before ++ line ∷ rest ≡ (before ++ line ∷ []) ++ rest
lines_more before rest line = sym (append_assoc before (line ∷ []) rest)

pub read_more : (text : List ℕ) (from place next : ℕ) (statements : List Statement) (line : List ℕ) (s : Statement) (behind : ℕ) →
    HasRead text from place statements → lines_of (drop from text) ≡ line ∷ lines_of (drop next text) → IsRight line place s → IsUsable s
    → behind ≡ place + size_of s.operation place → behind < 2 ^ 32 → HasRead text next behind (statements ++ s ∷ [])
read_more text from place next statements line s behind h lines right usable is fits =
    record {
      before = h.before ++ line ∷ [];
      lines_are = h.lines_are ∙ ap (λ (ls : List (List ℕ)). h.before ++ ls) lines ∙ lines_more h.before (lines_of (drop next text)) line;
      read = read_append 0 h.before statements line s h.read (subst (λ (n : ℕ). IsRight line n s) h.place_is right);
      usable = All-push IsUsable statements s h.usable usable;
      place_is = is ∙ ap (λ (n : ℕ). n + size_of s.operation n) h.place_is ∙ sym (place_after-append 0 statements (s ∷ []));
      fits = fits;
    }

pub read_bad : (text : List ℕ) (from place next : ℕ) (statements : List Statement) (line : List ℕ) (n : ℕ) → HasRead text from place statements →
    lines_of (drop from text) ≡ line ∷ lines_of (drop next text) → IsBad line place → n ≡ length statements + 1 → IsFirstBad (lines_of text) n
read_bad text from place next statements line n h lines bad is =
    record {
      before = h.before;
      here = line;
      after = lines_of (drop next text);
      lines_are = h.lines_are ∙ ap (λ (ls : List (List ℕ)). h.before ++ ls) lines;
      statements = statements;
      read = h.read;
      bad = subst (IsBad line) h.place_is bad;
      line_is = is ∙ ap (λ (k : ℕ). k + 1) (read_long 0 h.before statements h.read);
    }

no_lines : lines_of [] ≡ []
unfolding whole_lines
no_lines = refl

nothing_behind : (lines : List (List ℕ)) → lines ++ [] ≡ lines
nothing_behind [] = refl
nothing_behind (line ∷ lines) = ap (λ (ls : List (List ℕ)). line ∷ ls) (nothing_behind lines)

pub read_whole : (text : List ℕ) (from place : ℕ) (statements : List Statement) → HasRead text from place statements → length text ≤ from →
    ReadsAll (lines_of text) statements
read_whole text from place statements h past =
    let all : lines_of text ≡ h.before = h.lines_are ∙ ap (λ (ls : List (List ℕ)). h.before ++ ls) (ap lines_of (drop_all from text past) ∙ no_lines) ∙
    nothing_behind h.before in
    record { read = subst (λ (ls : List (List ℕ)). AreRead 0 ls statements) (sym all) h.read; usable = h.usable; fits = omega (arith, h.place_is, h.fits) }

-- ---- labels

pub record HasFound (statements : List Statement) (k place : ℕ) (labels : List Label) : Type 0 where
  pub place_is : place ≡ place_after 0 (take k statements)
  pub labels_are : labels ≡ labels_of 0 (take k statements)
  pub once : AreOnce (names_of labels)

pub found_nothing : (statements : List Statement) (labels : List Label) → labels ≡ [] → HasFound statements 0 0 labels
found_nothing statements labels is = record {
  place_is = refl;
  labels_are = is;
  once =
      subst (λ (ls : List Label). AreOnce (names_of ls)) (sym is) no_name_twice;
}

nothing_more : (labels : List Label) → labels ++ [] ≡ labels
nothing_more [] = refl
nothing_more (l ∷ labels) = ap (λ (ls : List Label). l ∷ ls) (nothing_more labels)

labels_of-more : (statements : List Statement) (k : ℕ) (d : Statement) → k < length statements →
    labels_of 0 (take (k + 1) statements) ≡ labels_of 0 (take k statements) ++ label_at (get_or statements k d).label (place_after 0 (take k statements))
labels_of-more statements k d lt =
    ap (labels_of 0) (take_more statements k d lt) ∙ labels_of-append 0 (take k statements) (get_or statements k d ∷ [])
    ∙ ap (λ (ls : List Label). labels_of 0 (take k statements) ++ ls)
    (nothing_more (label_at (get_or statements k d).label (place_after 0 (take k statements))))

pub place_more : (statements : List Statement) (k place : ℕ) (d : Statement) → k < length statements → place ≡ place_after 0 (take k statements) →
    place + size_of (get_or statements k d).operation place ≡ place_after 0 (take (k + 1) statements)
place_more statements k place d lt is = ap (λ (n : ℕ). n + size_of (get_or statements k d).operation n) is ∙ sym (end_more statements k d lt)

pub place_fits : (statements : List Statement) (k place : ℕ) (d : Statement) → k < length statements → place ≡ place_after 0 (take k statements) →
    place_after 0 statements < 2 ^ 32 → place + size_of (get_or statements k d).operation place < 2 ^ 32
place_fits statements k place d lt is fits = omega (arith, place_more statements k place d lt is, place_after-take statements (k + 1))

pub found_more : (statements : List Statement) (k place : ℕ) (d : Statement) (labels new : List Label) → k < length statements →
    HasFound statements k place labels → AddsLabels labels new (label_at (get_or statements k d).label place)
    → HasFound statements (k + 1) (place + size_of (get_or statements k d).operation place) new
found_more statements k place d labels new lt h adds =
    record {
      place_is = place_more statements k place d lt h.place_is;
      labels_are =
          adds.added
          ∙ ap (λ (n : ℕ). labels ++ label_at (get_or statements k d).label n) h.place_is
          ∙ ap (λ (ls : List Label). ls ++ label_at (get_or statements k d).label (place_after 0 (take k statements))) h.labels_are
          ∙ sym (labels_of-more statements k d lt);
      once = adds.once h.once;
    }

pub found_all : (statements : List Statement) (k place : ℕ) (labels : List Label) → HasFound statements k place labels → length statements ≤ k →
    FindsLabels statements labels
found_all statements k place labels h past = record { labels_are = h.labels_are ∙ ap (labels_of 0) (take_all k statements past); once = h.once }

labels_split : (statements : List Statement) (k : ℕ) (d : Statement) → k < length statements
    → labels_of 0 statements ≡ labels_of 0 (take k statements) ++
    (label_at (get_or statements k d).label (place_after 0 (take k statements)) ++
    labels_of (place_after 0 (take k statements) + size_of (get_or statements k d).operation (place_after 0 (take k statements))) (drop (k + 1) statements))
labels_split statements k d lt = ap (labels_of 0) (split_at statements k d lt) ∙
    labels_of-append 0 (take k statements) (get_or statements k d ∷ drop (k + 1) statements)

pub found_fault : (statements : List Statement) (k place : ℕ) (d : Statement) (labels : List Label) (fault : AsmFault) → k < length statements →
    HasFound statements k place labels → IsAddFault labels (label_at (get_or statements k d).label place) fault → IsLabelFault statements fault
found_fault statements k place d labels OutOfMemory lt h is = tt
found_fault statements k place d labels (TwiceLabel name) lt h is =
    let here = label_at (get_or statements k d).label (place_after 0 (take k statements)) in
    let after = labels_of (place_after 0 (take k statements) + size_of (get_or statements k d).operation (place_after 0 (take k statements)))
    (drop (k + 1) statements) in
    let named : names_of here ≡ name ∷ [] = ap (λ (n : ℕ). names_of (label_at (get_or statements k d).label n)) (sym h.place_is) ∙ is.named in
    record {
      earlier = names_of labels;
      later = names_of after;
      names_are =
          ap names_of (labels_split statements k d lt)
          ∙ map-append (λ (l : Label). l.name) (labels_of 0 (take k statements)) (here ++ after)
          ∙ ap (λ (ls : List Label). names_of ls ++ names_of (here ++ after)) (sym h.labels_are)
          ∙ ap (λ (ns : List (List ℕ)). names_of labels ++ ns)
          (map-append (λ (l : Label). l.name) here after ∙ ap (λ (ns : List (List ℕ)). ns ++ names_of after) named);
      once = h.once;
      twice = is.already;
    }
found_fault statements k place d labels fault lt h is = is

-- ---- destinations

destinations_split : (statements : List Statement) (k : ℕ) (d : Statement) → k < length statements →
    destinations_of statements ≡ destinations_of (take k statements) ++
    (named_by (get_or statements k d).operation ++ destinations_of (drop (k + 1) statements))
destinations_split statements k d lt = ap destinations_of (split_at statements k d lt) ∙
    destinations_of-append (take k statements) (get_or statements k d ∷ drop (k + 1) statements)

names_behind : (names : List (List ℕ)) → names ++ [] ≡ names
names_behind [] = refl
names_behind (name ∷ names) = ap (λ (ns : List (List ℕ)). name ∷ ns) (names_behind names)

pub destinations_more : (P : List ℕ → Type 0) (statements : List Statement) (k : ℕ) (d : Statement) → k < length statements →
    All P (destinations_of (take k statements)) → All P (named_by (get_or statements k d).operation) → All P (destinations_of (take (k + 1) statements))
destinations_more P statements k d lt before here =
    let more : destinations_of (take (k + 1) statements) ≡ destinations_of (take k statements) ++ named_by (get_or statements k d).operation =
    ap destinations_of (take_more statements k d lt) ∙ destinations_of-append (take k statements) (get_or statements k d ∷ []) ∙
    ap (λ (ns : List (List ℕ)). destinations_of (take k statements) ++ ns) (names_behind (named_by (get_or statements k d).operation)) in
    subst (λ (ns : List (List ℕ)). All P ns) (sym more) (All-append P (destinations_of (take k statements)) (named_by (get_or statements k d).operation) before
    here)

pub destinations_here : (P : List ℕ → Type 0) (statements : List Statement) (k : ℕ) (d : Statement) → k < length statements →
    All P (destinations_of statements) →
    All P (named_by (get_or statements k d).operation)
destinations_here P statements k d lt all =
    let before = destinations_of (take k statements) in
    let here = named_by (get_or statements k d).operation in
    let after = destinations_of (drop (k + 1) statements) in
    let whole : All P (before ++ (here ++ after)) = subst (λ (ns : List (List ℕ)). All P ns) (destinations_split statements k d lt) all in
    λ j name inside. All-contains P (before ++ (here ++ after)) (get_or here j name) whole
    (Contains-append_right before (here ++ after) (get_or here j name)
    (Contains-append_left here after (get_or here j name) (Contains-get_or here j name inside)))

pub destination_fault : (statements : List Statement) (k : ℕ) (d : Statement) (names : List (List ℕ)) (fault : AsmFault) → k < length statements →
    All (Contains names) (destinations_of (take k statements)) → IsMissingFault (get_or statements k d).operation names fault →
    IsDestinationFault (destinations_of statements) names fault
destination_fault statements k d names OutOfMemory lt before is = tt
destination_fault statements k d names (NoLabel name) lt before is =
    record {
      earlier = destinations_of (take k statements);
      later = destinations_of (drop (k + 1) statements);
      destinations_are = destinations_split statements k d lt ∙ ap (λ (ns : List (List ℕ)). destinations_of (take k statements) ++
          (ns ++ destinations_of (drop (k + 1) statements))) is.named;
      there = before;
      missing = is.missing;
    }
destination_fault statements k d names fault lt before is = is

-- ---- code

pub code_added : (old new : List ℕ) (i : Instr) (encoding : Encoding) → IsEncodedAs i encoding → new ≡ old ++ code_of encoding → AddsCode old new i
code_added old new i encoding encoded added = record {
  own = code_of encoding;
  added = added;
  long = length-code_of i encoding encoded;
  code =
      record { encoding = encoding; encoded = encoded; bytes_are = refl };
}

pub aimed_added : (labels : List Label) (aim : Aim) (t : Destination) (at address : ℕ) (old new : List ℕ) (i : Instr) → LeadsTo labels t address →
    StandsFor i at (form.Aimed aim address) → AddsCode old new i → AddsBytes labels (operation.Aimed aim t) at old new
aimed_added labels aim t at address old new i leads stands adds =
    record {
      own = adds.own;
      added = adds.added;
      long = adds.long ∙ aimed_width i at aim address stands;
      bytes = record { address = address; leads = leads; code = record { instr = i; stands = stands; code = adds.code } };
    }

pub record HasWritten (labels : List Label) (statements : List Statement) (k place line : ℕ) (bytes : List ℕ) : Type 0 where
  pub place_is : place ≡ place_after 0 (take k statements)
  pub line_is : line ≡ k + 1
  pub bytes_are : AreBytes labels 0 (take k statements) bytes

pub written_nothing : (labels : List Label) (statements : List Statement) (bytes : List ℕ) → bytes ≡ [] → HasWritten labels statements 0 0 1 bytes
written_nothing labels statements bytes is = record { place_is = refl; line_is = refl; bytes_are = is }

pub written_more : (labels : List Label) (statements : List Statement) (k place line : ℕ) (d : Statement) (bytes new : List ℕ) → k < length statements →
    HasWritten labels statements k place line bytes → AddsBytes labels (get_or statements k d).operation place bytes new
    → HasWritten labels statements (k + 1) (place + size_of (get_or statements k d).operation place) (line + 1) new
written_more labels statements k place line d bytes new lt h adds =
    let here = get_or statements k d in
    let at : AddsBytes labels here.operation (place_after 0 (take k statements)) bytes new =
    subst (λ (n : ℕ). AddsBytes labels here.operation n bytes new) h.place_is adds in
    let longer : AreBytes labels 0 (take k statements ++ here ∷ []) (bytes ++ at.own) =
    bytes_append labels 0 (take k statements) bytes here at.own h.bytes_are at.long at.bytes in
    record {
      place_is = place_more statements k place d lt h.place_is;
      line_is = ap (λ (n : ℕ). n + 1) h.line_is;
      bytes_are = subst (λ (bs : List ℕ). AreBytes labels 0 (take (k + 1) statements) bs) (sym at.added)
          (subst (λ (ss : List Statement). AreBytes labels 0 ss (bytes ++ at.own)) (sym (take_more statements k d lt)) longer);
    }

pub written_all : (labels : List Label) (statements : List Statement) (k place line : ℕ) (bytes : List ℕ) → HasWritten labels statements k place line bytes →
    length statements ≤ k → AreBytes labels 0 statements bytes
written_all labels statements k place line bytes h past = subst (λ (ss : List Statement). AreBytes labels 0 ss bytes) (take_all k statements past) h.bytes_are

pub written_fault : (labels : List Label) (statements : List Statement) (k place line : ℕ) (d : Statement) (bytes : List ℕ) (fault : AsmFault) →
    k < length statements → HasWritten labels statements k place line bytes → IsBeyondFault labels (get_or statements k d).operation place line fault →
    IsCodeFault labels statements fault
written_fault labels statements k place line d bytes OutOfMemory lt h is = tt
written_fault labels statements k place line d bytes (OutOfReach answered) lt h is =
    let here = get_or statements k d in
    record {
      before = take k statements;
      here = here;
      after = drop (k + 1) statements;
      statements_are = split_at statements k d lt;
      bytes = bytes;
      reached = h.bytes_are;
      beyond = subst (GoesBeyond labels here.operation) h.place_is is.beyond;
      line_is = is.line_is ∙ h.line_is ∙ ap (λ (n : ℕ). n + 1) (sym (length-take-le k statements (omega arith)));
    }
written_fault labels statements k place line d bytes fault lt h is = is

-- ---- labels, one by one

pub added_label : (old new : List Label) (name : List ℕ) (place : ℕ) → (Contains (names_of old) name → ⊥) →
    new ≡ old ++ record { name = name; place = place } ∷ [] → AddsLabels old new (record { name = name; place = place } ∷ [])
added_label old new name place not added =
    record {
      added = added;
      once = λ once.
          let names : names_of new ≡ names_of old ++ name ∷ [] = ap names_of added ∙
          map-append (λ (l : Label). l.name) old (record { name = name; place = place } ∷ []) in
          subst AreOnce (sym names) (once_more (names_of old) name once not);
    }

-- what each pass finds is what the text has

pub text_read_fault : (text : List ℕ) (fault : AsmFault) → IsReadFault (lines_of text) fault → IsRefused text fault
text_read_fault text (BadWord line) is = is
text_read_fault text OutOfMemory is = tt
text_read_fault text fault is = absurd is

is_read : (text : List ℕ) (statements : List Statement) → ReadsAll (lines_of text) statements → AreOfText text statements (labels_of 0 statements)
is_read text statements read = record { read = read.read; labels_are = refl }

pub text_label_fault : (text : List ℕ) (statements : List Statement) (fault : AsmFault) → ReadsAll (lines_of text) statements → IsLabelFault statements fault →
    IsRefused text fault
text_label_fault text statements (TwiceLabel name) read is =
    record { statements = statements; labels = labels_of 0 statements; read = is_read text statements read; twice = is }
text_label_fault text statements OutOfMemory read is = tt
text_label_fault text statements fault read is = absurd is

has_once : (text : List ℕ) (statements : List Statement) (labels : List Label) → ReadsAll (lines_of text) statements → FindsLabels statements labels →
    HasLabelsOnce text statements labels
has_once text statements labels read found = record { read = record { read = read.read; labels_are = found.labels_are }; once = found.once }

pub text_destination_fault : (text : List ℕ) (statements : List Statement) (labels : List Label) (fault : AsmFault) → ReadsAll (lines_of text) statements →
    FindsLabels statements labels → IsDestinationFault (destinations_of statements) (names_of labels) fault → IsRefused text fault
text_destination_fault text statements labels (NoLabel name) read found is =
    record { statements = statements; labels = labels; read = has_once text statements labels read found; missing = is }
text_destination_fault text statements labels OutOfMemory read found is = tt
text_destination_fault text statements labels fault read found is = absurd is

has_destinations : (text : List ℕ) (statements : List Statement) (labels : List Label) → ReadsAll (lines_of text) statements → FindsLabels statements labels →
    All (Contains (names_of labels)) (destinations_of statements) → HasDestinations text statements labels
has_destinations text statements labels read found there = record { read = has_once text statements labels read found; there = there }

pub text_code_fault : (text : List ℕ) (statements : List Statement) (labels : List Label) (fault : AsmFault) → ReadsAll (lines_of text) statements →
    FindsLabels statements labels → All (Contains (names_of labels)) (destinations_of statements) → IsCodeFault labels statements fault → IsRefused text fault
text_code_fault text statements labels (OutOfReach line) read found there is =
    record { statements = statements; labels = labels; read = has_destinations text statements labels read found there; beyond = is }
text_code_fault text statements labels OutOfMemory read found there is = tt
text_code_fault text statements labels fault read found there is = absurd is

pub text_assembled : (text : List ℕ) (statements : List Statement) (code : Code) → ReadsAll (lines_of text) statements → FindsLabels statements code.labels →
    All (Contains (names_of code.labels)) (destinations_of statements) → AreBytes code.labels 0 statements code.bytes → IsAssembled text code
text_assembled text statements code read found there bytes =
    record { statements = statements; read = has_destinations text statements code.labels read found there; bytes = bytes }
