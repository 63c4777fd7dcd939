-- A text has a code, or is refused for one reason.
use Rattle.std.proofs.Common.{◌≡◌, ◌<◌, ◌+◌, ◌∙◌, inl, inr, ℕ, suc, List, [], ◌∷◌, ◌++◌, length, get_or, refl, sym, ap, subst, arith, length-append}
use Rattle.std.specs.Prelude.{All, Contains, Option, Some, None}
use Rattle.std.specs.Borrow.{Bor}
use Rattle.std.proofs.lemmas.List.{get_or_append_left, get_or-append-add, get_or_default, get_or-map, length-map}
use Rattle.std.proofs.lemmas.List.Elements.{All-contains, Contains-append_right}
use Rattle.octets.specs.Lines.{lines_of}
use Rattle.armv6m_forms.specs.declared.form.Aim.{Aim}
use Rattle.armv6m_forms.specs.declared.form.Form.TheVariants as form
use Rattle.armv6m_forms.specs.Form.{StandsFor}
use Rattle.armv6m_asm.specs.declared.statement.Destination.{Destination}
use Rattle.armv6m_asm.specs.declared.statement.Destination.TheVariants as destinations
use Rattle.armv6m_asm.specs.declared.statement.Operation.{Operation}
use Rattle.armv6m_asm.specs.declared.statement.Operation.TheVariants.{Nothing, Word, Align, Plain, Aimed}
use Rattle.armv6m_asm.specs.declared.statement.Statement.{Statement}
use Rattle.armv6m_asm.specs.declared.labels.Label.{Label}
use Rattle.armv6m_asm.specs.declared.code.Code.{Code}
use Rattle.armv6m_asm.specs.declared.fault.AsmFault.TheVariants.{BadWord, TwiceLabel, NoLabel, OutOfReach, OutOfMemory}
use Rattle.armv6m_asm.specs.Label.{names_of}
use Rattle.armv6m_asm.specs.Statement.{IsStatement}
use Rattle.armv6m_asm.specs.Alike.{AreAlikeDestinations, AreAlikeOperations, AreAlikeLabels}
use Rattle.armv6m_asm.specs.Assembly.{width, aim_width, size_of, place_after, label_at, labels_of, AreOnce, name_in, named_by, destinations_of, LeadsTo}
use Rattle.armv6m_asm.specs.Assembly.{AreBytesOf}
use Rattle.armv6m_asm.specs.Assembly.{AreBytes, GoesBeyond, IsAligned, IsRight, IsBad, AreRead, IsFirstBad, IsFirstTwice, IsFirstMissing, IsFirstBeyond}
use Rattle.armv6m_asm.specs.Assembly.{AreOfText, HasLabelsOnce, HasDestinations, IsAssembled, HasTwiceLabel, HasNoLabel, HasOutOfReach}
use Rattle.armv6m_asm.specs.Outcome.{RefusedOrAssembled, OneRefusal}
use Rattle.armv6m_asm.proofs.LawLemmas.{one_statement}
use Rattle.armv6m_asm.proofs.Places.{read_long}

-- ---- statements that are alike

label_alike : (one other : Option (Bor (List ℕ))) (at : ℕ) → AreAlikeLabels one other → label_at one at ≡ label_at other at
label_alike None None at same = refl
label_alike (Some a) (Some b) at same = rw same
label_alike one other at same = absurd same

size_alike : (one other : Operation) (at : ℕ) → AreAlikeOperations one other → size_of one at ≡ size_of other at
size_alike Nothing Nothing at same = refl
size_alike (Word a) (Word b) at same = refl
size_alike Align Align at same = refl
size_alike (Plain a) (Plain b) at same = ap width same
size_alike (Aimed a to) (Aimed b too) at same = ap aim_width same.0
size_alike one other at same = absurd same

name_alike : (one other : Destination) → AreAlikeDestinations one other → name_in one ≡ name_in other
name_alike (destinations.Label a) (destinations.Label b) same = rw same
name_alike (destinations.Address a) (destinations.Address b) same = refl
name_alike one other same = absurd same

named_alike : (one other : Operation) → AreAlikeOperations one other → named_by one ≡ named_by other
named_alike Nothing Nothing same = refl
named_alike (Word a) (Word b) same = refl
named_alike Align Align same = refl
named_alike (Plain a) (Plain b) same = refl
named_alike (Aimed a to) (Aimed b too) same = name_alike to too same.1
named_alike one other same = absurd same

aligned_alike : (one other : Operation) (at : ℕ) → AreAlikeOperations one other → IsAligned one at → IsAligned other at
aligned_alike (Word a) (Word b) at same aligned = aligned
aligned_alike one (Word b) at same aligned = absurd same
aligned_alike one other at same aligned = tt

-- ---- two readings of the same lines

same_names : (from : ℕ) (lines : List (List ℕ)) (ss ts : List Statement) → AreRead from lines ss → AreRead from lines ts
    → (labels_of from ss ≡ labels_of from ts) × (destinations_of ss ≡ destinations_of ts)
same_names from [] [] [] x y = (refl, refl)
same_names from [] [] (t ∷ ts) x y = absurd y
same_names from [] (s ∷ ss) ts x y = absurd x
same_names from (line ∷ lines) [] ts x y = absurd x
same_names from (line ∷ lines) (s ∷ ss) [] x y = absurd y
same_names from (line ∷ lines) (s ∷ ss) (t ∷ ts) x y =
    let alike = one_statement line s t x.0.statement y.0.statement in
    let size = size_alike s.operation t.operation from alike.1 in
    let label = label_alike s.label t.label from alike.0 in
    let named = named_alike s.operation t.operation alike.1 in
    let rest = same_names (from + size_of t.operation from) lines ss ts (subst (λ (n : ℕ). AreRead (from + n) lines ss) size x.1) y.1 in
    (cc (size, label, rest.0), cc (named, rest.1))

-- ---- checks that go through a list

-- a list up to the first element that stops a check
record IsFirst {X : Type 0} (Goes : List X → Type 0) (Stops : List X → X → Type 0) (whole : List X) : Type 0 where
  before : List X
  here : X
  after : List X
  whole_is : whole ≡ before ++ here ∷ after
  goes : Goes before
  stops : Stops before here

-- a check that goes through some elements isn't stopped by any of them
abbrev GoesNoFurther : {X : Type 0} → (List X → Type 0) → (List X → X → Type 0) → Type 0
GoesNoFurther {X} Goes Stops = (before : List X) (here : X) (after : List X) → Stops before here → Goes (before ++ here ∷ after) → ⊥

no_first : {X : Type 0} {Goes : List X → Type 0} {Stops : List X → X → Type 0} {whole : List X} → IsFirst Goes Stops whole → GoesNoFurther Goes Stops →
    Goes whole → ⊥
no_first {X} {Goes} first never goes = never first.before first.here first.after first.stops (subst Goes first.whole_is goes)

one_split : {X : Type 0} (Goes : List X → Type 0) (Stops : List X → X → Type 0) → GoesNoFurther Goes Stops →
    (before : List X) (here : X) (after others : List X) (other : X) (behind : List X)
    → before ++ here ∷ after ≡ others ++ other ∷ behind → Goes before → Goes others → Stops before here → Stops others other → (length before ≡ length others) ×
    (here ≡ other)
one_split Goes Stops never [] here after [] other behind same goes too stops and = (refl, (let e : here ≡ other = cc in e))
one_split Goes Stops never [] here after (x ∷ others) other behind same goes too stops and =
    let e : x ≡ here = cc in absurd (never [] here others stops (subst (λ y. Goes (y ∷ others)) e too))
one_split Goes Stops never (x ∷ before) here after [] other behind same goes too stops and =
    let e : x ≡ other = cc in absurd (never [] other before and (subst (λ y. Goes (y ∷ before)) e goes))
one_split Goes Stops never (x ∷ before) here after (y ∷ others) other behind same goes too stops and =
    let e : y ≡ x = cc in
    let rest : before ++ here ∷ after ≡ others ++ other ∷ behind = cc in
    let it = one_split (λ xs. Goes (x ∷ xs)) (λ xs z. Stops (x ∷ xs) z) (λ b h a. never (x ∷ b) h a) before here after others other behind rest goes
    (subst (λ z. Goes (z ∷ others)) e too) stops (subst (λ z. Stops (z ∷ others) other) e and) in
    (ap suc it.0, it.1)

-- a list has one first element that stops a check
one_first : {X : Type 0} {Goes : List X → Type 0} {Stops : List X → X → Type 0} {whole : List X} (x y : IsFirst Goes Stops whole) → GoesNoFurther Goes Stops
    → (length x.before ≡ length y.before) × (x.here ≡ y.here)
one_first {X} {Goes} {Stops} x y never =
    one_split Goes Stops never x.before x.here x.after y.before y.here y.after (sym x.whole_is ∙ y.whole_is) x.goes y.goes x.stops y.stops

-- ---- lines

-- the statement of a line that is read at a place, among statements that have their bytes
record StandsAt (labels : List Label) (line : List ℕ) (from at : ℕ) (statements : List Statement) : Type 0 where
  here : Statement
  right : IsRight line at here
  code : (bytes : List ℕ) → AreBytes labels from statements bytes → (own : List ℕ) × AreBytesOf labels here.operation at own

-- the statement of a line comes after the statements of the lines before it
stands_behind : (labels : List Label) (from : ℕ) (before : List (List ℕ)) (line : List ℕ) (after : List (List ℕ)) (ss ts : List Statement) →
    AreRead from before ss
    → AreRead from (before ++ line ∷ after) ts → StandsAt labels line from (place_after from ss) ts
stands_behind labels from [] line after [] [] read whole = absurd whole
stands_behind labels from [] line after (s ∷ ss) ts read whole = absurd read
stands_behind labels from (l ∷ before) line after [] ts read whole = absurd read
stands_behind labels from (l ∷ before) line after (s ∷ ss) [] read whole = absurd whole
stands_behind labels from [] line after [] (t ∷ ts) read whole = record { here = t; right = whole.0; code = λ bytes are. (are.0, are.4) }
stands_behind labels from (l ∷ before) line after (s ∷ ss) (t ∷ ts) read whole =
    let same : size_of t.operation from ≡ size_of s.operation from =
    size_alike t.operation s.operation from (one_statement l t s whole.0.statement read.0.statement).1 in
    let it = stands_behind labels (from + size_of s.operation from) before line after ss ts read.1
    (subst (λ (n : ℕ). AreRead (from + n) (before ++ line ∷ after) ts) same whole.1) in
    record { here = it.here; right = it.right; code = λ bytes are. it.code are.1 (subst (λ (n : ℕ). AreBytes labels (from + n) ts are.1) same are.5) }

-- the line from which a statement was read
record IsLineOf (from : ℕ) (lines : List (List ℕ)) (before : List Statement) (here : Statement) : Type 0 where
  earlier : List (List ℕ)
  line : List ℕ
  later : List (List ℕ)
  lines_are : lines ≡ earlier ++ line ∷ later
  read : AreRead from earlier before
  right : IsRight line (place_after from before) here

line_of : (from : ℕ) (lines : List (List ℕ)) (before : List Statement) (here : Statement) (after : List Statement) → AreRead from lines (before ++ here ∷ after)
    → IsLineOf from lines before here
line_of from [] [] here after read = absurd read
line_of from [] (s ∷ before) here after read = absurd read
line_of from (line ∷ lines) [] here after read = record { earlier = []; line = line; later = lines; lines_are = refl; read = tt; right = read.0 }
line_of from (line ∷ lines) (s ∷ before) here after read =
    let it = line_of (from + size_of s.operation from) lines before here after read.1 in
    record {
      earlier = line ∷ it.earlier;
      line = it.line;
      later = it.later;
      lines_are = ap (λ (ls : List (List ℕ)). line ∷ ls) it.lines_are;
      read =
          (read.0, it.read);
      right = it.right;
    }

-- ---- the first check: lines that are read, up to a bad one

record AreReadAs (lines : List (List ℕ)) : Type 0 where
  statements : List Statement
  read : AreRead 0 lines statements

record IsBadBehind (before : List (List ℕ)) (line : List ℕ) : Type 0 where
  statements : List Statement
  read : AreRead 0 before statements
  bad : IsBad line (place_after 0 statements)

bad_or_read : GoesNoFurther AreReadAs IsBadBehind
bad_or_read before line after stops goes =
    let it = stands_behind [] 0 before line after stops.statements goes.statements stops.read goes.read in
    elim stops.bad [
      | inl none ↦ none it.here it.right.statement
      | inr other ↦ other.askew (aligned_alike it.here.operation other.here.operation (place_after 0 stops.statements)
          (one_statement line it.here other.here it.right.statement other.statement).1 it.right.aligned)
    ]

-- ---- the second: names, up to one that occurs earlier

twice_or_once : GoesNoFurther AreOnce Contains
twice_or_once earlier name later (k, within, is) once =
    let first : get_or (earlier ++ name ∷ later) k name ≡ name = get_or_append_left earlier (name ∷ later) name k within ∙ is in
    let second : get_or (earlier ++ name ∷ later) (length earlier + 0) name ≡ name = get_or-append-add earlier (name ∷ later) 0 name in
    once k (length earlier + 0) name (omega arith) (omega (arith, length-append earlier (name ∷ later))) (first ∙ sym second)

-- ---- the third: destinations, up to one that is no label

stands_there : {X : Type 0} (earlier : List X) (x : X) (later : List X) → Contains (earlier ++ x ∷ later) x
stands_there earlier x later = Contains-append_right earlier (x ∷ later) x (0, omega arith, refl)

missing_or_there : (names : List (List ℕ)) → GoesNoFurther (All (Contains names)) (λ earlier name. Contains names name → ⊥)
missing_or_there names earlier name later missing there = missing
    (All-contains (Contains names) (earlier ++ name ∷ later) name there (stands_there earlier name later))

-- ---- the fourth: lines that have their bytes, up to one that is out of reach

-- a name that occurs once has one place
apart : (labels : List Label) (one other : Label) (i j : ℕ) → AreOnce (names_of labels) → one.name ≡ other.name → i < j → j < length labels
    → get_or labels i one ≡ one → get_or labels j other ≡ other → ⊥
apart labels one other i j once same before within x y =
    let first : get_or (names_of labels) i one.name ≡ one.name = get_or-map (λ (l : Label). l.name) labels i one one.name (omega arith) ∙
    ap (λ (l : Label). l.name) x in
    let second : get_or (names_of labels) j one.name ≡ other.name = get_or-map (λ (l : Label). l.name) labels j other one.name within ∙
    ap (λ (l : Label). l.name) y in
    once i j one.name before (rw length-map within) (first ∙ same ∙ sym second)

one_place : (labels : List Label) (one other : Label) → AreOnce (names_of labels) → one.name ≡ other.name → Contains labels one → Contains labels other →
    one.place ≡ other.place
one_place labels one other once same (i, inside, x) (j, within, y) =
    let not_before : i < j → ⊥ = λ lt. apart labels one other i j once same lt within x y in
    let not_behind : j < i → ⊥ = λ lt. apart labels other one j i once (sym same) lt inside y x in
    let at : i ≡ j = omega arith in
    ap (λ (l : Label). l.place) (sym x ∙ get_or_default labels i one other inside ∙ ap (λ (n : ℕ). get_or labels n other) at ∙ y)

one_address : (labels : List Label) (to too : Destination) (a b : ℕ) → AreOnce (names_of labels) → AreAlikeDestinations to too → LeadsTo labels to a →
    LeadsTo labels too b → a ≡ b
one_address labels (destinations.Label name) (destinations.Label other) a b once same x y =
    one_place labels (record { name = name.now; place = a }) (record { name = other.now; place = b }) once same x y
one_address labels (destinations.Address one) (destinations.Address other) a b once same x y = x ∙ same ∙ sym y
one_address labels to too a b once same x y = absurd same

beyond_or_code : (labels : List Label) (one other : Operation) (at : ℕ) (bytes : List ℕ) → AreOnce (names_of labels) → AreAlikeOperations one other →
    GoesBeyond labels one at
    → AreBytesOf labels other at bytes → ⊥
beyond_or_code labels (Aimed aim to) (Aimed other too) at bytes once same beyond code =
    let address : beyond.address ≡ code.address = one_address labels to too beyond.address code.address once same.1 beyond.leads code.leads in
    beyond.none code.code.instr
    (subst (λ (n : ℕ). StandsFor code.code.instr at (form.Aimed aim n)) (sym address)
    (subst (λ (a : Aim). StandsFor code.code.instr at (form.Aimed a code.address)) (sym same.0) code.code.stands))
beyond_or_code labels (Aimed aim to) other at bytes once same beyond code = absurd same
beyond_or_code labels one other at bytes once same beyond code = beyond

record HaveBytes (labels : List Label) (lines : List (List ℕ)) : Type 0 where
  statements : List Statement
  read : AreRead 0 lines statements
  bytes : List ℕ
  are : AreBytes labels 0 statements bytes

record IsBeyondBehind (labels : List Label) (before : List (List ℕ)) (line : List ℕ) : Type 0 where
  statements : List Statement
  read : AreRead 0 before statements
  here : Statement
  statement : IsStatement line here
  beyond : GoesBeyond labels here.operation (place_after 0 statements)

record IsFirstBeyondLine (labels : List Label) (lines : List (List ℕ)) (line : ℕ) : Type 0 where
  first : IsFirst (HaveBytes labels) (IsBeyondBehind labels) lines
  line_is : line ≡ length first.before + 1

beyond_or_bytes : (labels : List Label) → AreOnce (names_of labels) → GoesNoFurther (HaveBytes labels) (IsBeyondBehind labels)
beyond_or_bytes labels once before line after stops goes =
    let it = stands_behind labels 0 before line after stops.statements goes.statements stops.read goes.read in
    let own = it.code goes.bytes goes.are in
    beyond_or_code labels stops.here.operation it.here.operation (place_after 0 stops.statements) own.0 once
    (one_statement line stops.here it.here stops.statement it.right.statement).1 stops.beyond own.1

-- ---- texts

-- two readings of a text have the same labels
one_labels : {text : List ℕ} {ss ts : List Statement} {ls ms : List Label} → AreOfText text ss ls → AreOfText text ts ms → ls ≡ ms
one_labels {text} {ss} {ts} x y = x.labels_are ∙ (same_names 0 (lines_of text) ss ts x.read y.read).0 ∙ sym y.labels_are

one_destinations : {text : List ℕ} {ss ts : List Statement} {ls ms : List Label} → AreOfText text ss ls → AreOfText text ts ms →
    destinations_of ss ≡ destinations_of ts
one_destinations {text} {ss} {ts} x y = (same_names 0 (lines_of text) ss ts x.read y.read).1

first_bad : {lines : List (List ℕ)} {line : ℕ} → IsFirstBad lines line → IsFirst AreReadAs IsBadBehind lines
first_bad is = record {
  before = is.before;
  here = is.here;
  after = is.after;
  whole_is = is.lines_are;
  goes = record { statements = is.statements; read = is.read };
  stops = record { statements = is.statements; read = is.read; bad = is.bad };
}

first_twice : {names : List (List ℕ)} {name : List ℕ} → IsFirstTwice names name → IsFirst AreOnce Contains names
first_twice {names} {name} is = record { before = is.earlier; here = name; after = is.later; whole_is = is.names_are; goes = is.once; stops = is.twice }

first_missing : {destinations names : List (List ℕ)} {name : List ℕ} → IsFirstMissing destinations names name
    → IsFirst (All (Contains names)) (λ earlier name. Contains names name → ⊥) destinations
first_missing {destinations} {names} {name} is =
    record { before = is.earlier; here = name; after = is.later; whole_is = is.destinations_are; goes = is.there; stops = is.missing }

-- the first statement out of reach is on one line only
first_beyond : {lines : List (List ℕ)} {statements : List Statement} {labels : List Label} {line : ℕ} → AreRead 0 lines statements →
    IsFirstBeyond labels statements line
    → IsFirstBeyondLine labels lines line
first_beyond {lines} {statements} {labels} read is =
    let at = line_of 0 lines is.before is.here is.after (subst (λ (ss : List Statement). AreRead 0 lines ss) is.statements_are read) in
    record {
      first = record {
        before = at.earlier;
        here = at.line;
        after = at.later;
        whole_is = at.lines_are;
        goes = record { statements = is.before; read = at.read; bytes = is.bytes; are = is.reached };
        stops = record { statements = is.before; read = at.read; here = is.here; statement = at.right.statement; beyond = is.beyond };
      };
      line_is = is.line_is ∙ ap (λ (n : ℕ). n + 1) (read_long 0 at.earlier is.before at.read);
    }

-- a check that goes through a text doesn't stop in it
no_bad : {text : List ℕ} {line : ℕ} {ss : List Statement} {ls : List Label} → IsFirstBad (lines_of text) line → AreOfText text ss ls → ⊥
no_bad {text} {line} {ss} is has = no_first (first_bad is) bad_or_read (record { statements = ss; read = has.read })

no_twice : {text name : List ℕ} {ss : List Statement} {ls : List Label} → HasTwiceLabel text name → HasLabelsOnce text ss ls → ⊥
no_twice is has = no_first (first_twice is.twice) twice_or_once (subst (λ (ls : List Label). AreOnce (names_of ls)) (one_labels has.read is.read) has.once)

no_missing : {text name : List ℕ} {ss : List Statement} {ls : List Label} → HasNoLabel text name → HasDestinations text ss ls → ⊥
no_missing {text} {name} {ss} is has =
    let there : All (Contains (names_of is.labels)) (destinations_of ss) = subst (λ (ls : List Label). All (Contains (names_of ls)) (destinations_of ss))
    (one_labels has.read.read is.read.read) has.there in
    no_first (first_missing is.missing) (missing_or_there (names_of is.labels))
    (subst (λ (ns : List (List ℕ)). All (Contains (names_of is.labels)) ns) (one_destinations has.read.read is.read.read) there)

no_beyond : {text : List ℕ} {line : ℕ} {code : Code} → HasOutOfReach text line → IsAssembled text code → ⊥
no_beyond {text} {line} {code} is has =
    no_first (first_beyond is.read.read.read.read is.beyond).first (beyond_or_bytes is.labels is.read.read.once)
    (record {
      statements = has.statements;
      read = has.read.read.read.read;
      bytes = code.bytes;
      are = subst (λ (ls : List Label). AreBytes ls 0 has.statements code.bytes) (one_labels has.read.read.read is.read.read.read) has.bytes;
    })

-- the first bad line is one line only
one_bad : {lines : List (List ℕ)} {a b : ℕ} → IsFirstBad lines a → IsFirstBad lines b → a ≡ b
unfolding first_bad
one_bad x y = x.line_is ∙ ap (λ (n : ℕ). n + 1) (one_first (first_bad x) (first_bad y) bad_or_read).0 ∙ sym y.line_is

one_twice : {text a b : List ℕ} → HasTwiceLabel text a → HasTwiceLabel text b → a ≡ b
unfolding first_twice
one_twice {text} {a} {b} x y =
    let too = subst (λ (ls : List Label). IsFirstTwice (names_of ls) b) (one_labels y.read x.read) y.twice in
    (one_first (first_twice x.twice) (first_twice too) twice_or_once).1

one_missing : {text a b : List ℕ} → HasNoLabel text a → HasNoLabel text b → a ≡ b
unfolding first_missing
one_missing {text} {a} {b} x y =
    let too = subst (λ (ls : List Label). IsFirstMissing (destinations_of y.statements) (names_of ls) b) (one_labels y.read.read x.read.read) y.missing in
    let also = subst (λ (ts : List (List ℕ)). IsFirstMissing ts (names_of x.labels) b) (one_destinations y.read.read x.read.read) too in
    (one_first (first_missing x.missing) (first_missing also) (missing_or_there (names_of x.labels))).1

one_beyond : {text : List ℕ} {a b : ℕ} → HasOutOfReach text a → HasOutOfReach text b → a ≡ b
one_beyond {text} {a} {b} x y =
    let too = subst (λ (ls : List Label). IsFirstBeyond ls y.statements b) (one_labels y.read.read.read x.read.read.read) y.beyond in
    let p = first_beyond x.read.read.read.read x.beyond in
    let q = first_beyond y.read.read.read.read too in
    p.line_is ∙ ap (λ (n : ℕ). n + 1) (one_first p.first q.first (beyond_or_bytes x.labels x.read.read.once)).0 ∙ sym q.line_is

pub refused_or_assembled : RefusedOrAssembled
refused_or_assembled text (BadWord line) code other refused has = no_bad refused has.read.read.read
refused_or_assembled text (TwiceLabel name) code other refused has = no_twice refused has.read.read
refused_or_assembled text (NoLabel name) code other refused has = no_missing refused has.read
refused_or_assembled text (OutOfReach line) code other refused has = no_beyond refused has
refused_or_assembled text OutOfMemory code other refused has = other refl

pub one_refusal : OneRefusal
one_refusal text OutOfMemory other p q x y = absurd (p refl)
one_refusal text one OutOfMemory p q x y = absurd (q refl)
one_refusal text (BadWord a) (BadWord b) p q x y = ap BadWord (one_bad x y)
one_refusal text (BadWord a) (TwiceLabel b) p q x y = absurd (no_bad x y.read)
one_refusal text (BadWord a) (NoLabel b) p q x y = absurd (no_bad x y.read.read)
one_refusal text (BadWord a) (OutOfReach b) p q x y = absurd (no_bad x y.read.read.read)
one_refusal text (TwiceLabel a) (BadWord b) p q x y = absurd (no_bad y x.read)
one_refusal text (TwiceLabel a) (TwiceLabel b) p q x y = ap TwiceLabel (one_twice x y)
one_refusal text (TwiceLabel a) (NoLabel b) p q x y = absurd (no_twice x y.read)
one_refusal text (TwiceLabel a) (OutOfReach b) p q x y = absurd (no_twice x y.read.read)
one_refusal text (NoLabel a) (BadWord b) p q x y = absurd (no_bad y x.read.read)
one_refusal text (NoLabel a) (TwiceLabel b) p q x y = absurd (no_twice y x.read)
one_refusal text (NoLabel a) (NoLabel b) p q x y = ap NoLabel (one_missing x y)
one_refusal text (NoLabel a) (OutOfReach b) p q x y = absurd (no_missing x y.read)
one_refusal text (OutOfReach a) (BadWord b) p q x y = absurd (no_bad y x.read.read.read)
one_refusal text (OutOfReach a) (TwiceLabel b) p q x y = absurd (no_twice y x.read.read)
one_refusal text (OutOfReach a) (NoLabel b) p q x y = absurd (no_missing y x.read)
one_refusal text (OutOfReach a) (OutOfReach b) p q x y = ap OutOfReach (one_beyond x y)
