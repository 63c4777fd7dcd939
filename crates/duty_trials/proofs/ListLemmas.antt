-- Lists of calls as the members of a set.
use Rattle.std.proofs.Common.{◌≡◌, ◌<◌, ◌≤◌, ◌+◌, ◌∙◌, ℕ, zero, suc, Bool, true, false, List, [], ◌∷◌, ◌++◌, map, length, take, drop}
use Rattle.std.proofs.Common.{get_or, refl, sym, ap, append_assoc, add-one, zero-add, arith}
use Rattle.flm_descriptor.specs.Shape.{range_at}
use Rattle.page_geometry.specs.Geometry.{Geometry}
use Rattle.page_geometry.specs.Ideal.{erasures, bytes_in, writes}
use Rattle.page_geometry.specs.Ideal as act
use Rattle.algo_calls.specs.declared.call.Call.TheVariants as call
use Rattle.algo_calls.specs.Setups.{Setup}
use Rattle.algo_calls.specs.Frames.{asked}
use Rattle.algo_calls.specs.Duties.{Duty, Acting, Quiet, checks, works_of, duties_of}
use Rattle.duty_trials.specs.declared.list.Work.{Work}
use Rattle.duty_trials.specs.declared.list.Work.TheVariants as work
use Rattle.duty_trials.specs.declared.list.Turn.{Turn}
use Rattle.duty_trials.specs.declared.list.Turn.TheVariants as turn
use Rattle.duty_trials.specs.Lists.{members, work_on, phase_of, init_of, uninit_of, duty_at, before_turn}

-- ---- members of a set

pub members_same : (f g : ℕ → Duty) (bs : List Bool) (k : ℕ) → ((j : ℕ) → k ≤ j → j < k + length bs → f j ≡ g j) → members f k bs ≡ members g k bs
members_same f g [] k same = refl
members_same f g (true ∷ bs) k same =
    ap (λ (x : Duty). x ∷ members f (k + 1) bs) (same k (omega arith) (omega arith))
    ∙ ap (λ (xs : List Duty). g k ∷ xs) (members_same f g bs (k + 1) (λ j from below. same j (omega (arith, from)) (omega (arith, below))))
members_same f g (false ∷ bs) k same = members_same f g bs (k + 1) (λ j from below. same j (omega (arith, from)) (omega (arith, below)))

more : (f : ℕ → Duty) (p : ℕ) (set : List Bool) (k : ℕ) → get_or set k false ≡ true
    → members f p (take (suc k) set) ≡ members f p (take k set) ++ f (p + k) ∷ []
more f p [] k is = let no : false ≡ true = is in absurd cc
more f p (true ∷ rest) zero is = let e : p ≡ p + 0 = omega arith in ap (λ (n : ℕ). f n ∷ []) e
more f p (false ∷ rest) zero is = let no : false ≡ true = is in absurd cc
more f p (true ∷ rest) (suc k) is =
    let e : p + 1 + k ≡ p + suc k = omega arith in
    ap (λ (xs : List Duty). f p ∷ xs) (more f (p + 1) rest k is ∙ ap (λ (n : ℕ). members f (p + 1) (take k rest) ++ f n ∷ []) e)
more f p (false ∷ rest) (suc k) is =
    let e : p + 1 + k ≡ p + suc k = omega arith in
    more f (p + 1) rest k is ∙ ap (λ (n : ℕ). members f (p + 1) (take k rest) ++ f n ∷ []) e

-- a number that is in the set adds a member
pub members_more : (f : ℕ → Duty) (set : List Bool) (k : ℕ) → get_or set k false ≡ true → members f 0 (take (k + 1) set) ≡ members f 0 (take k set) ++ f k ∷ []
members_more f set k is =
    ap (λ (n : ℕ). members f 0 (take n set)) (add-one k) ∙ more f 0 set k is ∙ ap (λ (n : ℕ). members f 0 (take k set) ++ f n ∷ []) (zero-add k)

skip : (f : ℕ → Duty) (p : ℕ) (set : List Bool) (k : ℕ) → get_or set k false ≡ false → members f p (take (suc k) set) ≡ members f p (take k set)
skip f p [] zero is = refl
skip f p [] (suc k) is = refl
skip f p (true ∷ rest) zero is = let no : true ≡ false = is in absurd cc
skip f p (false ∷ rest) zero is = refl
skip f p (true ∷ rest) (suc k) is = ap (λ (xs : List Duty). f p ∷ xs) (skip f (p + 1) rest k is)
skip f p (false ∷ rest) (suc k) is = skip f (p + 1) rest k is

-- a number that isn't in the set adds no member
pub members_skip : (f : ℕ → Duty) (set : List Bool) (k : ℕ) → get_or set k false ≡ false → members f 0 (take (k + 1) set) ≡ members f 0 (take k set)
members_skip f set k is = ap (λ (n : ℕ). members f 0 (take n set)) (add-one k) ∙ skip f 0 set k is

-- the members of a set are those up to a member, that member, and those after it
pub split : (f : ℕ → Duty) (p : ℕ) (set : List Bool) (k : ℕ) → get_or set k false ≡ true
    → members f p set ≡ members f p (take k set) ++ f (p + k) ∷ members f (p + suc k) (drop (suc k) set)
split f p [] k is = let no : false ≡ true = is in absurd cc
split f p (true ∷ rest) zero is =
    let e : p ≡ p + 0 = omega arith in
    let e' : p + 1 ≡ p + suc zero = omega arith in
    ap (λ (n : ℕ). f n ∷ members f (p + 1) rest) e ∙ ap (λ (n : ℕ). f (p + 0) ∷ members f n rest) e'
split f p (false ∷ rest) zero is = let no : false ≡ true = is in absurd cc
split f p (true ∷ rest) (suc k) is =
    let e : p + 1 + k ≡ p + suc k = omega arith in
    let e' : p + 1 + suc k ≡ p + suc (suc k) = omega arith in
    ap (λ (xs : List Duty). f p ∷ xs) (split f (p + 1) rest k is
    ∙ ap (λ (n : ℕ). members f (p + 1) (take k rest) ++ f n ∷ members f (p + 1 + suc k) (drop (suc k) rest)) e
    ∙ ap (λ (n : ℕ). members f (p + 1) (take k rest) ++ f (p + suc k) ∷ members f n (drop (suc k) rest)) e')
split f p (false ∷ rest) (suc k) is =
    let e : p + 1 + k ≡ p + suc k = omega arith in
    let e' : p + 1 + suc k ≡ p + suc (suc k) = omega arith in
    split f (p + 1) rest k is
    ∙ ap (λ (n : ℕ). members f (p + 1) (take k rest) ++ f n ∷ members f (p + 1 + suc k) (drop (suc k) rest)) e
    ∙ ap (λ (n : ℕ). members f (p + 1) (take k rest) ++ f (p + suc k) ∷ members f n (drop (suc k) rest)) e'

none_between : (xs ys : List Duty) (d : Duty) → xs ++ d ∷ ys ≡ [] → ⊥
none_between [] ys d none = let no : d ∷ ys ≡ [] = none in absurd cc
none_between (x ∷ xs) ys d none = let no : x ∷ (xs ++ d ∷ ys) ≡ [] = none in absurd cc

-- a set with a member has work
pub members_some : (f : ℕ → Duty) (p : ℕ) (set : List Bool) (k : ℕ) → get_or set k false ≡ true → members f p set ≡ [] → ⊥
members_some f p set k is none = none_between _ _ _ (sym (split f p set k is) ∙ none)

-- a set of one number that has it
pub only_one : (set : List Bool) (k : ℕ) → length set ≡ 1 → get_or set k false ≡ true → set ≡ true ∷ []
only_one [] k long is = absurd (omega (arith, long))
only_one (true ∷ []) k long is = refl
only_one (false ∷ []) zero long is = let no : false ≡ true = is in absurd cc
only_one (false ∷ []) (suc k) long is = let no : false ≡ true = is in absurd cc
only_one (x ∷ y ∷ rest) k long is = absurd (omega (arith, long))

-- ---- the works of a phase

erasures_are : (bs : List Bool) (k : ℕ) → map Acting (erasures k bs) ≡ members (λ j. Acting (act.EraseSector j)) k bs
unfolding erasures
erasures_are [] k = refl
erasures_are (true ∷ bs) k = ap (λ (xs : List Duty). Acting (act.EraseSector k) ∷ xs) (erasures_are bs (k + 1))
erasures_are (false ∷ bs) k = erasures_are bs (k + 1)

writes_are : (l : Geometry) (want : List ℕ) (bs : List Bool) (k : ℕ)
    → map Acting (writes l want k bs) ≡ members (λ j. Acting (act.ProgramPage j (bytes_in (range_at l.pages j) want))) k bs
unfolding writes
writes_are l want [] k = refl
writes_are l want (true ∷ bs) k = ap (λ (xs : List Duty). Acting (act.ProgramPage k (bytes_in (range_at l.pages k) want)) ∷ xs) (writes_are l want bs (k + 1))
writes_are l want (false ∷ bs) k = writes_are l want bs (k + 1)

checks_are : (s : Setup) (l : Geometry) (cells : List ℕ) (bs : List Bool) (k : ℕ)
    → checks s l cells k bs ≡ members
    (λ j. Quiet (asked (call.Verify (s.algorithm.device.base + (range_at l.pages j).start)) (bytes_in (range_at l.pages j) cells))) k bs
unfolding checks
checks_are s l cells [] k = refl
checks_are s l cells (true ∷ bs) k =
    ap (λ (xs : List Duty). Quiet (asked (call.Verify (s.algorithm.device.base + (range_at l.pages k).start)) (bytes_in (range_at l.pages k) cells)) ∷ xs)
    (checks_are s l cells bs (k + 1))
checks_are s l cells (false ∷ bs) k = checks_are s l cells bs (k + 1)

-- The works of a phase are the members of the set. The chip is the only member of its set, and checks are of the cells as they are.
pub works_are : (s : Setup) (l : Geometry) (w : Work) (set : List Bool) (cells held : List ℕ) → (w ≡ work.Chip → set ≡ true ∷ [])
    → (w ≡ work.Checks → held ≡ cells)
    → works_of s l cells (phase_of w set held) ≡ members (work_on s l w held) 0 set
unfolding works_of
works_are s l work.Sectors set cells held chip still = erasures_are set 0
works_are s l work.Chip set cells held chip still = ap (λ (bs : List Bool). members (work_on s l work.Chip held) 0 bs) (sym (chip refl))
works_are s l work.Pages set cells held chip still = writes_are l held set 0
works_are s l work.Checks set cells held chip still = checks_are s l cells set 0 ∙ ap (λ (c : List ℕ). members (work_on s l work.Checks c) 0 set)
    (sym (still refl))

kinds_are : (s : Setup) (l : Geometry) (w : Work) (set : List Bool) (cells held : List ℕ) (works : List Duty) → works_of s l cells (phase_of w set held) ≡ works
    → duties_of s l cells (phase_of w set held) ≡ init_of w ∷ (works ++ uninit_of w ∷ [])
kinds_are s l work.Sectors set cells held works is = ap (λ (xs : List Duty). init_of work.Sectors ∷ (xs ++ uninit_of work.Sectors ∷ [])) is
kinds_are s l work.Chip set cells held works is = ap (λ (xs : List Duty). init_of work.Chip ∷ (xs ++ uninit_of work.Chip ∷ [])) is
kinds_are s l work.Pages set cells held works is = ap (λ (xs : List Duty). init_of work.Pages ∷ (xs ++ uninit_of work.Pages ∷ [])) is
kinds_are s l work.Checks set cells held works is = ap (λ (xs : List Duty). init_of work.Checks ∷ (xs ++ uninit_of work.Checks ∷ [])) is

-- a turn of a list: one of its ends, or a member of its set
abbrev pub IsTurn : List Bool → Turn → Type 0
IsTurn set turn.Init = Unit {0}
IsTurn set (turn.Member k) = get_or set k false ≡ true
IsTurn set turn.UnInit = Unit {0}

-- the calls of a list after a turn
abbrev pub behind_turn : Setup → Geometry → Work → List Bool → List ℕ → Turn → List Duty
behind_turn s l w set held turn.Init = members (work_on s l w held) 0 set ++ uninit_of w ∷ []
behind_turn s l w set held (turn.Member k) = members (work_on s l w held) (suc k) (drop (suc k) set) ++ uninit_of w ∷ []
behind_turn s l w set held turn.UnInit = []

-- a list is the calls up to a turn, the call of that turn, and the calls after it
list_turns : (s : Setup) (l : Geometry) (w : Work) (set : List Bool) (held : List ℕ) (t : Turn) → IsTurn set t
    → init_of w ∷ (members (work_on s l w held) 0 set ++ uninit_of w ∷ []) ≡ before_turn s l w set held t ++ duty_at s l w held t ∷ behind_turn s l w set held t
list_turns s l w set held turn.Init is = refl
list_turns s l w set held (turn.Member k) is =
    let f : ℕ → Duty = work_on s l w held in
    let front : List Duty = members f 0 (take k set) in
    let one : members f 0 set ≡ front ++ f k ∷ members f (suc k) (drop (suc k) set) =
    split f 0 set k is ∙ ap (λ (n : ℕ). front ++ f n ∷ members f (0 + suc k) (drop (suc k) set)) (zero-add k)
    ∙ ap (λ (n : ℕ). front ++ f k ∷ members f n (drop (suc k) set)) (zero-add (suc k)) in
    ap (λ (xs : List Duty). init_of w ∷ (xs ++ uninit_of w ∷ [])) one
    ∙ ap (λ (xs : List Duty). init_of w ∷ xs) (append_assoc front (f k ∷ members f (suc k) (drop (suc k) set)) (uninit_of w ∷ []))
list_turns s l w set held turn.UnInit is = refl

pub turns : (s : Setup) (l : Geometry) (w : Work) (set : List Bool) (cells held : List ℕ) (t : Turn) → (w ≡ work.Chip → set ≡ true ∷ [])
    → (w ≡ work.Checks → held ≡ cells) → IsTurn set t
    → duties_of s l cells (phase_of w set held) ≡ before_turn s l w set held t ++ duty_at s l w held t ∷ behind_turn s l w set held t
turns s l w set cells held t chip still is = kinds_are s l w set cells held (members (work_on s l w held) 0 set) (works_are s l w set cells held chip still)
    ∙ list_turns s l w set held t is
