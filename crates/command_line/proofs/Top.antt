-- The walk over all the words of the program.
use Rattle.std.proofs.Common.{◌≡◌, ◌≢◌, ◌≤◌, ℕ, true, false, List, [], ◌∷◌, ◌++◌, codes, length, Option, Some, None, refl, ap, append_assoc, ◌∙◌, sym}
use Rattle.std.proofs.Common.{fold, arith, slice_get, is_some, inl, inr, find, map, subst}
use Rattle.std.proofs.lemmas.Bool.{cases_Bool}
use Rattle.std.proofs.lemmas.List.{append-nil}
use Rattle.std.proofs.lemmas.Option.{same_Some}
use Rattle.std.specs.Str.{bytes_eq, chars}
use Rattle.clap.specs.Lexer.{long_of, short_of, usize_max}
use Rattle.clap.specs.Walk.{Row, Walk, Names, idle, subcommand_met, walked, walk_from, nothing_held, settled, finished}
use Rattle.clap.specs.Simple.{Shape, built, names_of, subcommand_of, entered}
use Rattle.clap.specs.Kinds.{Kinds, or_else}
use Rattle.clap.specs.Faults.{turn_fault, walk_fault, defaults_fault, flags_fault, bundle_fault, fault_of, entered_fault, settle_fault, check_fault}
use Rattle.clap.specs.declared.error.kind.ErrorKind.{ErrorKind}
use Rattle.clap.specs.declared.error.kind.ErrorKind.TheVariants as kind
use Rattle.command_line.specs.Made.{tool}
use Rattle.command_line.specs.Rows.{told, asked}
use Rattle.command_line.specs.Scan.{Text, Said, dashes, commands, command_of, scan, with_command, says, AreTexts}
use Rattle.command_line.proofs.Leaf.{rules, built_as, sample, none, walk_at}
use Rattle.command_line.proofs.Shorts.{AreTexts-Shorts}
use Rattle.command_line.proofs.LeafWalk.{Tells, Short, Shorts, free, faults_from, rows_from}

-- the walk gives this command with its rows
abbrev pub TellsAll : Option (Text × List Text × List Text) → Kinds → Option (Text × List Row) → Type 0
TellsAll None faults sub = faults ≢ []
TellsAll (Some p) faults sub = (faults ≡ []) × (rows : List Row) × (sub ≡ Some (p.0, rows)) × (told (codes "raw-at") rows ≡ p.1)
    × (told (codes "names") rows ≡ p.2)

abbrev top : Shape
top = (built tool).top

abbrev names : Names
names = names_of (built tool)

-- the walk after it met a command
abbrev met : Text → List Text → Walk
met c ws = record (walk_from nothing_held) { stopped = Some (c, ws) }

met_one : (c : Text) (seen : List Text) (w : Text) → walked [] names (met c seen) w ≡ met c (seen ++ w ∷ [])
unfolding walked
met_one c seen w = refl

met_all : (c : Text) (seen ws : List Text) → fold (walked [] names) (met c seen) ws ≡ met c (seen ++ ws)
met_all c seen [] = ap (met c) (sym (append-nil seen))
met_all c seen (w ∷ ws) =
    ap (λ (x : Walk). fold (walked [] names) x ws) (met_one c seen w) ∙ met_all c (seen ++ w ∷ []) ws ∙ ap (met c) (append_assoc seen (w ∷ []) ws)

met_fault : (c : Text) (seen ws : List Text) → walk_fault top names (met c seen) ws ≡ []
unfolding walk_fault walked
met_fault c seen [] = refl
met_fault c seen (w ∷ ws) = met_fault c (seen ++ w ∷ []) ws

none_fault : fault_of tool [] ≢ []
unfolding walk_fault defaults_fault
none_fault = λ e. cc

-- A first word that names a command, among any names.

found_step : (ns : Names) (w c : Text) → subcommand_met ns idle w ≡ Some c → walked [] ns (walk_from nothing_held) w ≡ met c []
unfolding walked
found_step ns w c e = rw e refl

found_turn : (ns : Names) (w c : Text) → subcommand_met ns idle w ≡ Some c → turn_fault top ns (walk_from nothing_held) w ≡ []
found_turn ns w c e = elim (cases_Bool (bytes_eq c (codes "help"))) [
  | inl hit ↦ rw (e, hit) refl
  | inr miss ↦ rw (e, miss) refl
]

dashes_step : (ns : Names) (w : Text) → subcommand_met ns idle w ≡ None → bytes_eq w dashes ≡ true
    → walked [] ns (walk_from nothing_held) w ≡ record (walk_from nothing_held) { is_trailing = true }
unfolding walked
dashes_step ns w e d = rw (e, d) refl

dashes_turn : (ns : Names) (w : Text) → subcommand_met ns idle w ≡ None → bytes_eq w dashes ≡ true → turn_fault top ns (walk_from nothing_held) w ≡ []
dashes_turn ns w e d = rw (e, d) refl

told_all : (c : Text) (said : Option Said) (f f' : Kinds) (rows : List Row) (sub : Option (Text × List Row)) → f' ≡ f → sub ≡ Some (c, rows)
    → Tells said f rows → TellsAll (with_command (Some c) said) f' sub
told_all c None f f' rows sub e d h = rw e h
told_all c (Some p) f f' rows sub e d h = (e ∙ h.0, rows, d, h.1, h.2)

-- the faults after the walk
abbrev rest : Walk → Kinds
rest end = or_else (entered_fault (built tool) end.stopped) (or_else (settle_fault [] false end.held)
    (or_else (defaults_fault (settled [] end.held).rows []) (check_fault top (finished [] end.held) (is_some (entered (built tool) end.stopped)))))

split : (w : Text) (ws : List Text) → fault_of tool (w ∷ ws)
    ≡ or_else (or_else (turn_fault top names (walk_from nothing_held) w) (walk_fault top names (walked [] names (walk_from nothing_held) w) ws))
    (rest (fold (walked [] names) (walked [] names (walk_from nothing_held) w) ws))
unfolding walk_fault
split w ws = refl

or_else-nil : (ks : Kinds) → or_else ks [] ≡ ks
or_else-nil [] = refl
or_else-nil (k ∷ ks) = refl

-- The name of a command changes nothing in its walk.

same_walk : (c : Text) (now : Walk) (ws : List Text) → walk_fault (built_as c) [] now ws ≡ walk_fault sample [] now ws
unfolding walk_fault
same_walk c now [] = refl
same_walk c now (w ∷ ws) = ap (or_else (turn_fault sample [] now w)) (same_walk c (walked rules [] now w) ws)

abbrev IsKnown : Text → Type 0
IsKnown c = ((ws : List Text) → rest (met c ws) ≡ faults_from (walk_at false none []) ws)
    × ((ws : List Text) → entered (built tool) (Some (c, ws)) ≡ Some (c, rows_from (walk_at false none []) ws))

known_program : IsKnown (codes "program")
unfolding defaults_fault
known_program = (λ ws. rw (same_walk (codes "program") (walk_at false none []) ws) (or_else-nil (faults_from (walk_at false none []) ws)), λ ws. refl)

known_begin : IsKnown (codes "begin")
unfolding defaults_fault
known_begin = (λ ws. rw (same_walk (codes "begin") (walk_at false none []) ws) (or_else-nil (faults_from (walk_at false none []) ws)), λ ws. refl)

known_resume : IsKnown (codes "resume")
unfolding defaults_fault
known_resume = (λ ws. rw (same_walk (codes "resume") (walk_at false none []) ws) (or_else-nil (faults_from (walk_at false none []) ws)), λ ws. refl)

known_revert : IsKnown (codes "revert")
unfolding defaults_fault
known_revert = (λ ws. rw (same_walk (codes "revert") (walk_at false none []) ws) (or_else-nil (faults_from (walk_at false none []) ws)), λ ws. refl)

known_plan : IsKnown (codes "plan")
unfolding defaults_fault
known_plan = (λ ws. rw (same_walk (codes "plan") (walk_at false none []) ws) (or_else-nil (faults_from (walk_at false none []) ws)), λ ws. refl)

known_verify : IsKnown (codes "verify")
unfolding defaults_fault
known_verify = (λ ws. rw (same_walk (codes "verify") (walk_at false none []) ws) (or_else-nil (faults_from (walk_at false none []) ws)), λ ws. refl)

known_compare : IsKnown (codes "compare")
unfolding defaults_fault
known_compare = (λ ws. rw (same_walk (codes "compare") (walk_at false none []) ws) (or_else-nil (faults_from (walk_at false none []) ws)), λ ws. refl)

known_status : IsKnown (codes "status")
unfolding defaults_fault
known_status = (λ ws. rw (same_walk (codes "status") (walk_at false none []) ws) (or_else-nil (faults_from (walk_at false none []) ws)), λ ws. refl)

known_inspect : IsKnown (codes "inspect")
unfolding defaults_fault
known_inspect = (λ ws. rw (same_walk (codes "inspect") (walk_at false none []) ws) (or_else-nil (faults_from (walk_at false none []) ws)), λ ws. refl)

known_dump : IsKnown (codes "dump")
unfolding defaults_fault
known_dump = (λ ws. rw (same_walk (codes "dump") (walk_at false none []) ws) (or_else-nil (faults_from (walk_at false none []) ws)), λ ws. refl)

known_demo : IsKnown (codes "demo")
unfolding defaults_fault
known_demo = (λ ws. rw (same_walk (codes "demo") (walk_at false none []) ws) (or_else-nil (faults_from (walk_at false none []) ws)), λ ws. refl)

-- P holds of each of the names
abbrev Each : (Text → Type 0) → List Text → Type 0
Each P [] = Unit {0}
Each P (n ∷ ns) = P n × Each P ns

all_known : Each IsKnown commands
all_known = (
  known_program,
  (
    known_begin,
    (
      known_resume,
      (
        known_revert,
        (known_plan, (known_verify, (known_compare, (known_status, (known_inspect, (known_dump, (known_demo, tt))))))),
      ),
    ),
  ),
)

-- what holds of each name holds of the one that was found
found_one : (P : Text → Type 0) (w c : Text) (ns : List Text) → Each P ns → find (λ n. bytes_eq n w) ns ≡ Some c → P c
found_one P w c [] each e = cc
found_one P w c (n ∷ ns) each e = elim (cases_Bool (bytes_eq n w)) [
  | inl hit ↦ let same : Some n ≡ Some c = rw hit at e in subst P (same_Some _ _ same) each.0
  | inr miss ↦ let later : find (λ m. bytes_eq m w) ns ≡ Some c = rw miss at e in found_one P w c ns each.1 later
]

-- names without aliases
abbrev labels : List Text → Names
labels ns = map (λ n. (n, [])) ns

met_so : (w : Text) (ns : List Text) → subcommand_met (labels ns) idle w ≡ find (λ n. bytes_eq n w) ns
met_so w [] = refl
met_so w (n ∷ ns) = elim (cases_Bool (bytes_eq n w)) [
  | inl hit ↦ rw hit refl
  | inr miss ↦ rw miss (met_so w ns)
]

met_is : (w : Text) → subcommand_met names idle w ≡ command_of w
met_is w = met_so w commands

-- a first word that names a command
known : (c w : Text) (ws : List Text) → turn_fault top names (walk_from nothing_held) w ≡ [] → walked [] names (walk_from nothing_held) w ≡ met c []
    → rest (met c ws) ≡ faults_from (walk_at false none []) ws
    → entered (built tool) (Some (c, ws)) ≡ Some (c, rows_from (walk_at false none []) ws)
    → (said : Option Said) → Tells said (faults_from (walk_at false none []) ws) (rows_from (walk_at false none []) ws)
    → TellsAll (with_command (Some c) said) (fault_of tool (w ∷ ws)) (subcommand_of tool (w ∷ ws))
known c w ws t e r sub said tells =
    let end : fold (walked [] names) (walked [] names (walk_from nothing_held) w) ws ≡ met c ws =
    ap (λ (x : Walk). fold (walked [] names) x ws) e ∙ met_all c [] ws in
    let none_walk : walk_fault top names (walked [] names (walk_from nothing_held) w) ws ≡ [] =
    ap (λ (x : Walk). walk_fault top names x ws) e ∙ met_fault c [] ws in
    let faults : fault_of tool (w ∷ ws) ≡ faults_from (walk_at false none []) ws = split w ws ∙ rw (t, none_walk, end) r in
    let entry : subcommand_of tool (w ∷ ws) ≡ Some (c, rows_from (walk_at false none []) ws) =
    ap (λ (x : Walk). entered (built tool) x.stopped) end ∙ sub in
    told_all c said _ _ _ _ faults entry tells

-- a first word that names no command
refused : (k : ErrorKind) (ks : Kinds) (w : Text) (ws : List Text) → turn_fault top names (walk_from nothing_held) w ≡ k ∷ ks → fault_of tool (w ∷ ws) ≢ []
refused k ks w ws t = rw (split w ws, t) (λ e. cc)

bundle_unknown : (flags : Text) (x : ℕ) → slice_get (chars flags) 0 ≡ Some x → bundle_fault [] false flags nothing_held ≡ kind.UnknownArgument ∷ []
unfolding flags_fault chars
bundle_unknown [] x first = cc
bundle_unknown (y ∷ ys) x first = rw first refl

abbrev trailing : Walk
trailing = record (walk_from nothing_held) { is_trailing = true }

trailing_refused : (ws : List Text) → or_else (walk_fault top names trailing ws) (rest (fold (walked [] names) trailing ws)) ≢ []
unfolding walk_fault defaults_fault
trailing_refused [] = λ e. cc
trailing_refused (w ∷ ws) = λ e. cc

dashes_refused : (w : Text) (ws : List Text) → subcommand_met names idle w ≡ None → bytes_eq w dashes ≡ true → fault_of tool (w ∷ ws) ≢ []
dashes_refused w ws e d = rw (split w ws, dashes_turn names w e d, dashes_step names w e d) (trailing_refused ws)

unknown_turn : (ns : Names) (w : Text) (found : Option (Text × Option Text)) (flags : Option Text) → bytes_eq w dashes ≡ false → found ≡ long_of w
    → flags ≡ short_of w
    → subcommand_met ns idle w ≡ None → Short w → (k : ErrorKind) × (ks : Kinds) × (turn_fault top ns (walk_from nothing_held) w ≡ k ∷ ks)
unknown_turn ns w (Some (nm, v)) flags d l s e short = (kind.UnknownArgument, [], rw (e, d, sym l) refl)
unknown_turn ns w None (Some fs) d l s e short =
    let first = short fs (sym s) in
    (kind.UnknownArgument, [], rw (e, d, sym l, sym s, bundle_unknown fs first.0 first.1) refl)
unknown_turn ns w None None d l s e short = (kind.UnknownArgument, kind.InvalidSubcommand ∷ [], rw (e, d, sym l, sym s) refl)

unknown : (w : Text) (ws : List Text) → subcommand_met names idle w ≡ None → Short w → fault_of tool (w ∷ ws) ≢ []
unknown w ws e short = elim (cases_Bool (bytes_eq w dashes)) [
  | inl hit ↦ dashes_refused w ws e hit
  | inr miss ↦ let turn = unknown_turn names w (long_of w) (short_of w) miss refl refl e short in refused turn.0 turn.1 w ws turn.2
]

first_word : (w : Text) (ws : List Text) (found : Option Text) → found ≡ command_of w → Short w → Shorts ws → length ws ≤ usize_max
    → TellsAll (with_command found (scan [] [] ws)) (fault_of tool (w ∷ ws)) (subcommand_of tool (w ∷ ws))
first_word w ws (Some c) e short shorts fits =
    let here : subcommand_met names idle w ≡ Some c = met_is w ∙ sym e in
    let known_c = found_one IsKnown w c commands all_known (sym e) in
    known c w ws (found_turn names w c here) (found_step names w c here) (known_c.0 ws) (known_c.1 ws) (scan [] [] ws) (free ws shorts none [] (omega arith))
first_word w ws None e short shorts fits = unknown w ws (met_is w ∙ sym e) short

-- `clap` accepts the words exactly if they say something
pub taken : (words : List Text) → Shorts words → length words ≤ usize_max → TellsAll (says words) (fault_of tool words) (subcommand_of tool words)
taken [] shorts fits = none_fault
taken (w ∷ ws) shorts fits = first_word w ws (command_of w) refl shorts.0 shorts.1 (omega arith)

agrees : (o : Option (Text × List Text × List Text)) (f : Kinds) (sub : Option (Text × List Row)) → TellsAll o f sub → f ≡ [] → asked sub ≡ o
agrees None f sub h e = absurd (h e)
agrees (Some p) f sub h e = rw (h.2, h.3, h.4) refl

refuses : (o : Option (Text × List Text × List Text)) (f : Kinds) (sub : Option (Text × List Row)) → TellsAll o f sub → f ≢ [] → o ≡ None
refuses None f sub h n = refl
refuses (Some p) f sub h n = absurd (n h.0)

-- words that `clap` accepts are read as what they say
pub asked_is : (words : List Text) → AreTexts words → length words ≤ usize_max → fault_of tool words ≡ [] → asked (subcommand_of tool words) ≡ says words
asked_is words texts fits e = agrees (says words) _ _ (taken words (AreTexts-Shorts words texts) fits) e

-- words that `clap` refuses say nothing
pub says_none : (words : List Text) → AreTexts words → length words ≤ usize_max → fault_of tool words ≢ [] → says words ≡ None
says_none words texts fits n = refuses (says words) _ _ (taken words (AreTexts-Shorts words texts) fits) n
