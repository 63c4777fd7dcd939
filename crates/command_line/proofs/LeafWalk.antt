-- The walk over all the words of a command that takes an address.
use Rattle.std.proofs.Common.{◌≡◌, ◌≢◌, ◌≤◌, ◌+◌, ℕ, Bool, true, false, List, [], ◌∷◌, ◌++◌, subst, codes, length, Option, Some, None, refl, ap, ap₂, ◌∙◌, sym}
use Rattle.std.proofs.Common.{cond, fold, append_assoc, length-append, arith, inl, inr, slice_get}
use Rattle.std.proofs.lemmas.Bool.{cases_Bool}
use Rattle.std.proofs.lemmas.List.{append-nil}
use Rattle.std.specs.Str.{bytes_eq, chars}
use Rattle.clap.specs.Lexer.{long_of, short_of, usize_max}
use Rattle.clap.specs.Walk.{Rule, Row, Held, Walk, walked, settled, with_default, has_row, finished}
use Rattle.clap.specs.Kinds.{Kinds, or_else}
use Rattle.clap.specs.Faults.{turn_fault, walk_fault, settle_fault, defaults_fault, default_fault, check_fault}
use Rattle.clap.specs.declared.error.kind.ErrorKind.{ErrorKind}
use Rattle.clap.specs.declared.error.kind.ErrorKind.TheVariants as kind
use Rattle.command_line.specs.Rows.{told}
use Rattle.command_line.specs.Scan.{Text, Said, dashes, scan, scan_address, other, address}
use Rattle.command_line.proofs.Leaf.{rules, sample, Stage, none, name, raw, walk_at, wants_at, settled_at, raws_at, names_at, next_stage, next_rows, width}
use Rattle.command_line.proofs.Leaf.{raw_built, names_built}
use Rattle.command_line.proofs.Leaf.{told-raws, told-names, raws-next, names-next, settles, plain_step, plain_fault, trailing_step, trailing_fault, dashes_step}
use Rattle.command_line.proofs.Leaf.{dashes_fault, attached_step, attached_fault, wants_step, wants_fault}
use Rattle.command_line.proofs.Leaf.{short_fault_at, long_fault_at, wants_plain_step, wants_plain_fault, wants_dashes_step, wants_dashes_fault}
use Rattle.command_line.proofs.Leaf.{wants_trailing_fault, wants_short_fault, wants_long_other, wants_long_raw}

-- After the walk.

no_default : (rows : List Row) (a : Rule) → a.defaults ≡ [] → with_default rows a ≡ rows
no_default rows a e = elim (cases_Bool (has_row a.id rows)) [
  | inl hit ↦ rw hit refl
  | inr miss ↦ rw (miss, e) refl
]

no_default_fault : (rows : List Row) (a : Rule) → a.defaults ≡ [] → default_fault rows a ≡ []
no_default_fault rows a e = elim (cases_Bool (has_row a.id rows)) [
  | inl hit ↦ rw hit refl
  | inr miss ↦ rw (miss, e) refl
]

abbrev pub end_fault : Held → Kinds
end_fault h = or_else (settle_fault rules false h) (or_else (defaults_fault (settled rules h).rows rules) (check_fault sample (finished rules h) false))

abbrev pub faults_from : Walk → List Text → Kinds
faults_from w words = or_else (walk_fault sample [] w words) (end_fault (fold (walked rules []) w words).held)

abbrev pub rows_from : Walk → List Text → List Row
rows_from w words = finished rules (fold (walked rules []) w words).held

-- a walk gives what the scan says
abbrev pub Tells : Option Said → Kinds → List Row → Type 0
Tells None faults rows = faults ≢ []
Tells (Some p) faults rows = (faults ≡ []) × (told (codes "raw-at") rows ≡ p.0) × (told (codes "names") rows ≡ p.1)

faults_step : (now : Walk) (w : Text) (ws : List Text) → turn_fault sample [] now w ≡ [] → faults_from now (w ∷ ws) ≡ faults_from (walked rules [] now w) ws
unfolding walk_fault
faults_step now w ws t = rw t refl

Tells-along : (o : Option Said) (f f' : Kinds) (r r' : List Row) → f' ≡ f → r' ≡ r → Tells o f r → Tells o f' r'
Tells-along o f f' r r' e d h = rw (e, d) h

pub moves : (o : Option Said) (now next : Walk) (w : Text) (ws : List Text) → turn_fault sample [] now w ≡ [] → walked rules [] now w ≡ next
    → Tells o (faults_from next ws) (rows_from next ws) → Tells o (faults_from now (w ∷ ws)) (rows_from now (w ∷ ws))
moves o now next w ws t e h =
    Tells-along o _ _ _ _ (faults_step now w ws t ∙ ap (λ (x : Walk). faults_from x ws) e) (ap (λ (x : Walk). rows_from x ws) e) h

pub fails : (k : ErrorKind) (now : Walk) (w : Text) (ws : List Text) → turn_fault sample [] now w ≡ k ∷ []
    → Tells None (faults_from now (w ∷ ws)) (rows_from now (w ∷ ws))
unfolding walk_fault
fails k now w ws t = rw t (λ e. cc)

at_end_faults : (tr : Bool) (st : Stage) (rows : List Row) → width st ≤ usize_max → faults_from (walk_at tr st rows) [] ≡ []
unfolding walk_fault defaults_fault
at_end_faults tr st rows fits =
    let first = no_default_fault (settled_at st rows) raw_built refl in
    let second = no_default_fault (with_default (settled_at st rows) raw_built) names_built refl in
    rw (settles st rows fits, first, second) refl

at_end_rows : (tr : Bool) (st : Stage) (rows : List Row) → rows_from (walk_at tr st rows) [] ≡ settled_at st rows
at_end_rows tr st rows = no_default (with_default (settled_at st rows) raw_built) names_built refl ∙ no_default (settled_at st rows) raw_built refl

pub at_end : (tr : Bool) (st : Stage) (rows : List Row) → width st ≤ usize_max
    → Tells (Some (raws_at st rows, names_at st rows)) (faults_from (walk_at tr st rows) []) (rows_from (walk_at tr st rows) [])
at_end tr st rows fits =
    (at_end_faults tr st rows fits, rw (at_end_rows tr st rows) (told-raws st rows), rw (at_end_rows tr st rows) (told-names st rows))

width-next : (st : Stage) (w : Text) → width (next_stage st w) ≤ width st + 1
width-next none w = omega arith
width-next (name vs v) w = omega (arith, length-append vs (v ∷ []))
width-next (raw v) w = omega arith

abbrev pub say : List Text → List Text → Option Said
say raws names = let both : Said = (raws, names) in Some both

said : (a b c d : List Text) → a ≡ b → c ≡ d → say a c ≡ say b d
said a b c d e f = ap (λ (x : List Text). say x c) e ∙ ap (λ (y : List Text). say b y) f

told_so : (now : Walk) (ws : List Text) (o p : Option Said) → o ≡ p → Tells o (faults_from now ws) (rows_from now ws)
    → Tells p (faults_from now ws) (rows_from now ws)
told_so now ws o p e h = subst (λ x. Tells x (faults_from now ws) (rows_from now ws)) e h

-- the words after `--`
pub trail : (ws : List Text) (st : Stage) (rows : List Row) → width st + length ws ≤ usize_max
    → Tells (Some (raws_at st rows, names_at st rows ++ ws)) (faults_from (walk_at true st rows) ws) (rows_from (walk_at true st rows) ws)
trail [] st rows fits = rw (append-nil (names_at st rows)) (at_end true st rows (omega arith))
trail (w ∷ ws) st rows fits =
    let bound : width (next_stage st w) + length ws ≤ usize_max = omega (arith, width-next st w) in
    let more = trail ws (next_stage st w) (next_rows st rows) bound in
    let names : names_at (next_stage st w) (next_rows st rows) ++ ws ≡ names_at st rows ++ (w ∷ ws) =
    ap (λ (ns : List Text). ns ++ ws) (names-next st rows w) ∙ append_assoc (names_at st rows) (w ∷ []) ws in
    let raws : raws_at (next_stage st w) (next_rows st rows) ≡ raws_at st rows = raws-next st rows w in
    let same = said _ _ _ _ raws names in
    moves (say (raws_at st rows) (names_at st rows ++ (w ∷ ws))) (walk_at true st rows) (walk_at true (next_stage st w) (next_rows st rows)) w ws
    (trailing_fault st rows w) (trailing_step st rows w)
    (told_so (walk_at true (next_stage st w) (next_rows st rows)) ws _ _ same more)

-- a word before `--`, by its first bytes
abbrev pub Short : Text → Type 0
Short w = (flags : Text) → short_of w ≡ Some flags → (x : ℕ) × (slice_get (chars flags) 0 ≡ Some x)

abbrev pub Shorts : List Text → Type 0
Shorts [] = Unit {0}
Shorts (w ∷ ws) = Short w × Shorts ws

-- what the words after this one give, from each state of the walk
abbrev pub FreeAfter : List Text → Type 0
FreeAfter ws = (st : Stage) (rows : List Row) → width st + length ws ≤ usize_max
    → Tells (scan (raws_at st rows) (names_at st rows) ws) (faults_from (walk_at false st rows) ws) (rows_from (walk_at false st rows) ws)

abbrev pub WantsAfter : List Text → Type 0
WantsAfter ws = (rows : List Row) → length ws ≤ usize_max
    → Tells (scan_address (told (codes "raw-at") rows) (told (codes "names") rows) ws) (faults_from (wants_at false rows) ws)
    (rows_from (wants_at false rows) ws)

-- one word, when nothing or only finished values aren't settled yet
free_attached : (st : Stage) (rows : List Row) (w nm v : Text) (ws : List Text) (b : Bool) → b ≡ bytes_eq (codes "raw-at") nm → bytes_eq w dashes ≡ false
    → long_of w ≡ Some (nm, Some v)
    → width st + length (w ∷ ws) ≤ usize_max → FreeAfter ws
    → Tells (cond b (scan (raws_at st rows ++ v ∷ []) (names_at st rows) ws) None) (faults_from (walk_at false st rows) (w ∷ ws))
    (rows_from (walk_at false st rows) (w ∷ ws))
free_attached st rows w nm v ws true n d l fits more =
    let there = settled_at (raw v) (settled_at st rows) in
    let raws : told (codes "raw-at") there ≡ raws_at st rows ++ v ∷ [] = told-raws (raw v) (settled_at st rows)
    ∙ ap (λ (rs : List Text). rs ++ v ∷ []) (told-raws st rows) in
    let names : told (codes "names") there ≡ names_at st rows = told-names (raw v) (settled_at st rows) ∙ told-names st rows in
    moves (scan (raws_at st rows ++ v ∷ []) (names_at st rows) ws) (walk_at false st rows) (walk_at false none there) w ws
    (attached_fault st rows w nm v (omega arith) d l (sym n)) (attached_step st rows w nm v d l (sym n))
    (told_so (walk_at false none there) ws _ _ (ap₂ (λ (rs ns : List Text). scan rs ns ws) raws names) (more none there (omega arith)))
free_attached st rows w nm v ws false n d l fits more =
    fails kind.UnknownArgument (walk_at false st rows) w ws (long_fault_at st rows w nm (Some v) d l (sym n))

free_wants : (st : Stage) (rows : List Row) (w nm : Text) (ws : List Text) (b : Bool) → b ≡ bytes_eq (codes "raw-at") nm → bytes_eq w dashes ≡ false
    → long_of w ≡ Some (nm, None)
    → width st + length (w ∷ ws) ≤ usize_max → WantsAfter ws
    → Tells (cond b (scan_address (raws_at st rows) (names_at st rows) ws) None) (faults_from (walk_at false st rows) (w ∷ ws))
    (rows_from (walk_at false st rows) (w ∷ ws))
free_wants st rows w nm ws true n d l fits more =
    let there = settled_at st rows in
    moves (scan_address (raws_at st rows) (names_at st rows) ws) (walk_at false st rows) (wants_at false there) w ws
    (wants_fault st rows w nm (omega arith) d l (sym n)) (wants_step st rows w nm d l (sym n))
    (told_so (wants_at false there) ws _ _ (ap₂ (λ (rs ns : List Text). scan_address rs ns ws) (told-raws st rows) (told-names st rows))
    (more there (omega arith)))
free_wants st rows w nm ws false n d l fits more =
    fails kind.UnknownArgument (walk_at false st rows) w ws (long_fault_at st rows w nm None d l (sym n))

free_word : (st : Stage) (rows : List Row) (w : Text) (ws : List Text) (b : Bool) (found : Option (Text × Option Text)) (flags : Option Text)
    → b ≡ bytes_eq w dashes → found ≡ long_of w → flags ≡ short_of w → Short w → width st + length (w ∷ ws) ≤ usize_max → FreeAfter ws → WantsAfter ws
    → Tells (cond b (say (raws_at st rows) (names_at st rows ++ ws))
    (other found flags (λ v. scan (raws_at st rows ++ v ∷ []) (names_at st rows) ws) (scan_address (raws_at st rows) (names_at st rows) ws)
    (scan (raws_at st rows) (names_at st rows ++ w ∷ []) ws)))
    (faults_from (walk_at false st rows) (w ∷ ws)) (rows_from (walk_at false st rows) (w ∷ ws))
free_word st rows w ws true found flags d l s short fits more wants =
    moves (say (raws_at st rows) (names_at st rows ++ ws)) (walk_at false st rows) (walk_at true st rows) w ws (dashes_fault st rows w (sym d))
    (dashes_step st rows w (sym d)) (trail ws st rows (omega arith))
free_word st rows w ws false (Some (nm, Some v)) flags d l s short fits more wants =
    free_attached st rows w nm v ws (bytes_eq (codes "raw-at") nm) refl (sym d) (sym l) fits more
free_word st rows w ws false (Some (nm, None)) flags d l s short fits more wants =
    free_wants st rows w nm ws (bytes_eq (codes "raw-at") nm) refl (sym d) (sym l) fits wants
free_word st rows w ws false None (Some fs) d l s short fits more wants =
    let first = short fs (sym s) in
    fails kind.UnknownArgument (walk_at false st rows) w ws (short_fault_at st rows w fs first.0 (sym d) (sym l) (sym s) first.1)
free_word st rows w ws false None None d l s short fits more wants =
    let bound : width (next_stage st w) + length ws ≤ usize_max = omega (arith, width-next st w) in
    moves (scan (raws_at st rows) (names_at st rows ++ w ∷ []) ws) (walk_at false st rows) (walk_at false (next_stage st w) (next_rows st rows)) w ws
    (plain_fault st rows w (sym d) (sym l) (sym s)) (plain_step st rows w (sym d) (sym l) (sym s))
    (told_so (walk_at false (next_stage st w) (next_rows st rows)) ws _ _
    (ap₂ (λ (rs ns : List Text). scan rs ns ws) (raws-next st rows w) (names-next st rows w)) (more (next_stage st w) (next_rows st rows) bound))

-- one word after `--raw-at`
wants_trail : (rows : List Row) (ws : List Text) → Tells None (faults_from (wants_at true rows) ws) (rows_from (wants_at true rows) ws)
unfolding walk_fault
wants_trail rows [] = λ e. cc
wants_trail rows (w ∷ ws) = fails kind.InvalidValue (wants_at true rows) w ws (wants_trailing_fault rows w)

wants_long : (rows : List Row) (w nm : Text) (v : Option Text) (ws : List Text) (b : Bool) → b ≡ bytes_eq (codes "raw-at") nm → bytes_eq w dashes ≡ false
    → long_of w ≡ Some (nm, v)
    → Tells None (faults_from (wants_at false rows) (w ∷ ws)) (rows_from (wants_at false rows) (w ∷ ws))
wants_long rows w nm v ws true n d l = fails kind.InvalidValue (wants_at false rows) w ws (wants_long_raw rows w nm v d l (sym n))
wants_long rows w nm v ws false n d l = fails kind.UnknownArgument (wants_at false rows) w ws (wants_long_other rows w nm v d l (sym n))

wants_word : (rows : List Row) (w : Text) (ws : List Text) (b : Bool) (found : Option (Text × Option Text)) (flags : Option Text)
    → b ≡ bytes_eq w dashes → found ≡ long_of w → flags ≡ short_of w → Short w → length (w ∷ ws) ≤ usize_max → FreeAfter ws
    → Tells (cond b None (address found flags (scan (told (codes "raw-at") rows ++ w ∷ []) (told (codes "names") rows) ws)))
    (faults_from (wants_at false rows) (w ∷ ws)) (rows_from (wants_at false rows) (w ∷ ws))
wants_word rows w ws true found flags d l s short fits more =
    moves None (wants_at false rows) (wants_at true rows) w ws (wants_dashes_fault rows w (sym d)) (wants_dashes_step rows w (sym d)) (wants_trail rows ws)
wants_word rows w ws false (Some (nm, v)) flags d l s short fits more =
    wants_long rows w nm v ws (bytes_eq (codes "raw-at") nm) refl (sym d) (sym l)
wants_word rows w ws false None (Some fs) d l s short fits more =
    let first = short fs (sym s) in
    fails kind.UnknownArgument (wants_at false rows) w ws (wants_short_fault rows w fs first.0 (sym d) (sym l) (sym s) first.1)
wants_word rows w ws false None None d l s short fits more =
    moves (scan (told (codes "raw-at") rows ++ w ∷ []) (told (codes "names") rows) ws) (wants_at false rows) (walk_at false (raw w) rows) w ws
    (wants_plain_fault rows w (sym d) (sym l) (sym s)) (wants_plain_step rows w (sym d) (sym l) (sym s)) (more (raw w) rows (omega arith))

wants_none : (rows : List Row) → Tells None (faults_from (wants_at false rows) []) (rows_from (wants_at false rows) [])
unfolding walk_fault
wants_none rows = λ e. cc

-- all the words
mutual
  pub free : (ws : List Text) → Shorts ws → FreeAfter ws
  free [] shorts = λ st rows fits. at_end false st rows (omega arith)
  free (w ∷ ws) shorts = λ st rows fits. free_word st rows w ws (bytes_eq w dashes) (long_of w) (short_of w) refl refl refl shorts.0 fits (free ws shorts.1)
      (wants ws shorts.1)

  pub wants : (ws : List Text) → Shorts ws → WantsAfter ws
  wants [] shorts = λ rows fits. wants_none rows
  wants (w ∷ ws) shorts = λ rows fits. wants_word rows w ws (bytes_eq w dashes) (long_of w) (short_of w) refl refl refl shorts.0 fits (free ws shorts.1)
