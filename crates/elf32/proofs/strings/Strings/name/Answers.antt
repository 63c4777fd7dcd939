-- `Strings::name`: its clauses `bad` and `within`, and what `string` requires.
use Rattle.std.proofs.Common.{◌≡◌, ◌-◌, ◌<◌, arith, length, take, drop, refl}
use Rattle.std.proofs.lemmas.List.{take_rest}
use Rattle.std.specs.List.{position_or_len}
use Rattle.elf32.specs.Strings.{is_zero}
use Rattle.elf32.proofs.StringLemmas.{ends_before, none_behind, lent_within}
use Rattle.elf32.proofs.strings.Strings.name.Goals as goal

pub returns-then-at-self-clause-bad : goal.returns-then-at-self-clause-bad
returns-then-at-self-clause-bad c =
    (refl, rw (← c.self.view_is) (none_behind c.self.inside.bytes.now c.self.inside.ended c.args.at c.self.invariant (omega arith)))

pub string-requires-clause-ends : goal.string-requires-clause-ends
string-requires-clause-ends c =
    rw (take_rest c.self.inside.bytes.now c.args.at)
    (ends_before c.self.inside.bytes.now c.self.inside.ended c.args.at c.self.invariant c.if-at-self.false)

pub returns-clause-within : goal.returns-clause-within
returns-clause-within c =
    let table = c.self.inside.bytes.now in
    let rest = take (length table - c.args.at) (drop c.args.at table) in
    let whole : rest ≡ drop c.args.at table = take_rest table c.args.at in
    let ends : position_or_len is_zero rest < length rest =
    rw whole (ends_before table c.self.inside.ended c.args.at c.self.invariant c.if-at-self.false) in
    rw (← c.self.view_is) (lent_within table rest c.args.at c.args.limit c.string.result whole ends c.string.ensures)
