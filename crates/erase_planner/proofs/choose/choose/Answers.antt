-- `choose`: that it keeps its contract, and what `fill_pages` and `fill_none` require.
use Rattle.std.proofs.lemmas.Grind.{common_steps}
use Rattle.std.proofs.Common.{◌&&◌, nat_lt, ◌≡◌, ℕ, ◌+◌, ◌*◌, length, ◌∙◌, ap, sym, List, Bool, false, arith}
use Rattle.page_geometry.specs.Cells.{count_below}
use Rattle.erase_planner.specs.Plans.{tests}
use Rattle.erase_planner.specs.Marks.{erases_by, programs_by, wanted_by}
use Rattle.erase_planner.proofs.FillLemmas.{tests_long}
use Rattle.page_geometry.specs.Geometry.{Geometry}
use Rattle.erase_planner.proofs.FinishLemmas.{finish_sectors, finish_chip}
use Rattle.erase_planner.proofs.choose.choose.Goals as goal

-- the sum of two costs, with numbers that are known
two_costs : (a b v w m n j k : ℕ) → a ≡ v * m → b ≡ w * n → m ≡ j → n ≡ k → a + b ≡ v * j + w * k
two_costs a b v w m n j k first second one other = cc

cost_behind : (a b v w m n : ℕ) → a ≡ v → b ≡ w * m → m ≡ n → a + b ≡ v + w * n
cost_behind a b v w m n first second one = cc

pub fill_pages-programmed-requires-clause-set : goal.fill_pages-programmed-requires-clause-set
fill_pages-programmed-requires-clause-set c =
    ap (λ (bs : List Bool). length bs) (c.deref.ensures.value ∙ c.fill_sectors-erased.ensures.set) ∙
    tests_long (length c.args.geometry.now.sectors) (erases_by c.args.geometry.now c.args.marks.now)

pub returns-then-chip-clause-least : goal.returns-then-chip-clause-least
returns-then-chip-clause-least c empty o w lo lw m =
    let l : Geometry = c.args.geometry.now in
    let given : List Bool = tests (length l.sectors) (erases_by l c.args.marks.now) in
    let set = c.deref.ensures.value ∙ c.fill_sectors-erased.ensures.set in
    let total : c.cost_of.result + c.cost_of-2.result ≡ c.args.weights.now.sector * count_below (length l.sectors) (erases_by l c.args.marks.now) +
    c.args.weights.now.page * count_below (length l.pages) (programs_by l c.args.marks.now given) =
    two_costs _ _ _ _ _ _ _ _ c.cost_of.ensures.cost c.cost_of-2.ensures.cost c.fill_sectors-erased.ensures.count
    (c.fill_pages-programmed.ensures.count ∙ ap (λ (bs : List Bool). count_below (length l.pages) (programs_by l c.args.marks.now bs)) set) in
    let chip : c.from.result + c.cost_of-3.result ≡ c.args.weights.now.chip + c.args.weights.now.page * count_below (length l.pages)
    (wanted_by c.args.marks.now) =
    cost_behind _ _ _ _ _ _ c.from.ensures c.cost_of-3.ensures.cost
    (c.count_wanted-wanted.ensures.count ∙ ap (λ (n : ℕ). count_below n (wanted_by c.args.marks.now)) c.requires.long) in
    finish_chip l c.pages-pages.ensures.lawful empty o w lo lw c.args.marks.now m c.args.weights.now c.args.has_chip c.fill_none.new.sectors.items
    c.fill_wanted.new.pages.items (c.from.result + c.cost_of-3.result)
    (c.fill_none.ensures.set ∙ ap (λ (n : ℕ). tests n (λ s. false)) c.sectors-sector_count.ensures.count)
    (c.fill_wanted.ensures.set ∙ ap (λ (n : ℕ). tests n (wanted_by c.args.marks.now)) c.requires.long)
    chip
    (ap (λ (n : ℕ). c.args.has_chip && nat_lt (c.from.result + c.cost_of-3.result) n) (sym total) ∙ sym c.takes_chip-chip.ensures.test ∙ c.if-chip.true)

pub returns-else-chip-clause-least : goal.returns-else-chip-clause-least
returns-else-chip-clause-least c empty o w lo lw m =
    let l : Geometry = c.args.geometry.now in
    let given : List Bool = tests (length l.sectors) (erases_by l c.args.marks.now) in
    let set = c.deref.ensures.value ∙ c.fill_sectors-erased.ensures.set in
    let total : c.cost_of.result + c.cost_of-2.result ≡ c.args.weights.now.sector * count_below (length l.sectors) (erases_by l c.args.marks.now) +
    c.args.weights.now.page * count_below (length l.pages) (programs_by l c.args.marks.now given) =
    two_costs _ _ _ _ _ _ _ _ c.cost_of.ensures.cost c.cost_of-2.ensures.cost c.fill_sectors-erased.ensures.count
    (c.fill_pages-programmed.ensures.count ∙ ap (λ (bs : List Bool). count_below (length l.pages) (programs_by l c.args.marks.now bs)) set) in
    let chip : c.from.result + c.cost_of-3.result ≡ c.args.weights.now.chip + c.args.weights.now.page * count_below (length l.pages)
    (wanted_by c.args.marks.now) =
    cost_behind _ _ _ _ _ _ c.from.ensures c.cost_of-3.ensures.cost
    (c.count_wanted-wanted.ensures.count ∙ ap (λ (n : ℕ). count_below n (wanted_by c.args.marks.now)) c.requires.long) in
    finish_sectors l c.pages-pages.ensures.lawful empty o w lo lw c.args.marks.now m c.args.weights.now c.args.has_chip c.fill_sectors-erased.new.sectors.items
    c.fill_pages-programmed.new.pages.items (c.cost_of.result + c.cost_of-2.result)
    c.fill_sectors-erased.ensures.set
    (c.fill_pages-programmed.ensures.set ∙ ap (λ (bs : List Bool). tests (length l.pages) (programs_by l c.args.marks.now bs)) set)
    total
    (ap (λ (n : ℕ). c.args.has_chip && nat_lt n (c.cost_of.result + c.cost_of-2.result)) (sym chip) ∙ sym c.takes_chip-chip.ensures.test ∙ c.if-chip.false)

pub fill_none-requires : goal.fill_none-requires
fill_none-requires c = grind (arith, common_steps)
