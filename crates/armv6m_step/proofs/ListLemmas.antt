-- A loop over the registers of a list makes the accesses of that list.
use Rattle.std.proofs.Common.{◌≡◌, ℕ, zero, suc, ◌-◌, ◌*◌, ◌^◌, ◌<◌, ◌≤◌, Bool, true, false, ◌&&◌, ◌||◌, eqb, ltb, List, [], ◌∷◌, length}
use Rattle.std.proofs.Common.{refl, sym, ap, ap₂, ◌∙◌, arith, Ok, Err, Result, ⊎_elim, eqb-true, ne_eqb, ltb-true}
use Rattle.std.proofs.lemmas.Bool.{cases_lt}
use Rattle.std.specs.Prelude.{count_ones, bit_and}
use Rattle.std.specs.Int.{w8, trailing_zeros}
use lib.Count.{ones, count_trailing_zeros}
use Rattle.bench_model.specs.declared.bench_fault.BusEnd.{BusEnd}
use Rattle.armv6m_step.specs.declared.core_state.Core.{Core}
use Rattle.armv6m_step.specs.declared.ends.Stop.{Stop}
use Rattle.armv6m_step.specs.declared.ends.StepEnd.{StepEnd}
use Rattle.armv6m_step.specs.Access.{Access}
use Rattle.armv6m_step.specs.Ends.{stop_end}
use Rattle.armv6m_step.specs.Registers.{reg, written}
use Rattle.armv6m_step.specs.Numbers.{sum}
use Rattle.armv6m_step.specs.Meaning.{Meaning, Acts, Runs, LoadGives, StoreGives}
use Rattle.armv6m_step.specs.ListRows.{listed, low_registers, list_bytes, store_each, load_each, StoresEach, LoadsEach}
use Rattle.armv6m_step.proofs.RunLemmas.{load_ok, load_err, store_ok, store_err}

pub both : (a b : Bool) → (a && b) ≡ true → (a ≡ true) × (b ≡ true)
both true b e = (refl, e)
both false b e = cc

-- how many registers a list has, checked by a table of all lists

abbrev same_ones : ℕ → Bool
same_ones list = eqb (count_ones list) (length (low_registers list))

abbrev all_below : (ℕ → Bool) → ℕ → Bool
all_below f zero = true
all_below f (suc n) = f n && all_below f n

below_all : (f : ℕ → Bool) (n k : ℕ) → all_below f n ≡ true → k < n → f k ≡ true
below_all f zero k all lt = absurd (omega (arith, lt))
below_all f (suc n) k all lt = ⊎_elim
    (λ (less : k < n). below_all f n k (both (f n) (all_below f n) all).1 less)
    (λ (at : n ≤ k). let is : n ≡ k = omega (arith, at, lt) in ap f (sym is) ∙ (both (f n) (all_below f n) all).0)
    (cases_lt k n)

all_same : all_below same_ones 256 ≡ true
unfolding listed ones
all_same = refl

pub ones_listed : (list : ℕ) → list < 2 ^ 8 → 4 * count_ones list ≡ list_bytes list
ones_listed list small =
    let same : count_ones list ≡ length (low_registers list) = eqb-true _ _ (below_all same_ones 256 list all_same (omega (arith, small))) in
    ap (λ (n : ℕ). 4 * n) same

-- the first register of a list and the list of the others, checked by a table of all lists

abbrev same_registers : List ℕ → List ℕ → Bool
same_registers [] [] = true
same_registers [] (s ∷ ss) = false
same_registers (r ∷ rs) [] = false
same_registers (r ∷ rs) (s ∷ ss) = eqb r s && same_registers rs ss

same_registers_are : (rs ss : List ℕ) → same_registers rs ss ≡ true → rs ≡ ss
same_registers_are [] [] e = refl
same_registers_are [] (s ∷ ss) e = cc
same_registers_are (r ∷ rs) [] e = cc
same_registers_are (r ∷ rs) (s ∷ ss) e =
    let two : (eqb r s ≡ true) × (same_registers rs ss ≡ true) = both _ _ e in
    ap₂ (λ (x : ℕ) (xs : List ℕ). x ∷ xs) (eqb-true r s two.0) (same_registers_are rs ss two.1)

abbrev others : ℕ → ℕ
others list = bit_and list (list - 1)

abbrev first_fits : ℕ → Bool
first_fits list = eqb list 0 || (same_registers (low_registers list) (trailing_zeros w8 list ∷ low_registers (others list)) && ltb (others list) list)

all_first_fit : all_below first_fits 256 ≡ true
unfolding listed count_trailing_zeros
all_first_fit = refl

or_else : (a b : Bool) → a ≡ false → (a || b) ≡ true → b ≡ true
or_else true b is e = cc
or_else false b is e = e

pub first_at : (list : ℕ) → 0 < list → list < 2 ^ 8 →
    (low_registers list ≡ trailing_zeros w8 list ∷ low_registers (others list)) × (others list < list)
first_at list some small =
    let fit : first_fits list ≡ true = below_all first_fits 256 list all_first_fit (omega (arith, small)) in
    let two : (same_registers (low_registers list) (trailing_zeros w8 list ∷ low_registers (others list)) ≡ true) × (ltb (others list) list ≡ true) =
    both _ _ (or_else (eqb list 0) _ (ne_eqb list 0 (λ e. omega (arith, some, e))) fit) in
    (same_registers_are _ _ two.0, ltb-true _ _ two.1)

-- how far a loop over the registers has come: a run of what is left of the list is a run from its start
unfoldable pub StoredTo : {B : Type 0} → Acts B → Core → ℕ → ℕ → B → ℕ → ℕ → B → Type 0
StoredTo {B} acts core at list b0 to left b =
    (then' : Meaning) (e : StepEnd) (core' : Core) (after : B) → Runs acts (store_each core to (low_registers left) then') core b e core' after →
    Runs acts (store_each core at (low_registers list) then') core b0 e core' after

unfoldable pub LoadedTo : {B : Type 0} → Acts B → Core → ℕ → ℕ → B → Core → ℕ → ℕ → B → Type 0
LoadedTo {B} acts core at list b0 now from left b =
    (then' : Core → Meaning) (e : StepEnd) (core' : Core) (after : B) → Runs acts (load_each now from (low_registers left) then') core b e core' after →
    Runs acts (load_each core at (low_registers list) then') core b0 e core' after

none_left : low_registers 0 ≡ []
unfolding listed
none_left = refl

module _ {B : Type 0} (acts : B → Access → Result ℕ BusEnd → B → Type 0) (core : Core) (at list : ℕ) (b0 : B) where
  pub stored_start : StoredTo acts core at list b0 at list b0
  unfolding StoredTo
  stored_start then' e core' after runs = runs

  pub stored_one : (to left r rest : ℕ) (b mid : B) (x : Unit {0}) → low_registers left ≡ r ∷ low_registers rest →
      StoreGives acts 4 to (reg core r) b (Ok x) mid → StoredTo acts core at list b0 to left b → StoredTo acts core at list b0 (sum to 4) rest mid
  unfolding StoredTo store_each
  stored_one to left r rest b mid x is one so_far then' e core' after runs =
      so_far then' e core' after (rw is (store_ok acts core 4 to (reg core r) _ b mid after x e core' one runs))

  pub stored_end : (to left r rest : ℕ) (b mid : B) (s : Stop) → low_registers left ≡ r ∷ low_registers rest →
      StoreGives acts 4 to (reg core r) b (Err s) mid → StoredTo acts core at list b0 to left b → StoresEach acts core at (low_registers list) b0 (Err s) mid
  unfolding StoredTo StoresEach store_each
  stored_end to left r rest b mid s is one so_far then' =
      so_far then' (stop_end s) core mid (rw is (store_err acts core 4 to (reg core r) _ b mid s one))

  pub stored_all : (to left : ℕ) (b : B) (x : Unit {0}) → left ≡ 0 → StoredTo acts core at list b0 to left b →
      StoresEach acts core at (low_registers list) b0 (Ok x) b
  unfolding StoredTo StoresEach store_each
  stored_all to left b x done so_far then' e core' after runs = so_far then' e core' after (rw (done, none_left) runs)

  pub loaded_start : LoadedTo acts core at list b0 core at list b0
  unfolding LoadedTo
  loaded_start then' e core' after runs = runs

  pub loaded_one : (now : Core) (from left r rest : ℕ) (b mid : B) (v : ℕ) → low_registers left ≡ r ∷ low_registers rest →
      LoadGives acts 4 from b (Ok v) mid → LoadedTo acts core at list b0 now from left b → LoadedTo acts core at list b0 (written now r v) (sum from 4) rest mid
  unfolding LoadedTo load_each
  loaded_one now from left r rest b mid v is one so_far then' e core' after runs =
      so_far then' e core' after (rw is (load_ok acts core 4 from _ b mid after v e core' one runs))

  pub loaded_end : (now : Core) (from left r rest : ℕ) (b mid : B) (s : Stop) → low_registers left ≡ r ∷ low_registers rest →
      LoadGives acts 4 from b (Err s) mid → LoadedTo acts core at list b0 now from left b → LoadsEach acts core at (low_registers list) b0 (Err s) mid
  unfolding LoadedTo LoadsEach load_each
  loaded_end now from left r rest b mid s is one so_far then' =
      so_far then' (stop_end s) core mid (rw is (load_err acts core 4 from _ b mid s one))

  pub loaded_all : (now : Core) (from left : ℕ) (b : B) → left ≡ 0 → LoadedTo acts core at list b0 now from left b →
      LoadsEach acts core at (low_registers list) b0 (Ok now) b
  unfolding LoadedTo LoadsEach load_each
  loaded_all now from left b done so_far then' e core' after runs = so_far then' e core' after (rw (done, none_left) runs)

  -- from the parts of a list to the run of an instruction
  pub stores_then : (then' : Meaning) (mid after : B) (x : Unit {0}) (e : StepEnd) (core' : Core) → StoresEach acts core at (low_registers list) b0 (Ok x) mid →
      Runs acts then' core mid e core' after → Runs acts (store_each core at (low_registers list) then') core b0 e core' after
  unfolding StoresEach
  stores_then then' mid after x e core' each runs = each then' e core' after runs

  pub stores_end : (then' : Meaning) (after : B) (s : Stop) → StoresEach acts core at (low_registers list) b0 (Err s) after →
      Runs acts (store_each core at (low_registers list) then') core b0 (stop_end s) core after
  unfolding StoresEach
  stores_end then' after s each = each then'

  pub loads_then : (then' : Core → Meaning) (filled : Core) (mid after : B) (e : StepEnd) (core' : Core) →
      LoadsEach acts core at (low_registers list) b0 (Ok filled) mid → Runs acts (then' filled) core mid e core' after →
      Runs acts (load_each core at (low_registers list) then') core b0 e core' after
  unfolding LoadsEach
  loads_then then' filled mid after e core' each runs = each then' e core' after runs

  pub loads_end : (then' : Core → Meaning) (after : B) (s : Stop) → LoadsEach acts core at (low_registers list) b0 (Err s) after →
      Runs acts (load_each core at (low_registers list) then') core b0 (stop_end s) core after
  unfolding LoadsEach
  loads_end then' after s each = each then'

pub ruleset stored_so_far = (stored_start, stored_one, stored_end, stored_all)

pub ruleset loaded_so_far = (loaded_start, loaded_one, loaded_end, loaded_all)

pub ruleset each = (stores_then, stores_end, loads_then, loads_end)
