-- A loop over the registers of a list computes the marks after each of its accesses.
use Rattle.std.proofs.Common.{◌≡◌, ℕ, Option, Some, None, [], ◌∷◌, refl, ap}
use Rattle.armv6m_step.specs.declared.core_state.Core.{Core}
use Rattle.armv6m_step.specs.Numbers.{sum}
use Rattle.armv6m_step.specs.ListRows.{listed, low_registers}
use Rattle.armv6m_step.specs.Registers.{reg}
use Rattle.shadow_step.specs.declared.marks.Mark.{Mark}
use Rattle.shadow_step.specs.declared.marks.CoreMarks.{CoreMarks}
use Rattle.shadow_step.specs.Marks.{operand, put}
use Rattle.shadow_step.specs.Shadow.{Shadow}
use Rattle.shadow_step.specs.MemoryRows.{and_then, store_each_marks, load_each_marks}

none_left : low_registers 0 ≡ []
unfolding listed
none_left = refl

module _ {M : Type 0} (s : Shadow M) where
  pub store_next : (t : CoreMarks) (core : Core) (m m' : M) (at left r rest : ℕ) → low_registers left ≡ r ∷ low_registers rest →
      s.store m 4 at (reg core r) (operand t r) ≡ Some m' → store_each_marks s t m core at (low_registers left) ≡ store_each_marks s t m' core (sum at 4)
      (low_registers rest)
  unfolding store_each_marks
  store_next t core m m' at left r rest is e = rw is (ap (λ (o : Option M). and_then o (λ x. store_each_marks s t x core (sum at 4) (low_registers rest))) e)

  pub store_stop : (t : CoreMarks) (core : Core) (m : M) (at left r rest : ℕ) → low_registers left ≡ r ∷ low_registers rest →
      s.store m 4 at (reg core r) (operand t r) ≡ None → store_each_marks s t m core at (low_registers left) ≡ None
  unfolding store_each_marks
  store_stop t core m at left r rest is e = rw is (ap (λ (o : Option M). and_then o (λ x. store_each_marks s t x core (sum at 4) (low_registers rest))) e)

  pub store_end : (t : CoreMarks) (core : Core) (m : M) (at left : ℕ) → left ≡ 0 → store_each_marks s t m core at (low_registers left) ≡ Some m
  unfolding store_each_marks
  store_end t core m at left done = rw (done, none_left) refl

  pub load_next : (t : CoreMarks) (m : M) (at left r rest : ℕ) (k : Mark) → low_registers left ≡ r ∷ low_registers rest → s.load m 4 at ≡ Some k →
      load_each_marks s t m at (low_registers left) ≡ load_each_marks s (put t r k) m (sum at 4) (low_registers rest)
  unfolding load_each_marks
  load_next t m at left r rest k is e = rw is (ap (λ (o : Option Mark). and_then o (λ x. load_each_marks s (put t r x) m (sum at 4) (low_registers rest))) e)

  pub load_stop : (t : CoreMarks) (m : M) (at left r rest : ℕ) → low_registers left ≡ r ∷ low_registers rest → s.load m 4 at ≡ None →
      load_each_marks s t m at (low_registers left) ≡ None
  unfolding load_each_marks
  load_stop t m at left r rest is e = rw is (ap (λ (o : Option Mark). and_then o (λ x. load_each_marks s (put t r x) m (sum at 4) (low_registers rest))) e)

  pub load_end : (t : CoreMarks) (m : M) (at left : ℕ) → left ≡ 0 → load_each_marks s t m at (low_registers left) ≡ Some t
  unfolding load_each_marks
  load_end t m at left done = rw (done, none_left) refl

pub ruleset stored_so_far = (store_next, store_stop, store_end)

pub ruleset loaded_so_far = (load_next, load_stop, load_end)
