-- Loads and stores of registers do in another run what their rows of the marks say.
use Rattle.std.proofs.Common.{◌≡◌, ◌*◌, ◌%◌, ◌^◌, ℕ, Bool, true, false, if◌then◌else◌, Option, Some, None, List, [], ◌∷◌, refl}
use Rattle.std.proofs.Common.{ap, ap₂}
use Rattle.std.proofs.lemmas.Bool.{and_parts}
use Rattle.armv6m_alu.specs.Bits.{is_bit_set, sign_extended}
use Rattle.armv6m_decode.specs.Targets.{literal_target}
use Rattle.armv6m_decode.specs.declared.instr.Memory.{Memory}
use Rattle.armv6m_decode.specs.declared.instr.Memory.TheVariants.{LdrLiteral, StrRegister, StrhRegister, StrbRegister, LdrsbRegister, LdrRegister, LdrhRegister}
use Rattle.armv6m_decode.specs.declared.instr.Memory.TheVariants.{LdrbRegister, LdrshRegister, StrImmediate, LdrImmediate, StrbImmediate, LdrbImmediate}
use Rattle.armv6m_decode.specs.declared.instr.Memory.TheVariants.{StrhImmediate, LdrhImmediate, StrSp, LdrSp}
use Rattle.armv6m_decode.specs.declared.instr.Many.{Many}
use Rattle.armv6m_decode.specs.declared.instr.Many.TheVariants.{Push, Pop, Stm, Ldm}
use Rattle.armv6m_decode.specs.declared.registers.TheConstants.{SP, LR}
use Rattle.armv6m_step.specs.declared.core_state.Core.{Core}
use Rattle.armv6m_step.specs.Ends.{OwnEnd}
use Rattle.armv6m_step.specs.Meaning.{Meaning, Gives, load, store, stops}
use Rattle.armv6m_step.specs.Registers.{reg, written, pc_of}
use Rattle.armv6m_step.specs.Numbers.{sum}
use Rattle.armv6m_step.specs.MemoryRows.{memory, went, loaded, load_word, load_half, load_byte, load_signed_half, load_signed_byte, store_word, store_half}
use Rattle.armv6m_step.specs.MemoryRows.{store_byte}
use Rattle.armv6m_step.specs.ListRows.{many, store_each, load_each, low_registers, branch_exchange}
use Rattle.armv6m_step.specs.Functional.{Answering, Stepped, outcome}
use Rattle.shadow_step.specs.declared.marks.Mark.{Mark}
use Rattle.shadow_step.specs.declared.marks.Mark.TheVariants.{Known}
use Rattle.shadow_step.specs.declared.marks.CoreMarks.{CoreMarks}
use Rattle.shadow_step.specs.Marks.{Pages, ArePages, Says, CoreAgrees, is_known, plain, operand, put, gone}
use Rattle.shadow_step.specs.Rows.{known, both}
use Rattle.shadow_step.specs.OtherRows.{low_byte, low_half}
use Rattle.shadow_step.specs.Shadow.{Shadow, Marks, IsShadow}
use Rattle.shadow_step.specs.MemoryRows.{marks, and_then, load_marks, store_marks, whole, memory_marks, store_each_marks, load_each_marks, link_marks}
use Rattle.shadow_step.specs.MemoryRows.{return_marks}
use Rattle.shadow_step.specs.MemoryRows.{many_marks}
use Rattle.shadow_step.proofs.MarkLemmas.{known_same, says_plain, operand_says, operand_same, put_agrees, gone_agrees}
use Rattle.shadow_step.proofs.OtherLemmas.{low_byte_says, low_half_says}
use Rattle.shadow_step.proofs.BranchLemmas.{exchange_agrees}
use Rattle.shadow_step.proofs.AccessLemmas.{Goes, own_not_went, none_goes, only_goes, then_goes, gives_goes, load_goes, store_goes}

module _ {B M : Type 0} (p : Pages) (bytes : ArePages p) (answers : Answering B) (Agrees : M → B → B → Type 0) (s : Shadow M)
    (is : IsShadow p answers Agrees s) where
  abbrev pub Go : Option (Marks M) → Meaning → Meaning → Core → Core → B → B → Type 0
  Go x then' then'' core core' b b' = Goes p answers Agrees s is x (outcome answers then' core b) (outcome answers then'' core' b')

  -- an instruction that continues with the next one
  went_goes : (t : CoreMarks) (m : M) (f f' core core' : Core) (b b' : B) (next next' : ℕ) → next' ≡ next → CoreAgrees p t f f' → Agrees m b b' →
      Go (Some (marks (gone t) m)) (went f next) (went f' next') core core' b b'
  went_goes t m f f' core core' b b' next next' follows filled bus =
      gives_goes p answers Agrees s is (Some (gone t)) m core core' b b' _ _ bus (gone_agrees p t f f' filled next next' follows)

  unless_goes : (stop : Bool) (x : Option (Marks M)) (e e' : OwnEnd) (then' then'' : Meaning) (core core' : Core) (b b' : B) →
      Go x then' then'' core core' b b' → Go x (if stop then stops e else then') (if stop then stops e' else then'') core core' b b'
  unfolding outcome
  unless_goes true x e e' then' then'' core core' b b' step = λ r same went. absurd (own_not_went e went)
  unless_goes false x e e' then' then'' core core' b b' step = step

  module _ (t : CoreMarks) (core core' : Core) (next next' : ℕ) (agrees : CoreAgrees p t core core') (follows : next' ≡ next) (m : M) (b b' : B)
      (bus : Agrees m b b') where
    -- loads and stores of one register

    loaded_goes : (k : Bool) (width at at' d : ℕ) (f : Mark → Mark) (g : ℕ → ℕ) → (k ≡ true → at' ≡ at)
        → ((x : Mark) (v v' : ℕ) → Says p x v v' → Says p (f x) (g v) (g v'))
        → Go (load_marks s t m k width at d f) (load width at (λ v. loaded core next d (g v)))
        (load width at' (λ v. loaded core' next' d (g v))) core core' b b'
    loaded_goes k width at at' d f g there keeps = only_goes p answers Agrees s is k _ _ _
        (λ h. then_goes p answers Agrees s is (s.load m width at) _ _ _
        (λ x e. load_goes p answers Agrees s is _ m width at at' _ _ core core' b b' x (there h) bus e
        (λ v v' answered says. went_goes (put t d (f x)) m _ _ core core' b b' next next' follows
        (put_agrees p t core core' agrees d (f x) (g v) (g v') (keeps x v v' says)) bus)))

    stored_goes : (k : Bool) (width at at' v v' : ℕ) (x : Mark) → (k ≡ true → at' ≡ at) → Says p x v v' →
        Go (store_marks s t m k width at v x) (store width at v (went core next)) (store width at' v' (went core' next')) core core' b b'
    stored_goes k width at at' v v' x there says = only_goes p answers Agrees s is k _ _ _
        (λ h. then_goes p answers Agrees s is (s.store m width at v x) _ _ _
        (λ m' e. store_goes p answers Agrees s is _ m m' width at at' v v' x _ _ core core' b b' (there h) bus says e
        (λ c c' after. went_goes t m' core core' core core' c c' next next' follows agrees after)))

    as_it_is : (x : Mark) (v v' : ℕ) → Says p x v v' → Says p (whole x) v v'
    as_it_is x v v' says = says

    signed : (n : ℕ) (x : Mark) (v v' : ℕ) → Says p x v v' → Says p (plain x) (sign_extended n v) (sign_extended n v')
    signed n x v v' says = says_plain p x v v' (sign_extended n) says

    beside : (n i : ℕ) → known t n ≡ true → sum (reg core' n) i ≡ sum (reg core n) i
    beside n i k = ap (λ (x : ℕ). sum x i) (operand_same p t core core' agrees n k)

    across : (n o : ℕ) → both t n o ≡ true → sum (reg core' n) (reg core' o) ≡ sum (reg core n) (reg core o)
    across n o k =
        let parts : (known t n ≡ true) × (known t o ≡ true) = and_parts _ _ k in
        ap₂ sum (operand_same p t core core' agrees n parts.0) (operand_same p t core core' agrees o parts.1)

    abbrev word : (d : ℕ) → Says p (operand t d) (reg core d) (reg core' d)
    word d = operand_says p t core core' agrees d

    abbrev half : (d : ℕ) → Says p (low_half (operand t d)) (reg core d % 2 ^ 16) (reg core' d % 2 ^ 16)
    half d = low_half_says p bytes _ _ _ (word d)

    abbrev byte : (d : ℕ) → Says p (low_byte (operand t d)) (reg core d % 2 ^ 8) (reg core' d % 2 ^ 8)
    byte d = low_byte_says p bytes _ _ _ (word d)

    pub memory_goes : pc_of core' ≡ pc_of core → (op : Memory) → Go (memory_marks s t m core op) (memory core next op) (memory core' next' op) core core' b b'
    unfolding load_word load_half load_byte load_signed_half load_signed_byte store_word store_half store_byte
    memory_goes at (LdrLiteral d i) = loaded_goes true 4 _ _ d whole (λ v. v) (λ k. ap (λ (x : ℕ). literal_target x i) at) as_it_is
    memory_goes at (StrRegister d n o) = stored_goes (both t n o) 4 _ _ _ _ _ (across n o) (word d)
    memory_goes at (StrhRegister d n o) = stored_goes (both t n o) 2 _ _ _ _ _ (across n o) (half d)
    memory_goes at (StrbRegister d n o) = stored_goes (both t n o) 1 _ _ _ _ _ (across n o) (byte d)
    memory_goes at (LdrsbRegister d n o) = loaded_goes (both t n o) 1 _ _ d plain (sign_extended 8) (across n o) (signed 8)
    memory_goes at (LdrRegister d n o) = loaded_goes (both t n o) 4 _ _ d whole (λ v. v) (across n o) as_it_is
    memory_goes at (LdrhRegister d n o) = loaded_goes (both t n o) 2 _ _ d whole (λ v. v) (across n o) as_it_is
    memory_goes at (LdrbRegister d n o) = loaded_goes (both t n o) 1 _ _ d whole (λ v. v) (across n o) as_it_is
    memory_goes at (LdrshRegister d n o) = loaded_goes (both t n o) 2 _ _ d plain (sign_extended 16) (across n o) (signed 16)
    memory_goes at (StrImmediate d n i) = stored_goes (known t n) 4 _ _ _ _ _ (beside n (4 * i)) (word d)
    memory_goes at (LdrImmediate d n i) = loaded_goes (known t n) 4 _ _ d whole (λ v. v) (beside n (4 * i)) as_it_is
    memory_goes at (StrbImmediate d n i) = stored_goes (known t n) 1 _ _ _ _ _ (beside n i) (byte d)
    memory_goes at (LdrbImmediate d n i) = loaded_goes (known t n) 1 _ _ d whole (λ v. v) (beside n i) as_it_is
    memory_goes at (StrhImmediate d n i) = stored_goes (known t n) 2 _ _ _ _ _ (beside n (2 * i)) (half d)
    memory_goes at (LdrhImmediate d n i) = loaded_goes (known t n) 2 _ _ d whole (λ v. v) (beside n (2 * i)) as_it_is
    memory_goes at (StrSp d i) = stored_goes (known t SP) 4 _ _ _ _ _ (beside SP (4 * i)) (word d)
    memory_goes at (LdrSp d i) = loaded_goes (known t SP) 4 _ _ d whole (λ v. v) (beside SP (4 * i)) as_it_is

  -- loads and stores of a list of registers

  in_turn : {A C : Type 0} (a : Option A) (f : A → Option C) (x : C → Option (Marks M)) (r r' : Stepped B) →
      ((v : A) → a ≡ Some v → Goes p answers Agrees s is (and_then (f v) x) r r') → Goes p answers Agrees s is (and_then (and_then a f) x) r r'
  in_turn None f x r r' step = none_goes p answers Agrees s is r r'
  in_turn (Some v) f x r r' step = step v refl

  store_each_goes : (t : CoreMarks) (core core' : Core) → CoreAgrees p t core core' → (rs : List ℕ) (m : M) (at : ℕ) (b b' : B) → Agrees m b b' →
      (x : M → Option (Marks M)) (then' then'' : Meaning)
      → ((m' : M) (c c' : B) → Agrees m' c c' → Go (x m') then' then'' core core' c c')
      → Go (and_then (store_each_marks s t m core at rs) x) (store_each core at rs then') (store_each core' at rs then'') core core' b b'
  unfolding store_each_marks store_each
  store_each_goes t core core' agrees [] m at b b' bus x then' then'' goes = goes m b b' bus
  store_each_goes t core core' agrees (r ∷ rs) m at b b' bus x then' then'' goes =
      in_turn (s.store m 4 at (reg core r) (operand t r)) _ x _ _
      (λ m' e. store_goes p answers Agrees s is _ m m' 4 at at (reg core r) (reg core' r) (operand t r) _ _ core core' b b' refl bus
      (operand_says p t core core' agrees r) e
      (λ c c' after. store_each_goes t core core' agrees rs m' (sum at 4) c c' after x then' then'' goes))

  load_each_goes : (m : M) (core core' : Core) (b b' : B) → Agrees m b b' → (rs : List ℕ) (t : CoreMarks) (f f' : Core) (at : ℕ) → CoreAgrees p t f f' →
      (x : CoreMarks → Option (Marks M)) (then' then'' : Core → Meaning)
      → ((t' : CoreMarks) (g g' : Core) → CoreAgrees p t' g g' → Go (x t') (then' g) (then'' g') core core' b b')
      → Go (and_then (load_each_marks s t m at rs) x) (load_each f at rs then') (load_each f' at rs then'') core core' b b'
  unfolding load_each_marks load_each
  load_each_goes m core core' b b' bus [] t f f' at agrees x then' then'' goes = goes t f f' agrees
  load_each_goes m core core' b b' bus (r ∷ rs) t f f' at agrees x then' then'' goes =
      in_turn (s.load m 4 at) _ x _ _
      (λ k e. load_goes p answers Agrees s is _ m 4 at at _ _ core core' b b' k refl bus e
      (λ v v' answered says. load_each_goes m core core' b b' bus rs (put t r k) (written f r v) (written f' r v') (sum at 4)
      (put_agrees p t f f' agrees r k v v' says) x then' then'' goes))

  link_goes : (t : CoreMarks) (core core' : Core) → CoreAgrees p t core core' → (next next' : ℕ) → next' ≡ next → (m : M) (b b' : B) → Agrees m b b' →
      (lr : Bool) (at start : ℕ)
      → Go (link_marks s t m core lr at) (if lr then store 4 at (reg core LR) (went (written core SP start) next) else went (written core SP start) next)
      (if lr then store 4 at (reg core' LR) (went (written core' SP start) next') else went (written core' SP start) next') core core' b b'
  link_goes t core core' agrees next next' follows m b b' bus true at start =
      then_goes p answers Agrees s is (s.store m 4 at (reg core LR) (operand t LR)) _ _ _
      (λ m' e. store_goes p answers Agrees s is _ m m' 4 at at (reg core LR) (reg core' LR) (operand t LR) _ _ core core' b b' refl bus
      (operand_says p t core core' agrees LR) e
      (λ c c' after. went_goes (put t SP Known) m' _ _ core core' c c' next next' follows (put_agrees p t core core' agrees SP Known start start refl) after))
  link_goes t core core' agrees next next' follows m b b' bus false at start =
      went_goes (put t SP Known) m _ _ core core' b b' next next' follows (put_agrees p t core core' agrees SP Known start start refl) bus

  return_goes : (t : CoreMarks) (f f' core core' : Core) → CoreAgrees p t f f' → (next next' : ℕ) → next' ≡ next → (m : M) (b b' : B) → Agrees m b b' →
      (pc : Bool) (at top : ℕ)
      → Go (return_marks s t m pc at)
      (if pc then load 4 at (λ v. Gives (branch_exchange (pc_of core) (written f SP top) v)) else went (written f SP top) next)
      (if pc then load 4 at (λ v. Gives (branch_exchange (pc_of core') (written f' SP top) v)) else went (written f' SP top) next') core core' b b'
  return_goes t f f' core core' agrees next next' follows m b b' bus true at top =
      then_goes p answers Agrees s is (s.load m 4 at) _ _ _
      (λ k e. load_goes p answers Agrees s is _ m 4 at at _ _ core core' b b' k refl bus e
      (λ v v' answered says. only_goes p answers Agrees s is (is_known k) _ _ _
      (λ h. gives_goes p answers Agrees s is (Some (gone (put t SP Known))) m core core' b b' _ _ bus
      (exchange_agrees p (put t SP Known) _ _ _ _ v v' (put_agrees p t f f' agrees SP Known top top refl) (known_same p k v v' says h)))))
  return_goes t f f' core core' agrees next next' follows m b b' bus false at top =
      went_goes (put t SP Known) m _ _ core core' b b' next next' follows (put_agrees p t f f' agrees SP Known top top refl) bus

  base_agrees : (t : CoreMarks) (f f' : Core) (n v : ℕ) (listed : Bool) → CoreAgrees p t f f' →
      CoreAgrees p (if listed then t else put t n Known) (if listed then f else written f n v) (if listed then f' else written f' n v)
  base_agrees t f f' n v true agrees = agrees
  base_agrees t f f' n v false agrees = put_agrees p t f f' agrees n Known v v refl

  pub many_goes : (t : CoreMarks) (core core' : Core) → CoreAgrees p t core core' → (next next' : ℕ) → next' ≡ next → (m : M) (b b' : B) → Agrees m b b' →
      (op : Many) → Go (many_marks s t m core op) (many core next op) (many core' next' op) core core' b b'
  many_goes t core core' agrees next next' follows m b b' bus (Push lr list) = only_goes p answers Agrees s is (known t SP) _ _ _
      (λ k. rw (operand_same p t core core' agrees SP k) (unless_goes _ _ _ _ _ _ core core' b b'
      (store_each_goes t core core' agrees (low_registers list) m _ b b' bus _ _ _
      (λ m' c c' after. link_goes t core core' agrees next next' follows m' c c' after lr _ _))))
  many_goes t core core' agrees next next' follows m b b' bus (Pop pc list) = only_goes p answers Agrees s is (known t SP) _ _ _
      (λ k. rw (operand_same p t core core' agrees SP k) (unless_goes _ _ _ _ _ _ core core' b b'
      (load_each_goes m core core' b b' bus (low_registers list) t core core' _ agrees _ _ _
      (λ t' f f' filled. return_goes t' f f' core core' filled next next' follows m b b' bus pc _ _))))
  many_goes t core core' agrees next next' follows m b b' bus (Stm n list) = only_goes p answers Agrees s is (known t n) _ _ _
      (λ k. rw (operand_same p t core core' agrees n k) (unless_goes _ _ _ _ _ _ core core' b b'
      (store_each_goes t core core' agrees (low_registers list) m _ b b' bus _ _ _
      (λ m' c c' after. went_goes (put t n Known) m' _ _ core core' c c' next next' follows
      (put_agrees p t core core' agrees n Known _ _ refl) after))))
  many_goes t core core' agrees next next' follows m b b' bus (Ldm n list) = only_goes p answers Agrees s is (known t n) _ _ _
      (λ k. rw (operand_same p t core core' agrees n k) (unless_goes _ _ _ _ _ _ core core' b b'
      (load_each_goes m core core' b b' bus (low_registers list) t core core' _ agrees _ _ _
      (λ t' f f' filled. went_goes _ m _ _ core core' b b' next next' follows
      (base_agrees t' f f' n _ (is_bit_set list (n % 16)) filled) bus))))
