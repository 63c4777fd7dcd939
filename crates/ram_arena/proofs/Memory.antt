-- What the walks of the unsafe functions share. Assumes `Logic`.
--     word_had, word_made, mark_had, mark_made      a value of one pointer, and one of no bytes
--     room_out, byte_in, byte_shown      room for a byte is taken out of the row; the byte is put into it; a byte is seen through a `&`
--     of_room, to_room      room for an array is a row of empty places
use mathlib.Core.Path.{◌≡◌, refl, sym, ap, subst, ◌∙◌}
use Prim.Native.Nat.{ℕ, zero, suc, ◌+◌, ◌<◌, ◌≤◌, ◌^◌}
use native.Mathlib.Omega.{arith}
use mathlib.Core.List.{List, [], ◌∷◌, ◌++◌}
use lib.ListN.{length, take, drop, set, get_or, replicate, take-append-drop, length-take}
use lib.Seq.{drop-cons, set_split}
use seplogic.Ra.Ura.{Ura}
use base.Fraction.{full_share}
use mir.Syntax.{Width, w8, ty_int, int_big}
use mir.Val.{Val, Fits, vint, vstruct, vcons, vnil, of_list}
use base.Logic.{ent, sep, emp, guard_i, via, snd∗, id⊢}
use base.Fml.{Fml, Lft, Share, ftrue, fsep, fat, froom, flft}
use types.Logic.{Logic, sem}
use types.Kit.{Item, Goal, Soaks, Seq, Step, step, ‵, ◌⊛◌, ◌$◌, ◌∵◌, !, qed, by, move, keep, drop as skip, use1, use2, split, frame, fsplit, fjoin, fpick}
use types.Kit.{fpack, feq_i, feq_l, flt_i, flt_l, rewrite, done}
use denote.RattleType.{RattleType, Valss}
use denote.Memory.{part_at, cell_at, hidden_shr}
use denote.Builtin.{u8}
use denote.Copied.{uint_Copied}
use denote.Opens.{Shut, hide}
use denote.Plain.{uint_in, uint_out}
use denote.RawPtr.{Ptr, RawPtr, ptr_val}
use denote.Shadow.{makes_shadow}
use denote.Signature.{Slot, plain}
use denote.Steps.{nothing, looks, shuts}
use denote.Struct.Struct.{Shape, Struct, within}
use denote.Struct.Owning.{shape}
use denote.Struct.Declared as Declared
use denote.Struct.Tuple.{Tuple, tuple_type}
use mir.Syntax.{Body}
use prog.Wp.{Env, Calls, Loops, Wp, after_seq}
use types.Kit.{Post, any_q, post}
use types.Run.{Opd}
use Rattle.std.specs.Prelude.{Option, Some, None}
use Rattle.std.proofs.RcSteps.{word}
use Rattle.ram_arena.specs.Ownership.{slot, slots, slot_lent, slots_lent, bytes_of}
use Rattle.ram_arena.proofs.Sharing.{slots_lent_laws}
use Rattle.ram_arena.specs.contracts.cells.Cells as C-type
use Rattle.ram_arena.specs.contracts.cells.Base as B-type

abbrev pub Cr : RattleType
Cr = C-type.the_row

abbrev pub Bs : RattleType
Bs = B-type.the_row

-- the one field of `Cells`, which takes no bytes
abbrev pub Mark : RattleType
Mark = Struct (shape C-type.the_type)

abbrev pub Place : Type 0
Place = Option ℕ

abbrev one_field : Shape
one_field = record { name = []; args = []; types = []; fields = RawPtr ∷ [] }

abbrev pub Word : RattleType
Word = Struct one_field

abbrev pub mark : Val
mark = vstruct (vcons (vstruct vnil) vnil)

pub mark_made : {M : Type 1} {𝓤 : Ura M} (𝓛 : Logic 𝓤) → ent 𝓤 (emp 𝓤) (sem 𝓛 (Mark.own_val (tt, tt) (mark ∷ [])))
mark_made 𝓛 = makes_shadow 𝓛 (Mark.own_val (tt, tt) (mark ∷ [])) (λ vss. (tt, ((λ uss. (tt, tt)), tt)))
    ((vstruct vnil ∷ [], tt), (refl, ((tt, (refl, tt)), tt)))

module _ {M : Type 1} {𝓤 : Ura M} {𝓛 : Logic 𝓤} {K : Type 0} {Γ : List (Item 𝓤)} {G : Goal 𝓤 𝓛.H} where
  pub word_had : K → (c : Ptr) (vs : List Val) → (vs ≡ word c ∷ [] → Seq K 𝓛 Γ G) → Seq K 𝓛 (‵ (Word.own_val (c, tt) vs) ∷ Γ) G
  word_had t c vs k = fpick t (λ vss. fsplit t $ feq_l t (λ ev. fsplit t $ feq_l t
      (λ e. skip t $ k (subst (λ (ws : List Val). vs ≡ vstruct (of_list (ws ++ [])) ∷ []) e ev))))

  pub word_made : K → (c : Ptr) → Step K 𝓛 (‵ (Word.own_val (c, tt) (word c ∷ [])) ∷ Γ) G Γ G
  word_made t c = step (λ s.
      nothing t $ feq_i t (List Val) (ptr_val c ∷ []) (ptr_val c ∷ []) refl $ fjoin t $ feq_i t (List Val) (word c ∷ []) (word c ∷ []) refl $ fjoin t $
      fpack t (Valss (RawPtr ∷ [])) (within one_field (c, tt) (word c ∷ [])) (ptr_val c ∷ [], tt) $ s)

  pub mark_had : K → (vs : List Val) → (vs ≡ mark ∷ [] → Seq K 𝓛 Γ G) → Seq K 𝓛 (‵ (Mark.own_val (tt, tt) vs) ∷ Γ) G
  mark_had t vs k = fpick t (λ vss. fsplit t $ feq_l t (λ ev. fsplit t $ fpick t (λ uss. fsplit t $ feq_l t (λ e. skip t $ skip t $
      k (subst (λ (ws : List Val). vs ≡ vstruct (of_list (ws ++ [])) ∷ []) e ev)))))

-- a slot of a row, given by its number
module _ {M : Type 1} {𝓤 : Ura M} (𝓛 : Logic 𝓤) (b : ℕ) where
  open 𝓛 use {H}

  abbrev Row : ℕ → List Place → Fml
  Row = slots b

  cut : (xs ys : List Place) (o at : ℕ) → at ≡ length xs + o → ent 𝓤 (sem 𝓛 (Row o (xs ++ ys))) (sep 𝓤 (sem 𝓛 (Row o xs)) (sem 𝓛 (Row at ys)))
  cut [] ys o at e = qed 𝓛 (‵ (Row o ys) ∷ []) ∵ rewrite ! 0 (λ (k : ℕ). ‵ (Row k ys)) {x = at} (omega arith) refl $ nothing ! $ done !
  cut (x ∷ xs) ys o at e = qed 𝓛 (‵ (Row o (x ∷ xs ++ ys)) ∷ []) ∵ fsplit ! $ move ! (1 ∷ []) $
      use1 𝓛 (‵ (Row (o + 1) xs) ⊛ ‵ (Row at ys)) (cut xs ys (o + 1) at (omega arith)) $ split ! $ move ! (2 ∷ 0 ∷ []) $ fjoin ! $ done !

  glue : (xs ys : List Place) (o at : ℕ) → at ≡ length xs + o → ent 𝓤 (sep 𝓤 (sem 𝓛 (Row o xs)) (sem 𝓛 (Row at ys))) (sem 𝓛 (Row o (xs ++ ys)))
  glue [] ys o at e = qed 𝓛 (‵ ftrue ∷ ‵ (Row at ys) ∷ []) ∵ skip ! $ rewrite ! 0 (λ (k : ℕ). ‵ (Row k ys)) {x = o} (omega arith) refl $ done !
  glue (x ∷ xs) ys o at e = qed 𝓛 (‵ (Row o (x ∷ xs)) ∷ ‵ (Row at ys) ∷ []) ∵ fsplit ! $ move ! (1 ∷ 2 ∷ []) $
      use2 𝓛 (‵ (Row (o + 1) (xs ++ ys))) (glue xs ys (o + 1) at (omega arith)) $ move ! (1 ∷ 0 ∷ []) $ fjoin ! $ done !

  -- the byte in a slot is given up, and room for one is left
  emptied : (o : ℕ) (c : Place) → ent 𝓤 (sem 𝓛 (slot b o c)) (H.room (ty_int w8) b o)
  emptied o None = id⊢ 𝓤 _
  emptied o (Some x) = via 𝓤 (H.at full_share (ty_int w8) b o (vint w8 x)) (uint_out 𝓛 full_share w8 x b o) (𝓛.laws.at_room (ty_int w8) b o (vint w8 x))

  module _ (o : ℕ) (cs : List Place) (i : ℕ) where
    -- all slots except slot `i`
    abbrev pub Besides : Fml
    Besides = fsep (Row o (take i cs)) (Row (i + o + 1) (drop (suc i) cs))

    before : i ≤ length cs → i + o ≡ length (take i cs) + o
    before le = omega (arith, length-take i cs)

    pub room_out : i < length cs → ent 𝓤 (sem 𝓛 (Row o cs)) (sep 𝓤 (H.room (ty_int w8) b (i + o)) (sem 𝓛 Besides))
    room_out lt = qed 𝓛 (‵ (Row o cs) ∷ []) ∵
        rewrite ! 0 (λ (l : List Place). ‵ (Row o l)) (sym (take-append-drop i cs) ∙ ap (λ l. take i cs ++ l) (drop-cons cs i None lt)) refl $
        use1 𝓛 (‵ (Row o (take i cs)) ⊛ ‵ (Row (i + o) (get_or cs i None ∷ drop (suc i) cs)))
        (cut (take i cs) (get_or cs i None ∷ drop (suc i) cs) o (i + o) (before (omega arith))) $
        split ! $ move ! (1 ∷ []) $ fsplit ! $ use1 𝓛 (‵ (froom (ty_int w8) b (i + o))) (emptied (i + o) (get_or cs i None)) $ move !
        (2 ∷ 1 ∷ []) $ fjoin ! $ move ! (1 ∷ []) $ done !

    pub byte_in : i < length cs → (x : ℕ) → ent 𝓤 (sep 𝓤 (H.at full_share (ty_int w8) b (i + o) (vint w8 x)) (sem 𝓛 Besides))
        (sem 𝓛 (Row o (set cs i (Some x))))
    byte_in lt x = qed 𝓛 (‵ (fat full_share (ty_int w8) b (i + o) (vint w8 x)) ∷ ‵ Besides ∷ []) ∵
        use1 𝓛 (‵ (slot b (i + o) (Some x))) (uint_in 𝓛 full_share w8 x b (i + o)) $ move ! (1 ∷ []) $ fsplit ! $ move ! (2 ∷ 1 ∷ []) $ fjoin ! $ move !
        (1 ∷ 0 ∷ []) $
        use2 𝓛 (‵ (Row o (take i cs ++ Some x ∷ drop (suc i) cs))) (glue (take i cs) (Some x ∷ drop (suc i) cs) o (i + o) (before (omega arith))) $
        rewrite ! 0 (λ (l : List Place). ‵ (Row o l)) (sym (set_split cs i (Some x) lt)) refl $ done !

  pub of_room : (n o : ℕ) → ent 𝓤 (H.room (bytes_of n) b o) (sem 𝓛 (Row o (replicate n None)))
  of_room zero o = qed 𝓛 (‵ (froom (bytes_of 0) b o) ∷ []) ∵ keep ! [] $ done !
  of_room (suc n) o = qed 𝓛 (‵ (froom (bytes_of (suc n)) b o) ∷ []) ∵
      use1 𝓛 (‵ (froom (ty_int w8) b o) ⊛ ‵ (froom (bytes_of n) b (o + 1))) (𝓛.laws.room_uncons (ty_int w8) n b o) $ split ! $ frame ! $ by !
      (of_room n (o + 1))

  pub to_room : (cs : List Place) (o : ℕ) → ent 𝓤 (sem 𝓛 (Row o cs)) (H.room (bytes_of (length cs)) b o)
  to_room [] o = 𝓛.laws.room_nil (ty_int w8) b o
  to_room (c ∷ cs) o = qed 𝓛 (‵ (slot b o c) ∷ ‵ (Row (o + 1) cs) ∷ []) ∵
      use1 𝓛 (‵ (froom (ty_int w8) b o)) (emptied o c) $ move ! (1 ∷ []) $
      use1 𝓛 (‵ (froom (bytes_of (length cs)) b (o + 1))) (to_room cs (o + 1)) $ move ! (1 ∷ []) $ by ! (𝓛.laws.room_cons (ty_int w8) (length cs) b o)

  module _ (κ : Lft) where
    abbrev Seen : ℕ → List Place → Fml
    Seen o cs = slots_lent b o cs κ

    from_on : (cs : List Place) (i o at : ℕ) → i ≤ length cs → at ≡ i + o → ent 𝓤 (sem 𝓛 (Seen o cs)) (sem 𝓛 (Seen at (drop i cs)))
    from_on cs zero o at le e = let same : o ≡ at = omega arith in subst (λ k. ent 𝓤 (sem 𝓛 (Seen o cs)) (sem 𝓛 (Seen k cs))) same (id⊢ 𝓤 _)
    from_on [] (suc i) o at le e = absurd (omega arith)
    from_on (c ∷ cs) (suc i) o at le e =
        via 𝓤 (sem 𝓛 (Seen (o + 1) cs)) (snd∗ 𝓤 (sem 𝓛 (slot_lent b o c κ)) (sem 𝓛 (Seen (o + 1) cs))) (from_on cs i (o + 1) at (omega arith) (omega arith))

    slot_seen : (o : ℕ) (cs : List Place) (i : ℕ) → i < length cs → ent 𝓤 (sem 𝓛 (Seen o cs)) (sem 𝓛 (slot_lent b (i + o) (get_or cs i None) κ))
    slot_seen o cs i lt = qed 𝓛 (‵ (Seen o cs) ∷ []) ∵ use1 𝓛 (‵ (Seen (i + o) (drop i cs))) (from_on cs i o (i + o) (omega arith) refl) $
        rewrite ! 0 (λ (l : List Place). ‵ (Seen (i + o) l)) (drop-cons cs i None lt) refl $ fsplit ! $ keep ! (0 ∷ []) $ done !

    -- a byte that has been written is seen, and all are still
    pub byte_shown : (o : ℕ) (cs : List Place) (i x : ℕ) → i < length cs → get_or cs i None ≡ Some x
        → ent 𝓤 (sem 𝓛 (Seen o cs)) (sep 𝓤 (sem 𝓛 (hidden_shr u8 κ x b (i + o))) (sem 𝓛 (Seen o cs)))
    byte_shown o cs i x lt e = qed 𝓛 (‵ (Seen o cs) ∷ []) ∵
        use1 𝓛 (‵ (Seen o cs) ⊛ ‵ (Seen o cs)) ((slots_lent_laws b o cs).contraction M 𝓤 𝓛 κ) $ split ! $
        use1 𝓛 (‵ (slot_lent b (i + o) (get_or cs i None) κ)) (slot_seen o cs i lt) $
        rewrite ! 0 (λ (c : Place). ‵ (slot_lent b (i + o) c κ)) e refl $ hide ! $ frame ! $ done !

module _ {M : Type 1} {𝓤 : Ura M} {𝓛 : Logic 𝓤} {K : Type 0} {Γ : List (Item 𝓤)} {G : Goal 𝓤 𝓛.H} where
  -- [nothing; the byte; the way back; S]
  pub sees : K → Soaks G → {κ : Lft} {q : Share} {S : Fml} (n b at : ℕ) → ent 𝓤 (sem 𝓛 S) (sep 𝓤 (sem 𝓛 (hidden_shr u8 κ n b at)) (sem 𝓛 S))
      → ((q' : Share) → n < 2 ^ 8 → Seq K 𝓛 (‵ ftrue ∷ ‵ (fat q' (ty_int w8) b at (vint w8 n)) ∷ Shut 𝓛 κ q (part_at u8 q' n b at) ∷ ‵ S ∷ Γ) G) →
      Seq K 𝓛 (‵ S ∷ ‵ (flft κ q) ∷ Γ) G
  sees t z {κ} {q} {S} n b at shown k =
      use1 𝓛 (‵ (hidden_shr u8 κ n b at) ⊛ ‵ S) shown $ split t $ move t (0 ∷ 2 ∷ []) $ looks t z u8 (uint_Copied 𝓛 w8).opens n b at
      (λ q' vs. move t (1 ∷ []) $ fsplit t $ feq_l t (λ e. flt_l t (λ fn.
      rewrite t 0 (λ (us : List Val). ‵ (cell_at q' u8.mir us b at)) e refl $ move t (2 ∷ []) $ skip t $ nothing t $ k q' fn)))

  -- [the token; S]
  pub seen : K → Soaks G → {κ : Lft} {q q' : Share} {S : Fml} (n b at : ℕ) → n < 2 ^ 8
      → Step K 𝓛 (‵ S ∷ ‵ (flft κ q) ∷ Γ) G (‵ ftrue ∷ ‵ (fat q' (ty_int w8) b at (vint w8 n)) ∷ Shut 𝓛 κ q (part_at u8 q' n b at) ∷ ‵ S ∷ Γ) G
  seen t z {q' = q'} n b at fn = step (λ s.
      skip t $ flt_i t n (2 ^ 8) fn $ feq_i t (List Val) (vint w8 n ∷ []) (vint w8 n ∷ []) refl $ fjoin t $ move t (1 ∷ 0 ∷ []) $ shuts t z u8 q' n
      (vint w8 n ∷ []) b at $ move t (1 ∷ 0 ∷ []) $ s)

abbrev pub three_val : Val → Val → Val → Val
three_val u v w = vstruct (vcons u (vcons v (vcons w vnil)))

pub three_of : {M : Type 1} {𝓤 : Ura M} (𝓛 : Logic 𝓤) (R S T : RattleType) (x : R.Denot) (y : S.Denot) (z : T.Denot) (u v w : Val)
    → ent 𝓤 (sep 𝓤 (sem 𝓛 (R.own_val x (u ∷ []))) (sep 𝓤 (sem 𝓛 (S.own_val y (v ∷ []))) (sem 𝓛 (T.own_val z (w ∷ [])))))
    (sem 𝓛 ((Tuple (R ∷ S ∷ T ∷ [])).own_val (x, y, z) (three_val u v w ∷ [])))
three_of 𝓛 R S T x y z u v w =
    qed 𝓛 (‵ (R.own_val x (u ∷ [])) ∷ ‵ (S.own_val y (v ∷ [])) ∷ ‵ (T.own_val z (w ∷ [])) ∷ []) ∵ nothing ! $ move ! (3 ∷ 0 ∷ []) $ fjoin ! $ move !
    (2 ∷ 0 ∷ []) $ fjoin ! $ move ! (1 ∷ 0 ∷ []) $ fjoin ! $
    feq_i ! (List Val) (three_val u v w ∷ []) (three_val u v w ∷ []) refl $ fjoin ! $
    fpack ! (Valss (R ∷ S ∷ T ∷ [])) (within (Declared.shape (tuple_type (R ∷ S ∷ T ∷ []))) (x, (y, (z, tt))) (three_val u v w ∷ []))
    (u ∷ [], (v ∷ [], (w ∷ [], tt))) $ done !

module _ {M : Type 1} {𝓤 : Ura M} (𝓛 : Logic 𝓤) where
  open 𝓛 use {H}

  abbrev pub then_runs : Calls 𝓤 H → Loops 𝓤 H → Env 𝓤 H → Body → Post 𝓤 H → Post 𝓤 H
  then_runs C Λ E b q = any_q (after_seq 𝓤 H (Wp 𝓤 H C Λ E b (post 𝓤 H q)) (post 𝓤 H q))

module _ {M : Type 1} {𝓤 : Ura M} {𝓛 : Logic 𝓤} {K : Type 0} {Γ : List (Item 𝓤)} {E : Env 𝓤 𝓛.H} where
  -- a constant that is too large to be read by its digits
  pub big_lit : K → {w : Width} {n : ℕ} → Fits w n → Opd K 𝓛 Γ E (int_big w n) (vint w n)
  big_lit t {w} {n} z = record { go = λ Kt h. via 𝓤 (Kt (vint w n)) h (guard_i 𝓤 (Fits w n) (Kt (vint w n)) z) }

-- the slot of a parameter
abbrev pub slot_at : {n : ℕ} → ℕ → List (Slot n) → Slot n
slot_at k [] = plain (λ _. u8)
slot_at zero (s ∷ ss) = s
slot_at (suc k) (s ∷ ss) = slot_at k ss
