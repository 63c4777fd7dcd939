-- Files say one thing.
use Rattle.std.proofs.Common.{◌≡◌, ◌∙◌, sym, ap, subst, refl, arith, ⊎_elim, ℕ, IsTrue, List, [], ◌∷◌, length, Option, option_to_list, Some, None, Ok, Err}
use Rattle.std.proofs.lemmas.List.{ext_get_or}
use Rattle.byte_map.specs.Image.{Run}
use Rattle.board_file.specs.declared.fault.BoardFault.{BoardFault}
use Rattle.board_file.specs.declared.region.Region.{Region}
use Rattle.board_file.specs.Shown as board
use Rattle.board_file.specs.Text.{reading, IsBoard}
use Rattle.flm_descriptor.specs.Shown as flm
use Rattle.flm_descriptor.specs.Flm.{flm_of}
use Rattle.image_set.specs.declared.fault.ImageFault.{ImageFault}
use Rattle.image_more.specs.declared.fault.AnyFault.{AnyFault}
use Rattle.image_set.specs.Ranges.{IsPlaceFault}
use Rattle.report_text.specs.Refusal.{Refusal, usage, flm_refused, other_device, no_room, board_refused, image_refused, image_misplaced}
use Rattle.command_words.specs.Files.{FilesAsked}
use Rattle.command_files.specs.Inputs.{InputsCall, FilesGiven, AreEach, AreFiles, Given}
use Rattle.image_more.specs.Place.{file_at}
use Rattle.command_files.specs.Files.{flm_files, image_files, IsBoardOf, IsForBoard, IsOneFor, AreFor, Aim, ranges_of, IsUnionOf, AreRead, IsAim}
use Rattle.command_files.specs.Refused.{LeavesNoImage, IsOtherDevice, HasNoRoom, IsUnfit, IsUnread, IsNoneFor, AreNotFor, IsImageRefused, HasNoImage}
use Rattle.command_files.specs.Refused.{HasNoTarget, HasWrongImage, IsMisplaced, IsRefused}
use Rattle.command_files.proofs.ImageLemmas.{one_union, images_or_refused, one_image_refused, inside_or_fault, one_place_fault}

-- The files with these names.

one_each : (inputs : InputsCall) (names xs ys : List (List ℕ)) → IsTrue inputs.tells → AreEach inputs names xs → AreEach inputs names ys → xs ≡ ys
one_each inputs names xs ys told one two = ext_get_or [] xs ys (one.count ∙ sym two.count) (λ k less.
    same_file (file_at xs k) (file_at ys k) (sym (one.each k (omega (arith, less, one.count)) told) ∙ two.each k (omega (arith, less, one.count)) told)) where
      same_file : (a b : List ℕ) → Some a ≡ Some b → a ≡ b
      same_file a b same = cc

one_optional : (a b : Option (List ℕ)) → option_to_list a ≡ option_to_list b → a ≡ b
one_optional None None same = refl
one_optional None (Some b) same = absurd (cc)
one_optional (Some a) None same = absurd (cc)
one_optional (Some a) (Some b) same = cc

pub one_given : (inputs : InputsCall) (asked : FilesAsked) (a b : FilesGiven) → IsTrue inputs.tells → AreFiles inputs asked a → AreFiles inputs asked b → a ≡ b
one_given inputs asked a b told one two =
    let x = one.board told in
    let y = two.board told in
    let board_same : Some a.board ≡ Some b.board = sym x ∙ y in
    let board : a.board ≡ b.board = cc in
    same_record a.board b.board a.flm b.flm a.images b.images board
    (one_optional a.flm b.flm (one_each inputs (option_to_list asked.flm) (option_to_list a.flm) (option_to_list b.flm) told one.flm two.flm))
    (one_each inputs asked.images a.images b.images told one.images two.images) where
      same_record : (x y : List ℕ) (f g : Option (List ℕ)) (is js : List (List ℕ)) → x ≡ y → f ≡ g → is ≡ js
          → ◌≡◌ {A = FilesGiven} (record { board = x; flm = f; images = is }) (record { board = y; flm = g; images = js })
      same_record x y f g is js board flm images = cc

-- what holds of the files that were given holds of the files with these names
pub holds_of : (inputs : InputsCall) (asked : FilesAsked) (files : FilesGiven) (Holds : FilesGiven → Type 0) → IsTrue inputs.tells → AreFiles inputs asked files
    → Given inputs asked Holds → Holds files
holds_of inputs asked files Holds told are given = subst Holds (one_given inputs asked given.files files told given.are_files are) given.holds

-- An algorithm and a region of a board.

module _ (board : board.Shown) (base size : ℕ) (algorithm : flm.Shown) where
  -- an algorithm that fits the board isn't refused for it
  fit_or_unfit : (r : Refusal) → IsForBoard board base size algorithm → IsUnfit board base size algorithm r → ⊥
  fit_or_unfit (other_device told_base told_size) fit unfit =
      ⊎_elim (λ other. other (unfit.base_is ∙ fit.base_is)) (λ other. other (unfit.size_is ∙ fit.size_is)) unfit.other
  fit_or_unfit (no_room need have) fit unfit =
      let room = fit.room in let need_is = unfit.need_is in let have_is = unfit.have_is in let more = unfit.more in omega arith
  fit_or_unfit r fit unfit = unfit

  other_or_no_room : (told_base told_size need have : ℕ) → IsOtherDevice base size algorithm told_base told_size → HasNoRoom board base size algorithm need have
      → ⊥
  other_or_no_room told_base told_size need have one two =
      ⊎_elim (λ other. other (one.base_is ∙ two.base_is)) (λ other. other (one.size_is ∙ two.size_is)) one.other

  -- an algorithm isn't refused for two reasons
  one_unfit : (r s : Refusal) → IsUnfit board base size algorithm r → IsUnfit board base size algorithm s → r ≡ s
  one_unfit (other_device a b) (other_device c d) one two =
      let base_same : a ≡ c = one.base_is ∙ sym two.base_is in
      let size_same : b ≡ d = one.size_is ∙ sym two.size_is in
      cc
  one_unfit (other_device a b) (no_room need have) one two = absurd (other_or_no_room a b need have one two)
  one_unfit (other_device a b) s one two = absurd two
  one_unfit (no_room need have) (other_device a b) one two = absurd (other_or_no_room a b need have two one)
  one_unfit (no_room a b) (no_room c d) one two =
      let need_same : a ≡ c = one.need_is ∙ sym two.need_is in
      let have_same : b ≡ d = one.have_is ∙ sym two.have_is in
      cc
  one_unfit (no_room need have) s one two = absurd two
  one_unfit r s one two = absurd one

-- FLM files and the regions of a board.

module _ (board : board.Shown) (region : Region) (file : List ℕ) where
  one_for : (a b : flm.Shown) → IsOneFor board region file a → IsOneFor board region file b → a ≡ b
  one_for a b one two = let x = one.says in let y = two.says in cc

  read_or_unread : (algorithm : flm.Shown) (r : Refusal) → flm_of file ≡ Ok algorithm → IsUnread file r → ⊥
  read_or_unread algorithm (flm_refused fault) says unread = cc
  read_or_unread algorithm r says unread = unread

  one_unread : (r s : Refusal) → IsUnread file r → IsUnread file s → r ≡ s
  one_unread (flm_refused a) (flm_refused b) one two = let same : a ≡ b = cc in ap flm_refused same
  one_unread (flm_refused a) s one two = absurd two
  one_unread r s one two = absurd one

  for_or_none : (a : flm.Shown) (r : Refusal) → IsOneFor board region file a → IsNoneFor board region file r → ⊥
  for_or_none a r is = ⊎_elim (λ unread. read_or_unread a r is.says unread)
      (λ unfit.
      let x = is.says in
      let y = unfit.says in
      let same : unfit.algorithm ≡ a = cc in
      fit_or_unfit board region.base region.size a r is.fits (subst (λ (x : flm.Shown). IsUnfit board region.base region.size x r) same unfit.unfit))

  one_none : (r s : Refusal) → IsNoneFor board region file r → IsNoneFor board region file s → r ≡ s
  one_none r s one two = ⊎_elim
      (λ unread. ⊎_elim (λ other. one_unread r s unread other) (λ unfit. absurd (read_or_unread unfit.algorithm r unfit.says unread)) two)
      (λ unfit. ⊎_elim (λ unread. absurd (read_or_unread unfit.algorithm s unfit.says unread))
      (λ other.
      let x = unfit.says in
      let y = other.says in
      let same : other.algorithm ≡ unfit.algorithm = cc in
      one_unfit board region.base region.size unfit.algorithm r s unfit.unfit
      (subst (λ (x : flm.Shown). IsUnfit board region.base region.size x s) same other.unfit))
      two)
      one

module _ (board : board.Shown) where
  one_target : (regions : List Region) (files : List (List ℕ)) (xs ys : List flm.Shown) → AreFor board regions files xs → AreFor board regions files ys
      → xs ≡ ys
  one_target [] [] [] [] one two = refl
  one_target [] [] [] (y ∷ ys) one two = absurd two
  one_target (r ∷ rs) [] [] [] one two = refl
  one_target (r ∷ rs) [] [] (y ∷ ys) one two = absurd two
  one_target (r ∷ rs) (f ∷ fs) (x ∷ xs) [] one two = absurd two
  one_target (r ∷ rs) (f ∷ fs) (x ∷ xs) (y ∷ ys) one two =
      let first : x ≡ y = one_for board r f x y one.0 two.0 in
      let rest : xs ≡ ys = one_target rs fs xs ys one.1 two.1 in
      cc
  one_target regions files xs ys one two = absurd one

  target_or_none : (regions : List Region) (files : List (List ℕ)) (xs : List flm.Shown) (s : Refusal) → AreFor board regions files xs
      → AreNotFor board regions files s → ⊥
  target_or_none [] files xs s are are_not = are_not
  target_or_none (r ∷ rs) [] xs s are are_not = are_not
  target_or_none (r ∷ rs) (f ∷ fs) [] s are are_not = are
  target_or_none (r ∷ rs) (f ∷ fs) (x ∷ xs) s are are_not =
      ⊎_elim (λ none. for_or_none board r f x s are.0 none) (λ later. target_or_none rs fs xs s are.1 later.1) are_not

  one_no_target : (regions : List Region) (files : List (List ℕ)) (s t : Refusal) → AreNotFor board regions files s → AreNotFor board regions files t → s ≡ t
  one_no_target [] files s t one two = absurd one
  one_no_target (r ∷ rs) [] s t one two = absurd one
  one_no_target (r ∷ rs) (f ∷ fs) s t one two = ⊎_elim
      (λ none. ⊎_elim (λ other. one_none board r f s t none other) (λ later. absurd (for_or_none board r f later.0.0 s later.0.1 none)) two)
      (λ later. ⊎_elim (λ none. absurd (for_or_none board r f later.0.0 t later.0.1 none)) (λ other. one_no_target rs fs s t later.1 other.1) two)
      one

-- What files say.

one_board : (text : List ℕ) (a b : board.Shown) → IsBoard text a → IsBoard text b → a ≡ b
one_board text a b one two = cc

-- files are read as one aim
pub one_read : (raw_at : Option ℕ) (files : FilesGiven) (a b : Aim) → AreRead raw_at files a → AreRead raw_at files b → a ≡ b
one_read raw_at files a b one two =
    let boards = one_board files.board a.board b.board one.board.is_board two.board.is_board in
    let their = subst (λ (x : board.Shown). AreFor x x.regions (flm_files files.flm files.images x) a.algorithms) boards one.algorithms in
    let union = subst (λ (x : board.Shown). IsUnionOf raw_at (image_files files.flm files.images x) a.image) boards one.union in
    same_record a.board b.board a.algorithms b.algorithms a.image b.image boards
    (one_target b.board b.board.regions (flm_files files.flm files.images b.board) a.algorithms b.algorithms their two.algorithms)
    (one_union raw_at (image_files files.flm files.images b.board) (length (image_files files.flm files.images b.board)) a.image b.image union two.union) where
      same_record : (x y : board.Shown) (f g : List flm.Shown) (i j : List Run) → x ≡ y → f ≡ g → i ≡ j
          → ◌≡◌ {A = Aim} (record { board = x; algorithms = f; image = i }) (record { board = y; algorithms = g; image = j })
      same_record x y f g i j board algorithms image = cc

pub one_aim : (asked : FilesAsked) (files : FilesGiven) (a b : Aim) → IsAim asked.raw_at files a → IsAim asked.raw_at files b → a ≡ b
one_aim asked files a b one two = one_read asked.raw_at files a b one.are_read two.are_read

-- The stages at which files are refused.

-- a refusal, by the stage at which it comes
data Stage (asked : FilesAsked) (files : FilesGiven) (r : Refusal) : Type 0 where
  at_board : (fault : BoardFault) → r ≡ board_refused fault → reading files.board ≡ Err fault → Stage asked files r
  at_names : r ≡ usage → HasNoImage files → Stage asked files r
  at_algorithms : HasNoTarget files r → Stage asked files r
  at_images : (name : List ℕ) (fault : AnyFault) → r ≡ image_refused name fault → HasWrongImage asked files name fault → Stage asked files r
  at_place : (fault : ImageFault) → r ≡ image_misplaced fault → IsMisplaced asked.raw_at files fault → Stage asked files r

module _ (asked : FilesAsked) (files : FilesGiven) where
  stage_of : (r : Refusal) → IsRefused asked files r → Stage asked files r
  stage_of (board_refused fault) is = at_board fault refl is
  stage_of usage is = at_names refl is
  stage_of (flm_refused fault) is = at_algorithms is
  stage_of (other_device base size) is = at_algorithms is
  stage_of (no_room need have) is = at_algorithms is
  stage_of (image_refused name fault) is = at_images name fault refl is
  stage_of (image_misplaced fault) is = at_place fault refl is
  stage_of r is = absurd is

  board_or_refused : (b : board.Shown) (fault : BoardFault) → IsBoard files.board b → reading files.board ≡ Err fault → ⊥
  board_or_refused b fault is isn't = cc

  -- a board with a name left for an image isn't refused for its names
  enough_or_not : (b : board.Shown) → IsBoardOf files b → HasNoImage files → ⊥
  enough_or_not b is none =
      let same = one_board files.board none.board b none.is_board is.is_board in
      let leaves = subst (λ (x : board.Shown). LeavesNoImage files x) same none.leaves in
      omega (arith, leaves.few, is.enough leaves.has_flm)

  -- files with an algorithm for each region aren't refused for their algorithms
  target_or_refused : (b : board.Shown) (algorithms : List flm.Shown) (r : Refusal) → IsBoardOf files b
      → AreFor b b.regions (flm_files files.flm files.images b) algorithms → HasNoTarget files r → ⊥
  target_or_refused b algorithms r is are none =
      let same = one_board files.board none.has_board.board b none.has_board.is_board.is_board is.is_board in
      target_or_none b b.regions (flm_files files.flm files.images b) algorithms r are
      (subst (λ (x : board.Shown). AreNotFor x x.regions (flm_files files.flm files.images x) r) same none.are_not)

  one_no_target_of : (r s : Refusal) → HasNoTarget files r → HasNoTarget files s → r ≡ s
  one_no_target_of r s one two =
      let b = two.has_board.board in
      let same = one_board files.board one.has_board.board b one.has_board.is_board.is_board two.has_board.is_board.is_board in
      one_no_target b b.regions (flm_files files.flm files.images b) r s
      (subst (λ (x : board.Shown). AreNotFor x x.regions (flm_files files.flm files.images x) r) same one.are_not) two.are_not

  -- files that are read aren't refused for an image
  images_or_wrong : (aim : Aim) (name : List ℕ) (fault : AnyFault) → AreRead asked.raw_at files aim → HasWrongImage asked files name fault → ⊥
  images_or_wrong aim name fault are wrong =
      let mine = wrong.has_target.has_board in
      let same = one_board files.board mine.board aim.board mine.is_board.is_board are.board.is_board in
      images_or_refused asked.raw_at (image_files files.flm asked.images aim.board) (image_files files.flm files.images aim.board) name fault aim.image
      (subst (λ (b : board.Shown). IsImageRefused asked.raw_at (image_files files.flm asked.images b) (image_files files.flm files.images b) name fault) same
      wrong.is_wrong)
      are.union

  one_wrong : (x y : List ℕ) (a b : AnyFault) → HasWrongImage asked files x a → HasWrongImage asked files y b → image_refused x a ≡ image_refused y b
  one_wrong x y a b one two =
      let mine = one.has_target.has_board in
      let its = two.has_target.has_board in
      let same = one_board files.board mine.board its.board mine.is_board.is_board its.is_board.is_board in
      let equal = one_image_refused asked.raw_at (image_files files.flm asked.images its.board) (image_files files.flm files.images its.board) x y a b
      (subst (λ (b : board.Shown). IsImageRefused asked.raw_at (image_files files.flm asked.images b) (image_files files.flm files.images b) x a) same
      one.is_wrong)
      two.is_wrong in
      let names_are = equal.name in
      let faults_are = equal.fault in
      cc

  misplaced_again : (a b : Aim) (fault : ImageFault) → AreRead asked.raw_at files a → AreRead asked.raw_at files b
      → IsPlaceFault a.image (ranges_of a.board.regions) fault
      → IsPlaceFault b.image (ranges_of b.board.regions) fault
  misplaced_again a b fault one two is =
      subst (λ (x : Aim). IsPlaceFault x.image (ranges_of x.board.regions) fault) (one_read asked.raw_at files a b one two) is

  -- files that are read can only be refused for the place of their union
  read_or_refused : (aim : Aim) (r : Refusal) → AreRead asked.raw_at files aim → ((fault : ImageFault) → IsMisplaced asked.raw_at files fault → ⊥)
      → Stage asked files r → ⊥
  read_or_refused aim r are place (at_board fault is isn't) = board_or_refused aim.board fault are.board.is_board isn't
  read_or_refused aim r are place (at_names is none) = enough_or_not aim.board are.board none
  read_or_refused aim r are place (at_algorithms none) = target_or_refused aim.board aim.algorithms r are.board are.algorithms none
  read_or_refused aim r are place (at_images name fault is wrong) = images_or_wrong aim name fault are wrong
  read_or_refused aim r are place (at_place fault is misplaced) = place fault misplaced

  -- files that are right aren't refused
  pub aim_or_refused : (aim : Aim) (r : Refusal) → IsAim asked.raw_at files aim → IsRefused asked files r → ⊥
  aim_or_refused aim r is refused = read_or_refused aim r is.are_read
      (λ fault misplaced. inside_or_fault aim.image (ranges_of aim.board.regions) fault is.inside
      (misplaced_again misplaced.aim aim fault misplaced.are_read is.are_read misplaced.is_fault))
      (stage_of r refused)

  -- files aren't refused for two reasons
  one_stage : (r s : Refusal) → Stage asked files r → Stage asked files s → r ≡ s
  one_stage r s (at_board a is one) (at_board b its two) = let same : a ≡ b = cc in is ∙ ap board_refused same ∙ sym its
  one_stage r s (at_board a is one) (at_names its two) = absurd (board_or_refused two.board a two.is_board one)
  one_stage r s (at_board a is one) (at_algorithms two) = absurd (board_or_refused two.has_board.board a two.has_board.is_board.is_board one)
  one_stage r s (at_board a is one) (at_images name b its two) =
      absurd (board_or_refused two.has_target.has_board.board a two.has_target.has_board.is_board.is_board one)
  one_stage r s (at_board a is one) (at_place b its two) = absurd (board_or_refused two.aim.board a two.are_read.board.is_board one)
  one_stage r s (at_names is one) (at_board b its two) = absurd (board_or_refused one.board b one.is_board two)
  one_stage r s (at_names is one) (at_names its two) = is ∙ sym its
  one_stage r s (at_names is one) (at_algorithms two) = absurd (enough_or_not two.has_board.board two.has_board.is_board one)
  one_stage r s (at_names is one) (at_images name b its two) =
      absurd (enough_or_not two.has_target.has_board.board two.has_target.has_board.is_board one)
  one_stage r s (at_names is one) (at_place b its two) = absurd (enough_or_not two.aim.board two.are_read.board one)
  one_stage r s (at_algorithms one) (at_board b its two) = absurd (board_or_refused one.has_board.board b one.has_board.is_board.is_board two)
  one_stage r s (at_algorithms one) (at_names its two) = absurd (enough_or_not one.has_board.board one.has_board.is_board two)
  one_stage r s (at_algorithms one) (at_algorithms two) = one_no_target_of r s one two
  one_stage r s (at_algorithms one) (at_images name b its two) =
      let has = two.has_target in absurd (target_or_refused has.has_board.board has.algorithms r has.has_board.is_board has.are_for one)
  one_stage r s (at_algorithms one) (at_place b its two) =
      absurd (target_or_refused two.aim.board two.aim.algorithms r two.are_read.board two.are_read.algorithms one)
  one_stage r s (at_images name a is one) (at_board b its two) =
      absurd (board_or_refused one.has_target.has_board.board b one.has_target.has_board.is_board.is_board two)
  one_stage r s (at_images name a is one) (at_names its two) =
      absurd (enough_or_not one.has_target.has_board.board one.has_target.has_board.is_board two)
  one_stage r s (at_images name a is one) (at_algorithms two) =
      let has = one.has_target in absurd (target_or_refused has.has_board.board has.algorithms s has.has_board.is_board has.are_for two)
  one_stage r s (at_images x a is one) (at_images y b its two) = is ∙ one_wrong x y a b one two ∙ sym its
  one_stage r s (at_images name a is one) (at_place b its two) = absurd (images_or_wrong two.aim name a two.are_read one)
  one_stage r s (at_place a is one) (at_board b its two) = absurd (board_or_refused one.aim.board b one.are_read.board.is_board two)
  one_stage r s (at_place a is one) (at_names its two) = absurd (enough_or_not one.aim.board one.are_read.board two)
  one_stage r s (at_place a is one) (at_algorithms two) =
      absurd (target_or_refused one.aim.board one.aim.algorithms s one.are_read.board one.are_read.algorithms two)
  one_stage r s (at_place a is one) (at_images name b its two) = absurd (images_or_wrong one.aim name b one.are_read two)
  one_stage r s (at_place a is one) (at_place b its two) =
      is ∙ ap image_misplaced (one_place_fault two.aim.image (ranges_of two.aim.board.regions) a b
      (misplaced_again one.aim two.aim a one.are_read two.are_read one.is_fault) two.is_fault) ∙ sym its

  pub one_refusal : (a b : Refusal) → IsRefused asked files a → IsRefused asked files b → a ≡ b
  one_refusal a b one two = one_stage a b (stage_of a one) (stage_of b two)
