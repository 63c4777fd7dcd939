-- What the files of a command want of the cells.
use Rattle.std.proofs.Common.{◌≡◌, ◌+◌, ◌<◌, ◌≤◌, ◌∙◌, sym, ap, subst, refl, arith, inl, inr, ⊎_elim, ℕ, List, [], ◌∷◌, ◌++◌, map, length, take, drop, get_or}
use Rattle.std.proofs.Common.{slice_get, Option, option_to_list, Some, IsSome, Result, Ok, Err, IfOk, IfErr, ◌≢◌}
use Rattle.std.specs.Result.{result_map_both}
use Rattle.std.proofs.Math.Numerals.{add-one}
use Rattle.std.proofs.lemmas.List.Sums.{sum_by-cons}
use Rattle.byte_map.specs.Image.{Run}
use Rattle.image_more.specs.Any.{IsAnyImage}
use Rattle.image_more.specs.Files.{IsUnionBefore}
use Rattle.image_more.specs.Place.{file_at}
use Rattle.board_file.specs.declared.region.Region.{Region}
use Rattle.board_file.specs.Limits.{size_of}
use Rattle.board_file.specs.Text.{IsBoard}
use Rattle.board_file.specs.Shown as board
use Rattle.flm_descriptor.specs.Shown as flm
use Rattle.flm_descriptor.specs.Flm.{flm_of, IsFlm}
use Rattle.flm_descriptor.specs.declared.fault.FlmFault.{FlmFault}
use Rattle.flm_descriptor.specs.declared.fault.FlmFault.TheVariants as unread
use Rattle.flm_descriptor.specs.declared.algorithm.Algorithm.{Algorithm}
use Rattle.image_set.specs.declared.fault.ImageFault.{ImageFault}
use Rattle.image_set.specs.Ranges.{LiesInside, IsPlaceFault}
use Rattle.report_text.specs.Refusal.{Refusal, out_of_memory, usage, board_refused, flm_refused, other_device, no_room, image_refused}
use Rattle.report_text.specs.Shown.{shown}
use Rattle.report_text.specs.declared.refusal.Refusal as value
use Rattle.report_text.specs.Refused.{of_flm}
use Rattle.command_words.specs.Files.{FilesAsked}
use Rattle.command_files.specs.Inputs.{FilesGiven}
use Rattle.command_files.specs.Files.{others_of, flm_files, image_files, IsOneFor, AreFor, Aim, ranges_of, IsUnionOf, AreRead, IsAim}
use Rattle.command_files.specs.Refused.{LeavesNoImage, IsUnfit, IsUnread, IsNoneFor, AreNotFor, HasBoard, HasTarget, IsMisplaced}
use Rattle.command_files.specs.Steps.{Adds, IsBoardRefusal, IsFlmRefusal, AreFlmRefusal, ReadsAlgorithms, IsImagesRefusal, IsFilesRefusal}

-- the union of images grows by one file
pub union_more : (raw_at : Option ℕ) (files : List (List ℕ)) (done : ℕ) (before after : List Run) (file : List ℕ) → file ≡ file_at files done
    → IsUnionBefore raw_at files done before → Adds raw_at file before after → IsUnionBefore raw_at files (done + 1) after
union_more raw_at files done before after file is is_before adds =
    subst (λ (n : ℕ). IsUnionBefore raw_at files n after) (sym (add-one done)) (record {
      before = before;
      image = adds.image;
      is_before = is_before;
      is_image = subst (λ (f : List ℕ). IsAnyImage raw_at f adds.image) is adds.is_image;
      union = adds.union;
    })

-- The refusals, one after another.

pub board_refusal : (asked : FilesAsked) (files : FilesGiven) (r : Refusal) → IsBoardRefusal files.board r → IsFilesRefusal asked files r
board_refusal asked files out_of_memory is = tt
board_refusal asked files (board_refused fault) is = is
board_refusal asked files r is = absurd is

-- how an FLM file is refused
abbrev pub IsOfFlm : Refusal → Type 0
IsOfFlm (flm_refused fault) = Unit {0}
IsOfFlm (other_device base size) = Unit {0}
IsOfFlm (no_room need have) = Unit {0}
IsOfFlm _ = ⊥

unread_of_flm : (file : List ℕ) (r : Refusal) → IsUnread file r → IsOfFlm r
unread_of_flm file (flm_refused fault) is = tt
unread_of_flm file r is = absurd is

unfit_of_flm : (b : board.Shown) (base size : ℕ) (algorithm : flm.Shown) (r : Refusal) → IsUnfit b base size algorithm r → IsOfFlm r
unfit_of_flm b base size algorithm (other_device told_base told_size) is = tt
unfit_of_flm b base size algorithm (no_room need have) is = tt
unfit_of_flm b base size algorithm r is = absurd is

none_of_flm : (b : board.Shown) (region : Region) (file : List ℕ) (r : Refusal) → IsNoneFor b region file r → IsOfFlm r
none_of_flm b region file r is =
    ⊎_elim (λ unread. unread_of_flm file r unread) (λ unfit. unfit_of_flm b region.base region.size unfit.algorithm r unfit.unfit) is

pub not_of_flm : (b : board.Shown) (regions : List Region) (files : List (List ℕ)) (r : Refusal) → AreNotFor b regions files r → IsOfFlm r
not_of_flm b [] files r is = absurd is
not_of_flm b (region ∷ regions) [] r is = absurd is
not_of_flm b (region ∷ regions) (file ∷ files) r is =
    ⊎_elim (λ none. none_of_flm b region file r none) (λ later. not_of_flm b regions files r later.1) is

pub flm_refusal : (asked : FilesAsked) (files : FilesGiven) (r : Refusal) → (has : HasBoard files)
    → AreFlmRefusal has.board (flm_files files.flm files.images has.board) r → IsFilesRefusal asked files r
flm_refusal asked files out_of_memory has is = tt
flm_refusal asked files (flm_refused fault) has is = record { has_board = has; are_not = is }
flm_refusal asked files (other_device base size) has is = record { has_board = has; are_not = is }
flm_refusal asked files (no_room need have) has is = record { has_board = has; are_not = is }
flm_refusal asked files r has is = absurd (not_of_flm has.board has.board.regions (flm_files files.flm files.images has.board) r is)

pub images_refusal : (asked : FilesAsked) (files : FilesGiven) (r : Refusal) → (has : HasTarget files)
    → IsImagesRefusal asked.raw_at (image_files files.flm asked.images has.has_board.board) (image_files files.flm files.images has.has_board.board) r
    → IsFilesRefusal asked files r
images_refusal asked files out_of_memory has is = tt
images_refusal asked files (image_refused name fault) has is = record { has_target = has; is_wrong = is }
images_refusal asked files r has is = absurd is

-- The files after a board: the FLM files after the first, then the images.

module _ (asked : FilesAsked) (files : FilesGiven) (b : board.Shown) (is_board : IsBoard files.board b) where
  pub names_refusal : (r : Refusal) → r ≡ usage → LeavesNoImage files b → IsFilesRefusal asked files r
  names_refusal r is leaves = subst (λ (x : Refusal). IsFilesRefusal asked files x) (sym is) (record { board = b; is_board = is_board; leaves = leaves })

  module _ (others : ℕ) (front back : List (List ℕ)) (enough : IsSome files.flm → length b.regions ≤ length files.images)
      (count : others ≡ others_of files.flm b.regions) (front_is : front ≡ take others files.images) (back_is : back ≡ drop others files.images) where
    abbrev has_board : HasBoard files
    has_board = record { board = b; is_board = record { is_board = is_board; enough = enough } }

    flms : option_to_list files.flm ++ front ≡ flm_files files.flm files.images b
    flms = ap (λ (l : List (List ℕ)). option_to_list files.flm ++ l) (front_is ∙ ap (λ (n : ℕ). take n files.images) count)

    images : back ≡ image_files files.flm files.images b
    images = back_is ∙ ap (λ (n : ℕ). drop n files.images) count

    pub algorithms_refusal : (r : Refusal) → AreFlmRefusal b (option_to_list files.flm ++ front) r → IsFilesRefusal asked files r
    algorithms_refusal r is = flm_refusal asked files r has_board (subst (λ (l : List (List ℕ)). AreFlmRefusal b l r) flms is)

    module _ (algorithms : List flm.Shown) (are : AreFor b b.regions (option_to_list files.flm ++ front) algorithms) where
      are_for : AreFor b b.regions (flm_files files.flm files.images b) algorithms
      are_for = subst (λ (l : List (List ℕ)). AreFor b b.regions l algorithms) flms are

      pub back_refusal : (names : List (List ℕ)) (r : Refusal) → names ≡ drop others asked.images → IsImagesRefusal asked.raw_at names back r
          → IsFilesRefusal asked files r
      back_refusal names r names_are is =
          images_refusal asked files r (record { has_board = has_board; algorithms = algorithms; are_for = are_for })
          (subst (λ (l : List (List ℕ)). IsImagesRefusal asked.raw_at l (image_files files.flm files.images b) r)
          (names_are ∙ ap (λ (n : ℕ). drop n asked.images) count)
          (subst (λ (l : List (List ℕ)). IsImagesRefusal asked.raw_at names l r) images is))

      module _ (image : List Run) (union : IsUnionOf asked.raw_at back image) where
        abbrev its : Aim
        its = record { board = b; algorithms = algorithms; image = image }

        read : AreRead asked.raw_at files its
        read = record {
          board = record { is_board = is_board; enough = enough };
          algorithms = are_for;
          union = subst (λ (l : List (List ℕ)). IsUnionOf asked.raw_at l image) images union;
        }

        pub is_aim : LiesInside image (ranges_of b.regions) → IsAim asked.raw_at files its
        is_aim inside = record { are_read = read; inside = inside }

        pub is_misplaced : (fault : ImageFault) → IsPlaceFault image (ranges_of b.regions) fault → IsMisplaced asked.raw_at files fault
        is_misplaced fault is = record { aim = its; are_read = read; is_fault = is }

-- The refusals of FLM files in turn.

-- an FLM file is refused, or memory ran out while it was read
pub unread_one : (b : board.Shown) (region : Region) (file : List ℕ) (fault : FlmFault) → (fault ≢ unread.OutOfMemory → flm_of file ≡ Err fault)
    → IsFlmRefusal b region file (of_flm fault)
unread_one b region file unread.OutOfMemory is = tt
unread_one b region file fault is = inl (is (λ wrong. cc))

-- a file is refused because its algorithm isn't for the region
pub unfit_one : (b : board.Shown) (region : Region) (file : List ℕ) (algorithm : flm.Shown) (r : Refusal) → IsFlm file algorithm
    → IsUnfit b region.base region.size algorithm r → IsFlmRefusal b region file r
unfit_one b region file algorithm out_of_memory says unfit = tt
unfit_one b region file algorithm r says unfit = inr (record { algorithm = algorithm; says = says; unfit = unfit })

-- the first FLM file isn't one for its region
pub first_refused : (b : board.Shown) (regions : List Region) (region : Region) (rest : List Region) (file : List ℕ) (files : List (List ℕ)) (r : Refusal)
    → b.regions ≡ region ∷ rest → IsFlmRefusal b region file r → AreFlmRefusal b (file ∷ files) r
first_refused b regions region rest file files out_of_memory is refused = tt
first_refused b regions region rest file files r is refused = subst (λ (rs : List Region). AreNotFor b rs (file ∷ files) r) (sym is) (inl refused)

-- the second FLM file isn't one for its region
pub second_refused : (b : board.Shown) (one two : Region) (file other : List ℕ) (algorithm : flm.Shown) (r : Refusal) → b.regions ≡ one ∷ two ∷ []
    → IsOneFor b one file algorithm → IsFlmRefusal b two other r → AreFlmRefusal b (file ∷ other ∷ []) r
second_refused b one two file other algorithm out_of_memory is first refused = tt
second_refused b one two file other algorithm r is first refused =
    subst (λ (rs : List Region). AreNotFor b rs (file ∷ other ∷ []) r) (sym is) (inr ((algorithm, first), inl refused))

-- The algorithms of FLM files in turn.

-- algorithms were gathered, or memory ran out
pub gathered : {V : Type 0} (items : V → List Algorithm) (b : board.Shown) (files : List (List ℕ)) (algorithms : List Algorithm)
    (result : Result V value.Refusal)
    → IfOk result (λ v. items v ≡ algorithms) → IfErr result (λ e. shown e ≡ out_of_memory) → AreFor b b.regions files (map flm.shown algorithms)
    → ReadsAlgorithms b files (result_map_both items (λ e. e) result)
gathered items b files algorithms (Ok v) ok err are = subst (λ (l : List Algorithm). AreFor b b.regions files (map flm.shown l)) (sym ok) are
gathered items b files algorithms (Err e) ok err are = subst (λ (r : Refusal). AreFlmRefusal b files r) (sym err) tt

-- there are no FLM files
pub none_for : (b : board.Shown) (regions : List Region) (files : List (List ℕ)) → length files ≡ 0 → AreFor b regions files []
none_for b [] [] none = tt
none_for b (region ∷ regions) [] none = tt
none_for b regions (file ∷ files) none = absurd (omega (arith, none))

-- there is one algorithm, for the one region
pub one_is_for : (b : board.Shown) (region : Region) (file : List ℕ) (others : List (List ℕ)) (algorithm : flm.Shown) → b.regions ≡ region ∷ [] → others ≡ []
    → IsOneFor b region file algorithm → AreFor b b.regions (file ∷ others) (algorithm ∷ [])
one_is_for b region file others algorithm is none one =
    subst (λ (fs : List (List ℕ)). AreFor b b.regions (file ∷ fs) (algorithm ∷ [])) (sym none)
    (subst (λ (rs : List Region). AreFor b rs (file ∷ []) (algorithm ∷ [])) (sym is) (one, tt))

-- there is an algorithm for each of two regions
pub two_are_for : (b : board.Shown) (region other : Region) (file : List ℕ) (others : List (List ℕ)) (second : List ℕ) (x y : flm.Shown)
    → b.regions ≡ region ∷ other ∷ [] → others ≡ second ∷ [] → IsOneFor b region file x → IsOneFor b other second y
    → AreFor b b.regions (file ∷ others) (x ∷ y ∷ [])
two_are_for b region other file others second x y is same one two =
    subst (λ (fs : List (List ℕ)). AreFor b b.regions (file ∷ fs) (x ∷ y ∷ [])) (sym same)
    (subst (λ (rs : List Region). AreFor b rs (file ∷ second ∷ []) (x ∷ y ∷ [])) (sym is) (one, (two, tt)))

-- Short lists.

pub only_one : {A : Type 0} (xs : List A) (x : A) → length xs ≡ 1 → slice_get xs 0 ≡ Some x → xs ≡ x ∷ []
only_one [] x one is = absurd (omega (arith, one))
only_one (y ∷ []) x one is = let same : y ≡ x = cc in cc
only_one (y ∷ z ∷ zs) x one is = absurd (omega (arith, one))

pub only_two : {A : Type 0} (xs : List A) (x y : A) → 1 < length xs → length xs ≤ 2 → slice_get xs 0 ≡ Some x → slice_get xs 1 ≡ Some y → xs ≡ x ∷ y ∷ []
only_two [] x y more few first second = absurd (omega (arith, more))
only_two (a ∷ []) x y more few first second = absurd (omega (arith, more))
only_two (a ∷ b ∷ []) x y more few first second =
    let one : a ≡ x = cc in
    let two : b ≡ y = cc in
    cc
only_two (a ∷ b ∷ c ∷ cs) x y more few first second = absurd (omega (arith, few))

pub none_left : {A : Type 0} (xs : List A) → length xs ≡ 0 → xs ≡ []
none_left [] none = refl
none_left (x ∷ xs) none = absurd (omega (arith, none))

-- The cells of one region, and of two.

pub size_of_one : (regions : List Region) (region : Region) → regions ≡ region ∷ [] → size_of regions ≡ region.size
size_of_one regions region only = ap size_of only ∙ omega (arith, sum_by-cons (λ (r : Region). r.size) region [])

pub size_of_two : (regions : List Region) (one two : Region) → regions ≡ one ∷ two ∷ [] → size_of regions ≡ one.size + two.size
size_of_two regions one two are =
    ap size_of are ∙ omega (arith, sum_by-cons (λ (r : Region). r.size) one (two ∷ []), sum_by-cons (λ (r : Region). r.size) two [])

-- a list of one or two elements is those elements
pub exactly_one : {A : Type 0} (xs : List A) (x : A) → length xs ≡ 1 → x ≡ get_or xs 0 x → xs ≡ x ∷ []
exactly_one [] x one is = absurd (omega (arith, one))
exactly_one (y ∷ []) x one is = let same : y ≡ x = sym is in cc
exactly_one (y ∷ z ∷ zs) x one is = absurd (omega (arith, one))

pub exactly_two : {A : Type 0} (xs : List A) (x y : A) → length xs ≡ 2 → x ≡ get_or xs 0 x → y ≡ get_or xs 1 y → xs ≡ x ∷ y ∷ []
exactly_two [] x y two first second = absurd (omega (arith, two))
exactly_two (a ∷ []) x y two first second = absurd (omega (arith, two))
exactly_two (a ∷ b ∷ []) x y two first second =
    let one : a ≡ x = sym first in
    let other : b ≡ y = sym second in
    cc
exactly_two (a ∷ b ∷ c ∷ cs) x y two first second = absurd (omega (arith, two))
