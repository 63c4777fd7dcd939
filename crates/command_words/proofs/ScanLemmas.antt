-- The words after the name of a command, and what they were read as.
use Rattle.std.proofs.Common.{◌≡◌, ◌∙◌, sym, ap, subst, refl, arith, inl, inr, ⊎_elim, Bool, true, false, cond, ℕ, List, [], ◌∷◌, ◌++◌, slice_index, codes}
use Rattle.std.proofs.Common.{Option, Some, None}
use Rattle.std.proofs.lemmas.List.{append_assoc, append-nil}
use Rattle.std.proofs.lemmas.Option.{same_Some}
use Rattle.std.proofs.lemmas.Slice.Eq.{bytes_eq-Decides}
use Rattle.std.specs.Str.{bytes_eq}
use Rattle.std.specs.Str.Parse.{IsNumeral}
use Rattle.clap.specs.Lexer.{long_of, short_of}
use Rattle.command_line.specs.Scan.{Said, scan, scan_address, other, address}
use Rattle.command_line.proofs.Spelled.{IsUnflagged, unflagged, no_flag, flag_is, attached_is}
use Rattle.command_words.specs.Lines.{Gives}
use Rattle.command_words.specs.Words.{IsOption, HasNoOption, dashes, raw_at_name, raw_at_equals, AllPositional, EndedByDashes, Positional, IsAddress}
use Rattle.command_words.specs.Words.{IsHexadecimal, IsDecimal, InTwoWords, InOneWord, IsRawAt, HasRawAt, AreArguments}
use Rattle.command_words.proofs.ArgumentLemmas.{Words, IsPlain, plain-head, plain-tail, plain-append, plain-one, positional_before, positional_behind}
use Rattle.command_words.proofs.ArgumentLemmas.{one_address}

-- Words that are no option.

plain_word : (w : List ℕ) → IsPlain w → IsUnflagged w
plain_word w plain = unflagged w (λ first long. plain (first, long))

unflagged_word : (w : List ℕ) → IsUnflagged w → IsPlain w
unflagged_word w is option = no_flag w is option.0 option.1

-- no address is an option

plain_decimal : (w : List ℕ) → IsNumeral 10 w → IsPlain w
plain_decimal [] numeral option = omega (arith, option.1)
plain_decimal (x ∷ xs) numeral option =
    let hyphen : IsNumeral 10 (45 ∷ xs) = subst (λ (c : ℕ). IsNumeral 10 (c ∷ xs)) option.0 numeral in omega (arith, hyphen.1.0)

plain_address : (w : List ℕ) (at : ℕ) → IsAddress w at → IsPlain w
plain_address w at is = ⊎_elim
    (λ (hex : IsHexadecimal w at) (option : IsOption w). omega (arith, option.0, ap (λ (v : List ℕ). slice_index v 0) hex.word_is))
    (λ (decimal : IsDecimal w at). plain_decimal w decimal.numeral)
    is

-- What words are read as.

scan_plain : (raws names : Words) (w : List ℕ) (ws : Words) → IsPlain w → scan raws names (w ∷ ws) ≡ scan raws (names ++ w ∷ []) ws
scan_plain raws names w ws plain = let is = plain_word w plain in rw (is.others, is.long, is.short) refl

scan_before : (before : Words) (raws names ws : Words) → HasNoOption before → scan raws names (before ++ ws) ≡ scan raws (names ++ before) ws
scan_before [] raws names ws plain = ap (λ (n : Words). scan raws n ws) (sym (append-nil names))
scan_before (w ∷ before) raws names ws plain =
    scan_plain raws names w (before ++ ws) (plain-head w before plain) ∙ scan_before before raws (names ++ w ∷ []) ws (plain-tail w before plain)
    ∙ ap (λ (n : Words). scan raws n ws) (append_assoc names (w ∷ []) before)

scan_dashes : (raws names ws : Words) → scan raws names (dashes ∷ ws) ≡ Some (raws, names ++ ws)
scan_dashes raws names ws = refl

scan_positional : (words names : Words) → Positional words names → (raws before : Words) → scan raws before words ≡ Some (raws, before ++ names)
scan_positional words names positional raws before = ⊎_elim
    (λ (all : AllPositional words names).
    ap (λ (w : Words). scan raws before w) (sym (append-nil words)) ∙ scan_before words raws before [] all.plain
    ∙ ap (λ (n : Words). Some (raws, before ++ n)) (sym all.all))
    (λ (ended : EndedByDashes words names).
    ap (λ (w : Words). scan raws before w) ended.words_are ∙ scan_before ended.before raws before (dashes ∷ ended.after) ended.plain
    ∙ scan_dashes raws (before ++ ended.before) ended.after
    ∙ ap (λ (n : Words). Some (raws, n)) (append_assoc before ended.before ended.after ∙ ap (λ (n : Words). before ++ n) (sym ended.others)))
    positional

-- the option gives one address
record GivesOne (option : Words) (at : ℕ) : Type 0 where
  pub address : List ℕ
  pub is_address : IsAddress address at
  pub scans : (raws names rest : Words) → scan raws names (option ++ rest) ≡ scan (raws ++ address ∷ []) names rest

scan_two : (raws names rest : Words) (word : List ℕ) → IsPlain word → scan raws names (raw_at_name ∷ word ∷ rest) ≡ scan (raws ++ word ∷ []) names rest
scan_two raws names rest word plain = let is = plain_word word plain in rw (is.others, is.long, is.short) refl

scan_one : (raws names rest : Words) (word : List ℕ) → scan raws names ((raw_at_equals ++ word) ∷ rest) ≡ scan (raws ++ word ∷ []) names rest
scan_one raws names rest word = refl

gives_one : (option : Words) (at : ℕ) → IsRawAt option at → GivesOne option at
gives_one option at is = ⊎_elim
    (λ (two : InTwoWords option at). record {
      address = two.address;
      is_address = two.is_address;
      scans = λ raws names rest. ap (λ (o : Words). scan raws names (o ++ rest)) two.words_are
          ∙ scan_two raws names rest two.address (plain_address two.address at two.is_address);
    })
    (λ (one : InOneWord option at). record {
      address = one.address;
      is_address = one.is_address;
      scans = λ raws names rest. ap (λ (o : Words). scan raws names (o ++ rest)) one.words_are ∙ scan_one raws names rest one.address;
    })
    is

-- the words are read as these addresses and names
pub record IsReadSo (words : Words) (raw_at : Option ℕ) (names : Words) : Type 0 where
  pub addresses : Words
  pub gives : Gives addresses raw_at
  pub scans : scan [] [] words ≡ Some (addresses, names)

pub arguments_read : (words : Words) (raw_at : Option ℕ) (names : Words) → AreArguments words raw_at names → IsReadSo words raw_at names
arguments_read words None names are = record { addresses = []; gives = tt; scans = scan_positional words names are [] [] }
arguments_read words (Some at) names has =
    let option = gives_one has.option at has.is_option in
    let behind = positional_behind has.before has.after names has.plain has.others in
    record {
      addresses = option.address ∷ [];
      gives = option.is_address;
      scans = ap (λ (w : Words). scan [] [] w) has.words_are ∙ scan_before has.before [] [] (has.option ++ has.after) has.plain
          ∙ option.scans [] has.before has.after ∙ scan_positional has.after behind.rest behind.positional (option.address ∷ []) has.before
          ∙ ap (λ (n : Words). Some (option.address ∷ [], n)) (sym behind.names_are);
    }

-- What words are that were read in this way.

-- with one valid address the words have the option once; with more addresses they have too many
abbrev Reads : Words → Words → Words → Type 0
Reads ws [] names = Positional ws names
Reads ws (address ∷ []) names = (at : ℕ) → IsAddress address at → HasRawAt ws at names
Reads ws (a ∷ b ∷ rest) names = Unit {0}

reads_plain : (w : List ℕ) (ws addresses names : Words) → IsPlain w → Reads ws addresses names → Reads (w ∷ ws) addresses (w ∷ names)
reads_plain w ws [] names plain reads = positional_before (w ∷ []) ws names (plain-one w plain) reads
reads_plain w ws (a ∷ []) names plain reads = λ at is. let has = reads at is in record {
  before = w ∷ has.before;
  option = has.option;
  after = has.after;
  words_are = ap (λ (l : Words). w ∷ l) has.words_are;
  is_option = has.is_option;
  plain = plain-append (w ∷ []) has.before (plain-one w plain) has.plain;
  others = positional_before (w ∷ []) (has.before ++ has.after) names (plain-one w plain) has.others;
}
reads_plain w ws (a ∷ b ∷ rest) names plain reads = tt

reads_option : (option : Words) (a : List ℕ) (ws addresses names : Words) → ((at : ℕ) → IsAddress a at → IsRawAt option at)
    → Reads ws addresses names → Reads (option ++ ws) (a ∷ addresses) names
reads_option option a ws [] names is reads = λ at address. record {
  before = [];
  option = option;
  after = ws;
  words_are = refl;
  is_option = is at address;
  plain = λ k d less. absurd (omega (arith, less));
  others = reads;
}
reads_option option a ws (b ∷ rest) names is reads = tt

-- the words are read after these addresses and names
record IsRead (ws raws names : Words) (said : Said) : Type 0 where
  pub addresses : Words
  pub more : Words
  pub addresses_are : said.0 ≡ raws ++ addresses
  pub names_are : said.1 ≡ names ++ more
  pub reads : Reads ws addresses more

-- the word after `--raw-at`, and what follows
record IsReadBehind (ws raws names : Words) (said : Said) : Type 0 where
  pub word : List ℕ
  pub rest : Words
  pub words_are : ws ≡ word ∷ rest
  pub read : IsRead rest (raws ++ word ∷ []) names said

abbrev SoundAt : Words → Type 0
SoundAt ws = (raws names : Words) (said : Said) → scan raws names ws ≡ Some said → IsRead ws raws names said

abbrev SoundBehind : Words → Type 0
SoundBehind ws = (raws names : Words) (said : Said) → scan_address raws names ws ≡ Some said → IsReadBehind ws raws names said

read_end : (raws names : Words) (said : Said) → Some (raws, names) ≡ Some said → IsRead [] raws names said
read_end raws names said e =
    let same : (raws, names) ≡ said = same_Some _ _ e in
    record {
      addresses = [];
      more = [];
      addresses_are = sym (append-nil raws ∙ ap (λ (s : Said). s.0) same);
      names_are = sym (append-nil names ∙ ap (λ (s : Said). s.1) same);
      reads = inl (record { plain = λ k d less. absurd (omega (arith, less)); all = refl });
    }

read_dashes : (raws names : Words) (w : List ℕ) (ws : Words) (said : Said) → bytes_eq w dashes ≡ true → Some (raws, names ++ ws) ≡ Some said
    → IsRead (w ∷ ws) raws names said
read_dashes raws names w ws said d e =
    let same : (raws, names ++ ws) ≡ said = same_Some _ _ e in
    let is : w ≡ dashes = (bytes_eq-Decides w dashes).0 d in
    record {
      addresses = [];
      more = ws;
      addresses_are = sym (append-nil raws ∙ ap (λ (s : Said). s.0) same);
      names_are = sym (ap (λ (s : Said). s.1) same);
      reads = inr (record {
        before = [];
        after = ws;
        plain = λ k d less. absurd (omega (arith, less));
        words_are = ap (λ (v : List ℕ). v ∷ ws) is;
        others = refl;
      });
    }

-- one more option
read_more : (raws names : Words) (option : Words) (a : List ℕ) (ws : Words) (said : Said) → ((at : ℕ) → IsAddress a at → IsRawAt option at)
    → IsRead ws (raws ++ a ∷ []) names said → IsRead (option ++ ws) raws names said
read_more raws names option a ws said is read = record {
  addresses = a ∷ read.addresses;
  more = read.more;
  addresses_are = read.addresses_are ∙ append_assoc raws (a ∷ []) read.addresses;
  names_are = read.names_are;
  reads = reads_option option a ws read.addresses read.more is read.reads;
}

read_attached : (raws names : Words) (w nm v : List ℕ) (ws : Words) (said : Said) (b : Bool) → b ≡ bytes_eq (codes "raw-at") nm → long_of w ≡ Some (nm, Some v)
    → SoundAt ws → cond b (scan (raws ++ v ∷ []) names ws) None ≡ Some said → IsRead (w ∷ ws) raws names said
read_attached raws names w nm v ws said true n l sound e =
    let is : w ≡ raw_at_equals ++ v = attached_is w nm v l (sym n) in
    read_more raws names (w ∷ []) v ws said
    (λ at address. inr (record { address = v; words_are = ap (λ (x : List ℕ). x ∷ []) is; is_address = address }))
    (sound (raws ++ v ∷ []) names said e)
read_attached raws names w nm v ws said false n l sound e = let bad : None ≡ Some said = e in absurd (cc)

read_flag : (raws names : Words) (w nm : List ℕ) (ws : Words) (said : Said) (b : Bool) → b ≡ bytes_eq (codes "raw-at") nm → long_of w ≡ Some (nm, None)
    → SoundBehind ws → cond b (scan_address raws names ws) None ≡ Some said → IsRead (w ∷ ws) raws names said
read_flag raws names w nm ws said true n l sound e =
    let is : w ≡ raw_at_name = flag_is w nm l (sym n) in
    let behind = sound raws names said e in
    subst (λ (rest : Words). IsRead (w ∷ rest) raws names said) (sym behind.words_are)
    (read_more raws names (w ∷ behind.word ∷ []) behind.word behind.rest said
    (λ at address. inl (record { address = behind.word; words_are = ap (λ (x : List ℕ). x ∷ behind.word ∷ []) is; is_address = address }))
    behind.read)
read_flag raws names w nm ws said false n l sound e = let bad : None ≡ Some said = e in absurd (cc)

read_word : (raws names : Words) (w : List ℕ) (ws : Words) (said : Said) (d : Bool) (found : Option (List ℕ × Option (List ℕ))) (flags : Option (List ℕ))
    → d ≡ bytes_eq w dashes → found ≡ long_of w → flags ≡ short_of w → SoundAt ws → SoundBehind ws
    → cond d (Some (raws, names ++ ws)) (other found flags (λ v. scan (raws ++ v ∷ []) names ws) (scan_address raws names ws)
    (scan raws (names ++ w ∷ []) ws)) ≡ Some said
    → IsRead (w ∷ ws) raws names said
read_word raws names w ws said true found flags d l s sound behind e = read_dashes raws names w ws said (sym d) e
read_word raws names w ws said false (Some (nm, Some v)) flags d l s sound behind e =
    read_attached raws names w nm v ws said (bytes_eq (codes "raw-at") nm) refl (sym l) sound e
read_word raws names w ws said false (Some (nm, None)) flags d l s sound behind e =
    read_flag raws names w nm ws said (bytes_eq (codes "raw-at") nm) refl (sym l) behind e
read_word raws names w ws said false None (Some f) d l s sound behind e = let bad : None ≡ Some said = e in absurd (cc)
read_word raws names w ws said false None None d l s sound behind e =
    let read = sound raws (names ++ w ∷ []) said e in
    let plain = unflagged_word w (record { others = sym d; long = sym l; short = sym s }) in
    record {
      addresses = read.addresses;
      more = w ∷ read.more;
      addresses_are = read.addresses_are;
      names_are = read.names_are ∙ append_assoc names (w ∷ []) read.more;
      reads = reads_plain w ws read.addresses read.more plain read.reads;
    }

read_behind : (raws names : Words) (w : List ℕ) (ws : Words) (said : Said) (d : Bool) (found : Option (List ℕ × Option (List ℕ))) (flags : Option (List ℕ))
    → SoundAt ws → cond d None (address found flags (scan (raws ++ w ∷ []) names ws)) ≡ Some said → IsReadBehind (w ∷ ws) raws names said
read_behind raws names w ws said false None None sound e =
    record { word = w; rest = ws; words_are = refl; read = sound (raws ++ w ∷ []) names said e }
read_behind raws names w ws said d found flags sound e = let bad : None ≡ Some said = e in absurd (cc)

mutual
  sound : (ws : Words) → SoundAt ws
  sound [] = λ raws names said e. read_end raws names said e
  sound (w ∷ ws) = λ raws names said e. read_word raws names w ws said (bytes_eq w dashes) (long_of w) (short_of w) refl refl refl (sound ws)
      (sound_behind ws) e

  sound_behind : (ws : Words) → SoundBehind ws
  sound_behind [] = λ raws names said e. let bad : None ≡ Some said = e in absurd (cc)
  sound_behind (w ∷ ws) = λ raws names said e. read_behind raws names w ws said (bytes_eq w dashes) (long_of w) (short_of w) (sound ws) e

-- Both directions, for words that were read as these addresses and names.
module _ (words addresses names : Words) (scans : scan [] [] words ≡ Some (addresses, names)) where
  pub read_arguments : (raw_at : Option ℕ) → Gives addresses raw_at → AreArguments words raw_at names
  read_arguments raw_at gives =
      let read = sound words [] [] (addresses, names) scans in
      let said : Reads words addresses names =
      subst (λ (n : Words). Reads words addresses n) (sym read.names_are)
      (subst (λ (a : Words). Reads words a read.more) (sym read.addresses_are) read.reads) in
      given addresses raw_at gives said where
        given : (a : Words) (r : Option ℕ) → Gives a r → Reads words a names → AreArguments words r names
        given [] None gives said = said
        given [] (Some at) gives said = absurd gives
        given (x ∷ []) None gives said = absurd gives
        given (x ∷ []) (Some at) gives said = said at gives
        given (x ∷ y ∷ rest) None gives said = absurd gives
        given (x ∷ y ∷ rest) (Some at) gives said = absurd gives

  pub record IsGiven (raw_at : Option ℕ) (others : Words) : Type 0 where
    pub gives : Gives addresses raw_at
    pub names_are : names ≡ others

  pub arguments_given : (raw_at : Option ℕ) (others : Words) → AreArguments words raw_at others → IsGiven raw_at others
  arguments_given raw_at others are =
      let read = arguments_read words raw_at others are in
      let same : (addresses, names) ≡ (read.addresses, others) = same_Some _ _ (sym scans ∙ read.scans) in
      record {
        gives = subst (λ (a : Words). Gives a raw_at) (sym (ap (λ (s : Said). s.0) same)) read.gives;
        names_are = ap (λ (s : Said). s.1) same;
      }

-- the words give at most one address
pub one_given : (addresses : Words) (a b : Option ℕ) → Gives addresses a → Gives addresses b → a ≡ b
one_given [] None None one two = refl
one_given [] None (Some b) one two = absurd two
one_given (x ∷ []) (Some a) None one two = absurd two
one_given (x ∷ []) (Some a) (Some b) one two = ap (λ (n : ℕ). Some n) (one_address x a b one two)
one_given addresses a b one two = absurd one

-- Words have one option, or none, and one list of names.

pub record IsSameArguments (a b : Option ℕ) (xs ys : Words) : Type 0 where
  pub raw_at : a ≡ b
  pub names : xs ≡ ys

pub one_arguments : (words : Words) (a b : Option ℕ) (xs ys : Words) → AreArguments words a xs → AreArguments words b ys → IsSameArguments a b xs ys
one_arguments words a b xs ys one two =
    let read = arguments_read words a xs one in
    let given = arguments_given words read.addresses xs read.scans b ys two in
    record { raw_at = one_given read.addresses a b read.gives given.gives; names = given.names_are }
