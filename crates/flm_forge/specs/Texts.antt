-- The texts of the algorithms A1 to A7, which program flash by the controller FC1, and of F1, which uses FPEC. Each is a list of lines,
-- with the address of the controller's registers as a constant. A1 and F1 do what an algorithm has to do. The comments say how each other
-- kind differs from A1.
use Rattle.std.specs.Prelude.{ℕ, List, [], ◌∷◌, ◌++◌, codes}
use Rattle.std.specs.List.{flat_map}
use Rattle.octets.specs.Digit.{hex_text}
use Rattle.flm_forge.specs.declared.kind.Kind.{Kind}
use Rattle.flm_forge.specs.declared.kind.Kind.TheVariants.{A2, A3, A4, A5, A6, A7, F1}

-- the text of a list of lines: a line feed ends each line
abbrev pub text_of : List (List ℕ) → List ℕ
text_of lines = flat_map (λ line. line ++ 10 ∷ []) lines

-- the lines of Init: it opens the registers with both keys
abbrev pub init_lines : Kind → List (List ℕ)
init_lines F1 =
    codes "Init: LDR R3, base" ∷ codes "LDR R1, key1" ∷ codes "STR R1, [R3, #4]" ∷ codes "LDR R1, key2"
    ∷ codes "STR R1, [R3, #4]" ∷ codes "MOVS R0, #0" ∷ codes "BX LR" ∷ []
init_lines _ =
    codes "Init: LDR R3, base" ∷ codes "LDR R1, key1" ∷ codes "STR R1, [R3, #0]" ∷ codes "LDR R1, key2"
    ∷ codes "STR R1, [R3, #0]" ∷ codes "MOVS R0, #0" ∷ codes "BX LR" ∷ []

-- the first line of UnInit, which locks the registers; A4 branches to `lie_lines` instead
abbrev pub un_init_first : Kind → List ℕ
un_init_first A4 = codes "UnInit: B lie"
un_init_first _ = codes "UnInit: LDR R3, base"

abbrev pub un_init_lines : Kind → List (List ℕ)
un_init_lines F1 = codes "MOVS R0, #0x80" ∷ codes "STR R0, [R3, #16]" ∷ codes "MOVS R0, #0" ∷ codes "BX LR" ∷ []
un_init_lines _ = codes "MOVS R0, #0" ∷ codes "STR R0, [R3, #0]" ∷ codes "BX LR" ∷ []

-- the lines of EraseChip: operation 3, or MER; A2 only answers 0
abbrev pub erase_chip_lines : Kind → List (List ℕ)
erase_chip_lines A2 = codes "EraseChip: MOVS R0, #0" ∷ codes "BX LR" ∷ []
erase_chip_lines F1 = codes "EraseChip: MOVS R2, #4" ∷ codes "B erase" ∷ []
erase_chip_lines _ = codes "EraseChip: MOVS R2, #3" ∷ codes "B erase" ∷ []

-- the lines of EraseSector: operation 2, or PER. A2 only answers 0, A3 never ends, A5 erases at an address 256 off, A6 only answers 1, and
-- A7 leaves the code.
abbrev pub erase_sector_lines : Kind → List (List ℕ)
erase_sector_lines A2 = codes "EraseSector: MOVS R0, #0" ∷ codes "erase: BX LR" ∷ []
erase_sector_lines A3 = codes "EraseSector: B EraseSector" ∷ codes "erase: LDR R3, base" ∷ []
erase_sector_lines A5 =
    codes "EraseSector: MOVS R1, #1" ∷ codes "LSLS R1, R1, #8" ∷ codes "EORS R0, R1" ∷ codes "MOVS R2, #2"
    ∷ codes "erase: LDR R3, base" ∷ []
erase_sector_lines A6 = codes "EraseSector: MOVS R0, #1" ∷ codes "erase: BX LR" ∷ []
erase_sector_lines A7 = codes "EraseSector: MOVS R2, #0" ∷ codes "erase: BX R2" ∷ []
erase_sector_lines _ = codes "EraseSector: MOVS R2, #2" ∷ codes "erase: LDR R3, base" ∷ []

-- the lines of both erase functions: they start the operation, wait for its end, clear the status bits, and answer 1 after an error
abbrev pub erase_lines : Kind → List (List ℕ)
erase_lines F1 =
    codes "STR R2, [R3, #16]" ∷ codes "STR R0, [R3, #20]" ∷ codes "MOVS R1, #0x40" ∷ codes "ORRS R1, R2"
    ∷ codes "STR R1, [R3, #16]" ∷ codes "wait: LDR R2, [R3, #12]" ∷ codes "MOVS R1, #1" ∷ codes "TST R2, R1"
    ∷ codes "BNE wait" ∷ codes "MOVS R1, #0x34" ∷ codes "ANDS R2, R1" ∷ codes "STR R1, [R3, #12]" ∷ codes "MOVS R0, #0"
    ∷ codes "STR R0, [R3, #16]" ∷ codes "CMP R2, #0x20" ∷ codes "BEQ out" ∷ codes "MOVS R0, #1" ∷ codes "out: BX LR" ∷ []
erase_lines _ =
    codes "STR R2, [R3, #8]" ∷ codes "STR R0, [R3, #12]" ∷ codes "MOVS R1, #1" ∷ codes "STR R1, [R3, #16]"
    ∷ codes "wait: LDR R2, [R3, #4]" ∷ codes "TST R2, R1" ∷ codes "BNE wait" ∷ codes "MOVS R0, #0x1C" ∷ codes "ANDS R0, R2"
    ∷ codes "MOVS R2, #0x1E" ∷ codes "STR R2, [R3, #4]" ∷ codes "CMP R0, #0" ∷ codes "BEQ out" ∷ codes "MOVS R0, #1"
    ∷ codes "out: BX LR" ∷ []

-- the first lines of ProgramPage, which stores two bytes at a time; A2 only answers 0
abbrev pub program_page_first : Kind → List (List ℕ)
program_page_first A2 = codes "ProgramPage: MOVS R0, #0" ∷ codes "BX LR" ∷ []
program_page_first _ = codes "ProgramPage: PUSH {R4, R5, LR}" ∷ codes "LDR R3, base" ∷ []

abbrev pub program_page_lines : Kind → List (List ℕ)
program_page_lines F1 =
    codes "MOVS R4, #1" ∷ codes "STR R4, [R3, #16]" ∷ codes "pnext: CMP R1, #0" ∷ codes "BEQ pdone"
    ∷ codes "LDRH R5, [R2, #0]" ∷ codes "STRH R5, [R0, #0]" ∷ codes "pwait: LDR R5, [R3, #12]" ∷ codes "TST R5, R4"
    ∷ codes "BNE pwait" ∷ codes "LSRS R5, R5, #2" ∷ codes "LSLS R5, R5, #29" ∷ codes "BNE pfail" ∷ codes "ADDS R0, #2"
    ∷ codes "ADDS R2, #2" ∷ codes "SUBS R1, #2" ∷ codes "B pnext" ∷ codes "pdone: MOVS R0, #0" ∷ codes "B pout"
    ∷ codes "pfail: MOVS R0, #1" ∷ codes "pout: MOVS R5, #0x34" ∷ codes "STR R5, [R3, #12]" ∷ codes "MOVS R5, #0"
    ∷ codes "STR R5, [R3, #16]" ∷ codes "POP {R4, R5, PC}" ∷ []
program_page_lines _ =
    codes "MOVS R4, #1" ∷ codes "STR R4, [R3, #8]" ∷ codes "pnext: CMP R1, #0" ∷ codes "BEQ pdone" ∷ codes "LDRH R5, [R2, #0]"
    ∷ codes "STRH R5, [R0, #0]" ∷ codes "pwait: LDR R5, [R3, #4]" ∷ codes "TST R5, R4" ∷ codes "BNE pwait"
    ∷ codes "LSRS R5, R5, #2" ∷ codes "LSLS R5, R5, #29" ∷ codes "BNE pfail" ∷ codes "ADDS R0, #2" ∷ codes "ADDS R2, #2"
    ∷ codes "SUBS R1, #2" ∷ codes "B pnext" ∷ codes "pdone: MOVS R0, #0" ∷ codes "B pout" ∷ codes "pfail: MOVS R0, #1"
    ∷ codes "pout: MOVS R5, #0x1E" ∷ codes "STR R5, [R3, #4]" ∷ codes "POP {R4, R5, PC}" ∷ []

-- the lines of Verify: it compares byte by byte, and answers the address of the first byte that differs, or the end
abbrev pub verify_lines : List (List ℕ)
verify_lines =
    codes "Verify: PUSH {R4, LR}" ∷ codes "vnext: CMP R1, #0" ∷ codes "BEQ vout" ∷ codes "LDRB R3, [R0, #0]"
    ∷ codes "LDRB R4, [R2, #0]" ∷ codes "CMP R3, R4" ∷ codes "BNE vout" ∷ codes "ADDS R0, #1" ∷ codes "ADDS R2, #1"
    ∷ codes "SUBS R1, #1" ∷ codes "B vnext" ∷ codes "vout: POP {R4, PC}" ∷ []

-- the lines of A4's UnInit: it erases the chip when it is called after programming, and answers 0
abbrev pub lie_lines : Kind → List (List ℕ)
lie_lines A4 =
    codes "lie: LDR R3, base" ∷ codes "CMP R0, #2" ∷ codes "BNE lied" ∷ codes "MOVS R0, #3" ∷ codes "STR R0, [R3, #8]"
    ∷ codes "MOVS R0, #1" ∷ codes "STR R0, [R3, #16]" ∷ codes "lied: MOVS R0, #0" ∷ codes "BX LR" ∷ []
lie_lines _ = []

-- the lines of the constants: the address of the registers, and the keys
abbrev pub constant_lines : ℕ → List (List ℕ)
constant_lines base =
    codes ".align" ∷ (codes "base: .word 0x" ++ hex_text 8 base) ∷ codes "key1: .word 0x45670123" ∷ codes "key2: .word 0xCDEF89AB" ∷ []

-- all lines of a kind, for a controller with its registers from `base` on
abbrev pub lines : Kind → ℕ → List (List ℕ)
lines kind base =
    init_lines kind ++ (un_init_first kind ∷ (un_init_lines kind ++ (erase_chip_lines kind ++ (erase_sector_lines kind ++ (erase_lines kind
    ++ (program_page_first kind ++ (program_page_lines kind ++ (verify_lines ++ (lie_lines kind ++ constant_lines base)))))))))
